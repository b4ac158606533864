use Rattle.std.proofs.Common.{Ok, Err, arith}
use Rattle.byte_patterns.proofs.Judged.{passed_on}
use Rattle.history_machine.specs.PathWords.{matches_of}
use Rattle.load_list.proofs.PathWords.{all_judged, next_word, word_judged, word_refused}
use Rattle.load_list.proofs.path_words.matchers_of.Goals as goal

pub returns-in_err-matcher-clause-judged : goal.returns-in_err-matcher-clause-judged
returns-in_err-matcher-clause-judged g c =
    let sizes = g.P.Patterns.sizes in
    let words = c.args.words.now in
    let i = c.loop-word.word-index in
    passed_on (λ matchers. matchers) (sizes c.args.patterns.now) (sizes c.matcher_of.new.patterns) c.in_err-matcher.field-0.0 c.from_residual-in_err-matcher.result (matches_of words)
    c.from_residual-in_err-matcher.ensures.1
    (c.loop-word.invariant.rest (Err c.in_err-matcher.field-0.0) (sizes c.matcher_of.new.patterns)
    (word_refused (sizes c.loop-word.patterns) (sizes c.matcher_of.new.patterns) c.in_err-matcher.field-0.0 c.loop-word.matchers c.word-item.result _ _
    (next_word words i c.word-item.result c.loop-word-test.true c.word-item.is) (rw c.as_str.ensures at c.in_err-matcher.ensures.judged)))

pub loop-word-preserved : goal.loop-word-preserved
loop-word-preserved g c =
    let sizes = g.P.Patterns.sizes in
    let words = c.args.words.now in
    let i = c.loop-word.word-index in
    record {
      grows = omega (arith, c.loop-word.invariant.grows, c.matcher_of.ensures.grows);
      rest = λ r now h.
          c.loop-word.invariant.rest r now
          (word_judged (sizes c.loop-word.patterns) (sizes c.matcher_of.new.patterns) now r c.loop-word.matchers c.in_ok-matcher.matcher c.word-item.result _ _
          (next_word words i c.word-item.result c.loop-word-test.true c.word-item.is) (rw c.as_str.ensures at c.in_ok-matcher.ensures.judged) c.matcher_of.ensures.grows
          (rw c.in_ok-push.ensures.ok at h));
    }

pub returns-clause-judged : goal.returns-clause-judged
returns-clause-judged g c =
    let sizes = g.P.Patterns.sizes in
    c.loop-word.invariant.rest (Ok c.loop-word.matchers) (sizes c.loop-word.patterns)
    (all_judged (sizes c.loop-word.patterns) (sizes c.loop-word.patterns) c.loop-word.matchers c.args.words.now c.loop-word.word-index c.loop-word-test.false)
