use Rattle.std.proofs.Common.{◌≡◌, Some, None, lit<, sym, ap, ◌∙◌, [], ◌∷◌}
use Rattle.std.proofs.lemmas.Str.Pattern.{split_parts}
use Rattle.script_lines.specs.Words.{words_of, ends_word}
use Rattle.script_lines.specs.declared.word.Word.TheVariants.{Broken}
use Rattle.script_lines.proofs.WordSteps.{taken, quoted_first, broken_after, broken_open}
use Rattle.script_lines.proofs.words.take_quoted.Goals as goal
use Rattle.script_lines.proofs.words.take_quoted.Goals.{in_default-via-in-Some+else-ends_word, in_default-via-in_default}

pub returns-in_ok-push-in-Some-clause-words : goal.returns-in_ok-push-in-Some-clause-words
returns-in_ok-push-in-Some-clause-words c =
    let after = c.args.after.now in
    let parts = split_parts 34 after (Some (c.in-Some.word, c.in-Some.rest)) c.in-Some.ensures.cases (lit< tt) in
    let ends = ap ends_word (sym c.as_bytes.ensures.value) ∙ sym c.if-ends_word.ensures in
    taken c.args.words.now c.push.new.self _ _ _ c.in_ok-push-in-Some.ensures.ok
    (rw (c.in_ok-of-in-Some.ensures, c.requires) (quoted_first after _ _ parts.0 parts.1 ends))

pub returns-in_ok-push-in_default-clause-words : goal.returns-in_ok-push-in_default-clause-words
returns-in_ok-push-in_default-clause-words c =
    let after = c.args.after.now in
    let broken : words_of (34 ∷ after) ≡ Broken (34 ∷ after) ∷ words_of [] = elim c.in_default.branch [
      | in_default-via-in-Some+else-ends_word w ↦
          let parts = split_parts 34 after (Some (w.in-Some.word, w.in-Some.rest)) w.in-Some.ensures.cases (lit< tt) in
          let ends = ap ends_word (sym w.as_bytes.ensures.value) ∙ sym w.if-ends_word.ensures in
          broken_after after _ _ parts.0 parts.1 ends
      | in_default-via-in_default w ↦ broken_open after (split_parts 34 after None w.in_default.ensures.cases (lit< tt))
    ] in
    taken c.args.words.now c.push-in_default.new.self _ _ _ c.in_ok-push-in_default.ensures.ok
    (rw (c.in_ok-of-in_default.ensures, c.requires) broken)
