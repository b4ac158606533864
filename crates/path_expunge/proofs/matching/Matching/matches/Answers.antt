use Rattle.std.proofs.Common.{◌≡◌, ◌∙◌, ◌<◌, suc, List, true, false, length, drop, map, sym, ap, arith, add-one}
use Rattle.std.specs.Prelude.{◌||◌}
use Rattle.std.proofs.Math.Seq.{map-set_same}
use Rattle.expunge_laws.specs.Matching.{Matches, matched_by, matches}
use Rattle.path_expunge.specs.Tests.{sought}
use Rattle.path_expunge.proofs.Seeking.{seek}
use Rattle.path_expunge.proofs.matching.Matching.matches.Goals as goal

pub returns-then-matches-clause-matched : goal.returns-then-matches-clause-matched
returns-then-matches-clause-matched c =
    let k = c.loop-place.place in
    let p = c.args.path.now in
    let tests = c.loop-place.self-inside.tests.items in
    let low : k < length tests = let count = c.loop-place.invariant.count in let test = c.loop-place-test.true in let ok = c.index_mut.ensures.value in omega arith in
    let it : matches (sought c.index_mut.result.now) p ≡ true = sym c.matches.ensures.matched ∙ c.if-matches.true in
    sym (
    ap (λ (ms : List Matches). matched_by ms p) (sym c.self.view_is)
    ∙ sym c.loop-place.invariant.rest
    ∙ ap (λ (ms : List Matches). matched_by (drop k ms) p) (sym c.loop-place.invariant.same)
    ∙ seek tests k c.index_mut.result.now p low c.index_mut.ensures.value
    ∙ ap (λ b. b || matched_by (drop (suc k) (map sought tests)) p) it)

pub returns-then-matches-clause-same : goal.returns-then-matches-clause-same
returns-then-matches-clause-same c =
    let tests = c.loop-place.self-inside.tests.items in
    map-set_same sought tests c.loop-place.place c.matches.new.test c.index_mut.result.now (c.matches.ensures.same ∙ ap sought c.index_mut.ensures.value)
    ∙ c.loop-place.invariant.same ∙ c.self.view_is

pub loop-place-preserved : goal.loop-place-preserved
loop-place-preserved c =
    let k = c.loop-place.place in
    let p = c.args.path.now in
    let tests = c.loop-place.self-inside.tests.items in
    let was = map sought c.self.inside.tests.items in
    let low : k < length tests = let count = c.loop-place.invariant.count in let test = c.loop-place-test.true in let ok = c.index_mut.ensures.value in omega arith in
    let it : matches (sought c.index_mut.result.now) p ≡ false = sym c.matches.ensures.matched ∙ c.if-matches.false in
    record {
      same = map-set_same sought tests k c.matches.new.test c.index_mut.result.now (c.matches.ensures.same ∙ ap sought c.index_mut.ensures.value) ∙ c.loop-place.invariant.same;
      count = c.loop-place.invariant.count;
      rest = rw add-one (
          ap (λ (ms : List Matches). matched_by (drop (suc k) ms) p) (sym c.loop-place.invariant.same)
          ∙ sym (seek tests k c.index_mut.result.now p low c.index_mut.ensures.value ∙ ap (λ b. b || matched_by (drop (suc k) (map sought tests)) p) it)
          ∙ ap (λ (ms : List Matches). matched_by (drop k ms) p) c.loop-place.invariant.same
          ∙ c.loop-place.invariant.rest);
    }
