use Rattle.std.proofs.Common.{◌≡◌, ◌∙◌, inl, inr, false, ap, arith, add-one}
use Rattle.std.proofs.lemmas.Bool.{cases_lt}
use Rattle.std.specs.Prelude.{slice_index_or}
use Rattle.event_arena.proofs.table.first_flagged.Goals as goal

pub loop-place-preserved : goal.loop-place-preserved
loop-place-preserved c = rw add-one (record {
  within = let t = c.loop-place-test.true in omega arith;
  none = λ k low. elim (cases_lt k c.loop-place.place) [
    | inl before ↦ c.loop-place.invariant.none k before
    | inr here ↦ let same : k ≡ c.loop-place.place = omega arith in ap (λ j. slice_index_or c.args.flags.now j false) same ∙ c.if-not-flags-place.true
  ];
})
