use Rattle.std.proofs.Common.{◌≡◌, ◌∙◌, Some, sym, ap}
use Rattle.std.specs.Prelude.{slice_get}
use Rattle.event_sets.specs.Sets.{Ids}
use Rattle.selection_eval.proofs.Found.{found_live}
use Rattle.selection_eval.proofs.choosing.one_of.Goals as goal

pub one-requires : goal.one-requires
one-requires c =
    let set = c.args.set.now in
    let at : slice_get set.ids c.args.place ≡ Some c.in-Some.id =
    sym (c.in-Some.ensures ∙ ap (λ (ids : Ids). slice_get ids c.args.place) (c.as_slice.ensures ∙ c.in_ok-ids.ensures)) in
    rw c.events.ensures (found_live set.events set.ids c.args.place c.in-Some.id c.bits-bits.ensures.live at)
