use Rattle.std.proofs.Common.{◌≡◌, ◌∙◌, ◌+◌, List, sym, subst, true}
use Rattle.plain_model.specs.declared.event.PlainEvent.{PlainEvent}
use Rattle.plain_model.specs.Lookups.{greatest_mark}
use Rattle.plain_model.specs.Soundness.{has_id}
use Rattle.graft_laws.specs.Graft.{grafting}
use Rattle.graft_laws.specs.Joining.{added}
use Rattle.graft_laws.proofs.Behind.{sound_linked}
use Rattle.graft_laws.proofs.GraftDone.{done}
use Rattle.graft_laws.proofs.Marked.{commit_marked}
use Rattle.graft_laws.proofs.Sources.{from_added}
use Rattle.graft_laws.proofs.laws.a_graft_has_no_other_events.Goals as goal

pub returns : goal.returns
returns c prune next name part set base new id sound h there =
    let d = done prune next name part set base new h in
    let how = grafting prune name d.target in
    from_added how next base part (sound_linked part sound) id
    (sym (commit_marked (greatest_mark base + 1) base (added how next part) id) ∙ subst (λ (l : List PlainEvent). has_id l id ≡ true) (sym d.is) there)
