use Rattle.std.proofs.Common.{◌∙◌, List, ℕ, subst, sym, ap}
use Rattle.std.specs.List.{AllByRecursion}
use Rattle.plain_model.specs.Lookups.{event_parents}
use Rattle.graph_walk.specs.Joined.{IsBeforePlace}
use Rattle.graph_walk.proofs.ExpansionLemmas.{parents_placed}
use Rattle.graph_walk.proofs.expansion.Expansions.push_removed.Goals as goal

pub push_joined-requires : goal.push_joined-requires
push_joined-requires c =
    let events = c.self.inside.events.now.list in
    let placed = parents_placed events c.args.place c.nth.result.now c.count-count.ensures.sound c.nth.ensures.event in
    subst (λ n. AllByRecursion (IsBeforePlace events n) c.as_slice.result.now) (sym c.requires.next)
    (subst (λ (ps : List ℕ). AllByRecursion (IsBeforePlace events c.args.place) ps) (ap event_parents c.in-Commit.is ∙ sym c.as_slice.ensures) placed)
