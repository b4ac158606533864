use Rattle.std.proofs.Common.{◌∙◌, List, ℕ, length, arith, ap, subst, sym}
use Rattle.std.specs.List.{AllByRecursion}
use Rattle.plain_model.specs.Lookups.{event_parents}
use Rattle.graph_walk.specs.Joined.{IsBeforePlace}
use Rattle.graph_walk.proofs.ExpansionLemmas.{parents_placed}
use Rattle.graph_walk.proofs.ParentLemmas.{placed_within, unchanged}
use Rattle.graph_walk.proofs.expansion.push_change.Goals as goal

pub join-requires : goal.join-requires
join-requires c =
    let events = c.args.events.now.list in
    let e = c.nth.result.now in
    let placed = parents_placed events c.args.place e c.count-count.ensures.sound c.nth.ensures.event in
    let all = placed_within events c.args.place (length c.args.made.now.entries) (let low = c.requires.within in let count = c.requires.made in omega arith) (event_parents e) placed in
    subst (λ (ps : List ℕ). AllByRecursion (IsBeforePlace events (length c.args.made.now.entries)) ps) (ap event_parents c.in-Commit.is ∙ sym c.as_slice-parents.ensures) all

pub returns-then-not-children-place-clause-ok : goal.returns-then-not-children-place-clause-ok
returns-then-not-children-place-clause-ok c event at =
    unchanged c.args.events.now.list c.args.flags.now c.args.made.now c.args.place event c.args.changes.now
    (c.requires.children.none c.args.place event at c.if-not-children-place.true)
