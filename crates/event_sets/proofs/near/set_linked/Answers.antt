use Rattle.std.proofs.Common.{ℕ, List, ◌++◌, ◌∷◌, [], map, subst, sym}
use Rattle.plain_model.specs.Lookups.{children_of}
use Rattle.plain_model.specs.declared.id.AnyId.TheVariants as any
use Rattle.plain_model.specs.declared.event.PlainEvent.{PlainEvent}
use Rattle.event_sets.specs.Around.{linked}
use Rattle.event_sets.specs.Bits.{Adds}
use Rattle.event_sets.proofs.BitLemmas.{adds_more}
use Rattle.event_sets.proofs.near.set_linked.Goals as goal

pub returns-in-Commit-clause-adds : goal.returns-in-Commit-clause-adds
returns-in-Commit-clause-adds c =
    let es = c.args.events.now.list in
    let old = c.args.bits.now.items in
    let own = c.set_bit.new.bits.items in
    let mid = c.set_commits.new.bits.items in
    let new = c.set_children.new.bits.items in
    let parents = map any.Commit c.as_slice.result.now in
    let children = map any.Commit (children_of c.in-Commit.id es) in
    let all : Adds es (any.Commit c.in-Commit.id ∷ (parents ++ children)) old new =
    adds_more es (any.Commit c.in-Commit.id ∷ []) (parents ++ children) old own new c.set_bit.ensures.adds
    (adds_more es parents children own mid new c.set_commits.ensures.adds c.set_children.ensures.adds) in
    subst (λ (e : PlainEvent). Adds es (linked es e) old new) (sym c.in-Commit.is)
    (subst (λ (ps : List ℕ). Adds es (any.Commit c.in-Commit.id ∷ (map any.Commit ps ++ children)) old new)
    c.as_slice.ensures all)
