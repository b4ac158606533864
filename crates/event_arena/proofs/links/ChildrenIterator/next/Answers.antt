use Rattle.std.proofs.Common.{◌∙◌, sym, ap, subst, arith, length, reverse}
use Rattle.event_arena.specs.Chains.{follow, chain_at, IsBelow}
use Rattle.event_arena.proofs.ChainLemmas as chains
use Rattle.event_arena.proofs.links.ChildrenIterator.next.Goals as goal

pub invariant_of-self : goal.invariant_of-self
invariant_of-self c =
    let within = subst (IsBelow (length c.self.inside.links.now)) (sym c.place.ensures ∙ c.in-Some.is) c.self.invariant.here in
    record { here = (chains.next_child c.self.inside.links.now c.in-Some.place c.index-self-place.result c.self.invariant.back within).1; back = c.self.invariant.back }

pub returns-in-Some-clause-steps : goal.returns-in-Some-clause-steps
returns-in-Some-clause-steps c =
    let within = subst (IsBelow (length c.self.inside.links.now)) (sym c.place.ensures ∙ c.in-Some.is) c.self.invariant.here in
    sym c.self.view_is ∙ ap (follow (chain_at (reverse c.self.inside.links.now))) (sym c.place.ensures ∙ c.in-Some.is)
    ∙ (chains.next_child c.self.inside.links.now c.in-Some.place c.index-self-place.result c.self.invariant.back within).0

pub returns-in-Some-clause-goes : goal.returns-in-Some-clause-goes
returns-in-Some-clause-goes c =
    let within = subst (IsBelow (length c.self.inside.links.now)) (sym c.place.ensures ∙ c.in-Some.is) c.self.invariant.here in
    let e = sym c.self.view_is ∙ ap (follow (chain_at (reverse c.self.inside.links.now))) (sym c.place.ensures ∙ c.in-Some.is)
    ∙ (chains.next_child c.self.inside.links.now c.in-Some.place c.index-self-place.result c.self.invariant.back within).0 in
    record { on = λ h. (tt, tt, omega (arith, ap length e)); keeps = tt; rests = λ h. tt }
