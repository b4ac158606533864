use Rattle.std.proofs.Common.{subst, sym}
use Rattle.std.specs.List.{Contains}
use Rattle.event_arena.proofs.ListLemmas.{take_all}
use Rattle.event_arena.proofs.places.Places.push_tags.Goals as goal

-- all numbers were gone over
pub returns-clause-all : goal.returns-clause-all
returns-clause-all c = λ n far.
    let numbers = c.numbers-number-items.result.now in
    c.loop-number.invariant.all n (subst (λ ns. Contains ns n) (sym (take_all numbers c.loop-number.number-index c.loop-number-test.false)) (c.numbers-number-items.ensures n far))
