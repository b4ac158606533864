use Rattle.std.proofs.Common.{rules}
use Rattle.std.proofs.lemmas.List.Sorted.{Contains-permutation, IsNonDecreasingBy-from_sort_by_key}
use Rattle.event_arena.proofs.RelinkLemmas.{child_places}
use Rattle.event_arena.proofs.relinking.collect.Goals as goal

pub returns-clause-all : goal.returns-clause-all
returns-clause-all c = λ it x known k e at child.
    Contains-permutation _ _ k c.sort_unstable_by_key.ensures.permutation
    (child_places x c.args.touched.now c.args.children c.args.table.now _ _ c.count-count.ensures.once (c.push_children.ensures.new c.if-not-push_children.false) c.push_places.ensures.old (c.push_places.ensures.new c.if-not-push_places.false) known k e at child)

pub returns-clause-rising : goal.returns-clause-rising
returns-clause-rising c = λ it. IsNonDecreasingBy-from_sort_by_key (λ place. place) _ c.sort_unstable_by_key.ensures.sorted (λ a r q k. search rules)
