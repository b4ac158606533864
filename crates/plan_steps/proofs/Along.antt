-- The commits of a set along a list.
use Rattle.std.proofs.Common.{◌≡◌, ◌∙◌, ℕ, suc, Bool, List, [], ◌∷◌, ◌++◌, Some, filter, map, take, ap}
use Rattle.std.specs.Prelude.{slice_get}
use Rattle.std.proofs.lemmas.List.{map-append}
use Rattle.std.proofs.lemmas.List.Elements.{filter-append}
use Rattle.plain_model.specs.declared.id.AnyId.{AnyId}
use Rattle.plain_model.specs.declared.id.AnyId.TheVariants as any
use Rattle.plain_model.specs.declared.event.PlainEvent.{PlainEvent}
use Rattle.plain_model.specs.Histories.{Node, nodes}
use Rattle.plain_model.specs.Lookups.{is_listed}
use Rattle.history_laws.proofs.Commits.{nodes_append}
use Rattle.event_arena.proofs.ListLemmas.{take_item}
use Rattle.commit_laws.specs.Selected.{listed}

module _ (set : List AnyId) where
  abbrev test : Node → Bool
  test n = is_listed (any.Commit n.id) set

  listed_append : (xs ys : List PlainEvent) → listed set (xs ++ ys) ≡ listed set xs ++ listed set ys
  listed_append xs ys =
      ap (λ (ns : List Node). map (λ n. n.id) (filter test ns)) (nodes_append xs ys)
      ∙ ap (map (λ n. n.id)) (filter-append test (nodes xs) (nodes ys))
      ∙ map-append (λ (n : Node). n.id) (filter test (nodes xs)) (filter test (nodes ys))

  -- one event more
  pub listed_more : (es : List PlainEvent) (k : ℕ) (e : PlainEvent) → slice_get es k ≡ Some e → listed set (take (suc k) es) ≡ listed set (take k es) ++ listed set (e ∷ [])
  listed_more es k e is = ap (listed set) (take_item es k e is) ∙ listed_append (take k es) (e ∷ [])
