-- Events of a kind, counted along a history.
use Rattle.std.proofs.Common.{◌≡◌, ◌∙◌, ℕ, ◌+◌, Bool, true, false, cond, List, [], ◌∷◌, Some, sym, ap, take, arith, add-one}
use Rattle.std.proofs.lemmas.List.Sums.{sum_by-append}
use Rattle.std.specs.List.{count_by}
use Rattle.std.specs.Prelude.{slice_get}
use Rattle.plain_model.specs.declared.event.PlainEvent.{PlainEvent}
use Rattle.event_arena.proofs.ListLemmas.{take_item}

module _ (events : List PlainEvent) (k : ℕ) (e : PlainEvent) (at : slice_get events k ≡ Some e)
    (test : PlainEvent → Bool) (old new : ℕ) where
  one_more : count_by test (take (k + 1) events) ≡ count_by test (take k events) + (0 + cond (test e) 1 0)
  one_more = rw (add-one, take_item events k e at) (sum_by-append (λ x. cond (test x) 1 0) (take k events) (e ∷ []))

  -- one more of the kind
  pub more : test e ≡ true → old ≡ count_by test (take k events) → new ≡ old + 1
      → new ≡ count_by test (take (k + 1) events)
  more it was is = is ∙ ap (λ n. n + 1) was ∙ sym (one_more ∙ rw it (omega arith))

  -- one of another kind
  pub same : test e ≡ false → old ≡ count_by test (take k events) → new ≡ old
      → new ≡ count_by test (take (k + 1) events)
  same no_it was is = is ∙ was ∙ sym (one_more ∙ rw no_it (omega arith))
