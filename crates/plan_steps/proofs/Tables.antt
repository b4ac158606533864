-- Tables that have an entry for each event of a list, made from the front.
use Rattle.std.proofs.Common.{◌≡◌, ◌∙◌, ℕ, zero, suc, ◌<◌, Bool, false, List, [], ◌∷◌, ◌++◌, Some, refl, sym, ap, subst, inl, inr, length, get_or, take, drop, map, append-nil, arith}
use Rattle.std.proofs.Math.ListN.{drop_of_length-le}
use Rattle.std.proofs.lemmas.Bool.{cases_eq}
use Rattle.std.proofs.lemmas.List.{get_or_append_left, get_or_push, length_push, map-append}
use Rattle.std.proofs.lemmas.Option.{none-some, same_Some, slice_get_within}
use Rattle.std.specs.Prelude.{slice_get}
use Rattle.plain_model.specs.declared.event.PlainEvent.{PlainEvent}
use Rattle.event_arena.proofs.ListLemmas.{take_all, take_item}
use Rattle.plan_steps.specs.Tables.{IsTable, IsTableTo}

-- what stands at a place doesn't hang on what stands past the end
pub any_default : {X : Type 0} (xs : List X) (k : ℕ) (a b : X) → k < length xs → get_or xs k a ≡ get_or xs k b
any_default [] k a b low = absurd (omega arith)
any_default (x ∷ xs) zero a b low = refl
any_default (x ∷ xs) (suc k) a b low = any_default xs k a b (omega arith)

-- a slice of a whole vector that is written back
pub refilled : {X : Type 0} (n : ℕ) (new old : List X) → length new ≡ n → length old ≡ n → take n (new ++ drop (length new) old) ≡ new
refilled n new old a b =
    ap (λ ys. take n (new ++ ys)) (drop_of_length-le old (omega arith)) ∙ ap (take n) (append-nil new)
    ∙ take_all new n (omega arith)

module _ {X : Type 0} (default : X) (ok : PlainEvent → X → Type 0) (events : List PlainEvent) where
  pub table_all : (k : ℕ) (table : List X) → k ≡ length events → IsTableTo default ok events k table → IsTable default ok events table
  table_all k table whole t = record {
    count = t.count ∙ whole;
    entry = λ j e at. t.entry j e at (let low = slice_get_within events j e at in omega arith);
  }

  -- one entry more
  pub table_push : (k : ℕ) (table : List X) (x : X) → IsTableTo default ok events k table →
      ((e : PlainEvent) → slice_get events k ≡ Some e → ok e x) → IsTableTo default ok events (suc k) (table ++ x ∷ [])
  table_push k table x t own = record {
    count = let more = length_push table x in let count = t.count in omega arith;
    entry = λ j e at low. elim (cases_eq j k) [
      | inl here ↦
          let count = t.count in
          subst (ok e) (sym (get_or_push table x default j (omega arith))) (own e (subst (λ i. slice_get events i ≡ Some e) here at))
      | inr other ↦
          let count = t.count in
          subst (ok e) (sym (get_or_append_left table (x ∷ []) default j (omega arith))) (t.entry j e at (omega arith))
    ];
  }

-- ---- flags by a test

pub map_at : (f : PlainEvent → Bool) (es : List PlainEvent) (k : ℕ) (e : PlainEvent) → slice_get es k ≡ Some e → get_or (map f es) k false ≡ f e
map_at f [] k e h = absurd (none-some e h)
map_at f (x ∷ es) zero e h = ap f (same_Some x e h)
map_at f (x ∷ es) (suc k) e h = map_at f es k e h

pub map_push : (f : PlainEvent → Bool) (es : List PlainEvent) (k : ℕ) (e : PlainEvent) → slice_get es k ≡ Some e → map f (take (suc k) es) ≡ map f (take k es) ++ f e ∷ []
map_push f es k e at = ap (map f) (take_item es k e at) ∙ map-append f (take k es) (e ∷ [])
