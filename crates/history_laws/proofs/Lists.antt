-- What holds of each item of a list.
use Rattle.std.proofs.Common.{List, [], ◌∷◌, ◌++◌, ◌≡◌, ◌∙◌, ℕ, zero, suc, ◌+◌, ◌<◌, Some, refl, sym, ap, subst, length, arith, map, drop, reverse}
use Rattle.std.proofs.lemmas.List.{drop_more, reverse-append}
use Rattle.std.specs.List.{AllByRecursion}
use Rattle.std.specs.Prelude.{get_or, slice_get}
use Rattle.plain_model.specs.declared.event.PlainEvent.{PlainEvent}

-- what follows of each from what holds of each
pub all_imply : {A : Type 0} (P Q : A → Type 0) → ((x : A) → P x → Q x) → (xs : List A) → AllByRecursion P xs → AllByRecursion Q xs
all_imply P Q f [] h = tt
all_imply P Q f (x ∷ xs) h = (f x h.0, all_imply P Q f xs h.1)

-- what holds of two lists holds of both together
pub all_join : {A : Type 0} (P : A → Type 0) (xs ys : List A) → AllByRecursion P xs → AllByRecursion P ys → AllByRecursion P (xs ++ ys)
all_join P [] ys a b = b
all_join P (x ∷ xs) ys a b = (a.0, all_join P xs ys a.1 b)

-- what holds of a list holds of it reversed
pub all_reverse : {A : Type 0} (P : A → Type 0) (xs : List A) → AllByRecursion P xs → AllByRecursion P (reverse xs)
all_reverse P [] h = tt
all_reverse P (x ∷ xs) h =
    subst (AllByRecursion P) (sym (reverse-append (x ∷ []) xs)) (all_join P (reverse xs) (x ∷ []) (all_reverse P xs h.1) (h.0, tt))

-- the item at a place, and those after it
pub next_item : {A : Type 0} (xs : List A) (i : ℕ) (x : A) → i < length xs → x ≡ get_or xs i x → drop i xs ≡ x ∷ drop (i + 1) xs
next_item xs i x low is = drop_more xs i x low ∙ ap (λ y. y ∷ drop (i + 1) xs) (sym is)

-- the event at a place that is there
pub item_at : {X : Type 0} (xs : List X) (k : ℕ) → k < length xs → (x : X) × (slice_get xs k ≡ Some x)
item_at [] k h = absurd (omega arith)
item_at (x ∷ xs) zero h = (x, refl)
item_at (x ∷ xs) (suc k) h = item_at xs k (omega arith)

pub map_same : (f : PlainEvent → PlainEvent) (es : List PlainEvent) → AllByRecursion (λ e. f e ≡ e) es → map f es ≡ es
map_same f [] a = refl
map_same f (e ∷ es) a = λ i. a.0 i ∷ map_same f es a.1 i
