-- Entries of expansions and their lists.
use Rattle.std.proofs.Common.{◌≡◌, ◌∙◌, ℕ, zero, suc, ◌<◌, ◌≤◌, Bool, true, false, cond, ◌||◌, List, [], ◌∷◌, ◌++◌, Some, None, refl, sym, ap, subst, length, get_or, eqb, arith}
use Rattle.std.specs.List.{list_any}
use Rattle.std.specs.Prelude.{map}
use Rattle.plain_model.specs.contracts.id.CommitIdPartialEq.TheImpl.{eq-value}
use Rattle.plain_model.specs.declared.event.PlainEvent.{PlainEvent}
use Rattle.indexmap.specs.IndexSet.{insert_key}
use Rattle.ancestry_laws.specs.Ancestry.{is_one_of}
use Rattle.graph_walk.specs.Entries.{AllThere, IsThere, list_of}
use Rattle.graph_walk.specs.Joined.{with_all, with_one}
use Rattle.graph_walk.specs.declared.expansion.Expansion.{Expansion}
use Rattle.graph_walk.specs.declared.expansion.Expansion.TheVariants.{At, Many, TooMany}
use Rattle.plain_model.proofs.Numbers.{eqb_turned}

-- ---- lists that are there

pub there_push : (w n : ℕ) (xs : List Expansion) (x : Expansion) → AllThere w n xs → IsThere w n x → AllThere w n (xs ++ x ∷ [])
there_push w n [] x all own = (own, tt)
there_push w n (y ∷ xs) x all own = (all.0, there_push w n xs x all.1 own)

-- whether or not a push was carried out
pub there_tried : (w n : ℕ) (xs ys : List Expansion) (x : Expansion) (b : Bool) → ys ≡ cond b (xs ++ x ∷ []) xs →
    AllThere w n xs → IsThere w n x → AllThere w n ys
there_tried w n xs ys x true is all own = subst (AllThere w n) (sym is) (there_push w n xs x all own)
there_tried w n xs ys x false is all own = subst (AllThere w n) (sym is) all

one_more : (w m n : ℕ) → m ≤ n → (x : Expansion) → IsThere w m x → IsThere w n x
one_more w m n h (At place) own = own
one_more w m n h (Many at) own = omega arith
one_more w m n h TooMany own = tt

pub there_more : (w m n : ℕ) → m ≤ n → (xs : List Expansion) → AllThere w m xs → AllThere w n xs
there_more w m n h [] all = tt
there_more w m n h (x ∷ xs) all = (one_more w m n h x all.0, there_more w m n h xs all.1)

pub there_get : (w n : ℕ) (xs : List Expansion) (k : ℕ) (x : Expansion) → k < length xs → x ≡ get_or xs k x →
    AllThere w n xs → IsThere w n x
there_get w n [] k x low is all = absurd (omega arith)
there_get w n (y ∷ xs) zero x low is all = subst (IsThere w n) (sym is) all.0
there_get w n (y ∷ xs) (suc k) x low is all = there_get w n xs k x (omega arith) is all.1

-- ---- entries under one list more

get_front : (lists : List (List ℕ)) (l : List ℕ) (k : ℕ) → k < length lists →
    get_or (lists ++ l ∷ []) k [] ≡ get_or lists k []
get_front [] l k h = absurd (omega arith)
get_front (x ∷ lists) l zero h = refl
get_front (x ∷ lists) l (suc k) h = get_front lists l k (omega arith)

get_last : (lists : List (List ℕ)) (l : List ℕ) → get_or (lists ++ l ∷ []) (length lists) [] ≡ l
get_last [] l = refl
get_last (x ∷ lists) l = get_last lists l

entry_more : (events : List PlainEvent) (w : ℕ) (lists : List (List ℕ)) (l : List ℕ) (x : Expansion) → IsThere w (length lists) x →
    list_of events (lists ++ l ∷ []) x ≡ list_of events lists x
entry_more events w lists l (At place) own = refl
entry_more events w lists l (Many at) own = ap Some (get_front lists l at own)
entry_more events w lists l TooMany own = refl

pub entries_more : (events : List PlainEvent) (w : ℕ) (lists : List (List ℕ)) (l : List ℕ) (xs : List Expansion) → AllThere w (length lists) xs →
    map (list_of events (lists ++ l ∷ [])) (xs ++ Many (length lists) ∷ []) ≡ map (list_of events lists) xs ++ Some l ∷ []
entries_more events w lists l [] all = ap (λ ys. Some ys ∷ []) (get_last lists l)
entries_more events w lists l (x ∷ xs) all =
    ap (λ e. e ∷ map (list_of events (lists ++ l ∷ [])) (xs ++ Many (length lists) ∷ [])) (entry_more events w lists l x all.0)
    ∙ ap (λ es. list_of events lists x ∷ es) (entries_more events w lists l xs all.1)

pub length_more : {X : Type 0} (xs : List X) (x : X) → length (xs ++ x ∷ []) ≡ suc (length xs)
length_more [] x = refl
length_more (y ∷ xs) x = ap suc (length_more xs x)

-- the entry at a place
pub entry_get : (events : List PlainEvent) (lists : List (List ℕ)) (xs : List Expansion) (k : ℕ) (x : Expansion) → k < length xs →
    x ≡ get_or xs k x → get_or (map (list_of events lists) xs) k None ≡ list_of events lists x
entry_get events lists [] k x low is = absurd (omega arith)
entry_get events lists (y ∷ xs) zero x low is = ap (list_of events lists) (sym is)
entry_get events lists (y ∷ xs) (suc k) x low is = entry_get events lists xs k x (omega arith) is

-- ---- commits that are gathered

same_key : (a b : ℕ) → eq-value.it a b ≡ eqb b a
same_key a b = eqb_turned a b

keys_any : (c : ℕ) (xs : List ℕ) → list_any (eq-value.it c) xs ≡ is_one_of xs c
keys_any c [] = refl
keys_any c (x ∷ xs) = ap (λ b. b || list_any (eq-value.it c) xs) (same_key c x) ∙ ap (λ b. eqb x c || b) (keys_any c xs)

pub inserted : (xs : List ℕ) (c : ℕ) → insert_key eq-value.it xs c ≡ with_one xs c
inserted xs c = ap (λ b. cond b xs (xs ++ c ∷ [])) (keys_any c xs)

pub with_all_push : (xs ys : List ℕ) (y : ℕ) → with_all xs (ys ++ y ∷ []) ≡ with_one (with_all xs ys) y
with_all_push xs [] y = refl
with_all_push xs (z ∷ ys) y = with_all_push (with_one xs z) ys y
