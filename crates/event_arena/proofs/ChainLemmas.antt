-- Chains of links.
use Rattle.std.proofs.Common.{◌≡◌, ℕ, zero, suc, ◌+◌, true, false, cond, inl, inr, List, [], ◌∷◌, ◌++◌, Option, None, Some, refl, sym, ap, ◌∙◌, length, ◌<◌, arith, eqb, map, reverse, replicate, get_or}
use Rattle.std.proofs.lemmas.List.{reverse-append, length-reverse}
use Rattle.std.proofs.lemmas.Bool.{cases_Bool}
use Rattle.std.proofs.lemmas.Bool.Decides.{nat_tests}
use Rattle.std.proofs.Math.ListN.{set}
use Rattle.plain_model.proofs.Numbers.{eqb_lower}
use Rattle.event_arena.specs.declared.links.Link.{Link}
use Rattle.event_arena.specs.Chains.{follow, chain_at, IsBelow, AreBack, AllBelow}

here : (n : ℕ) → eqb n n ≡ true
here n = grind (arith, nat_tests)

-- a new link changes no chain
pub chain_new : (l : Link) (older : List Link) (k : ℕ) → k < length older → chain_at (l ∷ older) k ≡ chain_at older k
chain_new l older k h = rw (eqb_lower k (length older) h) refl

pub follow_new : (l : Link) (older : List Link) (o : Option ℕ) → IsBelow (length older) o → follow (chain_at (l ∷ older)) o ≡ follow (chain_at older) o
follow_new l older None h = refl
follow_new l older (Some k) h = chain_new l older k h

pub follow_last : (l : Link) (older : List Link) → chain_at (l ∷ older) (length older) ≡ l.child ∷ follow (chain_at older) l.next
follow_last l older = rw (here (length older)) refl

pub heads_new : (l : Link) (older : List Link) (hs : List (Option ℕ)) → AllBelow (length older) hs → map (follow (chain_at (l ∷ older))) hs ≡ map (follow (chain_at older)) hs
heads_new l older [] b = refl
heads_new l older (h ∷ hs) b = λ i. follow_new l older h b.0 i ∷ heads_new l older hs b.1 i

pub heads_set : (l : Link) (older : List Link) (hs : List (Option ℕ)) (place : ℕ) → AllBelow (length older) hs → place < length hs →
    l.next ≡ get_or hs place None →
    map (follow (chain_at (l ∷ older))) (set hs place (Some (length older)))
    ≡ set (map (follow (chain_at older)) hs) place (l.child ∷ get_or (map (follow (chain_at older)) hs) place [])
heads_set l older [] place b w n = absurd (omega arith)
heads_set l older (h ∷ hs) zero b w n = λ i. (follow_last l older ∙ ap (λ o. l.child ∷ follow (chain_at older) o) n) i ∷ heads_new l older hs b.1 i
heads_set l older (h ∷ hs) (suc place) b w n = λ i. follow_new l older h b.0 i ∷ heads_set l older hs place b.1 (omega arith) n i

pub below_more : (m n : ℕ) → m < n + 1 → (o : Option ℕ) → IsBelow m o → IsBelow n o
below_more m n h None b = tt
below_more m n h (Some k) b = omega arith

pub all_below_more : (m n : ℕ) → m < n + 1 → (hs : List (Option ℕ)) → AllBelow m hs → AllBelow n hs
all_below_more m n h [] b = tt
all_below_more m n h (x ∷ hs) b = (below_more m n h x b.0, all_below_more m n h hs b.1)

pub all_below_set : (n : ℕ) (hs : List (Option ℕ)) (place : ℕ) (o : Option ℕ) → AllBelow n hs → IsBelow n o → AllBelow n (set hs place o)
all_below_set n [] place o b c = tt
all_below_set n (h ∷ hs) zero o b c = (c, b.1)
all_below_set n (h ∷ hs) (suc place) o b c = (b.0, all_below_set n hs place o b.1 c)

pub all_below_push : (n : ℕ) (hs : List (Option ℕ)) → AllBelow n hs → AllBelow n (hs ++ None ∷ [])
all_below_push n [] b = (tt, tt)
all_below_push n (h ∷ hs) b = (b.0, all_below_push n hs b.1)

-- where no place has a link, there are no children
pub none_below : (n m : ℕ) → AllBelow n (replicate m None)
none_below n zero = tt
none_below n (suc m) = (tt, none_below n m)

pub no_chains : (chain : ℕ → List ℕ) (m k : ℕ) → get_or (map (follow chain) (replicate m None)) k [] ≡ []
no_chains chain zero k = refl
no_chains chain (suc m) zero = refl
no_chains chain (suc m) (suc k) = no_chains chain m k

pub below_get : (n : ℕ) (hs : List (Option ℕ)) (place : ℕ) → AllBelow n hs → IsBelow n (get_or hs place None)
below_get n [] place b = tt
below_get n (h ∷ hs) zero b = b.0
below_get n (h ∷ hs) (suc place) b = below_get n hs place b.1

pub map_push : {X Y : Type 0} (f : X → Y) (xs : List X) (x : X) → map f (xs ++ x ∷ []) ≡ map f xs ++ f x ∷ []
map_push f [] x = refl
map_push f (y ∷ xs) x = ap (λ ys. f y ∷ ys) (map_push f xs x)

pub get_map : (f : Option ℕ → List ℕ) → f None ≡ [] → (hs : List (Option ℕ)) (place : ℕ) → get_or (map f hs) place [] ≡ f (get_or hs place None)
get_map f e [] place = sym e
get_map f e (h ∷ hs) zero = refl
get_map f e (h ∷ hs) (suc place) = get_map f e hs place

-- the link at a place, among links with the newest first
abbrev link_at : List Link → ℕ → Link → Link
link_at [] k d = d
link_at (l ∷ older) k d = cond (eqb k (length older)) l (link_at older k d)

link_at_push_zero : (ys : List Link) (x d : Link) → link_at (ys ++ x ∷ []) 0 d ≡ x
link_at_push_zero [] x d = refl
link_at_push_zero (y ∷ ys) x d = rw (length_push ys x) (rw (eqb_lower 0 (suc (length ys)) (omega arith)) (link_at_push_zero ys x d))
  where
    length_push : (ys : List Link) (x : Link) → length (ys ++ x ∷ []) ≡ suc (length ys)
    length_push [] x = refl
    length_push (y ∷ ys) x = ap suc (length_push ys x)

link_at_push_suc : (ys : List Link) (x d : Link) (k : ℕ) → link_at (ys ++ x ∷ []) (suc k) d ≡ link_at ys k d
link_at_push_suc [] x d k = rw (never k) refl
  where
    never : (k : ℕ) → eqb (suc k) 0 ≡ false
    never k = grind (arith, nat_tests)
link_at_push_suc (y ∷ ys) x d k = rw (length_push ys x, same k (length ys)) (ap (λ t. cond (eqb k (length ys)) y t) (link_at_push_suc ys x d k))
  where
    length_push : (ys : List Link) (x : Link) → length (ys ++ x ∷ []) ≡ suc (length ys)
    length_push [] x = refl
    length_push (y ∷ ys) x = ap suc (length_push ys x)

    same : (a b : ℕ) → eqb (suc a) (suc b) ≡ eqb a b
    same a b = grind (arith, nat_tests)

reverse_cons : (x : Link) (xs : List Link) → reverse (x ∷ xs) ≡ reverse xs ++ x ∷ []
reverse_cons x xs = reverse-append (x ∷ []) xs

pub reverse_push : (xs : List Link) (x : Link) → reverse (xs ++ x ∷ []) ≡ x ∷ reverse xs
reverse_push xs x = reverse-append xs (x ∷ [])

link_at_reverse : (xs : List Link) (k : ℕ) (d : Link) → link_at (reverse xs) k d ≡ get_or xs k d
link_at_reverse [] k d = refl
link_at_reverse (x ∷ xs) zero d = rw (reverse_cons x xs) (link_at_push_zero (reverse xs) x d)
link_at_reverse (x ∷ xs) (suc k) d = rw (reverse_cons x xs) (link_at_push_suc (reverse xs) x d k ∙ link_at_reverse xs k d)

-- what is at the front of a chain
chain_step : (back : List Link) (k : ℕ) (d : Link) → AreBack back → k < length back →
    (chain_at back k ≡ (link_at back k d).child ∷ follow (chain_at back) (link_at back k d).next) × IsBelow (length back) (link_at back k d).next
chain_step [] k d b h = absurd (omega arith)
chain_step (l ∷ older) k d b h = elim (cases_Bool (eqb k (length older))) [
  | inl yes_it ↦
      rw yes_it (ap (λ t. l.child ∷ t) (sym (follow_new l older l.next b.0)), below_more (length older) (suc (length older)) (omega arith) l.next b.0)
  | inr no_it ↦
      let rest = chain_step older k d b.1 (below k (length older) h no_it) in
      rw no_it (
        rest.0 ∙ ap (λ t. (link_at older k d).child ∷ t) (sym (follow_new l older (link_at older k d).next rest.1)),
        below_more (length older) (suc (length older)) (omega arith) (link_at older k d).next rest.1,
      )
]
  where
    below : (k n : ℕ) → k < suc n → eqb k n ≡ false → k < n
    below k n h e = grind (arith, nat_tests)

pub next_child : (xs : List Link) (k : ℕ) (d : Link) → AreBack (reverse xs) → k < length xs →
    (chain_at (reverse xs) k ≡ (get_or xs k d).child ∷ follow (chain_at (reverse xs)) (get_or xs k d).next) × IsBelow (length xs) (get_or xs k d).next
next_child xs k d b h =
    let step = chain_step (reverse xs) k d b (rw (length-reverse xs) h) in
    let at = link_at_reverse xs k d in
    (rw at at step.0, rw (at, length-reverse xs) at step.1)

-- a link that is put at the head of a place
pub added : (links new : List Link) (heads : List (Option ℕ)) (place at : ℕ) (l : Link) →
    new ≡ links ++ l ∷ [] → at ≡ length links → l.next ≡ get_or heads place None → place < length heads →
    AllBelow (length links) heads → AreBack (reverse links) →
    AllBelow (length new) (set heads place (Some at)) × AreBack (reverse new)
    × (map (follow (chain_at (reverse new))) (set heads place (Some at))
    ≡ set (map (follow (chain_at (reverse links))) heads) place (l.child ∷ get_or (map (follow (chain_at (reverse links))) heads) place []))
added links new heads place at l is at_is next w below back =
    let longer : length new ≡ suc (length links) = ap length is ∙ length_push' links l in
    let eqb_turned : reverse new ≡ l ∷ reverse links = ap reverse is ∙ reverse_push links l in
    let same_length = length-reverse links in
    let below' : AllBelow (length (reverse links)) heads = rw same_length below in (
      rw (longer, at_is) (all_below_set (suc (length links)) heads place (Some (length links)) (all_below_more (length links) (suc (length links)) (omega arith) heads below) (omega arith)),
      rw eqb_turned (rw next (below_get (length (reverse links)) heads place below'), back),
      rw (eqb_turned, at_is, ← same_length) (heads_set l (reverse links) heads place below' w next),
    )
  where
    length_push' : (ys : List Link) (x : Link) → length (ys ++ x ∷ []) ≡ suc (length ys)
    length_push' [] x = refl
    length_push' (y ∷ ys) x = ap suc (length_push' ys x)
