-- The places of a set are filled by its commits: the same events are there, as sums tell.
use Rattle.std.proofs.Common.{◌≡◌, ℕ, suc, ◌+◌, ◌≤◌, Bool, true, false, cond, not, List, [], ◌∷◌, ◌++◌, length, refl, sym, ap, ◌∙◌, inl, inr, arith, eqb-true, true≢false, Some}
use Rattle.std.specs.Prelude.{◌||◌, ◌==◌, option_to_list}
use Rattle.std.specs.List.{AllByRecursion, list_any}
use Rattle.std.proofs.lemmas.Bool.{cases_Bool, and_parts, not-true}
use Rattle.plain_model.specs.declared.id.AnyId.{AnyId}
use Rattle.plain_model.specs.declared.id.AnyId.TheVariants as any
use Rattle.plain_model.specs.declared.event.PlainEvent.{PlainEvent}
use Rattle.plain_model.specs.declared.event.PlainEvent.TheVariants.{Blob, Commit, Tag, Reset, Pass}
use Rattle.plain_model.specs.Lookups.{find_event, id_of, same_id}
use Rattle.plain_model.specs.Soundness.{are_distinct, has_id}
use Rattle.edit_laws.specs.Parts.{of_id, one_if, tally}
use Rattle.history_laws.proofs.Ids.{has_id_append, has_id_cons}
use Rattle.history_laws.proofs.Lists.{all_join}
use Rattle.edit_laws.proofs.Lists.{none_passing, own_id, some_passing, tally_append}
use Rattle.commit_laws.specs.Selected.{chosen}
use Rattle.edit_laws.specs.Selecting.{are_apart}
use Rattle.edit_laws.proofs.Tallies.{tally_sum}
use Rattle.commit_laws.proofs.Given.{IsHere}
use Rattle.commit_laws.proofs.Selections.{any_chosen, chosen_distinct}
use Rattle.reorder_laws.specs.Reorder.{filled, is_placed}

-- ---- sums

abbrev total : (ℕ → ℕ) → List ℕ → ℕ
total g [] = 0
total g (w ∷ ws) = g w + total g ws

total_same : (f g : ℕ → ℕ) (ws : List ℕ) → AllByRecursion (λ w. f w ≡ g w) ws → total f ws ≡ total g ws
total_same f g [] a = refl
total_same f g (w ∷ ws) a = λ i. a.0 i + total_same f g ws a.1 i

tally_same : (f g : PlainEvent → ℕ) → ((e : PlainEvent) → f e ≡ g e) → (es : List PlainEvent) → tally f es ≡ tally g es
tally_same f g same [] = refl
tally_same f g same (e ∷ es) = λ i. same e i + tally_same f g same es i

tally_zero : (es : List PlainEvent) → tally (λ e. 0) es ≡ 0
tally_zero [] = refl
tally_zero (e ∷ es) = let rest = tally_zero es in omega arith

exchanged : (g : ℕ → PlainEvent → ℕ) (ws : List ℕ) (es : List PlainEvent) → total (λ w. tally (g w) es) ws ≡ tally (λ e. total (λ w. g w e) ws) es
exchanged g [] es = sym (tally_zero es)
exchanged g (w ∷ ws) es = ap (λ n. tally (g w) es + n) (exchanged g ws es) ∙ sym (tally_sum (g w) (λ e. total (λ v. g v e) ws) es)

-- ---- a commit that is found

-- the event, if it is the commit
abbrev if_it : (PlainEvent → ℕ) → ℕ → PlainEvent → ℕ
if_it f w e = cond (same_id (any.Commit w) (id_of e)) (f e) 0

none_is_it : (f : PlainEvent → ℕ) (w : ℕ) (es : List PlainEvent) → tally (of_id (any.Commit w)) es ≡ 0 → tally (if_it f w) es ≡ 0
none_is_it f w [] z = refl
none_is_it f w (e ∷ es) z =
    let rest = none_is_it f w es (omega arith) in
    let own : if_it f w e ≡ 0 = go (same_id (any.Commit w) (id_of e)) (sym (ap one_if (own_id e (any.Commit w)))) in
    omega arith
  where
    go : (b : Bool) → one_if b ≡ of_id (any.Commit w) e → cond b (f e) 0 ≡ 0
    go true x = absurd (omega arith)
    go false x = refl

found_sum : (f : PlainEvent → ℕ) (w : ℕ) (es : List PlainEvent) → tally (of_id (any.Commit w)) es ≤ 1 → tally f (option_to_list (find_event (any.Commit w) es)) ≡ tally (if_it f w) es
found_sum f w [] o = refl
found_sum f w (e ∷ es) o = go (same_id (any.Commit w) (id_of e)) (ap one_if (own_id e (any.Commit w))) (λ z. none_is_it f w es z) (λ k. found_sum f w es k)
  where
    go : (b : Bool) → of_id (any.Commit w) e ≡ one_if b → (tally (of_id (any.Commit w)) es ≡ 0 → tally (if_it f w) es ≡ 0) → (tally (of_id (any.Commit w)) es ≤ 1 → tally f (option_to_list (find_event (any.Commit w) es)) ≡ tally (if_it f w) es)
        → tally f (option_to_list (cond b (Some e) (find_event (any.Commit w) es))) ≡ cond b (f e) 0 + tally (if_it f w) es
    go true x none rest = let zero = none (omega arith) in omega arith
    go false x none rest = let same = rest (omega arith) in omega arith

found_one : (w : ℕ) (es : List PlainEvent) → IsHere es w → tally (λ e. 1) (option_to_list (find_event (any.Commit w) es)) ≡ 1
found_one w [] k = absurd (true≢false (sym k))
found_one w (e ∷ es) k = go (same_id (any.Commit w) (id_of e)) (sym (has_id_cons e es (any.Commit w)) ∙ k) (λ x. found_one w es x)
  where
    go : (b : Bool) → b || has_id es (any.Commit w) ≡ true → (IsHere es w → tally (λ e. 1) (option_to_list (find_event (any.Commit w) es)) ≡ 1) → tally (λ e. 1) (option_to_list (cond b (Some e) (find_event (any.Commit w) es))) ≡ 1
    go true x f = omega arith
    go false x f = f x

found_all : (P : PlainEvent → Type 0) (w : ℕ) (es : List PlainEvent) → AllByRecursion P es → AllByRecursion P (option_to_list (find_event (any.Commit w) es))
found_all P w [] a = tt
found_all P w (e ∷ es) a =
    let rest = found_all P w es a.1 in
    elim (same_id (any.Commit w) (id_of e)) as (λ b. AllByRecursion P (option_to_list (cond b (Some e) (find_event (any.Commit w) es)))) [ true ↦ (a.0, tt) | false ↦ rest ]

-- ---- how often a number stands in a list

count_in : (n : ℕ) (i : ℕ) (ws : List ℕ) → are_distinct ws ≡ true → total (λ w. cond (w == i) n 0) ws ≡ cond (list_any (λ m. m == i) ws) n 0
count_in n i [] d = refl
count_in n i (w ∷ ws) d =
    let parts = and_parts (not (list_any (λ m. m == w) ws)) (are_distinct ws) d in
    go (w == i) refl (not-true (list_any (λ m. m == w) ws) parts.0) (count_in n i ws parts.1)
  where
    go : (b : Bool) → (w == i) ≡ b → list_any (λ m. m == w) ws ≡ false → total (λ w. cond (w == i) n 0) ws ≡ cond (list_any (λ m. m == i) ws) n 0 → cond b n 0 + total (λ w. cond (w == i) n 0) ws ≡ cond (b || list_any (λ m. m == i) ws) n 0
    go true is gone same =
        let none : cond (list_any (λ m. m == i) ws) n 0 ≡ 0 = ap (λ b. cond b n 0) (ap (λ k. list_any (λ m. m == k) ws) (sym (eqb-true w i is)) ∙ gone) in
        omega arith
    go false is gone same = omega arith

nothing_in : (ws : List ℕ) → total (λ w. 0) ws ≡ 0
nothing_in [] = refl
nothing_in (w ∷ ws) = let rest = nothing_in ws in omega arith

module _ (set : List AnyId) (apart : are_apart set ≡ true) where
  -- the commits of the set are those that stand in its places
  each_once : (f : PlainEvent → ℕ) (e : PlainEvent) → total (λ w. if_it f w e) (chosen set) ≡ cond (is_placed set e) (f e) 0
  each_once f (Commit i mark branch author committer encoding comment parents ops aliases) =
      let e : PlainEvent = Commit i mark branch author committer encoding comment parents ops aliases in
      count_in (f e) i (chosen set) (chosen_distinct set apart) ∙ ap (λ b. cond b (f e) 0) (any_chosen i set)
  each_once f (Blob i mark bytes) = nothing_in (chosen set)
  each_once f (Tag i name target tagger comment mark) = nothing_in (chosen set)
  each_once f (Reset i branch target) = nothing_in (chosen set)
  each_once f (Pass i line) = nothing_in (chosen set)

  module _ (whole : List PlainEvent) (once : (id : AnyId) → tally (of_id id) whole ≤ 1) where
    abbrev pick : ℕ → List PlainEvent
    pick w = option_to_list (find_event (any.Commit w) whole)

    all_found : (f : PlainEvent → ℕ) (ws : List ℕ) → AllByRecursion (λ w. tally f (pick w) ≡ tally (if_it f w) whole) ws
    all_found f [] = tt
    all_found f (w ∷ ws) = (found_sum f w whole (once (any.Commit w)), all_found f ws)

    picked_sum : (f : PlainEvent → ℕ) → total (λ w. tally f (pick w)) (chosen set) ≡ tally (λ e. cond (is_placed set e) (f e) 0) whole
    picked_sum f =
        total_same (λ w. tally f (pick w)) (λ w. tally (if_it f w) whole) (chosen set) (all_found f (chosen set))
        ∙ exchanged (if_it f) (chosen set) whole
        ∙ tally_same (λ e. total (λ w. if_it f w e) (chosen set)) (λ e. cond (is_placed set e) (f e) 0) (each_once f) whole

    -- so many as places
    ones : (ws : List ℕ) → AllByRecursion (IsHere whole) ws → total (λ w. tally (λ e. 1) (pick w)) ws ≡ length ws
    ones [] a = refl
    ones (w ∷ ws) a = let one = found_one w whole a.0 in let rest = ones ws a.1 in omega arith

    places : AllByRecursion (IsHere whole) (chosen set) → length (chosen set) ≡ tally (λ e. cond (is_placed set e) 1 0) whole
    places a = sym (ones (chosen set) a) ∙ picked_sum (λ e. 1)

    filled_sum : (f : PlainEvent → ℕ) (ws : List ℕ) (es : List PlainEvent) → length ws ≡ tally (λ e. cond (is_placed set e) 1 0) es
        → tally f (filled set whole ws es) ≡ tally (λ e. cond (is_placed set e) 0 (f e)) es + total (λ w. tally f (pick w)) ws
    filled_sum f [] [] n = refl
    filled_sum f (w ∷ ws) [] n = absurd (omega arith)
    filled_sum f [] (e ∷ es) n = go (is_placed set e) n (λ k. filled_sum f [] es k)
      where
        go : (b : Bool) → 0 ≡ cond b 1 0 + tally (λ e. cond (is_placed set e) 1 0) es → (0 ≡ tally (λ e. cond (is_placed set e) 1 0) es → tally f (filled set whole [] es) ≡ tally (λ e. cond (is_placed set e) 0 (f e)) es + 0)
            → tally f (cond b (filled set whole [] es) (e ∷ filled set whole [] es)) ≡ cond b 0 (f e) + tally (λ e. cond (is_placed set e) 0 (f e)) es + 0
        go true n r = absurd (omega arith)
        go false n r = let rest = r (omega arith) in omega arith
    filled_sum f (w ∷ ws) (e ∷ es) n = go (is_placed set e) n (λ k. filled_sum f ws es k) (λ k. filled_sum f (w ∷ ws) es k) (tally_append f (pick w) (filled set whole ws es))
      where
        go : (b : Bool) → suc (length ws) ≡ cond b 1 0 + tally (λ e. cond (is_placed set e) 1 0) es
            → (length ws ≡ tally (λ e. cond (is_placed set e) 1 0) es → tally f (filled set whole ws es) ≡ tally (λ e. cond (is_placed set e) 0 (f e)) es + total (λ w. tally f (pick w)) ws)
            → (suc (length ws) ≡ tally (λ e. cond (is_placed set e) 1 0) es → tally f (filled set whole (w ∷ ws) es) ≡ tally (λ e. cond (is_placed set e) 0 (f e)) es + (tally f (pick w) + total (λ w. tally f (pick w)) ws))
            → tally f (pick w ++ filled set whole ws es) ≡ tally f (pick w) + tally f (filled set whole ws es)
            → tally f (cond b (pick w ++ filled set whole ws es) (e ∷ filled set whole (w ∷ ws) es)) ≡ cond b 0 (f e) + tally (λ e. cond (is_placed set e) 0 (f e)) es + (tally f (pick w) + total (λ w. tally f (pick w)) ws)
        go true n r s j = let rest = r (omega arith) in omega arith
        go false n r s j = let rest = s (omega arith) in omega arith

    parted : (f : PlainEvent → ℕ) (es : List PlainEvent) → tally (λ e. cond (is_placed set e) 0 (f e)) es + tally (λ e. cond (is_placed set e) (f e) 0) es ≡ tally f es
    parted f [] = refl
    parted f (e ∷ es) = go (is_placed set e) (parted f es)
      where
        go : (b : Bool) → tally (λ e. cond (is_placed set e) 0 (f e)) es + tally (λ e. cond (is_placed set e) (f e) 0) es ≡ tally f es
            → cond b 0 (f e) + tally (λ e. cond (is_placed set e) 0 (f e)) es + (cond b (f e) 0 + tally (λ e. cond (is_placed set e) (f e) 0) es) ≡ f e + tally f es
        go true r = omega arith
        go false r = omega arith

    -- the sums are as they were
    pub filled_same : AllByRecursion (IsHere whole) (chosen set) → (f : PlainEvent → ℕ) → tally f (filled set whole (chosen set) whole) ≡ tally f whole
    filled_same a f =
        let one = filled_sum f (chosen set) whole (places a) in
        let two = picked_sum f in
        let three = parted f whole in
        omega arith

    pub filled_there : AllByRecursion (IsHere whole) (chosen set) → (id : AnyId) → has_id whole id ≡ true → has_id (filled set whole (chosen set) whole) id ≡ true
    filled_there a id k =
        elim (cases_Bool (has_id (filled set whole (chosen set) whole) id)) [
          | inl it ↦ it
          | inr absent ↦
              let some = some_passing (λ l. has_id l id) (λ xs ys. has_id_append xs ys id) refl whole k in
              let none = none_passing (λ l. has_id l id) (λ xs ys. has_id_append xs ys id) refl (filled set whole (chosen set) whole) absent in
              let same = filled_same a (of_id id) in
              absurd (omega arith)
        ]

    -- what is true of all events is true of those
    pub filled_all : (P : PlainEvent → Type 0) → AllByRecursion P whole → (ws : List ℕ) (es : List PlainEvent) → AllByRecursion P es → AllByRecursion P (filled set whole ws es)
    filled_all P w [] [] a = tt
    filled_all P w (v ∷ vs) [] a = tt
    filled_all P w [] (e ∷ es) a =
        let rest = filled_all P w [] es a.1 in
        elim (is_placed set e) as (λ b. AllByRecursion P (cond b (filled set whole [] es) (e ∷ filled set whole [] es))) [ true ↦ rest | false ↦ (a.0, rest) ]
    filled_all P w (v ∷ vs) (e ∷ es) a =
        let picked = found_all P v whole w in
        let one = all_join P (pick v) (filled set whole vs es) picked (filled_all P w vs es a.1) in
        let rest = filled_all P w (v ∷ vs) es a.1 in
        elim (is_placed set e) as (λ b. AllByRecursion P (cond b (pick v ++ filled set whole vs es) (e ∷ filled set whole (v ∷ vs) es))) [ true ↦ one | false ↦ (a.0, rest) ]
