-- The commits of a selection are there, each once, in the order of the set and in that of the list.
use Rattle.std.proofs.Common.{◌≡◌, ℕ, ◌≤◌, Bool, true, false, cond, not, List, [], ◌∷◌, ◌++◌, filter, map, refl, sym, ap, subst, ◌∙◌, inl, inr, arith, eq-eqb, eqb-true, true≢false, ◌≢◌, IsTrue, Option, Some, None, Result, Err}
use Rattle.std.specs.Prelude.{◌||◌, ◌==◌}
use Rattle.std.specs.List.{AllByRecursion, list_any}
use Rattle.std.proofs.lemmas.Bool.{cases_Bool, and_parts, and_from, or_cases, or_left, or_right}
use Rattle.plain_model.specs.declared.id.AnyId.{AnyId}
use Rattle.plain_model.specs.declared.id.AnyId.TheVariants as any
use Rattle.plain_model.specs.declared.event.PlainEvent.{PlainEvent}
use Rattle.plain_model.specs.declared.event.PlainEvent.TheVariants.{Blob, Commit, Tag, Reset, Pass}
use Rattle.plain_model.specs.Histories.{Node, nodes}
use Rattle.plain_model.specs.Lookups.{id_of, is_listed}
use Rattle.plain_model.specs.Soundness.{IsSound, are_distinct, has_id}
use Rattle.edit_laws.specs.Parts.{of_id, one_if, tally}
use Rattle.plain_model.proofs.Numbers.{eqb_turned}
use Rattle.plain_model.specs.declared.fault.Fault.{Fault}
use Rattle.history_laws.proofs.Ids.{has_id_append}
use Rattle.edit_laws.proofs.Lists.{some_passing}
use Rattle.edit_laws.proofs.Sound.{in_parts}
use Rattle.commit_laws.specs.Selected.{chosen, listed}
use Rattle.edit_laws.specs.Selecting.{are_apart}
use Rattle.commit_laws.proofs.Given.{IsHere}

-- what is made, unless there is a fault
abbrev pub made_unless : Result (List PlainEvent) Fault → Option Fault → Result (List PlainEvent) Fault
made_unless r o = elim o [ Some why ↦ Err why | None ↦ r ]

-- ---- in the order of the set

pub chosen_here : (events : List PlainEvent) (set : List AnyId) → AllByRecursion (λ id. IsTrue (has_id events id)) set → AllByRecursion (IsHere events) (chosen set)
chosen_here events [] a = tt
chosen_here events (any.Commit c ∷ set) a = (a.0, chosen_here events set a.1)
chosen_here events (any.Blob b ∷ set) a = chosen_here events set a.1
chosen_here events (any.Tag t ∷ set) a = chosen_here events set a.1
chosen_here events (any.Reset r ∷ set) a = chosen_here events set a.1
chosen_here events (any.Pass p ∷ set) a = chosen_here events set a.1

pub any_chosen : (c : ℕ) (set : List AnyId) → list_any (λ m. m == c) (chosen set) ≡ is_listed (any.Commit c) set
any_chosen c [] = refl
any_chosen c (any.Commit d ∷ set) = λ i. eqb_turned d c i || any_chosen c set i
any_chosen c (any.Blob b ∷ set) = any_chosen c set
any_chosen c (any.Tag t ∷ set) = any_chosen c set
any_chosen c (any.Reset r ∷ set) = any_chosen c set
any_chosen c (any.Pass p ∷ set) = any_chosen c set

pub chosen_distinct : (set : List AnyId) → are_apart set ≡ true → are_distinct (chosen set) ≡ true
chosen_distinct [] h = refl
chosen_distinct (any.Commit c ∷ set) h =
    let parts = and_parts (not (is_listed (any.Commit c) set)) (are_apart set) h in
    and_from (not (list_any (λ m. m == c) (chosen set))) (are_distinct (chosen set)) (ap not (any_chosen c set) ∙ parts.0) (chosen_distinct set parts.1)
chosen_distinct (any.Blob b ∷ set) h = chosen_distinct set (and_parts (not (is_listed (any.Blob b) set)) (are_apart set) h).1
chosen_distinct (any.Tag t ∷ set) h = chosen_distinct set (and_parts (not (is_listed (any.Tag t) set)) (are_apart set) h).1
chosen_distinct (any.Reset r ∷ set) h = chosen_distinct set (and_parts (not (is_listed (any.Reset r) set)) (are_apart set) h).1
chosen_distinct (any.Pass p ∷ set) h = chosen_distinct set (and_parts (not (is_listed (any.Pass p) set)) (are_apart set) h).1

-- ---- in the order of the list

module _ (set : List AnyId) where
  -- a commit of the set, before the others
  abbrev first_if : Bool → ℕ → List PlainEvent → List ℕ
  first_if b c es = cond b (c ∷ listed set es) (listed set es)

  listed_cons : (b : Bool) (i : ℕ) (n : Node) (es : List PlainEvent) → map (λ (m : Node). m.id) (cond b (n ∷ filter (λ m. is_listed (any.Commit m.id) set) (nodes es)) (filter (λ m. is_listed (any.Commit m.id) set) (nodes es))) ≡ first_if b n.id es
  listed_cons true i n es = refl
  listed_cons false i n es = refl

  -- what is true of the commits of a list is true of those
  listed_all : (P : ℕ → Type 0) (es : List PlainEvent) → AllByRecursion (λ (n : Node). P n.id) (nodes es) → AllByRecursion P (listed set es)
  listed_all P [] a = tt
  listed_all P (Commit i mark branch author committer encoding comment parents ops aliases ∷ es) a =
      let n : Node = record { id = i; parents = parents; ops = ops } in
      let rest = listed_all P es a.1 in
      subst (AllByRecursion P) (sym (listed_cons (is_listed (any.Commit i) set) i n es)) (elim (is_listed (any.Commit i) set) as (λ b. AllByRecursion P (first_if b i es)) [ true ↦ (a.0, rest) | false ↦ rest ])
  listed_all P (Blob i mark bytes ∷ es) a = listed_all P es a
  listed_all P (Tag i name target tagger comment mark ∷ es) a = listed_all P es a
  listed_all P (Reset i branch target ∷ es) a = listed_all P es a
  listed_all P (Pass i line ∷ es) a = listed_all P es a

  -- one of them is there
  pub in_list : (es : List PlainEvent) (x : ℕ) → list_any (λ m. m == x) (listed set es) ≡ true → IsHere es x
  in_list [] x h = absurd (true≢false (sym h))
  in_list (Commit i mark branch author committer encoding comment parents ops aliases ∷ es) x h =
      let n : Node = record { id = i; parents = parents; ops = ops } in
      go (is_listed (any.Commit i) set) (ap (list_any (λ m. m == x)) (sym (listed_cons (is_listed (any.Commit i) set) i n es)) ∙ h) (in_list es x)
    where
      go : (b : Bool) → list_any (λ m. m == x) (first_if b i es) ≡ true → (list_any (λ m. m == x) (listed set es) ≡ true → IsHere es x) → (i == x) || has_id es (any.Commit x) ≡ true
      go true h f = elim (or_cases (i == x) (list_any (λ m. m == x) (listed set es)) h) [
        | inl it ↦ or_left (i == x) (has_id es (any.Commit x)) it
        | inr later ↦ or_right (i == x) (has_id es (any.Commit x)) (f later)
      ]
      go false h f = or_right (i == x) (has_id es (any.Commit x)) (f h)
  in_list (Blob i mark bytes ∷ es) x h = in_list es x h
  in_list (Tag i name target tagger comment mark ∷ es) x h = in_list es x h
  in_list (Reset i branch target ∷ es) x h = in_list es x h
  in_list (Pass i line ∷ es) x h = in_list es x h

  -- and one of the set
  pub in_set : (es : List PlainEvent) (x : ℕ) → list_any (λ m. m == x) (listed set es) ≡ true → is_listed (any.Commit x) set ≡ true
  in_set [] x h = absurd (true≢false (sym h))
  in_set (Commit i mark branch author committer encoding comment parents ops aliases ∷ es) x h =
      let n : Node = record { id = i; parents = parents; ops = ops } in
      go (is_listed (any.Commit i) set) refl (ap (list_any (λ m. m == x)) (sym (listed_cons (is_listed (any.Commit i) set) i n es)) ∙ h) (in_set es x)
    where
      go : (b : Bool) → is_listed (any.Commit i) set ≡ b → list_any (λ m. m == x) (first_if b i es) ≡ true → (list_any (λ m. m == x) (listed set es) ≡ true → is_listed (any.Commit x) set ≡ true) → is_listed (any.Commit x) set ≡ true
      go true is h f = elim (or_cases (i == x) (list_any (λ m. m == x) (listed set es)) h) [
        | inl it ↦ ap (λ k. is_listed (any.Commit k) set) (sym (eqb-true i x it)) ∙ is
        | inr later ↦ f later
      ]
      go false is h f = f h
  in_set (Blob i mark bytes ∷ es) x h = in_set es x h
  in_set (Tag i name target tagger comment mark ∷ es) x h = in_set es x h
  in_set (Reset i branch target ∷ es) x h = in_set es x h
  in_set (Pass i line ∷ es) x h = in_set es x h

  -- a commit of the set that is there is one of them
  pub in_both : (es : List PlainEvent) (x : ℕ) → is_listed (any.Commit x) set ≡ true → IsHere es x → list_any (λ m. m == x) (listed set es) ≡ true
  in_both [] x l h = absurd (true≢false (sym h))
  in_both (Commit i mark branch author committer encoding comment parents ops aliases ∷ es) x l h =
      let n : Node = record { id = i; parents = parents; ops = ops } in
      ap (list_any (λ m. m == x)) (listed_cons (is_listed (any.Commit i) set) i n es)
      ∙ elim (or_cases (i == x) (has_id es (any.Commit x)) h) [
        | inl it ↦ ap (λ b. list_any (λ m. m == x) (first_if b i es)) (ap (λ k. is_listed (any.Commit k) set) (eqb-true i x it) ∙ l) ∙ or_left (i == x) (list_any (λ m. m == x) (listed set es)) it
        | inr later ↦ more (is_listed (any.Commit i) set) (in_both es x l later)
      ]
    where
      more : (b : Bool) → list_any (λ m. m == x) (listed set es) ≡ true → list_any (λ m. m == x) (first_if b i es) ≡ true
      more true k = or_right (i == x) (list_any (λ m. m == x) (listed set es)) k
      more false k = k
  in_both (Blob i mark bytes ∷ es) x l h = in_both es x l h
  in_both (Tag i name target tagger comment mark ∷ es) x l h = in_both es x l h
  in_both (Reset i branch target ∷ es) x l h = in_both es x l h
  in_both (Pass i line ∷ es) x l h = in_both es x l h

  -- a commit that stands once isn't after itself
  not_again : (i mark : ℕ) (e : PlainEvent) (es : List PlainEvent) → of_id (any.Commit i) e ≡ 1 → tally (of_id (any.Commit i)) (e ∷ es) ≤ 1 → has_id es (any.Commit i) ≡ false
  not_again i mark e es own once =
      elim (cases_Bool (has_id es (any.Commit i))) [
        | inl there ↦ let some = some_passing (λ l. has_id l (any.Commit i)) (λ xs ys. has_id_append xs ys (any.Commit i)) refl es there in absurd (omega arith)
        | inr absent ↦ absent
      ]

  later_once : (e : PlainEvent) (es : List PlainEvent) → ((id : AnyId) → tally (of_id id) (e ∷ es) ≤ 1) → (id : AnyId) → tally (of_id id) es ≤ 1
  later_once e es o id = let all = o id in omega arith

  distinct_on : (es : List PlainEvent) → ((id : AnyId) → tally (of_id id) es ≤ 1) → are_distinct (listed set es) ≡ true
  distinct_on [] o = refl
  distinct_on (Commit i mark branch author committer encoding comment parents ops aliases ∷ es) o =
      let n : Node = record { id = i; parents = parents; ops = ops } in
      let e : PlainEvent = Commit i mark branch author committer encoding comment parents ops aliases in
      ap are_distinct (listed_cons (is_listed (any.Commit i) set) i n es)
      ∙ go (is_listed (any.Commit i) set) (distinct_on es (later_once e es o)) (not_again i mark e es (ap (λ b. one_if (b || false)) (eq-eqb i i refl)) (o (any.Commit i)))
    where
      go : (b : Bool) → are_distinct (listed set es) ≡ true → has_id es (any.Commit i) ≡ false → are_distinct (first_if b i es) ≡ true
      go true rest gone =
          and_from (not (list_any (λ m. m == i) (listed set es))) (are_distinct (listed set es))
          (elim (cases_Bool (list_any (λ m. m == i) (listed set es))) [
            | inl again ↦ absurd (true≢false (sym (in_list es i again) ∙ gone))
            | inr absent ↦ ap not absent
          ])
          rest
      go false rest gone = rest
  distinct_on (Blob i mark bytes ∷ es) o = distinct_on es (later_once (Blob i mark bytes) es o)
  distinct_on (Tag i name target tagger comment mark ∷ es) o = distinct_on es (later_once (Tag i name target tagger comment mark) es o)
  distinct_on (Reset i branch target ∷ es) o = distinct_on es (later_once (Reset i branch target) es o)
  distinct_on (Pass i line ∷ es) o = distinct_on es (later_once (Pass i line) es o)

  pub listed_distinct : (events : List PlainEvent) → IsSound events → are_distinct (listed set events) ≡ true
  listed_distinct events h = distinct_on events (in_parts events h).once.ids

  nodes_here : (es : List PlainEvent) → (events : List PlainEvent) → ((x : ℕ) → IsHere es x → IsHere events x) → AllByRecursion (λ (n : Node). IsHere events n.id) (nodes es)
  nodes_here [] events f = tt
  nodes_here (Commit i mark branch author committer encoding comment parents ops aliases ∷ es) events f =
      (f i (or_left (i == i) (has_id es (any.Commit i)) (eq-eqb i i refl)), nodes_here es events (λ x k. f x (or_right (i == x) (has_id es (any.Commit x)) k)))
  nodes_here (Blob i mark bytes ∷ es) events f = nodes_here es events f
  nodes_here (Tag i name target tagger comment mark ∷ es) events f = nodes_here es events f
  nodes_here (Reset i branch target ∷ es) events f = nodes_here es events f
  nodes_here (Pass i line ∷ es) events f = nodes_here es events f

  pub listed_here : (events : List PlainEvent) → AllByRecursion (IsHere events) (listed set events)
  listed_here events = listed_all (IsHere events) events (nodes_here events events (λ x k. k))

  -- of two of them the first stands before the second
  pub low_before : (low high : ℕ) → low ≢ high → (xs : List PlainEvent) (e : PlainEvent) (es : List PlainEvent) → id_of e ≡ any.Commit high → listed set (xs ++ e ∷ es) ≡ low ∷ high ∷ [] → IsHere xs low
  low_before low high apart [] (Commit i mark branch author committer encoding comment parents ops aliases) es is h =
      let same : i ≡ high = cc in
      let n : Node = record { id = i; parents = parents; ops = ops } in
      go (is_listed (any.Commit i) set) refl same (sym (listed_cons (is_listed (any.Commit i) set) i n es) ∙ h)
    where
      go : (b : Bool) → is_listed (any.Commit i) set ≡ b → i ≡ high → first_if b i es ≡ low ∷ high ∷ [] → IsHere [] low
      go true it same h = let first : i ≡ low = cc in absurd (apart (sym first ∙ same))
      go false it same h =
          let there : list_any (λ m. m == high) (listed set es) ≡ true = ap (list_any (λ m. m == high)) h ∙ or_right (low == high) ((high == high) || false) (or_left (high == high) false (eq-eqb high high refl)) in
          absurd (true≢false (sym (in_set es high there) ∙ ap (λ k. is_listed (any.Commit k) set) (sym same) ∙ it))
  low_before low high apart [] (Blob i mark bytes) es is h = absurd cc
  low_before low high apart [] (Tag i name target tagger comment mark) es is h = absurd cc
  low_before low high apart [] (Reset i branch target) es is h = absurd cc
  low_before low high apart [] (Pass i line) es is h = absurd cc
  low_before low high apart (Commit i mark branch author committer encoding comment parents ops aliases ∷ xs) e es is h =
      let n : Node = record { id = i; parents = parents; ops = ops } in
      go (is_listed (any.Commit i) set) (sym (listed_cons (is_listed (any.Commit i) set) i n (xs ++ e ∷ es)) ∙ h) (low_before low high apart xs e es is)
    where
      go : (b : Bool) → first_if b i (xs ++ e ∷ es) ≡ low ∷ high ∷ [] → (listed set (xs ++ e ∷ es) ≡ low ∷ high ∷ [] → IsHere xs low) → (i == low) || has_id xs (any.Commit low) ≡ true
      go true h f = let first : i ≡ low = cc in or_left (i == low) (has_id xs (any.Commit low)) (ap (λ k. i == k) (sym first) ∙ eq-eqb i i refl)
      go false h f = or_right (i == low) (has_id xs (any.Commit low)) (f h)
  low_before low high apart (Blob i mark bytes ∷ xs) e es is h = low_before low high apart xs e es is h
  low_before low high apart (Tag i name target tagger comment mark ∷ xs) e es is h = low_before low high apart xs e es is h
  low_before low high apart (Reset i branch target ∷ xs) e es is h = low_before low high apart xs e es is h
  low_before low high apart (Pass i line ∷ xs) e es is h = low_before low high apart xs e es is h
