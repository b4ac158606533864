-- Lists of events: ids, marks and sums over parts of them.
use Rattle.std.proofs.Common.{◌≡◌, ℕ, ◌+◌, ◌≤◌, Bool, true, false, cond, List, [], ◌∷◌, ◌++◌, filter, refl, sym, ap, ◌∙◌, inl, inr, arith, eq-eqb, true≢false}
use Rattle.std.specs.Prelude.{◌||◌, ◌==◌, flat_map}
use Rattle.std.specs.List.{AllByRecursion, list_any, list_all}
use Rattle.std.proofs.Math.Bool.{or-false}
use Rattle.std.proofs.lemmas.Bool.{cases_Bool, or_cases, or_left, or_parts, or_right, and_parts, and_from}
use Rattle.plain_model.specs.declared.id.AnyId.{AnyId}
use Rattle.plain_model.specs.declared.event.PlainEvent.{PlainEvent}
use Rattle.plain_model.specs.declared.event.PlainEvent.TheVariants.{Blob, Commit, Tag, Reset, Pass}
use Rattle.plain_model.specs.Histories.{Node, nodes}
use Rattle.plain_model.specs.Lookups.{id_of, same_id}
use Rattle.plain_model.specs.Soundness.{has_id}
use Rattle.history_laws.proofs.Ids.{has_id_append, has_id_cons, same_id_refl}
use Rattle.history_laws.proofs.Lists.{all_imply, all_join}
use Rattle.edit_laws.specs.Parts.{tally, one_if, of_id}

-- ---- all of a list

pub all_front : {X : Type 0} (P : X → Type 0) (xs ys : List X) → AllByRecursion P (xs ++ ys) → AllByRecursion P xs
all_front P [] ys a = tt
all_front P (x ∷ xs) ys a = (a.0, all_front P xs ys a.1)

pub all_rear : {X : Type 0} (P : X → Type 0) (xs ys : List X) → AllByRecursion P (xs ++ ys) → AllByRecursion P ys
all_rear P [] ys a = a
all_rear P (x ∷ xs) ys a = all_rear P xs ys a.1

pub all_filter : {X : Type 0} (P : X → Type 0) (test : X → Bool) (xs : List X) → AllByRecursion P xs →
    AllByRecursion P (filter test xs)
all_filter P test [] a = tt
all_filter P test (x ∷ xs) a =
    let rest = all_filter P test xs a.1 in
    elim (test x) as (λ b. AllByRecursion P (cond b (x ∷ filter test xs) (filter test xs))) [ true ↦ (a.0, rest) | false ↦ rest ]

pub all_flat : {X Y : Type 0} (P : X → Type 0) (Q : Y → Type 0) (f : X → List Y) →
    ((x : X) → P x → AllByRecursion Q (f x)) → (xs : List X) → AllByRecursion P xs → AllByRecursion Q (flat_map f xs)
all_flat P Q f each [] a = tt
all_flat P Q f each (x ∷ xs) a = all_join Q (f x) (flat_map f xs) (each x a.0) (all_flat P Q f each xs a.1)

pub all_true : {X : Type 0} (test : X → Bool) (xs : List X) → list_all test xs ≡ true →
    AllByRecursion (λ x. test x ≡ true) xs
all_true test [] h = tt
all_true test (x ∷ xs) h = let parts = and_parts (test x) (list_all test xs) h in (parts.0, all_true test xs parts.1)

pub true_all : {X : Type 0} (test : X → Bool) (xs : List X) → AllByRecursion (λ x. test x ≡ true) xs →
    list_all test xs ≡ true
true_all test [] a = refl
true_all test (x ∷ xs) a = and_from (test x) (list_all test xs) a.0 (true_all test xs a.1)

-- what holds of each item that is among them
pub all_among : (P : ℕ → Type 0) (xs : List ℕ) → ((x : ℕ) → list_any (λ y. y == x) xs ≡ true → P x) →
    AllByRecursion P xs
all_among P [] h = tt
all_among P (x ∷ xs) h =
    (h x (or_left (x == x) (list_any (λ y. y == x) xs) (eq-eqb x x refl)), all_among P xs (λ y among. h y (or_right (x == y) (list_any (λ z. z == y) xs) among)))

-- ---- ids

-- an event has its own id, and no other
pub own_id : (e : PlainEvent) (id : AnyId) → has_id (e ∷ []) id ≡ same_id id (id_of e)
own_id e id = has_id_cons e [] id ∙ or-false (same_id id (id_of e))

pub has_own_id : (e : PlainEvent) → has_id (e ∷ []) (id_of e) ≡ true
has_own_id e = own_id e (id_of e) ∙ same_id_refl (id_of e)

-- ---- sums

pub tally_append : (f : PlainEvent → ℕ) (xs ys : List PlainEvent) → tally f (xs ++ ys) ≡ tally f xs + tally f ys
tally_append f [] ys = omega arith
tally_append f (x ∷ xs) ys = let rest = tally_append f xs ys in omega arith

pub tally_filter : (f : PlainEvent → ℕ) (test : PlainEvent → Bool) (es : List PlainEvent) →
    tally f (filter test es) ≤ tally f es
tally_filter f test [] = omega arith
tally_filter f test (e ∷ es) =
    let rest = tally_filter f test es in
    elim (test e) as (λ b. tally f (cond b (e ∷ filter test es) (filter test es)) ≤ f e + tally f es) [ true ↦ omega arith | false ↦ omega arith ]

pub tally_flat : (f : PlainEvent → ℕ) (g : PlainEvent → List PlainEvent) → ((e : PlainEvent) → tally f (g e) ≤ f e) →
    (es : List PlainEvent) → tally f (flat_map g es) ≤ tally f es
tally_flat f g each [] = omega arith
tally_flat f g each (e ∷ es) =
    let one = each e in
    let rest = tally_flat f g each es in
    let parts = tally_append f (g e) (flat_map g es) in
    omega arith

-- a test of lists that looks at one event after the other, and the number of events that pass it
module _ (test : List PlainEvent → Bool) (joins : (xs ys : List PlainEvent) → test (xs ++ ys) ≡ test xs || test ys) (none : test [] ≡ false) where
  abbrev passing : PlainEvent → ℕ
  passing e = one_if (test (e ∷ []))

  pub none_passing : (es : List PlainEvent) → test es ≡ false → tally passing es ≡ 0
  none_passing [] h = refl
  none_passing (e ∷ es) h =
      let parts = or_parts (test (e ∷ [])) (test es) (sym (joins (e ∷ []) es) ∙ h) in
      let rest = none_passing es parts.1 in
      let own : one_if (test (e ∷ [])) ≡ 0 = ap one_if parts.0 in
      omega arith

  pub some_passing : (es : List PlainEvent) → test es ≡ true → 1 ≤ tally passing es
  some_passing [] h = absurd (true≢false (sym h ∙ none))
  some_passing (e ∷ es) h =
      elim (or_cases (test (e ∷ [])) (test es) (sym (joins (e ∷ []) es) ∙ h)) [
        | inl here ↦ let own : one_if (test (e ∷ [])) ≡ 1 = ap one_if here in omega arith
        | inr later ↦ let rest = some_passing es later in omega arith
      ]

  -- what occurs at most once isn't in both of two parts
  pub not_before : (xs ys : List PlainEvent) → tally passing (xs ++ ys) ≤ 1 → test ys ≡ true → test xs ≡ false
  not_before xs ys h there =
      elim (cases_Bool (test xs)) [
        | inl twice ↦
            let one = some_passing xs twice in
            let two = some_passing ys there in
            let parts = tally_append passing xs ys in
            absurd (omega arith)
        | inr it ↦ it
      ]

  -- one event more, where no other passes
  pub still_once : (xs : List PlainEvent) (e : PlainEvent) → tally passing xs ≤ 1 →
      (test (e ∷ []) ≡ true → test xs ≡ false) → tally passing (xs ++ e ∷ []) ≤ 1
  still_once xs e h new =
      let parts = tally_append passing xs (e ∷ []) in
      elim (cases_Bool (test (e ∷ []))) [
        | inl own ↦
            let one : one_if (test (e ∷ [])) ≡ 1 = ap one_if own in
            let others = none_passing xs (new own) in
            omega arith
        | inr other ↦ let zero : one_if (test (e ∷ [])) ≡ 0 = ap one_if other in omega arith
      ]

-- ---- commits

-- a fact of the commits of each event is one of all commits
abbrev pub OfNodes : (Node → Type 0) → PlainEvent → Type 0
OfNodes P e = AllByRecursion P (nodes (e ∷ []))

pub nodes_of_events : (P : Node → Type 0) (es : List PlainEvent) → AllByRecursion P (nodes es) →
    AllByRecursion (OfNodes P) es
nodes_of_events P [] a = tt
nodes_of_events P (Commit id mark branch author committer encoding comment parents ops aliases ∷ es) a =
    ((a.0, tt), nodes_of_events P es a.1)
nodes_of_events P (Blob id mark bytes ∷ es) a = (tt, nodes_of_events P es a)
nodes_of_events P (Tag id name target tagger comment mark ∷ es) a = (tt, nodes_of_events P es a)
nodes_of_events P (Reset id branch target ∷ es) a = (tt, nodes_of_events P es a)
nodes_of_events P (Pass id line ∷ es) a = (tt, nodes_of_events P es a)

pub events_of_nodes : (P : Node → Type 0) (es : List PlainEvent) → AllByRecursion (OfNodes P) es →
    AllByRecursion P (nodes es)
events_of_nodes P [] a = tt
events_of_nodes P (Commit id mark branch author committer encoding comment parents ops aliases ∷ es) a =
    (a.0.0, events_of_nodes P es a.1)
events_of_nodes P (Blob id mark bytes ∷ es) a = events_of_nodes P es a.1
events_of_nodes P (Tag id name target tagger comment mark ∷ es) a = events_of_nodes P es a.1
events_of_nodes P (Reset id branch target ∷ es) a = events_of_nodes P es a.1
events_of_nodes P (Pass id line ∷ es) a = events_of_nodes P es a.1

pub own_sum : (id : AnyId) (x e : PlainEvent) → id_of x ≡ id_of e → of_id id x ≡ of_id id e
own_sum id x e same = ap one_if (own_id x id ∙ ap (same_id id) same ∙ sym (own_id e id))

pub own_here : (es : List PlainEvent) → AllByRecursion (λ e. has_id es (id_of e) ≡ true) es
own_here [] = tt
own_here (e ∷ es) = (
  has_id_append (e ∷ []) es (id_of e) ∙ or_left (has_id (e ∷ []) (id_of e)) (has_id es (id_of e)) (has_own_id e),
  all_imply (λ x. has_id es (id_of x) ≡ true) (λ x. has_id (e ∷ es) (id_of x) ≡ true) (λ x k. has_id_append (e ∷ []) es (id_of x) ∙ or_right (has_id (e ∷ []) (id_of x)) (has_id es (id_of x)) k) es (own_here es),
)
