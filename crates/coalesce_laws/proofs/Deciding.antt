-- Whether a commit is joined to a next one is decided by its only child.
use Rattle.std.proofs.Common.{◌≡◌, ℕ, Bool, true, false, cond, List, [], ◌∷◌, filter, map, sym, ap, ◌∙◌, inl, inr, true≢false, Option, Some}
use Rattle.std.specs.List.{list_any}
use Rattle.std.proofs.lemmas.Bool.{cases_Bool, cond-false, cond-true, or_left, or_right}
use Rattle.plain_model.specs.declared.id.AnyId.{AnyId}
use Rattle.plain_model.specs.declared.id.AnyId.TheVariants as any
use Rattle.plain_model.specs.declared.event.PlainEvent.{PlainEvent}
use Rattle.plain_model.specs.Lookups.{children_of, find_event, id_number, id_of, is_listed, same_id}
use Rattle.plain_model.specs.Soundness.{IsSound}
use Rattle.coalesce_laws.specs.Coalesce.{is_joined_to, joined_ones}
use Rattle.coalesce_laws.proofs.Joined.{joined}

some_same : (a b : PlainEvent) → ◌≡◌ {A = Option PlainEvent} (Some a) (Some b) → a ≡ b
some_same a b h = cc

-- an event that is found passes for the list
found_passes : (test : PlainEvent → Bool) (id : AnyId) (es : List PlainEvent) (e : PlainEvent) → find_event id es ≡ Some e →
    test e ≡ true → list_any test es ≡ true
found_passes test id [] e f t = absurd cc
found_passes test id (x ∷ es) e f t =
    elim (cases_Bool (same_id id (id_of x))) [
      | inl same ↦
          let is = some_same x e (sym (cond-true (same_id id (id_of x)) (Some x) (find_event id es) same) ∙ f) in
          or_left (test x) (list_any test es) (ap test is ∙ t)
      | inr other ↦ or_right (test x) (list_any test es) (found_passes test id es e (sym (cond-false (same_id id (id_of x)) (Some x) (find_event id es) other) ∙ f) t)
    ]

-- and is listed with those that pass
found_listed : (test : PlainEvent → Bool) (id : AnyId) (es : List PlainEvent) (e : PlainEvent) → find_event id es ≡ Some e →
    test e ≡ true → is_listed id (map id_of (filter test es)) ≡ true
found_listed test id [] e f t = absurd cc
found_listed test id (x ∷ es) e f t =
    elim (cases_Bool (same_id id (id_of x))) [
      | inl same ↦
          let is = some_same x e (sym (cond-true (same_id id (id_of x)) (Some x) (find_event id es) same) ∙ f) in
          ap (λ b. is_listed id (map id_of (cond b (x ∷ filter test es) (filter test es)))) (ap test is ∙ t)
          ∙ or_left (same_id id (id_of x)) (is_listed id (map id_of (filter test es))) same
      | inr other ↦ later (test x) (found_listed test id es e (sym (cond-false (same_id id (id_of x)) (Some x) (find_event id es) other) ∙ f) t)
    ]
  where
    later : (b : Bool) → is_listed id (map id_of (filter test es)) ≡ true → is_listed id (map id_of (cond b (x ∷ filter test es) (filter test es))) ≡ true
    later true h = or_right (same_id id (id_of x)) (is_listed id (map id_of (filter test es))) h
    later false h = h

module _ (seconds : ℕ) (sel : List AnyId) (events : List PlainEvent) (c d : ℕ) (e child : PlainEvent) (h : IsSound events)
    (at : find_event (any.Commit c) events ≡ Some e) (below : find_event (any.Commit d) events ≡ Some child)
    (only : children_of c events ≡ d ∷ [])
  where
    joins_it : is_listed (any.Commit c) (joined_ones seconds sel events) ≡ true → is_joined_to seconds sel events e child ≡ true
    joins_it listed =
        let its = joined seconds sel events h c listed in
        let it : its.own ≡ e = some_same its.own e (sym its.here ∙ ap (λ i. find_event i events) (sym its.id) ∙ at) in
        let same : id_number (id_of its.child) ≡ d = one_number (id_number (id_of its.child)) d (sym its.only ∙ only) in
        let there : find_event (any.Commit d) events ≡ Some its.child = ap (λ n. find_event (any.Commit n) events) (sym same) ∙ ap (λ i. find_event i events) (sym its.commit) ∙ its.there in
        let its_child : its.child ≡ child = some_same its.child child (sym there ∙ below) in
        (λ i. is_joined_to seconds sel events (sym it i) (sym its_child i)) ∙ its.joins
      where
        one_number : (x y : ℕ) → ◌≡◌ {A = List ℕ} (x ∷ []) (y ∷ []) → x ≡ y
        one_number x y h = cc

    pub decided : is_listed (any.Commit c) (joined_ones seconds sel events) ≡ is_joined_to seconds sel events e child
    decided =
        elim (cases_Bool (is_joined_to seconds sel events e child)) [
          | inl joins ↦
              found_listed (λ x. list_any (is_joined_to seconds sel events x) events) (any.Commit c) events e at
              (found_passes (is_joined_to seconds sel events e) (any.Commit d) events child below joins)
              ∙ sym joins
          | inr apart ↦ elim (cases_Bool (is_listed (any.Commit c) (joined_ones seconds sel events))) [
            | inl listed ↦ absurd (true≢false (sym (joins_it listed) ∙ apart))
            | inr unlisted ↦ unlisted ∙ sym apart
          ]
        ]
