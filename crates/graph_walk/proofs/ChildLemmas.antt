-- The children of several commits: each event with a parent among these is one of them.
use Rattle.std.proofs.Common.{◌≡◌, ◌∙◌, ℕ, zero, suc, true, false, cond, ◌||◌, inl, inr, List, [], ◌∷◌, ◌++◌, Some, refl, sym, ap, eq-eqb, true≢false}
use Rattle.std.proofs.lemmas.Bool.{false_from_ne_true, or_cases, or_left, or_right}
use Rattle.std.proofs.lemmas.List.Folds.{list_any-append}
use Rattle.std.proofs.lemmas.Option.{none-some, same_Some}
use Rattle.std.specs.List.{list_any}
use Rattle.std.specs.Prelude.{◌==◌, map, slice_get}
use Rattle.plain_model.specs.declared.id.AnyId.{AnyId}
use Rattle.plain_model.specs.declared.id.AnyId.TheVariants as any
use Rattle.plain_model.specs.declared.event.PlainEvent.{PlainEvent}
use Rattle.plain_model.specs.declared.event.PlainEvent.TheVariants.{Blob, Commit, Tag, Reset, Pass}
use Rattle.plain_model.specs.Lookups.{children_of, event_parents, id_of, is_listed, own_child, same_id}
use Rattle.history_laws.proofs.Ids.{same_id_refl, same_id_true}
use Rattle.graph_walk.specs.Children.{children_of_all, own_children}
use Rattle.graph_walk.specs.Expansions.{is_removed}

commits_append : (xs ys : List ℕ) → map any.Commit (xs ++ ys) ≡ map any.Commit xs ++ map any.Commit ys
commits_append [] ys = refl
commits_append (x ∷ xs) ys = ap (λ ids. any.Commit x ∷ ids) (commits_append xs ys)

-- a child of one commit
own_listed : (c k p : ℕ) (e : PlainEvent) (events : List PlainEvent) → slice_get events k ≡ Some e → own_child p e ≡ c ∷ [] →
    is_listed (any.Commit c) (map any.Commit (children_of p events)) ≡ true
own_listed c k p e [] at own = absurd (none-some e at)
own_listed c k p e (x ∷ events) at own =
    ap (is_listed (any.Commit c)) (commits_append (own_child p x) (children_of p events))
    ∙ list_any-append (same_id (any.Commit c)) (map any.Commit (own_child p x)) (map any.Commit (children_of p events))
    ∙ by k at (λ j later. own_listed c j p e events later own)
  where
    by : (k : ℕ) → slice_get (x ∷ events) k ≡ Some e →
        ((j : ℕ) → slice_get events j ≡ Some e → is_listed (any.Commit c) (map any.Commit (children_of p events)) ≡ true) →
        is_listed (any.Commit c) (map any.Commit (own_child p x)) || is_listed (any.Commit c) (map any.Commit (children_of p events)) ≡ true
    by zero here more =
        let first : own_child p x ≡ c ∷ [] = ap (own_child p) (same_Some x e here) ∙ own in
        or_left (is_listed (any.Commit c) (map any.Commit (own_child p x))) (is_listed (any.Commit c) (map any.Commit (children_of p events)))
        (ap (λ cs. is_listed (any.Commit c) (map any.Commit cs)) first ∙ or_left (same_id (any.Commit c) (any.Commit c)) false (same_id_refl (any.Commit c)))
    by (suc j) later more = or_right (is_listed (any.Commit c) (map any.Commit (own_child p x))) (is_listed (any.Commit c) (map any.Commit (children_of p events))) (more j later)

-- a child of one of them
pub one_listed : (c k p : ℕ) (e : PlainEvent) (events : List PlainEvent) → slice_get events k ≡ Some e → own_child p e ≡ c ∷ [] →
    (ids : List AnyId) → is_removed ids p ≡ true → is_listed (any.Commit c) (children_of_all events ids) ≡ true
one_listed c k p e events at own [] gone = absurd (true≢false (sym gone))
one_listed c k p e events at own (x ∷ ids) gone =
    list_any-append (same_id (any.Commit c)) (own_children events x) (children_of_all events ids)
    ∙ elim (or_cases (same_id (any.Commit p) x) (is_removed ids p) gone) [
      | inl it ↦ or_left (is_listed (any.Commit c) (own_children events x)) (is_listed (any.Commit c) (children_of_all events ids))
          (ap (λ id. is_listed (any.Commit c) (own_children events id)) (sym (same_id_true (any.Commit p) x it)) ∙ own_listed c k p e events at own)
      | inr later ↦ or_right (is_listed (any.Commit c) (own_children events x)) (is_listed (any.Commit c) (children_of_all events ids)) (one_listed c k p e events at own ids later)
    ]

-- an event with a parent among them is listed
pub child_listed : (k : ℕ) (e : PlainEvent) (events : List PlainEvent) (ids : List AnyId) → slice_get events k ≡ Some e →
    list_any (is_removed ids) (event_parents e) ≡ true → is_listed (id_of e) (children_of_all events ids) ≡ true
child_listed k (Commit id mark branch author committer encoding comment parents ops aliases) events ids at some =
    each parents (λ p h. h) some
  where
    each : (ps : List ℕ) → ((p : ℕ) → list_any (λ q. q == p) ps ≡ true → list_any (λ q. q == p) parents ≡ true) →
        list_any (is_removed ids) ps ≡ true → is_listed (any.Commit id) (children_of_all events ids) ≡ true
    each [] known some = absurd (true≢false (sym some))
    each (p ∷ ps) known some = elim (or_cases (is_removed ids p) (list_any (is_removed ids) ps) some) [
      | inl it ↦
          let among : list_any (λ q. q == p) parents ≡ true = known p (or_left (p == p) (list_any (λ q. q == p) ps) (eq-eqb p p refl)) in
          one_listed id k p (Commit id mark branch author committer encoding comment parents ops aliases) events at (ap (λ b. cond b (id ∷ []) []) among) ids it
      | inr later ↦ each ps (λ q h. known q (or_right (p == q) (list_any (λ r. r == q) ps) h)) later
    ]
child_listed k (Blob id mark bytes) events ids at some = absurd (true≢false (sym some))
child_listed k (Tag id name target tagger comment mark) events ids at some = absurd (true≢false (sym some))
child_listed k (Reset id branch target) events ids at some = absurd (true≢false (sym some))
child_listed k (Pass id line) events ids at some = absurd (true≢false (sym some))

-- one that isn't listed has none
pub no_child : (k : ℕ) (e : PlainEvent) (events : List PlainEvent) (ids : List AnyId) → slice_get events k ≡ Some e →
    is_listed (id_of e) (children_of_all events ids) ≡ false → list_any (is_removed ids) (event_parents e) ≡ false
no_child k e events ids at apart =
    false_from_ne_true (list_any (is_removed ids) (event_parents e)) (λ some. true≢false (sym (child_listed k e events ids at some) ∙ apart))
