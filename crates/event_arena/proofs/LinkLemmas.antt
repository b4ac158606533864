-- Links between the events of a list.
use Rattle.std.proofs.Common.{◌≡◌, ◌∙◌, ℕ, zero, suc, ◌+◌, ◌<◌, ◌≤◌, Bool, true, false, cond, not, ◌||◌, ◌&&◌, inl, inr, List, [], ◌∷◌, ◌++◌, Some, None, refl, sym, ap, subst, length, get_or, take, drop, eqb, arith}
use Rattle.std.proofs.lemmas.Bool.{cases_Bool, eq-eqb, eqb-true, true≢false}
use Rattle.std.proofs.lemmas.Option.{none-some, same_Some}
use Rattle.std.proofs.Math.ListN.{set}
use Rattle.std.specs.List.{list_any}
use Rattle.std.specs.Prelude.{flat_map, slice_get, IsTrue}
use Rattle.plain_model.specs.declared.id.AnyId.TheVariants as any
use Rattle.plain_model.specs.declared.event.PlainEvent.{PlainEvent}
use Rattle.plain_model.specs.Lookups.{children_of, event_parents, own_child, place_of}
use Rattle.plain_model.specs.Soundness.{are_distinct}
use Rattle.history_laws.proofs.Ids.{one_place}
use Rattle.std.proofs.Math.Bool.{or_assoc, or-false}
use Rattle.event_arena.specs.Indices.{HasChildren, IsLinked, IsLinkedEvent}
use Rattle.history_laws.specs.Once.{AreParentsOnce}
use Rattle.event_arena.proofs.ListLemmas.{drop_item, length_flat_item}

-- ---- places

pub same_commit : (a b : ℕ) → any.Commit a ≡ any.Commit b → a ≡ b
same_commit a b h = cc

-- ---- parents, one after another

abbrev among : ℕ → List ℕ → Bool
among c ps = list_any (λ p. eqb p c) ps

among_more : (c : ℕ) (ps : List ℕ) (i d : ℕ) → i < length ps → among c (take (suc i) ps) ≡ among c (take i ps) || eqb (get_or ps i d) c
among_more c [] i d h = absurd (omega arith)
among_more c (p ∷ ps) zero d h = or-false (eqb p c)
among_more c (p ∷ ps) (suc i) d h = ap (λ b. eqb p c || b) (among_more c ps i d (omega arith)) ∙ sym (or_assoc (eqb p c) (among c (take i ps)) (eqb (get_or ps i d) c))

among_get : (ps : List ℕ) (i d : ℕ) → i < length ps → among (get_or ps i d) ps ≡ true
among_get [] i d h = absurd (omega arith)
among_get (p ∷ ps) zero d h = rw (eq-eqb p p refl) refl
among_get (p ∷ ps) (suc i) d h = elim (cases_Bool (eqb p (get_or ps i d))) [
  | inl it ↦ rw it refl
  | inr no_it ↦ rw no_it (among_get ps i d (omega arith))
]

both : (a b : Bool) → not a && b ≡ true → (a ≡ false) × (b ≡ true)
both true b h = absurd (true≢false (sym h))
both false b h = (refl, h)

-- a parent that occurs once isn't among those before it
once_before : (ps : List ℕ) (i d : ℕ) → IsTrue (are_distinct ps) → i < length ps → among (get_or ps i d) (take i ps) ≡ false
once_before [] i d o h = absurd (omega arith)
once_before (p ∷ ps) zero d o h = refl
once_before (p ∷ ps) (suc i) d o h =
    let parts = both (among p ps) (are_distinct ps) o in
    elim (cases_Bool (eqb p (get_or ps i d))) [
      | inl it ↦
          let e = eqb-true p (get_or ps i d) it in
          absurd (true≢false (sym (among_get ps i d (omega arith)) ∙ ap (λ q. among q ps) (sym e) ∙ parts.0))
      | inr no_it ↦ rw no_it (once_before ps i d parts.1 (omega arith))
    ]

pub set_here : (xs : List (List ℕ)) (k : ℕ) (v : List ℕ) → k < length xs → get_or (set xs k v) k [] ≡ v
set_here [] k v h = absurd (omega arith)
set_here (x ∷ xs) zero v h = refl
set_here (x ∷ xs) (suc k) v h = set_here xs k v (omega arith)

pub set_there : (xs : List (List ℕ)) (j k : ℕ) (v : List ℕ) → (j ≡ k → ⊥) → get_or (set xs j v) k [] ≡ get_or xs k []
set_there [] j k v h = refl
set_there (x ∷ xs) zero zero v h = absurd (h refl)
set_there (x ∷ xs) zero (suc k) v h = refl
set_there (x ∷ xs) (suc j) zero v h = refl
set_there (x ∷ xs) (suc j) (suc k) v h = set_there xs j k v (λ e. h (ap suc e))

-- a parent that is in the list
pub linked_more : (child : ℕ) (ps : List ℕ) (i p q : ℕ) (events : List PlainEvent) (old mid : List (List ℕ)) →
    IsTrue (are_distinct ps) → i < length ps → p ≡ get_or ps i p → place_of (any.Commit p) events ≡ Some q → q < length mid →
    IsLinked child (take i ps) events old mid → IsLinked child (take (suc i) ps) events old (set mid q (child ∷ get_or mid q []))
linked_more child ps i p q events old mid once h is at within linked c k place = elim (cases_Bool (eqb p c)) [
  | inl it ↦
      let e = eqb-true p c it in
      let k_is : q ≡ k = same_Some q k (sym at ∙ ap (λ n. place_of (any.Commit n) events) e ∙ place) in
      let before : among c (take i ps) ≡ false = ap (λ n. among n (take i ps)) (sym e ∙ is) ∙ once_before ps i p once h in
      let now : among c (take (suc i) ps) ≡ true = among_more c ps i p h ∙ rw (before, ← is, it) refl in
      rw (now, ← k_is, set_here mid q (child ∷ get_or mid q []) within)
      (ap (λ t. child ∷ t) (linked c q (ap (λ n. place_of (any.Commit n) events) (sym e) ∙ at) ∙ rw before refl))
  | inr no_it ↦
      let apart : q ≡ k → ⊥ = λ e. true≢false (sym (eq-eqb p p refl) ∙ ap (λ n. eqb p n) (same_commit p c (one_place (any.Commit p) (any.Commit c) events k (at ∙ ap Some e) place)) ∙ no_it) in
      let same : among c (take (suc i) ps) ≡ among c (take i ps) = among_more c ps i p h ∙ rw (← is, no_it) (or-false (among c (take i ps))) in
      rw same (set_there mid q k (child ∷ get_or mid q []) apart ∙ linked c k place)
]

-- one that is not
pub linked_skip : (child : ℕ) (ps : List ℕ) (i p : ℕ) (events : List PlainEvent) (old mid : List (List ℕ)) →
    i < length ps → p ≡ get_or ps i p → place_of (any.Commit p) events ≡ None →
    IsLinked child (take i ps) events old mid → IsLinked child (take (suc i) ps) events old mid
linked_skip child ps i p events old mid h is at linked c k place = elim (cases_Bool (eqb p c)) [
  | inl it ↦ absurd (none-some k (sym at ∙ ap (λ n. place_of (any.Commit n) events) (eqb-true p c it) ∙ place))
  | inr no_it ↦
      let same : among c (take (suc i) ps) ≡ among c (take i ps) = among_more c ps i p h ∙ rw (← is, no_it) (or-false (among c (take i ps))) in
      rw same (linked c k place)
]

-- ---- events, from the last one back

pub once_at : (es : List PlainEvent) (k : ℕ) (e : PlainEvent) → slice_get es k ≡ Some e → AreParentsOnce es → IsTrue (are_distinct (event_parents e))
once_at [] k e h o = absurd (none-some e h)
once_at (x ∷ es) zero e h o = subst (λ y. IsTrue (are_distinct (event_parents y))) (sym (same_Some e x (sym h))) o.0
once_at (x ∷ es) (suc k) e h o = once_at es k e h o.1

-- a commit whose parents were linked
pub commit_linked : (id : ℕ) (parents : List ℕ) (events : List PlainEvent) (old new : List (List ℕ)) → IsLinked id parents events old new →
    (c k : ℕ) → place_of (any.Commit c) events ≡ Some k → get_or new k [] ≡ (cond (among c parents) (id ∷ []) []) ++ get_or old k []
commit_linked id parents events old new linked c k place = linked c k place ∙ either (among c parents) (get_or old k [])
  where
    either : (b : Bool) (xs : List ℕ) → cond b (id ∷ xs) xs ≡ (cond b (id ∷ []) []) ++ xs
    either true xs = refl
    either false xs = refl

-- one event more
pub linked_step : (es : List PlainEvent) (k : ℕ) (e : PlainEvent) (old new : List (List ℕ)) (used more : ℕ) → slice_get es k ≡ Some e →
    used ≤ length (flat_map event_parents (drop (suc k) es)) → more ≤ used + length (event_parents e) →
    HasChildren old es (drop (suc k) es) → IsLinkedEvent e es old new →
    (more ≤ length (flat_map event_parents (drop k es))) × HasChildren new es (drop k es)
linked_step es k e old new used more at low grows children linked =
    let p = length_flat_item event_parents es k e at in
    (omega arith, λ c j place. linked c j place ∙ ap (λ t. own_child c e ++ t) (children c j place) ∙ sym (ap (children_of c) (drop_item es k e at)))
