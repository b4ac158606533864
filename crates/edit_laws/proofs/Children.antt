-- The way forward goes from a commit to its first child, and on from there.
use Rattle.std.proofs.Common.{◌≡◌, ℕ, ◌≤◌, Bool, true, false, cond, List, [], ◌∷◌, ◌++◌, map, refl, sym, ap, subst, ◌∙◌, inl, inr, eqb-true, true≢false, append-nil, append_assoc, Option, Some, None}
use Rattle.std.specs.Prelude.{◌||◌, ◌==◌, flat_map, if◌then◌else◌}
use Rattle.std.specs.List.{AllByRecursion, list_any}
use Rattle.std.proofs.lemmas.Bool.{cases_Bool, or_from, or_parts, cond-false, or_left, or_right}
use Rattle.plain_model.specs.declared.id.AnyId.TheVariants as any
use Rattle.plain_model.specs.declared.event.PlainEvent.{PlainEvent}
use Rattle.plain_model.specs.declared.event.PlainEvent.TheVariants.{Blob, Commit, Tag, Reset, Pass}
use Rattle.plain_model.specs.Histories.{Node, nodes}
use Rattle.plain_model.specs.Lookups.{children_of, op_blobs, own_child}
use Rattle.plain_model.specs.Soundness.{IsSound, has_id}
use Rattle.edit_laws.specs.Parts.{AreInOrder, AreOnce, of_id, tally}
use Rattle.edit_laws.specs.Removal.{forward}
use Rattle.edit_laws.specs.Settling.{is_ready}
use Rattle.edit_laws.proofs.Lists.{all_front, all_true}
use Rattle.history_laws.proofs.Commits.{nodes_append}
use Rattle.history_laws.proofs.Ids.{has_id_append}
use Rattle.history_laws.proofs.Lists.{all_join}
use Rattle.std.proofs.Common.{eq-eqb}
use Rattle.std.proofs.lemmas.List.Folds.{list_any-append}
use Rattle.edit_laws.proofs.Sound.{in_parts, new_there}

-- a commit is a child of each of its parents
abbrev pub IsChild : List PlainEvent → Node → Type 0
IsChild es n = (p : ℕ) → list_any (λ q. q == p) n.parents ≡ true → list_any (λ m. m == n.id) (children_of p es) ≡ true

child_later : (e : PlainEvent) (es : List PlainEvent) (ns : List Node) → AllByRecursion (IsChild es) ns → AllByRecursion (IsChild (e ∷ es)) ns
child_later e es [] a = tt
child_later e es (n ∷ ns) a = (
  λ p among. list_any-append (λ m. m == n.id) (own_child p e) (children_of p es) ∙ or_right (list_any (λ m. m == n.id) (own_child p e)) (list_any (λ m. m == n.id) (children_of p es)) (a.0 p among),
  child_later e es ns a.1,
)

pub all_children : (es : List PlainEvent) → AllByRecursion (IsChild es) (nodes es)
all_children [] = tt
all_children (Commit id mark branch author committer encoding comment parents ops aliases ∷ es) =
    let e : PlainEvent = Commit id mark branch author committer encoding comment parents ops aliases in (
      λ p among. ap (λ b. list_any (λ m. m == id) (cond b (id ∷ []) [] ++ children_of p es)) among ∙ or_left (id == id) (list_any (λ m. m == id) (children_of p es)) (eq-eqb id id refl),
      child_later e es (nodes es) (all_children es),
    )
all_children (Blob id mark bytes ∷ es) = all_children es
all_children (Tag id name target tagger comment mark ∷ es) = all_children es
all_children (Reset id branch target ∷ es) = all_children es
all_children (Pass id line ∷ es) = all_children es

-- a commit isn't a child of one
abbrev IsNoChild : ℕ → Node → Type 0
IsNoChild c n = list_any (λ p. p == c) n.parents ≡ false

-- where a commit isn't there, nobody is ready as its child
no_parent : (earlier : List PlainEvent) (c : ℕ) → has_id earlier (any.Commit c) ≡ false → (ps : List ℕ) →
    AllByRecursion (λ r. has_id earlier r ≡ true) (map any.Commit ps) → list_any (λ p. p == c) ps ≡ false
no_parent earlier c absent [] h = refl
no_parent earlier c absent (p ∷ ps) h =
    elim (cases_Bool (p == c)) [
      | inl it ↦ absurd (true≢false (sym h.0 ∙ ap (λ n. has_id earlier (any.Commit n)) (eqb-true p c it) ∙ absent))
      | inr other ↦ or_from (p == c) (list_any (λ q. q == c) ps) other (no_parent earlier c absent ps h.1)
    ]

no_child_event : (earlier : List PlainEvent) (c : ℕ) → has_id earlier (any.Commit c) ≡ false → (e : PlainEvent) →
    is_ready earlier e ≡ true → AllByRecursion (IsNoChild c) (nodes (e ∷ []))
no_child_event earlier c absent (Commit id mark branch author committer encoding comment parents ops aliases) r =
    (no_parent earlier c absent parents (all_front (λ r. has_id earlier r ≡ true) (map any.Commit parents) (flat_map op_blobs ops) (all_true (has_id earlier) (map any.Commit parents ++ flat_map op_blobs ops) r)), tt)
no_child_event earlier c absent (Blob id mark bytes) r = tt
no_child_event earlier c absent (Tag id name target tagger comment mark) r = tt
no_child_event earlier c absent (Reset id branch target) r = tt
no_child_event earlier c absent (Pass id line) r = tt

no_child : (earlier es : List PlainEvent) (c : ℕ) → has_id (earlier ++ es) (any.Commit c) ≡ false →
    AreInOrder earlier es → AllByRecursion (IsNoChild c) (nodes es)
no_child earlier [] c absent s = tt
no_child earlier (e ∷ es) c absent s =
    let parts = or_parts (has_id earlier (any.Commit c)) (has_id (e ∷ es) (any.Commit c)) (sym (has_id_append earlier (e ∷ es) (any.Commit c)) ∙ absent) in
    subst (AllByRecursion (IsNoChild c)) (sym (nodes_append (e ∷ []) es))
    (all_join (IsNoChild c) (nodes (e ∷ [])) (nodes es) (no_child_event earlier c parts.0 e s.0)
    (no_child (earlier ++ e ∷ []) es c (ap (λ (l : List PlainEvent). has_id l (any.Commit c)) (append_assoc earlier (e ∷ []) es) ∙ absent) s.1))

order_front : (earlier xs ys : List PlainEvent) → AreInOrder earlier (xs ++ ys) → AreInOrder earlier xs
order_front earlier [] ys s = tt
order_front earlier (x ∷ xs) ys s = (s.0, order_front (earlier ++ x ∷ []) xs ys s.1)

order_at : (earlier xs : List PlainEvent) (e : PlainEvent) (ys : List PlainEvent) → AreInOrder earlier (xs ++ e ∷ ys) →
    is_ready (earlier ++ xs) e ≡ true
order_at earlier [] e ys s = subst (λ (l : List PlainEvent). is_ready l e ≡ true) (sym (append-nil earlier)) s.0
order_at earlier (x ∷ xs) e ys s =
    subst (λ (l : List PlainEvent). is_ready l e ≡ true) (append_assoc earlier (x ∷ []) xs) (order_at (earlier ++ x ∷ []) xs e ys s.1)

module _ (removed : ℕ → Bool) where
  -- commits that aren't children are passed over
  passed_over : (c : ℕ) (ns ms : List Node) → AllByRecursion (IsNoChild c) ns →
      forward removed (ns ++ ms) c ≡ forward removed ms c
  passed_over c [] ms a = refl
  passed_over c (n ∷ ns) ms a = cond-false (list_any (λ p. p == c) n.parents) _ _ a.0 ∙ passed_over c ns ms a.1

  pub childless : (events : List PlainEvent) (c : ℕ) → children_of c events ≡ [] →
      forward removed (nodes events) c ≡ None
  childless [] c h = refl
  childless (Commit id mark branch author committer encoding comment parents ops aliases ∷ es) c h = go (list_any (λ p. p == c) parents) h (λ x. childless es c x)
    where
      go : (b : Bool) → cond b (id ∷ []) [] ++ children_of c es ≡ [] →
          (children_of c es ≡ [] → forward removed (nodes es) c ≡ None) →
          cond b (cond (removed id) (forward removed (nodes es) id) (Some id)) (forward removed (nodes es) c) ≡ None
      go true x f = absurd cc
      go false x f = f x
  childless (Blob id mark bytes ∷ es) c h = childless es c h
  childless (Tag id name target tagger comment mark ∷ es) c h = childless es c h
  childless (Reset id branch target ∷ es) c h = childless es c h
  childless (Pass id line ∷ es) c h = childless es c h

  module _ (whole : List PlainEvent) (o : AreOnce whole) (s : AreInOrder [] whole) where
    -- from a commit on, its children are after it
    after : (xs : List PlainEvent) (e : PlainEvent) (es : List PlainEvent) (d : ℕ) → whole ≡ xs ++ e ∷ es →
        has_id (e ∷ []) (any.Commit d) ≡ true → forward removed (nodes whole) d ≡ forward removed (nodes es) d
    after xs e es d is own =
        let absent = new_there (any.Commit d) xs e es (subst (λ (l : List PlainEvent). tally (of_id (any.Commit d)) l ≤ 1) is (o.ids (any.Commit d))) own in
        let order = subst (AreInOrder []) is s in
        ap (λ (l : List PlainEvent). forward removed (nodes l) d) is
        ∙ ap (λ (ns : List Node). forward removed ns d) (nodes_append xs (e ∷ es))
        ∙ passed_over d (nodes xs) (nodes (e ∷ es)) (no_child [] xs d absent (order_front [] xs (e ∷ es) order))
        ∙ ap (λ (ns : List Node). forward removed ns d) (nodes_append (e ∷ []) es)
        ∙ passed_over d (nodes (e ∷ [])) (nodes es) (no_child_event xs d absent e (order_at [] xs e es order))

    first_child : (xs es : List PlainEvent) (c d : ℕ) (rest : List ℕ) → whole ≡ xs ++ es → children_of c es ≡ d ∷ rest →
        forward removed (nodes es) c ≡ cond (removed d) (forward removed (nodes whole) d) (Some d)
    first_child xs [] c d rest is h = absurd cc
    first_child xs (Commit id mark branch author committer encoding comment parents ops aliases ∷ es) c d rest is h =
        let e : PlainEvent = Commit id mark branch author committer encoding comment parents ops aliases in
        go (list_any (λ p. p == c) parents) h
        (after xs e es id is (ap (λ b. b || false) (eq-eqb id id refl)))
        (λ x. first_child (xs ++ e ∷ []) es c d rest (is ∙ sym (append_assoc xs (e ∷ []) es)) x)
      where
        go : (b : Bool) → cond b (id ∷ []) [] ++ children_of c es ≡ d ∷ rest →
            forward removed (nodes whole) id ≡ forward removed (nodes es) id
            → (children_of c es ≡ d ∷ rest → forward removed (nodes es) c ≡ cond (removed d) (forward removed (nodes whole) d) (Some d))
            → cond b (cond (removed id) (forward removed (nodes es) id) (Some id)) (forward removed (nodes es) c) ≡ cond (removed d) (forward removed (nodes whole) d) (Some d)
        go true x later f =
            let same : id ≡ d = cc in
            ap (λ (r : Option ℕ). cond (removed id) r (Some id)) (sym later) ∙ ap (λ n. cond (removed n) (forward removed (nodes whole) n) (Some n)) same
        go false x later f = f x
    first_child xs (Blob id mark bytes ∷ es) c d rest is h =
        first_child (xs ++ Blob id mark bytes ∷ []) es c d rest (is ∙ sym (append_assoc xs (Blob id mark bytes ∷ []) es)) h
    first_child xs (Tag id name target tagger comment mark ∷ es) c d rest is h =
        first_child (xs ++ Tag id name target tagger comment mark ∷ []) es c d rest (is ∙ sym (append_assoc xs (Tag id name target tagger comment mark ∷ []) es)) h
    first_child xs (Reset id branch target ∷ es) c d rest is h =
        first_child (xs ++ Reset id branch target ∷ []) es c d rest (is ∙ sym (append_assoc xs (Reset id branch target ∷ []) es)) h
    first_child xs (Pass id line ∷ es) c d rest is h =
        first_child (xs ++ Pass id line ∷ []) es c d rest (is ∙ sym (append_assoc xs (Pass id line ∷ []) es)) h

  pub forward_at : (events : List PlainEvent) → IsSound events → (c d : ℕ) (rest : List ℕ) →
      children_of c events ≡ d ∷ rest →
      forward removed (nodes events) c ≡ (if removed d then forward removed (nodes events) d else Some d)
  forward_at events h c d rest is = let parts = in_parts events h in first_child events parts.once parts.in_order [] events c d rest refl is
