-- Sweeping leaves commits, and every blob that is named, where they were.
use Rattle.std.proofs.Common.{◌≡◌, ℕ, Bool, true, false, cond, not, List, [], ◌∷◌, ◌++◌, filter, refl, sym, ap, subst, ◌∙◌, inl, inr, eqb-true, true≢false, append-nil, IsTrue}
use Rattle.std.specs.Prelude.{◌||◌, ◌&&◌, ◌==◌}
use Rattle.std.specs.List.{AllByRecursion}
use Rattle.std.proofs.lemmas.Bool.{cases_Bool, or_left, or_right, false_from_ne_true}
use Rattle.plain_model.specs.declared.id.AnyId.{AnyId}
use Rattle.plain_model.specs.declared.id.AnyId.TheVariants as any
use Rattle.plain_model.specs.declared.event.PlainEvent.{PlainEvent}
use Rattle.plain_model.specs.declared.event.PlainEvent.TheVariants.{Blob, Commit, Tag, Reset, Pass}
use Rattle.plain_model.specs.Histories.{Node, nodes}
use Rattle.plain_model.specs.Lookups.{is_listed, referents_of, same_id}
use Rattle.plain_model.specs.Soundness.{has_id}
use Rattle.edit_laws.specs.Parts.{AreComplete, AreInOrder}
use Rattle.edit_laws.specs.Settling.{is_ready}
use Rattle.edit_laws.specs.Sweeping.{is_left_over, is_named, swept}
use Rattle.edit_laws.proofs.Lists.{all_filter, all_true, true_all}
use Rattle.history_laws.proofs.Ids.{has_id_append, same_id_refl}
use Rattle.history_laws.proofs.Lists.{all_imply}
use Rattle.edit_laws.specs.Keeping.{IsNoBlob}

-- ---- what is named

each_listed : (ids : List AnyId) → AllByRecursion (λ r. is_listed r ids ≡ true) ids
each_listed [] = tt
each_listed (id ∷ ids) = (
  or_left (same_id id id) (is_listed id ids) (same_id_refl id),
  all_imply (λ r. is_listed r ids ≡ true) (λ r. is_listed r (id ∷ ids) ≡ true) (λ r h. or_right (same_id r id) (is_listed r ids) h) ids (each_listed ids),
)

-- each blob that an event refers to is named
abbrev AreNamed : List PlainEvent → PlainEvent → Type 0
AreNamed events e = (b : ℕ) → is_listed (any.Blob b) (referents_of e) ≡ true → is_named events b ≡ true

each_named : (events : List PlainEvent) → AllByRecursion (AreNamed events) events
each_named [] = tt
each_named (e ∷ es) = (
  λ b h. or_left (is_listed (any.Blob b) (referents_of e)) (is_named es b) h,
  all_imply (AreNamed es) (AreNamed (e ∷ es)) (λ f h b k. or_right (is_listed (any.Blob b) (referents_of e)) (is_named es b) (h b k)) es (each_named es),
)

-- ---- what stays

module _ (test : PlainEvent → Bool) where
  passed_append : (xs ys : List PlainEvent) → filter test (xs ++ ys) ≡ filter test xs ++ filter test ys
  passed_append [] ys = refl
  passed_append (x ∷ xs) ys =
      ap (λ (l : List PlainEvent). cond (test x) (x ∷ l) l) (passed_append xs ys)
      ∙ elim (test x) as (λ b. cond b (x ∷ (filter test xs ++ filter test ys)) (filter test xs ++ filter test ys) ≡ cond b (x ∷ filter test xs) (filter test xs) ++ filter test ys) [ true ↦ refl | false ↦ refl ]

module _ (old new : List PlainEvent) where
  abbrev kept : PlainEvent → Bool
  kept e = not (is_left_over old new e)

  -- a blob has to be named to stay for sure
  abbrev IsSafe : AnyId → Type 0
  IsSafe (any.Blob b) = is_named new b ≡ true
  IsSafe (any.Commit c) = Unit {0}
  IsSafe (any.Tag t) = Unit {0}
  IsSafe (any.Reset r) = Unit {0}
  IsSafe (any.Pass p) = Unit {0}

  not_left : (b : ℕ) → is_named new b ≡ true → not (is_named old b && not (is_named new b)) ≡ true
  not_left b h = go (is_named old b) (is_named new b) h
    where
      go : (x y : Bool) → y ≡ true → not (x && not y) ≡ true
      go true true h = refl
      go false true h = refl
      go x false h = absurd (true≢false (sym h))

  -- an event that goes isn't the one that is sought
  not_it : (e : PlainEvent) (id : AnyId) → IsSafe id → kept e ≡ false → has_id (e ∷ []) id ≡ false
  not_it (Blob i mark bytes) (any.Blob b) safe gone =
      false_from_ne_true (has_id (Blob i mark bytes ∷ []) (any.Blob b)) (λ h.
      let same : i ≡ b = eqb-true i b (one (i == b) h) in
      true≢false (sym (not_left i (subst (λ n. is_named new n ≡ true) (sym same) safe)) ∙ gone))
    where
      one : (x : Bool) → x || false ≡ true → x ≡ true
      one true h = refl
      one false h = absurd (true≢false (sym h))
  not_it (Blob i mark bytes) (any.Commit c) safe gone = refl
  not_it (Blob i mark bytes) (any.Tag t) safe gone = refl
  not_it (Blob i mark bytes) (any.Reset r) safe gone = refl
  not_it (Blob i mark bytes) (any.Pass p) safe gone = refl
  not_it (Commit i mark branch author committer encoding comment parents ops aliases) id safe gone =
      absurd (true≢false gone)
  not_it (Tag i name target tagger comment mark) id safe gone = absurd (true≢false gone)
  not_it (Reset i branch target) id safe gone = absurd (true≢false gone)
  not_it (Pass i line) id safe gone = absurd (true≢false gone)

  stays_there : (es : List PlainEvent) (id : AnyId) → IsSafe id → has_id (filter kept es) id ≡ has_id es id
  stays_there [] id safe = refl
  stays_there (e ∷ es) id safe =
      let rest = stays_there es id safe in
      elim (cases_Bool (kept e)) [
        | inl here ↦
            ap (λ b. has_id (cond b (e ∷ filter kept es) (filter kept es)) id) here
            ∙ has_id_append (e ∷ []) (filter kept es) id
            ∙ ap (λ b. has_id (e ∷ []) id || b) rest
            ∙ sym (has_id_append (e ∷ []) es id)
        | inr gone ↦
            ap (λ b. has_id (cond b (e ∷ filter kept es) (filter kept es)) id) gone
            ∙ rest
            ∙ sym (has_id_append (e ∷ []) es id ∙ ap (λ b. b || has_id es id) (not_it e id safe gone))
      ]

  safe_refs : (e : PlainEvent) → AreNamed new e → (ids : List AnyId) →
      AllByRecursion (λ r. is_listed r (referents_of e) ≡ true) ids → AllByRecursion IsSafe ids
  safe_refs e n [] h = tt
  safe_refs e n (any.Blob b ∷ ids) h = (n b h.0, safe_refs e n ids h.1)
  safe_refs e n (any.Commit c ∷ ids) h = (tt, safe_refs e n ids h.1)
  safe_refs e n (any.Tag t ∷ ids) h = (tt, safe_refs e n ids h.1)
  safe_refs e n (any.Reset r ∷ ids) h = (tt, safe_refs e n ids h.1)
  safe_refs e n (any.Pass p ∷ ids) h = (tt, safe_refs e n ids h.1)

  still_there : (ids : List AnyId) → AllByRecursion IsSafe ids → AllByRecursion (λ r. has_id new r ≡ true) ids →
      AllByRecursion (λ r. has_id (filter kept new) r ≡ true) ids
  still_there [] s h = tt
  still_there (id ∷ ids) s h = (stays_there new id s.0 ∙ h.0, still_there ids s.1 h.1)

  still_ready : (e : PlainEvent) → AreNamed new e → is_ready new e ≡ true → is_ready (filter kept new) e ≡ true
  still_ready e n r =
      true_all (has_id (filter kept new)) (referents_of e)
      (still_there (referents_of e) (safe_refs e n (referents_of e) (each_listed (referents_of e))) (all_true (has_id new) (referents_of e) r))

  both : (es : List PlainEvent) → AllByRecursion (AreNamed new) es → AllByRecursion (λ e. IsTrue (is_ready new e)) es →
      AllByRecursion (λ e. IsTrue (is_ready (filter kept new) e)) es
  both [] n r = tt
  both (e ∷ es) n r = (still_ready e n.0 r.0, both es n.1 r.1)

  pub swept_complete : AreComplete new → AreComplete (swept old new)
  swept_complete h = all_filter (λ e. IsTrue (is_ready (swept old new) e)) kept new (both new (each_named new) h)

  -- no event goes but blobs
  pub swept_others : (id : AnyId) → IsNoBlob id → has_id (swept old new) id ≡ has_id new id
  swept_others id other = stays_there new id (safe id other)
    where
      safe : (id : AnyId) → IsNoBlob id → IsSafe id
      safe (any.Blob b) h = absurd h
      safe (any.Commit c) h = tt
      safe (any.Tag t) h = tt
      safe (any.Reset r) h = tt
      safe (any.Pass p) h = tt

  pub swept_commit : (c : ℕ) → has_id (swept old new) (any.Commit c) ≡ has_id new (any.Commit c)
  swept_commit c = stays_there new (any.Commit c) tt

  -- the commits stay
  pub swept_nodes : nodes (swept old new) ≡ nodes new
  swept_nodes = go new
    where
      go : (es : List PlainEvent) → nodes (filter kept es) ≡ nodes es
      go [] = refl
      go (Commit id mark branch author committer encoding comment parents ops aliases ∷ es) =
          ap (λ (l : List Node). record { id = id; parents = parents; ops = ops } ∷ l) (go es)
      go (Blob id mark bytes ∷ es) = elim (kept (Blob id mark bytes)) as (λ b. nodes (cond b (Blob id mark bytes ∷ filter kept es) (filter kept es)) ≡ nodes es) [ true ↦ go es | false ↦ go es ]
      go (Tag id name target tagger comment mark ∷ es) = go es
      go (Reset id branch target ∷ es) = go es
      go (Pass id line ∷ es) = go es

  -- an order in which each event is after what it refers to is left
  in_order_left : (xs es : List PlainEvent) → AllByRecursion (AreNamed new) es → AreInOrder xs es →
      AreInOrder (filter kept xs) (filter kept es)
  in_order_left xs [] n s = tt
  in_order_left xs (e ∷ es) n s = go (kept e) refl (in_order_left (xs ++ e ∷ []) es n.1 s.1)
    where
      ready : is_ready (filter kept xs) e ≡ true
      ready =
          true_all (has_id (filter kept xs)) (referents_of e)
          (there (referents_of e) (safe_refs e n.0 (referents_of e) (each_listed (referents_of e))) (all_true (has_id xs) (referents_of e) s.0))
        where
          there : (ids : List AnyId) → AllByRecursion IsSafe ids → AllByRecursion (λ r. has_id xs r ≡ true) ids →
              AllByRecursion (λ r. has_id (filter kept xs) r ≡ true) ids
          there [] k h = tt
          there (id ∷ ids) k h = (stays_there xs id k.0 ∙ h.0, there ids k.1 h.1)

      more : (b : Bool) → kept e ≡ b → filter kept (xs ++ e ∷ []) ≡ filter kept xs ++ cond b (e ∷ []) []
      more b is = passed_append kept xs (e ∷ []) ∙ ap (λ x. filter kept xs ++ cond x (e ∷ []) []) is

      go : (b : Bool) → kept e ≡ b → AreInOrder (filter kept (xs ++ e ∷ [])) (filter kept es) →
          AreInOrder (filter kept xs) (cond (kept e) (e ∷ filter kept es) (filter kept es))
      go true is rest =
          subst (λ x. AreInOrder (filter kept xs) (cond x (e ∷ filter kept es) (filter kept es))) (sym is)
          (ready, subst (λ (l : List PlainEvent). AreInOrder l (filter kept es)) (more true is) rest)
      go false is rest =
          subst (λ x. AreInOrder (filter kept xs) (cond x (e ∷ filter kept es) (filter kept es))) (sym is)
          (subst (λ (l : List PlainEvent). AreInOrder l (filter kept es)) (more false is ∙ append-nil (filter kept xs)) rest)

  pub swept_in_order : AreInOrder [] new → AreInOrder [] (swept old new)
  swept_in_order s = in_order_left [] new (each_named new) s

-- what names the same as before loses nothing
pub swept_itself : (es : List PlainEvent) → swept es es ≡ es
swept_itself whole = go whole
  where
    no_more : (b : Bool) → not (b && not b) ≡ true
    no_more true = refl
    no_more false = refl

    kept : (e : PlainEvent) → not (is_left_over whole whole e) ≡ true
    kept (Blob i mark bytes) = no_more (is_named whole i)
    kept (Commit i mark branch author committer encoding comment parents ops aliases) = refl
    kept (Tag i name target tagger comment mark) = refl
    kept (Reset i branch target) = refl
    kept (Pass i line) = refl

    go : (es : List PlainEvent) → filter (λ e. not (is_left_over whole whole e)) es ≡ es
    go [] = refl
    go (e ∷ es) = ap (λ t. cond t (e ∷ filter (λ x. not (is_left_over whole whole x)) es) (filter (λ x. not (is_left_over whole whole x)) es)) (kept e) ∙ ap (λ (l : List PlainEvent). e ∷ l) (go es)
