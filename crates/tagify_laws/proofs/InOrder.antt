-- With tags in the place of commits each event is after all that it refers to, so nothing moves.
use Rattle.std.proofs.Common.{◌≡◌, ℕ, ◌+◌, Bool, true, false, cond, List, [], ◌∷◌, ◌++◌, map, refl, sym, ap, ◌∙◌, inl, inr, append_assoc, true≢false, Some, None, Ok}
use Rattle.std.specs.Prelude.{flat_map}
use Rattle.std.specs.List.{AllByRecursion}
use Rattle.std.proofs.lemmas.Bool.{or_cases}
use Rattle.plain_model.specs.declared.id.AnyId.{AnyId}
use Rattle.plain_model.specs.declared.id.AnyId.TheVariants as any
use Rattle.plain_model.specs.declared.operation.Content.TheVariants.{Blob as OfBlob, Object}
use Rattle.plain_model.specs.declared.operation.FileOp.{FileOp}
use Rattle.plain_model.specs.declared.operation.FileOp.TheVariants.{Modify, Delete, Copy, Rename, DeleteAll}
use Rattle.plain_model.specs.declared.event.PlainEvent.{PlainEvent}
use Rattle.plain_model.specs.declared.event.PlainEvent.TheVariants.{Blob, Commit, Tag, Reset, Pass}
use Rattle.plain_model.specs.Lookups.{id_of, is_listed, op_blobs, same_id}
use Rattle.plain_model.specs.Soundness.{IsSound, has_id}
use Rattle.history_laws.proofs.Ids.{has_id_append, has_id_after, has_id_still, has_own, same_id_true}
use Rattle.history_laws.proofs.Lists.{all_join}
use Rattle.edit_laws.specs.Parts.{AreInOrder}
use Rattle.edit_laws.specs.Removal.{once_each}
use Rattle.edit_laws.specs.Settling.{is_ready, settle}
use Rattle.edit_laws.specs.Sweeping.{swept}
use Rattle.edit_laws.proofs.Chains.{all_once_each}
use Rattle.edit_laws.proofs.Lists.{all_front, all_rear, all_true, own_id, true_all}
use Rattle.edit_laws.proofs.Settled.{in_order_stays}
use Rattle.edit_laws.proofs.Sound.{in_parts}
use Rattle.tagify_laws.specs.InPlace.{in_place, moved}
use Rattle.tagify_laws.specs.Tagify.{base_of, becomes_tag, new_tag, tagged, tagified}
use Rattle.tagify_laws.proofs.Left.{left_is}
use Rattle.tagify_laws.proofs.Put.{tag_ready}
use Rattle.tagify_laws.proofs.Tagged.{base_before, no_blob, tagged_each}
use Rattle.tagify_laws.proofs.Unnamed.{in_place_unswept}

pub same_moved : (selected : List AnyId) (events : List PlainEvent) (e : PlainEvent) → id_of (moved selected events e) ≡ id_of e
same_moved selected events (Commit id mark branch author committer encoding comment parents ops aliases) = refl
same_moved selected events (Blob id mark bytes) = refl
same_moved selected events (Tag id name target tagger comment mark) = refl
same_moved selected events (Reset id branch None) = refl
same_moved selected events (Reset id branch (Some target)) = refl
same_moved selected events (Pass id line) = refl

module _ (selected : List AnyId) (events : List PlainEvent) (h : IsSound events) where
  abbrev set : List AnyId
  set = tagged selected events

  abbrev base : ℕ → ℕ
  base c = base_of selected events c

  -- all is there that becomes no tag
  abbrev pub Holds : List PlainEvent → List PlainEvent → Type 0
  Holds xs ys = (id : AnyId) → has_id xs id ≡ true → is_listed id set ≡ false → has_id ys id ≡ true

  own_is : (e : PlainEvent) (id : AnyId) → has_id (e ∷ []) id ≡ true → id ≡ id_of e
  own_is e id k = same_id_true id (id_of e) (sym (own_id e id) ∙ k)

  holds_moved : (xs ys : List PlainEvent) (e : PlainEvent) → Holds xs ys → Holds (xs ++ e ∷ []) (ys ++ moved selected events e ∷ [])
  holds_moved xs ys e i id k s =
      elim (or_cases (has_id xs id) (has_id (e ∷ []) id) (sym (has_id_append xs (e ∷ []) id) ∙ k)) [
        | inl before ↦ has_id_still ys (moved selected events e ∷ []) id (i id before s)
        | inr own ↦ has_id_after ys (moved selected events e ∷ []) id (own_id (moved selected events e) id ∙ ap (same_id id) (same_moved selected events e) ∙ sym (own_id e id) ∙ own)
      ]

  holds_tag : (xs ys : List PlainEvent) (e x : PlainEvent) → is_listed (id_of e) set ≡ true → Holds xs ys → Holds (xs ++ e ∷ []) (ys ++ x ∷ [])
  holds_tag xs ys e x gone i id k s =
      elim (or_cases (has_id xs id) (has_id (e ∷ []) id) (sym (has_id_append xs (e ∷ []) id) ∙ k)) [
        | inl before ↦ has_id_still ys (x ∷ []) id (i id before s)
        | inr own ↦ absurd (true≢false (sym gone ∙ ap (λ d. is_listed d set) (sym (own_is e id own)) ∙ s))
      ]

  -- ---- one event

  module _ (xs ys : List PlainEvent) (i : Holds xs ys) where
    base_there : (es : List PlainEvent) → events ≡ xs ++ es → (c : ℕ) → has_id xs (any.Commit c) ≡ true → has_id ys (any.Commit (base c)) ≡ true
    base_there es is c k = let b = base_before selected events h xs es is c k in i (any.Commit (base c)) b.0 b.1

    bases_there : (es : List PlainEvent) → events ≡ xs ++ es → (ps : List ℕ) → AllByRecursion (λ r. has_id xs r ≡ true) (map any.Commit ps) → AllByRecursion (λ q. has_id ys (any.Commit q) ≡ true) (map base ps)
    bases_there es is [] k = tt
    bases_there es is (p ∷ ps) k = (base_there es is p k.0, bases_there es is ps k.1)

    commits_there : (qs : List ℕ) → AllByRecursion (λ q. has_id ys (any.Commit q) ≡ true) qs → AllByRecursion (λ r. has_id ys r ≡ true) (map any.Commit qs)
    commits_there [] a = tt
    commits_there (q ∷ qs) a = (a.0, commits_there qs a.1)

    blobs_there : (ops : List FileOp) → AllByRecursion (λ r. has_id xs r ≡ true) (flat_map op_blobs ops) → AllByRecursion (λ r. has_id ys r ≡ true) (flat_map op_blobs ops)
    blobs_there [] k = tt
    blobs_there (Modify mode (OfBlob b) path ∷ ops) k = (i (any.Blob b) k.0 (no_blob selected events b), blobs_there ops k.1)
    blobs_there (Modify mode (Object digits) path ∷ ops) k = blobs_there ops k
    blobs_there (Delete path ∷ ops) k = blobs_there ops k
    blobs_there (Copy source target ∷ ops) k = blobs_there ops k
    blobs_there (Rename source target ∷ ops) k = blobs_there ops k
    blobs_there (DeleteAll ∷ ops) k = blobs_there ops k

    moved_ready : (es : List PlainEvent) → events ≡ xs ++ es → (e : PlainEvent) → is_ready xs e ≡ true → is_ready ys (moved selected events e) ≡ true
    moved_ready es is (Commit id mark branch author committer encoding comment parents ops aliases) r =
        let all = all_true (has_id xs) (map any.Commit parents ++ flat_map op_blobs ops) r in
        let its = all_front (λ d. has_id xs d ≡ true) (map any.Commit parents) (flat_map op_blobs ops) all in
        let blobs = all_rear (λ d. has_id xs d ≡ true) (map any.Commit parents) (flat_map op_blobs ops) all in
        let news = once_each (map base parents) in
        true_all (has_id ys) (map any.Commit news ++ flat_map op_blobs ops)
        (all_join (λ d. has_id ys d ≡ true) (map any.Commit news) (flat_map op_blobs ops)
        (commits_there news (all_once_each (λ q. has_id ys (any.Commit q) ≡ true) (map base parents) (bases_there es is parents its)))
        (blobs_there ops blobs))
    moved_ready es is (Tag id name target tagger comment mark) r =
        true_all (has_id ys) (any.Commit (base target) ∷ []) (base_there es is target (all_true (has_id xs) (any.Commit target ∷ []) r).0, tt)
    moved_ready es is (Reset id branch (Some target)) r =
        true_all (has_id ys) (any.Commit (base target) ∷ []) (base_there es is target (all_true (has_id xs) (any.Commit target ∷ []) r).0, tt)
    moved_ready es is (Reset id branch None) r = refl
    moved_ready es is (Blob id mark bytes) r = refl
    moved_ready es is (Pass id line) r = refl

    -- the commit before one that becomes a tag is there
    tag_there : (e : PlainEvent) (es : List PlainEvent) → events ≡ (xs ++ e ∷ []) ++ es → is_listed (id_of e) set ≡ true → (c : ℕ) → id_of e ≡ any.Commit c → has_id ys (any.Commit (base c)) ≡ true
    tag_there e es is gone c own =
        let b = base_before selected events h (xs ++ e ∷ []) es is c (ap (has_id (xs ++ e ∷ [])) (sym own) ∙ has_own xs [] e) in
        elim (or_cases (has_id xs (any.Commit (base c))) (has_id (e ∷ []) (any.Commit (base c))) (sym (has_id_append xs (e ∷ []) (any.Commit (base c))) ∙ b.0)) [
          | inl before ↦ i (any.Commit (base c)) before b.1
          | inr it ↦ absurd (true≢false (sym gone ∙ ap (λ d. is_listed d set) (sym (own_is e (any.Commit (base c)) it)) ∙ b.1))
        ]

  -- ---- all events

  in_order_from : (k : ℕ) (xs ys es : List PlainEvent) → events ≡ xs ++ es → Holds xs ys → AreInOrder xs es → AllByRecursion (λ e. is_listed (id_of e) set ≡ becomes_tag selected e) es → AreInOrder ys (in_place selected events k es)
  in_order_from k xs ys [] is i s t = tt
  in_order_from k xs ys (e ∷ es) is i s t =
      go (becomes_tag selected e) refl (λ m zs j. in_order_from m (xs ++ e ∷ []) zs es next j s.1 t.1)
    where
      next : events ≡ (xs ++ e ∷ []) ++ es
      next = is ∙ sym (append_assoc xs (e ∷ []) es)

      go : (b : Bool) → becomes_tag selected e ≡ b → ((m : ℕ) (zs : List PlainEvent) → Holds (xs ++ e ∷ []) zs → AreInOrder zs (in_place selected events m es))
          → AreInOrder ys (cond b (new_tag selected events k e ∷ in_place selected events (k + 1) es) (moved selected events e ∷ in_place selected events k es))
      go true b rest =
          let x = new_tag selected events k e in
          let gone = t.0 ∙ b in (
            tag_ready selected events h ys k e b (λ c own. tag_there xs ys i e es next gone c own),
            rest (k + 1) (ys ++ x ∷ []) (holds_tag xs ys e x gone i),
          )
      go false b rest = (moved_ready xs ys i (e ∷ es) is e s.0, rest k (ys ++ moved selected events e ∷ []) (holds_moved xs ys e i))

  pub in_order : (next : ℕ) → AreInOrder [] (in_place selected events next events)
  in_order next = in_order_from next [] [] events refl (λ id k s. k) (in_parts events h).in_order (tagged_each selected events h)

  -- what is left is swept and settled as it is
  pub tagified_is : (next : ℕ) → tagified selected events next ≡ Ok (in_place selected events next events)
  tagified_is next =
      ap (λ (l : List PlainEvent). settle (swept events l)) (left_is selected events h next)
      ∙ ap settle (in_place_unswept selected events next)
      ∙ in_order_stays (in_place selected events next events) (in_order next)
