-- Which blobs are there and named, after sweeping and settling.
use Rattle.std.proofs.Common.{◌≡◌, ℕ, Bool, true, false, cond, not, List, [], ◌∷◌, ◌++◌, filter, refl, sym, ap, ◌∙◌, inl, inr, arith, eqb-true, true≢false, Ok}
use Rattle.std.specs.Prelude.{◌||◌, ◌&&◌, ◌==◌}
use Rattle.std.proofs.lemmas.Bool.{cases_Bool}
use Rattle.std.proofs.lemmas.List.Folds.{list_any-append}
use Rattle.std.proofs.Math.Bool.{and-false}
use Rattle.plain_model.specs.declared.id.AnyId.TheVariants as any
use Rattle.plain_model.specs.declared.event.PlainEvent.{PlainEvent}
use Rattle.plain_model.specs.declared.event.PlainEvent.TheVariants.{Blob, Commit, Tag, Reset, Pass}
use Rattle.plain_model.specs.Lookups.{is_listed, referents_of}
use Rattle.plain_model.specs.Soundness.{has_id}
use Rattle.edit_laws.specs.Parts.{one_if, tally}
use Rattle.edit_laws.specs.Settling.{settle}
use Rattle.edit_laws.specs.Sweeping.{is_left_over, is_named, swept}
use Rattle.history_laws.proofs.Ids.{has_id_append}
use Rattle.edit_laws.proofs.Lists.{none_passing, some_passing}
use Rattle.edit_laws.proofs.Settles.{settled_ids, settled_sums}

-- ---- what settling leaves is named as it was

named_join : (b : ℕ) (xs ys : List PlainEvent) → is_named (xs ++ ys) b ≡ is_named xs b || is_named ys b
named_join b xs ys = list_any-append (λ e. is_listed (any.Blob b) (referents_of e)) xs ys

pub settled_named : (events new : List PlainEvent) → settle events ≡ Ok new → (b : ℕ) → is_named new b ≡ is_named events b
settled_named events new is b = go (is_named new b) (is_named events b) refl refl
  where
    same : tally (λ e. one_if (is_named (e ∷ []) b)) new ≡ tally (λ e. one_if (is_named (e ∷ []) b)) events
    same = settled_sums events new is (λ e. one_if (is_named (e ∷ []) b))

    go : (x y : Bool) → is_named new b ≡ x → is_named events b ≡ y → is_named new b ≡ is_named events b
    go true true f g = f ∙ sym g
    go false false f g = f ∙ sym g
    go true false f g =
        let some = some_passing (λ l. is_named l b) (named_join b) refl new f in
        let none = none_passing (λ l. is_named l b) (named_join b) refl events g in
        let is_same = same in
        absurd (omega arith)
    go false true f g =
        let some = some_passing (λ l. is_named l b) (named_join b) refl events g in
        let none = none_passing (λ l. is_named l b) (named_join b) refl new f in
        let is_same = same in
        absurd (omega arith)

-- ---- what sweeping leaves

module _ (old new : List PlainEvent) where
  abbrev kept : PlainEvent → Bool
  kept e = not (is_left_over old new e)

  -- a blob isn't one that was named, and is not now
  abbrev stays : ℕ → Bool
  stays b = not (is_named old b && not (is_named new b))

  names_none : (e : PlainEvent) (b : ℕ) → kept e ≡ false → is_listed (any.Blob b) (referents_of e) ≡ false
  names_none (Blob id mark bytes) b h = refl
  names_none (Commit id mark branch author committer encoding comment parents ops aliases) b h = absurd (true≢false h)
  names_none (Tag id name target tagger comment mark) b h = absurd (true≢false h)
  names_none (Reset id branch target) b h = absurd (true≢false h)
  names_none (Pass id line) b h = absurd (true≢false h)

  named_left : (es : List PlainEvent) (b : ℕ) → is_named (filter kept es) b ≡ is_named es b
  named_left [] b = refl
  named_left (e ∷ es) b =
      let rest = named_left es b in
      elim (cases_Bool (kept e)) [
        | inl stays ↦ ap (λ t. is_named (cond t (e ∷ filter kept es) (filter kept es)) b) stays ∙ ap (λ t. is_listed (any.Blob b) (referents_of e) || t) rest
        | inr goes ↦ ap (λ t. is_named (cond t (e ∷ filter kept es) (filter kept es)) b) goes ∙ rest ∙ sym (ap (λ t. t || is_named es b) (names_none e b goes))
      ]

  pub swept_named : (b : ℕ) → is_named (swept old new) b ≡ is_named new b
  swept_named b = named_left new b

  kept_blob : (e : PlainEvent) (b : ℕ) → has_id (e ∷ []) (any.Blob b) ≡ true → kept e ≡ stays b
  kept_blob (Blob id mark bytes) b h = ap stays (eqb-true id b (one (id == b) h))
    where
      one : (x : Bool) → x || false ≡ true → x ≡ true
      one true h = refl
      one false h = absurd (true≢false (sym h))
  kept_blob (Commit id mark branch author committer encoding comment parents ops aliases) b h = absurd (true≢false (sym h))
  kept_blob (Tag id name target tagger comment mark) b h = absurd (true≢false (sym h))
  kept_blob (Reset id branch target) b h = absurd (true≢false (sym h))
  kept_blob (Pass id line) b h = absurd (true≢false (sym h))

  blobs_left : (es : List PlainEvent) (b : ℕ) → has_id (filter kept es) (any.Blob b) ≡ has_id es (any.Blob b) && stays b
  blobs_left [] b = refl
  blobs_left (e ∷ es) b =
      elim (cases_Bool (has_id (e ∷ []) (any.Blob b))) [
        | inl own ↦ it own (stays b) (kept_blob e b own) (blobs_left es b)
        | inr other ↦ other_one other (kept e) refl ∙ blobs_left es b ∙ ap (λ x. x && stays b) (sym (more es ∙ ap (λ x. x || has_id es (any.Blob b)) other))
      ]
    where
      more : (l : List PlainEvent) → has_id (e ∷ l) (any.Blob b) ≡ has_id (e ∷ []) (any.Blob b) || has_id l (any.Blob b)
      more l = has_id_append (e ∷ []) l (any.Blob b)

      it : has_id (e ∷ []) (any.Blob b) ≡ true → (k : Bool) → kept e ≡ k → has_id (filter kept es) (any.Blob b) ≡ has_id es (any.Blob b) && k
          → has_id (cond (kept e) (e ∷ filter kept es) (filter kept es)) (any.Blob b) ≡ has_id (e ∷ es) (any.Blob b) && k
      it own true is rest =
          ap (λ t. has_id (cond t (e ∷ filter kept es) (filter kept es)) (any.Blob b)) is
          ∙ more (filter kept es)
          ∙ ap (λ x. x || has_id (filter kept es) (any.Blob b)) own
          ∙ sym (ap (λ x. x && true) (more es ∙ ap (λ x. x || has_id es (any.Blob b)) own))
      it own false is rest =
          ap (λ t. has_id (cond t (e ∷ filter kept es) (filter kept es)) (any.Blob b)) is
          ∙ rest
          ∙ and-false (has_id es (any.Blob b))
          ∙ sym (and-false (has_id (e ∷ es) (any.Blob b)))

      other_one : has_id (e ∷ []) (any.Blob b) ≡ false → (k : Bool) → kept e ≡ k → has_id (cond (kept e) (e ∷ filter kept es) (filter kept es)) (any.Blob b) ≡ has_id (filter kept es) (any.Blob b)
      other_one other true is =
          ap (λ t. has_id (cond t (e ∷ filter kept es) (filter kept es)) (any.Blob b)) is
          ∙ more (filter kept es)
          ∙ ap (λ x. x || has_id (filter kept es) (any.Blob b)) other
      other_one other false is = ap (λ t. has_id (cond t (e ∷ filter kept es) (filter kept es)) (any.Blob b)) is

  -- a blob goes that was named, and is named no more
  pub swept_blob : (b : ℕ) → has_id (swept old new) (any.Blob b) ≡ has_id new (any.Blob b) && not (is_named old b && not (is_named (swept old new) b))
  swept_blob b = blobs_left new b ∙ ap (λ x. has_id new (any.Blob b) && not (is_named old b && not x)) (sym (swept_named b))

  -- the blobs that are there after sweeping and settling
  pub blobs_after : (end : List PlainEvent) → settle (swept old new) ≡ Ok end → (b : ℕ) → has_id end (any.Blob b) ≡ has_id new (any.Blob b) && not (is_named old b && not (is_named end b))
  blobs_after end is b =
      settled_ids (swept old new) end is (any.Blob b)
      ∙ blobs_left new b
      ∙ ap (λ x. has_id new (any.Blob b) && not (is_named old b && not x)) (sym (swept_named b) ∙ sym (settled_named (swept old new) end is b))
