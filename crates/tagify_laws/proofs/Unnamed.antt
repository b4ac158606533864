-- No blob loses its last name, so nothing is swept.
use Rattle.std.proofs.Common.{◌≡◌, ℕ, ◌+◌, Bool, true, false, cond, not, List, [], ◌∷◌, ◌++◌, filter, map, refl, sym, ap, ◌∙◌, Some, None}
use Rattle.std.specs.Prelude.{◌&&◌, ◌||◌, flat_map}
use Rattle.std.specs.List.{AllByRecursion}
use Rattle.plain_model.specs.declared.id.AnyId.{AnyId}
use Rattle.plain_model.specs.declared.id.AnyId.TheVariants as any
use Rattle.plain_model.specs.declared.operation.FileOp.{FileOp}
use Rattle.plain_model.specs.declared.event.PlainEvent.{PlainEvent}
use Rattle.plain_model.specs.declared.event.PlainEvent.TheVariants.{Blob, Commit, Tag, Reset, Pass}
use Rattle.plain_model.specs.Lookups.{is_listed, op_blobs}
use Rattle.edit_laws.specs.Removal.{once_each}
use Rattle.edit_laws.specs.Sweeping.{is_left_over, is_named, swept}
use Rattle.squash_laws.specs.Removed.{is_removed}
use Rattle.tagify_laws.specs.InPlace.{in_place, moved}
use Rattle.tagify_laws.specs.Tagify.{base_of, becomes_tag, has_one_parent, new_tag}
use Rattle.tagify_laws.proofs.Tagged.{no_ops}
use Rattle.squash_laws.specs.Takings.{is_none}

all_kept : (test : PlainEvent → Bool) (es : List PlainEvent) → AllByRecursion (λ e. test e ≡ true) es → filter test es ≡ es
all_kept test [] a = refl
all_kept test (e ∷ es) a = λ i. cond (a.0 i) (e ∷ all_kept test es a.1 i) (all_kept test es a.1 i)

-- parents are no blobs
past_parents : (b : ℕ) (ps : List ℕ) (rest : List AnyId) → is_listed (any.Blob b) (map any.Commit ps ++ rest) ≡ is_listed (any.Blob b) rest
past_parents b [] rest = refl
past_parents b (p ∷ ps) rest = past_parents b ps rest

module _ (selected : List AnyId) (events : List PlainEvent) where
  -- a commit that becomes a tag names no blob
  names_none : (b id : ℕ) (parents : List ℕ) (ops : List FileOp) → is_removed selected id && is_none ops && has_one_parent parents ≡ true → is_listed (any.Blob b) (map any.Commit parents ++ flat_map op_blobs ops) ≡ false
  names_none b id parents ops h =
      past_parents b parents (flat_map op_blobs ops)
      ∙ ap (λ (o : List FileOp). is_listed (any.Blob b) (flat_map op_blobs o)) (no_ops selected id parents ops h)

  named_same : (k : ℕ) (es : List PlainEvent) (b : ℕ) → is_named (in_place selected events k es) b ≡ is_named es b
  named_same k [] b = refl
  named_same k (Commit id mark branch author committer encoding comment parents ops aliases ∷ es) b =
      go (becomes_tag selected (Commit id mark branch author committer encoding comment parents ops aliases)) refl (named_same (k + 1) es b) (named_same k es b)
    where
      go : (t : Bool) → is_removed selected id && is_none ops && has_one_parent parents ≡ t → is_named (in_place selected events (k + 1) es) b ≡ is_named es b → is_named (in_place selected events k es) b ≡ is_named es b
          → is_named (cond t (new_tag selected events k (Commit id mark branch author committer encoding comment parents ops aliases) ∷ in_place selected events (k + 1) es) (moved selected events (Commit id mark branch author committer encoding comment parents ops aliases) ∷ in_place selected events k es)) b
          ≡ is_listed (any.Blob b) (map any.Commit parents ++ flat_map op_blobs ops) || is_named es b
      go true is more same = more ∙ ap (λ x. x || is_named es b) (sym (names_none b id parents ops is))
      go false is more same = λ i. (past_parents b (once_each (map (base_of selected events) parents)) (flat_map op_blobs ops) ∙ sym (past_parents b parents (flat_map op_blobs ops))) i || same i
  named_same k (Blob id mark bytes ∷ es) b = named_same k es b
  named_same k (Tag id name target tagger comment mark ∷ es) b = named_same k es b
  named_same k (Reset id branch None ∷ es) b = named_same k es b
  named_same k (Reset id branch (Some target) ∷ es) b = named_same k es b
  named_same k (Pass id line ∷ es) b = named_same k es b

  no_both : (b : Bool) → not (b && not b) ≡ true
  no_both true = refl
  no_both false = refl

  module _ (new : List PlainEvent) (same : (b : ℕ) → is_named new b ≡ is_named events b) where
    abbrev kept : PlainEvent → Bool
    kept e = not (is_left_over events new e)

    blob_kept : (b : ℕ) → not (is_named events b && not (is_named new b)) ≡ true
    blob_kept b = ap (λ x. not (is_named events b && not x)) (same b) ∙ no_both (is_named events b)

    each_kept : (es : List PlainEvent) → AllByRecursion (λ e. kept e ≡ true) es
    each_kept [] = tt
    each_kept (Blob id mark bytes ∷ es) = (blob_kept id, each_kept es)
    each_kept (Commit id mark branch author committer encoding comment parents ops aliases ∷ es) = (refl, each_kept es)
    each_kept (Tag id name target tagger comment mark ∷ es) = (refl, each_kept es)
    each_kept (Reset id branch target ∷ es) = (refl, each_kept es)
    each_kept (Pass id line ∷ es) = (refl, each_kept es)

    nothing_swept : swept events new ≡ new
    nothing_swept = all_kept kept new (each_kept new)

  pub in_place_unswept : (next : ℕ) → swept events (in_place selected events next events) ≡ in_place selected events next events
  in_place_unswept next = nothing_swept (in_place selected events next events) (named_same next events)
