-- The mark by which a commit or a blob is named is that of the event with its id.
use Rattle.std.proofs.Common.{◌≡◌, ℕ, inl, inr, List, [], ◌∷◌, Option, refl, sym, ap, eqb}
use Rattle.std.proofs.lemmas.Bool.{cases_Bool}
use Rattle.std.specs.Prelude.{option_map, unwrap_or}
use Rattle.plain_model.specs.declared.id.AnyId.TheVariants as any
use Rattle.plain_model.specs.declared.operation.FileOp.{FileOp}
use Rattle.plain_model.specs.declared.person.Signed.{Signed}
use Rattle.plain_model.specs.declared.event.PlainEvent.{PlainEvent}
use Rattle.plain_model.specs.declared.event.PlainEvent.TheVariants.{Blob, Commit, Tag, Reset, Pass}
use Rattle.plain_model.specs.Lookups.{find_event}
use Rattle.plain_model.specs.Paths.{Bytes}
use Rattle.plain_model.specs.Snapshots.{commit_mark}
use Rattle.plain_model.specs.Text.{blob_mark_in}
use Rattle.plain_model.proofs.Numbers.{eqb_turned}

-- what gives the mark of a commit gives that by which one is named
pub commit_mark_found : (mark_of : PlainEvent → ℕ) →
    ((id mark : ℕ) (branch : Bytes) (author committer : Signed) (encoding : Option Bytes) (comment : Bytes) (parents : List ℕ) (ops : List FileOp) (aliases : List ℕ) →
    mark_of (Commit id mark branch author committer encoding comment parents ops aliases) ≡ mark) →
    (events : List PlainEvent) (c : ℕ) → commit_mark events c ≡ unwrap_or (option_map mark_of (find_event (any.Commit c) events)) 0
commit_mark_found mark_of its [] c = refl
commit_mark_found mark_of its (Commit id mark branch author committer encoding comment parents ops aliases ∷ events) c = elim (cases_Bool (eqb c id)) [
  | inl it ↦ rw (eqb_turned id c, it) (sym (its id mark branch author committer encoding comment parents ops aliases))
  | inr no_it ↦ rw (eqb_turned id c, no_it) (commit_mark_found mark_of its events c)
]
commit_mark_found mark_of its (Blob id mark bytes ∷ events) c = commit_mark_found mark_of its events c
commit_mark_found mark_of its (Tag id name target tagger comment mark ∷ events) c = commit_mark_found mark_of its events c
commit_mark_found mark_of its (Reset id branch target ∷ events) c = commit_mark_found mark_of its events c
commit_mark_found mark_of its (Pass id line ∷ events) c = commit_mark_found mark_of its events c

-- and what gives that of a blob
pub blob_mark_found : (mark_of : PlainEvent → ℕ) → ((id mark : ℕ) (bytes : Bytes) → mark_of (Blob id mark bytes) ≡ mark) →
    (whole events : List PlainEvent) (b : ℕ) → blob_mark_in whole events b ≡ unwrap_or (option_map mark_of (find_event (any.Blob b) events)) 0
blob_mark_found mark_of its whole [] b = refl
blob_mark_found mark_of its whole (Blob id mark bytes ∷ events) b = elim (cases_Bool (eqb b id)) [
  | inl it ↦ rw (eqb_turned id b, it) (sym (its id mark bytes))
  | inr no_it ↦ rw (eqb_turned id b, no_it) (blob_mark_found mark_of its whole events b)
]
blob_mark_found mark_of its whole (Commit id mark branch author committer encoding comment parents ops aliases ∷ events) b = blob_mark_found mark_of its whole events b
blob_mark_found mark_of its whole (Tag id name target tagger comment mark ∷ events) b = blob_mark_found mark_of its whole events b
blob_mark_found mark_of its whole (Reset id branch target ∷ events) b = blob_mark_found mark_of its whole events b
blob_mark_found mark_of its whole (Pass id line ∷ events) b = blob_mark_found mark_of its whole events b
