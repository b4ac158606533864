-- Operations that stay, and commits that are without void ones.
use Rattle.std.proofs.Common.{◌≡◌, true, false, List, refl, sym, ap, None}
use Rattle.plain_model.specs.declared.id.AnyId.{AnyId}
use Rattle.plain_model.specs.declared.event.PlainEvent.{PlainEvent}
use Rattle.plain_model.specs.declared.event.PlainEvent.TheVariants.{Blob, Commit, Tag, Reset, Pass}
use Rattle.plain_model.specs.Lookups.{commit_id, id_of, is_listed}
use Rattle.simplify_laws.specs.Simplify.{ops_left, simplified_event}
use Rattle.coalesce_simplify.specs.Voiding.{simple_event}

-- what isn't a commit has none that are void
pub no_commit : (e : PlainEvent) → commit_id e ≡ None → simple_event e ≡ e
no_commit (Commit id mark branch author committer encoding comment parents ops aliases) h = absurd cc
no_commit (Blob id mark bytes) h = refl
no_commit (Tag id name target tagger comment mark) h = refl
no_commit (Reset id branch target) h = refl
no_commit (Pass id line) h = refl

module _ (set : List AnyId) where
  -- an event of the set is without void operations
  pub chosen_simple : (e : PlainEvent) → is_listed (id_of e) set ≡ true → simple_event e ≡ simplified_event set e
  chosen_simple (Commit id mark branch author committer encoding comment parents ops aliases) h =
      ap (λ b. Commit id mark branch author committer encoding comment parents (ops_left b ops) aliases) (sym h)
  chosen_simple (Blob id mark bytes) h = refl
  chosen_simple (Tag id name target tagger comment mark) h = refl
  chosen_simple (Reset id branch target) h = refl
  chosen_simple (Pass id line) h = refl

  -- another one stays as it is
  pub other_same : (e : PlainEvent) → is_listed (id_of e) set ≡ false → simplified_event set e ≡ e
  other_same (Commit id mark branch author committer encoding comment parents ops aliases) h =
      ap (λ b. Commit id mark branch author committer encoding comment parents (ops_left b ops) aliases) h
  other_same (Blob id mark bytes) h = refl
  other_same (Tag id name target tagger comment mark) h = refl
  other_same (Reset id branch target) h = refl
  other_same (Pass id line) h = refl

  -- each event keeps its id
  pub same_id_of : (e : PlainEvent) → id_of (simplified_event set e) ≡ id_of e
  same_id_of (Commit id mark branch author committer encoding comment parents ops aliases) = refl
  same_id_of (Blob id mark bytes) = refl
  same_id_of (Tag id name target tagger comment mark) = refl
  same_id_of (Reset id branch target) = refl
  same_id_of (Pass id line) = refl
