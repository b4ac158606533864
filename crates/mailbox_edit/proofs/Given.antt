-- What headers give in a role.
use Rattle.std.proofs.Common.{◌≡◌, List, Option, Some, None, refl, sym, subst, true≢false}
use Rattle.std.specs.Prelude.{IfSome, IsSome, IsTrue}
use Rattle.plain_model.specs.declared.id.AnyId.{AnyId}
use Rattle.plain_model.specs.declared.person.Signed.{Signed}
use Rattle.plain_model.specs.declared.event.PlainEvent.{PlainEvent}
use Rattle.plain_model.specs.declared.event.PlainEvent.TheVariants.{Blob, Commit, Tag, Reset, Pass}
use Rattle.plain_model.specs.Lookups.{find_event, id_of}
use Rattle.plain_model.specs.Paths.{Bytes}
use Rattle.history_laws.proofs.Ids.{find_id}
use Rattle.event_arena.specs.Changes.{changed, has_signed, with_comment, with_signed}
use Rattle.event_arena.specs.Graphs.{Change}
use Rattle.plan_steps.proofs.Steps.{changed_alike, kept}
use Rattle.event_arena.specs.declared.field.Role.{Role}
use Rattle.event_arena.specs.declared.field.Role.TheVariants.{Author, Committer, Tagger}
use Rattle.mailbox_reader.specs.declared.reading.Header.{Header}
use Rattle.mailbox_edit.specs.Landings.{IsGiven, given, with_given}

pub given_id : (role : Role) (who when : Option Header) (e : PlainEvent) → id_of (with_given role who when e) ≡ id_of e
given_id Author who when (Commit id mark branch author committer encoding comment parents ops aliases) = refl
given_id Author who when (Blob id mark bytes) = refl
given_id Author who when (Tag id name target tagger comment mark) = refl
given_id Author who when (Reset id branch target) = refl
given_id Author who when (Pass id line) = refl
given_id Committer who when (Commit id mark branch author committer encoding comment parents ops aliases) = refl
given_id Committer who when (Blob id mark bytes) = refl
given_id Committer who when (Tag id name target tagger comment mark) = refl
given_id Committer who when (Reset id branch target) = refl
given_id Committer who when (Pass id line) = refl
given_id Tagger who when (Tag id name target tagger comment mark) = refl
given_id Tagger who when (Commit id mark branch author committer encoding comment parents ops aliases) = refl
given_id Tagger who when (Blob id mark bytes) = refl
given_id Tagger who when (Reset id branch target) = refl
given_id Tagger who when (Pass id line) = refl

pub comment_id : (new : Bytes) (e : PlainEvent) → id_of (with_comment new e) ≡ id_of e
comment_id new (Commit id mark branch author committer encoding comment parents ops aliases) = refl
comment_id new (Tag id name target tagger comment mark) = refl
comment_id new (Blob id mark bytes) = refl
comment_id new (Reset id branch target) = refl
comment_id new (Pass id line) = refl

-- ---- in a plan

-- the role is one of its event
pub field_there : (es : List PlainEvent) (id : AnyId) (role : Role) (who when : Option Header) (o : Option Signed) (s : Signed) → o ≡ Some s → IsSome (find_event id es)
    → IfSome (find_event id es) (IsGiven role who when o) → IsTrue (has_signed role id)
field_there es id role who when o s is there given = go (find_event id es) refl there given
  where
    go : (f : Option PlainEvent) → find_event id es ≡ f → IsSome f → IfSome f (IsGiven role who when o) → IsTrue (has_signed role id)
    go None found none h = absurd (true≢false (sym none))
    go (Some e) found some h =
        subst (λ (x : AnyId). IsTrue (has_signed role x)) (sym (find_id id es e found)) (subst (λ (m : Option Signed). IsGiven role who when m e) is h).1

-- what is put in is what headers give
pub given_put : (es : List PlainEvent) (id : AnyId) (role : Role) (who when : Option Header) (o : Option Signed) (s : Signed) → o ≡ Some s
    → IfSome (find_event id es) (IsGiven role who when o) → changed id (with_signed role s) es ≡ changed id (with_given role who when) es
given_put es id role who when o s is given = changed_alike id (with_signed role s) (with_given role who when) es (go (find_event id es) given)
  where
    go : (f : Option PlainEvent) → IfSome f (IsGiven role who when o) → IfSome f (λ e. with_signed role s e ≡ with_given role who when e)
    go None h = tt
    go (Some e) h = (subst (λ (m : Option Signed). IsGiven role who when m e) is h).0

-- nothing is to be put in
pub given_kept : (plan : Change) (id : AnyId) (role : Role) (who when : Option Header) (o : Option Signed) → o ≡ None
    → IfSome (find_event id plan.after) (IsGiven role who when o) → plan ≡ record plan { after = changed id (with_given role who when) plan.after }
given_kept plan id role who when o is given = kept plan id (with_given role who when) (go (find_event id plan.after) given)
  where
    go : (f : Option PlainEvent) → IfSome f (IsGiven role who when o) → IfSome f (λ e. with_given role who when e ≡ e)
    go None h = tt
    go (Some e) h = subst (λ (m : Option Signed). IsGiven role who when m e) is h
