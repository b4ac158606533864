-- Events that don't have a field stay.
use Rattle.std.proofs.Common.{◌≡◌, refl}
use Rattle.plain_model.specs.declared.event.PlainEvent.{PlainEvent}
use Rattle.plain_model.specs.declared.event.PlainEvent.TheVariants.{Blob, Commit, Tag, Reset, Pass}
use Rattle.plain_model.specs.Paths.{Bytes}
use Rattle.event_fields.specs.declared.field.Field.TheVariants as field
use Rattle.people_laws.specs.Values.{with_text}
use Rattle.people_edit.proofs.OtherKinds.{NoCommit, NoReset, NoTag}

pub no_comment : (value : Bytes) (e : PlainEvent) → NoCommit e → NoTag e → with_text field.Comment value e ≡ e
no_comment value (Commit id mark branch author committer encoding comment parents ops aliases) c t =
    absurd (c id mark branch author committer encoding comment parents ops aliases refl)
no_comment value (Tag id name target tagger comment mark) c t = absurd (t id name target tagger comment mark refl)
no_comment value (Blob id mark bytes) c t = refl
no_comment value (Reset id branch target) c t = refl
no_comment value (Pass id line) c t = refl

pub no_branch : (value : Bytes) (e : PlainEvent) → NoCommit e → NoReset e → with_text field.Branch value e ≡ e
no_branch value (Commit id mark branch author committer encoding comment parents ops aliases) c r =
    absurd (c id mark branch author committer encoding comment parents ops aliases refl)
no_branch value (Reset id branch target) c r = absurd (r id branch target refl)
no_branch value (Blob id mark bytes) c r = refl
no_branch value (Tag id name target tagger comment mark) c r = refl
no_branch value (Pass id line) c r = refl

pub no_name : (value : Bytes) (e : PlainEvent) → NoTag e → with_text field.Name value e ≡ e
no_name value (Tag id name target tagger comment mark) t = absurd (t id name target tagger comment mark refl)
no_name value (Commit id mark branch author committer encoding comment parents ops aliases) t = refl
no_name value (Blob id mark bytes) t = refl
no_name value (Reset id branch target) t = refl
no_name value (Pass id line) t = refl
