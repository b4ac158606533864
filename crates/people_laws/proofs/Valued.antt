-- A value that is set changes its field alone.
use Rattle.std.proofs.Common.{◌≡◌, Bool, true, false, cond, List, Some, None, map, refl, ap}
use Rattle.std.specs.Prelude.{IsTrue}
use Rattle.plain_model.specs.declared.id.AnyId.{AnyId}
use Rattle.plain_model.specs.declared.event.PlainEvent.{PlainEvent}
use Rattle.plain_model.specs.declared.event.PlainEvent.TheVariants.{Blob, Commit, Tag, Reset, Pass}
use Rattle.plain_model.specs.Lookups.{id_of, is_listed}
use Rattle.plain_model.specs.Paths.{Bytes}
use Rattle.plain_model.specs.Soundness.{IsSound}
use Rattle.edit_laws.specs.Parts.{IsLawful}
use Rattle.edit_laws.proofs.Sound.{in_parts}
use Rattle.event_arena.specs.Changes.{without_all}
use Rattle.event_fields.specs.Values.{PlainValue, is_value}
use Rattle.event_fields.specs.declared.field.Field.{Field}
use Rattle.event_fields.specs.declared.field.Field.TheVariants as field
use Rattle.mailbox_laws.specs.Words.{wordless}
use Rattle.mailbox_laws.proofs.Bare.{AreAlike}
use Rattle.mailbox_laws.proofs.SoundBare.{sound_kept}
use Rattle.people_laws.specs.Alike.{HaveOther, unlabeled}
use Rattle.people_laws.specs.Values.{set_field_of, valued_in, with_text}
use Rattle.people_laws.proofs.Each.{all_still, map_same, others_same}
use Rattle.people_laws.proofs.Labels.{other_alike}

-- what is looked at where one field isn't
abbrev erased : Field → PlainEvent → PlainEvent
erased field.Comment e = wordless e
erased field.Branch e = unlabeled e
erased field.Name e = unlabeled e

same_id : (what : Field) (value : Bytes) (e : PlainEvent) → id_of (with_text what value e) ≡ id_of e
same_id field.Comment value (Commit id mark branch author committer encoding comment parents ops aliases) = refl
same_id field.Comment value (Blob id mark bytes) = refl
same_id field.Comment value (Tag id name target tagger comment mark) = refl
same_id field.Comment value (Reset id branch target) = refl
same_id field.Comment value (Pass id line) = refl
same_id field.Branch value (Commit id mark branch author committer encoding comment parents ops aliases) = refl
same_id field.Branch value (Blob id mark bytes) = refl
same_id field.Branch value (Tag id name target tagger comment mark) = refl
same_id field.Branch value (Reset id branch target) = refl
same_id field.Branch value (Pass id line) = refl
same_id field.Name value (Commit id mark branch author committer encoding comment parents ops aliases) = refl
same_id field.Name value (Blob id mark bytes) = refl
same_id field.Name value (Tag id name target tagger comment mark) = refl
same_id field.Name value (Reset id branch target) = refl
same_id field.Name value (Pass id line) = refl

same_but : (what : Field) (value : Bytes) (e : PlainEvent) → erased what (with_text what value e) ≡ erased what e
same_but field.Comment value (Commit id mark branch author committer encoding comment parents ops aliases) = refl
same_but field.Comment value (Blob id mark bytes) = refl
same_but field.Comment value (Tag id name target None comment mark) = refl
same_but field.Comment value (Tag id name target (Some tagger) comment mark) = refl
same_but field.Comment value (Reset id branch target) = refl
same_but field.Comment value (Pass id line) = refl
same_but field.Branch value (Commit id mark branch author committer encoding comment parents ops aliases) = refl
same_but field.Branch value (Blob id mark bytes) = refl
same_but field.Branch value (Tag id name target tagger comment mark) = refl
same_but field.Branch value (Reset id branch target) = refl
same_but field.Branch value (Pass id line) = refl
same_but field.Name value (Commit id mark branch author committer encoding comment parents ops aliases) = refl
same_but field.Name value (Blob id mark bytes) = refl
same_but field.Name value (Tag id name target tagger comment mark) = refl
same_but field.Name value (Reset id branch target) = refl
same_but field.Name value (Pass id line) = refl

-- the second value counts
twice : (what : Field) (value other : Bytes) (e : PlainEvent)
    → with_text what other (with_text what value e) ≡ with_text what other e
twice field.Comment value other (Commit id mark branch author committer encoding comment parents ops aliases) = refl
twice field.Comment value other (Blob id mark bytes) = refl
twice field.Comment value other (Tag id name target tagger comment mark) = refl
twice field.Comment value other (Reset id branch target) = refl
twice field.Comment value other (Pass id line) = refl
twice field.Branch value other (Commit id mark branch author committer encoding comment parents ops aliases) = refl
twice field.Branch value other (Blob id mark bytes) = refl
twice field.Branch value other (Tag id name target tagger comment mark) = refl
twice field.Branch value other (Reset id branch target) = refl
twice field.Branch value other (Pass id line) = refl
twice field.Name value other (Commit id mark branch author committer encoding comment parents ops aliases) = refl
twice field.Name value other (Blob id mark bytes) = refl
twice field.Name value other (Tag id name target tagger comment mark) = refl
twice field.Name value other (Reset id branch target) = refl
twice field.Name value other (Pass id line) = refl

still_lawful : (what : Field) (value : Bytes) → IsTrue (is_value what value) → (e : PlainEvent) → IsLawful e
    → IsLawful (with_text what value e)
still_lawful field.Comment value v (Commit id mark branch author committer encoding comment parents ops aliases) l = l
still_lawful field.Comment value v (Blob id mark bytes) l = l
still_lawful field.Comment value v (Tag id name target tagger comment mark) l = l
still_lawful field.Comment value v (Reset id branch target) l = l
still_lawful field.Comment value v (Pass id line) l = l
still_lawful field.Branch value v (Commit id mark branch author committer encoding comment parents ops aliases) l = (v, l.1, l.2, l.3, l.4, l.5, l.6)
still_lawful field.Branch value v (Blob id mark bytes) l = l
still_lawful field.Branch value v (Tag id name target tagger comment mark) l = l
still_lawful field.Branch value v (Reset id branch target) l = v
still_lawful field.Branch value v (Pass id line) l = l
still_lawful field.Name value v (Commit id mark branch author committer encoding comment parents ops aliases) l = l
still_lawful field.Name value v (Blob id mark bytes) l = l
still_lawful field.Name value v (Tag id name target tagger comment mark) l = (v, l.1)
still_lawful field.Name value v (Reset id branch target) l = l
still_lawful field.Name value v (Pass id line) l = l

module _ (value : PlainValue) (set : List AnyId) where
  -- what holds of an event, and of it with the value, holds of what becomes of it
  in_set : (P : PlainEvent → PlainEvent → Type 0) → ((e : PlainEvent) → P e e)
      → ((e : PlainEvent) → P e (with_text value.field value.text e)) → (e : PlainEvent)
      → P e (valued_in value set e)
  in_set P own its e = go (is_listed (id_of e) set)
    where
      go : (t : Bool) → P e (cond t (with_text value.field value.text e) e)
      go true = its e
      go false = own e

  pub valued_id : (e : PlainEvent) → id_of (valued_in value set e) ≡ id_of e
  valued_id = in_set (λ e x. id_of x ≡ id_of e) (λ e. refl) (λ e. same_id value.field value.text e)

  module _ (events : List PlainEvent) where
    pub valued_field : (text : Bytes)
        → map (with_text value.field text) (set_field_of value set events) ≡ map (with_text value.field text) events
    valued_field text =
        map_same (valued_in value set) (with_text value.field text)
        (in_set (λ e x. with_text value.field text x ≡ with_text value.field text e) (λ e. refl) (λ e. twice value.field value.text text e))
        events

    pub valued_others : without_all set (set_field_of value set events) ≡ without_all set events
    valued_others =
        others_same (valued_in value set) set valued_id
        (λ e other. ap (λ t. cond t (with_text value.field value.text e) e) other) events

    pub valued_other : HaveOther value.field events (set_field_of value set events)
    valued_other = go value.field
        (map_same (valued_in value set) (erased value.field)
        (in_set (λ e x. erased value.field x ≡ erased value.field e) (λ e. refl) (λ e. same_but value.field value.text e)) events)
      where
        go : (what : Field) → map (erased what) (set_field_of value set events) ≡ map (erased what) events
            → HaveOther what events (set_field_of value set events)
        go field.Comment same = same
        go field.Branch same = same
        go field.Name same = same

    pub valued_alike : AreAlike events (set_field_of value set events)
    valued_alike = other_alike value.field events (set_field_of value set events) valued_other

    pub valued_sound : IsSound events → IsTrue (is_value value.field value.text) → IsSound (set_field_of value set events)
    valued_sound h fits =
        sound_kept events (set_field_of value set events) h valued_alike
        (all_still (valued_in value set) IsLawful
        (in_set (λ e x. IsLawful e → IsLawful x) (λ e l. l) (λ e. still_lawful value.field value.text fits e)) events
        (in_parts events h).lawful)
