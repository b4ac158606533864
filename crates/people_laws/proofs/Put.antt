-- Authors that are put in change people alone.
use Rattle.std.proofs.Common.{◌≡◌, ◌∙◌, List, map, refl, sym, ap, subst, Option, Some, None, Result, Ok, Err, ℕ}
use Rattle.std.specs.Prelude.{IfSome, unwrap_or}
use Rattle.std.specs.List.{AllByRecursion}
use Rattle.plain_model.specs.declared.person.Person.{Person}
use Rattle.plain_model.specs.declared.person.Signed.{Signed}
use Rattle.plain_model.specs.declared.event.PlainEvent.{PlainEvent}
use Rattle.plain_model.specs.declared.event.PlainEvent.TheVariants.{Blob, Commit, Tag, Reset, Pass}
use Rattle.plain_model.specs.Paths.{Bytes}
use Rattle.plain_model.specs.Soundness.{IsFormedSigned, IsSound}
use Rattle.edit_laws.specs.Parts.{IsLawful}
use Rattle.edit_laws.proofs.Sound.{in_parts}
use Rattle.mailbox_laws.specs.Words.{HaveOtherWords, wordless}
use Rattle.mailbox_laws.proofs.SoundBare.{sound_kept}
use Rattle.mailbox_laws.proofs.Wordless.{words_alike}
use Rattle.people_laws.specs.Alike.{unnamed, with_people}
use Rattle.people_laws.specs.Authors.{Author, all_authored, authored, authored_by, authors_in, authors_of, person_for, resigned}
use Rattle.people_laws.proofs.Clean.{IsCleanPerson, file_clean, person_clean}
use Rattle.people_laws.proofs.Each.{all_still, map_same}

module _ (find : Bytes → Option Person) where
  people_alone : (e : PlainEvent) → with_people unnamed (authored find e) ≡ with_people unnamed e
  people_alone (Commit id mark branch author committer encoding comment parents ops aliases) = refl
  people_alone (Blob id mark bytes) = refl
  people_alone (Tag id name target None comment mark) = refl
  people_alone (Tag id name target (Some tagger) comment mark) = refl
  people_alone (Reset id branch target) = refl
  people_alone (Pass id line) = refl

  words_alone : (e : PlainEvent) → wordless (authored find e) ≡ wordless e
  words_alone (Commit id mark branch author committer encoding comment parents ops aliases) = refl
  words_alone (Blob id mark bytes) = refl
  words_alone (Tag id name target None comment mark) = refl
  words_alone (Tag id name target (Some tagger) comment mark) = refl
  words_alone (Reset id branch target) = refl
  words_alone (Pass id line) = refl

  module _ (clean : (email : Bytes) → IfSome (find email) IsCleanPerson) where
    still_formed : (who : Signed) → IsFormedSigned who → IsFormedSigned (resigned find who)
    still_formed who f = go (find who.person.email) (clean who.person.email)
      where
        go : (o : Option Person) → IfSome o IsCleanPerson → IsFormedSigned (record who { person = unwrap_or o who.person })
        go None c = f
        go (Some p) c = (c, f.1, f.2)

    still_lawful : (e : PlainEvent) → IsLawful e → IsLawful (authored find e)
    still_lawful (Commit id mark branch author committer encoding comment parents ops aliases) l =
        (l.0, still_formed author l.1, still_formed committer l.2, l.3, l.4, l.5, l.6)
    still_lawful (Blob id mark bytes) l = l
    still_lawful (Tag id name target None comment mark) l = l
    still_lawful (Tag id name target (Some tagger) comment mark) l = (l.0, still_formed tagger l.1)
    still_lawful (Reset id branch target) l = l
    still_lawful (Pass id line) l = l

-- ---- a file

module _ (bytes : Bytes) (events new : List PlainEvent) (done : authors_of bytes events ≡ Ok new) where
  pub put_is : (authors : List Author) × (authors_in bytes ≡ Ok authors) × (all_authored (person_for authors) events ≡ new)
  put_is = go (authors_in bytes) refl done
    where
      go : (r : Result (List Author) ℕ) → authors_in bytes ≡ r → authored_by r events ≡ Ok new
          → (authors : List Author) × (authors_in bytes ≡ Ok authors) × (all_authored (person_for authors) events ≡ new)
      go (Ok authors) is d = (authors, is, cc)
      go (Err line) is d = absurd cc

  pub put_people : map (with_people unnamed) new ≡ map (with_people unnamed) events
  put_people =
      let p = put_is in
      ap (map (with_people unnamed)) (sym p.2) ∙ map_same (authored (person_for p.0)) (with_people unnamed) (people_alone (person_for p.0)) events

  pub put_words : HaveOtherWords events new
  put_words = let p = put_is in ap (map wordless) (sym p.2) ∙ map_same (authored (person_for p.0)) wordless (words_alone (person_for p.0)) events

  pub put_sound : IsSound events → IsSound new
  put_sound h =
      let p = put_is in
      let clean = file_clean bytes p.0 p.1 in
      sound_kept events new h (words_alike events new put_words)
      (subst (AllByRecursion IsLawful) p.2
      (all_still (authored (person_for p.0)) IsLawful (still_lawful (person_for p.0) (λ email. person_clean p.0 email clean)) events
      (in_parts events h).lawful))
