-- The people that the table of a file puts in a history.
use Rattle.std.proofs.Common.{◌≡◌, ◌∙◌, ℕ, false, List, [], Option, None, Some, Result, Ok, Err, refl, sym, ap}
use Rattle.std.specs.Borrow.{Bor}
use Rattle.std.specs.Prelude.{is_some, option_map, unwrap_or}
use Rattle.plain_model.specs.declared.person.Person.{Person}
use Rattle.plain_model.specs.declared.person.Signed.{Signed}
use Rattle.plain_model.specs.declared.event.PlainEvent.{PlainEvent}
use Rattle.plain_model.specs.declared.event.PlainEvent.TheVariants.{Blob, Commit, Tag, Reset, Pass}
use Rattle.plain_model.specs.Lookups.{id_of}
use Rattle.plain_model.specs.Paths.{Bytes}
use Rattle.people_laws.specs.Authors.{Author, all_authored, authored, authored_by, authors_in, authors_of, resigned}
use Rattle.people_edit.specs.Tables.{put_all, said_for, table_of, tabled}
use Rattle.people_edit.proofs.OtherKinds.{NoCommit, NoTag}
use Rattle.people_edit.proofs.Tabled.{said_is}

-- ---- the whole file

pub named : (bytes : Bytes) (events : List PlainEvent) (table : List Author) → table_of bytes ≡ Ok table
    → authors_of bytes events ≡ Ok (all_authored (said_for table) events)
named bytes events table h = go (authors_in bytes) h
  where
    go : (r : Result (List Author) ℕ) → tabled [] r ≡ Ok table → authored_by r events ≡ Ok (all_authored (said_for table) events)
    go (Ok authors) is =
        let same : put_all authors [] ≡ table = cc in
        (λ i. Ok (all_authored (λ email. sym (said_is email authors) i) events))
        ∙ ap (λ (t : List Author). Ok (all_authored (said_for t) events)) same
    go (Err line) is = absurd cc

-- ---- one person

module _ (find : Bytes → Option Person) (who : Signed) where
  -- whoever isn't found stays
  pub unfound : find who.person.email ≡ None → resigned find who ≡ who
  unfound none = ap (λ (o : Option Person). let it : Signed = record who { person = unwrap_or o who.person } in it) none

  module _ (found : Option (Bor Person)) (is : option_map (λ (p : Bor Person). p.now) found ≡ find who.person.email) where
    pub no_one_found : is_some found ≡ false → find who.person.email ≡ None
    no_one_found none = go found is none
      where
        go : (o : Option (Bor Person)) → option_map (λ (p : Bor Person). p.now) o ≡ find who.person.email → is_some o ≡ false
            → find who.person.email ≡ None
        go None is none = sym is
        go (Some p) is none = absurd cc

    pub signed_so : (signed : Signed) → signed ≡ record who { person = unwrap_or (option_map (λ (p : Bor Person). p.now) found) who.person }
        → signed ≡ resigned find who
    signed_so signed made =
        made ∙ ap (λ (o : Option Person). let it : Signed = record who { person = unwrap_or o who.person } in it) is

-- ---- one event

pub same_authored : (find : Bytes → Option Person) (e : PlainEvent) → id_of (authored find e) ≡ id_of e
same_authored find (Commit id mark branch author committer encoding comment parents ops aliases) = refl
same_authored find (Tag id name target tagger comment mark) = refl
same_authored find (Blob id mark bytes) = refl
same_authored find (Reset id branch target) = refl
same_authored find (Pass id line) = refl

pub nobody_stays : (find : Bytes → Option Person) (e : PlainEvent) → NoCommit e → NoTag e → authored find e ≡ e
nobody_stays find (Commit id mark branch author committer encoding comment parents ops aliases) c t =
    absurd (c id mark branch author committer encoding comment parents ops aliases refl)
nobody_stays find (Tag id name target tagger comment mark) c t = absurd (t id name target tagger comment mark refl)
nobody_stays find (Blob id mark bytes) c t = refl
nobody_stays find (Reset id branch target) c t = refl
nobody_stays find (Pass id line) c t = refl
