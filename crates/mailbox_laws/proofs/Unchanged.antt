-- A box that is written is read without a fault, and changes nothing.
use Rattle.std.proofs.Common.{◌≡◌, inl, ℕ, ◌+◌, true, List, [], ◌∷◌, ◌++◌, length, map, flat_map, Option, Some, None, Result, Ok, refl, sym, ap, subst, ◌∙◌, codes}
use Rattle.std.specs.Prelude.{◌&&◌, IfSome, IsTrue, is_some, option_map, unwrap_or}
use Rattle.std.specs.List.{AllByRecursion}
use Rattle.std.proofs.lemmas.Bool.{and_parts}
use Rattle.std.proofs.lemmas.Grind.{flat_map-append}
use Rattle.std.proofs.lemmas.Option.{none-some, same_Some}
use Rattle.plain_model.specs.declared.fault.Fault.{Fault}
use Rattle.plain_model.specs.declared.fault.Fault.TheVariants as fault
use Rattle.plain_model.specs.declared.id.AnyId.{AnyId}
use Rattle.plain_model.specs.declared.id.AnyId.TheVariants as any
use Rattle.plain_model.specs.declared.operation.FileOp.{FileOp}
use Rattle.plain_model.specs.declared.person.Signed.{Signed}
use Rattle.plain_model.specs.declared.event.PlainEvent.{PlainEvent}
use Rattle.plain_model.specs.declared.event.PlainEvent.TheVariants.{Blob, Commit, Tag, Reset, Pass}
use Rattle.plain_model.specs.Lookups.{find_event, number_of}
use Rattle.plain_model.specs.Names.{is_name}
use Rattle.plain_model.specs.Parts.{◌>>=◌, begins, has_no_lf}
use Rattle.plain_model.specs.Paths.{Bytes}
use Rattle.plain_model.specs.People.{is_clean}
use Rattle.plain_model.specs.Snapshots.{commit_mark}
use Rattle.plain_model.specs.Soundness.{IsFormedEvent, IsFormedSigned, IsSound}
use Rattle.plain_model.specs.Text.{marked}
use Rattle.edit_laws.specs.Parts.{IsLawful}
use Rattle.edit_laws.proofs.Sound.{in_parts}
use Rattle.event_arena.specs.declared.field.Role.{Role}
use Rattle.event_arena.specs.declared.field.Role.TheVariants.{Author, Committer, Tagger}
use Rattle.history_laws.proofs.Ids.{find_id}
use Rattle.field_laws.proofs.Written.{plain_name}
use Rattle.history_laws.proofs.Lists.{all_join}
use Rattle.listing.specs.Listings.{line_of}
use Rattle.mailbox_laws.specs.Boxes.{Message, Rest, box_in}
use Rattle.mailbox_laws.specs.Headers.{header_in, identity_in, moment_in, said}
use Rattle.mailbox_laws.specs.Landing.{box_faults, check_faults, check_faults_of, choice_faults, commit_meant, comment_of, fault_unless, faults_of, given_by, is_either, is_identity, is_moment, land_of, end_faults, landed, landed_on, line_faults, lowest, meaning_faults, meant, meant_by, role_faults, tag_meant, unless_fault, with_words}
use Rattle.mailbox_laws.specs.Naming.{IsFoundAgain}
use Rattle.mailbox_laws.specs.Written.{Header, Letter, box_of, check_text, commit_letter, date_name, identity_text, letter_text, letters, message_text, moment_text, role_name, tag_letter}
use Rattle.mailbox_laws.proofs.Finding.{changed_still, commit_found, found_holds, mark_finds}
use Rattle.mailbox_laws.proofs.Forms.{identity_again, moment_again}
use Rattle.mailbox_laws.proofs.Lines.{IsPlain, comment_again}
use Rattle.mailbox_laws.proofs.Plain.{check_passes, plain_check, plain_decimal, plain_identity, plain_marked, plain_marks, plain_moment}
use Rattle.mailbox_laws.proofs.Sent.{IsWritable, box_read, letter_lines, sent, sent_at}
use Rattle.mailbox_laws.proofs.Values.{IsReadAgain, last_value, lines_right, no_fault, value_alone, values_are}

-- ---- the letters of a box

abbrev chosen_letters : List PlainEvent → Option ℕ → Option PlainEvent → List Letter
chosen_letters events (Some n) (Some e) = letters events n e
chosen_letters events (Some n) None = []
chosen_letters events None found = []

abbrev letters_of : List PlainEvent → List AnyId → List Letter
letters_of events ids = flat_map (λ id. chosen_letters events (number_of id events) (find_event id events)) ids

chosen_text : (events : List PlainEvent) (n : Option ℕ) (e : Option PlainEvent) → line_of (message_text events) n e ≡ flat_map letter_text (chosen_letters events n e)
chosen_text events (Some n) (Some e) = refl
chosen_text events (Some n) None = refl
chosen_text events None found = refl

box_text : (events : List PlainEvent) (ids : List AnyId) → box_of events ids ≡ flat_map letter_text (letters_of events ids)
unfolding box_of
box_text events [] = refl
box_text events (id ∷ ids) =
    (λ i. chosen_text events (number_of id events) (find_event id events) i ++ box_text events ids i)
    ∙ sym (flat_map-append letter_text (chosen_letters events (number_of id events) (find_event id events)) (letters_of events ids))

-- ---- what the headers of a message say

-- the values under the names that count
record Says (hs : List Header) (mark name author author_date committer committer_date tagger tagger_date check : Option Bytes) : Type 0 where
  says_mark : last_value (codes "Event-Mark") hs ≡ mark
  says_name : last_value (codes "Tag-Name") hs ≡ name
  says_author : last_value (codes "Author") hs ≡ author
  says_author_date : last_value (codes "Author-Date") hs ≡ author_date
  says_committer : last_value (codes "Committer") hs ≡ committer
  says_committer_date : last_value (codes "Committer-Date") hs ≡ committer_date
  says_tagger : last_value (codes "Tagger") hs ≡ tagger
  says_tagger_date : last_value (codes "Tagger-Date") hs ≡ tagger_date
  says_check : last_value (codes "Check-Text") hs ≡ check

said_is : (name : Bytes) (n : ℕ) (l : Letter) → AllByRecursion IsReadAgain l.headers → value_alone (said name (sent_at n l)) ≡ last_value name l.headers
unfolding said
said_is name n l h = values_are name l.headers (n + 1) h

-- ---- single steps of landing

said_then : {A : Type 0} (o : Option (ℕ × Bytes)) (f : Bytes → Option A) (v : Bytes) → value_alone o ≡ Some v → (o >>= λ value. f value.1) ≡ f v
said_then None f v e = absurd (none-some {A = Bytes} v e)
said_then (Some w) f v e = ap f (same_Some {A = Bytes} w.1 v e)

either_mark : (a b : Option (ℕ × Bytes)) (v : Bytes) → value_alone a ≡ Some v → value_alone b ≡ None → is_either a b ≡ true
either_mark None b v e f = absurd (none-some {A = Bytes} v e)
either_mark (Some w) None v e f = refl
either_mark (Some w) (Some x) v e f = absurd (none-some {A = Bytes} x.1 (sym f))

either_name : (a b : Option (ℕ × Bytes)) (v : Bytes) → value_alone a ≡ None → value_alone b ≡ Some v → is_either a b ≡ true
either_name None None v e f = absurd (none-some {A = Bytes} v f)
either_name None (Some x) v e f = refl
either_name (Some w) b v e f = absurd (none-some {A = Bytes} w.1 (sym e))

meant_by_mark : (events : List PlainEvent) (a b : Option (ℕ × Bytes)) (v : Bytes) → value_alone a ≡ Some v → value_alone b ≡ None → meant_by events a b ≡ commit_meant events v
meant_by_mark events None b v e f = absurd (none-some {A = Bytes} v e)
meant_by_mark events (Some w) None v e f = ap (commit_meant events) (same_Some {A = Bytes} w.1 v e)
meant_by_mark events (Some w) (Some x) v e f = absurd (none-some {A = Bytes} x.1 (sym f))

meant_by_name : (events : List PlainEvent) (a b : Option (ℕ × Bytes)) (v : Bytes) → value_alone a ≡ None → value_alone b ≡ Some v → meant_by events a b ≡ tag_meant events v
meant_by_name events None None v e f = absurd (none-some {A = Bytes} v f)
meant_by_name events None (Some x) v e f = ap (tag_meant events) (same_Some {A = Bytes} x.1 v f)
meant_by_name events (Some w) b v e f = absurd (none-some {A = Bytes} w.1 (sym e))

-- ---- people

clean_of : (who : Signed) → IsFormedSigned who
    → (is_clean who.person.name ≡ true) × (has_no_lf who.person.name ≡ true) × (is_clean who.person.email ≡ true) × (has_no_lf who.person.email ≡ true)
clean_of who h =
    let a = and_parts (is_clean who.person.name && has_no_lf who.person.name && is_clean who.person.email) (has_no_lf who.person.email) h.0 in
    let b = and_parts (is_clean who.person.name && has_no_lf who.person.name) (is_clean who.person.email) a.0 in
    let c = and_parts (is_clean who.person.name) (has_no_lf who.person.name) b.0 in
    (c.0, c.1, b.1, a.1)

identity_is : (who : Signed) → IsFormedSigned who → identity_in (identity_text who.person) ≡ Some who.person
identity_is who h = let c = clean_of who h in identity_again who.person c.0 c.2

moment_is : (who : Signed) → IsFormedSigned who → moment_in (moment_text who.when) ≡ Some who.when
moment_is who h = moment_again who.when h.1 h.2

identity_plain : (who : Signed) → IsFormedSigned who → IsPlain (identity_text who.person)
identity_plain who h = let c = clean_of who h in plain_identity who.person c.1 c.3

-- what is given is what was there
given_same : (m : Message) (role : Role) (who : Signed) → IsFormedSigned who → value_alone (said (role_name role) m) ≡ Some (identity_text who.person)
    → value_alone (said (date_name role) m) ≡ Some (moment_text who.when) → given_by m role who ≡ who
given_same m role who h name date =
    let who_is = said_then (said (role_name role) m) identity_in (identity_text who.person) name ∙ identity_is who h in
    let when_is = said_then (said (date_name role) m) moment_in (moment_text who.when) date ∙ moment_is who h in
    λ i. record { person = unwrap_or (who_is i) who.person; when = unwrap_or (when_is i) who.when }

-- ---- faults of values

is_found : {A : Type 0} (o : Option A) (x : A) → o ≡ Some x → is_some o ≡ true
is_found o x e = ap is_some e

-- no fault is under the names of a role
role_right : (m : Message) (role : Role) (name date : Option Bytes) → value_alone (said (role_name role) m) ≡ name → value_alone (said (date_name role) m) ≡ date
    → IfSome name (λ v. is_identity v ≡ true) → IfSome date (λ v. is_moment v ≡ true) → role_faults m role ≡ []
role_right m role name date a b p q =
    λ i. no_fault is_identity fault.BadMessage (said (role_name role) m) name a p i ++ no_fault is_moment fault.BadMessage (said (date_name role) m) date b q i

-- ---- a good letter

-- it can be written, and the message that is read of it has no fault and changes nothing
record IsGood (events : List PlainEvent) (l : Letter) : Type 0 where
  writable : IsWritable l
  right : (n : ℕ) → faults_of events (sent_at n l) ≡ []
  still : (n : ℕ) → landed_on (sent_at n l) (meant events (sent_at n l)) events ≡ events

all_right : (events : List PlainEvent) (m : Message) → choice_faults m ≡ [] → line_faults m.headers ≡ [] → role_faults m Author ≡ [] → role_faults m Committer ≡ []
    → role_faults m Tagger ≡ [] → end_faults m ≡ [] → meaning_faults events m ≡ [] → check_faults events m ≡ [] → faults_of events m ≡ []
unfolding faults_of
all_right events m a b c d e f g h = λ i. a i ++ b i ++ c i ++ d i ++ e i ++ f i ++ g i ++ h i

choice_right : (m : Message) → is_either (said (codes "Event-Mark") m) (said (codes "Tag-Name") m) ≡ true → choice_faults m ≡ []
choice_right m h = ap (λ t. fault_unless t (fault.BadMessage m.line)) h

meaning_right : (events : List PlainEvent) (m : Message) (mark name : Option Bytes) → value_alone (said (codes "Event-Mark") m) ≡ mark → value_alone (said (codes "Tag-Name") m) ≡ name
    → IfSome mark (λ v. is_some (commit_meant events v) ≡ true) → IfSome name (λ v. is_some (tag_meant events v) ≡ true) → meaning_faults events m ≡ []
meaning_right events m mark name a b p q =
    λ i. no_fault (λ v. is_some (commit_meant events v)) fault.NoSuchTarget (said (codes "Event-Mark") m) mark a p i
    ++ no_fault (λ v. is_some (tag_meant events v)) fault.NoSuchTarget (said (codes "Tag-Name") m) name b q i

check_right : (events : List PlainEvent) (m : Message) (e : PlainEvent) → meant events m ≡ Some e → value_alone (said (codes "Check-Text") m) ≡ Some (check_text (comment_of e))
    → check_faults events m ≡ []
check_right events m e mean check =
    ap (λ (o : Option PlainEvent). check_faults_of o (said (codes "Check-Text") m)) mean
    ∙ no_fault (λ v. begins v (comment_of e)) fault.CheckText (said (codes "Check-Text") m) (Some (check_text (comment_of e))) check (check_passes (comment_of e))

-- ---- commits

module _ (whole : List PlainEvent) (n mark : ℕ) (branch : Bytes) (author committer : Signed) (comment : Bytes) where
  commit_says : (encoding : Option Bytes) (parents : List ℕ) → Says (commit_letter whole n mark branch author committer encoding comment parents).headers
      (Some (marked mark)) None (Some (identity_text author.person)) (Some (moment_text author.when))
      (Some (identity_text committer.person)) (Some (moment_text committer.when)) None None (Some (check_text comment))
  commit_says None [] = record { says_mark = refl; says_name = refl; says_author = refl; says_author_date = refl; says_committer = refl; says_committer_date = refl; says_tagger = refl; says_tagger_date = refl; says_check = refl }
  commit_says None (p ∷ ps) = record { says_mark = refl; says_name = refl; says_author = refl; says_author_date = refl; says_committer = refl; says_committer_date = refl; says_tagger = refl; says_tagger_date = refl; says_check = refl }
  commit_says (Some encoding) [] = record { says_mark = refl; says_name = refl; says_author = refl; says_author_date = refl; says_committer = refl; says_committer_date = refl; says_tagger = refl; says_tagger_date = refl; says_check = refl }
  commit_says (Some encoding) (p ∷ ps) = record { says_mark = refl; says_name = refl; says_author = refl; says_author_date = refl; says_committer = refl; says_committer_date = refl; says_tagger = refl; says_tagger_date = refl; says_check = refl }

  commit_again : (encoding : Option Bytes) (parents : List ℕ) → AllByRecursion IsReadAgain (commit_letter whole n mark branch author committer encoding comment parents).headers
  unfolding header_in
  commit_again None [] = (refl, (refl, (refl, (refl, (refl, (refl, (refl, (refl, tt))))))))
  commit_again None (p ∷ ps) = (refl, (refl, (refl, (refl, (refl, (refl, (refl, (refl, (refl, tt)))))))))
  commit_again (Some encoding) [] = (refl, (refl, (refl, (refl, (refl, (refl, (refl, (refl, (refl, tt)))))))))
  commit_again (Some encoding) (p ∷ ps) = (refl, (refl, (refl, (refl, (refl, (refl, (refl, (refl, (refl, (refl, tt))))))))))

  commit_plain : (encoding : Option Bytes) (parents : List ℕ) → IsTrue (is_name branch) → IsFormedSigned author → IsFormedSigned committer → IfSome encoding IsPlain
      → IsWritable (commit_letter whole n mark branch author committer encoding comment parents)
  commit_plain None [] name a c e =
      (plain_decimal n, (plain_marked mark, (plain_name branch name, (identity_plain author a, (plain_moment author.when, (identity_plain committer c, (plain_moment committer.when, (plain_check comment, tt))))))))
  commit_plain None (p ∷ ps) name a c e =
      (plain_decimal n, (plain_marked mark, (plain_name branch name, (plain_marks (map (commit_mark whole) (p ∷ ps)), (identity_plain author a, (plain_moment author.when, (identity_plain committer c, (plain_moment committer.when, (plain_check comment, tt)))))))))
  commit_plain (Some encoding) [] name a c e =
      (plain_decimal n, (plain_marked mark, (plain_name branch name, (identity_plain author a, (plain_moment author.when, (identity_plain committer c, (plain_moment committer.when, (e, (plain_check comment, tt)))))))))
  commit_plain (Some encoding) (p ∷ ps) name a c e =
      (plain_decimal n, (plain_marked mark, (plain_name branch name, (plain_marks (map (commit_mark whole) (p ∷ ps)), (identity_plain author a, (plain_moment author.when, (identity_plain committer c, (plain_moment committer.when, (e, (plain_check comment, tt))))))))))

-- what a message that is sent says under a name
says_so : (l : Letter) → AllByRecursion IsReadAgain l.headers → (k : ℕ) (name : Bytes) (value : Option Bytes) → last_value name l.headers ≡ value
    → value_alone (said name (sent_at k l)) ≡ value
says_so l again k name value is = said_is name k l again ∙ is

commit_meant_again : (events : List PlainEvent) (m : Message) (mark : ℕ) (e : PlainEvent) → value_alone (said (codes "Event-Mark") m) ≡ Some (marked mark)
    → value_alone (said (codes "Tag-Name") m) ≡ None → commit_meant events (marked mark) ≡ Some e → meant events m ≡ Some e
unfolding meant
commit_meant_again events m mark e a b found = meant_by_mark events (said (codes "Event-Mark") m) (said (codes "Tag-Name") m) (marked mark) a b ∙ found

commit_good : (events : List PlainEvent) (n id mark : ℕ) (branch : Bytes) (author committer : Signed) (encoding : Option Bytes) (comment : Bytes) (parents : List ℕ) (ops : List FileOp) (aliases : List ℕ)
    → IsSound events → find_event (any.Commit id) events ≡ Some (Commit id mark branch author committer encoding comment parents ops aliases)
    → IsGood events (commit_letter events n mark branch author committer encoding comment parents)
commit_good events n id mark branch author committer encoding comment parents ops aliases sound found = record {
  writable = commit_plain events n mark branch author committer comment encoding parents lawful.0 lawful.1 lawful.2 lawful.3;
  right = right;
  still = λ k.
      ap (λ (o : Option PlainEvent). landed_on (sent_at k l) o events) (mean k)
      ∙ changed_still (any.Commit id) (with_words (sent_at k l)) events e found (same k);
}
  where
    e : PlainEvent
    e = Commit id mark branch author committer encoding comment parents ops aliases

    l : Letter
    l = commit_letter events n mark branch author committer encoding comment parents

    lawful : IsLawful e
    lawful = found_holds IsLawful events (any.Commit id) e (in_parts events sound).lawful found

    formed : IsFormedEvent e
    formed = found_holds IsFormedEvent events (any.Commit id) e (in_parts events sound).spelled found

    again : AllByRecursion IsReadAgain l.headers
    again = commit_again events n mark branch author committer comment encoding parents

    says : Says l.headers (Some (marked mark)) None (Some (identity_text author.person)) (Some (moment_text author.when))
        (Some (identity_text committer.person)) (Some (moment_text committer.when)) None None (Some (check_text comment))
    says = commit_says events n mark branch author committer comment encoding parents

    so : (k : ℕ) (name : Bytes) (value : Option Bytes) → last_value name l.headers ≡ value → value_alone (said name (sent_at k l)) ≡ value
    so = says_so l again

    found_again : commit_meant events (marked mark) ≡ Some e
    found_again = commit_found events id mark e formed.0 (mark_finds events sound (any.Commit id) e mark found (inl refl)) found

    mean : (k : ℕ) → meant events (sent_at k l) ≡ Some e
    mean k = commit_meant_again events (sent_at k l) mark e (so k (codes "Event-Mark") (Some (marked mark)) says.says_mark) (so k (codes "Tag-Name") None says.says_name) found_again

    right : (k : ℕ) → faults_of events (sent_at k l) ≡ []
    right k =
        let m = sent_at k l in
        let of_mark = so k (codes "Event-Mark") (Some (marked mark)) says.says_mark in
        let of_name = so k (codes "Tag-Name") None says.says_name in
        all_right events m
        (choice_right m (either_mark (said (codes "Event-Mark") m) (said (codes "Tag-Name") m) (marked mark) of_mark of_name))
        (lines_right l.headers (k + 1) again)
        (role_right m Author (Some (identity_text author.person)) (Some (moment_text author.when))
        (so k (codes "Author") (Some (identity_text author.person)) says.says_author) (so k (codes "Author-Date") (Some (moment_text author.when)) says.says_author_date)
        (is_found (identity_in (identity_text author.person)) author.person (identity_is author lawful.1)) (is_found (moment_in (moment_text author.when)) author.when (moment_is author lawful.1)))
        (role_right m Committer (Some (identity_text committer.person)) (Some (moment_text committer.when))
        (so k (codes "Committer") (Some (identity_text committer.person)) says.says_committer) (so k (codes "Committer-Date") (Some (moment_text committer.when)) says.says_committer_date)
        (is_found (identity_in (identity_text committer.person)) committer.person (identity_is committer lawful.2)) (is_found (moment_in (moment_text committer.when)) committer.when (moment_is committer lawful.2)))
        (role_right m Tagger None None (so k (codes "Tagger") None says.says_tagger) (so k (codes "Tagger-Date") None says.says_tagger_date) tt tt)
        refl
        (meaning_right events m (Some (marked mark)) None of_mark of_name (is_found (commit_meant events (marked mark)) e found_again) tt)
        (check_right events m e (mean k) (so k (codes "Check-Text") (Some (check_text comment)) says.says_check))

    same : (k : ℕ) → with_words (sent_at k l) e ≡ e
    same k =
        let m = sent_at k l in
        let a = given_same m Author author lawful.1 (so k (codes "Author") (Some (identity_text author.person)) says.says_author) (so k (codes "Author-Date") (Some (moment_text author.when)) says.says_author_date) in
        let c = given_same m Committer committer lawful.2 (so k (codes "Committer") (Some (identity_text committer.person)) says.says_committer) (so k (codes "Committer-Date") (Some (moment_text committer.when)) says.says_committer_date) in
        λ i. Commit id mark branch (a i) (c i) encoding (comment_again comment i) parents ops aliases

-- ---- tags

module _ (whole : List PlainEvent) (n : ℕ) (name : Bytes) (target : ℕ) (comment : Bytes) where
  abbrev tagger_name : Option Signed → Option Bytes
  tagger_name tagger = option_map (λ (who : Signed). identity_text who.person) tagger

  abbrev tagger_moment : Option Signed → Option Bytes
  tagger_moment tagger = option_map (λ (who : Signed). moment_text who.when) tagger

  tag_says : (tagger : Option Signed) → Says (tag_letter whole n name target tagger comment).headers
      None (Some name) None None None None (tagger_name tagger) (tagger_moment tagger) (Some (check_text comment))
  tag_says None = record { says_mark = refl; says_name = refl; says_author = refl; says_author_date = refl; says_committer = refl; says_committer_date = refl; says_tagger = refl; says_tagger_date = refl; says_check = refl }
  tag_says (Some who) = record { says_mark = refl; says_name = refl; says_author = refl; says_author_date = refl; says_committer = refl; says_committer_date = refl; says_tagger = refl; says_tagger_date = refl; says_check = refl }

  tag_again : (tagger : Option Signed) → AllByRecursion IsReadAgain (tag_letter whole n name target tagger comment).headers
  unfolding header_in
  tag_again None = (refl, (refl, (refl, (refl, tt))))
  tag_again (Some who) = (refl, (refl, (refl, (refl, (refl, (refl, tt))))))

  tag_plain : (tagger : Option Signed) → IsTrue (is_name name) → IfSome tagger IsFormedSigned → IsWritable (tag_letter whole n name target tagger comment)
  tag_plain None named h = (plain_decimal n, (plain_name name named, (plain_marked (commit_mark whole target), (plain_check comment, tt))))
  tag_plain (Some who) named h =
      (plain_decimal n, (plain_name name named, (plain_marked (commit_mark whole target), (identity_plain who h, (plain_moment who.when, (plain_check comment, tt))))))

tag_meant_again : (events : List PlainEvent) (m : Message) (name : Bytes) (e : PlainEvent) → value_alone (said (codes "Event-Mark") m) ≡ None
    → value_alone (said (codes "Tag-Name") m) ≡ Some name → tag_meant events name ≡ Some e → meant events m ≡ Some e
unfolding meant
tag_meant_again events m name e a b found = meant_by_name events (said (codes "Event-Mark") m) (said (codes "Tag-Name") m) name a b ∙ found

tagger_right : (m : Message) (tagger : Option Signed) → IfSome tagger IsFormedSigned
    → value_alone (said (codes "Tagger") m) ≡ option_map (λ (who : Signed). identity_text who.person) tagger
    → value_alone (said (codes "Tagger-Date") m) ≡ option_map (λ (who : Signed). moment_text who.when) tagger → role_faults m Tagger ≡ []
tagger_right m None h a b = role_right m Tagger None None a b tt tt
tagger_right m (Some who) h a b =
    role_right m Tagger (Some (identity_text who.person)) (Some (moment_text who.when)) a b
    (is_found (identity_in (identity_text who.person)) who.person (identity_is who h)) (is_found (moment_in (moment_text who.when)) who.when (moment_is who h))

tagger_same : (m : Message) (tagger : Option Signed) → IfSome tagger IsFormedSigned
    → value_alone (said (codes "Tagger") m) ≡ option_map (λ (who : Signed). identity_text who.person) tagger
    → value_alone (said (codes "Tagger-Date") m) ≡ option_map (λ (who : Signed). moment_text who.when) tagger → option_map (given_by m Tagger) tagger ≡ tagger
tagger_same m None h a b = refl
tagger_same m (Some who) h a b = ap (λ (s : Signed). Some s) (given_same m Tagger who h a b)

tag_good : (events : List PlainEvent) (n id : ℕ) (name : Bytes) (target : ℕ) (tagger : Option Signed) (comment : Bytes) (mark : Option ℕ)
    → IsSound events → find_event (any.Tag id) events ≡ Some (Tag id name target tagger comment mark)
    → tag_meant events name ≡ Some (Tag id name target tagger comment mark) → IsGood events (tag_letter events n name target tagger comment)
tag_good events n id name target tagger comment mark sound found first = record {
  writable = tag_plain events n name target comment tagger lawful.0 lawful.1;
  right = right;
  still = λ k.
      ap (λ (o : Option PlainEvent). landed_on (sent_at k l) o events) (mean k)
      ∙ changed_still (any.Tag id) (with_words (sent_at k l)) events e found (same k);
}
  where
    e : PlainEvent
    e = Tag id name target tagger comment mark

    l : Letter
    l = tag_letter events n name target tagger comment

    lawful : IsLawful e
    lawful = found_holds IsLawful events (any.Tag id) e (in_parts events sound).lawful found

    again : AllByRecursion IsReadAgain l.headers
    again = tag_again events n name target comment tagger

    says : Says l.headers None (Some name) None None None None (option_map (λ (who : Signed). identity_text who.person) tagger)
        (option_map (λ (who : Signed). moment_text who.when) tagger) (Some (check_text comment))
    says = tag_says events n name target comment tagger

    so : (k : ℕ) (header : Bytes) (value : Option Bytes) → last_value header l.headers ≡ value → value_alone (said header (sent_at k l)) ≡ value
    so = says_so l again

    mean : (k : ℕ) → meant events (sent_at k l) ≡ Some e
    mean k = tag_meant_again events (sent_at k l) name e (so k (codes "Event-Mark") None says.says_mark) (so k (codes "Tag-Name") (Some name) says.says_name) first

    by : (k : ℕ) → value_alone (said (codes "Tagger") (sent_at k l)) ≡ option_map (λ (who : Signed). identity_text who.person) tagger
    by k = so k (codes "Tagger") (option_map (λ (who : Signed). identity_text who.person) tagger) says.says_tagger

    on : (k : ℕ) → value_alone (said (codes "Tagger-Date") (sent_at k l)) ≡ option_map (λ (who : Signed). moment_text who.when) tagger
    on k = so k (codes "Tagger-Date") (option_map (λ (who : Signed). moment_text who.when) tagger) says.says_tagger_date

    right : (k : ℕ) → faults_of events (sent_at k l) ≡ []
    right k =
        let m = sent_at k l in
        let of_mark = so k (codes "Event-Mark") None says.says_mark in
        let of_name = so k (codes "Tag-Name") (Some name) says.says_name in
        all_right events m
        (choice_right m (either_name (said (codes "Event-Mark") m) (said (codes "Tag-Name") m) name of_mark of_name))
        (lines_right l.headers (k + 1) again)
        (role_right m Author None None (so k (codes "Author") None says.says_author) (so k (codes "Author-Date") None says.says_author_date) tt tt)
        (role_right m Committer None None (so k (codes "Committer") None says.says_committer) (so k (codes "Committer-Date") None says.says_committer_date) tt tt)
        (tagger_right m tagger lawful.1 (by k) (on k))
        refl
        (meaning_right events m None (Some name) of_mark of_name tt (is_found (tag_meant events name) e first))
        (check_right events m e (mean k) (so k (codes "Check-Text") (Some (check_text comment)) says.says_check))

    same : (k : ℕ) → with_words (sent_at k l) e ≡ e
    same k = let t = tagger_same (sent_at k l) tagger lawful.1 (by k) (on k) in λ i. Tag id name target (t i) (comment_again comment i) mark

-- ---- the box

chosen_good : (events : List PlainEvent) → IsSound events → (id : AnyId) (n : Option ℕ) (o : Option PlainEvent) → find_event id events ≡ o → IsFoundAgain events id
    → AllByRecursion (IsGood events) (chosen_letters events n o)
chosen_good events sound id None o is named = tt
chosen_good events sound id (Some n) None is named = tt
chosen_good events sound id (Some n) (Some (Blob b mark bytes)) is named = tt
chosen_good events sound id (Some n) (Some (Reset r branch target)) is named = tt
chosen_good events sound id (Some n) (Some (Pass p line)) is named = tt
chosen_good events sound id (Some n) (Some (Commit c mark branch author committer encoding comment parents ops aliases)) is named =
    let e = Commit c mark branch author committer encoding comment parents ops aliases in (
      commit_good events n c mark branch author committer encoding comment parents ops aliases sound
          (subst (λ (i : AnyId). find_event i events ≡ Some e) (find_id id events e is) is),
      tt,
    )
chosen_good events sound id (Some n) (Some (Tag t name target tagger comment mark)) is named =
    let e = Tag t name target tagger comment mark in
    let own = find_id id events e is in
    let found = subst (λ (i : AnyId). find_event i events ≡ Some e) own is in
    (tag_good events n t name target tagger comment mark sound found (subst (IsFoundAgain events) own named e found), tt)

letters_good : (events : List PlainEvent) → IsSound events → (ids : List AnyId) → AllByRecursion (IsFoundAgain events) ids → AllByRecursion (IsGood events) (letters_of events ids)
letters_good events sound [] h = tt
letters_good events sound (id ∷ ids) h =
    all_join (IsGood events) (chosen_letters events (number_of id events) (find_event id events)) (letters_of events ids)
    (chosen_good events sound id (number_of id events) (find_event id events) refl h.0) (letters_good events sound ids h.1)

all_writable : (events : List PlainEvent) (ls : List Letter) → AllByRecursion (IsGood events) ls → AllByRecursion IsWritable ls
all_writable events [] h = tt
all_writable events (l ∷ ls) h = (h.0.writable, all_writable events ls h.1)

no_faults : (events : List PlainEvent) (ls : List Letter) (n : ℕ) → AllByRecursion (IsGood events) ls → flat_map (faults_of events) (sent n ls) ≡ []
no_faults events [] n h = refl
no_faults events (l ∷ ls) n h = λ i. h.0.right n i ++ no_faults events ls (n + length (letter_lines l)) h.1 i

all_still : (events : List PlainEvent) (ls : List Letter) (n : ℕ) → AllByRecursion (IsGood events) ls → landed events (sent n ls) events ≡ events
all_still events [] n h = refl
all_still events (l ∷ ls) n h =
    ap (λ (now : List PlainEvent). landed events (sent (n + length (letter_lines l)) ls) now) (h.0.still n) ∙ all_still events ls (n + length (letter_lines l)) h.1

-- what is done with a box as it is read
abbrev by_box : List PlainEvent → Rest → Result (List PlainEvent) Fault
by_box events box = unless_fault (lowest (box_faults events box)) (landed events box.later events)

sent_lands : (events : List PlainEvent) (ls : List Letter) → AllByRecursion (IsGood events) ls → by_box events (record { headers = []; body = Some []; later = sent 1 ls }) ≡ Ok events
unfolding box_faults lowest
sent_lands events ls h =
    ap (λ (faults : List Fault). unless_fault (lowest faults) (landed events (sent 1 ls) events)) (no_faults events ls 1 h)
    ∙ ap (λ (new : List PlainEvent). Ok new) (all_still events ls 1 h)

-- what is written is read without a fault, and changes nothing
pub unchanged : (events : List PlainEvent) (ids : List AnyId) → IsSound events → AllByRecursion (IsFoundAgain events) ids → land_of events (box_of events ids) ≡ Ok events
unfolding land_of
unchanged events ids sound named =
    let ls = letters_of events ids in
    let good = letters_good events sound ids named in
    ap (λ (bytes : Bytes). by_box events (box_in bytes)) (box_text events ids)
    ∙ ap (by_box events) (box_read ls (all_writable events ls good))
    ∙ sent_lands events ls good
