-- What lands changes words alone, and leaves a sound history sound.
use Rattle.std.proofs.Common.{◌≡◌, ℕ, ◌+◌, ◌≤◌, Bool, true, false, cond, List, [], ◌∷◌, map, Option, Some, None, Ok, refl, sym, ap, subst, ◌∙◌}
use Rattle.std.specs.Prelude.{◌&&◌, IfSome, option_map, unwrap_or}
use Rattle.std.specs.List.{AllByRecursion}
use Rattle.plain_model.specs.declared.fault.Fault.{Fault}
use Rattle.plain_model.specs.declared.id.AnyId.{AnyId}
use Rattle.plain_model.specs.declared.person.Person.{Person}
use Rattle.plain_model.specs.declared.person.Signed.{Signed}
use Rattle.plain_model.specs.declared.person.When.{When}
use Rattle.plain_model.specs.declared.event.PlainEvent.{PlainEvent}
use Rattle.plain_model.specs.declared.event.PlainEvent.TheVariants.{Blob, Commit, Tag, Reset, Pass}
use Rattle.plain_model.specs.Lookups.{id_of, same_id}
use Rattle.plain_model.specs.declared.limit.TheConstants.{MAX_SECONDS}
use Rattle.plain_model.specs.Parts.{◌>>=◌, has_no_lf}
use Rattle.plain_model.specs.People.{is_clean}
use Rattle.plain_model.specs.Paths.{Bytes, is_empty}
use Rattle.plain_model.specs.Soundness.{IsFormedSigned, IsSound}
use Rattle.edit_laws.specs.Parts.{IsLawful}
use Rattle.edit_laws.proofs.Sound.{in_parts}
use Rattle.event_arena.specs.Changes.{changed}
use Rattle.event_arena.specs.declared.field.Role.{Role}
use Rattle.event_arena.specs.declared.field.Role.TheVariants.{Author, Committer, Tagger}
use Rattle.mailbox_laws.specs.Boxes.{Message, Part, Rest, before, box_in, is_rule, lines_in, part_after, rest_from}
use Rattle.mailbox_laws.specs.Boxes.Part.{InBody, InHeaders}
use Rattle.mailbox_laws.specs.Headers.{identity_in, moment_in, said}
use Rattle.mailbox_laws.specs.Landing.{box_faults, given_by, land_of, landed, landed_on, lowest, meant, unless_fault, with_words}
use Rattle.mailbox_laws.specs.Words.{HaveOtherWords, nobody, wordless}
use Rattle.mailbox_laws.specs.Written.{date_name, role_name}
use Rattle.mailbox_laws.proofs.Forms.{identity_formed, moment_formed}
use Rattle.mailbox_laws.proofs.Lines.{IsPlain, lines_plain}
use Rattle.mailbox_laws.proofs.SoundBare.{sound_kept}
use Rattle.mailbox_laws.proofs.Values.{value_plain}
use Rattle.mailbox_laws.proofs.Wordless.{words_alike}

-- ---- words alone

nobodies : (m : Message) (tagger : Option Signed) → option_map (λ (who : Signed). nobody) (option_map (given_by m Tagger) tagger) ≡ option_map (λ (who : Signed). nobody) tagger
nobodies m None = refl
nobodies m (Some who) = refl

words_alone : (m : Message) (e : PlainEvent) → wordless (with_words m e) ≡ wordless e
words_alone m (Blob id mark bytes) = refl
words_alone m (Commit id mark branch author committer encoding comment parents ops aliases) = refl
words_alone m (Tag id name target tagger comment mark) = ap (λ (t : Option Signed). Tag id name target t [] mark) (nobodies m tagger)
words_alone m (Reset id branch target) = refl
words_alone m (Pass id line) = refl

changed_words : (id : AnyId) (m : Message) (es : List PlainEvent) → map wordless (changed id (with_words m) es) ≡ map wordless es
changed_words id m [] = refl
changed_words id m (e ∷ es) = go (same_id id (id_of e)) (changed_words id m es)
  where
    go : (t : Bool) → map wordless (changed id (with_words m) es) ≡ map wordless es
        → map wordless (cond t (with_words m e ∷ es) (e ∷ changed id (with_words m) es)) ≡ wordless e ∷ map wordless es
    go true rec = ap (λ (x : PlainEvent). x ∷ map wordless es) (words_alone m e)
    go false rec = ap (λ (xs : List PlainEvent). wordless e ∷ xs) rec

on_words : (m : Message) (o : Option PlainEvent) (now : List PlainEvent) → map wordless (landed_on m o now) ≡ map wordless now
on_words m None now = refl
on_words m (Some e) now = changed_words (id_of e) m now

landed_words : (whole : List PlainEvent) (ms : List Message) (now : List PlainEvent) → map wordless (landed whole ms now) ≡ map wordless now
landed_words whole [] now = refl
landed_words whole (m ∷ ms) now = landed_words whole ms (landed_on m (meant whole m) now) ∙ on_words m (meant whole m) now

-- what isn't refused has landed
pub has_landed : (o : Option Fault) (made new : List PlainEvent) → unless_fault o made ≡ Ok new → (o ≡ None) × (made ≡ new)
has_landed None made new e = (refl, cc)
has_landed (Some why) made new e = absurd cc

pub words_land : (events : List PlainEvent) (bytes : Bytes) (new : List PlainEvent) → land_of events bytes ≡ Ok new → HaveOtherWords events new
unfolding land_of
words_land events bytes new e =
    let made = landed events (box_in bytes).later events in
    let is = (has_landed (lowest (box_faults events (box_in bytes))) made new e).1 in
    ap (map wordless) (sym is) ∙ landed_words events (box_in bytes).later events

-- ---- header lines without LF

abbrev IsPlainLine : ℕ × Bytes → Type 0
IsPlainLine l = has_no_lf l.1 ≡ true

abbrev IsPlainMessage : Message → Type 0
IsPlainMessage m = AllByRecursion IsPlainLine m.headers

record IsPlainRest (rest : Rest) : Type 0 where
  headers : AllByRecursion IsPlainLine rest.headers
  later : AllByRecursion IsPlainMessage rest.later

header_more : (n : ℕ) (l : Bytes) (rest : Rest) → IsPlain l → IsPlainRest rest → IsPlainRest (record rest { headers = (n, l) ∷ rest.headers })
header_more n l rest plain h = record { headers = (plain, h.headers); later = h.later }

message_more : (n : ℕ) (rest : Rest) → IsPlainRest rest
    → IsPlainRest (record { headers = []; body = Some []; later = record { line = n; headers = rest.headers; body = rest.body } ∷ rest.later })
message_more n rest h = record { headers = tt; later = (h.headers, h.later) }

line_more : (l : Bytes) (rest : Rest) → IsPlainRest rest → IsPlainRest (record rest { body = option_map (λ lines. l ∷ lines) rest.body })
line_more l rest h = record { headers = h.headers; later = h.later }

before_plain : (part : Part) (n : ℕ) (l : Bytes) (rest : Rest) → IsPlain l → IsPlainRest rest → IsPlainRest (before part n l rest)
before_plain InHeaders n l rest plain h = go (is_empty l)
  where
    go : (t : Bool) → IsPlainRest (cond t rest (record rest { headers = (n, l) ∷ rest.headers }))
    go true = h
    go false = header_more n l rest plain h
before_plain InBody n l rest plain h = go (is_rule l)
  where
    go : (t : Bool) → IsPlainRest (cond t (record { headers = []; body = Some []; later = record { line = n; headers = rest.headers; body = rest.body } ∷ rest.later })
        (record rest { body = option_map (λ lines. l ∷ lines) rest.body }))
    go true = message_more n rest h
    go false = line_more l rest h

rest_plain : (part : Part) (n : ℕ) (ls : List Bytes) → AllByRecursion IsPlain ls → IsPlainRest (rest_from part n ls)
rest_plain InHeaders n [] h = record { headers = tt; later = tt }
rest_plain InBody n [] h = record { headers = tt; later = tt }
rest_plain part n (l ∷ ls) h = before_plain part n l (rest_from (part_after part l) (n + 1) ls) h.0 (rest_plain (part_after part l) (n + 1) ls h.1)

box_plain : (bytes : Bytes) → AllByRecursion IsPlainMessage (box_in bytes).later
unfolding box_in
box_plain bytes = (rest_plain InBody 1 (lines_in bytes) (lines_plain bytes)).later

said_plain : (name : Bytes) (m : Message) (v : ℕ × Bytes) → IsPlainMessage m → said name m ≡ Some v → has_no_lf v.1 ≡ true
unfolding said
said_plain name m v h e = value_plain name m.headers v h e

-- ---- lawful events

given_formed : (m : Message) (role : Role) (old : Signed) → IsPlainMessage m → IsFormedSigned old → IsFormedSigned (given_by m role old)
given_formed m role old plain h =
    let when = when_formed (said (date_name role) m) in
    (who_formed (said (role_name role) m) refl, when.0, when.1)
  where
    clean : Person → Bool
    clean p = is_clean p.name && has_no_lf p.name && is_clean p.email && has_no_lf p.email

    who_formed : (o : Option (ℕ × Bytes)) → said (role_name role) m ≡ o → clean (unwrap_or (o >>= λ value. identity_in value.1) old.person) ≡ true
    who_formed None is = h.0
    who_formed (Some v) is = go (identity_in v.1) refl
      where
        go : (p : Option Person) → identity_in v.1 ≡ p → clean (unwrap_or p old.person) ≡ true
        go None e = h.0
        go (Some p) e = identity_formed v.1 p e (said_plain (role_name role) m v plain is)

    when_formed : (o : Option (ℕ × Bytes))
        → ((unwrap_or (o >>= λ value. moment_in value.1) old.when).seconds ≤ MAX_SECONDS) × ((unwrap_or (o >>= λ value. moment_in value.1) old.when).offset ≤ 9999)
    when_formed None = (h.1, h.2)
    when_formed (Some v) = go (moment_in v.1) refl
      where
        go : (w : Option When) → moment_in v.1 ≡ w → ((unwrap_or w old.when).seconds ≤ MAX_SECONDS) × ((unwrap_or w old.when).offset ≤ 9999)
        go None e = (h.1, h.2)
        go (Some w) e = moment_formed v.1 w e

tagger_formed : (m : Message) (tagger : Option Signed) → IsPlainMessage m → IfSome tagger IsFormedSigned → IfSome (option_map (given_by m Tagger) tagger) IsFormedSigned
tagger_formed m None plain h = tt
tagger_formed m (Some who) plain h = given_formed m Tagger who plain h

lawful_words : (m : Message) → IsPlainMessage m → (e : PlainEvent) → IsLawful e → IsLawful (with_words m e)
lawful_words m plain (Blob id mark bytes) h = h
lawful_words m plain (Commit id mark branch author committer encoding comment parents ops aliases) h =
    (h.0, given_formed m Author author plain h.1, given_formed m Committer committer plain h.2, h.3, h.4, h.5, h.6)
lawful_words m plain (Tag id name target tagger comment mark) h = (h.0, tagger_formed m tagger plain h.1)
lawful_words m plain (Reset id branch target) h = h
lawful_words m plain (Pass id line) h = h

changed_lawful : (id : AnyId) (m : Message) → IsPlainMessage m → (es : List PlainEvent) → AllByRecursion IsLawful es → AllByRecursion IsLawful (changed id (with_words m) es)
changed_lawful id m plain [] h = tt
changed_lawful id m plain (e ∷ es) h = go (same_id id (id_of e)) (changed_lawful id m plain es h.1)
  where
    go : (t : Bool) → AllByRecursion IsLawful (changed id (with_words m) es) → AllByRecursion IsLawful (cond t (with_words m e ∷ es) (e ∷ changed id (with_words m) es))
    go true rec = (lawful_words m plain e h.0, h.1)
    go false rec = (h.0, rec)

on_lawful : (m : Message) (o : Option PlainEvent) (now : List PlainEvent) → IsPlainMessage m → AllByRecursion IsLawful now → AllByRecursion IsLawful (landed_on m o now)
on_lawful m None now plain h = h
on_lawful m (Some e) now plain h = changed_lawful (id_of e) m plain now h

landed_lawful : (whole : List PlainEvent) (ms : List Message) (now : List PlainEvent) → AllByRecursion IsPlainMessage ms → AllByRecursion IsLawful now → AllByRecursion IsLawful (landed whole ms now)
landed_lawful whole [] now plain h = h
landed_lawful whole (m ∷ ms) now plain h =
    landed_lawful whole ms (landed_on m (meant whole m) now) plain.1 (on_lawful m (meant whole m) now plain.0 h)

pub landing_sound : (events : List PlainEvent) (bytes : Bytes) (new : List PlainEvent) → IsSound events → land_of events bytes ≡ Ok new → IsSound new
unfolding land_of
landing_sound events bytes new sound e =
    let box = box_in bytes in
    let is = (has_landed (lowest (box_faults events box)) (landed events box.later events) new e).1 in
    sound_kept events new sound (words_alike events new (words_land events bytes new e))
    (subst (AllByRecursion IsLawful) is (landed_lawful events box.later events (box_plain bytes) (in_parts events sound).lawful))
