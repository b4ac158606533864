-- Messages are judged one after another.
use Rattle.std.proofs.Common.{◌≡◌, ◌∙◌, ℕ, zero, suc, ◌+◌, ◌≤◌, ◌==◌, Bool, true, false, List, [], ◌∷◌, ◌++◌, inl, inr, length, take, Option, Some, None, Ok, refl, sym, ap, subst, arith, is_some, true≢false}
use Rattle.std.proofs.Math.Dec.{eqb-suc-zero}
use Rattle.std.proofs.lemmas.Bool.{cases_Bool}
use Rattle.std.proofs.lemmas.Option.{none-some, same_Some}
use Rattle.std.specs.Borrow.{Bor}
use Rattle.std.specs.Prelude.{flat_map, not, option_map, unwrap_or}
use Rattle.plain_model.specs.declared.fault.Fault.{Fault}
use Rattle.plain_model.specs.declared.fault.Fault.TheVariants as fault
use Rattle.plain_model.specs.declared.person.Signed.{Signed}
use Rattle.plain_model.specs.declared.event.PlainEvent.{PlainEvent}
use Rattle.plain_model.specs.declared.event.PlainEvent.TheVariants.{Blob, Commit, Tag, Reset, Pass}
use Rattle.plain_model.specs.Lookups.{id_of}
use Rattle.plain_model.specs.Parts.{◌>>=◌}
use Rattle.plain_model.specs.Paths.{Bytes}
use Rattle.event_arena.specs.Changes.{changed}
use Rattle.event_arena.specs.declared.field.Role.{Role}
use Rattle.event_arena.specs.declared.field.Role.TheVariants.{Author, Committer, Tagger}
use Rattle.mailbox_laws.specs.Boxes.{InBody, InHeaders, Message, Rest, box_in, comment_in, is_rule, lines_in, rest_from}
use Rattle.mailbox_laws.specs.Headers.{identity_in, moment_in, said}
use Rattle.mailbox_laws.specs.Landing.{box_faults, comment_landed, fault_unless, faults_of, given_by, is_nothing, land_of, landed, landed_on, line_faults, lowest, meant, meant_by, unless_fault, with_words}
use Rattle.mailbox_laws.specs.Written.{date_name, role_name}
use Rattle.mailbox_reader.specs.Judged.{IsRead}
use Rattle.mailbox_reader.specs.Lower.{lower}
use Rattle.mailbox_reader.specs.Reading.{Say, rest_after, value_of}
use Rattle.mailbox_reader.specs.declared.reading.Header.{Header}
use Rattle.mailbox_reader.specs.declared.reading.Said.{Said}
use Rattle.mailbox_reader.proofs.HeadLines.{lower_assoc}
use Rattle.mailbox_reader.proofs.Together.{lowest_append}
use Rattle.mailbox_edit.specs.Judged.{AreLeft, IsLeft, IsLeftAfter, body_or_none, messages_after}
use Rattle.mailbox_edit.specs.Landings.{given, id_meant, landed_all, landed_as, landings_on}
use Rattle.mailbox_edit.specs.declared.landing.Landing.{Landing}
use Rattle.mailbox_edit.proofs.Landed.{landed_append}

-- ---- what a message says is what is kept of it

role_given : (m : Message) (role : Role) (who when : Option Header) (old : Signed) → value_of who ≡ said (role_name role) m → value_of when ≡ said (date_name role) m
    → given who when old ≡ given_by m role old
role_given m role who when old one two = λ i. record {
  person = unwrap_or (one i >>= λ value. identity_in value.1) old.person;
  when = unwrap_or (two i >>= λ value. moment_in value.1) old.when;
}

pub said_words : (m : Message) (l : Landing) → Say [] m.headers l.said → comment_in (take l.count (lines_in l.body.now)) ≡ comment_landed m
    → (e : PlainEvent) → landed_as l e ≡ with_words m e
unfolding said
said_words m l says comment (Commit id mark branch author committer encoding old parents ops aliases) = λ i.
    Commit id mark branch (role_given m Author l.said.author l.said.author_date author says.author says.author_date i)
    (role_given m Committer l.said.committer l.said.committer_date committer says.committer says.committer_date i) encoding (comment i) parents ops aliases
said_words m l says comment (Tag id name target None old mark) = λ i. Tag id name target None (comment i) mark
said_words m l says comment (Tag id name target (Some tagger) old mark) = λ i.
    Tag id name target (Some (role_given m Tagger l.said.tagger l.said.tagger_date tagger says.tagger says.tagger_date i)) (comment i) mark
said_words m l says comment (Blob id mark bytes) = refl
said_words m l says comment (Reset id branch target) = refl
said_words m l says comment (Pass id line) = refl

pub meant_so : (events : List PlainEvent) (m : Message) (s : Said) → Say [] m.headers s
    → meant_by events (value_of s.mark) (value_of s.name) ≡ meant events m
unfolding meant said
meant_so events m s says = λ i. meant_by events (says.mark i) (says.name i)

-- what lands of it
pub lands_so : (events : List PlainEvent) (m : Message) (s : Said) (body : Bor Bytes) (count : ℕ) (now : List PlainEvent) → Say [] m.headers s
    → comment_in (take count (lines_in body.now)) ≡ comment_landed m
    → landed_all (landings_on (id_meant events s) s body count) now ≡ landed_on m (meant events m) now
lands_so events m s body count now says comment =
    ap (λ (o : Option PlainEvent). landed_all (landings_on (option_map id_of o) s body count) now) (meant_so events m s says) ∙ go (meant events m)
  where
    go : (o : Option PlainEvent) → landed_all (landings_on (option_map id_of o) s body count) now ≡ landed_on m o now
    go None = refl
    go (Some e) =
        let l : Landing = record { id = id_of e; said = s; body = body; count = count } in
        λ i. changed (id_of e) (λ x. said_words m l says comment x i) now

-- ---- one message more

pub record Taken (line : ℕ) (lines : List Bytes) (end : ℕ) (then : Option (Bor Bytes)) (first : ℕ) (body rest : Bytes) (count next : ℕ) : Type 0 where
  pub ends : end ≡ line + 1 + length (rest_from InHeaders (line + 1) lines).headers
  pub body_is : (rest_from InHeaders (line + 1) lines).body ≡ (rest_after end then).body
  pub later_is : (rest_from InHeaders (line + 1) lines).later ≡ (rest_after end then).later
  pub has : is_some then ≡ is_some (rest_after end then).body
  pub body_so : body_or_none (rest_after end then) ≡ body_or_none (rest_from InBody first (lines_in body))
  pub later_so : (rest_after end then).later ≡ (rest_from InBody first (lines_in body)).later
  pub counted : (rest_from InBody first (lines_in body)).body ≡ Some (take count (lines_in body))
  pub further : (rest_from InBody first (lines_in body)).later ≡ (rest_from InBody next (lines_in rest)).later
  pub begun : (rest_from InBody next (lines_in rest)).body ≡ Some []

abbrev this : ℕ → List Bytes → Message
this line lines = record {
  line = line;
  headers = (rest_from InHeaders (line + 1) lines).headers;
  body = (rest_from InHeaders (line + 1) lines).body;
}

or_no_lines : (b : Option (List Bytes)) → unwrap_or (option_map comment_in b) [] ≡ comment_in (unwrap_or b [])
or_no_lines None = refl
or_no_lines (Some lines) = refl

comment_so : (line : ℕ) (lines : List Bytes) (end : ℕ) (then : Option (Bor Bytes)) (first : ℕ) (body rest : Bytes) (count next : ℕ)
    → Taken line lines end then first body rest count next → comment_in (take count (lines_in body)) ≡ comment_landed (this line lines)
comment_so line lines end then first body rest count next t =
    sym (or_no_lines (this line lines).body
    ∙ ap (λ (b : Option (List Bytes)). comment_in (unwrap_or b [])) t.body_is
    ∙ ap comment_in t.body_so
    ∙ ap (λ (b : Option (List Bytes)). comment_in (unwrap_or b [])) t.counted)

read_so : (line : ℕ) (lines : List Bytes) (s : Said) (bad : Option Fault) (end : ℕ) (then : Option (Bor Bytes)) (first : ℕ) (body rest : Bytes) (count next : ℕ)
    → Say [] (rest_from InHeaders (line + 1) lines).headers s → bad ≡ lowest (line_faults (rest_from InHeaders (line + 1) lines).headers)
    → Taken line lines end then first body rest count next → IsRead (this line lines) line s bad end (is_some then)
read_so line lines s bad end then first body rest count next says worst t = record {
  place = refl;
  says = says;
  malformed = worst;
  ends = (let is = t.ends in omega arith);
  body = t.has ∙ ap is_some (sym t.body_is);
}

lower_lower : (x y z : Option Fault) (xs ys : List Fault) → y ≡ lowest xs → z ≡ lower x y → lower z (lowest ys) ≡ lower x (lowest (xs ++ ys))
lower_lower x y z xs ys is both =
    ap (λ (o : Option Fault). lower o (lowest ys)) (both ∙ ap (lower x) is) ∙ three x (lowest xs) (lowest ys) ∙ ap (lower x) (sym (lowest_append xs ys))
  where
    three : (x y z : Option Fault) → lower (lower x y) z ≡ lower x (lower y z)
    three None y z = refl
    three (Some f) None z = refl
    three (Some f) (Some g) z = lower_assoc (Some f) g z

was_none : (x y z : Option Fault) → z ≡ lower x y → z ≡ None → x ≡ None
was_none None y z is none = refl
was_none (Some f) None z is none = absurd (none-some {A = Fault} f (sym none ∙ is))
was_none (Some f) (Some g) z is none = absurd (none-some {A = Fault} _ (sym none ∙ is))

pub some_found : (o : Option Fault) (none : Bool) → is_some o ≡ not none → none ≡ false → o ≡ None → ⊥
some_found o none is some gone = true≢false (sym (ap not some) ∙ sym is ∙ ap is_some gone)

-- after a message that was judged and noted
pub judged_one : (events : List PlainEvent) (whole : Rest) (line : ℕ) (lines : List Bytes) (s : Said) (bad : Option Fault) (end : ℕ) (then : Option (Bor Bytes)) (first : ℕ)
    (body : Bor Bytes) (rest : Bytes) (count next : ℕ) (wrong own found : Option Fault) (old new : List Landing)
    → Say [] (rest_from InHeaders (line + 1) lines).headers s → bad ≡ lowest (line_faults (rest_from InHeaders (line + 1) lines).headers)
    → Taken line lines end then first body.now rest count next
    → ((m : Message) → IsRead m line s bad end (is_some then) → own ≡ lowest (faults_of events m))
    → found ≡ lower wrong own
    → (found ≡ None → new ≡ old ++ landings_on (id_meant events s) s body count)
    → IsLeftAfter events whole line lines wrong old
    → IsLeft events whole next (lines_in rest) found new
judged_one events whole line lines s bad end then first body rest count next wrong own found old new says worst t judged both noted left =
    record {
      begun = t.begun;
      left = record {
        faults = same_later ∙ lower_lower wrong own found (faults_of events m) (flat_map (faults_of events) later) own_is both ∙ left.faults;
        lands = λ none.
            ap (λ (ms : List Message). landed events ms (landed_all new events)) (sym goes)
            ∙ ap (landed events later) (now_landed none)
            ∙ left.lands (was_none wrong own found both none);
      };
    }
  where
    m : Message
    m = this line lines

    later : List Message
    later = (rest_from InHeaders (line + 1) lines).later

    own_is : own ≡ lowest (faults_of events m)
    own_is = judged m (read_so line lines s bad end then first body.now rest count next says worst t)

    goes : later ≡ (rest_from InBody next (lines_in rest)).later
    goes = t.later_is ∙ t.later_so ∙ t.further

    same_later : lower found (lowest (flat_map (faults_of events) (rest_from InBody next (lines_in rest)).later)) ≡ lower found (lowest (flat_map (faults_of events) later))
    same_later = ap (λ (ms : List Message). lower found (lowest (flat_map (faults_of events) ms))) (sym goes)

    now_landed : found ≡ None → landed_all new events ≡ landed_on m (meant events m) (landed_all old events)
    now_landed none =
        ap (λ (ls : List Landing). landed_all ls events) (noted none)
        ∙ landed_append old (landings_on (id_meant events s) s body count) events
        ∙ lands_so events m s body count (landed_all old events) says (comment_so line lines end then first body.now rest count next t)

-- ---- a line of hyphens

-- what begins with no line of a body begins with a line of hyphens
hyphens : (line : Bytes) (lines : List Bytes) (n : ℕ) → (rest_from InBody n (line ∷ lines)).body ≡ Some [] → is_rule line ≡ true
hyphens line lines n begun = go (is_rule line) refl
  where
    longer : (b : Option (List Bytes)) → option_map (λ ls. line ∷ ls) b ≡ Some [] → ⊥
    longer None e = none-some {A = List Bytes} [] e
    longer (Some ls) e = let same = same_Some {A = List Bytes} (line ∷ ls) [] e in let long = ap length same in omega arith

    go : (t : Bool) → is_rule line ≡ t → is_rule line ≡ true
    go true is = is
    go false is = absurd (longer (rest_from InBody (n + 1) lines).body (rw is at begun))

pub next_message : (events : List PlainEvent) (whole : Rest) (n : ℕ) (all : List Bytes) (line : Bytes) (lines : List Bytes) (wrong : Option Fault) (landings : List Landing)
    → all ≡ line ∷ lines → IsLeft events whole n all wrong landings → IsLeftAfter events whole n lines wrong landings
next_message events whole n all line lines wrong landings is left =
    let here = subst (λ (ls : List Bytes). IsLeft events whole n ls wrong landings) is left in
    subst (λ (ms : List Message). AreLeft events whole ms wrong landings) (front (hyphens line lines n here.begun)) here.left
  where
    front : is_rule line ≡ true → (rest_from InBody n (line ∷ lines)).later ≡ messages_after n lines
    front it = rw it refl

-- a body is there where none has begun
pub always_body : (lines : List Bytes) (n : ℕ) → is_some (rest_from InBody n lines).body ≡ true
always_body [] n = refl
always_body (line ∷ lines) n = elim (cases_Bool (is_rule line)) [
  | inl it ↦ rw it refl
  | inr no_it ↦ rw no_it (longer (rest_from InBody (n + 1) lines).body (always_body lines (n + 1)))
]
  where
    longer : (b : Option (List Bytes)) → is_some b ≡ true → is_some (option_map (λ ls. line ∷ ls) b) ≡ true
    longer None h = h
    longer (Some ls) h = refl

-- ---- the front and the end of a box

above : (n : ℕ) → (suc n == 0) ≡ false
above n = eqb-suc-zero n

front_faults : (count : ℕ) (lines : List Bytes) → count ≤ length lines → is_nothing (Some (take count lines)) ≡ (count == 0)
front_faults zero lines within = refl
front_faults (suc n) [] within = absurd (omega arith)
front_faults (suc n) (l ∷ ls) within = sym (above n)

pub at_front : (events : List PlainEvent) (bytes : Bytes) (count next : ℕ) (rest : Bytes) (wrong : Option Fault) → count ≤ length (lines_in bytes)
    → (rest_from InBody 1 (lines_in bytes)).body ≡ Some (take count (lines_in bytes))
    → (rest_from InBody 1 (lines_in bytes)).later ≡ (rest_from InBody next (lines_in rest)).later
    → (rest_from InBody next (lines_in rest)).body ≡ Some []
    → wrong ≡ lowest (fault_unless (count == 0) (fault.BadMessage 1))
    → IsLeft events (box_in bytes) next (lines_in rest) wrong []
unfolding box_in box_faults
at_front events bytes count next rest wrong within body later begun is = record {
  begun = begun;
  left = record {
    faults =
        ap (λ (ms : List Message). lower wrong (lowest (flat_map (faults_of events) ms))) (sym later)
        ∙ ap (λ (o : Option Fault). lower o (lowest (flat_map (faults_of events) whole))) (is ∙ ap (λ b. lowest (fault_unless b (fault.BadMessage 1))) nothing)
        ∙ sym (lowest_append (fault_unless (is_nothing (box_in bytes).body) (fault.BadMessage 1)) (flat_map (faults_of events) whole));
    lands = λ none. ap (λ (ms : List Message). landed events ms events) (sym later);
  };
}
  where
    whole : List Message
    whole = (rest_from InBody 1 (lines_in bytes)).later

    nothing : (count == 0) ≡ is_nothing (box_in bytes).body
    nothing = sym (ap is_nothing body ∙ front_faults count (lines_in bytes) within)

pub at_end_of : (events : List PlainEvent) (bytes : Bytes) (n : ℕ) (lines : List Bytes) (wrong : Option Fault) (landings : List Landing) → lines ≡ []
    → IsLeft events (box_in bytes) n lines wrong landings → land_of events bytes ≡ unless_fault wrong (landed_all landings events)
unfolding land_of lowest
at_end_of events bytes n lines wrong landings none left = go wrong here.left.faults here.left.lands
  where
    here : IsLeft events (box_in bytes) n [] wrong landings
    here = subst (λ (ls : List Bytes). IsLeft events (box_in bytes) n ls wrong landings) none left

    box : Rest
    box = box_in bytes

    go : (w : Option Fault) → lower w None ≡ lowest (box_faults events box) → (w ≡ None → landed_all landings events ≡ landed events box.later events)
        → unless_fault (lowest (box_faults events box)) (landed events box.later events) ≡ unless_fault w (landed_all landings events)
    go None faults lands = ap (λ (o : Option Fault). unless_fault o (landed events box.later events)) (sym faults) ∙ ap (λ (es : List PlainEvent). Ok es) (sym (lands refl))
    go (Some f) faults lands = ap (λ (o : Option Fault). unless_fault o (landed events box.later events)) (sym faults)
