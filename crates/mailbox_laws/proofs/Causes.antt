-- A box is refused for a fault of a message.
use Rattle.std.proofs.Common.{◌≡◌, ◌+◌, ℕ, Bool, true, false, List, [], ◌∷◌, ◌++◌, length, Option, Some, None, Err, refl, subst, nat_lt}
use Rattle.std.specs.List.{AllByRecursion}
use Rattle.std.specs.Prelude.{codes, flat_map, is_some, if◌then◌else◌}
use Rattle.plain_model.specs.Parts.{begins}
use Rattle.plain_model.specs.Paths.{Bytes}
use Rattle.plain_model.specs.declared.event.PlainEvent.{PlainEvent}
use Rattle.plain_model.specs.declared.fault.Fault.{Fault}
use Rattle.plain_model.specs.declared.fault.Fault.TheVariants as fault
use Rattle.event_arena.specs.declared.field.Role.{Role}
use Rattle.event_arena.specs.declared.field.Role.TheVariants.{Author, Committer, Tagger}
use Rattle.mailbox_laws.specs.Boxes.{Message, Rest, box_in}
use Rattle.mailbox_laws.specs.Headers.{header_in, said}
use Rattle.mailbox_laws.specs.Landing.{box_faults, check_faults, check_faults_of, choice_faults, comment_of, commit_meant, end_faults, fault_line, fault_unless, faults_of, first_of, is_either, is_identity, is_moment, is_nothing, land_of, landed, line_faults, lowest, meaning_faults, meant, role_faults, tag_meant, unless_fault, value_faults}
use Rattle.mailbox_laws.specs.Reporting.{IsBoxFault}
use Rattle.mailbox_laws.specs.Written.{date_name, role_name}

abbrev AreBoxFaults : List Fault → Type 0
AreBoxFaults faults = AllByRecursion IsBoxFault faults

both_of : (xs ys : List Fault) → AreBoxFaults xs → AreBoxFaults ys → AreBoxFaults (xs ++ ys)
both_of [] ys h k = k
both_of (x ∷ xs) ys h k = (h.0, both_of xs ys h.1 k)

unless_of : (b : Bool) (why : Fault) → IsBoxFault why → AreBoxFaults (fault_unless b why)
unless_of true why h = tt
unless_of false why h = (h, tt)

value_of : (passes : Bytes → Bool) (why : ℕ → Fault) (o : Option (ℕ × Bytes)) → ((n : ℕ) → IsBoxFault (why n)) → AreBoxFaults (value_faults passes why o)
value_of passes why None h = tt
value_of passes why (Some value) h = unless_of (passes value.1) (why value.0) (h value.0)

lines_of : (hs : List (ℕ × Bytes)) → AreBoxFaults (line_faults hs)
lines_of [] = tt
lines_of (l ∷ ls) = both_of (fault_unless (is_some (header_in l.1)) (fault.BadMessage l.0)) (line_faults ls) (unless_of (is_some (header_in l.1)) (fault.BadMessage l.0) tt) (lines_of ls)

check_of : (o : Option PlainEvent) (check : Option (ℕ × Bytes)) → AreBoxFaults (check_faults_of o check)
check_of None check = tt
check_of (Some e) check = value_of (λ value. begins value (comment_of e)) fault.CheckText check (λ n. tt)

role_of : (m : Message) (role : Role) → AreBoxFaults (role_faults m role)
role_of m role =
    both_of (value_faults is_identity fault.BadMessage (said (role_name role) m)) (value_faults is_moment fault.BadMessage (said (date_name role) m))
    (value_of is_identity fault.BadMessage (said (role_name role) m) (λ n. tt)) (value_of is_moment fault.BadMessage (said (date_name role) m) (λ n. tt))

meaning_of : (events : List PlainEvent) (m : Message) → AreBoxFaults (meaning_faults events m)
meaning_of events m =
    both_of (value_faults (λ value. is_some (commit_meant events value)) fault.NoSuchTarget (said (codes "Event-Mark") m))
    (value_faults (λ value. is_some (tag_meant events value)) fault.NoSuchTarget (said (codes "Tag-Name") m))
    (value_of (λ value. is_some (commit_meant events value)) fault.NoSuchTarget (said (codes "Event-Mark") m) (λ n. tt))
    (value_of (λ value. is_some (tag_meant events value)) fault.NoSuchTarget (said (codes "Tag-Name") m) (λ n. tt))

message_of : (events : List PlainEvent) (m : Message) → AreBoxFaults (faults_of events m)
unfolding faults_of
message_of events m =
    let front = both_of (choice_faults m) (line_faults m.headers) (unless_of (is_either (said (codes "Event-Mark") m) (said (codes "Tag-Name") m)) (fault.BadMessage m.line) tt) (lines_of m.headers) in
    let by_author = both_of (choice_faults m ++ line_faults m.headers) (role_faults m Author) front (role_of m Author) in
    let by_committer = both_of (choice_faults m ++ line_faults m.headers ++ role_faults m Author) (role_faults m Committer) by_author (role_of m Committer) in
    let by_tagger = both_of (choice_faults m ++ line_faults m.headers ++ role_faults m Author ++ role_faults m Committer) (role_faults m Tagger) by_committer (role_of m Tagger) in
    let at_end = both_of (choice_faults m ++ line_faults m.headers ++ role_faults m Author ++ role_faults m Committer ++ role_faults m Tagger) (end_faults m) by_tagger
    (unless_of (is_some m.body) (fault.BadMessage (m.line + length m.headers + 1)) tt) in
    let all_meant = both_of (choice_faults m ++ line_faults m.headers ++ role_faults m Author ++ role_faults m Committer ++ role_faults m Tagger ++ end_faults m) (meaning_faults events m) at_end (meaning_of events m) in
    both_of (choice_faults m ++ line_faults m.headers ++ role_faults m Author ++ role_faults m Committer ++ role_faults m Tagger ++ end_faults m ++ meaning_faults events m) (check_faults events m) all_meant
    (check_of (meant events m) (said (codes "Check-Text") m))

messages_of : (events : List PlainEvent) (ms : List Message) → AreBoxFaults (flat_map (faults_of events) ms)
messages_of events [] = tt
messages_of events (m ∷ ms) = both_of (faults_of events m) (flat_map (faults_of events) ms) (message_of events m) (messages_of events ms)

box_of : (events : List PlainEvent) (box : Rest) → AreBoxFaults (box_faults events box)
unfolding box_faults
box_of events box =
    both_of (fault_unless (is_nothing box.body) (fault.BadMessage 1)) (flat_map (faults_of events) box.later) (unless_of (is_nothing box.body) (fault.BadMessage 1) tt) (messages_of events box.later)

lowest_of : (faults : List Fault) → AreBoxFaults faults → (why : Fault) → lowest faults ≡ Some why → IsBoxFault why
unfolding lowest
lowest_of [] h why is = absurd cc
lowest_of (f ∷ fs) h why is =
    let same : first_of f (lowest fs) ≡ why = cc in
    subst IsBoxFault same (first f (lowest fs) h.0 (λ g e. lowest_of fs h.1 g e))
  where
    pick : (b : Bool) (f g : Fault) → IsBoxFault f → IsBoxFault g → IsBoxFault (if b then g else f)
    pick true f g h k = k
    pick false f g h k = h

    first : (f : Fault) (o : Option Fault) → IsBoxFault f → ((g : Fault) → o ≡ Some g → IsBoxFault g) → IsBoxFault (first_of f o)
    first f None h k = h
    first f (Some g) h k = pick (nat_lt (fault_line g) (fault_line f)) f g h (k g refl)

pub land_refused : (events : List PlainEvent) (bytes : Bytes) (why : Fault) → land_of events bytes ≡ Err why → IsBoxFault why
unfolding land_of
land_refused events bytes why is = go (lowest (box_faults events (box_in bytes))) refl is
  where
    go : (o : Option Fault) → lowest (box_faults events (box_in bytes)) ≡ o → unless_fault o (landed events (box_in bytes).later events) ≡ Err why → IsBoxFault why
    go None e is = absurd cc
    go (Some f) e is = let same : f ≡ why = cc in subst IsBoxFault same (lowest_of (box_faults events (box_in bytes)) (box_of events (box_in bytes)) f e)
