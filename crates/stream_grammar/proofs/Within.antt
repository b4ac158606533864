-- What a stream gives within the limits, against what it gives without.
use Rattle.std.proofs.Common.{◌≡◌, ℕ, ◌<◌, ◌≤◌, Bool, true, false, cond, List, Some, Result, Ok, Err, refl, ap, sym, ◌∙◌, inl, inr, nat_lt, arith}
use Rattle.std.proofs.lemmas.Bool.{cond-false}
use Rattle.std.proofs.lemmas.Bool.Decides.{nat_tests}
use Rattle.plain_model.specs.declared.event.PlainEvent.{PlainEvent}
use Rattle.plain_model.specs.declared.fault.Fault.{Fault}
use Rattle.plain_model.specs.declared.fault.Fault.TheVariants.{BadStream, Limit, MarksSpent}
use Rattle.plain_model.specs.declared.fault.Which.{Which}
use Rattle.plain_model.specs.declared.fault.Why.{Why}
use Rattle.plain_model.specs.declared.fault.Why.TheVariants.{Truncated}
use Rattle.plain_model.specs.declared.limit.TheConstants.{MAX_MARK}
use Rattle.plain_model.specs.Paths.{Bytes}
use Rattle.line_automaton.specs.Limits.{Cause, ExceedsLimit}
use Rattle.line_automaton.specs.Limits.Cause.{Defect, Exceeds}
use Rattle.line_automaton.specs.Machine.{EndsEarly, Outcome, Stops, outcome, all}
use Rattle.line_automaton.specs.Machine.Outcome.{Reads, Refuses, Misses}
use Rattle.line_automaton.proofs.LimitLaws.{limited_reads, limited_misses, limited_defect, limited_passes, defect_first, missing_first, limit_first, read_first}
use Rattle.stream_grammar.specs.Known.{Known, history_of}
use Rattle.stream_grammar.specs.Limits.{exceeded, stream_within, last_mark, unless_spent, known_given, if_known, stream_of, limit_number}
use Rattle.stream_grammar.specs.Lines.{State, stream, history_read, history_in, IsFirstDefect}
use Rattle.stream_grammar.proofs.FirstDefect.{stops, ends_early}

abbrev Answered : Type 0
Answered = Outcome State (Cause Why Which)

abbrev Given : Type 0
Given = Result (List PlainEvent) Fault

-- ---- what was read

not_spent : (k : Known) (h : List PlainEvent) → unless_spent k ≡ Ok h → history_of k ≡ h
not_spent k h e = go (nat_lt MAX_MARK (last_mark k)) e
  where
    go : (b : Bool) → ◌≡◌ {A = Given} (cond b (Err MarksSpent) (Ok (history_of k))) (Ok h) → history_of k ≡ h
    go true e = absurd cc
    go false e = cc

pub history : (bytes : Bytes) (h : List PlainEvent) → stream_of bytes ≡ Ok h → history_in bytes ≡ Some h
history bytes h e = go (outcome stream_within all bytes) refl e
  where
    go : (o : Answered) → outcome stream_within all bytes ≡ o → if_known (known_given o) ≡ Ok h → history_in bytes ≡ Some h
    go (Reads s) is e = ap history_read (limited_reads stream exceeded all bytes s is) ∙ ap (λ l. Some l) (not_spent s.known h e)
    go (Refuses n cause) is e = absurd cc
    go (Misses n) is e = absurd cc

-- ---- why there is none

no_defect : (k : Known) (n : ℕ) (why : Why) → unless_spent k ≡ Err (BadStream n why) → ⊥
no_defect k n why e = go (nat_lt MAX_MARK (last_mark k)) e
  where
    go : (b : Bool) → ◌≡◌ {A = Given} (cond b (Err MarksSpent) (Ok (history_of k))) (Err (BadStream n why)) → ⊥
    go true e = absurd cc
    go false e = absurd cc

no_limit : (k : Known) (which : Which) (number : ℕ) → unless_spent k ≡ Err (Limit which number) → ⊥
no_limit k which number e = go (nat_lt MAX_MARK (last_mark k)) e
  where
    go : (b : Bool) → ◌≡◌ {A = Given} (cond b (Err MarksSpent) (Ok (history_of k))) (Err (Limit which number)) → ⊥
    go true e = absurd cc
    go false e = absurd cc

spent_marks : (k : Known) → unless_spent k ≡ Err MarksSpent → MAX_MARK < last_mark k
spent_marks k e = go (nat_lt MAX_MARK (last_mark k)) refl e
  where
    go : (b : Bool) → nat_lt MAX_MARK (last_mark k) ≡ b → ◌≡◌ {A = Given} (cond b (Err MarksSpent) (Ok (history_of k))) (Err MarksSpent)
        → MAX_MARK < last_mark k
    go true is e = grind (arith, nat_tests)
    go false is e = absurd cc

pub defect : (bytes : Bytes) (n : ℕ) (why : Why) → stream_of bytes ≡ Err (BadStream n why) → IsFirstDefect bytes n why
defect bytes n why e = go (outcome stream_within all bytes) refl e
  where
    go : (o : Answered) → outcome stream_within all bytes ≡ o → if_known (known_given o) ≡ Err (BadStream n why) → IsFirstDefect bytes n why
    go (Reads s) is e = absurd (no_defect s.known n why e)
    go (Refuses m (Defect w)) is e =
        let line : m ≡ n = cc in
        let kind : w ≡ why = cc in
        inl ((stops bytes n why).1 (limited_defect stream exceeded all bytes n why (is ∙ (λ i. Refuses (line i) (Defect (kind i))))))
    go (Refuses m (Exceeds which)) is e = absurd cc
    go (Misses m) is e =
        let line : m ≡ n = cc in
        let kind : Truncated ≡ why = cc in
        inr (sym kind, (ends_early bytes n).1 (limited_misses stream exceeded all bytes n (is ∙ ap (λ l. Misses l) line)))

pub limit : (bytes : Bytes) (which : Which) (number : ℕ) → stream_of bytes ≡ Err (Limit which number)
    → (number ≡ limit_number which) × (n : ℕ) × ExceedsLimit stream exceeded bytes n which
limit bytes which number e = go (outcome stream_within all bytes) refl e
  where
    go : (o : Answered) → outcome stream_within all bytes ≡ o → if_known (known_given o) ≡ Err (Limit which number)
        → (number ≡ limit_number which) × (n : ℕ) × ExceedsLimit stream exceeded bytes n which
    go (Reads s) is e = absurd (no_limit s.known which number e)
    go (Refuses m (Defect w)) is e = absurd cc
    go (Refuses m (Exceeds w)) is e =
        let same : w ≡ which = cc in
        let prescribed : limit_number w ≡ number = cc in
        (sym prescribed ∙ ap limit_number same, m, limited_passes stream exceeded bytes m which (is ∙ ap (λ l. Refuses m (Exceeds l)) same))
    go (Misses m) is e = absurd cc

pub spent : (bytes : Bytes) → stream_of bytes ≡ Err MarksSpent → (s : State) × (outcome stream all bytes ≡ Reads s) × (MAX_MARK < last_mark s.known)
spent bytes e = go (outcome stream_within all bytes) refl e
  where
    go : (o : Answered) → outcome stream_within all bytes ≡ o → if_known (known_given o) ≡ Err MarksSpent
        → (s : State) × (outcome stream all bytes ≡ Reads s) × (MAX_MARK < last_mark s.known)
    go (Reads s) is e = (s, limited_reads stream exceeded all bytes s is, spent_marks s.known e)
    go (Refuses m (Defect w)) is e = absurd cc
    go (Refuses m (Exceeds w)) is e = absurd cc
    go (Misses m) is e = absurd cc

-- ---- the other way round

-- no line exceeds a limit, or none before this one
abbrev ExceedsNone : Bytes → Type 0
ExceedsNone bytes = (m : ℕ) (which : Which) → ExceedsLimit stream exceeded bytes m which → ⊥

abbrev ExceedsNoneBefore : Bytes → ℕ → Type 0
ExceedsNoneBefore bytes n = (m : ℕ) (which : Which) → ExceedsLimit stream exceeded bytes m which → n ≤ m

pub defect_reported : (bytes : Bytes) (n : ℕ) (why : Why) → Stops stream bytes n why → ExceedsNoneBefore bytes n → stream_of bytes ≡ Err (BadStream n why)
defect_reported bytes n why s none = ap (λ o. if_known (known_given o)) (defect_first stream exceeded bytes n why ((stops bytes n why).0 s) none)

pub end_reported : (bytes : Bytes) (n : ℕ) → EndsEarly stream bytes n → ExceedsNone bytes → stream_of bytes ≡ Err (BadStream n Truncated)
end_reported bytes n s none = ap (λ o. if_known (known_given o)) (missing_first stream exceeded bytes n ((ends_early bytes n).0 s) none)

pub limit_reported : (bytes : Bytes) (n : ℕ) (which : Which) → ExceedsLimit stream exceeded bytes n which → ExceedsNoneBefore bytes n → stream_of bytes ≡ Err (Limit which (limit_number which))
limit_reported bytes n which s none = ap (λ o. if_known (known_given o)) (limit_first stream exceeded bytes n which s none)

pub history_given : (bytes : Bytes) (s : State) → outcome stream all bytes ≡ Reads s → ExceedsNone bytes → last_mark s.known ≤ MAX_MARK → stream_of bytes ≡ Ok (history_of s.known)
history_given bytes s is none few =
    ap (λ o. if_known (known_given o)) (read_first stream exceeded bytes s is none)
    ∙ cond-false (nat_lt MAX_MARK (last_mark s.known)) (Err MarksSpent) (Ok (history_of s.known)) (grind (arith, nat_tests))
