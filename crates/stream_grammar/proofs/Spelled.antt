-- What is clean through some lines is spelled, by the same lines: judging refuses more and changes nothing else.
use Rattle.std.proofs.Common.{◌≡◌, ℕ, Bool, true, false, cond, ◌∷◌, Result, Ok, Err, refl, sym, ap, subst}
use Rattle.plain_model.specs.declared.fault.Why.{Why}
use Rattle.plain_model.specs.Fields.{◌>>=◌}
use Rattle.plain_model.specs.Paths.{Bytes}
use Rattle.line_automaton.specs.Machine.{Next, outcome, none, IsCleanBefore, NoneIsClean}
use Rattle.line_automaton.specs.Machine.Next.{More}
use Rattle.line_automaton.specs.Machine.Outcome.{Reads}
use Rattle.line_automaton.proofs.Judging.{is_spelled, one_first_defect}
use Rattle.stream_grammar.specs.declared.lines.Standing.{Standing}
use Rattle.stream_grammar.specs.declared.lines.Word.{Word}
use Rattle.stream_grammar.specs.Known.{Known}
use Rattle.stream_grammar.specs.Lines.{State, stream, is_comment, word_of, must_go_on, after_word, next_of, looked_at, read_on, word_step, line_step, data_arrived, AreSpelledAlike}

abbrev with_known : State → Known → State
with_known s k = record s { known = k }

abbrev state_or : State → Result (State × Next) Why → State
state_or s (Ok made) = made.0
state_or s (Err why) = s

abbrev next_or : Next → Result (State × Next) Why → Next
next_or n (Ok made) = made.1
next_or n (Err why) = n

-- the step goes on by the same next, to a state that is spelled alike
abbrev GoesAlike : Result (State × Next) Why → State → Next → Type 0
GoesAlike step new next = (other : State) × (step ≡ Ok (other, next)) × AreSpelledAlike new other

-- the state that is made here is the new one but for what is known
made_alike : (made : State) (k : Known) (n : Next) (new : State) (next : Next) → ◌≡◌ {A = Result (State × Next) Why} (Ok (made, n)) (Ok (new, next))
    → GoesAlike (Ok (with_known made k, n)) new next
made_alike made k n new next e =
    let is : made ≡ new = ap (state_or made) e in
    (with_known made k, ap (λ m. Ok (with_known made k, m)) (ap (next_or n) e), (sym (ap (λ (q : State). q.standing) is), sym (ap (λ (q : State). q.spelled) is)))

module _ (judge : Bool) (s : State) (k : Known) (line : Bytes) (new : State) (next : Next) where
  looked_alike : (standing : Standing) (n : Next) (r : Result Known Why)
      → (r >>= λ known. read_on s line standing n known) ≡ Ok (new, next)
      → GoesAlike (read_on s line standing n k) new next
  looked_alike standing n (Err why) e = absurd cc
  looked_alike standing n (Ok known) e = made_alike (record { standing = standing; spelled = line ∷ s.spelled; known = known }) k n new next e

  next_alike : (w : Word) (standing : Standing) (r : Result Next Why)
      → (r >>= λ n. looked_at judge w line s.known >>= λ known. read_on s line standing n known) ≡ Ok (new, next)
      → GoesAlike (r >>= λ n. read_on s line standing n k) new next
  next_alike w standing (Err why) e = absurd cc
  next_alike w standing (Ok n) e = looked_alike standing n (looked_at judge w line s.known) e

  word_alike : (w : Word) (r : Result Standing Why)
      → (r >>= λ standing. next_of w line >>= λ n. looked_at judge w line s.known >>= λ known. read_on s line standing n known) ≡ Ok (new, next)
      → GoesAlike (r >>= λ standing. next_of w line >>= λ n. read_on s line standing n k) new next
  word_alike w (Err why) e = absurd cc
  word_alike w (Ok standing) e = next_alike w standing (next_of w line) e

  line_alike : line_step judge s line ≡ Ok (new, next) → GoesAlike (line_step false (with_known s k) line) new next
  line_alike e = go (is_comment line) e
    where
      go : (t : Bool) → cond t (Ok (s, More)) (word_step judge s line (word_of line)) ≡ Ok (new, next) → GoesAlike (cond t (Ok (with_known s k, More)) (word_step false (with_known s k) line (word_of line))) new next
      go true e = made_alike s k More new next e
      go false e = word_alike (word_of line) (after_word s.standing (word_of line)) e

step_alike : (judge : Bool) (s t : State) (line : Bytes) (new : State) (next : Next) → AreSpelledAlike s t → line_step judge s line ≡ Ok (new, next) → GoesAlike (line_step false t line) new next
step_alike judge s t line new next h e =
    let is : with_known s t.known ≡ t = λ i. record { standing = h.0 i; spelled = h.1 i; known = t.known } in
    subst (λ q. GoesAlike (line_step false q line) new next) is (line_alike judge s t.known line new next e)

arrived_alike : (s t : State) (bytes : Bytes) → AreSpelledAlike s t → AreSpelledAlike (data_arrived s bytes) (data_arrived t bytes)
arrived_alike s t bytes h = (h.0, λ i. bytes ∷ h.1 i)

expected_alike : (s t : State) → AreSpelledAlike s t → must_go_on s.standing ≡ must_go_on t.standing
expected_alike s t h = ap must_go_on h.0

-- What is read, whichever lines are judged, is read where none is, by the same lines.
pub clean_is_spelled : (j : ℕ → Bool) (x : Bytes) (s : State) → outcome stream j x ≡ Reads s → (t : State) × (outcome stream none x ≡ Reads t) × AreSpelledAlike s t
clean_is_spelled = is_spelled stream AreSpelledAlike (λ s. (refl, refl)) step_alike arrived_alike expected_alike

-- The other texts alone fix the line of the first defect.
pub one_line : (x : Bytes) (n m : ℕ) → IsCleanBefore stream x n → NoneIsClean stream x n → IsCleanBefore stream x m → NoneIsClean stream x m → n ≡ m
one_line = one_first_defect stream AreSpelledAlike (λ s. (refl, refl)) step_alike arrived_alike expected_alike
