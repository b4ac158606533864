-- A text whose fields are right has the form: what is read where some lines are judged is read where none is.
use Rattle.std.proofs.Common.{◌≡◌, ℕ, Bool, true, false, cond, ◌∷◌, Result, Ok, refl, sym, ◌∙◌, ap, subst}
use Rattle.plain_model.specs.declared.fault.Why.{Why}
use Rattle.plain_model.specs.Fields.{◌>>=◌}
use Rattle.plain_model.specs.Paths.{Bytes}
use Rattle.field_laws.proofs.FieldSteps.{bind_ok, same_Ok}
use Rattle.line_automaton.specs.Machine.{Next, outcome, none}
use Rattle.line_automaton.specs.Machine.Next.{More}
use Rattle.line_automaton.specs.Machine.Outcome.{Reads}
use Rattle.line_automaton.proofs.Judging.{is_spelled}
use Rattle.stream_grammar.specs.Lines.{State, stream, is_comment, word_of, must_go_on, after_word, next_of, looked_at, read_on, word_step, line_step}
use Rattle.production_laws.proofs.Texts.{stepped, comment_steps, line_steps}

-- the states are at the same place
abbrev AreAlike : State → State → Type 0
AreAlike s t = s.standing ≡ t.standing

abbrev GoesAlike : State → Bytes → State → Next → Type 0
GoesAlike t line new next = (other : State) × (line_step false t line ≡ Ok (other, next)) × AreAlike new other

module _ (judge : Bool) (s t : State) (line : Bytes) (new : State) (next : Next) (h : AreAlike s t) where
  comment_alike : is_comment line ≡ true → ◌≡◌ {A = Result (State × Next) Why} (Ok (s, More)) (Ok (new, next)) → GoesAlike t line new next
  comment_alike comment e =
      subst (λ (q : State × Next). GoesAlike t line q.0 q.1) (same_Ok {A = State × Next} (s, More) (new, next) e) (t, comment_steps t line comment, h)

  word_alike : is_comment line ≡ false → word_step judge s line (word_of line) ≡ Ok (new, next) → GoesAlike t line new next
  word_alike plain e =
      let w = word_of line in
      let a = bind_ok (after_word s.standing w) (λ standing. next_of w line >>= λ n. looked_at judge w line s.known >>= λ known. read_on s line standing n known) (new, next) e in
      let b = bind_ok (next_of w line) (λ n. looked_at judge w line s.known >>= λ known. read_on s line a.0 n known) (new, next) a.2 in
      let c = bind_ok (looked_at judge w line s.known) (λ known. read_on s line a.0 b.0 known) (new, next) b.2 in
      let made : State = record { standing = a.0; spelled = line ∷ s.spelled; known = c.0 } in
      subst (λ (q : State × Next). GoesAlike t line q.0 q.1) (same_Ok {A = State × Next} (made, b.0) (new, next) c.2)
      (stepped t line a.0, line_steps t line a.0 b.0 plain (ap (λ q. after_word q w) (sym h) ∙ a.1) b.1, refl)

step_alike : (judge : Bool) (s t : State) (line : Bytes) (new : State) (next : Next) → AreAlike s t → line_step judge s line ≡ Ok (new, next) → GoesAlike t line new next
step_alike judge s t line new next h e = go (is_comment line) refl e
  where
    go : (u : Bool) → is_comment line ≡ u → cond u (Ok (s, More)) (word_step judge s line (word_of line)) ≡ Ok (new, next) → GoesAlike t line new next
    go true is e = comment_alike judge s t line new next h is e
    go false is e = word_alike judge s t line new next h is e

-- whichever lines are judged
pub read_has_form : (judged : ℕ → Bool) (bytes : Bytes) (s : State) → outcome stream judged bytes ≡ Reads s
    → (t : State) × (outcome stream none bytes ≡ Reads t)
read_has_form judged bytes s e =
    let x = is_spelled stream AreAlike (λ s. refl) step_alike (λ s t bytes h. h) (λ s t h. ap must_go_on h) judged bytes s e in
    (x.0, x.1)
