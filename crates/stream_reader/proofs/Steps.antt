-- What a line does, as far as it was read.
use Rattle.std.proofs.Common.{◌≡◌, true, false, cond, List, ◌∷◌, Option, Some, None, Result, Ok, Err, refl, ap, sym, ◌∙◌}
use Rattle.plain_model.specs.declared.fault.Which.{Which}
use Rattle.plain_model.specs.declared.fault.Why.{Why}
use Rattle.plain_model.specs.Fields.{◌>>=◌}
use Rattle.plain_model.specs.Paths.{Bytes}
use Rattle.line_automaton.specs.Limits.{Cause, within, limited_step}
use Rattle.line_automaton.specs.Limits.Cause.{Defect}
use Rattle.line_automaton.specs.Machine.{Next}
use Rattle.line_automaton.specs.Machine.Next.{More}
use Rattle.stream_grammar.specs.declared.lines.Standing.{Standing}
use Rattle.stream_grammar.specs.declared.lines.Word.{Word}
use Rattle.stream_grammar.specs.declared.lines.Word.TheVariants as word
use Rattle.stream_grammar.specs.Known.{Known}
use Rattle.stream_grammar.specs.Limits.{exceeded, limit_at, within_limit, after_judged, judged_within, stream_within}
use Rattle.stream_grammar.specs.Lines.{State, stream, is_comment, word_of, after_word, next_of, judged, read_on, word_step, line_step}

abbrev pub state : Standing → List Bytes → Known → State
state standing spelled known = record { standing = standing; spelled = spelled; known = known }

abbrev with_standing : Word → Bytes → State → Result Standing Why → Result (State × Next) Why
with_standing w line s r = r >>= λ standing. next_of w line >>= λ next. judged w line s.known >>= λ known. read_on s line standing next known

abbrev with_next : Word → Bytes → State → Standing → Result Next Why → Result (State × Next) Why
with_next w line s standing r = r >>= λ next. judged w line s.known >>= λ known. read_on s line standing next known

abbrev with_known : Bytes → State → Standing → Next → Result Known Why → Result (State × Next) Why
with_known line s standing next r = r >>= λ known. read_on s line standing next known

-- a step, within the limits
abbrev pub step_within : Standing → Known → Bytes → List Bytes → Result (State × Next) (Cause Why Which)
step_within s k line spelled = stream_within.step true (state s spelled k) line

module _ (s : Standing) (k : Known) (line : Bytes) (spelled : List Bytes) where
  within_limits : Result (State × Next) Why → Result (State × Next) (Cause Why Which)
  within_limits r = limited_step stream exceeded line r

  module _ (w : Word) (plain : is_comment line ≡ false) (is : w ≡ word_of line) where
    is_word_step : line_step true (state s spelled k) line ≡ word_step true (state s spelled k) line w
    is_word_step =
        ap (λ t. cond {A = Result (State × Next) Why} t (Ok (state s spelled k, More)) (word_step true (state s spelled k) line (word_of line))) plain
        ∙ ap (word_step true (state s spelled k) line) (sym is)

    module _ (t : Standing) (stands : after_word s w ≡ Ok t) where
      pub block_refused : (why : Why) → next_of w line ≡ Err why → step_within s k line spelled ≡ Err (Defect why)
      unfolding within_limits
      block_refused why e = ap within_limits (is_word_step ∙ ap (with_standing w line (state s spelled k)) stands ∙ ap (with_next w line (state s spelled k) t) e)

      module _ (next : Next) (follows : next_of w line ≡ Ok next) where
        -- the step after what is known then
        abbrev pub step_to : Result Known (Cause Why Which) → Result (State × Next) (Cause Why Which)
        step_to (Ok l) = Ok (state t (line ∷ spelled) l, next)
        step_to (Err cause) = Err cause

        is_judged : line_step true (state s spelled k) line ≡ with_known line (state s spelled k) t next (judged w line k)
        is_judged = is_word_step ∙ ap (with_standing w line (state s spelled k)) stands ∙ ap (with_next w line (state s spelled k) t) follows

        -- a line that is no comment passes the limits of its word
        passed_is : (l : Known) → exceeded line (state t (line ∷ spelled) l) ≡ limit_at w l
        passed_is l = ap (λ c. cond {A = Option Which} c None (limit_at (word_of line) l)) plain ∙ ap (λ v. limit_at v l) (sym is)

        both : (l : Known) (o : Option Which) → within stream exceeded (state t (line ∷ spelled) l, next) o ≡ step_to (within_limit o l)
        both l None = refl
        both l (Some which) = refl

        known_after : (r : Result Known Why) → within_limits (with_known line (state s spelled k) t next r) ≡ step_to (after_judged w r)
        unfolding within_limits
        known_after (Err why) = refl
        known_after (Ok l) = ap (within stream exceeded (state t (line ∷ spelled) l, next)) (passed_is l) ∙ both l (limit_at w l)

        pub made : (r : Result Known (Cause Why Which)) → judged_within w line k ≡ r → step_within s k line spelled ≡ step_to r
        unfolding within_limits
        made r e = ap within_limits is_judged ∙ known_after (judged w line k) ∙ ap step_to e

-- after a line that is neither one of data nor the last
pub next_is_line : (w : Word) (line : Bytes) → (w ≡ word.Data → ⊥) → (w ≡ word.Done → ⊥) → next_of w line ≡ Ok More
next_is_line word.Data line no_data not_done = absurd (no_data refl)
next_is_line word.Done line no_data not_done = absurd (not_done refl)
next_is_line _ line no_data not_done = refl
