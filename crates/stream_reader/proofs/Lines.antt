-- What a line that has come whole makes of the machine.
use Rattle.std.proofs.Common.{◌≡◌, ℕ, zero, suc, ◌+◌, ◌-◌, ◌^◌, ◌<◌, Bool, true, false, cond, List, [], ◌∷◌, ◌++◌, drop, Result, Ok, Err, refl, sym, ap, ◌∙◌, arith}
use Rattle.std.specs.Prelude.{bytes_eq}
use Rattle.plain_model.specs.declared.fault.Which.{Which}
use Rattle.plain_model.specs.declared.fault.Why.{Why}
use Rattle.plain_model.specs.Fields.{◌>>=◌, Extent, extent_in}
use Rattle.plain_model.specs.Paths.{Bytes}
use Rattle.line_automaton.specs.Limits.{Cause}
use Rattle.line_automaton.specs.Limits.Cause.{Defect, Exceeds}
use Rattle.line_automaton.specs.Machine.{Mode, Next, answered, moved}
use Rattle.line_automaton.specs.Machine.Next.{More, Block, Until, Over}
use Rattle.line_automaton.specs.Machine.Machine.{At}
use Rattle.line_automaton.specs.Machine.Mode.{InLine, InBlock, After, InDelimited}
use Rattle.stream_grammar.specs.declared.lines.Standing.{Standing}
use Rattle.stream_grammar.specs.declared.lines.Word.{Word}
use Rattle.stream_grammar.specs.declared.lines.Word.TheVariants as word
use Rattle.stream_grammar.specs.Known.{Known, with_data}
use Rattle.stream_grammar.specs.Limits.{judged_within, stream_within}
use Rattle.stream_grammar.specs.Lines.{State, after_word, data_arrived, is_comment, is_inline_expected, next_by, next_of, word_of}
use Rattle.stream_builder.specs.declared.fault.LineFault.{LineFault}
use Rattle.stream_builder.specs.declared.fault.LineFault.TheVariants as fault_of_line
use Rattle.stream_builder.specs.Judging.{Judges}
use Rattle.stream_reader.specs.declared.place.Place.{Place}
use Rattle.stream_reader.specs.declared.place.Place.TheVariants as place
use Rattle.stream_reader.specs.Reading.{HasStopped, IsAt, IsIn, StreamMachine, after_compared, after_line, goes, in_line, is_between_lines, state}
use Rattle.stream_reader.proofs.Steps.{block_refused, made, next_is_line}

-- ---- by what follows a line of data

-- what follows it, by how far it says that its block goes
pub data_next : (line : Bytes) (r : Result Extent Why) → extent_in line ≡ r → next_of word.Data line ≡ (r >>= λ extent. Ok (next_by extent))
data_next line r e = ap (λ (x : Result Extent Why). x >>= λ extent. Ok (next_by extent)) e

module _ (standing : Standing) (known : Known) (n come : ℕ) (line : Bytes) (spelled : List Bytes) (next : Result Next Why) where
  -- a block of no bytes is there at once
  pub no_bytes : (now : Known) (bytes : Bytes) (inline : Bool) → next ≡ Ok (Block 0) → bytes ≡ [] → inline ≡ is_inline_expected standing.expected → now ≡ with_data inline bytes known
      → IsAt standing now (n + 1) (After false) (goes n line (state standing spelled known) next)
  no_bytes now bytes inline e none is arrived = (
    [] ∷ spelled,
    ap (goes n line (state standing spelled known)) e
        ∙ ap (λ (k : Known). At (n + 1) (After false) (state standing ([] ∷ spelled) k)) (sym (arrived ∙ (λ i. with_data (is i) (none i) known))),
  )

  pub counted_block : (count : ℕ) (bytes : Bytes) → next ≡ Ok (Block count) → (count ≡ 0 → ⊥) → bytes ≡ []
      → IsIn standing known (n + 1) come (place.Block n (count - 1) bytes) (goes n line (state standing spelled known) next)
  counted_block zero bytes e some none = absurd (some refl)
  counted_block (suc k) bytes e some none =
      let same : k ≡ suc k - 1 = omega arith in
      (spelled, ap (goes n line (state standing spelled known)) e ∙ (λ i. At (n + 1) (InBlock n (same i) (sym none i)) (state standing spelled known)))

  pub endless_block : (i : ℕ) → 2 ^ 63 < i → next ≡ Ok (Block i) → IsIn standing known (n + 1) come (place.EndlessBlock n) (goes n line (state standing spelled known) next)
  endless_block zero above e = absurd (omega (arith, above))
  endless_block (suc k) above e = (n + 1, k, [], omega (arith, above), (spelled, ap (goes n line (state standing spelled known)) e))

  pub delimited_block : (delimiter bytes begun : Bytes) → next ≡ Ok (Until 7) → delimiter ≡ drop 7 line → bytes ≡ [] → begun ≡ []
      → IsIn standing known (n + 1) come (place.DelimitedBlock n delimiter bytes begun) (goes n line (state standing spelled known) next)
  delimited_block delimiter bytes begun e is none nothing = (
    spelled,
    ap (goes n line (state standing spelled known)) e ∙ (λ i. At (n + 1) (InDelimited n (sym is i) (sym none i) (sym nothing i)) (state standing spelled known)),
  )

-- ---- by what a line is

abbrev by_step : ℕ → Bytes → Result (State × Next) (Cause Why Which) → StreamMachine
by_step n line r = moved stream_within n (n + 1) (answered stream_within n line r)

module _ (standing : Standing) (known : Known) (n come : ℕ) (line : Bytes) (spelled : List Bytes) where
  module _ (w : Word) (plain : is_comment line ≡ false) (is : w ≡ word_of line) where
    module _ (t : Standing) (stands : after_word standing w ≡ Ok t) where
      -- a line of data goes by what follows it
      pub data_goes : w ≡ word.Data → (next : Result Next Why) → next_of word.Data line ≡ next
          → after_line n (state standing spelled known) line ≡ goes n line (state t (line ∷ spelled) known) next
      data_goes is_data (Err why) e =
          ap (by_step n line) (block_refused standing known line spelled w plain is t stands why (ap (λ v. next_of v line) is_data ∙ e))
      data_goes is_data (Ok next) e =
          ap (by_step n line) (made standing known line spelled w plain is t stands next (ap (λ v. next_of v line) is_data ∙ e) (Ok known) (ap (λ v. judged_within v line known) is_data))
          ∙ entered_is next
        where
          entered_is : (x : Next) → by_step n line (Ok (state t (line ∷ spelled) known, x)) ≡ goes n line (state t (line ∷ spelled) known) (Ok x)
          entered_is More = refl
          entered_is (Block zero) = refl
          entered_is (Block (suc k)) = refl
          entered_is (Until k) = refl
          entered_is Over = refl

      pub ended : w ≡ word.Done → IsIn t known (n + 1) come place.Over (after_line n (state standing spelled known) line)
      ended done = (
        n + 1,
        (
          line ∷ spelled,
          ap (by_step n line) (made standing known line spelled w plain is t stands Over (ap (λ v. next_of v line) done) (Ok known) (ap (λ v. judged_within v line known) done)),
        ),
      )

      module _ (no_data : w ≡ word.Data → ⊥) (not_done : w ≡ word.Done → ⊥) where
        pub judged_on : (now : Known) (begun : Bytes) → judged_within w line known ≡ Ok now → begun ≡ []
            → IsIn t now (n + 1) come (place.Line begun) (after_line n (state standing spelled known) line)
        judged_on now begun e none = (
          line ∷ spelled,
          ap (by_step n line) (made standing known line spelled w plain is t stands More (next_is_line w line no_data not_done) (Ok now) e)
              ∙ ap (λ (b : Bytes). At (n + 1) (InLine b) (state t (line ∷ spelled) now)) (sym none),
        )

        pub not_judged : (now : Known) (f : LineFault) → Judges now (Err f) (judged_within w line known) → HasStopped (in_line n f) (after_line n (state standing spelled known) line)
        not_judged now (fault_of_line.Bad why) e =
            ap (by_step n line) (made standing known line spelled w plain is t stands More (next_is_line w line no_data not_done) (Err (Defect why)) e)
        not_judged now (fault_of_line.Limit which) e =
            (n, ap (by_step n line) (made standing known line spelled w plain is t stands More (next_is_line w line no_data not_done) (Err (Exceeds which)) e), refl)
        not_judged now fault_of_line.Memory e = tt

-- ---- lines of a block up to a delimiter

module _ (standing : Standing) (known : Known) (n come from : ℕ) (delimiter bytes line : Bytes) (spelled : List Bytes) where
  pub delimiter_comes : (now : Known) (inline : Bool) → bytes_eq line delimiter ≡ true → inline ≡ is_inline_expected standing.expected → now ≡ with_data inline bytes known
      → IsIn standing now (n + 1) come (place.AfterBlock false) (after_compared n from delimiter bytes line (state standing spelled known))
  delimiter_comes now inline same is arrived = (
    bytes ∷ spelled,
    ap (λ t. by_test t) same ∙ ap (λ (k : Known). At (n + 1) (After false) (state standing (bytes ∷ spelled) k)) (sym (arrived ∙ ap (λ i. with_data i bytes known) is)),
  )
    where
      by_test : Bool → StreamMachine
      by_test t = (let to = cond {A = Mode × State} t (After false, data_arrived (state standing spelled known) bytes) (InDelimited from delimiter (bytes ++ line ++ 10 ∷ []) [], state standing spelled known) in At (n + 1) to.0 to.1)

  pub line_more : (all begun : Bytes) → bytes_eq line delimiter ≡ false → all ≡ bytes ++ line ++ 10 ∷ [] → begun ≡ []
      → IsIn standing known (n + 1) come (place.DelimitedBlock from delimiter all begun) (after_compared n from delimiter bytes line (state standing spelled known))
  line_more all begun other is none = (
    spelled,
    ap (λ t. by_test t) other ∙ (λ i. At (n + 1) (InDelimited from delimiter (sym is i) (sym none i)) (state standing spelled known)),
  )
    where
      by_test : Bool → StreamMachine
      by_test t = (let to = cond {A = Mode × State} t (After false, data_arrived (state standing spelled known) bytes) (InDelimited from delimiter (bytes ++ line ++ 10 ∷ []) [], state standing spelled known) in At (n + 1) to.0 to.1)

-- between two lines nothing has come of the next one
pub between_lines : (p : Place) → is_between_lines p ≡ true → p ≡ place.Line []
between_lines (place.Line []) e = refl
between_lines (place.Line (b ∷ bs)) e = absurd cc
between_lines (place.DelimitedBlock from delimiter bytes text) e = absurd cc
between_lines (place.Block from more bytes) e = absurd cc
between_lines (place.EndlessBlock from) e = absurd cc
between_lines (place.AfterBlock in_line) e = absurd cc
between_lines place.Over e = absurd cc
between_lines (place.Refused fault) e = absurd cc
