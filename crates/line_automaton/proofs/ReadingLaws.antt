-- A text that is read from place to place: what it answers at one place it answers at the next.
use Rattle.std.proofs.Common.{◌≡◌, ℕ, ◌+◌, ◌≤◌, Bool, cond, [], ◌∷◌, Some, None, Ok, Err, sym, ◌∙◌, ap, subst, arith}
use Rattle.plain_model.specs.declared.fault.Why.{Why as FieldWhy}
use Rattle.plain_model.specs.declared.fault.Why.TheVariants.{Truncated}
use Rattle.plain_model.specs.Paths.{Bytes}
use Rattle.plain_model.specs.Parts.{line_at, skip_lf}
use Rattle.plain_model.specs.Fields.{Extent, extent_in, block_at, block_in}
use Rattle.line_automaton.specs.Machine.{Next, Automaton, Outcome, outcome_from, outcome}
use Rattle.line_automaton.specs.Machine.Next.{More, Over}
use Rattle.line_automaton.specs.Machine.Mode.{InLine}
use Rattle.line_automaton.specs.Machine.Machine.{At}
use Rattle.line_automaton.specs.Machine.Outcome.{Reads, Refuses, Misses}
use Rattle.line_automaton.specs.Lines.{line_count, number_after, outcome_at, extent_after, HasDelimiter}
use Rattle.plain_model.proofs.Lines.{line_is}
use Rattle.line_automaton.proofs.LineLaws.{line_is_one}
use Rattle.line_automaton.proofs.BlockLaws as blocks
use Rattle.line_automaton.proofs.CursorLaws as cursors

module _ {State Why : Type 0} (a : Automaton State Why) (j : ℕ → Bool) (text : Bytes) where
  -- the first place
  pub begins : outcome a j text ≡ outcome_at a j text text a.start
  unfolding outcome_at
  begins = ap (λ n. outcome_from a j (At n (InLine []) a.start) text) (omega arith)

  -- after the last line
  pub ends : (rest : Bytes) (s : State) → line_at rest ≡ None → outcome_at a j text rest s ≡ cond (a.is_expected s) (Misses (1 + line_count text)) (Reads s)
  unfolding line_at outcome_at
  ends [] s e = let last : number_after 1 text [] ≡ 1 + line_count text = omega arith in ap (λ n. cond {A = Outcome State Why} (a.is_expected s) (Misses n) (Reads s)) last
  ends (b ∷ bs) s e = absurd cc

  -- a rest with no more lines than the text, its first line, and what follows it
  module _ (rest line after : Bytes) (s : State) (within : line_count rest ≤ line_count text) (there : line_at rest ≡ Some (line, after)) where
    one_line : line_count rest ≡ 1 + line_count after
    one_line = line_is_one rest line after (line_is rest line after there)

    pub line_within : line_count after ≤ line_count text
    line_within = omega (arith, one_line)

    -- the next line
    pub goes_on : (new : State) → a.step (j (number_after 1 text rest)) s line ≡ Ok (new, More) → outcome_at a j text rest s ≡ outcome_at a j text after new
    unfolding outcome_at
    goes_on new e =
        blocks.line_more a j (number_after 1 text rest) s rest line after there new e
        ∙ ap (λ n. outcome_from a j (At n (InLine []) new) after) (omega (arith, one_line))

    -- nothing that is looked at
    pub is_over : (new : State) → a.step (j (number_after 1 text rest)) s line ≡ Ok (new, Over) → outcome_at a j text rest s ≡ Reads new
    unfolding outcome_at
    is_over new e = blocks.line_over a j (number_after 1 text rest) s rest line after there new e

    -- a refusal
    pub is_refused : (why : Why) → a.step (j (number_after 1 text rest)) s line ≡ Err why → outcome_at a j text rest s ≡ Refuses (number_after 1 text rest) why
    unfolding outcome_at
    is_refused why e = blocks.line_refused a j (number_after 1 text rest) s rest line after there why e

    -- a line that a block follows
    module _ (new : State) (next : Next) (extent : Extent) (made : a.step (j (number_after 1 text rest)) s line ≡ Ok (new, next)) (follows : extent_after line next ≡ Some extent) where
      pub block_within : (bytes beyond : Bytes) → block_at extent after ≡ Some (bytes, beyond) → line_count (skip_lf beyond) ≤ line_count text
      block_within bytes beyond h =
          let less = blocks.line_count_block extent after bytes beyond h in
          omega (arith, less, line_within)

      -- the next line after the block
      pub goes_on_after : (bytes beyond : Bytes) → HasDelimiter extent → block_at extent after ≡ Some (bytes, beyond)
          → outcome_at a j text rest s ≡ outcome_at a j text (skip_lf beyond) (a.arrived new bytes)
      unfolding outcome_at
      goes_on_after bytes beyond some h =
          let less = blocks.line_count_block extent after bytes beyond h in
          blocks.line_made a j (number_after 1 text rest) s rest line after there new next made
          ∙ blocks.block_there a j (number_after 1 text rest) line next new extent after bytes beyond follows some h
          ∙ ap (λ n. outcome_from a j (At n (InLine []) (a.arrived new bytes)) (skip_lf beyond)) (omega (arith, one_line, less))

      -- a block that isn't there
      pub is_missing : block_at extent after ≡ None → outcome_at a j text rest s ≡ Misses (number_after 1 text rest)
      unfolding outcome_at
      is_missing h =
          blocks.line_made a j (number_after 1 text rest) s rest line after there new next made
          ∙ blocks.block_misses a j (number_after 1 text rest) line next new extent after follows h

      -- the same where the line is one of data, and the block is cut off by it
      module _ (spelled : extent_in line ≡ Ok extent) where
        pub data_within : (bytes beyond : Bytes) → block_in line after ≡ Ok (bytes, beyond) → line_count beyond ≤ line_count text
        data_within bytes beyond h =
            let b = cursors.block_there line after bytes beyond extent spelled h in
            subst (λ (l : Bytes). line_count l ≤ line_count text) (sym b.2) (block_within bytes b.0 b.1)

        pub goes_on_after_data : (bytes beyond : Bytes) → block_in line after ≡ Ok (bytes, beyond)
            → outcome_at a j text rest s ≡ outcome_at a j text beyond (a.arrived new bytes)
        goes_on_after_data bytes beyond h =
            let b = cursors.block_there line after bytes beyond extent spelled h in
            goes_on_after bytes b.0 (cursors.extent_has_delimiter line extent spelled) b.1
            ∙ ap (λ (l : Bytes). outcome_at a j text l (a.arrived new bytes)) (sym b.2)

        pub is_truncated : (why : FieldWhy) → block_in line after ≡ Err why
            → (why ≡ Truncated) × (outcome_at a j text rest s ≡ Misses (number_after 1 text rest))
        is_truncated why h =
            let b = cursors.block_not_there line after extent why spelled h in
            (b.1, is_missing b.0)
