-- Places for words in a line, step by step.
use Rattle.std.proofs.Common.{◌≡◌, ◌≢◌, ℕ, zero, suc, ◌+◌, ◌<◌, ◌==◌, false, List, [], ◌∷◌, ◌++◌, length, get_or, drop, None, Some, Result, Ok, Err, refl, sym, ap, ◌∙◌, append_assoc, arith}
use Rattle.std.specs.Prelude.{slice_get, IsErrAnd}
use Rattle.std.proofs.lemmas.Bool.{false_from_ne_true, eqb-true}
use Rattle.plain_model.specs.Faults.{Returns}
use Rattle.plain_model.specs.Numbers.{value_after}
use Rattle.plain_model.specs.Paths.{Bytes}
use Rattle.plain_model.specs.declared.fault.Fault.{Fault}
use Rattle.plain_model.specs.declared.fault.Halt.{Halt}
use Rattle.plain_model.specs.declared.fault.Halt.TheVariants as ended
use Rattle.macro_lines.specs.Places.{before, digits_at, filled_from, word_of}
use Rattle.macro_lines.specs.Put.{Fills}
use Rattle.macro_lines.specs.declared.line.Line.{Line}

-- ---- steps that may be refused

-- a text before a text before others
pub before_both : (a b : Bytes) (r : Result Bytes Fault) → before a (before b r) ≡ before (a ++ b) r
before_both a b (Ok text) = ap Ok (sym (append_assoc a b text))
before_both a b (Err why) = refl

pub before_nothing : (r : Result Bytes Fault) → before [] r ≡ r
before_nothing (Ok text) = refl
before_nothing (Err why) = refl

-- ---- places

-- no `{` is there
abbrev pub NoBrace : Bytes → Type 0
NoBrace bytes = (k : ℕ) → k < length bytes → get_or bytes k 0 ≢ 123

other_first : (b : ℕ) (bs : Bytes) → NoBrace (b ∷ bs) → (b == 123) ≡ false
other_first b bs none = false_from_ne_true (b == 123) (λ is. none zero (omega arith) (eqb-true b 123 is))

module _ (words : List Bytes) where
  -- what is before the first `{` stays as it is
  pub front_stays : (front rest : Bytes) → NoBrace front → filled_from words 0 (front ++ rest) ≡ before front (filled_from words 0 rest)
  front_stays [] rest none = sym (before_nothing (filled_from words 0 rest))
  front_stays (b ∷ front) rest none =
      rw (other_first b front none)
      (ap (before (b ∷ [])) (front_stays front rest (λ k l. none (suc k) (omega arith))) ∙ before_both (b ∷ []) front (filled_from words 0 rest))

  -- a line without `{` stays as it is
  pub whole_stays : (line : Bytes) → NoBrace line → filled_from words 0 line ≡ Ok line
  whole_stays [] none = refl
  whole_stays (b ∷ line) none = rw (other_first b line none) (ap (before (b ∷ [])) (whole_stays line (λ k l. none (suc k) (omega arith))))

  -- bytes that are passed over
  pub passed : (n : ℕ) (bytes : Bytes) → filled_from words n bytes ≡ filled_from words 0 (drop n bytes)
  passed zero bytes = refl
  passed (suc n) [] = refl
  passed (suc n) (b ∷ bytes) = passed n bytes

  -- the word of a place
  at_word : (after digits word : Bytes) → digits_at after ≡ Some digits → word_of digits (slice_get words (value_after 0 digits)) ≡ Ok word
      → filled_from words 0 (123 ∷ after) ≡ before word (filled_from words 0 (drop (length digits + 1) after))
  at_word after digits word is has = rw (is, has) (ap (before word) (passed (length digits + 1) after))

  -- no place begins
  at_none : (after : Bytes) → digits_at after ≡ None → filled_from words 0 (123 ∷ after) ≡ before (123 ∷ []) (filled_from words 0 after)
  at_none after is = rw is refl

  -- a word is missing
  at_missing : (after digits : Bytes) (why : Fault) → digits_at after ≡ Some digits → word_of digits (slice_get words (value_after 0 digits)) ≡ Err why
      → filled_from words 0 (123 ∷ after) ≡ Err why
  at_missing after digits why is has = rw (is, has) refl

  -- the line up to its next `{` and what is after that
  module _ (text front after rest : Bytes) (whole : Result Bytes Fault) (cut : rest ≡ front ++ 123 ∷ after) (none : NoBrace front)
      (so_far : before text (filled_from words 0 rest) ≡ whole)
    where
      at_brace : before (text ++ front) (filled_from words 0 (123 ∷ after)) ≡ whole
      at_brace =
          sym (before_both text front (filled_from words 0 (123 ∷ after)))
          ∙ ap (before text) (sym (ap (filled_from words 0) cut ∙ front_stays front (123 ∷ after) none)) ∙ so_far

      pub fills : (digits word now : Bytes) → digits_at after ≡ Some digits → word_of digits (slice_get words (value_after 0 digits)) ≡ Ok word
          → now ≡ (text ++ front) ++ word → before now (filled_from words 0 (drop (length digits + 1) after)) ≡ whole
      fills digits word now is has more =
          rw more (sym (before_both (text ++ front) word (filled_from words 0 (drop (length digits + 1) after)))
          ∙ ap (before (text ++ front)) (sym (at_word after digits word is has)) ∙ at_brace)

      pub stays : (now : Bytes) → digits_at after ≡ None → now ≡ (text ++ front) ++ 123 ∷ [] → before now (filled_from words 0 after) ≡ whole
      stays now is more =
          rw more (sym (before_both (text ++ front) (123 ∷ []) (filled_from words 0 after))
          ∙ ap (before (text ++ front)) (sym (at_none after is)) ∙ at_brace)

      -- how a call ends that a missing word stops
      pub misses : {X : Type 0} (view : X → Bytes) (begun : Line) (digits : Bytes) (halt : Halt) (r : Result Line Halt) → IsErrAnd r (λ e. e ≡ halt)
          → digits_at after ≡ Some digits → Returns view (Err halt) (word_of digits (slice_get words (value_after 0 digits))) → Fills begun r whole
      misses view begun digits halt (Ok y) e is has = absurd e
      misses view begun digits halt (Err y) e is has = rw e (go halt has)
        where
          go : (h : Halt) → Returns view (Err h) (word_of digits (slice_get words (value_after 0 digits))) → Fills begun (Err h) whole
          go (ended.Refused why) has = sym at_brace ∙ ap (before (text ++ front)) (at_missing after digits why is has)
          go ended.Memory has = tt

  -- the rest of a line, where no `{` is left
  pub ends : (text rest now : Bytes) (whole : Result Bytes Fault) → NoBrace rest → before text (filled_from words 0 rest) ≡ whole
      → now ≡ text ++ rest → whole ≡ Ok now
  ends text rest now whole none so_far more = rw more (sym so_far ∙ ap (before text) (whole_stays rest none))
