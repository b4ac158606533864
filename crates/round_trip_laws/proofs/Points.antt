-- A text that is read on from a place between two lines: after a line, or after a line and its block of data.
use Rattle.std.proofs.Common.{◌≡◌, ℕ, ◌+◌, Bool, true, false, cond, List, [], ◌∷◌, ◌++◌, length, take, drop, Some, Ok, refl, sym, ap, subst, ◌∙◌, arith, append_assoc, length-append, le-leb, take_at, drop_at, codes, None}
use Rattle.std.specs.Prelude.{nat_le}
use Rattle.std.proofs.lemmas.Bool.{cond-true, cond-false}
use Rattle.plain_model.specs.declared.event.PlainEvent.{PlainEvent}
use Rattle.plain_model.specs.Fields.{◌>>=◌, extent_by, extent_in, data_text, block_at}
use Rattle.plain_model.specs.Fields.Extent.{Counted}
use Rattle.plain_model.specs.Parts.{has_no_lf, line_at}
use Rattle.plain_model.specs.Paths.{Bytes}
use Rattle.plain_model.specs.Text.{line, data_block}
use Rattle.plain_model.specs.Numbers.{decimal_of}
use Rattle.field_laws.proofs.FieldSteps.{ok_then}
use Rattle.field_laws.proofs.Lines.{line_read}
use Rattle.field_laws.proofs.Numerals.{numeral_read}
use Rattle.field_laws.proofs.Decimals.{numeral_of}
use Rattle.field_laws.proofs.Written.{line_written, plain_digits}
use Rattle.line_automaton.specs.Machine.{Next, outcome_from, all}
use Rattle.line_automaton.specs.Machine.Next.{More, Block, Over}
use Rattle.line_automaton.specs.Machine.Mode.{InLine}
use Rattle.line_automaton.specs.Machine.Machine.{At}
use Rattle.line_automaton.specs.Machine.Outcome.{Reads, Misses}
use Rattle.line_automaton.specs.Lines.{number_after}
use Rattle.line_automaton.proofs.BlockLaws.{line_more, line_made, line_over, block_there, no_line}
use Rattle.stream_grammar.specs.declared.lines.Expected.{Expected}
use Rattle.stream_grammar.specs.declared.lines.Standing.{Standing}
use Rattle.stream_grammar.specs.declared.lines.Word.{Word}
use Rattle.stream_grammar.specs.declared.lines.Word.TheVariants as word
use Rattle.stream_grammar.specs.Known.{Known, Open, with_data, history_of}
use Rattle.stream_grammar.specs.Lines.{State, stream, line_step, word_step, word_of, is_comment, after_word, next_of, judged, read_on, is_inline_expected, must_go_on, history_read, next_by}

-- where a stream is, and what is known of its events
pub record Point : Type 0 where
  pub standing : Standing
  pub known : Known

abbrev pub point : Expected → Bool → List PlainEvent → List (ℕ × ℕ) → Open → Point
point expected wants events aliases current =
    record { standing = record { expected = expected; wants_done = wants }; known = record { events = events; current = current; aliases = aliases } }

-- the same after these lines and blocks
abbrev pub state_at : List Bytes → Point → State
state_at spelled p = record { standing = p.standing; spelled = spelled; known = p.known }

-- a text that is read on from here has this history, whatever is before
abbrev pub Gives : Point → Bytes → List PlainEvent → Type 0
Gives p text history =
    (n : ℕ) (spelled : List Bytes)
    → history_read (outcome_from stream all (At n (InLine []) (state_at spelled p)) text) ≡ Some history

-- ---- one line

-- a line of this word leads from one point to another, and this follows it
pub record Leads (p : Point) (text : Bytes) (w : Word) (next : Next) (q : Point) : Type 0 where
  pub plain : has_no_lf text ≡ true
  pub no_comment : is_comment text ≡ false
  pub word_is : word_of text ≡ w
  pub stands : after_word p.standing w ≡ Ok q.standing
  pub follows : next_of w text ≡ Ok next
  pub fits : judged w text p.known ≡ Ok q.known

pub step_made : (p q : Point) (text : Bytes) (w : Word) (next : Next) → Leads p text w next q → (spelled : List Bytes)
    → line_step true (state_at spelled p) text ≡ Ok (state_at (text ∷ spelled) q, next)
step_made p q text w next h spelled =
    let s = state_at spelled p in
    let made = read_on s text q.standing next q.known in
    cond-false (is_comment text) (Ok (s, More)) (word_step true s text (word_of text)) h.no_comment
    ∙ ap (word_step true s text) h.word_is
    ∙ ok_then (after_word p.standing w) (λ standing. next_of w text >>= λ follows. judged w text p.known >>= λ known. read_on s text standing follows known)
    q.standing made h.stands
    (ok_then (next_of w text) (λ follows. judged w text p.known >>= λ known. read_on s text q.standing follows known) next made h.follows
    (ok_then (judged w text p.known) (λ known. read_on s text q.standing next known) q.known made h.fits refl))

-- a text with the line before it
pub line_goes : (p q : Point) (text rest : Bytes) (w : Word) (history : List PlainEvent) → Leads p text w More q → Gives q rest history → Gives p (line text ++ rest) history
line_goes p q text rest w history h g n spelled =
    let there = line_read (line text ++ rest) text rest (line_written text rest h.plain) in
    ap history_read (line_more stream all n (state_at spelled p) (line text ++ rest) text rest there (state_at (text ∷ spelled) q) (step_made p q text w More h spelled))
    ∙ g (n + 1) (text ∷ spelled)

-- a line after which nothing is looked at
pub line_ends : (p q : Point) (text rest : Bytes) (w : Word) (history : List PlainEvent) → Leads p text w Over q → history_of q.known ≡ history → Gives p (line text ++ rest) history
line_ends p q text rest w history h e n spelled =
    let there = line_read (line text ++ rest) text rest (line_written text rest h.plain) in
    ap history_read (line_over stream all n (state_at spelled p) (line text ++ rest) text rest there (state_at (text ∷ spelled) q) (step_made p q text w Over h spelled))
    ∙ ap (λ (l : List PlainEvent). Some l) e

-- the end of a text, where no line is expected
pub text_ends : (p : Point) (history : List PlainEvent) → must_go_on p.standing ≡ false → history_of p.known ≡ history → Gives p [] history
unfolding line_at
text_ends p history free e n spelled =
    ap history_read (no_line stream all n (state_at spelled p) [] refl)
    ∙ go (must_go_on p.standing) free
    ∙ ap (λ (l : List PlainEvent). Some l) e
  where
    go : (t : Bool) → t ≡ false → history_read (cond t (Misses n) (Reads (state_at spelled p))) ≡ Some (history_of p.known)
    go true f = absurd cc
    go false f = refl

-- ---- a block of data

-- the line before a block says how far it goes
pub extent_again : (n : ℕ) → extent_in (codes "data " ++ decimal_of n) ≡ Ok (Counted n)
unfolding extent_in data_text
extent_again n = ap (extent_by (decimal_of n)) (numeral_read (decimal_of n) n (numeral_of n))

-- so many bytes are the block
block_again : (bytes rest : Bytes) → block_at (Counted (length bytes)) (bytes ++ 10 ∷ rest) ≡ Some (bytes, 10 ∷ rest)
block_again bytes rest =
    let n = length bytes in
    let text = bytes ++ 10 ∷ rest in
    cond-true (nat_le n (length text)) (Some (take n text, drop n text)) None (le-leb n (length text) (omega (arith, length-append bytes (10 ∷ rest))))
    ∙ (λ i. Some (take_at bytes (10 ∷ rest) n refl i, drop_at bytes (10 ∷ rest) n refl i))

module _ (p : Point) (standing : Standing) (bytes : Bytes) (stands : after_word p.standing word.Data ≡ Ok standing) where
  abbrev data_head : Bytes
  data_head = codes "data " ++ decimal_of (length bytes)

  -- after the line, before its block
  abbrev before_block : Point
  before_block = record { standing = standing; known = p.known }

  head_leads : Leads p data_head word.Data (Block (length bytes)) before_block
  head_leads = record {
    plain = plain_digits (decimal_of (length bytes)) (numeral_of (length bytes)).all;
    no_comment = refl;
    word_is = refl;
    stands = stands;
    follows = ok_then (extent_in data_head) (λ extent. Ok (next_by extent)) (Counted (length bytes)) (Ok (Block (length bytes))) (extent_again (length bytes)) refl;
    fits = refl;
  }

  -- after the block
  abbrev pub after_block : Point
  after_block = record { standing = standing; known = with_data (is_inline_expected standing.expected) bytes p.known }

  block_goes : (rest : Bytes) (history : List PlainEvent) → Gives after_block rest history → Gives p (line data_head ++ (bytes ++ 10 ∷ rest)) history
  block_goes rest history g n spelled =
      let after = bytes ++ 10 ∷ rest in
      let new = state_at (data_head ∷ spelled) before_block in
      let there = line_read (line data_head ++ after) data_head after (line_written data_head after head_leads.plain) in
      ap history_read (line_made stream all n (state_at spelled p) (line data_head ++ after) data_head after there new (Block (length bytes)) (step_made p before_block data_head word.Data (Block (length bytes)) head_leads spelled)
      ∙ block_there stream all n data_head (Block (length bytes)) new (Counted (length bytes)) after bytes (10 ∷ rest) refl tt (block_again bytes rest))
      ∙ g (number_after (n + 1) after rest) (bytes ∷ data_head ∷ spelled)

  -- a text with a block before it
  pub data_goes : (rest : Bytes) (history : List PlainEvent) → Gives after_block rest history → Gives p (data_block bytes ++ rest) history
  data_goes rest history g =
      subst (λ (t : Bytes). Gives p t history) (sym (append_assoc (line data_head) (line bytes) rest ∙ ap (λ (t : Bytes). line data_head ++ t) (append_assoc bytes (10 ∷ []) rest)))
      (block_goes rest history g)
