-- A text is read exactly where it has parts whose words the automaton accepts.
use Rattle.std.proofs.Common.{◌≡◌, ℕ, zero, suc, ◌+◌, ◌≤◌, Bool, true, false, cond, List, [], ◌∷◌, Some, Result, Ok, Err, refl, sym, ◌∙◌, ap, subst, inl, inr, ◌⊎◌, arith}
use Rattle.std.specs.Prelude.{◌≢◌}
use Rattle.std.specs.List.{position}
use Rattle.plain_model.specs.declared.fault.Why.{Why}
use Rattle.plain_model.specs.declared.fault.Why.TheVariants.{Truncated}
use Rattle.plain_model.specs.Fields.{◌>>=◌, Extent, or_defect, extent_in, block_in, block_after, block_at}
use Rattle.plain_model.specs.Fields.Extent.{Counted, Delimited}
use Rattle.plain_model.specs.Parts.{is_lf, line_at, line_cut, skip_lf}
use Rattle.plain_model.specs.Paths.{Bytes}
use Rattle.plain_model.proofs.Lines.{line_is}
use Rattle.field_laws.proofs.Blocks.{delimiter_place}
use Rattle.field_laws.proofs.FieldSteps.{bind_ok, ok_then}
use Rattle.line_automaton.specs.Lines.{line_count, number_after, extent_after}
use Rattle.line_automaton.specs.Machine.{Next, Outcome, outcome_from, none}
use Rattle.line_automaton.specs.Machine.Next.{More, Over}
use Rattle.line_automaton.specs.Machine.Mode.{InLine}
use Rattle.line_automaton.specs.Machine.Machine.{At}
use Rattle.line_automaton.specs.Machine.Outcome.{Reads, Refuses, Misses}
use Rattle.line_automaton.proofs.BlockLaws as blocks
use Rattle.line_automaton.proofs.CursorLaws as cursors
use Rattle.line_automaton.proofs.LineLaws.{line_is_one}
use Rattle.stream_grammar.specs.declared.lines.Standing.{Standing}
use Rattle.stream_grammar.specs.declared.lines.Word.{Word}
use Rattle.stream_grammar.specs.declared.lines.Word.TheVariants as word
use Rattle.stream_grammar.specs.Lines.{State, stream, is_comment, word_of, must_go_on, after_word, next_by, next_of, word_step, line_step, read_on, data_arrived}
use Rattle.production_laws.specs.Texts.{Part, is_alone, HasParts, words_of}
use Rattle.production_laws.specs.Texts.Part.{Comment, Line, WithData, DoneLine}
use Rattle.production_laws.proofs.Standings.{Accepts}

-- what the rest of a text answers from line n on
abbrev from : ℕ → State → Bytes → Outcome State Why
from n s text = outcome_from stream none (At n (InLine []) s) text

abbrev IsRead : ℕ → State → Bytes → Type 0
IsRead n s text = (last : State) × (from n s text ≡ Reads last)

-- the same answer is read, too
same_answer : (n m : ℕ) (s t : State) (text rest : Bytes) → from n s text ≡ from m t rest → IsRead m t rest → IsRead n s text
same_answer n m s t text rest e (last, is) = (last, e ∙ is)

-- ---- one line

-- the state after a line
abbrev pub stepped : State → Bytes → Standing → State
stepped s line t = record { standing = t; spelled = line ∷ s.spelled; known = s.known }

pub comment_steps : (s : State) (line : Bytes) → is_comment line ≡ true → line_step false s line ≡ Ok (s, More)
comment_steps s line e = ap (λ t. cond t (Ok (s, More)) (word_step false s line (word_of line))) e

-- a line whose word may be there, and what follows it
pub line_steps : (s : State) (line : Bytes) (t : Standing) (next : Next) → is_comment line ≡ false → after_word s.standing (word_of line) ≡ Ok t
    → next_of (word_of line) line ≡ Ok next → line_step false s line ≡ Ok (stepped s line t, next)
line_steps s line t next plain goes follows =
    ap (λ u. cond u (Ok (s, More)) (word_step false s line (word_of line))) plain
    ∙ ap (λ (r : Result Standing Why). r >>= λ standing. next_of (word_of line) line >>= λ n. read_on s line standing n s.known) goes
    ∙ ap (λ (r : Result Next Why). r >>= λ n. read_on s line t n s.known) follows

pub alone_follows : (w : Word) (line : Bytes) → is_alone w ≡ true → next_of w line ≡ Ok More
alone_follows word.Data line e = absurd cc
alone_follows word.Done line e = absurd cc
alone_follows _ line e = refl

pub alone_is_not_done : (w : Word) → is_alone w ≡ true → w ≢ word.Done
alone_is_not_done w e is = absurd (let f : false ≡ true = ap is_alone (sym is) ∙ e in cc)

-- ---- a block

pub extent_is : (line : Bytes) (extent : Extent) → extent_in line ≡ Ok extent → extent_after line (next_by extent) ≡ Some extent
extent_is line (Counted n) e = refl
extent_is line (Delimited d) e = ap (λ (l : Bytes). Some (Delimited l)) (sym (delimiter_place line d e))

-- a block that is there has an extent
pub block_has_extent : (line text : Bytes) (x : Bytes × Bytes) → block_in line text ≡ Ok x → (extent : Extent) × (extent_in line ≡ Ok extent)
unfolding block_in block_after
block_has_extent line text x e =
    let a = bind_ok (extent_in line >>= λ e. or_defect Truncated (block_at e text)) (λ x. Ok (x.0, skip_lf x.1)) x e in
    let b = bind_ok (extent_in line) (λ e. or_defect Truncated (block_at e text)) a.0 a.1 in
    (b.0, b.1)

module _ (n : ℕ) (s : State) (text line block : Bytes) (there : line_at text ≡ Some (line, block)) (new : State) (extent : Extent)
    (spelled : extent_in line ≡ Ok extent) (made : line_step false s line ≡ Ok (new, next_by extent)) where
  -- the state after the block
  block_steps : (bytes rest : Bytes) → block_in line block ≡ Ok (bytes, rest)
      → (m : ℕ) × (from n s text ≡ from m (data_arrived new bytes) rest) × (line_count rest ≤ line_count block)
  block_steps bytes rest h =
      let b = cursors.block_there line block bytes rest extent spelled h in (
        number_after (n + 1) block (skip_lf b.0),
        blocks.line_made stream none n s text line block there new (next_by extent) made
            ∙ blocks.block_there stream none n line (next_by extent) new extent block bytes b.0 (extent_is line extent spelled) (cursors.extent_has_delimiter line extent spelled) b.1
            ∙ ap (λ (l : Bytes). from (number_after (n + 1) block (skip_lf b.0)) (data_arrived new bytes) l) (sym b.2),
        subst (λ (l : Bytes). line_count l ≤ line_count block) (sym b.2) (blocks.line_count_block extent block bytes b.0 b.1),
      )

  block_misses : (why : Why) → block_in line block ≡ Err why → from n s text ≡ Misses n
  block_misses why h =
      let b = cursors.block_not_there line block extent why spelled h in
      blocks.line_made stream none n s text line block there new (next_by extent) made
      ∙ blocks.block_misses stream none n line (next_by extent) new extent block (extent_is line extent spelled) b.0

-- ---- what has such parts is read

pub parts_are_read : (parts : List Part) (n : ℕ) (s : State) (text : Bytes) → HasParts text parts → Accepts s.standing (words_of parts) → IsRead n s text
parts_are_read [] n s text is h =
    (s, ap (from n s) is ∙ ap (λ t. cond {A = Outcome State Why} t (Misses n) (Reads s)) h)
parts_are_read (Comment line ∷ parts) n s text (rest, there, comment, are) h =
    same_answer n (n + 1) s s text rest (blocks.line_more stream none n s text line rest there s (comment_steps s line comment)) (parts_are_read parts (n + 1) s rest are h)
parts_are_read (Line line ∷ parts) n s text (rest, there, plain, alone, are) (t, goes, inl (done, none_left)) = absurd (alone_is_not_done (word_of line) alone done)
parts_are_read (Line line ∷ parts) n s text (rest, there, plain, alone, are) (t, goes, inr (differs, h)) =
    same_answer n (n + 1) s (stepped s line t) text rest
    (blocks.line_more stream none n s text line rest there (stepped s line t) (line_steps s line t More plain goes (alone_follows (word_of line) line alone)))
    (parts_are_read parts (n + 1) (stepped s line t) rest are h)
parts_are_read (WithData line bytes ∷ parts) n s text (block, rest, there, plain, is, held, are) (t, goes, inl (done, none_left)) = absurd cc
parts_are_read (WithData line bytes ∷ parts) n s text (block, rest, there, plain, is, held, are) (t, goes, inr (differs, h)) =
    let x = block_has_extent line block (bytes, rest) held in
    let follows : next_of (word_of line) line ≡ Ok (next_by x.0) = ap (λ w. next_of w line) is ∙ ok_then (extent_in line) (λ e. Ok (next_by e)) x.0 (Ok (next_by x.0)) x.1 refl in
    let made = line_steps s line t (next_by x.0) plain (ap (after_word s.standing) is ∙ goes) follows in
    let b = block_steps n s text line block there (stepped s line t) x.0 x.1 made bytes rest held in
    same_answer n b.0 s (data_arrived (stepped s line t) bytes) text rest b.1 (parts_are_read parts b.0 (data_arrived (stepped s line t) bytes) rest are h)
parts_are_read (DoneLine line ∷ parts) n s text (rest, there, plain, is, last) (t, goes, then) = (
  stepped s line t,
  blocks.line_over stream none n s text line rest there (stepped s line t)
      (line_steps s line t Over plain (ap (after_word s.standing) is ∙ goes) (ap (λ w. next_of w line) is)),
)

-- ---- what is read has such parts

abbrev HasAccepted : State → Bytes → Type 0
HasAccepted s text = (parts : List Part) × HasParts text parts × Accepts s.standing (words_of parts)

not_refused : (n : ℕ) (why : Why) (s : State) → ◌≡◌ {A = Outcome State Why} (Refuses n why) (Reads s) → ⊥
not_refused n why s e = absurd cc

not_missed : (n : ℕ) (s : State) → ◌≡◌ {A = Outcome State Why} (Misses n) (Reads s) → ⊥
not_missed n s e = absurd cc

-- nothing is left, or there is a line
pub nothing_or_line : (text : Bytes) → (text ≡ []) ⊎ ((line rest : Bytes) × (line_at text ≡ Some (line, rest)))
unfolding line_at
nothing_or_line [] = inl refl
nothing_or_line (b ∷ bs) = let cut = line_cut (b ∷ bs) (position is_lf (b ∷ bs)) in inr (cut.0, cut.1, refl)

-- a line that a block follows, one that nothing is looked at after, or any other
pub data Kind (w : Word) : Type 0 where
  IsData : w ≡ word.Data → Kind w
  IsDone : w ≡ word.Done → Kind w
  IsAlone : is_alone w ≡ true → Kind w

pub kind : (w : Word) → Kind w
kind word.Data = IsData refl
kind word.Done = IsDone refl
kind _ = IsAlone refl

nothing_is_read : (n : ℕ) (s last : State) (text : Bytes) → text ≡ [] → from n s text ≡ Reads last → HasAccepted s text
nothing_is_read n s last text is e = go (must_go_on s.standing) refl (ap (from n s) (sym is) ∙ e)
  where
    go : (t : Bool) → must_go_on s.standing ≡ t → ◌≡◌ {A = Outcome State Why} (cond t (Misses n) (Reads s)) (Reads last) → HasAccepted s text
    go true f e = absurd (not_missed n last e)
    go false f e = ([], is, f)

-- a text with a line, where what follows it has such parts if it is read
module _ (n : ℕ) (s last : State) (text line rest : Bytes) (there : line_at text ≡ Some (line, rest)) (read : from n s text ≡ Reads last)
    (later : (m : ℕ) (t : State) (more : Bytes) → line_count more ≤ line_count rest → from m t more ≡ Reads last → HasAccepted t more) where
  is_refused : (why : Why) → line_step false s line ≡ Err why → HasAccepted s text
  is_refused why e = absurd (not_refused n why last (sym (blocks.line_refused stream none n s text line rest there why e) ∙ read))

  comment_read : is_comment line ≡ true → HasAccepted s text
  comment_read comment =
      let x = later (n + 1) s rest (omega arith) (sym (blocks.line_more stream none n s text line rest there s (comment_steps s line comment)) ∙ read) in
      (Comment line ∷ x.0, (rest, there, comment, x.1), x.2)

  module _ (plain : is_comment line ≡ false) (t : Standing) (goes : after_word s.standing (word_of line) ≡ Ok t) where
    alone_read : is_alone (word_of line) ≡ true → HasAccepted s text
    alone_read alone =
        let made = line_steps s line t More plain goes (alone_follows (word_of line) line alone) in
        let x = later (n + 1) (stepped s line t) rest (omega arith) (sym (blocks.line_more stream none n s text line rest there (stepped s line t) made) ∙ read) in
        (Line line ∷ x.0, (rest, there, plain, alone, x.1), (t, goes, inr (alone_is_not_done (word_of line) alone, x.2)))

    done_read : word_of line ≡ word.Done → HasAccepted s text
    done_read is = (DoneLine line ∷ [], (rest, there, plain, is, refl), (t, ap (after_word s.standing) (sym is) ∙ goes, inl (refl, refl)))

    data_isnt_done : word.Data ≢ word.Done
    data_isnt_done e = absurd cc

    module _ (is : word_of line ≡ word.Data) where
      follows : (extent : Extent) → extent_in line ≡ Ok extent → next_of (word_of line) line ≡ Ok (next_by extent)
      follows extent e = ap (λ w. next_of w line) is ∙ ok_then (extent_in line) (λ x. Ok (next_by x)) extent (Ok (next_by extent)) e refl

      block_read : (extent : Extent) → extent_in line ≡ Ok extent → (r : Result (Bytes × Bytes) Why) → block_in line rest ≡ r → HasAccepted s text
      block_read extent e (Err why) h =
          absurd (not_missed n last
          (sym (block_misses n s text line rest there (stepped s line t) extent e (line_steps s line t (next_by extent) plain goes (follows extent e)) why h) ∙ read))
      block_read extent e (Ok (bytes, beyond)) h =
          let b = block_steps n s text line rest there (stepped s line t) extent e (line_steps s line t (next_by extent) plain goes (follows extent e)) bytes beyond h in
          let x = later b.0 (data_arrived (stepped s line t) bytes) beyond b.2 (sym b.1 ∙ read) in
          (WithData line bytes ∷ x.0, (rest, beyond, there, plain, is, h, x.1), (t, ap (after_word s.standing) (sym is) ∙ goes, inr (data_isnt_done, x.2)))

      data_read : (r : Result Extent Why) → extent_in line ≡ r → HasAccepted s text
      data_read (Ok extent) e = block_read extent e (block_in line rest) refl
      data_read (Err why) e =
          is_refused why
          (ap (λ u. cond u (Ok (s, More)) (word_step false s line (word_of line))) plain
          ∙ ap (λ (r : Result Standing Why). r >>= λ standing. next_of (word_of line) line >>= λ m. read_on s line standing m s.known) goes
          ∙ ap (λ w. next_of w line >>= λ m. read_on s line t m s.known) is
          ∙ ap (λ (r : Result Extent Why). r >>= (λ x. Ok (next_by x)) >>= λ m. read_on s line t m s.known) e)

    of_kind : Kind (word_of line) → HasAccepted s text
    of_kind (IsData is) = data_read is (extent_in line) refl
    of_kind (IsDone is) = done_read is
    of_kind (IsAlone alone) = alone_read alone

  plain_read : is_comment line ≡ false → (r : Result Standing Why) → after_word s.standing (word_of line) ≡ r → HasAccepted s text
  plain_read plain (Ok t) goes = of_kind plain t goes (kind (word_of line))
  plain_read plain (Err why) goes =
      is_refused why
      (ap (λ u. cond u (Ok (s, More)) (word_step false s line (word_of line))) plain
      ∙ ap (λ (r : Result Standing Why). r >>= λ standing. next_of (word_of line) line >>= λ m. read_on s line standing m s.known) goes)

  line_read : (t : Bool) → is_comment line ≡ t → HasAccepted s text
  line_read true e = comment_read e
  line_read false e = plain_read e (after_word s.standing (word_of line)) refl

-- a text of so many lines at most
read_within : (fuel n : ℕ) (s last : State) (text : Bytes) → line_count text ≤ fuel → from n s text ≡ Reads last → HasAccepted s text
read_within zero n s last text few e = go (nothing_or_line text)
  where
    go : (text ≡ []) ⊎ ((line rest : Bytes) × (line_at text ≡ Some (line, rest))) → HasAccepted s text
    go (inl is) = nothing_is_read n s last text is e
    go (inr (line, rest, there)) = let one = line_is_one text line rest (line_is text line rest there) in absurd (omega (arith, one))
read_within (suc fuel) n s last text few e = go (nothing_or_line text) (read_within fuel)
  where
    go : (text ≡ []) ⊎ ((line rest : Bytes) × (line_at text ≡ Some (line, rest)))
        → ((n : ℕ) (s last : State) (text : Bytes) → line_count text ≤ fuel → from n s text ≡ Reads last → HasAccepted s text) → HasAccepted s text
    go (inl is) later = nothing_is_read n s last text is e
    go (inr (line, rest, there)) later =
        let one = line_is_one text line rest (line_is text line rest there) in
        line_read n s last text line rest there e (λ m t more less read. later m t last more (omega (arith, one, less)) read) (is_comment line) refl

pub read_has_parts : (n : ℕ) (s last : State) (text : Bytes) → from n s text ≡ Reads last → HasAccepted s text
read_has_parts n s last text e = read_within (line_count text) n s last text (omega arith) e
