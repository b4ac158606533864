-- A text is read exactly where it has parts whose words the automaton accepts and whose fields have no defect, in the lines
-- that are judged; what is known in the end is what the parts mean.
use Rattle.std.proofs.Common.{◌≡◌, ℕ, zero, suc, ◌+◌, ◌≤◌, Bool, true, false, cond, List, [], ◌∷◌, Some, Result, Ok, Err, refl, sym, ◌∙◌, ap, subst, inl, inr, ◌⊎◌, arith}
use Rattle.std.specs.Prelude.{◌≢◌}
use Rattle.plain_model.specs.declared.fault.Why.{Why}
use Rattle.plain_model.specs.Fields.{◌>>=◌, Extent, extent_in, block_in}
use Rattle.plain_model.specs.Parts.{line_at}
use Rattle.plain_model.specs.Paths.{Bytes}
use Rattle.plain_model.proofs.Lines.{line_is}
use Rattle.field_laws.proofs.FieldSteps.{bind_ok, same_Ok, ok_then}
use Rattle.line_automaton.specs.Lines.{line_count, number_after}
use Rattle.line_automaton.specs.Machine.{Next, Outcome, outcome_from, all}
use Rattle.line_automaton.specs.Machine.Next.{More, Over}
use Rattle.line_automaton.specs.Machine.Mode.{InLine}
use Rattle.line_automaton.specs.Machine.Machine.{At}
use Rattle.line_automaton.specs.Machine.Outcome.{Reads, Refuses, Misses}
use Rattle.line_automaton.proofs.BlockLaws as blocks
use Rattle.line_automaton.proofs.CursorLaws as cursors
use Rattle.line_automaton.proofs.LineLaws.{line_is_one}
use Rattle.stream_grammar.specs.declared.lines.Standing.{Standing}
use Rattle.stream_grammar.specs.declared.lines.Word.{Word}
use Rattle.stream_grammar.specs.declared.lines.Word.TheVariants as word
use Rattle.stream_grammar.specs.Known.{Known, with_data}
use Rattle.stream_grammar.specs.Lines.{State, stream, is_comment, word_of, must_go_on, after_word, next_by, next_of, judged, word_step, line_step, read_on, data_arrived, is_inline_expected}
use Rattle.production_laws.specs.Meanings.{is_inline_word, parts_read}
use Rattle.production_laws.specs.Streams.{parts_while}
use Rattle.production_laws.specs.Texts.{Part, is_alone, HasParts, words_of}
use Rattle.production_laws.specs.Texts.Part.{Comment, Line, WithData, DoneLine}
use Rattle.production_laws.proofs.Flags.{awaits_inline, line_flag, data_flag}
use Rattle.production_laws.proofs.Standings.{Accepts}
use Rattle.production_laws.proofs.Texts.{Kind, kind, nothing_or_line, block_has_extent, extent_is, alone_follows, alone_is_not_done}
use Rattle.production_laws.proofs.Texts.Kind.{IsData, IsDone, IsAlone}

-- what the rest of a text answers from line n on
abbrev pub from : (ℕ → Bool) → ℕ → State → Bytes → Outcome State Why
from j n s text = outcome_from stream j (At n (InLine []) s) text

-- ---- one line

abbrev pub stepped : State → Bytes → Standing → Known → State
stepped s line t k = record { standing = t; spelled = line ∷ s.spelled; known = k }

pub comment_steps : (s : State) (line : Bytes) → is_comment line ≡ true → line_step true s line ≡ Ok (s, More)
comment_steps s line e = ap (λ t. cond t (Ok (s, More)) (word_step true s line (word_of line))) e

pub line_steps : (s : State) (line : Bytes) (t : Standing) (next : Next) (k : Known) → is_comment line ≡ false → after_word s.standing (word_of line) ≡ Ok t
    → next_of (word_of line) line ≡ Ok next → judged (word_of line) line s.known ≡ Ok k → line_step true s line ≡ Ok (stepped s line t k, next)
line_steps s line t next k plain goes follows means =
    ap (λ u. cond u (Ok (s, More)) (word_step true s line (word_of line))) plain
    ∙ ap (λ (r : Result Standing Why). r >>= λ standing. next_of (word_of line) line >>= λ n. judged (word_of line) line s.known >>= λ known. read_on s line standing n known) goes
    ∙ ap (λ (r : Result Next Why). r >>= λ n. judged (word_of line) line s.known >>= λ known. read_on s line t n known) follows
    ∙ ap (λ (r : Result Known Why). r >>= λ known. read_on s line t next known) means

-- a line of data means nothing by itself
pub data_means : (w : Word) (line : Bytes) (k : Known) → w ≡ word.Data → judged w line k ≡ Ok k
data_means w line k is = ap (λ x. judged x line k) is

pub done_means : (w : Word) (line : Bytes) (k : Known) → w ≡ word.Done → judged w line k ≡ Ok k
done_means w line k is = ap (λ x. judged x line k) is

-- ---- a line that is judged

module _ (j : ℕ → Bool) (n : ℕ) (judges : j n ≡ true) (s : State) where
  step_is : (line : Bytes) (r : Result (State × Next) Why) → line_step true s line ≡ r → line_step (j n) s line ≡ r
  step_is line r e = ap (λ judge. line_step judge s line) judges ∙ e

  module _ (text line block : Bytes) (there : line_at text ≡ Some (line, block)) (new : State) (extent : Extent)
      (spelled : extent_in line ≡ Ok extent) (made : line_step true s line ≡ Ok (new, next_by extent)) where
    pub block_steps : (bytes rest : Bytes) → block_in line block ≡ Ok (bytes, rest)
        → (from j n s text ≡ from j (number_after (n + 1) block rest) (data_arrived new bytes) rest) × (line_count rest ≤ line_count block)
    block_steps bytes rest h =
        let b = cursors.block_there line block bytes rest extent spelled h in (
          blocks.line_made stream j n s text line block there new (next_by extent) (step_is line (Ok (new, next_by extent)) made)
              ∙ blocks.block_there stream j n line (next_by extent) new extent block bytes b.0 (extent_is line extent spelled) (cursors.extent_has_delimiter line extent spelled) b.1
              ∙ ap (λ (l : Bytes). from j (number_after (n + 1) block l) (data_arrived new bytes) l) (sym b.2),
          subst (λ (l : Bytes). line_count l ≤ line_count block) (sym b.2) (blocks.line_count_block extent block bytes b.0 b.1),
        )

    pub block_misses : (why : Why) → block_in line block ≡ Err why → from j n s text ≡ Misses n
    block_misses why h =
        let b = cursors.block_not_there line block extent why spelled h in
        blocks.line_made stream j n s text line block there new (next_by extent) (step_is line (Ok (new, next_by extent)) made)
        ∙ blocks.block_misses stream j n line (next_by extent) new extent block (extent_is line extent spelled) b.0

-- ---- what has such parts is read

-- it is read, and this is known in the end, as far as the relation says
abbrev pub IsReadAs : (ℕ → Bool) → (Known → Known → Type 0) → ℕ → State → Bytes → Known → Type 0
IsReadAs j Same n s text known = (last : State) × (from j n s text ≡ Reads last) × Same last.known known

module _ (j : ℕ → Bool) (Same : Known → Known → Type 0) (same : (k l : Known) → k ≡ l → Same k l)
    -- what isn't judged is read by its form alone
    (by_form : (parts : List Part) (n : ℕ) (s : State) (text : Bytes) (known : Known) → j n ≡ false → HasParts text parts → Accepts s.standing (words_of parts)
    → IsReadAs j Same n s text known) where
  abbrev pub AreRead : List Part → Type 0
  AreRead parts =
      (n : ℕ) (s : State) (text : Bytes) (inline : Bool) (known : Known) (h : HasParts text parts) → Accepts s.standing (words_of parts)
      → inline ≡ awaits_inline s.standing.expected → parts_read inline (parts_while j n text parts h) s.known ≡ Ok known → IsReadAs j Same n s text known

  same_answer : (n m : ℕ) (s t : State) (text rest : Bytes) (known : Known) → from j n s text ≡ from j m t rest → IsReadAs j Same m t rest known → IsReadAs j Same n s text known
  same_answer n m s t text rest known e (last, is, knows) = (last, e ∙ is, knows)

  nothing_is_read : AreRead []
  nothing_is_read n s text inline known is h flag e =
      (s, ap (from j n s) is ∙ ap (λ t. cond {A = Outcome State Why} t (Misses n) (Reads s)) h, same s.known known (same_Ok s.known known e))

  comment_is_read : (line : Bytes) (parts : List Part) → AreRead parts → AreRead (Comment line ∷ parts)
  comment_is_read line parts later n s text inline known (rest, there, comment, are) h flag = go (j n) refl
    where
      go : (t : Bool) → j n ≡ t → parts_read inline (cond t (Comment line ∷ parts_while j (n + 1) rest parts are) []) s.known ≡ Ok known → IsReadAs j Same n s text known
      go false f e = by_form (Comment line ∷ parts) n s text known f (rest, there, comment, are) h
      go true f e =
          same_answer n (n + 1) s s text rest known (blocks.line_more stream j n s text line rest there s (step_is j n f s line (Ok (s, More)) (comment_steps s line comment)))
          (later (n + 1) s rest inline known are h flag e)

  line_is_read : (line : Bytes) (parts : List Part) → AreRead parts → AreRead (Line line ∷ parts)
  line_is_read line parts later n s text inline known (rest, there, plain, alone, are) (t, goes, then) flag = go (j n) refl then
    where
      go : (u : Bool) → j n ≡ u → ((word_of line ≡ word.Done) × (words_of parts ≡ [])) ⊎ ((word_of line ≢ word.Done) × Accepts t (words_of parts))
          → parts_read inline (cond u (Line line ∷ parts_while j (n + 1) rest parts are) []) s.known ≡ Ok known → IsReadAs j Same n s text known
      go u f (inl (done, none_left)) e = absurd (alone_is_not_done (word_of line) alone done)
      go false f (inr (differs, h)) e = by_form (Line line ∷ parts) n s text known f (rest, there, plain, alone, are) (t, goes, inr (differs, h))
      go true f (inr (differs, h)) e =
          let x = bind_ok (judged (word_of line) line s.known) (parts_read (is_inline_word (word_of line)) (parts_while j (n + 1) rest parts are)) known e in
          let new = stepped s line t x.0 in
          same_answer n (n + 1) s new text rest known
          (blocks.line_more stream j n s text line rest there new
          (step_is j n f s line (Ok (new, More)) (line_steps s line t More x.0 plain goes (alone_follows (word_of line) line alone) x.1)))
          (later (n + 1) new rest (is_inline_word (word_of line)) known are h (line_flag s.standing t (word_of line) goes) x.2)

  data_is_read : (line bytes : Bytes) (parts : List Part) → AreRead parts → AreRead (WithData line bytes ∷ parts)
  data_is_read line bytes parts later n s text inline known (block, rest, there, plain, is, held, are) (t, goes, then) flag = go (j n) refl then
    where
      go : (u : Bool) → j n ≡ u → ((word.Data ≡ word.Done) × (words_of parts ≡ [])) ⊎ ((word.Data ≢ word.Done) × Accepts t (words_of parts))
          → parts_read inline (cond u (WithData line bytes ∷ parts_while j (number_after (n + 1) block rest) rest parts are) []) s.known ≡ Ok known → IsReadAs j Same n s text known
      go u f (inl (done, none_left)) e = absurd cc
      go false f (inr (differs, h)) e = by_form (WithData line bytes ∷ parts) n s text known f (block, rest, there, plain, is, held, are) (t, goes, inr (differs, h))
      go true f (inr (differs, h)) e =
          let x = block_has_extent line block (bytes, rest) held in
          let follows : next_of (word_of line) line ≡ Ok (next_by x.0) = ap (λ w. next_of w line) is ∙ ok_then (extent_in line) (λ e. Ok (next_by e)) x.0 (Ok (next_by x.0)) x.1 refl in
          let new = stepped s line t s.known in
          let made = line_steps s line t (next_by x.0) s.known plain (ap (after_word s.standing) is ∙ goes) follows (data_means (word_of line) line s.known is) in
          let b = block_steps j n f s text line block there new x.0 x.1 made bytes rest held in
          let flagged : is_inline_expected t.expected ≡ inline = data_flag s.standing t goes ∙ sym flag in
          let m = number_after (n + 1) block rest in
          same_answer n m s (data_arrived new bytes) text rest known b.0
          (later m (data_arrived new bytes) rest false known are h (line_flag s.standing t word.Data goes)
          (ap (λ f. parts_read false (parts_while j m rest parts are) (with_data f bytes s.known)) flagged ∙ e))

  done_is_read : (line : Bytes) (parts : List Part) → AreRead (DoneLine line ∷ parts)
  done_is_read line parts n s text inline known (rest, there, plain, is, last) (t, goes, then) flag = go (j n) refl
    where
      go : (u : Bool) → j n ≡ u → parts_read inline (cond u (DoneLine line ∷ []) []) s.known ≡ Ok known → IsReadAs j Same n s text known
      go false f e = by_form (DoneLine line ∷ parts) n s text known f (rest, there, plain, is, last) (t, goes, then)
      go true f e =
          let new = stepped s line t s.known in (
            new,
            blocks.line_over stream j n s text line rest there new
                (step_is j n f s line (Ok (new, Over))
                (line_steps s line t Over s.known plain (ap (after_word s.standing) is ∙ goes) (ap (λ w. next_of w line) is) (done_means (word_of line) line s.known is))),
            same s.known known (same_Ok s.known known e),
          )

  pub parts_are_read : (parts : List Part) → AreRead parts
  parts_are_read [] = nothing_is_read
  parts_are_read (Comment line ∷ parts) = comment_is_read line parts (parts_are_read parts)
  parts_are_read (Line line ∷ parts) = line_is_read line parts (parts_are_read parts)
  parts_are_read (WithData line bytes ∷ parts) = data_is_read line bytes parts (parts_are_read parts)
  parts_are_read (DoneLine line ∷ parts) = done_is_read line parts

-- ---- what is read has such parts

-- the text has parts that are accepted, and those of them that are judged mean what is known
abbrev pub HasMeant : (ℕ → Bool) → (Known → Known → Type 0) → ℕ → State → Bool → Bytes → Known → Type 0
HasMeant j Same n s inline text last =
    (parts : List Part) × (h : HasParts text parts) × Accepts s.standing (words_of parts)
    × (known : Known) × (parts_read inline (parts_while j n text parts h) s.known ≡ Ok known) × Same last known

not_refused : (n : ℕ) (why : Why) (s : State) → ◌≡◌ {A = Outcome State Why} (Refuses n why) (Reads s) → ⊥
not_refused n why s e = absurd cc

not_missed : (n : ℕ) (s : State) → ◌≡◌ {A = Outcome State Why} (Misses n) (Reads s) → ⊥
not_missed n s e = absurd cc

same_Reads : (s t : State) → ◌≡◌ {A = Outcome State Why} (Reads s) (Reads t) → s ≡ t
same_Reads s t e = cc

module _ (j : ℕ → Bool) (Same : Known → Known → Type 0) (same : (k l : Known) → k ≡ l → Same k l) where
  nothing_read : (n : ℕ) (s last : State) (inline : Bool) (text : Bytes) → text ≡ [] → from j n s text ≡ Reads last → HasMeant j Same n s inline text last.known
  nothing_read n s last inline text is e = go (must_go_on s.standing) refl (ap (from j n s) (sym is) ∙ e)
    where
      go : (t : Bool) → must_go_on s.standing ≡ t → ◌≡◌ {A = Outcome State Why} (cond t (Misses n) (Reads s)) (Reads last) → HasMeant j Same n s inline text last.known
      go true f e = absurd (not_missed n last e)
      go false f e = ([], is, f, s.known, refl, same last.known s.known (sym (ap (λ (q : State). q.known) (same_Reads s last e))))

  module _ (n : ℕ) (judges : j n ≡ true) (s last : State) (inline : Bool) (flag : inline ≡ awaits_inline s.standing.expected)
      (text line rest : Bytes) (there : line_at text ≡ Some (line, rest)) (read : from j n s text ≡ Reads last)
      (later : (m : ℕ) (t : State) (f : Bool) (more : Bytes) → f ≡ awaits_inline t.standing.expected → line_count more ≤ line_count rest → from j m t more ≡ Reads last
      → HasMeant j Same m t f more last.known) where
    is_refused : (why : Why) → line_step true s line ≡ Err why → HasMeant j Same n s inline text last.known
    is_refused why e = absurd (not_refused n why last (sym (blocks.line_refused stream j n s text line rest there why (step_is j n judges s line (Err why) e)) ∙ read))

    -- the first part is judged
    first_judged : (part : Part) (parts : List Part) → parts_read inline (cond (j n) (part ∷ parts) []) s.known ≡ parts_read inline (part ∷ parts) s.known
    first_judged part parts = ap (λ u. parts_read inline (cond u (part ∷ parts) []) s.known) judges

    comment_read : is_comment line ≡ true → HasMeant j Same n s inline text last.known
    comment_read comment =
        let x = later (n + 1) s inline rest flag (omega arith)
        (sym (blocks.line_more stream j n s text line rest there s (step_is j n judges s line (Ok (s, More)) (comment_steps s line comment))) ∙ read) in
        (Comment line ∷ x.0, (rest, there, comment, x.1), x.2, x.3, first_judged (Comment line) (parts_while j (n + 1) rest x.0 x.1) ∙ x.4, x.5)

    -- the step of a line that is no comment
    plain_step : is_comment line ≡ false → line_step true s line ≡ word_step true s line (word_of line)
    plain_step plain = ap (λ u. cond u (Ok (s, More)) (word_step true s line (word_of line))) plain

    module _ (plain : is_comment line ≡ false) (t : Standing) (goes : after_word s.standing (word_of line) ≡ Ok t) where
      goes_step : line_step true s line ≡ (next_of (word_of line) line >>= λ m. judged (word_of line) line s.known >>= λ known. read_on s line t m known)
      goes_step =
          plain_step plain
          ∙ ap (λ (r : Result Standing Why). r >>= λ standing. next_of (word_of line) line >>= λ m. judged (word_of line) line s.known >>= λ known. read_on s line standing m known) goes

      alone_read : is_alone (word_of line) ≡ true → (r : Result Known Why) → judged (word_of line) line s.known ≡ r → HasMeant j Same n s inline text last.known
      alone_read alone (Ok k) means =
          let new = stepped s line t k in
          let made = line_steps s line t More k plain goes (alone_follows (word_of line) line alone) means in
          let x = later (n + 1) new (is_inline_word (word_of line)) rest (line_flag s.standing t (word_of line) goes) (omega arith)
          (sym (blocks.line_more stream j n s text line rest there new (step_is j n judges s line (Ok (new, More)) made)) ∙ read) in
          let others = parts_while j (n + 1) rest x.0 x.1 in (
            Line line ∷ x.0,
            (rest, there, plain, alone, x.1),
            (t, goes, inr (alone_is_not_done (word_of line) alone, x.2)),
            x.3,
            first_judged (Line line) others ∙ ok_then (judged (word_of line) line s.known) (parts_read (is_inline_word (word_of line)) others) k (Ok x.3) means x.4,
            x.5,
          )
      alone_read alone (Err why) means =
          is_refused why
          (goes_step
          ∙ ap (λ (r : Result Next Why). r >>= λ m. judged (word_of line) line s.known >>= λ known. read_on s line t m known) (alone_follows (word_of line) line alone)
          ∙ ap (λ (r : Result Known Why). r >>= λ known. read_on s line t More known) means)

      done_read : word_of line ≡ word.Done → HasMeant j Same n s inline text last.known
      done_read is =
          let new = stepped s line t s.known in
          let made = line_steps s line t Over s.known plain goes (ap (λ w. next_of w line) is) (done_means (word_of line) line s.known is) in
          let ended = same_Reads new last (sym (blocks.line_over stream j n s text line rest there new (step_is j n judges s line (Ok (new, Over)) made)) ∙ read) in (
            DoneLine line ∷ [],
            (rest, there, plain, is, refl),
            (t, ap (after_word s.standing) (sym is) ∙ goes, inl (refl, refl)),
            s.known,
            first_judged (DoneLine line) [],
            same last.known s.known (sym (ap (λ (q : State). q.known) ended)),
          )

      data_isnt_done : word.Data ≢ word.Done
      data_isnt_done e = absurd cc

      module _ (is : word_of line ≡ word.Data) where
        data_goes : after_word s.standing word.Data ≡ Ok t
        data_goes = ap (after_word s.standing) (sym is) ∙ goes

        data_made : (extent : Extent) → extent_in line ≡ Ok extent → line_step true s line ≡ Ok (stepped s line t s.known, next_by extent)
        data_made extent e =
            line_steps s line t (next_by extent) s.known plain goes
            (ap (λ w. next_of w line) is ∙ ok_then (extent_in line) (λ x. Ok (next_by x)) extent (Ok (next_by extent)) e refl) (data_means (word_of line) line s.known is)

        block_read : (extent : Extent) → extent_in line ≡ Ok extent → (r : Result (Bytes × Bytes) Why) → block_in line rest ≡ r → HasMeant j Same n s inline text last.known
        block_read extent e (Err why) h =
            absurd (not_missed n last (sym (block_misses j n judges s text line rest there (stepped s line t s.known) extent e (data_made extent e) why h) ∙ read))
        block_read extent e (Ok (bytes, beyond)) h =
            let m = number_after (n + 1) rest beyond in
            let b = block_steps j n judges s text line rest there (stepped s line t s.known) extent e (data_made extent e) bytes beyond h in
            let x = later m (data_arrived (stepped s line t s.known) bytes) false beyond (line_flag s.standing t word.Data data_goes) b.1 (sym b.0 ∙ read) in
            let others = parts_while j m beyond x.0 x.1 in
            let flagged : inline ≡ is_inline_expected t.expected = flag ∙ sym (data_flag s.standing t data_goes) in (
              WithData line bytes ∷ x.0,
              (rest, beyond, there, plain, is, h, x.1),
              (t, data_goes, inr (data_isnt_done, x.2)),
              x.3,
              first_judged (WithData line bytes) others ∙ ap (λ f. parts_read false others (with_data f bytes s.known)) flagged ∙ x.4,
              x.5,
            )

        data_read : (r : Result Extent Why) → extent_in line ≡ r → HasMeant j Same n s inline text last.known
        data_read (Ok extent) e = block_read extent e (block_in line rest) refl
        data_read (Err why) e =
            is_refused why
            (goes_step
            ∙ ap (λ w. next_of w line >>= λ m. judged (word_of line) line s.known >>= λ known. read_on s line t m known) is
            ∙ ap (λ (r : Result Extent Why). r >>= (λ x. Ok (next_by x)) >>= λ m. judged (word_of line) line s.known >>= λ known. read_on s line t m known) e)

      of_kind : Kind (word_of line) → HasMeant j Same n s inline text last.known
      of_kind (IsData is) = data_read is (extent_in line) refl
      of_kind (IsDone is) = done_read is
      of_kind (IsAlone alone) = alone_read alone (judged (word_of line) line s.known) refl

    plain_read : is_comment line ≡ false → (r : Result Standing Why) → after_word s.standing (word_of line) ≡ r → HasMeant j Same n s inline text last.known
    plain_read plain (Ok t) goes = of_kind plain t goes (kind (word_of line))
    plain_read plain (Err why) goes =
        is_refused why
        (plain_step plain
        ∙ ap (λ (r : Result Standing Why). r >>= λ standing. next_of (word_of line) line >>= λ m. judged (word_of line) line s.known >>= λ known. read_on s line standing m known) goes)

    line_read : (t : Bool) → is_comment line ≡ t → HasMeant j Same n s inline text last.known
    line_read true e = comment_read e
    line_read false e = plain_read e (after_word s.standing (word_of line)) refl

  -- what isn't judged has its form alone
  module _ (by_form : (n : ℕ) (s last : State) (inline : Bool) (text : Bytes) → j n ≡ false → from j n s text ≡ Reads last → HasMeant j Same n s inline text last.known) where
    -- a text of so many lines at most
    abbrev ReadsWithin : ℕ → Type 0
    ReadsWithin fuel =
        (n : ℕ) (s last : State) (inline : Bool) (text : Bytes) → inline ≡ awaits_inline s.standing.expected → line_count text ≤ fuel → from j n s text ≡ Reads last
        → HasMeant j Same n s inline text last.known

    some_read : (fuel n : ℕ) (s last : State) (inline : Bool) (text line rest : Bytes) → ReadsWithin fuel → inline ≡ awaits_inline s.standing.expected → line_count text ≤ suc fuel
        → from j n s text ≡ Reads last → line_at text ≡ Some (line, rest) → (t : Bool) → j n ≡ t → HasMeant j Same n s inline text last.known
    some_read fuel n s last inline text line rest later flag few e there true judges =
        let one = line_is_one text line rest (line_is text line rest there) in
        line_read n judges s last inline flag text line rest there e (λ m t f more same less read. later m t last f more same (omega (arith, one, less)) read) (is_comment line) refl
    some_read fuel n s last inline text line rest later flag few e there false late = by_form n s last inline text late e

    read_within : (fuel : ℕ) → ReadsWithin fuel
    read_within zero n s last inline text flag few e = go (nothing_or_line text)
      where
        go : (text ≡ []) ⊎ ((line rest : Bytes) × (line_at text ≡ Some (line, rest))) → HasMeant j Same n s inline text last.known
        go (inl is) = nothing_read n s last inline text is e
        go (inr (line, rest, there)) = let one = line_is_one text line rest (line_is text line rest there) in absurd (omega (arith, one))
    read_within (suc fuel) n s last inline text flag few e = go (nothing_or_line text) (read_within fuel)
      where
        go : (text ≡ []) ⊎ ((line rest : Bytes) × (line_at text ≡ Some (line, rest))) → ReadsWithin fuel → HasMeant j Same n s inline text last.known
        go (inl is) later = nothing_read n s last inline text is e
        go (inr (line, rest, there)) later = some_read fuel n s last inline text line rest later flag few e there (j n) refl

    pub read_has_parts : (n : ℕ) (s last : State) (inline : Bool) (text : Bytes) → inline ≡ awaits_inline s.standing.expected → from j n s text ≡ Reads last
        → HasMeant j Same n s inline text last.known
    read_has_parts n s last inline text flag e = read_within (line_count text) n s last inline text flag (omega arith) e

-- ---- where all lines are judged

pub all_parts : (parts : List Part) (n : ℕ) (text : Bytes) (h : HasParts text parts) → parts_while all n text parts h ≡ parts
all_parts [] n text h = refl
all_parts (Comment line ∷ parts) n text (rest, there, comment, are) = ap (λ (l : List Part). Comment line ∷ l) (all_parts parts (n + 1) rest are)
all_parts (Line line ∷ parts) n text (rest, there, plain, alone, are) = ap (λ (l : List Part). Line line ∷ l) (all_parts parts (n + 1) rest are)
all_parts (WithData line bytes ∷ parts) n text (block, rest, there, plain, is, held, are) =
    ap (λ (l : List Part). WithData line bytes ∷ l) (all_parts parts (number_after (n + 1) block rest) rest are)
all_parts (DoneLine line ∷ parts) n text (rest, there, plain, is, last) = ap (λ (l : List Part). DoneLine line ∷ l) (sym last)

abbrev AreEqual : Known → Known → Type 0
AreEqual k l = k ≡ l

pub all_are_read : (parts : List Part) (n : ℕ) (s : State) (text : Bytes) (inline : Bool) (known : Known) → HasParts text parts
    → Accepts s.standing (words_of parts) → inline ≡ awaits_inline s.standing.expected → parts_read inline parts s.known ≡ Ok known → IsReadAs all AreEqual n s text known
all_are_read parts n s text inline known h accepts flag e =
    parts_are_read all AreEqual (λ k l same. same) (λ parts n s text known late h accepts. absurd cc) parts n s text inline known h accepts flag
    (ap (λ (l : List Part). parts_read inline l s.known) (all_parts parts n text h) ∙ e)

pub all_has_parts : (n : ℕ) (s last : State) (inline : Bool) (text : Bytes) → inline ≡ awaits_inline s.standing.expected → from all n s text ≡ Reads last
    → (parts : List Part) × HasParts text parts × Accepts s.standing (words_of parts) × (parts_read inline parts s.known ≡ Ok last.known)
all_has_parts n s last inline text flag e =
    let x = read_has_parts all AreEqual (λ k l same. same) (λ n s last inline text late read. absurd cc) n s last inline text flag e in
    (x.0, x.1, x.2, ap (λ (l : List Part). parts_read inline l s.known) (sym (all_parts x.0 n text x.1)) ∙ x.4 ∙ ap (λ (k : Known). Ok k) (sym x.5))
