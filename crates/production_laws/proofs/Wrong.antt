-- The line and the kind of a text's first defect, by the streams that begin as it does.
use Rattle.std.proofs.Common.{◌≡◌, ℕ, zero, suc, ◌+◌, ◌≤◌, Bool, true, false, cond, List, [], ◌∷◌, ◌++◌, Option, Some, None, Result, Ok, Err, refl, sym, ◌∙◌, ap, inl, inr, ◌⊎◌, arith}
use Rattle.std.specs.Prelude.{◌≢◌}
use Rattle.std.proofs.lemmas.Option.{some_pair_parts}
use Rattle.plain_model.specs.declared.fault.Why.{Why}
use Rattle.plain_model.specs.declared.fault.Why.TheVariants.{Truncated}
use Rattle.plain_model.specs.Fields.{◌>>=◌, Extent, block_after, block_at, block_in, extent_in, or_defect}
use Rattle.plain_model.specs.Parts.{line_at, skip_lf}
use Rattle.plain_model.specs.Paths.{Bytes}
use Rattle.plain_model.proofs.Lines.{line_is}
use Rattle.field_laws.proofs.FieldSteps.{bind_ok, ok_then, same_Ok}
use Rattle.line_automaton.specs.Lines.{line_count, number_after}
use Rattle.line_automaton.specs.Machine.{Next, Outcome, all}
use Rattle.line_automaton.specs.Machine.Next.{More, Over}
use Rattle.line_automaton.specs.Machine.Outcome.{Reads, Misses}
use Rattle.line_automaton.proofs.BlockLaws as blocks
use Rattle.line_automaton.proofs.CursorLaws as cursors
use Rattle.line_automaton.proofs.LineLaws.{line_is_one}
use Rattle.stream_grammar.specs.declared.lines.Standing.{Standing}
use Rattle.stream_grammar.specs.declared.lines.Word.{Word}
use Rattle.stream_grammar.specs.declared.lines.Word.TheVariants as word
use Rattle.stream_grammar.specs.Known.{Known, with_data}
use Rattle.stream_grammar.specs.Lines.{State, after_word, data_arrived, defect_in, defect_of, is_comment, is_inline_expected, judged, line_step, must_go_on, next_by, next_of, read_on, stream, word_of, word_step}
use Rattle.production_laws.specs.Meanings.{is_inline_word, parts_read}
use Rattle.production_laws.specs.Streams.{BeginsWith, HasDefect, Wrong}
use Rattle.production_laws.specs.Streams.Wrong.{BadBlock, BadField, Ends, Misplaced}
use Rattle.production_laws.specs.Texts.{Part, is_alone, words_of}
use Rattle.production_laws.specs.Texts.Part.{Comment, DoneLine, Line, WithData}
use Rattle.production_laws.proofs.Flags.{awaits_inline, data_flag, line_flag}
use Rattle.production_laws.proofs.KnownLines.{block_misses, block_steps, comment_steps, data_means, done_means, from, line_steps, stepped}
use Rattle.production_laws.proofs.Standings.{Accepts}
use Rattle.production_laws.proofs.Places as places
use Rattle.production_laws.proofs.Places.{Reaches, start}
use Rattle.production_laws.proofs.Texts.{Kind, alone_follows, alone_is_not_done, block_has_extent, kind, nothing_or_line}
use Rattle.production_laws.proofs.Texts.Kind.{IsAlone, IsData, IsDone}

-- ---- by the automaton's places

-- what is wrong where the automaton is at this place
data Fails (place : Standing) (known : Known) (rest : Bytes) (why : Why) : Type 0 where
  AtEnd : rest ≡ [] → must_go_on place ≡ true → why ≡ Truncated → Fails place known rest why
  AtLine : (line more : Bytes) → line_at rest ≡ Some (line, more) → is_comment line ≡ false → after_word place (word_of line) ≡ Err why → Fails place known rest why
  AtBlock : (line more : Bytes) → line_at rest ≡ Some (line, more) → is_comment line ≡ false → (t : Standing) → after_word place (word_of line) ≡ Ok t
      → word_of line ≡ word.Data → block_in line more ≡ Err why → Fails place known rest why
  AtField : (line more : Bytes) → line_at rest ≡ Some (line, more) → is_comment line ≡ false → (t : Standing) → after_word place (word_of line) ≡ Ok t
      → is_alone (word_of line) ≡ true → judged (word_of line) line known ≡ Err why → Fails place known rest why

-- from line n on the text has its first defect in line m
record Broken (n : ℕ) (s : State) (inline : Bool) (text : Bytes) (m : ℕ) (why : Why) : Type 0 where
  pub parts : List Part
  pub rest : Bytes
  pub begins : BeginsWith text parts rest
  pub fewer : line_count rest ≤ line_count text
  pub number : number_after n text rest ≡ m
  pub place : Standing
  pub reached : Reaches s.standing (words_of parts) place
  pub known : Known
  pub means : parts_read inline parts s.known ≡ Ok known
  pub fails : Fails place known rest why

-- at once
at_once : (n : ℕ) (s : State) (inline : Bool) (text : Bytes) (m l : ℕ) (why other : Why) → ◌≡◌ {A = Option (ℕ × Why)} (Some (l, other)) (Some (m, why)) → n ≡ l
    → (other ≡ why → Fails s.standing s.known text why) → Broken n s inline text m why
at_once n s inline text m l why other e same fails = record {
  parts = [];
  rest = text;
  begins = refl;
  fewer = omega arith;
  number = (let is = (some_pair_parts l m other why e).0 in omega (arith, is, same));
  place = s.standing;
  reached = refl;
  known = s.known;
  means = refl;
  fails = fails (some_pair_parts l m other why e).1;
}

-- without an extent there is no block
no_extent : (line text : Bytes) (why : Why) → extent_in line ≡ Err why → block_in line text ≡ Err why
unfolding block_in block_after
no_extent line text why e = ap (λ (r : Result Extent Why). r >>= (λ x. or_defect Truncated (block_at x text)) >>= λ x. Ok (x.0, skip_lf x.1)) e

no_defect : (m : ℕ) (why : Why) → ◌≡◌ {A = Option (ℕ × Why)} None (Some (m, why)) → ⊥
no_defect m why e = absurd cc

end_breaks : (n : ℕ) (s : State) (inline : Bool) (text : Bytes) (m : ℕ) (why : Why) → text ≡ [] → defect_of (from all n s text) ≡ Some (m, why) → Broken n s inline text m why
end_breaks n s inline text m why is e = go (must_go_on s.standing) refl (ap (λ t. defect_of (from all n s t)) (sym is) ∙ e)
  where
    go : (b : Bool) → must_go_on s.standing ≡ b → defect_of (cond {A = Outcome State Why} b (Misses n) (Reads s)) ≡ Some (m, why) → Broken n s inline text m why
    go true f e = at_once n s inline text m n why Truncated e refl (λ same. AtEnd is f (sym same))
    go false f e = absurd (no_defect m why e)

module _ (n : ℕ) (s : State) (inline : Bool) (flag : inline ≡ awaits_inline s.standing.expected)
    (text line rest : Bytes) (there : line_at text ≡ Some (line, rest)) (m : ℕ) (why : Why) (broken : defect_of (from all n s text) ≡ Some (m, why))
    (later : (k : ℕ) (t : State) (f : Bool) (more : Bytes) → f ≡ awaits_inline t.standing.expected → line_count more ≤ line_count rest
    → defect_of (from all k t more) ≡ Some (m, why) → Broken k t f more m why) where
  one : line_count text ≡ 1 + line_count rest
  one = line_is_one text line rest (line_is text line rest there)

  refused : (other : Why) → line_step true s line ≡ Err other → (other ≡ why → Fails s.standing s.known text why) → Broken n s inline text m why
  refused other e fails =
      at_once n s inline text m n why other (sym (ap defect_of (blocks.line_refused stream all n s text line rest there other e)) ∙ broken) refl fails

  goes_to : (k : ℕ) (t : State) (more : Bytes) → from all n s text ≡ from all k t more → defect_of (from all k t more) ≡ Some (m, why)
  goes_to k t more e = sym (ap defect_of e) ∙ broken

  comment_breaks : is_comment line ≡ true → Broken n s inline text m why
  comment_breaks comment =
      let b = later (n + 1) s inline rest flag (omega arith) (goes_to (n + 1) s rest (blocks.line_more stream all n s text line rest there s (comment_steps s line comment))) in
      let fewer = b.fewer in
      let number = b.number in
      record {
        parts = Comment line ∷ b.parts;
        rest = b.rest;
        begins = (rest, there, comment, b.begins);
        fewer = omega (arith, one, fewer);
        number = omega (arith, one, fewer, number);
        place = b.place;
        reached = b.reached;
        known = b.known;
        means = b.means;
        fails = b.fails;
      }

  plain_step : is_comment line ≡ false → line_step true s line ≡ word_step true s line (word_of line)
  plain_step plain = ap (λ u. cond u (Ok (s, More)) (word_step true s line (word_of line))) plain

  module _ (plain : is_comment line ≡ false) (t : Standing) (goes : after_word s.standing (word_of line) ≡ Ok t) where
    goes_step : line_step true s line ≡ (next_of (word_of line) line >>= λ k. judged (word_of line) line s.known >>= λ known. read_on s line t k known)
    goes_step =
        plain_step plain
        ∙ ap (λ (r : Result Standing Why). r >>= λ standing. next_of (word_of line) line >>= λ k. judged (word_of line) line s.known >>= λ known. read_on s line standing k known) goes

    alone_breaks : is_alone (word_of line) ≡ true → (r : Result Known Why) → judged (word_of line) line s.known ≡ r → Broken n s inline text m why
    alone_breaks alone (Err other) means =
        refused other
        (goes_step
        ∙ ap (λ (r : Result Next Why). r >>= λ k. judged (word_of line) line s.known >>= λ known. read_on s line t k known) (alone_follows (word_of line) line alone)
        ∙ ap (λ (r : Result Known Why). r >>= λ known. read_on s line t More known) means)
        (λ same. AtField line rest there plain t goes alone (means ∙ ap (λ (w : Why). Err w) same))
    alone_breaks alone (Ok k) means =
        let made = line_steps s line t More k plain goes (alone_follows (word_of line) line alone) means in
        let b = later (n + 1) (stepped s line t k) (is_inline_word (word_of line)) rest (line_flag s.standing t (word_of line) goes) (omega arith)
        (goes_to (n + 1) (stepped s line t k) rest (blocks.line_more stream all n s text line rest there (stepped s line t k) made)) in
        let fewer = b.fewer in
        let number = b.number in
        record {
          parts = Line line ∷ b.parts;
          rest = b.rest;
          begins = (rest, there, plain, alone, b.begins);
          fewer = omega (arith, one, fewer);
          number = omega (arith, one, fewer, number);
          place = b.place;
          reached = (t, goes, alone_is_not_done (word_of line) alone, b.reached);
          known = b.known;
          means = ok_then (judged (word_of line) line s.known) (parts_read (is_inline_word (word_of line)) b.parts) k (Ok b.known) means b.means;
          fails = b.fails;
        }

    done_breaks : word_of line ≡ word.Done → Broken n s inline text m why
    done_breaks is =
        let made = line_steps s line t Over s.known plain goes (ap (λ w. next_of w line) is) (done_means (word_of line) line s.known is) in
        absurd (no_defect m why (sym (ap defect_of (blocks.line_over stream all n s text line rest there (stepped s line t s.known) made)) ∙ broken))

    data_isnt_done : word.Data ≢ word.Done
    data_isnt_done e = absurd cc

    module _ (is : word_of line ≡ word.Data) where
      data_goes : after_word s.standing word.Data ≡ Ok t
      data_goes = ap (after_word s.standing) (sym is) ∙ goes

      data_made : (extent : Extent) → extent_in line ≡ Ok extent → line_step true s line ≡ Ok (stepped s line t s.known, next_by extent)
      data_made extent e =
          line_steps s line t (next_by extent) s.known plain goes
          (ap (λ w. next_of w line) is ∙ ok_then (extent_in line) (λ x. Ok (next_by x)) extent (Ok (next_by extent)) e refl) (data_means (word_of line) line s.known is)

      block_breaks : (extent : Extent) → extent_in line ≡ Ok extent → (r : Result (Bytes × Bytes) Why) → block_in line rest ≡ r → Broken n s inline text m why
      block_breaks extent e (Err other) h =
          let cut = (cursors.block_not_there line rest extent other e h).1 in
          at_once n s inline text m n why Truncated
          (sym (ap defect_of (block_misses all n refl s text line rest there (stepped s line t s.known) extent e (data_made extent e) other h)) ∙ broken) refl
          (λ same. AtBlock line rest there plain t goes is (h ∙ ap (λ (w : Why). Err w) (cut ∙ same)))
      block_breaks extent e (Ok (bytes, beyond)) h =
          let k = number_after (n + 1) rest beyond in
          let x = block_steps all n refl s text line rest there (stepped s line t s.known) extent e (data_made extent e) bytes beyond h in
          let b = later k (data_arrived (stepped s line t s.known) bytes) false beyond (line_flag s.standing t word.Data data_goes) x.1
          (goes_to k (data_arrived (stepped s line t s.known) bytes) beyond x.0) in
          let within = x.1 in
          let fewer = b.fewer in
          let number = b.number in
          let flagged : inline ≡ is_inline_expected t.expected = flag ∙ sym (data_flag s.standing t data_goes) in
          record {
            parts = WithData line bytes ∷ b.parts;
            rest = b.rest;
            begins = (rest, beyond, there, plain, is, h, b.begins);
            fewer = omega (arith, one, fewer, within);
            number = omega (arith, one, fewer, within, number);
            place = b.place;
            reached = (t, data_goes, data_isnt_done, b.reached);
            known = b.known;
            means = ap (λ f. parts_read false b.parts (with_data f bytes s.known)) flagged ∙ b.means;
            fails = b.fails;
          }

      data_breaks : (r : Result Extent Why) → extent_in line ≡ r → Broken n s inline text m why
      data_breaks (Ok extent) e = block_breaks extent e (block_in line rest) refl
      data_breaks (Err other) e =
          refused other
          (goes_step
          ∙ ap (λ w. next_of w line >>= λ k. judged (word_of line) line s.known >>= λ known. read_on s line t k known) is
          ∙ ap (λ (r : Result Extent Why). r >>= (λ x. Ok (next_by x)) >>= λ k. judged (word_of line) line s.known >>= λ known. read_on s line t k known) e)
          (λ same. AtBlock line rest there plain t goes is (no_extent line rest other e ∙ ap (λ (w : Why). Err w) same))

    of_kind : Kind (word_of line) → Broken n s inline text m why
    of_kind (IsData is) = data_breaks is (extent_in line) refl
    of_kind (IsDone is) = done_breaks is
    of_kind (IsAlone alone) = alone_breaks alone (judged (word_of line) line s.known) refl

  plain_breaks : is_comment line ≡ false → (r : Result Standing Why) → after_word s.standing (word_of line) ≡ r → Broken n s inline text m why
  plain_breaks plain (Ok t) goes = of_kind plain t goes (kind (word_of line))
  plain_breaks plain (Err other) goes =
      refused other
      (plain_step plain
      ∙ ap (λ (r : Result Standing Why). r >>= λ standing. next_of (word_of line) line >>= λ k. judged (word_of line) line s.known >>= λ known. read_on s line standing k known) goes)
      (λ same. AtLine line rest there plain (goes ∙ ap (λ (w : Why). Err w) same))

  line_breaks : (b : Bool) → is_comment line ≡ b → Broken n s inline text m why
  line_breaks true e = comment_breaks e
  line_breaks false e = plain_breaks e (after_word s.standing (word_of line)) refl

-- a text of so many lines at most
abbrev BreaksWithin : ℕ → Type 0
BreaksWithin fuel =
    (n : ℕ) (s : State) (inline : Bool) (text : Bytes) (m : ℕ) (why : Why) → inline ≡ awaits_inline s.standing.expected → line_count text ≤ fuel
    → defect_of (from all n s text) ≡ Some (m, why) → Broken n s inline text m why

breaks_within : (fuel : ℕ) → BreaksWithin fuel
breaks_within zero n s inline text m why flag few e = go (nothing_or_line text)
  where
    go : (text ≡ []) ⊎ ((line rest : Bytes) × (line_at text ≡ Some (line, rest))) → Broken n s inline text m why
    go (inl is) = end_breaks n s inline text m why is e
    go (inr (line, rest, there)) = let one = line_is_one text line rest (line_is text line rest there) in absurd (omega (arith, one))
breaks_within (suc fuel) n s inline text m why flag few e = go (nothing_or_line text) (breaks_within fuel)
  where
    go : (text ≡ []) ⊎ ((line rest : Bytes) × (line_at text ≡ Some (line, rest))) → BreaksWithin fuel → Broken n s inline text m why
    go (inl is) later = end_breaks n s inline text m why is e
    go (inr (line, rest, there)) later =
        let one = line_is_one text line rest (line_is text line rest there) in
        line_breaks n s inline flag text line rest there m why e (λ k t f more same less broken. later k t f more m why same (omega (arith, one, less)) broken) (is_comment line) refl

-- ---- by streams

wrong : (parts : List Part) (place : Standing) → Reaches start (words_of parts) place → (known : Known) (rest : Bytes) (why : Why) → Fails place known rest why → Wrong parts known rest why
wrong parts place reached known rest why (AtEnd is on same) = Ends is (places.not_over (words_of parts) place reached on) same
wrong parts place reached known rest why (AtLine line more there plain e) =
    Misplaced line more there plain
    (λ can. let x = places.begins_here (words_of parts) place reached (word_of line) can in absurd (let both : ◌≡◌ {A = Result Standing Why} (Err why) (Ok x.0) = sym e ∙ x.1 in cc))
    (places.misplaced (words_of parts) place reached (word_of line) why e)
wrong parts place reached known rest why (AtBlock line more there plain t goes is cut) =
    BadBlock line more there plain (places.can_begin (words_of parts) place reached t (word_of line) (λ done. absurd (let both : word.Data ≡ word.Done = sym is ∙ done in cc)) goes) is cut
wrong parts place reached known rest why (AtField line more there plain t goes alone bad) =
    BadField line more there plain (places.can_begin (words_of parts) place reached t (word_of line) (alone_is_not_done (word_of line) alone) goes) alone bad

pub found_defect : (text : Bytes) (n : ℕ) (why : Why) → defect_in text ≡ Some (n, why) → HasDefect text n why
found_defect text n why e =
    let b = breaks_within (line_count text) 1 stream.start false text n why refl (omega arith) e in
    record {
      parts = b.parts;
      rest = b.rest;
      begins = b.begins;
      number = b.number;
      form = places.reached_begins (words_of b.parts) b.place b.reached;
      known = b.known;
      means = b.means;
      wrong = wrong b.parts b.place b.reached b.known b.rest why b.fails;
    }

-- ---- the other way: such a defect is found

-- the automaton is after the parts
record After (n : ℕ) (s : State) (text : Bytes) (words : List Word) (rest : Bytes) (known : Known) : Type 0 where
  pub at : ℕ
  pub state : State
  pub same : from all n s text ≡ from all at state rest
  pub fewer : line_count rest ≤ line_count text
  pub number : number_after n text rest ≡ at
  pub reached : Reaches s.standing words state.standing
  pub knows : state.known ≡ known

after_parts : (parts : List Part) (n : ℕ) (s : State) (inline : Bool) (text rest : Bytes) (more : List Word) (known : Known) → inline ≡ awaits_inline s.standing.expected
    → BeginsWith text parts rest → Accepts s.standing (words_of parts ++ more) → parts_read inline parts s.known ≡ Ok known → After n s text (words_of parts) rest known
after_parts [] n s inline text rest more known flag is h e = record {
  at = n;
  state = s;
  same = ap (from all n s) is;
  fewer = (let one = ap line_count is in omega (arith, one));
  number = (let one = ap line_count is in omega (arith, one));
  reached = refl;
  knows = same_Ok s.known known e;
}
after_parts (Comment line ∷ parts) n s inline text rest more known flag (next, there, comment, begins) h e =
    let one = line_is_one text line next (line_is text line next there) in
    let x = after_parts parts (n + 1) s inline next rest more known flag begins h e in
    let fewer = x.fewer in
    let number = x.number in
    record {
      at = x.at;
      state = x.state;
      same = blocks.line_more stream all n s text line next there s (comment_steps s line comment) ∙ x.same;
      fewer = omega (arith, one, fewer);
      number = omega (arith, one, fewer, number);
      reached = x.reached;
      knows = x.knows;
    }
after_parts (Line line ∷ parts) n s inline text rest more known flag (next, there, plain, alone, begins) (t, goes, inl (done, none)) e =
    absurd (alone_is_not_done (word_of line) alone done)
after_parts (Line line ∷ parts) n s inline text rest more known flag (next, there, plain, alone, begins) (t, goes, inr (differs, h)) e =
    let one = line_is_one text line next (line_is text line next there) in
    let k = bind_ok (judged (word_of line) line s.known) (parts_read (is_inline_word (word_of line)) parts) known e in
    let new = stepped s line t k.0 in
    let x = after_parts parts (n + 1) new (is_inline_word (word_of line)) next rest more known (line_flag s.standing t (word_of line) goes) begins h k.2 in
    let fewer = x.fewer in
    let number = x.number in
    record {
      at = x.at;
      state = x.state;
      same = blocks.line_more stream all n s text line next there new (line_steps s line t More k.0 plain goes (alone_follows (word_of line) line alone) k.1) ∙ x.same;
      fewer = omega (arith, one, fewer);
      number = omega (arith, one, fewer, number);
      reached = (t, goes, differs, x.reached);
      knows = x.knows;
    }
after_parts (WithData line bytes ∷ parts) n s inline text rest more known flag (block, next, there, plain, is, held, begins) (t, goes, inl (done, none)) e = absurd cc
after_parts (WithData line bytes ∷ parts) n s inline text rest more known flag (block, next, there, plain, is, held, begins) (t, goes, inr (differs, h)) e =
    let one = line_is_one text line block (line_is text line block there) in
    let extent = block_has_extent line block (bytes, next) held in
    let new = stepped s line t s.known in
    let made = line_steps s line t (next_by extent.0) s.known plain (ap (after_word s.standing) is ∙ goes)
    (ap (λ w. next_of w line) is ∙ ok_then (extent_in line) (λ x. Ok (next_by x)) extent.0 (Ok (next_by extent.0)) extent.1 refl) (data_means (word_of line) line s.known is) in
    let b = block_steps all n refl s text line block there new extent.0 extent.1 made bytes next held in
    let within = b.1 in
    let flagged : is_inline_expected t.expected ≡ inline = data_flag s.standing t goes ∙ sym flag in
    let x = after_parts parts (number_after (n + 1) block next) (data_arrived new bytes) false next rest more known (line_flag s.standing t word.Data goes) begins h
    (ap (λ f. parts_read false parts (with_data f bytes s.known)) flagged ∙ e) in
    let fewer = x.fewer in
    let number = x.number in
    record {
      at = x.at;
      state = x.state;
      same = b.0 ∙ x.same;
      fewer = omega (arith, one, fewer, within);
      number = omega (arith, one, fewer, within, number);
      reached = (t, goes, differs, x.reached);
      knows = x.knows;
    }
after_parts (DoneLine line ∷ parts) n s inline text rest more known flag begins h e = absurd begins

-- what is wrong there is found there
module _ (parts : List Part) (at : ℕ) (s : State) (reached : Reaches start (words_of parts) s.standing) (rest : Bytes) (why : Why) where
  refused_at : (line more : Bytes) → line_at rest ≡ Some (line, more) → line_step true s line ≡ Err why → defect_of (from all at s rest) ≡ Some (at, why)
  refused_at line more there e = ap defect_of (blocks.line_refused stream all at s rest line more there why e)

  word_is_refused : (line : Bytes) → is_comment line ≡ false → after_word s.standing (word_of line) ≡ Err why → line_step true s line ≡ Err why
  word_is_refused line plain e =
      ap (λ u. cond u (Ok (s, More)) (word_step true s line (word_of line))) plain
      ∙ ap (λ (r : Result Standing Why). r >>= λ standing. next_of (word_of line) line >>= λ k. judged (word_of line) line s.known >>= λ known. read_on s line standing k known) e

  next_is_refused : (line : Bytes) (t : Standing) → is_comment line ≡ false → after_word s.standing (word_of line) ≡ Ok t → next_of (word_of line) line ≡ Err why
      → line_step true s line ≡ Err why
  next_is_refused line t plain goes e =
      ap (λ u. cond u (Ok (s, More)) (word_step true s line (word_of line))) plain
      ∙ ap (λ (r : Result Standing Why). r >>= λ standing. next_of (word_of line) line >>= λ k. judged (word_of line) line s.known >>= λ known. read_on s line standing k known) goes
      ∙ ap (λ (r : Result Next Why). r >>= λ k. judged (word_of line) line s.known >>= λ known. read_on s line t k known) e

  field_is_refused : (line : Bytes) (t : Standing) → is_comment line ≡ false → after_word s.standing (word_of line) ≡ Ok t → is_alone (word_of line) ≡ true
      → judged (word_of line) line s.known ≡ Err why → line_step true s line ≡ Err why
  field_is_refused line t plain goes alone e =
      ap (λ u. cond u (Ok (s, More)) (word_step true s line (word_of line))) plain
      ∙ ap (λ (r : Result Standing Why). r >>= λ standing. next_of (word_of line) line >>= λ k. judged (word_of line) line s.known >>= λ known. read_on s line standing k known) goes
      ∙ ap (λ (r : Result Next Why). r >>= λ k. judged (word_of line) line s.known >>= λ known. read_on s line t k known) (alone_follows (word_of line) line alone)
      ∙ ap (λ (r : Result Known Why). r >>= λ known. read_on s line t More known) e

  -- a block that isn't there, or whose line says none
  block_is_missed : (line more : Bytes) (t : Standing) → line_at rest ≡ Some (line, more) → is_comment line ≡ false → after_word s.standing (word_of line) ≡ Ok t
      → word_of line ≡ word.Data → block_in line more ≡ Err why → (r : Result Extent Why) → extent_in line ≡ r → defect_of (from all at s rest) ≡ Some (at, why)
  block_is_missed line more t there plain goes is cut (Ok extent) e =
      let new = stepped s line t s.known in
      let made = line_steps s line t (next_by extent) s.known plain goes
      (ap (λ w. next_of w line) is ∙ ok_then (extent_in line) (λ x. Ok (next_by x)) extent (Ok (next_by extent)) e refl) (data_means (word_of line) line s.known is) in
      ap defect_of (block_misses all at refl s rest line more there new extent e made why cut)
      ∙ ap (λ (w : Why). Some (at, w)) (sym (cursors.block_not_there line more extent why e cut).1)
  block_is_missed line more t there plain goes is cut (Err other) e =
      let same : ◌≡◌ {A = Result (Bytes × Bytes) Why} (Err other) (Err why) = sym (no_extent line more other e) ∙ cut in
      let same_why : other ≡ why = cc in
      refused_at line more there
      (next_is_refused line t plain goes (ap (λ w. next_of w line) is ∙ ap (λ (r : Result Extent Why). r >>= λ x. Ok (next_by x)) e ∙ ap (λ (w : Why). Err w) same_why))

  wrong_is_found : (known : Known) → s.known ≡ known → Wrong parts known rest why → defect_of (from all at s rest) ≡ Some (at, why)
  wrong_is_found known knows (Ends is unfinished same) =
      ap (λ t. defect_of (from all at s t)) is
      ∙ ap (λ b. defect_of (cond {A = Outcome State Why} b (Misses at) (Reads s))) (places.is_unfinished (words_of parts) s.standing reached unfinished)
      ∙ ap (λ (w : Why). Some (at, w)) (sym same)
  wrong_is_found known knows (Misplaced line more there plain cannot is) =
      refused_at line more there (word_is_refused line plain (places.is_refused (words_of parts) s.standing reached (word_of line) why cannot is))
  wrong_is_found known knows (BadBlock line more there plain can is cut) =
      let x = places.begins_here (words_of parts) s.standing reached (word_of line) can in
      block_is_missed line more x.0 there plain x.1 is cut (extent_in line) refl
  wrong_is_found known knows (BadField line more there plain can alone bad) =
      let x = places.begins_here (words_of parts) s.standing reached (word_of line) can in
      refused_at line more there (field_is_refused line x.0 plain x.1 alone (ap (judged (word_of line) line) knows ∙ bad))

pub defect_is_found : (text : Bytes) (n : ℕ) (why : Why) → HasDefect text n why → defect_in text ≡ Some (n, why)
defect_is_found text n why h =
    let form = h.form in
    let accepted = places.spelled_is_accepted (words_of h.parts ++ form.0) form.1 form.2 in
    let x = after_parts h.parts 1 stream.start false text h.rest form.0 h.known refl h.begins accepted h.means in
    ap defect_of x.same ∙ wrong_is_found h.parts x.at x.state x.reached h.rest why h.known x.knows h.wrong ∙ ap (λ k. Some (k, why)) (sym x.number ∙ h.number)
