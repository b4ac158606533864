-- A line that is passed through leads on to the event that it is.
use Rattle.std.proofs.Common.{◌≡◌, ℕ, Bool, true, false, cond, not, List, [], ◌∷◌, ◌++◌, length, Result, Ok, refl, sym, ap, subst, ◌∙◌, arith, codes, eqb-true, length-append, append-nil}
use Rattle.std.proofs.lemmas.Slice.Eq.{bytes_eq-Decides}
use Rattle.std.specs.Prelude.{◌==◌, ◌&&◌, ◌||◌, bytes_eq, IsTrue}
use Rattle.std.specs.Cmp.Lexicographic.{same_text}
use Rattle.std.proofs.lemmas.Bool.{and_parts}
use Rattle.plain_model.specs.declared.fault.Why.{Why}
use Rattle.plain_model.specs.declared.fault.Why.TheVariants.{LeftOut}
use Rattle.plain_model.specs.declared.event.PlainEvent.{PlainEvent}
use Rattle.plain_model.specs.declared.event.PlainEvent.TheVariants as plain
use Rattle.plain_model.specs.Paths.{Bytes}
use Rattle.plain_model.proofs.Words.{begins_rest}
use Rattle.plain_model.specs.Soundness.{is_passed_line}
use Rattle.plain_model.specs.Parts.{begins, has_no_lf}
use Rattle.field_laws.proofs.FieldSteps.{ok_then}
use Rattle.line_automaton.specs.Machine.Next.{More}
use Rattle.stream_grammar.specs.declared.lines.Expected.{Expected}
use Rattle.stream_grammar.specs.declared.lines.Expected.TheVariants as expected
use Rattle.stream_grammar.specs.declared.lines.Word.{Word}
use Rattle.stream_grammar.specs.declared.lines.Word.TheVariants as word
use Rattle.stream_grammar.specs.Known.{Known, Open, ensure, closed, next_id}
use Rattle.stream_grammar.specs.Known.Open.{Nothing}
use Rattle.stream_grammar.specs.Lines.{gone_on, is_left_out_feature, passed, is_comment, word_of}
use Rattle.round_trip_laws.proofs.Points.{Point, point, Leads}
use Rattle.round_trip_laws.proofs.WrittenLines.{is_between, finishes}

none_left : (rest : Bytes) → length rest ≡ 0 → rest ≡ []
none_left [] h = refl
none_left (b ∷ rest) h = absurd (omega (arith, h))

-- a word alone, by its length
whole_word : (w text : Bytes) (n : ℕ) → length w ≡ n → begins w text ≡ true → (length text == n) ≡ true → text ≡ w
whole_word w text n e h k =
    let is = begins_rest w text h in
    let size = eqb-true (length text) n k in
    is.1 ∙ ap (λ (l : Bytes). w ++ l) (none_left is.0 (omega (arith, e, size, ap length is.1, length-append w is.0))) ∙ append-nil w

-- what a feature may be: no file of marks, and of dates only the raw form
kept_feature : (text : Bytes) (a b c n : Bool) → (not a && (not b || c && n)) ≡ true → (c ≡ true → n ≡ true → bytes_eq text (codes "feature date-format=raw") ≡ true)
    → (a || b && not (bytes_eq text (codes "feature date-format=raw"))) ≡ false
kept_feature text true b c n h f = absurd cc
kept_feature text false false c n h f = refl
kept_feature text false true c n h f = let parts = and_parts c n h in ap not (f parts.0 parts.1)

module _ (d : Expected) (between : is_between d ≡ true) (wants : Bool) (events done : List PlainEvent) (aliases : List (ℕ × ℕ)) (current : Open) (are : closed (record { events = events; current = current; aliases = aliases }) ≡ done) where
  abbrev after_pass : Bytes → Point
  after_pass text = point expected.Event (bytes_eq text (codes "feature done") || wants) (done ++ plain.Pass (next_id done) text ∷ []) aliases Nothing

  passed_is : (text : Bytes) → ◌≡◌ {A = Result Known Why} (Ok (passed (record { events = events; current = current; aliases = aliases }) text)) (Ok (record { events = done ++ plain.Pass (next_id done) text ∷ []; current = Nothing; aliases = aliases }))
  passed_is text = ap (λ (l : List PlainEvent). Ok (record { events = l ++ plain.Pass (next_id l) text ∷ []; current = Nothing; aliases = aliases })) are

  -- such a line, which promises no last one
  line_passes : (text : Bytes) → has_no_lf text ≡ true → is_comment text ≡ false → word_of text ≡ word.Pass → is_left_out_feature text ≡ false → bytes_eq text (codes "feature done") ≡ false → Leads (point d wants events aliases current) text word.Pass More (after_pass text)
  line_passes text p c w kept other = record {
    plain = p;
    no_comment = c;
    word_is = w;
    stands = ap (gone_on (record { expected = d; wants_done = wants }) word.Pass) (finishes d word.Pass between refl) ∙ ap (λ t. Ok (record { expected = expected.Event; wants_done = t || wants })) (sym other);
    follows = refl;
    fits = ok_then (ensure (not (is_left_out_feature text)) LeftOut) (λ kept. Ok (passed (record { events = events; current = current; aliases = aliases }) text)) tt (Ok (passed (record { events = events; current = current; aliases = aliases }) text)) (ap (λ t. ensure (not t) LeftOut) kept) refl
        ∙ passed_is text;
  }

  -- the promise of a last line
  promise_passes : Leads (point d wants events aliases current) (codes "feature done") word.FeatureDone More (after_pass (codes "feature done"))
  promise_passes = record {
    plain = refl;
    no_comment = refl;
    word_is = refl;
    stands = ap (gone_on (record { expected = d; wants_done = wants }) word.FeatureDone) (finishes d word.FeatureDone between refl);
    follows = refl;
    fits = passed_is (codes "feature done");
  }

  -- a line that leads on, of either word
  abbrev pub PassLeads : Bytes → Type 0
  PassLeads text = (w : Word) × Leads (point d wants events aliases current) text w More (after_pass text)

  feature_passes : (rest : Bytes) → has_no_lf rest ≡ true → is_left_out_feature (codes "feature " ++ rest) ≡ false → PassLeads (codes "feature " ++ rest)
  feature_passes rest p kept = go (bytes_eq rest (codes "done")) refl
    where
      go : (t : Bool) → bytes_eq rest (codes "done") ≡ t → PassLeads (codes "feature " ++ rest)
      go true e = subst (λ (l : Bytes). PassLeads (codes "feature " ++ l)) (sym (same_text rest (codes "done") (sym e))) (word.FeatureDone, promise_passes)
      go false e = (word.Pass, line_passes (codes "feature " ++ rest) p refl (ap (λ t. cond t word.FeatureDone word.Pass) e) kept e)

  -- a feature that is kept
  abbrev is_kept_feature : Bytes → Bool
  is_kept_feature text =
      not (begins (codes "feature import-marks") text)
      && (not (begins (codes "feature date-format=") text) || begins (codes "feature date-format=raw") text && (length text == 23))

  is_kept : (text : Bytes) → is_kept_feature text ≡ true → is_left_out_feature text ≡ false
  is_kept text h =
      kept_feature text (begins (codes "feature import-marks") text) (begins (codes "feature date-format=") text) (begins (codes "feature date-format=raw") text) (length text == 23) h
      (λ b n. (bytes_eq-Decides text (codes "feature date-format=raw")).1 (whole_word (codes "feature date-format=raw") text 23 refl b n))

  pub pass_leads : (text : Bytes) → IsTrue (is_passed_line text) → PassLeads text
  pass_leads text h =
      let p = and_parts (has_no_lf text) (begins (codes "checkpoint") text && (length text == 10) || begins (codes "progress ") text || begins (codes "option ") text || begins (codes "feature ") text && not (begins (codes "feature import-marks") text) && (not (begins (codes "feature date-format=") text) || begins (codes "feature date-format=raw") text && (length text == 23))) h in
      go p.0 (begins (codes "checkpoint") text && (length text == 10)) refl (begins (codes "progress ") text) refl (begins (codes "option ") text) refl (begins (codes "feature ") text) refl p.1
    where
      go : has_no_lf text ≡ true → (a : Bool) → (begins (codes "checkpoint") text && (length text == 10)) ≡ a → (b : Bool) → begins (codes "progress ") text ≡ b → (c : Bool) → begins (codes "option ") text ≡ c → (f : Bool) → begins (codes "feature ") text ≡ f
          → (a || b || c || f && not (begins (codes "feature import-marks") text) && (not (begins (codes "feature date-format=") text) || begins (codes "feature date-format=raw") text && (length text == 23))) ≡ true → PassLeads text
      go plain true x b y c z f w k =
          let parts = and_parts (begins (codes "checkpoint") text) (length text == 10) x in
          subst PassLeads (sym (whole_word (codes "checkpoint") text 10 refl parts.0 parts.1)) (word.Pass, line_passes (codes "checkpoint") refl refl refl refl refl)
      go plain false x true y c z f w k =
          let is = begins_rest (codes "progress ") text y in
          subst PassLeads (sym is.1) (word.Pass, line_passes (codes "progress " ++ is.0) (sym (ap has_no_lf is.1) ∙ plain) refl refl refl refl)
      go plain false x false y true z f w k =
          let is = begins_rest (codes "option ") text z in
          subst PassLeads (sym is.1) (word.Pass, line_passes (codes "option " ++ is.0) (sym (ap has_no_lf is.1) ∙ plain) refl refl refl refl)
      go plain false x false y false z true w k =
          let is = begins_rest (codes "feature ") text w in
          subst PassLeads (sym is.1) (feature_passes is.0 (sym (ap has_no_lf is.1) ∙ plain) (sym (ap is_left_out_feature is.1) ∙ is_kept text k))
      go plain false x false y false z false w k = absurd cc
