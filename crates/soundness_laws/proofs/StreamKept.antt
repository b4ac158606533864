-- What a stream keeps within its limits, from its start to its end.
use Rattle.std.proofs.Common.{◌≡◌, ◌≤◌, Bool, true, false, cond, not, List, Some, None, Result, Ok, Err, refl, sym, subst, arith, nat_lt}
use Rattle.std.proofs.lemmas.Bool.{not-true, or_parts}
use Rattle.std.proofs.lemmas.Bool.Decides.{nat_tests}
use Rattle.plain_model.specs.declared.fault.Fault.{Fault}
use Rattle.plain_model.specs.declared.fault.Fault.TheVariants.{MarksSpent}
use Rattle.plain_model.specs.declared.fault.Which.{Which}
use Rattle.plain_model.specs.declared.fault.Why.{Why}
use Rattle.plain_model.specs.declared.fault.Why.TheVariants.{RepeatedMark, LeftOut}
use Rattle.plain_model.specs.declared.limit.TheConstants.{MAX_MARK}
use Rattle.plain_model.specs.declared.event.PlainEvent.{PlainEvent}
use Rattle.plain_model.specs.Fields.{◌>>=◌, mark_in, name_in, person_in}
use Rattle.plain_model.specs.Parts.{has_no_lf}
use Rattle.plain_model.specs.Paths.{Bytes}
use Rattle.line_automaton.specs.Limits.{Cause, limited_step}
use Rattle.line_automaton.specs.Machine.{Next, Outcome, outcome, all}
use Rattle.line_automaton.specs.Machine.Next.{More, Block, Until, Over}
use Rattle.line_automaton.specs.Machine.Outcome.{Reads, Refuses, Misses}
use Rattle.stream_grammar.specs.declared.lines.Expected.{Expected}
use Rattle.stream_grammar.specs.declared.lines.Expected.TheVariants as expected
use Rattle.stream_grammar.specs.declared.lines.Standing.{Standing}
use Rattle.stream_grammar.specs.declared.lines.Word.{Word}
use Rattle.stream_grammar.specs.declared.lines.Word.TheVariants as word
use Rattle.stream_grammar.specs.Known.{Known, ensure, is_known_mark, ref_in, with_parent, history_of}
use Rattle.stream_grammar.specs.Known.Open.{ABlob, ATag, AReset, AnAlias}
use Rattle.stream_grammar.specs.Limits.{limit_at, exceeded, stream_within, last_mark, unless_spent, known_given, if_known, stream_of}
use Rattle.stream_grammar.specs.Lines.{State, stream, text_of, word_of, follows, is_required, must_go_on, aliased, begun_with, commit_on, with_mark, with_commit, with_from, with_tagger, is_left_out_feature, changed, judged, passed, after_word, next_of, line_step, data_arrived}
use Rattle.field_laws.proofs.FieldSteps.{bind_ok, same_Ok}
use Rattle.field_laws.proofs.Numerals.{mark_fits}
use Rattle.round_trip_laws.specs.AsRead.{IsAsRead}
use Rattle.soundness_laws.proofs.Carried.{IsAfter, carried}
use Rattle.soundness_laws.proofs.FieldsRead.{person_fits, plain_text}
use Rattle.soundness_laws.proofs.Finished.{are_as_read}
use Rattle.soundness_laws.proofs.Kept.{AreKnown, awaiting, ready, ready_closed, arrived_ready}
use Rattle.soundness_laws.proofs.LinesKept as lines
use Rattle.soundness_laws.proofs.LinesKept.{AfterLine, GoesWith, start_ok, goes_ok, more_after, ref_fits}
use Rattle.soundness_laws.proofs.MarksOnce.{known_once}
use Rattle.soundness_laws.proofs.OpsRead.{ensured}
use Rattle.soundness_laws.proofs.Steps.{stepped_by}
use Rattle.soundness_laws.proofs.WordsRead.{passed_fits, feature_done_fits}

module _ (line : Bytes) (plain : has_no_lf line ≡ true) where
  -- what holds after a line of this word
  abbrev Keeps : Word → Type 0
  Keeps w = (s new : Standing) (k after : Known) (next : Next) → word_of line ≡ w → ready s.expected k → after_word s w ≡ Ok new → next_of w line ≡ Ok next → judged w line k ≡ Ok after
      → limit_at w after ≡ None → AfterLine next new.expected after

  -- where a word that begins an event leads
  stands_at : (s new : Standing) (d : Expected) (wants : Bool) (k : Known) (next : Next) → ◌≡◌ {A = Result Standing Why} (Ok (record { expected = d; wants_done = wants })) (Ok new) → AfterLine next d k → AfterLine next new.expected k
  stands_at s new d wants k next e h = subst (λ (t : Standing). AfterLine next t.expected k) (same_Ok (record { expected = d; wants_done = wants }) new e) h

  keeps_blob : Keeps word.Blob
  keeps_blob s new k after next is h e f g limit =
      let st = start_ok word.Blob s new refl e in
      stands_at s new expected.BlobMark s.wants_done after next st.1
      (more_after expected.BlobMark after next (subst (ready expected.BlobMark) (same_Ok (begun_with k (ABlob 0)) after g) (lines.blob_begun line plain k (ready_closed s.expected k h st.0))) f)

  keeps_commit : Keeps word.Commit
  keeps_commit s new k after next is h e f g limit =
      let st = start_ok word.Commit s new refl e in
      let x = bind_ok (name_in (text_of line)) (λ branch. Ok (begun_with k (commit_on k branch))) after g in
      stands_at s new expected.CommitMark s.wants_done after next st.1
      (more_after expected.CommitMark after next (subst (ready expected.CommitMark) (same_Ok (begun_with k (commit_on k x.0)) after x.2) (lines.commit_ready line plain k x.0 (ready_closed s.expected k h st.0) x.1)) f)

  keeps_tag : Keeps word.Tag
  keeps_tag s new k after next is h e f g limit =
      let st = start_ok word.Tag s new refl e in
      let x = bind_ok (name_in (text_of line)) (λ name. Ok (begun_with k (ATag name 0 None None))) after g in
      stands_at s new expected.TagMark s.wants_done after next st.1
      (more_after expected.TagMark after next (subst (ready expected.TagMark) (same_Ok (begun_with k (ATag x.0 0 None None)) after x.2) (lines.tag_ready line plain k x.0 (ready_closed s.expected k h st.0) x.1)) f)

  keeps_reset : Keeps word.Reset
  keeps_reset s new k after next is h e f g limit =
      let st = start_ok word.Reset s new refl e in
      let x = bind_ok (name_in (text_of line)) (λ branch. Ok (begun_with k (AReset branch None))) after g in
      stands_at s new expected.ResetFrom s.wants_done after next st.1
      (more_after expected.ResetFrom after next (subst (ready expected.ResetFrom) (same_Ok (begun_with k (AReset x.0 None)) after x.2) (lines.reset_ready line plain k x.0 (ready_closed s.expected k h st.0) x.1)) f)

  keeps_alias : Keeps word.Alias
  keeps_alias s new k after next is h e f g limit =
      let st = start_ok word.Alias s new refl e in
      stands_at s new expected.AliasMark s.wants_done after next st.1
      (more_after expected.AliasMark after next (subst (ready expected.AliasMark) (same_Ok (begun_with k (AnAlias 0)) after g) (lines.alias_begun line plain k (ready_closed s.expected k h st.0))) f)

  keeps_pass : Keeps word.Pass
  keeps_pass s new k after next is h e f g limit =
      let st = start_ok word.Pass s new refl e in
      let x = bind_ok (ensure (not (is_left_out_feature line)) LeftOut) (λ kept. Ok (passed k line)) after g in
      let fits = passed_fits line plain is (not-true (is_left_out_feature line) (ensured (not (is_left_out_feature line)) LeftOut x.0 x.1)) in
      stands_at s new expected.Event s.wants_done after next st.1
      (more_after expected.Event after next (subst (ready expected.Event) (same_Ok (passed k line) after x.2) (lines.pass_ready line plain k (ready_closed s.expected k h st.0) fits)) f)

  keeps_feature : Keeps word.FeatureDone
  keeps_feature s new k after next is h e f g limit =
      let st = start_ok word.FeatureDone s new refl e in
      stands_at s new expected.Event true after next st.1
      (more_after expected.Event after next (subst (ready expected.Event) (same_Ok (passed k line) after g) (lines.pass_ready line plain k (ready_closed s.expected k h st.0) (feature_done_fits line is))) f)

  keeps_empty : Keeps word.Empty
  keeps_empty s new k after next is h e f g limit =
      let st = start_ok word.Empty s new refl e in
      stands_at s new expected.Event s.wants_done after next st.1
      (more_after expected.Event after next (subst (ready expected.Event) (same_Ok k after g) (lines.empty_ready line plain k s.expected h st.0)) f)

  keeps_done : Keeps word.Done
  keeps_done s new k after next is h e f g limit =
      let st = start_ok word.Done s new refl e in
      subst (λ (n : Next). AfterLine n new.expected after) (same_Ok Over next f) (subst AreKnown (same_Ok k after g) (ready_closed s.expected k h st.0))

  keeps_mark : Keeps word.Mark
  keeps_mark s new k after next is h e f g limit =
      let m = bind_ok (mark_in (text_of line)) (λ mark. ensure (not (is_known_mark k mark)) RepeatedMark >>= λ fresh. Ok (changed k (with_mark mark))) after g in
      let u = bind_ok (ensure (not (is_known_mark k m.0)) RepeatedMark) (λ fresh. Ok (changed k (with_mark m.0))) after m.2 in
      more_after new.expected after next
      (subst (ready new.expected) (same_Ok (changed k (with_mark m.0)) after u.2)
      (goes_ok (λ d. ready d (changed k (with_mark m.0))) word.Mark s new (λ t x. absurd cc) e (lines.mark_line line plain k m.0 (mark_fits (text_of line) m.0 m.1) s.expected h))) f

  keeps_oid : Keeps word.Oid
  keeps_oid s new k after next is h e f g limit =
      more_after new.expected after next
      (subst (ready new.expected) (same_Ok k after g) (goes_ok (λ d. ready d k) word.Oid s new (λ t x. absurd cc) e (lines.oid_line line plain k s.expected h))) f

  keeps_author : Keeps word.Author
  keeps_author s new k after next is h e f g limit =
      let p = bind_ok (person_in (text_of line)) (λ who. Ok (changed k (with_commit (λ c. record c { author = Some who })))) after g in
      more_after new.expected after next
      (subst (ready new.expected) (same_Ok (changed k (with_commit (λ c. record c { author = Some p.0 }))) after p.2)
      (goes_ok (λ d. ready d (changed k (with_commit (λ c. record c { author = Some p.0 })))) word.Author s new (λ t x. absurd cc) e
      (lines.author_line line plain k p.0 (person_fits (text_of line) p.0 (plain_text line plain) p.1) s.expected h))) f

  keeps_committer : Keeps word.Committer
  keeps_committer s new k after next is h e f g limit =
      let p = bind_ok (person_in (text_of line)) (λ who. Ok (changed k (with_commit (λ c. record c { committer = Some who })))) after g in
      more_after new.expected after next
      (subst (ready new.expected) (same_Ok (changed k (with_commit (λ c. record c { committer = Some p.0 }))) after p.2)
      (goes_ok (λ d. ready d (changed k (with_commit (λ c. record c { committer = Some p.0 })))) word.Committer s new (λ t x. absurd cc) e
      (lines.committer_line line plain k p.0 (person_fits (text_of line) p.0 (plain_text line plain) p.1) s.expected h))) f

  keeps_encoding : Keeps word.Encoding
  keeps_encoding s new k after next is h e f g limit =
      more_after new.expected after next
      (subst (ready new.expected) (same_Ok (changed k (with_commit (λ c. record c { encoding = Some (text_of line) }))) after g)
      (goes_ok (λ d. ready d (changed k (with_commit (λ c. record c { encoding = Some (text_of line) })))) word.Encoding s new (λ t x. absurd cc) e (lines.encoding_line line plain k s.expected h))) f

  keeps_tagger : Keeps word.Tagger
  keeps_tagger s new k after next is h e f g limit =
      let p = bind_ok (person_in (text_of line)) (λ who. Ok (changed k (with_tagger who))) after g in
      more_after new.expected after next
      (subst (ready new.expected) (same_Ok (changed k (with_tagger p.0)) after p.2)
      (goes_ok (λ d. ready d (changed k (with_tagger p.0))) word.Tagger s new (λ t x. absurd cc) e (lines.tagger_line line plain k p.0 (person_fits (text_of line) p.0 (plain_text line plain) p.1) s.expected h))) f

  keeps_from : Keeps word.From
  keeps_from s new k after next is h e f g limit =
      let c = bind_ok (ref_in k.events k.aliases (text_of line)) (λ commit. Ok (changed k (with_from commit))) after g in
      more_after new.expected after next
      (subst (ready new.expected) (same_Ok (changed k (with_from c.0)) after c.2)
      (goes_ok (λ d. ready d (changed k (with_from c.0))) word.From s new (λ t x. absurd cc) e (lines.from_line line plain k c.0 (ref_fits k.events k.aliases h.so_far (text_of line) c.0 c.1) s.expected h))) f

  keeps_to : Keeps word.To
  keeps_to s new k after next is h e f g limit =
      let c = bind_ok (ref_in k.events k.aliases (text_of line)) (λ commit. Ok (aliased commit k)) after g in
      more_after new.expected after next
      (subst (ready new.expected) (same_Ok (aliased c.0 k) after c.2)
      (goes_ok (λ d. ready d (aliased c.0 k)) word.To s new (λ t x. absurd cc) e (lines.to_line line plain k c.0 (ref_fits k.events k.aliases h.so_far (text_of line) c.0 c.1) s.expected h))) f

  keeps_merge : Keeps word.Merge
  keeps_merge s new k after next is h e f g limit =
      let c = bind_ok (ref_in k.events k.aliases (text_of line)) (λ commit. Ok (changed k (with_commit (with_parent commit)))) after g in
      let same : changed k (with_commit (with_parent c.0)) ≡ after = same_Ok (changed k (with_commit (with_parent c.0))) after c.2 in
      more_after new.expected after next
      (subst (ready new.expected) same
      (goes_ok (λ d. ready d (changed k (with_commit (with_parent c.0)))) word.Merge s new (λ t x. absurd cc) e
      (lines.merge_line line plain k c.0 (ref_fits k.events k.aliases h.so_far (text_of line) c.0 c.1) (subst (λ (q : Known). limit_at word.Merge q ≡ None) (sym same) limit) s.expected h))) f

  keeps_operation : Keeps word.Operation
  keeps_operation s new k after next is h e f g limit =
      more_after new.expected after next (goes_ok (λ d. ready d after) word.Operation s new (λ t x. absurd cc) e (lines.operation_line line plain k is after g limit s.expected h)) f

  keeps_inline : Keeps word.InlineOperation
  keeps_inline s new k after next is h e f g limit =
      more_after new.expected after next (goes_ok (λ d. ready d after) word.InlineOperation s new (λ t x. absurd cc) e (lines.inline_line line plain k after g limit s.expected h)) f

  keeps_data : Keeps word.Data
  keeps_data s new k after next is h e f g limit =
      subst (λ (q : Known). AfterLine next new.expected q) (same_Ok k after g)
      (lines.data_after line plain k new.expected next (goes_ok (λ d. awaiting d k) word.Data s new (λ t x. absurd cc) e (lines.data_line line plain k s.expected h)) f)

  keeps_left_out : Keeps word.LeftOut
  keeps_left_out s new k after next is h e f g limit = absurd cc

  keeps_other : Keeps word.Other
  keeps_other s new k after next is h e f g limit = absurd (goes_ok (λ d. ⊥) word.Other s new (λ t x. absurd cc) e (never s.expected))
    where
      never : (d : Expected) → GoesWith (λ d. ⊥) (follows d word.Other)
      never expected.Event = tt
      never _ = tt

  keeps : (w : Word) → Keeps w
  keeps word.Blob = keeps_blob
  keeps word.Commit = keeps_commit
  keeps word.Tag = keeps_tag
  keeps word.Reset = keeps_reset
  keeps word.Alias = keeps_alias
  keeps word.To = keeps_to
  keeps word.Mark = keeps_mark
  keeps word.Oid = keeps_oid
  keeps word.Author = keeps_author
  keeps word.Committer = keeps_committer
  keeps word.Encoding = keeps_encoding
  keeps word.Data = keeps_data
  keeps word.From = keeps_from
  keeps word.Merge = keeps_merge
  keeps word.Tagger = keeps_tagger
  keeps word.InlineOperation = keeps_inline
  keeps word.Operation = keeps_operation
  keeps word.FeatureDone = keeps_feature
  keeps word.Pass = keeps_pass
  keeps word.Done = keeps_done
  keeps word.Empty = keeps_empty
  keeps word.LeftOut = keeps_left_out
  keeps word.Other = keeps_other

-- ---- the whole stream

abbrev IsReadyState : State → Type 0
IsReadyState s = ready s.standing.expected s.known

abbrev IsAwaitingState : State → Type 0
IsAwaitingState s = awaiting s.standing.expected s.known

abbrev IsLastState : State → Type 0
IsLastState s = AreKnown s.known

abbrev AfterStep : Next → State → Type 0
AfterStep next s = IsAfter IsReadyState IsAwaitingState IsLastState next s

after_step : (next : Next) (s : State) → AfterLine next s.standing.expected s.known → AfterStep next s
after_step More s h = h
after_step (Block n) s h = h
after_step (Until n) s h = h
after_step Over s h = h

stepped : (s : State) (line : Bytes) (new : State) (next : Next) → IsReadyState s → has_no_lf line ≡ true → limited_step stream exceeded line (line_step true s line) ≡ Ok (new, next) → AfterStep next new
stepped s line new next h plain e =
    stepped_by (λ t n. AfterStep n t) s line new next h
    (λ step. after_step next new (keeps line plain (word_of line) s.standing new.standing s.known new.known next refl h step.stands step.follows step.means step.within)) e

arrived : (s : State) (bytes : Bytes) → IsAwaitingState s → IsReadyState (data_arrived s bytes)
arrived s bytes h = arrived_ready s.standing.expected s.known bytes h

ends : (s : State) → IsReadyState s → must_go_on s.standing ≡ false → IsLastState s
ends s h e = ready_closed s.standing.expected s.known h (or_parts (is_required s.standing.expected) s.standing.wants_done e).0

start_ready : IsReadyState stream_within.start
start_ready = record { so_far = record { well = tt; aliased = tt }; current = tt; needs = tt }

-- what is known of a stream that is read within its limits
pub known_so_far : (bytes : Bytes) (s : State) → outcome stream_within all bytes ≡ Reads s → AreKnown s.known
known_so_far bytes s e = carried stream_within IsReadyState IsAwaitingState IsLastState stepped arrived ends start_ready bytes s e

-- ---- what a stream gives

pub not_spent : (k : Known) (events : List PlainEvent) → unless_spent k ≡ Ok events → (last_mark k ≤ MAX_MARK) × (history_of k ≡ events)
not_spent k events e = go (nat_lt MAX_MARK (last_mark k)) refl e
  where
    go : (b : Bool) → nat_lt MAX_MARK (last_mark k) ≡ b → ◌≡◌ {A = Result (List PlainEvent) Fault} (cond b (Err MarksSpent) (Ok (history_of k))) (Ok events) → (last_mark k ≤ MAX_MARK) × (history_of k ≡ events)
    go true is e = absurd cc
    go false is e = (grind (arith, nat_tests), cc)

pub read_is_sound : (bytes : Bytes) (events : List PlainEvent) → stream_of bytes ≡ Ok events → IsAsRead events
read_is_sound bytes events e = go (outcome stream_within all bytes) refl e
  where
    go : (o : Outcome State (Cause Why Which)) → outcome stream_within all bytes ≡ o → if_known (known_given o) ≡ Ok events → IsAsRead events
    go (Reads s) is e =
        let whole = not_spent s.known events e in
        subst IsAsRead whole.1 (are_as_read s.known (known_so_far bytes s is) (known_once bytes s is) whole.0)
    go (Refuses n cause) is e = absurd cc
    go (Misses n) is e = absurd cc
