-- What a stream gives within its limits has no more events, operations and aliases than these say. The blob of bytes after an
-- operation is counted at the operation's line, and is there later.
use Rattle.std.proofs.Common.{◌≡◌, ℕ, zero, suc, ◌+◌, ◌≤◌, Bool, true, false, cond, not, List, [], ◌∷◌, ◌++◌, length, Option, Some, None, Result, Ok, refl, sym, ap, subst, ◌∙◌, arith, nat_lt, length-append}
use Rattle.std.proofs.lemmas.List.{length-map}
use Rattle.std.proofs.lemmas.Bool.Decides.{nat_tests}
use Rattle.plain_model.specs.declared.fault.Which.{Which}
use Rattle.plain_model.specs.declared.fault.Which.TheVariants.{Aliases, Events, Operations, Parents}
use Rattle.plain_model.specs.declared.fault.Why.{Why}
use Rattle.plain_model.specs.declared.fault.Why.TheVariants.{RepeatedMark, LeftOut}
use Rattle.plain_model.specs.declared.limit.TheConstants.{MAX_ALIASES, MAX_EVENTS, MAX_OPERATIONS, MAX_PARENTS}
use Rattle.plain_model.specs.declared.person.Signed.{Signed}
use Rattle.plain_model.specs.declared.event.PlainEvent.{PlainEvent}
use Rattle.plain_model.specs.declared.event.PlainEvent.TheVariants as plain
use Rattle.plain_model.specs.Fields.{◌>>=◌, Extent, mark_in, name_in, person_in, extent_in}
use Rattle.plain_model.specs.Fields.Extent.{Counted, Delimited}
use Rattle.plain_model.specs.Parts.{has_no_lf}
use Rattle.plain_model.specs.Paths.{Bytes}
use Rattle.line_automaton.specs.Limits.{Cause, limited_step}
use Rattle.line_automaton.specs.Machine.{Next, Outcome, outcome, all}
use Rattle.line_automaton.specs.Machine.Next.{More, Block, Until, Over}
use Rattle.line_automaton.specs.Machine.Outcome.{Reads, Refuses, Misses}
use Rattle.stream_grammar.specs.declared.lines.Expected.{Expected}
use Rattle.stream_grammar.specs.declared.lines.Expected.TheVariants as expected
use Rattle.stream_grammar.specs.declared.lines.Standing.{Standing}
use Rattle.stream_grammar.specs.declared.lines.Word.{Word}
use Rattle.stream_grammar.specs.declared.lines.Word.TheVariants as word
use Rattle.stream_grammar.specs.Known.{Known, OpenCommit, Open, alias_marks, aliases_for, closed, closed_commit, ensure, greatest_read, history_of, is_known_mark, op_after, ref_in, with_data, with_event, with_parent}
use Rattle.stream_grammar.specs.Known.Open.{Nothing, ABlob, ACommit, ATag, AReset, AnAlias}
use Rattle.stream_grammar.specs.Limits.{event_count, if_known, known_given, limit_at, limit_if, op_count, op_limit, open_aliases, open_count, open_ops, open_parents, own_want, exceeded, stream_of, stream_within, tree_limit, want_of}
use Rattle.stream_grammar.specs.Limits.{known_aliases}
use Rattle.stream_grammar.specs.Lines.{State, aliased, begun_with, after_word, changed, commit_on, data_arrived, follows, is_inline_expected, is_left_out_feature, judged, line_step, must_go_on, next_by, next_of, passed, stream, text_of, with_commit, with_from, with_mark, with_operation, with_tagger, word_of}
use Rattle.field_laws.proofs.FieldSteps.{bind_ok, same_Ok}
use Rattle.soundness_laws.proofs.Carried.{IsAfter, carried}
use Rattle.soundness_laws.proofs.LinesKept.{GoesWith, goes_ok, start_ok}
use Rattle.plain_model.specs.Lookups.{alias_count}
use Rattle.history_laws.specs.Counts.{ops_in, ops_in_event}
use Rattle.history_laws.specs.Placed.{ArePlaced}
use Rattle.soundness_laws.proofs.MarkSums.{late, late_all, late_less, late_step, weigh}
use Rattle.soundness_laws.proofs.Marking.{history_is, marked_event, marked_events}
use Rattle.soundness_laws.proofs.SoFar.{are_placed}
use Rattle.soundness_laws.proofs.Steps.{stepped_by}
use Rattle.soundness_laws.proofs.StreamKept.{known_so_far, not_spent}

-- ---- lists of events

ops_more : (events : List PlainEvent) (e : PlainEvent) → ops_in (with_event events e) ≡ ops_in events + ops_in_event e
ops_more [] e = omega arith
ops_more (x ∷ events) e = let more = ops_more events e in omega arith

length_more : (events : List PlainEvent) (e : PlainEvent) → length (with_event events e) ≡ length events + 1
length_more events e = length-append events (e ∷ [])

-- so many events, operations and aliases are within the limits
pub record AreWithin (events : List PlainEvent) (aliases : List (ℕ × ℕ)) : Type 0 where
  pub few : length events ≤ MAX_EVENTS
  pub few_ops : ops_in events ≤ MAX_OPERATIONS
  pub few_aliases : length aliases ≤ MAX_ALIASES

-- ---- what is known

-- with so many events that are still to come
record IsWithin (more : ℕ) (k : Known) : Type 0 where
  few : event_count k + more ≤ MAX_EVENTS
  few_ops : op_count k ≤ MAX_OPERATIONS
  few_aliases : known_aliases k ≤ MAX_ALIASES

-- what is closed has no more events and operations than were counted
closed_commit_count : (events : List PlainEvent) (c : OpenCommit) (committer : Option Signed) → (length (closed_commit events c committer) ≤ length events + 1) × (ops_in (closed_commit events c committer) ≤ ops_in events + length c.ops)
closed_commit_count events c None = (omega arith, omega arith)
closed_commit_count events c (Some who) = go (plain.Commit _ c.mark c.branch _ who c.encoding c.comment c.parents c.ops []) refl
  where
    go : (e : PlainEvent) → ops_in_event e ≡ length c.ops → (length (with_event events e) ≤ length events + 1) × (ops_in (with_event events e) ≤ ops_in events + length c.ops)
    go e is = let more = length_more events e in let ops = ops_more events e in (omega arith, omega arith)

closed_count : (events : List PlainEvent) (o : Open) (aliases : List (ℕ × ℕ)) → (length (closed (record { events = events; current = o; aliases = aliases })) ≤ length events + open_count o)
    × (ops_in (closed (record { events = events; current = o; aliases = aliases })) ≤ ops_in events + open_ops o)
closed_count events Nothing aliases = (omega arith, omega arith)
closed_count events (ABlob mark) aliases = (omega arith, omega arith)
closed_count events (ACommit c) aliases = closed_commit_count events c c.committer
closed_count events (ATag name target tagger mark) aliases = (omega arith, omega arith)
closed_count events (AReset branch target) aliases = (
  let more = length_more events (plain.Reset (length events + 1) branch target) in omega arith,
  let more = ops_more events (plain.Reset (length events + 1) branch target) in omega arith,
)
closed_count events (AnAlias mark) aliases = (omega arith, omega arith)

closed_within : (more : ℕ) (k : Known) → IsWithin more k → AreWithin (closed k) k.aliases
closed_within more k h =
    let count = closed_count k.events k.current k.aliases in
    let one = count.0 in
    let two = count.1 in
    let few = h.few in
    let ops = h.few_ops in
    let aliases = h.few_aliases in
    record { few = omega arith; few_ops = omega arith; few_aliases = omega arith }

-- fewer to come
within_less : (a b : ℕ) (k : Known) → b ≤ a → IsWithin a k → IsWithin b k
within_less a b k less h = let few = h.few in record { few = omega arith; few_ops = h.few_ops; few_aliases = h.few_aliases }

-- ---- changes of the event that is being read

-- a change of it that leaves the counts
abbrev KeepsCounts : (Open → Open) → Type 0
KeepsCounts change = (o : Open) → (open_count (change o) ≡ open_count o) × (open_ops (change o) ≡ open_ops o) × (open_aliases (change o) ≡ open_aliases o)

mark_counts : (mark : ℕ) → KeepsCounts (with_mark mark)
mark_counts mark (ABlob m) = (refl, refl, refl)
mark_counts mark (ACommit c) = (refl, refl, refl)
mark_counts mark Nothing = (refl, refl, refl)
mark_counts mark (ATag name target tagger m) = (refl, refl, refl)
mark_counts mark (AReset branch target) = (refl, refl, refl)
mark_counts mark (AnAlias m) = (refl, refl, refl)

commit_counts : (change : OpenCommit → OpenCommit) → ((c : OpenCommit) → (change c).ops ≡ c.ops) → KeepsCounts (with_commit change)
commit_counts change same (ACommit c) = (refl, ap length (same c), refl)
commit_counts change same (ABlob m) = (refl, refl, refl)
commit_counts change same Nothing = (refl, refl, refl)
commit_counts change same (ATag name target tagger mark) = (refl, refl, refl)
commit_counts change same (AReset branch target) = (refl, refl, refl)
commit_counts change same (AnAlias mark) = (refl, refl, refl)

from_counts : (commit : ℕ) → KeepsCounts (with_from commit)
from_counts commit (ACommit c) = (refl, refl, refl)
from_counts commit (ABlob m) = (refl, refl, refl)
from_counts commit Nothing = (refl, refl, refl)
from_counts commit (ATag name target tagger mark) = (refl, refl, refl)
from_counts commit (AReset branch target) = (refl, refl, refl)
from_counts commit (AnAlias mark) = (refl, refl, refl)

tagger_counts : (who : Signed) → KeepsCounts (with_tagger who)
tagger_counts who (ACommit c) = (refl, refl, refl)
tagger_counts who (ABlob m) = (refl, refl, refl)
tagger_counts who Nothing = (refl, refl, refl)
tagger_counts who (ATag name target tagger mark) = (refl, refl, refl)
tagger_counts who (AReset branch target) = (refl, refl, refl)
tagger_counts who (AnAlias mark) = (refl, refl, refl)

changed_within : (more : ℕ) (k : Known) (change : Open → Open) → KeepsCounts change → IsWithin more k → IsWithin more (changed k change)
changed_within more k change keeps h =
    let same = keeps k.current in
    let one = same.0 in
    let two = same.1 in
    let three = same.2 in
    let few = h.few in
    let ops = h.few_ops in
    let aliases = h.few_aliases in
    record { few = omega arith; few_ops = omega arith; few_aliases = omega arith }

-- ---- limits

not_passed : (most count : ℕ) (which : Which) (other : Option Which) → limit_if most count which other ≡ None → (count ≤ most) × (other ≡ None)
not_passed most count which other h = go (nat_lt most count) refl h
  where
    go : (b : Bool) → nat_lt most count ≡ b → cond b (Some which) other ≡ None → (count ≤ most) × (other ≡ None)
    go true is h = absurd cc
    go false is h = (grind (arith, nat_tests), h)

-- ---- where a stream is

-- an event that was counted is to come: the blob of the bytes that are expected
abbrev owed : Expected → ℕ
owed expected.InlineData = 1
owed _ = 0

-- the same while these bytes come
abbrev coming : Expected → ℕ
coming expected.CommitOperation = 1
coming _ = 0

abbrev IsPaid : Expected → Type 0
IsPaid expected.InlineData = ⊥
IsPaid _ = Unit {0}

paid : (d : Expected) → IsPaid d → owed d ≡ 0
paid expected.InlineData h = absurd h
paid _ h = refl

-- after a line of data the bytes of an operation come only if they were expected
abbrev IsDataAfter : Expected → Expected → Type 0
IsDataAfter expected.InlineData expected.InlineData = ⊥
IsDataAfter expected.InlineData old = ⊥
IsDataAfter expected.CommitOperation expected.InlineData = Unit {0}
IsDataAfter expected.CommitOperation old = ⊥
IsDataAfter new old = Unit {0}

data_goes : (d : Expected) → GoesWith (λ new. IsDataAfter new d) (follows d word.Data)
data_goes expected.Event = tt
data_goes _ = tt

data_owed : (new old : Expected) → IsDataAfter new old → (coming new ≤ owed old) × IsPaid new
data_owed expected.InlineData expected.InlineData h = absurd h
data_owed expected.InlineData _ h = absurd h
data_owed expected.CommitOperation expected.InlineData h = (omega arith, tt)
data_owed expected.CommitOperation _ h = absurd h
data_owed _ old h = (omega arith, tt)

-- ---- lines, by their words

-- what holds after a line
abbrev AfterLine : Next → Expected → Known → Type 0
AfterLine More d k = IsWithin (owed d) k
AfterLine (Block n) d k = IsWithin (coming d) k × IsPaid d
AfterLine (Until n) d k = IsWithin (coming d) k × IsPaid d
AfterLine Over d k = AreWithin (closed k) k.aliases

more_after : (d : Expected) (k : Known) (next : Next) → IsWithin (owed d) k → ◌≡◌ {A = Result Next Why} (Ok More) (Ok next) → AfterLine next d k
more_after d k next h e = subst (λ (n : Next). AfterLine n d k) (same_Ok More next e) h

-- after a line that begins or ends an event
after_start : (t new : Standing) (k : Known) (next : Next) → ◌≡◌ {A = Result Standing Why} (Ok t) (Ok new) → IsWithin (owed t.expected) k → ◌≡◌ {A = Result Next Why} (Ok More) (Ok next) → AfterLine next new.expected k
after_start t new k next e h f = subst (λ (q : Standing). AfterLine next q.expected k) (same_Ok t new e) (more_after t.expected k next h f)

-- after a line in an event
after_inside : (a : ℕ) (d : Expected) (k : Known) (next : Next) → IsPaid d → IsWithin a k → ◌≡◌ {A = Result Next Why} (Ok More) (Ok next) → AfterLine next d k
after_inside a d k next free h f = more_after d k next (let none = paid d free in within_less a (owed d) k (omega arith) h) f

begun_within : (more : ℕ) (k : Known) (o : Open) → IsWithin more k → (open_ops o ≡ 0) × (open_aliases o ≡ 0) → limit_if MAX_EVENTS (event_count (begun_with k o)) Events None ≡ None → IsWithin 0 (begun_with k o)
begun_within more k o h none limit =
    let few = (not_passed MAX_EVENTS (event_count (begun_with k o)) Events None limit).0 in
    let before = closed_within more k h in
    let ops = before.few_ops in
    let aliases = before.few_aliases in
    let no_ops = none.0 in
    let no_aliases = none.1 in
    record { few = omega arith; few_ops = omega arith; few_aliases = omega arith }

alias_within : (more : ℕ) (k : Known) → IsWithin more k → limit_if MAX_ALIASES (known_aliases (begun_with k (AnAlias 0))) Aliases None ≡ None → IsWithin 0 (begun_with k (AnAlias 0))
alias_within more k h limit =
    let aliases = (not_passed MAX_ALIASES (known_aliases (begun_with k (AnAlias 0))) Aliases None limit).0 in
    let before = closed_within more k h in
    let few = before.few in
    let ops = before.few_ops in
    record { few = omega arith; few_ops = omega arith; few_aliases = omega arith }

passed_within : (more : ℕ) (k : Known) (line : Bytes) → IsWithin more k → limit_if MAX_EVENTS (event_count (passed k line)) Events None ≡ None → IsWithin 0 (passed k line)
passed_within more k line h limit =
    let few = (not_passed MAX_EVENTS (event_count (passed k line)) Events None limit).0 in
    let before = closed_within more k h in
    let ops = before.few_ops in
    let aliases = before.few_aliases in
    let same = ops_more (closed k) (plain.Pass (length (closed k) + 1) line) in
    record { few = omega arith; few_ops = omega arith; few_aliases = omega arith }

module _ (line : Bytes) where
  abbrev Keeps : Word → Type 0
  Keeps w = (s new : Standing) (k after : Known) (next : Next) → IsWithin (owed s.expected) k → after_word s w ≡ Ok new → next_of w line ≡ Ok next → judged w line k ≡ Ok after → limit_at w after ≡ None → AfterLine next new.expected after

  keeps_blob : Keeps word.Blob
  keeps_blob s new k after next h e f g limit =
      let st = start_ok word.Blob s new refl e in
      let same : begun_with k (ABlob 0) ≡ after = same_Ok (begun_with k (ABlob 0)) after g in
      after_start (record s { expected = expected.BlobMark }) new after next st.1
      (subst (IsWithin 0) same (begun_within (owed s.expected) k (ABlob 0) h (refl, refl) (subst (λ (q : Known). limit_at word.Blob q ≡ None) (sym same) limit))) f

  keeps_commit : Keeps word.Commit
  keeps_commit s new k after next h e f g limit =
      let st = start_ok word.Commit s new refl e in
      let x = bind_ok (name_in (text_of line)) (λ branch. Ok (begun_with k (commit_on k branch))) after g in
      let same : begun_with k (commit_on k x.0) ≡ after = same_Ok (begun_with k (commit_on k x.0)) after x.2 in
      after_start (record s { expected = expected.CommitMark }) new after next st.1
      (subst (IsWithin 0) same (begun_within (owed s.expected) k (commit_on k x.0) h (refl, refl) (subst (λ (q : Known). limit_at word.Commit q ≡ None) (sym same) limit))) f

  keeps_tag : Keeps word.Tag
  keeps_tag s new k after next h e f g limit =
      let st = start_ok word.Tag s new refl e in
      let x = bind_ok (name_in (text_of line)) (λ name. Ok (begun_with k (ATag name 0 None None))) after g in
      let same : begun_with k (ATag x.0 0 None None) ≡ after = same_Ok (begun_with k (ATag x.0 0 None None)) after x.2 in
      after_start (record s { expected = expected.TagMark }) new after next st.1
      (subst (IsWithin 0) same (begun_within (owed s.expected) k (ATag x.0 0 None None) h (refl, refl) (subst (λ (q : Known). limit_at word.Tag q ≡ None) (sym same) limit))) f

  keeps_reset : Keeps word.Reset
  keeps_reset s new k after next h e f g limit =
      let st = start_ok word.Reset s new refl e in
      let x = bind_ok (name_in (text_of line)) (λ branch. Ok (begun_with k (AReset branch None))) after g in
      let same : begun_with k (AReset x.0 None) ≡ after = same_Ok (begun_with k (AReset x.0 None)) after x.2 in
      after_start (record s { expected = expected.ResetFrom }) new after next st.1
      (subst (IsWithin 0) same (begun_within (owed s.expected) k (AReset x.0 None) h (refl, refl) (subst (λ (q : Known). limit_at word.Reset q ≡ None) (sym same) limit))) f

  keeps_alias : Keeps word.Alias
  keeps_alias s new k after next h e f g limit =
      let st = start_ok word.Alias s new refl e in
      let same : begun_with k (AnAlias 0) ≡ after = same_Ok (begun_with k (AnAlias 0)) after g in
      after_start (record s { expected = expected.AliasMark }) new after next st.1 (subst (IsWithin 0) same (alias_within (owed s.expected) k h (subst (λ (q : Known). limit_at word.Alias q ≡ None) (sym same) limit))) f

  keeps_pass : Keeps word.Pass
  keeps_pass s new k after next h e f g limit =
      let st = start_ok word.Pass s new refl e in
      let x = bind_ok (ensure (not (is_left_out_feature line)) LeftOut) (λ kept. Ok (passed k line)) after g in
      let same : passed k line ≡ after = same_Ok (passed k line) after x.2 in
      after_start (record s { expected = expected.Event }) new after next st.1
      (subst (IsWithin 0) same (passed_within (owed s.expected) k line h (subst (λ (q : Known). limit_at word.Pass q ≡ None) (sym same) limit))) f

  keeps_feature : Keeps word.FeatureDone
  keeps_feature s new k after next h e f g limit =
      let st = start_ok word.FeatureDone s new refl e in
      let same : passed k line ≡ after = same_Ok (passed k line) after g in
      after_start (record { expected = expected.Event; wants_done = true }) new after next st.1
      (subst (IsWithin 0) same (passed_within (owed s.expected) k line h (subst (λ (q : Known). limit_at word.FeatureDone q ≡ None) (sym same) limit))) f

  keeps_empty : Keeps word.Empty
  keeps_empty s new k after next h e f g limit =
      let st = start_ok word.Empty s new refl e in
      after_start (record s { expected = expected.Event }) new after next st.1 (subst (IsWithin 0) (same_Ok k after g) (within_less (owed s.expected) 0 k (omega arith) h)) f

  keeps_done : Keeps word.Done
  keeps_done s new k after next h e f g limit =
      subst (λ (n : Next). AfterLine n new.expected after) (same_Ok Over next f) (closed_within (owed s.expected) after (subst (IsWithin (owed s.expected)) (same_Ok k after g) h))

  -- a line that changes the event and leaves the counts
  after_change : (s new : Standing) (k after : Known) (next : Next) (change : Open → Open) → KeepsCounts change → IsPaid new.expected → IsWithin (owed s.expected) k → ◌≡◌ {A = Result Known Why} (Ok (changed k change)) (Ok after)
      → ◌≡◌ {A = Result Next Why} (Ok More) (Ok next) → AfterLine next new.expected after
  after_change s new k after next change keeps free h g f =
      after_inside (owed s.expected) new.expected after next free (subst (IsWithin (owed s.expected)) (same_Ok (changed k change) after g) (changed_within (owed s.expected) k change keeps h)) f

  mark_goes : (d : Expected) → GoesWith IsPaid (follows d word.Mark)
  mark_goes expected.Event = tt
  mark_goes _ = tt

  keeps_mark : Keeps word.Mark
  keeps_mark s new k after next h e f g limit =
      let m = bind_ok (mark_in (text_of line)) (λ mark. ensure (not (is_known_mark k mark)) RepeatedMark >>= λ fresh. Ok (changed k (with_mark mark))) after g in
      let u = bind_ok (ensure (not (is_known_mark k m.0)) RepeatedMark) (λ fresh. Ok (changed k (with_mark m.0))) after m.2 in
      after_change s new k after next (with_mark m.0) (mark_counts m.0) (goes_ok IsPaid word.Mark s new (λ t x. absurd cc) e (mark_goes s.expected)) h u.2 f

  oid_goes : (d : Expected) → GoesWith IsPaid (follows d word.Oid)
  oid_goes expected.Event = tt
  oid_goes _ = tt

  keeps_oid : Keeps word.Oid
  keeps_oid s new k after next h e f g limit =
      after_change s new k after next (λ o. o) (λ o. (refl, refl, refl)) (goes_ok IsPaid word.Oid s new (λ t x. absurd cc) e (oid_goes s.expected)) h g f

  author_goes : (d : Expected) → GoesWith IsPaid (follows d word.Author)
  author_goes expected.Event = tt
  author_goes _ = tt

  keeps_author : Keeps word.Author
  keeps_author s new k after next h e f g limit =
      let p = bind_ok (person_in (text_of line)) (λ who. Ok (changed k (with_commit (λ c. record c { author = Some who })))) after g in
      after_change s new k after next (with_commit (λ c. record c { author = Some p.0 })) (commit_counts (λ c. record c { author = Some p.0 }) (λ c. refl)) (goes_ok IsPaid word.Author s new (λ t x. absurd cc) e (author_goes s.expected)) h p.2 f

  committer_goes : (d : Expected) → GoesWith IsPaid (follows d word.Committer)
  committer_goes expected.Event = tt
  committer_goes _ = tt

  keeps_committer : Keeps word.Committer
  keeps_committer s new k after next h e f g limit =
      let p = bind_ok (person_in (text_of line)) (λ who. Ok (changed k (with_commit (λ c. record c { committer = Some who })))) after g in
      after_change s new k after next (with_commit (λ c. record c { committer = Some p.0 })) (commit_counts (λ c. record c { committer = Some p.0 }) (λ c. refl)) (goes_ok IsPaid word.Committer s new (λ t x. absurd cc) e (committer_goes s.expected)) h p.2 f

  encoding_goes : (d : Expected) → GoesWith IsPaid (follows d word.Encoding)
  encoding_goes expected.Event = tt
  encoding_goes _ = tt

  keeps_encoding : Keeps word.Encoding
  keeps_encoding s new k after next h e f g limit =
      let change : OpenCommit → OpenCommit = λ (c : OpenCommit). record c { encoding = Some (text_of line) } in
      after_change s new k after next (with_commit change) (commit_counts change (λ c. refl)) (goes_ok IsPaid word.Encoding s new (λ t x. absurd cc) e (encoding_goes s.expected)) h g f

  tagger_goes : (d : Expected) → GoesWith IsPaid (follows d word.Tagger)
  tagger_goes expected.Event = tt
  tagger_goes _ = tt

  keeps_tagger : Keeps word.Tagger
  keeps_tagger s new k after next h e f g limit =
      let p = bind_ok (person_in (text_of line)) (λ who. Ok (changed k (with_tagger who))) after g in
      after_change s new k after next (with_tagger p.0) (tagger_counts p.0) (goes_ok IsPaid word.Tagger s new (λ t x. absurd cc) e (tagger_goes s.expected)) h p.2 f

  from_goes : (d : Expected) → GoesWith IsPaid (follows d word.From)
  from_goes expected.Event = tt
  from_goes _ = tt

  keeps_from : Keeps word.From
  keeps_from s new k after next h e f g limit =
      let c = bind_ok (ref_in k.events k.aliases (text_of line)) (λ commit. Ok (changed k (with_from commit))) after g in
      after_change s new k after next (with_from c.0) (from_counts c.0) (goes_ok IsPaid word.From s new (λ t x. absurd cc) e (from_goes s.expected)) h c.2 f

  to_goes : (d : Expected) → GoesWith IsPaid (follows d word.To)
  to_goes expected.Event = tt
  to_goes _ = tt

  -- an alias that is there was counted
  aliased_within : (more commit : ℕ) (events : List PlainEvent) (o : Open) (aliases : List (ℕ × ℕ)) → IsWithin more (record { events = events; current = o; aliases = aliases })
      → IsWithin more (aliased commit (record { events = events; current = o; aliases = aliases }))
  aliased_within more commit events (AnAlias zero) aliases h = h
  aliased_within more commit events (AnAlias (suc m)) aliases h = let same = length-append aliases ((suc m, commit) ∷ []) in let most = h.few_aliases in record { few = h.few; few_ops = h.few_ops; few_aliases = omega arith }
  aliased_within more commit events Nothing aliases h = h
  aliased_within more commit events (ABlob mark) aliases h = h
  aliased_within more commit events (ACommit c) aliases h = h
  aliased_within more commit events (ATag name target tagger mark) aliases h = h
  aliased_within more commit events (AReset branch target) aliases h = h

  keeps_to : Keeps word.To
  keeps_to s new k after next h e f g limit =
      let c = bind_ok (ref_in k.events k.aliases (text_of line)) (λ commit. Ok (aliased commit k)) after g in
      after_inside (owed s.expected) new.expected after next (goes_ok IsPaid word.To s new (λ t x. absurd cc) e (to_goes s.expected))
      (subst (IsWithin (owed s.expected)) (same_Ok (aliased c.0 k) after c.2) (aliased_within (owed s.expected) c.0 k.events k.current k.aliases h)) f

  merge_goes : (d : Expected) → GoesWith IsPaid (follows d word.Merge)
  merge_goes expected.Event = tt
  merge_goes _ = tt

  -- one event is read, whatever is put into the commit
  one_open : (change : OpenCommit → OpenCommit) (o : Open) → (open_count (with_commit change o) ≡ open_count o) × (open_aliases (with_commit change o) ≡ open_aliases o)
  one_open change (ACommit c) = (refl, refl)
  one_open change (ABlob m) = (refl, refl)
  one_open change Nothing = (refl, refl)
  one_open change (ATag name target tagger mark) = (refl, refl)
  one_open change (AReset branch target) = (refl, refl)
  one_open change (AnAlias mark) = (refl, refl)

  keeps_merge : Keeps word.Merge
  keeps_merge s new k after next h e f g limit =
      let c = bind_ok (ref_in k.events k.aliases (text_of line)) (λ commit. Ok (changed k (with_commit (with_parent commit)))) after g in
      let same : changed k (with_commit (with_parent c.0)) ≡ after = same_Ok (changed k (with_commit (with_parent c.0))) after c.2 in
      let ops = (not_passed MAX_OPERATIONS (op_count after) Operations (limit_if MAX_PARENTS (open_parents after.current) Parents None) limit).0 in
      let same_open = one_open (with_parent c.0) k.current in
      let one = same_open.0 in
      let two = same_open.1 in
      let few = h.few in
      let aliases = h.few_aliases in
      let within : IsWithin (owed s.expected) (changed k (with_commit (with_parent c.0))) =
      record { few = omega arith; few_ops = subst (λ (q : Known). op_count q ≤ MAX_OPERATIONS) (sym same) ops; few_aliases = omega arith } in
      after_inside (owed s.expected) new.expected after next (goes_ok IsPaid word.Merge s new (λ t x. absurd cc) e (merge_goes s.expected)) (subst (IsWithin (owed s.expected)) same within) f

  -- the limits at an operation's line
  op_within : (more a : ℕ) (k after : Known) → IsWithin a k → with_operation k line ≡ Ok after → op_limit more after ≡ None → IsWithin more after
  op_within more a k after h e limit =
      let few = not_passed MAX_EVENTS (event_count after + more) Events (limit_if MAX_OPERATIONS (op_count after) Operations (tree_limit after)) limit in
      let same = operation_aliases k.events k.current k.aliases after e in
      let aliases = h.few_aliases in
      record { few = few.0; few_ops = (not_passed MAX_OPERATIONS (op_count after) Operations (tree_limit after) few.1).0; few_aliases = omega arith }
    where
      operation_aliases : (events : List PlainEvent) (o : Open) (aliases : List (ℕ × ℕ)) (after : Known) → with_operation (record { events = events; current = o; aliases = aliases }) line ≡ Ok after → known_aliases after ≡ length aliases + open_aliases o
      operation_aliases events (ACommit c) aliases after e =
          let x = bind_ok (op_after events c line) (λ op. Ok (record { events = events; current = ACommit (record c { ops = c.ops ++ op ∷ [] }); aliases = aliases })) after e in ap known_aliases (sym (same_Ok _ after x.2))
      operation_aliases events o aliases after e = ap known_aliases (sym (same_Ok (record { events = events; current = o; aliases = aliases }) after e))

  operation_goes : (d : Expected) → GoesWith IsPaid (follows d word.Operation)
  operation_goes expected.Event = tt
  operation_goes _ = tt

  keeps_operation : Keeps word.Operation
  keeps_operation s new k after next h e f g limit =
      after_inside 0 new.expected after next (goes_ok IsPaid word.Operation s new (λ t x. absurd cc) e (operation_goes s.expected)) (op_within 0 (owed s.expected) k after h g limit) f

  owed_one : (d : Expected) → owed d ≤ 1
  owed_one expected.InlineData = omega arith
  owed_one _ = omega arith

  keeps_inline : Keeps word.InlineOperation
  keeps_inline s new k after next h e f g limit = more_after new.expected after next (within_less 1 (owed new.expected) after (owed_one new.expected) (op_within 1 (owed s.expected) k after h g limit)) f

  keeps_data : Keeps word.Data
  keeps_data s new k after next h e f g limit =
      let x = bind_ok (extent_in line) (λ extent. Ok (next_by extent)) next f in
      let left = data_owed new.expected s.expected (goes_ok (λ d. IsDataAfter d s.expected) word.Data s new (λ t x. absurd cc) e (data_goes s.expected)) in
      let within : IsWithin (coming new.expected) after = subst (IsWithin (coming new.expected)) (same_Ok k after g) (within_less (owed s.expected) (coming new.expected) k left.0 h) in
      subst (λ (n : Next). AfterLine n new.expected after) (same_Ok (next_by x.0) next x.2) (go x.0 (within, left.1))
    where
      go : (extent : Extent) → IsWithin (coming new.expected) after × IsPaid new.expected → AfterLine (next_by extent) new.expected after
      go (Counted n) h = h
      go (Delimited delimiter) h = h

  keeps_left_out : Keeps word.LeftOut
  keeps_left_out s new k after next h e f g limit = absurd cc

  keeps_other : Keeps word.Other
  keeps_other s new k after next h e f g limit = absurd (goes_ok (λ d. ⊥) word.Other s new (λ t x. absurd cc) e (never s.expected))
    where
      never : (d : Expected) → GoesWith (λ d. ⊥) (follows d word.Other)
      never expected.Event = tt
      never _ = tt

  keeps : (w : Word) → Keeps w
  keeps word.Blob = keeps_blob
  keeps word.Commit = keeps_commit
  keeps word.Tag = keeps_tag
  keeps word.Reset = keeps_reset
  keeps word.Alias = keeps_alias
  keeps word.To = keeps_to
  keeps word.Mark = keeps_mark
  keeps word.Oid = keeps_oid
  keeps word.Author = keeps_author
  keeps word.Committer = keeps_committer
  keeps word.Encoding = keeps_encoding
  keeps word.Data = keeps_data
  keeps word.From = keeps_from
  keeps word.Merge = keeps_merge
  keeps word.Tagger = keeps_tagger
  keeps word.InlineOperation = keeps_inline
  keeps word.Operation = keeps_operation
  keeps word.FeatureDone = keeps_feature
  keeps word.Pass = keeps_pass
  keeps word.Done = keeps_done
  keeps word.Empty = keeps_empty
  keeps word.LeftOut = keeps_left_out
  keeps word.Other = keeps_other

-- ---- blocks

-- what the block of data adds
data_counts : (inline : Bool) (events : List PlainEvent) (o : Open) (aliases : List (ℕ × ℕ)) (bytes : Bytes)
    → (event_count (with_data inline bytes (record { events = events; current = o; aliases = aliases })) ≤ length events + open_count o + cond inline 1 0)
    × (op_count (with_data inline bytes (record { events = events; current = o; aliases = aliases })) ≡ ops_in events + open_ops o)
    × (known_aliases (with_data inline bytes (record { events = events; current = o; aliases = aliases })) ≡ length aliases + open_aliases o)
data_counts inline events Nothing aliases bytes = (omega arith, refl, refl)
data_counts inline events (ABlob mark) aliases bytes = (
  let more = length_more events (plain.Blob (length events + 1) mark bytes) in omega arith,
  let more = ops_more events (plain.Blob (length events + 1) mark bytes) in omega arith,
  refl,
)
data_counts true events (ACommit c) aliases bytes = (
  let more = length_more events (plain.Blob (length events + 1) 0 bytes) in omega arith,
  let more = ops_more events (plain.Blob (length events + 1) 0 bytes) in omega arith,
  refl,
)
data_counts false events (ACommit c) aliases bytes = (omega arith, refl, refl)
data_counts inline events (ATag name target tagger mark) aliases bytes = (
  let more = length_more events (plain.Tag (length events + 1) name target tagger bytes mark) in omega arith,
  let more = ops_more events (plain.Tag (length events + 1) name target tagger bytes mark) in omega arith,
  refl,
)
data_counts inline events (AReset branch target) aliases bytes = (omega arith, refl, refl)
data_counts inline events (AnAlias mark) aliases bytes = (omega arith, refl, refl)

coming_inline : (d : Expected) → coming d ≡ cond (is_inline_expected d) 1 0
coming_inline expected.CommitOperation = refl
coming_inline _ = refl

arrived_within : (d : Expected) (k : Known) (bytes : Bytes) → IsWithin (coming d) k → IsPaid d → IsWithin (owed d) (with_data (is_inline_expected d) bytes k)
arrived_within d k bytes h free =
    let none = paid d free in
    let one = coming_inline d in
    let counts = data_counts (is_inline_expected d) k.events k.current k.aliases bytes in
    let events = counts.0 in
    let ops = counts.1 in
    let aliases = counts.2 in
    let few = h.few in
    let few_ops = h.few_ops in
    let few_aliases = h.few_aliases in
    record { few = omega arith; few_ops = omega arith; few_aliases = omega arith }

-- ---- the whole stream

abbrev IsReadyState : State → Type 0
IsReadyState s = IsWithin (owed s.standing.expected) s.known

abbrev IsAwaitingState : State → Type 0
IsAwaitingState s = IsWithin (coming s.standing.expected) s.known × IsPaid s.standing.expected

abbrev IsLastState : State → Type 0
IsLastState s = AreWithin (closed s.known) s.known.aliases

abbrev AfterStep : Next → State → Type 0
AfterStep next s = IsAfter IsReadyState IsAwaitingState IsLastState next s

after_step : (next : Next) (s : State) → AfterLine next s.standing.expected s.known → AfterStep next s
after_step More s h = h
after_step (Block n) s h = h
after_step (Until n) s h = h
after_step Over s h = h

stepped : (s : State) (line : Bytes) (new : State) (next : Next) → IsReadyState s → has_no_lf line ≡ true → limited_step stream exceeded line (line_step true s line) ≡ Ok (new, next) → AfterStep next new
stepped s line new next h text e =
    stepped_by (λ t n. AfterStep n t) s line new next h
    (λ step. after_step next new (keeps line (word_of line) s.standing new.standing s.known new.known next h step.stands step.follows step.means step.within)) e

arrived : (s : State) (bytes : Bytes) → IsAwaitingState s → IsReadyState (data_arrived s bytes)
arrived s bytes h = arrived_within s.standing.expected s.known bytes h.0 h.1

ends : (s : State) → IsReadyState s → must_go_on s.standing ≡ false → IsLastState s
ends s h e = closed_within (owed s.standing.expected) s.known h

start_ready : IsReadyState stream_within.start
start_ready = record { few = omega arith; few_ops = omega arith; few_aliases = omega arith }

known_within : (bytes : Bytes) (s : State) → outcome stream_within all bytes ≡ Reads s → AreWithin (closed s.known) s.known.aliases
known_within bytes s e = carried stream_within IsReadyState IsAwaitingState IsLastState stepped arrived ends start_ready bytes s e

-- ---- marks and aliases that are given at the end

module _ (aliases : List (ℕ × ℕ)) where
  marked_length : (n : ℕ) (events : List PlainEvent) → length (marked_events aliases n events) ≡ length events
  marked_length n [] = refl
  marked_length n (e ∷ events) = ap suc (marked_length (n + own_want e) events)

  marked_ops_in : (n : ℕ) (e : PlainEvent) → ops_in_event (marked_event aliases n e) ≡ ops_in_event e
  marked_ops_in n (plain.Blob id mark bytes) = refl
  marked_ops_in n (plain.Commit id mark branch author committer encoding comment parents ops old) = refl
  marked_ops_in n (plain.Tag id name target tagger comment mark) = refl
  marked_ops_in n (plain.Reset id branch target) = refl
  marked_ops_in n (plain.Pass id line) = refl

  marked_ops : (n : ℕ) (events : List PlainEvent) → ops_in (marked_events aliases n events) ≡ ops_in events
  marked_ops n [] = refl
  marked_ops n (e ∷ events) = let one = marked_ops_in n e in let more = marked_ops (n + own_want e) events in omega arith

  -- each alias is one
  lengths : (marks : List ℕ) → weigh (λ m. 1) marks ≡ length marks
  lengths [] = refl
  lengths (mark ∷ marks) = let more = lengths marks in omega arith

  marked_aliases : (n k : ℕ) (events : List PlainEvent) → ArePlaced k events → alias_count (marked_events aliases n events) ≤ late (λ m. 1) k aliases
  marked_aliases n k [] placed = omega arith
  marked_aliases n k (plain.Commit id mark branch author committer encoding comment parents ops old ∷ events) placed =
      let more = marked_aliases (n + want_of mark) (suc k) events placed.1 in
      let here = late_step (λ m. 1) k aliases in
      let own : weigh (λ m. 1) (aliases_for k aliases) ≡ length (aliases_for id aliases) = ap (λ i. weigh (λ m. 1) (aliases_for i aliases)) (sym placed.0) ∙ lengths (aliases_for id aliases) in
      omega arith
  marked_aliases n k (plain.Blob id mark bytes ∷ events) placed = let more = marked_aliases (n + want_of mark) (suc k) events placed.1 in let less = late_less (λ m. 1) k aliases in omega arith
  marked_aliases n k (plain.Tag id name target tagger comment mark ∷ events) placed = let more = marked_aliases (n + 0) (suc k) events placed.1 in let less = late_less (λ m. 1) k aliases in omega arith
  marked_aliases n k (plain.Reset id branch target ∷ events) placed = let more = marked_aliases (n + 0) (suc k) events placed.1 in let less = late_less (λ m. 1) k aliases in omega arith
  marked_aliases n k (plain.Pass id line ∷ events) placed = let more = marked_aliases (n + 0) (suc k) events placed.1 in let less = late_less (λ m. 1) k aliases in omega arith

  all_aliases : weigh (λ m. 1) (alias_marks aliases) ≡ length aliases
  all_aliases = lengths (alias_marks aliases) ∙ length-map aliases (λ a. a.0)

abbrev IsWithinLimits : List PlainEvent → Type 0
IsWithinLimits events = (length events ≤ MAX_EVENTS) × (ops_in events ≤ MAX_OPERATIONS) × (alias_count events ≤ MAX_ALIASES)

history_within : (k : Known) → ArePlaced 1 (closed k) → AreWithin (closed k) k.aliases → IsWithinLimits (history_of k)
history_within k placed h =
    let count = marked_length k.aliases (greatest_read k) (closed k) in
    let ops = marked_ops k.aliases (greatest_read k) (closed k) in
    let aliases = marked_aliases k.aliases (greatest_read k) 1 (closed k) placed in
    let fewer = late_all (λ m. 1) 1 k.aliases in
    let all = all_aliases k.aliases in
    let few = h.few in
    let few_ops = h.few_ops in
    let few_aliases = h.few_aliases in
    subst IsWithinLimits (sym (history_is k.aliases (greatest_read k) (closed k))) (omega arith, omega arith, omega arith)

-- what a stream gives
pub read_is_within : (bytes : Bytes) (events : List PlainEvent) → stream_of bytes ≡ Ok events → IsWithinLimits events
read_is_within bytes events e = go (outcome stream_within all bytes) refl e
  where
    go : (o : Outcome State (Cause Why Which)) → outcome stream_within all bytes ≡ o → if_known (known_given o) ≡ Ok events → IsWithinLimits events
    go (Reads s) is e = subst IsWithinLimits (not_spent s.known events e).1 (history_within s.known (are_placed (closed s.known) (known_so_far bytes s is).well) (known_within bytes s is))
    go (Refuses n cause) is e = absurd cc
    go (Misses n) is e = absurd cc
