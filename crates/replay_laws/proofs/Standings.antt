-- Where a stream is after a line: before the operations of a commit, or after their beginning; and where an operation
-- waits for its bytes.
use Rattle.std.proofs.Common.{◌≡◌, Bool, true, false, not, refl, sym, ap, ◌∙◌, Result, Ok, Err}
use Rattle.std.proofs.lemmas.Bool.{not-true}
use Rattle.std.specs.Prelude.{◌||◌}
use Rattle.plain_model.specs.declared.fault.Why.{Why}
use Rattle.stream_grammar.specs.declared.lines.Expected.{Expected}
use Rattle.stream_grammar.specs.declared.lines.Expected.TheVariants as expected
use Rattle.stream_grammar.specs.declared.lines.Follow.{Follow}
use Rattle.stream_grammar.specs.declared.lines.Follow.TheVariants.{Goes, Missing, Finished}
use Rattle.stream_grammar.specs.declared.lines.Standing.{Standing}
use Rattle.stream_grammar.specs.declared.lines.Word.{Word}
use Rattle.stream_grammar.specs.declared.lines.Word.TheVariants as word
use Rattle.stream_grammar.specs.Lines.{follows, begun_by, gone_on, is_required, must_go_on}

-- no merge and no operation of the event can have been read
abbrev pub is_before : Expected → Bool
is_before expected.Event = false
is_before expected.CommitMerge = false
is_before expected.CommitOperation = false
is_before expected.InlineData = false
is_before _ = true

-- the standing where a line is accepted is the one that it leads to
standing_of : (s : Standing) (r : Result Standing Why) (standing : Standing) → r ≡ Ok standing → r ≡ Ok s → s ≡ standing
standing_of s r standing h k = ap (λ (q : Result Standing Why). elim q [ Ok x ↦ x | Err why ↦ s ]) (sym k ∙ h)

-- a line that an operation waits after is its data
pub no_wait : (s standing : Standing) (w : Word) → follows expected.InlineData w ≡ Missing → gone_on s w (follows s.expected w) ≡ Ok standing → s.expected ≡ expected.InlineData → ⊥
no_wait s standing w k h e =
    let misses : gone_on s w Missing ≡ Ok standing = sym (ap (gone_on s w) (ap (λ d. follows d w) e ∙ k)) ∙ h in
    absurd cc

-- after the line of its data an operation gets them
pub data_expected : (s standing : Standing) → gone_on s word.Data (follows s.expected word.Data) ≡ Ok standing → s.expected ≡ expected.InlineData → standing.expected ≡ expected.CommitOperation
data_expected s standing h e =
    let goes : gone_on s word.Data (follows s.expected word.Data) ≡ Ok (record s { expected = expected.CommitOperation }) = ap (λ d. gone_on s word.Data (follows d word.Data)) e in
    sym (ap (λ (x : Standing). x.expected) (standing_of (record s { expected = expected.CommitOperation }) (gone_on s word.Data (follows s.expected word.Data)) standing h goes))

-- where an end may be, no operation waits
pub no_end : (s : Standing) → must_go_on s ≡ false → s.expected ≡ expected.InlineData → ⊥
no_end s h e =
    let needs : (is_required expected.InlineData || s.wants_done) ≡ false = ap (λ d. is_required d || s.wants_done) (sym e) ∙ h in
    absurd cc

-- ---- before operations

abbrev begins_event : Word → Bool
begins_event word.Blob = true
begins_event word.Commit = true
begins_event word.Tag = true
begins_event word.Reset = true
begins_event word.Alias = true
begins_event _ = false

-- what follows is after the beginning of operations
abbrev is_after : Follow → Bool
is_after (Goes d) = not (is_before d)
is_after Missing = true
is_after Finished = true

after_merge : (w : Word) → is_after (follows expected.CommitMerge w) ≡ true
after_merge word.Merge = refl
after_merge word.Operation = refl
after_merge word.InlineOperation = refl
after_merge _ = refl

after_operation : (w : Word) → is_after (follows expected.CommitOperation w) ≡ true
after_operation word.Operation = refl
after_operation word.InlineOperation = refl
after_operation _ = refl

after_inline : (w : Word) → is_after (follows expected.InlineData w) ≡ true
after_inline word.Data = refl
after_inline _ = refl

-- a line that begins no event leads to no place before operations, from after their beginning
module _ (s standing : Standing) where
  begun_after : (w : Word) → begins_event w ≡ false → begun_by s w ≡ Ok standing → is_before standing.expected ≡ false
  begun_after word.Blob b h = absurd cc
  begun_after word.Commit b h = absurd cc
  begun_after word.Tag b h = absurd cc
  begun_after word.Reset b h = absurd cc
  begun_after word.Alias b h = absurd cc
  begun_after word.Pass b h = ap (λ (x : Standing). is_before x.expected) (sym (standing_of _ (begun_by s word.Pass) standing h refl))
  begun_after word.FeatureDone b h = ap (λ (x : Standing). is_before x.expected) (sym (standing_of _ (begun_by s word.FeatureDone) standing h refl))
  begun_after word.Done b h = ap (λ (x : Standing). is_before x.expected) (sym (standing_of _ (begun_by s word.Done) standing h refl))
  begun_after word.Empty b h = ap (λ (x : Standing). is_before x.expected) (sym (standing_of _ (begun_by s word.Empty) standing h refl))
  begun_after _ b h = absurd cc

  gone_after : (w : Word) (f : Follow) → is_after f ≡ true → begins_event w ≡ false → gone_on s w f ≡ Ok standing → is_before standing.expected ≡ false
  gone_after w (Goes d) k b h = ap (λ (x : Standing). is_before x.expected) (sym (standing_of (record s { expected = d }) (gone_on s w (Goes d)) standing h refl)) ∙ not-true (is_before d) k
  gone_after w Missing k b h = absurd cc
  gone_after w Finished k b h = begun_after w b h

  no_more : (w : Word) (f : Follow) → is_after f ≡ true → begins_event w ≡ false → gone_on s w f ≡ Ok standing → is_before standing.expected ≡ true → ⊥
  no_more w f k b h e = let no = gone_after w f k b h in absurd cc

  -- what is before operations after a line was there before it
  pub still_before : (w : Word) → begins_event w ≡ false → (d : Expected) → gone_on s w (follows d w) ≡ Ok standing → is_before standing.expected ≡ true → is_before d ≡ true
  still_before w b expected.Event h e = absurd (no_more w Finished refl b h e)
  still_before w b expected.CommitMerge h e = absurd (no_more w (follows expected.CommitMerge w) (after_merge w) b h e)
  still_before w b expected.CommitOperation h e = absurd (no_more w (follows expected.CommitOperation w) (after_operation w) b h e)
  still_before w b expected.InlineData h e = absurd (no_more w (follows expected.InlineData w) (after_inline w) b h e)
  still_before w b _ h e = refl

  leads : (w : Word) (d : Expected) → gone_on s w (Goes d) ≡ Ok standing → standing.expected ≡ d
  leads w d h = sym (ap (λ (x : Standing). x.expected) (standing_of (record s { expected = d }) (gone_on s w (Goes d)) standing h refl))

  -- `from` is before merges and operations
  pub from_before : (d : Expected) → gone_on s word.From (follows d word.From) ≡ Ok standing → is_before d ≡ true
  from_before expected.Event h = absurd cc
  from_before expected.CommitMerge h = absurd cc
  from_before expected.CommitOperation h = absurd cc
  from_before expected.InlineData h = absurd cc
  from_before _ h = refl

  pub merge_expected : (d : Expected) → gone_on s word.Merge (follows d word.Merge) ≡ Ok standing → standing.expected ≡ expected.CommitMerge
  merge_expected expected.CommitFrom h = leads word.Merge expected.CommitMerge h
  merge_expected expected.CommitMerge h = leads word.Merge expected.CommitMerge h
  merge_expected _ h = absurd cc

  pub operation_expected : (d : Expected) → gone_on s word.Operation (follows d word.Operation) ≡ Ok standing → standing.expected ≡ expected.CommitOperation
  operation_expected expected.CommitFrom h = leads word.Operation expected.CommitOperation h
  operation_expected expected.CommitMerge h = leads word.Operation expected.CommitOperation h
  operation_expected expected.CommitOperation h = leads word.Operation expected.CommitOperation h
  operation_expected _ h = absurd cc

  pub inline_expected : (d : Expected) → gone_on s word.InlineOperation (follows d word.InlineOperation) ≡ Ok standing → standing.expected ≡ expected.InlineData
  inline_expected expected.CommitFrom h = leads word.InlineOperation expected.InlineData h
  inline_expected expected.CommitMerge h = leads word.InlineOperation expected.InlineData h
  inline_expected expected.CommitOperation h = leads word.InlineOperation expected.InlineData h
  inline_expected _ h = absurd cc
