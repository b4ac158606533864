-- The line of an operation is read alike with look-ups and without.
use Rattle.std.proofs.Common.{◌≡◌, ℕ, Bool, true, false, cond, List, [], refl, sym, ap, subst, ◌∙◌, Option, Some, None, Result, Ok, Err}
use Rattle.std.specs.Prelude.{◌&&◌, ◌||◌, codes, bytes_eq, option_map}
use Rattle.std.proofs.lemmas.Bool.{cond-false}
use Rattle.std.proofs.lemmas.Slice.Eq.{bytes_eq-Decides}
use Rattle.plain_model.specs.declared.fault.Why.{Why}
use Rattle.plain_model.specs.declared.fault.Why.TheVariants.{BadMark, BadMode, BadPath, UnknownMark, UnknownLine, MissingSource, LeftOut}
use Rattle.plain_model.specs.declared.operation.Mode.{Mode}
use Rattle.plain_model.specs.declared.operation.Mode.TheVariants.{Plain, Executable, Link, Gitlink}
use Rattle.plain_model.specs.declared.operation.Content.{Content}
use Rattle.plain_model.specs.declared.operation.Content.TheVariants.{Blob as OfBlob, Object as OfObject}
use Rattle.plain_model.specs.declared.operation.FileOp.{FileOp}
use Rattle.plain_model.specs.declared.operation.FileOp.TheVariants.{Modify, Delete, Copy, Rename, DeleteAll}
use Rattle.plain_model.specs.declared.raw.Place.TheVariants.{Source}
use Rattle.plain_model.specs.declared.raw.RawContent.{RawContent}
use Rattle.plain_model.specs.declared.raw.RawContent.TheVariants.{Marked, Object, Inline}
use Rattle.plain_model.specs.declared.raw.RawOp.{RawOp}
use Rattle.plain_model.specs.declared.raw.RawOp.TheVariants as rawop
use Rattle.plain_model.specs.declared.event.PlainEvent.{PlainEvent}
use Rattle.plain_model.specs.Fields.{◌>>=◌, or_defect, first_word, after_space, mark_in, path_in, last_path_in, mode_in, content_in, modify_in, paths_in, op_in, marked_content, inline_content, is_left_out_id, is_left_out_word}
use Rattle.plain_model.specs.Objects.{as_object}
use Rattle.plain_model.specs.Parts.{begins}
use Rattle.plain_model.specs.Paths.{Bytes}
use Rattle.plain_model.specs.Streams.{blob_marked}
use Rattle.plain_model.specs.Trees.{Tree}
use Rattle.stream_grammar.specs.declared.lines.Word.{Word}
use Rattle.stream_grammar.specs.declared.lines.Word.TheVariants as word
use Rattle.stream_grammar.specs.Known.{OpenCommit, next_id, ensure, placed, tree_now, has_source, modify_after, paths_after, op_after}
use Rattle.stream_grammar.specs.Lines.{text_of, is_inline, is_operation, has_text, word_of}
use Rattle.field_laws.proofs.FieldSteps.{bind_ok, or_defect_is, same_Ok}

-- ---- what is read without a defect

-- the next field after it
pub bind_to : {A B : Type 0} (r : Result A Why) (f : A → Result B Why) {x : A} {y : Result B Why} → r ≡ Ok x → f x ≡ y → (r >>= f) ≡ y
bind_to r f e h = ap (λ q. q >>= f) e ∙ h

-- ---- an operation and its line

-- an operation of a history goes with one that is spelled
abbrev pub GoesWith : List PlainEvent → RawOp → FileOp → Type 0
GoesWith events (rawop.Modify mode (Marked mark) path) op = (b : ℕ) × (blob_marked events mark ≡ Some b) × (op ≡ Modify mode (OfBlob b) path)
GoesWith events (rawop.Modify mode (Object digits) path) op = op ≡ Modify mode (OfObject digits) path
GoesWith events (rawop.Modify mode Inline path) op = op ≡ Modify mode (OfBlob (next_id events)) path
GoesWith events (rawop.Delete path) op = op ≡ Delete path
GoesWith events (rawop.Copy source target) op = op ≡ Copy source target
GoesWith events (rawop.Rename source target) op = op ≡ Rename source target
GoesWith events rawop.DeleteAll op = op ≡ DeleteAll

-- it waits for bytes
abbrev pub waits : RawOp → Bool
waits (rawop.Modify mode (Marked mark) path) = false
waits (rawop.Modify mode (Object digits) path) = false
waits (rawop.Modify mode Inline path) = true
waits (rawop.Delete path) = false
waits (rawop.Copy source target) = false
waits (rawop.Rename source target) = false
waits rawop.DeleteAll = false

-- what is spelled `inline` alone waits
inline_alone : (mode : Mode) (text : Bytes) → content_in mode text ≡ Ok Inline → bytes_eq text (codes "inline") ≡ true
unfolding content_in
inline_alone mode text h = go (begins (codes ":") text) (bytes_eq text (codes "inline")) (is_left_out_id text) (mark_in text) (as_object text) h
  where
    no_mark : (m : Mode) (n : ℕ) → marked_content m n ≡ Ok Inline → ⊥
    no_mark Plain n e = absurd cc
    no_mark Executable n e = absurd cc
    no_mark Link n e = absurd cc
    no_mark Gitlink n e = absurd cc

    go : (a b c : Bool) (r : Result ℕ Why) (o : Option Bytes)
        → cond a (r >>= λ mark. marked_content mode mark) (cond b (inline_content mode) (cond c (Err LeftOut) (or_defect BadMark o >>= λ digits. Ok (Object digits)))) ≡ Ok Inline → b ≡ true
    go true b c (Ok n) o e = absurd (no_mark mode n e)
    go true b c (Err why) o e = absurd cc
    go false true c r o e = refl
    go false false true r o e = absurd cc
    go false false false r None e = absurd cc
    go false false false r (Some digits) e = absurd cc

-- `MODE CONTENT PATH` is read alike
abbrev ModifyAlike : List PlainEvent → Bytes → FileOp → Type 0
ModifyAlike events text op = (raw : RawOp) × (modify_in text ≡ Ok raw) × GoesWith events raw op × (waits raw ≡ true → bytes_eq (first_word (text_of text)) (codes "inline") ≡ true)

modify_with : (events : List PlainEvent) (text : Bytes) (mode : Mode) (raw : RawContent) (path fields : Bytes) (content : Content)
    → modify_in text ≡ Ok (rawop.Modify mode raw path) → placed events raw ≡ Ok content → after_space text ≡ Some fields → content_in mode (first_word fields) ≡ Ok raw
    → ModifyAlike events text (Modify mode content path)
modify_with events text mode (Marked mark) path fields content m p b c = go (blob_marked events mark) refl p
  where
    go : (o : Option ℕ) → blob_marked events mark ≡ o → or_defect UnknownMark (option_map OfBlob o) ≡ Ok content → ModifyAlike events text (Modify mode content path)
    go None x y = absurd cc
    go (Some id) x y = (rawop.Modify mode (Marked mark) path, m, (id, x, ap (λ c. Modify mode c path) (sym (same_Ok (OfBlob id) content y))), λ w. absurd cc)
modify_with events text mode (Object digits) path fields content m p b c = (rawop.Modify mode (Object digits) path, m, ap (λ c. Modify mode c path) (sym (same_Ok (OfObject digits) content p)), λ w. absurd cc)
modify_with events text mode Inline path fields content m p b c = (
  rawop.Modify mode Inline path,
  m,
  ap (λ c. Modify mode c path) (sym (same_Ok (OfBlob (next_id events)) content p)),
  λ w. ap (λ (o : Option Bytes). bytes_eq (first_word (elim o [ None ↦ [] | Some t ↦ t ])) (codes "inline")) b ∙ inline_alone mode (first_word fields) c,
)

modify_alike : (events : List PlainEvent) (text : Bytes) (op : FileOp) → modify_after events text ≡ Ok op → ModifyAlike events text op
unfolding modify_in
modify_alike events text op h =
    let a = bind_ok (mode_in (first_word text)) _ op h in
    let b = bind_ok (or_defect BadMark (after_space text)) _ op a.2 in
    let c = bind_ok (content_in a.0 (first_word b.0)) _ op b.2 in
    let d = bind_ok (placed events c.0) _ op c.2 in
    let e = bind_ok (last_path_in (after_space b.0)) _ op d.2 in
    let read : modify_in text ≡ Ok (rawop.Modify a.0 c.0 e.0) = bind_to _ _ a.1 (bind_to _ _ b.1 (bind_to _ _ c.1 (bind_to _ _ e.1 refl))) in
    subst (ModifyAlike events text) (same_Ok (Modify a.0 d.0 e.0) op e.2)
    (modify_with events text a.0 c.0 e.0 b.0 d.0 read d.1 (or_defect_is BadMark (after_space text) b.0 b.1) c.1)

-- `SOURCE TARGET` is read alike
paths_alike : (tree : Option Tree) (text : Bytes) (p : Bytes × Bytes) → paths_after tree text ≡ Ok p → paths_in text ≡ Ok p
unfolding paths_in
paths_alike tree text p h =
    let a = bind_ok (path_in Source text) _ p h in
    let b = bind_ok (ensure (has_source a.0.0 tree) MissingSource) _ p a.2 in
    bind_to _ _ a.1 b.2

-- the same operation is read without look-ups; it waits only on a line of an operation with `inline`
abbrev pub ReadAlike : List PlainEvent → Bytes → FileOp → Type 0
ReadAlike events line op =
    (raw : RawOp) × (op_in line ≡ Ok raw) × GoesWith events raw op × (waits raw ≡ true → (bytes_eq (first_word line) (codes "M") && is_inline line) ≡ true)

-- a part of a line is there
there : (o : Option Bytes) (why : Why) (text : Bytes) → or_defect why o ≡ Ok text → elim o [ None ↦ [] | Some t ↦ t ] ≡ text
there None why text h = absurd cc
there (Some t) why text h = same_Ok t text h

modify_line : (events : List PlainEvent) (line : Bytes) (op : FileOp) → (or_defect BadMode (after_space line) >>= λ text. modify_after events text) ≡ Ok op
    → (raw : RawOp) × ((or_defect BadMode (after_space line) >>= λ text. modify_in text) ≡ Ok raw) × GoesWith events raw op × (waits raw ≡ true → is_inline line ≡ true)
modify_line events line op h =
    let a = bind_ok (or_defect BadMode (after_space line)) _ op h in
    let m = modify_alike events a.0 op a.2 in
    (m.0, bind_to _ _ a.1 m.1, m.2, λ w. ap (λ t. bytes_eq (first_word (text_of t)) (codes "inline")) (there (after_space line) BadMode a.0 a.1) ∙ m.3 w)

delete_line : (line : Bytes) (op : FileOp) → (last_path_in (after_space line) >>= λ path. Ok (Delete path)) ≡ Ok op
    → (path : Bytes) × ((last_path_in (after_space line) >>= λ p. Ok (rawop.Delete p)) ≡ Ok (rawop.Delete path)) × (op ≡ Delete path)
delete_line line op h =
    let a = bind_ok (last_path_in (after_space line)) _ op h in
    (a.0, bind_to _ _ a.1 refl, sym (same_Ok (Delete a.0) op a.2))

-- an operation with a source and a target
paths_line : (f : Bytes → Bytes → FileOp) (g : Bytes → Bytes → RawOp) (tree : Option Tree) (line : Bytes) (op : FileOp)
    → (or_defect BadPath (after_space line) >>= λ text. paths_after tree text >>= λ p. Ok (f p.0 p.1)) ≡ Ok op
    → (p : Bytes × Bytes) × ((or_defect BadPath (after_space line) >>= λ text. paths_in text >>= λ q. Ok (g q.0 q.1)) ≡ Ok (g p.0 p.1)) × (op ≡ f p.0 p.1)
paths_line f g tree line op h =
    let a = bind_ok (or_defect BadPath (after_space line)) _ op h in
    let b = bind_ok (paths_after tree a.0) _ op a.2 in
    (b.0, bind_to _ _ a.1 (bind_to _ _ (paths_alike tree a.0 b.0 b.1) refl), sym (same_Ok (f b.0.0 b.0.1) op b.2))

-- The line of an operation is read alike.
pub op_alike : (events : List PlainEvent) (c : OpenCommit) (line : Bytes) (op : FileOp) → (is_operation (first_word line) || bytes_eq line (codes "deleteall")) ≡ true → op_after events c line ≡ Ok op → ReadAlike events line op
unfolding op_in
op_alike events c line op is h = go (bytes_eq line (codes "deleteall")) refl is
  where
    by_word : (m d e r : Bool) → bytes_eq (first_word line) (codes "M") ≡ m → ((m || d || e || r) || false) ≡ true
        → cond m (or_defect BadMode (after_space line) >>= λ text. modify_after events text)
        (cond d (last_path_in (after_space line) >>= λ path. Ok (Delete path))
        (cond e (or_defect BadPath (after_space line) >>= λ text. paths_after (tree_now events c) text >>= λ p. Ok (Copy p.0 p.1))
        (cond r (or_defect BadPath (after_space line) >>= λ text. paths_after (tree_now events c) text >>= λ p. Ok (Rename p.0 p.1)) (Ok DeleteAll)))) ≡ Ok op
        → (raw : RawOp) × (cond m (or_defect BadMode (after_space line) >>= λ text. modify_in text)
        (cond d (last_path_in (after_space line) >>= λ path. Ok (rawop.Delete path))
        (cond e (or_defect BadPath (after_space line) >>= λ text. paths_in text >>= λ p. Ok (rawop.Copy p.0 p.1))
        (cond r (or_defect BadPath (after_space line) >>= λ text. paths_in text >>= λ p. Ok (rawop.Rename p.0 p.1)) (cond (is_left_out_word (first_word line)) (Err LeftOut) (Err UnknownLine))))) ≡ Ok raw)
        × GoesWith events raw op × (waits raw ≡ true → (bytes_eq (first_word line) (codes "M") && is_inline line) ≡ true)
    by_word true d e r x w k = let a = modify_line events line op k in (a.0, a.1, a.2, λ q. ap (λ b. b && is_inline line) x ∙ a.3 q)
    by_word false true e r x w k = let a = delete_line line op k in (rawop.Delete a.0, a.1, a.2, λ q. absurd cc)
    by_word false false true r x w k = let a = paths_line (λ s t. Copy s t) (λ s t. rawop.Copy s t) (tree_now events c) line op k in (rawop.Copy a.0.0 a.0.1, a.1, a.2, λ q. absurd cc)
    by_word false false false true x w k = let a = paths_line (λ s t. Rename s t) (λ s t. rawop.Rename s t) (tree_now events c) line op k in (rawop.Rename a.0.0 a.0.1, a.1, a.2, λ q. absurd cc)
    by_word false false false false x w k = absurd cc

    clears : line ≡ codes "deleteall" → ReadAlike events line op
    clears e =
        let k : op_after events c (codes "deleteall") ≡ Ok op = ap (op_after events c) (sym e) ∙ h in
        (rawop.DeleteAll, ap op_in e, sym (same_Ok DeleteAll op k), λ q. absurd cc)

    go : (b : Bool) → bytes_eq line (codes "deleteall") ≡ b → (is_operation (first_word line) || b) ≡ true → ReadAlike events line op
    go true x w = clears ((bytes_eq-Decides line (codes "deleteall")).0 x)
    go false x w =
        let a = by_word (bytes_eq (first_word line) (codes "M")) (bytes_eq (first_word line) (codes "D")) (bytes_eq (first_word line) (codes "C")) (bytes_eq (first_word line) (codes "R")) refl w h in
        (a.0, cond-false (bytes_eq line (codes "deleteall")) (Ok rawop.DeleteAll) _ x ∙ a.1, a.2, a.3)

-- ---- words of operations

-- what holds of an operation's line, by whether it is one with `inline`, and whether it is another one
abbrev Facts : Word → Bool → Bool → Type 0
Facts word.InlineOperation inline other = inline ≡ true
Facts word.Operation inline other = (other ≡ true) × (inline ≡ false)
Facts _ inline other = Unit {0}

-- a word is that of the first test that a line passes
chosen : (a b c d e f g h i j k l m n y z o p q r s t : Bool) (w : Word)
    → (cond a word.Empty (cond b word.Blob (cond c word.Commit (cond d word.Tag (cond e word.Reset (cond f word.Mark (cond g word.Oid
    (cond h word.Author (cond i word.Committer (cond j word.Encoding (cond k word.Data (cond l word.From (cond m word.Merge (cond n word.Tagger
    (cond y word.Alias (cond z word.To (cond o word.InlineOperation (cond p word.Operation (cond q word.FeatureDone (cond r word.Pass (cond s word.Done (cond t word.LeftOut word.Other)))))))))))))))))))))) ≡ w → Facts w o p
chosen true b c d e f g h i j k l m n y z o p q r s t w x = subst (λ v. Facts v o p) x tt
chosen false true c d e f g h i j k l m n y z o p q r s t w x = subst (λ v. Facts v o p) x tt
chosen false false true d e f g h i j k l m n y z o p q r s t w x = subst (λ v. Facts v o p) x tt
chosen false false false true e f g h i j k l m n y z o p q r s t w x = subst (λ v. Facts v o p) x tt
chosen false false false false true f g h i j k l m n y z o p q r s t w x = subst (λ v. Facts v o p) x tt
chosen false false false false false true g h i j k l m n y z o p q r s t w x = subst (λ v. Facts v o p) x tt
chosen false false false false false false true h i j k l m n y z o p q r s t w x = subst (λ v. Facts v o p) x tt
chosen false false false false false false false true i j k l m n y z o p q r s t w x = subst (λ v. Facts v o p) x tt
chosen false false false false false false false false true j k l m n y z o p q r s t w x = subst (λ v. Facts v o p) x tt
chosen false false false false false false false false false true k l m n y z o p q r s t w x = subst (λ v. Facts v o p) x tt
chosen false false false false false false false false false false true l m n y z o p q r s t w x = subst (λ v. Facts v o p) x tt
chosen false false false false false false false false false false false true m n y z o p q r s t w x = subst (λ v. Facts v o p) x tt
chosen false false false false false false false false false false false false true n y z o p q r s t w x = subst (λ v. Facts v o p) x tt
chosen false false false false false false false false false false false false false true y z o p q r s t w x = subst (λ v. Facts v o p) x tt
chosen false false false false false false false false false false false false false false true z o p q r s t w x = subst (λ v. Facts v o p) x tt
chosen false false false false false false false false false false false false false false false true o p q r s t w x = subst (λ v. Facts v o p) x tt
chosen false false false false false false false false false false false false false false false false true p q r s t w x = subst (λ v. Facts v true p) x refl
chosen false false false false false false false false false false false false false false false false false true q r s t w x = subst (λ v. Facts v false true) x (refl, refl)
chosen false false false false false false false false false false false false false false false false false false true r s t w x = subst (λ v. Facts v false false) x tt
chosen false false false false false false false false false false false false false false false false false false false true s t w x = subst (λ v. Facts v false false) x tt
chosen false false false false false false false false false false false false false false false false false false false false true t w x = subst (λ v. Facts v false false) x tt
chosen false false false false false false false false false false false false false false false false false false false false false true w x = subst (λ v. Facts v false false) x tt
chosen false false false false false false false false false false false false false false false false false false false false false false w x = subst (λ v. Facts v false false) x tt

facts : (line : Bytes) (w : Word) → word_of line ≡ w → Facts w (bytes_eq (first_word line) (codes "M") && is_inline line) (is_operation (first_word line) || bytes_eq line (codes "deleteall"))
facts line w h =
    let first = first_word line in
    chosen (bytes_eq line []) (bytes_eq line (codes "blob")) (bytes_eq first (codes "commit")) (bytes_eq first (codes "tag")) (bytes_eq first (codes "reset")) (bytes_eq first (codes "mark"))
    (has_text (codes "original-oid") line) (bytes_eq first (codes "author")) (bytes_eq first (codes "committer")) (has_text (codes "encoding") line) (bytes_eq first (codes "data"))
    (bytes_eq first (codes "from")) (bytes_eq first (codes "merge")) (bytes_eq first (codes "tagger")) (bytes_eq line (codes "alias")) (bytes_eq first (codes "to")) (bytes_eq first (codes "M") && is_inline line)
    (is_operation first || bytes_eq line (codes "deleteall")) (bytes_eq line (codes "feature done"))
    (has_text (codes "progress") line || has_text (codes "feature") line || has_text (codes "option") line || bytes_eq line (codes "checkpoint"))
    (bytes_eq line (codes "done")) (is_left_out_word first) w h

-- what a line of an operation has, by whether it is one with `inline`
abbrev pub IsOperation : Bool → Bytes → Type 0
IsOperation inline line = ((is_operation (first_word line) || bytes_eq line (codes "deleteall")) ≡ true) × ((bytes_eq (first_word line) (codes "M") && is_inline line) ≡ inline)

pub operation_line : (line : Bytes) → word_of line ≡ word.Operation → IsOperation false line
operation_line line h = facts line word.Operation h

pub inline_line : (line : Bytes) → word_of line ≡ word.InlineOperation → IsOperation true line
inline_line line h =
    let both = facts line word.InlineOperation h in
    (or_true (bytes_eq (first_word line) (codes "M")) (both_first (bytes_eq (first_word line) (codes "M")) (is_inline line) both) _ _ _ _, both)
  where
    or_true : (m : Bool) → m ≡ true → (x y z w : Bool) → ((m || x || y || z) || w) ≡ true
    or_true true h x y z w = refl
    or_true false h x y z w = absurd cc

    both_first : (m n : Bool) → (m && n) ≡ true → m ≡ true
    both_first true n h = refl
    both_first false n h = absurd cc
