-- What a line is like by its word: operations without bytes after them, and lines that are passed through.
use Rattle.std.proofs.Common.{◌≡◌, Bool, true, false, cond, not, [], ◌∷◌, ◌++◌, length, codes, Some, refl, sym, subst, inl, inr, ◌⊎◌, eqb-true, eq-eqb}
use Rattle.std.specs.Prelude.{◌==◌, ◌&&◌, ◌||◌, bytes_eq, is_some}
use Rattle.std.proofs.lemmas.Bool.{and_parts, and_from, or_cases}
use Rattle.std.proofs.lemmas.Slice.Eq.{bytes_eq-Decides}
use Rattle.plain_model.specs.Fields.{first_word, after_space, is_left_out_word}
use Rattle.plain_model.specs.Parts.{begins, has_no_lf}
use Rattle.plain_model.specs.Paths.{Bytes}
use Rattle.plain_model.specs.Soundness.{is_passed_line}
use Rattle.stream_grammar.specs.declared.lines.Word.{Word}
use Rattle.stream_grammar.specs.declared.lines.Word.TheVariants as word
use Rattle.stream_grammar.specs.Lines.{has_text, is_inline, is_operation, is_left_out_feature, word_of}

-- ---- words, one after another

-- the first test fails where its word isn't the one that was found
passed_by : (b : Bool) (x y w : Word) → (x ≡ w → ⊥) → cond b x y ≡ w → y ≡ w
passed_by true x y w other e = absurd (other e)
passed_by false x y w other e = e

found : (b : Bool) (x y w : Word) → (y ≡ w → ⊥) → cond b x y ≡ w → b ≡ true
found true x y w other e = refl
found false x y w other e = absurd (other e)

not_found : (b : Bool) (x y w : Word) → (x ≡ w → ⊥) → cond b x y ≡ w → b ≡ false
not_found true x y w other e = absurd (other e)
not_found false x y w other e = refl

module _ (line : Bytes) where
  abbrev first : Bytes
  first = first_word line

  -- from the last words back
  abbrev last_words : Word
  last_words = cond (is_left_out_word first) word.LeftOut word.Other

  abbrev end_words : Word
  end_words = cond (bytes_eq line (codes "done")) word.Done last_words

  abbrev is_passed_word : Bool
  is_passed_word = has_text (codes "progress") line || has_text (codes "feature") line || has_text (codes "option") line || bytes_eq line (codes "checkpoint")

  abbrev pass_words : Word
  pass_words = cond is_passed_word word.Pass end_words

  abbrev feature_words : Word
  feature_words = cond (bytes_eq line (codes "feature done")) word.FeatureDone pass_words

  abbrev op_words : Word
  op_words = cond (is_operation first || bytes_eq line (codes "deleteall")) word.Operation feature_words

  abbrev inline_words : Word
  inline_words = cond (bytes_eq first (codes "M") && is_inline line) word.InlineOperation op_words

  abbrev to_words : Word
  to_words = cond (bytes_eq first (codes "to")) word.To inline_words

  abbrev alias_words : Word
  alias_words = cond (bytes_eq line (codes "alias")) word.Alias to_words

  abbrev tagger_words : Word
  tagger_words = cond (bytes_eq first (codes "tagger")) word.Tagger alias_words

  abbrev merge_words : Word
  merge_words = cond (bytes_eq first (codes "merge")) word.Merge tagger_words

  abbrev from_words : Word
  from_words = cond (bytes_eq first (codes "from")) word.From merge_words

  abbrev data_words : Word
  data_words = cond (bytes_eq first (codes "data")) word.Data from_words

  abbrev encoding_words : Word
  encoding_words = cond (has_text (codes "encoding") line) word.Encoding data_words

  abbrev committer_words : Word
  committer_words = cond (bytes_eq first (codes "committer")) word.Committer encoding_words

  abbrev author_words : Word
  author_words = cond (bytes_eq first (codes "author")) word.Author committer_words

  abbrev oid_words : Word
  oid_words = cond (has_text (codes "original-oid") line) word.Oid author_words

  abbrev mark_words : Word
  mark_words = cond (bytes_eq first (codes "mark")) word.Mark oid_words

  abbrev reset_words : Word
  reset_words = cond (bytes_eq first (codes "reset")) word.Reset mark_words

  abbrev tag_words : Word
  tag_words = cond (bytes_eq first (codes "tag")) word.Tag reset_words

  abbrev commit_words : Word
  commit_words = cond (bytes_eq first (codes "commit")) word.Commit tag_words

  abbrev blob_words : Word
  blob_words = cond (bytes_eq line (codes "blob")) word.Blob commit_words

  -- words of other lines than these
  abbrev IsLate : Word → Type 0
  IsLate word.Operation = Unit {0}
  IsLate word.FeatureDone = Unit {0}
  IsLate word.Pass = Unit {0}
  IsLate _ = ⊥

  not_early : (x w : Word) → IsLate w → (IsLate x → ⊥) → x ≡ w → ⊥
  not_early x w late early e = early (subst IsLate (sym e) late)

  -- the words from the operations with bytes on
  late_word : (w : Word) → IsLate w → word_of line ≡ w → inline_words ≡ w
  late_word w late e =
      let a = passed_by (bytes_eq line []) word.Empty blob_words w (not_early word.Empty w late (λ x. x)) e in
      let b = passed_by (bytes_eq line (codes "blob")) word.Blob commit_words w (not_early word.Blob w late (λ x. x)) a in
      let c = passed_by (bytes_eq first (codes "commit")) word.Commit tag_words w (not_early word.Commit w late (λ x. x)) b in
      let d = passed_by (bytes_eq first (codes "tag")) word.Tag reset_words w (not_early word.Tag w late (λ x. x)) c in
      let f = passed_by (bytes_eq first (codes "reset")) word.Reset mark_words w (not_early word.Reset w late (λ x. x)) d in
      let g = passed_by (bytes_eq first (codes "mark")) word.Mark oid_words w (not_early word.Mark w late (λ x. x)) f in
      let h = passed_by (has_text (codes "original-oid") line) word.Oid author_words w (not_early word.Oid w late (λ x. x)) g in
      let i = passed_by (bytes_eq first (codes "author")) word.Author committer_words w (not_early word.Author w late (λ x. x)) h in
      let j = passed_by (bytes_eq first (codes "committer")) word.Committer encoding_words w (not_early word.Committer w late (λ x. x)) i in
      let k = passed_by (has_text (codes "encoding") line) word.Encoding data_words w (not_early word.Encoding w late (λ x. x)) j in
      let l = passed_by (bytes_eq first (codes "data")) word.Data from_words w (not_early word.Data w late (λ x. x)) k in
      let m = passed_by (bytes_eq first (codes "from")) word.From merge_words w (not_early word.From w late (λ x. x)) l in
      let n = passed_by (bytes_eq first (codes "merge")) word.Merge tagger_words w (not_early word.Merge w late (λ x. x)) m in
      let o = passed_by (bytes_eq first (codes "tagger")) word.Tagger alias_words w (not_early word.Tagger w late (λ x. x)) n in
      let p = passed_by (bytes_eq line (codes "alias")) word.Alias to_words w (not_early word.Alias w late (λ x. x)) o in
      passed_by (bytes_eq first (codes "to")) word.To inline_words w (not_early word.To w late (λ x. x)) p

  -- an operation's line without bytes after it
  pub not_inline : word_of line ≡ word.Operation → (bytes_eq (first_word line) (codes "M") && is_inline line) ≡ false
  not_inline e = not_found (bytes_eq first (codes "M") && is_inline line) word.InlineOperation op_words word.Operation (λ x. absurd cc) (late_word word.Operation tt e)

  -- after the operations
  feature_word : (w : Word) → IsLate w → (word.Operation ≡ w → ⊥) → word_of line ≡ w → feature_words ≡ w
  feature_word w late other e =
      passed_by (is_operation first || bytes_eq line (codes "deleteall")) word.Operation feature_words w other
      (passed_by (bytes_eq first (codes "M") && is_inline line) word.InlineOperation op_words w (not_early word.InlineOperation w late (λ x. x)) (late_word w late e))

  last_is_none : (w : Word) → IsLate w → end_words ≡ w → ⊥
  last_is_none w late e =
      go (is_left_out_word first) (passed_by (bytes_eq line (codes "done")) word.Done last_words w (not_early word.Done w late (λ x. x)) e)
    where
      go : (b : Bool) → cond b word.LeftOut word.Other ≡ w → ⊥
      go true e = not_early word.LeftOut w late (λ x. x) e
      go false e = not_early word.Other w late (λ x. x) e

  pub pass_is : word_of line ≡ word.Pass → is_passed_word ≡ true
  pass_is e =
      found is_passed_word word.Pass end_words word.Pass (last_is_none word.Pass tt)
      (passed_by (bytes_eq line (codes "feature done")) word.FeatureDone pass_words word.Pass (λ x. absurd cc) (feature_word word.Pass tt (λ x. absurd cc) e))

  pub feature_done_is : word_of line ≡ word.FeatureDone → bytes_eq line (codes "feature done") ≡ true
  feature_done_is e =
      found (bytes_eq line (codes "feature done")) word.FeatureDone pass_words word.FeatureDone
      (λ x. last_is_none word.FeatureDone tt (passed_by is_passed_word word.Pass end_words word.FeatureDone (λ y. absurd cc) x))
      (feature_word word.FeatureDone tt (λ x. absurd cc) e)

-- ---- lines that are passed through

-- a line begins with its first word and the space after it
begins_word : (line : Bytes) → is_some (after_space line) ≡ true → begins (first_word line ++ 32 ∷ []) line ≡ true
begins_word [] h = absurd cc
begins_word (b ∷ bs) h = go (b == 32) refl h (begins_word bs)
  where
    go : (t : Bool) → (b == 32) ≡ t → is_some (cond t (Some bs) (after_space bs)) ≡ true → (is_some (after_space bs) ≡ true → begins (first_word bs ++ 32 ∷ []) bs ≡ true)
        → begins (cond t [] (b ∷ first_word bs) ++ 32 ∷ []) (b ∷ bs) ≡ true
    go true e h more = and_from (32 == b) true (eq-eqb 32 b (sym (eqb-true b 32 e))) refl
    go false e h more = and_from (b == b) (begins (first_word bs ++ 32 ∷ []) bs) (eq-eqb b b refl) (more h)

-- a keyword with a text after it
begins_text : (keyword line : Bytes) → has_text keyword line ≡ true → begins (keyword ++ 32 ∷ []) line ≡ true
begins_text keyword line h =
    let parts = and_parts (bytes_eq (first_word line) keyword) (is_some (after_space line)) h in
    subst (λ (w : Bytes). begins (w ++ 32 ∷ []) line ≡ true) ((bytes_eq-Decides (first_word line) keyword).0 parts.0) (begins_word line parts.1)

-- which of the tests of such a line holds
passed_shape : (checkpoint progress option feature marks date raw : Bool) → (checkpoint ≡ true) ⊎ (progress ≡ true) ⊎ (option ≡ true) ⊎ (feature ≡ true) → marks ≡ false → (date ≡ true → raw ≡ true)
    → (checkpoint || progress || option || feature && not marks && (not date || raw)) ≡ true
passed_shape true p o f m d r h out date = refl
passed_shape false true o f m d r h out date = refl
passed_shape false false true f m d r h out date = refl
passed_shape false false false true true d r h out date = absurd cc
passed_shape false false false true false false r h out date = refl
passed_shape false false false true false true r h out date = date refl
passed_shape false false false false m d r (inl e) out date = absurd cc
passed_shape false false false false m d r (inr (inl e)) out date = absurd cc
passed_shape false false false false m d r (inr (inr (inl e))) out date = absurd cc
passed_shape false false false false m d r (inr (inr (inr e))) out date = absurd cc

-- a feature that isn't left out
kept_feature : (marks date raw : Bool) → (marks || date && not raw) ≡ false → (marks ≡ false) × (date ≡ true → raw ≡ true)
kept_feature true d r e = absurd cc
kept_feature false true true e = (refl, λ x. refl)
kept_feature false true false e = absurd cc
kept_feature false false r e = (refl, λ x. absurd cc)

pub passed_fits : (line : Bytes) → has_no_lf line ≡ true → word_of line ≡ word.Pass → is_left_out_feature line ≡ false → is_passed_line line ≡ true
passed_fits line plain e kept =
    and_from (has_no_lf line) _ plain
    (passed_shape (begins (codes "checkpoint") line && (length line == 10)) (begins (codes "progress ") line) (begins (codes "option ") line) (begins (codes "feature ") line)
    (begins (codes "feature import-marks") line) (begins (codes "feature date-format=") line) (begins (codes "feature date-format=raw") line && (length line == 23))
    (which (or_cases (has_text (codes "progress") line || has_text (codes "feature") line || has_text (codes "option") line) (bytes_eq line (codes "checkpoint")) (pass_is line e))) parts.0 (λ date. is_raw (parts.1 date)))
  where
    parts : (begins (codes "feature import-marks") line ≡ false) × (begins (codes "feature date-format=") line ≡ true → bytes_eq line (codes "feature date-format=raw") ≡ true)
    parts = kept_feature (begins (codes "feature import-marks") line) (begins (codes "feature date-format=") line) (bytes_eq line (codes "feature date-format=raw")) kept

    is_raw : bytes_eq line (codes "feature date-format=raw") ≡ true → (begins (codes "feature date-format=raw") line && (length line == 23)) ≡ true
    is_raw e = subst (λ (l : Bytes). (begins (codes "feature date-format=raw") l && (length l == 23)) ≡ true) (sym ((bytes_eq-Decides line (codes "feature date-format=raw")).0 e)) refl

    is_checkpoint : bytes_eq line (codes "checkpoint") ≡ true → (begins (codes "checkpoint") line && (length line == 10)) ≡ true
    is_checkpoint e = subst (λ (l : Bytes). (begins (codes "checkpoint") l && (length l == 10)) ≡ true) (sym ((bytes_eq-Decides line (codes "checkpoint")).0 e)) refl

    first_two : (has_text (codes "progress") line ≡ true) ⊎ (has_text (codes "feature") line ≡ true)
        → ((begins (codes "checkpoint") line && (length line == 10)) ≡ true) ⊎ (begins (codes "progress ") line ≡ true) ⊎ (begins (codes "option ") line ≡ true) ⊎ (begins (codes "feature ") line ≡ true)
    first_two (inl progress) = inr (inl (begins_text (codes "progress") line progress))
    first_two (inr feature) = inr (inr (inr (begins_text (codes "feature") line feature)))

    first_three : ((has_text (codes "progress") line || has_text (codes "feature") line) ≡ true) ⊎ (has_text (codes "option") line ≡ true)
        → ((begins (codes "checkpoint") line && (length line == 10)) ≡ true) ⊎ (begins (codes "progress ") line ≡ true) ⊎ (begins (codes "option ") line ≡ true) ⊎ (begins (codes "feature ") line ≡ true)
    first_three (inl two) = first_two (or_cases (has_text (codes "progress") line) (has_text (codes "feature") line) two)
    first_three (inr option) = inr (inr (inl (begins_text (codes "option") line option)))

    which : ((has_text (codes "progress") line || has_text (codes "feature") line || has_text (codes "option") line) ≡ true) ⊎ (bytes_eq line (codes "checkpoint") ≡ true)
        → ((begins (codes "checkpoint") line && (length line == 10)) ≡ true) ⊎ (begins (codes "progress ") line ≡ true) ⊎ (begins (codes "option ") line ≡ true) ⊎ (begins (codes "feature ") line ≡ true)
    which (inl three) = first_three (or_cases (has_text (codes "progress") line || has_text (codes "feature") line) (has_text (codes "option") line) three)
    which (inr checkpoint) = inl (is_checkpoint checkpoint)

pub feature_done_fits : (line : Bytes) → word_of line ≡ word.FeatureDone → is_passed_line line ≡ true
feature_done_fits line e = subst (λ (l : Bytes). is_passed_line l ≡ true) (sym ((bytes_eq-Decides line (codes "feature done")).0 (feature_done_is line e))) refl
