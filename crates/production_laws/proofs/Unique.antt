-- A text has one list of parts, and these one list of forms: no line within an event begins one.
use Rattle.std.proofs.Common.{◌≡◌, ℕ, zero, suc, Bool, true, false, cond, not, List, [], ◌∷◌, ◌++◌, Option, Some, None, Result, Ok, Err, refl, sym, ◌∙◌, ap, subst, inl, inr, append-nil}
use Rattle.std.specs.Prelude.{◌&&◌, if◌then◌else◌}
use Rattle.std.proofs.lemmas.Bool.{and_parts, true≢false}
use Rattle.std.proofs.lemmas.Option.{none-some, same_Some}
use Rattle.plain_model.specs.declared.fault.Why.{Why}
use Rattle.plain_model.specs.Fields.{block_in}
use Rattle.plain_model.specs.Parts.{line_at}
use Rattle.plain_model.specs.Paths.{Bytes}
use Rattle.stream_grammar.specs.declared.lines.Word.{Word}
use Rattle.stream_grammar.specs.declared.lines.Word.TheVariants as word
use Rattle.stream_grammar.specs.Lines.{is_comment, word_of}
use Rattle.production_laws.specs.Texts.{Part, is_alone, HasParts, words_of}
use Rattle.production_laws.specs.Texts.Part.{Comment, Line, WithData, DoneLine}
use Rattle.production_laws.specs.Productions.{Item, Form, Change, several, operations, Fit, AreForms, IsEnd, AreSpelled, Spells}
use Rattle.production_laws.specs.Productions.Item.{One, Perhaps, Many, Operations}
use Rattle.production_laws.specs.Productions.Change.{Alone, Inline}
use Rattle.production_laws.specs.Productions.Form.{ABlob, ACommit, ATag, AReset, AnAlias, APass, APromise, AnEmptyLine}
use Rattle.production_laws.proofs.NextLines.{may_begin}
use Rattle.production_laws.proofs.Forms.{first_of, others_of, lines_are}

-- ---- one list of parts

-- the first part of a text and what is after it
abbrev held : Bytes → Result (Bytes × Bytes) Why → Option (Part × Bytes)
held line (Ok x) = Some (WithData line x.0, x.1)
held line (Err why) = None

abbrev part_by : Word → Bytes → Bytes → Option (Part × Bytes)
part_by word.Data line rest = held line (block_in line rest)
part_by word.Done line rest = Some (DoneLine line, [])
part_by _ line rest = Some (Line line, rest)

abbrev part_of : Bytes → Bytes → Option (Part × Bytes)
part_of line rest = if is_comment line then Some (Comment line, rest) else part_by (word_of line) line rest

abbrev first_part : Option (Bytes × Bytes) → Option (Part × Bytes)
first_part None = None
first_part (Some cut) = part_of cut.0 cut.1

of_line : (text line rest : Bytes) (t : Bool) → line_at text ≡ Some (line, rest) → is_comment line ≡ t
    → first_part (line_at text) ≡ cond t (Some (Comment line, rest)) (part_by (word_of line) line rest)
of_line text line rest t there e = ap first_part there ∙ ap (λ u. cond u (Some (Comment line, rest)) (part_by (word_of line) line rest)) e

by_alone : (w : Word) (line rest : Bytes) → is_alone w ≡ true → part_by w line rest ≡ Some (Line line, rest)
by_alone word.Data line rest e = absurd (true≢false (sym e))
by_alone word.Done line rest e = absurd (true≢false (sym e))
by_alone _ line rest e = refl

-- a text that has parts begins with the first of them, and goes on with the others
goes_on : (text : Bytes) (part : Part) (parts : List Part) → HasParts text (part ∷ parts)
    → (rest : Bytes) × (first_part (line_at text) ≡ Some (part, rest)) × HasParts rest parts
goes_on text (Comment line) parts (rest, there, comment, are) = (rest, of_line text line rest true there comment, are)
goes_on text (Line line) parts (rest, there, plain, alone, are) = (rest, of_line text line rest false there plain ∙ by_alone (word_of line) line rest alone, are)
goes_on text (WithData line bytes) parts (block, rest, there, plain, is, h, are) =
    (rest, of_line text line block false there plain ∙ ap (λ w. part_by w line block) is ∙ ap (held line) h, are)
goes_on text (DoneLine line) parts (rest, there, plain, is, last) =
    ([], of_line text line rest false there plain ∙ ap (λ w. part_by w line rest) is, last_none parts last)
  where
    last_none : (parts : List Part) → parts ≡ [] → HasParts [] parts
    last_none parts e = subst (λ (l : List Part). HasParts [] l) (sym e) refl

none_left : (text : Bytes) → text ≡ [] → first_part (line_at text) ≡ None
unfolding line_at
none_left text e = ap (λ (l : Bytes). first_part (line_at l)) e

pub one_list_of_parts : (parts others : List Part) (text : Bytes) → HasParts text parts → HasParts text others → parts ≡ others
one_list_of_parts [] [] text h g = refl
one_list_of_parts [] (part ∷ others) text h g =
    let x = goes_on text part others g in absurd (none-some {A = Part × Bytes} (part, x.0) (sym (none_left text h) ∙ x.1))
one_list_of_parts (part ∷ parts) [] text h g =
    let x = goes_on text part parts h in absurd (none-some {A = Part × Bytes} (part, x.0) (sym (none_left text g) ∙ x.1))
one_list_of_parts (part ∷ parts) (other ∷ others) text h g =
    let x = goes_on text part parts h in
    let y = goes_on text other others g in
    let same : ◌≡◌ {A = Part × Bytes} (part, x.0) (other, y.0) = same_Some {A = Part × Bytes} (part, x.0) (other, y.0) (sym x.1 ∙ y.1) in
    let later = one_list_of_parts parts others y.0 (subst (λ (l : Bytes). HasParts l parts) (ap (λ (p : Part × Bytes). p.1) same) x.2) y.2 in
    (λ i. (same i).0 ∷ later i)

-- ---- one list of forms

-- what a line begins
abbrev begun_by : Word → List Form
begun_by word.Blob = ABlob ∷ []
begun_by word.Commit = ACommit ∷ []
begun_by word.Tag = ATag ∷ []
begun_by word.Reset = AReset ∷ []
begun_by word.Alias = AnAlias ∷ []
begun_by word.Pass = APass ∷ []
begun_by word.FeatureDone = APromise ∷ []
begun_by word.Empty = AnEmptyLine ∷ []
begun_by _ = []

abbrev forms_in : List Word → List Form
forms_in [] = []
forms_in (w ∷ ws) = begun_by w ++ forms_in ws

inner : (w : Word) → not (may_begin w) ≡ true → begun_by w ≡ []
inner word.Blob e = absurd (true≢false (sym e))
inner word.Commit e = absurd (true≢false (sym e))
inner word.Tag e = absurd (true≢false (sym e))
inner word.Reset e = absurd (true≢false (sym e))
inner word.Alias e = absurd (true≢false (sym e))
inner word.Pass e = absurd (true≢false (sym e))
inner word.FeatureDone e = absurd (true≢false (sym e))
inner word.Empty e = absurd (true≢false (sym e))
inner _ e = refl

-- no line of the items begins an event
abbrev are_inner : List Item → Bool
are_inner [] = true
are_inner (One w ∷ items) = not (may_begin w) && are_inner items
are_inner (Perhaps w ∷ items) = not (may_begin w) && are_inner items
are_inner (Many w ∷ items) = not (may_begin w) && are_inner items
are_inner (Operations ∷ items) = are_inner items

others_are_inner : (f : Form) → are_inner (others_of f) ≡ true
others_are_inner ABlob = refl
others_are_inner _ = refl

more_words : (w : Word) (ws : List Word) → not (may_begin w) ≡ true → forms_in (w ∷ ws) ≡ forms_in ws
more_words w ws e = ap (λ (l : List Form). l ++ forms_in ws) (inner w e)

several_are_inner : (n : ℕ) (w : Word) (ws : List Word) → not (may_begin w) ≡ true → forms_in (several n w ++ ws) ≡ forms_in ws
several_are_inner zero w ws e = refl
several_are_inner (suc n) w ws e = more_words w (several n w ++ ws) e ∙ several_are_inner n w ws e

operations_are_inner : (changes : List Change) (ws : List Word) → forms_in (operations changes ++ ws) ≡ forms_in ws
operations_are_inner [] ws = refl
operations_are_inner (Alone ∷ changes) ws = operations_are_inner changes ws
operations_are_inner (Inline ∷ changes) ws = operations_are_inner changes ws

within : (items : List Item) (ws rest : List Word) → are_inner items ≡ true → Fit items ws rest → forms_in ws ≡ forms_in rest
within [] ws rest h is = ap forms_in is
within (One w ∷ items) ws rest h (more, is, fit) =
    let parts = and_parts (not (may_begin w)) (are_inner items) h in
    ap forms_in is ∙ more_words w more parts.0 ∙ within items more rest parts.1 fit
within (Perhaps w ∷ items) ws rest h (inl fit) = within items ws rest (and_parts (not (may_begin w)) (are_inner items) h).1 fit
within (Perhaps w ∷ items) ws rest h (inr (more, is, fit)) =
    let parts = and_parts (not (may_begin w)) (are_inner items) h in
    ap forms_in is ∙ more_words w more parts.0 ∙ within items more rest parts.1 fit
within (Many w ∷ items) ws rest h (n, more, is, fit) =
    let parts = and_parts (not (may_begin w)) (are_inner items) h in
    ap forms_in is ∙ several_are_inner n w more parts.0 ∙ within items more rest parts.1 fit
within (Operations ∷ items) ws rest h (changes, more, is, fit) = ap forms_in is ∙ operations_are_inner changes more ∙ within items more rest h fit

first_is : (f : Form) (ws : List Word) → forms_in (first_of f ∷ ws) ≡ f ∷ forms_in ws
first_is ABlob ws = refl
first_is _ ws = refl

of_form : (f : Form) (ws more : List Word) → Fit (One (first_of f) ∷ others_of f) ws more → forms_in ws ≡ f ∷ forms_in more
of_form f ws more (next, is, fit) = ap forms_in is ∙ first_is f next ∙ ap (λ (l : List Form). f ∷ l) (within (others_of f) next more (others_are_inner f) fit)

-- the forms are what the lines begin
are_begun : (forms : List Form) (ws rest : List Word) → AreForms forms ws rest → forms_in ws ≡ forms ++ forms_in rest
are_begun [] ws rest is = ap forms_in is
are_begun (f ∷ forms) ws rest (more, fit, are) =
    of_form f ws more (subst (λ (items : List Item). Fit items ws more) (lines_are f) fit) ∙ ap (λ (l : List Form). f ∷ l) (are_begun forms more rest are)

none_at_end : (promised : Bool) (rest : List Word) → IsEnd promised rest → forms_in rest ≡ []
none_at_end promised rest (inl is) = ap forms_in is
none_at_end promised rest (inr (unpromised, is)) = ap forms_in is

begins_them : (forms : List Form) (ws : List Word) → AreSpelled forms ws → forms_in ws ≡ forms
begins_them forms ws (rest, are, end) =
    are_begun forms ws rest are ∙ ap (λ (l : List Form). forms ++ l) (none_at_end _ rest end) ∙ append-nil forms

pub one_list_of_forms : (text : Bytes) (forms others : List Form) → Spells text forms → Spells text others → forms ≡ others
one_list_of_forms text forms others (parts, are, spelled) (parts2, are2, spelled2) =
    sym (begins_them forms (words_of parts) spelled)
    ∙ ap (λ (l : List Part). forms_in (words_of l)) (one_list_of_parts parts parts2 text are are2)
    ∙ begins_them others (words_of parts2) spelled2
