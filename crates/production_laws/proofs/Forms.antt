-- Streams from a place between events on: what the first line begins, and what comes after it.
use Rattle.std.proofs.Common.{◌≡◌, Bool, true, false, List, [], ◌∷◌, refl, sym, ◌∙◌, ap, subst, inl, inr}
use Rattle.std.specs.Prelude.{◌||◌}
use Rattle.std.specs.List.{list_any}
use Rattle.std.proofs.Math.Bool.{or-false}
use Rattle.stream_grammar.specs.declared.lines.Word.{Word}
use Rattle.stream_grammar.specs.declared.lines.Word.TheVariants as word
use Rattle.production_laws.specs.Productions.{Item, Form, lines_of, Fit, AreForms, is_promise, IsEnd}
use Rattle.production_laws.specs.Productions.Item.{One, Perhaps, Many, Operations}
use Rattle.production_laws.specs.Productions.Form.{ABlob, ACommit, ATag, AReset, AnAlias, APass, APromise, AnEmptyLine}
use Rattle.production_laws.proofs.NextLines.{may_begin, Whole}

-- the rest of a stream, where `done` may have been promised: these forms and the end
abbrev pub Stream : Bool → List Word → Type 0
Stream promised ws = (forms : List Form) × (rest : List Word) × AreForms forms ws rest × IsEnd (promised || list_any is_promise forms) rest

-- ---- the first line of a form

abbrev pub first_of : Form → Word
first_of ABlob = word.Blob
first_of ACommit = word.Commit
first_of ATag = word.Tag
first_of AReset = word.Reset
first_of AnAlias = word.Alias
first_of APass = word.Pass
first_of APromise = word.FeatureDone
first_of AnEmptyLine = word.Empty

-- what comes after it
abbrev pub others_of : Form → List Item
others_of ABlob = Perhaps word.Mark ∷ Perhaps word.Oid ∷ One word.Data ∷ []
others_of ACommit =
    Perhaps word.Mark ∷ Perhaps word.Oid ∷ Perhaps word.Author ∷ One word.Committer ∷ Perhaps word.Encoding
    ∷ One word.Data ∷ Perhaps word.From ∷ Many word.Merge ∷ Operations ∷ []
others_of ATag = Perhaps word.Mark ∷ One word.From ∷ Perhaps word.Oid ∷ Perhaps word.Tagger ∷ One word.Data ∷ []
others_of AReset = Perhaps word.From ∷ []
others_of AnAlias = One word.Mark ∷ One word.To ∷ []
others_of APass = []
others_of APromise = []
others_of AnEmptyLine = []

pub lines_are : (f : Form) → lines_of f ≡ One (first_of f) ∷ others_of f
lines_are ABlob = refl
lines_are _ = refl

first_begins : (f : Form) → may_begin (first_of f) ≡ true
first_begins ABlob = refl
first_begins _ = refl

-- ---- a line between events

-- the line `done`, after which there is nothing; or the first line of a form, and the others
pub data Begun (promised : Bool) (w : Word) (ws : List Word) : Type 0 where
  ByDone : w ≡ word.Done → ws ≡ [] → Begun promised w ws
  ByForm : (f : Form) → w ≡ first_of f → Whole (Stream (promised || is_promise f)) (others_of f) ws → Begun promised w ws

head_is : (v w : Word) (vs ws : List Word) → ◌≡◌ {A = List Word} (v ∷ vs) (w ∷ ws) → (v ≡ w) × (vs ≡ ws)
head_is v w vs ws e = (cc, cc)

or_assoc : (a b c : Bool) → (a || (b || c)) ≡ ((a || b) || c)
or_assoc true b c = refl
or_assoc false b c = refl

pub begun : (promised : Bool) (w : Word) (ws : List Word) → Stream promised (w ∷ ws) → Begun promised w ws
begun promised w ws ([], rest, is, inl e) = let x = head_is w word.Done ws [] (is ∙ e) in ByDone x.0 x.1
begun promised w ws ([], rest, is, inr (unpromised, e)) = absurd (let no : ◌≡◌ {A = List Word} (w ∷ ws) [] = is ∙ e in cc)
begun promised w ws (f ∷ fs, rest, (more, fit, are), end) =
    go (subst (λ (items : List Item). Fit items (w ∷ ws) more) (lines_are f) fit)
  where
    go : Fit (One (first_of f) ∷ others_of f) (w ∷ ws) more → Begun promised w ws
    go (next, is, fit) =
        let x = head_is w (first_of f) ws next is in
        ByForm f x.0 (more, subst (λ (l : List Word). Fit (others_of f) l more) (sym x.1) fit, (fs, rest, are, subst (λ b. IsEnd b rest) (or_assoc promised (is_promise f) (list_any is_promise fs)) end))

pub begins : (promised : Bool) (w : Word) (ws : List Word) → Begun promised w ws → Stream promised (w ∷ ws)
begins promised w ws (ByDone is none) = ([], w ∷ ws, refl, inl (λ i. is i ∷ none i))
begins promised w ws (ByForm f is (more, fit, (fs, rest, are, end))) = (
  f ∷ fs,
  rest,
  (more, subst (λ (items : List Item). Fit items (w ∷ ws) more) (sym (lines_are f)) (ws, ap (λ (x : Word). x ∷ ws) is, fit), are),
  subst (λ b. IsEnd b rest) (sym (or_assoc promised (is_promise f) (list_any is_promise fs))) end,
)

-- the words that may be there
pub begun_by_one : (promised : Bool) (w : Word) (ws : List Word) → Stream promised (w ∷ ws) → may_begin w ≡ true
begun_by_one promised w ws h = go (begun promised w ws h)
  where
    go : Begun promised w ws → may_begin w ≡ true
    go (ByDone is none) = ap may_begin is
    go (ByForm f is whole) = ap may_begin is ∙ first_begins f

-- ---- the end

no_first : (f : Form) (more : List Word) → Fit (lines_of f) [] more → ⊥
no_first f more fit = go (subst (λ (items : List Item). Fit items [] more) (lines_are f) fit)
  where
    go : Fit (One (first_of f) ∷ others_of f) [] more → ⊥
    go (next, is, fit) = absurd cc

pub over : (promised : Bool) → Stream promised [] → promised ≡ false
over promised ([], rest, is, inl e) = absurd (let no : ◌≡◌ {A = List Word} [] (word.Done ∷ []) = is ∙ e in cc)
over promised ([], rest, is, inr (unpromised, e)) = sym (or-false promised) ∙ unpromised
over promised (f ∷ fs, rest, (more, fit, are), end) = absurd (no_first f more fit)

pub is_over : (promised : Bool) → promised ≡ false → Stream promised []
is_over promised e = ([], [], refl, inr (or-false promised ∙ e, refl))
