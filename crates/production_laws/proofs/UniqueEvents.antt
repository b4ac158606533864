-- A text spells one list of events: no line may be two places' of an event, nor one of the next event.
use Rattle.std.proofs.Common.{◌≡◌, Bool, true, not, List, [], ◌∷◌, Some, None, refl, sym, ◌∙◌, ap, subst, inl, inr, ◌⊎◌}
use Rattle.std.specs.Prelude.{◌≢◌, ◌&&◌, ◌||◌}
use Rattle.std.specs.List.{list_any}
use Rattle.std.proofs.lemmas.Bool.{and_parts, or_left, or_right, true≢false, not-true}
use Rattle.plain_model.specs.Paths.{Bytes}
use Rattle.field_laws.proofs.FieldSteps.{same_Ok}
use Rattle.stream_grammar.specs.declared.lines.Word.{Word}
use Rattle.stream_grammar.specs.declared.lines.Word.TheVariants as word
use Rattle.stream_grammar.specs.Lines.{word_of}
use Rattle.production_laws.specs.Productions.{Form, IsEnd, Item, is_promise, lines_of}
use Rattle.production_laws.specs.Productions.Form.{ABlob, ACommit, ATag, AReset, AnAlias, APass, APromise, AnEmptyLine}
use Rattle.production_laws.specs.Productions.Item.{Many, One, Operations, Perhaps}
use Rattle.production_laws.specs.Raw.{AreEvents, AreFields, AreOperations, AreSaid, Field, Raw, Says, Spelled, SpellsRaw, Values, forms_of, without_comments}
use Rattle.production_laws.specs.Raw.Spelled.{Alone, WithBytes}
use Rattle.production_laws.specs.Texts.{Part, words_of}
use Rattle.production_laws.specs.Texts.Part.{Comment, DoneLine, Line, WithData}
use Rattle.production_laws.proofs.NextLines.{may_begin, same, is_same}
use Rattle.production_laws.proofs.Forms.{first_of}
use Rattle.production_laws.proofs.Raws.{AreProper, events_left, proper}
use Rattle.production_laws.proofs.Unique.{one_list_of_parts}

-- ---- one field

abbrev word_in : Part → Word
word_in (Comment line) = word.Other
word_in (Line line) = word_of line
word_in (WithData line bytes) = word.Data
word_in (DoneLine line) = word.Done

says_word : (w : Word) (part : Part) (x : Field w) → Says w part x → word_in part ≡ w
says_word w (Line line) x says = says.0
says_word word.Data (WithData line bytes) x says = refl
says_word _ part x says = absurd says

one_field : (w : Word) (part : Part) (x y : Field w) → Says w part x → Says w part y → x ≡ y
one_field w (Line line) x y is too = same_Ok {A = Field w} x y (sym is.1 ∙ too.1)
one_field word.Data (WithData line bytes) x y is too = sym is ∙ too
one_field _ part x y is too = absurd is

cons_parts : (p q : Part) (ps qs parts : List Part) → parts ≡ p ∷ ps → parts ≡ q ∷ qs → (p ≡ q) × (ps ≡ qs)
cons_parts p q ps qs parts e f = let same : ◌≡◌ {A = List Part} (p ∷ ps) (q ∷ qs) = sym e ∙ f in (cc, cc)

-- ---- what the first line may be

abbrev is_word_of : Word → Item → Bool
is_word_of w (One v) = same v w
is_word_of w (Perhaps v) = same v w
is_word_of w (Many v) = same v w
is_word_of w Operations = same word.Operation w || same word.InlineOperation w

-- the items have no such line, nor does an event begin with one
abbrev is_elsewhere : Word → List Item → Bool
is_elsewhere w items = not (list_any (is_word_of w) items) && not (may_begin w)

abbrev are_apart : List Item → Bool
are_apart [] = true
are_apart (One w ∷ items) = are_apart items
are_apart (Perhaps w ∷ items) = is_elsewhere w items && are_apart items
are_apart (Many w ∷ items) = is_elsewhere w items && are_apart items
are_apart (Operations ∷ items) = is_elsewhere word.Operation items && (is_elsewhere word.InlineOperation items && are_apart items)

-- what comes after an event begins another, or is the end
abbrev MayFollow : List Part → Type 0
MayFollow [] = Unit {0}
MayFollow (part ∷ parts) = may_begin (word_in part) ≡ true

-- the first line is of the items, or they have none and it comes after them
abbrev Starts : List Item → Part → List Part → List Part → Type 0
Starts items part parts rest = (list_any (is_word_of (word_in part)) items ≡ true) ⊎ (rest ≡ part ∷ parts)

later_start : (item : Item) (items : List Item) (part : Part) (parts rest : List Part) → Starts items part parts rest → Starts (item ∷ items) part parts rest
later_start item items part parts rest (inl is) = inl (or_right (is_word_of (word_in part) item) (list_any (is_word_of (word_in part)) items) is)
later_start item items part parts rest (inr is) = inr is

own_start : (item : Item) (items : List Item) (part first : Part) (parts more rest : List Part) → ◌≡◌ {A = List Part} (part ∷ parts) (first ∷ more)
    → is_word_of (word_in first) item ≡ true → Starts (item ∷ items) part parts rest
own_start item items part first parts more rest is h =
    let x = cons_parts part first parts more (part ∷ parts) refl is in
    inl (or_left (is_word_of (word_in part) item) (list_any (is_word_of (word_in part)) items) (ap (λ p. is_word_of (word_in p) item) x.0 ∙ h))

starts : (items : List Item) (fields : Values items) (part : Part) (parts rest : List Part) → AreFields items fields (part ∷ parts) rest → Starts items part parts rest
starts [] fields part parts rest is = inr (sym is)
starts (One w ∷ items) (x, fields) part parts rest (first, more, is, says, said) =
    own_start (One w) items part first parts more rest is (is_same w (word_in first) (sym (says_word w first x says)))
starts (Perhaps w ∷ items) (None, fields) part parts rest said = later_start (Perhaps w) items part parts rest (starts items fields part parts rest said)
starts (Perhaps w ∷ items) (Some x, fields) part parts rest (first, more, is, says, said) =
    own_start (Perhaps w) items part first parts more rest is (is_same w (word_in first) (sym (says_word w first x says)))
starts (Many w ∷ items) ([], fields) part parts rest (more, said, others) =
    later_start (Many w) items part parts rest (starts items fields part parts rest (subst (λ (l : List Part). AreFields items fields l rest) (sym said) others))
starts (Many w ∷ items) (x ∷ xs, fields) part parts rest (next, (first, more, is, says, said), others) =
    own_start (Many w) items part first parts more rest is (is_same w (word_in first) (sym (says_word w first x says)))
starts (Operations ∷ items) ([], fields) part parts rest (more, said, others) =
    later_start Operations items part parts rest (starts items fields part parts rest (subst (λ (l : List Part). AreFields items fields l rest) (sym said) others))
starts (Operations ∷ items) (Alone line ∷ ops, fields) part parts rest (next, (first, more, is, says, said), others) =
    own_start Operations items part first parts more rest is
    (or_left (same word.Operation (word_in first)) (same word.InlineOperation (word_in first)) (is_same word.Operation (word_in first) (sym (says_word word.Operation first line says))))
starts (Operations ∷ items) (WithBytes line bytes ∷ ops, fields) part parts rest (next, (first, data_part, more, is, says, data_says, said), others) =
    own_start Operations items part first parts (data_part ∷ more) rest is
    (or_right (same word.Operation (word_in first)) (same word.InlineOperation (word_in first))
    (is_same word.InlineOperation (word_in first) (sym (says_word word.InlineOperation first line says))))

-- so a line of another word isn't the first
never_starts : (items : List Item) (fields : Values items) (w : Word) (part : Part) (more parts rest : List Part) → is_elsewhere w items ≡ true → MayFollow rest
    → parts ≡ part ∷ more → word_in part ≡ w → AreFields items fields parts rest → ⊥
never_starts items fields w part more parts rest apart follows is named said =
    go (starts items fields part more rest (subst (λ (l : List Part). AreFields items fields l rest) is said))
  where
    both : (not (list_any (is_word_of w) items) ≡ true) × (not (may_begin w) ≡ true)
    both = and_parts (not (list_any (is_word_of w) items)) (not (may_begin w)) apart

    go : Starts items part more rest → ⊥
    go (inl h) = true≢false (sym h ∙ ap (λ v. list_any (is_word_of v) items) named ∙ not-true (list_any (is_word_of w) items) both.0)
    go (inr e) = true≢false (sym (subst MayFollow e follows) ∙ ap may_begin named ∙ not-true (may_begin w) both.1)

-- ---- one list of fields

-- what comes after is one, and so are the fields
abbrev AreOne : {A : Type 0} → A → A → List Part → List Part → Type 0
AreOne x y rest other = (x ≡ y) × (rest ≡ other)

module _ (items : List Item) (fields others : Values items) (rest other : List Part) (follows : MayFollow rest) (follows_too : MayFollow other) where
  one_many : (w : Word) (xs ys : List (Field w)) (parts more next : List Part) → is_elsewhere w items ≡ true → AreSaid w xs parts more → AreSaid w ys parts next
      → AreFields items fields more rest → AreFields items others next other → AreOne xs ys more next
  one_many w [] [] parts more next apart is too said said_too = (refl, sym is ∙ too)
  one_many w [] (y ∷ ys) parts more next apart is (part, after, e, says, said) fit fit_too =
      absurd (never_starts items fields w part after parts rest apart follows e (says_word w part y says) (subst (λ (l : List Part). AreFields items fields l rest) (sym is) fit))
  one_many w (x ∷ xs) [] parts more next apart (part, after, e, says, said) is fit fit_too =
      absurd (never_starts items others w part after parts other apart follows_too e (says_word w part x says) (subst (λ (l : List Part). AreFields items others l other) (sym is) fit_too))
  one_many w (x ∷ xs) (y ∷ ys) parts more next apart (part, after, e, says, said) (part2, after2, e2, says2, said2) fit fit_too =
      let c = cons_parts part part2 after after2 parts e e2 in
      let field = one_field w part2 x y (subst (λ p. Says w p x) c.0 says) says2 in
      let m = one_many w xs ys after2 more next apart (subst (λ (l : List Part). AreSaid w xs l more) c.1 said) said2 fit fit_too in
      ((λ i. field i ∷ m.0 i), m.1)

  one_operations : (ops others_too : List Spelled) (parts more next : List Part) → is_elsewhere word.Operation items ≡ true → is_elsewhere word.InlineOperation items ≡ true
      → AreOperations ops parts more → AreOperations others_too parts next → AreFields items fields more rest → AreFields items others next other → AreOne ops others_too more next
  one_operations [] [] parts more next a b is too fit fit_too = (refl, sym is ∙ too)
  one_operations [] (Alone line ∷ ops) parts more next a b is (part, after, e, says, said) fit fit_too =
      absurd (never_starts items fields word.Operation part after parts rest a follows e (says_word word.Operation part line says) (subst (λ (l : List Part). AreFields items fields l rest) (sym is) fit))
  one_operations [] (WithBytes line bytes ∷ ops) parts more next a b is (part, data_part, after, e, says, data_says, said) fit fit_too =
      absurd (never_starts items fields word.InlineOperation part (data_part ∷ after) parts rest b follows e (says_word word.InlineOperation part line says)
      (subst (λ (l : List Part). AreFields items fields l rest) (sym is) fit))
  one_operations (Alone line ∷ ops) [] parts more next a b (part, after, e, says, said) is fit fit_too =
      absurd (never_starts items others word.Operation part after parts other a follows_too e (says_word word.Operation part line says) (subst (λ (l : List Part). AreFields items others l other) (sym is) fit_too))
  one_operations (WithBytes line bytes ∷ ops) [] parts more next a b (part, data_part, after, e, says, data_says, said) is fit fit_too =
      absurd (never_starts items others word.InlineOperation part (data_part ∷ after) parts other b follows_too e (says_word word.InlineOperation part line says)
      (subst (λ (l : List Part). AreFields items others l other) (sym is) fit_too))
  one_operations (Alone line ∷ ops) (Alone line2 ∷ ops2) parts more next a b (part, after, e, says, said) (part2, after2, e2, says2, said2) fit fit_too =
      let c = cons_parts part part2 after after2 parts e e2 in
      let field = one_field word.Operation part2 line line2 (subst (λ p. Says word.Operation p line) c.0 says) says2 in
      let m = one_operations ops ops2 after2 more next a b (subst (λ (l : List Part). AreOperations ops l more) c.1 said) said2 fit fit_too in
      ((λ i. Alone (field i) ∷ m.0 i), m.1)
  one_operations (Alone line ∷ ops) (WithBytes line2 bytes2 ∷ ops2) parts more next a b (part, after, e, says, said) (part2, data2, after2, e2, says2, data_says2, said2) fit fit_too =
      let c = cons_parts part part2 after (data2 ∷ after2) parts e e2 in
      absurd (let no_word : word.Operation ≡ word.InlineOperation = sym (says_word word.Operation part line says) ∙ ap word_in c.0 ∙ says_word word.InlineOperation part2 line2 says2 in cc)
  one_operations (WithBytes line bytes ∷ ops) (Alone line2 ∷ ops2) parts more next a b (part, data_part, after, e, says, data_says, said) (part2, after2, e2, says2, said2) fit fit_too =
      let c = cons_parts part part2 (data_part ∷ after) after2 parts e e2 in
      absurd (let no_word : word.InlineOperation ≡ word.Operation = sym (says_word word.InlineOperation part line says) ∙ ap word_in c.0 ∙ says_word word.Operation part2 line2 says2 in cc)
  one_operations (WithBytes line bytes ∷ ops) (WithBytes line2 bytes2 ∷ ops2) parts more next a b (part, data_part, after, e, says, data_says, said) (part2, data2, after2, e2, says2, data_says2, said2) fit fit_too =
      let c = cons_parts part part2 (data_part ∷ after) (data2 ∷ after2) parts e e2 in
      let d = cons_parts data_part data2 after after2 (data_part ∷ after) refl c.1 in
      let field = one_field word.InlineOperation part2 line line2 (subst (λ p. Says word.InlineOperation p line) c.0 says) says2 in
      let block = one_field word.Data data2 bytes bytes2 (subst (λ p. Says word.Data p bytes) d.0 data_says) data_says2 in
      let m = one_operations ops ops2 after2 more next a b (subst (λ (l : List Part). AreOperations ops l more) d.1 said) said2 fit fit_too in
      ((λ i. WithBytes (field i) (block i) ∷ m.0 i), m.1)

one_fields : (items : List Item) (fields others : Values items) (parts rest other : List Part) → are_apart items ≡ true → MayFollow rest → MayFollow other
    → AreFields items fields parts rest → AreFields items others parts other → AreOne fields others rest other
one_fields [] fields others parts rest other apart follows follows_too is too = (refl, sym is ∙ too)
one_fields (One w ∷ items) (x, fields) (y, others) parts rest other apart follows follows_too (part, more, e, says, said) (part2, more2, e2, says2, said2) =
    let c = cons_parts part part2 more more2 parts e e2 in
    let field = one_field w part2 x y (subst (λ p. Says w p x) c.0 says) says2 in
    let m = one_fields items fields others more2 rest other apart follows follows_too (subst (λ (l : List Part). AreFields items fields l rest) c.1 said) said2 in
    ((λ i. (field i, m.0 i)), m.1)
one_fields (Perhaps w ∷ items) (None, fields) (None, others) parts rest other apart follows follows_too said said2 =
    let m = one_fields items fields others parts rest other (and_parts (is_elsewhere w items) (are_apart items) apart).1 follows follows_too said said2 in
    ((λ i. (None, m.0 i)), m.1)
one_fields (Perhaps w ∷ items) (None, fields) (Some y, others) parts rest other apart follows follows_too said (part2, more2, e2, says2, said2) =
    absurd (never_starts items fields w part2 more2 parts rest (and_parts (is_elsewhere w items) (are_apart items) apart).0 follows e2 (says_word w part2 y says2) said)
one_fields (Perhaps w ∷ items) (Some x, fields) (None, others) parts rest other apart follows follows_too (part, more, e, says, said) said2 =
    absurd (never_starts items others w part more parts other (and_parts (is_elsewhere w items) (are_apart items) apart).0 follows_too e (says_word w part x says) said2)
one_fields (Perhaps w ∷ items) (Some x, fields) (Some y, others) parts rest other apart follows follows_too (part, more, e, says, said) (part2, more2, e2, says2, said2) =
    let c = cons_parts part part2 more more2 parts e e2 in
    let field = one_field w part2 x y (subst (λ p. Says w p x) c.0 says) says2 in
    let m = one_fields items fields others more2 rest other (and_parts (is_elsewhere w items) (are_apart items) apart).1 follows follows_too (subst (λ (l : List Part). AreFields items fields l rest) c.1 said) said2 in
    ((λ i. (Some (field i), m.0 i)), m.1)
one_fields (Many w ∷ items) (xs, fields) (ys, others) parts rest other apart follows follows_too (more, said, fit) (more2, said2, fit2) =
    let both = and_parts (is_elsewhere w items) (are_apart items) apart in
    let a = one_many items fields others rest other follows follows_too w xs ys parts more more2 both.0 said said2 fit fit2 in
    let m = one_fields items fields others more2 rest other both.1 follows follows_too (subst (λ (l : List Part). AreFields items fields l rest) a.1 fit) fit2 in
    ((λ i. (a.0 i, m.0 i)), m.1)
one_fields (Operations ∷ items) (ops, fields) (ops2, others) parts rest other apart follows follows_too (more, said, fit) (more2, said2, fit2) =
    let b = and_parts (is_elsewhere word.Operation items) (is_elsewhere word.InlineOperation items && are_apart items) apart in
    let d = and_parts (is_elsewhere word.InlineOperation items) (are_apart items) b.1 in
    let a = one_operations items fields others rest other follows follows_too ops ops2 parts more more2 b.0 d.0 said said2 fit fit2 in
    let m = one_fields items fields others more2 rest other d.1 follows follows_too (subst (λ (l : List Part). AreFields items fields l rest) a.1 fit) fit2 in
    ((λ i. (a.0 i, m.0 i)), m.1)

-- ---- one list of events

all_apart : (f : Form) → are_apart (lines_of f) ≡ true
all_apart ABlob = refl
all_apart _ = refl

-- an event begins with its own first line
first_line : (raw : Raw) (parts rest : List Part) → AreFields (lines_of raw.form) raw.fields parts rest
    → (part : Part) × (more : List Part) × (parts ≡ part ∷ more) × (word_in part ≡ first_of raw.form)
first_line raw parts rest said = go raw.form raw.fields said
  where
    first : (f : Form) (part : Part) (more : List Part) (x : Field (first_of f)) → parts ≡ part ∷ more → Says (first_of f) part x
        → (part : Part) × (more : List Part) × (parts ≡ part ∷ more) × (word_in part ≡ first_of f)
    first f part more x is says = (part, more, is, says_word (first_of f) part x says)

    go : (f : Form) (fields : Values (lines_of f)) → AreFields (lines_of f) fields parts rest → (part : Part) × (more : List Part) × (parts ≡ part ∷ more) × (word_in part ≡ first_of f)
    go ABlob (x, fields) (part, more, is, says, said) = first ABlob part more x is says
    go ACommit (x, fields) (part, more, is, says, said) = first ACommit part more x is says
    go ATag (x, fields) (part, more, is, says, said) = first ATag part more x is says
    go AReset (x, fields) (part, more, is, says, said) = first AReset part more x is says
    go AnAlias (x, fields) (part, more, is, says, said) = first AnAlias part more x is says
    go APass (x, fields) (part, more, is, says, said) = first APass part more x is says
    go APromise (x, fields) (part, more, is, says, said) = first APromise part more x is says
    go AnEmptyLine (x, fields) (part, more, is, says, said) = first AnEmptyLine part more x is says

begins_event : (f : Form) → may_begin (first_of f) ≡ true
begins_event ABlob = refl
begins_event _ = refl

same_first : (f g : Form) → first_of f ≡ first_of g → f ≡ g
same_first f g e = sym (form_is f) ∙ ap form_at e ∙ form_is g
  where
    form_at : Word → Form
    form_at word.Blob = ABlob
    form_at word.Commit = ACommit
    form_at word.Tag = ATag
    form_at word.Reset = AReset
    form_at word.Alias = AnAlias
    form_at word.Pass = APass
    form_at word.FeatureDone = APromise
    form_at _ = AnEmptyLine

    form_is : (f : Form) → form_at (first_of f) ≡ f
    form_is ABlob = refl
    form_is _ = refl

-- at the end there is no event
abbrev IsLast : List Part → Type 0
IsLast parts = (promised : Bool) × IsEnd promised (words_of parts)

-- it begins with `done`, if with anything
last_word : (part : Part) (parts : List Part) → AreProper (part ∷ parts) → IsLast (part ∷ parts) → word_in part ≡ word.Done
last_word (Comment line) parts good end = absurd (true≢false (sym good.0))
last_word (Line line) parts good (promised, inl e) = cc
last_word (Line line) parts good (promised, inr (free, e)) = absurd cc
last_word (WithData line bytes) parts good (promised, inl e) = absurd (let no_word : word.Data ≡ word.Done = cc in cc)
last_word (WithData line bytes) parts good (promised, inr (free, e)) = absurd cc
last_word (DoneLine line) parts good end = refl

end_follows : (parts : List Part) → AreProper parts → IsLast parts → MayFollow parts
end_follows [] good end = tt
end_follows (part ∷ parts) good end = ap may_begin (last_word part parts good end)

events_follow : (raws : List Raw) (parts rest : List Part) → AreProper parts → AreEvents raws parts rest → IsLast rest → MayFollow parts
events_follow [] parts rest good is end = end_follows parts good (subst IsLast (sym is) end)
events_follow (raw ∷ raws) parts rest good (more, said, others) end =
    let x = first_line raw parts more said in
    subst MayFollow (sym x.2) (ap may_begin x.3 ∙ begins_event raw.form)

not_done : (f : Form) → first_of f ≢ word.Done
not_done ABlob e = absurd cc
not_done _ e = absurd cc

no_event : (raw : Raw) (parts rest more : List Part) → AreProper parts → parts ≡ rest → IsLast rest → AreFields (lines_of raw.form) raw.fields parts more → ⊥
no_event raw parts rest more good is end said =
    let x = first_line raw parts more said in
    not_done raw.form (sym x.3 ∙ last_word x.0 x.1 (subst AreProper x.2 good) (subst IsLast (sym is ∙ x.2) end))

-- the same first event, and the same after it
abbrev IsEvent : Raw → List Part → List Part → Form → Type 0
IsEvent other parts next f =
    (fields : Values (lines_of f)) (more : List Part) → MayFollow more → AreFields (lines_of f) fields parts more
    → AreOne (record { form = f; fields = fields }) other more next

one_event : (raw other : Raw) (parts more next : List Part) → MayFollow more → MayFollow next → AreFields (lines_of raw.form) raw.fields parts more
    → AreFields (lines_of other.form) other.fields parts next → AreOne raw other more next
one_event raw other parts more next follows follows_too said said_too =
    let x = first_line raw parts more said in
    let y = first_line other parts next said_too in
    let c = cons_parts x.0 y.0 x.1 y.1 parts x.2 y.2 in
    let form = same_first raw.form other.form (sym x.3 ∙ ap word_in c.0 ∙ y.3) in
    subst (IsEvent other parts next) (sym form) own raw.fields more follows said
  where
    own : IsEvent other parts next other.form
    own fields more follows said =
        let m = one_fields (lines_of other.form) fields other.fields parts more next (all_apart other.form) follows follows_too said said_too in
        ((λ i. record { form = other.form; fields = m.0 i }), m.1)

one_list : (raws others : List Raw) (parts rest other : List Part) → AreProper parts → AreEvents raws parts rest → AreEvents others parts other → IsLast rest → IsLast other → raws ≡ others
one_list [] [] parts rest other good said said_too end end_too = refl
one_list [] (raw ∷ others) parts rest other good is (next, said, later) end end_too = absurd (no_event raw parts rest next good is end said)
one_list (raw ∷ raws) [] parts rest other good (more, said, later) is end end_too = absurd (no_event raw parts other more good is end_too said)
one_list (raw ∷ raws) (second ∷ others) parts rest other good (more, said, later) (next, said_too, later_too) end end_too =
    let after = events_left (raw ∷ []) parts more (more, said, refl) good in
    let after_too = events_left (second ∷ []) parts next (next, said_too, refl) good in
    let m = one_event raw second parts more next (events_follow raws more rest after later end) (events_follow others next other after_too later_too end_too) said said_too in
    let l = one_list raws others next rest other after_too (subst (λ (l : List Part). AreEvents raws l rest) m.1 later) later_too end end_too in
    (λ i. m.0 i ∷ l i)

pub one_list_of_events : (text : Bytes) (raws others : List Raw) → SpellsRaw text raws → SpellsRaw text others → raws ≡ others
one_list_of_events text raws others (parts, rest, there, are, end) (parts2, rest2, there2, are2, end2) =
    let same_parts = one_list_of_parts parts2 parts text there2 there in
    one_list raws others (without_comments parts) rest rest2 (proper parts text there) are
    (subst (λ (l : List Part). AreEvents others (without_comments l) rest2) same_parts are2) (list_any is_promise (forms_of raws), end) (list_any is_promise (forms_of others), end2)
