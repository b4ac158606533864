-- The lines of a spelled text are the fields of its events, and mean what these do.
use Rattle.std.proofs.Common.{◌≡◌, ℕ, zero, suc, Bool, true, false, not, List, [], ◌∷◌, ◌++◌, Some, None, Result, Ok, Err, refl, sym, ◌∙◌, ap, subst, inl, inr}
use Rattle.std.specs.Prelude.{◌≢◌, ◌&&◌, ◌||◌}
use Rattle.std.proofs.lemmas.Bool.{and_parts, true≢false, not-true}
use Rattle.plain_model.specs.declared.fault.Why.{Why}
use Rattle.plain_model.specs.Fields.{◌>>=◌}
use Rattle.plain_model.specs.Paths.{Bytes}
use Rattle.field_laws.proofs.FieldSteps.{bind_ok, same_Ok, ok_then}
use Rattle.stream_grammar.specs.declared.lines.Word.{Word}
use Rattle.stream_grammar.specs.declared.lines.Word.TheVariants as word
use Rattle.stream_grammar.specs.Known.{Known, with_data}
use Rattle.stream_grammar.specs.Lines.{judged, word_of}
use Rattle.production_laws.specs.Meanings.{is_inline_word, is_inline_after, part_read, parts_read}
use Rattle.production_laws.specs.Productions.{AreForms, Change, Fit, Form, IsEnd, Item, lines_of, operations, several}
use Rattle.production_laws.specs.Productions.Change.{Alone as ByItself, Inline as HasInline}
use Rattle.production_laws.specs.Productions.Form.{ABlob}
use Rattle.production_laws.specs.Productions.Item.{Many, One, Operations, Perhaps}
use Rattle.production_laws.specs.Raw.{AreEvents, AreFields, AreOperations, AreSaid, Field, Raw, Says, Spelled, Values, each_meant, events_meant, fields_meant, forms_of, meant, operations_meant, without_comments}
use Rattle.production_laws.specs.Raw.Spelled.{Alone, WithBytes}
use Rattle.production_laws.specs.Texts.{HasParts, Part, is_alone, words_of}
use Rattle.production_laws.specs.Texts.Part.{Comment, DoneLine, Line, WithData}
use Rattle.production_laws.proofs.FieldsMeant.{data_keeps, is_commit, is_kept, is_op_word, keeps, line_means, line_meant, op_keeps}

-- ---- without comments

abbrev is_proper : Part → Bool
is_proper (Comment line) = false
is_proper (Line line) = is_alone (word_of line)
is_proper (WithData line bytes) = true
is_proper (DoneLine line) = true

-- no comments, and a line by itself has no data and isn't `done`
abbrev pub AreProper : List Part → Type 0
AreProper [] = Unit {0}
AreProper (part ∷ parts) = (is_proper part ≡ true) × AreProper parts

pub proper : (parts : List Part) (text : Bytes) → HasParts text parts → AreProper (without_comments parts)
proper [] text h = tt
proper (Comment line ∷ parts) text (rest, there, comment, are) = proper parts rest are
proper (Line line ∷ parts) text (rest, there, plain, alone, are) = (alone, proper parts rest are)
proper (WithData line bytes ∷ parts) text (block, rest, there, plain, is, held, are) = (refl, proper parts rest are)
proper (DoneLine line ∷ parts) text (rest, there, plain, is, last) = (refl, subst (λ (l : List Part). AreProper (without_comments l)) (sym last) tt)

pub same_words : (parts : List Part) → words_of parts ≡ words_of (without_comments parts)
same_words [] = refl
same_words (Comment line ∷ parts) = same_words parts
same_words (Line line ∷ parts) = ap (λ (l : List Word). word_of line ∷ l) (same_words parts)
same_words (WithData line bytes ∷ parts) = ap (λ (l : List Word). word.Data ∷ l) (same_words parts)
same_words (DoneLine line ∷ parts) = ap (λ (l : List Word). word.Done ∷ l) (same_words parts)

then_same : (r : Result Known Why) (f g : Known → Result Known Why) → ((k : Known) → f k ≡ g k) → (r >>= f) ≡ (r >>= g)
then_same (Ok k) f g h = h k
then_same (Err why) f g h = refl

pub same_meaning : (parts : List Part) (inline : Bool) (k : Known) → parts_read inline parts k ≡ parts_read inline (without_comments parts) k
same_meaning [] inline k = refl
same_meaning (Comment line ∷ parts) inline k = same_meaning parts inline k
same_meaning (Line line ∷ parts) inline k =
    then_same (judged (word_of line) line k) (parts_read (is_inline_word (word_of line)) parts) (parts_read (is_inline_word (word_of line)) (without_comments parts))
    (same_meaning parts (is_inline_word (word_of line)))
same_meaning (WithData line bytes ∷ parts) inline k = same_meaning parts false (with_data inline bytes k)
same_meaning (DoneLine line ∷ parts) inline k = same_meaning parts false k

-- ---- one part

-- a word that may stand in an event
abbrev is_plain : Word → Bool
is_plain word.Done = false
is_plain word.LeftOut = false
is_plain word.Other = false
is_plain _ = true

head_is : (v w : Word) (vs ws : List Word) → ◌≡◌ {A = List Word} (v ∷ vs) (w ∷ ws) → (v ≡ w) × (vs ≡ ws)
head_is v w vs ws e = (cc, cc)

-- the first part is a line of the word, whose field means this; then come the others
pub record Takes (w : Word) (ws : List Word) (parts : List Part) (k final : Known) : Type 0 where
  pub part : Part
  pub more : List Part
  pub field : Field w
  pub known : Known
  pub is : parts ≡ part ∷ more
  pub says : Says w part field
  pub means : meant false w field k ≡ Ok known
  pub read : parts_read (is_inline_word w) more known ≡ Ok final
  pub words : words_of more ≡ ws
  pub are_proper : AreProper more

not_left_out : (w : Word) → is_plain w ≡ true → w ≢ word.LeftOut
not_left_out w h e = true≢false (sym h ∙ ap is_plain e)

not_other : (w : Word) → is_plain w ≡ true → w ≢ word.Other
not_other w h e = true≢false (sym h ∙ ap is_plain e)

take_part : (w : Word) (ws : List Word) (parts : List Part) (k final : Known) → is_plain w ≡ true → (is_op_word w ≡ true → is_commit k.current ≡ true) → AreProper parts
    → words_of parts ≡ w ∷ ws → parts_read false parts k ≡ Ok final → Takes w ws parts k final
take_part w ws [] k final plain within good e read = absurd cc
take_part w ws (Comment line ∷ parts) k final plain within good e read = absurd (true≢false (sym good.0))
take_part w ws (Line line ∷ parts) k final plain within good e read =
    let x = head_is (word_of line) w (words_of parts) ws e in
    let a = bind_ok (judged (word_of line) line k) (parts_read (is_inline_word (word_of line)) parts) final read in
    let own : is_plain (word_of line) ≡ true = ap is_plain x.0 ∙ plain in
    let m = line_means (word_of line) line k a.0 good.0 (not_left_out (word_of line) own) (not_other (word_of line) own) (λ op. within (ap is_op_word (sym x.0) ∙ op)) a.1 in
    subst (λ (v : Word). Takes v ws (Line line ∷ parts) k final) x.0
    (record { part = Line line; more = parts; field = m.0; known = a.0; is = refl; says = (refl, m.1); means = m.2; read = a.2; words = x.1; are_proper = good.1 })
take_part w ws (WithData line bytes ∷ parts) k final plain within good e read =
    let x = head_is word.Data w (words_of parts) ws e in
    subst (λ (v : Word). Takes v ws (WithData line bytes ∷ parts) k final) x.0
    (record { part = WithData line bytes; more = parts; field = bytes; known = with_data false bytes k; is = refl; says = refl; means = refl; read = read; words = x.1; are_proper = good.1 })
take_part w ws (DoneLine line ∷ parts) k final plain within good e read =
    let x = head_is word.Done w (words_of parts) ws e in absurd (true≢false (sym plain ∙ ap is_plain (sym x.0)))

-- the data of an operation
take_data : (ws : List Word) (parts : List Part) (k final : Known) → AreProper parts → words_of parts ≡ word.Data ∷ ws → parts_read true parts k ≡ Ok final
    → (part : Part) × (more : List Part) × (bytes : Bytes) × (parts ≡ part ∷ more) × Says word.Data part bytes
    × (parts_read false more (with_data true bytes k) ≡ Ok final) × (words_of more ≡ ws) × AreProper more
take_data ws [] k final good e read = absurd cc
take_data ws (Comment line ∷ parts) k final good e read = absurd (true≢false (sym good.0))
take_data ws (Line line ∷ parts) k final good e read =
    let x = head_is (word_of line) word.Data (words_of parts) ws e in absurd (true≢false (sym good.0 ∙ ap is_alone x.0))
take_data ws (WithData line bytes ∷ parts) k final good e read =
    let x = head_is word.Data word.Data (words_of parts) ws e in (WithData line bytes, parts, bytes, refl, refl, read, x.1, good.1)
take_data ws (DoneLine line ∷ parts) k final good e read = let x = head_is word.Done word.Data (words_of parts) ws e in absurd (let no_word : word.Done ≡ word.Data = x.0 in cc)

-- a part that says a field means it
put_part : (w : Word) (part : Part) (x : Field w) (k known : Known) → Says w part x → meant false w x k ≡ Ok known → part_read false part k ≡ Ok known
put_part w (Line line) x k known (is, field) means = ap (λ v. judged v line k) is ∙ line_meant w line k known x field means
put_part word.Data (WithData line bytes) x k known is means = ap (λ (l : Bytes). Ok (with_data false l k)) is ∙ means
put_part _ part x k known says means = absurd says

put_word : (w : Word) (part : Part) (x : Field w) (more : List Part) → Says w part x → words_of (part ∷ more) ≡ w ∷ words_of more
put_word w (Line line) x more (is, field) = ap (λ v. v ∷ words_of more) is
put_word word.Data (WithData line bytes) x more is = refl
put_word _ part x more says = absurd says

put_flag : (w : Word) (part : Part) (x : Field w) → Says w part x → is_inline_after false part ≡ is_inline_word w
put_flag w (Line line) x (is, field) = ap is_inline_word is
put_flag word.Data (WithData line bytes) x is = refl
put_flag _ part x says = absurd says

-- ---- the lines of a place

abbrev is_item : Word → Bool
is_item w = is_plain w && not (is_op_word w)

no_inline : (w : Word) → not (is_op_word w) ≡ true → is_inline_word w ≡ false
no_inline word.InlineOperation e = absurd (true≢false (sym e))
no_inline word.Empty e = refl
no_inline _ e = refl

never_op : (w : Word) (k : Known) → is_item w ≡ true → is_op_word w ≡ true → is_commit k.current ≡ true
never_op w k h e = absurd (true≢false (sym e ∙ not-true (is_op_word w) (and_parts (is_plain w) (not (is_op_word w)) h).1))

-- after a line that is no operation with `inline` no data of one are there
plainly_read : (w : Word) (parts : List Part) (k final : Known) → is_item w ≡ true → parts_read (is_inline_word w) parts k ≡ Ok final → parts_read false parts k ≡ Ok final
plainly_read w parts k final h e =
    ap (λ f. parts_read f parts k) (sym (no_inline w (and_parts (is_plain w) (not (is_op_word w)) h).1)) ∙ e

inline_read : (w : Word) (parts : List Part) (k final : Known) → is_item w ≡ true → parts_read false parts k ≡ Ok final → parts_read (is_inline_word w) parts k ≡ Ok final
inline_read w parts k final h e =
    ap (λ f. parts_read f parts k) (no_inline w (and_parts (is_plain w) (not (is_op_word w)) h).1) ∙ e

are_items : List Item → Bool
are_items [] = true
are_items (One w ∷ items) = is_item w && are_items items
are_items (Perhaps w ∷ items) = is_item w && are_items items
are_items (Many w ∷ items) = is_item w && are_items items
are_items (Operations ∷ items) = are_items items

-- the parts begin with lines that say and mean these fields, and are read on
pub record Begins (says : List Part → Type 0) (means : Known → Type 0) (ws : List Word) (final : Known) : Type 0 where
  pub rest : List Part
  pub known : Known
  pub said : says rest
  pub meant : means known
  pub read : parts_read false rest known ≡ Ok final
  pub words : words_of rest ≡ ws
  pub are_proper : AreProper rest

abbrev Many' : (w : Word) → List Part → Known → List Word → Known → Type 0
Many' w parts k ws final = (xs : List (Field w)) × Begins (AreSaid w xs parts) (λ known. each_meant w xs k ≡ Ok known) ws final

take_many : (n : ℕ) (w : Word) (ws : List Word) (parts : List Part) (k final : Known) → is_item w ≡ true → AreProper parts → words_of parts ≡ several n w ++ ws
    → parts_read false parts k ≡ Ok final → Many' w parts k ws final
take_many zero w ws parts k final h good e read = ([], record { rest = parts; known = k; said = refl; meant = refl; read = read; words = e; are_proper = good })
take_many (suc n) w ws parts k final h good e read =
    let t = take_part w (several n w ++ ws) parts k final (and_parts (is_plain w) (not (is_op_word w)) h).0 (never_op w k h) good e read in
    let m = take_many n w ws t.more t.known final h t.are_proper t.words (plainly_read w t.more t.known final h t.read) in
    let b = m.1 in (
      t.field ∷ m.0,
      record {
        rest = b.rest;
        known = b.known;
        said = (t.part, t.more, t.is, t.says, b.said);
        meant = ok_then (meant false w t.field k) (each_meant w m.0) t.known (Ok b.known) t.means b.meant;
        read = b.read;
        words = b.words;
        are_proper = b.are_proper;
      },
    )

take_operations : (changes : List Change) (ws : List Word) (parts : List Part) (k final : Known) → is_commit k.current ≡ true → AreProper parts → words_of parts ≡ operations changes ++ ws
    → parts_read false parts k ≡ Ok final → (ops : List Spelled) × Begins (AreOperations ops parts) (λ known. operations_meant ops k ≡ Ok known) ws final
take_operations [] ws parts k final c good e read = ([], record { rest = parts; known = k; said = refl; meant = refl; read = read; words = e; are_proper = good })
take_operations (ByItself ∷ changes) ws parts k final c good e read =
    let t = take_part word.Operation (operations changes ++ ws) parts k final refl (λ op. c) good e read in
    let m = take_operations changes ws t.more t.known final (op_keeps k t.known t.field c t.means) t.are_proper t.words t.read in
    let b = m.1 in (
      Alone t.field ∷ m.0,
      record {
        rest = b.rest;
        known = b.known;
        said = (t.part, t.more, t.is, t.says, b.said);
        meant = ok_then (meant false word.Operation t.field k) (operations_meant m.0) t.known (Ok b.known) t.means b.meant;
        read = b.read;
        words = b.words;
        are_proper = b.are_proper;
      },
    )
take_operations (HasInline ∷ changes) ws parts k final c good e read =
    let t = take_part word.InlineOperation (word.Data ∷ operations changes ++ ws) parts k final refl (λ op. c) good e read in
    let d = take_data (operations changes ++ ws) t.more t.known final t.are_proper t.words t.read in
    let m = take_operations changes ws d.1 (with_data true d.2 t.known) final (data_keeps t.known true d.2 (op_keeps k t.known t.field c t.means)) d.7 d.6 d.5 in
    let b = m.1 in (
      WithBytes t.field d.2 ∷ m.0,
      record {
        rest = b.rest;
        known = b.known;
        said = (t.part, d.0, d.1, t.is ∙ ap (λ (l : List Part). t.part ∷ l) d.3, t.says, d.4, b.said);
        meant =
            ok_then (meant false word.InlineOperation t.field k) (λ known. meant true word.Data d.2 known >>= λ there. operations_meant m.0 there) t.known (Ok b.known) t.means b.meant;
        read = b.read;
        words = b.words;
        are_proper = b.are_proper;
      },
    )

abbrev Fields' : List Item → List Part → Known → List Word → Known → Type 0
Fields' items parts k ws final = (fields : Values items) × Begins (AreFields items fields parts) (λ known. fields_meant items fields k ≡ Ok known) ws final

-- operations come only where a commit is being read
abbrev are_within : Bool → List Item → Bool
are_within b [] = true
are_within b (One w ∷ items) = are_within (keeps w b) items
are_within b (Perhaps w ∷ items) = (not b || keeps w b) && are_within b items
are_within b (Many w ∷ items) = (not b || keeps w b) && are_within b items
are_within b (Operations ∷ items) = b && are_within b items

implied : (b c : Bool) → (not b || c) ≡ true → b ≡ true → c ≡ true
implied true c h e = h
implied false c h e = absurd (true≢false (sym e))

many_keep : (w : Word) (xs : List (Field w)) (k new : Known) (b : Bool) → (b ≡ true → is_commit k.current ≡ true) → (not b || keeps w b) ≡ true → each_meant w xs k ≡ Ok new
    → b ≡ true → is_commit new.current ≡ true
many_keep w [] k new b c h means e = subst (λ (q : Known). is_commit q.current ≡ true) (same_Ok k new means) (c e)
many_keep w (x ∷ xs) k new b c h means e =
    let a = bind_ok (meant false w x k) (each_meant w xs) new means in
    many_keep w xs a.0 new b (λ e. is_kept w x k a.0 b c a.1 (implied b (keeps w b) h e)) h a.2 e

operations_keep : (ops : List Spelled) (k new : Known) → is_commit k.current ≡ true → operations_meant ops k ≡ Ok new → is_commit new.current ≡ true
operations_keep [] k new c means = subst (λ (q : Known). is_commit q.current ≡ true) (same_Ok k new means) c
operations_keep (Alone op ∷ ops) k new c means =
    let a = bind_ok (meant false word.Operation op k) (operations_meant ops) new means in operations_keep ops a.0 new (op_keeps k a.0 op c a.1) a.2
operations_keep (WithBytes op bytes ∷ ops) k new c means =
    let a = bind_ok (meant false word.InlineOperation op k) (λ known. meant true word.Data bytes known >>= λ there. operations_meant ops there) new means in
    operations_keep ops (with_data true bytes a.0) new (data_keeps a.0 true bytes (op_keeps k a.0 op c a.1)) a.2

take_fields : (b : Bool) (items : List Item) (ws : List Word) (parts : List Part) (k final : Known) → are_items items ≡ true → are_within b items ≡ true → (b ≡ true → is_commit k.current ≡ true) → AreProper parts → Fit items (words_of parts) ws
    → parts_read false parts k ≡ Ok final → Fields' items parts k ws final
unfolding are_items are_within
take_fields b [] ws parts k final h r c good e read = (tt, record { rest = parts; known = k; said = refl; meant = refl; read = read; words = e; are_proper = good })
take_fields b (One w ∷ items) ws parts k final h r c good (more, is, fit) read =
    let both = and_parts (is_item w) (are_items items) h in
    let t = take_part w more parts k final (and_parts (is_plain w) (not (is_op_word w)) both.0).0 (never_op w k both.0) good is read in
    let m = take_fields (keeps w b) items ws t.more t.known final both.1 r (is_kept w t.field k t.known b c t.means) t.are_proper (subst (λ (l : List Word). Fit items l ws) (sym t.words) fit) (plainly_read w t.more t.known final both.0 t.read) in
    let b = m.1 in (
      (t.field, m.0),
      record {
        rest = b.rest;
        known = b.known;
        said = (t.part, t.more, t.is, t.says, b.said);
        meant = ok_then (meant false w t.field k) (fields_meant items m.0) t.known (Ok b.known) t.means b.meant;
        read = b.read;
        words = b.words;
        are_proper = b.are_proper;
      },
    )
take_fields b (Perhaps w ∷ items) ws parts k final h r c good (inl fit) read =
    let both = and_parts (is_item w) (are_items items) h in
    let m = take_fields b items ws parts k final both.1 (and_parts (not b || keeps w b) (are_within b items) r).1 c good fit read in
    let b = m.1 in
    ((None, m.0), record { rest = b.rest; known = b.known; said = b.said; meant = b.meant; read = b.read; words = b.words; are_proper = b.are_proper })
take_fields b (Perhaps w ∷ items) ws parts k final h r c good (inr (more, is, fit)) read =
    let both = and_parts (is_item w) (are_items items) h in
    let stays = and_parts (not b || keeps w b) (are_within b items) r in
    let t = take_part w more parts k final (and_parts (is_plain w) (not (is_op_word w)) both.0).0 (never_op w k both.0) good is read in
    let m = take_fields b items ws t.more t.known final both.1 stays.1 (λ e. is_kept w t.field k t.known b c t.means (implied b (keeps w b) stays.0 e)) t.are_proper (subst (λ (l : List Word). Fit items l ws) (sym t.words) fit) (plainly_read w t.more t.known final both.0 t.read) in
    let b = m.1 in (
      (Some t.field, m.0),
      record {
        rest = b.rest;
        known = b.known;
        said = (t.part, t.more, t.is, t.says, b.said);
        meant = ok_then (meant false w t.field k) (fields_meant items m.0) t.known (Ok b.known) t.means b.meant;
        read = b.read;
        words = b.words;
        are_proper = b.are_proper;
      },
    )
take_fields b (Many w ∷ items) ws parts k final h r c good (n, more, is, fit) read =
    let both = and_parts (is_item w) (are_items items) h in
    let stays = and_parts (not b || keeps w b) (are_within b items) r in
    let t = take_many n w more parts k final both.0 good is read in
    let a = t.1 in
    let m = take_fields b items ws a.rest a.known final both.1 stays.1 (many_keep w t.0 k a.known b c stays.0 a.meant) a.are_proper (subst (λ (l : List Word). Fit items l ws) (sym a.words) fit) a.read in
    let b = m.1 in (
      (t.0, m.0),
      record {
        rest = b.rest;
        known = b.known;
        said = (a.rest, a.said, b.said);
        meant = ok_then (each_meant w t.0 k) (fields_meant items m.0) a.known (Ok b.known) a.meant b.meant;
        read = b.read;
        words = b.words;
        are_proper = b.are_proper;
      },
    )
take_fields b (Operations ∷ items) ws parts k final h r c good (changes, more, is, fit) read =
    let stays = and_parts b (are_within b items) r in
    let t = take_operations changes more parts k final (c stays.0) good is read in
    let a = t.1 in
    let m = take_fields b items ws a.rest a.known final h stays.1 (λ e. operations_keep t.0 k a.known (c e) a.meant) a.are_proper (subst (λ (l : List Word). Fit items l ws) (sym a.words) fit) a.read in
    let b = m.1 in (
      (t.0, m.0),
      record {
        rest = b.rest;
        known = b.known;
        said = (a.rest, a.said, b.said);
        meant = ok_then (operations_meant t.0 k) (fields_meant items m.0) a.known (Ok b.known) a.meant b.meant;
        read = b.read;
        words = b.words;
        are_proper = b.are_proper;
      },
    )

all_within : (f : Form) → are_within false (lines_of f) ≡ true
unfolding are_within
all_within ABlob = refl
all_within _ = refl

nothing_yet : (k : Known) → false ≡ true → is_commit k.current ≡ true
nothing_yet k e = absurd (true≢false (sym e))

all_items : (f : Form) → are_items (lines_of f) ≡ true
unfolding are_items
all_items ABlob = refl
all_items _ = refl

-- ---- events

pub take_events : (forms : List Form) (ws : List Word) (parts : List Part) (k final : Known) → AreProper parts → AreForms forms (words_of parts) ws
    → parts_read false parts k ≡ Ok final
    → (raws : List Raw) × (forms_of raws ≡ forms) × Begins (AreEvents raws parts) (λ known. events_meant raws k ≡ Ok known) ws final
take_events [] ws parts k final good e read = ([], refl, record { rest = parts; known = k; said = refl; meant = refl; read = read; words = e; are_proper = good })
take_events (f ∷ forms) ws parts k final good (more, fit, are) read =
    let t = take_fields false (lines_of f) more parts k final (all_items f) (all_within f) (nothing_yet k) good fit read in
    let a = t.1 in
    let m = take_events forms ws a.rest a.known final a.are_proper (subst (λ (l : List Word). AreForms forms l ws) (sym a.words) are) a.read in
    let b = m.2 in
    let raw : Raw = record { form = f; fields = t.0 } in (
      raw ∷ m.0,
      ap (λ (l : List Form). f ∷ l) m.1,
      record {
        rest = b.rest;
        known = b.known;
        said = (a.rest, a.said, b.said);
        meant = ok_then (fields_meant (lines_of f) t.0 k) (events_meant m.0) a.known (Ok b.known) a.meant b.meant;
        read = b.read;
        words = b.words;
        are_proper = b.are_proper;
      },
    )

-- ---- the other way: what is said is there, and is read so

module _ (w : Word) (part : Part) (more parts : List Part) (x : Field w) (k known final : Known) (is : parts ≡ part ∷ more) (says : Says w part x)
    (means : meant false w x k ≡ Ok known) where
  put_read : parts_read (is_inline_word w) more known ≡ Ok final → parts_read false parts k ≡ Ok final
  put_read read =
      ap (λ (l : List Part). parts_read false l k) is
      ∙ ok_then (part_read false part k) (parts_read (is_inline_after false part) more) known (Ok final) (put_part w part x k known says means)
      (ap (λ f. parts_read f more known) (put_flag w part x says) ∙ read)

words_are : (w : Word) (part : Part) (more parts : List Part) (x : Field w) → parts ≡ part ∷ more → Says w part x → words_of parts ≡ w ∷ words_of more
words_are w part more parts x is says = ap words_of is ∙ put_word w part x more says

put_data : (part : Part) (more : List Part) (bytes : Bytes) (k final : Known) → Says word.Data part bytes → parts_read false more (with_data true bytes k) ≡ Ok final
    → parts_read true (part ∷ more) k ≡ Ok final
put_data (Line line) more bytes k final (is, field) read = absurd cc
put_data (WithData line b) more bytes k final is read = ap (λ (l : Bytes). parts_read false more (with_data true l k)) is ∙ read
put_data (Comment line) more bytes k final says read = absurd says
put_data (DoneLine line) more bytes k final says read = absurd says

pub others_proper : (part : Part) (more parts : List Part) → parts ≡ part ∷ more → AreProper parts → AreProper more
others_proper part more parts is good = (subst AreProper is good).1

-- ---- any number of lines

put_many : (w : Word) (xs : List (Field w)) (parts rest : List Part) (k known final : Known) → is_item w ≡ true → AreSaid w xs parts rest → each_meant w xs k ≡ Ok known
    → parts_read false rest known ≡ Ok final → (n : ℕ) × (words_of parts ≡ several n w ++ words_of rest) × (parts_read false parts k ≡ Ok final)
put_many w [] parts rest k known final h is means read =
    (0, ap words_of is, ap (λ (l : List Part). parts_read false l k) is ∙ ap (parts_read false rest) (same_Ok k known means) ∙ read)
put_many w (x ∷ xs) parts rest k known final h (part, more, is, says, said) means read =
    let a = bind_ok (meant false w x k) (each_meant w xs) known means in
    let m = put_many w xs more rest a.0 known final h said a.2 read in (
      suc m.0,
      words_are w part more parts x is says ∙ ap (λ (l : List Word). w ∷ l) m.1,
      put_read w part more parts x k a.0 final is says a.1 (inline_read w more a.0 final h m.2),
    )

put_operations : (ops : List Spelled) (parts rest : List Part) (k known final : Known) → AreOperations ops parts rest → operations_meant ops k ≡ Ok known
    → parts_read false rest known ≡ Ok final → (changes : List Change) × (words_of parts ≡ operations changes ++ words_of rest) × (parts_read false parts k ≡ Ok final)
put_operations [] parts rest k known final is means read =
    ([], ap words_of is, ap (λ (l : List Part). parts_read false l k) is ∙ ap (parts_read false rest) (same_Ok k known means) ∙ read)
put_operations (Alone line ∷ ops) parts rest k known final (part, more, is, says, said) means read =
    let a = bind_ok (meant false word.Operation line k) (operations_meant ops) known means in
    let m = put_operations ops more rest a.0 known final said a.2 read in (
      ByItself ∷ m.0,
      words_are word.Operation part more parts line is says ∙ ap (λ (l : List Word). word.Operation ∷ l) m.1,
      put_read word.Operation part more parts line k a.0 final is says a.1 m.2,
    )
put_operations (WithBytes line bytes ∷ ops) parts rest k known final (part, data_part, more, is, says, data_says, said) means read =
    let a = bind_ok (meant false word.InlineOperation line k) (λ known. meant true word.Data bytes known >>= λ there. operations_meant ops there) known means in
    let m = put_operations ops more rest (with_data true bytes a.0) known final said a.2 read in (
      HasInline ∷ m.0,
      words_are word.InlineOperation part (data_part ∷ more) parts line is says
          ∙ ap (λ (l : List Word). word.InlineOperation ∷ l) (put_word word.Data data_part bytes more data_says ∙ ap (λ (l : List Word). word.Data ∷ l) m.1),
      put_read word.InlineOperation part (data_part ∷ more) parts line k a.0 final is says a.1 (put_data data_part more bytes a.0 final data_says m.2),
    )

put_fields : (items : List Item) (fields : Values items) (parts rest : List Part) (k known final : Known) → are_items items ≡ true → AreFields items fields parts rest
    → fields_meant items fields k ≡ Ok known → parts_read false rest known ≡ Ok final → Fit items (words_of parts) (words_of rest) × (parts_read false parts k ≡ Ok final)
unfolding are_items
put_fields [] fields parts rest k known final h is means read =
    (ap words_of is, ap (λ (l : List Part). parts_read false l k) is ∙ ap (parts_read false rest) (same_Ok k known means) ∙ read)
put_fields (One w ∷ items) (x, fields) parts rest k known final h (part, more, is, says, said) means read =
    let both = and_parts (is_item w) (are_items items) h in
    let a = bind_ok (meant false w x k) (fields_meant items fields) known means in
    let m = put_fields items fields more rest a.0 known final both.1 said a.2 read in
    ((words_of more, words_are w part more parts x is says, m.0), put_read w part more parts x k a.0 final is says a.1 (inline_read w more a.0 final both.0 m.1))
put_fields (Perhaps w ∷ items) (None, fields) parts rest k known final h said means read =
    let m = put_fields items fields parts rest k known final (and_parts (is_item w) (are_items items) h).1 said means read in (inl m.0, m.1)
put_fields (Perhaps w ∷ items) (Some x, fields) parts rest k known final h (part, more, is, says, said) means read =
    let both = and_parts (is_item w) (are_items items) h in
    let a = bind_ok (meant false w x k) (fields_meant items fields) known means in
    let m = put_fields items fields more rest a.0 known final both.1 said a.2 read in
    (inr (words_of more, words_are w part more parts x is says, m.0), put_read w part more parts x k a.0 final is says a.1 (inline_read w more a.0 final both.0 m.1))
put_fields (Many w ∷ items) (xs, fields) parts rest k known final h (more, said, others) means read =
    let both = and_parts (is_item w) (are_items items) h in
    let a = bind_ok (each_meant w xs k) (fields_meant items fields) known means in
    let m = put_fields items fields more rest a.0 known final both.1 others a.2 read in
    let b = put_many w xs parts more k a.0 final both.0 said a.1 m.1 in
    ((b.0, words_of more, b.1, m.0), b.2)
put_fields (Operations ∷ items) (ops, fields) parts rest k known final h (more, said, others) means read =
    let a = bind_ok (operations_meant ops k) (fields_meant items fields) known means in
    let m = put_fields items fields more rest a.0 known final h others a.2 read in
    let b = put_operations ops parts more k a.0 final said a.1 m.1 in
    ((b.0, words_of more, b.1, m.0), b.2)

pub put_events : (raws : List Raw) (parts rest : List Part) (k known final : Known) → AreEvents raws parts rest → events_meant raws k ≡ Ok known
    → parts_read false rest known ≡ Ok final → AreForms (forms_of raws) (words_of parts) (words_of rest) × (parts_read false parts k ≡ Ok final)
put_events [] parts rest k known final is means read =
    (ap words_of is, ap (λ (l : List Part). parts_read false l k) is ∙ ap (parts_read false rest) (same_Ok k known means) ∙ read)
put_events (raw ∷ raws) parts rest k known final (more, said, others) means read =
    let a = bind_ok (fields_meant (lines_of raw.form) raw.fields k) (events_meant raws) known means in
    let m = put_events raws more rest a.0 known final others a.2 read in
    let b = put_fields (lines_of raw.form) raw.fields parts more k a.0 final (all_items raw.form) said a.1 m.1 in
    ((words_of more, b.0, m.0), b.1)

-- ---- what is left is proper

many_left : (w : Word) (xs : List (Field w)) (parts rest : List Part) → AreSaid w xs parts rest → AreProper parts → AreProper rest
many_left w [] parts rest is good = subst AreProper is good
many_left w (x ∷ xs) parts rest (part, more, is, says, said) good = many_left w xs more rest said (others_proper part more parts is good)

operations_left : (ops : List Spelled) (parts rest : List Part) → AreOperations ops parts rest → AreProper parts → AreProper rest
operations_left [] parts rest is good = subst AreProper is good
operations_left (Alone line ∷ ops) parts rest (part, more, is, says, said) good = operations_left ops more rest said (others_proper part more parts is good)
operations_left (WithBytes line bytes ∷ ops) parts rest (part, data_part, more, is, says, data_says, said) good =
    operations_left ops more rest said (others_proper part (data_part ∷ more) parts is good).1

fields_left : (items : List Item) (fields : Values items) (parts rest : List Part) → AreFields items fields parts rest → AreProper parts → AreProper rest
fields_left [] fields parts rest is good = subst AreProper is good
fields_left (One w ∷ items) (x, fields) parts rest (part, more, is, says, said) good = fields_left items fields more rest said (others_proper part more parts is good)
fields_left (Perhaps w ∷ items) (None, fields) parts rest said good = fields_left items fields parts rest said good
fields_left (Perhaps w ∷ items) (Some x, fields) parts rest (part, more, is, says, said) good = fields_left items fields more rest said (others_proper part more parts is good)
fields_left (Many w ∷ items) (xs, fields) parts rest (more, said, others) good = fields_left items fields more rest others (many_left w xs parts more said good)
fields_left (Operations ∷ items) (ops, fields) parts rest (more, said, others) good = fields_left items fields more rest others (operations_left ops parts more said good)

pub events_left : (raws : List Raw) (parts rest : List Part) → AreEvents raws parts rest → AreProper parts → AreProper rest
events_left [] parts rest is good = subst AreProper is good
events_left (raw ∷ raws) parts rest (more, said, others) good = events_left raws more rest others (fields_left (lines_of raw.form) raw.fields parts more said good)

-- ---- the end of a stream

no_words : (parts : List Part) → AreProper parts → words_of parts ≡ [] → parts ≡ []
no_words [] good e = refl
no_words (Comment line ∷ parts) good e = absurd (true≢false (sym good.0))
no_words (Line line ∷ parts) good e = absurd cc
no_words (WithData line bytes ∷ parts) good e = absurd cc
no_words (DoneLine line ∷ parts) good e = absurd cc

-- it means nothing
pub end_reads : (promised : Bool) (parts : List Part) (k : Known) → AreProper parts → IsEnd promised (words_of parts) → parts_read false parts k ≡ Ok k
end_reads promised [] k good end = refl
end_reads promised (Comment line ∷ parts) k good end = absurd (true≢false (sym good.0))
end_reads promised (Line line ∷ parts) k good (inl e) =
    let x = head_is (word_of line) word.Done (words_of parts) [] e in absurd (true≢false (sym good.0 ∙ ap is_alone x.0))
end_reads promised (Line line ∷ parts) k good (inr (free, e)) = absurd cc
end_reads promised (WithData line bytes ∷ parts) k good (inl e) =
    let x = head_is word.Data word.Done (words_of parts) [] e in absurd (let no_word : word.Data ≡ word.Done = x.0 in cc)
end_reads promised (WithData line bytes ∷ parts) k good (inr (free, e)) = absurd cc
end_reads promised (DoneLine line ∷ parts) k good (inl e) =
    let x = head_is word.Done word.Done (words_of parts) [] e in
    ap (λ (l : List Part). parts_read false l k) (no_words parts good.1 x.1)
end_reads promised (DoneLine line ∷ parts) k good (inr (free, e)) = absurd cc
