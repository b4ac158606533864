-- The automaton's places and the productions: at each place the lines that are left of the event's production may follow, and
-- no others.
use Rattle.std.proofs.Common.{◌≡◌, Bool, true, false, not, List, [], ◌∷◌, Result, Ok, refl, sym, ◌∙◌, ap, subst, inl, inr, ◌⊎◌}
use Rattle.std.specs.Prelude.{◌≢◌, ◌||◌}
use Rattle.std.proofs.lemmas.Bool.{true≢false, or_parts}
use Rattle.plain_model.specs.declared.fault.Why.{Why}
use Rattle.stream_grammar.specs.declared.lines.Expected.{Expected}
use Rattle.stream_grammar.specs.declared.lines.Expected.TheVariants as expected
use Rattle.stream_grammar.specs.declared.lines.Follow.{Follow}
use Rattle.stream_grammar.specs.declared.lines.Follow.TheVariants.{Goes, Missing, Finished}
use Rattle.stream_grammar.specs.declared.lines.Standing.{Standing}
use Rattle.stream_grammar.specs.declared.lines.Word.{Word}
use Rattle.stream_grammar.specs.declared.lines.Word.TheVariants as word
use Rattle.stream_grammar.specs.Lines.{follows, is_required, must_go_on, begun_by, gone_on, after_word}
use Rattle.production_laws.specs.Productions.{Item, Form, is_promise}
use Rattle.production_laws.specs.Productions.Item.{One, Perhaps, Many, Operations}
use Rattle.production_laws.specs.Productions.Form.{ABlob, ACommit, ATag, AReset, AnAlias, APass, APromise, AnEmptyLine}
use Rattle.production_laws.proofs.NextLines.{Left, left, are_apart, are_optional, Whole, Answers, put_back, taken, ends, ended}
use Rattle.production_laws.proofs.NextLines.Left.{GoesOn, Misses, IsOver}
use Rattle.production_laws.proofs.Forms.{Stream, Begun, first_of, others_of, begun, begins, begun_by_one, over, is_over}
use Rattle.production_laws.proofs.Forms.Begun.{ByDone, ByForm}

-- ---- the lines that are left at a place

abbrev after_comment : List Item
after_comment = Perhaps word.From ∷ Many word.Merge ∷ Operations ∷ []

abbrev pub items_at : Expected → List Item
items_at expected.Event = []
items_at expected.BlobMark = Perhaps word.Mark ∷ Perhaps word.Oid ∷ One word.Data ∷ []
items_at expected.BlobOid = Perhaps word.Oid ∷ One word.Data ∷ []
items_at expected.BlobData = One word.Data ∷ []
items_at expected.CommitMark =
    Perhaps word.Mark ∷ Perhaps word.Oid ∷ Perhaps word.Author ∷ One word.Committer ∷ Perhaps word.Encoding ∷ One word.Data ∷ after_comment
items_at expected.CommitOid = Perhaps word.Oid ∷ Perhaps word.Author ∷ One word.Committer ∷ Perhaps word.Encoding ∷ One word.Data ∷ after_comment
items_at expected.CommitAuthor = Perhaps word.Author ∷ One word.Committer ∷ Perhaps word.Encoding ∷ One word.Data ∷ after_comment
items_at expected.CommitCommitter = One word.Committer ∷ Perhaps word.Encoding ∷ One word.Data ∷ after_comment
items_at expected.CommitEncoding = Perhaps word.Encoding ∷ One word.Data ∷ after_comment
items_at expected.CommitData = One word.Data ∷ after_comment
items_at expected.CommitFrom = after_comment
items_at expected.CommitMerge = Many word.Merge ∷ Operations ∷ []
items_at expected.CommitOperation = Operations ∷ []
items_at expected.InlineData = One word.Data ∷ Operations ∷ []
items_at expected.TagMark = Perhaps word.Mark ∷ One word.From ∷ Perhaps word.Oid ∷ Perhaps word.Tagger ∷ One word.Data ∷ []
items_at expected.TagFrom = One word.From ∷ Perhaps word.Oid ∷ Perhaps word.Tagger ∷ One word.Data ∷ []
items_at expected.TagOid = Perhaps word.Oid ∷ Perhaps word.Tagger ∷ One word.Data ∷ []
items_at expected.TagTagger = Perhaps word.Tagger ∷ One word.Data ∷ []
items_at expected.TagData = One word.Data ∷ []
items_at expected.ResetFrom = Perhaps word.From ∷ []
items_at expected.ResetEnd = []
items_at expected.AliasMark = One word.Mark ∷ One word.To ∷ []
items_at expected.AliasTo = One word.To ∷ []

abbrev left_by : Follow → Left
left_by (Goes d) = GoesOn (items_at d)
left_by Missing = Misses
left_by Finished = IsOver

-- the table of the automaton says what the productions leave
agree : (d : Expected) (w : Word) → left_by (follows d w) ≡ left (items_at d) w
agree expected.Event word.Empty = refl
agree expected.Event _ = refl
agree expected.BlobMark word.Empty = refl
agree expected.BlobMark _ = refl
agree expected.BlobOid word.Empty = refl
agree expected.BlobOid _ = refl
agree expected.BlobData word.Empty = refl
agree expected.BlobData _ = refl
agree expected.CommitMark word.Empty = refl
agree expected.CommitMark _ = refl
agree expected.CommitOid word.Empty = refl
agree expected.CommitOid _ = refl
agree expected.CommitAuthor word.Empty = refl
agree expected.CommitAuthor _ = refl
agree expected.CommitCommitter word.Empty = refl
agree expected.CommitCommitter _ = refl
agree expected.CommitEncoding word.Empty = refl
agree expected.CommitEncoding _ = refl
agree expected.CommitData word.Empty = refl
agree expected.CommitData _ = refl
agree expected.CommitFrom word.Empty = refl
agree expected.CommitFrom _ = refl
agree expected.CommitMerge word.Empty = refl
agree expected.CommitMerge _ = refl
agree expected.CommitOperation word.Empty = refl
agree expected.CommitOperation _ = refl
agree expected.InlineData word.Empty = refl
agree expected.InlineData _ = refl
agree expected.TagMark word.Empty = refl
agree expected.TagMark _ = refl
agree expected.TagFrom word.Empty = refl
agree expected.TagFrom _ = refl
agree expected.TagOid word.Empty = refl
agree expected.TagOid _ = refl
agree expected.TagTagger word.Empty = refl
agree expected.TagTagger _ = refl
agree expected.TagData word.Empty = refl
agree expected.TagData _ = refl
agree expected.ResetFrom word.Empty = refl
agree expected.ResetFrom _ = refl
agree expected.ResetEnd word.Empty = refl
agree expected.ResetEnd _ = refl
agree expected.AliasMark word.Empty = refl
agree expected.AliasMark _ = refl
agree expected.AliasTo word.Empty = refl
agree expected.AliasTo _ = refl

apart : (d : Expected) → are_apart (items_at d) ≡ true
apart expected.Event = refl
apart _ = refl

optional : (d : Expected) → are_optional (items_at d) ≡ not (is_required d)
optional expected.Event = refl
optional _ = refl

-- ---- between events

abbrev begun_at : Form → Expected
begun_at ABlob = expected.BlobMark
begun_at ACommit = expected.CommitMark
begun_at ATag = expected.TagMark
begun_at AReset = expected.ResetFrom
begun_at AnAlias = expected.AliasMark
begun_at APass = expected.Event
begun_at APromise = expected.Event
begun_at AnEmptyLine = expected.Event

others_at : (f : Form) → items_at (begun_at f) ≡ others_of f
others_at ABlob = refl
others_at _ = refl

abbrev pub stand : Expected → Bool → Standing
stand d promised = record { expected = d; wants_done = promised }

-- the first line of a form leads to its place
form_begins : (d : Expected) (promised : Bool) (f : Form) → begun_by (stand d promised) (first_of f) ≡ Ok (stand (begun_at f) (promised || is_promise f))
form_begins d true ABlob = refl
form_begins d false ABlob = refl
form_begins d true _ = refl
form_begins d false _ = refl

-- a line between events is `done` or the first line of a form
pub data First (w : Word) : Type 0 where
  IsDone : w ≡ word.Done → First w
  IsForm : (f : Form) → w ≡ first_of f → First w

first : (s t : Standing) (w : Word) → begun_by s w ≡ Ok t → First w
first s t word.Done e = IsDone refl
first s t word.Blob e = IsForm ABlob refl
first s t word.Commit e = IsForm ACommit refl
first s t word.Tag e = IsForm ATag refl
first s t word.Reset e = IsForm AReset refl
first s t word.Alias e = IsForm AnAlias refl
first s t word.Pass e = IsForm APass refl
first s t word.FeatureDone e = IsForm APromise refl
first s t word.Empty e = IsForm AnEmptyLine refl
first s t _ e = absurd cc

-- ---- one line

-- the automaton goes over the words to where a stream may end; after `done` there are none
abbrev pub Accepts : Standing → List Word → Type 0
Accepts s [] = must_go_on s ≡ false
Accepts s (w ∷ ws) = (t : Standing) × (after_word s w ≡ Ok t) × (((w ≡ word.Done) × (ws ≡ [])) ⊎ ((w ≢ word.Done) × Accepts t ws))

pub goes_on_by : (s t : Standing) (w : Word) → after_word s w ≡ Ok t → gone_on s w (follows s.expected w) ≡ Ok t
goes_on_by s t word.LeftOut e = absurd cc
goes_on_by s t _ e = e

after_is : (s t : Standing) (w : Word) → w ≢ word.LeftOut → gone_on s w (follows s.expected w) ≡ Ok t → after_word s w ≡ Ok t
after_is s t word.LeftOut differs e = absurd (differs refl)
after_is s t _ differs e = e

done_never_goes : (d e : Expected) → follows d word.Done ≡ Goes e → ⊥
done_never_goes expected.Event e h = absurd cc
done_never_goes _ e h = absurd cc

left_out_never_goes : (d e : Expected) → follows d word.LeftOut ≡ Goes e → ⊥
left_out_never_goes expected.Event e h = absurd cc
left_out_never_goes _ e h = absurd cc

-- ---- a whole stream

-- the words from a place on, by the productions
abbrev pub Rest : Expected → Bool → List Word → Type 0
Rest d promised ws = Whole (Stream promised) (items_at d) ws

ended_at : (d : Expected) (promised : Bool) → must_go_on (stand d promised) ≡ false → Rest d promised []
ended_at d promised e =
    let parts = or_parts (is_required d) promised e in
    ended (Stream promised) (items_at d) (optional d ∙ ap not parts.0) (is_over promised parts.1)

ends_at : (d : Expected) (promised : Bool) → Rest d promised [] → must_go_on (stand d promised) ≡ false
ends_at d promised h =
    let x = ends (Stream promised) (items_at d) h in
    go (is_required d) (sym (optional d) ∙ x.0) (over promised x.1)
  where
    go : (t : Bool) → not t ≡ true → promised ≡ false → (t || promised) ≡ false
    go true e f = absurd (true≢false (sym e))
    go false e f = f

same_stand : (d : Expected) (promised : Bool) (t : Standing) → ◌≡◌ {A = Result Standing Why} (Ok (stand d promised)) (Ok t) → stand d promised ≡ t
same_stand d promised t e = cc

-- what the automaton accepts has the productions
pub has_form : (ws : List Word) (d : Expected) (promised : Bool) → Accepts (stand d promised) ws → Rest d promised ws
has_form [] d promised h = ended_at d promised h
has_form (w ∷ ws) d promised (t, e, then) =
    put_back (Stream promised) (items_at d) w ws
    (subst (λ (l : Left). Answers (Stream promised) l w ws) (agree d w) (go (follows d w) refl (goes_on_by (stand d promised) t w e) then (has_form ws)))
  where
    ended_by_done : w ≡ word.Done → ws ≡ [] → Stream promised (w ∷ ws)
    ended_by_done is none = begins promised w ws (ByDone is none)

    between : First w → begun_by (stand d promised) w ≡ Ok t → ((w ≡ word.Done) × (ws ≡ [])) ⊎ ((w ≢ word.Done) × Accepts t ws)
        → ((d : Expected) (promised : Bool) → Accepts (stand d promised) ws → Rest d promised ws) → Stream promised (w ∷ ws)
    between (IsDone is) e (inl (same, none)) later = ended_by_done is none
    between (IsDone is) e (inr (differs, more)) later = absurd (differs is)
    between (IsForm f is) e (inl (same, none)) later = ended_by_done same none
    between (IsForm f is) e (inr (differs, more)) later =
        let new : ◌≡◌ {A = Result Standing Why} (Ok (stand (begun_at f) (promised || is_promise f))) (Ok t) =
        sym (form_begins d promised f) ∙ ap (begun_by (stand d promised)) (sym is) ∙ e in
        let accepted = subst (λ (s : Standing). Accepts s ws) (sym (same_stand (begun_at f) (promised || is_promise f) t new)) more in
        begins promised w ws (ByForm f is (subst (λ (items : List Item). Whole (Stream (promised || is_promise f)) items ws) (others_at f) (later (begun_at f) (promised || is_promise f) accepted)))

    go : (f : Follow) → follows d w ≡ f → gone_on (stand d promised) w f ≡ Ok t → ((w ≡ word.Done) × (ws ≡ [])) ⊎ ((w ≢ word.Done) × Accepts t ws)
        → ((d : Expected) (promised : Bool) → Accepts (stand d promised) ws → Rest d promised ws) → Answers (Stream promised) (left_by f) w ws
    go (Goes n) f e (inl (is, none)) later = absurd (done_never_goes d n (ap (follows d) (sym is) ∙ f))
    go (Goes n) f e (inr (differs, more)) later = later n promised (subst (λ (s : Standing). Accepts s ws) (sym (same_stand n promised t e)) more)
    go Missing f e then later = absurd cc
    go Finished f e then later = between (first (stand d promised) t w e) e then later

not_left_out : (f : Form) → first_of f ≢ word.LeftOut
not_left_out ABlob e = absurd cc
not_left_out _ e = absurd cc

not_done : (f : Form) → first_of f ≢ word.Done
not_done ABlob e = absurd cc
not_done _ e = absurd cc

-- what has the productions the automaton accepts
pub is_accepted : (ws : List Word) (d : Expected) (promised : Bool) → Rest d promised ws → Accepts (stand d promised) ws
is_accepted [] d promised h = ends_at d promised h
is_accepted (w ∷ ws) d promised h =
    go (follows d w) refl (subst (λ (l : Left). Answers (Stream promised) l w ws) (sym (agree d w))
    (taken (Stream promised) (begun_by_one promised) (items_at d) w ws (apart d) h)) (is_accepted ws)
  where
    -- the line goes on to a place from which the others are accepted
    step : (t : Standing) → w ≢ word.LeftOut → gone_on (stand d promised) w (follows d w) ≡ Ok t
        → (((w ≡ word.Done) × (ws ≡ [])) ⊎ ((w ≢ word.Done) × Accepts t ws)) → Accepts (stand d promised) (w ∷ ws)
    step t differs e then = (t, after_is (stand d promised) t w differs e, then)

    between : follows d w ≡ Finished → Begun promised w ws → ((d : Expected) (promised : Bool) → Rest d promised ws → Accepts (stand d promised) ws)
        → Accepts (stand d promised) (w ∷ ws)
    between f (ByDone is none) later =
        step (stand expected.Event false) (λ left. absurd (let differs : word.Done ≡ word.LeftOut = sym is ∙ left in cc))
        (ap (gone_on (stand d promised) w) f ∙ ap (begun_by (stand d promised)) is) (inl (is, none))
    between f (ByForm form is whole) later =
        step (stand (begun_at form) (promised || is_promise form)) (λ left. not_left_out form (sym is ∙ left))
        (ap (gone_on (stand d promised) w) f ∙ ap (begun_by (stand d promised)) is ∙ form_begins d promised form)
        (inr (
          λ done. not_done form (sym is ∙ done),
          later (begun_at form) (promised || is_promise form)
              (subst (λ (items : List Item). Whole (Stream (promised || is_promise form)) items ws) (sym (others_at form)) whole),
        ))

    go : (f : Follow) → follows d w ≡ f → Answers (Stream promised) (left_by f) w ws → ((d : Expected) (promised : Bool) → Rest d promised ws → Accepts (stand d promised) ws)
        → Accepts (stand d promised) (w ∷ ws)
    go (Goes n) f whole later =
        step (stand n promised) (λ left. left_out_never_goes d n (ap (follows d) (sym left) ∙ f)) (ap (gone_on (stand d promised) w) f)
        (inr (λ done. done_never_goes d n (ap (follows d) (sym done) ∙ f), later n promised whole))
    go Missing f h later = absurd h
    go Finished f h later = between f (begun promised w ws h) later
