-- Where the automaton is after some lines, by the streams that begin with these lines.
use Rattle.std.proofs.Common.{◌≡◌, Bool, true, false, List, [], ◌∷◌, ◌++◌, Result, Ok, Err, refl, sym, ◌∙◌, ap, subst, inl, inr, ◌⊎◌, append_assoc, append-nil}
use Rattle.std.specs.Prelude.{◌≢◌}
use Rattle.plain_model.specs.declared.fault.Why.{Why}
use Rattle.plain_model.specs.declared.fault.Why.TheVariants.{MissingLine, UnknownLine}
use Rattle.stream_grammar.specs.declared.lines.Expected.{Expected}
use Rattle.stream_grammar.specs.declared.lines.Expected.TheVariants as expected
use Rattle.stream_grammar.specs.declared.lines.Follow.{Follow}
use Rattle.stream_grammar.specs.declared.lines.Follow.TheVariants.{Goes, Missing, Finished}
use Rattle.stream_grammar.specs.declared.lines.Standing.{Standing}
use Rattle.stream_grammar.specs.declared.lines.Word.{Word}
use Rattle.stream_grammar.specs.declared.lines.Word.TheVariants as word
use Rattle.stream_grammar.specs.Lines.{after_word, begun_by, follows, gone_on, must_go_on}
use Rattle.production_laws.specs.Productions.{AreForms, AreSpelled, Form, Item}
use Rattle.production_laws.specs.Productions.Item.{Many, One, Operations, Perhaps}
use Rattle.production_laws.specs.Streams.{CanBegin, CanEnd, IsMisplaced}
use Rattle.production_laws.proofs.Forms.{Stream}
use Rattle.production_laws.proofs.NextLines.{Whole}
use Rattle.production_laws.proofs.Standings.{Accepts, has_form, is_accepted, items_at, stand}

abbrev pub start : Standing
start = stand expected.Event false

-- ---- whole streams

pub spelled_is_accepted : (ws : List Word) (forms : List Form) → AreSpelled forms ws → Accepts start ws
spelled_is_accepted ws forms spelled = is_accepted ws expected.Event false (ws, refl, (forms, spelled.0, spelled.1, spelled.2))

pub accepted_is_spelled : (ws : List Word) → Accepts start ws → (forms : List Form) × AreSpelled forms ws
accepted_is_spelled ws h =
    let f = has_form ws expected.Event false h in
    let rest = f.2 in
    (rest.0, (rest.1, subst (λ (l : List Word). AreForms rest.0 l rest.1) (sym f.1) rest.2, rest.3))

-- ---- a place

-- from the place the words lead to the other, and none of them is `done`
abbrev pub Reaches : Standing → List Word → Standing → Type 0
Reaches s [] t = s ≡ t
Reaches s (w ∷ ws) t = (u : Standing) × (after_word s w ≡ Ok u) × (w ≢ word.Done) × Reaches u ws t

same_place : (s t : Standing) → ◌≡◌ {A = Result Standing Why} (Ok s) (Ok t) → s ≡ t
same_place s t e = cc

-- what is accepted from there is accepted after the words, and the other way round
pub accepts_more : (ws more : List Word) (s t : Standing) → Reaches s ws t → Accepts t more → Accepts s (ws ++ more)
accepts_more [] more s t same h = subst (λ (u : Standing). Accepts u more) (sym same) h
accepts_more (w ∷ ws) more s t (u, goes, differs, reached) h = (u, goes, inr (differs, accepts_more ws more u t reached h))

pub accepts_less : (ws more : List Word) (s t : Standing) → Reaches s ws t → Accepts s (ws ++ more) → Accepts t more
accepts_less [] more s t same h = subst (λ (u : Standing). Accepts u more) same h
accepts_less (w ∷ ws) more s t (u, goes, differs, reached) (v, also, inl (done, none)) = absurd (differs done)
accepts_less (w ∷ ws) more s t (u, goes, differs, reached) (v, also, inr (others, h)) =
    accepts_less ws more u t reached (subst (λ (x : Standing). Accepts x (ws ++ more)) (same_place v u (sym also ∙ goes)) h)

-- ---- what may follow

-- the lines that an event can't do without
abbrev least : List Item → List Word
least [] = []
least (One w ∷ items) = w ∷ least items
least (Perhaps w ∷ items) = least items
least (Many w ∷ items) = least items
least (Operations ∷ items) = least items

least_fits : (Tail : List Word → Type 0) (items : List Item) (rest : List Word) → Tail rest → Whole Tail items (least items ++ rest)
least_fits Tail [] rest h = (rest, refl, h)
least_fits Tail (One w ∷ items) rest h = let x = least_fits Tail items rest h in (x.0, (least items ++ rest, refl, x.1), x.2)
least_fits Tail (Perhaps w ∷ items) rest h = let x = least_fits Tail items rest h in (x.0, inl x.1, x.2)
least_fits Tail (Many w ∷ items) rest h = let x = least_fits Tail items rest h in (x.0, (0, least items ++ rest, refl, x.1), x.2)
least_fits Tail (Operations ∷ items) rest h = let x = least_fits Tail items rest h in (x.0, ([], least items ++ rest, refl, x.1), x.2)

-- each place leads to an end
pub leads_on : (t : Standing) → (more : List Word) × Accepts t more
leads_on t =
    let whole : Stream t.wants_done (word.Done ∷ []) = ([], word.Done ∷ [], refl, inl refl) in (
      least (items_at t.expected) ++ word.Done ∷ [],
      is_accepted (least (items_at t.expected) ++ word.Done ∷ []) t.expected t.wants_done (least_fits (Stream t.wants_done) (items_at t.expected) (word.Done ∷ []) whole),
    )

pub line_leads_on : (s t : Standing) (w : Word) → w ≢ word.Done → after_word s w ≡ Ok t → (more : List Word) × Accepts s (w ∷ more)
line_leads_on s t w differs goes = let x = leads_on t in (x.0, (t, goes, inr (differs, x.1)))

module _ (ws : List Word) (place : Standing) (reached : Reaches start ws place) where
  pub can_begin : (t : Standing) (w : Word) → w ≢ word.Done → after_word place w ≡ Ok t → CanBegin (ws ++ w ∷ [])
  can_begin t w differs goes =
      let x = line_leads_on place t w differs goes in
      let f = accepted_is_spelled (ws ++ w ∷ x.0) (accepts_more ws (w ∷ x.0) start place reached x.1) in
      (x.0, f.0, subst (λ (l : List Word). AreSpelled f.0 l) (sym (append_assoc ws (w ∷ []) x.0)) f.1)

  pub begins_here : (w : Word) → CanBegin (ws ++ w ∷ []) → (t : Standing) × (after_word place w ≡ Ok t)
  begins_here w (more, forms, spelled) =
      let whole = spelled_is_accepted (ws ++ w ∷ more) forms (subst (λ (l : List Word). AreSpelled forms l) (append_assoc ws (w ∷ []) more) spelled) in
      let h = accepts_less ws (w ∷ more) start place reached whole in
      (h.0, h.1)

  pub can_end : (t : Standing) → after_word place word.Done ≡ Ok t → CanEnd ws
  can_end t goes = accepted_is_spelled (ws ++ word.Done ∷ []) (accepts_more ws (word.Done ∷ []) start place reached (t, goes, inl (refl, refl)))

  pub ends_here : CanEnd ws → (t : Standing) × (after_word place word.Done ≡ Ok t)
  ends_here (forms, spelled) =
      let h = accepts_less ws (word.Done ∷ []) start place reached (spelled_is_accepted (ws ++ word.Done ∷ []) forms spelled) in
      (h.0, h.1)

  -- a stream can begin so
  pub reached_begins : CanBegin ws
  reached_begins =
      let x = leads_on place in
      let f = accepted_is_spelled (ws ++ x.0) (accepts_more ws x.0 start place reached x.1) in
      (x.0, f.0, f.1)

  -- also with `done`
  pub ends_begin : CanEnd ws → CanBegin (ws ++ word.Done ∷ [])
  ends_begin (forms, spelled) = ([], forms, subst (λ (l : List Word). AreSpelled forms l) (sym (append-nil (ws ++ word.Done ∷ []))) spelled)

  pub not_over : must_go_on place ≡ true → (forms : List Form) → AreSpelled forms ws → ⊥
  not_over on forms spelled =
      let h : must_go_on place ≡ false = accepts_less ws [] start place reached (subst (λ (l : List Word). Accepts start l) (sym (append-nil ws)) (spelled_is_accepted ws forms spelled)) in
      absurd (let both : true ≡ false = sym on ∙ h in cc)

  pub is_unfinished : ((forms : List Form) → AreSpelled forms ws → ⊥) → must_go_on place ≡ true
  is_unfinished none_ends = go (must_go_on place) refl
    where
      go : (b : Bool) → must_go_on place ≡ b → b ≡ true
      go true e = refl
      go false e =
          let f = accepted_is_spelled ws (subst (λ (l : List Word). Accepts start l) (append-nil ws) (accepts_more ws [] start place reached e)) in
          absurd (none_ends f.0 f.1)

-- ---- a line that may not be there

-- a line that an event misses is one before `done`, too
misses_done : (d : Expected) (w : Word) → follows d w ≡ Missing → follows d word.Done ≡ Missing
misses_done expected.Event w e = absurd cc
misses_done expected.BlobMark w e = refl
misses_done expected.BlobOid w e = refl
misses_done expected.BlobData w e = refl
misses_done expected.CommitMark w e = refl
misses_done expected.CommitOid w e = refl
misses_done expected.CommitAuthor w e = refl
misses_done expected.CommitCommitter w e = refl
misses_done expected.CommitEncoding w e = refl
misses_done expected.CommitData w e = refl
misses_done expected.InlineData w e = refl
misses_done expected.TagMark w e = refl
misses_done expected.TagFrom w e = refl
misses_done expected.TagOid w e = refl
misses_done expected.TagTagger w e = refl
misses_done expected.TagData w e = refl
misses_done expected.AliasMark w e = refl
misses_done expected.AliasTo w e = refl
misses_done expected.ResetEnd w e = absurd cc
misses_done expected.CommitFrom word.Empty e = absurd cc
misses_done expected.CommitFrom _ e = absurd cc
misses_done expected.CommitMerge word.Empty e = absurd cc
misses_done expected.CommitMerge _ e = absurd cc
misses_done expected.CommitOperation word.Empty e = absurd cc
misses_done expected.CommitOperation _ e = absurd cc
misses_done expected.ResetFrom word.Empty e = absurd cc
misses_done expected.ResetFrom _ e = absurd cc

-- where an event may be over, `done` may come
ends_done : (d : Expected) (w : Word) → follows d w ≡ Finished → follows d word.Done ≡ Finished
ends_done expected.Event w e = refl
ends_done expected.CommitFrom w e = refl
ends_done expected.CommitMerge w e = refl
ends_done expected.CommitOperation w e = refl
ends_done expected.ResetFrom w e = refl
ends_done expected.ResetEnd w e = refl
ends_done expected.BlobMark word.Empty e = absurd cc
ends_done expected.BlobMark _ e = absurd cc
ends_done expected.BlobOid word.Empty e = absurd cc
ends_done expected.BlobOid _ e = absurd cc
ends_done expected.BlobData word.Empty e = absurd cc
ends_done expected.BlobData _ e = absurd cc
ends_done expected.CommitMark word.Empty e = absurd cc
ends_done expected.CommitMark _ e = absurd cc
ends_done expected.CommitOid word.Empty e = absurd cc
ends_done expected.CommitOid _ e = absurd cc
ends_done expected.CommitAuthor word.Empty e = absurd cc
ends_done expected.CommitAuthor _ e = absurd cc
ends_done expected.CommitCommitter word.Empty e = absurd cc
ends_done expected.CommitCommitter _ e = absurd cc
ends_done expected.CommitEncoding word.Empty e = absurd cc
ends_done expected.CommitEncoding _ e = absurd cc
ends_done expected.CommitData word.Empty e = absurd cc
ends_done expected.CommitData _ e = absurd cc
ends_done expected.InlineData word.Empty e = absurd cc
ends_done expected.InlineData _ e = absurd cc
ends_done expected.TagMark word.Empty e = absurd cc
ends_done expected.TagMark _ e = absurd cc
ends_done expected.TagFrom word.Empty e = absurd cc
ends_done expected.TagFrom _ e = absurd cc
ends_done expected.TagOid word.Empty e = absurd cc
ends_done expected.TagOid _ e = absurd cc
ends_done expected.TagTagger word.Empty e = absurd cc
ends_done expected.TagTagger _ e = absurd cc
ends_done expected.TagData word.Empty e = absurd cc
ends_done expected.TagData _ e = absurd cc
ends_done expected.AliasMark word.Empty e = absurd cc
ends_done expected.AliasMark _ e = absurd cc
ends_done expected.AliasTo word.Empty e = absurd cc
ends_done expected.AliasTo _ e = absurd cc

module _ (ws : List Word) (place : Standing) (reached : Reaches start ws place) where
  ok_or_err : (t : Standing) (why : Why) → ◌≡◌ {A = Result Standing Why} (Err why) (Ok t) → ⊥
  ok_or_err t why e = absurd cc

  cannot_end : (w : Word) → follows place.expected w ≡ Missing → CanEnd ws → ⊥
  cannot_end w e can =
      let x = ends_here ws place reached can in
      ok_or_err x.0 MissingLine (sym (ap (gone_on place word.Done) (misses_done place.expected w e)) ∙ x.1)

  ends_by_done : (w : Word) → follows place.expected w ≡ Finished → CanEnd ws
  ends_by_done w e = can_end ws place reached (stand expected.Event false) (ap (gone_on place word.Done) (ends_done place.expected w e))

  begun_unknown : (w : Word) (why : Why) → begun_by place w ≡ Err why → why ≡ UnknownLine
  begun_unknown word.Blob why e = absurd cc
  begun_unknown word.Commit why e = absurd cc
  begun_unknown word.Tag why e = absurd cc
  begun_unknown word.Reset why e = absurd cc
  begun_unknown word.Alias why e = absurd cc
  begun_unknown word.Pass why e = absurd cc
  begun_unknown word.FeatureDone why e = absurd cc
  begun_unknown word.Done why e = absurd cc
  begun_unknown word.Empty why e = absurd cc
  begun_unknown _ why e = cc

  by_follow : (w : Word) (why : Why) (f : Follow) → follows place.expected w ≡ f → gone_on place w f ≡ Err why
      → (CanEnd ws × (why ≡ UnknownLine)) ⊎ ((CanEnd ws → ⊥) × (why ≡ MissingLine))
  by_follow w why (Goes d) f e = absurd cc
  by_follow w why Missing f e = inr (cannot_end w f, cc)
  by_follow w why Finished f e = inl (ends_by_done w f, begun_unknown w why e)

  pub misplaced : (w : Word) (why : Why) → after_word place w ≡ Err why → IsMisplaced ws w why
  misplaced word.LeftOut why e = cc
  misplaced word.Blob why e = by_follow word.Blob why (follows place.expected word.Blob) refl e
  misplaced w why e = by_follow w why (follows place.expected w) refl e

  -- ---- a word has one such defect

  one_of_two : (why other : Why) → (CanEnd ws × (why ≡ UnknownLine)) ⊎ ((CanEnd ws → ⊥) × (why ≡ MissingLine))
      → (CanEnd ws × (other ≡ UnknownLine)) ⊎ ((CanEnd ws → ⊥) × (other ≡ MissingLine)) → why ≡ other
  one_of_two why other (inl (can, is)) (inl (also, same)) = is ∙ sym same
  one_of_two why other (inl (can, is)) (inr (never, same)) = absurd (never can)
  one_of_two why other (inr (never, is)) (inl (can, same)) = absurd (never can)
  one_of_two why other (inr (never, is)) (inr (also, same)) = is ∙ sym same

  misplaced_once : (w : Word) (why other : Why) → IsMisplaced ws w why → IsMisplaced ws w other → why ≡ other
  misplaced_once word.LeftOut why other h g = h ∙ sym g
  misplaced_once word.Blob why other h g = one_of_two why other h g
  misplaced_once _ why other h g = one_of_two why other h g

  or_done : (w : Word) → (w ≡ word.Done) ⊎ (w ≢ word.Done)
  or_done word.Done = inl refl
  or_done word.Blob = inr (λ e. absurd cc)
  or_done _ = inr (λ e. absurd cc)

  -- a word with which no stream can go on is refused so
  pub is_refused : (w : Word) (why : Why) → (CanBegin (ws ++ w ∷ []) → ⊥) → IsMisplaced ws w why → after_word place w ≡ Err why
  is_refused w why cannot is = go (after_word place w) refl
    where
      cannot_go : (t : Standing) → after_word place w ≡ Ok t → (w ≡ word.Done) ⊎ (w ≢ word.Done) → ⊥
      cannot_go t goes (inl done) =
          cannot (subst (λ (v : Word). CanBegin (ws ++ v ∷ [])) (sym done) (ends_begin ws place reached (can_end ws place reached t (ap (after_word place) (sym done) ∙ goes))))
      cannot_go t goes (inr differs) = cannot (can_begin ws place reached t w differs goes)

      go : (r : Result Standing Why) → after_word place w ≡ r → r ≡ Err why
      go (Ok t) goes = absurd (cannot_go t goes (or_done w))
      go (Err other) e = ap (λ (v : Why). Err v) (misplaced_once w other why (misplaced w other e) is)
