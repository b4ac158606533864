-- The replay goes in step with the grammar, and shows at the end what the history shows.
use Rattle.std.proofs.Common.{◌≡◌, ℕ, Bool, true, false, cond, List, ◌∷◌, refl, sym, ap, subst, ◌∙◌, inl, inr, ◌⊎◌, Option, Some, None, Result, Ok}
use Rattle.plain_model.specs.declared.fault.Why.{Why}
use Rattle.plain_model.specs.declared.operation.Mode.{Mode}
use Rattle.plain_model.specs.declared.event.PlainEvent.{PlainEvent}
use Rattle.plain_model.specs.Fields.{Extent, extent_in}
use Rattle.plain_model.specs.Fields.Extent.{Counted, Delimited}
use Rattle.plain_model.specs.Paths.{Bytes}
use Rattle.plain_model.specs.Trees.{TreeOf}
use Rattle.plain_model.specs.Snapshots.{Shown, Snapshot, snapshot}
use Rattle.line_automaton.specs.Machine.{Next, Outcome, outcome, all}
use Rattle.line_automaton.specs.Machine.Next.{More, Over}
use Rattle.line_automaton.specs.Machine.Outcome.{Reads, Refuses, Misses}
use Rattle.stream_grammar.specs.declared.lines.Expected.TheVariants as expected
use Rattle.stream_grammar.specs.declared.lines.Standing.{Standing}
use Rattle.stream_grammar.specs.declared.lines.Word.{Word}
use Rattle.stream_grammar.specs.declared.lines.Word.TheVariants as word
use Rattle.stream_grammar.specs.Known.{Known, Open, closed, history_of}
use Rattle.stream_grammar.specs.Known.Open.{Nothing, ABlob, ACommit, ATag, AReset, AnAlias}
use Rattle.stream_grammar.specs.Lines.{State, stream, is_comment, word_of, must_go_on, after_word, next_by, next_of, judged, word_step, line_step, data_arrived, is_inline_expected, history_read, history_in}
use Rattle.field_laws.proofs.FieldSteps.{bind_ok, same_Ok}
use Rattle.replay_laws.specs.Replay.{Reading, Replaying, replaying, ended, after_line, after_data, shown_of, replay_read, replay_in}
use Rattle.replay_laws.specs.Replay.{word_step as replay_step, with_blob, with_inline}
use Rattle.replay_laws.specs.Replay.Reading.{NoEvent, InBlob, InCommit, InTag, InReset, InAlias}
use Rattle.replay_laws.proofs.InStep.{Place, place_after, reads_alike}
use Rattle.replay_laws.proofs.InStep.Place.{AtLine, AtBlock, AtEnd}
use Rattle.replay_laws.proofs.Placed.{seen_with}
use Rattle.replay_laws.proofs.SoFar.{IsRead}
use Rattle.replay_laws.proofs.Operations.{bind_to}
use Rattle.replay_laws.proofs.Standings.{no_wait, data_expected, no_end, still_before}
use Rattle.replay_laws.proofs.Twins.{reading_of, Waits, HasFiles, Goes, Became, settled, ends_alike, arrives}
use Rattle.replay_laws.proofs.Steps.{place_of, line_goes}
use Rattle.replay_laws.proofs.Marks.{shown_alike}

-- ---- a line of data

data_goes : (old standing : Standing) (events : List PlainEvent) (current : Open) (files : Option (TreeOf Shown)) (waiting : Option (Mode × Bytes)) → after_word old word.Data ≡ Ok standing
    → Goes AtLine old.expected events current files waiting → Goes AtBlock standing.expected events current files waiting
data_goes old standing events Nothing files waiting h g = tt
data_goes old standing events (ABlob mark) files waiting h g = tt
data_goes old standing events (ATag name target tagger mark) files waiting h g = tt
data_goes old standing events (AnAlias mark) files waiting h g = tt
data_goes old standing events (AReset branch None) files waiting h g = tt
data_goes old standing events (AReset branch (Some c)) files waiting h g = g
data_goes old standing events (ACommit c) files waiting h g = record { below = g.below; first = λ b. g.first (still_before old standing word.Data refl old.expected h b); has_files = has waiting g.has_files }
  where
    has : (w : Option (Mode × Bytes)) → HasFiles AtLine old.expected events c.ops c.parents files w → HasFiles AtBlock standing.expected events c.ops c.parents files w
    has None x = x
    has (Some w) x = (data_expected old standing h x.0, x.1, x.2, x.3, x.4)

-- ---- any line

is_data : (w : Word) → (w ≡ word.Data) ⊎ (w ≡ word.Data → ⊥)
is_data word.Data = inl refl
is_data _ = inr (λ e. absurd cc)

-- only the line of its data may be after an operation that waits
not_waiting : (old standing : Standing) (w : Word) → (w ≡ word.Data → ⊥) → after_word old w ≡ Ok standing → old.expected ≡ expected.InlineData → ⊥
not_waiting old standing word.Data d h e = absurd (d refl)
not_waiting old standing word.LeftOut d h e = absurd cc
not_waiting old standing word.Empty d h e = no_wait old standing word.Empty refl h e
not_waiting old standing word.Blob d h e = no_wait old standing word.Blob refl h e
not_waiting old standing word.Commit d h e = no_wait old standing word.Commit refl h e
not_waiting old standing word.Tag d h e = no_wait old standing word.Tag refl h e
not_waiting old standing word.Reset d h e = no_wait old standing word.Reset refl h e
not_waiting old standing word.Mark d h e = no_wait old standing word.Mark refl h e
not_waiting old standing word.Oid d h e = no_wait old standing word.Oid refl h e
not_waiting old standing word.Author d h e = no_wait old standing word.Author refl h e
not_waiting old standing word.Committer d h e = no_wait old standing word.Committer refl h e
not_waiting old standing word.Encoding d h e = no_wait old standing word.Encoding refl h e
not_waiting old standing word.From d h e = no_wait old standing word.From refl h e
not_waiting old standing word.Merge d h e = no_wait old standing word.Merge refl h e
not_waiting old standing word.Tagger d h e = no_wait old standing word.Tagger refl h e
not_waiting old standing word.Operation d h e = no_wait old standing word.Operation refl h e
not_waiting old standing word.InlineOperation d h e = no_wait old standing word.InlineOperation refl h e
not_waiting old standing word.Pass d h e = no_wait old standing word.Pass refl h e
not_waiting old standing word.FeatureDone d h e = no_wait old standing word.FeatureDone refl h e
not_waiting old standing word.Done d h e = no_wait old standing word.Done refl h e
not_waiting old standing word.Alias d h e = no_wait old standing word.Alias refl h e
not_waiting old standing word.To d h e = no_wait old standing word.To refl h e
not_waiting old standing word.Other d h e = no_wait old standing word.Other refl h e

-- the place after a line is that of its word
next_place : (w : Word) (line : Bytes) (next : Next) → next_of w line ≡ Ok next → place_of w ≡ place_after next
next_place word.Data line next h =
    let a = bind_ok (extent_in line) _ next h in
    extent a.0 ∙ ap place_after (same_Ok (next_by a.0) next a.2)
  where
    extent : (e : Extent) → AtBlock ≡ place_after (next_by e)
    extent (Counted n) = refl
    extent (Delimited d) = refl
next_place word.Done line next h = ap place_after (same_Ok Over next h)
next_place _ line next h = ap place_after (same_Ok More next h)

-- the states that go together
abbrev IsTwin : Place → State → Replaying → Type 0
IsTwin p s t = (t.standing ≡ s.standing) × Became p s.standing s.known t

-- the replay that goes with what is known
abbrev replay_of : Standing → Known → Option (TreeOf Shown) → Option (Mode × Bytes) → Replaying
replay_of standing k files waiting = record { standing = standing; replayed = seen_with k.events k.aliases; reading = reading_of k.current files waiting }

module _ (old : Standing) (k : Known) (files : Option (TreeOf Shown)) (waiting : Option (Mode × Bytes)) (s : IsRead k.events k.aliases) (g : Goes AtLine old.expected k.events k.current files waiting) where
  goes_on : (standing : Standing) (line : Bytes) (w : Word) → word_of line ≡ w → after_word old w ≡ Ok standing → (known : Known) → judged w line k ≡ Ok known
      → Became (place_of w) standing known (after_line w line (replay_of old k files waiting))
  goes_on standing line w is h known j = elim (is_data w) [
    | inl d ↦ subst (λ v. Became (place_of v) standing known (after_line v line (replay_of old k files waiting))) (sym d) (of_data (subst (λ v. after_word old v ≡ Ok standing) d h) (subst (λ v. judged v line k ≡ Ok known) d j))
    | inr d ↦
        let n = settled AtLine old.expected k.events k.current files waiting (not_waiting old standing w d h) g in
        subst (λ q. Became (place_of w) standing known (after_line w line (record { standing = old; replayed = seen_with k.events k.aliases; reading = q }))) (sym n.0) (line_goes old standing k files s n.1 line w is d h known j)
  ]
    where
      of_data : after_word old word.Data ≡ Ok standing → judged word.Data line k ≡ Ok known → Became AtBlock standing known (replay_of old k files waiting)
      of_data x y = subst (λ q. Became AtBlock standing q (replay_of old k files waiting)) (same_Ok k known y) (files, waiting, refl, refl, s, data_goes old standing k.events k.current files waiting x g)

  -- the replay makes the step that the grammar makes
  abbrev StepsTo : State → Next → Result (Replaying × Next) Why → Type 0
  StepsTo new next step = (other : Replaying) × (step ≡ Ok (other, next)) × IsTwin (place_after next) new other

  word_steps : (spelled : List Bytes) (line : Bytes) (new : State) (next : Next) → word_step true (record { standing = old; spelled = spelled; known = k }) line (word_of line) ≡ Ok (new, next)
      → StepsTo new next (replay_step (replay_of old k files waiting) line (word_of line))
  word_steps spelled line new next e =
      let w = word_of line in
      let a = bind_ok (after_word old w) _ (new, next) e in
      let b = bind_ok (next_of w line) _ (new, next) a.2 in
      let c = bind_ok (judged w line k) _ (new, next) b.2 in
      let made : ◌≡◌ {A = State × Next} (record { standing = a.0; spelled = line ∷ spelled; known = c.0 }, b.0) (new, next) = same_Ok _ _ c.2 in
      let other : Replaying = record (after_line w line (replay_of old k files waiting)) { standing = a.0 } in
      let goes : IsTwin (place_after b.0) (record { standing = a.0; spelled = line ∷ spelled; known = c.0 }) other =
      (refl, subst (λ p. Became p a.0 c.0 (after_line w line (replay_of old k files waiting))) (next_place w line b.0 b.1) (goes_on a.0 line w refl a.1 c.0 c.1)) in
      subst (λ (m : State × Next). StepsTo m.0 m.1 (replay_step (replay_of old k files waiting) line w)) made
      (other, bind_to _ _ a.1 (bind_to _ _ b.1 refl), goes)

  line_steps : (spelled : List Bytes) (line : Bytes) (new : State) (next : Next) → line_step true (record { standing = old; spelled = spelled; known = k }) line ≡ Ok (new, next)
      → StepsTo new next (replaying.step true (replay_of old k files waiting) line)
  line_steps spelled line new next e = go (is_comment line) e
    where
      here : State
      here = record { standing = old; spelled = spelled; known = k }

      go : (b : Bool) → cond b (Ok (here, More)) (word_step true here line (word_of line)) ≡ Ok (new, next)
          → StepsTo new next (cond b (Ok (replay_of old k files waiting, More)) (replay_step (replay_of old k files waiting) line (word_of line)))
      go true x =
          let made : ◌≡◌ {A = State × Next} (here, More) (new, next) = same_Ok _ _ x in
          subst (λ (m : State × Next). StepsTo m.0 m.1 (Ok (replay_of old k files waiting, More))) made
          (replay_of old k files waiting, refl, (refl, (files, waiting, refl, refl, s, g)))
      go false x = word_steps spelled line new next x

-- a replay is the one that goes with what is known
is_replay : (p : Place) (s : State) (t : Replaying) (h : IsTwin p s t) → t ≡ replay_of s.standing s.known h.1.0 h.1.1
is_replay p s t h = λ i. record { standing = h.0 i; replayed = h.1.2 i; reading = h.1.3 i }

steps : (s : State) (t : Replaying) (line : Bytes) (new : State) (next : Next) → IsTwin AtLine s t → line_step true s line ≡ Ok (new, next)
    → (other : Replaying) × (replaying.step true t line ≡ Ok (other, next)) × IsTwin (place_after next) new other
steps s t line new next h e =
    let x = line_steps s.standing s.known h.1.0 h.1.1 h.1.4 h.1.5 s.spelled line new next e in
    (x.0, ap (λ q. replaying.step true q line) (is_replay AtLine s t h) ∙ x.1, x.2)

-- ---- a block

-- data leave the standing as it is
stands : (bytes : Bytes) (t : Replaying) → (after_data bytes t).standing ≡ t.standing
stands bytes t = go t.reading
  where
    go : (r : Reading) → (after_data bytes (record { standing = t.standing; replayed = t.replayed; reading = r })).standing ≡ t.standing
    go NoEvent = refl
    go (InBlob mark) = refl
    go (InCommit c) = inline (is_inline_expected t.standing.expected)
      where
        inline : (b : Bool) → (cond {A = Replaying} b (record { standing = t.standing; replayed = with_blob t.replayed 0 bytes; reading = InCommit (with_inline bytes c) }) (record { standing = t.standing; replayed = t.replayed; reading = InCommit (record c { comment = bytes }) })).standing ≡ t.standing
        inline true = refl
        inline false = refl
    go (InTag name target tagger mark) = refl
    go (InAlias mark) = refl
    go (InReset branch target) = refl

arrived : (s : State) (t : Replaying) (bytes : Bytes) → IsTwin AtBlock s t → IsTwin AtLine (data_arrived s bytes) (after_data bytes t)
arrived s t bytes h = subst (λ q. IsTwin AtLine (data_arrived s bytes) (after_data bytes q)) (sym (is_replay AtBlock s t h))
    (stands bytes (replay_of s.standing s.known h.1.0 h.1.1), arrives s.standing s.known.events s.known.aliases h.1.4 bytes s.known.current h.1.0 h.1.1 h.1.5)

-- ---- the end

-- the replay shows what the history shows
abbrev ShowsAlike : State → Replaying → Type 0
ShowsAlike s t = shown_of (ended t.replayed t.reading) ≡ snapshot (history_of s.known)

shows : (p : Place) (s : State) (t : Replaying) → (Waits p s.standing.expected → ⊥) → IsTwin p s t → ShowsAlike s t
shows p s t n h =
    let k = s.known in
    let none = settled p s.standing.expected k.events k.current h.1.0 h.1.1 n h.1.5 in
    let end = ends_alike p s.standing.expected k h.1.0 h.1.4 none.1 in
    ap shown_of ((λ i. ended (h.1.2 i) ((h.1.3 ∙ none.0) i)) ∙ end.0) ∙ shown_alike (closed k) k.aliases end.1.so_far.placed

replay_shows : (bytes : Bytes) (o : Outcome State Why) → outcome stream all bytes ≡ o → (history : List PlainEvent) → history_read o ≡ Some history → replay_in bytes ≡ Some (snapshot history)
replay_shows bytes (Refuses n why) x history h = absurd cc
replay_shows bytes (Misses n) x history h = absurd cc
replay_shows bytes (Reads s) x history h =
    let r = reads_alike stream replaying IsTwin ShowsAlike (refl, (None, None, refl, refl, record { so_far = record { placed = tt; below = tt; tips = tt; bare = tt }; named = tt }, tt)) steps arrived
    (λ u t g. ap must_go_on (sym g.0)) (λ u t g e. shows AtLine u t (no_end u.standing e) g) (λ u t g. shows AtEnd u t (λ e. e) g) bytes s x in
    ap replay_read r.1 ∙ ap (λ (q : Snapshot). Some q) r.2 ∙ ap (λ (o : Option (List PlainEvent)). elim o [ None ↦ None | Some es ↦ Some (snapshot es) ]) h

-- a replay shows what the history of the text shows
pub shows_history : (bytes : List ℕ) (history : List PlainEvent) → history_in bytes ≡ Some history → replay_in bytes ≡ Some (snapshot history)
shows_history bytes history h = replay_shows bytes (outcome stream all bytes) refl history h
