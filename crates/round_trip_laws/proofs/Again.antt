-- What is written of a whole history is read again as it.
use Rattle.std.proofs.Common.{◌≡◌, ℕ, suc, ◌+◌, Bool, true, false, cond, List, [], ◌∷◌, ◌++◌, Option, Some, None, refl, sym, ap, subst, ◌∙◌, arith, codes, append_assoc, append-nil, length-append, ne_eqb, eq-eqb}
use Rattle.std.specs.Prelude.{◌==◌, ◌||◌, not, IsFalse, IsSome, IfSome, flat_map, map}
use Rattle.std.specs.List.{AllByRecursion, list_any}
use Rattle.std.proofs.lemmas.Bool.{and_parts, cond-false, cond-true, not-true, or_from, or_parts}
use Rattle.plain_model.proofs.Numbers.{eqb_turned}
use Rattle.plain_model.specs.declared.id.AnyId.TheVariants as any
use Rattle.plain_model.specs.declared.event.PlainEvent.{PlainEvent}
use Rattle.plain_model.specs.declared.event.PlainEvent.TheVariants.{Blob, Commit, Tag, Reset, Pass}
use Rattle.plain_model.specs.declared.person.Signed.{Signed}
use Rattle.plain_model.specs.declared.operation.FileOp.{FileOp}
use Rattle.plain_model.specs.Histories.{tree, begun, folded}
use Rattle.plain_model.specs.Lookups.{greatest_mark, greatest_of}
use Rattle.plain_model.specs.Paths.{Bytes}
use Rattle.plain_model.specs.Snapshots.{refs_after, refs}
use Rattle.plain_model.specs.Soundness.{AreSoundAfter, IsCommitOf, IsFormedEvent, IsSoundEvent, are_distinct, has_id}
use Rattle.plain_model.specs.Streams.{commit_marked, is_among, is_marked}
use Rattle.plain_model.specs.Marks.{IsMark}
use Rattle.plain_model.specs.Text.{line, alias_text, event_text, text_from, end_text, is_feature_done, text as text_of_history}
use Rattle.plain_model.specs.Trees.{TreeOf, has}
use Rattle.stream_grammar.specs.declared.lines.Expected.{Expected}
use Rattle.stream_grammar.specs.declared.lines.Expected.TheVariants as expected
use Rattle.stream_grammar.specs.declared.lines.Word.TheVariants as word
use Rattle.stream_grammar.specs.Known.{next_id, alias_marks, with_aliases, with_marks, history_of}
use Rattle.stream_grammar.specs.Known.Open.{Nothing}
use Rattle.stream_grammar.specs.Lines.{history_in, must_go_on}
use Rattle.history_laws.proofs.Commits.{refs_append}
use Rattle.history_laws.specs.Placed.{ArePlaced}
use Rattle.round_trip_laws.specs.AsRead.{IsRooted, AreRootedAfter, IsAsRead}
use Rattle.round_trip_laws.proofs.Points.{point, Gives, line_ends, text_ends}
use Rattle.round_trip_laws.proofs.WrittenLines.{is_between, is_known, done_leads}
use Rattle.round_trip_laws.proofs.WrittenEvents.{GivesAfter, blob_goes, tag_goes, alias_goes, reset_goes, pass_goes}
use Rattle.round_trip_laws.proofs.WrittenCommits.{commit_goes}
use Rattle.round_trip_laws.proofs.FoundAgain.{AreFound, FindsCommit, found_next, own_tree, place_other, commit_after, commit_new}
use Rattle.round_trip_laws.proofs.Bare.{bare, bare_event, own_pairs, pairs, bare_append, pairs_append, refs_bare, feature_bare, among_append, alias_marks_append, marked_bare, is_marked_append, sound_bare, spelled_bare, trees_bare, placed_bare, rooted_bare}
use Rattle.round_trip_laws.proofs.BareTexts.{alias_lines, event_bare, has_them_again}

-- ---- the end

-- where each event has its mark, none is given
all_marked : (n : ℕ) (events : List PlainEvent) → AllByRecursion IsFormedEvent events → with_marks n events ≡ events
all_marked n [] h = refl
all_marked n (Blob id mark bytes ∷ events) h =
    cond-false (mark == 0) (Blob id (n + 1) bytes ∷ with_marks (n + 1) events) (Blob id mark bytes ∷ with_marks n events) (ne_eqb mark 0 (λ e. absurd (let low = h.0.0 in omega (arith, e, low))))
    ∙ ap (λ (l : List PlainEvent). Blob id mark bytes ∷ l) (all_marked n events h.1)
all_marked n (Commit id mark branch author committer encoding comment parents ops aliases ∷ events) h =
    cond-false (mark == 0) (Commit id (n + 1) branch author committer encoding comment parents ops aliases ∷ with_marks (n + 1) events) (Commit id mark branch author committer encoding comment parents ops aliases ∷ with_marks n events) (ne_eqb mark 0 (λ e. absurd (let low = h.0.0.0 in omega (arith, e, low))))
    ∙ ap (λ (l : List PlainEvent). Commit id mark branch author committer encoding comment parents ops aliases ∷ l) (all_marked n events h.1)
all_marked n (Tag id name target tagger comment mark ∷ events) h = ap (λ (l : List PlainEvent). Tag id name target tagger comment mark ∷ l) (all_marked n events h.1)
all_marked n (Reset id branch target ∷ events) h = ap (λ (l : List PlainEvent). Reset id branch target ∷ l) (all_marked n events h.1)
all_marked n (Pass id line ∷ events) h = ap (λ (l : List PlainEvent). Pass id line ∷ l) (all_marked n events h.1)

-- between events a stream can end, unless a last line was promised
free_between : (d : Expected) (wants : Bool) → is_between d ≡ true → wants ≡ false → must_go_on (record { expected = d; wants_done = wants }) ≡ false
free_between expected.Event wants h e = e
free_between expected.ResetFrom wants h e = e
free_between expected.ResetEnd wants h e = e
free_between _ wants h e = absurd cc

-- after all events comes a last line, where it was promised
end_goes : (whole : List PlainEvent) → AllByRecursion IsFormedEvent whole → ArePlaced 1 whole → GivesAfter (bare whole) (pairs whole) (end_text whole) whole
end_goes whole formed placed d wants events current h = go (list_any is_feature_done whole) refl
  where
    marks : history_of (record { events = events; current = current; aliases = pairs whole }) ≡ whole
    marks =
        ap (λ (l : List PlainEvent). with_aliases (pairs whole) (with_marks (greatest_of (greatest_mark l) (alias_marks (pairs whole))) l)) h.are
        ∙ ap (with_aliases (pairs whole)) (all_marked (greatest_of (greatest_mark (bare whole)) (alias_marks (pairs whole))) (bare whole) (spelled_bare whole formed))
        ∙ has_them_again whole placed

    promised : wants ≡ list_any is_feature_done whole
    promised = h.promised ∙ feature_bare whole

    go : (t : Bool) → list_any is_feature_done whole ≡ t → Gives (point d wants events (pairs whole) current) (cond t (line (codes "done")) []) whole
    go true e =
        subst (λ (text : Bytes). Gives (point d wants events (pairs whole) current) text whole) (append-nil (line (codes "done")))
        (line_ends (point d wants events (pairs whole) current) (point expected.Event false events (pairs whole) current) (codes "done") [] word.Done whole (done_leads d h.between wants events (bare whole) (pairs whole) current h.are) marks)
    go false e = text_ends (point d wants events (pairs whole) current) whole (free_between d wants h.between (promised ∙ e)) marks

-- ---- one event

-- what holds of a whole history, whose first events are after
record IsSplit (whole done later : List PlainEvent) : Type 0 where
  is : whole ≡ done ++ later
  found : AreFound whole done
  sound : AreSoundAfter done later
  placed : ArePlaced (next_id done) later
  formed : AllByRecursion IsFormedEvent later
  rooted : AreRootedAfter done later

-- each commit of it has a tree
abbrev HaveTrees : List PlainEvent → Type 0
HaveTrees whole = (c : ℕ) → IsCommitOf whole c → IsSome (tree whole c)

-- one event is after
next_split : (whole done : List PlainEvent) (e : PlainEvent) (later : List PlainEvent) → IsSplit whole done (e ∷ later) → IsSplit whole (done ++ e ∷ []) later
next_split whole done e later s = record {
  is = s.is ∙ sym (append_assoc done (e ∷ []) later);
  found = found_next whole done later e s.is s.found s.sound.0 s.formed.0;
  sound = s.sound.1;
  placed = subst (λ n. ArePlaced n later) (omega (arith, length-append done (e ∷ []))) s.placed.1;
  formed = s.formed.1;
  rooted = s.rooted.1;
}

-- a commit's own operations are carried out
carried_out : (whole done later : List PlainEvent) (id mark : ℕ) (branch : Bytes) (author committer : Signed) (encoding : Option Bytes) (comment : Bytes) (parents : List ℕ) (ops : List FileOp)
    → HaveTrees whole → IsSplit whole done (Commit id mark branch author committer encoding comment parents ops [] ∷ later) → IsSome (folded ops (begun (tree done) parents))
carried_out whole done later id mark branch author committer encoding comment parents ops trees s =
    let own = Commit id mark branch author committer encoding comment parents ops [] in
    let here : has_id (own ∷ later) (any.Commit id) ≡ true = or_true (id == id) (has_id later (any.Commit id)) (eq-eqb id id refl) in
    let there : IsCommitOf whole id = subst (λ (w : List PlainEvent). has_id w (any.Commit id) ≡ true) (sym s.is) (commit_after done (own ∷ later) id here) in
    let place = s.placed.0 in
    subst IsSome (ap (λ (w : List PlainEvent). tree w id) s.is ∙ own_tree done later id mark branch author committer encoding comment parents ops (place_other (suc (next_id done)) id later s.placed.1 (omega (arith, place)))) (trees id there)
  where
    or_true : (a b : Bool) → a ≡ true → (a || b) ≡ true
    or_true a b e = ap (λ t. t || b) e

-- a root's branch has no tip
root_is : (done : List PlainEvent) (id mark : ℕ) (branch : Bytes) (author committer : Signed) (encoding : Option Bytes) (comment : Bytes) (parents : List ℕ) (ops : List FileOp)
    → IsRooted done (Commit id mark branch author committer encoding comment parents ops []) → parents ≡ [] → has (refs done) branch ≡ false
root_is done id mark branch author committer encoding comment [] ops h e = h
root_is done id mark branch author committer encoding comment (p ∷ ps) ops h e = absurd cc

target_found : (whole done : List PlainEvent) → AreFound whole done → (target : Option ℕ) → IfSome target (IsCommitOf done) → IfSome target (FindsCommit whole done)
target_found whole done found None h = tt
target_found whole done found (Some c) h = found.commits c h

-- a mark that no event of the history so far has, as an own one or an alias
unknown_mark : (front : List PlainEvent) (mark : ℕ) → is_marked front mark ≡ false → is_known (bare front) (pairs front) mark ≡ false
unknown_mark front mark h = let parts = marked_bare front mark h in or_from (is_marked (bare front) mark) (is_among (alias_marks (pairs front)) mark) parts.0 parts.1

-- an event without its aliases
event_goes : (whole front : List PlainEvent) (e : PlainEvent) (later : List PlainEvent) → HaveTrees whole → IsSplit whole (bare front) (bare (e ∷ later)) → IsSoundEvent front e → (rest : Bytes) (history : List PlainEvent)
    → GivesAfter (bare front ++ bare_event e ∷ []) (pairs front) rest history → GivesAfter (bare front) (pairs front) (event_text whole (refs (bare front)) (bare_event e) ++ rest) history
event_goes whole front (Blob id mark bytes) later trees s own rest history k d wants events current h =
    blob_goes d wants events current (bare front) (pairs front) h rest history whole id mark bytes s.placed.0 s.formed.0 (unknown_mark front mark own.1) k
event_goes whole front (Commit id mark branch author committer encoding comment parents ops aliases) later trees s own rest history k d wants events current h =
    let (fresh, new, named, written_by, committed_by, encoded, children, apart, few, refers, unmarked, distinct) = s.sound.0 in
    let (is_mark, formed, further) = s.formed.0 in
    commit_goes d wants events current whole (bare front) (pairs front) h s.found id mark branch author committer encoding comment parents ops
    (record {
      place = s.placed.0;
      is_mark = is_mark;
      new = unknown_mark front mark own.1;
      named = named;
      written_by = written_by;
      committed_by = committed_by;
      encoded = encoded;
      children = children;
      apart = apart;
      rooted = root_is (bare front) id mark branch author committer encoding comment parents ops s.rooted.0;
      refers = refers;
      formed = formed;
      carried_out = carried_out whole (bare front) (bare later) id mark branch author committer encoding comment parents ops trees s;
    }) rest history k
event_goes whole front (Tag id name target tagger comment mark) later trees s own rest history k d wants events current h =
    let (fresh, named, there, formed, new) = own in
    tag_goes d wants events current (bare front) (pairs front) h rest history whole id name target tagger comment mark s.placed.0 named (s.found.commits target s.sound.0.2) formed (new_mark mark s.formed.0 new) k
  where
    new_mark : (mark : Option ℕ) → IfSome mark IsMark → IfSome mark (λ m. IsFalse (is_marked front m)) → IfSome mark (λ m. IsMark m × (is_known (bare front) (pairs front) m ≡ false))
    new_mark None h f = tt
    new_mark (Some m) h f = (h, unknown_mark front m f)
event_goes whole front (Reset id branch target) later trees s own rest history k d wants events current h =
    let (fresh, named, there) = s.sound.0 in
    reset_goes d wants events current (bare front) (pairs front) h rest history whole id branch target s.placed.0 named (target_found whole (bare front) s.found target there) k
event_goes whole front (Pass id line) later trees s own rest history k d wants events current h =
    pass_goes d wants events current (bare front) (pairs front) h rest history whole id line s.placed.0 s.sound.0.1 k

-- ---- the aliases of an event

-- each is none of those so far, nor of the later ones
abbrev AreFresh : List PlainEvent → List (ℕ × ℕ) → List ℕ → Type 0
AreFresh done seen aliases = AllByRecursion (λ a. IsMark a × (is_known done seen a ≡ false)) aliases

known_more : (done : List PlainEvent) (seen : List (ℕ × ℕ)) (x : ℕ × ℕ) (m : ℕ) → (x.0 == m) ≡ false → is_known done seen m ≡ false → is_known done (seen ++ x ∷ []) m ≡ false
known_more done seen x m e h =
    let parts = or_parts (is_marked done m) (is_among (alias_marks seen) m) h in
    or_from (is_marked done m) (is_among (alias_marks (seen ++ x ∷ [])) m) parts.0
    (ap (λ (l : List ℕ). is_among l m) (alias_marks_append seen (x ∷ [])) ∙ among_append (alias_marks seen) (x.0 ∷ []) m parts.1 (or_from (x.0 == m) false e refl))

fresh_more : (done : List PlainEvent) (seen : List (ℕ × ℕ)) (x : ℕ × ℕ) (aliases : List ℕ) → list_any (λ m. m == x.0) aliases ≡ false → AreFresh done seen aliases → AreFresh done (seen ++ x ∷ []) aliases
fresh_more done seen x [] e h = tt
fresh_more done seen x (a ∷ aliases) e h =
    let parts = or_parts (a == x.0) (list_any (λ m. m == x.0) aliases) e in
    ((h.0.0, known_more done seen x a (eqb_turned x.0 a ∙ parts.0) h.0.1), fresh_more done seen x aliases parts.1 h.1)

aliases_go : (done : List PlainEvent) (seen : List (ℕ × ℕ)) (mark c : ℕ) (aliases : List ℕ) (rest : Bytes) (history : List PlainEvent)
    → IsMark mark → commit_marked done mark ≡ Some c → AreFresh done seen aliases → are_distinct aliases ≡ true
    → GivesAfter done (seen ++ map (λ a. (a, c)) aliases) rest history → GivesAfter done seen (flat_map (alias_text mark) aliases ++ rest) history
aliases_go done seen mark c [] rest history is_mark found fresh apart k d wants events current h = subst (λ (l : List (ℕ × ℕ)). GivesAfter done l rest history) (append-nil seen) k d wants events current h
aliases_go done seen mark c (a ∷ aliases) rest history is_mark found fresh apart k d wants events current h =
    let parts = and_parts (not (list_any (λ m. m == a) aliases)) (are_distinct aliases) apart in
    let next = aliases_go done (seen ++ (a, c) ∷ []) mark c aliases rest history is_mark found (fresh_more done seen (a, c) aliases (not-true (list_any (λ m. m == a) aliases) parts.0) fresh.1) parts.1
    (subst (λ (l : List (ℕ × ℕ)). GivesAfter done l rest history) (sym (append_assoc seen ((a, c) ∷ []) (map (λ x. (x, c)) aliases))) k) in
    subst (λ (text : Bytes). Gives (point d wants events seen current) text history) (sym (append_assoc (alias_text mark a) (flat_map (alias_text mark) aliases) rest))
    (alias_goes d wants events current done seen h (flat_map (alias_text mark) aliases ++ rest) history mark c a is_mark found fresh.0.0 fresh.0.1 next)

-- ---- all events

-- one more commit without aliases
marked_more : (done : List PlainEvent) (id mark : ℕ) (branch : Bytes) (author committer : Signed) (encoding : Option Bytes) (comment : Bytes) (parents : List ℕ) (ops : List FileOp) (m : ℕ)
    → is_marked done m ≡ false → (mark == m) ≡ false → is_marked (done ++ Commit id mark branch author committer encoding comment parents ops [] ∷ []) m ≡ false
marked_more done id mark branch author committer encoding comment parents ops m h e = is_marked_append done _ m h (or_from (mark == m) false e refl)

-- what holds of the first events of a history, and of all of them without aliases
record IsWalked (whole front later : List PlainEvent) : Type 0 where
  is : whole ≡ front ++ later
  split : IsSplit (bare whole) (bare front) (bare later)
  sound : AreSoundAfter front later
  formed : AllByRecursion IsFormedEvent later

next_walked : (whole front : List PlainEvent) (e : PlainEvent) (later : List PlainEvent) → IsWalked whole front (e ∷ later) → IsWalked whole (front ++ e ∷ []) later
next_walked whole front e later s = record {
  is = s.is ∙ sym (append_assoc front (e ∷ []) later);
  split = subst (λ (l : List PlainEvent). IsSplit (bare whole) l (bare later)) (sym (bare_append front (e ∷ []))) (next_split (bare whole) (bare front) (bare_event e) (bare later) s.split);
  sound = s.sound.1;
  formed = s.formed.1;
}

-- the aliases of an event go on from it
own_aliases : (whole front : List PlainEvent) (e : PlainEvent) (later : List PlainEvent) → IsWalked whole front (e ∷ later) → (rest : Bytes) (history : List PlainEvent)
    → GivesAfter (bare front ++ bare_event e ∷ []) (pairs front ++ own_pairs e) rest history → GivesAfter (bare front ++ bare_event e ∷ []) (pairs front) (alias_lines e ++ rest) history
own_aliases whole front (Commit id mark branch author committer encoding comment parents ops aliases) later s rest history k =
    let (fresh, new, named, written_by, committed_by, encoded, children, apart, few, refers, unmarked, distinct) = s.sound.0 in
    let parts = and_parts (not (list_any (λ m. m == mark) aliases)) (are_distinct aliases) distinct in
    let own = Commit id mark branch author committer encoding comment parents ops [] in
    aliases_go (bare front ++ own ∷ []) (pairs front) mark id aliases rest history s.formed.0.0
    (commit_new (bare front) (own ∷ []) mark (marked_bare front mark new).0 ∙ cond-true (mark == mark) (Some id) None (eq-eqb mark mark refl))
    (all_fresh aliases unmarked (not-true (list_any (λ m. m == mark) aliases) parts.0) s.formed.0.2) parts.1 k
  where
    all_fresh : (rest_of : List ℕ) → AllByRecursion (λ a. IsFalse (is_marked front a)) rest_of → list_any (λ m. m == mark) rest_of ≡ false → AllByRecursion IsMark rest_of
        → AreFresh (bare front ++ Commit id mark branch author committer encoding comment parents ops [] ∷ []) (pairs front) rest_of
    all_fresh [] u n f = tt
    all_fresh (a ∷ rest_of) u n f =
        let other = or_parts (a == mark) (list_any (λ m. m == mark) rest_of) n in
        let known = marked_bare front a u.0 in (
          (
            f.0,
            or_from (is_marked (bare front ++ Commit id mark branch author committer encoding comment parents ops [] ∷ []) a) (is_among (alias_marks (pairs front)) a)
                (marked_more (bare front) id mark branch author committer encoding comment parents ops a known.0 (eqb_turned mark a ∙ other.0)) known.1,
          ),
          all_fresh rest_of u.1 other.1 f.1,
        )
own_aliases whole front (Blob id mark bytes) later s rest history k = subst (λ (l : List (ℕ × ℕ)). GivesAfter (bare front ++ Blob id mark bytes ∷ []) l rest history) (append-nil (pairs front)) k
own_aliases whole front (Tag id name target tagger comment mark) later s rest history k = subst (λ (l : List (ℕ × ℕ)). GivesAfter (bare front ++ Tag id name target tagger comment mark ∷ []) l rest history) (append-nil (pairs front)) k
own_aliases whole front (Reset id branch target) later s rest history k = subst (λ (l : List (ℕ × ℕ)). GivesAfter (bare front ++ Reset id branch target ∷ []) l rest history) (append-nil (pairs front)) k
own_aliases whole front (Pass id line) later s rest history k = subst (λ (l : List (ℕ × ℕ)). GivesAfter (bare front ++ Pass id line ∷ []) l rest history) (append-nil (pairs front)) k

events_go : (whole front later : List PlainEvent) → AllByRecursion IsFormedEvent whole → ArePlaced 1 whole → HaveTrees (bare whole) → IsWalked whole front later
    → GivesAfter (bare front) (pairs front) (text_from whole (refs front) later ++ end_text whole) whole
events_go whole front [] formed placed trees s =
    subst (λ (l : List PlainEvent). GivesAfter (bare l) (pairs l) (end_text whole) whole) (s.is ∙ append-nil front) (end_goes whole formed placed)
events_go whole front (e ∷ later) formed placed trees s =
    let next = events_go whole (front ++ e ∷ []) later formed placed trees (next_walked whole front e later s) in
    let after = text_from whole (refs_after (refs front) (e ∷ [])) later ++ end_text whole in
    let on : GivesAfter (bare front ++ bare_event e ∷ []) (pairs front ++ own_pairs e) after whole =
    subst (λ (tips : TreeOf ℕ). GivesAfter (bare front ++ bare_event e ∷ []) (pairs front ++ own_pairs e) (text_from whole tips later ++ end_text whole) whole) (refs_append [] front (e ∷ []))
    (subst (λ (l : List (ℕ × ℕ)). GivesAfter (bare front ++ bare_event e ∷ []) l (text_from whole (refs (front ++ e ∷ [])) later ++ end_text whole) whole) (pairs_append front (e ∷ []) ∙ ap (λ (l : List (ℕ × ℕ)). pairs front ++ l) (append-nil (own_pairs e)))
    (subst (λ (l : List PlainEvent). GivesAfter l (pairs (front ++ e ∷ [])) (text_from whole (refs (front ++ e ∷ [])) later ++ end_text whole) whole) (bare_append front (e ∷ [])) next)) in
    subst (λ (text : Bytes). GivesAfter (bare front) (pairs front) text whole)
    (sym (append_assoc (event_text whole (refs front) e) (text_from whole (refs_after (refs front) (e ∷ [])) later) (end_text whole)
    ∙ ap (λ (t : Bytes). t ++ after) (event_bare whole (refs front) e)
    ∙ append_assoc (event_text (bare whole) (refs front) (bare_event e)) (alias_lines e) after
    ∙ ap (λ (tips : TreeOf ℕ). event_text (bare whole) tips (bare_event e) ++ (alias_lines e ++ after)) (sym (refs_bare [] front))))
    (event_goes (bare whole) front e later trees s.split s.sound.0 (alias_lines e ++ after) whole (own_aliases whole front e later s after whole on))

-- what is written of a history that was read is read again as it
pub again : (events : List PlainEvent) → IsAsRead events → history_in (text_of_history events) ≡ Some events
again events h =
    events_go events [] events h.sound.spelled h.placed (trees_bare events h.sound.trees)
    (record {
      is = refl;
      split = record {
        is = refl;
        found = record { commits = λ c e. absurd cc; blobs = λ b e. absurd cc };
        sound = sound_bare [] events h.sound.formed;
        placed = placed_bare 1 events h.placed;
        formed = spelled_bare events h.sound.spelled;
        rooted = rooted_bare [] events h.rooted;
      };
      sound = h.sound.formed;
      formed = h.sound.spelled;
    })
    expected.Event false [] Nothing (record { between = refl; are = refl; promised = refl }) 1 []
