-- Events that are well so far are such as reading gives them, once each blob and each commit has a mark, and each commit its
-- aliases.
use Rattle.std.proofs.Common.{◌≡◌, ℕ, ◌+◌, ◌<◌, ◌≤◌, Bool, true, false, cond, List, [], ◌∷◌, ◌++◌, length, reverse, Option, Some, None, refl, sym, ap, subst, ◌∙◌, inl, inr, arith, eq-eqb, append_assoc}
use Rattle.std.specs.Prelude.{◌==◌, IsSome, filter, is_some}
use Rattle.std.specs.List.{AllByRecursion}
use Rattle.std.proofs.lemmas.Bool.{false_from_ne_true}
use Rattle.plain_model.specs.declared.limit.TheConstants.{MAX_MARK}
use Rattle.plain_model.specs.declared.id.AnyId.{AnyId}
use Rattle.plain_model.specs.declared.id.AnyId.TheVariants as any
use Rattle.plain_model.specs.declared.operation.FileOp.{FileOp}
use Rattle.plain_model.specs.declared.person.Signed.{Signed}
use Rattle.plain_model.specs.declared.event.PlainEvent.{PlainEvent}
use Rattle.plain_model.specs.declared.event.PlainEvent.TheVariants.{Blob, Commit, Tag, Reset, Pass}
use Rattle.plain_model.specs.Histories.{Node, tree_in}
use Rattle.plain_model.specs.Lookups.{id_number, event_marks}
use Rattle.plain_model.specs.Marks.{IsMark}
use Rattle.plain_model.specs.Paths.{Bytes}
use Rattle.plain_model.specs.Snapshots.{refs}
use Rattle.plain_model.specs.Soundness.{AreSoundAfter, IsCommitOf, IsFormedEvent, IsSoundEvent, RefersBack, are_distinct, has_id}
use Rattle.plain_model.specs.Streams.{is_marked}
use Rattle.plain_model.specs.Trees.{TreeOf, at}
use Rattle.stream_grammar.specs.Known.{Known, alias_marks, aliases_for, closed, greatest_read, history_of}
use Rattle.stream_grammar.specs.Limits.{last_mark, own_want, unmarked_count, want_of}
use Rattle.round_trip_laws.specs.AsRead.{IsRooted, AreRootedAfter, IsAsRead}
use Rattle.history_laws.proofs.Lists.{all_imply}
use Rattle.history_laws.proofs.SoundMarks.{marks_formed}
use Rattle.history_laws.proofs.PlacedIds.{id_below}
use Rattle.soundness_laws.proofs.Kept.{AreKnown}
use Rattle.soundness_laws.proofs.MarkSums.{AreOnce, marks_distinct, marks_new, one, weigh, weight, weight_append}
use Rattle.soundness_laws.proofs.Marking.{are_once, has_id_same, history_is, mark_above, marked_append, marked_event, marked_events, nodes_same, placed_same, refs_same, unmarked_append}
use Rattle.soundness_laws.proofs.MarksOnce.{IsOnce, closed_once}
use Rattle.soundness_laws.proofs.SoFar.{AreWell, AreWellAfter, HaveTrees, IsMarkYet, IsWellEvent, are_placed, have_trees, refers_imply, well_more}

-- ---- one event

-- a blob or a commit has a mark once it is given one
mark_is : (n mark : ℕ) → IsMarkYet mark → n + want_of mark ≤ MAX_MARK → IsMark (mark_above n mark)
mark_is n mark fits within = go (mark == 0) refl fits within
  where
    go : (t : Bool) → (mark == 0) ≡ t → IsMarkYet mark → n + cond t 1 0 ≤ MAX_MARK → IsMark (cond t (n + 1) mark)
    go true e fits within = (omega arith, within)
    go false e (inl none) within = absurd (let is : (mark == 0) ≡ true = eq-eqb mark 0 none in cc)
    go false e (inr fits) within = fits

-- the aliases of one commit are marks if all are
aliases_formed : (id : ℕ) (aliases : List (ℕ × ℕ)) → AllByRecursion (λ a. IsMark a.0) aliases → AllByRecursion IsMark (aliases_for id aliases)
aliases_formed id [] h = tt
aliases_formed id (a ∷ aliases) h = go (a.1 == id) (aliases_formed id aliases h.1)
  where
    go : (t : Bool) → AllByRecursion IsMark (aliases_for id aliases) → AllByRecursion IsMark (alias_marks (cond t (a ∷ filter (λ b. b.1 == id) aliases) (filter (λ b. b.1 == id) aliases)))
    go true more = (h.0, more)
    go false more = more

-- what reading gives of one event
abbrev IsReadEvent : List PlainEvent → PlainEvent → Type 0
IsReadEvent earlier e = IsSoundEvent earlier e × IsRooted earlier e × IsFormedEvent e

-- a commit is rooted where, if it has no parents, its branch has no tip
rooted_if : (earlier : List PlainEvent) (id mark : ℕ) (branch : Bytes) (author committer : Signed) (encoding : Option Bytes) (comment : Bytes) (parents : List ℕ) (ops : List FileOp) (aliases : List ℕ)
    → (parents ≡ [] → at (refs earlier) branch ≡ None) → IsRooted earlier (Commit id mark branch author committer encoding comment parents ops aliases)
rooted_if earlier id mark branch author committer encoding comment [] ops aliases h = ap is_some (h refl)
rooted_if earlier id mark branch author committer encoding comment (p ∷ ps) ops aliases h = tt

module _ (aliases : List (ℕ × ℕ)) (named : AllByRecursion (λ a. IsMark a.0) aliases) where
  module _ (n : ℕ) (earlier shown : List PlainEvent) (well : AreWell earlier) (ids : (wanted : AnyId) → has_id shown wanted ≡ has_id earlier wanted) (tips : refs shown ≡ refs earlier) where
    event_formed : (e : PlainEvent) → n + own_want e ≤ MAX_MARK → IsWellEvent earlier e → IsFormedEvent (marked_event aliases n e)
    event_formed (Blob id mark bytes) within h = mark_is n mark h.1 within
    event_formed (Commit id mark branch author committer encoding comment parents ops old) within h = (mark_is n mark h.1.marked within, h.1.pathed, aliases_formed id aliases named)
    event_formed (Tag id name target tagger comment mark) within h = h.4
    event_formed (Reset id branch target) within h = tt
    event_formed (Pass id line) within h = tt

    -- an id at the next place is new
    id_is_new : (wanted : AnyId) → id_number wanted ≡ length earlier + 1 → has_id shown wanted ≡ false
    id_is_new wanted e = ids wanted ∙ false_from_ne_true (has_id earlier wanted) (λ h. let below = id_below 1 earlier (are_placed earlier well) wanted h in absurd (omega arith))

    still_commit : (c : ℕ) → IsCommitOf earlier c → IsCommitOf shown c
    still_commit c h = ids (any.Commit c) ∙ h

    -- an event whose marks are new is read
    event_is_read : (e : PlainEvent) → IsWellEvent earlier e → IsFormedEvent (marked_event aliases n e) → AllByRecursion (λ m. is_marked shown m ≡ false) (event_marks (marked_event aliases n e))
        → are_distinct (event_marks (marked_event aliases n e)) ≡ true → IsReadEvent shown (marked_event aliases n e)
    event_is_read (Blob id mark bytes) h formed new apart = ((id_is_new (any.Blob id) h.0, new.0), tt, formed)
    event_is_read (Commit id mark branch author committer encoding comment parents ops old) h formed new apart =
        let c = h.1 in (
          (
            id_is_new (any.Commit id) h.0,
            new.0,
            c.named,
            c.authored,
            c.committed,
            c.encoded,
            all_imply (IsCommitOf earlier) (IsCommitOf shown) still_commit parents c.linked,
            c.apart,
            c.few,
            all_imply (RefersBack earlier) (RefersBack shown) (refers_imply earlier shown (λ b i. ids (any.Blob b) ∙ i)) ops c.referring,
            new.1,
            apart,
          ),
          rooted_if shown id (mark_above n mark) branch author committer encoding comment parents ops (aliases_for id aliases) (λ none. ap (λ (t : TreeOf ℕ). at t branch) tips ∙ c.rooted none),
          formed,
        )
    event_is_read (Tag id name target tagger comment None) h formed new apart = ((id_is_new (any.Tag id) h.0, h.1, still_commit target h.2, h.3, tt), tt, formed)
    event_is_read (Tag id name target tagger comment (Some mark)) h formed new apart = ((id_is_new (any.Tag id) h.0, h.1, still_commit target h.2, h.3, new.0), tt, formed)
    event_is_read (Reset id branch None) h formed new apart = ((id_is_new (any.Reset id) h.0, h.1, tt), tt, formed)
    event_is_read (Reset id branch (Some c)) h formed new apart = ((id_is_new (any.Reset id) h.0, h.1, still_commit c h.2), tt, formed)
    event_is_read (Pass id line) h formed new apart = ((id_is_new (any.Pass id) h.0, h.1), tt, formed)

    one_is_read : (e : PlainEvent) (rest : List PlainEvent) → n + own_want e ≤ MAX_MARK → IsWellEvent earlier e → AreOnce (shown ++ marked_event aliases n e ∷ rest) → IsReadEvent shown (marked_event aliases n e)
    one_is_read e rest within h once =
        let formed = event_formed e within h in
        let marks = marks_formed (marked_event aliases n e) formed in
        event_is_read e h formed (marks_new shown (event_marks (marked_event aliases n e)) marks (λ m is. let more = both m is in omega arith))
        (marks_distinct (event_marks (marked_event aliases n e)) marks (λ m is. let more = both m is in omega arith))
      where
        both : (m : ℕ) → 0 < m → weight (one m) shown + weigh (one m) (event_marks (marked_event aliases n e)) ≤ 1
        both m is = let parts = weight_append (one m) shown (marked_event aliases n e ∷ rest) in let most = once m is in omega arith

  -- ---- all events

  abbrev AreReadAfter : List PlainEvent → List PlainEvent → Type 0
  AreReadAfter earlier [] = Unit {0}
  AreReadAfter earlier (e ∷ events) = IsReadEvent earlier e × AreReadAfter (earlier ++ e ∷ []) events

  are_read : (g n : ℕ) (earlier events shown : List PlainEvent) → marked_events aliases g earlier ≡ shown → g + unmarked_count earlier ≡ n → AreWell earlier → AreWellAfter earlier events
      → AreOnce (shown ++ marked_events aliases n events) → n + unmarked_count events ≤ MAX_MARK → AreReadAfter shown (marked_events aliases n events)
  are_read g n earlier [] shown is at_n well h once within = tt
  are_read g n earlier (e ∷ events) shown is at_n well h once within =
      let new : PlainEvent = marked_event aliases n e in
      let count : unmarked_count (earlier ++ e ∷ []) ≡ unmarked_count earlier + own_want e = unmarked_append earlier e in (
        one_is_read n earlier shown well (λ wanted. ap (λ (l : List PlainEvent). has_id l wanted) (sym is) ∙ has_id_same aliases g earlier wanted)
            (ap (λ (l : List PlainEvent). refs l) (sym is) ∙ refs_same aliases g [] earlier) e (marked_events aliases (n + own_want e) events) (omega arith) h.0 once,
        are_read g (n + own_want e) (earlier ++ e ∷ []) events (shown ++ new ∷ [])
            (marked_append aliases g earlier e ∙ ap (λ (l : List PlainEvent). l ++ marked_event aliases (g + unmarked_count earlier) e ∷ []) is ∙ ap (λ k. shown ++ marked_event aliases k e ∷ []) at_n) (omega arith)
            (well_more earlier e well h.0) h.1 (subst AreOnce (sym (append_assoc shown (new ∷ []) (marked_events aliases (n + own_want e) events))) once) (omega arith),
      )

  -- ---- the parts

  sound_of : (earlier events : List PlainEvent) → AreReadAfter earlier events → AreSoundAfter earlier events
  sound_of earlier [] h = tt
  sound_of earlier (e ∷ events) h = (h.0.0, sound_of (earlier ++ e ∷ []) events h.1)

  rooted_of : (earlier events : List PlainEvent) → AreReadAfter earlier events → AreRootedAfter earlier events
  rooted_of earlier [] h = tt
  rooted_of earlier (e ∷ events) h = (h.0.1, rooted_of (earlier ++ e ∷ []) events h.1)

  formed_of : (earlier events : List PlainEvent) → AreReadAfter earlier events → AllByRecursion IsFormedEvent events
  formed_of earlier [] h = tt
  formed_of earlier (e ∷ events) h = (h.0.2, formed_of (earlier ++ e ∷ []) events h.1)

  -- trees don't depend on marks
  trees_of : (g : ℕ) (events : List PlainEvent) → HaveTrees events → HaveTrees (marked_events aliases g events)
  trees_of g events h c is =
      subst (λ (l : List Node). IsSome (tree_in (reverse l) c)) (sym (nodes_same aliases g events)) (h c (sym (has_id_same aliases g events (any.Commit c)) ∙ is))

  marked_as_read : (g : ℕ) (events : List PlainEvent) → AreWell events → AreOnce (marked_events aliases g events) → g + unmarked_count events ≤ MAX_MARK → IsAsRead (marked_events aliases g events)
  marked_as_read g events h once within =
      let read : AreReadAfter [] (marked_events aliases g events) = are_read g g [] events [] refl (omega arith) tt h once within in
      record {
        sound = record { formed = sound_of [] (marked_events aliases g events) read; spelled = formed_of [] (marked_events aliases g events) read; trees = trees_of g events (have_trees events h) };
        placed = placed_same aliases g 1 events (are_placed events h);
        rooted = rooted_of [] (marked_events aliases g events) read;
      }

-- what is known to be so far gives such a history, where there are marks enough
pub are_as_read : (k : Known) → AreKnown k → IsOnce k → last_mark k ≤ MAX_MARK → IsAsRead (history_of k)
are_as_read k h once within =
    subst IsAsRead (sym (history_is k.aliases (greatest_read k) (closed k)))
    (marked_as_read k.aliases (all_imply (λ a. IsMark a.0 × IsCommitOf (closed k) a.1) (λ a. IsMark a.0) (λ a x. x.0) k.aliases h.aliased) (greatest_read k) (closed k) h.well (are_once k (are_placed (closed k) h.well) (closed_once k once)) within)
