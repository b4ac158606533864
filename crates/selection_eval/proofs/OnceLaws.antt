-- A selection's list is without repeats.
use Rattle.std.proofs.Common.{◌≡◌, ℕ, zero, suc, Bool, true, false, List, [], ◌∷◌, ◌++◌, map, Option, Some, None, Result, Ok, Err, refl, subst}
use Rattle.std.specs.Prelude.{◌+◌, ◌==◌, ◌-◌, codes, drop, take, bytes_eq, slice_get, option_to_list, length, nat_lt, if◌then◌else◌}
use Rattle.std.specs.List.{AllByRecursion}
use Rattle.plain_model.specs.Lookups.{event_at, find_mark, id_of}
use Rattle.plain_model.specs.Paths.{Bytes}
use Rattle.plain_model.specs.Snapshots.{refs}
use Rattle.plain_model.specs.Trees.{◌>>=◌, at}
use Rattle.plain_model.specs.declared.event.PlainEvent.{PlainEvent}
use Rattle.plain_model.specs.declared.fault.Fault.{Fault}
use Rattle.plain_model.specs.declared.fault.Fault.TheVariants as fault
use Rattle.history_laws.specs.Finding.{is_commit}
use Rattle.byte_patterns.specs.Judging.{Judged, ◌>>>◌, next_of, pattern_of}
use Rattle.selection_parser.specs.Plain.{PlainSelection, PlainSelections}
use Rattle.selection_parser.specs.Plain.PlainSelection.{Union, Both, Not, Near, Call, Kinds, Search, AtPath, AtPattern, Listed}
use Rattle.selection_parser.specs.Plain.PlainSelections.{none, more}
use Rattle.selection_parser.specs.declared.function.Function.{Function}
use Rattle.selection_parser.specs.declared.function.Function.TheVariants.{Min, Max, Amp, Par, Chn, Dsc, Anc, Pre, Suc, Srt}
use Rattle.selection_parser.specs.declared.item.Item.{Item}
use Rattle.selection_parser.specs.declared.item.Item.TheVariants.{One, Span}
use Rattle.selection_parser.specs.declared.item.Spot.{Spot}
use Rattle.selection_parser.specs.declared.item.Spot.TheVariants.{Number, Marked, Last, Named}
use Rattle.selection_eval.specs.Days.{email_in, is_date_form, is_day, is_moment, is_stamp, value_of}
use Rattle.selection_eval.specs.Denoted.{at_found, denote, in_turn, joined}
use Rattle.selection_eval.specs.Given.{AreNamesOnce, GivesOnce, HaveOwnIds}
use Rattle.event_sets.specs.Once.{IsOnce}
use Rattle.selection_eval.specs.Paths.{at_paths, in_trees}
use Rattle.event_sets.specs.Sets.{Ids, called, common, greatest, is_live, least, near_times, numbered, passing, union}
use Rattle.event_sets.proofs.OnceLemmas.{once_part, once_some, once_union, once_unless}
use Rattle.selection_eval.specs.Names.{Names, assigned}
use Rattle.selection_eval.specs.Spots.{dated, end, first, first_some, has_stamp, is_at_moment, is_committed, is_numbered, is_on_day, is_signed, is_tag_of, item, with_item, with_items, assigned_or, named, picked, some_or, span, spot, stamped, tag_or_tip, tip, tip_of}
use Rattle.selection_eval.proofs.OnceParts.{once_common, once_passing}

-- ---- what may be refused

once_after : (r : Result Ids Fault) (f : Ids → Result Ids Fault) → GivesOnce r
    → ((ids : Ids) → IsOnce ids → GivesOnce (f ids)) → GivesOnce (r >>= f)
once_after (Ok ids) f h k = k ids h
once_after (Err why) f h k = tt

once_next : (built : List Bytes) (r : Result Ids Fault) (f : Ids → Judged Ids) → GivesOnce r
    → ((ids : Ids) → IsOnce ids → GivesOnce (f ids).value) → GivesOnce (next_of built r f).value
once_next built (Ok ids) f h k = k ids h
once_next built (Err why) f h k = tt

once_then : (j : Judged Ids) (f : Ids → Judged Ids) → GivesOnce j.value
    → ((ids : Ids) → IsOnce ids → GivesOnce (f ids).value) → GivesOnce (j >>> f).value
once_then j f h k = once_next j.built j.value f h k

once_text : (built : List Bytes) (r : Result Bytes Fault) (f : Bytes → Judged Ids)
    → ((text : Bytes) → GivesOnce (f text).value) → GivesOnce (next_of built r f).value
once_text built (Ok text) f k = k text
once_text built (Err why) f k = tt

once_pattern : (j : Judged Bytes) (f : Bytes → Judged Ids) → ((text : Bytes) → GivesOnce (f text).value)
    → GivesOnce (j >>> f).value
once_pattern j f k = once_text j.built j.value f k

-- ---- single events

once_or : (why : Fault) (ids : Ids) → IsOnce ids → GivesOnce (some_or why ids)
once_or why [] h = tt
once_or why (id ∷ ids) h = h

once_first : (ids : Ids) → IsOnce (first ids)
once_first [] = refl
once_first (id ∷ ids) = refl

once_tip : (o : Option ℕ) → IsOnce (tip_of o)
once_tip None = refl
once_tip (Some c) = refl

once_first_some : (why : Fault) (lists : List Ids) → AllByRecursion IsOnce lists → GivesOnce (first_some why lists)
once_first_some why [] h = tt
once_first_some why ([] ∷ lists) h = once_first_some why lists h.1
once_first_some why ((id ∷ ids) ∷ lists) h = h.0

once_if : (b : Bool) (r q : Result Ids Fault) → GivesOnce r → GivesOnce q → GivesOnce (if b then r else q)
once_if true r q h k = h
once_if false r q h k = k

once_lookup : (text : Bytes) (names : Names) → AreNamesOnce names → (ids : Ids)
    → assigned text names ≡ Some ids → IsOnce ids
once_lookup text [] h ids e = absurd cc
once_lookup text (n ∷ names) h ids e = go (bytes_eq text n.0) e (once_lookup text names h.1 ids)
  where
    go : (b : Bool) → (if b then Some n.1 else assigned text names) ≡ Some ids
        → (assigned text names ≡ Some ids → IsOnce ids) → IsOnce ids
    go true e rec = let is : n.1 ≡ ids = cc in subst IsOnce is h.0
    go false e rec = rec e

once_picked : (n : Option ℕ) (ids : Ids) → IsOnce ids → IsOnce (picked n ids)
once_picked None ids h = h
once_picked (Some n) ids h = go (n == 0)
  where
    go : (b : Bool) → IsOnce (if b then [] else option_to_list (slice_get ids (n - 1)))
    go true = refl
    go false = once_some (slice_get ids (n - 1))

-- ---- a history

module _ (events : List PlainEvent) (own : HaveOwnIds events) where
  once_test : (test : PlainEvent → Bool) → IsOnce (passing test events)
  once_test test = once_passing test events own

  once_stamp : (moment : Bytes) (which : Bytes × Option ℕ) → IsOnce (stamped moment which events)
  once_stamp moment which =
      once_picked which.1 (passing (is_committed (has_stamp moment which.0)) events)
      (once_test (is_committed (has_stamp moment which.0)))

  once_dated : (text : Bytes) → GivesOnce (dated text events)
  once_dated text =
      once_if (is_day text) _ _
      (once_or (fault.NoSuchName text) (passing (is_signed (is_on_day text)) events) (once_test (is_signed (is_on_day text))))
      (once_if (is_moment text) _ _
      (once_or (fault.NoSuchName text) (passing (is_signed (is_at_moment text)) events)
      (once_test (is_signed (is_at_moment text))))
      (once_if (is_stamp text) _ _
      (once_or (fault.NoSuchName text) (stamped (take 20 text) (email_in (drop 21 text)) events)
      (once_stamp (take 20 text) (email_in (drop 21 text))))
      tt))

  once_tagged : (text : Bytes) → GivesOnce (tag_or_tip text events)
  once_tagged text =
      once_first_some (fault.NoSuchName text) (
      first (passing (is_tag_of text) events)
      ∷ tip (codes "refs/heads/" ++ text) events
      ∷ tip (codes "refs/tags/" ++ text) events
      ∷ tip text events
      ∷ []
      ) (
        once_first (passing (is_tag_of text) events),
        (
          once_tip (at (refs events) (codes "refs/heads/" ++ text)),
          (
            once_tip (at (refs events) (codes "refs/tags/" ++ text)),
            (once_tip (at (refs events) text), tt),
          ),
        ),
      )

  once_kept : (kept : Option Ids) (other : Result Ids Fault) → ((ids : Ids) → kept ≡ Some ids → IsOnce ids)
      → GivesOnce other → GivesOnce (assigned_or events kept other)
  once_kept (Some ids) other h k = once_part (is_live events) ids (h ids refl)
  once_kept None other h k = k

  once_span : (low high : ℕ) → GivesOnce (span low high events)
  once_span low high = once_if (nat_lt high low) _ _ tt (once_test _)

  ends_well : (r : Result Ids Fault) (f : Ids → Result Ids Fault) → ((ids : Ids) → GivesOnce (f ids))
      → GivesOnce (r >>= f)
  ends_well (Ok ids) f k = k ids
  ends_well (Err why) f k = tt

  once_called : (f : Function) (ids : Ids) → IsOnce (called events f ids)
  unfolding called
  once_called Min ids =
      once_unless ids (numbered events (least events ids)) (once_some (event_at (least events ids) events))
  once_called Max ids =
      once_unless ids (numbered events (greatest events ids)) (once_some (event_at (greatest events ids) events))
  once_called Amp ids = once_unless ids (map id_of events) own
  once_called Par ids = once_test _
  once_called Chn ids = once_test _
  once_called Dsc ids = once_test _
  once_called Anc ids = once_test _
  once_called Pre ids = once_unless ids _ (once_some (event_at (least events ids - 1) events))
  once_called Suc ids = once_unless ids _ (once_some (event_at (greatest events ids + 1) events))
  once_called Srt ids = once_test _

  once_near : (n : ℕ) (ids : Ids) → IsOnce ids → IsOnce (near_times events n ids)
  once_near zero ids h = h
  once_near (suc n) ids h = once_test _

  once_found : (whole : Bool) (text : Bytes) → IsOnce (at_found whole text events)
  unfolding at_paths in_trees
  once_found true text = once_test _
  once_found false text = once_test _

  once_at : (path : Bytes) → IsOnce (at_paths (bytes_eq path) events)
  unfolding at_paths
  once_at path = once_test _

  module _ (names : Names) (kept : AreNamesOnce names) where
    once_named : (text : Bytes) → GivesOnce (named text events names)
    unfolding named
    once_named text =
        once_if (is_numbered text) _ _
        (once_or (fault.NoSuchEvent (value_of (drop 1 text)))
        (picked (Some (value_of (drop 1 text))) (passing is_commit events))
        (once_picked (Some (value_of (drop 1 text))) (passing is_commit events) (once_test is_commit)))
        (once_if (is_date_form text) _ _ (once_dated text)
        (once_kept (assigned text names) (tag_or_tip text events) (once_lookup text names kept) (once_tagged text)))

    once_spot : (s : Spot) → GivesOnce (spot s events names)
    once_spot (Number n) = once_or (fault.NoSuchEvent n) (numbered events n) (once_some (event_at n events))
    once_spot (Marked n) = once_or (fault.NoSuchMark n) (option_to_list (find_mark n events)) (once_some (find_mark n events))
    once_spot Last =
        once_or (fault.NoSuchEvent 0) (numbered events (length events)) (once_some (event_at (length events) events))
    once_spot (Named text) = once_named text

    once_item : (i : Item) → GivesOnce (item i events names)
    once_item (One s) = once_spot s
    once_item (Span s t) =
        ends_well (end s events names) _ (λ left. ends_well (end t events names) _ (λ right.
        once_span (least events left) (greatest events right)))

    once_items : (list : List Item) (ids : Ids) → IsOnce ids → GivesOnce (with_items ids list events names)
    once_items [] ids h = h
    once_items (i ∷ list) ids h =
        once_after (with_item ids (item i events names)) _
        (once_after (item i events names) _ (once_item i) (λ others k. once_union ids others h k))
        (λ all k. once_items list all k)

    -- a selection's list is without repeats
    mutual
      unfolding denote joined in_turn

      pub selections_once : (selection : PlainSelection) → GivesOnce (denote selection events names).value
      selections_once (Union all) = joined_once union once_union all
      selections_once (Both all) = joined_once common once_common all
      selections_once (Not x) = once_then (denote x events names) _ (selections_once x) (λ ids h. once_test _)
      selections_once (Near times x) =
          once_then (denote x events names) _ (selections_once x) (λ ids h. once_near times ids h)
      selections_once (Call function x) =
          once_then (denote x events names) _ (selections_once x) (λ ids h. once_called function ids)
      selections_once (Kinds kinds) = once_test _
      selections_once (Search pattern fields) = once_pattern (pattern_of pattern) _ (λ text. once_test _)
      selections_once (AtPath path) = once_at path
      selections_once (AtPattern pattern whole) =
          once_pattern (pattern_of pattern) _ (λ text. once_found whole text)
      selections_once (Listed items) = once_items items [] refl

      joined_once : (join : Ids → Ids → Ids) → ((left right : Ids) → IsOnce left → IsOnce right → IsOnce (join left right))
          → (all : PlainSelections) → GivesOnce (joined join all events names).value
      joined_once join once none = refl
      joined_once join once (more x others) =
          once_then (denote x events names) _ (selections_once x) (λ ids h. turn_once join once others ids h)

      turn_once : (join : Ids → Ids → Ids) → ((left right : Ids) → IsOnce left → IsOnce right → IsOnce (join left right))
          → (all : PlainSelections) (ids : Ids) → IsOnce ids → GivesOnce (in_turn join all ids events names).value
      turn_once join once none ids h = h
      turn_once join once (more x others) ids h =
          once_then (denote x events names) _ (selections_once x) (λ right k.
          turn_once join once others (join ids right) (once ids right h k))
