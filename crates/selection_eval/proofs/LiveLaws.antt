-- A selection's events are events of the history.
use Rattle.std.proofs.Common.{ℕ, zero, suc, Bool, true, false, List, [], ◌∷◌, ◌++◌, length, Option, Some, None, Result, Ok, Err}
use Rattle.std.specs.Prelude.{◌+◌, ◌==◌, ◌-◌, codes, drop, take, bytes_eq, slice_get, option_to_list, nat_lt, if◌then◌else◌}
use Rattle.std.specs.List.{AllByRecursion}
use Rattle.plain_model.specs.Lookups.{find_mark}
use Rattle.plain_model.specs.Paths.{Bytes}
use Rattle.plain_model.specs.Trees.{◌>>=◌}
use Rattle.plain_model.specs.declared.event.PlainEvent.{PlainEvent}
use Rattle.plain_model.specs.declared.fault.Fault.{Fault}
use Rattle.plain_model.specs.declared.fault.Fault.TheVariants as fault
use Rattle.history_laws.specs.Finding.{is_commit}
use Rattle.byte_patterns.specs.Judging.{Judged, ◌>>>◌, next_of, pattern_of}
use Rattle.selection_parser.specs.Plain.{PlainSelection, PlainSelections}
use Rattle.selection_parser.specs.Plain.PlainSelection.{Union, Both, Not, Near, Call, Kinds, Search, AtPath, AtPattern, Listed}
use Rattle.selection_parser.specs.Plain.PlainSelections.{none, more}
use Rattle.selection_parser.specs.declared.function.Function.{Function}
use Rattle.selection_parser.specs.declared.function.Function.TheVariants.{Min, Max, Amp, Par, Chn, Dsc, Anc, Pre, Suc, Srt}
use Rattle.selection_parser.specs.declared.item.Item.{Item}
use Rattle.selection_parser.specs.declared.item.Item.TheVariants.{One, Span}
use Rattle.selection_parser.specs.declared.item.Spot.{Spot}
use Rattle.selection_parser.specs.declared.item.Spot.TheVariants.{Number, Marked, Last, Named}
use Rattle.event_sets.specs.Once.{AreLive}
use Rattle.event_sets.specs.Sets.{Ids, called, common, greatest, is_live, least, near_times, numbered, passing, union, unless_empty}
use Rattle.selection_eval.specs.Days.{email_in, is_date_form, is_day, is_moment, is_stamp, value_of}
use Rattle.selection_eval.specs.Denoted.{at_found, denote, in_turn, joined}
use Rattle.selection_eval.specs.Given.{AreTipsLive, GivesLive}
use Rattle.selection_eval.specs.Paths.{at_paths, in_trees}
use Rattle.selection_eval.specs.Names.{Names, assigned}
use Rattle.selection_eval.specs.Spots.{dated, end, first, first_some, has_stamp, is_at_moment, is_committed, is_numbered, is_on_day, is_signed, is_tag_of, item, with_item, with_items, assigned_or, named, picked, some_or, spot, stamped, tag_or_tip, tip}
use Rattle.selection_eval.proofs.LiveParts.{all_passed, live_common, live_event, live_ids, live_mark, live_passing, live_union, stand_all}

module _ (events : List PlainEvent) where
  -- ---- what may be refused

  live_after : (r : Result Ids Fault) (f : Ids → Result Ids Fault) → GivesLive events r
      → ((ids : Ids) → AreLive events ids → GivesLive events (f ids)) → GivesLive events (r >>= f)
  live_after (Ok ids) f h k = k ids h
  live_after (Err why) f h k = tt

  live_next : (built : List Bytes) (r : Result Ids Fault) (f : Ids → Judged Ids) → GivesLive events r
      → ((ids : Ids) → AreLive events ids → GivesLive events (f ids).value) → GivesLive events (next_of built r f).value
  live_next built (Ok ids) f h k = k ids h
  live_next built (Err why) f h k = tt

  live_then : (j : Judged Ids) (f : Ids → Judged Ids) → GivesLive events j.value
      → ((ids : Ids) → AreLive events ids → GivesLive events (f ids).value) → GivesLive events (j >>> f).value
  live_then j f h k = live_next j.built j.value f h k

  live_text : (built : List Bytes) (r : Result Bytes Fault) (f : Bytes → Judged Ids)
      → ((text : Bytes) → GivesLive events (f text).value) → GivesLive events (next_of built r f).value
  live_text built (Ok text) f k = k text
  live_text built (Err why) f k = tt

  live_pattern : (j : Judged Bytes) (f : Bytes → Judged Ids) → ((text : Bytes) → GivesLive events (f text).value)
      → GivesLive events (j >>> f).value
  live_pattern j f k = live_text j.built j.value f k

  live_or : (why : Fault) (ids : Ids) → AreLive events ids → GivesLive events (some_or why ids)
  live_or why [] h = tt
  live_or why (id ∷ ids) h = h

  live_first : (ids : Ids) → AreLive events ids → AreLive events (first ids)
  live_first [] h = tt
  live_first (id ∷ ids) h = (h.0, tt)

  live_first_some : (why : Fault) (lists : List Ids) → AllByRecursion (AreLive events) lists
      → GivesLive events (first_some why lists)
  live_first_some why [] h = tt
  live_first_some why ([] ∷ lists) h = live_first_some why lists h.1
  live_first_some why ((id ∷ ids) ∷ lists) h = h.0

  live_unless : (ids others : Ids) → AreLive events others → AreLive events (unless_empty ids others)
  live_unless [] others h = tt
  live_unless (id ∷ ids) others h = h

  live_if : (b : Bool) (r q : Result Ids Fault) → GivesLive events r → GivesLive events q
      → GivesLive events (if b then r else q)
  live_if true r q h k = h
  live_if false r q h k = k

  live_at : (ids : Ids) (k : ℕ) → AreLive events ids → AreLive events (option_to_list (slice_get ids k))
  live_at [] zero h = tt
  live_at [] (suc k) h = tt
  live_at (id ∷ ids) zero h = (h.0, tt)
  live_at (id ∷ ids) (suc k) h = live_at ids k h.1

  live_picked : (n : Option ℕ) (ids : Ids) → AreLive events ids → AreLive events (picked n ids)
  live_picked None ids h = h
  live_picked (Some n) ids h = go (n == 0)
    where
      go : (b : Bool) → AreLive events (if b then [] else option_to_list (slice_get ids (n - 1)))
      go true = tt
      go false = live_at ids (n - 1) h

  -- ---- what doesn't hang on names

  live_test : (test : PlainEvent → Bool) → AreLive events (passing test events)
  live_test test = live_passing events test

  live_stamp : (moment : Bytes) (which : Bytes × Option ℕ) → AreLive events (stamped moment which events)
  live_stamp moment which =
      live_picked which.1 (passing (is_committed (has_stamp moment which.0)) events)
      (live_test (is_committed (has_stamp moment which.0)))

  live_dated : (text : Bytes) → GivesLive events (dated text events)
  live_dated text =
      live_if (is_day text) _ _
      (live_or (fault.NoSuchName text) (passing (is_signed (is_on_day text)) events) (live_test (is_signed (is_on_day text))))
      (live_if (is_moment text) _ _
      (live_or (fault.NoSuchName text) (passing (is_signed (is_at_moment text)) events)
      (live_test (is_signed (is_at_moment text))))
      (live_if (is_stamp text) _ _
      (live_or (fault.NoSuchName text) (stamped (take 20 text) (email_in (drop 21 text)) events)
      (live_stamp (take 20 text) (email_in (drop 21 text))))
      tt))

  whatever : (r : Result Ids Fault) (f : Ids → Result Ids Fault) → ((ids : Ids) → GivesLive events (f ids))
      → GivesLive events (r >>= f)
  whatever (Ok ids) f k = k ids
  whatever (Err why) f k = tt

  live_called : (f : Function) (ids : Ids) → AreLive events (called events f ids)
  unfolding called
  live_called Min ids = live_unless ids (numbered events (least events ids)) (live_event events (least events ids))
  live_called Max ids = live_unless ids (numbered events (greatest events ids)) (live_event events (greatest events ids))
  live_called Amp ids = live_unless ids _ (live_ids events events (stand_all events))
  live_called Par ids = live_test _
  live_called Chn ids = live_test _
  live_called Dsc ids = live_test _
  live_called Anc ids = live_test _
  live_called Pre ids =
      live_unless ids (numbered events (least events ids - 1)) (live_event events (least events ids - 1))
  live_called Suc ids =
      live_unless ids (numbered events (greatest events ids + 1)) (live_event events (greatest events ids + 1))
  live_called Srt ids = live_test _

  live_near : (n : ℕ) (ids : Ids) → AreLive events ids → AreLive events (near_times events n ids)
  live_near zero ids h = h
  live_near (suc n) ids h = live_test _

  live_found : (whole : Bool) (text : Bytes) → AreLive events (at_found whole text events)
  unfolding at_paths in_trees
  live_found true text = live_test _
  live_found false text = live_test _

  live_path : (path : Bytes) → AreLive events (at_paths (bytes_eq path) events)
  unfolding at_paths
  live_path path = live_test _

  -- ---- names

  module _ (tips : AreTipsLive events) (names : Names) where
    live_tagged : (text : Bytes) → GivesLive events (tag_or_tip text events)
    live_tagged text =
        live_first_some (fault.NoSuchName text) (
        first (passing (is_tag_of text) events)
        ∷ tip (codes "refs/heads/" ++ text) events
        ∷ tip (codes "refs/tags/" ++ text) events
        ∷ tip text events
        ∷ []
        ) (
          live_first (passing (is_tag_of text) events) (live_test (is_tag_of text)),
          (tips (codes "refs/heads/" ++ text), (tips (codes "refs/tags/" ++ text), (tips text, tt))),
        )

    live_kept : (kept : Option Ids) (other : Result Ids Fault) → GivesLive events other
        → GivesLive events (assigned_or events kept other)
    live_kept (Some ids) other h = all_passed (is_live events) ids
    live_kept None other h = h

    live_named : (text : Bytes) → GivesLive events (named text events names)
    unfolding named
    live_named text =
        live_if (is_numbered text) _ _
        (live_or (fault.NoSuchEvent (value_of (drop 1 text)))
        (picked (Some (value_of (drop 1 text))) (passing is_commit events))
        (live_picked (Some (value_of (drop 1 text))) (passing is_commit events) (live_test is_commit)))
        (live_if (is_date_form text) _ _ (live_dated text)
        (live_kept (assigned text names) (tag_or_tip text events) (live_tagged text)))

    live_spot : (s : Spot) → GivesLive events (spot s events names)
    live_spot (Number n) = live_or (fault.NoSuchEvent n) (numbered events n) (live_event events n)
    live_spot (Marked n) = live_or (fault.NoSuchMark n) (option_to_list (find_mark n events)) (live_mark events n)
    live_spot Last = live_or (fault.NoSuchEvent 0) (numbered events (length events)) (live_event events (length events))
    live_spot (Named text) = live_named text

    live_item : (i : Item) → GivesLive events (item i events names)
    live_item (One s) = live_spot s
    live_item (Span s t) =
        whatever (end s events names) _ (λ left. whatever (end t events names) _ (λ right.
        live_if (nat_lt (greatest events right) (least events left)) _ _ tt (live_test _)))

    live_items : (list : List Item) (ids : Ids) → AreLive events ids → GivesLive events (with_items ids list events names)
    live_items [] ids h = h
    live_items (i ∷ list) ids h =
        live_after (with_item ids (item i events names)) _
        (live_after (item i events names) _ (live_item i) (λ others k. live_union events ids others h k))
        (λ all k. live_items list all k)

    -- a selection's events are events of the history
    mutual
      unfolding denote joined in_turn

      pub selections_live : (selection : PlainSelection) → GivesLive events (denote selection events names).value
      selections_live (Union all) = joined_live union (live_union events) all
      selections_live (Both all) = joined_live common (live_common events) all
      selections_live (Not x) = live_then (denote x events names) _ (selections_live x) (λ ids h. live_test _)
      selections_live (Near times x) =
          live_then (denote x events names) _ (selections_live x) (λ ids h. live_near times ids h)
      selections_live (Call function x) =
          live_then (denote x events names) _ (selections_live x) (λ ids h. live_called function ids)
      selections_live (Kinds kinds) = live_test _
      selections_live (Search pattern fields) = live_pattern (pattern_of pattern) _ (λ text. live_test _)
      selections_live (AtPath path) = live_path path
      selections_live (AtPattern pattern whole) =
          live_pattern (pattern_of pattern) _ (λ text. live_found whole text)
      selections_live (Listed items) = live_items items [] tt

      joined_live : (join : Ids → Ids → Ids)
          → ((left right : Ids) → AreLive events left → AreLive events right → AreLive events (join left right))
          → (all : PlainSelections) → GivesLive events (joined join all events names).value
      joined_live join keeps none = tt
      joined_live join keeps (more x others) =
          live_then (denote x events names) _ (selections_live x) (λ ids h. turn_live join keeps others ids h)

      turn_live : (join : Ids → Ids → Ids)
          → ((left right : Ids) → AreLive events left → AreLive events right → AreLive events (join left right))
          → (all : PlainSelections) (ids : Ids) → AreLive events ids
          → GivesLive events (in_turn join all ids events names).value
      turn_live join keeps none ids h = h
      turn_live join keeps (more x others) ids h =
          live_then (denote x events names) _ (selections_live x) (λ right k.
          turn_live join keeps others (join ids right) (keeps ids right h k))
