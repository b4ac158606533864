-- A selection is refused with 46 for a text over its size or with a `{`, or under a denial for a size.
use Rattle.std.proofs.Common.{◌≡◌, ◌⊎◌, ℕ, Bool, true, false, inl, inr, List, [], ◌∷◌, ◌++◌, Option, Some, None, Result, Ok, Err, refl, subst, length}
use Rattle.std.specs.Prelude.{codes, drop, bytes_eq, option_to_list, slice_get, nat_lt, if◌then◌else◌}
use Rattle.std.specs.Map.{lookup}
use Rattle.plain_model.specs.Lookups.{find_mark}
use Rattle.plain_model.specs.Paths.{Bytes}
use Rattle.plain_model.specs.Trees.{◌>>=◌}
use Rattle.plain_model.specs.declared.id.AnyId.{AnyId}
use Rattle.plain_model.specs.declared.event.PlainEvent.{PlainEvent}
use Rattle.plain_model.specs.declared.fault.Fault.{Fault}
use Rattle.plain_model.specs.declared.fault.Fault.TheVariants as fault
use Rattle.byte_patterns.specs.Judging.{Denial, Judged, Reason, as_read, is_big, is_sized, its_nesting, its_size, next_of, pattern_of, plainly, under, unless_deep, without}
use Rattle.byte_patterns.specs.Searching.{is_pattern, is_too_deep}
use Rattle.selection_parser.specs.Plain.{PlainSelection, PlainSelections}
use Rattle.selection_parser.specs.Plain.PlainSelection.{Union, Both, Not, Near, Call, Kinds, Search, AtPath, AtPattern, Listed}
use Rattle.selection_parser.specs.Plain.PlainSelections.{none, more}
use Rattle.selection_parser.specs.declared.item.Item.{Item}
use Rattle.selection_parser.specs.declared.item.Item.TheVariants.{One, Span}
use Rattle.selection_parser.specs.declared.item.Spot.{Spot}
use Rattle.selection_parser.specs.declared.item.Spot.TheVariants.{Number, Marked, Last, Named}
use Rattle.event_sets.specs.Sets.{Ids, common, greatest, least, numbered, passing, union}
use Rattle.selection_eval.specs.Days.{is_date_form, is_day, is_moment, is_stamp, value_of}
use Rattle.selection_eval.specs.Denoted.{denote, in_turn, joined}
use Rattle.selection_eval.specs.Names.{Names, assigned}
use Rattle.selection_eval.specs.Spots.{dated, end, first, first_some, is_numbered, is_tag_of, item, itemized, with_item, with_items, assigned_or, named, some_or, spot, spot_text, tag_or_tip, tip}

-- what is refused with 46 is too big
abbrev BigOnly : {A : Type 0} → Result A Fault → Type 0
BigOnly r = (p : Bytes) → r ≡ Err (fault.PatternTooBig p) → is_big p ≡ true

-- ---- what is refused otherwise

ok_small : {A : Type 0} (x : A) → BigOnly (Ok x)
ok_small x p e = absurd cc

after : {A B : Type 0} (r : Result A Fault) (f : A → Result B Fault) → BigOnly r → ((x : A) → BigOnly (f x))
    → BigOnly (r >>= f)
after (Ok x) f h k = k x
after (Err why) f h k = λ p e. h p (let same : why ≡ fault.PatternTooBig p = cc in cc)

either_way : {A : Type 0} (b : Bool) (r q : Result A Fault) → BigOnly r → BigOnly q → BigOnly (if b then r else q)
either_way true r q h k = h
either_way false r q h k = k

-- a fault that isn't 46
abbrev IsOther : Fault → Type 0
IsOther why = (p : Bytes) → why ≡ fault.PatternTooBig p → ⊥

other_err : {A : Type 0} (why : Fault) → IsOther why → BigOnly {A = A} (Err why)
other_err why h p e = absurd (h p cc)

some_small : (why : Fault) (ids : Ids) → IsOther why → BigOnly (some_or why ids)
some_small why [] h = other_err why h
some_small why (id ∷ ids) h = ok_small (id ∷ ids)

first_small : (why : Fault) (lists : List Ids) → IsOther why → BigOnly (first_some why lists)
first_small why [] h = other_err why h
first_small why ([] ∷ lists) h = first_small why lists h
first_small why ((id ∷ ids) ∷ lists) h = ok_small (id ∷ ids)

no_name : (text : Bytes) → IsOther (fault.NoSuchName text)
no_name text p e = absurd cc

no_event : (n : ℕ) → IsOther (fault.NoSuchEvent n)
no_event n p e = absurd cc

no_mark : (n : ℕ) → IsOther (fault.NoSuchMark n)
no_mark n p e = absurd cc

-- ---- patterns

next_small : {A B : Type 0} (built : List Bytes) (r : Result A Fault) (f : A → Judged B) → BigOnly r
    → ((x : A) → BigOnly (f x).value) → BigOnly (next_of built r f).value
next_small built (Ok x) f h k = k x
next_small built (Err why) f h k = λ p e. h p (let same : why ≡ fault.PatternTooBig p = cc in cc)

pattern_small : (text : Bytes) → BigOnly (pattern_of text).value
unfolding pattern_of
pattern_small text = go (is_big text) refl
  where
    read : (b : Bool) → BigOnly (as_read text b)
    read true = ok_small text
    read false = λ p e. absurd cc

    go : (b : Bool) → is_big text ≡ b
        → BigOnly (if b then plainly (Err (fault.PatternTooBig text))
        else record { built = text ∷ []; value = as_read text (is_pattern text) }).value
    go true is = λ p e. let same : text ≡ p = cc in subst (λ (t : Bytes). is_big t ≡ true) same is
    go false is = read (is_pattern text)

module _ (events : List PlainEvent) (names : Names) where
  -- ---- items

  dated_small : (text : Bytes) → BigOnly (dated text events)
  dated_small text =
      either_way (is_day text) _ _ (some_small (fault.NoSuchName text) _ (no_name text))
      (either_way (is_moment text) _ _ (some_small (fault.NoSuchName text) _ (no_name text))
      (either_way (is_stamp text) _ _ (some_small (fault.NoSuchName text) _ (no_name text)) (λ p e. absurd cc)))

  tagged_small : (text : Bytes) → BigOnly (tag_or_tip text events)
  tagged_small text =
      first_small (fault.NoSuchName text) (
      first (passing (is_tag_of text) events)
      ∷ tip (codes "refs/heads/" ++ text) events
      ∷ tip (codes "refs/tags/" ++ text) events
      ∷ tip text events
      ∷ []
      ) (no_name text)

  kept_small : (kept : Option Ids) (other : Result Ids Fault) → BigOnly other → BigOnly (assigned_or events kept other)
  kept_small (Some ids) other h = ok_small _
  kept_small None other h = h

  named_small : (text : Bytes) → BigOnly (named text events names)
  unfolding named
  named_small text =
      either_way (is_numbered text) _ _
      (some_small (fault.NoSuchEvent (value_of (drop 1 text))) _ (no_event (value_of (drop 1 text))))
      (either_way (is_date_form text) _ _ (dated_small text)
      (kept_small (assigned text names) (tag_or_tip text events) (tagged_small text)))

  spot_small : (s : Spot) → BigOnly (spot s events names)
  spot_small (Number n) = some_small (fault.NoSuchEvent n) (numbered events n) (no_event n)
  spot_small (Marked n) = some_small (fault.NoSuchMark n) (option_to_list (find_mark n events)) (no_mark n)
  spot_small Last = some_small (fault.NoSuchEvent 0) (numbered events (length events)) (no_event 0)
  spot_small (Named text) = named_small text

  end_small : (s : Spot) → BigOnly (end s events names)
  end_small s =
      after (spot s events names) _ (spot_small s) (λ ids.
      some_small (fault.NoSuchName (spot_text s)) ids (no_name (spot_text s)))

  item_small : (i : Item) → BigOnly (item i events names)
  item_small (One s) = spot_small s
  item_small (Span s t) =
      after (end s events names) _ (end_small s) (λ left. after (end t events names) _ (end_small t) (λ right.
      either_way (nat_lt (greatest events right) (least events left)) _ _ (λ p e. absurd cc) (ok_small _)))

  items_small : (list : List Item) (ids : Ids) → BigOnly (with_items ids list events names)
  items_small [] ids = ok_small ids
  items_small (i ∷ list) ids =
      after (with_item ids (item i events names)) _
      (after (item i events names) _ (item_small i) (λ others. ok_small (union ids others)))
      (λ all. items_small list all)

  -- ---- selections

  then_small : {A : Type 0} (j : Judged A) (f : A → Judged Ids) → BigOnly j.value
      → ((x : A) → BigOnly (f x).value) → BigOnly (next_of j.built j.value f).value
  then_small j f h k = next_small j.built j.value f h k

  mutual
    unfolding denote joined in_turn

    selection_small : (selection : PlainSelection) → BigOnly (denote selection events names).value
    selection_small (Union all) = joined_small union all
    selection_small (Both all) = joined_small common all
    selection_small (Not x) = then_small (denote x events names) _ (selection_small x) (λ ids. ok_small _)
    selection_small (Near times x) = then_small (denote x events names) _ (selection_small x) (λ ids. ok_small _)
    selection_small (Call function x) = then_small (denote x events names) _ (selection_small x) (λ ids. ok_small _)
    selection_small (Kinds kinds) = ok_small _
    selection_small (Search pattern fields) =
        then_small (pattern_of pattern) _ (pattern_small pattern) (λ text. ok_small _)
    selection_small (AtPath path) = ok_small _
    selection_small (AtPattern pattern whole) =
        then_small (pattern_of pattern) _ (pattern_small pattern) (λ text. ok_small _)
    selection_small (Listed items) = items_small items []

    joined_small : (join : Ids → Ids → Ids) (all : PlainSelections) → BigOnly (joined join all events names).value
    joined_small join none = ok_small []
    joined_small join (more x others) =
        then_small (denote x events names) _ (selection_small x) (λ ids. turn_small join others ids)

    turn_small : (join : Ids → Ids → Ids) (all : PlainSelections) (ids : Ids)
        → BigOnly (in_turn join all ids events names).value
    turn_small join none ids = ok_small ids
    turn_small join (more x others) ids =
        then_small (denote x events names) _ (selection_small x) (λ right. turn_small join others (join ids right))

  -- ---- denials

  deep_small : {A : Type 0} (text : Bytes) (b : Bool) (value : Result A Fault) → BigOnly value
      → BigOnly (unless_deep text b value)
  deep_small text true value h = λ p e. absurd cc
  deep_small text false value h = h

  without_small : {A : Type 0} (reason : Reason) (o : Option Bytes) (value : Result A Fault) (p : Bytes) → BigOnly value
      → without reason o value ≡ Err (fault.PatternTooBig p)
      → (is_big p ≡ true) ⊎ (is_sized (Some (record { place = 0; reason = reason })) ≡ true)
  without_small its_size o value p h e = inr refl
  without_small its_nesting None value p h e = inl (h p e)
  without_small its_nesting (Some text) value p h e = inl (deep_small text (is_too_deep text) value h p e)

  -- a 46 is for length or a brace, or for a size that is denied
  pub big_or_sized : (selection : PlainSelection) (denial : Option Denial) (p : Bytes)
      → under denial (denote selection events names) ≡ Err (fault.PatternTooBig p)
      → (is_big p ≡ true) ⊎ (is_sized denial ≡ true)
  big_or_sized selection None p e = inl (selection_small selection p e)
  big_or_sized selection (Some d) p e =
      without_small d.reason (slice_get (denote selection events names).built d.place)
      (denote selection events names).value p (selection_small selection) e
