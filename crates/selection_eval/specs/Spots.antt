-- Spots: single events, and what texts in angle brackets name.
use Rattle.std.specs.Prelude.{ℕ, ◌==◌, ◌&&◌, ◌-◌, ◌/◌, nat_lt, Bool, false, List, [], ◌∷◌, ◌++◌, length, drop, take, bytes_eq, codes, slice_get, option_to_list, Option, Some, None, Result, Ok, Err, if◌then◌else◌}
use Rattle.plain_model.specs.Paths.{Bytes}
use Rattle.plain_model.specs.Lookups.{find_mark}
use Rattle.plain_model.specs.Snapshots.{refs}
use Rattle.plain_model.specs.Trees.{◌>>=◌, at}
use Rattle.plain_model.specs.declared.id.AnyId.TheVariants as any
use Rattle.plain_model.specs.declared.event.PlainEvent.{PlainEvent}
use Rattle.plain_model.specs.declared.event.PlainEvent.TheVariants.{Commit, Tag}
use Rattle.plain_model.specs.declared.fault.Fault.{Fault}
use Rattle.plain_model.specs.declared.fault.Fault.TheVariants as fault
use Rattle.plain_model.specs.declared.person.Signed.{Signed}
use Rattle.civil_dates.specs.Dates.{civil_day, date_text, day_text}
use Rattle.history_laws.specs.Finding.{is_commit}
use Rattle.selection_parser.specs.declared.item.Item.{Item}
use Rattle.selection_parser.specs.declared.item.Item.TheVariants.{One, Span}
use Rattle.selection_parser.specs.declared.item.Spot.{Spot}
use Rattle.selection_parser.specs.declared.item.Spot.TheVariants.{Number, Marked, Last, Named}
use Rattle.selection_eval.specs.Names.{Names, assigned}
use Rattle.selection_eval.specs.Days.{email_in, is_count, is_date_form, is_day, is_moment, is_stamp, value_of}
use Rattle.event_sets.specs.Sets.{Ids, greatest, least, live, numbered, passing, range, union}

-- some events, or this fault
abbrev pub some_or : Fault → Ids → Result Ids Fault
some_or why [] = Err why
some_or why (id ∷ ids) = Ok (id ∷ ids)

-- ---- dates

-- the second of a commit's committer or of a tag's tagger passes a test
abbrev pub is_signed : (Signed → Bool) → PlainEvent → Bool
is_signed test (Commit id mark branch author committer encoding comment parents ops aliases) = test committer
is_signed test (Tag id name target (Some tagger) comment mark) = test tagger
is_signed test other = false

-- the same of commits alone
abbrev pub is_committed : (Signed → Bool) → PlainEvent → Bool
is_committed test (Commit id mark branch author committer encoding comment parents ops aliases) = test committer
is_committed test other = false

abbrev pub is_on_day : Bytes → Signed → Bool
is_on_day text signed = bytes_eq (day_text (civil_day (signed.when.seconds / 86400))) text

abbrev pub is_at_moment : Bytes → Signed → Bool
is_at_moment text signed = bytes_eq (date_text signed.when.seconds) text

abbrev pub has_stamp : Bytes → Bytes → Signed → Bool
has_stamp moment email signed = is_at_moment moment signed && bytes_eq signed.person.email email

-- the one of a number from 1, if there is one; all where there is no number
abbrev pub picked : Option ℕ → Ids → Ids
picked None ids = ids
picked (Some n) ids = if n == 0 then [] else option_to_list (slice_get ids (n - 1))

abbrev pub stamped : Bytes → Bytes × Option ℕ → List PlainEvent → Ids
stamped moment which events = picked which.1 (passing (is_committed (has_stamp moment which.0)) events)

-- what a text names that is no day and no moment
abbrev pub stamp_dated : Bytes → List PlainEvent → Result Ids Fault
stamp_dated text events =
    if is_stamp text then some_or (fault.NoSuchName text) (stamped (take 20 text) (email_in (drop 21 text)) events)
    else Err (fault.BadMoment text)

-- what a text of date form names
abbrev pub dated : Bytes → List PlainEvent → Result Ids Fault
dated text events =
    if is_day text then some_or (fault.NoSuchName text) (passing (is_signed (is_on_day text)) events) else
    if is_moment text then some_or (fault.NoSuchName text) (passing (is_signed (is_at_moment text)) events) else
    stamp_dated text events

-- ---- names

abbrev pub is_tag_of : Bytes → PlainEvent → Bool
is_tag_of text (Tag id name target tagger comment mark) = bytes_eq name text
is_tag_of text other = false

-- the first of some ids, if there is one
abbrev pub first : Ids → Ids
first [] = []
first (id ∷ ids) = id ∷ []

-- the tip that a branch has at the list's end
abbrev pub tip_of : Option ℕ → Ids
tip_of None = []
tip_of (Some c) = any.Commit c ∷ []

abbrev pub tip : Bytes → List PlainEvent → Ids
tip branch events = tip_of (at (refs events) branch)

-- the first list that isn't empty, or this fault
abbrev pub first_some : Fault → List Ids → Result Ids Fault
first_some why [] = Err why
first_some why ([] ∷ lists) = first_some why lists
first_some why ((id ∷ ids) ∷ lists) = Ok (id ∷ ids)

-- the first tag of a name, or else the tip of a branch
abbrev pub tag_or_tip : Bytes → List PlainEvent → Result Ids Fault
tag_or_tip text events =
    first_some (fault.NoSuchName text) (
    first (passing (is_tag_of text) events)
    ∷ tip (codes "refs/heads/" ++ text) events
    ∷ tip (codes "refs/tags/" ++ text) events
    ∷ tip text events
    ∷ [])

-- what is assigned to a name, or else this
abbrev pub assigned_or : List PlainEvent → Option Ids → Result Ids Fault → Result Ids Fault
assigned_or events None other = other
assigned_or events (Some ids) other = Ok (live events ids)

abbrev pub is_numbered : Bytes → Bool
is_numbered [] = false
is_numbered (b ∷ bytes) = if b == 35 then is_count bytes else false

-- the commit of a number among commits, from 1
abbrev pub commit_at : ℕ → List PlainEvent → Result Ids Fault
commit_at n events = some_or (fault.NoSuchEvent n) (picked (Some n) (passing is_commit events))

-- what a text in angle brackets names, by the first form that fits
unfoldable pub named : Bytes → List PlainEvent → Names → Result Ids Fault
named text events names =
    if is_numbered text then commit_at (value_of (drop 1 text)) events else
    if is_date_form text then dated text events
    else assigned_or events (assigned text names) (tag_or_tip text events)

-- ---- spots and items

abbrev pub spot : Spot → List PlainEvent → Names → Result Ids Fault
spot (Number n) events names = some_or (fault.NoSuchEvent n) (numbered events n)
spot (Marked n) events names = some_or (fault.NoSuchMark n) (option_to_list (find_mark n events))
spot Last events names = some_or (fault.NoSuchEvent 0) (numbered events (length events))
spot (Named text) events names = named text events names

-- the text of a spot; only one in angle brackets can be empty
abbrev pub spot_text : Spot → Bytes
spot_text (Named text) = text
spot_text other = []

-- an end of a range, which isn't empty
abbrev pub end : Spot → List PlainEvent → Names → Result Ids Fault
end s events names = spot s events names >>= λ ids. some_or (fault.NoSuchName (spot_text s)) ids

abbrev pub span : ℕ → ℕ → List PlainEvent → Result Ids Fault
span low high events = if nat_lt high low then Err (fault.ReversedRange low high) else Ok (range events low high)

abbrev pub item : Item → List PlainEvent → Names → Result Ids Fault
item (One s) events names = spot s events names
item (Span s t) events names =
    end s events names >>= λ left. end t events names >>= λ right.
    span (least events left) (greatest events right) events

-- the events so far, and then what one more item has besides
abbrev pub with_item : Ids → Result Ids Fault → Result Ids Fault
with_item ids more = more >>= λ new. Ok (union ids new)

-- the events so far, and then what each item has besides
abbrev pub with_items : Ids → List Item → List PlainEvent → Names → Result Ids Fault
with_items ids [] events names = Ok ids
with_items ids (i ∷ is) events names =
    with_item ids (item i events names) >>= λ all. with_items all is events names

-- items in their order, without repeats
abbrev pub itemized : List Item → List PlainEvent → Names → Result Ids Fault
itemized items events names = with_items [] items events names
