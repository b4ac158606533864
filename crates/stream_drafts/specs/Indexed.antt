-- What is kept beside the drafts, so that marks and branches are found at once.
use Rattle.std.specs.Prelude.{◌≡◌, ℕ, ◌≤◌, Bool, false, ◌||◌, List, [], ◌∷◌, Option, Some, None, option_to_list}
use Rattle.plain_model.specs.declared.event.PlainEvent.{PlainEvent}
use Rattle.plain_model.specs.declared.event.PlainEvent.TheVariants as plain
use Rattle.plain_model.specs.declared.limit.TheConstants.{MAX_MARK}
use Rattle.plain_model.specs.Lookups.{greatest_mark}
use Rattle.plain_model.specs.Snapshots.{refs}
use Rattle.plain_model.specs.Streams.{blob_marked, commit_marked, is_among}
use Rattle.plain_model.specs.Trees.{TreeOf}
use Rattle.history_laws.specs.Placed.{ArePlaced}

-- the first of two values that is there
abbrev pub first_of : Option ℕ → Option ℕ → Option ℕ
first_of (Some x) o = Some x
first_of None o = o

-- a tag has the mark
abbrev pub tag_marked : List PlainEvent → ℕ → Bool
tag_marked [] m = false
tag_marked (plain.Tag id name target tagger comment mark ∷ events) m = is_among (option_to_list mark) m || tag_marked events m
tag_marked (_ ∷ events) m = tag_marked events m

-- Each mark finds the first blob and the first commit that has it, and each branch its tip; which marks tags have; ids are places. Blobs and
-- commits without a mark are found by none.
pub record IsIndexed (events : List PlainEvent) (blob commit : ℕ → Option ℕ) (tag : ℕ → Bool) (tips : TreeOf ℕ) (greatest : ℕ) : Type 0 where
  pub blobs : (mark : ℕ) → 1 ≤ mark → blob mark ≡ blob_marked events mark
  pub commits : (mark : ℕ) → 1 ≤ mark → commit mark ≡ commit_marked events mark
  pub tags : (mark : ℕ) → tag mark ≡ tag_marked events mark
  pub are_tips : tips ≡ refs events
  pub placed : ArePlaced 1 events
  pub is_greatest : greatest ≡ greatest_mark events
  pub in_range : greatest ≤ MAX_MARK
