-- Tables that have an entry for each event of a list.
use Rattle.std.specs.Prelude.{ℕ, ◌≡◌, ◌<◌, List, length, Some, slice_get, slice_index_or}
use Rattle.plain_model.specs.declared.event.PlainEvent.{PlainEvent}

module _ {X : Type 0} (default : X) (ok : PlainEvent → X → Type 0) (events : List PlainEvent) where
  -- the first entries are right, and there are no more
  pub record IsTableTo (k : ℕ) (table : List X) : Type 0 where
    pub count : length table ≡ k
    pub entry : (j : ℕ) (e : PlainEvent) → slice_get events j ≡ Some e → j < k → ok e (slice_index_or table j default)

  -- the first entries are right, of as many as there are events
  pub record IsFilledTo (k : ℕ) (table : List X) : Type 0 where
    pub count : length table ≡ length events
    pub entry : (j : ℕ) (e : PlainEvent) → slice_get events j ≡ Some e → j < k → ok e (slice_index_or table j default)

  -- all of them are
  pub record IsTable (table : List X) : Type 0 where
    pub count : length table ≡ length events
    pub entry : (j : ℕ) (e : PlainEvent) → slice_get events j ≡ Some e → ok e (slice_index_or table j default)
