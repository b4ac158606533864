-- For each commit of a history the removed ones that hang on it by first parents.
use Rattle.std.specs.Prelude.{ℕ, ◌≡◌, ◌&&◌, List, [], length, filter, map, take, Some}
use Rattle.plain_model.specs.declared.id.AnyId.{AnyId}
use Rattle.plain_model.specs.declared.event.PlainEvent.{PlainEvent}
use Rattle.plain_model.specs.Histories.{nodes}
use Rattle.plain_model.specs.Lookups.{commit_id}
use Rattle.squash_laws.specs.Removed.{is_removed}
use Rattle.squash_laws.specs.Takings.{back_of, is_it}
use Rattle.plan_steps.specs.Tables.{IsTable}

module _ (set : List AnyId) (events : List PlainEvent) where
  -- those of the first events
  abbrev pub hung : ℕ → ℕ → List ℕ
  hung k c = map (λ n. n.id) (filter (λ n. is_removed set n.id && is_it c (back_of set events n.id)) (nodes (take k events)))

  -- a table has them, place by place
  abbrev pub AreHungTo : ℕ → List (List ℕ) → Type 0
  AreHungTo k rows = IsTable [] (λ e row. (c : ℕ) → commit_id e ≡ Some c → row ≡ hung k c) events rows

  -- and all of them
  abbrev pub AreHung : List (List ℕ) → Type 0
  AreHung rows = AreHungTo (length events) rows
