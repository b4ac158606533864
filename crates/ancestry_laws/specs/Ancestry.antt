-- Ancestry: a commit descends from itself, and from whatever one of its parents descends from.
use Rattle.std.specs.Prelude.{ℕ, Bool, false, ◌||◌, ◌&&◌, ◌==◌, List, [], ◌∷◌, filter, map, IsTrue, if◌then◌else◌}
use Rattle.std.specs.List.{list_any}
use Rattle.plain_model.specs.declared.id.AnyId.{AnyId}
use Rattle.plain_model.specs.declared.id.AnyId.TheVariants as any
use Rattle.plain_model.specs.declared.event.PlainEvent.{PlainEvent}
use Rattle.plain_model.specs.Histories.{Past, nodes, past}

-- the commit is one of a set
abbrev pub is_one_of : List ℕ → ℕ → Bool
is_one_of set c = list_any (λ s. s == c) set

-- the commit is one of a set, or one of its parents descends from one
abbrev pub descends_in : List ℕ → Past → ℕ → Bool
descends_in set [] c = false
descends_in set (n ∷ older) c =
    if n.id == c then is_one_of set n.id || list_any (descends_in set older) n.parents
    else descends_in set older c

-- the commit descends from one of a set
abbrev pub descends : List PlainEvent → List ℕ → ℕ → Bool
descends events set c = descends_in set (past events) c

-- the commits, in the order of the list
abbrev pub commits : List PlainEvent → List ℕ
commits events = map (λ n. n.id) (nodes events)

-- those that descend from one of a set
abbrev pub descendants_of : List PlainEvent → List ℕ → List AnyId
descendants_of events set = map any.Commit (filter (descends events set) (commits events))

-- those from which one of a set descends
abbrev pub ancestors_of : List PlainEvent → List ℕ → List AnyId
ancestors_of events set = map any.Commit (filter (λ c. list_any (descends events (c ∷ [])) set) (commits events))

-- ---- the same as a path of parents

-- some commit of the past has this parent
abbrev pub is_parent_in : Past → ℕ → ℕ → Bool
is_parent_in older parent child = list_any (λ n. (n.id == child) && list_any (λ p. p == parent) n.parents) older

-- from the high commit a path of parents leads to the low one
pub data IsPathOfParents (events : List PlainEvent) (low : ℕ) : ℕ → Type 0 where
  itself : IsPathOfParents events low low
  through : (parent high : ℕ) → IsTrue (is_parent_in (past events) parent high) → IsPathOfParents events low parent →
      IsPathOfParents events low high
