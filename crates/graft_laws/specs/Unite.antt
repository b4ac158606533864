-- `unite`: histories become one, the oldest first; roots of the others are on the commit that was the latest before them
-- (reposurgeon manual, `unite`; the order, the parents, the marks and the faults: own).
use Rattle.std.specs.Prelude.{ℕ, suc, Bool, true, false, ◌==◌, ◌||◌, List, [], ◌∷◌, ◌++◌, filter, flat_map, nat_lt, option_map, option_to_list, Option, Some, None, Result, Ok, Err, if◌then◌else◌}
use Rattle.std.specs.List.{fold}
use Rattle.plain_model.specs.declared.fault.Fault.{Fault}
use Rattle.plain_model.specs.declared.fault.Fault.TheVariants as fault
use Rattle.plain_model.specs.declared.event.PlainEvent.{PlainEvent}
use Rattle.plain_model.specs.declared.event.PlainEvent.TheVariants.{Blob, Commit, Tag, Reset, Pass}
use Rattle.plain_model.specs.Lookups.{next_number}
use Rattle.plain_model.specs.Paths.{Bytes}
use Rattle.renumbering.specs.Renumbered.{renumbered}
use Rattle.graft_laws.specs.Faults.{fault_after, name_fault, unless_fault}
use Rattle.graft_laws.specs.Joining.{Joining, added, new_names}
use Rattle.graft_laws.specs.Names.{is_used}

-- a history under the name of its repository
pub record Part : Type 0 where
  pub name : Bytes
  pub events : List PlainEvent

-- ---- the order

-- the committer seconds of the roots
abbrev pub root_seconds : PlainEvent → List ℕ
root_seconds (Commit id mark branch author committer encoding comment [] ops aliases) = committer.when.seconds ∷ []
root_seconds (Commit id mark branch author committer encoding comment (p ∷ parents) ops aliases) = []
root_seconds (Blob id mark bytes) = []
root_seconds (Tag id name target tagger comment mark) = []
root_seconds (Reset id branch target) = []
root_seconds (Pass id line) = []

abbrev pub least : List ℕ → Option ℕ
least [] = None
least (n ∷ ns) = Some (fold (λ m k. if nat_lt k m then k else m) n ns)

-- the least second of a root; a history without commits has none
abbrev pub age : List PlainEvent → Option ℕ
age events = least (flat_map root_seconds events)

abbrev pub is_same_age : Option ℕ → Option ℕ → Bool
is_same_age None None = true
is_same_age (Some a) (Some b) = a == b
is_same_age None (Some b) = false
is_same_age (Some a) None = false

-- what has no age comes last
abbrev pub is_before : Option ℕ → Option ℕ → Bool
is_before (Some a) (Some b) = nat_lt a b
is_before (Some a) None = true
is_before None b = false

module _ {X : Type 0} (history : X → List PlainEvent) where
  -- in front of the first that isn't before it
  abbrev pub put_by_age : X → List X → List X
  put_by_age x [] = x ∷ []
  put_by_age x (y ∷ ys) = if is_before (age (history y)) (age (history x)) then y ∷ put_by_age x ys else x ∷ y ∷ ys

  -- the oldest first; of the same age those that were first
  abbrev pub by_age : List X → List X
  by_age [] = []
  by_age (x ∷ xs) = put_by_age x (by_age xs)

  -- how many are before the oldest
  abbrev pub oldest_place : List X → ℕ
  oldest_place [] = 0
  oldest_place (x ∷ xs) = elim (by_age xs) [
    | [] ↦ 0
    | y ∷ ys ↦ if is_before (age (history y)) (age (history x)) then suc (oldest_place xs) else 0
  ]

-- ---- the parents of roots

-- the commits with their committer seconds
abbrev pub dated : PlainEvent → List (ℕ × ℕ)
dated (Commit id mark branch author committer encoding comment parents ops aliases) = (id, committer.when.seconds) ∷ []
dated (Blob id mark bytes) = []
dated (Tag id name target tagger comment mark) = []
dated (Reset id branch target) = []
dated (Pass id line) = []

-- the later of two commits; of the same second the second one
abbrev pub later_of : Option (ℕ × ℕ) → ℕ × ℕ → Option (ℕ × ℕ)
later_of None c = Some c
later_of (Some best) c = if nat_lt c.1 best.1 then Some best else Some c

-- the latest commit before a second, if there is one
abbrev pub latest_before : List PlainEvent → ℕ → Option (ℕ × ℕ)
latest_before events seconds = fold later_of None (filter (λ c. nat_lt c.1 seconds) (flat_map dated events))

-- ---- one part more

-- names that the list uses are below that of the part, and each root gets the latest commit before it
abbrev pub uniting : Bool → List PlainEvent → Bytes → Joining
uniting prune events name = record {
  prefix = name;
  is_taken = is_used events;
  parents = λ seconds. option_to_list (option_map (λ c. c.0) (latest_before events seconds));
  prune = prune;
}

abbrev pub with_part : Bool → List PlainEvent → Part → List PlainEvent
with_part prune events part = events ++ added (uniting prune events part.name) (next_number events) part.events

-- a new name that the list uses too, or the part itself
abbrev pub part_fault : Bool → List PlainEvent → Part → Option Fault
part_fault prune events part =
    name_fault (λ name. is_used events name || is_used part.events name) (new_names (uniting prune events part.name) part.events)

-- the parts one after another
abbrev pub with_parts : Bool → List PlainEvent → List Part → Result (List PlainEvent) Fault
with_parts prune events [] = Ok events
with_parts prune events (part ∷ parts) = elim (part_fault prune events part) [
  | Some why ↦ Err why
  | None ↦ with_parts prune (with_part prune events part) parts
]

-- ---- the whole history, or why it is refused

-- all marks are given anew; then a limit, a tree that fails
abbrev pub numbered_anew : Bool → Result (List PlainEvent) Fault → Result (List PlainEvent) Fault
numbered_anew prune (Ok events) = unless_fault (fault_after prune (renumbered events)) (renumbered events)
numbered_anew prune (Err why) = Err why

-- parts by age: fewer than two, and then the faults of the further ones
abbrev pub unite_by_age : Bool → List Part → Result (List PlainEvent) Fault
unite_by_age prune [] = Err (fault.WrongCount 0)
unite_by_age prune (base ∷ []) = Err (fault.WrongCount 1)
unite_by_age prune (base ∷ part ∷ parts) = numbered_anew prune (with_parts prune base.events (part ∷ parts))

-- the history of all parts, in their written order, or the first fault
abbrev pub unite_of : Bool → List Part → Result (List PlainEvent) Fault
unite_of prune parts = unite_by_age prune (by_age (λ part. part.events) parts)
