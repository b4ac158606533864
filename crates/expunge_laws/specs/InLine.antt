-- How emptied commits give way, by lines of first parents. An emptied commit is no merge and has no operation left, so
-- at most one commit comes in its place, and nothing is taken over from it but that it began without files. (own)
use Rattle.std.specs.Prelude.{◌≡◌, ℕ, Bool, true, false, not, ◌&&◌, List, [], ◌∷◌, Option, Some, None, flat_map, option_to_list, if◌then◌else◌}
use Rattle.plain_model.specs.declared.id.AnyId.{AnyId}
use Rattle.plain_model.specs.declared.operation.FileOp.{FileOp}
use Rattle.plain_model.specs.declared.operation.FileOp.TheVariants.{DeleteAll}
use Rattle.plain_model.specs.declared.event.PlainEvent.{PlainEvent}
use Rattle.plain_model.specs.Histories.{Node, past, tree}
use Rattle.plain_model.specs.Trees.{Tree}
use Rattle.edit_laws.specs.Removal.{expand_all, once_each}
use Rattle.squash_laws.specs.Removed.{is_removed}
use Rattle.squash_laws.specs.Takings.{back_of, is_none, ops_after}
use Rattle.plain_model.specs.declared.policy.Push.TheVariants as push

abbrev pub is_nothing : Option ℕ → Bool
is_nothing None = true
is_nothing (Some c) = false

-- the tree of the commit in a place, or no files where none is there
abbrev pub tree_in_place : List PlainEvent → Option ℕ → Option Tree
tree_in_place events None = Some []
tree_in_place events (Some c) = tree events c

module _ (set : List AnyId) (events : List PlainEvent) where
  -- for each parent the first commit by first parents that stays, if there is one
  abbrev pub parents_in_line : List ℕ → List ℕ
  parents_in_line parents = once_each (flat_map (λ p. option_to_list (back_of set events p)) parents)

  -- no commit of the line of the first parent stays
  abbrev pub is_cut_off : List ℕ → Bool
  is_cut_off [] = false
  is_cut_off (p ∷ parents) = is_nothing (back_of set events p)

  -- a commit that keeps a parent, but none on that line, begins without files
  abbrev pub ops_in_line : List ℕ → List FileOp → List FileOp
  ops_in_line parents ops =
      if is_cut_off parents && not (is_none (parents_in_line parents)) then DeleteAll ∷ ops else ops

  -- what a push forward gives to a commit
  pub record IsInLine (n : Node) : Type 0 where
    pub parents : expand_all (is_removed set) (past events) n.parents ≡ parents_in_line n.parents
    pub ops : (own : List FileOp) → ops_after set events push.Forward n.id n.parents own ≡ ops_in_line n.parents own
