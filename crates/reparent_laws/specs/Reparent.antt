-- `reparent`: a commit gets other parents, and keeps its tree, or with `--rebase` its operations; or why it is refused,
-- in the order of the checks (reposurgeon manual, `reparent`; the faults: own).
use Rattle.std.specs.Prelude.{ℕ, Bool, true, false, ◌==◌, List, [], ◌∷◌, find, reverse, Option, Some, None, Result, Ok, Err, if◌then◌else◌}
use Rattle.plain_model.specs.declared.fault.Fault.{Fault}
use Rattle.plain_model.specs.declared.fault.Fault.TheVariants as fault
use Rattle.plain_model.specs.declared.id.AnyId.{AnyId}
use Rattle.plain_model.specs.declared.operation.FileOp.{FileOp}
use Rattle.plain_model.specs.declared.event.PlainEvent.{PlainEvent}
use Rattle.plain_model.specs.Snapshots.{commit_mark}
use Rattle.ancestry_laws.specs.Ancestry.{descends}
use Rattle.edit_laws.specs.Passing.{limit_fault}
use Rattle.edit_laws.specs.Settling.{settle}
use Rattle.commit_laws.specs.Rewriting.{Rewrite, rewritten_all}
use Rattle.commit_laws.specs.Selected.{chosen, kind_fault, listed}
use Rattle.reparent_laws.specs.Faults.{any_fault, unless_fault}
use Rattle.reparent_laws.specs.WrittenOut.{written_out}

-- ---- the commit

-- both have the same first parent, or neither has one
abbrev pub have_same_first : List ℕ → List ℕ → Bool
have_same_first [] [] = true
have_same_first (p ∷ ps) (q ∷ qs) = p == q
have_same_first parents others = false

-- the operations that give the same tree on other parents: where the first one changes, its old tree is written out
abbrev pub ops_onto : List PlainEvent → List ℕ → List ℕ → List FileOp → List FileOp
ops_onto events new parents ops = if have_same_first parents new then ops else written_out events parents ops

-- what the commit has afterwards
abbrev pub reparents : Bool → List PlainEvent → List ℕ → Rewrite
reparents rebase events new = record {
  parents = λ parents. new;
  ops = λ parents ops. if rebase then ops else ops_onto events new parents ops;
}

-- ---- the list

-- each event comes after all that it refers to
abbrev pub reparented : Bool → List PlainEvent → ℕ → List ℕ → Result (List PlainEvent) (List PlainEvent)
reparented rebase events c new = settle (rewritten_all c (reparents rebase events new) events)

-- only a rebase can break a tree
abbrev pub fault_after : Bool → List PlainEvent → Option Fault
fault_after true new = any_fault new
fault_after false new = limit_fault new

-- ---- the whole history, or why it is refused

-- the first new parent that descends from the commit
abbrev pub descendant : List PlainEvent → ℕ → List ℕ → Option ℕ
descendant events c new = find (descends events (c ∷ [])) new

-- settling comes to its end where no new parent descends from the commit
abbrev pub reparent_commit : Bool → List PlainEvent → ℕ → List ℕ → Result (List PlainEvent) Fault
reparent_commit rebase events c new = elim (descendant events c new) [
  | Some p ↦ Err (fault.Cycle (commit_mark events p))
  | None ↦ elim (reparented rebase events c new) [
    | Ok after ↦ unless_fault (fault_after rebase after) after
    | Err never ↦ Ok events
  ]
]

-- the last of some commits gets those before it as its parents, in their order
abbrev pub reparent_last : Bool → List PlainEvent → List ℕ → Result (List PlainEvent) Fault
reparent_last rebase events commits = elim (reverse commits) [
  | [] ↦ Err (fault.WrongCount 0)
  | c ∷ before ↦ reparent_commit rebase events c (reverse before)
]

-- the selected commits, in the order of the selection or in that of the list
abbrev pub ordered : Bool → List AnyId → List PlainEvent → List ℕ
ordered true set events = chosen set
ordered false set events = listed set events

-- the history after a reparent, or the first fault: no event, one that isn't a commit, a parent that descends from the
-- commit, a limit, a tree that fails
abbrev pub reparent_of : Bool → Bool → List AnyId → List PlainEvent → Result (List PlainEvent) Fault
reparent_of use_order rebase set events = elim (kind_fault events set) [
  | Some why ↦ Err why
  | None ↦ reparent_last rebase events (ordered use_order set events)
]
