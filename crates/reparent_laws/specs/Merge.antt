-- `merge` and `unmerge`: a commit gets one parent more, or keeps its first one alone (reposurgeon manual, `merge`,
-- `unmerge`; the faults: own).
use Rattle.std.specs.Prelude.{ℕ, ◌==◌, List, [], ◌∷◌, ◌++◌, length, take, Some, None, Result, Ok, Err, if◌then◌else◌}
use Rattle.std.specs.List.{list_any}
use Rattle.plain_model.specs.declared.fault.Fault.{Fault}
use Rattle.plain_model.specs.declared.fault.Fault.TheVariants as fault
use Rattle.plain_model.specs.declared.id.AnyId.{AnyId}
use Rattle.plain_model.specs.declared.operation.FileOp.{FileOp}
use Rattle.plain_model.specs.declared.operation.FileOp.TheVariants.{DeleteAll}
use Rattle.plain_model.specs.declared.event.PlainEvent.{PlainEvent}
use Rattle.edit_laws.specs.Passing.{limit_fault}
use Rattle.commit_laws.specs.Rewriting.{Rewrite, rewritten_all}
use Rattle.commit_laws.specs.Selected.{kind_fault, listed, the_commit}
use Rattle.reparent_laws.specs.Faults.{unless_fault}

-- ---- merge

-- one parent more, the last, unless it is one already
abbrev pub with_parent : ℕ → List ℕ → List ℕ
with_parent p parents = if list_any (λ q. q == p) parents then parents else parents ++ p ∷ []

-- a root begins without files, which has to be said where it gets a parent
abbrev pub ops_with_parent : List ℕ → List FileOp → List FileOp
ops_with_parent [] ops = DeleteAll ∷ ops
ops_with_parent (p ∷ parents) ops = ops

abbrev pub merges : ℕ → Rewrite
merges p = record { parents = with_parent p; ops = ops_with_parent }

-- the first of two commits becomes a parent of the second
abbrev pub merge_these : List PlainEvent → List ℕ → Result (List PlainEvent) Fault
merge_these events (low ∷ high ∷ []) =
    let new = rewritten_all high (merges low) events in
    unless_fault (limit_fault new) new
merge_these events others = Err (fault.WrongCount (length others))

-- the history after a merge, or the first fault: not two events, one that isn't a commit, a limit
abbrev pub merge_of : List AnyId → List PlainEvent → Result (List PlainEvent) Fault
merge_of set events =
    if length set == 2 then
    elim (kind_fault events set) [
      | Some why ↦ Err why
      | None ↦ merge_these events (listed set events)
    ]
    else Err (fault.WrongCount (length set))

-- ---- unmerge

-- the first parent alone
abbrev pub unmerges : Rewrite
unmerges = record { parents = λ parents. take 1 parents; ops = λ parents ops. ops }

-- the history after an unmerge, or the first fault: not one event, one that isn't a commit
abbrev pub unmerge_of : List AnyId → List PlainEvent → Result (List PlainEvent) Fault
unmerge_of set events = elim (the_commit events set) [
  | Ok c ↦ Ok (rewritten_all c unmerges events)
  | Err why ↦ Err why
]
