-- The operations of a commit, one after another.
use Rattle.std.proofs.Common.{◌≡◌, ◌∙◌, ℕ, ◌+◌, List, [], ◌∷◌, ◌++◌, refl, sym, ap, true≢false, Some, Result, Ok, Err}
use Rattle.std.specs.Prelude.{IsOk}
use Rattle.plain_model.specs.declared.fault.Fault.{Fault}
use Rattle.plain_model.specs.declared.fault.Halt.{Halt}
use Rattle.plain_model.specs.declared.fault.Halt.TheVariants.{Memory, Refused}
use Rattle.plain_model.specs.declared.operation.FileOp.{FileOp}
use Rattle.plain_model.specs.Paths.{Bytes}
use Rattle.plain_model.specs.Trees.{Refusal, Tree, apply, apply_all, ◌>>=◌}
use Rattle.path_move_laws.specs.Apart.{MayMove}
use Rattle.path_move_laws.specs.MovedOps.{first_fault, image_fault, moved_all, moved_op}
use Rattle.path_move_laws.proofs.Quick.{calm_at}
use Rattle.path_move_laws.proofs.Turns.{after_first, unless_first}
use Rattle.path_moves.specs.Commits.{Reports}
use Rattle.path_moves.specs.Pairs.{IsFaulty}

module _ (f : Bytes → Bytes) (op : FileOp) (ops : List FileOp) (old new : Tree) (applied : apply op old ≡ Ok new) where
  pub step_applied : apply_all (op ∷ ops) old ≡ apply_all ops new
  step_applied = ap (λ (r : Result Tree Refusal). r >>= apply_all ops) applied

  pub step_whole : moved_all f (op ∷ ops) old ≡ moved_op f op old new ++ moved_all f ops new
  step_whole = ap (λ (r : Result Tree Refusal). elim r [ Ok new ↦ moved_op f op old new ++ moved_all f ops new | Err why ↦ [] ]) applied

  module _ (mark number : ℕ) where
    pub step_calm : MayMove f new → first_fault f mark number (op ∷ ops) old ≡ first_fault f mark (number + 1) ops new
    step_calm moves =
        ap (after_first f mark number ops) applied
        ∙ ap (λ o. unless_first f o (first_fault f mark (number + 1) ops new)) (calm_at f new moves mark number)

    pub step_fault : (why : Fault) → image_fault f mark number new ≡ Some why → first_fault f mark number (op ∷ ops) old ≡ Some why
    step_fault why h =
        ap (after_first f mark number ops) applied
        ∙ ap (λ o. unless_first f o (first_fault f mark (number + 1) ops new)) h

-- the first of operations that can be carried out can be
pub first_applies : (op : FileOp) (ops : List FileOp) (old : Tree) → IsOk (apply_all (op ∷ ops) old) → IsOk (apply op old)
first_applies op ops old h = go (apply op old) h
  where
    go : (r : Result Tree Refusal) → IsOk (r >>= apply_all ops) → IsOk r
    go (Ok new) k = refl
    go (Err why) k = absurd (true≢false (sym k))

-- its fault is reported
pub faulty_reports : (f : Bytes → Bytes) (op : FileOp) (ops : List FileOp) (old : Tree) (mark number : ℕ) (halt : Halt) → IsOk (apply op old) → IsFaulty f mark number op old halt
    → Reports (first_fault f mark number (op ∷ ops) old) halt
faulty_reports f op ops old mark number Memory ok faulty = tt
faulty_reports f op ops old mark number (Refused why) ok faulty = go (apply op old) refl ok
  where
    go : (r : Result Tree Refusal) → apply op old ≡ r → IsOk r → first_fault f mark number (op ∷ ops) old ≡ Some why
    go (Ok new) is k = step_fault f op ops old new is mark number why (faulty new is)
    go (Err e) is k = absurd (true≢false (sym k))
