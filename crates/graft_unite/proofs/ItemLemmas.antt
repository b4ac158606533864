-- One item of a list of which something holds.
use Rattle.std.proofs.Common.{◌≡◌, ℕ, zero, suc, ◌<◌, List, [], ◌∷◌, length, map, subst, sym, arith}
use Rattle.std.specs.Prelude.{flat_map, slice_index_or}
use Rattle.std.specs.List.{AllByRecursion}
use Rattle.plain_model.specs.declared.id.AnyId.TheVariants as any
use Rattle.plain_model.specs.declared.event.PlainEvent.{PlainEvent}
use Rattle.plain_model.specs.declared.operation.FileOp.{FileOp}
use Rattle.plain_model.specs.Lookups.{op_blobs}
use Rattle.plain_model.specs.Soundness.{IsCommitOf}
use Rattle.edit_laws.proofs.Fine.{parted_blobs}
use Rattle.graft_unite.specs.Numbering.{AreThere}

pub all_item : {X : Type 0} (P : X → Type 0) (xs : List X) (k : ℕ) (x : X) → k < length xs → x ≡ slice_index_or xs k x → AllByRecursion P xs → P x
all_item P [] k x h is a = absurd (omega arith)
all_item P (y ∷ ys) zero x h is a = subst P (sym is) a.0
all_item P (y ∷ ys) (suc k) x h is a = all_item P ys k x (omega arith) is a.1

pub op_there : (part : List PlainEvent) (ops : List FileOp) (k : ℕ) (op : FileOp) → k < length ops → op ≡ slice_index_or ops k op → AreThere part (flat_map op_blobs ops) → AreThere part (op_blobs op)
op_there part ops k op h is a = all_item (λ o. AreThere part (op_blobs o)) ops k op h is (parted_blobs part ops a)

pub parent_there : (part : List PlainEvent) (ps : List ℕ) (k p : ℕ) → k < length ps → p ≡ slice_index_or ps k p → AreThere part (map any.Commit ps) → IsCommitOf part p
parent_there part ps k p h is a = all_item (IsCommitOf part) ps k p h is (each ps a)
  where
    each : (ps : List ℕ) → AreThere part (map any.Commit ps) → AllByRecursion (IsCommitOf part) ps
    each [] a = tt
    each (p ∷ ps) a = (a.0, each ps a.1)
