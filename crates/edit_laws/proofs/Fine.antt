-- Operations that may stand in a history: lawful and formed ones whose blobs are there.
use Rattle.std.proofs.Common.{IsTrue, List, [], map, true, ℕ, ◌++◌, ◌∙◌, ◌∷◌, ◌≡◌}
use Rattle.std.specs.List.{AllByRecursion, list_all}
use Rattle.std.specs.Prelude.{flat_map}
use Rattle.plain_model.specs.Histories.{knows, past}
use Rattle.plain_model.specs.Lookups.{op_blobs}
use Rattle.plain_model.specs.Soundness.{IsFormedOp, has_id}
use Rattle.plain_model.specs.declared.event.PlainEvent.{PlainEvent}
use Rattle.plain_model.specs.declared.event.PlainEvent.TheVariants.{Commit}
use Rattle.plain_model.specs.declared.id.AnyId.{AnyId}
use Rattle.plain_model.specs.declared.id.AnyId.TheVariants as any
use Rattle.plain_model.specs.declared.operation.FileOp.{FileOp}
use Rattle.history_laws.proofs.Lists.{all_imply, all_join}
use Rattle.ancestry_laws.proofs.Pasts.{known_past}
use Rattle.edit_laws.specs.Parts.{IsLawfulOp}
use Rattle.edit_laws.proofs.Lists.{all_flat, all_front, all_rear, all_true}

abbrev pub There : List PlainEvent → AnyId → Type 0
There earlier id = has_id earlier id ≡ true

-- an operation that is lawful and formed, and whose blob is there
abbrev pub IsFine : List PlainEvent → FileOp → Type 0
IsFine events op = IsLawfulOp op × IsFormedOp op × AllByRecursion (There events) (op_blobs op)

pub fine : (events : List PlainEvent) (ops : List FileOp) → AllByRecursion IsLawfulOp ops →
    AllByRecursion IsFormedOp ops → AllByRecursion (There events) (flat_map op_blobs ops) →
    AllByRecursion (IsFine events) ops
fine events [] l f h = tt
fine events (op ∷ ops) l f h = (
  (l.0, f.0, all_front (There events) (op_blobs op) (flat_map op_blobs ops) h),
  fine events ops l.1 f.1 (all_rear (There events) (op_blobs op) (flat_map op_blobs ops) h),
)

pub fine_lawful : (xs : List PlainEvent) (ops : List FileOp) → AllByRecursion (IsFine xs) ops → AllByRecursion IsLawfulOp ops
fine_lawful xs ops a = all_imply (IsFine xs) IsLawfulOp (λ op x. x.0) ops a

pub fine_there : (xs : List PlainEvent) (ops : List FileOp) → AllByRecursion (IsFine xs) ops → AllByRecursion (There xs) (flat_map op_blobs ops)
fine_there xs ops a = all_flat (IsFine xs) (There xs) op_blobs (λ op x. x.2) ops a

pub fine_formed : (xs : List PlainEvent) (ops : List FileOp) → AllByRecursion (IsFine xs) ops → AllByRecursion IsFormedOp ops
fine_formed xs ops a = all_imply (IsFine xs) IsFormedOp (λ op x. x.1) ops a

pub parted_blobs : (xs : List PlainEvent) (ops : List FileOp) → AllByRecursion (There xs) (flat_map op_blobs ops) → AllByRecursion (λ op. AllByRecursion (There xs) (op_blobs op)) ops
parted_blobs xs [] a = tt
parted_blobs xs (op ∷ ops) a = (all_front (There xs) (op_blobs op) (flat_map op_blobs ops) a, parted_blobs xs ops (all_rear (There xs) (op_blobs op) (flat_map op_blobs ops) a))

pub joined_blobs : (xs : List PlainEvent) (ops : List FileOp) → AllByRecursion (λ op. AllByRecursion (There xs) (op_blobs op)) ops → AllByRecursion (There xs) (flat_map op_blobs ops)
joined_blobs xs [] a = tt
joined_blobs xs (op ∷ ops) a = all_join (There xs) (op_blobs op) (flat_map op_blobs ops) a.0 (joined_blobs xs ops a.1)

-- the operations of a commit that refers to what is there
pub ready_ops : (events : List PlainEvent) (parents : List ℕ) (ops : List FileOp) → list_all (has_id events) (map any.Commit parents ++ flat_map op_blobs ops) ≡ true → AllByRecursion (There events) (flat_map op_blobs ops)
ready_ops events parents ops r = all_rear (There events) (map any.Commit parents) (flat_map op_blobs ops) (all_true (has_id events) (map any.Commit parents ++ flat_map op_blobs ops) r)

-- and its parents
pub ready_parents : (events : List PlainEvent) (parents : List ℕ) (ops : List FileOp) → list_all (has_id events) (map any.Commit parents ++ flat_map op_blobs ops) ≡ true → AllByRecursion (λ p. IsTrue (knows (past events) p)) parents
ready_parents events parents ops r = go parents (all_front (There events) (map any.Commit parents) (flat_map op_blobs ops) (all_true (has_id events) (map any.Commit parents ++ flat_map op_blobs ops) r))
  where
    go : (ps : List ℕ) → AllByRecursion (There events) (map any.Commit ps) → AllByRecursion (λ p. IsTrue (knows (past events) p)) ps
    go [] h = tt
    go (p ∷ ps) h = (known_past events p ∙ h.0, go ps h.1)
