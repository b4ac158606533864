-- A commit where it is joined.
use Rattle.std.proofs.Common.{◌≡◌, ◌∙◌, ℕ, ◌+◌, List, [], ◌∷◌, Option, Result, Ok, Err, refl, sym, ap}
use Rattle.std.specs.Prelude.{IfOk}
use Rattle.plain_model.specs.declared.operation.FileOp.{FileOp}
use Rattle.plain_model.specs.declared.person.Signed.{Signed}
use Rattle.plain_model.specs.declared.event.PlainEvent.{PlainEvent}
use Rattle.plain_model.specs.declared.event.PlainEvent.TheVariants.{Commit}
use Rattle.plain_model.specs.Paths.{Bytes}
use Rattle.renumbering.specs.Renumbered.{marked_from, marks_from}
use Rattle.graft_laws.specs.Joining.{Joining, branch_of, joined_event}
use Rattle.shown_laws.specs.AsWritten.{renamed}
use Rattle.graft_unite.specs.Numbering.{Numbering, new_blob, new_commit}
use Rattle.graft_unite.specs.Placed.{new_ops, new_parents, replaced}

commit_joined : (how : Joining) (n : Numbering) (number first id mark : ℕ) (branch : Bytes) (author committer : Signed) (encoding : Option Bytes) (comment : Bytes) (parents : List ℕ) (ops : List FileOp) (aliases : List ℕ)
    → Commit number first (branch_of how branch) author committer encoding comment (new_parents how n parents committer.when.seconds) (new_ops how n parents ops committer.when.seconds) (marks_from (first + 1) aliases)
    ≡ marked_from first (joined_event how (renamed (new_blob n) (new_commit n) number (Commit id mark branch author committer encoding comment parents ops aliases)))
commit_joined how n number first id mark branch author committer encoding comment [] ops aliases = refl
commit_joined how n number first id mark branch author committer encoding comment (p ∷ ps) ops aliases = refl

pub commit_there : (how : Joining) (n : Numbering) (number first : ℕ) (event : PlainEvent) (id mark : ℕ) (branch : Bytes) (author committer : Signed) (encoding : Option Bytes) (comment : Bytes) (parents ps : List ℕ) (ops os : List FileOp) (aliases : List ℕ)
    → event ≡ Commit id mark branch author committer encoding comment parents ops aliases → ps ≡ parents → os ≡ ops
    → replaced number first (branch_of how branch) (new_parents how n ps committer.when.seconds) (new_ops how n ps os committer.when.seconds) event ≡ marked_from first (joined_event how (renamed (new_blob n) (new_commit n) number event))
commit_there how n number first event id mark branch author committer encoding comment parents ps ops os aliases is p o =
    (λ i. replaced number first (branch_of how branch) (new_parents how n (p i) committer.when.seconds) (new_ops how n (p i) (o i) committer.when.seconds) (is i))
    ∙ commit_joined how n number first id mark branch author committer encoding comment parents ops aliases
    ∙ ap (λ (e : PlainEvent). marked_from first (joined_event how (renamed (new_blob n) (new_commit n) number e))) (sym is)

-- what follows of a value
pub if_ok : {X E : Type 0} (r : Result X E) (P Q : X → Type 0) → ((x : X) → P x → Q x) → IfOk r P → IfOk r Q
if_ok (Ok x) P Q f h = f x h
if_ok (Err e) P Q f h = tt
