-- What is kept of the commits.
use Rattle.std.proofs.Common.{◌≡◌, ◌∙◌, ℕ, ◌<◌, List, length, get_or, set, refl, sym, ap, subst, inl, inr, Option, Some, None}
use Rattle.std.specs.Prelude.{slice_get, IfSome}
use Rattle.std.proofs.lemmas.Bool.{cases_eq}
use Rattle.std.proofs.lemmas.List.{get_or-set_other, get_or-set_same, length-set}
use Rattle.plain_model.specs.declared.event.PlainEvent.{PlainEvent}
use Rattle.plain_model.specs.declared.event.PlainEvent.TheVariants.{Blob, Commit, Tag, Reset, Pass}
use Rattle.plain_model.specs.declared.operation.FileOp.{FileOp}
use Rattle.plain_model.specs.Histories.{tree}
use Rattle.plain_model.specs.Lookups.{commit_id, event_ops}
use Rattle.plain_model.specs.Paths.{Bytes}
use Rattle.event_arena.specs.Changes.{with_ops}
use Rattle.plan_steps.specs.Tables.{IsTable}
use Rattle.path_moves.specs.Commits.{IsKept}
use Rattle.path_moves.specs.Pairs.{ArePaired}
use Rattle.path_moves.specs.declared.pairs.Pair.{Pair}

module _ {X : Type 0} (default : X) (ok : PlainEvent → X → Type 0) (events : List PlainEvent) where
  -- one entry is another that is right
  pub table_set : (table : List X) (k : ℕ) (x : X) → IsTable default ok events table → ((e : PlainEvent) → slice_get events k ≡ Some e → ok e x) → k < length table → IsTable default ok events (set table k x)
  table_set table k x t fits low = record {
    count = length-set table k x ∙ t.count;
    entry = λ j e at. elim (cases_eq j k) [
      | inl is ↦
          subst (ok e) (sym (ap (λ i. get_or (set table k x) i default) is ∙ get_or-set_same table k x default low)) (fits e (ap (slice_get events) (sym is) ∙ at))
      | inr other ↦ subst (ok e) (sym (get_or-set_other table k j x default other)) (t.entry j e at)
    ];
  }

-- what is kept of a commit
pub kept_pair : (f : Bytes → Bytes) (events : List PlainEvent) (e : PlainEvent) (c : ℕ) (found : Option Pair) → commit_id e ≡ Some c → IsKept f events e found
    → IfSome found (λ pair. (tree events c ≡ Some pair.tree) × ArePaired f pair.tree pair.image)
kept_pair f events e c (Some pair) own kept = kept c own
kept_pair f events e c None own kept = tt

-- an event whose operations are set to those that it has
pub same_event : (e : PlainEvent) (ops : List FileOp) → event_ops e ≡ ops → with_ops ops e ≡ e
same_event (Commit id mark branch author committer encoding comment parents old aliases) ops is =
    ap (λ (l : List FileOp). Commit id mark branch author committer encoding comment parents l aliases) (sym is)
same_event (Blob id mark bytes) ops is = refl
same_event (Tag id name target tagger comment mark) ops is = refl
same_event (Reset id branch target) ops is = refl
same_event (Pass id line) ops is = refl
