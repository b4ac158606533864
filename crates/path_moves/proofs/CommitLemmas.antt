-- Commits one after another, with the trees that they begin with.
use Rattle.std.proofs.Common.{◌≡◌, ◌∙◌, ℕ, ◌+◌, List, ◌∷◌, map, arith, refl, sym, ap, subst, inl, inr, true, false, true≢false, Option, Some, None, Result, Ok, Err}
use Rattle.std.specs.Prelude.{IsOk, IsSome, slice_get}
use Rattle.std.proofs.lemmas.Bool.{cases_eq}
use Rattle.std.proofs.lemmas.Option.{same_Some}
use Rattle.plain_model.specs.declared.event.PlainEvent.{PlainEvent}
use Rattle.plain_model.specs.declared.event.PlainEvent.TheVariants.{Blob, Commit, Tag, Reset, Pass}
use Rattle.plain_model.specs.declared.fault.Fault.{Fault}
use Rattle.plain_model.specs.declared.fault.Halt.{Halt}
use Rattle.plain_model.specs.declared.fault.Halt.TheVariants as halt
use Rattle.plain_model.specs.declared.id.AnyId.TheVariants as any
use Rattle.plain_model.specs.declared.operation.FileOp.{FileOp}
use Rattle.plain_model.specs.declared.person.Signed.{Signed}
use Rattle.plain_model.specs.Histories.{begun, folded, if_ok, tree}
use Rattle.plain_model.specs.Lookups.{commit_id, event_parents, find_event, id_of}
use Rattle.plain_model.specs.Paths.{Bytes}
use Rattle.plain_model.specs.Soundness.{IsSound, has_id}
use Rattle.plain_model.specs.Trees.{Refusal, Tree, apply_all}
use Rattle.edit_laws.specs.Equations.{Fits}
use Rattle.edit_laws.proofs.Lists.{OfNodes, own_here}
use Rattle.graph_walk.proofs.EarlierLemmas.{is_earlier}
use Rattle.graph_walk.proofs.TurnLemmas.{all_at}
use Rattle.expunge_laws.proofs.Changed.{fitting}
use Rattle.plan_steps.proofs.NodeLemmas.{earlier_there}
use Rattle.plan_steps.proofs.WayLemmas.{commit_own, first_known}
use Rattle.path_move_laws.specs.ByName.{named_event}
use Rattle.path_move_laws.specs.MovedOps.{mapped_op}
use Rattle.path_move_laws.specs.Moves.{event_fault, first_of, moved_event, moved_ops}
use Rattle.path_move_laws.proofs.OtherOps.{same_id_of}
use Rattle.path_moves.specs.Commits.{MayMoveOf, MayMoveTo, Reports}

-- a tree that is folded is what the operations make
folded_ok : (r : Result Tree Refusal) → IsSome (if_ok r) → IsOk r
folded_ok (Ok new) h = refl
folded_ok (Err why) h = absurd (true≢false (sym h))

module _ (events : List PlainEvent) (h : IsSound events) (k id mark : ℕ) (branch : Bytes) (author committer : Signed) (encoding : Option Bytes) (comment : Bytes) (parents : List ℕ) (ops : List FileOp) (aliases : List ℕ)
    (at : slice_get events k ≡ Some (Commit id mark branch author committer encoding comment parents ops aliases))
    (begins : Tree) (is : begun (tree events) parents ≡ Some begins)
  where
    abbrev e : PlainEvent
    e = Commit id mark branch author committer encoding comment parents ops aliases

    -- the tree of a commit is what its operations make of the one with which it begins
    pub tree_from : tree events id ≡ if_ok (apply_all ops begins)
    tree_from =
        (all_at (OfNodes (Fits (tree events))) events k e (fitting (λ p. false) events h) at).0
        ∙ ap (folded ops) is

    pub ops_apply : IsOk (apply_all ops begins)
    ops_apply =
        folded_ok (apply_all ops begins)
        (subst IsSome tree_from (h.trees id (all_at (λ x. has_id events (id_of x) ≡ true) events k e (own_here events) at)))

module _ (f : Bytes → Bytes) (events : List PlainEvent) where
  -- the first parent of an event is there, and its tree may be mapped where those before it may be
  pub first_ready : IsSound events → (k : ℕ) (e : PlainEvent) → slice_get events k ≡ Some e → MayMoveTo f events k → (p : ℕ) → slice_get (event_parents e) 0 ≡ Some p
      → IsSome (find_event (any.Commit p) events) × MayMoveOf f events p
  first_ready h k e at may p first =
      let known = first_known events h k p e at first in
      let b = is_earlier events k p known in
      (earlier_there events h k p known, may b.place b.event p b.at b.low (commit_own p b.event b.own))

  pub may_more : (k : ℕ) (e : PlainEvent) → slice_get events k ≡ Some e → MayMoveTo f events k → ((c : ℕ) → commit_id e ≡ Some c → MayMoveOf f events c) → MayMoveTo f events (k + 1)
  may_more k e at before own j x c here low is = elim (cases_eq j k) [
    | inl same ↦ own c (ap commit_id (same_Some e x (sym at ∙ ap (slice_get events) (sym same) ∙ here)) ∙ is)
    | inr other ↦ before j x c here (omega (arith, other)) is
  ]

  -- the fault of the next event, or of those after it
  or_later : Option Fault → List PlainEvent → Option Fault
  or_later o es = elim o [ Some why ↦ Some why | None ↦ first_of f events es ]

  pub calm_step : (e : PlainEvent) (es : List PlainEvent) → event_fault f events e ≡ None → first_of f events (e ∷ es) ≡ first_of f events es
  unfolding or_later
  calm_step e es h = ap (λ o. or_later o es) h

  pub reports_step : (e : PlainEvent) (es : List PlainEvent) (why : Halt) → Reports (event_fault f events e) why → Reports (first_of f events (e ∷ es)) why
  unfolding or_later
  reports_step e es (halt.Refused why) h = ap (λ o. or_later o es) h
  reports_step e es halt.Memory h = tt

  pub moved_id : (e : PlainEvent) → id_of (moved_event f events e) ≡ id_of e
  moved_id e = same_id_of (moved_ops f events) e

  -- what is no commit stays
  pub no_commit : (e : PlainEvent)
      → ((id mark : ℕ) (branch : Bytes) (author committer : Signed) (encoding : Option Bytes) (comment : Bytes) (parents : List ℕ) (ops : List FileOp) (aliases : List ℕ)
      → e ≡ Commit id mark branch author committer encoding comment parents ops aliases → ⊥)
      → (moved_event f events e ≡ e) × (event_fault f events e ≡ None) × (commit_id e ≡ None)
  no_commit (Commit id mark branch author committer encoding comment parents ops aliases) h = absurd (h id mark branch author committer encoding comment parents ops aliases refl)
  no_commit (Blob id mark bytes) h = (refl, refl, refl)
  no_commit (Tag id name target tagger comment mark) h = (refl, refl, refl)
  no_commit (Reset id branch target) h = (refl, refl, refl)
  no_commit (Pass id line) h = (refl, refl, refl)

-- the same where operations go by their names
pub unnamed : (f : Bytes → Bytes) (e : PlainEvent)
    → ((id mark : ℕ) (branch : Bytes) (author committer : Signed) (encoding : Option Bytes) (comment : Bytes) (parents : List ℕ) (ops : List FileOp) (aliases : List ℕ)
    → e ≡ Commit id mark branch author committer encoding comment parents ops aliases → ⊥)
    → named_event f e ≡ e
unnamed f (Commit id mark branch author committer encoding comment parents ops aliases) h = absurd (h id mark branch author committer encoding comment parents ops aliases refl)
unnamed f (Blob id mark bytes) h = refl
unnamed f (Tag id name target tagger comment mark) h = refl
unnamed f (Reset id branch target) h = refl
unnamed f (Pass id line) h = refl

pub named_id : (f : Bytes → Bytes) (e : PlainEvent) → id_of (named_event f e) ≡ id_of e
named_id f e = same_id_of (λ parents ops. map (mapped_op f) ops) e
