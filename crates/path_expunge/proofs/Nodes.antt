-- Commits of a sound history: their parents are there, and they have trees.
use Rattle.std.proofs.Common.{◌≡◌, ◌∙◌, ℕ, Bool, true, false, List, [], ◌∷◌, Option, Some, refl, sym, ap, subst, true≢false}
use Rattle.std.specs.Prelude.{IsSome, slice_get, unwrap_or}
use Rattle.std.specs.List.{AllByRecursion}
use Rattle.plain_model.specs.declared.id.AnyId.TheVariants as any
use Rattle.plain_model.specs.declared.operation.FileOp.{FileOp}
use Rattle.plain_model.specs.declared.person.Signed.{Signed}
use Rattle.plain_model.specs.declared.event.PlainEvent.{PlainEvent}
use Rattle.plain_model.specs.declared.event.PlainEvent.TheVariants.{Blob, Commit, Tag, Reset, Pass}
use Rattle.plain_model.specs.Histories.{begun, folded, past, tree}
use Rattle.plain_model.specs.Lookups.{find_event, id_of}
use Rattle.plain_model.specs.Paths.{Bytes}
use Rattle.plain_model.specs.Soundness.{IsCommitOf, IsSound, has_id}
use Rattle.plain_model.specs.Trees.{IsTree, Tree}
use Rattle.history_laws.proofs.SoundOnce.{has_id_find}
use Rattle.edit_laws.specs.Equations.{Fits}
use Rattle.edit_laws.proofs.Lists.{OfNodes, own_here}
use Rattle.graph_walk.proofs.TurnLemmas.{all_at}
use Rattle.squash_laws.specs.Takings.{is_none}
use Rattle.plan_steps.proofs.NodeLemmas.{parents_there}
use Rattle.expunge_laws.specs.Expunged.{replaced_event}
use Rattle.expunge_laws.specs.Untouched.{is_touched, may_be_touched}
use Rattle.expunge_laws.proofs.Changed.{fitting}
use Rattle.expunge_laws.proofs.TreesLeft.{IfTreeIs, begun_is, tree_is}
use Rattle.expunge_laws.proofs.Still.{not_by_name, untouched_stay}

-- a commit begins with a tree
pub begun_tree : (events : List PlainEvent) (parents : List ℕ) (t : Tree) → begun (tree events) parents ≡ Some t → IsTree t
begun_tree events parents t is = subst IfTreeIs is (begun_is (tree events) (λ c. tree_is (past events) c) parents)

-- what has nothing in it
pub none_there : {X : Type 0} (xs : List X) → is_none xs ≡ true → xs ≡ []
none_there [] h = refl
none_there (x ∷ xs) h = absurd (true≢false (sym h))

-- what is no commit keeps what it is, and is touched by nothing
pub no_commit : (matched : Bytes → Bool) (events : List PlainEvent) (e : PlainEvent)
    → ((id mark : ℕ) (branch : Bytes) (author committer : Signed) (encoding : Option Bytes) (comment : Bytes) (parents : List ℕ) (ops : List FileOp) (aliases : List ℕ)
    → e ≡ Commit id mark branch author committer encoding comment parents ops aliases → ⊥)
    → (replaced_event matched events e ≡ e) × (may_be_touched matched e ≡ false)
no_commit matched events (Commit id mark branch author committer encoding comment parents ops aliases) h = absurd (h id mark branch author committer encoding comment parents ops aliases refl)
no_commit matched events (Blob id mark bytes) h = (refl, refl)
no_commit matched events (Tag id name target tagger comment mark) h = (refl, refl)
no_commit matched events (Reset id branch target) h = (refl, refl)
no_commit matched events (Pass id line) h = (refl, refl)

pub replaced_id : (matched : Bytes → Bool) (events : List PlainEvent) (e : PlainEvent) → id_of (replaced_event matched events e) ≡ id_of e
replaced_id matched events (Commit id mark branch author committer encoding comment parents ops aliases) = refl
replaced_id matched events (Blob id mark bytes) = refl
replaced_id matched events (Tag id name target tagger comment mark) = refl
replaced_id matched events (Reset id branch target) = refl
replaced_id matched events (Pass id line) = refl

module _ (events : List PlainEvent) (h : IsSound events) (k id mark : ℕ) (branch : Bytes) (author committer : Signed) (encoding : Option Bytes) (comment : Bytes) (parents : List ℕ) (ops : List FileOp) (aliases : List ℕ)
    (at : slice_get events k ≡ Some (Commit id mark branch author committer encoding comment parents ops aliases))
  where
    abbrev e : PlainEvent
    e = Commit id mark branch author committer encoding comment parents ops aliases

    -- its parents are commits
    pub parents_known : AllByRecursion (IsCommitOf events) parents
    parents_known = go parents (parents_there events h k e at)
      where
        go : (ps : List ℕ) → AllByRecursion (λ p. IsSome (find_event (any.Commit p) events)) ps → AllByRecursion (IsCommitOf events) ps
        go [] a = tt
        go (p ∷ ps) a = (has_id_find events (any.Commit p) ∙ a.0, go ps a.1)

    -- it has a tree
    pub has_tree : IsSome (folded ops (begun (tree events) parents))
    has_tree =
        let fits = all_at (OfNodes (Fits (tree events))) events k e (fitting (λ p. false) events h) at in
        let there = all_at (λ x. has_id events (id_of x) ≡ true) events k e (own_here events) at in
        subst IsSome fits.0 (h.trees id there)

    pub has_tree_from : (begun_with : Tree) → begun (tree events) parents ≡ Some begun_with → IsSome (folded ops (Some begun_with))
    has_tree_from begun_with is = subst (λ o. IsSome (folded ops o)) is has_tree

    -- the tree with which it begins
    pub begins_with : (begun_with : Tree) → begun (tree events) parents ≡ Some begun_with → unwrap_or (begun (tree events) parents) [] ≡ begun_with
    begins_with begun_with is = ap (λ (o : Option Tree). unwrap_or o []) is

-- where no operation may touch a matched path, an event stays as it is
pub stays_by_name : (matched : Bytes → Bool) (events : List PlainEvent) → IsSound events → (k : ℕ) (e : PlainEvent) → slice_get events k ≡ Some e →
    may_be_touched matched e ≡ false → replaced_event matched events e ≡ e
stays_by_name matched events h k e at none =
    all_at (λ x. is_touched matched events x ≡ false → replaced_event matched events x ≡ x) events k e (untouched_stay matched events h) at
    (not_by_name matched events e none)
