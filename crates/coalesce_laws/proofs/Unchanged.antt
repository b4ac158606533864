-- Where no commit is joined, nothing changes.
use Rattle.std.proofs.Common.{◌≡◌, ℕ, true, false, List, [], ◌∷◌, ◌++◌, refl, ap, ◌∙◌, Some, None, Result, Ok, Err}
use Rattle.std.specs.Prelude.{flat_map}
use Rattle.std.specs.List.{AllByRecursion, list_any}
use Rattle.plain_model.specs.declared.id.AnyId.{AnyId}
use Rattle.plain_model.specs.declared.operation.FileOp.{FileOp}
use Rattle.plain_model.specs.declared.event.PlainEvent.{PlainEvent}
use Rattle.plain_model.specs.declared.event.PlainEvent.TheVariants.{Blob, Commit, Tag, Reset, Pass}
use Rattle.plain_model.specs.Histories.{Node, past}
use Rattle.plain_model.specs.Soundness.{IsSound, are_distinct}
use Rattle.history_laws.specs.FirstParents.{ops_along}
use Rattle.edit_laws.specs.Parts.{IsLawful}
use Rattle.edit_laws.specs.Removal.{chain, once_each}
use Rattle.edit_laws.specs.Settling.{settle}
use Rattle.edit_laws.specs.Sweeping.{swept}
use Rattle.edit_laws.proofs.Following.{chain_none}
use Rattle.edit_laws.proofs.Repeats.{distinct_once}
use Rattle.edit_laws.proofs.Settles.{sound_stays}
use Rattle.edit_laws.proofs.Sound.{in_parts}
use Rattle.edit_laws.proofs.Swept.{swept_itself}
use Rattle.squash_laws.specs.Removed.{Takings, is_removed, left_of, parents_after}
use Rattle.squash_laws.specs.Takings.{anew}
use Rattle.plain_model.specs.declared.policy.Lean.TheVariants as lean
use Rattle.coalesce_laws.specs.Coalesce.{coalesce_of, coalesced, joined_ones}
use Rattle.expunge_laws.specs.PushForward.{forward_takes, pushed_forward}
use Rattle.coalesce_laws.proofs.Single.{all_itself}

module _ (events : List PlainEvent) where
  abbrev takes_none : Takings
  takes_none = forward_takes [] events false lean.Forward

  none_removed : (ps : List ℕ) → list_any (is_removed []) ps ≡ false
  none_removed [] = refl
  none_removed (p ∷ ps) = none_removed ps

  no_chain : (a : List Node) (ps : List ℕ) → chain (is_removed []) a ps ≡ []
  no_chain [] [] = refl
  no_chain (n ∷ a) [] = refl
  no_chain a (p ∷ ps) = chain_none (is_removed []) a p ps refl

  same_parents : (ps : List ℕ) → are_distinct ps ≡ true → parents_after [] events takes_none ps ≡ ps
  same_parents ps d = ap once_each (all_itself (is_removed []) (past events) ps (none_removed ps)) ∙ distinct_once ps d

  same_ops : (id : ℕ) (ps : List ℕ) (ops : List FileOp) → takes_none.ops id ps ops ≡ ops
  same_ops id ps ops = ap (λ (ls : List Node). anew ls (parents_after [] events takes_none ps) ++ (ops_along ls ++ ops)) (no_chain (past events) ps)

  same_event : (e : PlainEvent) → IsLawful e → left_of [] events takes_none e ≡ e ∷ []
  same_event (Commit id mark branch author committer encoding comment parents ops aliases) l =
      λ i. Commit id mark branch author committer encoding comment (same_parents parents l.4 i) (same_ops id parents ops i) aliases ∷ []
  same_event (Blob id mark bytes) l = refl
  same_event (Tag id name target tagger comment mark) l = refl
  same_event (Reset id branch None) l = refl
  same_event (Reset id branch (Some target)) l = refl
  same_event (Pass id line) l = refl

  same_all : (es : List PlainEvent) → AllByRecursion IsLawful es → flat_map (left_of [] events takes_none) es ≡ es
  same_all [] l = refl
  same_all (e ∷ es) l = λ i. same_event e l.0 i ++ same_all es l.1 i

pub unchanged : (seconds : ℕ) (set : List AnyId) (events : List PlainEvent) → IsSound events → joined_ones seconds set events ≡ [] →
    coalesce_of seconds set events ≡ events
unchanged seconds set events h none =
    let is : coalesced seconds set events ≡ Ok events =
    ap (λ (ones : List AnyId). pushed_forward events ones events false lean.Forward) none
    ∙ ap (λ (l : List PlainEvent). settle (swept events l)) (same_all events events (in_parts events h).lawful)
    ∙ ap settle (swept_itself events)
    ∙ sound_stays events h in
    ap (λ (r : Result (List PlainEvent) (List PlainEvent)). elim r [ Ok new ↦ new | Err never ↦ events ]) is
