-- An event that moves to the commits in the places of its parents, or of its target.
use Rattle.std.proofs.Common.{◌≡◌, ◌∙◌, ℕ, true, List, [], ◌∷◌, Option, Some, None, eqb-true, refl, sym, ap, true≢false}
use Rattle.std.specs.Cmp.Lexicographic.{pointwise}
use Rattle.std.proofs.lemmas.Bool.{and_parts}
use Rattle.std.proofs.lemmas.Option.{none-some, same_Some}
use Rattle.plain_model.specs.contracts.id.CommitIdPartialEq.TheImpl.{eq-value}
use Rattle.plain_model.specs.declared.id.AnyId.{AnyId}
use Rattle.plain_model.specs.declared.operation.FileOp.{FileOp}
use Rattle.plain_model.specs.declared.person.Signed.{Signed}
use Rattle.plain_model.specs.declared.event.PlainEvent.{PlainEvent}
use Rattle.plain_model.specs.declared.event.PlainEvent.TheVariants.{Blob, Commit, Tag, Reset, Pass}
use Rattle.plain_model.specs.Lookups.{id_of}
use Rattle.event_arena.specs.Changes.{has_target, with_target}
use Rattle.plan_steps.specs.Targets.{target_for}
use Rattle.tagify_laws.specs.InPlace.{moved}
use Rattle.tagify_laws.specs.Tagify.{base_of}

-- parents that are equal one by one
pub same_commits : (xs ys : List ℕ) → pointwise eq-value.it xs ys ≡ true → xs ≡ ys
same_commits [] [] h = refl
same_commits [] (y ∷ ys) h = absurd (true≢false (sym h))
same_commits (x ∷ xs) [] h = absurd (true≢false (sym h))
same_commits (x ∷ xs) (y ∷ ys) h =
    let parts = and_parts (eq-value.it x y) (pointwise eq-value.it xs ys) h in
    ap (λ z. z ∷ xs) (eqb-true x y parts.0) ∙ ap (λ (l : List ℕ). y ∷ l) (same_commits xs ys parts.1)

-- ---- a tag or a reset on a commit

-- it has a target
pub targeted : (e : PlainEvent) (t : ℕ) → target_for Some e ≡ Some t → has_target (id_of e) ≡ true
targeted (Tag id name target tagger comment mark) t is = refl
targeted (Reset id branch target) t is = refl
targeted (Blob id mark bytes) t is = absurd (none-some t is)
targeted (Commit id mark branch author committer encoding comment parents ops aliases) t is = absurd (none-some t is)
targeted (Pass id line) t is = absurd (none-some t is)

-- which is that commit
pub on_target : (e : PlainEvent) (t : ℕ) → target_for Some e ≡ Some t → with_target t e ≡ e
on_target (Tag id name target tagger comment mark) t is = ap (λ x. Tag id name x tagger comment mark) (sym (same_Some target t is))
on_target (Reset id branch (Some target)) t is = ap (λ x. Reset id branch (Some x)) (sym (same_Some target t is))
on_target (Reset id branch None) t is = absurd (none-some t is)
on_target (Blob id mark bytes) t is = absurd (none-some t is)
on_target (Commit id mark branch author committer encoding comment parents ops aliases) t is = absurd (none-some t is)
on_target (Pass id line) t is = absurd (none-some t is)

module _ (selected : List AnyId) (events : List PlainEvent) where
  -- it goes to the commit in the place of that one
  pub retargeted : (e : PlainEvent) (t : ℕ) → target_for Some e ≡ Some t → with_target (base_of selected events t) e ≡ moved selected events e
  retargeted (Tag id name target tagger comment mark) t is = ap (λ x. Tag id name (base_of selected events x) tagger comment mark) (sym (same_Some target t is))
  retargeted (Reset id branch (Some target)) t is = ap (λ x. Reset id branch (Some (base_of selected events x))) (sym (same_Some target t is))
  retargeted (Reset id branch None) t is = absurd (none-some t is)
  retargeted (Blob id mark bytes) t is = absurd (none-some t is)
  retargeted (Commit id mark branch author committer encoding comment parents ops aliases) t is = absurd (none-some t is)
  retargeted (Pass id line) t is = absurd (none-some t is)

  -- what is no commit and on none stays as it is
  pub unmoved : (e : PlainEvent) → target_for Some e ≡ None
      → ((id mark : ℕ) (branch : List ℕ) (author committer : Signed) (encoding : Option (List ℕ)) (comment : List ℕ) (parents : List ℕ) (ops : List FileOp) (aliases : List ℕ) → e ≡ Commit id mark branch author committer encoding comment parents ops aliases → ⊥)
      → moved selected events e ≡ e
  unmoved (Commit id mark branch author committer encoding comment parents ops aliases) is other = absurd (other id mark branch author committer encoding comment parents ops aliases refl)
  unmoved (Tag id name target tagger comment mark) is other = absurd (none-some target (sym is))
  unmoved (Reset id branch (Some target)) is other = absurd (none-some target (sym is))
  unmoved (Reset id branch None) is other = refl
  unmoved (Blob id mark bytes) is other = refl
  unmoved (Pass id line) is other = refl
