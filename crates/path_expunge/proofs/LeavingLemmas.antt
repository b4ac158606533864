-- Events without some of their operations.
use Rattle.std.proofs.Common.{◌≡◌, ◌∙◌, Bool, false, cond, not, filter, List, [], ◌∷◌, None, refl, sym, ap}
use Rattle.std.specs.List.{list_any}
use Rattle.std.proofs.lemmas.Bool.{or_parts}
use Rattle.std.proofs.lemmas.Option.{none-some}
use Rattle.plain_model.specs.declared.operation.FileOp.{FileOp}
use Rattle.plain_model.specs.declared.event.PlainEvent.{PlainEvent}
use Rattle.plain_model.specs.declared.event.PlainEvent.TheVariants.{Blob, Commit, Tag, Reset, Pass}
use Rattle.plain_model.specs.Lookups.{commit_id, event_ops, id_of}
use Rattle.event_arena.specs.Changes.{with_ops}
use Rattle.expunge_laws.specs.Apart.{event_without}

module _ (test : FileOp → Bool) where
  pub without_id : (e : PlainEvent) → id_of (event_without test e) ≡ id_of e
  without_id (Commit id mark branch author committer encoding comment parents ops aliases) = refl
  without_id (Blob id mark bytes) = refl
  without_id (Tag id name target tagger comment mark) = refl
  without_id (Reset id branch target) = refl
  without_id (Pass id line) = refl

  -- what is no commit has no operation
  pub without_ops : (e : PlainEvent) → commit_id e ≡ None → event_without test e ≡ e
  without_ops (Commit id mark branch author committer encoding comment parents ops aliases) none = absurd (none-some id (sym none))
  without_ops (Blob id mark bytes) none = refl
  without_ops (Tag id name target tagger comment mark) none = refl
  without_ops (Reset id branch target) none = refl
  without_ops (Pass id line) none = refl

  -- where none passes the test, all stay
  pub none_without : (ops : List FileOp) → list_any test ops ≡ false → filter (λ op. not (test op)) ops ≡ ops
  none_without [] h = refl
  none_without (op ∷ ops) h =
      let parts = or_parts (test op) (list_any test ops) h in
      ap (λ b. cond (not b) (op ∷ filter (λ x. not (test x)) ops) (filter (λ x. not (test x)) ops)) parts.0 ∙ ap (λ (l : List FileOp). op ∷ l) (none_without ops parts.1)

  pub none_left_out : (e : PlainEvent) → list_any test (event_ops e) ≡ false → event_without test e ≡ e
  none_left_out (Commit id mark branch author committer encoding comment parents ops aliases) h =
      ap (λ (l : List FileOp). Commit id mark branch author committer encoding comment parents l aliases) (none_without ops h)
  none_left_out (Blob id mark bytes) h = refl
  none_left_out (Tag id name target tagger comment mark) h = refl
  none_left_out (Reset id branch target) h = refl
  none_left_out (Pass id line) h = refl

  -- an event with the operations that don't pass
  pub with_rest : (e : PlainEvent) → with_ops (filter (λ op. not (test op)) (event_ops e)) e ≡ event_without test e
  with_rest (Commit id mark branch author committer encoding comment parents ops aliases) = refl
  with_rest (Blob id mark bytes) = refl
  with_rest (Tag id name target tagger comment mark) = refl
  with_rest (Reset id branch target) = refl
  with_rest (Pass id line) = refl

  -- its operations are those
  pub rest_ops : (e : PlainEvent) → event_ops (event_without test e) ≡ filter (λ op. not (test op)) (event_ops e)
  rest_ops (Commit id mark branch author committer encoding comment parents ops aliases) = refl
  rest_ops (Blob id mark bytes) = refl
  rest_ops (Tag id name target tagger comment mark) = refl
  rest_ops (Reset id branch target) = refl
  rest_ops (Pass id line) = refl
