-- A list that settles is complete, and what it settles to is linked.
use Rattle.std.proofs.Common.{◌≡◌, ◌∙◌, ℕ, Bool, true, List, [], ◌∷◌, ◌++◌, Result, Ok, Err, refl, sym, ap, arith, true≢false, append_assoc, inl, inr}
use Rattle.std.specs.Prelude.{not, IsOk}
use Rattle.std.specs.List.{AllByRecursion}
use Rattle.std.proofs.lemmas.Bool.{cases_Bool, or_left}
use Rattle.plain_model.specs.declared.id.AnyId.{AnyId}
use Rattle.plain_model.specs.declared.event.PlainEvent.{PlainEvent}
use Rattle.plain_model.specs.Histories.{IsLinkedPast, past}
use Rattle.plain_model.specs.Lookups.{referents_of}
use Rattle.plain_model.specs.Soundness.{has_id}
use Rattle.history_laws.proofs.Ids.{has_id_append}
use Rattle.history_laws.proofs.Lists.{all_imply}
use Rattle.edit_laws.specs.Parts.{AreComplete, AreInOrder, AreOnce, one_if, tally}
use Rattle.edit_laws.specs.Settling.{is_ready, settle}
use Rattle.edit_laws.proofs.Lists.{all_true, true_all}
use Rattle.edit_laws.proofs.Settled.{settled}
use Rattle.edit_laws.proofs.Settles.{any_event, settled_ids, settled_in_order, settled_once, settled_sums}
use Rattle.edit_laws.proofs.Trees.{linked_in_order}

-- ---- a list in order is complete

ready_more : (xs ys : List PlainEvent) (e : PlainEvent) → ((id : AnyId) → has_id xs id ≡ true → has_id ys id ≡ true) → is_ready xs e ≡ true → is_ready ys e ≡ true
ready_more xs ys e more ready =
    true_all (has_id ys) (referents_of e)
    (all_imply (λ id. has_id xs id ≡ true) (λ id. has_id ys id ≡ true) more (referents_of e) (all_true (has_id xs) (referents_of e) ready))

all_ready : (whole earlier es : List PlainEvent) → ((id : AnyId) → has_id (earlier ++ es) id ≡ true → has_id whole id ≡ true) → AreInOrder earlier es →
    AllByRecursion (λ e. is_ready whole e ≡ true) es
all_ready whole earlier [] more o = tt
all_ready whole earlier (e ∷ es) more o = (
  ready_more earlier whole e (λ id h. more id (has_id_append earlier (e ∷ es) id ∙ or_left (has_id earlier id) (has_id (e ∷ es) id) h)) o.0,
  all_ready whole (earlier ++ e ∷ []) es (λ id h. more id (ap (λ (l : List PlainEvent). has_id l id) (sym (append_assoc earlier (e ∷ []) es)) ∙ h)) o.1,
)

-- ---- what is true of all events before settling is true of all after it, and the other way round

module _ (test : PlainEvent → Bool) where
  abbrev failing : PlainEvent → ℕ
  failing e = one_if (not (test e))

  none_fails : (es : List PlainEvent) → AllByRecursion (λ e. test e ≡ true) es → tally failing es ≡ 0
  none_fails [] a = refl
  none_fails (e ∷ es) a =
      let own : failing e ≡ 0 = ap (λ b. one_if (not b)) a.0 in
      let rest = none_fails es a.1 in
      omega arith

  all_pass : (es : List PlainEvent) → tally failing es ≡ 0 → AllByRecursion (λ e. test e ≡ true) es
  all_pass [] h = tt
  all_pass (e ∷ es) h = (
    elim (cases_Bool (test e)) [
      | inl passes ↦ passes
      | inr fails ↦ let own : failing e ≡ 1 = ap (λ b. one_if (not b)) fails in absurd (omega arith)
    ],
    all_pass es (omega arith),
  )

-- ---- settling

module _ (events new : List PlainEvent) (made : settle events ≡ Ok new) where
  pub settled_complete : AreComplete events
  settled_complete =
      let test : PlainEvent → Bool = λ e. is_ready events e in
      let ready : AllByRecursion (λ e. is_ready events e ≡ true) new = all_ready events [] new (λ id h. sym (settled_ids events new made id) ∙ h) (settled_in_order events new made) in
      all_pass test events (sym (settled_sums events new made (failing test)) ∙ none_fails test new ready)

  pub settled_linked : AreOnce events → IsLinkedPast (past new)
  settled_linked once =
      linked_in_order new (settled_once events new once (settled (λ e. Unit {0}) events new (any_event events) made)) (settled_in_order events new made)

-- one that ends
pub ends_complete : (events : List PlainEvent) → IsOk (settle events) → AreComplete events
ends_complete events ok = go (settle events) refl ok
  where
    go : (r : Result (List PlainEvent) (List PlainEvent)) → settle events ≡ r → IsOk r → AreComplete events
    go (Ok new) is ok = settled_complete events new is
    go (Err left) is ok = absurd (true≢false (sym ok))
