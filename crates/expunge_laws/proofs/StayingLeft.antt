-- Which events but blobs are there after an expunge.
use Rattle.std.proofs.Common.{◌≡◌, ◌∙◌, ℕ, Bool, false, cond, not, List, [], ◌∷◌, map, refl, ap, Option, Some, None, Ok}
use Rattle.std.specs.Prelude.{◌==◌, ◌||◌, ◌&&◌, is_some}
use Rattle.std.specs.List.{list_any}
use Rattle.std.specs.Option.{option_or}
use Rattle.plain_model.specs.declared.event.PlainEvent.{PlainEvent}
use Rattle.plain_model.specs.declared.event.PlainEvent.TheVariants.{Blob, Commit, Tag, Reset, Pass}
use Rattle.plain_model.specs.declared.id.AnyId.{AnyId}
use Rattle.plain_model.specs.declared.id.AnyId.TheVariants as any
use Rattle.plain_model.specs.declared.policy.Lean.TheVariants as lean
use Rattle.plain_model.specs.declared.policy.Policy.{Policy}
use Rattle.plain_model.specs.declared.policy.Push.TheVariants as push
use Rattle.plain_model.specs.Histories.{Node, Past, nodes, past}
use Rattle.plain_model.specs.Lookups.{id_of, is_listed, same_id}
use Rattle.plain_model.specs.Paths.{Bytes}
use Rattle.plain_model.specs.Soundness.{IsSound, has_id}
use Rattle.edit_laws.specs.Keeping.{IsNoBlob}
use Rattle.edit_laws.specs.Removal.{back, forward}
use Rattle.squash_laws.specs.Remaining.{is_staying, stays}
use Rattle.squash_laws.specs.Removed.{is_removed}
use Rattle.squash_laws.specs.Takings.{target_after}
use Rattle.squash_laws.proofs.Staying.{staying_there}
use Rattle.expunge_laws.specs.Expunged.{emptied, expunge_of, replaced_event, replaced_events}
use Rattle.expunge_laws.specs.PushForward.{forward_takes}
use Rattle.expunge_laws.proofs.Changed.{replaced_sound}
use Rattle.expunge_laws.proofs.Forwarded.{pushed_done}
use Rattle.expunge_laws.proofs.ParentsLeft.{nodes_changed, ops_of, past_changed}

-- ---- the ways where commits have other operations and the same parents

module _ (ops : Node → Node) (same_number : (n : Node) → (ops n).id ≡ n.id) (same_parents : (n : Node) → (ops n).parents ≡ n.parents) (removed : ℕ → Bool) where
  forward_same : (ns : List Node) (c : ℕ) → forward removed (map ops ns) c ≡ forward removed ns c
  forward_same [] c = refl
  forward_same (n ∷ later) c = λ i.
      cond (list_any (λ p. p == c) (same_parents n i))
      (cond (removed (same_number n i)) (forward_same later (same_number n i) i) (Some (same_number n i)))
      (forward_same later c i)

  back_same : (a : Past) (ps : List ℕ) → back removed (map ops a) ps ≡ back removed a ps
  back_same [] ps = refl
  back_same (n ∷ older) [] = refl
  back_same (n ∷ older) (p ∷ ps) = λ i.
      cond (same_number n i == p) (cond (removed p) (back_same older (same_parents n i) i) (Some p)) (back_same older (p ∷ ps) i)

-- ---- the history

abbrev how : Policy
how = record { push = push.Forward; tags = lean.Forward }

module _ (matched : Bytes → Bool) (events : List PlainEvent) where
  abbrev set : List AnyId
  set = emptied matched events

  abbrev changed : List PlainEvent
  changed = replaced_events matched events

  forward_is : (c : ℕ) → forward (is_removed set) (nodes changed) c ≡ forward (is_removed set) (nodes events) c
  forward_is c =
      ap (λ (ns : List Node). forward (is_removed set) ns c) (nodes_changed matched events events)
      ∙ forward_same (ops_of matched events) (λ n. refl) (λ n. refl) (is_removed set) (nodes events) c

  back_is : (c : ℕ) → back (is_removed set) (past changed) (c ∷ []) ≡ back (is_removed set) (past events) (c ∷ [])
  back_is c =
      ap (λ (a : Past). back (is_removed set) a (c ∷ [])) (past_changed matched events)
      ∙ back_same (ops_of matched events) (λ n. refl) (λ n. refl) (is_removed set) (past events) (c ∷ [])

  target_is : (c : ℕ) → target_after set changed push.Forward lean.Forward c ≡ target_after set events push.Forward lean.Forward c
  target_is c = λ i. cond (is_removed set c) (option_or (forward_is c i) (back_is c i)) (Some c)

  stays_same : (e : PlainEvent) → stays how set changed (replaced_event matched events e) ≡ stays how set events e
  stays_same (Commit id mark branch author committer encoding comment parents ops aliases) = refl
  stays_same (Blob id mark bytes) = refl
  stays_same (Tag id name target tagger comment mark) = ap (λ (o : Option ℕ). not (is_listed (any.Tag id) set) && is_some o) (target_is target)
  stays_same (Reset id branch (Some target)) = ap (λ (o : Option ℕ). not (is_listed (any.Reset id) set) && is_some o) (target_is target)
  stays_same (Reset id branch None) = refl
  stays_same (Pass id line) = refl

  same_own : (e : PlainEvent) → id_of (replaced_event matched events e) ≡ id_of e
  same_own (Commit id mark branch author committer encoding comment parents ops aliases) = refl
  same_own (Blob id mark bytes) = refl
  same_own (Tag id name target tagger comment mark) = refl
  same_own (Reset id branch target) = refl
  same_own (Pass id line) = refl

  staying_same : (id : AnyId) (es : List PlainEvent)
      → list_any (λ e. same_id id (id_of e) && stays how set changed e) (map (replaced_event matched events) es) ≡ list_any (λ e. same_id id (id_of e) && stays how set events e) es
  staying_same id [] = refl
  staying_same id (e ∷ es) = λ i. (same_id id (same_own e i) && stays_same e i) || staying_same id es i

pub others_left : (matched : Bytes → Bool) (events new : List PlainEvent) → IsSound events → expunge_of matched events ≡ Ok new
    → (id : AnyId) → IsNoBlob id → has_id new id ≡ is_staying how (emptied matched events) events id
others_left matched events new h d id other =
    let gone = emptied matched events in
    let after = replaced_events matched events in
    let is = (pushed_done events gone after false lean.Forward (replaced_sound matched events h) events new d).0 in
    staying_there how gone after (forward_takes gone after false lean.Forward) (λ c. refl) events new is id other
    ∙ staying_same matched events id events
