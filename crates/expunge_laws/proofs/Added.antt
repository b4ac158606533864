-- A push forward adds nothing, and what stays where comments are left alone is as it was, but for its links.
use Rattle.std.proofs.Common.{◌≡◌, ℕ, Bool, false, List, [], ◌∷◌, refl, Some, None, Ok}
use Rattle.std.specs.List.{AllByRecursion}
use Rattle.plain_model.specs.declared.id.AnyId.{AnyId}
use Rattle.plain_model.specs.declared.id.AnyId.TheVariants as any
use Rattle.plain_model.specs.declared.event.PlainEvent.{PlainEvent}
use Rattle.plain_model.specs.declared.event.PlainEvent.TheVariants.{Blob, Commit, Tag, Reset, Pass}
use Rattle.plain_model.specs.Lookups.{AreIdsBelow, id_of, is_listed}
use Rattle.edit_laws.specs.Keeping.{AddsNothing, unlinked}
use Rattle.edit_laws.proofs.Edits.{fewer_below}
use Rattle.edit_laws.proofs.Lists.{all_flat}
use Rattle.squash_laws.specs.Removed.{Takings, is_removed, left_of, parents_after}
use Rattle.plain_model.specs.declared.policy.Lean.{Lean}
use Rattle.squash_laws.proofs.Added.{adds_nothing}
use Rattle.squash_laws.proofs.Left.{one_left, one_moved}
use Rattle.expunge_laws.specs.PushForward.{forward_takes, pushed_forward}
use Rattle.expunge_laws.proofs.Forwarded.{pushed_all}

module _ (before : List PlainEvent) (set : List AnyId) (events : List PlainEvent) (comments : Bool) (tags : Lean) (new : List PlainEvent)
    (is : pushed_forward before set events comments tags ≡ Ok new) where
  pub nothing_added : AddsNothing events new
  nothing_added = adds_nothing set events (forward_takes set events comments tags) before new is

  pub still_below : (next : ℕ) → AreIdsBelow next events → AreIdsBelow next new
  still_below next below = fewer_below events new next nothing_added.ids below

-- ---- where comments are left alone

module _ (before : List PlainEvent) (set : List AnyId) (events : List PlainEvent) (tags : Lean) where
  abbrev bare_taking : Takings
  bare_taking = forward_takes set events false tags

  -- it has the id of the event, and differs in its links alone
  abbrev pub IsLike : PlainEvent → PlainEvent → Type 0
  IsLike e x = (id_of x ≡ id_of e) × (unlinked e ≡ unlinked x)

  each_like : (e : PlainEvent) → AllByRecursion (IsLike e) (left_of set events bare_taking e)
  each_like (Commit id mark branch author committer encoding comment parents ops aliases) =
      let e = Commit id mark branch author committer encoding comment parents ops aliases in
      one_left (IsLike e) (is_removed set id)
      (Commit id mark branch author committer encoding comment (parents_after set events bare_taking parents) (bare_taking.ops id parents ops) aliases)
      (λ stays. (refl, refl))
  each_like (Blob id mark bytes) = ((refl, refl), tt)
  each_like (Tag id name target tagger comment mark) =
      one_moved (IsLike (Tag id name target tagger comment mark)) (is_listed (any.Tag id) set) (λ t. Tag id name t tagger comment mark) (bare_taking.target target)
      (λ t is. (refl, refl))
  each_like (Reset id branch None) =
      one_left (IsLike (Reset id branch None)) (is_listed (any.Reset id) set) (Reset id branch None) (λ stays. (refl, refl))
  each_like (Reset id branch (Some target)) =
      one_moved (IsLike (Reset id branch (Some target))) (is_listed (any.Reset id) set) (λ t. Reset id branch (Some t)) (bare_taking.target target)
      (λ t is. (refl, refl))
  each_like (Pass id line) =
      one_left (IsLike (Pass id line)) (is_listed (any.Pass id) set) (Pass id line) (λ stays. (refl, refl))

  -- what is true of whatever is like an event is true of what is left
  pub all_like : (P Q : PlainEvent → Type 0) → ((e x : PlainEvent) → P e → IsLike e x → Q x) → AllByRecursion P events → (new : List PlainEvent) →
      pushed_forward before set events false tags ≡ Ok new → AllByRecursion Q new
  all_like P Q alike all new is =
      pushed_all before set events false tags Q (all_flat P Q (left_of set events bare_taking) each events all) new is
    where
      each : (e : PlainEvent) → P e → AllByRecursion Q (left_of set events bare_taking e)
      each e p = go (left_of set events bare_taking e) (each_like e)
        where
          go : (xs : List PlainEvent) → AllByRecursion (IsLike e) xs → AllByRecursion Q xs
          go [] a = tt
          go (x ∷ xs) a = (alike e x p a.0, go xs a.1)
