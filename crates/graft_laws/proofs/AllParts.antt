-- All parts of a `unite`: each commit of each has its tree, and no event comes from elsewhere.
use Rattle.std.proofs.Common.{◌≡◌, ℕ, Bool, true, List, [], ◌∷◌, ◌∙◌, refl, sym, subst, ◌⊎◌, Ok}
use Rattle.std.specs.Prelude.{IsSome}
use Rattle.std.specs.List.{AllByRecursion}
use Rattle.plain_model.specs.declared.id.AnyId.{AnyId}
use Rattle.plain_model.specs.declared.id.AnyId.TheVariants as any
use Rattle.plain_model.specs.declared.event.PlainEvent.{PlainEvent}
use Rattle.plain_model.specs.Histories.{tree}
use Rattle.plain_model.specs.Lookups.{next_number}
use Rattle.plain_model.specs.Soundness.{IsCommitOf, has_id}
use Rattle.renumbering.specs.Renumbered.{renumbered}
use Rattle.graft_laws.specs.Joined.{HasTreesOf, IsLinked, IsPart}
use Rattle.graft_laws.specs.Joining.{new_number, without_passes}
use Rattle.graft_laws.specs.Sources.{HasTreesOfAll, IsFromOne, number_after}
use Rattle.graft_laws.specs.Unite.{Part, by_age, with_part, with_parts}
use Rattle.graft_laws.proofs.Labels.{HasShortName}
use Rattle.graft_laws.proofs.Marked.{commit_marked, shown_marked}
use Rattle.graft_laws.proofs.Sources.{from_parts, next_after}
use Rattle.graft_laws.proofs.UniteDone.{IsUnited, base_linked, further, linked_more, part_among, short, short_more, sorted_good, trees_more}

-- one part after another
all_trees : (prune : Bool) → prune ≡ true → (events : List PlainEvent) (parts : List Part) (whole : List PlainEvent) → with_parts prune events parts ≡ Ok whole → AllByRecursion IsPart parts
    → AllByRecursion HasShortName whole → IsLinked events → ((c : ℕ) → IsCommitOf events c → IsSome (tree events c)) → HasTreesOfAll parts (next_number events) whole
all_trees prune is events [] whole joins good names linked has = tt
all_trees prune is events (part ∷ parts) whole joins good names linked has =
    let later = further prune events part parts whole joins in
    let more = linked_more prune events part good.0 linked (short_more prune (with_part prune events part) parts whole later names) in
    let rest = all_trees prune is (with_part prune events part) parts whole later good.1 names more (trees_more prune events part good.0 is has) in
    (part_among prune is events [] part parts events whole joins refl good names linked has, subst (λ n. HasTreesOfAll parts n whole) (next_after prune events part) rest)

-- and with other marks
trees_marked : (joined : List PlainEvent) (parts : List Part) (first : ℕ) → HasTreesOfAll parts first joined → HasTreesOfAll parts first (renumbered joined)
trees_marked joined [] first h = tt
trees_marked joined (part ∷ parts) first h = (marked, trees_marked joined parts (number_after first part.events) h.1)
  where
    marked : HasTreesOf part.events first (renumbered joined)
    marked c there =
        let new = new_number first (without_passes part.events) (any.Commit c) in
        let kept = h.0 c there in
        (commit_marked 1 [] joined (any.Commit new) ∙ kept.0, shown_marked 1 [] joined new ∙ kept.1)

module _ (prune : Bool) (parts : List Part) (new : List PlainEvent) (u : IsUnited prune parts new) (good : AllByRecursion IsPart parts) where
  pub all_stay : prune ≡ true → HasTreesOfAll (u.part ∷ u.others) (next_number u.base.events) new
  all_stay is =
      let its = sorted_good prune parts new u good in
      subst (HasTreesOfAll (u.part ∷ u.others) (next_number u.base.events)) u.is
      (trees_marked u.joined (u.part ∷ u.others) (next_number u.base.events)
      (all_trees prune is u.base.events (u.part ∷ u.others) u.joined u.joins its.1 (short prune parts new u good) (base_linked prune parts new u good) its.0.sound.trees))

  pub no_others : (id : AnyId) → has_id new id ≡ true → (has_id u.base.events id ≡ true) ⊎ IsFromOne (u.part ∷ u.others) (next_number u.base.events) id
  no_others id there =
      let its = sorted_good prune parts new u good in
      from_parts prune u.base.events (u.part ∷ u.others) u.joined u.joins its.1 id
      (sym (commit_marked 1 [] u.joined id) ∙ subst (λ (l : List PlainEvent). has_id l id ≡ true) (sym u.is) there)

-- what holds of the further ones in the order of age
abbrev pub OfOthers : (Part → List Part → Type 0) → List Part → Type 0
OfOthers Holds [] = Unit {0}
OfOthers Holds (base ∷ others) = Holds base others

pub in_order : (Holds : Part → List Part → Type 0) (prune : Bool) (parts : List Part) (new : List PlainEvent) (u : IsUnited prune parts new) (base : Part) (others : List Part)
    → by_age (λ (part : Part). part.events) parts ≡ base ∷ others → Holds u.base (u.part ∷ u.others) → Holds base others
in_order Holds prune parts new u base others order h = subst (OfOthers Holds) (sym u.order ∙ order) h
