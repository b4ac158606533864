-- What a move of paths leaves, where it isn't refused.
use Rattle.std.proofs.Common.{◌≡◌, ℕ, ◌≤◌, Bool, true, false, List, [], ◌∷◌, length, map, refl, sym, ap, subst, ◌∙◌, Option, Some, None, option_map, Result, Ok, Err, nat_lt}
use Rattle.std.specs.Prelude.{◌||◌, if◌then◌else◌}
use Rattle.std.specs.List.{AllByRecursion, list_any}
use Rattle.std.proofs.lemmas.List.{length-map}
use Rattle.plain_model.specs.declared.fault.Fault.{Fault}
use Rattle.plain_model.specs.declared.fault.Fault.TheVariants as fault
use Rattle.plain_model.specs.declared.fault.Which.TheVariants as limit
use Rattle.plain_model.specs.declared.limit.TheConstants.{MAX_ALIASES, MAX_EVENTS, MAX_OPERATIONS, MAX_PARENTS}
use Rattle.plain_model.specs.declared.id.AnyId.{AnyId}
use Rattle.plain_model.specs.declared.id.AnyId.TheVariants as any
use Rattle.plain_model.specs.declared.operation.FileOp.{FileOp}
use Rattle.plain_model.specs.declared.event.PlainEvent.{PlainEvent}
use Rattle.plain_model.specs.declared.event.PlainEvent.TheVariants.{Blob, Commit, Tag, Reset, Pass}
use Rattle.plain_model.specs.Histories.{nodes, tree}
use Rattle.plain_model.specs.Lookups.{AreIdsBelow, alias_count, event_parents}
use Rattle.plain_model.specs.Paths.{Bytes}
use Rattle.plain_model.specs.Snapshots.{map_tree, shown, shown_tree}
use Rattle.plain_model.specs.Soundness.{IsCommitOf, IsSound, has_id}
use Rattle.plain_model.specs.Streams.{is_marked}
use Rattle.plain_model.specs.Trees.{Tree, TreeOf, put, put_all}
use Rattle.history_laws.specs.FirstParents.{ops_along}
use Rattle.history_laws.proofs.TreeMapping.{mapped_put}
use Rattle.history_laws.proofs.SoundOnce.{has_id_find}
use Rattle.edit_laws.specs.Parts.{HasFewParents}
use Rattle.edit_laws.specs.Passing.{IsWithinLimits, limit_fault}
use Rattle.edit_laws.proofs.Limits.{limits_hold, not_many}
use Rattle.edit_laws.proofs.Sound.{in_parts}
use Rattle.path_move_laws.specs.Images.{image, with_images}
use Rattle.path_move_laws.specs.Moves.{first_of, moved_event, moved_events, moved_ops, paths_moved, unless_fault, with_ops_for}
use Rattle.path_move_laws.proofs.OtherOps.{aliases_same, all_few, ids_same, marks_same, shown_same}
use Rattle.path_move_laws.proofs.Walked.{KeepsPaths, moved_sound, moved_trees}

-- ---- images of shown trees

with_images_mapped : {X Y : Type 0} (f : Bytes → Bytes) (g : X → Y) (t : TreeOf X) → map_tree g (with_images f t) ≡ with_images f (map_tree g t)
with_images_mapped f g [] = refl
with_images_mapped {X} {Y} f g (e ∷ es) = ap (λ (r : TreeOf Y). (f e.0, g e.1) ∷ r) (with_images_mapped f g es)

all_mapped : {X Y : Type 0} (g : X → Y) (es base : TreeOf X) → map_tree g (put_all es base) ≡ put_all (map_tree g es) (map_tree g base)
all_mapped g [] base = refl
all_mapped g (e ∷ es) base = mapped_put g e.0 e.1 (put_all es base) ∙ ap (put e.0 (g e.1)) (all_mapped g es base)

pub image_mapped : {X Y : Type 0} (f : Bytes → Bytes) (g : X → Y) (t : TreeOf X) → map_tree g (image f t) ≡ image f (map_tree g t)
image_mapped {X} {Y} f g t = all_mapped g (with_images f t) [] ∙ ap (λ (r : TreeOf Y). put_all r []) (with_images_mapped f g t)

-- ---- what isn't refused

no_fault_left : (o : Option Fault) (answer : Result (List PlainEvent) Fault) (new : List PlainEvent) → unless_fault o answer ≡ Ok new → (o ≡ None) × (answer ≡ Ok new)
no_fault_left None answer new h = (refl, h)
no_fault_left (Some why) answer new h = absurd cc

module _ (f : Bytes → Bytes) (events new : List PlainEvent) (d : paths_moved f events ≡ Ok new) where
  pub calm : first_of f events events ≡ None
  calm = (no_fault_left (first_of f events events) (unless_fault (limit_fault (moved_events f events)) (Ok (moved_events f events))) new d).0

  within : limit_fault (moved_events f events) ≡ None
  within = (no_fault_left (limit_fault (moved_events f events)) (Ok (moved_events f events)) new (no_fault_left (first_of f events events) (unless_fault (limit_fault (moved_events f events)) (Ok (moved_events f events))) new d).1).0

  pub is_moved : moved_events f events ≡ new
  is_moved =
      let r = (no_fault_left (limit_fault (moved_events f events)) (Ok (moved_events f events)) new (no_fault_left (first_of f events events) (unless_fault (limit_fault (moved_events f events)) (Ok (moved_events f events))) new d).1).1 in
      cc

  pub moved_limits : IsWithinLimits new
  moved_limits = subst (λ (es : List PlainEvent). IsWithinLimits es) is_moved ((limits_hold (moved_events f events)).0 within)

  -- the same events but for their operations
  unmoved : (ops_for : List ℕ → List FileOp → List FileOp) (es : List PlainEvent) →
      map (with_ops_for (λ parents ops. [])) (map (with_ops_for ops_for) es) ≡ map (with_ops_for (λ parents ops. [])) es
  unmoved ops_for [] = refl
  unmoved ops_for (Commit id mark branch author committer encoding comment parents ops aliases ∷ es) =
      ap (λ (r : List PlainEvent). Commit id mark branch author committer encoding comment parents [] aliases ∷ r) (unmoved ops_for es)
  unmoved ops_for (Blob id mark bytes ∷ es) = ap (λ (r : List PlainEvent). Blob id mark bytes ∷ r) (unmoved ops_for es)
  unmoved ops_for (Tag id name target tagger comment mark ∷ es) = ap (λ (r : List PlainEvent). Tag id name target tagger comment mark ∷ r) (unmoved ops_for es)
  unmoved ops_for (Reset id branch target ∷ es) = ap (λ (r : List PlainEvent). Reset id branch target ∷ r) (unmoved ops_for es)
  unmoved ops_for (Pass id line ∷ es) = ap (λ (r : List PlainEvent). Pass id line ∷ r) (unmoved ops_for es)

  pub moved_stays : map (with_ops_for (λ parents ops. [])) new ≡ map (with_ops_for (λ parents ops. [])) events
  moved_stays = ap (map (with_ops_for (λ parents ops. []))) (sym is_moved) ∙ unmoved (moved_ops f events) events

  pub no_other_count : length new ≡ length events
  no_other_count = ap length (sym is_moved) ∙ length-map events (moved_event f events)

  pub no_other_id : (id : AnyId) → has_id new id ≡ has_id events id
  no_other_id id = ap (λ (es : List PlainEvent). has_id es id) (sym is_moved) ∙ ids_same (moved_ops f events) events id

  pub no_other_mark : (mark : ℕ) → is_marked new mark ≡ is_marked events mark
  no_other_mark mark = ap (λ (es : List PlainEvent). is_marked es mark) (sym is_moved) ∙ marks_same (moved_ops f events) mark events

  pub no_other_alias : alias_count new ≡ alias_count events
  no_other_alias = ap alias_count (sym is_moved) ∙ aliases_same (moved_ops f events) events

  pub still_below : (next : ℕ) → AreIdsBelow next events → AreIdsBelow next new
  still_below next below id there = below id (sym (has_id_find events id) ∙ sym (no_other_id id) ∙ has_id_find new id ∙ there)

  module _ (keeps : KeepsPaths f) (h : IsSound events) where
    was_there : (c : ℕ) → IsCommitOf new c → IsCommitOf events c
    was_there c there =
        sym (ids_same (moved_ops f events) events (any.Commit c))
        ∙ ap (λ (es : List PlainEvent). has_id es (any.Commit c)) is_moved ∙ there

    pub new_trees : (c : ℕ) → IsCommitOf new c → tree new c ≡ option_map (image f) (tree events c)
    new_trees c there =
        ap (λ (es : List PlainEvent). tree es c) (sym is_moved) ∙ moved_trees f keeps events h calm c (was_there c there)

    shown_option : (o : Option Tree) → option_map (map_tree (shown (moved_events f events))) (option_map (image f) o) ≡ option_map (image f) (option_map (map_tree (shown events)) o)
    shown_option None = refl
    shown_option (Some t) = ap Some (shown_same (moved_ops f events) events (image f t) ∙ image_mapped f (shown events) t)

    pub new_shown : (c : ℕ) → IsCommitOf new c → shown_tree new c ≡ option_map (image f) (shown_tree events c)
    new_shown c there =
        ap (λ (es : List PlainEvent). shown_tree es c) (sym is_moved)
        ∙ ap (option_map (map_tree (shown (moved_events f events)))) (moved_trees f keeps events h calm c (was_there c there))
        ∙ shown_option (tree events c)

    pub new_sound : IsSound new
    new_sound = subst (λ (es : List PlainEvent). IsSound es) is_moved (moved_sound f keeps events h calm)

-- ---- the limit

module _ (f : Bytes → Bytes) (events : List PlainEvent) where
  many_parents : (es : List PlainEvent) → AllByRecursion HasFewParents es → list_any (λ e. nat_lt MAX_PARENTS (length (event_parents e))) es ≡ false
  many_parents [] a = refl
  many_parents (e ∷ es) a = λ i. not_many MAX_PARENTS (length (event_parents e)) a.0 i || many_parents es a.1 i

  abbrev answer : Bool → Bool → Bool → Bool → Result (List PlainEvent) Fault
  answer a b c d = unless_fault (if a then Some (fault.Limit limit.Events MAX_EVENTS)
      else if b then Some (fault.Limit limit.Operations MAX_OPERATIONS)
      else if c then Some (fault.Limit limit.Parents MAX_PARENTS)
      else if d then Some (fault.Limit limit.Aliases MAX_ALIASES)
      else None) (Ok (moved_events f events))

  -- nothing but operations can be too many
  pub operations_alone : IsSound events → length events ≤ MAX_EVENTS → alias_count events ≤ MAX_ALIASES → first_of f events events ≡ None
      → paths_moved f events ≡ (if nat_lt MAX_OPERATIONS (length (ops_along (nodes (moved_events f events)))) then Err (fault.Limit limit.Operations MAX_OPERATIONS) else Ok (moved_events f events))
  operations_alone h small some calm =
      ap (λ (o : Option Fault). unless_fault o (unless_fault (limit_fault (moved_events f events)) (Ok (moved_events f events)))) calm
      ∙ go (nat_lt MAX_EVENTS (length (moved_events f events))) few_events
      (nat_lt MAX_OPERATIONS (length (ops_along (nodes (moved_events f events)))))
      (list_any (λ e. nat_lt MAX_PARENTS (length (event_parents e))) (moved_events f events)) few_parents
      (nat_lt MAX_ALIASES (alias_count (moved_events f events))) few_aliases
    where
      few_events : nat_lt MAX_EVENTS (length (moved_events f events)) ≡ false
      few_events = ap (nat_lt MAX_EVENTS) (length-map events (moved_event f events)) ∙ not_many MAX_EVENTS (length events) small

      few_parents : list_any (λ e. nat_lt MAX_PARENTS (length (event_parents e))) (moved_events f events) ≡ false
      few_parents = many_parents (moved_events f events) (all_few (moved_ops f events) events (in_parts events h).few)

      few_aliases : nat_lt MAX_ALIASES (alias_count (moved_events f events)) ≡ false
      few_aliases = ap (nat_lt MAX_ALIASES) (aliases_same (moved_ops f events) events) ∙ not_many MAX_ALIASES (alias_count events) some

      go : (a : Bool) → a ≡ false → (b c : Bool) → c ≡ false → (d : Bool) → d ≡ false →
          answer a b c d ≡ (if b then Err (fault.Limit limit.Operations MAX_OPERATIONS) else Ok (moved_events f events))
      go a x b c y d z = (λ i. answer (x i) b (y i) (z i)) ∙ by b
        where
          by : (b : Bool) → answer false b false false ≡ (if b then Err (fault.Limit limit.Operations MAX_OPERATIONS) else Ok (moved_events f events))
          by true = refl
          by false = refl
