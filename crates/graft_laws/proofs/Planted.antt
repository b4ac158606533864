-- One part behind a list: the list keeps its trees, and where roots begin without files each commit of the part has its own.
use Rattle.std.proofs.Common.{◌≡◌, ℕ, ◌+◌, true, false, cond, List, [], ◌∷◌, ◌++◌, map, refl, sym, ap, subst, ◌∙◌, inl, inr, arith, true≢false, Option, Some, None, reverse}
use Rattle.std.specs.Prelude.{◌==◌, IsSome, option_map}
use Rattle.std.proofs.lemmas.Bool.{cases_Bool, or_cases}
use Rattle.plain_model.specs.declared.id.AnyId.TheVariants as any
use Rattle.plain_model.specs.declared.operation.Entry.{Entry}
use Rattle.plain_model.specs.declared.event.PlainEvent.{PlainEvent}
use Rattle.plain_model.specs.declared.event.PlainEvent.TheVariants.{Blob, Commit, Tag, Reset, Pass}
use Rattle.plain_model.specs.Histories.{Node, Past, past, tree, tree_in}
use Rattle.plain_model.specs.Lookups.{AreIdsBelow}
use Rattle.plain_model.specs.Snapshots.{Shown, blob_bytes, map_tree, shown, shown_tree}
use Rattle.plain_model.specs.Snapshots.ShownContent.{ShownBytes}
use Rattle.plain_model.specs.Soundness.{IsCommitOf, has_id}
use Rattle.plain_model.specs.Trees.{TreeOf}
use Rattle.history_laws.proofs.Ids.{has_id_append, has_id_after}
use Rattle.edit_laws.proofs.Fine.{There}
use Rattle.shown_laws.proofs.Places.{blob_place, bytes_under, commit_under}
use Rattle.shown_laws.proofs.Sound.{CameFrom, came_from}
use Rattle.shown_laws.specs.AsWritten.{renamed_from}
use Rattle.graft_laws.specs.Joined.{IsLinked}
use Rattle.graft_laws.specs.Joining.{Joining, added, joined_event, new_number, without_passes}
use Rattle.graft_laws.proofs.Behind.{HaveParents, agrees, complete}
use Rattle.graft_laws.proofs.Events.{has_joined, new_from, placed_new}
use Rattle.graft_laws.proofs.Fresh.{absent, placed_within}
use Rattle.graft_laws.proofs.Passes.{linked_without, same_bytes, same_nodes, still_there}
use Rattle.graft_laws.proofs.SeenTrees.{all_alike, bytes_after, shown_before, tree_before}

-- a tree that is there is one that is seen
some_seen : (f : Entry → Shown) (o : Option (TreeOf Entry)) → IsSome o → IsSome (option_map (map_tree f) o)
some_seen f None h = h
some_seen f (Some t) h = refl

seen_some : (f : Entry → Shown) (o : Option (TreeOf Entry)) → IsSome (option_map (map_tree f) o) → IsSome o
seen_some f None h = h
seen_some f (Some t) h = refl

bytes_joined : (how : Joining) (es : List PlainEvent) (b : ℕ) → blob_bytes (map (joined_event how) es) b ≡ blob_bytes es b
bytes_joined how [] b = refl
bytes_joined how (Blob id mark bytes ∷ es) b = ap (λ (rest : List ℕ). cond (id == b) bytes rest) (bytes_joined how es b)
bytes_joined how (Commit id mark branch author committer encoding comment [] ops aliases ∷ es) b = bytes_joined how es b
bytes_joined how (Commit id mark branch author committer encoding comment (p ∷ ps) ops aliases ∷ es) b = bytes_joined how es b
bytes_joined how (Tag id name target tagger comment mark ∷ es) b = bytes_joined how es b
bytes_joined how (Reset id branch target ∷ es) b = bytes_joined how es b
bytes_joined how (Pass id line ∷ es) b = bytes_joined how es b

module _ (how : Joining) (first : ℕ) (front part : List PlainEvent) (low : AreIdsBelow first front) (linked : IsLinked part) where
  abbrev kept : List PlainEvent
  kept = without_passes part

  abbrev blob : ℕ → ℕ
  blob b = new_number first kept (any.Blob b)

  abbrev commit : ℕ → ℕ
  commit c = new_number first kept (any.Commit c)

  abbrev whole : List PlainEvent
  whole = front ++ added how first part

  abbrev new_ones : List PlainEvent
  new_ones = new_from how blob commit first kept

  -- a commit of the list isn't among the new ones
  not_new : (c : ℕ) → IsCommitOf front c → has_id new_ones (any.Commit c) ≡ false
  not_new c h =
      elim (cases_Bool (has_id new_ones (any.Commit c))) [
        | inl there ↦
            let within = placed_within first new_ones (placed_new how blob commit first kept) (any.Commit c) there in
            absurd (true≢false (sym h ∙ absent first front low (any.Commit c) within.0))
        | inr it ↦ it
      ]

  pub front_tree : (c : ℕ) → IsCommitOf front c → tree whole c ≡ tree front c
  front_tree c h = tree_before front new_ones c (not_new c h)

  pub front_shown : IsLinked front → (c : ℕ) → IsCommitOf front c → shown_tree whole c ≡ shown_tree front c
  front_shown fronted c h = shown_before front new_ones c fronted.in_order (not_new c h)

  here : (c : ℕ) → IsCommitOf part c → IsCommitOf kept c
  here c h = still_there part (any.Commit c) tt ∙ h

  pub part_there : (c : ℕ) → IsCommitOf part c → IsCommitOf whole (commit c)
  part_there c h =
      has_id_after front new_ones (any.Commit (commit c))
      (has_joined how (renamed_from blob commit first kept) (any.Commit (commit c)) ∙ commit_under blob commit first c kept (agrees how first front part low linked) (here c h))

  same_blob : (b : ℕ) → There kept (any.Blob b) → blob_bytes whole (blob b) ≡ blob_bytes part b
  same_blob b h =
      let agree = agrees how first front part low linked in
      let place = blob_place blob commit first b kept agree h in
      bytes_after front new_ones (blob b) (absent first front low (any.Blob (blob b)) place.0)
      ∙ bytes_joined how (renamed_from blob commit first kept) (blob b)
      ∙ bytes_under blob commit first b kept agree h
      ∙ same_bytes part b

  same_past : past kept ≡ past part
  same_past = ap (λ (l : List Node). reverse l) (same_nodes part)

  module _ (prunes : how.prune ≡ true) (parents_are : HaveParents how front) (planted : (c : ℕ) → IsCommitOf front c → IsSome (tree front c)) where
    pub part_shown : (c : ℕ) → IsCommitOf part c → shown_tree whole (commit c) ≡ shown_tree part c
    part_shown c h =
        all_alike how blob commit first front kept (shown part) (shown whole) prunes low parents_are
        (λ d k. some_seen (shown whole) (tree front d) (planted d k))
        (λ mode b k. ap (λ (bytes : List ℕ). record { mode = mode; content = ShownBytes bytes }) (same_blob b k))
        (λ mode digits. refl)
        [] kept first (let is : first ≡ first + 0 = omega arith in is)
        (agrees how first front part low linked) (agrees how first front part low linked) (linked_without part linked).in_order (complete [] kept (linked_without part linked).in_order)
        (λ d k. absurd (true≢false (sym k))) c (here c h)
        ∙ ap (λ (l : Past). option_map (map_tree (shown part)) (tree_in l c)) same_past

    pub trees_there : ((c : ℕ) → IsCommitOf part c → IsSome (tree part c)) → (c : ℕ) → IsCommitOf whole c → IsSome (tree whole c)
    trees_there has c h =
        elim (or_cases (has_id front (any.Commit c)) (has_id new_ones (any.Commit c)) (sym (has_id_append front new_ones (any.Commit c)) ∙ h)) [
          | inl old ↦ subst IsSome (sym (front_tree c old)) (planted c old)
          | inr new ↦
              let from : CameFrom blob commit kept c =
              came_from blob commit first c kept (agrees how first front part low linked) (sym (has_joined how (renamed_from blob commit first kept) (any.Commit c)) ∙ new) in
              let was : IsCommitOf part from.commit_id = sym (still_there part (any.Commit from.commit_id) tt) ∙ from.was in
              let some : IsSome (shown_tree whole (commit from.commit_id)) =
              subst IsSome (sym (part_shown from.commit_id was)) (some_seen (shown part) (tree part from.commit_id) (has from.commit_id was)) in
              subst (λ d. IsSome (tree whole d)) from.is (seen_some (shown whole) (tree whole (commit from.commit_id)) some)
        ]
