-- One command: of each event that is there after it, what is known of the one that it was.
use Rattle.std.proofs.Common.{◌≡◌, ℕ, true, List, [], ◌∷◌, ◌⊎◌, inl, inr, map, refl, sym, ap, subst}
use Rattle.std.specs.List.{AllByRecursion}
use Rattle.plain_model.specs.declared.event.PlainEvent.{PlainEvent}
use Rattle.plain_model.specs.declared.id.AnyId.{AnyId}
use Rattle.plain_model.specs.Lookups.{id_number, next_number}
use Rattle.plain_model.specs.Paths.{Bytes}
use Rattle.plain_model.specs.Snapshots.{shown_tree}
use Rattle.plain_model.specs.Soundness.{has_id}
use Rattle.graft_laws.specs.Sources.{IsFromOne}
use Rattle.graft_laws.specs.Unite.{Part}
use Rattle.graft_laws.proofs.Latest.{all_by_age}
use Rattle.history_laws.proofs.Ids.{below_next}
use Rattle.history_laws.proofs.Lists.{all_imply}
use Rattle.history_machine.specs.Joined.{Grafts, Unites}
use Rattle.history_machine.specs.Lawful.{IsLawful}
use Rattle.history_machine.specs.Sessions.{Repo, Session}
use Rattle.history_machine.specs.Several.{as_part}
use Rattle.history_machine.proofs.Steps.{own_name}
use Rattle.kept_steps.specs.Changing.{Alone, Changes, Remains}
use Rattle.kept_steps.specs.Changing.Alone.{each_left, none_changes, one_comes, one_goes}
use Rattle.kept_steps.specs.Following.{Joins, event_behind, event_grafted}
use Rattle.kept_steps.specs.Following.Joins.{nothing, takes_in, unites}
use Rattle.kept_steps.specs.Origins.{KeepsOrigins, Origin, Origins, origins_after, themselves}
use Rattle.kept_steps.proofs.Events.{IsOne, PartKept, each_one, kept_behind, one_moved, one_of, own_number}
use Rattle.kept_steps.proofs.LoadLists.{IsFound, found_before, found_each, found_last, parts_found}
use Rattle.kept_steps.proofs.Sources.{chosen_here, event, found_grafted, found_united, graft_chosen, graft_other, itself_at, new_self, old_lawful, old_same, part_name, there_same, unite_old, united_event}

-- ---- trees

-- all that is loaded is kept
abbrev pub AllKept : Origins → List Repo → Type 0
AllKept origins_of repos = (n : Bytes) (r : Repo) → IsFound repos n r → KeepsOrigins (λ number. origins_of (event n number)) r.history

-- by events that are the same
kept_same : (o p : ℕ → Origin) (history : List PlainEvent) → ((id : AnyId) → has_id history id ≡ true → p (id_number id) ≡ o (id_number id)) → KeepsOrigins o history → KeepsOrigins p history
kept_same o p history same k = each_one p history (λ id there. subst (IsOne history id) (sym (same id there)) (one_of o history k id there))

-- an event of what has just come is itself
own_one : (r : Repo) (id : AnyId) → has_id r.history id ≡ true → IsOne r.history id (record { came = r; number = id_number id })
own_one r id there = record {
  there = subst (λ (i : AnyId). has_id r.history i ≡ true) (sym (own_number id)) there;
  tree = λ c is. ap (shown_tree r.history) (sym (ap id_number is));
}

all_mapped : (P : Part → Type 0) (repos : List Repo) → AllByRecursion (λ r. P (as_part r)) repos → AllByRecursion P (map as_part repos)
all_mapped P [] h = tt
all_mapped P (r ∷ repos) h = (h.0, all_mapped P repos h.1)

remains_name : (old new : Repo) → Remains old new → new.name ≡ old.name
remains_name old new k = k.name

module _ (so_far : Origins) (s after : Session) (lawful : IsLawful s) where
  -- an event so far, and after the command
  abbrev was : Bytes → ℕ → Origin
  was n k = so_far (event n k)

  abbrev now : Joins → Bytes → ℕ → Origin
  now how n k = origins_after so_far s how after (event n k)

  -- ---- nothing is joined

  old_kept : (n : Bytes) (r : Repo) → IsFound s.repos n r → KeepsOrigins (was n) r.history → KeepsOrigins (now nothing n) r.history
  old_kept n r here k = kept_same (was n) (now nothing n) r.history (λ id there. old_same so_far s after n r here (id_number id)) k

  alone_trees : Alone Remains s.repos after.repos → AllKept so_far s.repos → AllKept (origins_after so_far s nothing after) after.repos
  alone_trees (one_comes new free is) kept n r here =
      elim (found_last n new r s.repos (subst (λ (repos : List Repo). IsFound repos n r) is here)) [
        | inl old ↦ old_kept n r old (kept n r old)
        | inr come ↦
            each_one (now nothing n) r.history (λ id there. subst (IsOne r.history id) (sym (new_self so_far s after n r come.0 here (id_number id))) (own_one r id there))
      ]
  alone_trees (one_goes name is) kept n r here =
      let old = found_before n name r s.repos lawful.names.apart (subst (λ (repos : List Repo). IsFound repos n r) is here) in
      old_kept n r old (kept n r old)
  alone_trees (each_left each) kept n r here =
      let old = found_each Remains remains_name n r s.repos after.repos each here in
      let left = old.2 in
      each_one (now nothing n) r.history (λ id there.
      subst (IsOne r.history id) (sym (old_same so_far s after n old.0 old.1 (id_number id)))
      (one_moved old.0.history r.history id (was n (id_number id)) (λ c is. left.trees c (subst (λ (i : AnyId). has_id r.history i ≡ true) is there))
      (one_of (was n) old.0.history (kept n old.0 old.1) id (left.ids id there))))
  alone_trees (none_changes is) kept n r here =
      let old = subst (λ (repos : List Repo). IsFound repos n r) is here in
      old_kept n r old (kept n r old)

  -- ---- another is taken in

  module _ (name : Bytes) (g : Grafts true name s after) where
    graft_trees : AllKept so_far s.repos → AllKept (origins_after so_far s (takes_in name) after) after.repos
    graft_trees kept n r here =
        elim (found_grafted s after lawful name g n r here) [
          | inl new ↦
              subst (λ (q : Repo). KeepsOrigins (now (takes_in name) n) q.history) (sym new.1)
              (kept_same (λ k. so_far (event_grafted g.old g.part k)) (now (takes_in name) n) g.new.history
              (λ id there. graft_chosen so_far s name after g.old g.part g.is_chosen g.is_part n (id_number id) new.0) all_kept)
          | inr other ↦
              kept_same (was n) (now (takes_in name) n) r.history
              (λ id there. graft_other so_far s name after g.old g.part g.is_chosen g.is_part n (id_number id) other.0) (kept n r other.1)
        ]
      where
        came : (id : AnyId) → has_id g.new.history id ≡ true → (has_id g.old.history id ≡ true) ⊎ IsFromOne (as_part g.part ∷ []) g.old.next id
        came id there = elim (g.came id there) [ inl old ↦ inl old | inr from ↦ inr (inl from) ]

        all_kept : KeepsOrigins (λ k. so_far (event_grafted g.old g.part k)) g.new.history
        all_kept =
            kept_behind g.new.history so_far g.old.name g.old.history g.old.next (as_part g.part ∷ []) (old_lawful s after lawful name g).spent came g.base.shown (g.pruned refl, tt)
            (kept g.old.name g.old (chosen_here s after lawful name g)) (subst (λ (m : Bytes). KeepsOrigins (was m) g.part.history) (part_name s after lawful name g) (kept name g.part g.is_part), tt)

  -- ---- several become one

  module _ (names : List Bytes) (u : Unites true names s after) where
    unite_trees : AllKept so_far s.repos → AllKept (origins_after so_far s (unites names) after) after.repos
    unite_trees kept n r here =
        elim (found_united s after lawful names u n r here) [
          | inl old ↦ kept_same (was n) (now (unites names) n) r.history (λ id there. unite_old so_far s names after n r (id_number id) old) (kept n r old)
          | inr new ↦
              subst (λ (q : Repo). KeepsOrigins (now (unites names) n) q.history) (sym new.1)
              (kept_same (λ k. so_far (event_behind u.base.name (next_number u.base.events) u.others k)) (now (unites names) n) u.new.history
              (λ id there. united_event s after lawful names u so_far n (id_number id) new.0) all_kept)
        ]
      where
        of_found : (r : Repo) → (name : Bytes) × IsFound s.repos name r → PartKept u.new.history so_far (as_part r)
        of_found r h = subst (λ (m : Bytes). KeepsOrigins (was m) r.history) (own_name h.0 s.repos r h.1) (kept h.0 r h.1)

        parts_kept : AllByRecursion (PartKept u.new.history so_far) (u.base ∷ u.others)
        parts_kept =
            subst (AllByRecursion (PartKept u.new.history so_far)) u.order
            (all_by_age (λ (part : Part). part.events) (PartKept u.new.history so_far) (map as_part u.parts)
            (all_mapped (PartKept u.new.history so_far) u.parts
            (all_imply (λ r. (name : Bytes) × IsFound s.repos name r) (λ r. PartKept u.new.history so_far (as_part r)) of_found u.parts (parts_found names s.repos u.parts u.are_parts))))

        all_kept : KeepsOrigins (λ k. so_far (event_behind u.base.name (next_number u.base.events) u.others k)) u.new.history
        all_kept =
            kept_behind u.new.history so_far u.base.name u.base.events (next_number u.base.events) u.others (below_next u.base.events) u.came (λ c there. (u.kept c there).shown) (u.all_pruned refl)
            parts_kept.0 parts_kept.1

  -- ---- a command that is done, and one that is refused

  pub trees_after : (how : Joins) → Changes Remains s how after → AllKept so_far s.repos → AllKept (origins_after so_far s how after) after.repos
  trees_after nothing change kept = alone_trees change kept
  trees_after (takes_in name) g kept = graft_trees name g kept
  trees_after (unites names) u kept = unite_trees names u kept

  pub trees_refused : (how : Joins) → AllKept so_far s.repos → AllKept (origins_after so_far s how after) s.repos
  trees_refused how kept n r here = kept_same (was n) (now how n) r.history (there_same so_far s how after lawful n r here) (kept n r here)

-- ---- what is loaded at first

pub itself_kept : (repos : List Repo) → AllKept (themselves repos) repos
itself_kept repos n r here = each_one (λ k. themselves repos (event n k)) r.history (λ id there. subst (IsOne r.history id) (sym (itself_at repos n r here (id_number id))) (own_one r id there))
