-- A graft that is done.
use Rattle.std.proofs.Common.{◌≡◌, ℕ, ◌+◌, ◌≤◌, Bool, true, false, List, [], ◌∷◌, ◌++◌, length, take, refl, sym, ap, subst, ◌∙◌, arith, None, Ok}
use Rattle.std.specs.Prelude.{IsSome, IsTrue}
use Rattle.std.specs.List.{AllByRecursion}
use Rattle.std.specs.Option.{option_or}
use Rattle.plain_model.specs.declared.id.AnyId.{AnyId}
use Rattle.plain_model.specs.declared.id.AnyId.TheVariants as any
use Rattle.plain_model.specs.declared.event.PlainEvent.{PlainEvent}
use Rattle.plain_model.specs.declared.event.PlainEvent.TheVariants.{Blob, Commit, Tag, Reset, Pass}
use Rattle.plain_model.specs.Histories.{IsLinkedPast, past, tree}
use Rattle.plain_model.specs.Lookups.{AreIdsBelow, event_marks, greatest_mark}
use Rattle.plain_model.specs.Paths.{Bytes}
use Rattle.plain_model.specs.Snapshots.{shown_tree}
use Rattle.plain_model.specs.Soundness.{IsCommitOf, IsSound, has_id}
use Rattle.plain_model.specs.Streams.{is_marked}
use Rattle.edit_laws.proofs.Checked.{none_of_both}
use Rattle.edit_laws.proofs.Lists.{all_rear}
use Rattle.edit_laws.proofs.Sound.{in_parts}
use Rattle.edit_laws.proofs.Trees.{linked_in_order}
use Rattle.history_laws.proofs.GreatestMarks.{above_is_new}
use Rattle.history_laws.proofs.Ids.{has_id_still}
use Rattle.edit_laws.specs.Selecting.{IsSelection}
use Rattle.renumbering.specs.Renumbered.{marked_from, renumbered_from}
use Rattle.graft_laws.specs.Faults.{fault_after, long_name_fault, marks_fault, name_fault, tree_fault_unless}
use Rattle.graft_laws.specs.Graft.{graft_fault, graft_of, grafted, grafting}
use Rattle.graft_laws.specs.Joined.{AreNameBytes, BeginsWith, HasTreesOf, IsLinked}
use Rattle.graft_laws.specs.Joining.{added, new_names, new_number, without_passes}
use Rattle.graft_laws.specs.Names.{is_used}
use Rattle.graft_laws.proofs.Behind.{HaveParents, linked_added, low_added, sound_linked}
use Rattle.graft_laws.proofs.Checked.{IsFine, fine, marks_suffice, no_fault, trees_checked}
use Rattle.graft_laws.proofs.Fresh.{all_below, below}
use Rattle.graft_laws.proofs.Labels.{HasShortName, short_names}
use Rattle.graft_laws.proofs.Marked.{commit_marked, marked_once, marked_order, marked_sound, shown_marked, tree_marked}
use Rattle.graft_laws.proofs.Planted.{front_shown, front_tree, part_shown, part_there, trees_there}

-- events under other marks have the same names
short_event : (n : ℕ) (e : PlainEvent) → HasShortName (marked_from n e) → HasShortName e
short_event n (Blob id mark bytes) h = h
short_event n (Commit id mark branch author committer encoding comment parents ops aliases) h = h
short_event n (Tag id name target tagger comment mark) h = h
short_event n (Reset id branch target) h = h
short_event n (Pass id line) h = h

pub short_unmarked : (n : ℕ) (es : List PlainEvent) → AllByRecursion HasShortName (renumbered_from n es) → AllByRecursion HasShortName es
short_unmarked n [] h = tt
short_unmarked n (e ∷ es) h = (short_event n e h.0, short_unmarked (n + length (event_marks e)) es h.1)

front_of : (xs ys : List PlainEvent) → take (length xs) (xs ++ ys) ≡ xs
front_of [] ys = refl
front_of (x ∷ xs) ys = ap (λ (l : List PlainEvent). x ∷ l) (front_of xs ys)

-- ---- what was done

pub record IsDone (prune : Bool) (next : ℕ) (name : Bytes) (part : List PlainEvent) (set : List AnyId) (base new : List PlainEvent) : Type 0 where
  pub target : ℕ
  pub set_is : set ≡ any.Commit target ∷ []
  pub free : name_fault (is_used base) (new_names (grafting prune name target) part) ≡ None
  pub enough : marks_fault base (added (grafting prune name target) next part) ≡ None
  pub passes : IsFine prune (grafted prune next name part target base)
  pub is : grafted prune next name part target base ≡ new

pub done : (prune : Bool) (next : ℕ) (name : Bytes) (part : List PlainEvent) (set : List AnyId) (base new : List PlainEvent) → graft_of prune next name part set base ≡ Ok new → IsDone prune next name part set base new
done prune next name part [] base new h = absurd cc
done prune next name part (any.Commit c ∷ []) base new h =
    let how = grafting prune name c in
    let parts = no_fault (graft_fault prune next name part c base) (grafted prune next name part c base) new h in
    let one = none_of_both (name_fault (is_used base) (new_names how part)) (option_or (marks_fault base (added how next part)) (fault_after prune (grafted prune next name part c base))) parts.0 in
    let two = none_of_both (marks_fault base (added how next part)) (fault_after prune (grafted prune next name part c base)) one.1 in
    record { target = c; set_is = refl; free = one.0; enough = two.0; passes = fine prune (grafted prune next name part c base) two.1; is = parts.1 }
done prune next name part (any.Blob b ∷ []) base new h = absurd cc
done prune next name part (any.Tag t ∷ []) base new h = absurd cc
done prune next name part (any.Reset r ∷ []) base new h = absurd cc
done prune next name part (any.Pass p ∷ []) base new h = absurd cc
done prune next name part (id ∷ other ∷ set) base new h = absurd cc

-- the commit is there
pub target_there : (base : List PlainEvent) (set : List AnyId) (c : ℕ) → IsSelection base set → set ≡ any.Commit c ∷ [] → IsCommitOf base c
target_there base set c s is = (subst (AllByRecursion (λ id. IsTrue (has_id base id))) is s.there).0

module _ (prune : Bool) (next : ℕ) (name : Bytes) (part base : List PlainEvent) (c : ℕ) (sound : IsSound base) (part_sound : IsSound part) (low : AreIdsBelow next base) (there : IsCommitOf base c) where
  abbrev n : ℕ
  n = greatest_mark base + 1

  abbrev new_ones : List PlainEvent
  new_ones = added (grafting prune name c) next part

  abbrev unmarked : List PlainEvent
  unmarked = base ++ new_ones

  abbrev new : List PlainEvent
  new = grafted prune next name part c base

  parents_are : HaveParents (grafting prune name c) base
  parents_are seconds = ((there, tt), refl, omega arith)

  abbrev its_linked : IsLinked part
  its_linked = sound_linked part part_sound

  new_mark : (m : ℕ) → n ≤ m → is_marked base m ≡ false
  new_mark m high = above_is_new base m (omega arith)

  linked : AreNameBytes name → long_name_fault new ≡ None → IsLinked unmarked
  linked bytes short =
      linked_added (grafting prune name c) next base part low its_linked bytes parents_are (sound_linked base sound)
      (short_unmarked n new_ones (all_rear HasShortName base (renumbered_from n new_ones) (short_names new short)))

  old_tree : (d : ℕ) → IsCommitOf base d → tree new d ≡ tree base d
  old_tree d h = tree_marked n base new_ones d ∙ front_tree (grafting prune name c) next base part low its_linked d h

  old_shown : (d : ℕ) → IsCommitOf base d → shown_tree new d ≡ shown_tree base d
  old_shown d h = shown_marked n base new_ones d ∙ front_shown (grafting prune name c) next base part low its_linked (sound_linked base sound) d h

  has_trees : (p : Bool) → prune ≡ p → AreNameBytes name → IsFine prune new → (d : ℕ) → IsCommitOf new d → IsSome (tree new d)
  has_trees true is bytes f d h =
      subst IsSome (sym (tree_marked n base new_ones d))
      (trees_there (grafting prune name c) next base part low its_linked is parents_are sound.trees part_sound.trees d (sym (commit_marked n base new_ones (any.Commit d)) ∙ h))
  has_trees false is bytes f d h =
      let all = linked bytes f.names in
      trees_checked new (marked_once n base new_ones all (in_parts base sound).once.marks new_mark) (marked_order n base new_ones all) (subst (λ b. tree_fault_unless b new ≡ None) is f.trees) d h

  -- parents come first, where no name is too long
  pub parents_first : AreNameBytes name → long_name_fault new ≡ None → IsLinkedPast (past new)
  parents_first bytes short =
      let all = linked bytes short in
      linked_in_order new (marked_once n base new_ones all (in_parts base sound).once.marks new_mark) (marked_order n base new_ones all)

  pub graft_sound : AreNameBytes name → marks_fault base new_ones ≡ None → IsFine prune new → IsSound new
  graft_sound bytes enough f =
      let few = marks_suffice base new_ones enough in
      marked_sound n base new_ones (linked bytes f.names) (in_parts base sound).once.marks new_mark (omega arith) (omega arith) (has_trees prune refl bytes f)

  pub begins : BeginsWith base new
  begins = record {
    front = front_of base (renumbered_from n new_ones);
    commits = λ d h. has_id_still base (renumbered_from n new_ones) (any.Commit d) h;
    trees = old_tree;
    shown = old_shown;
  }

  pub keeps_part : prune ≡ true → HasTreesOf part next new
  keeps_part is d h = (
    commit_marked n base new_ones (any.Commit (new_number next (without_passes part) (any.Commit d))) ∙ part_there (grafting prune name c) next base part low its_linked d h,
    shown_marked n base new_ones (new_number next (without_passes part) (any.Commit d)) ∙ part_shown (grafting prune name c) next base part low its_linked is parents_are sound.trees d h,
  )

-- ids are below the next one
pub low_new : (prune : Bool) (next : ℕ) (name : Bytes) (part : List PlainEvent) (set : List AnyId) (base new : List PlainEvent) → IsSound part → AreIdsBelow next base → graft_of prune next name part set base ≡ Ok new
    → AreIdsBelow (next + length (without_passes part)) new
low_new prune next name part set base new part_sound low h =
    let d = done prune next name part set base new h in
    let how = grafting prune name d.target in
    subst (AreIdsBelow (next + length (without_passes part))) d.is
    (all_below (next + length (without_passes part)) (grafted prune next name part d.target base)
    (λ id there. below (next + length (without_passes part)) (base ++ added how next part) (low_added how next base part low (sound_linked part part_sound)) id
    (sym (commit_marked (greatest_mark base + 1) base (added how next part) id) ∙ there)))
