-- Parts that are put one behind another, and a `unite` that is done.
use Rattle.std.proofs.Common.{◌≡◌, ℕ, ◌+◌, ◌≤◌, Bool, true, false, List, [], ◌∷◌, ◌++◌, length, refl, sym, ap, subst, ◌∙◌, arith, append_assoc, append-nil, length-append, Option, Some, None, Result, Ok, Err}
use Rattle.std.specs.Prelude.{IsSome, map, take}
use Rattle.std.specs.List.{AllByRecursion}
use Rattle.plain_model.specs.declared.fault.Fault.{Fault}
use Rattle.plain_model.specs.declared.id.AnyId.TheVariants as any
use Rattle.plain_model.specs.declared.event.PlainEvent.{PlainEvent}
use Rattle.plain_model.specs.declared.event.PlainEvent.TheVariants.{Blob, Commit, Tag, Reset, Pass}
use Rattle.plain_model.specs.declared.limit.TheConstants.{MAX_MARK}
use Rattle.plain_model.specs.Histories.{IsLinkedPast, past, tree}
use Rattle.plain_model.specs.Lookups.{alias_count, event_marks, marks_of, next_number, own_marks}
use Rattle.plain_model.specs.Snapshots.{shown_tree}
use Rattle.plain_model.specs.Soundness.{IsCommitOf, IsSound}
use Rattle.edit_laws.proofs.Limits.{limits_hold}
use Rattle.edit_laws.proofs.Lists.{all_front, all_rear}
use Rattle.edit_laws.proofs.Trees.{linked_in_order}
use Rattle.history_laws.proofs.Ids.{has_id_still, below_next}
use Rattle.renumbering.specs.Renumbered.{all_marked, marked_from, renumbered, renumbered_from}
use Rattle.renumbering.proofs.Kept.{length_same, others_same}
use Rattle.renumbering.proofs.Marks.{length_from, length_own}
use Rattle.graft_laws.specs.Faults.{fault_after, long_name_fault, tree_fault_unless}
use Rattle.graft_laws.specs.Joined.{HasTreesOf, IsLinked, IsPart, StaysIn}
use Rattle.graft_laws.specs.Joining.{added, new_number, without_passes}
use Rattle.graft_laws.specs.Unite.{Part, by_age, numbered_anew, part_fault, unite_by_age, unite_of, uniting, with_part, with_parts}
use Rattle.graft_laws.proofs.Behind.{HaveParents, linked_added, sound_linked}
use Rattle.graft_laws.proofs.Checked.{IsFine, fine, no_fault, trees_checked}
use Rattle.graft_laws.proofs.GraftDone.{short_unmarked}
use Rattle.graft_laws.proofs.Labels.{HasShortName, short_names}
use Rattle.graft_laws.proofs.Latest.{all_by_age, as_many, latest_there}
use Rattle.graft_laws.proofs.Marked.{commit_marked, marked_once, marked_order, marked_sound, shown_marked, tree_marked}
use Rattle.graft_laws.proofs.Planted.{front_shown, front_tree, part_shown, part_there, trees_there}

parents_are : (prune : Bool) (events : List PlainEvent) (part : Part) → HaveParents (uniting prune events part.name) events
parents_are prune events part seconds = latest_there events seconds

-- ---- one part more

module _ (prune : Bool) (events : List PlainEvent) (part : Part) (good : IsPart part) where
  abbrev its_linked : IsLinked part.events
  its_linked = sound_linked part.events good.sound

  pub linked_more : IsLinked events → AllByRecursion HasShortName (with_part prune events part) → IsLinked (with_part prune events part)
  linked_more h n =
      let how = uniting prune events part.name in
      linked_added how (next_number events) events part.events (below_next events) its_linked good.name (parents_are prune events part) h
      (all_rear HasShortName events (added how (next_number events) part.events) n)

  tree_more : (c : ℕ) → IsCommitOf events c → tree (with_part prune events part) c ≡ tree events c
  tree_more = front_tree (uniting prune events part.name) (next_number events) events part.events (below_next events) its_linked

  shown_more : IsLinked events → (c : ℕ) → IsCommitOf events c → shown_tree (with_part prune events part) c ≡ shown_tree events c
  shown_more = front_shown (uniting prune events part.name) (next_number events) events part.events (below_next events) its_linked

  there_more : (c : ℕ) → IsCommitOf events c → IsCommitOf (with_part prune events part) c
  there_more c h = has_id_still events (added (uniting prune events part.name) (next_number events) part.events) (any.Commit c) h

  pub trees_more : prune ≡ true → ((c : ℕ) → IsCommitOf events c → IsSome (tree events c)) → (c : ℕ) → IsCommitOf (with_part prune events part) c → IsSome (tree (with_part prune events part) c)
  trees_more is has =
      trees_there (uniting prune events part.name) (next_number events) events part.events (below_next events) its_linked is (parents_are prune events part) has good.sound.trees

  part_more : prune ≡ true → ((c : ℕ) → IsCommitOf events c → IsSome (tree events c)) → HasTreesOf part.events (next_number events) (with_part prune events part)
  part_more is has c h = (
    part_there (uniting prune events part.name) (next_number events) events part.events (below_next events) its_linked c h,
    part_shown (uniting prune events part.name) (next_number events) events part.events (below_next events) its_linked is (parents_are prune events part) has c h,
  )

-- ---- all parts

module _ (prune : Bool) where
  -- what is put behind
  extends : (events : List PlainEvent) (parts : List Part) (whole : List PlainEvent) → with_parts prune events parts ≡ Ok whole → (rest : List PlainEvent) × (whole ≡ events ++ rest)
  extends events [] whole h = let is : events ≡ whole = cc in ([], sym is ∙ sym (append-nil events))
  extends events (part ∷ parts) whole h = go (part_fault prune events part) h (extends (with_part prune events part) parts whole)
    where
      go : (o : Option Fault) → ◌≡◌ {A = Result (List PlainEvent) Fault} (elim o [ Some why ↦ Err why | None ↦ with_parts prune (with_part prune events part) parts ]) (Ok whole)
          → (with_parts prune (with_part prune events part) parts ≡ Ok whole → (rest : List PlainEvent) × (whole ≡ with_part prune events part ++ rest)) → (rest : List PlainEvent) × (whole ≡ events ++ rest)
      go (Some why) x f = absurd cc
      go None x f =
          let more = f x in
          let own = added (uniting prune events part.name) (next_number events) part.events in
          (own ++ more.0, more.1 ∙ append_assoc events own more.0)

  -- the further parts
  pub further : (events : List PlainEvent) (part : Part) (parts : List Part) (whole : List PlainEvent) → with_parts prune events (part ∷ parts) ≡ Ok whole → with_parts prune (with_part prune events part) parts ≡ Ok whole
  further events part parts whole h = go (part_fault prune events part) h
    where
      go : (o : Option Fault) → ◌≡◌ {A = Result (List PlainEvent) Fault} (elim o [ Some why ↦ Err why | None ↦ with_parts prune (with_part prune events part) parts ]) (Ok whole)
          → with_parts prune (with_part prune events part) parts ≡ Ok whole
      go (Some why) x = absurd cc
      go None x = x

  -- no new name of a part is taken
  pub unclashed : (events : List PlainEvent) (part : Part) (parts : List Part) (whole : List PlainEvent) → with_parts prune events (part ∷ parts) ≡ Ok whole → part_fault prune events part ≡ None
  unclashed events part parts whole h = go (part_fault prune events part) h
    where
      go : (o : Option Fault) → ◌≡◌ {A = Result (List PlainEvent) Fault} (elim o [ Some why ↦ Err why | None ↦ with_parts prune (with_part prune events part) parts ]) (Ok whole) → o ≡ None
      go (Some why) x = absurd cc
      go None x = refl

  pub short_more : (events : List PlainEvent) (parts : List Part) (whole : List PlainEvent) → with_parts prune events parts ≡ Ok whole → AllByRecursion HasShortName whole → AllByRecursion HasShortName events
  short_more events parts whole h n = let more = extends events parts whole h in all_front HasShortName events more.0 (subst (AllByRecursion HasShortName) more.1 n)

  pub linked_parts : (events : List PlainEvent) (parts : List Part) (whole : List PlainEvent) → with_parts prune events parts ≡ Ok whole → AllByRecursion IsPart parts → AllByRecursion HasShortName whole → IsLinked events → IsLinked whole
  linked_parts events [] whole h good n l = let is : events ≡ whole = cc in subst IsLinked is l
  linked_parts events (part ∷ parts) whole h good n l =
      let later = further events part parts whole h in
      linked_parts (with_part prune events part) parts whole later good.1 n (linked_more prune events part good.0 l (short_more (with_part prune events part) parts whole later n))

  pub trees_parts : prune ≡ true → (events : List PlainEvent) (parts : List Part) (whole : List PlainEvent) → with_parts prune events parts ≡ Ok whole → AllByRecursion IsPart parts
      → ((c : ℕ) → IsCommitOf events c → IsSome (tree events c)) → (c : ℕ) → IsCommitOf whole c → IsSome (tree whole c)
  trees_parts is events [] whole h good has = let same : events ≡ whole = cc in subst (λ (l : List PlainEvent). (c : ℕ) → IsCommitOf l c → IsSome (tree l c)) same has
  trees_parts is events (part ∷ parts) whole h good has =
      trees_parts is (with_part prune events part) parts whole (further events part parts whole h) good.1 (trees_more prune events part good.0 is has)

  -- each commit of the list stays as it is
  pub stays : (events : List PlainEvent) (parts : List Part) (whole : List PlainEvent) → with_parts prune events parts ≡ Ok whole → AllByRecursion IsPart parts → AllByRecursion HasShortName whole → IsLinked events
      → (c : ℕ) → IsCommitOf events c → StaysIn events whole c
  stays events [] whole h good n l c k = let same : events ≡ whole = cc in subst (λ (x : List PlainEvent). StaysIn events x c) same (record { there = k; tree = refl; shown = refl })
  stays events (part ∷ parts) whole h good n l c k =
      let later = further events part parts whole h in
      let more = linked_more prune events part good.0 l (short_more (with_part prune events part) parts whole later n) in
      let rest = stays (with_part prune events part) parts whole later good.1 n more c (there_more prune events part good.0 c k) in
      record {
        there = rest.there;
        tree = rest.tree ∙ tree_more prune events part good.0 c k;
        shown = rest.shown ∙ shown_more prune events part good.0 l c k;
      }

  -- a part among others: those before it, and those after
  pub parts_from : (events : List PlainEvent) (before after : List Part) (so_far whole : List PlainEvent) → with_parts prune events (before ++ after) ≡ Ok whole → with_parts prune events before ≡ Ok so_far → with_parts prune so_far after ≡ Ok whole
  parts_from events [] after so_far whole h k = let same : events ≡ so_far = cc in subst (λ (x : List PlainEvent). with_parts prune x after ≡ Ok whole) same h
  parts_from events (part ∷ before) after so_far whole h k =
      parts_from (with_part prune events part) before after so_far whole (further events part (before ++ after) whole h) (further events part before so_far k)

  pub part_among : prune ≡ true → (events : List PlainEvent) (before : List Part) (part : Part) (after : List Part) (so_far whole : List PlainEvent)
      → with_parts prune events (before ++ part ∷ after) ≡ Ok whole → with_parts prune events before ≡ Ok so_far → AllByRecursion IsPart (before ++ part ∷ after) → AllByRecursion HasShortName whole
      → IsLinked events → ((c : ℕ) → IsCommitOf events c → IsSome (tree events c)) → HasTreesOf part.events (next_number so_far) whole
  part_among is events before part after so_far whole h k good n l has c own =
      let rest = parts_from events before (part ∷ after) so_far whole h k in
      let goods = all_rear IsPart before (part ∷ after) good in
      let first = linked_parts events before so_far k (all_front IsPart before (part ∷ after) good) (short_more so_far (part ∷ after) whole rest n) l in
      let trees = trees_parts is events before so_far k (all_front IsPart before (part ∷ after) good) has in
      let later = further so_far part after whole rest in
      let more = linked_more prune so_far part goods.0 first (short_more (with_part prune so_far part) after whole later n) in
      let own_tree = part_more prune so_far part goods.0 is trees c own in
      let still = stays (with_part prune so_far part) after whole later goods.1 n more (new_number (next_number so_far) (without_passes part.events) (any.Commit c)) own_tree.0 in
      (still.there, still.shown ∙ own_tree.1)

-- ---- marks

few_marks : (es : List PlainEvent) → length (marks_of es) ≤ length es + alias_count es
few_marks [] = omega arith
few_marks (Blob id mark bytes ∷ es) = let rest = few_marks es in omega arith
few_marks (Commit id mark branch author committer encoding comment parents ops aliases ∷ es) =
    let e : PlainEvent = Commit id mark branch author committer encoding comment parents ops aliases in
    let rest = few_marks es in
    let both = length-append (own_marks e) (marks_of es) in
    let own = length_own e in
    omega arith
few_marks (Tag id name target tagger comment None ∷ es) = let rest = few_marks es in omega arith
few_marks (Tag id name target tagger comment (Some mark) ∷ es) = let rest = few_marks es in omega arith
few_marks (Reset id branch target ∷ es) = let rest = few_marks es in omega arith
few_marks (Pass id line ∷ es) = let rest = few_marks es in omega arith

same_aliases : (n : ℕ) (es : List PlainEvent) → alias_count (renumbered_from n es) ≡ alias_count es
same_aliases n [] = refl
same_aliases n (Commit id mark branch author committer encoding comment parents ops aliases ∷ es) =
    λ i. length_from (n + 1) aliases i + same_aliases (n + length (mark ∷ aliases)) es i
same_aliases n (Blob id mark bytes ∷ es) = same_aliases (n + length (event_marks (Blob id mark bytes))) es
same_aliases n (Tag id name target tagger comment mark ∷ es) = same_aliases (n + length (event_marks (Tag id name target tagger comment mark))) es
same_aliases n (Reset id branch target ∷ es) = same_aliases (n + length (event_marks (Reset id branch target))) es
same_aliases n (Pass id line ∷ es) = same_aliases (n + length (event_marks (Pass id line))) es

-- ---- what was done

pub record IsUnited (prune : Bool) (parts : List Part) (new : List PlainEvent) : Type 0 where
  pub base : Part
  pub part : Part
  pub others : List Part
  pub order : by_age (λ (p : Part). p.events) parts ≡ base ∷ part ∷ others
  pub joined : List PlainEvent
  pub joins : with_parts prune base.events (part ∷ others) ≡ Ok joined
  pub passes : IsFine prune (renumbered joined)
  pub is : renumbered joined ≡ new

pub united : (prune : Bool) (parts : List Part) (new : List PlainEvent) → unite_of prune parts ≡ Ok new → IsUnited prune parts new
united prune parts new h = go (by_age (λ (p : Part). p.events) parts) refl h
  where
    over : (base part : Part) (others : List Part) → by_age (λ (p : Part). p.events) parts ≡ base ∷ part ∷ others → (r : Result (List PlainEvent) Fault) → with_parts prune base.events (part ∷ others) ≡ r
        → numbered_anew prune r ≡ Ok new → IsUnited prune parts new
    over base part others o (Err why) is x = absurd cc
    over base part others o (Ok joined) is x =
        let both = no_fault (fault_after prune (renumbered joined)) (renumbered joined) new x in
        record { base = base; part = part; others = others; order = o; joined = joined; joins = is; passes = fine prune (renumbered joined) both.0; is = both.1 }

    go : (sorted : List Part) → by_age (λ (p : Part). p.events) parts ≡ sorted → unite_by_age prune sorted ≡ Ok new → IsUnited prune parts new
    go [] o x = absurd cc
    go (base ∷ []) o x = absurd cc
    go (base ∷ part ∷ others) o x = over base part others o (with_parts prune base.events (part ∷ others)) refl x

-- there are two at least
pub several : (prune : Bool) (parts : List Part) (new : List PlainEvent) → IsUnited prune parts new → 2 ≤ length parts
several prune parts new u = let many = as_many (λ (p : Part). p.events) parts in let their = ap length u.order in omega arith

-- parents come first, where no name is too long
pub parents_first : (prune : Bool) (base : Part) (parts : List Part) (joined : List PlainEvent) → with_parts prune base.events parts ≡ Ok joined → IsPart base → AllByRecursion IsPart parts
    → long_name_fault (renumbered joined) ≡ None → IsLinkedPast (past (renumbered joined))
parents_first prune base parts joined joins good others short =
    let all = linked_parts prune base.events parts joined joins others (short_unmarked 1 joined (short_names (renumbered joined) short)) (sound_linked base.events good.sound) in
    linked_in_order (renumbered joined) (marked_once 1 [] joined all (λ m. omega arith) (λ m low. refl)) (marked_order 1 [] joined all)

module _ (prune : Bool) (parts : List Part) (new : List PlainEvent) (u : IsUnited prune parts new) (good : AllByRecursion IsPart parts) where
  pub sorted_good : AllByRecursion IsPart (u.base ∷ u.part ∷ u.others)
  sorted_good = subst (AllByRecursion IsPart) u.order (all_by_age (λ (p : Part). p.events) IsPart parts good)

  pub base_linked : IsLinked u.base.events
  base_linked = sound_linked u.base.events sorted_good.0.sound

  pub short : AllByRecursion HasShortName u.joined
  short = short_unmarked 1 u.joined (short_names (renumbered u.joined) u.passes.names)

  linked : IsLinked u.joined
  linked = linked_parts prune u.base.events (u.part ∷ u.others) u.joined u.joins sorted_good.1 short base_linked

  none_before : (m : ℕ) → 0 ≤ 1
  none_before m = omega arith

  has_trees : (p : Bool) → prune ≡ p → (c : ℕ) → IsCommitOf (renumbered u.joined) c → IsSome (tree (renumbered u.joined) c)
  has_trees true is c h =
      subst IsSome (sym (tree_marked 1 [] u.joined c))
      (trees_parts prune is u.base.events (u.part ∷ u.others) u.joined u.joins sorted_good.1 sorted_good.0.sound.trees c (sym (commit_marked 1 [] u.joined (any.Commit c)) ∙ h))
  has_trees false is c h =
      trees_checked (renumbered u.joined) (marked_once 1 [] u.joined linked none_before (λ m low. refl)) (marked_order 1 [] u.joined linked) (subst (λ b. tree_fault_unless b (renumbered u.joined) ≡ None) is u.passes.trees) c h

  enough : 1 + length (marks_of u.joined) ≤ MAX_MARK + 1
  enough =
      let within = (limits_hold (renumbered u.joined)).0 u.passes.limits in
      let few = few_marks u.joined in
      let events = within.few_events in
      let aliases = within.few_aliases in
      let as_many = length_same 1 u.joined in
      let its = same_aliases 1 u.joined in
      omega arith

  pub unite_sound : IsSound new
  unite_sound =
      subst IsSound u.is (marked_sound 1 [] u.joined linked none_before (λ m low. refl) (omega arith) (enough) (has_trees prune refl))

  -- the oldest part

  pub base_stays : (c : ℕ) → IsCommitOf u.base.events c → StaysIn u.base.events new c
  base_stays c h =
      let still = stays prune u.base.events (u.part ∷ u.others) u.joined u.joins sorted_good.1 short base_linked c h in
      subst (λ (l : List PlainEvent). StaysIn u.base.events l c) u.is (record {
        there = commit_marked 1 [] u.joined (any.Commit c) ∙ still.there;
        tree = tree_marked 1 [] u.joined c ∙ still.tree;
        shown = shown_marked 1 [] u.joined c ∙ still.shown;
      })

  -- a further part
  pub part_stays : prune ≡ true → (before : List Part) (part : Part) (after : List Part) (so_far : List PlainEvent) → u.part ∷ u.others ≡ before ++ part ∷ after → with_parts prune u.base.events before ≡ Ok so_far
      → HasTreesOf part.events (next_number so_far) new
  part_stays is before part after so_far split k c h =
      let kept = part_among prune is u.base.events before part after so_far u.joined (ap (with_parts prune u.base.events) (sym split) ∙ u.joins) k (subst (AllByRecursion IsPart) split sorted_good.1) short base_linked sorted_good.0.sound.trees c h in
      subst (λ (l : List PlainEvent). IsCommitOf l (new_number (next_number so_far) (without_passes part.events) (any.Commit c)) × (shown_tree l (new_number (next_number so_far) (without_passes part.events) (any.Commit c)) ≡ shown_tree part.events c)) u.is
      (commit_marked 1 [] u.joined (any.Commit (new_number (next_number so_far) (without_passes part.events) (any.Commit c))) ∙ kept.0, shown_marked 1 [] u.joined (new_number (next_number so_far) (without_passes part.events) (any.Commit c)) ∙ kept.1)

-- ---- the events of the oldest part

abbrev head_or : PlainEvent → List PlainEvent → PlainEvent
head_or x [] = x
head_or x (y ∷ ys) = y

front_of : (n mark : ℕ) (xs ys : List PlainEvent) → map (all_marked mark) (take (length xs) (renumbered_from n (xs ++ ys))) ≡ map (all_marked mark) xs
front_of n mark [] ys = refl
front_of n mark (x ∷ xs) ys = λ i. one i ∷ front_of (n + length (event_marks x)) mark xs ys i
  where
    one : all_marked mark (marked_from n x) ≡ all_marked mark x
    one = ap (λ (l : List PlainEvent). head_or x l) (others_same n (x ∷ []) mark)

pub base_first : (prune : Bool) (parts : List Part) (new : List PlainEvent) (u : IsUnited prune parts new) (mark : ℕ) → map (all_marked mark) (take (length u.base.events) new) ≡ map (all_marked mark) u.base.events
base_first prune parts new u mark =
    let more = extends prune u.base.events (u.part ∷ u.others) u.joined u.joins in
    ap (λ (l : List PlainEvent). map (all_marked mark) (take (length u.base.events) l)) (sym u.is ∙ ap renumbered more.1)
    ∙ front_of 1 mark u.base.events more.0

-- lists of parts that are the same begin with the same one
pub same_first : {x y : Part} {xs ys : List Part} → x ∷ xs ≡ y ∷ ys → (x ≡ y) × (xs ≡ ys)
same_first {x = x} {y = y} {xs = xs} {ys = ys} h = let first : x ≡ y = cc in let others : xs ≡ ys = cc in (first, others)
