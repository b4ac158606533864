-- One part more, and what is known of the list with it.
use Rattle.std.proofs.Common.{◌≡◌, ◌∙◌, ℕ, suc, ◌+◌, ◌≤◌, Bool, List, [], ◌∷◌, ◌++◌, length, max, take, Option, Some, None, refl, ap, subst, arith, length-append}
use Rattle.std.specs.Prelude.{◌||◌, option_map, option_to_list}
use Rattle.std.specs.List.{fold}
use Rattle.plain_model.specs.declared.event.PlainEvent.{PlainEvent}
use Rattle.plain_model.specs.Lookups.{event_marks, id_number, id_of, marks_of, next_number, own_marks}
use Rattle.plain_model.specs.Paths.{Bytes}
use Rattle.history_laws.specs.Placed.{ArePlaced}
use Rattle.graft_laws.specs.Joining.{Joining, added, without_passes}
use Rattle.graft_laws.specs.Names.{is_used}
use Rattle.graft_laws.specs.Unite.{Part, latest_before, uniting}
use Rattle.graft_laws.proofs.Free.{marks_join}
use Rattle.graft_laws.proofs.Events.{length_new, placed_new}
use Rattle.renumbering.specs.Renumbered.{marked_from, renumbered_from}
use Rattle.renumbering.proofs.Kept.{length_same}
use Rattle.renumbering.proofs.Marks.{event_from, id_from, length_from, length_own}
use Rattle.graft_unite.specs.Dates.{AreDatesOf, latest_in}
use Rattle.graft_unite.specs.Numbering.{Numbering, new_blob, new_commit}
use Rattle.graft_unite.proofs.AppendLemmas.{marks_added}
use Rattle.graft_unite.proofs.NumberLemmas.{few_kept}
use Rattle.graft_unite.specs.Uniting.{Uniting, clashing, joining, marked_part}
use Rattle.graft_unite.specs.Used.{AreNamesOf}

pub length_added : (xs : List PlainEvent) (mark : ℕ) (how : Joining) (first : ℕ) (part : List PlainEvent) → length (xs ++ renumbered_from mark (added how first part)) ≡ length xs + length (without_passes part)
length_added xs mark how first part =
    let n : Numbering = record { part = part; first = first } in
    let both = length-append xs (renumbered_from mark (added how first part)) in
    let marked = length_same mark (added how first part) in
    let new = length_new how (new_blob n) (new_commit n) first (without_passes part) in
    omega arith

pub few_left : (part : List PlainEvent) → length (without_passes part) ≤ length part
few_left part = subst (λ (l : List PlainEvent). length (without_passes l) ≤ length part) (all part) (few_kept part (length part))
  where
    all : (xs : List PlainEvent) → take (length xs) xs ≡ xs
    all [] = refl
    all (x ∷ xs) = ap (λ (l : List PlainEvent). x ∷ l) (all xs)

-- ---- how a part is joined

module _ (events part : List PlainEvent) (used own : List Bytes) (dates : List (ℕ × ℕ)) (prune : Bool) (name : Bytes) (names : AreNamesOf events used) (commits : AreDatesOf events dates) where
  abbrev its : Uniting
  its = record { prune = prune; prefix = name; used = used; own = own; dates = dates }

  pub joining_is : joining its ≡ uniting prune events name
  joining_is = λ i. record { prefix = name; is_taken = λ n. names n i; parents = λ seconds. option_to_list (parent seconds i); prune = prune }
    where
      swapped : (o : Option (ℕ × ℕ)) → option_map (λ (e : ℕ × ℕ). e.1) (option_map (λ (c : ℕ × ℕ). (c.1, c.0)) o) ≡ option_map (λ (c : ℕ × ℕ). c.0) o
      swapped None = refl
      swapped (Some c) = refl

      parent : (seconds : ℕ) → option_map (λ (e : ℕ × ℕ). e.1) (latest_in dates seconds) ≡ option_map (λ (c : ℕ × ℕ). c.0) (latest_before events seconds)
      parent seconds = ap (option_map (λ (e : ℕ × ℕ). e.1)) (commits seconds) ∙ swapped (latest_before events seconds)

  pub clashing_is : AreNamesOf part own → clashing its ≡ (λ n. is_used events n || is_used part n)
  clashing_is own_names = λ i n. names n i || own_names n i

-- ---- the number that comes next

module _ where
  abbrev pub above : ℕ → List PlainEvent → ℕ
  above n events = fold (λ n e. max n (id_number (id_of e) + 1)) n events

  placed_next : (k : ℕ) (ys : List PlainEvent) → ArePlaced k ys → above k ys ≡ k + length ys
  placed_next k [] p = omega arith
  placed_next k (y ∷ ys) p =
      let here : max k (id_number (id_of y) + 1) ≡ suc k = (let at = p.0 in omega arith) in
      let rest = placed_next (suc k) ys p.1 in
      ap (λ n. above n ys) here ∙ rest ∙ (let same : suc k + length ys ≡ k + length (y ∷ ys) = omega arith in same)

  joined_next : (n : ℕ) (xs ys : List PlainEvent) → above n (xs ++ ys) ≡ above (above n xs) ys
  joined_next n [] ys = refl
  joined_next n (x ∷ xs) ys = joined_next (max n (id_number (id_of x) + 1)) xs ys

  pub next_more : (xs ys : List PlainEvent) → ArePlaced (next_number xs) ys → next_number (xs ++ ys) ≡ next_number xs + length ys
  next_more xs ys p = joined_next 1 xs ys ∙ placed_next (next_number xs) ys p

-- ---- a part whose marks go on

placed_marked : (k n : ℕ) (es : List PlainEvent) → ArePlaced k es → ArePlaced k (renumbered_from n es)
placed_marked k n [] p = tt
placed_marked k n (e ∷ es) p = (ap id_number (id_from n e) ∙ p.0, placed_marked (suc k) (n + length (event_marks e)) es p.1)

pub marked_count : (n : ℕ) (es : List PlainEvent) → length (marks_of (renumbered_from n es)) ≡ length (marks_of es)
marked_count n [] = refl
marked_count n (e ∷ es) =
    let rest = marked_count (n + length (event_marks e)) es in
    let one = length_own (marked_from n e) in
    let same = ap length (event_from n e) ∙ length_from n (event_marks e) in
    let two = length_own e in
    let both = length-append (own_marks (marked_from n e)) (marks_of (renumbered_from (n + length (event_marks e)) es)) in
    let old = length-append (own_marks e) (marks_of es) in
    omega arith

module _ (prune : Bool) (events : List PlainEvent) (part : Part) where
  abbrev behind : List PlainEvent
  behind = added (uniting prune events part.name) (next_number events) part.events

  pub part_next : next_number (events ++ marked_part prune events part) ≡ next_number events + length (without_passes part.events)
  part_next =
      let n : Numbering = record { part = part.events; first = next_number events } in
      let how = uniting prune events part.name in
      let m = 1 + length (marks_of events) in
      let new = next_more events (marked_part prune events part) (placed_marked (next_number events) m behind (placed_new how (new_blob n) (new_commit n) (next_number events) (without_passes part.events))) in
      let marked = length_same m behind in
      let count = length_new how (new_blob n) (new_commit n) (next_number events) (without_passes part.events) in
      omega arith

  pub part_mark : 1 + length (marks_of (events ++ marked_part prune events part)) ≡ 1 + length (marks_of events) + length (marks_of part.events)
  part_mark =
      let join = ap length (marks_join events (marked_part prune events part)) in
      let both = length-append (marks_of events) (marks_of (marked_part prune events part)) in
      let marked = marked_count (1 + length (marks_of events)) behind in
      let count = marks_added (uniting prune events part.name) (next_number events) part.events in
      omega arith

pub front_of : (xs ys : List PlainEvent) → take (length xs) (xs ++ ys) ≡ xs
front_of [] ys = refl
front_of (x ∷ xs) ys = ap (λ (l : List PlainEvent). x ∷ l) (front_of xs ys)
