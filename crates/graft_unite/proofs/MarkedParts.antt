-- Parts that are joined one after another, with marks given anew at once or at last.
use Rattle.std.proofs.Common.{◌≡◌, ◌∙◌, ℕ, suc, ◌+◌, ◌<◌, Bool, List, [], ◌∷◌, ◌++◌, drop, get_or, length, map, max, Option, Some, None, Result, Err, refl, sym, ap, arith, length-append}
use Rattle.std.proofs.Math.Seq.{drop-cons}
use Rattle.std.specs.Prelude.{◌||◌, bytes_eq, filter, flat_map, nat_lt, option_map, option_to_list}
use Rattle.std.specs.List.{AllByRecursion, fold, list_any}
use Rattle.plain_model.specs.declared.fault.Fault.{Fault}
use Rattle.plain_model.specs.declared.event.PlainEvent.{PlainEvent}
use Rattle.plain_model.specs.declared.event.PlainEvent.TheVariants.{Blob, Commit, Tag, Reset, Pass}
use Rattle.plain_model.specs.Lookups.{event_marks, id_number, id_of, marks_of, next_number, own_marks}
use Rattle.plain_model.specs.Paths.{Bytes}
use Rattle.renumbering.specs.Renumbered.{marked_from, renumbered, renumbered_from}
use Rattle.renumbering.proofs.Marks.{id_from, length_own}
use Rattle.graft_laws.specs.Joining.{added, new_names}
use Rattle.graft_laws.specs.Names.{is_used}
use Rattle.graft_laws.specs.Unite.{Part, dated, later_of, part_fault, uniting, with_part, with_parts}
use Rattle.graft_laws.specs.Faults.{name_fault}
use Rattle.graft_laws.proofs.Free.{names_marked}
use Rattle.graft_unite.specs.Ages.{part_at}
use Rattle.graft_unite.specs.Dates.{AreDatesOf}
use Rattle.graft_unite.specs.Uniting.{IsKnown, marked, marked_part, marked_parts}
use Rattle.graft_unite.specs.Used.{AreNamesOf}
use Rattle.graft_unite.proofs.OrderLemmas.{at_place, each_within}
use Rattle.graft_unite.proofs.UnitingLemmas.{above, marked_count}

-- ---- marks change nothing else

dated_marked : (n : ℕ) (es : List PlainEvent) → flat_map dated (renumbered_from n es) ≡ flat_map dated es
dated_marked n [] = refl
dated_marked n (Commit id mark branch author committer encoding comment parents ops aliases ∷ es) =
    ap (λ (l : List (ℕ × ℕ)). (id, committer.when.seconds) ∷ l) (dated_marked (n + length (mark ∷ aliases)) es)
dated_marked n (Blob id mark bytes ∷ es) = dated_marked (n + length (event_marks (Blob id mark bytes))) es
dated_marked n (Tag id name target tagger comment mark ∷ es) = dated_marked (n + length (event_marks (Tag id name target tagger comment mark))) es
dated_marked n (Reset id branch target ∷ es) = dated_marked (n + length (event_marks (Reset id branch target))) es
dated_marked n (Pass id line ∷ es) = dated_marked (n + length (event_marks (Pass id line))) es

next_marked : (a n : ℕ) (es : List PlainEvent) → above a (renumbered_from n es) ≡ above a es
next_marked a n [] = refl
next_marked a n (e ∷ es) =
    ap (λ id. above (max a (id_number id + 1)) (renumbered_from (n + length (event_marks e)) es)) (id_from n e)
    ∙ next_marked (max a (id_number (id_of e) + 1)) (n + length (event_marks e)) es

renumbered_join : (n : ℕ) (xs ys : List PlainEvent) → renumbered_from n (xs ++ ys) ≡ renumbered_from n xs ++ renumbered_from (n + length (marks_of xs)) ys
renumbered_join n [] ys = ap (λ k. renumbered_from k ys) (let none : n ≡ n + 0 = omega arith in none)
renumbered_join n (x ∷ xs) ys =
    ap (λ (l : List PlainEvent). marked_from n x ∷ l) (renumbered_join (n + length (event_marks x)) xs ys
    ∙ ap (λ k. renumbered_from (n + length (event_marks x)) xs ++ renumbered_from k ys) sums)
  where
    sums : n + length (event_marks x) + length (marks_of xs) ≡ n + length (marks_of (x ∷ xs))
    sums = let parts = length-append (own_marks x) (marks_of xs) in let own = length_own x in omega arith

module _ (prune : Bool) (events : List PlainEvent) where
  uniting_marked : (name : Bytes) → uniting prune (renumbered events) name ≡ uniting prune events name
  uniting_marked name = λ i. record {
    prefix = name;
    is_taken = λ n. list_any (λ used. bytes_eq n used) (names_marked 1 events i);
    parents = λ seconds. option_to_list (option_map (λ (c : ℕ × ℕ). c.0) (fold later_of None (filter (λ (c : ℕ × ℕ). nat_lt c.1 seconds) (dated_marked 1 events i))));
    prune = prune;
  }

  -- the fault of a part is the same
  pub fault_marked : (part : Part) → part_fault prune (renumbered events) part ≡ part_fault prune events part
  fault_marked part = λ i. name_fault (λ name. list_any (λ used. bytes_eq name used) (names_marked 1 events i) || is_used part.events name) (new_names (uniting_marked part.name i) part.events)

  -- and so is what is put behind
  pub part_marked : (part : Part) → renumbered (with_part prune events part) ≡ renumbered events ++ marked_part prune (renumbered events) part
  part_marked part =
      renumbered_join 1 events (added (uniting prune events part.name) (next_number events) part.events)
      ∙ ap (λ (l : List PlainEvent). renumbered events ++ l)
      (λ i. renumbered_from (1 + sym (marked_count 1 events) i) (added (sym (uniting_marked part.name) i) (sym (next_marked 1 1 events) i) part.events))

-- marks that go on from part to part are those that are given anew at last
pub all_marked : (prune : Bool) (events : List PlainEvent) (parts : List Part) → marked_parts prune (renumbered events) parts ≡ marked (with_parts prune events parts)
all_marked prune events [] = refl
all_marked prune events (part ∷ parts) =
    ap (λ (o : Option Fault). elim o [ Some why ↦ Err why | None ↦ marked_parts prune (renumbered events ++ marked_part prune (renumbered events) part) parts ]) (fault_marked prune events part)
    ∙ go (part_fault prune events part)
    (ap (λ (l : List PlainEvent). marked_parts prune l parts) (sym (part_marked prune events part)) ∙ all_marked prune (with_part prune events part) parts)
  where
    go : (o : Option Fault) → marked_parts prune (renumbered events ++ marked_part prune (renumbered events) part) parts ≡ marked (with_parts prune (with_part prune events part) parts)
        → ◌≡◌ {A = Result (List PlainEvent) Fault} (elim o [ Some why ↦ Err why | None ↦ marked_parts prune (renumbered events ++ marked_part prune (renumbered events) part) parts ])
        (marked (elim o [ Some why ↦ Err why | None ↦ with_parts prune (with_part prune events part) parts ]))
    go (Some why) h = refl
    go None h = h

-- what is known of a list doesn't depend on its marks
pub known_begins : (events : List PlainEvent) (next mark : ℕ) (used : List Bytes) (dates : List (ℕ × ℕ)) → next ≡ next_number events → mark ≡ 1 + length (marks_of events)
    → AreNamesOf events used → AreDatesOf events dates → IsKnown (renumbered events) next mark used dates
known_begins events next mark used dates n m u d = record {
  next_is = n ∙ sym (next_marked 1 1 events);
  mark_is = m ∙ (λ i. 1 + sym (marked_count 1 events) i);
  names = λ name. u name ∙ (λ i. list_any (λ x. bytes_eq name x) (sym (names_marked 1 events) i));
  commits = λ seconds. d seconds ∙ (λ i. option_map (λ (c : ℕ × ℕ). (c.1, c.0)) (fold later_of None (filter (λ (c : ℕ × ℕ). nat_lt c.1 seconds) (sym (dated_marked 1 events) i))));
}

-- ---- one part of a list of places

-- the parts that are left, from the next one on
pub next_part : (parts : List Part) (places : List ℕ) (k : ℕ) (part : Part) → k < length places → AllByRecursion (λ n. n < length parts) places → part ≡ get_or parts (get_or places k 0) part
    → map (part_at parts) (drop k places) ≡ part ∷ map (part_at parts) (drop (suc k) places)
next_part parts places k part low within is =
    ap (map (part_at parts)) (drop-cons places k 0 low)
    ∙ ap (λ (p : Part). p ∷ map (part_at parts) (drop (suc k) places)) (sym (at_place parts (get_or places k 0) part (each_within (length parts) places k low within) is))

module _ (prune : Bool) (events : List PlainEvent) (part : Part) (parts : List Part) where
  abbrev by_fault : Option Fault → Result (List PlainEvent) Fault
  by_fault o = elim o [ Some why ↦ Err why | None ↦ marked_parts prune (events ++ marked_part prune events part) parts ]

  -- it is put behind
  pub part_joined : (after : List PlainEvent) → part_fault prune events part ≡ None → after ≡ events ++ marked_part prune events part → marked_parts prune events (part ∷ parts) ≡ marked_parts prune after parts
  part_joined after free is = ap by_fault free ∙ ap (λ (l : List PlainEvent). marked_parts prune l parts) (sym is)

  -- or refused
  pub part_refused : (why : Fault) → part_fault prune events part ≡ Some why → marked_parts prune events (part ∷ parts) ≡ Err why
  part_refused why found = ap by_fault found
