-- What a graft answers, fault by fault.
use Rattle.std.proofs.Common.{◌≡◌, ◌∙◌, ℕ, ◌+◌, ◌≤◌, Bool, true, false, List, [], ◌∷◌, length, refl, sym, ap, arith, Option, Some, None, Result, Ok, Err, nat_lt}
use Rattle.std.specs.Prelude.{bytes_eq, if◌then◌else◌}
use Rattle.std.specs.List.{list_any}
use Rattle.std.specs.Option.{option_or}
use Rattle.std.proofs.lemmas.Bool.Decides.{nat_tests}
use Rattle.plain_model.specs.declared.fault.Fault.{Fault}
use Rattle.plain_model.specs.declared.fault.Fault.TheVariants as fault
use Rattle.plain_model.specs.declared.id.AnyId.TheVariants as any
use Rattle.plain_model.specs.declared.event.PlainEvent.{PlainEvent}
use Rattle.plain_model.specs.declared.limit.TheConstants.{MAX_MARK}
use Rattle.plain_model.specs.Lookups.{greatest_mark, marks_of}
use Rattle.plain_model.specs.Paths.{Bytes}
use Rattle.plain_model.specs.declared.fault.Halt.{Halt}
use Rattle.plain_model.specs.declared.fault.Halt.TheVariants as halt
use Rattle.plain_model.specs.Faults.{Returns}
use Rattle.plain_model.specs.Soundness.{IsCommitOf}
use Rattle.edit_laws.specs.Checking.{unless}
use Rattle.edit_laws.specs.Selecting.{IsSelection}
use Rattle.event_arena.specs.Graphs.{Graph}
use Rattle.event_arena.specs.Plans.{Plans}
use Rattle.graft_laws.specs.Faults.{fault_after, marks_fault, name_fault, unless_fault}
use Rattle.graft_laws.specs.Graft.{graft_of, grafted, grafting}
use Rattle.graft_laws.specs.Joining.{Joining, added, new_names}
use Rattle.graft_unite.proofs.AppendLemmas.{marks_added}
use Rattle.graft_unite.specs.Used.{AreNamesOf}

over : (a b : ℕ) → a + 1 ≤ b → nat_lt a b ≡ true
over a b h = grind (arith, nat_tests)

under : (a b : ℕ) → b ≤ a → nat_lt a b ≡ false
under a b h = grind (arith, nat_tests)

module _ (prune : Bool) (next : ℕ) (name : Bytes) (part : List PlainEvent) (c : ℕ) (base : List PlainEvent) where
  abbrev how : Joining
  how = grafting prune name c

  abbrev pub answer : Result (List PlainEvent) Fault
  answer = graft_of prune next name part (any.Commit c ∷ []) base

  -- a name that is in use
  pub clashing : (used : List Bytes) (why : Fault) → AreNamesOf base used → Some why ≡ name_fault (λ n. list_any (bytes_eq n) used) (new_names how part) → answer ≡ Err why
  clashing used why are found =
      ap (λ (o : Option Fault). unless_fault (option_or o (option_or (marks_fault base (added how next part)) (fault_after prune (grafted prune next name part c base)))) (grafted prune next name part c base))
      ((λ i. name_fault (λ n. sym (are n) i) (new_names how part)) ∙ sym found)

  -- what comes after the names
  free : (used : List Bytes) → AreNamesOf base used → None ≡ name_fault (λ n. list_any (bytes_eq n) used) (new_names how part)
      → answer ≡ unless_fault (option_or (marks_fault base (added how next part)) (fault_after prune (grafted prune next name part c base))) (grafted prune next name part c base)
  free used are none =
      ap (λ (o : Option Fault). unless_fault (option_or o (option_or (marks_fault base (added how next part)) (fault_after prune (grafted prune next name part c base)))) (grafted prune next name part c base))
      ((λ i. name_fault (λ n. sym (are n) i) (new_names how part)) ∙ sym none)

  pub spent : (used : List Bytes) → AreNamesOf base used → None ≡ name_fault (λ n. list_any (bytes_eq n) used) (new_names how part)
      → (greatest_mark base + 1 + length (marks_of part) ≤ MAX_MARK + 1 → ⊥) → answer ≡ Err fault.MarksSpent
  spent used are none many =
      let as_many = marks_added how next part in
      free used are none
      ∙ ap (λ b. unless_fault (option_or (if b then Some fault.MarksSpent else None) (fault_after prune (grafted prune next name part c base))) (grafted prune next name part c base))
      (over MAX_MARK (greatest_mark base + length (marks_of (added how next part))) (omega arith))

  -- what comes after the marks
  pub left : (used : List Bytes) → AreNamesOf base used → None ≡ name_fault (λ n. list_any (bytes_eq n) used) (new_names how part)
      → greatest_mark base + 1 + length (marks_of part) ≤ MAX_MARK + 1 → answer ≡ unless_fault (fault_after prune (grafted prune next name part c base)) (grafted prune next name part c base)
  left used are none few =
      let as_many = marks_added how next part in
      free used are none
      ∙ ap (λ b. unless_fault (option_or (if b then Some fault.MarksSpent else None) (fault_after prune (grafted prune next name part c base))) (grafted prune next name part c base))
      (under MAX_MARK (greatest_mark base + length (marks_of (added how next part))) (omega arith))

-- ---- what is judged

-- a fault that is found
pub refused : (events : Graph) (number : ℕ) (why : Halt) (found : Option Fault) (made : List PlainEvent) → Returns {X = Unit {0}} {Y = Unit {0}} (λ done. done) (Err why) (unless found) →
    Plans events number (Err why) (unless_fault found made)
refused events number (halt.Refused f) (Some g) made h = let same : g ≡ f = cc in ap Err same
refused events number (halt.Refused f) None made h = absurd cc
refused events number halt.Memory found made h = tt

pub unrefused : (found : Option Fault) (made : List PlainEvent) → unless found ≡ Ok tt → unless_fault found made ≡ Ok made
unrefused None made h = refl
unrefused (Some f) made h = absurd cc

pub selected : (base : List PlainEvent) (c : ℕ) → IsCommitOf base c → IsSelection base (any.Commit c ∷ [])
selected base c there = record { there = (there, tt); apart = refl }
