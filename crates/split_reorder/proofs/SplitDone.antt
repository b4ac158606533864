-- What a split leaves where it isn't refused.
use Rattle.std.proofs.Common.{◌≡◌, ◌∙◌, ℕ, ◌≤◌, ◌-◌, Bool, true, cond, List, Option, Some, None, Result, Ok, Err, length, sym, ap, arith}
use Rattle.std.specs.Prelude.{nat_le}
use Rattle.std.proofs.lemmas.Bool.{and_from}
use Rattle.std.proofs.lemmas.Bool.Decides.{nat_tests}
use Rattle.plain_model.specs.declared.fault.Fault.{Fault}
use Rattle.plain_model.specs.declared.fault.Fault.TheVariants as fault
use Rattle.plain_model.specs.declared.event.PlainEvent.{PlainEvent}
use Rattle.plain_model.specs.Lookups.{next_mark}
use Rattle.edit_laws.specs.Passing.{limit_fault}
use Rattle.commit_laws.specs.Selected.{node_of}
use Rattle.split_laws.specs.Split.{split_from, split_list, unless_limit}

le_true : (a b : ℕ) → a ≤ b → nat_le a b ≡ true
le_true a b h = grind (arith, nat_tests)

pub split_done : (copy c number mark : ℕ) (events new : List PlainEvent) → 2 ≤ number → number ≤ length (node_of events c).ops → next_mark events ≡ Some mark →
    new ≡ split_list c copy mark (number - 1) events → limit_fault (split_list c copy mark (number - 1) events) ≡ None → split_from copy c number events ≡ Ok new
split_done copy c number mark events new low high some is none =
    ap (λ (b : Bool). cond b (marked (next_mark events)) (Err (fault.BadIndex number))) (and_from (nat_le 2 number) (nat_le number (length (node_of events c).ops)) (le_true 2 number low) (le_true number (length (node_of events c).ops) high))
    ∙ ap marked some
    ∙ ap (λ (x : Option Fault). elim x [ Some why ↦ Err why | None ↦ Ok (split_list c copy mark (number - 1) events) ]) none
    ∙ ap (λ (es : List PlainEvent). Ok es) (sym is)
  where
    marked : Option ℕ → Result (List PlainEvent) Fault
    marked o = elim o [ Some m ↦ unless_limit (split_list c copy m (number - 1) events) | None ↦ Err fault.MarksSpent ]
