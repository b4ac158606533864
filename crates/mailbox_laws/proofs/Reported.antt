-- The fault that is reported is at the lowest line.
use Rattle.std.proofs.Common.{◌≡◌, inl, inr, ℕ, ◌≤◌, Bool, true, false, cond, List, [], ◌∷◌, Option, Some, None, Ok, Err, refl, sym, subst, arith, nat_lt}
use Rattle.std.specs.List.{AllByRecursion}
use Rattle.std.proofs.lemmas.Bool.{ltb-true, ltb-false}
use Rattle.std.proofs.lemmas.Option.{none-some, same_Some}
use Rattle.plain_model.specs.declared.fault.Fault.{Fault}
use Rattle.plain_model.specs.declared.event.PlainEvent.{PlainEvent}
use Rattle.plain_model.specs.Paths.{Bytes}
use Rattle.mailbox_laws.specs.Boxes.{box_in}
use Rattle.mailbox_laws.specs.Landing.{box_faults, fault_line, first_of, land_of, landed, lowest, unless_fault}
use Rattle.mailbox_laws.specs.Reporting.{IsLowest}

none_lowest : (fs : List Fault) → lowest fs ≡ None → fs ≡ []
unfolding lowest
none_lowest [] e = refl
none_lowest (f ∷ fs) e = absurd (none-some {A = Fault} (first_of f (lowest fs)) (sym e))

all_later : (m n : ℕ) → m ≤ n → (fs : List Fault) → AllByRecursion (λ g. n ≤ fault_line g) fs → AllByRecursion (λ g. m ≤ fault_line g) fs
all_later m n le [] h = tt
all_later m n le (f ∷ fs) h = let here = h.0 in (omega arith, all_later m n le fs h.1)

is_lowest : (fs : List Fault) (why : Fault) → lowest fs ≡ Some why → IsLowest fs why
unfolding lowest
is_lowest [] why e = absurd (none-some {A = Fault} why e)
is_lowest (f ∷ fs) why e = go (lowest fs) refl (same_Some {A = Fault} (first_of f (lowest fs)) why e) (λ g there. is_lowest fs g there)
  where
    chosen : (g : Fault) → IsLowest fs g → (t : Bool) → nat_lt (fault_line g) (fault_line f) ≡ t → cond t g f ≡ why → IsLowest (f ∷ fs) why
    chosen g low true less is =
        subst (IsLowest (f ∷ fs)) is (record { one = inr low.one; lowest = (let l = ltb-true (fault_line g) (fault_line f) less in omega arith, low.lowest) })
    chosen g low false more is =
        subst (IsLowest (f ∷ fs)) is (record {
          one = inl refl;
          lowest = (omega arith, all_later (fault_line f) (fault_line g) (ltb-false (fault_line g) (fault_line f) more) fs low.lowest);
        })

    go : (o : Option Fault) → lowest fs ≡ o → first_of f o ≡ why → ((g : Fault) → lowest fs ≡ Some g → IsLowest fs g) → IsLowest (f ∷ fs) why
    go None none is rec =
        let empty = none_lowest fs none in
        subst (IsLowest (f ∷ fs)) is (record { one = inl refl; lowest = (omega arith, subst (AllByRecursion (λ g. fault_line f ≤ fault_line g)) (sym empty) tt) })
    go (Some g) some is rec = chosen g (rec g some) (nat_lt (fault_line g) (fault_line f)) refl is

refused : (o : Option Fault) (new : List PlainEvent) (why : Fault) → unless_fault o new ≡ Err why → o ≡ Some why
refused None new why e = absurd cc
refused (Some f) new why e = cc

pub reported : (events : List PlainEvent) (bytes : Bytes) (why : Fault) → land_of events bytes ≡ Err why → IsLowest (box_faults events (box_in bytes)) why
unfolding land_of
reported events bytes why e =
    let box = box_in bytes in
    is_lowest (box_faults events box) why (refused (lowest (box_faults events box)) (landed events box.later events) why e)

accepted : (o : Option Fault) (made new : List PlainEvent) → unless_fault o made ≡ Ok new → o ≡ None
accepted None made new e = refl
accepted (Some f) made new e = absurd cc

pub right_lands : (events : List PlainEvent) (bytes : Bytes) (new : List PlainEvent) → land_of events bytes ≡ Ok new → box_faults events (box_in bytes) ≡ []
unfolding land_of
right_lands events bytes new e =
    let box = box_in bytes in
    none_lowest (box_faults events box) (accepted (lowest (box_faults events box)) (landed events box.later events) new e)
