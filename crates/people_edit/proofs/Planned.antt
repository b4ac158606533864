-- A plan that begins as the history and changes its list alone.
use Rattle.std.proofs.Common.{◌≡◌, ◌∙◌, List, Result, Ok, ap, sym}
use Rattle.plain_model.specs.declared.event.PlainEvent.{PlainEvent}
use Rattle.plain_model.specs.declared.fault.Fault.{Fault}
use Rattle.plain_model.specs.Soundness.{IsSound}
use Rattle.event_arena.specs.Graphs.{Change, Graph}
use Rattle.event_arena.specs.Plans.{IsPlanOf, leaving}
use Rattle.event_arena.proofs.Plans.{leaves_sound}

pub planned : (events : Graph) (plan new : Change) (after : List PlainEvent) (specified : Result (List PlainEvent) Fault)
    → plan ≡ leaving events events.list → new ≡ record plan { after = after } → specified ≡ Ok after
    → ((left : List PlainEvent) → specified ≡ Ok left → IsSound left)
    → (specified ≡ Ok new.after) × IsPlanOf events events.next_id new
planned events plan new after specified begun made done sound =
    let is : new ≡ leaving events after = made ∙ (λ i. record (begun i) { after = after }) in
    let left : specified ≡ Ok new.after = done ∙ ap (λ (p : Change). Ok p.after) (sym is) in
    (left, leaves_sound events after new is (sound new.after left))
