-- Plans that give no number.
use Rattle.std.proofs.Common.{◌≡◌, List, ap}
use Rattle.plain_model.specs.declared.event.PlainEvent.{PlainEvent}
use Rattle.plain_model.specs.Soundness.{IsSound}
use Rattle.event_arena.specs.Graphs.{Change, Graph}
use Rattle.event_arena.specs.Plans.{IsPlanOf, leaving}

-- one that leaves a sound list can be carried out
pub leaves_sound : (events : Graph) (after : List PlainEvent) (plan : Change) → plan ≡ leaving events after → IsSound plan.after → IsPlanOf events events.next_id plan
leaves_sound events after plan made sound = record {
  before = ap (λ (p : Change). p.before) made;
  made_at = ap (λ (p : Change). p.made_at) made;
  next = ap (λ (p : Change). p.next) made;
  sound = sound;
}
