use Rattle.std.proofs.Common.{ℕ, List, Result, Ok, ap, sym, ◌∙◌}
use Rattle.plain_model.specs.declared.event.PlainEvent.{PlainEvent}
use Rattle.plain_model.specs.declared.fault.Fault.{Fault}
use Rattle.coalesce_laws.specs.Coalesce.{coalesce_of}
use Rattle.edit_laws.specs.Editing.{Remade}
use Rattle.load_list.specs.Entries.{Loaded}
use Rattle.load_list.proofs.repository.Repository.coalesced.Goals as goal

pub returns-in-Ok-clause-plans : goal.returns-in-Ok-clause-plans
returns-in-Ok-clause-plans c =
    ap (λ (l : Loaded). made (coalesce_of c.args.seconds c.args.ids.now l.history) l.next) (sym c.self.view_is) ∙ (λ i. made (sym c.in-Ok.ensures.after i) (sym c.in-Ok.ensures.plan.next i))
  where
    made : List PlainEvent → ℕ → Result Remade Fault
    made history next = Ok (record { history = history; next = next })
