use Rattle.event_arena.proofs.OnceLemmas.{found_at}
use Rattle.event_arena.proofs.table.EventTable.nth.Goals as goal

pub returns-clause-found : goal.returns-clause-found
returns-clause-found c = rw c.as_ref.ensures (found_at c.args.self.now c.args.place c.row.result.now.value c.count-count.ensures.once c.row.ensures)
