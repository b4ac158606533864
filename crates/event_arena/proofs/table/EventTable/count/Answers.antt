use Rattle.std.proofs.Common.{arith}
use Rattle.event_arena.proofs.RowLemmas.{names_length, rows_seen}
use Rattle.event_arena.proofs.table.EventTable.count.Goals as goal

pub returns-clause-count : goal.returns-clause-count
returns-clause-count c =
    let rows = c.as_ref.result.now in
    let named = rows_seen c.self.inside.store c.self.inside.rows.value rows c.self.inside.places.value c.self.inside.weight c.args.self.now c.as_ref.ensures c.self.invariant c.self.view_is in
    let long = names_length c.self.inside.store rows.items c.args.self.now named in
    let fits = c.as_ref.type_inv in
    let is = c.len.ensures in
    omega arith
