use Rattle.std.proofs.Common.{sym, arith}
use Rattle.event_arena.proofs.RowLemmas.{names_get, names_length, rows_seen}
use Rattle.event_arena.proofs.table.EventTable.id_at.Goals as goal

pub index-requires : goal.index-requires
index-requires c =
    let rows = c.as_ref.result.now in
    let named = rows_seen c.self.inside.store c.self.inside.rows.value rows c.self.inside.places.value c.self.inside.weight c.args.self.now c.as_ref.ensures c.self.invariant c.self.view_is in
    let long = names_length c.self.inside.store rows.items c.args.self.now named in
    let fits = c.as_ref.type_inv in
    let within = c.requires in
    omega arith

pub returns : goal.returns
returns c =
    let rows = c.as_ref.result.now in
    let named = rows_seen c.self.inside.store c.self.inside.rows.value rows c.self.inside.places.value c.self.inside.weight c.args.self.now c.as_ref.ensures c.self.invariant c.self.view_is in
    let e = names_get c.self.inside.store rows.items c.args.self.now c.args.place c.index.result.now named c.requires c.index.ensures in
    (e.0, e.1, sym e.2.1)
