use Rattle.std.proofs.Common.{sym}
use Rattle.event_arena.proofs.PlaceLemmas.{place_found, place_none}
use Rattle.event_arena.proofs.table.EventTable.event.Goals as goal

pub returns-in-Some : goal.returns-in-Some
returns-in-Some c = place_found c.args.id c.args.self.now c.in-Some.place c.nth.result.now (sym c.in-Some.ensures.place) c.nth.ensures.event

pub returns-in-None : goal.returns-in-None
returns-in-None c = place_none c.args.id c.args.self.now (sym c.in-None.ensures.place)
