use Rattle.event_arena.specs.Graphs.{Graph}
use Rattle.plain_model.specs.Faults.{Returns}
use Rattle.history_machine.specs.Several.{halves_of}
use Rattle.load_list.proofs.NamedEntries.{named_set}
use Rattle.load_list.proofs.Places.{kept_at, live_at, said_at}
use Rattle.load_list.proofs.list.LoadList.halves.Goals as goal

pub halves-requires-clause-live : goal.halves-requires-clause-live
halves-requires-clause-live c =
    live_at c.self.inside.by_name.entries c.self.inside.choice c.args.place (rw (← c.self.view_is) at c.requires.at) c.index_mut.result.now c.index_mut.ensures.value c.args.ids.now (rw (← c.self.view_is) at c.requires.live)

pub invariant_of-self : goal.invariant_of-self
invariant_of-self c = named_set c.self.inside.by_name.entries c.args.place c.halves.new.self c.self.invariant

pub returns-clause-returns : goal.returns-clause-returns
returns-clause-returns c =
    rw (← c.self.view_is)
    (said_at c.self.inside.by_name.entries c.self.inside.choice c.args.place (rw (← c.self.view_is) at c.requires.at) c.index_mut.result.now c.index_mut.ensures.value
    (λ repo. Returns (λ (both : Graph × Graph). (both.0.list, both.1.list)) c.halves.result (halves_of c.args.ids.now repo.history)) (λ name. c.halves.ensures.returns))

pub returns-clause-same : goal.returns-clause-same
returns-clause-same c =
    rw (← c.self.view_is)
    (kept_at c.self.inside.by_name.entries c.self.inside.choice c.args.place (rw (← c.self.view_is) at c.requires.at) c.index_mut.result.now c.index_mut.ensures.value
    c.halves.new.self c.halves.ensures.same)
