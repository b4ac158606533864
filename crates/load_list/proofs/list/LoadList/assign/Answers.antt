use Rattle.load_list.proofs.Places.{assigned_at, kept_at}
use Rattle.load_list.proofs.NamedEntries.{named_set}
use Rattle.load_list.proofs.list.LoadList.assign.Goals as goal
use Rattle.std.proofs.lemmas.Result.{on_err_weaker}

pub invariant_of-self : goal.invariant_of-self
invariant_of-self c = named_set c.self.inside.by_name.entries c.in_ok-place.place c.assign.new.self c.self.invariant

pub returns-clause-changes : goal.returns-clause-changes
returns-clause-changes c = λ macros.
    rw (← c.self.view_is)
    (assigned_at c.self.inside.by_name.entries c.self.inside.choice c.in_ok-place.place (rw (← c.self.view_is) at c.in_ok-place.ensures) c.index_mut.result.now c.index_mut.ensures.value
    macros c.assign.result c.args.given.now c.args.ids.now c.assign.new.self c.assign.ensures.returns)

pub returns-clause-kept : goal.returns-clause-kept
returns-clause-kept c =
    rw (← c.self.view_is)
    (on_err_weaker c.assign.result (kept_at c.self.inside.by_name.entries c.self.inside.choice c.in_ok-place.place (rw (← c.self.view_is) at c.in_ok-place.ensures) c.index_mut.result.now c.index_mut.ensures.value
    c.assign.new.self) c.assign.ensures.err)
