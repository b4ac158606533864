use Rattle.history_machine.specs.Sessions.{shown}
use Rattle.load_list.proofs.Places.{kept_at, text_at}
use Rattle.load_list.proofs.NamedEntries.{named_set}
use Rattle.load_list.proofs.list.LoadList.shown.Goals as goal

pub invariant_of-self : goal.invariant_of-self
invariant_of-self c = named_set c.self.inside.by_name.entries c.in_ok-place.place c.shown.new.self c.self.invariant

pub invariant_of-self-2 : goal.invariant_of-self-2
invariant_of-self-2 c = named_set c.self.inside.by_name.entries c.in_ok-place.place c.shown.new.self c.self.invariant

pub returns-in_err-shown-clause-same : goal.returns-in_err-shown-clause-same
returns-in_err-shown-clause-same c =
    rw (← c.self.view_is)
    (kept_at c.self.inside.by_name.entries c.self.inside.choice c.in_ok-place.place (rw (← c.self.view_is) at c.in_ok-place.ensures) c.index_mut.result.now c.index_mut.ensures.value
    c.shown.new.self c.shown.ensures.same)

pub returns-clause-text : goal.returns-clause-text
returns-clause-text c =
    let at = rw (← c.self.view_is) at c.in_ok-place.ensures in
    rw (← c.self.view_is)
    (text_at c.self.inside.by_name.entries c.self.inside.choice c.in_ok-place.place at c.index_mut.result.now c.index_mut.ensures.value
    (shown c.args.what c.args.ids.now) c.in_ok-shown.field-0 (c.in_ok-shown.ensures.text at.0.name))

pub returns-clause-same : goal.returns-clause-same
returns-clause-same c =
    rw (← c.self.view_is)
    (kept_at c.self.inside.by_name.entries c.self.inside.choice c.in_ok-place.place (rw (← c.self.view_is) at c.in_ok-place.ensures) c.index_mut.result.now c.index_mut.ensures.value
    c.shown.new.self c.shown.ensures.same)
