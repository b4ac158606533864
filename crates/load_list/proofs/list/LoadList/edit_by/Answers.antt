use Rattle.history_machine.specs.Sessions.{after_edit, edited, said_by}
use Rattle.load_list.proofs.Places.{changed_at, kept_at}
use Rattle.load_list.proofs.NamedEntries.{named_set}
use Rattle.load_list.proofs.list.LoadList.edit_by.Goals as goal
use Rattle.std.proofs.lemmas.Result.{on_err_weaker}

pub invariant_of-self : goal.invariant_of-self
invariant_of-self c = named_set c.self.inside.by_name.entries c.in_ok-place.place c.edit_by.new.self c.self.invariant

pub returns-clause-changes : goal.returns-clause-changes
unfolding after_edit
returns-clause-changes c = λ macros.
    rw (← c.self.view_is)
    (changed_at c.self.inside.by_name.entries c.self.inside.choice c.in_ok-place.place (rw (← c.self.view_is) at c.in_ok-place.ensures) c.index_mut.result.now c.index_mut.ensures.value
    macros c.edit_by.result (edited (said_by c.args.what c.args.bytes.now)) c.edit_by.new.self c.edit_by.ensures.returns)

pub returns-clause-kept : goal.returns-clause-kept
returns-clause-kept c =
    rw (← c.self.view_is)
    (on_err_weaker c.edit_by.result (kept_at c.self.inside.by_name.entries c.self.inside.choice c.in_ok-place.place (rw (← c.self.view_is) at c.in_ok-place.ensures) c.index_mut.result.now c.index_mut.ensures.value
    c.edit_by.new.self) c.edit_by.ensures.err)
