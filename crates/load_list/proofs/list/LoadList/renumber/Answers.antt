use Rattle.std.proofs.Common.{Result, Ok, ap, sym}
use Rattle.plain_model.specs.declared.fault.Fault.{Fault}
use Rattle.renumbering.specs.Renumbered.{renumbered}
use Rattle.history_machine.specs.Sessions.{Repo, after_renumber}
use Rattle.load_list.specs.Entries.{Loaded, repo_under}
use Rattle.load_list.proofs.Places.{changed_at, kept_at}
use Rattle.load_list.proofs.NamedEntries.{named_set}
use Rattle.load_list.proofs.list.LoadList.renumber.Goals as goal
use Rattle.history_laws.proofs.Results.{on_err}

pub invariant_of-self : goal.invariant_of-self
invariant_of-self c = named_set c.self.inside.by_name.entries c.in_ok-place.place c.renumber.new.self c.self.invariant

pub invariant_of-self-2 : goal.invariant_of-self-2
invariant_of-self-2 c = named_set c.self.inside.by_name.entries c.in_ok-place.place c.renumber.new.self c.self.invariant

pub returns-in_err-renumber-clause-kept : goal.returns-in_err-renumber-clause-kept
returns-in_err-renumber-clause-kept c =
    rw (← c.self.view_is)
    (on_err c.from_residual-in_err-renumber.result _ (kept_at c.self.inside.by_name.entries c.self.inside.choice c.in_ok-place.place (rw (← c.self.view_is) at c.in_ok-place.ensures)
    c.index_mut.result.now c.index_mut.ensures.value c.renumber.new.self c.in_err-renumber.ensures.err))

pub returns-clause-changes : goal.returns-clause-changes
unfolding after_renumber
returns-clause-changes c = λ macros.
    let with_marks : Repo → Result Repo Fault = λ repo. Ok (record repo { history = renumbered repo.history }) in
    let ok : Repo → Result Repo Fault = λ repo. Ok repo in
    rw (← c.self.view_is)
    (changed_at c.self.inside.by_name.entries c.self.inside.choice c.in_ok-place.place (rw (← c.self.view_is) at c.in_ok-place.ensures) c.index_mut.result.now c.index_mut.ensures.value
    macros (Ok (tt {0})) with_marks c.renumber.new.self (λ name. ap (λ (l : Loaded). ok (repo_under name l)) (sym c.in_ok-renumber.ensures.ok)))
