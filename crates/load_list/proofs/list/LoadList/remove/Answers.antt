use Rattle.std.proofs.Common.{List, ap}
use Rattle.history_machine.specs.Sessions.{Repo}
use Rattle.load_list.specs.Lists.{LoadList}
use Rattle.load_list.proofs.Entries.{fewer_repos}
use Rattle.load_list.proofs.NamedEntries.{named_fewer}
use Rattle.load_list.proofs.list.LoadList.remove.Goals as goal

pub invariant_of-self : goal.invariant_of-self
invariant_of-self c = rw c.shift_remove.ensures.entries (named_fewer c.args.name.now c.self.inside.by_name.entries c.self.invariant)

pub returns : goal.returns
returns c =
    let listed : List Repo → LoadList = λ repos. record { repos = repos; choice = c.self.inside.choice } in
    rw (c.shift_remove.ensures.entries, ← c.self.view_is) (ap listed (fewer_repos c.args.name.now c.self.inside.by_name.entries))
