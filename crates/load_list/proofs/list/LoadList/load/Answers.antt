use Rattle.std.proofs.Common.{List, ap, subst, sym}
use Rattle.graft_laws.specs.Joined.{AreNameBytes}
use Rattle.history_machine.specs.Sessions.{Repo}
use Rattle.load_list.specs.Entries.{AreNamed}
use Rattle.load_list.specs.Lists.{LoadList}
use Rattle.load_list.proofs.Entries.{more_repos}
use Rattle.load_list.proofs.NamedEntries.{named_more}
use Rattle.load_list.proofs.list.LoadList.load.Goals as goal

pub invariant_of-self-2 : goal.invariant_of-self-2
invariant_of-self-2 c =
    subst AreNamed (sym c.in_ok-insert.ensures.entries)
    (named_more c.in_ok-name.name c.args.made c.self.inside.by_name.entries (subst AreNameBytes (sym c.in_ok-name.ensures.items) c.requires.bytes) c.self.invariant)

pub returns-clause-ok : goal.returns-clause-ok
returns-clause-ok c =
    let es = c.self.inside.by_name.entries in
    let name = c.in_ok-name.name in
    let listed : List Repo → LoadList = λ repos. record { repos = repos; choice = c.self.inside.choice } in
    rw (c.in_ok-insert.ensures.entries, ← c.self.view_is, ← c.in_ok-name.ensures.items)
    (ap listed (more_repos name c.args.made es (rw (← c.self.view_is, ← c.in_ok-name.ensures.items) at c.requires.free)))
