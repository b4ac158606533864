use Rattle.std.proofs.Common.{List, [], ◌∷◌, ◌++◌, ap, subst, sym, ◌∙◌}
use Rattle.history_machine.specs.Sessions.{Repo}
use Rattle.load_list.specs.Entries.{AreNamed, Loaded, repo_under, repos_of}
use Rattle.load_list.specs.Lists.{LoadList}
use Rattle.load_list.proofs.Entries.{more_repos}
use Rattle.load_list.proofs.NamedEntries.{named_more}
use Rattle.graft_laws.specs.Joined.{AreNameBytes}
use Rattle.load_list.proofs.list.LoadList.add.Goals as goal

pub invariant_of-self-2 : goal.invariant_of-self-2
invariant_of-self-2 c =
    subst AreNamed (sym c.in_ok-insert.ensures.entries)
    (named_more c.in_ok-name.name c.in_ok-of.field-0 c.self.inside.by_name.entries (subst AreNameBytes (sym c.in_ok-name.ensures.items) c.requires.named) c.self.invariant)

pub returns-clause-ok : goal.returns-clause-ok
returns-clause-ok c =
    let es = c.self.inside.by_name.entries in
    let name = c.in_ok-name.name in
    let listed : List Repo → LoadList = λ repos. record { repos = repos; choice = c.self.inside.choice } in
    rw (c.in_ok-insert.ensures.entries, ← c.self.view_is, ← c.in_ok-name.ensures.items, ← c.requires.next)
    (ap listed (more_repos name c.in_ok-of.field-0 es (rw (← c.self.view_is, ← c.in_ok-name.ensures.items) at c.requires.free)
    ∙ ap (λ (l : Loaded). repos_of es ++ repo_under name.items l ∷ []) c.in_ok-of.ensures))
