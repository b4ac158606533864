use Rattle.std.proofs.Common.{List, [], ◌∷◌, ◌++◌, Some, ap, ◌∙◌}
use Rattle.plain_model.specs.Paths.{Bytes}
use Rattle.history_machine.specs.Sessions.{Repo}
use Rattle.history_machine.specs.Several.{without_repos}
use Rattle.load_list.specs.Entries.{repo_under}
use Rattle.load_list.specs.Lists.{LoadList}
use Rattle.load_list.proofs.SeveralNames.{several_out}
use Rattle.load_list.proofs.list.LoadList.replace.Goals as goal

pub returns-clause-ok : goal.returns-clause-ok
returns-clause-ok c =
    let names = c.args.names.now in
    let repos = c.args.self.now.repos in
    let listed : List Repo → LoadList = λ repos. record { repos = repos; choice = Some c.args.name } in
    ap listed (ap (λ (l : LoadList). l.repos) c.self.view_is
    ∙ ap (λ (l : LoadList). l.repos) c.remove_all.ensures
    ∙ ap (λ (l : LoadList). without_repos names l.repos) c.in_ok-load.ensures.ok
    ∙ ap (λ (n : Bytes). without_repos names (repos ++ repo_under n c.args.made ∷ [])) c.as_slice.ensures
    ∙ several_out names repos (repo_under c.args.name c.args.made) c.requires.longer)
