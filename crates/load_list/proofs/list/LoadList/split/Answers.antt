use Rattle.std.proofs.Common.{List, [], ◌∷◌, ◌++◌, Some, ap, ◌∙◌}
use Rattle.history_machine.specs.Sessions.{Repo, read_repo, without_repo}
use Rattle.load_list.specs.Lists.{LoadList}
use Rattle.load_list.proofs.SeveralNames.{front_out, still_some}
use Rattle.load_list.proofs.list.LoadList.split.Goals as goal

pub returns-clause-ok : goal.returns-clause-ok
returns-clause-ok c =
    let name = c.args.name.now in
    let repos = c.args.self.now.repos in
    let early : Repo = read_repo c.args.early.now c.args.halves.0.list in
    let late : Repo = read_repo c.args.late.now c.args.halves.1.list in
    let left =
    ap (λ (l : LoadList). l.repos) c.self-2.view_is
    ∙ ap (λ (l : LoadList). l.repos) c.remove.ensures
    ∙ ap (λ (l : LoadList). without_repo name l.repos) c.in_ok-add_both.ensures.ok
    ∙ front_out name (repos ++ early ∷ []) late (still_some name repos early c.requires.there)
    ∙ ap (λ (rs : List Repo). rs ++ late ∷ []) (front_out name repos early c.requires.there) in
    λ i. record { repos = left i; choice = Some (c.in_ok-choice.ensures i) }
