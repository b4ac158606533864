use Rattle.std.proofs.Common.{List, ap, ◌∙◌}
use Rattle.history_machine.specs.Sessions.{Repo, read_repo, without_repo}
use Rattle.load_list.specs.Lists.{LoadList}
use Rattle.load_list.proofs.SeveralNames.{last_out, still_none}
use Rattle.load_list.proofs.list.LoadList.add_both.Goals as goal

pub add-requires-2-clause-free : goal.add-requires-2-clause-free
add-requires-2-clause-free c =
    rw c.in_ok-add.ensures.ok
    (still_none c.args.late.now c.args.self.now.repos (read_repo c.args.early.now c.args.halves.0.list) c.requires.late c.requires.apart)

pub returns-in-Err-clause-err : goal.returns-in-Err-clause-err
returns-in-Err-clause-err c =
    let listed : List Repo → LoadList = λ repos. record c.args.self.now { repos = repos } in
    let without : LoadList → LoadList = λ list. record list { repos = without_repo c.args.early.now list.repos } in
    c.remove.ensures ∙ ap without (c.in-Err.ensures.err ∙ c.in_ok-add.ensures.ok)
    ∙ ap listed (last_out c.args.self.now.repos (read_repo c.args.early.now c.args.halves.0.list) c.requires.early)
