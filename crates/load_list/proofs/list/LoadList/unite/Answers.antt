use Rattle.plain_model.specs.Paths.{Bytes}
use Rattle.load_list.specs.Entries.{Loaded, repo_under}
use Rattle.load_list.specs.Lists.{united_in}
use Rattle.load_list.proofs.Uniting.{refused_by, unite_done, unite_refused}
use Rattle.load_list.proofs.list.LoadList.unite.Goals as goal

pub returns-in_err-name-clause-changes : goal.returns-in_err-name-clause-changes
returns-in_err-name-clause-changes c = λ macros.
    let names = c.args.names.now in
    let list = c.args.self.now in
    refused_by (λ (made : Bytes × Loaded). repo_under made.0 made.1) _ c.in_err-name.field-0.0 (united_in c.args.prune names list.repos) c.from_residual.result _ c.in_err-name.ensures.united c.from_residual.ensures.1
    (unite_refused c.args.prune names list macros)

pub returns-clause-changes : goal.returns-clause-changes
returns-clause-changes c = λ macros.
    unite_done c.args.prune c.args.names.now c.args.self.now macros c.in_ok-name.name c.in_ok-name.made c.replace.new.self c.in_ok-name.ensures.united c.in_ok-replace.ensures.ok
