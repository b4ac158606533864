use Rattle.std.proofs.Common.{◌∙◌}
use Rattle.load_list.specs.Entries.{repo_under}
use Rattle.load_list.specs.Lists.{united_as}
use Rattle.load_list.proofs.Uniting.{free_bytes, free_longer, free_none, refused_by, united_under}
use Rattle.load_list.proofs.list.LoadList.united.Goals as goal

pub returns-in_err-made-clause-united : goal.returns-in_err-made-clause-united
returns-in_err-made-clause-united c =
    let names = c.args.names.now in
    let repos = c.args.self.now.repos in
    let name = c.in_ok-name.name in
    refused_by (repo_under name) (λ made. repo_under made.0 made.1) c.in_err-made.field-0.0 (united_as c.args.prune name names repos) c.from_residual-in_err-made.result _ (c.in_err-made.ensures.united name)
    c.from_residual-in_err-made.ensures.1 (λ why refused. united_under c.args.prune names repos name c.in_ok-name.ensures ∙ refused)

pub returns-clause-united : goal.returns-clause-united
returns-clause-united c =
    let name = c.in_ok-name.name in
    united_under c.args.prune c.args.names.now c.args.self.now.repos name c.in_ok-name.ensures ∙ c.in_ok-made.ensures.united name

pub returns-clause-free : goal.returns-clause-free
returns-clause-free c = free_none c.args.names.now c.args.self.now.repos c.in_ok-name.name c.in_ok-made.ensures.several c.in_ok-name.ensures

pub returns-clause-longer : goal.returns-clause-longer
returns-clause-longer c = free_longer c.args.names.now c.args.self.now.repos c.in_ok-name.name c.in_ok-made.ensures.several c.in_ok-name.ensures

pub returns-clause-bytes : goal.returns-clause-bytes
returns-clause-bytes c =
    free_bytes c.args.names.now c.args.self.now.repos c.in_ok-parts.parts c.in_ok-name.name c.in_ok-parts.ensures.parts c.in_ok-parts.ensures.named c.in_ok-name.ensures
