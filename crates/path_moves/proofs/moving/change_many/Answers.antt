use Rattle.std.proofs.Common.{◌≡◌, ◌∙◌, ap, sym, Ok}
use Rattle.std.proofs.lemmas.Result.{IfErr-weaker, IfOk-weaker}
use Rattle.plain_model.specs.Trees.{Tree, apply}
use Rattle.path_moves.proofs.moving.change_many.Goals as goal

pub returns : goal.returns
returns c =
    let old = c.args.pair.now.tree in
    let applied : apply c.args.op.now old ≡ Ok c.apply_sure.new.tree = ap (λ (t : Tree). apply c.args.op.now t) (sym c.in_ok-tree.ensures) ∙ c.in_ok-apply_sure.ensures in
    record {
      leads = IfOk-weaker c.write_out.result _ _ (λ next leads. leads old c.requires.paired applied) c.write_out.ensures.leads;
      fault = IfErr-weaker c.write_out.result _ _ (λ halt fault. fault old applied) c.write_out.ensures.fault;
    }
