use Rattle.std.proofs.Common.{◌≡◌, arith, ap}
use Rattle.squash_delete.specs.Chains.{Noted}
use Rattle.squash_delete.proofs.EntryLemmas.{noted_past}
use Rattle.squash_delete.proofs.chains.LinkTable.pass_to.Goals as goal

pub returns-clause-others : goal.returns-clause-others
returns-clause-others c k past =
    let same : c.self.inside.count ≡ c.args.self.now.count = ap (λ (n : Noted). n.count) c.self.view_is in
    noted_past c.self.inside.count c.self.inside.entries.items c.self.invariant k (omega arith)
