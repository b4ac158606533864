use Rattle.std.proofs.Common.{subst, sym}
use Rattle.squash_delete.proofs.ChainLemmas.{IsOnTheWay, way_begins}
use Rattle.squash_delete.proofs.chains.carried.Goals as goal

pub loop-at-init : goal.loop-at-init
loop-at-init c =
    let events = c.args.removal.now.events in
    let set = c.args.removal.now.set in
    let ps = c.args.parents.now in
    subst (IsOnTheWay set events ps c.nearest-at.result) (sym c.new-commits.ensures.items)
    (way_begins set events c.args.table.now.count ps c.nearest-at.result (c.nearest-at.ensures c.args.table.now.count c.requires.before))
