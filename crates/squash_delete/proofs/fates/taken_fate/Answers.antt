use Rattle.std.proofs.Common.{arith}
use Rattle.squash_delete.proofs.ChainLemmas.{all_before}
use Rattle.squash_delete.proofs.fates.taken_fate.Goals as goal

pub standing-requires-clause-before : goal.standing-requires-clause-before
standing-requires-clause-before c =
    let count = c.requires.rows.count in
    all_before c.args.removal.now.events _ (omega arith) c.args.parents.now c.requires.there

pub carried-requires-clause-before : goal.carried-requires-clause-before
carried-requires-clause-before c =
    let count = c.requires.count in
    all_before c.args.removal.now.events c.args.table.now.count (omega arith) c.args.parents.now c.requires.there

pub begins_anew-anew-requires-clause-before : goal.begins_anew-anew-requires-clause-before
begins_anew-anew-requires-clause-before c =
    let count = c.requires.count in
    all_before c.args.removal.now.events c.args.table.now.count (omega arith) c.args.parents.now c.requires.there
