use Rattle.std.proofs.Common.{◌-◌, ◌<◌, length, arith, sym}
use Rattle.stream_drafts.proofs.Rising.{last_at}
use Rattle.stream_drafts.proofs.marked_ids.last_of.Goals as goal

pub returns-else-is_empty : goal.returns-else-is_empty
returns-else-is_empty c =
    let rising = c.args.rising.now in
    let some : 0 < length rising = grind (arith, c.is_empty.ensures, c.if-is_empty.false) in
    sym (last_at 0 rising (length rising - 1) (0, 0) (omega arith))
