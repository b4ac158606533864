use Rattle.std.proofs.Common.{◌≡◌, ◌-◌, ◌+◌, suc, length, drop, arith, subst}
use Rattle.std.proofs.Math.ListN.{set}
use Rattle.coalesce_simplify.specs.Voiding.{AreVoid, Knows}
use Rattle.coalesce_simplify.proofs.Noting.{pass_begins, pass_goes_on}
use Rattle.coalesce_simplify.proofs.voiding.void_flags.Goals as goal

pub loop-done-init : goal.loop-done-init
loop-done-init c =
    let ops = c.args.ops.now in
    pass_begins ops (length ops - 0) c.new-later.result c.in_ok-flags.flags.items (omega arith) c.new-later.ensures c.in_ok-flags.ensures

pub loop-done-preserved : goal.loop-done-preserved
loop-done-preserved c =
    let ops = c.args.ops.now in
    let n = length ops in
    let done = c.loop-done.done in
    let k = n - 1 - done in
    let test = c.loop-done-test.true in
    let was : n - done ≡ suc k = omega arith in
    let now : k ≡ n - (done + 1) = omega arith in
    let old = subst (λ j. Knows (drop j ops) c.loop-done.later × AreVoid ops j c.loop-done.flags.items) was c.loop-done.invariant in
    subst (λ j. Knows (drop j ops) c.note.new.self × AreVoid ops j (set c.loop-done.flags.items k c.is_void.result)) now
    (pass_goes_on ops k c.nth-op.result.now c.loop-done.later c.note.new.self c.loop-done.flags.items c.is_void.result c.nth-op.ensures old.0 old.1 c.is_void.ensures (c.in_ok-note.ensures (drop (suc k) ops)))
