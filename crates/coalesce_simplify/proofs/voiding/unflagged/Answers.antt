use Rattle.std.proofs.Common.{◌≡◌, ◌∙◌, ◌∷◌, [], ◌++◌, List, false, drop, get_or, suc, add-one, ap, sym}
use Rattle.plain_model.specs.declared.operation.FileOp.{FileOp}
use Rattle.history_laws.proofs.Lists.{item_at}
use Rattle.simplify_laws.specs.Simplify.{simpler}
use Rattle.coalesce_simplify.proofs.Noting.{goes_next, stays_next}
use Rattle.coalesce_simplify.proofs.voiding.unflagged.Goals as goal
use Rattle.coalesce_simplify.proofs.voiding.unflagged.Goals.{then-not-flag_at+in_ok-copied+in_ok-push, else-not-flag_at}

pub loop-place-preserved : goal.loop-place-preserved
loop-place-preserved c =
    let ops = c.args.ops.now in
    let flags = c.args.flags.now in
    let place = c.loop-place.place in
    let left = c.loop-place.left in
    let flag : c.flag_at.result ≡ get_or flags place false = c.flag_at.ensures in
    elim c.if-not-flag_at.branch [
      | then-not-flag_at+in_ok-copied+in_ok-push w ↦
          let op = w.nth.result.now in
          let longer : w.push.new.self ≡ left ++ op ∷ [] = w.in_ok-push.ensures.ok ∙ ap (λ (x : FileOp). left ++ x ∷ []) w.in_ok-copied.ensures in
          rw add-one (stays_next ops left c.if-not-flag_at.left place op flags c.requires w.nth.ensures (sym flag ∙ w.if-not-flag_at.true) c.loop-place.invariant (w.left-is ∙ longer))
      | else-not-flag_at w ↦
          let item = item_at ops place c.loop-place-test.true in
          let same : c.if-not-flag_at.left ≡ left = w.left-is in
          rw add-one (ap (λ (l : List FileOp). l ++ simpler (drop (suc place) ops)) same
          ∙ goes_next ops left place item.0 flags c.requires item.1 (sym flag ∙ w.if-not-flag_at.false) c.loop-place.invariant)
    ]
