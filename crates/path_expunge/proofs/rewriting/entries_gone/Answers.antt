use Rattle.std.proofs.Common.{◌∙◌, ◌+◌, ◌≤◌, Bool, cond, length, ap, sym, subst, arith}
use Rattle.plain_model.specs.Trees.{Tree, subtree}
use Rattle.path_expunge.specs.Written.{gone_of}
use Rattle.path_expunge.proofs.WrittenLemmas.{gone_near, keeps}
use Rattle.path_expunge.proofs.rewriting.entries_gone.Goals as goal
use Rattle.path_expunge.proofs.rewriting.entries_gone.Goals.{then-copied, else-copied}

pub returns-then-more-len : goal.returns-then-more-len
returns-then-more-len c m =
    let old = c.args.old.now in
    let new = c.args.new.now in
    let source = c.args.source.now in
    let target = c.args.target.now in
    let taken = subtree source old in
    let low = c.if-len.true in
    let rest = c.if-more-len.true in
    let a = c.len.ensures in
    let b = c.len-2.ensures in
    let d = c.len-then-len.ensures in
    let e = c.len-then-len-2.ensures in
    let enough : length old + cond c.args.copied (length taken) 0 ≤ length new =
    elim c.if-copied.branch [
      | then-copied w ↦
          let all = ap length (w.as_slice.ensures ∙ c.in_ok-taken.ensures) in
          let more = w.more-is in
          subst (λ (x : Bool). length old + cond x (length taken) 0 ≤ length new) (sym w.if-copied.true) (omega arith)
      | else-copied w ↦
          subst (λ (x : Bool). length old + cond x (length taken) 0 ≤ length new) (sym w.if-copied.false) (omega arith)
    ] in
    ap (λ (es : Tree). gone_of m new es) c.in_ok-taken.ensures
    ∙ gone_near source target old new c.requires.tree m (keeps source target old new c.requires.tree c.args.copied c.requires.applied enough)
