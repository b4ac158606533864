use Rattle.std.proofs.Common.{◌≡◌, ◌∙◌, ◌||◌, ◌++◌, [], List, Bool, Option, cond, ap, append-nil, subst, sym, suc, take, add-one}
use Rattle.std.specs.Prelude.{IfSome}
use Rattle.std.proofs.Math.Bool.{or-false, or-true}
use Rattle.plain_model.specs.Lookups.{op_blobs}
use Rattle.expunge_laws.specs.Matching.{Matches, matched_by}
use Rattle.expunge_laws.specs.Untouched.{may_touch}
use Rattle.plan_steps.specs.Flags.{FlagsAdd}
use Rattle.plan_steps.proofs.SweepLemmas.{adds_join}
use Rattle.path_expunge.specs.Apart.{AreSides, IsNoted}
use Rattle.path_expunge.proofs.NamingLemmas.{blobs_left, left_more, ops_noted, ops_taken}
use Rattle.path_expunge.proofs.naming.Named.note_ops.Goals as goal
use Rattle.path_expunge.proofs.naming.Named.note_ops.Goals.{then-is_taken, else-is_taken}

pub flag_blob-requires : goal.flag_blob-requires
flag_blob-requires c = c.loop-op.invariant.named.count ∙ c.requires.flags

pub loop-op-preserved : goal.loop-op-preserved
loop-op-preserved c =
    let m = matched_by c.args.matching.now in
    let new = c.note_op.new.self in
    let k = c.loop-op.op-index in
    let op = c.op-item.result in
    let ops = c.args.ops.now in
    let table = c.args.table.now in
    let before = c.loop-op.taken in
    let own = c.in-Some.is_taken in
    let noted : IsNoted new op = subst (λ (o : Option Bool). IfSome o (λ taken. IsNoted new op)) c.in-Some.is c.in_ok-is_taken.ensures.noted in
    let is : own ≡ may_touch m op =
    subst (λ (o : Option Bool). IfSome o (λ taken. taken ≡ may_touch (matched_by c.loop-op.matching) op)) c.in-Some.is c.in_ok-is_taken.ensures.taken
    ∙ ap (λ (ms : List Matches). may_touch (matched_by ms) op) c.loop-op.invariant.same in
    let either : c.if-is_taken.taken ≡ before || own = elim c.if-is_taken.branch [
      | then-is_taken w ↦ w.taken-is ∙ sym (ap (λ b. before || b) w.if-is_taken.true ∙ or-true before)
      | else-is_taken w ↦ w.taken-is ∙ sym (ap (λ b. before || b) w.if-is_taken.false ∙ or-false before)
    ] in
    let left : blobs_left m (take (suc k) ops) ≡ blobs_left m (take k ops) ++ cond own [] (op_blobs op) =
    left_more m ops k op c.loop-op-test.true c.op-item.is ∙ ap (λ b. blobs_left m (take k ops) ++ cond b [] (op_blobs op)) (sym is) in
    let flags : FlagsAdd table (blobs_left m (take (suc k) ops)) c.args.named.now c.if-is_taken.named = elim c.if-is_taken.branch [
      | then-is_taken w ↦
          let none = left ∙ ap (λ b. blobs_left m (take k ops) ++ cond b [] (op_blobs op)) w.if-is_taken.true ∙ append-nil (blobs_left m (take k ops)) in
          rw (none, w.named-is) c.loop-op.invariant.named
      | else-is_taken w ↦
          let more = left ∙ ap (λ b. blobs_left m (take k ops) ++ cond b [] (op_blobs op)) w.if-is_taken.false in
          rw (more, w.named-is) (adds_join table (blobs_left m (take k ops)) (op_blobs op) c.args.named.now c.loop-op.named w.flag_blob.new.flags c.loop-op.invariant.named w.flag_blob.ensures)
    ] in
    record {
      same = c.in_ok-is_taken.ensures.same ∙ c.loop-op.invariant.same;
      sides = subst (λ (ms : List Matches). AreSides (matched_by ms) new) c.loop-op.invariant.same c.in_ok-is_taken.ensures.sides;
      more = λ path h. c.in_ok-is_taken.ensures.more path (c.loop-op.invariant.more path h);
      noted = rw add-one (ops_noted c.loop-op.self new c.in_ok-is_taken.ensures.more ops k op c.loop-op-test.true c.op-item.is c.loop-op.invariant.noted noted);
      named = rw add-one flags;
      taken = rw add-one (either ∙ ops_taken m ops k op before own c.loop-op-test.true c.op-item.is c.loop-op.invariant.taken is);
    }
