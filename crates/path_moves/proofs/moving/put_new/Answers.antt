use Rattle.std.proofs.Common.{◌≡◌, ◌∙◌, ◌+◌, Some, false, length, sym, ap, subst}
use Rattle.plain_model.specs.declared.fault.Fault.TheVariants as fault
use Rattle.plain_model.specs.declared.fault.Halt.{Halt}
use Rattle.plain_model.specs.declared.fault.Which.TheVariants as limit
use Rattle.plain_model.specs.declared.limit.TheConstants.{MAX_PATH_BYTES}
use Rattle.plain_model.specs.declared.operation.FileOp.{FileOp}
use Rattle.plain_model.specs.Trees.{Tree}
use Rattle.path_move_laws.specs.MovedOps.{image_fault, is_path, mapped_op, names_paths}
use Rattle.path_move_laws.specs.PathMaps.{image_of}
use Rattle.path_moves.specs.Pairs.{IsFaulty}
use Rattle.path_moves.proofs.Known.{found_op, leads, no_op, put_fails, put_free, put_is_there, same_ok}
use Rattle.path_moves.proofs.moving.put_new.Goals as goal

pub returns : goal.returns
returns c = record { leads = tt; fault = c.fault_after.ensures c.args.op.now c.args.pair.tree c.in_ok-apply_sure.ensures }

pub returns-in_default-clause-fault : goal.returns-in_default-clause-fault
returns-in_default-clause-fault c =
    let f = image_of c.args.map.now in
    let op = c.args.op.now in
    let put = c.requires.put in
    let old = c.args.pair.tree in
    let tree = c.apply_sure.new.tree in
    let applied = c.in_ok-apply_sure.ensures in
    let none : is_path (f c.args.path.now) ≡ false =
    ap (λ (x : FileOp). names_paths (mapped_op f x)) (sym put.2) ∙ no_op c.in_ok-mapped.field-0 (names_paths (mapped_op f op)) (mapped_op f op) c.in_ok-mapped.ensures c.in_default.not-Some in
    let long =
    c.what_is_no_path_is_too_long.ensures c.args.map.now tree c.args.path.now c.has_paths.ensures c.as_bytes-bytes.ensures.form
    (put_is_there f op old c.args.pair.image tree put.0 put.1 c.args.path.now put.2 c.requires.paired applied) none in
    subst (λ (h : Halt). IsFaulty f c.args.place.mark c.args.place.number op old h) (sym c.too_long.ensures)
    (λ new does.
    subst (λ (t : Tree). image_fault f c.args.place.mark c.args.place.number t ≡ Some (fault.Limit limit.PathBytes MAX_PATH_BYTES)) (same_ok tree new (sym applied ∙ does))
    (c.a_long_image_comes_first.ensures.long f c.args.place.mark c.args.place.number tree long))

pub returns-then-branch-clause-leads : goal.returns-then-branch-clause-leads
returns-then-branch-clause-leads c =
    let f = image_of c.args.map.now in
    let op = c.args.op.now in
    let put = c.requires.put in
    let old = c.args.pair.tree in
    let tree = c.apply_sure.new.tree in
    let applied = c.in_ok-apply_sure.ensures in
    let found = found_op c.in_ok-mapped.field-0 (names_paths (mapped_op f op)) (mapped_op f op) c.in-Some.mapped c.in_ok-mapped.ensures c.in-Some.is in
    let one : length tree ≡ length old + 1 = sym c.len.ensures ∙ c.is_one_more.ensures.0 c.if-not-is_one_more.false ∙ ap (λ n. n + 1) c.len-count.ensures in
    let grown = c.in_ok-grows.ensures.more c.if-branch.true in
    let right = put_free f op old c.args.pair.image tree put.0 put.1 c.args.path.now put.2 c.requires.paired applied found.0 one c.in-Some.mapped found.1 c.grows.new.tree grown.0 grown.1 in
    leads f op old tree c.grows.new.tree c.args.made.now c.push.new.self c.in-Some.mapped applied right found.1 c.in_ok-push.ensures.ok

pub fault_after-requires-clause-fault : goal.fault_after-requires-clause-fault
fault_after-requires-clause-fault c = λ its pair.
    let f = image_of c.args.map.now in
    let op = c.args.op.now in
    let put = c.requires.put in
    let old = c.args.pair.tree in
    let tree = c.apply_sure.new.tree in
    let found = found_op c.in_ok-mapped.field-0 (names_paths (mapped_op f op)) (mapped_op f op) c.in-Some.mapped c.in_ok-mapped.ensures c.in-Some.is in
    let one : length tree ≡ length old + 1 = sym c.len.ensures ∙ c.is_one_more.ensures.0 c.if-not-is_one_more.false ∙ ap (λ n. n + 1) c.len-count.ensures in
    put_fails f op old c.args.pair.image tree put.0 put.1 c.args.path.now put.2 c.requires.paired c.in_ok-apply_sure.ensures found.0 one c.in-Some.mapped found.1
    (c.in_ok-grows.ensures.only c.if-branch.false) its pair
