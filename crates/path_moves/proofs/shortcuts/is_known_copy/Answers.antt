use Rattle.std.proofs.Common.{◌≡◌, ◌∙◌, ℕ, ◌+◌, true, length, sym, ap, subst, arith, Option}
use Rattle.std.specs.Prelude.{IfSome}
use Rattle.plain_model.specs.Paths.{Bytes}
use Rattle.path_move_laws.specs.MovedOps.{mapped_op}
use Rattle.path_move_laws.specs.PathMaps.{image_of, is_torn}
use Rattle.path_move_laws.specs.Steady.{GoesAlong}
use Rattle.plain_model.specs.declared.operation.FileOp.{FileOp}
use Rattle.plain_model.specs.declared.operation.FileOp.TheVariants.{Copy}
use Rattle.plain_model.specs.Trees.{has, subtree}
use Rattle.path_moves.proofs.Known.{copy_free, copy_there}
use Rattle.path_moves.proofs.shortcuts.is_known_copy.Goals as goal

pub returns-then-is_some : goal.returns-then-is_some
returns-then-is_some c = λ known.
    let f = image_of c.args.map.now in
    let source = c.args.source.now in
    let target = c.args.target.now in
    let from_source : GoesAlong f source = c.what_is_below_goes_along.ensures c.args.map.now source (sym (c.is_torn.ensures ∙ ap (is_torn c.args.map.now) c.as_bytes.ensures.value) ∙ c.if-is_torn.false) in
    let from_target : GoesAlong f target = c.what_is_below_goes_along.ensures c.args.map.now target (sym (c.is_torn-else-is_torn.ensures ∙ ap (is_torn c.args.map.now) c.as_bytes-else-is_torn.ensures.value) ∙ c.if-is_torn-2.false) in
    let both : ◌≡◌ {A = FileOp} (Copy c.in-Copy.image c.in-Copy.target) (Copy (f source) (f target)) = sym c.in-Copy.is ∙ c.requires.tried.is ∙ ap (mapped_op f) c.requires.copy in
    let image : c.in-Copy.image ≡ f source = cc in
    let many : length (subtree source c.args.before.now.tree) ≡ length (subtree (f source) c.args.before.now.image) =
    (let facts = subst (λ (o : Option ℕ). IfSome o (λ count. (count ≡ length (subtree source c.args.before.now.tree)) × (count ≡ length (subtree c.in-Copy.image c.args.before.now.image)))) c.in-Some.is c.in_ok-taken.ensures in sym facts.0 ∙ facts.1 ∙ ap (λ (z : Bytes). length (subtree z c.args.before.now.image)) image) in
    let there : has c.args.before.now.tree target ≡ true = (let a = c.get.ensures in let b = c.is_some.ensures in let d = c.if-is_some.true in grind (arith)) in
    copy_there f c.args.op.now c.args.before.now.tree c.args.before.now.image c.args.tree.now c.args.tried.now.made c.args.tried.now.op c.requires.paired c.requires.tried c.requires.applied source target c.requires.copy from_source from_target many there

pub returns : goal.returns
returns c = λ known.
    let f = image_of c.args.map.now in
    let source = c.args.source.now in
    let target = c.args.target.now in
    let from_source : GoesAlong f source = c.what_is_below_goes_along.ensures c.args.map.now source (sym (c.is_torn.ensures ∙ ap (is_torn c.args.map.now) c.as_bytes.ensures.value) ∙ c.if-is_torn.false) in
    let from_target : GoesAlong f target = c.what_is_below_goes_along.ensures c.args.map.now target (sym (c.is_torn-else-is_torn.ensures ∙ ap (is_torn c.args.map.now) c.as_bytes-else-is_torn.ensures.value) ∙ c.if-is_torn-2.false) in
    let both : ◌≡◌ {A = FileOp} (Copy c.in-Copy.image c.in-Copy.target) (Copy (f source) (f target)) = sym c.in-Copy.is ∙ c.requires.tried.is ∙ ap (mapped_op f) c.requires.copy in
    let image : c.in-Copy.image ≡ f source = cc in
    let many : length (subtree source c.args.before.now.tree) ≡ length (subtree (f source) c.args.before.now.image) =
    (let facts = subst (λ (o : Option ℕ). IfSome o (λ count. (count ≡ length (subtree source c.args.before.now.tree)) × (count ≡ length (subtree c.in-Copy.image c.args.before.now.image)))) c.in-Some.is c.in_ok-taken.ensures in sym facts.0 ∙ facts.1 ∙ ap (λ (z : Bytes). length (subtree z c.args.before.now.image)) image) in
    let gained = c.has_gained.ensures known in
    let taken : c.in-Some.taken ≡ length (subtree source c.args.before.now.tree) = (subst (λ (o : Option ℕ). IfSome o (λ count. (count ≡ length (subtree source c.args.before.now.tree)) × (count ≡ length (subtree c.in-Copy.image c.args.before.now.image)))) c.in-Some.is c.in_ok-taken.ensures).0 in
    copy_free f c.args.op.now c.args.before.now.tree c.args.before.now.image c.args.tree.now c.args.tried.now.made c.args.tried.now.op c.requires.paired c.requires.tried c.requires.applied source target c.requires.copy from_source from_target many
    (gained.0 ∙ ap (λ n. length c.args.before.now.tree + n) taken) (gained.1 ∙ ap (λ n. length c.args.before.now.image + n) taken)
