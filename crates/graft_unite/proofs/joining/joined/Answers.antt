use Rattle.std.proofs.Common.{◌∙◌, List, map, sym, subst}
use Rattle.std.specs.Prelude.{flat_map, IsTrue}
use Rattle.plain_model.specs.declared.event.PlainEvent.{PlainEvent}
use Rattle.plain_model.specs.declared.id.AnyId.TheVariants as any
use Rattle.plain_model.specs.declared.operation.FileOp.{FileOp}
use Rattle.plain_model.specs.Lookups.{op_blobs, referents_of}
use Rattle.plain_model.specs.Soundness.{has_id}
use Rattle.edit_laws.proofs.Lists.{all_rear}
use Rattle.graft_unite.specs.Numbering.{AreThere}
use Rattle.graft_unite.specs.Placed.{replaced}
use Rattle.graft_unite.proofs.PlacedLemmas.{commit_there, if_ok}
use Rattle.graft_unite.proofs.joining.joined.Goals as goal

pub placed-requires-clause-ops : goal.placed-requires-clause-ops
placed-requires-clause-ops g c =
    let part = c.args.numbers.now.part in
    let there = subst (λ (e : PlainEvent). AreThere part (referents_of e)) c.in-Commit.is c.requires.there in
    let ops = all_rear (λ id. IsTrue (has_id part id)) (map any.Commit c.in-Commit.parents) (flat_map op_blobs c.in-Commit.ops) there in
    subst (λ (l : List FileOp). AreThere part (flat_map op_blobs l)) (sym (c.as_slice-ops.ensures ∙ c.as_ref.ensures)) ops

pub returns-in_ok-branch-in-Commit : goal.returns-in_ok-branch-in-Commit
returns-in_ok-branch-in-Commit g c =
    let n = c.args.numbers.now in
    let how = g.J.Join.joining c.args.how.now in
    let v = c.in-Commit in
    if_ok c.replaced.result _ _
    (λ made is.
    is
    ∙ (λ i. replaced (c.new-in-Commit.ensures i) c.args.mark (c.in_ok-branch-in-Commit.ensures i) (c.in_ok-parents-in-Commit.ensures.parents i) (c.in_ok-parents-in-Commit.ensures.ops i) c.args.event.now)
    ∙ commit_there how n c.args.number c.args.mark c.args.event.now v.id v.mark v.branch v.author v.committer v.encoding v.comment v.parents c.as_slice-parents.result.now v.ops c.as_slice-ops.result.now v.aliases v.is c.as_slice-parents.ensures (c.as_slice-ops.ensures ∙ c.as_ref.ensures))
    c.replaced.ensures
