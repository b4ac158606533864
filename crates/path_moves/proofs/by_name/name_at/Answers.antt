use Rattle.std.proofs.Common.{◌≡◌, ◌∙◌, List, ap, map, refl, subst}
use Rattle.std.specs.Prelude.{OnOk}
use Rattle.plain_model.specs.declared.event.PlainEvent.{PlainEvent}
use Rattle.plain_model.specs.declared.event.PlainEvent.TheVariants.{Commit}
use Rattle.plain_model.specs.declared.operation.FileOp.{FileOp}
use Rattle.event_arena.specs.Changes.{with_ops}
use Rattle.path_move_laws.specs.ByName.{named_event}
use Rattle.path_move_laws.specs.MovedOps.{mapped_op}
use Rattle.path_move_laws.specs.PathMaps.{image_of}
use Rattle.plan_steps.proofs.Steps.{alike_of, kept_of}
use Rattle.path_moves.proofs.CommitLemmas.{unnamed}
use Rattle.path_moves.proofs.by_name.name_at.Goals as goal

pub returns-in_default : goal.returns-in_default
returns-in_default c =
    let f = image_of c.args.map.now in
    let e = c.args.event.now in
    kept_of c.args.plan.now e e (named_event f) refl c.requires.found (unnamed f e c.in_default.not-Commit)

pub returns : goal.returns
returns c =
    let x = c.in-Commit in
    let f = image_of c.args.map.now in
    let plan = c.args.plan.now in
    let e = Commit x.id x.mark x.branch x.author x.committer x.encoding x.comment x.parents x.ops x.aliases in
    let ops : c.in_ok-made.made ≡ map (mapped_op f) x.ops = c.in_ok-made.ensures ∙ ap (map (mapped_op f)) c.as_slice.ensures in
    subst (λ (es : List PlainEvent). OnOk c.give_ops.result (c.give_ops.new.plan ≡ record plan { after = es }))
    (alike_of plan.after c.args.event.now e (with_ops c.in_ok-made.made) (named_event f) x.is c.requires.found
    (ap (λ (l : List FileOp). Commit x.id x.mark x.branch x.author x.committer x.encoding x.comment x.parents l x.aliases) ops))
    c.give_ops.ensures
