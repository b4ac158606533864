use Rattle.std.proofs.Common.{◌∙◌, List, map, refl, ap, Some, None}
use Rattle.std.proofs.lemmas.Result.{on_ok_weaker}
use Rattle.plain_model.specs.declared.event.PlainEvent.{PlainEvent}
use Rattle.plain_model.specs.declared.event.PlainEvent.TheVariants.{Blob, Commit, Tag, Reset, Pass}
use Rattle.plain_model.specs.declared.id.AnyId.TheVariants as any
use Rattle.event_arena.specs.Changes.{changed, with_parents, with_target}
use Rattle.split_laws.specs.Split.{onto}
use Rattle.split_reorder.specs.Copies.{put_onto}
use Rattle.plan_steps.proofs.Steps.{alike_of, kept_of}
use Rattle.split_reorder.proofs.onto.put_onto.Goals as goal

pub returns-in-Commit : goal.returns-in-Commit
returns-in-Commit c =
    let plan = c.args.plan.now in
    let to = onto c.args.commit c.args.copy in
    let e = Commit c.in-Commit.id c.in-Commit.mark c.in-Commit.branch c.in-Commit.author c.in-Commit.committer c.in-Commit.encoding c.in-Commit.comment c.in-Commit.parents c.in-Commit.ops c.in-Commit.aliases in
    on_ok_weaker c.move_child.result (λ is.
    is ∙ ap (λ (es : List PlainEvent). record plan { after = es })
    (ap (λ ps. changed (any.Commit c.in-Commit.id) (with_parents (map to ps)) plan.after) c.as_slice.ensures
    ∙ alike_of plan.after c.args.event.now e (with_parents (map to c.in-Commit.parents)) (put_onto c.args.commit c.args.copy) c.in-Commit.is c.requires refl)) c.move_child.ensures

pub returns-in-Tag : goal.returns-in-Tag
returns-in-Tag c =
    let plan = c.args.plan.now in
    let e = Tag c.in-Tag.id c.in-Tag.name c.in-Tag.target c.in-Tag.tagger c.in-Tag.comment c.in-Tag.mark in
    on_ok_weaker c.move_target.result (λ is.
    is ∙ ap (λ (es : List PlainEvent). record plan { after = es })
    (alike_of plan.after c.args.event.now e (with_target (onto c.args.commit c.args.copy c.in-Tag.target)) (put_onto c.args.commit c.args.copy) c.in-Tag.is c.requires refl)) c.move_target.ensures

pub returns-in-Some : goal.returns-in-Some
returns-in-Some c =
    let plan = c.args.plan.now in
    let e = Reset c.in-Reset.id c.in-Reset.branch (Some c.in-Some.target) in
    let is_e = c.in-Reset.is ∙ ap (λ t. Reset c.in-Reset.id c.in-Reset.branch t) c.in-Some.is in
    on_ok_weaker c.move_target-in-Some.result (λ is.
    is ∙ ap (λ (es : List PlainEvent). record plan { after = es })
    (alike_of plan.after c.args.event.now e (with_target (onto c.args.commit c.args.copy c.in-Some.target)) (put_onto c.args.commit c.args.copy) is_e c.requires refl)) c.move_target-in-Some.ensures

pub returns-in-None : goal.returns-in-None
returns-in-None c =
    let is_e = c.in-Reset.is ∙ ap (λ t. Reset c.in-Reset.id c.in-Reset.branch t) c.in-None.is in
    kept_of c.args.plan.now c.args.event.now (Reset c.in-Reset.id c.in-Reset.branch None) (put_onto c.args.commit c.args.copy) is_e c.requires refl

pub returns-in-Blob : goal.returns-in-Blob
returns-in-Blob c =
    kept_of c.args.plan.now c.args.event.now (Blob c.in-Blob.id c.in-Blob.mark c.in-Blob.bytes) (put_onto c.args.commit c.args.copy) c.in-Blob.is c.requires refl

pub returns-in-Pass : goal.returns-in-Pass
returns-in-Pass c =
    kept_of c.args.plan.now c.args.event.now (Pass c.in-Pass.id c.in-Pass.line) (put_onto c.args.commit c.args.copy) c.in-Pass.is c.requires refl
