use Rattle.std.proofs.Common.{◌≡◌, ◌∙◌, ◌++◌, List, ℕ, Some, None, false, refl, ap, sym}
use Rattle.std.proofs.lemmas.Result.{on_ok_weaker}
use Rattle.plain_model.specs.declared.event.PlainEvent.{PlainEvent}
use Rattle.plain_model.specs.declared.event.PlainEvent.TheVariants.{Blob, Commit, Tag, Reset, Pass}
use Rattle.plain_model.specs.declared.id.AnyId.TheVariants as any
use Rattle.plain_model.specs.declared.operation.FileOp.{FileOp}
use Rattle.plain_model.specs.Lookups.{id_of, is_listed}
use Rattle.history_laws.specs.FirstParents.{ops_along}
use Rattle.event_arena.specs.Changes.{changed, with_ops, with_parents, with_target}
use Rattle.squash_laws.specs.Takings.{links}
use Rattle.coalesce_laws.specs.Remaining.{parents_of_oldest}
use Rattle.coalesce_simplify.specs.Joining.{end_of, joined_event}
use Rattle.coalesce_simplify.proofs.Left.{begin_same, blob_same, commit_joined, one_same, pass_same, reset_moved, tag_moved}
use Rattle.plan_steps.proofs.Steps.{alike_of, kept_of}
use Rattle.coalesce_simplify.proofs.coalescing.join_at.Goals as goal

pub returns-then-has_at : goal.returns-then-has_at
returns-then-has_at c =
    let set = c.args.going.now.set in
    let events = c.args.going.now.events in
    let e = c.args.event.now in
    kept_of c.args.plan.now e e (joined_event set events) refl c.requires.found
    (one_same set events e (sym (c.has_at.ensures e c.requires.event) ∙ c.if-has_at.true))

pub returns-in-Commit : goal.returns-in-Commit
returns-in-Commit c =
    let set = c.args.going.now.set in
    let events = c.args.going.now.events in
    let plan = c.args.plan.now in
    let x = c.args.event.now in
    let v = c.in-Commit in
    let e = Commit v.id v.mark v.branch v.author v.committer v.encoding v.comment v.parents v.ops v.aliases in
    let stays : is_listed (any.Commit v.id) set ≡ false = ap (λ (y : PlainEvent). is_listed (id_of y) set) (sym v.is) ∙ sym (c.has_at.ensures x c.requires.event) ∙ c.if-has_at.false in
    let get : List ℕ → List FileOp → PlainEvent → PlainEvent = λ ps os y. with_parents (parents_of_oldest (links set events ps) ps) (with_ops (ops_along (links set events ps) ++ os) y) in
    on_ok_weaker c.join_commit.result (λ is.
    is ∙ ap (λ (es : List PlainEvent). record plan { after = es })
    ((λ i. changed (any.Commit v.id) (get (c.as_slice.ensures i) (c.as_slice-in-Commit.ensures i)) plan.after)
    ∙ alike_of plan.after x e (get v.parents v.ops) (joined_event set events) v.is c.requires.found
    (commit_joined set events c.count-count.ensures.sound c.requires.joined c.args.place v.id v.mark v.branch v.author v.committer v.encoding v.comment v.parents v.ops v.aliases
    (c.requires.event ∙ ap (λ (y : PlainEvent). Some y) v.is) stays))) c.join_commit.ensures

pub returns-in-Tag : goal.returns-in-Tag
returns-in-Tag c =
    let set = c.args.going.now.set in
    let events = c.args.going.now.events in
    let plan = c.args.plan.now in
    let x = c.args.event.now in
    let v = c.in-Tag in
    let e = Tag v.id v.name v.target v.tagger v.comment v.mark in
    let stays : is_listed (any.Tag v.id) set ≡ false = ap (λ (y : PlainEvent). is_listed (id_of y) set) (sym v.is) ∙ sym (c.has_at.ensures x c.requires.event) ∙ c.if-has_at.false in
    on_ok_weaker c.move_target.result (λ is.
    is ∙ ap (λ (es : List PlainEvent). record plan { after = es })
    (alike_of plan.after x e (with_target (end_of set events v.target)) (joined_event set events) v.is c.requires.found
    (tag_moved set events v.id v.name v.target v.tagger v.comment v.mark stays))) c.move_target.ensures

pub returns-in-Some : goal.returns-in-Some
returns-in-Some c =
    let set = c.args.going.now.set in
    let events = c.args.going.now.events in
    let plan = c.args.plan.now in
    let x = c.args.event.now in
    let v = c.in-Reset in
    let e = Reset v.id v.branch (Some c.in-Some.target) in
    let is_e : x ≡ e = v.is ∙ ap (λ t. Reset v.id v.branch t) c.in-Some.is in
    let stays : is_listed (any.Reset v.id) set ≡ false = ap (λ (y : PlainEvent). is_listed (id_of y) set) (sym v.is) ∙ sym (c.has_at.ensures x c.requires.event) ∙ c.if-has_at.false in
    on_ok_weaker c.move_target-in-Some.result (λ is.
    is ∙ ap (λ (es : List PlainEvent). record plan { after = es })
    (alike_of plan.after x e (with_target (end_of set events c.in-Some.target)) (joined_event set events) is_e c.requires.found
    (reset_moved set events v.id v.branch c.in-Some.target stays))) c.move_target-in-Some.ensures

pub returns-in-None : goal.returns-in-None
returns-in-None c =
    let set = c.args.going.now.set in
    let events = c.args.going.now.events in
    let v = c.in-Reset in
    let is_e = v.is ∙ ap (λ t. Reset v.id v.branch t) c.in-None.is in
    kept_of c.args.plan.now c.args.event.now (Reset v.id v.branch None) (joined_event set events) is_e c.requires.found (begin_same set events v.id v.branch)

pub returns-in-Blob : goal.returns-in-Blob
returns-in-Blob c =
    let set = c.args.going.now.set in
    let events = c.args.going.now.events in
    let v = c.in-Blob in
    kept_of c.args.plan.now c.args.event.now (Blob v.id v.mark v.bytes) (joined_event set events) v.is c.requires.found (blob_same set events v.id v.mark v.bytes)

pub returns-in-Pass : goal.returns-in-Pass
returns-in-Pass c =
    let set = c.args.going.now.set in
    let events = c.args.going.now.events in
    let v = c.in-Pass in
    kept_of c.args.plan.now c.args.event.now (Pass v.id v.line) (joined_event set events) v.is c.requires.found (pass_same set events v.id v.line)
