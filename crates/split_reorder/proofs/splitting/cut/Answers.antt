use Rattle.std.proofs.Common.{◌≡◌, ◌∙◌, ◌≤◌, ◌∷◌, [], List, Some, length, map, take, drop, sym, ap, subst}
use Rattle.std.specs.Prelude.{is_some}
use Rattle.std.proofs.lemmas.Result.{on_ok_weaker}
use Rattle.plain_model.specs.declared.id.AnyId.TheVariants as any
use Rattle.plain_model.specs.declared.operation.FileOp.{FileOp}
use Rattle.plain_model.specs.declared.event.PlainEvent.{PlainEvent}
use Rattle.plain_model.specs.declared.event.PlainEvent.TheVariants.{Commit}
use Rattle.plain_model.specs.Histories.{Node}
use Rattle.plain_model.specs.Lookups.{event_ops, find_event, id_of}
use Rattle.history_laws.proofs.Ids.{find_id}
use Rattle.event_arena.specs.declared.field.Field.TheVariants as field
use Rattle.event_arena.specs.Changes.{changed, put_after, with_ops}
use Rattle.event_arena.specs.Graphs.{Change}
use Rattle.event_arena.proofs.ChangeLemmas.{id_with_field}
use Rattle.event_arena.proofs.SpentLemmas.{adds_changed}
use Rattle.split_reorder.specs.Copies.{put_onto}
use Rattle.split_reorder.proofs.Halving.{cut_found, onto_id}
use Rattle.plan_steps.proofs.Nodes.{found_node, only_commits}
use Rattle.plan_steps.proofs.Steps.{found_mapped, still_there}
use Rattle.split_reorder.proofs.splitting.cut.Goals as goal

pub unreachable-requires : goal.unreachable-requires
unreachable-requires c =
    let found = sym (rw c.unwrap-event.ensures at c.event.ensures) in
    only_commits c.args.commit c.unwrap-event.result.now (find_id (any.Commit c.args.commit) c.args.events.now.list c.unwrap-event.result.now found) c.in_default.not-Commit

pub split_at-requires : goal.split_at-requires
split_at-requires c =
    let events = c.args.events.now.list in
    let found = sym (rw c.unwrap-event.ensures at c.event.ensures) in
    let ops = ap (λ (n : Node). n.ops) (found_node events c.count-count.ensures.sound c.args.commit c.unwrap-event.result.now found) ∙ ap event_ops c.in-Commit.is in
    subst (λ (l : List FileOp). c.args.kept ≤ length l) (ops ∙ sym c.as_slice.ensures) c.requires.within

pub set_ops-requires : goal.set_ops-requires
set_ops-requires c =
    ap (λ (es : List PlainEvent). is_some (find_event (any.Commit c.args.commit) es)) c.requires.moved
    ∙ found_mapped (put_onto c.args.commit c.args.copy) (onto_id c.args.commit c.args.copy) (any.Commit c.args.commit) c.args.events.now.list
    ∙ c.requires.there

pub insert_after-requires-clause-there : goal.insert_after-requires-clause-there
insert_after-requires-clause-there c =
    let id = any.Commit c.args.commit in
    ap (λ (p : Change). is_some (find_event id p.after)) c.in_ok-set_ops.ensures.ok
    ∙ still_there id (with_ops c.in_ok-of-4.field-0) (id_with_field (field.Ops c.in_ok-of-4.field-0)) c.args.plan.now.after id
    ∙ ap (λ (es : List PlainEvent). is_some (find_event id es)) c.requires.moved
    ∙ found_mapped (put_onto c.args.commit c.args.copy) (onto_id c.args.commit c.args.copy) id c.args.events.now.list
    ∙ c.requires.there

pub insert_after-requires-clause-unknown : goal.insert_after-requires-clause-unknown
insert_after-requires-clause-unknown c =
    ap (λ (p : Change). find_event (any.Commit c.args.copy) p.after) c.in_ok-set_ops.ensures.ok
    ∙ adds_changed (any.Commit c.args.commit) (with_ops c.in_ok-of-4.field-0) (id_with_field (field.Ops c.in_ok-of-4.field-0)) c.args.plan.now.after (any.Commit c.args.copy) c.requires.unknown

pub returns : goal.returns
returns c =
    let events = c.args.events.now.list in
    let plan = c.args.plan.now in
    let own = any.Commit c.args.commit in
    let w = c.in-Commit in
    let kept = c.args.kept in
    let found : find_event own events ≡ Some c.unwrap-event.result.now = sym (rw c.unwrap-event.ensures at c.event.ensures) in
    let is_own : any.Commit c.args.commit ≡ any.Commit w.id = find_id own events c.unwrap-event.result.now found ∙ ap id_of w.is in
    let same : w.id ≡ c.args.commit = cc in
    let whole : find_event own events ≡ Some (Commit c.args.commit w.mark w.branch w.author w.committer w.encoding w.comment w.parents w.ops w.aliases) =
    found ∙ ap Some (w.is ∙ ap (λ x. Commit x w.mark w.branch w.author w.committer w.encoding w.comment w.parents w.ops w.aliases) same) in
    let branch : c.in_ok-copied.field-0 ≡ w.branch = c.in_ok-copied.ensures in
    let author : c.in_ok-copied-2.field-0 ≡ w.author = c.in_ok-copied-2.ensures in
    let committer : c.in_ok-copied-3.field-0 ≡ w.committer = c.in_ok-copied-3.ensures in
    let encoding : c.in_ok-copied-4.field-0 ≡ w.encoding = c.in_ok-copied-4.ensures in
    let comment : c.in_ok-copied-5.field-0 ≡ w.comment = c.in_ok-copied-5.ensures in
    let parents : c.in_ok-of.field-0 ≡ c.args.commit ∷ [] = c.in_ok-of.ensures in
    let second : c.in_ok-new.field-0 ≡ drop kept w.ops = c.in_ok-new.ensures ∙ c.in_ok-of-2.ensures ∙ c.split_at.ensures.back ∙ ap (drop kept) c.as_slice.ensures in
    let none : c.in_ok-of-3.field-0 ≡ [] = c.in_ok-of-3.ensures in
    let first : c.in_ok-of-4.field-0 ≡ take kept w.ops = c.in_ok-of-4.ensures ∙ c.split_at.ensures.front ∙ ap (take kept) c.as_slice.ensures in
    let made = Commit c.args.copy c.args.mark c.in_ok-copied.field-0 c.in_ok-copied-2.field-0 c.in_ok-copied-3.field-0 c.in_ok-copied-4.field-0 c.in_ok-copied-5.field-0 c.in_ok-of.field-0 c.in_ok-new.field-0 c.in_ok-of-3.field-0 in
    let moved : plan.after ≡ map (put_onto c.args.commit c.args.copy) events = c.requires.moved in
    on_ok_weaker c.insert_after.result (λ is.
    is ∙ ap (λ (p : Change). record p { after = put_after own made p.after }) c.in_ok-set_ops.ensures.ok
    ∙ ap (λ (es : List PlainEvent). record plan { after = es })
    ((λ i. put_after own (Commit c.args.copy c.args.mark (branch i) (author i) (committer i) (encoding i) (comment i) (parents i) (second i) (none i)) (changed own (with_ops (first i)) (moved i)))
    ∙ cut_found c.args.commit c.args.copy c.args.mark kept events c.count-count.ensures.sound w.mark w.branch w.author w.committer w.encoding w.comment w.parents w.ops w.aliases whole)) c.insert_after.ensures.ok
