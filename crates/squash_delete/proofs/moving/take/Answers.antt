use Rattle.std.proofs.Common.{◌≡◌, ◌∙◌, List, Some, length, ap, subst, sym}
use Rattle.std.proofs.lemmas.Option.{same_Some}
use Rattle.plain_model.specs.declared.event.PlainEvent.{PlainEvent}
use Rattle.plain_model.specs.declared.event.PlainEvent.TheVariants.{Commit}
use Rattle.plain_model.specs.Lookups.{commit_id}
use Rattle.plain_model.specs.declared.id.AnyId.TheVariants as any
use Rattle.event_arena.specs.Changes.{changed, with_comment, with_ops}
use Rattle.event_arena.specs.Graphs.{Change}
use Rattle.squash_delete.specs.Taking.{IsTakenBy, comment_taken, ops_taken}
use Rattle.squash_delete.proofs.MovingLemmas.{commit_taken, le_is, none_taken, own_count, same_taken}
use Rattle.plan_steps.proofs.WayLemmas.{no_id}
use Rattle.squash_delete.proofs.moving.take.Goals as goal

pub returns-in_default : goal.returns-in_default
returns-in_default c par takes event at no_removed taken start was =
    let events = c.args.removal.now.events in
    let e = c.nth.result.now in
    let same : event ≡ e = same_Some event e (sym at ∙ c.nth.ensures.event) in
    let n = none_taken c.args.removal.now.set events c.count-count.ensures.sound par takes c.args.place event at (ap commit_id same ∙ no_id e c.in_default.not-Commit) in
    (was ∙ ap (λ (es : List PlainEvent). record start { after = es }) n.0, le_is _ _ n.1)

pub returns-then-is_nothing : goal.returns-then-is_nothing
returns-then-is_nothing c par takes event at no_removed taken start was =
    let events = c.args.removal.now.events in
    let set = c.args.removal.now.set in
    let t = c.args.taking.now in
    let e = c.nth.result.now in
    let v = c.in-Commit in
    let is : event ≡ Commit v.id v.mark v.branch v.author v.committer v.encoding v.comment v.parents v.ops v.aliases = same_Some event e (sym at ∙ c.nth.ensures.event) ∙ v.is in
    let n = same_taken set events c.count-count.ensures.sound par takes c.args.place v.id v.mark v.branch v.author v.committer v.encoding v.comment v.parents v.ops v.aliases
    (at ∙ ap Some is) (no_removed v.id (ap commit_id is)) t (sym c.is_nothing.ensures ∙ c.if-is_nothing.true) (subst (IsTakenBy events t takes) is taken) in
    (was ∙ ap (λ (es : List PlainEvent). record start { after = es }) n.0, le_is _ _ (ap length c.as_slice.ensures ∙ n.1 ∙ sym (ap (own_count set events c.count-count.ensures.sound par takes) is)))

pub returns : goal.returns
returns c par takes event at no_removed taken start was =
    let events = c.args.removal.now.events in
    let set = c.args.removal.now.set in
    let t = c.args.taking.now in
    let e = c.nth.result.now in
    let v = c.in-Commit in
    let is : event ≡ Commit v.id v.mark v.branch v.author v.committer v.encoding v.comment v.parents v.ops v.aliases = same_Some event e (sym at ∙ c.nth.ensures.event) ∙ v.is in
    let ops = c.in_ok-ops.ops in
    let comment = c.in_ok-comment.comment in
    let ops_is : ops ≡ ops_taken events t v.ops = c.in_ok-ops.ensures ∙ ap (λ (es : List PlainEvent). ops_taken es t c.as_slice-2.result.now) c.list.ensures ∙ ap (ops_taken events t) c.as_slice-2.ensures in
    let comment_is : comment ≡ comment_taken events t v.comment = c.in_ok-comment.ensures ∙ ap (λ (es : List PlainEvent). comment_taken es t c.as_slice-3.result.now) c.list-2.ensures ∙ ap (comment_taken events t) c.as_slice-3.ensures in
    let n = commit_taken set events c.count-count.ensures.sound par takes c.args.place v.id v.mark v.branch v.author v.committer v.encoding v.comment v.parents v.ops v.aliases
    (at ∙ ap Some is) (no_removed v.id (ap commit_id is)) t ops comment (subst (IsTakenBy events t takes) is taken) ops_is comment_is in (
      c.in_ok-give.ensures
          ∙ ap (λ (p : Change). record p { after = changed (any.Commit v.id) (λ x. with_comment comment (with_ops ops x)) p.after }) was
          ∙ ap (λ (es : List PlainEvent). record start { after = es }) n.0,
      le_is _ _ (ap length c.as_slice-4.ensures ∙ n.1 ∙ sym (ap (own_count set events c.count-count.ensures.sound par takes) is)),
    )
