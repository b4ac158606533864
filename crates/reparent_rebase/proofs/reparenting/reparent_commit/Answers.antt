use Rattle.std.proofs.Common.{◌∷◌, [], ◌∙◌, List, ap, sym, subst}
use Rattle.std.specs.Prelude.{IsOk}
use Rattle.plain_model.specs.declared.id.AnyId.TheVariants as any
use Rattle.plain_model.specs.declared.event.PlainEvent.{PlainEvent}
use Rattle.plain_model.specs.Soundness.{IsCommitOf}
use Rattle.ancestry_laws.specs.Ancestry.{descends}
use Rattle.history_laws.proofs.SoundOnce.{has_id_find}
use Rattle.event_arena.specs.Graphs.{Change}
use Rattle.edit_laws.specs.Settling.{settle}
use Rattle.edit_laws.proofs.Sound.{in_parts}
use Rattle.commit_laws.specs.Rewriting.{rewritten_all}
use Rattle.commit_laws.proofs.Rewritten.{once_same}
use Rattle.reparent_laws.specs.Reparent.{reparents}
use Rattle.reparent_rebase.proofs.Descending.{found_among}
use Rattle.plan_steps.proofs.Settling.{settled_linked}
use Rattle.reparent_rebase.proofs.reparenting.reparent_commit.Goals as goal

pub commit_mark-mark-requires : goal.commit_mark-mark-requires
commit_mark-mark-requires c =
    let events = c.args.events.now.list in
    sym (has_id_find events (any.Commit c.in-Some.parent))
    ∙ found_among (IsCommitOf events) (descends events (c.args.commit ∷ [])) c.args.parents.now c.in-Some.parent c.requires.parents (sym c.in_ok-found.ensures ∙ c.in-Some.is)

pub put_in_order-requires : goal.put_in_order-requires
put_in_order-requires c =
    subst (λ (es : List PlainEvent). IsOk (settle es)) (ap (λ (p : Change). p.after) (sym c.in_ok-plan.ensures.made))
    (c.settling_comes_to_its_end.ensures.reparent c.args.rebase c.args.events.now.list c.args.commit c.args.parents.now c.count-count.ensures.sound c.requires.commit c.requires.parents c.requires.once
    (sym c.in_ok-found.ensures ∙ c.in_default.is))

pub judge_after-requires-clause-earlier : goal.judge_after-requires-clause-earlier
judge_after-requires-clause-earlier c =
    let events = c.args.events.now.list in
    let how = reparents c.args.rebase events c.args.parents.now in
    let left = rewritten_all c.args.commit how events in
    settled_linked left c.put_in_order.new.plan.after (ap (λ (p : Change). settle p.after) (sym c.in_ok-plan.ensures.made) ∙ c.in_ok-put_in_order.ensures.settled)
    (once_same c.args.commit how events (in_parts events c.count-count.ensures.sound).once)
