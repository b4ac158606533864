use Rattle.std.proofs.Common.{◌∙◌, Bool, List, map, arith, ap, subst, sym}
use Rattle.std.specs.Prelude.{nat_le}
use Rattle.plain_model.specs.declared.event.PlainEvent.{PlainEvent}
use Rattle.plain_model.specs.declared.limit.TheConstants.{MAX_EVENTS}
use Rattle.event_arena.specs.Graphs.{Change}
use Rattle.edit_laws.specs.Sweeping.{swept}
use Rattle.squash_laws.specs.Takings.{takes}
use Rattle.plan_steps.specs.Flags.{KeepNames}
use Rattle.plan_steps.specs.Leaving.{event_after, staying, with_own_parents}
use Rattle.squash_delete.specs.Sources.{Ends}
use Rattle.plan_steps.specs.Targets.{AreMoves}
use Rattle.squash_delete.proofs.Answered.{many_left}
use Rattle.plan_steps.proofs.KeptNames.{keep_names, ops_named}
use Rattle.plan_steps.proofs.LeavingLemmas.{same_but}
use Rattle.squash_delete.proofs.MovingLemmas.{le_of}
use Rattle.squash_delete.proofs.squashing.remove_set.Goals as goal

pub returns-then-not-whole : goal.returns-then-not-whole
returns-then-not-whole c =
    let events = c.args.removal.now.events in
    let set = c.args.removal.now.set in
    let taking = takes set events c.args.how in
    let p = c.args.plan.now in
    let away = c.in_ok-take_away.ensures taking c.in_ok-targets.ensures in
    let given = c.in_ok-few.ensures taking (ap (λ (q : Change). q.after) away) in
    let was = given.2 ∙ ap (λ (q : Change). record q { after = map (with_own_parents given.0) (staying set taking events) }) away in
    let ends = subst (λ (b : Bool). Ends set events taking given.0 (nat_le c.count.result MAX_EVENTS) p c.take_over.new.plan b) c.if-not-whole.true (c.in_ok-whole.ensures given.0 c.args.how.tags p was) in
    let short = le_of c.count.result MAX_EVENTS ends.0 in
    let count = c.count.ensures.count in
    many_left set events taking given.0 c.in_ok-few.few p c.take_over.new.plan given.1 (omega arith) ends.1

pub returns : goal.returns
returns c =
    let events = c.args.removal.now.events in
    let set = c.args.removal.now.set in
    let taking = takes set events c.args.how in
    let p = c.args.plan.now in
    let away = c.in_ok-take_away.ensures taking c.in_ok-targets.ensures in
    let given = c.in_ok-few.ensures taking (ap (λ (q : Change). q.after) away) in
    let was = given.2 ∙ ap (λ (q : Change). record q { after = map (with_own_parents given.0) (staying set taking events) }) away in
    let taken = subst (λ (b : Bool). Ends set events taking given.0 (nat_le c.count.result MAX_EVENTS) p c.take_over.new.plan b) c.if-not-whole.false (c.in_ok-whole.ensures given.0 c.args.how.tags p was) in
    let moved = c.in_ok-move_all.ensures given.0 taking (subst (AreMoves set taking.target events) (sym c.deref.ensures.value) c.in_ok-targets.ensures) (ap (λ (q : Change). q.after) taken) in
    let whole = moved ∙ ap (λ (q : Change). record q { after = map (event_after given.0 taking) (staying set taking events) }) taken in
    let before = ap (λ (q : Change). q.before) whole ∙ c.requires.before in
    let after = ap (λ (q : Change). q.after) whole in (
      same_but c.sweep_removed.new.plan c.move_all.new.plan p _ _ c.in_ok-sweep_removed.ensures.swept whole,
      (
        given.0,
        given.1,
        ap (λ (q : Change). q.after) c.in_ok-sweep_removed.ensures.swept
            ∙ ap (λ (es : List PlainEvent). swept es c.move_all.new.plan.after) before
            ∙ ap (swept events) after,
      ),
    )

pub sweep_removed-requires-clause-before : goal.sweep_removed-requires-clause-before
sweep_removed-requires-clause-before c =
    let events = c.args.removal.now.events in
    let set = c.args.removal.now.set in
    let taking = takes set events c.args.how in
    let p = c.args.plan.now in
    let away = c.in_ok-take_away.ensures taking c.in_ok-targets.ensures in
    let given = c.in_ok-few.ensures taking (ap (λ (q : Change). q.after) away) in
    let was = given.2 ∙ ap (λ (q : Change). record q { after = map (with_own_parents given.0) (staying set taking events) }) away in
    let taken = subst (λ (b : Bool). Ends set events taking given.0 (nat_le c.count.result MAX_EVENTS) p c.take_over.new.plan b) c.if-not-whole.false (c.in_ok-whole.ensures given.0 c.args.how.tags p was) in
    let moved = c.in_ok-move_all.ensures given.0 taking (subst (AreMoves set taking.target events) (sym c.deref.ensures.value) c.in_ok-targets.ensures) (ap (λ (q : Change). q.after) taken) in
    let whole = moved ∙ ap (λ (q : Change). record q { after = map (event_after given.0 taking) (staying set taking events) }) taken in
    ap (λ (q : Change). q.before) whole ∙ c.requires.before

pub sweep_removed-requires-clause-kept : goal.sweep_removed-requires-clause-kept
sweep_removed-requires-clause-kept c =
    let events = c.args.removal.now.events in
    let set = c.args.removal.now.set in
    let taking = takes set events c.args.how in
    let p = c.args.plan.now in
    let away = c.in_ok-take_away.ensures taking c.in_ok-targets.ensures in
    let given = c.in_ok-few.ensures taking (ap (λ (q : Change). q.after) away) in
    let was = given.2 ∙ ap (λ (q : Change). record q { after = map (with_own_parents given.0) (staying set taking events) }) away in
    let taken = subst (λ (b : Bool). Ends set events taking given.0 (nat_le c.count.result MAX_EVENTS) p c.take_over.new.plan b) c.if-not-whole.false (c.in_ok-whole.ensures given.0 c.args.how.tags p was) in
    let moved = c.in_ok-move_all.ensures given.0 taking (subst (AreMoves set taking.target events) (sym c.deref.ensures.value) c.in_ok-targets.ensures) (ap (λ (q : Change). q.after) taken) in
    let whole = moved ∙ ap (λ (q : Change). record q { after = map (event_after given.0 taking) (staying set taking events) }) taken in
    subst (KeepNames set events) (sym (ap (λ (q : Change). q.after) whole)) (keep_names set events given.0 taking (ops_named set events c.args.how.push))
