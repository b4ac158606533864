use Rattle.std.proofs.Common.{◌≡◌, List, ap, filter, length, subst, sym}
use Rattle.plain_model.specs.declared.event.PlainEvent.{PlainEvent}
use Rattle.plain_model.specs.Lookups.{id_of, is_listed}
use Rattle.edit_laws.specs.Sweeping.{swept}
use Rattle.plan_steps.specs.Flags.{AreCandidates, FlagsAll}
use Rattle.plan_steps.proofs.SweepLemmas.{none_over, other_candidates}
use Rattle.plan_steps.proofs.sweeping.sweep_removed.Goals as goal

pub are_all_flagged-requires : goal.are_all_flagged-requires
are_all_flagged-requires c = subst (λ flags. length flags ≡ length c.args.plan.now.after) (sym c.deref.ensures.value) c.in_ok-near.ensures.count

pub returns-then-are_all_flagged-clause-swept : goal.returns-then-are_all_flagged-clause-swept
returns-then-are_all_flagged-clause-swept c =
    let p = c.args.plan.now in
    let set = c.args.removal.now.set in
    let events = c.args.removal.now.events in
    let all = subst (FlagsAll p.after (filter (λ e. is_listed (id_of e) set) events)) c.deref.ensures.value (c.are_all_flagged.ensures c.if-are_all_flagged.true) in
    ap (λ (es : List PlainEvent). record p { after = es })
    (sym (subst (λ es. swept es p.after ≡ p.after) (sym c.requires.before) (none_over set events p.after c.in_ok-near.near.items c.requires.kept all c.in_ok-near.ensures)))

pub sweep_some-requires : goal.sweep_some-requires
sweep_some-requires c =
    let p = c.args.plan.now in
    subst (AreCandidates p.before p.after) (sym c.deref-2.ensures.value)
    (subst (λ es. AreCandidates es p.after c.in_ok-before.before.items) (sym c.requires.before)
    (other_candidates (λ d. is_listed (id_of d) c.args.removal.now.set) c.args.removal.now.events p.after c.in_ok-before.before.items c.requires.kept c.in_ok-before.ensures))
