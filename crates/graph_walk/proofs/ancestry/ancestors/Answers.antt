use Rattle.std.proofs.Common.{◌≡◌, ◌∙◌, ◌++◌, take, drop, ◌-◌, ◌+◌, suc, List, Bool, false, cond, [], get_or, length, replicate, arith, ap, subst, sym}
use Rattle.std.proofs.lemmas.List.{length-replicate}
use Rattle.plain_model.specs.declared.event.PlainEvent.{PlainEvent}
use Rattle.plain_model.specs.Lookups.{event_parents}
use Rattle.history_laws.proofs.Lists.{item_at}
use Rattle.history_laws.proofs.SoundOnce.{sound_once}
use Rattle.graph_walk.specs.Flags.{FlagsMore, flagged_ids}
use Rattle.graph_walk.proofs.FlagLemmas.{if_ok, no_flag, refilled}
use Rattle.graph_walk.proofs.ClosureLemmas.{AreClosedFrom, closed_all, closed_first, closed_more}
use Rattle.graph_walk.proofs.ancestry.ancestors.Goals as goal

pub loop-done-init : goal.loop-done-init
loop-done-init c =
    let events = c.args.events.now.list in
    let sound = c.count-count.ensures.sound in
    let once = (sound_once events sound).ids in
    let old = c.in_ok-flags.flags.items in
    let new = c.flag_all.new.flags in
    let more : FlagsMore events c.args.set.now old new = subst (λ (fs : List Bool). FlagsMore events c.args.set.now fs new) c.deref_mut.ensures.value c.flag_all.ensures in
    let none : old ≡ replicate (length events) false = c.in_ok-flags.ensures ∙ ap (λ (es : List PlainEvent). replicate (length es) false) c.table.ensures.table in
    let counted : length old ≡ length events = ap length none ∙ length-replicate (length events) false in
    let first = closed_first events sound once c.args.set.now (c.count-count.result - 0) old new (let count = c.count-count.ensures.count in omega arith) counted (λ j. ap (λ (fs : List Bool). get_or fs j false) none ∙ no_flag (length events) j) more in
    let old_count : length old ≡ c.in_ok-flags.flags.len = ap length (sym c.deref_mut.ensures.value) ∙ c.deref_mut.ensures.len in
    subst (AreClosedFrom events c.args.set.now _) (sym (refilled c.in_ok-flags.flags.len new old (more.count ∙ old_count) old_count)) first

pub loop-done-preserved : goal.loop-done-preserved
loop-done-preserved c =
    let events = c.args.events.now.list in
    let sound = c.count-count.ensures.sound in
    let once = (sound_once events sound).ids in
    let count = c.count-count.result in
    let done = c.loop-done.done in
    let place = count - 1 - done in
    let old = c.loop-done.flags.items in
    let new = c.flag_parents.new.flags in
    let test = c.loop-done-test.true in
    let counted = c.count-count.ensures.count in
    let was : count - done ≡ suc place = omega arith in
    let now : place ≡ count - (done + 1) = omega arith in
    let item = item_at events place (omega arith) in
    let more : FlagsMore events (cond (get_or old place false) (event_parents item.0) []) old new =
    subst (λ (fs : List Bool). FlagsMore events (cond (get_or fs place false) (event_parents item.0) []) fs new) c.deref_mut-in-loop-done.ensures.value (c.flag_parents.ensures item.0 item.1) in
    let closed = closed_more events sound once c.args.set.now place item.0 old new item.1 (subst (λ k. AreClosedFrom events c.args.set.now k old) was c.loop-done.invariant) more in
    let old_count : length old ≡ c.loop-done.flags.len = ap length (sym c.deref_mut-in-loop-done.ensures.value) ∙ c.deref_mut-in-loop-done.ensures.len in
    subst (λ k. AreClosedFrom events c.args.set.now k (take c.loop-done.flags.len (new ++ drop (length new) old))) now (subst (AreClosedFrom events c.args.set.now place) (sym (refilled c.loop-done.flags.len new old (more.count ∙ old_count) old_count)) closed)

pub returns : goal.returns
returns c =
    let events = c.args.events.now.list in
    let sound = c.count-count.ensures.sound in
    let once = (sound_once events sound).ids in
    let end : c.count-count.result - c.loop-done.done ≡ 0 = let test = c.loop-done-test.false in omega arith in
    let closed = subst (λ k. AreClosedFrom events c.args.set.now k c.loop-done.flags.items) end c.loop-done.invariant in
    if_ok c.flagged.result _ _ (λ ids is. is ∙ ap (λ (fs : List Bool). flagged_ids fs events) c.deref.ensures.value ∙ closed_all events sound once c.args.set.now c.loop-done.flags.items closed) c.flagged.ensures
