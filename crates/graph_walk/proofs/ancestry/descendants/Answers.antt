use Rattle.std.proofs.Common.{◌≡◌, ◌∙◌, ◌≤◌, ◌||◌, List, Bool, false, get_or, length, add-one, arith, ap, subst, sym}
use Rattle.std.proofs.Math.ListN.{set}
use Rattle.std.specs.List.{list_any}
use Rattle.plain_model.specs.Lookups.{event_parents}
use Rattle.history_laws.proofs.SoundOnce.{sound_once}
use Rattle.graph_walk.specs.Flags.{flagged_ids, is_flagged_commit}
use Rattle.graph_walk.proofs.DescendantLemmas.{AreSettledTo, settled_all, settled_more}
use Rattle.graph_walk.proofs.FlagLemmas.{if_ok, refilled}
use Rattle.std.proofs.lemmas.List.{length-set}
use Rattle.history_laws.proofs.Lists.{item_at}
use Rattle.graph_walk.proofs.ancestry.descendants.Goals as goal

pub loop-place-preserved : goal.loop-place-preserved
loop-place-preserved c =
    let events = c.args.events.now.list in
    let sound = c.count-place-end.ensures.sound in
    let once = (sound_once events sound).ids in
    let place = c.loop-place.place in
    let old = c.loop-place.flags.items in
    let new = c.flag_child.new.flags in
    let item = item_at events place (let test = c.loop-place-test.true in let count = c.count-place-end.ensures.count in omega arith) in
    let is : new ≡ set old place (get_or old place false || list_any (is_flagged_commit old events) (event_parents item.0)) =
    c.flag_child.ensures item.0 item.1 ∙ ap (λ (fs : List Bool). set fs place (get_or fs place false || list_any (is_flagged_commit fs events) (event_parents item.0))) c.deref_mut-in-loop-place.ensures.value in
    let more = settled_more events sound once c.args.set.now place item.0 old new item.1 c.loop-place.invariant is in
    let old_count : length old ≡ c.loop-place.flags.len = ap length (sym c.deref_mut-in-loop-place.ensures.value) ∙ c.deref_mut-in-loop-place.ensures.len in
    let whole = refilled c.loop-place.flags.len new old (ap length is ∙ length-set old place _ ∙ old_count) old_count in
    rw add-one (subst (AreSettledTo events c.args.set.now _) (sym whole) more)

pub returns : goal.returns
returns c =
    let events = c.args.events.now.list in
    let sound = c.count-place-end.ensures.sound in
    let once = (sound_once events sound).ids in
    let all : length events ≤ c.loop-place.place = let test = c.loop-place-test.false in let count = c.count-place-end.ensures.count in omega arith in
    if_ok c.flagged.result _ _ (λ ids is. is ∙ ap (λ (fs : List Bool). flagged_ids fs events) c.deref.ensures.value ∙ settled_all events sound once c.args.set.now c.loop-place.place c.loop-place.flags.items all c.loop-place.invariant) c.flagged.ensures
