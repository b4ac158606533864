use Rattle.std.proofs.Common.{◌≡◌, ◌∙◌, List, Ok, [], ap, map, sym, subst}
use Rattle.std.specs.Prelude.{IsOk}
use Rattle.std.specs.List.{AllByRecursion}
use Rattle.plain_model.specs.declared.id.AnyId.{AnyId}
use Rattle.plain_model.specs.declared.event.PlainEvent.{PlainEvent}
use Rattle.plain_model.specs.Histories.{nodes}
use Rattle.plain_model.specs.Soundness.{IsSound}
use Rattle.edit_laws.specs.Parts.{AreInOrder}
use Rattle.edit_laws.specs.Settling.{settle}
use Rattle.edit_laws.specs.Sweeping.{swept}
use Rattle.event_arena.specs.Graphs.{Change}
use Rattle.expunge_laws.specs.Expunged.{emptied, replaced_events}
use Rattle.expunge_laws.specs.InLine.{IsInLine}
use Rattle.expunge_laws.proofs.Changed.{replaced_sound}
use Rattle.squash_laws.specs.Removed.{all_left}
use Rattle.path_expunge.specs.Fates.{taken}
use Rattle.expunge_laws.specs.Matching.{matched_by}
use Rattle.expunge_laws.specs.Untouched.{may_be_touched}
use Rattle.plan_steps.specs.Flags.{FlagsNamed, OthersKeepNames, has_flag}
use Rattle.path_expunge.proofs.KeptNames.{kept_in, named_alike, named_in, names_kept}
use Rattle.plan_steps.specs.Near.{AreLinkedAlike, AreReadyNear}
use Rattle.plan_steps.proofs.Settling.{ends_complete}
use Rattle.path_expunge.proofs.Nodes.{none_there}
use Rattle.path_expunge.proofs.Order.{near_in_order, replaced_alike}
use Rattle.path_expunge.proofs.expunging.remove_paths.Goals as goal

pub returns-then-is_nothing-clause-after : goal.returns-then-is_nothing-clause-after
returns-then-is_nothing-clause-after c =
    let events = c.args.events.now.list in
    let m = matched_by c.args.matching.now in
    let after : c.replace_ops.new.plan.after ≡ replaced_events m events = ap (λ (p : Change). p.after) c.in_ok-flags.ensures.changed in
    let before : c.replace_ops.new.plan.before ≡ events = ap (λ (p : Change). p.before) c.in_ok-flags.ensures.changed ∙ c.requires.before in
    let are : c.deref.result.now ≡ map (may_be_touched m) c.replace_ops.new.plan.before = c.deref.ensures.value ∙ c.in_ok-flags.ensures.touched ∙ ap (map (may_be_touched m)) (sym before) in
    let set : c.in_ok-set.set ≡ emptied m events = c.in_ok-set.ensures m (after ∙ ap (replaced_events m) (sym before)) are ∙ ap (emptied m) before in
    let none : emptied m events ≡ [] = sym (sym (none_there c.as_slice.result.now (sym c.is_nothing.ensures ∙ c.if-is_nothing.true)) ∙ c.as_slice.ensures ∙ set) in
    c.what_no_matched_path_touches_stays.ensures.none m events c.count-count.ensures.sound none
    ∙ ap Ok (sym (ap (λ (p : Change). p.after) c.in_ok-sweep_touched.ensures.swept ∙ (λ i. swept (before i) (after i))))

pub give_way-requires-clause-sound : goal.give_way-requires-clause-sound
give_way-requires-clause-sound c =
    let events = c.args.events.now.list in
    let m = matched_by c.args.matching.now in
    let after : c.replace_ops.new.plan.after ≡ replaced_events m events = ap (λ (p : Change). p.after) c.in_ok-flags.ensures.changed in
    subst IsSound (sym after) (replaced_sound m events c.count-count.ensures.sound)

pub give_way-requires-clause-line : goal.give_way-requires-clause-line
give_way-requires-clause-line c =
    let events = c.args.events.now.list in
    let m = matched_by c.args.matching.now in
    let after : c.replace_ops.new.plan.after ≡ replaced_events m events = ap (λ (p : Change). p.after) c.in_ok-flags.ensures.changed in
    let before : c.replace_ops.new.plan.before ≡ events = ap (λ (p : Change). p.before) c.in_ok-flags.ensures.changed ∙ c.requires.before in
    let are : c.deref.result.now ≡ map (may_be_touched m) c.replace_ops.new.plan.before = c.deref.ensures.value ∙ c.in_ok-flags.ensures.touched ∙ ap (map (may_be_touched m)) (sym before) in
    let set : c.in_ok-set.set ≡ emptied m events = c.in_ok-set.ensures m (after ∙ ap (replaced_events m) (sym before)) are ∙ ap (emptied m) before in
    subst (λ (ids : List AnyId). AllByRecursion (IsInLine ids c.replace_ops.new.plan.after) (nodes c.replace_ops.new.plan.after)) (sym (c.as_slice-2.ensures ∙ set))
    (subst (λ (es : List PlainEvent). AllByRecursion (IsInLine (emptied m events) es) (nodes es)) (sym after)
    (c.emptied_commits_give_way_in_line.ensures.links m events c.count-count.ensures.sound))

pub give_way-requires-clause-alike : goal.give_way-requires-clause-alike
give_way-requires-clause-alike c =
    let events = c.args.events.now.list in
    let m = matched_by c.args.matching.now in
    let after : c.replace_ops.new.plan.after ≡ replaced_events m events = ap (λ (p : Change). p.after) c.in_ok-flags.ensures.changed in
    subst (AreLinkedAlike events) (sym after) (replaced_alike m events)

pub put_near_in_order-requires-clause-settles : goal.put_near_in_order-requires-clause-settles
put_near_in_order-requires-clause-settles c =
    let events = c.args.events.now.list in
    let m = matched_by c.args.matching.now in
    let after : c.replace_ops.new.plan.after ≡ replaced_events m events = ap (λ (p : Change). p.after) c.in_ok-flags.ensures.changed in
    let before : c.replace_ops.new.plan.before ≡ events = ap (λ (p : Change). p.before) c.in_ok-flags.ensures.changed ∙ c.requires.before in
    let are : c.deref.result.now ≡ map (may_be_touched m) c.replace_ops.new.plan.before = c.deref.ensures.value ∙ c.in_ok-flags.ensures.touched ∙ ap (map (may_be_touched m)) (sym before) in
    let found : c.in_ok-set.set ≡ emptied m events = c.in_ok-set.ensures m (after ∙ ap (replaced_events m) (sym before)) are ∙ ap (emptied m) before in
    let set : c.as_slice-2.result.now ≡ emptied m events = c.as_slice-2.ensures ∙ found in
    let swept_is : c.sweep_touched-2.new.plan.after ≡ swept events (all_left (emptied m events) (replaced_events m events) (taken (emptied m events) (replaced_events m events))) =
    ap (λ (p : Change). p.after) c.in_ok-sweep_touched-2.ensures.swept
    ∙ (λ i. swept ((ap (λ (p : Change). p.before) c.in_ok-give_way.ensures ∙ before) i) ((ap (λ (p : Change). p.after) c.in_ok-give_way.ensures ∙ (λ j. all_left (set j) (after j) (taken (set j) (after j)))) i)) in
    subst (λ (es : List PlainEvent). IsOk (settle es)) (sym swept_is) (c.an_expunge_comes_to_its_end.ensures m events c.count-count.ensures.sound)

pub put_near_in_order-requires-clause-others : goal.put_near_in_order-requires-clause-others
put_near_in_order-requires-clause-others c ready =
    let events = c.args.events.now.list in
    let m = matched_by c.args.matching.now in
    let after : c.replace_ops.new.plan.after ≡ replaced_events m events = ap (λ (p : Change). p.after) c.in_ok-flags.ensures.changed in
    let before : c.replace_ops.new.plan.before ≡ events = ap (λ (p : Change). p.before) c.in_ok-flags.ensures.changed ∙ c.requires.before in
    let are : c.deref.result.now ≡ map (may_be_touched m) c.replace_ops.new.plan.before = c.deref.ensures.value ∙ c.in_ok-flags.ensures.touched ∙ ap (map (may_be_touched m)) (sym before) in
    let found : c.in_ok-set.set ≡ emptied m events = c.in_ok-set.ensures m (after ∙ ap (replaced_events m) (sym before)) are ∙ ap (emptied m) before in
    let set : c.as_slice-2.result.now ≡ emptied m events = c.as_slice-2.ensures ∙ found in
    let swept_is : c.sweep_touched-2.new.plan.after ≡ swept events (all_left (emptied m events) (replaced_events m events) (taken (emptied m events) (replaced_events m events))) =
    ap (λ (p : Change). p.after) c.in_ok-sweep_touched-2.ensures.swept
    ∙ (λ i. swept ((ap (λ (p : Change). p.before) c.in_ok-give_way.ensures ∙ before) i) ((ap (λ (p : Change). p.after) c.in_ok-give_way.ensures ∙ (λ j. all_left (set j) (after j) (taken (set j) (after j)))) i)) in
    let its : c.in_ok-removal.removal.set ≡ emptied m events = c.in_ok-removal.ensures.set ∙ c.as_slice-3.ensures ∙ found in
    let left = swept events (all_left (emptied m events) (replaced_events m events) (taken (emptied m events) (replaced_events m events))) in
    subst (AreInOrder []) (sym swept_is)
    (near_in_order m events c.count-count.ensures.sound (emptied m events) (ends_complete left (c.an_expunge_comes_to_its_end.ensures m events c.count-count.ensures.sound))
    (subst (AreReadyNear (emptied m events) events) swept_is
    (subst (λ (ids : List AnyId). AreReadyNear ids events c.sweep_touched-2.new.plan.after) its
    (subst (λ (es : List PlainEvent). AreReadyNear c.in_ok-removal.removal.set es c.sweep_touched-2.new.plan.after) c.in_ok-removal.ensures.events ready))))

pub returns-clause-after : goal.returns-clause-after
returns-clause-after c =
    let events = c.args.events.now.list in
    let m = matched_by c.args.matching.now in
    let after : c.replace_ops.new.plan.after ≡ replaced_events m events = ap (λ (p : Change). p.after) c.in_ok-flags.ensures.changed in
    let before : c.replace_ops.new.plan.before ≡ events = ap (λ (p : Change). p.before) c.in_ok-flags.ensures.changed ∙ c.requires.before in
    let are : c.deref.result.now ≡ map (may_be_touched m) c.replace_ops.new.plan.before = c.deref.ensures.value ∙ c.in_ok-flags.ensures.touched ∙ ap (map (may_be_touched m)) (sym before) in
    let set : c.as_slice-2.result.now ≡ emptied m events = c.as_slice-2.ensures ∙ c.in_ok-set.ensures m (after ∙ ap (replaced_events m) (sym before)) are ∙ ap (emptied m) before in
    let swept_is : c.sweep_touched-2.new.plan.after ≡ swept events (all_left (emptied m events) (replaced_events m events) (taken (emptied m events) (replaced_events m events))) =
    ap (λ (p : Change). p.after) c.in_ok-sweep_touched-2.ensures.swept
    ∙ (λ i. swept ((ap (λ (p : Change). p.before) c.in_ok-give_way.ensures ∙ before) i) ((ap (λ (p : Change). p.after) c.in_ok-give_way.ensures ∙ (λ j. all_left (set j) (after j) (taken (set j) (after j)))) i)) in
    ap settle (sym swept_is) ∙ c.in_ok-put_near_in_order.ensures.settled

pub sweep_touched-requires-clause-named : goal.sweep_touched-requires-clause-named
sweep_touched-requires-clause-named c =
    let events = c.args.events.now.list in
    let m = matched_by c.args.matching.now in
    let p = c.replace_ops.new.plan in
    let flags = c.deref-then-is_nothing-2.result.now in
    let after : p.after ≡ replaced_events m events = ap (λ (p : Change). p.after) c.in_ok-flags.ensures.changed in
    let before : p.before ≡ events = ap (λ (p : Change). p.before) c.in_ok-flags.ensures.changed ∙ c.requires.before in
    subst (λ (es : List PlainEvent). FlagsNamed es p.after flags) (sym before)
    (subst (λ (es : List PlainEvent). FlagsNamed events es flags) (sym after)
    (subst (FlagsNamed events (replaced_events m events)) (sym c.deref-then-is_nothing-2.ensures.value) c.in_ok-flags.ensures.named))

pub sweep_touched-requires-clause-kept : goal.sweep_touched-requires-clause-kept
sweep_touched-requires-clause-kept c =
    let events = c.args.events.now.list in
    let m = matched_by c.args.matching.now in
    let p = c.replace_ops.new.plan in
    let flags = c.deref-then-is_nothing.result.now in
    let after : p.after ≡ replaced_events m events = ap (λ (p : Change). p.after) c.in_ok-flags.ensures.changed in
    let before : p.before ≡ events = ap (λ (p : Change). p.before) c.in_ok-flags.ensures.changed ∙ c.requires.before in
    let are : flags ≡ map (may_be_touched m) events = c.deref-then-is_nothing.ensures.value ∙ c.in_ok-flags.ensures.touched in
    subst (λ (es : List PlainEvent). OthersKeepNames (has_flag flags es) es p.after) (sym before)
    (subst (λ (es : List PlainEvent). OthersKeepNames (has_flag flags events) events es) (sym after)
    (names_kept m events c.count-count.ensures.sound flags are))

pub sweep_touched-requires-2-clause-named : goal.sweep_touched-requires-2-clause-named
sweep_touched-requires-2-clause-named c =
    let events = c.args.events.now.list in
    let m = matched_by c.args.matching.now in
    let p = c.give_way.new.plan in
    let flags = c.deref-3.result.now in
    let after : c.replace_ops.new.plan.after ≡ replaced_events m events = ap (λ (p : Change). p.after) c.in_ok-flags.ensures.changed in
    let before : c.replace_ops.new.plan.before ≡ events = ap (λ (p : Change). p.before) c.in_ok-flags.ensures.changed ∙ c.requires.before in
    let are : c.deref.result.now ≡ map (may_be_touched m) c.replace_ops.new.plan.before = c.deref.ensures.value ∙ c.in_ok-flags.ensures.touched ∙ ap (map (may_be_touched m)) (sym before) in
    let set : c.as_slice-2.result.now ≡ emptied m events = c.as_slice-2.ensures ∙ c.in_ok-set.ensures m (after ∙ ap (replaced_events m) (sym before)) are ∙ ap (emptied m) before in
    let left : p.after ≡ all_left (emptied m events) (replaced_events m events) (taken (emptied m events) (replaced_events m events)) =
    ap (λ (p : Change). p.after) c.in_ok-give_way.ensures ∙ (λ j. all_left (set j) (after j) (taken (set j) (after j))) in
    let alike = named_alike m events c.count-count.ensures.sound (c.emptied_commits_give_way_in_line.ensures.links m events c.count-count.ensures.sound) in
    subst (λ (es : List PlainEvent). FlagsNamed es p.after flags) (sym (ap (λ (p : Change). p.before) c.in_ok-give_way.ensures ∙ before))
    (subst (λ (es : List PlainEvent). FlagsNamed events es flags) (sym left)
    (named_in events (replaced_events m events) (all_left (emptied m events) (replaced_events m events) (taken (emptied m events) (replaced_events m events))) alike flags
    (subst (FlagsNamed events (replaced_events m events)) (sym c.deref-3.ensures.value) c.in_ok-flags.ensures.named)))

pub sweep_touched-requires-2-clause-kept : goal.sweep_touched-requires-2-clause-kept
sweep_touched-requires-2-clause-kept c =
    let events = c.args.events.now.list in
    let m = matched_by c.args.matching.now in
    let p = c.give_way.new.plan in
    let flags = c.deref-2.result.now in
    let after : c.replace_ops.new.plan.after ≡ replaced_events m events = ap (λ (p : Change). p.after) c.in_ok-flags.ensures.changed in
    let before : c.replace_ops.new.plan.before ≡ events = ap (λ (p : Change). p.before) c.in_ok-flags.ensures.changed ∙ c.requires.before in
    let are : c.deref.result.now ≡ map (may_be_touched m) c.replace_ops.new.plan.before = c.deref.ensures.value ∙ c.in_ok-flags.ensures.touched ∙ ap (map (may_be_touched m)) (sym before) in
    let set : c.as_slice-2.result.now ≡ emptied m events = c.as_slice-2.ensures ∙ c.in_ok-set.ensures m (after ∙ ap (replaced_events m) (sym before)) are ∙ ap (emptied m) before in
    let left : p.after ≡ all_left (emptied m events) (replaced_events m events) (taken (emptied m events) (replaced_events m events)) =
    ap (λ (p : Change). p.after) c.in_ok-give_way.ensures ∙ (λ j. all_left (set j) (after j) (taken (set j) (after j))) in
    let flags_are : flags ≡ map (may_be_touched m) events = c.deref-2.ensures.value ∙ c.in_ok-flags.ensures.touched in
    let alike = named_alike m events c.count-count.ensures.sound (c.emptied_commits_give_way_in_line.ensures.links m events c.count-count.ensures.sound) in
    subst (λ (es : List PlainEvent). OthersKeepNames (has_flag flags es) es p.after) (sym (ap (λ (p : Change). p.before) c.in_ok-give_way.ensures ∙ before))
    (subst (λ (es : List PlainEvent). OthersKeepNames (has_flag flags events) events es) (sym left)
    (kept_in events (replaced_events m events) (all_left (emptied m events) (replaced_events m events) (taken (emptied m events) (replaced_events m events))) alike
    (has_flag flags events) (names_kept m events c.count-count.ensures.sound flags flags_are)))
