use Rattle.std.proofs.Common.{◌∙◌, ap, sym}
use Rattle.squash_laws.specs.Squash.{squash_of, trees_checked}
use Rattle.squash_delete.specs.Judged.{judged}
use Rattle.squash_delete.proofs.Answered.{a_limit, after_linked, all_is_left, check_fault, done_or, judged_fault, left_complete, left_is, no_limit, settle_fault, squash_checked, within_after}
use Rattle.squash_delete.proofs.squashing.remove_all.Goals as goal

pub returns-in-Err-clause-answer : goal.returns-in-Err-clause-answer
returns-in-Err-clause-answer c =
    let events = c.args.removal.now.events in
    let set = c.args.removal.now.set in
    let how = c.args.how in
    let old = c.args.plan.now in
    let new = c.remove_set.new.plan in
    let left = c.in_ok-left.left in
    let none = c.requires.none in
    let sound = c.requires.sound in
    let its = c.in_ok-left.ensures in
    judged_fault how set events sound none old new left c.in-Err.fault its (a_limit (judged left new.after) c.in-Err.fault (sym c.judge.ensures ∙ c.in-Err.is))

pub settle_left-requires-clause-complete : goal.settle_left-requires-clause-complete
settle_left-requires-clause-complete c =
    let events = c.args.removal.now.events in
    let set = c.args.removal.now.set in
    let how = c.args.how in
    let old = c.args.plan.now in
    let new = c.remove_set.new.plan in
    let left = c.in_ok-left.left in
    let none = c.requires.none in
    let sound = c.requires.sound in
    let its = c.in_ok-left.ensures in
    let all = all_is_left set events _ old new left its (no_limit (judged left new.after) c.in_default.field-0 (sym c.judge.ensures ∙ c.in_default.is)) in
    left_complete how set events sound none all.few new.after all.is all.within

pub settle_left-requires-clause-left : goal.settle_left-requires-clause-left
settle_left-requires-clause-left c =
    let events = c.args.removal.now.events in
    let set = c.args.removal.now.set in
    let how = c.args.how in
    let old = c.args.plan.now in
    let new = c.remove_set.new.plan in
    let left = c.in_ok-left.left in
    let none = c.requires.none in
    let sound = c.requires.sound in
    let its = c.in_ok-left.ensures in
    let all = all_is_left set events _ old new left its (no_limit (judged left new.after) c.in_default.field-0 (sym c.judge.ensures ∙ c.in_default.is)) in
    left_is how set events sound none all.few new.after all.is all.within

pub returns-in-Err-settle_left-clause-answer : goal.returns-in-Err-settle_left-clause-answer
returns-in-Err-settle_left-clause-answer c =
    let events = c.args.removal.now.events in
    let set = c.args.removal.now.set in
    let how = c.args.how in
    let old = c.args.plan.now in
    let new = c.remove_set.new.plan in
    let left = c.in_ok-left.left in
    let none = c.requires.none in
    let sound = c.requires.sound in
    let its = c.in_ok-left.ensures in
    let all = all_is_left set events _ old new left its (no_limit (judged left new.after) c.in_default.field-0 (sym c.judge.ensures ∙ c.in_default.is)) in
    settle_fault how set events sound none (λ (done : Unit {0}). c.settle_left.new.plan.after) all.few new.after all.is all.within c.in-Err-settle_left.halt c.in-Err-settle_left.ensures.cause

pub check_trees-requires-clause-earlier : goal.check_trees-requires-clause-earlier
check_trees-requires-clause-earlier c =
    let events = c.args.removal.now.events in
    let set = c.args.removal.now.set in
    let how = c.args.how in
    let old = c.args.plan.now in
    let new = c.remove_set.new.plan in
    let left = c.in_ok-left.left in
    let none = c.requires.none in
    let sound = c.requires.sound in
    let its = c.in_ok-left.ensures in
    let all = all_is_left set events _ old new left its (no_limit (judged left new.after) c.in_default.field-0 (sym c.judge.ensures ∙ c.in_default.is)) in
    let made = within_after how set events sound none all.few new.after c.settle_left.new.plan.after all.is all.within c.in_default-settle_left.ensures.settled in
    after_linked how set events sound none c.settle_left.new.plan.after made.0

pub returns-in-Err-check_trees-clause-answer : goal.returns-in-Err-check_trees-clause-answer
returns-in-Err-check_trees-clause-answer c =
    let events = c.args.removal.now.events in
    let set = c.args.removal.now.set in
    let how = c.args.how in
    let old = c.args.plan.now in
    let new = c.remove_set.new.plan in
    let left = c.in_ok-left.left in
    let none = c.requires.none in
    let sound = c.requires.sound in
    let its = c.in_ok-left.ensures in
    let all = all_is_left set events _ old new left its (no_limit (judged left new.after) c.in_default.field-0 (sym c.judge.ensures ∙ c.in_default.is)) in
    let made = within_after how set events sound none all.few new.after c.settle_left.new.plan.after all.is all.within c.in_default-settle_left.ensures.settled in
    check_fault (λ (done : Unit {0}). c.settle_left.new.plan.after) c.settle_left.new.plan.after (squash_of how set events) (trees_checked how.push c.settle_left.new.plan.after)
    (squash_checked how set events c.settle_left.new.plan.after none made.0 made.1) c.in-Err-check_trees.halt c.in-Err-check_trees.ensures.checked

pub returns-clause-answer : goal.returns-clause-answer
returns-clause-answer c =
    let events = c.args.removal.now.events in
    let set = c.args.removal.now.set in
    let how = c.args.how in
    let old = c.args.plan.now in
    let new = c.remove_set.new.plan in
    let left = c.in_ok-left.left in
    let none = c.requires.none in
    let sound = c.requires.sound in
    let its = c.in_ok-left.ensures in
    let all = all_is_left set events _ old new left its (no_limit (judged left new.after) c.in_default.field-0 (sym c.judge.ensures ∙ c.in_default.is)) in
    let made = within_after how set events sound none all.few new.after c.settle_left.new.plan.after all.is all.within c.in_default-settle_left.ensures.settled in
    squash_checked how set events c.settle_left.new.plan.after none made.0 made.1 ∙ ap (done_or c.settle_left.new.plan.after) c.in_default-check_trees.ensures.checked

pub returns-clause-sound : goal.returns-clause-sound
returns-clause-sound c =
    let events = c.args.removal.now.events in
    let set = c.args.removal.now.set in
    let how = c.args.how in
    let old = c.args.plan.now in
    let new = c.remove_set.new.plan in
    let left = c.in_ok-left.left in
    let none = c.requires.none in
    let sound = c.requires.sound in
    let its = c.in_ok-left.ensures in
    let all = all_is_left set events _ old new left its (no_limit (judged left new.after) c.in_default.field-0 (sym c.judge.ensures ∙ c.in_default.is)) in
    let made = within_after how set events sound none all.few new.after c.settle_left.new.plan.after all.is all.within c.in_default-settle_left.ensures.settled in
    c.a_squash_keeps_soundness.ensures how set events c.settle_left.new.plan.after sound
    (squash_checked how set events c.settle_left.new.plan.after none made.0 made.1 ∙ ap (done_or c.settle_left.new.plan.after) c.in_default-check_trees.ensures.checked)
