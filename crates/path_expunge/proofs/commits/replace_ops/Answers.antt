use Rattle.std.proofs.Common.{◌≡◌, ◌∙◌, List, Option, ap, map, subst, sym}
use Rattle.std.specs.Prelude.{IfSome}
use Rattle.plain_model.specs.declared.event.PlainEvent.{PlainEvent}
use Rattle.expunge_laws.specs.Apart.{AllOps, event_without}
use Rattle.expunge_laws.specs.Matching.{matched_by}
use Rattle.expunge_laws.specs.Untouched.{may_be_touched, may_touch}
use Rattle.plan_steps.specs.Flags.{FlagsNamed}
use Rattle.path_expunge.specs.Apart.{AreSides, IsNoted}
use Rattle.path_expunge.specs.declared.naming.Noted.{Noted}
use Rattle.path_expunge.proofs.NamingLemmas.{all_apart, events_as_matched, flags_as_matched}
use Rattle.path_expunge.proofs.commits.replace_ops.Goals as goal

pub leave_out-requires-clause-touched : goal.leave_out-requires-clause-touched
leave_out-requires-clause-touched c =
    let events = c.args.events.now.list in
    let m = matched_by c.args.matching.now in
    let n = c.in-Some.noted in
    let sides : AreSides m n.paths = subst (λ (o : Option Noted). IfSome o (λ x. AreSides m x.paths)) c.in-Some.is c.in_ok-noted.ensures.sides in
    let noted : AllOps (IsNoted n.paths) events = subst (λ (o : Option Noted). IfSome o (λ x. AllOps (IsNoted x.paths) events)) c.in-Some.is c.in_ok-noted.ensures.noted in
    let touched : n.flags.touched.items ≡ map (may_be_touched m) events = subst (λ (o : Option Noted). IfSome o (λ x. x.flags.touched.items ≡ map (may_be_touched m) events)) c.in-Some.is c.in_ok-noted.ensures.touched in
    touched ∙ sym (flags_as_matched m n.paths sides events noted)

pub returns-in-Some-clause-changed : goal.returns-in-Some-clause-changed
returns-in-Some-clause-changed c =
    let events = c.args.events.now.list in
    let m = matched_by c.args.matching.now in
    let named = c.in-Some.noted.paths in
    let sides : AreSides m named = subst (λ (o : Option Noted). IfSome o (λ x. AreSides m x.paths)) c.in-Some.is c.in_ok-noted.ensures.sides in
    let noted : AllOps (IsNoted named) events = subst (λ (o : Option Noted). IfSome o (λ x. AllOps (IsNoted x.paths) events)) c.in-Some.is c.in_ok-noted.ensures.noted in
    c.in_ok-leave_out.ensures ∙ ap (λ (es : List PlainEvent). record c.args.plan.now { after = es })
    (events_as_matched m named sides events noted ∙ sym (c.what_names_matched_paths_goes.ensures.all m events c.count-count.ensures.sound (all_apart m named sides events noted)))

pub returns-in-Some-clause-touched : goal.returns-in-Some-clause-touched
returns-in-Some-clause-touched c =
    let events = c.args.events.now.list in
    let m = matched_by c.args.matching.now in
    subst (λ (o : Option Noted). IfSome o (λ x. x.flags.touched.items ≡ map (may_be_touched m) events)) c.in-Some.is c.in_ok-noted.ensures.touched

pub returns-in-Some-clause-named : goal.returns-in-Some-clause-named
returns-in-Some-clause-named c =
    let events = c.args.events.now.list in
    let m = matched_by c.args.matching.now in
    let named = c.in-Some.noted.paths in
    let sides : AreSides m named = subst (λ (o : Option Noted). IfSome o (λ x. AreSides m x.paths)) c.in-Some.is c.in_ok-noted.ensures.sides in
    let noted : AllOps (IsNoted named) events = subst (λ (o : Option Noted). IfSome o (λ x. AllOps (IsNoted x.paths) events)) c.in-Some.is c.in_ok-noted.ensures.noted in
    let flags = subst (λ (o : Option Noted). IfSome o (λ x. FlagsNamed events (map (event_without (may_touch m)) events) x.flags.named.items)) c.in-Some.is c.in_ok-noted.ensures.named in
    subst (λ (es : List PlainEvent). FlagsNamed events es c.in-Some.noted.flags.named.items)
    (sym (c.what_names_matched_paths_goes.ensures.all m events c.count-count.ensures.sound (all_apart m named sides events noted))) flags
