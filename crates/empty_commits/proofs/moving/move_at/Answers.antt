use Rattle.std.proofs.Common.{◌≡◌, ◌∙◌, ℕ, List, Some, map, refl, ap, subst, sym}
use Rattle.std.specs.Prelude.{IfSome, IsSome, is_some}
use Rattle.std.specs.List.{AllByRecursion}
use Rattle.std.proofs.lemmas.Result.{on_ok_weaker}
use Rattle.plain_model.specs.declared.event.PlainEvent.{PlainEvent}
use Rattle.plain_model.specs.declared.event.PlainEvent.TheVariants.{Commit}
use Rattle.plain_model.specs.declared.id.AnyId.TheVariants as any
use Rattle.plain_model.specs.Lookups.{find_event, id_of}
use Rattle.edit_laws.specs.Removal.{once_each}
use Rattle.event_arena.specs.Changes.{changed, has_target, with_parents, with_target}
use Rattle.event_arena.proofs.StepLemmas.{found_holds}
use Rattle.plan_steps.proofs.NodeLemmas.{parents_there, target_there}
use Rattle.plan_steps.proofs.Steps.{alike_of, kept_of}
use Rattle.tagify_laws.specs.InPlace.{moved}
use Rattle.tagify_laws.specs.Tagify.{base_of}
use Rattle.empty_commits.proofs.MovingLemmas.{on_target, retargeted, targeted, unmoved}
use Rattle.empty_commits.proofs.moving.move_at.Goals as goal

pub move_commit-requires-clause-known : goal.move_commit-requires-clause-known
move_commit-requires-clause-known c =
    let x = c.in-Commit in
    let events = c.args.empties.now.events in
    let e = Commit x.id x.mark x.branch x.author x.committer x.encoding x.comment x.parents x.ops x.aliases in
    subst (AllByRecursion (λ p. IsSome (find_event (any.Commit p) events))) (sym c.as_slice.ensures)
    (parents_there events c.count-count.ensures.sound c.args.place e (c.requires.at ∙ ap Some x.is))

pub move_commit-requires-clause-there : goal.move_commit-requires-clause-there
move_commit-requires-clause-there c =
    ap (λ (e : PlainEvent). is_some (find_event (id_of e) c.args.plan.now.after)) (sym c.in-Commit.is) ∙ ap is_some c.requires.found

pub move_commit-requires-clause-parents : goal.move_commit-requires-clause-parents
move_commit-requires-clause-parents c =
    let x = c.in-Commit in
    let e = Commit x.id x.mark x.branch x.author x.committer x.encoding x.comment x.parents x.ops x.aliases in
    let found : find_event (any.Commit x.id) c.args.plan.now.after ≡ Some e = subst (λ (y : PlainEvent). find_event (id_of y) c.args.plan.now.after ≡ Some y) x.is c.requires.found in
    found_holds (find_event (any.Commit x.id) c.args.plan.now.after) e (λ y. with_parents c.as_slice.result.now y ≡ y) found
    (ap (λ (ps : List ℕ). Commit x.id x.mark x.branch x.author x.committer x.encoding x.comment ps x.ops x.aliases) c.as_slice.ensures)

pub returns-in-Commit : goal.returns-in-Commit
returns-in-Commit c =
    let x = c.in-Commit in
    let set = c.args.empties.now.set in
    let events = c.args.empties.now.events in
    let plan = c.args.plan.now in
    let e = Commit x.id x.mark x.branch x.author x.committer x.encoding x.comment x.parents x.ops x.aliases in
    let news : List ℕ = once_each (map (base_of set events) c.as_slice.result.now) in
    on_ok_weaker c.move_commit.result (λ is.
    is ∙ ap (λ (es : List PlainEvent). record plan { after = es })
    (alike_of plan.after c.args.event.now e (with_parents news) (moved set events) x.is c.requires.found
    (ap (λ (ps : List ℕ). Commit x.id x.mark x.branch x.author x.committer x.encoding x.comment (once_each (map (base_of set events) ps)) x.ops x.aliases) c.as_slice.ensures))) c.move_commit.ensures

pub base_of-requires : goal.base_of-requires
base_of-requires c =
    target_there c.args.empties.now.events c.count-count.ensures.sound c.args.place c.in-Some.target c.args.event.now c.requires.at (sym c.target_of.ensures ∙ c.in-Some.is)

pub retarget-requires-clause-there : goal.retarget-requires-clause-there
retarget-requires-clause-there c = ap (λ id. is_some (find_event id c.args.plan.now.after)) c.id.ensures ∙ ap is_some c.requires.found

pub retarget-requires-clause-field : goal.retarget-requires-clause-field
retarget-requires-clause-field c = ap has_target c.id.ensures ∙ targeted c.args.event.now c.in-Some.target (sym c.target_of.ensures ∙ c.in-Some.is)

pub retarget-requires-clause-target : goal.retarget-requires-clause-target
retarget-requires-clause-target c =
    let e = c.args.event.now in
    subst (λ id. IfSome (find_event id c.args.plan.now.after) (λ (y : PlainEvent). with_target c.in-Some.target y ≡ y)) (sym c.id.ensures)
    (found_holds (find_event (id_of e) c.args.plan.now.after) e (λ y. with_target c.in-Some.target y ≡ y) c.requires.found (on_target e c.in-Some.target (sym c.target_of.ensures ∙ c.in-Some.is)))

pub returns-in-Some : goal.returns-in-Some
returns-in-Some c =
    let set = c.args.empties.now.set in
    let events = c.args.empties.now.events in
    let plan = c.args.plan.now in
    let e = c.args.event.now in
    on_ok_weaker c.retarget.result (λ is.
    is ∙ (λ i. record plan { after = changed (c.id.ensures i) (with_target (c.base_of.ensures i)) plan.after })
    ∙ ap (λ (es : List PlainEvent). record plan { after = es })
    (alike_of plan.after e e (with_target (base_of set events c.in-Some.target)) (moved set events) refl c.requires.found
    (retargeted set events e c.in-Some.target (sym c.target_of.ensures ∙ c.in-Some.is)))) c.retarget.ensures

pub returns-in-None : goal.returns-in-None
returns-in-None c =
    let set = c.args.empties.now.set in
    let events = c.args.empties.now.events in
    let e = c.args.event.now in
    kept_of c.args.plan.now e e (moved set events) refl c.requires.found (unmoved set events e (sym c.target_of.ensures ∙ c.in-None.is) c.in_default.not-Commit)
