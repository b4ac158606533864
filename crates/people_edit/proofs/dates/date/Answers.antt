use Rattle.std.proofs.Common.{◌∙◌, List, Option, None, Some, ap, refl, sym}
use Rattle.plain_model.specs.declared.person.Signed.{Signed}
use Rattle.std.proofs.Math.Facts.{to_z-of_z}
use Rattle.std.proofs.lemmas.Result.{on_ok_weaker}
use Rattle.plain_model.specs.declared.event.PlainEvent.{PlainEvent}
use Rattle.plain_model.specs.declared.event.PlainEvent.TheVariants.{Commit, Tag}
use Rattle.event_arena.specs.Changes.{with_signed}
use Rattle.event_arena.specs.declared.field.Role.TheVariants as role
use Rattle.plan_steps.proofs.Steps.{alike_of, kept_of}
use Rattle.people_edit.proofs.Undated.{author_stuck, both_moved, committer_stuck, redated, tagger_moved, tagger_stuck, undated_stays}
use Rattle.people_edit.proofs.dates.date.Goals as goal

pub returns-in_default-moved_when : goal.returns-in_default-moved_when
returns-in_default-moved_when c =
    let i = c.in-Commit in
    let e = Commit i.id i.mark i.branch i.author i.committer i.encoding i.comment i.parents i.ops i.aliases in
    kept_of c.args.plan.now c.args.event.now e (redated c.args.seconds c.args.zone.now) i.is c.requires
    (author_stuck c.args.seconds c.args.zone.now i.id i.mark i.branch i.author i.committer i.encoding i.comment i.parents i.ops i.aliases
    (sym (rw (to_z-of_z c.ranges.seconds) at c.moved_when.ensures) ∙ c.in_default-moved_when.is))

pub returns-in_default-moved_when-2 : goal.returns-in_default-moved_when-2
returns-in_default-moved_when-2 c =
    let i = c.in-Commit in
    let e = Commit i.id i.mark i.branch i.author i.committer i.encoding i.comment i.parents i.ops i.aliases in
    kept_of c.args.plan.now c.args.event.now e (redated c.args.seconds c.args.zone.now) i.is c.requires
    (committer_stuck c.args.seconds c.args.zone.now i.id i.mark i.branch i.author i.committer i.encoding i.comment i.parents i.ops i.aliases c.in-Some.wrote
    (sym (rw (to_z-of_z c.ranges.seconds) at c.moved_when.ensures) ∙ c.in-Some.is)
    (sym (rw (to_z-of_z c.ranges.seconds) at c.moved_when-in-Commit.ensures) ∙ c.in_default-moved_when-2.is))

pub returns-in_ok-made-in-Commit : goal.returns-in_ok-made-in-Commit
returns-in_ok-made-in-Commit c =
    let i = c.in-Commit in
    let e = Commit i.id i.mark i.branch i.author i.committer i.encoding i.comment i.parents i.ops i.aliases in
    let wrote = c.in_ok-wrote-in-Commit.wrote in
    let made = c.in_ok-made-in-Commit.made in
    on_ok_weaker c.set_both.result (λ is. is ∙ ap (λ (es : List PlainEvent). record c.args.plan.now { after = es })
    (alike_of c.args.plan.now.after c.args.event.now e (λ (x : PlainEvent). with_signed role.Committer made (with_signed role.Author wrote x)) (redated c.args.seconds c.args.zone.now) i.is c.requires
    (both_moved c.args.seconds c.args.zone.now i.id i.mark i.branch i.author i.committer i.encoding i.comment i.parents i.ops i.aliases c.in-Some.wrote c.in-Some-moved_when.made wrote made
    c.in_ok-wrote-in-Commit.ensures c.in_ok-made-in-Commit.ensures
    (sym (rw (to_z-of_z c.ranges.seconds) at c.moved_when.ensures) ∙ c.in-Some.is)
    (sym (rw (to_z-of_z c.ranges.seconds) at c.moved_when-in-Commit.ensures) ∙ c.in-Some-moved_when.is)))) c.set_both.ensures

pub returns-in_default-moved_when-3 : goal.returns-in_default-moved_when-3
returns-in_default-moved_when-3 c =
    let i = c.in-Tag in
    let who = c.in-Some-tagger.tagger in
    kept_of c.args.plan.now c.args.event.now (Tag i.id i.name i.target (Some who) i.comment i.mark) (redated c.args.seconds c.args.zone.now)
    (i.is ∙ ap (λ (t : Option Signed). Tag i.id i.name i.target t i.comment i.mark) c.in-Some-tagger.is) c.requires
    (tagger_stuck c.args.seconds c.args.zone.now i.id i.name i.target who i.comment i.mark
    (sym (rw (to_z-of_z c.ranges.seconds) at c.moved_when-in-Some-tagger.ensures) ∙ c.in_default-moved_when-3.is))

pub returns-in_ok-made-in-Some-tagger : goal.returns-in_ok-made-in-Some-tagger
returns-in_ok-made-in-Some-tagger c =
    let i = c.in-Tag in
    let who = c.in-Some-tagger.tagger in
    let made = c.in_ok-made-in-Some-tagger.made in
    on_ok_weaker c.set_signed.result (λ is. is ∙ ap (λ (es : List PlainEvent). record c.args.plan.now { after = es })
    (alike_of c.args.plan.now.after c.args.event.now (Tag i.id i.name i.target (Some who) i.comment i.mark) (with_signed role.Tagger made) (redated c.args.seconds c.args.zone.now)
    (i.is ∙ ap (λ (t : Option Signed). Tag i.id i.name i.target t i.comment i.mark) c.in-Some-tagger.is) c.requires
    (tagger_moved c.args.seconds c.args.zone.now i.id i.name i.target who i.comment i.mark c.in-Some-moved_when-2.made made c.in_ok-made-in-Some-tagger.ensures
    (sym (rw (to_z-of_z c.ranges.seconds) at c.moved_when-in-Some-tagger.ensures) ∙ c.in-Some-moved_when-2.is)))) c.set_signed.ensures.ok

pub returns-in-None : goal.returns-in-None
returns-in-None c =
    let i = c.in-Tag in
    kept_of c.args.plan.now c.args.event.now (Tag i.id i.name i.target None i.comment i.mark) (redated c.args.seconds c.args.zone.now)
    (i.is ∙ ap (λ (t : Option Signed). Tag i.id i.name i.target t i.comment i.mark) c.in-None.is) c.requires refl

pub returns-in_default : goal.returns-in_default
returns-in_default c =
    let e = c.args.event.now in
    kept_of c.args.plan.now e e (redated c.args.seconds c.args.zone.now) refl c.requires (undated_stays c.args.seconds c.args.zone.now e c.in_default.not-Commit c.in_default.not-Tag)
