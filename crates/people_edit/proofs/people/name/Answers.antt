use Rattle.std.proofs.Common.{◌∙◌, List, Option, None, Some, ap, refl}
use Rattle.std.proofs.lemmas.Result.{on_ok_weaker}
use Rattle.plain_model.specs.declared.person.Signed.{Signed}
use Rattle.plain_model.specs.declared.event.PlainEvent.{PlainEvent}
use Rattle.plain_model.specs.declared.event.PlainEvent.TheVariants.{Commit, Tag}
use Rattle.event_arena.specs.Changes.{with_signed}
use Rattle.event_arena.specs.declared.field.Role.TheVariants as role
use Rattle.people_laws.specs.Authors.{authored}
use Rattle.people_edit.specs.Tables.{said_for}
use Rattle.plan_steps.proofs.Steps.{alike_of, kept_of}
use Rattle.people_edit.proofs.Named.{no_one_found, nobody_stays, signed_so, unfound}
use Rattle.people_edit.proofs.people.name.Goals as goal

pub returns-then-is_none-2 : goal.returns-then-is_none-2
returns-then-is_none-2 c =
    let i = c.in-Commit in
    let e = Commit i.id i.mark i.branch i.author i.committer i.encoding i.comment i.parents i.ops i.aliases in
    let table = c.args.table.now in
    kept_of c.args.plan.now c.args.event.now e (authored (said_for table)) i.is c.requires
    (rw (
      unfound (said_for table) i.author (no_one_found (said_for table) i.author c.found-wrote.result c.found-wrote.ensures c.if-is_none.ensures),
      unfound (said_for table) i.committer (no_one_found (said_for table) i.committer c.found-made.result c.found-made.ensures c.if-is_none-2.ensures),
    ) refl)

pub returns-then-is_none-3 : goal.returns-then-is_none-3
returns-then-is_none-3 c =
    let i = c.in-Tag in
    let who = c.in-Some.tagger in
    let table = c.args.table.now in
    kept_of c.args.plan.now c.args.event.now (Tag i.id i.name i.target (Some who) i.comment i.mark) (authored (said_for table))
    (i.is ∙ ap (λ (t : Option Signed). Tag i.id i.name i.target t i.comment i.mark) c.in-Some.is) c.requires
    (rw (unfound (said_for table) who (no_one_found (said_for table) who c.found-made-in-Some.result c.found-made-in-Some.ensures c.if-is_none-3.ensures)) refl)

pub returns-in_ok-made-in-Commit : goal.returns-in_ok-made-in-Commit
returns-in_ok-made-in-Commit c =
    let i = c.in-Commit in
    let e = Commit i.id i.mark i.branch i.author i.committer i.encoding i.comment i.parents i.ops i.aliases in
    let wrote = c.in_ok-wrote-in-Commit.wrote in
    let made = c.in_ok-made-in-Commit.made in
    let table = c.args.table.now in
    on_ok_weaker c.set_both.result (λ is. is ∙ ap (λ (es : List PlainEvent). record c.args.plan.now { after = es })
    (alike_of c.args.plan.now.after c.args.event.now e (λ (x : PlainEvent). with_signed role.Committer made (with_signed role.Author wrote x)) (authored (said_for table)) i.is c.requires
    (rw (
      signed_so (said_for table) i.author c.found-wrote.result c.found-wrote.ensures wrote c.in_ok-wrote-in-Commit.ensures,
      signed_so (said_for table) i.committer c.found-made.result c.found-made.ensures made c.in_ok-made-in-Commit.ensures,
    ) refl))) c.set_both.ensures

pub returns-in_ok-made-in-Some : goal.returns-in_ok-made-in-Some
returns-in_ok-made-in-Some c =
    let i = c.in-Tag in
    let who = c.in-Some.tagger in
    let made = c.in_ok-made-in-Some.made in
    let table = c.args.table.now in
    on_ok_weaker c.set_signed.result (λ is. is ∙ ap (λ (es : List PlainEvent). record c.args.plan.now { after = es })
    (alike_of c.args.plan.now.after c.args.event.now (Tag i.id i.name i.target (Some who) i.comment i.mark) (with_signed role.Tagger made) (authored (said_for table))
    (i.is ∙ ap (λ (t : Option Signed). Tag i.id i.name i.target t i.comment i.mark) c.in-Some.is) c.requires
    (rw (signed_so (said_for table) who c.found-made-in-Some.result c.found-made-in-Some.ensures made c.in_ok-made-in-Some.ensures) refl))) c.set_signed.ensures.ok

pub returns-in-None : goal.returns-in-None
returns-in-None c =
    let i = c.in-Tag in
    kept_of c.args.plan.now c.args.event.now (Tag i.id i.name i.target None i.comment i.mark) (authored (said_for c.args.table.now))
    (i.is ∙ ap (λ (t : Option Signed). Tag i.id i.name i.target t i.comment i.mark) c.in-None.is) c.requires refl

pub returns-in_default : goal.returns-in_default
returns-in_default c =
    let e = c.args.event.now in
    kept_of c.args.plan.now e e (authored (said_for c.args.table.now)) refl c.requires (nobody_stays (said_for c.args.table.now) e c.in_default.not-Commit c.in_default.not-Tag)
