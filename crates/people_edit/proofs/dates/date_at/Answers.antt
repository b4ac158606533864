use Rattle.std.proofs.Common.{◌∙◌, refl, sym}
use Rattle.std.specs.Prelude.{unwrap_or}
use Rattle.std.proofs.lemmas.Bool.{cond-false}
use Rattle.plain_model.specs.Lookups.{id_of, is_listed}
use Rattle.people_laws.specs.Dates.{dated, dated_in}
use Rattle.plan_steps.proofs.Steps.{kept_of}
use Rattle.people_edit.proofs.dates.date_at.Goals as goal

pub returns-else-has_at : goal.returns-else-has_at
returns-else-has_at c =
    let e = c.args.event.now in
    let set = c.args.flagged.now.set in
    kept_of c.args.plan.now e e (dated_in c.args.seconds c.args.zone.now set) refl c.requires.found
    (cond-false (is_listed (id_of e) set) (unwrap_or (dated c.args.seconds c.args.zone.now e) e) e (sym (c.has_at.ensures e c.requires.event) ∙ c.if-has_at.false))
