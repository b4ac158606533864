use Rattle.std.proofs.Common.{◌∙◌, refl, sym}
use Rattle.std.proofs.lemmas.Bool.{cond-false}
use Rattle.plain_model.specs.Lookups.{id_of, is_listed}
use Rattle.people_laws.specs.Values.{valued_in, with_text}
use Rattle.plan_steps.proofs.Steps.{kept_of}
use Rattle.people_edit.proofs.values.give_at.Goals as goal

pub returns-else-has_at : goal.returns-else-has_at
returns-else-has_at c =
    let e = c.args.event.now in
    let value = c.args.value.now in
    let set = c.args.flagged.now.set in
    kept_of c.args.plan.now e e (valued_in value set) refl c.requires.found
    (cond-false (is_listed (id_of e) set) (with_text value.field value.text e) e (sym (c.has_at.ensures e c.requires.event) ∙ c.if-has_at.false))
