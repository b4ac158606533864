use Rattle.std.proofs.Common.{◌∙◌, ◌++◌, ◌∷◌, [], subst, sym}
use Rattle.std.specs.List.{AllByRecursion}
use Rattle.mailbox_edit.specs.Landings.{IsLandable}
use Rattle.mailbox_edit.specs.declared.landing.Landing.{Landing}
use Rattle.mailbox_edit.proofs.Landed.{landable_append}
use Rattle.mailbox_edit.proofs.Meant.{noted_landable, pushed}
use Rattle.mailbox_edit.proofs.landing.note_landing.Goals as goal

pub returns-else-is_err-clause-landable : goal.returns-else-is_err-clause-landable
returns-else-is_err-clause-landable c =
    let events = c.args.events.now.list in
    let l : Landing = record { id = c.in-Some.id; said = c.args.said; body = c.args.body; count = c.args.count } in
    subst (AllByRecursion (IsLandable events)) (sym (c.push.ensures.items ∙ pushed c.push.result (c.args.landings.now.items ++ l ∷ []) c.args.landings.now.items (sym c.is_err.ensures.value ∙ c.if-is_err.false)))
    (landable_append events c.args.landings.now.items l c.requires.landable
    (noted_landable events c.args.said c.in-Some.id c.args.body c.args.count (sym c.id_meant.ensures ∙ c.in-Some.is) c.requires.fits))
