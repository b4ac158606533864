use Rattle.history_laws.proofs.SoundOnce.{has_id_find}
use Rattle.std.proofs.Common.{◌≡◌, ◌∙◌, true, false, List, map, ap, subst, sym}
use Rattle.plain_model.specs.declared.id.AnyId.TheVariants as any
use Rattle.plain_model.specs.declared.event.PlainEvent.{PlainEvent}
use Rattle.edit_laws.specs.Parts.{AreComplete}
use Rattle.divide_laws.specs.Divide.{divided}
use Rattle.divide_laws.specs.Links.{is_late}
use Rattle.divide_laws.specs.Sides.{halved, is_commit_among}
use Rattle.repo_divide.proofs.DividingLemmas.{flags_kept, halves_counted, parted_complete, still_joined}
use Rattle.repo_divide.proofs.dividing.divide_at.Goals as goal

pub commit_mark-mark-requires : goal.commit_mark-mark-requires
commit_mark-mark-requires c = sym (has_id_find c.args.events.now.list (any.Commit c.args.cut.child)) ∙ c.requires.child

pub returns-then-is_flagged-clause-answer : goal.returns-then-is_flagged-clause-answer
returns-then-is_flagged-clause-answer c =
    let events = c.args.events.now.list in
    let cut = c.args.cut in
    let flag = c.is_flagged.ensures (is_late events cut) (c.deref.ensures.value ∙ c.in_ok-late.ensures) c.requires.parent in
    still_joined events cut c.commit_mark-mark.result (sym flag ∙ c.if-is_flagged.true) c.commit_mark-mark.ensures

pub halves-requires-clause-complete : goal.halves-requires-clause-complete
halves-requires-clause-complete c =
    subst (λ (es : List PlainEvent). AreComplete es) (sym c.in_ok-plan.ensures.after) (parted_complete c.args.events.now.list c.args.cut c.count-count.ensures.sound)

pub returns-then-has_many-clause-answer : goal.returns-then-has_many-clause-answer
returns-then-has_many-clause-answer c =
    let events = c.args.events.now.list in
    let cut = c.args.cut in
    let late = is_late events cut in
    let flag = c.is_flagged.ensures late (c.deref.ensures.value ∙ c.in_ok-late.ensures) c.requires.parent in
    let flags = c.deref-2.ensures.value ∙ c.in_ok-late.ensures ∙ sym (flags_kept late events cut) ∙ ap (map (is_commit_among late)) (sym c.in_ok-plan.ensures.after) in
    let made : c.in_ok-halves.halves ≡ divided events cut = c.in_ok-halves.ensures late flags ∙ ap (halved late) c.in_ok-plan.ensures.after in
    halves_counted events cut c.in_ok-halves.halves true (sym flag ∙ c.if-is_flagged.false) made (sym c.has_many.ensures ∙ c.if-has_many.true)

pub returns-clause-answer : goal.returns-clause-answer
returns-clause-answer c =
    let events = c.args.events.now.list in
    let cut = c.args.cut in
    let late = is_late events cut in
    let flag = c.is_flagged.ensures late (c.deref.ensures.value ∙ c.in_ok-late.ensures) c.requires.parent in
    let flags = c.deref-2.ensures.value ∙ c.in_ok-late.ensures ∙ sym (flags_kept late events cut) ∙ ap (map (is_commit_among late)) (sym c.in_ok-plan.ensures.after) in
    let made : c.in_ok-halves.halves ≡ divided events cut = c.in_ok-halves.ensures late flags ∙ ap (halved late) c.in_ok-plan.ensures.after in
    halves_counted events cut c.in_ok-halves.halves false (sym flag ∙ c.if-is_flagged.false) made (sym c.has_many.ensures ∙ c.if-has_many.false)
