use Rattle.std.proofs.Common.{◌≡◌, List, Ok, refl, subst}
use Rattle.plain_model.specs.declared.event.PlainEvent.{PlainEvent}
use Rattle.people_laws.specs.Dates.{time_offset_of}
use Rattle.people_laws.specs.Values.{set_field_of}
use Rattle.script_reader.specs.declared.edit.Edit.TheVariants as edit
use Rattle.history_machine.proofs.Steps.{KeepsAll, all_keeps, kept_by_ids}
use Rattle.history_machine.proofs.laws.other_fields_keep_trees.Goals as goal

pub returns-clause-offset : goal.returns-clause-offset
returns-clause-offset c = λ denial s files selection seconds zone t done.
    all_keeps denial s files selection (edit.TimeOffset seconds zone) t (λ ids events. time_offset_of seconds zone ids events) (λ ids next events. refl) done
    (λ subject repo after ready is made.
    let kept = c.changed_fields_keep_trees.ensures.dates seconds zone subject.ids repo.history after made in
    kept_by_ids repo.history after kept.0 kept.1.ids)

pub returns-clause-value : goal.returns-clause-value
returns-clause-value c = λ denial s files selection value t done.
    all_keeps denial s files selection (edit.SetField value) t (λ ids events. Ok (set_field_of value ids events)) (λ ids next events. refl) done
    (λ subject repo after ready is made.
    let same : set_field_of value subject.ids repo.history ≡ after = cc in
    let kept = c.changed_fields_keep_trees.ensures.values value subject.ids repo.history in
    subst (λ (new : List PlainEvent). KeepsAll repo.history new) same (kept_by_ids repo.history (set_field_of value subject.ids repo.history) kept.0 kept.1.ids))
