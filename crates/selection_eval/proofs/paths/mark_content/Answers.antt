use Rattle.std.proofs.Common.{◌∙◌, ap, sym, true}
use Rattle.std.proofs.Math.ListN.{set}
use Rattle.plain_model.specs.declared.id.AnyId.TheVariants as any
use Rattle.history_laws.proofs.Ids.{placeless}
use Rattle.event_arena.proofs.ChangeLemmas.{listed_more, listed_skip}
use Rattle.history_laws.proofs.SoundOnce.{sound_once}
use Rattle.selection_eval.proofs.paths.mark_content.Goals as goal

pub returns-in-Some-clause-adds : goal.returns-in-Some-clause-adds
returns-in-Some-clause-adds c = λ before is.
    let es = c.args.events.now.list in
    let id = any.Blob c.in-Blob.blob in
    let once = (sound_once es c.count-count.ensures.sound).ids in
    rw c.in-Blob.is (
    ap (λ bits. set bits c.in-Some.place true) is
    ∙ listed_more es before id c.in-Some.place once (sym c.in-Some.ensures.place)
    )

pub returns-in_default-place-clause-adds : goal.returns-in_default-place-clause-adds
returns-in_default-place-clause-adds c = λ before is.
    let es = c.args.events.now.list in
    let id = any.Blob c.in-Blob.blob in
    rw c.in-Blob.is (is ∙ listed_skip es before id (placeless es id (sym c.in_default-place.ensures.place)))
