use Rattle.std.proofs.Common.{◌∙◌, List, ap, map}
use Rattle.std.proofs.lemmas.Result.{on_ok_weaker}
use Rattle.plain_model.specs.declared.id.AnyId.{AnyId}
use Rattle.plain_model.specs.declared.event.PlainEvent.{PlainEvent}
use Rattle.event_arena.specs.Changes.{without_all}
use Rattle.event_arena.specs.Graphs.{Change}
use Rattle.path_expunge.specs.declared.fates.Fate.{Fate}
use Rattle.path_expunge.specs.Fates.{all_given_way, fated}
use Rattle.path_expunge.proofs.FateLemmas.{given_all, left_all}
use Rattle.path_expunge.proofs.pushing.give_way.Goals as goal

pub returns : goal.returns
returns c =
    let plan = c.args.plan.now in
    let es = plan.after in
    let set = c.args.set.now in
    let ids = c.in_ok-prepared.prepared.ids in
    let table = c.in_ok-prepared.ensures.fates in
    on_ok_weaker c.remove_all.result (λ is.
    is ∙ ap (λ (p : Change). record p { after = without_all ids p.after }) c.in_ok-give_all.ensures
    ∙ ap (λ (l : List PlainEvent). record plan { after = l })
    (ap (λ (fs : List Fate). without_all ids (all_given_way fs es)) c.deref.ensures.value
    ∙ ap (λ (l : List PlainEvent). without_all ids l) (given_all (fated set es) c.in_ok-prepared.prepared.fates.items es table.count (λ j e at. table.entry j e at))
    ∙ ap (λ (l : List AnyId). without_all l (map (fated set es) es)) c.in_ok-prepared.ensures.ids
    ∙ left_all set es c.requires.sound)) c.remove_all.ensures.ok
