use Rattle.std.proofs.Common.{◌≡◌, ◌∙◌, true, ap, sym}
use Rattle.std.proofs.lemmas.Bool.{not-false}
use Rattle.plain_model.specs.Lookups.{id_of, place_of, same_id}
use Rattle.history_laws.proofs.Ids.{same_id_true}
use Rattle.event_arena.proofs.RelinkLemmas.{own_place}
use Rattle.event_arena.proofs.shifting.place_from.Goals as goal

pub returns-else-is_other-clause-found : goal.returns-else-is_other-clause-found
returns-else-is_other-clause-found c low =
    let at = c.id_at.ensures in
    let same : same_id c.id_at.result c.args.id ≡ true = not-false _ (sym c.is_other.ensures ∙ c.if-is_other.false) in
    let is : c.args.id ≡ id_of at.0 = sym (same_id_true c.id_at.result c.args.id same) ∙ at.2 in
    ap (λ i. place_of i c.args.table.now) is ∙ own_place c.args.table.now c.loop-place.place at.0 c.count-count.ensures.once at.1
