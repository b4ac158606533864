use Rattle.std.proofs.Common.{◌∙◌, List, ℕ, length, ap, sym}
use Rattle.history_laws.proofs.SoundOnce.{sound_once}
use Rattle.plain_model.specs.Histories.{past}
use Rattle.edit_laws.proofs.Following.{expand_itself}
use Rattle.graph_walk.specs.Joined.{with_all}
use Rattle.std.proofs.lemmas.Result.{on_ok_weaker}
use Rattle.squash_laws.specs.Removed.{is_removed}
use Rattle.plan_steps.proofs.NodeLemmas.{earlier_there}
use Rattle.plan_steps.proofs.WayLemmas.{is_early}
use Rattle.squash_delete.proofs.standing.add_standing.Goals as goal

pub has-requires : goal.has-requires
has-requires c =
    earlier_there c.args.removal.now.events c.count-count.ensures.sound (length c.args.rows.now) c.args.commit c.requires.earlier

pub place-requires : goal.place-requires
place-requires c =
    earlier_there c.args.removal.now.events c.count-count.ensures.sound (length c.args.rows.now) c.args.commit c.requires.earlier

pub row_at-requires : goal.row_at-requires
row_at-requires c =
    let events = c.args.removal.now.events in
    (is_early events (length c.args.rows.now) c.args.commit c.place.result (sound_once events c.count-count.ensures.sound).ids c.requires.earlier c.place.ensures.place).low

pub returns-then-has : goal.returns-then-has
returns-then-has c =
    let events = c.args.removal.now.events in
    let b = is_early events (length c.args.rows.now) c.args.commit c.place.result (sound_once events c.count-count.ensures.sound).ids c.requires.earlier c.place.ensures.place in
    let row = c.row_at.ensures ∙ c.requires.rows.entry c.place.result b.event b.at b.low c.args.commit b.own (sym c.has.ensures ∙ c.if-has.true) in
    on_ok_weaker c.add_all.result (λ is. is ∙ ap (λ (l : List ℕ). with_all c.args.made.now l) row) c.add_all.ensures

pub returns-else-has : goal.returns-else-has
returns-else-has c =
    let stays = sym c.has.ensures ∙ c.if-has.false in
    on_ok_weaker c.add_all-else-has.result (λ is.
    is ∙ ap (λ (l : List ℕ). with_all c.args.made.now l) (sym (expand_itself (is_removed c.args.removal.now.set) (past c.args.removal.now.events) c.args.commit stays))) c.add_all-else-has.ensures
