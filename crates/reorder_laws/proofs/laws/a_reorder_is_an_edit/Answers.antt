use Rattle.std.proofs.Common.{sym, ◌∙◌}
use Rattle.edit_laws.proofs.Edits.{edit_without, fewer_below}
use Rattle.reorder_laws.specs.Reorder.{reorder_of}
use Rattle.reorder_laws.proofs.ReorderDone.{done_ids, done_limits, done_sound}
use Rattle.reorder_laws.proofs.laws.a_reorder_is_an_edit.Goals as goal

pub returns : goal.returns
returns c = edit_without (λ set events. reorder_of set events) (λ set events new h selection d. (
  record {
    sound = done_sound set events new h.sound selection d;
    within = done_limits set events new h.sound selection h.within d;
  },
  λ next below. fewer_below events new next (λ id there. sym (done_ids set events new h.sound selection d id) ∙ there) below,
))
