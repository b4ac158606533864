use Rattle.std.proofs.Common.{◌≡◌, ◌∙◌, take, ap, sym, true, add-one}
use Rattle.std.proofs.Math.ListN.{set}
use Rattle.std.specs.Prelude.{map}
use Rattle.plain_model.specs.Lookups.{id_of, is_listed}
use Rattle.history_laws.proofs.Ids.{placeless}
use Rattle.event_arena.proofs.ChangeLemmas.{listed_more, listed_skip, none_listed}
use Rattle.event_arena.proofs.ListLemmas.{take_all, take_more}
use Rattle.event_arena.proofs.table.EventTable.listed.Goals as goal
use Rattle.event_arena.proofs.table.EventTable.listed.Goals.{in-Some, in_default}

pub loop-id-init : goal.loop-id-init
loop-id-init c =
    none_listed c.args.self.now c.count.result _ _ c.resize.new.self.items c.count.ensures.count c.new-listed.ensures.len c.new-listed.ensures.items c.in_ok-resize.ensures.items

pub loop-id-preserved : goal.loop-id-preserved
loop-id-preserved c =
    let es = c.args.self.now in
    let seen = take c.loop-id.id-index c.args.ids.now in
    let id = c.id-item.result in
    let so_far : c.loop-id.listed.items ≡ map (λ e. is_listed (id_of e) seen) es = c.loop-id.invariant in
    let more = ap (λ ids. map (λ e. is_listed (id_of e) ids) es) (sym (take_more c.args.ids.now c.loop-id.id-index id c.loop-id-test.true c.id-item.is)) in
    elim c.match-place.branch [
      | in-Some w ↦
          rw (w.listed-is, add-one) (
          ap (λ bs. set bs w.in-Some.place true) so_far
          ∙ listed_more es seen id w.in-Some.place c.count.ensures.once (sym w.in-Some.ensures.place) ∙ more
          )
      | in_default w ↦ rw (w.listed-is, add-one) (so_far ∙ listed_skip es seen id (placeless es id (sym w.in_default.ensures.place)) ∙ more)
    ]

pub returns : goal.returns
returns c =
    let so_far : c.loop-id.listed.items ≡ map (λ e. is_listed (id_of e) (take c.loop-id.id-index c.args.ids.now)) c.args.self.now = c.loop-id.invariant in
    so_far ∙ ap (λ ids. map (λ e. is_listed (id_of e) ids) c.args.self.now) (take_all c.args.ids.now c.loop-id.id-index c.loop-id-test.false)
