use Rattle.std.proofs.Common.{◌∙◌, add-one, arith, ap, sym, take}
use Rattle.plain_model.specs.declared.id.AnyId.TheVariants as any
use Rattle.plain_model.specs.Lookups.{find_event}
use Rattle.history_laws.proofs.Lists.{item_at}
use Rattle.event_arena.specs.Graphs.{Change}
use Rattle.event_arena.proofs.ListLemmas.{take_item}
use Rattle.empty_commits.specs.Tagging.{with_tag_of}
use Rattle.empty_commits.proofs.TaggingLemmas.{behind, behind_more, few_so_far, next_unknown}
use Rattle.empty_commits.proofs.tagging.append_all.Goals as goal

pub append_at-requires-clause-room : goal.append_at-requires-clause-room
append_at-requires-clause-room c =
    let set = c.args.empties.now.set in
    let events = c.args.empties.now.events in
    let next = ap (λ (p : Change). p.next) c.loop-place.invariant in
    let fewer = few_so_far set events c.loop-place.place in
    let few = c.no_more_tags_come_than_numbers.ensures set c.args.plan.now.next events c.count-place-end.ensures.sound c.requires.below in
    let low = c.requires.low in
    omega arith

pub append_at-requires-clause-unknown : goal.append_at-requires-clause-unknown
append_at-requires-clause-unknown c =
    ap (λ (p : Change). find_event (any.Tag p.next) p.after) c.loop-place.invariant
    ∙ next_unknown c.args.empties.now.set c.args.empties.now.events c.args.plan.now (take c.loop-place.place c.args.empties.now.events) c.requires.moved c.requires.below

pub loop-place-preserved : goal.loop-place-preserved
loop-place-preserved c =
    let set = c.args.empties.now.set in
    let events = c.args.empties.now.events in
    let place = c.loop-place.place in
    let item = item_at events place (let test = c.loop-place-test.true in let count = c.count-place-end.ensures.count in omega arith) in
    rw add-one (c.in_ok-append_at.ensures item.0 item.1
    ∙ ap (with_tag_of set events item.0) c.loop-place.invariant
    ∙ behind_more set events c.args.plan.now (take place events) item.0
    ∙ ap (behind set events c.args.plan.now) (sym (take_item events place item.0 item.1)))
