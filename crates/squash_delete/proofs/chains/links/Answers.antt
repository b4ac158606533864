use Rattle.std.proofs.Common.{◌∙◌, arith, ap, sym}
use Rattle.std.specs.Prelude.{slice_get}
use Rattle.history_laws.proofs.Lists.{item_at}
use Rattle.squash_delete.specs.Chains.{AreLinks}
use Rattle.squash_delete.proofs.EntryLemmas.{links_more, links_none, links_over}
use Rattle.squash_delete.proofs.chains.links.Goals as goal

pub loop-place-init : goal.loop-place-init
loop-place-init c =
    let events = c.args.removal.now.events in
    let set = c.args.removal.now.set in
    let near = c.next_near-place.ensures in
    let pass = c.pass_to.ensures in
    let start = c.none-table.ensures.count in
    record {
      within = near.within;
      count = pass.count;
      links = links_over set events c.none-table.result c.pass_to.new.self (links_none set events c.none-table.result start) pass.same pass.others
          (λ k e from to at. let until = pass.count in near.apart k e (omega arith) (omega arith) at);
    }

pub loop-place-preserved : goal.loop-place-preserved
loop-place-preserved c =
    let events = c.args.removal.now.events in
    let set = c.args.removal.now.set in
    let place = c.loop-place.place in
    let old = c.loop-place.table in
    let noted = c.note.new.self in
    let near = c.next_near-place-in-loop-place.ensures in
    let pass = c.pass_to-in-loop-place.ensures in
    let item = item_at events place (let test = c.loop-place-test.true in let count = c.count-count.ensures.count in omega arith) in
    let here = c.loop-place.invariant.count in
    let more : AreLinks set events noted =
    links_more set events old noted c.loop-place.invariant.links c.link_at-link.result
    (λ e at. c.link_at-link.ensures e (sym (ap (slice_get events) here) ∙ at)) c.in_ok-note.ensures in
    let next = c.in_ok-note.ensures.count in
    record {
      within = near.within;
      count = pass.count;
      links = links_over set events noted c.pass_to-in-loop-place.new.self more pass.same pass.others
          (λ k e from to at. let until = pass.count in near.apart k e (omega arith) (omega arith) at);
    }
