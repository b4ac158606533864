use Rattle.people_laws.specs.Authors.{all_authored, authors_of}
use Rattle.people_edit.specs.Tables.{said_for}
use Rattle.people_edit.proofs.Named.{named}
use Rattle.people_edit.proofs.Planned.{planned}
use Rattle.people_edit.proofs.people.authors.Goals as goal

pub returns : goal.returns
returns c =
    let events = c.args.events.now in
    let bytes = c.args.bytes.now in
    let table = c.in_ok-table.table in
    planned events c.in_ok-plan.plan c.name_all.new.plan (all_authored (said_for table) events.list) (authors_of bytes events.list)
    c.in_ok-plan.ensures c.in_ok-name_all.ensures (named bytes events.list table c.in_ok-table.ensures)
    (λ left done. c.authors_keep_soundness.ensures bytes events.list left c.count-count.ensures.sound done)
