use Rattle.std.proofs.Common.{sym, subst, take, add-one}
use Rattle.event_arena.specs.Relinked.{AreRelinked}
use Rattle.event_arena.proofs.ListLemmas.{take_all, take_more}
use Rattle.event_arena.proofs.RelinkLemmas.{all_known, relinked_then, room_still}
use Rattle.event_arena.proofs.relinking.relink_each.Goals as goal

pub relink-requires-clause-known : goal.relink-requires-clause-known
relink-requires-clause-known c = all_known (take c.loop-commit.commit-index c.args.commits.now) c.args.touched.now c.args.table.now c.args.links.now.lists c.loop-commit.links.lists c.requires.known c.loop-commit.invariant.linked

pub loop-commit-preserved : goal.loop-commit-preserved
loop-commit-preserved c =
    let v = c.loop-commit.invariant in
    let e = c.relink.ensures in
    rw add-one (record {
      room = room_still v.room e.room;
      linked = subst (λ cs. AreRelinked cs c.args.table.now c.args.links.now.lists c.relink.new.links.lists)
          (sym (take_more c.args.commits.now c.loop-commit.commit-index c.commit-item.result c.loop-commit-test.true c.commit-item.is))
          (relinked_then (take c.loop-commit.commit-index c.args.commits.now) _ c.args.table.now c.args.links.now.lists c.loop-commit.links.lists c.relink.new.links.lists v.linked (e.linked c.if-not-relink.false));
    })

pub returns-clause-linked : goal.returns-clause-linked
returns-clause-linked c = λ it. subst (λ cs. AreRelinked cs c.args.table.now c.args.links.now.lists c.loop-commit.links.lists)
    (take_all c.args.commits.now c.loop-commit.commit-index c.loop-commit-test.false) c.loop-commit.invariant.linked
