use Rattle.std.proofs.Common.{Some, subst, sym}
use Rattle.stream_builder.specs.Keeping.{IsEarlier}
use Rattle.stream_builder.proofs.Keeping.{one_more, still_earlier}
use Rattle.stream_builder.proofs.draft_trees.kept_trees.KeptTrees.put.Goals as goal

pub returns-then-is_err : goal.returns-then-is_err
returns-then-is_err c = λ events earlier own. c.make_room.ensures events earlier

pub returns-in-Ok : goal.returns-in-Ok
returns-in-Ok c = λ events earlier own.
    one_more events c.make_room.new.self (record { by_commit = c.insert.new.self; in_turn = c.push_back.new.self; weight = c.saturating_add-self.result })
    (c.make_room.ensures events earlier) c.number.result c.args.tree c.in-Ok.ensures.updates.0
    (subst (λ n. IsEarlier events n (Some c.args.tree)) (sym c.number.ensures) own)

pub returns : goal.returns
returns c = λ events earlier own.
    still_earlier events c.make_room.new.self (record { by_commit = c.insert.new.self; in_turn = c.push_back.new.self; weight = c.make_room.new.self.weight })
    (c.make_room.ensures events earlier) c.in-Err.ensures.err
