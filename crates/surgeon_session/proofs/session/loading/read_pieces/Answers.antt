use Rattle.surgeon_session.proofs.Pieces.{whole_near, whole_returns}
use Rattle.surgeon_session.proofs.session.loading.read_pieces.Goals as goal

pub returns-in-Ok-clause-returns : goal.returns-in-Ok-clause-returns
returns-in-Ok-clause-returns g c =
    whole_returns c.args.name.now (g.S.Store.state c.args.store.now).rest (g.S.Store.state c.feed_pieces.new.store).rest c.feed_pieces.new.reader c.finish.result c.in-Ok.ensures.tells
    c.finish.ensures.gives

pub returns-in-Ok-clause-near : goal.returns-in-Ok-clause-near
returns-in-Ok-clause-near g c =
    whole_near c.args.name.now (g.S.Store.state c.args.store.now).rest (g.S.Store.state c.feed_pieces.new.store).rest c.feed_pieces.new.reader c.finish.result c.in-Ok.ensures.tells
    c.finish.ensures.gives c.limits_refuse_nothing_else.ensures.defect c.finish.ensures.causes
