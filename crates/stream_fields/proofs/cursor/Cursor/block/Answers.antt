use Rattle.std.proofs.Common.{sym, ap}
use Rattle.stream_fields.proofs.Rests.{block_given}
use Rattle.stream_fields.proofs.cursor.Cursor.block.Goals as goal

pub returns-clause-value : goal.returns-clause-value
returns-clause-value c =
    block_given c.self.inside.text.now c.args.head.now c.in_ok-bytes.bytes c.skip_line_feed-left.result.now c.self.inside.at c.in_ok-size.size c.in_ok-size.end c.args.self.now c.go_before.new.self
    (ap (λ p. p.text) (sym c.self.view_is)) (ap (λ p. p.at) (sym c.self.view_is)) c.in_ok-size.ensures.0 c.in_ok-bytes.ensures c.skip_line_feed-left.ensures c.go_before.ensures.text c.go_before.ensures.at
