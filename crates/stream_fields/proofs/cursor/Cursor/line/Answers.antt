use Rattle.std.proofs.Common.{sym, ap}
use Rattle.stream_fields.proofs.Rests.{line_given, line_within}
use Rattle.stream_fields.proofs.cursor.Cursor.line.Goals as goal

pub go_before-requires : goal.go_before-requires
go_before-requires c = line_within c.self.inside.text.now c.in_ok-line.line.now c.in_ok-line.after.now c.self.inside.at c.in_ok-line.ensures

pub returns-clause-line : goal.returns-clause-line
returns-clause-line c =
    line_given c.self.inside.text.now c.in_ok-line.line.now c.in_ok-line.after.now c.self.inside.at c.args.self.now c.go_before.new.self
    (ap (λ p. p.text) (sym c.self.view_is)) (ap (λ p. p.at) (sym c.self.view_is)) c.in_ok-line.ensures c.go_before.ensures.text c.go_before.ensures.at
