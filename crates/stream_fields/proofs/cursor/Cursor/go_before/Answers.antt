use Rattle.std.proofs.Common.{◌+◌, ◌-◌, length, ap, sym, ◌∙◌, arith}
use Rattle.stream_fields.proofs.Rests.{counted_up, place_left}
use Rattle.stream_fields.proofs.cursor.Cursor.go_before.Goals as goal

pub invariant_of-self : goal.invariant_of-self
invariant_of-self c =
    let text = c.self.inside.text.now in (
      omega arith,
      (λ i. c.self.invariant.1 i + c.count_line_ends.ensures i)
          ∙ counted_up text c.self.inside.at (length text - c.args.left) (place_left text c.self.inside.at c.args.left c.args.self.now (ap (λ p. p.text) (sym c.self.view_is)) (ap (λ p. p.at) (sym c.self.view_is)) c.requires c.self.invariant.0),
    )
