use Rattle.std.proofs.Common.{sym, ap, ◌∙◌}
use Rattle.script_lines.specs.Redirections.{is_redirection}
use Rattle.script_lines.proofs.Boundaries.{after_sign}
use Rattle.script_lines.proofs.redirection.redirected.Goals as goal

pub range_from-requires : goal.range_from-requires
range_from-requires c = λ some.
    after_sign c.args.direction c.as_str.result.now c.as_str.utf8
    (ap (is_redirection c.args.direction) (c.as_str.ensures ∙ sym c.as_bytes.ensures) ∙ sym c.if-is_redirection.ensures)
