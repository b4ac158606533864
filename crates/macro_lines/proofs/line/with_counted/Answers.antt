use Rattle.std.proofs.Common.{sym, ap, length, ◌+◌, ◌≤◌, ◌∙◌, ◌++◌, subst, List, ℕ}
use Rattle.plain_model.specs.declared.limit.TheConstants.{MAX_LINE_BYTES}
use Rattle.script_lines.specs.Scripts.{is_nothing}
use Rattle.macro_lines.proofs.Keeping.{fails, full, is_comment, is_too_long}
use Rattle.macro_lines.proofs.line.with_counted.Goals as goal

pub returns-then-fits-2 : goal.returns-then-fits-2
returns-then-fits-2 c put few whole =
    let counted = c.trim_back-counted in
    full c.args.text c.args.piece.now counted.result.now put whole counted.ensures
    (subst (λ (t : List ℕ). length t + length c.args.piece.now ≤ MAX_LINE_BYTES → ⊥) c.as_str.ensures (fails c.fits.result c.fits.ensures c.if-fits.false))
    (subst (λ (t : List ℕ). length t + length counted.result.now ≤ MAX_LINE_BYTES) c.as_str-2.ensures (c.fits-2.ensures.0 c.if-fits-2.true))
    c.push_str-then-fits-2.new.self c.in_ok-push_str-2.ensures

pub returns-then-are_nothing : goal.returns-then-are_nothing
returns-then-are_nothing c put few whole =
    let counted = c.trim_back-counted in
    is_comment c.args.text c.args.piece.now counted.result.now put whole counted.ensures
    (subst (λ (t : List ℕ). length t + length counted.result.now ≤ MAX_LINE_BYTES → ⊥) c.as_str-2.ensures (fails c.fits-2.result c.fits-2.ensures c.if-fits-2.false))
    few (ap (λ (t : List ℕ). is_nothing (t ++ c.args.piece.now)) (sym c.as_str-3.ensures) ∙ sym c.are_nothing.ensures ∙ c.if-are_nothing.true)

pub returns : goal.returns
returns c put few whole =
    let counted = c.trim_back-counted in
    is_too_long c.args.text c.args.piece.now counted.result.now put whole counted.ensures
    (subst (λ (t : List ℕ). length t + length counted.result.now ≤ MAX_LINE_BYTES → ⊥) c.as_str-2.ensures (fails c.fits-2.result c.fits-2.ensures c.if-fits-2.false))
    few (ap (λ (t : List ℕ). is_nothing (t ++ c.args.piece.now)) (sym c.as_str-3.ensures) ∙ sym c.are_nothing.ensures ∙ c.if-are_nothing.false)
