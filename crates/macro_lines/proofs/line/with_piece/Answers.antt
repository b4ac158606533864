use Rattle.std.proofs.Common.{sym, ap, ◌∙◌, subst, List, ℕ, [], ◌≡◌, ◌++◌}
use Rattle.script_lines.specs.Scripts.{is_nothing}
use Rattle.macro_lines.proofs.Keeping.{becomes_comment, becomes_too_long, empty_so, ok_with, some_so, still_comment, still_full, still_too_long}
use Rattle.macro_lines.proofs.line.with_piece.Goals as goal

pub returns-then-is_empty : goal.returns-then-is_empty
returns-then-is_empty c put kept =
    let full = rw c.in-Full.is at kept in
    (still_full c.in-Full.text put c.args.piece.now full.0 (sym c.trim_back.ensures ∙ empty_so c.trim_back.result.now c.is_empty.result c.is_empty.ensures c.if-is_empty.true), full.1)

pub returns-then-is_nothing : goal.returns-then-is_nothing
returns-then-is_nothing c put kept =
    let full = rw c.in-Full.is at kept in
    becomes_comment c.in-Full.text put c.args.piece.now full.0 (ap is_nothing (sym c.as_str-in-Full.ensures) ∙ sym c.is_nothing.ensures ∙ c.if-is_nothing.true)

pub returns-else-is_nothing : goal.returns-else-is_nothing
returns-else-is_nothing c put kept =
    let full = rw c.in-Full.is at kept in
    becomes_too_long c.in-Full.text put c.args.piece.now full.0
    (subst (λ (t : List ℕ). t ≡ [] → ⊥) c.trim_back.ensures (some_so c.trim_back.result.now c.is_empty.result c.is_empty.ensures c.if-is_empty.false))
    (ap is_nothing (sym c.as_str-in-Full.ensures) ∙ sym c.is_nothing.ensures ∙ c.if-is_nothing.false)

pub returns-in-TooLong : goal.returns-in-TooLong
returns-in-TooLong c put kept = still_too_long put c.args.piece.now (rw c.in-TooLong.is at kept)

pub returns-in-Comment : goal.returns-in-Comment
returns-in-Comment c put kept = still_comment put c.args.piece.now (rw c.in-Comment.is at kept)

pub returns-in-Whole : goal.returns-in-Whole
returns-in-Whole c = ok_with c.with_counted.result (λ now known put kept.
    let whole = rw c.in-Whole.is at kept in
    known (put ++ c.args.piece.now) whole.1 (c.added-piece.ensures put (c.as_str.ensures ∙ whole.0) ∙ ap (λ (t : List ℕ). t ++ c.added-piece.result.now) c.as_str.ensures)) c.with_counted.ensures
