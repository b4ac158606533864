use Rattle.std.proofs.Common.{refl, sym, ap, ◌∙◌, subst, List, ℕ, []}
use Rattle.script_lines.specs.Scripts.{without_back}
use Rattle.macro_lines.specs.Macros.{run_of}
use Rattle.macro_lines.specs.Taken.{IsTaken}
use Rattle.macro_lines.proofs.Keeping.{counted_full, ok_with, takes_long, takes_nothing}
use Rattle.macro_lines.proofs.running.called_line.Goals as goal

pub returns-in-Whole : goal.returns-in-Whole
returns-in-Whole c =
    ok_with c.run_line.result (λ made taken put kept.
    let whole = rw c.in-Whole.is at kept in
    subst (λ (text : List ℕ). IsTaken made (run_of c.args.selection.now text) [])
    (c.trim_back.ensures ∙ ap without_back c.as_str.ensures ∙ ap without_back whole.0) taken) c.run_line.ensures

pub returns-in-Full : goal.returns-in-Full
returns-in-Full c =
    ok_with c.run_line-in-Full.result (λ made taken put kept.
    let full = rw c.in-Full.is at kept in
    subst (λ (text : List ℕ). IsTaken made (run_of c.args.selection.now text) [])
    (c.trim_back-in-Full.ensures ∙ ap without_back c.as_str-in-Full.ensures ∙ sym (counted_full c.in-Full.text put [] full.0)) taken) c.run_line-in-Full.ensures

pub returns-in-TooLong : goal.returns-in-TooLong
returns-in-TooLong c put kept = takes_long c.args.selection.now put (rw c.in-TooLong.is at kept)

pub returns-in-Comment : goal.returns-in-Comment
returns-in-Comment c put kept = (takes_nothing c.args.selection.now put (rw c.in-Comment.is at kept), refl)
