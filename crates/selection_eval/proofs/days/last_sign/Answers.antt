use Rattle.std.proofs.Common.{◌≡◌, ◌<◌, ◌+◌, ◌-◌, ℕ, suc, None, Some, length, drop, take, subst, arith}
use Rattle.plain_model.specs.Paths.{Bytes}
use Rattle.selection_eval.specs.Days.{at_last_sign}
use Rattle.selection_eval.proofs.DayTexts.{cut_at, none_after_all}
use Rattle.selection_eval.proofs.days.last_sign.Goals as goal

pub loop-after-init : goal.loop-after-init
loop-after-init c =
    let text : Bytes = c.args.text.now in
    let all : length text ≡ length text - 0 = omega arith in
    subst (λ (n : ℕ). at_last_sign (drop n text) ≡ None) all (none_after_all text)

pub returns-then-text-place-eq35-clause-cut : goal.returns-then-text-place-eq35-clause-cut
returns-then-text-place-eq35-clause-cut c =
    let text : Bytes = c.args.text.now in
    let after : ℕ = c.loop-after.after in
    let place : ℕ = length text - 1 - after in
    let within : after < length text = c.loop-after-test.true in
    let end : length text - after ≡ suc place = omega arith in
    let next : suc place ≡ place + 1 = omega arith in
    let none : at_last_sign (drop (suc place) text) ≡ None =
    subst (λ (n : ℕ). at_last_sign (drop n text) ≡ None) end c.loop-after.invariant in
    subst (λ (n : ℕ). at_last_sign text ≡ Some (take place text, drop n text)) next
    (cut_at text place (omega arith) c.if-text-place-eq35.true none)
