use Rattle.std.proofs.Common.{◌∙◌, ◌∷◌, ◌++◌, [], ap, refl}
use Rattle.std.proofs.lemmas.Result.{MatchResult-from_err}
use Rattle.event_arena.proofs.RowLemmas.{rows_push, rows_same}
use Rattle.event_arena.proofs.store.push_event.Goals as goal

pub returns-in_err-make_mut-clause-err : goal.returns-in_err-make_mut-clause-err
returns-in_err-make_mut-clause-err c =
    let same = rw c.in_err-make_mut.was at c.make_mut.follows.holds-at-none in
    MatchResult-from_err c.from_residual.result _ _ c.from_residual.ensures.0 (λ _. rows_same c.args.events.now.value c.make_mut.follows.lender-at-none.value same)

pub returns-in_err-push-clause-err : goal.returns-in_err-push-clause-err
returns-in_err-push-clause-err c =
    let back = c.make_mut.follows.holds c.push.new.self (rw c.in_ok-make_mut.was refl) in
    MatchResult-from_err c.from_residual-in_err-push.result _ _ c.from_residual-in_err-push.ensures.0
    (λ _. rw (back, c.in_err-push.ensures.items) (rows_same c.args.events.now.value c.in_ok-make_mut.field-0.now c.in_ok-make_mut.ensures.value))

pub returns-clause-ok : goal.returns-clause-ok
returns-clause-ok c =
    let back = c.make_mut.follows.holds c.push.new.self (rw c.in_ok-make_mut.was refl) in
    rw (back, c.in_ok-push.ensures.items) (
    rows_push c.in_ok-make_mut.field-0.now.items c.args.event
    ∙ ap (λ es. es ++ c.args.event.value ∷ []) (rows_same c.args.events.now.value c.in_ok-make_mut.field-0.now c.in_ok-make_mut.ensures.value)
    )
