use Rattle.std.proofs.Common.{◌∙◌, ◌++◌, ◌∷◌, [], get_or, sym, ap, length, ◌<◌, subst, List}
use Rattle.std.proofs.Math.ListN.{set}
use Rattle.std.proofs.lemmas.List.{set-get_or}
use Rattle.graph_walk.specs.Rows.{rows_of}
use Rattle.graph_walk.specs.declared.waiting.Waiter.{Waiter}
use Rattle.graph_walk.proofs.WaitingLemmas.{rows_read, rows_set}
use Rattle.graph_walk.proofs.waiting.Waiting.add.Goals as goal
use Rattle.history_laws.proofs.Results.{on_err}

pub returns-in_err-push-clause-err : goal.returns-in_err-push-clause-err
returns-in_err-push-clause-err c =
    let rows = c.self.inside.rows.items in
    let low : c.args.place < length (rows_of rows) = subst (λ (xs : List (List Waiter)). c.args.place < length xs) (sym c.self.view_is) c.requires in
    let was = rows_read rows c.args.place c.index_mut.result.now low c.index_mut.ensures.value in
    on_err c.from_residual.result _ (rows_set rows c.args.place c.push.new.self (get_or (rows_of rows) c.args.place []) (c.in_err-push.ensures.items ∙ was) ∙ set-get_or (rows_of rows) c.args.place [] ∙ c.self.view_is)

pub returns-clause-ok : goal.returns-clause-ok
returns-clause-ok c =
    let rows = c.self.inside.rows.items in
    let low : c.args.place < length (rows_of rows) = subst (λ (xs : List (List Waiter)). c.args.place < length xs) (sym c.self.view_is) c.requires in
    let was = rows_read rows c.args.place c.index_mut.result.now low c.index_mut.ensures.value in
    rows_set rows c.args.place c.push.new.self (get_or (rows_of rows) c.args.place [] ++ c.args.waiter ∷ []) (c.in_ok-push.ensures.items ∙ ap (λ (xs : List Waiter). xs ++ c.args.waiter ∷ []) was)
    ∙ ap (λ (xs : List (List Waiter)). set xs c.args.place (get_or xs c.args.place [] ++ c.args.waiter ∷ [])) c.self.view_is
