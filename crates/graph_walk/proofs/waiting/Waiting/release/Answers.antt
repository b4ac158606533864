use Rattle.std.proofs.Common.{◌∙◌, ◌<◌, [], ap, get_or, length, List, subst, sym}
use Rattle.std.proofs.Math.ListN.{set}
use Rattle.graph_walk.specs.Rows.{rows_of}
use Rattle.graph_walk.specs.declared.waiting.Waiter.{Waiter}
use Rattle.graph_walk.proofs.WaitingLemmas.{rows_read, rows_set}
use Rattle.graph_walk.proofs.waiting.Waiting.release.Goals as goal

pub returns-clause-others : goal.returns-clause-others
returns-clause-others c =
    rows_set c.self.inside.rows.items c.args.place c.replace.new.dest [] (ap (λ v. v.items) c.replace.ensures.after ∙ c.new.ensures.items) ∙ ap (λ (xs : List (List Waiter)). set xs c.args.place []) c.self.view_is

pub returns-clause-released : goal.returns-clause-released
returns-clause-released c =
    let rows = c.self.inside.rows.items in
    let low : c.args.place < length (rows_of rows) = subst (λ (xs : List (List Waiter)). c.args.place < length xs) (sym c.self.view_is) c.requires in
    ap (λ v. v.items) c.replace.ensures.value ∙ rows_read rows c.args.place c.index_mut.result.now low c.index_mut.ensures.value ∙ ap (λ (xs : List (List Waiter)). get_or xs c.args.place []) c.self.view_is
