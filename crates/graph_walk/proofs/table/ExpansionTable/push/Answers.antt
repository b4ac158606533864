use Rattle.std.proofs.Common.{◌≡◌, ◌∙◌, ◌++◌, ◌∷◌, [], List, suc, ap, arith}
use Rattle.graph_walk.specs.Table.{expansions_to}
use Rattle.graph_walk.specs.declared.expansion.Expansion.{Expansion}
use Rattle.graph_walk.specs.declared.table.Entry.{Entry}
use Rattle.graph_walk.proofs.TableLemmas.{one_more}
use Rattle.graph_walk.proofs.table.ExpansionTable.push.Goals as goal

pub returns : goal.returns
returns c =
    let count = c.self.inside.count in
    let xs = c.self.inside.entries.items in
    let next : c.in-Some.count ≡ suc count = let e = c.in-Some.ensures in omega arith in
    ap (λ n. expansions_to n c.push.new.self.items) next
    ∙ ap (λ (ys : List Entry). expansions_to (suc count) ys) c.in_ok-push.ensures.items
    ∙ one_more count xs c.self.invariant c.args.expansion
    ∙ ap (λ (es : List Expansion). es ++ c.args.expansion ∷ []) c.self.view_is
