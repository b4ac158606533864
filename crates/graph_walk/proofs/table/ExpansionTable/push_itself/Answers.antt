use Rattle.std.proofs.Common.{◌∙◌, ◌++◌, ◌∷◌, [], List, add-one, ap, arith, length, sym}
use Rattle.graph_walk.specs.Table.{expansions_to}
use Rattle.graph_walk.specs.declared.expansion.Expansion.{Expansion}
use Rattle.graph_walk.specs.declared.expansion.Expansion.TheVariants.{At}
use Rattle.graph_walk.proofs.TableLemmas.{length_to, one_itself}
use Rattle.graph_walk.proofs.table.ExpansionTable.push_itself.Goals as goal

pub overflow_add-self : goal.overflow_add-self
overflow_add-self c =
    let all = ap length (sym c.self.view_is) ∙ length_to c.self.inside.count c.self.inside.entries.items in
    let room = c.requires in
    omega arith

pub returns : goal.returns
returns c =
    let count = c.self.inside.count in
    let xs = c.self.inside.entries.items in
    rw add-one (
    one_itself count xs c.self.invariant
    ∙ ap (λ n. expansions_to count xs ++ At n ∷ []) (sym (length_to count xs))
    ∙ ap (λ (es : List Expansion). es ++ At (length es) ∷ []) c.self.view_is
    )
