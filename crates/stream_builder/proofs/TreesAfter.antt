-- Trees after one more event, and after one more operation.
use Rattle.std.proofs.Common.{◌≡◌, ℕ, cond, List, [], ◌∷◌, ◌++◌, reverse, ap, ◌∙◌}
use Rattle.std.specs.Prelude.{◌==◌}
use Rattle.std.proofs.lemmas.List.{reverse-append}
use Rattle.plain_model.specs.declared.event.PlainEvent.{PlainEvent}
use Rattle.plain_model.specs.Histories.{Node, Past, nodes, past, folded, begun, tree_in, tree}
use Rattle.history_laws.proofs.Commits.{nodes_append}

past_append : (es : List PlainEvent) (e : PlainEvent) → past (es ++ e ∷ []) ≡ reverse (nodes (e ∷ [])) ++ past es
past_append es e = ap reverse (nodes_append es (e ∷ [])) ∙ reverse-append (nodes es) (nodes (e ∷ []))

-- an event that is no commit has no part in any tree
pub tree_beside : (es : List PlainEvent) (e : PlainEvent) → nodes (e ∷ []) ≡ [] → (c : ℕ) → tree (es ++ e ∷ []) c ≡ tree es c
tree_beside es e none c = ap (λ (l : Past). tree_in l c) (past_append es e ∙ ap (λ (l : List Node). reverse l ++ past es) none)

-- a commit has its own tree, and leaves the others
pub tree_after : (es : List PlainEvent) (e : PlainEvent) (n : Node) → nodes (e ∷ []) ≡ n ∷ [] → (c : ℕ)
    → tree (es ++ e ∷ []) c ≡ cond (n.id == c) (folded n.ops (begun (tree es) n.parents)) (tree es c)
tree_after es e n one c = ap (λ (l : Past). tree_in l c) (past_append es e ∙ ap (λ (l : List Node). reverse l ++ past es) one)
