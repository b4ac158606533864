-- How many operations there are after one more event.
use Rattle.std.proofs.Common.{◌≡◌, ℕ, ◌+◌, List, [], ◌∷◌, ◌++◌, ◌∙◌, ap, arith}
use Rattle.plain_model.specs.declared.event.PlainEvent.{PlainEvent}
use Rattle.plain_model.specs.declared.operation.FileOp.{FileOp}
use Rattle.plain_model.specs.Histories.{Node}
use Rattle.history_laws.specs.Counts.{ops_in, ops_in_event}

pub ops_more : (es all : List PlainEvent) (e : PlainEvent) → all ≡ es ++ e ∷ [] → ops_in all ≡ ops_in es + ops_in_event e
ops_more es all e is = ap ops_in is ∙ go es
  where
    go : (xs : List PlainEvent) → ops_in (xs ++ e ∷ []) ≡ ops_in xs + ops_in_event e
    go [] = omega arith
    go (x ∷ xs) = let more = go xs in omega (arith, more)

abbrev one_node : List ℕ → List FileOp → ℕ → List Node
one_node parents ops id = record { id = id; parents = parents; ops = ops } ∷ []

pub same_node : (parents : List ℕ) (ops : List FileOp) {a b : ℕ} → a ≡ b → one_node parents ops a ≡ one_node parents ops b
same_node parents ops e = ap (one_node parents ops) e
