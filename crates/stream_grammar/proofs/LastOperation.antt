-- The limit that the last operation of a commit passes.
use Rattle.std.proofs.Common.{◌≡◌, List, [], ◌∷◌, ◌++◌, Option, Some, None, refl, sym, ◌∙◌, ap}
use Rattle.plain_model.specs.declared.operation.FileOp.{FileOp}
use Rattle.plain_model.specs.Histories.{folded}
use Rattle.plain_model.specs.Trees.{Tree}
use Rattle.history_laws.proofs.LineLaws.{folded_more}
use Rattle.stream_grammar.specs.Limits.{limit_on, last_limit}

-- it is that of the operation, on the tree that the others give
pub limit_last : (ops : List FileOp) (op : FileOp) (t : Option Tree) → last_limit (ops ++ op ∷ []) t ≡ limit_on op (folded ops t)
limit_last [] op None = refl
limit_last [] op (Some t) = refl
limit_last (x ∷ []) op t = refl
limit_last (x ∷ y ∷ ops) op t = limit_last (y ∷ ops) op (folded (x ∷ []) t) ∙ ap (limit_on op) (sym (folded_more (x ∷ []) (y ∷ ops) t))
