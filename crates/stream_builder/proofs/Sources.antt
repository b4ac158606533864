-- Whether a source is there.
use Rattle.std.proofs.Common.{◌≡◌, true, cond, not, [], ◌∷◌, Some, None, refl, ap, ◌∙◌}
use Rattle.std.specs.Prelude.{◌||◌, is_some}
use Rattle.plain_model.specs.Paths.{Bytes, is_at_or_below, is_below}
use Rattle.plain_model.specs.Trees.{Tree, at, subtree}
use Rattle.plain_model.proofs.Words.{bytes_eq_same}
use Rattle.history_laws.proofs.TreeLaws.{at_where}
use Rattle.stream_grammar.specs.Known.{has_source, is_empty_list}

-- a file is at its own path
pub file_there : (p : Bytes) (t : Tree) → is_some (at t p) ≡ true → true ≡ has_source p (Some t)
file_there p t is = go (subtree p t) (ap is_some (at_where (is_at_or_below p) p t ∙ ap (λ b. cond (b || is_below p p) (at t p) None) (bytes_eq_same p)) ∙ is)
  where
    go : (s : Tree) → is_some (at s p) ≡ true → true ≡ not (is_empty_list s)
    go [] h = absurd cc
    go (x ∷ s) h = refl
