use Rattle.std.proofs.Common.{◌∙◌, List, ℕ, sym, ap, Some}
use Rattle.std.specs.Prelude.{is_some}
use Rattle.plain_model.specs.Histories.{folded}
use Rattle.manifest_cache.specs.Listed.{events_of}
use Rattle.manifest_cache.specs.Walks.{ops_back}
use Rattle.manifest_cache.proofs.folding.tree_of.Goals as goal

pub folded-requires : goal.folded-requires
folded-requires g c =
    ap (λ (w : List ℕ). is_some (folded (ops_back (events_of c.args.listed.now) w) (Some c.in_ok-walk.base))) c.as_slice.ensures
    ∙ ap is_some (sym c.in_ok-walk.ensures.tree) ∙ c.in_ok-walk.ensures.there
