use Rattle.std.proofs.Common.{subst, List, ℕ, ◌≡◌, []}
use Rattle.std.specs.Prelude.{MatchOption}
use Rattle.graph_walk.specs.Waiters.{TakesLeast}
use Rattle.graph_walk.proofs.WaitingLemmas.{least_taken}
use Rattle.graph_walk.proofs.waiting.Ready.pop.Goals as goal

pub returns : goal.returns
returns c =
    subst (λ (old : List ℕ). MatchOption c.pop_first.result ((old ≡ []) × (c.pop_first.new.self.keys ≡ [])) (λ place. TakesLeast place old c.pop_first.new.self.keys)) c.self.view_is
    (least_taken c.pop_first.result c.self.inside.places.keys c.pop_first.new.self.keys c.pop_first.ensures.removal c.pop_first.ensures.all_above c.pop_first.ensures.unchanged c.pop_first.ensures.variant.1)
