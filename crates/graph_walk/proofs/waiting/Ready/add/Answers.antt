use Rattle.std.proofs.Common.{subst, ◌≡◌, List, ℕ, ◌||◌, eqb}
use Rattle.graph_walk.specs.Waiters.{is_among}
use Rattle.graph_walk.proofs.WaitingLemmas.{among_more}
use Rattle.graph_walk.proofs.waiting.Ready.add.Goals as goal

pub returns-clause-ok : goal.returns-clause-ok
returns-clause-ok c =
    subst (λ (old : List ℕ). (k : ℕ) → is_among k c.insert.new.self.keys ≡ eqb k c.args.place || is_among k old) c.self.view_is
    (among_more c.args.place c.self.inside.places.keys c.insert.new.self.keys c.in_ok-insert.ensures.updates.0)
