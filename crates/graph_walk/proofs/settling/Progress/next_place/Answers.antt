use Rattle.std.proofs.Common.{◌∙◌, subst, sym}
use Rattle.history_laws.specs.Once.{AreDistinct}
use Rattle.graph_walk.proofs.TurnLemmas.{comes_next, none_found, some_found}
use Rattle.graph_walk.proofs.settling.Progress.next_place.Goals as goal

pub returns-in-Some-clause-some : goal.returns-in-Some-clause-some
returns-in-Some-clause-some c =
    comes_next c.pop.new.self c.in-Some.place (subst AreDistinct (sym c.in-Some.ensures.plan) c.count-count.ensures.once) c.in-Some.ensures.cases

pub returns-clause-none : goal.returns-clause-none
returns-clause-none c =
    none_found c.look.new.self c.in_ok-found.found (subst AreDistinct (sym (c.in_ok-found.ensures.plan ∙ c.pop.ensures.plan)) c.count-count.ensures.once) c.in_ok-found.ensures.cases

pub returns-clause-some : goal.returns-clause-some
returns-clause-some c =
    some_found c.look.new.self c.in_ok-found.found (subst AreDistinct (sym (c.in_ok-found.ensures.plan ∙ c.pop.ensures.plan)) c.count-count.ensures.once) c.in_ok-found.ensures.cases
