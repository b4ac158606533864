use Rattle.load_list.proofs.Places.{all_live_at, denoted_at, kept_at, none_denoted}
use Rattle.load_list.proofs.NamedEntries.{named_set}
use Rattle.load_list.proofs.list.LoadList.denoted.Goals as goal

pub invariant_of-self : goal.invariant_of-self
invariant_of-self g c = named_set c.self.inside.by_name.entries c.in_ok-place.place c.denoted.new.self c.self.invariant

pub returns-in_err-place-clause-judged : goal.returns-in_err-place-clause-judged
returns-in_err-place-clause-judged g c =
    none_denoted c.args.self.now c.args.selection.now (g.P.Patterns.sizes c.args.patterns.now) (g.P.Patterns.sizes c.args.patterns.now) c.in_err-place.field-0.0
    c.from_residual.result c.from_residual.ensures.1 c.in_err-place.ensures

pub returns-clause-judged : goal.returns-clause-judged
returns-clause-judged g c =
    rw (← c.self.view_is)
    (denoted_at c.self.inside.by_name.entries c.self.inside.choice c.in_ok-place.place (rw (← c.self.view_is) at c.in_ok-place.ensures) c.index_mut.result.now c.index_mut.ensures.value
    c.args.selection.now (g.P.Patterns.sizes c.args.patterns.now) (g.P.Patterns.sizes c.denoted.new.patterns) c.denoted.result c.denoted.ensures.judged)

pub returns-clause-live : goal.returns-clause-live
returns-clause-live g c =
    rw (← c.self.view_is)
    (all_live_at c.self.inside.by_name.entries c.self.inside.choice c.in_ok-place.place (rw (← c.self.view_is) at c.in_ok-place.ensures) c.index_mut.result.now c.index_mut.ensures.value
    c.denoted.result c.denoted.ensures.live)

pub returns-clause-same : goal.returns-clause-same
returns-clause-same g c =
    rw (← c.self.view_is)
    (kept_at c.self.inside.by_name.entries c.self.inside.choice c.in_ok-place.place (rw (← c.self.view_is) at c.in_ok-place.ensures) c.index_mut.result.now c.index_mut.ensures.value
    c.denoted.new.self c.denoted.ensures.same)
