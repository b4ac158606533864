use Rattle.std.proofs.lemmas.Result.{IfOk-weaker}
use Rattle.manifest_cache.specs.Kept.{AgreesWith}
use Rattle.load_list.proofs.NamedEntries.{named_set}
use Rattle.load_list.proofs.Places.{kept_at, said_at}
use Rattle.load_list.proofs.list.LoadList.take_trees.Goals as goal

pub invariant_of-self : goal.invariant_of-self
invariant_of-self c = named_set c.self.inside.by_name.entries c.args.place c.take_trees.new.self c.self.invariant

pub returns-clause-agrees : goal.returns-clause-agrees
returns-clause-agrees c =
    rw (← c.self.view_is)
    (IfOk-weaker c.take_trees.result (AgreesWith c.index_mut.result.now.history) _ (λ trees agrees.
    said_at c.self.inside.by_name.entries c.self.inside.choice c.args.place (rw (← c.self.view_is) at c.requires) c.index_mut.result.now c.index_mut.ensures.value
    (λ repo. AgreesWith repo.history trees) (λ name. agrees)) c.take_trees.ensures.agrees)

pub returns-clause-same : goal.returns-clause-same
returns-clause-same c =
    rw (← c.self.view_is)
    (kept_at c.self.inside.by_name.entries c.self.inside.choice c.args.place (rw (← c.self.view_is) at c.requires) c.index_mut.result.now c.index_mut.ensures.value
    c.take_trees.new.self c.take_trees.ensures.same)
