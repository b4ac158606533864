use Rattle.manifest_cache.specs.Kept.{AgreesWith}
use Rattle.load_list.proofs.NamedEntries.{named_set}
use Rattle.load_list.proofs.Places.{kept_at, of_chosen}
use Rattle.load_list.proofs.list.LoadList.give_trees.Goals as goal

pub give_trees-requires : goal.give_trees-requires
give_trees-requires c =
    of_chosen c.self.inside.by_name.entries c.self.inside.choice c.args.place (rw (← c.self.view_is) at c.requires.at) c.index_mut.result.now c.index_mut.ensures.value
    (λ repo. AgreesWith repo.history c.args.trees) (rw (← c.self.view_is) at c.requires.agrees)

pub invariant_of-self : goal.invariant_of-self
invariant_of-self c = named_set c.self.inside.by_name.entries c.args.place c.give_trees.new.self c.self.invariant

pub returns : goal.returns
returns c =
    rw (← c.self.view_is)
    (kept_at c.self.inside.by_name.entries c.self.inside.choice c.args.place (rw (← c.self.view_is) at c.requires.at) c.index_mut.result.now c.index_mut.ensures.value
    c.give_trees.new.self c.give_trees.ensures)
