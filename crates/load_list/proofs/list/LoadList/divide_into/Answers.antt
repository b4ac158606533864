use Rattle.load_list.proofs.Dividing.{chosen_some}
use Rattle.load_list.proofs.list.LoadList.divide_into.Goals as goal

pub split-requires-clause-there : goal.split-requires-clause-there
split-requires-clause-there c = rw c.halves.ensures.same (chosen_some c.args.self.now c.args.place c.args.name.now c.requires.at c.requires.name)
