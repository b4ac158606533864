use Rattle.std.proofs.Common.{◌∙◌}
use Rattle.load_list.proofs.Uniting.{taken_nowhere, taken_there}
use Rattle.load_list.proofs.list.LoadList.is_taken.Goals as goal

pub returns-then-is_there : goal.returns-then-is_there
returns-then-is_there c =
    rw (← c.self.view_is)
    (taken_there c.self.inside.by_name.entries c.get_index_of.ensures.unique c.args.names.now c.args.joined.now c.is_some-is_there.result c.requires (c.is_some-is_there.ensures ∙ c.get_index_of.ensures.found)
    c.if-is_there.true)

pub returns-else-is_there : goal.returns-else-is_there
returns-else-is_there c =
    rw (← c.self.view_is)
    (taken_nowhere c.self.inside.by_name.entries c.get_index_of.ensures.unique c.args.names.now c.args.joined.now c.is_some-is_there.result c.requires (c.is_some-is_there.ensures ∙ c.get_index_of.ensures.found)
    c.if-is_there.false)
