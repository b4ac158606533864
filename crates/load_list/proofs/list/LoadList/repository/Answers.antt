use Rattle.std.proofs.Common.{ap, ◌∙◌}
use Rattle.std.specs.Prelude.{option_map}
use Rattle.load_list.specs.Entries.{repo_under}
use Rattle.load_list.proofs.Entries.{found_under}
use Rattle.load_list.proofs.list.LoadList.repository.Goals as goal

pub returns-in-Some : goal.returns-in-Some
returns-in-Some c =
    let name = c.args.name.now in
    rw (← c.self.view_is) (ap (option_map (repo_under name)) c.in-Some.ensures.value ∙ found_under name c.self.inside.by_name.entries)

pub returns-in-None : goal.returns-in-None
returns-in-None c =
    let name = c.args.name.now in
    rw (← c.self.view_is) (ap (option_map (repo_under name)) c.in-None.ensures.value ∙ found_under name c.self.inside.by_name.entries)
