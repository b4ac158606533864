use Rattle.std.proofs.Common.{◌≡◌, drop}
use Rattle.history_machine.specs.Several.{without_repos}
use Rattle.load_list.proofs.list.LoadList.remove_all.Given as goal

abbrev pub invariant-loop-name : goal.invariant-loop-name
invariant-loop-name l = record {
  left : without_repos (drop l.name-index l.names) l.self.repos ≡ without_repos l.names l.fn.self.repos;
  choice : l.self.choice ≡ l.fn.self.choice;
}
