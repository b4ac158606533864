use Rattle.std.proofs.Common.{◌≡◌, drop}
use Rattle.std.specs.List.{AllByRecursion}
use Rattle.graft_laws.specs.Joined.{AreNameBytes}
use Rattle.load_list.specs.Lists.{parts_there}
use Rattle.load_list.proofs.Uniting.{parts_after}
use Rattle.load_list.proofs.list.LoadList.parts.Given as goal

abbrev pub invariant-loop-name : goal.invariant-loop-name
invariant-loop-name l = record {
  left : parts_after l.parts (drop l.name-index l.names) l.self.repos ≡ parts_there l.names l.self.repos;
  named : AllByRecursion (λ part. AreNameBytes part.name) l.parts;
}
