use Rattle.std.proofs.Common.{ap, refl, subst, sym, ◌∙◌}
use Rattle.std.specs.Prelude.{option_map, IsSome}
use Rattle.graft_laws.specs.Joined.{AreNameBytes}
use Rattle.load_list.specs.Entries.{repo_under}
use Rattle.load_list.proofs.Entries.{found_under}
use Rattle.load_list.proofs.NamedEntries.{named_found}
use Rattle.load_list.proofs.Uniting.{part_is, part_missing}
use Rattle.load_list.proofs.list.LoadList.part.Goals as goal

pub returns-in-Some-clause-part : goal.returns-in-Some-clause-part
returns-in-Some-clause-part c =
    let name = c.args.name.now in
    let es = c.self.inside.by_name.entries in
    rw (← c.self.view_is)
    (part_is name _ c.in-Some.found.now c.new.result (ap (option_map (repo_under name)) c.in-Some.ensures.value ∙ found_under name es) c.new.ensures.name (c.new.ensures.events ∙ c.events.ensures))

pub returns-in-Some-clause-named : goal.returns-in-Some-clause-named
returns-in-Some-clause-named c =
    subst AreNameBytes (sym c.new.ensures.name) (named_found c.args.name.now c.self.inside.by_name.entries (subst IsSome c.in-Some.ensures.value refl) c.self.invariant)

pub returns-in_ok-not_there-in-None-clause-part : goal.returns-in_ok-not_there-in-None-clause-part
returns-in_ok-not_there-in-None-clause-part c =
    let name = c.args.name.now in
    let es = c.self.inside.by_name.entries in
    rw (← c.self.view_is) (part_missing name _ c.in_ok-not_there-in-None.field-0 (ap (option_map (repo_under name)) c.in-None.ensures.value ∙ found_under name es) c.in_ok-not_there-in-None.ensures)
