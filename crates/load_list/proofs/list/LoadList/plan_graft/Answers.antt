use Rattle.std.proofs.Common.{ap, refl, subst, sym, ◌∙◌}
use Rattle.std.specs.Prelude.{bytes_eq, option_map, IsSome}
use Rattle.manifest_cache.specs.Kept.{AgreesWith}
use Rattle.load_list.specs.Entries.{repo_under}
use Rattle.load_list.proofs.Entries.{found_under}
use Rattle.load_list.proofs.Joining.{fits_there, live_there, no_other, of_there, other_found, own_name, said_there}
use Rattle.load_list.proofs.NamedEntries.{named_found}
use Rattle.load_list.proofs.list.LoadList.plan_graft.Goals as goal

pub returns-then-eq-clause-plans : goal.returns-then-eq-clause-plans
returns-then-eq-clause-plans c =
    let entry = c.unwrap.result in
    rw (← c.self.view_is)
    (own_name c.self.inside.by_name.entries c.self.inside.choice c.args.place (rw (← c.self.view_is) at c.requires.at) (entry.0.now, entry.1.now) (sym (rw c.unwrap.ensures at c.get_index.ensures.entry))
    c.args.prune c.args.name.now c.args.ids.now c.in_ok-not_there.field-0 (c.if-eq.ensures ∙ ap (bytes_eq c.args.name.now) c.as_slice.ensures.value) c.in_ok-not_there.ensures)

pub plan_graft-requires-clause-live : goal.plan_graft-requires-clause-live
plan_graft-requires-clause-live c =
    let entry = c.unwrap.result in
    live_there c.self.inside.by_name.entries c.self.inside.choice c.args.place (rw (← c.self.view_is) at c.requires.at) (entry.0.now, entry.1.now) (sym (rw c.unwrap.ensures at c.get_index.ensures.entry))
    c.args.ids.now (rw (← c.self.view_is) at c.requires.live)

pub plan_graft-requires-clause-named : goal.plan_graft-requires-clause-named
plan_graft-requires-clause-named c = named_found c.args.name.now c.self.inside.by_name.entries (subst IsSome c.in-Some.ensures.value refl) c.self.invariant

pub plan_graft-requires-clause-agrees : goal.plan_graft-requires-clause-agrees
plan_graft-requires-clause-agrees c =
    let entry = c.unwrap.result in
    of_there c.self.inside.by_name.entries c.self.inside.choice c.args.place (rw (← c.self.view_is) at c.requires.at) (entry.0.now, entry.1.now) (sym (rw c.unwrap.ensures at c.get_index.ensures.entry))
    (λ repo. AgreesWith repo.history c.args.trees.now) (rw (← c.self.view_is) at c.requires.agrees)

pub returns-in-Some-clause-plans : goal.returns-in-Some-clause-plans
returns-in-Some-clause-plans c =
    let entry = c.unwrap.result in
    let name = c.args.name.now in
    let es = c.self.inside.by_name.entries in
    rw (← c.self.view_is)
    (other_found es c.self.inside.choice c.args.place (rw (← c.self.view_is) at c.requires.at) (entry.0.now, entry.1.now) (sym (rw c.unwrap.ensures at c.get_index.ensures.entry))
    c.args.prune name c.args.ids.now c.in-Some.part.now c.plan_graft.result (c.if-eq.ensures ∙ ap (bytes_eq c.args.name.now) c.as_slice.ensures.value) (ap (option_map (repo_under name)) c.in-Some.ensures.value ∙ found_under name es) c.plan_graft.ensures.plans)

pub returns-in-Some-clause-fits : goal.returns-in-Some-clause-fits
returns-in-Some-clause-fits c =
    let entry = c.unwrap.result in
    rw (← c.self.view_is)
    (fits_there c.self.inside.by_name.entries c.self.inside.choice c.args.place (rw (← c.self.view_is) at c.requires.at) (entry.0.now, entry.1.now) (sym (rw c.unwrap.ensures at c.get_index.ensures.entry))
    c.plan_graft.result c.plan_graft.ensures.before c.plan_graft.ensures.made_at c.plan_graft.ensures.sound)

pub returns-in-Some-clause-agrees : goal.returns-in-Some-clause-agrees
returns-in-Some-clause-agrees c =
    let entry = c.unwrap.result in
    rw (← c.self.view_is)
    (said_there c.self.inside.by_name.entries c.self.inside.choice c.args.place (rw (← c.self.view_is) at c.requires.at) (entry.0.now, entry.1.now) (sym (rw c.unwrap.ensures at c.get_index.ensures.entry))
    (λ repo. AgreesWith repo.history c.plan_graft.new.trees) c.plan_graft.ensures.agrees)

pub returns-in_ok-not_there-in-None-clause-plans : goal.returns-in_ok-not_there-in-None-clause-plans
returns-in_ok-not_there-in-None-clause-plans c =
    let entry = c.unwrap.result in
    let name = c.args.name.now in
    let es = c.self.inside.by_name.entries in
    rw (← c.self.view_is)
    (no_other es c.self.inside.choice c.args.place (rw (← c.self.view_is) at c.requires.at) (entry.0.now, entry.1.now) (sym (rw c.unwrap.ensures at c.get_index.ensures.entry))
    c.args.prune name c.args.ids.now c.in_ok-not_there-in-None.field-0 (c.if-eq.ensures ∙ ap (bytes_eq c.args.name.now) c.as_slice.ensures.value) (ap (option_map (repo_under name)) c.in-None.ensures.value ∙ found_under name es) c.in_ok-not_there-in-None.ensures)
