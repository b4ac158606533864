use Rattle.std.proofs.Common.{◌≡◌, ◌∙◌, ◌+◌, length, subst}
use Rattle.plain_model.specs.Faults.{Returns}
use Rattle.edit_laws.specs.Editing.{with_number}
use Rattle.graft_laws.specs.Graft.{graft_of}
use Rattle.graft_laws.specs.Joining.{without_passes}
use Rattle.graft_laws.specs.Unite.{Part}
use Rattle.history_machine.proofs.Selections.{selection_of}
use Rattle.history_machine.specs.Several.{grafted_with}
use Rattle.load_list.specs.Entries.{Loaded, made_by, repo_under}
use Rattle.load_list.proofs.Changing.{planned}
use Rattle.load_list.proofs.repository.Repository.plan_graft.Goals as goal

pub graft-requires-clause-selection : goal.graft-requires-clause-selection
graft-requires-clause-selection c = selection_of c.self.inside.events.list c.args.ids.now c.requires.once (rw (← c.self.view_is) at c.requires.live)

pub returns-clause-plans : goal.returns-clause-plans
returns-clause-plans c =
    let events = c.self.inside.events in
    let given : Part = record { name = c.args.name.now; events = c.args.part.now.history } in
    let same : c.new-part.result ≡ given = λ i. record { name = c.new-part.ensures.name i; events = (c.new-part.ensures.events ∙ c.events.ensures) i } in
    subst (λ (old : Loaded). Returns made_by c.graft.result (grafted_with c.args.prune (repo_under c.args.name.now c.args.part.now) c.args.ids.now old.next old.history)) c.self.view_is
    (subst (λ (part : Part). Returns made_by c.graft.result
    (with_number (events.next_id + length (without_passes part.events)) (graft_of c.args.prune events.next_id part.name part.events c.args.ids.now events.list)))
    same (planned events _ c.graft.result _ c.graft.ensures.plans))
