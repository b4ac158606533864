use Rattle.std.proofs.Common.{◌∙◌, ◌∷◌, [], ◌++◌, arith, ap, inl, refl, sym}
use Rattle.plain_model.specs.declared.id.AnyId.{AnyId}
use Rattle.graph_walk.specs.declared.waiting.Waiter.{Waiter}
use Rattle.graph_walk.proofs.StepLemmas.{mark_taken}
use Rattle.graph_walk.proofs.TurnLemmas.{step_as}
use Rattle.graph_walk.proofs.settling.Progress.mark.Goals as goal

pub nth-requires : goal.nth-requires
nth-requires c =
    let low = (c.requires.at_hand.begun (record { place = c.args.place; slot = 0 }) (inl refl)).0 in
    let all = c.requires.at_hand.within in
    omega arith

pub index_mut-requires : goal.index_mut-requires
index_mut-requires c =
    let low = (c.requires.at_hand.begun (record { place = c.args.place; slot = 0 }) (inl refl)).0 in
    let all = c.requires.at_hand.within in
    let flags = c.requires.at_hand.flag_count in
    omega arith

pub release-requires : goal.release-requires
release-requires c =
    let low = (c.requires.at_hand.begun (record { place = c.args.place; slot = 0 }) (inl refl)).0 in
    let all = c.requires.at_hand.within in
    let rows = c.requires.at_hand.row_count in
    omega arith

pub returns-clause-under_way : goal.returns-clause-under_way
returns-clause-under_way c =
    let s = c.args.self.now in
    let w : Waiter = record { place = c.args.place; slot = 0 } in
    let made = mark_taken s.plan.now.after w s.order s.taken.items s.ready s.waiting s.next c.nth.result.now c.requires.at_hand c.nth.ensures.event c.count-count.ensures.once in
    let order = c.in_ok-push.ensures.ok ∙ ap (λ (id : AnyId). s.order ++ id ∷ []) c.id-id.ensures in
    step_as s.plan.now.after _ _ _ _ _ _ s.ready s.ready _ _ s.next s.next (sym c.release.ensures.released) (sym order) refl refl (sym c.release.ensures.others) refl made
