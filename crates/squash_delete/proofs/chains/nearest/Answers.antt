use Rattle.std.proofs.Common.{subst, sym, take}
use Rattle.plain_model.specs.Soundness.{IsCommitOf}
use Rattle.history_laws.proofs.SoundOnce.{sound_once}
use Rattle.plan_steps.proofs.Nodes.{first_of}
use Rattle.plan_steps.specs.Depths.{depth}
use Rattle.squash_delete.specs.Chains.{IsNearest}
use Rattle.plan_steps.proofs.Depths.{depth_before}
use Rattle.squash_delete.proofs.ChainLemmas.{nearest_none, nearest_some}
use Rattle.squash_delete.proofs.chains.nearest.Goals as goal

pub returns-in_err-parent : goal.returns-in_err-parent
returns-in_err-parent c most before =
    let events = c.args.removal.now.events in
    let set = c.args.removal.now.set in
    subst (IsNearest set events most c.args.parents.now) (sym c.from_residual.ensures) (nearest_none set events most c.args.parents.now (sym c.in_err-parent.ensures.value))

pub link_of-requires-clause-earlier : goal.link_of-requires-clause-earlier
link_of-requires-clause-earlier c =
    first_of (IsCommitOf (take c.args.table.now.count c.args.removal.now.events)) c.args.parents.now c.in_ok-parent.parent.now (sym c.in_ok-parent.ensures.value) c.requires.before

pub returns : goal.returns
returns c most before =
    let events = c.args.removal.now.events in
    let set = c.args.removal.now.set in
    let p = c.in_ok-parent.parent.now in
    let first = sym c.in_ok-parent.ensures.value in
    let low = depth_before events (sound_once events c.count-count.ensures.sound).ids most p (first_of (IsCommitOf (take most events)) c.args.parents.now p first before) in
    nearest_some set events (depth events p) most p c.args.parents.now c.link_of.result.nearest first low c.link_of.ensures.nearest
