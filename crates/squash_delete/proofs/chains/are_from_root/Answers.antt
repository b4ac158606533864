use Rattle.std.proofs.Common.{◌∙◌, sym, take}
use Rattle.plain_model.specs.Soundness.{IsCommitOf}
use Rattle.plan_steps.proofs.Nodes.{first_of}
use Rattle.squash_delete.proofs.ChainLemmas.{root_none, root_some}
use Rattle.squash_delete.proofs.chains.are_from_root.Goals as goal

pub link_of-requires-clause-earlier : goal.link_of-requires-clause-earlier
link_of-requires-clause-earlier c =
    first_of (IsCommitOf (take c.args.table.now.count c.args.removal.now.events)) c.args.parents.now c.in-Some.parent.now (sym c.in-Some.ensures.value) c.requires.before

pub returns-in-Some : goal.returns-in-Some
returns-in-Some c =
    c.link_of.ensures.from_root ∙ root_some c.args.removal.now.set c.args.removal.now.events c.in-Some.parent.now c.args.parents.now (sym c.in-Some.ensures.value)

pub returns-in-None : goal.returns-in-None
returns-in-None c = sym (root_none c.args.removal.now.set c.args.removal.now.events c.args.parents.now (sym c.in-None.ensures.value))
