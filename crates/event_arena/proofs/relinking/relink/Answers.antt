use Rattle.std.proofs.Common.{◌∙◌, sym, subst}
use Rattle.event_arena.specs.Relinked.{AreKnown}
use Rattle.event_arena.proofs.RelinkLemmas.{gone_relinked, put_relinked}
use Rattle.event_arena.proofs.relinking.relink.Goals as goal

pub returns-in_default-clause-linked : goal.returns-in_default-clause-linked
returns-in_default-clause-linked c = λ it. gone_relinked c.args.parent c.args.table.now c.args.links.now.lists (sym c.place.ensures.place ∙ c.in_default.is)

pub link_all-requires-clause-all : goal.link_all-requires-clause-all
link_all-requires-clause-all c =
    c.collect.ensures.all c.if-not-collect.false c.args.parent
    (subst (λ ns. AreKnown c.args.parent c.args.touched.now ns c.args.table.now) (sym c.children.ensures)
    (c.requires.known c.args.parent c.in-Some.place (sym c.in-Some.ensures.place)))

pub returns-clause-linked : goal.returns-clause-linked
returns-clause-linked c = λ it. put_relinked c.args.parent c.in-Some.place c.args.table.now c.args.links.now.lists c.link_all.new.links.lists (sym c.in-Some.ensures.place) (c.link_all.ensures.linked it)
