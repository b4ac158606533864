use Rattle.std.proofs.Common.{subst, sym, ◌∙◌}
use Rattle.stream_grammar.specs.Known.{with_event}
use Rattle.stream_builder.specs.declared.known.OpenTree.{OpenTree}
use Rattle.stream_builder.specs.Agreement.{IsOpened, open_tree}
use Rattle.stream_builder.proofs.Kept.{earlier_after, one_after, own_after, own_earlier}
use Rattle.stream_builder.proofs.known.Trees.keep.Goals as goal

pub returns-in-Folded-Some : goal.returns-in-Folded-Some
returns-in-Folded-Some c = λ events e parents ops m opened within one is.
    let earlier = earlier_after c.args.self.now events e c.args.commit parents ops m within one is in
    let own = own_earlier c.args.self.now events e c.args.commit parents ops m within one is c.in-Folded-Some.tree
    (sym c.in-Folded-Some.field-0-is ∙ subst (λ (o : OpenTree). IsOpened o (open_tree events parents ops)) c.in-Folded-Some.is opened) in
    own_after c.args.self.now events e c.args.commit parents ops m within one is c.put.new.self (c.put.ensures (with_event events e) earlier own)

pub returns : goal.returns
returns c = λ events e parents ops m opened within one is.
    one_after c.args.self.now events e c.args.commit parents ops m within one is

pub returns-2 : goal.returns-2
returns-2 c = λ events e parents ops m opened within one is.
    one_after c.args.self.now events e c.args.commit parents ops m within one is
