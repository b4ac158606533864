use Rattle.std.proofs.Common.{ap, ◌∙◌}
use Rattle.stream_grammar.specs.Known.{Known}
use Rattle.stream_builder.specs.Building.{ops_in, parents_in}
use Rattle.stream_builder.proofs.Built.{begun}
use Rattle.stream_builder.proofs.builder.Builder.begin.Goals as goal

pub invariant_of-self : goal.invariant_of-self
invariant_of-self c =
    begun c.self.inside.drafts c.self.inside.current c.args.current c.self.inside.trees c.forget.new.self c.self.inside.ops c.self.invariant
    (ap (λ (k : Known). k.current) (c.self.view_is ∙ c.in_ok-close.ensures)) c.requires
    (c.forget.ensures.kept c.self.inside.drafts (parents_in c.self.inside.current) (ops_in c.self.inside.current) (parents_in c.args.current) c.self.invariant.agrees)
