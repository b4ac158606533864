use Rattle.std.proofs.Common.{ap, ◌∙◌}
use Rattle.stream_grammar.specs.Known.{Known}
use Rattle.stream_builder.proofs.Built.{finished, spent}
use Rattle.stream_builder.proofs.builder.Builder.finish.Goals as goal

pub returns-clause-list : goal.returns-clause-list
returns-clause-list c =
    finished c.args.self c.self.inside.drafts c.self.inside.aliases (ap (λ (k : Known). k.events) (c.self.view_is ∙ c.in_ok-close.ensures))
    (ap (λ (k : Known). k.aliases) (c.self.view_is ∙ c.in_ok-close.ensures)) c.finish.result c.finish.ensures.history c.finish.ensures.fits

pub returns-clause-spent : goal.returns-clause-spent
returns-clause-spent c = λ is.
    spent c.args.self c.self.inside.drafts c.self.inside.aliases (ap (λ (k : Known). k.events) (c.self.view_is ∙ c.in_ok-close.ensures))
    (ap (λ (k : Known). k.aliases) (c.self.view_is ∙ c.in_ok-close.ensures)) (c.finish.ensures.spent is)
