use Rattle.std.proofs.Common.{List, [], refl, sym, subst}
use Rattle.plain_model.specs.declared.event.PlainEvent.{PlainEvent}
use Rattle.stream_builder.specs.Agreement.{TreesAgree}
use Rattle.stream_builder.proofs.Counting.{ops_more}
use Rattle.stream_builder.proofs.Kept.{one_beside}
use Rattle.stream_builder.proofs.closing.push_open.Goals as goal

pub returns-in-Reset-clause-count : goal.returns-in-Reset-clause-count
returns-in-Reset-clause-count c = ops_more c.args.drafts.now c.push_reset.new.self _ c.in_ok-push_reset-in-Reset.ensures.ok

pub returns-in-Reset-clause-trees : goal.returns-in-Reset-clause-trees
returns-in-Reset-clause-trees c = λ m opened within.
    subst (λ (es : List PlainEvent). TreesAgree c.args.trees.now es [] []) (sym c.in_ok-push_reset-in-Reset.ensures.ok)
    (one_beside c.args.trees.now c.args.drafts.now _ refl [] [] m)
