use Rattle.std.proofs.Common.{◌∙◌, [], ap, sym}
use Rattle.std.specs.Option.{option_map_or}
use Rattle.squash_delete.specs.Taking.{event_comment}
use Rattle.squash_delete.proofs.ChainLemmas.{comment_found}
use Rattle.squash_delete.proofs.taking.comment_at.Goals as goal

pub returns-in-Some : goal.returns-in-Some
returns-in-Some c =
    c.event_comment.ensures ∙ sym (comment_found c.args.list.now c.args.commit ∙ ap (λ o. option_map_or event_comment o []) (sym c.in-Some.ensures))

pub returns-in-None : goal.returns-in-None
returns-in-None c = sym (comment_found c.args.list.now c.args.commit ∙ ap (λ o. option_map_or event_comment o []) (sym c.in-None.ensures))
