use Rattle.std.proofs.Common.{◌≡◌, List, Ok, subst}
use Rattle.expunge_laws.specs.Expunged.{expunged}
use Rattle.expunge_laws.specs.Matching.{Matches, matched_by}
use Rattle.path_expunge.proofs.expunging.expunged.Goals as goal

pub returns-clause-after : goal.returns-clause-after
returns-clause-after c =
    subst (λ (ms : List Matches). expunged (matched_by ms) c.args.events.now.list ≡ Ok c.remove_paths.new.plan.after) c.in_ok-matching.ensures c.in_ok-remove_paths.ensures.after
