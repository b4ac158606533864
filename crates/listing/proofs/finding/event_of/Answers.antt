use Rattle.std.proofs.Common.{[]}
use Rattle.history_laws.specs.Finding.{IsDated}
use Rattle.listing.proofs.Found.{dated, holds_through}
use Rattle.listing.proofs.finding.event_of.Goals as goal

pub returns-clause-dated : goal.returns-clause-dated
returns-clause-dated c =
    let all = dated [] c.args.events.now.list c.args.id c.count-count.ensures.sound.formed in
    holds_through (λ e. e.now) c.event.result IsDated (rw (← c.event.ensures) at all)
