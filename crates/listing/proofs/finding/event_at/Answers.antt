use Rattle.std.proofs.Common.{[]}
use Rattle.plain_model.specs.Lookups.{id_of}
use Rattle.listing.proofs.Found.{dated}
use Rattle.listing.proofs.finding.event_at.Goals as goal

pub returns-clause-dated : goal.returns-clause-dated
returns-clause-dated c =
    let all = dated [] c.args.events.now.list (id_of c.nth.result.now) c.count-count.ensures.sound.formed in
    rw c.nth.ensures.found at all
