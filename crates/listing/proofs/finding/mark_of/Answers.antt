use Rattle.std.proofs.Common.{◌∙◌, sym}
use Rattle.listing.proofs.Found.{commit_found}
use Rattle.listing.proofs.finding.mark_of.Goals as goal

pub returns-in-Some : goal.returns-in-Some
returns-in-Some c =
    let found = commit_found c.args.events.now.list c.args.id in
    c.own_mark.ensures ∙ sym (rw (← c.in-Some.ensures) at found)

pub returns-in-None : goal.returns-in-None
returns-in-None c =
    let found = commit_found c.args.events.now.list c.args.id in
    sym (rw (← c.in-None.ensures) at found)
