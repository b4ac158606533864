use Rattle.std.proofs.Common.{◌≡◌, true, false, refl}
use Rattle.selection_eval.proofs.Marks.{unmarked}
use Rattle.selection_eval.proofs.spots.marked.Goals as goal

pub returns-in-None-clause-ids : goal.returns-in-None-clause-ids
returns-in-None-clause-ids c =
    rw (unmarked c.args.number (λ is. let no : false ≡ true = c.in-None.ensures.fits.1 is in absurd cc) c.args.events.now.list
    c.count-count.ensures.sound) refl
