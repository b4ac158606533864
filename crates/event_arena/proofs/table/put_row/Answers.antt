use Rattle.std.proofs.Common.{ap, refl}
use Rattle.std.proofs.Math.ListN.{set}
use Rattle.std.proofs.lemmas.Result.{MatchResult-from_err}
use Rattle.std.specs.Vec.{with_item}
use Rattle.event_arena.proofs.RowLemmas.{row_same}
use Rattle.event_arena.proofs.table.put_row.Goals as goal

pub returns-in_err-rows-clause-err : goal.returns-in_err-rows-clause-err
returns-in_err-rows-clause-err c =
    let same = rw c.in_err-rows.was at c.make_mut.follows.holds-at-none in
    MatchResult-from_err c.from_residual.result _ _ c.from_residual.ensures.0 (λ _. row_same c.args.rows.now.value c.make_mut.follows.lender-at-none.value same)

pub returns-clause-ok : goal.returns-clause-ok
returns-clause-ok c =
    let back = c.make_mut.follows.holds (with_item c.in_ok-rows.rows.now c.args.place c.args.row) (rw c.in_ok-rows.was refl) in
    rw back (ap (λ rows. set rows c.args.place c.args.row) (row_same c.args.rows.now.value c.in_ok-rows.rows.now c.in_ok-rows.ensures.value))
