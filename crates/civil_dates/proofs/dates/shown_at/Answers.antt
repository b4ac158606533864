use Rattle.std.proofs.Common.{◌≡◌, pos, arith, w64, to_z}
use Rattle.std.proofs.Math.Facts.{to_z_pos}
use Rattle.jiff_core.proofs.SignedLemmas.{signed_arith}
use Rattle.civil_dates.proofs.Calendar.{whole_seconds}
use Rattle.civil_dates.proofs.dates.shown_at.Goals as goal

pub returns-clause-civil : goal.returns-clause-civil
returns-clause-civil c =
    let value = rw c.unwrap.ensures at c.from_second.ensures.value in
    let same : to_z w64 c.args.seconds ≡ pos c.args.seconds = to_z_pos w64 (omega arith) in
    (whole_seconds c.to_datetime.result c.args.seconds (omega (arith, signed_arith, c.to_datetime.ensures, value, same))).0

pub returns-clause-whole : goal.returns-clause-whole
returns-clause-whole c =
    let value = rw c.unwrap.ensures at c.from_second.ensures.value in
    let same : to_z w64 c.args.seconds ≡ pos c.args.seconds = to_z_pos w64 (omega arith) in
    (whole_seconds c.to_datetime.result c.args.seconds (omega (arith, signed_arith, c.to_datetime.ensures, value, same))).1
