use Rattle.std.proofs.Common.{◌≡◌, ◌∙◌, ◌<◌, true, nat_lt, ap, sym, arith}
use Rattle.std.proofs.lemmas.Bool.Decides.{nat_tests}
use Rattle.std.specs.Prelude.{is_some}
use Rattle.path_expunge.proofs.Conflicts.{free_grown, free_there}
use Rattle.path_expunge.proofs.rewriting.is_free.Goals as goal

pub returns-then-is_some : goal.returns-then-is_some
returns-then-is_some c t entry h so m = free_there m c.args.path.now c.args.old.now t (ap is_some (sym c.get.ensures) ∙ sym c.is_some.ensures ∙ c.if-is_some.true)

pub returns : goal.returns
returns c t entry h so m =
    let longer : nat_lt c.len-2.result c.len.result ≡ true = so in
    let low : c.len-2.result < c.len.result = grind (arith, nat_tests) in
    let old = c.len-2.ensures in
    let new = c.len.ensures in
    free_grown m c.args.path.now c.args.old.now t entry c.args.new.now h (omega arith)
