use Rattle.std.proofs.Common.{◌∙◌, ◌+◌, Some, ap, arith, sym, take, zero-le}
use Rattle.std.proofs.lemmas.List.{take_rest}
use Rattle.mailbox_reader.proofs.Colons.{header_at, header_first, header_none}
use Rattle.mailbox_reader.proofs.headers.header_in.Goals as goal

pub returns-then-at-eq0 : goal.returns-then-at-eq0
returns-then-at-eq0 c =
    sym (header_first c.args.line.now c.in-Some.at c.in-Some.ensures.1 (λ k low. c.in-Some.ensures.0.before k zero-le low)
    (omega (arith, c.if-at-eq0.true)))

pub returns-else-at-eq0 : goal.returns-else-at-eq0
returns-else-at-eq0 c =
    let line = c.args.line.now in
    let at = c.in-Some.at in
    let occurs = c.in-Some.ensures.1 in
    sym (header_at line at occurs (λ k low. c.in-Some.ensures.0.before k zero-le low) (omega (arith, c.if-at-eq0.false))
    (let fits = occurs.fits in omega arith)
    ∙ ap (λ rest. Some (take at line, rest)) (sym (take_rest line (at + 2))))

pub returns-in-None : goal.returns-in-None
returns-in-None c = sym (header_none c.args.line.now (λ k low. c.in-None.ensures k zero-le low))
