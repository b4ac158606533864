use Rattle.std.proofs.Common.{◌∙◌, ap, false, get_or, sym}
use Rattle.event_sets.proofs.BitLemmas.{bit_at, bit_nowhere}
use Rattle.event_sets.proofs.bits.is_set.Goals as goal

pub returns-in-Some : goal.returns-in-Some
returns-in-Some c = λ ids tied live.
    ap (λ bits. get_or bits c.in-Some.place false) tied
    ∙ bit_at c.args.events.now.list ids c.args.id c.in-Some.place (sym c.in-Some.ensures.place)

pub returns-in-None : goal.returns-in-None
returns-in-None c = λ ids tied live. bit_nowhere c.args.events.now.list ids c.args.id live (sym c.in-None.ensures.place)
