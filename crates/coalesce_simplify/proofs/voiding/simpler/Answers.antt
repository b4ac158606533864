use Rattle.std.proofs.Common.{◌≡◌, ◌∙◌, false, Bool, ap, sym}
use Rattle.std.specs.List.{list_any}
use Rattle.coalesce_simplify.proofs.Noting.{all_stay}
use Rattle.coalesce_simplify.proofs.voiding.simpler.Goals as goal

pub returns-then-not-has_flag : goal.returns-then-not-has_flag
returns-then-not-has_flag c =
    let flags = c.in_ok-flags.flags.items in
    let none : list_any (λ (flag : Bool). flag) flags ≡ false =
    ap (list_any (λ (flag : Bool). flag)) (sym c.deref.ensures.value) ∙ sym c.has_flag.ensures ∙ c.if-not-has_flag.true in
    all_stay c.args.ops.now flags c.in_ok-flags.ensures none
