use Rattle.std.proofs.Common.{◌∙◌, List, ℕ, Bor, sym}
use Rattle.std.specs.List.{list_any}
use Rattle.std.specs.Prelude.{bytes_eq}
use Rattle.byte_sets.proofs.Sets.{any_mapped}
use Rattle.byte_sets.proofs.set.ByteSet.has.Goals as goal

pub returns : goal.returns
returns c =
    c.contains.ensures
    ∙ sym (any_mapped (λ (key : Bor (List ℕ)). key.now) (bytes_eq c.args.text.now) c.self.inside.set.keys)
    ∙ (λ i. list_any (bytes_eq c.args.text.now) (c.self.view_is i))
