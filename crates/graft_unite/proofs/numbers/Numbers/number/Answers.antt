use Rattle.std.proofs.Common.{◌∙◌, ◌<◌, ◌+◌, length, take, sym, ap, subst, arith}
use Rattle.std.specs.Prelude.{slice_index_or}
use Rattle.std.proofs.lemmas.List.{get_or_read}
use Rattle.graft_laws.specs.Joining.{without_passes}
use Rattle.graft_unite.specs.Numbering.{Numbering}
use Rattle.graft_unite.proofs.NumberLemmas.{length_numbers, number_at}
use Rattle.graft_unite.proofs.numbers.Numbers.number.Goals as goal

pub index-requires : goal.index-requires
index-requires c =
    let within : c.args.place < length c.self.inside.part.now.list = subst (λ (n : Numbering). c.args.place < length n.part) (sym c.self.view_is) c.requires in
    let long = ap length c.self.invariant in
    let same = length_numbers c.self.inside.first c.self.inside.part.now.list in
    omega arith

pub returns : goal.returns
returns c =
    let list = c.self.inside.part.now.list in
    let first = c.self.inside.first in
    let k = c.args.place in
    let within : k < length list = subst (λ (n : Numbering). k < length n.part) (sym c.self.view_is) c.requires in
    let long = ap length c.self.invariant in
    let same = length_numbers first list in
    let low : k < length c.self.inside.by_place.items = omega arith in
    get_or_read c.self.inside.by_place.items k c.index.result.now low c.index.ensures 0
    ∙ ap (λ l. slice_index_or l k 0) c.self.invariant
    ∙ number_at first list k within
    ∙ ap (λ (n : Numbering). n.first + length (without_passes (take k n.part))) c.self.view_is
