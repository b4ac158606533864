use Rattle.std.proofs.Common.{◌≡◌, ◌∙◌, ◌<◌, Some, true, length, sym, ap, arith}
use Rattle.std.specs.Prelude.{is_some, slice_index_or}
use Rattle.std.proofs.lemmas.List.{get_or_read}
use Rattle.graph_walk.proofs.PlaceLemmas.{has_id_place, place_within}
use Rattle.graft_laws.specs.Joining.{new_number, without_passes}
use Rattle.plain_model.specs.Lookups.{place_of}
use Rattle.plain_model.specs.Soundness.{has_id}
use Rattle.graft_unite.specs.Numbering.{Numbering}
use Rattle.graft_unite.proofs.NumberLemmas.{length_numbers, number_at, number_of}
use Rattle.graft_unite.proofs.numbers.Numbers.at.Goals as goal

pub unwrap-place-requires : goal.unwrap-place-requires
unwrap-place-requires c =
    let list = c.self.inside.part.now.list in
    let there : has_id list c.args.id ≡ true = ap (λ (n : Numbering). has_id n.part c.args.id) c.self.view_is ∙ c.requires.there in
    ap is_some c.place.ensures.place ∙ sym (has_id_place list c.args.id) ∙ there

pub index-requires : goal.index-requires
index-requires c =
    let list = c.self.inside.part.now.list in
    let within = place_within list c.args.id c.unwrap-place.result (sym c.place.ensures.place ∙ c.unwrap-place.ensures) in
    let long = ap length c.self.invariant in
    let same = length_numbers c.self.inside.first list in
    omega arith

pub returns : goal.returns
returns c =
    let list = c.self.inside.part.now.list in
    let first = c.self.inside.first in
    let k = c.unwrap-place.result in
    let is : place_of c.args.id list ≡ Some k = sym c.place.ensures.place ∙ c.unwrap-place.ensures in
    let within = place_within list c.args.id k is in
    let long = ap length c.self.invariant in
    let same = length_numbers first list in
    let low : k < length c.self.inside.by_place.items = omega arith in
    get_or_read c.self.inside.by_place.items k c.index.result.now low c.index.ensures 0
    ∙ ap (λ l. slice_index_or l k 0) c.self.invariant
    ∙ number_at first list k within ∙ number_of first list c.args.id k c.requires.kind is
    ∙ ap (λ (n : Numbering). new_number n.first (without_passes n.part) c.args.id) c.self.view_is
