use Rattle.std.proofs.Common.{◌≡◌, ◌∙◌, ◌∷◌, true, false, not, List, ℕ, ap, subst, sym}
use Rattle.std.proofs.lemmas.List.Sorted.{list_any-IsPermutation}
use Rattle.std.specs.HashSet.{PutsKey}
use Rattle.std.specs.List.{list_any}
use Rattle.std.specs.Prelude.{◌||◌, bytes_eq}
use Rattle.graft_unite.proofs.NameLemmas.{any_mapped, or_there}
use Rattle.graft_unite.proofs.used.Names.add.Goals as goal

pub returns-then-has : goal.returns-then-has
returns-then-has c other = or_there other c.args.name.now c.args.self.now (sym c.has.ensures ∙ c.if-has.true)

pub returns : goal.returns
returns c other =
    let name = c.args.name.now in
    let key = c.in_ok-from_slice.field-0 in
    let items_are : key.items ≡ name = c.in_ok-from_slice.ensures.items in
    let absent : list_any (λ k. bytes_eq name k.items) c.self.inside.set.keys ≡ false =
    sym (any_mapped (λ k. k.items) (bytes_eq name) c.self.inside.set.keys) ∙ ap (list_any (bytes_eq name)) c.self.view_is ∙ sym c.has.ensures ∙ c.if-has.false in
    let added : c.in_ok-insert.field-0 ≡ true =
    c.in_ok-insert.ensures.added ∙ ap (λ (n : List ℕ). not (list_any (λ k. bytes_eq n k.items) c.self.inside.set.keys)) items_are ∙ ap not absent in
    let put = subst (PutsKey c.self.inside.set c.insert.new.self key) added c.in_ok-insert.ensures.keys in
    any_mapped (λ k. k.items) (bytes_eq other) c.insert.new.self.keys
    ∙ sym (list_any-IsPermutation (λ k. bytes_eq other k.items) (key ∷ c.self.inside.set.keys) c.insert.new.self.keys put)
    ∙ (λ i. bytes_eq other (items_are i) || (sym (any_mapped (λ k. k.items) (bytes_eq other) c.self.inside.set.keys) ∙ ap (list_any (bytes_eq other)) c.self.view_is) i)
