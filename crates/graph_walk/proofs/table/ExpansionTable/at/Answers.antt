use Rattle.std.proofs.Common.{◌≡◌, ◌∙◌, List, true, false, get_or, length, ltb, rules, ap, sym, subst, arith}
use Rattle.std.proofs.lemmas.List.Sorted.{IsPartitionPoint-from_clause, IsPartitionedBy-ltb}
use Rattle.std.specs.List.Sorted.{IsNonDecreasingBy, IsPartitionPoint}
use Rattle.graph_walk.specs.declared.expansion.Expansion.{Expansion}
use Rattle.graph_walk.specs.declared.expansion.Expansion.TheVariants.{At}
use Rattle.graph_walk.specs.declared.table.Entry.{Entry}
use Rattle.graph_walk.proofs.TableLemmas.{all_earlier, get_to, length_to, noted_elsewhere, noted_here}
use Rattle.graph_walk.proofs.table.ExpansionTable.at.Goals as goal

pub returns-in-Some : goal.returns-in-Some
returns-in-Some c =
    let xs = c.self.inside.entries.items in
    let place = c.args.place in
    let parted = IsPartitionedBy-ltb (λ (x : Entry). x.place) c.deref.result.now place (subst (IsNonDecreasingBy (λ (x : Entry). x.place)) (sym c.deref.ensures.value) c.self.invariant.rising) in
    let point = IsPartitionPoint-from_clause (λ (x : Entry). ltb x.place place) _ _ c.partition_point-index.ensures.partitioned parted (λ a r q k. search rules) in
    let here : IsPartitionPoint (λ (x : Entry). ltb x.place place ≡ true) (λ (x : Entry). ltb x.place place ≡ false) xs c.partition_point-index.result =
    subst (λ (ys : List Entry). IsPartitionPoint (λ (x : Entry). ltb x.place place ≡ true) (λ (x : Entry). ltb x.place place ≡ false) ys c.partition_point-index.result) c.deref.ensures.value point in
    let found = rw c.deref-2.ensures.value at c.in-Some.ensures.lookup in
    let all = ap length (sym c.self.view_is) ∙ length_to c.self.inside.count xs in
    let low = c.requires in
    noted_here xs c.partition_point-index.result place here c.in-Some.entry.now found.0 found.1 c.if-entry-place.true
    ∙ sym (get_to c.self.inside.count xs place c.in-Some.entry.now.expansion (omega arith))
    ∙ ap (λ (es : List Expansion). get_or es place c.in-Some.entry.now.expansion) c.self.view_is

pub returns-in_default : goal.returns-in_default
returns-in_default c =
    let xs = c.self.inside.entries.items in
    let place = c.args.place in
    let rising = c.self.invariant.rising in
    let parted = IsPartitionedBy-ltb (λ (x : Entry). x.place) c.deref.result.now place (subst (IsNonDecreasingBy (λ (x : Entry). x.place)) (sym c.deref.ensures.value) rising) in
    let point = IsPartitionPoint-from_clause (λ (x : Entry). ltb x.place place) _ _ c.partition_point-index.ensures.partitioned parted (λ a r q k. search rules) in
    let here : IsPartitionPoint (λ (x : Entry). ltb x.place place ≡ true) (λ (x : Entry). ltb x.place place ≡ false) xs c.partition_point-index.result =
    subst (λ (ys : List Entry). IsPartitionPoint (λ (x : Entry). ltb x.place place ≡ true) (λ (x : Entry). ltb x.place place ≡ false) ys c.partition_point-index.result) c.deref.ensures.value point in
    let found = rw c.deref-2.ensures.value at c.in-Some.ensures.lookup in
    let all = ap length (sym c.self.view_is) ∙ length_to c.self.inside.count xs in
    let low = c.requires in
    noted_elsewhere xs c.partition_point-index.result place here rising c.in-Some.entry.now found.0 found.1 c.if-entry-place.false
    ∙ sym (get_to c.self.inside.count xs place (At place) (omega arith))
    ∙ ap (λ (es : List Expansion). get_or es place (At place)) c.self.view_is

pub returns-in_default-2 : goal.returns-in_default-2
returns-in_default-2 c =
    let xs = c.self.inside.entries.items in
    let place = c.args.place in
    let parted = IsPartitionedBy-ltb (λ (x : Entry). x.place) c.deref.result.now place (subst (IsNonDecreasingBy (λ (x : Entry). x.place)) (sym c.deref.ensures.value) c.self.invariant.rising) in
    let point = IsPartitionPoint-from_clause (λ (x : Entry). ltb x.place place) _ _ c.partition_point-index.ensures.partitioned parted (λ a r q k. search rules) in
    let here : IsPartitionPoint (λ (x : Entry). ltb x.place place ≡ true) (λ (x : Entry). ltb x.place place ≡ false) xs c.partition_point-index.result =
    subst (λ (ys : List Entry). IsPartitionPoint (λ (x : Entry). ltb x.place place ≡ true) (λ (x : Entry). ltb x.place place ≡ false) ys c.partition_point-index.result) c.deref.ensures.value point in
    let past = rw (c.in_default.is, c.deref-2.ensures.value) at c.get.ensures.lookup in
    let all = ap length (sym c.self.view_is) ∙ length_to c.self.inside.count xs in
    let low = c.requires in
    all_earlier xs c.partition_point-index.result place here past.0
    ∙ sym (get_to c.self.inside.count xs place (At place) (omega arith))
    ∙ ap (λ (es : List Expansion). get_or es place (At place)) c.self.view_is
