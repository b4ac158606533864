use Rattle.std.proofs.Common.{◌≡◌, List, true, false, ltb, rules, subst, sym}
use Rattle.std.proofs.lemmas.List.Sorted.{IsPartitionPoint-from_clause, IsPartitionedBy-ltb}
use Rattle.std.specs.List.Sorted.{IsNonDecreasingBy, IsPartitionPoint}
use Rattle.squash_delete.specs.Chains.{Noted, noted_at, no_link}
use Rattle.squash_delete.specs.declared.chains.Entry.{Entry}
use Rattle.squash_delete.specs.declared.chains.Link.{Link}
use Rattle.squash_delete.proofs.EntryLemmas.{noted_found, noted_other, noted_past_all}
use Rattle.squash_delete.proofs.chains.LinkTable.at.Goals as goal
use Rattle.squash_delete.proofs.chains.LinkTable.at.Goals.{in_default-via-in-Some+else-entry-place, in_default-via-in_default}

pub returns-in-Some : goal.returns-in-Some
returns-in-Some c =
    let xs = c.self.inside.entries.items in
    let place = c.args.place in
    let parted = IsPartitionedBy-ltb (λ (x : Entry). x.place) c.deref.result.now place (subst (IsNonDecreasingBy (λ (x : Entry). x.place)) (sym c.deref.ensures.value) c.self.invariant.rising) in
    let point = IsPartitionPoint-from_clause (λ (x : Entry). ltb x.place place) _ _ c.partition_point-index.ensures.partitioned parted (λ a r q k. search rules) in
    let here : IsPartitionPoint (λ (x : Entry). ltb x.place place ≡ true) (λ (x : Entry). ltb x.place place ≡ false) xs c.partition_point-index.result =
    subst (λ (ys : List Entry). IsPartitionPoint (λ (x : Entry). ltb x.place place ≡ true) (λ (x : Entry). ltb x.place place ≡ false) ys c.partition_point-index.result) c.deref.ensures.value point in
    let found = rw c.deref-2.ensures.value at c.in-Some.ensures.lookup in
    subst (λ (n : Noted). c.in-Some.entry.now.link ≡ noted_at n.entries place) c.self.view_is
    (noted_found xs c.partition_point-index.result place here c.in-Some.entry.now found.0 found.1 c.if-entry-place.true)

pub returns-in_default : goal.returns-in_default
returns-in_default c =
    let xs = c.self.inside.entries.items in
    let place = c.args.place in
    let rising = c.self.invariant.rising in
    let parted = IsPartitionedBy-ltb (λ (x : Entry). x.place) c.deref.result.now place (subst (IsNonDecreasingBy (λ (x : Entry). x.place)) (sym c.deref.ensures.value) rising) in
    let point = IsPartitionPoint-from_clause (λ (x : Entry). ltb x.place place) _ _ c.partition_point-index.ensures.partitioned parted (λ a r q k. search rules) in
    let here : IsPartitionPoint (λ (x : Entry). ltb x.place place ≡ true) (λ (x : Entry). ltb x.place place ≡ false) xs c.partition_point-index.result =
    subst (λ (ys : List Entry). IsPartitionPoint (λ (x : Entry). ltb x.place place ≡ true) (λ (x : Entry). ltb x.place place ≡ false) ys c.partition_point-index.result) c.deref.ensures.value point in
    let none : no_link ≡ noted_at xs place = elim c.in_default.branch [
      | in_default-via-in-Some+else-entry-place w ↦
          let found = rw c.deref-2.ensures.value at w.in-Some.ensures.lookup in
          noted_other xs c.partition_point-index.result place here rising w.in-Some.entry.now found.0 found.1 w.if-entry-place.false
      | in_default-via-in_default w ↦
          let past = rw c.deref-2.ensures.value at w.in_default.ensures.lookup in
          noted_past_all xs c.partition_point-index.result place here past.0
    ] in
    subst (λ (n : Noted). c.no_link.result ≡ noted_at n.entries place) c.self.view_is (subst (λ (link : Link). link ≡ noted_at xs place) (sym c.no_link.ensures) none)
