-- Settling comes to its end only where the commits can be numbered.
use Rattle.std.proofs.Common.{◌≡◌, ℕ, ◌<◌, Bool, true, false, not, List, [], ◌∷◌, refl, sym, ap, subst, ◌∙◌, inl, inr, arith, true≢false, Ok}
use Rattle.std.specs.Prelude.{◌&&◌, nat_lt}
use Rattle.std.specs.List.{AllByRecursion, list_all}
use Rattle.std.proofs.lemmas.Bool.{cases_Bool}
use Rattle.std.proofs.lemmas.Bool.Decides.{nat_tests}
use Rattle.std.proofs.lemmas.List.{reverse-reverse}
use Rattle.plain_model.specs.declared.event.PlainEvent.{PlainEvent}
use Rattle.plain_model.specs.declared.event.PlainEvent.TheVariants.{Blob, Commit, Tag, Reset, Pass}
use Rattle.plain_model.specs.Histories.{nodes, past}
use Rattle.edit_laws.specs.Settling.{settle}
use Rattle.edit_laws.specs.Parts.{AreOnce, CanBeNumbered, IsAbove, one_if, tally}
use Rattle.edit_laws.proofs.Lists.{OfNodes, all_true, events_of_nodes, nodes_of_events}
use Rattle.edit_laws.proofs.Numbered.{above, height}
use Rattle.edit_laws.proofs.Settled.{settled}
use Rattle.edit_laws.proofs.Settles.{any_event, settled_in_order, settled_once, settled_sums}
use Rattle.edit_laws.proofs.Trees.{linked_in_order}
use Rattle.history_laws.proofs.Lists.{all_reverse}

module _ (number : ℕ → ℕ) where
  -- a commit isn't above one of its parents
  abbrev low : PlainEvent → Bool
  low (Commit id mark branch author committer encoding comment parents ops aliases) =
      not (list_all (λ p. nat_lt (number p) (number id)) parents)
  low (Blob id mark bytes) = false
  low (Tag id name target tagger comment mark) = false
  low (Reset id branch target) = false
  low (Pass id line) = false

  below : (n : ℕ) (ps : List ℕ) → AllByRecursion (λ p. number p < n) ps → list_all (λ p. nat_lt (number p) n) ps ≡ true
  below n [] a = refl
  below n (p ∷ ps) a = let one : nat_lt (number p) n ≡ true = (let is = a.0 in grind (arith, nat_tests)) in ap (λ b. b && list_all (λ p. nat_lt (number p) n) ps) one ∙ below n ps a.1

  above_all : (n : ℕ) (ps : List ℕ) → AllByRecursion (λ p. nat_lt (number p) n ≡ true) ps →
      AllByRecursion (λ p. number p < n) ps
  above_all n [] a = tt
  above_all n (p ∷ ps) a = (let is = a.0 in grind (arith, nat_tests), above_all n ps a.1)

  none_low : (e : PlainEvent) → OfNodes (IsAbove number) e → low e ≡ false
  none_low (Commit id mark branch author committer encoding comment parents ops aliases) a =
      ap not (below (number id) parents a.0)
  none_low (Blob id mark bytes) a = refl
  none_low (Tag id name target tagger comment mark) a = refl
  none_low (Reset id branch target) a = refl
  none_low (Pass id line) a = refl

  not_low : (e : PlainEvent) → low e ≡ false → OfNodes (IsAbove number) e
  not_low (Commit id mark branch author committer encoding comment parents ops aliases) h =
      (above_all (number id) parents (all_true (λ p. nat_lt (number p) (number id)) parents (denied (list_all (λ p. nat_lt (number p) (number id)) parents) h)), tt)
    where
      denied : (b : Bool) → not b ≡ false → b ≡ true
      denied true h = refl
      denied false h = absurd (true≢false h)
  not_low (Blob id mark bytes) h = tt
  not_low (Tag id name target tagger comment mark) h = tt
  not_low (Reset id branch target) h = tt
  not_low (Pass id line) h = tt

  none : (es : List PlainEvent) → AllByRecursion (OfNodes (IsAbove number)) es → tally (λ e. one_if (low e)) es ≡ 0
  none [] a = refl
  none (e ∷ es) a = let rest = none es a.1 in let own : one_if (low e) ≡ 0 = ap one_if (none_low e a.0) in omega arith

  all : (es : List PlainEvent) → tally (λ e. one_if (low e)) es ≡ 0 → AllByRecursion (OfNodes (IsAbove number)) es
  all [] h = tt
  all (e ∷ es) h =
      elim (cases_Bool (low e)) [
        | inl it ↦ let own : one_if (low e) ≡ 1 = ap one_if it in absurd (omega arith)
        | inr other ↦ (not_low e other, all es (omega arith))
      ]

pub settled_numbered : (events new : List PlainEvent) → AreOnce events → settle events ≡ Ok new → CanBeNumbered events
settled_numbered events new o is =
    let once = settled_once events new o (settled (λ e. Unit {0}) events new (any_event events) is) in
    let linked = linked_in_order new once (settled_in_order events new is) in
    let number = height (past new) in
    let up = subst (AllByRecursion (IsAbove number)) (reverse-reverse (nodes new)) (all_reverse (IsAbove number) (past new) (above (past new) linked)) in
    let zero = none number new (nodes_of_events (IsAbove number) new up) in
    let same = settled_sums events new is (λ e. one_if (low number e)) in
    (number, events_of_nodes (IsAbove number) events (all number events (sym same ∙ zero)))
