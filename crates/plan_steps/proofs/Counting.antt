-- Sums over the events of a list, counted so far.
use Rattle.std.proofs.Common.{◌≡◌, ◌∙◌, ℕ, zero, suc, ◌+◌, ◌-◌, ◌≤◌, ◌<◌, Bool, true, false, List, [], ◌∷◌, ◌++◌, take, drop, take-append-drop, Some, sym, ap, length, arith, length-append, true≢false}
use Rattle.std.specs.List.{list_any}
use Rattle.std.specs.Prelude.{◌||◌, nat_lt, slice_get}
use Rattle.std.proofs.Math.Bool.{or-true}
use Rattle.std.proofs.lemmas.List.Folds.{list_any-append}
use Rattle.std.proofs.lemmas.Option.{none-some, same_Some}
use Rattle.std.proofs.lemmas.List.Sums.{sum_by-cons}
use Rattle.std.proofs.lemmas.Bool.Decides.{nat_tests}
use Rattle.std.proofs.lemmas.Bool.{lt-ltb}
use Rattle.plain_model.specs.declared.event.PlainEvent.{PlainEvent}
use Rattle.plain_model.specs.declared.event.PlainEvent.TheVariants.{Blob, Commit, Tag, Reset, Pass}
use Rattle.plain_model.specs.Histories.{nodes}
use Rattle.plain_model.specs.Lookups.{alias_count}
use Rattle.history_laws.specs.FirstParents.{ops_along}
use Rattle.edit_laws.specs.Parts.{tally}
use Rattle.edit_laws.proofs.Limits.{not_many}
use Rattle.edit_laws.proofs.Lists.{tally_append}
use Rattle.event_arena.specs.Weights.{event_weight, weight_of}
use Rattle.event_arena.proofs.ListLemmas.{take_item}
use Rattle.edit_laws.proofs.Tallies.{aliases_counted, ops_counted}
use Rattle.plan_steps.specs.Counts.{IsSum, count_of, total_of}
use Rattle.plan_steps.specs.declared.limits.Sum.{Sum}
use Rattle.plan_steps.specs.declared.limits.Counted.{Counted}
use Rattle.plan_steps.specs.declared.limits.Counted.TheVariants.{Operations, Aliases}

-- ---- sums

-- one event more, and no more than all
pub tally_item : (f : PlainEvent → ℕ) (es : List PlainEvent) (k : ℕ) (e : PlainEvent) → slice_get es k ≡ Some e →
    tally f (take (suc k) es) ≡ tally f (take k es) + f e
tally_item f es k e at =
    let more : tally f (take (suc k) es) ≡ tally f (take k es ++ e ∷ []) = ap (tally f) (take_item es k e at) in
    let both = tally_append f (take k es) (e ∷ []) in
    omega arith

pub tally_less : (f : PlainEvent → ℕ) (es : List PlainEvent) (k : ℕ) → tally f (take k es) ≤ tally f es
tally_less f es k =
    let parts : tally f (take k es ++ drop k es) ≡ tally f es = ap (tally f) (take-append-drop k es) in
    let both = tally_append f (take k es) (drop k es) in
    omega arith

-- events weigh no less than what they have
pub ops_weight : (es : List PlainEvent) → length (ops_along (nodes es)) ≤ weight_of es
ops_weight [] = omega arith
ops_weight (e ∷ es) = let own = one e in let rest = ops_weight es in let whole = sum_by-cons event_weight e es in omega arith
  where
    one : (e : PlainEvent) → length (ops_along (nodes (e ∷ es))) ≤ event_weight e + length (ops_along (nodes es))
    one (Commit id mark branch author committer encoding comment parents ops aliases) = let whole = length-append ops (ops_along (nodes es)) in omega arith
    one (Blob id mark bytes) = omega arith
    one (Tag id name target tagger comment mark) = omega arith
    one (Reset id branch target) = omega arith
    one (Pass id line) = omega arith

pub aliases_weight : (es : List PlainEvent) → alias_count es ≤ weight_of es
aliases_weight [] = omega arith
aliases_weight (e ∷ es) = let own = one e in let rest = aliases_weight es in let whole = sum_by-cons event_weight e es in omega arith
  where
    one : (e : PlainEvent) → alias_count (e ∷ es) ≤ event_weight e + alias_count es
    one (Commit id mark branch author committer encoding comment parents ops aliases) = omega arith
    one (Blob id mark bytes) = omega arith
    one (Tag id name target tagger comment mark) = omega arith
    one (Reset id branch target) = omega arith
    one (Pass id line) = omega arith

-- each of the two is a sum
pub totals : (what : Counted) (es : List PlainEvent) → tally (count_of what) es ≡ total_of what es
totals Operations es = ops_counted es
totals Aliases es = aliases_counted es

-- ---- what is noted of a sum

-- above a limit it stays above
pub sum_above : (most counted more : ℕ) (s : Sum) → IsSum most counted s → s.is_above ≡ true → IsSum most (counted + more) (record { left = 0; is_above = true })
sum_above most counted more s h it = record {
  above = sym (lt-ltb most (counted + more) (let low = passed most counted (sym h.above ∙ it) in omega arith));
  left = λ is. absurd (true≢false is);
}
  where
    passed : (a b : ℕ) → nat_lt a b ≡ true → a < b
    passed a b h = grind (arith, nat_tests)

-- it comes above
pub sum_passed : (most counted more : ℕ) (s : Sum) → IsSum most counted s → s.is_above ≡ false → s.left < more → IsSum most (counted + more) (record { left = 0; is_above = true })
sum_passed most counted more s h no_it over = record {
  above = sym (lt-ltb most (counted + more) (let whole = h.left no_it in omega arith));
  left = λ is. absurd (true≢false is);
}

-- or it stays below
pub sum_more : (most counted more : ℕ) (s : Sum) → IsSum most counted s → s.is_above ≡ false → more ≤ s.left → IsSum most (counted + more) (record { left = s.left - more; is_above = false })
sum_more most counted more s h no_it low = record {
  above = sym (not_many most (counted + more) (let whole = h.left no_it in omega arith));
  left = λ is. let whole = h.left no_it in omega arith;
}

-- ---- whether an event passes a test

pub any_item : (test : PlainEvent → Bool) (es : List PlainEvent) (k : ℕ) (e : PlainEvent) → slice_get es k ≡ Some e → test e ≡ true → list_any test es ≡ true
any_item test [] k e at it = absurd (none-some e at)
any_item test (x ∷ es) zero e at it = ap (λ b. b || list_any test es) (ap test (same_Some x e at) ∙ it)
any_item test (x ∷ es) (suc k) e at it = ap (λ b. test x || b) (any_item test es k e at it) ∙ or-true (test x)

pub none_item : (test : PlainEvent → Bool) (es : List PlainEvent) (k : ℕ) (e : PlainEvent) → slice_get es k ≡ Some e →
    list_any test (take k es) ≡ false → test e ≡ false → list_any test (take (suc k) es) ≡ false
none_item test es k e at none own =
    ap (list_any test) (take_item es k e at) ∙ list_any-append test (take k es) (e ∷ [])
    ∙ ap (λ b. b || (test e || false)) none ∙ ap (λ b. b || false) own
