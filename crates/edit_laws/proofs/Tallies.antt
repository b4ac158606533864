-- Sums over the events of a list: how many there are, and how many aliases and operations they have.
use Rattle.std.proofs.Common.{◌≡◌, ℕ, ◌+◌, ◌≤◌, Bool, true, false, cond, List, [], ◌∷◌, ◌++◌, length, Option, Some, None, option_map, map, refl, inl, inr, arith}
use Rattle.std.specs.Prelude.{◌||◌, option_to_list}
use Rattle.std.proofs.lemmas.Bool.{cases_Bool}
use Rattle.std.proofs.lemmas.List.{length-append}
use Rattle.plain_model.specs.declared.event.PlainEvent.{PlainEvent}
use Rattle.plain_model.specs.declared.event.PlainEvent.TheVariants.{Blob, Commit, Tag, Reset, Pass}
use Rattle.plain_model.specs.Histories.{nodes}
use Rattle.plain_model.specs.Lookups.{alias_count}
use Rattle.history_laws.specs.FirstParents.{ops_along}
use Rattle.edit_laws.specs.Parts.{one_if, tally}
use Rattle.edit_laws.proofs.Lists.{none_passing, some_passing}

-- ---- what is counted

abbrev pub one : PlainEvent → ℕ
one e = 1

pub counted : (es : List PlainEvent) → tally one es ≡ length es
counted [] = refl
counted (e ∷ es) = let rest = counted es in omega arith

abbrev pub own_aliases : PlainEvent → ℕ
own_aliases e = alias_count (e ∷ [])

pub aliases_counted : (es : List PlainEvent) → tally own_aliases es ≡ alias_count es
aliases_counted [] = refl
aliases_counted (Commit id mark branch author committer encoding comment parents ops aliases ∷ es) = let rest = aliases_counted es in omega arith
aliases_counted (Blob id mark bytes ∷ es) = let rest = aliases_counted es in omega arith
aliases_counted (Tag id name target tagger comment mark ∷ es) = let rest = aliases_counted es in omega arith
aliases_counted (Reset id branch target ∷ es) = let rest = aliases_counted es in omega arith
aliases_counted (Pass id line ∷ es) = let rest = aliases_counted es in omega arith

abbrev pub own_ops : PlainEvent → ℕ
own_ops e = length (ops_along (nodes (e ∷ [])))

pub ops_counted : (es : List PlainEvent) → tally own_ops es ≡ length (ops_along (nodes es))
ops_counted [] = refl
ops_counted (Commit id mark branch author committer encoding comment parents ops aliases ∷ es) =
    let rest = ops_counted es in
    let own = length-append ops [] in
    let whole = length-append ops (ops_along (nodes es)) in
    omega arith
ops_counted (Blob id mark bytes ∷ es) = let rest = ops_counted es in omega arith
ops_counted (Tag id name target tagger comment mark ∷ es) = let rest = ops_counted es in omega arith
ops_counted (Reset id branch target ∷ es) = let rest = ops_counted es in omega arith
ops_counted (Pass id line ∷ es) = let rest = ops_counted es in omega arith

-- ---- what is left of an event

-- an event that stays counts as it did, and one that goes for nothing
pub no_greater : (f : PlainEvent → ℕ) (gone : Bool) (x e : PlainEvent) → f x ≡ f e → tally f (cond gone [] (x ∷ [])) ≤ f e
no_greater f true x e h = omega arith
no_greater f false x e h = omega arith

pub moved_no_greater : (f : PlainEvent → ℕ) (gone : Bool) (g : ℕ → PlainEvent) (o : Option ℕ) (e : PlainEvent) →
    ((t : ℕ) → f (g t) ≡ f e) → tally f (cond gone [] (option_to_list (option_map g o))) ≤ f e
moved_no_greater f true g o e h = omega arith
moved_no_greater f false g None e h = omega arith
moved_no_greater f false g (Some t) e h = let same = h t in omega arith

-- so does a list of which each event is changed
pub mapped_no_greater : (f : PlainEvent → ℕ) (g : PlainEvent → PlainEvent) → ((e : PlainEvent) → f (g e) ≤ f e) → (es : List PlainEvent) →
    tally f (map g es) ≤ tally f es
mapped_no_greater f g less [] = omega arith
mapped_no_greater f g less (e ∷ es) = let first = less e in let rest = mapped_no_greater f g less es in omega arith

-- ---- sums of sums

pub tally_sum : (f g : PlainEvent → ℕ) (es : List PlainEvent) → tally (λ e. f e + g e) es ≡ tally f es + tally g es
tally_sum f g [] = refl
tally_sum f g (e ∷ es) = let rest = tally_sum f g es in omega arith

-- ---- tests that some event passes

-- where no more events pass than before, what some event of the new list passes, one of the old list passes
pub none_new : (test : List PlainEvent → Bool) → ((xs ys : List PlainEvent) → test (xs ++ ys) ≡ test xs || test ys) → test [] ≡ false →
    (events new : List PlainEvent) → tally (λ x. one_if (test (x ∷ []))) new ≤ tally (λ x. one_if (test (x ∷ []))) events →
    test new ≡ true → test events ≡ true
none_new test joins none events new fewer there =
    elim (cases_Bool (test events)) [
      | inl was ↦ was
      | inr never ↦
          let some : 1 ≤ tally (λ x. one_if (test (x ∷ []))) new = some_passing test joins none new there in
          let zero : tally (λ x. one_if (test (x ∷ []))) events ≡ 0 = none_passing test joins none events never in
          absurd (omega arith)
    ]
