-- One above the greatest mark of a history is a mark that isn't there.
use Rattle.std.proofs.Common.{◌≡◌, ℕ, ◌+◌, ◌≤◌, Bool, true, false, cond, List, [], ◌∷◌, refl, sym, inl, inr, arith, eqb-true, true≢false, ◌≢◌, ◌∙◌, Some, None}
use Rattle.std.proofs.Math.Bool.{or-false}
use Rattle.std.specs.Prelude.{◌==◌, ◌||◌, max}
use Rattle.std.specs.List.{AllByRecursion, fold}
use Rattle.std.proofs.Math.Nat.{le-max_left, le-max_right}
use Rattle.std.proofs.lemmas.Bool.{cases_Bool, or_cases}
use Rattle.std.proofs.lemmas.Bool.Decides.{nat_tests}
use Rattle.plain_model.specs.declared.limit.TheConstants.{MAX_MARK}
use Rattle.plain_model.specs.declared.event.PlainEvent.{PlainEvent}
use Rattle.plain_model.specs.declared.event.PlainEvent.TheVariants.{Blob, Commit, Tag, Reset, Pass}
use Rattle.plain_model.specs.Lookups.{greatest_mark, greatest_of, next_mark, top_mark}
use Rattle.plain_model.specs.Marks.{IsMark}
use Rattle.plain_model.specs.Soundness.{IsFormedEvent}
use Rattle.plain_model.specs.Streams.{is_among, is_marked}
use Rattle.history_laws.proofs.GreatestMarks.{above_is_new}
use Rattle.history_laws.proofs.Lists.{all_imply}

abbrev up : ℕ → PlainEvent → ℕ
up n e = max n (top_mark e)

-- the greatest is no more than what each is no more than
all_below : (n b : ℕ) (es : List PlainEvent) → n ≤ b → AllByRecursion (λ e. top_mark e ≤ b) es → fold up n es ≤ b
all_below n b [] low a = low
all_below n b (e ∷ es) low a = let its = a.0 in all_below (max n (top_mark e)) b es (most n (top_mark e) low its) a.1
  where
    most : (x y : ℕ) → x ≤ b → y ≤ b → max x y ≤ b
    most x y p q = grind (arith, nat_tests)

marks_below : (b n : ℕ) (marks : List ℕ) → n ≤ b → AllByRecursion (λ k. k ≤ b) marks → greatest_of n marks ≤ b
marks_below b n [] low a = low
marks_below b n (k ∷ marks) low a = let its = a.0 in marks_below b (max n k) marks (most n k low its) a.1
  where
    most : (x y : ℕ) → x ≤ b → y ≤ b → max x y ≤ b
    most x y p q = grind (arith, nat_tests)

formed_below : (es : List PlainEvent) → AllByRecursion IsFormedEvent es → AllByRecursion (λ e. top_mark e ≤ MAX_MARK) es
formed_below [] a = tt
formed_below (Blob id mark bytes ∷ es) a = (a.0.1, formed_below es a.1)
formed_below (Commit id mark branch author committer encoding comment parents ops aliases ∷ es) a =
    (marks_below MAX_MARK mark aliases a.0.0.1 (all_imply IsMark (λ k. k ≤ MAX_MARK) (λ k x. x.1) aliases a.0.2), formed_below es a.1)
formed_below (Tag id name target tagger comment None ∷ es) a = (omega arith, formed_below es a.1)
formed_below (Tag id name target tagger comment (Some mark) ∷ es) a = (a.0.1, formed_below es a.1)
formed_below (Reset id branch target ∷ es) a = (omega arith, formed_below es a.1)
formed_below (Pass id line ∷ es) a = (omega arith, formed_below es a.1)

next_is : (events : List PlainEvent) (mark : ℕ) → next_mark events ≡ Some mark → ((greatest_mark events == MAX_MARK) ≡ false) × (greatest_mark events + 1 ≡ mark)
next_is events mark h = go (greatest_mark events == MAX_MARK) refl h
  where
    go : (b : Bool) → (greatest_mark events == MAX_MARK) ≡ b → cond b None (Some (greatest_mark events + 1)) ≡ Some mark → ((greatest_mark events == MAX_MARK) ≡ false) × (greatest_mark events + 1 ≡ mark)
    go true e x = absurd cc
    go false e x = let is : greatest_mark events + 1 ≡ mark = cc in (e, is)

pub next_unmarked : (events : List PlainEvent) (mark : ℕ) → next_mark events ≡ Some mark → is_marked events mark ≡ false
next_unmarked events mark h =
    let is = (next_is events mark h).1 in
    above_is_new events mark (omega arith)

pub next_a_mark : (events : List PlainEvent) (mark : ℕ) → AllByRecursion IsFormedEvent events → next_mark events ≡ Some mark → IsMark mark
next_a_mark events mark a h =
    let is = next_is events mark h in
    let same = is.1 in
    let most = all_below 0 MAX_MARK events (omega arith) (formed_below events a) in
    let other = differ (greatest_mark events) is.0 in
    (omega arith, omega arith)
  where
    differ : (n : ℕ) → (n == MAX_MARK) ≡ false → n ≢ MAX_MARK
    differ n h = grind (arith, nat_tests)
