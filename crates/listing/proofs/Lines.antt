-- The first line of a comment, as a search for its end finds it; walks along a list.
use Rattle.std.proofs.Common.{◌≡◌, ◌∙◌, ℕ, zero, suc, ◌+◌, ◌<◌, ◌≤◌, true, false, List, [], ◌∷◌, ◌++◌, Some, None, refl, sym, ap, length, get_or, take, drop, arith, zero-le, ◌-◌, add-one, append_assoc}
use Rattle.std.proofs.Math.ListN.{drop_of_length-le}
use Rattle.std.proofs.Math.Seq.{take-length}
use Rattle.std.proofs.lemmas.Bool.{false_from_ne_true}
use Rattle.std.proofs.lemmas.List.{append-nil}
use Rattle.std.specs.Prelude.{◌==◌, flat_map, replicate, slice_get}
use Rattle.memchr.specs.Find.{IsFirstByte, is_byte}
use Rattle.plain_model.specs.declared.event.PlainEvent.{PlainEvent}
use Rattle.plain_model.specs.Snapshots.{refs_after}
use Rattle.plain_model.specs.Trees.{TreeOf}
use Rattle.branch_tips.proofs.Noted.{noted}
use Rattle.event_arena.proofs.ListLemmas.{drop_item}
use Rattle.listing.specs.Listings.{first_line}

-- bytes up to a place, before which there is no LF, and at which there is one if the text goes on
up_to : (text : List ℕ) (k : ℕ) → k ≤ length text → ((j : ℕ) → j < k → (get_or text j 0 == 10) ≡ false)
    → (k < length text → (get_or text k 0 == 10) ≡ true) → take k text ≡ first_line text
up_to [] zero within before at = refl
up_to [] (suc k) within before at = absurd (omega arith)
up_to (b ∷ bs) zero within before at = rw (at (omega arith)) refl
up_to (b ∷ bs) (suc k) within before at =
    let rest = up_to bs k (omega arith) (λ j lt. before (suc j) (omega arith)) (λ lt. at (omega arith)) in
    rw (before 0 (omega arith)) (ap (λ line. b ∷ line) rest)

pub first_cut : (text : List ℕ) (k : ℕ) → IsFirstByte (is_byte 10) text (Some k) → take k text ≡ first_line text
first_cut text k h =
    let before = λ (j : ℕ) (lt : j < k). false_from_ne_true (get_or text j 0 == 10) (h.0.before j zero-le lt) in
    up_to text k (omega (arith, h.0.high)) before (λ lt. h.1)

pub first_whole : (text : List ℕ) → IsFirstByte (is_byte 10) text None → text ≡ first_line text
first_whole text h =
    let nowhere = λ (j : ℕ) (lt : j < length text). false_from_ne_true (get_or text j 0 == 10) (h j zero-le lt) in
    sym (take-length text) ∙ up_to text (length text) (omega arith) nowhere (λ lt. absurd (omega arith))

module _ {X : Type 0} where
  -- a list of which the first so many items are
  pub begun_by_one : (xs : List X) (k : ℕ) (x : X) (out new : List X)
      → slice_get xs k ≡ Some x → new ≡ out ++ x ∷ [] → out ++ drop k xs ≡ xs
      → new ++ drop (k + 1) xs ≡ xs
  begun_by_one xs k x out new at is before =
      let here = ap (λ rest. out ++ rest) (sym (drop_item xs k x at)) in
      rw (add-one, is) (append_assoc out (x ∷ []) (drop (suc k) xs) ∙ here ∙ before)

  pub begun_by_all : (xs : List X) (k : ℕ) (out : List X) → length xs ≤ k → out ++ drop k xs ≡ xs → out ≡ xs
  begun_by_all xs k out all before = sym (append-nil out) ∙ ap (λ rest. out ++ rest) (sym (drop_of_length-le xs all)) ∙ before

module _ {X Y : Type 0} (f : X → List Y) where
  -- what a function gives of the items to come
  pub to_come : (xs : List X) (k : ℕ) (x : X) (out new : List Y) → slice_get xs k ≡ Some x → new ≡ out ++ f x
      → new ++ flat_map f (drop (k + 1) xs) ≡ out ++ flat_map f (drop k xs)
  to_come xs k x out new at is =
      let here = ap (λ rest. out ++ flat_map f rest) (sym (drop_item xs k x at)) in
      rw (add-one, is) (append_assoc out (f x) (flat_map f (drop (suc k) xs)) ∙ here)

  pub none_to_come : (xs : List X) (k : ℕ) (out : List Y) → length xs ≤ k → out ++ flat_map f (drop k xs) ≡ out
  none_to_come xs k out all = ap (λ rest. out ++ flat_map f rest) (drop_of_length-le xs all) ∙ append-nil out

-- one space more in front of a number
pub padded : (count : ℕ) (into new : List ℕ) → count < 6 → new ≡ into ++ 32 ∷ []
    → new ++ replicate (6 - (count + 1)) 32 ≡ into ++ replicate (6 - count) 32
padded count into new few is =
    let more : 6 - count ≡ suc (6 - (count + 1)) = omega arith in
    rw (is, more) (append_assoc into (32 ∷ []) (replicate (6 - (count + 1)) 32))

-- the branches after one more event
pub noted_at : (events : List PlainEvent) (k : ℕ) (e : PlainEvent) (tips new : TreeOf ℕ)
    → slice_get events k ≡ Some e → new ≡ refs_after tips (e ∷ [])
    → refs_after new (drop (k + 1) events) ≡ refs_after tips (drop k events)
noted_at events k e tips new at is = rw (add-one, is, drop_item events k e at) (sym (noted tips e (drop (suc k) events)))

pub all_noted : (events : List PlainEvent) (k : ℕ) (tips : TreeOf ℕ) → length events ≤ k → refs_after tips (drop k events) ≡ tips
all_noted events k tips all = ap (refs_after tips) (drop_of_length-le events all)
