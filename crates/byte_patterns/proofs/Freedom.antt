-- Answers call by call, and at most one denial, come to the same.
use Rattle.std.proofs.Common.{◌≡◌, ℕ, zero, suc, Bool, true, false, inl, inr, List, [], ◌∷◌, Option, Some, None, Result, Err, refl, sym, subst, ◌∙◌}
use Rattle.std.specs.Prelude.{slice_get}
use Rattle.plain_model.specs.Paths.{Bytes}
use Rattle.plain_model.specs.declared.fault.Fault.{Fault}
use Rattle.plain_model.specs.declared.fault.Fault.TheVariants as fault
use Rattle.byte_patterns.specs.Answers.{Answer, Asking, Comes, asks, gives, has_big, judged, no_pattern, searched, too_big}
use Rattle.byte_patterns.specs.Building.{HasNoPattern}
use Rattle.byte_patterns.specs.Judging.{Denial, Judged, Reason, as_read, under, is_sized, its_nesting, its_size, next_of, without}
use Rattle.byte_patterns.specs.Searching.{is_pattern, is_too_deep}

abbrev pub denial_at : ℕ → Reason → Option Denial
denial_at place reason = Some (record { place = place; reason = reason })

-- the same of a pattern after one more
abbrev later : Option Denial → Option Denial
later None = None
later (Some d) = denial_at (suc d.place) d.reason

sized_later : (d : Option Denial) → is_sized (later d) ≡ is_sized d
sized_later None = refl
sized_later (Some d) = refl

module _ {A : Type 0} where
  -- a text that is built, and what comes then, by whether it is a pattern
  abbrev asked : Bytes → Asking A → Bool → Judged A
  asked text next b = next_of (text ∷ []) (as_read text b) (λ read. judged next)

  under_later : (d : Option Denial) (text : Bytes) (next : Asking A) → under (later d) (asked text next true) ≡ under d (judged next)
  under_later None text next = refl
  under_later (Some d) text next = refl

  under_first : (text : Bytes) (next : Asking A) (b : Bool) → under (denial_at zero its_size) (asked text next b) ≡ Err (fault.PatternTooBig text)
  under_first text next true = refl
  under_first text next false = refl

  under_deep : (text : Bytes) (next : Asking A) (b : Bool) → is_too_deep text ≡ true → under (denial_at zero its_nesting) (asked text next b) ≡ Err (fault.BadPattern text)
  under_deep text next true deep = rw deep refl
  under_deep text next false deep = rw deep refl

  -- what comes of answers is prescribed under a denial, which is for a size only where one of them is
  pub denial_of : (t : Asking A) (answers : List Answer) (out : Result A Fault) → Comes t answers out
      → (d : Option Denial) × (is_sized d ≡ has_big answers) × (under d (judged t) ≡ out)
  denial_of (gives value) [] out h = (None, refl, sym h)
  denial_of (gives value) (a ∷ answers) out h = absurd h
  denial_of (asks text next) [] out h = absurd h
  denial_of (asks text next) (searched ∷ answers) out h =
      let rec = denial_of next answers out h.1 in
      (later rec.0, sized_later rec.0 ∙ rec.1, subst (λ (b : Bool). under (later rec.0) (asked text next b) ≡ out) (sym h.0) (under_later rec.0 text next ∙ rec.2))
  denial_of (asks text next) (no_pattern ∷ answers) out h = go h.0
    where
      none_big : has_big answers ≡ false
      none_big = subst (λ (l : List Answer). has_big l ≡ false) (sym h.1) refl

      go : HasNoPattern text → (d : Option Denial) × (is_sized d ≡ has_big answers) × (under d (judged (asks text next)) ≡ out)
      go (inl none) = (None, sym none_big, subst (λ (b : Bool). under None (asked text next b) ≡ out) (sym none) (sym h.2))
      go (inr deep) = (denial_at zero its_nesting, sym none_big, under_deep text next (is_pattern text) deep ∙ sym h.2)
  denial_of (asks text next) (too_big ∷ answers) out h = (denial_at zero its_size, refl, under_first text next (is_pattern text) ∙ sym h.1)

  none_at : (place : ℕ) (reason : Reason) (value : Result A Fault) → value ≡ without reason (slice_get [] place) value
  none_at zero reason value = refl
  none_at (suc place) reason value = refl

  under_shallow : (text : Bytes) (next : Asking A) (b : Bool) → is_too_deep text ≡ false → under (denial_at zero its_nesting) (asked text next b) ≡ under None (asked text next b)
  under_shallow text next true e = rw e refl
  under_shallow text next false e = rw e refl

  -- some answers come to this, and one is for a size only where the denial is
  abbrev pub Back : Asking A → Result A Fault → Option Denial → Type 0
  Back t out d = (answers : List Answer) × Comes t answers out × (has_big answers ≡ true → is_sized d ≡ true)

  module _ (text : Bytes) (next : Asking A) (rec : (e : Option Denial) → Back next (under e (judged next)) e) where
    back_none : (b : Bool) → is_pattern text ≡ b → Back (asks text next) (under None (asked text next b)) None
    back_none true is = let r = rec None in (searched ∷ r.0, (is, r.1), r.2)
    back_none false is = (no_pattern ∷ [], (inl is, refl, refl), λ big. absurd cc)

    back_deep : (b deep : Bool) → is_pattern text ≡ b → is_too_deep text ≡ deep → Back (asks text next) (under (denial_at zero its_nesting) (asked text next b)) (denial_at zero its_nesting)
    back_deep b true is e = (no_pattern ∷ [], (inr e, refl, under_deep text next b e), λ big. absurd cc)
    back_deep b false is e =
        let n = back_none b is in
        (n.0, subst (λ (out : Result A Fault). Comes (asks text next) n.0 out) (sym (under_shallow text next b e)) n.1, n.2)

    back_at : (b : Bool) → is_pattern text ≡ b → (place : ℕ) (reason : Reason) → Back (asks text next) (under (denial_at place reason) (asked text next b)) (denial_at place reason)
    back_at b is zero its_size = (too_big ∷ [], (refl, under_first text next b), λ big. refl)
    back_at b is zero its_nesting = back_deep b (is_too_deep text) is refl
    back_at true is (suc k) reason = let r = rec (denial_at k reason) in (searched ∷ r.0, (is, r.1), r.2)
    back_at false is (suc k) reason = (no_pattern ∷ [], (inl is, refl, sym (none_at k reason (Err (fault.BadPattern text)))), λ big. absurd cc)

    back_first : (d : Option Denial) → Back (asks text next) (under d (judged (asks text next))) d
    back_first None = back_none (is_pattern text) refl
    back_first (Some d) = back_at (is_pattern text) refl d.place d.reason

  -- what is prescribed under a denial comes of some answers, of which one is for a size only where that is
  pub answers_of : (t : Asking A) (d : Option Denial) → Back t (under d (judged t)) d
  answers_of (gives value) None = ([], refl, λ big. absurd cc)
  answers_of (gives value) (Some d) = ([], sym (none_at d.place d.reason value), λ big. absurd cc)
  answers_of (asks text next) d = back_first text next (answers_of next) d
