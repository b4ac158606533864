-- Texts of days and moments.
use Rattle.std.proofs.Common.{◌≡◌, ℕ, zero, suc, ◌<◌, ◌≤◌, false, List, [], ◌∷◌, length, get_or, length-drop, Option, Some, None, Err, inl, inr, refl, ap, ◌-◌, arith}
use Rattle.std.specs.Prelude.{◌/◌, take, drop, if◌then◌else◌}
use Rattle.plain_model.specs.Paths.{Bytes}
use Rattle.std.proofs.lemmas.Bool.{cases_Bool}
use Rattle.std.proofs.Math.Bool.{and-false}
use Rattle.plain_model.specs.declared.event.PlainEvent.{PlainEvent}
use Rattle.plain_model.specs.declared.fault.Fault.TheVariants as fault
use Rattle.civil_dates.specs.Dates.{civil_day, date_text, day_text}
use Rattle.selection_eval.specs.Days.{at_last_sign, email_in, is_stamp, is_moment, part}
use Rattle.selection_eval.specs.Spots.{some_or, stamp_dated, stamped}

-- after its front nothing is left of a short text
short_rest : (n : ℕ) (text : Bytes) → length text ≤ n → take 1 (drop n text) ≡ []
short_rest n [] h = go n
  where
    go : (n : ℕ) → take 1 (drop {A = ℕ} n []) ≡ []
    go zero = refl
    go (suc n) = refl
short_rest zero (b ∷ text) h = absurd (omega arith)
short_rest (suc n) (b ∷ text) h = short_rest n text (omega arith)

-- a stamp has 21 bytes or more
pub shorter : (text : Bytes) → length text < 21 → is_stamp text ≡ false
shorter text h =
    let rest : part 20 1 text ≡ [] = short_rest 20 text (omega arith) in
    rw rest (and-false (is_moment (take 20 text)))

-- ---- the last `#`

-- the text is cut at a `#` after which there is none
pub cut_at : (text : Bytes) (place : ℕ) → place < length text → get_or text place 0 ≡ 35
    → at_last_sign (drop (suc place) text) ≡ None → at_last_sign text ≡ Some (take place text, drop (suc place) text)
cut_at [] place lt is none = absurd (omega arith)
cut_at (b ∷ text) zero lt is none = rw (none, is) refl
cut_at (b ∷ text) (suc place) lt is none = rw (cut_at text place (omega arith) is none) refl

pub none_after_all : (text : Bytes) → at_last_sign (drop (length text) text) ≡ None
none_after_all [] = refl
none_after_all (b ∷ text) = none_after_all text

-- the front of a date is its day
pub day_front : (seconds : ℕ) → take 10 (date_text seconds) ≡ day_text (civil_day (seconds / 86400))
unfolding date_text
day_front seconds = refl

-- ---- parts of texts

take_all : (n : ℕ) (xs : Bytes) → length xs ≤ n → take n xs ≡ xs
take_all zero [] h = refl
take_all (suc n) [] h = refl
take_all zero (x ∷ xs) h = absurd (omega arith)
take_all (suc n) (x ∷ xs) h = ap (λ (l : Bytes). x ∷ l) (take_all n xs (omega arith))

pub take_rest : (n : ℕ) (text : Bytes) → take (length text - n) (drop n text) ≡ drop n text
take_rest n text = take_all (length text - n) (drop n text) (omega (arith, length-drop n text))

-- ---- stamps

pub stamp_known : (events : List PlainEvent) (text moment rest : Bytes)
    → ◌≡◌ {A = Option (Bytes × Bytes)} (Some (moment, rest)) (if is_stamp text then Some (take 20 text, drop 21 text) else None)
    → stamp_dated text events ≡ some_or (fault.NoSuchName text) (stamped moment (email_in rest) events)
stamp_known events text moment rest h = elim (cases_Bool (is_stamp text)) [
  | inl is ↦
      (let k : ◌≡◌ {A = Option (Bytes × Bytes)} (Some (moment, rest)) (Some (take 20 text, drop 21 text)) = rw is at h in
      let same : ◌≡◌ {A = Bytes × Bytes} (moment, rest) (take 20 text, drop 21 text) = cc in
      let one : moment ≡ take 20 text = ap (λ (p : Bytes × Bytes). p.0) same in
      let other : rest ≡ drop 21 text = ap (λ (p : Bytes × Bytes). p.1) same in
      rw (is, one, other) refl)
  | inr isnt ↦
      (let k : ◌≡◌ {A = Option (Bytes × Bytes)} (Some (moment, rest)) None = rw isnt at h in absurd cc)
]

pub stamp_unknown : (events : List PlainEvent) (text : Bytes)
    → ◌≡◌ {A = Option (Bytes × Bytes)} None (if is_stamp text then Some (take 20 text, drop 21 text) else None)
    → stamp_dated text events ≡ Err (fault.BadMoment text)
stamp_unknown events text h = elim (cases_Bool (is_stamp text)) [
  | inl is ↦
      (let k : ◌≡◌ {A = Option (Bytes × Bytes)} None (Some (take 20 text, drop 21 text)) = rw is at h in absurd cc)
  | inr isnt ↦ rw isnt refl
]
