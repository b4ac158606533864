-- A text as a pattern, by what was made of it.
use Rattle.std.proofs.Common.{◌≡◌, ℕ, true, false, inl, inr, Option, Some, None, Ok, Err, refl}
use Rattle.plain_model.specs.Paths.{Bytes}
use Rattle.plain_model.specs.declared.fault.Fault.{Fault}
use Rattle.plain_model.specs.declared.fault.Fault.TheVariants as fault
use Rattle.plain_model.specs.Counts.{Rose}
use Rattle.byte_patterns.specs.Building.{HasNoPattern}
use Rattle.byte_patterns.specs.Judging.{Counted, Denial, under, is_big, its_nesting, its_size, pattern_of}
use Rattle.byte_patterns.specs.Searching.{is_pattern}

abbrev Refuses : ℕ → ℕ → Bytes → Fault → Type 0
Refuses before now text why = (denial : Option Denial) × Counted before now denial × (under denial (pattern_of text) ≡ Err why)

pub read : (text : Bytes) → is_big text ≡ false → is_pattern text ≡ true → (pattern_of text).value ≡ Ok text
unfolding pattern_of
read text small is = rw (small, is) refl

pub big : (before now : ℕ) (text : Bytes) → is_big text ≡ true → Refuses before now text (fault.PatternTooBig text)
unfolding pattern_of
big before now text is = (None, λ sized. absurd cc, rw is refl)

pub sized : (before now : ℕ) (text : Bytes) → is_big text ≡ false → Rose before now → Refuses before now text (fault.PatternTooBig text)
unfolding pattern_of
sized before now text small rose = (Some (record { place = 0; reason = its_size }), λ is. rose, rw small refl)

pub unread : (before now : ℕ) (text : Bytes) → is_big text ≡ false → HasNoPattern text → Refuses before now text (fault.BadPattern text)
unfolding pattern_of
unread before now text small (inl none) = (None, λ is. absurd cc, rw (small, none) refl)
unread before now text small (inr deep) = (Some (record { place = 0; reason = its_nesting }), λ is. absurd cc, rw (small, deep) refl)
