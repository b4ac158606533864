-- A quoted text, byte by byte.
use Rattle.std.proofs.Common.{◌≡◌, ℕ, ◌+◌, ◌<◌, [], ◌∷◌, ◌++◌, length, drop, get_or, Option, Some, None, refl, sym, ap, ◌∙◌, append_assoc, append-nil}
use Rattle.std.specs.Prelude.{option_map}
use Rattle.std.proofs.lemmas.List.{drop_more}
use Rattle.plain_model.specs.Paths.{Bytes}
use Rattle.plain_model.specs.Fields.{Quoting, Turn, turn, unquoted, with_byte}
use Rattle.plain_model.specs.Fields.Quoting.{Between}
use Rattle.plain_model.specs.Fields.Turn.{Ends, Says, GoesOn, Unfit}

-- after bytes that were read
abbrev pub with_front : Bytes → Option (Bytes × Bytes) → Option (Bytes × Bytes)
with_front front found = option_map (λ x. (front ++ x.0, x.1)) found

-- what a byte makes of the rest
abbrev pub by_turn : Turn → Bytes → Option (Bytes × Bytes)
by_turn t bs = elim t [
  | Ends ↦ Some ([], bs)
  | Says x ↦ with_byte x (unquoted Between bs)
  | GoesOn r ↦ unquoted r bs
  | Unfit ↦ None
]

with_byte_front : (front : Bytes) (b : ℕ) (found : Option (Bytes × Bytes)) → with_front front (with_byte b found) ≡ with_front (front ++ b ∷ []) found
with_byte_front front b None = refl
with_byte_front front b (Some x) = ap (λ (t : Bytes). Some (t, x.1)) (sym (append_assoc front (b ∷ []) x.0))

module _ (front text : Bytes) (q : Quoting) (i : ℕ) (lt : i < length text) where
  next : (t : Turn) → turn q (get_or text i 0) ≡ t → with_front front (unquoted q (drop i text)) ≡ with_front front (by_turn t (drop (i + 1) text))
  next t e = ap (λ (r : Bytes). with_front front (unquoted q r)) (drop_more text i 0 lt) ∙ ap (λ t. with_front front (by_turn t (drop (i + 1) text))) e

  pub quote_ends : turn q (get_or text i 0) ≡ Ends → with_front front (unquoted q (drop i text)) ≡ Some (front, drop (i + 1) text)
  quote_ends e = next Ends e ∙ ap (λ (t : Bytes). Some (t, drop (i + 1) text)) (append-nil front)

  pub quote_says : (b : ℕ) → turn q (get_or text i 0) ≡ Says b → with_front front (unquoted q (drop i text)) ≡ with_front (front ++ b ∷ []) (unquoted Between (drop (i + 1) text))
  quote_says b e = next (Says b) e ∙ with_byte_front front b (unquoted Between (drop (i + 1) text))

  pub quote_goes_on : (r : Quoting) → turn q (get_or text i 0) ≡ GoesOn r → with_front front (unquoted q (drop i text)) ≡ with_front front (unquoted r (drop (i + 1) text))
  quote_goes_on r e = next (GoesOn r) e

  pub quote_unfit : turn q (get_or text i 0) ≡ Unfit → with_front front (unquoted q (drop i text)) ≡ None
  quote_unfit e = next Unfit e

pub with_front_nil : (found : Option (Bytes × Bytes)) → with_front [] found ≡ found
with_front_nil None = refl
with_front_nil (Some x) = refl
