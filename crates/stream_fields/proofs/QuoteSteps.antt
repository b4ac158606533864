-- What stays true of a quoted text after one more byte.
use Rattle.std.proofs.Common.{◌≡◌, ℕ, ◌+◌, ◌<◌, [], ◌∷◌, ◌++◌, length, drop, get_or, sym, subst, ◌∙◌}
use Rattle.plain_model.specs.Paths.{Bytes}
use Rattle.plain_model.specs.Fields.{Quoting, turn, unquoted}
use Rattle.plain_model.specs.Fields.Turn.{Says, GoesOn}
use Rattle.std.specs.Prelude.{Option}
use Rattle.field_laws.proofs.Quoted.{with_front, quote_says, quote_goes_on}
use Rattle.stream_fields.specs.Quotes.{quoting_of, IsWithinByte}
use Rattle.stream_fields.specs.declared.quoting.QuotePlace.{QuotePlace}
use Rattle.stream_fields.specs.declared.quoting.QuotePlace.TheVariants as place

pub within_after : (p r : QuotePlace) → p ≡ r → IsWithinByte r → IsWithinByte p
within_after p r e h = subst IsWithinByte (sym e) h

module _ (text front new : Bytes) (q : Quoting) (p : QuotePlace) (i : ℕ) (all : Option (Bytes × Bytes)) (lt : i < length text) (so_far : with_front front (unquoted q (drop i text)) ≡ all) where
  pub same_after_byte : (b : ℕ) → turn q (get_or text i 0) ≡ Says b → p ≡ place.Between → new ≡ front ++ b ∷ [] → with_front new (unquoted (quoting_of p) (drop (i + 1) text)) ≡ all
  same_after_byte b is e f =
      (λ j. with_front (f j) (unquoted (quoting_of (e j)) (drop (i + 1) text)))
      ∙ sym (quote_says front text q i lt b is) ∙ so_far

  pub same_inside : (r : QuotePlace) → turn q (get_or text i 0) ≡ GoesOn (quoting_of r) → p ≡ r → new ≡ front → with_front new (unquoted (quoting_of p) (drop (i + 1) text)) ≡ all
  same_inside r is e f =
      (λ j. with_front (f j) (unquoted (quoting_of (e j)) (drop (i + 1) text)))
      ∙ sym (quote_goes_on front text q i lt (quoting_of r) is) ∙ so_far
