-- A text that is read byte by byte, from a place on.
use Rattle.std.proofs.Common.{◌≡◌, ℕ, suc, ◌+◌, ◌<◌, [], ◌∷◌, length, drop, get_or, Ok, Err, refl, sym, ◌∙◌, ap, add-one, drop-cons}
use Rattle.plain_model.specs.Paths.{Bytes}
use Rattle.selection_parser.specs.Plain.{PlainSelection}
use Rattle.selection_parser.specs.Reading.{step, onward, read_from, selection_at, no_parts, before_term, Reader}
use Rattle.selection_parser.specs.Reading.Next.{Goes, Ends, Stops}

-- the next byte, and what follows it
next_byte : (text : Bytes) (n b : ℕ) → n < length text → get_or text n 0 ≡ b → drop n text ≡ b ∷ drop (n + 1) text
next_byte text n b h is = drop-cons text n 0 h ∙ ap (λ c. c ∷ drop (suc n) text) is ∙ ap (λ m. b ∷ drop m text) (sym (add-one n))

pub read_begins : (text : Bytes) (r : Reader) → r ≡ before_term no_parts [] → read_from 0 r (drop 0 text) ≡ selection_at text
unfolding selection_at
read_begins text r is = ap (λ s. read_from 0 s text) is

pub read_goes : (text : Bytes) (n b : ℕ) (r next : Reader) → n < length text → get_or text n 0 ≡ b → Goes next ≡ step r b
    → read_from (n + 1) next (drop (n + 1) text) ≡ read_from n r (drop n text)
read_goes text n b r next h is e =
    sym (ap (read_from n r) (next_byte text n b h is)
    ∙ ap (λ s. onward n s (λ m. read_from (n + 1) m (drop (n + 1) text))) (sym e))

pub read_ends : (text : Bytes) (n b : ℕ) (r : Reader) (x : PlainSelection) → n < length text → get_or text n 0 ≡ b → Ends x ≡ step r b
    → read_from n r (drop n text) ≡ Ok (x, n)
read_ends text n b r x h is e =
    ap (read_from n r) (next_byte text n b h is)
    ∙ ap (λ s. onward n s (λ m. read_from (n + 1) m (drop (n + 1) text))) (sym e)

pub read_stops : (text : Bytes) (n b : ℕ) (r : Reader) → n < length text → get_or text n 0 ≡ b → Stops ≡ step r b
    → read_from n r (drop n text) ≡ Err (n + 1)
read_stops text n b r h is e =
    ap (read_from n r) (next_byte text n b h is)
    ∙ ap (λ s. onward n s (λ m. read_from (n + 1) m (drop (n + 1) text))) (sym e)

-- what is answered at the end
pub read_over : (text : Bytes) (n : ℕ) (r : Reader) → n ≡ length text → read_from n r (drop n text) ≡ read_from (length text) r []
read_over text n r h = ap (λ k. read_from k r (drop k text)) h ∙ ap (read_from (length text) r) (drop_all text)
  where
    drop_all : (xs : Bytes) → drop (length xs) xs ≡ []
    drop_all [] = refl
    drop_all (x ∷ xs) = drop_all xs

pub ruleset readings = (read_begins, read_goes, read_ends, read_stops, read_over)
