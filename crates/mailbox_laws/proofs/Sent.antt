-- Messages that are written are read again, whatever their numbers.
use Rattle.std.proofs.Common.{◌≡◌, inl, inr, ℕ, ◌+◌, Bool, true, false, cond, List, [], ◌∷◌, ◌++◌, length, map, Option, Some, None, refl, sym, ap, ◌∙◌, append_assoc, append-nil, arith, length-append, true≢false}
use Rattle.std.specs.Prelude.{flat_map, option_map, codes}
use Rattle.std.specs.List.{AllByRecursion}
use Rattle.std.proofs.lemmas.Bool.{cases_Bool}
use Rattle.std.proofs.lemmas.Grind.{flat_map-append}
use Rattle.std.proofs.lemmas.List.Folds.{flat_map-map}
use Rattle.plain_model.specs.Paths.{Bytes, is_empty}
use Rattle.plain_model.specs.Text.{line}
use Rattle.history_laws.proofs.Lists.{all_join}
use Rattle.mailbox_laws.specs.Boxes.{Message, Rest, box_in, is_rule, lines_in, quoted, rest_from, rule}
use Rattle.mailbox_laws.specs.Boxes.Part.{InBody, InHeaders}
use Rattle.mailbox_laws.specs.Written.{Header, Letter, body_text, header_text, letter_text}
use Rattle.mailbox_laws.proofs.Lines.{IsPlain, all_quoted_plain, lines_plain, lines_read, no_rules, plain_rule, rule_is}

-- ---- a message as it is sent

-- lines with their numbers
abbrev pub numbered : ℕ → List Bytes → List (ℕ × Bytes)
numbered n [] = []
numbered n (l ∷ ls) = (n, l) ∷ numbered (n + 1) ls

abbrev pub body_lines : Bytes → List Bytes
body_lines comment = map quoted (lines_in (line comment))

-- the lines of a message
abbrev pub letter_lines : Letter → List Bytes
letter_lines l = rule ∷ (map header_text l.headers ++ [] ∷ body_lines l.comment)

-- the message whose line of hyphens is the n-th line
abbrev pub sent_at : ℕ → Letter → Message
sent_at n l = record { line = n; headers = numbered (n + 1) (map header_text l.headers); body = Some (body_lines l.comment) }

abbrev pub sent : ℕ → List Letter → List Message
sent n [] = []
sent n (l ∷ ls) = sent_at n l ∷ sent (n + length (letter_lines l)) ls

-- ---- reading

abbrev pub with_body : List Bytes → Rest → Rest
with_body ls rest = record rest { body = option_map (λ more. ls ++ more) rest.body }

-- a body ends at the line of hyphens, where a message begins
abbrev pub begun_at : ℕ → Rest → Rest
begun_at n rest = record {
  headers = [];
  body = Some [];
  later = record { line = n; headers = rest.headers; body = rest.body } ∷ rest.later;
}

pub step_line : (n : ℕ) (l : Bytes) (ls : List Bytes) → is_rule l ≡ false → rest_from InBody n (l ∷ ls) ≡ with_body (l ∷ []) (rest_from InBody (n + 1) ls)
step_line n l ls h = ap (λ t. read t) h
  where
    read : Bool → Rest
    read t =
        let rest = rest_from (cond t InHeaders InBody) (n + 1) ls in
        cond t (begun_at n rest) (record rest { body = option_map (λ lines. l ∷ lines) rest.body })

pub step_rule : (n : ℕ) (l : Bytes) (ls : List Bytes) → is_rule l ≡ true → rest_from InBody n (l ∷ ls) ≡ begun_at n (rest_from InHeaders (n + 1) ls)
step_rule n l ls h = ap (λ t. read t) h
  where
    read : Bool → Rest
    read t =
        let rest = rest_from (cond t InHeaders InBody) (n + 1) ls in
        cond t (begun_at n rest) (record rest { body = option_map (λ lines. l ∷ lines) rest.body })

-- no header lines go on in a body
pub body_headers : (n : ℕ) (ls : List Bytes) → (rest_from InBody n ls).headers ≡ []
body_headers n [] = refl
body_headers n (l ∷ ls) = elim (cases_Bool (is_rule l)) [
  | inl it ↦ ap (λ (r : Rest). r.headers) (step_rule n l ls it)
  | inr no_it ↦ ap (λ (r : Rest). r.headers) (step_line n l ls no_it) ∙ body_headers (n + 1) ls
]

same_body : (o : Option (List Bytes)) → o ≡ option_map (λ more. [] ++ more) o
same_body (Some ls) = refl
same_body None = refl

more_body : (l : Bytes) (ls : List Bytes) (o : Option (List Bytes))
    → option_map (λ more. (l ∷ []) ++ more) (option_map (λ more. ls ++ more) o) ≡ option_map (λ more. (l ∷ ls) ++ more) o
more_body l ls (Some more) = refl
more_body l ls None = refl

pub body_read : (ls : List Bytes) (n m : ℕ) (rest : List Bytes) → AllByRecursion (λ l. is_rule l ≡ false) ls → m ≡ n + length ls
    → rest_from InBody n (ls ++ rest) ≡ with_body ls (rest_from InBody m rest)
body_read [] n m rest h is =
    let same : n ≡ m = omega arith in
    let after = rest_from InBody m rest in
    ap (λ k. rest_from InBody k rest) same ∙ (λ i. record after { body = same_body after.body i })
body_read (l ∷ ls) n m rest h is =
    let after = rest_from InBody m rest in
    step_line n l (ls ++ rest) h.0
    ∙ ap (with_body (l ∷ [])) (body_read ls (n + 1) m rest h.1 (omega arith))
    ∙ (λ i. record after { body = more_body l ls after.body i })

abbrev with_headers : List (ℕ × Bytes) → Rest → Rest
with_headers headers rest = record { headers = headers; body = rest.body; later = rest.later }

headers_read : (hs : List Bytes) (n m : ℕ) (rest : List Bytes) → AllByRecursion (λ h. is_empty h ≡ false) hs → m ≡ n + length hs + 1
    → rest_from InHeaders n (hs ++ [] ∷ rest) ≡ with_headers (numbered n hs) (rest_from InBody m rest)
headers_read [] n m rest h is =
    let same : n + 1 ≡ m = omega arith in
    let after = rest_from InBody m rest in
    ap (λ k. rest_from InBody k rest) same ∙ (λ i. record after { headers = body_headers m rest i })
headers_read ([] ∷ hs) n m rest h is = absurd (true≢false h.0)
headers_read ((b ∷ bs) ∷ hs) n m rest h is =
    ap (λ (r : Rest). record r { headers = (n, b ∷ bs) ∷ r.headers }) (headers_read hs (n + 1) m rest h.1 (omega arith))

-- ---- what can be written

abbrev pub IsWritable : Letter → Type 0
IsWritable l = AllByRecursion (λ h. IsPlain (header_text h)) l.headers

not_empty : (name value : Bytes) → is_empty (name ++ codes ": " ++ value) ≡ false
not_empty [] value = refl
not_empty (b ∷ bs) value = refl

none_empty : (hs : List Header) → AllByRecursion (λ h. is_empty h ≡ false) (map header_text hs)
none_empty [] = tt
none_empty (h ∷ hs) = (not_empty h.0 h.1, none_empty hs)

letters_read : (ls : List Letter) (n : ℕ) → rest_from InBody n (flat_map letter_lines ls) ≡ record { headers = []; body = Some []; later = sent n ls }
letters_read [] n = refl
letters_read (l ∷ ls) n =
    let hs = map header_text l.headers in
    let bs = body_lines l.comment in
    let more = flat_map letter_lines ls in
    let m = n + 1 + length hs + 1 in
    let k = n + length (letter_lines l) in
    let far : k ≡ m + length bs = omega (arith, length-append hs ([] ∷ bs)) in
    let rest : Rest = record { headers = []; body = Some []; later = sent k ls } in
    step_rule n rule ((hs ++ [] ∷ bs) ++ more) rule_is
    ∙ ap (λ (lines : List Bytes). begun_at n (rest_from InHeaders (n + 1) lines)) (append_assoc hs ([] ∷ bs) more)
    ∙ ap (begun_at n) (headers_read hs (n + 1) m (bs ++ more) (none_empty l.headers) refl)
    ∙ ap (λ (r : Rest). begun_at n (with_headers (numbered (n + 1) hs) r)) (body_read bs m k more (no_rules (lines_in (line l.comment))) far)
    ∙ ap (λ (r : Rest). begun_at n (with_headers (numbered (n + 1) hs) (with_body bs r))) (letters_read ls k)
    ∙ ap (λ (body : List Bytes). begun_at n (record { headers = numbered (n + 1) hs; body = Some body; later = sent k ls })) (append-nil bs)

-- ---- the text

lines_text : (l : Letter) → letter_text l ≡ flat_map line (letter_lines l)
lines_text l =
    let a = flat_map (λ h. line (header_text h)) l.headers in
    let b = body_text l.comment in
    let hs = map header_text l.headers in
    append_assoc (line rule ++ a) (line []) b
    ∙ append_assoc (line rule) a (line [] ++ b)
    ∙ (λ i. line rule ++ (sym (flat_map-map line header_text l.headers) i ++ (line [] ++ sym (flat_map-map line quoted (lines_in (line l.comment))) i)))
    ∙ ap (λ (t : Bytes). line rule ++ t) (sym (flat_map-append line hs ([] ∷ body_lines l.comment)))

letters_text : (ls : List Letter) → flat_map letter_text ls ≡ flat_map line (flat_map letter_lines ls)
letters_text [] = refl
letters_text (l ∷ ls) =
    (λ i. lines_text l i ++ letters_text ls i) ∙ sym (flat_map-append line (letter_lines l) (flat_map letter_lines ls))

plain_headers : (hs : List Header) → AllByRecursion (λ h. IsPlain (header_text h)) hs → AllByRecursion IsPlain (map header_text hs)
plain_headers [] h = tt
plain_headers (x ∷ hs) h = (h.0, plain_headers hs h.1)

letter_plain : (l : Letter) → IsWritable l → AllByRecursion IsPlain (letter_lines l)
letter_plain l h = (
  plain_rule,
  all_join IsPlain (map header_text l.headers) ([] ∷ body_lines l.comment) (plain_headers l.headers h)
      (refl, all_quoted_plain (lines_in (line l.comment)) (lines_plain (line l.comment))),
)

letters_plain : (ls : List Letter) → AllByRecursion IsWritable ls → AllByRecursion IsPlain (flat_map letter_lines ls)
letters_plain [] h = tt
letters_plain (l ∷ ls) h = all_join IsPlain (letter_lines l) (flat_map letter_lines ls) (letter_plain l h.0) (letters_plain ls h.1)

-- what is written is read again
pub box_read : (ls : List Letter) → AllByRecursion IsWritable ls → box_in (flat_map letter_text ls) ≡ record { headers = []; body = Some []; later = sent 1 ls }
unfolding box_in
box_read ls h =
    let lines = flat_map letter_lines ls in
    ap (λ (t : Bytes). rest_from InBody 1 (lines_in t)) (letters_text ls ∙ sym (append-nil (flat_map line lines)))
    ∙ ap (rest_from InBody 1) (lines_read lines [] (letters_plain ls h) ∙ append-nil lines)
    ∙ letters_read ls 1
