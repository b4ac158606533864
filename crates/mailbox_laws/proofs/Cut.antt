-- A box is cut into the messages that are its lines, put together, and in no other way.
use Rattle.std.proofs.Common.{◌≡◌, inl, inr, ℕ, ◌+◌, true, false, List, [], ◌∷◌, ◌++◌, length, map, Option, Some, None, refl, sym, ap, subst, ◌∙◌, append_assoc, append-nil, arith, length-append, true≢false}
use Rattle.std.specs.Prelude.{flat_map, option_map, IfSome}
use Rattle.std.specs.List.{AllByRecursion}
use Rattle.std.proofs.lemmas.Bool.{cases_Bool}
use Rattle.std.proofs.lemmas.List.{length-map}
use Rattle.std.proofs.lemmas.Option.{none-some}
use Rattle.std.proofs.lemmas.Slice.Eq.{bytes_eq-Decides}
use Rattle.plain_model.specs.Paths.{Bytes, is_empty}
use Rattle.mailbox_laws.specs.Boxes.{Message, Part, Rest, box_in, is_rule, lines_in, rest_from, rule}
use Rattle.mailbox_laws.specs.Boxes.Part.{InBody, InHeaders}
use Rattle.mailbox_laws.specs.Cutting.{AreLinesOf, AreMessagesFrom, AreNumbered, HasNoRules, after_headers, message_lines}
use Rattle.mailbox_laws.proofs.Lines.{rule_is}
use Rattle.mailbox_laws.proofs.Sent.{begun_at, body_read, step_line, step_rule, with_body}

-- ---- what is read is the lines

abbrev texts : List (ℕ × Bytes) → List Bytes
texts headers = map (λ (l : ℕ × Bytes). l.1) headers

record InBodyCut (n : ℕ) (lines : List Bytes) (rest : Rest) : Type 0 where
  front : List Bytes
  body : rest.body ≡ Some front
  headers : rest.headers ≡ []
  no_rules : HasNoRules front
  together : lines ≡ front ++ flat_map message_lines rest.later
  at : ℕ
  at_is : at ≡ n + length front
  in_turn : AreMessagesFrom at rest.later

record InHeadersCut (n : ℕ) (lines : List Bytes) (rest : Rest) : Type 0 where
  numbered : AreNumbered n rest.headers
  filled : AllByRecursion (λ (l : ℕ × Bytes). is_empty l.1 ≡ false) rest.headers
  body : IfSome rest.body HasNoRules
  last : rest.body ≡ None → rest.later ≡ []
  together : lines ≡ texts rest.headers ++ after_headers rest.body ++ flat_map message_lines rest.later
  at : ℕ
  at_is : at ≡ n + length rest.headers + length (after_headers rest.body)
  in_turn : AreMessagesFrom at rest.later

begins_message : (n : ℕ) (l : Bytes) (ls : List Bytes) (rest : Rest) → is_rule l ≡ true → InHeadersCut (n + 1) ls rest → InBodyCut n (l ∷ ls) (begun_at n rest)
begins_message n l ls rest it h =
    let m : Message = record { line = n; headers = rest.headers; body = rest.body } in
    let same : l ≡ rule = (bytes_eq-Decides l rule).0 it in
    let far : h.at ≡ n + length (message_lines m) =
    omega (arith, h.at_is, length-append (texts rest.headers) (after_headers rest.body), length-map rest.headers (λ (l : ℕ × Bytes). l.1)) in
    record {
      front = [];
      body = refl;
      headers = refl;
      no_rules = tt;
      together = (λ i. same i ∷ h.together i);
      at = n;
      at_is = omega arith;
      in_turn = (
        record { at = refl; numbered = h.numbered; filled = h.filled; body = h.body },
        h.last,
        subst (λ k. AreMessagesFrom k rest.later) far h.in_turn,
      );
    }

goes_on : (n : ℕ) (l : Bytes) (ls : List Bytes) (rest : Rest) → is_rule l ≡ false → InBodyCut (n + 1) ls rest → InBodyCut n (l ∷ ls) (with_body (l ∷ []) rest)
goes_on n l ls rest other h = record {
  front = l ∷ h.front;
  body = ap (option_map (λ more. (l ∷ []) ++ more)) h.body;
  headers = h.headers;
  no_rules = (other, h.no_rules);
  together = ap (λ (t : List Bytes). l ∷ t) h.together;
  at = h.at;
  at_is = omega (arith, h.at_is);
  in_turn = h.in_turn;
}

ends_headers : (n : ℕ) (ls : List Bytes) (rest : Rest) → InBodyCut (n + 1) ls rest → InHeadersCut n ([] ∷ ls) rest
ends_headers n ls rest h =
    let more = flat_map message_lines rest.later in
    record {
      numbered = subst (AreNumbered n) (sym h.headers) tt;
      filled = subst (AllByRecursion (λ (l : ℕ × Bytes). is_empty l.1 ≡ false)) (sym h.headers) tt;
      body = subst (λ (o : Option (List Bytes)). IfSome o HasNoRules) (sym h.body) h.no_rules;
      last = λ none. absurd (none-some {A = List Bytes} h.front (sym none ∙ h.body));
      together =
          ap (λ (t : List Bytes). [] ∷ t) h.together
          ∙ (λ i. texts (sym h.headers i) ++ after_headers (sym h.body i) ++ more);
      at = h.at;
      at_is = (let counted : length rest.headers ≡ 0 = ap length h.headers in let also : length (after_headers rest.body) ≡ 1 + length h.front = ap (λ (o : Option (List Bytes)). length (after_headers o)) h.body ∙ (omega arith) in omega (arith, h.at_is));
      in_turn = h.in_turn;
    }

one_header : (n b : ℕ) (bs : Bytes) (ls : List Bytes) (rest : Rest) → InHeadersCut (n + 1) ls rest → InHeadersCut n ((b ∷ bs) ∷ ls) (record rest { headers = (n, b ∷ bs) ∷ rest.headers })
one_header n b bs ls rest h = record {
  numbered = (refl, h.numbered);
  filled = (refl, h.filled);
  body = h.body;
  last = h.last;
  together = ap (λ (t : List Bytes). (b ∷ bs) ∷ t) h.together;
  at = h.at;
  at_is = omega (arith, h.at_is);
  in_turn = h.in_turn;
}

abbrev Cut : Part → ℕ → List Bytes → Rest → Type 0
Cut InBody n lines rest = InBodyCut n lines rest
Cut InHeaders n lines rest = InHeadersCut n lines rest

rest_cut : (lines : List Bytes) (part : Part) (n : ℕ) → Cut part n lines (rest_from part n lines)
rest_cut [] InBody n = record { front = []; body = refl; headers = refl; no_rules = tt; together = refl; at = n; at_is = omega arith; in_turn = tt }
rest_cut [] InHeaders n = record { numbered = tt; filled = tt; body = tt; last = λ none. refl; together = refl; at = n; at_is = omega arith; in_turn = tt }
rest_cut (l ∷ ls) InBody n =
    let rule_then = rest_cut ls InHeaders (n + 1) in
    let line_then = rest_cut ls InBody (n + 1) in
    elim (cases_Bool (is_rule l)) [
      | inl it ↦ subst (InBodyCut n (l ∷ ls)) (sym (step_rule n l ls it)) (begins_message n l ls (rest_from InHeaders (n + 1) ls) it rule_then)
      | inr no_it ↦ subst (InBodyCut n (l ∷ ls)) (sym (step_line n l ls no_it)) (goes_on n l ls (rest_from InBody (n + 1) ls) no_it line_then)
    ]
rest_cut ([] ∷ ls) InHeaders n = ends_headers n ls (rest_from InBody (n + 1) ls) (rest_cut ls InBody (n + 1))
rest_cut ((b ∷ bs) ∷ ls) InHeaders n = one_header n b bs ls (rest_from InHeaders (n + 1) ls) (rest_cut ls InHeaders (n + 1))

-- a box is read as some lines before any message, and messages
pub box_cut : (bytes : Bytes) → (front : List Bytes) × ((box_in bytes).body ≡ Some front) × AreLinesOf (lines_in bytes) front (box_in bytes).later
unfolding box_in
box_cut bytes =
    let c = rest_cut (lines_in bytes) InBody 1 in (
      c.front,
      c.body,
      record {
        together = c.together;
        before = c.no_rules;
        in_turn = subst (λ k. AreMessagesFrom k (rest_from InBody 1 (lines_in bytes)).later) c.at_is c.in_turn;
      },
    )

-- ---- and in no other way

abbrev as_read : List Bytes → List Message → Rest
as_read front messages = record { headers = []; body = Some front; later = messages }

-- header lines, an empty line and a body, or the end
header_lines_read : (headers : List (ℕ × Bytes)) (n m : ℕ) (more : List Bytes) (rest : Rest) → AreNumbered n headers → AllByRecursion (λ (l : ℕ × Bytes). is_empty l.1 ≡ false) headers
    → m ≡ n + length headers → rest_from InHeaders m more ≡ rest → rest.headers ≡ [] → rest_from InHeaders n (texts headers ++ more) ≡ record rest { headers = headers }
header_lines_read [] n m more rest numbered filled is read none =
    let same : n ≡ m = omega arith in
    ap (λ k. rest_from InHeaders k more) same ∙ read ∙ (λ i. record rest { headers = none i })
header_lines_read (l ∷ headers) n m more rest numbered filled is read none =
    one l.0 l.1 numbered.0 filled.0 (header_lines_read headers (n + 1) m more rest numbered.1 filled.1 (omega arith) read none)
  where
    one : (k : ℕ) (text : Bytes) → k ≡ n → is_empty text ≡ false → rest_from InHeaders (n + 1) (texts headers ++ more) ≡ record rest { headers = headers }
        → rest_from InHeaders n (text ∷ (texts headers ++ more)) ≡ record rest { headers = (k, text) ∷ headers }
    one k [] same filled rec = absurd (true≢false filled)
    one k (b ∷ bs) same filled rec =
        ap (λ (r : Rest). record r { headers = (n, b ∷ bs) ∷ r.headers }) rec ∙ ap (λ x. record rest { headers = (x, b ∷ bs) ∷ headers }) (sym same)

messages_read : (ms : List Message) (n : ℕ) → AreMessagesFrom n ms → rest_from InBody n (flat_map message_lines ms) ≡ as_read [] ms
messages_read [] n h = refl
messages_read (m ∷ ms) n h = whole (body_then m.body h.0.body h.1 refl (messages_read ms (n + length (message_lines m)) h.2))
  where
    more : List Bytes
    more = flat_map message_lines ms

    k : ℕ
    k = n + 1 + length m.headers

    body_then : (o : Option (List Bytes)) → IfSome o HasNoRules → (o ≡ None → ms ≡ []) → m.body ≡ o → rest_from InBody (n + length (message_lines m)) more ≡ as_read [] ms
        → rest_from InHeaders k (after_headers o ++ more) ≡ record { headers = []; body = o; later = ms }
    body_then None rules last is rec =
        let none = last refl in
        ap (λ (l : List Message). rest_from InHeaders k (flat_map message_lines l)) none
        ∙ (λ i. record { headers = []; body = None; later = sym none i })
    body_then (Some body) rules last is rec =
        let counted : length (after_headers m.body) ≡ 1 + length body = ap (λ (o : Option (List Bytes)). length (after_headers o)) is ∙ (omega arith) in
        let far : n + length (message_lines m) ≡ k + 1 + length body =
        omega (arith, length-append (texts m.headers) (after_headers m.body), length-map m.headers (λ (l : ℕ × Bytes). l.1)) in
        body_read body (k + 1) (n + length (message_lines m)) more rules far
        ∙ ap (with_body body) rec
        ∙ (λ i. record { headers = []; body = Some (append-nil body i); later = ms })

    whole : rest_from InHeaders k (after_headers m.body ++ more) ≡ record { headers = []; body = m.body; later = ms }
        → rest_from InBody n (rule ∷ ((texts m.headers ++ after_headers m.body) ++ more)) ≡ as_read [] (m ∷ ms)
    whole read =
        step_rule n rule ((texts m.headers ++ after_headers m.body) ++ more) rule_is
        ∙ ap (λ (lines : List Bytes). begun_at n (rest_from InHeaders (n + 1) lines)) (append_assoc (texts m.headers) (after_headers m.body) more)
        ∙ ap (begun_at n) (header_lines_read m.headers (n + 1) k (after_headers m.body ++ more) (record { headers = []; body = m.body; later = ms }) h.0.numbered h.0.filled refl read refl)
        ∙ (λ i. as_read [] (record { line = sym h.0.at i; headers = m.headers; body = m.body } ∷ ms))

-- a box is read as any messages that are its lines, put together
pub box_read_so : (bytes : Bytes) (front : List Bytes) (ms : List Message) → AreLinesOf (lines_in bytes) front ms → box_in bytes ≡ as_read front ms
unfolding box_in
box_read_so bytes front ms h =
    ap (rest_from InBody 1) h.together
    ∙ body_read front 1 (1 + length front) (flat_map message_lines ms) h.before refl
    ∙ ap (with_body front) (messages_read ms (1 + length front) h.in_turn)
    ∙ (λ i. as_read (append-nil front i) ms)
