-- Values of headers: people and dates that are written are read again, and what is read is such as a stream spells it.
use Rattle.std.proofs.Common.{◌≡◌, ℕ, ◌-◌, ◌≤◌, Bool, true, false, cond, not, [], ◌∷◌, ◌++◌, length, take, drop, get_or, inl, inr, decimal, Some, None, refl, sym, ap, subst, ◌∙◌, arith, append_assoc, lt-ltb, codes, ne_eqb}
use Rattle.std.specs.Prelude.{◌==◌, ◌&&◌, nat_lt}
use Rattle.std.proofs.lemmas.Bool.{and_parts, and_from, cond-true, not-true, true≢false}
use Rattle.std.proofs.lemmas.List.{take-append-drop}
use Rattle.std.proofs.lemmas.Option.{cond_some, same_Some}
use Rattle.plain_model.specs.declared.limit.TheConstants.{MAX_SECONDS}
use Rattle.plain_model.specs.declared.person.Person.{Person}
use Rattle.plain_model.specs.declared.person.When.{When}
use Rattle.plain_model.specs.Parts.{◌>>=◌, begins, cut_at, has_no_lf, name_of, person_parts}
use Rattle.plain_model.specs.Paths.{Bytes, is_empty}
use Rattle.plain_model.specs.Text.{zone}
use Rattle.plain_model.specs.People.{is_clean, is_clean_byte}
use Rattle.field_laws.proofs.Lines.{cut_is}
use Rattle.field_laws.proofs.Persons.{clean_parts, four_digits, person_read, when_is, when_read}
use Rattle.field_laws.proofs.Steps.{bind_some, some_then}
use Rattle.field_laws.proofs.Written.{numeral_written, plain_parts, zone_text, zone_written}
use Rattle.mailbox_laws.specs.Headers.{identity_in, moment_in, whole_identity}
use Rattle.mailbox_laws.specs.Written.{identity_text, moment_text}

-- ---- who

-- no text that begins with a name begins with a space and an email
no_empty_name : (b : ℕ) (bs rest : Bytes) → is_clean bs ≡ true → begins (codes " <") (b ∷ (bs ++ 32 ∷ rest)) ≡ false
no_empty_name b [] rest h = go (32 == b)
  where
    go : (t : Bool) → (t && false) ≡ false
    go true = refl
    go false = refl
no_empty_name b (c ∷ cs) rest h =
    let clean = clean_parts c (and_parts (is_clean_byte c) (is_clean cs) h).0 in
    go (32 == b) (60 == c) (turned c (not-true (c == 60) clean.0))
  where
    go : (t u : Bool) → u ≡ false → (t && (u && true)) ≡ false
    go true u e = ap (λ v. v && true) e
    go false u e = refl

    turned : (c : ℕ) → (c == 60) ≡ false → (60 == c) ≡ false
    turned c e = ne_eqb 60 c (λ is. absurd (true≢false (sym (ap (λ x. x == 60) (sym is)) ∙ e)))

grouped : (a b c : Bytes) → a ++ b ++ 60 ∷ [] ++ c ++ 62 ∷ [] ≡ (a ++ b) ++ 60 ∷ (c ++ 62 ∷ [])
grouped a b c = simp append_assoc

-- the text of a person with a name
named_text : (b : ℕ) (bs email : Bytes) → identity_text (record { name = b ∷ bs; email = email }) ≡ ((b ∷ bs) ++ 32 ∷ []) ++ 60 ∷ (email ++ 62 ∷ [])
named_text b bs email =
    grouped (b ∷ bs) (cond (nat_lt 0 (length (b ∷ bs))) (codes " ") []) email
    ∙ ap (λ (s : Bytes). ((b ∷ bs) ++ s) ++ 60 ∷ (email ++ 62 ∷ [])) (cond-true (nat_lt 0 (length (b ∷ bs))) (codes " ") [] (lt-ltb 0 (length (b ∷ bs)) (omega arith)))

whole_read : (text : Bytes) (p : Person) → begins (codes " <") text ≡ false → whole_identity text (p.name, p.email, []) ≡ Some p
whole_read text p h = ap (λ t. cond (not t) (Some p) None) h

-- a person that is written is read again
again : (name email : Bytes) → is_clean name ≡ true → is_clean email ≡ true
    → identity_in (identity_text (record { name = name; email = email })) ≡ Some (record { name = name; email = email })
unfolding identity_in
again [] email clean_name clean_email =
    let p : Person = record { name = []; email = email } in
    some_then (person_parts (identity_text p)) (whole_identity (identity_text p)) ([], email, []) (Some p)
    (person_read (identity_text p) [] email [] (record { part = []; is = grouped [] [] email; named = inl (refl, refl); clean_name = refl; clean_email = clean_email }))
    (whole_read (identity_text p) p refl)
again (b ∷ bs) email clean_name clean_email =
    let name = b ∷ bs in
    let p : Person = record { name = name; email = email } in
    let rest = 60 ∷ (email ++ 62 ∷ []) in
    let is = named_text b bs email in
    some_then (person_parts (identity_text p)) (whole_identity (identity_text p)) (name, email, []) (Some p)
    (person_read (identity_text p) name email [] (record { part = name ++ 32 ∷ []; is = is; named = inr refl; clean_name = clean_name; clean_email = clean_email }))
    (whole_read (identity_text p) p (ap (begins (codes " <")) (is ∙ append_assoc name (32 ∷ []) rest) ∙ no_empty_name b bs rest (and_parts (is_clean_byte b) (is_clean bs) clean_name).1))

pub identity_again : (p : Person) → is_clean p.name ≡ true → is_clean p.email ≡ true → identity_in (identity_text p) ≡ Some p
identity_again p clean_name clean_email = again p.name p.email clean_name clean_email

pub take_plain : (n : ℕ) (text : Bytes) → has_no_lf text ≡ true → has_no_lf (take n text) ≡ true
take_plain n text h = (plain_parts (take n text) (drop n text) (ap has_no_lf (take-append-drop n text) ∙ h)).0

name_plain : (part name : Bytes) → name_of part ≡ Some name → has_no_lf part ≡ true → has_no_lf name ≡ true
unfolding name_of
name_plain [] name e h = ap has_no_lf (sym (same_Some [] name e))
name_plain (b ∷ bs) name e h =
    let part = b ∷ bs in
    let n = length part - 1 in
    let c = cond_some (get_or part n 0 == 32) (take n part) name e in
    ap has_no_lf (sym c.1) ∙ take_plain n part h

-- who is read has a clean name and a clean email, without LF where the text has none
pub identity_formed : (text : Bytes) (p : Person) → identity_in text ≡ Some p → has_no_lf text ≡ true
    → (is_clean p.name && has_no_lf p.name && is_clean p.email && has_no_lf p.email) ≡ true
unfolding identity_in person_parts
identity_formed text p e plain =
    let parts = bind_some (person_parts text) (whole_identity text) p e in
    let a = bind_some (cut_at 60 text) (λ a. cut_at 62 a.1 >>= λ b. name_of a.0 >>= λ name. cond (is_clean name && is_clean b.0) (Some (name, b.0, b.1)) None) parts.0 parts.1 in
    let b = bind_some (cut_at 62 a.0.1) (λ b. name_of a.0.0 >>= λ name. cond (is_clean name && is_clean b.0) (Some (name, b.0, b.1)) None) parts.0 a.2 in
    let n = bind_some (name_of a.0.0) (λ name. cond (is_clean name && is_clean b.0.0) (Some (name, b.0.0, b.0.1)) None) parts.0 b.2 in
    let c = cond_some {A = Bytes × Bytes × Bytes} (is_clean n.0 && is_clean b.0.0) (n.0, b.0.0, b.0.1) parts.0 n.2 in
    let clean = and_parts (is_clean n.0) (is_clean b.0.0) c.0 in
    let first = plain_parts a.0.0 (60 ∷ a.0.1) (ap has_no_lf (sym (cut_is 60 text a.0.0 a.0.1 a.1).1) ∙ plain) in
    let second = plain_parts b.0.0 (62 ∷ b.0.1) (ap has_no_lf (sym (cut_is 62 a.0.1 b.0.0 b.0.1 b.1).1) ∙ first.1) in
    let whole = cond_some {A = Person} (is_empty parts.0.2 && not (begins (codes " <") text)) (record { name = parts.0.0; email = parts.0.1 }) p parts.2 in
    let name_is : n.0 ≡ p.name = ap (λ (q : Bytes × Bytes × Bytes). q.0) c.1 ∙ ap (λ (q : Person). q.name) whole.1 in
    let email_is : b.0.0 ≡ p.email = ap (λ (q : Bytes × Bytes × Bytes). q.1) c.1 ∙ ap (λ (q : Person). q.email) whole.1 in
    let made = and_from (is_clean n.0 && has_no_lf n.0 && is_clean b.0.0) (has_no_lf b.0.0)
    (and_from (is_clean n.0 && has_no_lf n.0) (is_clean b.0.0)
    (and_from (is_clean n.0) (has_no_lf n.0) clean.0 (name_plain a.0.0 n.0 n.1 first.0)) clean.1) second.0 in
    (λ i. is_clean (sym name_is i) && has_no_lf (sym name_is i) && is_clean (sym email_is i) && has_no_lf (sym email_is i)) ∙ made

-- ---- when

-- a moment that is written is read again
pub moment_again : (w : When) → w.seconds ≤ MAX_SECONDS → w.offset ≤ 9999 → moment_in (moment_text w) ≡ Some w
moment_again w time digits = when_read (moment_text w) w (record {
  digits = decimal w.seconds;
  zone = zone_text w.minus w.offset;
  is = dated (decimal w.seconds) (cond w.minus (codes "-") (codes "+")) (zone w.offset);
  seconds = numeral_written w.seconds (omega (arith, time));
  in_time = time;
  offset = zone_written w.minus w.offset digits;
})
  where
    dated : (a b c : Bytes) → a ++ 32 ∷ [] ++ b ++ c ≡ a ++ 32 ∷ (b ++ c)
    dated a b c = simp append_assoc

-- a moment that is read is within its limit
pub moment_formed : (t : Bytes) (w : When) → moment_in t ≡ Some w → (w.seconds ≤ MAX_SECONDS) × (w.offset ≤ 9999)
moment_formed t w e =
    let h = when_is t w e in
    let own = h.offset in
    (h.in_time, subst (λ v. v ≤ 9999) own.numeral.value (four_digits own.digits own.four own.numeral.all))
