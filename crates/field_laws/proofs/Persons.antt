-- People and dates are read exactly where the text spells them.
use Rattle.std.proofs.Common.{◌≡◌, ◌⊎◌, inl, inr, ℕ, ◌+◌, ◌-◌, ◌≤◌, Bool, true, false, cond, not, [], ◌∷◌, ◌++◌, length, take, drop, get_or, Some, None, Ok, refl, sym, ap, subst, ◌∙◌, arith, eqb-true, eq-eqb, ne_eqb, leb-true, take_at, length-append, codes}
use Rattle.std.specs.Prelude.{◌==◌, ◌&&◌, ◌||◌, nat_le}
use Rattle.std.specs.List.{list_all}
use Rattle.std.proofs.lemmas.Bool.{and_parts, and_from, or_cases, or_left, or_right, cond-true}
use Rattle.std.proofs.lemmas.List.{take-append-drop, drop_more, drop_all, get_or_push}
use Rattle.std.proofs.lemmas.List.Folds.{list_all-append}
use Rattle.std.proofs.lemmas.Option.{same_Some, none-some, cond_some}
use Rattle.plain_model.specs.declared.limit.TheConstants.{MAX_SECONDS}
use Rattle.plain_model.specs.declared.person.Signed.{Signed}
use Rattle.plain_model.specs.declared.person.When.{When}
use Rattle.plain_model.specs.Paths.{Bytes}
use Rattle.plain_model.specs.Numbers.{is_digit, value_after, IsNumeral}
use Rattle.plain_model.specs.People.{is_clean_byte, is_clean, IsNamePart, IsZone, IsSigned}
use Rattle.plain_model.specs.Parts.{◌>>=◌, rest_after, cut_at, number_within, name_of, zone_of, when_of, when_after, person_parts}
use Rattle.plain_model.specs.declared.fault.Why.TheVariants.{BadPerson, BadWhen}
use Rattle.plain_model.specs.Fields.{or_defect, signed, person_in}
use Rattle.plain_model.specs.Fields.{◌>>=◌ as ◌then_field◌}
use Rattle.field_laws.proofs.FieldSteps.{bind_ok, ok_then, or_defect_is, or_defect_found, same_Ok}
use Rattle.field_laws.proofs.Steps.{bind_some, some_then, cond_step}
use Rattle.field_laws.proofs.Lines.{cut_is, cut_read, after_is, after_read}
use Rattle.field_laws.proofs.Numerals.{within_is, within_read}

-- ---- the name before an email

name_is : (part name : Bytes) → name_of part ≡ Some name → IsNamePart part name
unfolding name_of
name_is [] name e = inl (refl, sym (same_Some [] name e))
name_is (b ∷ bs) name e =
    let part = b ∷ bs in
    let n = length part - 1 in
    let c = cond_some (get_or part n 0 == 32) (take n part) name e in
    let after_it : drop (n + 1) part ≡ [] = drop_all (n + 1) part (omega arith) in
    inr (sym (take-append-drop n part) ∙ ap (λ (t : Bytes). take n part ++ t) (drop_more part n 0 (omega arith))
    ∙ (λ j. c.1 j ++ eqb-true (get_or part n 0) 32 c.0 j ∷ after_it j))

name_by_end : (part : Bytes) → 1 ≤ length part → name_of part ≡ cond (get_or part (length part - 1) 0 == 32) (Some (take (length part - 1) part)) None
unfolding name_of
name_by_end [] h = absurd (omega arith)
name_by_end (b ∷ bs) h = refl

name_none : name_of [] ≡ Some []
unfolding name_of
name_none = refl

name_read : (part name : Bytes) → IsNamePart part name → name_of part ≡ Some name
name_read part name (inl e) = ap name_of e.0 ∙ name_none ∙ ap (λ (n : Bytes). Some n) (sym e.1)
name_read part name (inr e) =
    let own = name ++ 32 ∷ [] in
    let n : length own - 1 ≡ length name = omega (arith, length-append name (32 ∷ [])) in
    ap name_of e
    ∙ name_by_end own (omega (arith, length-append name (32 ∷ [])))
    ∙ ap (λ k. cond (get_or own k 0 == 32) (Some (take k own)) None) n
    ∙ ap (λ b. cond (b == 32) (Some (take (length name) own)) None) (get_or_push name 32 0 (length name) refl)
    ∙ ap (λ (l : Bytes). Some l) (take_at name (32 ∷ []) (length name) refl)

-- ---- dates

zone_is : (seconds : ℕ) (text : Bytes) (w : When) → zone_of seconds text ≡ Some w → (seconds ≡ w.seconds) × IsZone text w.minus w.offset
unfolding zone_of
zone_is seconds [] w e = absurd (none-some w e)
zone_is seconds (sign ∷ zone) w e =
    let made = λ (offset : ℕ). (let w : When = record { seconds = seconds; minus = sign == 45; offset = offset } in w) in
    let t = cond_step ((sign == 43 || sign == 45) && (length zone == 4)) (number_within 9999 zone >>= λ offset. Some (made offset)) w e in
    let tests = and_parts (sign == 43 || sign == 45) (length zone == 4) t.0 in
    let o = bind_some (number_within 9999 zone) (λ offset. Some (made offset)) w t.1 in
    let is = same_Some (made o.0) w o.2 in
    let sign_is : ((sign ≡ 43) × ((sign == 45) ≡ false)) ⊎ ((sign ≡ 45) × ((sign == 45) ≡ true)) = elim (or_cases (sign == 43) (sign == 45) tests.0) [
      | inl plus ↦ inl (eqb-true sign 43 plus, ap (λ s. s == 45) (eqb-true sign 43 plus))
      | inr minus ↦ inr (eqb-true sign 45 minus, minus)
    ] in
    let own : IsZone (sign ∷ zone) (sign == 45) o.0 = record {
      sign = sign;
      digits = zone;
      is = refl;
      signed = sign_is;
      four = eqb-true (length zone) 4 tests.1;
      numeral = (within_is 9999 zone o.0 o.1).0;
    } in
    subst (λ (x : When). (seconds ≡ x.seconds) × IsZone (sign ∷ zone) x.minus x.offset) is (refl, own)

pub digit_at_most : (d : ℕ) → is_digit d ≡ true → d ≤ 57
digit_at_most d h = leb-true d 57 (and_parts (nat_le 48 d) (nat_le d 57) h).1

-- four digits say at most 9999
pub four_digits : (digits : Bytes) → length digits ≡ 4 → list_all is_digit digits ≡ true → value_after 0 digits ≤ 9999
four_digits [] h e = absurd (omega arith)
four_digits (a ∷ []) h e = absurd (omega arith)
four_digits (a ∷ b ∷ []) h e = absurd (omega arith)
four_digits (a ∷ b ∷ c ∷ []) h e = absurd (omega arith)
four_digits (a ∷ b ∷ c ∷ d ∷ []) h e =
    let p = and_parts (is_digit a) (list_all is_digit (b ∷ c ∷ d ∷ [])) e in
    let q = and_parts (is_digit b) (list_all is_digit (c ∷ d ∷ [])) p.1 in
    let r = and_parts (is_digit c) (list_all is_digit (d ∷ [])) q.1 in
    let s = and_parts (is_digit d) true r.1 in
    omega (arith, digit_at_most a p.0, digit_at_most b q.0, digit_at_most c r.0, digit_at_most d s.0)
four_digits (a ∷ b ∷ c ∷ d ∷ x ∷ more) h e = absurd (omega arith)

zone_read : (seconds : ℕ) (text : Bytes) (minus : Bool) (offset : ℕ) → IsZone text minus offset → zone_of seconds text ≡ Some (record { seconds = seconds; minus = minus; offset = offset })
unfolding zone_of
zone_read seconds text minus offset z =
    ap (zone_of seconds) z.is ∙ by_sign z.sign z.signed ∙ ap (λ m. Some (made m)) (minus_is z.sign z.signed)
  where
    made : Bool → When
    made m = record { seconds = seconds; minus = m; offset = offset }

    minus_is : (sign : ℕ) → ((sign ≡ 43) × (minus ≡ false)) ⊎ ((sign ≡ 45) × (minus ≡ true)) → (sign == 45) ≡ minus
    minus_is sign (inl s) = ap (λ b. b == 45) s.0 ∙ sym s.1
    minus_is sign (inr s) = ap (λ b. b == 45) s.0 ∙ sym s.1

    is_sign : (sign : ℕ) → ((sign ≡ 43) × (minus ≡ false)) ⊎ ((sign ≡ 45) × (minus ≡ true)) → (sign == 43 || sign == 45) ≡ true
    is_sign sign (inl s) = or_left (sign == 43) (sign == 45) (eq-eqb sign 43 s.0)
    is_sign sign (inr s) = or_right (sign == 43) (sign == 45) (eq-eqb sign 45 s.0)

    small : offset ≤ 9999
    small = subst (λ v. v ≤ 9999) z.numeral.value (four_digits z.digits z.four z.numeral.all)

    by_sign : (sign : ℕ) → ((sign ≡ 43) × (minus ≡ false)) ⊎ ((sign ≡ 45) × (minus ≡ true)) → zone_of seconds (sign ∷ z.digits) ≡ Some (made (sign == 45))
    by_sign sign s =
        cond-true ((sign == 43 || sign == 45) && (length z.digits == 4)) (number_within 9999 z.digits >>= λ offset. Some (record { seconds = seconds; minus = sign == 45; offset = offset })) None
        (and_from (sign == 43 || sign == 45) (length z.digits == 4) (is_sign sign s) (eq-eqb (length z.digits) 4 z.four))
        ∙ some_then (number_within 9999 z.digits) (λ offset. Some (record { seconds = seconds; minus = sign == 45; offset = offset })) offset (Some (made (sign == 45))) (within_read 9999 z.digits offset z.numeral small) refl

-- seconds and a zone
pub record IsWhen (text : Bytes) (w : When) : Type 0 where
  pub digits : Bytes
  pub zone : Bytes
  pub is : text ≡ digits ++ 32 ∷ zone
  pub seconds : IsNumeral digits w.seconds
  pub in_time : w.seconds ≤ MAX_SECONDS
  pub offset : IsZone zone w.minus w.offset

pub when_is : (text : Bytes) (w : When) → when_of text ≡ Some w → IsWhen text w
unfolding when_of
when_is text w e =
    let c = bind_some (cut_at 32 text) (λ c. number_within MAX_SECONDS c.0 >>= λ seconds. zone_of seconds c.1) w e in
    let s = bind_some (number_within MAX_SECONDS c.0.0) (λ seconds. zone_of seconds c.0.1) w c.2 in
    let n = within_is MAX_SECONDS c.0.0 s.0 s.1 in
    let z = zone_is s.0 c.0.1 w s.2 in
    record {
      digits = c.0.0;
      zone = c.0.1;
      is = (cut_is 32 text c.0.0 c.0.1 c.1).1;
      seconds = subst (IsNumeral c.0.0) z.0 n.0;
      in_time = subst (λ k. k ≤ MAX_SECONDS) z.0 n.1;
      offset = z.1;
    }

-- bytes that pass one test pass another
pub all_pass : (p q : ℕ → Bool) → ((b : ℕ) → p b ≡ true → q b ≡ true) → (xs : Bytes) → list_all p xs ≡ true → list_all q xs ≡ true
all_pass p q more [] h = refl
all_pass p q more (x ∷ xs) h =
    let parts = and_parts (p x) (list_all p xs) h in
    and_from (q x) (list_all q xs) (more x parts.0) (all_pass p q more xs parts.1)

pub digit_isnt : (b : ℕ) → is_digit b ≡ true → not (b == 32) ≡ true
digit_isnt b h = ap not (ne_eqb b 32 (λ e. absurd (omega (arith, leb-true 48 b (and_parts (nat_le 48 b) (nat_le b 57) h).0))))

pub when_read : (text : Bytes) (w : When) → IsWhen text w → when_of text ≡ Some w
unfolding when_of
when_read text w h =
    some_then (cut_at 32 text) (λ c. number_within MAX_SECONDS c.0 >>= λ seconds. zone_of seconds c.1) (h.digits, h.zone) (Some w)
    (ap (cut_at 32) h.is ∙ cut_read 32 h.digits h.zone (all_pass is_digit (λ b. not (b == 32)) digit_isnt h.digits h.seconds.all))
    (some_then (number_within MAX_SECONDS h.digits) (λ seconds. zone_of seconds h.zone) w.seconds (Some w) (within_read MAX_SECONDS h.digits w.seconds h.seconds h.in_time)
    (zone_read w.seconds h.zone w.minus w.offset h.offset))

-- ---- who

pub record IsPerson (text name email tail : Bytes) : Type 0 where
  pub part : Bytes
  pub is : text ≡ part ++ 60 ∷ (email ++ 62 ∷ tail)
  pub named : IsNamePart part name
  pub clean_name : is_clean name ≡ true
  pub clean_email : is_clean email ≡ true

person_is : (text : Bytes) (p : Bytes × Bytes × Bytes) → person_parts text ≡ Some p → IsPerson text p.0 p.1 p.2
unfolding person_parts
person_is text p e =
    let a = bind_some (cut_at 60 text) (λ a. cut_at 62 a.1 >>= λ b. name_of a.0 >>= λ name. cond (is_clean name && is_clean b.0) (Some (name, b.0, b.1)) None) p e in
    let b = bind_some (cut_at 62 a.0.1) (λ b. name_of a.0.0 >>= λ name. cond (is_clean name && is_clean b.0) (Some (name, b.0, b.1)) None) p a.2 in
    let n = bind_some (name_of a.0.0) (λ name. cond (is_clean name && is_clean b.0.0) (Some (name, b.0.0, b.0.1)) None) p b.2 in
    let c = cond_some {A = Bytes × Bytes × Bytes} (is_clean n.0 && is_clean b.0.0) (n.0, b.0.0, b.0.1) p n.2 in
    let clean = and_parts (is_clean n.0) (is_clean b.0.0) c.0 in
    let own : IsPerson text n.0 b.0.0 b.0.1 = record {
      part = a.0.0;
      is = (cut_is 60 text a.0.0 a.0.1 a.1).1 ∙ ap (λ (t : Bytes). a.0.0 ++ 60 ∷ t) (cut_is 62 a.0.1 b.0.0 b.0.1 b.1).1;
      named = name_is a.0.0 n.0 n.1;
      clean_name = clean.0;
      clean_email = clean.1;
    } in
    subst (λ (q : Bytes × Bytes × Bytes). IsPerson text q.0 q.1 q.2) c.1 own

pub clean_parts : (b : ℕ) → is_clean_byte b ≡ true → (not (b == 60) ≡ true) × (not (b == 62) ≡ true)
clean_parts b h =
    let p = and_parts (not (b == 60) && not (b == 62)) (not (b == 0)) h in
    and_parts (not (b == 60)) (not (b == 62)) p.0

part_is_clean : (part name : Bytes) → IsNamePart part name → is_clean name ≡ true → list_all (λ b. not (b == 60)) part ≡ true
part_is_clean part name (inl e) h = ap (list_all (λ b. not (b == 60))) e.0
part_is_clean part name (inr e) h =
    ap (list_all (λ b. not (b == 60))) e ∙ list_all-append (λ b. not (b == 60)) name (32 ∷ [])
    ∙ and_from (list_all (λ b. not (b == 60)) name) true (all_pass is_clean_byte (λ b. not (b == 60)) (λ b c. (clean_parts b c).0) name h) refl

pub person_read : (text name email tail : Bytes) → IsPerson text name email tail → person_parts text ≡ Some (name, email, tail)
unfolding person_parts
person_read text name email tail h =
    let all : Bytes × Bytes × Bytes = (name, email, tail) in
    some_then (cut_at 60 text) (λ a. cut_at 62 a.1 >>= λ b. name_of a.0 >>= λ name. cond (is_clean name && is_clean b.0) (Some (name, b.0, b.1)) None) (h.part, email ++ 62 ∷ tail) (Some all)
    (ap (cut_at 60) h.is ∙ cut_read 60 h.part (email ++ 62 ∷ tail) (part_is_clean h.part name h.named h.clean_name))
    (some_then (cut_at 62 (email ++ 62 ∷ tail)) (λ b. name_of h.part >>= λ name. cond (is_clean name && is_clean b.0) (Some (name, b.0, b.1)) None) (email, tail) (Some all)
    (cut_read 62 email tail (all_pass is_clean_byte (λ b. not (b == 62)) (λ b c. (clean_parts b c).1) email h.clean_email))
    (some_then (name_of h.part) (λ name. cond (is_clean name && is_clean email) (Some (name, email, tail)) None) name (Some all) (name_read h.part name h.named)
    (cond-true (is_clean name && is_clean email) (Some all) None (and_from (is_clean name) (is_clean email) h.clean_name h.clean_email))))

-- ---- who and when

-- the moment after a space
when_after_is : (tail : Bytes) (w : When) → when_after tail ≡ Some w → (text : Bytes) × (tail ≡ 32 ∷ text) × (when_of text ≡ Some w)
unfolding when_after
when_after_is tail w e =
    let t = bind_some (rest_after (codes " ") tail) (λ text. when_of text) w e in
    (t.0, after_is (codes " ") tail t.0 t.1, t.2)

when_after_read : (text : Bytes) (w : When) → when_of text ≡ Some w → when_after (32 ∷ text) ≡ Some w
unfolding when_after
when_after_read text w e = some_then (rest_after (codes " ") (32 ∷ text)) (λ t. when_of t) text (Some w) (after_read (codes " ") text) e

-- the parts of a text that are found spell who and when
parts_are : (text : Bytes) (p : Bytes × Bytes × Bytes) (w : When) → person_parts text ≡ Some p → when_after p.2 ≡ Some w → IsSigned text (signed p w)
parts_are text p w e f =
    let t = when_after_is p.2 w f in
    let person = person_is text p e in
    let when = when_is t.0 w t.2 in
    record {
      part = person.part;
      digits = when.digits;
      zone = when.zone;
      is = person.is ∙ ap (λ (r : Bytes). person.part ++ 60 ∷ (p.1 ++ 62 ∷ r)) (t.1 ∙ ap (λ (r : Bytes). 32 ∷ r) when.is);
      name = person.named;
      clean_name = person.clean_name;
      clean_email = person.clean_email;
      seconds = when.seconds;
      in_time = when.in_time;
      offset = when.offset;
    }

pub person_in_is : (text : Bytes) (who : Signed) → person_in text ≡ Ok who → IsSigned text who
unfolding person_in
person_in_is text who e =
    let p = bind_ok (or_defect BadPerson (person_parts text)) (λ p. or_defect BadWhen (when_after p.2) then_field λ when. Ok (signed p when)) who e in
    let w = bind_ok (or_defect BadWhen (when_after p.0.2)) (λ when. Ok (signed p.0 when)) who p.2 in
    subst (IsSigned text) (same_Ok (signed p.0 w.0) who w.2) (parts_are text p.0 w.0 (or_defect_is BadPerson (person_parts text) p.0 p.1) (or_defect_is BadWhen (when_after p.0.2) w.0 w.1))

pub person_in_read : (text : Bytes) (who : Signed) → IsSigned text who → person_in text ≡ Ok who
unfolding person_in
person_in_read text who h =
    let when = h.digits ++ 32 ∷ h.zone in
    let p : Bytes × Bytes × Bytes = (who.person.name, who.person.email, 32 ∷ when) in
    ok_then (or_defect BadPerson (person_parts text)) (λ p. or_defect BadWhen (when_after p.2) then_field λ w. Ok (signed p w)) p (Ok who)
    (or_defect_found BadPerson (person_parts text) p (person_read text who.person.name who.person.email (32 ∷ when) (record { part = h.part; is = h.is; named = h.name; clean_name = h.clean_name; clean_email = h.clean_email })))
    (ok_then (or_defect BadWhen (when_after (32 ∷ when))) (λ w. Ok (signed p w)) who.when (Ok who)
    (or_defect_found BadWhen (when_after (32 ∷ when)) who.when (when_after_read when who.when (when_read when who.when (record { digits = h.digits; zone = h.zone; is = refl; seconds = h.seconds; in_time = h.in_time; offset = h.offset }))))
    refl)
