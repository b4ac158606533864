-- What the headers of a message say that is written: each header line has its name and its value, and the last of a name counts.
use Rattle.std.proofs.Common.{◌≡◌, ℕ, ◌+◌, Bool, true, false, cond, List, [], ◌∷◌, ◌++◌, map, drop, Option, Some, None, refl, sym, ap, subst, ◌∙◌, codes}
use Rattle.std.specs.Prelude.{bytes_eq, option_map, IfSome, is_some}
use Rattle.std.specs.List.{AllByRecursion}
use Rattle.std.proofs.lemmas.Option.{none-some, same_Some}
use Rattle.plain_model.specs.declared.fault.Fault.{Fault}
use Rattle.plain_model.specs.declared.fault.Fault.TheVariants as fault
use Rattle.plain_model.specs.Parts.{◌>>=◌, begins, has_no_lf}
use Rattle.plain_model.specs.Paths.{Bytes, is_empty}
use Rattle.plain_model.proofs.Words.{begins_rest}
use Rattle.field_laws.proofs.Steps.{bind_some}
use Rattle.field_laws.proofs.Written.{plain_parts}
use Rattle.mailbox_laws.specs.Headers.{colon_cut, header_in, or_else, own_value, value_if, value_in, with_name}
use Rattle.mailbox_laws.specs.Landing.{fault_unless, line_faults, value_faults}
use Rattle.mailbox_laws.specs.Written.{Header, header_text}
use Rattle.mailbox_laws.proofs.Sent.{numbered}

-- ---- headers that are written

-- the line of the header is read as it
abbrev pub IsReadAgain : Header → Type 0
IsReadAgain h = header_in (header_text h) ≡ Some h

-- the last value of a name
abbrev pub last_value : Bytes → List Header → Option Bytes
last_value name [] = None
last_value name (h ∷ hs) = or_else (last_value name hs) (value_if name h)

abbrev pub value_alone : Option (ℕ × Bytes) → Option Bytes
value_alone o = option_map (λ (v : ℕ × Bytes). v.1) o

either_value : (a : Option (ℕ × Bytes)) (n : ℕ) (b : Option Bytes)
    → value_alone (or_else a (option_map (λ value. (n, value)) b)) ≡ or_else (value_alone a) b
either_value (Some v) n b = refl
either_value None n (Some value) = refl
either_value None n None = refl

pub values_are : (name : Bytes) (hs : List Header) (n : ℕ) → AllByRecursion IsReadAgain hs
    → value_alone (value_in name (numbered n (map header_text hs))) ≡ last_value name hs
values_are name [] n h = refl
values_are name (x ∷ hs) n h =
    let later = value_in name (numbered (n + 1) (map header_text hs)) in
    ap (λ (o : Option Header). value_alone (or_else later (option_map (λ value. (n, value)) (o >>= value_if name)))) h.0
    ∙ either_value later n (value_if name x)
    ∙ ap (λ (o : Option Bytes). or_else o (value_if name x)) (values_are name hs (n + 1) h.1)

-- no line of them is at fault
pub lines_right : (hs : List Header) (n : ℕ) → AllByRecursion IsReadAgain hs → line_faults (numbered n (map header_text hs)) ≡ []
lines_right [] n h = refl
lines_right (x ∷ hs) n h =
    ap (λ (o : Option Header). fault_unless (is_some o) (fault.BadMessage n) ++ line_faults (numbered (n + 1) (map header_text hs))) h.0
    ∙ lines_right hs (n + 1) h.1

-- a value that passes is not at fault
pub no_fault : (passes : Bytes → Bool) (why : ℕ → Fault) (o : Option (ℕ × Bytes)) (value : Option Bytes) → value_alone o ≡ value
    → IfSome value (λ v. passes v ≡ true) → value_faults passes why o ≡ []
no_fault passes why None value is h = refl
no_fault passes why (Some v) value is h =
    let passed : IfSome (value_alone (Some v)) (λ w. passes w ≡ true) = subst (λ (o : Option Bytes). IfSome o (λ w. passes w ≡ true)) (sym is) h in
    ap (λ t. fault_unless t (why v.0)) passed

-- ---- headers that are read

colon_is : (t : Bytes) (h : Header) → colon_cut t ≡ Some h → t ≡ h.0 ++ 58 ∷ 32 ∷ h.1
colon_is [] h e = absurd (none-some {A = Header} h e)
colon_is (b ∷ bs) h e = go (begins (codes ": ") (b ∷ bs)) refl e (colon_is bs)
  where
    later : (o : Option Header) → option_map (λ (c : Header). (b ∷ c.0, c.1)) o ≡ Some h → ((c : Header) → o ≡ Some c → bs ≡ c.0 ++ 58 ∷ 32 ∷ c.1)
        → b ∷ bs ≡ h.0 ++ 58 ∷ 32 ∷ h.1
    later None e rec = absurd (none-some {A = Header} h e)
    later (Some c) e rec =
        let is = same_Some {A = Header} (b ∷ c.0, c.1) h e in
        ap (λ (t : Bytes). b ∷ t) (rec c refl) ∙ (λ i. (is i).0 ++ 58 ∷ 32 ∷ (is i).1)

    go : (t : Bool) → begins (codes ": ") (b ∷ bs) ≡ t → cond t (Some ([], drop 1 bs)) (option_map (λ (c : Header). (b ∷ c.0, c.1)) (colon_cut bs)) ≡ Some h
        → ((c : Header) → colon_cut bs ≡ Some c → bs ≡ c.0 ++ 58 ∷ 32 ∷ c.1) → b ∷ bs ≡ h.0 ++ 58 ∷ 32 ∷ h.1
    go true here e rec =
        let rest = begins_rest (codes ": ") (b ∷ bs) here in
        let after : drop 1 bs ≡ rest.0 = ap (λ (t : Bytes). drop 1 (drop 1 t)) rest.1 in
        let is = same_Some {A = Header} ([], drop 1 bs) h e in
        rest.1 ∙ ap (λ (t : Bytes). 58 ∷ 32 ∷ t) (sym after) ∙ (λ i. (is i).0 ++ 58 ∷ 32 ∷ (is i).1)
    go false other e rec = later (colon_cut bs) e rec

pub header_plain : (t : Bytes) (h : Header) → header_in t ≡ Some h → has_no_lf t ≡ true → has_no_lf h.1 ≡ true
unfolding header_in
header_plain t h e plain =
    let c = bind_some (colon_cut t) with_name h e in
    let named = with_is c.0 c.2 in
    let parts = plain_parts c.0.0 (58 ∷ 32 ∷ c.0.1) (ap has_no_lf (sym (colon_is t c.0 c.1)) ∙ plain) in
    ap (λ (x : Header). has_no_lf x.1) (sym named) ∙ parts.1
  where
    with_is : (c : Header) → with_name c ≡ Some h → c ≡ h
    with_is c e = go (is_empty c.0) e
      where
        go : (b : Bool) → cond b None (Some c) ≡ Some h → c ≡ h
        go true e = absurd (none-some {A = Header} h e)
        go false e = same_Some {A = Header} c h e

own_plain : (name : Bytes) (l v : ℕ × Bytes) → own_value name l ≡ Some v → has_no_lf l.1 ≡ true → has_no_lf v.1 ≡ true
own_plain name l v e plain = go (header_in l.1) refl e
  where
    valued : (h : Header) → header_in l.1 ≡ Some h → (b : Bool) → option_map (λ (value : Bytes). (l.0, value)) (cond b (Some h.1) None) ≡ Some v → has_no_lf v.1 ≡ true
    valued h is true e = ap (λ (x : ℕ × Bytes). has_no_lf x.1) (sym (same_Some {A = ℕ × Bytes} (l.0, h.1) v e)) ∙ header_plain l.1 h is plain
    valued h is false e = absurd (none-some {A = ℕ × Bytes} v e)

    go : (o : Option Header) → header_in l.1 ≡ o → option_map (λ (value : Bytes). (l.0, value)) (o >>= value_if name) ≡ Some v → has_no_lf v.1 ≡ true
    go None is e = absurd (none-some {A = ℕ × Bytes} v e)
    go (Some h) is e = valued h is (bytes_eq h.0 name) e

-- a value of lines without LF has none
pub value_plain : (name : Bytes) (ls : List (ℕ × Bytes)) (v : ℕ × Bytes) → AllByRecursion (λ (l : ℕ × Bytes). has_no_lf l.1 ≡ true) ls
    → value_in name ls ≡ Some v → has_no_lf v.1 ≡ true
value_plain name [] v h e = absurd (none-some {A = ℕ × Bytes} v e)
value_plain name (l ∷ ls) v h e = go (value_in name ls) refl e (value_plain name ls v h.1)
  where
    go : (o : Option (ℕ × Bytes)) → value_in name ls ≡ o → or_else o (own_value name l) ≡ Some v → (value_in name ls ≡ Some v → has_no_lf v.1 ≡ true) → has_no_lf v.1 ≡ true
    go None is e rec = own_plain name l v e h.0
    go (Some w) is e rec = rec (is ∙ e)
