-- A path that is written is read as the same path, whatever may follow.
use Rattle.std.proofs.Common.{◌≡◌, ℕ, ◌-◌, Bool, true, false, cond, not, [], ◌∷◌, ◌++◌, length, drop, Some, Result, Ok, Err, refl, sym, ap, ◌∙◌, arith, append_assoc, append-nil, length-append, eqb-true, codes}
use Rattle.std.specs.Prelude.{◌==◌, ◌&&◌, ◌||◌, flat_map}
use Rattle.std.specs.List.{list_any}
use Rattle.std.proofs.lemmas.Bool.{and_parts, and_from, cond-true, cond-false}
use Rattle.plain_model.specs.declared.fault.Why.{Why}
use Rattle.plain_model.specs.declared.fault.Why.TheVariants.{BadPath}
use Rattle.plain_model.specs.declared.raw.Place.{Place}
use Rattle.plain_model.specs.declared.raw.Place.TheVariants.{Last, Source}
use Rattle.plain_model.specs.Paths.{Bytes, IsPath}
use Rattle.plain_model.specs.Parts.{begins}
use Rattle.plain_model.specs.Fields.{turn, unquoted, with_byte, judged_path, path_by, quoted_path, plain_path, may_follow, path_in, first_word}
use Rattle.plain_model.specs.Fields.{◌>>=◌ as ◌then_field◌}
use Rattle.plain_model.specs.Fields.Quoting.{Between, Escaping}
use Rattle.plain_model.specs.Fields.Turn.{Ends, Says, GoesOn}
use Rattle.field_laws.proofs.Quoted.{by_turn}
use Rattle.plain_model.specs.Text.{quoted_byte, quoted, begins_quoted, path_text}
use Rattle.field_laws.proofs.FieldSteps.{ok_then}
use Rattle.plain_model.proofs.Numbers.{eqb_turned}
use Rattle.field_laws.proofs.Words.{has_no_space, first_word_space, first_word_whole}

-- both are false where either would be true
or_false : (a b : Bool) → (a || b) ≡ false → (a ≡ false) × (b ≡ false)
or_false true b e = absurd (cc)
or_false false b e = (refl, e)

-- ---- in quotes

-- a byte that is no quote and no backslash says itself
plain_turn : (b : ℕ) → (b == 34) ≡ false → (b == 92) ≡ false → turn Between b ≡ Says b
unfolding turn
plain_turn b e f = cond-false (b == 34) Ends (cond (b == 92) (GoesOn Escaping) (Says b)) e ∙ cond-false (b == 92) (GoesOn Escaping) (Says b) f

plain_byte : (b : ℕ) (tail : Bytes) → (b == 34) ≡ false → (b == 92) ≡ false → unquoted Between (b ∷ tail) ≡ with_byte b (unquoted Between tail)
plain_byte b tail e f = ap (λ t. by_turn t tail) (plain_turn b e f)

pub quoted_again : (p rest : Bytes) → unquoted Between (flat_map quoted_byte p ++ 34 ∷ rest) ≡ Some (p, rest)
unfolding turn
quoted_again [] rest = refl
quoted_again (b ∷ p) rest =
    ap (unquoted Between) (append_assoc (quoted_byte b) (flat_map quoted_byte p) (34 ∷ rest))
    ∙ go (b == 34) (b == 92) (b == 10) refl refl refl (quoted_again p rest)
  where
    go : (s t u : Bool) → (b == 34) ≡ s → (b == 92) ≡ t → (b == 10) ≡ u → unquoted Between (flat_map quoted_byte p ++ 34 ∷ rest) ≡ Some (p, rest)
        → unquoted Between (cond s (92 ∷ 34 ∷ []) (cond t (92 ∷ 92 ∷ []) (cond u (92 ∷ 110 ∷ []) (b ∷ []))) ++ (flat_map quoted_byte p ++ 34 ∷ rest)) ≡ Some (b ∷ p, rest)
    go true t u e f g again = ap (with_byte 34) again ∙ ap (λ x. Some (x ∷ p, rest)) (sym (eqb-true b 34 e))
    go false true u e f g again = ap (with_byte 92) again ∙ ap (λ x. Some (x ∷ p, rest)) (sym (eqb-true b 92 f))
    go false false true e f g again = ap (with_byte 10) again ∙ ap (λ x. Some (x ∷ p, rest)) (sym (eqb-true b 10 g))
    go false false false e f g again = plain_byte b (flat_map quoted_byte p ++ 34 ∷ rest) e f ∙ ap (with_byte b) again

-- ---- whole paths

-- what is a path is read as one
path_by_itself : (p : Bytes) → IsPath p → path_by p ≡ Ok p
unfolding path_by
path_by_itself p h = ap (judged_path p) h

-- a path and how many bytes its spelling takes
abbrev pub made : Bytes → ℕ → Result (Bytes × ℕ) Why
made p n = Ok (p, n)

quoted_path_again : (place : Place) (p rest : Bytes) → IsPath p → may_follow place rest ≡ true → path_in place (quoted p ++ rest) ≡ made p (length (quoted p))
unfolding path_in quoted_path
quoted_path_again place p rest h f =
    let text = quoted p ++ rest in
    let inside = flat_map quoted_byte p in
    let found : unquoted Between ((inside ++ 34 ∷ []) ++ rest) ≡ Some (p, rest) = ap (unquoted Between) (append_assoc inside (34 ∷ []) rest) ∙ quoted_again p rest in
    let size : length text - length rest ≡ length (quoted p) = omega (arith, length-append (quoted p) rest) in
    ap (quoted_path place text) found
    ∙ cond-true (may_follow place rest) (path_by p then_field λ q. made q (length text - length rest)) (Err BadPath) f
    ∙ ok_then (path_by p) (λ q. made q (length text - length rest)) p (made p (length (quoted p))) (path_by_itself p h) (ap (made p) size)

-- what begins with no quote
no_quote : (p rest : Bytes) → IsPath p → begins_quoted p ≡ false → begins (codes "\"") (p ++ rest) ≡ false
no_quote [] rest h e = absurd (cc)
no_quote (b ∷ bs) rest h e = ap (λ t. t && true) (eqb_turned 34 b ∙ e)

plain_path_again : (place : Place) (p rest : Bytes) → IsPath p → begins_quoted p ≡ false → plain_path place (p ++ rest) ≡ p → path_in place (p ++ rest) ≡ made p (length p)
unfolding path_in
plain_path_again place p rest h q e =
    cond-false (begins (codes "\"") (p ++ rest)) (quoted_path place (p ++ rest) (unquoted Between (drop 1 (p ++ rest)))) (path_by (plain_path place (p ++ rest)) then_field λ path. made path (length (plain_path place (p ++ rest)))) (no_quote p rest h q)
    ∙ ap (λ (t : Bytes). path_by t then_field λ path. made path (length t)) e
    ∙ ok_then (path_by p) (λ path. made path (length p)) p (made p (length p)) (path_by_itself p h) refl

-- the end of a line, or a space
follows_last : (p rest : Bytes) → may_follow Last rest ≡ true → plain_path Last (p ++ rest) ≡ p
follows_last p [] f = append-nil p
follows_last p (b ∷ bs) f = absurd (cc)

follows_source : (p rest : Bytes) → has_no_space p ≡ true → may_follow Source rest ≡ true → plain_path Source (p ++ rest) ≡ p
follows_source p [] h f = ap first_word (append-nil p) ∙ first_word_whole p h
follows_source p (b ∷ bs) h f = ap (λ c. first_word (p ++ c ∷ bs)) (space b f) ∙ first_word_space p bs h
  where
    space : (b : ℕ) → ((32 == b) && true) ≡ true → b ≡ 32
    space b e = sym (eqb-true 32 b (and_parts (32 == b) true e).0)

-- a path that may be without quotes has no space before another
no_space : (p : Bytes) → list_any (λ b. (b == 10) || (b == 32)) p ≡ false → has_no_space p ≡ true
no_space [] h = refl
no_space (b ∷ bs) h =
    let parts = or_false ((b == 10) || (b == 32)) (list_any (λ c. (c == 10) || (c == 32)) bs) h in
    and_from (not (b == 32)) (has_no_space bs) (ap not (or_false (b == 10) (b == 32) parts.0).1) (no_space bs parts.1)

pub path_again : (place : Place) (p rest : Bytes) → IsPath p → may_follow place rest ≡ true → path_in place (path_text place p ++ rest) ≡ made p (length (path_text place p))
path_again Last p rest h f = go (begins_quoted p || list_any (λ b. b == 10) p) refl
  where
    go : (t : Bool) → (begins_quoted p || list_any (λ b. b == 10) p) ≡ t → path_in Last (cond t (quoted p) p ++ rest) ≡ made p (length (cond t (quoted p) p))
    go true e = quoted_path_again Last p rest h f
    go false e = plain_path_again Last p rest h (or_false (begins_quoted p) (list_any (λ b. b == 10) p) e).0 (follows_last p rest f)
path_again Source p rest h f = go (begins_quoted p || list_any (λ b. (b == 10) || (b == 32)) p) refl
  where
    go : (t : Bool) → (begins_quoted p || list_any (λ b. (b == 10) || (b == 32)) p) ≡ t → path_in Source (cond t (quoted p) p ++ rest) ≡ made p (length (cond t (quoted p) p))
    go true e = quoted_path_again Source p rest h f
    go false e =
        let parts = or_false (begins_quoted p) (list_any (λ b. (b == 10) || (b == 32)) p) e in
        plain_path_again Source p rest h parts.0 (follows_source p rest (no_space p parts.1) f)
