-- Where a text may be cut: after an ASCII byte.
use Rattle.std.proofs.Common.{◌≡◌, ℕ, ◌+◌, ◌-◌, ◌<◌, ◌≤◌, ◌==◌, true, List, [], ◌∷◌, length, get_or, subst, IsUtf8, IsCharBoundary, arith, lit<}
use Rattle.std.proofs.lemmas.Str.{IsCharBoundary-after_ascii}
use Rattle.std.proofs.lemmas.Bool.{and_parts, eqb-true}
use Rattle.script_lines.specs.Redirections.{is_target, is_redirection, sign_of}
use Rattle.script_lines.specs.declared.redirection.Direction.{Direction}
use Rattle.script_lines.specs.declared.redirection.Direction.TheVariants.{Input, Output}

-- after ASCII bytes that are passed over, if there are any
pub after_ascii : (bytes text : List ℕ) (at : ℕ) → bytes ≡ text → IsUtf8 bytes → at ≤ length bytes
    → (0 < at → get_or bytes (at - 1) 0 < 128) → 0 < at → IsCharBoundary text at
after_ascii bytes text at is utf8 within ascii some =
    let same : at - 1 + 1 ≡ at = omega arith in
    subst (λ bs. IsCharBoundary bs at) is
    (subst (IsCharBoundary bytes) same (IsCharBoundary-after_ascii bytes (at - 1) utf8 (omega arith) (ascii some)))

sign_ascii : (direction : Direction) → sign_of direction < 128
sign_ascii Input = lit< tt
sign_ascii Output = lit< tt

-- after the sign of a redirection
pub after_sign : (direction : Direction) (bytes : List ℕ) → IsUtf8 bytes → is_redirection direction bytes ≡ true
    → IsCharBoundary bytes 1
after_sign direction [] utf8 h = absurd cc
after_sign direction (b ∷ bs) utf8 h =
    let same = eqb-true b (sign_of direction) (and_parts (b == sign_of direction) (is_target bs) h).0 in
    let ascii : b < 128 = omega (arith, sign_ascii direction) in
    IsCharBoundary-after_ascii (b ∷ bs) 0 utf8 (omega arith) ascii
