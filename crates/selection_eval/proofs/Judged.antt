-- Steps of a selection that build no pattern.
use Rattle.std.proofs.Common.{◌≡◌, ℕ, None, Result, Ok, Err, refl}
use Rattle.plain_model.specs.Faults.{Returns}
use Rattle.plain_model.specs.declared.fault.Fault.{Fault}
use Rattle.plain_model.specs.declared.fault.Halt.{Halt}
use Rattle.plain_model.specs.declared.fault.Halt.TheVariants as halt
use Rattle.byte_patterns.specs.Judging.{Judged, Judges, ◌>>>◌, plainly}

-- a value that something is made of
pub made : {A B : Type 0} (f : A → B) (j : Judged A) (x : A) (y : B) → j.value ≡ Ok x → y ≡ f x
    → (j >>> λ v. plainly (Ok (f v))).value ≡ Ok y
made f j x y is e = rw (is, e) refl

-- what builds no pattern
pub plain_judged : {X B : Type 0} (view : X → B) (before : ℕ) (r : Result X Halt) (value : Result B Fault)
    → Returns view r value → Judges view before before r (plainly value)
plain_judged view before (Ok x) value h = h
plain_judged view before (Err halt.Memory) value h = tt
plain_judged view before (Err (halt.Refused out)) value h = (None, λ sized. absurd cc, h)
