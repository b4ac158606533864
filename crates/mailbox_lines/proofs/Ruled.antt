-- A line without the `>` at its front.
use Rattle.std.proofs.Common.{◌≡◌, ℕ, zero, suc, ◌+◌, ◌<◌, ◌≤◌, ◌==◌, true, false, [], ◌∷◌, length, get_or, drop, refl, sym, arith, add-one}
use Rattle.std.proofs.lemmas.Bool.{cond-true, cond-false}
use Rattle.plain_model.specs.Paths.{Bytes}
use Rattle.mailbox_laws.specs.Boxes.{is_rule, is_ruled}

-- one `>` more is passed
pass : (line : Bytes) (k : ℕ) → k < length line → (get_or line k 0 == 62) ≡ true → is_ruled (drop (suc k) line) ≡ is_ruled (drop k line)
pass [] k low it = absurd (omega arith)
pass (b ∷ bs) zero low it = sym (cond-true (b == 62) (is_ruled bs) (is_rule (b ∷ bs)) it)
pass (b ∷ bs) (suc k) low it = pass bs k (omega arith) it

pub passed : (line : Bytes) (k : ℕ) → k < length line → (get_or line k 0 == 62) ≡ true → is_ruled (drop (k + 1) line) ≡ is_ruled (drop k line)
passed line k low it = rw add-one (pass line k low it)

-- where no `>` is, the rest is a line of hyphens or none
pub stopped : (line : Bytes) (k : ℕ) → k < length line → (get_or line k 0 == 62) ≡ false → is_rule (drop k line) ≡ is_ruled (drop k line)
stopped [] k low other = absurd (omega arith)
stopped (b ∷ bs) zero low other = sym (cond-false (b == 62) (is_ruled bs) (is_rule (b ∷ bs)) other)
stopped (b ∷ bs) (suc k) low other = stopped bs k (omega arith) other

pub ended : (line : Bytes) (k : ℕ) → length line ≤ k → is_rule (drop k line) ≡ is_ruled (drop k line)
ended [] zero low = refl
ended [] (suc k) low = refl
ended (b ∷ bs) zero low = absurd (omega arith)
ended (b ∷ bs) (suc k) low = ended bs k (omega arith)
