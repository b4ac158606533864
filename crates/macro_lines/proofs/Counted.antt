-- What counts of a line that goes on.
use Rattle.std.proofs.Common.{◌≡◌, ◌≢◌, ℕ, ◌≤◌, Bool, true, false, [], ◌∷◌, ◌++◌, length, refl, ap, ◌∙◌, arith}
use Rattle.std.specs.Prelude.{if◌then◌else◌, ◌&&◌}
use Rattle.std.specs.List.{list_all}
use Rattle.plain_model.specs.Paths.{Bytes}
use Rattle.script_lines.specs.Scripts.{in_front, is_margin, is_nothing, without_back, without_front}

-- ---- the first byte that counts

-- after bytes of which none counts
pub begins_later : (put piece : Bytes) → without_front put ≡ [] → without_front (put ++ piece) ≡ without_front piece
begins_later [] piece none = refl
begins_later (b ∷ bs) piece none = go (is_margin b) none (begins_later bs piece)
  where
    go : (m : Bool) → (if m then without_front bs else b ∷ bs) ≡ [] → (without_front bs ≡ [] → without_front (bs ++ piece) ≡ without_front piece)
        → (if m then without_front (bs ++ piece) else b ∷ (bs ++ piece)) ≡ without_front piece
    go true none rest = rest none
    go false none rest = absurd cc

-- after a byte that counts
pub goes_on : (put piece : Bytes) (c : ℕ) (cs : Bytes) → without_front put ≡ c ∷ cs → without_front (put ++ piece) ≡ (c ∷ cs) ++ piece
goes_on [] piece c cs some = absurd cc
goes_on (b ∷ bs) piece c cs some = go (is_margin b) some (goes_on bs piece c cs)
  where
    go : (m : Bool) → (if m then without_front bs else b ∷ bs) ≡ c ∷ cs → (without_front bs ≡ c ∷ cs → without_front (bs ++ piece) ≡ (c ∷ cs) ++ piece)
        → (if m then without_front (bs ++ piece) else b ∷ (bs ++ piece)) ≡ (c ∷ cs) ++ piece
    go true some rest = rest some
    go false some rest = ap (λ (xs : Bytes). xs ++ piece) some

pub first_counts : (put : Bytes) (c : ℕ) (cs : Bytes) → without_front put ≡ c ∷ cs → is_margin c ≡ false
first_counts [] c cs some = absurd cc
first_counts (b ∷ bs) c cs some = go (is_margin b) refl some (first_counts bs c cs)
  where
    go : (m : Bool) → is_margin b ≡ m → (if m then without_front bs else b ∷ bs) ≡ c ∷ cs → (without_front bs ≡ c ∷ cs → is_margin c ≡ false) → is_margin c ≡ false
    go true is some rest = rest some
    go false is some rest = cc

-- ---- the last byte that counts

in_front_of_some : (b : ℕ) (bytes : Bytes) → bytes ≢ [] → in_front b bytes ≡ b ∷ bytes
in_front_of_some b [] some = absurd (some refl)
in_front_of_some b (c ∷ cs) some = refl

-- of blanks nothing counts
pub of_blanks : (blanks : Bytes) → list_all is_margin blanks ≡ true → without_back blanks ≡ []
of_blanks [] all = refl
of_blanks (b ∷ bs) all = go (is_margin b) refl all (of_blanks bs)
  where
    go : (m : Bool) → is_margin b ≡ m → (m && list_all is_margin bs) ≡ true → (list_all is_margin bs ≡ true → without_back bs ≡ []) → in_front b (without_back bs) ≡ []
    go true is all rest = rw (rest all, is) refl
    go false is all rest = absurd cc

-- blanks at the end don't count
pub before_blanks : (text blanks : Bytes) → list_all is_margin blanks ≡ true → without_back (text ++ blanks) ≡ without_back text
before_blanks [] blanks all = of_blanks blanks all
before_blanks (b ∷ bs) blanks all = ap (in_front b) (before_blanks bs blanks all)

-- all counts before a byte that does
pub before_some : (text piece : Bytes) → without_back piece ≢ [] → without_back (text ++ piece) ≡ text ++ without_back piece
before_some [] piece some = refl
before_some (b ∷ bs) piece some =
    ap (in_front b) (before_some bs piece some) ∙ in_front_of_some b (bs ++ without_back piece) (not_empty bs)
  where
    not_empty : (front : Bytes) → front ++ without_back piece ≢ []
    not_empty [] none = some none
    not_empty (c ∷ cs) none = absurd cc

-- what doesn't count at the end is blanks
pub record Cut (bytes : Bytes) : Type 0 where
  pub blanks : Bytes
  pub all : list_all is_margin blanks ≡ true
  pub is : bytes ≡ without_back bytes ++ blanks

pub cut_back : (bytes : Bytes) → Cut bytes
cut_back [] = record { blanks = []; all = refl; is = refl }
cut_back (b ∷ bs) = go (without_back bs) refl (is_margin b) refl (cut_back bs)
  where
    go : (counted : Bytes) → without_back bs ≡ counted → (m : Bool) → is_margin b ≡ m → Cut bs → Cut (b ∷ bs)
    go [] none true is rest = record {
      blanks = b ∷ rest.blanks;
      all = rw is rest.all;
      is = rw (none, is) (ap (λ (xs : Bytes). b ∷ xs) (rest.is ∙ ap (λ (xs : Bytes). xs ++ rest.blanks) none));
    }
    go [] none false is rest = record {
      blanks = rest.blanks;
      all = rest.all;
      is = rw (none, is) (ap (λ (xs : Bytes). b ∷ xs) (rest.is ∙ ap (λ (xs : Bytes). xs ++ rest.blanks) none));
    }
    go (c ∷ cs) some m is rest = record {
      blanks = rest.blanks;
      all = rest.all;
      is = rw some (ap (λ (xs : Bytes). b ∷ xs) (rest.is ∙ ap (λ (xs : Bytes). xs ++ rest.blanks) some));
    }

-- a line that goes on has no less that counts
pub no_less : (text piece : Bytes) → length (without_back text) ≤ length (without_back (text ++ piece))
no_less [] piece = omega arith
no_less (b ∷ bs) piece = go (without_back bs) (without_back (bs ++ piece)) (is_margin b) refl (no_less bs piece)
  where
    go : (xs ys : Bytes) (m : Bool) → is_margin b ≡ m → length xs ≤ length ys → length (in_front b xs) ≤ length (in_front b ys)
    go [] [] m is less = omega arith
    go [] (y ∷ ys) true is less = rw is (omega arith)
    go [] (y ∷ ys) false is less = rw is (omega arith)
    go (x ∷ xs) [] m is less = absurd (omega (arith, less))
    go (x ∷ xs) (y ∷ ys) m is less = omega (arith, less)

-- a line of which something counts is a comment by its first byte
pub same_start : (bytes : Bytes) → without_back bytes ≢ [] → is_nothing (without_back bytes) ≡ is_nothing bytes
same_start [] some = refl
same_start (b ∷ bs) some = go (without_back bs) (is_margin b) refl some
  where
    go : (xs : Bytes) (m : Bool) → is_margin b ≡ m → in_front b xs ≢ [] → is_nothing (in_front b xs) ≡ is_nothing (b ∷ bs)
    go [] true is some = absurd (some (rw is refl))
    go [] false is some = rw is refl
    go (x ∷ xs) m is some = refl
