-- What was put at the end of a text leaves its front.
use Rattle.std.proofs.Common.{◌≡◌, ℕ, List, ◌++◌, length, take, drop, ap, sym, ◌∙◌, append_assoc}
use Rattle.std.proofs.lemmas.List.{take-append-drop}
use Rattle.std.proofs.Math.Seq.{take-append_seam, take-length}

pub front_one : (old a : List ℕ) → take (length old) (old ++ a) ≡ old
front_one old a = take-append_seam old a

pub front_two : (old a b : List ℕ) → take (length old) (old ++ a ++ b) ≡ old
front_two old a b = ap (take (length old)) (append_assoc old a b) ∙ take-append_seam old (a ++ b)

pub front_three : (old a b c : List ℕ) → take (length old) (old ++ a ++ b ++ c) ≡ old
front_three old a b c = ap (λ (t : List ℕ). take (length old) (t ++ c)) (append_assoc old a b) ∙ front_two old (a ++ b) c

pub front_four : (old a b c d : List ℕ) → take (length old) (old ++ a ++ b ++ c ++ d) ≡ old
front_four old a b c d = ap (λ (t : List ℕ). take (length old) (t ++ c ++ d)) (append_assoc old a b) ∙ front_three old (a ++ b) c d

pub front_five : (old a b c d e : List ℕ) → take (length old) (old ++ a ++ b ++ c ++ d ++ e) ≡ old
front_five old a b c d e = ap (λ (t : List ℕ). take (length old) (t ++ c ++ d ++ e)) (append_assoc old a b) ∙ front_four old (a ++ b) c d e

-- what leaves a longer front leaves a shorter one
pub front_of_longer : (old a t : List ℕ) → take (length (old ++ a)) t ≡ old ++ a → take (length old) t ≡ old
front_of_longer old a t left =
    ap (take (length old)) (sym (take-append-drop (length (old ++ a)) t)) ∙ ap (λ (u : List ℕ). take (length old) (u ++ drop (length (old ++ a)) t)) left ∙ front_two old a (drop (length (old ++ a)) t)

pub ruleset fronts = (take-length, front_one, front_two, front_three, front_four, front_five, front_of_longer)
