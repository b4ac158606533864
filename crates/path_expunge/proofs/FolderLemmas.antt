-- The folders of a path are what is before its slashes.
use Rattle.std.proofs.Common.{◌≡◌, ◌∙◌, ℕ, ◌+◌, ◌<◌, true, inl, inr, List, [], ◌∷◌, length, take, get_or, refl, sym, ap, subst, arith, eqb-true, true≢false}
use Rattle.std.specs.Prelude.{◌||◌, ◌==◌, bytes_eq}
use Rattle.std.proofs.lemmas.Bool.{and_parts, cases_eq, or_cases, or_left, or_right}
use Rattle.std.proofs.lemmas.Slice.Eq.{bytes_eq-Decides}
use Rattle.plain_model.specs.Paths.{Bytes, is_below}
use Rattle.path_expunge.specs.Apart.{IsWhole, is_in}
use Rattle.path_expunge.specs.declared.sides.Side.{Side}

-- where a folder ends in the path
pub record EndsAt (folder path : Bytes) : Type 0 where
  pub low : length folder < length path
  pub front : take (length folder) path ≡ folder
  pub slash : get_or path (length folder) 0 ≡ 47

pub folder_ends : (folder path : Bytes) → is_below folder path ≡ true → EndsAt folder path
folder_ends [] [] h = absurd (true≢false (sym h))
folder_ends [] (c ∷ path) h = record { low = omega arith; front = refl; slash = eqb-true c 47 h }
folder_ends (b ∷ folder) [] h = absurd (true≢false (sym h))
folder_ends (b ∷ folder) (c ∷ path) h =
    let parts = and_parts (b == c) (is_below folder path) h in
    let rest = folder_ends folder path parts.1 in
    let low = rest.low in
    record {
      low = omega arith;
      front = ap (λ x. x ∷ take (length folder) path) (sym (eqb-true b c parts.0)) ∙ ap (λ (l : Bytes). b ∷ l) rest.front;
      slash = rest.slash;
    }

-- what holds of the folders that end before a place, and of what is before it where it has a slash
pub next_folder : (P : Bytes → Type 0) (path : Bytes) (k : ℕ) → ((folder : Bytes) → length folder < k → is_below folder path ≡ true → P folder) → (get_or path k 0 ≡ 47 → P (take k path)) →
    (folder : Bytes) → length folder < k + 1 → is_below folder path ≡ true → P folder
next_folder P path k before here folder low below = elim (cases_eq (length folder) k) [
  | inl same ↦
      let ends = folder_ends folder path below in
      subst P (ap (λ n. take n path) (sym same) ∙ ends.front) (here (ap (λ n. get_or path n 0) (sym same) ∙ ends.slash))
  | inr other ↦ before folder (omega arith) below
]

-- the folders of one path more
pub whole_with : (side : Side) (own : Bytes) (paths folders : List Bytes) → IsWhole side →
    ((p : Bytes) → is_in p paths ≡ bytes_eq p own || is_in p side.paths) → ((folder : Bytes) → is_below folder own || is_in folder side.folders ≡ true → is_in folder folders ≡ true) →
    (p folder : Bytes) → is_in p paths ≡ true → is_below folder p ≡ true → is_in folder folders ≡ true
whole_with side own paths folders whole added there p folder among below = elim (or_cases (bytes_eq p own) (is_in p side.paths) (sym (added p) ∙ among)) [
  | inl same ↦ there folder (or_left (is_below folder own) (is_in folder side.folders) (ap (is_below folder) (sym ((bytes_eq-Decides p own).0 same)) ∙ below))
  | inr was ↦ there folder (or_right (is_below folder own) (is_in folder side.folders) (whole p folder was below))
]
