-- A tree in two parts, and what is known of an image that was asked for.
use Rattle.std.proofs.Common.{◌≡◌, ◌∙◌, ℕ, zero, suc, ◌+◌, ◌≤◌, ◌<◌, Bool, true, false, cond, [], ◌∷◌, ◌++◌, length, drop, take, get_or, refl, sym, ap, subst, arith, Option, Some, None, Result, Ok, Err}
use Rattle.std.specs.Prelude.{IsErr}
use Rattle.plain_model.specs.declared.operation.Entry.{Entry}
use Rattle.plain_model.specs.Paths.{Bytes}
use Rattle.plain_model.specs.declared.operation.FileOp.TheVariants.{Modify}
use Rattle.plain_model.specs.Trees.{Refusal, Tree, apply, has}
use Rattle.path_move_laws.specs.Images.{image}
use Rattle.path_move_laws.proofs.Imaged.{first_there}
use Rattle.path_move_laws.proofs.OneByOne.{rear_there}

pub parts_at : (k : ℕ) (es : Tree) (e : Bytes × Entry) → k < length es → e ≡ get_or es k e → (es ≡ take k es ++ e ∷ drop (suc k) es) × (take (k + 1) es ≡ take k es ++ e ∷ [])
parts_at k [] e low is = absurd (omega arith)
parts_at zero (x ∷ es) e low is = (ap (λ y. y ∷ es) (sym is), ap (λ y. y ∷ []) (sym is))
parts_at (suc k) (x ∷ es) e low is =
    let rest = parts_at k es e (omega arith) is in
    let more : suc k + 1 ≡ suc (k + 1) = omega arith in
    (ap (λ (l : Tree). x ∷ l) rest.0, ap (λ n. take n (x ∷ es)) more ∙ ap (λ (l : Tree). x ∷ l) rest.1)

pub there_at : (k : ℕ) (es : Tree) (e : Bytes × Entry) → k < length es → e ≡ get_or es k e → has es e.0 ≡ true
there_at k es e low is =
    subst (λ (l : Tree). has l e.0 ≡ true) (sym (parts_at k es e low is).0) (rear_there (take k es) (e ∷ drop (suc k) es) e.0 (first_there e (drop (suc k) es)))

-- no path was found
pub none_found : (o : Option Bytes) (b : Bool) (p : Bytes) → o ≡ cond b (Some p) None → ((x : Bytes) → o ≡ Some x → ⊥) → b ≡ false
none_found o true p is none = absurd (none p is)
none_found o false p is none = refl

-- one was found
pub one_found : (o : Option Bytes) (b : Bool) (p x : Bytes) → o ≡ cond b (Some p) None → o ≡ Some x → (b ≡ true) × (x ≡ p)
one_found o true p x is found = let same : ◌≡◌ {A = Option Bytes} (Some x) (Some p) = sym found ∙ is in (refl, cc)
one_found o false p x is found = let same : ◌≡◌ {A = Option Bytes} (Some x) None = sym found ∙ is in absurd cc

pub few_at : (k : ℕ) (es : Tree) (e : Bytes × Entry) → k < length es → e ≡ get_or es k e → length (take k es ++ e ∷ []) ≤ length es
few_at k [] e low is = absurd (omega arith)
few_at zero (x ∷ es) e low is = omega arith
few_at (suc k) (x ∷ es) e low is = let rest = few_at k es e (omega arith) is in omega arith

pub long_at : (k : ℕ) (es : Tree) → k < length es → length (take k es) ≡ k
long_at k [] low = absurd (omega arith)
long_at zero (x ∷ es) low = refl
long_at (suc k) (x ∷ es) low = ap suc (long_at k es (omega arith))

-- a path that was put into the image, or was refused
module _ (f : Bytes → Bytes) (front : Tree) (e : Bytes × Entry) (its new : Tree) (x : Bytes) (where_to : x ≡ f e.0) (is : its ≡ image f front) where
  pub must_be : (b : Bool) → (b ≡ true → apply (Modify e.1.mode e.1.content x) its ≡ Ok new) → (b ≡ false → IsErr (apply (Modify e.1.mode e.1.content x) its)) → (made : Tree)
      → apply (Modify e.1.mode e.1.content (f e.0)) (image f front) ≡ Ok made → new ≡ made
  must_be true done refused made must =
      let same : ◌≡◌ {A = Result Tree Refusal} (Ok new) (Ok made) = sym (done refl) ∙ (λ i. apply (Modify e.1.mode e.1.content (where_to i)) (is i)) ∙ must in cc
  must_be false done refused made must =
      absurd (not_err (apply (Modify e.1.mode e.1.content x) its) made ((λ i. apply (Modify e.1.mode e.1.content (where_to i)) (is i)) ∙ must) (refused refl))
    where
      not_err : (r : Result Tree Refusal) (t : Tree) → r ≡ Ok t → IsErr r → ⊥
      not_err (Ok u) t h k = absurd cc
      not_err (Err why) t h k = absurd cc

  pub was_put : (b : Bool) → (b ≡ true → apply (Modify e.1.mode e.1.content x) its ≡ Ok new) → (b ≡ false → new ≡ its) → (length new ≡ length its → ⊥)
      → apply (Modify e.1.mode e.1.content (f e.0)) (image f front) ≡ Ok new
  was_put true done same grows = sym (λ i. apply (Modify e.1.mode e.1.content (where_to i)) (is i)) ∙ done refl
  was_put false done same grows = absurd (grows (ap length (same refl)))
