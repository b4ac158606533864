-- A commit's tree is its line of first parents, folded from the empty tree.
use Rattle.std.proofs.Common.{◌≡◌, ℕ, true, false, List, [], ◌∷◌, ◌++◌, refl, sym, ap, ◌∙◌, inl, inr, IsTrue, Option, Some, None, Result, Ok, Err, true≢false, append-nil}
use Rattle.std.specs.Prelude.{◌||◌, ◌==◌}
use Rattle.std.specs.List.{AllByRecursion}
use Rattle.std.proofs.lemmas.Bool.{cases_Bool, cond-true, cond-false}
use Rattle.std.proofs.lemmas.List.Concat.{flat_map-append}
use Rattle.plain_model.specs.declared.operation.FileOp.{FileOp}
use Rattle.plain_model.specs.Trees.{Tree, Refusal, apply, apply_all, ◌>>=◌}
use Rattle.plain_model.specs.Histories.{Node, Past, if_ok, folded, begun, tree_in, knows, IsSoundPast, IsLinkedPast}
use Rattle.history_laws.specs.FirstParents.{line_from, first_line, ops_along}

-- one list of operations after another
pub apply_more : (a b : List FileOp) (t : Tree) → apply_all (a ++ b) t ≡ (apply_all a t >>= apply_all b)
apply_more [] b t = refl
apply_more (op ∷ a) b t = go (apply op t) (λ u. apply_more a b u)
  where
    go : (r : Result Tree Refusal) → ((u : Tree) → apply_all (a ++ b) u ≡ (apply_all a u >>= apply_all b)) → (r >>= apply_all (a ++ b)) ≡ ((r >>= apply_all a) >>= apply_all b)
    go (Ok u) f = f u
    go (Err e) f = refl

-- the same, from a tree that may not be there
pub folded_more : (a b : List FileOp) (o : Option Tree) → folded (a ++ b) o ≡ folded b (folded a o)
folded_more a b None = refl
folded_more a b (Some t) = ap if_ok (apply_more a b t) ∙ go (apply_all a t)
  where
    go : (r : Result Tree Refusal) → if_ok (r >>= apply_all b) ≡ folded b (if_ok r)
    go (Ok u) = refl
    go (Err e) = refl

-- the operations of one more commit
pub along_more : (line : List Node) (n : Node) → ops_along (line ++ n ∷ []) ≡ ops_along line ++ n.ops
along_more line n = flat_map-append (λ (x : Node). x.ops) line (n ∷ []) ∙ ap (λ (ops : List FileOp). ops_along line ++ ops) (append-nil n.ops)

-- the first of some commits is known, if there is one
abbrev pub FirstKnown : Past → List ℕ → Type 0
FirstKnown older [] = Unit {0}
FirstKnown older (p ∷ ps) = knows older p ≡ true

-- where all parents are known, the first one is
pub first_known : (older : Past) (ps : List ℕ) → AllByRecursion (λ p. IsTrue (knows older p)) ps → FirstKnown older ps
first_known older [] a = tt
first_known older (p ∷ ps) a = a.0

-- what is known and isn't the last commit was known before
pub known_before : (n : Node) (older : Past) (p : ℕ) → (n.id == p) ≡ false → knows (n ∷ older) p ≡ true → knows older p ≡ true
known_before n older p e h = sym (ap (λ b. b || knows older p) e) ∙ h

-- what a commit begins with is the line of its first parent, folded
begun_line : (older : Past) → IsLinkedPast older → (ps : List ℕ) → FirstKnown older ps → begun (tree_in older) ps ≡ folded (ops_along (line_from older ps)) (Some [])
begun_line [] s [] k = refl
begun_line [] s (p ∷ ps) k = absurd (true≢false (sym k))
begun_line (n ∷ older) s [] k = refl
begun_line (n ∷ older) s (p ∷ ps) k =
    let below = line_from older n.parents in
    let fold = λ (line : List Node). folded (ops_along line) (Some []) in
    elim (cases_Bool (n.id == p)) [
      | inl same ↦
          cond-true (n.id == p) (folded n.ops (begun (tree_in older) n.parents)) (tree_in older p) same
          ∙ ap (folded n.ops) (begun_line older s.2 n.parents (first_known older n.parents s.1))
          ∙ sym (folded_more (ops_along below) n.ops (Some []))
          ∙ sym (ap (λ (ops : List FileOp). folded ops (Some [])) (along_more below n))
          ∙ sym (ap fold (cond-true (n.id == p) (below ++ n ∷ []) (line_from older (p ∷ ps)) same))
      | inr other ↦
          cond-false (n.id == p) (folded n.ops (begun (tree_in older) n.parents)) (tree_in older p) other
          ∙ begun_line older s.2 (p ∷ ps) (known_before n older p other k)
          ∙ sym (ap fold (cond-false (n.id == p) (below ++ n ∷ []) (line_from older (p ∷ ps)) other))
    ]

-- the tree of a known commit is its line of first parents, folded from the empty tree
pub tree_of_line : (older : Past) → IsLinkedPast older → (c : ℕ) → IsTrue (knows older c) → tree_in older c ≡ folded (ops_along (first_line older c)) (Some [])
tree_of_line older s c k = begun_line older s (c ∷ []) k

-- where each commit has a tree, its parents are earlier
pub linked : (older : Past) → IsSoundPast older → IsLinkedPast older
linked [] s = tt
linked (n ∷ older) s = (s.0, s.1, linked older s.3)
