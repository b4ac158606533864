-- A path doesn't end with a slash.
use Rattle.std.proofs.Common.{◌≡◌, ℕ, ◌==◌, ◌≤◌, ◌<◌, Bool, true, false, cond, not, List, [], ◌∷◌, length, refl, sym, ap, subst, ◌∙◌, true≢false, nat_lt, arith}
use Rattle.std.specs.Prelude.{Result, Ok, Err, IfOk, OnOk}
use Rattle.std.specs.List.{list_any, onto_first}
use Rattle.std.proofs.lemmas.Bool.{or_right}
use Rattle.std.proofs.lemmas.Bool.Decides.{nat_tests}
use Rattle.plain_model.specs.declared.limit.TheConstants.{MAX_PATHS}
use Rattle.plain_model.specs.declared.operation.Entry.{Entry}
use Rattle.plain_model.specs.Paths.{Bytes, IsPath, is_empty, components, is_at_or_below, is_in_the_way}
use Rattle.plain_model.specs.Trees.{Tree, Refusal, IsTree, apply, meaning, within_paths, Change, change, cleared_for, put, without, subtree}
use Rattle.plain_model.specs.Trees.Change.{Put, Remove, CopyTo, MoveTo, Clear}
use Rattle.plain_model.specs.Trees.Refusal.{Paths}
use Rattle.plain_model.specs.declared.operation.FileOp.{FileOp}
use Rattle.path_tree.specs.Answers.{Answer, IsAnswer}
use Rattle.history_laws.specs.SoundTrees.{AllPaths, IsSound}
use Rattle.path_tree.specs.Folders.{prefixed}
use Rattle.path_tree.specs.Setting.{ends_with_slash}
use Rattle.history_laws.proofs.JoinedPaths.{rules_of}
use Rattle.history_laws.proofs.TreeMaps.{few_within, length_where, placed_small, length_put}

-- the members after the first
abbrev later : List Bytes → List Bytes
later [] = []
later (c ∷ cs) = cs

later_any : (cs : List Bytes) → list_any is_empty (later cs) ≡ true → list_any is_empty cs ≡ true
later_any [] h = h
later_any (c ∷ cs) h = or_right (is_empty c) (list_any is_empty cs) h

later_onto : (b : ℕ) (cs : List Bytes) → later (onto_first b cs) ≡ later cs
later_onto b [] = refl
later_onto b (c ∷ cs) = refl

empty_last : (p : Bytes) → ends_with_slash p ≡ true → list_any is_empty (later (components p)) ≡ true
empty_last [] h = absurd (true≢false (sym h))
empty_last (b ∷ []) h = ap (λ t. list_any is_empty (later (cond t ([] ∷ [] ∷ []) (onto_first b ([] ∷ []))))) h
empty_last (b ∷ c ∷ p) h = by (b == 47) (empty_last (c ∷ p) h)
  where
    by : (t : Bool) → list_any is_empty (later (components (c ∷ p))) ≡ true
        → list_any is_empty (later (cond t ([] ∷ components (c ∷ p)) (onto_first b (components (c ∷ p))))) ≡ true
    by true again = later_any (components (c ∷ p)) again
    by false again = ap (λ (l : List Bytes). list_any is_empty l) (later_onto b (components (c ∷ p))) ∙ again

pub no_slash_at_end : (p : Bytes) → IsPath p → ends_with_slash p ≡ false
no_slash_at_end p h = by (ends_with_slash p) refl
  where
    by : (t : Bool) → ends_with_slash p ≡ t → t ≡ false
    by true e = absurd (true≢false (sym (later_any (components p) (empty_last p e)) ∙ (rules_of p h).slashes))
    by false e = refl

pub prefixed_nothing : (t : Tree) → prefixed [] t ≡ t
prefixed_nothing [] = refl
prefixed_nothing (e ∷ t) = ap (λ (s : Tree). (e.0, e.1) ∷ s) (prefixed_nothing t)

-- ---- the limit on paths is kept

pub change_few : (c : Change Entry) (old new : Tree) → change c old ≡ Ok new → length old ≤ MAX_PATHS → length new ≤ MAX_PATHS
change_few (Put entry path) old new h few = few_within (put path entry (cleared_for path old)) new h
change_few (Remove path) old new h few =
    let is : new ≡ without path old = cc in
    rw is (few_of (length_where (λ q. not (is_at_or_below path q)) old) few)
  where
    few_of : {a b : ℕ} → a ≤ b → b ≤ MAX_PATHS → a ≤ MAX_PATHS
    few_of h k = omega (arith, h, k)
change_few (CopyTo s t) old new h few = placed_small s t (subtree s old) old new h
change_few (MoveTo s t) old new h few = placed_small s t (subtree s old) (without s old) new h
change_few Clear old new h few =
    let is : new ≡ [] = cc in
    rw is (omega arith)

pub put_within : (p : Bytes) (x : Entry) (old : Tree) → length old < MAX_PATHS → within_paths (put p x (cleared_for p old)) ≡ Ok (put p x (cleared_for p old))
put_within p x old room = by (nat_lt MAX_PATHS (length (put p x (cleared_for p old)))) refl
  where
    by : (t : Bool) → nat_lt MAX_PATHS (length (put p x (cleared_for p old))) ≡ t
        → cond t (Err Paths) (Ok (put p x (cleared_for p old))) ≡ Ok (put p x (cleared_for p old))
    by true e = absurd (grind (arith, nat_tests, e, room, length_put p x (cleared_for p old), length_where (λ q. not (is_in_the_way p q)) old))
    by false e = refl

-- ---- what always holds of a tree holds after an operation

pub sound_after : (op : FileOp) (old new : Tree) (r : Answer) → IsAnswer (apply op old) old r new → OnOk r (AllPaths old → AllPaths new)
    → IfOk (apply op old) IsTree → IsSound old → IsSound new
sound_after op old new (Ok v) answer paths tree sound = record {
  form = subst (λ (x : Result Tree Refusal). IfOk x IsTree) answer.done tree;
  paths = paths sound.paths;
  few = change_few (meaning op) old new answer.done sound.few;
}
sound_after op old new (Err e) answer paths tree sound = subst (λ (t : Tree). IsSound t) (sym answer.unchanged) sound
