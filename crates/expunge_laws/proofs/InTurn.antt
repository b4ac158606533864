-- Operations are replaced one after another, and a copy or a rename changes nothing but what it moves and what is in
-- its way.
use Rattle.std.proofs.Common.{◌≡◌, Bool, true, false, cond, not, List, [], ◌∷◌, ◌++◌, refl, sym, ap, ◌∙◌, append-nil, append_assoc, true≢false, Option, Some, None, is_some, Result, Ok, Err}
use Rattle.std.specs.Prelude.{◌||◌}
use Rattle.std.specs.Option.{option_or}
use Rattle.plain_model.specs.declared.operation.Entry.{Entry}
use Rattle.plain_model.specs.declared.operation.FileOp.{FileOp}
use Rattle.plain_model.specs.declared.operation.FileOp.TheVariants.{Copy, Rename}
use Rattle.plain_model.specs.Paths.{Bytes, is_at_or_below, is_in_the_way}
use Rattle.plain_model.specs.Trees.{Refusal, Tree, apply, apply_all, at, cleared_for, has, has_long_path, moved, placed, put_all, subtree, within_paths, without}
use Rattle.plain_model.specs.Trees.Refusal.{PathBytes}
use Rattle.history_laws.proofs.TreeLaws.{at_where}
use Rattle.expunge_laws.specs.Replaced.{replaced, replaced_all}
use Rattle.history_laws.proofs.TreeMaps.{absent, at_put_all, within_ok, some_second}
use Rattle.expunge_laws.proofs.TreesLeft.{both_apply}

-- ---- one after another

pub in_turn : (matched : Bytes → Bool) (ops : List FileOp) (op : FileOp) (old before after : Tree) → apply_all ops old ≡ Ok before → apply op before ≡ Ok after → replaced_all matched (ops ++ op ∷ []) old ≡ replaced_all matched ops old ++ replaced matched op before after
in_turn matched [] op old before after h k =
    let is : old ≡ before = cc in
    ap (λ (r : Result Tree Refusal). elim r [ Ok new ↦ replaced matched op old new ++ [] | Err why ↦ [] ]) (ap (apply op) is ∙ k)
    ∙ append-nil (replaced matched op old after)
    ∙ ap (λ (t : Tree). replaced matched op t after) is
in_turn matched (first ∷ ops) op old before after h k =
    let m = both_apply first ops old before h in
    ap (λ (r : Result Tree Refusal). elim r [ Ok new ↦ replaced matched first old new ++ replaced_all matched (ops ++ op ∷ []) new | Err why ↦ [] ]) m.1
    ∙ ap (λ (l : List FileOp). replaced matched first old m.0 ++ l) (in_turn matched ops op m.0 before after m.2 k)
    ∙ sym (append_assoc (replaced matched first old m.0) (replaced_all matched ops m.0) (replaced matched op before after))
    ∙ sym (ap (λ (r : Result Tree Refusal). elim r [ Ok new ↦ replaced matched first old new ++ replaced_all matched ops new | Err why ↦ [] ] ++ replaced matched op before after) m.1)

-- ---- what a copy or a rename changes

placed_is : (source target : Bytes) (taken base new : Tree) → placed source target taken base ≡ Ok new → put_all (moved source target taken) (cleared_for target base) ≡ new
placed_is source target [] base new h = absurd cc
placed_is source target (e ∷ taken) base new h = go (has_long_path (moved source target (e ∷ taken))) h
  where
    go : (b : Bool) → cond b (Err PathBytes) (within_paths (put_all (moved source target (e ∷ taken)) (cleared_for target base))) ≡ Ok new → put_all (moved source target (e ∷ taken)) (cleared_for target base) ≡ new
    go true h = absurd cc
    go false h = (within_ok (put_all (moved source target (e ∷ taken)) (cleared_for target base)) new h).0

-- what is at a path afterwards: what was moved there, else what was, if it wasn't in the way and isn't gone
abbrev IsAfter : Tree → Tree → Tree → Bytes → Bool → Bool → Type 0
IsAfter put_in old new q way gone = at new q ≡ option_or (at put_in q) (cond (not way) (cond (not gone) (at old q) None) None)

after_placed : (source target : Bytes) (taken base old new : Tree) (q : Bytes) (gone : Bool) → placed source target taken base ≡ Ok new → at base q ≡ cond (not gone) (at old q) None → IsAfter (moved source target taken) old new q (is_in_the_way target q) gone
after_placed source target taken base old new q gone h k =
    ap (λ (t : Tree). at t q) (sym (placed_is source target taken base new h))
    ∙ at_put_all (moved source target taken) (cleared_for target base) q
    ∙ ap (option_or (at (moved source target taken) q)) (at_where (λ z. not (is_in_the_way target z)) q base ∙ ap (λ (o : Option Entry). cond (not (is_in_the_way target q)) o None) k)

-- a path that goes was in the way, or is taken
what_goes : (put_in old new : Tree) (q : Bytes) (way gone : Bool) → IsAfter put_in old new q way gone → has old q ≡ true → has new q ≡ false → way || gone ≡ true
what_goes put_in old new q true gone s h k = refl
what_goes put_in old new q false true s h k = refl
what_goes put_in old new q false false s h k = absurd (true≢false (sym (ap is_some s ∙ some_second (at put_in q) (at old q) h) ∙ k))

-- where nothing is put, what is there is as it was
what_comes : (put_in old new : Tree) (q : Bytes) (way gone : Bool) → IsAfter put_in old new q way gone → has put_in q ≡ false → has new q ≡ true → at new q ≡ at old q
what_comes put_in old new q way gone s h k = go way gone (s ∙ ap (λ (o : Option Entry). option_or o (cond (not way) (cond (not gone) (at old q) None) None)) (absent (at put_in q) h))
  where
    go : (w g : Bool) → at new q ≡ option_or None (cond (not w) (cond (not g) (at old q) None) None) → at new q ≡ at old q
    go false false x = x
    go false true x = absurd (true≢false (sym k ∙ ap is_some x))
    go true g x = absurd (true≢false (sym k ∙ ap is_some x))

-- what is put is there
what_is_put : (put_in old new : Tree) (q : Bytes) (way gone : Bool) → IsAfter put_in old new q way gone → has put_in q ≡ true → at new q ≡ at put_in q
what_is_put put_in old new q way gone s h = s ∙ go (at put_in q) h
  where
    go : (o : Option Entry) → is_some o ≡ true → option_or o (cond (not way) (cond (not gone) (at old q) None) None) ≡ o
    go (Some x) h = refl
    go None h = absurd (true≢false (sym h))

module _ (source target : Bytes) (old new : Tree) where
  abbrev put_in : Tree
  put_in = moved source target (subtree source old)

  copy_is : apply (Copy source target) old ≡ Ok new → (q : Bytes) → IsAfter put_in old new q (is_in_the_way target q) false
  copy_is h q = after_placed source target (subtree source old) old old new q false h refl

  rename_is : apply (Rename source target) old ≡ Ok new → (q : Bytes) → IsAfter put_in old new q (is_in_the_way target q) (is_at_or_below source q)
  rename_is h q = after_placed source target (subtree source old) (without source old) old new q (is_at_or_below source q) h (at_where (λ z. not (is_at_or_below source z)) q old)

  or_none : (b : Bool) → b || false ≡ true → b ≡ true
  or_none true h = refl
  or_none false h = h

  pub copy_goes : apply (Copy source target) old ≡ Ok new → (q : Bytes) → has old q ≡ true → has new q ≡ false → is_in_the_way target q ≡ true
  copy_goes h q x y = or_none (is_in_the_way target q) (what_goes put_in old new q (is_in_the_way target q) false (copy_is h q) x y)

  pub rename_goes : apply (Rename source target) old ≡ Ok new → (q : Bytes) → has old q ≡ true → has new q ≡ false → is_in_the_way target q || is_at_or_below source q ≡ true
  rename_goes h q x y = what_goes put_in old new q (is_in_the_way target q) (is_at_or_below source q) (rename_is h q) x y

  pub copy_comes : apply (Copy source target) old ≡ Ok new → (q : Bytes) → has put_in q ≡ false → has new q ≡ true → at new q ≡ at old q
  copy_comes h q x y = what_comes put_in old new q (is_in_the_way target q) false (copy_is h q) x y

  pub rename_comes : apply (Rename source target) old ≡ Ok new → (q : Bytes) → has put_in q ≡ false → has new q ≡ true → at new q ≡ at old q
  rename_comes h q x y = what_comes put_in old new q (is_in_the_way target q) (is_at_or_below source q) (rename_is h q) x y

  pub copy_puts : apply (Copy source target) old ≡ Ok new → (q : Bytes) → has put_in q ≡ true → at new q ≡ at put_in q
  copy_puts h q x = what_is_put put_in old new q (is_in_the_way target q) false (copy_is h q) x

  pub rename_puts : apply (Rename source target) old ≡ Ok new → (q : Bytes) → has put_in q ≡ true → at new q ≡ at put_in q
  rename_puts h q x = what_is_put put_in old new q (is_in_the_way target q) (is_at_or_below source q) (rename_is h q) x
