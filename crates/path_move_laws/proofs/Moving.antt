-- Mapped operations make the image of the tree after them of the image of the tree before them.
use Rattle.std.proofs.Common.{◌≡◌, ℕ, ◌+◌, ◌≤◌, Bool, true, false, cond, not, List, [], ◌∷◌, ◌++◌, length, refl, sym, ap, subst, ◌∙◌, inl, inr, arith, true≢false, le_trans, Option, Some, None, option_map, Result, Ok, Err}
use Rattle.std.specs.Prelude.{◌&&◌, IfOk}
use Rattle.std.proofs.lemmas.Bool.{and_parts, cases_Bool}
use Rattle.plain_model.specs.declared.fault.Fault.{Fault}
use Rattle.plain_model.specs.declared.fault.Fault.TheVariants as fault
use Rattle.plain_model.specs.declared.fault.Which.TheVariants as limit
use Rattle.plain_model.specs.declared.limit.TheConstants.{MAX_PATHS, MAX_PATH_BYTES}
use Rattle.plain_model.specs.declared.operation.FileOp.{FileOp}
use Rattle.plain_model.specs.declared.operation.FileOp.TheVariants.{Modify, Delete, Copy, Rename, DeleteAll}
use Rattle.plain_model.specs.Paths.{Bytes, is_at_or_below}
use Rattle.plain_model.specs.Trees.{IsTree, Refusal, Tree, apply, apply_all, cleared_for, has_long_path, moved, placed, put, put_all, subtree, within_paths, without, ◌>>=◌}
use Rattle.plain_model.specs.Trees.Refusal.{PathBytes}
use Rattle.history_laws.proofs.LineLaws.{apply_more}
use Rattle.history_laws.proofs.TreeLaws.{apply_tree}
use Rattle.history_laws.proofs.TreeMaps.{length_where, within_ok}
use Rattle.expunge_laws.proofs.TreesLeft.{both_apply}
use Rattle.path_move_laws.specs.Apart.{MayMove}
use Rattle.path_move_laws.specs.Difference.{are_same, difference}
use Rattle.path_move_laws.specs.Images.{collision, has_long_image, image}
use Rattle.path_move_laws.specs.MovedOps.{first_fault, image_fault, leads_to, mapped_op, moved_all, moved_op, names_paths}
use Rattle.path_move_laws.proofs.Collisions.{none_collides}
use Rattle.path_move_laws.proofs.Differing.{difference_leads, same_is}
use Rattle.path_move_laws.proofs.Imaged.{image_length, image_tree}

-- ---- what an operation does

-- an operation alone
pub alone : (o : Result Tree Refusal) → (o >>= apply_all []) ≡ o
alone (Ok t) = refl
alone (Err e) = refl

pub leads : (op : FileOp) (old new : Tree) → leads_to op old new ≡ true → apply op old ≡ Ok new
leads op old new h = go (apply op old) refl h
  where
    go : (r : Result Tree Refusal) → apply op old ≡ r → elim r [ Ok made ↦ are_same made new | Err why ↦ false ] ≡ true → apply op old ≡ Ok new
    go (Ok made) x y = x ∙ ap (λ (s : Tree). Ok s) (same_is made new y)
    go (Err why) x y = absurd (true≢false (sym y))

pub still_tree : (op : FileOp) (old new : Tree) → IsTree old → apply op old ≡ Ok new → IsTree new
still_tree op old new t h = subst (λ (r : Result Tree Refusal). IfOk r IsTree) h (apply_tree op old t)

placed_few : (source target : Bytes) (taken base new : Tree) → placed source target taken base ≡ Ok new → length new ≤ MAX_PATHS
placed_few source target [] base new h = absurd cc
placed_few source target (e ∷ taken) base new h = go (has_long_path (moved source target (e ∷ taken))) h
  where
    go : (b : Bool) → cond b (Err PathBytes) (within_paths (put_all (moved source target (e ∷ taken)) (cleared_for target base))) ≡ Ok new → length new ≤ MAX_PATHS
    go true y = absurd cc
    go false y = let is = within_ok (put_all (moved source target (e ∷ taken)) (cleared_for target base)) new y in subst (λ (r : Tree). length r ≤ MAX_PATHS) is.0 is.1

-- no more paths than are allowed
pub still_few : (op : FileOp) (old new : Tree) → length old ≤ MAX_PATHS → apply op old ≡ Ok new → length new ≤ MAX_PATHS
still_few (Modify mode content path) old new few h =
    let is = within_ok (put path (record { mode = mode; content = content }) (cleared_for path old)) new h in
    subst (λ (r : Tree). length r ≤ MAX_PATHS) is.0 is.1
still_few (Delete path) old new few h =
    let is : without path old ≡ new = cc in
    subst (λ (r : Tree). length r ≤ MAX_PATHS) is (le_trans (length_where (λ q. not (is_at_or_below path q)) old) few)
still_few (Copy source target) old new few h = placed_few source target (subtree source old) old new h
still_few (Rename source target) old new few h = placed_few source target (subtree source old) (without source old) new h
still_few DeleteAll old new few h = let is : [] ≡ new = cc in subst (λ (r : Tree). length r ≤ MAX_PATHS) is (omega arith)

-- ---- one operation

module _ (f : Bytes → Bytes) where
  pub none_moves : MayMove f []
  none_moves = record {
    form = record { in_order = tt; apart = λ p q a b. absurd (true≢false (sym a)) };
    few = omega arith;
    apart = record { once = λ p q a b same. absurd (true≢false (sym a)); apart = λ p q a b. absurd (true≢false (sym a)) };
    short = refl;
  }

  -- the tree after an operation without a fault
  pub next_moves : (op : FileOp) (mark number : ℕ) (old new : Tree) → MayMove f old → apply op old ≡ Ok new → image_fault f mark number new ≡ None → MayMove f new
  next_moves op mark number old new m h none = go (has_long_image f new) refl none
    where
      go : (b : Bool) → has_long_image f new ≡ b → cond b (Some (fault.Limit limit.PathBytes MAX_PATH_BYTES)) (option_map (λ path. fault.PathCollision mark number path) (collision f new)) ≡ None → MayMove f new
      go true x y = absurd cc
      go false x y = record {
        form = still_tree op old new m.form h;
        few = still_few op old new m.few h;
        apart = none_collides f new (no_path (collision f new) y);
        short = x;
      }
        where
          no_path : (o : Option Bytes) → option_map (λ path. fault.PathCollision mark number path) o ≡ None → o ≡ None
          no_path None k = refl
          no_path (Some path) k = absurd cc

  pub moved_step : (op : FileOp) (old new : Tree) → MayMove f old → MayMove f new → apply_all (moved_op f op old new) (image f old) ≡ Ok (image f new)
  moved_step op old new m n =
      elim (cases_Bool (names_paths (mapped_op f op) && leads_to (mapped_op f op) (image f old) (image f new))) [
        | inl right ↦
            let parts = and_parts (names_paths (mapped_op f op)) (leads_to (mapped_op f op) (image f old) (image f new)) right in
            ap (λ b. apply_all (cond b (mapped_op f op ∷ []) (difference (image f old) (image f new))) (image f old)) right
            ∙ alone (apply (mapped_op f op) (image f old))
            ∙ leads (mapped_op f op) (image f old) (image f new) parts.1
        | inr wrong ↦
            ap (λ b. apply_all (cond b (mapped_op f op ∷ []) (difference (image f old) (image f new))) (image f old)) wrong
            ∙ difference_leads (image f old) (image f new) (image_tree f old m.apart) (image_tree f new n.apart)
            (subst (λ k. k ≤ MAX_PATHS) (sym (image_length f new n.form.in_order n.apart)) n.few)
      ]

  -- ---- the operations of a commit

  -- the first of several operations has no fault, and the others have none
  pub no_fault : (op : FileOp) (ops : List FileOp) (mark number : ℕ) (old new : Tree) → apply op old ≡ Ok new → first_fault f mark number (op ∷ ops) old ≡ None
      → (image_fault f mark number new ≡ None) × (first_fault f mark (number + 1) ops new ≡ None)
  no_fault op ops mark number old new h k =
      go (image_fault f mark number new) refl (sym (ap (λ (r : Result Tree Refusal). elim r [ Ok x ↦ elim (image_fault f mark number x) [ Some why ↦ Some why | None ↦ first_fault f mark (number + 1) ops x ] | Err why ↦ None ]) h) ∙ k)
    where
      go : (o : Option Fault) → image_fault f mark number new ≡ o → ◌≡◌ {A = Option Fault} (elim o [ Some why ↦ Some why | None ↦ first_fault f mark (number + 1) ops new ]) None
          → (image_fault f mark number new ≡ None) × (first_fault f mark (number + 1) ops new ≡ None)
      go None x y = (x, y)
      go (Some why) x y = absurd cc

  pub moved_steps : (ops : List FileOp) (mark number : ℕ) (old new : Tree) → MayMove f old → apply_all ops old ≡ Ok new → first_fault f mark number ops old ≡ None
      → MayMove f new × (apply_all (moved_all f ops old) (image f old) ≡ Ok (image f new))
  moved_steps [] mark number old new m h k =
      let is : old ≡ new = cc in (subst (λ (t : Tree). MayMove f t) is m, ap (λ (t : Tree). Ok (image f t)) is)
  moved_steps (op ∷ ops) mark number old new m h k =
      let b = both_apply op ops old new h in
      let n = no_fault op ops mark number old b.0 b.1 k in
      let mid = next_moves op mark number old b.0 m b.1 n.0 in
      let rest = moved_steps ops mark (number + 1) b.0 new mid b.2 n.1 in (
        rest.0,
        ap (λ (r : Result Tree Refusal). apply_all (elim r [ Ok x ↦ moved_op f op old x ++ moved_all f ops x | Err why ↦ [] ]) (image f old)) b.1
            ∙ apply_more (moved_op f op old b.0) (moved_all f ops b.0) (image f old)
            ∙ ap (λ (r : Result Tree Refusal). r >>= apply_all (moved_all f ops b.0)) (moved_step op old b.0 m mid)
            ∙ rest.1,
      )
