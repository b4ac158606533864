-- What the commands answer, step by step.
use Rattle.std.proofs.Common.{◌≡◌, ◌∙◌, ℕ, ◌≤◌, ◌<◌, Bool, true, false, cond, List, [], ◌∷◌, inl, inr, ◌⊎◌, length, get_or, Option, Some, None, Result, Ok, Err, refl, sym, ap, arith, eq-eqb, true≢false}
use Rattle.std.specs.Prelude.{◌==◌, if◌then◌else◌}
use Rattle.plain_model.specs.declared.fault.Fault.{Fault}
use Rattle.plain_model.specs.declared.fault.Fault.TheVariants as fault
use Rattle.plain_model.specs.declared.id.AnyId.{AnyId}
use Rattle.plain_model.specs.declared.operation.FileOp.{FileOp}
use Rattle.plain_model.specs.declared.raw.RawOp.{RawOp}
use Rattle.plain_model.specs.declared.event.PlainEvent.{PlainEvent}
use Rattle.edit_laws.specs.Passing.{limit_fault}
use Rattle.commit_laws.specs.Rewriting.{rewritten_all}
use Rattle.commit_laws.specs.Selected.{kind_fault, listed, node_of, the_commit}
use Rattle.commit_laws.proofs.Selections.{made_unless}
use Rattle.reparent_laws.specs.Faults.{tree_fault, unless_fault}
use Rattle.reparent_laws.specs.Merge.{merge_of, merge_these, merges, ops_with_parent, unmerge_of, unmerges}
use Rattle.reparent_laws.specs.Operations.{add_of, add_to, op_of, removal_fault, remove_of, removed}
use Rattle.reparent_laws.specs.Reparent.{have_same_first, ops_onto, ordered, reparent_last, reparent_of, reparents}
use Rattle.reparent_laws.specs.WrittenOut.{written_out}
use Rattle.reparent_laws.specs.declared.removal.Removal.{Removal}

-- ---- merge

-- a list of two
pub two_items : (cs : List ℕ) (a b : ℕ) → 2 ≤ length cs → length cs < 3 → a ≡ get_or cs 0 a → b ≡ get_or cs 1 b → cs ≡ a ∷ b ∷ []
two_items [] a b low high p q = absurd (omega arith)
two_items (x ∷ []) a b low high p q = absurd (omega arith)
two_items (x ∷ y ∷ []) a b low high p q = λ i. sym p i ∷ sym q i ∷ []
two_items (x ∷ y ∷ z ∷ cs) a b low high p q = absurd (omega arith)

-- only a root gets an operation more
pub no_root : (ps : List ℕ) (ops : List FileOp) → (length ps == 0) ≡ false → ops_with_parent ps ops ≡ ops
no_root [] ops h = absurd (true≢false h)
no_root (p ∷ ps) ops h = refl

pub merge_two : (events : List PlainEvent) (cs : List ℕ) (low high : ℕ) (after : List PlainEvent) (o : Option Fault) → cs ≡ low ∷ high ∷ [] → after ≡ rewritten_all high (merges low) events → limit_fault after ≡ o →
    merge_these events cs ≡ unless_fault o after
merge_two events cs low high after o two is limit =
    ap (merge_these events) two ∙ (λ i. unless_fault (limit_fault (sym is i)) (sym is i)) ∙ ap (λ (w : Option Fault). unless_fault w after) limit

module _ (set : List AnyId) (events : List PlainEvent) where
  pub merged_of : (r : Result (List PlainEvent) Fault) → length set ≡ 2 → kind_fault events set ≡ None → merge_these events (listed set events) ≡ r → merge_of set events ≡ r
  merged_of r two kinds is =
      ap (λ (b : Bool). cond b (made_unless (merge_these events (listed set events)) (kind_fault events set)) (Err (fault.WrongCount (length set)))) (eq-eqb (length set) 2 two)
      ∙ ap (made_unless (merge_these events (listed set events))) kinds ∙ is

  -- ---- unmerge

  pub unmerged_of : (c : ℕ) (after : List PlainEvent) → Ok c ≡ the_commit events set → after ≡ rewritten_all c unmerges events → unmerge_of set events ≡ Ok after
  unmerged_of c after is made =
      ap (λ (r : Result ℕ Fault). elim r as (λ x. Result (List PlainEvent) Fault) [ Ok d ↦ Ok (rewritten_all d unmerges events) | Err why ↦ Err why ]) (sym is) ∙ ap (λ (es : List PlainEvent). Ok es) (sym made)

  -- ---- add

  pub added_of : (spelled : RawOp) (c : ℕ) (op : FileOp) (r : Result (List PlainEvent) Fault) → Ok c ≡ the_commit events set → op_of events spelled ≡ Ok op → add_to events c op ≡ r → add_of spelled set events ≡ r
  added_of spelled c op r is its made =
      ap (λ (x : Result ℕ Fault). elim x as (λ x. Result (List PlainEvent) Fault) [ Ok d ↦ elim (op_of events spelled) [ Ok o ↦ add_to events d o | Err why ↦ Err why ] | Err why ↦ Err why ]) (sym is)
      ∙ ap (λ (x : Result FileOp Fault). elim x as (λ x. Result (List PlainEvent) Fault) [ Ok o ↦ add_to events c o | Err why ↦ Err why ]) its ∙ made

  -- ---- remove

  pub removed_of : (what : Removal) (c : ℕ) (r : Result (List PlainEvent) Fault) → Ok c ≡ the_commit events set → removal_fault what (node_of events c).ops ≡ None →
      unless_fault (tree_fault (removed events c what)) (removed events c what) ≡ r → remove_of what set events ≡ r
  removed_of what c r is none made =
      ap (λ (x : Result ℕ Fault). elim x as (λ x. Result (List PlainEvent) Fault) [ Ok d ↦ elim (removal_fault what (node_of events d).ops) [ Some why ↦ Err why | None ↦ unless_fault (tree_fault (removed events d what)) (removed events d what) ] | Err why ↦ Err why ]) (sym is)
      ∙ ap (made_unless (unless_fault (tree_fault (removed events c what)) (removed events c what))) none ∙ made

  -- ---- reparent

  pub reparented_of : (use_order rebase : Bool) (r : Result (List PlainEvent) Fault) → kind_fault events set ≡ None → reparent_last rebase events (ordered use_order set events) ≡ r → reparent_of use_order rebase set events ≡ r
  reparented_of use_order rebase r kinds is = ap (made_unless (reparent_last rebase events (ordered use_order set events))) kinds ∙ is

module _ (rebase : Bool) (events : List PlainEvent) (c : ℕ) (new : List ℕ) where
  -- its operations stay, or its tree is written out
  pub ops_stay : (parents : List ℕ) (ops : List FileOp) → (rebase ≡ true) ⊎ (have_same_first parents new ≡ true) → (reparents rebase events new).ops parents ops ≡ ops
  ops_stay parents ops (inl is) = ap (λ (b : Bool). if b then ops else ops_onto events new parents ops) is
  ops_stay parents ops (inr same) = ap (λ (b : Bool). if rebase then ops else (if b then ops else written_out events parents ops)) same ∙ go rebase
    where
      go : (b : Bool) → (if b then ops else ops) ≡ ops
      go true = refl
      go false = refl

  pub tree_written : (parents : List ℕ) (ops : List FileOp) → rebase ≡ false → have_same_first parents new ≡ false → (reparents rebase events new).ops parents ops ≡ written_out events parents ops
  tree_written parents ops is other =
      ap (λ (b : Bool). if b then ops else ops_onto events new parents ops) is ∙ ap (λ (b : Bool). if b then ops else written_out events parents ops) other
