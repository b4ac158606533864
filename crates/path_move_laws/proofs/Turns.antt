-- Operations are mapped one after another.
use Rattle.std.proofs.Common.{◌≡◌, ℕ, suc, ◌+◌, List, [], ◌∷◌, ◌++◌, length, refl, sym, ap, ◌∙◌, arith, append-nil, append_assoc, Option, Some, None, Result, Ok, Err}
use Rattle.plain_model.specs.declared.fault.Fault.{Fault}
use Rattle.plain_model.specs.declared.operation.FileOp.{FileOp}
use Rattle.plain_model.specs.Paths.{Bytes}
use Rattle.plain_model.specs.Trees.{Refusal, Tree, apply, apply_all}
use Rattle.expunge_laws.proofs.TreesLeft.{both_apply}
use Rattle.path_move_laws.specs.MovedOps.{first_fault, image_fault, moved_all, moved_op}

module _ (f : Bytes → Bytes) where
  pub in_turn : (ops : List FileOp) (op : FileOp) (old before after : Tree) → apply_all ops old ≡ Ok before → apply op before ≡ Ok after → moved_all f (ops ++ op ∷ []) old ≡ moved_all f ops old ++ moved_op f op before after
  in_turn [] op old before after h k =
      let is : old ≡ before = cc in
      ap (λ (r : Result Tree Refusal). elim r [ Ok new ↦ moved_op f op old new ++ [] | Err why ↦ [] ]) (ap (apply op) is ∙ k)
      ∙ append-nil (moved_op f op old after)
      ∙ ap (λ (t : Tree). moved_op f op t after) is
  in_turn (first ∷ ops) op old before after h k =
      let m = both_apply first ops old before h in
      ap (λ (r : Result Tree Refusal). elim r [ Ok new ↦ moved_op f first old new ++ moved_all f (ops ++ op ∷ []) new | Err why ↦ [] ]) m.1
      ∙ ap (λ (l : List FileOp). moved_op f first old m.0 ++ l) (in_turn ops op m.0 before after m.2 k)
      ∙ sym (append_assoc (moved_op f first old m.0) (moved_all f ops m.0) (moved_op f op before after))
      ∙ sym (ap (λ (r : Result Tree Refusal). elim r [ Ok new ↦ moved_op f first old new ++ moved_all f ops new | Err why ↦ [] ] ++ moved_op f op before after) m.1)

  -- the fault of what is left, where the first has none
  abbrev pub after_first : ℕ → ℕ → List FileOp → Result Tree Refusal → Option Fault
  after_first mark number ops r = elim r [
    | Ok new ↦ elim (image_fault f mark number new) [ Some why ↦ Some why | None ↦ first_fault f mark (number + 1) ops new ]
    | Err why ↦ None
  ]

  abbrev pub unless_first : Option Fault → Option Fault → Option Fault
  unless_first o rest = elim o [ Some why ↦ Some why | None ↦ rest ]

  both_calm : (o rest : Option Fault) → unless_first o rest ≡ None → (o ≡ None) × (rest ≡ None)
  both_calm None rest h = (refl, h)
  both_calm (Some why) rest h = absurd cc

  pub fault_in_turn : (mark number : ℕ) (ops : List FileOp) (op : FileOp) (old before after : Tree) → apply_all ops old ≡ Ok before → apply op before ≡ Ok after → first_fault f mark number ops old ≡ None
      → first_fault f mark number (ops ++ op ∷ []) old ≡ image_fault f mark (number + length ops) after
  fault_in_turn mark number [] op old before after h k calm =
      let is : old ≡ before = cc in
      ap (after_first mark number []) (ap (apply op) is ∙ k)
      ∙ whole (image_fault f mark number after)
      ∙ ap (λ n. image_fault f mark n after) (sym (zero_more number))
    where
      whole : (o : Option Fault) → unless_first o None ≡ o
      whole None = refl
      whole (Some why) = refl

      zero_more : (n : ℕ) → n + 0 ≡ n
      zero_more n = omega arith
  fault_in_turn mark number (first ∷ ops) op old before after h k calm =
      let m = both_apply first ops old before h in
      let c = both_calm (image_fault f mark number m.0) (first_fault f mark (number + 1) ops m.0) (sym (ap (after_first mark number ops) m.1) ∙ calm) in
      ap (after_first mark number (ops ++ op ∷ [])) m.1
      ∙ ap (λ o. unless_first o (first_fault f mark (number + 1) (ops ++ op ∷ []) m.0)) c.0
      ∙ fault_in_turn mark (number + 1) ops op m.0 before after m.2 k c.1
      ∙ ap (λ n. image_fault f mark n after) (one_more number (length ops))
    where
      one_more : (n k : ℕ) → n + 1 + k ≡ n + suc k
      one_more n k = omega arith

  pub still_refused : (mark number : ℕ) (ops more : List FileOp) (old : Tree) (why : Fault) → first_fault f mark number ops old ≡ Some why → first_fault f mark number (ops ++ more) old ≡ Some why
  still_refused mark number [] more old why h = absurd cc
  still_refused mark number (op ∷ ops) more old why h = go (apply op old) h (λ new k. still_refused mark (number + 1) ops more new why k)
    where
      go : (r : Result Tree Refusal) → after_first mark number ops r ≡ Some why → ((new : Tree) → first_fault f mark (number + 1) ops new ≡ Some why → first_fault f mark (number + 1) (ops ++ more) new ≡ Some why) → after_first mark number (ops ++ more) r ≡ Some why
      go (Err e) x rest = absurd cc
      go (Ok new) x rest = by (image_fault f mark number new) x
        where
          by : (o : Option Fault) → unless_first o (first_fault f mark (number + 1) ops new) ≡ Some why → unless_first o (first_fault f mark (number + 1) (ops ++ more) new) ≡ Some why
          by None y = rest new y
          by (Some w) y = y
