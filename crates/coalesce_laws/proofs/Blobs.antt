-- Blobs stay: one goes where an operation named it before and none names it afterwards, and operations only move.
use Rattle.std.proofs.Common.{◌≡◌, ℕ, ◌≤◌, Bool, true, false, not, List, [], ◌∷◌, ◌++◌, map, refl, sym, ap, ◌∙◌, inl, inr, arith, true≢false, Some, None}
use Rattle.std.specs.Prelude.{◌&&◌, ◌||◌, flat_map}
use Rattle.std.specs.List.{list_any}
use Rattle.std.proofs.lemmas.Bool.{cases_Bool, or_cases, or_parts}
use Rattle.plain_model.specs.declared.id.AnyId.{AnyId}
use Rattle.plain_model.specs.declared.id.AnyId.TheVariants as any
use Rattle.plain_model.specs.declared.operation.FileOp.{FileOp}
use Rattle.plain_model.specs.declared.event.PlainEvent.{PlainEvent}
use Rattle.plain_model.specs.declared.event.PlainEvent.TheVariants.{Blob, Commit, Tag, Reset, Pass}
use Rattle.plain_model.specs.Histories.{nodes}
use Rattle.plain_model.specs.Lookups.{is_listed, op_blobs, same_id}
use Rattle.plain_model.specs.Soundness.{IsSound, has_id}
use Rattle.history_laws.specs.FirstParents.{ops_along}
use Rattle.edit_laws.specs.Parts.{one_if}
use Rattle.edit_laws.specs.Sweeping.{is_named}
use Rattle.edit_laws.proofs.Naming.{blobs_after}
use Rattle.squash_laws.specs.Removed.{all_left}
use Rattle.squash_laws.proofs.Left.{blobs_left}
use Rattle.coalesce_laws.specs.Remaining.{weigh}
use Rattle.coalesce_laws.proofs.Coalesced.{done, joins, new, set}
use Rattle.coalesce_laws.proofs.MovedOps.{same_operations}

-- ---- operations

any_append : {X : Type 0} (f : X → Bool) (xs ys : List X) → list_any f (xs ++ ys) ≡ list_any f xs || list_any f ys
any_append f [] ys = refl
any_append f (x ∷ xs) ys = ap (λ t. f x || t) (any_append f xs ys) ∙ again (f x) (list_any f xs) (list_any f ys)
  where
    again : (p q r : Bool) → p || (q || r) ≡ (p || q) || r
    again true q r = refl
    again false q r = refl

-- the operation names the blob
abbrev names : ℕ → FileOp → Bool
names b op = is_listed (any.Blob b) (op_blobs op)

no_parent : (b : ℕ) (ps : List ℕ) (rest : List AnyId) → is_listed (any.Blob b) (map any.Commit ps ++ rest) ≡ is_listed (any.Blob b) rest
no_parent b [] rest = refl
no_parent b (p ∷ ps) rest = no_parent b ps rest

any_op : (b : ℕ) (ops : List FileOp) → is_listed (any.Blob b) (flat_map op_blobs ops) ≡ list_any (names b) ops
any_op b [] = refl
any_op b (op ∷ ops) = any_append (same_id (any.Blob b)) (op_blobs op) (flat_map op_blobs ops) ∙ ap (λ t. names b op || t) (any_op b ops)

-- only operations name blobs
named_ops : (b : ℕ) (es : List PlainEvent) → is_named es b ≡ list_any (names b) (ops_along (nodes es))
named_ops b [] = refl
named_ops b (Commit id mark branch author committer encoding comment parents ops aliases ∷ es) =
    (λ i. (no_parent b parents (flat_map op_blobs ops) ∙ any_op b ops) i || named_ops b es i)
    ∙ sym (any_append (names b) ops (ops_along (nodes es)))
named_ops b (Blob id mark bytes ∷ es) = named_ops b es
named_ops b (Tag id name target tagger comment mark ∷ es) = named_ops b es
named_ops b (Reset id branch None ∷ es) = named_ops b es
named_ops b (Reset id branch (Some target) ∷ es) = named_ops b es
named_ops b (Pass id line ∷ es) = named_ops b es

module _ (test : FileOp → Bool) where
  abbrev passing : FileOp → ℕ
  passing op = one_if (test op)

  none_weighs : (ops : List FileOp) → list_any test ops ≡ false → weigh passing ops ≡ 0
  none_weighs [] h = refl
  none_weighs (op ∷ ops) h =
      let parts = or_parts (test op) (list_any test ops) h in
      let own : one_if (test op) ≡ 0 = ap one_if parts.0 in
      let rest = none_weighs ops parts.1 in
      omega arith

  some_weighs : (ops : List FileOp) → list_any test ops ≡ true → 1 ≤ weigh passing ops
  some_weighs [] h = absurd (true≢false (sym h))
  some_weighs (op ∷ ops) h = elim (or_cases (test op) (list_any test ops) h) [
    | inl it ↦ let own : one_if (test op) ≡ 1 = ap one_if it in omega arith
    | inr later ↦ let rest = some_weighs ops later in omega arith
  ]

  -- what weighs alike passes alike
  pass_alike : (xs ys : List FileOp) → weigh passing xs ≡ weigh passing ys → list_any test xs ≡ list_any test ys
  pass_alike xs ys same =
      elim (cases_Bool (list_any test xs)) [
        | inl some ↦ elim (cases_Bool (list_any test ys)) [
          | inl too ↦ some ∙ sym too
          | inr none ↦ let one = some_weighs xs some in let zero = none_weighs ys none in absurd (omega arith)
        ]
        | inr none ↦ elim (cases_Bool (list_any test ys)) [
          | inl some ↦ let one = some_weighs ys some in let zero = none_weighs xs none in absurd (omega arith)
          | inr too ↦ none ∙ sym too
        ]
      ]

-- ---- a coalescing

-- the operations are the same, so nothing is named no more
pub blobs_stay : (seconds : ℕ) (sel : List AnyId) (events : List PlainEvent) (h : IsSound events) (b : ℕ) →
    has_id (new seconds sel events h) (any.Blob b) ≡ has_id events (any.Blob b)
blobs_stay seconds sel events h b =
    let its_set = set seconds sel events h in
    let its_joins = joins seconds sel events h in
    let after = new seconds sel events h in
    let same : is_named after b ≡ is_named events b =
    named_ops b after
    ∙ pass_alike (names b) (ops_along (nodes after)) (ops_along (nodes events)) (same_operations seconds sel events h (λ op. one_if (names b op)))
    ∙ sym (named_ops b events) in
    blobs_after events (all_left its_set events its_joins) after (done seconds sel events h) b
    ∙ ap (λ t. t && not (is_named events b && not (is_named after b))) (blobs_left its_set events its_joins b)
    ∙ ap (λ t. has_id events (any.Blob b) && not (is_named events b && not t)) same
    ∙ kept (has_id events (any.Blob b)) (is_named events b)
  where
    kept : (x y : Bool) → x && not (y && not y) ≡ x
    kept true true = refl
    kept true false = refl
    kept false y = refl
