-- What was simplified has nothing more that is void; and what is void is so by what is left, too.
use Rattle.std.proofs.Common.{◌≡◌, Bool, true, false, List, [], ◌∷◌, refl, sym, ap, ◌∙◌, inl, inr, true≢false}
use Rattle.std.specs.Prelude.{◌||◌, if◌then◌else◌}
use Rattle.std.specs.List.{list_any}
use Rattle.std.proofs.lemmas.Bool.{cases_Bool, cond-false, or_cases, or_left, or_parts, or_right}
use Rattle.plain_model.specs.declared.operation.FileOp.{FileOp}
use Rattle.plain_model.specs.declared.operation.FileOp.TheVariants.{Modify, Delete, Copy, Rename, DeleteAll}
use Rattle.simplify_laws.specs.Simplify.{deletes_at, is_deleteall, is_void, puts_at, simpler, up_to_a_copy}
use Rattle.simplify_laws.proofs.Voided.{delete_left, put_left, starts_anew}

-- what is among the operations that are left was there
any_left : (test : FileOp → Bool) (ops : List FileOp) → list_any test (simpler ops) ≡ true → list_any test ops ≡ true
any_left test [] h = h
any_left test (op ∷ ops) h = go (is_void op ops) h (any_left test ops)
  where
    go : (b : Bool) → list_any test (if b then simpler ops else op ∷ simpler ops) ≡ true →
        (list_any test (simpler ops) ≡ true → list_any test ops ≡ true) → list_any test (op ∷ ops) ≡ true
    go true h rest = or_right (test op) (list_any test ops) (rest h)
    go false h rest = elim (or_cases (test op) (list_any test (simpler ops)) h) [
      | inl it ↦ or_left (test op) (list_any test ops) it
      | inr later ↦ or_right (test op) (list_any test ops) (rest later)
    ]

-- a copy or a rename stays where no `deleteall` is later, so this holds of the operations before one, too
early_left : (test : FileOp → Bool) (ops : List FileOp) → list_any is_deleteall ops ≡ false →
    list_any test (up_to_a_copy (simpler ops)) ≡ true → list_any test (up_to_a_copy ops) ≡ true
early_left test [] none h = h
early_left test (Copy source target ∷ ops) none h =
    sym (ap (λ b. list_any test (up_to_a_copy (if b then simpler ops else Copy source target ∷ simpler ops))) none) ∙ h
early_left test (Rename source target ∷ ops) none h =
    sym (ap (λ b. list_any test (up_to_a_copy (if b then simpler ops else Rename source target ∷ simpler ops))) none) ∙ h
early_left test (DeleteAll ∷ ops) none h = absurd (true≢false none)
early_left test (Modify mode content path ∷ ops) none h = go (is_void (Modify mode content path) ops) h (early_left test ops none)
  where
    op : FileOp
    op = Modify mode content path

    go : (b : Bool) → list_any test (up_to_a_copy (if b then simpler ops else op ∷ simpler ops)) ≡ true →
        (list_any test (up_to_a_copy (simpler ops)) ≡ true → list_any test (up_to_a_copy ops) ≡ true) → test op || list_any test (up_to_a_copy ops) ≡ true
    go true h rest = or_right (test op) (list_any test (up_to_a_copy ops)) (rest h)
    go false h rest = elim (or_cases (test op) (list_any test (up_to_a_copy (simpler ops))) h) [
      | inl it ↦ or_left (test op) (list_any test (up_to_a_copy ops)) it
      | inr later ↦ or_right (test op) (list_any test (up_to_a_copy ops)) (rest later)
    ]
early_left test (Delete path ∷ ops) none h = go (is_void (Delete path) ops) h (early_left test ops none)
  where
    op : FileOp
    op = Delete path

    go : (b : Bool) → list_any test (up_to_a_copy (if b then simpler ops else op ∷ simpler ops)) ≡ true →
        (list_any test (up_to_a_copy (simpler ops)) ≡ true → list_any test (up_to_a_copy ops) ≡ true) → test op || list_any test (up_to_a_copy ops) ≡ true
    go true h rest = or_right (test op) (list_any test (up_to_a_copy ops)) (rest h)
    go false h rest = elim (or_cases (test op) (list_any test (up_to_a_copy (simpler ops))) h) [
      | inl it ↦ or_left (test op) (list_any test (up_to_a_copy ops)) it
      | inr later ↦ or_right (test op) (list_any test (up_to_a_copy ops)) (rest later)
    ]

or_no : (a b : Bool) → a ≡ false → b ≡ false → a || b ≡ false
or_no true b h k = absurd (true≢false h)
or_no false b h k = k

from_no : (a b : Bool) → (a ≡ true → b ≡ true) → b ≡ false → a ≡ false
from_no true b f h = absurd (true≢false (sym (f refl) ∙ h))
from_no false b f h = refl

-- what isn't void doesn't become so
still_not_void : (op : FileOp) (ops : List FileOp) → is_void op ops ≡ false → is_void op (simpler ops) ≡ false
still_not_void (Modify mode content path) ops h =
    let parts = or_parts (list_any is_deleteall ops) (list_any (puts_at path) (up_to_a_copy ops)) h in
    or_no (list_any is_deleteall (simpler ops)) (list_any (puts_at path) (up_to_a_copy (simpler ops)))
    (from_no (list_any is_deleteall (simpler ops)) (list_any is_deleteall ops) (any_left is_deleteall ops) parts.0)
    (from_no (list_any (puts_at path) (up_to_a_copy (simpler ops))) (list_any (puts_at path) (up_to_a_copy ops)) (early_left (puts_at path) ops parts.0) parts.1)
still_not_void (Delete path) ops h =
    let parts = or_parts (list_any is_deleteall ops || list_any (puts_at path) (up_to_a_copy ops)) (list_any (deletes_at path) (up_to_a_copy ops)) h in
    let both = or_parts (list_any is_deleteall ops) (list_any (puts_at path) (up_to_a_copy ops)) parts.0 in
    or_no (list_any is_deleteall (simpler ops) || list_any (puts_at path) (up_to_a_copy (simpler ops))) (list_any (deletes_at path) (up_to_a_copy (simpler ops)))
    (or_no (list_any is_deleteall (simpler ops)) (list_any (puts_at path) (up_to_a_copy (simpler ops)))
    (from_no (list_any is_deleteall (simpler ops)) (list_any is_deleteall ops) (any_left is_deleteall ops) both.0)
    (from_no (list_any (puts_at path) (up_to_a_copy (simpler ops))) (list_any (puts_at path) (up_to_a_copy ops)) (early_left (puts_at path) ops both.0) both.1))
    (from_no (list_any (deletes_at path) (up_to_a_copy (simpler ops))) (list_any (deletes_at path) (up_to_a_copy ops)) (early_left (deletes_at path) ops both.0) parts.1)
still_not_void (Copy source target) ops h = from_no (list_any is_deleteall (simpler ops)) (list_any is_deleteall ops) (any_left is_deleteall ops) h
still_not_void (Rename source target) ops h = from_no (list_any is_deleteall (simpler ops)) (list_any is_deleteall ops) (any_left is_deleteall ops) h
still_not_void DeleteAll ops h = from_no (list_any is_deleteall (simpler ops)) (list_any is_deleteall ops) (any_left is_deleteall ops) h

pub simpler_again : (ops : List FileOp) → simpler (simpler ops) ≡ simpler ops
simpler_again [] = refl
simpler_again (op ∷ ops) = go (is_void op ops) refl (simpler_again ops)
  where
    go : (b : Bool) → is_void op ops ≡ b → simpler (simpler ops) ≡ simpler ops →
        simpler (if b then simpler ops else op ∷ simpler ops) ≡ (if b then simpler ops else op ∷ simpler ops)
    go true is rest = rest
    go false is rest =
        cond-false (is_void op (simpler ops)) (simpler (simpler ops)) (op ∷ simpler (simpler ops)) (still_not_void op ops is)
        ∙ ap (λ (l : List FileOp). op ∷ l) rest

-- ---- and what is void stays so

anew_left : (ops : List FileOp) → list_any is_deleteall ops ≡ true → list_any is_deleteall (simpler ops) ≡ true
anew_left ops h = let rest = starts_anew ops h in ap (list_any is_deleteall) rest.1

still_void : (op : FileOp) (ops : List FileOp) → is_void op ops ≡ true → is_void op (simpler ops) ≡ true
still_void (Modify mode content path) ops h =
    elim (cases_Bool (list_any is_deleteall ops)) [
      | inl anew ↦ or_left (list_any is_deleteall (simpler ops)) (list_any (puts_at path) (up_to_a_copy (simpler ops))) (anew_left ops anew)
      | inr none ↦ elim (or_cases (list_any is_deleteall ops) (list_any (puts_at path) (up_to_a_copy ops)) h) [
        | inl anew ↦ absurd (true≢false (sym anew ∙ none))
        | inr put ↦ or_right (list_any is_deleteall (simpler ops)) (list_any (puts_at path) (up_to_a_copy (simpler ops))) (put_left path ops none put)
      ]
    ]
still_void (Delete path) ops h = elim (cases_Bool (list_any is_deleteall ops)) [
  | inl anew ↦ first (or_left (list_any is_deleteall (simpler ops)) (list_any (puts_at path) (up_to_a_copy (simpler ops))) (anew_left ops anew))
  | inr none ↦ elim (or_cases (list_any is_deleteall ops || list_any (puts_at path) (up_to_a_copy ops)) (list_any (deletes_at path) (up_to_a_copy ops)) h) [
    | inl earlier ↦ elim (or_cases (list_any is_deleteall ops) (list_any (puts_at path) (up_to_a_copy ops)) earlier) [
      | inl anew ↦ absurd (true≢false (sym anew ∙ none))
      | inr put ↦ second (put_left path ops none put)
    ]
    | inr deleted ↦ elim (delete_left path ops none deleted) [
      | inl put ↦ second put
      | inr gone ↦
          or_right (list_any is_deleteall (simpler ops) || list_any (puts_at path) (up_to_a_copy (simpler ops))) (list_any (deletes_at path) (up_to_a_copy (simpler ops))) gone
    ]
  ]
]
  where
    first : list_any is_deleteall (simpler ops) || list_any (puts_at path) (up_to_a_copy (simpler ops)) ≡ true → is_void (Delete path) (simpler ops) ≡ true
    first h = or_left (list_any is_deleteall (simpler ops) || list_any (puts_at path) (up_to_a_copy (simpler ops))) (list_any (deletes_at path) (up_to_a_copy (simpler ops))) h

    second : list_any (puts_at path) (up_to_a_copy (simpler ops)) ≡ true → is_void (Delete path) (simpler ops) ≡ true
    second h =
        or_left (list_any is_deleteall (simpler ops) || list_any (puts_at path) (up_to_a_copy (simpler ops))) (list_any (deletes_at path) (up_to_a_copy (simpler ops)))
        (or_right (list_any is_deleteall (simpler ops)) (list_any (puts_at path) (up_to_a_copy (simpler ops))) h)
still_void (Copy source target) ops h = anew_left ops h
still_void (Rename source target) ops h = anew_left ops h
still_void DeleteAll ops h = anew_left ops h

pub either_list : (op : FileOp) (ops : List FileOp) → is_void op (simpler ops) ≡ is_void op ops
either_list op ops = elim (cases_Bool (is_void op ops)) [
  | inl void ↦ still_void op ops void ∙ sym void
  | inr not_void ↦ still_not_void op ops not_void ∙ sym not_void
]
