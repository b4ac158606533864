-- New numbers: where ids occur once, those of blobs and commits are places from the first number on.
use Rattle.std.proofs.Common.{◌≡◌, ℕ, suc, ◌+◌, ◌≤◌, false, List, [], ◌∷◌, ◌++◌, length, refl, sym, ap, subst, ◌∙◌, arith, append_assoc, length-append, Option, Some, option_map}
use Rattle.std.specs.Prelude.{unwrap_or}
use Rattle.std.proofs.lemmas.Bool.{cond-true, cond-false, or_parts}
use Rattle.plain_model.specs.declared.id.AnyId.{AnyId}
use Rattle.plain_model.specs.declared.id.AnyId.TheVariants as any
use Rattle.plain_model.specs.declared.event.PlainEvent.{PlainEvent}
use Rattle.plain_model.specs.declared.event.PlainEvent.TheVariants.{Blob, Commit, Tag, Reset, Pass}
use Rattle.plain_model.specs.Lookups.{id_of, place_of, same_id}
use Rattle.plain_model.specs.Soundness.{has_id}
use Rattle.edit_laws.specs.Parts.{of_id, tally}
use Rattle.edit_laws.proofs.Lists.{has_own_id}
use Rattle.edit_laws.proofs.Sound.{new_there}
use Rattle.history_laws.proofs.Ids.{has_id_step, same_id_comm, same_id_refl}
use Rattle.shown_laws.proofs.Places.{Agree}
use Rattle.graft_laws.specs.Joining.{new_number}

-- an event whose id is nowhere before it has its place
place_own : (xs es : List PlainEvent) (e : PlainEvent) → has_id xs (id_of e) ≡ false → place_of (id_of e) (xs ++ e ∷ es) ≡ Some (length xs)
place_own [] es e h = cond-true (same_id (id_of e) (id_of e)) (Some 0) (option_map suc (place_of (id_of e) es)) (same_id_refl (id_of e))
place_own (x ∷ xs) es e h =
    let parts = or_parts (same_id (id_of x) (id_of e)) (has_id xs (id_of e)) (sym (has_id_step x xs (id_of e)) ∙ h) in
    cond-false (same_id (id_of e) (id_of x)) (Some 0) (option_map suc (place_of (id_of e) (xs ++ e ∷ es))) (same_id_comm (id_of e) (id_of x) ∙ parts.0)
    ∙ ap (option_map suc) (place_own xs es e parts.1)

module _ (first : ℕ) (whole : List PlainEvent) (once : (id : AnyId) → tally (of_id id) whole ≤ 1) where
  pub own : (xs es : List PlainEvent) (e : PlainEvent) (k : ℕ) → whole ≡ xs ++ e ∷ es → k ≡ first + length xs → new_number first whole (id_of e) ≡ k
  own xs es e k w is =
      let new = new_there (id_of e) xs e es (subst (λ (l : List PlainEvent). tally (of_id (id_of e)) l ≤ 1) w (once (id_of e))) (has_own_id e) in
      ap (λ (l : List PlainEvent). new_number first l (id_of e)) w ∙ ap (λ (o : Option ℕ). first + unwrap_or o 0) (place_own xs es e new) ∙ sym is

  pub next : (xs : List PlainEvent) (e : PlainEvent) (k : ℕ) → k ≡ first + length xs → suc k ≡ first + length (xs ++ e ∷ [])
  next xs e k is = let many = length-append xs (e ∷ []) in omega arith

  agree_on : (xs es : List PlainEvent) (k : ℕ) → whole ≡ xs ++ es → k ≡ first + length xs → Agree (λ b. new_number first whole (any.Blob b)) (λ c. new_number first whole (any.Commit c)) k es
  agree_on xs [] k w is = tt
  agree_on xs (Blob id mark bytes ∷ es) k w is =
      let e : PlainEvent = Blob id mark bytes in
      (own xs es e k w is, agree_on (xs ++ e ∷ []) es (suc k) (w ∙ sym (append_assoc xs (e ∷ []) es)) (next xs e k is))
  agree_on xs (Commit id mark branch author committer encoding comment parents ops aliases ∷ es) k w is =
      let e : PlainEvent = Commit id mark branch author committer encoding comment parents ops aliases in
      (own xs es e k w is, agree_on (xs ++ e ∷ []) es (suc k) (w ∙ sym (append_assoc xs (e ∷ []) es)) (next xs e k is))
  agree_on xs (Tag id name target tagger comment mark ∷ es) k w is =
      let e : PlainEvent = Tag id name target tagger comment mark in
      agree_on (xs ++ e ∷ []) es (suc k) (w ∙ sym (append_assoc xs (e ∷ []) es)) (next xs e k is)
  agree_on xs (Reset id branch target ∷ es) k w is =
      let e : PlainEvent = Reset id branch target in
      agree_on (xs ++ e ∷ []) es (suc k) (w ∙ sym (append_assoc xs (e ∷ []) es)) (next xs e k is)
  agree_on xs (Pass id line ∷ es) k w is =
      let e : PlainEvent = Pass id line in
      agree_on (xs ++ e ∷ []) es (suc k) (w ∙ sym (append_assoc xs (e ∷ []) es)) (next xs e k is)

  pub numbers_agree : Agree (λ b. new_number first whole (any.Blob b)) (λ c. new_number first whole (any.Commit c)) first whole
  numbers_agree = agree_on [] whole first refl (let is : first ≡ first + 0 = omega arith in is)
