-- What is left of a history without a set of events can be settled.
use Rattle.std.proofs.Common.{◌≡◌, ℕ, ◌≤◌, ◌<◌, Bool, true, false, cond, not, List, [], ◌∷◌, ◌++◌, map, refl, sym, ap, ◌∙◌, inl, inr, arith, eqb-true, true≢false, Option, Some, None, option_map, IsTrue}
use Rattle.std.specs.Prelude.{◌||◌, ◌&&◌, ◌==◌, flat_map, option_to_list}
use Rattle.std.specs.List.{AllByRecursion, list_all}
use Rattle.std.proofs.lemmas.Bool.{cases_Bool}
use Rattle.plain_model.specs.declared.id.AnyId.{AnyId}
use Rattle.plain_model.specs.declared.id.AnyId.TheVariants as any
use Rattle.plain_model.specs.declared.operation.Content.TheVariants.{Blob as OfBlob, Object}
use Rattle.plain_model.specs.declared.operation.FileOp.{FileOp}
use Rattle.plain_model.specs.declared.operation.FileOp.TheVariants.{Modify, Delete, Copy, Rename, DeleteAll}
use Rattle.plain_model.specs.declared.event.PlainEvent.{PlainEvent}
use Rattle.plain_model.specs.declared.event.PlainEvent.TheVariants.{Blob, Commit, Tag, Reset, Pass}
use Rattle.plain_model.specs.Histories.{nodes, past, knows}
use Rattle.plain_model.specs.Lookups.{is_listed, op_blobs}
use Rattle.plain_model.specs.Soundness.{IsFormedEvent, IsSound, has_id}
use Rattle.edit_laws.specs.Parts.{AreOnce, CanBeSettled, IsAbove, IsLawful, of_id, of_mark, tally}
use Rattle.edit_laws.specs.Removal.{expand}
use Rattle.edit_laws.specs.Settling.{is_ready}
use Rattle.edit_laws.proofs.Chains.{once_each_distinct, parents_stand}
use Rattle.ancestry_laws.proofs.Pasts.{known_past, linked_past}
use Rattle.history_laws.proofs.Ids.{has_id_append}
use Rattle.history_laws.proofs.Lists.{all_imply, all_join, all_reverse}
use Rattle.edit_laws.proofs.Fine.{IsFine, There, fine, fine_formed, fine_lawful, ready_ops, ready_parents}
use Rattle.edit_laws.proofs.Lists.{OfNodes, all_flat, all_true, events_of_nodes, nodes_of_events, own_sum, tally_flat, true_all}
use Rattle.edit_laws.proofs.Settles.{sound_settles, swept_settles}
use Rattle.edit_laws.proofs.Tallies.{moved_no_greater, no_greater}
use Rattle.squash_laws.specs.Removed.{Takings, is_removed, left_of, all_left, parents_after, without_set}

-- ---- an event that stays or goes

pub one_left : (P : PlainEvent → Type 0) (gone : Bool) (e : PlainEvent) → (gone ≡ false → P e) → AllByRecursion P (cond gone [] (e ∷ []))
one_left P true e h = tt
one_left P false e h = (h refl, tt)

-- a tag or a reset goes too where there is no commit for it
pub one_moved : (P : PlainEvent → Type 0) (gone : Bool) (f : ℕ → PlainEvent) (o : Option ℕ) → ((t : ℕ) → o ≡ Some t → P (f t)) → AllByRecursion P (cond gone [] (option_to_list (option_map f o)))
one_moved P true f o h = tt
one_moved P false f None h = tt
one_moved P false f (Some t) h = (h t refl, tt)

-- ---- what is left

module _ (set : List AnyId) (events : List PlainEvent) (takes : Takings) where
  abbrev gone : ℕ → Bool
  gone c = is_removed set c

  -- what stays of the ids

  tag_left : (b : Bool) (f : ℕ → PlainEvent) (o : Option ℕ) (id : AnyId) → ((t : ℕ) → has_id (f t ∷ []) id ≡ false) → has_id (cond b [] (option_to_list (option_map f o))) id ≡ false
  tag_left true f o id h = refl
  tag_left false f None id h = refl
  tag_left false f (Some t) id h = h t

  other_left : (b : Bool) (x : PlainEvent) (id : AnyId) → has_id (x ∷ []) id ≡ false → has_id (cond b [] (x ∷ [])) id ≡ false
  other_left true x id h = refl
  other_left false x id h = h

  -- no event but a commit becomes a commit
  no_commit : (e : PlainEvent) (c : ℕ) → has_id (e ∷ []) (any.Commit c) ≡ false → has_id (left_of set events takes e) (any.Commit c) ≡ false
  no_commit (Commit id mark branch author committer encoding comment parents ops aliases) c h =
      other_left (gone id) (Commit id mark branch author committer encoding (takes.comment id parents comment) (parents_after set events takes parents) (takes.ops id parents ops) aliases) (any.Commit c) h
  no_commit (Blob id mark bytes) c h = refl
  no_commit (Tag id name target tagger comment mark) c h = tag_left (is_listed (any.Tag id) set) (λ t. Tag id name t tagger comment mark) (takes.target target) (any.Commit c) (λ t. refl)
  no_commit (Reset id branch None) c h = other_left (is_listed (any.Reset id) set) (Reset id branch None) (any.Commit c) refl
  no_commit (Reset id branch (Some target)) c h = tag_left (is_listed (any.Reset id) set) (λ t. Reset id branch (Some t)) (takes.target target) (any.Commit c) (λ t. refl)
  no_commit (Pass id line) c h = other_left (is_listed (any.Pass id) set) (Pass id line) (any.Commit c) refl

  -- a commit stays where it isn't removed
  own_commit : (e : PlainEvent) (c : ℕ) → has_id (e ∷ []) (any.Commit c) ≡ true → has_id (left_of set events takes e) (any.Commit c) ≡ not (gone c)
  own_commit (Commit id mark branch author committer encoding comment parents ops aliases) c h =
      go (gone id) ∙ ap (λ n. not (gone n)) (eqb-true id c (one (id == c) h))
    where
      one : (b : Bool) → b || false ≡ true → b ≡ true
      one true h = refl
      one false h = absurd (true≢false (sym h))

      go : (b : Bool) → has_id (cond b [] (Commit id mark branch author committer encoding (takes.comment id parents comment) (parents_after set events takes parents) (takes.ops id parents ops) aliases ∷ [])) (any.Commit c) ≡ not b
      go true = refl
      go false = h
  own_commit (Blob id mark bytes) c h = absurd (true≢false (sym h))
  own_commit (Tag id name target tagger comment mark) c h = absurd (true≢false (sym h))
  own_commit (Reset id branch target) c h = absurd (true≢false (sym h))
  own_commit (Pass id line) c h = absurd (true≢false (sym h))

  commits_in : (es : List PlainEvent) (c : ℕ) → has_id (flat_map (left_of set events takes) es) (any.Commit c) ≡ has_id es (any.Commit c) && not (gone c)
  commits_in [] c = refl
  commits_in (e ∷ es) c =
      has_id_append (left_of set events takes e) (flat_map (left_of set events takes) es) (any.Commit c)
      ∙ ap (λ b. has_id (left_of set events takes e) (any.Commit c) || b) (commits_in es c)
      ∙ elim (cases_Bool (has_id (e ∷ []) (any.Commit c))) [
        | inl own ↦
            ap (λ b. b || (has_id es (any.Commit c) && not (gone c))) (own_commit e c own)
            ∙ both (has_id es (any.Commit c)) (not (gone c))
            ∙ sym (ap (λ b. b && not (gone c)) (has_id_append (e ∷ []) es (any.Commit c) ∙ ap (λ b. b || has_id es (any.Commit c)) own))
        | inr other ↦
            ap (λ b. b || (has_id es (any.Commit c) && not (gone c))) (no_commit e c other)
            ∙ sym (ap (λ b. b && not (gone c)) (has_id_append (e ∷ []) es (any.Commit c) ∙ ap (λ b. b || has_id es (any.Commit c)) other))
      ]
    where
      both : (a b : Bool) → b || (a && b) ≡ b
      both true true = refl
      both true false = refl
      both false true = refl
      both false false = refl

  -- the commits that aren't removed
  pub commits_left : (c : ℕ) → has_id (all_left set events takes) (any.Commit c) ≡ has_id events (any.Commit c) && not (gone c)
  commits_left c = commits_in events c

  own_blob : (e : PlainEvent) (b : ℕ) → has_id (e ∷ []) (any.Blob b) ≡ has_id (left_of set events takes e) (any.Blob b)
  own_blob (Blob id mark bytes) b = refl
  own_blob (Commit id mark branch author committer encoding comment parents ops aliases) b =
      sym (other_left (gone id) (Commit id mark branch author committer encoding (takes.comment id parents comment) (parents_after set events takes parents) (takes.ops id parents ops) aliases) (any.Blob b) refl)
  own_blob (Tag id name target tagger comment mark) b = sym (tag_left (is_listed (any.Tag id) set) (λ t. Tag id name t tagger comment mark) (takes.target target) (any.Blob b) (λ t. refl))
  own_blob (Reset id branch None) b = sym (other_left (is_listed (any.Reset id) set) (Reset id branch None) (any.Blob b) refl)
  own_blob (Reset id branch (Some target)) b = sym (tag_left (is_listed (any.Reset id) set) (λ t. Reset id branch (Some t)) (takes.target target) (any.Blob b) (λ t. refl))
  own_blob (Pass id line) b = sym (other_left (is_listed (any.Pass id) set) (Pass id line) (any.Blob b) refl)

  blobs_in : (es : List PlainEvent) (b : ℕ) → has_id (flat_map (left_of set events takes) es) (any.Blob b) ≡ has_id es (any.Blob b)
  blobs_in [] b = refl
  blobs_in (e ∷ es) b =
      has_id_append (left_of set events takes e) (flat_map (left_of set events takes) es) (any.Blob b)
      ∙ ap (λ x. has_id (left_of set events takes e) (any.Blob b) || x) (blobs_in es b)
      ∙ ap (λ x. x || has_id es (any.Blob b)) (sym (own_blob e b))
      ∙ sym (has_id_append (e ∷ []) es (any.Blob b))

  -- the blobs are all left
  pub blobs_left : (b : ℕ) → has_id (all_left set events takes) (any.Blob b) ≡ has_id events (any.Blob b)
  blobs_left b = blobs_in events b

  -- ---- ids and marks stand once

  pub ids_left : (id : AnyId) (e : PlainEvent) → tally (of_id id) (left_of set events takes e) ≤ of_id id e
  ids_left id (Commit i mark branch author committer encoding comment parents ops aliases) =
      let x = Commit i mark branch author committer encoding (takes.comment i parents comment) (parents_after set events takes parents) (takes.ops i parents ops) aliases in
      let e = Commit i mark branch author committer encoding comment parents ops aliases in
      no_greater (of_id id) (gone i) x e (own_sum id x e refl)
  ids_left id (Blob i mark bytes) = omega arith
  ids_left id (Tag i name target tagger comment mark) =
      moved_no_greater (of_id id) (is_listed (any.Tag i) set) (λ t. Tag i name t tagger comment mark) (takes.target target) (Tag i name target tagger comment mark) (λ t. own_sum id (Tag i name t tagger comment mark) (Tag i name target tagger comment mark) refl)
  ids_left id (Reset i branch None) = no_greater (of_id id) (is_listed (any.Reset i) set) (Reset i branch None) (Reset i branch None) refl
  ids_left id (Reset i branch (Some target)) =
      moved_no_greater (of_id id) (is_listed (any.Reset i) set) (λ t. Reset i branch (Some t)) (takes.target target) (Reset i branch (Some target)) (λ t. own_sum id (Reset i branch (Some t)) (Reset i branch (Some target)) refl)
  ids_left id (Pass i line) = no_greater (of_id id) (is_listed (any.Pass i) set) (Pass i line) (Pass i line) refl

  pub marks_left : (m : ℕ) (e : PlainEvent) → tally (of_mark m) (left_of set events takes e) ≤ of_mark m e
  marks_left m (Commit i mark branch author committer encoding comment parents ops aliases) =
      no_greater (of_mark m) (gone i) (Commit i mark branch author committer encoding (takes.comment i parents comment) (parents_after set events takes parents) (takes.ops i parents ops) aliases) (Commit i mark branch author committer encoding comment parents ops aliases) refl
  marks_left m (Blob i mark bytes) = omega arith
  marks_left m (Tag i name target tagger comment mark) = moved_no_greater (of_mark m) (is_listed (any.Tag i) set) (λ t. Tag i name t tagger comment mark) (takes.target target) (Tag i name target tagger comment mark) (λ t. refl)
  marks_left m (Reset i branch None) = no_greater (of_mark m) (is_listed (any.Reset i) set) (Reset i branch None) (Reset i branch None) refl
  marks_left m (Reset i branch (Some target)) = moved_no_greater (of_mark m) (is_listed (any.Reset i) set) (λ t. Reset i branch (Some t)) (takes.target target) (Reset i branch (Some target)) (λ t. refl)
  marks_left m (Pass i line) = no_greater (of_mark m) (is_listed (any.Pass i) set) (Pass i line) (Pass i line) refl

  once_left : AreOnce events → AreOnce (all_left set events takes)
  once_left o = record {
    ids = λ id. let one = o.ids id in let fewer = tally_flat (of_id id) (left_of set events takes) (ids_left id) events in omega arith;
    marks = λ m. let one = o.marks m in let fewer = tally_flat (of_mark m) (left_of set events takes) (marks_left m) events in omega arith;
  }

  -- ---- one event

  module _ (h : IsSound events)
      (ops_fine : (c : ℕ) (parents : List ℕ) (ops : List FileOp) → AllByRecursion (IsFine events) ops → AllByRecursion (IsFine events) (takes.ops c parents ops))
      (targets : (c t : ℕ) → has_id events (any.Commit c) ≡ true → takes.target c ≡ Some t → (is_removed set t ≡ false) × (has_id events (any.Commit t) ≡ true))
    where
      abbrev settles : CanBeSettled events
      settles = sound_settles events h

      abbrev number : ℕ → ℕ
      number = settles.numbered.0

      above_past : AllByRecursion (IsAbove number) (past events)
      above_past = all_reverse (IsAbove number) (nodes events) settles.numbered.1

      -- the new parents of a commit: they stay, and have lower numbers
      abbrev IsBelow : ℕ → ℕ → Type 0
      IsBelow id q = (is_removed set q ≡ false) × (knows (past events) q ≡ true) × (number q < number id)

      new_parents : (id : ℕ) (parents : List ℕ) → AllByRecursion (λ p. IsTrue (knows (past events) p)) parents → AllByRecursion (λ p. number p < number id) parents → AllByRecursion (IsBelow id) (parents_after set events takes parents)
      new_parents id parents k low = parents_stand (is_removed set) number (past events) (linked_past events h) above_past (number id) parents k low

      stays_there : (c : ℕ) → is_removed set c ≡ false → has_id events (any.Commit c) ≡ true → has_id (all_left set events takes) (any.Commit c) ≡ true
      stays_there c s k = commits_left c ∙ ap (λ b. b && not (gone c)) k ∙ ap not s

      there_parents : (id : ℕ) (qs : List ℕ) → AllByRecursion (IsBelow id) qs → AllByRecursion (There (all_left set events takes)) (map any.Commit qs)
      there_parents id [] a = tt
      there_parents id (q ∷ qs) a = (stays_there q a.0.0 (sym (known_past events q) ∙ a.0.1), there_parents id qs a.1)

      there_blobs : (op : FileOp) → AllByRecursion (There events) (op_blobs op) → AllByRecursion (There (all_left set events takes)) (op_blobs op)
      there_blobs (Modify mode (OfBlob b) path) a = (blobs_left b ∙ a.0, tt)
      there_blobs (Modify mode (Object digits) path) a = tt
      there_blobs (Delete path) a = tt
      there_blobs (Copy source target) a = tt
      there_blobs (Rename source target) a = tt
      there_blobs DeleteAll a = tt

      there_ops : (ops : List FileOp) → AllByRecursion (IsFine events) ops → AllByRecursion (There (all_left set events takes)) (flat_map op_blobs ops)
      there_ops ops a = all_flat (IsFine events) (There (all_left set events takes)) op_blobs (λ op x. there_blobs op x.2) ops a

      -- what is given of each event
      record IsGiven (e : PlainEvent) : Type 0 where
        lawful : IsLawful e
        spelled : IsFormedEvent e
        ready : is_ready events e ≡ true
        low : OfNodes (IsAbove number) e

      -- what is left of each
      record IsKept (x : PlainEvent) : Type 0 where
        lawful : IsLawful x
        spelled : IsFormedEvent x
        ready : is_ready (all_left set events takes) x ≡ true
        low : OfNodes (IsAbove number) x

      kept_target : (target t : ℕ) → has_id events (any.Commit target) ≡ true → takes.target target ≡ Some t → list_all (has_id (all_left set events takes)) (any.Commit t ∷ []) ≡ true
      kept_target target t k is =
          let to = targets target t k is in
          true_all (has_id (all_left set events takes)) (any.Commit t ∷ []) (stays_there t to.0 to.1, tt)

      kept : (e : PlainEvent) → IsGiven e → AllByRecursion IsKept (left_of set events takes e)
      kept (Commit id mark branch author committer encoding comment parents ops aliases) g =
          let l = g.lawful in
          let new = new_parents id parents (ready_parents events parents ops g.ready) g.low.0 in
          let its = ops_fine id parents ops (fine events ops l.5 g.spelled.1 (ready_ops events parents ops g.ready)) in
          let after = parents_after set events takes parents in
          let with_ops = takes.ops id parents ops in
          one_left IsKept (gone id) (Commit id mark branch author committer encoding (takes.comment id parents comment) after with_ops aliases) (λ stays. record {
            lawful = (l.0, l.1, l.2, l.3, once_each_distinct (flat_map (expand (is_removed set) (past events)) parents), fine_lawful events with_ops its, l.6);
            spelled = (g.spelled.0, fine_formed events with_ops its, g.spelled.2);
            ready = true_all (has_id (all_left set events takes)) (map any.Commit after ++ flat_map op_blobs with_ops)
                (all_join (There (all_left set events takes)) (map any.Commit after) (flat_map op_blobs with_ops) (there_parents id after new) (there_ops with_ops its));
            low = (all_imply (IsBelow id) (λ q. number q < number id) (λ q x. x.2) after new, tt);
          })
      kept (Blob id mark bytes) g = (record { lawful = tt; spelled = g.spelled; ready = refl; low = tt }, tt)
      kept (Tag id name target tagger comment mark) g =
          let k = (all_true (has_id events) (any.Commit target ∷ []) g.ready).0 in
          one_moved IsKept (is_listed (any.Tag id) set) (λ t. Tag id name t tagger comment mark) (takes.target target) (λ t is. record { lawful = g.lawful; spelled = g.spelled; ready = kept_target target t k is; low = tt })
      kept (Reset id branch None) g = one_left IsKept (is_listed (any.Reset id) set) (Reset id branch None) (λ stays. record { lawful = g.lawful; spelled = g.spelled; ready = refl; low = tt })
      kept (Reset id branch (Some target)) g =
          let k = (all_true (has_id events) (any.Commit target ∷ []) g.ready).0 in
          one_moved IsKept (is_listed (any.Reset id) set) (λ t. Reset id branch (Some t)) (takes.target target) (λ t is. record { lawful = g.lawful; spelled = g.spelled; ready = kept_target target t k is; low = tt })
      kept (Pass id line) g = one_left IsKept (is_listed (any.Pass id) set) (Pass id line) (λ stays. record { lawful = g.lawful; spelled = g.spelled; ready = refl; low = tt })

      given : (es : List PlainEvent) → AllByRecursion IsLawful es → AllByRecursion IsFormedEvent es →
          AllByRecursion (λ e. IsTrue (is_ready events e)) es → AllByRecursion (OfNodes (IsAbove number)) es →
          AllByRecursion IsGiven es
      given [] l f r a = tt
      given (e ∷ es) l f r a = (record { lawful = l.0; spelled = f.0; ready = r.0; low = a.0 }, given es l.1 f.1 r.1 a.1)

      all_kept : AllByRecursion IsKept (all_left set events takes)
      all_kept =
          all_flat IsGiven IsKept (left_of set events takes) kept events
          (given events settles.lawful settles.spelled settles.complete (nodes_of_events (IsAbove number) events settles.numbered.1))

      pub left_settles : CanBeSettled (all_left set events takes)
      left_settles = record {
        lawful = all_imply IsKept IsLawful (λ x k. k.lawful) (all_left set events takes) all_kept;
        spelled = all_imply IsKept IsFormedEvent (λ x k. k.spelled) (all_left set events takes) all_kept;
        once = once_left settles.once;
        complete = all_imply IsKept (λ e. IsTrue (is_ready (all_left set events takes) e)) (λ x k. k.ready) (all_left set events takes) all_kept;
        numbered = (number, events_of_nodes (IsAbove number) (all_left set events takes) (all_imply IsKept (OfNodes (IsAbove number)) (λ x k. k.low) (all_left set events takes) all_kept));
      }

      pub without_settles : CanBeSettled (without_set set events takes)
      without_settles = swept_settles events (all_left set events takes) left_settles
