-- A history in which one commit became two is sound, and trees are as they were.
use Rattle.std.proofs.Common.{◌≡◌, ℕ, ◌+◌, ◌≤◌, ◌<◌, Bool, true, false, cond, not, List, [], ◌∷◌, ◌++◌, drop, map, take, refl, sym, ap, subst, ◌∙◌, inl, inr, arith, eq-eqb, eqb-true, true≢false, append-nil, append_assoc, Option, Some, None, option_map}
use Rattle.std.specs.Prelude.{◌||◌, ◌&&◌, ◌==◌, IsSome, flat_map, unwrap_or}
use Rattle.std.specs.List.{AllByRecursion, list_any, list_all}
use Rattle.std.proofs.lemmas.Bool.{cases_Bool, cond-true, cond-false, or_left, or_right, or_cases}
use Rattle.std.proofs.lemmas.List.{take-append-drop, length-map}
use Rattle.plain_model.specs.declared.limit.TheConstants.{MAX_PARENTS}
use Rattle.plain_model.specs.declared.id.AnyId.{AnyId}
use Rattle.plain_model.specs.declared.id.AnyId.TheVariants as any
use Rattle.plain_model.specs.declared.operation.FileOp.{FileOp}
use Rattle.plain_model.specs.declared.event.PlainEvent.{PlainEvent}
use Rattle.plain_model.specs.declared.event.PlainEvent.TheVariants.{Blob, Commit, Tag, Reset, Pass}
use Rattle.plain_model.specs.Histories.{Node, begun, folded, node_at, past, tree}
use Rattle.plain_model.specs.Lookups.{op_blobs, same_id}
use Rattle.plain_model.specs.Soundness.{IsCommitOf, IsFormedEvent, IsFormedOp, IsSound, are_distinct, has_id}
use Rattle.plain_model.specs.Streams.{is_marked}
use Rattle.plain_model.specs.Trees.{Tree}
use Rattle.edit_laws.specs.Equations.{Fits}
use Rattle.edit_laws.specs.Parts.{AreInOrder, AreOnce, HasFewParents, IsLawful, IsLawfulOp, of_id, of_mark, one_if, tally}
use Rattle.edit_laws.specs.Settling.{is_ready}
use Rattle.plain_model.proofs.Numbers.{eqb_turned}
use Rattle.history_laws.proofs.LineLaws.{folded_more}
use Rattle.history_laws.proofs.Ids.{has_id_append, has_id_cons, is_marked_append, same_id_true}
use Rattle.history_laws.proofs.Lists.{all_imply, all_join}
use Rattle.edit_laws.proofs.Lists.{OfNodes, all_flat, all_front, all_rear, all_true, events_of_nodes, has_own_id, none_passing, own_id, own_sum, some_passing, tally_append, true_all}
use Rattle.edit_laws.proofs.Sound.{from_parts, in_parts}
use Rattle.edit_laws.proofs.Trees.{trees_solve}
use Rattle.commit_laws.specs.Selected.{node_of}
use Rattle.commit_laws.proofs.Given.{IsGiven, IsHere, all_drop, all_given, all_take, here_parents, parents_here, rank}
use Rattle.plain_model.specs.Marks.{IsMark}
use Rattle.plain_model.specs.Snapshots.{shown_tree}
use Rattle.edit_laws.specs.Blobs.{HasBytesOf}
use Rattle.edit_laws.proofs.Fine.{There, joined_blobs, parted_blobs}
use Rattle.edit_laws.proofs.Settles.{sound_settles}
use Rattle.edit_laws.proofs.Shown.{has_own_bytes, shown_alike}
use Rattle.edit_laws.proofs.Tallies.{tally_sum}
use Rattle.split_laws.specs.Split.{onto, split_event, split_list}

-- ---- parts of lists

-- the blobs of some operations are those of the first and of the others
blobs_parts : (xs : List PlainEvent) (n : ℕ) (ops : List FileOp) → AllByRecursion (There xs) (flat_map op_blobs ops) → AllByRecursion (There xs) (flat_map op_blobs (take n ops)) × AllByRecursion (There xs) (flat_map op_blobs (drop n ops))
blobs_parts xs n ops a =
    let each = parted_blobs xs ops a in
    (joined_blobs xs (take n ops) (all_take (λ op. AllByRecursion (There xs) (op_blobs op)) n ops each), joined_blobs xs (drop n ops) (all_drop (λ op. AllByRecursion (There xs) (op_blobs op)) n ops each))

-- a sum over lists that events become
tally_into : (f g : PlainEvent → ℕ) (h : PlainEvent → List PlainEvent) → ((e : PlainEvent) → tally f (h e) ≤ g e) → (es : List PlainEvent) → tally f (flat_map h es) ≤ tally g es
tally_into f g h each [] = omega arith
tally_into f g h each (e ∷ es) =
    let one = each e in
    let rest = tally_into f g h each es in
    let parts = tally_append f (h e) (flat_map h es) in
    omega arith

-- one sum where a test passes, and else nothing
abbrev only_if : Bool → (PlainEvent → ℕ) → PlainEvent → ℕ
only_if b f e = cond b (f e) 0

tally_if : (b : Bool) (f : PlainEvent → ℕ) (es : List PlainEvent) → tally (only_if b f) es ≡ cond b (tally f es) 0
tally_if true f [] = refl
tally_if false f [] = refl
tally_if true f (e ∷ es) = ap (λ n. f e + n) (tally_if true f es)
tally_if false f (e ∷ es) = let rest = tally_if false f es in omega arith

at_most_once : (b : Bool) (own other : ℕ) → own ≤ 1 → other ≤ 1 → (b ≡ true → own ≡ 0) → own + cond b other 0 ≤ 1
at_most_once true own other o t f = let none = f refl in omega arith
at_most_once false own other o t f = omega arith

-- ---- the split

module _ (c copy mark kept : ℕ) where
  abbrev halves : PlainEvent → List PlainEvent
  halves e = split_event c copy mark kept e

  abbrev to : ℕ → ℕ
  to d = onto c copy d

  -- ---- ids

  kept_ids : (e : PlainEvent) (id : AnyId) → has_id (e ∷ []) id ≡ true → has_id (halves e) id ≡ true
  kept_ids (Commit i m branch author committer encoding comment parents ops aliases) id h =
      let e : PlainEvent = Commit i m branch author committer encoding comment parents ops aliases in
      go (i == c) (sym (own_id e id) ∙ h)
    where
      go : (b : Bool) → same_id id (any.Commit i) ≡ true → has_id (cond b (
          Commit i m branch author committer encoding comment parents (take kept ops) aliases
          ∷ Commit copy mark branch author committer encoding comment (i ∷ []) (drop kept ops) []
          ∷ []
          ) (Commit i m branch author committer encoding comment (map to parents) ops aliases ∷ [])) id ≡ true
      go true x =
          has_id_cons (Commit i m branch author committer encoding comment parents (take kept ops) aliases) (Commit copy mark branch author committer encoding comment (i ∷ []) (drop kept ops) [] ∷ []) id
          ∙ or_left (same_id id (any.Commit i)) (has_id (Commit copy mark branch author committer encoding comment (i ∷ []) (drop kept ops) [] ∷ []) id) x
      go false x = own_id (Commit i m branch author committer encoding comment (map to parents) ops aliases) id ∙ x
  kept_ids (Blob i m bytes) id h = h
  kept_ids (Tag i name target tagger comment mark) id h = own_id (Tag i name (to target) tagger comment mark) id ∙ sym (own_id (Tag i name target tagger comment mark) id) ∙ h
  kept_ids (Reset i branch target) id h = own_id (Reset i branch (option_map to target)) id ∙ sym (own_id (Reset i branch target) id) ∙ h
  kept_ids (Pass i line) id h = h

  still : (xs : List PlainEvent) (id : AnyId) → has_id xs id ≡ true → has_id (flat_map halves xs) id ≡ true
  still [] id h = absurd (true≢false (sym h))
  still (x ∷ xs) id h =
      has_id_append (halves x) (flat_map halves xs) id
      ∙ elim (or_cases (has_id (x ∷ []) id) (has_id xs id) (sym (has_id_append (x ∷ []) xs id) ∙ h)) [
        | inl own ↦ or_left (has_id (halves x) id) (has_id (flat_map halves xs) id) (kept_ids x id own)
        | inr later ↦ or_right (has_id (halves x) id) (has_id (flat_map halves xs) id) (still xs id later)
      ]

  own_copy : (e : PlainEvent) → has_id (e ∷ []) (any.Commit c) ≡ true → has_id (halves e) (any.Commit copy) ≡ true
  own_copy (Commit i m branch author committer encoding comment parents ops aliases) h = go (i == c) (one (i == c) h)
    where
      one : (b : Bool) → b || false ≡ true → b ≡ true
      one true h = refl
      one false h = absurd (true≢false (sym h))

      go : (b : Bool) → b ≡ true → has_id (cond b (
          Commit i m branch author committer encoding comment parents (take kept ops) aliases
          ∷ Commit copy mark branch author committer encoding comment (i ∷ []) (drop kept ops) []
          ∷ []
          ) (Commit i m branch author committer encoding comment (map to parents) ops aliases ∷ [])) (any.Commit copy) ≡ true
      go true x = or_right (i == copy) ((copy == copy) || false) (or_left (copy == copy) false (eq-eqb copy copy refl))
      go false x = absurd (true≢false (sym x))
  own_copy (Blob i m bytes) h = absurd (true≢false (sym h))
  own_copy (Tag i name target tagger comment mark) h = absurd (true≢false (sym h))
  own_copy (Reset i branch target) h = absurd (true≢false (sym h))
  own_copy (Pass i line) h = absurd (true≢false (sym h))

  copy_there : (xs : List PlainEvent) → IsHere xs c → IsHere (flat_map halves xs) copy
  copy_there [] h = absurd (true≢false (sym h))
  copy_there (x ∷ xs) h =
      has_id_append (halves x) (flat_map halves xs) (any.Commit copy)
      ∙ elim (or_cases (has_id (x ∷ []) (any.Commit c)) (has_id xs (any.Commit c)) (sym (has_id_append (x ∷ []) xs (any.Commit c)) ∙ h)) [
        | inl own ↦ or_left (has_id (halves x) (any.Commit copy)) (has_id (flat_map halves xs) (any.Commit copy)) (own_copy x own)
        | inr later ↦ or_right (has_id (halves x) (any.Commit copy)) (has_id (flat_map halves xs) (any.Commit copy)) (copy_there xs later)
      ]

  onto_there : (xs : List PlainEvent) (p : ℕ) → IsHere xs p → IsHere (flat_map halves xs) (to p)
  onto_there xs p h =
      elim (cases_Bool (p == c)) [
        | inl it ↦ subst (IsHere (flat_map halves xs)) (sym (cond-true (p == c) copy p it)) (copy_there xs (subst (IsHere xs) (eqb-true p c it) h))
        | inr other ↦ subst (IsHere (flat_map halves xs)) (sym (cond-false (p == c) copy p other)) (still xs (any.Commit p) h)
      ]

  all_onto : (xs : List PlainEvent) (ps : List ℕ) → AllByRecursion (IsHere xs) ps → AllByRecursion (IsHere (flat_map halves xs)) (map to ps)
  all_onto xs [] h = tt
  all_onto xs (p ∷ ps) h = (onto_there xs p h.0, all_onto xs ps h.1)

  -- ---- ids and marks stand once

  -- one for the copy
  abbrev copied_id : AnyId → PlainEvent → ℕ
  copied_id id e = only_if (same_id id (any.Commit copy)) (of_id (any.Commit c)) e

  abbrev copied_mark : ℕ → PlainEvent → ℕ
  copied_mark m e = only_if (mark == m) (of_id (any.Commit c)) e

  one_id : (id : AnyId) (e : PlainEvent) → tally (of_id id) (halves e) ≤ of_id id e + copied_id id e
  one_id id (Commit i m branch author committer encoding comment parents ops aliases) = go (i == c) refl
    where
      e : PlainEvent
      e = Commit i m branch author committer encoding comment parents ops aliases

      first : PlainEvent
      first = Commit i m branch author committer encoding comment parents (take kept ops) aliases

      second : PlainEvent
      second = Commit copy mark branch author committer encoding comment (i ∷ []) (drop kept ops) []

      moved : PlainEvent
      moved = Commit i m branch author committer encoding comment (map to parents) ops aliases

      its_copy : (b : Bool) → (i == c) ≡ true → one_if b ≤ cond b (of_id (any.Commit c) e) 0
      its_copy true is = let one : of_id (any.Commit c) e ≡ 1 = ap (λ b. one_if (b || false)) is in omega arith
      its_copy false is = omega arith

      go : (b : Bool) → (i == c) ≡ b → tally (of_id id) (cond b (first ∷ second ∷ []) (moved ∷ [])) ≤ of_id id e + copied_id id e
      go true is =
          let one = own_sum id first e refl in
          let two : of_id id second ≡ one_if (same_id id (any.Commit copy)) = ap one_if (own_id second id) in
          let three = its_copy (same_id id (any.Commit copy)) is in
          omega arith
      go false is = let one = own_sum id moved e refl in omega arith
  one_id id (Blob i m bytes) = omega arith
  one_id id (Tag i name target tagger comment mark) = let one = own_sum id (Tag i name (to target) tagger comment mark) (Tag i name target tagger comment mark) refl in omega arith
  one_id id (Reset i branch target) = let one = own_sum id (Reset i branch (option_map to target)) (Reset i branch target) refl in omega arith
  one_id id (Pass i line) = omega arith

  one_mark : (n : ℕ) (e : PlainEvent) → tally (of_mark n) (halves e) ≤ of_mark n e + copied_mark n e
  one_mark n (Commit i m branch author committer encoding comment parents ops aliases) = go (i == c) refl
    where
      e : PlainEvent
      e = Commit i m branch author committer encoding comment parents ops aliases

      first : PlainEvent
      first = Commit i m branch author committer encoding comment parents (take kept ops) aliases

      second : PlainEvent
      second = Commit copy mark branch author committer encoding comment (i ∷ []) (drop kept ops) []

      moved : PlainEvent
      moved = Commit i m branch author committer encoding comment (map to parents) ops aliases

      its_copy : (b : Bool) → (i == c) ≡ true → one_if (b || false) ≤ cond b (of_id (any.Commit c) e) 0
      its_copy true is = let one : of_id (any.Commit c) e ≡ 1 = ap (λ b. one_if (b || false)) is in omega arith
      its_copy false is = omega arith

      go : (b : Bool) → (i == c) ≡ b → tally (of_mark n) (cond b (first ∷ second ∷ []) (moved ∷ [])) ≤ of_mark n e + copied_mark n e
      go true is = let three = its_copy (mark == n) is in omega arith
      go false is = omega arith
  one_mark n (Blob i m bytes) = omega arith
  one_mark n (Tag i name target tagger comment mark) = omega arith
  one_mark n (Reset i branch target) = omega arith
  one_mark n (Pass i line) = omega arith

  -- ---- order

  ready_first : (xs : List PlainEvent) (ps : List ℕ) (ops : List FileOp) (id : ℕ) → list_all (has_id xs) (map any.Commit ps ++ flat_map op_blobs ops) ≡ true → AllByRecursion (There (flat_map halves xs)) (map any.Commit ps ++ flat_map op_blobs ops)
  ready_first xs ps ops id r = all_imply (There xs) (There (flat_map halves xs)) (λ x h. still xs x h) (map any.Commit ps ++ flat_map op_blobs ops) (all_true (has_id xs) (map any.Commit ps ++ flat_map op_blobs ops) r)

  more_there : (xs ys : List PlainEvent) (ids : List AnyId) → AllByRecursion (There xs) ids → AllByRecursion (There (xs ++ ys)) ids
  more_there xs ys ids a = all_imply (There xs) (There (xs ++ ys)) (λ x h. has_id_append xs ys x ∙ or_left (has_id xs x) (has_id ys x) h) ids a

  own_order : (xs : List PlainEvent) (e : PlainEvent) → is_ready xs e ≡ true → AreInOrder (flat_map halves xs) (halves e)
  own_order xs (Commit i m branch author committer encoding comment parents ops aliases) r = go (i == c)
    where
      before : List PlainEvent
      before = flat_map halves xs

      first : PlainEvent
      first = Commit i m branch author committer encoding comment parents (take kept ops) aliases

      second : PlainEvent
      second = Commit copy mark branch author committer encoding comment (i ∷ []) (drop kept ops) []

      refs : AllByRecursion (There before) (map any.Commit parents ++ flat_map op_blobs ops)
      refs = ready_first xs parents ops i r

      blobs : AllByRecursion (There before) (flat_map op_blobs (take kept ops)) × AllByRecursion (There before) (flat_map op_blobs (drop kept ops))
      blobs = blobs_parts before kept ops (all_rear (There before) (map any.Commit parents) (flat_map op_blobs ops) refs)

      go : (b : Bool) → AreInOrder before (cond b (first ∷ second ∷ []) (Commit i m branch author committer encoding comment (map to parents) ops aliases ∷ []))
      go true = (
        true_all (has_id before) (map any.Commit parents ++ flat_map op_blobs (take kept ops))
            (all_join (There before) (map any.Commit parents) (flat_map op_blobs (take kept ops)) (all_front (There before) (map any.Commit parents) (flat_map op_blobs ops) refs) blobs.0),
        (
          true_all (has_id (before ++ first ∷ [])) (any.Commit i ∷ flat_map op_blobs (drop kept ops)) (
            has_id_append before (first ∷ []) (any.Commit i) ∙ or_right (has_id before (any.Commit i)) (has_id (first ∷ []) (any.Commit i)) (has_own_id first),
            more_there before (first ∷ []) (flat_map op_blobs (drop kept ops)) blobs.1,
          ),
          tt,
        ),
      )
      go false = (
        true_all (has_id before) (map any.Commit (map to parents) ++ flat_map op_blobs ops)
            (all_join (There before) (map any.Commit (map to parents)) (flat_map op_blobs ops) (here_parents before (map to parents) (all_onto xs parents (parents_here xs parents ops r)))
            (all_rear (There before) (map any.Commit parents) (flat_map op_blobs ops) refs)),
        tt,
      )
  own_order xs (Blob i m bytes) r = (refl, tt)
  own_order xs (Tag i name target tagger comment mark) r = (true_all (has_id (flat_map halves xs)) (any.Commit (to target) ∷ []) (onto_there xs target (all_true (has_id xs) (any.Commit target ∷ []) r).0, tt), tt)
  own_order xs (Reset i branch None) r = (refl, tt)
  own_order xs (Reset i branch (Some target)) r = (true_all (has_id (flat_map halves xs)) (any.Commit (to target) ∷ []) (onto_there xs target (all_true (has_id xs) (any.Commit target ∷ []) r).0, tt), tt)
  own_order xs (Pass i line) r = (refl, tt)

  order_join : (earlier xs ys : List PlainEvent) → AreInOrder earlier xs → AreInOrder (earlier ++ xs) ys → AreInOrder earlier (xs ++ ys)
  order_join earlier [] ys a b = subst (λ (l : List PlainEvent). AreInOrder l ys) (append-nil earlier) b
  order_join earlier (x ∷ xs) ys a b = (a.0, order_join (earlier ++ x ∷ []) xs ys a.1 (subst (λ (l : List PlainEvent). AreInOrder l ys) (sym (append_assoc earlier (x ∷ []) xs)) b))

  split_order : (xs es : List PlainEvent) → AreInOrder xs es → AreInOrder (flat_map halves xs) (flat_map halves es)
  split_order xs [] s = tt
  split_order xs (e ∷ es) s =
      order_join (flat_map halves xs) (halves e) (flat_map halves es) (own_order xs e s.0)
      (subst (λ (l : List PlainEvent). AreInOrder l (flat_map halves es)) (flat_more xs e) (split_order (xs ++ e ∷ []) es s.1))
    where
      flat_more : (xs : List PlainEvent) (e : PlainEvent) → flat_map halves (xs ++ e ∷ []) ≡ flat_map halves xs ++ halves e
      flat_more [] e = append-nil (halves e)
      flat_more (x ∷ xs) e = ap (λ (l : List PlainEvent). halves x ++ l) (flat_more xs e) ∙ sym (append_assoc (halves x) (flat_map halves xs) (halves e))

  -- ---- parents

  -- none of them is the copy
  abbrev IsOld : ℕ → Type 0
  IsOld p = (p == copy) ≡ false

  same_onto : (a b : ℕ) → IsOld a → IsOld b → (to a == to b) ≡ (a == b)
  same_onto a b x y = go (a == c) refl (b == c) refl
    where
      go : (s : Bool) → (a == c) ≡ s → (t : Bool) → (b == c) ≡ t → (cond s copy a == cond t copy b) ≡ (a == b)
      go true p true q = eq-eqb copy copy refl ∙ sym (ap (λ n. n == b) (eqb-true a c p) ∙ ap (λ n. c == n) (eqb-true b c q) ∙ eq-eqb c c refl)
      go true p false q = eqb_turned copy b ∙ y ∙ sym (ap (λ n. n == b) (eqb-true a c p) ∙ eqb_turned c b ∙ q)
      go false p true q = x ∙ sym (ap (λ n. a == n) (eqb-true b c q) ∙ p)
      go false p false q = refl

  any_onto : (p : ℕ) (ps : List ℕ) → IsOld p → AllByRecursion IsOld ps → list_any (λ m. m == to p) (map to ps) ≡ list_any (λ m. m == p) ps
  any_onto p [] o a = refl
  any_onto p (q ∷ qs) o a = λ i. same_onto q p a.0 o i || any_onto p qs o a.1 i

  distinct_onto : (ps : List ℕ) → AllByRecursion IsOld ps → are_distinct (map to ps) ≡ are_distinct ps
  distinct_onto [] a = refl
  distinct_onto (p ∷ ps) a = λ i. not (any_onto p ps a.0 a.1 i) && distinct_onto ps a.1 i

  -- ---- the whole history

  module _ (events : List PlainEvent) (h : IsSound events) (there : IsHere events c) (fresh : has_id events (any.Commit copy) ≡ false) (new_mark : is_marked events mark ≡ false) (is_mark : IsMark mark) where
    abbrev number : ℕ → ℕ
    number = rank events h

    -- a commit that is there isn't the copy
    old : (p : ℕ) → IsHere events p → IsOld p
    old p k =
        elim (cases_Bool (p == copy)) [
          | inl it ↦ absurd (true≢false (sym (ap (λ n. has_id events (any.Commit n)) (sym (eqb-true p copy it)) ∙ k) ∙ fresh))
          | inr other ↦ other
        ]

    all_old : (ps : List ℕ) → AllByRecursion (IsHere events) ps → AllByRecursion IsOld ps
    all_old ps a = all_imply (IsHere events) IsOld old ps a

    lawful : (e : PlainEvent) → IsGiven events number e → AllByRecursion IsLawful (halves e)
    lawful (Commit i m branch author committer encoding comment parents ops aliases) g = go (i == c)
      where
        go : (b : Bool) → AllByRecursion IsLawful (cond b (
            Commit i m branch author committer encoding comment parents (take kept ops) aliases
            ∷ Commit copy mark branch author committer encoding comment (i ∷ []) (drop kept ops) []
            ∷ []
            ) (Commit i m branch author committer encoding comment (map to parents) ops aliases ∷ []))
        go true =
            let l = g.lawful in (
              (l.0, l.1, l.2, l.3, l.4, all_take IsLawfulOp kept ops l.5, l.6),
              ((l.0, l.1, l.2, l.3, refl, all_drop IsLawfulOp kept ops l.5, refl), tt),
            )
        go false =
            let l = g.lawful in
            ((l.0, l.1, l.2, l.3, distinct_onto parents (all_old parents (parents_here events parents ops g.ready)) ∙ l.4, l.5, l.6), tt)
    lawful (Blob i m bytes) g = (g.lawful, tt)
    lawful (Tag i name target tagger comment mark) g = (g.lawful, tt)
    lawful (Reset i branch target) g = (g.lawful, tt)
    lawful (Pass i line) g = (g.lawful, tt)

    spelled : (e : PlainEvent) → IsGiven events number e → AllByRecursion IsFormedEvent (halves e)
    spelled (Commit i m branch author committer encoding comment parents ops aliases) g =
        let f = g.spelled in
        elim (i == c) as (λ b. AllByRecursion IsFormedEvent (cond b (
        Commit i m branch author committer encoding comment parents (take kept ops) aliases
        ∷ Commit copy mark branch author committer encoding comment (i ∷ []) (drop kept ops) []
        ∷ []
        ) (Commit i m branch author committer encoding comment (map to parents) ops aliases ∷ []))) [
          | true ↦ ((f.0, all_take IsFormedOp kept ops f.1, f.2), ((is_mark, all_drop IsFormedOp kept ops f.1, tt), tt))
          | false ↦ (f, tt)
        ]
    spelled (Blob i m bytes) g = (g.spelled, tt)
    spelled (Tag i name target tagger comment mark) g = (g.spelled, tt)
    spelled (Reset i branch target) g = (tt, tt)
    spelled (Pass i line) g = (tt, tt)

    few : (e : PlainEvent) → IsGiven events number e → AllByRecursion HasFewParents (halves e)
    few (Commit i m branch author committer encoding comment parents ops aliases) g = go (i == c)
      where
        one_few : 1 ≤ MAX_PARENTS
        one_few = omega arith

        go : (b : Bool) → AllByRecursion HasFewParents (cond b (
            Commit i m branch author committer encoding comment parents (take kept ops) aliases
            ∷ Commit copy mark branch author committer encoding comment (i ∷ []) (drop kept ops) []
            ∷ []
            ) (Commit i m branch author committer encoding comment (map to parents) ops aliases ∷ []))
        go true = (g.few, (one_few, tt))
        go false = (subst (λ n. n ≤ MAX_PARENTS) (sym (length-map parents to)) g.few, tt)
    few (Blob i m bytes) g = (g.few, tt)
    few (Tag i name target tagger comment mark) g = (g.few, tt)
    few (Reset i branch target) g = (g.few, tt)
    few (Pass i line) g = (g.few, tt)

    once : AreOnce (split_list c copy mark kept events)
    once = record {
      ids = λ id.
          let o = (in_parts events h).once in
          let most = tally_into (of_id id) (λ e. of_id id e + copied_id id e) halves (one_id id) events in
          let two = tally_sum (of_id id) (copied_id id) events in
          let if_copy = tally_if (same_id id (any.Commit copy)) (of_id (any.Commit c)) events in
          let all = at_most_once (same_id id (any.Commit copy)) (tally (of_id id) events) (tally (of_id (any.Commit c)) events) (o.ids id) (o.ids (any.Commit c))
          (λ is. none_passing (λ l. has_id l id) (λ xs ys. has_id_append xs ys id) refl events (ap (has_id events) (same_id_true id (any.Commit copy) is) ∙ fresh)) in
          omega arith;
      marks = λ n.
          let o = (in_parts events h).once in
          let most = tally_into (of_mark n) (λ e. of_mark n e + copied_mark n e) halves (one_mark n) events in
          let two = tally_sum (of_mark n) (copied_mark n) events in
          let if_copy = tally_if (mark == n) (of_id (any.Commit c)) events in
          let all = at_most_once (mark == n) (tally (of_mark n) events) (tally (of_id (any.Commit c)) events) (o.marks n) (o.ids (any.Commit c))
          (λ is. none_passing (λ l. is_marked l n) (λ xs ys. is_marked_append xs ys n) refl events (ap (is_marked events) (sym (eqb-true mark n is)) ∙ new_mark)) in
          omega arith;
    }

    -- ---- trees

    -- what the operations that stay make
    abbrev half : Option Tree
    half = folded (take kept (node_of events c).ops) (begun (tree events) (node_of events c).parents)

    abbrev tree_of : ℕ → Option Tree
    tree_of d = cond (d == copy) (tree events c) (cond (d == c) half (tree events d))

    tree_of_copy : tree_of copy ≡ tree events c
    tree_of_copy = cond-true (copy == copy) (tree events c) (cond (copy == c) half (tree events copy)) (eq-eqb copy copy refl)

    tree_of_it : (d : ℕ) → IsOld d → (d == c) ≡ true → tree_of d ≡ half
    tree_of_it d o is = cond-false (d == copy) (tree events c) (cond (d == c) half (tree events d)) o ∙ cond-true (d == c) half (tree events d) is

    tree_of_other : (d : ℕ) → IsOld d → (d == c) ≡ false → tree_of d ≡ tree events d
    tree_of_other d o is = cond-false (d == copy) (tree events c) (cond (d == c) half (tree events d)) o ∙ cond-false (d == c) half (tree events d) is

    -- the copy has the tree of the commit
    tree_onto : (p : ℕ) → IsOld p → tree_of (to p) ≡ tree events p
    tree_onto p o =
        elim (cases_Bool (p == c)) [
          | inl it ↦ ap tree_of (cond-true (p == c) copy p it) ∙ tree_of_copy ∙ ap (tree events) (sym (eqb-true p c it))
          | inr other ↦ ap tree_of (cond-false (p == c) copy p other) ∙ tree_of_other p o other
        ]

    begins_onto : (ps : List ℕ) → AllByRecursion IsOld ps → begun tree_of (map to ps) ≡ begun (tree events) ps
    begins_onto [] a = refl
    begins_onto (p ∷ ps) a = tree_onto p a.0

    -- a parent is another commit
    begins_before : (i : ℕ) (ps : List ℕ) → (i == c) ≡ true → AllByRecursion IsOld ps → AllByRecursion (λ p. number p < number i) ps → begun tree_of ps ≡ begun (tree events) ps
    begins_before i [] is a low = refl
    begins_before i (p ∷ ps) is a low = tree_of_other p a.0 (elim (cases_Bool (p == c)) [
      | inl it ↦ let same : number p ≡ number i = ap number (eqb-true p c it ∙ sym (eqb-true i c is)) in let less = low.0 in absurd (omega arith)
      | inr other ↦ other
    ])

    fits : (e : PlainEvent) → IsGiven events number e → AllByRecursion (OfNodes (Fits tree_of)) (halves e)
    fits (Commit i m branch author committer encoding comment parents ops aliases) g = go (i == c) refl
      where
        before : AllByRecursion IsOld parents
        before = all_old parents (parents_here events parents ops g.ready)

        n : Node
        n = record { id = i; parents = parents; ops = ops }

        go : (b : Bool) → (i == c) ≡ b → AllByRecursion (OfNodes (Fits tree_of)) (cond b (
            Commit i m branch author committer encoding comment parents (take kept ops) aliases
            ∷ Commit copy mark branch author committer encoding comment (i ∷ []) (drop kept ops) []
            ∷ []
            ) (Commit i m branch author committer encoding comment (map to parents) ops aliases ∷ []))
        go true is =
            let its : node_of events c ≡ n = ap (λ (o : Option Node). unwrap_or o (record { id = c; parents = []; ops = [] })) (ap (node_at (past events)) (sym (eqb-true i c is)) ∙ g.found.0) in
            let first : tree_of i ≡ folded (take kept ops) (begun (tree events) parents) = tree_of_it i (old i g.here) is ∙ ap (λ (m : Node). folded (take kept m.ops) (begun (tree events) m.parents)) its in (
              (first ∙ ap (folded (take kept ops)) (sym (begins_before i parents is before g.low.0)), tt),
              (
                (
                  tree_of_copy
                      ∙ ap (tree events) (sym (eqb-true i c is))
                      ∙ g.fits.0
                      ∙ ap (λ (l : List FileOp). folded l (begun (tree events) parents)) (sym (take-append-drop kept ops))
                      ∙ folded_more (take kept ops) (drop kept ops) (begun (tree events) parents)
                      ∙ ap (folded (drop kept ops)) (sym first),
                  tt,
                ),
                tt,
              ),
            )
        go false is = ((tree_of_other i (old i g.here) is ∙ g.fits.0 ∙ ap (folded ops) (sym (begins_onto parents before)), tt), tt)
    fits (Blob i m bytes) g = (tt, tt)
    fits (Tag i name target tagger comment mark) g = (tt, tt)
    fits (Reset i branch target) g = (tt, tt)
    fits (Pass i line) g = (tt, tt)

    -- ---- the list after

    abbrev new : List PlainEvent
    new = split_list c copy mark kept events

    order : AreInOrder [] new
    order = split_order [] events (in_parts events h).in_order

    pub split_trees : (d : ℕ) → IsCommitOf new d → tree new d ≡ tree_of d
    split_trees d k = trees_solve tree_of new order (events_of_nodes (Fits tree_of) new (all_flat (IsGiven events number) (OfNodes (Fits tree_of)) halves fits events (all_given events h))) d k

    -- a commit of the list after is the copy, or was there
    was_there : (d : ℕ) → IsHere new d → IsOld d → IsHere events d
    was_there d k o =
        elim (cases_Bool (has_id events (any.Commit d))) [
          | inl it ↦ it
          | inr absent ↦
              let some = some_passing (λ l. has_id l (any.Commit d)) (λ xs ys. has_id_append xs ys (any.Commit d)) refl new k in
              let none = none_passing (λ l. has_id l (any.Commit d)) (λ xs ys. has_id_append xs ys (any.Commit d)) refl events absent in
              let most = tally_into (of_id (any.Commit d)) (λ e. of_id (any.Commit d) e + copied_id (any.Commit d) e) halves (one_id (any.Commit d)) events in
              let two = tally_sum (of_id (any.Commit d)) (copied_id (any.Commit d)) events in
              let if_copy = tally_if (d == copy) (of_id (any.Commit c)) events in
              let nothing : cond (d == copy) (tally (of_id (any.Commit c)) events) 0 ≡ 0 = cond-false (d == copy) (tally (of_id (any.Commit c)) events) 0 o in
              absurd (omega arith)
        ]

    folded_some : (ops : List FileOp) (o : Option Tree) → IsSome (folded ops o) → IsSome o
    folded_some ops None s = absurd (true≢false (sym s))
    folded_some ops (Some t) s = refl

    half_there : (es : List PlainEvent) → AllByRecursion (IsGiven events number) es → has_id es (any.Commit c) ≡ true → IsSome half
    half_there [] a k = absurd (true≢false (sym k))
    half_there (Commit i m branch author committer encoding comment parents ops aliases ∷ es) a k =
        elim (or_cases (i == c) (has_id es (any.Commit c)) k) [
          | inl is ↦
              let g = a.0 in
              let n : Node = record { id = i; parents = parents; ops = ops } in
              let its : node_of events c ≡ n = ap (λ (o : Option Node). unwrap_or o (record { id = c; parents = []; ops = [] })) (ap (node_at (past events)) (sym (eqb-true i c is)) ∙ g.found.0) in
              let whole : tree events c ≡ folded (drop kept ops) (folded (take kept ops) (begun (tree events) parents)) =
              ap (tree events) (sym (eqb-true i c is)) ∙ g.fits.0 ∙ ap (λ (l : List FileOp). folded l (begun (tree events) parents)) (sym (take-append-drop kept ops)) ∙ folded_more (take kept ops) (drop kept ops) (begun (tree events) parents) in
              subst IsSome (sym (ap (λ (m : Node). folded (take kept m.ops) (begun (tree events) m.parents)) its))
              (folded_some (drop kept ops) (folded (take kept ops) (begun (tree events) parents)) (subst IsSome whole (h.trees c there)))
          | inr later ↦ half_there es a.1 later
        ]
    half_there (Blob i m bytes ∷ es) a k = half_there es a.1 k
    half_there (Tag i name target tagger comment mark ∷ es) a k = half_there es a.1 k
    half_there (Reset i branch target ∷ es) a k = half_there es a.1 k
    half_there (Pass i line ∷ es) a k = half_there es a.1 k

    has_tree : (d : ℕ) → IsHere new d → IsSome (tree_of d)
    has_tree d k =
        elim (cases_Bool (d == copy)) [
          | inl it ↦ subst IsSome (sym (cond-true (d == copy) (tree events c) (cond (d == c) half (tree events d)) it)) (h.trees c there)
          | inr o ↦ elim (cases_Bool (d == c)) [
            | inl is ↦ subst IsSome (sym (tree_of_it d o is)) (half_there events (all_given events h) there)
            | inr other ↦ subst IsSome (sym (tree_of_other d o other)) (h.trees d (was_there d k o))
          ]
        ]

    pub split_sound : IsSound new
    split_sound = from_parts new (record {
      lawful = all_flat (IsGiven events number) IsLawful halves lawful events (all_given events h);
      spelled = all_flat (IsGiven events number) IsFormedEvent halves spelled events (all_given events h);
      few = all_flat (IsGiven events number) HasFewParents halves few events (all_given events h);
      once = once;
      in_order = order;
      trees = λ d k. subst IsSome (sym (split_trees d k)) (has_tree d k);
    })

    -- the copy is there, with the tree of the commit
    pub copy_here : IsCommitOf new copy
    copy_here = copy_there events there

    pub copy_tree : tree new copy ≡ tree events c
    copy_tree = split_trees copy copy_here ∙ tree_of_copy

    -- each commit is there, and all but the one have the tree that they had
    pub still_here : (d : ℕ) → IsCommitOf events d → IsCommitOf new d
    still_here d k = still events (any.Commit d) k

    pub other_tree : (d : ℕ) → IsCommitOf events d → (d == c) ≡ false → tree new d ≡ tree events d
    other_tree d k other = split_trees d (still_here d k) ∙ tree_of_other d (old d k) other

    bytes_kept : (e : PlainEvent) → HasBytesOf events e → AllByRecursion (HasBytesOf events) (halves e)
    bytes_kept (Commit i m branch author committer encoding comment parents ops aliases) f =
        elim (i == c) as (λ b. AllByRecursion (HasBytesOf events) (cond b (
        Commit i m branch author committer encoding comment parents (take kept ops) aliases
        ∷ Commit copy mark branch author committer encoding comment (i ∷ []) (drop kept ops) []
        ∷ []
        ) (Commit i m branch author committer encoding comment (map to parents) ops aliases ∷ []))) [ true ↦ (tt, (tt, tt)) | false ↦ (tt, tt) ]
    bytes_kept (Blob i m bytes) f = (f, tt)
    bytes_kept (Tag i name target tagger comment mark) f = (tt, tt)
    bytes_kept (Reset i branch target) f = (tt, tt)
    bytes_kept (Pass i line) f = (tt, tt)

    -- trees that are the same show the same
    pub split_shown : (d e : ℕ) → tree new d ≡ tree events e → shown_tree new d ≡ shown_tree events e
    split_shown d e same =
        shown_alike events new (all_flat (HasBytesOf events) (HasBytesOf events) halves bytes_kept events (has_own_bytes events (in_parts events h).once)) (sound_settles new split_sound).complete d e same
