-- Marks that are given anew to the last events of a list, from a number on that is above those of the first ones.
use Rattle.std.proofs.Common.{◌≡◌, ℕ, ◌+◌, ◌≤◌, ◌<◌, true, false, cond, List, [], ◌∷◌, ◌++◌, length, refl, sym, ap, ◌∙◌, inl, inr, arith, length-append, Option, Some, None, option_map, reverse}
use Rattle.std.specs.Prelude.{◌&&◌, ◌==◌, ◌||◌, IsSome}
use Rattle.std.specs.List.{AllByRecursion, list_all}
use Rattle.std.proofs.lemmas.Bool.{cases_Bool, cases_lt}
use Rattle.plain_model.specs.declared.id.AnyId.{AnyId}
use Rattle.plain_model.specs.declared.limit.TheConstants.{MAX_MARK}
use Rattle.plain_model.specs.declared.operation.Content.{Content}
use Rattle.plain_model.specs.declared.operation.Content.TheVariants.{Blob as OfBlob, Object}
use Rattle.plain_model.specs.declared.operation.Entry.{Entry}
use Rattle.plain_model.specs.declared.event.PlainEvent.{PlainEvent}
use Rattle.plain_model.specs.declared.event.PlainEvent.TheVariants.{Blob, Commit, Tag, Reset, Pass}
use Rattle.plain_model.specs.Histories.{Node, nodes, tree, tree_in}
use Rattle.plain_model.specs.Lookups.{event_marks, event_parents, marks_of, own_marks, referents_of}
use Rattle.plain_model.specs.Snapshots.{Shown, ShownContent, blob_bytes, map_tree, shown, shown_content, shown_tree}
use Rattle.plain_model.specs.Snapshots.ShownContent.{ShownBytes}
use Rattle.plain_model.specs.Soundness.{IsCommitOf, IsFormedEvent, IsSound, has_id}
use Rattle.plain_model.specs.Streams.{is_among, is_marked}
use Rattle.plain_model.specs.Trees.{TreeOf}
use Rattle.edit_laws.specs.Parts.{AreInOrder, AreOnce, HasFewParents, IsLawful, of_id, of_mark, one_if, tally}
use Rattle.edit_laws.specs.Settling.{is_ready}
use Rattle.edit_laws.proofs.Lists.{all_front, all_rear, none_passing, tally_append}
use Rattle.edit_laws.proofs.Sound.{from_parts}
use Rattle.history_laws.proofs.SoundOnce.{is_marked_own}
use Rattle.history_laws.proofs.Commits.{nodes_append}
use Rattle.history_laws.proofs.Ids.{has_id_append, is_marked_append}
use Rattle.history_laws.proofs.Lists.{all_join}
use Rattle.renumbering.specs.Renumbered.{marked_from, renumbered_from}
use Rattle.renumbering.proofs.Kept.{has_id_same, nodes_same}
use Rattle.renumbering.proofs.Marks.{among_from, distinct_from, event_from, length_own, marks_are}
use Rattle.graft_laws.specs.Joined.{IsLinked}
use Rattle.graft_laws.proofs.Behind.{order_join, order_parts}

-- ---- events

marked_lawful : (n : ℕ) (e : PlainEvent) → IsLawful e → IsLawful (marked_from n e)
marked_lawful n (Blob id mark bytes) h = tt
marked_lawful n (Commit id mark branch author committer encoding comment parents ops aliases) h = (h.0, h.1, h.2, h.3, h.4, h.5, distinct_from n (mark ∷ aliases))
marked_lawful n (Tag id name target tagger comment mark) h = h
marked_lawful n (Reset id branch target) h = h
marked_lawful n (Pass id line) h = h

marked_formed : (n : ℕ) (e : PlainEvent) → 1 ≤ n → n + length (event_marks e) ≤ MAX_MARK + 1 → IsFormedEvent e → IsFormedEvent (marked_from n e)
marked_formed n (Blob id mark bytes) low few h = (low, omega arith)
marked_formed n (Commit id mark branch author committer encoding comment parents ops aliases) low few h = ((low, omega arith), h.1, marks_are (n + 1) aliases (omega arith) (omega arith))
marked_formed n (Tag id name target tagger comment None) low few h = tt
marked_formed n (Tag id name target tagger comment (Some mark)) low few h = (low, omega arith)
marked_formed n (Reset id branch target) low few h = tt
marked_formed n (Pass id line) low few h = tt

same_parents : (n : ℕ) (e : PlainEvent) → event_parents (marked_from n e) ≡ event_parents e
same_parents n (Blob id mark bytes) = refl
same_parents n (Commit id mark branch author committer encoding comment parents ops aliases) = refl
same_parents n (Tag id name target tagger comment mark) = refl
same_parents n (Reset id branch target) = refl
same_parents n (Pass id line) = refl

same_referents : (n : ℕ) (e : PlainEvent) → referents_of (marked_from n e) ≡ referents_of e
same_referents n (Blob id mark bytes) = refl
same_referents n (Commit id mark branch author committer encoding comment parents ops aliases) = refl
same_referents n (Tag id name target tagger comment mark) = refl
same_referents n (Reset id branch None) = refl
same_referents n (Reset id branch (Some target)) = refl
same_referents n (Pass id line) = refl

-- ---- lists

all_lawful : (n : ℕ) (es : List PlainEvent) → AllByRecursion IsLawful es → AllByRecursion IsLawful (renumbered_from n es)
all_lawful n [] h = tt
all_lawful n (e ∷ es) h = (marked_lawful n e h.0, all_lawful (n + length (event_marks e)) es h.1)

all_formed : (n : ℕ) (es : List PlainEvent) → 1 ≤ n → n + length (marks_of es) ≤ MAX_MARK + 1 → AllByRecursion IsFormedEvent es → AllByRecursion IsFormedEvent (renumbered_from n es)
all_formed n [] low few h = tt
all_formed n (e ∷ es) low few h =
    let both = length-append (own_marks e) (marks_of es) in
    let own = length_own e in
    (marked_formed n e low (omega arith) h.0, all_formed (n + length (event_marks e)) es (omega arith) (omega arith) h.1)

all_few : (n : ℕ) (es : List PlainEvent) → AllByRecursion HasFewParents es → AllByRecursion HasFewParents (renumbered_from n es)
all_few n [] h = tt
all_few n (e ∷ es) h =
    let same = ap length (same_parents n e) in
    let own = h.0 in
    (omega arith, all_few (n + length (event_marks e)) es h.1)

same_ids : (n : ℕ) (es : List PlainEvent) (id : AnyId) → tally (of_id id) (renumbered_from n es) ≡ tally (of_id id) es
same_ids n [] id = refl
same_ids n (e ∷ es) id =
    let one : of_id id (marked_from n e) ≡ of_id id e = ap one_if (has_id_same n (e ∷ []) id) in
    let rest = same_ids (n + length (event_marks e)) es id in
    omega arith

-- the same ids are earlier
order_marked : (n : ℕ) (xs ys es : List PlainEvent) → ((id : AnyId) → has_id ys id ≡ has_id xs id) → AreInOrder xs es → AreInOrder ys (renumbered_from n es)
order_marked n xs ys [] same h = tt
order_marked n xs ys (e ∷ es) same h = (
  ready,
  order_marked (n + length (event_marks e)) (xs ++ e ∷ []) (ys ++ marked_from n e ∷ []) es (λ id. has_id_append ys (marked_from n e ∷ []) id ∙ (λ i. same id i || has_id_same n (e ∷ []) id i) ∙ sym (has_id_append xs (e ∷ []) id)) h.1,
)
  where
    tests : (ids : List AnyId) → list_all (has_id ys) ids ≡ list_all (has_id xs) ids
    tests [] = refl
    tests (id ∷ ids) = λ i. same id i && tests ids i

    ready : is_ready ys (marked_from n e) ≡ true
    ready = ap (list_all (has_id ys)) (same_referents n e) ∙ tests (referents_of e) ∙ h.0

-- ---- marks stand once

-- a mark of an event that takes its marks from a number on
own_within : (n m : ℕ) (e : PlainEvent) → is_marked (marked_from n e ∷ []) m ≡ true → (n ≤ m) × (m < n + length (event_marks e))
own_within n m e h = among_from n (event_marks e) m (sym (is_marked_own (marked_from n e) m ∙ ap (λ ms. is_among ms m) (event_from n e)) ∙ h)

not_lower : (n m : ℕ) (e : PlainEvent) → m < n → is_marked (marked_from n e ∷ []) m ≡ false
not_lower n m e low = elim (cases_Bool (is_marked (marked_from n e ∷ []) m)) [
  | inl there ↦ let within = own_within n m e there in absurd (omega arith)
  | inr it ↦ it
]

none_lower : (n m : ℕ) (es : List PlainEvent) → m < n → tally (of_mark m) (renumbered_from n es) ≡ 0
none_lower n m [] low = refl
none_lower n m (e ∷ es) low =
    let rest = none_lower (n + length (event_marks e)) m es (omega arith) in
    let none : of_mark m (marked_from n e) ≡ 0 = ap one_if (not_lower n m e low) in
    omega arith

once_risen : (n m : ℕ) (es : List PlainEvent) → tally (of_mark m) (renumbered_from n es) ≤ 1
once_risen n m [] = omega arith
once_risen n m (e ∷ es) =
    elim (cases_Bool (is_marked (marked_from n e ∷ []) m)) [
      | inl own ↦
          let one : of_mark m (marked_from n e) ≡ 1 = ap one_if own in
          let within = own_within n m e own in
          let none = none_lower (n + length (event_marks e)) m es within.1 in
          omega arith
      | inr other ↦
          let none : of_mark m (marked_from n e) ≡ 0 = ap one_if other in
          let rest = once_risen (n + length (event_marks e)) m es in
          omega arith
    ]

-- ---- nothing else changes

-- blobs with the same bytes are shown alike
module _ (old new : List PlainEvent) (same : (b : ℕ) → blob_bytes new b ≡ blob_bytes old b) where
  content_alike : (content : Content) → shown_content new content ≡ shown_content old content
  content_alike (OfBlob b) = ap ShownBytes (same b)
  content_alike (Object digits) = refl

  entries_alike : (t : TreeOf Entry) → map_tree (shown new) t ≡ map_tree (shown old) t
  entries_alike [] = refl
  entries_alike (e ∷ t) =
      ap (λ (content : ShownContent). (e.0, record { mode = e.1.mode; content = content }) ∷ map_tree (shown new) t) (content_alike e.1.content)
      ∙ ap (λ (rest : TreeOf Shown). (e.0, shown old e.1) ∷ rest) (entries_alike t)

  pub trees_alike : (o : Option (TreeOf Entry)) → option_map (map_tree (shown new)) o ≡ option_map (map_tree (shown old)) o
  trees_alike None = refl
  trees_alike (Some t) = ap Some (entries_alike t)

bytes_marked : (n : ℕ) (es : List PlainEvent) (b : ℕ) → blob_bytes (renumbered_from n es) b ≡ blob_bytes es b
bytes_marked n [] b = refl
bytes_marked n (Blob id mark bytes ∷ es) b = ap (λ (rest : List ℕ). cond (id == b) bytes rest) (bytes_marked (n + length (event_marks (Blob id mark bytes))) es b)
bytes_marked n (Commit id mark branch author committer encoding comment parents ops aliases ∷ es) b = bytes_marked (n + length (mark ∷ aliases)) es b
bytes_marked n (Tag id name target tagger comment mark ∷ es) b = bytes_marked (n + length (event_marks (Tag id name target tagger comment mark))) es b
bytes_marked n (Reset id branch target ∷ es) b = bytes_marked (n + length (event_marks (Reset id branch target))) es b
bytes_marked n (Pass id line ∷ es) b = bytes_marked (n + length (event_marks (Pass id line))) es b

bytes_behind : (xs ys zs : List PlainEvent) (b : ℕ) → blob_bytes ys b ≡ blob_bytes zs b → blob_bytes (xs ++ ys) b ≡ blob_bytes (xs ++ zs) b
bytes_behind [] ys zs b h = h
bytes_behind (Blob id mark bytes ∷ xs) ys zs b h = ap (λ (rest : List ℕ). cond (id == b) bytes rest) (bytes_behind xs ys zs b h)
bytes_behind (Commit id mark branch author committer encoding comment parents ops aliases ∷ xs) ys zs b h = bytes_behind xs ys zs b h
bytes_behind (Tag id name target tagger comment mark ∷ xs) ys zs b h = bytes_behind xs ys zs b h
bytes_behind (Reset id branch target ∷ xs) ys zs b h = bytes_behind xs ys zs b h
bytes_behind (Pass id line ∷ xs) ys zs b h = bytes_behind xs ys zs b h

-- ---- the last events of a list

module _ (n : ℕ) (front es : List PlainEvent) where
  abbrev pub marked_behind : List PlainEvent
  marked_behind = front ++ renumbered_from n es

  pub tree_marked : (c : ℕ) → tree marked_behind c ≡ tree (front ++ es) c
  tree_marked c =
      ap (λ (l : List Node). tree_in (reverse l) c)
      (nodes_append front (renumbered_from n es) ∙ ap (λ (l : List Node). nodes front ++ l) (nodes_same n es) ∙ sym (nodes_append front es))

  pub shown_marked : (c : ℕ) → shown_tree marked_behind c ≡ shown_tree (front ++ es) c
  shown_marked c =
      ap (option_map (map_tree (shown marked_behind))) (tree_marked c)
      ∙ trees_alike (front ++ es) marked_behind (λ b. bytes_behind front (renumbered_from n es) es b (bytes_marked n es b)) (tree (front ++ es) c)

  pub commit_marked : (id : AnyId) → has_id marked_behind id ≡ has_id (front ++ es) id
  commit_marked id = has_id_append front (renumbered_from n es) id ∙ ap (λ t. has_id front id || t) (has_id_same n es id) ∙ sym (has_id_append front es id)

  pub marked_order : IsLinked (front ++ es) → AreInOrder [] marked_behind
  marked_order h =
      let order = order_parts [] front es h.in_order in
      order_join [] front (renumbered_from n es) order.0 (order_marked n front front es (λ id. refl) order.1)

  pub marked_once : IsLinked (front ++ es) → ((m : ℕ) → tally (of_mark m) front ≤ 1) → ((m : ℕ) → n ≤ m → is_marked front m ≡ false) → AreOnce marked_behind
  marked_once h once low = record { ids = ids; marks = marks }
    where
      ids : (id : AnyId) → tally (of_id id) marked_behind ≤ 1
      ids id =
          let both = tally_append (of_id id) front (renumbered_from n es) in
          let before = tally_append (of_id id) front es in
          let same = same_ids n es id in
          let one = h.ids id in
          omega arith

      marks : (m : ℕ) → tally (of_mark m) marked_behind ≤ 1
      marks m =
          let both = tally_append (of_mark m) front (renumbered_from n es) in
          elim (cases_lt m n) [
            | inl under ↦ let none = none_lower n m es under in let one = once m in omega arith
            | inr above ↦
                let none = none_passing (λ l. is_marked l m) (λ x y. is_marked_append x y m) refl front (low m above) in
                let one = once_risen n m es in
                omega arith
          ]

  pub marked_sound : IsLinked (front ++ es) → ((m : ℕ) → tally (of_mark m) front ≤ 1) → ((m : ℕ) → n ≤ m → is_marked front m ≡ false) → 1 ≤ n → n + length (marks_of es) ≤ MAX_MARK + 1
      → ((c : ℕ) → IsCommitOf marked_behind c → IsSome (tree marked_behind c)) → IsSound marked_behind
  marked_sound h once low some few trees =
      from_parts marked_behind (record {
        lawful = all_join IsLawful front (renumbered_from n es) (all_front IsLawful front es h.lawful) (all_lawful n es (all_rear IsLawful front es h.lawful));
        spelled = all_join IsFormedEvent front (renumbered_from n es) (all_front IsFormedEvent front es h.spelled) (all_formed n es some few (all_rear IsFormedEvent front es h.spelled));
        few = all_join HasFewParents front (renumbered_from n es) (all_front HasFewParents front es h.few) (all_few n es (all_rear HasFewParents front es h.few));
        once = marked_once h once low;
        in_order = marked_order h;
        trees = trees;
      })
