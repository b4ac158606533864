-- The sample is sound: what is known of its events up to some commit, and of one more.
use Rattle.std.proofs.Common.{◌≡◌, ◌∙◌, ℕ, zero, suc, ◌+◌, ◌-◌, ◌*◌, ◌/◌, ◌%◌, ◌<◌, ◌≤◌, ◌^◌, true, false, cond, ◌&&◌, not, inl, inr, List, [], ◌∷◌, ◌++◌, Option, Some, refl, sym, ap, subst, eqb, length, reverse, arith, append_assoc, lit≤, min}
use Rattle.std.proofs.lemmas.Bool.{and_parts, cases_Bool, cond_both, leb-false, leb-true, le-ltb, ltb-false, ltb-true, ne_eqb, true≢false}
use Rattle.std.proofs.Math.Nat.{mod-lt}
use Rattle.std.proofs.lemmas.List.{append-nil, reverse-append}
use Rattle.std.specs.List.{AllByRecursion}
use Rattle.std.specs.Prelude.{◌==◌, IsSome, nat_le, nat_lt}
use Rattle.plain_model.specs.declared.id.AnyId.{AnyId}
use Rattle.plain_model.specs.declared.id.AnyId.TheVariants as any
use Rattle.plain_model.specs.declared.limit.TheConstants.{MAX_ALIASES, MAX_EVENTS, MAX_OPERATIONS, MAX_PARENTS, MAX_PATHS}
use Rattle.plain_model.specs.declared.operation.Entry.{Entry}
use Rattle.plain_model.specs.declared.operation.Content.TheVariants.{Blob as OfBlob}
use Rattle.plain_model.specs.declared.operation.Mode.TheVariants.{Plain}
use Rattle.plain_model.specs.declared.operation.FileOp.{FileOp}
use Rattle.plain_model.specs.declared.operation.FileOp.TheVariants.{Modify, Delete}
use Rattle.plain_model.specs.declared.event.PlainEvent.{PlainEvent}
use Rattle.plain_model.specs.Histories.{Node, begun, folded, nodes, past, tree, tree_in}
use Rattle.plain_model.specs.Lookups.{AreIdsBelow, alias_count, id_number, id_of, same_id}
use Rattle.plain_model.specs.Paths.{is_at_or_below, is_in_the_way}
use Rattle.plain_model.specs.Soundness.{AreSoundAfter, IsCommitOf, IsFormedEvent, IsFormedOp, IsFormedSigned, IsSound, IsSoundEvent, RefersBack, are_distinct, has_id}
use Rattle.plain_model.specs.Streams.{is_marked}
use Rattle.plain_model.specs.Trees.{Tree, cleared_for, put, without}
use Rattle.history_laws.specs.Counts.{ops_in}
use Rattle.history_laws.proofs.Commits.{nodes_append}
use Rattle.history_laws.proofs.Ids.{has_id_append, has_id_after, has_id_step, has_id_still, has_own, ids_below, is_marked_append, same_number}
use Rattle.history_laws.proofs.TreeMaps.{length_put, length_where}
use Rattle.sample_history.specs.Sample.{blob_number, blob_of, commit_number, commit_of, file, folder, ops_of, parents_of, path_in, sample, sample_from, signed_at, drawn, stepped}
use Rattle.plain_model.specs.declared.limit.TheConstants.{MAX_SAMPLE_COMMITS}
use Rattle.sample_history.proofs.Files.{is_file}

-- ---- the parents and the operations, by cases

module _ (i r : ℕ) where
  abbrev before : ℕ
  before = commit_number (i - 1)

  abbrev earlier_still : ℕ
  earlier_still = commit_number (1 + r / 10 % (i - 2))

  parents_by : (P : List ℕ → Type 0)
      → (1 < i → 3 ≤ i → P (before ∷ earlier_still ∷ [])) → (1 < i → P (before ∷ [])) → P []
      → P (parents_of i r)
  parents_by P two one none =
      let second = nat_le 3 i && (r % 10 == 0) in
      cond_both (nat_lt 1 i) (before ∷ []) [] (λ ps. P (ps ++ cond second (earlier_still ∷ []) []))
      (λ it. cond_both second (earlier_still ∷ []) [] (λ ps. P (before ∷ ps))
      (λ both. two (ltb-true 1 i it) (leb-true 3 i (and_parts (nat_le 3 i) (r % 10 == 0) both).0))
      (λ no. one (ltb-true 1 i it)))
      (λ no. cond_both second (earlier_still ∷ []) [] P
      (λ both. absurd (omega (arith, ltb-false 1 i no, leb-true 3 i (and_parts (nat_le 3 i) (r % 10 == 0) both).0)))
      (λ neither. none))

  abbrev put_op : FileOp
  put_op = Modify Plain (OfBlob (blob_number i)) (path_in (folder r) (file r))

  abbrev delete_op : FileOp
  delete_op = Delete (path_in (folder r) ((file r + 1) % 50))

  ops_by : (P : List FileOp → Type 0) → P (put_op ∷ delete_op ∷ []) → P (put_op ∷ []) → P (ops_of i r)
  ops_by P two one =
      cond_both (nat_le 2 i && (r % 13 == 0)) (delete_op ∷ []) [] (λ ops. P (put_op ∷ ops)) (λ it. two) (λ no. one)

-- ---- how many paths a tree has

-- there is a tree, of no more paths than so many
record HasTree (n : ℕ) (o : Option Tree) : Type 0 where
  paths : Tree
  is : o ≡ Some paths
  few : length paths ≤ n

module _ (n i r : ℕ) (low : n + 1 ≤ 200000) where
  ops_tree : (t : Tree) → length t ≤ n → HasTree (n + 1) (folded (ops_of i r) (Some t))
  ops_tree t few =
      let path = path_in (folder r) (file r) in
      let entry : Entry = record { mode = Plain; content = OfBlob (blob_number i) } in
      let put_in = put path entry (cleared_for path t) in
      let more : length put_in ≤ n + 1 =
      omega (arith, length_put path entry (cleared_for path t), length_where (λ q. not (is_in_the_way path q)) t)
      in
      let fits : nat_lt MAX_PATHS (length put_in) ≡ false = le-ltb MAX_PATHS (length put_in) (omega arith) in
      ops_by i r (λ ops. HasTree (n + 1) (folded ops (Some t)))
      (
      let gone = path_in (folder r) ((file r + 1) % 50) in
      record {
        paths = without gone put_in;
        is = rw fits refl;
        few = omega (arith, length_where (λ q. not (is_at_or_below gone q)) put_in);
      }
      )
      (record { paths = put_in; is = rw fits refl; few = more })

-- ---- ids

not_same : (a b : AnyId) → (id_number a ≡ id_number b → ⊥) → same_id a b ≡ false
not_same a b other = elim (cases_Bool (same_id a b)) [
  | inl it ↦ absurd (other (same_number a b it))
  | inr differ ↦ differ
]

still_new : (es : List PlainEvent) (e : PlainEvent) (id : AnyId) → has_id es id ≡ false
    → (id_number (id_of e) ≡ id_number id → ⊥) → has_id (es ++ e ∷ []) id ≡ false
still_new es e id new other =
    rw (has_id_append es (e ∷ []) id, new, has_id_step e [] id, not_same (id_of e) id other) refl

-- ---- the events up to a commit

record IsFront (n : ℕ) (es : List PlainEvent) : Type 0 where
  new_id : (id : AnyId) → 2 * n < id_number id → has_id es id ≡ false
  new_mark : (m : ℕ) → 2 * n < m → is_marked es m ≡ false
  commits : (j : ℕ) → 1 ≤ j → j ≤ n → has_id es (any.Commit (commit_number j)) ≡ true
  trees : (c : ℕ) → has_id es (any.Commit c) ≡ true → HasTree n (tree es c)

no_events : IsFront 0 []
no_events = record {
  new_id = λ id high. refl;
  new_mark = λ m high. refl;
  commits = λ j some few. absurd (omega (arith, some, few));
  trees = λ c it. absurd (true≢false (sym it));
}

module _ (n r : ℕ) (es : List PlainEvent) (front : IsFront n es) (low : n + 1 ≤ 200000) where
  abbrev blob : PlainEvent
  blob = blob_of (n + 1) r

  abbrev commit : PlainEvent
  commit = commit_of (n + 1) r

  blob_sound : IsSoundEvent es blob
  blob_sound = (
    front.new_id (any.Blob (blob_number (n + 1))) (omega arith),
    front.new_mark (blob_number (n + 1)) (omega arith),
  )

  known : (j : ℕ) → 1 ≤ j → j ≤ n → IsCommitOf (es ++ blob ∷ []) (commit_number j)
  known j some few = has_id_still es (blob ∷ []) (any.Commit (commit_number j)) (front.commits j some few)

  signed : IsFormedSigned (signed_at (60 * (n + 1)))
  signed = (refl, omega arith, lit≤ tt)

  commit_sound : IsSoundEvent (es ++ blob ∷ []) commit
  commit_sound =
      let i = n + 1 in
      let new = still_new es blob (any.Commit (commit_number i)) (front.new_id (any.Commit (commit_number i)) (omega arith))
      (λ (same : blob_number i ≡ commit_number i). omega (arith, same)) in
      let unmarked : is_marked es (commit_number i) ≡ false = front.new_mark (commit_number i) (omega arith) in
      let other : eqb (blob_number i) (commit_number i) ≡ false =
      ne_eqb (blob_number i) (commit_number i) (λ same. omega (arith, same))
      in
      let second = λ (at_least : 3 ≤ i). mod-lt (r / 10) {m = i - 2} (omega arith) in
      let named = has_own es [] blob in (
        new,
        rw (is_marked_append es (blob ∷ []) (commit_number i), unmarked, other) refl,
        refl,
        signed,
        signed,
        tt,
        parents_by i r (AllByRecursion (IsCommitOf (es ++ blob ∷ [])))
            (λ above at_least. (
              known (i - 1) (omega arith) (omega arith),
              (known (1 + r / 10 % (i - 2)) (omega arith) (omega (arith, second at_least)), tt),
            ))
            (λ above. (known (i - 1) (omega arith) (omega arith), tt))
            tt,
        parents_by i r (λ ps. are_distinct ps ≡ true)
            (λ above at_least.
            rw (ne_eqb (earlier_still i r) (before i r) (λ same. omega (arith, same, second at_least))) refl)
            (λ above. refl)
            refl,
        parents_by i r (λ ps. length ps ≤ MAX_PARENTS) (λ above at_least. lit≤ tt) (λ above. lit≤ tt) (lit≤ tt),
        ops_by i r (AllByRecursion (RefersBack (es ++ blob ∷ []))) (named, (tt, tt)) (named, tt),
        tt,
        refl,
      )

  abbrev own_node : Node
  own_node = record { id = commit_number (n + 1); parents = parents_of (n + 1) r; ops = ops_of (n + 1) r }

  past_more : past (es ++ blob ∷ commit ∷ []) ≡ own_node ∷ past es
  past_more =
      ap reverse (nodes_append es (blob ∷ commit ∷ []))
      ∙ reverse-append (nodes es) (own_node ∷ [])

  tree_more : (c : ℕ) → tree (es ++ blob ∷ commit ∷ []) c
      ≡ cond (eqb (commit_number (n + 1)) c) (folded (ops_of (n + 1) r) (begun (tree es) (parents_of (n + 1) r))) (tree es c)
  tree_more c = ap (λ p. tree_in p c) past_more

  begun_tree : HasTree n (begun (tree es) (parents_of (n + 1) r))
  begun_tree =
      let first = λ (above : 1 < n + 1).
      front.trees (commit_number (n + 1 - 1)) (front.commits (n + 1 - 1) (omega arith) (omega arith))
      in
      parents_by (n + 1) r (λ ps. HasTree n (begun (tree es) ps)) (λ above at_least. first above) first
      (record { paths = []; is = refl; few = omega arith })

  own_tree : HasTree (n + 1) (folded (ops_of (n + 1) r) (begun (tree es) (parents_of (n + 1) r)))
  own_tree =
      let t = begun_tree in
      subst (λ o. HasTree (n + 1) (folded (ops_of (n + 1) r) o)) (sym t.is) (ops_tree n (n + 1) r low t.paths t.few)

  commit_before : (c : ℕ) → eqb (commit_number (n + 1)) c ≡ false
      → has_id (es ++ blob ∷ commit ∷ []) (any.Commit c) ≡ true → has_id es (any.Commit c) ≡ true
  commit_before c other it = elim (cases_Bool (has_id es (any.Commit c))) [
    | inl there ↦ there
    | inr absent ↦
        let none : has_id (es ++ blob ∷ commit ∷ []) (any.Commit c) ≡ false =
        rw (has_id_append es (blob ∷ commit ∷ []) (any.Commit c), absent, other) refl
        in
        absurd (true≢false (sym it ∙ none))
  ]

  front_more : IsFront (n + 1) (es ++ blob ∷ commit ∷ [])
  front_more =
      let i = n + 1 in
      let both = append_assoc es (blob ∷ []) (commit ∷ []) in
      let new_tree = folded (ops_of i r) (begun (tree es) (parents_of i r)) in
      record {
        new_id = λ id high.
            subst (λ l. has_id l id ≡ false) both
            (still_new (es ++ blob ∷ []) commit id
            (still_new es blob id (front.new_id id (omega arith)) (λ (same : blob_number i ≡ id_number id). omega (arith, same, high)))
            (λ (same : commit_number i ≡ id_number id). omega (arith, same, high)));
        new_mark = λ m high.
            rw (
              is_marked_append es (blob ∷ commit ∷ []) m,
              front.new_mark m (omega (arith, high)),
              ne_eqb (blob_number i) m (λ same. omega (arith, same, high)),
              ne_eqb (commit_number i) m (λ same. omega (arith, same, high)),
            ) refl;
        commits = λ j some few. elim (cases_Bool (nat_le j n)) [
          | inl old ↦ has_id_still es (blob ∷ commit ∷ []) (any.Commit (commit_number j)) (front.commits j some (leb-true j n old))
          | inr new ↦
              let last : i ≡ j = omega (arith, few, leb-false j n new) in
              subst (λ k. has_id (es ++ blob ∷ commit ∷ []) (any.Commit (commit_number k)) ≡ true) last
              (has_id_after es (blob ∷ commit ∷ []) (any.Commit (commit_number i)) (has_own (blob ∷ []) [] commit))
        ];
        trees = λ c it. elim (cases_Bool (eqb (commit_number i) c)) [
          | inl own ↦
              subst (HasTree i) (sym (tree_more c ∙ ap (λ t. cond t new_tree (tree es c)) own)) own_tree
          | inr other ↦
              let old = front.trees c (commit_before c other it) in
              subst (HasTree i) (sym (tree_more c ∙ ap (λ t. cond t new_tree (tree es c)) other))
              (record { paths = old.paths; is = old.is; few = omega (arith, old.few) })
        ];
      }

-- ---- the whole sample

abbrev HasTrees : List PlainEvent → Type 0
HasTrees es = (c : ℕ) → IsCommitOf es c → IsSome (tree es c)

trees_from : (left n x : ℕ) (es : List PlainEvent) → IsFront n es → n + left ≤ 200000
    → HasTrees (es ++ sample_from left (n + 1) x)
trees_from zero n x es front low =
    subst HasTrees (sym (append-nil es)) (λ c it. let found = front.trees c it in rw found.is refl)
trees_from (suc left) n x es front low =
    let r = drawn (stepped x) in
    let rest = sample_from left (n + 1 + 1) (stepped x) in
    subst HasTrees (append_assoc es (blob_of (n + 1) r ∷ commit_of (n + 1) r ∷ []) rest)
    (trees_from left (n + 1) (stepped x) (es ++ blob_of (n + 1) r ∷ commit_of (n + 1) r ∷ [])
    (front_more n r es front (omega arith)) (omega arith))

sound_from : (left n x : ℕ) (es : List PlainEvent) → IsFront n es → n + left ≤ 200000
    → AreSoundAfter es (sample_from left (n + 1) x)
sound_from zero n x es front low = tt
sound_from (suc left) n x es front low =
    let r = drawn (stepped x) in
    let b = blob_of (n + 1) r in
    let c = commit_of (n + 1) r in
    let rest = sample_from left (n + 1 + 1) (stepped x) in
    let front_then = front_more n r es front (omega arith) in
    let later = sound_from left (n + 1) (stepped x) (es ++ b ∷ c ∷ []) front_then (omega arith) in
    let joined = append_assoc es (b ∷ []) (c ∷ []) in (
      blob_sound n r es front (omega arith),
      (commit_sound n r es front (omega arith), subst (λ l. AreSoundAfter l rest) (sym joined) later),
    )

-- ---- marks, paths and ids

formed_from : (left n x : ℕ) → n + left ≤ 200000 → AllByRecursion IsFormedEvent (sample_from left (n + 1) x)
formed_from zero n x low = tt
formed_from (suc left) n x low =
    let r = drawn (stepped x) in
    let in_folder = mod-lt (r / 100) {m = 10} (omega arith) in
    let shown = is_file (folder r) (file r) in_folder (mod-lt (r / 1000) {m = 50} (omega arith)) in
    let gone = is_file (folder r) ((file r + 1) % 50) in_folder (mod-lt (file r + 1) {m = 50} (omega arith)) in
    let ops = ops_by (n + 1) r (AllByRecursion IsFormedOp) ((tt, shown), (gone, tt)) ((tt, shown), tt) in (
      (omega arith, omega arith),
      (
        ((omega arith, omega arith), ops, tt),
        formed_from left (n + 1) (stepped x) (omega arith),
      ),
    )

low_from : (left n x : ℕ) → n + left ≤ 200000
    → AllByRecursion (λ e. id_number (id_of e) < 2 ^ 62) (sample_from left (n + 1) x)
low_from zero n x low = tt
low_from (suc left) n x low = (omega arith, (omega arith, low_from left (n + 1) (stepped x) (omega arith)))

-- ---- counts

counts_from : (left n x : ℕ) → (length (sample_from left n x) ≡ 2 * left)
    × (ops_in (sample_from left n x) ≤ 2 * left) × (alias_count (sample_from left n x) ≡ 0)
counts_from zero n x = (refl, lit≤ tt, refl)
counts_from (suc left) n x =
    let rec = counts_from left (n + 1) (stepped x) in
    let few = ops_by n (drawn (stepped x)) (λ ops. length ops ≤ 2) (lit≤ tt) (lit≤ tt) in
    (omega (arith, rec.0), omega (arith, rec.1, few), omega (arith, rec.2))

-- ---- the whole

at_most : (count : ℕ) → min count MAX_SAMPLE_COMMITS ≤ 200000
at_most count = omega arith

pub sample_sound : (count start : ℕ) → IsSound (sample count start)
unfolding sample
sample_sound count start =
    let low = at_most count in record {
      formed = sound_from (min count MAX_SAMPLE_COMMITS) 0 start [] no_events (omega (arith, low));
      spelled = formed_from (min count MAX_SAMPLE_COMMITS) 0 start (omega (arith, low));
      trees = trees_from (min count MAX_SAMPLE_COMMITS) 0 start [] no_events (omega (arith, low));
    }

pub sample_low : (count start : ℕ) → AreIdsBelow (2 ^ 62) (sample count start)
unfolding sample
sample_low count start =
    let low = at_most count in
    ids_below (2 ^ 62) (sample count start) (low_from (min count MAX_SAMPLE_COMMITS) 0 start (omega (arith, low)))

pub sample_events_few : (count start : ℕ) → length (sample count start) ≤ MAX_EVENTS
unfolding sample
sample_events_few count start = omega (arith, at_most count, (counts_from (min count MAX_SAMPLE_COMMITS) 1 start).0)

pub sample_ops_few : (count start : ℕ) → ops_in (sample count start) ≤ MAX_OPERATIONS
unfolding sample
sample_ops_few count start = omega (arith, at_most count, (counts_from (min count MAX_SAMPLE_COMMITS) 1 start).1)

pub sample_aliases_few : (count start : ℕ) → alias_count (sample count start) ≤ MAX_ALIASES
unfolding sample
sample_aliases_few count start = rw (counts_from (min count MAX_SAMPLE_COMMITS) 1 start).2 (lit≤ tt)
