-- What a tree shows hangs on the blobs that operations name: where these are the same, trees that are the same show the same.
use Rattle.std.proofs.Common.{◌≡◌, ℕ, ◌≤◌, IsTrue, Bool, true, false, cond, not, List, [], ◌∷◌, ◌++◌, length, map, refl, sym, ap, subst, ◌∙◌, inl, inr, eqb-true, true≢false, append_assoc, Option, Some, None, option_map, Result, Ok, Err, nat_lt}
use Rattle.std.specs.Prelude.{◌||◌, ◌==◌, flat_map}
use Rattle.std.specs.List.{AllByRecursion}
use Rattle.std.specs.Ordering.{nat_cmp}
use Rattle.std.specs.declared.cmp.Ordering.TheVariants.{Less, Equal, Greater}
use Rattle.std.specs.Cmp.Lexicographic.{slice_cmp}
use Rattle.std.specs.FinMap.Entries.{by_order}
use Rattle.std.proofs.lemmas.Bool.{cases_Bool, or_parts, cond-true, cond-false}
use Rattle.plain_model.specs.declared.id.AnyId.{AnyId}
use Rattle.plain_model.specs.declared.id.AnyId.TheVariants as any
use Rattle.plain_model.specs.declared.limit.TheConstants.{MAX_PATHS}
use Rattle.plain_model.specs.declared.operation.Content.{Content}
use Rattle.plain_model.specs.declared.operation.Content.TheVariants.{Blob as OfBlob, Object}
use Rattle.plain_model.specs.declared.operation.Entry.{Entry}
use Rattle.plain_model.specs.declared.operation.FileOp.{FileOp}
use Rattle.plain_model.specs.declared.operation.FileOp.TheVariants.{Modify, Delete, Copy, Rename, DeleteAll}
use Rattle.plain_model.specs.declared.event.PlainEvent.{PlainEvent}
use Rattle.plain_model.specs.declared.event.PlainEvent.TheVariants.{Blob, Commit, Tag, Reset, Pass}
use Rattle.plain_model.specs.Histories.{Node, Past, begun, folded, if_ok, nodes, past, tree, tree_in}
use Rattle.plain_model.specs.Lookups.{op_blobs}
use Rattle.plain_model.specs.Paths.{Bytes, is_at_or_below, is_in_the_way}
use Rattle.plain_model.specs.Snapshots.{blob_bytes, map_tree, shown, shown_content, shown_tree}
use Rattle.plain_model.specs.Snapshots.ShownContent.{ShownBytes}
use Rattle.plain_model.specs.Soundness.{has_id}
use Rattle.plain_model.specs.Trees.{Refusal, Tree, apply, apply_all, cleared_for, has_long_path, moved, placed, put, put_all, subtree, where_path, within_paths, without, ◌>>=◌}
use Rattle.edit_laws.specs.Blobs.{HasBytesOf}
use Rattle.edit_laws.specs.Parts.{AreComplete, AreOnce, of_id, tally}
use Rattle.edit_laws.specs.Settling.{is_ready}
use Rattle.edit_laws.proofs.Lists.{all_front, all_rear, all_true, has_own_id}
use Rattle.std.proofs.Common.{eq-eqb}
use Rattle.edit_laws.proofs.Sound.{new_there}
use Rattle.history_laws.proofs.Lists.{all_reverse}

-- ---- what is true of all entries

module _ (P : Entry → Type 0) where
  abbrev pub AllEntries : Tree → Type 0
  AllEntries t = AllByRecursion (λ x. P x.1) t

  all_where : (test : Bytes → Bool) (t : Tree) → AllEntries t → AllEntries (where_path test t)
  all_where test [] a = tt
  all_where test (e ∷ es) a =
      let rest = all_where test es a.1 in
      elim (test e.0) as (λ b. AllEntries (cond b (e ∷ where_path test es) (where_path test es))) [ true ↦ (a.0, rest) | false ↦ rest ]

  all_put : (p : Bytes) (v : Entry) (t : Tree) → P v → AllEntries t → AllEntries (put p v t)
  all_put p v [] h a = (h, tt)
  all_put p v (e ∷ es) h a =
      let rest = all_put p v es h a.1 in
      elim (slice_cmp nat_cmp p e.0) as (λ r. AllEntries (by_order r ((p, v) ∷ e ∷ es) ((e.0, v) ∷ es) (e ∷ put p v es))) [
        | Less ↦ (h, a)
        | Equal ↦ (h, a.1)
        | Greater ↦ (a.0, rest)
      ]

  all_put_all : (es base : Tree) → AllEntries es → AllEntries base → AllEntries (put_all es base)
  all_put_all [] base a b = b
  all_put_all (e ∷ es) base a b = all_put e.0 e.1 (put_all es base) a.0 (all_put_all es base a.1 b)

  all_moved : (source target : Bytes) (es : Tree) → AllEntries es → AllEntries (moved source target es)
  all_moved source target [] a = tt
  all_moved source target (e ∷ es) a = (a.0, all_moved source target es a.1)

  -- the tree of a change that isn't refused
  abbrev IfMade : Result Tree Refusal → Type 0
  IfMade (Ok t) = AllEntries t
  IfMade (Err why) = Unit {0}

  made_within : (t : Tree) → AllEntries t → IfMade (within_paths t)
  made_within t a = elim (nat_lt MAX_PATHS (length t)) as (λ b. IfMade (cond b (Err Refusal.Paths) (Ok t))) [ true ↦ tt | false ↦ a ]

  made_placed : (source target : Bytes) (taken base : Tree) → AllEntries taken → AllEntries base →
      IfMade (placed source target taken base)
  made_placed source target [] base a b = tt
  made_placed source target (e ∷ taken) base a b =
      let put_in = moved source target (e ∷ taken) in
      let made = made_within (put_all put_in (cleared_for target base)) (all_put_all put_in (cleared_for target base) (all_moved source target (e ∷ taken) a) (all_where (λ q. not (is_in_the_way target q)) base b)) in
      elim (has_long_path put_in) as (λ x. IfMade (cond x (Err Refusal.PathBytes) (within_paths (put_all put_in (cleared_for target base))))) [ true ↦ tt | false ↦ made ]

  -- what an operation puts
  abbrev pub Puts : FileOp → Type 0
  Puts (Modify mode content path) = P (record { mode = mode; content = content })
  Puts (Delete path) = Unit {0}
  Puts (Copy source target) = Unit {0}
  Puts (Rename source target) = Unit {0}
  Puts DeleteAll = Unit {0}

  made : (op : FileOp) (t : Tree) → Puts op → AllEntries t → IfMade (apply op t)
  made (Modify mode content path) t h a =
      let entry : Entry = record { mode = mode; content = content } in
      made_within (put path entry (cleared_for path t)) (all_put path entry (cleared_for path t) h (all_where (λ q. not (is_in_the_way path q)) t a))
  made (Delete path) t h a = all_where (λ q. not (is_at_or_below path q)) t a
  made (Copy source target) t h a =
      made_placed source target (subtree source t) t (all_where (is_at_or_below source) t a) a
  made (Rename source target) t h a =
      made_placed source target (subtree source t) (without source t) (all_where (is_at_or_below source) t a) (all_where (λ q. not (is_at_or_below source q)) t a)
  made DeleteAll t h a = tt

  made_all : (ops : List FileOp) (t : Tree) → AllByRecursion Puts ops → AllEntries t → IfMade (apply_all ops t)
  made_all [] t h a = a
  made_all (op ∷ ops) t h a = go (apply op t) (made op t h.0 a) (λ u b. made_all ops u h.1 b)
    where
      go : (r : Result Tree Refusal) → IfMade r → ((u : Tree) → AllEntries u → IfMade (apply_all ops u)) →
          IfMade (r >>= apply_all ops)
      go (Ok u) b f = f u b
      go (Err why) b f = tt

  abbrev pub IfTree : Option Tree → Type 0
  IfTree None = Unit {0}
  IfTree (Some t) = AllEntries t

  folded_all : (ops : List FileOp) (o : Option Tree) → AllByRecursion Puts ops → IfTree o → IfTree (folded ops o)
  folded_all ops None h a = tt
  folded_all ops (Some t) h a = go (apply_all ops t) (made_all ops t h a)
    where
      go : (r : Result Tree Refusal) → IfMade r → IfTree (if_ok r)
      go (Ok u) b = b
      go (Err why) b = tt

  -- the tree of any commit
  pub all_in : (older : Past) → AllByRecursion (λ (n : Node). AllByRecursion Puts n.ops) older → (c : ℕ) →
      IfTree (tree_in older c)
  all_in [] h c = tt
  all_in (n ∷ older) h c =
      elim (n.id == c) as (λ b. IfTree (cond b (folded n.ops (begun (tree_in older) n.parents)) (tree_in older c))) [
        | true ↦ folded_all n.ops (begun (tree_in older) n.parents) h.0 (starts n.parents (λ p. all_in older h.1 p))
        | false ↦ all_in older h.1 c
      ]
    where
      starts : (ps : List ℕ) → ((p : ℕ) → IfTree (tree_in older p)) → IfTree (begun (tree_in older) ps)
      starts [] f = tt
      starts (p ∷ ps) f = f p

-- ---- blobs

abbrev content_blobs : Content → List AnyId
content_blobs (OfBlob b) = any.Blob b ∷ []
content_blobs (Object digits) = []

-- the blob of an entry is there
abbrev pub IsNamed : List PlainEvent → Entry → Type 0
IsNamed events e = AllByRecursion (λ id. has_id events id ≡ true) (content_blobs e.content)

op_named : (events : List PlainEvent) (op : FileOp) → AllByRecursion (λ id. has_id events id ≡ true) (op_blobs op) →
    Puts (IsNamed events) op
op_named events (Modify mode (OfBlob b) path) h = h
op_named events (Modify mode (Object digits) path) h = tt
op_named events (Delete path) h = tt
op_named events (Copy source target) h = tt
op_named events (Rename source target) h = tt
op_named events DeleteAll h = tt

ops_named : (events : List PlainEvent) (ops : List FileOp) →
    AllByRecursion (λ id. has_id events id ≡ true) (flat_map op_blobs ops) →
    AllByRecursion (Puts (IsNamed events)) ops
ops_named events [] h = tt
ops_named events (op ∷ ops) h = (
  op_named events op (all_front (λ id. has_id events id ≡ true) (op_blobs op) (flat_map op_blobs ops) h),
  ops_named events ops (all_rear (λ id. has_id events id ≡ true) (op_blobs op) (flat_map op_blobs ops) h),
)

nodes_named : (events : List PlainEvent) (es : List PlainEvent) → AllByRecursion (λ e. IsTrue (is_ready events e)) es →
    AllByRecursion (λ (n : Node). AllByRecursion (Puts (IsNamed events)) n.ops) (nodes es)
nodes_named events [] r = tt
nodes_named events (Commit id mark branch author committer encoding comment parents ops aliases ∷ es) r = (
  ops_named events ops (all_rear (λ id. has_id events id ≡ true) (map any.Commit parents) (flat_map op_blobs ops) (all_true (has_id events) (map any.Commit parents ++ flat_map op_blobs ops) r.0)),
  nodes_named events es r.1,
)
nodes_named events (Blob id mark bytes ∷ es) r = nodes_named events es r.1
nodes_named events (Tag id name target tagger comment mark ∷ es) r = nodes_named events es r.1
nodes_named events (Reset id branch target ∷ es) r = nodes_named events es r.1
nodes_named events (Pass id line ∷ es) r = nodes_named events es r.1

-- each entry of a tree names a blob that is there
tree_named : (events : List PlainEvent) → AreComplete events → (c : ℕ) → IfTree (IsNamed events) (tree events c)
tree_named events r c =
    all_in (IsNamed events) (past events) (all_reverse (λ (n : Node). AllByRecursion (Puts (IsNamed events)) n.ops) (nodes events) (nodes_named events events r)) c

-- a blob that is there has the bytes that it has in the other history
bytes_found : (other es : List PlainEvent) → AllByRecursion (HasBytesOf other) es → (b : ℕ) →
    has_id es (any.Blob b) ≡ true → blob_bytes es b ≡ blob_bytes other b
bytes_found other [] a b h = absurd (true≢false (sym h))
bytes_found other (Blob id mark bytes ∷ es) a b h =
    elim (cases_Bool (id == b)) [
      | inl it ↦ cond-true (id == b) bytes (blob_bytes es b) it ∙ sym a.0 ∙ ap (blob_bytes other) (eqb-true id b it)
      | inr not_it ↦ cond-false (id == b) bytes (blob_bytes es b) not_it ∙ bytes_found other es a.1 b (sym (ap (λ x. x || has_id es (any.Blob b)) not_it) ∙ h)
    ]
bytes_found other (Commit id mark branch author committer encoding comment parents ops aliases ∷ es) a b h =
    bytes_found other es a.1 b h
bytes_found other (Tag id name target tagger comment mark ∷ es) a b h = bytes_found other es a.1 b h
bytes_found other (Reset id branch target ∷ es) a b h = bytes_found other es a.1 b h
bytes_found other (Pass id line ∷ es) a b h = bytes_found other es a.1 b h

module _ (other events : List PlainEvent) (bytes : AllByRecursion (HasBytesOf other) events) where
  content_same : (content : Content) → AllByRecursion (λ id. has_id events id ≡ true) (content_blobs content) →
      shown_content events content ≡ shown_content other content
  content_same (OfBlob b) h = ap ShownBytes (bytes_found other events bytes b h.0)
  content_same (Object digits) h = refl

  entries_same : (t : Tree) → AllEntries (IsNamed events) t → map_tree (shown events) t ≡ map_tree (shown other) t
  entries_same [] a = refl
  entries_same (e ∷ t) a = λ i. (e.0, record { mode = e.1.mode; content = content_same e.1.content a.0 i }) ∷ entries_same t a.1 i

  pub shown_alike : AreComplete events → (c d : ℕ) → tree events c ≡ tree other d →
      shown_tree events c ≡ shown_tree other d
  shown_alike r c d same = go (tree events c) (tree_named events r c) ∙ ap (option_map (map_tree (shown other))) same
    where
      go : (o : Option Tree) → IfTree (IsNamed events) o →
          option_map (map_tree (shown events)) o ≡ option_map (map_tree (shown other)) o
      go None h = refl
      go (Some t) h = ap Some (entries_same t h)

-- ---- a history has its own blobs

bytes_at : (xs : List PlainEvent) (id mark : ℕ) (bytes : Bytes) (es : List PlainEvent) →
    has_id xs (any.Blob id) ≡ false → blob_bytes (xs ++ Blob id mark bytes ∷ es) id ≡ bytes
bytes_at [] id mark bytes es h = cond-true (id == id) bytes (blob_bytes es id) (eq-eqb id id refl)
bytes_at (Blob i m b ∷ xs) id mark bytes es h =
    let parts = or_parts (i == id) (has_id xs (any.Blob id)) h in
    cond-false (i == id) b (blob_bytes (xs ++ Blob id mark bytes ∷ es) id) parts.0 ∙ bytes_at xs id mark bytes es parts.1
bytes_at (Commit i m branch author committer encoding comment parents ops aliases ∷ xs) id mark bytes es h =
    bytes_at xs id mark bytes es h
bytes_at (Tag i name target tagger comment m ∷ xs) id mark bytes es h = bytes_at xs id mark bytes es h
bytes_at (Reset i branch target ∷ xs) id mark bytes es h = bytes_at xs id mark bytes es h
bytes_at (Pass i line ∷ xs) id mark bytes es h = bytes_at xs id mark bytes es h

own_bytes : (whole xs es : List PlainEvent) → whole ≡ xs ++ es → AreOnce whole → AllByRecursion (HasBytesOf whole) es
own_bytes whole xs [] is o = tt
own_bytes whole xs (e ∷ es) is o =
    (own e is, own_bytes whole (xs ++ e ∷ []) es (is ∙ sym (append_assoc xs (e ∷ []) es)) o)
  where
    own : (e : PlainEvent) → whole ≡ xs ++ e ∷ es → HasBytesOf whole e
    own (Blob id mark bytes) is =
        ap (λ (l : List PlainEvent). blob_bytes l id) is
        ∙ bytes_at xs id mark bytes es (new_there (any.Blob id) xs (Blob id mark bytes) es (subst (λ (l : List PlainEvent). tally (of_id (any.Blob id)) l ≤ 1) is (o.ids (any.Blob id))) (has_own_id (Blob id mark bytes)))
    own (Commit id mark branch author committer encoding comment parents ops aliases) is = tt
    own (Tag id name target tagger comment mark) is = tt
    own (Reset id branch target) is = tt
    own (Pass id line) is = tt

pub has_own_bytes : (events : List PlainEvent) → AreOnce events → AllByRecursion (HasBytesOf events) events
has_own_bytes events o = own_bytes events [] events refl o
