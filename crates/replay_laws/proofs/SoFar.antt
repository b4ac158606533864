-- What a history so far keeps, and what one more event changes of what is replayed.
use Rattle.std.proofs.Common.{◌≡◌, ℕ, ◌+◌, ◌<◌, ◌≤◌, List, [], ◌∷◌, ◌++◌, length, reverse, refl, sym, ap, subst, ◌∙◌, Option, Some, None, Result, Ok, Err, arith, eq-eqb, ne_eqb, length-append, max}
use Rattle.std.specs.Prelude.{◌==◌, not, bytes_eq}
use Rattle.std.specs.List.{AllByRecursion}
use Rattle.std.proofs.lemmas.Bool.{cond-false}
use Rattle.std.proofs.lemmas.List.{reverse-append}
use Rattle.plain_model.specs.declared.operation.Content.TheVariants.{Blob as OfBlob, Object}
use Rattle.plain_model.specs.declared.operation.Entry.{Entry}
use Rattle.plain_model.specs.declared.operation.FileOp.{FileOp}
use Rattle.plain_model.specs.declared.operation.FileOp.TheVariants.{Modify, Delete, Copy, Rename, DeleteAll}
use Rattle.plain_model.specs.declared.person.Signed.{Signed}
use Rattle.plain_model.specs.declared.event.PlainEvent.{PlainEvent}
use Rattle.plain_model.specs.declared.event.PlainEvent.TheVariants.{Blob, Commit, Tag, Reset, Pass}
use Rattle.plain_model.specs.Paths.{Bytes}
use Rattle.plain_model.specs.Trees.{TreeOf, Change, Refusal, meaning, change, change_all, ◌>>=◌}
use Rattle.plain_model.specs.Trees.Change.{Put, Remove}
use Rattle.plain_model.specs.Histories.{Node, Past, nodes, past}
use Rattle.plain_model.specs.Lookups.{top_mark, greatest_mark}
use Rattle.plain_model.specs.Snapshots.{Shown, blob_bytes, shown, shown_tree, refs, refs_after}
use Rattle.plain_model.specs.Snapshots.ShownContent.{ShownBytes, ShownObject}
use Rattle.history_laws.proofs.Commits.{nodes_append, refs_append, all_put, all_where}
use Rattle.history_laws.proofs.Lists.{all_imply, all_join, all_reverse}
use Rattle.replay_laws.specs.Replay.{Numbered, if_kept, changed_files}
use Rattle.history_laws.proofs.TreeMapping.{map_change, if_ok_of, changed_from, begun_of, changes_seen, seen, seen_here, seen_other, seen_alike}
use Rattle.history_laws.specs.Placed.{ArePlaced}
use Rattle.replay_laws.proofs.Placed.{IsBare, event_id, placed_more, marked_blobs, commits_seen, tags_seen, unmarked_in, seen_of, commits_append, blobs_append, tags_append, unmarked_append, greatest_more, bytes_still}

-- ---- what the commits refer to

-- the blobs that operations name
abbrev pub blobs_of : List FileOp → List ℕ
blobs_of [] = []
blobs_of (Modify mode (OfBlob b) path ∷ ops) = b ∷ blobs_of ops
blobs_of (Modify mode (Object digits) path ∷ ops) = blobs_of ops
blobs_of (Delete path ∷ ops) = blobs_of ops
blobs_of (Copy source target ∷ ops) = blobs_of ops
blobs_of (Rename source target ∷ ops) = blobs_of ops
blobs_of (DeleteAll ∷ ops) = blobs_of ops

abbrev pub AllBelow : ℕ → List ℕ → Type 0
AllBelow n xs = AllByRecursion (λ x. x < n) xs

-- a commit's own id, its parents and the blobs of its operations are below a number
pub record NodeBelow (n : ℕ) (c : Node) : Type 0 where
  pub own : c.id < n
  pub parents : AllBelow n c.parents
  pub blobs : AllBelow n (blobs_of c.ops)

-- each branch is on a commit whose id is below a number
abbrev pub TipsBelow : ℕ → TreeOf ℕ → Type 0
TipsBelow n tips = AllByRecursion (λ (e : Bytes × ℕ). e.1 < n) tips

-- a greater bound
pub all_up : (m n : ℕ) → m ≤ n → (xs : List ℕ) → AllBelow m xs → AllBelow n xs
all_up m n h = all_imply (λ x. x < m) (λ x. x < n) (λ x k. omega arith)

-- a greater bound of what commits refer to
pub nodes_up : (m n : ℕ) → m ≤ n → (cs : List Node) → AllByRecursion (NodeBelow m) cs → AllByRecursion (NodeBelow n) cs
nodes_up m n h = all_imply (NodeBelow m) (NodeBelow n) (λ c k. record { own = let own = k.own in omega arith; parents = all_up m n h c.parents k.parents; blobs = all_up m n h (blobs_of c.ops) k.blobs })

-- the same bytes for the blobs that operations name
changes_same : (w v : List PlainEvent) (ops : List FileOp) → AllByRecursion (λ b. blob_bytes w b ≡ blob_bytes v b) (blobs_of ops) → changes_seen (shown w) ops ≡ changes_seen (shown v) ops
changes_same w v [] a = refl
changes_same w v (Modify mode (OfBlob b) path ∷ ops) a = λ i. Put (record { mode = mode; content = ShownBytes (a.0 i) }) path ∷ changes_same w v ops a.1 i
changes_same w v (Modify mode (Object digits) path ∷ ops) a = λ i. Put (record { mode = mode; content = ShownObject digits }) path ∷ changes_same w v ops a i
changes_same w v (Delete path ∷ ops) a = λ i. Remove path ∷ changes_same w v ops a i
changes_same w v (Copy source target ∷ ops) a = ap (λ (cs : List (Change Shown)). map_change (shown w) (meaning (Copy source target)) ∷ cs) (changes_same w v ops a)
changes_same w v (Rename source target ∷ ops) a = ap (λ (cs : List (Change Shown)). map_change (shown w) (meaning (Rename source target)) ∷ cs) (changes_same w v ops a)
changes_same w v (DeleteAll ∷ ops) a = ap (λ (cs : List (Change Shown)). map_change (shown w) (meaning DeleteAll) ∷ cs) (changes_same w v ops a)

-- ---- tips

-- ---- the files after operations

-- the files of a commit with these operations and parents
abbrev pub files_now : List PlainEvent → List FileOp → List ℕ → Option (TreeOf Shown)
files_now events ops parents = changed_from (changes_seen (shown events) ops) (begun_of (shown_tree events) parents)

-- one change more
changed_more : (cs : List (Change Shown)) (c : Change Shown) (o : Option (TreeOf Shown)) → changed_from (cs ++ c ∷ []) o ≡ changed_files c (changed_from cs o)
changed_more cs c None = refl
changed_more [] c (Some t) = go (change c t)
  where
    go : (r : Result (TreeOf Shown) Refusal) → if_ok_of (r >>= change_all []) ≡ if_kept r
    go (Ok t) = refl
    go (Err e) = refl
changed_more (d ∷ cs) c (Some t) = go (change d t) (λ u. changed_more cs c (Some u))
  where
    go : (r : Result (TreeOf Shown) Refusal) → ((u : TreeOf Shown) → if_ok_of (change_all (cs ++ c ∷ []) u) ≡ changed_files c (if_ok_of (change_all cs u)))
        → if_ok_of (r >>= change_all (cs ++ c ∷ [])) ≡ changed_files c (if_ok_of (r >>= change_all cs))
    go (Ok u) h = h u
    go (Err e) h = refl

-- the changes of one operation more
changes_more : (f : Entry → Shown) (ops : List FileOp) (op : FileOp) → changes_seen f (ops ++ op ∷ []) ≡ changes_seen f ops ++ map_change f (meaning op) ∷ []
changes_more f [] op = refl
changes_more f (x ∷ ops) op = ap (λ (cs : List (Change Shown)). map_change f (meaning x) ∷ cs) (changes_more f ops op)

-- the files after one operation more
pub files_more : (events : List PlainEvent) (ops : List FileOp) (op : FileOp) (parents : List ℕ) → files_now events (ops ++ op ∷ []) parents ≡ changed_files (map_change (shown events) (meaning op)) (files_now events ops parents)
files_more events ops op parents =
    ap (λ (cs : List (Change Shown)). changed_from cs (begun_of (shown_tree events) parents)) (changes_more (shown events) ops op)
    ∙ changed_more (changes_seen (shown events) ops) (map_change (shown events) (meaning op)) (begun_of (shown_tree events) parents)

-- ---- one more event

pub record IsSoFar (events : List PlainEvent) : Type 0 where
  pub placed : ArePlaced 1 events
  pub below : AllByRecursion (NodeBelow (length events + 1)) (nodes events)
  pub tips : TipsBelow (length events + 1) (refs events)
  pub bare : AllByRecursion IsBare events

-- what is so far, with aliases of its commits
pub record IsRead (events : List PlainEvent) (aliases : List (ℕ × ℕ)) : Type 0 where
  pub so_far : IsSoFar events
  pub named : AllByRecursion (λ (a : ℕ × ℕ). a.1 < length events + 1) aliases

-- an event refers to ids below a number, and a commit has no aliases yet
abbrev pub RefersBelow : ℕ → PlainEvent → Type 0
RefersBelow n (Commit id mark branch author committer encoding comment parents ops aliases) = AllBelow n parents × AllBelow n (blobs_of ops) × (aliases ≡ [])
RefersBelow n (Reset id branch (Some c)) = c < n
RefersBelow n (Reset id branch None) = Unit {0}
RefersBelow n (Blob id mark bytes) = Unit {0}
RefersBelow n (Tag id name target tagger comment mark) = Unit {0}
RefersBelow n (Pass id line) = Unit {0}

-- no bytes for an id before an event's own
other_bytes : (e : PlainEvent) (b : ℕ) → b < event_id e → blob_bytes (e ∷ []) b ≡ []
other_bytes (Blob id mark bytes) b h = cond-false (id == b) bytes [] (ne_eqb id b (λ e. omega arith))
other_bytes (Commit id mark branch author committer encoding comment parents ops aliases) b h = refl
other_bytes (Tag id name target tagger comment mark) b h = refl
other_bytes (Reset id branch target) b h = refl
other_bytes (Pass id line) b h = refl

-- a commit before an event isn't it
other_tree : (f : Entry → Shown) (e : PlainEvent) (older : Past) (c : ℕ) → c < event_id e → seen f (reverse (nodes (e ∷ [])) ++ older) c ≡ seen f older c
other_tree f (Commit id mark branch author committer encoding comment parents ops aliases) older c h = seen_other f (record { id = id; parents = parents; ops = ops }) older c (ne_eqb id c (λ e. omega arith))
other_tree f (Blob id mark bytes) older c h = refl
other_tree f (Tag id name target tagger comment mark) older c h = refl
other_tree f (Reset id branch target) older c h = refl
other_tree f (Pass id line) older c h = refl

-- commits whose trees are shown alike
commits_same : (w v es : List PlainEvent) → AllByRecursion (λ c. shown_tree w c.id ≡ shown_tree v c.id) (nodes es) → commits_seen w es ≡ commits_seen v es
commits_same w v [] a = refl
commits_same w v (Commit id mark branch author committer encoding comment parents ops aliases ∷ es) a = λ i. record {
  number = id;
  commit = record { mark = mark; branch = branch; author = author; committer = committer; encoding = encoding; comment = comment; parents = parents; tree = a.0 i; aliases = [] };
} ∷ commits_same w v es a.1 i
commits_same w v (Blob id mark bytes ∷ es) a = commits_same w v es a
commits_same w v (Tag id name target tagger comment mark ∷ es) a = commits_same w v es a
commits_same w v (Reset id branch target ∷ es) a = commits_same w v es a
commits_same w v (Pass id line ∷ es) a = commits_same w v es a

-- the tips after one more event
tips_more : (n m : ℕ) → n + 1 ≤ m → (e : PlainEvent) → event_id e ≡ n → RefersBelow n e → (t : TreeOf ℕ) → TipsBelow n t → TipsBelow m (refs_after t (e ∷ []))
tips_more n m h (Commit id mark branch author committer encoding comment parents ops aliases) own r t a = all_put (λ x. x < m) branch id t (omega arith) (all_imply (λ x. x.1 < n) (λ x. x.1 < m) (λ x k. omega arith) t a)
tips_more n m h (Reset id branch (Some c)) own r t a = all_put (λ x. x < m) branch c t (omega arith) (all_imply (λ x. x.1 < n) (λ x. x.1 < m) (λ x k. omega arith) t a)
tips_more n m h (Reset id branch None) own r t a = all_where (λ x. x < m) (λ b. not (bytes_eq branch b)) t (all_imply (λ x. x.1 < n) (λ x. x.1 < m) (λ x k. omega arith) t a)
tips_more n m h (Blob id mark bytes) own r t a = all_imply (λ x. x.1 < n) (λ x. x.1 < m) (λ x k. omega arith) t a
tips_more n m h (Tag id name target tagger comment mark) own r t a = all_imply (λ x. x.1 < n) (λ x. x.1 < m) (λ x k. omega arith) t a
tips_more n m h (Pass id line) own r t a = all_imply (λ x. x.1 < n) (λ x. x.1 < m) (λ x k. omega arith) t a

-- the commits of one more event
nodes_more : (n m : ℕ) → n + 1 ≤ m → (e : PlainEvent) → event_id e ≡ n → RefersBelow n e → AllByRecursion (NodeBelow m) (nodes (e ∷ []))
nodes_more n m h (Commit id mark branch author committer encoding comment parents ops aliases) own r = (record { own = omega arith; parents = all_up n m (omega arith) parents r.0; blobs = all_up n m (omega arith) (blobs_of ops) r.1 }, tt)
nodes_more n m h (Blob id mark bytes) own r = tt
nodes_more n m h (Tag id name target tagger comment mark) own r = tt
nodes_more n m h (Reset id branch target) own r = tt
nodes_more n m h (Pass id line) own r = tt

module _ (events : List PlainEvent) (s : IsSoFar events) (e : PlainEvent) (own : event_id e ≡ length events + 1) where
  abbrev more : List PlainEvent
  more = events ++ e ∷ []

  -- the number of events grows by one
  pub length_more : length more ≡ length events + 1
  length_more = length-append events (e ∷ [])

  past_more : past more ≡ reverse (nodes (e ∷ [])) ++ past events
  past_more = ap (λ (l : List Node). reverse l) (nodes_append events (e ∷ [])) ∙ reverse-append (nodes events) (nodes (e ∷ []))

  -- earlier blobs have their bytes
  pub bytes_kept : (b : ℕ) → b < length events + 1 → blob_bytes more b ≡ blob_bytes events b
  bytes_kept b h = bytes_still events (e ∷ []) b (other_bytes e b (omega (arith, own)))

  -- operations on earlier blobs are seen as before
  pub ops_kept : (ops : List FileOp) → AllBelow (length events + 1) (blobs_of ops) → changes_seen (shown more) ops ≡ changes_seen (shown events) ops
  ops_kept ops a = changes_same more events ops (all_imply (λ b. b < length events + 1) (λ b. blob_bytes more b ≡ blob_bytes events b) bytes_kept (blobs_of ops) a)

  -- trees of the past are seen as before
  past_kept : (c : ℕ) → seen (shown more) (past events) c ≡ seen (shown events) (past events) c
  past_kept c = seen_alike (shown more) (shown events) (past events)
      (all_reverse (λ n. changes_seen (shown more) n.ops ≡ changes_seen (shown events) n.ops) (nodes events)
      (all_imply (NodeBelow (length events + 1)) (λ n. changes_seen (shown more) n.ops ≡ changes_seen (shown events) n.ops) (λ n b. ops_kept n.ops b.blobs) (nodes events) s.below)) c

  -- earlier commits are shown with their trees
  pub tree_kept : (c : ℕ) → c < length events + 1 → shown_tree more c ≡ shown_tree events c
  tree_kept c h =
      ap (λ (p : Past). seen (shown more) p c) past_more
      ∙ other_tree (shown more) e (past events) c (omega (arith, own))
      ∙ past_kept c

  -- a commit begins as before
  begun_kept : (parents : List ℕ) → AllBelow (length events + 1) parents → begun_of (shown_tree more) parents ≡ begun_of (shown_tree events) parents
  begun_kept [] a = refl
  begun_kept (p ∷ parents) a = tree_kept p a.0

  -- a commit that is being read has the files that it had
  pub files_kept : (ops : List FileOp) (parents : List ℕ) → AllBelow (length events + 1) (blobs_of ops) → AllBelow (length events + 1) parents → files_now more ops parents ≡ files_now events ops parents
  files_kept ops parents a b =
      ap (λ (cs : List (Change Shown)). changed_from cs (begun_of (shown_tree more) parents)) (ops_kept ops a)
      ∙ ap (changed_from (changes_seen (shown events) ops)) (begun_kept parents b)

  -- what is replayed of one more event
  pub seen_more : seen_of more ≡ record {
    count = length events + 1;
    blobs = marked_blobs events ++ marked_blobs (e ∷ []);
    commits = commits_seen events events ++ commits_seen more (e ∷ []);
    tags = tags_seen events ++ tags_seen (e ∷ []);
    tips = refs_after (refs events) (e ∷ []);
    aliases = [];
    unmarked = unmarked_in events ++ unmarked_in (e ∷ []);
    greatest = max (greatest_mark events) (top_mark e);
  }
  seen_more = λ i. record {
    count = length_more i;
    blobs = blobs_append events (e ∷ []) i;
    commits = (commits_append more events (e ∷ []) ∙ ap (λ (l : List Numbered). l ++ commits_seen more (e ∷ [])) commits_kept) i;
    tags = tags_append events (e ∷ []) i;
    tips = refs_append [] events (e ∷ []) i;
    aliases = [];
    unmarked = unmarked_append events (e ∷ []) i;
    greatest = greatest_more 0 events e i;
  }
    where
      commits_kept : commits_seen more events ≡ commits_seen events events
      commits_kept = commits_same more events events (all_imply (NodeBelow (length events + 1)) (λ c. shown_tree more c.id ≡ shown_tree events c.id) (λ c b. tree_kept c.id b.own) (nodes events) s.below)

  -- what a history so far keeps is kept
  pub so_far_more : RefersBelow (length events + 1) e → IsSoFar more
  so_far_more r = record {
    placed = placed_more 1 events e s.placed (omega (arith, own));
    below = subst (AllByRecursion (NodeBelow (length more + 1))) (sym (nodes_append events (e ∷ [])))
        (all_join (NodeBelow (length more + 1)) (nodes events) (nodes (e ∷ []))
        (nodes_up (length events + 1) (length more + 1) (omega (arith, length_more)) (nodes events) s.below)
        (nodes_more (length events + 1) (length more + 1) (omega (arith, length_more)) e own r));
    tips = subst (TipsBelow (length more + 1)) (sym (refs_append [] events (e ∷ [])))
        (tips_more (length events + 1) (length more + 1) (omega (arith, length_more)) e own r (refs events) s.tips);
    bare = all_join IsBare events (e ∷ []) s.bare (own_bare e r, tt);
  }
    where
      own_bare : (e : PlainEvent) → RefersBelow (length events + 1) e → IsBare e
      own_bare (Commit id mark branch author committer encoding comment parents ops aliases) r = r.2
      own_bare (Blob id mark bytes) r = tt
      own_bare (Tag id name target tagger comment mark) r = tt
      own_bare (Reset id branch target) r = tt
      own_bare (Pass id line) r = tt

  -- so are aliases of its commits
  pub read_more : (aliases : List (ℕ × ℕ)) → AllByRecursion (λ (a : ℕ × ℕ). a.1 < length events + 1) aliases → RefersBelow (length events + 1) e → IsRead more aliases
  read_more aliases named r = record {
    so_far = so_far_more r;
    named = all_imply (λ (a : ℕ × ℕ). a.1 < length events + 1) (λ (a : ℕ × ℕ). a.1 < length more + 1) (λ a h. omega (arith, length_more)) aliases named;
  }

module _ (events : List PlainEvent) (s : IsSoFar events) (id mark : ℕ) (branch : Bytes) (author committer : Signed) (encoding : Option Bytes) (comment : Bytes) (parents : List ℕ) (ops : List FileOp)
    (own : id ≡ length events + 1) (known : AllBelow (length events + 1) (blobs_of ops)) where
  abbrev the_commit : PlainEvent
  the_commit = Commit id mark branch author committer encoding comment parents ops []

  abbrev with_it : List PlainEvent
  with_it = events ++ the_commit ∷ []

  starts : (ps : List ℕ) → begun_of (seen (shown with_it) (past events)) ps ≡ begun_of (seen (shown events) (past events)) ps
  starts [] = refl
  starts (p ∷ ps) = past_kept events s the_commit own p

  -- a new commit is shown with its files
  pub new_tree : shown_tree with_it id ≡ files_now events ops parents
  new_tree =
      ap (λ (p : Past). seen (shown with_it) p id) (past_more events s the_commit own)
      ∙ seen_here (shown with_it) (record { id = id; parents = parents; ops = ops }) (past events) id (eq-eqb id id refl)
      ∙ ap (λ (cs : List (Change Shown)). changed_from cs (begun_of (seen (shown with_it) (past events)) parents)) (ops_kept events s the_commit own ops known)
      ∙ ap (changed_from (changes_seen (shown events) ops)) (starts parents)
