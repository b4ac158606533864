-- Events whose ids are given by place: what marks and ids find among them, and one more event.
use Rattle.std.proofs.Common.{◌≡◌, ℕ, suc, ◌+◌, ◌<◌, ◌≤◌, Bool, true, false, cond, List, [], ◌∷◌, ◌++◌, length, reverse, refl, sym, ap, ◌∙◌, Option, Some, None, arith, eqb-true, eq-eqb, ne_eqb, max}
use Rattle.std.specs.Prelude.{◌==◌, ◌||◌, option_map, option_and_then}
use Rattle.std.specs.List.{AllByRecursion, fold}
use Rattle.std.proofs.lemmas.Bool.{cond-true, cond-false, or_parts}
use Rattle.std.proofs.lemmas.List.{reverse-append}
use Rattle.plain_model.specs.declared.event.PlainEvent.{PlainEvent}
use Rattle.plain_model.specs.declared.event.PlainEvent.TheVariants.{Blob, Commit, Tag, Reset, Pass}
use Rattle.plain_model.specs.Paths.{Bytes}
use Rattle.plain_model.specs.Histories.{Past, nodes, past, tree_in, knows}
use Rattle.plain_model.specs.Lookups.{greatest_mark, greatest_of, top_mark, id_number, id_of}
use Rattle.plain_model.specs.Snapshots.{ShownTag, blob_bytes, shown, map_tree, shown_tree, refs}
use Rattle.plain_model.specs.Streams.{blob_marked, commit_marked, is_among}
use Rattle.stream_grammar.specs.Known.{alias_marks}
use Rattle.history_laws.proofs.Commits.{unknown_both}
use Rattle.history_laws.specs.Placed.{ArePlaced}
use Rattle.replay_laws.specs.Replay.{Numbered, Replayed, bytes_marked, number_marked, commit_numbered, files_of}

abbrev pub event_id : PlainEvent → ℕ
event_id e = id_number (id_of e)

-- one more event, at the next place
pub placed_more : (k : ℕ) (xs : List PlainEvent) (e : PlainEvent) → ArePlaced k xs → event_id e ≡ k + length xs → ArePlaced k (xs ++ e ∷ [])
placed_more k [] e a b = (omega (arith, b), tt)
placed_more k (x ∷ xs) e a b = (a.0, placed_more (suc k) xs e a.1 (omega (arith, b)))

-- ---- marks and ids

-- one of n numbers from k
abbrev pub Within : ℕ → ℕ → ℕ → Type 0
Within k n c = (k ≤ c) × (c < k + n)

-- a range that begins one earlier
pub wider : (k n c : ℕ) → Within (suc k) n c → Within k (suc n) c
wider k n c h = (omega arith, omega arith)

-- the first of a range
pub first_of_range : (k n id c : ℕ) → id ≡ k → id ≡ c → Within k (suc n) c
first_of_range k n id c is same = (omega arith, omega arith)

-- the first of a range is none of the others
pub apart_ids : (k n id c : ℕ) → id ≡ k → Within (suc k) n c → (id == c) ≡ false
apart_ids k n id c is h = ne_eqb id c (λ e. omega arith)

-- the commit that a mark finds has a place
pub commit_place : (k : ℕ) (es : List PlainEvent) → ArePlaced k es → (m c : ℕ) → commit_marked es m ≡ Some c → Within k (length es) c
commit_place k [] a m c h = absurd cc
commit_place k (Commit id mark branch author committer encoding comment parents ops aliases ∷ es) a m c h = go (mark == m) (is_among aliases m) h (λ x. commit_place (suc k) es a.1 m c x)
  where
    go : (b u : Bool) → cond b (Some id) (cond u (Some id) (commit_marked es m)) ≡ Some c → (commit_marked es m ≡ Some c → Within (suc k) (length es) c) → Within k (suc (length es)) c
    go true u y f = first_of_range k (length es) id c a.0 (let is : id ≡ c = cc in is)
    go false true y f = first_of_range k (length es) id c a.0 (let is : id ≡ c = cc in is)
    go false false y f = wider k (length es) c (f y)
commit_place k (Blob id mark bytes ∷ es) a m c h = wider k (length es) c (commit_place (suc k) es a.1 m c h)
commit_place k (Tag id name target tagger comment mark ∷ es) a m c h = wider k (length es) c (commit_place (suc k) es a.1 m c h)
commit_place k (Reset id branch target ∷ es) a m c h = wider k (length es) c (commit_place (suc k) es a.1 m c h)
commit_place k (Pass id line ∷ es) a m c h = wider k (length es) c (commit_place (suc k) es a.1 m c h)

-- marks with bytes
abbrev pub marked_blobs : List PlainEvent → List (ℕ × Bytes)
marked_blobs [] = []
marked_blobs (Blob id mark bytes ∷ es) = (mark, bytes) ∷ marked_blobs es
marked_blobs (Commit id mark branch author committer encoding comment parents ops aliases ∷ es) = marked_blobs es
marked_blobs (Tag id name target tagger comment mark ∷ es) = marked_blobs es
marked_blobs (Reset id branch target ∷ es) = marked_blobs es
marked_blobs (Pass id line ∷ es) = marked_blobs es

-- a blob is found by its mark, its place and its bytes alike
abbrev BlobFound : ℕ → List PlainEvent → ℕ → ℕ → Type 0
BlobFound k es m b = Within k (length es) b × (bytes_marked (marked_blobs es) m ≡ Some (blob_bytes es b))

-- the blob that a mark finds has a place, and its bytes are those of the mark
pub blob_place : (k : ℕ) (es : List PlainEvent) → ArePlaced k es → (m b : ℕ) → blob_marked es m ≡ Some b → BlobFound k es m b
blob_place k [] a m b h = absurd cc
blob_place k (Blob id mark bytes ∷ es) a m b h = go (mark == m) h (λ x. blob_place (suc k) es a.1 m b x)
  where
    go : (t : Bool) → cond t (Some id) (blob_marked es m) ≡ Some b → (blob_marked es m ≡ Some b → BlobFound (suc k) es m b)
        → Within k (suc (length es)) b × (cond t (Some bytes) (bytes_marked (marked_blobs es) m) ≡ Some (cond (id == b) bytes (blob_bytes es b)))
    go true y f =
        let is : id ≡ b = cc in
        (first_of_range k (length es) id b a.0 is, ap (λ (z : Bytes). Some z) (sym (cond-true (id == b) bytes (blob_bytes es b) (eq-eqb id b is))))
    go false y f =
        let r = f y in
        (wider k (length es) b r.0, r.1 ∙ ap (λ (z : Bytes). Some z) (sym (cond-false (id == b) bytes (blob_bytes es b) (apart_ids k (length es) id b a.0 r.0))))
blob_place k (Commit id mark branch author committer encoding comment parents ops aliases ∷ es) a m b h = let r = blob_place (suc k) es a.1 m b h in (wider k (length es) b r.0, r.1)
blob_place k (Tag id name target tagger comment mark ∷ es) a m b h = let r = blob_place (suc k) es a.1 m b h in (wider k (length es) b r.0, r.1)
blob_place k (Reset id branch target ∷ es) a m b h = let r = blob_place (suc k) es a.1 m b h in (wider k (length es) b r.0, r.1)
blob_place k (Pass id line ∷ es) a m b h = let r = blob_place (suc k) es a.1 m b h in (wider k (length es) b r.0, r.1)

-- ---- what is replayed of some events

-- the commits of a part of a history, by their ids
abbrev pub commits_seen : List PlainEvent → List PlainEvent → List Numbered
commits_seen whole [] = []
commits_seen whole (Commit id mark branch author committer encoding comment parents ops aliases ∷ es) =
    record {
      number = id;
      commit = record { mark = mark; branch = branch; author = author; committer = committer; encoding = encoding; comment = comment; parents = parents; tree = shown_tree whole id; aliases = [] };
    } ∷ commits_seen whole es
commits_seen whole (Blob id mark bytes ∷ es) = commits_seen whole es
commits_seen whole (Tag id name target tagger comment mark ∷ es) = commits_seen whole es
commits_seen whole (Reset id branch target ∷ es) = commits_seen whole es
commits_seen whole (Pass id line ∷ es) = commits_seen whole es

abbrev pub tags_seen : List PlainEvent → List ShownTag
tags_seen [] = []
tags_seen (Tag id name target tagger comment mark ∷ es) = record { name = name; target = target; tagger = tagger; comment = comment; mark = mark } ∷ tags_seen es
tags_seen (Blob id mark bytes ∷ es) = tags_seen es
tags_seen (Commit id mark branch author committer encoding comment parents ops aliases ∷ es) = tags_seen es
tags_seen (Reset id branch target ∷ es) = tags_seen es
tags_seen (Pass id line ∷ es) = tags_seen es

-- the id, if there is no mark
abbrev pub own_unmarked : PlainEvent → List ℕ
own_unmarked (Blob id mark bytes) = cond (mark == 0) (id ∷ []) []
own_unmarked (Commit id mark branch author committer encoding comment parents ops aliases) = cond (mark == 0) (id ∷ []) []
own_unmarked (Tag id name target tagger comment mark) = []
own_unmarked (Reset id branch target) = []
own_unmarked (Pass id line) = []

abbrev pub unmarked_in : List PlainEvent → List ℕ
unmarked_in [] = []
unmarked_in (e ∷ es) = own_unmarked e ++ unmarked_in es

abbrev pub seen_of : List PlainEvent → Replayed
seen_of es = record {
  count = length es;
  blobs = marked_blobs es;
  commits = commits_seen es es;
  tags = tags_seen es;
  tips = refs es;
  aliases = [];
  unmarked = unmarked_in es;
  greatest = greatest_mark es;
}

-- the same with aliases
abbrev pub with_further : List (ℕ × ℕ) → Replayed → Replayed
with_further aliases r = record r { aliases = aliases; greatest = greatest_of r.greatest (alias_marks aliases) }

abbrev pub seen_with : List PlainEvent → List (ℕ × ℕ) → Replayed
seen_with es aliases = with_further aliases (seen_of es)

-- a commit has its aliases beside it
abbrev pub IsBare : PlainEvent → Type 0
IsBare (Commit id mark branch author committer encoding comment parents ops aliases) = aliases ≡ []
IsBare (Blob id mark bytes) = Unit {0}
IsBare (Tag id name target tagger comment mark) = Unit {0}
IsBare (Reset id branch target) = Unit {0}
IsBare (Pass id line) = Unit {0}

-- a mark finds the same commit
pub number_alike : (w es : List PlainEvent) → AllByRecursion IsBare es → (m : ℕ) → number_marked (commits_seen w es) m ≡ commit_marked es m
number_alike w [] b m = refl
number_alike w (Commit id mark branch author committer encoding comment parents ops aliases ∷ es) b m =
    ap (λ (o : Option ℕ). cond (mark == m) (Some id) o) (number_alike w es b.1 m)
    ∙ sym (ap (λ (l : List ℕ). cond (mark == m) (Some id) (cond (is_among l m) (Some id) (commit_marked es m))) b.0)
number_alike w (Blob id mark bytes ∷ es) b m = number_alike w es b.1 m
number_alike w (Tag id name target tagger comment mark ∷ es) b m = number_alike w es b.1 m
number_alike w (Reset id branch target ∷ es) b m = number_alike w es b.1 m
number_alike w (Pass id line ∷ es) b m = number_alike w es b.1 m

-- a number finds the files of its commit among some events
files_among : (w es : List PlainEvent) (c : ℕ) → files_of (commits_seen w es) c ≡ cond (knows (nodes es) c) (shown_tree w c) None
files_among w [] c = refl
files_among w (Commit id mark branch author committer encoding comment parents ops aliases ∷ es) c = go (id == c) refl (files_among w es c)
  where
    one : Numbered
    one = record {
      number = id;
      commit = record { mark = mark; branch = branch; author = author; committer = committer; encoding = encoding; comment = comment; parents = parents; tree = shown_tree w id; aliases = [] };
    }

    go : (b : Bool) → (id == c) ≡ b → files_of (commits_seen w es) c ≡ cond (knows (nodes es) c) (shown_tree w c) None
        → option_and_then (λ (x : Numbered). x.commit.tree) (cond b (Some one) (commit_numbered (commits_seen w es) c)) ≡ cond (b || knows (nodes es) c) (shown_tree w c) None
    go true x r = ap (shown_tree w) (eqb-true id c x)
    go false x r = r
files_among w (Blob id mark bytes ∷ es) c = files_among w es c
files_among w (Tag id name target tagger comment mark ∷ es) c = files_among w es c
files_among w (Reset id branch target ∷ es) c = files_among w es c
files_among w (Pass id line ∷ es) c = files_among w es c

-- what isn't known has no tree
unknown_tree : (older : Past) (c : ℕ) → knows older c ≡ false → tree_in older c ≡ None
unknown_tree [] c h = refl
unknown_tree (n ∷ older) c h =
    let parts = or_parts (n.id == c) (knows older c) h in
    cond-false (n.id == c) _ (tree_in older c) parts.0 ∙ unknown_tree older c parts.1

-- the order doesn't count
unknown_reverse : (a : Past) (c : ℕ) → knows a c ≡ false → knows (reverse a) c ≡ false
unknown_reverse [] c h = refl
unknown_reverse (n ∷ a) c h =
    let parts = or_parts (n.id == c) (knows a c) h in
    ap (λ (l : Past). knows l c) (reverse-append (n ∷ []) a)
    ∙ unknown_both (reverse a) (n ∷ []) c (unknown_reverse a c parts.1) (ap (λ x. x || false) parts.0)

-- a number finds the files of its commit
pub files_alike : (w : List PlainEvent) (c : ℕ) → files_of (commits_seen w w) c ≡ shown_tree w c
files_alike w c = files_among w w c ∙ go (knows (nodes w) c) refl
  where
    go : (b : Bool) → knows (nodes w) c ≡ b → cond b (shown_tree w c) None ≡ shown_tree w c
    go true h = refl
    go false h = ap (option_map (map_tree (shown w))) (sym (unknown_tree (past w) c (unknown_reverse (nodes w) c h)))

-- ---- one more event

pub commits_append : (w a b : List PlainEvent) → commits_seen w (a ++ b) ≡ commits_seen w a ++ commits_seen w b
commits_append w [] b = refl
commits_append w (Commit id mark branch author committer encoding comment parents ops aliases ∷ a) b =
    ap (λ (l : List Numbered). record {
      number = id;
      commit = record { mark = mark; branch = branch; author = author; committer = committer; encoding = encoding; comment = comment; parents = parents; tree = shown_tree w id; aliases = [] };
    } ∷ l) (commits_append w a b)
commits_append w (Blob id mark bytes ∷ a) b = commits_append w a b
commits_append w (Tag id name target tagger comment mark ∷ a) b = commits_append w a b
commits_append w (Reset id branch target ∷ a) b = commits_append w a b
commits_append w (Pass id line ∷ a) b = commits_append w a b

pub blobs_append : (a b : List PlainEvent) → marked_blobs (a ++ b) ≡ marked_blobs a ++ marked_blobs b
blobs_append [] b = refl
blobs_append (Blob id mark bytes ∷ a) b = ap (λ (l : List (ℕ × Bytes)). (mark, bytes) ∷ l) (blobs_append a b)
blobs_append (_ ∷ a) b = blobs_append a b

pub tags_append : (a b : List PlainEvent) → tags_seen (a ++ b) ≡ tags_seen a ++ tags_seen b
tags_append [] b = refl
tags_append (Tag id name target tagger comment mark ∷ a) b = ap (λ (l : List ShownTag). record { name = name; target = target; tagger = tagger; comment = comment; mark = mark } ∷ l) (tags_append a b)
tags_append (_ ∷ a) b = tags_append a b

-- two lists after a third
joined_twice : {A : Type 0} (a b c : List A) → a ++ (b ++ c) ≡ a ++ b ++ c
joined_twice [] b c = refl
joined_twice (x ∷ a) b c = ap (λ l. x ∷ l) (joined_twice a b c)

pub unmarked_append : (a b : List PlainEvent) → unmarked_in (a ++ b) ≡ unmarked_in a ++ unmarked_in b
unmarked_append [] b = refl
unmarked_append (e ∷ a) b = ap (λ (l : List ℕ). own_unmarked e ++ l) (unmarked_append a b) ∙ joined_twice (own_unmarked e) (unmarked_in a) (unmarked_in b)

-- the greatest of some marks and one more
pub greatest_turned : (g m : ℕ) (marks : List ℕ) → greatest_of (max g m) marks ≡ max (greatest_of g marks) m
greatest_turned g m [] = refl
greatest_turned g m (x ∷ marks) = ap (λ n. greatest_of n marks) (max_turned g m x) ∙ greatest_turned (max g x) m marks
  where
    max_turned : (a b c : ℕ) → max (max a b) c ≡ max (max a c) b
    max_turned a b c = omega arith

-- one alias more
pub greatest_alias : (g : ℕ) (aliases : List (ℕ × ℕ)) (x : ℕ × ℕ) → greatest_of g (alias_marks (aliases ++ x ∷ [])) ≡ max (greatest_of g (alias_marks aliases)) x.0
greatest_alias g [] x = refl
greatest_alias g (a ∷ aliases) x = greatest_alias (max g a.0) aliases x

-- one more mark
pub greatest_more : (n : ℕ) (a : List PlainEvent) (e : PlainEvent) → fold (λ m x. max m (top_mark x)) n (a ++ e ∷ []) ≡ max (fold (λ m x. max m (top_mark x)) n a) (top_mark e)
greatest_more n [] e = refl
greatest_more n (x ∷ a) e = greatest_more (max n (top_mark x)) a e

-- an id that none of the blobs after has
pub bytes_still : (a b : List PlainEvent) (c : ℕ) → blob_bytes b c ≡ [] → blob_bytes (a ++ b) c ≡ blob_bytes a c
bytes_still [] b c h = h
bytes_still (Blob id mark bytes ∷ a) b c h = ap (cond (id == c) bytes) (bytes_still a b c h)
bytes_still (_ ∷ a) b c h = bytes_still a b c h

-- an id past all places
pub bytes_new : (k : ℕ) (a b : List PlainEvent) (c : ℕ) → ArePlaced k a → k + length a ≤ c → blob_bytes (a ++ b) c ≡ blob_bytes b c
bytes_new k [] b c p h = refl
bytes_new k (Blob id mark bytes ∷ a) b c p h =
    let is = p.0 in
    cond-false (id == c) bytes (blob_bytes (a ++ b) c) (ne_eqb id c (λ e. omega arith)) ∙ bytes_new (suc k) a b c p.1 (omega arith)
bytes_new k (Commit id mark branch author committer encoding comment parents ops aliases ∷ a) b c p h = bytes_new (suc k) a b c p.1 (omega arith)
bytes_new k (Tag id name target tagger comment mark ∷ a) b c p h = bytes_new (suc k) a b c p.1 (omega arith)
bytes_new k (Reset id branch target ∷ a) b c p h = bytes_new (suc k) a b c p.1 (omega arith)
bytes_new k (Pass id line ∷ a) b c p h = bytes_new (suc k) a b c p.1 (omega arith)
