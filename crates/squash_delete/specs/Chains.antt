-- The removed commits before a commit, by first parents, of which those without operations and comment are passed over.
use Rattle.std.specs.Prelude.{ℕ, suc, ◌≡◌, ◌<◌, ◌≤◌, ◌==◌, false, List, [], ◌∷◌, ◌++◌, length, map, flat_map, take, Option, Some, None, slice_get, slice_index_or, if◌then◌else◌}
use Rattle.std.specs.List.{AllByRecursion}
use Rattle.std.specs.List.Sorted.{IsNonDecreasingBy}
use Rattle.plain_model.specs.declared.id.AnyId.{AnyId}
use Rattle.plain_model.specs.declared.operation.FileOp.{FileOp}
use Rattle.plain_model.specs.declared.event.PlainEvent.{PlainEvent}
use Rattle.plain_model.specs.Histories.{past}
use Rattle.plain_model.specs.Paths.{Bytes}
use Rattle.plain_model.specs.Soundness.{IsCommitOf}
use Rattle.plain_model.specs.Lookups.{commit_id}
use Rattle.history_laws.specs.FirstParents.{ops_along}
use Rattle.edit_laws.specs.Removal.{expand}
use Rattle.manifest_cache.specs.Walks.{ops_at}
use Rattle.squash_laws.specs.Comments.{comment_of, joined}
use Rattle.squash_laws.specs.Removed.{is_removed}
use Rattle.squash_laws.specs.Takings.{comments_of, is_from_root, is_none, links}
use Rattle.plan_steps.specs.Depths.{depth, parents_at}
use Rattle.squash_delete.specs.declared.chains.Entry.{Entry}
use Rattle.squash_delete.specs.declared.chains.Link.{Link}

-- the commits are earlier than so many events
abbrev pub AreBefore : List PlainEvent → ℕ → List ℕ → Type 0
AreBefore events k commits = AllByRecursion (IsCommitOf (take k events)) commits

-- nothing is noted of a commit that stays
abbrev pub no_link : Link
no_link = record { nearest = None; from_root = false; is_over = false }

-- what entries note at a place
abbrev pub noted_at : List Entry → ℕ → Link
noted_at [] k = no_link
noted_at (entry ∷ entries) k = if entry.place == k then entry.link else noted_at entries k

-- what is noted of the first events, so many of them
pub record Noted : Type 0 where
  pub count : ℕ
  pub entries : List Entry

-- the places of entries rise, and are among so many
pub record AreEntries (count : ℕ) (entries : List Entry) : Type 0 where
  pub rising : IsNonDecreasingBy (λ (entry : Entry). entry.place) entries
  pub below : (i : ℕ) (default : Entry) → i < length entries → (slice_index_or entries i default).place < count

-- a link is noted of one event more
pub record NotesNext (old : Noted) (link : Link) (new : Noted) : Type 0 where
  pub count : new.count ≡ suc old.count
  pub next : noted_at new.entries old.count ≡ link
  pub same : (k : ℕ) → k < old.count → noted_at new.entries k ≡ noted_at old.entries k

module _ (set : List AnyId) (events : List PlainEvent) where
  -- what a removed commit brings along: first what those before it bring
  abbrev pub ops_to : Option ℕ → List FileOp
  ops_to None = []
  ops_to (Some d) = ops_along (links set events (parents_at events d)) ++ ops_at events d

  abbrev pub comments_to : Option ℕ → List Bytes
  comments_to None = []
  comments_to (Some d) = comments_of set events (links set events (parents_at events d)) ++ comment_of events d ∷ []

  -- the removed commits before one with these parents bring along what this commit does, which is one of so many events
  pub record IsNearest (most : ℕ) (parents : List ℕ) (nearest : Option ℕ) : Type 0 where
    pub ops : ops_along (links set events parents) ≡ ops_to nearest
    pub comments : (more : List Bytes) →
        joined (comments_of set events (links set events parents) ++ more) ≡ joined (comments_to nearest ++ more)
    pub there : (d : ℕ) → nearest ≡ Some d → (1 ≤ depth events d) × (depth events d ≤ most)

  -- what is noted of a commit
  pub record Notes (c : ℕ) (link : Link) : Type 0 where
    pub nearest : IsNearest (depth events c) (c ∷ []) link.nearest
    pub from_root : link.from_root ≡ is_from_root (links set events (c ∷ []))
    pub is_over : link.is_over ≡ is_none (expand (is_removed set) (past events) c)

  abbrev pub LinkIs : PlainEvent → Link → Type 0
  LinkIs e link = (c : ℕ) → commit_id e ≡ Some c → Notes c link

  -- notes of the first commits
  abbrev pub AreLinks : Noted → Type 0
  AreLinks noted = (k : ℕ) (e : PlainEvent) → slice_get events k ≡ Some e → k < noted.count → LinkIs e (noted_at noted.entries k)

  -- these commits, the oldest first, have the operations and comments of the removed ones before a commit with these parents
  pub record Carry (parents commits : List ℕ) : Type 0 where
    pub ops : ops_along (links set events parents) ≡ flat_map (ops_at events) commits
    pub comments : (more : List Bytes) →
        joined (comments_of set events (links set events parents) ++ more) ≡ joined (map (comment_of events) commits ++ more)
