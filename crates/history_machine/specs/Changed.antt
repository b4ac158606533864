-- What an edit changes of the chosen history, where trees don't all stay.
use Rattle.std.specs.Prelude.{◌≡◌, ℕ, ◌+◌, ◌++◌, ◌&&◌, ◌⊎◌, Bool, IsFalse, IsTrue, List, false, ◌∷◌, [], length, map, not, Option, Ok, option_map, true}
use Rattle.std.specs.List.{AllByRecursion}
use Rattle.plain_model.specs.declared.event.PlainEvent.{PlainEvent}
use Rattle.plain_model.specs.declared.id.AnyId.{AnyId}
use Rattle.plain_model.specs.declared.id.AnyId.TheVariants as any
use Rattle.plain_model.specs.declared.operation.FileOp.{FileOp}
use Rattle.plain_model.specs.declared.policy.Lean.{Lean}
use Rattle.plain_model.specs.declared.policy.Lean.TheVariants as lean
use Rattle.plain_model.specs.declared.policy.Policy.{Policy}
use Rattle.plain_model.specs.declared.policy.Push.TheVariants as push
use Rattle.plain_model.specs.declared.raw.RawOp.{RawOp}
use Rattle.plain_model.specs.Histories.{nodes, tree}
use Rattle.plain_model.specs.Lookups.{is_listed}
use Rattle.plain_model.specs.Paths.{Bytes}
use Rattle.plain_model.specs.Snapshots.{shown_tree}
use Rattle.plain_model.specs.Soundness.{IsCommitOf, has_id}
use Rattle.byte_patterns.specs.Judging.{Denial, under}
use Rattle.coalesce_laws.specs.Coalesce.{joined_ones}
use Rattle.coalesce_laws.specs.Remaining.{IsJoinedTo}
use Rattle.edit_laws.specs.Editing.{Remade}
use Rattle.edit_laws.specs.Equations.{Fits}
use Rattle.edit_laws.specs.Keeping
use Rattle.edit_laws.specs.Sweeping.{is_named}
use Rattle.event_sets.specs.Sets.{Ids}
use Rattle.expunge_laws.specs.Expunged.{emptied, is_emptied}
use Rattle.expunge_laws.specs.Remaining.{LeavesWhere}
use Rattle.expunge_laws.specs.Replaced.{restricted}
use Rattle.path_move_laws.specs.Images.{image}
use Rattle.path_move_laws.specs.Moves.{with_ops_for}
use Rattle.path_move_laws.specs.PathMaps.{image_of}
use Rattle.path_move_laws.specs.declared.path_map.PathMap.{PathMap}
use Rattle.reorder_laws.specs.InOrder.{IsInOrder}
use Rattle.reparent_laws.specs.declared.removal.Removal.{Removal}
use Rattle.reparent_laws.specs.declared.removal.Removal.TheVariants.{At}
use Rattle.reparent_laws.specs.Merge.{merges, unmerges}
use Rattle.reparent_laws.specs.Operations.{adds, op_of, removes}
use Rattle.reparent_laws.specs.Remaining
use Rattle.reparent_laws.specs.Reparent.{ordered, reparents}
use Rattle.script_reader.specs.declared.command.Command.{Command}
use Rattle.split_laws.specs.SplitTrees
use Rattle.split_laws.specs.SplitTrees.{IsFirstTouch, IsInHalves}
use Rattle.squash_laws.specs.Remaining.{HasParentsFor, IsOneOn, is_staying, stand_for}
use Rattle.squash_laws.specs.Removed.{is_removed}
use Rattle.squash_laws.specs.Takings.{last_hanging}
use Rattle.tagify_laws.specs.InPlace.{in_place}
use Rattle.tagify_laws.specs.Remaining.{IsNewTag}
use Rattle.tagify_laws.specs.Tagify.{tagged}
use Rattle.history_machine.specs.PathWords.{said_path}
use Rattle.history_machine.specs.Sessions.{Repo, Session, Subject, chosen, ready, with_remade, with_repo}

-- The history of the chosen repository becomes another, with a next number, and nothing else of the session changes, but that the repository's
-- lists under names lose the events that are gone. How the history changes is said by the events of which the command speaks, the repository
-- as it was, and what is made of it.
pub record ChangesChosen (Changes : Ids → Repo → Remade → Type 0) (denial : Option Denial) (s : Session) (what : Command) (after : Session) : Type 0 where
  pub subject : Subject
  pub old : Repo
  pub made : Remade
  pub speaks : under denial (ready s what) ≡ Ok subject
  pub is_chosen : chosen s ≡ Ok old
  pub changes : Changes subject.ids old made
  pub rest : after ≡ record s { repos = with_repo (with_remade old made) s.repos }

-- ---- a split

-- The one event is a commit, which is in two halves, from the operation of this number on. Its copy, whose id is the next number, has the
-- tree that it had; and every other commit is there, and has its own.
pub record Splits (number : ℕ) (ids : Ids) (old : Repo) (made : Remade) : Type 0 where
  pub commit : ℕ
  pub only : ids ≡ any.Commit commit ∷ []
  pub next : made.next ≡ old.next + 1
  pub halves : IsInHalves commit old.next number old.history made.history
  pub trees : SplitTrees.KeepsOtherTrees commit old.next old.history made.history

-- the same from the first operation on that touches the path which a word says
pub record SplitsBy (text : Bytes) (ids : Ids) (old : Repo) (made : Remade) : Type 0 where
  pub path : Bytes
  pub says : said_path text ≡ Ok path
  pub number : ℕ
  pub splits : Splits number ids old made
  pub touches : IsFirstTouch path splits.commit old.history number

-- ---- a squash

-- Of all events but blobs those of the set are gone, and no others but tags and resets for which there is no commit; of blobs those that an
-- operation named and none does any more. Each commit has what stands for its old parents.
pub record RemovesSelected (how : Policy) (set : Ids) (old : Repo) (made : Remade) : Type 0 where
  pub next : made.next ≡ old.next
  pub commits : (c : ℕ) → has_id made.history (any.Commit c) ≡ has_id old.history (any.Commit c) && not (is_removed set c)
  pub others : (id : AnyId) → Keeping.IsNoBlob id → has_id made.history id ≡ is_staying how set old.history id
  pub blobs : (b : ℕ) → has_id made.history (any.Blob b)
      ≡ has_id old.history (any.Blob b) && not (is_named old.history b && not (is_named made.history b))
  pub parents : AllByRecursion (HasParentsFor set old.history) (nodes made.history)

-- the commits that are joined to their only child are gone, and no event else
pub record JoinsCommits (seconds : ℕ) (set : Ids) (old : Repo) (made : Remade) : Type 0 where
  pub next : made.next ≡ old.next
  pub ids : (id : AnyId) → has_id made.history id ≡ has_id old.history id && not (is_listed id (joined_ones seconds set old.history))
  pub joined : (c : ℕ) → IsTrue (is_listed (any.Commit c) (joined_ones seconds set old.history)) → IsJoinedTo set old.history c

-- Each of the commits that do nothing is gone, and has a tag in its place, with the next numbers; no other event goes or comes, or is at
-- another place, and nothing else of one changes but its parents or its target. Each commit has the tree that it had.
pub record Tagifies (set : Ids) (old : Repo) (made : Remade) : Type 0 where
  pub next : made.next ≡ old.next + length (tagged set old.history)
  pub list : made.history ≡ in_place set old.history old.next old.history
  pub commits : (c : ℕ) → has_id made.history (any.Commit c) ≡ has_id old.history (any.Commit c) && not (is_removed (tagged set old.history) c)
  pub goes : (id : AnyId) → IsFalse (is_listed id (tagged set old.history)) → IsTrue (has_id old.history id) → IsTrue (has_id made.history id)
  pub comes : (id : AnyId) → IsTrue (has_id made.history id) → IsTrue (has_id old.history id) ⊎ IsNewTag old.next id
  pub trees : Keeping.HasTreesOf old.history made.history

-- each commit that is still there has the tree of the last removed one that hung on it, and where none did, its own
pub record GivesLastTrees (tags : Lean) (set : Ids) (old : Repo) (made : Remade) : Type 0 where
  pub removes : RemovesSelected (record { push = push.Back; tags = tags }) set old made
  pub trees : (c : ℕ) → IsCommitOf made.history c → shown_tree made.history c ≡ shown_tree old.history (last_hanging set old.history c)

-- ---- other parents

-- The same events are there. The last of the commits has the others as its parents, with its operations where it is rebased, and else such
-- as give its tree. All else of each event is as it was.
pub record Reparents (use_order rebase : Bool) (set : Ids) (old : Repo) (made : Remade) : Type 0 where
  pub next : made.next ≡ old.next
  pub ids : (id : AnyId) → has_id made.history id ≡ has_id old.history id
  pub others : List ℕ
  pub last : ℕ
  pub are : ordered use_order set old.history ≡ others ++ last ∷ []
  pub events : AllByRecursion (Remaining.IsRewritten last (reparents rebase old.history others) old.history) made.history

-- The same events are there. Of two commits the one that is later in the list has the other as a parent too. All else of each event is as
-- it was.
pub record Merges (set : Ids) (old : Repo) (made : Remade) : Type 0 where
  pub next : made.next ≡ old.next
  pub ids : (id : AnyId) → has_id made.history id ≡ has_id old.history id
  pub low : ℕ
  pub high : ℕ
  pub are : ordered false set old.history ≡ low ∷ high ∷ []
  pub events : AllByRecursion (Remaining.IsRewritten high (merges low) old.history) made.history

-- The same events are there. The one event is a commit, which keeps its first parent alone. All else of each event is as it was.
pub record Unmerges (set : Ids) (old : Repo) (made : Remade) : Type 0 where
  pub next : made.next ≡ old.next
  pub ids : (id : AnyId) → has_id made.history id ≡ has_id old.history id
  pub commit : ℕ
  pub only : set ≡ any.Commit commit ∷ []
  pub events : AllByRecursion (Remaining.IsRewritten commit unmerges old.history) made.history

-- ---- operations on other parents

-- each tree is what the operations of its commit make of the tree of its first parent
abbrev pub AreReplayed : List PlainEvent → Type 0
AreReplayed events = AllByRecursion (Fits (tree events)) (nodes events)

-- The set is gone, with the tags and resets of its commits. Each event that is still there is as it was, but that a commit has what stands
-- for its old parents.
pub record Deletes (tags : Lean) (set : Ids) (old : Repo) (made : Remade) : Type 0 where
  pub removes : RemovesSelected (record { push = push.Discard; tags = tags }) set old made
  pub events : AllByRecursion (IsOneOn (stand_for set old.history) old.history) made.history
  pub trees : AreReplayed made.history

-- The same events are there. The commits of the set have the parents that their order gives them, and all else is as it was, but that the
-- last of the order stands among parents for the last of the line.
pub record Reorders (set : Ids) (old : Repo) (made : Remade) : Type 0 where
  pub next : made.next ≡ old.next
  pub ids : (id : AnyId) → has_id made.history id ≡ has_id old.history id
  pub order : IsInOrder set old.history made.history
  pub trees : AreReplayed made.history

-- the last of the commits has the others as its parents, and all else of each event is as it was
pub record Rebases (use_order : Bool) (set : Ids) (old : Repo) (made : Remade) : Type 0 where
  pub parents : Reparents use_order true set old made
  pub trees : AreReplayed made.history

-- The same events are there. The one event is a commit, which has the operation after its own, and all else is as it was.
pub record Adds (spelled : RawOp) (set : Ids) (old : Repo) (made : Remade) : Type 0 where
  pub next : made.next ≡ old.next
  pub ids : (id : AnyId) → has_id made.history id ≡ has_id old.history id
  pub commit : ℕ
  pub op : FileOp
  pub only : set ≡ any.Commit commit ∷ []
  pub said : op_of old.history spelled ≡ Ok op
  pub events : AllByRecursion (Remaining.IsRewritten commit (adds op) old.history) made.history
  pub trees : AreReplayed made.history

-- The one event is a commit, which has lost such operations, and all else is as it was, but that blobs are gone which these alone named.
pub record Removes (what : Removal) (set : Ids) (old : Repo) (made : Remade) : Type 0 where
  pub next : made.next ≡ old.next
  pub ids : (id : AnyId) → Keeping.IsNoBlob id → has_id made.history id ≡ has_id old.history id
  pub blobs : (b : ℕ) → has_id made.history (any.Blob b)
      ≡ has_id old.history (any.Blob b) && not (is_named old.history b && not (is_named made.history b))
  pub commit : ℕ
  pub only : set ≡ any.Commit commit ∷ []
  pub events : AllByRecursion (Remaining.IsRewritten commit (removes what) old.history) made.history
  pub trees : AreReplayed made.history

-- the same of the operations at the path that a word says
abbrev pub RemovesBy : Bytes → Ids → Repo → Remade → Type 0
RemovesBy text set old made = (path : Bytes) × (said_path text ≡ Ok path) × Removes (At path) set old made

-- ---- an expunge

-- A commit leaves exactly where it had an operation, has none left without the matched paths, and is no merge; a blob exactly where an
-- operation named it and none does any more; and of other events none but tags and resets for which there is no commit. Each commit has
-- what stands for its old parents, and its old tree without the matched paths. All else of each event is as it was, but for the
-- operations of commits and the targets of tags and resets.
pub record Expunges (matched : Bytes → Bool) (ids : Ids) (old : Repo) (made : Remade) : Type 0 where
  pub next : made.next ≡ old.next
  pub commits : AllByRecursion (LeavesWhere (is_emptied matched old.history) made.history) old.history
  pub blobs : (b : ℕ) → has_id made.history (any.Blob b)
      ≡ has_id old.history (any.Blob b) && not (is_named old.history b && not (is_named made.history b))
  pub others : (id : AnyId) → Keeping.IsNoBlob id
      → has_id made.history id ≡ is_staying (record { push = push.Forward; tags = lean.Forward }) (emptied matched old.history) old.history id
  pub parents : AllByRecursion (HasParentsFor (emptied matched old.history) old.history) (nodes made.history)
  pub trees : (c : ℕ) → IsCommitOf made.history c → shown_tree made.history c ≡ option_map (restricted matched) (shown_tree old.history c)
  pub same : AllByRecursion (Keeping.IsOneOf old.history) made.history

-- ---- a move of paths

-- Without their operations the events are those that they were, in the same order. Each commit has the tree that it had, with each file
-- where the map puts its path.
pub record MovesPaths (how : PathMap) (ids : Ids) (old : Repo) (made : Remade) : Type 0 where
  pub next : made.next ≡ old.next
  pub events : map (with_ops_for (λ parents ops. [])) made.history ≡ map (with_ops_for (λ parents ops. [])) old.history
  pub trees : (c : ℕ) → IsCommitOf made.history c → tree made.history c ≡ option_map (image (image_of how)) (tree old.history c)
  pub shown : (c : ℕ) → IsCommitOf made.history c → shown_tree made.history c ≡ option_map (image (image_of how)) (shown_tree old.history c)
