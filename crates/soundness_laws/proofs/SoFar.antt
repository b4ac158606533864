-- What the events so far and the commit that is being read keep, and what follows of ids, trees and branches.
use Rattle.std.proofs.Common.{◌≡◌, ℕ, suc, ◌+◌, ◌≤◌, Bool, true, false, cond, List, [], ◌∷◌, ◌++◌, length, Some, None, refl, sym, ap, subst, ◌∙◌, inl, inr, ◌⊎◌, eq-eqb, append_assoc, append-nil, length-append, arith}
use Rattle.std.specs.Prelude.{◌==◌, ◌||◌, not, bytes_eq, IsSome, IfSome, is_some}
use Rattle.std.specs.List.{AllByRecursion}
use Rattle.std.proofs.lemmas.Bool.{or_cases, or_right}
use Rattle.plain_model.specs.declared.limit.TheConstants.{MAX_PARENTS}
use Rattle.plain_model.specs.declared.id.AnyId.TheVariants as any
use Rattle.plain_model.specs.declared.operation.Mode.TheVariants.{Plain, Executable, Link, Gitlink}
use Rattle.plain_model.specs.declared.operation.Content.TheVariants.{Blob as OfBlob, Object}
use Rattle.plain_model.specs.declared.operation.FileOp.{FileOp}
use Rattle.plain_model.specs.declared.operation.FileOp.TheVariants.{Modify, Delete, Copy, Rename, DeleteAll}
use Rattle.plain_model.specs.declared.event.PlainEvent.{PlainEvent}
use Rattle.plain_model.specs.declared.event.PlainEvent.TheVariants.{Blob, Commit, Tag, Reset, Pass}
use Rattle.plain_model.specs.Histories.{Node, Past, nodes, folded, begun, tree_in, tree}
use Rattle.plain_model.specs.Lookups.{id_of, id_number}
use Rattle.plain_model.specs.Marks.{IsMark}
use Rattle.plain_model.specs.Names.{is_name}
use Rattle.plain_model.specs.Paths.{Bytes}
use Rattle.plain_model.specs.Snapshots.{refs, refs_after}
use Rattle.plain_model.specs.Soundness.{IsCommitOf, IsFormedOp, IsFormedSigned, RefersBack, are_distinct, has_id, is_passed_line}
use Rattle.plain_model.specs.Parts.{has_no_lf}
use Rattle.plain_model.specs.Trees.{TreeOf, at}
use Rattle.stream_grammar.specs.Known.{OpenCommit}
use Rattle.history_laws.proofs.Ids.{has_id_append, has_id_still}
use Rattle.history_laws.proofs.Commits.{refs_append, all_put, all_where, all_at}
use Rattle.history_laws.proofs.Lists.{all_imply}
use Rattle.history_laws.specs.Placed.{ArePlaced}
use Rattle.soundness_laws.proofs.Ids.{past_same, past_more}

-- ---- what is kept

-- a mark so far: 0 is none yet
abbrev pub IsMarkYet : ℕ → Type 0
IsMarkYet mark = (mark ≡ 0) ⊎ IsMark mark

-- a commit after earlier events, whose operations name blobs among those that are seen
pub record IsCommitSoFar (earlier seen : List PlainEvent) (c : OpenCommit) : Type 0 where
  pub named : is_name c.branch ≡ true
  pub marked : IsMarkYet c.mark
  pub authored : IfSome c.author IsFormedSigned
  pub committed : IfSome c.committer IsFormedSigned
  pub encoded : IfSome c.encoding (λ e. has_no_lf e ≡ true)
  pub linked : AllByRecursion (IsCommitOf earlier) c.parents
  pub apart : are_distinct c.parents ≡ true
  pub few : length c.parents ≤ MAX_PARENTS
  pub referring : AllByRecursion (RefersBack seen) c.ops
  pub pathed : AllByRecursion IsFormedOp c.ops
  pub has_tree : is_some (folded c.ops (begun (tree earlier) c.parents)) ≡ true
  pub rooted : c.parents ≡ [] → at (refs earlier) c.branch ≡ None

-- an event after earlier ones
abbrev pub IsWellEvent : List PlainEvent → PlainEvent → Type 0
IsWellEvent earlier (Blob id mark bytes) = (id ≡ length earlier + 1) × IsMarkYet mark
IsWellEvent earlier (Commit id mark branch author committer encoding comment parents ops aliases) =
    (id ≡ length earlier + 1) × IsCommitSoFar earlier earlier (record {
      branch = branch;
      mark = mark;
      author = Some author;
      committer = Some committer;
      encoding = encoding;
      comment = comment;
      parents = parents;
      ops = ops;
    })
IsWellEvent earlier (Tag id name target tagger comment mark) =
    (id ≡ length earlier + 1) × (is_name name ≡ true) × IsCommitOf earlier target × IfSome tagger IsFormedSigned × IfSome mark IsMark
IsWellEvent earlier (Reset id branch target) = (id ≡ length earlier + 1) × (is_name branch ≡ true) × IfSome target (IsCommitOf earlier)
IsWellEvent earlier (Pass id line) = (id ≡ length earlier + 1) × (is_passed_line line ≡ true)

abbrev pub AreWellAfter : List PlainEvent → List PlainEvent → Type 0
AreWellAfter earlier [] = Unit {0}
AreWellAfter earlier (e ∷ events) = IsWellEvent earlier e × AreWellAfter (earlier ++ e ∷ []) events

-- the events so far
abbrev pub AreWell : List PlainEvent → Type 0
AreWell events = AreWellAfter [] events

-- one more event
well_after : (earlier events : List PlainEvent) (e : PlainEvent) → AreWellAfter earlier events → IsWellEvent (earlier ++ events) e
    → AreWellAfter earlier (events ++ e ∷ [])
well_after earlier [] e h w = (subst (λ (l : List PlainEvent). IsWellEvent l e) (append-nil earlier) w, tt)
well_after earlier (x ∷ xs) e h w =
    (h.0, well_after (earlier ++ x ∷ []) xs e h.1 (subst (λ (l : List PlainEvent). IsWellEvent l e) (sym (append_assoc earlier (x ∷ []) xs)) w))

pub well_more : (events : List PlainEvent) (e : PlainEvent) → AreWell events → IsWellEvent events e → AreWell (events ++ e ∷ [])
well_more events e h w = well_after [] events e h w

-- ---- places

own_place : (earlier : List PlainEvent) (e : PlainEvent) → IsWellEvent earlier e → id_number (id_of e) ≡ length earlier + 1
own_place earlier (Blob id mark bytes) h = h.0
own_place earlier (Commit id mark branch author committer encoding comment parents ops aliases) h = h.0
own_place earlier (Tag id name target tagger comment mark) h = h.0
own_place earlier (Reset id branch target) h = h.0
own_place earlier (Pass id line) h = h.0

placed_after : (earlier events : List PlainEvent) → AreWellAfter earlier events → ArePlaced (length earlier + 1) events
placed_after earlier [] h = tt
placed_after earlier (e ∷ events) h =
    let size = length-append earlier (e ∷ []) in
    let next : length (earlier ++ e ∷ []) + 1 ≡ suc (length earlier + 1) = omega arith in
    (own_place earlier e h.0, subst (λ n. ArePlaced n events) next (placed_after (earlier ++ e ∷ []) events h.1))

pub are_placed : (events : List PlainEvent) → AreWell events → ArePlaced 1 events
are_placed events h = placed_after [] events h

-- ---- trees

-- each commit has a tree
abbrev pub HaveTrees : List PlainEvent → Type 0
HaveTrees events = (c : ℕ) → IsCommitOf events c → IsSome (tree events c)

-- a commit of the events or of the last one
last_or : (events : List PlainEvent) (e : PlainEvent) (c : ℕ) → IsCommitOf (events ++ e ∷ []) c → IsCommitOf events c ⊎ (has_id (e ∷ []) (any.Commit c) ≡ true)
last_or events e c h = or_cases (has_id events (any.Commit c)) (has_id (e ∷ []) (any.Commit c)) (sym (has_id_append events (e ∷ []) (any.Commit c)) ∙ h)

trees_same : (events : List PlainEvent) (e : PlainEvent) → nodes (e ∷ []) ≡ [] → ((c : ℕ) → has_id (e ∷ []) (any.Commit c) ≡ true → ⊥) → HaveTrees events → HaveTrees (events ++ e ∷ [])
trees_same events e none isnt h c is = go (last_or events e c is)
  where
    go : IsCommitOf events c ⊎ (has_id (e ∷ []) (any.Commit c) ≡ true) → IsSome (tree (events ++ e ∷ []) c)
    go (inl earlier) = subst (λ (p : Past). IsSome (tree_in p c)) (sym (past_same events e none)) (h c earlier)
    go (inr last) = absurd (isnt c last)

trees_more : (events : List PlainEvent) (e : PlainEvent) → IsWellEvent events e → HaveTrees events → HaveTrees (events ++ e ∷ [])
trees_more events (Commit id mark branch author committer encoding comment parents ops aliases) w h = λ c is.
    let e : PlainEvent = Commit id mark branch author committer encoding comment parents ops aliases in
    subst (λ (p : Past). IsSome (tree_in p c)) (sym (past_more events e n refl)) (go c (id == c) refl (last_or events e c is))
  where
    n : Node
    n = record { id = id; parents = parents; ops = ops }

    go : (c : ℕ) (t : Bool) → (id == c) ≡ t → IsCommitOf events c ⊎ (((id == c) || false) ≡ true) → IsSome (cond t (folded ops (begun (tree events) parents)) (tree events c))
    go c true e last = w.1.has_tree
    go c false e (inl earlier) = h c earlier
    go c false e (inr last) = absurd (let isnt : ((id == c) || false) ≡ false = ap (λ t. t || false) e in cc)
trees_more events (Blob id mark bytes) w h = trees_same events (Blob id mark bytes) refl (λ c e. absurd cc) h
trees_more events (Tag id name target tagger comment mark) w h = trees_same events (Tag id name target tagger comment mark) refl (λ c e. absurd cc) h
trees_more events (Reset id branch target) w h = trees_same events (Reset id branch target) refl (λ c e. absurd cc) h
trees_more events (Pass id line) w h = trees_same events (Pass id line) refl (λ c e. absurd cc) h

trees_after : (earlier events : List PlainEvent) → HaveTrees earlier → AreWellAfter earlier events → HaveTrees (earlier ++ events)
trees_after earlier [] h w = subst HaveTrees (sym (append-nil earlier)) h
trees_after earlier (e ∷ events) h w =
    subst HaveTrees (append_assoc earlier (e ∷ []) events) (trees_after (earlier ++ e ∷ []) events (trees_more earlier e w.0 h) w.1)

pub have_trees : (events : List PlainEvent) → AreWell events → HaveTrees events
have_trees events w = trees_after [] events (λ c e. absurd cc) w

-- ---- operations

-- an operation refers back wherever the blobs are that it names
pub refers_imply : (a b : List PlainEvent) → ((blob : ℕ) → has_id a (any.Blob blob) ≡ true → has_id b (any.Blob blob) ≡ true) → (op : FileOp) → RefersBack a op → RefersBack b op
refers_imply a b more (Modify Gitlink (OfBlob blob) path) h = h
refers_imply a b more (Modify Plain (OfBlob blob) path) h = more blob h
refers_imply a b more (Modify Executable (OfBlob blob) path) h = more blob h
refers_imply a b more (Modify Link (OfBlob blob) path) h = more blob h
refers_imply a b more (Modify Gitlink (Object digits) path) h = tt
refers_imply a b more (Modify Plain (Object digits) path) h = tt
refers_imply a b more (Modify Executable (Object digits) path) h = tt
refers_imply a b more (Modify Link (Object digits) path) h = tt
refers_imply a b more (Delete path) h = tt
refers_imply a b more (Copy source target) h = tt
refers_imply a b more (Rename source target) h = tt
refers_imply a b more DeleteAll h = tt

-- ---- branches

abbrev AreCommits : List PlainEvent → TreeOf ℕ → Type 0
AreCommits events tips = AllByRecursion (λ e. IsCommitOf events e.1) tips

tips_more : (events : List PlainEvent) (e : PlainEvent) (tips : TreeOf ℕ) → IsWellEvent events e → AreCommits (events ++ e ∷ []) tips → AreCommits (events ++ e ∷ []) (refs_after tips (e ∷ []))
tips_more events (Commit id mark branch author committer encoding comment parents ops aliases) tips w h =
    let e : PlainEvent = Commit id mark branch author committer encoding comment parents ops aliases in
    all_put (IsCommitOf (events ++ e ∷ [])) branch id tips (own events e id (or_true (eq-eqb id id refl))) h
  where
    or_true : (id == id) ≡ true → ((id == id) || false) ≡ true
    or_true e = ap (λ t. t || false) e

    own : (events : List PlainEvent) (e : PlainEvent) (c : ℕ) → has_id (e ∷ []) (any.Commit c) ≡ true → IsCommitOf (events ++ e ∷ []) c
    own events e c h = has_id_append events (e ∷ []) (any.Commit c) ∙ or_right (has_id events (any.Commit c)) (has_id (e ∷ []) (any.Commit c)) h
tips_more events (Reset id branch (Some c)) tips w h = all_put (IsCommitOf (events ++ Reset id branch (Some c) ∷ [])) branch c tips (has_id_still events (Reset id branch (Some c) ∷ []) (any.Commit c) w.2) h
tips_more events (Reset id branch None) tips w h = all_where (IsCommitOf (events ++ Reset id branch None ∷ [])) (λ b. not (bytes_eq branch b)) tips h
tips_more events (Blob id mark bytes) tips w h = h
tips_more events (Tag id name target tagger comment mark) tips w h = h
tips_more events (Pass id line) tips w h = h

tips_after : (earlier events : List PlainEvent) → AreCommits earlier (refs earlier) → AreWellAfter earlier events → AreCommits (earlier ++ events) (refs (earlier ++ events))
tips_after earlier [] h w = subst (λ (l : List PlainEvent). AreCommits l (refs l)) (sym (append-nil earlier)) h
tips_after earlier (e ∷ events) h w =
    subst (λ (l : List PlainEvent). AreCommits l (refs l)) (append_assoc earlier (e ∷ []) events) (tips_after (earlier ++ e ∷ []) events here w.1)
  where
    here : AreCommits (earlier ++ e ∷ []) (refs (earlier ++ e ∷ []))
    here = subst (λ (t : TreeOf ℕ). AreCommits (earlier ++ e ∷ []) t) (sym (refs_append [] earlier (e ∷ [])))
        (tips_more earlier e (refs earlier) w.0 (all_imply (λ x. IsCommitOf earlier x.1) (λ x. IsCommitOf (earlier ++ e ∷ []) x.1) (λ x i. has_id_still earlier (e ∷ []) (any.Commit x.1) i) (refs earlier) h))

-- where a branch is is a commit
pub tip_is_commit : (events : List PlainEvent) → AreWell events → (branch : Bytes) (c : ℕ) → at (refs events) branch ≡ Some c → IsCommitOf events c
tip_is_commit events w branch c e = all_at (IsCommitOf events) (refs events) branch c (tips_after [] events tt w) e
