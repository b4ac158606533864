-- Ids, commits and branches in a list of events, before and after more of them.
use Rattle.std.proofs.Common.{◌≡◌, ℕ, ◌+◌, Bool, true, false, cond, List, [], ◌∷◌, ◌++◌, reverse, Some, ap, ◌∙◌, eq-eqb, append-nil}
use Rattle.std.specs.Prelude.{◌==◌, ◌||◌}
use Rattle.std.proofs.lemmas.Bool.{or_left, or_right}
use Rattle.std.proofs.lemmas.List.{reverse-append}
use Rattle.plain_model.specs.declared.id.AnyId.TheVariants as any
use Rattle.plain_model.specs.declared.event.PlainEvent.{PlainEvent}
use Rattle.plain_model.specs.declared.event.PlainEvent.TheVariants.{Blob, Commit}
use Rattle.plain_model.specs.Histories.{Node, nodes, past}
use Rattle.plain_model.specs.Soundness.{has_id}
use Rattle.plain_model.specs.Streams.{is_among, blob_marked, commit_marked}
use Rattle.history_laws.proofs.Commits.{nodes_append}

-- ---- ids

-- ---- commits

-- an event that is no commit changes no tree
pub past_same : (events : List PlainEvent) (e : PlainEvent) → nodes (e ∷ []) ≡ [] → past (events ++ e ∷ []) ≡ past events
past_same events e h = ap reverse (nodes_append events (e ∷ []) ∙ ap (λ (l : List Node). nodes events ++ l) h ∙ append-nil (nodes events))

-- a commit is the last one
pub past_more : (events : List PlainEvent) (e : PlainEvent) (n : Node) → nodes (e ∷ []) ≡ n ∷ [] → past (events ++ e ∷ []) ≡ n ∷ past events
past_more events e n h = ap reverse (nodes_append events (e ∷ []) ∙ ap (λ (l : List Node). nodes events ++ l) h) ∙ reverse-append (nodes events) (n ∷ [])

-- ---- branches

-- ---- marks

-- what a mark finds is a commit
pub commit_found : (events : List PlainEvent) (m c : ℕ) → commit_marked events m ≡ Some c → has_id events (any.Commit c) ≡ true
commit_found [] m c h = absurd cc
commit_found (Commit id mark branch author committer encoding comment parents ops aliases ∷ events) m c h = go (mark == m) (is_among aliases m) h (commit_found events m c)
  where
    own : Some id ≡ Some c → ((id == c) || has_id events (any.Commit c)) ≡ true
    own is = or_left (id == c) (has_id events (any.Commit c)) (let same : id ≡ c = cc in eq-eqb id c same)

    go : (t u : Bool) → cond t (Some id) (cond u (Some id) (commit_marked events m)) ≡ Some c → (commit_marked events m ≡ Some c → has_id events (any.Commit c) ≡ true)
        → ((id == c) || has_id events (any.Commit c)) ≡ true
    go true u is more = own is
    go false true is more = own is
    go false false is more = or_right (id == c) (has_id events (any.Commit c)) (more is)
commit_found (_ ∷ events) m c h = commit_found events m c h

-- what a mark finds is a blob
pub blob_found : (events : List PlainEvent) (m b : ℕ) → blob_marked events m ≡ Some b → has_id events (any.Blob b) ≡ true
blob_found [] m b h = absurd cc
blob_found (Blob id mark bytes ∷ events) m b h = go (mark == m) h (blob_found events m b)
  where
    go : (t : Bool) → cond t (Some id) (blob_marked events m) ≡ Some b → (blob_marked events m ≡ Some b → has_id events (any.Blob b) ≡ true) → ((id == b) || has_id events (any.Blob b)) ≡ true
    go true is more = or_left (id == b) (has_id events (any.Blob b)) (let same : id ≡ b = cc in eq-eqb id b same)
    go false is more = or_right (id == b) (has_id events (any.Blob b)) (more is)
blob_found (_ ∷ events) m b h = blob_found events m b h
