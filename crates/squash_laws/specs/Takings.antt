-- `squash`: what the commits that stay take over from those that are removed (reposurgeon manual, `squash`).
use Rattle.std.specs.Prelude.{ℕ, Bool, true, false, not, ◌&&◌, ◌==◌, List, [], ◌∷◌, ◌++◌, map, filter, Option, Some, None, Result, if◌then◌else◌}
use Rattle.std.specs.Option.{option_or}
use Rattle.plain_model.specs.declared.id.AnyId.{AnyId}
use Rattle.plain_model.specs.declared.operation.FileOp.{FileOp}
use Rattle.plain_model.specs.declared.operation.FileOp.TheVariants.{DeleteAll}
use Rattle.plain_model.specs.declared.event.PlainEvent.{PlainEvent}
use Rattle.plain_model.specs.Histories.{Node, nodes, past}
use Rattle.plain_model.specs.Paths.{Bytes}
use Rattle.history_laws.specs.FirstParents.{ops_along}
use Rattle.edit_laws.specs.Removal.{back, chain, expand_all, forward}
use Rattle.edit_laws.specs.Settling.{settle}
use Rattle.squash_laws.specs.Comments.{comment_of, joined}
use Rattle.squash_laws.specs.Removed.{Takings, is_removed, without_set}
use Rattle.plain_model.specs.declared.policy.Lean.{Lean}
use Rattle.plain_model.specs.declared.policy.Lean.TheVariants as lean
use Rattle.plain_model.specs.declared.policy.Push.{Push}
use Rattle.plain_model.specs.declared.policy.Push.TheVariants as push
use Rattle.plain_model.specs.declared.policy.Policy.{Policy}

abbrev pub is_none : {X : Type 0} → List X → Bool
is_none [] = true
is_none (x ∷ xs) = false

-- the oldest commit of a chain is a root
abbrev pub is_from_root : List Node → Bool
is_from_root [] = false
is_from_root (n ∷ later) = is_none n.parents

-- a chain from a root begins without files, which has to be said where the commit after it gets a parent
abbrev pub anew : List Node → List ℕ → List FileOp
anew links parents = if is_from_root links && not (is_none parents) then DeleteAll ∷ [] else []

-- the last of some commits, or the one before them
abbrev pub last_of : ℕ → List Node → ℕ
last_of c [] = c
last_of c (n ∷ ns) = last_of n.id ns

-- it is this commit
abbrev pub is_it : ℕ → Option ℕ → Bool
is_it c None = false
is_it c (Some d) = d == c

module _ (set : List AnyId) (events : List PlainEvent) where
  -- ---- tags and resets of a removed commit

  abbrev pub forward_of : ℕ → Option ℕ
  forward_of c = forward (is_removed set) (nodes events) c

  abbrev pub back_of : ℕ → Option ℕ
  back_of c = back (is_removed set) (past events) (c ∷ [])

  -- where one of them goes: the way to which it leans, else the other way, if there is a commit for it
  abbrev pub moved : Lean → ℕ → Option ℕ
  moved lean.Forward c = option_or (forward_of c) (back_of c)
  moved lean.Back c = option_or (back_of c) (forward_of c)

  -- where commits are discarded, it goes with its commit
  abbrev pub target_after : Push → Lean → ℕ → Option ℕ
  target_after push.Discard tags c = if is_removed set c then None else Some c
  target_after push.Forward tags c = if is_removed set c then moved tags c else Some c
  target_after push.Back tags c = if is_removed set c then moved tags c else Some c

  -- ---- operations

  -- the removed commits before a commit with these parents, by first parents, the oldest first
  abbrev pub links : List ℕ → List Node
  links parents = chain (is_removed set) (past events) parents

  -- the removed commits that hang on a commit by first parents, in the order of the list
  abbrev pub hanging : ℕ → List Node
  hanging c = filter (λ n. is_removed set n.id && is_it c (back_of n.id)) (nodes events)

  -- the last of them, or the commit itself
  abbrev pub last_hanging : ℕ → ℕ
  last_hanging c = last_of c (hanging c)

  -- forward: those before its own come first; back: those that hang on it come last
  abbrev pub ops_after : Push → ℕ → List ℕ → List FileOp → List FileOp
  ops_after push.Forward c parents ops =
      anew (links parents) (expand_all (is_removed set) (past events) parents) ++ (ops_along (links parents) ++ ops)
  ops_after push.Back c parents ops = ops ++ ops_along (hanging c)
  ops_after push.Discard c parents ops = ops

  -- ---- comments, in the order of the operations

  abbrev pub comments_of : List Node → List Bytes
  comments_of commits = map (λ n. comment_of events n.id) commits

  abbrev pub comment_after : Push → ℕ → List ℕ → Bytes → Bytes
  comment_after push.Forward c parents comment = joined (comments_of (links parents) ++ comment ∷ [])
  comment_after push.Back c parents comment = joined (comment ∷ comments_of (hanging c))
  comment_after push.Discard c parents comment = comment

  -- ---- the whole history

  abbrev pub takes : Policy → Takings
  takes how = record {
    ops = ops_after how.push;
    comment = comment_after how.push;
    target = target_after how.push how.tags;
  }

  -- what is left, swept and settled
  abbrev pub squashed : Policy → Result (List PlainEvent) (List PlainEvent)
  squashed how = settle (without_set set events (takes how))
