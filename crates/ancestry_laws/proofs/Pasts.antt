-- The past of a list of events: what it knows, and that it is linked where the history is sound.
use Rattle.std.proofs.Common.{◌≡◌, ◌∙◌, ℕ, Bool, true, false, ◌||◌, List, [], ◌∷◌, ◌++◌, refl, sym, ap, subst, eqb, append_assoc, append-nil, reverse}
use Rattle.std.proofs.lemmas.List.{reverse-append}
use Rattle.std.proofs.lemmas.List.Folds.{list_any-append}
use Rattle.std.specs.List.{AllByRecursion, list_any}
use Rattle.plain_model.specs.declared.id.AnyId.TheVariants as any
use Rattle.plain_model.specs.declared.event.PlainEvent.{PlainEvent}
use Rattle.plain_model.specs.declared.event.PlainEvent.TheVariants.{Blob, Commit, Tag, Reset, Pass}
use Rattle.plain_model.specs.Histories.{IsLinkedPast, knows, nodes, past}
use Rattle.plain_model.specs.Soundness.{AreSoundAfter, IsCommitOf, IsSound, IsSoundEvent, has_id}
use Rattle.history_laws.proofs.Commits.{nodes_append}

-- ---- a list turned

pub any_reverse : {X : Type 0} (f : X → Bool) (xs : List X) → list_any f (reverse xs) ≡ list_any f xs
any_reverse f [] = refl
any_reverse f (x ∷ xs) =
    ap (list_any f) (reverse-append (x ∷ []) xs) ∙ list_any-append f (reverse xs) (x ∷ [])
    ∙ ap (λ b. b || (f x || false)) (any_reverse f xs) ∙ swap (list_any f xs) (f x)
  where
    swap : (a b : Bool) → a || (b || false) ≡ b || a
    swap true true = refl
    swap true false = refl
    swap false true = refl
    swap false false = refl

-- ---- the past of a list

-- the past of two lists
pub past_append : (xs ys : List PlainEvent) → past (xs ++ ys) ≡ reverse (nodes ys) ++ past xs
past_append xs ys = ap reverse (nodes_append xs ys) ∙ reverse-append (nodes xs) (nodes ys)

known_nodes : (es : List PlainEvent) (c : ℕ) → list_any (λ n. eqb n.id c) (nodes es) ≡ has_id es (any.Commit c)
known_nodes [] c = refl
known_nodes (Commit id mark branch author committer encoding comment parents ops aliases ∷ es) c =
    ap (λ b. eqb id c || b) (known_nodes es c)
known_nodes (Blob id mark bytes ∷ es) c = known_nodes es c
known_nodes (Tag id name target tagger comment mark ∷ es) c = known_nodes es c
known_nodes (Reset id branch target ∷ es) c = known_nodes es c
known_nodes (Pass id line ∷ es) c = known_nodes es c

-- it knows the commits of the list
pub known_past : (es : List PlainEvent) (c : ℕ) → knows (past es) c ≡ has_id es (any.Commit c)
known_past es c = any_reverse (λ n. eqb n.id c) (nodes es) ∙ known_nodes es c

-- ---- that of a sound history is linked

all_known : (earlier : List PlainEvent) (parents : List ℕ) → AllByRecursion (IsCommitOf earlier) parents →
    AllByRecursion (λ p. knows (past earlier) p ≡ true) parents
all_known earlier [] h = tt
all_known earlier (p ∷ ps) h = (known_past earlier p ∙ h.0, all_known earlier ps h.1)

linked_after : (earlier events : List PlainEvent) → AreSoundAfter earlier events → IsLinkedPast (past earlier) →
    IsLinkedPast (past (earlier ++ events))
linked_after earlier [] h linked = subst (λ es. IsLinkedPast (past es)) (sym (append-nil earlier)) linked
linked_after earlier (x ∷ events) h linked =
    subst (λ es. IsLinkedPast (past es)) (append_assoc earlier (x ∷ []) events)
    (linked_after (earlier ++ x ∷ []) events h.1 (subst IsLinkedPast (sym (past_append earlier (x ∷ []))) (one x h.0)))
  where
    one : (x : PlainEvent) → IsSoundEvent earlier x → IsLinkedPast (reverse (nodes (x ∷ [])) ++ past earlier)
    one (Commit id mark branch author committer encoding comment parents ops aliases) s =
        (known_past earlier id ∙ s.0, all_known earlier parents s.6, linked)
    one (Blob id mark bytes) s = linked
    one (Tag id name target tagger comment mark) s = linked
    one (Reset id branch target) s = linked
    one (Pass id line) s = linked

pub linked_past : (events : List PlainEvent) → IsSound events → IsLinkedPast (past events)
linked_past events sound = linked_after [] events sound.formed tt
