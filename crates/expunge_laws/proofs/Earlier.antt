-- The operations in the place of others name nothing but what those named: blobs that are earlier, and paths.
use Rattle.std.proofs.Common.{◌≡◌, ℕ, Bool, true, false, List, [], ◌∷◌, ◌++◌, map, refl, sym, subst, ◌∙◌, inl, inr, eqb-true, true≢false, Option, Some, None}
use Rattle.std.specs.Prelude.{◌||◌, ◌==◌, flat_map}
use Rattle.std.specs.List.{AllByRecursion, list_all}
use Rattle.std.proofs.lemmas.Bool.{or_cases}
use Rattle.plain_model.specs.declared.id.AnyId.TheVariants as any
use Rattle.plain_model.specs.declared.operation.FileOp.{FileOp}
use Rattle.plain_model.specs.declared.event.PlainEvent.{PlainEvent}
use Rattle.plain_model.specs.declared.event.PlainEvent.TheVariants.{Blob, Commit, Tag, Reset, Pass}
use Rattle.plain_model.specs.Histories.{begun, tree}
use Rattle.plain_model.specs.Lookups.{op_blobs}
use Rattle.plain_model.specs.Paths.{Bytes}
use Rattle.plain_model.specs.Soundness.{has_id}
use Rattle.plain_model.specs.Trees.{Tree}
use Rattle.edit_laws.specs.Equations.{Fits}
use Rattle.edit_laws.specs.Settling.{is_ready}
use Rattle.history_laws.proofs.Ids.{has_id_append}
use Rattle.history_laws.proofs.Lists.{all_imply}
use Rattle.edit_laws.proofs.Lists.{OfNodes, all_true}
use Rattle.expunge_laws.specs.Expunged.{replaced_event}
use Rattle.expunge_laws.proofs.Carried.{Carries, IfTree, MayPut, all_begun, folded_put}

-- a fact of the operations of a commit
abbrev pub OfOps : (FileOp → Type 0) → PlainEvent → Type 0
OfOps P (Commit id mark branch author committer encoding comment parents ops aliases) = AllByRecursion P ops
OfOps P (Blob id mark bytes) = Unit {0}
OfOps P (Tag id name target tagger comment mark) = Unit {0}
OfOps P (Reset id branch target) = Unit {0}
OfOps P (Pass id line) = Unit {0}

-- a fact of each event and the events before it
abbrev pub AllAfter : (List PlainEvent → PlainEvent → Type 0) → List PlainEvent → List PlainEvent → Type 0
AllAfter P xs [] = Unit {0}
AllAfter P xs (e ∷ es) = P xs e × AllAfter P (xs ++ e ∷ []) es

module _ (matched : Bytes → Bool) (events : List PlainEvent) (Q : List PlainEvent → FileOp → Type 0) (carries : (xs : List PlainEvent) → Carries (Q xs)) (more : (xs : List PlainEvent) (e : PlainEvent) (op : FileOp) → Q xs op → Q (xs ++ e ∷ []) op)
  where
    -- what may be put after some events may be put after more
    more_tree : (xs : List PlainEvent) (e : PlainEvent) (o : Option Tree) → IfTree (Q xs) o → IfTree (Q (xs ++ e ∷ [])) o
    more_tree xs e None h = tt
    more_tree xs e (Some t) h = all_imply (MayPut (Q xs)) (MayPut (Q (xs ++ e ∷ []))) (λ x k. more xs e _ k) t h

    -- the trees of commits have nothing but what may be put after them
    abbrev HaveTrees : List PlainEvent → Type 0
    HaveTrees xs = (c : ℕ) → has_id xs (any.Commit c) ≡ true → IfTree (Q xs) (tree events c)

    more_trees : (xs : List PlainEvent) (e : PlainEvent) → HaveTrees xs → ((c : ℕ) → has_id (e ∷ []) (any.Commit c) ≡ true → IfTree (Q xs) (tree events c)) → HaveTrees (xs ++ e ∷ [])
    more_trees xs e have own c k =
        more_tree xs e (tree events c) (elim (or_cases (has_id xs (any.Commit c)) (has_id (e ∷ []) (any.Commit c)) (sym (has_id_append xs (e ∷ []) (any.Commit c)) ∙ k)) [ inl was ↦ have c was | inr new ↦ own c new ])

    -- so has what a commit begins with
    first : (xs : List PlainEvent) (parents : List ℕ) (ops : List FileOp) → HaveTrees xs → list_all (has_id xs) (map any.Commit parents ++ flat_map op_blobs ops) ≡ true → IfTree (Q xs) (begun (tree events) parents)
    first xs [] ops have k = tt
    first xs (p ∷ ps) ops have k = have p (all_true (has_id xs) (map any.Commit (p ∷ ps) ++ flat_map op_blobs ops) k).0

    -- what is given of an event after others
    pub record IsGiven (xs : List PlainEvent) (e : PlainEvent) : Type 0 where
      pub ready : is_ready xs e ≡ true
      pub ops : OfOps (Q xs) e
      pub fits : OfNodes (Fits (tree events)) e

    replaced_ops : (xs : List PlainEvent) (e : PlainEvent) → IsGiven xs e → HaveTrees xs → OfOps (Q xs) (replaced_event matched events e)
    replaced_ops xs (Commit id mark branch author committer encoding comment parents ops aliases) g have = all_begun (Q xs) (carries xs) matched ops (begun (tree events) parents) g.ops (first xs parents ops have g.ready)
    replaced_ops xs (Blob id mark bytes) g have = tt
    replaced_ops xs (Tag id name target tagger comment mark) g have = tt
    replaced_ops xs (Reset id branch target) g have = tt
    replaced_ops xs (Pass id line) g have = tt

    no_commit : (e : PlainEvent) (c : ℕ) → has_id (e ∷ []) (any.Commit c) ≡ false → (xs : List PlainEvent) → has_id (e ∷ []) (any.Commit c) ≡ true → IfTree (Q xs) (tree events c)
    no_commit e c n xs h = absurd (true≢false (sym h ∙ n))

    own_tree : (xs : List PlainEvent) (e : PlainEvent) → IsGiven xs e → HaveTrees xs → (c : ℕ) → has_id (e ∷ []) (any.Commit c) ≡ true → IfTree (Q xs) (tree events c)
    own_tree xs (Commit id mark branch author committer encoding comment parents ops aliases) g have c h =
        subst (λ d. IfTree (Q xs) (tree events d)) (eqb-true id c (one (id == c) h))
        (subst (IfTree (Q xs)) (sym g.fits.0) (folded_put (Q xs) (carries xs) ops (begun (tree events) parents) g.ops (first xs parents ops have g.ready)))
      where
        one : (b : Bool) → b || false ≡ true → b ≡ true
        one true h = refl
        one false h = absurd (true≢false (sym h))
    own_tree xs (Blob id mark bytes) g have c h = no_commit (Blob id mark bytes) c refl xs h
    own_tree xs (Tag id name target tagger comment mark) g have c h = no_commit (Tag id name target tagger comment mark) c refl xs h
    own_tree xs (Reset id branch target) g have c h = no_commit (Reset id branch target) c refl xs h
    own_tree xs (Pass id line) g have c h = no_commit (Pass id line) c refl xs h

    pub each_after : (xs es : List PlainEvent) → AllAfter IsGiven xs es → HaveTrees xs → AllAfter (λ ys e. OfOps (Q ys) (replaced_event matched events e)) xs es
    each_after xs [] g have = tt
    each_after xs (e ∷ es) g have = (replaced_ops xs e g.0 have, each_after (xs ++ e ∷ []) es g.1 (more_trees xs e have (own_tree xs e g.0 have)))

    -- the whole history
    pub ops_follow : AllAfter IsGiven [] events → AllAfter (λ ys e. OfOps (Q ys) (replaced_event matched events e)) [] events
    ops_follow g = each_after [] events g (λ c h. absurd (true≢false (sym h)))
