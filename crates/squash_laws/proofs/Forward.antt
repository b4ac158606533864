-- After a push forward each commit that stays has the tree that it had.
use Rattle.std.proofs.Common.{◌≡◌, ℕ, ◌<◌, true, false, cond, not, List, [], ◌∷◌, ◌++◌, refl, sym, ap, ◌∙◌, true≢false, Option, Some, None, IsTrue}
use Rattle.std.specs.Prelude.{◌&&◌, IsSome}
use Rattle.std.specs.List.{AllByRecursion}
use Rattle.plain_model.specs.declared.id.AnyId.{AnyId}
use Rattle.plain_model.specs.declared.id.AnyId.TheVariants as any
use Rattle.plain_model.specs.declared.operation.FileOp.{FileOp}
use Rattle.plain_model.specs.declared.operation.FileOp.TheVariants.{DeleteAll}
use Rattle.plain_model.specs.declared.event.PlainEvent.{PlainEvent}
use Rattle.plain_model.specs.declared.event.PlainEvent.TheVariants.{Blob, Commit, Tag, Reset, Pass}
use Rattle.plain_model.specs.Histories.{Node, begun, folded, nodes, past, knows, tree}
use Rattle.plain_model.specs.Lookups.{is_listed}
use Rattle.plain_model.specs.Paths.{Bytes}
use Rattle.plain_model.specs.Soundness.{IsSound}
use Rattle.plain_model.specs.Trees.{Tree}
use Rattle.history_laws.specs.FirstParents.{ops_along}
use Rattle.edit_laws.specs.Equations.{Fits}
use Rattle.edit_laws.specs.Parts.{IsAbove}
use Rattle.edit_laws.specs.Removal.{expand_all}
use Rattle.edit_laws.specs.Settling.{is_ready}
use Rattle.edit_laws.proofs.Chains.{Leads, chain_leads, chain_replays, foot, parents_stand}
use Rattle.ancestry_laws.proofs.Pasts.{known_past, linked_past}
use Rattle.history_laws.proofs.LineLaws.{first_known, folded_more}
use Rattle.history_laws.proofs.Lists.{all_reverse}
use Rattle.edit_laws.proofs.Fine.{ready_parents}
use Rattle.edit_laws.proofs.Lists.{OfNodes, all_flat, events_of_nodes, nodes_of_events}
use Rattle.edit_laws.proofs.Settles.{sound_settles}
use Rattle.edit_laws.proofs.Sound.{in_parts}
use Rattle.edit_laws.proofs.Trees.{trees_fit}
use Rattle.squash_laws.specs.Removed.{Takings, is_removed, left_of, all_left, parents_after}
use Rattle.squash_laws.specs.Takings.{anew, is_none, links, ops_after, target_after}
use Rattle.plain_model.specs.declared.policy.Lean.{Lean}
use Rattle.plain_model.specs.declared.policy.Push.TheVariants as push
use Rattle.squash_laws.proofs.Left.{one_left, one_moved}

-- the operations of a chain and a commit's own, from the tree of the new first parent
replayed : (ls : List Node) (ps new : List ℕ) (ops : List FileOp) (tree_of : ℕ → Option Tree) → Leads (foot ls ps) new → (ps ≡ [] → new ≡ []) → IsSome (begun tree_of new) → folded (ops_along ls) (begun tree_of (foot ls ps)) ≡ begun tree_of ps
    → folded (anew ls new ++ (ops_along ls ++ ops)) (begun tree_of new) ≡ folded ops (begun tree_of ps)
replayed [] [] new ops tree_of l none s r = ap (λ (qs : List ℕ). folded ops (begun tree_of qs)) (none refl)
replayed [] (p ∷ ps) [] ops tree_of l none s r = absurd l
replayed [] (p ∷ ps) (q ∷ qs) ops tree_of l none s r = ap (λ x. folded ops (tree_of x)) (sym l)
replayed (n ∷ ns) ps new ops tree_of l none s r = go n.parents new l s r
  where
    go : (fs new : List ℕ) → Leads fs new → IsSome (begun tree_of new) → folded (ops_along (n ∷ ns)) (begun tree_of fs) ≡ begun tree_of ps
        → folded (cond (is_none fs && not (is_none new)) (DeleteAll ∷ []) [] ++ (ops_along (n ∷ ns) ++ ops)) (begun tree_of new) ≡ folded ops (begun tree_of ps)
    go [] [] l s r = folded_more (ops_along (n ∷ ns)) ops (Some []) ∙ ap (folded ops) r
    go [] (q ∷ qs) l s r = from_anew (tree_of q) s ∙ folded_more (ops_along (n ∷ ns)) ops (Some []) ∙ ap (folded ops) r
      where
        from_anew : (o : Option Tree) → IsSome o → folded (DeleteAll ∷ (ops_along (n ∷ ns) ++ ops)) o ≡ folded (ops_along (n ∷ ns) ++ ops) (Some [])
        from_anew (Some u) s = refl
        from_anew None s = absurd (true≢false (sym s))
    go (f ∷ fs) [] l s r = absurd l
    go (f ∷ fs) (q ∷ qs) l s r = folded_more (ops_along (n ∷ ns)) ops (tree_of q) ∙ ap (λ x. folded ops (folded (ops_along (n ∷ ns)) (tree_of x))) (sym l) ∙ ap (folded ops) r

module _ (set : List AnyId) (events : List PlainEvent) (tags : Lean) (comment_of : ℕ → List ℕ → Bytes → Bytes) (h : IsSound events) where
  -- whatever becomes of comments
  abbrev taking : Takings
  taking = record { ops = ops_after set events push.Forward; comment = comment_of; target = target_after set events push.Forward tags }

  abbrev number : ℕ → ℕ
  number = (sound_settles events h).numbered.0

  -- the first of some commits that are known has a tree
  first_tree : (qs : List ℕ) (id : ℕ) → AllByRecursion (λ q. (is_removed set q ≡ false) × (knows (past events) q ≡ true) × (number q < id)) qs → IsSome (begun (tree events) qs)
  first_tree [] id a = refl
  first_tree (q ∷ qs) id a = h.trees q (sym (known_past events q) ∙ a.0.1)

  -- what is given of an event
  record IsGiven (e : PlainEvent) : Type 0 where
    ready : is_ready events e ≡ true
    low : OfNodes (IsAbove number) e
    fits : OfNodes (Fits (tree events)) e

  new_fits : (id : ℕ) (parents : List ℕ) (ops : List FileOp) → AllByRecursion (λ p. IsTrue (knows (past events) p)) parents → AllByRecursion (λ p. number p < number id) parents → Fits (tree events) (record { id = id; parents = parents; ops = ops })
      → Fits (tree events) (record { id = id; parents = parents_after set events taking parents; ops = ops_after set events push.Forward id parents ops })
  new_fits id parents ops k low fit =
      let linked = linked_past events h in
      let new = expand_all (is_removed set) (past events) parents in
      let first = first_known (past events) parents k in
      let stand = parents_stand (is_removed set) number (past events) linked (all_reverse (IsAbove number) (nodes events) (sound_settles events h).numbered.1) (number id) parents k low in
      fit ∙ sym (replayed (links set events parents) parents new ops (tree events) (chain_leads (is_removed set) (past events) linked parents first) (λ none. ap (expand_all (is_removed set) (past events)) none)
      (first_tree new (number id) stand) (chain_replays (is_removed set) (past events) linked parents first))

  fits_left : (e : PlainEvent) → IsGiven e → AllByRecursion (OfNodes (Fits (tree events))) (left_of set events taking e)
  fits_left (Commit id mark branch author committer encoding comment parents ops aliases) g =
      one_left (OfNodes (Fits (tree events))) (is_removed set id)
      (Commit id mark branch author committer encoding (taking.comment id parents comment) (parents_after set events taking parents) (ops_after set events push.Forward id parents ops) aliases)
      (λ stays. (new_fits id parents ops (ready_parents events parents ops g.ready) g.low.0 g.fits.0, tt))
  fits_left (Blob id mark bytes) g = (tt, tt)
  fits_left (Tag id name target tagger comment mark) g = one_moved (OfNodes (Fits (tree events))) (is_listed (any.Tag id) set) (λ t. Tag id name t tagger comment mark) (taking.target target) (λ t is. tt)
  fits_left (Reset id branch None) g = one_left (OfNodes (Fits (tree events))) (is_listed (any.Reset id) set) (Reset id branch None) (λ stays. tt)
  fits_left (Reset id branch (Some target)) g = one_moved (OfNodes (Fits (tree events))) (is_listed (any.Reset id) set) (λ t. Reset id branch (Some t)) (taking.target target) (λ t is. tt)
  fits_left (Pass id line) g = one_left (OfNodes (Fits (tree events))) (is_listed (any.Pass id) set) (Pass id line) (λ stays. tt)

  given : (es : List PlainEvent) → AllByRecursion (λ e. IsTrue (is_ready events e)) es → AllByRecursion (OfNodes (IsAbove number)) es → AllByRecursion (OfNodes (Fits (tree events))) es → AllByRecursion IsGiven es
  given [] r a f = tt
  given (e ∷ es) r a f = (record { ready = r.0; low = a.0; fits = f.0 }, given es r.1 a.1 f.1)

  -- the old trees fit the commits that are left
  pub left_fits : AllByRecursion (Fits (tree events)) (nodes (all_left set events taking))
  left_fits =
      let s = sound_settles events h in
      let parts = in_parts events h in
      events_of_nodes (Fits (tree events)) (all_left set events taking)
      (all_flat IsGiven (OfNodes (Fits (tree events))) (left_of set events taking) fits_left events
      (given events s.complete (nodes_of_events (IsAbove number) events s.numbered.1) (nodes_of_events (Fits (tree events)) events (trees_fit events parts.once parts.in_order))))
