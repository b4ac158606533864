-- An expunge again changes nothing; and what an emptied commit had.
use Rattle.std.proofs.Common.{◌≡◌, ℕ, Bool, true, false, cond, not, List, [], ◌∷◌, ◌++◌, map, filter, refl, sym, ap, subst, ◌∙◌, true≢false, Option, Some, None, option_map, Result, Ok, Err, IsTrue}
use Rattle.std.specs.Prelude.{◌&&◌, IsSome, flat_map, option_to_list, unwrap_or}
use Rattle.std.specs.List.{AllByRecursion}
use Rattle.plain_model.specs.declared.fault.Fault.{Fault}
use Rattle.plain_model.specs.declared.id.AnyId.{AnyId}
use Rattle.plain_model.specs.declared.id.AnyId.TheVariants as any
use Rattle.plain_model.specs.declared.operation.FileOp.{FileOp}
use Rattle.plain_model.specs.declared.operation.FileOp.TheVariants.{DeleteAll}
use Rattle.plain_model.specs.declared.event.PlainEvent.{PlainEvent}
use Rattle.plain_model.specs.declared.event.PlainEvent.TheVariants.{Blob, Commit, Tag, Reset, Pass}
use Rattle.plain_model.specs.Histories.{begun, folded, if_ok, knows, past, tree}
use Rattle.plain_model.specs.Lookups.{id_of, is_listed}
use Rattle.plain_model.specs.Paths.{Bytes}
use Rattle.plain_model.specs.Soundness.{IsSound, has_id}
use Rattle.plain_model.specs.Trees.{Refusal, Tree, apply_all}
use Rattle.ancestry_laws.proofs.Pasts.{known_past}
use Rattle.edit_laws.specs.Equations.{Fits}
use Rattle.edit_laws.specs.Removal.{once_each}
use Rattle.edit_laws.specs.Settling.{is_ready}
use Rattle.edit_laws.specs.Sweeping.{swept}
use Rattle.edit_laws.proofs.Chains.{back_stays}
use Rattle.edit_laws.proofs.Fine.{ready_parents}
use Rattle.edit_laws.proofs.Lists.{OfNodes, all_flat, nodes_of_events, own_here}
use Rattle.edit_laws.proofs.Settles.{sound_settles}
use Rattle.squash_laws.specs.Removed.{Takings, is_removed, left_of, parents_after}
use Rattle.squash_laws.specs.Takings.{back_of, is_none}
use Rattle.plain_model.specs.declared.policy.Lean.TheVariants as lean
use Rattle.squash_laws.proofs.Left.{one_left, one_moved}
use Rattle.expunge_laws.specs.Expunged.{emptied, expunge_of, expunged, is_emptied, ops_left, replaced_event, replaced_events}
use Rattle.expunge_laws.specs.InLine.{IsInLine, is_nothing, ops_in_line, parents_in_line, tree_in_place}
use Rattle.expunge_laws.specs.PushForward.{forward_takes, unless_limit}
use Rattle.expunge_laws.specs.Replaced.{replaced_all, restricted}
use Rattle.expunge_laws.proofs.Changed.{fitting, ids_same, replaced_sound, replaced_trees}
use Rattle.expunge_laws.proofs.Finished.{unless}
use Rattle.expunge_laws.proofs.Forwarded.{pushed_all, pushed_commits, pushed_done, pushed_trees}
use Rattle.expunge_laws.proofs.InLine.{all_in_line, empty_past, linked}
use Rattle.expunge_laws.proofs.InPlace.{at_place, in_place}
use Rattle.expunge_laws.proofs.OpsAgain.{all_again}
use Rattle.expunge_laws.proofs.Still.{none_emptied, none_swept, not_emptied}
use Rattle.expunge_laws.proofs.TreesLeft.{IfTreeIs, begun_is, tree_is}
use Rattle.expunge_laws.proofs.Whole.{expunge_sound}

abbrev ops_of : PlainEvent → List FileOp
ops_of (Commit id mark branch author committer encoding comment parents ops aliases) = ops
ops_of (Blob id mark bytes) = []
ops_of (Tag id name target tagger comment mark) = []
ops_of (Reset id branch target) = []
ops_of (Pass id line) = []

module _ (matched : Bytes → Bool) (events : List PlainEvent) (h : IsSound events) where
  abbrev set : List AnyId
  set = emptied matched events

  abbrev changed : List PlainEvent
  changed = replaced_events matched events

  abbrev taking : Takings
  taking = forward_takes set changed false lean.Forward

  -- ---- the list with replaced operations

  abbrev AreKnown : List ℕ → Type 0
  AreKnown ps = AllByRecursion (λ p. IsTrue (knows (past events) p)) ps

  -- what a commit begins with, without the matched paths
  begun_left : (ps : List ℕ) → AreKnown ps → begun (tree changed) ps ≡ option_map (restricted matched) (begun (tree events) ps)
  begun_left [] k = refl
  begun_left (p ∷ ps) k = replaced_trees matched events h p (sym (known_past events p) ∙ k.0)

  began_with : (ops : List FileOp) (o : Option Tree) → IsSome (folded ops o) → (t : Tree) × (o ≡ Some t) × ((v : Tree) × (apply_all ops t ≡ Ok v))
  began_with ops None s = absurd (true≢false (sym s))
  began_with ops (Some t) s = (t, refl, go (apply_all ops t) refl s)
    where
      go : (r : Result Tree Refusal) → apply_all ops t ≡ r → IsSome (if_ok r) → (v : Tree) × (apply_all ops t ≡ Ok v)
      go (Ok v) e s = (v, e)
      go (Err why) e s = absurd (true≢false (sym s))

  abbrev IsSame : List PlainEvent → PlainEvent → Type 0
  IsSame list e = replaced_event matched list e ≡ e

  ops_again : (parents : List ℕ) (ops : List FileOp) → AreKnown parents → IsSome (folded ops (begun (tree events) parents)) →
      ops_left matched changed parents (ops_left matched events parents ops) ≡ ops_left matched events parents ops
  ops_again parents ops k s =
      let b = began_with ops (begun (tree events) parents) s in
      let own : ops_left matched events parents ops ≡ replaced_all matched ops b.0 = ap (λ (o : Option Tree). replaced_all matched ops (unwrap_or o [])) b.1 in
      let first : begun (tree changed) parents ≡ Some (restricted matched b.0) = begun_left parents k ∙ ap (option_map (restricted matched)) b.1 in
      let its : IfTreeIs (Some b.0) = subst IfTreeIs b.1 (begun_is (tree events) (λ c. tree_is (past events) c) parents) in
      (λ i. replaced_all matched (own i) (unwrap_or (first i) []))
      ∙ all_again matched ops b.0 b.2.0 its b.2.1
      ∙ sym own

  same_changed : (es : List PlainEvent) → AllByRecursion (λ e. has_id events (id_of e) ≡ true) es → AllByRecursion (OfNodes (Fits (tree events))) es →
      AllByRecursion (λ e. IsTrue (is_ready events e)) es → AllByRecursion (IsSame changed) (map (replaced_event matched events) es)
  same_changed [] k f r = tt
  same_changed (Commit id mark branch author committer encoding comment parents ops aliases ∷ es) k f r = (
    ap (λ (l : List FileOp). Commit id mark branch author committer encoding comment parents l aliases)
        (ops_again parents ops (ready_parents events parents ops r.0) (subst IsSome f.0.0 (h.trees id k.0))),
    same_changed es k.1 f.1 r.1,
  )
  same_changed (Blob id mark bytes ∷ es) k f r = (refl, same_changed es k.1 f.1 r.1)
  same_changed (Tag id name target tagger comment mark ∷ es) k f r = (refl, same_changed es k.1 f.1 r.1)
  same_changed (Reset id branch target ∷ es) k f r = (refl, same_changed es k.1 f.1 r.1)
  same_changed (Pass id line ∷ es) k f r = (refl, same_changed es k.1 f.1 r.1)

  -- ---- emptied commits

  place_is : (o : Option ℕ) → at_place (past changed) o ≡ tree_in_place changed o
  place_is None = refl
  place_is (Some b) = refl

  pub trees_in_place : (c : ℕ) → has_id events (any.Commit c) ≡ true → option_map (restricted matched) (tree events c) ≡ tree_in_place changed (back_of set changed c)
  trees_in_place c there =
      sym (replaced_trees matched events h c there)
      ∙ in_place (is_removed set) (past changed) (linked matched events h) (empty_past matched events h) c (known_past changed c ∙ ids_same matched events events (any.Commit c) ∙ there)
      ∙ place_is (back_of set changed c)

  -- ---- the list without the emptied commits

  module _ (new : List PlainEvent) (d : expunge_of matched events ≡ Ok new) where
    abbrev sound : IsSound changed
    sound = replaced_sound matched events h

    is : expunged matched events ≡ Ok new
    is = (pushed_done events set changed false lean.Forward sound events new d).0

    -- a commit that isn't emptied has the tree that it had
    tree_kept : (b : ℕ) → is_removed set b ≡ false → has_id changed (any.Commit b) ≡ true → tree new b ≡ tree changed b
    tree_kept b stays there =
        pushed_trees events set changed false lean.Forward sound new is b
        (pushed_commits events set changed false lean.Forward sound new is b
        ∙ ap (λ x. x && not (is_removed set b)) there
        ∙ ap not stays)

    -- with what comes in the place of the first parent, and of the others
    abbrev Stays : List FileOp → List ℕ → Option ℕ → Type 0
    Stays own rest o =
        ops_left matched new (once_each (option_to_list o ++ rest)) (cond (is_nothing o && not (is_none (once_each (option_to_list o ++ rest)))) (DeleteAll ∷ own) own)
        ≡ cond (is_nothing o && not (is_none (once_each (option_to_list o ++ rest)))) (DeleteAll ∷ own) own

    from_nothing : (own : List FileOp) → replaced_all matched own [] ≡ own → (qs : List ℕ) →
        ops_left matched new qs (cond (not (is_none qs)) (DeleteAll ∷ own) own) ≡ cond (not (is_none qs)) (DeleteAll ∷ own) own
    from_nothing own base [] = base
    from_nothing own base (q ∷ qs) = ap (λ (l : List FileOp). DeleteAll ∷ l) base

    from_place : (own : List FileOp) (p : ℕ) (rest : List ℕ) (o : Option ℕ) → back_of set changed p ≡ o → tree changed p ≡ at_place (past changed) o →
        replaced_all matched own (unwrap_or (tree changed p) []) ≡ own → Stays own rest o
    from_place own p rest None e place same =
        from_nothing own (ap (λ (x : Option Tree). replaced_all matched own (unwrap_or x [])) (sym place) ∙ same) (once_each rest)
    from_place own p rest (Some b) e place same =
        let its = back_stays (is_removed set) (past changed) (p ∷ []) b e in
        ap (λ (x : Option Tree). replaced_all matched own (unwrap_or x [])) (tree_kept b its.0 (sym (known_past changed b) ∙ its.1) ∙ sym place)
        ∙ same

    in_line : (parents : List ℕ) (own : List FileOp) → AllByRecursion (λ p. IsTrue (knows (past changed) p)) parents → ops_left matched changed parents own ≡ own →
        ops_left matched new (parents_in_line set changed parents) (ops_in_line set changed parents own) ≡ ops_in_line set changed parents own
    in_line [] own k same = same
    in_line (p ∷ ps) own k same =
        from_place own p (flat_map (λ q. option_to_list (back_of set changed q)) ps) (back_of set changed p) refl
        (in_place (is_removed set) (past changed) (linked matched events h) (empty_past matched events h) p k.0) same

    -- what is given of an event with replaced operations
    record IsGiven (x : PlainEvent) : Type 0 where
      same : IsSame changed x
      line : OfNodes (IsInLine set changed) x
      ready : is_ready changed x ≡ true

    same_new : (x : PlainEvent) → IsGiven x → AllByRecursion (IsSame new) (left_of set changed taking x)
    same_new (Commit id mark branch author committer encoding comment parents own aliases) g =
        let line = g.line.0 in
        let after = parents_after set changed taking parents in
        one_left (IsSame new) (is_removed set id)
        (Commit id mark branch author committer encoding (taking.comment id parents comment) after (taking.ops id parents own) aliases)
        (λ stays. ap (λ (l : List FileOp). Commit id mark branch author committer encoding (taking.comment id parents comment) after l aliases)
        ((λ i. ops_left matched new (line.parents i) (line.ops own i))
        ∙ in_line parents own (ready_parents changed parents own g.ready) (ap ops_of g.same)
        ∙ sym (line.ops own)))
    same_new (Blob id mark bytes) g = (refl, tt)
    same_new (Tag id name target tagger comment mark) g =
        one_moved (IsSame new) (is_listed (any.Tag id) set) (λ t. Tag id name t tagger comment mark) (taking.target target) (λ t to. refl)
    same_new (Reset id branch None) g = one_left (IsSame new) (is_listed (any.Reset id) set) (Reset id branch None) (λ stays. refl)
    same_new (Reset id branch (Some target)) g =
        one_moved (IsSame new) (is_listed (any.Reset id) set) (λ t. Reset id branch (Some t)) (taking.target target) (λ t to. refl)
    same_new (Pass id line) g = one_left (IsSame new) (is_listed (any.Pass id) set) (Pass id line) (λ stays. refl)

    all_given : (xs : List PlainEvent) → AllByRecursion (IsSame changed) xs → AllByRecursion (OfNodes (IsInLine set changed)) xs →
        AllByRecursion (λ x. IsTrue (is_ready changed x)) xs → AllByRecursion IsGiven xs
    all_given [] s l r = tt
    all_given (x ∷ xs) s l r = (record { same = s.0; line = l.0; ready = r.0 }, all_given xs s.1 l.1 r.1)

    all_same : AllByRecursion (IsSame new) new
    all_same =
        pushed_all events set changed false lean.Forward (IsSame new)
        (all_flat IsGiven (IsSame new) (left_of set changed taking) same_new changed
        (all_given changed (same_changed events (own_here events) (fitting matched events h) (sound_settles events h).complete)
        (nodes_of_events (IsInLine set changed) changed (all_in_line matched events h)) (sound_settles changed sound).complete))
        new is

    -- ---- the whole history

    sound_new : IsSound new
    sound_new = expunge_sound matched events h new d

    map_same : (es : List PlainEvent) → AllByRecursion (IsSame new) es → map (replaced_event matched new) es ≡ es
    map_same [] a = refl
    map_same (e ∷ es) a = λ i. a.0 i ∷ map_same es a.1 i

    none_left : (es : List PlainEvent) → AllByRecursion (IsSame new) es → map id_of (filter (is_emptied matched new) es) ≡ []
    none_left [] a = refl
    none_left (e ∷ es) a =
        ap (λ b. map id_of (cond b (e ∷ filter (is_emptied matched new) es) (filter (is_emptied matched new) es))) (not_emptied matched new sound_new e a.0)
        ∙ none_left es a.1

    pub again : expunge_of matched new ≡ Ok new
    again =
        ap (unless_limit new)
        (none_emptied matched new sound_new (none_left new all_same)
        ∙ ap (λ (l : List PlainEvent). Ok (swept new l)) (map_same new all_same)
        ∙ ap (λ (l : List PlainEvent). Ok l) (none_swept new new))
        ∙ ap (λ (o : Option Fault). unless o new) (pushed_done events set changed false lean.Forward sound events new d).1
