-- Below a folder nothing collides, so that one put whose path gets too long is why a move is refused.
use Rattle.std.proofs.Common.{◌≡◌, ℕ, ◌+◌, Bool, true, false, cond, List, [], ◌∷◌, refl, sym, ap, subst, ◌∙◌, ◌⊎◌, inl, inr, is_some, true≢false, Option, Some, None, option_map, Result, Ok, Err}
use Rattle.std.specs.Prelude.{IsSome, unwrap_or}
use Rattle.std.specs.List.{AllByRecursion, list_any}
use Rattle.std.proofs.lemmas.Bool.{or_cases}
use Rattle.plain_model.specs.declared.fault.Fault.{Fault}
use Rattle.plain_model.specs.declared.fault.Fault.TheVariants as fault
use Rattle.plain_model.specs.declared.fault.Which.TheVariants as limit
use Rattle.plain_model.specs.declared.limit.TheConstants.{MAX_PATH_BYTES}
use Rattle.plain_model.specs.declared.operation.Entry.{Entry}
use Rattle.plain_model.specs.declared.operation.FileOp.{FileOp}
use Rattle.plain_model.specs.declared.operation.FileOp.TheVariants.{Modify, Delete, Copy, Rename, DeleteAll}
use Rattle.plain_model.specs.declared.event.PlainEvent.{PlainEvent}
use Rattle.plain_model.specs.declared.event.PlainEvent.TheVariants.{Blob, Commit, Tag, Reset, Pass}
use Rattle.plain_model.specs.Histories.{begun, past, tree}
use Rattle.plain_model.specs.Lookups.{id_of}
use Rattle.plain_model.specs.Paths.{Bytes}
use Rattle.plain_model.specs.Soundness.{IsSound, has_id}
use Rattle.plain_model.specs.Trees.{IsTree, Refusal, Tree, apply, apply_all, at, cleared_for, has, put}
use Rattle.history_laws.proofs.TreeLaws.{at_put}
use Rattle.history_laws.proofs.TreeMaps.{itself, within_ok}
use Rattle.edit_laws.specs.Equations.{Fits}
use Rattle.edit_laws.proofs.Lists.{OfNodes, nodes_of_events, own_here}
use Rattle.edit_laws.proofs.Sound.{in_parts}
use Rattle.edit_laws.proofs.Trees.{trees_fit}
use Rattle.expunge_laws.proofs.TreesLeft.{IfTreeIs, begun_is, begun_with, both_apply, tree_is}
use Rattle.path_move_laws.specs.Images.{has_long_image}
use Rattle.path_move_laws.specs.LongPuts.{has_long_put, is_long_put}
use Rattle.path_move_laws.specs.MovedOps.{first_fault, image_fault}
use Rattle.path_move_laws.specs.Moves.{event_fault, first_of}
use Rattle.path_move_laws.specs.PathMaps.{image_of}
use Rattle.path_move_laws.specs.declared.path_map.PathMap.TheVariants.{Sub}
use Rattle.path_move_laws.proofs.Collisions.{apart_collides}
use Rattle.path_move_laws.proofs.MapLaws.{sub_apart}
use Rattle.path_move_laws.proofs.Moving.{still_tree}
use Rattle.path_move_laws.proofs.OneByOne.{long_there}

-- a path is there once it is put
put_there : (p : Bytes) (v : Entry) (t : Tree) → has (put p v t) p ≡ true
put_there p v t = ap is_some (at_put p p v t ∙ ap (λ b. cond b (Some v) (at t p)) (itself p))

module _ (folder : Bytes) where
  abbrev below : Bytes → Bytes
  below = image_of (Sub folder)

  abbrev too_long : Fault
  too_long = fault.Limit limit.PathBytes MAX_PATH_BYTES

  -- the only fault that a tree has
  abbrev long_fault : Bool → Option Fault
  long_fault b = cond b (Some too_long) None

  only_long : (mark number : ℕ) (t : Tree) → IsTree t → image_fault below mark number t ≡ long_fault (has_long_image below t)
  only_long mark number t form =
      ap (λ (o : Option Bytes). cond (has_long_image below t) (Some too_long) (option_map (λ path. fault.PathCollision mark number path) o))
      (apart_collides below t form.in_order (sub_apart folder t form))

  -- the tree after such a put
  long_after : (op : FileOp) (old new : Tree) → apply op old ≡ Ok new → is_long_put below op ≡ true → has_long_image below new ≡ true
  long_after (Modify mode content path) old new h long =
      let is = within_ok (put path (record { mode = mode; content = content }) (cleared_for path old)) new h in
      long_there below new path (subst (λ (t : Tree). has t path ≡ true) is.0 (put_there path (record { mode = mode; content = content }) (cleared_for path old))) long
  long_after (Delete path) old new h long = absurd (true≢false (sym long))
  long_after (Copy source target) old new h long = absurd (true≢false (sym long))
  long_after (Rename source target) old new h long = absurd (true≢false (sym long))
  long_after DeleteAll old new h long = absurd (true≢false (sym long))

  -- ---- the operations of a commit

  abbrev stepped : ℕ → ℕ → List FileOp → Tree → Option Fault → Option Fault
  stepped mark number ops new o = elim o [ Some why ↦ Some why | None ↦ first_fault below mark (number + 1) ops new ]

  first_step : (op : FileOp) (ops : List FileOp) (mark number : ℕ) (old new : Tree) → IsTree old → apply op old ≡ Ok new
      → first_fault below mark number (op ∷ ops) old ≡ stepped mark number ops new (long_fault (has_long_image below new))
  first_step op ops mark number old new form h =
      ap (λ (r : Result Tree Refusal). elim r [ Ok x ↦ elim (image_fault below mark number x) [ Some why ↦ Some why | None ↦ first_fault below mark (number + 1) ops x ] | Err why ↦ None ]) h
      ∙ ap (stepped mark number ops new) (only_long mark number new (still_tree op old new form h))

  -- no operation has another fault
  abbrev IsLongOrNone : Option Fault → Type 0
  IsLongOrNone None = Unit {0}
  IsLongOrNone (Some why) = why ≡ too_long

  ops_alike : (ops : List FileOp) (mark number : ℕ) (old new : Tree) → IsTree old → apply_all ops old ≡ Ok new → IsLongOrNone (first_fault below mark number ops old)
  ops_alike [] mark number old new form h = tt
  ops_alike (op ∷ ops) mark number old new form h =
      let b = both_apply op ops old new h in
      subst IsLongOrNone (sym (first_step op ops mark number old b.0 form b.1))
      (go b.0 (has_long_image below b.0) (ops_alike ops mark (number + 1) b.0 new (still_tree op old b.0 form b.1) b.2))
    where
      go : (mid : Tree) (b : Bool) → IsLongOrNone (first_fault below mark (number + 1) ops mid) → IsLongOrNone (stepped mark number ops mid (long_fault b))
      go mid true rest = refl
      go mid false rest = rest

  ops_long : (ops : List FileOp) (mark number : ℕ) (old new : Tree) → IsTree old → apply_all ops old ≡ Ok new → list_any (is_long_put below) ops ≡ true → first_fault below mark number ops old ≡ Some too_long
  ops_long [] mark number old new form h long = absurd (true≢false (sym long))
  ops_long (op ∷ ops) mark number old new form h long =
      let b = both_apply op ops old new h in
      first_step op ops mark number old b.0 form b.1
      ∙ go b.0 (has_long_image below b.0) refl (or_cases (is_long_put below op) (list_any (is_long_put below) ops) long) b.1
      (ops_long ops mark (number + 1) b.0 new (still_tree op old b.0 form b.1) b.2)
    where
      go : (mid : Tree) (b : Bool) → has_long_image below mid ≡ b → (is_long_put below op ≡ true) ⊎ (list_any (is_long_put below) ops ≡ true) → apply op old ≡ Ok mid
          → (list_any (is_long_put below) ops ≡ true → first_fault below mark (number + 1) ops mid ≡ Some too_long) → stepped mark number ops mid (long_fault b) ≡ Some too_long
      go mid true is one done rest = refl
      go mid false is (inl own) done rest = absurd (true≢false (sym (long_after op old mid done own) ∙ is))
      go mid false is (inr later) done rest = rest later

  -- ---- events

  module _ (events : List PlainEvent) where
    -- with what a commit of the history begins, and that its operations are done
    record Begins (parents : List ℕ) (ops : List FileOp) : Type 0 where
      first : Tree
      last : Tree
      is : begun (tree events) parents ≡ Some first
      form : IsTree first
      done : apply_all ops first ≡ Ok last

    begins : IsSound events → (id : ℕ) (parents : List ℕ) (ops : List FileOp) → IsSome (tree events id) → Fits (tree events) (record { id = id; parents = parents; ops = ops }) → Begins parents ops
    begins h id parents ops some fit = go (tree events id) refl some
      where
        go : (o : Option Tree) → tree events id ≡ o → IsSome o → Begins parents ops
        go None is k = absurd cc
        go (Some t) is k =
            let m = begun_with ops (begun (tree events) parents) t (sym fit ∙ is) in
            record { first = m.0; last = t; is = m.1; form = subst IfTreeIs m.1 (begun_is (tree events) (λ c. tree_is (past events) c) parents); done = m.2 }

    event_alike : IsSound events → (e : PlainEvent) → has_id events (id_of e) ≡ true → OfNodes (Fits (tree events)) e → IsLongOrNone (event_fault below events e)
    event_alike h (Commit id mark branch author committer encoding comment parents ops aliases) there fits =
        let b = begins h id parents ops (h.trees id there) fits.0 in
        subst (λ (o : Option Tree). IsLongOrNone (first_fault below mark 1 ops (unwrap_or o []))) (sym b.is) (ops_alike ops mark 1 b.first b.last b.form b.done)
    event_alike h (Blob id mark bytes) there fits = tt
    event_alike h (Tag id name target tagger comment mark) there fits = tt
    event_alike h (Reset id branch target) there fits = tt
    event_alike h (Pass id line) there fits = tt

    event_long : IsSound events → (e : PlainEvent) → has_id events (id_of e) ≡ true → OfNodes (Fits (tree events)) e → has_long_put below e ≡ true → event_fault below events e ≡ Some too_long
    event_long h (Commit id mark branch author committer encoding comment parents ops aliases) there fits long =
        let b = begins h id parents ops (h.trees id there) fits.0 in
        ap (λ (o : Option Tree). first_fault below mark 1 ops (unwrap_or o [])) b.is ∙ ops_long ops mark 1 b.first b.last b.form b.done long
    event_long h (Blob id mark bytes) there fits long = absurd (true≢false (sym long))
    event_long h (Tag id name target tagger comment mark) there fits long = absurd (true≢false (sym long))
    event_long h (Reset id branch target) there fits long = absurd (true≢false (sym long))
    event_long h (Pass id line) there fits long = absurd (true≢false (sym long))

    all_long : IsSound events → (es : List PlainEvent) → AllByRecursion (λ e. has_id events (id_of e) ≡ true) es → AllByRecursion (OfNodes (Fits (tree events))) es → list_any (has_long_put below) es ≡ true
        → first_of below events es ≡ Some too_long
    all_long h [] there fits long = absurd (true≢false (sym long))
    all_long h (e ∷ es) there fits long =
        go (event_fault below events e) refl (event_alike h e there.0 fits.0) (or_cases (has_long_put below e) (list_any (has_long_put below) es) long) (event_long h e there.0 fits.0) (all_long h es there.1 fits.1)
      where
        go : (o : Option Fault) → event_fault below events e ≡ o → IsLongOrNone o → (has_long_put below e ≡ true) ⊎ (list_any (has_long_put below) es ≡ true)
            → (has_long_put below e ≡ true → event_fault below events e ≡ Some too_long) → (list_any (has_long_put below) es ≡ true → first_of below events es ≡ Some too_long) → ◌≡◌ {A = Option Fault} (elim o [ Some why ↦ Some why | None ↦ first_of below events es ]) (Some too_long)
        go (Some why) is only one here rest = ap (λ (w : Fault). Some w) only
        go None is only (inl own) here rest = let both : None ≡ Some too_long = sym is ∙ here own in absurd cc
        go None is only (inr later) here rest = rest later

    pub long_put_refuses : IsSound events → list_any (has_long_put below) events ≡ true → first_of below events events ≡ Some too_long
    long_put_refuses h long =
        let parts = in_parts events h in
        all_long h events (own_here events) (nodes_of_events (Fits (tree events)) events (trees_fit events parts.once parts.in_order)) long
