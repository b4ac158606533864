-- What an expunge doesn't touch stays as it is.
use Rattle.std.proofs.Common.{◌≡◌, ℕ, Bool, true, false, cond, not, List, [], ◌∷◌, ◌++◌, map, filter, refl, sym, ap, subst, ◌∙◌, true≢false, Option, Some, None, Result, Ok, Err, IsFalse}
use Rattle.std.specs.Prelude.{◌||◌, ◌&&◌, IsSome, flat_map, unwrap_or}
use Rattle.std.specs.List.{AllByRecursion, list_any}
use Rattle.std.proofs.lemmas.Bool.{cond-false, cond-true, not-false, or_parts}
use Rattle.plain_model.specs.declared.id.AnyId.{AnyId}
use Rattle.plain_model.specs.declared.operation.FileOp.{FileOp}
use Rattle.plain_model.specs.declared.operation.FileOp.TheVariants.{Modify, Delete, Copy, Rename, DeleteAll}
use Rattle.plain_model.specs.declared.event.PlainEvent.{PlainEvent}
use Rattle.plain_model.specs.declared.event.PlainEvent.TheVariants.{Blob, Commit, Tag, Reset, Pass}
use Rattle.plain_model.specs.Histories.{Node, Past, begun, folded, if_ok, past, tree}
use Rattle.plain_model.specs.Lookups.{id_of}
use Rattle.plain_model.specs.Paths.{Bytes}
use Rattle.plain_model.specs.Soundness.{IsSound, has_id}
use Rattle.plain_model.specs.Trees.{Refusal, Tree, apply, apply_all, subtree, ◌>>=◌}
use Rattle.edit_laws.specs.Equations.{Fits}
use Rattle.edit_laws.specs.Parts.{IsLawful}
use Rattle.edit_laws.specs.Removal.{chain, expand, expand_all, once_each}
use Rattle.edit_laws.specs.Settling.{settle}
use Rattle.edit_laws.specs.Sweeping.{is_left_over, is_named, swept}
use Rattle.edit_laws.proofs.Following.{chain_none, expand_itself}
use Rattle.edit_laws.proofs.Lists.{OfNodes, own_here}
use Rattle.edit_laws.proofs.Settled.{in_order_stays}
use Rattle.edit_laws.proofs.Sound.{in_parts}
use Rattle.edit_laws.proofs.Swept.{swept_in_order}
use Rattle.squash_laws.specs.Removed.{is_removed, left_of, all_left}
use Rattle.squash_laws.specs.Takings.{anew, is_none, ops_after}
use Rattle.plain_model.specs.declared.policy.Lean.TheVariants as lean
use Rattle.plain_model.specs.declared.policy.Push.TheVariants as push
use Rattle.history_laws.specs.FirstParents.{ops_along}
use Rattle.edit_laws.proofs.Repeats.{distinct_once}
use Rattle.expunge_laws.specs.Expunged.{emptied, expunged, is_emptied, is_no_merge, ops_left, replaced_event, replaced_events}
use Rattle.expunge_laws.specs.PushForward.{forward_takes}
use Rattle.expunge_laws.specs.Replaced.{is_clear, replaced, replaced_all, restricted}
use Rattle.expunge_laws.specs.Untouched.{is_touched, may_be_touched, may_touch, one_touches, touches}
use Rattle.expunge_laws.proofs.Changed.{fitting, replaced_sound}

-- ---- nothing is swept

-- sweeping by what was named leaves a history alone
pub none_swept : (events es : List PlainEvent) → filter (λ e. not (is_left_over events events e)) es ≡ es
none_swept events [] = refl
none_swept events (Blob id mark bytes ∷ es) =
    ap (λ b. cond (not b) (Blob id mark bytes ∷ filter (λ e. not (is_left_over events events e)) es) (filter (λ e. not (is_left_over events events e)) es)) (both (is_named events id))
    ∙ ap (λ (l : List PlainEvent). Blob id mark bytes ∷ l) (none_swept events es)
  where
    both : (b : Bool) → b && not b ≡ false
    both true = refl
    both false = refl
none_swept events (Commit id mark branch author committer encoding comment parents ops aliases ∷ es) = ap (λ (l : List PlainEvent). Commit id mark branch author committer encoding comment parents ops aliases ∷ l) (none_swept events es)
none_swept events (Tag id name target tagger comment mark ∷ es) = ap (λ (l : List PlainEvent). Tag id name target tagger comment mark ∷ l) (none_swept events es)
none_swept events (Reset id branch target ∷ es) = ap (λ (l : List PlainEvent). Reset id branch target ∷ l) (none_swept events es)
none_swept events (Pass id line ∷ es) = ap (λ (l : List PlainEvent). Pass id line ∷ l) (none_swept events es)

-- ---- nothing is removed

module _ (events : List PlainEvent) where
  each_itself : (ps : List ℕ) → flat_map (expand (is_removed []) (past events)) ps ≡ ps
  each_itself [] = refl
  each_itself (p ∷ ps) = λ i. expand_itself (is_removed []) (past events) p refl i ++ each_itself ps i

  no_links : (a : Past) (ps : List ℕ) → chain (is_removed []) a ps ≡ []
  no_links [] [] = refl
  no_links (n ∷ older) [] = refl
  no_links a (p ∷ ps) = chain_none (is_removed []) a p ps refl

  own_ops : (c : ℕ) (ps : List ℕ) (ops : List FileOp) → ops_after [] events push.Forward c ps ops ≡ ops
  own_ops c ps ops = ap (λ (l : List Node). anew l (expand_all (is_removed []) (past events) ps) ++ (ops_along l ++ ops)) (no_links (past events) ps)

  stays : (e : PlainEvent) → IsLawful e → left_of [] events (forward_takes [] events false lean.Forward) e ≡ e ∷ []
  stays (Commit id mark branch author committer encoding comment parents ops aliases) l =
      λ i. Commit id mark branch author committer encoding comment ((ap once_each (each_itself parents) ∙ distinct_once parents l.4) i) (own_ops id parents ops i) aliases ∷ []
  stays (Blob id mark bytes) l = refl
  stays (Tag id name target tagger comment mark) l = refl
  stays (Reset id branch None) l = refl
  stays (Reset id branch (Some target)) l = refl
  stays (Pass id line) l = refl

  all_stay : (es : List PlainEvent) → AllByRecursion IsLawful es → flat_map (left_of [] events (forward_takes [] events false lean.Forward)) es ≡ es
  all_stay [] l = refl
  all_stay (e ∷ es) l = λ i. stays e l.0 i ++ all_stay es l.1 i

module _ (matched : Bytes → Bool) (events : List PlainEvent) (h : IsSound events) where
  -- where no commit is emptied, the operations are replaced and blobs are swept
  pub none_emptied : emptied matched events ≡ [] → expunged matched events ≡ Ok (swept events (replaced_events matched events))
  none_emptied none =
      let changed = replaced_events matched events in
      let parts = in_parts changed (replaced_sound matched events h) in
      ap (λ (s : List AnyId). settle (swept events (all_left s changed (forward_takes s changed false lean.Forward)))) none
      ∙ ap (λ (l : List PlainEvent). settle (swept events l)) (all_stay changed changed parts.lawful)
      ∙ in_order_stays (swept events changed) (swept_in_order events changed parts.in_order)

-- ---- operations

module _ (matched : Bytes → Bool) where
  stays_op : (op : FileOp) (old new : Tree) → touches matched op old ≡ false → replaced matched op old new ≡ op ∷ []
  stays_op (Modify mode content path) old new h = cond-false (matched path) _ _ h
  stays_op (Delete path) old new h = ap (λ b. cond (b && is_none (restricted matched (subtree path old))) [] (Delete path ∷ [])) h
  stays_op (Copy source target) old new h = cond-true (is_clear matched source target old) _ _ (not-false (is_clear matched source target old) h)
  stays_op (Rename source target) old new h = cond-true (is_clear matched source target old) _ _ (not-false (is_clear matched source target old) h)
  stays_op DeleteAll old new h = refl

  pub stay_ops : (ops : List FileOp) (old : Tree) → IsSome (folded ops (Some old)) → one_touches matched ops old ≡ false → replaced_all matched ops old ≡ ops
  stay_ops [] old s h = refl
  stay_ops (op ∷ ops) old s h = go (apply op old) refl s (λ new x y. stay_ops ops new x y) h
    where
      go : (r : Result Tree Refusal) → apply op old ≡ r → IsSome (if_ok (r >>= apply_all ops)) → ((new : Tree) → IsSome (folded ops (Some new)) → one_touches matched ops new ≡ false → replaced_all matched ops new ≡ ops)
          → touches matched op old || elim r [ Ok next ↦ one_touches matched ops next | Err why ↦ false ] ≡ false
          → elim r [ Ok new ↦ replaced matched op old new ++ replaced_all matched ops new | Err why ↦ [] ] ≡ op ∷ ops
      go (Ok new) e s f h =
          let parts = or_parts (touches matched op old) (one_touches matched ops new) h in
          λ i. stays_op op old new parts.0 i ++ f new s parts.1 i
      go (Err why) e s f h = absurd (true≢false (sym s))

  -- those of a commit that has a tree
  stay_begun : (ops : List FileOp) (o : Option Tree) → IsSome (folded ops o) → one_touches matched ops (unwrap_or o []) ≡ false → replaced_all matched ops (unwrap_or o []) ≡ ops
  stay_begun ops None s h = absurd (true≢false (sym s))
  stay_begun ops (Some t) s h = stay_ops ops t s h

  name_alone : (op : FileOp) (old : Tree) → may_touch matched op ≡ false → touches matched op old ≡ false
  name_alone (Modify mode content path) old h = h
  name_alone (Delete path) old h = h
  name_alone (Copy source target) old h = absurd (true≢false h)
  name_alone (Rename source target) old h = absurd (true≢false h)
  name_alone DeleteAll old h = refl

  pub names_alone : (ops : List FileOp) (old : Tree) → list_any (may_touch matched) ops ≡ false → one_touches matched ops old ≡ false
  names_alone [] old h = refl
  names_alone (op ∷ ops) old h =
      let parts = or_parts (may_touch matched op) (list_any (may_touch matched) ops) h in
      ap (λ b. b || elim (apply op old) [ Ok next ↦ one_touches matched ops next | Err why ↦ false ]) (name_alone op old parts.0) ∙ go (apply op old) (λ next. names_alone ops next parts.1)
    where
      go : (r : Result Tree Refusal) → ((next : Tree) → one_touches matched ops next ≡ false) → elim r [ Ok next ↦ one_touches matched ops next | Err why ↦ false ] ≡ false
      go (Ok next) f = f next
      go (Err why) f = refl

  module _ (events : List PlainEvent) where
    pub not_by_name : (e : PlainEvent) → may_be_touched matched e ≡ false → is_touched matched events e ≡ false
    not_by_name (Commit id mark branch author committer encoding comment parents ops aliases) h = names_alone ops (unwrap_or (begun (tree events) parents) []) h
    not_by_name (Blob id mark bytes) h = refl
    not_by_name (Tag id name target tagger comment mark) h = refl
    not_by_name (Reset id branch target) h = refl
    not_by_name (Pass id line) h = refl

    pub none_by_name : (es : List PlainEvent) → list_any (may_be_touched matched) es ≡ false → list_any (is_touched matched events) es ≡ false
    none_by_name [] h = refl
    none_by_name (e ∷ es) h =
        let parts = or_parts (may_be_touched matched e) (list_any (may_be_touched matched) es) h in
        λ i. not_by_name e parts.0 i || none_by_name es parts.1 i

    -- ---- the whole history

    module _ (h : IsSound events) where
      abbrev StaysIf : PlainEvent → Type 0
      StaysIf e = IsFalse (is_touched matched events e) → replaced_event matched events e ≡ e

      stay_events : (es : List PlainEvent) → AllByRecursion (λ e. has_id events (id_of e) ≡ true) es → AllByRecursion (OfNodes (Fits (tree events))) es → AllByRecursion StaysIf es
      stay_events [] k f = tt
      stay_events (Commit id mark branch author committer encoding comment parents ops aliases ∷ es) k f = (
        λ n. ap (λ (l : List FileOp). Commit id mark branch author committer encoding comment parents l aliases) (stay_begun ops (begun (tree events) parents) (subst IsSome f.0.0 (h.trees id k.0)) n),
        stay_events es k.1 f.1,
      )
      stay_events (Blob id mark bytes ∷ es) k f = (λ n. refl, stay_events es k.1 f.1)
      stay_events (Tag id name target tagger comment mark ∷ es) k f = (λ n. refl, stay_events es k.1 f.1)
      stay_events (Reset id branch target ∷ es) k f = (λ n. refl, stay_events es k.1 f.1)
      stay_events (Pass id line ∷ es) k f = (λ n. refl, stay_events es k.1 f.1)

      pub untouched_stay : AllByRecursion StaysIf events
      untouched_stay = stay_events events (own_here events) (fitting matched events h)

      all_same : (es : List PlainEvent) → AllByRecursion StaysIf es → list_any (is_touched matched events) es ≡ false → map (replaced_event matched events) es ≡ es
      all_same [] a n = refl
      all_same (e ∷ es) a n =
          let parts = or_parts (is_touched matched events e) (list_any (is_touched matched events) es) n in
          λ i. a.0 parts.0 i ∷ all_same es a.1 parts.1 i

      -- an event whose operations stay isn't emptied
      pub not_emptied : (e : PlainEvent) → replaced_event matched events e ≡ e → is_emptied matched events e ≡ false
      not_emptied (Commit id mark branch author committer encoding comment parents ops aliases) same =
          let its : ops_left matched events parents ops ≡ ops = ap ops_of same in
          ap (λ (l : List FileOp). not (is_none ops) && is_none l && is_no_merge parents) its ∙ go (is_none ops) (is_no_merge parents)
        where
          ops_of : PlainEvent → List FileOp
          ops_of (Commit id mark branch author committer encoding comment parents ops aliases) = ops
          ops_of other = []

          go : (a b : Bool) → not a && a && b ≡ false
          go true b = refl
          go false b = refl
      not_emptied (Blob id mark bytes) same = refl
      not_emptied (Tag id name target tagger comment mark) same = refl
      not_emptied (Reset id branch target) same = refl
      not_emptied (Pass id line) same = refl

      no_emptied : (es : List PlainEvent) → AllByRecursion StaysIf es → list_any (is_touched matched events) es ≡ false → map id_of (filter (is_emptied matched events) es) ≡ []
      no_emptied [] a n = refl
      no_emptied (e ∷ es) a n =
          let parts = or_parts (is_touched matched events e) (list_any (is_touched matched events) es) n in
          ap (λ b. map id_of (cond b (e ∷ filter (is_emptied matched events) es) (filter (is_emptied matched events) es))) (not_emptied e (a.0 parts.0))
          ∙ no_emptied es a.1 parts.1

      -- where nothing is touched, nothing is changed
      pub untouched : list_any (is_touched matched events) events ≡ false → expunged matched events ≡ Ok events
      untouched n =
          none_emptied matched events h (no_emptied events untouched_stay n)
          ∙ ap (λ (l : List PlainEvent). Ok (swept events l)) (all_same events untouched_stay n)
          ∙ ap (λ (l : List PlainEvent). Ok l) (none_swept events events)
