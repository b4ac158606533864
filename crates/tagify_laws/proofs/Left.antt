-- What a push forward leaves of the history with the new tags: each commit that becomes a tag has it in its place.
use Rattle.std.proofs.Common.{◌≡◌, ℕ, ◌+◌, Bool, true, false, cond, not, List, [], ◌∷◌, ◌++◌, map, refl, sym, ap, subst, ◌∙◌, inl, inr, Option, Some, None, option_map, IsTrue, append_assoc}
use Rattle.std.specs.Prelude.{◌&&◌, flat_map, option_to_list}
use Rattle.std.specs.List.{AllByRecursion}
use Rattle.std.specs.Option.{option_or}
use Rattle.std.proofs.lemmas.Bool.{cases_Bool, cond-false, cond-true}
use Rattle.plain_model.specs.declared.id.AnyId.{AnyId}
use Rattle.plain_model.specs.declared.id.AnyId.TheVariants as any
use Rattle.plain_model.specs.declared.operation.FileOp.{FileOp}
use Rattle.plain_model.specs.declared.operation.FileOp.TheVariants.{DeleteAll}
use Rattle.plain_model.specs.declared.event.PlainEvent.{PlainEvent}
use Rattle.plain_model.specs.declared.event.PlainEvent.TheVariants.{Blob, Commit, Tag, Reset, Pass}
use Rattle.plain_model.specs.Histories.{Past, knows, past}
use Rattle.plain_model.specs.Lookups.{id_of, is_listed}
use Rattle.plain_model.specs.Soundness.{IsSound, has_id}
use Rattle.history_laws.proofs.Ids.{has_own}
use Rattle.ancestry_laws.proofs.Pasts.{known_past}
use Rattle.edit_laws.specs.Removal.{back, chain, expand, expand_all, once_each}
use Rattle.edit_laws.specs.Settling.{is_ready}
use Rattle.edit_laws.proofs.Lists.{all_true}
use Rattle.edit_laws.proofs.Settles.{sound_settles}
use Rattle.squash_laws.specs.Removed.{Takings, all_left, is_removed, left_of, parents_after}
use Rattle.plain_model.specs.declared.policy.Lean.TheVariants as lean
use Rattle.expunge_laws.specs.PushForward.{forward_takes}
use Rattle.tagify_laws.specs.InPlace.{in_place, moved}
use Rattle.tagify_laws.specs.Tagify.{base_of, becomes_tag, new_tag, tag_name, tagged, with_tags}
use Rattle.tagify_laws.proofs.Bases.{IsBareLink, bare_chain, from_no_root, no_ops_along}
use Rattle.tagify_laws.proofs.Put.{same_past}
use Rattle.tagify_laws.proofs.Tagged.{bare_past, base_back, base_before, base_expands, base_itself, no_pass, no_reset, no_tag, tagged_each}
use Rattle.squash_laws.specs.Takings.{back_of, forward_of, is_none, moved as moved_on}
use Rattle.edit_laws.proofs.Fine.{ready_parents}

module _ (selected : List AnyId) (events : List PlainEvent) (h : IsSound events) (next : ℕ) where
  abbrev set : List AnyId
  set = tagged selected events

  abbrev put_in : List PlainEvent
  put_in = with_tags selected events next events

  abbrev takes : Takings
  takes = forward_takes set put_in false lean.Back

  abbrev base : ℕ → ℕ
  base c = base_of selected events c

  its_past : past put_in ≡ past events
  its_past = same_past selected events next events

  known : (c : ℕ) → has_id events (any.Commit c) ≡ true → knows (past events) c ≡ true
  known c k = known_past events c ∙ k

  -- ---- what a commit takes over

  parents_are : (ps : List ℕ) → AllByRecursion (λ p. IsTrue (knows (past events) p)) ps → parents_after set put_in takes ps ≡ once_each (map base ps)
  parents_are ps k =
      ap (λ (a : Past). expand_all (is_removed set) a ps) its_past
      ∙ ap once_each (each ps k)
    where
      each : (ps : List ℕ) → AllByRecursion (λ p. IsTrue (knows (past events) p)) ps → flat_map (expand (is_removed set) (past events)) ps ≡ map base ps
      each [] k = refl
      each (p ∷ ps) k = λ i. base_expands selected events h p k.0 i ++ each ps k.1 i

  links_bare : (ps : List ℕ) → AllByRecursion IsBareLink (chain (is_removed set) (past put_in) ps)
  links_bare ps =
      subst (λ (a : Past). AllByRecursion IsBareLink (chain (is_removed set) a ps)) (sym its_past)
      (bare_chain (is_removed set) (past events) (bare_past selected events h) ps)

  ops_are : (c : ℕ) (ps : List ℕ) (ops : List FileOp) → takes.ops c ps ops ≡ ops
  ops_are c ps ops =
      let links = chain (is_removed set) (past put_in) ps in
      let bare = links_bare ps in
      let some = not (is_none (expand_all (is_removed set) (past put_in) ps)) in
      λ i. cond (from_no_root links bare i && some) (DeleteAll ∷ []) [] ++ (no_ops_along links bare i ++ ops)

  target_is : (c : ℕ) → has_id events (any.Commit c) ≡ true → takes.target c ≡ Some (base c)
  target_is c k =
      let back_is : back_of set put_in c ≡ Some (base c) = ap (λ (a : Past). back (is_removed set) a (c ∷ [])) its_past ∙ base_back selected events h c (known c k) in
      elim (cases_Bool (is_removed set c)) [
        | inl gone ↦
            cond-true (is_removed set c) (moved_on set put_in lean.Back c) (Some c) gone
            ∙ ap (λ (o : Option ℕ). option_or o (forward_of set put_in c)) back_is
        | inr stays ↦
            cond-false (is_removed set c) (moved_on set put_in lean.Back c) (Some c) stays
            ∙ ap (λ t. Some t) (sym (base_itself selected events h c stays (known c k)))
      ]

  -- a commit that stays is a target that stays
  kept_target : (c : ℕ) → is_removed set c ≡ false → takes.target c ≡ Some c
  kept_target c stays = cond-false (is_removed set c) (moved_on set put_in lean.Back c) (Some c) stays

  base_kept : (c : ℕ) → has_id events (any.Commit c) ≡ true → is_removed set (base c) ≡ false
  base_kept c k = (base_before selected events h events [] (sym (nothing events)) c k).1
    where
      nothing : (es : List PlainEvent) → es ++ [] ≡ es
      nothing [] = refl
      nothing (e ∷ es) = ap (λ l. e ∷ l) (nothing es)

  -- ---- event by event

  abbrev all_of : List PlainEvent → List PlainEvent
  all_of es = flat_map (left_of set put_in takes) es

  each_left : (k : ℕ) (es : List PlainEvent) → AllByRecursion (λ e. is_listed (id_of e) set ≡ becomes_tag selected e) es → AllByRecursion (λ e. IsTrue (is_ready events e)) es
      → AllByRecursion (λ e. has_id events (id_of e) ≡ true) es → all_of (with_tags selected events k es) ≡ in_place selected events k es
  each_left k [] t r own = refl
  each_left k (Commit id mark branch author committer encoding comment parents ops aliases ∷ es) t r own =
      go (becomes_tag selected (Commit id mark branch author committer encoding comment parents ops aliases)) t.0 (each_left (k + 1) es t.1 r.1 own.1) (each_left k es t.1 r.1 own.1)
    where
      go : (b : Bool) → is_removed set id ≡ b → all_of (with_tags selected events (k + 1) es) ≡ in_place selected events (k + 1) es → all_of (with_tags selected events k es) ≡ in_place selected events k es
          → all_of (cond b (Commit id mark branch author committer encoding comment parents ops aliases ∷ new_tag selected events k (Commit id mark branch author committer encoding comment parents ops aliases) ∷ with_tags selected events (k + 1) es) (Commit id mark branch author committer encoding comment parents ops aliases ∷ with_tags selected events k es))
          ≡ cond b (new_tag selected events k (Commit id mark branch author committer encoding comment parents ops aliases) ∷ in_place selected events (k + 1) es) (moved selected events (Commit id mark branch author committer encoding comment parents ops aliases) ∷ in_place selected events k es)
      go true gone more same =
          let kept = kept_target (base id) (base_kept id own.0) in
          let f : ℕ → PlainEvent = λ t. Tag k (tag_name mark) t (Some committer) comment None in
          λ i.
          cond (gone i) [] (Commit id mark branch author committer encoding (takes.comment id parents comment) (parents_after set put_in takes parents) (takes.ops id parents ops) aliases ∷ [])
          ++ (cond (no_tag selected events k i) [] (option_to_list (option_map f (kept i))) ++ more i)
      go false stays more same =
          let its = parents_are parents (ready_parents events parents ops r.0) in
          let same_ops = ops_are id parents ops in
          λ i. cond (stays i) [] (Commit id mark branch author committer encoding comment (its i) (same_ops i) aliases ∷ []) ++ same i
  each_left k (Blob id mark bytes ∷ es) t r own = ap (λ l. Blob id mark bytes ∷ l) (each_left k es t.1 r.1 own.1)
  each_left k (Tag id name target tagger comment mark ∷ es) t r own =
      let to = target_is target (all_true (has_id events) (any.Commit target ∷ []) r.0).0 in
      let rest = each_left k es t.1 r.1 own.1 in
      λ i. cond (no_tag selected events id i) [] (option_to_list (option_map (λ t. Tag id name t tagger comment mark) (to i))) ++ rest i
  each_left k (Reset id branch None ∷ es) t r own =
      let rest = each_left k es t.1 r.1 own.1 in
      λ i. cond (no_reset selected events id i) [] (Reset id branch None ∷ []) ++ rest i
  each_left k (Reset id branch (Some target) ∷ es) t r own =
      let to = target_is target (all_true (has_id events) (any.Commit target ∷ []) r.0).0 in
      let rest = each_left k es t.1 r.1 own.1 in
      λ i. cond (no_reset selected events id i) [] (option_to_list (option_map (λ t. Reset id branch (Some t)) (to i))) ++ rest i
  each_left k (Pass id line ∷ es) t r own =
      let rest = each_left k es t.1 r.1 own.1 in
      λ i. cond (no_pass selected events id i) [] (Pass id line ∷ []) ++ rest i

  -- each event of the history is there
  own_ids : (xs es : List PlainEvent) → events ≡ xs ++ es → AllByRecursion (λ e. has_id events (id_of e) ≡ true) es
  own_ids xs [] is = tt
  own_ids xs (e ∷ es) is = (ap (λ (l : List PlainEvent). has_id l (id_of e)) is ∙ has_own xs es e, own_ids (xs ++ e ∷ []) es (is ∙ sym (append_assoc xs (e ∷ []) es)))

  pub left_is : all_left set put_in takes ≡ in_place selected events next events
  left_is = each_left next events (tagged_each selected events h) (sound_settles events h).complete (own_ids [] events refl)
