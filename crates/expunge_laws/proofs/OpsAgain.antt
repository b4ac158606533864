-- Operations that were replaced are replaced by themselves.
use Rattle.std.proofs.Common.{◌≡◌, Bool, true, false, cond, not, List, [], ◌∷◌, ◌++◌, filter, refl, sym, ap, subst, ◌∙◌, append_assoc, is_some, Result, Ok, Err}
use Rattle.std.specs.Prelude.{◌||◌, ◌&&◌, IfOk, IsSome}
use Rattle.std.specs.List.{AllByRecursion, list_any}
use Rattle.std.proofs.lemmas.Bool.{or_from}
use Rattle.std.proofs.lemmas.List.Folds.{list_any-append}
use Rattle.plain_model.specs.declared.operation.FileOp.{FileOp}
use Rattle.plain_model.specs.declared.operation.FileOp.TheVariants.{Modify, Delete, Copy, Rename, DeleteAll}
use Rattle.plain_model.specs.Histories.{if_ok}
use Rattle.plain_model.specs.Paths.{Bytes, do_conflict, is_at_or_below}
use Rattle.plain_model.specs.Trees.{IsTree, Refusal, Tree, apply, apply_all, at, has, moved, subtree, where_path}
use Rattle.history_laws.proofs.TreeLaws.{apply_tree}
use Rattle.edit_laws.proofs.Lists.{all_filter}
use Rattle.edit_laws.specs.Puts.{puts_of}
use Rattle.squash_laws.specs.Takings.{is_none}
use Rattle.expunge_laws.specs.Replaced.{deletes_of, has_entry, has_matched, is_clear, replaced, replaced_all, restricted, rewritten}
use Rattle.expunge_laws.specs.Untouched.{may_touch, one_touches, touches}
use Rattle.expunge_laws.proofs.Replacing.{clear_parts, replaced_step, subtree_clear}
use Rattle.expunge_laws.proofs.Still.{names_alone, stay_ops}
use Rattle.history_laws.proofs.TreeMaps.{where_comm}
use Rattle.expunge_laws.proofs.TreesLeft.{both_apply}

where_again : (f : Bytes → Bool) (t : Tree) → where_path f (where_path f t) ≡ where_path f t
where_again f [] = refl
where_again f (e ∷ es) = go (f e.0) refl (where_again f es)
  where
    go : (a : Bool) → f e.0 ≡ a → where_path f (where_path f es) ≡ where_path f es → where_path f (where_path f (e ∷ es)) ≡ where_path f (e ∷ es)
    go true x ih = simp x (ap (λ (t : Tree). e ∷ t) ih)
    go false x ih = simp x ih

module _ (matched : Bytes → Bool) where
  -- ---- what is written out has no matched path

  abbrev AllOut : Tree → Type 0
  AllOut t = AllByRecursion (λ e. matched e.0 ≡ false) t

  out_where : (f : Bytes → Bool) (t : Tree) → AllOut t → AllOut (where_path f t)
  out_where f [] a = tt
  out_where f (e ∷ es) a =
      let rest = out_where f es a.1 in
      elim (f e.0) as (λ b. AllOut (cond b (e ∷ where_path f es) (where_path f es))) [ true ↦ (a.0, rest) | false ↦ rest ]

  out_left : (t : Tree) → AllOut (restricted matched t)
  out_left [] = tt
  out_left (e ∷ es) = go (matched e.0) refl (out_left es)
    where
      go : (b : Bool) → matched e.0 ≡ b → AllOut (restricted matched es) → AllOut (cond (not b) (e ∷ restricted matched es) (restricted matched es))
      go true x rest = rest
      go false x rest = (x, rest)

  no_delete : (t : Tree) → AllOut t → list_any (may_touch matched) (deletes_of t) ≡ false
  no_delete [] a = refl
  no_delete (e ∷ es) a = or_from (matched e.0) (list_any (may_touch matched) (deletes_of es)) a.0 (no_delete es a.1)

  no_put : (t : Tree) → AllOut t → list_any (may_touch matched) (puts_of t) ≡ false
  no_put [] a = refl
  no_put (e ∷ es) a = or_from (matched e.0) (list_any (may_touch matched) (puts_of es)) a.0 (no_put es a.1)

  none_rewritten : (old new : Tree) → list_any (may_touch matched) (rewritten matched old new) ≡ false
  none_rewritten old new =
      let goes = where_path (λ p. not (has new p)) (restricted matched old) in
      let comes = filter (λ e. not (has_entry (at old e.0) e.1)) (restricted matched new) in
      list_any-append (may_touch matched) (deletes_of goes) (puts_of comes)
      ∙ or_from (list_any (may_touch matched) (deletes_of goes)) (list_any (may_touch matched) (puts_of comes))
      (no_delete goes (out_where (λ p. not (has new p)) (restricted matched old) (out_left old)))
      (no_put comes (all_filter (λ e. matched e.0 ≡ false) (λ e. not (has_entry (at old e.0) e.1)) (restricted matched new) (out_left new)))

  -- ---- operations that stay

  carried : (ops : List FileOp) (t u : Tree) → apply_all ops t ≡ Ok u → IsSome (if_ok (apply_all ops t))
  carried ops t u h = ap (λ (r : Result Tree Refusal). is_some (if_ok r)) h

  by_name : (ops : List FileOp) (t u : Tree) → list_any (may_touch matched) ops ≡ false → apply_all ops t ≡ Ok u → replaced_all matched ops t ≡ ops
  by_name ops t u n h = stay_ops matched ops t (carried ops t u h) (names_alone matched ops t n)

  stay_one : (op : FileOp) (t u : Tree) → touches matched op t ≡ false → apply_all (op ∷ []) t ≡ Ok u → replaced_all matched (op ∷ []) t ≡ op ∷ []
  stay_one op t u n h = stay_ops matched (op ∷ []) t (carried (op ∷ []) t u h) (go (apply op t))
    where
      go : (r : Result Tree Refusal) → touches matched op t || elim r [ Ok next ↦ one_touches matched [] next | Err why ↦ false ] ≡ false
      go (Ok next) = or_from (touches matched op t) false n refl
      go (Err why) = or_from (touches matched op t) false n refl

  still_clear : (source target : Bytes) (old : Tree) → IsTree old → is_clear matched source target old ≡ true → is_clear matched source target (restricted matched old) ≡ true
  still_clear source target old t clear =
      ap (λ (x : Tree). not (has_matched matched x) && not (has_matched matched (moved source target x))) (subtree_clear matched source old t (clear_parts matched source target old clear).0)
      ∙ clear

  -- ---- one operation

  abbrev Again : FileOp → Tree → Tree → Type 0
  Again op old mid = replaced_all matched (replaced matched op old mid) (restricted matched old) ≡ replaced matched op old mid

  -- a copy or a rename that stays, or is written out
  moved_again : (op : FileOp) (b : Bool) (old mid : Tree) → (b ≡ true → touches matched op (restricted matched old) ≡ false) →
      apply_all (cond b (op ∷ []) (rewritten matched old mid)) (restricted matched old) ≡ Ok (restricted matched mid) →
      replaced_all matched (cond b (op ∷ []) (rewritten matched old mid)) (restricted matched old) ≡ cond b (op ∷ []) (rewritten matched old mid)
  moved_again op true old mid n h = stay_one op (restricted matched old) (restricted matched mid) (n refl) h
  moved_again op false old mid n h = by_name (rewritten matched old mid) (restricted matched old) (restricted matched mid) (none_rewritten old mid) h

  one_again : (op : FileOp) (old mid : Tree) → IsTree old → apply op old ≡ Ok mid → Again op old mid
  one_again (Modify mode content path) old mid t h =
      by_name (replaced matched (Modify mode content path) old mid) (restricted matched old) (restricted matched mid) (go (matched path) refl)
      (replaced_step matched (Modify mode content path) old mid t h)
    where
      go : (b : Bool) → matched path ≡ b →
          list_any (may_touch matched) (cond b (deletes_of (where_path (do_conflict path) (restricted matched old))) (Modify mode content path ∷ [])) ≡ false
      go true x = no_delete (where_path (do_conflict path) (restricted matched old)) (out_where (do_conflict path) (restricted matched old) (out_left old))
      go false x = or_from (matched path) false x refl
  one_again (Delete path) old mid t h = go (matched path && is_none (restricted matched (subtree path old))) refl
    where
      same : restricted matched (subtree path (restricted matched old)) ≡ restricted matched (subtree path old)
      same =
          ap (restricted matched) (where_comm (is_at_or_below path) (λ q. not (matched q)) old)
          ∙ where_again (λ q. not (matched q)) (subtree path old)

      go : (b : Bool) → matched path && is_none (restricted matched (subtree path old)) ≡ b → replaced_all matched (cond b [] (Delete path ∷ [])) (restricted matched old) ≡ cond b [] (Delete path ∷ [])
      go true x = refl
      go false x =
          ap (λ (r : Tree). cond (matched path && is_none r) [] (Delete path ∷ []) ++ []) same
          ∙ ap (λ b. cond b [] (Delete path ∷ []) ++ []) x
  one_again (Copy source target) old mid t h =
      moved_again (Copy source target) (is_clear matched source target old) old mid (λ clear. ap not (still_clear source target old t clear))
      (replaced_step matched (Copy source target) old mid t h)
  one_again (Rename source target) old mid t h =
      moved_again (Rename source target) (is_clear matched source target old) old mid (λ clear. ap not (still_clear source target old t clear))
      (replaced_step matched (Rename source target) old mid t h)
  one_again DeleteAll old mid t h = refl

  -- ---- all of them

  after_more : (xs ys : List FileOp) (t u : Tree) → apply_all xs t ≡ Ok u → replaced_all matched (xs ++ ys) t ≡ replaced_all matched xs t ++ replaced_all matched ys u
  after_more [] ys t u h = let is : t ≡ u = cc in ap (replaced_all matched ys) is
  after_more (op ∷ xs) ys t u h =
      let m = both_apply op xs t u h in
      ap (λ (r : Result Tree Refusal). elim r [ Ok new ↦ replaced matched op t new ++ replaced_all matched (xs ++ ys) new | Err why ↦ [] ]) m.1
      ∙ ap (λ (l : List FileOp). replaced matched op t m.0 ++ l) (after_more xs ys m.0 u m.2)
      ∙ sym (append_assoc (replaced matched op t m.0) (replaced_all matched xs m.0) (replaced_all matched ys u))
      ∙ sym (ap (λ (r : Result Tree Refusal). elim r [ Ok new ↦ replaced matched op t new ++ replaced_all matched xs new | Err why ↦ [] ] ++ replaced_all matched ys u) m.1)

  pub all_again : (ops : List FileOp) (old new : Tree) → IsTree old → apply_all ops old ≡ Ok new →
      replaced_all matched (replaced_all matched ops old) (restricted matched old) ≡ replaced_all matched ops old
  all_again [] old new t h = refl
  all_again (op ∷ ops) old new t h =
      let m = both_apply op ops old new h in
      let mid_tree = subst (λ (r : Result Tree Refusal). IfOk r IsTree) m.1 (apply_tree op old t) in
      let is : replaced_all matched (op ∷ ops) old ≡ replaced matched op old m.0 ++ replaced_all matched ops m.0 =
      ap (λ (r : Result Tree Refusal). elim r [ Ok x ↦ replaced matched op old x ++ replaced_all matched ops x | Err why ↦ [] ]) m.1 in
      ap (λ (l : List FileOp). replaced_all matched l (restricted matched old)) is
      ∙ after_more (replaced matched op old m.0) (replaced_all matched ops m.0) (restricted matched old) (restricted matched m.0) (replaced_step matched op old m.0 t m.1)
      ∙ (λ i. one_again op old m.0 t m.1 i ++ all_again ops m.0 new mid_tree m.2 i)
      ∙ sym is
