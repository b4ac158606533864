-- What is true of the operations of a history is true of those in their place.
use Rattle.std.proofs.Common.{◌≡◌, Bool, true, false, cond, not, List, [], ◌∷◌, ◌++◌, length, drop, filter, refl, ap, subst, Option, Some, None, Result, Ok, Err, nat_lt}
use Rattle.std.specs.Prelude.{◌&&◌, unwrap_or}
use Rattle.std.specs.List.{AllByRecursion}
use Rattle.std.specs.Ordering.{nat_cmp, is_eq}
use Rattle.std.specs.declared.cmp.Ordering.{Ordering}
use Rattle.std.specs.declared.cmp.Ordering.TheVariants.{Less, Equal, Greater}
use Rattle.std.specs.Cmp.Lexicographic.{slice_cmp}
use Rattle.std.specs.FinMap.Entries.{by_order}
use Rattle.std.proofs.lemmas.Bool.{or_parts}
use Rattle.plain_model.specs.declared.limit.TheConstants.{MAX_PATHS, MAX_PATH_BYTES}
use Rattle.plain_model.specs.declared.operation.Mode.{Mode}
use Rattle.plain_model.specs.declared.operation.Content.{Content}
use Rattle.plain_model.specs.declared.operation.Entry.{Entry}
use Rattle.plain_model.specs.declared.operation.FileOp.{FileOp}
use Rattle.plain_model.specs.declared.operation.FileOp.TheVariants.{Modify, Delete, Copy, Rename, DeleteAll}
use Rattle.plain_model.specs.Histories.{folded, if_ok}
use Rattle.plain_model.specs.Paths.{Bytes, do_conflict, is_at_or_below, is_in_the_way}
use Rattle.plain_model.specs.Trees.{Refusal, Tree, apply, apply_all, at, cleared_for, has, has_long_path, moved, placed, put, put_all, subtree, where_path, within_paths, without, ◌>>=◌}
use Rattle.history_laws.proofs.TreeLaws.{same_path}
use Rattle.history_laws.proofs.Lists.{all_join}
use Rattle.edit_laws.proofs.Lists.{all_filter}
use Rattle.edit_laws.specs.Puts.{puts_of}
use Rattle.squash_laws.specs.Takings.{is_none}
use Rattle.expunge_laws.specs.Replaced.{deletes_of, is_clear, replaced, replaced_all, restricted, rewritten, has_entry}

-- the moved path isn't too long
abbrev pub IsShort : Bytes → Bytes → Bytes → Type 0
IsShort source target q = nat_lt MAX_PATH_BYTES (length (target ++ drop (length source) q)) ≡ false

-- what is true of an operation that puts an entry to a path is true of one that deletes the path, and stays true where
-- a copy or a rename moves the entry
pub record Carries (Q : FileOp → Type 0) : Type 0 where
  pub deleting : (mode : Mode) (content : Content) (p : Bytes) → Q (Modify mode content p) → Q (Delete p)
  pub copying : (source target : Bytes) → Q (Copy source target) → (q : Bytes) → is_at_or_below source q ≡ true → IsShort source target q → (mode : Mode) (content : Content) → Q (Modify mode content q) → Q (Modify mode content (target ++ drop (length source) q))
  pub renaming : (source target : Bytes) → Q (Rename source target) → (q : Bytes) → is_at_or_below source q ≡ true → IsShort source target q → (mode : Mode) (content : Content) → Q (Modify mode content q) → Q (Modify mode content (target ++ drop (length source) q))

module _ (Q : FileOp → Type 0) where
  -- the entry may be put to its path
  abbrev pub MayPut : Bytes × Entry → Type 0
  MayPut e = Q (Modify e.1.mode e.1.content e.0)

  abbrev pub AllPut : Tree → Type 0
  AllPut t = AllByRecursion MayPut t

  abbrev pub IfTree : Option Tree → Type 0
  IfTree None = Unit {0}
  IfTree (Some t) = AllPut t

  -- ---- trees

  pub all_where : (test : Bytes → Bool) (t : Tree) → AllPut t → AllPut (where_path test t)
  all_where test [] a = tt
  all_where test (e ∷ es) a =
      let rest = all_where test es a.1 in
      elim (test e.0) as (λ b. AllPut (cond b (e ∷ where_path test es) (where_path test es))) [ true ↦ (a.0, rest) | false ↦ rest ]

  all_put : (p : Bytes) (v : Entry) (t : Tree) → MayPut (p, v) → AllPut t → AllPut (put p v t)
  all_put p v [] h a = (h, tt)
  all_put p v (e ∷ es) h a = go (slice_cmp nat_cmp p e.0) refl (all_put p v es h a.1)
    where
      go : (r : Ordering) → slice_cmp nat_cmp p e.0 ≡ r → AllPut (put p v es) → AllPut (by_order r ((p, v) ∷ e ∷ es) ((e.0, v) ∷ es) (e ∷ put p v es))
      go Less is rest = (h, a)
      go Equal is rest = (subst (λ (q : Bytes). Q (Modify v.mode v.content q)) (same_path p e.0 (ap is_eq is)) h, a.1)
      go Greater is rest = (a.0, rest)

  pub all_put_all : (es base : Tree) → AllPut es → AllPut base → AllPut (put_all es base)
  all_put_all [] base a b = b
  all_put_all (e ∷ es) base a b = all_put e.0 e.1 (put_all es base) a.0 (all_put_all es base a.1 b)

  abbrev IsBelow : Bytes → Bytes × Entry → Type 0
  IsBelow source e = is_at_or_below source e.0 ≡ true

  all_below : (source : Bytes) (t : Tree) → AllByRecursion (IsBelow source) (subtree source t)
  all_below source [] = tt
  all_below source (e ∷ es) = go (is_at_or_below source e.0) refl (all_below source es)
    where
      go : (b : Bool) → is_at_or_below source e.0 ≡ b → AllByRecursion (IsBelow source) (subtree source es) → AllByRecursion (IsBelow source) (cond b (e ∷ subtree source es) (subtree source es))
      go true is rest = (is, rest)
      go false is rest = rest

  -- an entry may be put where it is moved
  abbrev Moves : Bytes → Bytes → Type 0
  Moves source target = (q : Bytes) → is_at_or_below source q ≡ true → IsShort source target q → (mode : Mode) (content : Content) → Q (Modify mode content q) → Q (Modify mode content (target ++ drop (length source) q))

  all_moved : (source target : Bytes) → Moves source target → (es : Tree) → AllByRecursion (IsBelow source) es → has_long_path (moved source target es) ≡ false → AllPut es → AllPut (moved source target es)
  all_moved source target m [] b s a = tt
  all_moved source target m (e ∷ es) b s a =
      let parts = or_parts (nat_lt MAX_PATH_BYTES (length (target ++ drop (length source) e.0))) (has_long_path (moved source target es)) s in
      (m e.0 b.0 parts.0 e.1.mode e.1.content a.0, all_moved source target m es b.1 parts.1 a.1)

  abbrev IfMade : Result Tree Refusal → Type 0
  IfMade (Ok t) = AllPut t
  IfMade (Err why) = Unit {0}

  made_within : (t : Tree) → AllPut t → IfMade (within_paths t)
  made_within t a = elim (nat_lt MAX_PATHS (length t)) as (λ b. IfMade (cond b (Err Refusal.Paths) (Ok t))) [ true ↦ tt | false ↦ a ]

  made_placed : (source target : Bytes) → Moves source target → (taken base : Tree) → AllByRecursion (IsBelow source) taken → AllPut taken → AllPut base → IfMade (placed source target taken base)
  made_placed source target m [] base b a o = tt
  made_placed source target m (e ∷ taken) base b a o = go (has_long_path (moved source target (e ∷ taken))) refl
    where
      put_in : Tree
      put_in = moved source target (e ∷ taken)

      go : (x : Bool) → has_long_path (moved source target (e ∷ taken)) ≡ x → IfMade (cond x (Err Refusal.PathBytes) (within_paths (put_all (moved source target (e ∷ taken)) (cleared_for target base))))
      go true is = tt
      go false is =
          made_within (put_all (moved source target (e ∷ taken)) (cleared_for target base))
          (all_put_all (moved source target (e ∷ taken)) (cleared_for target base) (all_moved source target m (e ∷ taken) b is a) (all_where (λ q. not (is_in_the_way target q)) base o))

  module _ (carries : Carries Q) where
    made : (op : FileOp) (t : Tree) → Q op → AllPut t → IfMade (apply op t)
    made (Modify mode content path) t h a =
        let entry : Entry = record { mode = mode; content = content } in
        made_within (put path entry (cleared_for path t)) (all_put path entry (cleared_for path t) h (all_where (λ q. not (is_in_the_way path q)) t a))
    made (Delete path) t h a = all_where (λ q. not (is_at_or_below path q)) t a
    made (Copy source target) t h a = made_placed source target (carries.copying source target h) (subtree source t) t (all_below source t) (all_where (is_at_or_below source) t a) a
    made (Rename source target) t h a =
        made_placed source target (carries.renaming source target h) (subtree source t) (without source t) (all_below source t) (all_where (is_at_or_below source) t a) (all_where (λ q. not (is_at_or_below source q)) t a)
    made DeleteAll t h a = tt

    made_all : (ops : List FileOp) (t : Tree) → AllByRecursion Q ops → AllPut t → IfMade (apply_all ops t)
    made_all [] t h a = a
    made_all (op ∷ ops) t h a = go (apply op t) (made op t h.0 a) (λ u b. made_all ops u h.1 b)
      where
        go : (r : Result Tree Refusal) → IfMade r → ((u : Tree) → AllPut u → IfMade (apply_all ops u)) → IfMade (r >>= apply_all ops)
        go (Ok u) b f = f u b
        go (Err why) b f = tt

    -- what is folded
    pub folded_put : (ops : List FileOp) (o : Option Tree) → AllByRecursion Q ops → IfTree o → IfTree (folded ops o)
    folded_put ops None h a = tt
    folded_put ops (Some t) h a = go (apply_all ops t) (made_all ops t h a)
      where
        go : (r : Result Tree Refusal) → IfMade r → IfTree (if_ok r)
        go (Ok u) b = b
        go (Err why) b = tt

    -- ---- operations

    pub all_deletes : (t : Tree) → AllPut t → AllByRecursion Q (deletes_of t)
    all_deletes [] a = tt
    all_deletes (e ∷ es) a = (carries.deleting e.1.mode e.1.content e.0 a.0, all_deletes es a.1)

    pub all_puts : (t : Tree) → AllPut t → AllByRecursion Q (puts_of t)
    all_puts [] a = tt
    all_puts (e ∷ es) a = (a.0, all_puts es a.1)

    module _ (matched : Bytes → Bool) where
      all_rewritten : (old new : Tree) → AllPut old → AllPut new → AllByRecursion Q (rewritten matched old new)
      all_rewritten old new a b =
          all_join Q (deletes_of (where_path (λ p. not (has new p)) (restricted matched old))) (puts_of (filter (λ e. not (has_entry (at old e.0) e.1)) (restricted matched new)))
          (all_deletes (where_path (λ p. not (has new p)) (restricted matched old)) (all_where (λ p. not (has new p)) (restricted matched old) (all_where (λ p. not (matched p)) old a)))
          (all_puts (filter (λ e. not (has_entry (at old e.0) e.1)) (restricted matched new))
          (all_filter MayPut (λ e. not (has_entry (at old e.0) e.1)) (restricted matched new) (all_where (λ p. not (matched p)) new b)))

      either : (b : Bool) (xs ys : List FileOp) → AllByRecursion Q xs → AllByRecursion Q ys → AllByRecursion Q (cond b xs ys)
      either true xs ys a c = a
      either false xs ys a c = c

      all_replaced : (op : FileOp) (old new : Tree) → Q op → AllPut old → AllPut new → AllByRecursion Q (replaced matched op old new)
      all_replaced (Modify mode content path) old new h a b =
          let gone = where_path (do_conflict path) (restricted matched old) in
          either (matched path) (deletes_of gone) (Modify mode content path ∷ []) (all_deletes gone (all_where (do_conflict path) (restricted matched old) (all_where (λ p. not (matched p)) old a))) (h, tt)
      all_replaced (Delete path) old new h a b = either (matched path && is_none (restricted matched (subtree path old))) [] (Delete path ∷ []) tt (h, tt)
      all_replaced (Copy source target) old new h a b = either (is_clear matched source target old) (Copy source target ∷ []) (rewritten matched old new) (h, tt) (all_rewritten old new a b)
      all_replaced (Rename source target) old new h a b = either (is_clear matched source target old) (Rename source target ∷ []) (rewritten matched old new) (h, tt) (all_rewritten old new a b)
      all_replaced DeleteAll old new h a b = (h, tt)

      pub replaced_ops_all : (ops : List FileOp) (old : Tree) → AllByRecursion Q ops → AllPut old → AllByRecursion Q (replaced_all matched ops old)
      replaced_ops_all [] old h a = tt
      replaced_ops_all (op ∷ ops) old h a = go (apply op old) (made op old h.0 a) (λ new b. replaced_ops_all ops new h.1 b)
        where
          go : (r : Result Tree Refusal) → IfMade r → ((new : Tree) → AllPut new → AllByRecursion Q (replaced_all matched ops new)) → AllByRecursion Q (elim r [ Ok new ↦ replaced matched op old new ++ replaced_all matched ops new | Err why ↦ [] ])
          go (Ok new) b f = all_join Q (replaced matched op old new) (replaced_all matched ops new) (all_replaced op old new h.0 a b) (f new b)
          go (Err why) b f = tt

      -- those of a commit, where it begins with a tree or with none
      pub all_begun : (ops : List FileOp) (o : Option Tree) → AllByRecursion Q ops → IfTree o → AllByRecursion Q (replaced_all matched ops (unwrap_or o []))
      all_begun ops None h a = replaced_ops_all ops [] h tt
      all_begun ops (Some t) h a = replaced_ops_all ops t h a
