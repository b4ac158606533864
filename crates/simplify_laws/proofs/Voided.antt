-- Operations that later ones make void can be dropped: what is left leaves the same tree, and can be refused for the
-- number of paths alone.
use Rattle.std.proofs.Common.{◌≡◌, ℕ, ◌+◌, Bool, true, false, cond, not, List, [], ◌∷◌, length, refl, sym, ap, subst, ◌∙◌, inl, inr, ◌⊎◌, true≢false, Option, Some, None, Result, Ok, Err, bytes_eq, nat_lt}
use Rattle.std.specs.Prelude.{◌||◌, ◌&&◌, if◌then◌else◌}
use Rattle.std.specs.List.{list_any}
use Rattle.std.specs.Ordering.{eq_by_cmp}
use Rattle.std.proofs.lemmas.Bool.{cases_Bool, or_cases, or_left, or_right, or_from, cond-true, cond-false}
use Rattle.std.proofs.lemmas.Slice.Eq.{bytes_eq-Decides}
use Rattle.plain_model.specs.declared.limit.TheConstants.{MAX_PATHS}
use Rattle.plain_model.specs.declared.operation.Entry.{Entry}
use Rattle.plain_model.specs.declared.operation.FileOp.{FileOp}
use Rattle.plain_model.specs.declared.operation.FileOp.TheVariants.{Modify, Delete, Copy, Rename, DeleteAll}
use Rattle.plain_model.specs.Paths.{Bytes, do_conflict, is_at_or_below, is_below, is_in_the_way}
use Rattle.plain_model.specs.Trees.{Refusal, Tree, apply, apply_all, at, cleared_for, has_long_path, moved, placed, put, put_all, subtree, where_path, within_paths, without, ◌>>=◌}
use Rattle.plain_model.proofs.Words.{bytes_eq_same}
use Rattle.history_laws.proofs.TreeLaws.{at_put, at_where, by_bytes, same_path}
use Rattle.history_laws.proofs.TreeMaps.{IsOrdered, ordered_put, ordered_put_all, ordered_where, same_tree, where_comm}
use Rattle.edit_laws.specs.Checking.{first_refused, unless_refused}
use Rattle.simplify_laws.specs.Simplify.{deletes_at, is_deleteall, is_void, puts_at, simpler, up_to_a_copy}

-- ---- filters and puts

where_twice : (f g : Bytes → Bool) (t : Tree) → where_path f (where_path g t) ≡ where_path (λ q. f q && g q) t
where_twice f g [] = refl
where_twice f g (e ∷ es) =
    let rest = where_twice f g es in
    elim (g e.0) as (λ b. where_path f (cond b (e ∷ where_path g es) (where_path g es)) ≡ cond (f e.0 && b) (e ∷ where_path (λ q. f q && g q) es) (where_path (λ q. f q && g q) es)) [
      | true ↦ elim (f e.0) as (λ b. cond b (e ∷ where_path f (where_path g es)) (where_path f (where_path g es)) ≡ cond (b && true) (e ∷ where_path (λ q. f q && g q) es) (where_path (λ q. f q && g q) es)) [ true ↦ ap (λ (l : Tree). e ∷ l) rest | false ↦ rest ]
      | false ↦ rest ∙ elim (f e.0) as (λ b. where_path (λ q. f q && g q) es ≡ cond (b && false) (e ∷ where_path (λ q. f q && g q) es) (where_path (λ q. f q && g q) es)) [ true ↦ refl | false ↦ refl ]
    ]

where_alike : (f g : Bytes → Bool) → ((q : Bytes) → f q ≡ g q) → (t : Tree) → where_path f t ≡ where_path g t
where_alike f g h [] = refl
where_alike f g h (e ∷ es) = λ i. cond (h e.0 i) (e ∷ where_alike f g h es i) (where_alike f g h es i)

-- what passes the second test passes the first
where_more : (f g : Bytes → Bool) → ((q : Bytes) → f q && g q ≡ f q) → (t : Tree) → where_path f (where_path g t) ≡ where_path f t
where_more f g h t = where_twice f g t ∙ where_alike (λ q. f q && g q) f h t

-- a put that a test lets through, or doesn't
where_put : (f : Bytes → Bool) (p : Bytes) (e : Entry) (t : Tree) → IsOrdered t → where_path f (put p e t) ≡ cond (f p) (put p e (where_path f t)) (where_path f t)
where_put f p e t h = go (f p) refl
  where
    here : (b : Bool) → f p ≡ b → (q : Bytes) → eq_by_cmp by_bytes q p ≡ true → f q ≡ b
    here b is q same = ap f (same_path q p same) ∙ is

    passed : (b : Bool) → f p ≡ b → (q : Bytes) → cond (f q) (cond (eq_by_cmp by_bytes q p) (Some e) (at t q)) None ≡ cond b (cond (eq_by_cmp by_bytes q p) (Some e) (cond (f q) (at t q) None)) (cond (f q) (at t q) None)
    passed b is q = each b (eq_by_cmp by_bytes q p) refl (here b is q)
      where
        each : (b same : Bool) → eq_by_cmp by_bytes q p ≡ same → (eq_by_cmp by_bytes q p ≡ true → f q ≡ b)
            → cond (f q) (cond (eq_by_cmp by_bytes q p) (Some e) (at t q)) None ≡ cond b (cond (eq_by_cmp by_bytes q p) (Some e) (cond (f q) (at t q) None)) (cond (f q) (at t q) None)
        each true true s k = (λ i. cond (k s i) (cond (s i) (Some e) (at t q)) None) ∙ sym (ap (λ x. cond x (Some e) (cond (f q) (at t q) None)) s)
        each false true s k = (λ i. cond (k s i) (cond (s i) (Some e) (at t q)) None) ∙ sym (ap (λ x. cond x (at t q) None) (k s))
        each true false s k = ap (λ x. cond (f q) (cond x (Some e) (at t q)) None) s ∙ sym (ap (λ x. cond x (Some e) (cond (f q) (at t q) None)) s)
        each false false s k = ap (λ x. cond (f q) (cond x (Some e) (at t q)) None) s

    go : (b : Bool) → f p ≡ b → where_path f (put p e t) ≡ cond (f p) (put p e (where_path f t)) (where_path f t)
    go true is =
        same_tree (where_path f (put p e t)) (put p e (where_path f t)) (ordered_where f (put p e t) (ordered_put p e t h)) (ordered_put p e (where_path f t) (ordered_where f t h))
        (λ q. at_where f q (put p e t) ∙ ap (λ (o : Option Entry). cond (f q) o None) (at_put p q e t) ∙ passed true is q
        ∙ sym (at_put p q e (where_path f t) ∙ ap (λ (o : Option Entry). cond (eq_by_cmp by_bytes q p) (Some e) o) (at_where f q t)))
        ∙ sym (cond-true (f p) (put p e (where_path f t)) (where_path f t) is)
    go false is =
        same_tree (where_path f (put p e t)) (where_path f t) (ordered_where f (put p e t) (ordered_put p e t h)) (ordered_where f t h)
        (λ q. at_where f q (put p e t) ∙ ap (λ (o : Option Entry). cond (f q) o None) (at_put p q e t) ∙ passed false is q ∙ sym (at_where f q t))
        ∙ sym (cond-false (f p) (put p e (where_path f t)) (where_path f t) is)

-- ---- operations with no limit of paths

abbrev pub put_moved_in : Bytes → Bytes → Tree → Tree → Option Tree
put_moved_in source target [] base = None
put_moved_in source target (e ∷ taken) base = if has_long_path (moved source target (e ∷ taken)) then None else Some (put_all (moved source target (e ∷ taken)) (cleared_for target base))

abbrev pub free : FileOp → Tree → Option Tree
free (Modify mode content path) t = Some (put path (record { mode = mode; content = content }) (cleared_for path t))
free (Delete path) t = Some (without path t)
free (Copy source target) t = put_moved_in source target (subtree source t) t
free (Rename source target) t = put_moved_in source target (subtree source t) (without source t)
free DeleteAll t = Some []

abbrev pub and_on : Option Tree → (Tree → Option Tree) → Option Tree
and_on None f = None
and_on (Some t) f = f t

abbrev pub free_all : List FileOp → Tree → Option Tree
free_all [] t = Some t
free_all (op ∷ ops) t = and_on (free op t) (free_all ops)

within : (t u : Tree) → within_paths t ≡ Ok u → t ≡ u
within t u h = go (nat_lt MAX_PATHS (length t)) h
  where
    go : (b : Bool) → ◌≡◌ {A = Result Tree Refusal} (cond b (Err Refusal.Paths) (Ok t)) (Ok u) → t ≡ u
    go true h = absurd cc
    go false h = cc

placed_free : (source target : Bytes) (taken base u : Tree) → placed source target taken base ≡ Ok u → put_moved_in source target taken base ≡ Some u
placed_free source target [] base u h = absurd cc
placed_free source target (e ∷ taken) base u h = go (has_long_path (moved source target (e ∷ taken))) h
  where
    go : (b : Bool) → ◌≡◌ {A = Result Tree Refusal} (cond b (Err Refusal.PathBytes) (within_paths (put_all (moved source target (e ∷ taken)) (cleared_for target base)))) (Ok u)
        → (if b then None else Some (put_all (moved source target (e ∷ taken)) (cleared_for target base))) ≡ Some u
    go true h = absurd cc
    go false h = ap Some (within (put_all (moved source target (e ∷ taken)) (cleared_for target base)) u h)

-- what isn't refused is the same without the limit
apply_free : (op : FileOp) (t u : Tree) → apply op t ≡ Ok u → free op t ≡ Some u
apply_free (Modify mode content path) t u h = ap Some (within (put path (record { mode = mode; content = content }) (cleared_for path t)) u h)
apply_free (Delete path) t u h = let is : without path t ≡ u = cc in ap Some is
apply_free (Copy source target) t u h = placed_free source target (subtree source t) t u h
apply_free (Rename source target) t u h = placed_free source target (subtree source t) (without source t) u h
apply_free DeleteAll t u h = let is : ◌≡◌ {A = Tree} [] u = cc in ap Some is

pub apply_all_free : (ops : List FileOp) (t u : Tree) → apply_all ops t ≡ Ok u → free_all ops t ≡ Some u
apply_all_free [] t u h = let is : t ≡ u = cc in ap Some is
apply_all_free (op ∷ ops) t u h = go (apply op t) refl h (λ s x. apply_all_free ops s u x)
  where
    go : (r : Result Tree Refusal) → apply op t ≡ r → (r >>= apply_all ops) ≡ Ok u → ((s : Tree) → apply_all ops s ≡ Ok u → free_all ops s ≡ Some u) → free_all (op ∷ ops) t ≡ Some u
    go (Ok s) is h f = ap (λ (o : Option Tree). and_on o (free_all ops)) (apply_free op t s is) ∙ f s h
    go (Err why) is h f = absurd cc

-- ---- trees that are alike under a test

module _ (test : Bytes → Bool) (ends : FileOp → Bool)
    (ended : (op : FileOp) (s t : Tree) → ends op ≡ true → where_path test s ≡ where_path test t → free op s ≡ free op t)
  where
    alike_put : (q : Bytes) (e : Entry) (s t : Tree) → IsOrdered s → IsOrdered t → where_path test s ≡ where_path test t → where_path test (put q e (cleared_for q s)) ≡ where_path test (put q e (cleared_for q t))
    alike_put q e s t a b h =
        let clear = λ (r : Bytes). not (is_in_the_way q r) in
        let same : where_path test (cleared_for q s) ≡ where_path test (cleared_for q t) = where_comm test clear s ∙ ap (where_path clear) h ∙ sym (where_comm test clear t) in
        where_put test q e (cleared_for q s) (ordered_where clear s a)
        ∙ (λ i. cond (test q) (put q e (same i)) (same i))
        ∙ sym (where_put test q e (cleared_for q t) (ordered_where clear t b))

    alike_all : (ops : List FileOp) (s t : Tree) → list_any ends (up_to_a_copy ops) ≡ true → IsOrdered s → IsOrdered t → where_path test s ≡ where_path test t → free_all ops s ≡ free_all ops t
    alike_all [] s t some a b h = absurd (true≢false (sym some))
    alike_all (Copy source target ∷ ops) s t some a b h = absurd (true≢false (sym some))
    alike_all (Rename source target ∷ ops) s t some a b h = absurd (true≢false (sym some))
    alike_all (DeleteAll ∷ ops) s t some a b h = refl
    alike_all (Modify mode content path ∷ ops) s t some a b h =
        elim (or_cases (ends (Modify mode content path)) (list_any ends (up_to_a_copy ops)) some) [
          | inl it ↦ ap (λ (o : Option Tree). and_on o (free_all ops)) (ended (Modify mode content path) s t it h)
          | inr later ↦
              let e : Entry = record { mode = mode; content = content } in
              let clear = λ (r : Bytes). not (is_in_the_way path r) in
              alike_all ops (put path e (cleared_for path s)) (put path e (cleared_for path t)) later
              (ordered_put path e (cleared_for path s) (ordered_where clear s a)) (ordered_put path e (cleared_for path t) (ordered_where clear t b)) (alike_put path e s t a b h)
        ]
    alike_all (Delete path ∷ ops) s t some a b h =
        elim (or_cases (ends (Delete path)) (list_any ends (up_to_a_copy ops)) some) [
          | inl it ↦ ap (λ (o : Option Tree). and_on o (free_all ops)) (ended (Delete path) s t it h)
          | inr later ↦
              let kept = λ (r : Bytes). not (is_at_or_below path r) in
              alike_all ops (without path s) (without path t) later (ordered_where kept s a) (ordered_where kept t b)
              (where_comm test kept s ∙ ap (where_path kept) h ∙ sym (where_comm test kept t))
        ]

-- ---- a put or a deletion of the same path

path_is : (p q : Bytes) → bytes_eq p q ≡ true → p ≡ q
path_is p q h = (bytes_eq-Decides p q).0 h

put_ends : (p : Bytes) (op : FileOp) (s t : Tree) → puts_at p op ≡ true → where_path (λ r. not (is_in_the_way p r)) s ≡ where_path (λ r. not (is_in_the_way p r)) t → free op s ≡ free op t
put_ends p (Modify mode content path) s t it h =
    let is = path_is p path it in
    let same : cleared_for path s ≡ cleared_for path t = subst (λ (x : Bytes). cleared_for x s ≡ cleared_for x t) is h in
    ap (λ (x : Tree). Some (put path (record { mode = mode; content = content }) x)) same
put_ends p (Delete path) s t it h = absurd (true≢false (sym it))
put_ends p (Copy source target) s t it h = absurd (true≢false (sym it))
put_ends p (Rename source target) s t it h = absurd (true≢false (sym it))
put_ends p DeleteAll s t it h = absurd (true≢false (sym it))

delete_ends : (p : Bytes) (op : FileOp) (s t : Tree) → deletes_at p op ≡ true → where_path (λ r. not (is_at_or_below p r)) s ≡ where_path (λ r. not (is_at_or_below p r)) t → free op s ≡ free op t
delete_ends p (Delete path) s t it h = let is = path_is p path it in ap Some (subst (λ (x : Bytes). without x s ≡ without x t) is h)
delete_ends p (Modify mode content path) s t it h = absurd (true≢false (sym it))
delete_ends p (Copy source target) s t it h = absurd (true≢false (sym it))
delete_ends p (Rename source target) s t it h = absurd (true≢false (sym it))
delete_ends p DeleteAll s t it h = absurd (true≢false (sym it))

-- what a put leaves, but for what was in its way
put_leaves : (p : Bytes) (e : Entry) (t : Tree) → IsOrdered t → cleared_for p (put p e (cleared_for p t)) ≡ cleared_for p t
put_leaves p e t h =
    let clear = λ (r : Bytes). not (is_in_the_way p r) in
    where_put clear p e (cleared_for p t) (ordered_where clear t h)
    ∙ cond-false (clear p) (put p e (where_path clear (cleared_for p t))) (where_path clear (cleared_for p t)) (ap not (or_left (bytes_eq p p) (do_conflict p p) (bytes_eq_same p)))
    ∙ where_more clear clear (λ q. twice (clear q)) t
  where
    twice : (b : Bool) → b && b ≡ b
    twice true = refl
    twice false = refl

-- what a deletion leaves, but for what is in the way of a put
delete_leaves : (p : Bytes) (t : Tree) → cleared_for p (without p t) ≡ cleared_for p t
delete_leaves p t = where_more (λ r. not (is_in_the_way p r)) (λ r. not (is_at_or_below p r)) (λ q. each (bytes_eq p q) (is_below p q) (is_below q p)) t
  where
    each : (a b c : Bool) → not (a || (b || c)) && not (a || b) ≡ not (a || (b || c))
    each true b c = refl
    each false true c = refl
    each false false true = refl
    each false false false = refl

delete_twice : (p : Bytes) (t : Tree) → without p (without p t) ≡ without p t
delete_twice p t = where_more (λ r. not (is_at_or_below p r)) (λ r. not (is_at_or_below p r)) (λ q. twice (not (is_at_or_below p q))) t
  where
    twice : (b : Bool) → b && b ≡ b
    twice true = refl
    twice false = refl

-- ---- what is left of a list

-- a `deleteall` makes all before it void
pub starts_anew : (ops : List FileOp) → list_any is_deleteall ops ≡ true → (rest : List FileOp) × (simpler ops ≡ DeleteAll ∷ rest)
starts_anew [] h = absurd (true≢false (sym h))
starts_anew (op ∷ ops) h =
    elim (cases_Bool (list_any is_deleteall ops)) [
      | inl later ↦
          let rest = starts_anew ops later in
          (rest.0, cond-true (is_void op ops) (simpler ops) (op ∷ simpler ops) (all_void op ops later) ∙ rest.1)
      | inr none ↦ elim (or_cases (is_deleteall op) (list_any is_deleteall ops) h) [
        | inl it ↦ last op it none
        | inr later ↦ absurd (true≢false (sym later ∙ none))
      ]
    ]
  where
    all_void : (op : FileOp) (ops : List FileOp) → list_any is_deleteall ops ≡ true → is_void op ops ≡ true
    all_void (Modify mode content path) ops h = or_left (list_any is_deleteall ops) (list_any (puts_at path) (up_to_a_copy ops)) h
    all_void (Delete path) ops h =
        or_left (list_any is_deleteall ops || list_any (puts_at path) (up_to_a_copy ops)) (list_any (deletes_at path) (up_to_a_copy ops))
        (or_left (list_any is_deleteall ops) (list_any (puts_at path) (up_to_a_copy ops)) h)
    all_void (Copy source target) ops h = h
    all_void (Rename source target) ops h = h
    all_void DeleteAll ops h = h

    last : (op : FileOp) → is_deleteall op ≡ true → list_any is_deleteall ops ≡ false → (rest : List FileOp) × (simpler (op ∷ ops) ≡ DeleteAll ∷ rest)
    last DeleteAll it none = (simpler ops, cond-false (list_any is_deleteall ops) (simpler ops) (DeleteAll ∷ simpler ops) none)
    last (Modify mode content path) it none = absurd (true≢false (sym it))
    last (Delete path) it none = absurd (true≢false (sym it))
    last (Copy source target) it none = absurd (true≢false (sym it))
    last (Rename source target) it none = absurd (true≢false (sym it))

-- with or without an operation that is neither a copy nor a rename
kept_any : (f : FileOp → Bool) (b : Bool) (op : FileOp) (l : List FileOp) → (up_to_a_copy (op ∷ l) ≡ op ∷ up_to_a_copy l) → list_any f (up_to_a_copy l) ≡ true → list_any f (up_to_a_copy (if b then l else op ∷ l)) ≡ true
kept_any f true op l e h = h
kept_any f false op l e h = ap (list_any f) e ∙ or_right (f op) (list_any f (up_to_a_copy l)) h

-- a put that is there is left, or a later one of the same path
pub put_left : (p : Bytes) (ops : List FileOp) → list_any is_deleteall ops ≡ false → list_any (puts_at p) (up_to_a_copy ops) ≡ true → list_any (puts_at p) (up_to_a_copy (simpler ops)) ≡ true
put_left p [] none h = absurd (true≢false (sym h))
put_left p (Copy source target ∷ ops) none h = absurd (true≢false (sym h))
put_left p (Rename source target ∷ ops) none h = absurd (true≢false (sym h))
put_left p (DeleteAll ∷ ops) none h = absurd (true≢false none)
put_left p (Delete path ∷ ops) none h = kept_any (puts_at p) (is_void (Delete path) ops) (Delete path) (simpler ops) refl (put_left p ops none h)
put_left p (Modify mode content path ∷ ops) none h =
    let op : FileOp = Modify mode content path in
    elim (cases_Bool (list_any (puts_at p) (up_to_a_copy ops))) [
      | inl later ↦ kept_any (puts_at p) (is_void op ops) op (simpler ops) refl (put_left p ops none later)
      | inr not_later ↦ elim (or_cases (bytes_eq p path) (list_any (puts_at p) (up_to_a_copy ops)) h) [
        | inl it ↦
            let is = path_is p path it in
            let kept : is_void op ops ≡ false = or_from (list_any is_deleteall ops) (list_any (puts_at path) (up_to_a_copy ops)) none (subst (λ (x : Bytes). list_any (puts_at x) (up_to_a_copy ops) ≡ false) is not_later) in
            ap (λ b. list_any (puts_at p) (up_to_a_copy (if b then simpler ops else op ∷ simpler ops))) kept ∙ or_left (bytes_eq p path) (list_any (puts_at p) (up_to_a_copy (simpler ops))) it
        | inr later ↦ absurd (true≢false (sym later ∙ not_later))
      ]
    ]

-- a deletion that is there is left, or a later one or a put of the same path
pub delete_left : (p : Bytes) (ops : List FileOp) → list_any is_deleteall ops ≡ false → list_any (deletes_at p) (up_to_a_copy ops) ≡ true
    → (list_any (puts_at p) (up_to_a_copy (simpler ops)) ≡ true) ⊎ (list_any (deletes_at p) (up_to_a_copy (simpler ops)) ≡ true)
delete_left p [] none h = absurd (true≢false (sym h))
delete_left p (Copy source target ∷ ops) none h = absurd (true≢false (sym h))
delete_left p (Rename source target ∷ ops) none h = absurd (true≢false (sym h))
delete_left p (DeleteAll ∷ ops) none h = absurd (true≢false none)
delete_left p (Modify mode content path ∷ ops) none h =
    let op : FileOp = Modify mode content path in
    elim (delete_left p ops none h) [
      | inl put ↦ inl (kept_any (puts_at p) (is_void op ops) op (simpler ops) refl put)
      | inr deleted ↦ inr (kept_any (deletes_at p) (is_void op ops) op (simpler ops) refl deleted)
    ]
delete_left p (Delete path ∷ ops) none h =
    let op : FileOp = Delete path in
    elim (cases_Bool (list_any (deletes_at p) (up_to_a_copy ops))) [
      | inl later ↦ elim (delete_left p ops none later) [
        | inl put ↦ inl (kept_any (puts_at p) (is_void op ops) op (simpler ops) refl put)
        | inr deleted ↦ inr (kept_any (deletes_at p) (is_void op ops) op (simpler ops) refl deleted)
      ]
      | inr not_later ↦ elim (cases_Bool (list_any (puts_at p) (up_to_a_copy ops))) [
        | inl put ↦ inl (kept_any (puts_at p) (is_void op ops) op (simpler ops) refl (put_left p ops none put))
        | inr no_put ↦ elim (or_cases (bytes_eq p path) (list_any (deletes_at p) (up_to_a_copy ops)) h) [
          | inl it ↦
              let is = path_is p path it in
              let kept : is_void op ops ≡ false =
              or_from (list_any is_deleteall ops || list_any (puts_at path) (up_to_a_copy ops)) (list_any (deletes_at path) (up_to_a_copy ops))
              (or_from (list_any is_deleteall ops) (list_any (puts_at path) (up_to_a_copy ops)) none (subst (λ (x : Bytes). list_any (puts_at x) (up_to_a_copy ops) ≡ false) is no_put))
              (subst (λ (x : Bytes). list_any (deletes_at x) (up_to_a_copy ops) ≡ false) is not_later) in
              inr (ap (λ b. list_any (deletes_at p) (up_to_a_copy (if b then simpler ops else op ∷ simpler ops))) kept ∙ or_left (bytes_eq p path) (list_any (deletes_at p) (up_to_a_copy (simpler ops))) it)
          | inr later ↦ absurd (true≢false (sym later ∙ not_later))
        ]
      ]
    ]

-- ---- one operation dropped

-- before the operations that make it void, it doesn't show
void_drops : (op : FileOp) (ops : List FileOp) (s t : Tree) → IsOrdered t → IsOrdered s → free op t ≡ Some s → is_void op ops ≡ true → free_all (simpler ops) s ≡ free_all (simpler ops) t
void_drops op ops s t o q e v = elim (cases_Bool (list_any is_deleteall ops)) [
  | inl anew ↦
      let rest = starts_anew ops anew in
      ap (λ (l : List FileOp). free_all l s) rest.1 ∙ sym (ap (λ (l : List FileOp). free_all l t) rest.1)
  | inr none ↦ go op e v none
]
  where
    by_put : (p : Bytes) → list_any is_deleteall ops ≡ false → list_any (puts_at p) (up_to_a_copy ops) ≡ true → cleared_for p s ≡ cleared_for p t → free_all (simpler ops) s ≡ free_all (simpler ops) t
    by_put p none h same = alike_all (λ r. not (is_in_the_way p r)) (puts_at p) (put_ends p) (simpler ops) s t (put_left p ops none h) q o same

    go : (op : FileOp) → free op t ≡ Some s → is_void op ops ≡ true → list_any is_deleteall ops ≡ false → free_all (simpler ops) s ≡ free_all (simpler ops) t
    go (Modify mode content path) e v none =
        let is : put path (record { mode = mode; content = content }) (cleared_for path t) ≡ s = some_same _ _ e in
        elim (or_cases (list_any is_deleteall ops) (list_any (puts_at path) (up_to_a_copy ops)) v) [
          | inl anew ↦ absurd (true≢false (sym anew ∙ none))
          | inr put ↦ by_put path none put (ap (cleared_for path) (sym is) ∙ put_leaves path (record { mode = mode; content = content }) t o)
        ]
      where
        some_same : (a b : Tree) → ◌≡◌ {A = Option Tree} (Some a) (Some b) → a ≡ b
        some_same a b h = cc
    go (Delete path) e v none =
        let is : without path t ≡ s = some_same _ _ e in
        elim (or_cases (list_any is_deleteall ops || list_any (puts_at path) (up_to_a_copy ops)) (list_any (deletes_at path) (up_to_a_copy ops)) v) [
          | inl earlier ↦ elim (or_cases (list_any is_deleteall ops) (list_any (puts_at path) (up_to_a_copy ops)) earlier) [
            | inl anew ↦ absurd (true≢false (sym anew ∙ none))
            | inr put ↦ by_put path none put (ap (cleared_for path) (sym is) ∙ delete_leaves path t)
          ]
          | inr deleted ↦ elim (delete_left path ops none deleted) [
            | inl put ↦
                alike_all (λ r. not (is_in_the_way path r)) (puts_at path) (put_ends path) (simpler ops) s t put q o (ap (cleared_for path) (sym is) ∙ delete_leaves path t)
            | inr gone ↦
                alike_all (λ r. not (is_at_or_below path r)) (deletes_at path) (delete_ends path) (simpler ops) s t gone q o (ap (without path) (sym is) ∙ delete_twice path t)
          ]
        ]
      where
        some_same : (a b : Tree) → ◌≡◌ {A = Option Tree} (Some a) (Some b) → a ≡ b
        some_same a b h = cc
    go (Copy source target) e v none = absurd (true≢false (sym v ∙ none))
    go (Rename source target) e v none = absurd (true≢false (sym v ∙ none))
    go DeleteAll e v none = absurd (true≢false (sym v ∙ none))

-- ---- all of them

order_moved : (source target : Bytes) (taken base u : Tree) → IsOrdered base → put_moved_in source target taken base ≡ Some u → IsOrdered u
order_moved source target [] base u h e = absurd cc
order_moved source target (x ∷ taken) base u h e = go (has_long_path (moved source target (x ∷ taken))) e
  where
    go : (b : Bool) → (if b then None else Some (put_all (moved source target (x ∷ taken)) (cleared_for target base))) ≡ Some u → IsOrdered u
    go true e = absurd cc
    go false e =
        let is : put_all (moved source target (x ∷ taken)) (cleared_for target base) ≡ u = cc in
        subst IsOrdered is (ordered_put_all (moved source target (x ∷ taken)) (cleared_for target base) (ordered_where (λ r. not (is_in_the_way target r)) base h))

order_free : (op : FileOp) (t u : Tree) → IsOrdered t → free op t ≡ Some u → IsOrdered u
order_free (Modify mode content path) t u h e =
    let entry : Entry = record { mode = mode; content = content } in
    let is : put path entry (cleared_for path t) ≡ u = cc in
    subst IsOrdered is (ordered_put path entry (cleared_for path t) (ordered_where (λ r. not (is_in_the_way path r)) t h))
order_free (Delete path) t u h e = let is : without path t ≡ u = cc in subst IsOrdered is (ordered_where (λ r. not (is_at_or_below path r)) t h)
order_free (Copy source target) t u h e = order_moved source target (subtree source t) t u h e
order_free (Rename source target) t u h e = order_moved source target (subtree source t) (without source t) u (ordered_where (λ r. not (is_at_or_below source r)) t h) e
order_free DeleteAll t u h e = let is : ◌≡◌ {A = Tree} [] u = cc in subst IsOrdered is tt

-- what is left leaves the same tree, and is refused for want of room alone
pub simpler_same : (ops : List FileOp) (t v : Tree) → IsOrdered t → free_all ops t ≡ Some v → free_all (simpler ops) t ≡ Some v
simpler_same [] t v o a = a
simpler_same (op ∷ ops) t v o a = first (free op t) refl a (λ s p x. simpler_same ops s v p x)
  where
    second : ((s : Tree) → IsOrdered s → free_all ops s ≡ Some v → free_all (simpler ops) s ≡ Some v) → (s : Tree) → free op t ≡ Some s → free_all ops s ≡ Some v → (x : Bool) → is_void op ops ≡ x
        → free_all (if x then simpler ops else op ∷ simpler ops) t ≡ Some v
    second again s e a true is = sym (void_drops op ops s t o (order_free op t s o e) e is) ∙ again s (order_free op t s o e) a
    second again s e a false is = ap (λ (r : Option Tree). and_on r (free_all (simpler ops))) e ∙ again s (order_free op t s o e) a

    first : (r : Option Tree) → free op t ≡ r → and_on r (free_all ops) ≡ Some v → ((s : Tree) → IsOrdered s → free_all ops s ≡ Some v → free_all (simpler ops) s ≡ Some v)
        → free_all (simpler (op ∷ ops)) t ≡ Some v
    first None e a again = absurd cc
    first (Some s) e a again = second again s e a (is_void op ops) refl

-- where neither list is refused, both leave the same tree
pub simpler_tree : (ops : List FileOp) (t u v : Tree) → IsOrdered t → apply_all ops t ≡ Ok v → apply_all (simpler ops) t ≡ Ok u → u ≡ v
simpler_tree ops t u v o a b =
    let is : ◌≡◌ {A = Option Tree} (Some u) (Some v) = sym (apply_all_free (simpler ops) t u b) ∙ simpler_same ops t v o (apply_all_free ops t v a) in
    cc

-- ---- what is refused

passed : (t : Tree) (why : Refusal) → within_paths t ≡ Err why → why ≡ Refusal.Paths
passed t why h = go (nat_lt MAX_PATHS (length t)) h
  where
    go : (b : Bool) → ◌≡◌ {A = Result Tree Refusal} (cond b (Err Refusal.Paths) (Ok t)) (Err why) → why ≡ Refusal.Paths
    go true h = cc
    go false h = absurd cc

placed_paths : (source target : Bytes) (taken base u : Tree) (why : Refusal) → put_moved_in source target taken base ≡ Some u →
    placed source target taken base ≡ Err why → why ≡ Refusal.Paths
placed_paths source target [] base u why f h = absurd cc
placed_paths source target (e ∷ taken) base u why f h = go (has_long_path (moved source target (e ∷ taken))) f h
  where
    its : Tree
    its = put_all (moved source target (e ∷ taken)) (cleared_for target base)

    go : (b : Bool) → (if b then None else Some its) ≡ Some u →
        ◌≡◌ {A = Result Tree Refusal} (cond b (Err Refusal.PathBytes) (within_paths its)) (Err why) → why ≡ Refusal.Paths
    go true f h = absurd cc
    go false f h = passed its why h

-- an operation that could be carried out with no limit of paths
refused_paths : (op : FileOp) (t u : Tree) (why : Refusal) → free op t ≡ Some u → apply op t ≡ Err why → why ≡ Refusal.Paths
refused_paths (Modify mode content path) t u why f h = passed (put path (record { mode = mode; content = content }) (cleared_for path t)) why h
refused_paths (Delete path) t u why f h = absurd cc
refused_paths (Copy source target) t u why f h = placed_paths source target (subtree source t) t u why f h
refused_paths (Rename source target) t u why f h = placed_paths source target (subtree source t) (without source t) u why f h
refused_paths DeleteAll t u why f h = absurd cc

-- the first of some operations that is refused
pub first_paths : (ops : List FileOp) (n : ℕ) (t v : Tree) (k : ℕ) (why : Refusal) → free_all ops t ≡ Some v →
    first_refused n ops t ≡ Some (k, why) → why ≡ Refusal.Paths
first_paths [] n t v k why f h = absurd cc
first_paths (op ∷ ops) n t v k why f h = first (free op t) refl f (λ x b c. first_paths ops (n + 1) x v k why b c)
  where
    second : ((x : Tree) → free_all ops x ≡ Some v → first_refused (n + 1) ops x ≡ Some (k, why) → why ≡ Refusal.Paths) → (s : Tree) → free op t ≡ Some s → free_all ops s ≡ Some v → (r : Result Tree Refusal) → apply op t ≡ r →
        unless_refused n (first_refused (n + 1) ops) r ≡ Some (k, why) → why ≡ Refusal.Paths
    second again s e a (Ok x) is h =
        let same : ◌≡◌ {A = Option Tree} (Some s) (Some x) = sym e ∙ apply_free op t x is in
        let it : s ≡ x = cc in
        again x (sym (ap (free_all ops) it) ∙ a) h
    second again s e a (Err other) is h =
        let same : ◌≡◌ {A = ℕ × Refusal} (n, other) (k, why) = cc in
        sym (ap (λ (x : ℕ × Refusal). x.1) same) ∙ refused_paths op t s other e is

    first : (o : Option Tree) → free op t ≡ o → and_on o (free_all ops) ≡ Some v →
        ((x : Tree) → free_all ops x ≡ Some v → first_refused (n + 1) ops x ≡ Some (k, why) → why ≡ Refusal.Paths) → why ≡ Refusal.Paths
    first None e a again = absurd cc
    first (Some s) e a again = second again s e a (apply op t) refl h

-- ---- trees are in order

pub order_all : (ops : List FileOp) (t u : Tree) → IsOrdered t → apply_all ops t ≡ Ok u → IsOrdered u
order_all [] t u h e = let is : t ≡ u = cc in subst IsOrdered is h
order_all (op ∷ ops) t u h e = go (apply op t) refl e (λ s x y. order_all ops s u x y)
  where
    go : (r : Result Tree Refusal) → apply op t ≡ r → (r >>= apply_all ops) ≡ Ok u → ((s : Tree) → IsOrdered s → apply_all ops s ≡ Ok u → IsOrdered u) → IsOrdered u
    go (Ok s) is e f = f s (order_free op t s h (apply_free op t s is)) e
    go (Err why) is e f = absurd cc
