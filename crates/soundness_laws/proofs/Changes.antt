-- What each line keeps of the event that is being read.
use Rattle.std.proofs.Common.{◌≡◌, ℕ, ◌+◌, ◌≤◌, Bool, true, false, cond, not, List, [], ◌∷◌, ◌++◌, length, Option, Some, None, Ok, refl, sym, ap, subst, ◌∙◌, inl, inr, arith, eq-eqb, ne_eqb}
use Rattle.std.specs.Prelude.{◌==◌, IfSome, is_some, nat_lt, option_to_list}
use Rattle.std.specs.List.{list_any}
use Rattle.std.proofs.lemmas.Bool.{and_parts, and_from, or_from, or_parts, not-true}
use Rattle.std.proofs.lemmas.Bool.Decides.{nat_tests}
use Rattle.plain_model.specs.declared.limit.TheConstants.{MAX_EVENTS, MAX_OPERATIONS, MAX_PARENTS}
use Rattle.plain_model.specs.declared.fault.Which.{Which}
use Rattle.plain_model.specs.declared.fault.Which.TheVariants.{Events, Operations, Parents}
use Rattle.plain_model.specs.declared.operation.FileOp.{FileOp}
use Rattle.plain_model.specs.declared.operation.FileOp.TheVariants.{DeleteAll}
use Rattle.plain_model.specs.declared.person.Signed.{Signed}
use Rattle.plain_model.specs.declared.event.PlainEvent.{PlainEvent}
use Rattle.plain_model.specs.Histories.{begun, folded, tree}
use Rattle.plain_model.specs.Marks.{IsMark}
use Rattle.plain_model.specs.Names.{is_name}
use Rattle.plain_model.specs.Parts.{has_no_lf}
use Rattle.plain_model.specs.Paths.{Bytes}
use Rattle.plain_model.specs.Snapshots.{refs}
use Rattle.plain_model.specs.Soundness.{IsCommitOf, IsFormedOp, IsFormedSigned, RefersBack, are_distinct}
use Rattle.plain_model.specs.Trees.{Tree, at}
use Rattle.stream_grammar.specs.Known.{Known, OpenCommit, Open, is_empty_list, op_after, with_parent, tree_now}
use Rattle.stream_grammar.specs.Known.Open.{Nothing, ABlob, ACommit, ATag, AReset, AnAlias}
use Rattle.stream_grammar.specs.Limits.{limit_if, last_limit, tree_limit, op_limit, open_parents, event_count, op_count}
use Rattle.stream_grammar.specs.Lines.{with_mark, with_commit, with_from, with_tagger, with_operation}
use Rattle.field_laws.proofs.FieldSteps.{bind_ok, same_Ok}
use Rattle.history_laws.proofs.Lists.{all_imply, all_join}
use Rattle.soundness_laws.proofs.Kept.{IsOpenWell, HasMark, HasTarget, HasNoOps}
use Rattle.soundness_laws.proofs.OpsRead.{IsOp, tree_after}
use Rattle.soundness_laws.proofs.SoFar.{IsMarkYet, IsCommitSoFar, HaveTrees}

-- ---- a new commit

module _ (events : List PlainEvent) (trees : HaveTrees events) where
  pub commit_begun : (branch : Bytes) (tip : Option ℕ) → is_name branch ≡ true → at (refs events) branch ≡ tip → IfSome tip (IsCommitOf events)
      → IsCommitSoFar events events (record { branch = branch; mark = 0; author = None; committer = None; encoding = None; comment = []; parents = option_to_list tip; ops = [] })
  commit_begun branch None named is there = record {
    named = named;
    marked = inl refl;
    authored = tt;
    committed = tt;
    encoded = tt;
    linked = tt;
    apart = refl;
    few = omega arith;
    referring = tt;
    pathed = tt;
    has_tree = refl;
    rooted = λ e. is;
  }
  commit_begun branch (Some tip) named is there = record {
    named = named;
    marked = inl refl;
    authored = tt;
    committed = tt;
    encoded = tt;
    linked = (there, tt);
    apart = refl;
    few = omega arith;
    referring = tt;
    pathed = tt;
    has_tree = go (tree events tip) (trees tip there);
    rooted = λ e. absurd cc;
  }
    where
      go : (t : Option Tree) → is_some t ≡ true → is_some (folded [] t) ≡ true
      go None h = absurd cc
      go (Some t) h = refl

-- ---- fields

module _ (events seen : List PlainEvent) where
  -- a change of the commit that keeps what is kept
  pub commit_changed : (change : OpenCommit → OpenCommit) → ((c : OpenCommit) → IsCommitSoFar events seen c → IsCommitSoFar events seen (change c)) → (o : Open) → IsOpenWell events seen o → IsOpenWell events seen (with_commit change o)
  commit_changed change kept (ACommit c) h = kept c h
  commit_changed change kept Nothing h = h
  commit_changed change kept (ABlob mark) h = h
  commit_changed change kept (ATag name target tagger mark) h = h
  commit_changed change kept (AReset branch target) h = h
  commit_changed change kept (AnAlias mark) h = h

  marked_commit : (m : ℕ) (c : OpenCommit) → IsMarkYet m → IsCommitSoFar events seen c → IsCommitSoFar events seen (record c { mark = m })
  marked_commit m c fits w = record {
    named = w.named;
    marked = fits;
    authored = w.authored;
    committed = w.committed;
    encoded = w.encoded;
    linked = w.linked;
    apart = w.apart;
    few = w.few;
    referring = w.referring;
    pathed = w.pathed;
    has_tree = w.has_tree;
    rooted = w.rooted;
  }

  pub mark_kept : (m : ℕ) (o : Open) → IsMark m → IsOpenWell events seen o → IsOpenWell events seen (with_mark m o)
  mark_kept m (ABlob mark) fits h = inr fits
  mark_kept m (ACommit c) fits h = marked_commit m c (inr fits) h
  mark_kept m (ATag name target tagger mark) fits h = (h.0, h.1, fits)
  mark_kept m (AnAlias mark) fits h = h
  mark_kept m Nothing fits h = h
  mark_kept m (AReset branch target) fits h = h

  pub authored_commit : (who : Signed) → IsFormedSigned who → (c : OpenCommit) → IsCommitSoFar events seen c → IsCommitSoFar events seen (record c { author = Some who })
  authored_commit who formed c w = record {
    named = w.named;
    marked = w.marked;
    authored = formed;
    committed = w.committed;
    encoded = w.encoded;
    linked = w.linked;
    apart = w.apart;
    few = w.few;
    referring = w.referring;
    pathed = w.pathed;
    has_tree = w.has_tree;
    rooted = w.rooted;
  }

  pub committed_commit : (who : Signed) → IsFormedSigned who → (c : OpenCommit) → IsCommitSoFar events seen c → IsCommitSoFar events seen (record c { committer = Some who })
  committed_commit who formed c w = record {
    named = w.named;
    marked = w.marked;
    authored = w.authored;
    committed = formed;
    encoded = w.encoded;
    linked = w.linked;
    apart = w.apart;
    few = w.few;
    referring = w.referring;
    pathed = w.pathed;
    has_tree = w.has_tree;
    rooted = w.rooted;
  }

  pub encoded_commit : (text : Bytes) → IfSome (Some text) (λ e. has_no_lf e ≡ true) → (c : OpenCommit) → IsCommitSoFar events seen c → IsCommitSoFar events seen (record c { encoding = Some text })
  encoded_commit text plain c w = record {
    named = w.named;
    marked = w.marked;
    authored = w.authored;
    committed = w.committed;
    encoded = plain;
    linked = w.linked;
    apart = w.apart;
    few = w.few;
    referring = w.referring;
    pathed = w.pathed;
    has_tree = w.has_tree;
    rooted = w.rooted;
  }

  pub tagger_kept : (who : Signed) → IsFormedSigned who → (o : Open) → IsOpenWell events seen o → IsOpenWell events seen (with_tagger who o)
  tagger_kept who formed (ATag name target tagger mark) h = (h.0, formed, h.2)
  tagger_kept who formed Nothing h = h
  tagger_kept who formed (ABlob mark) h = h
  tagger_kept who formed (ACommit c) h = h
  tagger_kept who formed (AReset branch target) h = h
  tagger_kept who formed (AnAlias mark) h = h

-- ---- parents

-- one item more, which isn't there
distinct_more : (ns : List ℕ) (n : ℕ) → are_distinct ns ≡ true → list_any (λ m. m == n) ns ≡ false → are_distinct (ns ++ n ∷ []) ≡ true
distinct_more [] n d h = refl
distinct_more (m ∷ ns) n d h =
    let apart = and_parts (not (list_any (λ k. k == m) ns)) (are_distinct ns) d in
    let others = or_parts (m == n) (list_any (λ k. k == n) ns) h in
    and_from (not (list_any (λ k. k == m) (ns ++ n ∷ []))) (are_distinct (ns ++ n ∷ [])) (ap not (none_more ns (not-true (list_any (λ k. k == m) ns) apart.0) (turned others.0))) (distinct_more ns n apart.1 others.1)
  where
    turned : (m == n) ≡ false → (n == m) ≡ false
    turned e = ne_eqb n m (λ same. let is : (m == n) ≡ true = eq-eqb m n (sym same) in absurd cc)

    none_more : (ns : List ℕ) → list_any (λ k. k == m) ns ≡ false → (n == m) ≡ false → list_any (λ k. k == m) (ns ++ n ∷ []) ≡ false
    none_more [] h e = or_from (n == m) false e refl
    none_more (k ∷ ns) h e = let parts = or_parts (k == m) (list_any (λ l. l == m) ns) h in or_from (k == m) (list_any (λ l. l == m) (ns ++ n ∷ [])) parts.0 (none_more ns parts.1 e)

module _ (events : List PlainEvent) (trees : HaveTrees events) where
  -- the only parent of a commit without operations
  from_commit : (p : ℕ) (c : OpenCommit) → IsCommitOf events p → c.ops ≡ [] → IsCommitSoFar events events c → IsCommitSoFar events events (record c { parents = p ∷ [] })
  from_commit p c there none w = record {
    named = w.named;
    marked = w.marked;
    authored = w.authored;
    committed = w.committed;
    encoded = w.encoded;
    linked = (there, tt);
    apart = refl;
    few = omega arith;
    referring = w.referring;
    pathed = w.pathed;
    has_tree = subst (λ (l : List FileOp). is_some (folded l (tree events p)) ≡ true) (sym none) (go (tree events p) (trees p there));
    rooted = λ e. absurd cc;
  }
    where
      go : (t : Option Tree) → is_some t ≡ true → is_some (folded [] t) ≡ true
      go None h = absurd cc
      go (Some t) h = refl

  pub from_kept : (p : ℕ) (o : Open) → IsCommitOf events p → HasNoOps o → IsOpenWell events events o → IsOpenWell events events (with_from p o)
  from_kept p (ACommit c) there none h = from_commit p c there none h
  from_kept p (ATag name target tagger mark) there none h = h
  from_kept p (AReset branch target) there none h = (h.0, there)
  from_kept p (AnAlias mark) there none h = h
  from_kept p Nothing there none h = h
  from_kept p (ABlob mark) there none h = h

  pub from_target : (p : ℕ) (o : Open) → IsCommitOf events p → HasTarget events (with_from p o)
  from_target p (ACommit c) there = tt
  from_target p (ATag name target tagger mark) there = there
  from_target p (AReset branch target) there = tt
  from_target p (AnAlias mark) there = tt
  from_target p Nothing there = tt
  from_target p (ABlob mark) there = tt

  -- the first parent of a commit whose files all go
  first_parent : (p : ℕ) (c : OpenCommit) → IsCommitOf events p → IsCommitSoFar events events c → IsCommitSoFar events events (record c { parents = p ∷ []; ops = DeleteAll ∷ [] })
  first_parent p c there w = record {
    named = w.named;
    marked = w.marked;
    authored = w.authored;
    committed = w.committed;
    encoded = w.encoded;
    linked = (there, tt);
    apart = refl;
    few = omega arith;
    referring = (tt, tt);
    pathed = (tt, tt);
    has_tree = go (tree events p) (trees p there);
    rooted = λ e. absurd cc;
  }
    where
      go : (t : Option Tree) → is_some t ≡ true → is_some (folded (DeleteAll ∷ []) t) ≡ true
      go None h = absurd cc
      go (Some t) h = refl

  -- a further one
  further_parent : (p : ℕ) (c : OpenCommit) → IsCommitOf events p → is_empty_list c.parents ≡ false → list_any (λ q. q == p) c.parents ≡ false → length (c.parents ++ p ∷ []) ≤ MAX_PARENTS
      → IsCommitSoFar events events c → IsCommitSoFar events events (record c { parents = c.parents ++ p ∷ [] })
  further_parent p c there more new few w = record {
    named = w.named;
    marked = w.marked;
    authored = w.authored;
    committed = w.committed;
    encoded = w.encoded;
    linked = all_join (IsCommitOf events) c.parents (p ∷ []) w.linked (there, tt);
    apart = distinct_more c.parents p w.apart new;
    few = few;
    referring = w.referring;
    pathed = w.pathed;
    has_tree = subst (λ (t : Option Tree). is_some (folded c.ops t) ≡ true) (begun_same c.parents more) w.has_tree;
    rooted = λ e. absurd (not_empty c.parents e);
  }
    where
      begun_same : (ps : List ℕ) → is_empty_list ps ≡ false → begun (tree events) ps ≡ begun (tree events) (ps ++ p ∷ [])
      begun_same [] e = absurd cc
      begun_same (q ∷ qs) e = refl

      not_empty : (ps : List ℕ) → ps ++ p ∷ [] ≡ [] → ⊥
      not_empty [] e = absurd cc
      not_empty (q ∷ qs) e = absurd cc

  parent_kept : (p : ℕ) (c : OpenCommit) → IsCommitOf events p → length (with_parent p c).parents ≤ MAX_PARENTS → IsCommitSoFar events events c → IsCommitSoFar events events (with_parent p c)
  parent_kept p c there few w = go (is_empty_list c.parents) (list_any (λ q. q == p) c.parents) refl refl few
    where
      go : (a b : Bool) → is_empty_list c.parents ≡ a → list_any (λ q. q == p) c.parents ≡ b
          → length (cond a (record c { parents = p ∷ []; ops = DeleteAll ∷ [] }) (cond b c (record c { parents = c.parents ++ p ∷ [] }))).parents ≤ MAX_PARENTS
          → IsCommitSoFar events events (cond a (record c { parents = p ∷ []; ops = DeleteAll ∷ [] }) (cond b c (record c { parents = c.parents ++ p ∷ [] })))
      go true b none is few = first_parent p c there w
      go false true more is few = w
      go false false more is few = further_parent p c there more is few w

  pub merge_kept : (p : ℕ) (o : Open) → IsCommitOf events p → open_parents (with_commit (with_parent p) o) ≤ MAX_PARENTS → IsOpenWell events events o → IsOpenWell events events (with_commit (with_parent p) o)
  merge_kept p (ACommit c) there few h = parent_kept p c there few h
  merge_kept p Nothing there few h = h
  merge_kept p (ABlob mark) there few h = h
  merge_kept p (ATag name target tagger mark) there few h = h
  merge_kept p (AReset branch target) there few h = h
  merge_kept p (AnAlias mark) there few h = h

-- ---- what lines need, after a change

pub commit_target : (events : List PlainEvent) (change : OpenCommit → OpenCommit) (o : Open) → HasTarget events o → HasTarget events (with_commit change o)
commit_target events change (ACommit c) h = tt
commit_target events change (ATag name target tagger mark) h = h
commit_target events change Nothing h = tt
commit_target events change (ABlob mark) h = tt
commit_target events change (AReset branch target) h = tt
commit_target events change (AnAlias mark) h = tt

pub commit_no_ops : (change : OpenCommit → OpenCommit) → ((c : OpenCommit) → (change c).ops ≡ c.ops) → (o : Open) → HasNoOps o → HasNoOps (with_commit change o)
commit_no_ops change same (ACommit c) h = same c ∙ h
commit_no_ops change same (ATag name target tagger mark) h = tt
commit_no_ops change same Nothing h = tt
commit_no_ops change same (ABlob mark) h = tt
commit_no_ops change same (AReset branch target) h = tt
commit_no_ops change same (AnAlias mark) h = tt

pub mark_target : (events : List PlainEvent) (m : ℕ) (o : Open) → HasTarget events o → HasTarget events (with_mark m o)
mark_target events m (ACommit c) h = tt
mark_target events m (ATag name target tagger mark) h = h
mark_target events m Nothing h = tt
mark_target events m (ABlob mark) h = tt
mark_target events m (AReset branch target) h = tt
mark_target events m (AnAlias mark) h = tt

pub mark_no_ops : (m : ℕ) (o : Open) → HasNoOps o → HasNoOps (with_mark m o)
mark_no_ops m (ACommit c) h = h
mark_no_ops m (ATag name target tagger mark) h = tt
mark_no_ops m Nothing h = tt
mark_no_ops m (ABlob mark) h = tt
mark_no_ops m (AReset branch target) h = tt
mark_no_ops m (AnAlias mark) h = tt

pub tagger_target : (events : List PlainEvent) (who : Signed) (o : Open) → HasTarget events o → HasTarget events (with_tagger who o)
tagger_target events who (ACommit c) h = tt
tagger_target events who (ATag name target tagger mark) h = h
tagger_target events who Nothing h = tt
tagger_target events who (ABlob mark) h = tt
tagger_target events who (AReset branch target) h = tt
tagger_target events who (AnAlias mark) h = tt

-- an alias has its mark then
pub mark_marks : (m : ℕ) (o : Open) → IsMark m → HasMark (with_mark m o)
mark_marks m (AnAlias mark) fits = fits
mark_marks m (ACommit c) fits = tt
mark_marks m (ATag name target tagger mark) fits = tt
mark_marks m Nothing fits = tt
mark_marks m (ABlob mark) fits = tt
mark_marks m (AReset branch target) fits = tt

-- ---- limits

-- a limit that isn't passed
limit_kept : (most count : ℕ) (which : Which) (other : Option Which) → limit_if most count which other ≡ None → (count ≤ most) × (other ≡ None)
limit_kept most count which other e = go (nat_lt most count) refl e
  where
    go : (t : Bool) → nat_lt most count ≡ t → cond t (Some which) other ≡ None → (count ≤ most) × (other ≡ None)
    go true is e = absurd cc
    go false is e = (grind (arith, nat_tests), e)

pub parents_limit : (k : Known) → limit_if MAX_OPERATIONS (op_count k) Operations (limit_if MAX_PARENTS (open_parents k.current) Parents None) ≡ None → open_parents k.current ≤ MAX_PARENTS
parents_limit k e = (limit_kept MAX_PARENTS (open_parents k.current) Parents None (limit_kept MAX_OPERATIONS (op_count k) Operations _ e).1).0

tree_limit_kept : (more : ℕ) (k : Known) → op_limit more k ≡ None → tree_limit k ≡ None
tree_limit_kept more k e = (limit_kept MAX_OPERATIONS (op_count k) Operations (tree_limit k) (limit_kept MAX_EVENTS (event_count k + more) Events _ e).1).1

-- ---- operations

module _ (events seen : List PlainEvent) (refers : (op : FileOp) → RefersBack events op → RefersBack seen op) where
  -- one operation more, and the tree is still there
  op_kept : (c : OpenCommit) (op : FileOp) → IsOp seen (tree_now events c) op → last_limit (c.ops ++ op ∷ []) (begun (tree events) c.parents) ≡ None
      → IsCommitSoFar events events c → IsCommitSoFar events seen (record c { ops = c.ops ++ op ∷ [] })
  op_kept c op fits limit w = record {
    named = w.named;
    marked = w.marked;
    authored = w.authored;
    committed = w.committed;
    encoded = w.encoded;
    linked = w.linked;
    apart = w.apart;
    few = w.few;
    referring = all_join (RefersBack seen) c.ops (op ∷ []) (all_imply (RefersBack events) (RefersBack seen) refers c.ops w.referring) (fits.0, tt);
    pathed = all_join IsFormedOp c.ops (op ∷ []) w.pathed (fits.1, tt);
    has_tree = tree_after c.ops op (begun (tree events) c.parents) w.has_tree fits.2 limit;
    rooted = w.rooted;
  }

  -- the line of an operation changes the event that is being read
  pub operation_kept : (more : ℕ) (line : Bytes) (o : Open) (aliases : List (ℕ × ℕ)) (k : Known) → ((c : OpenCommit) (op : FileOp) → op_after events c line ≡ Ok op → IsOp seen (tree_now events c) op)
      → with_operation (record { events = events; current = o; aliases = aliases }) line ≡ Ok k → op_limit more k ≡ None → IsOpenWell events events o → HasTarget events o
      → (new : Open) × (record { events = events; current = new; aliases = aliases } ≡ k) × IsOpenWell events seen new × HasTarget events new
  operation_kept more line (ACommit c) aliases k fits e limit h target =
      let x = bind_ok (op_after events c line) (λ op. Ok (record { events = events; current = ACommit (record c { ops = c.ops ++ op ∷ [] }); aliases = aliases })) k e in
      let is : record { events = events; current = ACommit (record c { ops = c.ops ++ x.0 ∷ [] }); aliases = aliases } ≡ k = same_Ok _ k x.2 in
      (ACommit (record c { ops = c.ops ++ x.0 ∷ [] }), is, op_kept c x.0 (fits c x.0 x.1) (subst (λ (q : Known). tree_limit q ≡ None) (sym is) (tree_limit_kept more k limit)) h, tt)
  operation_kept more line Nothing aliases k fits e limit h target = (Nothing, same_Ok _ k e, h, target)
  operation_kept more line (ABlob mark) aliases k fits e limit h target = (ABlob mark, same_Ok _ k e, h, target)
  operation_kept more line (ATag name tagged tagger mark) aliases k fits e limit h target = (ATag name tagged tagger mark, same_Ok _ k e, h, target)
  operation_kept more line (AReset branch tip) aliases k fits e limit h target = (AReset branch tip, same_Ok _ k e, h, target)
  operation_kept more line (AnAlias mark) aliases k fits e limit h target = (AnAlias mark, same_Ok _ k e, h, target)
