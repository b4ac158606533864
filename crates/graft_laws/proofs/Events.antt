-- One event after another under new ids, joined: what holds of each behind the others.
use Rattle.std.proofs.Common.{◌≡◌, ℕ, suc, ◌+◌, ◌≤◌, true, false, cond, not, List, [], ◌∷◌, ◌++◌, length, map, refl, sym, ap, subst, ◌∙◌, inl, inr, arith, eqb-true, eq-eqb, ne_eqb, Some, None}
use Rattle.std.specs.Prelude.{◌==◌, ◌&&◌, ◌||◌, flat_map}
use Rattle.std.specs.List.{AllByRecursion, list_any}
use Rattle.std.proofs.lemmas.Bool.{cases_Bool}
use Rattle.std.proofs.lemmas.List.{length-map, map-append}
use Rattle.plain_model.specs.declared.limit.TheConstants.{MAX_PARENTS}
use Rattle.plain_model.specs.declared.id.AnyId.{AnyId}
use Rattle.plain_model.specs.declared.id.AnyId.TheVariants as any
use Rattle.plain_model.specs.declared.operation.Mode.TheVariants.{Plain, Executable, Link, Gitlink}
use Rattle.plain_model.specs.declared.operation.Content.TheVariants.{Blob as OfBlob, Object}
use Rattle.plain_model.specs.declared.operation.FileOp.{FileOp}
use Rattle.plain_model.specs.declared.operation.FileOp.TheVariants.{Modify, Delete, Copy, Rename, DeleteAll}
use Rattle.plain_model.specs.declared.event.PlainEvent.{PlainEvent}
use Rattle.plain_model.specs.declared.event.PlainEvent.TheVariants.{Blob, Commit, Tag, Reset, Pass}
use Rattle.plain_model.specs.Lookups.{id_number, id_of, op_blobs, same_id}
use Rattle.plain_model.specs.Soundness.{IsCommitOf, IsFormedEvent, IsFormedOp, are_distinct, has_id}
use Rattle.edit_laws.specs.Parts.{HasFewParents, IsLawful, IsLawfulOp}
use Rattle.edit_laws.specs.Settling.{is_ready}
use Rattle.edit_laws.proofs.Lists.{all_rear, all_true, true_all}
use Rattle.history_laws.proofs.Ids.{has_id_after, has_id_step, has_id_still}
use Rattle.history_laws.proofs.Lists.{all_join}
use Rattle.commit_laws.proofs.Given.{IsHere, here_parents, parents_here}
use Rattle.edit_laws.proofs.Fine.{There, parted_blobs}
use Rattle.history_laws.specs.Placed.{ArePlaced}
use Rattle.shown_laws.specs.AsWritten.{renamed, renamed_from, renamed_op}
use Rattle.shown_laws.proofs.Places.{Agree, append_under, blob_under, commit_under, length_under, one_place, placed}
use Rattle.shown_laws.proofs.Sound.{formed_under}
use Rattle.graft_laws.specs.Joined.{AreNameBytes}
use Rattle.graft_laws.specs.Joining.{Joining, joined_event, root_ops}
use Rattle.graft_laws.proofs.Labels.{HasShortName, branch_name, tag_name}

-- the parents of a root are commits of a list, each once, and not too many
abbrev pub AreParents : List PlainEvent → List ℕ → Type 0
AreParents front parents = AllByRecursion (IsCommitOf front) parents × (are_distinct parents ≡ true) × (length parents ≤ MAX_PARENTS)

-- an event is lawful, and refers to earlier events
pub record IsNext (earlier : List PlainEvent) (e : PlainEvent) : Type 0 where
  pub lawful : IsLawful e
  pub spelled : IsFormedEvent e
  pub few : HasFewParents e
  pub ready : is_ready earlier e ≡ true

-- ---- joined events

module _ (how : Joining) where
  pub joined_id : (e : PlainEvent) → id_of (joined_event how e) ≡ id_of e
  joined_id (Commit id mark branch author committer encoding comment [] ops aliases) = refl
  joined_id (Commit id mark branch author committer encoding comment (p ∷ parents) ops aliases) = refl
  joined_id (Blob id mark bytes) = refl
  joined_id (Tag id name target tagger comment mark) = refl
  joined_id (Reset id branch target) = refl
  joined_id (Pass id line) = refl

  pub has_joined : (events : List PlainEvent) (id : AnyId) → has_id (map (joined_event how) events) id ≡ has_id events id
  has_joined [] id = refl
  has_joined (e ∷ events) id =
      has_id_step (joined_event how e) (map (joined_event how) events) id
      ∙ (λ i. same_id (joined_id e i) id || has_joined events id i)
      ∙ sym (has_id_step e events id)

  placed_joined : (k : ℕ) (events : List PlainEvent) → ArePlaced k events → ArePlaced k (map (joined_event how) events)
  placed_joined k [] p = tt
  placed_joined k (e ∷ events) p = (ap id_number (joined_id e) ∙ p.0, placed_joined (suc k) events p.1)

-- ---- under new ids

module _ (how : Joining) (blob commit : ℕ → ℕ) where
  abbrev pub new : ℕ → PlainEvent → PlainEvent
  new k e = joined_event how (renamed blob commit k e)

  abbrev pub new_from : ℕ → List PlainEvent → List PlainEvent
  new_from k events = map (joined_event how) (renamed_from blob commit k events)

  pub placed_new : (k : ℕ) (events : List PlainEvent) → ArePlaced k (new_from k events)
  placed_new k events = placed_joined how k (renamed_from blob commit k events) (placed blob commit k events)

  pub length_new : (k : ℕ) (events : List PlainEvent) → length (new_from k events) ≡ length events
  length_new k events = length-map (renamed_from blob commit k events) (joined_event how) ∙ length_under blob commit k events

  pub append_new : (k n : ℕ) (xs ys : List PlainEvent) → n ≡ k + length xs → new_from k (xs ++ ys) ≡ new_from k xs ++ new_from n ys
  append_new k n xs ys is =
      ap (map (joined_event how)) (append_under blob commit k n xs ys is)
      ∙ map-append (joined_event how) (renamed_from blob commit k xs) (renamed_from blob commit n ys)

  -- ---- operations

  op_lawful : (op : FileOp) → IsLawfulOp op → IsLawfulOp (renamed_op blob commit op)
  op_lawful (Modify Gitlink (OfBlob b) path) h = h
  op_lawful (Modify Plain (OfBlob b) path) h = tt
  op_lawful (Modify Executable (OfBlob b) path) h = tt
  op_lawful (Modify Link (OfBlob b) path) h = tt
  op_lawful (Modify Gitlink (Object digits) path) h = tt
  op_lawful (Modify Plain (Object digits) path) h = tt
  op_lawful (Modify Executable (Object digits) path) h = tt
  op_lawful (Modify Link (Object digits) path) h = tt
  op_lawful (Delete path) h = tt
  op_lawful (Copy source target) h = tt
  op_lawful (Rename source target) h = tt
  op_lawful DeleteAll h = tt

  ops_lawful : (ops : List FileOp) → AllByRecursion IsLawfulOp ops → AllByRecursion IsLawfulOp (map (renamed_op blob commit) ops)
  ops_lawful [] h = tt
  ops_lawful (op ∷ ops) h = (op_lawful op h.0, ops_lawful ops h.1)

  -- what holds of `deleteall` and of these holds of a root's operations
  root_all : (P : FileOp → Type 0) → P DeleteAll → (parents : List ℕ) (ops : List FileOp) → AllByRecursion P ops → AllByRecursion P (root_ops how parents ops)
  root_all P d [] ops h = h
  root_all P d (p ∷ parents) ops h = elim how.prune as (λ b. AllByRecursion P (cond b (DeleteAll ∷ ops) ops)) [ true ↦ (d, h) | false ↦ h ]

  root_blobs : (parents : List ℕ) (ops : List FileOp) → flat_map op_blobs (root_ops how parents ops) ≡ flat_map op_blobs ops
  root_blobs [] ops = refl
  root_blobs (p ∷ parents) ops = elim how.prune as (λ b. flat_map op_blobs (cond b (DeleteAll ∷ ops) ops) ≡ flat_map op_blobs ops) [ true ↦ refl | false ↦ refl ]

  -- ---- behind a list, with the first of the events before them

  module _ (first : ℕ) (front xs : List PlainEvent) (agree : Agree blob commit first xs) where
    abbrev pub before : List PlainEvent
    before = front ++ new_from first xs

    commit_there : (c : ℕ) → IsHere xs c → IsHere before (commit c)
    commit_there c h = has_id_after front (new_from first xs) (any.Commit (commit c)) (has_joined how (renamed_from blob commit first xs) (any.Commit (commit c)) ∙ commit_under blob commit first c xs agree h)

    commits_there : (ps : List ℕ) → AllByRecursion (IsHere xs) ps → AllByRecursion (IsHere before) (map commit ps)
    commits_there [] h = tt
    commits_there (p ∷ ps) h = (commit_there p h.0, commits_there ps h.1)

    in_front : (ps : List ℕ) → AllByRecursion (IsCommitOf front) ps → AllByRecursion (IsHere before) ps
    in_front [] h = tt
    in_front (p ∷ ps) h = (has_id_still front (new_from first xs) (any.Commit p) h.0, in_front ps h.1)

    blob_there : (b : ℕ) → There xs (any.Blob b) → There before (any.Blob (blob b))
    blob_there b h = has_id_after front (new_from first xs) (any.Blob (blob b)) (has_joined how (renamed_from blob commit first xs) (any.Blob (blob b)) ∙ blob_under blob commit first b xs agree h)

    op_there : (op : FileOp) → AllByRecursion (There xs) (op_blobs op) → AllByRecursion (There before) (op_blobs (renamed_op blob commit op))
    op_there (Modify mode (OfBlob b) path) h = (blob_there b h.0, tt)
    op_there (Modify mode (Object digits) path) h = tt
    op_there (Delete path) h = tt
    op_there (Copy source target) h = tt
    op_there (Rename source target) h = tt
    op_there DeleteAll h = tt

    blobs_there : (ops : List FileOp) → AllByRecursion (λ op. AllByRecursion (There xs) (op_blobs op)) ops → AllByRecursion (There before) (flat_map op_blobs (map (renamed_op blob commit) ops))
    blobs_there [] h = tt
    blobs_there (op ∷ ops) h =
        all_join (There before) (op_blobs (renamed_op blob commit op)) (flat_map op_blobs (map (renamed_op blob commit) ops)) (op_there op h.0) (blobs_there ops h.1)

    -- ---- parents

    same_test : (m n : ℕ) → IsHere xs m → IsHere xs n → (commit m == commit n) ≡ (m == n)
    same_test m n h i =
        elim (cases_Bool (m == n)) [
          | inl is ↦ eq-eqb (commit m) (commit n) (ap commit (eqb-true m n is)) ∙ sym is
          | inr other ↦ ne_eqb (commit m) (commit n) (λ e. let is = eq-eqb m n (one_place blob commit first m n xs agree h i e) in absurd cc) ∙ sym other
        ]

    none_twice : (n : ℕ) (ns : List ℕ) → IsHere xs n → AllByRecursion (IsHere xs) ns → list_any (λ m. m == commit n) (map commit ns) ≡ list_any (λ m. m == n) ns
    none_twice n [] h i = refl
    none_twice n (m ∷ ns) h i =
        ap (λ t. t || list_any (λ x. x == commit n) (map commit ns)) (same_test m n i.0 h) ∙ ap (λ t. (m == n) || t) (none_twice n ns h i.1)

    distinct_still : (ns : List ℕ) → AllByRecursion (IsHere xs) ns → are_distinct (map commit ns) ≡ are_distinct ns
    distinct_still [] h = refl
    distinct_still (n ∷ ns) h =
        ap (λ t. not t && are_distinct (map commit ns)) (none_twice n ns h.0 h.1) ∙ ap (λ t. not (list_any (λ m. m == n) ns) && t) (distinct_still ns h.1)

    -- ---- one event more

    none_few : 0 ≤ MAX_PARENTS
    none_few = omega arith

    renamed_formed : (k : ℕ) (e : PlainEvent) → IsFormedEvent e → IsFormedEvent (renamed blob commit k e)
    renamed_formed k e h = (formed_under blob commit k (e ∷ []) (h, tt)).0

    pub next_event : AreNameBytes how.prefix → ((seconds : ℕ) → AreParents front (how.parents seconds)) → (k : ℕ) (e : PlainEvent)
        → IsLawful e → IsFormedEvent e → HasFewParents e → is_ready xs e ≡ true → HasShortName (new k e) → IsNext before (new k e)
    next_event bytes parents_are k (Commit id mark branch author committer encoding comment [] ops aliases) l f w r s =
        let parents = how.parents committer.when.seconds in
        let are = parents_are committer.when.seconds in
        let formed = renamed_formed k (Commit id mark branch author committer encoding comment [] ops aliases) f in
        let blobs = parted_blobs xs ops (all_true (has_id xs) (flat_map op_blobs ops) r) in
        record {
          lawful = (branch_name how bytes branch l.0 s, l.1, l.2, l.3, are.1, root_all IsLawfulOp tt parents (map (renamed_op blob commit) ops) (ops_lawful ops l.5), l.6);
          spelled = (formed.0, root_all IsFormedOp tt parents (map (renamed_op blob commit) ops) formed.1, formed.2);
          few = are.2;
          ready = true_all (has_id before) (map any.Commit parents ++ flat_map op_blobs (root_ops how parents (map (renamed_op blob commit) ops)))
              (all_join (There before) (map any.Commit parents) (flat_map op_blobs (root_ops how parents (map (renamed_op blob commit) ops))) (here_parents before parents (in_front parents are.0))
              (subst (AllByRecursion (There before)) (sym (root_blobs parents (map (renamed_op blob commit) ops))) (blobs_there ops blobs)));
        }
    next_event bytes parents_are k (Commit id mark branch author committer encoding comment (p ∷ ps) ops aliases) l f w r s =
        let parents : List ℕ = p ∷ ps in
        let here = parents_here xs parents ops r in
        let formed = renamed_formed k (Commit id mark branch author committer encoding comment parents ops aliases) f in
        let blobs = parted_blobs xs ops (all_rear (There xs) (map any.Commit parents) (flat_map op_blobs ops) (all_true (has_id xs) (map any.Commit parents ++ flat_map op_blobs ops) r)) in
        let many = length-map ps commit in
        record {
          lawful = (branch_name how bytes branch l.0 s, l.1, l.2, l.3, distinct_still parents here ∙ l.4, ops_lawful ops l.5, l.6);
          spelled = formed;
          few = omega arith;
          ready = true_all (has_id before) (map any.Commit (map commit parents) ++ flat_map op_blobs (map (renamed_op blob commit) ops))
              (all_join (There before) (map any.Commit (map commit parents)) (flat_map op_blobs (map (renamed_op blob commit) ops)) (here_parents before (map commit parents) (commits_there parents here)) (blobs_there ops blobs));
        }
    next_event bytes parents_are k (Blob id mark content) l f w r s = record { lawful = tt; spelled = f; few = none_few; ready = refl }
    next_event bytes parents_are k (Tag id name target tagger comment mark) l f w r s =
        let there = all_true (has_id xs) (any.Commit target ∷ []) r in
        record { lawful = (tag_name how bytes name l.0 s, l.1); spelled = f; few = none_few; ready = true_all (has_id before) (any.Commit (commit target) ∷ []) (commit_there target there.0, tt) }
    next_event bytes parents_are k (Reset id branch None) l f w r s = record { lawful = branch_name how bytes branch l s; spelled = tt; few = none_few; ready = refl }
    next_event bytes parents_are k (Reset id branch (Some target)) l f w r s =
        let there = all_true (has_id xs) (any.Commit target ∷ []) r in
        record { lawful = branch_name how bytes branch l s; spelled = tt; few = none_few; ready = true_all (has_id before) (any.Commit (commit target) ∷ []) (commit_there target there.0, tt) }
    next_event bytes parents_are k (Pass id line) l f w r s = record { lawful = l; spelled = tt; few = none_few; ready = refl }
