-- Soundness is the same as its parts.
use Rattle.std.proofs.Common.{◌≡◌, ℕ, ◌≤◌, true, false, List, [], ◌∷◌, ◌++◌, map, refl, sym, ap, subst, ◌∙◌, arith, true≢false, append-nil, append_assoc, Some, None}
use Rattle.std.proofs.Math.Bool.{or-false}
use Rattle.std.specs.Prelude.{◌||◌, ◌==◌, flat_map}
use Rattle.std.specs.List.{AllByRecursion}
use Rattle.plain_model.specs.declared.limit.TheConstants.{MAX_PARENTS}
use Rattle.plain_model.specs.declared.id.AnyId.{AnyId}
use Rattle.plain_model.specs.declared.id.AnyId.TheVariants as any
use Rattle.plain_model.specs.declared.operation.Mode.TheVariants.{Plain, Executable, Link, Gitlink}
use Rattle.plain_model.specs.declared.operation.Content.TheVariants.{Blob as OfBlob, Object}
use Rattle.plain_model.specs.declared.operation.FileOp.{FileOp}
use Rattle.plain_model.specs.declared.operation.FileOp.TheVariants.{Modify, Delete, Copy, Rename, DeleteAll}
use Rattle.plain_model.specs.declared.event.PlainEvent.{PlainEvent}
use Rattle.plain_model.specs.declared.event.PlainEvent.TheVariants.{Blob, Commit, Tag, Reset, Pass}
use Rattle.plain_model.specs.Lookups.{id_of, op_blobs}
use Rattle.plain_model.specs.Soundness.{AreSoundAfter, IsCommitOf, IsSound, IsSoundEvent, RefersBack, has_id}
use Rattle.plain_model.specs.Streams.{is_marked}
use Rattle.edit_laws.specs.Settling.{is_ready}
use Rattle.edit_laws.specs.Parts.{AreInOrder, AreOnce, HasFewParents, IsLawful, IsLawfulOp, IsSoundInParts, of_id, of_mark, tally}
use Rattle.ancestry_laws.proofs.Descent.{all_here}
use Rattle.std.proofs.lemmas.Bool.{or_left}
use Rattle.plain_model.specs.Streams.{is_among}
use Rattle.edit_laws.proofs.Lists.{all_among, all_front, all_rear, all_true, true_all, has_own_id, not_before, own_id, still_once}
use Rattle.history_laws.proofs.Ids.{has_id_append, is_marked_append, same_id_true}
use Rattle.history_laws.proofs.Lists.{all_join}
use Rattle.std.proofs.Common.{eq-eqb}
use Rattle.edit_laws.proofs.Fine.{There}

-- ---- what an event refers to

parents_there : (earlier : List PlainEvent) (ps : List ℕ) → AllByRecursion (IsCommitOf earlier) ps →
    AllByRecursion (There earlier) (map any.Commit ps)
parents_there earlier [] h = tt
parents_there earlier (p ∷ ps) h = (h.0, parents_there earlier ps h.1)

there_parents : (earlier : List PlainEvent) (ps : List ℕ) → AllByRecursion (There earlier) (map any.Commit ps) →
    AllByRecursion (IsCommitOf earlier) ps
there_parents earlier [] h = tt
there_parents earlier (p ∷ ps) h = (h.0, there_parents earlier ps h.1)

op_there : (earlier : List PlainEvent) (op : FileOp) → RefersBack earlier op →
    IsLawfulOp op × AllByRecursion (There earlier) (op_blobs op)
op_there earlier (Modify Gitlink (OfBlob b) path) h = absurd h
op_there earlier (Modify Plain (OfBlob b) path) h = (tt, (h, tt))
op_there earlier (Modify Executable (OfBlob b) path) h = (tt, (h, tt))
op_there earlier (Modify Link (OfBlob b) path) h = (tt, (h, tt))
op_there earlier (Modify Gitlink (Object digits) path) h = (tt, tt)
op_there earlier (Modify Plain (Object digits) path) h = (tt, tt)
op_there earlier (Modify Executable (Object digits) path) h = (tt, tt)
op_there earlier (Modify Link (Object digits) path) h = (tt, tt)
op_there earlier (Delete path) h = (tt, tt)
op_there earlier (Copy source target) h = (tt, tt)
op_there earlier (Rename source target) h = (tt, tt)
op_there earlier DeleteAll h = (tt, tt)

there_op : (earlier : List PlainEvent) (op : FileOp) → IsLawfulOp op → AllByRecursion (There earlier) (op_blobs op) →
    RefersBack earlier op
there_op earlier (Modify Gitlink (OfBlob b) path) l h = absurd l
there_op earlier (Modify Plain (OfBlob b) path) l h = h.0
there_op earlier (Modify Executable (OfBlob b) path) l h = h.0
there_op earlier (Modify Link (OfBlob b) path) l h = h.0
there_op earlier (Modify Gitlink (Object digits) path) l h = tt
there_op earlier (Modify Plain (Object digits) path) l h = tt
there_op earlier (Modify Executable (Object digits) path) l h = tt
there_op earlier (Modify Link (Object digits) path) l h = tt
there_op earlier (Delete path) l h = tt
there_op earlier (Copy source target) l h = tt
there_op earlier (Rename source target) l h = tt
there_op earlier DeleteAll l h = tt

ops_there : (earlier : List PlainEvent) (ops : List FileOp) → AllByRecursion (RefersBack earlier) ops →
    AllByRecursion IsLawfulOp ops × AllByRecursion (There earlier) (flat_map op_blobs ops)
ops_there earlier [] h = (tt, tt)
ops_there earlier (op ∷ ops) h =
    let one = op_there earlier op h.0 in
    let rest = ops_there earlier ops h.1 in
    ((one.0, rest.0), all_join (There earlier) (op_blobs op) (flat_map op_blobs ops) one.1 rest.1)

there_ops : (earlier : List PlainEvent) (ops : List FileOp) → AllByRecursion IsLawfulOp ops →
    AllByRecursion (There earlier) (flat_map op_blobs ops) → AllByRecursion (RefersBack earlier) ops
there_ops earlier [] l h = tt
there_ops earlier (op ∷ ops) l h = (
  there_op earlier op l.0 (all_front (There earlier) (op_blobs op) (flat_map op_blobs ops) h),
  there_ops earlier ops l.1 (all_rear (There earlier) (op_blobs op) (flat_map op_blobs ops) h),
)

-- ---- one event

-- what a sound event is, in parts
record IsAfter (earlier : List PlainEvent) (e : PlainEvent) : Type 0 where
  new : has_id earlier (id_of e) ≡ false
  new_mark : (m : ℕ) → is_marked (e ∷ []) m ≡ true → is_marked earlier m ≡ false
  lawful : IsLawful e
  few : HasFewParents e
  ready : is_ready earlier e ≡ true

none_few : 0 ≤ MAX_PARENTS
none_few = omega arith

-- a mark of an event is new
is_new : (earlier : List PlainEvent) (marks : List ℕ) → AllByRecursion (λ n. is_marked earlier n ≡ false) marks →
    (m : ℕ) → is_among marks m ≡ true → is_marked earlier m ≡ false
is_new earlier marks new m own = all_here (λ n. is_marked earlier n ≡ false) marks m new own

-- a commit's mark and its aliases
commit_marks : (mark m : ℕ) (aliases : List ℕ) →
    is_among (mark ∷ aliases) m ≡ (mark == m) || (is_among aliases m || false)
commit_marks mark m aliases = ap (λ b. (mark == m) || b) (sym (or-false (is_among aliases m)))

event_parts : (earlier : List PlainEvent) (e : PlainEvent) → IsSoundEvent earlier e → IsAfter earlier e
event_parts earlier (Blob id mark bytes) h =
    record { new = h.0; new_mark = is_new earlier (mark ∷ []) (h.1, tt); lawful = tt; few = none_few; ready = refl }
event_parts earlier (Commit id mark branch author committer encoding comment parents ops aliases) h =
    let o = ops_there earlier ops h.9 in
    record {
      new = h.0;
      new_mark = λ m own. is_new earlier (mark ∷ aliases) (h.1, h.10) m (commit_marks mark m aliases ∙ own);
      lawful = (h.2, h.3, h.4, h.5, h.7, o.0, h.11);
      few = h.8;
      ready = true_all (has_id earlier) (map any.Commit parents ++ flat_map op_blobs ops) (all_join (There earlier) (map any.Commit parents) (flat_map op_blobs ops) (parents_there earlier parents h.6) o.1);
    }
event_parts earlier (Tag id name target tagger comment None) h =
    record { new = h.0; new_mark = λ m own. absurd (true≢false (sym own)); lawful = (h.1, h.3); few = none_few; ready = true_all (has_id earlier) (any.Commit target ∷ []) (h.2, tt) }
event_parts earlier (Tag id name target tagger comment (Some mark)) h =
    record {
      new = h.0;
      new_mark = λ m own. is_new earlier (mark ∷ []) (h.4, tt) m (sym (or-false (is_among (mark ∷ []) m)) ∙ own);
      lawful = (h.1, h.3);
      few = none_few;
      ready = true_all (has_id earlier) (any.Commit target ∷ []) (h.2, tt);
    }
event_parts earlier (Reset id branch None) h = record { new = h.0; new_mark = λ m own. absurd (true≢false (sym own)); lawful = h.1; few = none_few; ready = refl }
event_parts earlier (Reset id branch (Some target)) h =
    record { new = h.0; new_mark = λ m own. absurd (true≢false (sym own)); lawful = h.1; few = none_few; ready = true_all (has_id earlier) (any.Commit target ∷ []) (h.2, tt) }
event_parts earlier (Pass id line) h = record { new = h.0; new_mark = λ m own. absurd (true≢false (sym own)); lawful = h.1; few = none_few; ready = refl }

parts_event : (earlier : List PlainEvent) (e : PlainEvent) → IsAfter earlier e → IsSoundEvent earlier e
parts_event earlier (Blob id mark bytes) h =
    (h.new, h.new_mark mark (or_left (mark == mark) false (eq-eqb mark mark refl)))
parts_event earlier (Commit id mark branch author committer encoding comment parents ops aliases) h =
    let l = h.lawful in
    let refs = all_true (has_id earlier) (map any.Commit parents ++ flat_map op_blobs ops) h.ready in
    let marks = all_among (λ n. is_marked earlier n ≡ false) (mark ∷ aliases) (λ m own. h.new_mark m (sym (commit_marks mark m aliases) ∙ own)) in (
      h.new,
      marks.0,
      l.0,
      l.1,
      l.2,
      l.3,
      there_parents earlier parents (all_front (There earlier) (map any.Commit parents) (flat_map op_blobs ops) refs),
      l.4,
      h.few,
      there_ops earlier ops l.5 (all_rear (There earlier) (map any.Commit parents) (flat_map op_blobs ops) refs),
      marks.1,
      l.6,
    )
parts_event earlier (Tag id name target tagger comment None) h =
    (h.new, h.lawful.0, (all_true (has_id earlier) (any.Commit target ∷ []) h.ready).0, h.lawful.1, tt)
parts_event earlier (Tag id name target tagger comment (Some mark)) h = (
  h.new,
  h.lawful.0,
  (all_true (has_id earlier) (any.Commit target ∷ []) h.ready).0,
  h.lawful.1,
  h.new_mark mark (rw (eq-eqb mark mark refl) refl),
)
parts_event earlier (Reset id branch None) h = (h.new, h.lawful, tt)
parts_event earlier (Reset id branch (Some target)) h =
    (h.new, h.lawful, (all_true (has_id earlier) (any.Commit target ∷ []) h.ready).0)
parts_event earlier (Pass id line) h = (h.new, h.lawful)

-- ---- all events

ids_join : (id : AnyId) (xs ys : List PlainEvent) → has_id (xs ++ ys) id ≡ has_id xs id || has_id ys id
ids_join id xs ys = has_id_append xs ys id

marks_join : (m : ℕ) (xs ys : List PlainEvent) → is_marked (xs ++ ys) m ≡ is_marked xs m || is_marked ys m
marks_join m xs ys = is_marked_append xs ys m

lawful_parts : (earlier events : List PlainEvent) → AreSoundAfter earlier events →
    AllByRecursion IsLawful events × AllByRecursion HasFewParents events × AreInOrder earlier events
lawful_parts earlier [] h = (tt, tt, tt)
lawful_parts earlier (e ∷ es) h =
    let one = event_parts earlier e h.0 in
    let rest = lawful_parts (earlier ++ e ∷ []) es h.1 in
    ((one.lawful, rest.0), (one.few, rest.1), (one.ready, rest.2))

ids_once : (id : AnyId) (earlier events : List PlainEvent) → AreSoundAfter earlier events →
    tally (of_id id) earlier ≤ 1 → tally (of_id id) (earlier ++ events) ≤ 1
ids_once id earlier [] h once = subst (λ (l : List PlainEvent). tally (of_id id) l ≤ 1) (sym (append-nil earlier)) once
ids_once id earlier (e ∷ es) h once =
    let one = event_parts earlier e h.0 in
    subst (λ (l : List PlainEvent). tally (of_id id) l ≤ 1) (append_assoc earlier (e ∷ []) es)
    (ids_once id (earlier ++ e ∷ []) es h.1
    (still_once (λ l. has_id l id) (ids_join id) refl earlier e once
    (λ own. ap (has_id earlier) (same_id_true id (id_of e) (sym (own_id e id) ∙ own)) ∙ one.new)))

marks_once : (m : ℕ) (earlier events : List PlainEvent) → AreSoundAfter earlier events → tally (of_mark m) earlier ≤ 1 →
    tally (of_mark m) (earlier ++ events) ≤ 1
marks_once m earlier [] h once =
    subst (λ (l : List PlainEvent). tally (of_mark m) l ≤ 1) (sym (append-nil earlier)) once
marks_once m earlier (e ∷ es) h once =
    let one = event_parts earlier e h.0 in
    subst (λ (l : List PlainEvent). tally (of_mark m) l ≤ 1) (append_assoc earlier (e ∷ []) es)
    (marks_once m (earlier ++ e ∷ []) es h.1 (still_once (λ l. is_marked l m) (marks_join m) refl earlier e once (one.new_mark m)))

-- the first of some events that occur once in a list isn't earlier
pub new_there : (id : AnyId) (earlier : List PlainEvent) (e : PlainEvent) (es : List PlainEvent) →
    tally (of_id id) (earlier ++ e ∷ es) ≤ 1 → has_id (e ∷ []) id ≡ true → has_id earlier id ≡ false
new_there id earlier e es once own =
    not_before (λ l. has_id l id) (ids_join id) refl earlier (e ∷ es) once (ids_join id (e ∷ []) es ∙ ap (λ b. b || has_id es id) own)

new_marked : (m : ℕ) (earlier : List PlainEvent) (e : PlainEvent) (es : List PlainEvent) →
    tally (of_mark m) (earlier ++ e ∷ es) ≤ 1 → is_marked (e ∷ []) m ≡ true → is_marked earlier m ≡ false
new_marked m earlier e es once own =
    not_before (λ l. is_marked l m) (marks_join m) refl earlier (e ∷ es) once (marks_join m (e ∷ []) es ∙ ap (λ b. b || is_marked es m) own)

parts_sound : (earlier events : List PlainEvent) → AllByRecursion IsLawful events →
    AllByRecursion HasFewParents events → AreInOrder earlier events → AreOnce (earlier ++ events) →
    AreSoundAfter earlier events
parts_sound earlier [] l f s o = tt
parts_sound earlier (e ∷ es) l f s o = (
  parts_event earlier e (record {
    new = new_there (id_of e) earlier e es (o.ids (id_of e)) (has_own_id e);
    new_mark = λ m own. new_marked m earlier e es (o.marks m) own;
    lawful = l.0;
    few = f.0;
    ready = s.0;
  }),
  parts_sound (earlier ++ e ∷ []) es l.1 f.1 s.1 (subst AreOnce (sym (append_assoc earlier (e ∷ []) es)) o),
)

pub in_parts : (events : List PlainEvent) → IsSound events → IsSoundInParts events
in_parts events h =
    let parts = lawful_parts [] events h.formed in
    record {
      lawful = parts.0;
      spelled = h.spelled;
      few = parts.1;
      once = record { ids = λ id. ids_once id [] events h.formed (omega arith); marks = λ m. marks_once m [] events h.formed (omega arith) };
      in_order = parts.2;
      trees = h.trees;
    }

pub from_parts : (events : List PlainEvent) → IsSoundInParts events → IsSound events
from_parts events h = record { formed = parts_sound [] events h.lawful h.few h.in_order h.once; spelled = h.spelled; trees = h.trees }
