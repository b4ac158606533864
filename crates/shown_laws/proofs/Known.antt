-- What a sound history keeps when resets are before its roots: each referent is there, and all but the ids of tags,
-- resets and lines is as soundness wants it.
use Rattle.std.proofs.Common.{◌≡◌, ℕ, Bool, true, false, List, [], ◌∷◌, ◌++◌, refl, sym, ap, subst, ◌∙◌, Some, None, append_assoc}
use Rattle.std.specs.Prelude.{◌||◌, IsFalse, IsTrue, IfSome, if◌then◌else◌}
use Rattle.std.specs.List.{AllByRecursion}
use Rattle.plain_model.specs.declared.id.AnyId.TheVariants as any
use Rattle.plain_model.specs.declared.operation.Mode.TheVariants.{Plain, Executable, Link, Gitlink}
use Rattle.plain_model.specs.declared.operation.Content.TheVariants.{Blob as OfBlob, Object}
use Rattle.plain_model.specs.declared.operation.FileOp.{FileOp}
use Rattle.plain_model.specs.declared.operation.FileOp.TheVariants.{Modify, Delete, Copy, Rename, DeleteAll}
use Rattle.plain_model.specs.declared.event.PlainEvent.{PlainEvent}
use Rattle.plain_model.specs.declared.event.PlainEvent.TheVariants.{Blob, Commit, Tag, Reset, Pass}
use Rattle.plain_model.specs.Names.{is_name}
use Rattle.plain_model.specs.Trees.{TreeOf, has, put}
use Rattle.plain_model.specs.Soundness.{AreSoundAfter, IsCommitOf, IsFormedEvent, IsFormedSigned, IsSoundEvent, RefersBack, has_id, is_passed_line}
use Rattle.plain_model.specs.Streams.{is_marked}
use Rattle.history_laws.proofs.Ids.{has_id_append, has_id_still, has_own, is_marked_append}
use Rattle.std.proofs.Math.Bool.{or-false}
use Rattle.shown_laws.specs.AsWritten.{reset_from}
use Rattle.shown_laws.proofs.Tips.{without_branch}

-- ---- referents

-- a blob that an operation names is there
abbrev pub NamesKnown : List PlainEvent → FileOp → Type 0
NamesKnown w (Modify mode (OfBlob b) path) = IsTrue (has_id w (any.Blob b))
NamesKnown w (Modify mode (Object digits) path) = Unit {0}
NamesKnown w (Delete path) = Unit {0}
NamesKnown w (Copy source target) = Unit {0}
NamesKnown w (Rename source target) = Unit {0}
NamesKnown w DeleteAll = Unit {0}

-- an event of these, which refers to others of them
abbrev pub IsKnown : List PlainEvent → PlainEvent → Type 0
IsKnown w (Blob id mark bytes) = Unit {0}
IsKnown w (Commit id mark branch author committer encoding comment parents ops aliases) =
    IsCommitOf w id × AllByRecursion (IsCommitOf w) parents × AllByRecursion (NamesKnown w) ops
IsKnown w (Tag id name target tagger comment mark) = IsCommitOf w target
IsKnown w (Reset id branch target) = IfSome target (IsCommitOf w)
IsKnown w (Pass id line) = Unit {0}

abbrev pub AreKnown : List PlainEvent → List PlainEvent → Type 0
AreKnown w events = AllByRecursion (IsKnown w) events

module _ (earlier more : List PlainEvent) where
  commits_still : (parents : List ℕ) → AllByRecursion (IsCommitOf earlier) parents → AllByRecursion (IsCommitOf (earlier ++ more)) parents
  commits_still [] h = tt
  commits_still (p ∷ ps) h = (has_id_still earlier more (any.Commit p) h.0, commits_still ps h.1)

  op_known : (op : FileOp) → RefersBack earlier op → NamesKnown (earlier ++ more) op
  op_known (Modify Gitlink (OfBlob b) path) h = absurd h
  op_known (Modify Plain (OfBlob b) path) h = has_id_still earlier more (any.Blob b) h
  op_known (Modify Executable (OfBlob b) path) h = has_id_still earlier more (any.Blob b) h
  op_known (Modify Link (OfBlob b) path) h = has_id_still earlier more (any.Blob b) h
  op_known (Modify mode (Object digits) path) h = tt
  op_known (Delete path) h = tt
  op_known (Copy source target) h = tt
  op_known (Rename source target) h = tt
  op_known DeleteAll h = tt

  ops_known : (ops : List FileOp) → AllByRecursion (RefersBack earlier) ops → AllByRecursion (NamesKnown (earlier ++ more)) ops
  ops_known [] h = tt
  ops_known (op ∷ ops) h = (op_known op h.0, ops_known ops h.1)

-- an event after earlier ones, and before others
event_known : (earlier : List PlainEvent) (e : PlainEvent) (events : List PlainEvent) → IsSoundEvent earlier e → IsKnown (earlier ++ e ∷ events) e
event_known earlier (Blob id mark bytes) events h = tt
event_known earlier (Commit id mark branch author committer encoding comment parents ops aliases) events h = (
  has_own earlier events (Commit id mark branch author committer encoding comment parents ops aliases),
  commits_still earlier (Commit id mark branch author committer encoding comment parents ops aliases ∷ events) parents h.6,
  ops_known earlier (Commit id mark branch author committer encoding comment parents ops aliases ∷ events) ops h.9,
)
event_known earlier (Tag id name target tagger comment mark) events h = has_id_still earlier (Tag id name target tagger comment mark ∷ events) (any.Commit target) h.2
event_known earlier (Reset id branch None) events h = tt
event_known earlier (Reset id branch (Some c)) events h = has_id_still earlier (Reset id branch (Some c) ∷ events) (any.Commit c) h.2
event_known earlier (Pass id line) events h = tt

known_after : (earlier events : List PlainEvent) → AreSoundAfter earlier events → AreKnown (earlier ++ events) events
known_after earlier [] h = tt
known_after earlier (e ∷ events) h = (
  event_known earlier e events h.0,
  subst (λ (w : List PlainEvent). AreKnown w events) (append_assoc earlier (e ∷ []) events) (known_after (earlier ++ e ∷ []) events h.1),
)

-- in a sound history each referent is there
pub all_known : (events : List PlainEvent) → AreSoundAfter [] events → AreKnown events events
all_known events h = known_after [] events h

-- ---- a property of each event stays, if a reset has it where a commit on its branch has

module _ (P : PlainEvent → Type 0) (of_reset : (branch : List ℕ) → P (Reset 0 branch None)) where
  pub all_with_resets : (tips : TreeOf ℕ) (events : List PlainEvent) → AllByRecursion P events → AllByRecursion P (reset_from tips events)
  all_with_resets tips [] h = tt
  all_with_resets tips (Commit id mark branch author committer encoding comment [] ops aliases ∷ events) h = go (has tips branch) (all_with_resets (put branch id tips) events h.1)
    where
      go : (b : Bool) → AllByRecursion P (reset_from (put branch id tips) events)
          → AllByRecursion P ((if b then Reset 0 branch None ∷ [] else []) ++ Commit id mark branch author committer encoding comment [] ops aliases ∷ reset_from (put branch id tips) events)
      go true r = (of_reset branch, (h.0, r))
      go false r = (h.0, r)
  all_with_resets tips (Commit id mark branch author committer encoding comment (p ∷ ps) ops aliases ∷ events) h = (h.0, all_with_resets (put branch id tips) events h.1)
  all_with_resets tips (Blob id mark bytes ∷ events) h = (h.0, all_with_resets tips events h.1)
  all_with_resets tips (Tag id name target tagger comment mark ∷ events) h = (h.0, all_with_resets tips events h.1)
  all_with_resets tips (Reset id branch None ∷ events) h = (h.0, all_with_resets (without_branch branch tips) events h.1)
  all_with_resets tips (Reset id branch (Some c) ∷ events) h = (h.0, all_with_resets (put branch c tips) events h.1)
  all_with_resets tips (Pass id line ∷ events) h = (h.0, all_with_resets tips events h.1)

pub known_with_resets : (w : List PlainEvent) (tips : TreeOf ℕ) (events : List PlainEvent) → AreKnown w events → AreKnown w (reset_from tips events)
known_with_resets w = all_with_resets (IsKnown w) (λ branch. tt)

pub formed_with_resets : (tips : TreeOf ℕ) (events : List PlainEvent) → AllByRecursion IsFormedEvent events → AllByRecursion IsFormedEvent (reset_from tips events)
formed_with_resets = all_with_resets IsFormedEvent (λ branch. tt)

-- ---- soundness but for the ids of tags, resets and lines, which nothing refers to

abbrev pub IsFitEvent : List PlainEvent → PlainEvent → Type 0
IsFitEvent earlier (Blob id mark bytes) = IsSoundEvent earlier (Blob id mark bytes)
IsFitEvent earlier (Commit id mark branch author committer encoding comment parents ops aliases) = IsSoundEvent earlier (Commit id mark branch author committer encoding comment parents ops aliases)
IsFitEvent earlier (Tag id name target tagger comment mark) =
    IsTrue (is_name name) × IsCommitOf earlier target × IfSome tagger IsFormedSigned × IfSome mark (λ m. IsFalse (is_marked earlier m))
IsFitEvent earlier (Reset id branch target) = IsTrue (is_name branch) × IfSome target (IsCommitOf earlier)
IsFitEvent earlier (Pass id line) = IsTrue (is_passed_line line)

abbrev pub AreFitAfter : List PlainEvent → List PlainEvent → Type 0
AreFitAfter earlier [] = Unit {0}
AreFitAfter earlier (e ∷ events) = IsFitEvent earlier e × AreFitAfter (earlier ++ e ∷ []) events

-- the two have the same blobs, commits and marks
record AreAlike (old new : List PlainEvent) : Type 0 where
  blobs : (b : ℕ) → has_id old (any.Blob b) ≡ has_id new (any.Blob b)
  commits : (c : ℕ) → has_id old (any.Commit c) ≡ has_id new (any.Commit c)
  marks : (m : ℕ) → is_marked old m ≡ is_marked new m

alike_more : (old new : List PlainEvent) (e : PlainEvent) → AreAlike old new → AreAlike (old ++ e ∷ []) (new ++ e ∷ [])
alike_more old new e a = record {
  blobs = λ b. has_id_append old (e ∷ []) (any.Blob b) ∙ ap (λ t. t || has_id (e ∷ []) (any.Blob b)) (a.blobs b) ∙ sym (has_id_append new (e ∷ []) (any.Blob b));
  commits = λ c. has_id_append old (e ∷ []) (any.Commit c) ∙ ap (λ t. t || has_id (e ∷ []) (any.Commit c)) (a.commits c) ∙ sym (has_id_append new (e ∷ []) (any.Commit c));
  marks = λ m. is_marked_append old (e ∷ []) m ∙ ap (λ t. t || is_marked (e ∷ []) m) (a.marks m) ∙ sym (is_marked_append new (e ∷ []) m);
}

-- a reset more
alike_reset : (old new : List PlainEvent) (branch : List ℕ) → AreAlike old new → AreAlike old (new ++ Reset 0 branch None ∷ [])
alike_reset old new branch a = record {
  blobs = λ b. a.blobs b ∙ sym (has_id_append new (Reset 0 branch None ∷ []) (any.Blob b) ∙ or-false (has_id new (any.Blob b)));
  commits = λ c. a.commits c ∙ sym (has_id_append new (Reset 0 branch None ∷ []) (any.Commit c) ∙ or-false (has_id new (any.Commit c)));
  marks = λ m. a.marks m ∙ sym (is_marked_append new (Reset 0 branch None ∷ []) m ∙ or-false (is_marked new m));
}

module _ (old new : List PlainEvent) (a : AreAlike old new) where
  parents_alike : (parents : List ℕ) → AllByRecursion (IsCommitOf old) parents → AllByRecursion (IsCommitOf new) parents
  parents_alike [] h = tt
  parents_alike (p ∷ ps) h = (sym (a.commits p) ∙ h.0, parents_alike ps h.1)

  op_alike : (op : FileOp) → RefersBack old op → RefersBack new op
  op_alike (Modify Gitlink (OfBlob b) path) h = h
  op_alike (Modify Plain (OfBlob b) path) h = sym (a.blobs b) ∙ h
  op_alike (Modify Executable (OfBlob b) path) h = sym (a.blobs b) ∙ h
  op_alike (Modify Link (OfBlob b) path) h = sym (a.blobs b) ∙ h
  op_alike (Modify Gitlink (Object digits) path) h = tt
  op_alike (Modify Plain (Object digits) path) h = tt
  op_alike (Modify Executable (Object digits) path) h = tt
  op_alike (Modify Link (Object digits) path) h = tt
  op_alike (Delete path) h = tt
  op_alike (Copy source target) h = tt
  op_alike (Rename source target) h = tt
  op_alike DeleteAll h = tt

  ops_alike : (ops : List FileOp) → AllByRecursion (RefersBack old) ops → AllByRecursion (RefersBack new) ops
  ops_alike [] h = tt
  ops_alike (op ∷ ops) h = (op_alike op h.0, ops_alike ops h.1)

  unmarked_alike : (marks : List ℕ) → AllByRecursion (λ m. IsFalse (is_marked old m)) marks → AllByRecursion (λ m. IsFalse (is_marked new m)) marks
  unmarked_alike [] h = tt
  unmarked_alike (m ∷ marks) h = (sym (a.marks m) ∙ h.0, unmarked_alike marks h.1)

  event_fit : (e : PlainEvent) → IsSoundEvent old e → IsFitEvent new e
  event_fit (Blob id mark bytes) h = (sym (a.blobs id) ∙ h.0, sym (a.marks mark) ∙ h.1)
  event_fit (Commit id mark branch author committer encoding comment parents ops aliases) h =
      (sym (a.commits id) ∙ h.0, sym (a.marks mark) ∙ h.1, h.2, h.3, h.4, h.5, parents_alike parents h.6, h.7, h.8, ops_alike ops h.9, unmarked_alike aliases h.10, h.11)
  event_fit (Tag id name target tagger comment None) h = (h.1, sym (a.commits target) ∙ h.2, h.3, tt)
  event_fit (Tag id name target tagger comment (Some mark)) h = (h.1, sym (a.commits target) ∙ h.2, h.3, sym (a.marks mark) ∙ h.4)
  event_fit (Reset id branch None) h = (h.1, tt)
  event_fit (Reset id branch (Some c)) h = (h.1, sym (a.commits c) ∙ h.2)
  event_fit (Pass id line) h = h.1

fit_after : (old new : List PlainEvent) → AreAlike old new → (tips : TreeOf ℕ) (events : List PlainEvent) → AreSoundAfter old events → AreFitAfter new (reset_from tips events)
fit_after old new a tips [] h = tt
fit_after old new a tips (Commit id mark branch author committer encoding comment [] ops aliases ∷ events) h =
    go (has tips branch) (λ new a. fit_after (old ++ Commit id mark branch author committer encoding comment [] ops aliases ∷ []) (new ++ Commit id mark branch author committer encoding comment [] ops aliases ∷ []) (alike_more old new _ a) (put branch id tips) events h.1)
  where
    e : PlainEvent
    e = Commit id mark branch author committer encoding comment [] ops aliases

    go : (b : Bool) → ((new : List PlainEvent) → AreAlike old new → AreFitAfter (new ++ e ∷ []) (reset_from (put branch id tips) events))
        → AreFitAfter new ((if b then Reset 0 branch None ∷ [] else []) ++ e ∷ reset_from (put branch id tips) events)
    go true rest =
        let alike = alike_reset old new branch a in
        ((h.0.2, tt), (event_fit old (new ++ Reset 0 branch None ∷ []) alike e h.0, rest (new ++ Reset 0 branch None ∷ []) alike))
    go false rest = (event_fit old new a e h.0, rest new a)
fit_after old new a tips (Commit id mark branch author committer encoding comment (p ∷ ps) ops aliases ∷ events) h =
    let e : PlainEvent = Commit id mark branch author committer encoding comment (p ∷ ps) ops aliases in
    (event_fit old new a e h.0, fit_after (old ++ e ∷ []) (new ++ e ∷ []) (alike_more old new e a) (put branch id tips) events h.1)
fit_after old new a tips (Blob id mark bytes ∷ events) h =
    let e : PlainEvent = Blob id mark bytes in
    (event_fit old new a e h.0, fit_after (old ++ e ∷ []) (new ++ e ∷ []) (alike_more old new e a) tips events h.1)
fit_after old new a tips (Tag id name target tagger comment mark ∷ events) h =
    let e : PlainEvent = Tag id name target tagger comment mark in
    (event_fit old new a e h.0, fit_after (old ++ e ∷ []) (new ++ e ∷ []) (alike_more old new e a) tips events h.1)
fit_after old new a tips (Reset id branch None ∷ events) h =
    let e : PlainEvent = Reset id branch None in
    (event_fit old new a e h.0, fit_after (old ++ e ∷ []) (new ++ e ∷ []) (alike_more old new e a) (without_branch branch tips) events h.1)
fit_after old new a tips (Reset id branch (Some c) ∷ events) h =
    let e : PlainEvent = Reset id branch (Some c) in
    (event_fit old new a e h.0, fit_after (old ++ e ∷ []) (new ++ e ∷ []) (alike_more old new e a) (put branch c tips) events h.1)
fit_after old new a tips (Pass id line ∷ events) h =
    let e : PlainEvent = Pass id line in
    (event_fit old new a e h.0, fit_after (old ++ e ∷ []) (new ++ e ∷ []) (alike_more old new e a) tips events h.1)

pub fit_with_resets : (tips : TreeOf ℕ) (events : List PlainEvent) → AreSoundAfter [] events → AreFitAfter [] (reset_from tips events)
fit_with_resets tips events h = fit_after [] [] (record { blobs = λ b. refl; commits = λ c. refl; marks = λ m. refl }) tips events h
