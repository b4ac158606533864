-- What holds of an event at its position in a history such as reading gives it.
use Rattle.std.proofs.Common.{◌≡◌, ℕ, suc, ◌+◌, true, false, not, List, [], ◌∷◌, ◌++◌, length, Option, Some, refl, sym, ap, subst, ◌∙◌, arith, eq-eqb, append_assoc, append-nil}
use Rattle.std.specs.Prelude.{is_some, ◌==◌, ◌||◌, ◌&&◌, IsTrue, IsFalse}
use Rattle.std.specs.List.{AllByRecursion}
use Rattle.std.proofs.lemmas.Bool.{and_parts, or_left, not-true}
use Rattle.plain_model.specs.declared.id.AnyId.TheVariants as any
use Rattle.plain_model.specs.declared.operation.FileOp.{FileOp}
use Rattle.plain_model.specs.declared.operation.FileOp.TheVariants.{Delete}
use Rattle.plain_model.specs.declared.path.PathFault.{PathFault}
use Rattle.plain_model.specs.declared.person.Signed.{Signed}
use Rattle.plain_model.specs.declared.event.PlainEvent.{PlainEvent}
use Rattle.plain_model.specs.declared.event.PlainEvent.TheVariants.{Blob, Commit, Tag}
use Rattle.plain_model.specs.Lookups.{id_of, id_number}
use Rattle.plain_model.specs.Paths.{Bytes, path_fault}
use Rattle.plain_model.specs.Snapshots.{refs}
use Rattle.plain_model.specs.Soundness.{AreSoundAfter, IsFormedEvent, IsSoundEvent, are_distinct, has_id}
use Rattle.plain_model.specs.Streams.{is_among, is_marked}
use Rattle.plain_model.specs.Trees.{at, has}
use Rattle.round_trip_laws.specs.AsRead.{IsRooted, AreRootedAfter, IsAsRead}
use Rattle.history_laws.specs.Placed.{ArePlaced}

-- ---- positions

holds_at : {A : Type 0} (P : A → Type 0) (front back : List A) (x : A) → AllByRecursion P (front ++ x ∷ back) → P x
holds_at P [] back x h = h.0
holds_at P (y ∷ front) back x h = holds_at P front back x h.1

placed_at : (k : ℕ) (front back : List PlainEvent) (e : PlainEvent) → ArePlaced k (front ++ e ∷ back) → id_number (id_of e) ≡ k + length front
placed_at k [] back e h = h.0 ∙ (let same : k ≡ k + 0 = omega arith in same)
placed_at k (x ∷ front) back e h = placed_at (suc k) front back e h.1 ∙ (let same : suc k + length front ≡ k + suc (length front) = omega arith in same)

sound_at : (earlier front back : List PlainEvent) (e : PlainEvent) → AreSoundAfter earlier (front ++ e ∷ back) → IsSoundEvent (earlier ++ front) e
sound_at earlier [] back e h = subst (λ (l : List PlainEvent). IsSoundEvent l e) (sym (append-nil earlier)) h.0
sound_at earlier (x ∷ front) back e h = subst (λ (l : List PlainEvent). IsSoundEvent l e) (append_assoc earlier (x ∷ []) front) (sound_at (earlier ++ x ∷ []) front back e h.1)

rooted_at : (earlier front back : List PlainEvent) (e : PlainEvent) → AreRootedAfter earlier (front ++ e ∷ back) → IsRooted (earlier ++ front) e
rooted_at earlier [] back e h = subst (λ (l : List PlainEvent). IsRooted l e) (sym (append-nil earlier)) h.0
rooted_at earlier (x ∷ front) back e h = subst (λ (l : List PlainEvent). IsRooted l e) (append_assoc earlier (x ∷ []) front) (rooted_at (earlier ++ x ∷ []) front back e h.1)

module _ (front back : List PlainEvent) where
  -- what holds of the event in soundness
  own_sound : (e : PlainEvent) → IsAsRead (front ++ e ∷ back) → IsSoundEvent front e
  own_sound e h = sound_at [] front back e h.sound.formed

  pub own_place : (e : PlainEvent) → IsAsRead (front ++ e ∷ back) → id_number (id_of e) ≡ length front + 1
  own_place e h = placed_at 1 front back e h.placed ∙ (let same : 1 + length front ≡ length front + 1 = omega arith in same)

  -- ---- what is never read

  pub no_mark : (id : ℕ) (bytes : Bytes) → IsAsRead (front ++ Blob id 0 bytes ∷ back) → ⊥
  no_mark id bytes h = let least = (holds_at IsFormedEvent front back (Blob id 0 bytes) h.sound.spelled).0 in absurd (omega arith)

  pub mark_twice : (id mark : ℕ) (bytes : Bytes) → IsTrue (is_marked front mark) → IsAsRead (front ++ Blob id mark bytes ∷ back) → ⊥
  mark_twice id mark bytes there h = let new = (own_sound (Blob id mark bytes) h).1 in absurd cc

  module _ (id mark : ℕ) (branch : Bytes) (author committer : Signed) (encoding : Option Bytes) (comment : Bytes) where
    abbrev commit : List ℕ → List FileOp → List ℕ → PlainEvent
    commit parents ops aliases = Commit id mark branch author committer encoding comment parents ops aliases

    pub alias_twice : (parents : List ℕ) (ops : List FileOp) (alias : ℕ) (aliases : List ℕ) → IsTrue (is_marked front alias) → IsAsRead (front ++ commit parents ops (alias ∷ aliases) ∷ back) → ⊥
    alias_twice parents ops alias aliases there h = let new = (own_sound (commit parents ops (alias ∷ aliases)) h).10.0 in absurd cc

    pub own_alias : (parents : List ℕ) (ops : List FileOp) (aliases : List ℕ) → IsAsRead (front ++ commit parents ops (mark ∷ aliases) ∷ back) → ⊥
    own_alias parents ops aliases h =
        let apart = and_parts (not ((mark == mark) || is_among aliases mark)) (are_distinct (mark ∷ aliases)) (own_sound (commit parents ops (mark ∷ aliases)) h).11 in
        let isnt : ((mark == mark) || is_among aliases mark) ≡ false = not-true ((mark == mark) || is_among aliases mark) apart.0 in
        let is : ((mark == mark) || is_among aliases mark) ≡ true = or_left (mark == mark) (is_among aliases mark) (eq-eqb mark mark refl) in
        absurd cc

    pub parent_twice : (p : ℕ) (ops : List FileOp) (aliases : List ℕ) → IsAsRead (front ++ commit (p ∷ p ∷ []) ops aliases ∷ back) → ⊥
    parent_twice p ops aliases h =
        let apart = and_parts (not ((p == p) || false)) (not false && true) (own_sound (commit (p ∷ p ∷ []) ops aliases) h).7 in
        let isnt : ((p == p) || false) ≡ false = not-true ((p == p) || false) apart.0 in
        let is : ((p == p) || false) ≡ true = or_left (p == p) false (eq-eqb p p refl) in
        absurd cc

    pub later_parent : (p : ℕ) (ps : List ℕ) (ops : List FileOp) (aliases : List ℕ) → IsFalse (has_id front (any.Commit p)) → IsAsRead (front ++ commit (p ∷ ps) ops aliases ∷ back) → ⊥
    later_parent p ps ops aliases isnt h = let there = (own_sound (commit (p ∷ ps) ops aliases) h).6.0 in absurd cc

    pub root_on_tip : (tip : ℕ) (ops : List FileOp) (aliases : List ℕ) → at (refs front) branch ≡ Some tip → IsAsRead (front ++ commit [] ops aliases ∷ back) → ⊥
    root_on_tip tip ops aliases is h = let none = rooted_at [] front back (commit [] ops aliases) h.rooted in let there : has (refs front) branch ≡ true = ap is_some is in absurd cc

    pub no_path : (parents : List ℕ) (path : Bytes) (fault : PathFault) (ops : List FileOp) (aliases : List ℕ) → path_fault path ≡ Some fault → IsAsRead (front ++ commit parents (Delete path ∷ ops) aliases ∷ back) → ⊥
    no_path parents path fault ops aliases is h = let none = (holds_at IsFormedEvent front back (commit parents (Delete path ∷ ops) aliases) h.sound.spelled).1.0 in absurd cc

  pub later_target : (id target : ℕ) (name : Bytes) (tagger : Option Signed) (comment : Bytes) (mark : Option ℕ) → IsFalse (has_id front (any.Commit target)) → IsAsRead (front ++ Tag id name target tagger comment mark ∷ back) → ⊥
  later_target id target name tagger comment mark isnt h = let there = (own_sound (Tag id name target tagger comment mark) h).2 in absurd cc

  pub tag_mark_twice : (id target : ℕ) (name : Bytes) (tagger : Option Signed) (comment : Bytes) (mark : ℕ) → IsTrue (is_marked front mark) → IsAsRead (front ++ Tag id name target tagger comment (Some mark) ∷ back) → ⊥
  tag_mark_twice id target name tagger comment mark there h = let new = (own_sound (Tag id name target tagger comment (Some mark)) h).4 in absurd cc
