-- Where settling doesn't come to its end, though all that is referred to is there, a commit is never taken; and settling
-- comes to its end only where the commits can be numbered.
use Rattle.std.proofs.Common.{◌≡◌, ℕ, zero, suc, ◌≤◌, Bool, true, false, List, [], ◌∷◌, ◌++◌, length, refl, sym, ap, subst, ◌∙◌, arith, true≢false, Option, Some, None, is_some, Err, IsTrue}
use Rattle.std.proofs.Math.Bool.{or_assoc}
use Rattle.std.specs.Prelude.{◌||◌, IsSome}
use Rattle.std.specs.List.{AllByRecursion}
use Rattle.plain_model.specs.declared.id.AnyId.{AnyId}
use Rattle.plain_model.specs.declared.id.AnyId.TheVariants as any
use Rattle.plain_model.specs.declared.event.PlainEvent.{PlainEvent}
use Rattle.plain_model.specs.declared.event.PlainEvent.TheVariants.{Blob, Commit, Tag, Reset, Pass}
use Rattle.plain_model.specs.Soundness.{has_id}
use Rattle.edit_laws.specs.Settling.{first_commit_mark, first_ready, is_ready, settle, settle_on}
use Rattle.edit_laws.specs.Parts.{AreComplete}
use Rattle.edit_laws.proofs.Lists.{all_true, true_all}
use Rattle.history_laws.proofs.Ids.{has_id_append}
use Rattle.edit_laws.proofs.Settled.{Pick, first_or, go_on, picked}

-- what is left when settling stops
record Stops (P : PlainEvent → Type 0) (taken es left : List PlainEvent) : Type 0 where
  all_taken : List PlainEvent
  none_ready : first_ready all_taken left ≡ None
  ids : (id : AnyId) → has_id taken id || has_id es id ≡ has_id all_taken id || has_id left id
  some_left : (e : PlainEvent) × (rest : List PlainEvent) × (left ≡ e ∷ rest)
  all : AllByRecursion P left

stops : (P : PlainEvent → Type 0) (n : ℕ) (taken es left : List PlainEvent) → AllByRecursion P es → length es ≤ n →
    settle_on n taken es ≡ Err left → Stops P taken es left
stops P n taken [] left a few h = absurd cc
stops P zero taken (e ∷ es) left a few h = absurd (omega arith)
stops P (suc n) taken (e ∷ es) left a few h = go (first_ready taken (e ∷ es)) refl h (λ f r b shorter x. stops P n (taken ++ f ∷ []) r left b shorter x)
  where
    go : (o : Pick) → first_ready taken (e ∷ es) ≡ o → go_on n taken (e ∷ es) o ≡ Err left
        → ((f : PlainEvent) (r : List PlainEvent) → AllByRecursion P r → length r ≤ n → settle_on n (taken ++ f ∷ []) r ≡ Err left → Stops P (taken ++ f ∷ []) r left) →
        Stops P taken (e ∷ es) left
    go None x y f =
        let is : e ∷ es ≡ left = cc in
        record {
          all_taken = taken;
          none_ready = subst (λ (l : List PlainEvent). first_ready taken l ≡ None) is x;
          ids = λ id. ap (λ (l : List PlainEvent). has_id taken id || has_id l id) is;
          some_left = (e, es, sym is);
          all = subst (AllByRecursion P) is a;
        }
    go (Some r) x y f =
        let p = picked P taken (e ∷ es) a r.0 r.1 x in
        let fewer : suc (length es) ≡ suc (length r.1) = p.fewer in
        let s = f r.0 r.1 p.others (omega arith) y in
        record {
          all_taken = s.all_taken;
          none_ready = s.none_ready;
          ids = λ id.
              ap (λ b. has_id taken id || b) (p.ids id)
              ∙ sym (or_assoc (has_id taken id) (has_id (r.0 ∷ []) id) (has_id r.1 id))
              ∙ ap (λ b. b || has_id r.1 id) (sym (has_id_append taken (r.0 ∷ []) id))
              ∙ s.ids id;
          some_left = s.some_left;
          all = s.all;
        }

-- ---- a commit among them

no_commit : (left : List PlainEvent) → first_commit_mark left ≡ None → (c : ℕ) → has_id left (any.Commit c) ≡ false
no_commit [] h c = refl
no_commit (Commit id mark branch author committer encoding comment parents ops aliases ∷ es) h c = absurd cc
no_commit (Blob id mark bytes ∷ es) h c = no_commit es h c
no_commit (Tag id name target tagger comment mark ∷ es) h c = no_commit es h c
no_commit (Reset id branch target ∷ es) h c = no_commit es h c
no_commit (Pass id line ∷ es) h c = no_commit es h c

-- an event that isn't a commit is ready where no commit is left
ready_then : (taken left events : List PlainEvent) →
    ((id : AnyId) → has_id events id ≡ has_id taken id || has_id left id) →
    ((c : ℕ) → has_id left (any.Commit c) ≡ false) → (c : ℕ) → has_id events (any.Commit c) ≡ true →
    has_id taken (any.Commit c) ≡ true
ready_then taken left events ids none c h =
    either (has_id taken (any.Commit c)) (has_id left (any.Commit c)) (none c) (sym (ids (any.Commit c)) ∙ h)
  where
    either : (a b : Bool) → b ≡ false → a || b ≡ true → a ≡ true
    either true b e h = refl
    either false true e h = absurd (true≢false e)
    either false false e h = absurd (true≢false (sym h))

pub stuck_commit : (events left : List PlainEvent) → AreComplete events → settle events ≡ Err left →
    IsSome (first_commit_mark left)
stuck_commit events left r h = go (first_commit_mark left) refl
  where
    s : Stops (λ e. IsTrue (is_ready events e)) [] events left
    s = stops (λ e. IsTrue (is_ready events e)) (length events) [] events left r (omega arith) h

    never : (e : PlainEvent) (rest : List PlainEvent) → is_ready s.all_taken e ≡ true →
        first_ready s.all_taken (e ∷ rest) ≡ None → ⊥
    never e rest ok none = let some = ap (λ b. is_some (first_or b e rest (first_ready s.all_taken rest))) ok in true≢false (sym some ∙ ap is_some none)

    head : (e : PlainEvent) (rest : List PlainEvent) → left ≡ e ∷ rest → first_commit_mark (e ∷ rest) ≡ None →
        IsTrue (is_ready events e) → is_ready s.all_taken e ≡ true
    head (Commit id mark branch author committer encoding comment parents ops aliases) rest is none ok = absurd cc
    head (Blob id mark bytes) rest is none ok = refl
    head (Tag id name target tagger comment mark) rest is none ok =
        true_all (has_id s.all_taken) (any.Commit target ∷ [])
        (ready_then s.all_taken left events (λ id. s.ids id) (λ c. no_commit left (ap first_commit_mark is ∙ none) c) target (all_true (has_id events) (any.Commit target ∷ []) ok).0, tt)
    head (Reset id branch None) rest is none ok = refl
    head (Reset id branch (Some target)) rest is none ok =
        true_all (has_id s.all_taken) (any.Commit target ∷ [])
        (ready_then s.all_taken left events (λ id. s.ids id) (λ c. no_commit left (ap first_commit_mark is ∙ none) c) target (all_true (has_id events) (any.Commit target ∷ []) ok).0, tt)
    head (Pass id line) rest is none ok = refl

    go : (o : Option ℕ) → first_commit_mark left ≡ o → IsSome o
    go (Some m) e = refl
    go None e =
        let is = s.some_left.2 in
        absurd (never s.some_left.0 s.some_left.1
        (head s.some_left.0 s.some_left.1 is (ap first_commit_mark (sym is) ∙ e) (subst (AllByRecursion (λ e. IsTrue (is_ready events e))) is s.all).0)
        (subst (λ (l : List PlainEvent). first_ready s.all_taken l ≡ None) is s.none_ready))
