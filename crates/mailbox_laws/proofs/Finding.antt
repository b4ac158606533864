-- Events of a sound history are found by their marks.
use Rattle.std.proofs.Common.{◌≡◌, inl, inr, ℕ, Bool, true, false, cond, List, [], ◌∷◌, ◌++◌, map, Option, Some, refl, sym, ap, subst, ◌∙◌, eqb-true, eq-eqb}
use Rattle.std.specs.Prelude.{◌==◌}
use Rattle.std.specs.List.{AllByRecursion}
use Rattle.std.specs.Map.{lookup}
use Rattle.std.proofs.lemmas.Bool.{cases_Bool}
use Rattle.std.proofs.lemmas.Option.{none-some, same_Some}
use Rattle.plain_model.specs.declared.id.AnyId.{AnyId}
use Rattle.plain_model.specs.declared.id.AnyId.TheVariants as any
use Rattle.plain_model.specs.declared.event.PlainEvent.{PlainEvent}
use Rattle.plain_model.specs.Lookups.{event_marks, find_event, find_mark, id_of, marks_of, own_marks, same_id}
use Rattle.plain_model.specs.Marks.{IsMark}
use Rattle.plain_model.specs.Parts.{◌>>=◌}
use Rattle.plain_model.specs.Soundness.{IsSound}
use Rattle.plain_model.specs.Text.{marked}
use Rattle.event_arena.specs.Changes.{changed}
use Rattle.history_laws.specs.Once.{AreMarkedOnce}
use Rattle.history_laws.proofs.SoundOnce.{sound_once}
use Rattle.field_laws.proofs.FieldsAgain.{mark_again}
use Rattle.mailbox_laws.specs.Landing.{commit_alone, commit_marked, commit_meant}
use Rattle.mailbox_laws.specs.Reporting.{IsAmong}

-- ---- what holds of events that are found

pub found_holds : (P : PlainEvent → Type 0) (es : List PlainEvent) (id : AnyId) (e : PlainEvent) → AllByRecursion P es → find_event id es ≡ Some e → P e
found_holds P [] id e h is = absurd (none-some {A = PlainEvent} e is)
found_holds P (x ∷ es) id e h is = go (same_id id (id_of x)) is (found_holds P es id e h.1)
  where
    go : (t : Bool) → cond t (Some x) (find_event id es) ≡ Some e → (find_event id es ≡ Some e → P e) → P e
    go true is rec = subst P (same_Some {A = PlainEvent} x e is) h.0
    go false is rec = rec is

-- a change that changes nothing of the event that it is for
pub changed_still : (id : AnyId) (f : PlainEvent → PlainEvent) (es : List PlainEvent) (e : PlainEvent) → find_event id es ≡ Some e → f e ≡ e → changed id f es ≡ es
changed_still id f [] e is still = refl
changed_still id f (x ∷ es) e is still = go (same_id id (id_of x)) is (λ there. changed_still id f es e there still)
  where
    go : (t : Bool) → cond t (Some x) (find_event id es) ≡ Some e → (find_event id es ≡ Some e → changed id f es ≡ es) → cond t (f x ∷ es) (x ∷ changed id f es) ≡ x ∷ es
    go true is rec =
        let same = same_Some {A = PlainEvent} x e is in
        ap (λ (y : PlainEvent). y ∷ es) (ap f same ∙ still ∙ sym same)
    go false is rec = ap (λ (ys : List PlainEvent). x ∷ ys) (rec is)

-- ---- marks

looked_up : (ms : List (ℕ × AnyId)) → AreMarkedOnce ms → (x : ℕ × AnyId) → IsAmong x ms → lookup (λ n. x.0 == n) ms ≡ Some x.1
looked_up [] once x h = absurd h
looked_up (m ∷ ms) once x (inl is) =
    ap (λ t. cond t (Some m.1) (lookup (λ n. x.0 == n) ms)) (eq-eqb x.0 m.0 (ap (λ (y : ℕ × AnyId). y.0) is))
    ∙ ap (λ (y : ℕ × AnyId). Some y.1) (sym is)
looked_up (m ∷ ms) once x (inr later) =
    let there = looked_up ms once.1 x later in
    elim (cases_Bool (x.0 == m.0)) [
      | inl it ↦ absurd (none-some {A = AnyId} x.1 (sym once.0 ∙ ap (λ k. lookup (λ n. k == n) ms) (sym (eqb-true x.0 m.0 it)) ∙ there))
      | inr no_it ↦ ap (λ t. cond t (Some m.1) (lookup (λ n. x.0 == n) ms)) no_it ∙ there
    ]

among_front : {X : Type 0} (x : X) (xs ys : List X) → IsAmong x xs → IsAmong x (xs ++ ys)
among_front x [] ys h = absurd h
among_front x (y ∷ xs) ys (inl is) = inl is
among_front x (y ∷ xs) ys (inr later) = inr (among_front x xs ys later)

among_rear : {X : Type 0} (x : X) (xs ys : List X) → IsAmong x ys → IsAmong x (xs ++ ys)
among_rear x [] ys h = h
among_rear x (y ∷ xs) ys h = inr (among_rear x xs ys h)

among_own : (m : ℕ) (id : AnyId) (ms : List ℕ) → IsAmong m ms → IsAmong {X = ℕ × AnyId} (m, id) (map (λ n. (n, id)) ms)
among_own m id [] h = absurd h
among_own m id (n ∷ ms) (inl is) = inl (ap (λ k. (k, id)) is)
among_own m id (n ∷ ms) (inr later) = inr (among_own m id ms later)

among_marks : (es : List PlainEvent) (id : AnyId) (e : PlainEvent) (m : ℕ) → find_event id es ≡ Some e → IsAmong m (event_marks e) → IsAmong {X = ℕ × AnyId} (m, id_of e) (marks_of es)
among_marks [] id e m is h = absurd (none-some {A = PlainEvent} e is)
among_marks (x ∷ es) id e m is h = go (same_id id (id_of x)) is (λ there. among_marks es id e m there h)
  where
    own : x ≡ e → IsAmong {X = ℕ × AnyId} (m, id_of e) (own_marks x)
    own same = subst (λ (y : PlainEvent). IsAmong {X = ℕ × AnyId} (m, id_of e) (own_marks y)) (sym same) (among_own m (id_of e) (event_marks e) h)

    go : (t : Bool) → cond t (Some x) (find_event id es) ≡ Some e → (find_event id es ≡ Some e → IsAmong {X = ℕ × AnyId} (m, id_of e) (marks_of es))
        → IsAmong {X = ℕ × AnyId} (m, id_of e) (own_marks x ++ marks_of es)
    go true is rec = among_front {X = ℕ × AnyId} (m, id_of e) (own_marks x) (marks_of es) (own (same_Some {A = PlainEvent} x e is))
    go false is rec = among_rear {X = ℕ × AnyId} (m, id_of e) (own_marks x) (marks_of es) (rec is)

-- the event with a mark of a found event is that event
pub mark_finds : (events : List PlainEvent) → IsSound events → (id : AnyId) (e : PlainEvent) (m : ℕ) → find_event id events ≡ Some e → IsAmong m (event_marks e)
    → find_mark m events ≡ Some (id_of e)
mark_finds events sound id e m is h = looked_up (marks_of events) (sound_once events sound).marks (m, id_of e) (among_marks events id e m is h)

-- a commit is meant by its mark
pub commit_found : (events : List PlainEvent) (c m : ℕ) (e : PlainEvent) → IsMark m → find_mark m events ≡ Some (any.Commit c) → find_event (any.Commit c) events ≡ Some e
    → commit_meant events (marked m) ≡ Some e
commit_found events c m e is found there =
    ap (commit_marked events) (mark_again m is)
    ∙ ap (λ (o : Option AnyId). o >>= commit_alone >>= λ id. find_event id events) found
    ∙ there
