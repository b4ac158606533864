-- A number that is no mark is none of a sound history.
use Rattle.std.proofs.Common.{◌≡◌, ℕ, Bool, true, false, List, [], ◌∷◌, ◌++◌, inl, inr, Option, None, refl, subst, sym}
use Rattle.std.specs.Prelude.{◌==◌, map, option_to_list, IfSome}
use Rattle.std.specs.List.{AllByRecursion}
use Rattle.std.specs.Map.{lookup}
use Rattle.std.proofs.lemmas.Bool.{cases_Bool, eqb-true}
use Rattle.plain_model.specs.Lookups.{event_marks, find_mark, id_of, marks_of}
use Rattle.plain_model.specs.Marks.{IsMark}
use Rattle.plain_model.specs.Soundness.{IsFormedEvent, IsSound}
use Rattle.plain_model.specs.declared.id.AnyId.{AnyId}
use Rattle.plain_model.specs.declared.event.PlainEvent.{PlainEvent}
use Rattle.history_laws.proofs.SoundMarks.{marks_formed}

module _ (n : ℕ) (no_mark : IsMark n → ⊥) where
  not_among : (id : AnyId) (marks : List ℕ) (others : List (ℕ × AnyId)) → AllByRecursion IsMark marks
      → lookup (λ m. n == m) others ≡ None → lookup (λ m. n == m) (map (λ mark. (mark, id)) marks ++ others) ≡ None
  not_among id [] others h k = k
  not_among id (mark ∷ marks) others h k =
      elim (cases_Bool (n == mark)) [
        | inl is ↦ absurd (no_mark (subst IsMark (sym (eqb-true n mark is)) h.0))
        | inr isnt ↦ rw isnt (not_among id marks others h.1 k)
      ]

  none_in : (events : List PlainEvent) → AllByRecursion IsFormedEvent events
      → lookup (λ m. n == m) (marks_of events) ≡ None
  none_in [] h = refl
  none_in (e ∷ events) h = not_among (id_of e) (event_marks e) (marks_of events) (marks_formed e h.0) (none_in events h.1)

  pub unmarked : (events : List PlainEvent) → IsSound events → find_mark n events ≡ None
  unmarked events h = none_in events h.spelled
