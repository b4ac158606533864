-- Where tags and resets of removed commits go.
use Rattle.std.proofs.Common.{◌≡◌, ◌∙◌, ℕ, suc, ◌<◌, ◌≤◌, false, cond, inl, inr, List, [], Option, Some, None, sym, ap, length, get_or, arith, true≢false}
use Rattle.std.proofs.lemmas.Bool.{cases_eq, cond-false, cond-true, eq-eqb, ne_eqb}
use Rattle.std.proofs.lemmas.List.{get_or_past}
use Rattle.std.proofs.lemmas.Option.{same_Some, slice_get_within}
use Rattle.std.specs.List.{list_any}
use Rattle.std.specs.Prelude.{◌==◌, is_some, option_and_then, slice_get}
use Rattle.plain_model.specs.declared.id.AnyId.{AnyId}
use Rattle.plain_model.specs.declared.event.PlainEvent.{PlainEvent}
use Rattle.squash_laws.specs.Takings.{moved}
use Rattle.plain_model.specs.declared.policy.Lean.{Lean}
use Rattle.plan_steps.proofs.Counting.{any_item}
use Rattle.plan_steps.specs.Targets.{AreMoves, EndsWith, lost_target, moving}
use Rattle.plan_steps.proofs.NearLemmas.{lost_is}

-- the first tags and resets on removed commits have where they go, and nothing later has an entry
pub record AreMovesTo (set : List AnyId) (goes_to : ℕ → Option ℕ) (events : List PlainEvent) (k : ℕ) (table : List (Option ℕ)) : Type 0 where
  pub count : length table ≤ k
  pub entry : (j : ℕ) (e : PlainEvent) → slice_get events j ≡ Some e → j < k → get_or table j None ≡ option_and_then goes_to (lost_target set e)

module _ (set : List AnyId) (goes_to : ℕ → Option ℕ) (events : List PlainEvent) where
  -- one event more, which goes nowhere
  pub moves_same : (k : ℕ) (e : PlainEvent) (table : List (Option ℕ)) → slice_get events k ≡ Some e → option_and_then goes_to (lost_target set e) ≡ None →
      AreMovesTo set goes_to events k table → AreMovesTo set goes_to events (suc k) table
  moves_same k e table at none t = record {
    count = let short = t.count in omega arith;
    entry = λ j d here low. elim (cases_eq j k) [
      | inl same ↦
          get_or_past table j None (let short = t.count in omega arith) ∙ sym none
          ∙ ap (λ x. option_and_then goes_to (lost_target set x)) (same_Some e d (sym at ∙ ap (slice_get events) (sym same) ∙ here))
      | inr other ↦ t.entry j d here (omega arith)
    ];
  }

  -- or to a commit
  pub moves_more : (k target : ℕ) (e : PlainEvent) (old new : List (Option ℕ)) → slice_get events k ≡ Some e →
      Some target ≡ option_and_then goes_to (lost_target set e) → EndsWith k target old new →
      AreMovesTo set goes_to events k old → AreMovesTo set goes_to events (suc k) new
  moves_more k target e old new at is ends t = record {
    count = let whole = ends.count in omega arith;
    entry = λ j d here low. ends.entry j ∙ elim (cases_eq j k) [
      | inl same ↦
          cond-true (j == k) (Some target) (get_or old j None) (eq-eqb j k same) ∙ is
          ∙ ap (λ x. option_and_then goes_to (lost_target set x)) (same_Some e d (sym at ∙ ap (slice_get events) (sym same) ∙ here))
      | inr other ↦ cond-false (j == k) (Some target) (get_or old j None) (ne_eqb j k other) ∙ t.entry j d here (omega arith)
    ];
  }

-- ---- all of them

-- where all have theirs, and the others stay
pub moves_all : (set : List AnyId) (events : List PlainEvent) (tags : Lean) (k : ℕ) (table : List (Option ℕ)) → length events ≤ k →
    AreMovesTo set (moved set events tags) events k table → AreMoves set (moving set events tags) events table
moves_all set events tags k table all t = record {
  target = λ j c e at on.
      t.entry j e at (let low = slice_get_within events j e at in omega arith) ∙ ap (option_and_then (moved set events tags)) on
      ∙ sym (ap (λ b. cond b (moved set events tags c) (Some c)) (lost_is set c e on).1);
  stays = λ c kept. ap (λ b. cond b (moved set events tags c) (Some c)) kept;
}

-- where none is on a removed commit
pub moves_none : (set : List AnyId) (events : List PlainEvent) (tags : Lean) → list_any (λ e. is_some (lost_target set e)) events ≡ false →
    AreMoves set (moving set events tags) events []
moves_none set events tags none = record {
  target = λ j c e at on. absurd (true≢false (sym (any_item (λ x. is_some (lost_target set x)) events j e at (ap is_some on)) ∙ none));
  stays = λ c kept. ap (λ b. cond b (moved set events tags c) (Some c)) kept;
}
