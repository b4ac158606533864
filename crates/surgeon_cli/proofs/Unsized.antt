-- Runs that come to their end where no size was refused.
use Rattle.std.proofs.Common.{◌≡◌, ℕ, Bool, true, false, List, [], ◌∷◌, Option, refl}
use Rattle.std.specs.List.{AllByRecursion}
use Rattle.plain_model.specs.Counts.{Rose}
use Rattle.plain_model.specs.Paths.{Bytes}
use Rattle.plain_model.specs.declared.status.Status.{Status}
use Rattle.byte_patterns.specs.Judging.{Counted, Denial, is_sized}
use Rattle.surgeon_store.specs.Outside.{StoreState, SinkState}
use Rattle.history_machine.specs.Whole.{run}
use Rattle.surgeon_session.specs.Calls.{Caused}
use Rattle.surgeon_session.proofs.Rounds.{all_completes}
use Rattle.surgeon_cli.specs.Headline.{AreUnsized, AsPrescribed, Succeeds}

unless_rose : {P : Type 0} (b : Bool) → (b ≡ true → P) → (P → ⊥) → b ≡ false
unless_rose true h quiet = absurd (quiet (h refl))
unless_rose false h quiet = refl

unsized : (n n' : ℕ) (denials : List (Option Denial)) → (Rose n n' → ⊥) → AllByRecursion (Counted n n') denials → AreUnsized denials
unsized n n' [] quiet h = tt
unsized n n' (d ∷ denials) quiet h = (unless_rose (is_sized d) h.0 quiet, unsized n n' denials quiet h.1)

pub succeeds : (words : List Bytes) (s s' : StoreState) (k k' : SinkState) (n n' : ℕ) (r : Status) → Caused s k r s' k'
    → AsPrescribed words s k n r s' k' n' → Succeeds words s k n r s' k' n'
succeeds words s s' k k' n n' r caused h = λ quiet same enough. (
  h.0,
  unsized n n' h.0 same h.1,
  all_completes (λ w. run h.0 words w.files) s s' k k' r caused quiet enough h.2,
)
