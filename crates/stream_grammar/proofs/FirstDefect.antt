-- The first defect of a stream.
use Rattle.std.proofs.Common.{◌≡◌, ℕ, Option, Some, None, ◌⊎◌, inl, inr, refl, ap, sym, ◌∙◌}
use Rattle.std.specs.Prelude.{◌↔◌, is_some, not}
use Rattle.plain_model.specs.declared.fault.Why.TheVariants.{Truncated}
use Rattle.plain_model.specs.declared.fault.Why.{Why}
use Rattle.plain_model.specs.Paths.{Bytes}
use Rattle.line_automaton.specs.Machine.{Outcome, outcome, all, Stops, EndsEarly}
use Rattle.line_automaton.specs.Machine.Outcome.{Reads, Refuses, Misses}
use Rattle.line_automaton.proofs.Defects.{stops_to, stops_where_refused, ends_from}
use Rattle.stream_grammar.specs.Lines.{State, stream, history_read, defect_of, defect_in, IsFirstDefect}
use Rattle.stream_grammar.proofs.Completion.{stream_completes}

pub stops : (bytes : Bytes) (n : ℕ) (why : Why) → Stops stream bytes n why ↔ (outcome stream all bytes ≡ Refuses n why)
stops bytes n why = stops_where_refused stream stream_completes bytes n why

pub ends_early : (bytes : Bytes) (n : ℕ) → EndsEarly stream bytes n ↔ (outcome stream all bytes ≡ Misses n)
ends_early bytes n = (λ h. h.entry, ends_from stream stream_completes bytes n)

same_refusal : (n m : ℕ) (why other : Why) → ◌≡◌ {A = Outcome State Why} (Refuses n why) (Refuses m other) → (n ≡ m) × (why ≡ other)
same_refusal n m why other e = (cc, cc)

pub only : (bytes : Bytes) (n m : ℕ) (why other : Why) → Stops stream bytes n why → Stops stream bytes m other → (n ≡ m) × (why ≡ other)
only bytes n m why other h k = same_refusal n m why other (sym (stops_to stream bytes n why h) ∙ stops_to stream bytes m other k)

-- ---- defects that reading finds

abbrev pair_or : ℕ × Why → Option (ℕ × Why) → ℕ × Why
pair_or other (Some x) = x
pair_or other None = other

found : (o : Outcome State Why) (n : ℕ) (why : Why) → defect_of o ≡ Some (n, why) → (o ≡ Refuses n why) ⊎ (why ≡ Truncated) × (o ≡ Misses n)
found (Reads s) n why e = absurd cc
found (Refuses m other) n why e = inl (ap (λ x. Refuses x.0 x.1) (ap (pair_or (m, other)) e))
found (Misses m) n why e = let same : (m, Truncated) ≡ (n, why) = ap (pair_or (m, Truncated)) e in inr (sym (ap (λ x. x.1) same), ap (λ x. Misses x.0) same)

pub first_defect : (bytes : Bytes) (n : ℕ) (why : Why) → (defect_in bytes ≡ Some (n, why)) ↔ IsFirstDefect bytes n why
first_defect bytes n why = (to, from)
  where
    to : defect_in bytes ≡ Some (n, why) → IsFirstDefect bytes n why
    to e = elim (found (outcome stream all bytes) n why e) [
      | inl refused ↦ inl ((stops bytes n why).1 refused)
      | inr misses ↦ inr (misses.0, (ends_early bytes n).1 misses.1)
    ]

    from : IsFirstDefect bytes n why → defect_in bytes ≡ Some (n, why)
    from (inl h) = ap defect_of ((stops bytes n why).0 h)
    from (inr h) = ap defect_of ((ends_early bytes n).0 h.1) ∙ ap (λ w. Some (n, w)) (sym h.0)

pub either : (o : Outcome State Why) → is_some (history_read o) ≡ not (is_some (defect_of o))
either (Reads s) = refl
either (Refuses n why) = refl
either (Misses n) = refl
