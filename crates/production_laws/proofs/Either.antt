-- Each text is a stream or has a first defect.
use Rattle.std.proofs.Common.{◌≡◌, ℕ, true, false, not, List, Option, Some, None, refl, sym, ◌∙◌, ap, inl, inr, ◌⊎◌}
use Rattle.std.specs.Prelude.{is_some}
use Rattle.std.proofs.lemmas.Option.{same_Some, some_pair_parts}
use Rattle.plain_model.specs.declared.event.PlainEvent.{PlainEvent}
use Rattle.plain_model.specs.declared.fault.Why.{Why}
use Rattle.plain_model.specs.Paths.{Bytes}
use Rattle.stream_grammar.specs.Lines.{defect_in, history_in}
use Rattle.production_laws.specs.Streams.{HasDefect, IsNoStream, IsStreamOf}
use Rattle.production_laws.proofs.Given.{exactly}
use Rattle.production_laws.proofs.Wrong.{defect_is_found, found_defect}

module _ (either : (bytes : Bytes) → is_some (history_in bytes) ≡ not (is_some (defect_in bytes))) where
  pub stream_or_defect : (bytes : Bytes) → ((events : List PlainEvent) × IsStreamOf bytes events) ⊎ ((n : ℕ) × (why : Why) × HasDefect bytes n why)
  stream_or_defect bytes = go (history_in bytes) (defect_in bytes) refl refl
    where
      go : (h : Option (List PlainEvent)) (d : Option (ℕ × Why)) → history_in bytes ≡ h → defect_in bytes ≡ d
          → ((events : List PlainEvent) × IsStreamOf bytes events) ⊎ ((n : ℕ) × (why : Why) × HasDefect bytes n why)
      go (Some events) d e f = inl (events, (exactly bytes events).0 e)
      go None (Some (n, why)) e f = inr (n, why, found_defect bytes n why f)
      go None None e f = absurd (let neither : false ≡ true = sym (ap is_some e) ∙ either bytes ∙ ap (λ (o : Option (ℕ × Why)). not (is_some o)) f in cc)

  pub not_both : (bytes : Bytes) (n : ℕ) (why : Why) → HasDefect bytes n why → IsNoStream bytes
  not_both bytes n why wrong events h =
      let there = ap is_some ((exactly bytes events).1 h) in
      let found = ap is_some (defect_is_found bytes n why wrong) in
      absurd (let both : true ≡ false = sym there ∙ either bytes ∙ ap not found in cc)

pub one_history : (bytes : Bytes) (events others : List PlainEvent) → IsStreamOf bytes events → IsStreamOf bytes others → events ≡ others
one_history bytes events others h g = same_Some events others (sym ((exactly bytes events).1 h) ∙ (exactly bytes others).1 g)

pub one_defect : (bytes : Bytes) (n m : ℕ) (why other : Why) → HasDefect bytes n why → HasDefect bytes m other → (n ≡ m) × (why ≡ other)
one_defect bytes n m why other h g = some_pair_parts n m why other (sym (defect_is_found bytes n why h) ∙ defect_is_found bytes m other g)
