-- A renumbering is an edit.
use Rattle.std.proofs.Common.{◌≡◌, ◌∙◌, ℕ, suc, ◌+◌, ◌≤◌, List, [], ◌∷◌, Ok, length, refl, sym, ap, subst, arith}
use Rattle.std.specs.Prelude.{option_to_list}
use Rattle.plain_model.specs.declared.event.PlainEvent.{PlainEvent}
use Rattle.plain_model.specs.declared.event.PlainEvent.TheVariants.{Blob, Commit, Tag, Reset, Pass}
use Rattle.plain_model.specs.declared.limit.TheConstants.{MAX_ALIASES, MAX_EVENTS, MAX_OPERATIONS}
use Rattle.plain_model.specs.Histories.{Node}
use Rattle.plain_model.specs.Lookups.{alias_count}
use Rattle.history_laws.specs.FirstParents.{ops_along}
use Rattle.edit_laws.specs.Editing.{IsEdit, IsLawfulHistory, with_number}
use Rattle.edit_laws.proofs.Edits.{fewer_below}
use Rattle.edit_laws.proofs.Sound.{in_parts}
use Rattle.renumbering.specs.Renumbered.{renumbered, renumbered_from}
use Rattle.renumbering.proofs.Kept.{has_id_same, length_same, nodes_same}
use Rattle.renumbering.proofs.Marks.{length_from}
use Rattle.renumbering.proofs.Sound.{sound_again}

aliases_same : (n : ℕ) (events : List PlainEvent) → alias_count (renumbered_from n events) ≡ alias_count events
aliases_same n [] = refl
aliases_same n (Blob id mark bytes ∷ events) = aliases_same (n + 1) events
aliases_same n (Commit id mark branch author committer encoding comment parents ops aliases ∷ events) =
    ap (λ k. k + alias_count (renumbered_from (n + suc (length aliases)) events)) (length_from (n + 1) aliases)
    ∙ ap (λ k. length aliases + k) (aliases_same (n + suc (length aliases)) events)
aliases_same n (Tag id name target tagger comment mark ∷ events) = aliases_same (n + length (option_to_list mark)) events
aliases_same n (Reset id branch target ∷ events) = aliases_same (n + 0) events
aliases_same n (Pass id line ∷ events) = aliases_same (n + 0) events

lawful_again : (events : List PlainEvent) → IsLawfulHistory events → IsLawfulHistory (renumbered events)
lawful_again events h =
    let sound = sound_again events h.sound in
    record {
      sound = sound;
      within = record {
        few_events = subst (λ n. n ≤ MAX_EVENTS) (sym (length_same 1 events)) h.within.few_events;
        few_operations = subst (λ (past : List Node). length (ops_along past) ≤ MAX_OPERATIONS) (sym (nodes_same 1 events)) h.within.few_operations;
        few_parents = (in_parts (renumbered events) sound).few;
        few_aliases = subst (λ n. n ≤ MAX_ALIASES) (sym (aliases_same 1 events)) h.within.few_aliases;
      };
    }

pub numbered_edit : IsEdit (λ set next events. with_number next (Ok (renumbered events)))
numbered_edit set next events h below selection = (
  lawful_again events h,
  fewer_below events (renumbered events) next (λ id there. sym (has_id_same 1 events id) ∙ there) below,
  omega arith,
)
