-- Each form of a selection: its texts, and its parts in turn.
use Rattle.std.proofs.Common.{◌≡◌, ℕ, zero, suc, ◌+◌, ◌<◌, ◌≤◌, Bool, true, false, List, [], ◌∷◌, length, get_or, drop, map, Option, Some, None, Result, Ok, Err, Global, refl, sym, ap, subst, ◌∙◌, arith, IsTrue}
use Rattle.std.specs.Prelude.{Vec, Box, ◌&&◌}
use Rattle.std.specs.List.{All}
use Rattle.std.specs.Str.{is_utf8}
use Rattle.std.proofs.lemmas.List.{drop_all}
use Rattle.plain_model.specs.Paths.{Bytes}
use Rattle.plain_model.specs.declared.event.PlainEvent.{PlainEvent}
use Rattle.plain_model.specs.declared.fault.Halt.{Halt}
use Rattle.byte_patterns.specs.Judging.{◌>>>◌}
use Rattle.event_sets.specs.declared.set.EventSet.{EventSet}
use Rattle.event_sets.specs.Sets.{Ids}
use Rattle.selection_parser.specs.Plain.{PlainSelection, PlainSelections, in_order}
use Rattle.selection_parser.specs.Plain.PlainSelections.{more}
use Rattle.selection_parser.specs.Texts.{has_utf8_texts, have_utf8_texts}
use Rattle.selection_parser.specs.Views.{plain_of}
use Rattle.selection_parser.specs.declared.field.FieldSet.{FieldSet}
use Rattle.selection_parser.specs.declared.function.Function.{Function}
use Rattle.selection_parser.specs.declared.selection.Selection.{Selection}
use Rattle.selection_parser.specs.declared.selection.Selection.TheVariants as selection
use Rattle.selection_parser.proofs.Layers.{plain_Union, plain_Both, plain_Not, plain_Near, plain_Call, plain_Search, plain_AtPattern}
use Rattle.selection_eval.specs.Denoted.{denote, in_turn, joined}
use Rattle.selection_eval.specs.Names.{Names}
use Rattle.selection_eval.specs.Turning.{JudgesSet, step, turn}
use Rattle.byte_patterns.proofs.Judged.{stopped, went_on}
use Rattle.history_laws.proofs.Lists.{next_item}

-- ---- texts

and_parts : (a b : Bool) → IsTrue (a && b) → IsTrue a × IsTrue b
and_parts true b h = (refl, h)
and_parts false b h = absurd cc

each : (all : List Selection) → IsTrue (have_utf8_texts (in_order (map plain_of all)))
    → All (λ one. IsTrue (has_utf8_texts (plain_of one))) all
each [] h k d lt = absurd (omega arith)
each (x ∷ all) h zero d lt = (and_parts (has_utf8_texts (plain_of x)) (have_utf8_texts (in_order (map plain_of all))) h).0
each (x ∷ all) h (suc k) d lt =
    each all (and_parts (has_utf8_texts (plain_of x)) (have_utf8_texts (in_order (map plain_of all))) h).1 k d (omega arith)

pub text_at : (all : List Selection) (i : ℕ) (one : Selection) → All (λ one. IsTrue (has_utf8_texts (plain_of one))) all
    → i < length all → one ≡ get_or all i one → IsTrue (has_utf8_texts (plain_of one))
text_at all i one texts lt is =
    subst (λ (x : Selection). IsTrue (has_utf8_texts (plain_of x))) (sym is) (texts i one lt)

pub texts_of_all : (all : Vec Selection Global) → IsTrue (has_utf8_texts (plain_of (selection.Union all)))
    → All (λ one. IsTrue (has_utf8_texts (plain_of one))) all.items
texts_of_all all h = each all.items (rw (plain_Union all) at h)

pub texts_of_each : (all : Vec Selection Global) → IsTrue (has_utf8_texts (plain_of (selection.Both all)))
    → All (λ one. IsTrue (has_utf8_texts (plain_of one))) all.items
texts_of_each all h = each all.items (rw (plain_Both all) at h)

pub texts_of_not : (x : Box Selection Global) → IsTrue (has_utf8_texts (plain_of (selection.Not x)))
    → IsTrue (has_utf8_texts (plain_of x.value))
texts_of_not x h = rw (plain_Not x) at h

pub texts_of_near : (times : ℕ) (x : Box Selection Global) → IsTrue (has_utf8_texts (plain_of (selection.Near times x)))
    → IsTrue (has_utf8_texts (plain_of x.value))
texts_of_near times x h = rw (plain_Near times x) at h

pub texts_of_call : (f : Function) (x : Box Selection Global) → IsTrue (has_utf8_texts (plain_of (selection.Call f x)))
    → IsTrue (has_utf8_texts (plain_of x.value))
texts_of_call f x h = rw (plain_Call f x) at h

pub texts_of_search : (pattern : Bytes) (fields : FieldSet)
    → IsTrue (has_utf8_texts (plain_of (selection.Search pattern fields))) → IsTrue (is_utf8 pattern)
texts_of_search pattern fields h = rw (plain_Search pattern fields) at h

pub texts_of_paths : (pattern : Bytes) (whole : Bool)
    → IsTrue (has_utf8_texts (plain_of (selection.AtPattern pattern whole))) → IsTrue (is_utf8 pattern)
texts_of_paths pattern whole h = rw (plain_AtPattern pattern whole) at h

-- ---- one after another

module _ (join : Ids → Ids → Ids) (events : List PlainEvent) (names : Names) where
  turn_more : (o : Option Ids) (x : PlainSelection) (others : PlainSelections)
      → turn join o (more x others) events names
      ≡ (denote x events names >>> λ ids. turn join (Some (step join o ids)) others events names)
  unfolding denote joined in_turn
  turn_more None x others = refl
  turn_more (Some so_far) x others = refl

  turn_at : (o : Option Ids) (all : List Selection) (i : ℕ) (one : Selection) → i < length all → one ≡ get_or all i one
      → turn join o (in_order (map plain_of (drop i all))) events names
      ≡ (denote (plain_of one) events names >>> λ ids.
      turn join (Some (step join o ids)) (in_order (map plain_of (drop (i + 1) all))) events names)
  turn_at o all i one lt is =
      ap (λ (l : List Selection). turn join o (in_order (map plain_of l)) events names) (next_item all i one lt is)
      ∙ turn_more o (plain_of one) (in_order (map plain_of (drop (i + 1) all)))

  -- one more set is joined
  pub turned : (a b c : ℕ) (r : Result EventSet Halt) (o : Option Ids) (all : List Selection) (i : ℕ) (one : Selection)
      (ids now : Ids) → i < length all → one ≡ get_or all i one → (denote (plain_of one) events names).value ≡ Ok ids
      → now ≡ step join o ids → a ≤ b
      → JudgesSet b c r (turn join (Some now) (in_order (map plain_of (drop (i + 1) all))) events names)
      → JudgesSet a c r (turn join o (in_order (map plain_of (drop i all))) events names)
  turned a b c r o all i one ids now lt is known_now joined_now le h =
      let next : JudgesSet b c r (turn join (Some (step join o ids)) (in_order (map plain_of (drop (i + 1) all))) events names) =
      subst (λ (x : Ids). JudgesSet b c r (turn join (Some x) (in_order (map plain_of (drop (i + 1) all))) events names)) joined_now h in
      rw (turn_at o all i one lt is)
      (went_on (λ (set : EventSet). set.ids) a b c r (denote (plain_of one) events names) ids
      (λ x. turn join (Some (step join o x)) (in_order (map plain_of (drop (i + 1) all))) events names) known_now le next)

  -- one is refused
  pub turn_stopped : (a b : ℕ) (ended : Halt) (o : Option Ids) (all : List Selection) (i : ℕ) (one : Selection)
      → i < length all → one ≡ get_or all i one → JudgesSet a b (Err ended) (denote (plain_of one) events names)
      → JudgesSet a b (Err ended) (turn join o (in_order (map plain_of (drop i all))) events names)
  turn_stopped a b ended o all i one lt is h =
      rw (turn_at o all i one lt is)
      (stopped (λ (set : EventSet). set.ids) (λ (set : EventSet). set.ids) a b ended (denote (plain_of one) events names)
      (λ x. turn join (Some (step join o x)) (in_order (map plain_of (drop (i + 1) all))) events names) h)

-- ---- after all of them

module _ (join : Ids → Ids → Ids) (events : List PlainEvent) (names : Names) (all : List Selection) (i : ℕ) (end : length all ≤ i) where
  pub ended_some : (o : Option Ids) (ids : Ids) → o ≡ Some ids
      → (turn join o (in_order (map plain_of (drop i all))) events names).value ≡ Ok ids
  unfolding denote joined in_turn
  ended_some o ids is = rw (is, drop_all i all end) refl

  pub ended_none : (o : Option Ids) (ids : Ids) → o ≡ None → ids ≡ []
      → (turn join o (in_order (map plain_of (drop i all))) events names).value ≡ Ok ids
  unfolding denote joined in_turn
  ended_none o ids is empty = rw (is, empty, drop_all i all end) refl
