-- What events name after an expunge: what is in the place of their operations names it, whatever gives way.
use Rattle.std.proofs.Common.{◌≡◌, ◌∙◌, ℕ, Bool, true, false, cond, inl, inr, not, List, [], ◌∷◌, None, Some, refl, sym, ap, flat_map, get_or, map}
use Rattle.std.proofs.lemmas.List.{length-map}
use Rattle.std.specs.Prelude.{◌||◌, ◌&&◌, slice_get}
use Rattle.std.specs.List.{AllByRecursion, list_any}
use Rattle.std.proofs.lemmas.Bool.{and_parts, cases_Bool}
use Rattle.plain_model.specs.declared.id.AnyId.{AnyId}
use Rattle.plain_model.specs.declared.operation.FileOp.{FileOp}
use Rattle.plain_model.specs.declared.operation.FileOp.TheVariants.{DeleteAll}
use Rattle.plain_model.specs.declared.event.PlainEvent.{PlainEvent}
use Rattle.plain_model.specs.declared.event.PlainEvent.TheVariants.{Blob, Commit, Tag, Reset, Pass}
use Rattle.plain_model.specs.Histories.{nodes}
use Rattle.plain_model.specs.Lookups.{id_of, is_listed, op_blobs}
use Rattle.plain_model.specs.Paths.{Bytes}
use Rattle.plain_model.specs.Soundness.{IsSound}
use Rattle.edit_laws.proofs.Lists.{OfNodes, nodes_of_events}
use Rattle.history_laws.proofs.SoundOnce.{sound_once}
use Rattle.squash_laws.specs.Removed.{all_left, parents_after}
use Rattle.squash_laws.specs.Takings.{is_none}
use Rattle.expunge_laws.specs.Expunged.{emptied, is_emptied, is_no_merge, ops_left, replaced_event, replaced_events}
use Rattle.expunge_laws.specs.InLine.{IsInLine, is_cut_off, ops_in_line, parents_in_line}
use Rattle.expunge_laws.specs.Untouched.{may_be_touched}
use Rattle.expunge_laws.proofs.Emptied.{emptied_each}
use Rattle.expunge_laws.proofs.Still.{not_emptied}
use Rattle.plan_steps.specs.Flags.{FlagsNamed, OthersKeepNames, event_blobs, has_flag}
use Rattle.plan_steps.specs.Leaving.{event_after, goes, staying}
use Rattle.plan_steps.proofs.Counting.{any_item}
use Rattle.plan_steps.proofs.LeavingLemmas.{left_staying}
use Rattle.plan_steps.proofs.Steps.{item_map}
use Rattle.plan_steps.proofs.SweepLemmas.{touched_here}
use Rattle.plan_steps.proofs.Tables.{map_at}
use Rattle.path_expunge.specs.Fates.{taken}
use Rattle.path_expunge.proofs.Nodes.{none_there, replaced_id, stays_by_name}

-- some event names what has the id
abbrev pub is_named : AnyId → List PlainEvent → Bool
is_named id events = list_any (λ e. is_listed id (event_blobs e)) events

module _ (matched : Bytes → Bool) (events : List PlainEvent) (h : IsSound events) where
  abbrev set : List AnyId
  set = emptied matched events

  abbrev new : List PlainEvent
  new = replaced_events matched events

  -- an event that isn't touched isn't emptied
  pub not_emptied_by_name : (k : ℕ) (e : PlainEvent) → slice_get events k ≡ Some e → may_be_touched matched e ≡ false → is_emptied matched events e ≡ false
  not_emptied_by_name k e at none = not_emptied matched events h e (stays_by_name matched events h k e at none)

  -- those that aren't touched name what they named
  pub names_kept : (flags : List Bool) → flags ≡ map (may_be_touched matched) events → OthersKeepNames (has_flag flags events) events new
  names_kept flags are k d id at out listed =
      let none : may_be_touched matched d ≡ false =
      sym (touched_here flags events (sound_once events h).ids k d at ∙ ap (λ (fs : List Bool). get_or fs k false) are ∙ map_at (may_be_touched matched) events k d at) ∙ out in
      let there = item_map (replaced_event matched events) events k d at ∙ ap Some (stays_by_name matched events h k d at none) in
      any_item (λ e. is_listed id (event_blobs e)) new k d there listed

  -- ---- where emptied commits give way

  abbrev takes : List ℕ → List ℕ
  takes = parents_after set new (taken set new)

  -- what goes names nothing, and what stays names what it named
  abbrev NamesAlike : PlainEvent → Type 0
  NamesAlike e = (goes set (taken set new) e ≡ true → event_blobs e ≡ []) × (event_blobs (event_after takes (taken set new) e) ≡ event_blobs e)

  module _ (line : AllByRecursion (IsInLine set new) (nodes new)) where
    in_line : (parents : List ℕ) (ops : List FileOp) → flat_map op_blobs (ops_in_line set new parents ops) ≡ flat_map op_blobs ops
    in_line parents ops = go (is_cut_off set new parents && not (is_none (parents_in_line set new parents)))
      where
        go : (b : Bool) → flat_map op_blobs (cond b (DeleteAll ∷ ops) ops) ≡ flat_map op_blobs ops
        go true = refl
        go false = refl

    one_alike : (e : PlainEvent) → is_listed (id_of e) set ≡ is_emptied matched events e → OfNodes (IsInLine set new) (replaced_event matched events e) → NamesAlike (replaced_event matched events e)
    one_alike (Commit id mark branch author committer encoding comment parents ops aliases) own a = (
      λ gone. ap (flat_map op_blobs) (none_there (ops_left matched events parents ops) (and_parts (not (is_none ops)) (is_none (ops_left matched events parents ops))
          (and_parts (not (is_none ops) && is_none (ops_left matched events parents ops)) (is_no_merge parents) (sym own ∙ gone)).0).1),
      ap (flat_map op_blobs) (a.0.ops (ops_left matched events parents ops)) ∙ in_line parents (ops_left matched events parents ops),
    )
    one_alike (Blob id mark bytes) own a = (λ gone. refl, refl)
    one_alike (Tag id name target tagger comment mark) own a = (λ gone. refl, refl)
    one_alike (Reset id branch (Some target)) own a = (λ gone. refl, refl)
    one_alike (Reset id branch None) own a = (λ gone. refl, refl)
    one_alike (Pass id line) own a = (λ gone. refl, refl)

    each_alike : (es : List PlainEvent) → AllByRecursion (λ e. is_listed (id_of e) set ≡ is_emptied matched events e) es →
        AllByRecursion (OfNodes (IsInLine set new)) (map (replaced_event matched events) es) → AllByRecursion NamesAlike (map (replaced_event matched events) es)
    each_alike [] a b = tt
    each_alike (e ∷ es) a b = (one_alike e a.0 b.0, each_alike es a.1 b.1)

    named_left : (id : AnyId) (es : List PlainEvent) → AllByRecursion NamesAlike es → is_named id (map (event_after takes (taken set new)) (staying set (taken set new) es)) ≡ is_named id es
    named_left id [] a = refl
    named_left id (e ∷ es) a = elim (cases_Bool (goes set (taken set new) e)) [
      | inl gone ↦
          ap (λ b. is_named id (map (event_after takes (taken set new)) (cond (not b) (e ∷ staying set (taken set new) es) (staying set (taken set new) es)))) gone
          ∙ named_left id es a.1 ∙ sym (ap (λ (ids : List AnyId). is_listed id ids || is_named id es) (a.0.0 gone))
      | inr stays ↦
          ap (λ b. is_named id (map (event_after takes (taken set new)) (cond (not b) (e ∷ staying set (taken set new) es) (staying set (taken set new) es)))) stays
          ∙ (λ i. is_listed id (a.0.1 i) || named_left id es a.1 i)
    ]

    pub named_alike : (id : AnyId) → is_named id (all_left set new (taken set new)) ≡ is_named id new
    named_alike id =
        ap (is_named id) (left_staying set new (taken set new))
        ∙ named_left id new (each_alike events (emptied_each matched events h) (nodes_of_events (IsInLine set new) new line))

-- what one list names, another one does
module _ (old one other : List PlainEvent) (alike : (id : AnyId) → is_named id other ≡ is_named id one) where
  pub named_in : (flags : List Bool) → FlagsNamed old one flags → FlagsNamed old other flags
  named_in flags f = record { count = f.count; flag = λ k e at. f.flag k e at ∙ sym (alike (id_of e)) }

  pub kept_in : (test : PlainEvent → Bool) → OthersKeepNames test old one → OthersKeepNames test old other
  kept_in test keep k d id at out listed = alike id ∙ keep k d id at out listed

-- events with replaced operations are at the places where they were
pub named_at_places : (matched : Bytes → Bool) (events named : List PlainEvent) (flags : List Bool) → FlagsNamed (replaced_events matched events) named flags → FlagsNamed events named flags
named_at_places matched events named flags f = record {
  count = f.count ∙ length-map events (replaced_event matched events);
  flag = λ k e at.
      f.flag k (replaced_event matched events e) (item_map (replaced_event matched events) events k e at)
      ∙ ap (λ id. is_named id named) (replaced_id matched events e);
}
