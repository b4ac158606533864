-- What is alike but for people, dates, comments and labels is within the same limits, and sound, if each event is lawful.
use Rattle.std.proofs.Common.{◌≡◌, ℕ, ◌+◌, ◌≤◌, Bool, List, [], ◌∷◌, ◌++◌, length, map, Option, refl, sym, ap, subst, ◌∙◌}
use Rattle.std.specs.Prelude.{◌&&◌, IsSome}
use Rattle.std.specs.List.{AllByRecursion, list_all}
use Rattle.std.proofs.lemmas.List.{map-append}
use Rattle.plain_model.specs.declared.id.AnyId.{AnyId}
use Rattle.plain_model.specs.declared.id.AnyId.TheVariants as any
use Rattle.plain_model.specs.declared.event.PlainEvent.{PlainEvent}
use Rattle.plain_model.specs.declared.event.PlainEvent.TheVariants.{Blob, Commit, Tag, Reset, Pass}
use Rattle.plain_model.specs.declared.limit.TheConstants.{MAX_ALIASES, MAX_EVENTS, MAX_OPERATIONS}
use Rattle.plain_model.specs.Histories.{Node, nodes}
use Rattle.plain_model.specs.Trees.{Tree}
use Rattle.plain_model.specs.Lookups.{AreIdsBelow, alias_count, referents_of, same_id}
use Rattle.plain_model.specs.Soundness.{IsFormedEvent, IsSound, has_id}
use Rattle.plain_model.specs.Streams.{is_among}
use Rattle.edit_laws.specs.Parts.{AreInOrder, AreOnce, HasFewParents, IsLawful, of_id, of_mark, one_if, tally}
use Rattle.edit_laws.specs.Passing.{IsWithinLimits}
use Rattle.edit_laws.specs.Settling.{is_ready}
use Rattle.history_laws.specs.FirstParents.{ops_along}
use Rattle.edit_laws.proofs.Edits.{fewer_below}
use Rattle.edit_laws.proofs.Lists.{own_id}
use Rattle.edit_laws.proofs.Sound.{from_parts, in_parts}
use Rattle.history_laws.proofs.SoundOnce.{is_marked_own}
use Rattle.mailbox_laws.proofs.Bare.{AreAlike, aliases_same, bare, count_same, has_id_same, id_same, kept, marks_same, nodes_same, referents_same, trees_kept}

-- ---- facts of events

module _ (P : PlainEvent → Type 0) (there : (e : PlainEvent) → P e → P (bare e)) (back : (e : PlainEvent) → P (bare e) → P e) where
  all_there : (es : List PlainEvent) → AllByRecursion P es → AllByRecursion P (map bare es)
  all_there [] h = tt
  all_there (e ∷ es) h = (there e h.0, all_there es h.1)

  all_back : (es : List PlainEvent) → AllByRecursion P (map bare es) → AllByRecursion P es
  all_back [] h = tt
  all_back (e ∷ es) h = (back e h.0, all_back es h.1)

  all_kept : (old new : List PlainEvent) → AreAlike old new → AllByRecursion P old → AllByRecursion P new
  all_kept old new same h = all_back new (subst (AllByRecursion P) (sym same) (all_there old h))

formed_there : (e : PlainEvent) → IsFormedEvent e → IsFormedEvent (bare e)
formed_there (Blob id mark bytes) h = h
formed_there (Commit id mark branch author committer encoding comment parents ops aliases) h = h
formed_there (Tag id name target tagger comment mark) h = h
formed_there (Reset id branch target) h = h
formed_there (Pass id line) h = h

formed_back : (e : PlainEvent) → IsFormedEvent (bare e) → IsFormedEvent e
formed_back (Blob id mark bytes) h = h
formed_back (Commit id mark branch author committer encoding comment parents ops aliases) h = h
formed_back (Tag id name target tagger comment mark) h = h
formed_back (Reset id branch target) h = h
formed_back (Pass id line) h = h

few_there : (e : PlainEvent) → HasFewParents e → HasFewParents (bare e)
few_there (Blob id mark bytes) h = h
few_there (Commit id mark branch author committer encoding comment parents ops aliases) h = h
few_there (Tag id name target tagger comment mark) h = h
few_there (Reset id branch target) h = h
few_there (Pass id line) h = h

few_back : (e : PlainEvent) → HasFewParents (bare e) → HasFewParents e
few_back (Blob id mark bytes) h = h
few_back (Commit id mark branch author committer encoding comment parents ops aliases) h = h
few_back (Tag id name target tagger comment mark) h = h
few_back (Reset id branch target) h = h
few_back (Pass id line) h = h

-- ---- sums

tally_same : (f : PlainEvent → ℕ) → ((e : PlainEvent) → f (bare e) ≡ f e) → (es : List PlainEvent) → tally f (map bare es) ≡ tally f es
tally_same f alike [] = refl
tally_same f alike (e ∷ es) = λ i. alike e i + tally_same f alike es i

of_id_same : (id : AnyId) (e : PlainEvent) → of_id id (bare e) ≡ of_id id e
of_id_same id e = ap one_if (own_id (bare e) id ∙ ap (same_id id) (id_same e) ∙ sym (own_id e id))

of_mark_same : (m : ℕ) (e : PlainEvent) → of_mark m (bare e) ≡ of_mark m e
of_mark_same m e = ap one_if (is_marked_own (bare e) m ∙ ap (λ ms. is_among ms m) (marks_same e) ∙ sym (is_marked_own e m))

-- ---- order

all_alike : (p q : AnyId → Bool) → ((id : AnyId) → p id ≡ q id) → (ids : List AnyId) → list_all p ids ≡ list_all q ids
all_alike p q same [] = refl
all_alike p q same (id ∷ ids) = λ i. same id i && all_alike p q same ids i

ready_same : (earlier : List PlainEvent) (e : PlainEvent) → is_ready (map bare earlier) (bare e) ≡ is_ready earlier e
ready_same earlier e =
    ap (list_all (has_id (map bare earlier))) (referents_same e)
    ∙ all_alike (has_id (map bare earlier)) (has_id earlier) (has_id_same earlier) (referents_of e)

order_there : (earlier es : List PlainEvent) → AreInOrder earlier es → AreInOrder (map bare earlier) (map bare es)
order_there earlier [] h = tt
order_there earlier (e ∷ es) h = (
  ready_same earlier e ∙ h.0,
  subst (λ (l : List PlainEvent). AreInOrder l (map bare es)) (map-append bare earlier (e ∷ [])) (order_there (earlier ++ e ∷ []) es h.1),
)

order_back : (earlier es : List PlainEvent) → AreInOrder (map bare earlier) (map bare es) → AreInOrder earlier es
order_back earlier [] h = tt
order_back earlier (e ∷ es) h = (
  sym (ready_same earlier e) ∙ h.0,
  order_back (earlier ++ e ∷ []) es (subst (λ (l : List PlainEvent). AreInOrder l (map bare es)) (sym (map-append bare earlier (e ∷ []))) h.1),
)

-- ---- the whole history

once_kept : (old new : List PlainEvent) → AreAlike old new → AreOnce old → AreOnce new
once_kept old new same h = record {
  ids = λ id. subst (λ n. n ≤ 1) (sym (kept (tally (of_id id)) (tally_same (of_id id) (of_id_same id)) old new same)) (h.ids id);
  marks = λ m. subst (λ n. n ≤ 1) (sym (kept (tally (of_mark m)) (tally_same (of_mark m) (of_mark_same m)) old new same)) (h.marks m);
}

pub has_id_kept : (old new : List PlainEvent) → AreAlike old new → (id : AnyId) → has_id new id ≡ has_id old id
has_id_kept old new same id = kept (λ es. has_id es id) (λ es. has_id_same es id) old new same

pub sound_kept : (old new : List PlainEvent) → IsSound old → AreAlike old new → AllByRecursion IsLawful new → IsSound new
sound_kept old new sound same lawful =
    let parts = in_parts old sound in
    from_parts new (record {
      lawful = lawful;
      spelled = all_kept IsFormedEvent formed_there formed_back old new same parts.spelled;
      few = all_kept HasFewParents few_there few_back old new same parts.few;
      once = once_kept old new same parts.once;
      in_order = order_back [] new (subst (AreInOrder []) (sym same) (order_there [] old parts.in_order));
      trees = λ c there. subst (λ (t : Option Tree). IsSome t) (sym (trees_kept old new same c)) (parts.trees c (sym (has_id_kept old new same (any.Commit c)) ∙ there));
    })

pub within_kept : (old new : List PlainEvent) → AreAlike old new → IsWithinLimits old → IsWithinLimits new
within_kept old new same w = record {
  few_events = subst (λ (n : ℕ). n ≤ MAX_EVENTS) (sym (kept length count_same old new same)) w.few_events;
  few_operations = subst (λ (l : List Node). length (ops_along l) ≤ MAX_OPERATIONS) (sym (kept nodes nodes_same old new same)) w.few_operations;
  few_parents = all_kept HasFewParents few_there few_back old new same w.few_parents;
  few_aliases = subst (λ (n : ℕ). n ≤ MAX_ALIASES) (sym (kept alias_count aliases_same old new same)) w.few_aliases;
}

pub below_kept : (old new : List PlainEvent) (next : ℕ) → AreAlike old new → AreIdsBelow next old → AreIdsBelow next new
below_kept old new next same = fewer_below old new next (λ id there. sym (has_id_kept old new same id) ∙ there)
