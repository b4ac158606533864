-- An emptied commit gives way to one commit at most, and hands on no operation.
use Rattle.std.proofs.Common.{◌≡◌, ℕ, Bool, true, false, cond, not, List, [], ◌∷◌, ◌++◌, map, refl, sym, ap, ◌∙◌, inl, inr, append-nil, eqb-true, true≢false, Option, Some, None, IsTrue}
use Rattle.std.specs.Prelude.{◌&&◌, ◌==◌, flat_map, option_to_list}
use Rattle.std.specs.List.{AllByRecursion}
use Rattle.std.proofs.lemmas.Bool.{and_parts, cases_Bool}
use Rattle.std.proofs.lemmas.List.Concat.{flat_map-append}
use Rattle.plain_model.specs.declared.id.AnyId.{AnyId}
use Rattle.plain_model.specs.declared.operation.FileOp.{FileOp}
use Rattle.plain_model.specs.declared.operation.FileOp.TheVariants.{DeleteAll}
use Rattle.plain_model.specs.declared.event.PlainEvent.{PlainEvent}
use Rattle.plain_model.specs.declared.event.PlainEvent.TheVariants.{Blob, Commit, Tag, Reset, Pass}
use Rattle.plain_model.specs.Histories.{IsLinkedPast, Node, Past, knows, nodes, past}
use Rattle.plain_model.specs.Lookups.{id_of, is_listed}
use Rattle.plain_model.specs.Paths.{Bytes}
use Rattle.plain_model.specs.Soundness.{IsSound}
use Rattle.history_laws.specs.FirstParents.{ops_along}
use Rattle.history_laws.proofs.LineLaws.{known_before}
use Rattle.history_laws.proofs.Lists.{all_reverse}
use Rattle.edit_laws.specs.Removal.{back, chain, expand, expand_all, once_each}
use Rattle.edit_laws.specs.Settling.{is_ready}
use Rattle.edit_laws.proofs.Chains.{chain_gone, chain_other, chain_stays, expand_gone, expand_other, expand_stays}
use Rattle.ancestry_laws.proofs.Pasts.{linked_past}
use Rattle.edit_laws.proofs.Fine.{ready_parents}
use Rattle.edit_laws.proofs.Lists.{OfNodes, events_of_nodes}
use Rattle.edit_laws.proofs.Settles.{sound_settles}
use Rattle.squash_laws.proofs.Hung.{back_first, back_gone, back_here, back_other}
use Rattle.squash_laws.specs.Removed.{is_removed}
use Rattle.squash_laws.specs.Takings.{anew, is_from_root, is_none, links, ops_after}
use Rattle.plain_model.specs.declared.policy.Push.TheVariants as push
use Rattle.expunge_laws.specs.Expunged.{emptied, is_emptied, is_no_merge, ops_left, replaced_event, replaced_events}
use Rattle.expunge_laws.specs.InLine.{IsInLine, is_cut_off, is_nothing, ops_in_line, parents_in_line}
use Rattle.expunge_laws.proofs.Changed.{replaced_sound}
use Rattle.expunge_laws.proofs.Emptied.{IsSingle, emptied_each}

abbrev AreKnown : Past → List ℕ → Type 0
AreKnown a ps = AllByRecursion (λ p. IsTrue (knows a p)) ps

module _ (removed : ℕ → Bool) where
  -- a removed commit is no merge and has no operation
  pub record IsEmpty (n : Node) : Type 0 where
    pub single : IsSingle removed n
    pub none : removed n.id ≡ true → n.ops ≡ []

  -- ---- the way back

  back_nowhere : (a : Past) → back removed a [] ≡ None
  back_nowhere [] = refl
  back_nowhere (n ∷ older) = refl

  -- ---- what a commit gives way to

  once_one : (o : Option ℕ) → once_each (option_to_list o) ≡ option_to_list o
  once_one None = refl
  once_one (Some c) = refl

  one_in_place : (a : Past) → IsLinkedPast a → AllByRecursion IsEmpty a → (p : ℕ) → knows a p ≡ true → expand removed a p ≡ option_to_list (back removed a (p ∷ []))
  one_in_place [] s e p k = absurd (true≢false (sym k))
  one_in_place (n ∷ older) s e p k =
      elim (cases_Bool (n.id == p)) [
        | inl same ↦ elim (cases_Bool (removed p)) [
          | inl gone ↦
              expand_gone removed n older p same gone
              ∙ parents n.parents (e.0.single (ap removed (eqb-true n.id p same) ∙ gone)) s.1 (λ q x. one_in_place older s.2 e.1 q x)
              ∙ sym (ap (λ (o : Option ℕ). option_to_list o) (back_gone removed n older p [] same gone))
          | inr stays ↦ expand_stays removed n older p same stays ∙ sym (ap (λ (o : Option ℕ). option_to_list o) (back_here removed n older p [] same stays))
        ]
        | inr other ↦
            expand_other removed n older p other
            ∙ one_in_place older s.2 e.1 p (known_before n older p other k)
            ∙ sym (ap (λ (o : Option ℕ). option_to_list o) (back_other removed n older p [] other))
      ]
    where
      parents : (ps : List ℕ) → is_no_merge ps ≡ true → AreKnown older ps → ((q : ℕ) → knows older q ≡ true → expand removed older q ≡ option_to_list (back removed older (q ∷ []))) → expand_all removed older ps ≡ option_to_list (back removed older ps)
      parents [] h x f = sym (ap (λ (o : Option ℕ). option_to_list o) (back_nowhere older))
      parents (q ∷ []) h x f =
          ap once_each (append-nil (expand removed older q) ∙ f q x.0)
          ∙ once_one (back removed older (q ∷ []))
      parents (q ∷ r ∷ ps) h x f = absurd (true≢false (sym h))

  all_in_place : (a : Past) → IsLinkedPast a → AllByRecursion IsEmpty a → (ps : List ℕ) → AreKnown a ps → flat_map (expand removed a) ps ≡ flat_map (λ p. option_to_list (back removed a (p ∷ []))) ps
  all_in_place a s e [] k = refl
  all_in_place a s e (p ∷ ps) k = λ i. one_in_place a s e p k.0 i ++ all_in_place a s e ps k.1 i

  -- ---- the line below

  longer : (l : List Node) (n : Node) (q : ℕ) (qs : List ℕ) → n.parents ≡ q ∷ qs → is_from_root (l ++ n ∷ []) ≡ is_from_root l
  longer [] n q qs h = ap is_none h
  longer (m ∷ l) n q qs h = refl

  -- a chain comes from a root exactly where the way back goes nowhere
  root_below : (a : Past) → IsLinkedPast a → (p : ℕ) (ps : List ℕ) → knows a p ≡ true → is_from_root (chain removed a (p ∷ ps)) ≡ is_nothing (back removed a (p ∷ ps))
  root_below [] s p ps k = absurd (true≢false (sym k))
  root_below (n ∷ older) s p ps k =
      elim (cases_Bool (n.id == p)) [
        | inl same ↦ elim (cases_Bool (removed p)) [
          | inl gone ↦
              ap is_from_root (chain_gone removed n older p ps same gone)
              ∙ below n.parents refl s.1 (λ q qs x. root_below older s.2 q qs x)
              ∙ sym (ap is_nothing (back_gone removed n older p ps same gone))
          | inr stays ↦ ap is_from_root (chain_stays removed n older p ps same stays) ∙ sym (ap is_nothing (back_here removed n older p ps same stays))
        ]
        | inr other ↦
            ap is_from_root (chain_other removed n older p ps other)
            ∙ root_below older s.2 p ps (known_before n older p other k)
            ∙ sym (ap is_nothing (back_other removed n older p ps other))
      ]
    where
      no_chain : (b : Past) → chain removed b [] ≡ []
      no_chain [] = refl
      no_chain (m ∷ b) = refl

      below : (qs : List ℕ) → n.parents ≡ qs → AreKnown older qs → ((q : ℕ) (rs : List ℕ) → knows older q ≡ true → is_from_root (chain removed older (q ∷ rs)) ≡ is_nothing (back removed older (q ∷ rs))) → is_from_root (chain removed older qs ++ n ∷ []) ≡ is_nothing (back removed older qs)
      below [] is x f = ap (λ (l : List Node). is_from_root (l ++ n ∷ [])) (no_chain older) ∙ ap is_none is ∙ sym (ap is_nothing (back_nowhere older))
      below (q ∷ qs) is x f = longer (chain removed older (q ∷ qs)) n q qs is ∙ f q qs x.0

  -- a chain of commits without operations has none
  no_ops : (a : Past) → AllByRecursion IsEmpty a → (ps : List ℕ) → ops_along (chain removed a ps) ≡ []
  no_ops [] e ps = refl
  no_ops (n ∷ older) e [] = refl
  no_ops (n ∷ older) e (p ∷ ps) =
      elim (cases_Bool (n.id == p)) [
        | inl same ↦ elim (cases_Bool (removed p)) [
          | inl gone ↦
              ap (λ (l : List Node). ops_along l) (chain_gone removed n older p ps same gone)
              ∙ flat_map-append (λ (m : Node). m.ops) (chain removed older n.parents) (n ∷ [])
              ∙ (λ i. no_ops older e.1 n.parents i ++ (e.0.none (ap removed (eqb-true n.id p same) ∙ gone) i ++ []))
          | inr stays ↦ ap (λ (l : List Node). ops_along l) (chain_stays removed n older p ps same stays)
        ]
        | inr other ↦ ap (λ (l : List Node). ops_along l) (chain_other removed n older p ps other) ∙ no_ops older e.1 (p ∷ ps)
      ]

-- ---- the history

module _ (matched : Bytes → Bool) (events : List PlainEvent) (h : IsSound events) where
  abbrev set : List AnyId
  set = emptied matched events

  abbrev changed : List PlainEvent
  changed = replaced_events matched events

  none_is : (ops : List FileOp) → is_none ops ≡ true → ops ≡ []
  none_is [] x = refl
  none_is (op ∷ ops) x = absurd (true≢false (sym x))

  empty_events : (es : List PlainEvent) → AllByRecursion (λ e. is_listed (id_of e) set ≡ is_emptied matched events e) es → AllByRecursion (OfNodes (IsEmpty (is_removed set))) (map (replaced_event matched events) es)
  empty_events [] a = tt
  empty_events (Commit id mark branch author committer encoding comment parents ops aliases ∷ es) a =
      let left = ops_left matched events parents ops in
      let parts = λ (r : is_removed set id ≡ true). and_parts (not (is_none ops) && is_none left) (is_no_merge parents) (sym a.0 ∙ r) in
      ((record { single = λ r. (parts r).1; none = λ r. none_is left (and_parts (not (is_none ops)) (is_none left) (parts r).0).1 }, tt), empty_events es a.1)
  empty_events (Blob id mark bytes ∷ es) a = (tt, empty_events es a.1)
  empty_events (Tag id name target tagger comment mark ∷ es) a = (tt, empty_events es a.1)
  empty_events (Reset id branch target ∷ es) a = (tt, empty_events es a.1)
  empty_events (Pass id line ∷ es) a = (tt, empty_events es a.1)

  pub empty_past : AllByRecursion (IsEmpty (is_removed set)) (past changed)
  empty_past = all_reverse (IsEmpty (is_removed set)) (nodes changed) (events_of_nodes (IsEmpty (is_removed set)) changed (empty_events events (emptied_each matched events h)))

  pub linked : IsLinkedPast (past changed)
  linked = linked_past changed (replaced_sound matched events h)

  parents_are : (ps : List ℕ) → AreKnown (past changed) ps → expand_all (is_removed set) (past changed) ps ≡ parents_in_line set changed ps
  parents_are ps k = ap once_each (all_in_place (is_removed set) (past changed) linked empty_past ps k)

  cut_off : (ps : List ℕ) → AreKnown (past changed) ps → is_from_root (links set changed ps) ≡ is_cut_off set changed ps
  cut_off [] k = ap is_from_root (nothing (past changed))
    where
      nothing : (b : Past) → chain (is_removed set) b [] ≡ []
      nothing [] = refl
      nothing (m ∷ b) = refl
  cut_off (p ∷ ps) k = root_below (is_removed set) (past changed) linked p ps k.0 ∙ ap is_nothing (back_first (is_removed set) (past changed) p ps [])

  begins : (b : Bool) (own : List FileOp) → cond b (DeleteAll ∷ []) [] ++ own ≡ cond b (DeleteAll ∷ own) own
  begins true own = refl
  begins false own = refl

  ops_are : (c : ℕ) (ps : List ℕ) → AreKnown (past changed) ps → (own : List FileOp) → ops_after set changed push.Forward c ps own ≡ ops_in_line set changed ps own
  ops_are c ps k own =
      ap (λ (l : List FileOp). anew (links set changed ps) (expand_all (is_removed set) (past changed) ps) ++ (l ++ own)) (no_ops (is_removed set) (past changed) empty_past ps)
      ∙ begins (is_from_root (links set changed ps) && not (is_none (expand_all (is_removed set) (past changed) ps))) own
      ∙ (λ i. cond (cut_off ps k i && not (is_none (parents_are ps k i))) (DeleteAll ∷ own) own)

  each_in_line : (es : List PlainEvent) → AllByRecursion (λ e. IsTrue (is_ready changed e)) es → AllByRecursion (IsInLine set changed) (nodes es)
  each_in_line [] r = tt
  each_in_line (Commit id mark branch author committer encoding comment parents ops aliases ∷ es) r =
      let k = ready_parents changed parents ops r.0 in
      (record { parents = parents_are parents k; ops = ops_are id parents k }, each_in_line es r.1)
  each_in_line (Blob id mark bytes ∷ es) r = each_in_line es r.1
  each_in_line (Tag id name target tagger comment mark ∷ es) r = each_in_line es r.1
  each_in_line (Reset id branch target ∷ es) r = each_in_line es r.1
  each_in_line (Pass id line ∷ es) r = each_in_line es r.1

  pub all_in_line : AllByRecursion (IsInLine set changed) (nodes changed)
  all_in_line = each_in_line changed (sound_settles changed (replaced_sound matched events h)).complete
