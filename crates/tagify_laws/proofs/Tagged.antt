-- The commits that become tags, and the commit before each.
use Rattle.std.proofs.Common.{◌≡◌, ℕ, Bool, true, false, cond, List, [], ◌∷◌, ◌++◌, filter, map, reverse, refl, sym, ap, subst, ◌∙◌, true≢false, Option, Some}
use Rattle.std.specs.Prelude.{◌&&◌, ◌||◌, unwrap_or}
use Rattle.std.specs.List.{AllByRecursion}
use Rattle.std.proofs.lemmas.Bool.{and_parts}
use Rattle.plain_model.specs.declared.id.AnyId.{AnyId}
use Rattle.plain_model.specs.declared.id.AnyId.TheVariants as any
use Rattle.plain_model.specs.declared.operation.FileOp.{FileOp}
use Rattle.plain_model.specs.declared.event.PlainEvent.{PlainEvent}
use Rattle.plain_model.specs.declared.event.PlainEvent.TheVariants.{Blob, Commit, Tag, Reset, Pass}
use Rattle.plain_model.specs.Histories.{IsLinkedPast, Past, knows, nodes, past}
use Rattle.plain_model.specs.Lookups.{id_of, is_listed, same_id}
use Rattle.plain_model.specs.Soundness.{IsSound, has_id}
use Rattle.ancestry_laws.proofs.Pasts.{known_past, linked_past, past_append}
use Rattle.edit_laws.specs.Removal.{back, expand}
use Rattle.edit_laws.proofs.Following.{back_itself}
use Rattle.edit_laws.proofs.Lists.{OfNodes, all_rear, events_of_nodes}
use Rattle.edit_laws.proofs.Sound.{in_parts}
use Rattle.squash_laws.specs.Removed.{is_removed}
use Rattle.expunge_laws.proofs.Emptied.{listed_each}
use Rattle.tagify_laws.specs.Tagify.{base_of, becomes_tag, has_one_parent, tagged}
use Rattle.tagify_laws.proofs.Bases.{IsBare, back_behind, linked_behind, stands}
use Rattle.history_laws.proofs.Lists.{all_reverse}
use Rattle.squash_laws.specs.Takings.{back_of, is_none}

-- ---- only commits become tags

none_listed : (selected : List AnyId) (id : AnyId) → ((c : ℕ) → same_id id (any.Commit c) ≡ false) → (es : List PlainEvent) → is_listed id (tagged selected es) ≡ false
none_listed selected id f [] = refl
none_listed selected id f (Commit i mark branch author committer encoding comment parents ops aliases ∷ es) =
    let rest = none_listed selected id f es in
    elim (becomes_tag selected (Commit i mark branch author committer encoding comment parents ops aliases)) as (λ b. is_listed id (map id_of (cond b (Commit i mark branch author committer encoding comment parents ops aliases ∷ filter (becomes_tag selected) es) (filter (becomes_tag selected) es))) ≡ false) [
      | true ↦ ap (λ b. b || is_listed id (tagged selected es)) (f i) ∙ rest
      | false ↦ rest
    ]
none_listed selected id f (Blob i mark bytes ∷ es) = none_listed selected id f es
none_listed selected id f (Tag i name target tagger comment mark ∷ es) = none_listed selected id f es
none_listed selected id f (Reset i branch target ∷ es) = none_listed selected id f es
none_listed selected id f (Pass i line ∷ es) = none_listed selected id f es

pub no_blob : (selected : List AnyId) (es : List PlainEvent) (b : ℕ) → is_listed (any.Blob b) (tagged selected es) ≡ false
no_blob selected es b = none_listed selected (any.Blob b) (λ c. refl) es

pub no_tag : (selected : List AnyId) (es : List PlainEvent) (t : ℕ) → is_listed (any.Tag t) (tagged selected es) ≡ false
no_tag selected es t = none_listed selected (any.Tag t) (λ c. refl) es

pub no_reset : (selected : List AnyId) (es : List PlainEvent) (r : ℕ) → is_listed (any.Reset r) (tagged selected es) ≡ false
no_reset selected es r = none_listed selected (any.Reset r) (λ c. refl) es

pub no_pass : (selected : List AnyId) (es : List PlainEvent) (p : ℕ) → is_listed (any.Pass p) (tagged selected es) ≡ false
no_pass selected es p = none_listed selected (any.Pass p) (λ c. refl) es

none_is : (ops : List FileOp) → is_none ops ≡ true → ops ≡ []
none_is [] h = refl
none_is (op ∷ ops) h = absurd (true≢false (sym h))

-- a commit that becomes a tag has no operation
pub no_ops : (selected : List AnyId) (id : ℕ) (parents : List ℕ) (ops : List FileOp) → is_removed selected id && is_none ops && has_one_parent parents ≡ true → ops ≡ []
no_ops selected id parents ops h =
    none_is ops (and_parts (is_removed selected id) (is_none ops) (and_parts (is_removed selected id && is_none ops) (has_one_parent parents) h).0).1

module _ (selected : List AnyId) (events : List PlainEvent) (h : IsSound events) where
  abbrev pub set : List AnyId
  set = tagged selected events

  abbrev pub gone : ℕ → Bool
  gone c = is_removed set c

  -- an event becomes a tag exactly where its id is among those of the commits that do
  abbrev pub Each : List PlainEvent → Type 0
  Each es = AllByRecursion (λ e. is_listed (id_of e) set ≡ becomes_tag selected e) es

  pub tagged_each : Each events
  tagged_each = listed_each (becomes_tag selected) events [] events refl (in_parts events h).once

  bare_events : (es : List PlainEvent) → AllByRecursion (λ e. is_listed (id_of e) set ≡ becomes_tag selected e) es → AllByRecursion (OfNodes (IsBare (is_removed set))) es
  bare_events [] a = tt
  bare_events (Commit id mark branch author committer encoding comment parents ops aliases ∷ es) a = (
    (
      record {
        one = λ r. (and_parts (is_removed selected id && is_none ops) (has_one_parent parents) (sym a.0 ∙ r)).1;
        none = λ r. no_ops selected id parents ops (sym a.0 ∙ r);
      },
      tt,
    ),
    bare_events es a.1,
  )
  bare_events (Blob id mark bytes ∷ es) a = (tt, bare_events es a.1)
  bare_events (Tag id name target tagger comment mark ∷ es) a = (tt, bare_events es a.1)
  bare_events (Reset id branch target ∷ es) a = (tt, bare_events es a.1)
  bare_events (Pass id line ∷ es) a = (tt, bare_events es a.1)

  pub bare_past : AllByRecursion (IsBare (is_removed set)) (past events)
  bare_past = all_reverse (IsBare (is_removed set)) (nodes events) (events_of_nodes (IsBare (is_removed set)) events (bare_events events tagged_each))

  pub linked : IsLinkedPast (past events)
  linked = linked_past events h

  -- ---- the commit before

  base_is : (c t : ℕ) → back_of set events c ≡ Some t → base_of selected events c ≡ t
  base_is c t e = ap (λ (o : Option ℕ). unwrap_or o c) e

  -- of a commit among the first events it is among these, and stays
  pub base_before : (xs ys : List PlainEvent) → events ≡ xs ++ ys → (c : ℕ) → has_id xs (any.Commit c) ≡ true →
      (has_id xs (any.Commit (base_of selected events c)) ≡ true) × (is_removed set (base_of selected events c) ≡ false)
  base_before xs ys is c k =
      let split : past events ≡ reverse (nodes ys) ++ past xs = ap (λ (l : List PlainEvent). past l) is ∙ past_append xs ys in
      let links = subst IsLinkedPast split linked in
      let bare = subst (AllByRecursion (IsBare (is_removed set))) split bare_past in
      let known : knows (past xs) c ≡ true = known_past xs c ∙ k in
      let it = stands (is_removed set) (past xs) (linked_behind (reverse (nodes ys)) (past xs) links) (all_rear (IsBare (is_removed set)) (reverse (nodes ys)) (past xs) bare) c known in
      let base : base_of selected events c ≡ it.0 = base_is c it.0 (ap (λ (a : Past). back (is_removed set) a (c ∷ [])) split ∙ back_behind (is_removed set) (reverse (nodes ys)) (past xs) links c known ∙ it.1.goes_back) in (
        subst (λ t. has_id xs (any.Commit t) ≡ true) (sym base) (sym (known_past xs it.0) ∙ it.1.there),
        subst (λ t. is_removed set t ≡ false) (sym base) it.1.stays,
      )

  -- it is what a commit gives way to
  pub base_back : (c : ℕ) → knows (past events) c ≡ true → back_of set events c ≡ Some (base_of selected events c)
  base_back c k =
      let it = stands (is_removed set) (past events) linked bare_past c k in
      it.1.goes_back ∙ ap (λ t. Some t) (sym (base_is c it.0 it.1.goes_back))

  pub base_expands : (c : ℕ) → knows (past events) c ≡ true → expand (is_removed set) (past events) c ≡ base_of selected events c ∷ []
  base_expands c k =
      let it = stands (is_removed set) (past events) linked bare_past c k in
      it.1.expands ∙ ap (λ t. t ∷ []) (sym (base_is c it.0 it.1.goes_back))

  -- a commit that stays gives way to none
  pub base_itself : (c : ℕ) → is_removed set c ≡ false → knows (past events) c ≡ true → base_of selected events c ≡ c
  base_itself c s k = base_is c c (back_itself (is_removed set) (past events) c [] s k)
