-- Which commits descend from some, by flags.
use Rattle.std.proofs.Common.{◌≡◌, ◌∙◌, ℕ, suc, ◌<◌, length, drop, get_or, Bool, true, false, cond, List, [], ◌∷◌, filter, map, Option, Some, None, refl, sym, ap, subst, eqb-true, find}
use Rattle.std.specs.Prelude.{◌||◌, ◌&&◌, ◌==◌, is_some}
use Rattle.std.specs.List.{AllByRecursion, list_any}
use Rattle.std.proofs.lemmas.Bool.{cond-false, or_parts}
use Rattle.plain_model.specs.declared.id.AnyId.TheVariants as any
use Rattle.plain_model.specs.declared.event.PlainEvent.{PlainEvent}
use Rattle.plain_model.specs.declared.event.PlainEvent.TheVariants.{Blob, Commit, Tag, Reset, Pass}
use Rattle.plain_model.specs.Histories.{Past, knows, past}
use Rattle.plain_model.specs.Lookups.{is_listed, place_of}
use Rattle.plain_model.specs.Soundness.{has_id}
use Rattle.plain_model.proofs.Numbers.{eqb_turned}
use Rattle.ancestry_laws.specs.Ancestry.{commits, descendants_of, descends, descends_in}
use Rattle.ancestry_laws.proofs.Pasts.{known_past}
use Rattle.graph_walk.specs.Flags.{FlagsOf, flag_at, is_flagged_commit}
use Rattle.graph_walk.proofs.ExpansionLemmas.{drop_read}
use Rattle.reparent_laws.specs.Reparent.{descendant}
use Rattle.graph_walk.proofs.PlaceLemmas.{event_placed, has_id_place}

-- what isn't known descends from nothing
unknown_descends : (set : List ℕ) (older : Past) (c : ℕ) → knows older c ≡ false → descends_in set older c ≡ false
unknown_descends set [] c h = refl
unknown_descends set (n ∷ older) c h =
    let parts = or_parts (n.id == c) (knows older c) h in
    cond-false (n.id == c) _ _ parts.0 ∙ unknown_descends set older c parts.1

-- a commit is among those that pass where it is among them all, and passes
passing_listed : (test : ℕ → Bool) (c : ℕ) (cs : List ℕ) → is_listed (any.Commit c) (map any.Commit (filter test cs)) ≡ list_any (λ d. c == d) cs && test c
passing_listed test c [] = refl
passing_listed test c (d ∷ cs) = go (c == d) refl (test d) refl (passing_listed test c cs)
  where
    among : Bool
    among = is_listed (any.Commit c) (map any.Commit (filter test cs))

    never : (b : Bool) → b && false ≡ false
    never true = refl
    never false = refl

    go : (b : Bool) → (c == d) ≡ b → (t : Bool) → test d ≡ t → among ≡ list_any (λ x. c == x) cs && test c →
        is_listed (any.Commit c) (map any.Commit (cond t (d ∷ filter test cs) (filter test cs))) ≡ ((c == d) || list_any (λ x. c == x) cs) && test c
    go true is true passes rest =
        let own : test c ≡ true = ap test (eqb-true c d is) ∙ passes in
        ap (λ x. x || among) is ∙ sym (ap (λ x. (x || list_any (λ y. c == y) cs) && test c) is ∙ own)
    go true is false fails rest =
        let own : test c ≡ false = ap test (eqb-true c d is) ∙ fails in
        rest ∙ ap (λ x. list_any (λ y. c == y) cs && x) own ∙ never (list_any (λ y. c == y) cs) ∙ sym (ap (λ x. ((c == d) || list_any (λ y. c == y) cs) && x) own ∙ never ((c == d) || list_any (λ y. c == y) cs))
    go false is true passes rest = ap (λ x. x || among) is ∙ rest ∙ sym (ap (λ x. (x || list_any (λ y. c == y) cs) && test c) is)
    go false is false fails rest = rest ∙ sym (ap (λ x. (x || list_any (λ y. c == y) cs) && test c) is)

commits_there : (events : List PlainEvent) (c : ℕ) → list_any (λ d. c == d) (commits events) ≡ has_id events (any.Commit c)
commits_there [] c = refl
commits_there (Commit id mark branch author committer encoding comment parents ops aliases ∷ events) c = λ i. eqb_turned c id i || commits_there events c i
commits_there (Blob id mark bytes ∷ events) c = commits_there events c
commits_there (Tag id name target tagger comment mark ∷ events) c = commits_there events c
commits_there (Reset id branch target ∷ events) c = commits_there events c
commits_there (Pass id line ∷ events) c = commits_there events c

module _ (events : List PlainEvent) (set : List ℕ) (c : ℕ) where
  absent_descends : has_id events (any.Commit c) ≡ false → descends events set c ≡ false
  absent_descends gone = unknown_descends set (past events) c (known_past events c ∙ gone)

  -- a commit is among the descendants where it descends
  descendants_listed : is_listed (any.Commit c) (descendants_of events set) ≡ descends events set c
  descendants_listed = passing_listed (descends events set) c (commits events) ∙ ap (λ b. b && descends events set c) (commits_there events c) ∙ go (has_id events (any.Commit c)) refl
    where
      go : (b : Bool) → has_id events (any.Commit c) ≡ b → b && descends events set c ≡ descends events set c
      go true there = refl
      go false gone = sym (absent_descends gone)

  -- its flag says so
  pub flag_descends : (flags : List Bool) → FlagsOf events (descendants_of events set) flags → is_flagged_commit flags events c ≡ descends events set c
  flag_descends flags f = go (place_of (any.Commit c) events) refl
    where
      go : (o : Option ℕ) → place_of (any.Commit c) events ≡ o → flag_at flags o ≡ descends events set c
      go (Some k) is =
          let e = event_placed events (any.Commit c) k is in
          f.flag k e.event e.at ∙ ap (λ id. is_listed id (descendants_of events set)) (sym e.own) ∙ descendants_listed
      go None is = sym (absent_descends (has_id_place events (any.Commit c) ∙ ap is_some is))

-- ---- the first of some that descends

module _ (events : List PlainEvent) (c : ℕ) (ps : List ℕ) (k p : ℕ) (all : Option ℕ) (within : k < length ps) (item : p ≡ get_or ps k p) (so_far : descendant events c (drop k ps) ≡ all) where
  begun : descendant events c (p ∷ drop (suc k) ps) ≡ all
  begun = ap (descendant events c) (sym (drop_read ps k p within item)) ∙ so_far

  -- it is this one
  pub first_descends : descends events (c ∷ []) p ≡ true → all ≡ Some p
  first_descends it = sym begun ∙ ap (λ b. cond b (Some p) (descendant events c (drop (suc k) ps))) it

  -- or a later one
  pub later_descends : descends events (c ∷ []) p ≡ false → descendant events c (drop (suc k) ps) ≡ all
  later_descends other = sym (ap (λ b. cond b (Some p) (descendant events c (drop (suc k) ps))) other) ∙ begun

-- what is true of all of them is true of it
pub found_among : (P : ℕ → Type 0) (test : ℕ → Bool) (ps : List ℕ) (p : ℕ) → AllByRecursion P ps → find test ps ≡ Some p → P p
found_among P test [] p a h = absurd cc
found_among P test (q ∷ ps) p a h = go (test q) h (found_among P test ps p a.1)
  where
    go : (b : Bool) → cond b (Some q) (find test ps) ≡ Some p → (find test ps ≡ Some p → P p) → P p
    go true h f = let is : q ≡ p = cc in subst P is a.0
    go false h f = f h
