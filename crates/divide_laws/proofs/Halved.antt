-- The halves of a history at a link: what is in each, and that each is a history by itself.
use Rattle.edit_laws.specs.Keeping.{AddsNothing}
use Rattle.reparent_laws.specs.Remaining.{IsRewritten}
use Rattle.history_laws.proofs.SoundOnce.{has_id_find, sound_once}
use Rattle.history_laws.specs.Once.{AreDistinct}
use Rattle.history_laws.proofs.Ids.{same_id_refl, same_id_true}
use Rattle.std.proofs.Common.{◌≡◌, ℕ, ◌≤◌, Bool, true, false, cond, not, List, [], ◌∷◌, ◌++◌, filter, length, map, refl, sym, ap, subst, ◌∙◌, inl, inr, ◌⊎◌, arith, eqb-true, true≢false, le_trans, is_some, Option, Some, None}
use Rattle.std.specs.Prelude.{◌||◌, ◌&&◌, ◌==◌}
use Rattle.std.specs.List.{AllByRecursion}
use Rattle.std.proofs.lemmas.Bool.{cases_Bool, cond-false, cond-true, or_left}
use Rattle.std.proofs.lemmas.List.{length-append}
use Rattle.plain_model.specs.declared.id.AnyId.{AnyId}
use Rattle.plain_model.specs.declared.id.AnyId.TheVariants as any
use Rattle.plain_model.specs.declared.limit.TheConstants.{MAX_OPERATIONS}
use Rattle.plain_model.specs.declared.event.PlainEvent.{PlainEvent}
use Rattle.plain_model.specs.declared.event.PlainEvent.TheVariants.{Blob, Commit, Tag, Reset, Pass}
use Rattle.plain_model.specs.Histories.{nodes}
use Rattle.plain_model.specs.Lookups.{find_event, id_of, is_listed, referents_of, same_id}
use Rattle.plain_model.specs.Soundness.{IsCommitOf, IsSound, has_id}
use Rattle.history_laws.specs.FirstParents.{ops_along}
use Rattle.history_laws.proofs.Lists.{all_imply}
use Rattle.edit_laws.specs.Parts.{AreComplete}
use Rattle.edit_laws.specs.Passing.{IsWithinLimits}
use Rattle.edit_laws.specs.Settling.{is_ready}
use Rattle.edit_laws.specs.Sweeping.{is_named}
use Rattle.edit_laws.proofs.Lists.{all_filter, all_true, tally_filter}
use Rattle.edit_laws.proofs.Sound.{in_parts}
use Rattle.commit_laws.specs.Rewriting.{rewritten, rewritten_all}
use Rattle.reparent_laws.specs.Reparent.{ops_onto}
use Rattle.reparent_laws.proofs.Changed.{adds_nothing}
use Rattle.divide_laws.specs.Divide.{divided, loses, parted, without_parent}
use Rattle.divide_laws.specs.declared.link.Link.{Link}
use Rattle.divide_laws.specs.Links.{is_late, other_links}
use Rattle.divide_laws.specs.Remaining.{HasTreesOf, IsPlaced}
use Rattle.divide_laws.specs.Sides.{goes, is_commit_among, is_early, is_early_blob, is_late_blob, is_named_among}
use Rattle.divide_laws.proofs.Closed.{closed, world}
use Rattle.divide_laws.proofs.Joined.{late_child, same_side}
use Rattle.edit_laws.proofs.Settles.{complete}
use Rattle.divide_laws.proofs.Parted.{parted_bytes, parted_few, parted_fits, parted_ids, parted_lawful, parted_list_ids, parted_once, parted_one_of, parted_order, parted_spelled}
use Rattle.divide_laws.proofs.Parts.{IsClosed, all_two, part_complete, part_has, part_keeps, part_sound}

all_of : {X : Type 0} (P : X → Type 0) → ((x : X) → P x) → (xs : List X) → AllByRecursion P xs
all_of P f [] = tt
all_of P f (x ∷ xs) = (f x, all_of P f xs)

all_back : {X Y : Type 0} (f : X → Y) (P : Y → Type 0) (Q : X → Type 0) → ((x : X) → P (f x) → Q x) → (xs : List X) → AllByRecursion P (map f xs) → AllByRecursion Q xs
all_back f P Q g [] a = tt
all_back f P Q g (x ∷ xs) a = (g x a.0, all_back f P Q g xs a.1)

not_twice : (b : Bool) → b ≡ not (not b)
not_twice true = refl
not_twice false = refl

-- ---- each event of a list is found by its id

found_later : (e : PlainEvent) (es xs : List PlainEvent) → find_event (id_of e) es ≡ None →
    AllByRecursion (λ x. find_event (id_of x) es ≡ Some x) xs → AllByRecursion (λ x. find_event (id_of x) (e ∷ es) ≡ Some x) xs
found_later e es [] none f = tt
found_later e es (x ∷ xs) none f = (its (cases_Bool (same_id (id_of x) (id_of e))), found_later e es xs none f.1)
  where
    its : (same_id (id_of x) (id_of e) ≡ true) ⊎ (same_id (id_of x) (id_of e) ≡ false) → find_event (id_of x) (e ∷ es) ≡ Some x
    its (inl same) =
        let is : ◌≡◌ {A = Option PlainEvent} None (Some x) = sym none ∙ ap (λ id. find_event id es) (sym (same_id_true (id_of x) (id_of e) same)) ∙ f.0 in
        absurd cc
    its (inr other) = cond-false (same_id (id_of x) (id_of e)) (Some e) (find_event (id_of x) es) other ∙ f.0

each_found : (es : List PlainEvent) → AreDistinct es → AllByRecursion (λ e. find_event (id_of e) es ≡ Some e) es
each_found [] d = tt
each_found (e ∷ es) d = (
  cond-true (same_id (id_of e) (id_of e)) (Some e) (find_event (id_of e) es) (same_id_refl (id_of e)),
  found_later e es es d.0 (each_found es d.1),
)

-- ---- what goes with some commits

module _ (has blobs : ℕ → Bool) where
  -- of the commits these
  commit_place : (c : ℕ) (es : List PlainEvent) → has_id es (any.Commit c) ≡ true → has_id (filter (goes has blobs) es) (any.Commit c) ≡ has c
  commit_place c es there =
      part_has (goes has blobs) (any.Commit c) (has c) es (all_of (λ e. same_id (any.Commit c) (id_of e) ≡ true → goes has blobs e ≡ has c) one es)
      ∙ ap (λ b. b && has c) there
    where
      one : (e : PlainEvent) → same_id (any.Commit c) (id_of e) ≡ true → goes has blobs e ≡ has c
      one (Commit id mark branch author committer encoding comment parents ops aliases) s = ap has (sym (eqb-true c id s))
      one (Blob id mark bytes) s = absurd (true≢false (sym s))
      one (Tag id name target tagger comment mark) s = absurd (true≢false (sym s))
      one (Reset id branch target) s = absurd (true≢false (sym s))
      one (Pass id line) s = absurd (true≢false (sym s))

  -- what their operations name is what is named there
  named_part : (b : ℕ) (es : List PlainEvent) → is_named (filter (goes has blobs) es) b ≡ is_named_among has es b
  named_part b [] = refl
  named_part b (Commit id mark branch author committer encoding comment parents ops aliases ∷ es) =
      let e : PlainEvent = Commit id mark branch author committer encoding comment parents ops aliases in
      let rest = named_part b es in
      elim (has id) as (λ x. is_named (cond x (e ∷ filter (goes has blobs) es) (filter (goes has blobs) es)) b ≡ is_named (cond x (e ∷ filter (is_commit_among has) es) (filter (is_commit_among has) es)) b) [
        | true ↦ ap (λ x. is_listed (any.Blob b) (referents_of e) || x) rest
        | false ↦ rest
      ]
  named_part b (Blob id mark bytes ∷ es) =
      let rest = named_part b es in
      elim (blobs id) as (λ x. is_named (cond x (Blob id mark bytes ∷ filter (goes has blobs) es) (filter (goes has blobs) es)) b ≡ is_named_among has es b) [ true ↦ rest | false ↦ rest ]
  named_part b (Tag id name target tagger comment mark ∷ es) =
      let rest = named_part b es in
      elim (has target) as (λ x. is_named (cond x (Tag id name target tagger comment mark ∷ filter (goes has blobs) es) (filter (goes has blobs) es)) b ≡ is_named_among has es b) [ true ↦ rest | false ↦ rest ]
  named_part b (Reset id branch (Some target) ∷ es) =
      let rest = named_part b es in
      elim (has target) as (λ x. is_named (cond x (Reset id branch (Some target) ∷ filter (goes has blobs) es) (filter (goes has blobs) es)) b ≡ is_named_among has es b) [ true ↦ rest | false ↦ rest ]
  named_part b (Reset id branch None ∷ es) = named_part b es
  named_part b (Pass id line ∷ es) = named_part b es

  same_step : (old new : PlainEvent) (others es : List PlainEvent) → goes has blobs new ≡ goes has blobs old → filter (goes has blobs) others ≡ filter (goes has blobs) es →
      (b : Bool) → (b ≡ true → goes has blobs old ≡ false) → filter (goes has blobs) (cond b new old ∷ others) ≡ filter (goes has blobs) (old ∷ es)
  same_step old new others es same rest true gone =
      ap (λ x. cond x (new ∷ filter (goes has blobs) others) (filter (goes has blobs) others)) (same ∙ gone refl) ∙ rest
      ∙ sym (ap (λ x. cond x (old ∷ filter (goes has blobs) es) (filter (goes has blobs) es)) (gone refl))
  same_step old new others es same rest false gone = ap (λ (l : List PlainEvent). cond (goes has blobs old) (old ∷ l) l) rest

  -- without the child all is as it was
  same_part : (events : List PlainEvent) (cut : Link) → has cut.child ≡ false → (es : List PlainEvent) →
      filter (goes has blobs) (rewritten_all cut.child (loses events cut.parent) es) ≡ filter (goes has blobs) es
  same_part events cut apart [] = refl
  same_part events cut apart (Commit id mark branch author committer encoding comment parents ops aliases ∷ es) =
      same_step
      (Commit id mark branch author committer encoding comment parents ops aliases)
      (Commit id mark branch author committer encoding comment (without_parent cut.parent parents) (ops_onto events (without_parent cut.parent parents) parents ops) aliases)
      (rewritten_all cut.child (loses events cut.parent) es) es refl (same_part events cut apart es)
      (id == cut.child) (λ is. ap has (eqb-true id cut.child is) ∙ apart)
  same_part events cut apart (Blob id mark bytes ∷ es) =
      ap (λ (l : List PlainEvent). cond (blobs id) (Blob id mark bytes ∷ l) l) (same_part events cut apart es)
  same_part events cut apart (Tag id name target tagger comment mark ∷ es) =
      ap (λ (l : List PlainEvent). cond (has target) (Tag id name target tagger comment mark ∷ l) l) (same_part events cut apart es)
  same_part events cut apart (Reset id branch (Some target) ∷ es) =
      ap (λ (l : List PlainEvent). cond (has target) (Reset id branch (Some target) ∷ l) l) (same_part events cut apart es)
  same_part events cut apart (Reset id branch None ∷ es) = ap (λ (l : List PlainEvent). Reset id branch None ∷ l) (same_part events cut apart es)
  same_part events cut apart (Pass id line ∷ es) = ap (λ (l : List PlainEvent). Pass id line ∷ l) (same_part events cut apart es)

-- ---- parts of the parted history

module _ (events : List PlainEvent) (cut : Link) where
  abbrev joined : ℕ → Bool
  joined = is_late events cut

  abbrev new : List PlainEvent
  new = parted events cut

  abbrev early_test : PlainEvent → Bool
  early_test = goes (is_early joined) (is_early_blob joined new)

  abbrev late_test : PlainEvent → Bool
  late_test = goes joined (is_late_blob joined new)

  new_commit : (c : ℕ) → IsCommitOf events c → has_id new (any.Commit c) ≡ true
  new_commit c there = parted_ids events cut (any.Commit c) ∙ there

  pub late_commit : (c : ℕ) → IsCommitOf events c → has_id (divided events cut).late (any.Commit c) ≡ is_late events cut c
  late_commit c there = commit_place joined (is_late_blob joined new) c new (new_commit c there)

  pub early_commit : (c : ℕ) → IsCommitOf events c → has_id (divided events cut).early (any.Commit c) ≡ not (is_late events cut c)
  early_commit c there = commit_place (is_early joined) (is_early_blob joined new) c new (new_commit c there)

  pub adds_nothing_early : AddsNothing events (divided events cut).early
  adds_nothing_early = adds_nothing cut.child (loses events cut.parent) events (filter early_test new) (λ f. tally_filter f early_test new)

  pub adds_nothing_late : AddsNothing events (divided events cut).late
  adds_nothing_late = adds_nothing cut.child (loses events cut.parent) events (filter late_test new) (λ f. tally_filter f late_test new)

  early_unchanged : (divided events cut).early ≡ filter early_test events
  early_unchanged = same_part (is_early joined) (is_early_blob joined new) events cut (ap not (late_child events cut)) events

  module _ (h : IsSound events) where
    early_closed : AllByRecursion (IsClosed early_test (world (is_early joined) (is_early_blob joined new))) new
    early_closed =
        closed (is_early joined) (is_early_blob joined new) events cut
        (λ p c k. ap not (same_side (other_links events cut) cut.child p c k))
        (λ b k. or_left (is_named_among (is_early joined) new b) (not (is_named_among joined new b)) k)

    late_closed : AllByRecursion (IsClosed late_test (world joined (is_late_blob joined new))) new
    late_closed = closed joined (is_late_blob joined new) events cut (λ p c k. same_side (other_links events cut) cut.child p c k) (λ b k. k)

    module _ (test : PlainEvent → Bool) (its : AnyId → Bool) (is_closed : AllByRecursion (IsClosed test its) new) where
      its_sound : IsSound (filter test new)
      its_sound =
          part_sound test its events new h is_closed (parted_ids events cut) (parted_lawful events cut h) (parted_spelled events cut h) (parted_few events cut h)
          (parted_once events cut h) (parted_order events cut h) (parted_fits events cut h) (parted_bytes events cut h)

      its_complete : AreComplete (filter test new)
      its_complete =
          part_complete test its events new h is_closed (parted_ids events cut) (parted_lawful events cut h) (parted_spelled events cut h) (parted_few events cut h)
          (parted_once events cut h) (parted_order events cut h) (parted_fits events cut h) (parted_bytes events cut h)

      its_trees : HasTreesOf events (filter test new)
      its_trees =
          part_keeps test its events new h is_closed (parted_ids events cut) (parted_lawful events cut h) (parted_spelled events cut h) (parted_few events cut h)
          (parted_once events cut h) (parted_order events cut h) (parted_fits events cut h) (parted_bytes events cut h)

    pub early_sound : IsSound (divided events cut).early
    early_sound = its_sound early_test (world (is_early joined) (is_early_blob joined new)) early_closed

    pub late_sound : IsSound (divided events cut).late
    late_sound = its_sound late_test (world joined (is_late_blob joined new)) late_closed

    pub early_complete : AreComplete (divided events cut).early
    early_complete = its_complete early_test (world (is_early joined) (is_early_blob joined new)) early_closed

    pub late_complete : AreComplete (divided events cut).late
    late_complete = its_complete late_test (world joined (is_late_blob joined new)) late_closed

    pub early_trees : HasTreesOf events (divided events cut).early
    early_trees = its_trees early_test (world (is_early joined) (is_early_blob joined new)) early_closed

    pub late_trees : HasTreesOf events (divided events cut).late
    late_trees = its_trees late_test (world joined (is_late_blob joined new)) late_closed

    -- ---- what is where

    -- two events with one id are one
    one_event : (x y : PlainEvent) → IsRewritten cut.child (loses events cut.parent) events x → IsRewritten cut.child (loses events cut.parent) events y → same_id (id_of x) (id_of y) ≡ true → y ≡ x
    one_event x y o p s =
        let both : ◌≡◌ {A = Option PlainEvent} (Some o.0) (Some p.0) = sym o.1 ∙ ap (λ id. find_event id events) (same_id_true (id_of x) (id_of y) s) ∙ p.1 in
        let same : o.0 ≡ p.0 = cc in
        sym p.2 ∙ ap (rewritten cut.child (loses events cut.parent)) (sym same) ∙ o.2

    -- a part has an event exactly where the event passes its test
    own_place : (test : PlainEvent → Bool) → AllByRecursion (λ e. has_id (filter test new) (id_of e) ≡ test e) new
    own_place test = all_imply (IsRewritten cut.child (loses events cut.parent) events) (λ e. has_id (filter test new) (id_of e) ≡ test e) one new (parted_one_of events cut h)
      where
        one : (x : PlainEvent) → IsRewritten cut.child (loses events cut.parent) events x → has_id (filter test new) (id_of x) ≡ test x
        one x o =
            part_has test (id_of x) (test x) new
            (all_imply (IsRewritten cut.child (loses events cut.parent) events) (λ y. same_id (id_of x) (id_of y) ≡ true → test y ≡ test x) (λ y p s. ap test (one_event x y o p s)) new (parted_one_of events cut h))
            ∙ ap (λ b. b && test x) (parted_ids events cut (id_of x) ∙ has_id_find events (id_of x) ∙ ap is_some o.1)

    record IsAt (e : PlainEvent) : Type 0 where
      early : has_id (divided events cut).early (id_of e) ≡ early_test e
      late : has_id (divided events cut).late (id_of e) ≡ late_test e

    its_place : (e : PlainEvent) → IsAt e → is_ready new e ≡ true → IsPlaced (divided events cut) e
    its_place (Blob id mark bytes) a r = record {
      early =
          a.early
          ∙ sym (λ i. named_part (is_early joined) (is_early_blob joined new) id new i || not (named_part joined (is_late_blob joined new) id new i));
      late = a.late ∙ sym (named_part joined (is_late_blob joined new) id new);
    }
    its_place (Commit id mark branch author committer encoding comment parents ops aliases) a r =
        a.late ∙ not_twice (joined id) ∙ ap not (sym a.early)
    its_place (Tag id name target tagger comment mark) a r =
        let there = (all_true (has_id new) (any.Commit target ∷ []) r).0 in record {
          early = a.early ∙ sym (commit_place (is_early joined) (is_early_blob joined new) target new there);
          late = a.late ∙ sym (commit_place joined (is_late_blob joined new) target new there);
        }
    its_place (Reset id branch (Some target)) a r =
        let there = (all_true (has_id new) (any.Commit target ∷ []) r).0 in record {
          early = a.early ∙ sym (commit_place (is_early joined) (is_early_blob joined new) target new there);
          late = a.late ∙ sym (commit_place joined (is_late_blob joined new) target new there);
        }
    its_place (Reset id branch None) a r = record { early = a.early; late = a.late }
    its_place (Pass id line) a r = record { early = a.early; late = a.late }

    -- what is said of an event without the link holds of it with the link
    placed_before : (e : PlainEvent) → IsPlaced (divided events cut) (rewritten cut.child (loses events cut.parent) e) → IsPlaced (divided events cut) e
    placed_before (Commit id mark branch author committer encoding comment parents ops aliases) =
        elim (id == cut.child) as (λ b. IsPlaced (divided events cut) (cond b (Commit id mark branch author committer encoding comment (without_parent cut.parent parents) (ops_onto events (without_parent cut.parent parents) parents ops) aliases) (Commit id mark branch author committer encoding comment parents ops aliases)) → IsPlaced (divided events cut) (Commit id mark branch author committer encoding comment parents ops aliases)) [ true ↦ λ k. k | false ↦ λ k. k ]
    placed_before (Blob id mark bytes) = λ k. k
    placed_before (Tag id name target tagger comment mark) = λ k. k
    placed_before (Reset id branch target) = λ k. k
    placed_before (Pass id line) = λ k. k

    pub all_placed : AllByRecursion (IsPlaced (divided events cut)) events
    all_placed =
        all_back (rewritten cut.child (loses events cut.parent)) (IsPlaced (divided events cut)) (IsPlaced (divided events cut)) placed_before events
        (all_two IsAt (λ e. is_ready new e ≡ true) (IsPlaced (divided events cut)) its_place new
        (all_two (λ e. has_id (filter early_test new) (id_of e) ≡ early_test e) (λ e. has_id (filter late_test new) (id_of e) ≡ late_test e) IsAt (λ e a b. record { early = a; late = b }) new (own_place early_test) (own_place late_test))
        (complete [] new (parted_order events cut h)))

    -- ---- order

    in_turn : (test : PlainEvent → Bool) (g : AnyId → Bool) (es : List PlainEvent) → AllByRecursion (λ e. g (id_of e) ≡ test e) es → map id_of (filter test es) ≡ filter g (map id_of es)
    in_turn test g [] a = refl
    in_turn test g (e ∷ es) a =
        elim (test e) as (λ b. map id_of (cond b (e ∷ filter test es) (filter test es)) ≡ cond b (id_of e ∷ filter g (map id_of es)) (filter g (map id_of es))) [
          | true ↦ ap (λ (l : List AnyId). id_of e ∷ l) (in_turn test g es a.1)
          | false ↦ in_turn test g es a.1
        ]
        ∙ sym (ap (λ b. cond b (id_of e ∷ filter g (map id_of es)) (filter g (map id_of es))) a.0)

    part_turns : (test : PlainEvent → Bool) → map id_of (filter test new) ≡ filter (has_id (filter test new)) (map id_of events)
    part_turns test = in_turn test (has_id (filter test new)) new (own_place test) ∙ ap (filter (has_id (filter test new))) (parted_list_ids events cut)

    pub early_turns : map id_of (divided events cut).early ≡ filter (has_id (divided events cut).early) (map id_of events)
    early_turns = part_turns early_test

    pub late_turns : map id_of (divided events cut).late ≡ filter (has_id (divided events cut).late) (map id_of events)
    late_turns = part_turns late_test

    -- ---- as they were

    pub early_as_was : AllByRecursion (λ e. find_event (id_of e) events ≡ Some e) (divided events cut).early
    early_as_was =
        subst (AllByRecursion (λ e. find_event (id_of e) events ≡ Some e)) (sym early_unchanged)
        (all_filter (λ e. find_event (id_of e) events ≡ Some e) early_test events (each_found events (sound_once events h).ids))

    pub late_as_was : AllByRecursion (IsRewritten cut.child (loses events cut.parent) events) (divided events cut).late
    late_as_was = all_filter (IsRewritten cut.child (loses events cut.parent) events) late_test new (parted_one_of events cut h)

    -- ---- limits

    fewer_ops : (test : PlainEvent → Bool) (es : List PlainEvent) → length (ops_along (nodes (filter test es))) ≤ length (ops_along (nodes es))
    fewer_ops test [] = omega arith
    fewer_ops test (Commit id mark branch author committer encoding comment parents ops aliases ∷ es) =
        let e : PlainEvent = Commit id mark branch author committer encoding comment parents ops aliases in
        let rest = fewer_ops test es in
        let whole = length-append ops (ops_along (nodes es)) in
        let part = length-append ops (ops_along (nodes (filter test es))) in
        elim (test e) as (λ b. length (ops_along (nodes (cond b (e ∷ filter test es) (filter test es)))) ≤ length (ops ++ ops_along (nodes es))) [ true ↦ omega arith | false ↦ omega arith ]
    fewer_ops test (Blob id mark bytes ∷ es) =
        let rest = fewer_ops test es in
        elim (test (Blob id mark bytes)) as (λ b. length (ops_along (nodes (cond b (Blob id mark bytes ∷ filter test es) (filter test es)))) ≤ length (ops_along (nodes es))) [ true ↦ rest | false ↦ rest ]
    fewer_ops test (Tag id name target tagger comment mark ∷ es) =
        let rest = fewer_ops test es in
        elim (test (Tag id name target tagger comment mark)) as (λ b. length (ops_along (nodes (cond b (Tag id name target tagger comment mark ∷ filter test es) (filter test es)))) ≤ length (ops_along (nodes es))) [ true ↦ rest | false ↦ rest ]
    fewer_ops test (Reset id branch target ∷ es) =
        let rest = fewer_ops test es in
        elim (test (Reset id branch target)) as (λ b. length (ops_along (nodes (cond b (Reset id branch target ∷ filter test es) (filter test es)))) ≤ length (ops_along (nodes es))) [ true ↦ rest | false ↦ rest ]
    fewer_ops test (Pass id line ∷ es) =
        let rest = fewer_ops test es in
        elim (test (Pass id line)) as (λ b. length (ops_along (nodes (cond b (Pass id line ∷ filter test es) (filter test es)))) ≤ length (ops_along (nodes es))) [ true ↦ rest | false ↦ rest ]

    pub early_within : IsWithinLimits events → IsWithinLimits (divided events cut).early
    early_within within = record {
      few_events = le_trans adds_nothing_early.events within.few_events;
      few_operations =
          subst (λ (l : List PlainEvent). length (ops_along (nodes l)) ≤ MAX_OPERATIONS) (sym early_unchanged)
          (le_trans (fewer_ops early_test events) within.few_operations);
      few_parents = (in_parts (divided events cut).early early_sound).few;
      few_aliases = le_trans adds_nothing_early.aliases within.few_aliases;
    }

    pub late_within : length (ops_along (nodes (divided events cut).late)) ≤ MAX_OPERATIONS → IsWithinLimits events → IsWithinLimits (divided events cut).late
    late_within few within = record {
      few_events = le_trans adds_nothing_late.events within.few_events;
      few_operations = few;
      few_parents = (in_parts (divided events cut).late late_sound).few;
      few_aliases = le_trans adds_nothing_late.aliases within.few_aliases;
    }
