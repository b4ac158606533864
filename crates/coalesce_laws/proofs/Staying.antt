-- Every event stays but the joined commits: blobs, since operations only move; tags and resets, since a joined commit has
-- a commit that stays after it.
use Rattle.std.proofs.Common.{◌≡◌, ℕ, suc, ◌+◌, ◌≤◌, ◌<◌, Bool, true, false, cond, not, List, [], ◌∷◌, filter, map, zero, refl, sym, ap, subst, ◌∙◌, inl, inr, arith, true≢false, Option, Some, None, option_map}
use Rattle.std.specs.Prelude.{◌&&◌, ◌||◌, flat_map, option_to_list, IsSome}
use Rattle.std.specs.Option.{option_or}
use Rattle.std.specs.List.{AllByRecursion, list_any}
use Rattle.std.proofs.lemmas.Bool.{cases_Bool, cond-false, cond-true}
use Rattle.plain_model.specs.declared.id.AnyId.{AnyId}
use Rattle.plain_model.specs.declared.id.AnyId.TheVariants as any
use Rattle.plain_model.specs.declared.event.PlainEvent.{PlainEvent}
use Rattle.plain_model.specs.declared.event.PlainEvent.TheVariants.{Blob, Commit, Tag, Reset, Pass}
use Rattle.plain_model.specs.Histories.{Node, nodes}
use Rattle.plain_model.specs.Lookups.{event_parents, find_event, id_number, id_of, is_listed, same_id}
use Rattle.plain_model.specs.Soundness.{IsSound, has_id}
use Rattle.history_laws.proofs.Ids.{has_id_append, same_id_true}
use Rattle.edit_laws.specs.Keeping.{IsNoBlob}
use Rattle.edit_laws.specs.Parts.{IsAbove}
use Rattle.edit_laws.specs.Removal.{forward}
use Rattle.edit_laws.proofs.Children.{forward_at}
use Rattle.edit_laws.proofs.Lists.{own_id}
use Rattle.edit_laws.proofs.Numbered.{sound_numbered}
use Rattle.edit_laws.proofs.Settles.{settled_ids}
use Rattle.edit_laws.proofs.Swept.{swept_others}
use Rattle.squash_laws.specs.Removed.{Takings, all_left, is_removed, left_of, parents_after, without_set}
use Rattle.squash_laws.specs.Takings.{back_of, forward_of}
use Rattle.coalesce_laws.specs.Coalesce.{is_joined_to}
use Rattle.coalesce_laws.proofs.Blobs.{blobs_stay}
use Rattle.coalesce_laws.proofs.Coalesced.{commits_stay, done, joins, new, set}
use Rattle.coalesce_laws.proofs.Joined.{joined}

-- ---- other events

-- neither a blob nor a commit
abbrev IsOther : AnyId → Type 0
IsOther (any.Blob b) = ⊥
IsOther (any.Commit c) = ⊥
IsOther other = Unit {0}

no_blob : (id : AnyId) → IsOther id → IsNoBlob id
no_blob (any.Blob b) h = absurd h
no_blob (any.Commit c) h = absurd h
no_blob (any.Tag t) h = tt
no_blob (any.Reset r) h = tt
no_blob (any.Pass p) h = tt

no_commit : (id : AnyId) → IsOther id → (i : ℕ) → same_id id (any.Commit i) ≡ false
no_commit (any.Blob b) h i = absurd h
no_commit (any.Commit c) h i = absurd h
no_commit (any.Tag t) h i = refl
no_commit (any.Reset r) h i = refl
no_commit (any.Pass p) h i = refl

-- ---- numbers

-- the sum of the numbers
abbrev total : (ℕ → ℕ) → List Node → ℕ
total number [] = 0
total number (n ∷ ns) = number n.id + total number ns

higher : (number : ℕ → ℕ) (low top : ℕ) → low ≤ top → (ns : List Node) → AllByRecursion (λ (n : Node). number n.id ≤ low) ns → AllByRecursion (λ (n : Node). number n.id ≤ top) ns
higher number low top h [] a = tt
higher number low top h (n ∷ ns) a = (let own = a.0 in omega arith, higher number low top h ns a.1)

within_total : (number : ℕ → ℕ) (ns : List Node) → AllByRecursion (λ (n : Node). number n.id ≤ total number ns) ns
within_total number [] = tt
within_total number (n ∷ ns) = (omega arith, higher number (total number ns) (number n.id + total number ns) (omega arith) ns (within_total number ns))

-- a commit that is found is among the commits
abbrev IsAt : (Node → Type 0) → ℕ → List ℕ → Type 0
IsAt P d parents = (n : Node) × P n × (n.id ≡ d) × (n.parents ≡ parents)

found_node : (P : Node → Type 0) (es : List PlainEvent) (d : ℕ) (e : PlainEvent) → AllByRecursion P (nodes es) →
    find_event (any.Commit d) es ≡ Some e → IsAt P d (event_parents e)
found_node P [] d e a f = absurd cc
found_node P (x ∷ es) d e a f = go x (same_id (any.Commit d) (id_of x)) refl a f (λ b g. found_node P es d e b g)
  where
    later : (x : PlainEvent) → AllByRecursion P (nodes (x ∷ es)) → AllByRecursion P (nodes es)
    later (Commit id mark branch author committer encoding comment parents ops aliases) a = a.1
    later (Blob id mark bytes) a = a
    later (Tag id name target tagger comment mark) a = a
    later (Reset id branch target) a = a
    later (Pass id line) a = a

    some_same : (a b : PlainEvent) → ◌≡◌ {A = Option PlainEvent} (Some a) (Some b) → a ≡ b
    some_same a b h = cc

    here : (x : PlainEvent) → same_id (any.Commit d) (id_of x) ≡ true → AllByRecursion P (nodes (x ∷ es)) → IsAt P d (event_parents x)
    here (Commit id mark branch author committer encoding comment parents ops aliases) same a =
        (record { id = id; parents = parents; ops = ops }, a.0, ap id_number (sym (same_id_true (any.Commit d) (any.Commit id) same)), refl)
    here (Blob id mark bytes) same a = absurd (true≢false (sym same))
    here (Tag id name target tagger comment mark) same a = absurd (true≢false (sym same))
    here (Reset id branch target) same a = absurd (true≢false (sym same))
    here (Pass id line) same a = absurd (true≢false (sym same))

    go : (x : PlainEvent) (b : Bool) → same_id (any.Commit d) (id_of x) ≡ b → AllByRecursion P (nodes (x ∷ es)) →
        cond b (Some x) (find_event (any.Commit d) es) ≡ Some e →
        (AllByRecursion P (nodes es) → find_event (any.Commit d) es ≡ Some e → IsAt P d (event_parents e)) → IsAt P d (event_parents e)
    go x true same a f rest = subst (λ (y : PlainEvent). IsAt P d (event_parents y)) (some_same x e f) (here x same a)
    go x false other a f rest = rest (later x a) f

-- ---- ids

pub none_any : (f : PlainEvent → Bool) → ((x : PlainEvent) → f x ≡ false) → (xs : List PlainEvent) → list_any f xs ≡ false
none_any f h [] = refl
none_any f h (x ∷ xs) = ap (λ b. b || list_any f xs) (h x) ∙ none_any f h xs

some_or : (a b : Option ℕ) → IsSome a → IsSome (option_or a b)
some_or None b h = absurd (true≢false (sym h))
some_or (Some x) b h = refl

-- an event that stays under its id
module _ (id : AnyId) where
  same_ids : (x e : PlainEvent) → id_of x ≡ id_of e → has_id (x ∷ []) id ≡ has_id (e ∷ []) id
  same_ids x e same = own_id x id ∙ ap (same_id id) same ∙ sym (own_id e id)

  one_stays : (gone : Bool) (e : PlainEvent) → gone ≡ false → has_id (cond gone [] (e ∷ [])) id ≡ has_id (e ∷ []) id
  one_stays gone e h = ap (λ b. has_id (cond b [] (e ∷ [])) id) h

  one_moves : (gone : Bool) (f : ℕ → PlainEvent) (o : Option ℕ) (e : PlainEvent) → gone ≡ false → IsSome o → ((t : ℕ) → id_of (f t) ≡ id_of e) →
      has_id (cond gone [] (option_to_list (option_map f o))) id ≡ has_id (e ∷ []) id
  one_moves true f o e h some same = absurd (true≢false h)
  one_moves false f None e h some same = absurd (true≢false (sym some))
  one_moves false f (Some t) e h some same = same_ids (f t) e (same t)

  neither : (gone : Bool) (x e : PlainEvent) → id_of x ≡ id_of e → same_id id (id_of e) ≡ false → has_id (cond gone [] (x ∷ [])) id ≡ has_id (e ∷ []) id
  neither true x e same none = sym (own_id e id ∙ none)
  neither false x e same none = same_ids x e same

-- ---- a coalescing

-- no commit
abbrev IsNoCommit : AnyId → Type 0
IsNoCommit (any.Commit c) = ⊥
IsNoCommit other = Unit {0}

apart : (id : AnyId) → IsNoCommit id → (i : ℕ) → same_id id (any.Commit i) ≡ false
apart (any.Blob b) h i = refl
apart (any.Commit c) h i = absurd h
apart (any.Tag t) h i = refl
apart (any.Reset r) h i = refl
apart (any.Pass p) h i = refl

module _ (seconds : ℕ) (sel : List AnyId) (events : List PlainEvent) (h : IsSound events) where
  abbrev its_set : List AnyId
  its_set = set seconds sel events h

  abbrev its_joins : Takings
  its_joins = joins seconds sel events h

  -- only commits are joined
  abbrev is_joined : PlainEvent → Bool
  is_joined e = list_any (is_joined_to seconds sel events e) events

  not_joined : (id : AnyId) → IsNoCommit id → (es : List PlainEvent) → is_listed id (map id_of (filter is_joined es)) ≡ false
  not_joined id free [] = refl
  not_joined id free (e ∷ es) = go (is_joined e) refl (not_joined id free es)
    where
      its : (x : PlainEvent) → is_joined x ≡ true → same_id id (id_of x) ≡ false
      its (Commit i mark branch author committer encoding comment parents ops aliases) j = apart id free i
      its (Blob i mark bytes) j = absurd (true≢false (sym j ∙ none_any (is_joined_to seconds sel events (Blob i mark bytes)) (λ x. refl) events))
      its (Tag i name target tagger comment mark) j = absurd (true≢false (sym j ∙ none_any (is_joined_to seconds sel events (Tag i name target tagger comment mark)) (λ x. refl) events))
      its (Reset i branch target) j = absurd (true≢false (sym j ∙ none_any (is_joined_to seconds sel events (Reset i branch target)) (λ x. refl) events))
      its (Pass i line) j = absurd (true≢false (sym j ∙ none_any (is_joined_to seconds sel events (Pass i line)) (λ x. refl) events))

      go : (b : Bool) → is_joined e ≡ b → is_listed id (map id_of (filter is_joined es)) ≡ false →
          is_listed id (map id_of (cond b (e ∷ filter is_joined es) (filter is_joined es))) ≡ false
      go true j rest = ap (λ b. b || is_listed id (map id_of (filter is_joined es))) (its e j) ∙ rest
      go false j rest = rest

  not_listed : (id : AnyId) → IsNoCommit id → is_listed id its_set ≡ false
  not_listed id free = not_joined id free events

  -- ---- a joined commit has a commit that stays after it

  abbrev number : ℕ → ℕ
  number = (sound_numbered events h).0

  abbrev most : ℕ
  most = total number (nodes events)

  record IsPlaced (n : Node) : Type 0 where
    above : IsAbove number n
    low : number n.id ≤ most

  both : (ns : List Node) → AllByRecursion (IsAbove number) ns → AllByRecursion (λ (n : Node). number n.id ≤ most) ns → AllByRecursion IsPlaced ns
  both [] a l = tt
  both (n ∷ ns) a l = (record { above = a.0; low = l.0 }, both ns a.1 l.1)

  -- its child
  record Next (c : ℕ) : Type 0 where
    child : ℕ
    only : forward (is_removed its_set) (nodes events) c ≡ cond (is_removed its_set child) (forward (is_removed its_set) (nodes events) child) (Some child)
    later : number c < number child
    low : number child ≤ most

  next : (c : ℕ) → is_removed its_set c ≡ true → Next c
  next c gone =
      let j = joined seconds sel events h c gone in
      let d = id_number (id_of j.child) in
      let at = found_node IsPlaced events d j.child (both (nodes events) (sound_numbered events h).1 (within_total number (nodes events))) (ap (λ i. find_event i events) (sym j.commit) ∙ j.there) in
      let up : number c < number at.0.id = (subst (AllByRecursion (λ p. number p < number at.0.id)) (at.3 ∙ j.parent) at.1.above).0 in
      record {
        child = d;
        only = forward_at (is_removed its_set) events h c d [] j.only;
        later = subst (λ x. number c < number x) at.2 up;
        low = subst (λ x. number x ≤ most) at.2 at.1.low;
      }

  ends : (k c : ℕ) → is_removed its_set c ≡ true → most < number c + k → IsSome (forward_of its_set events c)
  ends zero c gone few = let n = next c gone in let up = n.later in let top = n.low in absurd (omega arith)
  ends (suc k) c gone few =
      let n = next c gone in
      let up = n.later in
      elim (cases_Bool (is_removed its_set n.child)) [
        | inl too ↦
            subst IsSome (sym (n.only ∙ cond-true (is_removed its_set n.child) (forward (is_removed its_set) (nodes events) n.child) (Some n.child) too))
            (ends k n.child too (omega arith))
        | inr stays ↦
            subst IsSome (sym (n.only ∙ cond-false (is_removed its_set n.child) (forward (is_removed its_set) (nodes events) n.child) (Some n.child) stays)) refl
      ]

  target_there : (c : ℕ) → IsSome (its_joins.target c)
  target_there c =
      elim (cases_Bool (is_removed its_set c)) [
        | inl gone ↦
            subst IsSome (sym (cond-true (is_removed its_set c) (option_or (forward_of its_set events c) (back_of its_set events c)) (Some c) gone))
            (some_or (forward_of its_set events c) (back_of its_set events c) (ends (suc most) c gone (omega arith)))
        | inr stays ↦ subst IsSome (sym (cond-false (is_removed its_set c) (option_or (forward_of its_set events c) (back_of its_set events c)) (Some c) stays)) refl
      ]

  -- ---- each event

  module _ (id : AnyId) (other : IsOther id) where
    one_left : (e : PlainEvent) → has_id (left_of its_set events its_joins e) id ≡ has_id (e ∷ []) id
    one_left (Commit i mark branch author committer encoding comment parents ops aliases) =
        neither id (is_removed its_set i)
        (Commit i mark branch author committer encoding (its_joins.comment i parents comment) (parents_after its_set events its_joins parents) (its_joins.ops i parents ops) aliases)
        (Commit i mark branch author committer encoding comment parents ops aliases) refl (no_commit id other i)
    one_left (Blob i mark bytes) = refl
    one_left (Tag i name target tagger comment mark) =
        one_moves id (is_listed (any.Tag i) its_set) (λ t. Tag i name t tagger comment mark) (its_joins.target target) (Tag i name target tagger comment mark)
        (not_listed (any.Tag i) tt) (target_there target) (λ t. refl)
    one_left (Reset i branch None) = one_stays id (is_listed (any.Reset i) its_set) (Reset i branch None) (not_listed (any.Reset i) tt)
    one_left (Reset i branch (Some target)) =
        one_moves id (is_listed (any.Reset i) its_set) (λ t. Reset i branch (Some t)) (its_joins.target target) (Reset i branch (Some target))
        (not_listed (any.Reset i) tt) (target_there target) (λ t. refl)
    one_left (Pass i line) = one_stays id (is_listed (any.Pass i) its_set) (Pass i line) (not_listed (any.Pass i) tt)

    each_left : (es : List PlainEvent) → has_id (flat_map (left_of its_set events its_joins) es) id ≡ has_id es id
    each_left [] = refl
    each_left (e ∷ es) =
        has_id_append (left_of its_set events its_joins e) (flat_map (left_of its_set events its_joins) es) id
        ∙ (λ i. one_left e i || each_left es i)
        ∙ sym (has_id_append (e ∷ []) es id)

    others_stay : has_id (new seconds sel events h) id ≡ has_id events id
    others_stay =
        settled_ids (without_set its_set events its_joins) (new seconds sel events h) (done seconds sel events h) id
        ∙ swept_others events (all_left its_set events its_joins) id (no_blob id other)
        ∙ each_left events

  unlisted : (id : AnyId) → IsNoCommit id → has_id (new seconds sel events h) id ≡ has_id events id →
      has_id (new seconds sel events h) id ≡ has_id events id && not (is_listed id its_set)
  unlisted id free same = same ∙ sym (ap (λ b. has_id events id && not b) (not_listed id free) ∙ and_true (has_id events id))
    where
      and_true : (b : Bool) → b && true ≡ b
      and_true true = refl
      and_true false = refl

  pub all_stay : (id : AnyId) → has_id (new seconds sel events h) id ≡ has_id events id && not (is_listed id its_set)
  all_stay (any.Commit c) = commits_stay seconds sel events h c
  all_stay (any.Blob b) = unlisted (any.Blob b) tt (blobs_stay seconds sel events h b)
  all_stay (any.Tag t) = unlisted (any.Tag t) tt (others_stay (any.Tag t) tt)
  all_stay (any.Reset r) = unlisted (any.Reset r) tt (others_stay (any.Reset r) tt)
  all_stay (any.Pass p) = unlisted (any.Pass p) tt (others_stay (any.Pass p) tt)
