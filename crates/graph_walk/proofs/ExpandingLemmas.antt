-- Entries of a history's commits, from the first one on.
use Rattle.std.proofs.Common.{◌≡◌, ◌∙◌, ℕ, zero, suc, ◌<◌, ◌≤◌, Bool, true, false, inl, inr, List, [], ◌∷◌, ◌++◌, Option, Some, None, refl, sym, ap, subst, length, get_or, take, eqb, eq-eqb, arith, append_assoc, append-nil, reverse}
use Rattle.std.proofs.lemmas.Bool.{cases_Bool, eqb-true, true≢false, false_from_ne_true}
use Rattle.std.proofs.lemmas.Bool.Decides.{nat_tests}
use Rattle.std.proofs.lemmas.Option.{same_Some}
use Rattle.std.specs.List.{AllByRecursion}
use Rattle.std.specs.Prelude.{flat_map, map, nat_le, slice_get}
use Rattle.plain_model.specs.declared.limit.TheConstants.{MAX_PARENTS}
use Rattle.plain_model.specs.declared.id.AnyId.{AnyId}
use Rattle.plain_model.specs.declared.id.AnyId.TheVariants as any
use Rattle.plain_model.specs.declared.event.PlainEvent.{PlainEvent}
use Rattle.plain_model.specs.declared.event.PlainEvent.TheVariants.{Blob, Commit, Tag, Reset, Pass}
use Rattle.plain_model.specs.Histories.{Past, nodes, past}
use Rattle.plain_model.specs.Lookups.{id_of, is_listed, place_of}
use Rattle.plain_model.specs.Soundness.{IsCommitOf, IsSound}
use Rattle.history_laws.specs.Once.{AreDistinct}
use Rattle.event_arena.proofs.ListLemmas.{take_all}
use Rattle.graph_walk.specs.Expansions.{is_removed}
use Rattle.graph_walk.specs.Joined.{AreExpansions, Expanded, OfCommit, entry_at, entry_of, fits, joined, joined_from, kept, next_entry}
use Rattle.edit_laws.specs.Removal.{expand, once_each}
use Rattle.graph_walk.proofs.EarlierLemmas.{parents_before, past_item, is_earlier}
use Rattle.graph_walk.proofs.EntryLemmas.{length_more}
use Rattle.graph_walk.proofs.ExpansionLemmas.{longer_back, longer_front, once_once, with_all_once}
use Rattle.std.proofs.lemmas.Option.{slice_get_within}
use Rattle.graph_walk.proofs.PlaceLemmas.{place_found}

-- ---- what fits

fits_less : (bounded : Bool) (m n : ℕ) → m ≤ n → fits bounded m ≡ false → fits bounded n ≡ false
fits_less false m n h f = absurd (true≢false f)
fits_less true m n h f = low m n h f
  where
    low : (m n : ℕ) → m ≤ n → nat_le m MAX_PARENTS ≡ false → nat_le n MAX_PARENTS ≡ false
    low m n h f = grind (arith, nat_tests)

-- joined expansions are the expansion of all, or that is too long
pub from_kept : (bounded : Bool) (f : ℕ → List ℕ) → ((p : ℕ) → once_each (f p) ≡ f p) → (pre ps : List ℕ) →
    fits bounded (length (once_each pre)) ≡ true →
    joined_from bounded (once_each pre) (map (λ p. kept bounded (f p)) ps) ≡ kept bounded (once_each (pre ++ flat_map f ps))
from_kept bounded f once pre [] fit = sym (ap (λ xs. kept bounded (once_each xs)) (append-nil pre) ∙ rw fit refl)
from_kept bounded f once pre (p ∷ ps) fit = elim (cases_Bool (fits bounded (length (f p)))) [
  | inl it ↦ rw (it, with_all_once pre (f p)) (elim (cases_Bool (fits bounded (length (once_each (pre ++ f p))))) [
    | inl both ↦ rw both (from_kept bounded f once (pre ++ f p) ps both ∙ ap (λ xs. kept bounded (once_each xs)) (append_assoc pre (f p) (flat_map f ps)))
    | inr long ↦
        let more = longer_front (pre ++ f p) (flat_map f ps) in
        let all : fits bounded (length (once_each ((pre ++ f p) ++ flat_map f ps))) ≡ false = fits_less bounded _ _ more long in
        rw long (sym (ap (λ xs. kept bounded (once_each xs)) (sym (append_assoc pre (f p) (flat_map f ps))) ∙ rw all refl))
  ])
  | inr long ↦
      let back = longer_back pre (f p ++ flat_map f ps) in
      let front = longer_front (f p) (flat_map f ps) in
      let own = ap length (once p) in
      let all : fits bounded (length (once_each (pre ++ (f p ++ flat_map f ps)))) ≡ false = fits_less bounded (length (f p)) _ (omega arith) long in
      rw (long, all) refl
]

pub none_fits : (bounded : Bool) → fits bounded 0 ≡ true
none_fits true = refl
none_fits false = refl

one_fits : (bounded : Bool) → fits bounded 1 ≡ true
one_fits true = refl
one_fits false = refl

pub joined_kept : (bounded : Bool) (f : ℕ → List ℕ) → ((p : ℕ) → once_each (f p) ≡ f p) → (ps : List ℕ) →
    joined bounded (map (λ p. kept bounded (f p)) ps) ≡ kept bounded (once_each (flat_map f ps))
joined_kept bounded f once [] = sym (rw (none_fits bounded) refl)
joined_kept bounded f once (p ∷ []) =
    sym (ap (λ xs. kept bounded (once_each xs)) (append-nil (f p)) ∙ ap (kept bounded) (once p))
joined_kept bounded f once (p ∷ q ∷ ps) = from_kept bounded f once [] (p ∷ q ∷ ps) (none_fits bounded)

-- an expansion has no commit twice
pub expand_once : (removed : ℕ → Bool) (older : Past) (c : ℕ) →
    once_each (expand removed older c) ≡ expand removed older c
expand_once removed [] c = refl
expand_once removed (n ∷ older) c = elim (cases_Bool (eqb n.id c)) [
  | inl it ↦ rw it (elim (cases_Bool (removed c)) [
    | inl gone ↦ rw gone (once_once (flat_map (expand removed older) n.parents))
    | inr stays ↦ rw stays refl
  ])
  | inr no_it ↦ rw no_it (expand_once removed older c)
]

-- ---- the first k events

pub record AreExpandedTo (events : List PlainEvent) (removed : List AnyId) (k : ℕ) (s : Expanded) : Type 0 where
  pub count : length s.entries ≡ k
  pub entry : (j : ℕ) (e : PlainEvent) → slice_get events j ≡ Some e → j < k →
      OfCommit (λ c. get_or s.entries j None ≡ kept s.bounded (expand (is_removed removed) (past (take k events)) c)) e

get_old : (xs : List (Option (List ℕ))) (x : Option (List ℕ)) (k : ℕ) → k < length xs →
    get_or (xs ++ x ∷ []) k None ≡ get_or xs k None
get_old [] x k h = absurd (omega arith)
get_old (y ∷ xs) x zero h = refl
get_old (y ∷ xs) x (suc k) h = get_old xs x k (omega arith)

get_new : (xs : List (Option (List ℕ))) (x : Option (List ℕ)) → get_or (xs ++ x ∷ []) (length xs) None ≡ x
get_new [] x = refl
get_new (y ∷ xs) x = get_new xs x

pub map_on : (f g : ℕ → Option (List ℕ)) (P : ℕ → Type 0) → ((x : ℕ) → P x → f x ≡ g x) → (xs : List ℕ) →
    AllByRecursion P xs → map f xs ≡ map g xs
map_on f g P h [] all = refl
map_on f g P h (x ∷ xs) all = ap (λ y. y ∷ map f xs) (h x all.0) ∙ ap (λ ys. g x ∷ ys) (map_on f g P h xs all.1)

module _ (events : List PlainEvent) (sound : IsSound events) (once : AreDistinct events) (removed : List AnyId) where
  -- a fact of a commit by its event
  pub of_commit_at : (P : ℕ → Type 0) (e : PlainEvent) (c : ℕ) → any.Commit c ≡ id_of e → OfCommit P e → P c
  of_commit_at P (Commit id mark branch author committer encoding comment parents ops aliases) c own h = let is : c ≡ id = cc in subst P (sym is) h
  of_commit_at P (Blob id mark bytes) c own h = absurd cc
  of_commit_at P (Tag id name target tagger comment mark) c own h = absurd cc
  of_commit_at P (Reset id branch target) c own h = absurd cc
  of_commit_at P (Pass id line) c own h = absurd cc

  to_commit : (P : ℕ → Type 0) (e : PlainEvent) → ((c : ℕ) → any.Commit c ≡ id_of e → P c) → OfCommit P e
  to_commit P (Commit id mark branch author committer encoding comment parents ops aliases) h = h id refl
  to_commit P (Blob id mark bytes) h = tt
  to_commit P (Tag id name target tagger comment mark) h = tt
  to_commit P (Reset id branch target) h = tt
  to_commit P (Pass id line) h = tt

  -- the entry of a parent
  parent_entry : (k p : ℕ) (s : Expanded) → AreExpandedTo events removed k s → IsCommitOf (take k events) p →
      entry_of s.entries events p ≡ kept s.bounded (expand (is_removed removed) (past (take k events)) p)
  parent_entry k p s a h =
      let b = is_earlier events k p h in
      ap (entry_at s.entries) (ap (λ id. place_of id events) b.own ∙ (place_found events b.place b.event b.at once).0)
      ∙ of_commit_at (λ c. get_or s.entries b.place None ≡ kept s.bounded (expand (is_removed removed) (past (take k events)) c)) b.event p b.own (a.entry b.place b.event b.at b.low)

  -- commits before the k-th event aren't the k-th
  apart : (j k : ℕ) (d e : PlainEvent) (id c : ℕ) → slice_get events j ≡ Some d → j < k → slice_get events k ≡ Some e →
      any.Commit id ≡ id_of e → any.Commit c ≡ id_of d → eqb id c ≡ false
  apart j k d e id c at low here own other = false_from_ne_true (eqb id c) (λ t.
      let same : id_of d ≡ id_of e = sym other ∙ ap any.Commit (sym (eqb-true id c t)) ∙ own in
      let place : j ≡ k = same_Some j k (sym (place_found events j d at once).0 ∙ ap (λ i. place_of i events) same ∙ (place_found events k e here once).0) in
      absurd (omega arith))

  kept_before : (j k : ℕ) (d e : PlainEvent) (c : ℕ) → slice_get events j ≡ Some d → j < k →
      slice_get events k ≡ Some e → any.Commit c ≡ id_of d →
      expand (is_removed removed) (reverse (nodes (e ∷ [])) ++ past (take k events)) c ≡ expand (is_removed removed) (past (take k events)) c
  kept_before j k d (Commit id mark branch author committer encoding comment parents ops aliases) c at low here own =
      rw (apart j k d (Commit id mark branch author committer encoding comment parents ops aliases) id c at low here refl own) refl
  kept_before j k d (Blob id mark bytes) c at low here own = refl
  kept_before j k d (Tag id name target tagger comment mark) c at low here own = refl
  kept_before j k d (Reset id branch target) c at low here own = refl
  kept_before j k d (Pass id line) c at low here own = refl

  -- the entry that comes next is the k-th event's expansion
  next_is : (k : ℕ) (e : PlainEvent) (s : Expanded) (flag : Bool) → slice_get events k ≡ Some e →
      flag ≡ is_listed (id_of e) removed → AreExpandedTo events removed k s →
      OfCommit (λ c. next_entry s.bounded events s.entries flag e ≡ kept s.bounded (expand (is_removed removed) (reverse (nodes (e ∷ [])) ++ past (take k events)) c)) e
  next_is k (Commit id mark branch author committer encoding comment parents ops aliases) s flag at is a =
      let e : PlainEvent = Commit id mark branch author committer encoding comment parents ops aliases in
      let older = past (take k events) in
      let parts : map (entry_of s.entries events) parents ≡ map (λ p. kept s.bounded (expand (is_removed removed) older p)) parents =
      map_on (entry_of s.entries events) (λ p. kept s.bounded (expand (is_removed removed) older p)) (IsCommitOf (take k events)) (λ p h. parent_entry k p s a h) parents (parents_before [] events k e sound.formed at) in
      rw (eq-eqb id id refl) (elim (cases_Bool (is_listed (any.Commit id) removed)) [
        | inl gone ↦ rw (is, gone, parts) (joined_kept s.bounded (expand (is_removed removed) older) (expand_once (is_removed removed) older) parents)
        | inr stays ↦ rw (is, stays, one_fits s.bounded) refl
      ])
  next_is k (Blob id mark bytes) s flag at is a = tt
  next_is k (Tag id name target tagger comment mark) s flag at is a = tt
  next_is k (Reset id branch target) s flag at is a = tt
  next_is k (Pass id line) s flag at is a = tt

  -- an earlier entry stays, and the k-th is the one that comes next
  old_entry : (k j : ℕ) (d e : PlainEvent) (c : ℕ) (s : Expanded) (flag : Bool) → slice_get events j ≡ Some d →
      slice_get events k ≡ Some e → j < k → any.Commit c ≡ id_of d → AreExpandedTo events removed k s →
      get_or (s.entries ++ next_entry s.bounded events s.entries flag e ∷ []) j None ≡ kept s.bounded (expand (is_removed removed) (past (take (suc k) events)) c)
  old_entry k j d e c s flag at here low own a =
      get_old s.entries (next_entry s.bounded events s.entries flag e) j (let n = a.count in omega arith)
      ∙ of_commit_at (λ x. get_or s.entries j None ≡ kept s.bounded (expand (is_removed removed) (past (take k events)) x)) d c own (a.entry j d at low)
      ∙ ap (kept s.bounded) (sym (kept_before j k d e c at low here own))
      ∙ ap (λ p. kept s.bounded (expand (is_removed removed) p c)) (sym (past_item events k e here))

  new_entry : (k : ℕ) (e : PlainEvent) (c : ℕ) (s : Expanded) (flag : Bool) → slice_get events k ≡ Some e →
      flag ≡ is_listed (id_of e) removed → any.Commit c ≡ id_of e → AreExpandedTo events removed k s →
      get_or (s.entries ++ next_entry s.bounded events s.entries flag e ∷ []) k None ≡ kept s.bounded (expand (is_removed removed) (past (take (suc k) events)) c)
  new_entry k e c s flag here is own a =
      ap (λ i. get_or (s.entries ++ next_entry s.bounded events s.entries flag e ∷ []) i None) (sym a.count)
      ∙ get_new s.entries (next_entry s.bounded events s.entries flag e)
      ∙ of_commit_at (λ x. next_entry s.bounded events s.entries flag e ≡ kept s.bounded (expand (is_removed removed) (reverse (nodes (e ∷ [])) ++ past (take k events)) x)) e c own (next_is k e s flag here is a)
      ∙ ap (λ p. kept s.bounded (expand (is_removed removed) p c)) (sym (past_item events k e here))

  pub expanded_more : (k : ℕ) (e : PlainEvent) (s new : Expanded) (flag : Bool) → slice_get events k ≡ Some e →
      flag ≡ is_listed (id_of e) removed → AreExpandedTo events removed k s →
      new.bounded ≡ s.bounded → new.entries ≡ s.entries ++ next_entry s.bounded events s.entries flag e ∷ [] →
      AreExpandedTo events removed (suc k) new
  expanded_more k e s new flag here is a same grows = record {
    count = ap length grows ∙ length_more s.entries (next_entry s.bounded events s.entries flag e) ∙ ap suc a.count;
    entry = λ j d at low. to_commit (λ c. get_or new.entries j None ≡ kept new.bounded (expand (is_removed removed) (past (take (suc k) events)) c)) d (λ c own.
        ap (λ es. get_or es j None) grows ∙ either j d c at low own ∙ ap (λ b. kept b (expand (is_removed removed) (past (take (suc k) events)) c)) (sym same));
  }
    where
      either : (j : ℕ) (d : PlainEvent) (c : ℕ) → slice_get events j ≡ Some d → j < suc k → any.Commit c ≡ id_of d →
          get_or (s.entries ++ next_entry s.bounded events s.entries flag e ∷ []) j None ≡ kept s.bounded (expand (is_removed removed) (past (take (suc k) events)) c)
      either j d c at low own = elim (cases_Bool (eqb j k)) [
        | inl it ↦
            let j_is : j ≡ k = eqb-true j k it in
            let d_is : d ≡ e = same_Some d e (sym at ∙ ap (slice_get events) j_is ∙ here) in
            ap (λ i. get_or (s.entries ++ next_entry s.bounded events s.entries flag e ∷ []) i None) j_is ∙ new_entry k e c s flag here is (own ∙ ap id_of d_is) a
        | inr no_it ↦ old_entry k j d e c s flag at here (below j low no_it) own a
      ]
        where
          below : (j : ℕ) → j < suc k → eqb j k ≡ false → j < k
          below j low h = grind (arith, nat_tests)

  pub expanded_all : (k : ℕ) (s : Expanded) → k ≡ length events → AreExpandedTo events removed k s →
      AreExpansions events removed s
  expanded_all k s all a = record {
    count = a.count ∙ all;
    entry = λ j e at. subst (λ es. OfCommit (λ c. get_or s.entries j None ≡ kept s.bounded (expand (is_removed removed) (past es) c)) e) (take_all events k (omega arith)) (a.entry j e at (let low = slice_get_within events j e at in omega arith));
  }
