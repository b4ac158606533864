-- What is noted of some commits, by the places of entries, and of one commit after another.
use Rattle.std.proofs.Common.{◌≡◌, ◌∙◌, ℕ, zero, suc, ◌<◌, ◌≤◌, true, false, cond, inl, inr, ◌⊎◌, List, [], ◌∷◌, ◌++◌, Some, refl, sym, ap, subst, length, get_or, arith, eqb-true, ltb, ltb-true, ltb-false}
use Rattle.std.proofs.lemmas.Bool.{cases_Bool, cases_eq, eqb-false, ltb-true}
use Rattle.std.specs.List.Sorted.{IsNonDecreasingBy, IsPartitionPoint}
use Rattle.std.specs.Prelude.{◌==◌, nat_lt, slice_get}
use Rattle.plain_model.specs.declared.id.AnyId.{AnyId}
use Rattle.plain_model.specs.declared.event.PlainEvent.{PlainEvent}
use Rattle.edit_laws.proofs.Limits.{few}
use Rattle.squash_delete.specs.Chains.{AreEntries, AreLinks, LinkIs, Noted, NotesNext, no_link, noted_at}
use Rattle.plan_steps.specs.Near.{NoneNear}
use Rattle.squash_delete.specs.declared.chains.Entry.{Entry}
use Rattle.squash_delete.specs.declared.chains.Link.{Link}
use Rattle.squash_delete.proofs.ChainLemmas.{notes_stays}
use Rattle.plan_steps.proofs.NearLemmas.{is_apart}
use Rattle.plan_steps.proofs.Tables.{any_default}
use Rattle.plan_steps.proofs.WayLemmas.{removed_at}

-- ---- entries

abbrev pub no_entry : Entry
no_entry = record { place = 0; link = no_link }

-- one that has another place notes nothing there
other_place : (x : Entry) (xs : List Entry) (k : ℕ) → (x.place ≡ k → ⊥) → noted_at (x ∷ xs) k ≡ noted_at xs k
other_place x xs k other = elim (cases_Bool (x.place == k)) [
  | inl it ↦ absurd (other (eqb-true x.place k it))
  | inr no_it ↦ ap (λ b. cond b x.link (noted_at xs k)) no_it
]

same_place : (x : Entry) (xs : List Entry) (k : ℕ) → x.place ≡ k → noted_at (x ∷ xs) k ≡ x.link
same_place x xs k same = elim (cases_Bool (x.place == k)) [
  | inl it ↦ ap (λ b. cond b x.link (noted_at xs k)) it
  | inr no_it ↦ absurd (eqb-false x.place k no_it same)
]

-- where no entry has the place, nothing is noted
pub noted_none : (xs : List Entry) (k : ℕ) → ((j : ℕ) → j < length xs → (get_or xs j no_entry).place ≡ k → ⊥) → noted_at xs k ≡ no_link
noted_none [] k none = refl
noted_none (x ∷ xs) k none =
    other_place x xs k (none 0 (omega arith)) ∙ noted_none xs k (λ j low. none (suc j) (omega arith))

-- the first entry that has it counts
pub noted_first : (xs : List Entry) (i k : ℕ) → i < length xs → ((j : ℕ) → j < i → (get_or xs j no_entry).place ≡ k → ⊥) → (get_or xs i no_entry).place ≡ k →
    noted_at xs k ≡ (get_or xs i no_entry).link
noted_first [] i k low before own = absurd (omega arith)
noted_first (x ∷ xs) zero k low before own = same_place x xs k own
noted_first (x ∷ xs) (suc i) k low before own =
    other_place x xs k (before 0 (omega arith)) ∙ noted_first xs i k (omega arith) (λ j under. before (suc j) (omega arith)) own

-- one entry more
noted_before : (xs : List Entry) (x : Entry) (k : ℕ) → (x.place ≡ k → ⊥) → noted_at (xs ++ x ∷ []) k ≡ noted_at xs k
noted_before [] x k other = other_place x [] k other
noted_before (y ∷ xs) x k other = ap (λ link. cond (y.place == k) y.link link) (noted_before xs x k other)

noted_last : (xs : List Entry) (x : Entry) → ((j : ℕ) → j < length xs → (get_or xs j no_entry).place ≡ x.place → ⊥) → noted_at (xs ++ x ∷ []) x.place ≡ x.link
noted_last [] x none = same_place x [] x.place refl
noted_last (y ∷ xs) x none =
    other_place y (xs ++ x ∷ []) x.place (none 0 (omega arith)) ∙ noted_last xs x (λ j low. none (suc j) (omega arith))

module _ (count : ℕ) (xs : List Entry) (are : AreEntries count xs) where
  -- past the last place nothing is noted
  pub noted_past : (k : ℕ) → count ≤ k → noted_at xs k ≡ no_link
  noted_past k past = noted_none xs k (λ j low is. let below = are.below j no_entry low in absurd (omega arith))

  pub notes_next : (link : Link) →
      NotesNext (record { count = count; entries = xs }) link (record { count = suc count; entries = xs ++ record { place = count; link = link } ∷ [] })
  notes_next link = record {
    count = refl;
    next = noted_last xs (record { place = count; link = link }) (λ j low is. let below = are.below j no_entry low in absurd (omega arith));
    same = λ k low. noted_before xs (record { place = count; link = link }) k (λ is. absurd (omega arith));
  }

-- ---- halving

module _ (xs : List Entry) (i place : ℕ) (point : IsPartitionPoint (λ (x : Entry). ltb x.place place ≡ true) (λ (x : Entry). ltb x.place place ≡ false) xs i) where
  earlier : (j : ℕ) → j < length xs → j < i → (get_or xs j no_entry).place < place
  earlier j low under = ltb-true (get_or xs j no_entry).place place (point.0 j no_entry (omega arith) under)

  later : (j : ℕ) → i ≤ j → j < length xs → place ≤ (get_or xs j no_entry).place
  later j from low = ltb-false (get_or xs j no_entry).place place (point.1 j no_entry from low)

  -- the first entry that isn't earlier, if it has the place
  pub noted_found : (entry : Entry) → true ≡ nat_lt i (length xs) → entry ≡ get_or xs i entry → entry.place ≡ place → entry.link ≡ noted_at xs place
  noted_found entry within is own =
      let low = ltb-true i (length xs) (sym within) in
      let here : get_or xs i no_entry ≡ entry = any_default xs i no_entry entry low ∙ sym is in
      ap (λ (x : Entry). x.link) (sym here)
      ∙ sym (noted_first xs i place low (λ j under same. let below = earlier j (omega arith) under in absurd (omega arith))
      (ap (λ (x : Entry). x.place) here ∙ own))

  -- none has it, where all are earlier, and where that one has another
  pub noted_past_all : false ≡ nat_lt i (length xs) → no_link ≡ noted_at xs place
  noted_past_all past =
      let over = few i (length xs) (sym past) in
      sym (noted_none xs place (λ j low same. let below = earlier j low (omega arith) in absurd (omega arith)))

  pub noted_other : IsNonDecreasingBy (λ (x : Entry). x.place) xs → (entry : Entry) → true ≡ nat_lt i (length xs) → entry ≡ get_or xs i entry → (entry.place ≡ place → ⊥) →
      no_link ≡ noted_at xs place
  noted_other rising entry within is other =
      let low = ltb-true i (length xs) (sym within) in
      let here = ap (λ (x : Entry). x.place) (any_default xs i no_entry entry low ∙ sym is) in
      let from = later i (omega arith) low in
      sym (noted_none xs place (λ j under same. elim (either j i) [
        | inl before ↦ let below = earlier j under before in absurd (omega arith)
        | inr after ↦ let up = rising i j no_entry after under in absurd (omega arith)
      ]))
    where
      either : (a b : ℕ) → (a < b) ⊎ (b ≤ a)
      either a b = grind arith

-- ---- notes of one commit after another

pub links_none : (set : List AnyId) (events : List PlainEvent) (noted : Noted) → noted.count ≡ 0 → AreLinks set events noted
links_none set events noted none k e at low = absurd (omega arith)

module _ (set : List AnyId) (events : List PlainEvent) (old new : Noted) (links : AreLinks set events old) where
  pub links_more : (link : Link) → ((d : PlainEvent) → slice_get events old.count ≡ Some d → LinkIs set events d link) →
      NotesNext old link new → AreLinks set events new
  links_more link own next k d at low = elim (cases_eq k old.count) [
    | inl is ↦
        let there : slice_get events old.count ≡ Some d = ap (slice_get events) (sym is) ∙ at in
        subst (LinkIs set events d) (sym (ap (noted_at new.entries) is ∙ next.next)) (own d there)
    | inr other ↦
        let count = next.count in
        let before : k < old.count = omega arith in
        subst (LinkIs set events d) (sym (next.same k before)) (links k d at before)
  ]

  pub links_over : new.entries ≡ old.entries → ((k : ℕ) → old.count ≤ k → noted_at new.entries k ≡ no_link) → NoneNear set events old.count new.count → AreLinks set events new
  links_over same others none k e at low = elim (either k old.count) [
    | inl before ↦ subst (λ (xs : List Entry). LinkIs set events e (noted_at xs k)) (sym same) (links k e at before)
    | inr past ↦ λ c is.
        subst (λ link. LinkIs set events e link) (sym (others k past)) (λ c is.
        notes_stays set events c (sym (removed_at set c e false is (sym (is_apart set e (none k e past low at)).own)))) c is
  ]
    where
      either : (a b : ℕ) → (a < b) ⊎ (b ≤ a)
      either a b = grind arith
