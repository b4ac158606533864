-- What is kept where a tree is used.
use Rattle.std.proofs.Common.{◌≡◌, ℕ, ◌-◌, zero, suc, true, false, inl, inr, List, [], ◌∷◌, take, Option, Some, None, refl, sym, ap, ◌∙◌, nat_eq, eqb-true, eq-eqb}
use Rattle.std.specs.Map.{lookup, lookup_entry, remove_entry}
use Rattle.std.specs.Option.{option_map_or}
use Rattle.std.proofs.lemmas.Bool.{cases_Bool, true≢false}
use Rattle.std.proofs.lemmas.Option.{none-some, same_Some}
use Rattle.lru.specs.LruCache.{LruCache, lru_cache, promoted, put_entries}
use Rattle.plain_model.specs.declared.event.PlainEvent.{PlainEvent}
use Rattle.plain_model.specs.Histories.{tree}
use Rattle.plain_model.specs.Trees.{Tree}
use Rattle.manifest_cache.specs.Kept.{AgreesWith, Kept, is_kept, used}

-- a kept tree is that of its commit
pub kept_is : (events : List PlainEvent) (kept : Kept) (c : ℕ) (t : Tree) → AgreesWith events kept → lookup (nat_eq c) kept ≡ Some t → tree events c ≡ Some t
kept_is events [] c t agrees h = absurd (none-some t h)
kept_is events (k ∷ kept) c t agrees h = elim (cases_Bool (nat_eq c k.0)) [
  | inl it ↦
      let same : k.1 ≡ t = same_Some k.1 t (rw it at h) in
      ap (tree events) (eqb-true c k.0 it) ∙ agrees.0 ∙ ap (λ (u : Tree). Some u) same
  | inr no_it ↦ kept_is events kept c t agrees.1 (rw no_it at h)
]

-- the entry of a commit that is kept
abbrev HasEntry : List PlainEvent → ℕ → Option (ℕ × Tree) → Type 0
HasEntry events c None = ⊥
HasEntry events c (Some k) = (k.0 ≡ c) × (tree events c ≡ Some k.1)

has_entry : (events : List PlainEvent) (kept : Kept) (c : ℕ) → AgreesWith events kept → is_kept kept c ≡ true → HasEntry events c (lookup_entry (nat_eq c) kept)
has_entry events [] c agrees h = absurd (true≢false (sym h))
has_entry events (k ∷ kept) c agrees h = elim (cases_Bool (nat_eq c k.0)) [
  | inl it ↦ let same = eqb-true c k.0 it in rw it (sym same, ap (tree events) same ∙ agrees.0)
  | inr no_it ↦ rw no_it (has_entry events kept c agrees.1 (rw no_it at h))
]

no_entry : (kept : Kept) (c : ℕ) → is_kept kept c ≡ false → lookup_entry (nat_eq c) kept ≡ None
no_entry [] c h = refl
no_entry (k ∷ kept) c h = elim (cases_Bool (nat_eq c k.0)) [
  | inl it ↦ absurd (true≢false (rw it at h))
  | inr no_it ↦ rw no_it (no_entry kept c (rw no_it at h))
]

-- a commit that is kept is used by putting it first
pub promoted_is : (events : List PlainEvent) (kept : Kept) (c : ℕ) → AgreesWith events kept → is_kept kept c ≡ true
    → (t : Tree) × (tree events c ≡ Some t) × (promoted (nat_eq c) kept ≡ used c t kept)
promoted_is events kept c agrees h = go (lookup_entry (nat_eq c) kept) (has_entry events kept c agrees h)
  where
    go : (o : Option (ℕ × Tree)) → HasEntry events c o
        → (t : Tree) × (tree events c ≡ Some t) × (option_map_or (λ e. e ∷ remove_entry (nat_eq c) kept) o kept ≡ used c t kept)
    go None no_entry = absurd no_entry
    go (Some k) own = (k.1, own.1, rw h (ap (λ d. (d, k.1) ∷ remove_entry (nat_eq c) kept) own.0))

pub promoted_cache : (events : List PlainEvent) (cache : LruCache ℕ Tree) (n c : ℕ) → cache.cap ≡ 64 → n ≡ c → AgreesWith events cache.entries
    → is_kept cache.entries n ≡ true
    → (t : Tree) × (tree events c ≡ Some t) × (lru_cache (promoted (nat_eq n) cache.entries) cache.cap ≡ lru_cache (used c t cache.entries) 64)
promoted_cache events cache n c cap same agrees h =
    let made = promoted_is events cache.entries n agrees h in (
      made.0,
      ap (tree events) (sym same) ∙ made.1,
      (λ i. lru_cache (made.2 i) (cap i)) ∙ ap (λ d. lru_cache (used d made.0 cache.entries) 64) same,
    )

-- one that isn't is put
pub put_cache : (cache : LruCache ℕ Tree) (m n c : ℕ) (t : Tree) → cache.cap ≡ 64 → m ≡ c → n ≡ c → is_kept cache.entries m ≡ false
    → lru_cache (put_entries nat_eq cache n t) cache.cap ≡ lru_cache (used c t cache.entries) 64
put_cache cache m n c t cap is_m is_n h =
    let unkept = ap (is_kept cache.entries) (sym is_m) ∙ h in
    (λ i. lru_cache (put_entries nat_eq cache (is_n i) t) (cap i))
    ∙ ap (λ es. lru_cache es 64) (new unkept)
  where
    new : is_kept cache.entries c ≡ false → put_entries nat_eq cache c t ≡ used c t cache.entries
    new unkept = rw (no_entry cache.entries c unkept, unkept, cap) refl

-- ---- what is kept still agrees

agrees_without : (events : List PlainEvent) (kept : Kept) (c : ℕ) → AgreesWith events kept → AgreesWith events (remove_entry (nat_eq c) kept)
agrees_without events [] c h = tt
agrees_without events (k ∷ kept) c h = elim (cases_Bool (nat_eq c k.0)) [
  | inl it ↦ rw it h.1
  | inr no_it ↦ rw no_it (h.0, agrees_without events kept c h.1)
]

agrees_take : (events : List PlainEvent) (n : ℕ) (kept : Kept) → AgreesWith events kept → AgreesWith events (take n kept)
agrees_take events zero kept h = tt
agrees_take events (suc n) [] h = tt
agrees_take events (suc n) (k ∷ kept) h = (h.0, agrees_take events n kept h.1)

pub agrees_used : (events : List PlainEvent) (kept : Kept) (c : ℕ) (t : Tree) → AgreesWith events kept → tree events c ≡ Some t
    → AgreesWith events (used c t kept)
agrees_used events kept c t h is = elim (cases_Bool (is_kept kept c)) [
  | inl it ↦ rw it (is, agrees_without events kept c h)
  | inr no_it ↦ rw no_it (is, agrees_take events 63 kept h)
]

-- a tree that is put agrees where it is that of its commit
pub agrees_put : (events : List PlainEvent) (cache : LruCache ℕ Tree) (c : ℕ) (t : Tree) → AgreesWith events cache.entries → tree events c ≡ Some t
    → AgreesWith events (put_entries nat_eq cache c t)
agrees_put events cache c t h is = elim (cases_Bool (is_kept cache.entries c)) [
  | inl it ↦ go (lookup_entry (nat_eq c) cache.entries) (has_entry events cache.entries c h it)
  | inr no_it ↦ rw (no_entry cache.entries c no_it) (is, agrees_take events (cache.cap - 1) cache.entries h)
]
  where
    go : (o : Option (ℕ × Tree)) → HasEntry events c o
        → AgreesWith events (option_map_or (λ e. (e.0, t) ∷ remove_entry (nat_eq c) cache.entries) o ((c, t) ∷ take (cache.cap - 1) cache.entries))
    go None own = absurd own
    go (Some k) own = (ap (tree events) own.0 ∙ is, agrees_without events cache.entries c h)

-- the tree that was used is found
pub lookup_used : (kept : Kept) (c : ℕ) (t : Tree) → lookup (nat_eq c) (used c t kept) ≡ Some t
lookup_used kept c t = rw (eq-eqb c c refl) refl
