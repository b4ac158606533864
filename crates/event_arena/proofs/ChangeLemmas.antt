-- Changes of a list of events.
use Rattle.std.proofs.Common.{◌≡◌, ◌∙◌, ℕ, zero, suc, ◌-◌, ◌<◌, Bool, true, false, ◌||◌, inl, inr, List, [], ◌∷◌, ◌++◌, Option, Some, None, refl, ap, sym, length, take, get_or, append_assoc, arith}
use Rattle.std.proofs.lemmas.Bool.{cases_Bool, true≢false}
use Rattle.std.proofs.lemmas.Option.{none-some, same_Some}
use Rattle.std.specs.List.{AllByRecursion, IsDistinct}
use Rattle.std.specs.Prelude.{map, option_to_list, replicate, slice_get}
use Rattle.plain_model.specs.declared.id.AnyId.{AnyId}
use Rattle.plain_model.specs.declared.id.AnyId.TheVariants as any
use Rattle.plain_model.specs.declared.operation.FileOp.{FileOp}
use Rattle.plain_model.specs.declared.person.Signed.{Signed}
use Rattle.plain_model.specs.declared.event.PlainEvent.{PlainEvent}
use Rattle.plain_model.specs.declared.event.PlainEvent.TheVariants as plain
use Rattle.plain_model.specs.Lookups.{find_event, id_of, is_listed, place_of, same_id}
use Rattle.history_laws.proofs.Ids.{same_id_true, same_id_comm, absent_cons, cons_absent, find_id, some_suc}
use Rattle.std.proofs.Math.Bool.{or-false, or-true}
use Rattle.std.proofs.Math.ListN.{set}
use Rattle.event_arena.specs.declared.field.Field.{Field}
use Rattle.event_arena.specs.declared.field.Field.TheVariants as field
use Rattle.event_arena.specs.declared.field.Role.{Role}
use Rattle.event_arena.specs.declared.field.Role.TheVariants.{Author, Committer, Tagger}
use Rattle.event_arena.specs.Changes.{in_order, with_aliases, with_comment, with_field, with_label, with_mark, with_ops, with_parents, with_signed, with_target, without_all}
use Rattle.history_laws.specs.Once.{AreDistinct}

-- a value in a field leaves the id
pub id_with_field : (f : Field) (e : PlainEvent) → id_of (with_field f e) ≡ id_of e
id_with_field (field.Parents new) e = parents new e
  where
    parents : (new : List ℕ) (e : PlainEvent) → id_of (with_parents new e) ≡ id_of e
    parents new (plain.Commit id mark branch author committer encoding comment ps ops aliases) = refl
    parents new _ = refl
id_with_field (field.Ops new) e = ops new e
  where
    ops : (new : List FileOp) (e : PlainEvent) → id_of (with_ops new e) ≡ id_of e
    ops new (plain.Commit id mark branch author committer encoding comment ps os aliases) = refl
    ops new _ = refl
id_with_field (field.Mark new) e = mark new e
  where
    mark : (new : ℕ) (e : PlainEvent) → id_of (with_mark new e) ≡ id_of e
    mark new (plain.Blob id m bytes) = refl
    mark new (plain.Tag id name t tagger comment m) = tagged m
      where
        tagged : (m : Option ℕ) → id_of (with_mark new (plain.Tag id name t tagger comment m)) ≡ any.Tag id
        tagged None = refl
        tagged (Some old) = refl
    mark new _ = refl
id_with_field (field.Aliases new) e = aliases new e
  where
    aliases : (new : List ℕ) (e : PlainEvent) → id_of (with_aliases new e) ≡ id_of e
    aliases new (plain.Commit id mark branch author committer encoding comment ps ops old) = refl
    aliases new _ = refl
id_with_field (field.Label new) e = label new e
  where
    label : (new : List ℕ) (e : PlainEvent) → id_of (with_label new e) ≡ id_of e
    label new (plain.Tag id name t tagger comment m) = refl
    label new _ = refl
id_with_field (field.Target new) e = target new e
  where
    target : (new : ℕ) (e : PlainEvent) → id_of (with_target new e) ≡ id_of e
    target new (plain.Tag id name t tagger comment mark) = refl
    target new _ = refl
id_with_field (field.Comment new) e = comment new e
  where
    comment : (new : List ℕ) (e : PlainEvent) → id_of (with_comment new e) ≡ id_of e
    comment new (plain.Tag id name target tagger c mark) = refl
    comment new _ = refl
id_with_field (field.Signed role new) e = signed role new e
  where
    signed : (role : Role) (new : Signed) (e : PlainEvent) → id_of (with_signed role new e) ≡ id_of e
    signed Author new (plain.Commit id mark branch author committer encoding comment ps ops aliases) = refl
    signed Committer new (plain.Commit id mark branch author committer encoding comment ps ops aliases) = refl
    signed Tagger new (plain.Tag id name target tagger comment mark) = refl
    signed _ new _ = refl

-- ---- lists of ids

pub is_listed_append : (ids more : List AnyId) (id : AnyId) → is_listed id (ids ++ more) ≡ is_listed id ids || is_listed id more
is_listed_append [] more id = refl
is_listed_append (x ∷ ids) more id = elim (cases_Bool (same_id id x)) [
  | inl it ↦ rw it refl
  | inr no_it ↦ rw no_it (is_listed_append ids more id)
]

-- ---- orders

-- no id occurs twice
abbrev pub AreListedOnce : List AnyId → Type 0
AreListedOnce [] = Unit {0}
AreListedOnce (id ∷ ids) = (is_listed id ids ≡ false) × AreListedOnce ids

pub once_distinct : (ids : List AnyId) → IsDistinct same_id ids → AreListedOnce ids
unfolding IsDistinct
once_distinct [] h = tt
once_distinct (id ∷ ids) h = (unlisted ids h.0, once_distinct ids h.1)
  where
    unlisted : (ids : List AnyId) → AllByRecursion (λ y. same_id id y ≡ false) ids → is_listed id ids ≡ false
    unlisted [] h = refl
    unlisted (x ∷ ids) h = rw h.0 (unlisted ids h.1)

-- an order, one id more
pub order_more : (ids : List AnyId) (i : ℕ) (id : AnyId) (es : List PlainEvent) → i < length ids → id ≡ get_or ids i id →
    in_order (take (suc i) ids) es ≡ in_order (take i ids) es ++ option_to_list (find_event id es)
order_more [] i id es h g = absurd (omega arith)
order_more (x ∷ ids) zero id es h g = rw (← g) (nil (option_to_list (find_event id es)))
  where
    nil : (xs : List PlainEvent) → xs ++ [] ≡ xs
    nil [] = refl
    nil (x ∷ xs) = ap (λ ys. x ∷ ys) (nil xs)
order_more (x ∷ ids) (suc i) id es h g =
    ap (λ ys. option_to_list (find_event x es) ++ ys) (order_more ids i id es (omega arith) g)
    ∙ sym (append_assoc (option_to_list (find_event x es)) (in_order (take i ids) es) (option_to_list (find_event id es)))

-- what was put in order has listed ids alone
pub order_misses : (ids : List AnyId) (es : List PlainEvent) (id : AnyId) → is_listed id ids ≡ false → find_event id (in_order ids es) ≡ None
order_misses [] es id h = refl
order_misses (x ∷ ids) es id h = elim (cases_Bool (same_id id x)) [
  | inl it ↦ absurd (true≢false (sym (rw it refl) ∙ h))
  | inr no_it ↦ by (find_event x es) refl (order_misses ids es id (rw no_it at h)) no_it
]
  where
    by : (o : Option PlainEvent) → find_event x es ≡ o → find_event id (in_order ids es) ≡ None → same_id id x ≡ false →
        find_event id (option_to_list o ++ in_order ids es) ≡ None
    by None o rest no_it = rest
    by (Some e) o rest no_it = cons_absent id e (in_order ids es) (sym (ap (same_id id) (find_id x es e o)) ∙ no_it) rest

-- ---- the places of listed ids

listed_other : (id : AnyId) (seen : List AnyId) (e : PlainEvent) → same_id id (id_of e) ≡ false → is_listed (id_of e) seen ≡ is_listed (id_of e) (seen ++ id ∷ [])
listed_other id seen e other =
    sym (is_listed_append seen (id ∷ []) (id_of e) ∙ ap (λ b. is_listed (id_of e) seen || (b || false)) (same_id_comm (id_of e) id ∙ other) ∙ or-false (is_listed (id_of e) seen))

-- an id more, that isn't there
pub listed_skip : (es : List PlainEvent) (seen : List AnyId) (id : AnyId) → find_event id es ≡ None →
    map (λ e. is_listed (id_of e) seen) es ≡ map (λ e. is_listed (id_of e) (seen ++ id ∷ [])) es
listed_skip [] seen id h = refl
listed_skip (e ∷ es) seen id h =
    let rest = absent_cons id e es h in
    λ i. listed_other id seen e rest.0 i ∷ listed_skip es seen id rest.1 i

-- one that is
pub listed_more : (es : List PlainEvent) (seen : List AnyId) (id : AnyId) (k : ℕ) → AreDistinct es → place_of id es ≡ Some k →
    set (map (λ e. is_listed (id_of e) seen) es) k true ≡ map (λ e. is_listed (id_of e) (seen ++ id ∷ [])) es
listed_more [] seen id k once h = absurd (none-some k h)
listed_more (e ∷ es) seen id k once h = elim (cases_Bool (same_id id (id_of e))) [
  | inl it ↦
      let first : 0 ≡ k = same_Some 0 k (rw it at h) in
      let own = same_id_true id (id_of e) it in
      let now : is_listed (id_of e) (seen ++ id ∷ []) ≡ true =
      is_listed_append seen (id ∷ []) (id_of e) ∙ ap (λ b. is_listed (id_of e) seen || (b || false)) (same_id_comm (id_of e) id ∙ it) ∙ or-true (is_listed (id_of e) seen) in
      let rest = listed_skip es seen id (ap (λ i. find_event i es) own ∙ once.0) in
      rw (← first) (λ i. sym now i ∷ rest i)
  | inr no_it ↦
      let later = some_suc (place_of id es) k (rw no_it at h) in
      rw (← later.2) (λ i. listed_other id seen e no_it i ∷ listed_more es seen id later.0 once.1 later.1 i)
]

-- ---- what is left, one place after another

module _ (ids : List AnyId) where
  abbrev gone_at : List PlainEvent → ℕ → Bool → Type 0
  gone_at es k b = b ≡ get_or (map (λ e. is_listed (id_of e) ids) es) k b

  pub without_skip : (es : List PlainEvent) (k : ℕ) (b : Bool) → k < length es → gone_at es k b → b ≡ true → without_all ids (take (suc k) es) ≡ without_all ids (take k es)
  without_skip [] k b h at is = absurd (omega arith)
  without_skip (x ∷ es) zero b h at is = rw (sym at ∙ is) refl
  without_skip (x ∷ es) (suc k) b h at is = elim (cases_Bool (is_listed (id_of x) ids)) [
    | inl it ↦ rw it (without_skip es k b (omega arith) at is)
    | inr no_it ↦ rw no_it (ap (λ ys. x ∷ ys) (without_skip es k b (omega arith) at is))
  ]

  pub without_keep : (es : List PlainEvent) (k : ℕ) (b : Bool) (e : PlainEvent) → slice_get es k ≡ Some e → gone_at es k b → b ≡ false →
      without_all ids (take (suc k) es) ≡ without_all ids (take k es) ++ e ∷ []
  without_keep [] k b e h at is = absurd (none-some e h)
  without_keep (x ∷ es) zero b e h at is = rw (sym at ∙ is) (ap (λ y. y ∷ []) (same_Some x e h))
  without_keep (x ∷ es) (suc k) b e h at is = elim (cases_Bool (is_listed (id_of x) ids)) [
    | inl it ↦ rw it (without_keep es k b e h at is)
    | inr no_it ↦ rw no_it (ap (λ ys. x ∷ ys) (without_keep es k b e h at is))
  ]

  -- where no place is marked, nothing goes
  pub without_none : (es : List PlainEvent) (n : ℕ) → ((k : ℕ) → k < n → get_or (map (λ e. is_listed (id_of e) ids) es) k false ≡ false) →
      without_all ids (take n es) ≡ take n es
  without_none [] zero h = refl
  without_none [] (suc n) h = refl
  without_none (x ∷ es) zero h = refl
  without_none (x ∷ es) (suc n) h = rw (h 0 (omega arith)) (ap (λ ys. x ∷ ys) (without_none es n (λ k low. h (suc k) (omega arith))))

-- no place is marked where no id is listed
pub none_listed : (es : List PlainEvent) (n len : ℕ) (old new : List Bool) → n ≡ length es → len ≡ 0 → old ≡ [] → new ≡ take n old ++ replicate (n - len) false →
    new ≡ map (λ e. is_listed (id_of e) []) es
none_listed es n len old new is none_yet none at = at ∙ (λ i. take n (none i) ++ replicate (n - none_yet i) false) ∙ rw is (blank es)
  where
    same : (n : ℕ) → n - 0 ≡ n
    same n = omega arith

    all : (es : List PlainEvent) → replicate (length es) false ≡ map (λ e. is_listed (id_of e) []) es
    all [] = refl
    all (e ∷ es) = ap (λ bs. false ∷ bs) (all es)

    blank : (es : List PlainEvent) → take (length es) [] ++ replicate (length es - 0) false ≡ map (λ e. is_listed (id_of e) []) es
    blank [] = refl
    blank (e ∷ es) = rw (same (suc (length es))) (ap (λ bs. false ∷ bs) (all es))
