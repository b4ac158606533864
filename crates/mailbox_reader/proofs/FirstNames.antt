-- Places of the first tags of names, event by event.
use Rattle.std.proofs.Common.{◌≡◌, ℕ, zero, suc, ◌+◌, ◌<◌, Bool, true, false, cond, inl, inr, Option, Some, None, List, [], ◌∷◌, ◌++◌, length, take, refl, sym, ap, ◌∙◌, arith, add-one, nat_eq, Vec}
use Rattle.std.proofs.lemmas.Bool.{cases_Bool}
use Rattle.std.proofs.lemmas.Option.{none-some}
use Rattle.std.specs.Cmp.{eq_by_cmp_equiv}
use Rattle.std.specs.Cmp.Lexicographic.{pointwise, texts_ties, nat_list_cmp_total}
use Rattle.std.specs.Map.{lookup}
use Rattle.std.specs.Prelude.{MatchOption, bytes_eq, slice_get}
use Rattle.indexmap.specs.IndexMap.{insert_entry}
use Rattle.plain_model.specs.declared.event.PlainEvent.{PlainEvent}
use Rattle.plain_model.specs.declared.event.PlainEvent.TheVariants.{Blob, Commit, Tag, Reset, Pass}
use Rattle.plain_model.specs.Paths.{Bytes}
use Rattle.event_arena.proofs.ListLemmas.{take_item}
use Rattle.history_laws.proofs.TreeLaws.{same_path}
use Rattle.mailbox_laws.specs.Headers.{or_else}
use Rattle.mailbox_laws.specs.Landing.{tag_meant}
use Rattle.mailbox_reader.specs.FirstTags.{AreFirstIn, Places, place_in, places_in, tag_named, with_first, with_name, with_new}
use Rattle.mailbox_reader.proofs.HeadLines.{or_none}

-- ---- names with places, as the entries of a map

module _ {A : Type 0} where
  pub found : (name : Bytes) (es : List (Vec ℕ A × ℕ)) → lookup (λ (k : Vec ℕ A). pointwise nat_eq name k.items) es ≡ place_in name (places_in es)
  found name [] = refl
  found name (e ∷ es) = elim (cases_Bool (pointwise nat_eq name e.0.items)) [
    | inl is ↦ rw is refl
    | inr isnt ↦ rw isnt (found name es)
  ]

  -- a new name goes last
  pub added : (name : Vec ℕ A) (place : ℕ) (es : List (Vec ℕ A × ℕ)) → place_in name.items (places_in es) ≡ None
      → places_in (insert_entry (λ (a b : Vec ℕ A). pointwise nat_eq a.items b.items) es name place) ≡ places_in es ++ (name.items, place) ∷ []
  added name place [] h = refl
  added name place (e ∷ es) h = elim (cases_Bool (pointwise nat_eq name.items e.0.items)) [
    | inl is ↦ absurd (let k = rw is at h in cc)
    | inr isnt ↦ let k = rw isnt at h in rw isnt (ap (λ (l : Places). (e.0.items, e.1) ∷ l) (added name place es k))
  ]

turned : (p q : Bytes) → bytes_eq q p ≡ bytes_eq p q
turned p q = texts_ties q p ∙ (eq_by_cmp_equiv nat_list_cmp_total).symm q p ∙ sym (texts_ties p q)

equal : (p q : Bytes) → bytes_eq p q ≡ true → q ≡ p
equal p q is = same_path q p ((eq_by_cmp_equiv nat_list_cmp_total).symm q p ∙ sym (texts_ties p q) ∙ is)

-- with a name at the end
place_after : (n own : Bytes) (k : ℕ) (t : Places) → place_in n (t ++ (own, k) ∷ []) ≡ or_else (place_in n t) (cond (bytes_eq own n) (Some k) None)
place_after n own k [] = ap (λ b. cond b (Some k) None) (turned own n)
place_after n own k (e ∷ t) = elim (cases_Bool (bytes_eq n e.0)) [
  | inl is ↦ rw is refl
  | inr isnt ↦ rw isnt (place_after n own k t)
]

-- ---- tags of a name

-- one event after others
meant_after : (part : List PlainEvent) (x : PlainEvent) (n : Bytes) → tag_meant (part ++ x ∷ []) n ≡ or_else (tag_meant part n) (tag_meant (x ∷ []) n)
meant_after [] x n = refl
meant_after (Blob id mark bytes ∷ part) x n = meant_after part x n
meant_after (Commit id mark branch author committer encoding comment parents ops aliases ∷ part) x n = meant_after part x n
meant_after (Reset id branch target ∷ part) x n = meant_after part x n
meant_after (Pass id line ∷ part) x n = meant_after part x n
meant_after (Tag id own target tagger comment mark ∷ part) x n = go (bytes_eq own n) (meant_after part x n)
  where
    go : (t : Bool) → tag_meant (part ++ x ∷ []) n ≡ or_else (tag_meant part n) (tag_meant (x ∷ []) n)
        → cond t (Some (Tag id own target tagger comment mark)) (tag_meant (part ++ x ∷ []) n)
        ≡ or_else (cond t (Some (Tag id own target tagger comment mark)) (tag_meant part n)) (tag_meant (x ∷ []) n)
    go true rest = refl
    go false rest = rest

-- an event alone
alone : (x : PlainEvent) (own n : Bytes) → tag_named x ≡ Some own → tag_meant (x ∷ []) n ≡ cond (bytes_eq own n) (Some x) None
alone (Blob id mark bytes) own n is = absurd (none-some {A = Bytes} own is)
alone (Commit id mark branch author committer encoding comment parents ops aliases) own n is = absurd (none-some {A = Bytes} own is)
alone (Reset id branch target) own n is = absurd (none-some {A = Bytes} own is)
alone (Pass id line) own n is = absurd (none-some {A = Bytes} own is)
alone (Tag id name target tagger comment mark) own n is =
    let same : name ≡ own = cc in
    ap (λ k. cond (bytes_eq k n) (Some (Tag id name target tagger comment mark)) None) same

no_name : (x : PlainEvent) (n : Bytes) → tag_named x ≡ None → tag_meant (x ∷ []) n ≡ None
no_name (Blob id mark bytes) n is = refl
no_name (Commit id mark branch author committer encoding comment parents ops aliases) n is = refl
no_name (Reset id branch target) n is = refl
no_name (Pass id line) n is = refl
no_name (Tag id name target tagger comment mark) n is = absurd (none-some {A = Bytes} name (sym is))

some_there : (xs : List PlainEvent) (k : ℕ) → k < length xs → slice_get xs k ≡ None → ⊥
some_there [] k low is = omega arith
some_there (x ∷ xs) zero low is = none-some {A = PlainEvent} x (sym is)
some_there (x ∷ xs) (suc k) low is = some_there xs k (omega arith) is

same_first : (whole : List PlainEvent) (o p : Option ℕ) (d e : Option PlainEvent) → o ≡ p → d ≡ e
    → MatchOption p (e ≡ None) (λ k. (k < length whole) × (slice_get whole k ≡ e))
    → MatchOption o (d ≡ None) (λ k. (k < length whole) × (slice_get whole k ≡ d))
same_first whole o p d e is is2 h = rw (is, is2) h

-- a name that isn't there yet
name_put : (whole part : List PlainEvent) (x : PlainEvent) (k : ℕ) (own : Bytes) (t : Places) → slice_get whole k ≡ Some x → k < length whole
    → tag_named x ≡ Some own → place_in own t ≡ None → AreFirstIn whole part t → AreFirstIn whole (part ++ x ∷ []) (t ++ (own, k) ∷ [])
name_put whole part x k own t is within named new first n = go (bytes_eq own n) refl
  where
    absent : (o : Option ℕ) → o ≡ None → MatchOption o (tag_meant part own ≡ None) (λ j. (j < length whole) × (slice_get whole j ≡ tag_meant part own))
        → tag_meant part own ≡ None
    absent None gone h = h
    absent (Some j) gone h = absurd (none-some {A = ℕ} j (sym gone))

    now : tag_meant (part ++ x ∷ []) n ≡ or_else (tag_meant part n) (cond (bytes_eq own n) (Some x) None)
    now = meant_after part x n ∙ ap (or_else (tag_meant part n)) (alone x own n named)

    go : (b : Bool) → bytes_eq own n ≡ b → MatchOption (place_in n (t ++ (own, k) ∷ [])) (tag_meant (part ++ x ∷ []) n ≡ None)
        (λ j. (j < length whole) × (slice_get whole j ≡ tag_meant (part ++ x ∷ []) n))
    go true same =
        let no_place = ap (λ q. place_in q t) (equal own n same) ∙ new in
        let none = ap (tag_meant part) (equal own n same) ∙ absent (place_in own t) new (first own) in
        same_first whole (place_in n (t ++ (own, k) ∷ [])) (Some k) (tag_meant (part ++ x ∷ []) n) (Some x)
        (place_after n own k t ∙ ap (λ b. or_else (place_in n t) (cond b (Some k) None)) same ∙ ap (λ o. or_else o (Some k)) no_place)
        (now ∙ ap (λ b. or_else (tag_meant part n) (cond b (Some x) None)) same ∙ ap (λ e. or_else e (Some x)) none)
        (within, is)
    go false other =
        same_first whole (place_in n (t ++ (own, k) ∷ [])) (place_in n t) (tag_meant (part ++ x ∷ []) n) (tag_meant part n)
        (place_after n own k t ∙ ap (λ b. or_else (place_in n t) (cond b (Some k) None)) other ∙ or_none (place_in n t))
        (now ∙ ap (λ b. or_else (tag_meant part n) (cond b (Some x) None)) other ∙ or_none (tag_meant part n))
        (first n)

-- one that is
name_known : (whole part : List PlainEvent) (x : PlainEvent) (own : Bytes) (old : ℕ) (t : Places)
    → tag_named x ≡ Some own → place_in own t ≡ Some old → AreFirstIn whole part t → AreFirstIn whole (part ++ x ∷ []) t
name_known whole part x own old t named known first n = go (bytes_eq own n) refl
  where
    now : tag_meant (part ++ x ∷ []) n ≡ or_else (tag_meant part n) (cond (bytes_eq own n) (Some x) None)
    now = meant_after part x n ∙ ap (or_else (tag_meant part n)) (alone x own n named)

    taken : (o : Option ℕ) → o ≡ Some old → (e : Option PlainEvent) → MatchOption o (e ≡ None) (λ j. (j < length whole) × (slice_get whole j ≡ e))
        → or_else e (Some x) ≡ e
    taken None some e h = absurd (none-some {A = ℕ} old some)
    taken (Some j) some None h = absurd (some_there whole j h.0 h.1)
    taken (Some j) some (Some y) h = refl

    go : (b : Bool) → bytes_eq own n ≡ b → MatchOption (place_in n t) (tag_meant (part ++ x ∷ []) n ≡ None)
        (λ j. (j < length whole) × (slice_get whole j ≡ tag_meant (part ++ x ∷ []) n))
    go true same =
        let there : place_in n t ≡ Some old = ap (λ q. place_in q t) (equal own n same) ∙ known in
        same_first whole (place_in n t) (place_in n t) (tag_meant (part ++ x ∷ []) n) (tag_meant part n) refl
        (now ∙ ap (λ b. or_else (tag_meant part n) (cond b (Some x) None)) same ∙ taken (place_in n t) there (tag_meant part n) (first n))
        (first n)
    go false other =
        same_first whole (place_in n t) (place_in n t) (tag_meant (part ++ x ∷ []) n) (tag_meant part n) refl
        (now ∙ ap (λ b. or_else (tag_meant part n) (cond b (Some x) None)) other ∙ or_none (tag_meant part n))
        (first n)

-- no tag
no_tag : (whole part : List PlainEvent) (x : PlainEvent) (t : Places) → tag_named x ≡ None → AreFirstIn whole part t → AreFirstIn whole (part ++ x ∷ []) t
no_tag whole part x t none first n =
    same_first whole (place_in n t) (place_in n t) (tag_meant (part ++ x ∷ []) n) (tag_meant part n) refl
    (meant_after part x n ∙ ap (or_else (tag_meant part n)) (no_name x n none) ∙ or_none (tag_meant part n))
    (first n)

-- the events so far, and one
pub one_more : (whole : List PlainEvent) (k : ℕ) (x : PlainEvent) (t u : Places) → slice_get whole k ≡ Some x → k < length whole → u ≡ with_first x k t
    → AreFirstIn whole (take k whole) t → AreFirstIn whole (take (k + 1) whole) u
one_more whole k x t u is within noted first = rw (noted, add-one, take_item whole k x is) (named (tag_named x) refl)
  where
    part : List PlainEvent
    part = take k whole

    known : (own : Bytes) → tag_named x ≡ Some own → (o : Option ℕ) → place_in own t ≡ o → AreFirstIn whole (part ++ x ∷ []) (with_new o own k t)
    known own named None there = name_put whole part x k own t is within named there first
    known own named (Some old) there = name_known whole part x own old t named there first

    named : (o : Option Bytes) → tag_named x ≡ o → AreFirstIn whole (part ++ x ∷ []) (with_name o k t)
    named None none = no_tag whole part x t none first
    named (Some own) some = known own some (place_in own t) refl
