-- Names with their lists, as the entries of a map.
use Rattle.std.proofs.Common.{Vec, ◌≡◌, ◌∙◌, ℕ, zero, suc, ◌≤◌, Bool, true, false, inl, inr, List, [], ◌∷◌, ◌++◌, Option, Some, None, refl, ap, subst, sym, take, nat_eq, arith, true≢false}
use Rattle.std.specs.List.{AllByRecursion, IsDistinct}
use Rattle.std.specs.Prelude.{bytes_eq, option_map, slice_get, map, length, is_some}
use Rattle.std.specs.Cmp.Lexicographic.{pointwise}
use Rattle.std.specs.Map.{keys_of, lookup, values_of}
use Rattle.std.proofs.lemmas.Bool.{cases_Bool, false_from_ne_true}
use Rattle.std.proofs.lemmas.Slice.Eq.{bytes_eq-Decides}
use Rattle.indexmap.specs.IndexMap.{insert_entry, set_value_at}
use Rattle.plain_model.specs.Lookups.{id_of, place_of, same_id}
use Rattle.plain_model.specs.Paths.{Bytes}
use Rattle.plain_model.specs.declared.id.AnyId.{AnyId}
use Rattle.plain_model.specs.declared.event.PlainEvent.{PlainEvent}
use Rattle.event_sets.specs.Sets.{is_live, live}
use Rattle.selection_eval.specs.Names.{Names, assigned, live_names, names_of}

-- an event has a place exactly where it is one of the history
pub placed : (id : AnyId) (events : List PlainEvent) → is_some (place_of id events) ≡ is_live events id
placed id [] = refl
placed id (e ∷ events) =
    elim (cases_Bool (same_id id (id_of e))) [
      | inl is ↦ rw is refl
      | inr isnt ↦ rw isnt (later (place_of id events) (placed id events))
    ]
  where
    later : (o : Option ℕ) → is_some o ≡ is_live events id → is_some (option_map suc o) ≡ is_live events id
    later None h = h
    later (Some n) h = h

-- the first so many lists without the ids that are no events
abbrev pub live_first : List PlainEvent → ℕ → Names → Names
live_first events zero names = names
live_first events (suc n) [] = []
live_first events (suc n) (e ∷ names) = (e.0, live events e.1) ∷ live_first events n names

module _ {A : Type 0} where
  pub found : (name : Bytes) (es : List (Vec ℕ A × Vec AnyId A))
      → option_map (λ (l : Vec AnyId A). l.items) (lookup (λ (k : Vec ℕ A). pointwise nat_eq name k.items) es)
      ≡ assigned name (names_of es)
  found name [] = refl
  found name (e ∷ es) =
      elim (cases_Bool (pointwise nat_eq name e.0.items)) [
        | inl is ↦ rw is refl
        | inr isnt ↦ rw isnt (found name es)
      ]

  -- a new name goes last
  pub added : (name : Vec ℕ A) (ids : Vec AnyId A) (es : List (Vec ℕ A × Vec AnyId A))
      → assigned name.items (names_of es) ≡ None
      → names_of (insert_entry (λ (a b : Vec ℕ A). pointwise nat_eq a.items b.items) es name ids)
      ≡ names_of es ++ (name.items, ids.items) ∷ []
  added name ids [] h = refl
  added name ids (e ∷ es) h =
      elim (cases_Bool (pointwise nat_eq name.items e.0.items)) [
        | inl is ↦ absurd (let k = rw is at h in cc)
        | inr isnt ↦ let k = rw isnt at h in rw isnt (ap (λ (l : Names). (e.0.items, e.1.items) ∷ l) (added name ids es k))
      ]

  -- one list more
  pub written : (events : List PlainEvent) (es : List (Vec ℕ A × Vec AnyId A)) (old : Names) (i : ℕ) (v w : Vec AnyId A)
      → names_of es ≡ live_first events i old → slice_get (values_of es) i ≡ Some v → w.items ≡ live events v.items
      → names_of (set_value_at es i w) ≡ live_first events (suc i) old
  written events [] old zero v w h k l = absurd cc
  written events [] old (suc i) v w h k l = absurd cc
  written events (e ∷ es) old zero v w h k l =
      let here : e.1 ≡ v = cc in
      let now : w.items ≡ live events e.1.items = rw here l in
      subst (λ (o : Names). names_of (set_value_at (e ∷ es) 0 w) ≡ live_first events 1 o) h
      (ap (λ (x : List AnyId). (e.0.items, x) ∷ names_of es) now)
  written events (e ∷ es) [] (suc i) v w h k l = absurd cc
  written events (e ∷ es) (n ∷ old) (suc i) v w h k l =
      let first : ◌≡◌ {A = Bytes × List AnyId} (e.0.items, e.1.items) (n.0, live events n.1) = cc in
      let others : names_of es ≡ live_first events i old = cc in
      rw first (ap (λ (x : Names). (n.0, live events n.1) ∷ x) (written events es old i v w others k l))

-- all of them
pub all_live : (events : List PlainEvent) (names : Names) (n : ℕ) → length names ≤ n
    → live_first events n names ≡ live_names events names
all_live events [] zero h = refl
all_live events [] (suc n) h = refl
all_live events (e ∷ names) zero h = absurd (omega arith)
all_live events (e ∷ names) (suc n) h =
    ap (λ (l : Names). (e.0, live events e.1) ∷ l) (all_live events names n (omega arith))

-- ---- copies

turned : (a b : Bytes) → bytes_eq a b ≡ false → bytes_eq b a ≡ false
turned a b differ = false_from_ne_true (bytes_eq b a) (λ same. true≢false (sym ((bytes_eq-Decides a b).1 (sym ((bytes_eq-Decides b a).0 same))) ∙ differ))

module _ {A : Type 0} where
  abbrev eq : Vec ℕ A → Vec ℕ A → Bool
  eq a b = pointwise nat_eq a.items b.items

  -- no list before that one has its name
  pub absent_before : (es : List (Vec ℕ A × Vec AnyId A)) (p : ℕ) (e : Vec ℕ A × Vec AnyId A) → slice_get es p ≡ Some e → IsDistinct eq (keys_of es)
      → assigned e.0.items (names_of (take p es)) ≡ None
  unfolding IsDistinct
  absent_before [] p e at once = absurd cc
  absent_before (x ∷ es) zero e at once = refl
  absent_before (x ∷ es) (suc p) e at once =
      let other : bytes_eq e.0.items x.0.items ≡ false = turned x.0.items e.0.items (apart es p at once.0) in
      rw other (absent_before es p e at once.1)
    where
      apart : (es : List (Vec ℕ A × Vec AnyId A)) (p : ℕ) → slice_get es p ≡ Some e → AllByRecursion (λ y. eq x.0 y ≡ false) (keys_of es) → eq x.0 e.0 ≡ false
      apart [] p at a = absurd cc
      apart (y ∷ es) zero at a = let same : y ≡ e = cc in subst (λ (z : Vec ℕ A × Vec AnyId A). eq x.0 z.0 ≡ false) same a.0
      apart (y ∷ es) (suc p) at a = apart es p at a.1

  -- one more is copied
  pub copied_more : (es : List (Vec ℕ A × Vec AnyId A)) (p : ℕ) (e : Vec ℕ A × Vec AnyId A) → slice_get es p ≡ Some e → names_of (take (suc p) es) ≡ names_of (take p es) ++ (e.0.items, e.1.items) ∷ []
  copied_more [] p e at = absurd cc
  copied_more (x ∷ es) zero e at = let same : x ≡ e = cc in ap (λ (z : Vec ℕ A × Vec AnyId A). (z.0.items, z.1.items) ∷ []) same
  copied_more (x ∷ es) (suc p) e at = ap (λ (l : Names). (x.0.items, x.1.items) ∷ l) (copied_more es p e at)

  pub all_copied : (es : List (Vec ℕ A × Vec AnyId A)) (n : ℕ) → length es ≤ n → names_of (take n es) ≡ names_of es
  all_copied [] zero h = refl
  all_copied [] (suc n) h = refl
  all_copied (x ∷ es) zero h = absurd (omega arith)
  all_copied (x ∷ es) (suc n) h = ap (λ (l : Names). (x.0.items, x.1.items) ∷ l) (all_copied es n (omega arith))
