-- From the rows of a table to its events.
use Rattle.std.proofs.Common.{◌≡◌, ℕ, zero, suc, ◌<◌, ◌≤◌, ◌⊎◌, inl, inr, List, [], ◌∷◌, ◌++◌, Option, Some, refl, ap, sym, subst, length, take, get_or, arith}
use Rattle.std.proofs.Math.ListN.{set}
use Rattle.std.proofs.lemmas.List.{length-map, map-append}
use Rattle.std.proofs.lemmas.Option.{none-some, same_Some}
use Rattle.std.proofs.lemmas.Slice.Zip.{AllZip-long, all_zipped_more}
use Rattle.std.specs.List.{AllZip, each_same, insert}
use Rattle.std.specs.Prelude.{option_to_list, slice_get}
use Rattle.std.specs.Prelude.{Vec, vec_len}
use Rattle.std.specs.declared.rc.Rc.{Rc}
use Rattle.plain_model.specs.declared.event.PlainEvent.{PlainEvent}
use Rattle.plain_model.specs.Lookups.{id_of}
use Rattle.event_arena.specs.declared.places.Places.{Places}
use Rattle.event_arena.specs.declared.store.Row.{Row}
use Rattle.event_arena.specs.Rows.{AreRows, IsTable, NameAll, Names, events_of, in_rows}

-- ---- the events behind pointers

module _ {A : Type 0} where
  pub rows_length : (rows : List (Rc PlainEvent A)) → length (events_of rows) ≡ length rows
  rows_length rows = length-map rows (λ r. r.value)

  pub rows_push : (rows : List (Rc PlainEvent A)) (r : Rc PlainEvent A) → events_of (rows ++ r ∷ []) ≡ events_of rows ++ r.value ∷ []
  rows_push rows r = map-append (λ (r : Rc PlainEvent A). r.value) rows (r ∷ [])

  -- pointers that are copies
  pub rows_clone : (rows copy : List (Rc PlainEvent A)) → AllZip (λ (r s : Rc PlainEvent A). s.value ≡ r.value) rows copy → events_of copy ≡ events_of rows
  rows_clone [] [] z = refl
  rows_clone [] (s ∷ copy) z = absurd z
  rows_clone (r ∷ rows) [] z = absurd z
  rows_clone (r ∷ rows) (s ∷ copy) z = λ i. z.0 i ∷ rows_clone rows copy z.1 i

  -- pointers, or a copy of them
  pub rows_same : {B : Type 0} (v w : Vec (Rc PlainEvent A) B) → (w ≡ v) ⊎ (AllZip (λ (r s : Rc PlainEvent A). s.value ≡ r.value) v.items w.items × (vec_len w ≡ vec_len v)) →
      events_of w.items ≡ events_of v.items
  rows_same v w (inl same) = ap (λ (u : Vec (Rc PlainEvent A) _). events_of u.items) same
  rows_same v w (inr copy) = rows_clone v.items w.items copy.0

-- ---- rows that are copied

pub row_same : {B : Type 0} (v w : Vec Row B) → (w ≡ v) ⊎ (AllZip (λ (r s : Row). s ≡ r) v.items w.items × (vec_len w ≡ vec_len v)) → w.items ≡ v.items
row_same v w (inl same) = ap (λ (u : Vec Row _). u.items) same
row_same v w (inr copy) = each_same v.items w.items copy.0

-- ---- the numbers of a store

pub get_left : (xs ys : List PlainEvent) (k : ℕ) (e : PlainEvent) → slice_get xs k ≡ Some e → slice_get (xs ++ ys) k ≡ Some e
get_left [] ys k e h = absurd (none-some e h)
get_left (x ∷ xs) ys zero e h = h
get_left (x ∷ xs) ys (suc k) e h = get_left xs ys k e h

-- the number of the last
pub get_last : (xs : List PlainEvent) (k : ℕ) (e : PlainEvent) → k ≡ length xs → slice_get (xs ++ e ∷ []) k ≡ Some e
get_last [] k e is = rw is refl
get_last (x ∷ xs) k e is = rw is (get_last xs (length xs) e refl)

-- ---- what rows name

module _ (stored : List PlainEvent) where
  pub names_are : (rows : List Row) (es : List PlainEvent) → NameAll stored rows es → in_rows stored rows ≡ es
  names_are [] [] z = refl
  names_are [] (e ∷ es) z = absurd z
  names_are (r ∷ rows) [] z = absurd z
  names_are (r ∷ rows) (e ∷ es) z = λ i. option_to_list (z.0.0 i) ++ names_are rows es z.1 i

  pub names_length : (rows : List Row) (es : List PlainEvent) → NameAll stored rows es → length es ≡ length rows
  names_length rows es z = AllZip-long (Names stored) rows es z

  -- the event at the place of a row
  pub names_get : (rows : List Row) (es : List PlainEvent) (k : ℕ) (r : Row) → NameAll stored rows es → k < length es → r ≡ get_or rows k r →
      (e : PlainEvent) × (slice_get es k ≡ Some e) × Names stored r e
  names_get [] [] k r z h g = absurd (omega arith)
  names_get [] (e ∷ es) k r z h g = absurd z
  names_get (x ∷ rows) [] k r z h g = absurd z
  names_get (x ∷ rows) (e ∷ es) zero r z h g = (e, refl, subst (λ (y : Row). Names stored y e) (sym g) z.0)
  names_get (x ∷ rows) (e ∷ es) (suc k) r z h g = names_get rows es k r z.1 (omega arith) g

  pub names_at : (rows : List Row) (es : List PlainEvent) (k : ℕ) (r : Row) (e : PlainEvent) → NameAll stored rows es → slice_get es k ≡ Some e → r ≡ get_or rows k r →
      Names stored r e
  names_at [] [] k r e z h g = absurd (none-some e h)
  names_at [] (x ∷ es) k r e z h g = absurd z
  names_at (x ∷ rows) [] k r e z h g = absurd z
  names_at (x ∷ rows) (y ∷ es) zero r e z h g = subst (λ (w : Row). Names stored w e) (sym g) (subst (λ w. Names stored x w) (same_Some y e h) z.0)
  names_at (x ∷ rows) (y ∷ es) (suc k) r e z h g = names_at rows es k r e z.1 h g

  pub names_set : (rows : List Row) (es : List PlainEvent) (k : ℕ) (r : Row) (e : PlainEvent) → NameAll stored rows es → Names stored r e → NameAll stored (set rows k r) (set es k e)
  names_set [] [] k r e z n = tt
  names_set [] (x ∷ es) k r e z n = absurd z
  names_set (x ∷ rows) [] k r e z n = absurd z
  names_set (x ∷ rows) (y ∷ es) zero r e z n = (n, z.1)
  names_set (x ∷ rows) (y ∷ es) (suc k) r e z n = (z.0, names_set rows es k r e z.1 n)

  pub names_insert : (rows : List Row) (es : List PlainEvent) (k : ℕ) (r : Row) (e : PlainEvent) → NameAll stored rows es → Names stored r e → k ≤ length es →
      NameAll stored (insert rows k r) (insert es k e)
  names_insert [] [] zero r e z n h = (n, tt)
  names_insert [] [] (suc k) r e z n h = absurd (omega arith)
  names_insert [] (x ∷ es) k r e z n h = absurd z
  names_insert (x ∷ rows) [] k r e z n h = absurd z
  names_insert (x ∷ rows) (y ∷ es) zero r e z n h = (n, z)
  names_insert (x ∷ rows) (y ∷ es) (suc k) r e z n h = (z.0, names_insert rows es k r e z.1 n (omega arith))

  pub names_front : (rows : List Row) (es : List PlainEvent) (n : ℕ) → NameAll stored rows es → NameAll stored (take n rows) (take n es)
  names_front [] [] zero z = tt
  names_front [] [] (suc n) z = tt
  names_front [] (e ∷ es) n z = absurd z
  names_front (r ∷ rows) [] n z = absurd z
  names_front (r ∷ rows) (e ∷ es) zero z = tt
  names_front (r ∷ rows) (e ∷ es) (suc n) z = (z.0, names_front rows es n z.1)

  -- events that are added to the store change nothing
  pub names_more : (more : List PlainEvent) (rows : List Row) (es : List PlainEvent) → NameAll stored rows es → NameAll (stored ++ more) rows es
  names_more more [] [] z = tt
  names_more more [] (e ∷ es) z = absurd z
  names_more more (r ∷ rows) [] z = absurd z
  names_more more (r ∷ rows) (e ∷ es) z = ((get_left stored more r.at e z.0.0, z.0.1), names_more more rows es z.1)

  pub rows_more : (more : List PlainEvent) (rows : List Row) (weight : Option ℕ) (es : List PlainEvent) → AreRows stored rows weight es → AreRows (stored ++ more) rows weight es
  rows_more more rows weight es v = record { named = names_more more rows es v.named; once = v.once; bound = v.bound }

  -- a row of an event that is added to the store
  pub names_new : (x e : PlainEvent) (r : Row) → x ≡ e → r.at ≡ length stored → r.id ≡ id_of x → Names (stored ++ x ∷ []) r e
  names_new x e r is number id = subst (λ y. Names (stored ++ x ∷ []) r y) is (get_last stored r.at x number, sym id)

  pub names_push : (rows : List Row) (es : List PlainEvent) (x e : PlainEvent) (r : Row) → x ≡ e → r.at ≡ length stored → r.id ≡ id_of x → NameAll stored rows es →
      NameAll (stored ++ x ∷ []) (rows ++ r ∷ []) (es ++ e ∷ [])
  names_push rows es x e r is number id z =
      all_zipped_more (Names (stored ++ x ∷ [])) rows es r e (names_more (x ∷ []) rows es z) (names_new x e r is number id)

  -- facts of the events are facts of those that the rows name
  pub rows_of : (rows : List Row) (weight : Option ℕ) (es : List PlainEvent) → AreRows stored rows weight es → AreRows stored rows weight (in_rows stored rows)
  rows_of rows weight es v = subst (AreRows stored rows weight) (sym (names_are rows es v.named)) v

  pub table_of : (rows : List Row) (places : Places) (weight : Option ℕ) (es : List PlainEvent) → IsTable stored rows places weight es →
      IsTable stored rows places weight (in_rows stored rows)
  table_of rows places weight es v = subst (IsTable stored rows places weight) (sym (names_are rows es v.listed.named)) v

  -- the rows of a table, as a look at them finds them
  pub rows_seen : {B : Type 0} (v w : Vec Row B) (places : Places) (weight : Option ℕ) (es : List PlainEvent) → w ≡ v →
      IsTable stored v.items places weight (in_rows stored v.items) → in_rows stored v.items ≡ es → NameAll stored w.items es
  rows_seen v w places weight es same table view =
      subst (λ (u : Vec Row _). NameAll stored u.items es) (sym same) (subst (NameAll stored v.items) view table.listed.named)

  -- and a copy of them
  pub rows_copied : {B : Type 0} (v w copy : Vec Row B) (places : Places) (weight : Option ℕ) (es : List PlainEvent) → w ≡ v →
      IsTable stored v.items places weight (in_rows stored v.items) → in_rows stored v.items ≡ es → AllZip (λ (r s : Row). s ≡ r) w.items copy.items → NameAll stored copy.items es
  rows_copied v w copy places weight es same table view zip =
      subst (λ rows. NameAll stored rows es) (sym (each_same w.items copy.items zip)) (rows_seen v w places weight es same table view)
