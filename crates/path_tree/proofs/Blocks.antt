-- The rows of a folder in blocks.
use Rattle.std.proofs.Common.{length-drop, length-take, ◌==◌, ◌≡◌, ℕ, zero, suc, ◌<◌, ◌≤◌, ◌+◌, Bool, true, false, List, [], ◌∷◌, ◌++◌, length, take, drop, refl, sym, ap, subst, ◌∙◌, arith, Option, Some, None, append_assoc, append-nil, true≢false, Vec, Global}
use Rattle.std.proofs.lemmas.Bool.Decides.{nat_tests}
use Rattle.std.specs.Prelude.{Result, Ok, Err, IfOk, OnOk, OnErr, not, slice_index_or, slice_set}
use Rattle.std.specs.Option.{option_or}
use Rattle.std.specs.Ordering.{is_lt, is_eq, ordering_reverse}
use Rattle.std.specs.declared.rc.Rc.{Rc}
use Rattle.std.specs.declared.cmp.Ordering.{Ordering}
use Rattle.std.specs.declared.cmp.Ordering.TheVariants.{Less, Equal, Greater}
use Rattle.std.specs.Cmp.Lexicographic.{nat_list_cmp_total}
use Rattle.std.specs.List.Sorted.{IsPartitionedBy, IsPartitionPoint}
use Rattle.plain_model.specs.Paths.{Bytes}
use Rattle.plain_model.specs.Trees.{TreeOf, at}
use Rattle.history_laws.proofs.TreeLaws.{by_bytes, same_path}
use Rattle.path_tree.specs.declared.folder.Child.{Child}
use Rattle.path_tree.specs.declared.folder.Children.{Children}
use Rattle.path_tree.specs.declared.folder.extent.Change.{Change}
use Rattle.path_tree.specs.Folders.{Member, AreSound, flat, tree_under}
use Rattle.path_tree.specs.Inside.{rows_of, rows_in, all_rows, blocks_of, AreFilled}
use Rattle.path_tree.specs.PathMaps.{IsInOrder}
use Rattle.path_tree.specs.Rows.{begins_by, row_if, AllBefore, AllAfter, IsBlock, IsBlockAt, IsAround, IsExchange, IsSetUnder}
use Rattle.path_tree.specs.Setting.{Places}
use Rattle.path_tree.specs.Falls.{append_fit}
use Rattle.path_tree.proofs.Orders.{both, first, second, less, none_before}
use Rattle.path_tree.proofs.Keys.{at_append, lt_of}
use Rattle.path_tree.proofs.Measures.{flat_append}
use Rattle.path_tree.proofs.Searching.{place_rows}
use Rattle.path_tree.proofs.Splices.{around, none_after, or_none}

abbrev pub Block : Type 0
Block = Rc (Vec Child Global) Global

abbrev pub rows_at : Block → TreeOf Member
rows_at b = rows_of b.value.items

-- what comes before a key comes before one that isn't less
before_up : (p k key : Bytes) → by_bytes p k ≡ Less → is_lt (by_bytes key k) ≡ false → by_bytes p key ≡ Less
before_up p k key h n = by (by_bytes key k) refl n
  where
    by : (o : Ordering) → by_bytes key k ≡ o → is_lt o ≡ false → by_bytes p key ≡ Less
    by Less e n = absurd (true≢false n)
    by Equal e n = subst (λ (x : Bytes). by_bytes p x ≡ Less) (sym (same_path key k (ap is_eq e))) h
    by Greater e n = nat_list_cmp_total.trans p k key h (nat_list_cmp_total.antisymm k key ∙ ap ordering_reverse e)

-- ---- rows on both sides

module _ {X : Type 0} where
  pub before_append : (k : Bytes) (a b : TreeOf X) → AllBefore k a → AllBefore k b → AllBefore k (a ++ b)
  before_append k [] b p q = q
  before_append k (r ∷ a) b p q = (p.0, before_append k a b p.1 q)

  pub after_append : (k : Bytes) (a b : TreeOf X) → AllAfter k a → AllAfter k b → AllAfter k (a ++ b)
  after_append k [] b p q = q
  after_append k (r ∷ a) b p q = both _ _ (first _ _ p) (after_append k a b (second _ _ p) q)

  pub after_second : (k : Bytes) (a b : TreeOf X) → AllAfter k (a ++ b) → AllAfter k b
  after_second k [] b p = p
  after_second k (r ∷ a) b p = after_second k a b (second _ _ p)

  after_first : (k : Bytes) (a b : TreeOf X) → AllAfter k (a ++ b) → AllAfter k a
  after_first k [] b p = tt
  after_first k (r ∷ a) b p = both _ _ (first _ _ p) (after_first k a b (second _ _ p))

  pub order_second : (a b : TreeOf X) → IsInOrder (a ++ b) → IsInOrder b
  order_second [] b h = h
  order_second (r ∷ a) b h = order_second a b (second _ _ h)

  pub order_first : (a b : TreeOf X) → IsInOrder (a ++ b) → IsInOrder a
  order_first [] b h = tt
  order_first (r ∷ a) b h = both _ _ (after_first r.0 a b (first _ _ h)) (order_first a b (second _ _ h))

  pub at_within : (k : Bytes) (p b s : TreeOf X) → AllBefore k p → AllAfter k s → at (p ++ (b ++ s)) k ≡ at b k
  at_within k p b s before after =
      at_append p (b ++ s) k
      ∙ ap (λ o. option_or o (at (b ++ s) k)) (none_after k p before)
      ∙ at_append b s k
      ∙ ap (option_or (at b k)) (none_before k s after)
      ∙ or_none (at b k)

  -- ---- a key between others

  pub all_before_up : (k key : Bytes) (a : TreeOf X) → AllBefore k a → is_lt (by_bytes key k) ≡ false → AllBefore key a
  all_before_up k key [] h n = tt
  all_before_up k key (r ∷ a) h n = (before_up r.0 k key h.0 n, all_before_up k key a h.1 n)

  -- and what comes after a key comes after a lesser one
  pub all_after_down : (key k : Bytes) (b : TreeOf X) → by_bytes key k ≡ Less → AllAfter k b → AllAfter key b
  all_after_down key k [] l h = tt
  all_after_down key k (r ∷ b) l h =
      both _ _ (lt_of _ (nat_list_cmp_total.trans key k r.0 l (less (by_bytes k r.0) (first _ _ h)))) (all_after_down key k b l (second _ _ h))

pub sound_within : (p b s : TreeOf Member) → AreSound (p ++ (b ++ s)) → AreSound b
sound_within p b s h = record {
  in_order = order_first b s (order_second p (b ++ s) h.in_order);
  all_fit = (append_fit b s (append_fit p (b ++ s) h.all_fit).1).0;
}

-- ---- a change of one block

pub within : (p b s x y z : TreeOf Member) → b ≡ x ++ (y ++ z) → p ++ (b ++ s) ≡ (p ++ x) ++ (y ++ (z ++ s))
within p b s x y z h =
    ap (λ (l : TreeOf Member). p ++ (l ++ s)) h
    ∙ ap (λ (l : TreeOf Member). p ++ l) (append_assoc x (y ++ z) s ∙ ap (λ (l : TreeOf Member). x ++ l) (append_assoc y z s))
    ∙ sym (append_assoc p x (y ++ (z ++ s)))

pub exchange_within : (key : Bytes) (new : Option Member) (change : Change) (p b c s : TreeOf Member) → AllBefore key p → AllAfter key s
    → IsExchange key new change b c → IsExchange key new change (p ++ (b ++ s)) (p ++ (c ++ s))
exchange_within key new change p b c s before after x = record {
  old = x.old;
  before = p ++ x.before;
  after = x.after ++ s;
  all_before = before_append key p x.before before x.all_before;
  all_after = after_append key x.after s x.all_after after;
  old_is = within p b s x.before (row_if key x.old) x.after x.old_is;
  new_is = within p c s x.before (row_if key new) x.after x.new_is;
  gone_is = x.gone_is;
  come_is = x.come_is;
}

pub set_within : (key path : Bytes) (m : Option Member) (clear : Bool) (change : Option Change) (p b c s : TreeOf Member) → AllBefore key p → AllAfter key s
    → IsSetUnder key path m clear change b c → IsSetUnder key path m clear change (p ++ (b ++ s)) (p ++ (c ++ s))
set_within key path m clear None p b c s before after x =
    (at_within key p b s before after ∙ x.0, ap (λ (l : TreeOf Member). p ++ (l ++ s)) x.1)
set_within key path m clear (Some change) p b c s before after x = record {
  tree = x.tree;
  in_order = x.in_order;
  places =
      subst (λ (o : Option Member). Places path m clear (tree_under o) x.tree) (sym (at_within key p b s before after)) x.places;
  exchange = exchange_within key _ change p b c s before after x.exchange;
}

-- a row that was put is there
pub put_filled : (key : Bytes) (m : Member) (change : Change) (b c : TreeOf Member) → IsExchange key (Some m) change b c → 0 < length c
put_filled key m change b c x = by x.before c x.new_is
  where
    by : (a c : TreeOf Member) → c ≡ a ++ (row_if key (Some m) ++ x.after) → 0 < length c
    by [] c h = omega (arith, ap (λ (l : TreeOf Member). length l) h)
    by (r ∷ a) c h = omega (arith, ap (λ (l : TreeOf Member). length l) h)

-- ---- the block at an index

pub block_at : (bs : List Block) (i : ℕ) (d : Block) → i < length bs
    → rows_in bs ≡ rows_in (take i bs) ++ (rows_at (slice_index_or bs i d) ++ rows_in (drop (i + 1) bs))
block_at [] i d h = absurd (omega (arith, h))
block_at (b ∷ bs) zero d h = refl
block_at (b ∷ bs) (suc i) d h =
    let next : suc i + 1 ≡ suc (i + 1) = omega arith in
    rw next
    (ap (λ (l : TreeOf Member). rows_at b ++ l) (block_at bs i d (omega (arith, h)))
    ∙ sym (append_assoc (rows_at b) (rows_in (take i bs)) (rows_at (slice_index_or bs i d) ++ rows_in (drop (i + 1) bs))))

pub block_set : (bs : List Block) (i : ℕ) (c : Block) → i < length bs
    → rows_in (slice_set bs i c) ≡ rows_in (take i bs) ++ (rows_at c ++ rows_in (drop (i + 1) bs))
block_set [] i c h = absurd (omega (arith, h))
block_set (b ∷ bs) zero c h = refl
block_set (b ∷ bs) (suc i) c h =
    let next : suc i + 1 ≡ suc (i + 1) = omega arith in
    rw next
    (ap (λ (l : TreeOf Member). rows_at b ++ l) (block_set bs i c (omega (arith, h)))
    ∙ sym (append_assoc (rows_at b) (rows_in (take i bs)) (rows_at c ++ rows_in (drop (i + 1) bs))))

pub rows_in_append : (a b : List Block) → rows_in (a ++ b) ≡ rows_in a ++ rows_in b
rows_in_append [] b = refl
rows_in_append (c ∷ a) b = ap (λ (l : TreeOf Member). rows_at c ++ l) (rows_in_append a b) ∙ sym (append_assoc (rows_at c) (rows_in a) (rows_in b))

pub blocks_append : (a b : List Block) → blocks_of (a ++ b) ≡ blocks_of a ++ blocks_of b
blocks_append [] b = refl
blocks_append (c ∷ a) b = ap (λ (l : List (TreeOf Member)). rows_at c ∷ l) (blocks_append a b)

pub blocks_push : (bs : List Block) (b : Block) → flat (rows_in (bs ++ b ∷ [])) ≡ flat (rows_in bs) ++ flat (rows_at b)
blocks_push bs b =
    ap flat (rows_in_append bs (b ∷ []) ∙ ap (λ (l : TreeOf Member). rows_in bs ++ l) (append-nil (rows_at b)))
    ∙ flat_append (rows_in bs) (rows_at b)

-- ---- no block is empty

pub filled_at : (bs : List Block) (i : ℕ) (d : Block) → i < length bs → AreFilled (blocks_of bs) → 0 < length (rows_at (slice_index_or bs i d))
filled_at [] i d h f = absurd (omega (arith, h))
filled_at (b ∷ bs) zero d h f = f.0
filled_at (b ∷ bs) (suc i) d h f = filled_at bs i d (omega (arith, h)) f.1

pub filled_take : (bs : List Block) (i : ℕ) → AreFilled (blocks_of bs) → AreFilled (blocks_of (take i bs))
filled_take bs zero f = tt
filled_take [] (suc i) f = tt
filled_take (b ∷ bs) (suc i) f = (f.0, filled_take bs i f.1)

pub filled_drop : (bs : List Block) (i : ℕ) → AreFilled (blocks_of bs) → AreFilled (blocks_of (drop i bs))
filled_drop bs zero f = f
filled_drop [] (suc i) f = tt
filled_drop (b ∷ bs) (suc i) f = filled_drop bs i f.1

pub filled_append : (a b : List Block) → AreFilled (blocks_of a) → AreFilled (blocks_of b) → AreFilled (blocks_of (a ++ b))
filled_append [] b f g = g
filled_append (c ∷ a) b f g = (f.0, filled_append a b f.1 g)

pub filled_set : (bs : List Block) (i : ℕ) (c : Block) → 0 < length (rows_at c) → AreFilled (blocks_of (take i bs)) → AreFilled (blocks_of (drop (i + 1) bs))
    → AreFilled (blocks_of (slice_set bs i c))
filled_set [] i c h f g = tt
filled_set (b ∷ bs) zero c h f g = (h, g)
filled_set (b ∷ bs) (suc i) c h f g =
    let next : suc i + 1 ≡ suc (i + 1) = omega arith in
    (f.0, filled_set bs i c h f.1 (rw next at g))

pub filled_whole : (bs : List Block) (i : ℕ) (d : Block) → 0 < length (rows_at (slice_index_or bs i d)) → AreFilled (blocks_of (take i bs)) → AreFilled (blocks_of (drop (i + 1) bs))
    → AreFilled (blocks_of bs)
filled_whole [] i d h f g = tt
filled_whole (b ∷ bs) zero d h f g = (h, g)
filled_whole (b ∷ bs) (suc i) d h f g =
    let next : suc i + 1 ≡ suc (i + 1) = omega arith in
    (f.0, filled_whole bs i d h f.1 (rw next at g))

pub rows_length : (cs : List Child) → length (rows_of cs) ≡ length cs
rows_length [] = refl
rows_length (c ∷ cs) = omega (arith, rows_length cs)

-- ---- where a key belongs

-- a block that begins after the key has nothing before it, and nothing after it has
begins_after : (key : Bytes) (b s : TreeOf Member) → 0 < length b → IsInOrder (b ++ s) → begins_by key b ≡ false → AllAfter key (b ++ s)
begins_after key [] s f o h = absurd (omega (arith, f))
begins_after key (r ∷ b) s f o h = by (by_bytes key r.0) refl h
  where
    by : (c : Ordering) → by_bytes key r.0 ≡ c → not (is_lt c) ≡ false → AllAfter key ((r ∷ b) ++ s)
    by Less e n = both _ _ (lt_of _ e) (all_after_down key r.0 (b ++ s) e (first _ _ o))
    by Equal e n = absurd (true≢false n)
    by Greater e n = absurd (true≢false n)

after_begins : (key : Bytes) (bs : List Block) (j : ℕ) (d : Block) → j < length bs → AreFilled (blocks_of bs) → AllAfter key (rows_in bs)
    → begins_by key (rows_at (slice_index_or bs j d)) ≡ false
after_begins key [] j d h f a = absurd (omega (arith, h))
after_begins key (b ∷ bs) zero d h f a = by (rows_at b) f.0 a
  where
    by : (l : TreeOf Member) → 0 < length l → AllAfter key (l ++ rows_in bs) → begins_by key l ≡ false
    by [] f a = absurd (omega (arith, f))
    by (r ∷ l) f a = ap (λ o. not (is_lt o)) (less (by_bytes key r.0) (first _ _ a))
after_begins key (b ∷ bs) (suc j) d h f a = after_begins key bs j d (omega (arith, h)) f.1 (after_second key (rows_at b) (rows_in bs) a)

pub blocks_parted : (key : Bytes) (bs : List Block) → IsInOrder (rows_in bs) → AreFilled (blocks_of bs)
    → IsPartitionedBy (λ (b : Block). begins_by key (rows_at b)) bs
blocks_parted key [] o f i j d le lt h = absurd (omega (arith, lt))
blocks_parted key (b ∷ bs) o f (suc i) zero d le lt h = absurd (omega (arith, le))
blocks_parted key (b ∷ bs) o f (suc i) (suc j) d le lt h =
    blocks_parted key bs (order_second (rows_at b) (rows_in bs) o) f.1 i j d (omega (arith, le)) (omega (arith, lt)) h
blocks_parted key (b ∷ bs) o f zero j d le lt h = by (begins_by key (rows_at b)) refl
  where
    by : (t : Bool) → begins_by key (rows_at b) ≡ t → begins_by key (rows_at b) ≡ true
    by true e = e
    by false e =
        absurd (true≢false (sym h ∙ after_begins key (b ∷ bs) j d lt f (begins_after key (rows_at b) (rows_in bs) f.0 o e)))

after_point : (key : Bytes) (bs : List Block) (n : ℕ) → IsInOrder (rows_in bs) → AreFilled (blocks_of bs)
    → ((d : Block) → n < length bs → begins_by key (rows_at (slice_index_or bs n d)) ≡ false) → AllAfter key (rows_in (drop n bs))
after_point key [] zero o f h = tt
after_point key [] (suc n) o f h = tt
after_point key (b ∷ bs) zero o f h = begins_after key (rows_at b) (rows_in bs) f.0 o (h b (omega arith))
after_point key (b ∷ bs) (suc n) o f h =
    after_point key bs n (order_second (rows_at b) (rows_in bs) o) f.1 (λ d lt. h d (omega (arith, lt)))

-- a block that begins by the key has what is before it before the key
before_begun : (key : Bytes) (p b s : TreeOf Member) → 0 < length b → IsInOrder (p ++ (b ++ s)) → begins_by key b ≡ true → AllBefore key p
before_begun key p [] s f o h = absurd (omega (arith, f))
before_begun key p (r ∷ b) s f o h = all_before_up r.0 key p (around r.0 r.1 p (b ++ s) o).0 (turned (is_lt (by_bytes key r.0)) h)
  where
    turned : (t : Bool) → not t ≡ true → t ≡ false
    turned true h = absurd (true≢false (sym h))
    turned false h = refl

later_before : (key : Bytes) (p : TreeOf Member) (bs : List Block) (i : ℕ) → i < length bs → IsInOrder (p ++ rows_in bs) → AreFilled (blocks_of bs)
    → ((d : Block) → begins_by key (rows_at (slice_index_or bs i d)) ≡ true) → AllBefore key (p ++ rows_in (take i bs))
later_before key p [] i lt o f h = absurd (omega (arith, lt))
later_before key p (b ∷ bs) i lt o f h =
    let all : List Block = b ∷ bs in
    before_begun key (p ++ rows_in (take i all)) (rows_at (slice_index_or all i b)) (rows_in (drop (i + 1) all)) (filled_at all i b lt f)
    (subst (λ (l : TreeOf Member). IsInOrder l)
    (ap (λ (l : TreeOf Member). p ++ l) (block_at all i b lt)
    ∙ sym (append_assoc p (rows_in (take i all)) (rows_at (slice_index_or all i b) ++ rows_in (drop (i + 1) all))))
    o)
    (h b)

module _ (key : Bytes) (c : Children) where
  pub first_place : IsInOrder (all_rows c) → AreFilled (blocks_of c.rest.items)
      → IsPartitionPoint (λ (b : Block). begins_by key (rows_at b) ≡ true) (λ (b : Block). begins_by key (rows_at b) ≡ false) c.rest.items 0
      → AllAfter key (rows_in c.rest.items)
  first_place o f point =
      after_point key c.rest.items 0 (order_second (rows_of c.first.items) (rows_in c.rest.items) o) f (λ d lt. point.1 0 d (omega arith) lt)

  pub later_place : (i n : ℕ) → i + 1 ≡ n → n ≤ length c.rest.items → IsInOrder (all_rows c) → AreFilled (blocks_of c.rest.items)
      → IsPartitionPoint (λ (b : Block). begins_by key (rows_at b) ≡ true) (λ (b : Block). begins_by key (rows_at b) ≡ false) c.rest.items n
      → IsBlockAt key c i
  later_place i n is lt o f point = record {
    within = omega arith;
    before = later_before key (rows_of c.first.items) c.rest.items i (omega arith) o f (λ d. point.0 i d (omega arith) (omega arith));
    after =
        rw is
        (after_point key c.rest.items n (order_second (rows_of c.first.items) (rows_in c.rest.items) o) f (λ d lt. point.1 n d (omega arith) lt));
  }

  pub rows_around : (i : ℕ) (d : Block) → i < length c.rest.items
      → all_rows c ≡ (rows_of c.first.items ++ rows_in (take i c.rest.items)) ++ (rows_at (slice_index_or c.rest.items i d) ++ rows_in (drop (i + 1) c.rest.items))
  rows_around i d lt =
      ap (λ (l : TreeOf Member). rows_of c.first.items ++ l) (block_at c.rest.items i d lt)
      ∙ sym (append_assoc (rows_of c.first.items) (rows_in (take i c.rest.items)) (rows_at (slice_index_or c.rest.items i d) ++ rows_in (drop (i + 1) c.rest.items)))

  pub rows_around_set : (i : ℕ) (b : Block) → i < length c.rest.items
      → rows_of c.first.items ++ rows_in (slice_set c.rest.items i b) ≡ (rows_of c.first.items ++ rows_in (take i c.rest.items)) ++ (rows_at b ++ rows_in (drop (i + 1) c.rest.items))
  rows_around_set i b lt =
      ap (λ (l : TreeOf Member). rows_of c.first.items ++ l) (block_set c.rest.items i b lt)
      ∙ sym (append_assoc (rows_of c.first.items) (rows_in (take i c.rest.items)) (rows_at b ++ rows_in (drop (i + 1) c.rest.items)))

  pub around_at : (i : ℕ) (d : Block) (l : List Child) → IsBlockAt key c i → l ≡ (slice_index_or c.rest.items i d).value.items
      → IsAround key (all_rows c) (rows_of l)
  around_at i d l h is = record {
    before = rows_of c.first.items ++ rows_in (take i c.rest.items);
    after = rows_in (drop (i + 1) c.rest.items);
    all_before = h.before;
    all_after = h.after;
    is =
        rows_around i d h.within
        ∙ ap (λ (l : List Child). (rows_of c.first.items ++ rows_in (take i c.rest.items)) ++ (rows_of l ++ rows_in (drop (i + 1) c.rest.items))) (sym is);
  }

  -- the block's rows are sound
  pub sound_at : (i : ℕ) (d : Block) → i < length c.rest.items → AreSound (all_rows c) → AreSound (rows_at (slice_index_or c.rest.items i d))
  sound_at i d lt s =
      sound_within (rows_of c.first.items ++ rows_in (take i c.rest.items)) (rows_at (slice_index_or c.rest.items i d)) (rows_in (drop (i + 1) c.rest.items))
      (subst (λ (l : TreeOf Member). AreSound l) (rows_around i d lt) s)

-- what is under the key is in its block
pub at_around : (key : Bytes) (rows block : TreeOf Member) → IsAround key rows block → at rows key ≡ at block key
at_around key rows block a = ap (λ (l : TreeOf Member). at l key) a.is ∙ at_within key a.before block a.after a.all_before a.all_after

pub order_around : (key : Bytes) (rows block : TreeOf Member) → IsAround key rows block → IsInOrder rows → IsInOrder block
order_around key rows block a o =
    order_first block a.after (order_second a.before (block ++ a.after) (subst (λ (l : TreeOf Member). IsInOrder l) a.is o))

-- ---- a block becomes two

pub split_rows : (bs : List Block) (i : ℕ) (b c : Block) → i < length bs
    → rows_in (slice_set (take (i + 1) bs ++ c ∷ drop (i + 1) bs) i b) ≡ rows_in (take i bs) ++ ((rows_at b ++ rows_at c) ++ rows_in (drop (i + 1) bs))
split_rows [] i b c h = absurd (omega (arith, h))
split_rows (a ∷ bs) zero b c h = sym (append_assoc (rows_at b) (rows_at c) (rows_in bs))
split_rows (a ∷ bs) (suc i) b c h =
    let next : suc i + 1 ≡ suc (i + 1) = omega arith in
    rw next
    (ap (λ (l : TreeOf Member). rows_at a ++ l) (split_rows bs i b c (omega (arith, h)))
    ∙ sym (append_assoc (rows_at a) (rows_in (take i bs)) ((rows_at b ++ rows_at c) ++ rows_in (drop (i + 1) bs))))

pub split_filled : (bs : List Block) (i : ℕ) (b c : Block) → i < length bs → AreFilled (blocks_of bs) → 0 < length (rows_at b) → 0 < length (rows_at c)
    → AreFilled (blocks_of (slice_set (take (i + 1) bs ++ c ∷ drop (i + 1) bs) i b))
split_filled [] i b c h f p q = absurd (omega (arith, h))
split_filled (a ∷ bs) zero b c h f p q = (p, (q, f.1))
split_filled (a ∷ bs) (suc i) b c h f p q =
    let next : suc i + 1 ≡ suc (i + 1) = omega arith in
    rw next (f.0, split_filled bs i b c (omega (arith, h)) f.1 p q)

split_first_rows_by : (first : List Child) (rest : List Block) (n : ℕ) (b : Block) → rows_at b ≡ rows_of (drop n first)
    → rows_of (take n first) ++ (rows_at b ++ rows_in rest) ≡ rows_of first ++ rows_in rest
split_first_rows_by first rest n b back =
    ap (λ (l : TreeOf Member). rows_of (take n first) ++ (l ++ rows_in rest)) back
    ∙ sym (append_assoc (rows_of (take n first)) (rows_of (drop n first)) (rows_in rest))
    ∙ ap (λ (l : TreeOf Member). l ++ rows_in rest) (sym (place_rows first n))

-- the last children of the first block are one of their own
pub split_first_rows : (first new : List Child) (rest bs : List Block) (n : ℕ) (b : Block) → new ≡ take n first → bs ≡ b ∷ rest → rows_at b ≡ rows_of (drop n first)
    → rows_of new ++ rows_in bs ≡ rows_of first ++ rows_in rest
split_first_rows first new rest bs n b front put back =
    ap (λ (l : List Child). rows_of l ++ rows_in bs) front ∙ ap (λ (l : List Block). rows_of (take n first) ++ rows_in l) put ∙ split_first_rows_by first rest n b back

pub long_rows : (cs : List Child) (n : ℕ) (rows : TreeOf Member) → n < length cs → rows ≡ rows_of (drop n cs) → 0 < length rows
long_rows cs n rows lt is = omega (arith, ap (λ (l : TreeOf Member). length l) is, rows_length (drop n cs), length-drop n cs)

pub long_front : (cs : List Child) (n : ℕ) (rows : TreeOf Member) → n < length cs → 0 < n → rows ≡ rows_of (take n cs) → 0 < length rows
long_front cs n rows lt some is = omega (arith, ap (λ (l : TreeOf Member). length l) is, rows_length (take n cs), length-take n cs)

pub split_first_filled : (rest bs : List Block) (b : Block) → bs ≡ b ∷ rest → 0 < length (rows_at b) → AreFilled (blocks_of rest) → AreFilled (blocks_of bs)
split_first_filled rest bs b put some f = subst (λ (l : List Block). AreFilled (blocks_of l)) (sym put) (some, f)

pub empty_rows : (cs : List Child) → true ≡ (length cs == 0) → rows_of cs ≡ []
empty_rows [] h = refl
empty_rows (c ∷ cs) h = absurd (grind (arith, nat_tests))

pub some_rows : (cs : List Child) → false ≡ (length cs == 0) → 0 < length (rows_of cs)
some_rows [] h = absurd (grind (arith, nat_tests))
some_rows (c ∷ cs) h = omega arith

-- an empty block goes
pub removed_rows : (bs : List Block) (i : ℕ) (d : Block) → i < length bs → rows_at (slice_index_or bs i d) ≡ [] → rows_in (take i bs ++ drop (suc i) bs) ≡ rows_in bs
removed_rows bs i d lt none =
    let next : suc i ≡ i + 1 = omega arith in
    rows_in_append (take i bs) (drop (suc i) bs)
    ∙ ap (λ n. rows_in (take i bs) ++ rows_in (drop n bs)) next
    ∙ ap (λ (l : TreeOf Member). rows_in (take i bs) ++ (l ++ rows_in (drop (i + 1) bs))) (sym none)
    ∙ sym (block_at bs i d lt)

pub removed_filled : (bs : List Block) (i : ℕ) → AreFilled (blocks_of (take i bs)) → AreFilled (blocks_of (drop (i + 1) bs))
    → AreFilled (blocks_of (take i bs ++ drop (suc i) bs))
removed_filled bs i f g =
    let next : suc i ≡ i + 1 = omega arith in
    filled_append (take i bs) (drop (suc i) bs) f (subst (λ n. AreFilled (blocks_of (drop n bs))) (sym next) g)

pub filled_same : (bs : List Block) (i : ℕ) (d b : Block) → i < length bs → AreFilled (blocks_of bs) → rows_at b ≡ rows_at (slice_index_or bs i d)
    → AreFilled (blocks_of (slice_set bs i b))
filled_same bs i d b lt f is =
    filled_set bs i b (subst (λ (l : TreeOf Member). 0 < length l) (sym is) (filled_at bs i d lt f)) (filled_take bs i f) (filled_drop bs (i + 1) f)

-- ---- one key of all children

module _ (key : Bytes) (c : Children) where
  pub sound_first : AreSound (all_rows c) → AreSound (rows_of c.first.items)
  sound_first s = sound_within [] (rows_of c.first.items) (rows_in c.rest.items) s

  pub same_block : (i : ℕ) (d b : Block) → i < length c.rest.items → rows_at b ≡ rows_at (slice_index_or c.rest.items i d)
      → rows_of c.first.items ++ rows_in (slice_set c.rest.items i b) ≡ all_rows c
  same_block i d b lt is =
      rows_around_set key c i b lt
      ∙ ap (λ (l : TreeOf Member). (rows_of c.first.items ++ rows_in (take i c.rest.items)) ++ (l ++ rows_in (drop (i + 1) c.rest.items))) is
      ∙ sym (rows_around key c i d lt)

  pub exchange_first : (new : Option Member) (change : Change) (l : List Child) → IsBlock key c None
      → IsExchange key new change (rows_of c.first.items) (rows_of l) → IsExchange key new change (all_rows c) (rows_of l ++ rows_in c.rest.items)
  exchange_first new change l h x = exchange_within key new change [] (rows_of c.first.items) (rows_of l) (rows_in c.rest.items) tt h x

  pub exchange_at : (new : Option Member) (change : Change) (i : ℕ) (d b : Block) → IsBlockAt key c i
      → IsExchange key new change (rows_at (slice_index_or c.rest.items i d)) (rows_at b)
      → IsExchange key new change (all_rows c) (rows_of c.first.items ++ rows_in (slice_set c.rest.items i b))
  exchange_at new change i d b h x =
      let p = rows_of c.first.items ++ rows_in (take i c.rest.items) in
      let s = rows_in (drop (i + 1) c.rest.items) in
      let o = rows_at (slice_index_or c.rest.items i d) in
      subst (λ (l : TreeOf Member). IsExchange key new change l (rows_of c.first.items ++ rows_in (slice_set c.rest.items i b))) (sym (rows_around key c i d h.within))
      (subst (λ (l : TreeOf Member). IsExchange key new change (p ++ (o ++ s)) l) (sym (rows_around_set key c i b h.within))
      (exchange_within key new change p o (rows_at b) s h.before h.after x))

  pub set_first : (path : Bytes) (m : Option Member) (clear : Bool) (change : Option Change) (l : List Child) → IsBlock key c None
      → IsSetUnder key path m clear change (rows_of c.first.items) (rows_of l) → IsSetUnder key path m clear change (all_rows c) (rows_of l ++ rows_in c.rest.items)
  set_first path m clear change l h x = set_within key path m clear change [] (rows_of c.first.items) (rows_of l) (rows_in c.rest.items) tt h x

  pub set_at : (path : Bytes) (m : Option Member) (clear : Bool) (change : Option Change) (i : ℕ) (d b : Block) → IsBlockAt key c i
      → IsSetUnder key path m clear change (rows_at (slice_index_or c.rest.items i d)) (rows_at b)
      → IsSetUnder key path m clear change (all_rows c) (rows_of c.first.items ++ rows_in (slice_set c.rest.items i b))
  set_at path m clear change i d b h x =
      let p = rows_of c.first.items ++ rows_in (take i c.rest.items) in
      let s = rows_in (drop (i + 1) c.rest.items) in
      let o = rows_at (slice_index_or c.rest.items i d) in
      subst (λ (l : TreeOf Member). IsSetUnder key path m clear change l (rows_of c.first.items ++ rows_in (slice_set c.rest.items i b))) (sym (rows_around key c i d h.within))
      (subst (λ (l : TreeOf Member). IsSetUnder key path m clear change (p ++ (o ++ s)) l) (sym (rows_around_set key c i b h.within))
      (set_within key path m clear change p o (rows_at b) s h.before h.after x))

-- ---- by the answer of a call

pub on_err : {V E : Type 0} {P Q : Type 0} (r : Result V E) → OnErr r P → (P → Q) → OnErr r Q
on_err (Ok v) h f = tt
on_err (Err e) h f = f h

pub on_ok : {V E : Type 0} {P Q : Type 0} (r : Result V E) → OnOk r P → (P → Q) → OnOk r Q
on_ok (Ok v) h f = f h
on_ok (Err e) h f = tt

pub put_some : {E : Type 0} (key : Bytes) (m : Member) (b c : TreeOf Member) (r : Result Change E) → IfOk r (λ change. IsExchange key (Some m) change b c)
    → OnErr r (c ≡ b) → 0 < length b → 0 < length c
put_some key m b c (Ok change) x same some = put_filled key m change b c x
put_some key m b c (Err e) x same some = subst (λ (l : TreeOf Member). 0 < length l) (sym same) some
