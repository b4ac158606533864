-- Rows in which one key has another member, or none.
use Rattle.std.proofs.Common.{◌≡◌, Bool, true, false, cond, T, [], ◌∷◌, ◌++◌, refl, sym, ap, ◌∙◌, Option, Some, None, bytes_eq}
use Rattle.std.specs.Option.{option_or}
use Rattle.std.specs.Ordering.{is_eq}
use Rattle.std.specs.declared.cmp.Ordering.TheVariants.{Less}
use Rattle.std.specs.Cmp.{eq_by_cmp_equiv}
use Rattle.std.specs.Cmp.Lexicographic.{nat_list_cmp_total}
use Rattle.std.proofs.lemmas.Slice.Eq.{bytes_eq-Decides}
use Rattle.plain_model.specs.Paths.{Bytes}
use Rattle.plain_model.specs.Trees.{TreeOf, at}
use Rattle.history_laws.proofs.TreeLaws.{by_bytes}
use Rattle.path_tree.specs.Folders.{Member, AllFit, AreSound}
use Rattle.path_tree.specs.Setting.{FitsIf}
use Rattle.path_tree.specs.PathMaps.{IsInOrder}
use Rattle.path_tree.specs.Rows.{AllBefore, AllAfter, row_if}
use Rattle.path_tree.proofs.Orders.{both, first, second, less, is_before, none_before, turned_bytes}
use Rattle.path_tree.proofs.Keys.{at_append, lt_of}

module _ {X : Type 0} where
  -- a key that comes after all rows isn't among them
  pub none_after : (key : Bytes) (rows : TreeOf X) → AllBefore key rows → at rows key ≡ None
  none_after key [] h = refl
  none_after key (r ∷ rs) h =
      ap (λ t. cond t (Some r.1) (at rs key)) ((eq_by_cmp_equiv nat_list_cmp_total).symm key r.0 ∙ ap is_eq h.0) ∙ none_after key rs h.1

  -- ---- what is at a key then

  at_row : (k q : Bytes) (o : Option X) → bytes_eq k q ≡ false → at (row_if k o) q ≡ None
  at_row k q None h = refl
  at_row k q (Some x) h = ap (λ t. cond t (Some x) None) (turned_bytes k q ∙ h)

  at_own : (k : Bytes) (o : Option X) → at (row_if k o) k ≡ o
  at_own k None = refl
  at_own k (Some x) = ap (λ t. cond t (Some x) None) (turned_bytes k k ∙ (bytes_eq-Decides k k).1 refl)

  pub or_none : (o : Option X) → option_or o None ≡ o
  or_none None = refl
  or_none (Some x) = refl

  -- the key has the member, and other keys have what the rows around have
  pub at_spliced : (k : Bytes) (a : TreeOf X) (o : Option X) (b : TreeOf X) → AllBefore k a → AllAfter k b → (q : Bytes)
      → at (a ++ (row_if k o ++ b)) q ≡ cond (bytes_eq k q) o (at (a ++ b) q)
  at_spliced k a o b before after q =
      at_append a (row_if k o ++ b) q
      ∙ ap (option_or (at a q)) (at_append (row_if k o) b q)
      ∙ by (bytes_eq k q) refl
    where
      by : (t : Bool) → bytes_eq k q ≡ t → option_or (at a q) (option_or (at (row_if k o) q) (at b q)) ≡ cond t o (at (a ++ b) q)
      by true e =
          ap (λ (x : Bytes). option_or (at a x) (option_or (at (row_if k o) x) (at b x))) (sym ((bytes_eq-Decides k q).0 e))
          ∙ ap (λ x. option_or x (option_or (at (row_if k o) k) (at b k))) (none_after k a before)
          ∙ ap (λ x. option_or x (at b k)) (at_own k o)
          ∙ ap (option_or o) (none_before k b after)
          ∙ or_none o
      by false e = ap (λ x. option_or (at a q) (option_or x (at b q))) (at_row k q o e) ∙ sym (at_append a b q)

  pub at_exchanged : (k : Bytes) (a b : TreeOf X) (old new : Option X) → AllBefore k a → AllAfter k b → (q : Bytes)
      → at (a ++ (row_if k new ++ b)) q ≡ cond (bytes_eq k q) new (at (a ++ (row_if k old ++ b)) q)
  at_exchanged k a b old new before after q =
      at_spliced k a new b before after q ∙ by (bytes_eq k q) (at (a ++ b) q)
      ∙ ap (λ o. cond (bytes_eq k q) new o) (sym (at_spliced k a old b before after q))
    where
      by : (t : Bool) (o : Option X) → cond t new o ≡ cond t new (cond t old o)
      by true o = refl
      by false o = refl

  -- ---- the order is kept

  -- what is before all is before the key among them
  pub before_key : (p k : Bytes) (x : X) (a b : TreeOf X) → T (is_before p (a ++ (k, x) ∷ b)) → by_bytes p k ≡ Less
  before_key p k x [] b h = less (by_bytes p k) (first _ _ h)
  before_key p k x (r ∷ a) b h = before_key p k x a b (second _ _ h)

  before_parts : (p k : Bytes) (old new : Option X) (a b : TreeOf X) → by_bytes p k ≡ Less → T (is_before p (a ++ (row_if k old ++ b)))
      → T (is_before p (a ++ (row_if k new ++ b)))
  before_parts p k None None [] b l h = h
  before_parts p k None (Some x) [] b l h = both _ _ (lt_of _ l) h
  before_parts p k (Some x) None [] b l h = second _ _ h
  before_parts p k (Some x) (Some y) [] b l h = both _ _ (lt_of _ l) (second _ _ h)
  before_parts p k old new (r ∷ a) b l h = both _ _ (first _ _ h) (before_parts p k old new a b l (second _ _ h))

  -- the key is between the rows on both sides
  pub around : (k : Bytes) (x : X) (a b : TreeOf X) → IsInOrder (a ++ (k, x) ∷ b) → AllBefore k a × AllAfter k b
  around k x [] b h = (tt, first _ _ h)
  around k x (r ∷ a) b h = let rest = around k x a b (second _ _ h) in ((before_key r.0 k x a b (first _ _ h), rest.0), rest.1)

  pub spliced_in_order : (k : Bytes) (old new : Option X) (a b : TreeOf X) → AllBefore k a → AllAfter k b → IsInOrder (a ++ (row_if k old ++ b))
      → IsInOrder (a ++ (row_if k new ++ b))
  spliced_in_order k None None [] b before after h = h
  spliced_in_order k None (Some x) [] b before after h = both _ _ after h
  spliced_in_order k (Some x) None [] b before after h = second _ _ h
  spliced_in_order k (Some x) (Some y) [] b before after h = both _ _ after (second _ _ h)
  spliced_in_order k old new (r ∷ a) b before after h =
      both _ _ (before_parts r.0 k old new a b before.0 (first _ _ h)) (spliced_in_order k old new a b before.1 after (second _ _ h))

-- ---- and each member fits

spliced_fit : (k : Bytes) (old new : Option Member) (a b : TreeOf Member) → FitsIf k new → AllFit (a ++ (row_if k old ++ b)) → AllFit (a ++ (row_if k new ++ b))
spliced_fit k None None [] b f h = h
spliced_fit k None (Some x) [] b f h = (f, h)
spliced_fit k (Some x) None [] b f h = h.1
spliced_fit k (Some x) (Some y) [] b f h = (f, h.1)
spliced_fit k old new (r ∷ a) b f h = (h.0, spliced_fit k old new a b f h.1)

pub spliced_sound : (k : Bytes) (old new : Option Member) (a b : TreeOf Member) → AllBefore k a → AllAfter k b → FitsIf k new
    → AreSound (a ++ (row_if k old ++ b)) → AreSound (a ++ (row_if k new ++ b))
spliced_sound k old new a b before after f s = record {
  in_order = spliced_in_order k old new a b before after s.in_order;
  all_fit = spliced_fit k old new a b f s.all_fit;
}
