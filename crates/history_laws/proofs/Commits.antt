-- The commits and the branches of two lists of events, one after the other.
use Rattle.std.proofs.Common.{◌≡◌, ℕ, Bool, true, false, cond, List, [], ◌∷◌, ◌++◌, Some, None, refl, ap, subst, ◌∙◌}
use Rattle.std.specs.Prelude.{◌||◌, ◌==◌}
use Rattle.std.specs.List.{AllByRecursion}
use Rattle.std.specs.Ordering.{nat_cmp, eq_by_cmp}
use Rattle.std.specs.declared.cmp.Ordering.{Ordering}
use Rattle.std.specs.declared.cmp.Ordering.TheVariants.{Less, Equal, Greater}
use Rattle.std.specs.Cmp.Lexicographic.{slice_cmp}
use Rattle.std.specs.FinMap.Entries.{by_order}
use Rattle.std.proofs.lemmas.Bool.{or_parts}
use Rattle.plain_model.specs.declared.event.PlainEvent.{PlainEvent}
use Rattle.plain_model.specs.declared.event.PlainEvent.TheVariants.{Blob, Commit, Tag, Reset, Pass}
use Rattle.plain_model.specs.Paths.{Bytes}
use Rattle.plain_model.specs.Trees.{TreeOf, at, put, where_path}
use Rattle.plain_model.specs.Histories.{Node, Past, knows, nodes}
use Rattle.plain_model.specs.Snapshots.{refs_after}

-- ---- commits

-- commits of two lists
pub nodes_append : (a b : List PlainEvent) → nodes (a ++ b) ≡ nodes a ++ nodes b
nodes_append [] b = refl
nodes_append (Commit id mark branch author committer encoding comment parents ops aliases ∷ a) b = ap (λ (l : List Node). record { id = id; parents = parents; ops = ops } ∷ l) (nodes_append a b)
nodes_append (_ ∷ a) b = nodes_append a b

-- what neither of two pasts knows
pub unknown_both : (a b : Past) (c : ℕ) → knows a c ≡ false → knows b c ≡ false → knows (a ++ b) c ≡ false
unknown_both [] b c h k = k
unknown_both (n ∷ a) b c h k =
    let parts = or_parts (n.id == c) (knows a c) h in
    ap (λ x. x || knows (a ++ b) c) parts.0 ∙ unknown_both a b c parts.1 k

-- ---- branches

-- branches after two lists
pub refs_append : (t : TreeOf ℕ) (a b : List PlainEvent) → refs_after t (a ++ b) ≡ refs_after (refs_after t a) b
refs_append t [] b = refl
refs_append t (Blob id mark bytes ∷ a) b = refs_append t a b
refs_append t (Commit id mark branch author committer encoding comment parents ops aliases ∷ a) b = refs_append (put branch id t) a b
refs_append t (Tag id name target tagger comment mark ∷ a) b = refs_append t a b
refs_append t (Reset id branch None ∷ a) b = refs_append _ a b
refs_append t (Reset id branch (Some c) ∷ a) b = refs_append (put branch c t) a b
refs_append t (Pass id line ∷ a) b = refs_append t a b

-- what holds of all entries holds after a put of such a one
pub all_put : (P : ℕ → Type 0) (k : Bytes) (v : ℕ) (t : TreeOf ℕ) → P v → AllByRecursion (λ e. P e.1) t → AllByRecursion (λ e. P e.1) (put k v t)
all_put P k v [] h a = (h, tt)
all_put P k v (e ∷ t) h a = go (slice_cmp nat_cmp k e.0) (all_put P k v t h a.1)
  where
    go : (r : Ordering) → AllByRecursion (λ e. P e.1) (put k v t) → AllByRecursion (λ e. P e.1) (by_order r ((k, v) ∷ e ∷ t) ((e.0, v) ∷ t) (e ∷ put k v t))
    go Less b = (h, a)
    go Equal b = (h, a.1)
    go Greater b = (a.0, b)

-- what holds of all entries holds of those that pass a test
pub all_where : (P : ℕ → Type 0) (test : Bytes → Bool) (t : TreeOf ℕ) → AllByRecursion (λ e. P e.1) t → AllByRecursion (λ e. P e.1) (where_path test t)
all_where P test [] a = tt
all_where P test (e ∷ t) a = go (test e.0) (all_where P test t a.1)
  where
    go : (b : Bool) → AllByRecursion (λ e. P e.1) (where_path test t) → AllByRecursion (λ e. P e.1) (cond b (e ∷ where_path test t) (where_path test t))
    go true r = (a.0, r)
    go false r = r

-- what holds of all entries holds of the one that is found
pub all_at : (P : ℕ → Type 0) (t : TreeOf ℕ) (q : Bytes) (v : ℕ) → AllByRecursion (λ e. P e.1) t → at t q ≡ Some v → P v
all_at P [] q v a h = absurd cc
all_at P (e ∷ t) q v a h = go (eq_by_cmp (slice_cmp nat_cmp) q e.0) h (λ x. all_at P t q v a.1 x)
  where
    go : (b : Bool) → cond b (Some e.1) (at t q) ≡ Some v → (at t q ≡ Some v → P v) → P v
    go true x f = let is : e.1 ≡ v = cc in subst P is a.0
    go false x f = f x
