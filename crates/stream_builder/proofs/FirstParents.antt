-- The tree of a commit among events whose ids are places: that of its first parent, with its operations.
use Rattle.std.proofs.Common.{◌≡◌, ℕ, zero, suc, ◌+◌, ◌<◌, ◌≤◌, Bool, true, false, cond, List, [], ◌∷◌, ◌++◌, length, Option, Some, None, refl, sym, ap, subst, ◌∙◌, arith, ne_eqb, eqb-true, nat_lt, get_or, drop}
use Rattle.std.proofs.lemmas.Bool.Decides.{nat_tests}
use Rattle.std.proofs.lemmas.Option.{same_Some}
use Rattle.plain_model.specs.Lookups.{id_of, id_number}
use Rattle.std.specs.Prelude.{◌==◌, option_map}
use Rattle.std.proofs.lemmas.List.{reverse-append}
use Rattle.std.proofs.lemmas.Bool.{cond-true, cond-false}
use Rattle.plain_model.specs.declared.event.PlainEvent.{PlainEvent}
use Rattle.plain_model.specs.declared.event.PlainEvent.TheVariants.{Blob, Commit, Tag, Reset, Pass}
use Rattle.plain_model.specs.declared.operation.FileOp.{FileOp}
use Rattle.plain_model.specs.Histories.{Node, Past, nodes, node_at, past, folded, begun, tree_in, tree}
use Rattle.plain_model.specs.Trees.{Tree}
use Rattle.stream_drafts.specs.Events.{links_of}
use Rattle.history_laws.specs.Placed.{ArePlaced}
use Rattle.stream_grammar.specs.Known.{next_id}
use Rattle.stream_builder.specs.Keeping.{IsEarlier}
use Rattle.stream_builder.specs.Lines.{AreFolded, IsLine, ops_in, ops_at, along}

-- ---- ids that fall

-- the ids of a past fall, from below the one number to no less than the other
abbrev AreFalling : ℕ → ℕ → Past → Type 0
AreFalling low high [] = Unit {0}
AreFalling low high (n ∷ older) = (n.id < high) × (low ≤ n.id) × AreFalling low n.id older

lower : (k high : ℕ) (older : Past) → AreFalling (suc k) high older → AreFalling k high older
lower k high [] h = tt
lower k high (n ∷ older) h = (h.0, omega (arith, h.1), lower k n.id older h.2)

-- one commit before all others
oldest : (k high : ℕ) (older : Past) (n : Node) → AreFalling (suc k) high older → n.id ≡ k → k < high → AreFalling k high (older ++ n ∷ [])
oldest k high [] n h is below = (omega (arith, is, below), omega (arith, is), tt)
oldest k high (m ∷ older) n h is below = (h.0, omega (arith, h.1), oldest k m.id older n h.2 is (omega (arith, h.1)))

falling : (k : ℕ) (es : List PlainEvent) → ArePlaced k es → AreFalling k (length es + k) (past es)
falling k [] a = tt
falling k (e ∷ es) a = go e a.0 (falling (suc k) es a.1)
  where
    same : length es + suc k ≡ suc (length es) + k
    same = omega arith

    next : AreFalling (suc k) (length es + suc k) (past es) → AreFalling (suc k) (suc (length es) + k) (past es)
    next h = subst (λ n. AreFalling (suc k) n (past es)) same h

    go : (x : PlainEvent) → id_number (id_of x) ≡ k → AreFalling (suc k) (length es + suc k) (past es) → AreFalling k (suc (length es) + k) (past (x ∷ es))
    go (Blob id mark bytes) is h = lower k (suc (length es) + k) (past es) (next h)
    go (Tag id name target tagger comment mark) is h = lower k (suc (length es) + k) (past es) (next h)
    go (Reset id branch target) is h = lower k (suc (length es) + k) (past es) (next h)
    go (Pass id line) is h = lower k (suc (length es) + k) (past es) (next h)
    go (Commit id mark branch author committer encoding comment parents ops aliases) is h =
        subst (λ (l : Past). AreFalling k (suc (length es) + k) l) (sym (reverse-append (record { id = id; parents = parents; ops = ops } ∷ []) (nodes es)))
        (oldest k (suc (length es) + k) (past es) (record { id = id; parents = parents; ops = ops }) (next h) is (omega arith))

-- ---- what is at an id

-- an id above all has no tree
absent : (low high : ℕ) (older : Past) → AreFalling low high older → (c : ℕ) → high ≤ c → tree_in older c ≡ None
absent low high [] h c above = refl
absent low high (n ∷ older) h c above =
    cond-false (n.id == c) (folded n.ops (begun (tree_in older) n.parents)) (tree_in older c) (let less = h.0 in ne_eqb n.id c (λ same. omega (arith, less, same, above)))
    ∙ absent low n.id older h.2 c (let less = h.0 in omega (arith, less, above))

-- an id that is found is below
found_below : (low high : ℕ) (older : Past) → AreFalling low high older → (c : ℕ) (m : Node) → node_at older c ≡ Some m → c < high
found_below low high [] h c m e = absurd cc
found_below low high (n ∷ older) h c m e = go (n.id == c) refl e (found_below low n.id older h.2 c m)
  where
    go : (t : Bool) → (n.id == c) ≡ t → cond t (Some n) (node_at older c) ≡ Some m → (node_at older c ≡ Some m → c < n.id) → c < high
    go true is e more = let same = eqb-true n.id c is in let less = h.0 in omega (arith, same, less)
    go false is e more = let less = h.0 in let below = more e in omega (arith, less, below)

no_node : (older : Past) (c : ℕ) → node_at older c ≡ None → tree_in older c ≡ None
no_node [] c e = refl
no_node (n ∷ older) c e = go (n.id == c) refl e (no_node older c)
  where
    go : (t : Bool) → (n.id == c) ≡ t → cond t (Some n) (node_at older c) ≡ None → (node_at older c ≡ None → tree_in older c ≡ None) → tree_in (n ∷ older) c ≡ None
    go true is e more = absurd cc
    go false is e more = cond-false (n.id == c) (folded n.ops (begun (tree_in older) n.parents)) (tree_in older c) is ∙ more e

-- what a commit begins with, where a parent has to be earlier
abbrev begun_before : ℕ → (ℕ → Option Tree) → List ℕ → Option Tree
begun_before c tree_of [] = Some []
begun_before c tree_of (p ∷ ps) = cond (nat_lt p c) (tree_of p) None

begins_alike : (low high : ℕ) (older : Past) → AreFalling low high older → (n : Node) → n.id ≡ high
    → (ps : List ℕ) → begun (tree_in older) ps ≡ begun_before high (tree_in (n ∷ older)) ps
begins_alike low high older h n is [] = refl
begins_alike low high older h n is (p ∷ ps) = go (nat_lt p high) refl
  where
    go : (t : Bool) → nat_lt p high ≡ t → tree_in older p ≡ cond t (tree_in (n ∷ older) p) None
    go true e =
        let less : p < high = grind (arith, nat_tests) in
        sym (cond-false (n.id == p) (folded n.ops (begun (tree_in older) n.parents)) (tree_in older p) (ne_eqb n.id p (λ same. omega (arith, same, is, less))))
    go false e =
        let more : high ≤ p = grind (arith, nat_tests) in
        absent low high older h p more

-- the tree of a commit that is found
tree_found : (low high : ℕ) (older : Past) → AreFalling low high older → (c : ℕ) (m : Node) → node_at older c ≡ Some m
    → tree_in older c ≡ folded m.ops (begun_before c (tree_in older) m.parents)
tree_found low high [] h c m e = absurd cc
tree_found low high (n ∷ older) h c m e = go (n.id == c) refl e (λ e. tree_found low n.id older h.2 c m e)
  where
    -- an earlier parent is no later commit
    still : c < n.id → (ps : List ℕ) → begun_before c (tree_in older) ps ≡ begun_before c (tree_in (n ∷ older)) ps
    still below [] = refl
    still below (p ∷ ps) = test (nat_lt p c) refl
      where
        test : (t : Bool) → nat_lt p c ≡ t → cond t (tree_in older p) None ≡ cond t (tree_in (n ∷ older) p) None
        test true e =
            let less : p < c = grind (arith, nat_tests) in
            sym (cond-false (n.id == p) (folded n.ops (begun (tree_in older) n.parents)) (tree_in older p) (ne_eqb n.id p (λ same. omega (arith, same, below, less))))
        test false e = refl

    go : (t : Bool) → (n.id == c) ≡ t → cond t (Some n) (node_at older c) ≡ Some m
        → (node_at older c ≡ Some m → tree_in older c ≡ folded m.ops (begun_before c (tree_in older) m.parents))
        → tree_in (n ∷ older) c ≡ folded m.ops (begun_before c (tree_in (n ∷ older)) m.parents)
    go true is e more =
        let same : n ≡ m = same_Some n m e in
        let id : n.id ≡ c = eqb-true n.id c is in
        cond-true (n.id == c) (folded n.ops (begun (tree_in older) n.parents)) (tree_in older c) is
        ∙ ap (folded n.ops) (begins_alike low n.id older h.2 n refl n.parents)
        ∙ (λ i. folded (same i).ops (begun_before (id i) (tree_in (n ∷ older)) (same i).parents))
    go false is e more =
        cond-false (n.id == c) (folded n.ops (begun (tree_in older) n.parents)) (tree_in older c) is
        ∙ more e
        ∙ ap (folded m.ops) (still (found_below low n.id older h.2 c m e) m.parents)

-- ---- a commit by its parents and operations

module _ (events : List PlainEvent) (placed : ArePlaced 1 events) (c : ℕ) where
  abbrev pub links : Option (List ℕ × List FileOp)
  links = option_map links_of (node_at (past events) c)

  no_links : (o : Option Node) → None ≡ option_map links_of o → o ≡ None
  no_links None e = refl
  no_links (Some n) e = absurd cc

  pub has_no_tree : None ≡ links → tree events c ≡ None
  has_no_tree e = no_node (past events) c (no_links (node_at (past events) c) e)

  hangs : (parents : List ℕ) (ops : List FileOp) → Some (parents, ops) ≡ links → tree events c ≡ folded (ops_at events c) (begun_before c (tree events) parents)
  hangs parents ops e = go (node_at (past events) c) refl e
    where
      go : (o : Option Node) → node_at (past events) c ≡ o → Some (parents, ops) ≡ option_map links_of o → tree events c ≡ folded (ops_in o) (begun_before c (tree events) parents)
      go None is e = absurd cc
      go (Some n) is e =
          tree_found 1 (length events + 1) (past events) (falling 1 events placed) c n is
          ∙ ap (λ ps. folded n.ops (begun_before c (tree events) ps)) (sym (ap (λ (x : List ℕ × List FileOp). x.0) (same_Some (parents, ops) (n.parents, n.ops) e)))

  -- what is found is among the events
  found_here : (parents : List ℕ) (ops : List FileOp) → Some (parents, ops) ≡ links → c < next_id events
  found_here parents ops e = go (node_at (past events) c) refl e
    where
      go : (o : Option Node) → node_at (past events) c ≡ o → Some (parents, ops) ≡ option_map links_of o → c < next_id events
      go None is e = absurd cc
      go (Some n) is e = found_below 1 (length events + 1) (past events) (falling 1 events placed) c n is

  pub is_root : (ops : List FileOp) → Some ([], ops) ≡ links → (tree events c ≡ folded (ops_at events c) (Some [])) × (c < next_id events)
  is_root ops e = (hangs [] ops e, found_here [] ops e)

  module _ (p : ℕ) (ps : List ℕ) (ops : List FileOp) (e : Some (p ∷ ps, ops) ≡ links) where
    pub hangs_on : p < c → (tree events c ≡ folded (ops_at events c) (tree events p)) × (c < next_id events) × (p < c)
    hangs_on less =
        let is : nat_lt p c ≡ true = grind (arith, nat_tests) in (
          hangs (p ∷ ps) ops e ∙ ap (λ t. folded (ops_at events c) (cond t (tree events p) None)) is,
          found_here (p ∷ ps) ops e,
          less,
        )

    pub hangs_nowhere : c ≤ p → tree events c ≡ None
    hangs_nowhere more =
        let is : nat_lt p c ≡ false = grind (arith, nat_tests) in
        hangs (p ∷ ps) ops e ∙ ap (λ t. folded (ops_at events c) (cond t (tree events p) None)) is

-- ---- lists

pub is_empty_list : (xs : List ℕ) → length xs < 1 → [] ≡ xs
is_empty_list [] h = refl
is_empty_list (x ∷ xs) h = absurd (omega (arith, h))

pub begins_with : (xs : List ℕ) (x : ℕ) → 1 ≤ length xs → x ≡ get_or xs 0 x → x ∷ drop 1 xs ≡ xs
begins_with [] x h is = absurd (omega (arith, h))
begins_with (y ∷ ys) x h is = ap (λ z. z ∷ ys) is

-- one commit more at the old end of a line
pub along_more : (events : List PlainEvent) (line : List ℕ) (c : ℕ) (t : Option Tree) → along events (line ++ c ∷ []) t ≡ along events line (folded (ops_at events c) t)
along_more events [] c t = refl
along_more events (d ∷ line) c t = ap (folded (ops_at events d)) (along_more events line c t)

module _ (events : List PlainEvent) (at : ℕ) (base : Option Tree) (hangs : tree events at ≡ folded (ops_at events at) base) (here : at < next_id events) where
  folded_back : (line : List ℕ) → AreFolded events line (tree events at) → AreFolded events (line ++ at ∷ []) base
  folded_back [] h = (hangs, here, tt)
  folded_back (d ∷ line) h = (
    h.0 ∙ ap (along events (d ∷ line)) hangs ∙ sym (along_more events (d ∷ line) at base),
    h.1,
    folded_back line h.2,
  )

  -- a line that goes on to what its oldest commit hangs on
  pub goes_back : (c : ℕ) (line longer : List ℕ) → IsLine events c line (tree events at) → longer ≡ line ++ at ∷ [] → IsLine events c longer base
  goes_back c line longer so_far is = subst (λ (l : List ℕ). IsLine events c l base) (sym is) (record {
    newest = so_far.newest ∙ ap (along events line) hangs ∙ sym (along_more events line at base);
    each = folded_back line so_far.each;
  })

-- the commit at a place of a line, and its tree
pub tree_at : (events : List PlainEvent) (line : List ℕ) (m at : ℕ) (base : Option Tree) → m < length line → at ≡ get_or line m at
    → AreFolded events line base → IsEarlier events at (along events (drop m line) base)
tree_at events [] m at base within is h = absurd (omega (arith, within))
tree_at events (c ∷ line) zero at base within is h = subst (λ a. IsEarlier events a (along events (c ∷ line) base)) (sym is) (h.0, h.1)
tree_at events (c ∷ line) (suc m) at base within is h = tree_at events line m at base (omega (arith, within)) is h.2

-- the tree of a newer commit of a line
pub one_newer : (events : List PlainEvent) (line : List ℕ) (m at : ℕ) (base made new : Option Tree) → m < length line → at ≡ get_or line m at
    → made ≡ along events (drop (suc m) line) base → new ≡ folded (ops_at events at) made → new ≡ along events (drop m line) base
one_newer events [] m at base made new within is so_far after = absurd (omega (arith, within))
one_newer events (c ∷ line) zero at base made new within is so_far after = after ∙ (λ i. folded (ops_at events (is i)) (so_far i))
one_newer events (c ∷ line) (suc m) at base made new within is so_far after = one_newer events line m at base made new (omega (arith, within)) is so_far after
