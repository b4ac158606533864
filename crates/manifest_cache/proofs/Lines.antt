-- A commit's tree is its line folded, and its line is that of its first parent with the commit after it.
use Rattle.std.proofs.Common.{◌≡◌, ℕ, false, List, [], ◌∷◌, ◌++◌, Option, Some, None, refl, sym, ap, subst, ◌∙◌, inl, inr, append_assoc, append-nil, reverse, eq-eqb, suc, arith, length-append}
use Rattle.std.specs.Prelude.{◌==◌, ◌||◌, IsSome, option_and_then, option_map}
use Rattle.std.proofs.lemmas.Bool.{cases_Bool, or_parts, true≢false}
use Rattle.std.proofs.lemmas.List.{reverse-append}
use Rattle.std.proofs.lemmas.List.Concat.{flat_map-append}
use Rattle.std.proofs.lemmas.Option.{none-some, same_Some}
use Rattle.plain_model.specs.declared.id.AnyId.{AnyId}
use Rattle.plain_model.specs.declared.id.AnyId.TheVariants as any
use Rattle.plain_model.specs.declared.operation.FileOp.{FileOp}
use Rattle.plain_model.specs.declared.event.PlainEvent.{PlainEvent}
use Rattle.plain_model.specs.declared.event.PlainEvent.TheVariants.{Blob, Commit, Tag, Reset, Pass}
use Rattle.plain_model.specs.Histories.{Node, Past, begun, folded, knows, nodes, past, tree, tree_in}
use Rattle.plain_model.specs.Lookups.{event_ops, event_parents, find_event, id_of, same_id}
use Rattle.plain_model.specs.Trees.{Tree}
use Rattle.plain_model.proofs.Numbers.{eqb_turned}
use Rattle.history_laws.proofs.Commits.{nodes_append, unknown_both}
use Rattle.history_laws.proofs.Ids.{absent_cons, same_id_true}
use Rattle.history_laws.proofs.LineLaws.{folded_more}
use Rattle.history_laws.specs.Once.{AreDistinct}
use Rattle.manifest_cache.specs.Lines.{Line, line, line_before, line_in, ops_of, size}

-- ---- trees

-- the tree that a line makes
abbrev pub tree_along : Option Line → Option Tree
tree_along o = option_and_then (λ l. folded (ops_of l) (Some [])) o

-- one commit more on a line
abbrev pub with_commit : ℕ → List FileOp → Option Line → Option Line
with_commit c ops o = option_map (λ l. l ++ (c, ops) ∷ []) o

-- its operations come last
pub ops_more : (l : Line) (c : ℕ) (ops : List FileOp) → ops_of (l ++ (c, ops) ∷ []) ≡ ops_of l ++ ops
ops_more l c ops = flat_map-append (λ (x : ℕ × List FileOp). x.1) l ((c, ops) ∷ []) ∙ ap (λ (os : List FileOp). ops_of l ++ os) (append-nil ops)

-- its tree is made of the tree before it
pub tree_more : (o : Option Line) (c : ℕ) (ops : List FileOp) → tree_along (with_commit c ops o) ≡ folded ops (tree_along o)
tree_more None c ops = refl
tree_more (Some l) c ops = ap (λ (os : List FileOp). folded os (Some [])) (ops_more l c ops) ∙ folded_more (ops_of l) ops (Some [])

-- a line with one commit more is longer by one
pub size_more : (o : Option Line) (c : ℕ) (ops : List FileOp) → IsSome (with_commit c ops o) → size (with_commit c ops o) ≡ suc (size o)
size_more None c ops there = absurd (true≢false (sym there))
size_more (Some l) c ops there = let n = length-append l ((c, ops) ∷ []) in omega (arith, n)

-- a line with a commit is there where that before it is
pub before_there : (o : Option Line) (c : ℕ) (ops : List FileOp) → IsSome (with_commit c ops o) → IsSome o
before_there None c ops h = absurd (true≢false (sym h))
before_there (Some l) c ops h = refl

begun_along : (older : Past) → ((p : ℕ) → tree_in older p ≡ tree_along (line_in older p)) → (ps : List ℕ)
    → begun (tree_in older) ps ≡ tree_along (line_before (line_in older) ps)
begun_along older h [] = refl
begun_along older h (p ∷ ps) = h p

tree_line_in : (older : Past) (c : ℕ) → tree_in older c ≡ tree_along (line_in older c)
tree_line_in [] c = refl
tree_line_in (n ∷ older) c = elim (cases_Bool (n.id == c)) [
  | inl same ↦ rw same (
      ap (folded n.ops) (begun_along older (λ p. tree_line_in older p) n.parents)
      ∙ sym (tree_more (line_before (line_in older) n.parents) n.id n.ops)
      )
  | inr other ↦ rw other (tree_line_in older c)
]

-- any commit's tree is its line, folded from the empty tree
pub tree_line : (events : List PlainEvent) (c : ℕ) → tree events c ≡ tree_along (line events c)
tree_line events c = tree_line_in (past events) c

-- what makes a tree is a line
pub line_of_tree : (o : Option Line) → IsSome (tree_along o) → IsSome o
line_of_tree None h = absurd (true≢false (sym h))
line_of_tree (Some l) h = refl

-- ---- what is later doesn't count

skip : (a b : Past) (c : ℕ) → knows a c ≡ false → line_in (a ++ b) c ≡ line_in b c
skip [] b c h = refl
skip (n ∷ a) b c h = let parts = or_parts (n.id == c) (knows a c) h in rw parts.0 (skip a b c parts.1)

pub past_append : (xs ys : List PlainEvent) → past (xs ++ ys) ≡ past ys ++ past xs
past_append xs ys = ap reverse (nodes_append xs ys) ∙ reverse-append (nodes xs) (nodes ys)

pub unknown : (ys : List PlainEvent) (c : ℕ) → find_event (any.Commit c) ys ≡ None → knows (past ys) c ≡ false
unknown [] c h = refl
unknown (Blob id mark bytes ∷ ys) c h = unknown ys c h
unknown (Tag id name target tagger comment mark ∷ ys) c h = unknown ys c h
unknown (Reset id branch target ∷ ys) c h = unknown ys c h
unknown (Pass id line ∷ ys) c h = unknown ys c h
unknown (Commit id mark branch author committer encoding comment parents ops aliases ∷ ys) c h =
    let n : Node = record { id = id; parents = parents; ops = ops } in
    let rest = absent_cons (any.Commit c) (Commit id mark branch author committer encoding comment parents ops aliases) ys h in
    ap (λ (p : Past). knows p c) (reverse-append (n ∷ []) (nodes ys))
    ∙ unknown_both (past ys) (n ∷ []) c (unknown ys c rest.1) (ap (λ t. t || false) (eqb_turned id c ∙ rest.0))

-- where a commit isn't among later events, its line doesn't look at them
pub line_front : (xs ys : List PlainEvent) (c : ℕ) → find_event (any.Commit c) ys ≡ None → line (xs ++ ys) c ≡ line xs c
line_front xs ys c h = ap (λ (p : Past). line_in p c) (past_append xs ys) ∙ skip (past ys) (past xs) c (unknown ys c h)

-- the line of a commit between other events
pub line_here : (xs ys : List PlainEvent) (e : PlainEvent) (c : ℕ) → any.Commit c ≡ id_of e → find_event (any.Commit c) ys ≡ None
    → line (xs ++ e ∷ ys) c ≡ with_commit c (event_ops e) (line_before (line xs) (event_parents e))
line_here xs ys (Blob id mark bytes) c is h = cc
line_here xs ys (Tag id name target tagger comment mark) c is h = cc
line_here xs ys (Reset id branch target) c is h = cc
line_here xs ys (Pass id line) c is h = cc
line_here xs ys (Commit id mark branch author committer encoding comment parents ops aliases) c is h =
    let e = Commit id mark branch author committer encoding comment parents ops aliases in
    let n : Node = record { id = id; parents = parents; ops = ops } in
    let same : c ≡ id = cc in
    ap (λ (es : List PlainEvent). line es c) (sym (append_assoc xs (e ∷ []) ys))
    ∙ line_front (xs ++ e ∷ []) ys c h
    ∙ ap (λ (p : Past). line_in p c) (past_append xs (e ∷ []))
    ∙ last n same
  where
    last : (n : Node) → c ≡ n.id → line_in (n ∷ past xs) c ≡ with_commit c n.ops (line_before (line xs) n.parents)
    last n same = subst (λ k. line_in (n ∷ past xs) k ≡ with_commit k n.ops (line_before (line xs) n.parents)) (sym same) (rw (eq-eqb n.id n.id refl) refl)

-- ---- an event among others

-- what is found has events before and after it
pub found_split : (id : AnyId) (es : List PlainEvent) (e : PlainEvent) → find_event id es ≡ Some e
    → (xs : List PlainEvent) × (ys : List PlainEvent) × (es ≡ xs ++ e ∷ ys)
found_split id [] e h = absurd (none-some e h)
found_split id (x ∷ es) e h = elim (cases_Bool (same_id id (id_of x))) [
  | inl it ↦ ([], es, ap (λ (z : PlainEvent). z ∷ es) (same_Some x e (rw it at h)))
  | inr no_it ↦ let r = found_split id es e (rw no_it at h) in (x ∷ r.0, r.1, ap (λ (zs : List PlainEvent). x ∷ zs) r.2)
]

find_back : (xs zs : List PlainEvent) (id : AnyId) → find_event id (xs ++ zs) ≡ None → find_event id zs ≡ None
find_back [] zs id h = h
find_back (x ∷ xs) zs id h = find_back xs zs id (absent_cons id x (xs ++ zs) h).1

-- what is found in front isn't found later
pub after_found : (xs zs : List PlainEvent) (id : AnyId) → AreDistinct (xs ++ zs) → IsSome (find_event id xs) → find_event id zs ≡ None
after_found [] zs id d there = absurd (true≢false (sym there))
after_found (x ∷ xs) zs id d there = elim (cases_Bool (same_id id (id_of x))) [
  | inl it ↦ find_back xs zs id (ap (λ i. find_event i (xs ++ zs)) (same_id_true id (id_of x) it) ∙ d.0)
  | inr no_it ↦ after_found xs zs id d.1 (rw no_it at there)
]

-- nor does the event itself come again
pub not_again : (xs ys : List PlainEvent) (e : PlainEvent) → AreDistinct (xs ++ e ∷ ys) → find_event (id_of e) ys ≡ None
not_again [] ys e d = d.0
not_again (x ∷ xs) ys e d = not_again xs ys e d.1
