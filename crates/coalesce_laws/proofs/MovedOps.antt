-- The operations after a coalescing are those before it.
use Rattle.std.proofs.Common.{◌≡◌, ℕ, ◌+◌, ◌≤◌, Bool, true, false, cond, List, [], ◌∷◌, ◌++◌, length, reverse, refl, sym, ap, ◌∙◌, inl, inr, arith, eq-eqb, append-nil, Option, Some, None, option_map}
use Rattle.std.specs.Prelude.{◌||◌, ◌==◌, flat_map, option_to_list}
use Rattle.std.specs.List.{AllByRecursion, list_any}
use Rattle.std.proofs.lemmas.Bool.{cases_Bool, cond-false, cond-true, or_left, or_right}
use Rattle.std.proofs.lemmas.List.{length-append, reverse-append}
use Rattle.std.proofs.lemmas.List.Concat.{flat_map-append}
use Rattle.plain_model.specs.declared.id.AnyId.{AnyId}
use Rattle.plain_model.specs.declared.id.AnyId.TheVariants as any
use Rattle.plain_model.specs.declared.operation.FileOp.{FileOp}
use Rattle.plain_model.specs.declared.event.PlainEvent.{PlainEvent}
use Rattle.plain_model.specs.declared.event.PlainEvent.TheVariants.{Blob, Commit, Tag, Reset, Pass}
use Rattle.plain_model.specs.Histories.{Node, Past, nodes, past}
use Rattle.plain_model.specs.Lookups.{children_of, event_parents, find_event, id_of, is_listed, own_child, same_id}
use Rattle.plain_model.specs.Soundness.{IsSound}
use Rattle.history_laws.specs.FirstParents.{ops_along}
use Rattle.history_laws.proofs.Commits.{nodes_append}
use Rattle.ancestry_laws.proofs.Pasts.{any_reverse, linked_past}
use Rattle.edit_laws.specs.Parts.{one_if, tally}
use Rattle.edit_laws.specs.Removal.{chain}
use Rattle.edit_laws.proofs.Lists.{tally_append}
use Rattle.edit_laws.proofs.Settles.{settled_sums}
use Rattle.edit_laws.proofs.Swept.{swept_nodes}
use Rattle.squash_laws.specs.Squash.{is_first}
use Rattle.squash_laws.specs.Removed.{Takings, all_left, is_removed, left_of, parents_after, without_set}
use Rattle.squash_laws.specs.Takings.{links, ops_after}
use Rattle.plain_model.specs.declared.policy.Push.TheVariants as push
use Rattle.squash_laws.proofs.Back.{kids_reversed}
use Rattle.squash_laws.proofs.Hung.{kids}
use Rattle.coalesce_laws.specs.Remaining.{HasTheOperationsOf, weigh}
use Rattle.coalesce_laws.proofs.Coalesced.{done, joins, new, set, single_nodes, single_past}
use Rattle.coalesce_laws.proofs.Joined.{joined}
use Rattle.coalesce_laws.proofs.Moved.{AreOnlyFirst, any_first, given, moved, none_waits, taken, weigh_append}
use Rattle.coalesce_laws.proofs.Single.{AreSingle, none_anew}

-- ---- sums

module _ (removed : ℕ → Bool) (count : FileOp → ℕ) where
  -- what the commits that stay had
  abbrev own_ops : Past → ℕ
  own_ops [] = 0
  own_ops (n ∷ ns) = cond (removed n.id) 0 (weigh count n.ops) + own_ops ns

  all_ops : (ns : Past) → given removed count ns + own_ops ns ≡ weigh count (ops_along ns)
  all_ops [] = refl
  all_ops (n ∷ ns) =
      let rest = all_ops ns in
      let parts = weigh_append count n.ops (ops_along ns) in
      elim (removed n.id) as (λ b. (cond b (weigh count n.ops) 0 + given removed count ns) + (cond b 0 (weigh count n.ops) + own_ops ns) ≡ weigh count (n.ops ++ ops_along ns)) [ true ↦ omega arith | false ↦ omega arith ]

  taken_append : (a xs ys : Past) → taken removed count a (xs ++ ys) ≡ taken removed count a xs + taken removed count a ys
  taken_append a [] ys = omega arith
  taken_append a (x ∷ xs) ys = let rest = taken_append a xs ys in omega arith

  taken_reversed : (a ns : Past) → taken removed count a (reverse ns) ≡ taken removed count a ns
  taken_reversed a [] = refl
  taken_reversed a (n ∷ ns) =
      let rest = taken_reversed a ns in
      let parts = taken_append a (reverse ns) (n ∷ []) in
      let whole : taken removed count a (reverse (n ∷ ns)) ≡ taken removed count a (reverse ns ++ n ∷ []) = ap (taken removed count a) (reverse-append (n ∷ []) ns) in
      omega arith

  given_append : (xs ys : Past) → given removed count (xs ++ ys) ≡ given removed count xs + given removed count ys
  given_append [] ys = omega arith
  given_append (x ∷ xs) ys = let rest = given_append xs ys in omega arith

  given_reversed : (ns : Past) → given removed count (reverse ns) ≡ given removed count ns
  given_reversed [] = refl
  given_reversed (n ∷ ns) =
      let rest = given_reversed ns in
      let parts = given_append (reverse ns) (n ∷ []) in
      let whole : given removed count (reverse (n ∷ ns)) ≡ given removed count (reverse ns ++ n ∷ []) = ap (given removed count) (reverse-append (n ∷ []) ns) in
      omega arith

-- the operations of each event
abbrev own_count : (FileOp → ℕ) → PlainEvent → ℕ
own_count count e = weigh count (ops_along (nodes (e ∷ [])))

counted : (count : FileOp → ℕ) (es : List PlainEvent) → tally (own_count count) es ≡ weigh count (ops_along (nodes es))
counted count [] = refl
counted count (e ∷ es) =
    let rest = counted count es in
    let parts : weigh count (ops_along (nodes (e ∷ es))) ≡ weigh count (ops_along (nodes (e ∷ [])) ++ ops_along (nodes es))
    = ap (weigh count) (ap ops_along (nodes_append (e ∷ []) es) ∙ flat_map-append (λ (n : Node). n.ops) (nodes (e ∷ [])) (nodes es)) in
    let sum = weigh_append count (ops_along (nodes (e ∷ []))) (ops_along (nodes es)) in
    omega arith

-- ---- children

-- children by first parents are children
kids_few : (p : ℕ) (es : List PlainEvent) → kids p (nodes es) ≤ length (children_of p es)
kids_few p [] = omega arith
kids_few p (Commit id mark branch author committer encoding comment parents ops aliases ∷ es) =
    let rest = kids_few p es in
    let own = each parents in
    let parts = length-append (own_child p (Commit id mark branch author committer encoding comment parents ops aliases)) (children_of p es) in
    omega arith
  where
    each : (ps : List ℕ) → one_if (is_first p ps) ≤ length (cond (list_any (λ q. q == p) ps) (id ∷ []) [])
    each [] = omega arith
    each (q ∷ qs) = elim (q == p) as (λ b. one_if b ≤ length (cond (b || list_any (λ r. r == p) qs) (id ∷ []) [])) [ true ↦ omega arith | false ↦ omega arith ]
kids_few p (Blob id mark bytes ∷ es) = kids_few p es
kids_few p (Tag id name target tagger comment mark ∷ es) = kids_few p es
kids_few p (Reset id branch target ∷ es) = kids_few p es
kids_few p (Pass id line ∷ es) = kids_few p es

-- an event with this one parent is a child by first parents
first_there : (c : ℕ) (es : List PlainEvent) (id : AnyId) (e : PlainEvent) → find_event id es ≡ Some e → event_parents e ≡ c ∷ [] →
    any_first (nodes es) c ≡ true
first_there c [] id e f p = absurd cc
first_there c (x ∷ es) id e f p =
    elim (cases_Bool (same_id id (id_of x))) [
      | inl same ↦
          let is : ◌≡◌ {A = Option PlainEvent} (Some x) (Some e) = sym (cond-true (same_id id (id_of x)) (Some x) (find_event id es) same) ∙ f in
          here x (ap event_parents (some_same x e is) ∙ p)
      | inr other ↦ later x (first_there c es id e (sym (cond-false (same_id id (id_of x)) (Some x) (find_event id es) other) ∙ f) p)
    ]
  where
    some_same : (a b : PlainEvent) → ◌≡◌ {A = Option PlainEvent} (Some a) (Some b) → a ≡ b
    some_same a b h = cc

    no_parents : {X : Type 0} → ◌≡◌ {A = List ℕ} [] (c ∷ []) → X
    no_parents h = absurd cc

    here : (x : PlainEvent) → event_parents x ≡ c ∷ [] → any_first (nodes (x ∷ es)) c ≡ true
    here (Commit id mark branch author committer encoding comment parents ops aliases) h =
        or_left (is_first c parents) (any_first (nodes es) c) (ap (is_first c) h ∙ eq-eqb c c refl)
    here (Blob id mark bytes) h = no_parents h
    here (Tag id name target tagger comment mark) h = no_parents h
    here (Reset id branch target) h = no_parents h
    here (Pass id line) h = no_parents h

    later : (x : PlainEvent) → any_first (nodes es) c ≡ true → any_first (nodes (x ∷ es)) c ≡ true
    later (Commit id mark branch author committer encoding comment parents ops aliases) h = or_right (is_first c parents) (any_first (nodes es) c) h
    later (Blob id mark bytes) h = h
    later (Tag id name target tagger comment mark) h = h
    later (Reset id branch target) h = h
    later (Pass id line) h = h

-- ---- the whole history

module _ (seconds : ℕ) (sel : List AnyId) (events : List PlainEvent) (h : IsSound events) where
  abbrev its_set : List AnyId
  its_set = set seconds sel events h

  abbrev its_joins : Takings
  its_joins = joins seconds sel events h

  only_first : AreOnlyFirst (is_removed its_set) (past events)
  only_first p gone =
      let j = joined seconds sel events h p gone in
      let few = kids_few p events in
      let one : length (children_of p events) ≡ 1 = ap (λ (l : List ℕ). length l) j.only in
      let same : kids p (past events) ≡ kids p (nodes events) = kids_reversed p (nodes events) in
      omega arith

  some_first : (p : ℕ) → is_removed its_set p ≡ true → any_first (past events) p ≡ true
  some_first p gone =
      let j = joined seconds sel events h p gone in
      any_reverse (λ (m : Node). is_first p m.parents) (nodes events) ∙ first_there p events (id_of j.child) j.child j.there j.parent

  module _ (count : FileOp → ℕ) where
    none_here : (e : PlainEvent) → nodes (e ∷ []) ≡ [] → (gone : Bool) → tally (own_count count) (cond gone [] (e ∷ [])) ≡ 0
    none_here e h true = refl
    none_here e h false = let none : own_count count e ≡ 0 = ap (λ (ns : List Node). weigh count (ops_along ns)) h in omega arith

    none_moved : (gone : Bool) (f : ℕ → PlainEvent) (o : Option ℕ) → ((t : ℕ) → nodes (f t ∷ []) ≡ []) → tally (own_count count) (cond gone [] (option_to_list (option_map f o))) ≡ 0
    none_moved true f o h = refl
    none_moved false f None h = refl
    none_moved false f (Some t) h = let none : own_count count (f t) ≡ 0 = ap (λ (ns : List Node). weigh count (ops_along ns)) (h t) in omega arith

    ops_left : (es : List PlainEvent) → AllByRecursion (λ (n : Node). AreSingle (is_removed its_set) n.parents) (nodes es) →
        tally (own_count count) (flat_map (left_of its_set events its_joins) es)
        ≡ taken (is_removed its_set) count (past events) (nodes es) + own_ops (is_removed its_set) count (nodes es)
    ops_left [] a = refl
    ops_left (Commit id mark branch author committer encoding comment parents ops aliases ∷ es) a =
        let rest = ops_left es a.1 in
        let e : PlainEvent = Commit id mark branch author committer encoding comment (parents_after its_set events its_joins parents) (ops_after its_set events push.Forward id parents ops) aliases in
        let parts = tally_append (own_count count) (cond (is_removed its_set id) [] (e ∷ [])) (flat_map (left_of its_set events its_joins) es) in
        let own = one (is_removed its_set id) e refl in
        omega arith
      where
        its : weigh count (ops_after its_set events push.Forward id parents ops) ≡ weigh count (ops_along (chain (is_removed its_set) (past events) parents)) + weigh count ops
        its =
            ap (λ (o : List FileOp). weigh count (o ++ (ops_along (links its_set events parents) ++ ops))) (none_anew (is_removed its_set) (past events) (single_past seconds sel events h) parents a.0)
            ∙ weigh_append count (ops_along (links its_set events parents)) ops

        one : (gone : Bool) (e : PlainEvent) → nodes (e ∷ []) ≡ record { id = id; parents = parents_after its_set events its_joins parents; ops = ops_after its_set events push.Forward id parents ops } ∷ []
            → tally (own_count count) (cond gone [] (e ∷ [])) ≡ cond gone 0 (weigh count (ops_along (chain (is_removed its_set) (past events) parents))) + cond gone 0 (weigh count ops)
        one true e is = omega arith
        one false e is =
            let all : own_count count e ≡ weigh count (ops_after its_set events push.Forward id parents ops)
            = ap (λ (ns : List Node). weigh count (ops_along ns)) is ∙ ap (weigh count) (append-nil (ops_after its_set events push.Forward id parents ops)) in
            let sum = its in
            omega arith
    ops_left (Blob id mark bytes ∷ es) a = let rest = ops_left es a in omega arith
    ops_left (Tag id name target tagger comment mark ∷ es) a =
        let rest = ops_left es a in
        let parts = tally_append (own_count count) (left_of its_set events its_joins (Tag id name target tagger comment mark)) (flat_map (left_of its_set events its_joins) es) in
        let none = none_moved (is_listed (any.Tag id) its_set) (λ t. Tag id name t tagger comment mark) (its_joins.target target) (λ t. refl) in
        omega arith
    ops_left (Reset id branch None ∷ es) a =
        let rest = ops_left es a in
        let parts = tally_append (own_count count) (left_of its_set events its_joins (Reset id branch None)) (flat_map (left_of its_set events its_joins) es) in
        let none = none_here (Reset id branch None) refl (is_listed (any.Reset id) its_set) in
        omega arith
    ops_left (Reset id branch (Some target) ∷ es) a =
        let rest = ops_left es a in
        let parts = tally_append (own_count count) (left_of its_set events its_joins (Reset id branch (Some target))) (flat_map (left_of its_set events its_joins) es) in
        let none = none_moved (is_listed (any.Reset id) its_set) (λ t. Reset id branch (Some t)) (its_joins.target target) (λ t. refl) in
        omega arith
    ops_left (Pass id line ∷ es) a =
        let rest = ops_left es a in
        let parts = tally_append (own_count count) (left_of its_set events its_joins (Pass id line)) (flat_map (left_of its_set events its_joins) es) in
        let none = none_here (Pass id line) refl (is_listed (any.Pass id) its_set) in
        omega arith

  pub same_operations : HasTheOperationsOf events (new seconds sel events h)
  same_operations count =
      let left = all_left its_set events its_joins in
      let after = counted count (new seconds sel events h) in
      let settled = settled_sums (without_set its_set events its_joins) (new seconds sel events h) (done seconds sel events h) (own_count count) in
      let swept = counted count (without_set its_set events its_joins) in
      let same : weigh count (ops_along (nodes (without_set its_set events its_joins))) ≡ weigh count (ops_along (nodes left)) = ap (λ (ns : List Node). weigh count (ops_along ns)) (swept_nodes events left) in
      let before = counted count left in
      let sums = ops_left count events (single_nodes seconds sel events h) in
      let all_moved = moved (is_removed its_set) count (past events) (past events) (linked_past events h) only_first (λ p. omega arith) in
      let none = none_waits (is_removed its_set) count (past events) (past events) some_first in
      let reversed = taken_reversed (is_removed its_set) count (past events) (nodes events) in
      let had = given_reversed (is_removed its_set) count (nodes events) in
      let all = all_ops (is_removed its_set) count (nodes events) in
      omega arith
