-- Operations only move: what the commits that stay take over is what the removed ones had, by any count, where each
-- removed commit is the first parent of exactly one.
use Rattle.std.proofs.Common.{◌≡◌, ℕ, ◌+◌, ◌≤◌, Bool, true, false, cond, not, List, [], ◌∷◌, ◌++◌, refl, sym, ap, ◌∙◌, inl, inr, arith, eqb-true, eq-eqb, true≢false, IsTrue}
use Rattle.std.specs.Prelude.{◌||◌, ◌&&◌, ◌==◌}
use Rattle.std.specs.List.{AllByRecursion, list_any}
use Rattle.std.proofs.lemmas.Bool.{cases_Bool, or_from, or_left, cond-true, cond-false}
use Rattle.std.proofs.Math.Bool.{and-false}
use Rattle.plain_model.specs.declared.operation.FileOp.{FileOp}
use Rattle.plain_model.specs.Histories.{IsLinkedPast, Node, Past, knows}
use Rattle.history_laws.specs.FirstParents.{ops_along}
use Rattle.history_laws.proofs.LineLaws.{along_more, first_known}
use Rattle.edit_laws.specs.Parts.{one_if}
use Rattle.edit_laws.specs.Removal.{chain}
use Rattle.edit_laws.proofs.Chains.{chain_gone}
use Rattle.edit_laws.proofs.Following.{chain_later, chain_none}
use Rattle.edit_laws.proofs.Trees.{known_later}
use Rattle.squash_laws.specs.Squash.{is_first}
use Rattle.squash_laws.proofs.Hung.{kids}
use Rattle.coalesce_laws.specs.Remaining.{weigh}

pub weigh_append : (count : FileOp → ℕ) (xs ys : List FileOp) → weigh count (xs ++ ys) ≡ weigh count xs + weigh count ys
weigh_append count [] ys = omega arith
weigh_append count (x ∷ xs) ys = let rest = weigh_append count xs ys in omega arith

-- a commit of the list has it as its first parent
abbrev pub any_first : Past → ℕ → Bool
any_first a p = list_any (λ m. is_first p m.parents) a

no_first : (a : Past) (p : ℕ) → kids p a ≤ 0 → any_first a p ≡ false
no_first [] p h = refl
no_first (m ∷ a) p h =
    elim (cases_Bool (is_first p m.parents)) [
      | inl it ↦ let one : one_if (is_first p m.parents) ≡ 1 = ap one_if it in absurd (omega arith)
      | inr other ↦ or_from (is_first p m.parents) (any_first a p) other (no_first a p (omega arith))
    ]

-- a removed commit is the first parent of one commit at most
abbrev pub AreOnlyFirst : (ℕ → Bool) → Past → Type 0
AreOnlyFirst removed whole = (p : ℕ) → removed p ≡ true → kids p whole ≤ 1

module _ (removed : ℕ → Bool) (count : FileOp → ℕ) where
  -- what comes along the chain
  abbrev along : Past → List ℕ → ℕ
  along a ps = weigh count (ops_along (chain removed a ps))

  -- what the commits that stay take over
  abbrev pub taken : Past → Past → ℕ
  taken a [] = 0
  taken a (n ∷ ns) = cond (removed n.id) 0 (along a n.parents) + taken a ns

  -- what removed commits have of which no commit is a child by first parents
  abbrev pub waiting : Past → Past → ℕ
  waiting a [] = 0
  waiting a (n ∷ ns) = cond (removed n.id && not (any_first a n.id)) (along a (n.id ∷ [])) 0 + waiting a ns

  -- what removed commits had
  abbrev pub given : Past → ℕ
  given [] = 0
  given (n ∷ ns) = cond (removed n.id) (weigh count n.ops) 0 + given ns

  -- what a child by first parents takes of what waited
  abbrev dropped : Past → List ℕ → Past → ℕ
  dropped a ps [] = 0
  dropped a ps (n ∷ ns) = cond (removed n.id && not (any_first a n.id) && is_first n.id ps) (along a (n.id ∷ [])) 0 + dropped a ps ns

  -- each commit of the list stands in the past
  abbrev Stand : Past → Node → Type 0
  Stand older m = (knows older m.id ≡ true) × AllByRecursion (λ p. IsTrue (knows older p)) m.parents

  first_alone : (a : Past) (p : ℕ) (ps : List ℕ) → chain removed a (p ∷ ps) ≡ chain removed a (p ∷ [])
  first_alone [] p ps = refl
  first_alone (n ∷ older) p ps = ap (λ (l : List Node). cond (n.id == p) (cond (removed p) (chain removed older n.parents ++ n ∷ []) []) l) (first_alone older p ps)

  module _ (n : Node) (older : Past) (fresh : knows older n.id ≡ false) where
    taken_later : (ns : Past) → AllByRecursion (Stand older) ns → taken (n ∷ older) ns ≡ taken older ns
    taken_later [] a = refl
    taken_later (m ∷ ns) a = λ i. cond (removed m.id) 0 (weigh count (ops_along (chain_later removed n older fresh m.parents (first_known older m.parents a.0.1) i))) + taken_later ns a.1 i

    -- the terms of one commit that waits, or is taken
    one_term : (r w t : Bool) (x y : ℕ) → x ≡ y → cond (r && not (t || w)) x 0 + cond (r && not w && t) y 0 ≡ cond (r && not w) y 0
    one_term true true true x y e = omega arith
    one_term true true false x y e = omega arith
    one_term true false true x y e = omega arith
    one_term true false false x y e = omega arith
    one_term false w t x y e = omega arith

    waiting_later : (ns : Past) → AllByRecursion (Stand older) ns → waiting (n ∷ older) ns + dropped older n.parents ns ≡ waiting older ns
    waiting_later [] a = omega arith
    waiting_later (m ∷ ns) a =
        let rest = waiting_later ns a.1 in
        let same : along (n ∷ older) (m.id ∷ []) ≡ along older (m.id ∷ []) = ap (λ (l : List Node). weigh count (ops_along l)) (chain_later removed n older fresh (m.id ∷ []) a.0.0) in
        let own = one_term (removed m.id) (any_first older m.id) (is_first m.id n.parents) (along (n ∷ older) (m.id ∷ [])) (along older (m.id ∷ [])) same in
        omega arith

  -- nothing is taken of commits that aren't the first parent
  drops_none : (a : Past) (p : ℕ) (ps : List ℕ) (ns : Past) → knows ns p ≡ false → dropped a (p ∷ ps) ns ≡ 0
  drops_none a p ps [] h = refl
  drops_none a p ps (m ∷ ns) h =
      elim (cases_Bool (m.id == p)) [
        | inl it ↦ absurd (true≢false (sym (or_left (m.id == p) (knows ns p) it) ∙ h))
        | inr other ↦
            let rest = drops_none a p ps ns (sym (ap (λ b. b || knows ns p) other) ∙ h) in
            let own : cond (removed m.id && not (any_first a m.id) && is_first m.id (p ∷ ps)) (along a (m.id ∷ [])) 0 ≡ 0 = none m.id (turned p m.id other) in
            omega arith
      ]
    where
      turned : (x y : ℕ) → (y == x) ≡ false → (x == y) ≡ false
      turned x y h = elim (cases_Bool (x == y)) [
        | inl it ↦ absurd (true≢false (sym (eq-eqb y x (sym (eqb-true x y it))) ∙ h))
        | inr apart ↦ apart
      ]

      none : (c : ℕ) → (p == c) ≡ false → cond (removed c && not (any_first a c) && (p == c)) (along a (c ∷ [])) 0 ≡ 0
      none c h = λ i. cond (both (removed c) (not (any_first a c)) (p == c) h i) (along a (c ∷ [])) 0
        where
          both : (x y z : Bool) → z ≡ false → x && y && z ≡ false
          both true true z e = e
          both true false z e = refl
          both false y z e = refl

  -- of the first parent it takes what waits there
  drops_one : (a : Past) (p : ℕ) (ps : List ℕ) (ns : Past) → IsLinkedPast ns → knows ns p ≡ true → removed p ≡ true →
      any_first a p ≡ false → dropped a (p ∷ ps) ns ≡ along a (p ∷ [])
  drops_one a p ps [] s h r w = absurd (true≢false (sym h))
  drops_one a p ps (m ∷ ns) s h r w =
      elim (cases_Bool (m.id == p)) [
        | inl it ↦
            let is = eqb-true m.id p it in
            let own : cond (removed m.id && not (any_first a m.id) && is_first m.id (p ∷ ps)) (along a (m.id ∷ [])) 0 ≡ along a (p ∷ [])
            = ap (λ x. cond (removed x && not (any_first a x) && is_first x (p ∷ ps)) (along a (x ∷ [])) 0) is ∙ all_true (eq-eqb p p refl) in
            let rest = drops_none a p ps ns (sym (ap (knows ns) is) ∙ s.0) in
            omega arith
        | inr other ↦
            let rest = drops_one a p ps ns s.2 (sym (ap (λ b. b || knows ns p) other) ∙ h) r w in
            let alone = drops_none a p ps (m ∷ []) (ap (λ b. b || false) other) in
            omega arith
      ]
    where
      all_true : (p == p) ≡ true → cond (removed p && not (any_first a p) && (p == p)) (along a (p ∷ [])) 0 ≡ along a (p ∷ [])
      all_true same = λ i. cond (r i && not (w i) && same i) (along a (p ∷ [])) 0

  -- and of one that stays it takes nothing
  drops_kept : (a : Past) (p : ℕ) (ps : List ℕ) (ns : Past) → removed p ≡ false → dropped a (p ∷ ps) ns ≡ 0
  drops_kept a p ps [] r = refl
  drops_kept a p ps (m ∷ ns) r =
      let rest = drops_kept a p ps ns r in
      let own : cond (removed m.id && not (any_first a m.id) && (p == m.id)) (along a (m.id ∷ [])) 0 ≡ 0 = elim (cases_Bool (p == m.id)) [
        | inl it ↦ ap (λ b. cond (b && not (any_first a m.id) && (p == m.id)) (along a (m.id ∷ [])) 0) (sym (ap removed (eqb-true p m.id it)) ∙ r)
        | inr other ↦ (λ i. cond (none (removed m.id) (not (any_first a m.id)) (p == m.id) other i) (along a (m.id ∷ [])) 0)
      ] in
      omega arith
    where
      none : (x y z : Bool) → z ≡ false → x && y && z ≡ false
      none true true z e = e
      none true false z e = refl
      none false y z e = refl

  drops_root : (a ns : Past) → dropped a [] ns ≡ 0
  drops_root a [] = refl
  drops_root a (m ∷ ns) =
      let rest = drops_root a ns in
      let own : cond (removed m.id && not (any_first a m.id) && false) (along a (m.id ∷ [])) 0 ≡ 0
      = (λ i. cond (none (removed m.id) (not (any_first a m.id)) i) (along a (m.id ∷ [])) 0) in
      omega arith
    where
      none : (x y : Bool) → x && y && false ≡ false
      none true y = and-false y
      none false y = refl

  -- ---- one commit more

  all_stand : (older : Past) → IsLinkedPast older → AllByRecursion (Stand older) older
  all_stand [] s = tt
  all_stand (n ∷ older) s =
      ((or_left (n.id == n.id) (knows older n.id) (eq-eqb n.id n.id refl), later n.parents s.1), each older (all_stand older s.2))
    where
      later : (ps : List ℕ) → AllByRecursion (λ p. IsTrue (knows older p)) ps → AllByRecursion (λ p. IsTrue (knows (n ∷ older) p)) ps
      later [] k = tt
      later (p ∷ ps) k = (known_later n older p k.0, later ps k.1)

      each : (ms : Past) → AllByRecursion (Stand older) ms → AllByRecursion (Stand (n ∷ older)) ms
      each [] a = tt
      each (m ∷ ms) a = ((known_later n older m.id a.0.0, later m.parents a.0.1), each ms a.1)

  -- what a commit takes has waited
  takes_waiting : (n : Node) (older whole : Past) → IsLinkedPast older → AllByRecursion (λ p. IsTrue (knows older p)) n.parents →
      AreOnlyFirst removed whole → ((p : ℕ) → kids p (n ∷ older) ≤ kids p whole) → along older n.parents ≡ dropped older n.parents older
  takes_waiting n older whole s known only part = go n.parents refl known
    where
      go : (ps : List ℕ) → n.parents ≡ ps → AllByRecursion (λ p. IsTrue (knows older p)) ps → along older ps ≡ dropped older ps older
      go [] e k =
          let none : along older [] ≡ 0 = ap (λ (l : List Node). weigh count (ops_along l)) (no_chain older) in
          let other = drops_root older older in
          omega arith
        where
          no_chain : (a : Past) → chain removed a [] ≡ []
          no_chain [] = refl
          no_chain (m ∷ a) = refl
      go (p ∷ ps) e k =
          let same : along older (p ∷ ps) ≡ along older (p ∷ []) = ap (λ (l : List Node). weigh count (ops_along l)) (first_alone older p ps) in
          elim (cases_Bool (removed p)) [
            | inl gone ↦
                let one = only p gone in
                let more = part p in
                let own : one_if (is_first p n.parents) ≡ 1 = ap (λ (qs : List ℕ). one_if (is_first p qs)) e ∙ ap one_if (eq-eqb p p refl) in
                let term = drops_one older p ps older s k.0 gone (no_first older p (omega arith)) in
                omega arith
            | inr stays ↦
                let none : along older (p ∷ ps) ≡ 0 = ap (λ (l : List Node). weigh count (ops_along l)) (chain_none removed older p ps stays) in
                let other = drops_kept older p ps older stays in
                omega arith
          ]

  -- nobody is a child of a commit that isn't there yet
  not_first_yet : (older : Past) (c : ℕ) → knows older c ≡ false → (ps : List ℕ) → AllByRecursion (λ p. IsTrue (knows older p)) ps → is_first c ps ≡ false
  not_first_yet older c fresh [] k = refl
  not_first_yet older c fresh (p ∷ ps) k = elim (cases_Bool (p == c)) [
    | inl it ↦ absurd (true≢false (sym k.0 ∙ ap (knows older) (eqb-true p c it) ∙ fresh))
    | inr other ↦ other
  ]

  no_kid_yet : (older ms : Past) (c : ℕ) → knows older c ≡ false → AllByRecursion (Stand older) ms → any_first ms c ≡ false
  no_kid_yet older [] c fresh a = refl
  no_kid_yet older (m ∷ ms) c fresh a = or_from (is_first c m.parents) (any_first ms c) (not_first_yet older c fresh m.parents a.0.1) (no_kid_yet older ms c fresh a.1)

  pub moved : (whole a : Past) → IsLinkedPast a → AreOnlyFirst removed whole → ((p : ℕ) → kids p a ≤ kids p whole) → taken a a + waiting a a ≡ given a
  moved whole [] s only part = omega arith
  moved whole (n ∷ older) s only part =
      let stand = all_stand older s.2 in
      let before = moved whole older s.2 only (λ p. let more = part p in omega arith) in
      let survivors = taken_later n older s.0 older stand in
      let left = waiting_later n older s.0 older stand in
      let takes = takes_waiting n older whole s.2 s.1 only part in
      let own_chain : along (n ∷ older) n.parents ≡ along older n.parents = ap (λ (l : List Node). weigh count (ops_along l)) (chain_later removed n older s.0 n.parents (first_known older n.parents s.1)) in
      let none_yet : any_first (n ∷ older) n.id ≡ false = or_from (is_first n.id n.parents) (any_first older n.id) (not_first_yet older n.id s.0 n.parents s.1) (no_kid_yet older older n.id s.0 stand) in
      elim (cases_Bool (removed n.id)) [
        | inl gone ↦
            let one : cond (removed n.id) 0 (along (n ∷ older) n.parents) ≡ 0 = cond-true (removed n.id) 0 (along (n ∷ older) n.parents) gone in
            let two : cond (removed n.id && not (any_first (n ∷ older) n.id)) (along (n ∷ older) (n.id ∷ [])) 0 ≡ along (n ∷ older) (n.id ∷ []) = (λ i. cond (gone i && not (none_yet i)) (along (n ∷ older) (n.id ∷ [])) 0) in
            let longer : along (n ∷ older) (n.id ∷ []) ≡ along older n.parents + weigh count n.ops =
            ap (λ (l : List Node). weigh count (ops_along l)) (chain_gone removed n older n.id [] (eq-eqb n.id n.id refl) gone)
            ∙ ap (weigh count) (along_more (chain removed older n.parents) n)
            ∙ weigh_append count (ops_along (chain removed older n.parents)) n.ops in
            let three : cond (removed n.id) (weigh count n.ops) 0 ≡ weigh count n.ops = cond-true (removed n.id) (weigh count n.ops) 0 gone in
            omega arith
        | inr stays ↦
            let one : cond (removed n.id) 0 (along (n ∷ older) n.parents) ≡ along (n ∷ older) n.parents = cond-false (removed n.id) 0 (along (n ∷ older) n.parents) stays in
            let two : cond (removed n.id && not (any_first (n ∷ older) n.id)) (along (n ∷ older) (n.id ∷ [])) 0 ≡ 0 = ap (λ x. cond (x && not (any_first (n ∷ older) n.id)) (along (n ∷ older) (n.id ∷ [])) 0) stays in
            let three : cond (removed n.id) (weigh count n.ops) 0 ≡ 0 = cond-false (removed n.id) (weigh count n.ops) 0 stays in
            omega arith
      ]

  -- where each removed commit of a list has such a child, nothing is left
  pub none_waits : (a ns : Past) → ((p : ℕ) → removed p ≡ true → any_first a p ≡ true) → waiting a ns ≡ 0
  none_waits a [] f = refl
  none_waits a (n ∷ ns) f =
      let rest = none_waits a ns f in
      let own : cond (removed n.id && not (any_first a n.id)) (along a (n.id ∷ [])) 0 ≡ 0 = elim (cases_Bool (removed n.id)) [
        | inl gone ↦ (λ i. cond (taken_up (removed n.id) (any_first a n.id) (f n.id gone) i) (along a (n.id ∷ [])) 0)
        | inr stays ↦ ap (λ b. cond (b && not (any_first a n.id)) (along a (n.id ∷ [])) 0) stays
      ] in
      omega arith
    where
      taken_up : (x y : Bool) → y ≡ true → x && not y ≡ false
      taken_up true y e = ap not e
      taken_up false y e = refl
