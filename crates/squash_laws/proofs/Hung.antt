-- The removed commits that hang on a commit: where no removed commit is a root, and each is its first parent's only child by
-- first parents, they are one line, and their operations lead from its tree to that of the last of them.
use Rattle.std.proofs.Common.{◌≡◌, ℕ, ◌+◌, ◌≤◌, Bool, true, false, cond, List, [], ◌∷◌, ◌++◌, refl, sym, ap, subst, ◌∙◌, inl, inr, ◌⊎◌, arith, eqb-true, eq-eqb, true≢false, Option, Some, None, IsTrue}
use Rattle.std.specs.Prelude.{◌||◌, ◌&&◌, ◌==◌, if◌then◌else◌}
use Rattle.std.specs.List.{AllByRecursion, list_any}
use Rattle.std.proofs.lemmas.Bool.{cases_Bool, or_cases, or_left, or_parts, or_right, and_from, and_parts, and_left, cond-true, cond-false}
use Rattle.plain_model.specs.declared.operation.FileOp.{FileOp}
use Rattle.plain_model.specs.Histories.{Node, Past, begun, folded, tree_in, knows, IsLinkedPast}
use Rattle.plain_model.specs.Trees.{Tree}
use Rattle.history_laws.specs.FirstParents.{ops_along}
use Rattle.edit_laws.specs.Parts.{one_if}
use Rattle.edit_laws.specs.Removal.{back}
use Rattle.edit_laws.proofs.Chains.{Leads, back_stays, expand_gone, expand_other, expand_stays, first_expanded, leads_all}
use Rattle.history_laws.proofs.LineLaws.{along_more, first_known, folded_more, known_before}
use Rattle.edit_laws.proofs.Trees.{known_later, not_fresh, tree_here, tree_other}
use Rattle.squash_laws.specs.Squash.{is_first}
use Rattle.squash_laws.specs.Takings.{is_it, last_of}

last_more : (c : ℕ) (ns : List Node) (n : Node) → last_of c (ns ++ n ∷ []) ≡ n.id
last_more c [] n = refl
last_more c (m ∷ ns) n = last_more m.id ns n

-- so many commits have it as their first parent
abbrev pub kids : ℕ → Past → ℕ
kids p [] = 0
kids p (n ∷ older) = one_if (is_first p n.parents) + kids p older

pub folded_none : (o : Option Tree) → folded [] o ≡ o
folded_none None = refl
folded_none (Some t) = refl

module _ (removed : ℕ → Bool) where
  -- the removed commits that hang on one, the oldest first
  abbrev pub hung : Past → ℕ → List Node
  hung [] c = []
  hung (n ∷ older) c = if removed n.id && is_it c (back removed older n.parents) then hung older c ++ n ∷ [] else hung older c

  -- a removed commit has it as its first parent
  abbrev pub has_kid : Past → ℕ → Bool
  has_kid a p = list_any (λ m. removed m.id && is_first p m.parents) a

  pub some_kids : (a : Past) (p : ℕ) → has_kid a p ≡ true → 1 ≤ kids p a
  some_kids [] p h = absurd (true≢false (sym h))
  some_kids (m ∷ a) p h =
      elim (or_cases (removed m.id && is_first p m.parents) (has_kid a p) h) [
        | inl here ↦ let one : one_if (is_first p m.parents) ≡ 1 = ap one_if (and_parts (removed m.id) (is_first p m.parents) here).1 in omega arith
        | inr later ↦ let rest = some_kids a p later in omega arith
      ]

  -- a removed commit has a first parent, and is its only child
  abbrev pub IsOnlyChild : Past → Node → Type 0
  IsOnlyChild whole m = removed m.id ≡ true → (p : ℕ) × (ps : List ℕ) × (m.parents ≡ p ∷ ps) × (kids p whole ≤ 1)

  -- ---- going back

  pub back_gone : (n : Node) (older : Past) (p : ℕ) (ps : List ℕ) → (n.id == p) ≡ true → removed p ≡ true → back removed (n ∷ older) (p ∷ ps) ≡ back removed older n.parents
  back_gone n older p ps same gone = cond-true (n.id == p) _ _ same ∙ cond-true (removed p) _ _ gone

  pub back_here : (n : Node) (older : Past) (p : ℕ) (ps : List ℕ) → (n.id == p) ≡ true → removed p ≡ false → back removed (n ∷ older) (p ∷ ps) ≡ Some p
  back_here n older p ps same stays = cond-true (n.id == p) _ _ same ∙ cond-false (removed p) _ _ stays

  pub back_other : (n : Node) (older : Past) (p : ℕ) (ps : List ℕ) → (n.id == p) ≡ false → back removed (n ∷ older) (p ∷ ps) ≡ back removed older (p ∷ ps)
  back_other n older p ps other = cond-false (n.id == p) _ _ other

  -- only the first parent counts
  pub back_first : (a : Past) (p : ℕ) (ps qs : List ℕ) → back removed a (p ∷ ps) ≡ back removed a (p ∷ qs)
  back_first [] p ps qs = refl
  back_first (n ∷ older) p ps qs = ap (λ (o : Option ℕ). cond (n.id == p) (cond (removed p) (back removed older n.parents) (Some p)) o) (back_first older p ps qs)

  -- what the first of the new parents is
  pub back_leads : (a : Past) (ps : List ℕ) (b : ℕ) → back removed a ps ≡ Some b → Leads (b ∷ []) (first_expanded removed a ps)
  back_leads [] [] b h = absurd cc
  back_leads [] (p ∷ ps) b h = absurd cc
  back_leads (n ∷ older) [] b h = absurd cc
  back_leads (n ∷ older) (p ∷ ps) b h =
      elim (cases_Bool (n.id == p)) [
        | inl same ↦ elim (cases_Bool (removed p)) [
          | inl gone ↦
              subst (Leads (b ∷ [])) (sym (expand_gone removed n older p same gone))
              (leads_all removed older (b ∷ []) n.parents (back_leads older n.parents b (sym (back_gone n older p ps same gone) ∙ h)))
          | inr stays ↦
              let is : ◌≡◌ {A = Option ℕ} (Some p) (Some b) = sym (back_here n older p ps same stays) ∙ h in
              let same_one : b ≡ p = cc in
              subst (Leads (b ∷ [])) (sym (expand_stays removed n older p same stays)) same_one
        ]
        | inr other ↦ subst (Leads (b ∷ [])) (sym (expand_other removed n older p other)) (back_leads older (p ∷ ps) b (sym (back_other n older p ps other) ∙ h))
      ]

  -- where no removed commit is a root, each commit goes back to one
  pub back_some : (whole a : Past) → IsLinkedPast a → AllByRecursion (IsOnlyChild whole) a → (p : ℕ) (ps : List ℕ) → knows a p ≡ true → (b : ℕ) × (back removed a (p ∷ ps) ≡ Some b)
  back_some whole [] s o p ps k = absurd (true≢false (sym k))
  back_some whole (n ∷ older) s o p ps k =
      elim (cases_Bool (n.id == p)) [
        | inl same ↦ elim (cases_Bool (removed p)) [
          | inl gone ↦
              let only = o.0 (subst (λ x. removed x ≡ true) (sym (eqb-true n.id p same)) gone) in
              let known = first_known older (only.0 ∷ only.1) (subst (AllByRecursion (λ q. IsTrue (knows older q))) only.2 s.1) in
              let rest = back_some whole older s.2 o.1 only.0 only.1 known in
              (rest.0, back_gone n older p ps same gone ∙ ap (λ (qs : List ℕ). back removed older qs) only.2 ∙ rest.1)
          | inr stays ↦ (p, back_here n older p ps same stays)
        ]
        | inr other ↦
            let rest = back_some whole older s.2 o.1 p ps (known_before n older p other k) in
            (rest.0, back_other n older p ps other ∙ rest.1)
      ]

  -- ---- what hangs

  hung_same : (n : Node) (older : Past) (c : ℕ) → removed n.id && is_it c (back removed older n.parents) ≡ false → hung (n ∷ older) c ≡ hung older c
  hung_same n older c h = cond-false (removed n.id && is_it c (back removed older n.parents)) (hung older c ++ n ∷ []) (hung older c) h

  hung_more : (n : Node) (older : Past) (c : ℕ) → removed n.id && is_it c (back removed older n.parents) ≡ true → hung (n ∷ older) c ≡ hung older c ++ n ∷ []
  hung_more n older c h = cond-true (removed n.id && is_it c (back removed older n.parents)) (hung older c ++ n ∷ []) (hung older c) h

  it_is : (c : ℕ) (o : Option ℕ) → is_it c o ≡ true → o ≡ Some c
  it_is c None h = absurd (true≢false (sym h))
  it_is c (Some d) h = ap Some (eqb-true d c h)

  -- nothing hangs on a commit that isn't there
  hung_unknown : (a : Past) (c : ℕ) → knows a c ≡ false → hung a c ≡ []
  hung_unknown [] c h = refl
  hung_unknown (n ∷ older) c h =
      let parts = or_parts (n.id == c) (knows older c) h in
      elim (cases_Bool (removed n.id && is_it c (back removed older n.parents))) [
        | inl it ↦
            let is = it_is c (back removed older n.parents) (and_parts (removed n.id) (is_it c (back removed older n.parents)) it).1 in
            absurd (true≢false (sym (back_stays removed older n.parents c is).1 ∙ parts.1))
        | inr other ↦ hung_same n older c other ∙ hung_unknown older c parts.1
      ]

  -- what is claimed of a past
  pub record Holds (a : Past) : Type 0 where
    -- the operations that hang on a commit that stays lead to the tree of the last of them
    pub replays : (c : ℕ) → removed c ≡ false → knows a c ≡ true → folded (ops_along (hung a c)) (tree_in a c) ≡ tree_in a (last_of c (hung a c))
    -- a commit is the last that hangs on the one to which it goes back, or a removed commit hangs on it
    pub lasts : (q b : ℕ) → knows a q ≡ true → back removed a (q ∷ []) ≡ Some b → (last_of b (hung a b) ≡ q) ⊎ (has_kid a q ≡ true)
    pub known : (c : ℕ) → knows a c ≡ true → knows a (last_of c (hung a c)) ≡ true

  module _ (n : Node) (older : Past) (s : IsLinkedPast (n ∷ older)) (h : Holds older) where
    further : (q : ℕ) → knows older q ≡ true → tree_in (n ∷ older) q ≡ tree_in older q
    further q k = tree_other n older q (not_fresh n older q s.0 k)

    self : (n.id == n.id) ≡ true
    self = eq-eqb n.id n.id refl

    -- a commit on which nothing more hangs
    same_replays : (c : ℕ) → removed c ≡ false → knows older c ≡ true → hung (n ∷ older) c ≡ hung older c → folded (ops_along (hung (n ∷ older) c)) (tree_in (n ∷ older) c) ≡ tree_in (n ∷ older) (last_of c (hung (n ∷ older) c))
    same_replays c stays k same =
        ap (λ (l : List Node). folded (ops_along l) (tree_in (n ∷ older) c)) same
        ∙ ap (folded (ops_along (hung older c))) (further c k)
        ∙ h.replays c stays k
        ∙ sym (further (last_of c (hung older c)) (h.known c k))
        ∙ sym (ap (λ (l : List Node). tree_in (n ∷ older) (last_of c l)) same)

    kid_later : (q : ℕ) → has_kid older q ≡ true → has_kid (n ∷ older) q ≡ true
    kid_later q k = or_right (removed n.id && is_first q n.parents) (has_kid older q) k

    same_lasts : (q b : ℕ) → hung (n ∷ older) b ≡ hung older b → (last_of b (hung older b) ≡ q) ⊎ (has_kid older q ≡ true) → (last_of b (hung (n ∷ older) b) ≡ q) ⊎ (has_kid (n ∷ older) q ≡ true)
    same_lasts q b same (inl is) = inl (ap (λ (l : List Node). last_of b l) same ∙ is)
    same_lasts q b same (inr k) = inr (kid_later q k)

    same_known : (c : ℕ) → knows older c ≡ true → hung (n ∷ older) c ≡ hung older c → knows (n ∷ older) (last_of c (hung (n ∷ older) c)) ≡ true
    same_known c k same = ap (λ (l : List Node). knows (n ∷ older) (last_of c l)) same ∙ known_later n older (last_of c (hung older c)) (h.known c k)

    -- it stays: nothing hangs on it yet
    alone : removed n.id ≡ false → hung (n ∷ older) n.id ≡ []
    alone stays = hung_same n older n.id (and_left (removed n.id) (is_it n.id (back removed older n.parents)) stays) ∙ hung_unknown older n.id s.0

    stays_on : removed n.id ≡ false → (c : ℕ) → hung (n ∷ older) c ≡ hung older c
    stays_on stays c = hung_same n older c (and_left (removed n.id) (is_it c (back removed older n.parents)) stays)

    one_stays : removed n.id ≡ false → Holds (n ∷ older)
    one_stays stays = record {
      replays = λ c r k. elim (cases_Bool (n.id == c)) [
        | inl same ↦
            let is = eqb-true n.id c same in
            let none : hung (n ∷ older) c ≡ [] = subst (λ x. hung (n ∷ older) x ≡ []) is (alone stays) in
            ap (λ (l : List Node). folded (ops_along l) (tree_in (n ∷ older) c)) none
            ∙ folded_none (tree_in (n ∷ older) c)
            ∙ sym (ap (λ (l : List Node). tree_in (n ∷ older) (last_of c l)) none)
        | inr other ↦ same_replays c r (known_before n older c other k) (stays_on stays c)
      ];
      lasts = λ q b k is. elim (cases_Bool (n.id == q)) [
        | inl same ↦
            let stays_q : removed q ≡ false = subst (λ x. removed x ≡ false) (eqb-true n.id q same) stays in
            let its : ◌≡◌ {A = Option ℕ} (Some q) (Some b) = sym (back_here n older q [] same stays_q) ∙ is in
            let to : n.id ≡ q = eqb-true n.id q same in
            let its_b : b ≡ q = cc in
            let at : b ≡ n.id = its_b ∙ sym to in
            inl (ap (λ x. last_of x (hung (n ∷ older) x)) at ∙ ap (λ (l : List Node). last_of n.id l) (alone stays) ∙ to)
        | inr other ↦ same_lasts q b (stays_on stays b) (h.lasts q b (known_before n older q other k) (sym (back_other n older q [] other) ∙ is))
      ];
      known = λ c k. elim (cases_Bool (n.id == c)) [
        | inl same ↦
            let is = eqb-true n.id c same in
            let none : hung (n ∷ older) c ≡ [] = subst (λ x. hung (n ∷ older) x ≡ []) is (alone stays) in
            ap (λ (l : List Node). knows (n ∷ older) (last_of c l)) none ∙ k
        | inr other ↦ same_known c (known_before n older c other k) (stays_on stays c)
      ];
    }

    -- it is removed, and hangs on b by its first parent p, on which no other removed commit hangs
    module _ (gone : removed n.id ≡ true) (p : ℕ) (ps : List ℕ) (parents : n.parents ≡ p ∷ ps) (b : ℕ) (goes : back removed older n.parents ≡ Some b) (only : has_kid older p ≡ false) where
      p_known : knows older p ≡ true
      p_known = first_known older (p ∷ ps) (subst (AllByRecursion (λ q. IsTrue (knows older q))) parents s.1)

      p_back : back removed older (p ∷ []) ≡ Some b
      p_back = back_first older p [] ps ∙ ap (λ (qs : List ℕ). back removed older qs) (sym parents) ∙ goes

      -- its first parent is the last that hangs on b
      p_last : last_of b (hung older b) ≡ p
      p_last = elim (h.lasts p b p_known p_back) [ inl is ↦ is | inr kid ↦ absurd (true≢false (sym kid ∙ only)) ]

      base : (removed b ≡ false) × (knows older b ≡ true)
      base = back_stays removed older n.parents b goes

      tests : (c : ℕ) → removed n.id && is_it c (back removed older n.parents) ≡ (b == c)
      tests c = ap (λ x. x && is_it c (back removed older n.parents)) gone ∙ ap (is_it c) goes

      more_on : (c : ℕ) → (b == c) ≡ true → hung (n ∷ older) c ≡ hung older c ++ n ∷ []
      more_on c it = hung_more n older c (tests c ∙ it)

      none_on : (c : ℕ) → (b == c) ≡ false → hung (n ∷ older) c ≡ hung older c
      none_on c other = hung_same n older c (tests c ∙ other)

      last_on : (c : ℕ) → (b == c) ≡ true → last_of c (hung (n ∷ older) c) ≡ n.id
      last_on c it = ap (λ (l : List Node). last_of c l) (more_on c it) ∙ last_more c (hung older c) n

      own_replays : folded (ops_along (hung older b) ++ n.ops) (tree_in (n ∷ older) b) ≡ tree_in (n ∷ older) n.id
      own_replays =
          folded_more (ops_along (hung older b)) n.ops (tree_in (n ∷ older) b)
          ∙ ap (λ (o : Option Tree). folded n.ops (folded (ops_along (hung older b)) o)) (further b base.1)
          ∙ ap (folded n.ops) (h.replays b base.0 base.1)
          ∙ ap (λ x. folded n.ops (tree_in older x)) p_last
          ∙ sym (ap (λ (qs : List ℕ). folded n.ops (begun (tree_in older) qs)) parents)
          ∙ sym (tree_here n older n.id self)

      not_own : (c : ℕ) → removed c ≡ false → (n.id == c) ≡ false
      not_own c r = elim (cases_Bool (n.id == c)) [
        | inl same ↦ absurd (true≢false (sym gone ∙ ap removed (eqb-true n.id c same) ∙ r))
        | inr other ↦ other
      ]

      pub one_hangs : Holds (n ∷ older)
      one_hangs = record {
        replays = λ c r k. elim (cases_Bool (b == c)) [
          | inl it ↦
              let is = eqb-true b c it in
              ap (λ (l : List Node). folded (ops_along l) (tree_in (n ∷ older) c)) (more_on c it)
              ∙ ap (λ (o : List FileOp). folded o (tree_in (n ∷ older) c)) (along_more (hung older c) n)
              ∙ ap (λ x. folded (ops_along (hung older x) ++ n.ops) (tree_in (n ∷ older) x)) (sym is)
              ∙ own_replays
              ∙ sym (ap (tree_in (n ∷ older)) (last_on c it))
          | inr other ↦ same_replays c r (known_before n older c (not_own c r) k) (none_on c other)
        ];
        lasts = λ q d k is. elim (cases_Bool (n.id == q)) [
          | inl same ↦
              let gone_q : removed q ≡ true = subst (λ x. removed x ≡ true) (eqb-true n.id q same) gone in
              let its : ◌≡◌ {A = Option ℕ} (Some b) (Some d) = sym goes ∙ sym (back_gone n older q [] same gone_q) ∙ is in
              let at : b ≡ d = cc in
              inl (last_on d (subst (λ x. (b == x) ≡ true) at (eq-eqb b b refl)) ∙ eqb-true n.id q same)
          | inr other ↦
              let before = h.lasts q d (known_before n older q other k) (sym (back_other n older q [] other) ∙ is) in
              elim (cases_Bool (b == d)) [
                | inl it ↦ elim before [
                  | inl last ↦
                      let at : b ≡ d = eqb-true b d it in
                      let same_one : p ≡ q = sym p_last ∙ ap (λ x. last_of x (hung older x)) at ∙ last in
                      inr (or_left (removed n.id && is_first q n.parents) (has_kid older q)
                      (and_from (removed n.id) (is_first q n.parents) gone (ap (is_first q) parents ∙ eq-eqb p q same_one)))
                  | inr kid ↦ inr (kid_later q kid)
                ]
                | inr not_it ↦ same_lasts q d (none_on d not_it) before
              ]
        ];
        known = λ c k. elim (cases_Bool (b == c)) [
          | inl it ↦ ap (knows (n ∷ older)) (last_on c it) ∙ ap (λ x. x || knows older n.id) self
          | inr other ↦ elim (cases_Bool (n.id == c)) [
            | inl same ↦
                let none : hung (n ∷ older) c ≡ [] = none_on c other ∙ hung_unknown older c (subst (λ x. knows older x ≡ false) (eqb-true n.id c same) s.0) in
                ap (λ (l : List Node). knows (n ∷ older) (last_of c l)) none ∙ k
            | inr not_own ↦ same_known c (known_before n older c not_own k) (none_on c other)
          ]
        ];
      }

  no_other : (n : Node) (older whole : Past) (p : ℕ) (ps : List ℕ) → n.parents ≡ p ∷ ps → kids p whole ≤ 1 → kids p (n ∷ older) ≤ kids p whole → has_kid older p ≡ false
  no_other n older whole p ps parents one part =
      elim (cases_Bool (has_kid older p)) [
        | inl kid ↦
            let own : one_if (is_first p n.parents) ≡ 1 = ap (λ (qs : List ℕ). one_if (is_first p qs)) parents ∙ ap one_if (eq-eqb p p refl) in
            let others = some_kids older p kid in
            absurd (omega arith)
        | inr none ↦ none
      ]

  pub holds : (whole a : Past) → IsLinkedPast a → AllByRecursion (IsOnlyChild whole) a → ((p : ℕ) → kids p a ≤ kids p whole) → Holds a
  holds whole [] s o part = record { replays = λ c r k. absurd (true≢false (sym k)); lasts = λ q b k is. absurd (true≢false (sym k)); known = λ c k. absurd (true≢false (sym k)) }
  holds whole (n ∷ older) s o part =
      let before = holds whole older s.2 o.1 (λ p. let more = part p in omega arith) in
      elim (cases_Bool (removed n.id)) [
        | inl gone ↦
            let only = o.0 gone in
            let known = first_known older (only.0 ∷ only.1) (subst (AllByRecursion (λ q. IsTrue (knows older q))) only.2 s.1) in
            let goes = back_some whole older s.2 o.1 only.0 only.1 known in
            one_hangs n older s before gone only.0 only.1 only.2 goes.0 (ap (λ (qs : List ℕ). back removed older qs) only.2 ∙ goes.1)
            (no_other n older whole only.0 only.1 only.2 only.3 (part only.0))
        | inr stays ↦ one_stays n older s before stays
      ]
