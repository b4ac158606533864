-- When a commit's line is the same in two lists, known from one step back along first parents.
use Rattle.std.proofs.Common.{◌≡◌, ℕ, suc, ◌<◌, true, false, ◌⊎◌, inl, inr, List, [], ◌∷◌, ◌++◌, Option, Some, None, refl, sym, ap, ◌∙◌, arith, eqb-true}
use Rattle.std.specs.Prelude.{◌==◌, ◌↔◌, IsSome, is_some}
use Rattle.std.proofs.lemmas.Bool.{cases_Bool, true≢false}
use Rattle.std.proofs.lemmas.Option.{none-some, same_Some}
use Rattle.lru.proofs.Splits.{nil_ne_cut}
use Rattle.plain_model.specs.declared.id.AnyId.TheVariants as any
use Rattle.plain_model.specs.declared.operation.FileOp.{FileOp}
use Rattle.plain_model.specs.declared.event.PlainEvent.{PlainEvent}
use Rattle.plain_model.specs.Histories.{Past, past}
use Rattle.plain_model.specs.Lookups.{event_ops, find_event}
use Rattle.history_laws.specs.Once.{AreDistinct}
use Rattle.manifest_cache.specs.Following.{HasSameLine, is_earlier}
use Rattle.manifest_cache.specs.Lines.{Line, line, line_before, line_in, size}
use Rattle.manifest_cache.specs.Walks.{first_parent}
use Rattle.manifest_cache.proofs.Lines.{size_more, with_commit}
use Rattle.manifest_cache.proofs.Steps.{absent, front, front_earlier, front_later, front_line, step_parent, step_root}

-- ---- lines with a commit at their end

snoc : {X : Type 0} → (l m : List X) (x y : X) → l ++ x ∷ [] ≡ m ++ y ∷ [] → (l ≡ m) × (x ≡ y)
snoc [] [] x y h = (refl, cc)
snoc [] (b ∷ m) x y h = let none : [] ≡ m ++ y ∷ [] = cc in absurd (nil_ne_cut m y [] none)
snoc (a ∷ l) [] x y h = let none : [] ≡ l ++ x ∷ [] = cc in absurd (nil_ne_cut l x [] none)
snoc (a ∷ l) (b ∷ m) x y h =
    let head : a ≡ b = cc in
    let tail : l ++ x ∷ [] ≡ m ++ y ∷ [] = cc in
    let rest = snoc l m x y tail in
    ((λ i. head i ∷ rest.0 i), rest.1)

-- the same line ends with the same commit, the same operations and the same line before them
ends_alike : (c d : ℕ) (ops others : List FileOp) (o p : Option Line) → with_commit c ops o ≡ with_commit d others p → IsSome (with_commit c ops o)
    → (c ≡ d) × (ops ≡ others) × (o ≡ p)
ends_alike c d ops others None p h there = absurd (true≢false (sym there))
ends_alike c d ops others (Some l) None h there = absurd (none-some (l ++ (c, ops) ∷ []) (sym h))
ends_alike c d ops others (Some l) (Some m) h there =
    let both = snoc l m (c, ops) (d, others) (same_Some (l ++ (c, ops) ∷ []) (m ++ (d, others) ∷ []) h) in
    (ap (λ (x : ℕ × List FileOp). x.0) both.1, ap (λ (x : ℕ × List FileOp). x.1) both.1, ap (λ (x : Line). Some x) both.0)

-- a line with a commit isn't empty
not_empty : (c : ℕ) (ops : List FileOp) (o : Option Line) → with_commit c ops o ≡ Some [] → ⊥
not_empty c ops None h = none-some [] h
not_empty c ops (Some l) h = nil_ne_cut l (c, ops) [] (sym (same_Some (l ++ (c, ops) ∷ []) [] h))

-- a line ends with its commit
ends : (older : Past) (p : ℕ) → (line_in older p ≡ None) ⊎ ((ops : List FileOp) × (o : Option Line) × (line_in older p ≡ with_commit p ops o))
ends [] p = inl refl
ends (n ∷ older) p = elim (cases_Bool (n.id == p)) [
  | inl same ↦ inr (
    n.ops,
    line_before (line_in older) n.parents,
    rw same (ap (λ k. with_commit k n.ops (line_before (line_in older) n.parents)) (eqb-true n.id p same)),
  )
  | inr other ↦ rw other (ends older p)
]

-- so it isn't empty
filled : (older : Past) (p : ℕ) → line_in older p ≡ Some [] → ⊥
filled older p h = elim (ends older p) [
  | inl none ↦ none-some [] (sym none ∙ h)
  | inr own ↦ not_empty p own.0 own.1 (sym own.2 ∙ h)
]

-- lines of two commits that are there are of the same commit where they are the same
same_commit : (xs ys : List PlainEvent) (p q : ℕ) → IsSome (line xs p) → line xs p ≡ line ys q → p ≡ q
same_commit xs ys p q there h = elim (ends (past xs) p) [
  | inl none ↦ absurd (true≢false (sym there ∙ ap is_some none))
  | inr own ↦ elim (ends (past ys) q) [
    | inl none ↦ absurd (true≢false (sym there ∙ ap is_some (h ∙ none)))
    | inr other ↦ (ends_alike p q own.0 other.0 own.1 other.1 (sym own.2 ∙ h ∙ other.2) (ap is_some (sym own.2) ∙ there)).0
  ]
]

-- ---- a commit in both lists

module _ (before after : List PlainEvent) (c : ℕ) (there : IsSome (line before c)) where
  -- it has no line in the other list
  pub not_there : line after c ≡ None → ¬ HasSameLine before after c
  not_there none = λ same. true≢false (sym there ∙ ap is_some (same ∙ none))

  -- it was there
  pub was_there : find_event (any.Commit c) before ≡ None → ⊥
  was_there none = true≢false (sym there ∙ ap is_some (absent before c none))

  module _ (ops others : List FileOp) (o p : Option Line) (was : line before c ≡ with_commit c ops o) (now : line after c ≡ with_commit c others p) where
    pub same_parts : HasSameLine before after c → (ops ≡ others) × (o ≡ p)
    same_parts same = let all = ends_alike c c ops others o p (sym was ∙ same ∙ now) (ap is_some (sym was) ∙ there) in (all.1, all.2)

    pub same_whole : ops ≡ others → o ≡ p → HasSameLine before after c
    same_whole ops_alike alike = was ∙ (λ i. with_commit c (ops_alike i) (alike i)) ∙ sym now

  module _ (once : AreDistinct before) (twice : AreDistinct after) (old new : PlainEvent) (was : find_event (any.Commit c) before ≡ Some old) (now : find_event (any.Commit c) after ≡ Some new) where
    abbrev old_front : List PlainEvent
    old_front = front before once c old was

    abbrev new_front : List PlainEvent
    new_front = front after twice c new now

    module _ (none : None ≡ first_parent old) where
      old_root : line before c ≡ with_commit c (event_ops old) (Some [])
      old_root = step_root before once c old was none

      pub same_root : None ≡ first_parent new → event_ops old ≡ event_ops new → HasSameLine before after c
      same_root no_parent ops = same_whole (event_ops old) (event_ops new) (Some []) (Some []) old_root (step_root after twice c new now no_parent) ops refl

      pub no_root : (q : ℕ) → Some q ≡ first_parent new → ¬ HasSameLine before after c
      no_root q parent = λ same.
          let o = (same_parts (event_ops old) (event_ops new) (Some []) (line new_front q) old_root (step_parent after twice c new now q parent) same).1 in
          filled (past new_front) q (sym o)

    module _ (p : ℕ) (parent : Some p ≡ first_parent old) where
      old_step : line before c ≡ with_commit c (event_ops old) (line old_front p)
      old_step = step_parent before once c old was p parent

      old_line : IsSome (line old_front p)
      old_line = go (line old_front p) (ap is_some (sym old_step) ∙ there)
        where
          go : (o : Option Line) → IsSome (with_commit c (event_ops old) o) → IsSome o
          go None h = absurd (true≢false (sym h))
          go (Some l) h = refl

      pub now_root : None ≡ first_parent new → ¬ HasSameLine before after c
      now_root none = λ same.
          let o = (same_parts (event_ops old) (event_ops new) (line old_front p) (Some []) old_step (step_root after twice c new now none) same).1 in
          filled (past old_front) p o

      module _ (q : ℕ) (other : Some q ≡ first_parent new) where
        new_step : line after c ≡ with_commit c (event_ops new) (line new_front q)
        new_step = step_parent after twice c new now q other

        pub other_parent : ¬ (p ≡ q) → ¬ HasSameLine before after c
        other_parent differ = λ same.
            differ (same_commit old_front new_front p q old_line (same_parts (event_ops old) (event_ops new) (line old_front p) (line new_front q) old_step new_step same).1)

        pub later_parent : is_earlier after q c ≡ false → ¬ HasSameLine before after c
        later_parent late = not_there (new_step ∙ ap (with_commit c (event_ops new)) (front_later after twice c new now q other late))

        pub goes_on : event_ops old ≡ event_ops new → p ≡ q → is_earlier after q c ≡ true
            → (HasSameLine before after p ↔ HasSameLine before after c) × IsSome (line before p) × (size (line before p) < size (line before c))
        goes_on ops alike early =
            let o = front_line before once c old was p old_line in
            let n = front_earlier after twice c new now q other early ∙ ap (line after) (sym alike) in
            let more = ap size old_step ∙ size_more (line old_front p) c (event_ops old) (ap is_some (sym old_step) ∙ there) ∙ ap (λ (l : Option Line). suc (size l)) o in (
              (
                (λ same. same_whole (event_ops old) (event_ops new) (line old_front p) (line new_front q) old_step new_step ops (o ∙ same ∙ sym n)),
                (λ same. sym o ∙ (same_parts (event_ops old) (event_ops new) (line old_front p) (line new_front q) old_step new_step same).1 ∙ n),
              ),
              ap is_some (sym o) ∙ old_line,
              omega (arith, more),
            )

    -- other operations
    pub other_ops : ¬ (event_ops old ≡ event_ops new) → ¬ HasSameLine before after c
    other_ops differ = λ same. differ (go (first_parent old) refl (first_parent new) refl same)
      where
        go : (o : Option ℕ) → o ≡ first_parent old → (n : Option ℕ) → n ≡ first_parent new → HasSameLine before after c → event_ops old ≡ event_ops new
        go None e None f same = (same_parts (event_ops old) (event_ops new) (Some []) (Some []) (step_root before once c old was e) (step_root after twice c new now f) same).0
        go None e (Some q) f same = absurd (no_root e q f same)
        go (Some p) e None f same = absurd (now_root p e f same)
        go (Some p) e (Some q) f same =
            (same_parts (event_ops old) (event_ops new) (line old_front p) (line new_front q) (step_parent before once c old was p e) (step_parent after twice c new now q f) same).0
