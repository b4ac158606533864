-- A byte more of a selection, and its end.
use Rattle.std.proofs.Common.{◌≡◌, ℕ, zero, suc, ◌+◌, ◌==◌, true, cond, List, [], ◌∷◌, ◌++◌, replicate, Option, Some, None, refl, sym, ◌∙◌, ap, subst, inl}
use Rattle.std.proofs.Common.{inr, append_assoc, append-nil, arith}
use Rattle.std.specs.Prelude.{codes}
use Rattle.std.proofs.lemmas.Bool.{eqb-true}
use Rattle.plain_model.specs.Paths.{Bytes}
use Rattle.plain_model.specs.Blanks.{is_blank}
use Rattle.selection_parser.specs.declared.function.Function.{Function}
use Rattle.selection_parser.specs.declared.place.Place.{Place}
use Rattle.selection_parser.specs.Plain.{PlainSelection, near}
use Rattle.selection_parser.specs.Spelling.{SpellsPrimary, SpellsTerm, SpellsWithin, Spells}
use Rattle.selection_parser.specs.Spelling.SpellsPrimary.{group, call}
use Rattle.selection_parser.specs.Reading.{placed, primary_at, near_at, within, nesting, or_else, or_after, after_near, after_term, negated, around, closed}
use Rattle.selection_parser.specs.Reading.{ended, whole, called, with_term, with_part, before_term, step, State, Parts, Frame, Reader, Next}
use Rattle.selection_parser.specs.Reading.State.{Inside, After}
use Rattle.selection_parser.specs.Reading.Frame.{Opened, Negation}
use Rattle.selection_parser.specs.Reading.Next.{Goes, Ends, Stops}
use Rattle.selection_parser.proofs.HasRead.{inner_at, near_term, whole_spelled, with_term_has_read, with_part_has_read, sign_of, FramesHaveRead, Unwound}
use Rattle.selection_parser.proofs.HasRead.{unwound, around_outer, innermost, StateHasRead, HasRead}
use Rattle.selection_parser.proofs.PatternSteps.{chosen}
use Rattle.selection_parser.proofs.PlaceSteps.{place_has_read, primary_at_spelled}
use Rattle.selection_parser.proofs.NestingSteps.{nested, nesting_never_ends}

-- ---- after a primary

-- a primary that may end here, with its question marks
near_has_read : (s : State) (deep : ℕ) (text : Bytes) (p : ℕ × PlainSelection) → StateHasRead deep s text → near_at s ≡ Some p
    → (primary : Bytes) × SpellsPrimary (inner_at deep) primary p.1 × (text ≡ primary ++ replicate p.0 63)
near_has_read (After times x) deep text p h k =
    let same : (times, x) ≡ p = cc in
    subst (λ q. (primary : Bytes) × SpellsPrimary (inner_at deep) primary q.1 × (text ≡ primary ++ replicate q.0 63)) same h
near_has_read (Inside at) deep text p h k = go (primary_at at) refl k
  where
    go : (o : Option PlainSelection) → primary_at at ≡ o → placed (λ y. (0, y)) o ≡ Some p
        → (primary : Bytes) × SpellsPrimary (inner_at deep) primary p.1 × (text ≡ primary ++ replicate p.0 63)
    go None e g = absurd cc
    go (Some y) e g =
        let same : (0, y) ≡ p = cc in
        subst (λ q. (primary : Bytes) × SpellsPrimary (inner_at deep) primary q.1 × (text ≡ primary ++ replicate q.0 63)) same
        (text, primary_at_spelled at y deep text h e (inner_at deep), sym (append-nil text))

-- the term that it is, with each `~` before it
term_unwound : (r : Reader) (text : Bytes) (p : ℕ × PlainSelection) → HasRead r text → near_at r.state ≡ Some p
    → Unwound r.frames r.parts text (near p.0 p.1)
term_unwound r text p h k =
    let n = near_has_read r.state h.deep h.back p h.state k in
    subst (λ t. Unwound r.frames r.parts t (near p.0 p.1)) (sym h.joined)
    (unwound r.frames h.deep r.parts h.front h.back (near p.0 p.1) h.frames
    (near_term h.deep h.back (near p.0 p.1) (n.0, p.0, p.1, n.1, n.2, refl)))

replicate_push : (times b : ℕ) → replicate times b ++ b ∷ [] ≡ replicate (times + 1) b
replicate_push zero b = refl
replicate_push (suc times) b = let same : suc times + 1 ≡ suc (times + 1) = omega arith in ap (λ t. b ∷ t) (replicate_push times b)
    ∙ sym (ap (λ n. replicate n b) same)

question_has_read : (r : Reader) (text : Bytes) (p : ℕ × PlainSelection) → HasRead r text → near_at r.state ≡ Some p
    → HasRead (record { state = After (p.0 + 1) p.1; parts = r.parts; frames = r.frames }) (text ++ 63 ∷ [])
question_has_read r text p h k =
    let n = near_has_read r.state h.deep h.back p h.state k in
    record {
      deep = h.deep;
      front = h.front;
      back = h.back ++ 63 ∷ [];
      frames = h.frames;
      state = (n.0, n.1, ap (λ t. t ++ 63 ∷ []) n.2 ∙ append_assoc n.0 (replicate p.0 63) (63 ∷ []) ∙ ap (λ t. n.0 ++ t) (replicate_push p.0 63));
      joined = ap (λ t. t ++ 63 ∷ []) h.joined ∙ append_assoc h.front h.back (63 ∷ []);
    }

-- other parts at the innermost depth
before_term_has_read : (frames : List Frame) (deep : ℕ) (parts : Parts) (text : Bytes) → FramesHaveRead deep frames parts text
    → HasRead (before_term parts frames) text
before_term_has_read frames deep parts text h = record { deep = deep; front = text; back = []; frames = h; state = refl; joined = sym (append-nil text) }

and_has_read : (frames : List Frame) (parts : Parts) (text : Bytes) (x : PlainSelection) (u : Unwound frames parts text x)
    → HasRead (before_term (with_term (negated x frames) parts) (around frames)) (text ++ 38 ∷ [])
and_has_read frames parts text x u =
    let i = innermost (around frames) u.deep parts u.front (around_outer frames) u.so_far in
    before_term_has_read (around frames) u.deep (with_term (negated x frames) parts) (text ++ 38 ∷ [])
    (subst (FramesHaveRead u.deep (around frames) (with_term (negated x frames) parts))
    (sym (ap (λ t. t ++ 38 ∷ []) (u.joined ∙ ap (λ t. t ++ u.back) i.joined) ∙ simp append_assoc))
    (i.others (with_term (negated x frames) parts) (i.back ++ u.back ++ 38 ∷ [])
    (with_term_has_read u.deep parts i.back u.back (negated x frames) i.so_far u.spelled)))

or_has_read : (frames : List Frame) (parts : Parts) (text : Bytes) (x : PlainSelection) (u : Unwound frames parts text x)
    → HasRead (before_term (with_part (negated x frames) parts) (around frames)) (text ++ 124 ∷ [])
or_has_read frames parts text x u =
    let i = innermost (around frames) u.deep parts u.front (around_outer frames) u.so_far in
    before_term_has_read (around frames) u.deep (with_part (negated x frames) parts) (text ++ 124 ∷ [])
    (subst (FramesHaveRead u.deep (around frames) (with_part (negated x frames) parts))
    (sym (ap (λ t. t ++ 124 ∷ []) (u.joined ∙ ap (λ t. t ++ u.back) i.joined) ∙ simp append_assoc))
    (i.others (with_part (negated x frames) parts) (i.back ++ u.back ++ 124 ∷ [])
    (with_part_has_read u.deep parts i.back u.back (negated x frames) i.so_far u.spelled)))

-- what parentheses spell
pub called_spelled : (f : Option Function) (deep : ℕ) (inner : Bytes) (x : PlainSelection) → SpellsWithin deep inner x
    → SpellsPrimary (SpellsWithin deep) (sign_of f ++ inner ++ codes ")") (called f x)
called_spelled None deep inner x h = group inner h refl
called_spelled (Some f) deep inner x h = call f inner x h refl refl

closed_has_read : (frames : List Frame) (parts : Parts) (deep : ℕ) (front back : Bytes) (x : PlainSelection) (r : Reader)
    → FramesHaveRead deep frames parts front → SpellsTerm deep back x → closed x parts frames ≡ Goes r → HasRead r (front ++ back ++ 41 ∷ [])
closed_has_read [] parts deep front back x r h k e = absurd cc
closed_has_read (Negation ∷ frames) parts deep front back x r h k e = absurd cc
closed_has_read (Opened f outer ∷ frames) parts deep front back x r h k e =
    let same : record { state = After 0 (called f (whole x parts)); parts = outer; frames = frames } ≡ r = cc in
    let all = whole_spelled deep parts h.1 back x h.3 k in
    subst (λ z. HasRead z (front ++ back ++ 41 ∷ [])) same
    (record {
      deep = suc deep;
      front = h.0;
      back = sign_of f ++ (h.1 ++ back) ++ 41 ∷ [];
      frames = h.2;
      state = (
        sign_of f ++ (h.1 ++ back) ++ 41 ∷ [],
        called_spelled f deep (h.1 ++ back) (whole x parts) all,
        sym (append-nil (sign_of f ++ (h.1 ++ back) ++ 41 ∷ [])),
      );
      joined = ap (λ t. t ++ back ++ 41 ∷ []) h.4 ∙ simp append_assoc;
    })

-- the whole at a blank
ended_spelled : (frames : List Frame) (parts : Parts) (deep : ℕ) (front back : Bytes) (x y : PlainSelection)
    → FramesHaveRead deep frames parts front → SpellsTerm deep back x → ended x parts frames ≡ Ends y → Spells (front ++ back) y
ended_spelled [] parts deep front back x y h k e =
    let same : whole x parts ≡ y = cc in
    let all = whole_spelled deep parts front back x h.1 k in
    subst (Spells (front ++ back)) same (subst (λ d. SpellsWithin d (front ++ back) (whole x parts)) h.0 all)
ended_spelled (frame ∷ frames) parts deep front back x y h k e = absurd cc

ended_never_goes : (x : PlainSelection) (parts : Parts) (frames : List Frame) (r : Reader) → ended x parts frames ≡ Goes r → ⊥
ended_never_goes x parts [] r e = cc
ended_never_goes x parts (frame ∷ frames) r e = cc

closed_never_ends : (x y : PlainSelection) (parts : Parts) (frames : List Frame) → closed x parts frames ≡ Ends y → ⊥
closed_never_ends x y parts [] e = cc
closed_never_ends x y parts (Negation ∷ frames) e = cc
closed_never_ends x y parts (Opened f outer ∷ frames) e = cc

-- ---- a step

inside_has_read : (s : State) (q : Place) (parts : Parts) (frames : List Frame) (text : Bytes) (b : ℕ)
    → HasRead (record { state = s; parts = parts; frames = frames }) text → within s b ≡ Some q
    → HasRead (record { state = Inside q; parts = parts; frames = frames }) (text ++ b ∷ [])
inside_has_read (After times x) q parts frames text b h k = absurd cc
inside_has_read (Inside at) q parts frames text b h k =
    record {
      deep = h.deep;
      front = h.front;
      back = h.back ++ b ∷ [];
      frames = h.frames;
      state = place_has_read at q h.deep h.back b h.state k;
      joined = ap (λ t. t ++ b ∷ []) h.joined ∙ append_assoc h.front h.back (b ∷ []);
    }

-- after a whole term
term_has_read : (r next : Reader) (text : Bytes) (b : ℕ) (p : ℕ × PlainSelection) → HasRead r text → near_at r.state ≡ Some p
    → after_term (negated (near p.0 p.1) r.frames) r.parts (around r.frames) b ≡ Goes next → HasRead next (text ++ b ∷ [])
unfolding after_term
term_has_read r next text b p h t k =
    let x = negated (near p.0 p.1) r.frames in
    let fs = around r.frames in
    let u = term_unwound r text p h t in
    elim (chosen (b == 38) (Goes (before_term (with_term x r.parts) fs))
    (cond (b == 124) (Goes (before_term (with_part x r.parts) fs)) (cond (b == 41) (closed x r.parts fs) (cond (is_blank b) (ended x r.parts fs) Stops)))
    (Goes next) k) [
      | inl amp ↦
          let same : before_term (with_term x r.parts) fs ≡ next = (let e = amp.1 in cc) in
          subst (λ z. HasRead z (text ++ b ∷ [])) same
          (subst (λ c. HasRead (before_term (with_term x r.parts) fs) (text ++ c ∷ [])) (sym (eqb-true b 38 amp.0))
          (and_has_read r.frames r.parts text (near p.0 p.1) u))
      | inr h1 ↦
          elim (chosen (b == 124) (Goes (before_term (with_part x r.parts) fs))
          (cond (b == 41) (closed x r.parts fs) (cond (is_blank b) (ended x r.parts fs) Stops)) (Goes next) h1.1) [
            | inl bar ↦
                let same : before_term (with_part x r.parts) fs ≡ next = (let e = bar.1 in cc) in
                subst (λ z. HasRead z (text ++ b ∷ [])) same
                (subst (λ c. HasRead (before_term (with_part x r.parts) fs) (text ++ c ∷ [])) (sym (eqb-true b 124 bar.0))
                (or_has_read r.frames r.parts text (near p.0 p.1) u))
            | inr h2 ↦
                elim (chosen (b == 41) (closed x r.parts fs) (cond (is_blank b) (ended x r.parts fs) Stops) (Goes next) h2.1) [
                  | inl parenthesis ↦
                      subst (HasRead next)
                      (ap (λ t. t ++ 41 ∷ []) (sym u.joined) ∙ ap (λ c. text ++ c ∷ []) (sym (eqb-true b 41 parenthesis.0)))
                      (closed_has_read fs r.parts u.deep u.front u.back x next u.so_far u.spelled parenthesis.1)
                  | inr h3 ↦
                      elim (chosen (is_blank b) (ended x r.parts fs) Stops (Goes next) h3.1) [
                        | inl blank ↦ absurd (ended_never_goes x r.parts fs next blank.1)
                        | inr none ↦ absurd (let e = none.1 in cc)
                      ]
                ]
          ]
    ]

primary_has_read : (r next : Reader) (text : Bytes) (b : ℕ) (o : Option (ℕ × PlainSelection)) → HasRead r text → near_at r.state ≡ o
    → after_near o r.parts r.frames b ≡ Goes next → HasRead next (text ++ b ∷ [])
primary_has_read r next text b None h t k = absurd cc
primary_has_read r next text b (Some p) h t k =
    elim (chosen (b == 63) (Goes (record { state = After (p.0 + 1) p.1; parts = r.parts; frames = r.frames }))
    (after_term (negated (near p.0 p.1) r.frames) r.parts (around r.frames) b) (Goes next) k) [
      | inl question ↦
          let same : record { state = After (p.0 + 1) p.1; parts = r.parts; frames = r.frames } ≡ next = (let e = question.1 in cc) in
          subst (λ z. HasRead z (text ++ b ∷ [])) same
          (subst (λ c. HasRead (record { state = After (p.0 + 1) p.1; parts = r.parts; frames = r.frames }) (text ++ c ∷ []))
          (sym (eqb-true b 63 question.0)) (question_has_read r text p h t))
      | inr other ↦ term_has_read r next text b p h t other.1
    ]

-- a byte that is taken was read
pub step_has_read : (r next : Reader) (text : Bytes) (b : ℕ) → HasRead r text → step r b ≡ Goes next → HasRead next (text ++ b ∷ [])
unfolding step
step_has_read r next text b h k = go (nesting r.state r.parts r.frames b) refl (within r.state b) refl k
  where
    go : (n : Option Next) → nesting r.state r.parts r.frames b ≡ n → (w : Option Place) → within r.state b ≡ w
        → or_else n (or_after w r.state r.parts r.frames b) ≡ Goes next → HasRead next (text ++ b ∷ [])
    go (Some x) e w f g = nested r.state r.parts r.frames text b next h (e ∙ ap Some g)
    go None e (Some q) f g =
        let same : record { state = Inside q; parts = r.parts; frames = r.frames } ≡ next = cc in
        subst (λ z. HasRead z (text ++ b ∷ [])) same (inside_has_read r.state q r.parts r.frames text b h f)
    go None e None f g = primary_has_read r next text b (near_at r.state) h refl g

-- ---- the end

term_ends : (r : Reader) (text : Bytes) (b : ℕ) (y : PlainSelection) (p : ℕ × PlainSelection) → HasRead r text → near_at r.state ≡ Some p
    → after_term (negated (near p.0 p.1) r.frames) r.parts (around r.frames) b ≡ Ends y → Spells text y × (is_blank b ≡ true)
unfolding after_term
term_ends r text b y p h t k =
    let x = negated (near p.0 p.1) r.frames in
    let fs = around r.frames in
    let u = term_unwound r text p h t in
    elim (chosen (b == 38) (Goes (before_term (with_term x r.parts) fs))
    (cond (b == 124) (Goes (before_term (with_part x r.parts) fs)) (cond (b == 41) (closed x r.parts fs) (cond (is_blank b) (ended x r.parts fs) Stops)))
    (Ends y) k) [
      | inl amp ↦ absurd (let e = amp.1 in cc)
      | inr h1 ↦
          elim (chosen (b == 124) (Goes (before_term (with_part x r.parts) fs))
          (cond (b == 41) (closed x r.parts fs) (cond (is_blank b) (ended x r.parts fs) Stops)) (Ends y) h1.1) [
            | inl bar ↦ absurd (let e = bar.1 in cc)
            | inr h2 ↦
                elim (chosen (b == 41) (closed x r.parts fs) (cond (is_blank b) (ended x r.parts fs) Stops) (Ends y) h2.1) [
                  | inl parenthesis ↦ absurd (closed_never_ends x y r.parts fs parenthesis.1)
                  | inr h3 ↦
                      elim (chosen (is_blank b) (ended x r.parts fs) Stops (Ends y) h3.1) [
                        | inl blank ↦
                            (subst (λ z. Spells z y) (sym u.joined) (ended_spelled fs r.parts u.deep u.front u.back x y u.so_far u.spelled blank.1), blank.0)
                        | inr none ↦ absurd (let e = none.1 in cc)
                      ]
                ]
          ]
    ]

primary_ends : (r : Reader) (text : Bytes) (b : ℕ) (y : PlainSelection) (o : Option (ℕ × PlainSelection)) → HasRead r text → near_at r.state ≡ o
    → after_near o r.parts r.frames b ≡ Ends y → Spells text y × (is_blank b ≡ true)
primary_ends r text b y None h t k = absurd cc
primary_ends r text b y (Some p) h t k =
    elim (chosen (b == 63) (Goes (record { state = After (p.0 + 1) p.1; parts = r.parts; frames = r.frames }))
    (after_term (negated (near p.0 p.1) r.frames) r.parts (around r.frames) b) (Ends y) k) [
      | inl question ↦ absurd (let e = question.1 in cc)
      | inr other ↦ term_ends r text b y p h t other.1
    ]

-- where the reading ends, a selection was read, and the byte is a blank
pub step_ends : (r : Reader) (text : Bytes) (b : ℕ) (y : PlainSelection) → HasRead r text → step r b ≡ Ends y → Spells text y × (is_blank b ≡ true)
unfolding step
step_ends r text b y h k = go (nesting r.state r.parts r.frames b) refl (within r.state b) refl k
  where
    go : (n : Option Next) → nesting r.state r.parts r.frames b ≡ n → (w : Option Place) → within r.state b ≡ w
        → or_else n (or_after w r.state r.parts r.frames b) ≡ Ends y → Spells text y × (is_blank b ≡ true)
    go (Some x) e w f g = absurd (nesting_never_ends r.state r.parts r.frames b y (e ∙ ap Some g))
    go None e (Some q) f g = absurd cc
    go None e None f g = primary_ends r text b y (near_at r.state) h refl g
