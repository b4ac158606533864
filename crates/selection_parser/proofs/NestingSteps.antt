-- A byte that nests: a `~`, an opening parenthesis, or the sign of a function.
use Rattle.std.proofs.Common.{◌≡◌, ℕ, zero, suc, ◌+◌, ◌==◌, true, cond, List, [], ◌∷◌, ◌++◌, length, Option, Some, None, refl, sym, ◌∙◌, ap, subst, inl}
use Rattle.std.proofs.Common.{inr, append_assoc, append-nil, arith}
use Rattle.std.specs.Prelude.{bytes_eq}
use Rattle.std.proofs.lemmas.Slice.Eq.{bytes_eq-Decides}
use Rattle.std.proofs.lemmas.Bool.{eqb-true}
use Rattle.std.proofs.lemmas.Bool.Decides.{nat_tests}
use Rattle.plain_model.specs.Paths.{Bytes}
use Rattle.selection_parser.specs.declared.function.Function.{Function}
use Rattle.selection_parser.specs.declared.place.Place.TheVariants as place
use Rattle.selection_parser.specs.Plain.{PlainSelection}
use Rattle.selection_parser.specs.Spelling.{name_of}
use Rattle.selection_parser.specs.Reading.{nesting, called_by, functions, named_among, function_of, begins_name, no_parts, before_term, has_room, if_room}
use Rattle.selection_parser.specs.Reading.{State, Parts, Frame, Reader}
use Rattle.selection_parser.specs.Reading.State.{Inside, After}
use Rattle.selection_parser.specs.Reading.Frame.{Opened, Negation}
use Rattle.selection_parser.specs.Reading.Next.{Goes, Ends, Stops}
use Rattle.selection_parser.proofs.HasRead.{sign_of, FramesHaveRead, frames_fit, HasRead}
use Rattle.selection_parser.proofs.PatternSteps.{chosen}

-- ---- what nests

room_left : (deep : ℕ) (frames : List Frame) → deep + length frames ≡ 64 → has_room frames ≡ true → (less : ℕ) × (deep ≡ suc less)
room_left zero frames fits h = absurd (grind (arith, nat_tests))
room_left (suc less) frames fits h = (less, refl)

if_room_goes : (frames : List Frame) (reader r : Reader) → if_room frames reader ≡ Goes r → (has_room frames ≡ true) × (reader ≡ r)
if_room_goes frames reader r h =
    elim (chosen (has_room frames) (Goes reader) Stops (Goes r) h) [
      | inl some ↦ (some.0, let e = some.1 in cc)
      | inr none ↦ absurd (let e = none.1 in cc)
    ]

-- a name that names a function is that function's
named_among_so : (fs : List Function) (name : Bytes) (f : Function) → named_among fs name ≡ Some f → name ≡ name_of f
named_among_so [] name f h = absurd cc
named_among_so (g ∷ fs) name f h =
    elim (chosen (bytes_eq name (name_of g)) (Some g) (named_among fs name) (Some f) h) [
      | inl same ↦ (bytes_eq-Decides name (name_of g)).0 same.0 ∙ ap name_of (let e = same.1 in cc)
      | inr other ↦ named_among_so fs name f other.1
    ]

named_so : (name : Bytes) (f : Function) → function_of name ≡ Some f → name ≡ name_of f
unfolding function_of
named_so name f h = named_among_so functions name f h

negation_has_read : (parts : Parts) (frames : List Frame) (text : Bytes) → HasRead (before_term parts frames) text → has_room frames ≡ true
    → HasRead (before_term parts (Negation ∷ frames)) (text ++ 126 ∷ [])
negation_has_read parts frames text h some =
    let left = room_left h.deep frames (frames_fit frames h.deep parts h.front h.frames) some in
    record {
      deep = left.0;
      front = text ++ 126 ∷ [];
      back = [];
      frames = (
        h.front,
        subst (λ d. FramesHaveRead d frames parts h.front) left.1 h.frames,
        ap (λ t. t ++ 126 ∷ []) (h.joined ∙ ap (λ t. h.front ++ t) h.state ∙ append-nil h.front),
      );
      state = refl;
      joined = sym (append-nil (text ++ 126 ∷ []));
    }

opened_has_read : (f : Option Function) (s : State) (parts : Parts) (frames : List Frame) (text : Bytes) (less : ℕ)
    → (front back : Bytes) → FramesHaveRead (suc less) frames parts front → text ≡ front ++ sign_of f
    → HasRead (before_term no_parts (Opened f parts ∷ frames)) text
opened_has_read f s parts frames text less front back h e =
    record {
      deep = less;
      front = text;
      back = [];
      frames = (front, [], h, record { front = []; back = []; unions = refl; boths = refl; joined = refl }, e ∙ sym (append-nil (front ++ sign_of f)));
      state = refl;
      joined = sym (append-nil text);
    }

-- where something nests, this was read
pub nested : (s : State) (parts : Parts) (frames : List Frame) (text : Bytes) (b : ℕ) (r : Reader)
    → HasRead (record { state = s; parts = parts; frames = frames }) text → nesting s parts frames b ≡ Some (Goes r) → HasRead r (text ++ b ∷ [])
unfolding nesting begins_name
nested (Inside place.Start) parts frames text b r h k =
    elim (chosen (b == 126) (Some (if_room frames (before_term parts (Negation ∷ frames))))
    (cond (b == 40) (Some (if_room frames (before_term no_parts (Opened None parts ∷ frames))))
    (cond (b == 64) (Some (if_room frames (record { state = Inside (place.InName []); parts = parts; frames = frames }))) None)) (Some (Goes r)) k) [
      | inl tilde ↦
          let goes = if_room_goes frames (before_term parts (Negation ∷ frames)) r (let e = tilde.1 in cc) in
          subst (λ z. HasRead z (text ++ b ∷ [])) goes.1
          (subst (λ c. HasRead (before_term parts (Negation ∷ frames)) (text ++ c ∷ [])) (sym (eqb-true b 126 tilde.0))
          (negation_has_read parts frames text h goes.0))
      | inr h1 ↦
          elim (chosen (b == 40) (Some (if_room frames (before_term no_parts (Opened None parts ∷ frames))))
          (cond (b == 64) (Some (if_room frames (record { state = Inside (place.InName []); parts = parts; frames = frames }))) None) (Some (Goes r)) h1.1) [
            | inl parenthesis ↦
                let goes = if_room_goes frames (before_term no_parts (Opened None parts ∷ frames)) r (let e = parenthesis.1 in cc) in
                let left = room_left h.deep frames (frames_fit frames h.deep parts h.front h.frames) goes.0 in
                subst (λ z. HasRead z (text ++ b ∷ [])) goes.1
                (opened_has_read None (Inside place.Start) parts frames (text ++ b ∷ []) left.0 h.front []
                (subst (λ d. FramesHaveRead d frames parts h.front) left.1 h.frames)
                (ap (λ c. text ++ c ∷ []) (eqb-true b 40 parenthesis.0)
                ∙ ap (λ t. t ++ 40 ∷ []) (h.joined ∙ ap (λ t. h.front ++ t) h.state ∙ append-nil h.front)))
            | inr h2 ↦
                elim (chosen (b == 64) (Some (if_room frames (record { state = Inside (place.InName []); parts = parts; frames = frames }))) None
                (Some (Goes r)) h2.1) [
                  | inl sign ↦
                      let goes = if_room_goes frames (record { state = Inside (place.InName []); parts = parts; frames = frames }) r (let e = sign.1 in cc) in
                      let left = room_left h.deep frames (frames_fit frames h.deep parts h.front h.frames) goes.0 in
                      subst (λ z. HasRead z (text ++ b ∷ [])) goes.1
                      (record {
                        deep = h.deep;
                        front = h.front;
                        back = 64 ∷ [];
                        frames = h.frames;
                        state = (left.0, left.1, refl, refl);
                        joined = ap (λ c. text ++ c ∷ []) (eqb-true b 64 sign.0)
                            ∙ ap (λ t. t ++ 64 ∷ []) (h.joined ∙ ap (λ t. h.front ++ t) h.state ∙ append-nil h.front);
                      })
                  | inr none ↦ absurd (let e = none.1 in cc)
                ]
          ]
    ]
nested (Inside (place.InName name)) parts frames text b r h k =
    elim (chosen (b == 40) (Some (called_by (function_of name) parts frames)) None (Some (Goes r)) k) [
      | inl parenthesis ↦ go (function_of name) refl (let e = parenthesis.1 in cc) (eqb-true b 40 parenthesis.0)
      | inr none ↦ absurd (let e = none.1 in cc)
    ]
  where
    go : (o : Option Function) → function_of name ≡ o → called_by o parts frames ≡ Goes r → b ≡ 40 → HasRead r (text ++ b ∷ [])
    go None e g is = absurd cc
    go (Some f) e g is =
        let same : before_term no_parts (Opened (Some f) parts ∷ frames) ≡ r = cc in
        subst (λ z. HasRead z (text ++ b ∷ [])) same
        (opened_has_read (Some f) (Inside (place.InName name)) parts frames (text ++ b ∷ []) h.state.0 h.front []
        (subst (λ d. FramesHaveRead d frames parts h.front) h.state.1 h.frames)
        (ap (λ c. text ++ c ∷ []) is
        ∙ ap (λ t. t ++ 40 ∷ []) (h.joined ∙ ap (λ t. h.front ++ t) (h.state.3 ∙ ap (λ n. 64 ∷ n) (named_so name f e)))
        ∙ append_assoc h.front (64 ∷ name_of f) (40 ∷ [])))
nested (Inside place.AfterEquals) parts frames text b r h k = absurd cc
nested (Inside (place.InKinds set)) parts frames text b r h k = absurd cc
nested (Inside (place.InItems before start at)) parts frames text b r h k = absurd cc
nested (Inside (place.InPattern bracketed pattern)) parts frames text b r h k = absurd cc
nested (Inside (place.InFields pattern fields)) parts frames text b r h k = absurd cc
nested (Inside (place.InPath path)) parts frames text b r h k = absurd cc
nested (Inside (place.AfterPathPattern pattern trees)) parts frames text b r h k = absurd cc
nested (Inside (place.AfterPath path)) parts frames text b r h k = absurd cc
nested (Inside (place.AfterBracket pattern trees)) parts frames text b r h k = absurd cc
nested (After times x) parts frames text b r h k = absurd cc

-- ---- it never ends a selection

if_room_never_ends : (frames : List Frame) (reader : Reader) (y : PlainSelection) → if_room frames reader ≡ Ends y → ⊥
if_room_never_ends frames reader y h =
    elim (chosen (has_room frames) (Goes reader) Stops (Ends y) h) [ inl some ↦ (let e = some.1 in cc) | inr none ↦ (let e = none.1 in cc) ]

called_by_never_ends : (o : Option Function) (parts : Parts) (frames : List Frame) (y : PlainSelection) → called_by o parts frames ≡ Ends y → ⊥
called_by_never_ends None parts frames y h = cc
called_by_never_ends (Some f) parts frames y h = cc

pub nesting_never_ends : (s : State) (parts : Parts) (frames : List Frame) (b : ℕ) (y : PlainSelection) → nesting s parts frames b ≡ Some (Ends y) → ⊥
unfolding nesting
nesting_never_ends (Inside place.Start) parts frames b y k =
    elim (chosen (b == 126) (Some (if_room frames (before_term parts (Negation ∷ frames))))
    (cond (b == 40) (Some (if_room frames (before_term no_parts (Opened None parts ∷ frames))))
    (cond (b == 64) (Some (if_room frames (record { state = Inside (place.InName []); parts = parts; frames = frames }))) None)) (Some (Ends y)) k) [
      | inl tilde ↦ if_room_never_ends frames (before_term parts (Negation ∷ frames)) y (let e = tilde.1 in cc)
      | inr h1 ↦
          elim (chosen (b == 40) (Some (if_room frames (before_term no_parts (Opened None parts ∷ frames))))
          (cond (b == 64) (Some (if_room frames (record { state = Inside (place.InName []); parts = parts; frames = frames }))) None) (Some (Ends y)) h1.1) [
            | inl parenthesis ↦ if_room_never_ends frames (before_term no_parts (Opened None parts ∷ frames)) y (let e = parenthesis.1 in cc)
            | inr h2 ↦
                elim (chosen (b == 64) (Some (if_room frames (record { state = Inside (place.InName []); parts = parts; frames = frames }))) None
                (Some (Ends y)) h2.1) [
                  | inl sign ↦ if_room_never_ends frames (record { state = Inside (place.InName []); parts = parts; frames = frames }) y (let e = sign.1 in cc)
                  | inr none ↦ (let e = none.1 in cc)
                ]
          ]
    ]
nesting_never_ends (Inside (place.InName name)) parts frames b y k =
    elim (chosen (b == 40) (Some (called_by (function_of name) parts frames)) None (Some (Ends y)) k) [
      | inl parenthesis ↦ called_by_never_ends (function_of name) parts frames y (let e = parenthesis.1 in cc)
      | inr none ↦ (let e = none.1 in cc)
    ]
nesting_never_ends (Inside place.AfterEquals) parts frames b y k = cc
nesting_never_ends (Inside (place.InKinds set)) parts frames b y k = cc
nesting_never_ends (Inside (place.InItems before start at)) parts frames b y k = cc
nesting_never_ends (Inside (place.InPattern bracketed pattern)) parts frames b y k = cc
nesting_never_ends (Inside (place.InFields pattern fields)) parts frames b y k = cc
nesting_never_ends (Inside (place.InPath path)) parts frames b y k = cc
nesting_never_ends (Inside (place.AfterPathPattern pattern trees)) parts frames b y k = cc
nesting_never_ends (Inside (place.AfterPath path)) parts frames b y k = cc
nesting_never_ends (Inside (place.AfterBracket pattern trees)) parts frames b y k = cc
nesting_never_ends (After times x) parts frames b y k = cc
