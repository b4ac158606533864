-- A selection that is spelled is read.
use Rattle.std.proofs.Common.{◌≡◌, ℕ, zero, suc, ◌+◌, true, List, [], ◌∷◌, ◌++◌, length, replicate, Some, refl, sym, ◌∙◌, ap, subst, inl, inr, append_assoc}
use Rattle.std.proofs.Common.{arith}
use Rattle.std.proofs.lemmas.Bool.Decides.{nat_tests}
use Rattle.plain_model.specs.Paths.{Bytes}
use Rattle.selection_parser.specs.Plain.{PlainSelection, near, both_of, union_of}
use Rattle.selection_parser.specs.Spelling.{SpellsFrom, SpellsNear, SpellsBoth, SpellsUnion, SpellsTerm, Spells, Nothing}
use Rattle.selection_parser.specs.Reading.{near_at, after_term, negated, around, last_part, no_parts, with_term, before_term, has_room, nesting, step}
use Rattle.selection_parser.specs.Reading.{State, Parts, Frame, Reader}
use Rattle.selection_parser.specs.Reading.State.{After}
use Rattle.selection_parser.specs.Reading.Frame.{Opened, Negation}
use Rattle.selection_parser.specs.Reading.Next.{Goes}
use Rattle.selection_parser.proofs.Runs.{run, run_goes, run_append, run_joined}
use Rattle.selection_parser.proofs.Closing.{closes_question, closes_and, closes_or, step_closed}
use Rattle.selection_parser.proofs.Primaries.{IsReady, Reads, primary_comes}

-- ---- question marks

-- The reader is after a term.
pub record IsAfterTerm (r : Reader) (x : PlainSelection) (parts : Parts) (frames : List Frame) : Type 0 where
  pub times : ℕ
  pub last : PlainSelection
  pub is_near : near_at r.state ≡ Some (times, last)
  pub same_parts : r.parts ≡ parts
  pub is_around : around r.frames ≡ around frames
  pub value : negated (near times last) r.frames ≡ negated x frames

-- from where a term begins, the bytes lead to its end
abbrev pub TermComes : Bytes → PlainSelection → Parts → List Frame → Type 0
TermComes text x parts frames = (r : Reader) × IsAfterTerm r x parts frames × (run (before_term parts frames) text ≡ Some r)

question : (s : State) (times : ℕ) (y : PlainSelection) (parts : Parts) (frames : List Frame) → near_at s ≡ Some (times, y)
    → step (record { state = s; parts = parts; frames = frames }) 63
    ≡ Goes (record { state = After (times + 1) y; parts = parts; frames = frames })
question s times y parts frames h = step_closed (record { state = s; parts = parts; frames = frames }) (times, y) h 63 closes_question

-- so many question marks, one after another
questions : (more times : ℕ) (s : State) (y : PlainSelection) (parts : Parts) (frames : List Frame) → near_at s ≡ Some (times, y)
    → (z : State) × (near_at z ≡ Some (times + more, y))
    × (run (record { state = s; parts = parts; frames = frames }) (replicate more 63) ≡ Some (record { state = z; parts = parts; frames = frames }))
questions zero times s y parts frames h =
    let same : times ≡ times + 0 = omega arith in
    (s, h ∙ ap (λ k. Some (k, y)) same, refl)
questions (suc more) times s y parts frames h =
    let rest = questions more (times + 1) (After (times + 1) y) y parts frames refl in
    let same : times + 1 + more ≡ times + suc more = omega arith in (
      rest.0,
      rest.1 ∙ ap (λ k. Some (k, y)) same,
      run_goes (record { state = s; parts = parts; frames = frames }) (record { state = After (times + 1) y; parts = parts; frames = frames })
          63 (replicate more 63) (question s times y parts frames h) ∙ rest.2,
    )

near_comes : (Inner : Bytes → PlainSelection → Type 0) (text : Bytes) (x : PlainSelection) (parts : Parts) (frames : List Frame)
    → Reads Inner frames → SpellsNear Inner text x → TermComes text x parts frames
near_comes Inner text x parts frames reads h =
    let head = primary_comes Inner h.0 h.2 parts frames reads h.3 in
    let rest = questions h.1 0 head.0 h.2 parts frames head.1 in
    let same : 0 + h.1 ≡ h.1 = omega arith in (
      record { state = rest.0; parts = parts; frames = frames },
      record {
        times = h.1;
        last = h.2;
        is_near = rest.1
            ∙ ap (λ k. Some (k, h.2)) same;
        same_parts = refl;
        is_around = refl;
        value = ap (λ y. negated y frames) (sym h.5);
      },
      ap (run (before_term parts frames)) h.4
          ∙ run_joined (before_term parts frames) (record { state = head.0; parts = parts; frames = frames })
          (record { state = rest.0; parts = parts; frames = frames })
          h.0 (replicate h.1 63) head.2 rest.2,
    )

-- ---- terms with `&`, and parts with `|`, between two

-- no `~` is directly before the next byte
abbrev pub IsOuter : List Frame → Type 0
IsOuter [] = Unit {0}
IsOuter (Negation ∷ frames) = ⊥
IsOuter (Opened f parts ∷ frames) = Unit {0}

outer_negated : (frames : List Frame) (x : PlainSelection) → IsOuter frames → negated x frames ≡ x
outer_negated [] x h = refl
outer_negated (Negation ∷ frames) x h = absurd h
outer_negated (Opened f parts ∷ frames) x h = refl

outer_around : (frames : List Frame) → IsOuter frames → around frames ≡ frames
outer_around [] h = refl
outer_around (Negation ∷ frames) h = absurd h
outer_around (Opened f parts ∷ frames) h = refl

-- The reader is after a term of a part: these parts are done, and these terms make the last one.
pub record IsInPart (r : Reader) (unions terms : List PlainSelection) (frames : List Frame) : Type 0 where
  pub times : ℕ
  pub last : PlainSelection
  pub is_near : near_at r.state ≡ Some (times, last)
  pub same_unions : r.parts.unions ≡ unions
  pub same_terms : r.parts.boths ++ negated (near times last) r.frames ∷ [] ≡ terms
  pub is_around : around r.frames ≡ frames

-- terms of this kind are read, in such surroundings
abbrev pub ReadsTerms : (Bytes → PlainSelection → Type 0) → List Frame → Type 0
ReadsTerms Term frames = (text : Bytes) (x : PlainSelection) (parts : Parts) → Term text x → TermComes text x parts frames

and_goes : (r : Reader) (x : PlainSelection) (parts : Parts) (frames : List Frame) → IsOuter frames → IsAfterTerm r x parts frames
    → step r 38 ≡ Goes (before_term (with_term x parts) frames)
unfolding after_term
and_goes r x parts frames outer h =
    step_closed r (h.times, h.last) h.is_near 38 closes_and
    ∙ ap (λ y. Goes (before_term (with_term y r.parts) (around r.frames))) (h.value ∙ outer_negated frames x outer)
    ∙ ap (λ p. Goes (before_term (with_term x p) (around r.frames))) h.same_parts
    ∙ ap (λ fs. Goes (before_term (with_term x parts) fs)) (h.is_around ∙ outer_around frames outer)

or_goes : (r : Reader) (unions terms : List PlainSelection) (frames : List Frame) → IsInPart r unions terms frames
    → step r 124 ≡ Goes (before_term (record { unions = unions ++ both_of terms ∷ []; boths = [] }) frames)
unfolding after_term
or_goes r unions terms frames h =
    step_closed r (h.times, h.last) h.is_near 124 closes_or
    ∙ ap (λ us. Goes (before_term (record { unions = us ++ last_part (negated (near h.times h.last) r.frames) r.parts ∷ []; boths = [] })
    (around r.frames))) h.same_unions
    ∙ ap (λ ts. Goes (before_term (record { unions = unions ++ both_of ts ∷ []; boths = [] }) (around r.frames))) h.same_terms
    ∙ ap (λ fs. Goes (before_term (record { unions = unions ++ both_of terms ∷ []; boths = [] }) fs)) h.is_around

push_list : (xs ys : List PlainSelection) (x : PlainSelection) → (xs ++ x ∷ []) ++ ys ≡ xs ++ x ∷ ys
push_list xs ys x = append_assoc xs (x ∷ []) ys

terms_come : (Term : Bytes → PlainSelection → Type 0) (frames : List Frame) → IsOuter frames → ReadsTerms Term frames
    → (xs : List PlainSelection) (x : PlainSelection) (text : Bytes) (parts : Parts) → SpellsFrom 38 Term x xs text
    → (r : Reader) × IsInPart r parts.unions (parts.boths ++ x ∷ xs) frames × (run (before_term parts frames) text ≡ Some r)
terms_come Term frames outer reads [] x text parts h =
    let one = reads text x parts h in
    let b = one.1 in (
      one.0,
      record {
        times = b.times;
        last = b.last;
        is_near = b.is_near;
        same_unions = ap (λ p. p.unions) b.same_parts;
        same_terms = ap (λ p. p.boths ++ negated (near b.times b.last) one.0.frames ∷ []) b.same_parts
            ∙ ap (λ y. parts.boths ++ y ∷ []) (b.value ∙ outer_negated frames x outer);
        is_around = b.is_around ∙ outer_around frames outer;
      },
      one.2,
    )
terms_come Term frames outer reads (y ∷ ys) x text parts h =
    let one = reads h.0 x parts h.2 in
    let rest = terms_come Term frames outer reads ys y h.1 (with_term x parts) h.3 in (
      rest.0,
      subst (λ ts. IsInPart rest.0 parts.unions ts frames) (push_list parts.boths (y ∷ ys) x) rest.1,
      ap (run (before_term parts frames)) h.4
          ∙ run_append (before_term parts frames) one.0 h.0 (38 ∷ h.1) one.2
          ∙ run_goes one.0 (before_term (with_term x parts) frames) 38 h.1 (and_goes one.0 x parts frames outer one.1)
          ∙ rest.2,
    )

both_comes : (Term : Bytes → PlainSelection → Type 0) (frames : List Frame) → IsOuter frames → ReadsTerms Term frames
    → (text : Bytes) (x : PlainSelection) (unions : List PlainSelection) → SpellsBoth Term text x
    → (r : Reader) × (terms : List PlainSelection) × IsInPart r unions terms frames × (x ≡ both_of terms)
    × (run (before_term (record { unions = unions; boths = [] }) frames) text ≡ Some r)
both_comes Term frames outer reads text x unions ([], each, is) = absurd each
both_comes Term frames outer reads text x unions (t ∷ ts, each, is) =
    let go = terms_come Term frames outer reads ts t text (record { unions = unions; boths = [] }) each in
    (go.0, t ∷ ts, go.1, is, go.2)

boths_come : (Term : Bytes → PlainSelection → Type 0) (frames : List Frame) → IsOuter frames → ReadsTerms Term frames
    → (xs : List PlainSelection) (x : PlainSelection) (text : Bytes) (unions : List PlainSelection) → SpellsFrom 124 (SpellsBoth Term) x xs text
    → (r : Reader) × IsReady r frames (union_of (unions ++ x ∷ xs)) × (run (before_term (record { unions = unions; boths = [] }) frames) text ≡ Some r)
boths_come Term frames outer reads [] x text unions h =
    let one = both_comes Term frames outer reads text x unions h in
    let p = one.2 in (
      one.0,
      record {
        times = p.times;
        last = p.last;
        is_near = p.is_near;
        is_around = p.is_around;
        value = ap (λ us. union_of (us ++ last_part (negated (near p.times p.last) one.0.frames) one.0.parts ∷ [])) p.same_unions
            ∙ ap (λ ts. union_of (unions ++ both_of ts ∷ [])) p.same_terms
            ∙ ap (λ y. union_of (unions ++ y ∷ [])) (sym one.3);
      },
      one.4,
    )
boths_come Term frames outer reads (y ∷ ys) x text unions h =
    let one = both_comes Term frames outer reads h.0 x unions h.2 in
    let rest = boths_come Term frames outer reads ys y h.1 (unions ++ x ∷ []) h.3 in
    let start = before_term (record { unions = unions; boths = [] }) frames in (
      rest.0,
      subst (λ us. IsReady rest.0 frames (union_of us)) (push_list unions (y ∷ ys) x) rest.1,
      ap (run start) h.4
          ∙ run_append start one.0 h.0 (124 ∷ h.1) one.4
          ∙ run_goes one.0 (before_term (record { unions = unions ++ x ∷ []; boths = [] }) frames) 124 h.1
          (or_goes one.0 unions one.1 frames one.2
          ∙ ap (λ z. Goes (before_term (record { unions = unions ++ z ∷ []; boths = [] }) frames)) (sym one.3))
          ∙ rest.2,
    )

union_comes : (Term : Bytes → PlainSelection → Type 0) (frames : List Frame) → IsOuter frames → ReadsTerms Term frames
    → (text : Bytes) (x : PlainSelection) → SpellsUnion Term text x
    → (r : Reader) × IsReady r frames x × (run (before_term no_parts frames) text ≡ Some r)
union_comes Term frames outer reads text x ([], each, is) = absurd each
union_comes Term frames outer reads text x (b ∷ bs, each, is) =
    let go = boths_come Term frames outer reads bs b text [] each in
    (go.0, subst (IsReady go.0 frames) (sym is) go.1, go.2)

-- ---- terms, by how deep they may nest

room : (deep : ℕ) (frames : List Frame) → suc deep + length frames ≡ 64 → has_room frames ≡ true
room deep frames h = grind (arith, nat_tests)

negation_goes : (parts : Parts) (frames : List Frame) → has_room frames ≡ true
    → step (before_term parts frames) 126 ≡ Goes (before_term parts (Negation ∷ frames))
unfolding step nesting
negation_goes parts frames h = rw h refl

no_inner : (frames : List Frame) → Reads Nothing frames
no_inner frames = λ text x h f parts. absurd h

term_comes : (deep : ℕ) (frames : List Frame) → deep + length frames ≡ 64 → ReadsTerms (SpellsTerm deep) frames
unfolding SpellsTerm
term_comes zero frames fits = λ text x parts h. near_comes Nothing text x parts frames (no_inner frames) h
term_comes (suc deep) frames fits =
    let deeper : (frame : Frame) → deep + length (frame ∷ frames) ≡ 64 = λ frame. omega arith in
    λ text x parts h. elim h [
      | inl not ↦
          let rest = term_comes deep (Negation ∷ frames) (deeper Negation) not.0 not.1 parts not.2 in
          let b = rest.1 in (
            rest.0,
            record {
              times = b.times;
              last = b.last;
              is_near = b.is_near;
              same_parts = b.same_parts;
              is_around = b.is_around;
              value = b.value ∙ ap (λ y. negated y frames) (sym not.4);
            },
            ap (run (before_term parts frames)) not.3
                ∙ run_goes (before_term parts frames) (before_term parts (Negation ∷ frames)) 126 not.0 (negation_goes parts frames (room deep frames fits))
                ∙ rest.2,
          )
      | inr plain ↦
          near_comes (SpellsUnion (SpellsTerm deep)) text x parts frames
          (λ inner y k f outer. (
            room deep frames fits,
            union_comes (SpellsTerm deep) (Opened f outer ∷ frames) tt (term_comes deep (Opened f outer ∷ frames) (deeper (Opened f outer))) inner y k,
          ))
          plain
    ]

-- a selection is read, up to where it may end
pub spelled_comes : (text : Bytes) (x : PlainSelection) → Spells text x
    → (r : Reader) × IsReady r [] x × (run (before_term no_parts []) text ≡ Some r)
spelled_comes text x h = union_comes (SpellsTerm 64) [] tt (term_comes 64 [] refl) text x h
