-- What is read of a text is the selection at its front, or the column where there is none.
use Rattle.std.proofs.Common.{◌≡◌, ℕ, zero, suc, ◌+◌, ◌-◌, ◌≤◌, ◌==◌, ◌||◌, Bool, true, false, [], ◌∷◌, ◌++◌, length, take, drop, Option, Some, Result, Ok}
use Rattle.std.proofs.Common.{Err, refl, sym, ◌∙◌, ap, subst, inl, inr, append_assoc, append-nil, arith, zero-add}
use Rattle.std.specs.Prelude.{◌⊎◌}
use Rattle.std.proofs.lemmas.Bool.{eqb-true}
use Rattle.std.proofs.Math.Seq.{take-length, drop-length}
use Rattle.plain_model.specs.Paths.{Bytes}
use Rattle.plain_model.specs.Blanks.{is_blank}
use Rattle.selection_parser.specs.Plain.{PlainSelection, near}
use Rattle.selection_parser.specs.Spelling.{Spells, ends_here, IsSelection, IsFront, Finds, Refuses}
use Rattle.selection_parser.specs.Reading.{after_term, negated, ended, no_parts, before_term, step, Reader, Next, onward, read_from, selection_at}
use Rattle.selection_parser.specs.Reading.{IsRightAnswer}
use Rattle.selection_parser.specs.Reading.Next.{Goes, Ends, Stops}
use Rattle.selection_parser.proofs.Runs.{gone, onto, run, run_goes}
use Rattle.selection_parser.proofs.Closing.{closes_space, closes_tab, step_closed}
use Rattle.selection_parser.proofs.Primaries.{IsReady}
use Rattle.selection_parser.proofs.Selections.{spelled_comes}
use Rattle.selection_parser.proofs.HasRead.{HasRead}
use Rattle.selection_parser.proofs.Steps.{step_has_read, step_ends}
use Rattle.selection_parser.proofs.Completion.{completed}

-- before the first byte
abbrev pub start : Reader
start = before_term no_parts []

start_has_read : HasRead start []
start_has_read = record {
  deep = 64;
  front = [];
  back = [];
  frames = (refl, record { front = []; back = []; unions = refl; boths = refl; joined = refl });
  state = refl;
  joined = refl;
}

-- ---- equal answers

abbrev value_or : PlainSelection → Result (PlainSelection × ℕ) ℕ → PlainSelection
value_or x (Ok p) = p.0
value_or x (Err column) = x

abbrev count_or : Result (PlainSelection × ℕ) ℕ → ℕ
count_or (Ok p) = p.1
count_or (Err column) = column

-- the answer that finds it
abbrev pub found : PlainSelection → ℕ → Result (PlainSelection × ℕ) ℕ
found x n = Ok (x, n)

same_value : (x y : PlainSelection) (n k : ℕ) → found x n ≡ found y k → x ≡ y
same_value x y n k h = ap (value_or x) h

same_count : (x y : PlainSelection) (n k : ℕ) → found x n ≡ found y k → n ≡ k
same_count x y n k h = ap count_or h

-- ---- what is read is there

-- the selection that is found in the rest of a text
pub record Found (so_far rest : Bytes) (n k : ℕ) (x : PlainSelection) : Type 0 where
  pub more : ℕ
  pub count : k ≡ n + more
  pub within : more ≤ length rest
  pub spelled : Spells (so_far ++ take more rest) x
  pub ends : ends_here (drop more rest) ≡ true

found_there : (rest so_far : Bytes) (n k : ℕ) (r : Reader) (x : PlainSelection) → HasRead r so_far → read_from n r rest ≡ Ok (x, k) → Found so_far rest n k x
found_there [] so_far n k r x h e = go (step r 32) refl e
  where
    go : (s : Next) → step r 32 ≡ s → onward n s (λ next. Err (n + 1)) ≡ Ok (x, k) → Found so_far [] n k x
    go (Goes next) f g = absurd cc
    go Stops f g = absurd cc
    go (Ends y) f g =
        let count = same_count y x n k g in
        let value = same_value y x n k g in
        record {
          more = 0;
          count = omega arith;
          within = omega arith;
          spelled = subst (Spells (so_far ++ [])) value (subst (λ t. Spells t y) (sym (append-nil so_far)) (step_ends r so_far 32 y h f).0);
          ends = refl;
        }
found_there (b ∷ bs) so_far n k r x h e = go (step r b) refl
    (λ next f. found_there bs (so_far ++ b ∷ []) (n + 1) k next x (step_has_read r next so_far b h f)) e
  where
    go : (s : Next) → step r b ≡ s → ((next : Reader) → step r b ≡ Goes next → read_from (n + 1) next bs ≡ Ok (x, k) → Found (so_far ++ b ∷ []) bs (n + 1) k x)
        → onward n s (λ next. read_from (n + 1) next bs) ≡ Ok (x, k) → Found so_far (b ∷ bs) n k x
    go (Goes next) f ih g =
        let rest = ih next f g in
        let count = rest.count in
        let within = rest.within in
        record {
          more = suc rest.more;
          count = omega arith;
          within = omega arith;
          spelled = subst (λ t. Spells t x) (append_assoc so_far (b ∷ []) (take rest.more bs)) rest.spelled;
          ends = rest.ends;
        }
    go Stops f ih g = absurd cc
    go (Ends y) f ih g =
        let count = same_count y x n k g in
        let value = same_value y x n k g in
        let end = step_ends r so_far b y h f in
        record {
          more = 0;
          count = omega arith;
          within = omega arith;
          spelled = subst (Spells (so_far ++ [])) value (subst (λ t. Spells t y) (sym (append-nil so_far)) end.0);
          ends = end.1;
        }

-- ---- what is refused

-- the next byte, if there is one, is refused
abbrev pub IsStopped : Reader → Bytes → Type 0
IsStopped r [] = Unit {0}
IsStopped r (b ∷ bs) = step r b ≡ Stops

pub record Refused (so_far rest : Bytes) (r : Reader) (n column : ℕ) : Type 0 where
  pub more : ℕ
  pub count : column ≡ n + more + 1
  pub within : more ≤ length rest
  pub last : Reader
  pub has_read : HasRead last (so_far ++ take more rest)
  pub goes : run r (take more rest) ≡ Some last
  pub stops : IsStopped last (drop more rest)

refused_there : (rest so_far : Bytes) (n column : ℕ) (r : Reader) → HasRead r so_far → read_from n r rest ≡ Err column → Refused so_far rest r n column
refused_there [] so_far n column r h e = go (step r 32) e
  where
    done : column ≡ n + 0 + 1 → Refused so_far [] r n column
    done c = record { more = 0; count = c; within = omega arith; last = r; has_read = subst (HasRead r) (sym (append-nil so_far)) h; goes = refl; stops = tt }

    go : (s : Next) → onward n s (λ next. Err (n + 1)) ≡ Err column → Refused so_far [] r n column
    go (Goes next) g = let c : n + 1 ≡ column = cc in done (omega arith)
    go Stops g = let c : n + 1 ≡ column = cc in done (omega arith)
    go (Ends y) g = absurd cc
refused_there (b ∷ bs) so_far n column r h e =
    go (step r b) refl (λ next f. refused_there bs (so_far ++ b ∷ []) (n + 1) column next (step_has_read r next so_far b h f)) e
  where
    go : (s : Next) → step r b ≡ s
        → ((next : Reader) → step r b ≡ Goes next → read_from (n + 1) next bs ≡ Err column → Refused (so_far ++ b ∷ []) bs next (n + 1) column)
        → onward n s (λ next. read_from (n + 1) next bs) ≡ Err column → Refused so_far (b ∷ bs) r n column
    go (Goes next) f ih g =
        let rest = ih next f g in
        let count = rest.count in
        let within = rest.within in
        record {
          more = suc rest.more;
          count = omega arith;
          within = omega arith;
          last = rest.last;
          has_read = subst (HasRead rest.last) (append_assoc so_far (b ∷ []) (take rest.more bs)) rest.has_read;
          goes = run_goes r next b (take rest.more bs) f ∙ rest.goes;
          stops = rest.stops;
        }
    go Stops f ih g =
        let c : n + 1 ≡ column = cc in
        record {
          more = 0;
          count = omega arith;
          within = omega arith;
          last = r;
          has_read = subst (HasRead r)
              (sym (append-nil so_far)) h;
          goes = refl;
          stops = f;
        }
    go (Ends y) f ih g = absurd cc

-- ---- what is there is read

after : (s : Next) (f : Reader → Option Reader) (q : Reader) (A : Type 0) → ((n : Reader) → s ≡ Goes n → f n ≡ Some q → A)
    → onto (gone s) f ≡ Some q → A
after (Goes n) f q A go h = go n refl h
after (Ends x) f q A go h = absurd cc
after Stops f q A go h = absurd cc

read_along : (x rest : Bytes) (n : ℕ) (r q : Reader) → run r x ≡ Some q → read_from n r (x ++ rest) ≡ read_from (n + length x) q rest
read_along [] rest n r q h =
    let same : r ≡ q = cc in
    let count : n ≡ n + 0 = omega arith in
    ap (λ s. read_from n s rest) same ∙ ap (λ m. read_from m q rest) count
read_along (b ∷ bs) rest n r q h =
    let count : n + 1 + length bs ≡ n + suc (length bs) = omega arith in
    after (step r b) (λ next. run next bs) q (read_from n r (b ∷ (bs ++ rest)) ≡ read_from (n + suc (length bs)) q rest)
    (λ next f g. ap (λ s. onward n s (λ m. read_from (n + 1) m (bs ++ rest))) f ∙ read_along bs rest (n + 1) next q g ∙ ap (λ m. read_from m q rest) count)
    h

space_ends : (r : Reader) (x : PlainSelection) → IsReady r [] x → step r 32 ≡ Ends x
unfolding after_term
space_ends r x h =
    step_closed r (h.times, h.last) h.is_near 32 closes_space
    ∙ ap (λ fs. ended (negated (near h.times h.last) r.frames) r.parts fs) h.is_around
    ∙ ap Ends h.value

tab_ends : (r : Reader) (x : PlainSelection) → IsReady r [] x → step r 9 ≡ Ends x
unfolding after_term
tab_ends r x h =
    step_closed r (h.times, h.last) h.is_near 9 closes_tab
    ∙ ap (λ fs. ended (negated (near h.times h.last) r.frames) r.parts fs) h.is_around
    ∙ ap Ends h.value

either : (a b : Bool) → (a || b) ≡ true → (a ≡ true) ⊎ (b ≡ true)
either true b h = inl refl
either false b h = inr h

blank_ends : (r : Reader) (x : PlainSelection) (b : ℕ) → IsReady r [] x → is_blank b ≡ true → step r b ≡ Ends x
blank_ends r x b h k =
    elim (either (b == 32) (b == 9) k) [
      | inl space ↦ ap (step r) (eqb-true b 32 space) ∙ space_ends r x h
      | inr tab ↦ ap (step r) (eqb-true b 9 tab) ∙ tab_ends r x h
    ]

read_end : (rest : Bytes) (n : ℕ) (r : Reader) (x : PlainSelection) → IsReady r [] x → ends_here rest ≡ true → read_from n r rest ≡ Ok (x, n)
read_end [] n r x h k = ap (λ s. onward n s (λ next. Err (n + 1))) (space_ends r x h)
read_end (b ∷ bs) n r x h k = ap (λ s. onward n s (λ next. read_from (n + 1) next bs)) (blank_ends r x b h k)

pub take_drop : (n : ℕ) (xs : Bytes) → take n xs ++ drop n xs ≡ xs
take_drop zero xs = refl
take_drop (suc n) [] = refl
take_drop (suc n) (x ∷ xs) = ap (λ t. x ∷ t) (take_drop n xs)

length_taken : (n : ℕ) (xs : Bytes) → n ≤ length xs → length (take n xs) ≡ n
length_taken zero xs h = refl
length_taken (suc n) [] h = absurd (omega arith)
length_taken (suc n) (x ∷ xs) h = ap suc (length_taken n xs (omega arith))

-- a selection at the front is read
read_there : (text : Bytes) (n : ℕ) (x : PlainSelection) → IsSelection text n x → selection_at text ≡ Ok (x, n)
unfolding selection_at
read_there text n x h =
    let comes = spelled_comes (take n text) x h.spelled in
    let count : 0 + length (take n text) ≡ n = zero-add (length (take n text)) ∙ length_taken n text h.within in
    ap (read_from 0 start) (sym (take_drop n text))
    ∙ read_along (take n text) (drop n text) 0 start comes.0 comes.2
    ∙ ap (λ m. read_from m comes.0 (drop n text)) count
    ∙ read_end (drop n text) n comes.0 x comes.1 h.ends

-- ---- fronts

-- bytes that are taken, or the last of which ends the selection
abbrev viable : Next → (Reader → Type 0) → Bytes → Type 0
viable (Goes n) f bs = f n
viable (Ends x) f bs = bs ≡ []
viable Stops f bs = ⊥

abbrev Viable : Reader → Bytes → Type 0
Viable r [] = Unit {0}
Viable r (b ∷ bs) = viable (step r b) (λ next. Viable next bs) bs

viable_run : (x y : Bytes) (r q : Reader) → run r x ≡ Some q → Viable q y → Viable r (x ++ y)
viable_run [] y r q h k = let same : r ≡ q = cc in subst (λ s. Viable s y) (sym same) k
viable_run (b ∷ bs) y r q h k = go (step r b) (λ n g. viable_run bs y n q g k) h
  where
    go : (s : Next) → ((n : Reader) → run n bs ≡ Some q → Viable n (bs ++ y)) → onto (gone s) (λ n. run n bs) ≡ Some q
        → viable s (λ next. Viable next (bs ++ y)) (bs ++ y)
    go (Goes n) ih g = ih n g
    go (Ends x) ih g = absurd cc
    go Stops ih g = absurd cc

viable_front : (x y : Bytes) (r : Reader) → Viable r (x ++ y) → Viable r x
viable_front [] y r h = tt
viable_front (b ∷ bs) y r h = go (step r b) (λ n g. viable_front bs y n g) h
  where
    empty : (xs ys : Bytes) → xs ++ ys ≡ [] → xs ≡ []
    empty [] ys e = refl
    empty (c ∷ cs) ys e = absurd cc

    go : (s : Next) → ((n : Reader) → Viable n (bs ++ y) → Viable n bs) → viable s (λ next. Viable next (bs ++ y)) (bs ++ y)
        → viable s (λ next. Viable next bs) bs
    go (Goes n) ih g = ih n g
    go (Ends x) ih g = empty bs y g
    go Stops ih g = g

viable_after : (x y : Bytes) (r q : Reader) → run r x ≡ Some q → Viable r (x ++ y) → Viable q y
viable_after [] y r q h k = let same : r ≡ q = cc in subst (λ s. Viable s y) same k
viable_after (b ∷ bs) y r q h k = go (step r b) (λ n g l. viable_after bs y n q g l) h k
  where
    go : (s : Next) → ((n : Reader) → run n bs ≡ Some q → Viable n (bs ++ y) → Viable q y) → onto (gone s) (λ n. run n bs) ≡ Some q
        → viable s (λ next. Viable next (bs ++ y)) (bs ++ y) → Viable q y
    go (Goes n) ih g l = ih n g l
    go (Ends x) ih g l = absurd cc
    go Stops ih g l = absurd cc

-- the front of a selection that a blank follows lives
front_viable : (front : Bytes) → IsFront front → Viable start front
front_viable front h =
    let comes = spelled_comes h.selection h.value h.spelled in
    let end : Viable comes.0 (h.blank ∷ []) = subst (λ s. viable s (λ next. Unit {0}) []) (sym (blank_ends comes.0 h.value h.blank comes.1 h.blanks)) refl in
    let all : Viable start (h.selection ++ h.blank ∷ []) = viable_run h.selection (h.blank ∷ []) start comes.0 comes.2 end in
    viable_front front h.rest start (subst (Viable start) (sym h.goes_on) all)

-- a longer front is a shorter one with more bytes
longer : (m : ℕ) (j : ℕ) (xs : Bytes) (k : ℕ) → k ≡ m + suc j → k ≤ length xs
    → (b : ℕ) × (more later : Bytes) × (take k xs ≡ take m xs ++ b ∷ more) × (drop m xs ≡ b ∷ later)
longer m j [] k e h = absurd (omega arith)
longer zero j (x ∷ xs) zero e h = absurd (omega arith)
longer zero j (x ∷ xs) (suc k) e h = (x, take k xs, xs, refl, refl)
longer (suc m) j (x ∷ xs) zero e h = absurd (omega arith)
longer (suc m) j (x ∷ xs) (suc k) e h =
    let rest = longer m j xs k (omega arith) (omega arith) in
    (rest.0, rest.1, rest.2, ap (λ t. x ∷ t) rest.3, rest.4)

stopped_not_viable : (r : Reader) (b : ℕ) (more later : Bytes) (rest : Bytes) → IsStopped r rest → rest ≡ b ∷ later → Viable r (b ∷ more) → ⊥
stopped_not_viable r b more later rest h e l =
    let stops : step r b ≡ Stops = subst (IsStopped r) e h in
    subst (λ s. viable s (λ next. Viable next more) more) stops l

-- ---- both answers

finds : (text : Bytes) (n : ℕ) (x : PlainSelection) → selection_at text ≡ Ok (x, n) → Finds text n x
unfolding selection_at
finds text n x h =
    let f = found_there text [] 0 n start x start_has_read h in
    let count : f.more ≡ n = (let c = f.count in omega arith) in
    record {
      there = record {
        within = subst (λ k. k ≤ length text) count f.within;
        spelled = subst (λ k. Spells (take k text) x) count f.spelled;
        ends = subst (λ k. ends_here (drop k text) ≡ true) count f.ends;
      };
      only = λ m y k.
          (let same : found y m ≡ found x n = sym (read_there text m y k) ∙ h in
          (same_count y x m n same, same_value y x m n same));
    }

refuses : (text : Bytes) (column : ℕ) → selection_at text ≡ Err column → Refuses text column
unfolding selection_at
refuses text column h =
    let f = refused_there text [] 0 column start start_has_read h in
    let count : column - 1 ≡ f.more = (let c = f.count in omega arith) in
    let done = completed f.last (take f.more text) f.has_read in
    let front : IsFront (take f.more text) = record {
      selection = take f.more text ++ done.0;
      value = done.1;
      spelled = done.2;
      blank = 32;
      blanks = refl;
      rest = done.0 ++ 32 ∷ [];
      goes_on = sym (append_assoc (take f.more text) done.0 (32 ∷ []));
    } in
    record {
      none = λ m y k. (let e = read_there text m y k in let same : selection_at text ≡ Err column = h in
          let wrong : Ok (y, m) ≡ Err column = sym e ∙ same in cc);
      counts = (let c = f.count in omega arith);
      within = (let c = f.count in let w = f.within in omega arith);
      front = subst (λ k. IsFront (take k text)) (sym count) front;
      longest = λ m above within is_front.
          (let c = f.count in
          let l = longer f.more (m - suc f.more) text m (omega arith) within in
          let viable : Viable start (take f.more text ++ l.0 ∷ l.1) = subst (Viable start) l.3 (front_viable (take m text) is_front) in
          stopped_not_viable f.last l.0 l.1 l.2 (drop f.more text) f.stops l.4
          (viable_after (take f.more text) (l.0 ∷ l.1) start f.last f.goes viable));
    }

-- what is read of a text is right
pub answered_rightly : (text : Bytes) → IsRightAnswer text (selection_at text)
answered_rightly text = go (selection_at text) refl
  where
    go : (r : Result (PlainSelection × ℕ) ℕ) → selection_at text ≡ r → IsRightAnswer text r
    go (Ok p) e = finds text p.1 p.0 e
    go (Err column) e = refuses text column e

pub found_so : (text : Bytes) (n : ℕ) (x : PlainSelection) → found x n ≡ selection_at text → Finds text n x
found_so text n x h = finds text n x (sym h)

-- the answer that refuses it there
abbrev pub refused : ℕ → Result (PlainSelection × ℕ) ℕ
refused column = Err column

pub refused_so : (text : Bytes) (column : ℕ) → refused column ≡ selection_at text → Refuses text column
refused_so text column h = refuses text column (sym h)

-- a text that is a selection is one up to its end
pub whole_there : (text : Bytes) (x : PlainSelection) → Spells text x → IsSelection text (length text) x
whole_there text x h = record {
  within = omega arith;
  spelled = subst (λ t. Spells t x) (sym (take-length text)) h;
  ends = ap ends_here (drop-length text);
}

-- a text spells one selection at most
pub spelled_once : (text : Bytes) (x y : PlainSelection) → Spells text x → Spells text y → x ≡ y
spelled_once text x y h k =
    same_value x y (length text) (length text)
    (sym (read_there text (length text) x (whole_there text x h)) ∙ read_there text (length text) y (whole_there text y k))
