-- Steps one after another, of which each may build patterns.
use Rattle.std.proofs.Common.{◌≡◌, ℕ, zero, suc, ◌+◌, ◌≤◌, Bool, true, false, List, [], ◌∷◌, ◌++◌, length, Option, Some, None, Result, Ok, Err, refl, sym, ◌∙◌, subst, ap, arith, append_assoc}
use Rattle.std.specs.Prelude.{slice_get}
use Rattle.std.specs.Result.{IsErrAnd}
use Rattle.plain_model.specs.Paths.{Bytes}
use Rattle.plain_model.specs.declared.fault.Fault.{Fault}
use Rattle.plain_model.specs.declared.fault.Fault.TheVariants as fault
use Rattle.plain_model.specs.declared.fault.Halt.{Halt}
use Rattle.plain_model.specs.declared.fault.Halt.TheVariants as halt
use Rattle.plain_model.proofs.Counts.{rose_before}
use Rattle.byte_patterns.specs.Judging.{Denial, Judged, Judges, Reason, ◌>>>◌, is_sized, its_nesting, its_size, next_of, under, unless_deep, with_built, without}
use Rattle.byte_patterns.specs.Searching.{is_too_deep}

-- ---- places among texts

front_get : (a b : List Bytes) (k : ℕ) (text : Bytes) → slice_get a k ≡ Some text → slice_get (a ++ b) k ≡ Some text
front_get [] b zero text h = absurd cc
front_get [] b (suc k) text h = absurd cc
front_get (x ∷ a) b zero text h = h
front_get (x ∷ a) b (suc k) text h = front_get a b k text h

after_get : (a b : List Bytes) (k : ℕ) → slice_get (a ++ b) (length a + k) ≡ slice_get b k
after_get [] b k = let e : 0 + k ≡ k = omega arith in ap (slice_get b) e
after_get (x ∷ a) b k =
    let e : suc (length a) + k ≡ suc (length a + k) = omega arith in
    ap (slice_get (x ∷ (a ++ b))) e ∙ after_get a b k

-- ---- a refusal stays

deep_err : {A B : Type 0} (text : Bytes) (b : Bool) (why out : Fault) → unless_deep {A = A} text b (Err why) ≡ Err out
    → unless_deep {A = B} text b (Err why) ≡ Err out
deep_err text true why out h = let e : fault.BadPattern text ≡ out = cc in ap Err e
deep_err text false why out h = let e : why ≡ out = cc in ap Err e

without_err : {A B : Type 0} (reason : Reason) (o : Option Bytes) (why out : Fault) → without {A = A} reason o (Err why) ≡ Err out
    → without {A = B} reason o (Err why) ≡ Err out
without_err reason None why out h = let e : why ≡ out = cc in ap Err e
without_err its_size (Some text) why out h = let e : fault.PatternTooBig text ≡ out = cc in ap Err e
without_err its_nesting (Some text) why out h = deep_err text (is_too_deep text) why out h

deep_ok : {A B : Type 0} (text : Bytes) (b : Bool) (x : A) (value : Result B Fault) (out : Fault)
    → unless_deep text b (Ok x) ≡ Err out → unless_deep text b value ≡ Err out
deep_ok text true x value out h = let e : fault.BadPattern text ≡ out = cc in ap Err e
deep_ok text false x value out h = absurd cc

without_ok : {A B : Type 0} (reason : Reason) (a b : List Bytes) (k : ℕ) (o : Option Bytes) → slice_get a k ≡ o → (x : A)
    (value : Result B Fault) (out : Fault) → without reason o (Ok x) ≡ Err out
    → without reason (slice_get (a ++ b) k) value ≡ Err out
without_ok reason a b k None is x value out h = absurd cc
without_ok its_size a b k (Some text) is x value out h =
    rw (front_get a b k text is) (let e : fault.PatternTooBig text ≡ out = cc in ap Err e)
without_ok its_nesting a b k (Some text) is x value out h =
    rw (front_get a b k text is) (deep_ok text (is_too_deep text) x value out h)

under_next : {A B : Type 0} (denial : Option Denial) (built : List Bytes) (value : Result A Fault) (next : A → Judged B)
    (out : Fault) → under denial (record { built = built; value = value }) ≡ Err out
    → under denial (next_of built value next) ≡ Err out
under_next None built (Ok x) next out h = absurd cc
under_next None built (Err why) next out h = let e : why ≡ out = cc in ap Err e
under_next (Some d) built (Ok x) next out h =
    without_ok d.reason built (next x).built d.place (slice_get built d.place) refl x (next x).value out h
under_next (Some d) built (Err why) next out h = without_err d.reason (slice_get built d.place) why out h

-- what is refused at the first step is refused
pub stopped : {X Y A B : Type 0} (view : X → A) (other : Y → B) (before now : ℕ) (ended : Halt) (j : Judged A)
    (next : A → Judged B) → Judges view before now (Err ended) j → Judges other before now (Err ended) (j >>> next)
stopped view other before now halt.Memory j next h = tt
stopped view other before now (halt.Refused out) j next h =
    (h.0, h.1, under_next h.0 j.built j.value next out h.2)

-- ---- a later refusal

abbrev moved : ℕ → Option Denial → Option Denial
moved n None = None
moved n (Some d) = Some (record { place = n + d.place; reason = d.reason })

moved_sized : (n : ℕ) (denial : Option Denial) → is_sized (moved n denial) ≡ is_sized denial
moved_sized n None = refl
moved_sized n (Some d) = refl

moved_under : {B : Type 0} (denial : Option Denial) (built : List Bytes) (j : Judged B) (out : Fault)
    → under denial j ≡ Err out → under (moved (length built) denial) (with_built built j) ≡ Err out
moved_under None built j out h = h
moved_under (Some d) built j out h = rw (after_get built j.built d.place) h

later : {Y B : Type 0} (other : Y → B) (a b c : ℕ) (r : Result Y Halt) (built : List Bytes) (j : Judged B) → a ≤ b
    → Judges other b c r j → Judges other a c r (with_built built j)
later other a b c (Ok y) built j le h = h
later other a b c (Err halt.Memory) built j le h = tt
later other a b c (Err (halt.Refused out)) built j le h = (
  moved (length built) h.0,
  λ sized. rose_before a b c le (h.1 (sym (moved_sized (length built) h.0) ∙ sized)),
  moved_under h.0 built j out h.2,
)

-- after a first step that gives a value, what the next one gives
pub went_on : {A Y B : Type 0} (other : Y → B) (a b c : ℕ) (r : Result Y Halt) (j : Judged A) (x : A)
    (next : A → Judged B) → j.value ≡ Ok x → a ≤ b → Judges other b c r (next x) → Judges other a c r (j >>> next)
went_on other a b c r j x next is le h = rw is (later other a b c r j.built (next x) le h)

-- ---- what comes first, and what comes then

abbrev pub as_judged : {A : Type 0} → List Bytes → Result A Fault → Judged A
as_judged built value = record { built = built; value = value }

-- what is done with what comes of two steps is done after the second
pub one_by_one : {A B C : Type 0} (j : Judged A) (f : A → Judged B) (g : B → Judged C) → ((j >>> f) >>> g) ≡ (j >>> λ x. f x >>> g)
one_by_one {A} {B} {C} j f g = first j.value
  where
    second : (next : Judged B) (r : Result B Fault) → next_of (j.built ++ next.built) r g ≡ with_built j.built (next_of next.built r g)
    second next (Err why) = refl
    second next (Ok y) = ap (λ (built : List Bytes). as_judged built (g y).value) (append_assoc j.built next.built (g y).built)

    first : (r : Result A Fault) → (next_of j.built r f >>> g) ≡ next_of j.built r (λ x. f x >>> g)
    first (Ok x) = second (f x) (f x).value
    first (Err why) = refl

-- a refusal that is passed on
pub passed_on : {Y B : Type 0} (view : Y → B) (before now : ℕ) (ended : Halt) (r : Result Y Halt) (j : Judged B) → IsErrAnd r (λ e. e ≡ ended)
    → Judges view before now (Err ended) j → Judges view before now r j
passed_on view before now ended (Ok y) j is h = absurd is
passed_on view before now ended (Err e) j is h = subst (λ (x : Halt). Judges view before now (Err x) j) (sym is) h
