-- Commits by their seconds, one after another.
use Rattle.std.proofs.Common.{◌≡◌, ◌∙◌, ℕ, ◌<◌, Bool, true, false, cond, List, [], ◌∷◌, ◌++◌, nat_lt, Option, Some, None, refl, sym, ap, subst, arith, append-nil, eqb-true, true≢false}
use Rattle.std.specs.Prelude.{◌==◌, not, filter, flat_map, if◌then◌else◌, option_map}
use Rattle.std.specs.Option.{option_or}
use Rattle.std.specs.List.{AllByRecursion, fold}
use Rattle.std.specs.BTreeMap.{insert_entry}
use Rattle.std.specs.BTreeMap.Range.{entries_between}
use Rattle.std.specs.declared.ops.Bound.TheVariants.{Excluded, Unbounded}
use Rattle.std.specs.List.Sorted.{IsStrictlySortedBy}
use Rattle.std.specs.Map.{keys_of}
use Rattle.std.specs.Ordering.{is_le, match_ordering, nat_cmp}
use Rattle.std.specs.declared.cmp.Ordering.TheVariants.{Less, Equal, Greater}
use Rattle.std.proofs.lemmas.Bool.Decides.{nat_tests}
use Rattle.std.proofs.lemmas.Grind.{flat_map-append}
use Rattle.history_laws.proofs.Lists.{all_imply}
use Rattle.plain_model.specs.declared.event.PlainEvent.{PlainEvent}
use Rattle.graft_laws.specs.Unite.{dated, later_of, latest_before}
use Rattle.graft_unite.specs.Dates.{AreDatesOf, last_of, later, latest_in, with_commit}

-- ---- tests

under : (a b : ℕ) → a < b → nat_lt a b ≡ true
under a b h = grind (arith, nat_tests)

over : (a b : ℕ) → a < b → nat_lt b a ≡ false
over a b h = grind (arith, nat_tests)

not_own : (a : ℕ) → nat_lt a a ≡ false
not_own a = grind (arith, nat_tests)

lower : (a b : ℕ) → nat_lt a b ≡ true → a < b
lower a b h = grind (arith, nat_tests)

greater : (a b : ℕ) → nat_lt a b ≡ false → (a == b) ≡ false → b < a
greater a b h k = grind (arith, nat_tests)

through : (a b c : ℕ) → a < b → nat_lt b c ≡ true → nat_lt a c ≡ true
through a b c h k = grind (arith, nat_tests)

less : (a b : ℕ) → nat_cmp a b ≡ Less → a < b
less a b h = go (nat_lt a b) refl h
  where
    go : (t : Bool) → nat_lt a b ≡ t → cond t Less (cond (a == b) Equal Greater) ≡ Less → a < b
    go true is x = lower a b is
    go false is x = absurd (neither (a == b) x)
      where
        neither : (t : Bool) → cond t Equal Greater ≡ Less → ⊥
        neither true x = cc
        neither false x = cc

-- ---- one second more

-- each second is below those behind it
abbrev pub DoRise : List (ℕ × ℕ) → Type 0
DoRise [] = Unit {0}
DoRise (e ∷ es) = AllByRecursion (λ (f : ℕ × ℕ). e.0 < f.0) es × DoRise es

module _ (second c seconds : ℕ) where
  abbrev find : List (ℕ × ℕ) → Option (ℕ × ℕ)
  find es = latest_in es seconds

  abbrev step : Bool → ℕ × ℕ → Option (ℕ × ℕ) → Option (ℕ × ℕ)
  step b e o = if b then option_or o (Some e) else o

  find_step : (e : ℕ × ℕ) (es : List (ℕ × ℕ)) → find (e ∷ es) ≡ step (nat_lt e.0 seconds) e (find es)
  find_step e es = go (nat_lt e.0 seconds)
    where
      go : (b : Bool) → last_of (cond b (e ∷ filter (λ (f : ℕ × ℕ). nat_lt f.0 seconds) es) (filter (λ (f : ℕ × ℕ). nat_lt f.0 seconds) es)) ≡ step b e (find es)
      go true = refl
      go false = refl

  -- what is found is one of those behind
  found_above : (es : List (ℕ × ℕ)) → AllByRecursion (λ (f : ℕ × ℕ). second < f.0) es → (e : ℕ × ℕ) → find es ≡ Some e → second < e.0
  found_above [] all e h = absurd cc
  found_above (f ∷ es) all e h = go (nat_lt f.0 seconds) (find es) refl (found_above es all.1 e) (sym (find_step f es) ∙ h)
    where
      go : (b : Bool) (o : Option (ℕ × ℕ)) → find es ≡ o → (find es ≡ Some e → second < e.0) → step b f o ≡ Some e → second < e.0
      go true None is rest x = let same : f ≡ e = cc in subst (λ (g : ℕ × ℕ). second < g.0) same all.0
      go true (Some g) is rest x = rest (is ∙ x)
      go false o is rest x = rest (is ∙ x)

  abbrev with_one : Bool → Option (ℕ × ℕ) → Option (ℕ × ℕ)
  with_one b o = if b then later o second c else o

  -- in front of greater seconds
  in_front : (es : List (ℕ × ℕ)) → AllByRecursion (λ (f : ℕ × ℕ). second < f.0) es → find ((second, c) ∷ es) ≡ with_one (nat_lt second seconds) (find es)
  in_front es all = find_step (second, c) es ∙ go (nat_lt second seconds) (find es) refl
    where
      go : (b : Bool) (o : Option (ℕ × ℕ)) → find es ≡ o → step b (second, c) o ≡ with_one b o
      go true None is = refl
      go true (Some f) is = sym (ap (λ b. if b then Some f else Some (second, c)) (under second f.0 (found_above es all f is)))
      go false o is = refl

  -- in the place of one of its second
  in_place : (e : ℕ × ℕ) (es : List (ℕ × ℕ)) → second ≡ e.0 → AllByRecursion (λ (f : ℕ × ℕ). second < f.0) es → find ((e.0, c) ∷ es) ≡ with_one (nat_lt second seconds) (find (e ∷ es))
  in_place e es same all =
      ap (λ n. find ((n, c) ∷ es)) (sym same) ∙ find_step (second, c) es ∙ go (nat_lt second seconds) (find es) refl
      ∙ ap (λ n. with_one (nat_lt second seconds) (step (nat_lt n seconds) e (find es))) same ∙ ap (with_one (nat_lt second seconds)) (sym (find_step e es))
    where
      go : (b : Bool) (o : Option (ℕ × ℕ)) → find es ≡ o → step b (second, c) o ≡ with_one b (step b e o)
      go true None is = sym (ap (λ b. if b then Some e else Some (second, c)) (ap (nat_lt second) (sym same) ∙ not_own second))
      go true (Some f) is = sym (ap (λ b. if b then Some f else Some (second, c)) (under second f.0 (found_above es all f is)))
      go false o is = refl

  -- behind a lower second
  behind : (e : ℕ × ℕ) (es new : List (ℕ × ℕ)) → e.0 < second → find new ≡ with_one (nat_lt second seconds) (find es) → find (e ∷ new) ≡ with_one (nat_lt second seconds) (find (e ∷ es))
  behind e es new low h =
      find_step e new ∙ ap (step (nat_lt e.0 seconds) e) h ∙ go (nat_lt second seconds) (nat_lt e.0 seconds) (find es) refl refl
      ∙ ap (with_one (nat_lt second seconds)) (sym (find_step e es))
    where
      go : (b d : Bool) (o : Option (ℕ × ℕ)) → nat_lt second seconds ≡ b → nat_lt e.0 seconds ≡ d → step d e (with_one b o) ≡ with_one b (step d e o)
      go true true None is it = sym (ap (λ b. if b then Some e else Some (second, c)) (over e.0 second low))
      go true true (Some f) is it = both (nat_lt second f.0)
        where
          both : (b : Bool) → option_or (if b then Some f else Some (second, c)) (Some e) ≡ (if b then Some f else Some (second, c))
          both true = refl
          both false = refl
      go true false o is it = absurd (true≢false (sym (through e.0 second seconds low is) ∙ it))
      go false d o is it = refl

  inserted : (es : List (ℕ × ℕ)) → DoRise es → find (insert_entry nat_cmp es second c) ≡ with_one (nat_lt second seconds) (find es)
  inserted [] rise = in_front [] tt
  inserted (e ∷ es) rise = go (nat_lt second e.0) (second == e.0) refl refl (inserted es rise.1)
    where
      go : (a b : Bool) → nat_lt second e.0 ≡ a → (second == e.0) ≡ b → find (insert_entry nat_cmp es second c) ≡ with_one (nat_lt second seconds) (find es)
          → find (match_ordering (cond a Less (cond b Equal Greater)) ((second, c) ∷ e ∷ es) ((e.0, c) ∷ es) (e ∷ insert_entry nat_cmp es second c)) ≡ with_one (nat_lt second seconds) (find (e ∷ es))
      go true b is it rest =
          let low = lower second e.0 is in
          in_front (e ∷ es) (low, all_imply (λ (f : ℕ × ℕ). e.0 < f.0) (λ (f : ℕ × ℕ). second < f.0) (λ f h. omega arith) es rise.0)
      go false true is it rest =
          let same = eqb-true second e.0 it in
          in_place e es same (subst (λ n. AllByRecursion (λ (f : ℕ × ℕ). n < f.0) es) (sym same) rise.0)
      go false false is it rest = behind e es (insert_entry nat_cmp es second c) (greater second e.0 is it) rest

-- seconds in the order of their keys rise
rises : (es : List (ℕ × ℕ)) → IsStrictlySortedBy nat_cmp (keys_of es) → DoRise es
unfolding IsStrictlySortedBy
rises [] h = tt
rises (e ∷ es) h = (each es h.0, rises es h.1)
  where
    each : (fs : List (ℕ × ℕ)) → AllByRecursion (λ y. nat_cmp e.0 y ≡ Less) (keys_of fs) → AllByRecursion (λ (f : ℕ × ℕ). e.0 < f.0) fs
    each [] a = tt
    each (f ∷ fs) a = (less e.0 f.0 a.0, each fs a.1)

-- a commit under its second
pub added : (es : List (ℕ × ℕ)) (second c : ℕ) → IsStrictlySortedBy nat_cmp (keys_of es) → (seconds : ℕ) → latest_in (insert_entry nat_cmp es second c) seconds ≡ with_commit es second c seconds
added es second c sorted seconds = inserted second c seconds es (rises es sorted)

-- ---- the latest commit

filter_append : (test : ℕ × ℕ → Bool) (xs ys : List (ℕ × ℕ)) → filter test (xs ++ ys) ≡ filter test xs ++ filter test ys
filter_append test [] ys = refl
filter_append test (x ∷ xs) ys = go (test x) (filter_append test xs ys)
  where
    go : (b : Bool) → filter test (xs ++ ys) ≡ filter test xs ++ filter test ys → cond b (x ∷ filter test (xs ++ ys)) (filter test (xs ++ ys)) ≡ cond b (x ∷ filter test xs) (filter test xs) ++ filter test ys
    go true h = ap (λ (l : List (ℕ × ℕ)). x ∷ l) h
    go false h = h

fold_append : (o : Option (ℕ × ℕ)) (xs ys : List (ℕ × ℕ)) → fold later_of o (xs ++ ys) ≡ fold later_of (fold later_of o xs) ys
fold_append o [] ys = refl
fold_append o (x ∷ xs) ys = fold_append (later_of o x) xs ys

latest_append : (events : List PlainEvent) (e : PlainEvent) (seconds : ℕ) → latest_before (events ++ e ∷ []) seconds ≡ fold later_of (latest_before events seconds) (filter (λ d. nat_lt d.1 seconds) (dated e))
latest_append events e seconds =
    let test : ℕ × ℕ → Bool = λ d. nat_lt d.1 seconds in
    ap (λ (l : List (ℕ × ℕ)). fold later_of None (filter test l)) (flat_map-append dated events (e ∷ []) ∙ ap (λ (l : List (ℕ × ℕ)). flat_map dated events ++ l) (append-nil (dated e)))
    ∙ ap (fold later_of None) (filter_append test (flat_map dated events) (dated e))
    ∙ fold_append None (filter test (flat_map dated events)) (filter test (dated e))

abbrev swapped : Option (ℕ × ℕ) → Option (ℕ × ℕ)
swapped o = option_map (λ d. (d.1, d.0)) o

-- one commit more
pub noted : (events : List PlainEvent) (old new : List (ℕ × ℕ)) (e : PlainEvent) (id second : ℕ) → dated e ≡ (id, second) ∷ [] → AreDatesOf events old
    → ((seconds : ℕ) → latest_in new seconds ≡ with_commit old second id seconds) → AreDatesOf (events ++ e ∷ []) new
noted events old new e id second is are more seconds =
    more seconds
    ∙ ap (λ (o : Option (ℕ × ℕ)). if nat_lt second seconds then later o second id else o) (are seconds)
    ∙ go (nat_lt second seconds) (latest_before events seconds)
    ∙ ap (λ (l : List (ℕ × ℕ)). swapped (fold later_of (latest_before events seconds) (filter (λ d. nat_lt d.1 seconds) l))) (sym is)
    ∙ ap swapped (sym (latest_append events e seconds))
  where
    kept : (best : ℕ × ℕ) (b : Bool) → (if b then Some (best.1, best.0) else Some (second, id)) ≡ swapped (if b then Some best else Some (id, second))
    kept best true = refl
    kept best false = refl

    go : (b : Bool) (o : Option (ℕ × ℕ)) → (if b then later (swapped o) second id else swapped o) ≡ swapped (fold later_of o (cond b ((id, second) ∷ []) []))
    go true None = refl
    go true (Some best) = kept best (nat_lt second best.1)
    go false o = refl

-- one other event more
pub passed : (events : List PlainEvent) (dates : List (ℕ × ℕ)) (e : PlainEvent) → dated e ≡ [] → AreDatesOf events dates → AreDatesOf (events ++ e ∷ []) dates
passed events dates e is are seconds =
    are seconds
    ∙ ap (λ (l : List (ℕ × ℕ)). swapped (fold later_of (latest_before events seconds) (filter (λ d. nat_lt d.1 seconds) l))) (sym is)
    ∙ ap swapped (sym (latest_append events e seconds))

-- ---- what a map answers

pub last_behind : (es : List (ℕ × ℕ)) (e : ℕ × ℕ) → last_of (es ++ e ∷ []) ≡ Some e
last_behind [] e = refl
last_behind (f ∷ es) e = ap (λ (o : Option (ℕ × ℕ)). option_or o (Some f)) (last_behind es e)

-- the entries in front of a second
pub entries_before : (es : List (ℕ × ℕ)) (seconds : ℕ) → entries_between nat_cmp Unbounded (Excluded seconds) es ≡ filter (λ e. nat_lt e.0 seconds) es
entries_before es seconds = λ i. filter (λ e. alike seconds e.0 i) es
  where
    alike : (s q : ℕ) → not (is_le (nat_cmp s q)) ≡ nat_lt q s
    alike s q = go (nat_lt s q) (s == q) refl refl
      where
        go : (a b : Bool) → nat_lt s q ≡ a → (s == q) ≡ b → not (is_le (cond a Less (cond b Equal Greater))) ≡ nat_lt q s
        go true b is it = sym (over s q (lower s q is))
        go false true is it = sym (ap (nat_lt q) (eqb-true s q it) ∙ not_own q)
        go false false is it = sym (under q s (greater s q is it))
