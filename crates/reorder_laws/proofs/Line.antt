-- A line of commits in another order: the new parents run in no circle.
use Rattle.std.proofs.Common.{◌≡◌, ℕ, suc, ◌+◌, ◌≤◌, ◌<◌, Bool, true, false, cond, not, List, [], ◌∷◌, length, map, refl, sym, ap, subst, ◌∙◌, inl, inr, arith, eq-eqb, eqb-true, true≢false, nat_lt, Option, Some, None}
use Rattle.std.specs.Prelude.{◌||◌, ◌&&◌, ◌==◌, unwrap_or}
use Rattle.std.specs.List.{AllByRecursion, list_any}
use Rattle.std.specs.Map.{lookup}
use Rattle.std.proofs.lemmas.Bool.{cases_Bool, and_parts, or_cases, or_left, or_right, or_parts, not-true, cond-true, cond-false, lt-ltb}
use Rattle.std.proofs.lemmas.Bool.Decides.{nat_tests}
use Rattle.plain_model.specs.declared.fault.Fault.{Fault}
use Rattle.plain_model.specs.declared.fault.Fault.TheVariants as fault
use Rattle.plain_model.specs.declared.limit.TheConstants.{MAX_PARENTS}
use Rattle.plain_model.specs.declared.id.AnyId.{AnyId}
use Rattle.plain_model.specs.declared.id.AnyId.TheVariants as any
use Rattle.plain_model.specs.declared.event.PlainEvent.{PlainEvent}
use Rattle.plain_model.specs.declared.event.PlainEvent.TheVariants.{Blob, Commit, Tag, Reset, Pass}
use Rattle.plain_model.specs.Histories.{Node, node_at, past}
use Rattle.plain_model.specs.Lookups.{children_of, is_listed}
use Rattle.plain_model.specs.Soundness.{IsSound, are_distinct, has_id}
use Rattle.plain_model.proofs.Numbers.{eqb_turned}
use Rattle.history_laws.specs.Finding.{event_number, is_only}
use Rattle.history_laws.proofs.Lists.{all_imply}
use Rattle.commit_laws.specs.Selected.{chosen, listed, node_of}
use Rattle.edit_laws.specs.Selecting.{IsSelection}
use Rattle.edit_laws.proofs.Limits.{not_many}
use Rattle.edit_laws.proofs.Children.{IsChild}
use Rattle.commit_laws.proofs.Given.{IsGiven, IsHere, all_given, parents_here, rank}
use Rattle.commit_laws.proofs.Selections.{any_chosen, chosen_distinct, in_both, in_set, listed_here}
use Rattle.reorder_laws.specs.Reorder.{instead, last_of, line_fault, lined_up}

-- ---- lists

-- what is true of all is true of one of them
all_in : (P : ℕ → Type 0) (xs : List ℕ) (x : ℕ) → AllByRecursion P xs → list_any (λ m. m == x) xs ≡ true → P x
all_in P [] x a h = absurd (true≢false (sym h))
all_in P (y ∷ ys) x a h = elim (or_cases (y == x) (list_any (λ m. m == x) ys) h) [
  | inl it ↦ subst P (eqb-true y x it) a.0
  | inr later ↦ all_in P ys x a.1 later
]

pub each_in : (ps : List ℕ) → AllByRecursion (λ p. list_any (λ q. q == p) ps ≡ true) ps
each_in [] = tt
each_in (p ∷ ps) = (
  or_left (p == p) (list_any (λ q. q == p) ps) (eq-eqb p p refl),
  all_imply (λ x. list_any (λ q. q == x) ps ≡ true) (λ x. list_any (λ q. q == x) (p ∷ ps) ≡ true) (λ x k. or_right (p == x) (list_any (λ q. q == x) ps) k) ps (each_in ps),
)

last_in : (u : ℕ) (us : List ℕ) → list_any (λ m. m == last_of u us) (u ∷ us) ≡ true
last_in u [] = or_left (u == u) false (eq-eqb u u refl)
last_in u (x ∷ xs) = or_right (u == last_of x xs) (list_any (λ m. m == last_of x xs) (x ∷ xs)) (last_in x xs)

only_one : (x i : ℕ) (l : List ℕ) → is_only x l ≡ true → list_any (λ m. m == i) l ≡ true → i ≡ x
only_one x i [] o h = absurd (true≢false (sym o))
only_one x i (d ∷ []) o h = sym (eqb-true d i (one (d == i) h)) ∙ eqb-true d x o
  where
    one : (b : Bool) → b || false ≡ true → b ≡ true
    one true h = refl
    one false h = absurd (true≢false (sym h))
only_one x i (d ∷ e ∷ l) o h = absurd (true≢false (sym o))

-- ---- given parents

-- what they are: those of the first, or one commit
pub given_is : (Q : List ℕ → Type 0) (ps us : List ℕ) → Q ps → AllByRecursion (λ u. Q (u ∷ [])) us → (x : ℕ) (qs : List ℕ) → lookup (λ m. m == x) (lined_up ps us) ≡ Some qs → Q qs
given_is Q ps [] q a x qs h = absurd cc
given_is Q ps (u ∷ us) q a x qs h = go (u == x) h (λ k. given_is Q (u ∷ []) us a.0 a.1 x qs k)
  where
    go : (b : Bool) → cond b (Some ps) (lookup (λ m. m == x) (lined_up (u ∷ []) us)) ≡ Some qs → (lookup (λ m. m == x) (lined_up (u ∷ []) us) ≡ Some qs → Q qs) → Q qs
    go true k f = let is : ps ≡ qs = cc in subst Q is q
    go false k f = f k

-- a commit to which none are given isn't one of those
pub not_given : (ps us : List ℕ) (x : ℕ) → lookup (λ m. m == x) (lined_up ps us) ≡ None → list_any (λ m. m == x) us ≡ false
not_given ps [] x h = refl
not_given ps (u ∷ us) x h = go (u == x) h (λ k. not_given (u ∷ []) us x k)
  where
    go : (b : Bool) → cond b (Some ps) (lookup (λ m. m == x) (lined_up (u ∷ []) us)) ≡ None → (lookup (λ m. m == x) (lined_up (u ∷ []) us) ≡ None → list_any (λ m. m == x) us ≡ false) → b || list_any (λ m. m == x) us ≡ false
    go true k f = absurd cc
    go false k f = f k

-- ---- numbers along the line

abbrev line_number : ℕ → List ℕ → ℕ → Option ℕ
line_number k [] x = None
line_number k (u ∷ us) x = cond (u == x) (Some k) (line_number (suc k) us x)

none_number : (k : ℕ) (us : List ℕ) (x : ℕ) → list_any (λ m. m == x) us ≡ false → line_number k us x ≡ None
none_number k [] x h = refl
none_number k (u ∷ us) x h =
    let parts = or_parts (u == x) (list_any (λ m. m == x) us) h in
    cond-false (u == x) (Some k) (line_number (suc k) us x) parts.0 ∙ none_number (suc k) us x parts.1

-- each has the number of its place
abbrev Numbered : (ℕ → Option ℕ) → ℕ → List ℕ → Type 0
Numbered f k [] = Unit {0}
Numbered f k (u ∷ us) = (f u ≡ Some k) × Numbered f (suc k) us

numbered_alike : (f g : ℕ → Option ℕ) (k : ℕ) (us : List ℕ) → AllByRecursion (λ x. f x ≡ g x) us → Numbered g k us → Numbered f k us
numbered_alike f g k [] a n = tt
numbered_alike f g k (u ∷ us) a n = (a.0 ∙ n.0, numbered_alike f g (suc k) us a.1 n.1)

others_apart : (u : ℕ) (us : List ℕ) → list_any (λ m. m == u) us ≡ false → AllByRecursion (λ x. (u == x) ≡ false) us
others_apart u [] h = tt
others_apart u (x ∷ xs) h = let parts = or_parts (x == u) (list_any (λ m. m == u) xs) h in (eqb_turned u x ∙ parts.0, others_apart u xs parts.1)

numbered : (k : ℕ) (us : List ℕ) → are_distinct us ≡ true → Numbered (line_number k us) k us
numbered k [] d = tt
numbered k (u ∷ us) d =
    let parts = and_parts (not (list_any (λ m. m == u) us)) (are_distinct us) d in (
      cond-true (u == u) (Some k) (line_number (suc k) us u) (eq-eqb u u refl),
      numbered_alike (line_number k (u ∷ us)) (line_number (suc k) us) (suc k) us
          (all_imply (λ x. (u == x) ≡ false) (λ x. line_number k (u ∷ us) x ≡ line_number (suc k) us x) (λ x e. cond-false (u == x) (Some k) (line_number (suc k) us x) e) us (others_apart u us (not-true (list_any (λ m. m == u) us) parts.0)))
          (numbered (suc k) us parts.1),
    )

-- ---- the line of a history

module _ (set : List AnyId) (events : List PlainEvent) (h : IsSound events) (sel : IsSelection events set) (v : ℕ) (vs : List ℕ) (w : ℕ) (ws : List ℕ) (is_vs : listed set events ≡ v ∷ vs) (is_ws : chosen set ≡ w ∷ ws) (line : line_fault events v vs ≡ None) where
  abbrev low : ℕ → ℕ
  low x = rank events h x

  abbrev old : ℕ
  old = last_of v vs

  abbrev new : ℕ
  new = last_of w ws

  -- what is known of the node of a commit
  pub record IsNode (n : Node) (c : ℕ) : Type 0 where
    pub below : AllByRecursion (λ p. low p < low c) n.parents
    pub here : AllByRecursion (IsHere events) n.parents
    pub distinct : are_distinct n.parents ≡ true
    pub few : length n.parents ≤ MAX_PARENTS

  node_found : (es : List PlainEvent) → AllByRecursion (IsGiven events (rank events h)) es → (c : ℕ) → has_id es (any.Commit c) ≡ true → IsNode (node_of events c) c
  node_found [] a c k = absurd (true≢false (sym k))
  node_found (Commit i m branch author committer encoding comment parents ops aliases ∷ es) a c k =
      elim (or_cases (i == c) (has_id es (any.Commit c)) k) [
        | inl is ↦
            let g = a.0 in
            let n : Node = record { id = i; parents = parents; ops = ops } in
            let its : node_of events c ≡ n = ap (λ (o : Option Node). unwrap_or o (record { id = c; parents = []; ops = [] })) (ap (node_at (past events)) (sym (eqb-true i c is)) ∙ g.found.0) in
            subst (λ (m : Node). IsNode m c) (sym its) (record {
              below = subst (λ x. AllByRecursion (λ p. low p < low x) parents) (eqb-true i c is) g.low.0;
              here = parents_here events parents ops g.ready;
              distinct = g.lawful.4;
              few = g.few;
            })
        | inr later ↦ node_found es a.1 c later
      ]
  node_found (Blob i m bytes ∷ es) a c k = node_found es a.1 c k
  node_found (Tag i name target tagger comment mark ∷ es) a c k = node_found es a.1 c k
  node_found (Reset i branch target ∷ es) a c k = node_found es a.1 c k
  node_found (Pass i line ∷ es) a c k = node_found es a.1 c k

  pub node_is : (c : ℕ) → IsHere events c → IsNode (node_of events c) c
  node_is c k = node_found events (all_given events h) c k

  -- one step of the line
  record Step (u x : ℕ) (xs : List ℕ) : Type 0 where
    parent : is_only u (node_of events x).parents ≡ true
    child : is_only x (children_of u events) ≡ true
    further : line_fault events x xs ≡ None

  step : (u x : ℕ) (xs : List ℕ) → line_fault events u (x ∷ xs) ≡ None → Step u x xs
  step u x xs e = go (is_only u (node_of events x).parents && is_only x (children_of u events)) refl e
    where
      go : (b : Bool) → is_only u (node_of events x).parents && is_only x (children_of u events) ≡ b → ◌≡◌ {A = Option Fault} (cond b (line_fault events x xs) (Some (fault.NotLinear (event_number events (any.Commit x))))) None → Step u x xs
      go true is e = let parts = and_parts (is_only u (node_of events x).parents) (is_only x (children_of u events)) is in record { parent = parts.0; child = parts.1; further = e }
      go false is e = absurd cc

  below_only : (u x : ℕ) (ps : List ℕ) → is_only u ps ≡ true → AllByRecursion (λ p. low p < low x) ps → low u < low x
  below_only u x [] o a = absurd (true≢false (sym o))
  below_only u x (p ∷ []) o a = subst (λ n. low n < low x) (eqb-true p u o) a.0
  below_only u x (p ∷ q ∷ ps) o a = absurd (true≢false (sym o))

  ranks : (u : ℕ) (us : List ℕ) → line_fault events u us ≡ None → AllByRecursion (IsHere events) us → AllByRecursion (λ x. low u ≤ low x) us
  ranks u [] e a = tt
  ranks u (x ∷ xs) e a =
      let s = step u x xs e in
      let up = below_only u x (node_of events x).parents s.parent (node_is x a.0).below in
      (omega arith, all_imply (λ y. low x ≤ low y) (λ y. low u ≤ low y) (λ y k. omega arith) xs (ranks x xs s.further a.1))

  pub line_here : AllByRecursion (IsHere events) (v ∷ vs)
  line_here = subst (AllByRecursion (IsHere events)) is_vs (listed_here set events)

  line_ranks : AllByRecursion (λ x. low v ≤ low x) (v ∷ vs)
  line_ranks = (omega arith, ranks v vs line line_here.1)

  of_set : (x : ℕ) → IsHere events x → is_listed (any.Commit x) set ≡ true → list_any (λ m. m == x) (v ∷ vs) ≡ true
  of_set x k l = ap (list_any (λ m. m == x)) (sym is_vs) ∙ in_both set events x l k

  set_rank : (x : ℕ) → IsHere events x → is_listed (any.Commit x) set ≡ true → low v ≤ low x
  set_rank x k l = all_in (λ y. low v ≤ low y) (v ∷ vs) x line_ranks (of_set x k l)

  -- all but the last have one child, which is of the line
  next_of : (u : ℕ) (us : List ℕ) → line_fault events u us ≡ None → (p : ℕ) → list_any (λ m. m == p) (u ∷ us) ≡ true → (p == last_of u us) ≡ false → (x : ℕ) × (is_only x (children_of p events) ≡ true) × (list_any (λ m. m == x) (u ∷ us) ≡ true)
  next_of u [] e p k o = absurd (true≢false (sym (eqb_turned p u ∙ one (u == p) k) ∙ o))
    where
      one : (b : Bool) → b || false ≡ true → b ≡ true
      one true h = refl
      one false h = absurd (true≢false (sym h))
  next_of u (x ∷ xs) e p k o =
      let s = step u x xs e in
      elim (or_cases (u == p) (list_any (λ m. m == p) (x ∷ xs)) k) [
        | inl it ↦ (
          x,
          ap (λ n. is_only x (children_of n events)) (sym (eqb-true u p it)) ∙ s.child,
          or_right (u == x) (list_any (λ m. m == x) (x ∷ xs)) (or_left (x == x) (list_any (λ m. m == x) xs) (eq-eqb x x refl)),
        )
        | inr later ↦ let r = next_of x xs s.further p later o in (r.0, r.1, or_right (u == r.0) (list_any (λ m. m == r.0) (x ∷ xs)) r.2)
      ]

  -- a commit outside hangs on the line by its last one alone
  pub outside : (n : Node) → IsChild events n → is_listed (any.Commit n.id) set ≡ false → (p : ℕ) → IsHere events p → list_any (λ q. q == p) n.parents ≡ true → (p == old) ≡ false → is_listed (any.Commit p) set ≡ false
  outside n child out p k i o =
      elim (cases_Bool (is_listed (any.Commit p) set)) [
        | inr it ↦ it
        | inl l ↦
            let r = next_of v vs line p (of_set p k l) o in
            let is : n.id ≡ r.0 = only_one r.0 n.id (children_of p events) r.1 (child p i) in
            let listed_too = in_set set events r.0 (ap (list_any (λ m. m == r.0)) is_vs ∙ r.2) in
            absurd (true≢false (sym listed_too ∙ ap (λ x. is_listed (any.Commit x) set) (sym is) ∙ out))
      ]

  -- ---- numbers

  pub in_ws : (x : ℕ) → list_any (λ m. m == x) (w ∷ ws) ≡ is_listed (any.Commit x) set
  in_ws x = ap (list_any (λ m. m == x)) (sym is_ws) ∙ any_chosen x set

  abbrev pub number : ℕ → ℕ
  number x = elim (line_number 0 (w ∷ ws) x) [ Some k ↦ low v + k | None ↦ low x + cond (nat_lt (low v) (low x)) (suc (length ws)) 0 ]

  number_out : (x : ℕ) → is_listed (any.Commit x) set ≡ false → number x ≡ low x + cond (nat_lt (low v) (low x)) (suc (length ws)) 0
  number_out x l = ap (λ (o : Option ℕ). elim o [ Some k ↦ low v + k | None ↦ low x + cond (nat_lt (low v) (low x)) (suc (length ws)) 0 ]) (none_number 0 (w ∷ ws) x (in_ws x ∙ l))

  number_high : (x : ℕ) → is_listed (any.Commit x) set ≡ false → low v < low x → number x ≡ low x + suc (length ws)
  number_high x l up = number_out x l ∙ ap (λ b. low x + cond b (suc (length ws)) 0) (lt-ltb (low v) (low x) up)

  number_low : (x : ℕ) → is_listed (any.Commit x) set ≡ false → low x ≤ low v → number x ≡ low x
  number_low x l down = let is = number_out x l ∙ ap (λ b. low x + cond b (suc (length ws)) 0) (not_many (low v) (low x) down) in omega arith

  -- along the new line
  abbrev AtPlaces : ℕ → List ℕ → Type 0
  AtPlaces k [] = Unit {0}
  AtPlaces k (u ∷ us) = (number u ≡ low v + k) × AtPlaces (suc k) us

  at_places : (k : ℕ) (us : List ℕ) → Numbered (line_number 0 (w ∷ ws)) k us → AtPlaces k us
  at_places k [] n = tt
  at_places k (u ∷ us) n = (ap (λ (o : Option ℕ). elim o [ Some j ↦ low v + j | None ↦ low u + cond (nat_lt (low v) (low u)) (suc (length ws)) 0 ]) n.0, at_places (suc k) us n.1)

  new_line : AtPlaces 0 (w ∷ ws)
  new_line = at_places 0 (w ∷ ws) (numbered 0 (w ∷ ws) (subst (λ (l : List ℕ). are_distinct l ≡ true) is_ws (chosen_distinct set sel.apart)))

  last_number : (k u : ℕ) (us : List ℕ) → AtPlaces k (u ∷ us) → number (last_of u us) ≡ low v + (k + length us)
  last_number k u [] a = let is = a.0 in omega arith
  last_number k u (x ∷ xs) a = let rest = last_number (suc k) x xs a.1 in omega arith

  given_low : (k : ℕ) (ps us : List ℕ) → AtPlaces k us → AllByRecursion (λ p. number p < low v + k) ps → (x : ℕ) (qs : List ℕ) → lookup (λ m. m == x) (lined_up ps us) ≡ Some qs → AllByRecursion (λ p. number p < number x) qs
  given_low k ps [] a b x qs e = absurd cc
  given_low k ps (u ∷ us) a b x qs e = go (u == x) refl e (λ c. given_low (suc k) (u ∷ []) us a.1 (next, tt) x qs c)
    where
      next : number u < low v + suc k
      next = let is = a.0 in omega arith

      go : (t : Bool) → (u == x) ≡ t → cond t (Some ps) (lookup (λ m. m == x) (lined_up (u ∷ []) us)) ≡ Some qs → (lookup (λ m. m == x) (lined_up (u ∷ []) us) ≡ Some qs → AllByRecursion (λ p. number p < number x) qs) → AllByRecursion (λ p. number p < number x) qs
      go true is e f =
          let same : ps ≡ qs = cc in
          subst (AllByRecursion (λ p. number p < number x)) same
          (all_imply (λ p. number p < low v + k) (λ p. number p < number x) (λ p less. subst (λ m. number p < number m) (eqb-true u x is) (subst (λ m. number p < m) (sym a.0) less)) ps b)
      go false is e f = f e

  -- the parents of the first of the old line are below
  first_low : (ps : List ℕ) → AllByRecursion (λ p. low p < low v) ps → AllByRecursion (IsHere events) ps → AllByRecursion (λ p. number p < low v + 0) ps
  first_low [] a k = tt
  first_low (p ∷ ps) a k = (one, first_low ps a.1 k.1)
    where
      out : is_listed (any.Commit p) set ≡ false
      out = elim (cases_Bool (is_listed (any.Commit p) set)) [
        | inl l ↦ let high = set_rank p k.0 l in let less = a.0 in absurd (omega arith)
        | inr it ↦ it
      ]

      one : number p < low v + 0
      one = let less = a.0 in let is = number_low p out (omega arith) in omega arith

  pub number_given : (x : ℕ) (qs : List ℕ) → lookup (λ m. m == x) (lined_up (node_of events v).parents (w ∷ ws)) ≡ Some qs → AllByRecursion (λ p. number p < number x) qs
  number_given x qs e =
      let n = node_is v line_here.0 in
      given_low 0 (node_of events v).parents (w ∷ ws) new_line (first_low (node_of events v).parents n.below n.here) x qs e

  -- a parent of a commit outside
  pub number_other : (i : ℕ) → is_listed (any.Commit i) set ≡ false → (p : ℕ) → low p < low i → ((p == old) ≡ false → is_listed (any.Commit p) set ≡ false) → number (instead old new p) < number i
  number_other i out p less o =
      elim (cases_Bool (p == old)) [
        | inl it ↦
            let at_last = last_number 0 w ws new_line in
            let same : low p ≡ low old = ap low (eqb-true p old it) in
            let up = all_in (λ y. low v ≤ low y) (v ∷ vs) old line_ranks (last_in v vs) in
            let high = number_high i out (omega arith) in
            subst (λ m. number m < number i) (sym (cond-true (p == old) new p it)) (omega arith)
        | inr differs ↦ subst (λ m. number m < number i) (sym (cond-false (p == old) new p differs)) (other (nat_lt (low v) (low p)) refl (o differs))
      ]
    where
      other : (b : Bool) → nat_lt (low v) (low p) ≡ b → is_listed (any.Commit p) set ≡ false → number p < number i
      other true e l =
          let up = is_less (low v) (low p) e in
          let its = number_high p l up in
          let high = number_high i out (omega arith) in
          omega arith
        where
          is_less : (a b : ℕ) → nat_lt a b ≡ true → a < b
          is_less a b h = grind (arith, nat_tests)
      other false e l =
          let down = not_less (low v) (low p) e in
          let its = number_low p l down in
          let some = number_out i out in
          omega arith
        where
          not_less : (a b : ℕ) → nat_lt a b ≡ false → b ≤ a
          not_less a b h = grind (arith, nat_tests)

  -- ---- repeats

  pub new_listed : is_listed (any.Commit new) set ≡ true
  new_listed = sym (in_ws new) ∙ last_in w ws

  pub not_new : (p : ℕ) → is_listed (any.Commit p) set ≡ false → (p == new) ≡ false
  not_new p l = elim (cases_Bool (p == new)) [
    | inl it ↦ absurd (true≢false (sym new_listed ∙ ap (λ x. is_listed (any.Commit x) set) (sym (eqb-true p new it)) ∙ l))
    | inr differs ↦ differs
  ]

  abbrev pub IsApart : ℕ → Type 0
  IsApart p = (p == old) ≡ false → (p == new) ≡ false

  same_instead : (a b : ℕ) → IsApart a → IsApart b → (instead old new a == instead old new b) ≡ (a == b)
  same_instead a b x y = go (a == old) refl (b == old) refl
    where
      go : (s : Bool) → (a == old) ≡ s → (t : Bool) → (b == old) ≡ t → (cond s new a == cond t new b) ≡ (a == b)
      go true p true q = eq-eqb new new refl ∙ sym (ap (λ n. n == b) (eqb-true a old p) ∙ ap (λ n. old == n) (eqb-true b old q) ∙ eq-eqb old old refl)
      go true p false q = eqb_turned new b ∙ y q ∙ sym (ap (λ n. n == b) (eqb-true a old p) ∙ eqb_turned old b ∙ q)
      go false p true q = x p ∙ sym (ap (λ n. a == n) (eqb-true b old q) ∙ p)
      go false p false q = refl

  any_instead : (p : ℕ) (ps : List ℕ) → IsApart p → AllByRecursion IsApart ps → list_any (λ m. m == instead old new p) (map (instead old new) ps) ≡ list_any (λ m. m == p) ps
  any_instead p [] o a = refl
  any_instead p (q ∷ qs) o a = λ i. same_instead q p a.0 o i || any_instead p qs o a.1 i

  pub distinct_instead : (ps : List ℕ) → AllByRecursion IsApart ps → are_distinct (map (instead old new) ps) ≡ are_distinct ps
  distinct_instead [] a = refl
  distinct_instead (p ∷ ps) a = λ i. not (any_instead p ps a.0 a.1 i) && distinct_instead ps a.1 i
