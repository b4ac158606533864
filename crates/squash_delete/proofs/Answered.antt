-- What the steps of a squash answer is what is specified.
use Rattle.std.proofs.Common.{◌≡◌, ◌∙◌, ℕ, Bool, true, false, cond, not, List, [], ◌∷◌, Option, Some, None, Result, Ok, Err, refl, sym, ap, subst, suc, ◌≤◌, ◌<◌, filter, arith, length-append, map}
use Rattle.std.specs.Prelude.{nat_lt, length}
use Rattle.std.proofs.lemmas.Bool.{lt-ltb}
use Rattle.plain_model.specs.declared.id.AnyId.{AnyId}
use Rattle.plain_model.specs.declared.fault.Fault.{Fault}
use Rattle.plain_model.specs.declared.fault.Fault.TheVariants as fault
use Rattle.plain_model.specs.declared.fault.Which.TheVariants as limit
use Rattle.plain_model.specs.declared.limit.TheConstants.{MAX_EVENTS, MAX_OPERATIONS}
use Rattle.plain_model.specs.declared.event.PlainEvent.{PlainEvent}
use Rattle.plain_model.specs.declared.event.PlainEvent.TheVariants.{Blob, Commit, Tag, Reset, Pass}
use Rattle.plain_model.specs.Histories.{IsLinkedPast, nodes, past}
use Rattle.plain_model.specs.Soundness.{IsSound}
use Rattle.history_laws.specs.FirstParents.{ops_along}
use Rattle.edit_laws.specs.Parts.{AreComplete}
use Rattle.edit_laws.specs.Passing.{limit_fault}
use Rattle.edit_laws.specs.Settling.{settle}
use Rattle.edit_laws.specs.Sweeping.{is_left_over, swept}
use Rattle.event_arena.specs.Graphs.{Change}
use Rattle.edit_laws.proofs.Settled.{settled}
use Rattle.edit_laws.proofs.Settles.{any_event, settled_in_order, settled_once}
use Rattle.edit_laws.proofs.Trees.{linked_in_order}
use Rattle.plain_model.specs.declared.fault.Halt.{Halt}
use Rattle.plain_model.specs.declared.fault.Halt.TheVariants as halt
use Rattle.plain_model.specs.Faults.{Returns}
use Rattle.edit_laws.specs.Checking.{unless}
use Rattle.graph_walk.specs.Outcome.{IsCauseOf}
use Rattle.squash_laws.specs.Squash.{checked_after, fault_before, squash_of, trees_checked}
use Rattle.squash_laws.specs.Removed.{Takings, without_set}
use Rattle.squash_laws.specs.Takings.{squashed, takes}
use Rattle.plain_model.specs.declared.policy.Push.{Push}
use Rattle.plain_model.specs.declared.policy.Policy.{Policy}
use Rattle.squash_laws.proofs.Squashed.{squash_ends, squash_settles}
use Rattle.squash_delete.specs.Judged.{IsLeft, IsLeftOf, ParentsAre, judged, limit_passed}
use Rattle.plan_steps.specs.Leaving.{event_after, goes, staying, with_takings}
use Rattle.squash_delete.specs.Sources.{count_ops}
use Rattle.squash_delete.specs.declared.counting.Left.{Left}
use Rattle.squash_delete.specs.declared.counting.Left.TheVariants.{All, ManyOperations}
use Rattle.edit_laws.proofs.Limits.{not_many}
use Rattle.squash_delete.proofs.JudgedLemmas.{judged_alike}
use Rattle.plan_steps.proofs.LeavingLemmas.{left_staying}

-- ---- the outcome

abbrev made_or : Push → List PlainEvent → Result (List PlainEvent) (List PlainEvent) → Result (List PlainEvent) Fault
made_or to events made = elim made [ Ok new ↦ elim (checked_after to new) [ Ok done ↦ Ok new | Err why ↦ Err why ] | Err never ↦ Ok events ]

abbrev outcome : Push → List PlainEvent → Result (List PlainEvent) (List PlainEvent) → Option Fault → Result (List PlainEvent) Fault
outcome to events made before = elim before [ Some why ↦ Err why | None ↦ made_or to events made ]

abbrev pub done_or : List PlainEvent → Result (Unit {0}) Fault → Result (List PlainEvent) Fault
done_or new checks = elim checks [ Ok done ↦ Ok new | Err why ↦ Err why ]

module _ (how : Policy) (set : List AnyId) (events : List PlainEvent) where
  squash_made : (new : List PlainEvent) → fault_before how.push set events ≡ None → squashed set events how ≡ Ok new →
      squash_of how set events ≡ done_or new (checked_after how.push new)
  squash_made new none made =
      ap (outcome how.push events (squashed set events how)) none ∙ ap (made_or how.push events) made

  checked_with : (new : List PlainEvent) (o : Option Fault) → limit_fault new ≡ o →
      checked_after how.push new ≡ elim o [ Some why ↦ Err why | None ↦ trees_checked how.push new ]
  checked_with new o is = ap (λ x. elim x [ Some why ↦ Err why | None ↦ trees_checked how.push new ]) is

  -- where no limit is passed, the trees decide
  pub squash_checked : (new : List PlainEvent) → fault_before how.push set events ≡ None → squashed set events how ≡ Ok new →
      limit_fault new ≡ None → squash_of how set events ≡ done_or new (trees_checked how.push new)
  squash_checked new none made within = squash_made new none made ∙ ap (done_or new) (checked_with new None within)

  module _ (h : IsSound events) (none : fault_before how.push set events ≡ None) where
    -- a limit that is passed
    pub squash_limited : (few : Bool) (left : List PlainEvent) (why : Fault) → IsLeft set events (takes set events how) few left →
        limit_passed few left ≡ Some why → squash_of how set events ≡ Err why
    squash_limited few left why l passed =
        let ends = squash_ends set events h how in
        let same = judged_alike set events (takes set events how) h few left ends.0 l ends.1 in
        squash_made ends.0 none ends.1 ∙ ap (done_or ends.0) (checked_with ends.0 (Some why) (sym same ∙ passed))

    never_none : (left : List PlainEvent) → limit_passed false left ≡ None → ⊥
    never_none left h = go (nat_lt MAX_EVENTS (length left)) (nat_lt MAX_OPERATIONS (length (ops_along (nodes left)))) _ _ _ h
      where
        go : (a b : Bool) (x y z : Fault) → ◌≡◌ {A = Option Fault} (cond a (Some x) (cond b (Some y) (Some z))) None → ⊥
        go true b x y z h = absurd cc
        go false true x y z h = absurd cc
        go false false x y z h = absurd cc

    -- where none is passed, what is left is what is specified
    pub left_is : (few : Bool) (left : List PlainEvent) → IsLeft set events (takes set events how) few left → limit_passed few left ≡ None →
        left ≡ without_set set events (takes set events how)
    left_is true left l passed =
        l.2 ∙ ap (λ (par : List ℕ → List ℕ). swept events (map (event_after par (takes set events how)) (staying set (takes set events how) events))) l.1.0
        ∙ ap (swept events) (sym (left_staying set events (takes set events how)))
    left_is false left l passed = absurd (never_none left passed)

    -- and no limit is passed after
    pub within_after : (few : Bool) (left new : List PlainEvent) → IsLeft set events (takes set events how) few left → limit_passed few left ≡ None →
        settle left ≡ Ok new → (squashed set events how ≡ Ok new) × (limit_fault new ≡ None)
    within_after few left new l passed made =
        let is = ap settle (sym (left_is few left l passed)) ∙ made in
        (is, sym (judged_alike set events (takes set events how) h few left new l is) ∙ passed)

    pub left_complete : (few : Bool) (left : List PlainEvent) → IsLeft set events (takes set events how) few left → limit_passed few left ≡ None →
        AreComplete left
    left_complete few left l passed = subst AreComplete (sym (left_is few left l passed)) (squash_settles set events h how).complete

    -- settling doesn't fail
    pub left_settles : (few : Bool) (left stuck : List PlainEvent) → IsLeft set events (takes set events how) few left → limit_passed few left ≡ None →
        settle left ≡ Err stuck → ⊥
    left_settles few left stuck l passed fails =
        let ends = squash_ends set events h how in
        let both : ◌≡◌ {A = Result (List PlainEvent) (List PlainEvent)} (Ok ends.0) (Err stuck) = sym ends.1 ∙ ap settle (sym (left_is few left l passed)) ∙ fails in
        absurd cc

    pub after_linked : (new : List PlainEvent) → squashed set events how ≡ Ok new → IsLinkedPast (past new)
    after_linked new made =
        let left = without_set set events (takes set events how) in
        let can = squash_settles set events h how in
        linked_in_order new (settled_once left new can.once (settled (λ e. Unit {0}) left new (any_event left) made)) (settled_in_order left new made)

-- ---- answers of calls

pub no_limit : (o : Option Fault) (x : Unit {0}) → unless o ≡ Ok x → o ≡ None
no_limit None x h = refl
no_limit (Some f) x h = absurd cc

pub a_limit : (o : Option Fault) (f : Fault) → unless o ≡ Err f → o ≡ Some f
a_limit None f h = absurd cc
a_limit (Some g) f h = let is : g ≡ f = cc in ap Some is

module _ (how : Policy) (set : List AnyId) (events : List PlainEvent) (h : IsSound events) (none : fault_before how.push set events ≡ None) where
  -- settling stops for want of memory alone
  pub settle_fault : {X : Type 0} (view : X → List PlainEvent) (few : Bool) (left : List PlainEvent) → IsLeft set events (takes set events how) few left →
      limit_passed few left ≡ None → (why : Halt) → IsCauseOf left why → Returns view (Err why) (squash_of how set events)
  settle_fault view few left l passed halt.Memory cause = tt
  settle_fault view few left l passed (halt.Refused fault) cause =
      absurd (left_settles how set events h none few left cause.2.left l passed cause.2.never)

-- what the tree check refuses
pub check_fault : {X : Type 0} (view : X → List PlainEvent) (new : List PlainEvent) (answer : Result (List PlainEvent) Fault) (checks : Result (Unit {0}) Fault) →
    answer ≡ done_or new checks → (why : Halt) → Returns {X = Unit {0}} {Y = Unit {0}} (λ done. done) (Err why) checks → Returns view (Err why) answer
check_fault view new answer checks is halt.Memory checked = tt
check_fault view new answer checks is (halt.Refused fault) checked = is ∙ ap (done_or new) checked

-- ---- what is left

-- sweeping takes no operation away, nor does a move
pub ops_swept : (old whole es : List PlainEvent) → count_ops (filter (λ e. not (is_left_over old whole e)) es) ≡ count_ops es
ops_swept old whole [] = refl
ops_swept old whole (Blob id mark bytes ∷ es) = by (is_left_over old whole (Blob id mark bytes)) (ops_swept old whole es)
  where
    by : (b : Bool) → count_ops (filter (λ e. not (is_left_over old whole e)) es) ≡ count_ops es →
        count_ops (cond (not b) (Blob id mark bytes ∷ filter (λ e. not (is_left_over old whole e)) es) (filter (λ e. not (is_left_over old whole e)) es)) ≡ count_ops es
    by true rest = rest
    by false rest = rest
ops_swept old whole (Commit id mark branch author committer encoding comment parents ops aliases ∷ es) =
    let rest = ops_swept old whole es in
    let one = length-append ops (ops_along (nodes (filter (λ e. not (is_left_over old whole e)) es))) in
    let all = length-append ops (ops_along (nodes es)) in
    omega arith
ops_swept old whole (Tag id name target tagger comment mark ∷ es) = ops_swept old whole es
ops_swept old whole (Reset id branch target ∷ es) = ops_swept old whole es
ops_swept old whole (Pass id line ∷ es) = ops_swept old whole es

ops_moved : (par : List ℕ → List ℕ) (takes : Takings) (es : List PlainEvent) → count_ops (map (event_after par takes) es) ≡ count_ops (map (with_takings par takes) es)
ops_moved par takes [] = refl
ops_moved par takes (Commit id mark branch author committer encoding comment parents ops aliases ∷ es) =
    let rest = ops_moved par takes es in
    let one = length-append (takes.ops id parents ops) (ops_along (nodes (map (event_after par takes) es))) in
    let all = length-append (takes.ops id parents ops) (ops_along (nodes (map (with_takings par takes) es))) in
    omega arith
ops_moved par takes (Blob id mark bytes ∷ es) = ops_moved par takes es
ops_moved par takes (Tag id name target tagger comment mark ∷ es) = ops_moved par takes es
ops_moved par takes (Reset id branch (Some target) ∷ es) = ops_moved par takes es
ops_moved par takes (Reset id branch None ∷ es) = ops_moved par takes es
ops_moved par takes (Pass id line ∷ es) = ops_moved par takes es

filter_short : (test : PlainEvent → Bool) (es : List PlainEvent) → length (filter test es) ≤ length es
filter_short test [] = omega arith
filter_short test (e ∷ es) = by (test e) (filter_short test es)
  where
    by : (b : Bool) → length (filter test es) ≤ length es → length (cond b (e ∷ filter test es) (filter test es)) ≤ suc (length es)
    by true rest = omega arith
    by false rest = omega arith

map_long : (f : PlainEvent → PlainEvent) (es : List PlainEvent) → length (map f es) ≡ length es
map_long f [] = refl
map_long f (e ∷ es) = ap suc (map_long f es)

-- there are too many operations, and not too many events
pub many_left : (set : List AnyId) (events : List PlainEvent) (taking : Takings) (par : List ℕ → List ℕ) (few : Bool) (old new : Change) →
    ParentsAre set events taking few par → length events ≤ MAX_EVENTS → MAX_OPERATIONS < count_ops (map (with_takings par taking) (staying set taking events)) →
    IsLeftOf set events taking old ManyOperations new
many_left set events taking par few old new are short many =
    let moved = map (event_after par taking) (staying set taking events) in
    let swept_less = filter_short (λ e. not (is_left_over events moved e)) moved in
    let moved_long = map_long (event_after par taking) (staying set taking events) in
    let stay_less = filter_short (λ e. not (goes set taking e)) events in
    let sweeping = ops_swept events moved moved in
    let moving = ops_moved par taking (staying set taking events) in
    (few, swept events moved, (par, are, refl), omega arith, omega arith)

-- all is left in a plan
pub record AllIsLeft (set : List AnyId) (events : List PlainEvent) (taking : Takings) (old new : Change) : Type 0 where
  pub few : Bool
  pub others : new ≡ record old { after = new.after }
  pub is : IsLeft set events taking few new.after
  pub within : limit_passed few new.after ≡ None

pub all_is_left : (set : List AnyId) (events : List PlainEvent) (taking : Takings) (old new : Change) (left : Left) →
    IsLeftOf set events taking old left new → judged left new.after ≡ None → AllIsLeft set events taking old new
all_is_left set events taking old new (All few) l none = record { few = few; others = l.0; is = l.1; within = none }
all_is_left set events taking old new ManyOperations l none = absurd cc

pub judged_fault : (how : Policy) (set : List AnyId) (events : List PlainEvent) → IsSound events → fault_before how.push set events ≡ None →
    (old new : Change) (left : Left) (why : Fault) → IsLeftOf set events (takes set events how) old left new → judged left new.after ≡ Some why →
    squash_of how set events ≡ Err why
judged_fault how set events h none old new (All few) why l some = squash_limited how set events h none few new.after why l.1 some
judged_fault how set events h none old new ManyOperations why l some =
    squash_limited how set events h none l.0 l.1 why l.2 (passed l.1 l.3 l.4 ∙ some)
  where
    passed : (left : List PlainEvent) → length left ≤ MAX_EVENTS → MAX_OPERATIONS < length (ops_along (nodes left)) →
        limit_passed l.0 left ≡ Some (fault.Limit limit.Operations MAX_OPERATIONS)
    passed left short many = rw (not_many MAX_EVENTS (length left) short, lt-ltb MAX_OPERATIONS (length (ops_along (nodes left))) many) refl
