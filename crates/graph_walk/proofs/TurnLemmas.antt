-- Parts of a settling in the forms in which its calls leave them.
use Rattle.std.proofs.Common.{◌≡◌, ◌∙◌, ℕ, zero, suc, ◌+◌, ◌<◌, ◌≤◌, Bool, true, false, inl, inr, List, [], ◌∷◌, ◌++◌, Option, Some, None, refl, sym, ap, subst, length, get_or, take, drop, arith, drop-cons}
use Rattle.std.proofs.lemmas.Bool.{cases_Bool, true≢false}
use Rattle.std.proofs.lemmas.List.{take-append-drop}
use Rattle.std.proofs.lemmas.Option.{none-some, same_Some}
use Rattle.std.specs.List.{AllByRecursion}
use Rattle.std.specs.Prelude.{IfNone, IfSome, MatchOption, find, is_some, slice_get}
use Rattle.plain_model.specs.declared.id.AnyId.{AnyId}
use Rattle.plain_model.specs.declared.operation.FileOp.{FileOp}
use Rattle.plain_model.specs.declared.person.Signed.{Signed}
use Rattle.plain_model.specs.Paths.{Bytes}
use Rattle.plain_model.specs.declared.event.PlainEvent.{PlainEvent}
use Rattle.plain_model.specs.declared.event.PlainEvent.TheVariants.{Blob, Commit, Tag, Reset, Pass}
use Rattle.plain_model.specs.Lookups.{find_event, id_of, is_listed, place_of}
use Rattle.event_arena.specs.Changes.{without_all}
use Rattle.history_laws.specs.Once.{AreDistinct}
use Rattle.history_laws.proofs.Lists.{item_at}
use Rattle.event_arena.proofs.ListLemmas.{drop_item, take_item}
use Rattle.history_laws.proofs.SoundOnce.{has_id_find}
use Rattle.graph_walk.specs.Flags.{flag_at, is_flagged}
use Rattle.graph_walk.specs.Taking.{can_be_taken}
use Rattle.graph_walk.specs.Outcome.{GoesOn}
use Rattle.edit_laws.specs.Settling.{first_commit_mark}
use Rattle.graph_walk.specs.UnderWay.{AreInStep, ComesToHand, IsTakenNext, IsUnderWay}
use Rattle.graph_walk.specs.declared.settling.Progress.{Progress}
use Rattle.graph_walk.specs.declared.waiting.Waiter.{Waiter}
use Rattle.graph_walk.proofs.PlaceLemmas.{has_id_place, place_found}
use Rattle.graph_walk.proofs.OutcomeLemmas.{at_end, fewer_left, goes_more}
use Rattle.graph_walk.proofs.StepLemmas.{next_found, none_next}

-- ---- facts of calls

-- ---- lists

pub all_at : {X : Type 0} (P : X → Type 0) (xs : List X) (k : ℕ) (x : X) → AllByRecursion P xs →
    slice_get xs k ≡ Some x → P x
all_at P [] k x all h = absurd (none-some x h)
all_at P (y ∷ xs) zero x all h = subst P (same_Some y x h) all.0
all_at P (y ∷ xs) (suc k) x all h = all_at P xs k x all.1 h

-- ---- the parts in other words

pub step_as : (events : List PlainEvent) (rest rest' : List Waiter) (order order' : List AnyId) (flags flags' : List Bool) (ready ready' : List ℕ) (waiting waiting' : List (List Waiter)) (next next' : ℕ) →
    rest ≡ rest' → order ≡ order' → flags ≡ flags' → ready ≡ ready' → waiting ≡ waiting' → next ≡ next' →
    AreInStep events rest order flags ready waiting next → AreInStep events rest' order' flags' ready' waiting' next'
step_as events rest rest' order order' flags flags' ready ready' waiting waiting' next next' a b c d e f s =
    subst (λ n. AreInStep events rest' order' flags' ready' waiting' n) f
    (subst (λ w. AreInStep events rest' order' flags' ready' w next) e
    (subst (λ r. AreInStep events rest' order' flags' r waiting next) d
    (subst (λ fs. AreInStep events rest' order' fs ready waiting next) c
    (subst (λ o. AreInStep events rest' o flags ready waiting next) b
    (subst (λ r. AreInStep events r order flags ready waiting next) a s)))))

-- what is taken is there
pub taken_known : (events : List PlainEvent) (order : List AnyId) (flags : List Bool) →
    ((id : AnyId) → is_listed id order ≡ is_flagged flags events id) → (id : AnyId) → is_listed id order ≡ true →
    is_some (find_event id events) ≡ true
taken_known events order flags taken id h =
    sym (has_id_find events id) ∙ has_id_place events id ∙ some (place_of id events) (sym (taken id) ∙ h)
  where
    some : (o : Option ℕ) → flag_at flags o ≡ true → is_some o ≡ true
    some None h = absurd (true≢false (sym h))
    some (Some k) h = refl

-- the flag at its place says whether an event is taken
pub taken_at : (events : List PlainEvent) (order : List AnyId) (flags : List Bool) (k : ℕ) (e : PlainEvent) →
    ((id : AnyId) → is_listed id order ≡ is_flagged flags events id) → AreDistinct events →
    slice_get events k ≡ Some e → is_listed (id_of e) order ≡ get_or flags k false
taken_at events order flags k e taken once at = taken (id_of e) ∙ ap (flag_at flags) (place_found events k e at once).0

-- ---- the first commit that is left

left_append : (order : List AnyId) (xs ys : List PlainEvent) →
    without_all order (xs ++ ys) ≡ without_all order xs ++ without_all order ys
left_append order [] ys = refl
left_append order (x ∷ xs) ys = elim (cases_Bool (is_listed (id_of x) order)) [
  | inl it ↦ rw it (left_append order xs ys)
  | inr no_it ↦ rw no_it (ap (λ zs. x ∷ zs) (left_append order xs ys))
]

first_after : (xs ys : List PlainEvent) → first_commit_mark xs ≡ None →
    first_commit_mark (xs ++ ys) ≡ first_commit_mark ys
first_after [] ys h = refl
first_after (Commit id mark branch author committer encoding comment parents ops aliases ∷ xs) ys h =
    absurd (none-some mark (sym h))
first_after (Blob id mark bytes ∷ xs) ys h = first_after xs ys h
first_after (Tag id name target tagger comment mark ∷ xs) ys h = first_after xs ys h
first_after (Reset id branch target ∷ xs) ys h = first_after xs ys h
first_after (Pass id line ∷ xs) ys h = first_after xs ys h

module _ (order : List AnyId) (events : List PlainEvent) (k : ℕ) (e : PlainEvent) (at : slice_get events k ≡ Some e) (none : first_commit_mark (without_all order (take k events)) ≡ None) where
  next_first : first_commit_mark (without_all order (take (suc k) events)) ≡ first_commit_mark (without_all order (e ∷ []))
  next_first =
      ap (λ es. first_commit_mark (without_all order es)) (take_item events k e at) ∙ ap first_commit_mark (left_append order (take k events) (e ∷ []))
      ∙ first_after (without_all order (take k events)) (without_all order (e ∷ [])) none

  -- a taken one is passed by
  pub first_taken : is_listed (id_of e) order ≡ true →
      first_commit_mark (without_all order (take (suc k) events)) ≡ None
  first_taken h = next_first ∙ rw h refl

  -- and so is one that is no commit
  pub first_other : first_commit_mark (e ∷ []) ≡ None →
      first_commit_mark (without_all order (take (suc k) events)) ≡ None
  first_other h = next_first ∙ elim (cases_Bool (is_listed (id_of e) order)) [
    | inl it ↦ rw it refl
    | inr no_it ↦ rw no_it h
  ]

  -- a commit that isn't taken is the first
  pub first_found : (mark : ℕ) → is_listed (id_of e) order ≡ false →
      ((es : List PlainEvent) → first_commit_mark (e ∷ es) ≡ Some mark) →
      first_commit_mark (without_all order events) ≡ Some mark
  first_found mark h own =
      ap (λ es. first_commit_mark (without_all order es)) (sym (take-append-drop k events) ∙ ap (λ ys. take k events ++ ys) (drop_item events k e at))
      ∙ ap first_commit_mark (left_append order (take k events) (e ∷ drop (suc k) events))
      ∙ first_after (without_all order (take k events)) (without_all order (e ∷ drop (suc k) events)) none
      ∙ rw h (own (without_all order (drop (suc k) events)))

-- ---- who comes to hand

abbrev pub nobody : Waiter
nobody = record { place = 0; slot = 0 }

pub in_hand : (events : List PlainEvent) (woken : List Waiter) (index : ℕ) (order : List AnyId) (flags : List Bool) (ready : List ℕ) (waiting : List (List Waiter)) (next : ℕ) →
    index < length woken →
    AreInStep events (drop index woken) order flags ready waiting next →
    AreInStep events (get_or woken index nobody ∷ drop (index + 1) woken) order flags ready waiting next
in_hand events woken index order flags ready waiting next low s =
    subst (λ rest. AreInStep events rest order flags ready waiting next) (drop-cons woken index nobody low ∙ ap (λ k. get_or woken index nobody ∷ drop k woken) (sym (one index))) s
  where
    one : (k : ℕ) → k + 1 ≡ suc k
    one k = omega arith

-- a place that comes to hand is that of the event that is taken next
pub comes_next : (s : Progress) (place : ℕ) → AreDistinct s.plan.now.after → ComesToHand s place → IsTakenNext s place
comes_next s place once h =
    let item = item_at s.plan.now.after place (let a = h.free.0 in let b = h.at_hand.within in omega arith) in
    record {
      at_hand = h.at_hand;
      event = item.0;
      there = item.1;
      earliest = next_found s.plan.now.after s.order s.taken.items s.ready s.waiting (record { place = place; slot = 0 }) s.next item.0 h.at_hand once item.1 h.untaken (h.free.1 item.0 item.1) h.first;
    }

pub from_some : {X : Type 0} (o : Option X) (x : X) (P : X → Type 0) → o ≡ Some x → IfSome o P → P x
from_some None x P is h = absurd (none-some x is)
from_some (Some y) x P is h = subst P (same_Some y x is) h

pub from_none : {X : Type 0} (o : Option X) (P : Type 0) → o ≡ None → IfNone o P → P
from_none None P is h = h
from_none (Some y) P is h = absurd (none-some y (sym is))

-- ---- one turn

abbrev GoesAt : List PlainEvent → List AnyId → Type 0
GoesAt events order = GoesOn events (length (without_all order events)) order

pub same_goes : (es es' : List PlainEvent) (order order' : List AnyId) → es ≡ es' → order ≡ order' → GoesAt es order →
    GoesAt es' order'
same_goes es es' order order' a b g = subst (λ o. GoesAt es' o) b (subst (λ e. GoesAt e order) a g)

same_left : (es es' : List PlainEvent) (order order' : List AnyId) → es ≡ es' → order ≡ order' →
    length (without_all order es) ≡ length (without_all order' es')
same_left es es' order order' a b = ap (λ e. length (without_all order e)) a ∙ ap (λ o. length (without_all o es')) b

pub turn_taken : (s n t : Progress) (place : ℕ) → AreDistinct s.plan.now.after → n.plan.now.after ≡ s.plan.now.after →
    n.order ≡ s.order → IsTakenNext n place → t.plan.now.after ≡ n.plan.now.after
    → ((event : PlainEvent) → slice_get n.plan.now.after place ≡ Some event → t.order ≡ n.order ++ id_of event ∷ []) →
    GoesAt s.plan.now.after s.order
    → GoesAt t.plan.now.after t.order × (length (without_all t.order t.plan.now.after) < length (without_all s.order s.plan.now.after))
turn_taken s n t place once plan_n order_n earliest plan_t order_t goes =
    let es = n.plan.now.after in
    let once_n : AreDistinct es = subst AreDistinct (sym plan_n) once in
    let known = taken_known es n.order n.taken.items earliest.at_hand.taken in
    let goes_n = same_goes s.plan.now.after es s.order n.order (sym plan_n) (sym order_n) goes in
    let order = order_t earliest.event earliest.there in
    let more = goes_more es once_n n.order known place earliest.event earliest.there earliest.earliest goes_n in
    let fewer = fewer_left es once_n n.order known earliest.event earliest.earliest in
    let same_n = same_left s.plan.now.after es s.order n.order (sym plan_n) (sym order_n) in
    let same_t = same_left es t.plan.now.after (n.order ++ id_of earliest.event ∷ []) t.order (sym plan_t) (sym order) in
    (same_goes es t.plan.now.after (n.order ++ id_of earliest.event ∷ []) t.order (sym plan_t) (sym order) more, omega arith)

pub ended : (s n : Progress) → AreDistinct s.plan.now.after → n.plan.now.after ≡ s.plan.now.after → n.order ≡ s.order →
    (find (can_be_taken n.order) n.plan.now.after ≡ None) × IsUnderWay [] n → GoesAt s.plan.now.after s.order →
    GoesOn n.plan.now.after zero n.order
ended s n once plan_n order_n none goes =
    let es = n.plan.now.after in
    let once_n : AreDistinct es = subst AreDistinct (sym plan_n) once in
    at_end es once_n n.order (taken_known es n.order n.taken.items none.1.taken) none.0 (same_goes s.plan.now.after es s.order n.order (sym plan_n) (sym order_n) goes)

-- ---- what is found among the next places

abbrev IsFound : Progress → Option ℕ → Type 0
IsFound s found =
    MatchOption found ((s.ready ≡ []) × (length s.plan.now.after ≤ s.next) × IsUnderWay [] s) (λ place. ComesToHand s place)

pub none_found : (s : Progress) (found : Option ℕ) → AreDistinct s.plan.now.after → IsFound s found →
    IfNone found ((find (can_be_taken s.order) s.plan.now.after ≡ None) × IsUnderWay [] s)
none_found s None once h =
    let empty = subst (λ r. AreInStep s.plan.now.after [] s.order s.taken.items r s.waiting s.next) h.0 h.2 in
    (none_next s.plan.now.after s.order s.taken.items s.waiting s.next empty once h.1, h.2)
none_found s (Some place) once h = tt

pub some_found : (s : Progress) (found : Option ℕ) → AreDistinct s.plan.now.after → IsFound s found →
    IfSome found (λ place. IsTakenNext s place)
some_found s None once h = tt
some_found s (Some place) once h = comes_next s place once h

pub not_a_commit : (e : PlainEvent)
    → ((id mark : ℕ) (branch : Bytes) (author committer : Signed) (encoding : Option Bytes) (comment : Bytes) (parents : List ℕ) (ops : List FileOp) (aliases : List ℕ) → e ≡ Commit id mark branch author committer encoding comment parents ops aliases → ⊥)
    → first_commit_mark (e ∷ []) ≡ None
not_a_commit (Commit id mark branch author committer encoding comment parents ops aliases) h =
    absurd (h id mark branch author committer encoding comment parents ops aliases refl)
not_a_commit (Blob id mark bytes) h = refl
not_a_commit (Tag id name target tagger comment mark) h = refl
not_a_commit (Reset id branch target) h = refl
not_a_commit (Pass id line) h = refl
