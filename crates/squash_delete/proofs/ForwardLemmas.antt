-- Limits of what is left where commits push forward, event by event, and of what it is when it is swept and settled.
use Rattle.std.proofs.Common.{◌≡◌, ◌∙◌, ℕ, ◌+◌, Bool, true, false, cond, not, List, [], ◌∷◌, Option, Some, None, refl, sym, ap, length, map, filter, append-nil, arith, true≢false}
use Rattle.std.specs.Prelude.{◌||◌, Ok, Err, IsOk, Result, nat_lt, if◌then◌else◌}
use Rattle.std.specs.List.{list_any}
use Rattle.plain_model.specs.declared.id.AnyId.{AnyId}
use Rattle.plain_model.specs.declared.limit.TheConstants.{MAX_OPERATIONS, MAX_PARENTS}
use Rattle.plain_model.specs.declared.fault.Fault.{Fault}
use Rattle.plain_model.specs.declared.fault.Fault.TheVariants as fault
use Rattle.plain_model.specs.declared.fault.Halt.{Halt}
use Rattle.plain_model.specs.declared.fault.Halt.TheVariants as halt
use Rattle.plain_model.specs.declared.fault.Which.TheVariants as limit
use Rattle.plain_model.specs.Faults.{Returns}
use Rattle.plain_model.specs.Histories.{nodes}
use Rattle.history_laws.specs.FirstParents.{ops_along}
use Rattle.history_laws.specs.Once.{AreDistinct}
use Rattle.event_arena.specs.Changes.{without_all}
use Rattle.plan_steps.proofs.LeavingLemmas.{after_id, left_staying}
use Rattle.plan_steps.proofs.SweepLemmas.{without_passing}
use Rattle.plain_model.specs.declared.operation.FileOp.{FileOp}
use Rattle.plain_model.specs.declared.policy.Lean.{Lean}
use Rattle.plain_model.specs.declared.event.PlainEvent.{PlainEvent}
use Rattle.plain_model.specs.declared.event.PlainEvent.TheVariants.{Blob, Commit, Tag, Reset, Pass}
use Rattle.plain_model.specs.Lookups.{event_ops, event_parents, id_of, is_listed}
use Rattle.edit_laws.specs.Parts.{tally}
use Rattle.edit_laws.specs.Settling.{settle}
use Rattle.edit_laws.specs.Sweeping.{swept}
use Rattle.edit_laws.proofs.Settles.{settled_sums}
use Rattle.edit_laws.proofs.Tallies.{ops_counted, own_ops}
use Rattle.plan_steps.specs.Leaving.{goes, staying}
use Rattle.squash_laws.specs.Removed.{all_left, parents_after}
use Rattle.squash_delete.specs.Sources.{count_ops}
use Rattle.squash_delete.specs.declared.fates.Fate.{Fate}
use Rattle.squash_delete.specs.declared.fates.Fate.TheVariants.{Same, Taken, Moved}
use Rattle.squash_delete.specs.Fates.{FateIs, all_given, fated, given, has_many_parents, left_event, left_some, limit_left, taken}
use Rattle.plan_steps.specs.Tables.{IsTable}
use Rattle.squash_delete.proofs.Answered.{ops_swept}
use Rattle.squash_delete.proofs.FateLemmas.{given_all}
use Rattle.squash_delete.proofs.JudgedLemmas.{big_settled, big_swept}

-- the first limit that numbers pass
abbrev limit_of : ℕ → Bool → Option Fault
limit_of ops many =
    if nat_lt MAX_OPERATIONS ops then Some (fault.Limit limit.Operations MAX_OPERATIONS)
    else if many then Some (fault.Limit limit.Parents MAX_PARENTS)
    else None

-- ---- one event after another

module _ (set : List AnyId) (events : List PlainEvent) (comments : Bool) (tags : Lean) where
  abbrev keep : PlainEvent → Bool
  keep e = not (goes set (taken set events comments tags) e)

  abbrev becomes : PlainEvent → PlainEvent
  becomes = left_event set events comments tags

  abbrev left_one : PlainEvent → List PlainEvent
  left_one e = left_some set events comments tags (e ∷ [])

  -- the operations of all are those of each
  pub ops_each : (es : List PlainEvent) → tally (λ e. count_ops (left_one e)) es ≡ count_ops (left_some set events comments tags es)
  ops_each es = each es ∙ ops_counted (left_some set events comments tags es)
    where
      each : (es : List PlainEvent) → tally (λ e. count_ops (left_one e)) es ≡ tally own_ops (left_some set events comments tags es)
      each [] = refl
      each (e ∷ es) = by (keep e) refl (each es)
        where
          by : (b : Bool) → keep e ≡ b → tally (λ x. count_ops (left_one x)) es ≡ tally own_ops (left_some set events comments tags es) →
              count_ops (left_one e) + tally (λ x. count_ops (left_one x)) es ≡ tally own_ops (left_some set events comments tags (e ∷ es))
          by true is rest =
              let own : count_ops (left_one e) ≡ tally own_ops (becomes e ∷ []) = sym (ops_counted (left_one e)) ∙ ap (λ b. tally own_ops (map becomes (cond b (e ∷ []) []))) is in
              let whole : tally own_ops (left_some set events comments tags (e ∷ es)) ≡ own_ops (becomes e) + tally own_ops (left_some set events comments tags es) =
              ap (λ b. tally own_ops (map becomes (cond b (e ∷ filter keep es) (filter keep es)))) is in
              omega arith
          by false is rest =
              let own : count_ops (left_one e) ≡ 0 = ap (λ b. count_ops (map becomes (cond b (e ∷ []) []))) is in
              let whole : tally own_ops (left_some set events comments tags (e ∷ es)) ≡ tally own_ops (left_some set events comments tags es) =
              ap (λ b. tally own_ops (map becomes (cond b (e ∷ filter keep es) (filter keep es)))) is in
              omega arith

  -- and so are those with too many parents
  pub parents_each : (es : List PlainEvent) → list_any (λ e. has_many_parents (left_one e)) es ≡ has_many_parents (left_some set events comments tags es)
  parents_each [] = refl
  parents_each (e ∷ es) = by (keep e) refl (parents_each es)
    where
      or_none : (a b : Bool) → (a || false) || b ≡ a || b
      or_none true b = refl
      or_none false b = refl

      by : (b : Bool) → keep e ≡ b → list_any (λ x. has_many_parents (left_one x)) es ≡ has_many_parents (left_some set events comments tags es) →
          has_many_parents (left_one e) || list_any (λ x. has_many_parents (left_one x)) es ≡ has_many_parents (left_some set events comments tags (e ∷ es))
      by true is rest =
          ap (λ b. has_many_parents (map becomes (cond b (e ∷ []) [])) || list_any (λ x. has_many_parents (left_one x)) es) is
          ∙ ap (λ x. has_many_parents (becomes e ∷ []) || x) rest
          ∙ or_none (nat_lt MAX_PARENTS (length (event_parents (becomes e)))) (has_many_parents (left_some set events comments tags es))
          ∙ sym (ap (λ b. has_many_parents (map becomes (cond b (e ∷ filter keep es) (filter keep es)))) is)
      by false is rest =
          ap (λ b. has_many_parents (map becomes (cond b (e ∷ []) [])) || list_any (λ x. has_many_parents (left_one x)) es) is
          ∙ rest ∙ sym (ap (λ b. has_many_parents (map becomes (cond b (e ∷ filter keep es) (filter keep es)))) is)

  -- ---- what is left of one

  -- what is no commit has neither operations nor parents, whatever is left of it
  none_left : (e : PlainEvent) (b : Bool) → event_ops (becomes e) ≡ [] → event_parents (becomes e) ≡ [] →
      (0 ≡ count_ops (map becomes (cond b (e ∷ []) []))) × (false ≡ has_many_parents (map becomes (cond b (e ∷ []) [])))
  none_left e b no_ops no_parents = (ops b, many b)
    where
      ops : (b : Bool) → 0 ≡ count_ops (map becomes (cond b (e ∷ []) []))
      ops true = sym (sym (ops_counted (becomes e ∷ [])) ∙ own (becomes e) no_ops)
        where
          own : (x : PlainEvent) → event_ops x ≡ [] → tally own_ops (x ∷ []) ≡ 0
          own (Commit id mark branch author committer encoding comment parents ops aliases) is = ap (λ (os : List FileOp). tally own_ops (Commit id mark branch author committer encoding comment parents os aliases ∷ [])) is
          own (Blob id mark bytes) is = refl
          own (Tag id name target tagger comment mark) is = refl
          own (Reset id branch target) is = refl
          own (Pass id line) is = refl
      ops false = refl

      many : (b : Bool) → false ≡ has_many_parents (map becomes (cond b (e ∷ []) []))
      many true = sym (ap (λ (ps : List ℕ). nat_lt MAX_PARENTS (length ps) || false) no_parents)
      many false = refl

  -- what is one of the set
  pub listed_left : (e : PlainEvent) → is_listed (id_of e) set ≡ true → (0 ≡ count_ops (left_one e)) × (false ≡ has_many_parents (left_one e))
  listed_left (Commit id mark branch author committer encoding comment parents ops aliases) out = (
    sym (ap (λ b. count_ops (map becomes (cond (not b) (Commit id mark branch author committer encoding comment parents ops aliases ∷ []) []))) out),
    sym (ap (λ b. has_many_parents (map becomes (cond (not b) (Commit id mark branch author committer encoding comment parents ops aliases ∷ []) []))) out),
  )
  listed_left (Blob id mark bytes) out = none_left (Blob id mark bytes) true refl refl
  listed_left (Tag id name target tagger comment mark) out = none_left (Tag id name target tagger comment mark) (keep (Tag id name target tagger comment mark)) refl refl
  listed_left (Reset id branch (Some target)) out = none_left (Reset id branch (Some target)) (keep (Reset id branch (Some target))) refl refl
  listed_left (Reset id branch None) out = none_left (Reset id branch None) (keep (Reset id branch None)) refl refl
  listed_left (Pass id line) out = none_left (Pass id line) (keep (Pass id line)) refl refl

  none_given : (e : PlainEvent) (fate : Fate) → event_ops e ≡ [] → event_parents e ≡ [] → ((ps : List ℕ) (os : List FileOp) (text : List ℕ) → given (Taken ps os text) e ≡ e) →
      (length (event_ops (given fate e)) ≡ 0) × (nat_lt MAX_PARENTS (length (event_parents (given fate e))) ≡ false)
  none_given e Same no_ops no_parents same = (ap length no_ops, ap (λ (ps : List ℕ). nat_lt MAX_PARENTS (length ps)) no_parents)
  none_given e (Taken ps os text) no_ops no_parents same = (
    ap (λ (x : PlainEvent). length (event_ops x)) (same ps os text) ∙ ap length no_ops,
    ap (λ (x : PlainEvent). nat_lt MAX_PARENTS (length (event_parents x))) (same ps os text) ∙ ap (λ (ps : List ℕ). nat_lt MAX_PARENTS (length ps)) no_parents,
  )
  none_given e (Moved t) no_ops no_parents same = by e no_ops no_parents
    where
      by : (e : PlainEvent) → event_ops e ≡ [] → event_parents e ≡ [] →
          (length (event_ops (given (Moved t) e)) ≡ 0) × (nat_lt MAX_PARENTS (length (event_parents (given (Moved t) e))) ≡ false)
      by (Commit id mark branch author committer encoding comment parents ops aliases) no_ops no_parents =
          (ap length no_ops, ap (λ (ps : List ℕ). nat_lt MAX_PARENTS (length ps)) no_parents)
      by (Blob id mark bytes) no_ops no_parents = (refl, refl)
      by (Tag id name target tagger comment mark) no_ops no_parents = (refl, refl)
      by (Reset id branch target) no_ops no_parents = (refl, refl)
      by (Pass id line) no_ops no_parents = (refl, refl)

  -- and any other
  pub stays_left : (e : PlainEvent) (fate : Fate) → is_listed (id_of e) set ≡ false → FateIs set events comments tags e fate →
      (length (event_ops (given fate e)) ≡ count_ops (left_one e)) × (nat_lt MAX_PARENTS (length (event_parents (given fate e))) ≡ has_many_parents (left_one e))
  stays_left (Commit id mark branch author committer encoding comment parents ops aliases) fate out is =
      let e : PlainEvent = Commit id mark branch author committer encoding comment parents ops aliases in
      let made : given fate e ≡ becomes e = is ∙ ap (λ b. cond b e (becomes e)) out in (
        ap (λ (x : PlainEvent). length (event_ops x)) made ∙ sym (ap length (append-nil (event_ops (becomes e)))) ∙ sym (ap (λ b. count_ops (map becomes (cond (not b) (e ∷ []) []))) out),
        ap (λ (x : PlainEvent). nat_lt MAX_PARENTS (length (event_parents x))) made ∙ or_none (nat_lt MAX_PARENTS (length (event_parents (becomes e))))
            ∙ sym (ap (λ b. has_many_parents (map becomes (cond (not b) (e ∷ []) []))) out),
      )
    where
      or_none : (b : Bool) → b ≡ b || false
      or_none true = refl
      or_none false = refl
  stays_left (Blob id mark bytes) fate out is =
      let g = none_given (Blob id mark bytes) fate refl refl (λ ps os text. refl) in
      let l = none_left (Blob id mark bytes) true refl refl in (g.0 ∙ l.0, g.1 ∙ l.1)
  stays_left (Tag id name target tagger comment mark) fate out is =
      let g = none_given (Tag id name target tagger comment mark) fate refl refl (λ ps os text. refl) in
      let l = none_left (Tag id name target tagger comment mark) (keep (Tag id name target tagger comment mark)) refl refl in (g.0 ∙ l.0, g.1 ∙ l.1)
  stays_left (Reset id branch (Some target)) fate out is =
      let g = none_given (Reset id branch (Some target)) fate refl refl (λ ps os text. refl) in
      let l = none_left (Reset id branch (Some target)) (keep (Reset id branch (Some target))) refl refl in (g.0 ∙ l.0, g.1 ∙ l.1)
  stays_left (Reset id branch None) fate out is =
      let g = none_given (Reset id branch None) fate refl refl (λ ps os text. refl) in
      let l = none_left (Reset id branch None) (keep (Reset id branch None)) refl refl in (g.0 ∙ l.0, g.1 ∙ l.1)
  stays_left (Pass id line) fate out is =
      let g = none_given (Pass id line) fate refl refl (λ ps os text. refl) in
      let l = none_left (Pass id line) (keep (Pass id line)) refl refl in (g.0 ∙ l.0, g.1 ∙ l.1)

-- ---- swept and settled

pub limit_settled : (old left new : List PlainEvent) → settle (swept old left) ≡ Ok new → limit_left new ≡ limit_left left
limit_settled old left new is =
    let ops : count_ops new ≡ count_ops left =
    sym (ops_counted new) ∙ settled_sums (swept old left) new is own_ops ∙ ops_counted (swept old left) ∙ ops_swept old left left in
    let many : has_many_parents new ≡ has_many_parents left = big_settled (swept old left) new is ∙ big_swept old left left in
    limits_alike (count_ops new) (count_ops left) (has_many_parents new) (has_many_parents left) ops many
  where
    limits_alike : (a b : ℕ) (x y : Bool) → a ≡ b → x ≡ y →
        limit_of a x ≡ limit_of b y
    limits_alike a b x y is so = ap (λ n. limit_of n x) is ∙ ap (λ z. limit_of b z) so

-- by whether there are too many operations, and too many parents
pub limit_by : (left : List PlainEvent) (ops many : Bool) → nat_lt MAX_OPERATIONS (count_ops left) ≡ ops → has_many_parents left ≡ many →
    (if ops then Some (fault.Limit limit.Operations MAX_OPERATIONS) else if many then Some (fault.Limit limit.Parents MAX_PARENTS) else None) ≡ limit_left left
limit_by left ops many is so =
    sym (ap (λ b. if b then Some (fault.Limit limit.Operations MAX_OPERATIONS) else if has_many_parents left then Some (fault.Limit limit.Parents MAX_PARENTS) else None) is
    ∙ ap (λ b. if ops then Some (fault.Limit limit.Operations MAX_OPERATIONS) else if b then Some (fault.Limit limit.Parents MAX_PARENTS) else None) so)

-- ---- the whole

module _ (set : List AnyId) (events : List PlainEvent) (comments : Bool) (tags : Lean) where
  fated_id : (e : PlainEvent) → id_of (fated set events comments tags e) ≡ id_of e
  fated_id e = go (goes set (taken set events comments tags) e)
    where
      go : (b : Bool) → id_of (cond b e (left_event set events comments tags e)) ≡ id_of e
      go true = refl
      go false = after_id (parents_after set events (taken set events comments tags)) (taken set events comments tags) e

  without_fated : (ids : List AnyId) (es : List PlainEvent) →
      without_all ids (map (fated set events comments tags) es) ≡ map (fated set events comments tags) (without_all ids es)
  without_fated ids [] = refl
  without_fated ids (e ∷ es) =
      ap (λ id. cond (not (is_listed id ids)) (fated set events comments tags e ∷ without_all ids (map (fated set events comments tags) es)) (without_all ids (map (fated set events comments tags) es))) (fated_id e)
      ∙ ap (λ (l : List PlainEvent). cond (not (is_listed (id_of e) ids)) (fated set events comments tags e ∷ l) l) (without_fated ids es)
      ∙ go (not (is_listed (id_of e) ids))
    where
      go : (b : Bool) → cond b (fated set events comments tags e ∷ map (fated set events comments tags) (without_all ids es)) (map (fated set events comments tags) (without_all ids es))
          ≡ map (fated set events comments tags) (cond b (e ∷ without_all ids es) (without_all ids es))
      go true = refl
      go false = refl

  staying_fated : (es : List PlainEvent) →
      map (fated set events comments tags) (staying set (taken set events comments tags) es) ≡ left_some set events comments tags es
  staying_fated [] = refl
  staying_fated (e ∷ es) = go (goes set (taken set events comments tags) e) refl (staying_fated es)
    where
      go : (b : Bool) → goes set (taken set events comments tags) e ≡ b →
          map (fated set events comments tags) (staying set (taken set events comments tags) es) ≡ left_some set events comments tags es →
          map (fated set events comments tags) (staying set (taken set events comments tags) (e ∷ es)) ≡ left_some set events comments tags (e ∷ es)
      go true is rest = rw is rest
      go false is rest =
          ap (λ b. map (fated set events comments tags) (cond (not b) (e ∷ staying set (taken set events comments tags) es) (staying set (taken set events comments tags) es))) is
          ∙ ap (λ b. cond b e (left_event set events comments tags e) ∷ map (fated set events comments tags) (staying set (taken set events comments tags) es)) is
          ∙ ap (λ (l : List PlainEvent). left_event set events comments tags e ∷ l) rest
          ∙ sym (ap (λ b. map (left_event set events comments tags) (cond (not b) (e ∷ staying set (taken set events comments tags) es) (staying set (taken set events comments tags) es))) is)

  -- events that become what they become, without those that go, are what is left
  left_whole : AreDistinct events →
      without_all (map id_of (filter (goes set (taken set events comments tags)) events)) (map (fated set events comments tags) events) ≡ all_left set events (taken set events comments tags)
  left_whole once =
      without_fated (map id_of (filter (goes set (taken set events comments tags)) events)) events
      ∙ ap (λ (es : List PlainEvent). map (fated set events comments tags) es) (without_passing (goes set (taken set events comments tags)) events once)
      ∙ staying_fated events ∙ sym (left_staying set events (taken set events comments tags))

  -- and so is what is made of a plan's list
  pub left_given : AreDistinct events → (ids : List AnyId) (fates : List Fate) → ids ≡ map id_of (filter (goes set (taken set events comments tags)) events) →
      IsTable Same (FateIs set events comments tags) events fates → without_all ids (all_given fates events) ≡ all_left set events (taken set events comments tags)
  left_given once ids fates is table =
      ap (λ (l : List PlainEvent). without_all ids l) (given_all (fated set events comments tags) fates events table.count (λ j e at. table.entry j e at))
      ∙ ap (λ (l : List AnyId). without_all l (map (fated set events comments tags) events)) is
      ∙ left_whole once

-- ---- answers

pub made_is : {X Y : Type 0} (r : Result X Y) → IsOk r → (x : X) × (r ≡ Ok x)
made_is (Ok x) h = (x, refl)
made_is (Err y) h = absurd (true≢false (sym h))

abbrev pub outcome : List PlainEvent → Option Fault → Result (List PlainEvent) Fault
outcome new None = Ok new
outcome new (Some fault) = Err fault

pub answer_by : (new : List PlainEvent) → (if nat_lt MAX_OPERATIONS (length (ops_along (nodes new))) then Err (fault.Limit limit.Operations MAX_OPERATIONS)
    else if has_many_parents new then Err (fault.Limit limit.Parents MAX_PARENTS) else Ok new) ≡ outcome new (limit_left new)
answer_by new = go (nat_lt MAX_OPERATIONS (count_ops new)) (has_many_parents new)
  where
    go : (a b : Bool) → (if a then Err (fault.Limit limit.Operations MAX_OPERATIONS) else if b then Err (fault.Limit limit.Parents MAX_PARENTS) else Ok new)
        ≡ outcome new (if a then Some (fault.Limit limit.Operations MAX_OPERATIONS) else if b then Some (fault.Limit limit.Parents MAX_PARENTS) else None)
    go true b = refl
    go false true = refl
    go false false = refl

-- what is refused
pub refused_by : {X : Type 0} (view : X → List PlainEvent) (answer : Result (List PlainEvent) Fault) (why : Halt) →
    ((fault : Fault) → why ≡ halt.Refused fault → answer ≡ Err fault) → Returns view (Err why) answer
refused_by view answer halt.Memory h = tt
refused_by view answer (halt.Refused fault) h = h fault refl
