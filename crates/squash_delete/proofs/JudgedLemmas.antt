-- The limits of what is left are those of the history after, whatever parents its commits have for now.
use Rattle.std.proofs.Common.{◌≡◌, ◌∙◌, ℕ, zero, suc, ◌≤◌, ◌<◌, Bool, true, false, cond, not, List, [], ◌∷◌, ◌++◌, Option, Some, None, refl, sym, ap, subst, length, map, filter, flat_map, arith, true≢false, IsTrue}
use Rattle.std.specs.Prelude.{◌||◌, ◌&&◌, nat_lt, slice_get, Ok, if◌then◌else◌}
use Rattle.std.specs.List.{AllByRecursion, list_any}
use Rattle.std.proofs.lemmas.List.Folds.{list_any-append}
use Rattle.std.proofs.lemmas.Option.{none-some, same_Some}
use Rattle.std.proofs.lemmas.Bool.{lt-ltb}
use Rattle.plain_model.specs.declared.id.AnyId.{AnyId}
use Rattle.plain_model.specs.declared.limit.TheConstants.{MAX_ALIASES, MAX_EVENTS, MAX_OPERATIONS, MAX_PARENTS}
use Rattle.plain_model.specs.declared.fault.Fault.{Fault}
use Rattle.plain_model.specs.declared.fault.Fault.TheVariants as fault
use Rattle.plain_model.specs.declared.fault.Which.TheVariants as limit
use Rattle.plain_model.specs.declared.event.PlainEvent.{PlainEvent}
use Rattle.plain_model.specs.declared.event.PlainEvent.TheVariants.{Blob, Commit, Tag, Reset, Pass}
use Rattle.plain_model.specs.Histories.{nodes, past}
use Rattle.plain_model.specs.Lookups.{alias_count, event_parents, is_listed, referents_of}
use Rattle.plain_model.specs.declared.id.AnyId.TheVariants as any
use Rattle.plain_model.specs.Soundness.{IsSound, are_distinct}
use Rattle.history_laws.specs.FirstParents.{ops_along}
use Rattle.edit_laws.specs.Parts.{HasFewParents, one_if, tally}
use Rattle.edit_laws.specs.Passing.{limit_fault}
use Rattle.edit_laws.specs.Settling.{settle}
use Rattle.edit_laws.specs.Sweeping.{is_left_over, is_named, swept}
use Rattle.edit_laws.proofs.Lists.{none_passing, some_passing}
use Rattle.edit_laws.proofs.Limits.{not_many}
use Rattle.edit_laws.proofs.Settles.{settled_sums}
use Rattle.edit_laws.proofs.Sound.{in_parts}
use Rattle.history_laws.proofs.SoundOnce.{sound_once}
use Rattle.edit_laws.proofs.Tallies.{aliases_counted, counted, one, ops_counted, own_aliases, own_ops}
use Rattle.graph_walk.specs.Expansions.{AreFew, own_change, parent_changes}
use Rattle.squash_laws.specs.Removed.{Takings, is_removed, parents_after, without_set}
use Rattle.squash_delete.specs.Judged.{IsLeft, ParentsAre, limit_passed}
use Rattle.plan_steps.specs.Leaving.{event_after, goes, staying}
use Rattle.plan_steps.proofs.LeavingLemmas.{left_staying, unremoved_parents}

-- ---- other parents change no sum

module _ (takes : Takings) (par other : List ℕ → List ℕ) where
  named_one : (b : ℕ) (e : PlainEvent) → is_listed (any.Blob b) (referents_of (event_after par takes e)) ≡ is_listed (any.Blob b) (referents_of (event_after other takes e))
  named_one b (Commit id mark branch author committer encoding comment parents ops aliases) =
      skip (par parents) _ ∙ sym (skip (other parents) _)
    where
      skip : (ps : List ℕ) (rest : List AnyId) → is_listed (any.Blob b) (map any.Commit ps ++ rest) ≡ is_listed (any.Blob b) rest
      skip [] rest = refl
      skip (p ∷ ps) rest = skip ps rest
  named_one b (Blob id mark bytes) = refl
  named_one b (Tag id name target tagger comment mark) = refl
  named_one b (Reset id branch (Some target)) = refl
  named_one b (Reset id branch None) = refl
  named_one b (Pass id line) = refl

  named_alike : (b : ℕ) (es : List PlainEvent) → is_named (map (event_after par takes) es) b ≡ is_named (map (event_after other takes) es) b
  named_alike b [] = refl
  named_alike b (e ∷ es) =
      ap (λ x. x || is_named (map (event_after par takes) es) b) (named_one b e)
      ∙ ap (λ x. is_listed (any.Blob b) (referents_of (event_after other takes e)) || x) (named_alike b es)

  module _ (old whole : List PlainEvent) where
    over_alike : (e : PlainEvent) → is_left_over old (map (event_after par takes) whole) (event_after par takes e) ≡ is_left_over old (map (event_after other takes) whole) (event_after other takes e)
    over_alike (Blob id mark bytes) = ap (λ x. is_named old id && not x) (named_alike id whole)
    over_alike (Commit id mark branch author committer encoding comment parents ops aliases) = refl
    over_alike (Tag id name target tagger comment mark) = refl
    over_alike (Reset id branch (Some target)) = refl
    over_alike (Reset id branch None) = refl
    over_alike (Pass id line) = refl

    sums_some : (f : PlainEvent → ℕ) → ((e : PlainEvent) → f (event_after par takes e) ≡ f (event_after other takes e)) → (es : List PlainEvent) →
        tally f (filter (λ e. not (is_left_over old (map (event_after par takes) whole) e)) (map (event_after par takes) es))
        ≡ tally f (filter (λ e. not (is_left_over old (map (event_after other takes) whole) e)) (map (event_after other takes) es))
    sums_some f alike [] = refl
    sums_some f alike (e ∷ es) = by (is_left_over old (map (event_after par takes) whole) (event_after par takes e)) (is_left_over old (map (event_after other takes) whole) (event_after other takes e)) (over_alike e) (alike e) (sums_some f alike es)
      where
        by : (a b : Bool) → a ≡ b → f (event_after par takes e) ≡ f (event_after other takes e) →
            tally f (filter (λ e. not (is_left_over old (map (event_after par takes) whole) e)) (map (event_after par takes) es))
            ≡ tally f (filter (λ e. not (is_left_over old (map (event_after other takes) whole) e)) (map (event_after other takes) es)) →
            tally f (cond (not a) (event_after par takes e ∷ filter (λ e. not (is_left_over old (map (event_after par takes) whole) e)) (map (event_after par takes) es)) (filter (λ e. not (is_left_over old (map (event_after par takes) whole) e)) (map (event_after par takes) es)))
            ≡ tally f (cond (not b) (event_after other takes e ∷ filter (λ e. not (is_left_over old (map (event_after other takes) whole) e)) (map (event_after other takes) es)) (filter (λ e. not (is_left_over old (map (event_after other takes) whole) e)) (map (event_after other takes) es)))
        by true true is own rest = rest
        by false false is own rest = omega arith
        by true false is own rest = absurd (true≢false is)
        by false true is own rest = absurd (true≢false (sym is))

    -- of what is swept
    pub sums_alike : (f : PlainEvent → ℕ) → ((e : PlainEvent) → f (event_after par takes e) ≡ f (event_after other takes e)) →
        tally f (swept old (map (event_after par takes) whole)) ≡ tally f (swept old (map (event_after other takes) whole))
    sums_alike f alike = sums_some f alike whole

  ops_alike : (e : PlainEvent) → own_ops (event_after par takes e) ≡ own_ops (event_after other takes e)
  ops_alike (Commit id mark branch author committer encoding comment parents ops aliases) = refl
  ops_alike (Blob id mark bytes) = refl
  ops_alike (Tag id name target tagger comment mark) = refl
  ops_alike (Reset id branch (Some target)) = refl
  ops_alike (Reset id branch None) = refl
  ops_alike (Pass id line) = refl

  aliases_alike : (e : PlainEvent) → own_aliases (event_after par takes e) ≡ own_aliases (event_after other takes e)
  aliases_alike (Commit id mark branch author committer encoding comment parents ops aliases) = refl
  aliases_alike (Blob id mark bytes) = refl
  aliases_alike (Tag id name target tagger comment mark) = refl
  aliases_alike (Reset id branch (Some target)) = refl
  aliases_alike (Reset id branch None) = refl
  aliases_alike (Pass id line) = refl

-- ---- how many events

-- the first limit that numbers pass
abbrev limit_of : ℕ → ℕ → Bool → ℕ → Option Fault
limit_of count ops many aliases =
    if nat_lt MAX_EVENTS count then Some (fault.Limit limit.Events MAX_EVENTS)
    else if nat_lt MAX_OPERATIONS ops then Some (fault.Limit limit.Operations MAX_OPERATIONS)
    else if many then Some (fault.Limit limit.Parents MAX_PARENTS)
    else if nat_lt MAX_ALIASES aliases then Some (fault.Limit limit.Aliases MAX_ALIASES)
    else None

-- ---- commits with too many parents

abbrev is_big : PlainEvent → Bool
is_big e = nat_lt MAX_PARENTS (length (event_parents e))

abbrev is_long : ℕ × List ℕ → Bool
is_long change = nat_lt MAX_PARENTS (length change.1)

abbrev big : PlainEvent → ℕ
big e = one_if (list_any is_big (e ∷ []))

-- settling moves no commit away
pub big_settled : (es new : List PlainEvent) → settle es ≡ Ok new → list_any is_big new ≡ list_any is_big es
big_settled es new is = go (list_any is_big new) (list_any is_big es) refl refl
  where
    join : (xs ys : List PlainEvent) → list_any is_big (xs ++ ys) ≡ list_any is_big xs || list_any is_big ys
    join xs ys = list_any-append is_big xs ys

    same : tally big new ≡ tally big es
    same = settled_sums es new is big

    go : (a b : Bool) → list_any is_big new ≡ a → list_any is_big es ≡ b → a ≡ b
    go true true x y = refl
    go false false x y = refl
    go true false x y =
        let some : 1 ≤ tally big new = some_passing (list_any is_big) join refl new x in
        let zero : tally big es ≡ 0 = none_passing (list_any is_big) join refl es y in
        let sums = same in
        absurd (omega arith)
    go false true x y =
        let some : 1 ≤ tally big es = some_passing (list_any is_big) join refl es y in
        let zero : tally big new ≡ 0 = none_passing (list_any is_big) join refl new x in
        let sums = same in
        absurd (omega arith)

-- nor does sweeping
pub big_swept : (old whole es : List PlainEvent) → list_any is_big (filter (λ e. not (is_left_over old whole e)) es) ≡ list_any is_big es
big_swept old whole [] = refl
big_swept old whole (Blob id mark bytes ∷ es) = by (is_left_over old whole (Blob id mark bytes)) (big_swept old whole es)
  where
    by : (b : Bool) → list_any is_big (filter (λ e. not (is_left_over old whole e)) es) ≡ list_any is_big es →
        list_any is_big (cond (not b) (Blob id mark bytes ∷ filter (λ e. not (is_left_over old whole e)) es) (filter (λ e. not (is_left_over old whole e)) es)) ≡ list_any is_big es
    by true more = more
    by false more = more
big_swept old whole (Commit id mark branch author committer encoding comment parents ops aliases ∷ es) =
    ap (λ b. is_big (Commit id mark branch author committer encoding comment parents ops aliases) || b) (big_swept old whole es)
big_swept old whole (Tag id name target tagger comment mark ∷ es) = big_swept old whole es
big_swept old whole (Reset id branch target ∷ es) = big_swept old whole es
big_swept old whole (Pass id line ∷ es) = big_swept old whole es

module _ (set : List AnyId) (events : List PlainEvent) (takes : Takings) where
  abbrev becomes : PlainEvent → PlainEvent
  becomes e = event_after (parents_after set events takes) takes e

  -- a commit has too many exactly where its change says so
  big_one : (e : PlainEvent) → HasFewParents e → are_distinct (event_parents e) ≡ true →
      list_any is_big (cond (not (goes set takes e)) (becomes e ∷ []) []) ≡ list_any is_long (own_change events set e)
  big_one (Commit id mark branch author committer encoding comment parents ops aliases) few once =
      by (is_removed set id) (list_any (is_removed set) parents) refl
    where
      by : (gone some : Bool) → list_any (is_removed set) parents ≡ some →
          list_any is_big (cond (not gone) (becomes (Commit id mark branch author committer encoding comment parents ops aliases) ∷ []) [])
          ≡ list_any is_long (cond (not gone && some) ((id, parents_after set events takes parents) ∷ []) [])
      by true some l = refl
      by false true l = refl
      by false false l =
          ap (λ (ps : List ℕ). nat_lt MAX_PARENTS (length ps) || false) (unremoved_parents (is_removed set) (past events) parents once l)
          ∙ ap (λ b. b || false) (not_many MAX_PARENTS (length parents) few)
  big_one (Blob id mark bytes) few once = refl
  big_one (Tag id name target tagger comment mark) few once = neither (goes set takes (Tag id name target tagger comment mark))
    where
      neither : (b : Bool) → list_any is_big (cond (not b) (becomes (Tag id name target tagger comment mark) ∷ []) []) ≡ false
      neither true = refl
      neither false = refl
  big_one (Reset id branch (Some target)) few once = neither (goes set takes (Reset id branch (Some target)))
    where
      neither : (b : Bool) → list_any is_big (cond (not b) (becomes (Reset id branch (Some target)) ∷ []) []) ≡ false
      neither true = refl
      neither false = refl
  big_one (Reset id branch None) few once = neither (goes set takes (Reset id branch None))
    where
      neither : (b : Bool) → list_any is_big (cond (not b) (becomes (Reset id branch None) ∷ []) []) ≡ false
      neither true = refl
      neither false = refl
  big_one (Pass id line) few once = neither (goes set takes (Pass id line))
    where
      neither : (b : Bool) → list_any is_big (cond (not b) (becomes (Pass id line) ∷ []) []) ≡ false
      neither true = refl
      neither false = refl

  big_some : (es : List PlainEvent) → AllByRecursion HasFewParents es → AllByRecursion (λ e. IsTrue (are_distinct (event_parents e))) es →
      list_any is_big (map becomes (staying set takes es)) ≡ list_any is_long (flat_map (own_change events set) es)
  big_some [] few once = refl
  big_some (e ∷ es) few once =
      split (not (goes set takes e))
      ∙ ap (λ b. b || list_any is_big (map becomes (staying set takes es))) (big_one e few.0 once.0)
      ∙ ap (λ b. list_any is_long (own_change events set e) || b) (big_some es few.1 once.1)
      ∙ sym (list_any-append is_long (own_change events set e) (flat_map (own_change events set) es))
    where
      split : (b : Bool) → list_any is_big (map becomes (cond b (e ∷ staying set takes es) (staying set takes es)))
          ≡ list_any is_big (cond b (becomes e ∷ []) []) || list_any is_big (map becomes (staying set takes es))
      split true = either (is_big (becomes e)) (list_any is_big (map becomes (staying set takes es)))
        where
          either : (x y : Bool) → x || y ≡ (x || false) || y
          either true y = refl
          either false y = refl
      split false = refl

  none_long : (changes : List (ℕ × List ℕ)) → AreFew changes → list_any is_long changes ≡ false
  none_long [] h = refl
  none_long (c ∷ cs) h = ap (λ b. b || list_any is_long cs) (not_many MAX_PARENTS (length c.1) h.0) ∙ none_long cs h.1

  some_long : (changes : List (ℕ × List ℕ)) (k : ℕ) (c : ℕ × List ℕ) → slice_get changes k ≡ Some c → MAX_PARENTS < length c.1 → list_any is_long changes ≡ true
  some_long [] k c is more = absurd (none-some c is)
  some_long (x ∷ cs) zero c is more =
      ap (λ b. b || list_any is_long cs) (subst (λ y. is_long y ≡ true) (sym (same_Some x c is)) (lt-ltb MAX_PARENTS (length c.1) more))
  some_long (x ∷ cs) (suc k) c is more = ap (λ b. is_long x || b) (some_long cs k c is more) ∙ or_true (is_long x)
    where
      or_true : (b : Bool) → b || true ≡ true
      or_true true = refl
      or_true false = refl

  long_or_few : (few : Bool) (par : List ℕ → List ℕ) → ParentsAre set events takes few par → list_any is_long (parent_changes events set) ≡ not few
  long_or_few true par are = none_long (parent_changes events set) are.1
  long_or_few false par are = some_long (parent_changes events set) are.1.0 are.1.1 are.1.2 are.1.3

  -- ---- all limits

  pub judged_alike : IsSound events → (few : Bool) (left new : List PlainEvent) → IsLeft set events takes few left → settle (without_set set events takes) ≡ Ok new →
      limit_passed few left ≡ limit_fault new
  judged_alike h few left new l is =
      let par = l.0 in
      let whole = staying set takes events in
      let true_left = without_set set events takes in
      let parts = in_parts events h in
      let same_whole : true_left ≡ swept events (map becomes whole) = ap (swept events) (left_staying set events takes) in
      let sums = λ (f : PlainEvent → ℕ) (alike : (e : PlainEvent) → f (event_after par takes e) ≡ f (becomes e)).
      ap (tally f) l.2 ∙ sums_alike takes par (parents_after set events takes) events whole f alike ∙ ap (tally f) (sym same_whole) ∙ sym (settled_sums true_left new is f) in
      let same_length : length left ≡ length new = sym (counted left) ∙ sums one (λ e. refl) ∙ counted new in
      let same_ops : length (ops_along (nodes left)) ≡ length (ops_along (nodes new)) = sym (ops_counted left) ∙ sums own_ops (ops_alike takes par (parents_after set events takes)) ∙ ops_counted new in
      let same_aliases : alias_count left ≡ alias_count new = sym (aliases_counted left) ∙ sums own_aliases (aliases_alike takes par (parents_after set events takes)) ∙ aliases_counted new in
      let too_many : not few ≡ list_any is_big new =
      sym (big_settled true_left new is ∙ ap (list_any is_big) same_whole ∙ big_swept events (map becomes whole) (map becomes whole)
      ∙ big_some events parts.few (sound_once events h).parents ∙ long_or_few few par l.1) in
      ap (λ (n : ℕ). limit_of n (length (ops_along (nodes left))) (not few) (alias_count left)) same_length
      ∙ ap (λ (n : ℕ). limit_of (length new) n (not few) (alias_count left)) same_ops
      ∙ ap (λ (b : Bool). limit_of (length new) (length (ops_along (nodes new))) b (alias_count left)) too_many
      ∙ ap (λ (n : ℕ). limit_of (length new) (length (ops_along (nodes new))) (list_any is_big new) n) same_aliases
