-- Events get the marks that are missing, and their aliases: what stays the same, and which marks there are then.
use Rattle.std.proofs.Common.{◌≡◌, ℕ, suc, ◌+◌, ◌<◌, ◌≤◌, Bool, true, false, cond, max, List, [], ◌∷◌, ◌++◌, Some, None, refl, sym, ap, ◌∙◌, arith, eqb-true, nat_lt, ne_eqb}
use Rattle.std.specs.Prelude.{◌==◌, ◌||◌}
use Rattle.std.specs.List.{fold}
use Rattle.std.proofs.lemmas.Bool.Decides.{nat_tests}
use Rattle.std.proofs.Math.Nat.{le-max_left, le-max_right}
use Rattle.plain_model.specs.declared.id.AnyId.{AnyId}
use Rattle.plain_model.specs.declared.id.AnyId.TheVariants as any
use Rattle.plain_model.specs.declared.event.PlainEvent.{PlainEvent}
use Rattle.plain_model.specs.declared.event.PlainEvent.TheVariants.{Blob, Commit, Tag, Reset, Pass}
use Rattle.plain_model.specs.Histories.{Node, nodes}
use Rattle.plain_model.specs.Lookups.{event_marks, greatest_mark, greatest_of, top_mark}
use Rattle.plain_model.specs.Snapshots.{refs_after}
use Rattle.plain_model.specs.Soundness.{has_id}
use Rattle.plain_model.specs.Trees.{TreeOf, put}
use Rattle.stream_grammar.specs.Known.{Known, alias_marks, aliases_for, closed, greatest_read, with_aliases, with_marks}
use Rattle.stream_grammar.specs.Limits.{own_want, unmarked_count, want_of}
use Rattle.soundness_laws.proofs.MarkSums.{AreOnce, late, late_all, late_less, late_step, one, weigh, weight}
use Rattle.history_laws.specs.Placed.{ArePlaced}

-- ---- one event after another

-- the mark, or the one above n where it is 0
abbrev pub mark_above : ℕ → ℕ → ℕ
mark_above n mark = cond (mark == 0) (n + 1) mark

no_more : (n : ℕ) → n + 0 ≡ n
no_more n = omega arith

-- 1 for a mark above n
abbrev above : ℕ → ℕ → ℕ
above n m = cond (nat_lt n m) 1 0

-- the mark is the one that was there, or one above n
own_times : (n mark m : ℕ) → one m (mark_above n mark) + above (n + want_of mark) m ≤ one m mark + above n m
own_times n mark m = go (mark == 0)
  where
    new : (u v w : Bool) → (n + 1 == m) ≡ u → nat_lt (n + 1) m ≡ v → nat_lt n m ≡ w → cond u 1 0 + cond v 1 0 ≤ one m mark + cond w 1 0
    new true true w here later all = let is = eqb-true (n + 1) m here in absurd (grind (arith, nat_tests))
    new true false true here later all = omega arith
    new true false false here later all = let is = eqb-true (n + 1) m here in absurd (grind (arith, nat_tests))
    new false true true here later all = omega arith
    new false true false here later all = absurd (grind (arith, nat_tests))
    new false false w here later all = omega arith

    go : (t : Bool) → one m (cond t (n + 1) mark) + above (n + cond t 1 0) m ≤ one m mark + above n m
    go true = new (n + 1 == m) (nat_lt (n + 1) m) (nat_lt n m) refl refl refl
    go false = let same : above (n + 0) m ≡ above n m = ap (λ i. above i m) (no_more n) in omega arith

pub unmarked_append : (a : List PlainEvent) (e : PlainEvent) → unmarked_count (a ++ e ∷ []) ≡ unmarked_count a + own_want e
unmarked_append [] e = omega arith
unmarked_append (x ∷ a) e = let more = unmarked_append a e in omega arith

-- each commit has these aliases
module _ (aliases : List (ℕ × ℕ)) where
  abbrev pub marked_event : ℕ → PlainEvent → PlainEvent
  marked_event n (Blob id mark bytes) = Blob id (mark_above n mark) bytes
  marked_event n (Commit id mark branch author committer encoding comment parents ops old) = Commit id (mark_above n mark) branch author committer encoding comment parents ops (aliases_for id aliases)
  marked_event n (Tag id name target tagger comment mark) = Tag id name target tagger comment mark
  marked_event n (Reset id branch target) = Reset id branch target
  marked_event n (Pass id line) = Pass id line

  -- the definition, with the marks alone by cases
  abbrev pub marked_events : ℕ → List PlainEvent → List PlainEvent
  marked_events n [] = []
  marked_events n (e ∷ events) = marked_event n e ∷ marked_events (n + own_want e) events

  pub history_is : (n : ℕ) (events : List PlainEvent) → with_aliases aliases (with_marks n events) ≡ marked_events n events
  history_is n [] = refl
  history_is n (Blob id mark bytes ∷ events) = go (mark == 0) (history_is (n + 1) events) (history_is n events)
    where
      go : (t : Bool) → with_aliases aliases (with_marks (n + 1) events) ≡ marked_events (n + 1) events → with_aliases aliases (with_marks n events) ≡ marked_events n events
          → with_aliases aliases (cond t (Blob id (n + 1) bytes ∷ with_marks (n + 1) events) (Blob id mark bytes ∷ with_marks n events)) ≡ Blob id (cond t (n + 1) mark) bytes ∷ marked_events (n + cond t 1 0) events
      go true more same = ap (λ (l : List PlainEvent). Blob id (n + 1) bytes ∷ l) more
      go false more same = ap (λ (l : List PlainEvent). Blob id mark bytes ∷ l) (same ∙ ap (λ k. marked_events k events) (sym (no_more n)))
  history_is n (Commit id mark branch author committer encoding comment parents ops old ∷ events) = go (mark == 0) (history_is (n + 1) events) (history_is n events)
    where
      go : (t : Bool) → with_aliases aliases (with_marks (n + 1) events) ≡ marked_events (n + 1) events → with_aliases aliases (with_marks n events) ≡ marked_events n events
          → with_aliases aliases (cond t (Commit id (n + 1) branch author committer encoding comment parents ops old ∷ with_marks (n + 1) events)
          (Commit id mark branch author committer encoding comment parents ops old ∷ with_marks n events))
          ≡ Commit id (cond t (n + 1) mark) branch author committer encoding comment parents ops (aliases_for id aliases) ∷ marked_events (n + cond t 1 0) events
      go true more same = ap (λ (l : List PlainEvent). Commit id (n + 1) branch author committer encoding comment parents ops (aliases_for id aliases) ∷ l) more
      go false more same = ap (λ (l : List PlainEvent). Commit id mark branch author committer encoding comment parents ops (aliases_for id aliases) ∷ l) (same ∙ ap (λ k. marked_events k events) (sym (no_more n)))
  history_is n (Tag id name target tagger comment mark ∷ events) = ap (λ (l : List PlainEvent). Tag id name target tagger comment mark ∷ l) (history_is n events ∙ ap (λ k. marked_events k events) (sym (no_more n)))
  history_is n (Reset id branch target ∷ events) = ap (λ (l : List PlainEvent). Reset id branch target ∷ l) (history_is n events ∙ ap (λ k. marked_events k events) (sym (no_more n)))
  history_is n (Pass id line ∷ events) = ap (λ (l : List PlainEvent). Pass id line ∷ l) (history_is n events ∙ ap (λ k. marked_events k events) (sym (no_more n)))

  -- events of two parts
  pub marked_append : (n : ℕ) (a : List PlainEvent) (e : PlainEvent) → marked_events n (a ++ e ∷ []) ≡ marked_events n a ++ marked_event (n + unmarked_count a) e ∷ []
  marked_append n [] e = ap (λ k. marked_event k e ∷ []) (sym (no_more n))
  marked_append n (x ∷ a) e =
      ap (λ (l : List PlainEvent). marked_event n x ∷ l) (marked_append (n + own_want x) a e)
      ∙ ap (λ k. marked_event n x ∷ (marked_events (n + own_want x) a ++ marked_event k e ∷ [])) (sums n (own_want x) (unmarked_count a))
    where
      sums : (n k l : ℕ) → n + k + l ≡ n + (k + l)
      sums n k l = omega arith

  -- ---- what stays

  pub has_id_same : (n : ℕ) (events : List PlainEvent) (wanted : AnyId) → has_id (marked_events n events) wanted ≡ has_id events wanted
  has_id_same n [] wanted = refl
  has_id_same n (Blob id mark bytes ∷ events) (any.Blob b) = ap (λ t. (id == b) || t) (has_id_same (n + cond (mark == 0) 1 0) events (any.Blob b))
  has_id_same n (Blob id mark bytes ∷ events) wanted = has_id_same (n + cond (mark == 0) 1 0) events wanted
  has_id_same n (Commit id mark branch author committer encoding comment parents ops old ∷ events) (any.Commit c) = ap (λ t. (id == c) || t) (has_id_same (n + cond (mark == 0) 1 0) events (any.Commit c))
  has_id_same n (Commit id mark branch author committer encoding comment parents ops old ∷ events) wanted = has_id_same (n + cond (mark == 0) 1 0) events wanted
  has_id_same n (Tag id name target tagger comment mark ∷ events) (any.Tag t) = ap (λ u. (id == t) || u) (has_id_same (n + 0) events (any.Tag t))
  has_id_same n (Tag id name target tagger comment mark ∷ events) wanted = has_id_same (n + 0) events wanted
  has_id_same n (Reset id branch target ∷ events) (any.Reset r) = ap (λ t. (id == r) || t) (has_id_same (n + 0) events (any.Reset r))
  has_id_same n (Reset id branch target ∷ events) wanted = has_id_same (n + 0) events wanted
  has_id_same n (Pass id line ∷ events) (any.Pass p) = ap (λ t. (id == p) || t) (has_id_same (n + 0) events (any.Pass p))
  has_id_same n (Pass id line ∷ events) wanted = has_id_same (n + 0) events wanted

  pub nodes_same : (n : ℕ) (events : List PlainEvent) → nodes (marked_events n events) ≡ nodes events
  nodes_same n [] = refl
  nodes_same n (Commit id mark branch author committer encoding comment parents ops old ∷ events) =
      ap (λ (l : List Node). record { id = id; parents = parents; ops = ops } ∷ l) (nodes_same (n + cond (mark == 0) 1 0) events)
  nodes_same n (Blob id mark bytes ∷ events) = nodes_same (n + cond (mark == 0) 1 0) events
  nodes_same n (Tag id name target tagger comment mark ∷ events) = nodes_same (n + 0) events
  nodes_same n (Reset id branch target ∷ events) = nodes_same (n + 0) events
  nodes_same n (Pass id line ∷ events) = nodes_same (n + 0) events

  pub refs_same : (n : ℕ) (t : TreeOf ℕ) (events : List PlainEvent) → refs_after t (marked_events n events) ≡ refs_after t events
  refs_same n t [] = refl
  refs_same n t (Blob id mark bytes ∷ events) = refs_same (n + cond (mark == 0) 1 0) t events
  refs_same n t (Commit id mark branch author committer encoding comment parents ops old ∷ events) = refs_same (n + cond (mark == 0) 1 0) (put branch id t) events
  refs_same n t (Tag id name target tagger comment mark ∷ events) = refs_same (n + 0) t events
  refs_same n t (Reset id branch None ∷ events) = refs_same (n + 0) _ events
  refs_same n t (Reset id branch (Some c) ∷ events) = refs_same (n + 0) (put branch c t) events
  refs_same n t (Pass id line ∷ events) = refs_same (n + 0) t events

  pub placed_same : (n k : ℕ) (events : List PlainEvent) → ArePlaced k events → ArePlaced k (marked_events n events)
  placed_same n k [] p = tt
  placed_same n k (Blob id mark bytes ∷ events) p = (p.0, placed_same (n + cond (mark == 0) 1 0) (suc k) events p.1)
  placed_same n k (Commit id mark branch author committer encoding comment parents ops old ∷ events) p = (p.0, placed_same (n + cond (mark == 0) 1 0) (suc k) events p.1)
  placed_same n k (Tag id name target tagger comment mark ∷ events) p = (p.0, placed_same (n + 0) (suc k) events p.1)
  placed_same n k (Reset id branch target ∷ events) p = (p.0, placed_same (n + 0) (suc k) events p.1)
  placed_same n k (Pass id line ∷ events) p = (p.0, placed_same (n + 0) (suc k) events p.1)

  -- ---- how often a mark is there

  -- each mark is one that was there, an alias, or one above n
  pub marked_times : (n k m : ℕ) (events : List PlainEvent) → ArePlaced k events → weight (one m) (marked_events n events) ≤ weight (one m) events + late (one m) k aliases + above n m
  marked_times n k m [] placed = omega arith
  marked_times n k m (Blob id mark bytes ∷ events) placed =
      let own = own_times n mark m in
      let more = marked_times (n + want_of mark) (suc k) m events placed.1 in
      let less = late_less (one m) k aliases in
      omega arith
  marked_times n k m (Commit id mark branch author committer encoding comment parents ops old ∷ events) placed =
      let own = own_times n mark m in
      let more = marked_times (n + want_of mark) (suc k) m events placed.1 in
      let here = late_step (one m) k aliases in
      let same : weigh (one m) (aliases_for id aliases) ≡ weigh (one m) (aliases_for k aliases) = ap (λ i. weigh (one m) (aliases_for i aliases)) placed.0 in
      omega arith
  marked_times n k m (Tag id name target tagger comment mark ∷ events) placed =
      let more = marked_times (n + 0) (suc k) m events placed.1 in
      let less = late_less (one m) k aliases in
      let same : above (n + 0) m ≡ above n m = ap (λ i. above i m) (no_more n) in
      omega arith
  marked_times n k m (Reset id branch target ∷ events) placed =
      let more = marked_times (n + 0) (suc k) m events placed.1 in
      let less = late_less (one m) k aliases in
      let same : above (n + 0) m ≡ above n m = ap (λ i. above i m) (no_more n) in
      omega arith
  marked_times n k m (Pass id line ∷ events) placed =
      let more = marked_times (n + 0) (suc k) m events placed.1 in
      let less = late_less (one m) k aliases in
      let same : above (n + 0) m ≡ above n m = ap (λ i. above i m) (no_more n) in
      omega arith

-- ---- the greatest mark

-- no mark of some is greater, so a greater one isn't there
none_above : (n m : ℕ) (marks : List ℕ) → greatest_of n marks < m → (n < m) × (weigh (one m) marks ≡ 0)
none_above n m [] h = (h, refl)
none_above n m (mark ∷ marks) h =
    let more = none_above (max n mark) m marks h in
    let here = le-max_right n mark in
    let first = le-max_left n mark in
    let low = more.0 in
    let rest = more.1 in
    let isnt : one m mark ≡ 0 = ap (λ b. cond b 1 0) (ne_eqb mark m (λ e. omega arith)) in
    (omega arith, omega arith)

event_above : (e : PlainEvent) (m : ℕ) → top_mark e < m → weigh (one m) (event_marks e) ≡ 0
event_above (Blob id mark bytes) m h = let isnt : one m mark ≡ 0 = ap (λ b. cond b 1 0) (ne_eqb mark m (λ e. omega arith)) in omega arith
event_above (Commit id mark branch author committer encoding comment parents ops old) m h =
    let more = none_above mark m old h in
    let low = more.0 in
    let rest = more.1 in
    let isnt : one m mark ≡ 0 = ap (λ b. cond b 1 0) (ne_eqb mark m (λ e. omega arith)) in
    omega arith
event_above (Tag id name target tagger comment None) m h = refl
event_above (Tag id name target tagger comment (Some mark)) m h = let isnt : one m mark ≡ 0 = ap (λ b. cond b 1 0) (ne_eqb mark m (λ e. omega arith)) in omega arith
event_above (Reset id branch target) m h = refl
event_above (Pass id line) m h = refl

events_above : (n m : ℕ) (events : List PlainEvent) → fold (λ k e. max k (top_mark e)) n events < m → (n < m) × (weight (one m) events ≡ 0)
events_above n m [] h = (h, refl)
events_above n m (e ∷ events) h =
    let more = events_above (max n (top_mark e)) m events h in
    let here = le-max_right n (top_mark e) in
    let first = le-max_left n (top_mark e) in
    let low = more.0 in
    let rest = more.1 in
    let own = event_above e m (omega arith) in
    (omega arith, omega arith)

-- ---- all marks

-- Where no mark was there twice, none occurs once each blob, commit and alias has its own.
pub are_once : (k : Known) → ArePlaced 1 (closed k) → ((m : ℕ) → 0 < m → weight (one m) (closed k) + weigh (one m) (alias_marks k.aliases) ≤ 1)
    → AreOnce (marked_events k.aliases (greatest_read k) (closed k))
are_once k placed h m is = go (nat_lt (greatest_read k) m) refl
  where
    times : weight (one m) (marked_events k.aliases (greatest_read k) (closed k)) ≤ weight (one m) (closed k) + late (one m) 1 k.aliases + above (greatest_read k) m
    times = marked_times k.aliases (greatest_read k) 1 m (closed k) placed

    go : (b : Bool) → nat_lt (greatest_read k) m ≡ b → weight (one m) (marked_events k.aliases (greatest_read k) (closed k)) ≤ 1
    go true e =
        let least : greatest_read k < m = grind (arith, nat_tests) in
        let aliases = none_above (greatest_mark (closed k)) m (alias_marks k.aliases) least in
        let events = events_above 0 m (closed k) aliases.0 in
        let none = aliases.1 in
        let none_here = events.1 in
        let all = late_all (one m) 1 k.aliases in
        let last : above (greatest_read k) m ≡ 1 = ap (λ b. cond b 1 0) e in
        let most = times in
        omega arith
    go false e =
        let once = h m is in
        let all = late_all (one m) 1 k.aliases in
        let last : above (greatest_read k) m ≡ 0 = ap (λ b. cond b 1 0) e in
        let most = times in
        omega arith
