-- Settling takes each event once, after all that it refers to; it leaves a list alone that is in order; and it comes to
-- its end where each referent is there and no parents run in a circle.
use Rattle.std.proofs.Common.{◌≡◌, ℕ, zero, suc, ◌+◌, ◌≤◌, ◌<◌, Bool, true, false, cond, List, [], ◌∷◌, ◌++◌, length, map, refl, sym, ap, subst, ◌∙◌, inl, inr, arith, eqb-true, true≢false, append-nil, append_assoc, Option, Some, None, option_map, is_some, is_ok, Result, Ok, Err, IsTrue}
use Rattle.std.proofs.Math.Bool.{or-false, or_assoc}
use Rattle.std.specs.Prelude.{◌||◌, ◌==◌, flat_map}
use Rattle.std.specs.List.{AllByRecursion, list_all}
use Rattle.std.proofs.lemmas.Bool.{cases_Bool, or_cases, and_cases}
use Rattle.plain_model.specs.declared.id.AnyId.{AnyId}
use Rattle.plain_model.specs.declared.id.AnyId.TheVariants as any
use Rattle.plain_model.specs.declared.event.PlainEvent.{PlainEvent}
use Rattle.plain_model.specs.declared.event.PlainEvent.TheVariants.{Blob, Commit, Tag, Reset, Pass}
use Rattle.plain_model.specs.declared.operation.Content.TheVariants.{Blob as OfBlob, Object}
use Rattle.plain_model.specs.declared.operation.FileOp.{FileOp}
use Rattle.plain_model.specs.declared.operation.FileOp.TheVariants.{Modify, Delete, Copy, Rename, DeleteAll}
use Rattle.plain_model.specs.Lookups.{id_of, op_blobs, referents_of, same_id}
use Rattle.plain_model.specs.Soundness.{has_id}
use Rattle.edit_laws.specs.Settling.{first_ready, is_ready, settle, settle_on}
use Rattle.edit_laws.specs.Parts.{AreComplete, AreInOrder, CanBeNumbered, IsAbove, tally}
use Rattle.edit_laws.proofs.Lists.{all_front, all_rear, all_true, has_own_id, tally_append, OfNodes, nodes_of_events}
use Rattle.history_laws.proofs.Ids.{has_id_append, has_id_cons, same_id_true}
use Rattle.history_laws.proofs.Lists.{all_join}

abbrev pub Pick : Type 0
Pick = Option (PlainEvent × List PlainEvent)

-- the first event or one after it
abbrev pub first_or : Bool → PlainEvent → List PlainEvent → Pick → Pick
first_or b x es o = cond b (Some (x, es)) (option_map (λ r. (r.0, x ∷ r.1)) o)

-- what comes of the one that was picked
abbrev pub go_on : ℕ → List PlainEvent → List PlainEvent → Pick → Result (List PlainEvent) (List PlainEvent)
go_on n taken es o = elim o [ None ↦ Err es | Some r ↦ settle_on n (taken ++ r.0 ∷ []) r.1 ]

-- ---- one event is taken

-- what is true of the first event that is ready, and of the others
pub record Picks (P : PlainEvent → Type 0) (taken es : List PlainEvent) (e : PlainEvent) (rest : List PlainEvent) : Type 0 where
  pub ready : is_ready taken e ≡ true
  pub its : P e
  pub others : AllByRecursion P rest
  pub sums : (f : PlainEvent → ℕ) → tally f es ≡ f e + tally f rest
  pub ids : (id : AnyId) → has_id es id ≡ has_id (e ∷ []) id || has_id rest id
  pub fewer : length es ≡ suc (length rest)

either_order : (a b c : Bool) → a || (b || c) ≡ b || (a || c)
either_order true true c = refl
either_order true false c = refl
either_order false b c = refl

pub picked : (P : PlainEvent → Type 0) (taken es : List PlainEvent) → AllByRecursion P es →
    (e : PlainEvent) (rest : List PlainEvent) → ◌≡◌ {A = Pick} (first_ready taken es) (Some (e, rest)) →
    Picks P taken es e rest
picked P taken [] a e rest h = absurd cc
picked P taken (x ∷ es) a e rest h = go (is_ready taken x) refl (first_ready taken es) refl h (λ f r y. picked P taken es a.1 f r y)
  where
    go : (b : Bool) → is_ready taken x ≡ b → (o : Pick) → first_ready taken es ≡ o
        → ◌≡◌ {A = Pick} (first_or b x es o) (Some (e, rest))
        → ((f : PlainEvent) (r : List PlainEvent) → ◌≡◌ {A = Pick} (first_ready taken es) (Some (f, r)) → Picks P taken es f r) → Picks P taken (x ∷ es) e rest
    go true y o z w f =
        let pair : ◌≡◌ {A = PlainEvent × List PlainEvent} (x, es) (e, rest) = cc in
        subst (λ (p : PlainEvent × List PlainEvent). Picks P taken (x ∷ es) p.0 p.1) pair
        (record { ready = y; its = a.0; others = a.1; sums = λ f. refl; ids = λ id. has_id_append (x ∷ []) es id; fewer = refl })
    go false y None z w f = absurd cc
    go false y (Some r) z w f =
        let pair : ◌≡◌ {A = PlainEvent × List PlainEvent} (r.0, x ∷ r.1) (e, rest) = cc in
        let p = f r.0 r.1 z in
        subst (λ (q : PlainEvent × List PlainEvent). Picks P taken (x ∷ es) q.0 q.1) pair (record {
          ready = p.ready;
          its = p.its;
          others = (a.0, p.others);
          sums = λ f. let it = p.sums f in omega arith;
          ids = λ id.
              has_id_append (x ∷ []) es id
              ∙ ap (λ b. has_id (x ∷ []) id || b) (p.ids id)
              ∙ either_order (has_id (x ∷ []) id) (has_id (r.0 ∷ []) id) (has_id r.1 id)
              ∙ ap (λ b. has_id (r.0 ∷ []) id || b) (sym (has_id_append (x ∷ []) r.1 id));
          fewer = ap suc p.fewer;
        })

-- ---- all events are taken

-- one event more, after all that it refers to
pub in_order_more : (earlier xs : List PlainEvent) (e : PlainEvent) → AreInOrder earlier xs →
    is_ready (earlier ++ xs) e ≡ true → AreInOrder earlier (xs ++ e ∷ [])
in_order_more earlier [] e s r = (subst (λ (l : List PlainEvent). is_ready l e ≡ true) (append-nil earlier) r, tt)
in_order_more earlier (x ∷ xs) e s r =
    (s.0, in_order_more (earlier ++ x ∷ []) xs e s.1 (subst (λ (l : List PlainEvent). is_ready l e ≡ true) (sym (append_assoc earlier (x ∷ []) xs)) r))

pub record Settles (P : PlainEvent → Type 0) (taken es new : List PlainEvent) : Type 0 where
  pub in_order : AreInOrder [] new
  pub all : AllByRecursion P new
  pub sums : (f : PlainEvent → ℕ) → tally f new ≡ tally f taken + tally f es
  pub ids : (id : AnyId) → has_id new id ≡ has_id taken id || has_id es id

pub settles : (P : PlainEvent → Type 0) (n : ℕ) (taken es new : List PlainEvent) → AreInOrder [] taken →
    AllByRecursion P taken → AllByRecursion P es → settle_on n taken es ≡ Ok new → Settles P taken es new
settles P n taken [] new s a b h =
    let is : taken ≡ new = cc in
    subst (Settles P taken []) is (record { in_order = s; all = a; sums = λ f. omega arith; ids = λ id. sym (or-false (has_id taken id)) })
settles P zero taken (e ∷ es) new s a b h = absurd cc
settles P (suc n) taken (e ∷ es) new s a b h = go (first_ready taken (e ∷ es)) refl h
    (λ f r p x. settles P n (taken ++ f ∷ []) r new (in_order_more [] taken f s p.ready) (all_join P taken (f ∷ []) a (p.its, tt)) p.others x)
  where
    go : (o : Pick) → first_ready taken (e ∷ es) ≡ o
        → go_on n taken (e ∷ es) o ≡ Ok new
        → ((f : PlainEvent) (r : List PlainEvent) → Picks P taken (e ∷ es) f r → settle_on n (taken ++ f ∷ []) r ≡ Ok new → Settles P (taken ++ f ∷ []) r new) →
        Settles P taken (e ∷ es) new
    go None x y f = absurd cc
    go (Some r) x y f =
        let p = picked P taken (e ∷ es) b r.0 r.1 x in
        let k = f r.0 r.1 p y in
        record {
          in_order = k.in_order;
          all = k.all;
          sums = λ g. let one = k.sums g in let two = p.sums g in let three = tally_append g taken (r.0 ∷ []) in omega arith;
          ids = λ id.
              k.ids id
              ∙ ap (λ b. b || has_id r.1 id) (has_id_append taken (r.0 ∷ []) id)
              ∙ or_assoc (has_id taken id) (has_id (r.0 ∷ []) id) (has_id r.1 id)
              ∙ ap (λ b. has_id taken id || b) (sym (p.ids id));
        }

-- ---- a list in order

pub stays : (taken es : List PlainEvent) → AreInOrder taken es → settle_on (length es) taken es ≡ Ok (taken ++ es)
stays taken [] s = ap Ok (sym (append-nil taken))
stays taken (e ∷ es) s =
    next (is_ready taken e) s.0
    ∙ stays (taken ++ e ∷ []) es s.1
    ∙ ap Ok (append_assoc taken (e ∷ []) es)
  where
    next : (b : Bool) → b ≡ true →
        go_on (length es) taken (e ∷ es) (first_or b e es (first_ready taken es)) ≡ settle_on (length es) (taken ++ e ∷ []) es
    next true h = refl
    next false h = absurd (true≢false (sym h))

-- ---- no circle

-- an event that is there, whatever is true of all
found : (P : PlainEvent → Type 0) (es : List PlainEvent) (id : AnyId) → AllByRecursion P es → has_id es id ≡ true →
    (e : PlainEvent) × (id ≡ id_of e) × P e × ((taken : List PlainEvent) → is_ready taken e ≡ true → is_some (first_ready taken es) ≡ true)
found P [] id a h = absurd (true≢false (sym h))
found P (x ∷ es) id a h =
    elim (or_cases (same_id id (id_of x)) (has_id es id) (sym (has_id_cons x es id) ∙ h)) [
      | inl here ↦ (x, same_id_true id (id_of x) here, a.0, λ taken r. first taken r)
      | inr later ↦
          let f = found P es id a.1 later in
          (f.0, f.1, f.2, λ taken r. after taken (is_ready taken x) (first_ready taken es) (f.3 taken r))
    ]
  where
    first : (taken : List PlainEvent) → is_ready taken x ≡ true → is_some (first_ready taken (x ∷ es)) ≡ true
    first taken r = ap (λ b. is_some (first_or b x es (first_ready taken es))) r

    after : (taken : List PlainEvent) (b : Bool) (o : Pick) → is_some o ≡ true → is_some (first_or b x es o) ≡ true
    after taken true o h = refl
    after taken false (Some r) h = refl
    after taken false None h = absurd (true≢false (sym h))

-- the first that isn't there
missing : (taken : List PlainEvent) (ids : List AnyId) → list_all (has_id taken) ids ≡ false → (P : AnyId → Type 0) →
    AllByRecursion P ids → (id : AnyId) × (has_id taken id ≡ false) × P id
missing taken [] h P a = absurd (true≢false h)
missing taken (id ∷ ids) h P a =
    elim (and_cases (has_id taken id) (list_all (has_id taken) ids) h) [
      | inl it ↦ (id, it, a.0)
      | inr later ↦ missing taken ids later P a.1
    ]

module _ (number : AnyId → ℕ) (world : AnyId → Bool) where
  -- all that an event refers to is there, with a lower number
  abbrev pub IsNumbered : PlainEvent → Type 0
  IsNumbered e = AllByRecursion (λ r. (world r ≡ true) × (number r < number (id_of e))) (referents_of e)

  -- some event is ready: this one, or one with a lower number
  some_ready : (taken es : List PlainEvent) → ((id : AnyId) → world id ≡ has_id taken id || has_id es id) →
      AllByRecursion IsNumbered es → (k : ℕ) (id : AnyId) → has_id es id ≡ true → number id < k →
      is_some (first_ready taken es) ≡ true
  some_ready taken es w a zero id h low = absurd (omega arith)
  some_ready taken es w a (suc k) id h low =
      let f = found IsNumbered es id a h in
      elim (cases_Bool (is_ready taken f.0)) [
        | inl it ↦ f.3 taken it
        | inr not_it ↦
            let m = missing taken (referents_of f.0) not_it (λ r. (world r ≡ true) × (number r < number (id_of f.0))) f.2 in
            elim (or_cases (has_id taken m.0) (has_id es m.0) (sym (w m.0) ∙ m.2.0)) [
              | inl was ↦ absurd (true≢false (sym was ∙ m.1))
              | inr later ↦
                  let same : number id ≡ number (id_of f.0) = ap number f.1 in
                  let lower = m.2.1 in
                  some_ready taken es w a k m.0 later (omega arith)
            ]
      ]

  pub comes_to_its_end : (n : ℕ) (taken es : List PlainEvent) → length es ≤ n →
      ((id : AnyId) → world id ≡ has_id taken id || has_id es id) → AllByRecursion IsNumbered es →
      (new : List PlainEvent) × (settle_on n taken es ≡ Ok new)
  comes_to_its_end n taken [] few w a = (taken, refl)
  comes_to_its_end zero taken (e ∷ es) few w a = absurd (omega arith)
  comes_to_its_end (suc n) taken (e ∷ es) few w a =
      let own : has_id (e ∷ es) (id_of e) ≡ true = has_id_append (e ∷ []) es (id_of e) ∙ ap (λ b. b || has_id es (id_of e)) (has_own_id e) in
      go (first_ready taken (e ∷ es)) refl (some_ready taken (e ∷ es) w a (suc (number (id_of e))) (id_of e) own (omega arith))
      (λ f r x.
      let p = picked IsNumbered taken (e ∷ es) a f r x in
      let fewer : suc (length es) ≡ suc (length r) = p.fewer in
      comes_to_its_end n (taken ++ f ∷ []) r (omega arith)
      (λ id.
      w id
      ∙ ap (λ b. has_id taken id || b) (p.ids id)
      ∙ sym (or_assoc (has_id taken id) (has_id (f ∷ []) id) (has_id r id))
      ∙ ap (λ b. b || has_id r id) (sym (has_id_append taken (f ∷ []) id)))
      p.others)
    where
      go : (o : Pick) → first_ready taken (e ∷ es) ≡ o → is_some o ≡ true
          → ((f : PlainEvent) (r : List PlainEvent) → ◌≡◌ {A = Pick} (first_ready taken (e ∷ es)) (Some (f, r)) → (new : List PlainEvent) × (settle_on n (taken ++ f ∷ []) r ≡ Ok new))
          → (new : List PlainEvent) × (go_on n taken (e ∷ es) o ≡ Ok new)
      go None x s f = absurd (true≢false (sym s))
      go (Some r) x s f = f r.0 r.1 x

-- a number for each id: blobs first, then commits as they are numbered, and all others last
abbrev number_of : (ℕ → ℕ) → ℕ → AnyId → ℕ
number_of number top (any.Blob b) = 0
number_of number top (any.Commit c) = suc (number c)
number_of number top (any.Tag t) = suc (suc top)
number_of number top (any.Reset r) = suc (suc top)
number_of number top (any.Pass p) = suc (suc top)

abbrev own_number : (ℕ → ℕ) → PlainEvent → ℕ
own_number number (Commit id mark branch author committer encoding comment parents ops aliases) = number id
own_number number (Blob id mark bytes) = 0
own_number number (Tag id name target tagger comment mark) = 0
own_number number (Reset id branch target) = 0
own_number number (Pass id line) = 0

-- no commit of the list has a greater number than all of them together
below_top : (number : ℕ → ℕ) (es : List PlainEvent) (c : ℕ) → has_id es (any.Commit c) ≡ true →
    number c ≤ tally (own_number number) es
below_top number [] c h = absurd (true≢false (sym h))
below_top number (Commit id mark branch author committer encoding comment parents ops aliases ∷ es) c h =
    elim (or_cases (id == c) (has_id es (any.Commit c)) h) [
      | inl here ↦ let same : number id ≡ number c = ap number (eqb-true id c here) in omega arith
      | inr later ↦ let rest = below_top number es c later in omega arith
    ]
below_top number (Blob id mark bytes ∷ es) c h = let rest = below_top number es c h in omega arith
below_top number (Tag id name target tagger comment mark ∷ es) c h = let rest = below_top number es c h in omega arith
below_top number (Reset id branch target ∷ es) c h = let rest = below_top number es c h in omega arith
below_top number (Pass id line ∷ es) c h = let rest = below_top number es c h in omega arith

module _ (events : List PlainEvent) (number : ℕ → ℕ) where
  abbrev top : ℕ
  top = tally (own_number number) events

  abbrev IsLow : ℕ → AnyId → Type 0
  IsLow n r = (has_id events r ≡ true) × (number_of number top r < n)

  low_parents : (n : ℕ) (ps : List ℕ) → AllByRecursion (λ r. has_id events r ≡ true) (map any.Commit ps) →
      AllByRecursion (λ p. number p < n) ps → AllByRecursion (IsLow (suc n)) (map any.Commit ps)
  low_parents n [] h a = tt
  low_parents n (p ∷ ps) h a = let low = a.0 in ((h.0, omega arith), low_parents n ps h.1 a.1)

  low_op : (n : ℕ) (op : FileOp) → AllByRecursion (λ r. has_id events r ≡ true) (op_blobs op) →
      AllByRecursion (IsLow (suc n)) (op_blobs op)
  low_op n (Modify mode (OfBlob b) path) h = ((h.0, omega arith), tt)
  low_op n (Modify mode (Object digits) path) h = tt
  low_op n (Delete path) h = tt
  low_op n (Copy source target) h = tt
  low_op n (Rename source target) h = tt
  low_op n DeleteAll h = tt

  low_ops : (n : ℕ) (ops : List FileOp) → AllByRecursion (λ r. has_id events r ≡ true) (flat_map op_blobs ops) →
      AllByRecursion (IsLow (suc n)) (flat_map op_blobs ops)
  low_ops n [] h = tt
  low_ops n (op ∷ ops) h =
      all_join (IsLow (suc n)) (op_blobs op) (flat_map op_blobs ops)
      (low_op n op (all_front (λ r. has_id events r ≡ true) (op_blobs op) (flat_map op_blobs ops) h))
      (low_ops n ops (all_rear (λ r. has_id events r ≡ true) (op_blobs op) (flat_map op_blobs ops) h))

  low_target : (c : ℕ) → has_id events (any.Commit c) ≡ true → IsLow (suc (suc top)) (any.Commit c)
  low_target c h = let low = below_top number events c h in (h, omega arith)

  numbered_event : (e : PlainEvent) → is_ready events e ≡ true → OfNodes (IsAbove number) e →
      IsNumbered (number_of number top) (has_id events) e
  numbered_event (Commit id mark branch author committer encoding comment parents ops aliases) r a =
      let refs = all_true (has_id events) (map any.Commit parents ++ flat_map op_blobs ops) r in
      all_join (IsLow (suc (number id))) (map any.Commit parents) (flat_map op_blobs ops)
      (low_parents (number id) parents (all_front (λ r. has_id events r ≡ true) (map any.Commit parents) (flat_map op_blobs ops) refs) a.0)
      (low_ops (number id) ops (all_rear (λ r. has_id events r ≡ true) (map any.Commit parents) (flat_map op_blobs ops) refs))
  numbered_event (Blob id mark bytes) r a = tt
  numbered_event (Tag id name target tagger comment mark) r a =
      (low_target target (all_true (has_id events) (any.Commit target ∷ []) r).0, tt)
  numbered_event (Reset id branch None) r a = tt
  numbered_event (Reset id branch (Some target)) r a =
      (low_target target (all_true (has_id events) (any.Commit target ∷ []) r).0, tt)
  numbered_event (Pass id line) r a = tt

  numbered_events : (es : List PlainEvent) → AllByRecursion (λ e. IsTrue (is_ready events e)) es →
      AllByRecursion (OfNodes (IsAbove number)) es →
      AllByRecursion (IsNumbered (number_of number top) (has_id events)) es
  numbered_events [] r a = tt
  numbered_events (e ∷ es) r a = (numbered_event e r.0 a.0, numbered_events es r.1 a.1)

-- ---- the whole list

pub settle_ends : (events : List PlainEvent) → AreComplete events → CanBeNumbered events →
    (new : List PlainEvent) × (settle events ≡ Ok new)
settle_ends events r a =
    comes_to_its_end (number_of a.0 (top events a.0)) (has_id events) (length events) [] events (omega arith) (λ id. refl)
    (numbered_events events a.0 events r (nodes_of_events (IsAbove a.0) events a.1))

pub settled : (P : PlainEvent → Type 0) (events new : List PlainEvent) → AllByRecursion P events →
    settle events ≡ Ok new → Settles P [] events new
settled P events new a h = settles P (length events) [] events new tt tt a h

pub in_order_stays : (events : List PlainEvent) → AreInOrder [] events → settle events ≡ Ok events
in_order_stays events s = stays [] events s

pub ends_well : (events : List PlainEvent) → AreComplete events → CanBeNumbered events → is_ok (settle events) ≡ true
ends_well events r a = let e = settle_ends events r a in ap is_ok e.1
