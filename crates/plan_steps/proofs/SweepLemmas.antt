-- Flags of what is named, and the blobs that are left over.
use Rattle.std.proofs.Common.{◌≡◌, ◌∙◌, ℕ, suc, ◌<◌, Bool, true, false, cond, not, ◌||◌, inl, inr, ◌⊎◌, List, [], ◌∷◌, ◌++◌, Some, None, refl, sym, ap, subst, length, get_or, take, arith, append-nil, append_assoc, filter, flat_map, true≢false}
use Rattle.std.proofs.Math.Bool.{and-false, or-false, or-true, or_assoc}
use Rattle.std.proofs.Math.ListN.{set}
use Rattle.std.proofs.lemmas.Bool.{and_from, and_parts, and_right, cases_Bool, cases_eq, false_from_ne_true, or_cases, or_left, or_right, not-true}
use Rattle.std.proofs.lemmas.List.{length-replicate, get_or-set_other, get_or-set_same, length-set}
use Rattle.std.proofs.lemmas.List.Folds.{list_any-append}
use Rattle.std.proofs.lemmas.Option.{none-some, same_Some}
use Rattle.std.specs.List.{AllByRecursion, list_all, list_any}
use Rattle.std.specs.Prelude.{◌&&◌, IsSome, Option, map, replicate, slice_get}
use Rattle.std.proofs.lemmas.List.Elements.{filter-append}
use Rattle.plain_model.specs.declared.id.AnyId.{AnyId}
use Rattle.plain_model.specs.declared.id.AnyId.TheVariants as any
use Rattle.plain_model.specs.declared.event.PlainEvent.{PlainEvent}
use Rattle.plain_model.specs.declared.event.PlainEvent.TheVariants.{Blob, Commit, Tag, Reset, Pass}
use Rattle.plain_model.specs.declared.operation.Content.TheVariants.{Blob as OfBlob, Object}
use Rattle.plain_model.specs.declared.operation.FileOp.{FileOp}
use Rattle.plain_model.specs.declared.operation.FileOp.TheVariants.{Modify, Delete, Copy, Rename, DeleteAll}
use Rattle.plain_model.specs.Lookups.{event_ops, find_event, id_of, is_listed, op_blobs, place_of, referents_of, same_id}
use Rattle.plain_model.specs.Soundness.{IsSound, has_id}
use Rattle.history_laws.proofs.Ids.{absent_cons, one_place, same_id_comm, same_id_refl, same_id_true}
use Rattle.event_arena.specs.Changes.{without_all}
use Rattle.history_laws.specs.Once.{AreDistinct}
use Rattle.event_arena.proofs.ListLemmas.{take_item}
use Rattle.edit_laws.specs.Keeping.{IsNoBlob}
use Rattle.edit_laws.specs.Settling.{is_ready}
use Rattle.edit_laws.specs.Sweeping.{is_left_over, is_named, swept}
use Rattle.edit_laws.proofs.Settles.{sound_settles}
use Rattle.graph_walk.proofs.FlagLemmas.{no_flag}
use Rattle.graph_walk.proofs.PlaceLemmas.{event_placed, has_id_place, place_found, place_within}
use Rattle.graph_walk.specs.Flags.{flag_at}
use Rattle.plan_steps.specs.Flags.{AreCandidates, FlagsAdd, FlagsAll, FlagsIds, FlagsNamed, FlagsSome, KeepNames, OthersKeepNames, event_blobs, has_flag, is_unflagged, is_unflagged_at}

-- ---- flags that are added

pub adds_push : (events : List PlainEvent) (ids : List AnyId) (own : AnyId) (p : ℕ) (old mid : List Bool) →
    AreDistinct events → length old ≡ length events → place_of own events ≡ Some p → FlagsAdd events ids old mid →
    FlagsAdd events (ids ++ own ∷ []) old (set mid p true)
adds_push events ids own p old mid once counted there f = record { count = length-set mid p true ∙ f.count; more = more }
  where
    low : p < length mid
    low = let a = place_within events own p there in let b = f.count in omega arith

    more : (k : ℕ) (e : PlainEvent) → slice_get events k ≡ Some e →
        get_or (set mid p true) k false ≡ get_or old k false || is_listed (id_of e) (ids ++ own ∷ [])
    more k e at = elim (cases_eq p k) [
      | inl is ↦
          let same : own ≡ id_of e = one_place own (id_of e) events p there ((place_found events k e at once).0 ∙ ap Some (sym is)) in
          let here : same_id (id_of e) own ≡ true = ap (same_id (id_of e)) same ∙ same_id_refl (id_of e) in
          ap (λ j. get_or (set mid p true) j false) (sym is) ∙ get_or-set_same mid p true false low
          ∙ sym (ap (λ b. get_or old k false || b) (list_any-append (same_id (id_of e)) ids (own ∷ []) ∙ ap (λ b. is_listed (id_of e) ids || (b || false)) here ∙ or-true (is_listed (id_of e) ids)) ∙ or-true (get_or old k false))
      | inr other ↦
          let apart : same_id (id_of e) own ≡ false =
          false_from_ne_true (same_id (id_of e) own) (λ t. other (same_Some p k (sym there ∙ ap (λ id. place_of id events) (sym (same_id_true (id_of e) own t)) ∙ (place_found events k e at once).0))) in
          get_or-set_other mid p k true false (λ e. other (sym e)) ∙ f.more k e at
          ∙ sym (ap (λ b. get_or old k false || b) (list_any-append (same_id (id_of e)) ids (own ∷ []) ∙ ap (λ b. is_listed (id_of e) ids || (b || false)) apart ∙ or-false (is_listed (id_of e) ids)))
    ]

pub adds_skip : (events : List PlainEvent) (ids : List AnyId) (own : AnyId) (old mid : List Bool) → AreDistinct events →
    place_of own events ≡ None → FlagsAdd events ids old mid → FlagsAdd events (ids ++ own ∷ []) old mid
adds_skip events ids own old mid once absent f = record {
  count = f.count;
  more = λ k e at.
      let apart : same_id (id_of e) own ≡ false =
      false_from_ne_true (same_id (id_of e) own) (λ t. none-some k (sym absent ∙ ap (λ id. place_of id events) (sym (same_id_true (id_of e) own t)) ∙ (place_found events k e at once).0)) in
      f.more k e at ∙ sym (ap (λ b. get_or old k false || b) (list_any-append (same_id (id_of e)) ids (own ∷ []) ∙ ap (λ b. is_listed (id_of e) ids || (b || false)) apart ∙ or-false (is_listed (id_of e) ids)));
}

-- without ids the flags stay
pub adds_nothing : (events : List PlainEvent) (flags : List Bool) → FlagsAdd events [] flags flags
adds_nothing events flags = record { count = refl; more = λ k e at. sym (or-false (get_or flags k false)) }

-- some ids, and then others
pub adds_join : (events : List PlainEvent) (xs ys : List AnyId) (old mid new : List Bool) → FlagsAdd events xs old mid → FlagsAdd events ys mid new →
    FlagsAdd events (xs ++ ys) old new
adds_join events xs ys old mid new f g = record {
  count = g.count ∙ f.count;
  more = λ k e at.
      g.more k e at ∙ ap (λ b. b || is_listed (id_of e) ys) (f.more k e at)
      ∙ or_assoc (get_or old k false) (is_listed (id_of e) xs) (is_listed (id_of e) ys)
      ∙ ap (λ b. get_or old k false || b) (sym (list_any-append (same_id (id_of e)) xs ys));
}

-- ---- flags of what a list names

pub names_first : (events : List PlainEvent) → FlagsNamed events [] (replicate (length events) false)
names_first events = record { count = length-replicate (length events) false; flag = λ k e at. no_flag (length events) k }

pub names_more : (events named : List PlainEvent) (j : ℕ) (d : PlainEvent) (old new : List Bool) → slice_get named j ≡ Some d →
    FlagsNamed events (take j named) old → FlagsAdd events (event_blobs d) old new → FlagsNamed events (take (suc j) named) new
names_more events named j d old new at f a = record {
  count = a.count ∙ f.count;
  flag = λ k e here.
      a.more k e here ∙ ap (λ b. b || is_listed (id_of e) (event_blobs d)) (f.flag k e here)
      ∙ sym (ap (list_any (λ x. is_listed (id_of e) (event_blobs x))) (take_item named j d at) ∙ list_any-append (λ x. is_listed (id_of e) (event_blobs x)) (take j named) (d ∷ [])
      ∙ ap (λ b. list_any (λ x. is_listed (id_of e) (event_blobs x)) (take j named) || b) (or-false (is_listed (id_of e) (event_blobs d))));
}

-- ---- what is left over

-- of what an event refers to, operations name the blobs
pub named_by_op : (b : ℕ) (e : PlainEvent) → is_listed (any.Blob b) (referents_of e) ≡ is_listed (any.Blob b) (event_blobs e)
named_by_op b (Commit id mark branch author committer encoding comment parents ops aliases) = go parents
  where
    go : (ps : List ℕ) → is_listed (any.Blob b) (map any.Commit ps ++ flat_map op_blobs ops) ≡ is_listed (any.Blob b) (flat_map op_blobs ops)
    go [] = refl
    go (p ∷ ps) = go ps
named_by_op b (Blob id mark bytes) = refl
named_by_op b (Tag id name target tagger comment mark) = refl
named_by_op b (Reset id branch (Some target)) = refl
named_by_op b (Reset id branch None) = refl
named_by_op b (Pass id line) = refl

pub named_by_ops : (b : ℕ) (es : List PlainEvent) → is_named es b ≡ list_any (λ d. is_listed (any.Blob b) (event_blobs d)) es
named_by_ops b [] = refl
named_by_ops b (e ∷ es) =
    ap (λ x. x || is_named es b) (named_by_op b e) ∙ ap (λ x. is_listed (any.Blob b) (event_blobs e) || x) (named_by_ops b es)

filter_item : (test : PlainEvent → Bool) (es : List PlainEvent) (k : ℕ) (e : PlainEvent) → slice_get es k ≡ Some e →
    map id_of (filter test (take (suc k) es)) ≡ map id_of (filter test (take k es)) ++ (cond (test e) (id_of e ∷ []) [])
filter_item test es k e at = ap (λ xs. map id_of (filter test xs)) (take_item es k e at) ∙ push (take k es)
  where
    push : (xs : List PlainEvent) → map id_of (filter test (xs ++ e ∷ [])) ≡ map id_of (filter test xs) ++ (cond (test e) (id_of e ∷ []) [])
    push [] = one (test e)
      where
        one : (b : Bool) → map id_of (cond b (e ∷ []) []) ≡ cond b (id_of e ∷ []) []
        one true = refl
        one false = refl
    push (x ∷ xs) = elim (cases_Bool (test x)) [
      | inl it ↦ rw it (ap (λ ids. id_of x ∷ ids) (push xs))
      | inr no_it ↦ rw no_it (push xs)
    ]

-- what has no flag before, or one after, isn't left over
module _ (old new : List PlainEvent) (before after : List Bool) (b : AreCandidates old new before) (a : FlagsNamed new new after) where
  pub over_unnamed : (k : ℕ) (e : PlainEvent) → slice_get new k ≡ Some e → get_or before k false ≡ false → is_left_over old new e ≡ false
  over_unnamed k e at off = false_from_ne_true (is_left_over old new e) (λ t. true≢false (sym (b.over k e at t) ∙ off))

  pub over_named : (k : ℕ) (e : PlainEvent) → slice_get new k ≡ Some e → get_or after k false ≡ true → is_left_over old new e ≡ false
  over_named k (Blob n mark bytes) at on = and_right (is_named old n) (not (is_named new n)) (ap not (named_by_ops n new ∙ sym (a.flag k (Blob n mark bytes) at) ∙ on))
  over_named k (Commit n mark branch author committer encoding comment parents ops aliases) at on = refl
  over_named k (Tag n name target tagger comment mark) at on = refl
  over_named k (Reset n branch target) at on = refl
  over_named k (Pass n line) at on = refl

  -- a blob that has the first flag alone is
  pub over_blob : (k id : ℕ) (e : PlainEvent) → slice_get new k ≡ Some e → any.Blob id ≡ id_of e → get_or before k false ≡ true → get_or after k false ≡ false →
      is_left_over old new e ≡ true
  over_blob k id (Blob n mark bytes) at own on off =
      and_from (is_named old n) (not (is_named new n)) (named_by_ops n old ∙ b.named k (Blob n mark bytes) at on)
      (ap not (named_by_ops n new ∙ sym (a.flag k (Blob n mark bytes) at) ∙ off))
  over_blob k id (Commit n mark branch author committer encoding comment parents ops aliases) at own on off = absurd cc
  over_blob k id (Tag n name target tagger comment mark) at own on off = absurd cc
  over_blob k id (Reset n branch target) at own on off = absurd cc
  over_blob k id (Pass n line) at own on off = absurd cc

-- ---- which blobs can be left over

-- what is left over was named before, and isn't named after
over_parts : (old new : List PlainEvent) (e : PlainEvent) → is_left_over old new e ≡ true →
    (list_any (λ d. is_listed (id_of e) (event_blobs d)) old ≡ true) × (list_any (λ d. is_listed (id_of e) (event_blobs d)) new ≡ false)
over_parts old new (Blob n mark bytes) t =
    let parts = and_parts (is_named old n) (not (is_named new n)) t in
    (sym (named_by_ops n old) ∙ parts.0, sym (named_by_ops n new) ∙ not-true (is_named new n) parts.1)
over_parts old new (Commit n mark branch author committer encoding comment parents ops aliases) t = absurd (true≢false (sym t))
over_parts old new (Tag n name target tagger comment mark) t = absurd (true≢false (sym t))
over_parts old new (Reset n branch target) t = absurd (true≢false (sym t))
over_parts old new (Pass n line) t = absurd (true≢false (sym t))

-- all that was named
pub all_candidates : (old new : List PlainEvent) (flags : List Bool) → FlagsNamed new old flags → AreCandidates old new flags
all_candidates old new flags f = record {
  count = f.count;
  named = λ k e at on. sym (f.flag k e at) ∙ on;
  over = λ k e at t. f.flag k e at ∙ (over_parts old new e t).0;
}

any_filtered : (test p : PlainEvent → Bool) (es : List PlainEvent) → list_any test (filter p es) ≡ true → list_any test es ≡ true
any_filtered test p [] h = h
any_filtered test p (e ∷ es) h = elim (cases_Bool (p e)) [
  | inl it ↦ elim (or_cases (test e) (list_any test (filter p es)) (sym (ap (λ b. list_any test (cond b (e ∷ filter p es) (filter p es))) it) ∙ h)) [
    | inl own ↦ or_left (test e) (list_any test es) own
    | inr later ↦ or_right (test e) (list_any test es) (any_filtered test p es later)
  ]
  | inr no_it ↦ or_right (test e) (list_any test es) (any_filtered test p es (sym (ap (λ b. list_any test (cond b (e ∷ filter p es) (filter p es))) no_it) ∙ h))
]

-- where one passes, it is one of those that are kept, or there is another
pub record IsOther (test p : PlainEvent → Bool) (es : List PlainEvent) : Type 0 where
  pub place : ℕ
  pub event : PlainEvent
  pub at : slice_get es place ≡ Some event
  pub out : p event ≡ false
  pub passes : test event ≡ true

any_either : (test p : PlainEvent → Bool) (es : List PlainEvent) → list_any test es ≡ true → (list_any test (filter p es) ≡ true) ⊎ IsOther test p es
any_either test p [] h = absurd (true≢false (sym h))
any_either test p (e ∷ es) h = elim (or_cases (test e) (list_any test es) h) [
  | inl own ↦ elim (cases_Bool (p e)) [
    | inl it ↦ inl (ap (λ b. list_any test (cond b (e ∷ filter p es) (filter p es))) it ∙ or_left (test e) (list_any test (filter p es)) own)
    | inr no_it ↦ inr (record { place = 0; event = e; at = refl; out = no_it; passes = own })
  ]
  | inr later ↦ elim (any_either test p es later) [
    | inl some ↦ inl (elim (cases_Bool (p e)) [
      | inl it ↦ ap (λ b. list_any test (cond b (e ∷ filter p es) (filter p es))) it ∙ or_right (test e) (list_any test (filter p es)) some
      | inr no_it ↦ ap (λ b. list_any test (cond b (e ∷ filter p es) (filter p es))) no_it ∙ some
    ])
    | inr o ↦ inr (record { place = suc o.place; event = o.event; at = o.at; out = o.out; passes = o.passes })
  ]
]

-- all that some events named, where the others keep what they name
pub other_candidates : (test : PlainEvent → Bool) (old new : List PlainEvent) (flags : List Bool) → OthersKeepNames test old new →
    FlagsNamed new (filter test old) flags → AreCandidates old new flags
other_candidates test old new flags keep f = record {
  count = f.count;
  named = λ k e at on. any_filtered (λ d. is_listed (id_of e) (event_blobs d)) test old (sym (f.flag k e at) ∙ on);
  over = λ k e at t.
      let parts = over_parts old new e t in
      f.flag k e at ∙ elim (any_either (λ d. is_listed (id_of e) (event_blobs d)) test old parts.0) [
        | inl some ↦ some
        | inr o ↦ absurd (true≢false (sym (keep o.place o.event (id_of e) o.at o.out o.passes) ∙ parts.1))
      ];
}

-- the flag of an event is the one at its place
pub touched_here : (flags : List Bool) (events : List PlainEvent) → AreDistinct events → (k : ℕ) (e : PlainEvent) → slice_get events k ≡ Some e →
    has_flag flags events e ≡ get_or flags k false
touched_here flags events once k e at = ap (flag_at flags) (place_found events k e at once).0

-- where each of them has a flag, and what has one is named after, none is left over
pub none_over : (ids : List AnyId) (old new : List PlainEvent) (near : List Bool) → KeepNames ids old new →
    FlagsAll new (filter (λ e. is_listed (id_of e) ids) old) near → FlagsSome new near → swept old new ≡ new
none_over ids old new near keep all some = kept new (λ k e at. false_from_ne_true (is_left_over old new e) (λ t.
    let parts = over_parts old new e t in
    elim (any_either (λ d. is_listed (id_of e) (event_blobs d)) (λ d. is_listed (id_of d) ids) old parts.0) [
      | inl named ↦ true≢false (sym (some.flag k e at (all k e at named)) ∙ parts.1)
      | inr o ↦ true≢false (sym (keep o.place o.event (id_of e) o.at o.out o.passes) ∙ parts.1)
    ]))
  where
    kept : (es : List PlainEvent) → ((k : ℕ) (e : PlainEvent) → slice_get es k ≡ Some e → is_left_over old new e ≡ false) → filter (λ e. not (is_left_over old new e)) es ≡ es
    kept [] h = refl
    kept (e ∷ es) h =
        ap (λ b. cond (not b) (e ∷ filter (λ x. not (is_left_over old new x)) es) (filter (λ x. not (is_left_over old new x)) es)) (h 0 e refl)
        ∙ ap (λ xs. e ∷ xs) (kept es (λ k d at. h (suc k) d at))

-- ---- flags of all that is named

pub flags_none : (events : List PlainEvent) (flags : List Bool) → FlagsAll events [] flags
flags_none events flags k e at named = absurd (true≢false (sym named))

-- an id more, whose event has a flag, if it is there
pub ids_push : (events : List PlainEvent) (ids : List AnyId) (own : AnyId) (flags : List Bool) → AreDistinct events → FlagsIds events ids flags →
    ((k : ℕ) → place_of own events ≡ Some k → get_or flags k false ≡ true) → FlagsIds events (ids ++ own ∷ []) flags
ids_push events ids own flags once so is k e at listed = elim (or_cases (is_listed (id_of e) ids) (is_listed (id_of e) (own ∷ [])) (sym (list_any-append (same_id (id_of e)) ids (own ∷ [])) ∙ listed)) [
  | inl before ↦ so k e at before
  | inr now ↦
      let same = same_id_true (id_of e) own (sym (or-false (same_id (id_of e) own)) ∙ now) in
      is k (ap (λ id. place_of id events) (sym same) ∙ (place_found events k e at once).0)
]

-- an event more, which passes or doesn't
pub filter_in : (p : PlainEvent → Bool) (es : List PlainEvent) (k : ℕ) (e : PlainEvent) → slice_get es k ≡ Some e → p e ≡ true →
    filter p (take (suc k) es) ≡ filter p (take k es) ++ e ∷ []
filter_in p es k e at it =
    ap (filter p) (take_item es k e at) ∙ filter-append p (take k es) (e ∷ []) ∙ ap (λ b. filter p (take k es) ++ cond b (e ∷ []) []) it

pub filter_out : (p : PlainEvent → Bool) (es : List PlainEvent) (k : ℕ) (e : PlainEvent) → slice_get es k ≡ Some e → p e ≡ false →
    filter p (take (suc k) es) ≡ filter p (take k es)
filter_out p es k e at out =
    ap (filter p) (take_item es k e at) ∙ filter-append p (take k es) (e ∷ []) ∙ ap (λ b. filter p (take k es) ++ cond b (e ∷ []) []) out
    ∙ append-nil (filter p (take k es))

pub flags_push : (events named : List PlainEvent) (d : PlainEvent) (flags : List Bool) → FlagsAll events named flags → FlagsIds events (event_blobs d) flags →
    FlagsAll events (named ++ d ∷ []) flags
flags_push events named d flags so own k e at listed =
    elim (or_cases (list_any (λ x. is_listed (id_of e) (event_blobs x)) named) (list_any (λ x. is_listed (id_of e) (event_blobs x)) (d ∷ []))
    (sym (list_any-append (λ x. is_listed (id_of e) (event_blobs x)) named (d ∷ [])) ∙ listed)) [
      | inl before ↦ so k e at before
      | inr now ↦ own k e at (sym (or-false (is_listed (id_of e) (event_blobs d))) ∙ now)
    ]

-- ---- flags of some of what is named

any_found : (test : PlainEvent → Bool) (id : AnyId) (d : PlainEvent) (es : List PlainEvent) → find_event id es ≡ Some d → test d ≡ true → list_any test es ≡ true
any_found test id d [] found it = absurd (none-some d found)
any_found test id d (x ∷ es) found it = elim (cases_Bool (same_id id (id_of x))) [
  | inl same ↦
      let is : x ≡ d = same_Some x d (sym (ap (λ b. cond b (Some x) (find_event id es)) same) ∙ found) in
      or_left (test x) (list_any test es) (ap test is ∙ it)
  | inr other ↦ or_right (test x) (list_any test es) (any_found test id d es (sym (ap (λ b. cond b (Some x) (find_event id es)) other) ∙ found) it)
]

pub some_more : (events : List PlainEvent) (id : AnyId) (d : PlainEvent) (old new : List Bool) → find_event id events ≡ Some d → FlagsSome events old →
    FlagsAdd events (event_blobs d) old new → FlagsSome events new
some_more events id d old new found s a = record {
  count = a.count ∙ s.count;
  flag = λ k e at on. elim (or_cases (get_or old k false) (is_listed (id_of e) (event_blobs d)) (sym (a.more k e at) ∙ on)) [
    | inl before ↦ s.flag k e at before
    | inr now ↦ any_found (λ x. is_listed (id_of e) (event_blobs x)) id d events found now
  ];
}

-- flags of what some events of a list name, one event more
pub filtered_more : (p : PlainEvent → Bool) (events named : List PlainEvent) (j : ℕ) (d : PlainEvent) (old new : List Bool) → slice_get named j ≡ Some d → p d ≡ true →
    FlagsNamed events (filter p (take j named)) old → FlagsAdd events (event_blobs d) old new → FlagsNamed events (filter p (take (suc j) named)) new
filtered_more p events named j d old new at it f a = record {
  count = a.count ∙ f.count;
  flag = λ k e here.
      a.more k e here ∙ ap (λ b. b || is_listed (id_of e) (event_blobs d)) (f.flag k e here)
      ∙ sym (ap (list_any (λ x. is_listed (id_of e) (event_blobs x))) (filter_in p named j d at it)
      ∙ list_any-append (λ x. is_listed (id_of e) (event_blobs x)) (filter p (take j named)) (d ∷ [])
      ∙ ap (λ b. list_any (λ x. is_listed (id_of e) (event_blobs x)) (filter p (take j named)) || b) (or-false (is_listed (id_of e) (event_blobs d))));
}

pub filtered_same : (p : PlainEvent → Bool) (events named : List PlainEvent) (j : ℕ) (d : PlainEvent) (flags : List Bool) → slice_get named j ≡ Some d → p d ≡ false →
    FlagsNamed events (filter p (take j named)) flags → FlagsNamed events (filter p (take (suc j) named)) flags
filtered_same p events named j d flags at out f =
    subst (λ es. FlagsNamed events es flags)
    (sym (filter_out p named j d at out)) f

-- ---- without them

-- an id is among those of the events that pass, exactly where its event passes
pub listed_filter : (test : PlainEvent → Bool) (es : List PlainEvent) (own : AnyId) → find_event own es ≡ None →
    is_listed own (map id_of (filter test es)) ≡ false
listed_filter test [] own h = refl
listed_filter test (x ∷ es) own h =
    let rest = absent_cons own x es h in
    elim (cases_Bool (test x)) [
      | inl it ↦ rw (it, rest.0) (listed_filter test es own rest.1)
      | inr no_it ↦ rw no_it (listed_filter test es own rest.1)
    ]

-- an id that none of the events has can be left out of a list of ids
pub without_front : (own : AnyId) (ids : List AnyId) (es : List PlainEvent) → find_event own es ≡ None →
    without_all (own ∷ ids) es ≡ without_all ids es
without_front own ids [] h = refl
without_front own ids (x ∷ es) h =
    let rest = absent_cons own x es h in
    let same : is_listed (id_of x) (own ∷ ids) ≡ is_listed (id_of x) ids = ap (λ b. b || is_listed (id_of x) ids) (same_id_comm (id_of x) own ∙ rest.0) in
    rw same (ap (λ ys. cond (not (is_listed (id_of x) ids)) (x ∷ ys) ys) (without_front own ids es rest.1))

pub without_passing : (test : PlainEvent → Bool) (es : List PlainEvent) → AreDistinct es →
    without_all (map id_of (filter test es)) es ≡ filter (λ e. not (test e)) es
without_passing test [] once = refl
without_passing test (x ∷ es) once = by (test x) (without_passing test es once.1)
  where
    by : (b : Bool) → without_all (map id_of (filter test es)) es ≡ filter (λ e. not (test e)) es →
        without_all (map id_of (cond b (x ∷ filter test es) (filter test es))) (x ∷ es) ≡ cond (not b) (x ∷ filter (λ e. not (test e)) es) (filter (λ e. not (test e)) es)
    by true more = rw (same_id_refl (id_of x)) (without_front (id_of x) (map id_of (filter test es)) es once.0 ∙ more)
    by false more = rw (listed_filter test es (id_of x) once.0) (ap (λ ys. x ∷ ys) more)

-- one event more among those that pass
pub passing_item : (test : PlainEvent → Bool) (es : List PlainEvent) (k : ℕ) (e : PlainEvent) (ids found : List AnyId) → slice_get es k ≡ Some e →
    ids ≡ map id_of (filter test (take k es)) → found ≡ cond (test e) (id_of e ∷ []) [] →
    ids ++ found ≡ map id_of (filter test (take (suc k) es))
passing_item test es k e ids found at is h =
    ap (λ xs. xs ++ found) is ∙ ap (λ xs. map id_of (filter test (take k es)) ++ xs) h ∙ sym (filter_item test es k e at)

-- and among those that are left over
pub over_item : (old new : List PlainEvent) (k : ℕ) (e : PlainEvent) (ids found : List AnyId) → slice_get new k ≡ Some e →
    ids ≡ map id_of (filter (is_left_over old new) (take k new)) → found ≡ cond (is_left_over old new e) (id_of e ∷ []) [] →
    ids ++ found ≡ map id_of (filter (is_left_over old new) (take (suc k) new))
over_item old new k e ids found at is h = passing_item (is_left_over old new) new k e ids found at is h

-- without no ids nothing is missing
pub without_none : (es : List PlainEvent) → without_all [] es ≡ es
without_none [] = refl
without_none (e ∷ es) = ap (λ ys. e ∷ ys) (without_none es)

-- what one item more adds
pub flat_push : {X Y : Type 0} (f : X → List Y) (xs : List X) (x : X) → flat_map f (xs ++ x ∷ []) ≡ flat_map f xs ++ f x
flat_push f [] x = append-nil (f x)
flat_push f (y ∷ xs) x = ap (λ l. f y ++ l) (flat_push f xs x) ∙ sym (append_assoc (f y) (flat_map f xs) (f x))

-- what has no length is empty
pub nil_of : {X : Type 0} (xs : List X) → length xs ≡ 0 → xs ≡ []
nil_of [] h = refl
nil_of (x ∷ xs) h = absurd (omega arith)

-- ---- what touched events named, and has no flag

-- ids that pass a test are listed where they were and pass
listed_passing : (test : AnyId → Bool) (id : AnyId) (ids : List AnyId) → is_listed id (filter test ids) ≡ is_listed id ids && test id
listed_passing test id [] = refl
listed_passing test id (x ∷ ids) = front (test x) ∙ ap (λ b. (test x && same_id id x) || b) (listed_passing test id ids) ∙ elim (cases_Bool (same_id id x)) [
  | inl same ↦
      ap (λ b. (test x && b) || (is_listed id ids && test id)) same
      ∙ ap (λ y. (test y && true) || (is_listed id ids && test id)) (sym (same_id_true id x same)) ∙ both (test id)
      ∙ sym (ap (λ b. (b || is_listed id ids) && test id) same)
  | inr other ↦
      ap (λ b. (test x && b) || (is_listed id ids && test id)) other
      ∙ ap (λ b. b || (is_listed id ids && test id)) (and-false (test x))
      ∙ sym (ap (λ b. (b || is_listed id ids) && test id) other)
]
  where
    front : (b : Bool) → is_listed id (cond b (x ∷ filter test ids) (filter test ids)) ≡ (b && same_id id x) || is_listed id (filter test ids)
    front true = refl
    front false = refl

    both : (b : Bool) → (b && true) || (is_listed id ids && b) ≡ b
    both true = refl
    both false = and-false (is_listed id ids)

-- an id that operations of events name is named by one of them
listed_flat : (id : AnyId) (es : List PlainEvent) → is_listed id (flat_map event_blobs es) ≡ list_any (λ d. is_listed id (event_blobs d)) es
listed_flat id [] = refl
listed_flat id (e ∷ es) =
    list_any-append (same_id id) (event_blobs e) (flat_map event_blobs es) ∙ ap (λ b. is_listed id (event_blobs e) || b) (listed_flat id es)

-- operations name blobs alone
not_a_blob : (id : AnyId) → IsNoBlob id → (b : ℕ) → same_id id (any.Blob b) ≡ false
not_a_blob (any.Blob a) other b = absurd other
not_a_blob (any.Commit c) other b = refl
not_a_blob (any.Tag t) other b = refl
not_a_blob (any.Reset r) other b = refl
not_a_blob (any.Pass p) other b = refl

module _ (id : AnyId) (other : IsNoBlob id) where
  not_by_op : (op : FileOp) → is_listed id (op_blobs op) ≡ false
  not_by_op (Modify mode (OfBlob b) path) = ap (λ x. x || false) (not_a_blob id other b)
  not_by_op (Modify mode (Object digits) path) = refl
  not_by_op (Delete path) = refl
  not_by_op (Copy source target) = refl
  not_by_op (Rename source target) = refl
  not_by_op DeleteAll = refl

  not_by_ops : (ops : List FileOp) → is_listed id (flat_map op_blobs ops) ≡ false
  not_by_ops [] = refl
  not_by_ops (op ∷ ops) =
      list_any-append (same_id id) (op_blobs op) (flat_map op_blobs ops) ∙ ap (λ b. b || is_listed id (flat_map op_blobs ops)) (not_by_op op) ∙ not_by_ops ops

  not_by_any : (es : List PlainEvent) → is_listed id (flat_map event_blobs es) ≡ false
  not_by_any [] = refl
  not_by_any (e ∷ es) =
      list_any-append (same_id id) (event_blobs e) (flat_map event_blobs es)
      ∙ ap (λ b. b || is_listed id (flat_map event_blobs es)) (not_by_ops (event_ops e)) ∙ not_by_any es

all_listed : (test : AnyId → Bool) (id : AnyId) (ids : List AnyId) → list_all test ids ≡ true → is_listed id ids ≡ true → test id ≡ true
all_listed test id [] all listed = absurd (true≢false (sym listed))
all_listed test id (x ∷ ids) all listed =
    let parts = and_parts (test x) (list_all test ids) all in
    elim (or_cases (same_id id x) (is_listed id ids) listed) [
      | inl same ↦ ap test (same_id_true id x same) ∙ parts.0
      | inr later ↦ all_listed test id ids parts.1 later
    ]

-- in a sound history each blob that is named is there
pub named_there : (events : List PlainEvent) → IsSound events → (b : ℕ) → is_named events b ≡ true → IsSome (place_of (any.Blob b) events)
named_there events h b named = sym (has_id_place events (any.Blob b)) ∙ go events (sound_settles events h).complete named
  where
    go : (es : List PlainEvent) → AllByRecursion (λ e. is_ready events e ≡ true) es → is_named es b ≡ true → has_id events (any.Blob b) ≡ true
    go [] a t = absurd (true≢false (sym t))
    go (e ∷ es) a t = elim (or_cases (is_listed (any.Blob b) (referents_of e)) (is_named es b) t) [
      | inl own ↦ all_listed (has_id events) (any.Blob b) (referents_of e) a.0 own
      | inr later ↦ go es a.1 later
    ]

-- of what some events named, where the others keep what they name, just that is left over that isn't named after
module _ (test : PlainEvent → Bool) (old new : List PlainEvent) (h : IsSound old) (keep : OthersKeepNames test old new) (flags : List Bool) (f : FlagsNamed old new flags) where
  abbrev over : List AnyId
  over = filter (is_unflagged flags old) (flat_map event_blobs (filter test old))

  -- what is there has a flag where it is named after
  unflagged_there : (id : AnyId) → IsSome (place_of id old) → is_unflagged flags old id ≡ not (list_any (λ d. is_listed id (event_blobs d)) new)
  unflagged_there id there = go (place_of id old) refl there
    where
      go : (o : Option ℕ) → place_of id old ≡ o → IsSome o → is_unflagged_at flags o ≡ not (list_any (λ d. is_listed id (event_blobs d)) new)
      go None is some = absurd (true≢false (sym some))
      go (Some p) is some =
          let placed = event_placed old id p is in
          ap not (f.flag p placed.event placed.at ∙ ap (λ i. list_any (λ d. is_listed i (event_blobs d)) new) (sym placed.own))

  -- one of those events named the blob
  abbrev some : ℕ → Bool
  some n = list_any (λ d. is_listed (any.Blob n) (event_blobs d)) (filter test old)

  blob_over : (n : ℕ) → is_listed (any.Blob n) over ≡ is_named old n && not (is_named new n)
  blob_over n =
      listed_passing (is_unflagged flags old) (any.Blob n) (flat_map event_blobs (filter test old))
      ∙ ap (λ b. b && is_unflagged flags old (any.Blob n)) (listed_flat (any.Blob n) (filter test old))
      ∙ elim (cases_Bool (is_named old n)) [
        | inl was ↦
            ap (λ b. some n && b) (unflagged_there (any.Blob n) (named_there old h n was) ∙ ap not (sym (named_by_ops n new)))
            ∙ elim (cases_Bool (is_named new n)) [
              | inl still ↦ ap (λ b. some n && not b) still ∙ and-false (some n) ∙ sym (ap (λ b. is_named old n && not b) still ∙ and-false (is_named old n))
              | inr no_more ↦
                  ap (λ b. b && not (is_named new n)) (elim (any_either (λ d. is_listed (any.Blob n) (event_blobs d)) test old (sym (named_by_ops n old) ∙ was)) [
                    | inl it ↦ it
                    | inr o ↦ absurd (true≢false (sym (keep o.place o.event (any.Blob n) o.at o.out o.passes) ∙ sym (named_by_ops n new) ∙ no_more))
                  ])
                  ∙ ap (λ b. b && not (is_named new n)) (sym was)
            ]
        | inr never ↦
            ap (λ b. b && is_unflagged flags old (any.Blob n)) (false_from_ne_true (some n) (λ t. true≢false (sym (any_filtered (λ d. is_listed (any.Blob n) (event_blobs d)) test old t) ∙ sym (named_by_ops n old) ∙ never)))
            ∙ sym (ap (λ b. b && not (is_named new n)) never)
      ]

  no_blob_over : (id : AnyId) → IsNoBlob id → is_listed id over ≡ false
  no_blob_over id other =
      listed_passing (is_unflagged flags old) id (flat_map event_blobs (filter test old))
      ∙ ap (λ b. b && is_unflagged flags old id) (not_by_any id other (filter test old))

  listed_over : (e : PlainEvent) → is_listed (id_of e) over ≡ is_left_over old new e
  listed_over (Blob n mark bytes) = blob_over n
  listed_over (Commit n mark branch author committer encoding comment parents ops aliases) = no_blob_over (any.Commit n) tt
  listed_over (Tag n name target tagger comment mark) = no_blob_over (any.Tag n) tt
  listed_over (Reset n branch target) = no_blob_over (any.Reset n) tt
  listed_over (Pass n line) = no_blob_over (any.Pass n) tt

  pub without_over : without_all over new ≡ swept old new
  without_over = go new
    where
      go : (es : List PlainEvent) → without_all over es ≡ filter (λ e. not (is_left_over old new e)) es
      go [] = refl
      go (e ∷ es) = λ i. cond (not (listed_over e i)) (e ∷ go es i) (go es i)
