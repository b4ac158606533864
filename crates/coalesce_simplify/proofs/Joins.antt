-- Commits that are joined, event by event.
use Rattle.std.proofs.Common.{◌≡◌, ◌∙◌, ℕ, Bool, true, false, cond, inl, inr, List, [], ◌∷◌, filter, map, Some, None, refl, sym, ap, eq-eqb}
use Rattle.std.specs.Prelude.{◌||◌, ◌&&◌, bytes_eq, is_some}
use Rattle.std.specs.List.{list_any}
use Rattle.std.proofs.lemmas.Bool.{cases_Bool}
use Rattle.std.proofs.lemmas.Option.{none-some, same_Some}
use Rattle.plain_model.specs.declared.id.AnyId.{AnyId}
use Rattle.plain_model.specs.declared.id.AnyId.TheVariants as any
use Rattle.plain_model.specs.declared.event.PlainEvent.{PlainEvent}
use Rattle.plain_model.specs.declared.event.PlainEvent.TheVariants.{Blob, Commit, Tag, Reset, Pass}
use Rattle.plain_model.specs.Lookups.{children_of, commit_id, event_parents, find_event, id_number, id_of, is_listed, same_id}
use Rattle.plain_model.specs.Soundness.{IsSound, has_id}
use Rattle.history_laws.specs.Finding.{is_only}
use Rattle.history_laws.proofs.Ids.{find_id, same_id_true}
use Rattle.history_laws.specs.Once.{AreDistinct}
use Rattle.history_laws.proofs.SoundOnce.{has_id_find, sound_once}
use Rattle.squash_laws.specs.Removed.{is_removed}
use Rattle.plan_steps.proofs.SweepLemmas.{listed_filter}
use Rattle.coalesce_laws.specs.Coalesce.{are_near, is_joined_to, joined_ones}
use Rattle.coalesce_laws.proofs.Deciding.{decided}
use Rattle.coalesce_laws.proofs.Joined.{joined}
use Rattle.coalesce_laws.proofs.Staying.{none_any}
use Rattle.coalesce_simplify.specs.Joining.{agree, are_linked, only_of}

-- what links two commits, and what agrees
both_parts : (a b c e f g : Bool) → (a && b && c) && (e && f && g) ≡ a && b && c && true && e && f && g
both_parts a b c e f g = go (a && b && c)
  where
    go : (x : Bool) → x && (e && f && g) ≡ x && true && e && f && g
    go true = refl
    go false = refl

-- a list of one
pub only_is : (xs : List ℕ) (d : ℕ) → only_of xs ≡ Some d → xs ≡ d ∷ []
only_is [] d h = absurd (none-some d h)
only_is (x ∷ []) d h = ap (λ y. y ∷ []) (same_Some x d h)
only_is (x ∷ y ∷ xs) d h = absurd (none-some d h)

module _ (seconds : ℕ) (sel : List AnyId) (events : List PlainEvent) where
  abbrev pub passes : PlainEvent → Bool
  passes e = list_any (is_joined_to seconds sel events e) events

  -- only commits are joined
  pub others_stay : (e : PlainEvent) → commit_id e ≡ None → passes e ≡ false
  others_stay (Commit id mark branch author committer encoding comment parents ops aliases) h = absurd cc
  others_stay (Blob id mark bytes) h = none_any (is_joined_to seconds sel events (Blob id mark bytes)) (λ x. refl) events
  others_stay (Tag id name target tagger comment mark) h = none_any (is_joined_to seconds sel events (Tag id name target tagger comment mark)) (λ x. refl) events
  others_stay (Reset id branch target) h = none_any (is_joined_to seconds sel events (Reset id branch target)) (λ x. refl) events
  others_stay (Pass id line) h = none_any (is_joined_to seconds sel events (Pass id line)) (λ x. refl) events

  -- and only selected ones
  pub unselected : (e : PlainEvent) → is_listed (id_of e) sel ≡ false → passes e ≡ false
  unselected (Commit c mark branch author committer encoding comment parents ops aliases) h =
      none_any (is_joined_to seconds sel events (Commit c mark branch author committer encoding comment parents ops aliases)) one events
    where
      one : (x : PlainEvent) → is_joined_to seconds sel events (Commit c mark branch author committer encoding comment parents ops aliases) x ≡ false
      one (Commit d mark2 branch2 author2 committer2 encoding2 comment2 parents2 ops2 aliases2) =
          ap (λ b. b && is_listed (any.Commit d) sel && is_only c parents2 && is_only d (children_of c events)
          && bytes_eq branch branch2 && bytes_eq comment comment2 && are_near seconds committer committer2) h
      one (Blob id mark bytes) = refl
      one (Tag id name target tagger comment mark) = refl
      one (Reset id branch target) = refl
      one (Pass id line) = refl
  unselected (Blob id mark bytes) h = others_stay (Blob id mark bytes) refl
  unselected (Tag id name target tagger comment mark) h = others_stay (Tag id name target tagger comment mark) refl
  unselected (Reset id branch target) h = others_stay (Reset id branch target) refl
  unselected (Pass id line) h = others_stay (Pass id line) refl

  -- two commits are joined where they are linked and agree
  pub linked_agree : (e child : PlainEvent) (c d : ℕ) (ps : List ℕ) → commit_id e ≡ Some c → commit_id child ≡ Some d → ps ≡ event_parents child →
      find_event (id_of e) events ≡ Some e → find_event (id_of child) events ≡ Some child → only_of (children_of c events) ≡ Some d →
      are_linked sel events c d ps && agree seconds e child ≡ is_joined_to seconds sel events e child
  linked_agree (Commit i mark branch author committer encoding comment parents ops aliases) (Commit j mark2 branch2 author2 committer2 encoding2 comment2 parents2 ops2 aliases2) c d ps one two own f g only =
      let is_c : i ≡ c = same_Some i c one in
      let is_d : j ≡ d = same_Some j d two in
      let known_i : has_id events (any.Commit i) ≡ true = has_id_find events (any.Commit i) ∙ ap is_some f in
      let known_j : has_id events (any.Commit j) ≡ true = has_id_find events (any.Commit j) ∙ ap is_some g in
      let fits = bytes_eq branch branch2 && bytes_eq comment comment2 && are_near seconds committer committer2 in
      let its : is_only j (children_of i events) ≡ true =
      ap (is_only j) (only_is (children_of i events) j (ap (λ n. only_of (children_of n events)) is_c ∙ only ∙ ap (λ n. Some n) (sym is_d))) ∙ eq-eqb j j refl in
      (λ k. are_linked sel events (sym is_c k) (sym is_d k) (own k) && fits)
      ∙ (λ k. ((known_i k && is_listed (any.Commit i) sel) && (known_j k && is_listed (any.Commit j) sel) && is_only i parents2) && fits)
      ∙ both_parts (is_listed (any.Commit i) sel) (is_listed (any.Commit j) sel) (is_only i parents2)
      (bytes_eq branch branch2) (bytes_eq comment comment2) (are_near seconds committer committer2)
      ∙ ap (λ o. is_listed (any.Commit i) sel && is_listed (any.Commit j) sel && is_only i parents2 && o
      && bytes_eq branch branch2 && bytes_eq comment comment2 && are_near seconds committer committer2) (sym its)
  linked_agree (Commit i mark branch author committer encoding comment parents ops aliases) (Blob j mark2 bytes) c d ps one two own f g only = absurd cc
  linked_agree (Commit i mark branch author committer encoding comment parents ops aliases) (Tag j name target tagger comment2 mark2) c d ps one two own f g only = absurd cc
  linked_agree (Commit i mark branch author committer encoding comment parents ops aliases) (Reset j branch2 target) c d ps one two own f g only = absurd cc
  linked_agree (Commit i mark branch author committer encoding comment parents ops aliases) (Pass j line) c d ps one two own f g only = absurd cc
  linked_agree (Blob i mark bytes) child c d ps one two own f g only = absurd cc
  linked_agree (Tag i name target tagger comment mark) child c d ps one two own f g only = absurd cc
  linked_agree (Reset i branch target) child c d ps one two own f g only = absurd cc
  linked_agree (Pass i line) child c d ps one two own f g only = absurd cc

  abbrev pub ones : List AnyId
  ones = joined_ones seconds sel events

  module _ (h : IsSound events) where
    -- an event is among the joined ones where it passes
    pub listed_passes : (e : PlainEvent) → find_event (id_of e) events ≡ Some e → is_listed (id_of e) ones ≡ passes e
    listed_passes e there = go events (sound_once events h).ids there
      where
        go : (es : List PlainEvent) → AreDistinct es → find_event (id_of e) es ≡ Some e → is_listed (id_of e) (map id_of (filter passes es)) ≡ passes e
        go [] once found = absurd (none-some e found)
        go (x ∷ es) once found = elim (cases_Bool (same_id (id_of e) (id_of x))) [
          | inl it ↦
              let is : x ≡ e = same_Some x e (rw it at found) in
              let absent : find_event (id_of e) es ≡ None = ap (λ id. find_event id es) (same_id_true (id_of e) (id_of x) it) ∙ once.0 in
              here (passes x) it (listed_filter passes es (id_of e) absent) ∙ ap passes is
          | inr other ↦ later (passes x) other (go es once.1 (rw other at found))
        ]
          where
            here : (b : Bool) → same_id (id_of e) (id_of x) ≡ true → is_listed (id_of e) (map id_of (filter passes es)) ≡ false →
                is_listed (id_of e) (map id_of (cond b (x ∷ filter passes es) (filter passes es))) ≡ b
            here true it none = ap (λ b. b || is_listed (id_of e) (map id_of (filter passes es))) it
            here false it none = none

            later : (b : Bool) → same_id (id_of e) (id_of x) ≡ false → is_listed (id_of e) (map id_of (filter passes es)) ≡ passes e →
                is_listed (id_of e) (map id_of (cond b (x ∷ filter passes es) (filter passes es))) ≡ passes e
            later true other rest = ap (λ b. b || is_listed (id_of e) (map id_of (filter passes es))) other ∙ rest
            later false other rest = rest

    module _ (c : ℕ) (e : PlainEvent) (at : find_event (any.Commit c) events ≡ Some e) where
      own : any.Commit c ≡ id_of e
      own = find_id (any.Commit c) events e at

      pub own_found : find_event (id_of e) events ≡ Some e
      own_found = ap (λ id. find_event id events) (sym own) ∙ at

      own_passes : is_removed ones c ≡ passes e
      own_passes = ap (λ id. is_listed id ones) own ∙ listed_passes e own_found

      -- what it is joined to is its only child
      pub by_child : (d : ℕ) (child : PlainEvent) → find_event (any.Commit d) events ≡ Some child → only_of (children_of c events) ≡ Some d →
          is_joined_to seconds sel events e child ≡ passes e
      by_child d child below only = sym (decided seconds sel events c d e child h at below (only_is (children_of c events) d only)) ∙ own_passes

      -- one without an only child isn't joined
      pub no_child : only_of (children_of c events) ≡ None → passes e ≡ false
      no_child none = elim (cases_Bool (is_removed ones c)) [
        | inl gone ↦ let j = joined seconds sel events h c gone in absurd (none-some (id_number (id_of j.child)) (sym none ∙ ap only_of j.only))
        | inr stays ↦ sym own_passes ∙ stays
      ]

      -- nor is one whose child isn't there
      pub lost_child : (d : ℕ) → only_of (children_of c events) ≡ Some d → find_event (any.Commit d) events ≡ None → passes e ≡ false
      lost_child d only lost = elim (cases_Bool (is_removed ones c)) [
        | inl gone ↦
            let j = joined seconds sel events h c gone in
            let same : id_number (id_of j.child) ≡ d = same_Some (id_number (id_of j.child)) d (sym (ap only_of j.only) ∙ only) in
            absurd (none-some j.child (sym lost ∙ ap (λ n. find_event (any.Commit n) events) (sym same) ∙ ap (λ id. find_event id events) (sym j.commit) ∙ j.there))
        | inr stays ↦ sym own_passes ∙ stays
      ]
