-- What a joined commit is: the only parent of its only child.
use Rattle.std.proofs.Common.{◌≡◌, ℕ, Bool, true, false, cond, List, [], ◌∷◌, map, filter, refl, sym, ap, ◌∙◌, inl, inr, eqb-true, true≢false, Option, Some}
use Rattle.std.specs.Prelude.{◌||◌, ◌&&◌, ◌==◌}
use Rattle.std.specs.List.{AllByRecursion, list_any}
use Rattle.std.proofs.lemmas.Bool.{or_cases, and_parts}
use Rattle.plain_model.specs.declared.id.AnyId.{AnyId}
use Rattle.plain_model.specs.declared.id.AnyId.TheVariants as any
use Rattle.plain_model.specs.declared.event.PlainEvent.{PlainEvent}
use Rattle.plain_model.specs.declared.event.PlainEvent.TheVariants.{Blob, Commit, Tag, Reset, Pass}
use Rattle.plain_model.specs.Histories.{Node, nodes}
use Rattle.plain_model.specs.Lookups.{children_of, event_parents, find_event, id_number, id_of, is_listed, same_id}
use Rattle.plain_model.specs.Soundness.{IsSound}
use Rattle.history_laws.specs.Finding.{is_only}
use Rattle.history_laws.proofs.Ids.{each_found, same_id_true}
use Rattle.history_laws.proofs.SoundOnce.{sound_once}
use Rattle.squash_laws.specs.Removed.{is_removed}
use Rattle.coalesce_laws.specs.Coalesce.{is_joined_to, joined_ones}
use Rattle.coalesce_laws.specs.Remaining.{IsJoinedTo}
use Rattle.coalesce_laws.proofs.Single.{AreSingle}
use Rattle.edit_laws.proofs.Children.{IsChild, all_children}

-- one of a list that passes a test, with what is true of all
one_passing : (P : PlainEvent → Type 0) (test : PlainEvent → Bool) (es : List PlainEvent) → AllByRecursion P es → list_any test es ≡ true → (e : PlainEvent) × (test e ≡ true) × P e
one_passing P test [] a h = absurd (true≢false (sym h))
one_passing P test (e ∷ es) a h = elim (or_cases (test e) (list_any test es) h) [ inl it ↦ (e, it, a.0) | inr later ↦ one_passing P test es a.1 later ]

-- one of a filtered list with an id
one_listed : (P : PlainEvent → Type 0) (test : PlainEvent → Bool) (id : AnyId) (es : List PlainEvent) → AllByRecursion P es → is_listed id (map id_of (filter test es)) ≡ true → (e : PlainEvent) × (id ≡ id_of e) × (test e ≡ true) × P e
one_listed P test id [] a h = absurd (true≢false (sym h))
one_listed P test id (e ∷ es) a h = go (test e) refl h (λ x. one_listed P test id es a.1 x)
  where
    go : (b : Bool) → test e ≡ b → is_listed id (map id_of (cond b (e ∷ filter test es) (filter test es))) ≡ true → (is_listed id (map id_of (filter test es)) ≡ true → (e : PlainEvent) × (id ≡ id_of e) × (test e ≡ true) × P e) → (e : PlainEvent) × (id ≡ id_of e) × (test e ≡ true) × P e
    go true t x f = elim (or_cases (same_id id (id_of e)) (is_listed id (map id_of (filter test es))) x) [ inl it ↦ (e, same_id_true id (id_of e) it, t, a.0) | inr later ↦ f later ]
    go false t x f = f x

only_one : (c : ℕ) (xs : List ℕ) → is_only c xs ≡ true → xs ≡ c ∷ []
only_one c [] h = absurd (true≢false (sym h))
only_one c (d ∷ []) h = ap (λ n. n ∷ []) (eqb-true d c h)
only_one c (d ∷ e ∷ xs) h = absurd (true≢false (sym h))

module _ (seconds : ℕ) (sel : List AnyId) (events : List PlainEvent) (h : IsSound events) where
  abbrev set : List AnyId
  set = joined_ones seconds sel events

  found : AllByRecursion (λ e. find_event (id_of e) events ≡ Some e) events
  found = each_found events (sound_once events h).ids

  -- what a joined commit is: the only parent of its only child
  pub record IsJoined (c : ℕ) : Type 0 where
    pub child : PlainEvent
    pub there : find_event (id_of child) events ≡ Some child
    pub parent : event_parents child ≡ c ∷ []
    pub only : children_of c events ≡ id_number (id_of child) ∷ []
    pub commit : id_of child ≡ any.Commit (id_number (id_of child))
    selected : is_listed (any.Commit c) sel ≡ true
    child_selected : is_listed (any.Commit (id_number (id_of child))) sel ≡ true
    pub own : PlainEvent
    pub id : any.Commit c ≡ id_of own
    pub here : find_event (id_of own) events ≡ Some own
    pub joins : is_joined_to seconds sel events own child ≡ true

  joined_to : (e d : PlainEvent) (c : ℕ) → any.Commit c ≡ id_of e → is_joined_to seconds sel events e d ≡ true →
      find_event (id_of e) events ≡ Some e → find_event (id_of d) events ≡ Some d → IsJoined c
  joined_to (Commit i mark branch author committer encoding comment parents ops aliases) (Commit d mark2 branch2 author2 committer2 encoding2 comment2 parents2 ops2 aliases2) c is j g f =
      let same : c ≡ i = ap id_number is in
      let one = front _ _ j in
      let two = front _ _ one in
      let three = front _ _ two in
      let children = rear _ _ three in
      let parent = rear _ _ (front _ _ three) in
      record {
        child = Commit d mark2 branch2 author2 committer2 encoding2 comment2 parents2 ops2 aliases2;
        there = f;
        parent = only_one i parents2 parent ∙ ap (λ n. n ∷ []) (sym same);
        only = ap (λ n. children_of n events) same ∙ only_one d (children_of i events) children;
        commit = refl;
        selected = ap (λ n. is_listed (any.Commit n) sel) same ∙ (and_parts _ _ (front _ _ (front _ _ three))).0;
        child_selected = (and_parts _ _ (front _ _ (front _ _ three))).1;
        own = Commit i mark branch author committer encoding comment parents ops aliases;
        id = is;
        here = g;
        joins = j;
      }
    where
      front : (a b : Bool) → a && b ≡ true → a ≡ true
      front a b h = (and_parts a b h).0

      rear : (a b : Bool) → a && b ≡ true → b ≡ true
      rear a b h = (and_parts a b h).1
  joined_to _ _ c is j g f = absurd (true≢false (sym j))

  pub joined : (c : ℕ) → is_removed set c ≡ true → IsJoined c
  joined c r =
      let one = one_listed (λ e. find_event (id_of e) events ≡ Some e) (λ e. list_any (is_joined_to seconds sel events e) events) (any.Commit c) events found r in
      let other = one_passing (λ e. find_event (id_of e) events ≡ Some e) (is_joined_to seconds sel events one.0) events found one.2 in
      joined_to one.0 other.0 c one.1 other.1 one.3 other.2

  -- where a commit is found
  abbrev IsAtPlace : Node → Type 0
  IsAtPlace n = (e : PlainEvent) × (find_event (any.Commit n.id) events ≡ Some e) × (event_parents e ≡ n.parents)

  at_place : (es : List PlainEvent) → AllByRecursion (λ e. find_event (id_of e) events ≡ Some e) es → AllByRecursion IsAtPlace (nodes es)
  at_place [] a = tt
  at_place (Commit id mark branch author committer encoding comment parents ops aliases ∷ es) a = ((Commit id mark branch author committer encoding comment parents ops aliases, a.0, refl), at_place es a.1)
  at_place (Blob id mark bytes ∷ es) a = at_place es a.1
  at_place (Tag id name target tagger comment mark ∷ es) a = at_place es a.1
  at_place (Reset id branch target ∷ es) a = at_place es a.1
  at_place (Pass id line ∷ es) a = at_place es a.1

  same_one : (a b : PlainEvent) → ◌≡◌ {A = Option PlainEvent} (Some a) (Some b) → a ≡ b
  same_one a b h = cc

  -- a commit with a joined parent has no other
  single : (n : Node) → IsChild events n → IsAtPlace n → AreSingle (is_removed set) n.parents
  single n m at p there gone =
      let j = joined p gone in
      let its : list_any (λ k. k == n.id) (id_number (id_of j.child) ∷ []) ≡ true = ap (list_any (λ k. k == n.id)) (sym j.only) ∙ m p there in
      let is : id_number (id_of j.child) ≡ n.id = eqb-true (id_number (id_of j.child)) n.id (one (id_number (id_of j.child) == n.id) its) in
      let found : find_event (any.Commit n.id) events ≡ Some j.child = ap (λ k. find_event (any.Commit k) events) (sym is) ∙ ap (λ i. find_event i events) (sym j.commit) ∙ j.there in
      sym at.2 ∙ ap event_parents (same_one at.0 j.child (sym at.1 ∙ found)) ∙ j.parent
    where
      one : (b : Bool) → b || false ≡ true → b ≡ true
      one true h = refl
      one false h = absurd (true≢false (sym h))

  singles : (ns : List Node) → AllByRecursion (IsChild events) ns → AllByRecursion IsAtPlace ns → AllByRecursion (λ (n : Node). AreSingle (is_removed set) n.parents) ns
  singles [] m a = tt
  singles (n ∷ ns) m a = (single n m.0 a.0, singles ns m.1 a.1)

  pub all_single : AllByRecursion (λ (n : Node). AreSingle (is_removed set) n.parents) (nodes events)
  all_single = singles (nodes events) (all_children events) (at_place events found)

  pub with_child : (c : ℕ) → is_removed set c ≡ true → IsJoinedTo sel events c
  with_child c r = let j = joined c r in (id_number (id_of j.child), j.selected, j.child_selected, j.only)
