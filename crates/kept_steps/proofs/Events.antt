-- An event of a joined history is one of those that were joined, with the tree that it had when it came.
use Rattle.std.proofs.Common.{◌≡◌, ℕ, ◌-◌, ◌<◌, ◌≤◌, true, false, List, [], ◌∷◌, ◌∙◌, ◌⊎◌, inl, inr, refl, sym, ap, subst, nat_lt, arith}
use Rattle.std.specs.Prelude.{IsTrue, if◌then◌else◌}
use Rattle.std.specs.List.{AllByRecursion}
use Rattle.std.proofs.lemmas.Bool.Decides.{nat_tests}
use Rattle.plain_model.specs.declared.event.PlainEvent.{PlainEvent}
use Rattle.plain_model.specs.declared.id.AnyId.{AnyId}
use Rattle.plain_model.specs.declared.id.AnyId.TheVariants as any
use Rattle.plain_model.specs.Lookups.{AreIdsBelow, id_number}
use Rattle.plain_model.specs.Paths.{Bytes}
use Rattle.plain_model.specs.Snapshots.{shown_tree}
use Rattle.plain_model.specs.Soundness.{IsCommitOf, has_id}
use Rattle.graft_laws.specs.Joined.{HasTreesOf}
use Rattle.graft_laws.specs.Joining.{new_number, without_passes}
use Rattle.graft_laws.specs.Sources.{HasTreesOfAll, IsFromOne, number_after, number_at, numbered}
use Rattle.graft_laws.specs.Unite.{Part}
use Rattle.graft_laws.proofs.Fresh.{below}
use Rattle.graft_laws.proofs.Passes.{still_there, without_there}
use Rattle.graft_laws.proofs.Sources.{leads_back}
use Rattle.history_laws.proofs.Lists.{all_imply}
use Rattle.kept_steps.specs.Following.{LoadedEvent, event_among, event_behind}
use Rattle.kept_steps.specs.Origins.{KeepsOrigins, Origin, Origins}

-- ---- ids

numbered_twice : (id : AnyId) (n m : ℕ) → numbered (numbered id n) m ≡ numbered id m
numbered_twice (any.Blob b) n m = refl
numbered_twice (any.Commit b) n m = refl
numbered_twice (any.Tag b) n m = refl
numbered_twice (any.Reset b) n m = refl
numbered_twice (any.Pass b) n m = refl

number_of : (id : AnyId) (n : ℕ) → id_number (numbered id n) ≡ n
number_of (any.Blob b) n = refl
number_of (any.Commit b) n = refl
number_of (any.Tag b) n = refl
number_of (any.Reset b) n = refl
number_of (any.Pass b) n = refl

pub own_number : (id : AnyId) → numbered id (id_number id) ≡ id
own_number (any.Blob b) = refl
own_number (any.Commit b) = refl
own_number (any.Tag b) = refl
own_number (any.Reset b) = refl
own_number (any.Pass b) = refl

-- what is a commit under a new number is one
was_commit : (was : AnyId) (n c : ℕ) → numbered was n ≡ any.Commit c → was ≡ any.Commit (id_number was)
was_commit (any.Commit b) n c h = refl
was_commit (any.Blob b) n c h = absurd cc
was_commit (any.Tag b) n c h = absurd cc
was_commit (any.Reset b) n c h = absurd cc
was_commit (any.Pass b) n c h = absurd cc

-- ---- one event

-- an event of a history is of the kind of the one that came, and if it is a commit it has its tree
pub record IsOne (history : List PlainEvent) (id : AnyId) (origin : Origin) : Type 0 where
  pub there : IsTrue (has_id origin.came.history (numbered id origin.number))
  pub tree : (c : ℕ) → id ≡ any.Commit c → shown_tree history c ≡ shown_tree origin.came.history origin.number

pub each_one : (origin : ℕ → Origin) (history : List PlainEvent) → ((id : AnyId) → has_id history id ≡ true → IsOne history id (origin (id_number id))) → KeepsOrigins origin history
each_one origin history h = record {
  events = λ id there. (h id there).there;
  trees = λ c there. (h (any.Commit c) there).tree c refl;
}

pub one_of : (origin : ℕ → Origin) (history : List PlainEvent) → KeepsOrigins origin history → (id : AnyId) → has_id history id ≡ true → IsOne history id (origin (id_number id))
one_of origin history k id there = record {
  there = k.events id there;
  tree = λ c is.
      k.trees c (subst (λ (i : AnyId). has_id history i ≡ true) is there)
      ∙ ap (λ n. shown_tree (origin n).came.history (origin n).number) (sym (ap id_number is));
}

-- in a history that has the same trees
pub one_moved : (old new : List PlainEvent) (id : AnyId) (origin : Origin) → ((c : ℕ) → id ≡ any.Commit c → shown_tree new c ≡ shown_tree old c) → IsOne old id origin → IsOne new id origin
one_moved old new id origin same one = record { there = one.there; tree = λ c is. same c is ∙ one.tree c is }

-- ---- numbers

lt_true : (a b : ℕ) → a < b → nat_lt a b ≡ true
lt_true a b h = grind (arith, nat_tests)

lt_false : (a b : ℕ) → b ≤ a → nat_lt a b ≡ false
lt_false a b h = grind (arith, nat_tests)

-- an event of a part by its new number
event_new : (part : Part) (parts : List Part) (first : ℕ) (was : AnyId) → has_id (without_passes part.events) was ≡ true
    → event_among (part ∷ parts) first (new_number first (without_passes part.events) was) ≡ record { repo = part.name; number = id_number was }
event_new part parts first was there =
    let back = leads_back part.events first was there in
    let n = new_number first (without_passes part.events) was in
    ap (λ b. if b then record { repo = part.name; number = number_at part.events (n - first) } else event_among parts (number_after first part.events) n)
    (lt_true n (number_after first part.events) back.2)
    ∙ ap (λ number. record { repo = part.name; number = number }) back.0

-- and of a later one
event_later : (part : Part) (parts : List Part) (first n : ℕ) → number_after first part.events ≤ n → event_among (part ∷ parts) first n ≡ event_among parts (number_after first part.events) n
event_later part parts first n high =
    ap (λ b. if b then record { repo = part.name; number = number_at part.events (n - first) } else event_among parts (number_after first part.events) n)
    (lt_false n (number_after first part.events) high)

pub event_own : (name : Bytes) (first : ℕ) (parts : List Part) (n : ℕ) → n < first → event_behind name first parts n ≡ record { repo = name; number = n }
event_own name first parts n low = ap (λ b. if b then record { repo = name; number = n } else event_among parts first n) (lt_true n first low)

pub event_of_parts : (name : Bytes) (first : ℕ) (parts : List Part) (n : ℕ) → first ≤ n → event_behind name first parts n ≡ event_among parts first n
event_of_parts name first parts n high = ap (λ b. if b then record { repo = name; number = n } else event_among parts first n) (lt_false n first high)

-- ---- joined histories

module _ (new : List PlainEvent) (so_far : Origins) where
  -- what each event of a repository is
  abbrev pub of_repo : Bytes → ℕ → Origin
  of_repo name number = so_far (record { repo = name; number = number })

  -- the parts are kept so far
  abbrev pub PartKept : Part → Type 0
  PartKept part = KeepsOrigins (of_repo part.name) part.events

  one_from : (part : Part) (first : ℕ) → HasTreesOf part.events first new → PartKept part → (id was : AnyId) → has_id (without_passes part.events) was ≡ true
      → id ≡ numbered was (new_number first (without_passes part.events) was) → IsOne new id (of_repo part.name (id_number was))
  one_from part first trees kept id was there is =
      let n = new_number first (without_passes part.events) was in
      let one = one_of (of_repo part.name) part.events kept was (without_there part.events was there) in
      let origin = of_repo part.name (id_number was) in
      record {
        there = subst (λ (i : AnyId). has_id origin.came.history i ≡ true) (sym (ap (λ (i : AnyId). numbered i origin.number) is ∙ numbered_twice was n origin.number)) one.there;
        tree = λ c commit.
            let was_one = was_commit was n c (sym is ∙ commit) in
            let d = id_number was in
            let now : c ≡ new_number first (without_passes part.events) (any.Commit d) =
            sym (ap id_number commit) ∙ ap id_number is ∙ number_of was n ∙ ap (new_number first (without_passes part.events)) was_one in
            let in_part : IsCommitOf part.events d = subst (λ (i : AnyId). has_id part.events i ≡ true) was_one (without_there part.events was there) in
            ap (shown_tree new) now ∙ (trees d in_part).1 ∙ one.tree d was_one;
      }

  -- an event of parts
  abbrev IsAmong : List Part → ℕ → AnyId → Type 0
  IsAmong parts first id = (first ≤ id_number id) × IsOne new id (so_far (event_among parts first (id_number id)))

  among : (parts : List Part) (first : ℕ) → HasTreesOfAll parts first new → AllByRecursion PartKept parts → (id : AnyId) → IsFromOne parts first id → IsAmong parts first id
  among [] first trees kept id from = absurd from
  among (part ∷ parts) first trees kept id (inl from) =
      let was = from.0 in
      let back = leads_back part.events first was from.1 in
      let n : id_number id ≡ new_number first (without_passes part.events) was = ap id_number from.2 ∙ number_of was (new_number first (without_passes part.events) was) in
      let event : event_among (part ∷ parts) first (id_number id) ≡ record { repo = part.name; number = id_number was } =
      ap (event_among (part ∷ parts) first) n ∙ event_new part parts first was from.1 in
      (omega arith, subst (λ (e : LoadedEvent). IsOne new id (so_far e)) (sym event) (one_from part first trees.0 kept.0 id was from.1 from.2))
  among (part ∷ parts) first trees kept id (inr later) =
      let rest = among parts (number_after first part.events) trees.1 kept.1 id later in
      let high = rest.0 in
      (omega arith, subst (λ (e : LoadedEvent). IsOne new id (so_far e)) (sym (event_later part parts first (id_number id) rest.0)) rest.1)

  -- behind a history
  pub kept_behind : (name : Bytes) (base : List PlainEvent) (first : ℕ) (parts : List Part) → AreIdsBelow first base
      → ((id : AnyId) → has_id new id ≡ true → (has_id base id ≡ true) ⊎ IsFromOne parts first id) → ((c : ℕ) → IsCommitOf base c → shown_tree new c ≡ shown_tree base c)
      → HasTreesOfAll parts first new → KeepsOrigins (of_repo name) base → AllByRecursion PartKept parts → KeepsOrigins (λ number. so_far (event_behind name first parts number)) new
  kept_behind name base first parts low came same trees kept parts_kept = each_one (λ number. so_far (event_behind name first parts number)) new (λ id there. go id (came id there))
    where
      go : (id : AnyId) → (has_id base id ≡ true) ⊎ IsFromOne parts first id → IsOne new id (so_far (event_behind name first parts (id_number id)))
      go id (inl old) =
          subst (λ (e : LoadedEvent). IsOne new id (so_far e)) (sym (event_own name first parts (id_number id) (below first base low id old)))
          (one_moved base new id (of_repo name (id_number id)) (λ c is. same c (subst (λ (i : AnyId). has_id base i ≡ true) is old)) (one_of (of_repo name) base kept id old))
      go id (inr from) =
          let its = among parts first trees parts_kept id from in
          subst (λ (e : LoadedEvent). IsOne new id (so_far e)) (sym (event_of_parts name first parts (id_number id) its.0)) its.1

  -- ---- and forward

  -- each commit of a part is there, by a number that leads back to it
  abbrev pub IsThere : (ℕ → LoadedEvent) → Part → Type 0
  IsThere event part = (c : ℕ) → IsCommitOf part.events c → (now : ℕ) × IsCommitOf new now × (event now ≡ record { repo = part.name; number = c })

  abbrev IsThereAmong : List Part → ℕ → Part → Type 0
  IsThereAmong parts first part = (c : ℕ) → IsCommitOf part.events c → (now : ℕ) × IsCommitOf new now × (first ≤ now) × (event_among parts first now ≡ record { repo = part.name; number = c })

  all_among : (parts : List Part) (first : ℕ) → HasTreesOfAll parts first new → AllByRecursion (IsThereAmong parts first) parts
  all_among [] first trees = tt
  all_among (part ∷ parts) first trees = (own, all_imply (IsThereAmong parts (number_after first part.events)) (IsThereAmong (part ∷ parts) first) later parts (all_among parts (number_after first part.events) trees.1))
    where
      own : IsThereAmong (part ∷ parts) first part
      own c there =
          let kept : has_id (without_passes part.events) (any.Commit c) ≡ true = still_there part.events (any.Commit c) tt ∙ there in
          let back = leads_back part.events first (any.Commit c) kept in
          (new_number first (without_passes part.events) (any.Commit c), (trees.0 c there).0, back.1, event_new part parts first (any.Commit c) kept)

      later : (other : Part) → IsThereAmong parts (number_after first part.events) other → IsThereAmong (part ∷ parts) first other
      later other h c there =
          let its = h c there in
          let high = its.2 in
          (its.0, its.1, omega arith, event_later part parts first its.0 its.2 ∙ its.3)

  pub all_there_behind : (name : Bytes) (first : ℕ) (parts : List Part) → HasTreesOfAll parts first new → AllByRecursion (IsThere (event_behind name first parts)) parts
  all_there_behind name first parts trees = all_imply (IsThereAmong parts first) (IsThere (event_behind name first parts)) go parts (all_among parts first trees)
    where
      go : (part : Part) → IsThereAmong parts first part → IsThere (event_behind name first parts) part
      go part h c there = let its = h c there in (its.0, its.1, event_of_parts name first parts its.0 its.2 ∙ its.3)
