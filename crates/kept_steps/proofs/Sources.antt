-- What an event was before a command: itself, if it was there; and what is found after one that joins.
use Rattle.std.proofs.Common.{◌≡◌, ℕ, true, false, List, [], ◌∷◌, ◌++◌, ◌∙◌, ◌⊎◌, inl, inr, map, Option, Some, None, Result, Ok, Err, refl, sym, ap, subst}
use Rattle.std.proofs.lemmas.Bool.{cases_Bool}
use Rattle.std.specs.Prelude.{bytes_eq, is_some, if◌then◌else◌, not, unwrap_or}
use Rattle.plain_model.specs.declared.fault.Fault.{Fault}
use Rattle.plain_model.specs.declared.id.AnyId.{AnyId}
use Rattle.plain_model.specs.Lookups.{id_number, next_number}
use Rattle.plain_model.specs.Paths.{Bytes}
use Rattle.plain_model.specs.Soundness.{has_id}
use Rattle.graft_laws.specs.Unite.{Part, by_age}
use Rattle.graft_laws.proofs.Fresh.{below}
use Rattle.history_machine.specs.Joined.{Grafts, Unites}
use Rattle.history_machine.specs.Lawful.{IsLawful, IsLawfulRepo}
use Rattle.history_machine.specs.Sessions.{Repo, Session, chosen, find_repo, read_repo, with_repo, without_repo}
use Rattle.history_machine.specs.Several.{all_there, as_part, without_repos}
use Rattle.history_machine.proofs.Steps.{found, own_name}
use Rattle.kept_steps.specs.Following.{Joins, LoadedEvent, before_graft, before_unite, comes, event_behind, event_grafted, event_united, source}
use Rattle.kept_steps.specs.Following.Joins.{nothing, takes_in, unites}
use Rattle.kept_steps.specs.Origins.{Origins, origins_after, themselves}
use Rattle.kept_steps.proofs.Events.{event_own}
use Rattle.kept_steps.proofs.LoadLists.{IsFound, found_before, found_before_all, found_holds, found_last, found_new, found_other, one_at, same_name, with_apart}

-- an event by its repository's name
abbrev pub event : Bytes → ℕ → LoadedEvent
event name number = record { repo = name; number = number }

-- ---- what was there is what it was

-- its repository doesn't come
pub comes_not : (s : Session) (how : Joins) (n : Bytes) (r : Repo) → IsFound s.repos n r → comes s how n ≡ false
comes_not s nothing n r here = ap (λ (o : Option Repo). not (is_some o)) here
comes_not s (takes_in name) n r here = refl
comes_not s (unites names) n r here = refl

-- and it is itself
pub source_same : (s : Session) → IsLawful s → (how : Joins) (n : Bytes) (r : Repo) → IsFound s.repos n r → (id : AnyId) → has_id r.history id ≡ true
    → source s how (event n (id_number id)) ≡ event n (id_number id)
source_same s lawful nothing n r here id there = refl
source_same s lawful (unites names) n r here id there = ap (λ (o : Option Repo). before_unite (is_some o) (all_there names s.repos) (event n (id_number id))) here
source_same s lawful (takes_in name) n r here id there = go (chosen s) refl (find_repo name s.repos)
  where
    go : (c : Result Repo Fault) → chosen s ≡ c → (o : Option Repo) → before_graft c o (event n (id_number id)) ≡ event n (id_number id)
    go (Err why) is o = refl
    go (Ok old) is None = refl
    go (Ok old) is (Some part) = elim (cases_Bool (bytes_eq n old.name)) [
      | inl it ↦
          let named = same_name n old.name it in
          let same : r ≡ old = one_at s.repos old.name r old (ap (λ m. find_repo m s.repos) (sym named) ∙ here) (found s old is) in
          let low =
          below old.next old.history (found_holds IsLawfulRepo old.name old s.repos lawful.repos (found s old is)).spent id (subst (λ (q : Repo). has_id q.history id ≡ true) same there) in
          ap (λ b. if b then event_grafted old part (id_number id) else event n (id_number id)) it
          ∙ event_own old.name old.next (as_part part ∷ []) (id_number id) low ∙ ap (λ m. event m (id_number id)) (sym named)
      | inr other ↦ ap (λ b. if b then event_grafted old part (id_number id) else event n (id_number id)) other
    ]

module _ (so_far : Origins) (s : Session) where
  -- where nothing is joined
  pub old_same : (after : Session) (n : Bytes) (r : Repo) → IsFound s.repos n r → (k : ℕ) → origins_after so_far s nothing after (event n k) ≡ so_far (event n k)
  old_same after n r found k = ap (λ (o : Option Repo). if not (is_some o) then themselves after.repos (event n k) else so_far (event n k)) found

  pub new_self : (after : Session) (n : Bytes) (r : Repo) → find_repo n s.repos ≡ None → IsFound after.repos n r → (k : ℕ) → origins_after so_far s nothing after (event n k) ≡ record { came = r; number = k }
  new_self after n r free found k =
      ap (λ (o : Option Repo). if not (is_some o) then themselves after.repos (event n k) else so_far (event n k)) free
      ∙ ap (λ (o : Option Repo). record { came = unwrap_or o (read_repo n []); number = k }) found

  -- where another is taken in
  by_graft : (name : Bytes) (after : Session) (old part : Repo) → chosen s ≡ Ok old → IsFound s.repos name part → (e : LoadedEvent)
      → origins_after so_far s (takes_in name) after e ≡ so_far (if bytes_eq e.repo old.name then event_grafted old part e.number else e)
  by_graft name after old part is_chosen found e = λ i. so_far (before_graft (is_chosen i) (found i) e)

  pub graft_other : (name : Bytes) (after : Session) (old part : Repo) → chosen s ≡ Ok old → IsFound s.repos name part → (n : Bytes) (k : ℕ) → bytes_eq n old.name ≡ false
      → origins_after so_far s (takes_in name) after (event n k) ≡ so_far (event n k)
  graft_other name after old part is_chosen found n k other =
      by_graft name after old part is_chosen found (event n k) ∙ ap (λ b. so_far (if b then event_grafted old part k else event n k)) other

  pub graft_chosen : (name : Bytes) (after : Session) (old part : Repo) → chosen s ≡ Ok old → IsFound s.repos name part → (n : Bytes) (k : ℕ) → bytes_eq n old.name ≡ true
      → origins_after so_far s (takes_in name) after (event n k) ≡ so_far (event_grafted old part k)
  graft_chosen name after old part is_chosen found n k it =
      by_graft name after old part is_chosen found (event n k) ∙ ap (λ b. so_far (if b then event_grafted old part k else event n k)) it

  -- where several become one
  by_unite : (names : List Bytes) (after : Session) (parts : List Repo) → all_there names s.repos ≡ Ok parts → (n : Bytes) (k : ℕ) → find_repo n s.repos ≡ None
      → origins_after so_far s (unites names) after (event n k) ≡ so_far (event_united (by_age (λ (part : Part). part.events) (map as_part parts)) k)
  by_unite names after parts are n k free = λ i. so_far (before_unite (is_some (free i)) (are i) (event n k))

  pub unite_old : (names : List Bytes) (after : Session) (n : Bytes) (r : Repo) (k : ℕ) → IsFound s.repos n r → origins_after so_far s (unites names) after (event n k) ≡ so_far (event n k)
  unite_old names after n r k found = ap (λ (o : Option Repo). so_far (before_unite (is_some o) (all_there names s.repos) (event n k))) found

  -- an event that is there before the command, whatever becomes of the command
  pub there_same : (how : Joins) (after : Session) → IsLawful s → (n : Bytes) (r : Repo) → IsFound s.repos n r → (id : AnyId) → has_id r.history id ≡ true
      → origins_after so_far s how after (event n (id_number id)) ≡ so_far (event n (id_number id))
  there_same how after lawful n r here id there =
      ap (λ b. if b then themselves after.repos (event n (id_number id)) else so_far (source s how (event n (id_number id)))) (comes_not s how n r here)
      ∙ ap so_far (source_same s lawful how n r here id there)

-- each is itself, where it was there at first
pub itself_at : (repos : List Repo) (n : Bytes) (r : Repo) → IsFound repos n r → (k : ℕ) → themselves repos (event n k) ≡ record { came = r; number = k }
itself_at repos n r here k = ap (λ (o : Option Repo). record { came = unwrap_or o (read_repo n []); number = k }) here

-- ---- what is found

module _ (s after : Session) (lawful : IsLawful s) where
  -- another is taken in
  module _ (name : Bytes) (g : Grafts true name s after) where
    pub repos_grafted : after.repos ≡ without_repo name (with_repo g.new s.repos)
    repos_grafted = ap (λ (t : Session). t.repos) g.rest

    pub chosen_here : IsFound s.repos g.old.name g.old
    chosen_here = found s g.old g.is_chosen

    pub part_name : name ≡ g.part.name
    part_name = own_name name s.repos g.part g.is_part

    pub new_here : IsFound (with_repo g.new s.repos) g.new.name g.new
    new_here = found_new g.new g.old s.repos (ap (λ (m : Bytes). find_repo m s.repos) g.own_name ∙ chosen_here)

    pub old_lawful : IsLawfulRepo g.old
    old_lawful = found_holds IsLawfulRepo g.old.name g.old s.repos lawful.repos chosen_here

    -- what is found is the chosen one, changed, or another as it was
    abbrev pub IsGrafted : Bytes → Repo → Type 0
    IsGrafted n r = ((bytes_eq n g.old.name ≡ true) × (r ≡ g.new)) ⊎ ((bytes_eq n g.old.name ≡ false) × IsFound s.repos n r)

    pub found_grafted : (n : Bytes) (r : Repo) → IsFound after.repos n r → IsGrafted n r
    found_grafted n r here =
        let before = found_before n name r (with_repo g.new s.repos) (with_apart g.new s.repos lawful.names.apart) (subst (λ (repos : List Repo). IsFound repos n r) repos_grafted here) in
        elim (cases_Bool (bytes_eq n g.new.name)) [
          | inl it ↦
              inl (sym (ap (bytes_eq n) g.own_name) ∙ it, one_at (with_repo g.new s.repos) n r g.new before (ap (λ (m : Bytes). find_repo m (with_repo g.new s.repos)) (same_name n g.new.name it) ∙ new_here))
          | inr other ↦ inr (sym (ap (bytes_eq n) g.own_name) ∙ other, sym (found_other n g.new s.repos other) ∙ before)
        ]

  -- several become one
  module _ (names : List Bytes) (u : Unites true names s after) where
    pub repos_united : after.repos ≡ without_repos names s.repos ++ u.new ∷ []
    repos_united = ap (λ (t : Session). t.repos) u.rest

    -- what is found is the new one, or another as it was
    abbrev pub IsUnited : Bytes → Repo → Type 0
    IsUnited n r = IsFound s.repos n r ⊎ ((find_repo n s.repos ≡ None) × (r ≡ u.new))

    pub found_united : (n : Bytes) (r : Repo) → IsFound after.repos n r → IsUnited n r
    found_united n r here =
        elim (found_last n u.new r (without_repos names s.repos) (subst (λ (repos : List Repo). IsFound repos n r) repos_united here)) [
          | inl left ↦ inl (found_before_all n r names s lawful left)
          | inr new ↦ inr (ap (λ (m : Bytes). find_repo m s.repos) new.1 ∙ u.is_new, new.2)
        ]

    pub united_event : (so_far : Origins) (n : Bytes) (k : ℕ) → find_repo n s.repos ≡ None
        → origins_after so_far s (unites names) after (event n k) ≡ so_far (event_behind u.base.name (next_number u.base.events) u.others k)
    united_event so_far n k free = by_unite so_far s names after u.parts u.are_parts n k free ∙ ap (λ (sorted : List Part). so_far (event_united sorted k)) u.order
