-- One command: where the commits are after it that a repository had when it came.
use Rattle.std.proofs.Common.{◌≡◌, ℕ, Bool, true, false, List, [], ◌∷◌, ◌++◌, ◌∙◌, inl, inr, map, Option, Some, None, Result, refl, sym, ap, subst, option_map}
use Rattle.std.proofs.lemmas.Bool.{cases_Bool}
use Rattle.std.specs.Prelude.{bytes_eq, filter, flat_map, is_some, if◌then◌else◌, option_to_list}
use Rattle.std.specs.List.{AllByRecursion}
use Rattle.plain_model.specs.declared.fault.Fault.{Fault}
use Rattle.plain_model.specs.declared.id.AnyId.TheVariants as any
use Rattle.plain_model.specs.Lookups.{next_number}
use Rattle.plain_model.specs.Paths.{Bytes}
use Rattle.plain_model.specs.Soundness.{IsCommitOf}
use Rattle.graft_laws.specs.Unite.{Part, age, by_age, is_before, put_by_age}
use Rattle.graft_laws.proofs.Fresh.{below}
use Rattle.history_laws.proofs.Ids.{below_next}
use Rattle.history_laws.proofs.Lists.{all_imply}
use Rattle.history_machine.specs.Joined.{Grafts, Unites}
use Rattle.history_machine.specs.Lawful.{IsLawful}
use Rattle.history_machine.specs.Sessions.{Repo, Session, chosen, find_repo, with_repo}
use Rattle.history_machine.specs.Several.{as_part, joined_name, without_repos}
use Rattle.history_machine.proofs.Steps.{own_name}
use Rattle.kept_steps.specs.Changing.{Alone, Changes, RemainsWhole}
use Rattle.kept_steps.specs.Changing.Alone.{each_left, none_changes, one_comes, one_goes}
use Rattle.kept_steps.specs.Following.{Joins, LoadedEvent, arrived, event_behind, holder, joined_to, name_of}
use Rattle.kept_steps.specs.Following.Joins.{nothing, takes_in, unites}
use Rattle.kept_steps.specs.Origins.{Held, Origin, Origins, held_after, origins_after, own, themselves}
use Rattle.kept_steps.proofs.Events.{IsThere, all_there_behind, event_own}
use Rattle.kept_steps.proofs.Left.{arrive, arriving, whole_same}
use Rattle.kept_steps.proofs.LoadLists.{IsApart, IsFound, each_found, found_before, found_before_all, found_each, found_last, found_other, found_still, is_part, last_found, none_comes_by, none_first, none_kept, not_both, one_at, other_way, own_bytes, same_name}
use Rattle.kept_steps.proofs.Sources.{chosen_here, event, found_grafted, found_united, graft_chosen, itself_at, new_here, new_self, old_same, part_name, repos_grafted, repos_united, there_same, unite_old, united_event}

-- each commit that a repository had when it came is one of the loaded one that has its events
pub record IsHeldIn (origins_of : Origins) (repos : List Repo) (one : Held) : Type 0 where
  pub repo : Repo
  pub found : IsFound repos one.now repo
  pub commits : (c : ℕ) → IsCommitOf one.came.history c → (now : ℕ) × IsCommitOf repo.history now × (origins_of (event one.now now) ≡ record { came = one.came; number = c })

unmapped : (P : Part → Type 0) (repos : List Repo) → AllByRecursion P (map as_part repos) → AllByRecursion (λ r. P (as_part r)) repos
unmapped P [] h = tt
unmapped P (r ∷ repos) h = (h.0, unmapped P repos h.1)

-- what holds of all in another order
unput : (P : Part → Type 0) (x : Part) (ys : List Part) → AllByRecursion P (put_by_age (λ (part : Part). part.events) x ys) → P x × AllByRecursion P ys
unput P x [] h = (h.0, tt)
unput P x (y ∷ ys) h = go (is_before (age y.events) (age x.events)) h (unput P x ys)
  where
    go : (b : Bool) → AllByRecursion P (if b then y ∷ put_by_age (λ (part : Part). part.events) x ys else x ∷ y ∷ ys)
        → (AllByRecursion P (put_by_age (λ (part : Part). part.events) x ys) → P x × AllByRecursion P ys) → P x × AllByRecursion P (y ∷ ys)
    go true h rest = let its = rest h.1 in (its.0, (h.0, its.1))
    go false h rest = (h.0, h.1)

unsorted : (P : Part → Type 0) (parts : List Part) → AllByRecursion P (by_age (λ (part : Part). part.events) parts) → AllByRecursion P parts
unsorted P [] h = tt
unsorted P (x ∷ parts) h = let its = unput P x (by_age (λ (part : Part). part.events) parts) h in (its.0, unsorted P parts its.1)

whole_name : (old new : Repo) → RemainsWhole old new → new.name ≡ old.name
whole_name old new k = k.rest.name

module _ (so_far : Origins) (s after : Session) (lawful : IsLawful s) where
  -- an event so far, and after the command
  abbrev was : Bytes → ℕ → Origin
  was n k = so_far (event n k)

  abbrev now : Joins → Bytes → ℕ → Origin
  now how n k = origins_after so_far s how after (event n k)

  -- ---- where repositories are

  abbrev IsHeld : Held → Type 0
  IsHeld one = IsHeldIn so_far s.repos one

  abbrev IsStillHeld : Joins → List Repo → Held → Type 0
  IsStillHeld how repos one = IsHeldIn (origins_after so_far s how after) repos one

  -- it is still loaded, or it is gone
  followed : (how : Joins) (Holds : Held → Type 0) (one : Held) → ((r : Repo) → IsFound after.repos one.now r → Holds one)
      → (find_repo one.now after.repos ≡ None → AllByRecursion Holds (option_to_list (option_map (λ name. record one { now = name }) (joined_to s how))))
      → AllByRecursion Holds (option_to_list (option_map (λ name. record one { now = name }) (holder s how after one.now)))
  followed how Holds one here gone = go (find_repo one.now after.repos) refl
    where
      go : (o : Option Repo) → find_repo one.now after.repos ≡ o
          → AllByRecursion Holds (option_to_list (option_map (λ name. record one { now = name }) (if is_some o then Some one.now else joined_to s how)))
      go (Some r) is = (here r is, tt)
      go None is = gone is

  all_followed : (how : Joins) (Holds : Held → Type 0) (held : List Held) → AllByRecursion IsHeld held
      → ((one : Held) → IsHeld one → AllByRecursion Holds (option_to_list (option_map (λ name. record one { now = name }) (holder s how after one.now))))
      → AllByRecursion Holds (own (arrived s how after)) → AllByRecursion Holds (held_after held s how after)
  all_followed how Holds [] h each come = come
  all_followed how Holds (one ∷ held) h each come = go (holder s how after one.now) (each one h.0) (all_followed how Holds held h.1 each come)
    where
      go : (o : Option Bytes) → AllByRecursion Holds (option_to_list (option_map (λ name. record one { now = name }) o)) → AllByRecursion Holds (held_after held s how after)
          → AllByRecursion Holds ((option_to_list (option_map (λ name. record one { now = name }) o) ++ flat_map (λ other. option_to_list (option_map (λ name. record other { now = name }) (holder s how after other.now))) held) ++ own (arrived s how after))
      go None first rest = rest
      go (Some name) first rest = (first.0, rest)

  -- ---- nothing is joined

  alone_left : Alone RemainsWhole s.repos after.repos → (n : Bytes) (old r : Repo) → IsFound s.repos n old → IsFound after.repos n r → RemainsWhole old r
  alone_left (one_comes new free is) n old r was_here here =
      elim (found_last n new r s.repos (subst (λ (repos : List Repo). IsFound repos n r) is here)) [
        | inl still ↦ subst (RemainsWhole old) (one_at s.repos n old r was_here still) (whole_same old)
        | inr come ↦ absurd (not_both s.repos n old was_here come.0)
      ]
  alone_left (one_goes name is) n old r was_here here =
      let still = found_before n name r s.repos lawful.names.apart (subst (λ (repos : List Repo). IsFound repos n r) is here) in
      subst (RemainsWhole old) (one_at s.repos n old r was_here still) (whole_same old)
  alone_left (each_left each) n old r was_here here =
      let from = found_each RemainsWhole whole_name n r s.repos after.repos each here in
      subst (λ (q : Repo). RemainsWhole q r) (one_at s.repos n from.0 old from.1 was_here) from.2
  alone_left (none_changes is) n old r was_here here =
      subst (RemainsWhole old) (one_at s.repos n old r was_here (subst (λ (repos : List Repo). IsFound repos n r) is here)) (whole_same old)

  alone_held : Alone RemainsWhole s.repos after.repos → (held : List Held) → AllByRecursion IsHeld held → AllByRecursion (IsStillHeld nothing after.repos) (held_after held s nothing after)
  alone_held change held h =
      all_followed nothing (IsStillHeld nothing after.repos) held h
      (λ one w. followed nothing (IsStillHeld nothing after.repos) one (still one w) (λ gone. tt))
      (subst (λ (come : List Repo). AllByRecursion (IsStillHeld nothing after.repos) (own come)) (sym (arrive RemainsWhole whole_name s.repos after.repos change)) (come change))
    where
      still : (one : Held) → IsHeld one → (r : Repo) → IsFound after.repos one.now r → IsStillHeld nothing after.repos one
      still one w r here =
          let left = alone_left change one.now w.repo r w.found here in
          record {
            repo = r;
            found = here;
            commits = λ c there. let its = w.commits c there in (its.0, left.commits its.0 its.1, old_same so_far s after one.now w.repo w.found its.0 ∙ its.2);
          }

      come : (change : Alone RemainsWhole s.repos after.repos) → AllByRecursion (IsStillHeld nothing after.repos) (own (arriving RemainsWhole whole_name s.repos after.repos change))
      come (one_comes new free is) =
          let here = subst (λ (repos : List Repo). IsFound repos new.name new) (sym is) (last_found new s.repos free) in
          (record { repo = new; found = here; commits = λ c there. (c, there, new_self so_far s after new.name new free here c) }, tt)
      come (one_goes name is) = tt
      come (each_left each) = tt
      come (none_changes is) = tt

  -- none comes where something is joined
  none_arrive : (Holds : Held → Type 0) → AllByRecursion Holds (own (filter (λ (repo : Repo). false) after.repos))
  none_arrive Holds = subst (λ (come : List Repo). AllByRecursion Holds (own come)) (sym (none_kept after.repos)) tt

  -- ---- another is taken in

  module _ (name : Bytes) (g : Grafts true name s after) where
    abbrev IsHeldThen : Held → Type 0
    IsHeldThen one = IsStillHeld (takes_in name) after.repos one

    in_chosen : (n : Bytes) (r : Repo) → IsFound s.repos n r → bytes_eq n g.old.name ≡ true → r ≡ g.old
    in_chosen n r here it = one_at s.repos g.old.name r g.old (ap (λ (m : Bytes). find_repo m s.repos) (sym (same_name n g.old.name it)) ∙ here) (chosen_here s after lawful name g)

    graft_still : (one : Held) → IsHeld one → (r : Repo) → IsFound after.repos one.now r → IsHeldThen one
    graft_still one w r here = record { repo = r; found = here; commits = commits }
      where
        there_still : (c : ℕ) → IsCommitOf w.repo.history c → IsCommitOf r.history c
        there_still c there = elim (found_grafted s after lawful name g one.now r here) [
          | inl new ↦
              subst (λ (q : Repo). IsCommitOf q.history c) (sym new.1)
              (g.base.commits c (subst (λ (q : Repo). IsCommitOf q.history c) (in_chosen one.now w.repo w.found new.0) there))
          | inr other ↦ subst (λ (q : Repo). IsCommitOf q.history c) (one_at s.repos one.now w.repo r w.found other.1) there
        ]

        commits : (c : ℕ) → IsCommitOf one.came.history c
            → (k : ℕ) × IsCommitOf r.history k × (now (takes_in name) one.now k ≡ record { came = one.came; number = c })
        commits c there =
            let its = w.commits c there in
            (its.0, there_still its.0 its.1, there_same so_far s (takes_in name) after lawful one.now w.repo w.found (any.Commit its.0) its.1 ∙ its.2)

    -- what is found with the chosen one changed is found without the other, unless it is that
    in_grafted : (n : Bytes) (r : Repo) → bytes_eq n name ≡ false → IsFound (with_repo g.new s.repos) n r → IsFound after.repos n r
    in_grafted n r other here = subst (λ (repos : List Repo). IsFound repos n r) (sym (repos_grafted s after lawful name g)) (found_still n name r (with_repo g.new s.repos) other here)

    -- what is gone is the one that was taken in
    gone_is_part : (n : Bytes) (r : Repo) → IsFound s.repos n r → find_repo n after.repos ≡ None → bytes_eq n name ≡ true
    gone_is_part n r here gone = elim (cases_Bool (bytes_eq n name)) [
      | inl it ↦ it
      | inr other ↦
          elim (cases_Bool (bytes_eq n g.new.name)) [
            | inl new ↦ absurd (not_both after.repos n g.new (in_grafted n g.new other (ap (λ (m : Bytes). find_repo m (with_repo g.new s.repos)) (same_name n g.new.name new) ∙ new_here s after lawful name g)) gone)
            | inr old ↦ absurd (not_both after.repos n r (in_grafted n r other (found_other n g.new s.repos old ∙ here)) gone)
          ]
    ]

    graft_taken : (one : Held) → IsHeld one → find_repo one.now after.repos ≡ None → IsHeldThen (record one { now = g.old.name })
    graft_taken one w gone = record { repo = g.new; found = here; commits = commits }
      where
        here : IsFound after.repos g.old.name g.new
        here =
            in_grafted g.old.name g.new (other_way name g.old.name g.another)
            (ap (λ (m : Bytes). find_repo m (with_repo g.new s.repos)) (sym g.own_name) ∙ new_here s after lawful name g)

        is_name : one.now ≡ name
        is_name = same_name one.now name (gone_is_part one.now w.repo w.found gone)

        is_part_of : w.repo ≡ g.part
        is_part_of = one_at s.repos name w.repo g.part (ap (λ (m : Bytes). find_repo m s.repos) (sym is_name) ∙ w.found) g.is_part

        commits : (c : ℕ) → IsCommitOf one.came.history c
            → (k : ℕ) × IsCommitOf g.new.history k × (now (takes_in name) g.old.name k ≡ record { came = one.came; number = c })
        commits c there =
            let its = w.commits c there in
            let new = (all_there_behind g.new.history so_far g.old.name g.old.next (as_part g.part ∷ []) (g.pruned refl, tt)).0 its.0 (subst (λ (q : Repo). IsCommitOf q.history its.0) is_part_of its.1) in (
              new.0,
              new.1,
              graft_chosen so_far s name after g.old g.part g.is_chosen g.is_part g.old.name new.0 (own_bytes g.old.name g.old.name refl) ∙ ap so_far new.2
                  ∙ ap (λ m. was m its.0) (sym (is_name ∙ part_name s after lawful name g)) ∙ its.2,
            )

    graft_held : (held : List Held) → AllByRecursion IsHeld held → AllByRecursion IsHeldThen (held_after held s (takes_in name) after)
    graft_held held h = all_followed (takes_in name) IsHeldThen held h (λ one w. followed (takes_in name) IsHeldThen one (graft_still one w) (gone one w)) (none_arrive IsHeldThen)
      where
        gone : (one : Held) → IsHeld one → find_repo one.now after.repos ≡ None → AllByRecursion IsHeldThen (option_to_list (option_map (λ n. record one { now = n }) (name_of (chosen s))))
        gone one w none =
            subst (λ (c : Result Repo Fault). AllByRecursion IsHeldThen (option_to_list (option_map (λ n. record one { now = n }) (name_of c)))) (sym g.is_chosen) (graft_taken one w none, tt)

  -- ---- several become one

  module _ (names : List Bytes) (u : Unites true names s after) where
    abbrev IsHeldUnited : Held → Type 0
    IsHeldUnited one = IsStillHeld (unites names) after.repos one

    unite_still : (one : Held) → IsHeld one → (r : Repo) → IsFound after.repos one.now r → IsHeldUnited one
    unite_still one w r here = record { repo = r; found = here; commits = commits }
      where
        same : w.repo ≡ r
        same = elim (found_united s after lawful names u one.now r here) [
          | inl old ↦ one_at s.repos one.now w.repo r w.found old
          | inr new ↦ absurd (not_both s.repos one.now w.repo w.found new.0)
        ]

        commits : (c : ℕ) → IsCommitOf one.came.history c
            → (k : ℕ) × IsCommitOf r.history k × (now (unites names) one.now k ≡ record { came = one.came; number = c })
        commits c there =
            let its = w.commits c there in
            (its.0, subst (λ (q : Repo). IsCommitOf q.history its.0) same its.1, unite_old so_far s names after one.now w.repo its.0 w.found ∙ its.2)

    abbrev united : ℕ → LoadedEvent
    united k = event_behind u.base.name (next_number u.base.events) u.others k

    -- each commit of each part is there
    abbrev IsUnitedOf : Part → Type 0
    IsUnitedOf part = IsThere u.new.history so_far united part

    base_there : IsUnitedOf u.base
    base_there c there = (
      c,
      (u.kept c there).there,
      event_own u.base.name (next_number u.base.events) u.others c (below (next_number u.base.events) u.base.events (below_next u.base.events) (any.Commit c) there),
    )

    parts_there : AllByRecursion (λ (r : Repo). IsUnitedOf (as_part r)) u.parts
    parts_there =
        unmapped IsUnitedOf u.parts
        (unsorted IsUnitedOf (map as_part u.parts)
        (subst (AllByRecursion IsUnitedOf) (sym u.order) (base_there, all_there_behind u.new.history so_far u.base.name (next_number u.base.events) u.others (u.all_pruned refl))))

    unite_taken : (one : Held) → IsHeld one → find_repo one.now after.repos ≡ None → IsHeldUnited (record one { now = joined_name names })
    unite_taken one w gone = record { repo = u.new; found = here; commits = commits }
      where
        rest : List Repo
        rest = without_repos names s.repos

        free : find_repo (joined_name names) s.repos ≡ None
        free = ap (λ (m : Bytes). find_repo m s.repos) (sym u.name) ∙ u.is_new

        free_in_rest : (o : Option Repo) → find_repo u.new.name rest ≡ o → o ≡ None
        free_in_rest None is = refl
        free_in_rest (Some r) is = absurd (not_both s.repos u.new.name r (found_before_all u.new.name r names s lawful is) u.is_new)

        here : IsFound after.repos (joined_name names) u.new
        here =
            subst (λ (m : Bytes). IsFound after.repos m u.new) u.name
            (subst (λ (repos : List Repo). IsFound repos u.new.name u.new) (sym (repos_united s after lawful names u)) (last_found u.new rest (free_in_rest (find_repo u.new.name rest) refl)))

        its_commits : IsUnitedOf (as_part w.repo)
        its_commits =
            is_part (λ (r : Repo). IsUnitedOf (as_part r)) one.now w.repo s.repos w.found names u.parts s.repos u.are_parts parts_there w.found
            (none_first one.now u.new rest (subst (λ (repos : List Repo). find_repo one.now repos ≡ None) (repos_united s after lawful names u) gone))

        commits : (c : ℕ) → IsCommitOf one.came.history c
            → (k : ℕ) × IsCommitOf u.new.history k × (now (unites names) (joined_name names) k ≡ record { came = one.came; number = c })
        commits c there =
            let its = w.commits c there in
            let new = its_commits its.0 its.1 in (
              new.0,
              new.1,
              united_event s after lawful names u so_far (joined_name names) new.0 free ∙ ap so_far new.2 ∙ ap (λ m. was m its.0) (sym (own_name one.now s.repos w.repo w.found)) ∙ its.2,
            )

    unite_held : (held : List Held) → AllByRecursion IsHeld held → AllByRecursion IsHeldUnited (held_after held s (unites names) after)
    unite_held held h =
        all_followed (unites names) IsHeldUnited held h (λ one w. followed (unites names) IsHeldUnited one (unite_still one w) (λ gone. (unite_taken one w gone, tt))) (none_arrive IsHeldUnited)

  -- ---- a command that is done, and one that is refused

  pub held_then : (how : Joins) → Changes RemainsWhole s how after → (held : List Held) → AllByRecursion IsHeld held → AllByRecursion (IsStillHeld how after.repos) (held_after held s how after)
  held_then nothing change held h = alone_held change held h
  held_then (takes_in name) g held h = graft_held name g held h
  held_then (unites names) u held h = unite_held names u held h

-- nothing comes by a command that is refused
none_refused : (s : Session) (how : Joins) → arrived s how s ≡ []
none_refused s nothing = none_comes_by s.repos
none_refused s (takes_in name) = none_kept s.repos
none_refused s (unites names) = none_kept s.repos

pub held_refused : (so_far : Origins) (s : Session) → IsLawful s → (how : Joins) (held : List Held) → AllByRecursion (IsHeldIn so_far s.repos) held
    → AllByRecursion (IsHeldIn (origins_after so_far s how s) s.repos) (held_after held s how s)
held_refused so_far s lawful how held h =
    all_followed so_far s s lawful how (IsHeldIn (origins_after so_far s how s) s.repos) held h
    (λ one w. followed so_far s s lawful how (IsHeldIn (origins_after so_far s how s) s.repos) one (still one w) (λ gone. absurd (not_both s.repos one.now w.repo w.found gone)))
    (subst (λ (come : List Repo). AllByRecursion (IsHeldIn (origins_after so_far s how s) s.repos) (own come)) (sym (none_refused s how)) tt)
  where
    still : (one : Held) → IsHeldIn so_far s.repos one → (r : Repo) → IsFound s.repos one.now r → IsHeldIn (origins_after so_far s how s) s.repos one
    still one w r here = record {
      repo = w.repo;
      found = w.found;
      commits = λ c there.
          let its = w.commits c there in
          (its.0, its.1, there_same so_far s how s lawful one.now w.repo w.found (any.Commit its.0) its.1 ∙ its.2);
    }

-- ---- what is loaded at first

all_own : (P : Held → Type 0) (repos : List Repo) → AllByRecursion (λ r. P (record { came = r; now = r.name })) repos → AllByRecursion P (own repos)
all_own P [] h = tt
all_own P (r ∷ repos) h = (h.0, all_own P repos h.1)

pub itself_whole : (repos : List Repo) → IsApart repos → AllByRecursion (IsHeldIn (themselves repos) repos) (own repos)
itself_whole repos apart =
    all_own (IsHeldIn (themselves repos) repos) repos
    (all_imply (λ r. IsFound repos r.name r) (λ r. IsHeldIn (themselves repos) repos (record { came = r; now = r.name }))
    (λ r here. record { repo = r; found = here; commits = λ c there. (c, there, itself_at repos r.name r here c) }) repos (each_found repos apart))
