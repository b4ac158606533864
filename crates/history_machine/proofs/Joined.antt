-- What commands on several repositories leave, from what is made of the histories.
use Rattle.std.proofs.Common.{◌≡◌, ◌∙◌, ℕ, ◌≤◌, Bool, true, false, List, [], ◌∷◌, ◌++◌, length, map, Some, None, Result, Ok, Err, refl, sym, ap, subst, arith, ◌⊎◌}
use Rattle.std.specs.List.{AllByRecursion}
use Rattle.std.specs.Prelude.{if◌then◌else◌}
use Rattle.plain_model.specs.Lookups.{next_number}
use Rattle.plain_model.specs.declared.id.AnyId.{AnyId}
use Rattle.plain_model.specs.Soundness.{IsCommitOf, has_id}
use Rattle.plain_model.specs.Paths.{Bytes}
use Rattle.plain_model.specs.declared.event.PlainEvent.{PlainEvent}
use Rattle.plain_model.specs.declared.fault.Fault.{Fault}
use Rattle.divide_laws.specs.Divide.{divide_of}
use Rattle.divide_laws.specs.declared.halves.Halves.{Halves}
use Rattle.edit_laws.specs.Editing.{Remade}
use Rattle.event_sets.specs.Sets.{Ids}
use Rattle.graft_laws.specs.Joined.{HasTreesOf, IsPart, StaysIn}
use Rattle.graft_laws.specs.Sources.{HasTreesOfAll, IsFromOne}
use Rattle.graft_laws.specs.Unite.{Part, age, by_age, is_before, put_by_age, unite_of, with_parts}
use Rattle.script_lines.specs.Answering.{◌>>=◌}
use Rattle.history_machine.specs.Joined.{Unites}
use Rattle.history_machine.specs.Lawful.{IsLawful, IsLawfulRepo}
use Rattle.history_machine.specs.Machine.{Effect}
use Rattle.history_machine.specs.Sessions.{Repo, Session, chosen, edited, find_repo, read_repo, room, unused, with_remade, with_repo, without_repo}
use Rattle.history_machine.specs.Several.{after_dividing, after_joining, after_uniting, all_there, as_part, early_name, halves_of, joined_name, late_name, other_than, united_of, united_repo, without_repos}
use Rattle.history_machine.specs.Steps.{changes, quiet}
use Rattle.history_machine.proofs.JoinedNames.{is_new_name}
use Rattle.history_machine.proofs.Lawful.{has_room, is_unused}
use Rattle.history_machine.proofs.Several.{is_other, parts_lawful}

-- a change that is done
pub changed_to : (r : Result Session Fault) (t : Effect Session) → changes r ≡ Ok t → r ≡ Ok t.session
changed_to (Ok s) t h =
    let is : quiet s ≡ t = cc in
    ap (λ (u : Effect Session). ok u.session) is
  where
    ok : Session → Result Session Fault
    ok s = Ok s
changed_to (Err why) t h = absurd cc

-- what is bound is there
both : {A B : Type 0} (r : Result A Fault) (f : A → Result B Fault) (y : B) → (r >>= f) ≡ Ok y → (x : A) × (r ≡ Ok x) × (f x ≡ Ok y)
both (Ok x) f y h = (x, refl, h)
both (Err why) f y h = absurd cc

same : {A : Type 0} (x y : A) → ◌≡◌ {A = Result A Fault} (Ok x) (Ok y) → x ≡ y
same x y h = cc

-- ---- another is taken in

abbrev pub IsJoined : Session → Bytes → (Repo → ℕ → List PlainEvent → Result Remade Fault) → Session → Type 0
IsJoined s name edit after =
    (repo : Repo) × (part : Repo) × (made : Remade) × (chosen s ≡ Ok repo) × (find_repo name s.repos ≡ Some part) × (edit part repo.next repo.history ≡ Ok made)
    × (after ≡ record s { repos = without_repo name (with_repo (with_remade repo made) s.repos) })

pub joined : (s : Session) (name : Bytes) (edit : Repo → ℕ → List PlainEvent → Result Remade Fault) (after : Session) → after_joining s name edit ≡ Ok after → IsJoined s name edit after
unfolding after_joining
joined s name edit after h =
    let one = both (chosen s) (λ repo. other_than repo name s.repos >>= λ part. edited (edit part) repo >>= λ new. Ok (taken new)) after h in
    let repo = one.0 in
    let other = both (other_than repo name s.repos) (λ part. edited (edit part) repo >>= λ new. Ok (taken new)) after one.2 in
    let part = other.0 in
    let last = both (edited (edit part) repo) (λ new. Ok (taken new)) after other.2 in
    let its = both (edit part repo.next repo.history) (λ made. Ok (with_remade repo made)) last.0 last.1 in (
      repo,
      part,
      its.0,
      one.1,
      (is_other repo part name s.repos other.1).1,
      its.1,
      sym (ap taken (same (with_remade repo its.0) last.0 its.2) ∙ same (taken last.0) after last.2),
    )
  where
    taken : Repo → Session
    taken new = record s { repos = without_repo name (with_repo new s.repos) }

-- ---- several become one

abbrev pub IsUnited : Session → List Bytes → (List Repo → Result Repo Fault) → Session → Type 0
IsUnited s names united after =
    (parts : List Repo) × (new : Repo) × (all_there names s.repos ≡ Ok parts) × (united parts ≡ Ok new) × (find_repo (joined_name names) (without_repos names s.repos) ≡ None)
    × (after ≡ record s { repos = without_repos names s.repos ++ record new { name = joined_name names } ∷ []; choice = Some (joined_name names) })

pub united : (s : Session) (names : List Bytes) (make : List Repo → Result Repo Fault) (after : Session) → after_uniting s names make ≡ Ok after → IsUnited s names make after
unfolding after_uniting
united s names make after h =
    let one = both (all_there names s.repos) (λ parts. unused whole (find_repo whole rest) >>= λ free. make parts >>= λ new. Ok (put free new)) after h in
    let free = both (unused whole (find_repo whole rest)) (λ free. make one.0 >>= λ new. Ok (put free new)) after one.2 in
    let last = both (make one.0) (λ new. Ok (put free.0 new)) after free.2 in (
      one.0,
      last.0,
      one.1,
      last.1,
      (is_unused whole free.0 (find_repo whole rest) free.1).1,
      sym (ap (λ n. put n last.0) (is_unused whole free.0 (find_repo whole rest) free.1).0 ∙ same (put free.0 last.0) after last.2),
    )
  where
    whole : Bytes
    whole = joined_name names

    rest : List Repo
    rest = without_repos names s.repos

    put : Bytes → Repo → Session
    put free new = record s { repos = rest ++ record new { name = free } ∷ []; choice = Some free }

-- the first by age, of at least two
some_by_age : (parts : List Part) → 2 ≤ length parts → (base : Part) × (others : List Part) × (by_age (λ (part : Part). part.events) parts ≡ base ∷ others)
some_by_age [] many = absurd (omega arith)
some_by_age (part ∷ parts) many = go (by_age (λ (part : Part). part.events) parts)
  where
    go : (sorted : List Part) → (base : Part) × (others : List Part) × (put_by_age (λ (part : Part). part.events) part sorted ≡ base ∷ others)
    go [] = (part, [], refl)
    go (next ∷ sorted) = at (is_before (age next.events) (age part.events))
      where
        at : (b : Bool) → (base : Part) × (others : List Part)
            × ((if b then next ∷ put_by_age (λ (part : Part). part.events) part sorted else part ∷ next ∷ sorted) ≡ base ∷ others)
        at true = (next, put_by_age (λ (part : Part). part.events) part sorted, refl)
        at false = (part, next ∷ sorted, refl)

sound_parts : (repos : List Repo) → AllByRecursion IsLawfulRepo repos → AllByRecursion IsPart (map as_part repos)
sound_parts [] a = tt
sound_parts (r ∷ repos) a = (record { sound = a.0.history.sound; name = a.0.name }, sound_parts repos a.1)

history_is : (sorted : List Repo) (history : List PlainEvent) → (united_repo sorted history).history ≡ history
history_is [] history = refl
history_is (base ∷ others) history = refl

module _ (several : (prune : Bool) (parts : List Part) (new : List PlainEvent) → unite_of prune parts ≡ Ok new → 2 ≤ length parts)
    (base_trees : (prune : Bool) (parts others : List Part) (base : Part) (new : List PlainEvent) (c : ℕ) → AllByRecursion IsPart parts → unite_of prune parts ≡ Ok new
    → by_age (λ (part : Part). part.events) parts ≡ base ∷ others → IsCommitOf base.events c → StaysIn base.events new c)
    (part_trees : (parts before after : List Part) (base part : Part) (so_far new : List PlainEvent) → AllByRecursion IsPart parts → unite_of true parts ≡ Ok new
    → by_age (λ (part : Part). part.events) parts ≡ base ∷ (before ++ part ∷ after) → with_parts true base.events before ≡ Ok so_far → HasTreesOf part.events (next_number so_far) new)
    (all_trees : (parts others : List Part) (base : Part) (new : List PlainEvent) → AllByRecursion IsPart parts → unite_of true parts ≡ Ok new
    → by_age (λ (part : Part). part.events) parts ≡ base ∷ others → HasTreesOfAll others (next_number base.events) new)
    (all_came : (prune : Bool) (parts others : List Part) (base : Part) (new : List PlainEvent) (id : AnyId) → AllByRecursion IsPart parts → unite_of prune parts ≡ Ok new
    → by_age (λ (part : Part). part.events) parts ≡ base ∷ others → has_id new id ≡ true → (has_id base.events id ≡ true) ⊎ IsFromOne others (next_number base.events) id) where
  pub united_trees : (s : Session) (names : List Bytes) (prune : Bool) (after : Session) → IsLawful s → IsUnited s names (united_of prune) after → Unites prune names s after
  united_trees s names prune after lawful its =
      let parts = its.0 in
      let made = both (unite_of prune (map as_part parts)) (λ history. Ok (united_repo (by_age (λ (repo : Repo). repo.history) parts) history)) its.1 its.3 in
      let history = made.0 in
      let order = some_by_age (map as_part parts) (several prune (map as_part parts) history made.1) in
      let sound = sound_parts parts (parts_lawful s names parts lawful its.2).0 in
      let history_of_new : its.1.history ≡ history =
      sym (ap (λ (r : Repo). r.history) (same (united_repo (by_age (λ (repo : Repo). repo.history) parts) history) its.1 made.2))
      ∙ history_is (by_age (λ (repo : Repo). repo.history) parts) history in
      record {
        parts = parts;
        base = order.0;
        others = order.1;
        new = record its.1 { name = joined_name names };
        are_parts = its.2;
        order = order.2;
        kept = λ c here. subst (λ (new : List PlainEvent). StaysIn order.0.events new c) (sym history_of_new) (base_trees prune (map as_part parts) order.1 order.0 history c sound made.1 order.2 here);
        pruned = λ p before behind part so_far cut are.
            subst (HasTreesOf part.events (next_number so_far)) (sym history_of_new)
            (part_trees (map as_part parts) before behind order.0 part so_far history sound (subst (λ (b : Bool). unite_of b (map as_part parts) ≡ Ok history) p made.1)
            (order.2 ∙ ap (λ (others : List Part). order.0 ∷ others) cut) are);
        all_pruned = λ p.
            subst (HasTreesOfAll order.1 (next_number order.0.events)) (sym history_of_new)
            (all_trees (map as_part parts) order.1 order.0 history sound (subst (λ (b : Bool). unite_of b (map as_part parts) ≡ Ok history) p made.1) order.2);
        came = λ id there.
            all_came prune (map as_part parts) order.1 order.0 history id sound made.1 order.2 (subst (λ (new : List PlainEvent). has_id new id ≡ true) history_of_new there);
        name = refl;
        is_new = is_new_name names s.repos parts its.2 (several prune (map as_part parts) history made.1) its.4;
        rest = its.5;
      }

-- ---- one becomes two

abbrev pub IsDivided : Session → Ids → Session → Type 0
IsDivided s ids after =
    (repo : Repo) × (halves : Halves) × (chosen s ≡ Ok repo) × (divide_of ids repo.history ≡ Ok halves)
    × (after ≡ record s {
      repos = (without_repo repo.name s.repos ++ read_repo (early_name repo.name) halves.early ∷ []) ++ read_repo (late_name repo.name) halves.late ∷ [];
      choice = Some (early_name repo.name);
    })

pub divided : (s : Session) (ids : Ids) (after : Session) → after_dividing s (halves_of ids) ≡ Ok after → IsDivided s ids after
unfolding after_dividing
divided s ids after h =
    let one = both (chosen s) (λ repo. room s.repos >>= λ repos. first repo repos) after h in
    let repo = one.0 in
    let roomy = both (room s.repos) (λ repos. first repo repos) after one.2 in
    let repos = roomy.0 in
    let early = both (unused (early_name repo.name) (find_repo (early_name repo.name) (rest repo repos))) (λ early. second repo repos early) after roomy.2 in
    let late = both (unused (late_name repo.name) (find_repo (late_name repo.name) (rest repo repos))) (λ late. third repo repos early.0 late) after early.2 in
    let made = both (halves_of ids repo.history) (λ halves. Ok (two repo repos early.0 late.0 halves)) after late.2 in
    let both_of = both (divide_of ids repo.history) (λ halves. Ok (halves.early, halves.late)) made.0 made.1 in
    let early_is = (is_unused (early_name repo.name) early.0 (find_repo (early_name repo.name) (rest repo repos)) early.1).0 in
    let late_is = (is_unused (late_name repo.name) late.0 (find_repo (late_name repo.name) (rest repo repos)) late.1).0 in
    let halves_are = same (both_of.0.early, both_of.0.late) made.0 both_of.2 in (
      repo,
      both_of.0,
      one.1,
      both_of.1,
      sym ((λ i. two repo ((has_room s.repos repos roomy.1).0 i) (early_is i) (late_is i) (halves_are i)) ∙ same (two repo repos early.0 late.0 made.0) after made.2),
    )
  where
    rest : Repo → List Repo → List Repo
    rest repo repos = without_repo repo.name repos

    two : Repo → List Repo → Bytes → Bytes → List PlainEvent × List PlainEvent → Session
    two repo repos early late halves = record s { repos = (rest repo repos ++ read_repo early halves.0 ∷ []) ++ read_repo late halves.1 ∷ []; choice = Some early }

    third : Repo → List Repo → Bytes → Bytes → Result Session Fault
    third repo repos early late = halves_of ids repo.history >>= λ halves. Ok (two repo repos early late halves)

    second : Repo → List Repo → Bytes → Result Session Fault
    second repo repos early = unused (late_name repo.name) (find_repo (late_name repo.name) (rest repo repos)) >>= λ late. third repo repos early late

    first : Repo → List Repo → Result Session Fault
    first repo repos = unused (early_name repo.name) (find_repo (early_name repo.name) (rest repo repos)) >>= λ early. second repo repos early
