-- The parent that a root gets is a commit of the list; parts in another order are the same ones.
use Rattle.std.proofs.Common.{◌≡◌, ◌∙◌, ℕ, suc, true, false, cond, List, [], ◌∷◌, length, refl, ap, arith, eq-eqb, Option, Some, None}
use Rattle.std.specs.Prelude.{◌==◌, filter, flat_map, nat_lt, option_map, option_to_list, IfSome}
use Rattle.std.specs.List.{AllByRecursion, fold}
use Rattle.std.proofs.lemmas.Bool.{or_left, or_right}
use Rattle.plain_model.specs.declared.id.AnyId.TheVariants as any
use Rattle.plain_model.specs.declared.event.PlainEvent.{PlainEvent}
use Rattle.plain_model.specs.declared.event.PlainEvent.TheVariants.{Blob, Commit, Tag, Reset, Pass}
use Rattle.plain_model.specs.Soundness.{IsCommitOf, has_id}
use Rattle.edit_laws.proofs.Lists.{all_filter}
use Rattle.graft_laws.specs.Unite.{by_age, dated, is_before, age, later_of, latest_before, put_by_age}
use Rattle.graft_laws.proofs.Events.{AreParents}

module _ (P : ℕ × ℕ → Type 0) where
  later_there : (best : Option (ℕ × ℕ)) (c : ℕ × ℕ) → IfSome best P → P c → IfSome (later_of best c) P
  later_there None c h k = k
  later_there (Some best) c h k = elim (nat_lt c.1 best.1) as (λ b. IfSome (cond b (Some best) (Some c)) P) [ true ↦ h | false ↦ k ]

  latest_of : (best : Option (ℕ × ℕ)) (cs : List (ℕ × ℕ)) → IfSome best P → AllByRecursion P cs → IfSome (fold later_of best cs) P
  latest_of best [] h k = h
  latest_of best (c ∷ cs) h k = latest_of (later_of best c) cs (later_there best c h k.0) k.1

dated_there : (whole es : List PlainEvent) → ((c : ℕ) → IsCommitOf es c → IsCommitOf whole c) → AllByRecursion (λ (c : ℕ × ℕ). IsCommitOf whole c.0) (flat_map dated es)
dated_there whole [] f = tt
dated_there whole (Commit id mark branch author committer encoding comment parents ops aliases ∷ es) f =
    (f id (or_left (id == id) (has_id es (any.Commit id)) (eq-eqb id id refl)), dated_there whole es (λ c k. f c (or_right (id == c) (has_id es (any.Commit c)) k)))
dated_there whole (Blob id mark bytes ∷ es) f = dated_there whole es f
dated_there whole (Tag id name target tagger comment mark ∷ es) f = dated_there whole es f
dated_there whole (Reset id branch target ∷ es) f = dated_there whole es f
dated_there whole (Pass id line ∷ es) f = dated_there whole es f

-- the latest commit before a second is there
pub latest_there : (events : List PlainEvent) (seconds : ℕ) → AreParents events (option_to_list (option_map (λ (c : ℕ × ℕ). c.0) (latest_before events seconds)))
latest_there events seconds =
    go (latest_before events seconds)
    (latest_of (λ c. IsCommitOf events c.0) None (filter (λ c. nat_lt c.1 seconds) (flat_map dated events)) tt
    (all_filter (λ (c : ℕ × ℕ). IsCommitOf events c.0) (λ c. nat_lt c.1 seconds) (flat_map dated events) (dated_there events events (λ c k. k))))
  where
    go : (o : Option (ℕ × ℕ)) → IfSome o (λ c. IsCommitOf events c.0) → AreParents events (option_to_list (option_map (λ (c : ℕ × ℕ). c.0) o))
    go None h = (tt, refl, omega arith)
    go (Some c) h = ((h, tt), refl, omega arith)

-- ---- the order of parts

module _ {X : Type 0} (history : X → List PlainEvent) (P : X → Type 0) where
  put_all : (x : X) (ys : List X) → P x → AllByRecursion P ys → AllByRecursion P (put_by_age history x ys)
  put_all x [] h a = (h, tt)
  put_all x (y ∷ ys) h a =
      let rest = put_all x ys h a.1 in
      elim (is_before (age (history y)) (age (history x))) as (λ b. AllByRecursion P (cond b (y ∷ put_by_age history x ys) (x ∷ y ∷ ys))) [ true ↦ (a.0, rest) | false ↦ (h, (a.0, a.1)) ]

  pub all_by_age : (xs : List X) → AllByRecursion P xs → AllByRecursion P (by_age history xs)
  all_by_age [] a = tt
  all_by_age (x ∷ xs) a = put_all x (by_age history xs) a.0 (all_by_age xs a.1)

module _ {X : Type 0} (history : X → List PlainEvent) where
  one_more : (x : X) (ys : List X) → length (put_by_age history x ys) ≡ suc (length ys)
  one_more x [] = refl
  one_more x (y ∷ ys) =
      let rest = one_more x ys in
      elim (is_before (age (history y)) (age (history x))) as (λ b. length (cond b (y ∷ put_by_age history x ys) (x ∷ y ∷ ys)) ≡ suc (suc (length ys))) [ true ↦ ap suc rest | false ↦ refl ]

  pub as_many : (xs : List X) → length (by_age history xs) ≡ length xs
  as_many [] = refl
  as_many (x ∷ xs) = one_more x (by_age history xs) ∙ ap suc (as_many xs)
