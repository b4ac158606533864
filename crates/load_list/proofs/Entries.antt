-- From the entries of the load list to its repositories.
use Rattle.std.proofs.Common.{Vec, ◌≡◌, ℕ, suc, ◌+◌, Bool, true, false, inl, inr, List, [], ◌∷◌, ◌++◌, length, None, Some, refl, sym, ap, ◌∙◌, nat_eq, arith}
use Rattle.std.specs.Prelude.{option_map, bytes_eq, if◌then◌else◌, nat_lt}
use Rattle.std.specs.List.{position, position_or_len}
use Rattle.std.specs.Cmp.Lexicographic.{pointwise}
use Rattle.std.specs.Map.{keys_of, lookup, remove_entry}
use Rattle.std.proofs.lemmas.Bool.{cases_Bool}
use Rattle.std.proofs.lemmas.Option.{none-some}
use Rattle.std.proofs.lemmas.Slice.Eq.{bytes_eq-Decides}
use Rattle.indexmap.specs.IndexMap.{insert_entry, set_value_at}
use Rattle.history_machine.specs.Sessions.{Repo, find_repo, with_repo, without_repo}
use Rattle.load_list.specs.Entries.{Loaded, repo_of, repo_under, repos_of}

module _ {A : Type 0} where
  -- what is looked up
  pub found_under : (name : List ℕ) (es : List (Vec ℕ A × Loaded))
      → option_map (repo_under name) (lookup (λ (k : Vec ℕ A). pointwise nat_eq name k.items) es) ≡ find_repo name (repos_of es)
  found_under name [] = refl
  found_under name (e ∷ es) =
      elim (cases_Bool (pointwise nat_eq name e.0.items)) [
        | inl yes_it ↦ rw yes_it (ap (λ (n : List ℕ). Some (repo_under n e.1)) ((bytes_eq-Decides name e.0.items).0 yes_it))
        | inr no_it ↦ rw no_it (found_under name es)
      ]

  -- a name that isn't there goes to the end
  pub more_repos : (name : Vec ℕ A) (new : Loaded) (es : List (Vec ℕ A × Loaded)) → find_repo name.items (repos_of es) ≡ None
      → repos_of (insert_entry (λ (a b : Vec ℕ A). pointwise nat_eq a.items b.items) es name new) ≡ repos_of es ++ repo_under name.items new ∷ []
  more_repos name new [] h = refl
  more_repos name new (e ∷ es) h =
      elim (cases_Bool (pointwise nat_eq name.items e.0.items)) [
        | inl yes_it ↦ absurd (none-some (repo_of e) (sym h ∙ rw yes_it refl))
        | inr no_it ↦ rw no_it (ap (λ (rs : List Repo). repo_of e ∷ rs) (more_repos name new es (rw no_it at h)))
      ]

  -- a name is taken away
  pub fewer_repos : (name : List ℕ) (es : List (Vec ℕ A × Loaded))
      → repos_of (remove_entry (λ (k : Vec ℕ A). pointwise nat_eq name k.items) es) ≡ without_repo name (repos_of es)
  fewer_repos name [] = refl
  fewer_repos name (e ∷ es) =
      elim (cases_Bool (pointwise nat_eq name e.0.items)) [
        | inl yes_it ↦ rw yes_it refl
        | inr no_it ↦ rw no_it (ap (λ (rs : List Repo). repo_of e ∷ rs) (fewer_repos name es))
      ]

  set_after : (e : Vec ℕ A × Loaded) (es : List (Vec ℕ A × Loaded)) (n : ℕ) (new : Loaded) → set_value_at (e ∷ es) (1 + n) new ≡ e ∷ set_value_at es n new
  set_after e es n new = let next : 1 + n ≡ suc n = omega arith in ap (λ (i : ℕ). set_value_at (e ∷ es) i new) next

  -- another repository in the place of the one with the name
  set_first : (name : List ℕ) (new : Loaded) (es : List (Vec ℕ A × Loaded))
      → repos_of (set_value_at es (position_or_len (λ (k : Vec ℕ A). pointwise nat_eq name k.items) (keys_of es)) new) ≡ with_repo (repo_under name new) (repos_of es)
  set_first name new [] = refl
  set_first name new (e ∷ es) =
      elim (cases_Bool (pointwise nat_eq name e.0.items)) [
        | inl yes_it ↦ rw yes_it (ap (λ (n : List ℕ). repo_under n new ∷ repos_of es) (sym ((bytes_eq-Decides name e.0.items).0 yes_it)))
        | inr no_it ↦
            rw no_it (
            ap repos_of (set_after e es (position_or_len (λ (k : Vec ℕ A). pointwise nat_eq name k.items) (keys_of es)) new)
            ∙ ap (λ (rs : List Repo). repo_of e ∷ rs) (set_first name new es))
      ]

  first_place : (test : Vec ℕ A → Bool) (ks : List (Vec ℕ A)) (i : ℕ) → Some i ≡ position test ks → i ≡ position_or_len test ks
  first_place test ks i h = go (nat_lt (position_or_len test ks) (length ks)) h
    where
      go : (b : Bool) → Some i ≡ (if b then Some (position_or_len test ks) else None) → i ≡ position_or_len test ks
      go true h = cc
      go false h = absurd cc

  pub set_repos : (name : List ℕ) (new : Loaded) (es : List (Vec ℕ A × Loaded)) (i : ℕ)
      → Some i ≡ position (λ (k : Vec ℕ A). pointwise nat_eq name k.items) (keys_of es) → repos_of (set_value_at es i new) ≡ with_repo (repo_under name new) (repos_of es)
  set_repos name new es i h = rw (first_place (λ (k : Vec ℕ A). pointwise nat_eq name k.items) (keys_of es) i h) (set_first name new es)

-- a repository that is put in its own place
pub same_repos : (repo : Repo) (repos : List Repo) → find_repo repo.name repos ≡ Some repo → with_repo repo repos ≡ repos
same_repos repo [] h = refl
same_repos repo (r ∷ repos) h =
    elim (cases_Bool (bytes_eq repo.name r.name)) [
      | inl yes_it ↦
          (let is : r ≡ repo = some_is r repo (sym (rw yes_it refl) ∙ h) in
          rw yes_it (ap (λ (q : Repo). q ∷ repos) (sym is)))
      | inr no_it ↦ rw no_it (ap (λ (rs : List Repo). r ∷ rs) (same_repos repo repos (rw no_it at h)))
    ]
  where
    some_is : (a b : Repo) → Some a ≡ Some b → a ≡ b
    some_is a b h = cc
