-- The paths of the sample are paths.
use Rattle.std.proofs.Common.{◌≡◌, ℕ, ◌<◌, Bool, true, false, Option, Some, None, refl}
use Rattle.std.proofs.lemmas.Bool.{agree_below, agree_below_at, true≢false}
use Rattle.std.specs.Fmt.{digits}
use Rattle.std.specs.Prelude.{is_some}
use Rattle.plain_model.specs.Paths.{IsPath, path_fault}
use Rattle.sample_history.specs.Sample.{path_in}

none_of : {X : Type 0} (o : Option X) → is_some o ≡ false → o ≡ None
none_of None h = refl
none_of (Some x) h = absurd (true≢false h)

abbrev is_refused : ℕ → ℕ → Bool
is_refused a b = is_some (path_fault (path_in a b))

-- all of them are looked at
are_paths : agree_below (λ a. agree_below (is_refused a) (λ b. false) 50) (λ a. true) 10 ≡ true
unfolding digits
are_paths = refl

pub is_file : (a b : ℕ) → a < 10 → b < 50 → IsPath (path_in a b)
is_file a b low short =
    let row = agree_below_at (λ a. agree_below (is_refused a) (λ b. false) 50) (λ a. true) 10 a are_paths low in
    none_of (path_fault (path_in a b)) (agree_below_at (is_refused a) (λ b. false) 50 b row short)
