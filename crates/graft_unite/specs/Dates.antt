-- Commits by the seconds of their committers. (own)
use Rattle.std.specs.Prelude.{◌≡◌, ℕ, List, [], ◌∷◌, filter, nat_lt, option_map, Option, Some, None, if◌then◌else◌}
use Rattle.std.specs.Option.{option_or}
use Rattle.plain_model.specs.declared.event.PlainEvent.{PlainEvent}
use Rattle.graft_laws.specs.Unite.{latest_before}

abbrev pub last_of : List (ℕ × ℕ) → Option (ℕ × ℕ)
last_of [] = None
last_of (e ∷ es) = option_or (last_of es) (Some e)

-- the commit of the last second before another, where each second has one commit, and the seconds rise
abbrev pub latest_in : List (ℕ × ℕ) → ℕ → Option (ℕ × ℕ)
latest_in dates seconds = last_of (filter (λ e. nat_lt e.0 seconds) dates)

-- the later of what was found and one commit more
abbrev pub later : Option (ℕ × ℕ) → ℕ → ℕ → Option (ℕ × ℕ)
later None second c = Some (second, c)
later (Some found) second c = if nat_lt second found.0 then Some found else Some (second, c)

-- what is found, with one commit more
abbrev pub with_commit : List (ℕ × ℕ) → ℕ → ℕ → ℕ → Option (ℕ × ℕ)
with_commit dates second c seconds = if nat_lt second seconds then later (latest_in dates seconds) second c else latest_in dates seconds

-- what is found is the latest commit of the events before a second
abbrev pub AreDatesOf : List PlainEvent → List (ℕ × ℕ) → Type 0
AreDatesOf events dates = (seconds : ℕ) → latest_in dates seconds ≡ option_map (λ c. (c.1, c.0)) (latest_before events seconds)
