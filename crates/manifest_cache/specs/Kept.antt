-- The trees that are kept: of which commits, what they are, and what becomes of them where one is used. (own)
use Rattle.std.specs.Prelude.{◌≡◌, ℕ, ◌-◌, Bool, List, [], ◌∷◌, Some, length, take, is_some, nat_eq, if◌then◌else◌}
use Rattle.std.specs.List.{AllByRecursion, list_any}
use Rattle.std.specs.Map.{lookup, remove_entry}
use Rattle.std.specs.Option.{option_map_or}
use Rattle.plain_model.specs.declared.event.PlainEvent.{PlainEvent}
use Rattle.plain_model.specs.declared.limit.TheConstants.{MAX_KEPT_TREES}
use Rattle.plain_model.specs.Histories.{tree}
use Rattle.plain_model.specs.Trees.{Tree}
use Rattle.manifest_cache.specs.Lines.{Line, line, ops_of}

-- commits with their trees, the last used first
abbrev pub Kept : Type 0
Kept = List (ℕ × Tree)

abbrev pub is_kept : Kept → ℕ → Bool
is_kept kept c = is_some (lookup (nat_eq c) kept)

-- each kept tree is that of its commit, folded from the root
abbrev pub AgreesWith : List PlainEvent → Kept → Type 0
AgreesWith events kept = AllByRecursion (λ k. tree events k.0 ≡ Some k.1) kept

-- ---- what is folded

-- the commits of a line after the last one that is kept
abbrev pub after_kept : Kept → Line → Line
after_kept kept [] = []
after_kept kept (c ∷ commits) =
    if list_any (λ d. is_kept kept d.0) (c ∷ commits) then after_kept kept commits else c ∷ commits

-- how many operations a commit and its first-parent ancestors have, down to the nearest one that is kept, without its own
abbrev pub ops_to_fold : Kept → List PlainEvent → ℕ → ℕ
ops_to_fold kept events c = option_map_or (λ commits. length (ops_of (after_kept kept commits))) (line events c) 0

-- ---- what is kept then

-- the commit's tree is first; if it wasn't kept before, it is one more, and the last one leaves where there are too many
abbrev pub used : ℕ → Tree → Kept → Kept
used c t kept = (c, t) ∷ (if is_kept kept c then remove_entry (nat_eq c) kept else take (MAX_KEPT_TREES - 1) kept)
