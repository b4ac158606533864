-- What a copy or a rename makes of a path is a path.
use Rattle.std.proofs.Common.{◌≡◌, Bool, true, false, cond, not, [], ◌∷◌, ◌++◌, length, drop, refl, sym, ap, subst, ◌∙◌, true≢false, is_some, Some, None, Ok, Err, nat_lt}
use Rattle.std.specs.Prelude.{◌||◌}
use Rattle.std.specs.Ordering.{eq_by_cmp}
use Rattle.plain_model.specs.declared.limit.TheConstants.{MAX_PATH_BYTES}
use Rattle.plain_model.specs.declared.operation.Mode.TheVariants.{Plain}
use Rattle.plain_model.specs.declared.operation.Content.TheVariants.{Blob as OfBlob}
use Rattle.plain_model.specs.declared.operation.Entry.{Entry}
use Rattle.plain_model.specs.Paths.{Bytes, IsPath, is_at_or_below}
use Rattle.plain_model.specs.Trees.{Tree, change, has, placed, within_paths}
use Rattle.plain_model.specs.Trees.Change.{MoveTo}
use Rattle.plain_model.specs.Trees.Refusal.{PathBytes}
use Rattle.history_laws.proofs.TreeLaws.{by_bytes, same_path}
use Rattle.history_laws.specs.SoundTrees.{AllPaths}
use Rattle.history_laws.proofs.KeptPaths.{change_paths}
use Rattle.history_laws.proofs.TreeMaps.{itself}

-- a tree with one path
abbrev entry : Entry
entry = record { mode = Plain; content = OfBlob 0 }

abbrev one : Bytes → Tree
one q = (q, entry) ∷ []

one_has : (q : Bytes) → has (one q) q ≡ true
one_has q = ap (λ b. is_some (cond b (Some entry) None)) (itself q)

one_path : (q : Bytes) → IsPath q → AllPaths (one q)
one_path q p r h = go (eq_by_cmp by_bytes r q) refl h
  where
    go : (b : Bool) → eq_by_cmp by_bytes r q ≡ b → is_some (cond b (Some entry) None) ≡ true → IsPath r
    go true same x = subst (λ (z : Bytes). IsPath z) (sym (same_path r q same)) p
    go false other x = absurd (true≢false (sym x))

-- it is moved
pub moved_path : (source target q : Bytes) → IsPath target → is_at_or_below source q ≡ true →
    nat_lt MAX_PATH_BYTES (length (target ++ drop (length source) q)) ≡ false → IsPath q →
    IsPath (target ++ drop (length source) q)
moved_path source target q p below short is =
    change_paths (MoveTo source target) (one q) (one to) p made (one_path q is) to (one_has to)
  where
    to : Bytes
    to = target ++ drop (length source) q

    made : change (MoveTo source target) (one q) ≡ Ok (one to)
    made =
        ap (λ b. placed source target (cond b (one q) []) (cond (not b) (one q) [])) below
        ∙ ap (λ b. cond (b || false) (Err PathBytes) (within_paths (one to))) short
