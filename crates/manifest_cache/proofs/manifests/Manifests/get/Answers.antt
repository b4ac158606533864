use Rattle.std.proofs.Common.{◌≡◌, ◌∙◌, ◌≤◌, ◌+◌, ℕ, refl, sym, ap, subst, nat_eq, Some}
use Rattle.std.proofs.lemmas.Option.{same_Some}
use Rattle.std.specs.Map.{lookup}
use Rattle.lru.specs.LruCache.{LruCache}
use Rattle.plain_model.specs.Trees.{Tree}
use Rattle.manifest_cache.specs.Kept.{AgreesWith, Kept, ops_to_fold, used}
use Rattle.manifest_cache.proofs.KeptTrees.{agrees_used, lookup_used}
use Rattle.manifest_cache.proofs.manifests.Manifests.get.Goals as goal

pub returns : goal.returns
returns g c =
    let events = c.args.events.now.list in
    let id = c.args.id in
    let old = c.args.self.now in
    let ok = c.in_ok-keep.ensures.ok in
    let t : Tree = ok.0 in
    let ends = ap (λ (k : LruCache ℕ Tree). k.entries) ok.2 ∙ ap (used id t) c.self.view_is in
    let found : Some t ≡ Some c.kept_tree.result.now = sym (lookup_used old id t) ∙ ap (lookup (nat_eq id)) (sym ends) ∙ c.kept_tree.ensures in
    let same : t ≡ c.kept_tree.result.now = same_Some t c.kept_tree.result.now found in (
      (
        refl,
        λ _. tt,
        (
          ends ∙ ap (λ (u : Tree). used id u old) same,
          subst (AgreesWith events) (sym ends) (agrees_used events old id t c.requires.agrees ok.1),
        ),
      ),
      record {
        kept = tt;
        tree = ok.1 ∙ ap (λ (u : Tree). Some u) same;
        counted = subst (λ (k : Kept). c.keep.new.steps ≤ c.args.steps.now + ops_to_fold k events id) c.self.view_is c.in_ok-keep.ensures.counted;
      },
    )
