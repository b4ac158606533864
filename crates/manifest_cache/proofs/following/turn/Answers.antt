use Rattle.std.proofs.Common.{◌≡◌, ◌∙◌, ℕ, Some, inl, inr, sym, ap, subst, nat_eq}
use Rattle.std.specs.Prelude.{is_some}
use Rattle.std.proofs.lemmas.Bool.{true≢false}
use Rattle.std.proofs.lemmas.Option.{same_Some}
use Rattle.lru.specs.LruCache.{LruCache, promoted}
use Rattle.plain_model.specs.Histories.{tree}
use Rattle.plain_model.specs.Trees.{Tree}
use Rattle.manifest_cache.specs.Following.{HasSameLine}
use Rattle.manifest_cache.specs.Lines.{line}
use Rattle.manifest_cache.proofs.LastUsed.{last_holds, last_is, promoted_last, rest_is}
use Rattle.manifest_cache.proofs.Lines.{line_of_tree, tree_line}
use Rattle.manifest_cache.proofs.following.turn.Goals as goal

pub has_same_line-same-requires-clause-there : goal.has_same_line-same-requires-clause-there
has_same_line-same-requires-clause-there c =
    let before = c.args.plan.now.before in
    let own = last_holds (λ (k : ℕ × Tree). tree before k.0 ≡ Some k.1) c.args.kept.now.entries (c.in-Some.number.now, c.in-Some.field-0-1.now) c.requires.agrees c.in-Some.ensures in
    line_of_tree (line before c.new-commit.result)
    (ap is_some (sym (tree_line before c.new-commit.result) ∙ ap (tree before) c.new-commit.ensures ∙ own))

pub returns-then-same-clause-turns : goal.returns-then-same-clause-turns
returns-then-same-clause-turns c = λ k others is.
    let kept = c.args.kept.now.entries in
    let own = ap (λ (x : ℕ × Tree). x.0) (same_Some (c.in-Some.number.now, c.in-Some.field-0-1.now) k (c.in-Some.ensures ∙ last_is kept others k is)) in
    let commit = c.new-commit.ensures ∙ own in
    inl (
      subst (HasSameLine c.args.plan.now.before c.args.plan.now.after) commit (c.has_same_line-same.ensures.0 c.if-same.true),
      ap (λ (m : LruCache ℕ Tree). m.entries) c.promote.ensures.entries
          ∙ ap (λ n. promoted (nat_eq n) kept) (c.number.ensures ∙ commit)
          ∙ promoted_last kept others k is c.len.ensures.valid.0,
    )

pub returns-else-same-clause-turns : goal.returns-else-same-clause-turns
returns-else-same-clause-turns c = λ k others is.
    let kept = c.args.kept.now.entries in
    let own = ap (λ (x : ℕ × Tree). x.0) (same_Some (c.in-Some.number.now, c.in-Some.field-0-1.now) k (c.in-Some.ensures ∙ last_is kept others k is)) in
    let commit = c.new-commit.ensures ∙ own in
    inr (
      λ same. true≢false (sym (c.has_same_line-same.ensures.1 (subst (HasSameLine c.args.plan.now.before c.args.plan.now.after) (sym commit) same)) ∙ c.if-same.false),
      ap (λ (m : LruCache ℕ Tree). m.entries) c.pop_lru.ensures.entries ∙ rest_is kept others k is,
    )
