use Rattle.std.proofs.Common.{◌≡◌, ◌++◌, ◌∷◌, ℕ, suc, List, drop, sym, ap, ◌∙◌, append_assoc, add-one}
use Rattle.std.specs.Prelude.{flat_map}
use Rattle.std.proofs.Math.Seq.{drop-cons}
use Rattle.plain_model.specs.Paths.{Bytes}
use Rattle.plain_model.specs.Text.{alias_text}
use Rattle.stream_writer.proofs.events.push_aliases.Goals as goal

pub loop-alias-preserved : goal.loop-alias-preserved
loop-alias-preserved c =
    let f : ℕ → Bytes = alias_text c.args.mark in
    let all : List ℕ = c.args.aliases.now in
    let i = c.loop-alias.alias-index in
    let out : Bytes = c.loop-alias.out in
    let next : drop i all ≡ c.alias-item.result ∷ drop (suc i) all = drop-cons all i c.alias-item.result c.loop-alias-test.true ∙ ap (λ (x : ℕ). x ∷ drop (suc i) all) (sym c.alias-item.is) in
    rw add-one
    (ap (λ (o : Bytes). o ++ flat_map f (drop (suc i) all)) c.in_ok-push_alias.ensures
    ∙ append_assoc out (f c.alias-item.result) (flat_map f (drop (suc i) all))
    ∙ ap (λ (l : List ℕ). out ++ flat_map f l) (sym next)
    ∙ c.loop-alias.invariant)
