use Rattle.std.proofs.Common.{◌∙◌, ◌≡◌, ◌≤◌, ◌<◌, false, true, length, drop, sym, ap, subst, arith}
use Rattle.std.specs.Prelude.{◌&&◌, ◌==◌}
use Rattle.std.proofs.Math.ListN.{get_or}
use Rattle.std.proofs.lemmas.Slice.{between_to_end}
use Rattle.plain_model.proofs.Words.{pointwise_begins}
use Rattle.plain_model.specs.Parts.{begins}
use Rattle.plain_model.specs.Paths.{Bytes, begins_with_slash}
use Rattle.path_expunge.proofs.Seeking.{below_parts, first_slash, none_slash}
use Rattle.path_expunge.proofs.rewriting.is_below.Goals as goal

pub returns-then-not-starts_with : goal.returns-then-not-starts_with
returns-then-not-starts_with c =
    let p = c.args.path.now in
    let q = c.args.other.now in
    let begins_not : begins p q ≡ false = sym (c.starts_with.ensures.value ∙ pointwise_begins p q) ∙ c.if-not-starts_with.true in
    sym (below_parts p q ∙ ap (λ t. t && begins_with_slash (drop (length p) q)) begins_not)

pub returns-in-empty : goal.returns-in-empty
returns-in-empty c =
    let p = c.args.path.now in
    let q = c.args.other.now in
    let begins_so : begins p q ≡ true = sym (c.starts_with.ensures.value ∙ pointwise_begins p q) ∙ c.if-not-starts_with.false in
    let rest = between_to_end q (length p) (length q) (omega arith) in
    sym (none_slash (drop (length p) q) (subst (λ (bytes : Bytes). length bytes < 1) rest c.in-empty.len_below))
    ∙ sym (below_parts p q ∙ ap (λ t. t && begins_with_slash (drop (length p) q)) begins_so)

pub returns-in-len1-up : goal.returns-in-len1-up
returns-in-len1-up c =
    let p = c.args.path.now in
    let q = c.args.other.now in
    let begins_so : begins p q ≡ true = sym (c.starts_with.ensures.value ∙ pointwise_begins p q) ∙ c.if-not-starts_with.false in
    let rest = between_to_end q (length p) (length q) (omega arith) in
    ap (λ (bytes : Bytes). get_or bytes 0 0 == 47) rest
    ∙ first_slash (drop (length p) q) (subst (λ (bytes : Bytes). 1 ≤ length bytes) rest c.in-len1-up.len_at_least)
    ∙ sym (below_parts p q ∙ ap (λ t. t && begins_with_slash (drop (length p) q)) begins_so)
