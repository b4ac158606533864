use Rattle.std.proofs.Common.{ℕ, ◌+◌, ◌++◌, ◌∷◌, [], Bor, List, Some, None, lit<, sym, refl, ap, ◌∙◌, arith, subst, length, IsCharBoundary}
use Rattle.std.proofs.lemmas.Str.{IsCharBoundary-after_ascii}
use Rattle.std.proofs.lemmas.Str.Pattern.{split_parts}
use Rattle.macro_lines.specs.Places.{digits_at, filled, filled_from}
use Rattle.macro_lines.proofs.PlaceSteps.{before_nothing, ends, fills, misses, stays}
use Rattle.macro_lines.proofs.places.filled.Goals as goal

pub loop-front-init : goal.loop-front-init
loop-front-init c = record { same = ([], before_nothing (filled_from c.args.words.now 0 c.args.text.now), λ kept. kept); utf8 = c.utf8.text }

pub returns-in_err-word-in-Some-place_at : goal.returns-in_err-word-in-Some-place_at
unfolding filled
returns-in_err-word-in-Some-place_at c =
    let rest = c.loop-front.rest.now in
    let so_far = c.loop-front.invariant.same in
    let parts = split_parts 123 rest (Some (c.in-Some.front, c.in-Some.after)) c.in-Some.ensures.cases (lit< tt) in
    misses c.args.words.now so_far.0 c.in-Some.front.now c.in-Some.after.now rest _ parts.0 parts.1 so_far.1
    (λ (w : Bor (List ℕ)). w.now) c.args.begun c.in-Some-place_at.place.digits.now c.in_err-word-in-Some-place_at.field-0.0
    c.from_residual-in_err-word-in-Some-place_at.result c.from_residual-in_err-word-in-Some-place_at.ensures.1
    (sym (c.in-Some-place_at.ensures.digits ∙ ap digits_at c.as_bytes.ensures.value)) c.in_err-word-in-Some-place_at.ensures

pub range_from-rest-requires : goal.range_from-rest-requires
range_from-rest-requires c =
    let bytes = c.as_bytes.ensures in
    let found = c.in-Some-place_at.ensures in
    let n = length c.in-Some-place_at.place.digits.now in
    λ some. subst (λ bs. IsCharBoundary bs (n + 1)) bytes.value
    (IsCharBoundary-after_ascii c.as_bytes.result.now n bytes.utf8 found.within (omega (arith, found.closed)))

pub loop-front-preserved-in-Some-place_at : goal.loop-front-preserved-in-Some-place_at
loop-front-preserved-in-Some-place_at c =
    let rest = c.loop-front.rest.now in
    let so_far = c.loop-front.invariant.same in
    let parts = split_parts 123 rest (Some (c.in-Some.front, c.in-Some.after)) c.in-Some.ensures.cases (lit< tt) in
    let word = c.in_ok-word-in-Some-place_at.word.now in
    record {
      same = (
        (so_far.0 ++ c.in-Some.front.now) ++ word,
        rw c.range_from-rest.ensures.value
            (fills c.args.words.now so_far.0 c.in-Some.front.now c.in-Some.after.now rest _ parts.0 parts.1 so_far.1
            c.in-Some-place_at.place.digits.now word ((so_far.0 ++ c.in-Some.front.now) ++ word)
            (sym (c.in-Some-place_at.ensures.digits ∙ ap digits_at c.as_bytes.ensures.value)) c.in_ok-word-in-Some-place_at.ensures refl),
        λ kept. c.in_ok-line-in-Some-place_at.ensures (so_far.0 ++ c.in-Some.front.now) (c.in_ok-line.ensures so_far.0 (so_far.2 kept)),
      );
      utf8 = c.range_from-rest.utf8;
    }

pub loop-front-preserved : goal.loop-front-preserved
loop-front-preserved c =
    let rest = c.loop-front.rest.now in
    let so_far = c.loop-front.invariant.same in
    let parts = split_parts 123 rest (Some (c.in-Some.front, c.in-Some.after)) c.in-Some.ensures.cases (lit< tt) in
    record {
      same = (
        (so_far.0 ++ c.in-Some.front.now) ++ 123 ∷ [],
        stays c.args.words.now so_far.0 c.in-Some.front.now c.in-Some.after.now rest _ parts.0 parts.1 so_far.1
            ((so_far.0 ++ c.in-Some.front.now) ++ 123 ∷ []) (sym (c.in-None.ensures.digits ∙ ap digits_at c.as_bytes.ensures.value)) refl,
        λ kept. c.in_ok-line-in-None.ensures (so_far.0 ++ c.in-Some.front.now) (c.in_ok-line.ensures so_far.0 (so_far.2 kept)),
      );
      utf8 = search;
    }

pub returns : goal.returns
unfolding filled
returns c =
    let rest = c.loop-front.rest.now in
    let so_far = c.loop-front.invariant.same in (
      so_far.0 ++ rest,
      ends c.args.words.now so_far.0 rest (so_far.0 ++ rest) _ (split_parts 123 rest None c.in_default.ensures.cases (lit< tt)) so_far.1 refl,
      λ kept. c.in_ok-with_piece.ensures so_far.0 (so_far.2 kept),
    )
