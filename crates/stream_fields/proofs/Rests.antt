-- What is after a place of a text.
use Rattle.std.proofs.Common.{◌≡◌, inl, inr, ℕ, ◌+◌, ◌-◌, ◌≤◌, Bool, true, false, cond, [], ◌∷◌, ◌++◌, length, take, drop, Option, Some, Result, Ok, refl, sym, ap, subst, ◌∙◌, arith, append_assoc, append-nil, drop_at, length-append, length-drop}
use Rattle.std.specs.Prelude.{count_by, ◌==◌}
use Rattle.std.proofs.Math.Seq.{take-add}
use Rattle.std.proofs.lemmas.List.{take-append-drop, take_rest}
use Rattle.std.proofs.lemmas.List.Sums.{sum_by-append}
use Rattle.plain_model.specs.Paths.{Bytes}
use Rattle.plain_model.specs.Parts.{is_lf, line_at, skip_lf}
use Rattle.plain_model.specs.Parts.{IsLine}
use Rattle.plain_model.specs.declared.fault.Why.{Why}
use Rattle.plain_model.specs.Fields.{extent_in, block_after, block_in}
use Rattle.field_laws.proofs.FieldSteps.{ok_then}
use Rattle.plain_model.proofs.Lines.{line_is}
use Rattle.stream_fields.specs.Cursors.{Position, rest}

-- a text ends in a rest
pub record EndsIn (text rest : Bytes) : Type 0 where
  pub front : Bytes
  pub is : text ≡ front ++ rest

pub ends_itself : (text : Bytes) → EndsIn text text
ends_itself text = record { front = []; is = refl }

pub ends_after : (text mid rest : Bytes) → EndsIn text mid → EndsIn mid rest → EndsIn text rest
ends_after text mid rest a b = record {
  front = a.front ++ b.front;
  is = a.is ∙ ap (λ (t : Bytes). a.front ++ t) b.is ∙ sym (append_assoc a.front b.front rest);
}

pub ends_dropped : (n : ℕ) (text : Bytes) → EndsIn text (drop n text)
ends_dropped n text = record { front = take n text; is = sym (take-append-drop n text) }

pub ends_skipped : (text : Bytes) → EndsIn text (skip_lf text)
ends_skipped [] = ends_itself []
ends_skipped (b ∷ bs) = go (b == 10)
  where
    go : (t : Bool) → EndsIn (b ∷ bs) (cond t bs (b ∷ bs))
    go true = record { front = b ∷ []; is = refl }
    go false = ends_itself (b ∷ bs)

pub ends_line : (text line after : Bytes) → line_at text ≡ Some (line, after) → EndsIn text after
ends_line text line after e = go (line_is text line after e)
  where
    go : IsLine text line after → EndsIn text after
    go (plain, inl is) = record { front = line ++ 10 ∷ []; is = is ∙ sym (append_assoc line (10 ∷ []) after) }
    go (plain, inr is) = record { front = line; is = is.0 ∙ sym (append-nil line) ∙ ap (λ (t : Bytes). line ++ t) (sym is.1) }

pub rest_within : (text last : Bytes) → EndsIn text last → length last ≤ length text
rest_within text last e = omega (arith, ap length e.is, length-append e.front last)

-- what is left is found by its length
pub left_is : (text last : Bytes) → EndsIn text last → drop (length text - length last) text ≡ last
left_is text last e =
    let size : length text - length last ≡ length e.front = omega (arith, ap length e.is, length-append e.front last) in
    ap (λ n. drop n text) size ∙ ap (drop (length e.front)) e.is ∙ drop_at e.front last (length e.front) refl

-- the LFs before a later place
pub counted_up : (text : Bytes) (at to : ℕ) → at ≤ to → count_by is_lf (take at text) + count_by is_lf (take (to - at) (drop at text)) ≡ count_by is_lf (take to text)
counted_up text at to h =
    let on : at + (to - at) ≡ to = omega arith in
    sym (sum_by-append (λ b. cond (is_lf b) 1 0) (take at text) (take (to - at) (drop at text)))
    ∙ ap (count_by is_lf) (sym (take-add at (to - at) text) ∙ ap (λ n. take n text) on)

-- ---- the places of a cursor

-- after a line
pub line_given : (text line after : Bytes) (at : ℕ) (old new : Position) → old.text ≡ text → old.at ≡ at
    → ◌≡◌ {A = Option (Bytes × Bytes)} (Some (line, after)) (line_at (take (length text - at) (drop at text)))
    → new.text ≡ text → new.at ≡ length text - length after → ◌≡◌ {A = Option (Bytes × Bytes)} (Some (line, rest new)) (line_at (rest old))
line_given text line after at old new t a e u b =
    let here : ◌≡◌ {A = Option (Bytes × Bytes)} (Some (line, after)) (line_at (drop at text)) = e ∙ ap line_at (take_rest text at) in
    let left : EndsIn text after = ends_after text (drop at text) after (ends_dropped at text) (ends_line (drop at text) line after (sym here)) in
    let is : rest new ≡ after = (λ i. drop (b i) (u i)) ∙ left_is text after left in
    ap (λ (r : Bytes). Some (line, r)) is ∙ here ∙ (λ i. line_at (drop (sym a i) (sym t i)))

pub line_within : (text line after : Bytes) (at : ℕ) → ◌≡◌ {A = Option (Bytes × Bytes)} (Some (line, after)) (line_at (take (length text - at) (drop at text))) → length after ≤ length (drop at text)
line_within text line after at e =
    rest_within (drop at text) after (ends_line (drop at text) line after (sym (e ∙ ap line_at (take_rest text at))))

-- after the end of a block and the LF that may follow
pub rest_after : (text skipped : Bytes) (at end : ℕ) (new : Position) → new.text ≡ text → new.at ≡ length text - length skipped
    → skipped ≡ skip_lf (drop end (drop at text)) → rest new ≡ skipped
rest_after text skipped at end new u b s =
    let left : EndsIn text (skip_lf (drop end (drop at text))) = ends_after text (drop at text) (skip_lf (drop end (drop at text))) (ends_dropped at text) (ends_after (drop at text) (drop end (drop at text)) (skip_lf (drop end (drop at text))) (ends_dropped end (drop at text)) (ends_skipped (drop end (drop at text)))) in
    (λ i. drop (b i) (u i)) ∙ left_is text skipped (subst (EndsIn text) (sym s) left)

pub place_left : (text : Bytes) (at left : ℕ) (old : Position) → old.text ≡ text → old.at ≡ at → left ≤ length (rest old) → at ≤ length text → at ≤ length text - left
place_left text at left old t a h k = omega (arith, h, length-drop old.at old.text, ap length t, a)

pub block_given : (text head bytes skipped : Bytes) (at size end : ℕ) (old new : Position) → old.text ≡ text → old.at ≡ at
    → (let here = take (length text - at) (drop at text) in block_after (extent_in head) here ≡ Ok (take size here, drop end here))
    → (let here = take (length text - at) (drop at text) in bytes ≡ take size here)
    → (let here = take (length text - at) (drop at text) in skipped ≡ skip_lf (take (length here - end) (drop end here)))
    → new.text ≡ old.text → new.at ≡ length old.text - length skipped
    → block_in head (rest old) ≡ Ok (bytes, rest new)
unfolding block_in
block_given text head bytes skipped at size end old new t a e b s u v =
    let here = take (length text - at) (drop at text) in
    let after = drop at text in
    let all : here ≡ after = take_rest text at in
    let taken : block_after (extent_in head) after ≡ Ok (take size after, drop end after) = subst (λ (h : Bytes). block_after (extent_in head) h ≡ Ok (take size h, drop end h)) all e in
    let block : bytes ≡ take size after = b ∙ ap (take size) all in
    let left : skipped ≡ skip_lf (drop end after) = s ∙ ap skip_lf (take_rest here end ∙ ap (drop end) all) in
    let moved : rest new ≡ skipped = rest_after text skipped at end new (u ∙ t) (v ∙ ap (λ (x : Bytes). length x - length skipped) t) left in
    let parts : Bytes × Bytes = (take size after, drop end after) in
    let made : Bytes → Bytes → Result (Bytes × Bytes) Why = λ x y. Ok (x, y) in
    (λ i. block_in head (drop (a i) (t i)))
    ∙ ok_then (block_after (extent_in head) after) (λ x. made x.0 (skip_lf x.1)) parts (made (take size after) (skip_lf (drop end after))) taken refl
    ∙ (λ i. made (sym block i) ((sym left ∙ sym moved) i))
