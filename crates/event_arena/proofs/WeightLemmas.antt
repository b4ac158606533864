-- What a list of events weighs.
use Rattle.std.proofs.Common.{◌≡◌, ◌∙◌, ℕ, zero, suc, ◌+◌, ◌≤◌, List, [], ◌∷◌, Option, Some, None, ap, length, drop, arith, length-append}
use Rattle.std.proofs.Math.ListN.{set}
use Rattle.std.proofs.lemmas.List.{length-map}
use Rattle.std.proofs.lemmas.List.Sums.{sum_by-cons, sum_by-take-drop}
use Rattle.std.proofs.lemmas.Option.{none-some, same_Some}
use Rattle.std.specs.Prelude.{IfSome, flat_map, map, slice_get}
use Rattle.plain_model.specs.declared.id.AnyId.TheVariants as any
use Rattle.plain_model.specs.declared.operation.Content.TheVariants.{Blob as OfBlob, Object}
use Rattle.plain_model.specs.declared.operation.FileOp.{FileOp}
use Rattle.plain_model.specs.declared.operation.FileOp.TheVariants.{Modify, Delete, Copy, Rename, DeleteAll}
use Rattle.plain_model.specs.declared.event.PlainEvent.{PlainEvent}
use Rattle.plain_model.specs.declared.event.PlainEvent.TheVariants as plain
use Rattle.plain_model.specs.Lookups.{marks_of, op_blobs, own_marks, referents_of}
use Rattle.event_arena.specs.Needs.{event_need, need}
use Rattle.event_arena.specs.Weights.{event_weight, weight_of}
use Rattle.event_arena.proofs.ListLemmas.{drop_item}

-- a bound of more is a bound of less
pub bound_less : (most : Option ℕ) (less more : ℕ) → less ≤ more → IfSome most (λ m. more ≤ m) → IfSome most (λ m. less ≤ m)
bound_less None less more h b = tt
bound_less (Some m) less more h b = omega arith

-- ---- one event more or less

module _ (es : List PlainEvent) (k : ℕ) (e : PlainEvent) (at : slice_get es k ≡ Some e) where
  pub weight_left : weight_of (drop k es) ≡ event_weight e + weight_of (drop (suc k) es)
  weight_left = ap weight_of (drop_item es k e at) ∙ sum_by-cons event_weight e (drop (suc k) es)

  pub weight_part : event_weight e ≤ weight_of es
  weight_part = let whole = sum_by-take-drop event_weight es k in let left = weight_left in omega arith

-- another in the place of one
pub weight_set : (es : List PlainEvent) (k : ℕ) (e new : PlainEvent) → slice_get es k ≡ Some e → weight_of (set es k new) + event_weight e ≡ weight_of es + event_weight new
weight_set [] k e new at = absurd (none-some e at)
weight_set (x ∷ es) zero e new at =
    let same = ap event_weight (same_Some x e at) in
    let before = sum_by-cons event_weight x es in
    let after = sum_by-cons event_weight new es in
    omega arith
weight_set (x ∷ es) (suc k) e new at =
    let rest = weight_set es k e new at in
    let before = sum_by-cons event_weight x es in
    let after = sum_by-cons event_weight x (set es k new) in
    omega arith

-- ---- events need no more than they weigh

blobs_ops : (ops : List FileOp) → length (flat_map op_blobs ops) ≤ length ops
blobs_ops [] = omega arith
blobs_ops (op ∷ ops) = rw (length-append (op_blobs op) (flat_map op_blobs ops)) (let a = one op in let b = blobs_ops ops in omega arith)
  where
    one : (op : FileOp) → length (op_blobs op) ≤ 1
    one (Modify mode (OfBlob b) path) = omega arith
    one (Modify mode (Object digits) path) = omega arith
    one (Delete path) = omega arith
    one (Copy source target) = omega arith
    one (Rename source target) = omega arith
    one DeleteAll = omega arith

own_need : (e : PlainEvent) → event_need e ≤ event_weight e
own_need (plain.Commit id mark branch author committer encoding comment parents ops aliases) =
    let e = plain.Commit id mark branch author committer encoding comment parents ops aliases in
    let named : length (referents_of e) ≡ length parents + length (flat_map op_blobs ops)
    = length-append (map any.Commit parents) (flat_map op_blobs ops) ∙ ap (λ n. n + length (flat_map op_blobs ops)) (length-map parents any.Commit) in
    let marks : length (own_marks e) ≡ suc (length aliases) = length-map (mark ∷ aliases) (λ m. (m, any.Commit id)) in
    let blobs = blobs_ops ops in
    omega arith
own_need (plain.Blob id mark bytes) = omega arith
own_need (plain.Tag id name target tagger comment None) = omega arith
own_need (plain.Tag id name target tagger comment (Some mark)) = omega arith
own_need (plain.Reset id branch None) = omega arith
own_need (plain.Reset id branch (Some target)) = omega arith
own_need (plain.Pass id line) = omega arith

pub need_weight : (es : List PlainEvent) → need es ≤ weight_of es
need_weight [] = omega arith
need_weight (e ∷ es) =
    let referents = length-append (referents_of e) (flat_map referents_of es) in
    let marks = length-append (own_marks e) (marks_of es) in
    let own = own_need e in
    let rest = need_weight es in
    let whole = sum_by-cons event_weight e es in
    omega arith
