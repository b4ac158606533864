use Rattle.std.proofs.Common.{◌≡◌, ◌∙◌, false, sym, arith}
use Rattle.path_expunge.specs.Apart.{is_in}
use Rattle.path_expunge.proofs.FolderLemmas.{folder_ends, next_folder}
use Rattle.path_expunge.proofs.sides.has_folder_in.Goals as goal
use Rattle.path_expunge.proofs.sides.has_folder_in.Goals.{else-path-place-eq47-via-then-path-place-eq47+else-has, else-path-place-eq47-via-else-path-place-eq47}

pub loop-place-preserved : goal.loop-place-preserved
loop-place-preserved c =
    next_folder (λ folder. is_in folder c.args.paths.now ≡ false) c.args.path.now c.loop-place.place c.loop-place.invariant (λ slash. elim c.else-path-place-eq47.branch [
      | else-path-place-eq47-via-then-path-place-eq47+else-has w ↦ sym w.has.ensures ∙ w.if-has.false
      | else-path-place-eq47-via-else-path-place-eq47 w ↦ absurd (w.if-path-place-eq47.false slash)
    ])

pub returns : goal.returns
returns c none folder below =
    let ends = (folder_ends folder c.args.path.now below).low in
    c.loop-place.invariant folder (let test = c.loop-place-test.false in omega arith) below
