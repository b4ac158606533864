use Rattle.std.proofs.Common.{◌≡◌, ◌∙◌, List, true, inl, inr, arith, take, ap}
use Rattle.std.specs.Prelude.{bytes_eq}
use Rattle.std.proofs.lemmas.Bool.{or_cases, or_left, or_right}
use Rattle.plain_model.proofs.Words.{bytes_eq_same}
use Rattle.plain_model.specs.Paths.{Bytes, is_below}
use Rattle.path_expunge.specs.Apart.{is_in}
use Rattle.path_expunge.proofs.FolderLemmas.{folder_ends, next_folder}
use Rattle.path_expunge.proofs.sides.add_folders.Goals as goal
use Rattle.path_expunge.proofs.sides.add_folders.Goals.{then-path-place-eq47+in_ok-add, else-path-place-eq47}

pub loop-place-preserved : goal.loop-place-preserved
loop-place-preserved c =
    let path = c.args.path.now in
    let k = c.loop-place.place in
    elim c.if-path-place-eq47.branch [
      | then-path-place-eq47+in_ok-add w ↦
          let own = take k path in
          let up : (folder : Bytes) → is_in folder c.loop-place.folders ≡ true → is_in folder c.if-path-place-eq47.folders ≡ true =
          λ folder h. ap (λ (set : List Bytes). is_in folder set) w.folders-is ∙ w.in_ok-add.ensures folder ∙ or_right (bytes_eq folder own) (is_in folder c.loop-place.folders) h in
          record {
            there = next_folder (λ folder. is_in folder c.if-path-place-eq47.folders ≡ true) path k (λ folder low below. up folder (c.loop-place.invariant.there folder low below))
                (λ slash. ap (λ (set : List Bytes). is_in own set) w.folders-is ∙ w.in_ok-add.ensures own ∙ or_left (bytes_eq own own) (is_in own c.loop-place.folders) (bytes_eq_same own));
            more = λ folder h. up folder (c.loop-place.invariant.more folder h);
          }
      | else-path-place-eq47 w ↦
          let up : (folder : Bytes) → is_in folder c.loop-place.folders ≡ true → is_in folder c.if-path-place-eq47.folders ≡ true =
          λ folder h. ap (λ (set : List Bytes). is_in folder set) w.folders-is ∙ h in
          record {
            there = next_folder (λ folder. is_in folder c.if-path-place-eq47.folders ≡ true) path k (λ folder low below. up folder (c.loop-place.invariant.there folder low below))
                (λ slash. absurd (w.if-path-place-eq47.false slash));
            more = λ folder h. up folder (c.loop-place.invariant.more folder h);
          }
    ]

pub returns : goal.returns
returns c folder h = elim (or_cases (is_below folder c.args.path.now) (is_in folder c.args.folders.now) h) [
  | inl below ↦
      let ends = (folder_ends folder c.args.path.now below).low in
      c.loop-place.invariant.there folder (let test = c.loop-place-test.false in omega arith) below
  | inr was ↦ c.loop-place.invariant.more folder was
]
