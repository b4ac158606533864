use Rattle.std.proofs.Common.{List, [], ◌∷◌, codes, refl, inr}
use Rattle.plain_model.specs.Fields.{block_after, block_in, content_in, data_text, delimited, extent_in, last_path_in, mark_in, mode_in, modify_in, name_in, path_by, path_in, person_in, quoted_path, turn}
use Rattle.plain_model.specs.Parts.{cut_at, line_at, mark_of, name_of, number_of, number_within, person_parts, rest_after, when_after, when_of, zone_of}
use Rattle.production_laws.specs.Raw.{op_spelled, ref_spelled}
use Rattle.production_laws.specs.Texts.{Part}
use Rattle.production_laws.specs.Texts.Part.{Comment, Line, WithData}
use Rattle.production_laws.proofs.examples.events_are_spelled.Goals as goal

parts : List Part
parts = Line (codes "blob") ∷ Line (codes "mark :1") ∷ WithData (codes "data 2") (codes "hi") ∷ Line (codes "commit refs/heads/b") ∷ Line (codes "mark :2") ∷ Line (codes "committer Ann <a@b> 1 +0000") ∷ WithData (codes "data 0") [] ∷ Comment (codes "# the bytes of f") ∷ Line (codes "M 644 inline f") ∷ WithData (codes "data 1") (codes "x") ∷ Line (codes "reset refs/heads/c") ∷ Line (codes "from :2") ∷ []

pub returns-clause-spelled : goal.returns-clause-spelled
unfolding parts line_at block_after block_in data_text delimited extent_in mark_in name_in person_in cut_at mark_of name_of number_of number_within person_parts rest_after when_after when_of zone_of ref_spelled op_spelled modify_in mode_in content_in last_path_in path_in path_by quoted_path turn
returns-clause-spelled c = (parts, _, (_, refl, refl, refl, (_, refl, refl, refl, (_, _, refl, refl, refl, refl, (_, refl, refl, refl, (_, refl, refl, refl, (_, refl, refl, refl, (_, _, refl, refl, refl, refl, (_, refl, refl, (_, refl, refl, refl, (_, _, refl, refl, refl, refl, (_, refl, refl, refl, (_, refl, refl, refl, refl)))))))))))), (_, (_, _, refl, (refl, refl), (_, _, refl, (refl, refl), (_, _, refl, refl, refl))), (_, (_, _, refl, (refl, refl), (_, _, refl, (refl, refl), (_, _, refl, (refl, refl), (_, _, refl, refl, (_, refl, (_, (_, _, _, refl, (refl, refl), refl, refl), refl)))))), (_, (_, _, refl, (refl, refl), (_, _, refl, (refl, refl), refl)), refl))), inr (refl, refl))

pub returns-clause-history : goal.returns-clause-history
unfolding mode_in content_in last_path_in path_in path_by quoted_path turn mark_in
returns-clause-history c = refl
