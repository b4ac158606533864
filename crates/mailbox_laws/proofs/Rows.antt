-- The worked boxes.
use Rattle.std.proofs.Common.{refl}
use Rattle.std.specs.Fmt.{digits}
use Rattle.plain_model.specs.Fields.{mark_in}
use Rattle.plain_model.specs.Parts.{cut_at, mark_of, name_of, number_of, number_within, person_parts, when_of, zone_of}
use Rattle.listing.specs.Examples.{exported}
use Rattle.mailbox_laws.specs.Boxes.{box_in, rule}
use Rattle.mailbox_laws.specs.Examples.{FaultyBoxes, LandedBoxes, TagsOfOneName, WrittenBoxes, two_commits}
use Rattle.mailbox_laws.specs.Headers.{header_in, identity_in, said}
use Rattle.mailbox_laws.specs.Landing.{box_faults, faults_of, land_of, lowest, meant}
use Rattle.mailbox_laws.specs.Written.{box_of}

pub written_boxes : WrittenBoxes
unfolding digits exported rule two_commits box_of land_of box_faults faults_of lowest meant header_in identity_in said box_in mark_in cut_at mark_of name_of number_of number_within person_parts when_of zone_of
written_boxes = record { commit = refl; child = refl; tag = refl; again = refl }

pub landed_boxes : LandedBoxes
unfolding digits rule two_commits land_of box_faults faults_of lowest meant header_in identity_in said box_in mark_in cut_at mark_of name_of number_of number_within person_parts when_of zone_of
landed_boxes = record { empty = refl; better = refl; rules = refl; twice = refl; tag = refl }

pub faulty_boxes : FaultyBoxes
unfolding digits rule two_commits land_of box_faults faults_of lowest meant header_in identity_in said box_in mark_in cut_at mark_of name_of number_of number_within person_parts when_of zone_of
faulty_boxes = record {
  no_rule = refl;
  empty_line = refl;
  carriage_return = refl;
  neither = refl;
  both = refl;
  no_colon = refl;
  no_name = refl;
  ended = refl;
  nameless = refl;
  late = refl;
  blob = refl;
  no_mark = refl;
  no_tag = refl;
  check = refl;
  last = refl;
}

pub tags_of_one_name : TagsOfOneName
unfolding digits rule box_of land_of box_faults faults_of lowest meant header_in identity_in said box_in mark_in cut_at mark_of name_of number_of number_within person_parts when_of zone_of
tags_of_one_name = record { lands = refl; refused = refl }
