use Rattle.soundness_laws.proofs.Positions.{no_mark, mark_twice, tag_mark_twice, alias_twice, own_alias, parent_twice, later_parent, root_on_tip, no_path, later_target}
use Rattle.soundness_laws.proofs.laws.what_reading_never_gives.Goals as goal

pub returns : goal.returns
returns c = record {
  no_mark = no_mark;
  mark_twice = mark_twice;
  tag_mark_twice = tag_mark_twice;
  alias_twice = alias_twice;
  own_alias = own_alias;
  parent_twice = parent_twice;
  later_parent = later_parent;
  root_on_tip = root_on_tip;
  no_path = no_path;
  later_target = later_target;
}
