use Rattle.path_move_laws.proofs.Quick.{put_free, put_must, put_there}
use Rattle.path_move_laws.proofs.shortcuts.a_put_is_right.Goals as goal

pub returns : goal.returns
returns c = record {
  there = λ f mode content p old new m names does h. put_there f old m mode content p new names does h;
  free = λ f mode content p old new made m names does done one two. put_free f old m mode content p new names does made done one two;
  must = λ f mode content p old new m names does one apart. put_must f old m mode content p new names does one apart;
}
