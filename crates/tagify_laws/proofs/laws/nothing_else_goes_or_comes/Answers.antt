use Rattle.tagify_laws.proofs.Done.{none_goes, now_below, tags_alone_come}
use Rattle.tagify_laws.proofs.laws.nothing_else_goes_or_comes.Goals as goal

pub returns : goal.returns
returns c = record {
  goes = none_goes;
  comes = tags_alone_come;
  below = λ next selected events new h below d. now_below next selected events new h d below;
}
