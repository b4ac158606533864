-- The examples, computed.
use Rattle.std.proofs.Common.{◌≡◌, [], ◌∷◌, map, refl}
use Rattle.plain_model.specs.Lookups.{id_of}
use Rattle.squash_laws.specs.Examples.{commits}
use Rattle.coalesce_laws.specs.Coalesce.{coalesce_of}
use Rattle.coalesce_laws.specs.Examples.{dates_back, dates_back_once, dates_back_twice, forked, last_two_once, merged, repeated, repeated_once, three, three_once}

pub near_joined : coalesce_of 100 (map id_of repeated) repeated ≡ repeated_once
near_joined = refl

pub far_apart : coalesce_of 99 (map id_of repeated) repeated ≡ repeated
far_apart = refl

pub one_selected : coalesce_of 100 (commits (2 ∷ 4 ∷ [])) repeated ≡ repeated
one_selected = refl

pub three_joined : coalesce_of 100 (map id_of three) three ≡ three_once
three_joined = refl

pub last_two_joined : coalesce_of 100 (commits (4 ∷ 3 ∷ [])) three ≡ last_two_once
last_two_joined = refl

pub two_ends : coalesce_of 200 (commits (2 ∷ 4 ∷ [])) three ≡ three
two_ends = refl

pub fork_stays : coalesce_of 1000 (map id_of forked) forked ≡ forked
fork_stays = refl

pub merge_stays : coalesce_of 1000 (map id_of merged) merged ≡ merged
merge_stays = refl

pub joined_first : coalesce_of 100 (map id_of dates_back) dates_back ≡ dates_back_once
joined_first = refl

pub joined_second : coalesce_of 100 (map id_of dates_back) dates_back_once ≡ dates_back_twice
joined_second = refl
