-- The examples, computed.
use Rattle.std.proofs.Common.{◌≡◌, [], ◌∷◌, codes, map, refl, Ok, Err}
use Rattle.std.specs.Fmt.{digits}
use Rattle.plain_model.specs.declared.fault.Fault.TheVariants as fault
use Rattle.plain_model.specs.Lookups.{id_of}
use Rattle.squash_laws.specs.Examples.{commits}
use Rattle.tagify_laws.specs.Examples.{both_tagged, idle_last, idle_line, idle_middle, idle_sides, line_tagged, middle_tagged, name_taken, sides_tagged}
use Rattle.tagify_laws.specs.Tagify.{tagify_of}

pub one_tagged : tagify_of 5 (map id_of idle_middle) idle_middle ≡ Ok middle_tagged
unfolding digits
one_tagged = refl

pub more_tagged : tagify_of 6 (map id_of idle_last) idle_last ≡ Ok both_tagged
unfolding digits
more_tagged = refl

pub none_tagged : tagify_of 5 (commits (2 ∷ 4 ∷ [])) idle_middle ≡ Ok idle_middle
unfolding digits
none_tagged = refl

pub whole_line : tagify_of 10 (map id_of idle_line) idle_line ≡ Ok line_tagged
unfolding digits
whole_line = refl

pub both_sides : tagify_of 5 (map id_of idle_sides) idle_sides ≡ Ok sides_tagged
unfolding digits
both_sides = refl

pub one_taken : tagify_of 5 (map id_of name_taken) name_taken ≡ Err (fault.NameTaken (codes "emptycommit-3"))
unfolding digits
one_taken = refl

pub none_wanted : tagify_of 5 (commits (1 ∷ [])) name_taken ≡ Ok name_taken
unfolding digits
none_wanted = refl
