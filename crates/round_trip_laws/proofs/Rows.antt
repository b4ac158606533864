-- The worked histories, by computation.
use Rattle.std.proofs.Common.{IsSome, ◌≡◌, Some, refl, arith, ◌==◌, Bool, ◌||◌, false, true, IsSome, cond, None}
use Rattle.std.specs.Fmt.{digits}
use Rattle.plain_model.specs.Numbers.{decimal_of}
use Rattle.plain_model.specs.Parts.{cut_at, number_of, number_within, mark_of, name_of, zone_of, when_of, when_after, person_parts, rest_after}
use Rattle.plain_model.specs.Fields.{mark_in, name_in, person_in, turn, path_by, quoted_path, path_in, mode_in, content_in, last_path_in, extent_in, data_text}
use Rattle.plain_model.specs.Text.{text}
use Rattle.plain_model.specs.Trees.{Tree}
use Rattle.stream_grammar.specs.Lines.{history_in}
use Rattle.stream_grammar.specs.Worked.{lines}
use Rattle.round_trip_laws.specs.AsRead.{IsAsRead}
use Rattle.round_trip_laws.specs.Worked.{two_branches, two_branches_lines}

pub is_written : text two_branches ≡ lines two_branches_lines
unfolding digits decimal_of
is_written = refl

pub is_read : history_in (lines two_branches_lines) ≡ Some two_branches
unfolding cut_at number_of number_within mark_of name_of zone_of when_of when_after person_parts rest_after mark_in name_in person_in turn path_by quoted_path path_in mode_in content_in last_path_in extent_in data_text
is_read = refl

-- each of the three commits has a tree
pub three_trees : (a b c : Bool) (x y z : Tree) → (c || (b || (a || false))) ≡ true → IsSome (cond a (Some x) (cond b (Some y) (cond c (Some z) None)))
three_trees true b c x y z h = refl
three_trees false true c x y z h = refl
three_trees false false true x y z h = refl
three_trees false false false x y z h = absurd cc

pub is_as_read : IsAsRead two_branches
is_as_read = record {
  sound = record {
    formed = (
      (refl, refl),
      (
        (refl, refl),
        (
          (refl, refl, refl, (refl, omega arith, omega arith), (refl, omega arith, omega arith), tt, tt, refl, omega arith, (refl, (refl, tt)), tt, refl),
          (
            (refl, refl, refl),
            (
              (refl, refl, refl, (refl, omega arith, omega arith), (refl, omega arith, omega arith), refl, (refl, tt), refl, omega arith, (tt, (tt, tt)), (refl, (refl, tt)), refl),
              (
                (refl, refl, refl, (refl, omega arith, omega arith), (refl, omega arith, omega arith), tt, (refl, (refl, tt)), refl, omega arith, (tt, (tt, (tt, tt))), tt, refl),
                (
                  (refl, refl, tt),
                  (
                    (refl, refl, refl, (refl, omega arith, omega arith), refl),
                    (
                      (refl, refl, refl, tt, tt),
                      tt,
                    ),
                  ),
                ),
              ),
            ),
          ),
        ),
      ),
    );
    spelled = (
      tt,
      (
        (omega arith, omega arith),
        (
          ((omega arith, omega arith), ((tt, refl), ((tt, refl), tt)), tt),
          (
            tt,
            (
              ((omega arith, omega arith), ((refl, refl), ((refl, refl), tt)), ((omega arith, omega arith), ((omega arith, omega arith), tt))),
              (
                ((omega arith, omega arith), (tt, ((refl, refl), (refl, tt))), tt),
                (
                  tt,
                  (
                    (omega arith, omega arith),
                    (
                      tt,
                      tt,
                    ),
                  ),
                ),
              ),
            ),
          ),
        ),
      ),
    );
    trees = λ c h. three_trees (6 == c) (5 == c) (3 == c) _ _ _ h;
  };
  placed = (refl, (refl, (refl, (refl, (refl, (refl, (refl, (refl, (refl, tt)))))))));
  rooted = (tt, (tt, (refl, (tt, (tt, (tt, (tt, (tt, (tt, tt)))))))));
}
