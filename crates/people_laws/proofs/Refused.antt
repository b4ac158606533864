-- The first line of an authors file that is wrong, and the first selected event that can't move.
use Rattle.std.proofs.Common.{◌≡◌, ℕ, ◌+◌, Bool, true, false, cond, List, [], ◌∷◌, ◌++◌, length, refl, sym, ap, subst, ◌∙◌, arith, append_assoc, length-append, true≢false, Option, Some, None, Result, Ok, Err, ℤ}
use Rattle.std.specs.Prelude.{IsSome, unwrap_or}
use Rattle.std.specs.List.{AllByRecursion}
use Rattle.plain_model.specs.declared.fault.Fault.{Fault}
use Rattle.plain_model.specs.declared.fault.Fault.TheVariants as fault
use Rattle.plain_model.specs.declared.id.AnyId.{AnyId}
use Rattle.plain_model.specs.declared.event.PlainEvent.{PlainEvent}
use Rattle.plain_model.specs.Lookups.{find_event, number_of}
use Rattle.plain_model.specs.Paths.{Bytes}
use Rattle.history_laws.proofs.Lists.{all_join}
use Rattle.event_fields.specs.Shifts.{PlainZone}
use Rattle.mailbox_laws.specs.Boxes.{lines_in}
use Rattle.people_laws.specs.Authors.{Author, and_then, author_and, author_of, authored_by, authors_from, authors_in, authors_of, is_passed_over}
use Rattle.people_laws.specs.Dates.{can_move, dated_unless, first_stuck, time_offset_of}
use Rattle.people_laws.specs.Refusing.{CanMove, IsFirstStuck, IsFirstWrong, IsRight}
use Rattle.people_laws.proofs.Clean.{and_then_ok}

-- ---- authors files

and_then_err : (author : Author) (r : Result (List Author) ℕ) (m : ℕ) → and_then author r ≡ Err m → r ≡ Err m
and_then_err author (Ok rest) m is = absurd cc
and_then_err author (Err line) m is = let same : line ≡ m = cc in ap (λ n. Err n) same

module _ (bytes : Bytes) where
  wrong_from : (xs ls : List Bytes) → lines_in bytes ≡ xs ++ ls → AllByRecursion IsRight xs → (n : ℕ) → n ≡ length xs + 1
      → (m : ℕ) → authors_from n ls ≡ Err m → IsFirstWrong bytes (fault.BadAuthors m)
  wrong_from xs [] split right n at m is = absurd cc
  wrong_from xs (line ∷ ls) split right n at m is =
      go (is_passed_over line) refl (author_of line) refl is
      (λ r e. wrong_from (xs ++ line ∷ []) ls (split ∙ sym (append_assoc xs (line ∷ []) ls))
      (all_join IsRight xs (line ∷ []) right (r, tt)) (n + 1)
      (let more = length-append xs (line ∷ []) in omega arith) m e)
    where
      go : (t : Bool) → is_passed_over line ≡ t → (o : Option Author) → author_of line ≡ o
          → cond t (authors_from (n + 1) ls) (author_and n o (authors_from (n + 1) ls)) ≡ Err m
          → (IsRight line → authors_from (n + 1) ls ≡ Err m → IsFirstWrong bytes (fault.BadAuthors m))
          → IsFirstWrong bytes (fault.BadAuthors m)
      go true y o e is f = f (λ no. absurd (true≢false (sym y ∙ no))) is
      go false y None e is f =
          let same : n ≡ m = cc in
          record {
            before = xs;
            line = line;
            after = ls;
            split = split;
            all_right = right;
            counts = y;
            wrong = e;
            is = ap (λ k. fault.BadAuthors k) (sym same ∙ at);
          }
      go false y (Some author) e is f = f (λ no. subst IsSome (sym e) refl) (and_then_err author (authors_from (n + 1) ls) m is)

  right_from : (n : ℕ) (ls : List Bytes) (authors : List Author) → authors_from n ls ≡ Ok authors → AllByRecursion IsRight ls
  right_from n [] authors is = tt
  right_from n (line ∷ ls) authors is = go (is_passed_over line) refl (author_of line) refl is (λ rest e. right_from (n + 1) ls rest e)
    where
      go : (t : Bool) → is_passed_over line ≡ t → (o : Option Author) → author_of line ≡ o
          → cond t (authors_from (n + 1) ls) (author_and n o (authors_from (n + 1) ls)) ≡ Ok authors
          → ((rest : List Author) → authors_from (n + 1) ls ≡ Ok rest → AllByRecursion IsRight ls)
          → AllByRecursion IsRight (line ∷ ls)
      go true y o e is f = (λ no. absurd (true≢false (sym y ∙ no)), f authors is)
      go false y None e is f = absurd cc
      go false y (Some author) e is f =
          let more = and_then_ok author (authors_from (n + 1) ls) authors is in
          (λ no. subst IsSome (sym e) refl, f more.0 more.1)

pub why_wrong : (bytes : Bytes) (events : List PlainEvent) (why : Fault) → authors_of bytes events ≡ Err why
    → IsFirstWrong bytes why
why_wrong bytes events why d = go (authors_in bytes) refl d
  where
    go : (r : Result (List Author) ℕ) → authors_in bytes ≡ r → authored_by r events ≡ Err why → IsFirstWrong bytes why
    go (Ok authors) is d = absurd cc
    go (Err m) is d =
        let same : fault.BadAuthors m ≡ why = cc in
        subst (IsFirstWrong bytes) same (wrong_from bytes [] (lines_in bytes) refl tt 1 refl m is)

pub all_lines_right : (bytes : Bytes) (events new : List PlainEvent) → authors_of bytes events ≡ Ok new
    → AllByRecursion IsRight (lines_in bytes)
all_lines_right bytes events new d = go (authors_in bytes) refl d
  where
    go : (r : Result (List Author) ℕ) → authors_in bytes ≡ r → authored_by r events ≡ Ok new
        → AllByRecursion IsRight (lines_in bytes)
    go (Ok authors) is d = right_from bytes 1 (lines_in bytes) authors is
    go (Err m) is d = absurd cc

-- ---- dates

module _ (seconds : ℤ) (zone : Option PlainZone) (events : List PlainEvent) where
  stuck_from : (set xs ids : List AnyId) → set ≡ xs ++ ids → AllByRecursion (CanMove seconds zone events) xs → (n : ℕ)
      → first_stuck seconds zone events ids ≡ Some n → IsFirstStuck seconds zone set events (fault.MomentRange n)
  stuck_from set xs [] split free n is = absurd cc
  stuck_from set xs (id ∷ ids) split free n is =
      go (can_move seconds zone (find_event id events)) refl is
      (λ y e. stuck_from set (xs ++ id ∷ []) ids (split ∙ sym (append_assoc xs (id ∷ []) ids))
      (all_join (CanMove seconds zone events) xs (id ∷ []) free (y, tt)) n e)
    where
      go : (t : Bool) → can_move seconds zone (find_event id events) ≡ t
          → cond t (first_stuck seconds zone events ids) (Some (unwrap_or (number_of id events) 0)) ≡ Some n
          → (CanMove seconds zone events id → first_stuck seconds zone events ids ≡ Some n → IsFirstStuck seconds zone set events (fault.MomentRange n))
          → IsFirstStuck seconds zone set events (fault.MomentRange n)
      go true y is f = f y is
      go false y is f =
          let same : unwrap_or (number_of id events) 0 ≡ n = cc in
          record {
            before = xs;
            first = id;
            after = ids;
            split = split;
            all_free = free;
            stuck = y;
            is = ap (λ k. fault.MomentRange k) (sym same);
          }

  none_stuck : (ids : List AnyId) → first_stuck seconds zone events ids ≡ None → AllByRecursion (CanMove seconds zone events) ids
  none_stuck [] is = tt
  none_stuck (id ∷ ids) is = go (can_move seconds zone (find_event id events)) refl is (none_stuck ids)
    where
      go : (t : Bool) → can_move seconds zone (find_event id events) ≡ t
          → cond t (first_stuck seconds zone events ids) (Some (unwrap_or (number_of id events) 0)) ≡ None
          → (first_stuck seconds zone events ids ≡ None → AllByRecursion (CanMove seconds zone events) ids)
          → AllByRecursion (CanMove seconds zone events) (id ∷ ids)
      go true y is f = (y, f is)
      go false y is f = absurd cc

  pub why_stuck : (set : List AnyId) (why : Fault) → time_offset_of seconds zone set events ≡ Err why
      → IsFirstStuck seconds zone set events why
  why_stuck set why d = go (first_stuck seconds zone events set) refl d
    where
      go : (stuck : Option ℕ) → first_stuck seconds zone events set ≡ stuck
          → dated_unless seconds zone stuck set events ≡ Err why → IsFirstStuck seconds zone set events why
      go None is d = absurd cc
      go (Some n) is d =
          let same : fault.MomentRange n ≡ why = cc in
          subst (IsFirstStuck seconds zone set events) same (stuck_from set [] set refl tt n is)

  pub all_move : (set : List AnyId) (new : List PlainEvent) → time_offset_of seconds zone set events ≡ Ok new
      → AllByRecursion (CanMove seconds zone events) set
  all_move set new d = go (first_stuck seconds zone events set) refl d
    where
      go : (stuck : Option ℕ) → first_stuck seconds zone events set ≡ stuck
          → dated_unless seconds zone stuck set events ≡ Ok new → AllByRecursion (CanMove seconds zone events) set
      go None is d = none_stuck set is
      go (Some n) is d = absurd cc
