-- The small grammar has what the laws ask for.
use Rattle.std.proofs.Common.{◌≡◌, ℕ, Bool, true, false, cond, List, [], ◌∷◌, ◌++◌, drop, codes, Option, Some, None, Result, Ok, Err, refl, ap, subst}
use Rattle.std.specs.Prelude.{bytes_eq, ◌&&◌, ◌↔◌}
use Rattle.std.specs.List.{list_any}
use Rattle.plain_model.specs.Paths.{Bytes}
use Rattle.plain_model.specs.Parts.{number_of}
use Rattle.plain_model.specs.Fields.{first_word}
use Rattle.line_automaton.specs.Machine.{Next, outcome_from, outcome, all, none, IsCleanBefore, NoneIsClean, Stops, EndsEarly, Completes}
use Rattle.line_automaton.specs.Machine.Next.{More, Block, Until, Over}
use Rattle.line_automaton.specs.Machine.Mode.{InLine}
use Rattle.line_automaton.specs.Machine.Machine.{At}
use Rattle.line_automaton.specs.Machine.Outcome.{Reads, Refuses, Misses}
use Rattle.line_automaton.specs.Example.{ItemDefect, ItemsRead, with_part, counted_step, data_step, between_step, example}
use Rattle.line_automaton.specs.Example.ItemDefect.{UnknownLine, MissingData, RepeatedName}
use Rattle.line_automaton.proofs.Defects.{stops_where_refused, ends_from}
use Rattle.line_automaton.proofs.Judging.{is_spelled, one_first_defect}

-- ---- each state can be completed

abbrev data_expected : Bool → Bytes
data_expected true = codes "data 0" ++ 10 ∷ []
data_expected false = []

completes_at : (n : ℕ) (expected : Bool) (names parts : List Bytes)
    → (last : ItemsRead) × (outcome_from example none (At n (InLine []) (record { expected = expected; names = names; parts = parts })) (data_expected expected) ≡ Reads last)
unfolding number_of
completes_at n true names parts = (_, refl)
completes_at n false names parts = (_, refl)

pub example_completes : Completes example
example_completes = record {
  complete = λ s. data_expected s.expected;
  completes = λ n s. completes_at n s.expected s.names s.parts;
}

pub stops : (bytes : Bytes) (n : ℕ) (why : ItemDefect) → Stops example bytes n why ↔ (outcome example all bytes ≡ Refuses n why)
stops bytes n why = stops_where_refused example example_completes bytes n why

pub ends_early : (bytes : Bytes) (n : ℕ) → EndsEarly example bytes n ↔ (outcome example all bytes ≡ Misses n)
ends_early bytes n = (λ h. h.entry, ends_from example example_completes bytes n)

-- ---- judging changes the names alone

abbrev pub AreSpelledAlike : ItemsRead → ItemsRead → Type 0
AreSpelledAlike s t = (s.expected ≡ t.expected) × (s.parts ≡ t.parts)

abbrev Follows : Result (ItemsRead × Next) ItemDefect → ItemsRead → Next → Type 0
Follows r new next = (other : ItemsRead) × (r ≡ Ok (other, next)) × AreSpelledAlike new other

read_or : ItemsRead → Result (ItemsRead × Next) ItemDefect → ItemsRead
read_or s (Ok made) = made.0
read_or s (Err why) = s

next_or : Next → Result (ItemsRead × Next) ItemDefect → Next
next_or next (Ok made) = made.1
next_or next (Err why) = next

follows : (x y new : ItemsRead) (of_x next : Next) → ◌≡◌ {A = Result (ItemsRead × Next) ItemDefect} (Ok (x, of_x)) (Ok (new, next)) → AreSpelledAlike x y → Follows (Ok (y, of_x)) new next
unfolding read_or next_or
follows x y new of_x next e alike =
    (y, ap (λ m. Ok (y, m)) (ap (next_or of_x) e), subst (λ q. AreSpelledAlike q y) (ap (read_or x) e) alike)

-- a state with other names
abbrev named : ItemsRead → List Bytes → ItemsRead
named s names = record s { names = names }

module _ (judge : Bool) (s : ItemsRead) (names : List Bytes) (line : Bytes) (new : ItemsRead) (next : Next) where
  data_alike : data_step s line ≡ Ok (new, next) → Follows (data_step (named s names) line) new next
  data_alike e = go (bytes_eq (first_word line) (codes "data")) (bytes_eq (first_word line) (codes "until")) (number_of (drop 5 line)) e
    where
      go : (t u : Bool) (o : Option ℕ) → cond t (counted_step s line o) (cond u (Ok (with_part s line, Until 6)) (Err MissingData)) ≡ Ok (new, next)
          → Follows (cond t (counted_step (named s names) line o) (cond u (Ok (with_part (named s names) line, Until 6)) (Err MissingData))) new next
      go true u None e = absurd cc
      go true u (Some n) e = follows (with_part s line) (with_part (named s names) line) new (Block n) next e (refl, refl)
      go false true o e = follows (with_part s line) (with_part (named s names) line) new (Until 6) next e (refl, refl)
      go false false o e = absurd cc

  between_alike : between_step judge s line ≡ Ok (new, next) → Follows (between_step false (named s names) line) new next
  between_alike e = go (bytes_eq (first_word line) (codes "item")) (judge && list_any (bytes_eq (drop 5 line)) s.names) (bytes_eq line (codes "end")) e
    where
      item : List Bytes → ItemsRead
      item earlier = record { expected = true; names = drop 5 line ∷ earlier; parts = line ∷ s.parts }

      go : (t u v : Bool) → cond t (cond {A = Result (ItemsRead × Next) ItemDefect} u (Err RepeatedName) (Ok (item s.names, More))) (cond v (Ok (with_part s line, Over)) (Err UnknownLine)) ≡ Ok (new, next)
          → Follows (cond {A = Result (ItemsRead × Next) ItemDefect} t (Ok (item names, More)) (cond v (Ok (with_part (named s names) line, Over)) (Err UnknownLine))) new next
      go true true v e = absurd cc
      go true false v e = follows (item s.names) (item names) new More next e (refl, refl)
      go false u true e = follows (with_part s line) (with_part (named s names) line) new Over next e (refl, refl)
      go false u false e = absurd cc

  step_named : example.step judge s line ≡ Ok (new, next) → Follows (example.step false (named s names) line) new next
  step_named e = go s.expected e
    where
      go : (t : Bool) → cond t (data_step s line) (between_step judge s line) ≡ Ok (new, next)
          → Follows (cond t (data_step (named s names) line) (between_step false (named s names) line)) new next
      go true e = data_alike e
      go false e = between_alike e

step_alike : (judge : Bool) (s t : ItemsRead) (line : Bytes) (new : ItemsRead) (next : Next) → AreSpelledAlike s t → example.step judge s line ≡ Ok (new, next)
    → Follows (example.step false t line) new next
step_alike judge s t line new next alike e =
    let is : named s t.names ≡ t = λ i. record { expected = alike.0 i; names = t.names; parts = alike.1 i } in
    subst (λ q. Follows (example.step false q line) new next) is (step_named judge s t.names line new next e)

-- what is read, whichever lines are judged, is spelled by the same lines and data
pub spelled : (j : ℕ → Bool) (bytes : Bytes) (s : ItemsRead) → outcome example j bytes ≡ Reads s → (t : ItemsRead) × (outcome example none bytes ≡ Reads t) × (s.parts ≡ t.parts)
spelled j bytes s h =
    let r = is_spelled example AreSpelledAlike (λ s. (refl, refl)) step_alike (λ s t bytes e. (refl, λ i. bytes ∷ e.1 i)) (λ s t e. e.0) j bytes s h in
    (r.0, r.1, r.2.1)

-- the texts alone fix the line of the first defect
pub one_defect : (bytes : Bytes) (n m : ℕ) → IsCleanBefore example bytes n → NoneIsClean example bytes n → IsCleanBefore example bytes m → NoneIsClean example bytes m → n ≡ m
one_defect = one_first_defect example AreSpelledAlike (λ s. (refl, refl)) step_alike (λ s t bytes e. (refl, λ i. bytes ∷ e.1 i)) (λ s t e. e.0)
