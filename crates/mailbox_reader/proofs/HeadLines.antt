-- Header lines and bodies, line by line.
use Rattle.std.proofs.Common.{◌≡◌, ℕ, zero, suc, ◌+◌, ◌<◌, ◌≤◌, ◌==◌, Bool, true, false, Option, Some, None, List, [], ◌∷◌, ◌++◌, length, take, drop, refl, sym, ap, subst, ◌∙◌, append_assoc, arith, add-one, codes}
use Rattle.std.proofs.lemmas.Bool.Decides.{nat_tests}
use Rattle.std.proofs.lemmas.Bool.{eqb-true, ltb-false, ltb-true, true≢false}
use Rattle.std.specs.Prelude.{is_some, nat_lt, option_map}
use Rattle.plain_model.specs.declared.fault.Fault.{Fault}
use Rattle.plain_model.specs.declared.fault.Fault.TheVariants as fault
use Rattle.plain_model.specs.Parts.{◌>>=◌}
use Rattle.plain_model.specs.Paths.{Bytes}
use Rattle.edit_laws.proofs.Limits.{not_many}
use Rattle.mailbox_laws.specs.Boxes.{InBody, InHeaders, Rest, is_rule, rest_from}
use Rattle.mailbox_laws.specs.Headers.{header_in, or_else, own_value, value_if, value_in}
use Rattle.mailbox_laws.specs.Landing.{fault_line, fault_unless, first_of, line_faults, lowest}
use Rattle.mailbox_laws.specs.Written.{Header as Pair}
use Rattle.mailbox_laws.proofs.Sent.{body_headers}
use Rattle.mailbox_reader.specs.Lower.{lower}
use Rattle.mailbox_reader.specs.Reading.{Goes, Noted, Reads, Say, said_with, value_of}
use Rattle.mailbox_reader.specs.declared.reading.Header.{Header}
use Rattle.mailbox_reader.specs.declared.reading.Said.{Said}

-- ---- what is there, or another

pub or_none : {A : Type 0} (x : Option A) → or_else x None ≡ x
or_none (Some a) = refl
or_none None = refl

or_assoc : {A : Type 0} (x y z : Option A) → or_else (or_else x y) z ≡ or_else x (or_else y z)
or_assoc (Some a) y z = refl
or_assoc None y z = refl

-- ---- the fault at the lower line

is_below : (m n : ℕ) → m < n → nat_lt m n ≡ true
is_below m n l = grind (arith, nat_tests)

-- the first of three at the lowest line
pub three_lines : (f g h : Fault) → first_of f (Some (first_of g (Some h))) ≡ first_of (first_of f (Some g)) (Some h)
three_lines f g h = go (nat_lt (fault_line h) (fault_line g)) (nat_lt (fault_line g) (fault_line f)) refl refl
  where
    go : (hg gf : Bool) → nat_lt (fault_line h) (fault_line g) ≡ hg → nat_lt (fault_line g) (fault_line f) ≡ gf
        → first_of f (Some (first_of g (Some h))) ≡ first_of (first_of f (Some g)) (Some h)
    go true true lower-h lower-g =
        let one = ltb-true (fault_line h) (fault_line g) lower-h in
        let two = ltb-true (fault_line g) (fault_line f) lower-g in
        let below = is_below (fault_line h) (fault_line f) (omega arith) in
        rw (lower-h, lower-g, below, lower-h) refl
    go true false lower-h lower-g = rw (lower-h, lower-g) refl
    go false true lower-h lower-g = rw (lower-h, lower-g, lower-h) refl
    go false false lower-h lower-g =
        let one = ltb-false (fault_line h) (fault_line g) lower-h in
        let two = ltb-false (fault_line g) (fault_line f) lower-g in
        let above = not_many (fault_line h) (fault_line f) (omega arith) in
        rw (lower-h, lower-g, above) refl

pub lower_assoc : (x : Option Fault) (f : Fault) (z : Option Fault) → lower (lower x (Some f)) z ≡ lower x (Some (first_of f z))
lower_assoc None f z = refl
lower_assoc (Some e) f None = refl
lower_assoc (Some e) f (Some g) = ap (λ (x : Fault). Some x) (sym (three_lines e f g))

-- ---- header lines

-- one more header of a name
one : (n : Bytes) (seen : Option (ℕ × Bytes)) (line : Bytes) (next : ℕ) (h : Pair) (old new : Option Header) (all : Option (ℕ × Bytes))
    → header_in line ≡ Some h → value_of new ≡ said_with next h n old
    → or_else (or_else seen (own_value n (next, line))) (value_of old) ≡ all → or_else seen (value_of new) ≡ all
one n seen line next h old new all read noted whole =
    ap (λ x. or_else seen x) noted
    ∙ ap (λ (r : Option Pair). or_else seen (or_else (option_map (λ (value : Bytes). (next, value)) (r >>= value_if n)) (value_of old))) (sym read)
    ∙ sym (or_assoc seen (own_value n (next, line)) (value_of old))
    ∙ whole

-- a line that is none gives nothing
none : (n : Bytes) (seen : Option (ℕ × Bytes)) (line : Bytes) (next : ℕ) (old : Option Header) (all : Option (ℕ × Bytes))
    → header_in line ≡ None
    → or_else (or_else seen (own_value n (next, line))) (value_of old) ≡ all → or_else seen (value_of old) ≡ all
none n seen line next old all read whole =
    ap (λ x. or_else x (value_of old)) (sym (or_none seen))
    ∙ ap (λ (r : Option Pair). or_else (or_else seen (option_map (λ (value : Bytes). (next, value)) (r >>= value_if n))) (value_of old)) (sym read)
    ∙ whole

pub reads_header : (line : Bytes) (lines : List Bytes) (next : ℕ) (all : Rest) (first : ℕ) (s t : Said) (found : Option Fault) (h : Pair)
    → (length line == 0) ≡ false → header_in line ≡ Some h → Noted next h s t
    → Reads (line ∷ lines) next all first s found → Reads lines (next + 1) all first t found
reads_header [] lines next all first s t found h some read noted k = absurd (true≢false some)
reads_header (b ∷ bs) lines next all first s t found h some read noted k = record {
  says = record {
    mark = at (codes "Event-Mark") s.mark t.mark noted.mark k.says.mark;
    name = at (codes "Tag-Name") s.name t.name noted.name k.says.name;
    author = at (codes "Author") s.author t.author noted.author k.says.author;
    author_date = at (codes "Author-Date") s.author_date t.author_date noted.author_date k.says.author_date;
    committer = at (codes "Committer") s.committer t.committer noted.committer k.says.committer;
    committer_date = at (codes "Committer-Date") s.committer_date t.committer_date noted.committer_date k.says.committer_date;
    tagger = at (codes "Tagger") s.tagger t.tagger noted.tagger k.says.tagger;
    tagger_date = at (codes "Tagger-Date") s.tagger_date t.tagger_date noted.tagger_date k.says.tagger_date;
    check = at (codes "Check-Text") s.check t.check noted.check k.says.check;
  };
  bad = ap (λ (r : Option Pair). lower found (lowest (fault_unless (is_some r) (fault.BadMessage next) ++ line_faults later)))
      (sym read) ∙ k.bad;
  end = (let same : next + 1 + length later ≡ next + suc (length later) = omega arith in same) ∙ k.end;
  body = k.body;
  later = k.later;
}
  where
    later : List (ℕ × Bytes)
    later = (rest_from InHeaders (next + 1) lines).headers

    at : (n : Bytes) (old new : Option Header) → value_of new ≡ said_with next h n old
        → or_else (or_else (value_in n later) (own_value n (next, b ∷ bs))) (value_of old) ≡ value_in n all.headers
        → or_else (value_in n later) (value_of new) ≡ value_in n all.headers
    at n old new is whole = one n (value_in n later) (b ∷ bs) next h old new (value_in n all.headers) read is whole

pub reads_bad : (line : Bytes) (lines : List Bytes) (next : ℕ) (all : Rest) (first : ℕ) (s : Said) (found : Option Fault)
    → (length line == 0) ≡ false → header_in line ≡ None
    → Reads (line ∷ lines) next all first s found → Reads lines (next + 1) all first s (lower found (Some (fault.BadMessage next)))
unfolding lowest
reads_bad [] lines next all first s found some read k = absurd (true≢false some)
reads_bad (b ∷ bs) lines next all first s found some read k = record {
  says = record {
    mark = at (codes "Event-Mark") s.mark k.says.mark;
    name = at (codes "Tag-Name") s.name k.says.name;
    author = at (codes "Author") s.author k.says.author;
    author_date = at (codes "Author-Date") s.author_date k.says.author_date;
    committer = at (codes "Committer") s.committer k.says.committer;
    committer_date = at (codes "Committer-Date") s.committer_date k.says.committer_date;
    tagger = at (codes "Tagger") s.tagger k.says.tagger;
    tagger_date = at (codes "Tagger-Date") s.tagger_date k.says.tagger_date;
    check = at (codes "Check-Text") s.check k.says.check;
  };
  bad = lower_assoc found (fault.BadMessage next) (lowest (line_faults later))
      ∙ ap (λ (r : Option Pair). lower found (lowest (fault_unless (is_some r) (fault.BadMessage next) ++ line_faults later))) (sym read)
      ∙ k.bad;
  end = (let same : next + 1 + length later ≡ next + suc (length later) = omega arith in same) ∙ k.end;
  body = k.body;
  later = k.later;
}
  where
    later : List (ℕ × Bytes)
    later = (rest_from InHeaders (next + 1) lines).headers

    at : (n : Bytes) (old : Option Header)
        → or_else (or_else (value_in n later) (own_value n (next, b ∷ bs))) (value_of old) ≡ value_in n all.headers
        → or_else (value_in n later) (value_of old) ≡ value_in n all.headers
    at n old whole = none n (value_in n later) (b ∷ bs) next old (value_in n all.headers) read whole

pub lower_none : (x : Option Fault) → lower x None ≡ x
lower_none None = refl
lower_none (Some f) = refl

-- at an empty line nothing is to come
pub at_empty : (lines : List Bytes) (next : ℕ) (all : Rest) (first : ℕ) (s : Said) (found : Option Fault)
    → Reads ([] ∷ lines) next all first s found
    → Say [] all.headers s × (found ≡ lowest (line_faults all.headers)) × (next ≡ first + length all.headers)
    × (all.body ≡ (rest_from InBody (next + 1) lines).body) × (all.later ≡ (rest_from InBody (next + 1) lines).later)
unfolding lowest
at_empty lines next all first s found k =
    let gone = body_headers (next + 1) lines in
    let kept = subst (λ (hs : List (ℕ × Bytes)). Say hs all.headers s) gone k.says in
    let worst = ap (λ (hs : List (ℕ × Bytes)). lower found (lowest (line_faults hs))) (sym gone) ∙ k.bad in
    let count = ap (λ (hs : List (ℕ × Bytes)). next + length hs) (sym gone) ∙ k.end in
    (kept, sym (lower_none found) ∙ worst, (let same : next ≡ next + 0 = omega arith in same) ∙ count, k.body, k.later)

pub at_last : (next : ℕ) (all : Rest) (first : ℕ) (s : Said) (found : Option Fault) → Reads [] next all first s found
    → Say [] all.headers s × (found ≡ lowest (line_faults all.headers)) × (next ≡ first + length all.headers)
    × (all.body ≡ None) × (all.later ≡ [])
unfolding lowest
at_last next all first s found k =
    (k.says, sym (lower_none found) ∙ k.bad, (let same : next ≡ next + 0 = omega arith in same) ∙ k.end, k.body, k.later)

pub empty_line : (line : Bytes) → (length line == 0) ≡ true → line ≡ []
empty_line [] is = refl
empty_line (b ∷ bs) is = absurd (let none = eqb-true (length (b ∷ bs)) 0 is in omega arith)

-- ---- bodies

next_of : (k : ℕ) (xs : List Bytes) (x : Bytes) (ys : List Bytes) → drop k xs ≡ x ∷ ys
    → (drop (suc k) xs ≡ ys) × (take (suc k) xs ≡ take k xs ++ x ∷ []) × (suc k ≤ length xs)
next_of zero [] x ys is = absurd (nil_cons is)
  where
    nil_cons : ◌≡◌ {A = List Bytes} [] (x ∷ ys) → ⊥
    nil_cons e = let z : ◌≡◌ {A = ℕ} 0 1 = cc in omega arith
next_of zero (z ∷ zs) x ys is = (cc, cc, omega arith)
next_of (suc k) [] x ys is = absurd (nil_cons is)
  where
    nil_cons : ◌≡◌ {A = List Bytes} [] (x ∷ ys) → ⊥
    nil_cons e = let z : ◌≡◌ {A = ℕ} 0 1 = cc in omega arith
next_of (suc k) (z ∷ zs) x ys is =
    let rest = next_of k zs x ys is in
    (rest.0, ap (λ (ls : List Bytes). z ∷ ls) rest.1, (let fits = rest.2 in omega arith))

pub goes_on : (line : Bytes) (lines : List Bytes) (next count : ℕ) (whole : List Bytes) (first : ℕ) → is_rule line ≡ false
    → Goes (line ∷ lines) next count whole first → Goes lines (next + 1) (count + 1) whole first
goes_on line lines next count whole first other g =
    let more = next_of count whole line lines g.left in
    record {
      left = ap (λ n. drop n whole) (add-one count) ∙ more.0;
      within = (let fits = more.2 in omega arith);
      body = g.body ∙ step ∙ sym (ap (λ n. option_map (λ ls. take n whole ++ ls) (rest_from InBody (next + 1) lines).body) (add-one count)
          ∙ ap (λ taken. option_map (λ ls. taken ++ ls) (rest_from InBody (next + 1) lines).body) more.1
          ∙ regroup (rest_from InBody (next + 1) lines).body);
      later = g.later ∙ step_later;
    }
  where
    step : option_map (λ ls. take count whole ++ ls) (rest_from InBody next (line ∷ lines)).body
        ≡ option_map (λ ls. take count whole ++ line ∷ ls) (rest_from InBody (next + 1) lines).body
    step = rw other (twice (rest_from InBody (next + 1) lines).body)
      where
        twice : (b : Option (List Bytes)) → option_map (λ ls. take count whole ++ ls) (option_map (λ ls. line ∷ ls) b)
            ≡ option_map (λ ls. take count whole ++ line ∷ ls) b
        twice None = refl
        twice (Some ls) = refl

    step_later : (rest_from InBody next (line ∷ lines)).later ≡ (rest_from InBody (next + 1) lines).later
    step_later = rw other refl

    regroup : (b : Option (List Bytes)) → option_map (λ ls. (take count whole ++ line ∷ []) ++ ls) b
        ≡ option_map (λ ls. take count whole ++ line ∷ ls) b
    regroup None = refl
    regroup (Some ls) = ap (λ (x : List Bytes). Some x) (append_assoc (take count whole) (line ∷ []) ls)

-- ---- header lines as they are met

pub stopped_at : (lines : List Bytes) (line : Bytes) (more : List Bytes) (next : ℕ) (all : Rest) (first : ℕ) (s : Said) (found : Option Fault)
    → lines ≡ line ∷ more → (length line == 0) ≡ true → Reads lines next all first s found
    → Say [] all.headers s × (found ≡ lowest (line_faults all.headers)) × (next ≡ first + length all.headers)
    × (all.body ≡ (rest_from InBody (next + 1) more).body) × (all.later ≡ (rest_from InBody (next + 1) more).later)
stopped_at lines line more next all first s found cut none k =
    at_empty more next all first s found
    (subst (λ (l : Bytes). Reads (l ∷ more) next all first s found) (empty_line line none)
    (subst (λ (ls : List Bytes). Reads ls next all first s found) cut k))

pub header_met : (lines : List Bytes) (line : Bytes) (more : List Bytes) (next : ℕ) (all : Rest) (first : ℕ) (s t u : Said)
    (found worst : Option Fault) (h : Pair)
    → lines ≡ line ∷ more → (length line == 0) ≡ false → header_in line ≡ Some h → Noted next h s t → u ≡ t → worst ≡ found
    → Reads lines next all first s found → Reads more (next + 1) all first u worst
header_met lines line more next all first s t u found worst h cut some read noted now same k =
    rw (now, same) (reads_header line more next all first s t found h some read noted
    (subst (λ (ls : List Bytes). Reads ls next all first s found) cut k))

pub none_met : (lines : List Bytes) (line : Bytes) (more : List Bytes) (next : ℕ) (all : Rest) (first : ℕ) (s u : Said)
    (found put worst : Option Fault)
    → lines ≡ line ∷ more → (length line == 0) ≡ false → header_in line ≡ None → put ≡ lower found (Some (fault.BadMessage next))
    → u ≡ s → worst ≡ put → Reads lines next all first s found → Reads more (next + 1) all first u worst
none_met lines line more next all first s u found put worst cut some read is now same k =
    rw (now, same, is) (reads_bad line more next all first s found some read
    (subst (λ (ls : List Bytes). Reads ls next all first s found) cut k))
