-- Faults of parts of a message, together.
use Rattle.std.proofs.Common.{◌≡◌, ℕ, zero, suc, ◌+◌, ◌<◌, ◌≤◌, ◌==◌, Bool, true, false, Option, Some, None, List, [], ◌∷◌, ◌++◌, length, get_or, refl, sym, ap, ◌∙◌, arith}
use Rattle.std.proofs.lemmas.Bool.{and_parts, eq-eqb, eqb-true, true≢false}
use Rattle.std.specs.Prelude.{IsTrue, is_some}
use Rattle.memchr.specs.Find.{OccursAt}
use Rattle.plain_model.specs.declared.event.PlainEvent.{PlainEvent}
use Rattle.plain_model.specs.declared.fault.Fault.{Fault}
use Rattle.plain_model.specs.declared.fault.Fault.TheVariants as fault
use Rattle.plain_model.specs.Parts.{begins}
use Rattle.plain_model.specs.Paths.{Bytes}
use Rattle.event_arena.specs.declared.field.Role.TheVariants.{Author, Committer, Tagger}
use Rattle.mailbox_laws.specs.Boxes.{Message}
use Rattle.mailbox_laws.specs.Headers.{said}
use Rattle.mailbox_laws.specs.Landing.{check_faults, check_faults_of, choice_faults, commit_meant, end_faults, fault_unless, faults_of, first_of, is_either, is_identity, is_moment, line_faults, lowest, meaning_faults, meant, meant_by, role_faults, tag_meant, value_faults}
use Rattle.mailbox_reader.specs.Judged.{IsRead}
use Rattle.mailbox_reader.specs.Lower.{lower}
use Rattle.mailbox_reader.specs.Reading.{value_of}
use Rattle.mailbox_reader.specs.declared.reading.Said.{Said}
use Rattle.mailbox_reader.proofs.HeadLines.{three_lines}

-- of two lists
pub lowest_append : (xs ys : List Fault) → lowest (xs ++ ys) ≡ lower (lowest xs) (lowest ys)
unfolding lowest
lowest_append [] ys = refl
lowest_append (f ∷ fs) ys = ap (λ o. Some (first_of f o)) (lowest_append fs ys) ∙ go (lowest fs) (lowest ys)
  where
    go : (x y : Option Fault) → Some (first_of f (lower x y)) ≡ lower (Some (first_of f x)) y
    go None y = refl
    go (Some g) None = refl
    go (Some g) (Some h) = ap (λ (e : Fault). Some e) (three_lines f g h)

pub both : (xs ys : List Fault) (x y z : Option Fault) → x ≡ lowest xs → y ≡ lowest ys → z ≡ lower x y → z ≡ lowest (xs ++ ys)
both xs ys x y z is1 is2 is = rw (is, is1, is2) (sym (lowest_append xs ys))

-- ---- the beginning of a text

begun : (value text : Bytes) → length value ≤ length text → ((j : ℕ) → j < length value → get_or text j 0 ≡ get_or value j 0) → begins value text ≡ true
begun [] text fits same = refl
begun (v ∷ value) [] fits same = absurd (omega arith)
begun (v ∷ value) (b ∷ text) fits same =
    let first : (v == b) ≡ true = eq-eqb v b (sym (same 0 (omega arith))) in
    rw first (begun value text (omega arith) (λ j low. same (suc j) (omega arith)))

length_begun : (value text : Bytes) → begins value text ≡ true → length value ≤ length text
length_begun [] text is = omega arith
length_begun (v ∷ value) [] is = absurd (true≢false (sym is))
length_begun (v ∷ value) (b ∷ text) is = let rest = length_begun value text (and_parts (v == b) (begins value text) is).1 in omega arith

same_begun : (value text : Bytes) → begins value text ≡ true → (j : ℕ) → j < length value → get_or text j 0 ≡ get_or value j 0
same_begun [] text is j low = absurd (omega arith)
same_begun (v ∷ value) [] is j low = absurd (true≢false (sym is))
same_begun (v ∷ value) (b ∷ text) is zero low = sym (eqb-true v b (and_parts (v == b) (begins value text) is).0)
same_begun (v ∷ value) (b ∷ text) is (suc j) low = same_begun value text (and_parts (v == b) (begins value text) is).1 j (omega arith)

pub occurs_begins : (value text : Bytes) → OccursAt text value 0 → begins value text ≡ true
occurs_begins value text h =
    begun value text (let fits = h.fits in omega arith) (λ j low. (let same : j ≡ 0 + j = omega arith in ap (λ n. get_or text n 0) same) ∙ h.reads j low)

pub begins_occurs : (value text : Bytes) → begins value text ≡ true → OccursAt text value 0
begins_occurs value text is = record {
  fits = (let short = length_begun value text is in omega arith);
  reads = λ j low. (let same : 0 + j ≡ j = omega arith in ap (λ n. get_or text n 0) same) ∙ same_begun value text is j low;
}

pub is_begun : (value text : Bytes) (r : Bool) → (IsTrue r → OccursAt text value 0) → (OccursAt text value 0 → IsTrue r) → r ≡ begins value text
is_begun value text true there back = sym (occurs_begins value text (there refl))
is_begun value text false there back = go (begins value text) refl
  where
    go : (t : Bool) → begins value text ≡ t → false ≡ begins value text
    go true is = absurd (true≢false (sym (back (begins_occurs value text is))))
    go false is = sym is

-- ---- a message

-- all parts, in their order
chain : (c l a b t e m k : List Fault)
    → lowest (c ++ l ++ a ++ b ++ t ++ e ++ m ++ k)
    ≡ lower (lower (lower (lower (lower (lower (lower (lowest c) (lowest l)) (lowest a)) (lowest b)) (lowest t)) (lowest e)) (lowest m)) (lowest k)
chain c l a b t e m k =
    lowest_append (c ++ l ++ a ++ b ++ t ++ e ++ m) k ∙ ap (λ x. lower x (lowest k))
    (lowest_append (c ++ l ++ a ++ b ++ t ++ e) m ∙ ap (λ x. lower x (lowest m))
    (lowest_append (c ++ l ++ a ++ b ++ t) e ∙ ap (λ x. lower x (lowest e))
    (lowest_append (c ++ l ++ a ++ b) t ∙ ap (λ x. lower x (lowest t))
    (lowest_append (c ++ l ++ a) b ∙ ap (λ x. lower x (lowest b))
    (lowest_append (c ++ l) a ∙ ap (λ x. lower x (lowest a)) (lowest_append c l))))))

pub judged : (events : List PlainEvent) (m : Message) (line : ℕ) (s : Said) (bad : Option Fault) (end : ℕ) (has_body : Bool)
    (c a b t e g k : Option Fault) → IsRead m line s bad end has_body
    → c ≡ lowest (fault_unless (is_either (value_of s.mark) (value_of s.name)) (fault.BadMessage line))
    → a ≡ lowest (value_faults is_identity fault.BadMessage (value_of s.author) ++ value_faults is_moment fault.BadMessage (value_of s.author_date))
    → b ≡ lowest (value_faults is_identity fault.BadMessage (value_of s.committer) ++ value_faults is_moment fault.BadMessage (value_of s.committer_date))
    → t ≡ lowest (value_faults is_identity fault.BadMessage (value_of s.tagger) ++ value_faults is_moment fault.BadMessage (value_of s.tagger_date))
    → e ≡ lowest (fault_unless has_body (fault.BadMessage end))
    → g ≡ lowest (value_faults (λ value. is_some (commit_meant events value)) fault.NoSuchTarget (value_of s.mark)
    ++ value_faults (λ value. is_some (tag_meant events value)) fault.NoSuchTarget (value_of s.name))
    → k ≡ lowest (check_faults_of (meant_by events (value_of s.mark) (value_of s.name)) (value_of s.check))
    → lower (lower (lower (lower (lower (lower (lower c bad) a) b) t) e) g) k ≡ lowest (faults_of events m)
unfolding faults_of meant said
judged events m line s bad end has_body c a b t e g k r c-is a-is b-is t-is e-is g-is k-is =
    rw (
      c-is,
      r.malformed,
      a-is,
      b-is,
      t-is,
      e-is,
      g-is,
      k-is,
      r.place,
      r.ends,
      r.body,
      r.says.mark,
      r.says.name,
      r.says.author,
      r.says.author_date,
      r.says.committer,
      r.says.committer_date,
      r.says.tagger,
      r.says.tagger_date,
      r.says.check,
    )
    (sym (chain (choice_faults m) (line_faults m.headers) (role_faults m Author) (role_faults m Committer) (role_faults m Tagger)
    (end_faults m) (meaning_faults events m) (check_faults events m)))
