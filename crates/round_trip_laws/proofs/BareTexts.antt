-- What is written of a history: its text without aliases, with the lines of each commit's aliases after it; and the
-- history that both parts give again.
use Rattle.std.proofs.Common.{◌≡◌, ℕ, suc, ◌+◌, ◌<◌, false, List, [], ◌∷◌, ◌++◌, Option, Some, None, map, flat_map, refl, sym, ap, subst, ◌∙◌, arith, append_assoc, append-nil, eq-eqb, ne_eqb, codes}
use Rattle.std.specs.Prelude.{◌==◌, filter}
use Rattle.std.specs.List.{AllByRecursion}
use Rattle.std.proofs.lemmas.Bool.{cond-true, cond-false}
use Rattle.std.proofs.lemmas.List.Elements.{filter-append}
use Rattle.plain_model.specs.declared.operation.Content.TheVariants.{Blob as OfBlob, Object}
use Rattle.plain_model.specs.declared.operation.FileOp.{FileOp}
use Rattle.plain_model.specs.declared.operation.FileOp.TheVariants.{Modify, Delete, Copy, Rename, DeleteAll}
use Rattle.plain_model.specs.declared.event.PlainEvent.{PlainEvent}
use Rattle.plain_model.specs.declared.event.PlainEvent.TheVariants.{Blob, Commit, Tag, Reset, Pass}
use Rattle.plain_model.specs.declared.person.Signed.{Signed}
use Rattle.plain_model.specs.declared.raw.RawContent.TheVariants as spelled
use Rattle.plain_model.specs.declared.raw.RawOp.TheVariants as rawop
use Rattle.plain_model.specs.Paths.{Bytes}
use Rattle.plain_model.specs.Snapshots.{commit_mark}
use Rattle.plain_model.specs.Text.{alias_text, data_block, encoding_text, event_text, line, mark_text, marked, op_text, parents_text, person, raw_op_text, reset_text, tagger_text, target_text}
use Rattle.plain_model.specs.Trees.{TreeOf}
use Rattle.stream_grammar.specs.Known.{alias_marks, aliases_for, with_aliases}
use Rattle.field_laws.proofs.FieldsAgain.{both}
use Rattle.round_trip_laws.proofs.Bare.{bare, bare_event, pairs, mark_bare, blob_mark_bare}
use Rattle.history_laws.specs.Placed.{ArePlaced}

-- ---- texts

-- the lines of an event's aliases
abbrev pub alias_lines : PlainEvent → Bytes
alias_lines (Commit id mark branch author committer encoding comment parents ops aliases) = flat_map (alias_text mark) aliases
alias_lines (Blob id mark bytes) = []
alias_lines (Tag id name target tagger comment mark) = []
alias_lines (Reset id branch target) = []
alias_lines (Pass id line) = []

module _ (whole : List PlainEvent) where
  op_bare : (op : FileOp) → op_text whole op ≡ op_text (bare whole) op
  op_bare (Modify mode (OfBlob b) path) = ap (λ n. line (raw_op_text (rawop.Modify mode (spelled.Marked n) path))) (sym (blob_mark_bare (bare whole) whole whole b))
  op_bare (Modify mode (Object digits) path) = refl
  op_bare (Delete path) = refl
  op_bare (Copy source target) = refl
  op_bare (Rename source target) = refl
  op_bare DeleteAll = refl

  ops_bare : (ops : List FileOp) → flat_map (op_text whole) ops ≡ flat_map (op_text (bare whole)) ops
  ops_bare [] = refl
  ops_bare (op ∷ ops) = λ i. op_bare op i ++ ops_bare ops i

  merges_bare : (ps : List ℕ) → flat_map (λ q. line (codes "merge " ++ marked (commit_mark whole q))) ps ≡ flat_map (λ q. line (codes "merge " ++ marked (commit_mark (bare whole) q))) ps
  merges_bare [] = refl
  merges_bare (p ∷ ps) = λ i. line (codes "merge " ++ marked (sym (mark_bare whole p) i)) ++ merges_bare ps i

  parents_text_bare : (parents : List ℕ) → parents_text whole parents ≡ parents_text (bare whole) parents
  parents_text_bare [] = refl
  parents_text_bare (p ∷ ps) = λ i. line (codes "from " ++ marked (sym (mark_bare whole p) i)) ++ merges_bare ps i

  encoding_bare : (encoding : Option Bytes) → encoding_text whole encoding ≡ encoding_text (bare whole) encoding
  encoding_bare None = refl
  encoding_bare (Some e) = refl

  tagger_bare : (tagger : Option Signed) → tagger_text whole tagger ≡ tagger_text (bare whole) tagger
  tagger_bare None = refl
  tagger_bare (Some who) = refl

  target_bare : (target : Option ℕ) → target_text whole target ≡ target_text (bare whole) target
  target_bare None = refl
  target_bare (Some c) = ap (λ n. line (codes "from " ++ marked n)) (sym (mark_bare whole c))

  reset_bare : (tips : TreeOf ℕ) (branch : Bytes) (parents : List ℕ) → reset_text whole tips branch parents ≡ reset_text (bare whole) tips branch parents
  reset_bare tips branch [] = refl
  reset_bare tips branch (p ∷ ps) = refl

  pub event_bare : (tips : TreeOf ℕ) (e : PlainEvent) → event_text whole tips e ≡ event_text (bare whole) tips (bare_event e) ++ alias_lines e
  event_bare tips (Commit id mark branch author committer encoding comment parents ops aliases) =
      (λ i. reset_bare tips branch parents i ++ line (codes "commit " ++ branch) ++ line (codes "mark " ++ marked mark) ++ line (codes "author " ++ person author)
      ++ line (codes "committer " ++ person committer) ++ encoding_bare encoding i ++ data_block comment ++ parents_text_bare parents i ++ ops_bare ops i ++ line [] ++ flat_map (alias_text mark) aliases)
      ∙ ap (λ (t : Bytes). t ++ flat_map (alias_text mark) aliases) (sym (append-nil _))
  event_bare tips (Blob id mark bytes) = sym (append-nil _)
  event_bare tips (Tag id name target tagger comment mark) =
      (λ i. line (codes "tag " ++ name) ++ mark_text mark ++ target_bare (Some target) i ++ tagger_bare tagger i ++ data_block comment) ∙ sym (append-nil _)
  event_bare tips (Reset id branch target) = (λ i. line (codes "reset " ++ branch) ++ target_bare target i) ∙ sym (append-nil _)
  event_bare tips (Pass id bytes) = sym (append-nil _)

-- ---- the history again

-- a commit that is none of these has no alias among them
none_for : (c : ℕ) (aliases : List (ℕ × ℕ)) → AllByRecursion (λ (a : ℕ × ℕ). (a.1 == c) ≡ false) aliases → aliases_for c aliases ≡ []
none_for c [] h = refl
none_for c (a ∷ aliases) h = ap alias_marks (cond-false (a.1 == c) (a ∷ filter (λ x. x.1 == c) aliases) (filter (λ x. x.1 == c) aliases) h.0) ∙ none_for c aliases h.1

-- a commit's own are all its own
own_for : (c : ℕ) (aliases : List ℕ) → aliases_for c (map (λ a. (a, c)) aliases) ≡ aliases
own_for c [] = refl
own_for c (a ∷ aliases) =
    ap alias_marks (cond-true (c == c) ((a, c) ∷ filter (λ x. x.1 == c) (map (λ y. (y, c)) aliases)) (filter (λ x. x.1 == c) (map (λ y. (y, c)) aliases)) (eq-eqb c c refl))
    ∙ ap (λ (l : List ℕ). a ∷ l) (own_for c aliases)

alias_marks_parts : (a b : List (ℕ × ℕ)) → alias_marks (a ++ b) ≡ alias_marks a ++ alias_marks b
alias_marks_parts [] b = refl
alias_marks_parts (x ∷ a) b = ap (λ (l : List ℕ). x.0 ∷ l) (alias_marks_parts a b)

for_parts : (c : ℕ) (a b : List (ℕ × ℕ)) → aliases_for c (a ++ b) ≡ aliases_for c a ++ aliases_for c b
for_parts c a b = ap alias_marks (filter-append (λ x. x.1 == c) a b) ∙ alias_marks_parts (filter (λ x. x.1 == c) a) (filter (λ x. x.1 == c) b)

all_more : (c : ℕ) (a b : List (ℕ × ℕ)) → AllByRecursion (λ (x : ℕ × ℕ). (x.1 == c) ≡ false) a → AllByRecursion (λ (x : ℕ × ℕ). (x.1 == c) ≡ false) b → AllByRecursion (λ (x : ℕ × ℕ). (x.1 == c) ≡ false) (a ++ b)
all_more c [] b h k = k
all_more c (x ∷ a) b h k = (h.0, all_more c a b h.1 k)

-- aliases of another commit
others_own : (c id : ℕ) (aliases : List ℕ) → (id == c) ≡ false → AllByRecursion (λ (x : ℕ × ℕ). (x.1 == c) ≡ false) (map (λ a. (a, id)) aliases)
others_own c id [] h = tt
others_own c id (a ∷ aliases) h = (h, others_own c id aliases h)

-- aliases of the events from a place on are of no commit before it
later_pairs : (c k : ℕ) (events : List PlainEvent) → ArePlaced k events → c < k → AllByRecursion (λ (x : ℕ × ℕ). (x.1 == c) ≡ false) (pairs events)
later_pairs c k [] h l = tt
later_pairs c k (Commit id mark branch author committer encoding comment parents ops aliases ∷ events) h l =
    all_more c (map (λ a. (a, id)) aliases) (pairs events) (others_own c id aliases (ne_eqb id c (λ e. absurd (let here = h.0 in omega (arith, e, here))))) (later_pairs c (suc k) events h.1 (omega arith))
later_pairs c k (Blob id mark bytes ∷ events) h l = later_pairs c (suc k) events h.1 (omega arith)
later_pairs c k (Tag id name target tagger comment mark ∷ events) h l = later_pairs c (suc k) events h.1 (omega arith)
later_pairs c k (Reset id branch target ∷ events) h l = later_pairs c (suc k) events h.1 (omega arith)
later_pairs c k (Pass id line ∷ events) h l = later_pairs c (suc k) events h.1 (omega arith)

-- aliases of commits below a place
abbrev AreBelow : ℕ → List (ℕ × ℕ) → Type 0
AreBelow k aliases = AllByRecursion (λ (x : ℕ × ℕ). x.1 < k) aliases

below_more : (k : ℕ) (a b : List (ℕ × ℕ)) → AreBelow k a → AreBelow (suc k) b → AreBelow (suc k) (a ++ b)
below_more k [] b h g = g
below_more k (x ∷ a) b h g = (let low = h.0 in omega arith, below_more k a b h.1 g)

own_below : (id k : ℕ) (aliases : List ℕ) → id ≡ k → AreBelow (suc k) (map (λ a. (a, id)) aliases)
own_below id k [] e = tt
own_below id k (a ∷ aliases) e = (omega arith, own_below id k aliases e)

below_apart : (k : ℕ) (a : List (ℕ × ℕ)) → AreBelow k a → AllByRecursion (λ (x : ℕ × ℕ). (x.1 == k) ≡ false) a
below_apart k [] h = tt
below_apart k (x ∷ a) h = (ne_eqb x.1 k (λ e. absurd (let low = h.0 in omega (arith, e, low))), below_apart k a h.1)

wider : (k : ℕ) (a : List (ℕ × ℕ)) → AreBelow k a → AreBelow (suc k) a
wider k [] h = tt
wider k (x ∷ a) h = (let low = h.0 in omega arith, wider k a h.1)

-- the events from a place on have their aliases again
again_from : (k : ℕ) (front : List (ℕ × ℕ)) (events : List PlainEvent) → AreBelow k front → ArePlaced k events → with_aliases (front ++ pairs events) (bare events) ≡ events
again_from k front [] b h = refl
again_from k front (Commit id mark branch author committer encoding comment parents ops aliases ∷ events) b h =
    let own = map (λ a. (a, id)) aliases in
    let here : id ≡ k = h.0 in
    let its : aliases_for id (front ++ (own ++ pairs events)) ≡ aliases =
    for_parts id front (own ++ pairs events)
    ∙ ap (λ (l : List ℕ). l ++ aliases_for id (own ++ pairs events)) (none_for id front (subst (λ n. AllByRecursion (λ (x : ℕ × ℕ). (x.1 == n) ≡ false) front) (sym here) (below_apart k front b)))
    ∙ for_parts id own (pairs events)
    ∙ ap (λ (l : List ℕ). aliases_for id own ++ l) (none_for id (pairs events) (later_pairs id (suc k) events h.1 (omega arith)))
    ∙ append-nil (aliases_for id own) ∙ own_for id aliases in
    let rest : with_aliases (front ++ (own ++ pairs events)) (bare events) ≡ events =
    ap (λ (l : List (ℕ × ℕ)). with_aliases l (bare events)) (sym (append_assoc front own (pairs events)))
    ∙ again_from (suc k) (front ++ own) events (below_more k front own b (own_below id k aliases here)) h.1 in
    λ i. Commit id mark branch author committer encoding comment parents ops (its i) ∷ rest i
again_from k front (Blob id mark bytes ∷ events) b h = ap (λ (l : List PlainEvent). Blob id mark bytes ∷ l) (again_from (suc k) front events (wider k front b) h.1)
again_from k front (Tag id name target tagger comment mark ∷ events) b h = ap (λ (l : List PlainEvent). Tag id name target tagger comment mark ∷ l) (again_from (suc k) front events (wider k front b) h.1)
again_from k front (Reset id branch target ∷ events) b h = ap (λ (l : List PlainEvent). Reset id branch target ∷ l) (again_from (suc k) front events (wider k front b) h.1)
again_from k front (Pass id line ∷ events) b h = ap (λ (l : List PlainEvent). Pass id line ∷ l) (again_from (suc k) front events (wider k front b) h.1)

pub has_them_again : (events : List PlainEvent) → ArePlaced 1 events → with_aliases (pairs events) (bare events) ≡ events
has_them_again events h = again_from 1 [] events tt h
