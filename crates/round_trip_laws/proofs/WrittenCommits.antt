-- What is written of a commit leads from a place between events to one after it.
use Rattle.std.proofs.Common.{◌≡◌, ℕ, Bool, true, false, not, List, [], ◌∷◌, ◌++◌, Option, Some, None, refl, sym, ap, subst, ◌∙◌, codes, flat_map, append_assoc, append-nil, option_to_list, is_some}
use Rattle.std.specs.Prelude.{◌==◌, IsTrue, IsSome, IfSome}
use Rattle.std.specs.List.{AllByRecursion, list_any}
use Rattle.std.proofs.lemmas.Bool.{and_parts, cond-false, or_from, not-true, or_parts}
use Rattle.plain_model.specs.declared.operation.FileOp.{FileOp}
use Rattle.plain_model.specs.declared.event.PlainEvent.{PlainEvent}
use Rattle.plain_model.specs.declared.event.PlainEvent.TheVariants.{Commit}
use Rattle.plain_model.specs.declared.person.Signed.{Signed}
use Rattle.plain_model.specs.Histories.{tree, begun, folded}
use Rattle.plain_model.specs.Paths.{Bytes}
use Rattle.plain_model.specs.Soundness.{IsCommitOf, IsFormedOp, IsFormedSigned, RefersBack, are_distinct}
use Rattle.plain_model.specs.Snapshots.{commit_mark, refs}
use Rattle.plain_model.specs.Text.{line, marked, data_block, person, parents_text, encoding_text, reset_text, event_text, op_text, raw_op_text, raw_op}
use Rattle.plain_model.specs.Marks.{IsMark}
use Rattle.plain_model.specs.Trees.{Tree, TreeOf, at, has}
use Rattle.plain_model.specs.Parts.{has_no_lf}
use Rattle.plain_model.specs.Names.{is_name}
use Rattle.plain_model.proofs.Numbers.{eqb_turned}
use Rattle.stream_grammar.specs.declared.lines.Expected.{Expected}
use Rattle.stream_grammar.specs.declared.lines.Expected.TheVariants as expected
use Rattle.stream_grammar.specs.declared.lines.Word.TheVariants as word
use Rattle.stream_grammar.specs.Known.{Open, OpenCommit, next_id, with_parent}
use Rattle.stream_grammar.specs.Known.Open.{ACommit}
use Rattle.history_laws.proofs.LineLaws.{folded_more}
use Rattle.round_trip_laws.proofs.Points.{Point, point, Gives, line_goes, data_goes}
use Rattle.round_trip_laws.proofs.WrittenLines.{is_known, may_end, commit_leads, commit_mark_leads, author_leads, committer_leads, encoding_leads, commit_from_leads, merge_leads, empty_leads}
use Rattle.round_trip_laws.proofs.WrittenOps.{op_leads}
use Rattle.round_trip_laws.proofs.WrittenEvents.{IsAfter, GivesAfter, promise_more}
use Rattle.round_trip_laws.proofs.FoundAgain.{AreFound}

-- ---- parents that are apart

-- each of the later ones is none of those that were seen
abbrev AreNew : List ℕ → List ℕ → Type 0
AreNew seen ps = AllByRecursion (λ p. list_any (λ q. q == p) seen ≡ false) ps

-- one more is seen, which isn't among the later ones
new_more : (seen : List ℕ) (n : ℕ) (ps : List ℕ) → list_any (λ m. m == n) ps ≡ false → AreNew seen ps → AreNew (seen ++ n ∷ []) ps
new_more seen n [] h a = tt
new_more seen n (p ∷ ps) h a =
    let parts = or_parts (p == n) (list_any (λ m. m == n) ps) h in
    (one seen a.0 (eqb_turned n p ∙ parts.0), new_more seen n ps parts.1 a.1)
  where
    one : (seen : List ℕ) → list_any (λ q. q == p) seen ≡ false → (n == p) ≡ false → list_any (λ q. q == p) (seen ++ n ∷ []) ≡ false
    one [] h e = or_from (n == p) false e refl
    one (x ∷ seen) h e =
        let parts = or_parts (x == p) (list_any (λ q. q == p) seen) h in
        or_from (x == p) (list_any (λ q. q == p) (seen ++ n ∷ [])) parts.0 (one seen parts.1 e)

nothing_seen : (ps : List ℕ) → AreNew [] ps
nothing_seen [] = tt
nothing_seen (p ∷ ps) = (refl, nothing_seen ps)

-- ---- the lines of a commit

module _ (whole done : List PlainEvent) (aliases : List (ℕ × ℕ)) (found : AreFound whole done) (wants : Bool) (branch : Bytes) (mark : ℕ) (author committer : Signed) (encoding : Option Bytes) (comment : Bytes) (history : List PlainEvent) where
  -- the commit with its comment
  abbrev pub so_far : List ℕ → List FileOp → OpenCommit
  so_far parents ops = record {
    branch = branch;
    mark = mark;
    author = Some author;
    committer = Some committer;
    encoding = encoding;
    comment = comment;
    parents = parents;
    ops = ops;
  }

  abbrev pub at_commit : Expected → List ℕ → List FileOp → Point
  at_commit d parents ops = point d wants done aliases (ACommit (so_far parents ops))

  -- ---- operations

  abbrev ops_text : List FileOp → Bytes
  ops_text ops = flat_map (op_text whole) ops

  -- wherever a commit may end, the rest goes on
  abbrev pub GivesAfterOps : List ℕ → List FileOp → Bytes → Type 0
  GivesAfterOps parents ops rest = (d : Expected) → may_end d ≡ true → Gives (at_commit d parents ops) rest history

  pub ops_go : (parents : List ℕ) (front ops : List FileOp) (rest : Bytes) → AllByRecursion (RefersBack done) ops → AllByRecursion IsFormedOp ops → IsSome (folded ops (folded front (begun (tree done) parents)))
      → GivesAfterOps parents (front ++ ops) rest → GivesAfterOps parents front (ops_text ops ++ rest)
  ops_go parents front [] rest refers formed t k = subst (λ (l : List FileOp). GivesAfterOps parents l rest) (append-nil front) k
  ops_go parents front (op ∷ ops) rest refers formed t k = λ d may.
      let b = begun (tree done) parents in
      let next = ops_go parents (front ++ op ∷ []) ops rest refers.1 formed.1
      (subst IsSome (folded_more (op ∷ []) ops (folded front b) ∙ ap (folded ops) (sym (folded_more front (op ∷ []) b))) t)
      (subst (λ (l : List FileOp). GivesAfterOps parents l rest) (sym (append_assoc front (op ∷ []) ops)) k) in
      subst (λ (text : Bytes). Gives (at_commit d parents front) text history) (sym (append_assoc (op_text whole op) (ops_text ops) rest))
      (line_goes (at_commit d parents front) (at_commit expected.CommitOperation parents (front ++ op ∷ [])) (raw_op_text (raw_op whole op)) (ops_text ops ++ rest) word.Operation history
      (op_leads whole done found (so_far parents front) aliases d may wants op ops refers.0 formed.0 t)
      (next expected.CommitOperation refl))

  -- ---- parents

  abbrev merge_line : ℕ → Bytes
  merge_line q = codes "merge " ++ marked (commit_mark whole q)

  abbrev merges_text : List ℕ → Bytes
  merges_text ps = flat_map (λ q. line (merge_line q)) ps

  -- a parent that isn't one yet is put after the others
  parent_more : (first : ℕ) (seen : List ℕ) (p : ℕ) → list_any (λ q. q == p) (first ∷ seen) ≡ false
      → with_parent p (so_far (first ∷ seen) []) ≡ so_far ((first ∷ seen) ++ p ∷ []) []
  parent_more first seen p h = cond-false (list_any (λ q. q == p) (first ∷ seen)) (so_far (first ∷ seen) []) (so_far ((first ∷ seen) ++ p ∷ []) []) h

  merges_go : (first : ℕ) (seen ps : List ℕ) (rest : Bytes) → AllByRecursion (IsCommitOf done) ps → are_distinct ps ≡ true → AreNew (first ∷ seen) ps
      → Gives (at_commit expected.CommitMerge ((first ∷ seen) ++ ps) []) rest history → Gives (at_commit expected.CommitMerge (first ∷ seen) []) (merges_text ps ++ rest) history
  merges_go first seen [] rest are apart new k = subst (λ (l : List ℕ). Gives (at_commit expected.CommitMerge l []) rest history) (append-nil (first ∷ seen)) k
  merges_go first seen (p ∷ ps) rest are apart new k =
      let f = found.commits p are.0 in
      let parts = and_parts (not (list_any (λ m. m == p) ps)) (are_distinct ps) apart in
      let next = merges_go first (seen ++ p ∷ []) ps rest are.1 parts.1 (new_more (first ∷ seen) p ps (not-true (list_any (λ m. m == p) ps) parts.0) new.1)
      (subst (λ (l : List ℕ). Gives (at_commit expected.CommitMerge l []) rest history) (sym (append_assoc (first ∷ seen) (p ∷ []) ps)) k) in
      subst (λ (text : Bytes). Gives (at_commit expected.CommitMerge (first ∷ seen) []) text history) (sym (append_assoc (line (merge_line p)) (merges_text ps) rest))
      (line_goes (at_commit expected.CommitMerge (first ∷ seen) []) (point expected.CommitMerge wants done aliases (ACommit (with_parent p (so_far (first ∷ seen) [])))) (merge_line p) (merges_text ps ++ rest) word.Merge history
      (merge_leads wants done aliases (commit_mark whole p) p f.0 f.1 (so_far (first ∷ seen) []))
      (subst (λ (c : OpenCommit). Gives (point expected.CommitMerge wants done aliases (ACommit c)) (merges_text ps ++ rest) history) (sym (parent_more first seen p new.0)) next))

  -- all parents, in place of the branch's tip
  parents_go : (tip parents : List ℕ) (rest : Bytes) → AllByRecursion (IsCommitOf done) parents → are_distinct parents ≡ true → (parents ≡ [] → tip ≡ [])
      → GivesAfterOps parents [] rest → Gives (at_commit expected.CommitFrom tip []) (parents_text whole parents ++ rest) history
  parents_go tip [] rest are apart root k = subst (λ (l : List ℕ). Gives (at_commit expected.CommitFrom l []) rest history) (sym (root refl)) (k expected.CommitFrom refl)
  parents_go tip (p ∷ ps) rest are apart root k =
      let f = found.commits p are.0 in
      let parts = and_parts (not (list_any (λ m. m == p) ps)) (are_distinct ps) apart in
      let from_line = codes "from " ++ marked (commit_mark whole p) in
      subst (λ (text : Bytes). Gives (at_commit expected.CommitFrom tip []) text history) (sym (append_assoc (line from_line) (merges_text ps) rest))
      (line_goes (at_commit expected.CommitFrom tip []) (at_commit expected.CommitMerge (p ∷ []) []) from_line (merges_text ps ++ rest) word.From history
      (commit_from_leads wants done aliases (commit_mark whole p) p f.0 f.1 (so_far tip []))
      (merges_go p [] ps rest are.1 parts.1 (new_more [] p ps (not-true (list_any (λ m. m == p) ps) parts.0) (nothing_seen ps)) (k expected.CommitMerge refl)))

  -- ---- encoding and comment

  abbrev before_encoding : Option Bytes → List ℕ → Point
  before_encoding e tip = point expected.CommitEncoding wants done aliases (ACommit (record {
    branch = branch;
    mark = mark;
    author = Some author;
    committer = Some committer;
    encoding = e;
    comment = [];
    parents = tip;
    ops = [];
  }))

-- the encoding, if there is one, and the comment
comment_goes : (whole done : List PlainEvent) (aliases : List (ℕ × ℕ)) (found : AreFound whole done) (wants : Bool) (branch : Bytes) (mark : ℕ) (author committer : Signed) (encoding : Option Bytes) (comment : Bytes) (history : List PlainEvent)
    (tip : List ℕ) (rest : Bytes) → IfSome encoding (λ e. IsTrue (has_no_lf e))
    → Gives (at_commit whole done aliases found wants branch mark author committer encoding comment history expected.CommitFrom tip []) rest history
    → Gives (before_encoding whole done aliases found wants branch mark author committer encoding comment history None tip) (encoding_text whole encoding ++ (data_block comment ++ rest)) history
comment_goes whole done aliases found wants branch mark author committer None comment history tip rest plain g =
    data_goes (before_encoding whole done aliases found wants branch mark author committer None comment history None tip) (record { expected = expected.CommitFrom; wants_done = wants }) comment refl rest history g
comment_goes whole done aliases found wants branch mark author committer (Some e) comment history tip rest plain g =
    let c : OpenCommit = record { branch = branch; mark = mark; author = Some author; committer = Some committer; encoding = None; comment = []; parents = tip; ops = [] } in
    let q : Point = point expected.CommitData wants done aliases (ACommit (record { branch = branch; mark = mark; author = Some author; committer = Some committer; encoding = Some e; comment = []; parents = tip; ops = [] })) in
    line_goes (before_encoding whole done aliases found wants branch mark author committer (Some e) comment history None tip) q (codes "encoding " ++ e) (data_block comment ++ rest) word.Encoding history
    (encoding_leads wants done aliases c e plain)
    (data_goes q (record { expected = expected.CommitFrom; wants_done = wants }) comment refl rest history g)

-- ---- whole commits

commit_grouped : (a b c d e f g h rest : Bytes) → [] ++ a ++ b ++ c ++ d ++ e ++ f ++ g ++ h ++ 10 ∷ [] ++ [] ++ rest ≡ a ++ (b ++ (c ++ (d ++ (e ++ (f ++ (g ++ (h ++ 10 ∷ rest)))))))
commit_grouped a b c d e f g h rest = simp (append_assoc, append-nil)

-- a branch without a tip has no parent for a commit
no_tip : (tips : TreeOf ℕ) (branch : Bytes) → has tips branch ≡ false → option_to_list (at tips branch) ≡ []
no_tip tips branch h = go (at tips branch) h
  where
    go : (o : Option ℕ) → is_some o ≡ false → option_to_list o ≡ []
    go None h = refl
    go (Some c) h = absurd cc

-- what is asked of a commit
pub record CommitFits (whole done : List PlainEvent) (aliases : List (ℕ × ℕ)) (id mark : ℕ) (branch : Bytes) (author committer : Signed) (encoding : Option Bytes) (comment : Bytes) (parents : List ℕ) (ops : List FileOp) : Type 0 where
  pub place : id ≡ next_id done
  pub is_mark : IsMark mark
  pub new : is_known done aliases mark ≡ false
  pub named : IsTrue (is_name branch)
  pub written_by : IsFormedSigned author
  pub committed_by : IsFormedSigned committer
  pub encoded : IfSome encoding (λ e. IsTrue (has_no_lf e))
  pub children : AllByRecursion (IsCommitOf done) parents
  pub apart : are_distinct parents ≡ true
  pub rooted : parents ≡ [] → has (refs done) branch ≡ false
  pub refers : AllByRecursion (RefersBack done) ops
  pub formed : AllByRecursion IsFormedOp ops
  pub carried_out : IsSome (folded ops (begun (tree done) parents))

-- no reset is written before it
no_reset : (whole : List PlainEvent) (tips : TreeOf ℕ) (branch : Bytes) (parents : List ℕ) → (parents ≡ [] → has tips branch ≡ false) → reset_text whole tips branch parents ≡ []
no_reset whole tips branch [] h = cond-false (has tips branch) (line (codes "reset " ++ branch)) [] (h refl)
no_reset whole tips branch (p ∷ ps) h = refl

module _ (d : Expected) (wants : Bool) (events : List PlainEvent) (current : Open) (whole done : List PlainEvent) (aliases : List (ℕ × ℕ)) (h : IsAfter d wants events current done aliases) (found : AreFound whole done)
    (id mark : ℕ) (branch : Bytes) (author committer : Signed) (encoding : Option Bytes) (comment : Bytes) (parents : List ℕ) (ops : List FileOp)
    (fits : CommitFits whole done aliases id mark branch author committer encoding comment parents ops) (rest : Bytes) (history : List PlainEvent)
    (k : GivesAfter (done ++ Commit id mark branch author committer encoding comment parents ops [] ∷ []) aliases rest history) where
  abbrev own : PlainEvent
  own = Commit id mark branch author committer encoding comment parents ops []

  -- the empty line after it
  end_goes : GivesAfterOps whole done aliases found wants branch mark author committer encoding comment history parents ops (10 ∷ rest)
  end_goes place may =
      line_goes (at_commit whole done aliases found wants branch mark author committer encoding comment history place parents ops) (at_commit whole done aliases found wants branch mark author committer encoding comment history expected.Event parents ops) [] rest word.Empty history
      (empty_leads place may wants done aliases (ACommit (so_far whole done aliases found wants branch mark author committer encoding comment history parents ops)))
      (k expected.Event wants done (ACommit (so_far whole done aliases found wants branch mark author committer encoding comment history parents ops)) (record {
        between = refl;
        are = ap (λ n. done ++ Commit n mark branch author committer encoding comment parents ops [] ∷ []) (sym fits.place);
        promised = h.promised ∙ promise_more done own;
      }))

  abbrev tip : List ℕ
  tip = option_to_list (at (refs done) branch)

  -- after the line of the committer
  rest_goes : Gives (before_encoding whole done aliases found wants branch mark author committer encoding comment history None tip) (encoding_text whole encoding ++ (data_block comment ++ (parents_text whole parents ++ (flat_map (op_text whole) ops ++ 10 ∷ rest)))) history
  rest_goes =
      comment_goes whole done aliases found wants branch mark author committer encoding comment history tip (parents_text whole parents ++ (flat_map (op_text whole) ops ++ 10 ∷ rest)) fits.encoded
      (parents_go whole done aliases found wants branch mark author committer encoding comment history tip parents (flat_map (op_text whole) ops ++ 10 ∷ rest) fits.children fits.apart (λ e. no_tip (refs done) branch (fits.rooted e))
      (ops_go whole done aliases found wants branch mark author committer encoding comment history parents [] ops (10 ∷ rest) fits.refers fits.formed (subst IsSome (ap (folded ops) (sym (nothing_folded (begun (tree done) parents)))) fits.carried_out) end_goes))
    where
      nothing_folded : (o : Option Tree) → folded [] o ≡ o
      nothing_folded None = refl
      nothing_folded (Some t) = refl

  abbrev begun_commit : ℕ → Option Signed → Option Signed → OpenCommit
  begun_commit m a c = record { branch = branch; mark = m; author = a; committer = c; encoding = None; comment = []; parents = tip; ops = [] }

  abbrev after_committer : Bytes
  after_committer = encoding_text whole encoding ++ (data_block comment ++ (parents_text whole parents ++ (flat_map (op_text whole) ops ++ 10 ∷ rest)))

  pub commit_goes : Gives (point d wants events aliases current) (event_text whole (refs done) own ++ rest) history
  commit_goes =
      let head_line = codes "commit " ++ branch in
      let mark_line = codes "mark " ++ marked mark in
      let author_line = codes "author " ++ person author in
      let committer_line = codes "committer " ++ person committer in
      subst (λ (text : Bytes). Gives (point d wants events aliases current) text history)
      (sym (ap (λ (r : Bytes). r ++ line head_line ++ line mark_line ++ line author_line ++ line committer_line ++ encoding_text whole encoding ++ data_block comment ++ parents_text whole parents ++ flat_map (op_text whole) ops ++ 10 ∷ [] ++ [] ++ rest) (no_reset whole (refs done) branch parents fits.rooted)
      ∙ commit_grouped (line head_line) (line mark_line) (line author_line) (line committer_line) (encoding_text whole encoding) (data_block comment) (parents_text whole parents) (flat_map (op_text whole) ops) rest))
      (line_goes (point d wants events aliases current) (point expected.CommitMark wants done aliases (ACommit (begun_commit 0 None None))) head_line (line mark_line ++ (line author_line ++ (line committer_line ++ after_committer))) word.Commit history
      (commit_leads d h.between wants events done aliases current h.are branch fits.named)
      (line_goes (point expected.CommitMark wants done aliases (ACommit (begun_commit 0 None None))) (point expected.CommitOid wants done aliases (ACommit (begun_commit mark None None))) mark_line (line author_line ++ (line committer_line ++ after_committer)) word.Mark history
      (commit_mark_leads wants done aliases mark fits.is_mark fits.new (begun_commit 0 None None))
      (line_goes (point expected.CommitOid wants done aliases (ACommit (begun_commit mark None None))) (point expected.CommitCommitter wants done aliases (ACommit (begun_commit mark (Some author) None))) author_line (line committer_line ++ after_committer) word.Author history
      (author_leads wants done aliases author fits.written_by (begun_commit mark None None))
      (line_goes (point expected.CommitCommitter wants done aliases (ACommit (begun_commit mark (Some author) None))) (point expected.CommitEncoding wants done aliases (ACommit (begun_commit mark (Some author) (Some committer)))) committer_line after_committer word.Committer history
      (committer_leads wants done aliases committer fits.committed_by (begun_commit mark (Some author) None))
      rest_goes))))
