-- Which limit one more operation passes.
use Rattle.std.proofs.Common.{◌≡◌, ℕ, ◌+◌, ◌<◌, ◌≤◌, false, cond, List, [], ◌∷◌, ◌++◌, length, Option, Some, Result, Ok, Err, refl, sym, ap, subst, ◌∙◌, arith, nat_lt}
use Rattle.std.proofs.lemmas.Bool.Decides.{nat_tests}
use Rattle.plain_model.specs.declared.event.PlainEvent.{PlainEvent}
use Rattle.plain_model.specs.declared.fault.Which.{Which}
use Rattle.plain_model.specs.declared.fault.Which.TheVariants.{Events, Operations}
use Rattle.plain_model.specs.declared.fault.Why.{Why}
use Rattle.plain_model.specs.declared.limit.TheConstants.{MAX_EVENTS, MAX_OPERATIONS}
use Rattle.plain_model.specs.declared.operation.FileOp.{FileOp}
use Rattle.plain_model.specs.Histories.{begun, tree}
use Rattle.history_laws.specs.Counts.{ops_in as count_in}
use Rattle.line_automaton.specs.Limits.{Cause}
use Rattle.stream_grammar.specs.Known.{Known, OpenCommit as KnownCommit, Open as KnownOpen}
use Rattle.stream_grammar.specs.Known.Open.{Nothing as NoEvent, ABlob, ACommit, ATag, AReset, AnAlias}
use Rattle.stream_grammar.specs.Limits.{limit_if, limit_on, op_limit, op_count, within_limit}
use Rattle.stream_builder.specs.declared.fault.LineFault.{LineFault}
use Rattle.stream_builder.specs.declared.fault.LineFault.TheVariants as line
use Rattle.stream_builder.specs.Judging.{Judges}
use Rattle.stream_grammar.proofs.LastOperation.{limit_last}
use Rattle.stream_builder.specs.declared.known.Trees.{Trees}
use Rattle.stream_builder.specs.declared.open.Open.{Open}
use Rattle.stream_builder.specs.declared.open.Open.TheVariants.{Commit}
use Rattle.stream_builder.specs.declared.open.OpenCommit.{OpenCommit}
use Rattle.stream_builder.specs.Building.{commit_of, known_of, open_of, with_op}
use Rattle.stream_builder.specs.Agreement.{open_tree}
use Rattle.stream_builder.specs.Operating.{PutsLast}

length_last : (ops : List FileOp) (op : FileOp) → length (ops ++ op ∷ []) ≡ length ops + 1
length_last [] op = refl
length_last (x ∷ ops) op = let more = length_last ops op in omega (arith, more)

-- a limit that isn't passed
fits : (most count : ℕ) (which : Which) (other : Option Which) → count ≤ most → limit_if most count which other ≡ other
fits most count which other le = let no : nat_lt most count ≡ false = grind (arith, nat_tests) in ap (λ b. cond b (Some which) other) no

module _ (events : List PlainEvent) (aliases : List (ℕ × ℕ)) (c : OpenCommit) (op : FileOp) (more ops : ℕ) (counted : ops ≡ op_count (known_of events [] (Commit c)))
    (few : length events + 1 + more ≤ MAX_EVENTS) (less : ops < MAX_OPERATIONS) where
  pub limit_is : op_limit more (with_op (known_of events aliases (Commit c)) (commit_of c) op) ≡ limit_on op (open_tree events c.parents c.ops)
  limit_is =
      let one = length_last c.ops op in
      fits MAX_EVENTS (length events + 1 + more) Events _ few
      ∙ fits MAX_OPERATIONS (count_in events + length (c.ops ++ op ∷ [])) Operations _ (omega (arith, one, counted, less))
      ∙ limit_last c.ops op (begun (tree events) c.parents)

  -- what is expected of one more operation
  abbrev pub expected : Result Known (Cause Why Which)
  expected = within_limit (op_limit more (with_op (known_of events aliases (Commit c)) (commit_of c) op)) (with_op (known_of events aliases (Commit c)) (commit_of c) op)

  module _ (new : OpenCommit) (trees : Trees) where
    pub put_it : PutsLast events c op (Ok tt) new trees → expected ≡ Ok (known_of events aliases (Commit new))
    put_it p =
        ap (λ o. within_limit o (with_op (known_of events aliases (Commit c)) (commit_of c) op)) (limit_is ∙ p.2)
        ∙ ap (λ (n : OpenCommit). Ok (known_of events aliases (Commit n))) (sym p.0)

    pub refused : (k : Known) (f : LineFault) → PutsLast events c op (Err f) new trees → Judges k (Err f) expected
    refused k (line.Bad why) p = absurd p
    refused k (line.Limit which) p = ap (λ o. within_limit o (with_op (known_of events aliases (Commit c)) (commit_of c) op)) (limit_is ∙ p.2)
    refused k line.Memory p = tt

-- ---- the commit that is being read, as contracts see it

abbrev commit_or : KnownCommit → KnownOpen → KnownCommit
commit_or other (ACommit c) = c
commit_or other NoEvent = other
commit_or other (ABlob mark) = other
commit_or other (ATag name target tagger mark) = other
commit_or other (AReset branch target) = other
commit_or other (AnAlias mark) = other

module _ (events : List PlainEvent) (aliases : List (ℕ × ℕ)) (o : Open) (c : OpenCommit) (n : Known) (k : KnownCommit) (view : known_of events aliases o ≡ n) (is_commit : o ≡ Commit c) (is : n.current ≡ ACommit k) where
  same_commit : commit_of c ≡ k
  same_commit = ap (commit_or (commit_of c)) (sym (ap open_of is_commit) ∙ ap (λ (x : Known). x.current) view ∙ is)

  module _ (op : FileOp) (more : ℕ) where
    at_known : within_limit (op_limit more (with_op (known_of events aliases (Commit c)) (commit_of c) op)) (with_op (known_of events aliases (Commit c)) (commit_of c) op) ≡ within_limit (op_limit more (with_op n k op)) (with_op n k op)
    at_known = λ i. within_limit (op_limit more (with_op (view i) (same_commit i) op)) (with_op (view i) (same_commit i) op)

    module _ (ops : ℕ) (counted : ops ≡ op_count (known_of events [] o)) (few : length events + 1 + more ≤ MAX_EVENTS) (less : ops < MAX_OPERATIONS) (new : OpenCommit) (trees : Trees) where
      counted_here : ops ≡ op_count (known_of events [] (Commit c))
      counted_here = counted ∙ ap (λ (x : Open). op_count (known_of events [] x)) is_commit

      pub is_put : PutsLast events c op (Ok tt) new trees → within_limit (op_limit more (with_op n k op)) (with_op n k op) ≡ Ok (known_of events aliases (Commit new))
      is_put p = sym at_known ∙ put_it events aliases c op more ops counted_here few less new trees p

      pub isnt_put : (x : Known) (f : LineFault) → PutsLast events c op (Err f) new trees → Judges x (Err f) (within_limit (op_limit more (with_op n k op)) (with_op n k op))
      isnt_put x f p = subst (Judges x (Err f)) at_known (refused events aliases c op more ops counted_here few less new trees x f p)
