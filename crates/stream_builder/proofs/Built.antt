-- What is kept beside the events, once the event that was read is over.
use Rattle.std.proofs.Common.{◌≡◌, ℕ, ◌+◌, ◌-◌, ◌<◌, ◌≤◌, List, [], ◌∷◌, length, Option, Result, Ok, Err, true, false, cond, nat_lt, refl, sym, subst, ◌∙◌, ap, arith}
use Rattle.plain_model.specs.declared.event.PlainEvent.{PlainEvent}
use Rattle.plain_model.specs.declared.limit.TheConstants.{MAX_MARK, MAX_OPERATIONS}
use Rattle.stream_grammar.specs.Known.Open.{Nothing as NoEvent}
use Rattle.plain_model.specs.Histories.{nodes}
use Rattle.stream_grammar.specs.Known.{with_event}
use Rattle.stream_builder.proofs.Counting.{ops_more}
use Rattle.stream_builder.proofs.Kept.{one_beside, emptied}
use Rattle.stream_grammar.specs.Limits.{open_ops}
use Rattle.stream_builder.specs.declared.known.OpenTree.{OpenTree}
use Rattle.stream_builder.specs.declared.known.OpenTree.TheVariants.{NotFolded}
use Rattle.stream_builder.specs.declared.known.Trees.{Trees}
use Rattle.plain_model.specs.declared.operation.FileOp.{FileOp}
use Rattle.plain_model.specs.declared.operation.FileOp.TheVariants.{DeleteAll}
use Rattle.std.specs.Prelude.{OnOk, IfOk}
use Rattle.std.proofs.lemmas.Bool.Decides.{nat_tests}
use Rattle.plain_model.specs.declared.fault.Fault.{Fault}
use Rattle.plain_model.specs.declared.fault.Fault.TheVariants.{MarksSpent}
use Rattle.plain_model.specs.declared.person.Signed.{Signed}
use Rattle.plain_model.specs.Paths.{Bytes}
use Rattle.history_laws.specs.Counts.{ops_in as count_in, ops_in_event}
use Rattle.stream_drafts.specs.declared.finish.FinishFault.{FinishFault}
use Rattle.stream_grammar.specs.Known.{Known, closed, history_of}
use Rattle.stream_grammar.specs.Limits.{last_mark, unless_spent}
use Rattle.stream_drafts.specs.Aliased.{finished as at_end}
use Rattle.stream_builder.specs.declared.open.OpenCommit.{OpenCommit}
use Rattle.stream_builder.specs.declared.open.Open.{Open}
use Rattle.stream_builder.specs.declared.open.Open.TheVariants.{Nothing, Blob, Commit, Tag, Reset, Alias}
use Rattle.stream_builder.specs.Building.{IsBuilt, open_of, ops_in, parents_in}
use Rattle.stream_builder.specs.Agreement.{HasAtMost, IsOpened, TreesAgree, open_tree}

pub open_count : (current : Open) → open_ops (open_of current) ≡ length (ops_in current)
open_count Nothing = refl
open_count (Blob mark) = refl
open_count (Commit c) = refl
open_count (Tag name target tagger mark) = refl
open_count (Reset branch target) = refl
open_count (Alias mark) = refl

-- what was taken of the trees, and what is left
abbrev pub Taken : Trees → OpenTree → List PlainEvent → Open → Type 0
Taken left tree events current =
    TreesAgree left events [] [] × IsOpened tree (open_tree events (parents_in current) (ops_in current)) × HasAtMost left.most (open_tree events (parents_in current) (ops_in current))

module _ (events : List PlainEvent) (current other : Open) (trees : Trees) (ops count : ℕ) (b : IsBuilt events current trees ops) (same : other ≡ current) (count_is : count ≡ length (ops_in other)) where
  counted : ops ≡ count_in events + length (ops_in other)
  counted =
      let all = b.counted in
      let own = open_count current in
      let is : length (ops_in other) ≡ length (ops_in current) = (λ i. length (ops_in (same i))) in
      omega (arith, all, own, is)

  module _ (new : List PlainEvent) (kept : Trees) (n : ℕ) (more : count_in new ≡ count_in events + n) (within : n ≤ length (ops_in other)) where
    pub sum_fits : ops - count + n ≤ MAX_OPERATIONS
    sum_fits = let all = counted in let most = b.within in omega (arith, all, most, count_is, within)

    pub over : (o : Open) → o ≡ Nothing → TreesAgree kept new [] [] → IsBuilt new o kept (ops - count + n)
    over o is agrees = subst (λ (x : Open). IsBuilt new x kept (ops - count + n)) (sym is) (record {
      agrees = agrees;
      counted = let all = counted in omega (arith, all, count_is, more);
      within = sum_fits;
    })

-- an event begins where there is none
pub begun : (events : List PlainEvent) (old current : Open) (trees left : Trees) (ops : ℕ) → IsBuilt events old trees ops → open_of old ≡ NoEvent → ops_in current ≡ []
    → TreesAgree left events (parents_in current) [] → IsBuilt events current left ops
begun events old current trees left ops b none empty agrees = record {
  agrees = subst (TreesAgree left events (parents_in current)) (sym empty) agrees;
  counted =
      let all = b.counted in
      let own : open_ops (open_of old) ≡ 0 = (λ i. open_ops (none i)) in
      let new : open_ops (open_of current) ≡ 0 = open_count current ∙ (λ i. length (empty i)) in
      omega (arith, all, own, new);
  within = b.within;
}

-- an event that is no commit is after the others
pub beside : (events new : List PlainEvent) (e : PlainEvent) (current : Open) (trees : Trees) (ops : ℕ) → IsBuilt events current trees ops → new ≡ with_event events e
    → nodes (e ∷ []) ≡ [] → ops_in_event e ≡ 0 → IsBuilt new current trees ops
beside events new e current trees ops b is none no_ops = record {
  agrees = subst (λ (es : List PlainEvent). TreesAgree trees es (parents_in current) (ops_in current)) (sym is) (one_beside trees events e none (parents_in current) (ops_in current) b.agrees);
  counted =
      let all = b.counted in
      let more = ops_more events new e is in
      omega (arith, all, more, no_ops);
  within = b.within;
}

-- a merge without a first parent is the first parent, and takes all files away
pub merged_first : (events : List PlainEvent) (old new : OpenCommit) (trees left : Trees) (ops count : ℕ) → IsBuilt events (Commit old) trees ops
    → new.ops ≡ DeleteAll ∷ [] → count ≡ ops - length old.ops + 1 → count ≤ MAX_OPERATIONS → TreesAgree left events new.parents [] → left.opened ≡ NotFolded → IsBuilt events (Commit new) left count
merged_first events old new trees left ops count b all_go is fits agrees none = record {
  agrees = subst (λ (l : List FileOp). TreesAgree left events new.parents l) (sym all_go) (emptied left events new.parents agrees none);
  counted = let all = b.counted in let one : length new.ops ≡ 1 = (λ i. length (all_go i)) in omega (arith, all, is, one);
  within = fits;
}

-- an event without operations is over, and is after the others
module _ (events new : List PlainEvent) (e : PlainEvent) (trees : Trees) (ops : ℕ) (is : new ≡ with_event events e) (none : nodes (e ∷ []) ≡ []) (no_ops : ops_in_event e ≡ 0) where
  emptied_of : (old : Open) → parents_in old ≡ [] → ops_in old ≡ [] → IsBuilt events old trees ops → IsBuilt new Nothing trees ops
  emptied_of old no_parents empty b =
      let after = beside events new e old trees ops b is none no_ops in
      record {
        agrees = subst (λ (l : List FileOp). TreesAgree trees new [] l) empty (subst (λ (l : List ℕ). TreesAgree trees new l (ops_in old)) no_parents after.agrees);
        counted = let all = after.counted in let own = open_count old in let zero : length (ops_in old) ≡ 0 = (λ i. length (empty i)) in omega (arith, all, own, zero);
        within = after.within;
      }

  pub blob_over : (old : Open) (mark : Option ℕ) → old ≡ Blob mark → IsBuilt events old trees ops → IsBuilt new Nothing trees ops
  blob_over old mark blob b = emptied_of old (ap parents_in blob) (ap ops_in blob) b

  pub tag_over : (old over : Open) (name : Bytes) (target : ℕ) (tagger : Option Signed) (mark : Option ℕ) → old ≡ Tag name target tagger mark → over ≡ Nothing → IsBuilt events old trees ops → IsBuilt new over trees ops
  tag_over old over name target tagger mark tag gone b = subst (λ (o : Open). IsBuilt new o trees ops) (sym gone) (emptied_of old (ap parents_in tag) (ap ops_in tag) b)

  pub commit_stays : (old : Open) (c : OpenCommit) → old ≡ Commit c → IsBuilt events old trees ops → IsBuilt new (Commit c) trees ops
  commit_stays old c commit b = subst (λ (o : Open). IsBuilt new o trees ops) commit (beside events new e old trees ops b is none no_ops)

-- ---- the end

-- the marks suffice, or they are spent
pub enough : (k : Known) → last_mark k ≤ MAX_MARK → unless_spent k ≡ Ok (history_of k)
enough k le = let no : nat_lt MAX_MARK (last_mark k) ≡ false = grind (arith, nat_tests) in ap (λ b. cond {A = Result (List PlainEvent) Fault} b (Err MarksSpent) (Ok (history_of k))) no

module _ (k : Known) (drafts : List PlainEvent) (aliases : List (ℕ × ℕ)) (is : drafts ≡ closed k) (same : aliases ≡ k.aliases) where
  pub finished : (answer : Result (List PlainEvent) FinishFault) → IfOk answer (λ list. list ≡ history_of (at_end drafts aliases))
      → OnOk answer (last_mark (at_end drafts aliases) ≤ MAX_MARK) → IfOk answer (λ list. unless_spent k ≡ Ok list)
  finished (Err f) list fits = tt
  finished (Ok l) list fits =
      enough k (subst (λ n. n ≤ MAX_MARK) (λ i. last_mark (at_end (is i) (same i))) fits)
      ∙ ap (λ (h : List PlainEvent). Ok h) (sym (list ∙ (λ i. history_of (at_end (is i) (same i)))))

  pub spent : MAX_MARK < last_mark (at_end drafts aliases) → unless_spent k ≡ Err MarksSpent
  spent more =
      let above = subst (λ n. MAX_MARK < n) (λ i. last_mark (at_end (is i) (same i))) more in
      let yes : nat_lt MAX_MARK (last_mark k) ≡ true = grind (arith, nat_tests) in
      ap (λ b. cond {A = Result (List PlainEvent) Fault} b (Err MarksSpent) (Ok (history_of k))) yes
