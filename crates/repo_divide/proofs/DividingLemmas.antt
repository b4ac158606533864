-- What a division answers, step by step.
use Rattle.plain_model.specs.Lookups.{event_ops}
use Rattle.std.proofs.Common.{◌≡◌, ◌∙◌, ℕ, zero, suc, ◌+◌, ◌-◌, ◌≤◌, ◌<◌, Bool, true, false, cond, List, [], ◌∷◌, take, length, get_or, map, Some, Result, Ok, Err, refl, sym, ap, arith, length-append}
use Rattle.std.specs.Prelude.{◌==◌, nat_lt, slice_get}
use Rattle.plain_model.specs.declared.fault.Fault.{Fault}
use Rattle.plain_model.specs.declared.fault.Fault.TheVariants as fault
use Rattle.plain_model.specs.declared.fault.Which.TheVariants as limit
use Rattle.plain_model.specs.declared.id.AnyId.{AnyId}
use Rattle.plain_model.specs.declared.operation.FileOp.{FileOp}
use Rattle.plain_model.specs.declared.limit.TheConstants.{MAX_OPERATIONS}
use Rattle.plain_model.specs.declared.event.PlainEvent.{PlainEvent}
use Rattle.plain_model.specs.declared.event.PlainEvent.TheVariants.{Blob, Commit, Tag, Reset, Pass}
use Rattle.plain_model.specs.Histories.{nodes}
use Rattle.plain_model.specs.Snapshots.{commit_mark}
use Rattle.plain_model.specs.Soundness.{IsCommitOf, IsSound}
use Rattle.history_laws.specs.FirstParents.{ops_along}
use Rattle.edit_laws.specs.Parts.{AreComplete}
use Rattle.commit_laws.specs.Rewriting.{rewritten, rewritten_all}
use Rattle.reparent_laws.specs.Reparent.{have_same_first, ops_onto}
use Rattle.reparent_laws.specs.WrittenOut.{written_out}
use Rattle.std.proofs.lemmas.Bool.Decides.{nat_tests}
use Rattle.edit_laws.proofs.Tallies.{ops_counted, own_ops}
use Rattle.plan_steps.proofs.Counting.{tally_item, tally_less}
use Rattle.divide_laws.specs.Divide.{cut_link, divide_at, divide_of, divided, loses, parted, unless_many, without_parent}
use Rattle.divide_laws.specs.Links.{is_late}
use Rattle.divide_laws.specs.Sides.{is_commit_among}
use Rattle.divide_laws.specs.declared.halves.Halves.{Halves}
use Rattle.divide_laws.specs.declared.link.Link.{Link}
use Rattle.edit_laws.proofs.Settles.{complete}
use Rattle.divide_laws.proofs.Parted.{parted_order}
use Rattle.divide_laws.proofs.Said.{child_there, link_is, parent_there}

-- ---- the history without the link

-- which commits have flags doesn't change
pub flags_kept : (f : ℕ → Bool) (events : List PlainEvent) (cut : Link) → map (is_commit_among f) (parted events cut) ≡ map (is_commit_among f) events
flags_kept f events cut = go events
  where
    its : (e : PlainEvent) → is_commit_among f (rewritten cut.child (loses events cut.parent) e) ≡ is_commit_among f e
    its (Commit id mark branch author committer encoding comment parents ops aliases) =
        elim (id == cut.child) as (λ b. is_commit_among f (cond b (Commit id mark branch author committer encoding comment (without_parent cut.parent parents) (ops_onto events (without_parent cut.parent parents) parents ops) aliases) (Commit id mark branch author committer encoding comment parents ops aliases)) ≡ f id) [ true ↦ refl | false ↦ refl ]
    its (Blob id mark bytes) = refl
    its (Tag id name target tagger comment mark) = refl
    its (Reset id branch target) = refl
    its (Pass id line) = refl

    go : (es : List PlainEvent) → map (is_commit_among f) (rewritten_all cut.child (loses events cut.parent) es) ≡ map (is_commit_among f) es
    go [] = refl
    go (e ∷ es) = λ i. its e i ∷ go es i

pub parted_complete : (events : List PlainEvent) (cut : Link) → IsSound events → AreComplete (parted events cut)
parted_complete events cut h = complete [] (parted events cut) (parted_order events cut h)

-- ---- its operations

-- they stay where the first parent does
pub stays : (events : List PlainEvent) (parents new : List ℕ) (ops : List FileOp) → have_same_first parents new ≡ true → ops_onto events new parents ops ≡ ops
stays events parents new ops same = ap (λ (b : Bool). cond b ops (written_out events parents ops)) same

-- and the tree is written out where it doesn't
pub is_written : (events : List PlainEvent) (parents new : List ℕ) (ops : List FileOp) → have_same_first parents new ≡ false → ops_onto events new parents ops ≡ written_out events parents ops
is_written events parents new ops other = ap (λ (b : Bool). cond b ops (written_out events parents ops)) other

-- ---- operations

pub at_place : (es : List PlainEvent) (k : ℕ) (e : PlainEvent) → k < length es → e ≡ get_or es k e → slice_get es k ≡ Some e
at_place [] k e low is = absurd (omega arith)
at_place (x ∷ es) zero e low is = ap (λ (y : PlainEvent). Some y) (sym is)
at_place (x ∷ es) (suc k) e low is = at_place es k e (omega arith) is

abbrev ops_in : List PlainEvent → ℕ
ops_in es = length (ops_along (nodes es))

own_many : (e : PlainEvent) → length (event_ops e) ≡ own_ops e
own_many (Commit id mark branch author committer encoding comment parents ops aliases) = let whole = length-append ops [] in omega arith
own_many (Blob id mark bytes) = refl
own_many (Tag id name target tagger comment mark) = refl
own_many (Reset id branch target) = refl
own_many (Pass id line) = refl

module _ (most : ℕ) (es : List PlainEvent) (k left : ℕ) (so_far : left + ops_in (take k es) ≡ most) where
  module _ (more : ℕ) (e : PlainEvent) (at : slice_get es k ≡ Some e) (own : more ≡ length (event_ops e)) where
    one_more : ops_in (take (suc k) es) ≡ ops_in (take k es) + more
    one_more =
        let item = tally_item own_ops es k e at in
        let before = ops_counted (take k es) in
        let after = ops_counted (take (suc k) es) in
        let mine = own ∙ own_many e in
        omega arith

    pub left_less : more ≤ left → (left - more) + ops_in (take (suc k) es) ≡ most
    left_less low = let next = one_more in omega arith

    pub left_passed : left < more → true ≡ nat_lt most (ops_in es)
    left_passed over =
        let next = one_more in
        let front = ops_counted (take (suc k) es) in
        let all = ops_counted es in
        let less = tally_less own_ops es (suc k) in
        let above : most < ops_in es = omega arith in
        sym (grind (arith, nat_tests))

-- ---- the halves

abbrev joined : List PlainEvent → Link → Bool → Result Halves Fault
joined events cut b = cond b (Err (fault.StillConnected (commit_mark events cut.child))) (unless_many (divided events cut))

abbrev counted : Halves → Bool → Result Halves Fault
counted halves b = cond b (Err (fault.Limit limit.Operations MAX_OPERATIONS)) (Ok halves)

abbrev still : ℕ → Result Halves Fault
still mark = Err (fault.StillConnected mark)

pub still_joined : (events : List PlainEvent) (cut : Link) (mark : ℕ) → is_late events cut cut.parent ≡ true → mark ≡ commit_mark events cut.child → divide_at events cut ≡ Err (fault.StillConnected mark)
still_joined events cut mark is its = ap (joined events cut) is ∙ ap still (sym its)

pub halves_counted : (events : List PlainEvent) (cut : Link) (halves : Halves) (b : Bool) → is_late events cut cut.parent ≡ false → halves ≡ divided events cut →
    nat_lt MAX_OPERATIONS (ops_in halves.late) ≡ b → divide_at events cut ≡ counted halves b
halves_counted events cut halves b apart is many = ap (joined events cut) apart ∙ ap unless_many (sym is) ∙ ap (counted halves) many

-- ---- the whole command

abbrev with_link : List PlainEvent → Result Link Fault → Result Halves Fault
with_link events r = elim r as (λ x. Result Halves Fault) [ Ok cut ↦ divide_at events cut | Err why ↦ Err why ]

pub divided_said : (set : List AnyId) (events : List PlainEvent) (cut : Link) (r : Result Halves Fault) → cut_link set events ≡ Ok cut → divide_at events cut ≡ r → divide_of set events ≡ r
divided_said set events cut r said is = ap (with_link events) said ∙ is

pub ends_there : (set : List AnyId) (events : List PlainEvent) (cut : Link) → IsSound events → cut_link set events ≡ Ok cut → IsCommitOf events cut.parent × IsCommitOf events cut.child
ends_there set events cut h said = (parent_there events cut h (link_is events cut set said), child_there events cut (link_is events cut set said))
