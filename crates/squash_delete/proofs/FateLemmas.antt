-- What becomes of an event where commits push forward, by what it is, and what is left when each event has become that.
use Rattle.std.proofs.Common.{◌≡◌, ◌∙◌, ℕ, zero, suc, ◌<◌, Bool, true, false, cond, not, List, [], ◌∷◌, ◌++◌, Option, Some, None, refl, sym, ap, subst, length, take, drop, map, get_or, arith, eqb-true}
use Rattle.std.specs.Prelude.{◌==◌, ◌||◌, is_some, slice_get, unwrap_or}
use Rattle.std.specs.List.{list_any}
use Rattle.std.proofs.lemmas.List.{take-append-drop}
use Rattle.std.proofs.lemmas.Option.{none-some, same_Some}
use Rattle.plain_model.specs.declared.id.AnyId.{AnyId}
use Rattle.plain_model.specs.declared.operation.FileOp.{FileOp}
use Rattle.plain_model.specs.declared.person.Signed.{Signed}
use Rattle.plain_model.specs.declared.policy.Lean.{Lean}
use Rattle.plain_model.specs.declared.policy.Push.TheVariants as push
use Rattle.plain_model.specs.declared.event.PlainEvent.{PlainEvent}
use Rattle.plain_model.specs.declared.event.PlainEvent.TheVariants.{Blob, Commit, Tag, Reset, Pass}
use Rattle.plain_model.specs.Histories.{Node, past}
use Rattle.plain_model.specs.Lookups.{find_event, id_of, is_listed, same_id}
use Rattle.plain_model.specs.Paths.{Bytes}
use Rattle.plain_model.specs.Soundness.{are_distinct}
use Rattle.history_laws.specs.Once.{AreDistinct}
use Rattle.history_laws.proofs.Ids.{absent_cons, cons_absent}
use Rattle.event_arena.specs.Changes.{changed, with_parents, with_target}
use Rattle.event_arena.proofs.ListLemmas.{drop_item}
use Rattle.event_arena.proofs.OnceLemmas.{distinct_absent}
use Rattle.event_arena.proofs.StepLemmas.{changed_after}
use Rattle.squash_laws.specs.Comments.{joined}
use Rattle.squash_laws.specs.Removed.{is_removed, parents_after}
use Rattle.squash_laws.specs.Takings.{comment_after, comments_of, target_after}
use Rattle.plan_steps.specs.Targets.{target_for}
use Rattle.plan_steps.proofs.LeavingLemmas.{no_links, nothing_pushed, unremoved_parents}
use Rattle.squash_delete.specs.declared.fates.Fate.{Fate}
use Rattle.squash_delete.specs.declared.fates.Fate.TheVariants.{Same, Taken, Moved}
use Rattle.squash_delete.specs.Fates.{IsCommitFate, all_given, fated, given, left_event, taken, target_fate}

-- ---- ids stay

given_id : (fate : Fate) (e : PlainEvent) → id_of (given fate e) ≡ id_of e
given_id Same e = refl
given_id (Taken ps os text) (Commit id mark branch author committer encoding comment parents ops aliases) = refl
given_id (Taken ps os text) (Blob id mark bytes) = refl
given_id (Taken ps os text) (Tag id name target tagger comment mark) = refl
given_id (Taken ps os text) (Reset id branch target) = refl
given_id (Taken ps os text) (Pass id line) = refl
given_id (Moved t) (Commit id mark branch author committer encoding comment parents ops aliases) = refl
given_id (Moved t) (Blob id mark bytes) = refl
given_id (Moved t) (Tag id name target tagger comment mark) = refl
given_id (Moved t) (Reset id branch target) = refl
given_id (Moved t) (Pass id line) = refl

pub parents_id : (ps : List ℕ) (e : PlainEvent) → id_of (with_parents ps e) ≡ id_of e
parents_id ps (Commit id mark branch author committer encoding comment parents ops aliases) = refl
parents_id ps (Blob id mark bytes) = refl
parents_id ps (Tag id name target tagger comment mark) = refl
parents_id ps (Reset id branch target) = refl
parents_id ps (Pass id line) = refl

-- ---- what stays as it is

-- what is no commit takes nothing over
pub not_taken : (e : PlainEvent)
    → ((id mark : ℕ) (branch : Bytes) (author committer : Signed) (encoding : Option Bytes) (comment : Bytes) (parents : List ℕ) (ops : List FileOp) (aliases : List ℕ)
    → e ≡ Commit id mark branch author committer encoding comment parents ops aliases → ⊥)
    → (ps : List ℕ) (os : List FileOp) (text : Bytes) → given (Taken ps os text) e ≡ e
not_taken (Commit id mark branch author committer encoding comment parents ops aliases) apart ps os text = absurd (apart id mark branch author committer encoding comment parents ops aliases refl)
not_taken (Blob id mark bytes) apart ps os text = refl
not_taken (Tag id name target tagger comment mark) apart ps os text = refl
not_taken (Reset id branch target) apart ps os text = refl
not_taken (Pass id line) apart ps os text = refl

-- what is neither a tag nor a reset has no target
pub not_moved : (t : ℕ) (e : PlainEvent)
    → ((id : ℕ) (name : Bytes) (target : ℕ) (tagger : Option Signed) (comment : Bytes) (mark : Option ℕ) → e ≡ Tag id name target tagger comment mark → ⊥)
    → ((id : ℕ) (branch : Bytes) (target : Option ℕ) → e ≡ Reset id branch target → ⊥)
    → with_target t e ≡ e
not_moved t (Commit id mark branch author committer encoding comment parents ops aliases) no_tag no_reset = refl
not_moved t (Blob id mark bytes) no_tag no_reset = refl
not_moved t (Tag id name target tagger comment mark) no_tag no_reset = absurd (no_tag id name target tagger comment mark refl)
not_moved t (Reset id branch target) no_tag no_reset = absurd (no_reset id branch target refl)
not_moved t (Pass id line) no_tag no_reset = refl

-- ---- what becomes of one

module _ (set : List AnyId) (events : List PlainEvent) (comments : Bool) (tags : Lean) where
  alone : (own : Bytes) → joined (own ∷ []) ≡ own
  alone [] = refl
  alone (x ∷ own) = refl

  -- a commit none of whose parents is removed
  pub apart_fate : (id : ℕ) (parents : List ℕ) (ops : List FileOp) (comment : Bytes) → are_distinct parents ≡ true → list_any (is_removed set) parents ≡ false →
      IsCommitFate set events comments tags id parents ops comment Same
  apart_fate id parents ops comment once apart =
      let none = no_links set events parents apart in (
        sym (unremoved_parents (is_removed set) (past events) parents once apart),
        sym (nothing_pushed set events id parents ops apart),
        own comments (sym (ap (λ (ls : List Node). joined (comments_of set events ls ++ comment ∷ [])) none ∙ alone comment)),
      )
    where
      own : (b : Bool) → comment ≡ comment_after set events push.Forward id parents comment → comment ≡ cond b (comment_after set events push.Forward id parents comment) comment
      own true is = is
      own false is = refl

  -- a commit that stays
  module _ (id mark : ℕ) (branch : Bytes) (author committer : Signed) (encoding : Option Bytes) (comment : Bytes) (parents : List ℕ) (ops : List FileOp) (aliases : List ℕ)
      (stays : is_removed set id ≡ false)
    where
      abbrev commit : List ℕ → List FileOp → Bytes → PlainEvent
      commit ps os text = Commit id mark branch author committer encoding text ps os aliases

      new_commit : commit (parents_after set events (taken set events comments tags) parents) ((taken set events comments tags).ops id parents ops) ((taken set events comments tags).comment id parents comment)
          ≡ fated set events comments tags (commit parents ops comment)
      new_commit = sym (ap (λ b. cond b (commit parents ops comment) (left_event set events comments tags (commit parents ops comment))) stays)

      all_new : (ps ps' : List ℕ) (os os' : List FileOp) (text text' : Bytes) → ps ≡ ps' → os ≡ os' → text ≡ text' → commit ps os text ≡ commit ps' os' text'
      all_new ps ps' os os' text text' a b c =
          ap (λ (x : List ℕ). commit x os text) a ∙ ap (λ (x : List FileOp). commit ps' x text) b ∙ ap (λ (x : Bytes). commit ps' os' x) c

      pub commit_fated : (fate : Fate) → IsCommitFate set events comments tags id parents ops comment fate →
          given fate (commit parents ops comment) ≡ fated set events comments tags (commit parents ops comment)
      commit_fated Same h = all_new parents _ ops _ comment _ h.0 h.1 h.2 ∙ new_commit
      commit_fated (Taken ps os text) h = all_new ps _ os _ text _ h.0 h.1 h.2 ∙ new_commit
      commit_fated (Moved t) h = absurd h

  abbrev goes_to : ℕ → Option ℕ
  goes_to = target_after set events push.Forward tags

  -- a tag or a reset that isn't one of the set, and what is no commit
  pub target_fated : (e : PlainEvent) → is_listed (id_of e) set ≡ false
      → ((id mark : ℕ) (branch : Bytes) (author committer : Signed) (encoding : Option Bytes) (comment : Bytes) (parents : List ℕ) (ops : List FileOp) (aliases : List ℕ)
      → e ≡ Commit id mark branch author committer encoding comment parents ops aliases → ⊥)
      → given (target_fate (target_for Some e) (target_for goes_to e)) e ≡ fated set events comments tags e
  target_fated (Tag id name target tagger comment mark) out apart =
      step (goes_to target)
      ∙ ap (λ b. cond (b || not (is_some (goes_to target))) (Tag id name target tagger comment mark) (Tag id name (unwrap_or (goes_to target) target) tagger comment mark)) (sym out)
    where
      step : (o : Option ℕ) → given (target_fate (Some target) o) (Tag id name target tagger comment mark)
          ≡ cond (not (is_some o)) (Tag id name target tagger comment mark) (Tag id name (unwrap_or o target) tagger comment mark)
      step None = refl
      step (Some d) = both (target == d) refl
        where
          both : (b : Bool) → target == d ≡ b → given (cond b Same (Moved d)) (Tag id name target tagger comment mark) ≡ Tag id name d tagger comment mark
          both true is = ap (λ t. Tag id name t tagger comment mark) (eqb-true target d is)
          both false is = refl
  target_fated (Reset id branch (Some target)) out apart =
      step (goes_to target)
      ∙ ap (λ b. cond (b || not (is_some (goes_to target))) (Reset id branch (Some target)) (Reset id branch (Some (unwrap_or (goes_to target) target)))) (sym out)
    where
      step : (o : Option ℕ) → given (target_fate (Some target) o) (Reset id branch (Some target))
          ≡ cond (not (is_some o)) (Reset id branch (Some target)) (Reset id branch (Some (unwrap_or o target)))
      step None = refl
      step (Some d) = both (target == d) refl
        where
          both : (b : Bool) → target == d ≡ b → given (cond b Same (Moved d)) (Reset id branch (Some target)) ≡ Reset id branch (Some d)
          both true is = ap (λ t. Reset id branch (Some t)) (eqb-true target d is)
          both false is = refl
  target_fated (Reset id branch None) out apart = ap (λ b. cond b (Reset id branch None) (Reset id branch None)) (sym out)
  target_fated (Blob id mark bytes) out apart = refl
  target_fated (Commit id mark branch author committer encoding comment parents ops aliases) out apart =
      absurd (apart id mark branch author committer encoding comment parents ops aliases refl)
  target_fated (Pass id line) out apart = ap (λ b. cond b (Pass id line) (Pass id line)) (sym out)

  -- what is one of the set
  pub listed_fated : (e : PlainEvent) → is_listed (id_of e) set ≡ true → e ≡ fated set events comments tags e
  listed_fated (Tag id name target tagger comment mark) out =
      sym (ap (λ b. cond (b || not (is_some (goes_to target))) (Tag id name target tagger comment mark) (Tag id name (unwrap_or (goes_to target) target) tagger comment mark)) out)
  listed_fated (Reset id branch (Some target)) out =
      sym (ap (λ b. cond (b || not (is_some (goes_to target))) (Reset id branch (Some target)) (Reset id branch (Some (unwrap_or (goes_to target) target)))) out)
  listed_fated (Reset id branch None) out = sym (ap (λ b. cond b (Reset id branch None) (Reset id branch None)) out)
  listed_fated (Blob id mark bytes) out = refl
  listed_fated (Commit id mark branch author committer encoding comment parents ops aliases) out =
      sym (ap (λ b. cond b (Commit id mark branch author committer encoding comment parents ops aliases) (left_event set events comments tags (Commit id mark branch author committer encoding comment parents ops aliases))) out)
  listed_fated (Pass id line) out = sym (ap (λ b. cond b (Pass id line) (Pass id line)) out)

-- ---- one after another

pub none_given : (es : List PlainEvent) → all_given [] es ≡ es
none_given [] = refl
none_given (e ∷ es) = refl

nothing_given : (fates : List Fate) → all_given fates [] ≡ []
nothing_given [] = refl
nothing_given (f ∷ fs) = refl

pub length_given : (fates : List Fate) (es : List PlainEvent) → length (all_given fates es) ≡ length es
length_given [] es = ap length (none_given es)
length_given (f ∷ fs) [] = refl
length_given (f ∷ fs) (e ∷ es) = ap suc (length_given fs es)

pub item_given : (k : ℕ) (fates : List Fate) (es : List PlainEvent) → slice_get (all_given (take k fates) es) k ≡ slice_get es k
item_given zero fates es = ap (λ (l : List PlainEvent). slice_get l zero) (none_given es)
item_given (suc k) [] es = ap (λ (l : List PlainEvent). slice_get l (suc k)) (none_given es)
item_given (suc k) (f ∷ fs) [] = refl
item_given (suc k) (f ∷ fs) (e ∷ es) = item_given k fs es

absent_given : (fates : List Fate) (es : List PlainEvent) (id : AnyId) → find_event id es ≡ None → find_event id (all_given fates es) ≡ None
absent_given [] es id h = ap (find_event id) (none_given es) ∙ h
absent_given (f ∷ fs) [] id h = refl
absent_given (f ∷ fs) (e ∷ es) id h =
    let rest = absent_cons id e es h in
    cons_absent id (given f e) (all_given fs es) (ap (same_id id) (given_id f e) ∙ rest.0) (absent_given fs es id rest.1)

split_given : (k : ℕ) (fates : List Fate) (es : List PlainEvent) → all_given (take k fates) es ≡ all_given (take k fates) (take k es) ++ drop k es
split_given zero fates es = none_given es
split_given (suc k) [] es =
    none_given es ∙ sym (ap (λ (l : List PlainEvent). l ++ drop (suc k) es) (none_given (take (suc k) es)) ∙ take-append-drop (suc k) es)
split_given (suc k) (f ∷ fs) [] = refl
split_given (suc k) (f ∷ fs) (e ∷ es) = ap (λ (l : List PlainEvent). given f e ∷ l) (split_given k fs es)

next_given : (k : ℕ) (fates : List Fate) (es : List PlainEvent) (f : Fate) (e : PlainEvent) → k < length fates → f ≡ get_or fates k f → slice_get es k ≡ Some e →
    all_given (take (suc k) fates) es ≡ all_given (take k fates) (take k es) ++ given f e ∷ drop (suc k) es
next_given k [] es f e low is at = absurd (omega arith)
next_given zero (g ∷ fs) [] f e low is at = absurd (none-some e at)
next_given zero (g ∷ fs) (x ∷ es) f e low is at =
    ap (λ (l : List PlainEvent). given g x ∷ l) (none_given es) ∙ ap (λ h. given h x ∷ es) (sym is) ∙ ap (λ y. given f y ∷ es) (same_Some x e at)
next_given (suc k) (g ∷ fs) [] f e low is at = absurd (none-some e at)
next_given (suc k) (g ∷ fs) (x ∷ es) f e low is at = ap (λ (l : List PlainEvent). given g x ∷ l) (next_given k fs es f e (omega arith) is at)

pub step_given : (es : List PlainEvent) → AreDistinct es → (k : ℕ) (fates : List Fate) (f : Fate) (e : PlainEvent) → k < length fates → f ≡ get_or fates k f → slice_get es k ≡ Some e →
    changed (id_of e) (given f) (all_given (take k fates) es) ≡ all_given (take (suc k) fates) es
step_given es once k fates f e low is at =
    let parts : es ≡ take k es ++ e ∷ drop (suc k) es =
    sym (take-append-drop k es) ∙ ap (λ (ys : List PlainEvent). take k es ++ ys) (drop_item es k e at) in
    let absent = absent_given (take k fates) (take k es) (id_of e) (distinct_absent (take k es) (drop (suc k) es) e (subst AreDistinct parts once)) in
    ap (changed (id_of e) (given f)) (split_given k fates es ∙ ap (λ (ys : List PlainEvent). all_given (take k fates) (take k es) ++ ys) (drop_item es k e at))
    ∙ changed_after (given f) (all_given (take k fates) (take k es)) (drop (suc k) es) e absent
    ∙ sym (next_given k fates es f e low is at)

pub given_all : (g : PlainEvent → PlainEvent) (fates : List Fate) (es : List PlainEvent) → length fates ≡ length es →
    ((j : ℕ) (e : PlainEvent) → slice_get es j ≡ Some e → given (get_or fates j Same) e ≡ g e) → all_given fates es ≡ map g es
given_all g fates [] c h = nothing_given fates
given_all g [] (e ∷ es) c h = absurd (omega arith)
given_all g (f ∷ fs) (e ∷ es) c h =
    ap (λ x. x ∷ all_given fs es) (h zero e refl) ∙ ap (λ (l : List PlainEvent). g e ∷ l) (given_all g fs es (omega arith) (λ j x at. h (suc j) x at))
