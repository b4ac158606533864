-- Options are read as they stand together.
use Rattle.std.proofs.Common.{◌≡◌, ◌⊎◌, inl, inr, ℕ, suc, ◌+◌, Bool, true, false, cond, not, List, [], ◌∷◌, ◌++◌, map, codes, Option, Some, None, Ok, refl, sym, ap, subst, ◌∙◌, append_assoc, append-nil, arith}
use Rattle.std.specs.Prelude.{◌&&◌, ◌||◌, is_some, option_and_then, bytes_eq}
use Rattle.std.specs.List.{list_all}
use Rattle.std.proofs.lemmas.Bool.{and_parts, cases_Bool}
use Rattle.std.proofs.lemmas.Slice.Eq.{bytes_eq-Decides}
use Rattle.plain_model.specs.Paths.{Bytes}
use Rattle.plain_model.specs.declared.policy.Lean.{Lean}
use Rattle.plain_model.specs.declared.policy.Push.{Push}
use Rattle.plain_model.specs.declared.policy.Push.TheVariants as push
use Rattle.script_lines.specs.Answering.{◌>>=◌}
use Rattle.script_lines.specs.Texts.{or_at_fault, whole_in}
use Rattle.script_lines.specs.declared.word.Word.{Word}
use Rattle.script_reader.specs.Edits.{asked_by, option_in, reparenting_by}
use Rattle.script_reader.specs.Options.{AskFor, SayHow, asked_more, discards, leans_in, listed, nothing_asked, once, pushes_in, reparenting, reparenting_more, times}
use Rattle.script_reader.specs.declared.options.Asked.{Asked}
use Rattle.script_reader.specs.declared.options.Reparenting.{Reparenting}
use Rattle.script_reader.specs.declared.options.SquashOption.{SquashOption}
use Rattle.script_reader.specs.declared.options.SquashOption.TheVariants.{Pushes, Leans}

-- ---- of `squash`

-- some options follow what was asked before, and all together ask for so much
record Follow (before : Asked) (options : List SquashOption) (asked : Asked) : Type 0 where
  push : listed before.push ++ pushes_in options ≡ listed asked.push
  tags : listed before.tags ++ leans_in options ≡ listed asked.tags
  apart : (discards asked.push && is_some asked.tags) ≡ false

-- no lean stands beside `--delete`
abbrev Apart : Asked → Type 0
Apart asked = (discards asked.push && is_some asked.tags) ≡ false

-- one option is read where it can follow
record Reads (before : Asked) (option : SquashOption) (more : Asked) : Type 0 where
  push : listed before.push ++ pushes_in (option ∷ []) ≡ listed more.push
  tags : listed before.tags ++ leans_in (option ∷ []) ≡ listed more.tags
  apart : Apart more

abbrev asking : Option Push → Option Lean → Asked
asking push tags = record { push = push; tags = tags }

is_read : (before : Asked) (option : SquashOption) (now more : Asked) → Reads before option now → ◌≡◌ {A = Option Asked} (Some now) (Some more)
    → Reads before option more
is_read before option now more h e = let is : now ≡ more = cc in subst (Reads before option) is h

one_read : (before : Asked) (option : SquashOption) (more : Asked) → asked_more before option ≡ Some more → Reads before option more
one_read before (Pushes to) more e = go before.push before.tags to e
  where
    reads : (t : Option Lean) (to : Push) → Apart (asking (Some to) t) → ◌≡◌ {A = Option Asked} (Some (asking (Some to) t)) (Some more)
        → Reads (asking None t) (Pushes to) more
    reads t to apart e = is_read (asking None t) (Pushes to) (asking (Some to) t) more (record { push = refl; tags = append-nil (listed t); apart = apart }) e

    go : (p : Option Push) (t : Option Lean) (to : Push) → asked_more (asking p t) (Pushes to) ≡ Some more → Reads (asking p t) (Pushes to) more
    go (Some p) t to e = absurd cc
    go None (Some t) push.Discard e = absurd cc
    go None (Some t) push.Forward e = reads (Some t) push.Forward refl e
    go None (Some t) push.Back e = reads (Some t) push.Back refl e
    go None None push.Discard e = reads None push.Discard refl e
    go None None push.Forward e = reads None push.Forward refl e
    go None None push.Back e = reads None push.Back refl e
one_read before (Leans to) more e = go before.push before.tags e
  where
    reads : (p : Option Push) → Apart (asking p (Some to)) → ◌≡◌ {A = Option Asked} (Some (asking p (Some to))) (Some more) → Reads (asking p None) (Leans to) more
    reads p apart e = is_read (asking p None) (Leans to) (asking p (Some to)) more (record { push = append-nil (listed p); tags = refl; apart = apart }) e

    go : (p : Option Push) (t : Option Lean) → asked_more (asking p t) (Leans to) ≡ Some more → Reads (asking p t) (Leans to) more
    go p (Some t) e = absurd cc
    go None None e = reads None refl e
    go (Some push.Discard) None e = absurd cc
    go (Some push.Forward) None e = reads (Some push.Forward) refl e
    go (Some push.Back) None e = reads (Some push.Back) refl e

more_pushes : (option : SquashOption) (options : List SquashOption) → pushes_in (option ∷ options) ≡ pushes_in (option ∷ []) ++ pushes_in options
more_pushes (Pushes to) options = refl
more_pushes (Leans to) options = refl

more_leans : (option : SquashOption) (options : List SquashOption) → leans_in (option ∷ options) ≡ leans_in (option ∷ []) ++ leans_in options
more_leans (Pushes to) options = refl
more_leans (Leans to) options = refl

-- options that are read one after another ask together
asked_follow : (before : Asked) (words : List Word) (asked : Asked) → Apart before → asked_by before words ≡ Ok asked
    → (options : List SquashOption) × (map option_in words ≡ map Some options) × Follow before options asked
asked_follow before [] asked apart e =
    let is : before ≡ asked = cc in ([], refl, subst (Follow before []) is (record { push = append-nil (listed before.push); tags = append-nil (listed before.tags); apart = apart }))
asked_follow before (word ∷ words) asked apart e = go (λ more apart e. asked_follow more words asked apart e) (option_in word) refl e
  where
    Later : Type 0
    Later = (more : Asked) → Apart more → asked_by more words ≡ Ok asked → (options : List SquashOption) × (map option_in words
        ≡ map Some options) × Follow more options asked

    next : Later → (option : SquashOption) → option_in word ≡ Some option → (more : Option Asked) → asked_more before option ≡ more
        → ((or_at_fault word more) >>= (λ more. asked_by more words)) ≡ Ok asked
        → (options : List SquashOption) × (option_in word ∷ map option_in words ≡ map Some options) × Follow before options asked
    next later option is (Some more) read e =
        let one = one_read before option more read in
        let rest = later more one.apart e in (
          option ∷ rest.0,
          (λ i. is i ∷ rest.1 i),
          record {
            push = ap (λ (l : List Push). listed before.push ++ l) (more_pushes option rest.0)
                ∙ sym (append_assoc (listed before.push) (pushes_in (option ∷ [])) (pushes_in rest.0))
                ∙ ap (λ (l : List Push). l ++ pushes_in rest.0) one.push ∙ rest.2.push;
            tags = ap (λ (l : List Lean). listed before.tags ++ l) (more_leans option rest.0)
                ∙ sym (append_assoc (listed before.tags) (leans_in (option ∷ [])) (leans_in rest.0))
                ∙ ap (λ (l : List Lean). l ++ leans_in rest.0) one.tags ∙ rest.2.tags;
            apart = rest.2.apart;
          },
        )
    next later option is None read e = absurd cc

    go : Later → (option : Option SquashOption) → option_in word ≡ option
        → ((or_at_fault word (option_and_then (asked_more before) option)) >>= (λ more. asked_by more words)) ≡ Ok asked
        → (options : List SquashOption) × (option_in word ∷ map option_in words ≡ map Some options) × Follow before options asked
    go later (Some option) is e = next later option is (asked_more before option) refl e
    go later None is e = absurd cc

-- the first of options that ask together can follow what was asked before
goes_on : (before : Asked) (option : SquashOption) (options : List SquashOption) (asked : Asked) → Follow before (option ∷ options) asked
    → (more : Asked) × (asked_more before option ≡ Some more) × Follow more options asked
goes_on before option options asked follow = go before.push before.tags option asked.push asked.tags follow.push follow.tags follow.apart
  where
    Goal : Option Push → Option Lean → SquashOption → Option Push → Option Lean → Type 0
    Goal p t option a b =
        (more : Asked) × (asked_more (record { push = p; tags = t }) option ≡ Some more) × Follow more options (record { push = a; tags = b })

    go : (p : Option Push) (t : Option Lean) (option : SquashOption) (a : Option Push) (b : Option Lean) → listed p ++ pushes_in (option ∷ options) ≡ listed a
        → listed t ++ leans_in (option ∷ options) ≡ listed b → (discards a && is_some b) ≡ false → Goal p t option a b
    go (Some q) t (Pushes to) None b h k n = absurd cc
    go (Some q) t (Pushes to) (Some x) b h k n = absurd cc
    go None None (Pushes push.Discard) a b h k n = (record { push = Some push.Discard; tags = None }, refl, record { push = h; tags = k; apart = n })
    go None None (Pushes push.Forward) a b h k n = (record { push = Some push.Forward; tags = None }, refl, record { push = h; tags = k; apart = n })
    go None None (Pushes push.Back) a b h k n = (record { push = Some push.Back; tags = None }, refl, record { push = h; tags = k; apart = n })
    go None (Some l) (Pushes push.Discard) None b h k n = absurd cc
    go None (Some l) (Pushes push.Discard) (Some x) None h k n = absurd cc
    go None (Some l) (Pushes push.Discard) (Some push.Discard) (Some y) h k n = absurd cc
    go None (Some l) (Pushes push.Discard) (Some push.Forward) (Some y) h k n = absurd cc
    go None (Some l) (Pushes push.Discard) (Some push.Back) (Some y) h k n = absurd cc
    go None (Some l) (Pushes push.Forward) a b h k n = (record { push = Some push.Forward; tags = Some l }, refl, record { push = h; tags = k; apart = n })
    go None (Some l) (Pushes push.Back) a b h k n = (record { push = Some push.Back; tags = Some l }, refl, record { push = h; tags = k; apart = n })
    go p (Some l) (Leans to) a None h k n = absurd cc
    go p (Some l) (Leans to) a (Some y) h k n = absurd cc
    go None None (Leans to) a b h k n = (record { push = None; tags = Some to }, refl, record { push = h; tags = k; apart = n })
    go (Some push.Forward) None (Leans to) a b h k n = (record { push = Some push.Forward; tags = Some to }, refl, record { push = h; tags = k; apart = n })
    go (Some push.Back) None (Leans to) a b h k n = (record { push = Some push.Back; tags = Some to }, refl, record { push = h; tags = k; apart = n })
    go (Some push.Discard) None (Leans to) None b h k n = absurd cc
    go (Some push.Discard) None (Leans to) (Some x) None h k n = absurd cc
    go (Some push.Discard) None (Leans to) (Some push.Discard) (Some y) h k n = absurd cc
    go (Some push.Discard) None (Leans to) (Some push.Forward) (Some y) h k n = absurd cc
    go (Some push.Discard) None (Leans to) (Some push.Back) (Some y) h k n = absurd cc

same_listed : {A : Type 0} (a b : Option A) → listed a ++ [] ≡ listed b → a ≡ b
same_listed None None h = refl
same_listed None (Some y) h = absurd cc
same_listed (Some x) None h = absurd cc
same_listed (Some x) (Some y) h = cc

-- options that ask together are read one after another
follow_asked : (before : Asked) (words : List Word) (options : List SquashOption) (asked : Asked) → map option_in words ≡ map Some options
    → Follow before options asked
    → asked_by before words ≡ Ok asked
follow_asked before [] [] asked h f =
    let p = same_listed before.push asked.push f.push in let t = same_listed before.tags asked.tags f.tags in λ i. Ok (record { push = p i; tags = t i })
follow_asked before [] (option ∷ options) asked h f = absurd cc
follow_asked before (word ∷ words) [] asked h f = absurd cc
follow_asked before (word ∷ words) (option ∷ options) asked h f =
    let first : option_in word ≡ Some option = cc in
    let rest : map option_in words ≡ map Some options = cc in
    let on = goes_on before option options asked f in
    ap (λ o. (or_at_fault word (option_and_then (asked_more before) o)) >>= (λ more. asked_by more words)) first
    ∙ ap (λ o. (or_at_fault word o) >>= (λ more. asked_by more words)) on.1
    ∙ follow_asked on.0 words options asked rest on.2

pub options_together : (words : List Word) (asked : Asked) → asked_by nothing_asked words ≡ Ok asked
    → (options : List SquashOption) × (map option_in words ≡ map Some options) × AskFor options asked
options_together words asked e =
    let all = asked_follow nothing_asked words asked refl e in (all.0, all.1, record { push = all.2.push; tags = all.2.tags; apart = all.2.apart })

pub together_options : (words : List Word) (asked : Asked) → ((options : List SquashOption) × (map option_in words ≡ map Some options) × AskFor options asked)
    → asked_by nothing_asked words ≡ Ok asked
together_options words asked (options, are, ask) = follow_asked nothing_asked words options asked are (record { push = ask.push; tags = ask.tags; apart = ask.apart })

-- ---- of `reparent`

-- some words follow what was said before, and all together say so much
record FollowHow (before : Reparenting) (texts : List Bytes) (how : Reparenting) : Type 0 where
  known : list_all (λ word. bytes_eq (codes "--use-order") word || bytes_eq (codes "--rebase") word) texts ≡ true
  order : once before.use_order + times (codes "--use-order") texts ≡ once how.use_order
  rebase : once before.rebase + times (codes "--rebase") texts ≡ once how.rebase

-- one word says one option that wasn't there
abbrev HowReads : Reparenting → Bytes → Reparenting → Type 0
HowReads before text more =
    ((text ≡ codes "--use-order") × (before.use_order ≡ false) × (record { use_order = true; rebase = before.rebase } ≡ more))
    ⊎ ((text ≡ codes "--rebase") × (before.rebase ≡ false) × (record { use_order = before.use_order; rebase = true } ≡ more))

how_read : (before : Reparenting) (text : Bytes) (more : Reparenting) → reparenting_more before text ≡ Some more → HowReads before text more
how_read before text more e =
    go (bytes_eq text (codes "--use-order")) before.use_order (bytes_eq text (codes "--rebase")) before.rebase (bytes_eq-Decides text (codes "--use-order")).0 (bytes_eq-Decides text (codes "--rebase")).0 e
  where
    go : (a u b r : Bool) → (a ≡ true → text ≡ codes "--use-order") → (b ≡ true → text ≡ codes "--rebase")
        → cond (a && not u) (Some (record { use_order = true; rebase = r })) (cond (b && not r) (Some (record { use_order = u; rebase = true })) None) ≡ Some more
        → HowReads (record { use_order = u; rebase = r }) text more
    go true false b r h k e = inl (h refl, refl, cc)
    go true true true false h k e = inr (k refl, refl, cc)
    go true true true true h k e = absurd cc
    go true true false r h k e = absurd cc
    go false u true false h k e = inr (k refl, refl, cc)
    go false u true true h k e = absurd cc
    go false u false r h k e = absurd cc

later : (n k : ℕ) → 1 + n ≡ k → 0 + suc n ≡ k
later n k h = omega (arith, h)

sooner : (n k : ℕ) → 0 + suc n ≡ k → 1 + n ≡ k
sooner n k h = omega (arith, h)

at_first : (n k : ℕ) → n ≡ k → 0 + n ≡ k
at_first n k h = omega (arith, h)

in_all : (n k : ℕ) → 0 + n ≡ k → n ≡ k
in_all n k h = omega (arith, h)

-- what is said by one word and those after it
how_on : (before : Reparenting) (text : Bytes) (texts : List Bytes) (more how : Reparenting) → HowReads before text more → FollowHow more texts how
    → FollowHow before (text ∷ texts) how
how_on before text texts more how (inl (is, unsaid, same)) f =
    let g = subst (λ m. FollowHow m texts how) (sym same) f in
    subst (λ t. FollowHow before (t ∷ texts) how) (sym is) (record {
      known = g.known;
      order = ap (λ b. once b + suc (times (codes "--use-order") texts)) unsaid ∙ later (times (codes "--use-order") texts) (once how.use_order) g.order;
      rebase = g.rebase;
    })
how_on before text texts more how (inr (is, unsaid, same)) f =
    let g = subst (λ m. FollowHow m texts how) (sym same) f in
    subst (λ t. FollowHow before (t ∷ texts) how) (sym is) (record {
      known = g.known;
      order = g.order;
      rebase = ap (λ b. once b + suc (times (codes "--rebase") texts)) unsaid ∙ later (times (codes "--rebase") texts) (once how.rebase) g.rebase;
    })

how_follow : (before : Reparenting) (words : List Word) (how : Reparenting) → reparenting_by before words ≡ Ok how
    → (texts : List Bytes) × (map whole_in words ≡ map Some texts) × FollowHow before texts how
how_follow before [] how e =
    let is : before ≡ how = cc in ([], refl, subst (FollowHow before []) is (record { known = refl; order = omega arith; rebase = omega arith }))
how_follow before (word ∷ words) how e = go (λ more e. how_follow more words how e) (whole_in word) refl e
  where
    Later : Type 0
    Later = (more : Reparenting) → reparenting_by more words ≡ Ok how → (texts : List Bytes) × (map whole_in words ≡ map Some texts) × FollowHow more texts how

    next : Later → (text : Bytes) → whole_in word ≡ Some text → (more : Option Reparenting) → reparenting_more before text ≡ more
        → ((or_at_fault word more) >>= (λ more. reparenting_by more words)) ≡ Ok how
        → (texts : List Bytes) × (whole_in word ∷ map whole_in words ≡ map Some texts) × FollowHow before texts how
    next later text is (Some more) read e =
        let rest = later more e in (text ∷ rest.0, (λ i. is i ∷ rest.1 i), how_on before text rest.0 more how (how_read before text more read) rest.2)
    next later text is None read e = absurd cc

    go : Later → (text : Option Bytes) → whole_in word ≡ text
        → ((or_at_fault word (option_and_then (reparenting_more before) text)) >>= (λ more. reparenting_by more words)) ≡ Ok how
        → (texts : List Bytes) × (whole_in word ∷ map whole_in words ≡ map Some texts) × FollowHow before texts how
    go later (Some text) is e = next later text is (reparenting_more before text) refl e
    go later None is e = absurd cc

-- an option that stands once in all wasn't said before
unsaid_once : (b c : Bool) (n : ℕ) → once b + suc n ≡ once c → b ≡ false
unsaid_once false c n h = refl
unsaid_once true true n h = absurd (omega (arith, h))
unsaid_once true false n h = absurd (omega (arith, h))

how_goes_on : (before : Reparenting) (text : Bytes) (texts : List Bytes) (how : Reparenting) → FollowHow before (text ∷ texts) how
    → (more : Reparenting) × (reparenting_more before text ≡ Some more) × FollowHow more texts how
how_goes_on before text texts how f = elim (cases_Bool (bytes_eq (codes "--use-order") text)) [
  | inl is ↦
      let same : codes "--use-order" ≡ text = (bytes_eq-Decides (codes "--use-order") text).0 is in
      ordered text same f
  | inr other ↦
      let either = (and_parts (bytes_eq (codes "--use-order") text || bytes_eq (codes "--rebase") text) _ f.known).0 in
      let is : bytes_eq (codes "--rebase") text ≡ true = ap (λ b. b || bytes_eq (codes "--rebase") text) (sym other) ∙ either in
      rebased text ((bytes_eq-Decides (codes "--rebase") text).0 is) f
]
  where
    Goal : Bytes → Type 0
    Goal text = (more : Reparenting) × (reparenting_more before text ≡ Some more) × FollowHow more texts how

    order_first : FollowHow before (codes "--use-order" ∷ texts) how → Goal (codes "--use-order")
    order_first f =
        let unsaid = unsaid_once before.use_order how.use_order (times (codes "--use-order") texts) f.order in (
          record { use_order = true; rebase = before.rebase },
          rw unsaid refl,
          record {
            known = f.known;
            order = sooner (times (codes "--use-order") texts) (once how.use_order) (ap (λ b. once b + suc (times (codes "--use-order") texts)) (sym unsaid) ∙ f.order);
            rebase = f.rebase;
          },
        )

    rebase_first : FollowHow before (codes "--rebase" ∷ texts) how → Goal (codes "--rebase")
    rebase_first f =
        let unsaid = unsaid_once before.rebase how.rebase (times (codes "--rebase") texts) f.rebase in (
          record { use_order = before.use_order; rebase = true },
          rw unsaid refl,
          record {
            known = f.known;
            order = f.order;
            rebase = sooner (times (codes "--rebase") texts) (once how.rebase) (ap (λ b. once b + suc (times (codes "--rebase") texts)) (sym unsaid) ∙ f.rebase);
          },
        )

    ordered : (text : Bytes) → codes "--use-order" ≡ text → FollowHow before (text ∷ texts) how → Goal text
    ordered text same f = subst Goal same (order_first (subst (λ t. FollowHow before (t ∷ texts) how) (sym same) f))

    rebased : (text : Bytes) → codes "--rebase" ≡ text → FollowHow before (text ∷ texts) how → Goal text
    rebased text same f = subst Goal same (rebase_first (subst (λ t. FollowHow before (t ∷ texts) how) (sym same) f))

same_once : (a b : Bool) → once a + 0 ≡ once b → a ≡ b
same_once true true h = refl
same_once false false h = refl
same_once true false h = absurd (omega (arith, h))
same_once false true h = absurd (omega (arith, h))

follow_how : (before : Reparenting) (words : List Word) (texts : List Bytes) (how : Reparenting) → map whole_in words ≡ map Some texts → FollowHow before texts how
    → reparenting_by before words ≡ Ok how
follow_how before [] [] how h f =
    let u = same_once before.use_order how.use_order f.order in let r = same_once before.rebase how.rebase f.rebase in
    λ i. Ok (record { use_order = u i; rebase = r i })
follow_how before [] (text ∷ texts) how h f = absurd cc
follow_how before (word ∷ words) [] how h f = absurd cc
follow_how before (word ∷ words) (text ∷ texts) how h f =
    let first : whole_in word ≡ Some text = cc in
    let rest : map whole_in words ≡ map Some texts = cc in
    let on = how_goes_on before text texts how f in
    ap (λ o. (or_at_fault word (option_and_then (reparenting_more before) o)) >>= (λ more. reparenting_by more words)) first
    ∙ ap (λ o. (or_at_fault word o) >>= (λ more. reparenting_by more words)) on.1
    ∙ follow_how on.0 words texts how rest on.2

pub how_together : (words : List Word) (how : Reparenting) → reparenting_by reparenting words ≡ Ok how
    → (texts : List Bytes) × (map whole_in words ≡ map Some texts) × SayHow texts how
how_together words how e = let all = how_follow reparenting words how e in
    (all.0, all.1, record { known = all.2.known; order = in_all _ _ all.2.order; rebase = in_all _ _ all.2.rebase })

pub together_how : (words : List Word) (how : Reparenting) → ((texts : List Bytes) × (map whole_in words ≡ map Some texts) × SayHow texts how)
    → reparenting_by reparenting words ≡ Ok how
together_how words how (texts, are, say) = follow_how reparenting words texts how are (record { known = say.known; order = at_first _ _ say.order; rebase = at_first _ _ say.rebase })
