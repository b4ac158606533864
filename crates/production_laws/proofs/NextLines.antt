-- What may stand after the first line of some items: the items that are left, which a line of each word leaves.
use Rattle.std.proofs.Common.{◌≡◌, ℕ, zero, suc, Bool, true, false, cond, not, List, [], ◌∷◌, ◌++◌, refl, sym, ◌∙◌, ap, subst, inl, inr, eqb-true, eq-eqb}
use Rattle.std.specs.Prelude.{◌==◌, ◌&&◌, if◌then◌else◌}
use Rattle.std.proofs.lemmas.Bool.{and_parts, true≢false, not-true}
use Rattle.stream_grammar.specs.declared.lines.Word.{Word}
use Rattle.stream_grammar.specs.declared.lines.Word.TheVariants as word
use Rattle.production_laws.specs.Productions.{Item, several, operations, Fit}
use Rattle.production_laws.specs.Productions.Item.{One, Perhaps, Many, Operations}
use Rattle.production_laws.specs.Productions.Change.{Alone, Inline}

-- ---- words are distinguished by numbers

abbrev pub number : Word → ℕ
number word.Empty = 0
number word.Blob = 1
number word.Commit = 2
number word.Tag = 3
number word.Reset = 4
number word.Mark = 5
number word.Oid = 6
number word.Author = 7
number word.Committer = 8
number word.Encoding = 9
number word.Data = 10
number word.From = 11
number word.Merge = 12
number word.Tagger = 13
number word.Alias = 14
number word.To = 15
number word.Operation = 16
number word.InlineOperation = 17
number word.Pass = 18
number word.FeatureDone = 19
number word.Done = 20
number word.LeftOut = 21
number word.Other = 22

word_at : ℕ → Word
word_at n =
    if n == 0 then word.Empty else
    if n == 1 then word.Blob else
    if n == 2 then word.Commit else
    if n == 3 then word.Tag else
    if n == 4 then word.Reset else
    if n == 5 then word.Mark else
    if n == 6 then word.Oid else
    if n == 7 then word.Author else
    if n == 8 then word.Committer else
    if n == 9 then word.Encoding else
    if n == 10 then word.Data else
    if n == 11 then word.From else
    if n == 12 then word.Merge else
    if n == 13 then word.Tagger else
    if n == 14 then word.Alias else
    if n == 15 then word.To else
    if n == 16 then word.Operation else
    if n == 17 then word.InlineOperation else
    if n == 18 then word.Pass else
    if n == 19 then word.FeatureDone else
    if n == 20 then word.Done else
    if n == 21 then word.LeftOut else word.Other

numbered : (w : Word) → word_at (number w) ≡ w
unfolding word_at
numbered word.Empty = refl
numbered _ = refl

abbrev pub same : Word → Word → Bool
same v w = number v == number w

pub same_is : (v w : Word) → same v w ≡ true → v ≡ w
same_is v w e = sym (numbered v) ∙ ap word_at (eqb-true (number v) (number w) e) ∙ numbered w

pub is_same : (v w : Word) → v ≡ w → same v w ≡ true
is_same v w e = eq-eqb (number v) (number w) (ap number e)

-- ---- the items that are left

-- after a line the event goes on with these items; it misses another line; or it is over before the line
pub data Left : Type 0 where
  GoesOn : List Item → Left
  Misses : Left
  IsOver : Left

abbrev pub left : List Item → Word → Left
left [] w = IsOver
left (One v ∷ items) w = cond (same v w) (GoesOn items) Misses
left (Perhaps v ∷ items) w = cond (same v w) (GoesOn items) (left items w)
left (Many v ∷ items) w = cond (same v w) (GoesOn (Many v ∷ items)) (left items w)
left (Operations ∷ items) w =
    cond (same word.Operation w) (GoesOn (Operations ∷ items)) (cond (same word.InlineOperation w) (GoesOn (One word.Data ∷ Operations ∷ items)) (left items w))

-- an event or a line between events begins with the word
abbrev pub may_begin : Word → Bool
may_begin word.Blob = true
may_begin word.Commit = true
may_begin word.Tag = true
may_begin word.Reset = true
may_begin word.Alias = true
may_begin word.Pass = true
may_begin word.FeatureDone = true
may_begin word.Empty = true
may_begin word.Done = true
may_begin _ = false

abbrev pub is_free_by : Left → Word → Bool
is_free_by (GoesOn items) v = false
is_free_by Misses v = true
is_free_by IsOver v = not (may_begin v)

-- the items don't begin with the word, nor does what comes after them
abbrev pub is_free : Word → List Item → Bool
is_free v items = is_free_by (left items v) v

-- a line that may be left out isn't one that may come next
abbrev pub are_apart : List Item → Bool
are_apart [] = true
are_apart (One v ∷ items) = are_apart items
are_apart (Perhaps v ∷ items) = is_free v items && are_apart items
are_apart (Many v ∷ items) = is_free v items && are_apart items
are_apart (Operations ∷ items) = is_free word.Operation items && (is_free word.InlineOperation items && are_apart items)

-- no line is missing at the end
abbrev pub are_optional : List Item → Bool
are_optional [] = true
are_optional (One v ∷ items) = false
are_optional (Perhaps v ∷ items) = are_optional items
are_optional (Many v ∷ items) = are_optional items
are_optional (Operations ∷ items) = are_optional items

head_is : (v w : Word) (vs ws : List Word) → ◌≡◌ {A = List Word} (v ∷ vs) (w ∷ ws) → (v ≡ w) × (vs ≡ ws)
head_is v w vs ws e = (cc, cc)

-- the words are those of the items, and of what comes after
abbrev pub Whole : (List Word → Type 0) → List Item → List Word → Type 0
Whole Tail items ws = (rest : List Word) × Fit items ws rest × Tail rest

abbrev pub Answers : (List Word → Type 0) → Left → Word → List Word → Type 0
Answers Tail (GoesOn items) w ws = Whole Tail items ws
Answers Tail Misses w ws = ⊥
Answers Tail IsOver w ws = Tail (w ∷ ws)

module _ (Tail : List Word → Type 0) where
  -- ---- what is left fits

  pub put_back : (items : List Item) (w : Word) (ws : List Word) → Answers Tail (left items w) w ws → Whole Tail items (w ∷ ws)
  put_back [] w ws h = (w ∷ ws, refl, h)
  put_back (One v ∷ items) w ws h = go (same v w) refl h
    where
      go : (t : Bool) → same v w ≡ t → Answers Tail (cond t (GoesOn items) Misses) w ws → Whole Tail (One v ∷ items) (w ∷ ws)
      go true e h = (h.0, (ws, ap (λ (x : Word). x ∷ ws) (sym (same_is v w e)), h.1), h.2)
      go false e h = absurd h
  put_back (Perhaps v ∷ items) w ws h = go (same v w) refl h (put_back items w ws)
    where
      go : (t : Bool) → same v w ≡ t → Answers Tail (cond t (GoesOn items) (left items w)) w ws → (Answers Tail (left items w) w ws → Whole Tail items (w ∷ ws))
          → Whole Tail (Perhaps v ∷ items) (w ∷ ws)
      go true e h later = (h.0, inr (ws, ap (λ (x : Word). x ∷ ws) (sym (same_is v w e)), h.1), h.2)
      go false e h later = let x = later h in (x.0, inl x.1, x.2)
  put_back (Many v ∷ items) w ws h = go (same v w) refl h (put_back items w ws)
    where
      go : (t : Bool) → same v w ≡ t → Answers Tail (cond t (GoesOn (Many v ∷ items)) (left items w)) w ws → (Answers Tail (left items w) w ws → Whole Tail items (w ∷ ws))
          → Whole Tail (Many v ∷ items) (w ∷ ws)
      go true e (rest, (n, more, is, fit), tail) later = (rest, (suc n, more, (λ i. sym (same_is v w e) i ∷ is i), fit), tail)
      go false e h later = let x = later h in (x.0, (0, w ∷ ws, refl, x.1), x.2)
  put_back (Operations ∷ items) w ws h = go (same word.Operation w) (same word.InlineOperation w) refl refl h (put_back items w ws)
    where
      go : (t u : Bool) → same word.Operation w ≡ t → same word.InlineOperation w ≡ u
          → Answers Tail (cond t (GoesOn (Operations ∷ items)) (cond u (GoesOn (One word.Data ∷ Operations ∷ items)) (left items w))) w ws
          → (Answers Tail (left items w) w ws → Whole Tail items (w ∷ ws)) → Whole Tail (Operations ∷ items) (w ∷ ws)
      go true u e f (rest, (changes, more, is, fit), tail) later = (rest, (Alone ∷ changes, more, (λ i. sym (same_is word.Operation w e) i ∷ is i), fit), tail)
      go false true e f (rest, (next, data_is, (changes, more, is, fit)), tail) later =
          (rest, (Inline ∷ changes, more, (λ i. sym (same_is word.InlineOperation w f) i ∷ (data_is ∙ ap (λ (l : List Word). word.Data ∷ l) is) i), fit), tail)
      go false false e f h later = let x = later h in (x.0, ([], w ∷ ws, refl, x.1), x.2)

  -- ---- the end

  no_head : (v : Word) (vs : List Word) → ◌≡◌ {A = List Word} [] (v ∷ vs) → ⊥
  no_head v vs e = absurd cc

  pub ends : (items : List Item) → Whole Tail items [] → (are_optional items ≡ true) × Tail []
  ends [] (rest, fit, tail) = (refl, subst Tail (sym fit) tail)
  ends (One v ∷ items) (rest, (more, is, fit), tail) = absurd (no_head v more is)
  ends (Perhaps v ∷ items) (rest, inl fit, tail) = ends items (rest, fit, tail)
  ends (Perhaps v ∷ items) (rest, inr (more, is, fit), tail) = absurd (no_head v more is)
  ends (Many v ∷ items) (rest, (zero, more, is, fit), tail) = ends items (rest, subst (λ (l : List Word). Fit items l rest) (sym is) fit, tail)
  ends (Many v ∷ items) (rest, (suc n, more, is, fit), tail) = absurd (no_head v (several n v ++ more) is)
  ends (Operations ∷ items) (rest, ([], more, is, fit), tail) = ends items (rest, subst (λ (l : List Word). Fit items l rest) (sym is) fit, tail)
  ends (Operations ∷ items) (rest, (Alone ∷ changes, more, is, fit), tail) = absurd (no_head word.Operation (operations changes ++ more) is)
  ends (Operations ∷ items) (rest, (Inline ∷ changes, more, is, fit), tail) =
      absurd (no_head word.InlineOperation (word.Data ∷ operations changes ++ more) is)

  pub ended : (items : List Item) → are_optional items ≡ true → Tail [] → Whole Tail items []
  ended [] h tail = ([], refl, tail)
  ended (One v ∷ items) h tail = absurd (true≢false (sym h))
  ended (Perhaps v ∷ items) h tail = let x = ended items h tail in (x.0, inl x.1, x.2)
  ended (Many v ∷ items) h tail = let x = ended items h tail in (x.0, (0, [], refl, x.1), x.2)
  ended (Operations ∷ items) h tail = let x = ended items h tail in (x.0, ([], [], refl, x.1), x.2)

-- what comes after the items begins with such a word
module _ (Tail : List Word → Type 0) (begins : (w : Word) (ws : List Word) → Tail (w ∷ ws) → may_begin w ≡ true) where
  -- ---- what fits leaves that

  free : (items : List Item) (v w : Word) (ws : List Word) → v ≡ w → is_free v items ≡ true → Answers Tail (left items w) w ws → ⊥
  free items v w ws is e h = go (left items v) refl e (subst (λ (x : Word). Answers Tail (left items x) x ws) (sym is) h)
    where
      go : (l : Left) → left items v ≡ l → is_free_by l v ≡ true → Answers Tail l v ws → ⊥
      go (GoesOn more) f e h = true≢false (sym e)
      go Misses f e h = h
      go IsOver f e h = true≢false (sym (begins v ws h) ∙ not-true (may_begin v) e)

  pub taken : (items : List Item) (w : Word) (ws : List Word) → are_apart items ≡ true → Whole Tail items (w ∷ ws) → Answers Tail (left items w) w ws
  taken [] w ws apart (rest, fit, tail) = subst Tail (sym fit) tail
  taken (One v ∷ items) w ws apart (rest, (more, is, fit), tail) = go (same v w) refl
    where
      go : (t : Bool) → same v w ≡ t → Answers Tail (cond t (GoesOn items) Misses) w ws
      go true e = (rest, subst (λ (l : List Word). Fit items l rest) (sym (head_is w v ws more is).1) fit, tail)
      go false e = true≢false (sym (is_same v w (sym (head_is w v ws more is).0)) ∙ e)
  taken (Perhaps v ∷ items) w ws apart (rest, inl fit, tail) =
      let parts = and_parts (is_free v items) (are_apart items) apart in
      go parts.0 (taken items w ws parts.1 (rest, fit, tail)) (same v w) refl
    where
      go : is_free v items ≡ true → Answers Tail (left items w) w ws → (t : Bool) → same v w ≡ t → Answers Tail (cond t (GoesOn items) (left items w)) w ws
      go apart later true e = absurd (free items v w ws (same_is v w e) apart later)
      go apart later false e = later
  taken (Perhaps v ∷ items) w ws apart (rest, inr (more, is, fit), tail) = go (same v w) refl
    where
      go : (t : Bool) → same v w ≡ t → Answers Tail (cond t (GoesOn items) (left items w)) w ws
      go true e = (rest, subst (λ (l : List Word). Fit items l rest) (sym (head_is w v ws more is).1) fit, tail)
      go false e = absurd (true≢false (sym (is_same v w (sym (head_is w v ws more is).0)) ∙ e))
  taken (Many v ∷ items) w ws apart (rest, (zero, more, is, fit), tail) =
      let parts = and_parts (is_free v items) (are_apart items) apart in
      go parts.0 (taken items w ws parts.1 (rest, subst (λ (l : List Word). Fit items l rest) (sym is) fit, tail)) (same v w) refl
    where
      go : is_free v items ≡ true → Answers Tail (left items w) w ws → (t : Bool) → same v w ≡ t → Answers Tail (cond t (GoesOn (Many v ∷ items)) (left items w)) w ws
      go apart later true e = absurd (free items v w ws (same_is v w e) apart later)
      go apart later false e = later
  taken (Many v ∷ items) w ws apart (rest, (suc n, more, is, fit), tail) = go (same v w) refl
    where
      go : (t : Bool) → same v w ≡ t → Answers Tail (cond t (GoesOn (Many v ∷ items)) (left items w)) w ws
      go true e = (rest, (n, more, (head_is w v ws (several n v ++ more) is).1, fit), tail)
      go false e = absurd (true≢false (sym (is_same v w (sym (head_is w v ws (several n v ++ more) is).0)) ∙ e))
  taken (Operations ∷ items) w ws apart (rest, ([], more, is, fit), tail) =
      let a = and_parts (is_free word.Operation items) (is_free word.InlineOperation items && are_apart items) apart in
      let b = and_parts (is_free word.InlineOperation items) (are_apart items) a.1 in
      go a.0 b.0 (taken items w ws b.1 (rest, subst (λ (l : List Word). Fit items l rest) (sym is) fit, tail))
      (same word.Operation w) (same word.InlineOperation w) refl refl
    where
      go : is_free word.Operation items ≡ true → is_free word.InlineOperation items ≡ true → Answers Tail (left items w) w ws
          → (t u : Bool) → same word.Operation w ≡ t → same word.InlineOperation w ≡ u
          → Answers Tail (cond t (GoesOn (Operations ∷ items)) (cond u (GoesOn (One word.Data ∷ Operations ∷ items)) (left items w))) w ws
      go alone inline later true u e f = absurd (free items word.Operation w ws (same_is word.Operation w e) alone later)
      go alone inline later false true e f = absurd (free items word.InlineOperation w ws (same_is word.InlineOperation w f) inline later)
      go alone inline later false false e f = later
  taken (Operations ∷ items) w ws apart (rest, (Alone ∷ changes, more, is, fit), tail) =
      subst (λ (x : Word). Answers Tail (left (Operations ∷ items) x) x ws) (sym split.0) (rest, (changes, more, split.1, fit), tail)
    where
      split : (w ≡ word.Operation) × (ws ≡ operations changes ++ more)
      split = head_is w word.Operation ws (operations changes ++ more) is
  taken (Operations ∷ items) w ws apart (rest, (Inline ∷ changes, more, is, fit), tail) =
      subst (λ (x : Word). Answers Tail (left (Operations ∷ items) x) x ws) (sym split.0)
      (rest, (operations changes ++ more, split.1, (changes, more, refl, fit)), tail)
    where
      split : (w ≡ word.InlineOperation) × (ws ≡ word.Data ∷ operations changes ++ more)
      split = head_is w word.InlineOperation ws (word.Data ∷ operations changes ++ more) is
