-- The marks at the end: a history gets them as the replay does, and is shown alike.
use Rattle.std.proofs.Common.{◌≡◌, ℕ, suc, ◌+◌, ◌<◌, ◌≤◌, Bool, true, false, cond, List, [], ◌∷◌, ◌++◌, map, reverse, refl, sym, ap, subst, ◌∙◌, Option, Some, None, arith, eq-eqb, ne_eqb}
use Rattle.std.specs.Prelude.{◌==◌, filter, option_map}
use Rattle.std.specs.List.{AllByRecursion}
use Rattle.std.proofs.lemmas.Bool.{cond-true, cond-false}
use Rattle.plain_model.specs.declared.operation.Content.{Content}
use Rattle.plain_model.specs.declared.operation.Content.TheVariants.{Blob as OfBlob, Object}
use Rattle.plain_model.specs.declared.operation.Entry.{Entry}
use Rattle.plain_model.specs.declared.event.PlainEvent.{PlainEvent}
use Rattle.plain_model.specs.declared.event.PlainEvent.TheVariants.{Blob, Commit, Tag, Reset, Pass}
use Rattle.plain_model.specs.Trees.{TreeOf, put}
use Rattle.plain_model.specs.Histories.{Node, nodes, tree_in}
use Rattle.plain_model.specs.Lookups.{greatest_mark, greatest_of}
use Rattle.plain_model.specs.Snapshots.{ShownCommit, ShownTag, blob_bytes, shown_content, map_tree, shown_tree, commit_mark, refs_after, refs, shown_commits, shown_tags, snapshot}
use Rattle.plain_model.specs.Snapshots.ShownContent.{ShownBytes}
use Rattle.stream_grammar.specs.Known.{alias_marks, aliases_for, with_aliases, with_marks}
use Rattle.replay_laws.specs.Replay.{Numbered, commit_numbered, marks_for, mark_among, mark_of_number, shown_of}
use Rattle.replay_laws.proofs.Placed.{commits_seen, tags_seen, unmarked_in, seen_with}
use Rattle.history_laws.specs.Placed.{ArePlaced}

-- ---- what marks don't change

nodes_same : (n : ℕ) (es : List PlainEvent) → nodes (with_marks n es) ≡ nodes es
nodes_same n [] = refl
nodes_same n (Commit id mark branch author committer encoding comment parents ops aliases ∷ es) = go (mark == 0) (λ m. nodes_same m es)
  where
    go : (b : Bool) → ((m : ℕ) → nodes (with_marks m es) ≡ nodes es) → nodes (cond b (Commit id (n + 1) branch author committer encoding comment parents ops aliases ∷ with_marks (n + 1) es) (Commit id mark branch author committer encoding comment parents ops aliases ∷ with_marks n es))
        ≡ record { id = id; parents = parents; ops = ops } ∷ nodes es
    go true r = ap (λ (l : List Node). record { id = id; parents = parents; ops = ops } ∷ l) (r (n + 1))
    go false r = ap (λ (l : List Node). record { id = id; parents = parents; ops = ops } ∷ l) (r n)
nodes_same n (Blob id mark bytes ∷ es) = go (mark == 0) (λ m. nodes_same m es)
  where
    go : (b : Bool) → ((m : ℕ) → nodes (with_marks m es) ≡ nodes es) → nodes (cond b (Blob id (n + 1) bytes ∷ with_marks (n + 1) es) (Blob id mark bytes ∷ with_marks n es)) ≡ nodes es
    go true r = r (n + 1)
    go false r = r n
nodes_same n (Tag id name target tagger comment mark ∷ es) = nodes_same n es
nodes_same n (Reset id branch target ∷ es) = nodes_same n es
nodes_same n (Pass id line ∷ es) = nodes_same n es

refs_same : (t : TreeOf ℕ) (n : ℕ) (es : List PlainEvent) → refs_after t (with_marks n es) ≡ refs_after t es
refs_same t n [] = refl
refs_same t n (Commit id mark branch author committer encoding comment parents ops aliases ∷ es) = go (mark == 0) (λ m. refs_same (put branch id t) m es)
  where
    go : (b : Bool) → ((m : ℕ) → refs_after (put branch id t) (with_marks m es) ≡ refs_after (put branch id t) es) → refs_after t (cond b (Commit id (n + 1) branch author committer encoding comment parents ops aliases ∷ with_marks (n + 1) es) (Commit id mark branch author committer encoding comment parents ops aliases ∷ with_marks n es))
        ≡ refs_after (put branch id t) es
    go true r = r (n + 1)
    go false r = r n
refs_same t n (Blob id mark bytes ∷ es) = go (mark == 0) (λ m. refs_same t m es)
  where
    go : (b : Bool) → ((m : ℕ) → refs_after t (with_marks m es) ≡ refs_after t es) → refs_after t (cond b (Blob id (n + 1) bytes ∷ with_marks (n + 1) es) (Blob id mark bytes ∷ with_marks n es)) ≡ refs_after t es
    go true r = r (n + 1)
    go false r = r n
refs_same t n (Tag id name target tagger comment mark ∷ es) = refs_same t n es
refs_same t n (Reset id branch None ∷ es) = refs_same _ n es
refs_same t n (Reset id branch (Some c) ∷ es) = refs_same (put branch c t) n es
refs_same t n (Pass id line ∷ es) = refs_same t n es

bytes_same : (n : ℕ) (es : List PlainEvent) (b : ℕ) → blob_bytes (with_marks n es) b ≡ blob_bytes es b
bytes_same n [] b = refl
bytes_same n (Commit id mark branch author committer encoding comment parents ops aliases ∷ es) b = go (mark == 0) (λ m. bytes_same m es b)
  where
    go : (t : Bool) → ((m : ℕ) → blob_bytes (with_marks m es) b ≡ blob_bytes es b) → blob_bytes (cond t (Commit id (n + 1) branch author committer encoding comment parents ops aliases ∷ with_marks (n + 1) es) (Commit id mark branch author committer encoding comment parents ops aliases ∷ with_marks n es)) b
        ≡ blob_bytes es b
    go true r = r (n + 1)
    go false r = r n
bytes_same n (Blob id mark bytes ∷ es) b = go (mark == 0) (λ m. bytes_same m es b)
  where
    go : (t : Bool) → ((m : ℕ) → blob_bytes (with_marks m es) b ≡ blob_bytes es b) → blob_bytes (cond t (Blob id (n + 1) bytes ∷ with_marks (n + 1) es) (Blob id mark bytes ∷ with_marks n es)) b ≡ cond (id == b) bytes (blob_bytes es b)
    go true r = ap (cond (id == b) bytes) (r (n + 1))
    go false r = ap (cond (id == b) bytes) (r n)
bytes_same n (Tag id name target tagger comment mark ∷ es) b = bytes_same n es b
bytes_same n (Reset id branch target ∷ es) b = bytes_same n es b
bytes_same n (Pass id line ∷ es) b = bytes_same n es b

content_same : (n : ℕ) (es : List PlainEvent) (c : Content) → shown_content (with_marks n es) c ≡ shown_content es c
content_same n es (OfBlob b) = λ i. ShownBytes (bytes_same n es b i)
content_same n es (Object digits) = refl

tree_same : (n : ℕ) (es : List PlainEvent) (c : ℕ) → shown_tree (with_marks n es) c ≡ shown_tree es c
tree_same n es c = λ i. option_map (map_tree (λ (e : Entry). record { mode = e.mode; content = content_same n es e.content i })) (tree_in (reverse (nodes_same n es i)) c)

-- ---- marks

-- a commit's mark, or else its next one above n
abbrev mark_by : ℕ → List ℕ → Numbered → ℕ
mark_by n unmarked c = cond (c.commit.mark == 0) (mark_among n unmarked c.number) c.commit.mark

abbrev mark_found : ℕ → List ℕ → Option Numbered → ℕ
mark_found n unmarked o = elim o [ None ↦ 0 | Some c ↦ mark_by n unmarked c ]

-- a number before a commit's own
shift : (n id : ℕ) (unmarked : List ℕ) (c : Numbered) → id < c.number → mark_by n (id ∷ unmarked) c ≡ mark_by (n + 1) unmarked c
shift n id unmarked c h = ap (λ x. cond (c.commit.mark == 0) x c.commit.mark) (cond-false (id == c.number) (n + 1) (mark_among (n + 1) unmarked c.number) (ne_eqb id c.number (λ e. omega arith)))

-- a smaller bound
lower : (k : ℕ) (cs : List Numbered) → AllByRecursion (λ (c : Numbered). suc k ≤ c.number) cs → AllByRecursion (λ (c : Numbered). k ≤ c.number) cs
lower k [] b = tt
lower k (c ∷ cs) b = (let here = b.0 in omega arith, lower k cs b.1)

-- what is after the first place has a greater number
after_first : (k id n : ℕ) → id ≡ k → suc k ≤ n → id < n
after_first k id n is h = omega arith

-- the commits of events that are placed from k have no smaller numbers
later : (w : List PlainEvent) (k : ℕ) (es : List PlainEvent) → ArePlaced k es → AllByRecursion (λ (c : Numbered). k ≤ c.number) (commits_seen w es)
later w k [] a = tt
later w k (Commit id mark branch author committer encoding comment parents ops aliases ∷ es) a = (let is = a.0 in omega arith, lower k (commits_seen w es) (later w (suc k) es a.1))
later w k (Blob id mark bytes ∷ es) a = lower k (commits_seen w es) (later w (suc k) es a.1)
later w k (Tag id name target tagger comment mark ∷ es) a = lower k (commits_seen w es) (later w (suc k) es a.1)
later w k (Reset id branch target ∷ es) a = lower k (commits_seen w es) (later w (suc k) es a.1)
later w k (Pass id line ∷ es) a = lower k (commits_seen w es) (later w (suc k) es a.1)

-- the one that is found is one of them
found_later : (k : ℕ) (cs : List Numbered) → AllByRecursion (λ (c : Numbered). k ≤ c.number) cs → (n : ℕ) (c : Numbered) → commit_numbered cs n ≡ Some c → k ≤ c.number
found_later k [] a n c h = absurd cc
found_later k (x ∷ cs) a n c h = go (x.number == n) h (λ y. found_later k cs a.1 n c y)
  where
    go : (b : Bool) → cond b (Some x) (commit_numbered cs n) ≡ Some c → (commit_numbered cs n ≡ Some c → k ≤ c.number) → k ≤ c.number
    go true y f = let is : x ≡ c = cc in let at : x.number ≡ c.number = ap (λ (z : Numbered). z.number) is in let here = a.0 in omega arith
    go false y f = f y

shift_found : (n id : ℕ) (unmarked : List ℕ) (o : Option Numbered) → ((c : Numbered) → o ≡ Some c → id < c.number) → mark_found n (id ∷ unmarked) o ≡ mark_found (n + 1) unmarked o
shift_found n id unmarked None f = refl
shift_found n id unmarked (Some c) f = shift n id unmarked c (f c refl)

-- an id has the mark that its number has
mark_alike : (w : List PlainEvent) (k n : ℕ) (es : List PlainEvent) → ArePlaced k es → (c : ℕ) → commit_mark (with_marks n es) c ≡ mark_found n (unmarked_in es) (commit_numbered (commits_seen w es) c)
mark_alike w k n [] a c = refl
mark_alike w k n (Blob id mark bytes ∷ es) a c = go (mark == 0) (λ m. mark_alike w (suc k) m es a.1 c)
  where
    go : (b : Bool) → ((m : ℕ) → commit_mark (with_marks m es) c ≡ mark_found m (unmarked_in es) (commit_numbered (commits_seen w es) c)) → commit_mark (cond b (Blob id (n + 1) bytes ∷ with_marks (n + 1) es) (Blob id mark bytes ∷ with_marks n es)) c
        ≡ mark_found n (cond b (id ∷ []) [] ++ unmarked_in es) (commit_numbered (commits_seen w es) c)
    go true r = r (n + 1) ∙ sym (shift_found n id (unmarked_in es) (commit_numbered (commits_seen w es) c) (λ x e. after_first k id x.number a.0 (found_later (suc k) (commits_seen w es) (later w (suc k) es a.1) c x e)))
    go false r = r n
mark_alike w k n (Commit id mark branch author committer encoding comment parents ops aliases ∷ es) a c = go (mark == 0) refl (λ m. mark_alike w (suc k) m es a.1 c)
  where
    own : Numbered
    own = record {
      number = id;
      commit = record { mark = mark; branch = branch; author = author; committer = committer; encoding = encoding; comment = comment; parents = parents; tree = shown_tree w id; aliases = [] };
    }

    one : (b : Bool) → (mark == 0) ≡ b → ((m : ℕ) → commit_mark (with_marks m es) c ≡ mark_found m (unmarked_in es) (commit_numbered (commits_seen w es) c)) → (v : Bool)
        → cond v (cond b (n + 1) mark) (commit_mark (cond b (with_marks (n + 1) es) (with_marks n es)) c)
        ≡ mark_found n (cond b (id ∷ []) [] ++ unmarked_in es) (cond v (Some own) (commit_numbered (commits_seen w es) c))
    one true e r true = sym (cond-true (mark == 0) (mark_among n (id ∷ unmarked_in es) id) mark e ∙ cond-true (id == id) (n + 1) (mark_among (n + 1) (unmarked_in es) id) (eq-eqb id id refl))
    one true e r false = r (n + 1) ∙ sym (shift_found n id (unmarked_in es) (commit_numbered (commits_seen w es) c) (λ x e. after_first k id x.number a.0 (found_later (suc k) (commits_seen w es) (later w (suc k) es a.1) c x e)))
    one false e r true = sym (cond-false (mark == 0) (mark_among n (unmarked_in es) id) mark e)
    one false e r false = r n

    go : (b : Bool) → (mark == 0) ≡ b → ((m : ℕ) → commit_mark (with_marks m es) c ≡ mark_found m (unmarked_in es) (commit_numbered (commits_seen w es) c))
        → commit_mark (cond b (Commit id (n + 1) branch author committer encoding comment parents ops aliases ∷ with_marks (n + 1) es) (Commit id mark branch author committer encoding comment parents ops aliases ∷ with_marks n es)) c
        ≡ mark_found n (cond b (id ∷ []) [] ++ unmarked_in es) (cond (id == c) (Some own) (commit_numbered (commits_seen w es) c))
    go true e r = one true e r (id == c)
    go false e r = one false e r (id == c)
mark_alike w k n (Tag id name target tagger comment mark ∷ es) a c = mark_alike w (suc k) n es a.1 c
mark_alike w k n (Reset id branch target ∷ es) a c = mark_alike w (suc k) n es a.1 c
mark_alike w k n (Pass id line ∷ es) a c = mark_alike w (suc k) n es a.1 c

-- ---- what aliases don't change

nodes_aliased : (al : List (ℕ × ℕ)) (es : List PlainEvent) → nodes (with_aliases al es) ≡ nodes es
nodes_aliased al [] = refl
nodes_aliased al (Commit id mark branch author committer encoding comment parents ops aliases ∷ es) = ap (λ (l : List Node). record { id = id; parents = parents; ops = ops } ∷ l) (nodes_aliased al es)
nodes_aliased al (Blob id mark bytes ∷ es) = nodes_aliased al es
nodes_aliased al (Tag id name target tagger comment mark ∷ es) = nodes_aliased al es
nodes_aliased al (Reset id branch target ∷ es) = nodes_aliased al es
nodes_aliased al (Pass id line ∷ es) = nodes_aliased al es

refs_aliased : (t : TreeOf ℕ) (al : List (ℕ × ℕ)) (es : List PlainEvent) → refs_after t (with_aliases al es) ≡ refs_after t es
refs_aliased t al [] = refl
refs_aliased t al (Commit id mark branch author committer encoding comment parents ops aliases ∷ es) = refs_aliased (put branch id t) al es
refs_aliased t al (Blob id mark bytes ∷ es) = refs_aliased t al es
refs_aliased t al (Tag id name target tagger comment mark ∷ es) = refs_aliased t al es
refs_aliased t al (Reset id branch None ∷ es) = refs_aliased _ al es
refs_aliased t al (Reset id branch (Some c) ∷ es) = refs_aliased (put branch c t) al es
refs_aliased t al (Pass id line ∷ es) = refs_aliased t al es

bytes_aliased : (al : List (ℕ × ℕ)) (es : List PlainEvent) (b : ℕ) → blob_bytes (with_aliases al es) b ≡ blob_bytes es b
bytes_aliased al [] b = refl
bytes_aliased al (Blob id mark bytes ∷ es) b = ap (cond (id == b) bytes) (bytes_aliased al es b)
bytes_aliased al (Commit id mark branch author committer encoding comment parents ops aliases ∷ es) b = bytes_aliased al es b
bytes_aliased al (Tag id name target tagger comment mark ∷ es) b = bytes_aliased al es b
bytes_aliased al (Reset id branch target ∷ es) b = bytes_aliased al es b
bytes_aliased al (Pass id line ∷ es) b = bytes_aliased al es b

mark_aliased : (al : List (ℕ × ℕ)) (es : List PlainEvent) (c : ℕ) → commit_mark (with_aliases al es) c ≡ commit_mark es c
mark_aliased al [] c = refl
mark_aliased al (Commit id mark branch author committer encoding comment parents ops aliases ∷ es) c = ap (cond (id == c) mark) (mark_aliased al es c)
mark_aliased al (Blob id mark bytes ∷ es) c = mark_aliased al es c
mark_aliased al (Tag id name target tagger comment mark ∷ es) c = mark_aliased al es c
mark_aliased al (Reset id branch target ∷ es) c = mark_aliased al es c
mark_aliased al (Pass id line ∷ es) c = mark_aliased al es c

content_aliased : (al : List (ℕ × ℕ)) (es : List PlainEvent) (c : Content) → shown_content (with_aliases al es) c ≡ shown_content es c
content_aliased al es (OfBlob b) = λ i. ShownBytes (bytes_aliased al es b i)
content_aliased al es (Object digits) = refl

tree_aliased : (al : List (ℕ × ℕ)) (es : List PlainEvent) (c : ℕ) → shown_tree (with_aliases al es) c ≡ shown_tree es c
tree_aliased al es c = λ i. option_map (map_tree (λ (e : Entry). record { mode = e.mode; content = content_aliased al es e.content i })) (tree_in (reverse (nodes_aliased al es i)) c)

-- a commit's aliases are the marks of its number
marks_are : (c : ℕ) (al : List (ℕ × ℕ)) → aliases_for c al ≡ marks_for c al
marks_are c [] = refl
marks_are c (a ∷ al) = go (a.1 == c) (marks_are c al)
  where
    go : (b : Bool) → aliases_for c al ≡ marks_for c al → alias_marks (cond b (a ∷ filter (λ x. x.1 == c) al) (filter (λ x. x.1 == c) al)) ≡ cond b (a.0 ∷ marks_for c al) (marks_for c al)
    go true e = ap (λ (l : List ℕ). a.0 ∷ l) e
    go false e = e

-- ---- what is shown

-- a commit that is shown with its mark, counted from n, and with the marks of its parents
abbrev shown_by : List PlainEvent → List (ℕ × ℕ) → ℕ → List ℕ → Numbered → ShownCommit
shown_by v al n unmarked c = record c.commit { mark = mark_by n unmarked c; parents = map (commit_mark v) c.commit.parents; aliases = marks_for c.number al }

shift_shown : (v : List PlainEvent) (al : List (ℕ × ℕ)) (n id : ℕ) (unmarked : List ℕ) (cs : List Numbered) → AllByRecursion (λ (c : Numbered). suc id ≤ c.number) cs → map (shown_by v al n (id ∷ unmarked)) cs ≡ map (shown_by v al (n + 1) unmarked) cs
shift_shown v al n id unmarked [] a = refl
shift_shown v al n id unmarked (c ∷ cs) a = λ i. record c.commit { mark = shift n id unmarked c a.0 i; parents = map (commit_mark v) c.commit.parents; aliases = marks_for c.number al } ∷ shift_shown v al n id unmarked cs a.1 i

module _ (v w : List PlainEvent) (al : List (ℕ × ℕ)) (same : (c : ℕ) → shown_tree v c ≡ shown_tree w c) where
  -- from the id of the first place on
  from_first : (k id : ℕ) → id ≡ k → (cs : List Numbered) → AllByRecursion (λ (c : Numbered). suc k ≤ c.number) cs → AllByRecursion (λ (c : Numbered). suc id ≤ c.number) cs
  from_first k id is cs a = subst (λ n. AllByRecursion (λ (c : Numbered). suc n ≤ c.number) cs) (sym is) a

  -- the commits are shown alike
  commits_alike : (k n : ℕ) (es : List PlainEvent) → ArePlaced k es → shown_commits v (with_aliases al (with_marks n es)) ≡ map (shown_by v al n (unmarked_in es)) (commits_seen w es)
  commits_alike k n [] a = refl
  commits_alike k n (Blob id mark bytes ∷ es) a = go (mark == 0) (λ m. commits_alike (suc k) m es a.1)
    where
      go : (b : Bool) → ((m : ℕ) → shown_commits v (with_aliases al (with_marks m es)) ≡ map (shown_by v al m (unmarked_in es)) (commits_seen w es))
          → shown_commits v (with_aliases al (cond b (Blob id (n + 1) bytes ∷ with_marks (n + 1) es) (Blob id mark bytes ∷ with_marks n es))) ≡ map (shown_by v al n (cond b (id ∷ []) [] ++ unmarked_in es)) (commits_seen w es)
      go true r = r (n + 1) ∙ sym (shift_shown v al n id (unmarked_in es) (commits_seen w es) (from_first k id a.0 (commits_seen w es) (later w (suc k) es a.1)))
      go false r = r n
  commits_alike k n (Commit id mark branch author committer encoding comment parents ops aliases ∷ es) a = go (mark == 0) refl (λ m. commits_alike (suc k) m es a.1)
    where
      go : (b : Bool) → (mark == 0) ≡ b → ((m : ℕ) → shown_commits v (with_aliases al (with_marks m es)) ≡ map (shown_by v al m (unmarked_in es)) (commits_seen w es))
          → shown_commits v (with_aliases al (cond b (Commit id (n + 1) branch author committer encoding comment parents ops aliases ∷ with_marks (n + 1) es) (Commit id mark branch author committer encoding comment parents ops aliases ∷ with_marks n es)))
          ≡ record {
            mark = cond (mark == 0) (mark_among n (cond b (id ∷ []) [] ++ unmarked_in es) id) mark;
            branch = branch;
            author = author;
            committer = committer;
            encoding = encoding;
            comment = comment;
            parents = map (commit_mark v) parents;
            tree = shown_tree w id;
            aliases = marks_for id al;
          } ∷ map (shown_by v al n (cond b (id ∷ []) [] ++ unmarked_in es)) (commits_seen w es)
      go true e r =
          let rest = r (n + 1) ∙ sym (shift_shown v al n id (unmarked_in es) (commits_seen w es) (from_first k id a.0 (commits_seen w es) (later w (suc k) es a.1))) in
          let own : n + 1 ≡ cond (mark == 0) (mark_among n (id ∷ unmarked_in es) id) mark =
          sym (cond-true (mark == 0) (mark_among n (id ∷ unmarked_in es) id) mark e ∙ cond-true (id == id) (n + 1) (mark_among (n + 1) (unmarked_in es) id) (eq-eqb id id refl)) in
          λ i. record { mark = own i; branch = branch; author = author; committer = committer; encoding = encoding; comment = comment; parents = map (commit_mark v) parents; tree = same id i; aliases = marks_are id al i } ∷ rest i
      go false e r =
          let rest = r n in
          let own : mark ≡ cond (mark == 0) (mark_among n (unmarked_in es) id) mark = sym (cond-false (mark == 0) (mark_among n (unmarked_in es) id) mark e) in
          λ i. record { mark = own i; branch = branch; author = author; committer = committer; encoding = encoding; comment = comment; parents = map (commit_mark v) parents; tree = same id i; aliases = marks_are id al i } ∷ rest i
  commits_alike k n (Tag id name target tagger comment mark ∷ es) a = commits_alike (suc k) n es a.1
  commits_alike k n (Reset id branch target ∷ es) a = commits_alike (suc k) n es a.1
  commits_alike k n (Pass id line ∷ es) a = commits_alike (suc k) n es a.1

-- the tags are shown alike
tags_alike : (v : List PlainEvent) (al : List (ℕ × ℕ)) (n : ℕ) (es : List PlainEvent) → shown_tags v (with_aliases al (with_marks n es)) ≡ map (λ (t : ShownTag). record t { target = commit_mark v t.target }) (tags_seen es)
tags_alike v al n [] = refl
tags_alike v al n (Tag id name target tagger comment mark ∷ es) = ap (λ (l : List ShownTag). record { name = name; target = commit_mark v target; tagger = tagger; comment = comment; mark = mark } ∷ l) (tags_alike v al n es)
tags_alike v al n (Blob id mark bytes ∷ es) = go (mark == 0) (λ m. tags_alike v al m es)
  where
    go : (b : Bool) → ((m : ℕ) → shown_tags v (with_aliases al (with_marks m es)) ≡ map (λ (t : ShownTag). record t { target = commit_mark v t.target }) (tags_seen es))
        → shown_tags v (with_aliases al (cond b (Blob id (n + 1) bytes ∷ with_marks (n + 1) es) (Blob id mark bytes ∷ with_marks n es))) ≡ map (λ (t : ShownTag). record t { target = commit_mark v t.target }) (tags_seen es)
    go true r = r (n + 1)
    go false r = r n
tags_alike v al n (Commit id mark branch author committer encoding comment parents ops aliases ∷ es) = go (mark == 0) (λ m. tags_alike v al m es)
  where
    go : (b : Bool) → ((m : ℕ) → shown_tags v (with_aliases al (with_marks m es)) ≡ map (λ (t : ShownTag). record t { target = commit_mark v t.target }) (tags_seen es))
        → shown_tags v (with_aliases al (cond b (Commit id (n + 1) branch author committer encoding comment parents ops aliases ∷ with_marks (n + 1) es) (Commit id mark branch author committer encoding comment parents ops aliases ∷ with_marks n es)))
        ≡ map (λ (t : ShownTag). record t { target = commit_mark v t.target }) (tags_seen es)
    go true r = r (n + 1)
    go false r = r n
tags_alike v al n (Reset id branch target ∷ es) = tags_alike v al n es
tags_alike v al n (Pass id line ∷ es) = tags_alike v al n es

-- what is replayed of a history's events and aliases shows what the history shows with its marks
module _ (es : List PlainEvent) (al : List (ℕ × ℕ)) (a : ArePlaced 1 es) where
  abbrev top : ℕ
  top = greatest_of (greatest_mark es) (alias_marks al)

  abbrev made : List PlainEvent
  made = with_aliases al (with_marks top es)

  marks_now : (c : ℕ) → commit_mark made c ≡ mark_of_number (seen_with es al) c
  marks_now c = mark_aliased al (with_marks top es) c ∙ mark_alike es 1 top es a c

  commits_now : shown_commits made made ≡ (shown_of (seen_with es al)).commits
  commits_now = commits_alike made es al (λ c. tree_aliased al (with_marks top es) c ∙ tree_same top es c) 1 top es a
      ∙ (λ i. map (λ (c : Numbered). record c.commit { mark = mark_by top (unmarked_in es) c; parents = map (λ p. marks_now p i) c.commit.parents; aliases = marks_for c.number al }) (commits_seen es es))

  tags_now : shown_tags made made ≡ (shown_of (seen_with es al)).tags
  tags_now = tags_alike made al top es ∙ (λ i. map (λ (t : ShownTag). record t { target = marks_now t.target i }) (tags_seen es))

  tips_now : map_tree (commit_mark made) (refs made) ≡ (shown_of (seen_with es al)).refs
  tips_now = λ i. map_tree (λ c. marks_now c i) ((refs_aliased [] al (with_marks top es) ∙ refs_same [] top es) i)

  pub shown_alike : shown_of (seen_with es al) ≡ snapshot made
  shown_alike = sym (λ i. record { commits = commits_now i; tags = tags_now i; refs = tips_now i })
