-- The commit at a place.
use Rattle.std.proofs.Common.{◌≡◌, ℕ, zero, suc, ◌+◌, ◌<◌, ◌≤◌, Bool, true, false, cond, List, [], ◌∷◌, ◌++◌, length, reverse, Option, Some, None, refl, sym, ap, subst, ◌∙◌, arith, ne_eqb, eq-eqb, nat_lt, get_or}
use Rattle.std.proofs.lemmas.Bool.Decides.{nat_tests}
use Rattle.plain_model.specs.declared.operation.FileOp.{FileOp}
use Rattle.std.specs.Prelude.{◌==◌, option_map}
use Rattle.std.specs.List.{slice_get}
use Rattle.std.proofs.lemmas.List.{reverse-append}
use Rattle.std.proofs.lemmas.Option.{slice_get-map, slice_get_past, slice_get_read}
use Rattle.plain_model.specs.declared.event.PlainEvent.{PlainEvent}
use Rattle.plain_model.specs.declared.event.PlainEvent.TheVariants.{Blob, Commit, Tag, Reset, Pass}
use Rattle.plain_model.specs.Histories.{Node, Past, nodes, node_at, past}
use Rattle.plain_model.specs.Lookups.{id_of, id_number}
use Rattle.stream_drafts.specs.declared.draft.Draft.{Draft}
use Rattle.stream_drafts.specs.Events.{event_of, events_of, own_node, links_of}
use Rattle.history_laws.specs.Placed.{ArePlaced}

-- one more event, at the next place
pub placed_more : (k : ℕ) (xs : List PlainEvent) (e : PlainEvent) → ArePlaced k xs → ArePlaced (length xs + k) (e ∷ []) → ArePlaced k (xs ++ e ∷ [])
placed_more k [] e a b = (omega (arith, b.0), tt)
placed_more k (x ∷ xs) e a b = (a.0, placed_more (suc k) xs e a.1 (subst (λ n. ArePlaced n (e ∷ [])) (omega arith) b))

abbrev pub node_there : Option PlainEvent → Option Node
node_there None = None
node_there (Some e) = own_node e

-- ---- the past of one more event before the others

abbrev first_node : Option Node → Option Node → Option Node
first_node (Some n) o = Some n
first_node None o = o

node_after : (a b : Past) (c : ℕ) → node_at (a ++ b) c ≡ first_node (node_at a c) (node_at b c)
node_after [] b c = refl
node_after (n ∷ a) b c = ap (cond (n.id == c) (Some n)) (node_after a b c) ∙ go (n.id == c)
  where
    go : (t : Bool) → cond t (Some n) (first_node (node_at a c) (node_at b c)) ≡ first_node (cond t (Some n) (node_at a c)) (node_at b c)
    go true = refl
    go false = refl

past_first : (n : Node) (ns : List Node) (c : ℕ) → node_at (reverse (n ∷ ns)) c ≡ first_node (node_at (reverse ns) c) (node_at (n ∷ []) c)
past_first n ns c = ap (λ (l : Past). node_at l c) (reverse-append (n ∷ []) ns) ∙ node_after (reverse ns) (n ∷ []) c

-- an id below all places is none's
none_below : (k : ℕ) (es : List PlainEvent) → ArePlaced k es → (c : ℕ) → c < k → node_at (past es) c ≡ None
none_below k [] a c h = refl
none_below k (Blob id mark bytes ∷ es) a c h = none_below (suc k) es a.1 c (omega arith)
none_below k (Tag id name target tagger comment mark ∷ es) a c h = none_below (suc k) es a.1 c (omega arith)
none_below k (Reset id branch target ∷ es) a c h = none_below (suc k) es a.1 c (omega arith)
none_below k (Pass id line ∷ es) a c h = none_below (suc k) es a.1 c (omega arith)
none_below k (Commit id mark branch author committer encoding comment parents ops aliases ∷ es) a c h =
    past_first (record { id = id; parents = parents; ops = ops }) (nodes es) c
    ∙ ap (λ o. first_node o (cond (id == c) (Some (record { id = id; parents = parents; ops = ops })) None)) (none_below (suc k) es a.1 c (omega arith))
    ∙ ap (λ t. cond {A = Option Node} t (Some (record { id = id; parents = parents; ops = ops })) None) (let is = a.0 in ne_eqb id c (λ same. omega (arith, is, same, h)))

none_first : (o : Option Node) → first_node o None ≡ o
none_first (Some n) = refl
none_first None = refl

module _ (k : ℕ) (es : List PlainEvent) where
  -- the first event is found at its place
  here_at : (c : ℕ) → c ≡ k → node_at (past es) c ≡ None → (x : PlainEvent) → id_number (id_of x) ≡ k → node_at (past (x ∷ es)) c ≡ own_node x
  here_at c here others (Blob id mark bytes) is = others
  here_at c here others (Tag id name target tagger comment mark) is = others
  here_at c here others (Reset id branch target) is = others
  here_at c here others (Pass id line) is = others
  here_at c here others (Commit id mark branch author committer encoding comment parents ops aliases) is =
      past_first (record { id = id; parents = parents; ops = ops }) (nodes es) c
      ∙ ap (λ o. first_node o (cond (id == c) (Some (record { id = id; parents = parents; ops = ops })) None)) others
      ∙ ap (λ t. cond {A = Option Node} t (Some (record { id = id; parents = parents; ops = ops })) None) (eq-eqb id c (is ∙ sym here))

  -- and none at a later one
  later_at : (c : ℕ) → k < c → (x : PlainEvent) → id_number (id_of x) ≡ k → node_at (past (x ∷ es)) c ≡ node_at (past es) c
  later_at c later (Blob id mark bytes) is = refl
  later_at c later (Tag id name target tagger comment mark) is = refl
  later_at c later (Reset id branch target) is = refl
  later_at c later (Pass id line) is = refl
  later_at c later (Commit id mark branch author committer encoding comment parents ops aliases) is =
      past_first (record { id = id; parents = parents; ops = ops }) (nodes es) c
      ∙ ap (λ t. first_node (node_at (past es) c) (cond {A = Option Node} t (Some (record { id = id; parents = parents; ops = ops })) None)) (ne_eqb id c (λ same. omega (arith, is, same, later)))
      ∙ none_first (node_at (past es) c)

-- what is at a place is found by its id
pub found_at : (k : ℕ) (es : List PlainEvent) → ArePlaced k es → (i c : ℕ) → c ≡ i + k → node_at (past es) c ≡ node_there (slice_get es i)
found_at k [] a i c is = refl
found_at k (e ∷ es) a zero c is =
    let here : c ≡ k = omega (arith, is) in
    here_at k es c here (none_below (suc k) es a.1 c (omega (arith, here))) e a.0
found_at k (e ∷ es) a (suc i) c is =
    later_at k es c (omega (arith, is)) e a.0 ∙ found_at (suc k) es a.1 i c (omega (arith, is))

-- ---- drafts

-- the commit of a draft
abbrev pub draft_node : Option Draft → Option Node
draft_node None = None
draft_node (Some d) = own_node (event_of d)

there_alike : (o : Option Draft) → node_there (option_map event_of o) ≡ draft_node o
there_alike None = refl
there_alike (Some d) = refl

-- the draft at a place is found by its id
pub draft_at : (ds : List Draft) → ArePlaced 1 (events_of ds) → (i c : ℕ) → c ≡ i + 1 → node_at (past (events_of ds)) c ≡ draft_node (slice_get ds i)
draft_at ds a i c is = found_at 1 (events_of ds) a i c is ∙ ap node_there (slice_get-map event_of ds i) ∙ there_alike (slice_get ds i)

-- ---- the commit with an id, if there is one

abbrev pub Links : Type 0
Links = Option (List ℕ × List FileOp)

module _ (ds : List Draft) (a : ArePlaced 1 (events_of ds)) (id : ℕ) where
  abbrev pub links_at : Links
  links_at = option_map links_of (node_at (past (events_of ds)) id)

  pub no_place : (1 ≤ id → ⊥) → None ≡ links_at
  no_place none = sym (ap (option_map links_of) (none_below 1 (events_of ds) a id (omega (arith, none))))

  module _ (place : ℕ) (is : id ≡ place + 1) where
    pub past_all : false ≡ nat_lt place (length ds) → None ≡ links_at
    past_all h =
        let late : length ds ≤ place = grind (arith, nat_tests) in
        sym (ap (option_map links_of) (draft_at ds a place id is ∙ ap draft_node (slice_get_past ds place late)))

    pub at_place : (d : Draft) → true ≡ nat_lt place (length ds) → d ≡ get_or ds place d → option_map links_of (own_node (event_of d)) ≡ links_at
    at_place d h found =
        let early : place < length ds = grind (arith, nat_tests) in
        sym (ap (option_map links_of) (draft_at ds a place id is ∙ ap draft_node (slice_get_read ds (length ds) place d refl early found)))
