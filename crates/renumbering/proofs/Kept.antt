-- What stays while marks are given: ids, nodes, bytes of blobs and tips; and that a second time changes nothing.
use Rattle.std.proofs.Common.{◌≡◌, ℕ, suc, ◌+◌, cond, List, [], ◌∷◌, ◌++◌, length, reverse, Option, Some, None, refl, sym, ap, ◌∙◌, arith}
use Rattle.std.specs.Prelude.{◌==◌, ◌||◌, map, option_map, option_to_list}
use Rattle.std.specs.List.{enumerate_from}
use Rattle.std.proofs.lemmas.List.{length-map, map-append}
use Rattle.plain_model.specs.declared.id.AnyId.{AnyId}
use Rattle.plain_model.specs.declared.operation.Content.{Content}
use Rattle.plain_model.specs.declared.operation.Content.TheVariants.{Blob as OfBlob, Object}
use Rattle.plain_model.specs.declared.operation.Entry.{Entry}
use Rattle.plain_model.specs.declared.event.PlainEvent.{PlainEvent}
use Rattle.plain_model.specs.declared.event.PlainEvent.TheVariants.{Blob, Commit, Tag, Reset, Pass}
use Rattle.plain_model.specs.Histories.{Node, nodes, tree, tree_in}
use Rattle.plain_model.specs.Lookups.{event_marks, id_of, marks_of, own_marks, same_id}
use Rattle.plain_model.specs.Snapshots.{Shown, ShownContent, blob_bytes, map_tree, refs_after, shown, shown_content, shown_tree}
use Rattle.plain_model.specs.Snapshots.ShownContent.{ShownBytes}
use Rattle.plain_model.specs.Soundness.{has_id}
use Rattle.plain_model.specs.Trees.{TreeOf, put}
use Rattle.history_laws.proofs.Ids.{has_id_cons}
use Rattle.renumbering.specs.Renumbered.{all_marked, marked_from, marks_from, renumbered_from}
use Rattle.renumbering.proofs.Marks.{event_from, id_from, length_event, length_own, marked_twice, numbers_from}

pub has_id_same : (n : ℕ) (events : List PlainEvent) (wanted : AnyId) → has_id (renumbered_from n events) wanted ≡ has_id events wanted
has_id_same n [] wanted = refl
has_id_same n (e ∷ events) wanted =
    let later = renumbered_from (n + length (event_marks e)) events in
    has_id_cons (marked_from n e) later wanted
    ∙ ap (λ id. same_id wanted id || has_id later wanted) (id_from n e)
    ∙ ap (λ b. same_id wanted (id_of e) || b) (has_id_same (n + length (event_marks e)) events wanted)
    ∙ sym (has_id_cons e events wanted)

pub nodes_same : (n : ℕ) (events : List PlainEvent) → nodes (renumbered_from n events) ≡ nodes events
nodes_same n [] = refl
nodes_same n (Commit id mark branch author committer encoding comment parents ops aliases ∷ events) =
    ap (λ (l : List Node). record { id = id; parents = parents; ops = ops } ∷ l) (nodes_same (n + suc (length aliases)) events)
nodes_same n (Blob id mark bytes ∷ events) = nodes_same (n + 1) events
nodes_same n (Tag id name target tagger comment mark ∷ events) = nodes_same (n + length (option_to_list mark)) events
nodes_same n (Reset id branch target ∷ events) = nodes_same (n + 0) events
nodes_same n (Pass id line ∷ events) = nodes_same (n + 0) events

pub refs_same : (n : ℕ) (t : TreeOf ℕ) (events : List PlainEvent) → refs_after t (renumbered_from n events) ≡ refs_after t events
refs_same n t [] = refl
refs_same n t (Blob id mark bytes ∷ events) = refs_same (n + 1) t events
refs_same n t (Commit id mark branch author committer encoding comment parents ops aliases ∷ events) = refs_same (n + suc (length aliases)) (put branch id t) events
refs_same n t (Tag id name target tagger comment mark ∷ events) = refs_same (n + length (option_to_list mark)) t events
refs_same n t (Reset id branch None ∷ events) = refs_same (n + 0) _ events
refs_same n t (Reset id branch (Some c) ∷ events) = refs_same (n + 0) (put branch c t) events
refs_same n t (Pass id line ∷ events) = refs_same (n + 0) t events

pub ids_same : (n : ℕ) (events : List PlainEvent) → map id_of (renumbered_from n events) ≡ map id_of events
ids_same n [] = refl
ids_same n (e ∷ events) = λ i. id_from n e i ∷ ids_same (n + length (event_marks e)) events i

pub length_same : (n : ℕ) (events : List PlainEvent) → length (renumbered_from n events) ≡ length events
length_same n [] = refl
length_same n (e ∷ events) = ap suc (length_same (n + length (event_marks e)) events)

-- the ids that have marks
abbrev marked_ids : List PlainEvent → List AnyId
marked_ids events = map (λ (own : ℕ × AnyId). own.1) (marks_of events)

-- the marks are those from n on, and the ids that have them are the same
pub marks_same : (n : ℕ) (events : List PlainEvent) → marks_of (renumbered_from n events) ≡ enumerate_from n (marked_ids events)
marks_same n [] = refl
marks_same n (e ∷ events) =
    (λ i. own i ++ marks_same (n + length (event_marks e)) events i)
    ∙ ap (λ k. enumerate_from n ids ++ enumerate_from (n + k) (marked_ids events)) (sym (length-map (own_marks e) (λ (own : ℕ × AnyId). own.1) ∙ length_own e))
    ∙ sym (enumerated n ids (marked_ids events))
    ∙ ap (enumerate_from n) (sym (map-append (λ (own : ℕ × AnyId). own.1) (own_marks e) (marks_of events)))
  where
    ids : List AnyId
    ids = map (λ (own : ℕ × AnyId). own.1) (own_marks e)

    own : own_marks (marked_from n e) ≡ enumerate_from n (map (λ (own : ℕ × AnyId). own.1) (own_marks e))
    own = (λ i. map (λ m. (m, id_from n e i)) (event_from n e i)) ∙ numbers_from n (id_of e) (event_marks e)

    enumerated : (n : ℕ) (xs ys : List AnyId) → enumerate_from n (xs ++ ys) ≡ enumerate_from n xs ++ enumerate_from (n + length xs) ys
    enumerated n [] ys = ap (λ k. enumerate_from k ys) (let is : n ≡ n + 0 = omega arith in is)
    enumerated n (x ∷ xs) ys =
        ap (λ zs. (n, x) ∷ zs) (enumerated (n + 1) xs ys
        ∙ ap (λ k. enumerate_from (n + 1) xs ++ enumerate_from k ys) (let is : n + 1 + length xs ≡ n + suc (length xs) = omega arith in is))

-- under one mark for all, the events are the same
pub others_same : (n : ℕ) (events : List PlainEvent) (m : ℕ) → map (all_marked m) (renumbered_from n events) ≡ map (all_marked m) events
others_same n [] m = refl
others_same n (e ∷ events) m = λ i. one n e i ∷ others_same (n + length (event_marks e)) events m i
  where
    marks : (n : ℕ) (ms : List ℕ) → map (λ _. m) (marks_from n ms) ≡ map (λ _. m) ms
    marks n [] = refl
    marks n (x ∷ ms) = ap (λ xs. m ∷ xs) (marks (n + 1) ms)

    one : (n : ℕ) (e : PlainEvent) → all_marked m (marked_from n e) ≡ all_marked m e
    one n (Blob id mark bytes) = refl
    one n (Commit id mark branch author committer encoding comment parents ops aliases) =
        ap (λ ms. Commit id m branch author committer encoding comment parents ops ms) (marks (n + 1) aliases)
    one n (Tag id name target tagger comment None) = refl
    one n (Tag id name target tagger comment (Some mark)) = refl
    one n (Reset id branch target) = refl
    one n (Pass id line) = refl

pub numbered_twice : (n : ℕ) (events : List PlainEvent) → renumbered_from n (renumbered_from n events) ≡ renumbered_from n events
numbered_twice n [] = refl
numbered_twice n (e ∷ events) =
    (λ i. marked_twice n e i ∷ renumbered_from (n + length_event n e i) (renumbered_from (n + length (event_marks e)) events))
    ∙ ap (λ es. marked_from n e ∷ es) (numbered_twice (n + length (event_marks e)) events)

-- ---- trees

pub tree_same : (n : ℕ) (events : List PlainEvent) (c : ℕ) → tree (renumbered_from n events) c ≡ tree events c
tree_same n events c = ap (λ (l : List Node). tree_in (reverse l) c) (nodes_same n events)

bytes_same : (n : ℕ) (events : List PlainEvent) (b : ℕ) → blob_bytes (renumbered_from n events) b ≡ blob_bytes events b
bytes_same n [] b = refl
bytes_same n (Blob id mark bytes ∷ events) b = ap (λ (rest : List ℕ). cond (id == b) bytes rest) (bytes_same (n + 1) events b)
bytes_same n (Commit id mark branch author committer encoding comment parents ops aliases ∷ events) b = bytes_same (n + suc (length aliases)) events b
bytes_same n (Tag id name target tagger comment mark ∷ events) b = bytes_same (n + length (option_to_list mark)) events b
bytes_same n (Reset id branch target ∷ events) b = bytes_same (n + 0) events b
bytes_same n (Pass id line ∷ events) b = bytes_same (n + 0) events b

content_same : (n : ℕ) (events : List PlainEvent) (content : Content) → shown_content (renumbered_from n events) content ≡ shown_content events content
content_same n events (OfBlob b) = ap ShownBytes (bytes_same n events b)
content_same n events (Object digits) = refl

entries_same : (n : ℕ) (events : List PlainEvent) (t : TreeOf Entry) → map_tree (shown (renumbered_from n events)) t ≡ map_tree (shown events) t
entries_same n events [] = refl
entries_same n events (e ∷ t) =
    ap (λ (content : ShownContent). (e.0, record { mode = e.1.mode; content = content }) ∷ map_tree (shown (renumbered_from n events)) t) (content_same n events e.1.content)
    ∙ ap (λ (rest : TreeOf Shown). (e.0, shown events e.1) ∷ rest) (entries_same n events t)

pub shown_same : (n : ℕ) (events : List PlainEvent) (c : ℕ) → shown_tree (renumbered_from n events) c ≡ shown_tree events c
shown_same n events c = ap (option_map (map_tree (shown (renumbered_from n events)))) (tree_same n events c) ∙ go (tree events c)
  where
    go : (t : Option (TreeOf Entry)) → option_map (map_tree (shown (renumbered_from n events))) t ≡ option_map (map_tree (shown events)) t
    go None = refl
    go (Some t) = ap Some (entries_same n events t)
