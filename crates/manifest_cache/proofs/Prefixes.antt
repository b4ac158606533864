-- What a plan leaves in front: the same lines, and so the same trees.
use Rattle.std.proofs.Common.{◌≡◌, ℕ, ◌<◌, ◌≤◌, cond, inl, inr, List, [], ◌∷◌, ◌++◌, length, map, reverse, take, drop, Option, Some, None, refl, sym, ap, subst, ◌∙◌, arith, length-take}
use Rattle.std.specs.Prelude.{◌==◌, IsSome, is_some, slice_get}
use Rattle.std.specs.List.{list_any}
use Rattle.std.proofs.lemmas.Bool.{cases_Bool}
use Rattle.std.proofs.lemmas.List.{map-append, reverse-append, take-append-drop}
use Rattle.plain_model.specs.declared.id.AnyId.{AnyId}
use Rattle.plain_model.specs.declared.id.AnyId.TheVariants as any
use Rattle.plain_model.specs.declared.operation.FileOp.{FileOp}
use Rattle.plain_model.specs.declared.event.PlainEvent.{PlainEvent}
use Rattle.plain_model.specs.declared.event.PlainEvent.TheVariants.{Blob, Commit, Tag, Reset, Pass}
use Rattle.plain_model.specs.Histories.{Node, Past, nodes, past}
use Rattle.plain_model.specs.Lookups.{find_event, place_of}
use Rattle.plain_model.proofs.Numbers.{eqb_turned}
use Rattle.history_laws.proofs.Ids.{has_id_still}
use Rattle.history_laws.specs.Once.{AreDistinct}
use Rattle.history_laws.proofs.SoundOnce.{has_id_find}
use Rattle.manifest_cache.specs.Checking.{links}
use Rattle.manifest_cache.specs.Lines.{Line, line, line_before, line_in}
use Rattle.manifest_cache.proofs.Lines.{after_found, line_front, with_commit}
use Rattle.manifest_cache.proofs.Steps.{place_back}

-- ---- a line depends on nothing but links

abbrev Link : Type 0
Link = ℕ × Option ℕ × List FileOp

abbrev trim : Node → Link
trim n = (n.id, slice_get n.parents 0, n.ops)

abbrev by_parent : (ℕ → Option Line) → Option ℕ → Option Line
by_parent f None = Some []
by_parent f (Some p) = f p

abbrev line_by : List Link → ℕ → Option Line
line_by [] c = None
line_by (l ∷ older) c = cond (l.0 == c) (with_commit l.0 l.2 (by_parent (line_by older) l.1)) (line_by older c)

line_trim : (older : Past) (c : ℕ) → line_in older c ≡ line_by (map trim older) c
line_trim [] c = refl
line_trim (n ∷ older) c = elim (cases_Bool (n.id == c)) [
  | inl same ↦ rw same (ap (with_commit n.id n.ops) (go n.parents (λ p. line_trim older p)))
  | inr other ↦ rw other (line_trim older c)
]
  where
    go : (ps : List ℕ) → ((p : ℕ) → line_in older p ≡ line_by (map trim older) p)
        → line_before (line_in older) ps ≡ by_parent (line_by (map trim older)) (slice_get ps 0)
    go [] h = refl
    go (p ∷ ps) h = h p

links_of_nodes : (xs : List PlainEvent) → map trim (nodes xs) ≡ links xs
links_of_nodes [] = refl
links_of_nodes (Commit id mark branch author committer encoding comment parents ops aliases ∷ xs) = ap (λ (ls : List Link). (id, slice_get parents 0, ops) ∷ ls) (links_of_nodes xs)
links_of_nodes (Blob id mark bytes ∷ xs) = links_of_nodes xs
links_of_nodes (Tag id name target tagger comment mark ∷ xs) = links_of_nodes xs
links_of_nodes (Reset id branch target ∷ xs) = links_of_nodes xs
links_of_nodes (Pass id line ∷ xs) = links_of_nodes xs

trim_reverse : (ns : List Node) → map trim (reverse ns) ≡ reverse (map trim ns)
trim_reverse [] = refl
trim_reverse (n ∷ ns) =
    ap (map trim) (reverse-append (n ∷ []) ns) ∙ map-append trim (reverse ns) (n ∷ [])
    ∙ ap (λ (ls : List Link). ls ++ trim n ∷ []) (trim_reverse ns) ∙ sym (reverse-append (trim n ∷ []) (map trim ns))

line_links : (xs : List PlainEvent) (c : ℕ) → line xs c ≡ line_by (reverse (links xs)) c
line_links xs c = line_trim (past xs) c ∙ ap (λ (ls : List Link). line_by ls c) (trim_reverse (nodes xs) ∙ ap reverse (links_of_nodes xs))

-- a commit is found where it has a link
has_link : (xs : List PlainEvent) (c : ℕ) → is_some (find_event (any.Commit c) xs) ≡ list_any (λ (l : Link). l.0 == c) (links xs)
has_link [] c = refl
has_link (Blob id mark bytes ∷ xs) c = has_link xs c
has_link (Tag id name target tagger comment mark ∷ xs) c = has_link xs c
has_link (Reset id branch target ∷ xs) c = has_link xs c
has_link (Pass id line ∷ xs) c = has_link xs c
has_link (Commit id mark branch author committer encoding comment parents ops aliases ∷ xs) c =
    let later = has_link xs c in
    elim (cases_Bool (c == id)) [
      | inl it ↦ rw (it, eqb_turned id c, it) refl
      | inr no_it ↦ rw (no_it, eqb_turned id c, no_it) later
    ]

-- ---- what is in front

-- what is found in front is found
pub find_more : (xs ys : List PlainEvent) (id : AnyId) → IsSome (find_event id xs) → IsSome (find_event id (xs ++ ys))
find_more xs ys id h = sym (has_id_find (xs ++ ys) id) ∙ has_id_still xs ys id (has_id_find xs id ∙ h)

front_line : (es : List PlainEvent) (f c : ℕ) → AreDistinct es → IsSome (find_event (any.Commit c) (take f es)) → line es c ≡ line (take f es) c
front_line es f c once there =
    ap (λ (l : List PlainEvent). line l c) (sym (take-append-drop f es))
    ∙ line_front (take f es) (drop f es) c (after_found (take f es) (drop f es) (any.Commit c) (subst AreDistinct (sym (take-append-drop f es)) once) there)

module _ (before after : List PlainEvent) (once : AreDistinct before) (twice : AreDistinct after) (f : ℕ) (alike : links (take f before) ≡ links (take f after)) (c : ℕ)
    (there : IsSome (find_event (any.Commit c) (take f after))) where
  was_there : IsSome (find_event (any.Commit c) (take f before))
  was_there = has_link (take f before) c ∙ ap (list_any (λ (l : Link). l.0 == c)) alike ∙ sym (has_link (take f after) c) ∙ there

  -- it was there before
  pub found_before : IsSome (find_event (any.Commit c) before)
  found_before = ap (λ (l : List PlainEvent). is_some (find_event (any.Commit c) l)) (sym (take-append-drop f before)) ∙ find_more (take f before) (drop f before) (any.Commit c) was_there

  -- with the same line
  pub front_same : line before c ≡ line after c
  front_same =
      front_line before f c once was_there
      ∙ line_links (take f before) c ∙ ap (λ (ls : List Link). line_by (reverse ls) c) alike ∙ sym (line_links (take f after) c)
      ∙ sym (front_line after f c twice there)

-- what has a place in front is found there
pub found_in_front : (es : List PlainEvent) (f j : ℕ) (id : AnyId) → f ≤ length es → place_of id es ≡ Some j → j < f → IsSome (find_event id (take f es))
found_in_front es f j id within at less = go (find_event id (take f es)) refl
  where
    go : (o : Option PlainEvent) → find_event id (take f es) ≡ o → IsSome o
    go (Some e) is = refl
    go None is =
        let more = place_back (take f es) (drop f es) id j is (ap (place_of id) (take-append-drop f es) ∙ at) in
        let size = length-take f es in
        absurd (omega (arith, more, size, within, less))
