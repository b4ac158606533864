-- What doesn't look at people, dates, comments and labels is the same without them.
use Rattle.std.proofs.Common.{◌≡◌, ℕ, ◌+◌, suc, cond, List, [], ◌∷◌, ◌++◌, length, map, Option, Some, None, refl, sym, ap, ◌∙◌}
use Rattle.std.specs.Prelude.{◌==◌, ◌||◌, option_map, reverse}
use Rattle.std.specs.Map.{lookup}
use Rattle.plain_model.specs.declared.id.AnyId.{AnyId}
use Rattle.plain_model.specs.declared.operation.Content.{Content}
use Rattle.plain_model.specs.declared.operation.Content.TheVariants.{Blob as OfBlob, Object}
use Rattle.plain_model.specs.declared.operation.Entry.{Entry}
use Rattle.plain_model.specs.declared.event.PlainEvent.{PlainEvent}
use Rattle.plain_model.specs.declared.event.PlainEvent.TheVariants.{Blob, Commit, Tag, Reset, Pass}
use Rattle.plain_model.specs.Histories.{Node, nodes, tree, tree_in}
use Rattle.plain_model.specs.Lookups.{alias_count, event_marks, find_mark, id_of, marks_of, referents_of, same_id}
use Rattle.plain_model.specs.Paths.{Bytes}
use Rattle.plain_model.specs.Snapshots.{Shown, ShownContent, blob_bytes, map_tree, shown, shown_content, shown_tree}
use Rattle.plain_model.specs.Snapshots.ShownContent.{ShownBytes}
use Rattle.plain_model.specs.Soundness.{has_id}
use Rattle.plain_model.specs.Trees.{TreeOf}
use Rattle.history_laws.proofs.Ids.{has_id_step}
use Rattle.edit_laws.specs.Keeping.{KeepsTrees}
use Rattle.mailbox_laws.specs.Words.{nobody}

-- ---- events without them

-- an event without who did it, when, and why, without its branch or name, and without its encoding
abbrev pub bare : PlainEvent → PlainEvent
bare (Commit id mark branch author committer encoding comment parents ops aliases) =
    Commit id mark [] nobody nobody None [] parents ops aliases
bare (Tag id name target tagger comment mark) = Tag id [] target None [] mark
bare (Blob id mark bytes) = Blob id mark bytes
bare (Reset id branch target) = Reset id [] target
bare (Pass id line) = Pass id line

-- but for these the events are the same, in the same order
abbrev pub AreAlike : List PlainEvent → List PlainEvent → Type 0
AreAlike old new = map bare new ≡ map bare old

-- an erasure of less finds them alike too
pub alike_by : (erased : PlainEvent → PlainEvent) → ((e : PlainEvent) → bare (erased e) ≡ bare e) → (old new : List PlainEvent) →
    map erased new ≡ map erased old → AreAlike old new
alike_by erased less old new same = sym (go new) ∙ ap (map bare) same ∙ go old
  where
    go : (es : List PlainEvent) → map bare (map erased es) ≡ map bare es
    go [] = refl
    go (e ∷ es) = λ i. less e i ∷ go es i

-- ---- single events

pub id_same : (e : PlainEvent) → id_of (bare e) ≡ id_of e
id_same (Blob id mark bytes) = refl
id_same (Commit id mark branch author committer encoding comment parents ops aliases) = refl
id_same (Tag id name target tagger comment mark) = refl
id_same (Reset id branch target) = refl
id_same (Pass id line) = refl

pub marks_same : (e : PlainEvent) → event_marks (bare e) ≡ event_marks e
marks_same (Blob id mark bytes) = refl
marks_same (Commit id mark branch author committer encoding comment parents ops aliases) = refl
marks_same (Tag id name target tagger comment mark) = refl
marks_same (Reset id branch target) = refl
marks_same (Pass id line) = refl

pub referents_same : (e : PlainEvent) → referents_of (bare e) ≡ referents_of e
referents_same (Blob id mark bytes) = refl
referents_same (Commit id mark branch author committer encoding comment parents ops aliases) = refl
referents_same (Tag id name target tagger comment mark) = refl
referents_same (Reset id branch (Some target)) = refl
referents_same (Reset id branch None) = refl
referents_same (Pass id line) = refl

-- ---- lists

pub has_id_same : (es : List PlainEvent) (id : AnyId) → has_id (map bare es) id ≡ has_id es id
has_id_same [] id = refl
has_id_same (e ∷ es) id =
    has_id_step (bare e) (map bare es) id
    ∙ (λ i. same_id (id_same e i) id || has_id_same es id i)
    ∙ sym (has_id_step e es id)

pub nodes_same : (es : List PlainEvent) → nodes (map bare es) ≡ nodes es
nodes_same [] = refl
nodes_same (Commit id mark branch author committer encoding comment parents ops aliases ∷ es) =
    ap (λ (l : List Node). record { id = id; parents = parents; ops = ops } ∷ l) (nodes_same es)
nodes_same (Blob id mark bytes ∷ es) = nodes_same es
nodes_same (Tag id name target tagger comment mark ∷ es) = nodes_same es
nodes_same (Reset id branch target ∷ es) = nodes_same es
nodes_same (Pass id line ∷ es) = nodes_same es

pub ids_same : (es : List PlainEvent) → map id_of (map bare es) ≡ map id_of es
ids_same [] = refl
ids_same (e ∷ es) = λ i. id_same e i ∷ ids_same es i

pub count_same : (es : List PlainEvent) → length (map bare es) ≡ length es
count_same [] = refl
count_same (e ∷ es) = ap suc (count_same es)

all_marks_same : (es : List PlainEvent) → marks_of (map bare es) ≡ marks_of es
all_marks_same [] = refl
all_marks_same (e ∷ es) = λ i. map (λ m. (m, id_same e i)) (marks_same e i) ++ all_marks_same es i

bytes_same : (es : List PlainEvent) (b : ℕ) → blob_bytes (map bare es) b ≡ blob_bytes es b
bytes_same [] b = refl
bytes_same (Blob id mark bytes ∷ es) b = ap (λ (rest : Bytes). cond (id == b) bytes rest) (bytes_same es b)
bytes_same (Commit id mark branch author committer encoding comment parents ops aliases ∷ es) b = bytes_same es b
bytes_same (Tag id name target tagger comment mark ∷ es) b = bytes_same es b
bytes_same (Reset id branch target ∷ es) b = bytes_same es b
bytes_same (Pass id line ∷ es) b = bytes_same es b

pub aliases_same : (es : List PlainEvent) → alias_count (map bare es) ≡ alias_count es
aliases_same [] = refl
aliases_same (Commit id mark branch author committer encoding comment parents ops aliases ∷ es) = ap (λ n. length aliases + n) (aliases_same es)
aliases_same (Blob id mark bytes ∷ es) = aliases_same es
aliases_same (Tag id name target tagger comment mark ∷ es) = aliases_same es
aliases_same (Reset id branch target ∷ es) = aliases_same es
aliases_same (Pass id line ∷ es) = aliases_same es

-- ---- histories that are alike

module _ {X : Type 0} (f : List PlainEvent → X) (alike : (es : List PlainEvent) → f (map bare es) ≡ f es) where
  -- what looks at nothing else is the same
  pub kept : (old new : List PlainEvent) → AreAlike old new → f new ≡ f old
  kept old new same = sym (alike new) ∙ ap f same ∙ alike old

module _ (old new : List PlainEvent) (bytes : (b : ℕ) → blob_bytes new b ≡ blob_bytes old b) where
  content_same : (content : Content) → shown_content new content ≡ shown_content old content
  content_same (OfBlob b) = ap ShownBytes (bytes b)
  content_same (Object digits) = refl

  entries_same : (t : TreeOf Entry) → map_tree (shown new) t ≡ map_tree (shown old) t
  entries_same [] = refl
  entries_same (e ∷ t) =
      ap (λ (content : ShownContent). (e.0, record { mode = e.1.mode; content = content }) ∷ map_tree (shown new) t) (content_same e.1.content)
      ∙ ap (λ (rest : TreeOf Shown). (e.0, shown old e.1) ∷ rest) (entries_same t)

  shown_same : (a b : Option (TreeOf Entry)) → a ≡ b → option_map (map_tree (shown new)) a ≡ option_map (map_tree (shown old)) b
  shown_same a b is = ap (option_map (map_tree (shown new))) is ∙ go b
    where
      go : (t : Option (TreeOf Entry)) → option_map (map_tree (shown new)) t ≡ option_map (map_tree (shown old)) t
      go None = refl
      go (Some t) = ap Some (entries_same t)

pub trees_kept : (old new : List PlainEvent) → AreAlike old new → (c : ℕ) → tree new c ≡ tree old c
trees_kept old new same c = ap (λ (l : List Node). tree_in (reverse l) c) (kept nodes nodes_same old new same)

pub shown_kept : (old new : List PlainEvent) → AreAlike old new → (c : ℕ) → shown_tree new c ≡ shown_tree old c
shown_kept old new same c =
    shown_same old new (λ b. kept (λ es. blob_bytes es b) (λ es. bytes_same es b) old new same) (tree new c) (tree old c) (trees_kept old new same c)

pub find_mark_kept : (old new : List PlainEvent) → AreAlike old new → (mark : ℕ) → find_mark mark new ≡ find_mark mark old
find_mark_kept old new same mark = ap (λ (ms : List (ℕ × AnyId)). lookup (λ m. mark == m) ms) (kept marks_of all_marks_same old new same)

pub same_trees : (old new : List PlainEvent) → AreAlike old new → KeepsTrees old new
same_trees old new same = record { trees = λ c there. trees_kept old new same c; shown = λ c there. shown_kept old new same c }
