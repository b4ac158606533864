-- Which event a mark names (git-fast-import, `mark`, `alias`).
use Rattle.std.specs.Prelude.{ℕ, Bool, false, ◌==◌, ◌||◌, List, [], ◌∷◌, Option, Some, None, option_to_list, if◌then◌else◌}
use Rattle.std.specs.List.{list_any}
use Rattle.plain_model.specs.declared.event.PlainEvent.{PlainEvent}
use Rattle.plain_model.specs.declared.event.PlainEvent.TheVariants.{Blob, Commit, Tag, Reset, Pass}

-- the mark is one of these
abbrev pub is_among : List ℕ → ℕ → Bool
is_among marks m = list_any (λ mark. mark == m) marks

-- some event has the mark: a commit also as an alias
abbrev pub is_marked : List PlainEvent → ℕ → Bool
is_marked [] m = false
is_marked (Blob id mark bytes ∷ events) m = (mark == m) || is_marked events m
is_marked (Commit id mark branch author committer encoding comment parents ops aliases ∷ events) m = (mark == m) || (is_among aliases m || is_marked events m)
is_marked (Tag id name target tagger comment mark ∷ events) m = is_among (option_to_list mark) m || is_marked events m
is_marked (Reset id branch target ∷ events) m = is_marked events m
is_marked (Pass id line ∷ events) m = is_marked events m

-- the id of the blob with the mark
abbrev pub blob_marked : List PlainEvent → ℕ → Option ℕ
blob_marked [] m = None
blob_marked (Blob id mark bytes ∷ events) m = if mark == m then Some id else blob_marked events m
blob_marked (Commit id mark branch author committer encoding comment parents ops aliases ∷ events) m = blob_marked events m
blob_marked (Tag id name target tagger comment mark ∷ events) m = blob_marked events m
blob_marked (Reset id branch target ∷ events) m = blob_marked events m
blob_marked (Pass id line ∷ events) m = blob_marked events m

-- the id of the commit with the mark, as its mark or as an alias
abbrev pub commit_marked : List PlainEvent → ℕ → Option ℕ
commit_marked [] m = None
commit_marked (Commit id mark branch author committer encoding comment parents ops aliases ∷ events) m =
    if mark == m then Some id else (if is_among aliases m then Some id else commit_marked events m)
commit_marked (Blob id mark bytes ∷ events) m = commit_marked events m
commit_marked (Tag id name target tagger comment mark ∷ events) m = commit_marked events m
commit_marked (Reset id branch target ∷ events) m = commit_marked events m
commit_marked (Pass id line ∷ events) m = commit_marked events m
