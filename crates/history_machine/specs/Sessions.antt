-- A session, and its commands, each a definition of its own (reposurgeon manual, the commands of the same names; where it is
-- vague: own).
use Rattle.std.specs.Prelude.{ℕ, ◌+◌, List, [], ◌∷◌, ◌++◌, length, map, flat_map, codes, bytes_eq, nat_lt, Option, Some, None, Result, Ok, Err, if◌then◌else◌}
use Rattle.plain_model.specs.Files.{Files}
use Rattle.plain_model.specs.Lookups.{id_of, next_number}
use Rattle.plain_model.specs.Paths.{Bytes}
use Rattle.plain_model.specs.Text.{line, text}
use Rattle.plain_model.specs.declared.event.PlainEvent.{PlainEvent}
use Rattle.plain_model.specs.declared.limit.TheConstants.{MAX_REPOSITORIES, MAX_STREAM_BYTES}
use Rattle.plain_model.specs.declared.fault.Fault.{Fault}
use Rattle.plain_model.specs.declared.fault.Fault.TheVariants as fault
use Rattle.byte_patterns.specs.Judging.{Judged, ◌>>>◌, plainly, under}
use Rattle.edit_laws.specs.Editing.{Remade, with_number}
use Rattle.event_sets.specs.Sets.{Ids}
use Rattle.expunge_laws.specs.Expunged.{expunge_of}
use Rattle.listing.specs.Listings.{list_text, index_text}
use Rattle.listing.specs.Stamps.{stamp_text}
use Rattle.listing.specs.Summaries.{resolve_text}
use Rattle.listing.specs.TreeListings.{manifest_text}
use Rattle.mailbox_laws.specs.Landing.{land_of}
use Rattle.people_laws.specs.Authors.{authors_of}
use Rattle.people_laws.specs.Dates.{time_offset_of}
use Rattle.people_laws.specs.Values.{set_field_of}
use Rattle.tagify_laws.specs.Tagify.{tagged, tagify_of}
use Rattle.mailbox_laws.specs.Written.{box_of}
use Rattle.expunge_laws.specs.Matching.{Matches, matched_by}
use Rattle.renumbering.specs.Renumbered.{renumbered}
use Rattle.sample_history.specs.Sample.{sample}
use Rattle.script_lines.specs.Answering.{◌>>=◌}
use Rattle.macro_lines.specs.Macros.{Macro}
use Rattle.script_reader.specs.declared.command.Command.{Command}
use Rattle.script_reader.specs.declared.command.Command.TheVariants as command
use Rattle.script_reader.specs.declared.command.FileEdit.{FileEdit}
use Rattle.script_reader.specs.declared.command.FileEdit.TheVariants as by
use Rattle.script_reader.specs.declared.command.Listing.{Listing}
use Rattle.script_reader.specs.declared.command.Listing.TheVariants as listing
use Rattle.script_reader.specs.declared.command.Order.{Order}
use Rattle.script_reader.specs.declared.command.Order.TheVariants as order
use Rattle.script_reader.specs.declared.edit.Edit.{Edit}
use Rattle.script_reader.specs.declared.edit.Edit.TheVariants as edit
use Rattle.script_lines.specs.declared.script.ScriptLine.{ScriptLine}
use Rattle.script_lines.specs.declared.script.ScriptLine.TheVariants.{Plain}
use Rattle.selection_eval.specs.Denoted.{denote}
use Rattle.selection_eval.specs.Names.{Names, assigned, live_names}
use Rattle.selection_parser.specs.Plain.{PlainSelection}
use Rattle.selection_parser.specs.Reading.{selection_at}
use Rattle.squash_laws.specs.Squash.{squash_of}
use Rattle.split_laws.specs.Split.{split_at_of, split_by_of}
use Rattle.reorder_laws.specs.Reorder.{reorder_of}
use Rattle.coalesce_laws.specs.Coalesce.{coalesce_of}
use Rattle.simplify_laws.specs.Simplify.{simplify_of}
use Rattle.reparent_laws.specs.Merge.{merge_of, unmerge_of}
use Rattle.reparent_laws.specs.Operations.{add_of, remove_of}
use Rattle.reparent_laws.specs.Reparent.{reparent_of}
use Rattle.reparent_laws.specs.declared.removal.Removal.TheVariants.{Index, At}
use Rattle.surgeon_store.specs.WholeFiles.{file_within}
use Rattle.path_move_laws.specs.Moves.{paths_moved}
use Rattle.path_move_laws.specs.PathMaps.{image_of}
use Rattle.path_move_laws.specs.declared.path_map.PathMap.TheVariants.{Rename, Sub, Sup}
use Rattle.history_machine.specs.Loading.{loaded}
use Rattle.history_machine.specs.PathWords.{matches_of, said_path}

-- ---- what a session holds

-- a loaded history under its name, the number that the next new event has, and lists of events under names
pub record Repo : Type 0 where
  pub name : Bytes
  pub history : List PlainEvent
  pub next : ℕ
  pub names : Names

-- the load list in its order, the name of the repository that is chosen, if one is, and the macros
pub record Session : Type 0 where
  pub repos : List Repo
  pub choice : Option Bytes
  pub macros : List Macro

-- nothing is loaded, and nothing defined
abbrev pub empty_session : Session
empty_session = record { repos = []; choice = None; macros = [] }

-- ---- the load list

-- the repository with the name
abbrev pub find_repo : Bytes → List Repo → Option Repo
find_repo name [] = None
find_repo name (r ∷ repos) = if bytes_eq name r.name then Some r else find_repo name repos

-- without the repository of the name
abbrev pub without_repo : Bytes → List Repo → List Repo
without_repo name [] = []
without_repo name (r ∷ repos) = if bytes_eq name r.name then repos else r ∷ without_repo name repos

-- with another in the place of the one with its name
abbrev pub with_repo : Repo → List Repo → List Repo
with_repo new [] = []
with_repo new (r ∷ repos) = if bytes_eq new.name r.name then new ∷ repos else r ∷ with_repo new repos

-- a history that has just been read or made: no list has a name
abbrev pub read_repo : Bytes → List PlainEvent → Repo
read_repo name history = record { name = name; history = history; next = next_number history; names = [] }

-- ---- what a command asks for

-- room for one more
abbrev pub room : List Repo → Result (List Repo) Fault
room repos = if nat_lt (length repos) MAX_REPOSITORIES then Ok repos else Err (fault.TooManyRepos MAX_REPOSITORIES)

-- that no repository has the name, by what is found under it
abbrev pub unused : Bytes → Option Repo → Result Bytes Fault
unused name None = Ok name
unused name (Some repo) = Err (fault.RepoTaken name)

-- that a repository has the name
abbrev pub there : Bytes → Option Repo → Result Repo Fault
there name None = Err (fault.NoSuchRepo name)
there name (Some repo) = Ok repo

-- the repository that is found
abbrev pub or_no_repo : Option Repo → Result Repo Fault
or_no_repo None = Err fault.NoRepo
or_no_repo (Some repo) = Ok repo

abbrev pub chosen_by : List Repo → Option Bytes → Result Repo Fault
chosen_by repos None = Err fault.NoRepo
chosen_by repos (Some name) = or_no_repo (find_repo name repos)

-- the chosen repository, which most commands need
unfoldable pub chosen : Session → Result Repo Fault
chosen s = chosen_by s.repos s.choice

-- that a list of a repository has no such name yet
abbrev pub unassigned : Bytes → Option Ids → Result Bytes Fault
unassigned name None = Ok name
unassigned name (Some ids) = Err (fault.NameAssigned name)

-- ---- what a command speaks of

-- of nothing, of all events, of those that a selection of this text stands for, or of the paths that words say
pub data Scope : Type 0 where
  nothing : Scope
  all_events : Scope
  selected : Bytes → Scope
  said_paths : List Bytes → Scope

-- without a selection that may be written, all
abbrev pub or_all : Option Bytes → Scope
or_all None = all_events
or_all (Some text) = selected text

abbrev pub scope_of : Command → Scope
scope_of (command.Show selection what to) = or_all selection
scope_of (command.Assign selection name) = selected selection
scope_of (command.Edit selection what) = or_all selection
scope_of (command.Expunge words) = said_paths words
scope_of (command.Graft selection name prune) = selected selection
scope_of (command.Divide selection) = selected selection
scope_of other = nothing

-- the events of which a command speaks, and what matches the paths of which it speaks
pub record Subject : Type 0 where
  pub ids : Ids
  pub matchers : List Matches

-- of events alone
abbrev pub of_events : Ids → Subject
of_events ids = record { ids = ids; matchers = [] }

-- of paths alone
abbrev pub of_paths : List Matches → Subject
of_paths matchers = record { ids = []; matchers = matchers }

-- the events in a repository for which the whole of a text stands, by what is read in it
abbrev pub stands_for : Repo → Result (PlainSelection × ℕ) ℕ → Judged Ids
stands_for repo (Ok read) = denote read.0 repo.history repo.names
stands_for repo (Err column) = plainly (Err (fault.BadSelection column))

abbrev pub in_scope : Session → Scope → Judged Subject
in_scope s nothing = plainly (Ok (of_events []))
in_scope s all_events = plainly (chosen s >>= λ repo. Ok (of_events (map id_of repo.history)))
in_scope s (selected text) =
    plainly (chosen s) >>> λ repo. stands_for repo (selection_at text) >>> λ ids. plainly (Ok (of_events ids))
in_scope s (said_paths words) =
    plainly (chosen s) >>> λ repo. matches_of words >>> λ matchers. plainly (Ok (of_paths matchers))

-- What comes before a command's own faults, for all commands: if it speaks of events or paths, that a repository is chosen,
-- and then the events, or what matches the paths.
unfoldable pub ready : Session → Command → Judged Subject
ready s what = in_scope s (scope_of what)

-- ---- what each command does

-- `read <FILE`: the history of the file is loaded last, and chosen
unfoldable pub after_read : Session → Files → Bytes → Bytes → Result Session Fault
after_read s files file name =
    room s.repos >>= λ repos. unused name (find_repo name repos) >>= λ free. loaded files file >>= λ history.
    Ok (record s { repos = repos ++ read_repo free history ∷ []; choice = Some free })

-- the name of the repository that `sample` loads
abbrev pub sample_name : Bytes
sample_name = codes "sample"

-- `sample COUNT START`: a history of so many commits, which the number determines, is loaded last, and chosen
unfoldable pub after_sample : Session → ℕ → ℕ → Result Session Fault
after_sample s count start =
    room s.repos >>= λ repos. unused sample_name (find_repo sample_name repos) >>= λ free.
    Ok (record s { repos = repos ++ read_repo free (sample count start) ∷ []; choice = Some free })

-- `choose NAME`
unfoldable pub after_choose : Session → Bytes → Result Session Fault
after_choose s name = there name (find_repo name s.repos) >>= λ repo. Ok (record s { choice = Some name })

-- the choice, unless it is of this name
abbrev pub unless : Bytes → Option Bytes → Option Bytes
unless name None = None
unless name (Some choice) = if bytes_eq name choice then None else Some choice

-- `drop NAME`: the repository is forgotten; if it was chosen, none is from then on
unfoldable pub after_drop : Session → Bytes → Result Session Fault
after_drop s name =
    there name (find_repo name s.repos) >>= λ repo. Ok (record s { repos = without_repo name s.repos; choice = unless name s.choice })

-- `drop`: the same of the chosen repository
unfoldable pub after_drop_chosen : Session → Result Session Fault
after_drop_chosen s = chosen s >>= λ repo. after_drop s repo.name

-- `renumber`: blobs and commits have the marks 1, 2, 3 and so on
unfoldable pub after_renumber : Session → Result Session Fault
after_renumber s =
    chosen s >>= λ repo. Ok (record s { repos = with_repo (record repo { history = renumbered repo.history }) s.repos })

-- `sel assign NAME`: the events have the name, unless others have it already
unfoldable pub after_assign : Session → Ids → Bytes → Result Session Fault
after_assign s ids name =
    chosen s >>= λ repo. unassigned name (assigned name repo.names) >>= λ free.
    Ok (record s { repos = with_repo (record repo { names = repo.names ++ (free, ids) ∷ [] }) s.repos })

-- what an edit of some events makes of a history, with the number of its next new event
abbrev pub remade : Edit → Ids → ℕ → List PlainEvent → Result Remade Fault
remade (edit.Squash how) ids next events = with_number next (squash_of how ids events)
remade (edit.SplitAt number) ids next events = with_number (next + 1) (split_at_of next number ids events)
remade (edit.SplitBy text) ids next events = said_path text >>= λ path. with_number (next + 1) (split_by_of next path ids events)
remade edit.Reorder ids next events = with_number next (reorder_of ids events)
remade (edit.Reparent how) ids next events = with_number next (reparent_of how.use_order how.rebase ids events)
remade edit.Merge ids next events = with_number next (merge_of ids events)
remade edit.Unmerge ids next events = with_number next (unmerge_of ids events)
remade (edit.Add op) ids next events = with_number next (add_of op ids events)
remade (edit.RemoveAt number) ids next events = with_number next (remove_of (Index number) ids events)
remade (edit.Coalesce seconds) ids next events = with_number next (Ok (coalesce_of seconds ids events))
remade edit.Simplify ids next events = with_number next (simplify_of ids events)
remade (edit.RemoveBy text) ids next events = said_path text >>= λ path. with_number next (remove_of (At path) ids events)
remade (edit.PathRename source target) ids next events = said_path source >>= λ from. said_path target >>= λ to. with_number next (paths_moved (image_of (Rename from to)) events)
remade (edit.PathsSub text) ids next events = said_path text >>= λ folder. with_number next (paths_moved (image_of (Sub folder)) events)
remade (edit.PathsSup text) ids next events = said_path text >>= λ folder. with_number next (paths_moved (image_of (Sup folder)) events)
remade (edit.TimeOffset seconds zone) ids next events = with_number next (time_offset_of seconds zone ids events)
remade (edit.SetField value) ids next events = with_number next (Ok (set_field_of value ids events))
remade edit.Tagify ids next events = with_number (next + length (tagged ids events)) (tagify_of next ids events)

-- what an expunge makes of it
abbrev pub without_paths : List Matches → ℕ → List PlainEvent → Result Remade Fault
without_paths matchers next events = with_number next (expunge_of (matched_by matchers) events)

-- a repository with what was made of its history; lists under names keep the events that are still there
abbrev pub with_remade : Repo → Remade → Repo
with_remade repo made = record repo { history = made.history; next = made.next; names = live_names made.history repo.names }

-- a repository after an edit
abbrev pub edited : (ℕ → List PlainEvent → Result Remade Fault) → Repo → Result Repo Fault
edited edit repo = edit repo.next repo.history >>= λ made. Ok (with_remade repo made)

-- an edit of the chosen repository
unfoldable pub after_edit : Session → (ℕ → List PlainEvent → Result Remade Fault) → Result Session Fault
after_edit s edit = chosen s >>= λ repo. edited edit repo >>= λ new. Ok (record s { repos = with_repo new s.repos })

-- what the lines of a file make of it: of messages only who, when and comments are others, and of authors only names and emails
abbrev pub said_by : FileEdit → Bytes → ℕ → List PlainEvent → Result Remade Fault
said_by by.Messages bytes next events = with_number next (land_of events bytes)
said_by by.Authors bytes next events = with_number next (authors_of bytes events)

-- `msgin <FILE`, `authors read <FILE`: the file is one within the limit of streams
unfoldable pub after_edit_by : Session → Files → FileEdit → Bytes → Result Session Fault
after_edit_by s files what file = chosen s >>= λ repo. file_within files file MAX_STREAM_BYTES >>= λ bytes. after_edit s (said_by what bytes)

-- the line of a repository, by the name that is chosen
abbrev pub repo_line : Option Bytes → Bytes → Bytes
repo_line None name = line (codes "  " ++ name)
repo_line (Some choice) name = line ((if bytes_eq choice name then codes "* " else codes "  ") ++ name)

-- `choose` alone: the names in the order of the load list, the chosen one with a star
unfoldable pub repos_text : Session → Bytes
repos_text s = flat_map (λ r. repo_line s.choice r.name) s.repos

-- a text of the chosen repository
abbrev pub of_chosen : Session → (Repo → Bytes) → Result Bytes Fault
of_chosen s text_of = chosen s >>= λ repo. Ok (text_of repo)

-- a text of some of its events
abbrev pub shown : Listing → Ids → Repo → Bytes
shown listing.List ids repo = list_text repo.history ids
shown listing.Index ids repo = index_text repo.history ids
shown listing.Stamp ids repo = stamp_text repo.history ids
shown listing.Resolve ids repo = resolve_text repo.history ids
shown listing.Manifest ids repo = manifest_text repo.history ids
shown listing.Messages ids repo = box_of repo.history ids
