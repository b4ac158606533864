-- What a command leaves of each repository, and what it does to the load list.
use Rattle.std.proofs.Common.{◌≡◌, List, [], ◌∷◌, refl, sym, ap, subst, ◌∙◌}
use Rattle.std.specs.Prelude.{IsTrue}
use Rattle.plain_model.specs.declared.event.PlainEvent.{PlainEvent}
use Rattle.plain_model.specs.Files.{Files}
use Rattle.plain_model.specs.Snapshots.{shown_tree}
use Rattle.plain_model.specs.Soundness.{IsCommitOf, has_id}
use Rattle.script_reader.specs.declared.command.Command.{Command}
use Rattle.history_machine.specs.Kept.{Each, KeepsEveryTree, KeepsHistory, KeepsTreesOfRest}
use Rattle.history_machine.specs.Sessions.{Repo, Session}
use Rattle.kept_steps.specs.Changing.{Alone, Changes, Remains, RemainsWhole}
use Rattle.kept_steps.specs.Changing.Alone.{each_left, none_changes, one_comes, one_goes}
use Rattle.kept_steps.specs.Following.{Joins, arrived}
use Rattle.kept_steps.specs.Following.Joins.{nothing}
use Rattle.kept_steps.specs.Requests.{IsLoad}
use Rattle.kept_steps.proofs.LoadLists.{comes_alone, new_named, none_comes_by, none_comes_for, none_comes_of}

-- ---- one repository

pub rest_remains : (old new : Repo) → KeepsTreesOfRest old new → Remains old new
rest_remains old new k = record { name = k.name; ids = k.ids; trees = k.trees }

pub history_whole : (old new : Repo) → KeepsHistory old new → RemainsWhole old new
history_whole old new k = record {
  rest = record {
    name = k.name;
    ids = λ id there. subst (λ (events : List PlainEvent). IsTrue (has_id events id)) k.history there;
    trees = λ c there. ap (λ (events : List PlainEvent). shown_tree events c) k.history;
  };
  commits = λ c there. subst (λ (events : List PlainEvent). IsCommitOf events c) (sym k.history) there;
}

pub every_whole : (old new : Repo) → KeepsEveryTree old new → RemainsWhole old new
every_whole old new k = record { rest = rest_remains old new k.rest; commits = k.commits }

pub rest_same : (repo : Repo) → Remains repo repo
rest_same repo = record { name = refl; ids = λ id there. there; trees = λ c there. refl }

pub whole_same : (repo : Repo) → RemainsWhole repo repo
whole_same repo = record { rest = rest_same repo; commits = λ c there. there }

-- what holds of each repository in turn
pub each_less : (Keeps KeepsLess : Repo → Repo → Type 0) → ((old new : Repo) → Keeps old new → KeepsLess old new) → (old new : List Repo) → Each Keeps old new → Each KeepsLess old new
each_less Keeps KeepsLess less [] [] h = tt
each_less Keeps KeepsLess less [] (s ∷ ss) h = h
each_less Keeps KeepsLess less (r ∷ rs) [] h = h
each_less Keeps KeepsLess less (r ∷ rs) (s ∷ ss) h = (less r s h.0, each_less Keeps KeepsLess less rs ss h.1)

-- ---- the load list

module _ (Left : Repo → Repo → Type 0) (named : (old new : Repo) → Left old new → new.name ≡ old.name) (before after : List Repo) where
  -- which come
  abbrev pub arriving : Alone Left before after → List Repo
  arriving (one_comes new free is) = new ∷ []
  arriving (one_goes name is) = []
  arriving (each_left each) = []
  arriving (none_changes is) = []

  pub arrive : (change : Alone Left before after) → new_named before after ≡ arriving change
  arrive (one_comes new free is) = ap (new_named before) is ∙ comes_alone before new free
  arrive (one_goes name is) = ap (new_named before) is ∙ none_comes_for name before
  arrive (each_left each) = none_comes_of Left named before after each
  arrive (none_changes is) = ap (new_named before) is ∙ none_comes_by before

-- what a command does, and what comes by it
abbrev pub Does : (Repo → Repo → Type 0) → Files → Command → Joins → Session → Session → Type 0
Does Left files what how s after = Changes Left s how after × IsLoad files what (arrived s how after)

-- where nothing is joined
pub does_alone : (Left : Repo → Repo → Type 0) (named : (old new : Repo) → Left old new → new.name ≡ old.name) (files : Files) (what : Command) (s after : Session)
    (change : Alone Left s.repos after.repos) → IsLoad files what (arriving Left named s.repos after.repos change) → Does Left files what nothing s after
does_alone Left named files what s after change load =
    (change, subst (λ (come : List Repo). IsLoad files what come) (sym (arrive Left named s.repos after.repos change)) load)
