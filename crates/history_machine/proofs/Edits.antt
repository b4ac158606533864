-- Edits of a path that a word says.
use Rattle.std.proofs.Common.{◌≡◌, ℕ, refl, sym, List, Option, Some, None, Result, Ok, Err}
use Rattle.plain_model.specs.declared.event.PlainEvent.{PlainEvent}
use Rattle.plain_model.specs.declared.fault.Fault.{Fault}
use Rattle.plain_model.specs.declared.fault.Fault.TheVariants as fault
use Rattle.plain_model.specs.declared.id.AnyId.{AnyId}
use Rattle.plain_model.specs.declared.path.PathFault.{PathFault}
use Rattle.plain_model.specs.Paths.{Bytes, IsPath, path_fault}
use Rattle.edit_laws.specs.Editing.{IsEdit, LeavesLawful, Remade}
use Rattle.script_lines.specs.Answering.{◌>>=◌}
use Rattle.history_machine.specs.PathWords.{said_path}

-- what is refused where its text is no path is an edit, if it is one where that is a path
pub of_fit_path : (text : Bytes) (edit : Bytes → List AnyId → ℕ → List PlainEvent → Result Remade Fault) → (IsPath text → IsEdit (λ set next events. edit text set next events))
    → IsEdit (λ set next events. said_path text >>= λ path. edit path set next events)
of_fit_path text edit is_edit set next events h below selection = go (path_fault text) refl
  where
    go : (o : Option PathFault) → path_fault text ≡ o → LeavesLawful next (elim o [ None ↦ Ok text | Some why ↦ Err (fault.NoSuchPath text) ] >>= λ path. edit path set next events)
    go None fits = is_edit fits set next events h below selection
    go (Some why) fits = tt

-- the same of an edit that is one whatever the text is
pub of_path : (text : Bytes) (edit : Bytes → List AnyId → ℕ → List PlainEvent → Result Remade Fault) → IsEdit (λ set next events. edit text set next events)
    → IsEdit (λ set next events. said_path text >>= λ path. edit path set next events)
of_path text edit is_edit = of_fit_path text edit (λ fits. is_edit)

-- a path that a word says is the word's text
pub is_said : (text path : Bytes) → said_path text ≡ Ok path → (path ≡ text) × IsPath text
is_said text path h = go (path_fault text) refl h
  where
    go : (o : Option PathFault) → path_fault text ≡ o → ◌≡◌ {A = Result Bytes Fault} (elim o [ None ↦ Ok text | Some why ↦ Err (fault.NoSuchPath text) ]) (Ok path) → (path ≡ text) × IsPath text
    go None fits k = let same : text ≡ path = cc in (sym same, fits)
    go (Some why) fits k = absurd cc
