-- A plan of a repository, and what it leaves where it is carried out.
use Rattle.std.proofs.Common.{◌≡◌, ℕ, List, Result, Ok, Err, refl, sym, ap, ◌∙◌}
use Rattle.plain_model.specs.Faults.{Returns}
use Rattle.plain_model.specs.Paths.{Bytes}
use Rattle.plain_model.specs.declared.event.PlainEvent.{PlainEvent}
use Rattle.plain_model.specs.declared.fault.Fault.{Fault}
use Rattle.plain_model.specs.declared.fault.Halt.{Halt}
use Rattle.plain_model.specs.declared.fault.Halt.TheVariants as halt
use Rattle.edit_laws.specs.Editing.{Remade, with_number}
use Rattle.event_arena.specs.Graphs.{Change, Graph}
use Rattle.event_arena.specs.Plans.{Plans}
use Rattle.script_lines.specs.Answering.{◌>>=◌}
use Rattle.history_machine.specs.Sessions.{Repo, edited, with_remade}
use Rattle.load_list.specs.Entries.{Loaded, made_by, repo_under}

-- what a call plans, with the number that it gives next
pub planned : (events : Graph) (next : ℕ) (r : Result Change Halt) (specified : Result (List PlainEvent) Fault) → Plans events next r specified → Returns made_by r (with_number next specified)
planned events next (Ok plan) specified h = rw h.0 (ap (λ (n : ℕ). made n plan.after) (sym h.1.next))
  where
    made : ℕ → List PlainEvent → Result Remade Fault
    made next history = Ok (record { history = history; next = next })
planned events next (Err (halt.Refused why)) specified h = rw h refl
planned events next (Err halt.Memory) specified h = tt

-- what was planned of a repository that was looked at alone, and is carried out
pub carried : (name : Bytes) (old looked new : Loaded) (edit : ℕ → List PlainEvent → Result Remade Fault) (made : Remade) → looked ≡ old → edit old.next old.history ≡ Ok made
    → repo_under name new ≡ with_remade (repo_under name looked) made → edited edit (repo_under name old) ≡ Ok (repo_under name new)
carried name old looked new edit made same planned is =
    ap (λ (x : Result Remade Fault). x >>= λ m. Ok (with_remade (repo_under name old) m)) planned
    ∙ ap ok (sym (is ∙ ap (λ (l : Loaded). with_remade (repo_under name l) made) same))
  where
    ok : Repo → Result Repo Fault
    ok repo = Ok repo
