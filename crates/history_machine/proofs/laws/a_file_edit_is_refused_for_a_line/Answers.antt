use Rattle.std.proofs.Common.{◌≡◌, List, Result, Ok, Err, ap, refl, sym, subst, ◌∙◌}
use Rattle.plain_model.specs.Paths.{Bytes}
use Rattle.plain_model.specs.declared.event.PlainEvent.{PlainEvent}
use Rattle.plain_model.specs.declared.fault.Fault.{Fault}
use Rattle.plain_model.specs.declared.fault.Fault.TheVariants as fault
use Rattle.edit_laws.specs.Editing.{with_number}
use Rattle.mailbox_laws.specs.Landing.{land_of}
use Rattle.mailbox_laws.specs.Reporting.{IsBoxFault}
use Rattle.people_laws.specs.Authors.{authors_of}
use Rattle.script_lines.specs.Answering.{◌>>=◌}
use Rattle.script_reader.specs.declared.command.FileEdit.{FileEdit}
use Rattle.script_reader.specs.declared.command.FileEdit.TheVariants as by
use Rattle.history_machine.specs.FileEdits.{IsLineFault}
use Rattle.history_machine.specs.Sessions.{Repo, Session, after_edit, chosen, edited, said_by, with_remade, with_repo}
use Rattle.history_machine.proofs.Steps.{history_by}
use Rattle.history_machine.proofs.laws.a_file_edit_is_refused_for_a_line.Goals as goal

of_box : (why : Fault) → IsBoxFault why → IsLineFault why
of_box (fault.BadMessage n) h = tt
of_box (fault.NoSuchTarget n) h = tt
of_box (fault.CheckText n) h = tt
of_box other h = absurd h

pub returns : goal.returns
unfolding after_edit
returns c = λ s repo what bytes why is done. in_repo s repo what bytes why (sym (by_repo s repo what bytes is) ∙ done)
  where
    with_all : Session → Repo → Result Session Fault
    with_all s new = Ok (record s { repos = with_repo new s.repos })

    by_repo : (s : Session) (repo : Repo) (what : FileEdit) (bytes : Bytes) → chosen s ≡ Ok repo → after_edit s (said_by what bytes) ≡ (edited (said_by what bytes) repo >>= with_all s)
    by_repo s repo what bytes is = ap (λ (one : Result Repo Fault). one >>= λ repo. edited (said_by what bytes) repo >>= with_all s) is

    refused : (s : Session) (repo : Repo) (r : Result (List PlainEvent) Fault) (why : Fault) → ((with_number repo.next r >>= λ made. Ok (with_remade repo made)) >>= with_all s) ≡ Err why → r ≡ Err why
    refused s repo (Ok new) why e = absurd cc
    refused s repo (Err f) why e = let same : f ≡ why = cc in ap (λ (f : Fault). Err f) same

    in_repo : (s : Session) (repo : Repo) (what : FileEdit) (bytes : Bytes) (why : Fault) → (edited (said_by what bytes) repo >>= with_all s) ≡ Err why → IsLineFault why
    in_repo s repo by.Messages bytes why e = of_box why (c.a_box_is_refused_for_a_message.ensures repo.history bytes why (refused s repo (land_of repo.history bytes) why e))
    in_repo s repo by.Authors bytes why e = subst IsLineFault (sym (c.the_lowest_line_is_refused.ensures.wrong bytes repo.history why (refused s repo (authors_of bytes repo.history) why e)).is) tt
