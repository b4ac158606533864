-- A `read`, by what the load list has and what a file gives.
use Rattle.std.proofs.Common.{◌≡◌, true, false, List, [], ◌∷◌, ◌++◌, length, Option, Some, None, Result, Ok, Err, refl, sym, ap, subst, ◌∙◌}
use Rattle.std.specs.Prelude.{is_some, nat_lt, if◌then◌else◌}
use Rattle.std.specs.Result.{IsErrAnd}
use Rattle.plain_model.specs.Files.{Files}
use Rattle.plain_model.specs.Paths.{Bytes}
use Rattle.plain_model.specs.declared.event.PlainEvent.{PlainEvent}
use Rattle.plain_model.specs.declared.fault.Fault.{Fault}
use Rattle.plain_model.specs.declared.fault.Fault.TheVariants as fault
use Rattle.plain_model.specs.declared.limit.TheConstants.{MAX_REPOSITORIES}
use Rattle.script_lines.specs.Answering.{◌>>=◌}
use Rattle.macro_lines.specs.Macros.{Macro}
use Rattle.surgeon_store.specs.WholeFiles.{ReturnsOrBreaks}
use Rattle.surgeon_store.specs.declared.whole_files.ReadEnd.{ReadEnd}
use Rattle.surgeon_store.specs.declared.whole_files.ReadEnd.TheVariants as ended
use Rattle.history_machine.specs.Loading.{loaded}
use Rattle.history_machine.specs.Reads.{with_loaded}
use Rattle.history_machine.specs.Sessions.{Repo, Session, after_read, find_repo, read_repo, unused}
use Rattle.surgeon_session.specs.Calls.{AsTold}
use Rattle.load_list.specs.Lists.{LoadList, session_of}
use Rattle.surgeon_session.proofs.Pieces.{told_then}

module _ (list : LoadList) (macros : List Macro) (name : Bytes) where
  abbrev old : Session
  old = session_of list macros

  -- with no room for one more
  pub no_room : nat_lt (length list.repos) MAX_REPOSITORIES ≡ false → (files : Files) (file : Bytes) → after_read old files file name ≡ Err (fault.TooManyRepos MAX_REPOSITORIES)
  unfolding after_read
  no_room is files file =
      ap (λ b. (if b then Ok list.repos else Err (fault.TooManyRepos MAX_REPOSITORIES)) >>= λ repos. unused name (find_repo name repos) >>= λ free. loaded files file >>= λ history.
      Ok (record old { repos = repos ++ read_repo free history ∷ []; choice = Some free })) is

  module _ (room : nat_lt (length list.repos) MAX_REPOSITORIES ≡ true) where
    by_name : (files : Files) (file : Bytes) → after_read old files file name ≡ (unused name (find_repo name list.repos) >>= λ free. loaded files file >>= λ history. Ok (with_loaded old free history))
    unfolding after_read
    by_name files file =
        ap (λ b. (if b then Ok list.repos else Err (fault.TooManyRepos MAX_REPOSITORIES)) >>= λ repos. unused name (find_repo name repos) >>= λ free. loaded files file >>= λ history.
        Ok (record old { repos = repos ++ read_repo free history ∷ []; choice = Some free })) room

    -- with another of the name
    pub name_taken : is_some (find_repo name list.repos) ≡ true → (files : Files) (file : Bytes) → after_read old files file name ≡ Err (fault.RepoTaken name)
    name_taken is files file = by_name files file ∙ go (find_repo name list.repos) is
      where
        go : (o : Option Repo) → is_some o ≡ true → (unused name o >>= λ free. loaded files file >>= λ history. Ok (with_loaded old free history)) ≡ Err (fault.RepoTaken name)
        go None is = absurd cc
        go (Some repo) is = refl

    -- with a name that is free it is what the file gives
    module _ (free : is_some (find_repo name list.repos) ≡ false) where
      by_file : (files : Files) (file : Bytes) → after_read old files file name ≡ (loaded files file >>= λ history. Ok (with_loaded old name history))
      by_file files file = by_name files file ∙ go (find_repo name list.repos) free
        where
          go : (o : Option Repo) → is_some o ≡ false → (unused name o >>= λ free. loaded files file >>= λ history. Ok (with_loaded old free history)) ≡ (loaded files file >>= λ history. Ok (with_loaded old name history))
          go None is = refl
          go (Some repo) is = absurd cc

      pub file_done : (told : Option Files) (file : Bytes) (history : List PlainEvent) (new : Session) → AsTold told (λ files. loaded files file ≡ Ok history) → new ≡ with_loaded old name history
          → AsTold told (λ files. after_read old files file name ≡ Ok new)
      file_done told file history new is same =
          told_then told is (λ files e. by_file files file ∙ ap (λ (r : Result (List PlainEvent) Fault). r >>= λ history. Ok (with_loaded old name history)) e ∙ ap Ok (sym same))

      file_breaks : {X : Type 0} (view : X → List PlainEvent) (new : Session) (files : Files) (file : Bytes) (e : ReadEnd) → ReturnsOrBreaks view (Err e) (loaded files file)
          → ReturnsOrBreaks {X = Unit {0}} (λ _. new) (Err e) (after_read old files file name)
      file_breaks view new files file (ended.Refused why) is = by_file files file ∙ ap (λ (r : Result (List PlainEvent) Fault). r >>= λ history. Ok (with_loaded old name history)) is
      file_breaks view new files file ended.SourceFault is = tt
      file_breaks view new files file ended.Memory is = tt

      pub file_broken : {X : Type 0} (view : X → List PlainEvent) (new : Session) (told : Option Files) (file : Bytes) (e : ReadEnd) (r : Result (Unit {0}) ReadEnd) → IsErrAnd r (λ x. x ≡ e)
          → AsTold told (λ files. ReturnsOrBreaks view (Err e) (loaded files file)) → AsTold told (λ files. ReturnsOrBreaks {X = Unit {0}} (λ _. new) r (after_read old files file name))
      file_broken view new told file e (Ok y) is h = absurd is
      file_broken view new told file e (Err x) is h =
          told_then told h (λ files broken. subst (λ (y : ReadEnd). ReturnsOrBreaks {X = Unit {0}} (λ _. new) (Err y) (after_read old files file name)) (sym is) (file_breaks view new files file e broken))
