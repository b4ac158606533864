-- An edit that the lines of a file say.
use Rattle.std.proofs.Common.{◌≡◌, ◌≤◌, ◌+◌, ◌∙◌, ℕ, List, [], length, drop, Option, Some, None, Result, Ok, Err, refl, sym, ap, subst, inl, inr, arith, nat_lt}
use Rattle.std.specs.Prelude.{IfOk, IfSome, OnOk, replicate}
use Rattle.std.specs.FinMap.{get, get-empty}
use Rattle.std.specs.Result.{IsErrAnd}
use Rattle.std.proofs.lemmas.Bool.{cond-true, cond-false, cases_Bool}
use Rattle.std.proofs.lemmas.Bool.Decides.{nat_tests}
use Rattle.std.proofs.lemmas.List.{drop_all, length-replicate}
use Rattle.plain_model.specs.Counts.{Rose}
use Rattle.plain_model.specs.Faults.{Returns}
use Rattle.plain_model.specs.Files.{Files, name_cmp}
use Rattle.plain_model.specs.Paths.{Bytes}
use Rattle.plain_model.specs.declared.fault.Fault.{Fault}
use Rattle.plain_model.specs.declared.fault.Fault.TheVariants as fault
use Rattle.plain_model.specs.declared.fault.Halt.{Halt}
use Rattle.plain_model.specs.declared.fault.Halt.TheVariants as halt
use Rattle.plain_model.specs.declared.limit.TheConstants.{MAX_STREAM_BYTES}
use Rattle.script_lines.specs.Answering.{◌>>=◌}
use Rattle.macro_lines.specs.Macros.{Macro}
use Rattle.surgeon_store.specs.Outside.{StoreState}
use Rattle.surgeon_store.specs.WholeFiles.{IsFileFault, LeavesAfter, ReturnsOrBreaks, file_within, read_end_of, within}
use Rattle.surgeon_store.specs.declared.whole_files.ReadEnd.{ReadEnd}
use Rattle.surgeon_store.specs.declared.whole_files.ReadEnd.TheVariants as ended
use Rattle.script_reader.specs.declared.command.FileEdit.{FileEdit}
use Rattle.history_machine.specs.FileEdits.{IsLineFault}
use Rattle.history_machine.specs.Sessions.{Repo, Session, after_edit, after_edit_by, chosen, chosen_by, find_repo, or_no_repo, said_by}
use Rattle.load_list.specs.Lists.{LoadList, chosen_in, session_of}
use Rattle.surgeon_session.specs.Calls.{AsTold}
use Rattle.surgeon_session.specs.Pieces.{CountsMiss, LeavesNothing, StopsAt, StopsNear, bytes_in, read_refused}
use Rattle.surgeon_session.proofs.Pieces.{any_told, found_alone, no_files, one_file, told_then}

-- ---- the bytes of the file

-- of files that aren't told there are some that give what is answered
pub text_told : (limit : ℕ) (files : Option Files) (name : Bytes) (r : Result Bytes ReadEnd) → IfSome files (λ f. ReturnsOrBreaks (λ (t : Bytes). t) r (file_within f name limit))
    → IfOk r (λ t. length t ≤ limit) → ((why : Fault) → r ≡ Err (ended.Refused why) → IsFileFault name limit why) → AsTold files (λ f. ReturnsOrBreaks (λ (t : Bytes). t) r (file_within f name limit))
text_told limit (Some f) name r told few causes = told
text_told limit None name (Ok t) told few causes = (
  one_file name t,
  ap (within name limit) (found_alone name t) ∙ cond-false (nat_lt limit (length t)) (Err (fault.TooLong name limit)) (Ok t) (grind (arith, nat_tests)),
)
text_told limit None name (Err (ended.Refused why)) told few causes =
    elim (causes why refl) [
      | inl is ↦ (no_files, ap (within name limit) (get-empty name_cmp name) ∙ ap err (sym is))
      | inr is ↦
          (let many : Bytes = replicate (limit + 1) 0 in
          let count : length many ≡ limit + 1 = length-replicate (limit + 1) 0 in
          (one_file name many, ap (within name limit) (found_alone name many) ∙ cond-true (nat_lt limit (length many)) (Err (fault.TooLong name limit)) (Ok many) (grind (arith, nat_tests)) ∙ ap err (sym is)))
    ]
  where
    err : Fault → Result Bytes Fault
    err f = Err f
text_told limit None name (Err ended.SourceFault) told few causes = (no_files, tt)
text_told limit None name (Err ended.Memory) told few causes = (no_files, tt)

-- how much of it is taken, where it isn't read
pub text_near : (files : Option Files) (name : Bytes) (r : Result Bytes ReadEnd) (now : StoreState) → IfSome files (λ f. IfSome (get f name) (λ bytes. LeavesAfter (MAX_STREAM_BYTES + 1) bytes r now))
    → ((why : Fault) → r ≡ Err (ended.Refused why) → IsFileFault name MAX_STREAM_BYTES why) → StopsNear (bytes_in files name) (read_refused r) now.rest
text_near None name r now taken causes = tt
text_near (Some f) name r now taken causes = go (get f name) r taken causes
  where
    go : (o : Option Bytes) (r : Result Bytes ReadEnd) → IfSome o (λ bytes. LeavesAfter (MAX_STREAM_BYTES + 1) bytes r now)
        → ((why : Fault) → r ≡ Err (ended.Refused why) → IsFileFault name MAX_STREAM_BYTES why) → StopsNear o (read_refused r) now.rest
    go None r taken causes = tt
    go (Some bytes) (Ok t) taken causes = tt
    go (Some bytes) (Err (ended.Refused why)) taken causes =
        elim (causes why refl) [
          | inl is ↦ subst (λ (f : Fault). StopsAt f bytes now.rest) (sym is) tt
          | inr is ↦ subst (λ (f : Fault). StopsAt f bytes now.rest) (sym is) taken
        ]
    go (Some bytes) (Err ended.SourceFault) taken causes = tt
    go (Some bytes) (Err ended.Memory) taken causes = tt

-- all of it, where it is read
pub text_whole : (files : Option Files) (name : Bytes) (r : Result Bytes ReadEnd) (now : StoreState) → IfSome files (λ f. ReturnsOrBreaks (λ (t : Bytes). t) r (file_within f name MAX_STREAM_BYTES))
    → IfSome files (λ f. IfSome (get f name) (λ bytes. LeavesAfter (MAX_STREAM_BYTES + 1) bytes r now)) → OnOk r (LeavesNothing (bytes_in files name) now.rest)
text_whole files name (Err e) now told taken = tt
text_whole None name (Ok t) now told taken = tt
text_whole (Some f) name (Ok t) now told taken = go MAX_STREAM_BYTES (get f name) told taken
  where
    go : (limit : ℕ) (o : Option Bytes) → within name limit o ≡ Ok t → IfSome o (λ bytes. now.rest ≡ Some (drop (limit + 1) bytes)) → IfSome o (λ bytes. (length bytes ≤ limit) × (now.rest ≡ Some []))
    go limit None told taken = absurd cc
    go limit (Some bytes) told taken =
        elim (cases_Bool (nat_lt limit (length bytes))) [
          | inl above ↦ absurd (let k = rw above at told in cc)
          | inr below ↦ (let few : length bytes ≤ limit = grind (arith, nat_tests) in (few, taken ∙ ap some (drop_all (limit + 1) bytes (omega (arith, few)))))
        ]
      where
        some : Bytes → Option Bytes
        some b = Some b

pub text_missed : (r : Result Bytes ReadEnd) (s s' : StoreState) → ((name : Bytes) → r ≡ Err (ended.Refused (fault.Absent name)) → Rose s.misses s'.misses) → CountsMiss (read_refused r) s s'
text_missed (Ok t) s s' missed = tt
text_missed (Err (ended.Refused (fault.Absent name))) s s' missed = missed name refl
text_missed (Err (ended.Refused other)) s s' missed = tt
text_missed (Err ended.SourceFault) s s' missed = tt
text_missed (Err ended.Memory) s s' missed = tt

-- ---- the edit

module _ (list : LoadList) (macros : List Macro) (new : Session) (told : Option Files) (what : FileEdit) (file : Bytes) where
  abbrev old : Session
  old = session_of list macros

  -- no repository is chosen
  pub none_chosen : (h : Halt) (r : Result (Unit {0}) ReadEnd) → IsErrAnd r (λ e. e ≡ read_end_of h) → Returns (λ (repo : Repo). repo) (Err h) (chosen_in list)
      → AsTold told (λ files. ReturnsOrBreaks (λ (_ : Unit {0}). new) r (after_edit_by old files what file))
  unfolding after_edit_by chosen
  none_chosen h (Ok x) is returns = absurd is
  none_chosen (halt.Refused why) (Err e) is returns = rw is (any_told told no_files (λ files. ap (λ (one : Result Repo Fault). one >>= λ repo. file_within files file MAX_STREAM_BYTES >>= λ bytes. after_edit old (said_by what bytes)) returns))
  none_chosen halt.Memory (Err e) is returns = rw is (any_told told no_files (λ files. tt))

  module _ (repo : Repo) (is_chosen : chosen_in list ≡ Ok repo) where
    by_file : (files : Files) → after_edit_by old files what file ≡ (file_within files file MAX_STREAM_BYTES >>= λ bytes. after_edit old (said_by what bytes))
    unfolding after_edit_by chosen
    by_file files = ap (λ (one : Result Repo Fault). one >>= λ repo. file_within files file MAX_STREAM_BYTES >>= λ bytes. after_edit old (said_by what bytes)) is_chosen

    file_breaks : (files : Files) (e : ReadEnd) → ReturnsOrBreaks (λ (t : Bytes). t) (Err e) (file_within files file MAX_STREAM_BYTES)
        → ReturnsOrBreaks (λ (_ : Unit {0}). new) (Err e) (after_edit_by old files what file)
    file_breaks files (ended.Refused why) is = by_file files ∙ ap (λ (r : Result Bytes Fault). r >>= λ bytes. after_edit old (said_by what bytes)) is
    file_breaks files ended.SourceFault is = tt
    file_breaks files ended.Memory is = tt

    -- the file isn't read
    pub text_broken : (e : ReadEnd) (r : Result (Unit {0}) ReadEnd) → IsErrAnd r (λ x. x ≡ e) → AsTold told (λ files. ReturnsOrBreaks (λ (t : Bytes). t) (Err e) (file_within files file MAX_STREAM_BYTES))
        → AsTold told (λ files. ReturnsOrBreaks (λ (_ : Unit {0}). new) r (after_edit_by old files what file))
    text_broken e (Ok x) is h = absurd is
    text_broken e (Err x) is h = rw is (told_then told h (λ files broken. file_breaks files e broken))

    module _ (text : Bytes) (is_read : AsTold told (λ files. file_within files file MAX_STREAM_BYTES ≡ Ok text)) where
      by_text : (files : Files) → file_within files file MAX_STREAM_BYTES ≡ Ok text → after_edit_by old files what file ≡ after_edit old (said_by what text)
      by_text files is = by_file files ∙ ap (λ (r : Result Bytes Fault). r >>= λ bytes. after_edit old (said_by what bytes)) is

      -- it is read, and refused
      pub edit_refused : (h : Halt) (r : Result (Unit {0}) ReadEnd) → IsErrAnd r (λ e. e ≡ read_end_of h) → Returns (λ (_ : Unit {0}). new) (Err h) (after_edit old (said_by what text))
          → AsTold told (λ files. ReturnsOrBreaks (λ (_ : Unit {0}). new) r (after_edit_by old files what file))
      edit_refused h (Ok x) is returns = absurd is
      edit_refused (halt.Refused why) (Err e) is returns = rw is (told_then told is_read (λ files found. by_text files found ∙ returns))
      edit_refused halt.Memory (Err e) is returns = rw is (any_told told no_files (λ files. tt))

      -- it is read, and the edit is done
      pub edit_done : after_edit old (said_by what text) ≡ Ok new → AsTold told (λ files. after_edit_by old files what file ≡ Ok new)
      edit_done done = told_then told is_read (λ files found. by_text files found ∙ done)

-- ---- why it is refused

-- where none is chosen, no file is looked for
no_repo : (list : LoadList) (why : Fault) → chosen_in list ≡ Err why → fault.NoRepo ≡ why
no_repo list why is = by_choice list.choice is
  where
    among : (o : Option Repo) → or_no_repo o ≡ Err why → fault.NoRepo ≡ why
    among None is = let same : fault.NoRepo ≡ why = cc in same
    among (Some repo) is = absurd cc

    by_choice : (choice : Option Bytes) → chosen_by list.repos choice ≡ Err why → fault.NoRepo ≡ why
    by_choice None is = let same : fault.NoRepo ≡ why = cc in same
    by_choice (Some name) is = among (find_repo name list.repos) is

near_no_repo : (bytes rest : Option Bytes) → StopsNear bytes (Some fault.NoRepo) rest
near_no_repo None rest = tt
near_no_repo (Some bytes) rest = tt

near_none : (bytes rest : Option Bytes) → StopsNear bytes None rest
near_none None rest = tt
near_none (Some bytes) rest = tt

module _ (list : LoadList) (h : Halt) (r : Result (Unit {0}) ReadEnd) (is : IsErrAnd r (λ e. e ≡ read_end_of h)) (returns : Returns (λ (repo : Repo). repo) (Err h) (chosen_in list)) where
  pub unchosen_near : (bytes rest : Option Bytes) → StopsNear bytes (read_refused r) rest
  unchosen_near bytes rest = go h r is returns
    where
      go : (h : Halt) (r : Result (Unit {0}) ReadEnd) → IsErrAnd r (λ e. e ≡ read_end_of h) → Returns (λ (repo : Repo). repo) (Err h) (chosen_in list) → StopsNear bytes (read_refused r) rest
      go h (Ok x) is returns = absurd is
      go (halt.Refused why) (Err e) is returns = rw is (subst (λ (f : Fault). StopsNear bytes (Some f) rest) (no_repo list why returns) (near_no_repo bytes rest))
      go halt.Memory (Err e) is returns = rw is (near_none bytes rest)

-- of a line that an edit is refused for all of the file was taken
near_of : (bytes rest : Option Bytes) (why : Fault) → IsLineFault why → LeavesNothing bytes rest → StopsNear bytes (Some why) rest
near_of None rest why h taken = tt
near_of (Some bytes) rest (fault.BadMessage n) h taken = taken
near_of (Some bytes) rest (fault.NoSuchTarget n) h taken = taken
near_of (Some bytes) rest (fault.CheckText n) h taken = taken
near_of (Some bytes) rest (fault.BadAuthors n) h taken = taken
near_of (Some bytes) rest other h taken = absurd h

missed_of : (s s' : StoreState) (why : Fault) → IsLineFault why → CountsMiss (Some why) s s'
missed_of s s' (fault.BadMessage n) h = tt
missed_of s s' (fault.NoSuchTarget n) h = tt
missed_of s s' (fault.CheckText n) h = tt
missed_of s s' (fault.BadAuthors n) h = tt
missed_of s s' other h = absurd h

-- what was read is refused for a line alone
module _
    (law : (s : Session) (repo : Repo) (what : FileEdit) (bytes : Bytes) (why : Fault) → chosen s ≡ Ok repo → after_edit s (said_by what bytes) ≡ Err why → IsLineFault why)
    (list : LoadList) (macros : List Macro) (new : Session) (repo : Repo) (is_chosen : chosen_in list ≡ Ok repo) (what : FileEdit) (text : Bytes)
  where
    for_a_line : (why : Fault) → after_edit (session_of list macros) (said_by what text) ≡ Err why → IsLineFault why
    unfolding chosen
    for_a_line why is = law (session_of list macros) repo what text why is_chosen is

    none_near : (bytes rest : Option Bytes) → StopsNear bytes None rest
    none_near None rest = tt
    none_near (Some bytes) rest = tt

    pub refused_near : (bytes rest : Option Bytes) → LeavesNothing bytes rest → (h : Halt) (r : Result (Unit {0}) ReadEnd) → IsErrAnd r (λ e. e ≡ read_end_of h)
        → Returns (λ (_ : Unit {0}). new) (Err h) (after_edit (session_of list macros) (said_by what text)) → StopsNear bytes (read_refused r) rest
    refused_near bytes rest taken h (Ok x) is returns = absurd is
    refused_near bytes rest taken (halt.Refused why) (Err e) is returns = rw is (near_of bytes rest why (for_a_line why returns) taken)
    refused_near bytes rest taken halt.Memory (Err e) is returns = rw is (near_none bytes rest)

    pub refused_missed : (s s' : StoreState) (h : Halt) (r : Result (Unit {0}) ReadEnd) → IsErrAnd r (λ e. e ≡ read_end_of h)
        → Returns (λ (_ : Unit {0}). new) (Err h) (after_edit (session_of list macros) (said_by what text)) → CountsMiss (read_refused r) s s'
    refused_missed s s' h (Ok x) is returns = absurd is
    refused_missed s s' (halt.Refused why) (Err e) is returns = rw is (missed_of s s' why (for_a_line why returns))
    refused_missed s s' halt.Memory (Err e) is returns = rw is tt
