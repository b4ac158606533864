-- Worked selections over two histories: an export of a small repository, and a line with a fork. (own)
use Rattle.std.specs.Prelude.{◌≡◌, ℕ, List, [], ◌∷◌, map, Some, None, Result, Ok, Err, codes, true, false}
use Rattle.plain_model.specs.declared.fault.Fault.{Fault}
use Rattle.plain_model.specs.declared.fault.Fault.TheVariants as fault
use Rattle.plain_model.specs.declared.operation.Mode.TheVariants.{Plain, Gitlink}
use Rattle.plain_model.specs.declared.operation.Content.TheVariants.{Blob as OfBlob, Object}
use Rattle.plain_model.specs.declared.operation.FileOp.{FileOp}
use Rattle.plain_model.specs.declared.operation.FileOp.TheVariants.{Modify, Delete}
use Rattle.plain_model.specs.declared.person.Signed.{Signed}
use Rattle.plain_model.specs.declared.event.PlainEvent.{PlainEvent}
use Rattle.plain_model.specs.declared.event.PlainEvent.TheVariants.{Blob, Commit, Tag, Reset}
use Rattle.plain_model.specs.Paths.{Bytes}
use Rattle.history_laws.specs.Finding.{event_number}
use Rattle.selection_parser.specs.Plain.{PlainSelection}
use Rattle.selection_parser.specs.Plain.PlainSelection.{Union, Both, Not, Near, Call, Kinds, Search, AtPath, AtPattern, Listed}
use Rattle.selection_parser.specs.Plain.PlainSelections.{none, more}
use Rattle.selection_parser.specs.Spelling.{no_fields, no_kinds}
use Rattle.selection_parser.specs.declared.function.Function.TheVariants.{Anc, Dsc, Srt, Suc}
use Rattle.selection_parser.specs.declared.item.Item.TheVariants.{One, Span}
use Rattle.selection_parser.specs.declared.item.Spot.{Spot}
use Rattle.selection_parser.specs.declared.item.Spot.TheVariants.{Number, Marked, Last, Named}
use Rattle.selection_eval.specs.Denoted.{denote}
use Rattle.event_sets.specs.Sets.{Ids}

-- ---- histories

-- Ann, at so many seconds
abbrev pub signed : ℕ → Signed
signed seconds = record {
  person = record { name = codes "Ann"; email = codes "ann@example.com" };
  when = record { seconds = seconds; minus = false; offset = 200 };
}

abbrev pub master : Bytes
master = codes "refs/heads/master"

-- a commit by Ann
abbrev pub commit : ℕ → ℕ → Bytes → ℕ → Bytes → List ℕ → List FileOp → PlainEvent
commit id mark branch seconds comment parents ops =
    Commit id mark branch (signed seconds) (signed seconds) None comment parents ops []

abbrev pub put_file : ℕ → Bytes → FileOp
put_file blob path = Modify Plain (OfBlob blob) path

abbrev pub put_link : FileOp
put_link = Modify Gitlink (Object (codes "0123456789abcdef0123456789abcdef01234567")) (codes "sub")

-- two branches that are merged, a light tag, and one with a comment
unfoldable pub exported : List PlainEvent
exported =
    Blob 1 1 (codes "hello\n")
    ∷ Reset 2 master None
    ∷ commit 3 2 master 1306281600 (codes "first\n") [] (put_file 1 (codes "README") ∷ [])
    ∷ Blob 4 3 (codes "lib\n")
    ∷ commit 5 4 (codes "refs/heads/topic") 1306282200 (codes "topic\n") (3 ∷ []) (put_file 4 (codes "lib.c") ∷ [])
    ∷ commit 6 5 master 1306282800 (codes "second\n") (3 ∷ []) (put_link ∷ [])
    ∷ commit 7 6 master 1306283400 (codes "merge\n") (6 ∷ 5 ∷ []) (put_file 4 (codes "lib.c") ∷ [])
    ∷ Reset 8 (codes "refs/tags/light") (Some 7)
    ∷ Tag 9 (codes "v1.0") 7 (Some (signed 1306284000)) (codes "release\n") None
    ∷ []

-- a blob, and commits of which one has two children
unfoldable pub forked : List PlainEvent
forked =
    Blob 1 1 (codes "1")
    ∷ commit 2 2 master 200 (codes "c2") [] (put_file 1 (codes "f") ∷ [])
    ∷ commit 3 3 master 300 (codes "c3") (2 ∷ []) (put_file 1 (codes "g") ∷ [])
    ∷ commit 4 4 master 400 (codes "c4") (3 ∷ []) (Delete (codes "f") ∷ [])
    ∷ commit 5 5 master 500 (codes "c5") (3 ∷ []) (put_file 1 (codes "h") ∷ [])
    ∷ commit 6 6 master 600 (codes "c6") (5 ∷ []) (Delete (codes "g") ∷ [])
    ∷ []

-- a commit and a tag that have several marks
unfoldable pub marked : List PlainEvent
marked =
    Commit 1 1 master (signed 100) (signed 100) None (codes "c1") [] [] (2 ∷ 5 ∷ [])
    ∷ Tag 2 (codes "v1") 1 None (codes "t") (Some 3)
    ∷ []

-- ---- selections

-- the numbers of the events, as `resolve` prints them
abbrev pub numbers : List PlainEvent → Result Ids Fault → Result (List ℕ) Fault
numbers events (Ok ids) = Ok (map (event_number events) ids)
numbers events (Err why) = Err why

abbrev pub resolved : List PlainEvent → PlainSelection → Result (List ℕ) Fault
resolved events selection = numbers events (denote selection events []).value

abbrev pub one : Spot → PlainSelection
one s = Listed (One s ∷ [])

abbrev pub named : Bytes → PlainSelection
named text = one (Named text)

abbrev pub either : PlainSelection → PlainSelection → PlainSelection
either x y = Union (more x (more y none))

abbrev pub both : PlainSelection → PlainSelection → PlainSelection
both x y = Both (more x (more y none))

-- of the export
pub record ExportedSelections : Type 0 where
  -- `@dsc(:4)&~=M|1`
  pub left_first : resolved exported (either
      (both (Call Dsc (one (Marked 4))) (Not (Kinds (record no_kinds { merges = true }))))
      (one (Number 1)))
      ≡ Ok (5 ∷ 1 ∷ [])
  -- `:4?`
  pub near_a_commit : resolved exported (Near 1 (one (Marked 4))) ≡ Ok (3 ∷ 5 ∷ 7 ∷ [])
  -- `4?`
  pub near_a_blob : resolved exported (Near 1 (one (Number 4))) ≡ Ok (5 ∷ 7 ∷ [])
  -- `<2011-05-25>`
  pub a_day : resolved exported (named (codes "2011-05-25")) ≡ Ok (3 ∷ 5 ∷ 6 ∷ 7 ∷ 9 ∷ [])
  -- `[sub]`
  pub a_path : resolved exported (AtPath (codes "sub")) ≡ Ok (6 ∷ [])
  -- `=H`
  pub heads : resolved exported (Kinds (record no_kinds { heads = true })) ≡ Ok (7 ∷ [])
  -- `5..2`
  pub reversed : resolved exported (Listed (Span (Number 5) (Number 2) ∷ [])) ≡ Err (fault.ReversedRange 5 2)
  -- `/a{2}/`
  pub a_brace : resolved exported (Search (codes "a{2}") no_fields) ≡ Err (fault.PatternTooBig (codes "a{2}"))
  -- `/(/`, `/ann@/t`, `[/lib/c]`
  pub no_pattern : resolved exported (Search (codes "(") no_fields) ≡ Err (fault.BadPattern (codes "("))
  pub a_tagger : resolved exported (Search (codes "ann@") (record no_fields { taggers = true })) ≡ Ok (9 ∷ [])
  pub in_trees : resolved exported (AtPattern (codes "lib") true) ≡ Ok (4 ∷ 5 ∷ 7 ∷ [])
  -- `<light>`, `<v1.0>`, `<#2>`, `<2011-05-25T00:20:00Z!ann@example.com#1>`
  pub a_branch : resolved exported (named (codes "light")) ≡ Ok (7 ∷ [])
  pub a_tag : resolved exported (named (codes "v1.0")) ≡ Ok (9 ∷ [])
  pub a_commit : resolved exported (named (codes "#2")) ≡ Ok (5 ∷ [])
  pub a_stamp : resolved exported (named (codes "2011-05-25T00:20:00Z!ann@example.com#1")) ≡ Ok (6 ∷ [])
  -- `<2011-02-29>`, `<2012-02-29>`, `<none>`
  pub no_day : resolved exported (named (codes "2011-02-29")) ≡ Err (fault.BadMoment (codes "2011-02-29"))
  pub nobody : resolved exported (named (codes "2012-02-29")) ≡ Err (fault.NoSuchName (codes "2012-02-29"))
  pub no_name : resolved exported (named (codes "none")) ≡ Err (fault.NoSuchName (codes "none"))

-- of the fork
pub record ForkedSelections : Type 0 where
  -- `:6,:2..:3,:3,1`
  pub written_order :
      resolved forked (Listed (One (Marked 6) ∷ Span (Marked 2) (Marked 3) ∷ One (Marked 3) ∷ One (Number 1) ∷ []))
      ≡ Ok (6 ∷ 2 ∷ 3 ∷ 1 ∷ [])
  -- `@anc(:6)|:4`
  pub ancestors : resolved forked (either (Call Anc (one (Marked 6))) (one (Marked 4))) ≡ Ok (2 ∷ 3 ∷ 5 ∷ 6 ∷ 4 ∷ [])
  -- `@srt(:6,$,1)`, `@suc(:6)`
  pub sorted : resolved forked (Call Srt (Listed (One (Marked 6) ∷ One Last ∷ One (Number 1) ∷ []))) ≡ Ok (1 ∷ 6 ∷ [])
  pub none_after : resolved forked (Call Suc (one (Marked 6))) ≡ Ok []
  -- `1|2|1|6`, `~1&~2&~3`
  pub three_lists : resolved forked
      (Union (more (one (Number 1)) (more (one (Number 2)) (more (one (Number 1)) (more (one (Number 6)) none)))))
      ≡ Ok (1 ∷ 2 ∷ 6 ∷ [])
  pub all_of_three : resolved forked
      (Both (more (Not (one (Number 1))) (more (Not (one (Number 2))) (more (Not (one (Number 3))) none))))
      ≡ Ok (4 ∷ 5 ∷ 6 ∷ [])
  -- `:7|/(/`: the first fault counts, and after it nothing is built
  pub first_fault : (denote (either (one (Marked 7)) (Search (codes "(") no_fields)) forked []).built ≡ []

-- of several marks
pub record MarkedSelections : Type 0 where
  -- `:5`, `:3`, `:4`
  pub an_alias : resolved marked (one (Marked 5)) ≡ Ok (1 ∷ [])
  pub of_a_tag : resolved marked (one (Marked 3)) ≡ Ok (2 ∷ [])
  pub no_mark : resolved marked (one (Marked 4)) ≡ Err (fault.NoSuchMark 4)
