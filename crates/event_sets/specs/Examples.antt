-- A worked history, and sets of it. (own)
use Rattle.std.specs.Prelude.{◌≡◌, ℕ, List, [], ◌∷◌, map, Some, None, codes, false, true}
use Rattle.plain_model.specs.declared.id.AnyId.{AnyId}
use Rattle.plain_model.specs.declared.id.AnyId.TheVariants as any
use Rattle.plain_model.specs.declared.operation.Content.TheVariants.{Blob as OfBlob}
use Rattle.plain_model.specs.declared.operation.FileOp.{FileOp}
use Rattle.plain_model.specs.declared.operation.FileOp.TheVariants.{Modify}
use Rattle.plain_model.specs.declared.operation.Mode.TheVariants.{Plain}
use Rattle.plain_model.specs.declared.person.Signed.{Signed}
use Rattle.plain_model.specs.declared.event.PlainEvent.{PlainEvent}
use Rattle.plain_model.specs.declared.event.PlainEvent.TheVariants.{Blob, Commit, Tag, Reset, Pass}
use Rattle.plain_model.specs.Paths.{Bytes}
use Rattle.history_laws.specs.Finding.{event_number}
use Rattle.selection_parser.specs.declared.function.Function.TheVariants.{Min, Max, Amp, Par, Chn, Dsc, Anc, Pre, Suc, Srt}
use Rattle.selection_parser.specs.declared.kind.KindSet.{KindSet}
use Rattle.event_sets.specs.Kinds.{is_of}
use Rattle.event_sets.specs.Sets.{Ids, called, common, near_times, passing, range, rest, union}

abbrev pub someone : Signed
someone = record {
  person = record { name = codes "A"; email = codes "a@x" };
  when = record { seconds = 0; minus = false; offset = 0 };
}

abbrev pub commit : ℕ → List ℕ → List FileOp → PlainEvent
commit number parents ops =
    Commit number number (codes "refs/heads/master") someone someone None (codes "c") parents ops []

-- an operation that puts a plain file
abbrev pub put_in : ℕ → Bytes → FileOp
put_in blob path = Modify Plain (OfBlob blob) path

-- Two blobs; a root; its two children, of which the second has no operation; their merge; a passed line; a tag of the
-- first child; and a reset to the merge. The number of each id is that of its event.
abbrev pub forked : List PlainEvent
forked =
    Blob 1 1 (codes "x")
    ∷ Blob 2 2 (codes "y")
    ∷ commit 3 [] (put_in 1 (codes "f") ∷ [])
    ∷ commit 4 (3 ∷ []) (put_in 2 (codes "g") ∷ [])
    ∷ commit 5 (3 ∷ []) []
    ∷ commit 6 (5 ∷ 4 ∷ []) (put_in 1 (codes "h") ∷ [])
    ∷ Pass 7 (codes "checkpoint")
    ∷ Tag 8 (codes "v1") 4 None (codes "first") None
    ∷ Reset 9 (codes "side") (Some 6)
    ∷ []

-- the numbers of a list of its events
abbrev pub numbers : Ids → List ℕ
numbers ids = map (event_number forked) ids

-- the neighbours of one event
abbrev pub near : AnyId → List ℕ
near id = numbers (near_times forked 1 (id ∷ []))

abbrev pub no_kinds : KindSet
no_kinds = record {
  blobs = false;
  commits = false;
  tags = false;
  resets = false;
  passes = false;
  heads = false;
  roots = false;
  merges = false;
  forks = false;
  empties = false;
}

abbrev pub of_kinds : KindSet → List ℕ
of_kinds kinds = numbers (passing (is_of forked kinds) forked)

pub record WorkedSets : Type 0 where
  -- the left one's order comes first
  pub either : numbers (union (any.Commit 6 ∷ any.Commit 3 ∷ []) (any.Commit 4 ∷ any.Commit 6 ∷ [])) ≡ 6 ∷ 3 ∷ 4 ∷ []
  pub both : numbers (common (any.Commit 6 ∷ any.Commit 3 ∷ []) (any.Commit 3 ∷ any.Commit 4 ∷ any.Commit 6 ∷ []))
      ≡ 6 ∷ 3 ∷ []
  pub others : numbers (rest forked (any.Commit 6 ∷ any.Commit 3 ∷ [])) ≡ 1 ∷ 2 ∷ 4 ∷ 5 ∷ 7 ∷ 8 ∷ 9 ∷ []
  pub between : numbers (range forked 3 5) ≡ 3 ∷ 4 ∷ 5 ∷ []
  -- `?`
  pub near_commit : near (any.Commit 4) ≡ 3 ∷ 4 ∷ 6 ∷ []
  pub near_blob : near (any.Blob 1) ≡ 3 ∷ 6 ∷ []
  pub near_tag : near (any.Tag 8) ≡ 4 ∷ 8 ∷ []
  pub near_reset : near (any.Reset 9) ≡ 6 ∷ 9 ∷ []
  pub near_line : near (any.Pass 7) ≡ 7 ∷ []
  pub near_twice : numbers (near_times forked 2 (any.Commit 3 ∷ [])) ≡ 3 ∷ 4 ∷ 5 ∷ 6 ∷ []
  -- functions
  pub least : numbers (called forked Min (any.Commit 6 ∷ any.Commit 4 ∷ [])) ≡ 4 ∷ []
  pub greatest : numbers (called forked Max (any.Commit 4 ∷ any.Commit 6 ∷ any.Commit 3 ∷ [])) ≡ 6 ∷ []
  pub whole : numbers (called forked Amp (any.Commit 6 ∷ [])) ≡ 1 ∷ 2 ∷ 3 ∷ 4 ∷ 5 ∷ 6 ∷ 7 ∷ 8 ∷ 9 ∷ []
  pub nothing : numbers (called forked Amp []) ≡ []
  pub parents : numbers (called forked Par (any.Commit 6 ∷ [])) ≡ 4 ∷ 5 ∷ []
  pub children : numbers (called forked Chn (any.Commit 3 ∷ [])) ≡ 4 ∷ 5 ∷ []
  pub descendants : numbers (called forked Dsc (any.Commit 4 ∷ any.Blob 1 ∷ [])) ≡ 1 ∷ 4 ∷ 6 ∷ []
  pub ancestors : numbers (called forked Anc (any.Commit 4 ∷ any.Tag 8 ∷ [])) ≡ 3 ∷ 4 ∷ 8 ∷ []
  pub before : numbers (called forked Pre (any.Commit 6 ∷ any.Commit 4 ∷ [])) ≡ 3 ∷ []
  pub none_before : numbers (called forked Pre (any.Blob 1 ∷ [])) ≡ []
  pub after : numbers (called forked Suc (any.Commit 6 ∷ any.Commit 4 ∷ [])) ≡ 7 ∷ []
  pub none_after : numbers (called forked Suc (any.Reset 9 ∷ [])) ≡ []
  pub sorted : numbers (called forked Srt (any.Commit 6 ∷ any.Blob 1 ∷ [])) ≡ 1 ∷ 6 ∷ []
  -- kinds
  pub heads : of_kinds (record no_kinds { heads = true }) ≡ 6 ∷ []
  pub roots : of_kinds (record no_kinds { roots = true }) ≡ 3 ∷ []
  pub merges : of_kinds (record no_kinds { merges = true }) ≡ 6 ∷ []
  pub forks : of_kinds (record no_kinds { forks = true }) ≡ 3 ∷ []
  pub empties : of_kinds (record no_kinds { empties = true }) ≡ 5 ∷ []
  pub several : of_kinds (record no_kinds { blobs = true; tags = true; empties = true }) ≡ 1 ∷ 2 ∷ 5 ∷ 8 ∷ []
