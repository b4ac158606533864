-- The sample: a history of any size on one branch, which a number determines. (own)
use Rattle.std.specs.Prelude.{ℕ, zero, suc, ◌+◌, ◌-◌, ◌*◌, ◌/◌, ◌%◌, ◌^◌, false, ◌==◌, ◌&&◌, nat_le, nat_lt, List, [], ◌∷◌, ◌++◌, None, codes, decimal, min, if◌then◌else◌}
use Rattle.plain_model.specs.declared.operation.Mode.TheVariants.{Plain}
use Rattle.plain_model.specs.declared.operation.Content.TheVariants.{Blob as OfBlob}
use Rattle.plain_model.specs.declared.operation.FileOp.{FileOp}
use Rattle.plain_model.specs.declared.operation.FileOp.TheVariants.{Modify, Delete}
use Rattle.plain_model.specs.declared.person.Signed.{Signed}
use Rattle.plain_model.specs.declared.event.PlainEvent.{PlainEvent}
use Rattle.plain_model.specs.declared.event.PlainEvent.TheVariants.{Blob, Commit}
use Rattle.plain_model.specs.Paths.{Bytes}
use Rattle.plain_model.specs.Text.{line}
use Rattle.plain_model.specs.declared.limit.TheConstants.{MAX_SAMPLE_COMMITS}

-- ---- numbers by chance

-- x, one step on
abbrev pub stepped : ℕ → ℕ
stepped x = (x * 6364136223846793005 + 1442695040888963407) % 2 ^ 64

-- what x gives, without its lowest 33 bits
abbrev pub drawn : ℕ → ℕ
drawn x = x / 2 ^ 33

-- ---- a blob and a commit: i is their number, from 1, and r the number that was drawn for them

-- both of the blob, its id and its mark
abbrev pub blob_number : ℕ → ℕ
blob_number i = 2 * i - 1

-- both of the commit, its id and its mark
abbrev pub commit_number : ℕ → ℕ
commit_number i = 2 * i

abbrev pub folder : ℕ → ℕ
folder r = r / 100 % 10

abbrev pub file : ℕ → ℕ
file r = r / 1000 % 50

-- `dA/fB`
abbrev pub path_in : ℕ → ℕ → Bytes
path_in a b = codes "d" ++ decimal a ++ codes "/f" ++ decimal b

abbrev pub signed_at : ℕ → Signed
signed_at seconds = record {
  person = record { name = codes "S"; email = codes "s@example.com" };
  when = record { seconds = seconds; minus = false; offset = 0 };
}

-- the commit before, and about every tenth time one that is earlier still
abbrev pub parents_of : ℕ → ℕ → List ℕ
parents_of i r =
    (if nat_lt 1 i then commit_number (i - 1) ∷ [] else [])
    ++ (if nat_le 3 i && (r % 10 == 0) then commit_number (1 + r / 10 % (i - 2)) ∷ [] else [])

-- the blob is put at a path, and about every thirteenth time another path is deleted
abbrev pub ops_of : ℕ → ℕ → List FileOp
ops_of i r =
    Modify Plain (OfBlob (blob_number i)) (path_in (folder r) (file r))
    ∷ (if nat_le 2 i && (r % 13 == 0) then Delete (path_in (folder r) ((file r + 1) % 50)) ∷ [] else [])

abbrev pub blob_of : ℕ → ℕ → PlainEvent
blob_of i r = Blob (blob_number i) (blob_number i) (line (decimal r))

abbrev pub commit_of : ℕ → ℕ → PlainEvent
commit_of i r =
    Commit (commit_number i) (commit_number i) (codes "refs/heads/master") (signed_at (60 * i)) (signed_at (60 * i)) None
    (line (codes "commit " ++ decimal i)) (parents_of i r) (ops_of i r) []

-- ---- the history

-- so many blobs and commits, the first of them with the number i, where x was stepped on for those before
abbrev pub sample_from : ℕ → ℕ → ℕ → List PlainEvent
sample_from zero i x = []
sample_from (suc left) i x =
    let r = drawn (stepped x) in
    blob_of i r ∷ commit_of i r ∷ sample_from left (i + 1) (stepped x)

-- as many commits as the count says, up to the most that a sample may have, from the number with which x begins
unfoldable pub sample : ℕ → ℕ → List PlainEvent
sample count start = sample_from (min count MAX_SAMPLE_COMMITS) 1 start
