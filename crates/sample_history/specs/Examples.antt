-- Worked samples. (own)
use Rattle.std.specs.Prelude.{◌≡◌, ℕ, List, [], ◌∷◌, ◌++◌, None, codes}
use Rattle.plain_model.specs.declared.operation.Mode.TheVariants.{Plain}
use Rattle.plain_model.specs.declared.operation.Content.TheVariants.{Blob as OfBlob}
use Rattle.plain_model.specs.declared.operation.FileOp.{FileOp}
use Rattle.plain_model.specs.declared.operation.FileOp.TheVariants.{Modify, Delete}
use Rattle.plain_model.specs.declared.event.PlainEvent.{PlainEvent}
use Rattle.plain_model.specs.declared.event.PlainEvent.TheVariants.{Blob, Commit}
use Rattle.plain_model.specs.Paths.{Bytes}
use Rattle.plain_model.specs.Text.{text}
use Rattle.sample_history.specs.Sample.{sample, signed_at}

-- a commit so many seconds after the beginning of 1970
abbrev pub commit : ℕ → ℕ → Bytes → List ℕ → List FileOp → PlainEvent
commit id seconds comment parents ops =
    Commit id id (codes "refs/heads/master") (signed_at seconds) (signed_at seconds) None comment parents ops []

pub record WorkedSamples : Type 0 where
  pub one_commit : text (sample 1 0) ≡
      codes "blob\n"
      ++ codes "mark :1\n"
      ++ codes "data 10\n"
      ++ codes "167951807\n"
      ++ codes "\n"
      ++ codes "commit refs/heads/master\n"
      ++ codes "mark :2\n"
      ++ codes "author S <s@example.com> 60 +0000\n"
      ++ codes "committer S <s@example.com> 60 +0000\n"
      ++ codes "data 9\n"
      ++ codes "commit 1\n"
      ++ codes "\n"
      ++ codes "M 100644 :1 d8/f1\n"
      ++ codes "\n"
  -- the third commit has a second parent, and deletes a path
  pub three_commits : sample 3 17 ≡
      Blob 1 1 (codes "2025544000\n")
      ∷ commit 2 60 (codes "commit 1\n") [] (Modify Plain (OfBlob 1) (codes "d0/f44") ∷ [])
      ∷ Blob 3 3 (codes "70322281\n")
      ∷ commit 4 120 (codes "commit 2\n") (2 ∷ []) (Modify Plain (OfBlob 3) (codes "d2/f22") ∷ [])
      ∷ Blob 5 5 (codes "723565700\n")
      ∷ commit 6 180 (codes "commit 3\n") (4 ∷ 2 ∷ []) (Modify Plain (OfBlob 5) (codes "d7/f15") ∷ Delete (codes "d7/f16") ∷ [])
      ∷ []
