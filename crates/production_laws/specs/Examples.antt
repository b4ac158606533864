-- A small stream, its events as they are spelled, and its history.
use Rattle.std.specs.Prelude.{List, [], ◌∷◌, None, Some, codes}
use Rattle.plain_model.specs.declared.event.PlainEvent.{PlainEvent}
use Rattle.plain_model.specs.declared.event.PlainEvent.TheVariants as plain
use Rattle.plain_model.specs.declared.operation.Content.TheVariants.{Blob as OfBlob}
use Rattle.plain_model.specs.declared.operation.FileOp.TheVariants.{Modify}
use Rattle.plain_model.specs.declared.operation.Mode.TheVariants.{Plain}
use Rattle.plain_model.specs.declared.raw.RawContent.TheVariants.{Inline}
use Rattle.plain_model.specs.declared.raw.RawOp.TheVariants as rawop
use Rattle.plain_model.specs.Paths.{Bytes}
use Rattle.stream_grammar.specs.Worked.{ann, lines}
use Rattle.production_laws.specs.Productions.Form.{ABlob, ACommit, AReset}
use Rattle.production_laws.specs.Raw.{Raw}
use Rattle.production_laws.specs.Raw.Ref.{OfMark}
use Rattle.production_laws.specs.Raw.Spelled.{WithBytes}

abbrev pub small_stream : Bytes
small_stream = lines
    (codes "blob" ∷ codes "mark :1" ∷ codes "data 2" ∷ codes "hi" ∷ codes "commit refs/heads/b" ∷ codes "mark :2"
    ∷ codes "committer Ann <a@b> 1 +0000" ∷ codes "data 0" ∷ [] ∷ codes "# the bytes of f" ∷ codes "M 644 inline f" ∷ codes "data 1" ∷ codes "x"
    ∷ codes "reset refs/heads/c" ∷ codes "from :2" ∷ [])

abbrev pub small_events : List Raw
small_events =
    record { form = ABlob; fields = (tt, (Some 1, (None, (codes "hi", tt)))) }
    ∷ record {
      form = ACommit;
      fields =
          (codes "refs/heads/b", (Some 2, (None, (None, (ann, (None, ([], (None, ([], (WithBytes (rawop.Modify Plain Inline (codes "f")) (codes "x") ∷ [], tt))))))))));
    }
    ∷ record { form = AReset; fields = (codes "refs/heads/c", (Some (OfMark 2), tt)) } ∷ []

abbrev pub small_history : List PlainEvent
small_history =
    plain.Blob 1 1 (codes "hi") ∷ plain.Blob 2 3 (codes "x")
    ∷ plain.Commit 3 2 (codes "refs/heads/b") ann ann None [] [] (Modify Plain (OfBlob 2) (codes "f") ∷ []) []
    ∷ plain.Reset 4 (codes "refs/heads/c") (Some 3) ∷ []
