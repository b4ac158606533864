-- The mark of a blob or a commit is that of the event with its id.
use Rattle.std.proofs.Common.{◌≡◌, ℕ, List, refl}
use Rattle.std.specs.Prelude.{option_map, unwrap_or}
use Rattle.plain_model.specs.declared.id.AnyId.TheVariants as any
use Rattle.plain_model.specs.declared.event.PlainEvent.{PlainEvent}
use Rattle.plain_model.specs.Lookups.{find_event}
use Rattle.plain_model.specs.Snapshots.{commit_mark}
use Rattle.plain_model.specs.Text.{blob_mark_in}
use Rattle.plain_model.proofs.NamedMarks.{blob_mark_found, commit_mark_found}
use Rattle.stream_writer.specs.Marks.{main_mark}

pub blob_found : (whole events : List PlainEvent) (b : ℕ) → blob_mark_in whole events b ≡ unwrap_or (option_map main_mark (find_event (any.Blob b) events)) 0
blob_found = blob_mark_found main_mark (λ id mark bytes. refl)

pub commit_found : (events : List PlainEvent) (c : ℕ) → commit_mark events c ≡ unwrap_or (option_map main_mark (find_event (any.Commit c) events)) 0
commit_found = commit_mark_found main_mark (λ id mark branch author committer encoding comment parents ops aliases. refl)
