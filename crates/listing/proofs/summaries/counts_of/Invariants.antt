use Rattle.std.proofs.Common.{◌≡◌, take}
use Rattle.std.specs.List.{count_by}
use Rattle.history_laws.specs.Finding.{is_commit}
use Rattle.listing.specs.Summaries.{is_blob, is_pass, is_reset, is_tag}
use Rattle.listing.proofs.summaries.counts_of.Given as goal

abbrev pub invariant-loop-place : goal.invariant-loop-place
invariant-loop-place l = record {
  blobs : l.blobs ≡ count_by is_blob (take l.place l.events.list);
  commits : l.commits ≡ count_by is_commit (take l.place l.events.list);
  tags : l.tags ≡ count_by is_tag (take l.place l.events.list);
  resets : l.resets ≡ count_by is_reset (take l.place l.events.list);
  passes : l.passes ≡ count_by is_pass (take l.place l.events.list);
}
