use Rattle.std.proofs.Common.{ap}
use Rattle.history_laws.specs.Finding.{is_commit}
use Rattle.listing.specs.Summaries.{is_blob, is_pass, is_reset, is_tag}
use Rattle.listing.proofs.KindCounts.{more, same}
use Rattle.listing.proofs.summaries.counts_of.Goals as goal
use Rattle.listing.proofs.summaries.counts_of.Goals.{in-Blob, in-Commit, in-Tag, in-Reset, in-Pass}

pub loop-place-preserved : goal.loop-place-preserved
loop-place-preserved c =
    let list = c.args.events.now.list in
    let k = c.loop-place.place in
    let e = c.nth.result.now in
    let at = c.nth.ensures.event in
    let was = c.loop-place.invariant in
    let one = more list k e at in
    let other = same list k e at in
    elim c.match-nth.branch [
      | in-Blob w ↦ record {
        blobs = one is_blob c.loop-place.blobs c.match-nth.blobs (ap is_blob w.in-Blob.is) was.blobs w.blobs-is;
        commits = other is_commit c.loop-place.commits c.match-nth.commits (ap is_commit w.in-Blob.is) was.commits w.commits-is;
        tags = other is_tag c.loop-place.tags c.match-nth.tags (ap is_tag w.in-Blob.is) was.tags w.tags-is;
        resets = other is_reset c.loop-place.resets c.match-nth.resets (ap is_reset w.in-Blob.is) was.resets w.resets-is;
        passes = other is_pass c.loop-place.passes c.match-nth.passes (ap is_pass w.in-Blob.is) was.passes w.passes-is;
      }
      | in-Commit w ↦ record {
        blobs = other is_blob c.loop-place.blobs c.match-nth.blobs (ap is_blob w.in-Commit.is) was.blobs w.blobs-is;
        commits = one is_commit c.loop-place.commits c.match-nth.commits (ap is_commit w.in-Commit.is) was.commits w.commits-is;
        tags = other is_tag c.loop-place.tags c.match-nth.tags (ap is_tag w.in-Commit.is) was.tags w.tags-is;
        resets = other is_reset c.loop-place.resets c.match-nth.resets (ap is_reset w.in-Commit.is) was.resets w.resets-is;
        passes = other is_pass c.loop-place.passes c.match-nth.passes (ap is_pass w.in-Commit.is) was.passes w.passes-is;
      }
      | in-Tag w ↦ record {
        blobs = other is_blob c.loop-place.blobs c.match-nth.blobs (ap is_blob w.in-Tag.is) was.blobs w.blobs-is;
        commits = other is_commit c.loop-place.commits c.match-nth.commits (ap is_commit w.in-Tag.is) was.commits w.commits-is;
        tags = one is_tag c.loop-place.tags c.match-nth.tags (ap is_tag w.in-Tag.is) was.tags w.tags-is;
        resets = other is_reset c.loop-place.resets c.match-nth.resets (ap is_reset w.in-Tag.is) was.resets w.resets-is;
        passes = other is_pass c.loop-place.passes c.match-nth.passes (ap is_pass w.in-Tag.is) was.passes w.passes-is;
      }
      | in-Reset w ↦ record {
        blobs = other is_blob c.loop-place.blobs c.match-nth.blobs (ap is_blob w.in-Reset.is) was.blobs w.blobs-is;
        commits = other is_commit c.loop-place.commits c.match-nth.commits (ap is_commit w.in-Reset.is) was.commits w.commits-is;
        tags = other is_tag c.loop-place.tags c.match-nth.tags (ap is_tag w.in-Reset.is) was.tags w.tags-is;
        resets = one is_reset c.loop-place.resets c.match-nth.resets (ap is_reset w.in-Reset.is) was.resets w.resets-is;
        passes = other is_pass c.loop-place.passes c.match-nth.passes (ap is_pass w.in-Reset.is) was.passes w.passes-is;
      }
      | in-Pass w ↦ record {
        blobs = other is_blob c.loop-place.blobs c.match-nth.blobs (ap is_blob w.in-Pass.is) was.blobs w.blobs-is;
        commits = other is_commit c.loop-place.commits c.match-nth.commits (ap is_commit w.in-Pass.is) was.commits w.commits-is;
        tags = other is_tag c.loop-place.tags c.match-nth.tags (ap is_tag w.in-Pass.is) was.tags w.tags-is;
        resets = other is_reset c.loop-place.resets c.match-nth.resets (ap is_reset w.in-Pass.is) was.resets w.resets-is;
        passes = one is_pass c.loop-place.passes c.match-nth.passes (ap is_pass w.in-Pass.is) was.passes w.passes-is;
      }
    ]
