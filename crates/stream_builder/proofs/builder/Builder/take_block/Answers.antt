use Rattle.std.proofs.Common.{refl}
use Rattle.stream_builder.proofs.Built.{blob_over, commit_stays, tag_over}
use Rattle.stream_builder.proofs.builder.Builder.take_block.Goals as goal

pub invariant_of-self-in_ok-push_blob-in-Blob-5 : goal.invariant_of-self-in_ok-push_blob-in-Blob-5
invariant_of-self-in_ok-push_blob-in-Blob-5 c =
    blob_over c.self.inside.drafts c.push_blob.new.self _ c.self.inside.trees c.self.inside.ops c.in_ok-push_blob-in-Blob.ensures.ok refl refl c.self.inside.current c.in-Blob.mark c.in-Blob.is c.self.invariant

pub invariant_of-self-in_ok-push_blob-in-Commit : goal.invariant_of-self-in_ok-push_blob-in-Commit
invariant_of-self-in_ok-push_blob-in-Commit c =
    commit_stays c.self.inside.drafts c.push_blob-then-inline.new.self _ c.self.inside.trees c.self.inside.ops c.in_ok-push_blob-in-Commit.ensures.ok refl refl c.self.inside.current c.in-Commit.commit c.in-Commit.is c.self.invariant

pub invariant_of-self-in_ok-push_tag-in-Tag : goal.invariant_of-self-in_ok-push_tag-in-Tag
invariant_of-self-in_ok-push_tag-in-Tag c =
    tag_over c.self.inside.drafts c.push_tag.new.self _ c.self.inside.trees c.self.inside.ops c.in_ok-push_tag-in-Tag.ensures.ok refl refl c.self.inside.current c.replace.new.dest
    c.in-Tag.name c.in-Tag.target c.in-Tag.tagger c.in-Tag.mark c.in-Tag.is c.replace.ensures.after c.self.invariant
