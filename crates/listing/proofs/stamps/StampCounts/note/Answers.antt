use Rattle.std.proofs.Common.{[], ◌∷◌, ◌++◌, ◌+◌, ◌∙◌, ap, arith}
use Rattle.listing.specs.Stamping.{counted}
use Rattle.listing.specs.Stamps.{stamp_of}
use Rattle.listing.proofs.StampLemmas.{counts_more, no_rank, no_stamp, own_rank}
use Rattle.listing.proofs.stamps.StampCounts.note.Goals as goal

pub returns-in_default : goal.returns-in_default
returns-in_default c =
    let e = c.args.event.now in
    let other = c.in_default.not-Commit in
    record {
      which = λ earlier before. no_rank e other (earlier ++ e ∷ []);
      counts = λ earlier before. counts_more c.args.self.now c.args.self.now earlier e before (λ stamp. rw (no_stamp e other stamp) (omega arith));
    }

pub returns-in_ok-which-in-Commit-clause-which : goal.returns-in_ok-which-in-Commit-clause-which
returns-in_ok-which-in-Commit-clause-which c = λ earlier before.
    let e = c.in-Commit in
    let stamp = c.in_ok-push_stamp-in-Commit.ensures ∙ ap (λ s. s ++ stamp_of e.committer) c.empty-stamp.ensures in
    let rank = own_rank e.id e.mark e.branch e.author e.committer e.encoding e.comment e.parents e.ops e.aliases c.args.self.now earlier before in
    c.in_ok-which-in-Commit.ensures.which ∙ ap (λ s. counted c.args.self.now s + 1) stamp ∙ rw e.is rank
