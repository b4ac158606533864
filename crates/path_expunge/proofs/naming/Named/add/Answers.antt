use Rattle.path_expunge.proofs.NamingLemmas.{one_left, one_taken}
use Rattle.std.proofs.Common.{◌∙◌, sym}
use Rattle.expunge_laws.specs.Matching.{matched_by}
use Rattle.path_expunge.proofs.naming.Named.add.Goals as goal

pub returns-in_ok-add-clause-sides : goal.returns-in_ok-add-clause-sides
returns-in_ok-add-clause-sides c =
    one_taken (matched_by c.args.matching.now) c.args.self.now c.requires c.args.path.now c.add.new.self c.in_ok-add.ensures.whole
    (sym c.matches.ensures.matched ∙ c.if-matches.true) (c.is_clear_of.ensures c.if-not-is_clear_of.false) c.in_ok-add.ensures.added

pub returns-in_ok-add-2-clause-sides : goal.returns-in_ok-add-2-clause-sides
returns-in_ok-add-2-clause-sides c =
    one_left (matched_by c.args.matching.now) c.args.self.now c.requires c.args.path.now c.add-else-matches.new.self c.in_ok-add-2.ensures.whole
    (sym c.matches.ensures.matched ∙ c.if-matches.false) (c.is_clear_of-else-matches.ensures c.if-not-is_clear_of-2.false) c.in_ok-add-2.ensures.added
