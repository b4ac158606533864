use Rattle.std.proofs.Common.{sym}
use Rattle.path_moves.proofs.kept.Kept.begun.Goals as goal

pub folded_pair-requires-clause-may : goal.folded_pair-requires-clause-may
folded_pair-requires-clause-may c = (c.requires.first c.in-Some.parent.now (sym c.in-Some.ensures.value)).1

pub folded_pair-requires-clause-there : goal.folded_pair-requires-clause-there
folded_pair-requires-clause-there c = (c.requires.first c.in-Some.parent.now (sym c.in-Some.ensures.value)).0
