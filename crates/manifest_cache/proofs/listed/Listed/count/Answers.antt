use Rattle.std.proofs.Common.{sym, subst}
use Rattle.history_laws.specs.Once.{AreDistinct}
use Rattle.manifest_cache.specs.Listed.{events_of}
use Rattle.manifest_cache.specs.declared.listed.Listed.{Listed}
use Rattle.manifest_cache.proofs.Sound.{distinct}
use Rattle.manifest_cache.proofs.listed.Listed.count.Goals as goal

pub returns-in-History-clause-once : goal.returns-in-History-clause-once
returns-in-History-clause-once c = subst (λ (l : Listed). AreDistinct (events_of l)) (sym c.in-History.is) (distinct c.in-History.events.now.list c.count.ensures.sound)
