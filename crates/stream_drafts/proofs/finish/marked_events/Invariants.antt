use Rattle.std.proofs.Common.{◌≡◌, ℕ, ◌+◌, ◌≤◌, List, ◌++◌, nat_eq}
use Rattle.std.specs.HashMap.{get}
use Rattle.std.specs.Prelude.{All}
use Rattle.std.specs.Vec.Iter.{into_iter_items}
use Rattle.plain_model.specs.declared.limit.TheConstants.{MAX_MARK}
use Rattle.stream_grammar.specs.Known.{with_aliases, with_marks}
use Rattle.stream_drafts.specs.Aliased.{AreGrouped}
use Rattle.stream_drafts.specs.Events.{events_of}
use Rattle.stream_drafts.specs.Whole.{IsMarked}
use Rattle.stream_grammar.specs.Limits.{unmarked_count}
use Rattle.stream_drafts.proofs.finish.marked_events.Given as goal

abbrev pub invariant-loop-draft : goal.invariant-loop-draft
invariant-loop-draft l = record {
  list : (aliases : List (ℕ × ℕ)) → AreGrouped aliases (get nat_eq l.groups)
      → l.rows ++ with_aliases aliases (with_marks l.last (events_of (into_iter_items l.draft-iterator))) ≡ with_aliases aliases (with_marks l.fn.greatest (events_of l.fn.drafts.items));
  wants : l.last + unmarked_count (events_of (into_iter_items l.draft-iterator)) ≡ l.fn.greatest + unmarked_count (events_of l.fn.drafts.items);
  marked : All IsMarked l.rows;
  range : l.last ≤ MAX_MARK;
}
