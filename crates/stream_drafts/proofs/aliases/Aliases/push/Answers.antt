use Rattle.std.proofs.Common.{◌≡◌, ◌++◌, ◌∷◌, [], arith, nat_eq}
use Rattle.std.specs.HashMap.{get}
use Rattle.stream_drafts.proofs.Aliased.{IsIndex_push}
use Rattle.stream_drafts.proofs.aliases.Aliases.push.Goals as goal

pub invariant_of-self-2 : goal.invariant_of-self-2
invariant_of-self-2 c =
    let at_end : c.push-pushed.new.self.items ≡ c.self.inside.list.items ++ (c.args.mark, c.args.commit) ∷ [] = grind arith in
    IsIndex_push c.self.inside.list.items c.push-pushed.new.self.items c.args.mark c.args.commit
    (get nat_eq c.self.inside.commits) (get nat_eq c.make_commit_room.new.commits) (get nat_eq c.note_commit_mark.new.commits)
    at_end c.self.invariant c.make_commit_room.ensures.same c.note_commit_mark.ensures.finds
