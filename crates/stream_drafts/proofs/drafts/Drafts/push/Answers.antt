use Rattle.std.proofs.Common.{List, length, ◌+◌, sym, subst, ◌≡◌, ◌++◌, ◌∷◌, [], arith, nat_eq}
use Rattle.std.specs.HashSet.{contains}
use Rattle.plain_model.specs.declared.event.PlainEvent.{PlainEvent}
use Rattle.stream_drafts.specs.Events.{event_of}
use Rattle.history_laws.specs.Placed.{ArePlaced}
use Rattle.stream_drafts.specs.Rising.{finds}
use Rattle.stream_drafts.proofs.Indexes.{IsIndexed_push}
use Rattle.stream_drafts.proofs.drafts.Drafts.push.Goals as goal

pub invariant_of-self-2 : goal.invariant_of-self-2
invariant_of-self-2 c =
    let at_end : c.push-pushed.new.self.items ≡ c.self.inside.drafts.items ++ c.args.draft ∷ [] = grind arith in
    let indexed = IsIndexed_push c.self.inside.drafts.items c.push-pushed.new.self.items c.args.draft
    (finds c.self.inside.blobs) (finds c.self.inside.commits)
    (finds c.make_room.new.self) (finds c.make_room-2.new.self) (finds c.note_blob.new.blobs) (finds c.note_commit.new.commits)
    (contains nat_eq c.self.inside.tags) (contains nat_eq c.make_tag_room.new.tags) (contains nat_eq c.note_tag.new.tags)
    c.self.inside.tips c.note_tip.new.tips
    c.self.inside.greatest c.number.result c.max-self-inside.result
    at_end c.self.invariant.0 c.make_room.ensures.same c.note_blob.ensures.finds c.make_room-2.ensures.same c.note_commit.ensures.finds c.make_tag_room.ensures.same c.note_tag.ensures
    c.in_ok-note_tip.ensures.ok c.number.ensures.value c.number.ensures.range c.max-self-inside.ensures
    (subst (λ (es : List PlainEvent). ArePlaced (length es + 1) (event_of c.args.draft ∷ [])) (sym c.self.view_is) c.requires) in
    (indexed, (c.note_blob.ensures.apart, c.note_commit.ensures.apart))
