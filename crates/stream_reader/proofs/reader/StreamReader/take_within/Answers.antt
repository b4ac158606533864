use Rattle.std.proofs.Common.{◌+◌, ◌<◌, ◌^◌, length, take, subst, sym}
use Rattle.stream_reader.specs.declared.place.Place.{Place}
use Rattle.stream_reader.specs.declared.place.Place.TheVariants as place
use Rattle.stream_reader.specs.Reading.{HasCome, IsIn, Reading, StreamMachine, after}
use Rattle.stream_reader.proofs.Ends.{stopped_on}
use Rattle.stream_reader.proofs.Pieces.{ended_on, endless_on}
use Rattle.stream_reader.proofs.Taken.{passed}
use Rattle.stream_reader.proofs.reader.StreamReader.take_within.Goals as goal

pub returns-in-AfterBlock-clause-reads : goal.returns-in-AfterBlock-clause-reads
returns-in-AfterBlock-clause-reads c =
    let inside = c.self.inside in
    subst (λ (r : Reading). (m : StreamMachine) → HasCome r m → HasCome c.leave_block.new.self (after m (take c.leave_block.result c.args.rest.now))) c.self.view_is
    (λ m h. c.leave_block.ensures.reads c.in-AfterBlock.in_line m (subst (λ (p : Place). IsIn inside.standing inside.builder inside.number inside.come p m) (sym c.in-AfterBlock.ensures.value) h))

pub returns-in-EndlessBlock-clause-reads : goal.returns-in-EndlessBlock-clause-reads
returns-in-EndlessBlock-clause-reads c =
    let inside = c.self.inside in
    let rest = c.args.rest.now in
    let room : inside.come + length rest < 2 ^ 63 = subst (λ (r : Reading). r.come + length rest < 2 ^ 63) (sym c.self.view_is) c.requires.room in
    subst (λ (r : Reading). (m : StreamMachine) → HasCome r m → HasCome c.pass_over.new.self (after m (take c.pass_over.result rest))) c.self.view_is
    (λ m h. passed c.pass_over.new.self inside.standing inside.builder inside.number inside.come c.pass_over.result (place.EndlessBlock c.in-EndlessBlock.from) rest m c.pass_over.ensures.count c.pass_over.ensures.place
    (endless_on inside.standing inside.builder inside.number inside.number inside.come c.in-EndlessBlock.from rest m room
    (subst (λ (p : Place). IsIn inside.standing inside.builder inside.number inside.come p m) (sym c.in-EndlessBlock.ensures.value) h)))

pub returns-in-Over-clause-reads : goal.returns-in-Over-clause-reads
returns-in-Over-clause-reads c =
    let inside = c.self.inside in
    let rest = c.args.rest.now in
    subst (λ (r : Reading). (m : StreamMachine) → HasCome r m → HasCome c.pass_over-in-Over.new.self (after m (take c.pass_over-in-Over.result rest))) c.self.view_is
    (λ m h. passed c.pass_over-in-Over.new.self inside.standing inside.builder inside.number inside.come c.pass_over-in-Over.result place.Over rest m c.pass_over-in-Over.ensures.count c.pass_over-in-Over.ensures.place
    (ended_on inside.standing inside.builder inside.number inside.number inside.come (inside.come + length rest) rest m
    (subst (λ (p : Place). IsIn inside.standing inside.builder inside.number inside.come p m) (sym c.in-Over.ensures.value) h)))

pub returns-in-Refused-clause-reads : goal.returns-in-Refused-clause-reads
returns-in-Refused-clause-reads c =
    let inside = c.self.inside in
    let rest = c.args.rest.now in
    subst (λ (r : Reading). (m : StreamMachine) → HasCome r m → HasCome c.pass_over-in-Refused.new.self (after m (take c.pass_over-in-Refused.result rest))) c.self.view_is
    (λ m h. passed c.pass_over-in-Refused.new.self inside.standing inside.builder inside.number inside.come c.pass_over-in-Refused.result (place.Refused c.in-Refused.fault) rest m c.pass_over-in-Refused.ensures.count c.pass_over-in-Refused.ensures.place
    (stopped_on c.in-Refused.fault m rest
    (subst (λ (p : Place). IsIn inside.standing inside.builder inside.number inside.come p m) (sym c.in-Refused.ensures.value) h)))
