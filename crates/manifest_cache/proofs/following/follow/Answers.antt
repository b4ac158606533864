use Rattle.std.proofs.Common.{◌≡◌, ◌+◌, ◌-◌, ◌<◌, ◌∙◌, ℕ, length, subst, arith}
use Rattle.manifest_cache.proofs.Sifting.{Sifts, now_agrees, sifts_more}
use Rattle.manifest_cache.proofs.following.follow.Goals as goal

pub turn-requires-clause-agrees : goal.turn-requires-clause-agrees
turn-requires-clause-agrees c =
    now_agrees c.args.plan.now.before c.args.plan.now.after c.args.kept.now.entries c.requires c.loop-turns.kept.entries
    (length c.args.kept.now.entries - c.loop-turns.turns) c.loop-turns.invariant.sifts

pub loop-turns-preserved : goal.loop-turns-preserved
loop-turns-preserved c =
    let before = c.args.plan.now.before in
    let after = c.args.plan.now.after in
    let old = c.args.kept.now.entries in
    let m : ℕ = length old - (c.loop-turns.turns + 1) in
    let more : c.loop-turns.turns < length old = let all = c.loop-turns.invariant.all in let less = c.loop-turns-test.true in omega (arith, all, less) in
    let one : length old - c.loop-turns.turns ≡ m + 1 = omega (arith, more) in
    record {
      sifts = sifts_more before after old c.requires c.loop-turns.kept.entries c.turn.new.kept.entries m (omega (arith, more))
          (subst (Sifts before after old c.loop-turns.kept.entries) one c.loop-turns.invariant.sifts) c.turn.ensures.turns;
      known = c.turn.ensures.known;
      cap = c.turn.ensures.cap ∙ c.loop-turns.invariant.cap;
      all = c.loop-turns.invariant.all;
    }
