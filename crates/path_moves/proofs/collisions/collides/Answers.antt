use Rattle.std.proofs.Common.{◌≡◌, ◌∙◌, ◌+◌, true, false, drop, sym, ap}
use Rattle.std.specs.Prelude.{◌||◌, bytes_eq}
use Rattle.std.proofs.Math.ListN.{drop_of_length-le}
use Rattle.std.proofs.lemmas.Bool.{or_from}
use Rattle.plain_model.specs.Paths.{Bytes, do_conflict, is_below}
use Rattle.path_moves.proofs.Meeting.{drop_here, met, met_apart, met_in, met_same}
use Rattle.path_moves.proofs.collisions.collides.Goals as goal
use Rattle.path_moves.proofs.collisions.collides.Goals.{then-eq+else-is_seen, else-eq+else-is_below+else-is_below-2}

pub loop-other-init : goal.loop-other-init
loop-other-init c = record { rest = met_in c.args.image.now c.args.images.now }

pub returns-then-is_seen : goal.returns-then-is_seen
returns-then-is_seen c =
    let xs = c.args.images.now in
    let q = c.args.image.now in
    let x = c.other-item.result in
    let k = c.loop-other.other-index in
    let seen = c.loop-other.is_seen in
    let here = drop_here xs k x c.loop-other-test.true c.other-item.is in
    let same : bytes_eq x q ≡ true = ap (λ (y : Bytes). bytes_eq y q) (sym c.as_slice-other.ensures) ∙ sym c.eq.ensures ∙ c.if-eq.true in
    sym (sym c.loop-other.invariant.rest ∙ ap (met seen q) here ∙ met_same seen q x (drop (k + 1) xs) same ∙ ap (λ b. b || met true q (drop (k + 1) xs)) c.if-is_seen.true)

pub loop-other-preserved : goal.loop-other-preserved
loop-other-preserved c =
    let xs = c.args.images.now in
    let q = c.args.image.now in
    let x = c.other-item.result in
    let k = c.loop-other.other-index in
    let seen = c.loop-other.is_seen in
    let rest = drop (k + 1) xs in
    let here = drop_here xs k x c.loop-other-test.true c.other-item.is in
    let own = c.as_slice-other.ensures in
    record {
      rest = elim c.if-eq.branch [
        | then-eq+else-is_seen w ↦
            let same : bytes_eq x q ≡ true = ap (λ (y : Bytes). bytes_eq y q) (sym own) ∙ sym c.eq.ensures ∙ w.if-eq.true in
            ap (λ b. met b q rest) w.is_seen-is ∙ sym (ap (λ b. b || met true q rest) w.if-is_seen.false) ∙ sym (met_same seen q x rest same) ∙ sym (ap (met seen q) here) ∙ c.loop-other.invariant.rest
        | else-eq+else-is_below+else-is_below-2 w ↦
            let other : bytes_eq x q ≡ false = ap (λ (y : Bytes). bytes_eq y q) (sym own) ∙ sym c.eq.ensures ∙ w.if-eq.false in
            let below : is_below q x ≡ false = ap (is_below q) (sym own) ∙ sym w.is_below.ensures ∙ w.if-is_below.false in
            let above : is_below x q ≡ false = ap (λ (y : Bytes). is_below y q) (sym own) ∙ sym w.is_below-else-is_below.ensures ∙ w.if-is_below-2.false in
            let apart : do_conflict q x ≡ false = or_from (is_below q x) (is_below x q) below above in
            ap (λ b. met b q rest) w.is_seen-is ∙ sym (ap (λ b. b || met seen q rest) apart) ∙ sym (met_apart seen q x rest other) ∙ sym (ap (met seen q) here) ∙ c.loop-other.invariant.rest
      ];
    }

pub returns : goal.returns
returns c =
    sym (sym c.loop-other.invariant.rest ∙ ap (met c.loop-other.is_seen c.args.image.now) (drop_of_length-le c.args.images.now c.loop-other-test.false))
