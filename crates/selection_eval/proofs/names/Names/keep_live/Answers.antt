use Rattle.std.proofs.Common.{Vec, Global, ◌≡◌, ◌∙◌, ◌+◌, ℕ, suc, false, true, sym, ap, length, arith}
use Rattle.indexmap.specs.Layout.{length-set_value_at}
use Rattle.std.proofs.lemmas.List.{length-map}
use Rattle.plain_model.specs.declared.id.AnyId.{AnyId}
use Rattle.selection_eval.specs.Names.{live_names, names_of}
use Rattle.selection_eval.proofs.NameSteps.{all_live, live_first, written}
use Rattle.selection_eval.proofs.names.Names.keep_live.Goals as goal
use Rattle.selection_eval.proofs.names.Names.keep_live.Goals.{in-Some, in_default}

pub loop-place-init : goal.loop-place-init
loop-place-init c = record { names = c.self.view_is; count = sym c.len-place-end.ensures.len }

pub loop-place-preserved : goal.loop-place-preserved
loop-place-preserved c =
    let events = c.args.events.now.list in
    let entries = c.loop-place.self-inside.by_name.entries in
    let n = c.loop-place.place in
    let more : suc n ≡ n + 1 = omega arith in
    elim c.match-get_index_mut.branch [
      | in-Some w ↦
          record {
            names =
                rw w.self-inside-is
                (written events entries c.args.self.now n w.in-Some.list.now w.retain_live.new.ids c.loop-place.invariant.names
                (sym w.in-Some.ensures.value) w.retain_live.ensures ∙ ap (λ i. live_first events i c.args.self.now) more);
            count = rw w.self-inside-is (length-set_value_at entries n w.retain_live.new.ids ∙ c.loop-place.invariant.count);
          }
      | in_default w ↦
          let none : false ≡ true = w.in_default.ensures.found.1 (rw c.loop-place.invariant.count c.loop-place-test.true) in
          absurd cc
    ]

pub returns : goal.returns
returns c =
    let events = c.args.events.now.list in
    let entries = c.self.inside.by_name.entries in
    let many : length c.args.self.now ≡ length entries = rw (← c.self.view_is)
    (length-map entries (λ (e : Vec ℕ Global × Vec AnyId Global). (e.0.items, e.1.items))) in
    let all : length entries ≡ c.len-place-end.result = sym c.len-place-end.ensures.len in
    let last = c.loop-place-test.false in
    c.loop-place.invariant.names ∙ all_live events c.args.self.now c.loop-place.place (omega (arith, many, all, last))
