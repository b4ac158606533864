-- The three lines, one after another.
use Rattle.std.proofs.Common.{◌≡◌, ◌++◌, ℕ, ap, ◌∙◌, append_assoc, codes}
use Rattle.std.proofs.lemmas.Result.{on_ok_weaker}
use Rattle.plain_model.specs.Paths.{Bytes}
use Rattle.plain_model.specs.Text.{line, marked}
use Rattle.stream_writer.proofs.events.push_alias.Goals as goal

pub returns : goal.returns
returns c =
    let old = c.args.out.now in
    let mark_line : ℕ → Bytes = λ n. line (codes "mark " ++ marked n) in
    let to_line : ℕ → Bytes = λ n. line (codes "to " ++ marked n) in
    let first : c.push_all.new.self ≡ old ++ codes "alias\n" = c.in_ok-push_all.ensures.ok in
    let second : c.push_mark_line.new.out ≡ c.push_all.new.self ++ mark_line c.args.alias = c.in_ok-push_mark_line.ensures ∙ ap (λ n. c.push_all.new.self ++ mark_line n) c.number.ensures.value in
    on_ok_weaker c.push_mark_line-2.result (λ third.
    third
    ∙ ap (λ n. c.push_mark_line.new.out ++ to_line n) c.number-2.ensures.value
    ∙ ap (λ (o : Bytes). o ++ to_line c.args.mark) (second ∙ ap (λ (o : Bytes). o ++ mark_line c.args.alias) first)
    ∙ append_assoc (old ++ codes "alias\n") (mark_line c.args.alias) (to_line c.args.mark)
    ∙ append_assoc old (codes "alias\n") (mark_line c.args.alias ++ to_line c.args.mark)) c.push_mark_line-2.ensures
