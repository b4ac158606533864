use Rattle.std.proofs.Common.{◌∙◌, List, add-one, ap, sym, take}
use Rattle.std.specs.Prelude.{◌||◌, bytes_eq}
use Rattle.std.specs.List.{list_any}
use Rattle.plain_model.specs.Paths.{Bytes}
use Rattle.tagify_laws.specs.Tagify.{has_tag_named, is_tag_named}
use Rattle.empty_commits.proofs.NameLemmas.{named_more, no_tag_named}
use Rattle.empty_commits.proofs.names.tag_names.Goals as goal
use Rattle.empty_commits.proofs.names.tag_names.Goals.{in-Tag+in_ok-add, in_default}

pub loop-place-preserved : goal.loop-place-preserved
loop-place-preserved c name =
    let events = c.args.events.now.list in
    let place = c.loop-place.place in
    let e = c.nth.result.now in
    let more = named_more events place e name c.nth.ensures.event in
    elim c.match-nth.branch [
      | in-Tag+in_ok-add w ↦
          let own = ap (bytes_eq name) w.as_slice.ensures ∙ ap (is_tag_named name) (sym w.in-Tag.is) in
          ap (λ (names : List Bytes). list_any (bytes_eq name) names) w.names-is ∙ w.in_ok-add.ensures name
          ∙ (λ i. own i || c.loop-place.invariant name i) ∙ sym (rw add-one more)
      | in_default w ↦
          ap (λ (names : List Bytes). list_any (bytes_eq name) names) w.names-is ∙ c.loop-place.invariant name
          ∙ sym (rw add-one more ∙ ap (λ b. b || has_tag_named (take place events) name) (no_tag_named e name w.in_default.not-Tag))
    ]
