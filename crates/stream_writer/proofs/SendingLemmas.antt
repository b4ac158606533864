-- A text on its way to a sink: an event further, to its end, or broken off.
use Rattle.std.proofs.Common.{◌≡◌, ℕ, ◌+◌, ◌≤◌, List, [], ◌∷◌, ◌++◌, suc, length, take, drop, Option, Some, None, Bool, min, sym, ap, subst, ◌∙◌, arith, append_assoc, append-nil}
use Rattle.std.proofs.Math.Bool.{or_assoc}
use Rattle.std.proofs.Math.Seq.{take-append-add, take-length}
use Rattle.std.proofs.lemmas.List.{drop_all, take-append-le, take_min}
use Rattle.std.specs.Prelude.{IfSome, slice_get, ◌||◌, codes, if◌then◌else◌}
use Rattle.std.specs.List.{list_any}
use Rattle.plain_model.specs.Paths.{Bytes}
use Rattle.plain_model.specs.Trees.{TreeOf}
use Rattle.plain_model.specs.Text.{event_text, is_feature_done, line, text_from}
use Rattle.plain_model.specs.Snapshots.{refs_after}
use Rattle.plain_model.specs.declared.event.PlainEvent.{PlainEvent}
use Rattle.surgeon_store.specs.Outside.{SinkState, Puts, PutsSome}
use Rattle.stream_writer.specs.Sending.{IsOnItsWay, SendsFirst, closing, to_come}
use Rattle.event_arena.proofs.ListLemmas.{drop_item}

-- ---- what is to come

to_come_cons : (whole : List PlainEvent) (tips : TreeOf ℕ) (promised : Bool) (e : PlainEvent) (rest : List PlainEvent)
    → to_come whole tips promised (e ∷ rest) ≡ event_text whole tips e ++ to_come whole (refs_after tips (e ∷ [])) (promised || is_feature_done e) rest
to_come_cons whole tips promised e rest =
    let others = text_from whole (refs_after tips (e ∷ [])) rest in
    append_assoc (event_text whole tips e) others (closing promised (e ∷ rest))
    ∙ ap (λ (b : Bool). event_text whole tips e ++ (others ++ (if b then line (codes "done") else []))) (sym (or_assoc promised (is_feature_done e) (list_any is_feature_done rest)))

-- the next event comes first
pub comes_next : (whole : List PlainEvent) (tips : TreeOf ℕ) (promised : Bool) (place : ℕ) (e : PlainEvent) → slice_get whole place ≡ Some e
    → to_come whole tips promised (drop place whole) ≡ event_text whole tips e ++ to_come whole (refs_after tips (e ∷ [])) (promised || is_feature_done e) (drop (suc place) whole)
comes_next whole tips promised place e is =
    ap (λ (rest : List PlainEvent). to_come whole tips promised rest) (drop_item whole place e is) ∙ to_come_cons whole tips promised e (drop (suc place) whole)

-- after the last event only the end comes
pub comes_last : (whole : List PlainEvent) (tips : TreeOf ℕ) (promised : Bool) (place : ℕ) → length whole ≤ place → to_come whole tips promised (drop place whole) ≡ closing promised []
comes_last whole tips promised place le = ap (λ (rest : List PlainEvent). to_come whole tips promised rest) (drop_all place whole le)

-- ---- one text, and what was sent of it

-- a first part of what is next is a first part of all
first_of : (sent rest more : Bytes) (k : ℕ) → (n : ℕ) × (sent ++ take k rest ≡ take n (sent ++ (rest ++ more)))
first_of sent rest more k = (
  length sent + min k (length rest),
  sym (take-append-add sent (rest ++ more) (min k (length rest)) ∙ ap (λ (l : Bytes). sent ++ l) (take-append-le (min k (length rest)) rest more (omega arith) ∙ take_min k rest)),
)

abbrev Way : Option Bytes → Bytes → Option Bytes → Bytes → Bytes → Type 0
Way old text now gathered coming = IfSome old (λ before. (sent : Bytes) × (now ≡ Some (before ++ sent)) × (text ≡ sent ++ (gathered ++ coming)))

module _ (text gathered next coming : Bytes) where
  further : (old now new : Option Bytes) (left sent : Bytes) → Way old text now gathered (next ++ coming)
      → gathered ++ next ≡ sent ++ left → IfSome now (λ w. new ≡ Some (w ++ sent)) → Way old text new left coming
  further None now new left sent way is put = tt
  further (Some before) now new left sent way is put =
      let more : new ≡ Some ((before ++ way.0) ++ sent) = subst (λ (o : Option Bytes). IfSome o (λ w. new ≡ Some (w ++ sent))) way.1 put in (
        way.0 ++ sent,
        more ∙ ap (λ (l : Bytes). Some l) (append_assoc before way.0 sent),
        way.2
            ∙ ap (λ (l : Bytes). way.0 ++ l) (sym (append_assoc gathered next coming) ∙ ap (λ (l : Bytes). l ++ coming) is ∙ append_assoc sent left coming)
            ∙ sym (append_assoc way.0 sent (left ++ coming)),
      )

  broken : (old now new : Option Bytes) → Way old text now gathered (next ++ coming)
      → IfSome now (λ w. (k : ℕ) × (new ≡ Some (w ++ take k (gathered ++ next)))) → IfSome old (λ w. (k : ℕ) × (new ≡ Some (w ++ take k text)))
  broken None now new way put = tt
  broken (Some before) now new way put =
      let part : (k : ℕ) × (new ≡ Some ((before ++ way.0) ++ take k (gathered ++ next))) = subst (λ (o : Option Bytes). IfSome o (λ w. (k : ℕ) × (new ≡ Some (w ++ take k (gathered ++ next))))) way.1 put in
      let first = first_of way.0 (gathered ++ next) coming part.0 in
      let whole : text ≡ way.0 ++ ((gathered ++ next) ++ coming) = way.2 ∙ ap (λ (l : Bytes). way.0 ++ l) (sym (append_assoc gathered next coming)) in (
        first.0,
        part.1
            ∙ ap (λ (l : Bytes). Some l) (append_assoc before way.0 (take part.0 (gathered ++ next))
            ∙ ap (λ (l : Bytes). before ++ l) (first.1 ∙ ap (λ (l : Bytes). take first.0 l) (sym whole))),
      )

module _ (old now new : SinkState) (text gathered next coming : Bytes) (way : IsOnItsWay old text now gathered (next ++ coming)) where
  pub goes_on : (left : Bytes) → SendsFirst now (gathered ++ next) new left → IsOnItsWay old text new left coming
  goes_on left sends = further text gathered next coming old.written now.written new.written left sends.0 way sends.1 sends.2

  pub breaks_off : PutsSome now (gathered ++ next) new → PutsSome old text new
  breaks_off part = broken text gathered next coming old.written now.written new.written way part

pub ends_broken : (old now new : SinkState) (text gathered coming : Bytes) → IsOnItsWay old text now gathered coming → PutsSome now (gathered ++ coming) new → PutsSome old text new
ends_broken old now new text gathered coming way part =
    breaks_off old now new text gathered coming [] (subst (λ (l : Bytes). IsOnItsWay old text now gathered l) (sym (append-nil coming)) way) part

-- ---- bytes that are sent one after another

module _ (old mid new : SinkState) (first second : Bytes) (put : Puts old first mid) where
  pub puts_both : Puts mid second new → Puts old (first ++ second) new
  puts_both last = at old.written put
    where
      at : (o : Option Bytes) → IfSome o (λ w. mid.written ≡ Some (w ++ first)) → IfSome o (λ w. new.written ≡ Some (w ++ (first ++ second)))
      at None put = tt
      at (Some before) put =
          let more : new.written ≡ Some ((before ++ first) ++ second) = subst (λ (o : Option Bytes). IfSome o (λ w. new.written ≡ Some (w ++ second))) put last in
          more ∙ ap (λ (l : Bytes). Some l) (append_assoc before first second)

  pub puts_one_and_part : (more : Bytes) → PutsSome mid second new → PutsSome old ((first ++ second) ++ more) new
  puts_one_and_part more last = at old.written put
    where
      at : (o : Option Bytes) → IfSome o (λ w. mid.written ≡ Some (w ++ first)) → IfSome o (λ w. (n : ℕ) × (new.written ≡ Some (w ++ take n ((first ++ second) ++ more))))
      at None put = tt
      at (Some before) put =
          let part : (n : ℕ) × (new.written ≡ Some ((before ++ first) ++ take n second)) = subst (λ (o : Option Bytes). IfSome o (λ w. (n : ℕ) × (new.written ≡ Some (w ++ take n second)))) put last in
          let all = first_of first second more part.0 in
          (all.0, part.1 ∙ ap (λ (l : Bytes). Some l) (append_assoc before first (take part.0 second) ∙ ap (λ (l : Bytes). before ++ l) (all.1 ∙ ap (λ (l : Bytes). take all.0 l) (sym (append_assoc first second more)))))

pub puts_front : (old new : SinkState) (first more : Bytes) → PutsSome old first new → PutsSome old (first ++ more) new
puts_front old new first more part = at old.written part
  where
    at : (o : Option Bytes) → IfSome o (λ w. (n : ℕ) × (new.written ≡ Some (w ++ take n first))) → IfSome o (λ w. (n : ℕ) × (new.written ≡ Some (w ++ take n (first ++ more))))
    at None part = tt
    at (Some before) part =
        let all = first_of [] first more part.0 in
        (all.0, part.1 ∙ ap (λ (l : Bytes). Some (before ++ l)) all.1)

pub puts_whole : (old new : SinkState) (bytes : Bytes) → Puts old bytes new → PutsSome old bytes new
puts_whole old new bytes put = at old.written put
  where
    at : (o : Option Bytes) → IfSome o (λ w. new.written ≡ Some (w ++ bytes)) → IfSome o (λ w. (n : ℕ) × (new.written ≡ Some (w ++ take n bytes)))
    at None put = tt
    at (Some before) put = (length bytes, put ∙ ap (λ (l : Bytes). Some (before ++ l)) (sym (take-length bytes)))
