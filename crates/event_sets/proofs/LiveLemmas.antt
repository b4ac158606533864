-- What is made of events of a history are events of it.
use Rattle.std.proofs.Common.{◌≡◌, ℕ, zero, suc, ◌+◌, ◌-◌, Bool, true, false, List, [], ◌∷◌, Option, Some, None, refl, subst, map}
use Rattle.std.specs.Prelude.{◌==◌, option_map, option_to_list, slice_get, if◌then◌else◌}
use Rattle.plain_model.specs.Lookups.{find_mark, id_of}
use Rattle.plain_model.specs.declared.id.AnyId.{AnyId}
use Rattle.plain_model.specs.declared.event.PlainEvent.{PlainEvent}
use Rattle.selection_parser.specs.declared.function.Function.{Function}
use Rattle.selection_parser.specs.declared.function.Function.TheVariants.{Min, Max, Amp, Par, Chn, Dsc, Anc, Pre, Suc, Srt}
use Rattle.event_sets.specs.Once.{AreLive}
use Rattle.event_sets.specs.Sets.{Ids, called, greatest, least, near_times, numbered, passing, unless_empty}
use Rattle.event_sets.proofs.BitLemmas.{live_more, live_own, picks_live, picks_passing}
use Rattle.event_sets.proofs.SetLemmas.{mark_there, passing_all, some_live}

pub live_passing : (test : PlainEvent → Bool) (es : List PlainEvent) → AreLive es (passing test es)
live_passing test es = subst (AreLive es) (picks_passing test es) (picks_live (map test es) es)

live_get : (es : List PlainEvent) (k : ℕ) → AreLive es (option_to_list (option_map id_of (slice_get es k)))
live_get [] k = tt
live_get (e ∷ es) zero = (live_own e es, tt)
live_get (e ∷ es) (suc k) = live_more e es (option_to_list (option_map id_of (slice_get es k))) (live_get es k)

pub live_numbered : (es : List PlainEvent) (n : ℕ) → AreLive es (numbered es n)
live_numbered es n = by (n == 0)
  where
    by : (b : Bool) → AreLive es (option_to_list (if b then None else option_map id_of (slice_get es (n - 1))))
    by true = tt
    by false = live_get es (n - 1)

pub live_marked : (es : List PlainEvent) (mark : ℕ) → AreLive es (option_to_list (find_mark mark es))
live_marked es mark = by (find_mark mark es) refl
  where
    by : (o : Option AnyId) → find_mark mark es ≡ o → AreLive es (option_to_list o)
    by None is = tt
    by (Some id) is = some_live es id (mark_there es mark id is)

live_unless : (es : List PlainEvent) (ids more : Ids) → AreLive es more → AreLive es (unless_empty ids more)
live_unless es [] more h = tt
live_unless es (id ∷ ids) more h = h

pub live_called : (es : List PlainEvent) (function : Function) (ids : Ids) → AreLive es (called es function ids)
unfolding called
live_called es Min ids = live_unless es ids (numbered es (least es ids)) (live_numbered es (least es ids))
live_called es Max ids = live_unless es ids (numbered es (greatest es ids)) (live_numbered es (greatest es ids))
live_called es Amp ids =
    live_unless es ids (map id_of es) (subst (AreLive es) (passing_all es) (live_passing (λ e. true) es))
live_called es Par ids = live_passing _ es
live_called es Chn ids = live_passing _ es
live_called es Dsc ids = live_passing _ es
live_called es Anc ids = live_passing _ es
live_called es Pre ids = live_unless es ids (numbered es (least es ids - 1)) (live_numbered es (least es ids - 1))
live_called es Suc ids = live_unless es ids (numbered es (greatest es ids + 1)) (live_numbered es (greatest es ids + 1))
live_called es Srt ids = live_passing _ es

pub live_near : (es : List PlainEvent) (n : ℕ) (ids : Ids) → AreLive es ids → AreLive es (near_times es n ids)
live_near es zero ids h = h
live_near es (suc n) ids h = live_passing _ es
