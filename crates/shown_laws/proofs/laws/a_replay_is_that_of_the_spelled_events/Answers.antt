use Rattle.shown_laws.proofs.laws.a_replay_is_that_of_the_spelled_events.Goals as goal

pub returns : goal.returns
returns c = λ bytes raws events spelled is.
    c.replay_shows_the_history.ensures bytes events ((c.a_history_is_that_of_the_spelled_events.ensures.exactly bytes events).1 (raws, spelled, is))
