use Rattle.history_machine.specs.Sessions.{with_remade}
use Rattle.load_list.specs.Entries.{made_by}
use Rattle.load_list.specs.Lists.{IsPlanFor}
use Rattle.load_list.proofs.NamedEntries.{named_set}
use Rattle.load_list.proofs.Places.{done_at, of_chosen, refused_at}
use Rattle.load_list.proofs.list.LoadList.carry_out.Goals as goal

pub carry_out-requires-clause-before : goal.carry_out-requires-clause-before
carry_out-requires-clause-before c =
    (of_chosen c.self.inside.by_name.entries c.self.inside.choice c.args.place (rw (← c.self.view_is) at c.requires.at) c.index_mut.result.now c.index_mut.ensures.value
    (λ repo. IsPlanFor repo c.args.plan) (rw (← c.self.view_is) at c.requires.fits)).before

pub carry_out-requires-clause-made_at : goal.carry_out-requires-clause-made_at
carry_out-requires-clause-made_at c =
    (of_chosen c.self.inside.by_name.entries c.self.inside.choice c.args.place (rw (← c.self.view_is) at c.requires.at) c.index_mut.result.now c.index_mut.ensures.value
    (λ repo. IsPlanFor repo c.args.plan) (rw (← c.self.view_is) at c.requires.fits)).made_at

pub carry_out-requires-clause-sound : goal.carry_out-requires-clause-sound
carry_out-requires-clause-sound c =
    (of_chosen c.self.inside.by_name.entries c.self.inside.choice c.args.place (rw (← c.self.view_is) at c.requires.at) c.index_mut.result.now c.index_mut.ensures.value
    (λ repo. IsPlanFor repo c.args.plan) (rw (← c.self.view_is) at c.requires.fits)).sound

pub invariant_of-self : goal.invariant_of-self
invariant_of-self c = named_set c.self.inside.by_name.entries c.args.place c.carry_out.new.self c.self.invariant

pub returns-clause-ok : goal.returns-clause-ok
returns-clause-ok c =
    rw (← c.self.view_is)
    (done_at c.self.inside.by_name.entries c.self.inside.choice c.args.place (rw (← c.self.view_is) at c.requires.at) c.index_mut.result.now c.index_mut.ensures.value
    c.carry_out.result c.carry_out.new.self (λ repo. with_remade repo (made_by c.args.plan)) c.carry_out.ensures.ok)

pub returns-clause-err : goal.returns-clause-err
returns-clause-err c =
    rw (← c.self.view_is)
    (refused_at c.self.inside.by_name.entries c.self.inside.choice c.args.place (rw (← c.self.view_is) at c.requires.at) c.index_mut.result.now c.index_mut.ensures.value
    c.carry_out.result c.carry_out.new.self c.carry_out.ensures.err)
