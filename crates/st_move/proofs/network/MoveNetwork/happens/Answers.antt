use Rattle.st_lemmas.proofs.Words
use Words.{◌≡◌, ◌<◌, ◌+◌, ◌^◌, ap, sym, subst}
use Rattle.st_move.specs.Network.{MoveNetwork, turned}
use Rattle.st_move.specs.World.{happens}
use Rattle.st_move.proofs.Networks.{are_kept, can_happen, reached_next}
use Rattle.st_move.proofs.network.MoveNetwork.happens.Goals as goal

pub happens-requires : goal.happens-requires
happens-requires c =
    let l : c.self.inside.events < 2 ^ 31 = subst (λ (r : MoveNetwork). r.events < 2 ^ 31) (sym c.self.view_is) c.requires in
    can_happen (record { world = c.self.inside.parts; events = c.self.inside.events }) (c.self.invariant c.if-self.false) l

pub invariant_of-self : goal.invariant_of-self
invariant_of-self c =
    λ e. reached_next (record { world = c.self.inside.parts; events = c.self.inside.events }) c.args.event.now c.happens.new.self c.in-Ok.answers.items (c.self.invariant e) c.in-Ok.ensures

pub returns-in-Ok-clause-exact : goal.returns-in-Ok-clause-exact
returns-in-Ok-clause-exact c = subst (λ (r : MoveNetwork). happens r.world c.args.event.now ≡ turned c.happens.new.self c.in-Ok.answers.items) c.self.view_is c.in-Ok.ensures

pub returns-in-Ok-clause-events : goal.returns-in-Ok-clause-events
returns-in-Ok-clause-events c = ap (λ (r : MoveNetwork). r.events + 1) c.self.view_is

pub returns-in-Ok-clause-reached : goal.returns-in-Ok-clause-reached
returns-in-Ok-clause-reached c =
    reached_next (record { world = c.self.inside.parts; events = c.self.inside.events }) c.args.event.now c.happens.new.self c.in-Ok.answers.items (c.self.invariant c.if-self.false) c.in-Ok.ensures

pub returns-in-Ok-clause-kept : goal.returns-in-Ok-clause-kept
returns-in-Ok-clause-kept c = are_kept (record { world = c.happens.new.self; events = c.self.inside.events + 1 })
