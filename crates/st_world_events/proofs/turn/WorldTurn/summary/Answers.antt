use Rattle.st_rules.specs.Events.{summary}
use Rattle.st_world_events.proofs.turn.WorldTurn.summary.Goals as goal

pub returns : goal.returns
unfolding summary
returns c = rw (← c.self.view_is) (λ i. record {
  events = c.self.inside.events;
  sent = c.count.ensures.count i;
  commands = c.count-2.ensures.count i;
  writes = c.count_of.ensures i;
  reads = c.self.inside.reads;
  hard = c.count_of-2.ensures i;
  gone = c.count_of-3.ensures i;
  stolen = c.self.inside.stolen;
})
