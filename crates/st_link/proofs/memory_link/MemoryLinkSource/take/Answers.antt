use Rattle.std.proofs.Common.{refl, subst, Contains}
use Rattle.st_link.specs.InMemory.{raised}
use Rattle.st_link.proofs.memory_link.MemoryLinkSource.take.Goals as goal

-- the call fails exactly when the plan says that it must
pub returns-then-call-clause-planned : goal.returns-then-call-clause-planned
returns-then-call-clause-planned c = ((λ _. subst (λ l. Contains l.failing (raised l.calls)) c.self.view_is (c.call.ensures.fails.0 c.if-call.true)), (λ _. refl))
