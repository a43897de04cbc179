use Rattle.std.proofs.Common.{arith, subst, ◌+◌, take, drop, Option}
use Rattle.std.specs.Prelude.{IfNone, IfSome}
use Rattle.st_journal.specs.Changes.{Spells}
use Rattle.st_journal.specs.declared.change.Change.{Change}
use Rattle.st_journal.proofs.Reached.{framed_in, unframed_in}
use Rattle.st_journal.proofs.ScannedBytes.{unframed_short, unframed_long, unframed_room}
use Rattle.st_journal.proofs.scan.framed_at.Goals as goal
use Rattle.st_journal.proofs.scan.framed_at.Goals.{then-count-gt521-via-then-count-gt521, then-count-gt521-via-else-count-gt521+then-left-count}

pub returns-then-left-lt4-clause-none : goal.returns-then-left-lt4-clause-none
returns-then-left-lt4-clause-none g c = unframed_short (g.D.Store.seen c.args.store.now) c.args.at (omega (arith, c.size.ensures, c.if-left-lt4.true, c.requires.within)) c.requires.within

pub returns-then-count-gt521-clause-none : goal.returns-then-count-gt521-clause-none
returns-then-count-gt521-clause-none g c = elim c.then-count-gt521.branch [
  | then-count-gt521-via-then-count-gt521 w ↦ unframed_long (g.D.Store.seen c.args.store.now) c.args.at c.in-Ok.count c.in-Ok.ensures.number c.in-Ok.ensures.small w.if-count-gt521.true
  | then-count-gt521-via-else-count-gt521+then-left-count w ↦
      unframed_room (g.D.Store.seen c.args.store.now) c.args.at c.in-Ok.count c.in-Ok.ensures.number c.in-Ok.ensures.small (omega (arith, c.size.ensures, w.if-left-count.true, c.requires.within)) c.requires.within
]

pub returns-in-None-clause-none : goal.returns-in-None-clause-none
returns-in-None-clause-none g c =
    unframed_in (g.D.Store.seen c.args.store.now) (g.D.Store.seen c.length_at.new.store) c.in-Ok.ensures.seen c.args.at c.in-Ok.count c.in-Ok.ensures.number c.in-Ok.ensures.small
    (subst (λ (o : Option Change). IfNone o ((x : Change) → Spells (take c.in-Ok.count (drop (c.args.at + 4) (g.D.Store.seen c.length_at.new.store))) x → ⊥)) c.in-None.is c.in_ok-change_at.ensures.none)

pub returns-in-Some-clause-some : goal.returns-in-Some-clause-some
returns-in-Some-clause-some g c =
    framed_in (g.D.Store.seen c.args.store.now) (g.D.Store.seen c.length_at.new.store) c.in-Ok.ensures.seen c.args.at c.in-Ok.count c.in-Ok.ensures.number c.in-Ok.ensures.small c.in-Some.change
    (omega (arith, c.size.ensures, c.if-left-count.false, c.requires.within)) (subst (λ (o : Option Change). IfSome o (λ x. Spells (take c.in-Ok.count (drop (c.args.at + 4) (g.D.Store.seen c.length_at.new.store))) x)) c.in-Some.is c.in_ok-change_at.ensures.some)
