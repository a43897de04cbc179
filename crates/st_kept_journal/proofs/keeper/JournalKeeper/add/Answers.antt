use Rattle.std.proofs.Common.{◌≡◌, ◌≤◌, ◌+◌, ℕ, length, ap, arith, rules, length-append, subst, sym, true, ⊎_elim}
use Rattle.std.proofs.lemmas.Bool.{cases_lt}
use Rattle.st_journal_bytes.proofs.Scans.{length-part}
use Rattle.st_kept_journal.specs.Keeping as keeping
use Rattle.st_kept_journal.specs.Keeping.{IsFullFor, Keeping}
use Rattle.st_kept_journal.proofs.keeper.JournalKeeper.add.Goals as goal

-- there is room for a record of this length
roomy : (k : Keeping) (len : ℕ) → (IsFullFor k len → ⊥) → keeping.next_gate k.gate k.task + length k.waiting + len + 14 ≤ k.area + keeping.covered k.task
roomy k len fits =
    ⊎_elim (λ full. absurd (fits full)) (λ room. room)
    (cases_lt (k.area + keeping.covered k.task) (keeping.next_gate k.gate k.task + length k.waiting + len + 14))

pub invariant_of-self : goal.invariant_of-self
invariant_of-self c =
    let more : length c.extend_from_slice.new.self.items ≡ length c.self.inside.waiting.items + length c.args.record_bytes.now + 13 =
    omega (arith, ap length c.in-Ok-extend_from_slice.ensures.items, length-append c.self.inside.waiting.items c.as_slice.result.now, ap length c.as_slice.ensures.value, ap length c.in-Ok.ensures, length-part c.args.record_bytes.now) in
    let is : c.has_room.result ≡ true = search rules in
    let room =
    roomy (record { area = c.self.inside.area; second = c.self.inside.second; gate = c.self.inside.gate; waiting = c.self.inside.waiting.items; task = c.self.inside.task }) (length c.args.record_bytes.now)
    (subst (λ (k : Keeping). IsFullFor k (length c.args.record_bytes.now) → ⊥) (sym c.self.view_is) (c.has_room.ensures.yes is)) in
    record { within = omega arith; first = omega arith; room = omega (arith, more, room); few = omega arith; small = omega arith }
