use Rattle.std.proofs.Common.{◌≡◌, Bool, true, false, not, ◌∙◌, ap, sym, filter, [], true≢false}
use Rattle.std.specs.Bool.{OnTrue}
use Rattle.std.specs.Prelude.{map}
use Rattle.st_rules.specs.Authority.{client_of_suspect, is_over, over, still_running}
use Rattle.st_rules.specs.ServerInvariants.{are_rising}
use Rattle.st_lease_server.proofs.Rising.{rising_filter}
use Rattle.st_lease_server.proofs.Starts.{none_over, starts_left}
use Rattle.st_lease_server.proofs.authority.Authority.over.Goals as goal

pub invariant_of-self : goal.invariant_of-self
invariant_of-self c = (
  ap are_rising c.drop_over.ensures.left ∙ rising_filter (λ s. not (is_over c.self.inside.wait c.args.now s)) c.self.inside.timers.items c.self.invariant.0,
  c.tell_clients.ensures ∙ ap (map client_of_suspect) c.deref-2.ensures.value,
  starts_left c.self.inside.wait c.args.now c.self.inside.timers.items c.drop_over.new.timers.items c.self.inside.starts c.drop_past.new.starts c.self.invariant.2 c.drop_past.ensures c.drop_over.ensures.left,
)

on_true : (b : Bool) (P : Type 0) → OnTrue b P → b ≡ true → P
on_true true P h e = h
on_true false P h e = absurd (true≢false (sym e))

none : (c : goal.After-new-nobody) → (filter (is_over c.args.self.now.wait c.args.now) c.args.self.now.suspects ≡ []) × (filter (λ s. not (is_over c.args.self.now.wait c.args.now s)) c.args.self.now.suspects ≡ c.args.self.now.suspects)
none c = none_over (is_over c.args.self.now.wait c.args.now) c.args.self.now.suspects (on_true c.none_over.result _ c.none_over.ensures c.if-none_over.true)

pub returns-then-none_over-clause-told : goal.returns-then-none_over-clause-told
unfolding over
returns-then-none_over-clause-told c = c.new-nobody.ensures.items ∙ sym (ap (map client_of_suspect) (none c).0)

pub returns-then-none_over-clause-left : goal.returns-then-none_over-clause-left
unfolding still_running
returns-then-none_over-clause-left c = sym (λ i. record { wait = c.args.self.now.wait; suspects = (none c).1 i })
