use Rattle.std.proofs.Common.{◌≡◌, true, ◌∙◌, ap}
use Rattle.std.specs.Prelude.{map}
use Rattle.std.proofs.lemmas.Bool.{not-true}
use Rattle.st_rules.specs.Authority.{Authority, client_of_suspect, may_ack, new_suspect, with_suspect}
use Rattle.st_rules.specs.ServerInvariants.{are_rising}
use Rattle.st_lease_server.proofs.Rising.{rising_placed}
use Rattle.st_lease_server.proofs.Starts.{starts_put}
use Rattle.st_lease_server.proofs.authority.Authority.start.Goals as goal

acknowledged : (c : goal.After-tell_clients) → may_ack (record { wait = c.self.inside.wait; suspects = c.self.inside.timers.items }) c.args.client ≡ true
acknowledged c = ap (λ (a : Authority). may_ack a c.args.client) c.self.view_is ∙ c.requires

placed : (c : goal.After-tell_clients) → c.place_timer.new.timers.items ≡ with_suspect (new_suspect c.args.client c.args.now) c.self.inside.timers.items
placed c = c.place_timer.ensures.placed ∙ ap (with_suspect (new_suspect c.args.client c.args.now)) c.reserve-2.ensures.items

pub invariant_of-self-2 : goal.invariant_of-self-2
invariant_of-self-2 c = (
  ap are_rising (placed c)
      ∙ rising_placed (new_suspect c.args.client c.args.now) c.self.inside.timers.items (not-true _ (acknowledged c)) c.self.invariant.0,
  c.tell_clients.ensures ∙ ap (map client_of_suspect) c.deref.ensures.value,
  starts_put c.self.inside.timers.items c.place_timer.new.timers.items c.self.inside.starts c.insert.new.self (new_suspect c.args.client c.args.now) c.self.invariant.2 (λ q. c.in_ok-insert.ensures.updates.0 q) (placed c),
)
