use Rattle.std.proofs.Common.{◌≡◌, ◌∙◌, ap, sym, subst}
use Rattle.std.specs.Prelude.{OnOk, option_map}
use Rattle.st_rules.specs.ClientPasses.{ask_for_or}
use Rattle.st_client_association.specs.Turns.{session_of}
use Rattle.st_client_session.specs.Sessions.{ServerSession}
use Rattle.st_client_passes.specs.Requests.{asking_at}
use Rattle.st_client_passes.proofs.FirstAsking.{same_asking}
use Rattle.st_client_passes.proofs.requests.ask_for_or.Goals as goal

pub returns-in-None : goal.returns-in-None
unfolding ask_for_or
returns-in-None c =
    let t = c.args.t.now in
    let found = same_asking t c.turn.result.now (session_of t) c.session.result.now.session c.args.now _ c.turn.ensures (ap (λ (s : ServerSession). s.session) c.session.ensures.is) c.in_ok-first_asking.ensures in
    subst (λ u. OnOk c.keep_alive.result (c.keep_alive.new.t ≡ u)) (ap (ask_for_or t (session_of t) c.args.now) (ap (option_map (asking_at t.operations)) (sym c.in-None.is) ∙ found)) c.keep_alive.ensures

pub returns-in-Some : goal.returns-in-Some
unfolding ask_for_or
returns-in-Some c =
    let t = c.args.t.now in
    let found = same_asking t c.turn.result.now (session_of t) c.session.result.now.session c.args.now _ c.turn.ensures (ap (λ (s : ServerSession). s.session) c.session.ensures.is) c.in_ok-first_asking.ensures in
    subst (λ u. OnOk c.ask_for.result (c.ask_for.new.t ≡ u)) (ap (ask_for_or t (session_of t) c.args.now) (ap (option_map (asking_at t.operations)) (sym c.in-Some.is) ∙ found)) c.ask_for.ensures
