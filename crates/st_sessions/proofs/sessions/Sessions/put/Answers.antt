use Rattle.std.proofs.Common.{◌≡◌, true, List, Ok, Err, Result, OnOk, OnErr, ◌∙◌, ap}
use Rattle.st_rules.specs.declared.sessions.Session.{Session}
use Rattle.st_rules.specs.Keys.{put}
use Rattle.st_rules.specs.Sessions.{is_session_of}
use Rattle.st_rules.specs.ServerInvariants.{are_once, same_session}
use Rattle.st_sessions.proofs.Once.{once_put}
use Rattle.st_sessions.proofs.sessions.Sessions.put.Goals as goal

-- the session was put, or nothing changed
stays_once : {E : Type 0} (r : Result Unit E) (s : Session) (old new : List Session) → are_once same_session old ≡ true →
    OnOk r (new ≡ put (is_session_of s.client) s old) → OnErr r (new ≡ old) → are_once same_session new ≡ true
stays_once (Ok u) s old new h p q = ap (are_once same_session) p ∙ once_put (λ t. t.client.0) s old h
stays_once (Err e) s old new h p q = ap (are_once same_session) q ∙ h

pub invariant_of-self : goal.invariant_of-self
invariant_of-self c =
    stays_once c.put.result c.args.session c.self.inside.rows c.put.new.self
    c.self.invariant c.put.ensures.ok c.put.ensures.err
