use Rattle.std.proofs.Common.{◌≡◌, List, Some, set, sym, ◌∙◌, ap}
use Rattle.std.specs.Prelude.{map, slice_get}
use Rattle.st_messages.specs.declared.message.Body.{Body}
use Rattle.st_rules.specs.declared.sessions.Session.{Session}
use Rattle.st_rules.specs.declared.sessions.SessionState.{SessionState}
use Rattle.st_rules.specs.ServerInvariants.{are_once, same_session}
use Rattle.st_rules.specs.Sessions.{store, is_live, keep_of, keep_reply, kept_state}
use Rattle.st_sessions.proofs.ChangedSessions.{keeps, keeps_nothing, keep_once}
use Rattle.st_sessions.proofs.sessions.Sessions.store.Goals as goal

pub returns-in_default-clause-ok : goal.returns-in_default-clause-ok
unfolding store
returns-in_default-clause-ok c =
    rw (← c.self.view_is)
    (sym (ap (λ (rows : List Session). record { epoch = c.self.inside.epoch; rows = rows })
    (keeps_nothing c.args.client c.args.number c.args.reply.now c.self.inside.rows
    (sym c.in_default.is ∙ c.place.ensures))))

-- the session at the index keeps the reply
kept_there : (c : goal.After-set_state) (s : Session) → slice_get c.self.inside.rows c.in-Some.place ≡ Some s →
    c.set_state.new.self ≡ set c.self.inside.rows c.in-Some.place (keep_reply c.args.number c.args.reply.now s)
unfolding keep_reply
kept_there c s e =
    let there : Some c.at.result.now ≡ Some s = sym c.at.ensures ∙ e in
    let found : c.at.result.now ≡ s = cc in
    c.set_state.ensures s e
    ∙ ap (λ (t : SessionState). set c.self.inside.rows c.in-Some.place (record s { state = t }))
    (c.kept_state.ensures s.state (ap is_live (sym found) ∙ sym c.is_live-live.ensures))
    ∙ ap (λ (b : Body). set c.self.inside.rows c.in-Some.place (record s { state = kept_state c.args.number b s.state })) c.in_ok-reply.ensures

keeps_here : (c : goal.After-set_state) → c.set_state.new.self ≡ map (keep_of c.args.client c.args.number c.args.reply.now) c.self.inside.rows
keeps_here c =
    keeps c.args.client c.args.number c.args.reply.now c.self.inside.rows c.set_state.new.self c.in-Some.place c.self.invariant
    (sym c.in-Some.is ∙ c.place.ensures) (kept_there c)

pub invariant_of-self : goal.invariant_of-self
invariant_of-self c =
    ap (are_once same_session) (keeps_here c) ∙ keep_once c.args.client c.args.number c.args.reply.now c.self.inside.rows ∙ c.self.invariant

pub returns-clause-ok : goal.returns-clause-ok
unfolding store
returns-clause-ok c =
    rw (← c.self.view_is) (ap (λ (rows : List Session). record { epoch = c.self.inside.epoch; rows = rows }) (keeps_here c))
