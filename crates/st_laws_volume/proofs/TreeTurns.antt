-- How a step of a server comes to serve a request for a name, and what it does otherwise.
use Rattle.std.proofs.Common.{◌≡◌, ◌⊎◌, inl, inr, arith, ℕ, zero, suc, Bool, true, false, not, ◌&&◌, ◌==◌, List, [], ◌∷◌, ◌++◌, Option, Some, None, Ok, Err, refl, sym, ap, ◌∙◌, subst, if◌then◌else◌}
use Rattle.std.specs.Prelude.{bytes_eq, cond, is_some, Result}
use Rattle.std.proofs.lemmas.Bool.{eqb-true, ne_eqb}
use Rattle.std.proofs.lemmas.Slice.Eq.{bytes_eq-Decides}
use Rattle.st_base.specs.declared.ids.GrantNo.{GrantNo}
use Rattle.st_base.specs.declared.ids.ClientId.{ClientId}
use Rattle.st_base.specs.declared.ids.Life.{Life}
use Rattle.st_base.specs.declared.ids.PageNo.{PageNo}
use Rattle.st_base.specs.declared.ids.Stamp.{Stamp}
use Rattle.st_base.specs.declared.mode.Mode.{Mode}
use Rattle.st_base.specs.declared.mode.Mode.TheVariants as modes
use Rattle.st_base.specs.declared.names.NameAsk.{NameAsk}
use Rattle.st_base.specs.declared.names.NameAsk.TheVariants as asked
use Rattle.st_base.specs.declared.names.NameRow.{NameRow}
use Rattle.st_messages.specs.declared.answer.AppAnswer.{AppAnswer}
use Rattle.st_messages.specs.declared.answer.AppAnswer.TheVariants as answers
use Rattle.st_messages.specs.declared.message.Body.{Body}
use Rattle.st_messages.specs.declared.message.Body.TheVariants as bodies
use Rattle.st_messages.specs.declared.message.Header.{Header}
use Rattle.st_messages.specs.declared.message.Message.{Message}
use Rattle.st_messages.specs.declared.message.NameOp.{NameOp}
use Rattle.st_messages.specs.declared.message.NameOp.TheVariants as ops
use Rattle.st_messages.specs.declared.message.NameReply.{NameReply}
use Rattle.st_rules.specs.declared.input.ServerInput.TheVariants.{Control}
use Rattle.st_rules.specs.declared.names.EntryRefusal.{EntryRefusal}
use Rattle.st_rules.specs.declared.names.EntryRefusal.TheVariants as refusals
use Rattle.st_rules.specs.declared.sessions.Session.{Session}
use Rattle.st_rules.specs.declared.sessions.Taken.{Taken}
use Rattle.st_rules.specs.declared.sessions.Taken.TheVariants as takes
use Rattle.st_rules.specs.Authority as authority
use Rattle.st_rules.specs.ClientPasses.{name_op}
use Rattle.st_rules.specs.ClientReplies.{name_answer}
use Rattle.st_rules.specs.Names as names
use Rattle.st_rules.specs.Names.{Names}
use Rattle.st_rules.specs.Server as sv
use Rattle.st_rules.specs.Server.{Replied, ServerState, ServerTurn, Stable}
use Rattle.st_rules.specs.Sessions as sessions
use Rattle.st_lemmas.proofs.Lookups.{if_false, if_true}
use Rattle.st_lemmas.proofs.Tables.{and_true, not_true}
use Rattle.st_laws_volume.specs.TreeNames.{IsSound, as_changed, as_found, as_listed, tree_of}
use Rattle.st_laws_volume.specs.Witness.{is_done_as, is_fresh, is_in_turn, is_name_for, same_text, serves}
use Rattle.st_laws_volume.proofs.TreeAnswers.{does_the_same}
use Rattle.st_laws_volume.proofs.TreeSound.{stay_sound}
use Rattle.st_volume.specs.Trees.{Made, Tree, does}

-- What a step of a server does with a message.
stolen_stable : (cs : List ClientId) (t : ServerTurn) → (sv.steal_each cs t).state.stable ≡ t.state.stable
unfolding sv.steal_each sv.steal sv.steal_at sv.steal_from
stolen_stable [] t = refl
stolen_stable (c ∷ cs) t = stolen_stable cs (sv.steal_at t c (sessions.session_of t.state.sessions c)) ∙ one (sessions.session_of t.state.sessions c)
  where
    one : (o : Option Session) → (sv.steal_at t c o).state.stable ≡ t.state.stable
    one None = refl
    one (Some y) = refl

pub thefts_stable : (x : ServerState) (now : Stamp) → (sv.thefts (sv.turn x []) now).state.stable ≡ x.stable
unfolding sv.thefts
thefts_stable x now =
    stolen_stable (authority.over x.authority now) (sv.with_authority (authority.still_running x.authority now) (sv.turn x []))

pub granted_state : (xs : List (ClientId × Life × ℕ × GrantNo × Mode)) (t : ServerTurn) → (sv.tell_granted xs t).state ≡ t.state
unfolding sv.tell_granted sv.tell
granted_state [] t = refl
granted_state (x ∷ xs) t = granted_state xs (sv.tell t x.0 x.1 (bodies.Granted x.2 x.3 x.4))

pub demanded_state : (xs : List (ClientId × Life × ℕ × GrantNo × Mode)) (t : ServerTurn) → (sv.tell_demanded xs t).state ≡ t.state
unfolding sv.tell_demanded sv.tell
demanded_state [] t = refl
demanded_state (x ∷ xs) t = demanded_state xs (sv.tell t x.0 x.1 (bodies.Demand x.2 x.3 x.4))

pub control_stable : (x : ServerState) (now : Stamp) (m : Message) →
    (sv.server_step x now (Control m)).state.stable ≡ (sv.receive (sv.thefts (sv.turn x []) now) now m.header m.body).state.stable
unfolding sv.server_step sv.take_input sv.suspecting_on sv.demanding sv.demand_by sv.granting sv.grant_waiting sv.grant_by
control_stable x now m =
    ap (λ (y : ServerState). y.stable) (demanded_state _ _) ∙ granting (sv.receive (sv.thefts (sv.turn x []) now) now m.header m.body)
  where
    granting : (u : ServerTurn) → (sv.granting u now).state.stable ≡ u.state.stable
    granting u = go (sv.in_grace u now)
      where
        go : (b : Bool) → (if b then u else sv.grant_waiting u).state.stable ≡ u.state.stable
        go true = refl
        go false = ap (λ (y : ServerState). y.stable) (granted_state _ _)

-- a request for a name that is served, and one that isn't
pub fresh_is : (k : Taken Body) → is_fresh k ≡ true → k ≡ takes.Fresh
fresh_is takes.Fresh q = refl
fresh_is takes.OtherEpoch q = cc
fresh_is takes.NoSession q = cc
fresh_is takes.Stale q = cc
fresh_is (takes.Again r) q = cc
fresh_is takes.OutOfOrder q = cc

pub free_is : (o : Option Stamp) → not (is_some o) ≡ true → o ≡ None
free_is None q = refl
free_is (Some x) q = cc

served_names : (h : Header) (r : Replied) → (sv.serve h r).state.stable ≡ r.turn.state.stable
unfolding sv.serve sv.keep sv.keep_and_reply sv.reply
served_names h r = go r.reply
  where
    go : (o : Option Body) → (sv.keep h r.turn o).state.stable ≡ r.turn.state.stable
    go None = refl
    go (Some b) = refl

pub serves_name : (t : ServerTurn) (now : Stamp) (h : Header) (op : NameOp) → serves t h ≡ true →
    (sv.receive t now h (bodies.Name op)).state.stable ≡ (sv.name t h op).turn.state.stable
unfolding sv.receive sv.receive_from sv.by_suspicion sv.by_body sv.of_epoch sv.request sv.request_by sv.rule
serves_name t now h op q =
    let a = and_true (sv.is_for t.state h && not (is_some (authority.started t.state.authority (sv.sender h)))) (is_in_turn t h) q in
    let b = and_true (sv.is_for t.state h) (not (is_some (authority.started t.state.authority (sv.sender h)))) a.0 in
    let c = and_true (h.epoch == t.state.stable.epoch.0) (is_fresh (sv.take t h)) a.1 in
    ap (λ x. (cond x (sv.receive_from t now h (bodies.Name op)) t).state.stable) b.0
    ∙ (ap (λ o. (sv.by_suspicion t now h (bodies.Name op) o).state.stable) (free_is (authority.started t.state.authority (sv.sender h)) b.1)
    ∙ (ap (λ x. (cond x (sv.request t now h (bodies.Name op)) (sv.refuse_epoch t h)).state.stable) c.0
    ∙ (ap (λ k. (sv.request_by t now h (bodies.Name op) k).state.stable) (fresh_is (sv.take t h) c.1)
    ∙ served_names h (sv.name t h op))))

pub serves_none : (t : ServerTurn) (now : Stamp) (h : Header) (op : NameOp) → serves t h ≡ false →
    (sv.receive t now h (bodies.Name op)).state.stable ≡ t.state.stable
unfolding sv.receive sv.receive_from sv.by_suspicion sv.by_body sv.of_epoch sv.request sv.request_by sv.rule sv.refuse_suspect sv.refuse_epoch sv.reply
serves_none t now h op q = heard (sv.is_for t.state h) (authority.started t.state.authority (sv.sender h)) q
  where
    taken : (k : Taken Body) → is_fresh k ≡ false → (sv.request_by t now h (bodies.Name op) k).state.stable ≡ t.state.stable
    taken takes.Fresh q = cc
    taken takes.OtherEpoch q = refl
    taken takes.NoSession q = refl
    taken takes.Stale q = refl
    taken (takes.Again r) q = refl
    taken takes.OutOfOrder q = refl

    of_epoch : (e : Bool) → (e && is_fresh (sv.take t h)) ≡ false →
        (cond e (sv.request_by t now h (bodies.Name op) (sv.take t h)) (sv.refuse_epoch t h)).state.stable ≡ t.state.stable
    of_epoch false q = refl
    of_epoch true q = taken (sv.take t h) q

    heard : (b : Bool) (o : Option Stamp) → ((b && not (is_some o)) && is_in_turn t h) ≡ false →
        (cond b (sv.by_suspicion t now h (bodies.Name op) o) t).state.stable ≡ t.state.stable
    heard false o q = refl
    heard true (Some start) q = refl
    heard true None q = of_epoch (h.epoch == t.state.stable.epoch.0) q
