-- A step of a client in the world: moves of its association with each server, and nothing for other clients.
use Rattle.st_lemmas.proofs.Words
use Words.{◌≡◌, Bool, true, false, List, [], ◌∷◌, ◌++◌, ◌==◌, Option, Some, None, refl, sym, ap, ◌∙◌, subst, if◌then◌else◌, append_assoc, ClientId, ServerId}
use Words.{Stamp, Output, Phase, ClientInput, Note, append-nil}
use Words.nodes
use Words.outputs
use Words.phases
use Words.inputs
use Words.ClientState as st
use Words.ClientState.{ClientState, ClientTurn, Turn, Association, at_these, at_each, with_associations}
use Words.ClientReplies as cr
use Words.ClientPasses as cp
use Words.Client as cl
use Words.World as world
use Words.World.{World, WorldClient, site_of, numbered, clock_of, all_servers}
use Words.Events as ev
use Words.Events.{WorldTurn}
use Words.Numbers.{numbered_other}
use Words.notes
use Rattle.st_laws_refine.specs.Client.Invariants.{Said}
use Rattle.st_laws_refine.specs.Client.Law.{ClientResult, ClientStep, Comes}
use Rattle.st_laws_refine.specs.Client.World.{lost_life, lost_lives, stepped, site_left, WorldLeft, OwnAssociationsMove, OtherAssociationsStay}
use Rattle.st_laws_refine.proofs.Client.Steps.{step_moves}
use Rattle.st_laws_refine.proofs.Client.World.{told_all}

-- what flush steps leave
record Flushed (w v : World) : Type 0 where
  pub clients : v.clients ≡ w.clients
  pub servers : v.servers ≡ w.servers
  pub clocks : v.clocks ≡ w.clocks
  pub config : v.config ≡ w.config
  pub net : v.net ≡ w.net
  pub ended : v.ended ≡ w.ended

flushes_leave : (c : ClientId) (s : ClientState) (ss : List ServerId) (w : World) → Flushed w (ev.flushes c s ss w)
unfolding ev.flushes
flushes_leave c s [] w = record { clients = refl; servers = refl; clocks = refl; config = refl; net = refl; ended = refl }
flushes_leave c s (x ∷ ss) w =
    let p = flushes_leave c s ss (ev.flushed_at w c x s) in
    let q = in_phase (cl.lease_end_with s x) (cl.phase_with s x (clock_of w (nodes.Client c))) in
    record { clients = p.clients ∙ q.clients; servers = p.servers ∙ q.servers; clocks = p.clocks ∙ q.clocks; config = p.config ∙ q.config; net = p.net ∙ q.net; ended = p.ended ∙ q.ended }
  where
    under : (o : Option Stamp) → Flushed w (ev.flushed_under w c x o)
    under None = record { clients = refl; servers = refl; clocks = refl; config = refl; net = refl; ended = refl }
    under (Some e) = record { clients = refl; servers = refl; clocks = refl; config = refl; net = refl; ended = refl }

    in_phase : (o : Option Stamp) (p : Option Phase) → Flushed w (ev.flushed_in w c x o p)
    in_phase o (Some phases.Flush) = under o
    in_phase o p = record { clients = refl; servers = refl; clocks = refl; config = refl; net = refl; ended = refl }

ended_one : (c : ClientId) (before : ClientState) (o : Output) (sc : WorldTurn) → ((ev.client_says sc c before o).world.config ≡ sc.world.config) × ((ev.client_says sc c before o).world.ended ≡ sc.world.ended ++ lost_lives c before (o ∷ []))
unfolding ev.client_says ev.sends ev.submits ev.answers_with ev.client_notes ev.accepts ev.patches ev.loses
ended_one c before (outputs.Send m) sc = (refl, sym (append-nil sc.world.ended))
ended_one c before (outputs.Answer op a) sc = (refl, sym (append-nil sc.world.ended))
ended_one c before (outputs.Submit n at what) sc = go (site_of sc.world c)
  where
    go : (o : Option WorldClient) → ((ev.submits sc c o n at what).world.config ≡ sc.world.config) × ((ev.submits sc c o n at what).world.ended ≡ sc.world.ended ++ [])
    go None = (refl, sym (append-nil sc.world.ended))
    go (Some s) = (refl, sym (append-nil sc.world.ended))
ended_one c before (outputs.Note n) sc = note n
  where
    note : (n : Note) → ((ev.client_notes sc c before n).world.config ≡ sc.world.config) × ((ev.client_notes sc c before n).world.ended ≡ sc.world.ended ++ (lost_life c before n ++ []))
    note (notes.Lost s life) = (refl, refl)
    note (notes.Accepted f p bytes) = (refl, sym (append-nil sc.world.ended))
    note (notes.Patched f p at bytes) = (refl, sym (append-nil sc.world.ended))
    note n = (refl, sym (append-nil sc.world.ended))

lives_both : (c : ClientId) (before : ClientState) (o : Output) (os : List Output) → lost_lives c before (o ∷ []) ++ lost_lives c before os ≡ lost_lives c before (o ∷ os)
lives_both c before (outputs.Send m) os = refl
lives_both c before (outputs.Answer op a) os = refl
lives_both c before (outputs.Submit n at what) os = refl
lives_both c before (outputs.Note n) os = ap (λ x. x ++ lost_lives c before os) (append-nil (lost_life c before n))

ended_all : (c : ClientId) (before : ClientState) (os : List Output) (sc : WorldTurn) → ((ev.client_says_all c before os sc).world.config ≡ sc.world.config) × ((ev.client_says_all c before os sc).world.ended ≡ sc.world.ended ++ lost_lives c before os)
unfolding ev.client_says_all
ended_all c before [] sc = (refl, sym (append-nil sc.world.ended))
ended_all c before (o ∷ os) sc =
    let p = ended_one c before o sc in
    let q = ended_all c before os (ev.client_says sc c before o) in
    (q.0 ∙ p.0, q.1 ∙ ap (λ x. x ++ lost_lives c before os) p.1 ∙ append_assoc sc.world.ended (lost_lives c before (o ∷ [])) (lost_lives c before os) ∙ ap (λ x. sc.world.ended ++ x) (lives_both c before o os))

-- a step keeps the client's number
these_id : (rule : Turn → Turn) (list : List Association) (T : ClientTurn) → (at_these rule list T).state.id ≡ T.state.id
unfolding at_these
these_id rule [] T = refl
these_id rule (x ∷ xs) T = these_id rule xs (st.leave T (rule (st.enter T x)))

each_id : (rule : Turn → Turn) (T : ClientTurn) → (at_each rule T).state.id ≡ T.state.id
unfolding at_each
each_id rule T = these_id rule T.state.associations (with_associations [] T)

if_id : (b : Bool) (T U V : ClientTurn) → U.state.id ≡ T.state.id → V.state.id ≡ T.state.id → (if b then U else V).state.id ≡ T.state.id
if_id true T U V p q = p
if_id false T U V p q = q

input_id : (T : ClientTurn) (now : Stamp) (input : ClientInput) → (cl.take_input T now input).state.id ≡ T.state.id
unfolding cl.take_input cl.app cl.app_known cl.done cr.receive cr.receive_here
input_id T now inputs.Tick = refl
input_id T now (inputs.App op ask) = if_id (cl.is_full T.state) T _ _ refl (if_id (cl.is_configured T.state (st.server_of ask)) T _ _ (each_id (st.only_at (st.server_of ask) (cl.take_ask op ask)) T) refl)
input_id T now (inputs.Control m) = if_id (m.header.to == T.state.id.0) T _ T (each_id (cr.receive_at now m.header m.body) T) refl
input_id T now (inputs.Done number result) = each_id (cl.finish number result) T

pub step_id : (s : ClientState) (now : Stamp) (input : ClientInput) → (cl.client_step s now input).state.id ≡ s.id
unfolding cl.client_step cl.work cl.losses
step_id s now input =
    let T : ClientTurn = cl.losses (st.client_turn s []) now in
    each_id (cp.passes now (cl.is_tick input)) (cl.take_input T now input) ∙ input_id T now input ∙ each_id (cl.lose now) (st.client_turn s [])

pub world_is : (w : World) (c : ClientId) (site : WorldClient) (input : ClientInput) → WorldLeft w c site input
unfolding ev.client_took
world_is w c site input =
    let t : ClientTurn = stepped w c site input in
    let v : World = ev.with_site c (site_left w c site input) w in
    let sc : WorldTurn = ev.client_says_all c site.node.state t.out (ev.world_turn v []) in
    let d = told_all c site.node.state t.out (ev.world_turn v []) in
    let g = ended_all c site.node.state t.out (ev.world_turn v []) in
    let f = flushes_leave c t.state (all_servers sc.world) sc.world in
    record {
      clients = f.clients ∙ d.clients;
      servers = f.servers ∙ d.servers;
      clocks = f.clocks ∙ d.clocks;
      config = f.config ∙ g.0;
      messages = ap (λ (n : world.Net). n.messages) f.net ∙ d.messages;
      ended = f.ended ∙ g.1;
    }

pub own_moves : OwnAssociationsMove
own_moves k sv w c site input own a N m comes =
    let now : Stamp = clock_of w (nodes.Client c) in
    let t : ClientTurn = stepped w c site input in
    let x : ClientStep k sv now.0 N own a t N = step_moves k sv now N own site.node.state input a N m.terms m.place m.born m.kept (subst (λ i. Comes own i input N) (sym m.id_) comes) (λ x i. i) in
    let r : ClientResult k sv (record { s = sv.s; ended = x.ended }) now.0 N own a t N = x.result in
    let id_ : t.state.id.0 ≡ c.0 = ap (λ (i : ClientId). i.0) (step_id site.node.state now input) ∙ m.id_ in
    record {
      ended = x.ended;
      ends = x.ends;
      last = r.last;
      net = r.net;
      moves = r.moves;
      sim = record { id_ = id_; terms = r.ready.terms; place = r.place; born = r.ready.born; kept = r.ready.kept };
      said = subst (λ i. Said i own t.out r.net) id_ (subst (λ x. Said t.state.id.0 x t.out r.net) r.place.here r.ready.said);
      lasts = r.ready.lasts;
    }

pub others_stay : OtherAssociationsStay
others_stay w c site input =
    let q = world_is w c site input in
    record { world = q; others = λ d p n. ap (λ xs. numbered xs d.0) q.clients ∙ numbered_other w.clients c.0 d.0 _ p n }
