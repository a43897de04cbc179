-- After a server has cut a file, it no longer serves a request of the client that has the exclusive
-- row of the file, if it had served all requests before that one.
use Rattle.st_lemmas.proofs.Words
use Words.{◌≡◌, ◌≢◌, ◌⊎◌, ℕ, true, List, Some, Ok, refl, sym, ap, ◌∙◌, subst, inl, inr, Body, ClientId, Event, FileId, GrantNo, Message, PageNo, ServerId}
use Words.bodies
use Words.ops
use Words.outputs
use Words.notes
use Words.seen
use Words.serving.{Control}
use Words.ClientState.{asks_cut_or_name}
use Words.Events as ev
use Words.Events.{WorldTurn, world_step}
use Words.History.{Traced}
use Words.Lists.{Has}
use Words.Safety.{Step, is_event}
use Words.Server.{sender, server_step}
use Words.Tables.{and_both, same_or_not}
use Words.World.{node_of}
use Rattle.st_base.specs.Mode.{conflicts}
use Rattle.st_protocol.specs.Assoc.{Config}
use Rattle.st_laws_extents.specs.CutRequests.Cut.{AsksCut, CutBy}
use Rattle.st_laws_extents.proofs.CutRequests.Cutting.{step_cuts}
use Rattle.st_laws_extents.proofs.CutRequests.Law.{Hold}
use Rattle.st_laws_extents.proofs.CutRequests.Seen.{ServedStep, cuts_served}
use Rattle.st_laws_cuts.specs.EndedRequests.{AllPast}
use Rattle.st_laws_cuts.proofs.OverAfter.{past_on}
use Rattle.st_laws_volume.specs.Witness.{does_at, is_done_as, now_at, serves, turn_of}
use Rattle.st_laws_volume.proofs.CutNotes.{ByCut, ByRemoval, Notes, Serving, serving}
use Rattle.st_laws_volume.proofs.EarlierRequests.{earlier, passed_by}
use Rattle.st_laws_volume.proofs.RowsOn.{HasRow}
use Rattle.st_laws_volume.proofs.ServedEnds.{ends_there}

asks_cut : (b : Body) (f : FileId) (p : PageNo) (g : GrantNo) → AsksCut b f.ino p g →
    asks_cut_or_name b ≡ true
asks_cut (bodies.Cut ino g from) f p h a = refl
asks_cut (bodies.Name (ops.Remove dir name g)) f p h a = refl
asks_cut b f p h a = absurd a

module _ (k : Config) (count : ℕ) (past : List Step) (t : Traced) (e : Event) (sc : WorldTurn)
    (ranges : is_event count e ≡ true) (h : Hold k count past t)
    (taken : world_step t.world e ≡ Ok sc) (c : ClientId) (s : ServerId) (m : Message)
    (before : AllPast t.world c s (earlier m)) (f : FileId) (p : PageNo)
    (rows : HasRow t.world c s f.ino) (here : f.server ≡ s) (index : ℕ)
    (among : Has (seen.CutAt index f p) sc.seen) where
  served : ServedStep (ev.counted t.world) e sc f p
  served = cuts_served t.world e sc (λ r n at. (h.cuts.servers r n at).id) taken index f p among

  abbrev it : Message
  it = served.delivery.sent.message

  noted : Has (outputs.Note (notes.CutDone f p))
      (server_step served.node.state (now_at t.world served.who) (Control it)).out
  noted =
      subst (λ i. Has (outputs.Note (notes.CutDone f p))
      (server_step served.node.state (now_at t.world served.who) i).out) served.delivery.comes
      served.noted

  by : CutBy served.node.state it f p
  by = step_cuts served.node.state (now_at t.world served.who) it f p noted

  id : served.node.state.id ≡ served.who
  id = (h.cuts.servers served.who served.node served.there).id

  who : served.who ≡ s
  who = sym id ∙ (sym by.server ∙ here)

  there : node_of t.world s ≡ Some served.node
  there = ap (node_of t.world) (sym who) ∙ served.there

  -- it is this client's
  from : sender it.header ≡ c
  from = go (same_or_not (sender it.header).0 c.0)
    where
      go : ((sender it.header).0 ≡ c.0) ⊎ ((sender it.header).0 ≢ c.0) → sender it.header ≡ c
      go (inl q) = ap (λ (n : ℕ). record { 0 = n }) q
      go (inr n) =
          let y = rows served.node there in
          let z = (h.all.servers s.0 served.node there).both.stands.compat.fits (sender it.header) c
          f.ino by.row y.row n by.found y.is in
          cc (ap (λ a. conflicts a y.row.mode) (sym by.exclusive) ∙ z, y.exclusive)

  service : Serving (now_at t.world served.who) f p
      (turn_of served.node (now_at t.world served.who)) it
  service = serving served.node.state (now_at t.world served.who) it f p noted

  did : is_done_as it.body (Some service.answer) ≡ true
  did = go service.noted
    where
      go : Notes (turn_of served.node (now_at t.world served.who)) f p it.body service.answer →
          is_done_as it.body (Some service.answer) ≡ true
      go (ByCut ino g q is done file page) =
          subst (λ b. is_done_as b (Some service.answer) ≡ true) (sym is)
          (ap (λ b. is_done_as (bodies.Cut ino g q) (Some b)) done)
      go (ByRemoval op r is done) =
          subst (λ b. is_done_as b (Some service.answer) ≡ true) (sym is)
          (ap (λ b. is_done_as (bodies.Name op) (Some b)) done)

  done : does_at t.world served.who (Some served.node) it ≡ true
  done =
      and_both served.node.running _ served.running
      (and_both (serves (turn_of served.node (now_at t.world served.who)) it.header) _ service.taken
      (ap (is_done_as it.body) service.ruled ∙ did))

  pub cut_past : AllPast sc.world c s m
  cut_past =
      passed_by t.world sc.world (λ c s m p. past_on k count past t e sc ranges h taken c s m p) c s
      served.node there served.running it
      (record {
        client = by.client;
        to = by.to;
        of_epoch = by.of_epoch;
        session = by.session;
        is = by.is;
        of_life = by.of_life;
        last = by.last;
        reply = by.reply;
        state = by.state;
        next = by.next;
      })
      (ap (λ (y : ClientId). y.0) from)
      (subst (λ (y : ServerId). AllPast sc.world c y it) who
      (subst (λ (y : ClientId). AllPast sc.world y served.who it) from
      (ends_there t.world e sc taken served.who served.delivery.index served.delivery.sent
      served.delivery.delivers served.delivery.is_sent served.delivery.receiver
      served.node served.there id done (asks_cut it.body f p by.row.g by.asks)))) m before
