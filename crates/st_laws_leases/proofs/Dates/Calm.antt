-- No client sends a refusal because of a conflict.
use Rattle.st_lemmas.proofs.Words
use Words.{◌≡◌, ℕ, ◌+◌, Bool, true, false, not, List, [], ◌∷◌, Option, Some, None, Ok, Err, refl, sym, ap, subst, inl, inr, if◌then◌else◌, list_all}
use Words.{ClientId, NodeId, Event, Message, Note, Output, ClientInput, IssuedCommand, SentMessage}
use Words.nodes
use Words.events
use Words.notes
use Words.outputs
use Words.inputs
use Words.Client as cl
use Words.ClientState.{ClientState}
use Words.Events as ev
use Words.Events.{WorldTurn, client_says, client_says_all}
use Words.History.{Traced}
use Words.Safety.{Step, is_conflict, is_no_conflict, is_receiver, step, takes_step}
use Words.World as world
use Words.World.{World, WorldClient, clock_of, site_of}
use Words.Lists.{Has}
use Words.Numbers.{numbered_has}
use Words.Tables.{has_map_in}
use Words.Tests.{all_last}
use Rattle.st_rules.specs.declared.node.StepRefusal.TheVariants.{Crashed}
use Rattle.st_lemmas.proofs.Steps.{step_happens}
use Rattle.st_laws_leases.specs.Dates.Dates.{ClientDated, Dated, message_in, messages}
use Rattle.st_laws_leases.specs.Dates.Law.{ClientsSendNoConflict}
use Rattle.st_laws_leases.proofs.Dates.Receiving.{Comes, Ever, Held, ever_on, step_held}

calm_one : (c : ClientId) (before : ClientState) (o : Output) (sc : WorldTurn) → ((m : Message) → o ≡ outputs.Send m → is_conflict m.body ≡ false) → list_all is_no_conflict sc.seen ≡ true → list_all is_no_conflict (client_says sc c before o).seen ≡ true
unfolding client_says ev.sends ev.submits ev.answers_with ev.client_notes ev.accepts ev.patches ev.loses
calm_one c before (outputs.Send m) sc f h = all_last is_no_conflict sc.seen _ h (ap not (f m refl))
calm_one c before (outputs.Answer op a) sc f h = all_last is_no_conflict sc.seen _ h refl
calm_one c before (outputs.Submit n at what) sc f h = go (site_of sc.world c)
  where
    go : (o : Option WorldClient) → list_all is_no_conflict (ev.submits sc c o n at what).seen ≡ true
    go None = h
    go (Some site) = all_last is_no_conflict sc.seen _ h refl
calm_one c before (outputs.Note n) sc f h = note n
  where
    note : (n : Note) → list_all is_no_conflict (ev.client_notes sc c before n).seen ≡ true
    note (notes.Accepted g p bytes) = all_last is_no_conflict sc.seen _ h refl
    note (notes.Patched g p at bytes) = all_last is_no_conflict sc.seen _ h refl
    note (notes.Leased s e) = all_last is_no_conflict sc.seen _ h refl
    note (notes.Lost s l) = all_last is_no_conflict sc.seen _ h refl
    note n = h

calm_all : (c : ClientId) (before : ClientState) (os : List Output) (sc : WorldTurn) → ((m : Message) → Has (outputs.Send m) os → is_conflict m.body ≡ false) → list_all is_no_conflict sc.seen ≡ true → list_all is_no_conflict (client_says_all c before os sc).seen ≡ true
unfolding client_says_all
calm_all c before [] sc f h = h
calm_all c before (o ∷ os) sc f h = calm_all c before os (client_says sc c before o) (λ m i. f m (inr i)) (calm_one c before o sc (λ m e. f m (inl (sym e))) h)

-- in a step of a client no such refusal is sent
pub client_no_conflict : (ms : List Message) (c : ClientId) (v : World) (i : ClientInput) (site : WorldClient) → Comes ms c (clock_of v (nodes.Client c)) Ever ever_on i → ClientDated ms c site.node.state →
    list_all is_no_conflict (ev.client_takes v c i site).seen ≡ true
unfolding ev.client_takes ev.client_took cl.node_step
client_no_conflict ms c v i site k d = go site.node.running
  where
    held : Held ms c (clock_of v (nodes.Client c)) Ever ever_on (cl.client_step site.node.state (clock_of v (nodes.Client c)) i)
    held = step_held ms c (clock_of v (nodes.Client c)) Ever ever_on site.node.state i k d (λ a h. tt)

    go : (b : Bool) → list_all is_no_conflict (ev.client_took v c site (if b then Ok (cl.node_turn site.node (cl.client_step site.node.state (clock_of v (nodes.Client c)) i)) else Err Crashed)).seen ≡ true
    go true = calm_all c site.node.state (cl.client_step site.node.state (clock_of v (nodes.Client c)) i).out _ (λ m h. (held.outs m h).calm) refl
    go false = refl

-- Each event in which a client takes a step.
module _ (past : List Step) (t : Traced) (d : Dated past t) where
  abbrev w : World
  w = ev.counted t.world

  at_client : (c : ClientId) (i : ClientInput) (o : Option WorldClient) → site_of t.world c ≡ o → Comes (messages t.world) c (clock_of w (nodes.Client c)) Ever ever_on i → list_all is_no_conflict (ev.at_client w c i o).seen ≡ true
  unfolding ev.at_client
  at_client c i None q k = refl
  at_client c i (Some site) q k = client_no_conflict (messages t.world) c w i site k (d.clients c site q)

  -- a report, whether a client hears of it or not
  pub report_calm : (k : ℕ) (ok : Bool) → list_all is_no_conflict (ev.happens w (events.Report k ok)).seen ≡ true
  unfolding ev.happens ev.reports_of ev.tells ev.tells_client ev.tells_site
  report_calm k ok = go (world.issued_of t.world k)
    where
      v : World
      v = ev.with_disks (ev.disks_after w.disks (Rattle.st_rules.specs.Disks.done w.disks k ok)) w

      at : (x : IssuedCommand) (o : Option WorldClient) → site_of t.world x.client ≡ o → list_all is_no_conflict (ev.tells_client v k ok x o).seen ≡ true
      at x None q = refl
      at x (Some site) q = pick (ev.is_same_instance x site)
        where
          pick : (b : Bool) → list_all is_no_conflict (if b then ev.client_takes v x.client (ev.end_told v k ok x) site else ev.quiet v).seen ≡ true
          pick true = client_no_conflict (messages t.world) x.client v (ev.end_told v k ok x) site tt (d.clients x.client site q)
          pick false = refl

      go : (o : Option IssuedCommand) → list_all is_no_conflict (ev.tells v k ok o).seen ≡ true
      go None = refl
      go (Some x) = at x (site_of t.world x.client) refl

  pub happens_calm : (e : Event) (c : ClientId) → takes_step t.world c e ≡ true → list_all is_no_conflict (ev.happens w e).seen ≡ true
  unfolding ev.happens ev.ticks ev.asks_at ev.delivers ev.delivers_to ev.reports_of ev.tells ev.tells_client ev.tells_site
  happens_calm (events.Tick (nodes.Client b)) c y = at_client b inputs.Tick (site_of t.world b) refl tt
  happens_calm (events.Tick (nodes.Server s)) c y = cc y
  happens_calm (events.App b ask) c y = go (site_of t.world b) refl
    where
      go : (o : Option WorldClient) → site_of t.world b ≡ o → list_all is_no_conflict (ev.asks_at w b ask o).seen ≡ true
      go None q = refl
      go (Some site) q = client_no_conflict (messages t.world) b w (inputs.App (site.asks + 1) ask) (ev.asked_once_more site) tt (d.clients b site q)
  happens_calm (events.Deliver k) c y = go (world.message_of t.world k) refl y
    where
      to : (m : SentMessage) (r : NodeId) → Has m t.world.net.messages → world.same_node r (nodes.Client c) ≡ true → list_all is_no_conflict (ev.delivers_to w m.message r).seen ≡ true
      to m (nodes.Client b) h z = at_client b (inputs.Control m.message) (site_of t.world b) refl (has_map_in message_in t.world.net.messages m h)
      to m (nodes.Server s) h z = cc z

      go : (o : Option SentMessage) → world.message_of t.world k ≡ o → is_receiver c o ≡ true → list_all is_no_conflict (ev.delivers w o).seen ≡ true
      go None q z = cc z
      go (Some m) q z = to m (world.receiver_of m) (numbered_has t.world.net.messages k m q) z
  happens_calm (events.Report k ok) c y = report_calm k ok
  happens_calm e c y = cc y

pub step_calm : (past : List Step) (t : Traced) (e : Event) (sc : WorldTurn) → Dated past t → ev.world_step t.world e ≡ Ok sc → ClientsSendNoConflict past (step t e sc)
step_calm past t e sc d q c y = let z = step_happens t.world e sc q in subst (λ (x : WorldTurn). list_all is_no_conflict x.seen ≡ true) (sym z.1) (happens_calm past t d e c y)
