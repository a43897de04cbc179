-- Replies report the present extents: at the start, after every event, and over whole runs.
use Rattle.st_lemmas.proofs.Words
use Words.{◌≡◌, ◌≢◌, ◌⊎◌, ℕ, ◌+◌, true, List, [], ◌∷◌, ◌++◌, Option, Some, None, Ok, Err, refl, sym, ap, ◌∙◌, subst, inl, inr, arith, Result, list_all}
use Words.{ExtentRow, Event, Message, Request, WorldRefusal}
use Words.outputs
use Words.ClientState.{Association, ClientSession}
use Words.Events.{WorldTurn, world_step}
use Words.History.{Traced, traced, traced_after}
use Words.Keys.{client, server_node}
use Words.Safety as safety
use Words.Safety.{Promise, Step, Throughout, is_event, step, steps}
use Words.Server.{ServerNode, ServerTurn, server_step}
use Words.World.{WorldClient, World, fresh_world, node_of, numbered, with_numbered}
use Words.Lists.{Has}
use Words.Lookups.{some_is}
use Words.Numbers.{numbered_below, numbered_other, numbered_own}
use Words.Tables.{and_true, same_or_not}
use Words.Truth.{server_is}
use Rattle.st_base.specs.declared.config.Config as base
use Rattle.st_protocol.specs.Assoc.{Config}
use Rattle.st_laws_refine.specs.Client.Invariants.{Lasts}
use Rattle.st_laws_steps.specs.Lives.Lives.{clock_in}
use Rattle.st_laws_leases.specs.Dates.Dates.{messages}
use Rattle.st_laws_refine.specs.Server.Pair.{terms_of}
use Rattle.st_laws_extents.proofs.CutRequests.Law as cutters
use Rattle.st_laws_extents.specs.ExtentReplies.Events.{EventTells, NodeStays, ServerSteps, Stays}
use Rattle.st_laws_extents.specs.ExtentReplies.Law.{AskedAfter, InRunsAsked, IsAsked, RequestsGo, Untold, WasAsked}
use Rattle.st_laws_extents.specs.ExtentReplies.Steps.{KeptRows, TellsRows}
use Rattle.st_laws_extents.specs.ExtentReplies.ToldExtents.{AskedAt, AskedRight, RepliesRight, RepliesTo}
use Rattle.st_laws_extents.proofs.ExtentReplies.Events.{event_tells}
use Rattle.st_laws_extents.proofs.ExtentReplies.Serving.{is_kept, is_sent, was_sent}
use Rattle.st_laws_extents.proofs.ExtentReplies.Step.{step_tells}

-- the same request in another view of its association
replies_then : (c : ℕ) (a b : Association) (x y : ClientSession) (q p : Request) (m : Message) (ino : ℕ) (rows : List ExtentRow) → b.server ≡ a.server → b.life.0 ≡ a.life.0 → y.epoch.0 ≡ x.epoch.0 → p.number ≡ q.number → RepliesTo c a x q m ino rows → RepliesTo c b y p m ino rows
replies_then c a b x y q p m ino rows s l e n r = record { from = r.from ∙ ap server_node (sym s); to = r.to; of_life = r.of_life ∙ sym l; of_epoch = r.of_epoch ∙ sym e; under = r.under ∙ sym n; body = r.body }

-- If no server takes a step.
module _ (w v : World) (stays : Stays w v) (right : AskedRight w) where
  still : RequestsGo w v → AskedRight v
  still go c site a x q z p at = by (go c site a x q z)
    where
      n : (n : ServerNode) × (node_of w a.server ≡ Some n) × NodeStays n p
      n = stays.nodes a.server p at

      by : WasAsked w c a x q ⊎ Untold w c a x q → RepliesRight v c a x q p
      by (inr u) =
          record {
            sent = λ m ino rows h r. absurd (u.sent m ino rows (stays.messages m h a.server r.from) r);
            kept = λ run ino rows k. let y = n.2.kept run (client c) a.life.0 q.number ino rows k in absurd (u.kept n.0 n.1 y.0 ino rows y.1);
          }
      by (inl o) =
          record {
            sent = λ m ino rows h r. told ino rows (old.sent m ino rows (stays.messages m h a.server r.from) (replies_then c a o.by x o.session q o.request m ino rows o.server o.life o.epoch o.number r));
            kept = λ run ino rows k. let y = n.2.kept run (client c) a.life.0 q.number ino rows k in told ino rows (old.kept y.0 ino rows (subst (λ l. KeptRows n.0.state.sessions (client c) l o.request.number ino rows) (sym o.life) (subst (λ j. KeptRows n.0.state.sessions (client c) a.life.0 j ino rows) (sym o.number) y.1)));
          }
        where
          old : RepliesRight w c o.by o.session o.request n.0
          old = right c o.site o.by o.session o.request o.at n.0 (ap (node_of w) o.server ∙ n.1)

          told : (ino : ℕ) (rows : List ExtentRow) → TellsRows o.by.server n.0.state.stable.extents o.request.body ino rows → TellsRows a.server p.state.stable.extents q.body ino rows
          told ino rows y = subst (λ e. TellsRows a.server e q.body ino rows) (sym n.2.extents) (subst (λ s. TellsRows s n.0.state.stable.extents q.body ino rows) o.server (subst (λ b. TellsRows o.by.server n.0.state.stable.extents b ino rows) o.body y))

-- If a server does.
module _ (k : Config) (count : ℕ) (past : List Step) (t : Traced) (h : cutters.Hold k count past t) (v : World) (y : ServerSteps t.world v) (right : AskedRight t.world) where
  abbrev u : ServerTurn
  u = server_step y.node.state y.now y.input

  abbrev next : ServerNode
  next = record y.node { state = u.state }

  asked_then : (c : ℕ) (site : WorldClient) (a : Association) (x : ClientSession) (q : Request) → AskedAt v c site a x q → AskedAt t.world c site a x q
  asked_then c site a x q z =
      record {
        run = record { there = ap (λ xs. numbered xs c) (sym y.clients) ∙ z.run.there; runs = z.run.runs };
        has = z.has;
        session = z.session;
        lasts = subst (λ ts. Lasts site.node.state.config.lease (clock_in ts (client c)).0 a.session) y.clocks z.lasts;
        asked = z.asked;
        current = z.current;
      }

  served : AskedRight v
  served c site a x q z p at = go (same_or_not a.server.0 y.server.0)
    where
      was : AskedAt t.world c site a x q
      was = asked_then c site a x q z

      found : numbered (with_numbered y.server.0 next t.world.servers) a.server.0 ≡ Some p
      found = ap (λ xs. numbered xs a.server.0) (sym y.servers) ∙ at

      here : y.server ≡ a.server → p ≡ next → RepliesRight v c a x q p
      here e n = subst (RepliesRight v c a x q) (sym n) (record { sent = λ m ino rows i r. sent m ino rows r (y.messages m i); kept = λ run ino rows j. is_kept k count past t h y.node y.running y.input u tells y.comes c site a x q was there old ino rows j })
        where
          there : node_of t.world a.server ≡ Some y.node
          there = ap (node_of t.world) (sym e) ∙ y.there

          old : RepliesRight t.world c a x q y.node
          old = right c site a x q was y.node there

          tells : Rattle.st_laws_extents.specs.ExtentReplies.Steps.StepTells y.node.state y.input u
          tells = step_tells y.node.state y.now y.input

          sent : (m : Message) (ino : ℕ) (rows : List ExtentRow) → RepliesTo c a x q m ino rows → Has m (messages t.world) ⊎ Has (outputs.Send m) u.out → TellsRows a.server u.state.stable.extents q.body ino rows
          sent m ino rows r (inl i) = was_sent k count past t h y.node y.running y.input u tells y.comes c site a x q was there old m ino rows i r
          sent m ino rows r (inr i) = is_sent k count past t h y.node y.running y.input u tells y.comes c site a x q was there old m ino rows i r

      other : a.server.0 ≢ y.server.0 → RepliesRight v c a x q p
      other n = record { sent = λ m ino rows i r. sent m ino rows r (y.messages m i); kept = λ run ino rows j. old.kept run ino rows j }
        where
          there : node_of t.world a.server ≡ Some p
          there = sym (numbered_other t.world.servers y.server.0 a.server.0 next (numbered_below t.world.servers y.server.0 y.node y.there).0 n) ∙ found

          old : RepliesRight t.world c a x q p
          old = right c site a x q was p there

          sent : (m : Message) (ino : ℕ) (rows : List ExtentRow) → RepliesTo c a x q m ino rows → Has m (messages t.world) ⊎ Has (outputs.Send m) u.out → TellsRows a.server p.state.stable.extents q.body ino rows
          sent m ino rows r (inl i) = old.sent m ino rows i r
          sent m ino rows r (inr i) = absurd (n (number a.server.0 y.server.0 (sym r.from ∙ y.says m i)))
            where
              number : (i j : ℕ) → 32768 + i ≡ 32768 + j → i ≡ j
              number i j e = omega (arith, e)

      go : (a.server.0 ≡ y.server.0) ⊎ (a.server.0 ≢ y.server.0) → RepliesRight v c a x q p
      go (inl e) = here (server_is y.server a.server (sym e)) (some_is (sym found ∙ ap (numbered (with_numbered y.server.0 next t.world.servers)) e ∙ numbered_own t.world.servers y.server.0 next y.node y.there))
      go (inr n) = other n

-- What holds after every event.
pub record Hold (k : Config) (count : ℕ) (past : List Step) (t : Traced) : Type 0 where
  pub asks : cutters.Hold k count past t
  pub right : AskedRight t.world

module _ (k : Config) (count : ℕ) (past : List Step) (t : Traced) (e : Event) (sc : WorldTurn) (ranges : is_event count e ≡ true) (h : Hold k count past t) (is : world_step t.world e ≡ Ok sc) (go : IsAsked past (step t e sc)) where
  pub next_hold : Hold k count (past ++ step t e sc ∷ []) (traced_after e t sc)
  next_hold = record { asks = (cutters.one k count past t e sc ranges h.asks is).1; right = by (event_tells past t h.asks.replies h.asks.cuts.few e sc (cutters.owed k count past t e sc ranges h.asks is) is) }
    where
      by : EventTells t.world sc.world → AskedRight sc.world
      by (inl s) = still t.world sc.world s h.right go
      by (inr s) = served k count past t h.asks sc.world s h.right

module _ (promise : Promise) (pick : (k : Config) (count : ℕ) (past : List Step) (t : Traced) (e : Event) (sc : WorldTurn) → Hold k count past t → Hold k count (past ++ step t e sc ∷ []) (traced_after e t sc) → promise past (step t e sc)) where
  run : (k : Config) (count : ℕ) (es : List Event) → list_all (is_event count) es ≡ true → (past : List Step) (t : Traced) → Hold k count past t → Throughout IsAsked past (steps es t) → Throughout promise past (steps es t)
  unfolding steps safety.steps_on Throughout
  run k count [] all past t s d = tt
  run k count (e ∷ es) all past t s d = go (world_step t.world e) refl d (λ past t. run k count es (and_true (is_event count e) (list_all (is_event count) es) all).1 past t)
    where
      go : (r : Result WorldTurn WorldRefusal) → world_step t.world e ≡ r → Throughout IsAsked past (safety.steps_on (steps es) t e r) →
          ((past : List Step) (t : Traced) → Hold k count past t → Throughout IsAsked past (steps es t) → Throughout promise past (steps es t)) → Throughout promise past (safety.steps_on (steps es) t e r)
      go (Err r) q d f = tt
      go (Ok sc) q d f =
          let z = next_hold k count past t e sc (and_true (is_event count e) (list_all (is_event count) es) all).0 s q d.0 in
          (pick k count past t e sc s z, f (past ++ step t e sc ∷ []) (traced_after e t sc) z d.1)

-- at the start no client has a session
fresh_right : (k : base.Config) (clients servers disks blocks form : ℕ) → AskedRight (fresh_world k clients servers disks blocks form)
unfolding fresh_world Rattle.st_rules.specs.Client.fresh_client
fresh_right k clients servers disks blocks form c site a x q z node at =
    record { sent = λ m ino rows i r. absurd i; kept = λ run ino rows j. absurd (none x (sym no ∙ z.session)) }
  where
    no : a.session ≡ None
    no =
        let y = Rattle.st_lemmas.proofs.Tables.has_map Rattle.st_rules.specs.Client.fresh_association (Rattle.st_rules.specs.Extents.numbers 1 servers) a
        (subst (λ (s : WorldClient). Has a s.node.state.associations) (Rattle.st_laws_pages.proofs.Disks.Whole.site_is k clients servers c site z.run.there).0 z.has) in
        ap (λ (b : Association). b.session) y.2

    none : (x : ClientSession) → ◌≡◌ {A = Option ClientSession} None (Some x) → ⊥
    none x e = cc

-- over whole runs
pub in_runs : (promise : Promise) → ((k : Config) (count : ℕ) (past : List Step) (t : Traced) (e : Event) (sc : WorldTurn) → Hold k count past t → Hold k count (past ++ step t e sc ∷ []) (traced_after e t sc) → promise past (step t e sc)) → InRunsAsked promise
in_runs promise pick k clients servers disks blocks form es head events go =
    run promise pick (terms_of k) (clients + servers) es events [] (traced (fresh_world k clients servers disks blocks form))
    (record { asks = cutters.first k clients servers disks blocks form head; right = fresh_right k clients servers disks blocks form }) go

pub asked : InRunsAsked AskedAfter
asked = in_runs AskedAfter (λ k count past t e sc before after. after.right)
