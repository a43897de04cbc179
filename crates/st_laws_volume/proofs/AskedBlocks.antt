-- After an event each outstanding request for a block was outstanding before it, or its client has
-- just sent it, for an operation and under an exclusive lock.
use Rattle.st_lemmas.proofs.Words
use Words.{◌≡◌, ℕ, ◌+◌, true, Option, Some, None, Ok, refl, sym, ap, ◌∙◌, subst, inl, Ask, Body, ClientId, ClientInput, Config, Event, Request, ServerId, Stamp}
use Words.events
use Words.inputs
use Words.nodes
use Words.Client as cl
use Words.ClientState.{Association, ClientSession, ClientState}
use Words.Events.{WorldTurn, world_step}
use Words.Lists.{Has}
use Words.Lookups.{some_is}
use Words.Tables.{has_map}
use Words.Truth.{clash}
use Words.World.{World, WorldClient, clock_of, site_of}
use Rattle.st_laws_steps.specs.Client.Inputs.{Each}
use Rattle.st_laws_steps.specs.Lives.Lives.{LivesHold}
use Rattle.st_laws_steps.proofs.Client.Stepping.{step_lives}
use Rattle.st_laws_volume.proofs.AllocateSteps.{AllKnown, AskedRight, AskedWas, JustAsked, Right, RightIn, Was, WasIn, step_right}
use Rattle.st_laws_volume.proofs.EventAnswers.{ByAsk, ByMessage, ByReport, ByTick, Stepping, TakesAt}
use Rattle.st_laws_volume.proofs.EventClients.{Crashes, SiteNext, Starts, Stays, Steps, event_clients}

-- A request was outstanding in the session of a client.
pub record WasAsked (w : World) (c : ClientId) (server : ServerId) (life epoch number : ℕ)
    (body : Body) : Type 0 where
  pub site : WorldClient
  pub there : site_of w c ≡ Some site
  pub runs : site.node.running ≡ true
  pub association : Association
  pub among : Has association site.node.state.associations
  pub at : association.server ≡ server
  pub session : ClientSession
  pub has : association.session ≡ Some session
  pub request : Request
  pub asked : session.requests.asked ≡ Some request
  pub of_life : association.life.0 ≡ life
  pub of_epoch : session.epoch.0 ≡ epoch
  pub of_number : request.number ≡ number
  pub of_body : request.body ≡ body

module _ (t : World) (e : Event) (sc : WorldTurn) (happened : world_step t e ≡ Ok sc)
    (lives : LivesHold t) (C : ClientId → Ask → Type 0)
    (old : (c : ClientId) (site : WorldClient) → site_of t c ≡ Some site →
    AllKnown (C c) site.node.state.operations)
    (comes : (c : ClientId) (ask : Ask) → e ≡ events.App c ask → C c ask) where
  -- before the event
  module _ (c : ClientId) (site : WorldClient) (there : site_of t c ≡ Some site)
      (runs : site.node.running ≡ true) where
    was : Each (Was (WasAsked t c)) site.node.state.associations
    was a i = by a.session refl
      where
        of_session : (s : ClientSession) → a.session ≡ Some s → (o : Option Request) →
            s.requests.asked ≡ o →
            AskedWas (WasAsked t c a.server a.life.0 s.epoch.0) o
        of_session s has None q = tt
        of_session s has (Some r) q = λ z. record {
          site = site;
          there = there;
          runs = runs;
          association = a;
          among = i;
          at = refl;
          session = s;
          has = has;
          request = r;
          asked = q;
          of_life = refl;
          of_epoch = refl;
          of_number = refl;
          of_body = refl;
        }

        by : (o : Option ClientSession) → a.session ≡ o → WasIn (WasAsked t c) a.server a.life.0 o
        by None q = tt
        by (Some s) q = of_session s q s.requests.asked refl

    still : (now : Stamp) (k : Config) →
        Each (Right (WasAsked t c) (C c) now k) site.node.state.associations
    still now k a i = by a.session (was a i)
      where
        of_asked : (s : ClientSession) (o : Option Request) →
            AskedWas (WasAsked t c a.server a.life.0 s.epoch.0) o →
            AskedRight (WasAsked t c a.server a.life.0 s.epoch.0)
            (JustAsked (C c) now k a.server s) o
        of_asked s None h = tt
        of_asked s (Some q) h = λ z. inl (h z)

        by : (o : Option ClientSession) → WasIn (WasAsked t c) a.server a.life.0 o →
            RightIn (WasAsked t c) (C c) now k a.server a.life.0 o
        by None h = tt
        by (Some s) h = of_asked s s.requests.asked h

  -- the ask that a client takes
  taken_ask : (c : ClientId) (site : WorldClient) (i : ClientInput) → TakesAt t e c site i →
      (op : ℕ) (ask : Ask) → i ≡ inputs.App op ask → C c ask
  taken_ask c site _ (ByTick f) op ask q = cc q
  taken_ask c site _ (ByMessage j m f q2 z) op ask q = cc q
  taken_ask c site _ (ByReport j ok y r f q2 a s d) op ask q = cc q
  taken_ask c site _ (ByAsk b f) op ask q = subst (C c) (same q) (comes c b f)
    where
      same : inputs.App (site.asks + 1) b ≡ inputs.App op ask → b ≡ ask
      same z = cc z

  stepped : (r : Stepping t e sc) →
      Each (Right (WasAsked t r.client) (C r.client) (clock_of sc.world (nodes.Client r.client))
      r.after.node.state.config)
      r.after.node.state.associations
  stepped r =
      subst (λ (n : Stamp). Each
      (Right (WasAsked t r.client) (C r.client) n r.after.node.state.config)
      r.after.node.state.associations) (sym r.time)
      (subst (λ (k : Config). Each (Right (WasAsked t r.client) (C r.client) r.now k)
      r.after.node.state.associations) config
      (subst (λ (s : ClientState). Each
      (Right (WasAsked t r.client) (C r.client) r.now r.site.node.state.config) s.associations)
      (sym r.state_is)
      (step_right (WasAsked t r.client) (C r.client) r.site.node.state.config r.site.node.state
      r.now r.input refl (old r.client r.site r.at)
      (taken_ask r.client r.site r.input r.takes) (was r.client r.site r.at r.runs))))
    where
      config : r.site.node.state.config ≡ r.after.node.state.config
      config =
          (step_lives r.client r.site.node.state r.now r.input
          (lives.lives.sites r.client r.site r.at).fit).config
          ∙ ap (λ (s : ClientState). s.config) (sym r.state_is)

  pub blocks_asked : (c : ClientId) (site : WorldClient) → site_of sc.world c ≡ Some site →
      site.node.running ≡ true →
      Each (Right (WasAsked t c) (C c) (clock_of sc.world (nodes.Client c)) site.node.state.config)
      site.node.state.associations
  unfolding cl.start
  blocks_asked c site at runs = by ((event_clients t e sc happened).sites c)
    where
      its : (r : Stepping t e sc) → r.client ≡ c → r.after ≡ site
      its r q = some_is (sym r.left ∙ (ap (site_of sc.world) q ∙ at))

      by : SiteNext t e sc c → Each
          (Right (WasAsked t c) (C c) (clock_of sc.world (nodes.Client c)) site.node.state.config)
          site.node.state.associations
      by (Stays q) = still c site (sym q ∙ at) runs (clock_of sc.world (nodes.Client c))
          site.node.state.config
      by (Steps s r q) =
          subst (λ (d : ClientId). Each
          (Right (WasAsked t d) (C d) (clock_of sc.world (nodes.Client d))
          site.node.state.config) site.node.state.associations) q
          (subst
          (λ (y : WorldClient). Each
          (Right (WasAsked t r.client) (C r.client) (clock_of sc.world (nodes.Client r.client))
          y.node.state.config)
          y.node.state.associations)
          (its r q) (stepped r))
      by (Crashes y q left stopped) =
          absurd
          (clash runs
          (ap (λ (z : WorldClient). z.node.running) (some_is (sym at ∙ left)) ∙ stopped))
      by (Starts y was2 stopped left) = λ a i.
          let z =
          has_map cl.started_association y.node.state.associations a
          (subst (λ (u : WorldClient). Has a u.node.state.associations) (some_is (sym at ∙ left)) i)
          in
          subst (Right (WasAsked t c) (C c) (clock_of sc.world (nodes.Client c))
          site.node.state.config) (sym z.2) tt
