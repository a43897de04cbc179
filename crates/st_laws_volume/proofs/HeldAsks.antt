-- After an event each outstanding request was outstanding before it, or has just been sent. If it is
-- a new one to cut or to remove a file, its client has the exclusive lock of the file, and a lease
-- that lasts.
use Rattle.st_lemmas.proofs.Words
use Words.{◌≡◌, true, Option, Some, None, Ok, refl, sym, ap, ◌∙◌, subst, ClientId, Config, Event, Request, Stamp}
use Words.nodes
use Words.Client as cl
use Words.ClientState.{ClientSession, ClientState}
use Words.Events.{WorldTurn, world_step}
use Words.Lists.{Has}
use Words.Lookups.{some_is}
use Words.Tables.{has_map}
use Words.Truth.{clash}
use Words.World.{World, WorldClient, clock_of, site_of}
use Rattle.st_laws_steps.specs.Client.Inputs.{Each}
use Rattle.st_laws_steps.specs.Lives.Lives.{LivesHold}
use Rattle.st_laws_steps.proofs.Client.Stepping.{step_lives}
use Rattle.st_laws_volume.proofs.AskedBlocks.{WasAsked}
use Rattle.st_laws_volume.proofs.EventAnswers.{Stepping}
use Rattle.st_laws_volume.proofs.EventClients.{Crashes, SiteNext, Starts, Stays, Steps, event_clients}
use Rattle.st_laws_volume.proofs.HeldSteps.{AskedWas, Right, Was, WasIn, right_was, step_right}

module _ (t : World) (e : Event) (sc : WorldTurn) (happened : world_step t e ≡ Ok sc) (lives : LivesHold t) where
  -- before the event
  module _ (c : ClientId) (site : WorldClient) (there : site_of t c ≡ Some site) (runs : site.node.running ≡ true) where
    was : Each (Was (WasAsked t c)) site.node.state.associations
    was a i = by a.session refl
      where
        of_session : (s : ClientSession) → a.session ≡ Some s → (o : Option Request) → s.requests.asked ≡ o →
            AskedWas (WasAsked t c a.server a.life.0 s.epoch.0) o
        of_session s has None q = tt
        of_session s has (Some r) q =
            record {
              site = site;
              there = there;
              runs = runs;
              association = a;
              among = i;
              at = refl;
              session = s;
              has = has;
              request = r;
              asked = q;
              of_life = refl;
              of_epoch = refl;
              of_number = refl;
              of_body = refl;
            }

        by : (o : Option ClientSession) → a.session ≡ o → WasIn (WasAsked t c) a.server a.life.0 o
        by None q = tt
        by (Some s) q = of_session s q s.requests.asked refl

    still : (now : Stamp) (k : Config) → Each (Right (WasAsked t c) now k) site.node.state.associations
    still now k a i = right_was (WasAsked t c) now k a.server a.life.0 a.session (was a i)

  stepped : (r : Stepping t e sc) →
      Each (Right (WasAsked t r.client) (clock_of sc.world (nodes.Client r.client)) r.after.node.state.config) r.after.node.state.associations
  stepped r =
      subst (λ (n : Stamp). Each (Right (WasAsked t r.client) n r.after.node.state.config) r.after.node.state.associations) (sym r.time)
      (subst (λ (k : Config). Each (Right (WasAsked t r.client) r.now k) r.after.node.state.associations) config
      (subst (λ (s : ClientState). Each (Right (WasAsked t r.client) r.now r.site.node.state.config) s.associations) (sym r.state_is)
      (step_right (WasAsked t r.client) r.site.node.state.config r.site.node.state r.now r.input refl (was r.client r.site r.at r.runs))))
    where
      config : r.site.node.state.config ≡ r.after.node.state.config
      config =
          (step_lives r.client r.site.node.state r.now r.input (lives.lives.sites r.client r.site r.at).fit).config
          ∙ ap (λ (s : ClientState). s.config) (sym r.state_is)

  pub requests_asked : (c : ClientId) (site : WorldClient) → site_of sc.world c ≡ Some site → site.node.running ≡ true →
      Each (Right (WasAsked t c) (clock_of sc.world (nodes.Client c)) site.node.state.config) site.node.state.associations
  unfolding cl.start
  requests_asked c site at runs = by ((event_clients t e sc happened).sites c)
    where
      its : (r : Stepping t e sc) → r.client ≡ c → r.after ≡ site
      its r q = some_is (sym r.left ∙ (ap (site_of sc.world) q ∙ at))

      by : SiteNext t e sc c → Each (Right (WasAsked t c) (clock_of sc.world (nodes.Client c)) site.node.state.config) site.node.state.associations
      by (Stays q) = still c site (sym q ∙ at) runs (clock_of sc.world (nodes.Client c)) site.node.state.config
      by (Steps s r q) =
          subst (λ (d : ClientId). Each (Right (WasAsked t d) (clock_of sc.world (nodes.Client d)) site.node.state.config) site.node.state.associations) q
          (subst
          (λ (y : WorldClient). Each (Right (WasAsked t r.client) (clock_of sc.world (nodes.Client r.client)) y.node.state.config) y.node.state.associations)
          (its r q) (stepped r))
      by (Crashes y q left stopped) =
          absurd (clash runs (ap (λ (z : WorldClient). z.node.running) (some_is (sym at ∙ left)) ∙ stopped))
      by (Starts y was2 stopped left) =
          λ a i. let z =
          has_map cl.started_association y.node.state.associations a
          (subst (λ (u : WorldClient). Has a u.node.state.associations) (some_is (sym at ∙ left)) i) in
          subst (Right (WasAsked t c) (clock_of sc.world (nodes.Client c)) site.node.state.config) (sym z.2) tt
