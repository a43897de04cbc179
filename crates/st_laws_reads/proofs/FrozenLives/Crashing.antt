-- A client's crash, in the machine of each server: the client is in its next life, and all else is as it was.
use Rattle.st_lemmas.proofs.Words
use Words.{◌≡◌, ◌≢◌, ℕ, ◌+◌, ◌*◌, true, false, refl, sym, ap, ◌∙◌, length, Option, Some, None, unwrap_or, Stamp}
use Words.nodes
use Words.Keys.{client}
use Words.ClientPages.{empty_store}
use Words.ClientState.{Association}
use Words.Client as cl
use Words.World.{World, WorldClient, numbered, site_of, clock_of, stamp, server}
use Words.Server.{ServerNode}
use Words.Events as ev
use Words.Numbers.{numbered_own, numbered_other, numbered_below, set_length}
use Rattle.st_protocol.specs.Assoc as net
use Rattle.st_protocol.specs.Assoc.{Config, ConfigOk, upd, next_life}
use Rattle.st_protocol.proofs.Lists.{upd-same, upd-other}
use Rattle.st_laws_refine.specs.Views.Halves.{client_at, client_of, Ghost, half_of}
use Rattle.st_laws_refine.specs.Server.Pair.{client_view, client_at_site, client_in, pair}
use Rattle.st_laws_refine.specs.Server.Invariants.{pairs}
use Rattle.st_laws_refine.specs.Client.Law.{Place}
use Rattle.st_laws_leases.specs.Sides.Invariants.{Standing, Both}
use Rattle.st_laws_leases.proofs.Sides.Pairs.{found_at_place, own_view}
use Rattle.st_laws_reads.specs.FrozenLives.Frozen.{Crashed}
use Rattle.st_laws_leases.proofs.Sides.Crashes.{crashed, place_map}

module _ (k : Config) (ok : ConfigOk k) (s : ℕ) (w : World) (node : ServerNode) (ended : ℕ → ℕ → ℕ) (G : ℕ → Ghost) (c : ℕ) (site : WorldClient) (b : Both k s w node ended G) (there : site_of w (client c) ≡ Some site) (runs : site.node.running ≡ true) where
  abbrev v : World
  v = (ev.crashes_client w (client c) (Some site)).world

  abbrev pub ends : ℕ → ℕ
  ends = (crashed k s w node ended G c site b there runs).ends

  pub crash_is : Crashed k c (pairs s ended w node G) (pairs s (upd ended c ends) v node G)
  unfolding ev.crashes_client ev.marks cl.crash
  crash_is = record { own = own; others = others }
    where
      last : WorldClient
      last = ev.stopped_site site

      st : Standing k s c site w.ended (G c).net
      st = b.clients c site there

      a : Association
      a = st.association

      clock : Stamp
      clock = clock_of w (nodes.Client (client c))

      place : Place (server s) last.node.state.associations (cl.crashed_association a)
      place = place_map cl.crashed_association (λ x. refl) (server s) site.node.state.associations a st.sim.place

      here : site_of v (client c) ≡ Some last
      here = numbered_own w.clients c last site there

      before : client_in w c s (ended c) ≡ client_of (ended c) clock.0 a
      before = own_view w c s (ended c) site a there runs st.sim.place

      after : (E : ℕ → ℕ) → client_in v c s E ≡ client_at clock.0 (a.life.0 + 1) None empty_store E
      after E = ap (client_at_site v c s E) here ∙ ap (client_view false E clock) (found_at_place s last.node.state (cl.crashed_association a) place)

      many : length v.clients ≡ length w.clients
      many = set_length w.clients _ last

      clock_s : clock_of v (nodes.Server (server s)) ≡ clock_of w (nodes.Server (server s))
      clock_s = λ j. unwrap_or (numbered w.clocks (many j + s)) (stamp 0)

      view : client_in v c s (upd ended c ends c) ≡ next_life k (client_in w c s (ended c))
      view = ap (client_in v c s) (upd-same ended c ends) ∙ after ends ∙ ap (client_at clock.0 (a.life.0 + 1) None empty_store) (crashed k s w node ended G c site b there runs).last ∙ ap (next_life k) (sym before)

      own : pair c s (upd ended c ends c) v node (G c) ≡ net.client (next_life k (client_in w c s (ended c))) (pair c s (ended c) w node (G c))
      own = λ j. record { c = view j; s = half_of (client c) (clock_s j) node.running node.state (G c); net = (G c).net }

      site_d : (d : ℕ) → d ≢ c → site_of v (client d) ≡ site_of w (client d)
      site_d d n = numbered_other w.clients c d last (numbered_below w.clients c site there).0 n

      same_view : (d : ℕ) (e : ℕ → ℕ) (o : Option WorldClient) → client_at_site v d s e o ≡ client_at_site w d s e o
      same_view d e None = λ j. client_at (w.config.den * (clock_s j).0) 1 None empty_store (λ l. 0)
      same_view d e (Some z) = refl

      others : (d : ℕ) → d ≢ c → pair d s (upd ended c ends d) v node (G d) ≡ pair d s (ended d) w node (G d)
      others d n =
          let x : client_in v d s (upd ended c ends d) ≡ client_in w d s (ended d) =
          ap (client_in v d s) (upd-other ended c ends d n) ∙ ap (client_at_site v d s (ended d)) (site_d d n) ∙ same_view d (ended d) (site_of w (client d)) in
          λ j. record { c = x j; s = half_of (client d) (clock_s j) node.running node.state (G d); net = (G d).net }
