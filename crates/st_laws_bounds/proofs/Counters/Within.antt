-- Clients' counters are within 2^15 for each event: after every event.
use Rattle.st_lemmas.proofs.Words
use Words.{◌≡◌, ◌≢◌, ◌⊎◌, ℕ, ◌+◌, ◌*◌, ◌≤◌, List, Some, Ok, refl, sym, ap, ◌∙◌, subst, inl, inr, arith, length, map, nat_le, ◌&&◌, and_parts, leb-true}
use Words.{length-map, Config, ClientId, ClientInput, LogEntry}
use Words.nodes
use Words.Client as cl
use Words.ClientState.{Association, ClientState}
use Words.Events as ev
use Words.Safety.{IsHead}
use Words.Server as sv
use Words.World as world
use Words.World.{World, WorldClient, clock_of, fresh_world, numbered, site_of, with_numbered}
use Words.Lists.{Has}
use Words.Lookups.{some_is}
use Words.Numbers.{numbered_below, numbered_other, numbered_own}
use Words.Tables.{has_map, same_or_not}
use Rattle.st_laws_pages.proofs.Disks.Whole.{site_is}
use Rattle.st_laws_bounds.specs.Counters.Rises.{ClientsWithin, IsWithin, IsWithinAt}
use Rattle.st_laws_bounds.specs.Counters.ReachedWorlds.{InEveryReached}
use Rattle.st_laws_bounds.proofs.Counters.Clients.{flush_rows, said_all, served_all}
use Rattle.st_laws_bounds.proofs.Counters.Events.{Cases, ClientSteps, ServerSteps, Takes}
use Rattle.st_laws_bounds.proofs.Counters.Law.{counted_reached}
use Rattle.st_laws_bounds.proofs.Counters.Raising.{fresh_within, steps_raise}
use Rattle.st_laws_bounds.proofs.Counters.Weights.{asks_more}

-- What holds of the clients when there were n events.
abbrev pub SitesWithin : ℕ → World → Type 0
SitesWithin n w = (c : ClientId) (site : WorldClient) → site_of w c ≡ Some site → IsWithin (1 + 32768 * n) site.node.state

within_more : (m n : ℕ) (s : ClientState) → m ≤ n → IsWithin m s → IsWithin n s
within_more m n s l h =
    let c = h.commands in
    record { operations = h.operations; servers = h.servers; commands = omega (arith, c, l); each = λ a i. one a (h.each a i) }
  where
    one : (a : Association) → IsWithinAt m a → IsWithinAt n a
    one a f = let v = f.versions in let e = f.lives in record { dirty = f.dirty; versions = omega (arith, v, l); lives = omega (arith, e, l); requests = asks_more m n a.session l f.requests }

next : (n : ℕ) → 1 + 32768 * n ≤ 1 + 32768 * (n + 1)
next n = omega arith

-- one client is replaced
replaced : (n : ℕ) (w v : World) (c : ClientId) (old new : WorldClient) → site_of w c ≡ Some old → v.clients ≡ with_numbered c.0 new w.clients →
    IsWithin (1 + 32768 * (n + 1)) new.node.state → SitesWithin n w → SitesWithin (n + 1) v
replaced n w v c old new there cs own h d site e = go (same_or_not d.0 c.0)
  where
    go : (d.0 ≡ c.0) ⊎ (d.0 ≢ c.0) → IsWithin (1 + 32768 * (n + 1)) site.node.state
    go (inl i) =
        let s : new ≡ site = some_is (sym (numbered_own w.clients c.0 new old there) ∙ ap (numbered (with_numbered c.0 new w.clients)) (sym i) ∙ ap (λ zs. numbered zs d.0) (sym cs) ∙ e) in
        subst (λ (x : WorldClient). IsWithin (1 + 32768 * (n + 1)) x.node.state) s own
    go (inr x) =
        within_more _ _ site.node.state (next n) (h d site (sym (numbered_other w.clients c.0 d.0 new (numbered_below w.clients c.0 old there).0 x) ∙ ap (λ zs. numbered zs d.0) (sym cs) ∙ e))

-- the clients are the same
same : (m n : ℕ) (w v : World) → 1 + 32768 * m ≤ 1 + 32768 * n → v.clients ≡ w.clients → SitesWithin m w → SitesWithin n v
same m n w v l cs h c site e = within_more _ _ site.node.state l (h c site (ap (λ zs. numbered zs c.0) (sym cs) ∙ e))

-- a client's step
took : (n : ℕ) (w : World) (c : ClientId) (input : ClientInput) (old site : WorldClient) → site_of w c ≡ Some old → Takes old site input → SitesWithin n w →
    SitesWithin (n + 1) (ev.client_took w c site (Ok (ClientSteps w c site input))).world
unfolding ev.client_took
took n w c input old site there is h =
    replaced n w (ev.flushes c t.node.state (world.all_servers u) u) c old after there ((flush_rows c t.node.state (world.all_servers u) u).clients ∙ (said_all c site.node.state after t.out (ev.quiet (ev.with_site c after w)) (numbered_own w.clients c.0 after old there)).clients)
    (within_more _ _ t.node.state (omega arith) (steps_raise site.node.state (clock_of w (nodes.Client c)) input (1 + 32768 * n) begun)) h
  where
    t : cl.NodeTurn
    t = ClientSteps w c site input

    after : WorldClient
    after = ev.at_node t.node site

    u : World
    u = (ev.client_says_all c site.node.state t.out (ev.quiet (ev.with_site c after w))).world

    begun : IsWithin (1 + 32768 * n) site.node.state
    begun = subst (λ (m : cl.ClientNode). IsWithin (1 + 32768 * n) m.state) is.node (h c old there)

-- a crash, and a start
crashed : (n : ℕ) (w : World) (c : ClientId) (site : WorldClient) (es : List LogEntry) → site_of w c ≡ Some site → length es ≡ length w.log → SitesWithin n w →
    SitesWithin (n + 1) (ev.with_log es (ev.with_site c (ev.stopped_site site) (ev.with_crashed_lives site w)))
unfolding cl.crash
crashed n w c site es there l h =
    replaced n w (ev.with_log es (ev.with_site c (ev.stopped_site site) (ev.with_crashed_lives site w))) c site (ev.stopped_site site) there refl
    (record {
      operations = omega arith;
      servers = (let a = length-map site.node.state.associations cl.crashed_association in let b = low.servers in omega (arith, a, b));
      commands = omega arith;
      each = λ a i. one a (has_map cl.crashed_association site.node.state.associations a i);
    }) h
  where
    low : IsWithin (1 + 32768 * n) site.node.state
    low = h c site there

    one : (a : Association) → (x : Association) × Has x site.node.state.associations × (a ≡ cl.crashed_association x) → IsWithinAt (1 + 32768 * (n + 1)) a
    one a (x, i, e) =
        let f = (low.each x i).lives in
        subst (IsWithinAt (1 + 32768 * (n + 1))) (sym e) (record { dirty = omega arith; versions = omega arith; lives = omega (arith, f); requests = tt })

started : (n : ℕ) (w : World) (c : ClientId) (site : WorldClient) → site_of w c ≡ Some site → SitesWithin n w → SitesWithin (n + 1) (ev.with_site c (ev.started_site site) w)
unfolding cl.start
started n w c site there h =
    replaced n w (ev.with_site c (ev.started_site site) w) c site (ev.started_site site) there refl
    (record {
      operations = omega arith;
      servers = (let a = length-map site.node.state.associations cl.started_association in let b = low.servers in omega (arith, a, b));
      commands = omega arith;
      each = λ a i. one a (has_map cl.started_association site.node.state.associations a i);
    }) h
  where
    low : IsWithin (1 + 32768 * n) site.node.state
    low = h c site there

    one : (a : Association) → (x : Association) × Has x site.node.state.associations × (a ≡ cl.started_association x) → IsWithinAt (1 + 32768 * (n + 1)) a
    one a (x, i, e) =
        let f = (low.each x i).lives in
        subst (IsWithinAt (1 + 32768 * (n + 1))) (sym e) (record { dirty = omega arith; versions = omega arith; lives = omega (arith, f); requests = tt })

cases : (n : ℕ) → Cases (SitesWithin n) (SitesWithin (n + 1))
unfolding ev.server_took
cases n =
    record {
      beside = λ w v b h. same n n w v (omega arith) b.clients h;
      done = λ w h. same n (n + 1) w w (next n) refl h;
      client = λ w c input old site there is r h. took n w c input old site there is h;
      server = λ w s input node there r h.
          let t = ServerSteps w s node input in
          same n (n + 1) w (ev.server_says_all s t.out (ev.quiet (ev.with_node s t.node w))).world (next n) (served_all s t.out (ev.quiet (ev.with_node s t.node w))).clients h;
      crash = crashed n;
      start = started n;
      stop = λ w s node there h. same n (n + 1) w (ev.with_node s (sv.crash_node node) w) (next n) refl h;
      begin = λ w s node there h. same n (n + 1) w (ev.with_node s (sv.start_node node (clock_of w (nodes.Server s))) w) (next n) refl h;
    }

-- the world of a head
fresh : (k : Config) (clients servers d b form : ℕ) → IsHead k clients servers d b form → SitesWithin 0 (fresh_world k clients servers d b form)
unfolding fresh_world
fresh k clients servers d b form head c site e =
    let few = leb-true servers 4 (and_parts (nat_le 1 servers) (nat_le servers 4) head.some_servers).1 in
    subst (λ (x : WorldClient). IsWithin 1 x.node.state) (sym (site_is k clients servers c.0 site e).0) (fresh_within (record { 0 = c.0 }) k servers few)

pub within_law : InEveryReached ClientsWithin
within_law = counted_reached SitesWithin (λ n v h c site e. h c site e) cases fresh
