-- Clients' counters are no further than the rows of the world: after every event.
use Rattle.st_lemmas.proofs.Words
use Words.{◌≡◌, ◌≢◌, ◌⊎◌, ℕ, ◌+◌, ◌≤◌, List, [], ◌∷◌, ◌++◌, Option, Some, None, Ok, refl, sym, ap, ◌∙◌, subst, inl, inr, arith, length, map, Config, ClientId}
use Words.{ServerId, Stamp, Note, Output, ClientInput, Phase, LogEntry}
use Words.nodes
use Words.notes
use Words.outputs
use Words.phases
use Words.Client as cl
use Words.ClientState.{Association, ClientState, client_turn}
use Words.Events as ev
use Words.Events.{WorldTurn}
use Words.Extents.{numbers}
use Words.FlatLog as log
use Words.Server as sv
use Words.Server.{ServerNode}
use Words.World as world
use Words.World.{World, WorldClient, clock_of, fresh_world, numbered, site_of, with_numbered}
use Words.Lists.{Has}
use Words.Lookups.{some_is}
use Words.Numbers.{length_more, numbered_below, numbered_other, numbered_own}
use Words.Tables.{has_map, same_or_not}
use Rattle.st_laws_pages.proofs.Disks.Whole.{site_is}
use Rattle.st_laws_bounds.specs.Counters.Counts.{AsksLow, FewAt}
use Rattle.st_laws_bounds.proofs.Counters.Weights.{asks_more, of_change, of_command, of_loss, of_message, weigh}
use Rattle.st_laws_bounds.proofs.Counters.Stepping.{AllLow, LowAt, step_low}
use Rattle.st_laws_bounds.proofs.Counters.Events.{Beside, Cases, ClientSteps, ServerSteps, Takes}

-- What holds of a client when there were n events.
pub record SiteLow (n : ℕ) (w : World) (site : WorldClient) : Type 0 where
  pub asks : site.asks ≤ n
  pub starts : site.starts ≤ n
  pub commands : site.node.state.next_command ≤ 1 + length w.commands
  pub associations : (a : Association) → Has a site.node.state.associations → FewAt w site.starts a

abbrev pub SitesLow : ℕ → World → Type 0
SitesLow n w = (c : ClientId) (site : WorldClient) → site_of w c ≡ Some site → SiteLow n w site

-- Rows do not get fewer.
pub record Grown (w v : World) : Type 0 where
  pub commands : length w.commands ≤ length v.commands
  pub log : length w.log ≤ length v.log
  pub ended : length w.ended ≤ length v.ended
  pub messages : length w.net.messages ≤ length v.net.messages

few_more : (w v : World) (starts : ℕ) (a : Association) → Grown w v → FewAt w starts a → FewAt v starts a
few_more w v starts a g h =
    let x = h.versions in let y = h.lives in let e = g.log in let f = g.ended in let m = g.messages in
    record { versions = omega (arith, x, e); lives = omega (arith, y, f); requests = asks_more (1 + length w.net.messages) (1 + length v.net.messages) a.session (omega (arith, m)) h.requests }

low_more : (m n : ℕ) (w v : World) (site : WorldClient) → m ≤ n → Grown w v → SiteLow m w site → SiteLow n v site
low_more m n w v site l g h =
    let x = h.asks in let y = h.starts in let z = h.commands in let e = g.commands in
    record { asks = omega (arith, x, l); starts = omega (arith, y, l); commands = omega (arith, z, e); associations = λ a i. few_more w v site.starts a g (h.associations a i) }

-- one client is replaced
replaced : (m n : ℕ) (w v : World) (c : ClientId) (old new : WorldClient) → m ≤ n → site_of w c ≡ Some old → v.clients ≡ with_numbered c.0 new w.clients → Grown w v → SiteLow n v new → SitesLow m w → SitesLow n v
replaced m n w v c old new l there cs g own h d site e = go (same_or_not d.0 c.0)
  where
    go : (d.0 ≡ c.0) ⊎ (d.0 ≢ c.0) → SiteLow n v site
    go (inl i) =
        let s : new ≡ site = some_is (sym (numbered_own w.clients c.0 new old there) ∙ ap (numbered (with_numbered c.0 new w.clients)) (sym i) ∙ ap (λ zs. numbered zs d.0) (sym cs) ∙ e) in
        subst (SiteLow n v) s own
    go (inr x) = low_more m n w v site l g (h d site (sym (numbered_other w.clients c.0 d.0 new (numbered_below w.clients c.0 old there).0 x) ∙ ap (λ zs. numbered zs d.0) (sym cs) ∙ e))

-- What a client's outputs add to the world: a row for each output of its kind.
pub record Said (c : ClientId) (os : List Output) (w v : World) : Type 0 where
  pub clients : v.clients ≡ w.clients
  pub commands : length v.commands ≡ length w.commands + weigh of_command os
  pub log : length v.log ≡ length w.log + weigh of_change os
  pub ended : length v.ended ≡ length w.ended + weigh of_loss os
  pub messages : length v.net.messages ≡ length w.net.messages + weigh of_message os

more_one : {A : Type 0} (xs : List A) (x : A) (n : ℕ) → n ≡ 1 → length (xs ++ x ∷ []) ≡ length xs + n
more_one xs x n e = let z = length_more xs x in omega (arith, z, e)

said_one : (c : ClientId) (before : ClientState) (site : WorldClient) (o : Output) (sc : WorldTurn) → site_of sc.world c ≡ Some site → Said c (o ∷ []) sc.world (ev.client_says sc c before o).world
unfolding ev.client_says ev.client_notes ev.sends ev.submits ev.answers_with ev.accepts ev.patches ev.loses log.accept log.patch
said_one c before site (outputs.Send m) sc own =
    record { clients = refl; commands = omega arith; log = omega arith; ended = omega arith; messages = more_one sc.world.net.messages _ 1 refl }
said_one c before site (outputs.Answer op a) sc own = record { clients = refl; commands = omega arith; log = omega arith; ended = omega arith; messages = omega arith }
said_one c before site (outputs.Submit number at what) sc own = go (site_of sc.world c) own
  where
    go : (o : Option WorldClient) → o ≡ Some site → Said c (outputs.Submit number at what ∷ []) sc.world (ev.submits sc c o number at what).world
    go None e = cc
    go (Some s) e = record { clients = refl; commands = more_one sc.world.commands _ 1 refl; log = omega arith; ended = omega arith; messages = omega arith }
said_one c before site (outputs.Note n) sc own = note n
  where
    note : (n : Note) → Said c (outputs.Note n ∷ []) sc.world (ev.client_notes sc c before n).world
    note (notes.Accepted f p bytes) = record { clients = refl; commands = omega arith; log = more_one sc.world.log _ 1 refl; ended = omega arith; messages = omega arith }
    note (notes.Patched f p at bytes) = record { clients = refl; commands = omega arith; log = more_one sc.world.log _ 1 refl; ended = omega arith; messages = omega arith }
    note (notes.Lost s life) = record { clients = refl; commands = omega arith; log = omega arith; ended = more_one sc.world.ended _ 1 refl; messages = omega arith }
    note n = record { clients = refl; commands = omega arith; log = omega arith; ended = omega arith; messages = omega arith }

pub said_all : (c : ClientId) (before : ClientState) (site : WorldClient) (os : List Output) (sc : WorldTurn) → site_of sc.world c ≡ Some site → Said c os sc.world (ev.client_says_all c before os sc).world
unfolding ev.client_says_all
said_all c before site [] sc own = record { clients = refl; commands = omega arith; log = omega arith; ended = omega arith; messages = omega arith }
said_all c before site (o ∷ os) sc own =
    let x = said_one c before site o sc own in
    let y = said_all c before site os (ev.client_says sc c before o) (ap (λ zs. numbered zs c.0) x.clients ∙ own) in
    let a = x.commands in let b = x.log in let d = x.ended in let e = x.messages in let f = y.commands in let g = y.log in let h = y.ended in let i = y.messages in
    record { clients = y.clients ∙ x.clients; commands = omega (arith, a, f); log = omega (arith, b, g); ended = omega (arith, d, h); messages = omega (arith, e, i) }

-- flush steps change no other row
pub record SameRows (w v : World) : Type 0 where
  pub clients : v.clients ≡ w.clients
  pub servers : v.servers ≡ w.servers
  pub tally : v.tally ≡ w.tally
  pub commands : v.commands ≡ w.commands
  pub log : v.log ≡ w.log
  pub ended : v.ended ≡ w.ended
  pub net : v.net ≡ w.net

same_rows : (w : World) → SameRows w w
same_rows w = record { clients = refl; servers = refl; tally = refl; commands = refl; log = refl; ended = refl; net = refl }

pub flush_rows : (c : ClientId) (s : ClientState) (ss : List ServerId) (w : World) → SameRows w (ev.flushes c s ss w)
unfolding ev.flushes
flush_rows c s [] w = same_rows w
flush_rows c s (x ∷ ss) w = go (in_phase (cl.lease_end_with s x) (cl.phase_with s x (clock_of w (nodes.Client c)))) (flush_rows c s ss (ev.flushed_at w c x s))
  where
    under : (o : Option Stamp) → SameRows w (ev.flushed_under w c x o)
    under None = same_rows w
    under (Some e) = record { clients = refl; servers = refl; tally = refl; commands = refl; log = refl; ended = refl; net = refl }

    in_phase : (o : Option Stamp) (p : Option Phase) → SameRows w (ev.flushed_in w c x o p)
    in_phase o (Some phases.Flush) = under o
    in_phase o (Some phases.Valid) = same_rows w
    in_phase o (Some phases.Renewal) = same_rows w
    in_phase o (Some phases.Quiesce) = same_rows w
    in_phase o (Some phases.Expired) = same_rows w
    in_phase o None = same_rows w

    go : SameRows w (ev.flushed_at w c x s) → SameRows (ev.flushed_at w c x s) (ev.flushes c s ss (ev.flushed_at w c x s)) → SameRows w (ev.flushes c s ss (ev.flushed_at w c x s))
    go a b = record { clients = b.clients ∙ a.clients; servers = b.servers ∙ a.servers; tally = b.tally ∙ a.tally; commands = b.commands ∙ a.commands; log = b.log ∙ a.log; ended = b.ended ∙ a.ended; net = b.net ∙ a.net }

-- A client's step.
took : (n : ℕ) (w : World) (c : ClientId) (input : ClientInput) (old site : WorldClient) → site_of w c ≡ Some old → Takes old site input → SitesLow n w → SitesLow (n + 1) (ev.client_took w c site (Ok (ClientSteps w c site input))).world
unfolding ev.client_took
took n w c input old site there is h =
    replaced n (n + 1) w v c old after (omega arith) there (rows.clients ∙ said.clients)
    (let a = said.commands in let b = said.log in let d = said.ended in let e = said.messages in
    record {
      commands = subst (λ zs. length w.commands ≤ length zs) (sym rows.commands) (omega (arith, a));
      log = subst (λ zs. length w.log ≤ length zs) (sym rows.log) (omega (arith, b));
      ended = subst (λ zs. length w.ended ≤ length zs) (sym rows.ended) (omega (arith, d));
      messages = subst (λ (x : world.Net). length w.net.messages ≤ length x.messages) (sym rows.net) (omega (arith, e));
    }) own h
  where
    t : cl.NodeTurn
    t = ClientSteps w c site input

    after : WorldClient
    after = ev.at_node t.node site

    u : World
    u = (ev.client_says_all c site.node.state t.out (ev.quiet (ev.with_site c after w))).world

    v : World
    v = ev.flushes c t.node.state (world.all_servers u) u

    rows : SameRows u v
    rows = flush_rows c t.node.state (world.all_servers u) u

    said : Said c t.out (ev.with_site c after w) u
    said = said_all c site.node.state after t.out (ev.quiet (ev.with_site c after w)) (numbered_own w.clients c.0 after old there)

    low : SiteLow n w old
    low = h c old there

    -- what was at the node
    begun : AllLow (length w.commands) (length w.log) (length w.ended + site.starts) (length w.net.messages) (client_turn site.node.state [])
    begun =
        let x = ap (λ (m : cl.ClientNode). m.state.next_command) is.node in let y = low.commands in
        record { commands = omega (arith, x, y); each = λ a i. at a (low.associations a (subst (λ (m : cl.ClientNode). Has a m.state.associations) (sym is.node) i)) }
      where
        at : (a : Association) → FewAt w old.starts a → LowAt (length w.log) (length w.ended + site.starts) (length w.net.messages) [] a
        at a f =
            let x = f.versions in let y = f.lives in let z = is.starts in
            record { versions = omega (arith, x); lives = omega (arith, y, z); requests = asks_more (1 + length w.net.messages) (1 + length w.net.messages + 0) a.session (omega arith) f.requests }

    ends : AllLow (length w.commands) (length w.log) (length w.ended + site.starts) (length w.net.messages) (cl.client_step site.node.state (clock_of w (nodes.Client c)) input)
    ends = step_low (length w.commands) (length w.log) (length w.ended + site.starts) (length w.net.messages) site.node.state (clock_of w (nodes.Client c)) input begun

    few : (a : Association) → Has a t.node.state.associations → FewAt v site.starts a
    few a i =
        let f = ends.each a i in
        let x = f.versions in let y = f.lives in let b = said.log in let d = said.ended in let e = said.messages in
        record {
          versions = subst (λ zs. a.store.pages.next_version ≤ 1 + length zs) (sym rows.log) (omega (arith, x, b));
          lives = subst (λ zs. a.life.0 ≤ 1 + length zs + site.starts) (sym rows.ended) (omega (arith, y, d));
          requests = subst (λ (x : world.Net). AsksLow (1 + length x.messages) a.session) (sym rows.net) (asks_more _ _ a.session (omega (arith, e)) f.requests);
        }

    own : SiteLow (n + 1) v after
    own =
        let x = ends.commands in let a = said.commands in let y = low.asks in let z = is.asks in let s = low.starts in let r = is.starts in
        record {
          asks = omega (arith, y, z);
          starts = omega (arith, s, r);
          commands = subst (λ zs. t.node.state.next_command ≤ 1 + length zs) (sym rows.commands) (omega (arith, x, a));
          associations = few;
        }

-- A server's step.

-- what a theft weighs
abbrev pub note_of_theft : Note → ℕ
note_of_theft (notes.Stolen c life) = 1
note_of_theft n = 0

abbrev pub of_theft : Output → ℕ
of_theft (outputs.Note n) = note_of_theft n
of_theft o = 0

-- what a server's outputs add to the world: messages, cuts and thefts
pub record Served (os : List Output) (w v : World) : Type 0 where
  pub clients : v.clients ≡ w.clients
  pub servers : v.servers ≡ w.servers
  pub events : v.tally.events ≡ w.tally.events
  pub reads : v.tally.reads ≡ w.tally.reads
  pub stolen : v.tally.stolen ≡ w.tally.stolen + weigh of_theft os
  pub grown : Grown w v

grown_same : (w : World) → Grown w w
grown_same w = record { commands = omega arith; log = omega arith; ended = omega arith; messages = omega arith }

one_grown : {A : Type 0} (xs : List A) (x : A) → length xs ≤ length (xs ++ x ∷ [])
one_grown xs x = let z = length_more xs x in omega (arith, z)

served_one : (s : ServerId) (o : Output) (sc : WorldTurn) → Served (o ∷ []) sc.world (ev.server_says sc s o).world
unfolding ev.server_says ev.server_notes ev.cuts ev.sends log.cut
served_one s (outputs.Send m) sc =
    record { clients = refl; servers = refl; events = refl; reads = refl; stolen = omega arith; grown = record { commands = omega arith; log = omega arith; ended = omega arith; messages = one_grown sc.world.net.messages _ } }
served_one s (outputs.Note n) sc = note n
  where
    note : (n : Note) → Served (outputs.Note n ∷ []) sc.world (ev.server_notes sc s n).world
    note (notes.CutDone f p) =
        record { clients = refl; servers = refl; events = refl; reads = refl; stolen = omega arith; grown = record { commands = omega arith; log = one_grown sc.world.log _; ended = omega arith; messages = omega arith } }
    note (notes.Stolen c life) =
        record { clients = refl; servers = refl; events = refl; reads = refl; stolen = omega arith; grown = record { commands = omega arith; log = omega arith; ended = omega arith; messages = omega arith } }
    note n = record { clients = refl; servers = refl; events = refl; reads = refl; stolen = omega arith; grown = grown_same sc.world }
served_one s (outputs.Answer op a) sc = record { clients = refl; servers = refl; events = refl; reads = refl; stolen = omega arith; grown = grown_same sc.world }
served_one s (outputs.Submit number at what) sc = record { clients = refl; servers = refl; events = refl; reads = refl; stolen = omega arith; grown = grown_same sc.world }

pub served_all : (s : ServerId) (os : List Output) (sc : WorldTurn) → Served os sc.world (ev.server_says_all s os sc).world
unfolding ev.server_says_all
served_all s [] sc = record { clients = refl; servers = refl; events = refl; reads = refl; stolen = omega arith; grown = grown_same sc.world }
served_all s (o ∷ os) sc =
    let x = served_one s o sc in
    let y = served_all s os (ev.server_says sc s o) in
    let a = x.stolen in let b = y.stolen in
    let d = x.grown.commands in let e = x.grown.log in let f = x.grown.ended in let g = x.grown.messages in
    let h = y.grown.commands in let i = y.grown.log in let j = y.grown.ended in let l = y.grown.messages in
    record {
      clients = y.clients ∙ x.clients;
      servers = y.servers ∙ x.servers;
      events = y.events ∙ x.events;
      reads = y.reads ∙ x.reads;
      stolen = omega (arith, a, b);
      grown = record { commands = omega (arith, d, h); log = omega (arith, e, i); ended = omega (arith, f, j); messages = omega (arith, g, l) };
    }

-- the same clients, and no fewer rows
same_clients : (m n : ℕ) (w v : World) → m ≤ n → v.clients ≡ w.clients → Grown w v → SitesLow m w → SitesLow n v
same_clients m n w v l cs g h c site e = low_more m n w v site l g (h c site (ap (λ zs. numbered zs c.0) (sym cs) ∙ e))

-- A crash, and a start.
crashed : (n : ℕ) (w : World) (c : ClientId) (site : WorldClient) (es : List LogEntry) → site_of w c ≡ Some site → length es ≡ length w.log → SitesLow n w → SitesLow (n + 1) (ev.with_log es (ev.with_site c (ev.stopped_site site) (ev.with_crashed_lives site w)))
unfolding cl.crash
crashed n w c site es there l h =
    replaced n (n + 1) w v c site (ev.stopped_site site) (omega arith) there refl grown
    (record { asks = let x = low.asks in omega (arith, x); starts = let x = low.starts in omega (arith, x); commands = omega arith; associations = λ a i. one a (has_map cl.crashed_association site.node.state.associations a i) }) h
  where
    v : World
    v = ev.with_log es (ev.with_site c (ev.stopped_site site) (ev.with_crashed_lives site w))

    low : SiteLow n w site
    low = h c site there

    grown : Grown w v
    grown = record { commands = omega arith; log = omega (arith, l); ended = let z = length_both w.ended (map ev.crashed_life (world.lives_of site.node.state)) in omega (arith, z); messages = omega arith }
      where
        length_both : {A : Type 0} (xs ys : List A) → length (xs ++ ys) ≡ length xs + length ys
        length_both [] ys = omega arith
        length_both (x ∷ xs) ys = let z = length_both xs ys in omega (arith, z)

    one : (a : Association) → (x : Association) × Has x site.node.state.associations × (a ≡ cl.crashed_association x) → FewAt v site.starts a
    one a (x, i, e) = subst (FewAt v site.starts) (sym e) (record { versions = omega arith; lives = (few_more w v site.starts x grown (low.associations x i)).lives; requests = tt })

started : (n : ℕ) (w : World) (c : ClientId) (site : WorldClient) → site_of w c ≡ Some site → SitesLow n w → SitesLow (n + 1) (ev.with_site c (ev.started_site site) w)
unfolding cl.start
started n w c site there h =
    replaced n (n + 1) w v c site (ev.started_site site) (omega arith) there refl (record { commands = omega arith; log = omega arith; ended = omega arith; messages = omega arith })
    (record { asks = let x = low.asks in omega (arith, x); starts = let x = low.starts in omega (arith, x); commands = omega arith; associations = λ a i. one a (has_map cl.started_association site.node.state.associations a i) }) h
  where
    v : World
    v = ev.with_site c (ev.started_site site) w

    low : SiteLow n w site
    low = h c site there

    one : (a : Association) → (x : Association) × Has x site.node.state.associations × (a ≡ cl.started_association x) → FewAt v (site.starts + 1) a
    one a (x, i, e) = subst (FewAt v (site.starts + 1)) (sym e) (record { versions = omega arith; lives = let z = (low.associations x i).lives in omega (arith, z); requests = tt })

grown_of : (w v : World) → Beside w v → Grown w v
grown_of w v b = let c = b.commands in let m = b.messages in record { commands = omega (arith, c); log = b.log; ended = b.ended; messages = omega (arith, m) }

pub cases : (n : ℕ) → Cases (SitesLow n) (SitesLow (n + 1))
unfolding ev.server_took
cases n =
    record {
      beside = λ w v b h. same_clients n n w v (omega arith) b.clients (grown_of w v b) h;
      done = λ w h. same_clients n (n + 1) w w (omega arith) refl (grown_same w) h;
      client = λ w c input old site there is r h. took n w c input old site there is h;
      server = λ w s input node there r h.
          let t = ServerSteps w s node input in
          let said = served_all s t.out (ev.quiet (ev.with_node s t.node w)) in
          same_clients n (n + 1) w (ev.server_says_all s t.out (ev.quiet (ev.with_node s t.node w))).world (omega arith) said.clients (grown_by w s t.node (ev.server_says_all s t.out (ev.quiet (ev.with_node s t.node w))).world said.grown) h;
      crash = crashed n;
      start = started n;
      stop = λ w s node there h. same_clients n (n + 1) w (ev.with_node s (sv.crash_node node) w) (omega arith) refl (grown_by w s (sv.crash_node node) _ (grown_same _)) h;
      begin = λ w s node there h. same_clients n (n + 1) w (ev.with_node s (sv.start_node node (clock_of w (nodes.Server s))) w) (omega arith) refl (grown_by w s (sv.start_node node (clock_of w (nodes.Server s))) _ (grown_same _)) h;
    }
  where
    grown_by : (w : World) (s : ServerId) (node : ServerNode) (v : World) → Grown (ev.with_node s node w) v → Grown w v
    grown_by w s node v g = record { commands = g.commands; log = g.log; ended = g.ended; messages = g.messages }

-- the world of a head
pub fresh_low : (k : Config) (clients servers d b form : ℕ) → SitesLow 0 (fresh_world k clients servers d b form)
unfolding fresh_world cl.fresh_client
fresh_low k clients servers d b form c site e =
    subst (SiteLow 0 v) (sym (site_is k clients servers c.0 site e).0)
    (record { asks = omega arith; starts = omega arith; commands = omega arith; associations = λ a i. one a (has_map cl.fresh_association (numbers 1 servers) a i) })
  where
    v : World
    v = fresh_world k clients servers d b form

    one : (a : Association) → (x : ℕ) × Has x (numbers 1 servers) × (a ≡ cl.fresh_association x) → FewAt v 0 a
    one a (x, i, q) = subst (FewAt v 0) (sym q) (record { versions = omega arith; lives = omega arith; requests = tt })
