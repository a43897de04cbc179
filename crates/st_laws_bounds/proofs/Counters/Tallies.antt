-- How many events were counted: no event counts another one. What a client's outputs count.
use Rattle.st_lemmas.proofs.Words
use Words.{◌≡◌, ℕ, ◌+◌, List, [], ◌∷◌, Option, Some, None, refl, ap, ◌∙◌, arith, ClientId, Note, Output}
use Words.notes
use Words.outputs
use Words.ClientState.{ClientState}
use Words.Events as ev
use Words.Events.{WorldTurn}
use Words.World.{Tally, World, WorldClient, all_servers, site_of}
use Rattle.st_laws_bounds.proofs.Counters.Weights.{weigh}
use Rattle.st_laws_bounds.proofs.Counters.Events.{Cases, ClientSteps, ServerSteps}
use Rattle.st_laws_bounds.proofs.Counters.Clients.{flush_rows, served_all}

-- what an answer of a read weighs
abbrev pub of_read : Output → ℕ
of_read (outputs.Answer op answer) = ev.reads_in answer
of_read o = 0

-- what a client's outputs count
pub record Told (os : List Output) (w v : World) : Type 0 where
  pub servers : v.servers ≡ w.servers
  pub events : v.tally.events ≡ w.tally.events
  pub stolen : v.tally.stolen ≡ w.tally.stolen
  pub reads : v.tally.reads ≡ w.tally.reads + weigh of_read os

told_one : (c : ClientId) (before : ClientState) (o : Output) (sc : WorldTurn) → Told (o ∷ []) sc.world (ev.client_says sc c before o).world
unfolding ev.client_says ev.client_notes ev.sends ev.submits ev.answers_with ev.accepts ev.patches ev.loses
told_one c before (outputs.Send m) sc = record { servers = refl; events = refl; stolen = refl; reads = omega arith }
told_one c before (outputs.Answer op a) sc = record { servers = refl; events = refl; stolen = refl; reads = omega arith }
told_one c before (outputs.Submit number at what) sc = go (site_of sc.world c)
  where
    go : (o : Option WorldClient) → Told (outputs.Submit number at what ∷ []) sc.world (ev.submits sc c o number at what).world
    go None = record { servers = refl; events = refl; stolen = refl; reads = omega arith }
    go (Some s) = record { servers = refl; events = refl; stolen = refl; reads = omega arith }
told_one c before (outputs.Note n) sc = note n
  where
    note : (n : Note) → Told (outputs.Note n ∷ []) sc.world (ev.client_notes sc c before n).world
    note (notes.Accepted f p bytes) = record { servers = refl; events = refl; stolen = refl; reads = omega arith }
    note (notes.Patched f p at bytes) = record { servers = refl; events = refl; stolen = refl; reads = omega arith }
    note (notes.Lost s life) = record { servers = refl; events = refl; stolen = refl; reads = omega arith }
    note n = record { servers = refl; events = refl; stolen = refl; reads = omega arith }

pub told_all : (c : ClientId) (before : ClientState) (os : List Output) (sc : WorldTurn) → Told os sc.world (ev.client_says_all c before os sc).world
unfolding ev.client_says_all
told_all c before [] sc = record { servers = refl; events = refl; stolen = refl; reads = omega arith }
told_all c before (o ∷ os) sc =
    let x = told_one c before o sc in
    let y = told_all c before os (ev.client_says sc c before o) in
    let a = x.reads in let b = y.reads in
    record { servers = y.servers ∙ x.servers; events = y.events ∙ x.events; stolen = y.stolen ∙ x.stolen; reads = omega (arith, a, b) }

-- that many events were counted
abbrev pub EventsAre : ℕ → World → Type 0
EventsAre m w = w.tally.events ≡ m

pub events_cases : (m : ℕ) → Cases (EventsAre m) (EventsAre m)
unfolding ev.client_took ev.server_took
events_cases m =
    record {
      beside = λ w v b h. ap (λ (t : Tally). t.events) b.tally ∙ h;
      done = λ w h. h;
      client = λ w c input old site there is r h.
          let t = ClientSteps w c site input in
          let sc = ev.client_says_all c site.node.state t.out (ev.quiet (ev.with_site c (ev.at_node t.node site) w)) in
          ap (λ (t : Tally). t.events) (flush_rows c t.node.state (all_servers sc.world) sc.world).tally ∙ (told_all c site.node.state t.out (ev.quiet (ev.with_site c (ev.at_node t.node site) w))).events ∙ h;
      server = λ w s input node there r h. let t = ServerSteps w s node input in (served_all s t.out (ev.quiet (ev.with_node s t.node w))).events ∙ h;
      crash = λ w c site es there l h. h;
      start = λ w c site there h. h;
      stop = λ w s node there h. h;
      begin = λ w s node there h. h;
    }
