-- No event takes the clock of a client back.
use Rattle.st_lemmas.proofs.Words
use Words.{◌≡◌, ℕ, ◌≤◌, arith, List, [], ◌∷◌, Option, Some, None, Ok, refl, sym, ◌∙◌, subst, ClientId, ClientInput, Event, Note, Output}
use Words.nodes
use Words.notes
use Words.outputs
use Words.Client as cl
use Words.ClientState.{ClientState}
use Words.Events as ev
use Words.Events.{WorldTurn, client_notes, client_says, client_says_all, counted, world_step}
use Words.World as world
use Words.World.{World, WorldClient, clock_of, site_of}
use Words.Worlds.{counted_admits}
use Rattle.st_lemmas.proofs.Steps.{step_happens}
use Rattle.st_laws_steps.specs.Lives.Lives.{clock_in}
use Rattle.st_laws_pages.proofs.Disks.Moves.{clock_up}
use Rattle.st_laws_pages.proofs.Lives.Each.{SteppedNode, each_event}
use Rattle.st_laws_pages.proofs.Lives.Lasting.{flush_parts}

says_one : (c : ClientId) (before : ClientState) (o : Output) (sc : WorldTurn) → (client_says sc c before o).world.clocks ≡ sc.world.clocks
unfolding client_says client_notes ev.sends ev.submits ev.answers_with ev.accepts ev.patches ev.loses
says_one c before (outputs.Send m) sc = refl
says_one c before (outputs.Answer op a) sc = refl
says_one c before (outputs.Submit number at what) sc = go (site_of sc.world c)
  where
    go : (o : Option WorldClient) → (ev.submits sc c o number at what).world.clocks ≡ sc.world.clocks
    go None = refl
    go (Some site) = refl
says_one c before (outputs.Note n) sc = note n
  where
    note : (n : Note) → (client_notes sc c before n).world.clocks ≡ sc.world.clocks
    note (notes.Leased s end) = refl
    note (notes.Lost s life) = refl
    note (notes.Accepted f p bytes) = refl
    note (notes.Patched f p at bytes) = refl
    note n = refl

says_all : (c : ClientId) (before : ClientState) (os : List Output) (sc : WorldTurn) → (client_says_all c before os sc).world.clocks ≡ sc.world.clocks
unfolding client_says_all
says_all c before [] sc = refl
says_all c before (o ∷ os) sc = says_all c before os (client_says sc c before o) ∙ says_one c before o sc

-- no clock goes back
abbrev pub GoOn : World → World → Type 0
GoOn w v = (c : ClientId) → (clock_of w (nodes.Client c)).0 ≤ (clock_of v (nodes.Client c)).0

same_clocks : (w v u : World) → u.clocks ≡ v.clocks → GoOn w v → GoOn w u
same_clocks w v u e h c = subst (λ ts. (clock_of w (nodes.Client c)).0 ≤ (clock_in ts c).0) (sym e) (h c)

took : (w v : World) (c : ClientId) (input : ClientInput) (site : WorldClient) → GoOn w v →
    GoOn w (ev.client_took v c site (Ok (SteppedNode v c site input))).world
unfolding ev.client_took
took w v c input site h =
    same_clocks w v (ev.flushes c t.node.state (world.all_servers u) u)
    ((flush_parts c t.node.state (world.all_servers u) u).clocks
    ∙ says_all c site.node.state t.out (ev.quiet (ev.with_site c (ev.at_node t.node site) v))) h
  where
    t : cl.NodeTurn
    t = SteppedNode v c site input

    u : World
    u = (client_says_all c site.node.state t.out (ev.quiet (ev.with_site c (ev.at_node t.node site) v))).world

advanced : (w v : World) (steps : List ℕ) → GoOn w v → GoOn w (ev.advances v steps).world
unfolding ev.advances ev.marks
advanced w v steps h c = let a = h c in let b = clock_up v steps c in omega (arith, a, b)

crashed : (w v : World) (c : ClientId) (site : WorldClient) → GoOn w v → GoOn w (ev.crashes_client v c (Some site)).world
unfolding ev.crashes_client ev.marks
crashed w v c site h = h

started : (w v : World) (c : ClientId) (site : WorldClient) → GoOn w v → GoOn w (ev.starts_client v c (Some site))
unfolding ev.starts_client
started w v c site h = h

-- Each event
pub clocks_go_on : (w : World) (e : Event) (sc : WorldTurn) → world_step w e ≡ Ok sc → GoOn w sc.world
clocks_go_on w e sc is =
    let z = step_happens w e sc is in
    subst (λ (s : WorldTurn). GoOn w s.world) (sym z.1)
    (each_event (λ c. Unit {0}) (GoOn w)
    (record {
      besides = λ v n s d t g h. h;
      cut = λ v f p h. h;
      hard = λ v x h. h;
      client = λ v c input old site there same r h. took w v c input site h;
      advance = λ v steps h. advanced w v steps h;
      crash = λ v c site x there r h. crashed w v c site h;
      start = λ v c site there r h. started w v c site h;
    })
    (counted w) e (λ c q. tt) (counted_admits w e z.0) (λ c. omega arith))
