-- Time passes for all clients of a server at once, in both forms of the head: the clocks move, and then grace may end.
use Rattle.st_lemmas.proofs.Words
use Words.{◌≡◌, ℕ, zero, suc, ◌+◌, ◌*◌, ◌<◌, ◌≤◌, Bool, true, false, List, [], ◌∷◌, ◌==◌, if◌then◌else◌, refl, sym, ap, ◌∙◌, subst, inl, arith, pred, length}
use Words.{get_or, slice_index, unwrap_or, Option, Some, None, Ok, Stamp, LogEntry}
use Words.nodes
use Words.events
use Words.Keys.{client}
use Words.ClientPages.{empty_store}
use Words.ClientState.{Association}
use Words.Client.{association_with}
use Words.Grace as grace
use Words.Server.{ServerNode}
use Words.World.{World, WorldClient, numbered, site_of, clock_of, server, stamp}
use Words.Admissible.{refusal, clocks_refused}
use Words.Events.{WorldTurn, counted, with_log, with_clocks, drift_with, advanced, advances, marks, log_ended_all, lives_reached, happens, world_step}
use Words.Leases.{drift_after}
use Words.Numbers.{numbered_below, get_there}
use Words.Truth.{not_both, or_first}
use Rattle.st_base.specs.declared.config.Config as base
use Rattle.st_rules.proofs.Drift.{IsSquare, pair_at, square_after}
use Rattle.st_protocol.specs.Assoc as net
use Rattle.st_protocol.specs.Assoc.{Config, ConfigOk, Assoc, Reached, Then, Advance, GraceEnds, Move}
use Rattle.st_protocol.proofs.World.{invariant}
use Rattle.st_laws_refine.specs.Views.Halves.{Ghost, client_at, half_of}
use Rattle.st_lemmas.proofs.Steps.{step_happens}
use Rattle.st_laws_refine.specs.Server.View.{StandsAt}
use Rattle.st_laws_refine.specs.Server.Pair.{client_view, client_at_site, client_in, pair, drift_between, terms_of, Timed}
use Rattle.st_laws_refine.specs.Server.Paths.{Leads, Path, SteppedOn}
use Rattle.st_laws_refine.proofs.Server.Clocks.{Rated, accepted, clock_after}
use Rattle.st_laws_refine.proofs.Server.Delivery.{sound_of}
use Rattle.st_laws_refine.proofs.Server.Epochs as epochs
use Rattle.st_laws_refine.specs.Server.Invariants.{pairs, Stands}

-- a clock after an advance, by its place from 1
clock_on : (steps : List ℕ) (clocks : List Stamp) (p : ℕ) → 1 ≤ p → p ≤ length clocks → length steps ≡ length clocks →
    (unwrap_or (numbered (advanced steps clocks) p) (stamp 0)).0 ≡ (unwrap_or (numbered clocks p) (stamp 0)).0 + slice_index steps (pred p)
clock_on steps clocks zero a b e = absurd (omega arith)
clock_on steps clocks (suc q) a b e =
    let g = get_there clocks q (omega arith) in
    ap (λ o. (unwrap_or o (stamp 0)).0) (clock_after steps clocks q g.0 g.1 (omega arith))
    ∙ ap (λ o. (unwrap_or o (stamp 0)).0 + slice_index steps q) (sym g.1)

-- a client's half when its clock moves
view_later : (running : Bool) (ended : ℕ → ℕ) (now later : Stamp) (dc : ℕ) (o : Option Association) → now.0 + dc ≡ later.0 →
    record (client_view running ended now o) { clock = (client_view running ended now o).clock + dc } ≡ client_view running ended later o
view_later running ended now later dc None e = λ j. client_at (e j) 1 None empty_store ended
view_later running ended now later dc (Some a) e = λ j. record (client_view running ended now (Some a)) { clock = e j }

-- the world after an advance
abbrev pub later_world : World → List ℕ → List LogEntry → World
later_world w steps new = with_log new (with_clocks steps (counted w))

counted_drift : (w : World) (steps : List ℕ) → drift_with (counted w) steps ≡ drift_with w steps
unfolding drift_with
counted_drift w steps = refl

advance_is : (w : World) (steps : List ℕ) → (happens (counted w) (events.Advance steps)).world ≡ later_world w steps (log_ended_all w.commands (lives_reached (counted w) steps) w.log)
unfolding happens advances marks
advance_is w steps = refl

advance_ok : (w : World) (steps : List ℕ) → refusal w (events.Advance steps) ≡ None → clocks_refused w steps ≡ None
unfolding refusal
advance_ok w steps e = or_first _ _ e

distributes : (d a b : ℕ) → d * (a + b) ≡ d * a + d * b
distributes d a b = omega arith

no_less : (n x : ℕ) → 0 < n → x ≤ n * x
no_less zero x h = absurd (omega arith)
no_less (suc n) x h = omega arith

-- what holds in the world's settings holds in the machine's
rate_of : (kb : base.Config) (k : Config) → k ≡ terms_of kb → (x ds y dc : ℕ) → x + kb.den * ds ≤ y + kb.num * dc → x + k.den * ds ≤ y + k.num * dc
rate_of kb k e x ds y dc h = subst (λ (k : Config). x + k.den * ds ≤ y + k.num * dc) (sym e) h

limit_of : (kb : base.Config) (k : Config) → k ≡ terms_of kb → (x : ℕ) → x ≤ kb.den * kb.grain → x ≤ k.den * k.grain
limit_of kb k e x h = subst (λ (k : Config). x ≤ k.den * k.grain) (sym e) h

limit_back : (kb : base.Config) (k : Config) → k ≡ terms_of kb → (x : ℕ) → x ≤ k.den * k.grain → x ≤ kb.den * kb.grain
limit_back kb k e x h = subst (λ (k : Config). x ≤ k.den * k.grain) e h

square_with : (w : World) (steps : List ℕ) (nodes : ℕ) → length steps ≡ nodes → IsSquare w.drift nodes → IsSquare (drift_with w steps) nodes
unfolding drift_with
square_with w steps nodes e sq = go (w.form == 1)
  where
    go : (b : Bool) → IsSquare (if b then w.drift else drift_after w.drift steps w.config.num w.config.den) nodes
    go true = sq
    go false = square_after w.drift steps w.config.num w.config.den nodes e sq

advanced_length : (steps : List ℕ) (clocks : List Stamp) → length steps ≡ length clocks → length (advanced steps clocks) ≡ length clocks
unfolding advanced
advanced_length [] clocks e = refl
advanced_length (d ∷ ds) [] e = cc
advanced_length (d ∷ ds) (t ∷ ts) e = ap suc (advanced_length ds ts (omega arith))

module _ (k : Config) (s : ℕ) (ended : ℕ → ℕ → ℕ) (w : World) (node : ServerNode) (G : ℕ → Ghost) (steps : List ℕ) (new : List LogEntry) where
  abbrev V : World
  V = later_world w steps new

  drift_V : (c : ℕ) → drift_between V c s ≡ pair_at (drift_with w steps) (pred (length w.clients + s)) (pred c)
  drift_V c = ap (λ d. pair_at d (pred (length w.clients + s)) (pred c)) (counted_drift w steps)

  abbrev Now : Stamp
  Now = clock_of w (nodes.Server (server s))

  abbrev Later : Stamp
  Later = clock_of V (nodes.Server (server s))

  -- the server's step
  abbrev Ds : ℕ
  Ds = slice_index steps (pred (length w.clients + s))

  -- the drift of a client after the advance
  abbrev drift_now : ℕ → Option WorldClient → ℕ
  drift_now c None = 0
  drift_now c (Some site) = drift_between V c s

  abbrev pub later_ghost : ℕ → Ghost
  later_ghost c = record (G c) { drift = drift_now c (site_of w (client c)) }

  -- what is known before
  pub record Before : Type 0 where
    pub ok : ConfigOk k
    pub pos : 1 ≤ s
    pub full : length steps ≡ length w.clocks
    pub accepted : clocks_refused w steps ≡ None
    pub timed : Timed k s w G
    pub stands : Stands k s ended w node G

  module _ (b : Before) where
    there : s ≤ length w.servers
    there = let z = numbered_below w.servers s node (b.stands.served 0).found in z.1

    server_later : Now.0 + Ds ≡ Later.0
    server_later = sym (clock_on steps w.clocks (length w.clients + s) (let p = b.pos in omega arith) (let t = there in let c = b.timed.count in omega arith) b.full)

    square : IsSquare w.drift (length w.clocks)
    square = record { tall = b.timed.tall; wide = b.timed.wide }

    limit : (c : ℕ) → (G c).drift ≤ k.den * k.grain
    limit c = (invariant k (pairs s ended w node G) b.ok b.stands.reached c).timing_.limit

    -- what the accepted advance says of the server and a client
    rated : (c : ℕ) (site : WorldClient) → site_of w (client c) ≡ Some site → Rated w steps (length w.clocks) (pred (length w.clients + s)) (pred c)
    rated c site e =
        let z = numbered_below w.clients c site e in let t = there in let n = b.timed.count in let p = b.pos in
        accepted w steps (length w.clocks) (pred (length w.clients + s)) (pred c) b.accepted b.full square (omega arith) (omega arith)
        (let d = b.timed.known c site e in let l = limit_back w.config k b.timed.terms (G c).drift (limit c) in omega arith)

    -- the association when its clocks have moved, its grace as before
    mid : ℕ → Assoc
    mid c = record { c = client_in V c s (ended c); s = record (half_of (client c) Later node.running node.state (later_ghost c)) { grace = grace.is_on node.state.grace Now }; net = (G c).net }

    move : (c : ℕ) → Move k (pair c s (ended c) w node (G c)) (mid c)
    unfolding mid
    move c = go (site_of w (client c)) refl
      where
        at : net.Client → ℕ → ℕ → Bool → Assoc
        at cl clock e x = record { c = cl; s = record (half_of (client c) Now node.running node.state (G c)) { clock = clock; drift = e }; net = (G c).net }

        go : (o : Option WorldClient) → site_of w (client c) ≡ o →
            Move k (record { c = client_at_site w c s (ended c) o; s = half_of (client c) Now node.running node.state (G c); net = (G c).net })
            (record { c = client_at_site V c s (ended c) o; s = record (half_of (client c) Later node.running node.state (record (G c) { drift = drift_now c o })) { grace = grace.is_on node.state.grace Now }; net = (G c).net })
        go (Some site) e =
            let z = numbered_below w.clients c site e in let r = rated c site e in let d = b.timed.known c site e in
            let cl : net.Client = client_at_site w c s (ended c) (Some site) in
            let v = view_later site.node.running (ended c) (clock_of w (nodes.Client (client c))) (clock_of V (nodes.Client (client c))) (slice_index steps (pred c)) (association_with site.node.state (server s))
            (sym (clock_on steps w.clocks c z.0 (let n = b.timed.count in omega (arith, z.1)) b.full)) in
            subst (λ a. Move k (record { c = cl; s = half_of (client c) Now node.running node.state (G c); net = (G c).net }) a)
            (λ j. record { c = v j; s = record (half_of (client c) Now node.running node.state (record (G c) { drift = drift_between V c s })) { clock = server_later j }; net = (G c).net })
            (Advance (record { c = cl; s = half_of (client c) Now node.running node.state (G c); net = (G c).net }) (slice_index steps (pred c)) Ds (drift_between V c s)
            (rate_of w.config k b.timed.terms (G c).drift Ds (drift_between V c s) (slice_index steps (pred c)) (let q : drift_between w c s + w.config.den * Ds ≤ pair_at (drift_with w steps) (pred (length w.clients + s)) (pred c) + w.config.num * slice_index steps (pred c) = r.rate in let d2 : (G c).drift ≡ drift_between w c s = d in let d3 = drift_V c in omega arith))
            (limit_of w.config k b.timed.terms (drift_between V c s) (let q = r.limit in let d3 = drift_V c in omega arith)))
        go None e =
            let d = b.timed.idle c e in
            let cl : net.Client = client_at_site w c s (ended c) None in
            subst (λ a. Move k (record { c = cl; s = half_of (client c) Now node.running node.state (G c); net = (G c).net }) a)
            (λ j. record { c = client_at ((sym (distributes w.config.den Now.0 Ds) ∙ ap (λ n. w.config.den * n) server_later) j) 1 None empty_store (λ l. 0); s = record (half_of (client c) Now node.running node.state (record (G c) { drift = 0 })) { clock = server_later j }; net = (G c).net })
            (Advance (record { c = cl; s = half_of (client c) Now node.running node.state (G c); net = (G c).net }) (w.config.den * Ds) Ds 0
            (rate_of w.config k b.timed.terms (G c).drift Ds 0 (w.config.den * Ds)
            (let p : 0 < w.config.num = subst (λ (k : Config). 0 < k.num) b.timed.terms b.ok.num_pos in let q = no_less w.config.num (w.config.den * Ds) p in omega arith))
            (omega arith))

    -- first the clocks
    moved : Reached k (record { at = mid })
    unfolding mid
    moved = Then b.stands.reached (record { each = λ c. inl (move c); shared = λ c d. record { up = refl; grace = refl }; table = λ a z f. f })

    up : Now.0 ≤ Later.0
    up = let e = server_later in omega arith

    -- then grace may end, for all at once
    grace_as_before : grace.is_on node.state.grace Now ≡ grace.is_on node.state.grace Later → Reached k (pairs s ended V node later_ghost)
    unfolding mid
    grace_as_before e = subst (Reached k) (λ j. record { at = λ c. record { c = client_in V c s (ended c); s = record (half_of (client c) Later node.running node.state (later_ghost c)) { grace = e j }; net = (G c).net } }) moved

    grace_ends : node.running ≡ true → grace.is_on node.state.grace Now ≡ true → grace.is_on node.state.grace Later ≡ false → Reached k (pairs s ended V node later_ghost)
    unfolding mid
    grace_ends runs f g =
        Then moved
        (record {
          each = λ c. inl (subst (λ a. Move k (mid c) a)
              (λ j. record { c = client_in V c s (ended c); s = record (half_of (client c) Later node.running node.state (later_ghost c)) { grace = sym g j }; net = (G c).net })
              (GraceEnds (mid c) runs f
              (let so = sound_of c k.wait Now node.running node.state (G c) runs (b.stands.served c).stands in epochs.ends_at k.wait Now Later node.state.grace (G c).gstart so.gstart f g)));
          shared = λ c d. record { up = refl; grace = refl };
          table = λ a z. absurd (not_both (grace.is_on node.state.grace Now) f a.grace);
        })

    never_on : (c : ℕ) (r : Bool) → r ≡ false → StandsAt c k.wait Now r node.state (G c) → (t : Stamp) → grace.is_on node.state.grace t ≡ false
    never_on c true e st t = cc
    never_on c false e st t = epochs.stopped_off k.wait node.state (G c) t st

    reached : Reached k (pairs s ended V node later_ghost)
    reached = by (grace.is_on node.state.grace Now) (grace.is_on node.state.grace Later) node.running refl refl refl
      where
        by : (a c r : Bool) → grace.is_on node.state.grace Now ≡ a → grace.is_on node.state.grace Later ≡ c → node.running ≡ r → Reached k (pairs s ended V node later_ghost)
        by true true r f g h = grace_as_before (f ∙ sym g)
        by false false r f g h = grace_as_before (f ∙ sym g)
        by false true r f g h = let z = epochs.later_off Now Later node.state.grace up f in cc
        by true false true f g h = grace_ends h f g
        by true false false f g h = let z = never_on 0 node.running h (b.stands.served 0).stands Now in cc

    -- and so the path goes on
    moved_on : (H : net.World) → Leads k H s ended w node G → Path k H (record { at = mid })
    unfolding mid
    moved_on H o = SteppedOn o (record { each = λ c. inl (move c); shared = λ c d. record { up = refl; grace = refl }; table = λ a z f. f })

    leads_as_before : (H : net.World) → grace.is_on node.state.grace Now ≡ grace.is_on node.state.grace Later → Leads k H s ended w node G → Leads k H s ended V node later_ghost
    unfolding mid
    leads_as_before H e o =
        subst (Path k H) (λ j. record { at = λ c. record { c = client_in V c s (ended c); s = record (half_of (client c) Later node.running node.state (later_ghost c)) { grace = e j }; net = (G c).net } }) (moved_on H o)

    leads_on : (H : net.World) → node.running ≡ true → grace.is_on node.state.grace Now ≡ true → grace.is_on node.state.grace Later ≡ false → Leads k H s ended w node G → Leads k H s ended V node later_ghost
    unfolding mid
    leads_on H runs f g o =
        SteppedOn (moved_on H o)
        (record {
          each = λ c. inl (subst (λ a. Move k (mid c) a)
              (λ j. record { c = client_in V c s (ended c); s = record (half_of (client c) Later node.running node.state (later_ghost c)) { grace = sym g j }; net = (G c).net })
              (GraceEnds (mid c) runs f
              (let so = sound_of c k.wait Now node.running node.state (G c) runs (b.stands.served c).stands in epochs.ends_at k.wait Now Later node.state.grace (G c).gstart so.gstart f g)));
          shared = λ c d. record { up = refl; grace = refl };
          table = λ a z. absurd (not_both (grace.is_on node.state.grace Now) f a.grace);
        })

    pub later_leads : (H : net.World) → Leads k H s ended w node G → Leads k H s ended V node later_ghost
    later_leads H o = by (grace.is_on node.state.grace Now) (grace.is_on node.state.grace Later) node.running refl refl refl
      where
        by : (a c r : Bool) → grace.is_on node.state.grace Now ≡ a → grace.is_on node.state.grace Later ≡ c → node.running ≡ r → Leads k H s ended V node later_ghost
        by true true r f g h = leads_as_before H (f ∙ sym g) o
        by false false r f g h = leads_as_before H (f ∙ sym g) o
        by false true r f g h = let z = epochs.later_off Now Later node.state.grace up f in cc
        by true false true f g h = leads_on H h f g o
        by true false false f g h = let z = never_on 0 node.running h (b.stands.served 0).stands Now in cc

    stands_later : (c : ℕ) (r : Bool) (x : Ghost) → StandsAt c k.wait Now r node.state x → (e : ℕ) → StandsAt c k.wait Later r node.state (record x { drift = e })
    stands_later c true x st e = epochs.sound_later c k.wait node.state x Now Later e up st
    stands_later c false x st e = record { emptied = st.emptied; top = st.top }

    -- all that held still holds when time has passed
    pub later_stands : Stands k s ended V node later_ghost
    later_stands = record {
      reached = reached;
      served = λ c. let d = b.stands.served c in
          record { found = d.found; id = d.id; terms = d.terms; stands = stands_later c node.running (G c) d.stands (drift_now c (site_of w (client c))); wires = d.wires };
      compat = b.stands.compat;
    }

    square_later : IsSquare (drift_with w steps) (length w.clocks)
    square_later = square_with w steps (length w.clocks) b.full square

    clocks_later : length V.clocks ≡ length w.clocks
    clocks_later = advanced_length steps w.clocks b.full

    -- and so does what holds of the clocks
    pub later_timed : Timed k s V later_ghost
    later_timed = record {
      terms = b.timed.terms;
      tall = ap (λ d. length d) (counted_drift w steps) ∙ square_later.tall ∙ sym clocks_later;
      wide = λ m h. ap (λ d. length (get_or d m [])) (counted_drift w steps) ∙ square_later.wide m (let e = clocks_later in omega arith) ∙ sym clocks_later;
      count = clocks_later ∙ b.timed.count;
      known = λ c site e. ap (λ o. drift_now c o) e;
      idle = λ c e. ap (λ o. drift_now c o) e;
    }

-- what an advance that the world takes leaves
pub record AdvancePath (k : Config) (s : ℕ) (ended : ℕ → ℕ → ℕ) (w v : World) (node : ServerNode) (G : ℕ → Ghost) : Type 0 where
  pub ghosts : ℕ → Ghost
  pub stands : Stands k s ended v node ghosts
  pub timed : Timed k s v ghosts
  pub nets : (c : ℕ) → (ghosts c).net ≡ (G c).net
  pub keeps : (H : net.World) → Leads k H s ended w node G → Leads k H s ended v node ghosts

-- an advance that the world takes
pub advances_stand : (k : Config) (s : ℕ) (ended : ℕ → ℕ → ℕ) (w : World) (node : ServerNode) (G : ℕ → Ghost) (steps : List ℕ) (sc : WorldTurn) → ConfigOk k → 1 ≤ s → length steps ≡ length w.clocks → world_step w (events.Advance steps) ≡ Ok sc →
    Timed k s w G → Stands k s ended w node G → AdvancePath k s ended w sc.world node G
advances_stand k s ended w node G steps sc ok pos full e timed st =
    let h = step_happens w (events.Advance steps) sc e in
    let new = log_ended_all w.commands (lives_reached (counted w) steps) w.log in
    let b : Before k s ended w node G steps new = record { ok = ok; pos = pos; full = full; accepted = advance_ok w steps h.0; timed = timed; stands = st } in
    subst (λ v. AdvancePath k s ended w v node G) (sym (ap (λ (sc : WorldTurn). sc.world) h.1 ∙ advance_is w steps))
    (record { ghosts = later_ghost k s ended w node G steps new; stands = later_stands k s ended w node G steps new b; timed = later_timed k s ended w node G steps new b; nets = λ c. refl; keeps = later_leads k s ended w node G steps new b })
