-- A step of a client in the world: what holds of the flush, of the commands and of the latest entries after it.
use Rattle.st_lemmas.proofs.Words
use Words.{◌≡◌, ◌≢◌, ℕ, ◌+◌, ◌≤◌, ◌<◌, ◌⊎◌, Bool, true, false, ◌&&◌, ◌||◌, List, [], ◌∷◌, ◌++◌, Option, Some, None, refl, sym, ap, ◌∙◌, subst, inl, inr, arith}
use Words.{leb-true, if◌then◌else◌, length, nat_le, list_any, ne_eqb, le-leb, Config, ClientId, ServerId, Stamp, Note, Output, ClientInput, Phase, LogEntry}
use Words.{FlushStep, IssuedCommand}
use Words.nodes
use Words.notes
use Words.outputs
use Words.phases
use Words.Keys.{same_file, same_page}
use Words.FlatLog as log
use Words.Leases as leases
use Words.ClientLease as lease
use Words.Client as cl
use Words.ClientState.{Association, ClientState, ClientSession}
use Words.World as world
use Words.World.{World, WorldClient, numbered, with_numbered, site_of, clock_of}
use Words.Events as ev
use Words.Events.{WorldTurn, client_says, client_says_all, client_notes}
use Words.Safety.{Step, reports_failure}
use Words.Lists.{Has}
use Words.Lookups.{some_is}
use Words.Numbers.{numbered_own, numbered_other, numbered_below}
use Words.Tables.{same_or_not, has_append}
use Rattle.st_lemmas.proofs.Puts.{has_put}
use Rattle.st_laws_steps.specs.Client.Losses.{is_ended}
use Rattle.st_laws_steps.specs.Lives.Lives.{LifeNext, Stepped, NodeHolds, clock_in, LivesHold}
use Rattle.st_laws_pages.specs.Flush.Flush.{Cared, Covered, NodeCared, StartsBelow, FlushRight, FlushHold}
use Rattle.st_laws_pages.proofs.Flush.Caring.{entry_elsewhere, command_other}
use Rattle.st_laws_pages.proofs.Lives.Lasting.{Flushed, flush_parts}
use Rattle.st_laws_pages.proofs.Lives.LifeSteps.{steps_so}
use Rattle.st_laws_pages.proofs.Lives.Turning.{says_one}
use Rattle.st_laws_pages.proofs.Flush.Adding.{After, after_clients}
use Rattle.st_laws_pages.proofs.Flush.Flushing.{InputTold, FlushedBy, step_flushed, pair_of}
use Rattle.st_laws_pages.proofs.Flush.FlushSteps.{node_fates}
use Rattle.st_laws_pages.specs.Causes.Invariants.{CommandsStand, LatestOwn, LatestStand, WritesStand}
use Rattle.st_laws_pages.proofs.Causes.Commands.{says_stand}
use Rattle.st_laws_pages.proofs.Causes.Latest.{latest_elsewhere}
use Rattle.st_laws_pages.proofs.Causes.Placed.{Placed}
use Rattle.st_laws_pages.proofs.Causes.Stepping.{step_cared, step_latest}

-- What one output of a client adds: at most one command, of this instance, and at most one entry, of this client.
record OneMore (c : ClientId) (site : WorldClient) (w v : World) : Type 0 where
  pub commands : (v.commands ≡ w.commands) ⊎ ((x : IssuedCommand) × (v.commands ≡ w.commands ++ x ∷ []) × (x.client ≡ c) × (x.starts ≡ site.starts))
  pub log : (v.log ≡ w.log) ⊎ ((e : LogEntry) × (v.log ≡ w.log ++ e ∷ []) × (e.of.client ≡ c))

one_more : (c : ClientId) (before : ClientState) (site : WorldClient) (sc : WorldTurn) → site_of sc.world c ≡ Some site → (o : Output) → OneMore c site sc.world (client_says sc c before o).world
unfolding client_says client_notes ev.sends ev.submits ev.answers_with ev.accepts ev.patches ev.loses log.accept log.patch
one_more c before site sc own (outputs.Send m) = record { commands = inl refl; log = inl refl }
one_more c before site sc own (outputs.Answer op a) = record { commands = inl refl; log = inl refl }
one_more c before site sc own (outputs.Submit number at what) = go (site_of sc.world c) own
  where
    go : (o : Option WorldClient) → o ≡ Some site → OneMore c site sc.world (ev.submits sc c o number at what).world
    go None e = cc
    go (Some s) e = record { commands = inr (ev.issued sc.world c s number at what, refl, refl, ap (λ (z : WorldClient). z.starts) (some_is e)); log = inl refl }
one_more c before site sc own (outputs.Note n) = note n
  where
    note : (n : Note) → OneMore c site sc.world (client_notes sc c before n).world
    note (notes.Accepted f p bytes) = record { commands = inl refl; log = inr (_, refl, refl) }
    note (notes.Patched f p at bytes) = record { commands = inl refl; log = inr (_, refl, refl) }
    note (notes.Lost s life) = record { commands = inl refl; log = inl refl }
    note n = record { commands = inl refl; log = inl refl }

-- What holds of another client stays through what this one says.
cared_entry : (past : List Step) (cs : List IssuedCommand) (es : List LogEntry) (c d : ClientId) (starts next : ℕ) (b : Association) (e : LogEntry) → (d.0 ≡ c.0 → ⊥) → e.of.client ≡ c → Cared past cs es d starts next b → Cared past cs (es ++ e ∷ []) d starts next b
cared_entry past cs es c d starts next b e n q h =
    entry_elsewhere past cs es d starts next b e (λ p u v w. absurd (n (ap (λ (x : ClientId). x.0) (sym u ∙ q))))
    (λ ino p. ap (λ z. z && (same_file e.of.file (Rattle.st_laws_pages.specs.Flush.Flush.file_at b ino) && same_page e.of.page p)) (ne_eqb e.of.client.0 d.0 (λ z. n (sym z ∙ ap (λ (x : ClientId). x.0) q)))) h

other_says : (past : List Step) (c d : ClientId) (before : ClientState) (site : WorldClient) (starts next : ℕ) (b : Association) → (d.0 ≡ c.0 → ⊥) → (os : List Output) (sc : WorldTurn) → site_of sc.world c ≡ Some site → Cared past sc.world.commands sc.world.log d starts next b →
    Cared past (After c before sc os).world.commands (After c before sc os).world.log d starts next b
unfolding client_says_all
other_says past c d before site starts next b n [] sc own h = h
other_says past c d before site starts next b n (o ∷ os) sc own h = other_says past c d before site starts next b n os u (ap (λ xs. numbered xs c.0) (says_one c before o sc).clients ∙ own) (one (one_more c before site sc own o))
  where
    u : WorldTurn
    u = client_says sc c before o

    one : OneMore c site sc.world u.world → Cared past u.world.commands u.world.log d starts next b
    one m = logs m.log
      where
        commands : (es : List LogEntry) → Cared past sc.world.commands es d starts next b → (u.world.commands ≡ sc.world.commands) ⊎ ((x : IssuedCommand) × (u.world.commands ≡ sc.world.commands ++ x ∷ []) × (x.client ≡ c) × (x.starts ≡ site.starts)) → Cared past u.world.commands es d starts next b
        commands es g (inl e) = subst (λ xs. Cared past xs es d starts next b) (sym e) g
        commands es g (inr (x, e, q, y)) = subst (λ xs. Cared past xs es d starts next b) (sym e) (command_other past sc.world.commands es d starts next b x (λ z. n (sym z ∙ ap (λ (v : ClientId). v.0) q)) g)

        logs : (u.world.log ≡ sc.world.log) ⊎ ((e : LogEntry) × (u.world.log ≡ sc.world.log ++ e ∷ []) × (e.of.client ≡ c)) → Cared past u.world.commands u.world.log d starts next b
        logs (inl e) = subst (λ es. Cared past u.world.commands es d starts next b) (sym e) (commands sc.world.log h m.commands)
        logs (inr (x, e, q)) = subst (λ es. Cared past u.world.commands es d starts next b) (sym e) (commands (sc.world.log ++ x ∷ []) (cared_entry past sc.world.commands sc.world.log c d starts next b x n q h) m.commands)

-- whose the latest entries of another client's dirty pages are stays too
other_latest : (c d : ClientId) (before : ClientState) (site : WorldClient) (b : Association) → (d.0 ≡ c.0 → ⊥) → (os : List Output) (sc : WorldTurn) → site_of sc.world c ≡ Some site → LatestOwn d sc.world.log b → LatestOwn d (After c before sc os).world.log b
unfolding client_says_all
other_latest c d before site b n [] sc own h = h
other_latest c d before site b n (o ∷ os) sc own h = other_latest c d before site b n os u (ap (λ xs. numbered xs c.0) (says_one c before o sc).clients ∙ own) (one (one_more c before site sc own o).log)
  where
    u : WorldTurn
    u = client_says sc c before o

    one : (u.world.log ≡ sc.world.log) ⊎ ((e : LogEntry) × (u.world.log ≡ sc.world.log ++ e ∷ []) × (e.of.client ≡ c)) → LatestOwn d u.world.log b
    one (inl e) = subst (λ es. LatestOwn d es b) (sym e) h
    one (inr (x, e, q)) =
        subst (λ es. LatestOwn d es b) (sym e)
        (latest_elsewhere d b sc.world.log x (λ ino p. ap (λ z. z && (same_file x.of.file (Rattle.st_laws_pages.specs.Flush.Flush.file_at b ino) && same_page x.of.page p)) (ne_eqb x.of.client.0 d.0 (λ z. n (sym z ∙ ap (λ (y : ClientId). y.0) q)))) h)

-- What is claimed about all commands stays true, if it is true of those of this client's instance.
commands_say : (P : IssuedCommand → Type 0) (c : ClientId) (before : ClientState) (site : WorldClient) → ((x : IssuedCommand) → x.client ≡ c → x.starts ≡ site.starts → P x) → (os : List Output) (sc : WorldTurn) → site_of sc.world c ≡ Some site → ((x : IssuedCommand) → Has x sc.world.commands → P x) →
    (x : IssuedCommand) → Has x (After c before sc os).world.commands → P x
unfolding client_says_all
commands_say P c before site new [] sc own h = h
commands_say P c before site new (o ∷ os) sc own h = commands_say P c before site new os u (ap (λ xs. numbered xs c.0) (says_one c before o sc).clients ∙ own) (one (one_more c before site sc own o).commands)
  where
    u : WorldTurn
    u = client_says sc c before o

    one : (u.world.commands ≡ sc.world.commands) ⊎ ((x : IssuedCommand) × (u.world.commands ≡ sc.world.commands ++ x ∷ []) × (x.client ≡ c) × (x.starts ≡ site.starts)) → (y : IssuedCommand) → Has y u.world.commands → P y
    one (inl e) y i = h y (subst (Has y) e i)
    one (inr (x, e, q, r)) y i = at (has_append sc.world.commands (x ∷ []) y (subst (Has y) e i))
      where
        at : Has y sc.world.commands ⊎ Has y (x ∷ []) → P y
        at (inl j) = h y j
        at (inr (inl z)) = subst P (sym z) (new x q r)
        at (inr (inr z)) = absurd z

-- What a client says leaves all but the network, the disks, the commands, the log and the lives that ended.
record SaysLess (v u : World) : Type 0 where
  pub config : u.config ≡ v.config
  pub clocks : u.clocks ≡ v.clocks
  pub servers : u.servers ≡ v.servers
  pub flushed : u.flushed ≡ v.flushed

same_less : (v : World) → SaysLess v v
same_less v = record { config = refl; clocks = refl; servers = refl; flushed = refl }

less_one : (c : ClientId) (before : ClientState) (o : Output) (sc : WorldTurn) → SaysLess sc.world (client_says sc c before o).world
unfolding client_says client_notes ev.sends ev.submits ev.answers_with ev.accepts ev.patches ev.loses
less_one c before (outputs.Send m) sc = record { config = refl; clocks = refl; servers = refl; flushed = refl }
less_one c before (outputs.Answer op a) sc = record { config = refl; clocks = refl; servers = refl; flushed = refl }
less_one c before (outputs.Submit number at what) sc = go (site_of sc.world c)
  where
    go : (o : Option WorldClient) → SaysLess sc.world (ev.submits sc c o number at what).world
    go None = same_less sc.world
    go (Some s) = record { config = refl; clocks = refl; servers = refl; flushed = refl }
less_one c before (outputs.Note n) sc = note n
  where
    note : (n : Note) → SaysLess sc.world (client_notes sc c before n).world
    note (notes.Accepted f p bytes) = record { config = refl; clocks = refl; servers = refl; flushed = refl }
    note (notes.Patched f p at bytes) = record { config = refl; clocks = refl; servers = refl; flushed = refl }
    note (notes.Lost s life) = record { config = refl; clocks = refl; servers = refl; flushed = refl }
    note n = same_less sc.world

says_less : (c : ClientId) (before : ClientState) (os : List Output) (sc : WorldTurn) → SaysLess sc.world (After c before sc os).world
unfolding client_says_all
says_less c before [] sc = same_less sc.world
says_less c before (o ∷ os) sc =
    let a = less_one c before o sc in
    let b = says_less c before os (client_says sc c before o) in
    record { config = b.config ∙ a.config; clocks = b.clocks ∙ a.clocks; servers = b.servers ∙ a.servers; flushed = b.flushed ∙ a.flushed }

-- Flush steps.

-- a new flush step, of the flush phase
record NewFlush (c : ClientId) (s : ClientState) (now : Stamp) (x : FlushStep) : Type 0 where
  pub client : x.client ≡ c
  pub end : cl.lease_end_with s x.server ≡ Some x.end
  pub phase : cl.phase_with s x.server now ≡ Some phases.Flush

flushes_has : (c : ClientId) (s : ClientState) (ss : List ServerId) (w : World) (x : FlushStep) → Has x (ev.flushes c s ss w).flushed → Has x w.flushed ⊎ NewFlush c s (clock_of w (nodes.Client c)) x
unfolding ev.flushes
flushes_has c s [] w x i = inl i
flushes_has c s (y ∷ ss) w x i = go (flushes_has c s ss (ev.flushed_at w c y s) x i)
  where
    now : Stamp
    now = clock_of w (nodes.Client c)

    under : (o : Option Stamp) → cl.lease_end_with s y ≡ o → cl.phase_with s y now ≡ Some phases.Flush → Has x (ev.flushed_under w c y o).flushed → Has x w.flushed ⊎ NewFlush c s now x
    under None e f j = inl j
    under (Some end) e f j = at (has_put (world.is_flush_of c y) (ev.flush_step c y end) w.flushed x j)
      where
        at : (x ≡ ev.flush_step c y end) ⊎ Has x w.flushed → Has x w.flushed ⊎ NewFlush c s now x
        at (inl q) = inr (subst (NewFlush c s now) (sym q) (record { client = refl; end = e; phase = f }))
        at (inr k) = inl k

    in_phase : (o : Option Phase) → cl.phase_with s y now ≡ o → Has x (ev.flushed_in w c y (cl.lease_end_with s y) o).flushed → Has x w.flushed ⊎ NewFlush c s now x
    in_phase (Some phases.Flush) f j = under (cl.lease_end_with s y) refl f j
    in_phase (Some phases.Valid) f j = inl j
    in_phase (Some phases.Renewal) f j = inl j
    in_phase (Some phases.Quiesce) f j = inl j
    in_phase (Some phases.Expired) f j = inl j
    in_phase None f j = inl j

    clock : (ev.flushed_at w c y s).clocks ≡ w.clocks
    clock = (flush_parts c s (y ∷ []) w).clocks

    go : Has x (ev.flushed_at w c y s).flushed ⊎ NewFlush c s (clock_of (ev.flushed_at w c y s) (nodes.Client c)) x → Has x w.flushed ⊎ NewFlush c s now x
    go (inl j) = in_phase (cl.phase_with s y now) refl j
    go (inr n) = inr (subst (λ ts. NewFlush c s (clock_in ts c) x) clock n)

-- In the flush phase, and not later.
flush_low : (k : Config) (l : lease.ClientLease) (now : Stamp) → lease.phase_of k l now ≡ phases.Flush → l.date.0 + k.flush ≤ now.0
unfolding leases.phase leases.phase_living leases.phase_serving leases.phase_young
flush_low k l now e = go (nat_le (l.date.0 + k.lease) now.0) e
  where
    living : (b : Bool) → nat_le (l.date.0 + k.flush) now.0 ≡ b → (if b then phases.Flush else leases.phase_serving k l.date l.condemned now) ≡ phases.Flush → l.date.0 + k.flush ≤ now.0
    living true q f = leb-true (l.date.0 + k.flush) now.0 q
    living false q f = absurd (serving (nat_le (l.date.0 + k.quiesce) now.0 || l.condemned) f)
      where
        young : (b : Bool) → (if b then phases.Renewal else phases.Valid) ≡ phases.Flush → ⊥
        young true g = cc
        young false g = cc

        serving : (b : Bool) → (if b then phases.Quiesce else leases.phase_young k l.date now) ≡ phases.Flush → ⊥
        serving true g = cc
        serving false g = young (nat_le (l.date.0 + k.renew) now.0) g

    go : (b : Bool) → (if b then phases.Expired else leases.phase_living k l.date l.condemned now) ≡ phases.Flush → l.date.0 + k.flush ≤ now.0
    go true f = cc
    go false f = living (nat_le (l.date.0 + k.flush) now.0) refl f

drains : (k : Config) (l : lease.ClientLease) (now : Stamp) → l.date.0 + k.flush ≤ now.0 → nat_le (lease.end_of k l).0 now.0 ≡ false → lease.may_drain (lease.standing_of k l now) ≡ true
unfolding leases.phase leases.phase_living
drains k l now f e =
    ap (λ b. lease.may_drain (lease.standing_by (if b then phases.Expired else leases.phase_living k l.date l.condemned now))) e
    ∙ ap (λ b. lease.may_drain (lease.standing_by (if b then phases.Flush else leases.phase_serving k l.date l.condemned now))) (le-leb (l.date.0 + k.flush) now.0 f)

-- a new flush step is low
new_low : (c : ClientId) (s : ClientState) (now : Stamp) (x : FlushStep) → NewFlush c s now x → x.end.0 + s.config.flush ≤ now.0 + s.config.lease
new_low c s now x n = go (cl.lease_with s x.server) n.end n.phase
  where
    go : (o : Option lease.ClientLease) → lease.end_at s.config o ≡ Some x.end → lease.phase_at s.config o now ≡ Some phases.Flush → x.end.0 + s.config.flush ≤ now.0 + s.config.lease
    go None e f = cc
    go (Some l) e f = let z = flush_low s.config l now (phase f) in let y = ap (λ (t : Stamp). t.0) (end e) in omega (arith, z, y)
      where
        phase : Some (lease.phase_of s.config l now) ≡ Some phases.Flush → lease.phase_of s.config l now ≡ phases.Flush
        phase z = cc

        end : Some (lease.end_of s.config l) ≡ Some x.end → lease.end_of s.config l ≡ x.end
        end z = cc

-- flush steps leave the disks
pub flushes_disks : (c : ClientId) (s : ClientState) (ss : List ServerId) (w : World) → (ev.flushes c s ss w).disks ≡ w.disks
unfolding ev.flushes
flushes_disks c s [] w = refl
flushes_disks c s (y ∷ ss) w = flushes_disks c s ss (ev.flushed_at w c y s) ∙ in_phase (cl.lease_end_with s y) (cl.phase_with s y (clock_of w (nodes.Client c)))
  where
    under : (o : Option Stamp) → (ev.flushed_under w c y o).disks ≡ w.disks
    under None = refl
    under (Some e) = refl

    in_phase : (o : Option Stamp) (p : Option Phase) → (ev.flushed_in w c y o p).disks ≡ w.disks
    in_phase o (Some phases.Flush) = under o
    in_phase o (Some phases.Valid) = refl
    in_phase o (Some phases.Renewal) = refl
    in_phase o (Some phases.Quiesce) = refl
    in_phase o (Some phases.Expired) = refl
    in_phase o None = refl

-- What holds of the flush, and of the log and the commands.
pub record BothHold (past : List Step) (w : World) : Type 0 where
  pub flush : FlushHold past w
  pub writes : WritesStand w

-- A step of a client.
module _ (past more : List Step) (w : World) (c : ClientId) (old site : WorldClient) (input : ClientInput) (there : site_of w c ≡ Some old) (same : old.node ≡ site.node) (starts : old.starts ≡ site.starts) (up : (n : ℕ) → list_any (reports_failure n) past ≡ true → list_any (reports_failure n) more ≡ true)
    (h : LivesHold w) (fh : FlushHold past w) (ws : WritesStand w) (size : ℕ) (many : length w.servers ≡ size) (placed : Placed size (cl.client_step site.node.state (clock_of w (nodes.Client c)) input).out) where
  abbrev now : Stamp
  now = clock_of w (nodes.Client c)

  abbrev turn : cl.NodeTurn
  turn = cl.node_turn site.node (cl.client_step site.node.state now input)

  abbrev after : WorldClient
  after = ev.at_node turn.node site

  abbrev sc : WorldTurn
  sc = ev.quiet (ev.with_site c after w)

  abbrev u : World
  u = (After c site.node.state sc turn.out).world

  abbrev v : World
  v = ev.flushes c turn.node.state (world.all_servers u) u

  own : site_of sc.world c ≡ Some after
  own = numbered_own w.clients c.0 after old there

  fl : Flushed u v
  fl = flush_parts c turn.node.state (world.all_servers u) u

  clients : v.clients ≡ with_numbered c.0 after w.clients
  clients = fl.clients ∙ after_clients c site.node.state turn.out sc

  st : Stepped now c old.node.state turn.node.state turn.out
  st = steps_so w c old site input there same h

  m : NodeHolds w.config w.clocks w.ended c old.node
  m = h.lives.sites c old there

  config : turn.node.state.config ≡ w.config
  config = sym st.config ∙ m.config

  -- a client of the new world: this one, or one as it was
  at_site : (d : ClientId) (x : WorldClient) → numbered v.clients d.0 ≡ Some x → ((d ≡ c) × (x ≡ after)) ⊎ ((d.0 ≡ c.0 → ⊥) × (numbered w.clients d.0 ≡ Some x))
  at_site d x e = go (same_or_not d.0 c.0)
    where
      its : numbered (with_numbered c.0 after w.clients) d.0 ≡ Some x
      its = ap (λ xs. numbered xs d.0) (sym clients) ∙ e

      go : (d.0 ≡ c.0) ⊎ (d.0 ≢ c.0) → ((d ≡ c) × (x ≡ after)) ⊎ ((d.0 ≡ c.0 → ⊥) × (numbered w.clients d.0 ≡ Some x))
      go (inl q) = inl (ap (λ n. record { 0 = n }) q, some_is (sym its ∙ ap (numbered (with_numbered c.0 after w.clients)) q ∙ own))
      go (inr n) = inr (n, sym (numbered_other w.clients c.0 d.0 after (numbered_below w.clients c.0 old there).0 n) ∙ its)

  -- of another client
  other_node : (d : ClientId) (x : WorldClient) → (d.0 ≡ c.0 → ⊥) → NodeCared past w.commands w.log d x → NodeCared more v.commands v.log d x
  other_node d x n g =
      subst (λ es. NodeCared more v.commands es d x) (sym fl.log)
      (subst (λ xs. NodeCared more xs u.log d x) (sym fl.commands)
      (node_fates past more u.commands u.log u.log d x up (λ f q. refl) (λ P z. z)
      (record {
        cared = λ a i. other_says past c d site.node.state after x.starts x.node.state.next_command a n turn.out sc own (g.cared a i);
        apart = g.apart;
        numbers = commands_say (λ y. y.client ≡ d → y.starts ≡ x.starts → y.number < x.node.state.next_command) c site.node.state after (λ y q r e f. absurd (n (ap (λ (z : ClientId). z.0) (sym e ∙ q)))) turn.out sc own (λ y i. g.numbers y i);
      })))

  -- of this one
  own_node : site.node.running ≡ true → InputTold more sc c site.starts input → NodeCared more v.commands v.log c after
  unfolding cl.client_step
  own_node r told =
      subst (λ es. NodeCared more v.commands es c after) (sym fl.log)
      (subst (λ xs. NodeCared more xs u.log c after) (sym fl.commands)
      (step_cared more w c old site input now there same starts h size own many ws.commands placed told
      (node_fates past more w.commands w.log w.log c old up (λ f q. refl) (λ P z. z) (fh.sites c old there (ap (λ (n : cl.ClientNode). n.running) same ∙ r))) (ws.latest_own c old there (ap (λ (n : cl.ClientNode). n.running) same ∙ r))))

  starts_of : (d : ClientId) (x : WorldClient) → numbered v.clients d.0 ≡ Some x → StartsBelow v.commands d x.starts
  starts_of d x e = subst (λ ys. StartsBelow ys d x.starts) (sym fl.commands) (go (at_site d x e))
    where
      go : ((d ≡ c) × (x ≡ after)) ⊎ ((d.0 ≡ c.0 → ⊥) × (numbered w.clients d.0 ≡ Some x)) → StartsBelow u.commands d x.starts
      go (inl (q, y)) =
          commands_say (λ z. z.client ≡ d → z.starts ≤ x.starts) c site.node.state after (λ z a b f. let k = ap (λ (s : WorldClient). s.starts) y in omega (arith, b, k)) turn.out sc own
          (λ z i f. let b = fh.starts c old there z i (f ∙ q) in let k = ap (λ (s : WorldClient). s.starts) y in omega (arith, b, k, starts))
      go (inr (n, f)) = commands_say (λ z. z.client ≡ d → z.starts ≤ x.starts) c site.node.state after (λ z a b e. absurd (n (ap (λ (y : ClientId). y.0) (sym e ∙ a)))) turn.out sc own (λ z i e. fh.starts d x f z i e)

  servers_of : (d : ClientId) (x : WorldClient) → numbered v.clients d.0 ≡ Some x → (a : Association) → Has a x.node.state.associations → (1 ≤ a.server.0) × (a.server.0 ≤ length v.servers)
  servers_of d x e a i = go (at_site d x e)
    where
      count : length v.servers ≡ length w.servers
      count = ap length (fl.servers ∙ (says_less c site.node.state turn.out sc).servers)

      up_to : (b : Association) → (1 ≤ b.server.0) × (b.server.0 ≤ length w.servers) → a.server ≡ b.server → (1 ≤ a.server.0) × (a.server.0 ≤ length v.servers)
      up_to b (x, y) q = let z = ap (λ (s : ServerId). s.0) q in (omega (arith, x, z), omega (arith, y, z, count))

      go : ((d ≡ c) × (x ≡ after)) ⊎ ((d.0 ≡ c.0 → ⊥) × (numbered w.clients d.0 ≡ Some x)) → (1 ≤ a.server.0) × (a.server.0 ≤ length v.servers)
      go (inl (q, y)) =
          let z = pair_of (LifeNext now old.node.state) old.node.state.associations turn.node.state.associations st.pairs a (subst (λ (s : WorldClient). Has a s.node.state.associations) y i) in
          up_to z.0 (fh.servers c old there z.0 z.1) (sym z.2.server)
      go (inr (n, f)) = up_to a (fh.servers d x f a i) refl

  -- The flush steps.
  right : (x : FlushStep) → Has x v.flushed → FlushRight v x
  unfolding cl.client_step
  right x i = go (flushes_has c turn.node.state (world.all_servers u) u x i)
    where
      clocks : v.clocks ≡ w.clocks
      clocks = fl.clocks ∙ (says_less c site.node.state turn.out sc).clocks

      same_config : v.config ≡ w.config
      same_config = fl.config ∙ (says_less c site.node.state turn.out sc).config

      covered : x.end.0 + w.config.flush ≤ (clock_in w.clocks x.client).0 + w.config.lease → (Has x w.flushed) ⊎ (x.client ≡ c) → FlushRight v x
      covered low which =
          record {
            low = subst (λ (k : Config). x.end.0 + k.flush ≤ (clock_in v.clocks x.client).0 + k.lease) (sym same_config) (subst (λ ts. x.end.0 + w.config.flush ≤ (clock_in ts x.client).0 + w.config.lease) (sym clocks) low);
            covered = λ y e r a j sv s q d. at y e r a j sv s q (ap (λ (k : Config). (lease.end_of k s.lease).0) (sym same_config) ∙ d) (at_site x.client y e);
          }
        where
          at : (y : WorldClient) → numbered v.clients x.client.0 ≡ Some y → y.node.running ≡ true → (a : Association) → Has a y.node.state.associations → a.server.0 ≡ x.server.0 → (s : ClientSession) → a.session ≡ Some s → (lease.end_of w.config s.lease).0 ≡ x.end.0 →
              ((x.client ≡ c) × (y ≡ after)) ⊎ ((x.client.0 ≡ c.0 → ⊥) × (numbered w.clients x.client.0 ≡ Some y)) → Covered a
          at y e r a j sv s q d (inr (n, f)) = old_one which
            where
              old_one : (Has x w.flushed) ⊎ (x.client ≡ c) → Covered a
              old_one (inl k) = (fh.flushes x k).covered y f r a j sv s q d
              old_one (inr k) = absurd (n (ap (λ (z : ClientId). z.0) k))
          at y e r a j sv s q d (inl (k, z)) = b.covered s q (ap (λ m. lease.may_drain (lease.standing_of m s.lease now)) (state_config) ∙ drains w.config s.lease now early before)
            where
              state_config : site.node.state.config ≡ w.config
              state_config = ap (λ (n : cl.ClientNode). n.state.config) (sym same) ∙ m.config

              b : FlushedBy site.node.state.config now a
              b = step_flushed more w c old site input now there same starts h a (subst (λ (s : WorldClient). Has a s.node.state.associations) z j)

              early : s.lease.date.0 + w.config.flush ≤ now.0
              early = let t = ap (λ (o : ClientId). (clock_in w.clocks o).0) k in omega (arith, low, t, d)

              before : nat_le (lease.end_of w.config s.lease).0 now.0 ≡ false
              before = ap (λ m. nat_le (lease.end_of m s.lease).0 now.0) (sym state_config) ∙ ap (is_ended site.node.state.config now) (sym q) ∙ b.going

      go : Has x u.flushed ⊎ NewFlush c turn.node.state (clock_of u (nodes.Client c)) x → FlushRight v x
      go (inl j) = let k = subst (Has x) ((says_less c site.node.state turn.out sc).flushed) j in covered (fh.flushes x k).low (inl k)
      go (inr n) =
          covered
          (let z = new_low c turn.node.state now x (subst (λ ts. NewFlush c turn.node.state (clock_in ts c) x) ((says_less c site.node.state turn.out sc).clocks) n) in
          let t = ap (λ (o : ClientId). (clock_in w.clocks o).0) n.client in subst (λ (k : Config). x.end.0 + k.flush ≤ (clock_in w.clocks x.client).0 + k.lease) config (omega (arith, z, t)))
          (inr n.client)

  client_flush : site.node.running ≡ true → InputTold more sc c site.starts input → FlushHold more v
  client_flush r told = record { sites = sites; starts = starts_of; flushes = right; servers = servers_of }
    where
      sites : (d : ClientId) (x : WorldClient) → numbered v.clients d.0 ≡ Some x → x.node.running ≡ true → NodeCared more v.commands v.log d x
      sites d x e q = go (at_site d x e)
        where
          go : ((d ≡ c) × (x ≡ after)) ⊎ ((d.0 ≡ c.0 → ⊥) × (numbered w.clients d.0 ≡ Some x)) → NodeCared more v.commands v.log d x
          go (inl (y, z)) = subst (λ k. NodeCared more v.commands v.log k x) (sym y) (subst (NodeCared more v.commands v.log c) (sym z) (own_node r told))
          go (inr (n, f)) = other_node d x n (fh.sites d x f q)

  latest_after : site.node.running ≡ true → InputTold more sc c site.starts input → LatestStand v
  unfolding cl.client_step
  latest_after r told d x e q a i = subst (λ es. LatestOwn d es a) (sym fl.log) (go (at_site d x e))
    where
      mine : (b : Association) → Has b turn.node.state.associations → LatestOwn c u.log b
      mine =
          step_latest more w c old site input now there same starts h size own many ws.commands placed told
          (node_fates past more w.commands w.log w.log c old up (λ f q. refl) (λ P z. z) (fh.sites c old there (ap (λ (n : cl.ClientNode). n.running) same ∙ r))) (ws.latest_own c old there (ap (λ (n : cl.ClientNode). n.running) same ∙ r))

      go : ((d ≡ c) × (x ≡ after)) ⊎ ((d.0 ≡ c.0 → ⊥) × (numbered w.clients d.0 ≡ Some x)) → LatestOwn d u.log a
      go (inl (y, z)) = subst (λ k. LatestOwn k u.log a) (sym y) (mine a (subst (λ (s : WorldClient). Has a s.node.state.associations) z i))
      go (inr (n, f)) = other_latest c d site.node.state after a n turn.out sc own (ws.latest_own d x f q a i)

  commands_after : CommandsStand v.log v.commands v.disks.commands
  commands_after =
      subst (λ (ds : Rattle.st_rules.specs.Disks.Disks). CommandsStand v.log v.commands ds.commands) (sym (flushes_disks c turn.node.state (world.all_servers u) u))
      (subst (λ es. CommandsStand es v.commands u.disks.commands) (sym fl.log) (subst (λ xs. CommandsStand u.log xs u.disks.commands) (sym fl.commands) (says_stand c site.node.state turn.out sc ws.commands)))

  pub client_after : site.node.running ≡ true → InputTold more sc c site.starts input → BothHold more v
  client_after r told = record { flush = client_flush r told; writes = record { commands = commands_after; latest_own = latest_after r told } }
