-- What an event does to the messages of a world of the third form, and to its servers: every demand has stamp 0.
use Rattle.st_lemmas.proofs.Words
use Words.{◌≡◌, ◌≢◌, ◌⊎◌, ℕ, zero, suc, pred, set, ◌==◌, Bool, true, false, List, [], ◌∷◌, ◌++◌, Option, Some, None, Ok, refl, sym, ap, ◌∙◌, subst, inl, inr, eqb-true}
use Words.{Body, ClientId, Note, Output, Phase, SentMessage, ServerId, ServerInput, Stamp}
use Words.bodies
use Words.nodes
use Words.notes
use Words.outputs
use Words.phases
use Words.Client as plain
use Words.ClientState.{Association, ClientState}
use Words.Events as ev
use Words.Events.{WorldTurn, quiet}
use Words.Lists.{Has}
use Words.Lookups.{some_is}
use Words.Numbers.{numbered_below, numbered_has, numbered_other, numbered_own}
use Words.Server as server
use Words.Server.{ServerNode}
use Words.Tables.{has_append}
use Words.World.{World, WorldClient, all_servers, clock_of, message_of, node_of, numbered, site_of, with_numbered}
use Rattle.st_third.specs.declared.event.ThirdEvent.{ThirdEvent}
use Rattle.st_third.specs.declared.event.ThirdInput.{ThirdInput}
use Rattle.st_third.specs.declared.output.ThirdOutput.{ThirdOutput}
use Rattle.st_third.specs.declared.output.ThirdOutput.TheVariants as says
use Rattle.st_third.specs.Client.{client_step}
use Rattle.st_third.specs.Events as every
use Rattle.st_third.specs.Events.{ThirdWorldTurn, unseen}
use Rattle.st_third.specs.Limits.{limited_node}
use Rattle.st_third.specs.Server as serving
use Rattle.st_third.specs.State.{ClientBeside, ThirdClientTurn}
use Rattle.st_third.specs.World.{ThirdWorld, beside_of}
use Rattle.st_laws_third.specs.Sessions.{AllFine, NoDemand, SessionFine, WordFine}
use Rattle.st_laws_third.proofs.ClientWords.{client_fine}
use Rattle.st_laws_third.proofs.EventWalk.{Client_step, EventLaw, Server_step, walk_of_event}
use Rattle.st_laws_third.proofs.ServerWords as words
use Rattle.st_laws_third.proofs.ServerWords.{Fine, KeptFine, Stamped, server_fine}
use Rattle.st_laws_third.proofs.Sound.{Sound, apart}

-- every demand among these has stamp 0
abbrev pub MailFine : List SentMessage → Type 0
MailFine xs = (x : SentMessage) → Has x xs → Stamped x.message.header.stamp x.message.body

-- an output leaves the servers, and the mail fine
record Post (w v : World) : Type 0 where
  servers : v.servers ≡ w.servers
  mail : MailFine w.net.messages → MailFine v.net.messages

post_then : (u v w : World) → Post u v → Post v w → Post u w
post_then u v w a b = record { servers = b.servers ∙ a.servers; mail = λ f. b.mail (a.mail f) }

post_as : (w v : World) → v.servers ≡ w.servers → v.net.messages ≡ w.net.messages → Post w v
post_as w v s n = record { servers = s; mail = λ f. subst MailFine (sym n) f }

no_demand : (n : ℕ) (b : Body) → NoDemand b → Stamped n b
no_demand n (bodies.Demand ino g to) f = absurd f
no_demand n b f = tt

one_more : (xs : List SentMessage) (m : SentMessage) → Stamped m.message.header.stamp m.message.body → MailFine xs → MailFine (xs ++ m ∷ [])
one_more xs m s f x h = go (has_append xs (m ∷ []) x h)
  where
    go : (Has x xs) ⊎ (Has x (m ∷ [])) → Stamped x.message.header.stamp x.message.body
    go (inl i) = f x i
    go (inr (inl e)) = subst (λ (z : SentMessage). Stamped z.message.header.stamp z.message.body) (sym e) s
    go (inr (inr i)) = absurd i

-- A client's outputs.

notes_post : (sc : WorldTurn) (c : ClientId) (before : ClientState) (n : Note) → Post sc.world (ev.client_notes sc c before n).world
unfolding ev.client_notes ev.accepts ev.patches ev.loses
notes_post sc c before (notes.Leased s end) = post_as _ _ refl refl
notes_post sc c before (notes.Lost s life) = post_as _ _ refl refl
notes_post sc c before (notes.Accepted f p bytes) = post_as _ _ refl refl
notes_post sc c before (notes.Patched f p at bytes) = post_as _ _ refl refl
notes_post sc c before (notes.Suspected d start) = post_as _ _ refl refl
notes_post sc c before (notes.Stolen d life) = post_as _ _ refl refl
notes_post sc c before (notes.CutDone f p) = post_as _ _ refl refl

plain_post : (sc : WorldTurn) (c : ClientId) (before : ClientState) (o : Output) → WordFine (says.Plain o) → Post sc.world (ev.client_says sc c before o).world
unfolding ev.client_says ev.sends ev.submits ev.answers_with
plain_post sc c before (outputs.Send m) f =
    record { servers = refl; mail = λ g. one_more sc.world.net.messages (record { message = m; lost = false }) (no_demand m.header.stamp m.body f) g }
plain_post sc c before (outputs.Submit number at what) f = go (site_of sc.world c)
  where
    go : (site : Option WorldClient) → Post sc.world (ev.submits sc c site number at what).world
    go None = post_as _ _ refl refl
    go (Some site) = post_as _ _ refl refl
plain_post sc c before (outputs.Answer op answer) f = post_as _ _ refl refl
plain_post sc c before (outputs.Note n) f = notes_post sc c before n

third_post : (sc : ThirdWorldTurn) (c : ClientId) (before : ClientState) (o : ThirdOutput) → WordFine o →
    Post sc.third.world (every.client_says sc c before o).third.world
unfolding every.client_says
third_post sc c before (says.Plain o) f = plain_post (quiet sc.third.world) c before o f
third_post sc c before (says.Left op) f = post_as _ _ refl refl
third_post sc c before (says.Unsynced op ino) f = post_as _ _ refl refl
third_post sc c before (says.Ended s life end) f = post_as _ _ refl refl

all_post : (c : ClientId) (before : ClientState) (os : List ThirdOutput) (sc : ThirdWorldTurn) → AllFine os →
    Post sc.third.world (every.client_says_all c before os sc).third.world
unfolding every.client_says_all
all_post c before [] sc f = post_as _ _ refl refl
all_post c before (o ∷ os) sc f =
    post_then _ _ _ (third_post sc c before o (f o (inl refl))) (all_post c before os (every.client_says sc c before o) (λ x h. f x (inr h)))

flush_post : (w : World) (c : ClientId) (s : ServerId) (end : Option Stamp) (phase : Option Phase) → Post w (ev.flushed_in w c s end phase)
flush_post w c s None (Some phases.Flush) = post_as _ _ refl refl
flush_post w c s (Some end) (Some phases.Flush) = post_as _ _ refl refl
flush_post w c s end (Some phases.Valid) = post_as _ _ refl refl
flush_post w c s end (Some phases.Renewal) = post_as _ _ refl refl
flush_post w c s end (Some phases.Quiesce) = post_as _ _ refl refl
flush_post w c s end (Some phases.Expired) = post_as _ _ refl refl
flush_post w c s end None = post_as _ _ refl refl

flushes_post : (c : ClientId) (state : ClientState) (ss : List ServerId) (w : World) → Post w (ev.flushes c state ss w)
unfolding ev.flushes
flushes_post c state [] w = post_as _ _ refl refl
flushes_post c state (s ∷ ss) w =
    post_then _ _ _ (flush_post w c s (plain.lease_end_with state s) (plain.phase_with state s (clock_of w (nodes.Client c))))
    (flushes_post c state ss (ev.flushed_at w c s state))

took_post : (w : ThirdWorld) (c : ClientId) (site : WorldClient) (t : ThirdClientTurn) → AllFine t.out → Post w.world (every.client_took w c site t).third.world
unfolding every.client_took
took_post w c site t f =
    let sc : ThirdWorldTurn = every.client_says_all c site.node.state t.out (unseen (every.with_client c site t.client w)) in
    post_then w.world (every.with_client c site t.client w).world _ (post_as _ _ refl refl)
    (post_then _ _ _ (all_post c site.node.state t.out (unseen (every.with_client c site t.client w)) f)
    (flushes_post c t.client.plain (all_servers sc.third.world) sc.third.world))

-- A server's outputs.

server_notes_post : (sc : WorldTurn) (s : ServerId) (n : Note) → Post sc.world (ev.server_notes sc s n).world
unfolding ev.server_notes ev.cuts
server_notes_post sc s (notes.Suspected c start) = post_as _ _ refl refl
server_notes_post sc s (notes.Stolen c life) = post_as _ _ refl refl
server_notes_post sc s (notes.CutDone f p) = post_as _ _ refl refl
server_notes_post sc s (notes.Leased t end) = post_as _ _ refl refl
server_notes_post sc s (notes.Lost t life) = post_as _ _ refl refl
server_notes_post sc s (notes.Accepted f p bytes) = post_as _ _ refl refl
server_notes_post sc s (notes.Patched f p at bytes) = post_as _ _ refl refl

server_post : (sc : WorldTurn) (s : ServerId) (o : Output) → words.WordFine o → Post sc.world (ev.server_says sc s o).world
unfolding ev.server_says ev.sends
server_post sc s (outputs.Send m) f = record { servers = refl; mail = λ g. one_more sc.world.net.messages (record { message = m; lost = false }) f.0 g }
server_post sc s (outputs.Note n) f = server_notes_post sc s n
server_post sc s (outputs.Submit number at what) f = post_as _ _ refl refl
server_post sc s (outputs.Answer op answer) f = post_as _ _ refl refl

server_all_post : (s : ServerId) (os : List Output) (sc : WorldTurn) → ((o : Output) → Has o os → words.WordFine o) →
    Post sc.world (ev.server_says_all s os sc).world
unfolding ev.server_says_all
server_all_post s [] sc f = post_as _ _ refl refl
server_all_post s (o ∷ os) sc f =
    post_then _ _ _ (server_post sc s o (f o (inl refl))) (server_all_post s os (ev.server_says sc s o) (λ x h. f x (inr h)))

-- What holds of a world: its mail, and the replies that its servers keep.
pub record Mailed (w : ThirdWorld) : Type 0 where
  pub mail : MailFine w.world.net.messages
  pub kept : (n : ℕ) (node : ServerNode) → numbered w.world.servers n ≡ Some node → KeptFine node.state.sessions

by_post : (w v : ThirdWorld) → Mailed w → Post w.world v.world → Mailed v
by_post w v m p = record { mail = p.mail m.mail; kept = λ n node e. m.kept n node (sym (ap (λ xs. numbered xs n) p.servers) ∙ e) }

mailed_same : (w v : ThirdWorld) → Mailed w → v.world.servers ≡ w.world.servers → v.world.net.messages ≡ w.world.net.messages → Mailed v
mailed_same w v m s n = by_post w v m (post_as w.world v.world s n)

-- one server changes
with_server : (w v : ThirdWorld) (s : ServerId) (old new : ServerNode) → node_of w.world s ≡ Some old → Mailed w → KeptFine new.state.sessions →
    v.world.servers ≡ with_numbered s.0 new w.world.servers → MailFine v.world.net.messages → Mailed v
with_server w v s old new there m k p f = record { mail = f; kept = λ n node e. at n node e (n == s.0) refl }
  where
    own : numbered v.world.servers s.0 ≡ Some new
    own = ap (λ xs. numbered xs s.0) p ∙ numbered_own w.world.servers s.0 new old there

    others : (n : ℕ) → n ≢ s.0 → numbered v.world.servers n ≡ numbered w.world.servers n
    others n h = ap (λ xs. numbered xs n) p ∙ numbered_other w.world.servers s.0 n new (numbered_below w.world.servers s.0 old there).0 h

    at : (n : ℕ) (node : ServerNode) → numbered v.world.servers n ≡ Some node → (b : Bool) → (n == s.0) ≡ b → KeptFine node.state.sessions
    at n node e true b = subst (λ (x : ServerNode). KeptFine x.state.sessions) (some_is (sym own ∙ sym (ap (numbered v.world.servers) (eqb-true n s.0 b)) ∙ e))
        k
    at n node e false b = m.kept n node (sym (others n (apart n s.0 b)) ∙ e)

-- A message that is lost.

has_set : {A : Type 0} (xs : List A) (n : ℕ) (y x : A) → Has x (set xs n y) → (x ≡ y) ⊎ (Has x xs)
has_set [] n y x h = inr h
has_set (z ∷ xs) zero y x (inl e) = inl e
has_set (z ∷ xs) zero y x (inr h) = inr (inr h)
has_set (z ∷ xs) (suc n) y x (inl e) = inr (inl e)
has_set (z ∷ xs) (suc n) y x (inr h) = go (has_set xs n y x h)
  where
    go : (x ≡ y) ⊎ (Has x xs) → (x ≡ y) ⊎ (Has x (z ∷ xs))
    go (inl e) = inl e
    go (inr i) = inr (inr i)

-- a message is lost
loses_mail : (w : ThirdWorld) (k : ℕ) (y : SentMessage) → message_of w.world k ≡ Some y → Mailed w →
    Mailed (every.as_plain w (quiet (ev.with_lost k y w.world))).third
loses_mail w k y e m =
    record { mail = λ x h. go x (has_set w.world.net.messages (pred k) (record y { lost = true }) x h); kept = m.kept }
  where
    go : (x : SentMessage) → (x ≡ record y { lost = true }) ⊎ (Has x w.world.net.messages) → Stamped x.message.header.stamp x.message.body
    go x (inl q) = subst (λ (z : SentMessage). Stamped z.message.header.stamp z.message.body) (sym q) (m.mail y (numbered_has w.world.net.messages k y e))
    go x (inr h) = m.mail x h

-- no client asks a demand
abbrev pub AsksFine : ThirdWorld → Type 0
AsksFine w =
    (n : ℕ) (site : WorldClient) → numbered w.world.clients n ≡ Some site → (a : Association) → Has a site.node.state.associations → SessionFine a.session

-- a client takes an input
takes_mail : (w : ThirdWorld) (c : ClientId) (old site : WorldClient) (b : ClientBeside) (input : ThirdInput) → site_of w.world c ≡ Some old →
    site.node ≡ old.node → beside_of w c ≡ Some b → Sound w → Mailed w → AsksFine w → Mailed (every.client_took w c site (Client_step w c site b input)).third
takes_mail w c old site b input there e q so m asks =
    by_post w _ m (took_post w c site (Client_step w c site b input)
    (subst (λ (s : plain.ClientNode). AllFine
    (client_step w.limits (record { plain = s.state; beside = b }) (clock_of w.world (nodes.Client c)) input).out) (sym e)
    (client_fine w.limits (record { plain = old.node.state; beside = b }) (clock_of w.world (nodes.Client c)) input (so.fits.pairs c.0 old b there q)
    (so.fits.sites c.0 old there).fit (asks c.0 old there))))

-- a server does
serves_mail : (w : ThirdWorld) (s : ServerId) (node : ServerNode) (input : ServerInput) → node_of w.world s ≡ Some node → Mailed w →
    Mailed (every.as_plain w (ev.server_took w.world s (Ok (Server_step w s node input)))).third
unfolding ev.server_took
serves_mail w s node input e m =
    let t = Server_step w s node input in
    let x : Fine (serving.server_step w.world.form node.state (clock_of w.world (nodes.Server s)) input) =
    server_fine w.world.form node.state (clock_of w.world (nodes.Server s)) input (m.kept s.0 node e) in
    let p = server_all_post s t.out (quiet (ev.with_node s t.node w.world)) x.said in
    with_server w _ s node t.node e m x.kept p.servers (p.mail m.mail)

-- a server begins again, and has its limits
server_begins : (w : ThirdWorld) (s : ServerId) (old new : ServerNode) → node_of w.world s ≡ Some old → KeptFine new.state.sessions → Mailed w →
    Mailed (every.server_begins (every.as_plain w (quiet (ev.with_node s new w.world))) s (Some new)).third
unfolding every.server_begins
server_begins w s old new there k m =
    let u : ThirdWorld = (every.as_plain w (quiet (ev.with_node s new w.world))).third in
    let mu : Mailed u = with_server w u s old new there m k refl m.mail in
    let own : node_of u.world s ≡ Some new = numbered_own w.world.servers s.0 new old there in
    with_server u _ s new (limited_node w.limits new) own mu (mu.kept s.0 new own) refl mu.mail

abbrev Mails : ThirdWorld → ThirdWorldTurn → Type 0
Mails w sc = Sound w → Mailed w → AsksFine w → Mailed sc.third

mail_law : EventLaw Mails
unfolding ev.advances ev.effects ev.marks ev.crashes_client ev.crashes_server ev.starts_client ev.starts_server every.client_begins server.crash server.start
    server.begin_epoch
mail_law =
    record {
      still = λ w so m f. mailed_same w w m refl refl;
      takes = takes_mail;
      serves = λ w s node input e so m f. serves_mail w s node input e m;
      loses = λ w k y e so m f. loses_mail w k y e m;
      cuts = λ w from to so m f. mailed_same w _ m refl refl;
      heals = λ w from to so m f. mailed_same w _ m refl refl;
      advances = λ w steps so m f. mailed_same w _ m refl refl;
      effects = λ w k so m f. mailed_same w _ m refl refl;
      reports =
          λ w k ok sc h so m f. h (record { fits = record { sites = so.fits.sites; there = so.fits.there; pairs = so.fits.pairs }; form = so.form })
          (record { mail = m.mail; kept = m.kept }) f;
      client_crashes = λ w c site e so m f. mailed_same w _ m refl refl;
      server_crashes = λ w s node e so m f. server_begins w s node (server.crash_node node) e (λ y h. absurd h) m;
      client_starts = λ w c site e so m f. mailed_same w _ m refl refl;
      server_starts = λ w s node e so m f. server_begins w s node (server.start_node node (clock_of w.world (nodes.Server s))) e (λ y h. absurd h) m;
    }

pub mails : (w : ThirdWorld) (e : ThirdEvent) → Sound w → Mailed w → AsksFine w → Mailed (every.happens w e).third
mails w e so = walk_of_event Mails mail_law w e so.form so
