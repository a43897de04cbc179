-- What an event of the third form does to the nodes and to the messages: a client or a server takes a step, or crashes, or starts, or none of this happens.
use Rattle.st_lemmas.proofs.Words
use Words.{◌≡◌, ◌≢◌, ◌⊎◌, ◌+◌, ℕ, Bool, true, false, List, [], ◌∷◌, ◌++◌, Option, Some, None, Ok, map, pred, refl, sym, ap, ◌∙◌, subst, inl, inr}
use Words.{ClientId, Life, Message, NodeId, Note, Output, Phase, SentMessage, ServerId, ServerInput, Stamp, WorldRefusal}
use Words.events
use Words.nodes
use Words.notes
use Words.outputs
use Words.phases
use Words.refusals
use Words.Admissible as admissible
use Words.Client as plain
use Words.Client.{ClientNode}
use Words.ClientState.{ClientState}
use Words.Events as ev
use Words.Events.{WorldTurn, quiet}
use Words.Lists.{Has}
use Words.Members.{has_left, has_right, has_set}
use Words.Numbers.{numbered_below, numbered_has, numbered_other, numbered_own}
use Words.Server as server
use Words.Server.{ServerNode, ServerTurn}
use Words.Tables.{has_append, has_map, has_map_in}
use Words.World.{World, WorldClient, all_servers, clock_of, is_running, message_of, node_of, node_runs, numbered, site_of, site_runs, with_numbered}
use Rattle.std.specs.Option.{option_or}
use Rattle.st_rules.specs.declared.observation.Observation.TheVariants as plain_seen
use Rattle.st_third.specs.declared.event.ThirdEvent.{ThirdEvent}
use Rattle.st_third.specs.declared.event.ThirdEvent.TheVariants as third
use Rattle.st_third.specs.declared.event.ThirdInput.{ThirdInput}
use Rattle.st_third.specs.declared.observation.ThirdObservation.{ThirdObservation}
use Rattle.st_third.specs.declared.observation.ThirdObservation.TheVariants as seen
use Rattle.st_third.specs.declared.output.ThirdOutput.{ThirdOutput}
use Rattle.st_third.specs.declared.output.ThirdOutput.TheVariants as says
use Rattle.st_third.specs.Client.{client_step}
use Rattle.st_third.specs.Events as every
use Rattle.st_third.specs.Events.{ThirdWorldTurn, unseen}
use Rattle.st_third.specs.Limits.{is_third, limited_node, limited_site}
use Rattle.st_third.specs.Server as serving
use Rattle.st_third.specs.State.{ClientBeside, ThirdClientTurn}
use Rattle.st_third.specs.World as worlds
use Rattle.st_third.specs.World.{ThirdWorld, beside_of}
use Rattle.st_laws_leases.specs.Dates.Dates.{message_in, messages}
use Rattle.st_laws_refine.proofs.Server.Delivery.{SameParts, all_parts}
use Rattle.st_laws_third.specs.Living.{heard_in}
use Rattle.st_laws_third.proofs.EventWalk.{Client_step, IsMail, MailLaw, Server_step, heard_by, walk_of_mail}
use Rattle.st_laws_third.proofs.Moves.{took_core}
use Rattle.st_laws_suspicions.proofs.ServerEvents.{took_servers}

-- What a client says.

-- it adds no other message
note_mail : (sc : WorldTurn) (c : ClientId) (before : ClientState) (n : Note) → (ev.client_notes sc c before n).world.net ≡ sc.world.net
unfolding ev.client_notes ev.accepts ev.patches ev.loses
note_mail sc c before (notes.Lost s life) = refl
note_mail sc c before n = refl

last_mail : (ms : List SentMessage) (x m : Message) → Has m (map message_in (ms ++ record { message = x; lost = false } ∷ [])) →
    (Has m (map message_in ms)) ⊎ (m ≡ x)
last_mail ms x m h =
    let y = has_map message_in (ms ++ record { message = x; lost = false } ∷ []) m h in
    go y.0 y.2 (has_append ms (record { message = x; lost = false } ∷ []) y.0 y.1)
  where
    go : (y : SentMessage) → m ≡ y.message → (Has y ms) ⊎ (Has y (record { message = x; lost = false } ∷ [])) → (Has m (map message_in ms)) ⊎ (m ≡ x)
    go y e (inl i) = inl (subst (λ z. Has z (map message_in ms)) (sym e) (has_map_in message_in ms y i))
    go y e (inr (inl q)) = inr (e ∙ ap (λ (z : SentMessage). z.message) q)
    go y e (inr (inr i)) = absurd i

plain_mail : (sc : WorldTurn) (c : ClientId) (before : ClientState) (o : Output) (m : Message) → Has m (messages (ev.client_says sc c before o).world) →
    (Has m (messages sc.world)) ⊎ (outputs.Send m ≡ o)
unfolding ev.client_says ev.sends ev.submits ev.answers_with
plain_mail sc c before (outputs.Send x) m h = go (last_mail sc.world.net.messages x m h)
  where
    go : (Has m (messages sc.world)) ⊎ (m ≡ x) → (Has m (messages sc.world)) ⊎ (outputs.Send m ≡ outputs.Send x)
    go (inl i) = inl i
    go (inr e) = inr (ap outputs.Send e)
plain_mail sc c before (outputs.Submit number at what) m h = go (site_of sc.world c) h
  where
    go : (o : Option WorldClient) → Has m (messages (ev.submits sc c o number at what).world) →
        (Has m (messages sc.world)) ⊎ (outputs.Send m ≡ outputs.Submit number at what)
    go None i = inl i
    go (Some site) i = inl i
plain_mail sc c before (outputs.Answer op a) m h = inl h
plain_mail sc c before (outputs.Note n) m h =
    inl (subst (λ (x : Words.World.Net). Has m (map message_in x.messages)) (note_mail sc c before n) h)

word_mail : (sc : ThirdWorldTurn) (c : ClientId) (before : ClientState) (o : ThirdOutput) (m : Message) →
    Has m (messages (every.client_says sc c before o).third.world) → (Has m (messages sc.third.world)) ⊎ (says.Plain (outputs.Send m) ≡ o)
unfolding every.client_says
word_mail sc c before (says.Plain o) m h = go (plain_mail (quiet sc.third.world) c before o m h)
  where
    go : (Has m (messages sc.third.world)) ⊎ (outputs.Send m ≡ o) → (Has m (messages sc.third.world)) ⊎ (says.Plain (outputs.Send m) ≡ says.Plain o)
    go (inl i) = inl i
    go (inr e) = inr (ap says.Plain e)
word_mail sc c before (says.Left op) m h = inl h
word_mail sc c before (says.Unsynced op ino) m h = inl h
word_mail sc c before (says.Ended s life end) m h = inl h

words_mail : (c : ClientId) (before : ClientState) (os : List ThirdOutput) (sc : ThirdWorldTurn) (m : Message) →
    Has m (messages (every.client_says_all c before os sc).third.world) → (Has m (messages sc.third.world)) ⊎ (Has (says.Plain (outputs.Send m)) os)
unfolding every.client_says_all
words_mail c before [] sc m h = inl h
words_mail c before (o ∷ os) sc m h = go (words_mail c before os (every.client_says sc c before o) m h)
  where
    at : (Has m (messages sc.third.world)) ⊎ (says.Plain (outputs.Send m) ≡ o) →
        (Has m (messages sc.third.world)) ⊎ (Has (says.Plain (outputs.Send m)) (o ∷ os))
    at (inl i) = inl i
    at (inr e) = inr (inl e)

    go : (Has m (messages (every.client_says sc c before o).third.world)) ⊎ (Has (says.Plain (outputs.Send m)) os) →
        (Has m (messages sc.third.world)) ⊎ (Has (says.Plain (outputs.Send m)) (o ∷ os))
    go (inl i) = at (word_mail sc c before o m i)
    go (inr i) = inr (inr i)

flush_mail : (w : World) (c : ClientId) (s : ServerId) (end : Option Stamp) (phase : Option Phase) → (ev.flushed_in w c s end phase).net ≡ w.net
flush_mail w c s None (Some phases.Flush) = refl
flush_mail w c s (Some end) (Some phases.Flush) = refl
flush_mail w c s end phase = refl

flushes_mail : (c : ClientId) (state : ClientState) (ss : List ServerId) (w : World) → (ev.flushes c state ss w).net ≡ w.net
unfolding ev.flushes
flushes_mail c state [] w = refl
flushes_mail c state (s ∷ ss) w =
    flushes_mail c state ss (ev.flushed_at w c s state) ∙
    flush_mail w c s (plain.lease_end_with state s) (plain.phase_with state s (clock_of w (nodes.Client c)))

took_mail : (w : ThirdWorld) (c : ClientId) (site : WorldClient) (t : ThirdClientTurn) (m : Message) →
    Has m (messages (every.client_took w c site t).third.world) →
    (Has m (messages w.world)) ⊎ (Has (says.Plain (outputs.Send m)) t.out)
unfolding every.client_took
took_mail w c site t m h =
    let sc : ThirdWorldTurn = every.client_says_all c site.node.state t.out (unseen (every.with_client c site t.client w)) in
    words_mail c site.node.state t.out (unseen (every.with_client c site t.client w)) m
    (subst (λ (x : Words.World.Net). Has m (map message_in x.messages)) (flushes_mail c t.client.plain (all_servers sc.third.world) sc.third.world) h)

-- The ends of lives are seen.

-- what was seen stays
word_seen : (sc : ThirdWorldTurn) (c : ClientId) (before : ClientState) (o : ThirdOutput) (y : ThirdObservation) → Has y sc.seen →
    Has y (every.client_says sc c before o).seen
unfolding every.client_says
word_seen sc c before (says.Plain o) y h = has_left sc.seen _ y h
word_seen sc c before (says.Left op) y h = has_left sc.seen _ y h
word_seen sc c before (says.Unsynced op ino) y h = has_left sc.seen _ y h
word_seen sc c before (says.Ended s life end) y h = has_left sc.seen _ y h

words_seen : (c : ClientId) (before : ClientState) (os : List ThirdOutput) (sc : ThirdWorldTurn) (y : ThirdObservation) → Has y sc.seen →
    Has y (every.client_says_all c before os sc).seen
unfolding every.client_says_all
words_seen c before [] sc y h = h
words_seen c before (o ∷ os) sc y h = words_seen c before os (every.client_says sc c before o) y (word_seen sc c before o y h)

-- what is said is seen
words_tell : (c : ClientId) (before : ClientState) (x : ThirdOutput) (y : ThirdObservation) →
    ((sc : ThirdWorldTurn) → Has y (every.client_says sc c before x).seen) → (os : List ThirdOutput) (sc : ThirdWorldTurn) → Has x os →
    Has y (every.client_says_all c before os sc).seen
unfolding every.client_says_all
words_tell c before x y one [] sc h = absurd h
words_tell c before x y one (o ∷ os) sc (inl e) =
    words_seen c before os (every.client_says sc c before o) y (subst (λ (z : ThirdOutput). Has y (every.client_says sc c before z).seen) e (one sc))
words_tell c before x y one (o ∷ os) sc (inr h) = words_tell c before x y one os (every.client_says sc c before o) h

loss_seen : (c : ClientId) (before : ClientState) (s : ServerId) (life : Life) (sc : ThirdWorldTurn) →
    Has (seen.Plain (plain_seen.Lost c s life)) (every.client_says sc c before (says.Plain (outputs.Note (notes.Lost s life)))).seen
unfolding every.client_says ev.client_says ev.client_notes ev.loses
loss_seen c before s life sc = has_right sc.seen _ (seen.Plain (plain_seen.Lost c s life)) (inl refl)

end_seen : (c : ClientId) (before : ClientState) (s : ServerId) (life : Life) (end : Stamp) (sc : ThirdWorldTurn) →
    Has (seen.Ended c s life) (every.client_says sc c before (says.Ended s life end)).seen
unfolding every.client_says
end_seen c before s life end sc = has_right sc.seen _ (seen.Ended c s life) (inl refl)

pub took_loses : (w : ThirdWorld) (c : ClientId) (site : WorldClient) (t : ThirdClientTurn) (s : ServerId) (life : Life) →
    Has (says.Plain (outputs.Note (notes.Lost s life))) t.out → Has (seen.Plain (plain_seen.Lost c s life)) (every.client_took w c site t).seen
unfolding every.client_took
took_loses w c site t s life h =
    words_tell c site.node.state (says.Plain (outputs.Note (notes.Lost s life))) (seen.Plain (plain_seen.Lost c s life))
    (loss_seen c site.node.state s life) t.out _ h

pub took_ends : (w : ThirdWorld) (c : ClientId) (site : WorldClient) (t : ThirdClientTurn) (s : ServerId) (life : Life) (end : Stamp) →
    Has (says.Ended s life end) t.out → Has (seen.Ended c s life) (every.client_took w c site t).seen
unfolding every.client_took
took_ends w c site t s life end h =
    words_tell c site.node.state (says.Ended s life end) (seen.Ended c s life) (end_seen c site.node.state s life end) t.out _ h

-- What a server says.

server_note_mail : (sc : WorldTurn) (s : ServerId) (n : Note) → (ev.server_notes sc s n).world.net ≡ sc.world.net
unfolding ev.server_notes ev.cuts
server_note_mail sc s (notes.CutDone f p) = refl
server_note_mail sc s n = refl

server_mail : (sc : WorldTurn) (s : ServerId) (o : Output) (m : Message) → Has m (messages (ev.server_says sc s o).world) →
    (Has m (messages sc.world)) ⊎ (outputs.Send m ≡ o)
unfolding ev.server_says ev.sends
server_mail sc s (outputs.Send x) m h = go (last_mail sc.world.net.messages x m h)
  where
    go : (Has m (messages sc.world)) ⊎ (m ≡ x) → (Has m (messages sc.world)) ⊎ (outputs.Send m ≡ outputs.Send x)
    go (inl i) = inl i
    go (inr e) = inr (ap outputs.Send e)
server_mail sc s (outputs.Note n) m h = inl (subst (λ (x : Words.World.Net). Has m (map message_in x.messages)) (server_note_mail sc s n) h)
server_mail sc s o m h = inl h

server_words_mail : (s : ServerId) (os : List Output) (sc : WorldTurn) (m : Message) → Has m (messages (ev.server_says_all s os sc).world) →
    (Has m (messages sc.world)) ⊎ (Has (outputs.Send m) os)
unfolding ev.server_says_all
server_words_mail s [] sc m h = inl h
server_words_mail s (o ∷ os) sc m h = go (server_words_mail s os (ev.server_says sc s o) m h)
  where
    at : (Has m (messages sc.world)) ⊎ (outputs.Send m ≡ o) → (Has m (messages sc.world)) ⊎ (Has (outputs.Send m) (o ∷ os))
    at (inl i) = inl i
    at (inr e) = inr (inl e)

    go : (Has m (messages (ev.server_says sc s o).world)) ⊎ (Has (outputs.Send m) os) → (Has m (messages sc.world)) ⊎ (Has (outputs.Send m) (o ∷ os))
    go (inl i) = at (server_mail sc s o m i)
    go (inr i) = inr (inr i)

-- What an event does.

-- each message was there before
abbrev pub NoMail : ThirdWorld → ThirdWorldTurn → Type 0
NoMail w sc = (m : Message) → Has m (messages sc.third.world) → Has m (messages w.world)

-- what is under another number is as before
abbrev pub AllBut : {A : Type 0} → ℕ → List A → List A → Type 0
AllBut n xs ys = (k : ℕ) → k ≢ n → numbered ys k ≡ numbered xs k

-- A client took a step: from what it had, what it has then, and what it said.
pub record ClientStepped (w : ThirdWorld) (sc : ThirdWorldTurn) (c : ClientId) (old new : WorldClient) (t : ThirdClientTurn) : Type 0 where
  pub there : site_of sc.third.world c ≡ Some new
  pub state : new.node.state ≡ t.client.plain
  pub running : new.node.running ≡ old.node.running
  pub others : AllBut c.0 w.world.clients sc.third.world.clients
  pub servers : sc.third.world.servers ≡ w.world.servers
  pub sent : (m : Message) → Has m (messages sc.third.world) → (Has m (messages w.world)) ⊎ (Has (says.Plain (outputs.Send m)) t.out)
  pub lost : (s : ServerId) (life : Life) → Has (says.Plain (outputs.Note (notes.Lost s life))) t.out → Has (seen.Plain (plain_seen.Lost c s life)) sc.seen
  pub ended : (s : ServerId) (life : Life) (end : Stamp) → Has (says.Ended s life end) t.out → Has (seen.Ended c s life) sc.seen

-- a client crashed or started
pub record ClientBegun (w : ThirdWorld) (sc : ThirdWorldTurn) (c : ClientId) (old new : WorldClient) : Type 0 where
  pub there : site_of sc.third.world c ≡ Some new
  pub off : (new.node.running ≡ false) ⊎ (old.node.running ≡ false)
  pub others : AllBut c.0 w.world.clients sc.third.world.clients
  pub servers : sc.third.world.servers ≡ w.world.servers
  pub mail : NoMail w sc

-- a server took a step
pub record ServerStepped (w : ThirdWorld) (sc : ThirdWorldTurn) (s : ServerId) (old : ServerNode) (t : ServerTurn) : Type 0 where
  pub there : node_of sc.third.world s ≡ Some (record old { state = t.state })
  pub others : AllBut s.0 w.world.servers sc.third.world.servers
  pub clients : sc.third.world.clients ≡ w.world.clients
  pub sent : (m : Message) → Has m (messages sc.third.world) → (Has m (messages w.world)) ⊎ (Has (outputs.Send m) t.out)

-- a server crashed or started
pub record ServerBegun (w : ThirdWorld) (sc : ThirdWorldTurn) (s : ServerId) (old new : ServerNode) : Type 0 where
  pub there : node_of sc.third.world s ≡ Some new
  pub off : (new.running ≡ false) ⊎ (old.running ≡ false)
  pub id : new.state.id ≡ old.state.id
  pub others : AllBut s.0 w.world.servers sc.third.world.servers
  pub clients : sc.third.world.clients ≡ w.world.clients
  pub mail : NoMail w sc

-- What happened.
pub data Happened (w : ThirdWorld) (sc : ThirdWorldTurn) : Type 0 where
  NobodyDid : sc.third.world.clients ≡ w.world.clients → sc.third.world.servers ≡ w.world.servers → NoMail w sc → Happened w sc
  ClientDid : (c : ClientId) (old new : WorldClient) (b : ClientBeside) (input : ThirdInput) → site_of w.world c ≡ Some old → beside_of w c ≡ Some b →
      IsMail w (nodes.Client c) (heard_in input) →
      ClientStepped w sc c old new (client_step w.limits (record { plain = old.node.state; beside = b }) (clock_of w.world (nodes.Client c)) input) →
      Happened w sc
  ClientBegan : (c : ClientId) (old new : WorldClient) → site_of w.world c ≡ Some old → ClientBegun w sc c old new → Happened w sc
  ServerDid : (s : ServerId) (old : ServerNode) (input : ServerInput) → node_of w.world s ≡ Some old → IsMail w (nodes.Server s) (heard_by input) →
      ServerStepped w sc s old (serving.server_step w.world.form old.state (clock_of w.world (nodes.Server s)) input) → Happened w sc
  ServerBegan : (s : ServerId) (old new : ServerNode) → node_of w.world s ≡ Some old → ServerBegun w sc s old new → Happened w sc

module _ (w : ThirdWorld) where
  client_did : (c : ClientId) (old site : WorldClient) (b : ClientBeside) (input : ThirdInput) → site_of w.world c ≡ Some old → site.node ≡ old.node →
      beside_of w c ≡ Some b → IsMail w (nodes.Client c) (heard_in input) → Happened w (every.client_took w c site (Client_step w c site b input))
  client_did c old site b input there e q mail =
      let t : ThirdClientTurn = Client_step w c site b input in
      let same = ap (λ (x : ClientNode). client_step w.limits (record { plain = x.state; beside = b }) (clock_of w.world (nodes.Client c)) input) e in
      let h = took_core w c site t in
      let new : WorldClient = ev.at_node (record site.node { state = t.client.plain }) site in
      ClientDid c old new b input there q mail
      (record {
        there = ap (λ x. numbered x.plain.clients c.0) h ∙ numbered_own w.world.clients c.0 new old there;
        state = ap (λ (x : ThirdClientTurn). x.client.plain) same;
        running = ap (λ (x : ClientNode). x.running) e;
        others = λ k ne. ap (λ x. numbered x.plain.clients k) h ∙
            numbered_other w.world.clients c.0 k new (numbered_below w.world.clients c.0 old there).0 ne;
        servers = took_servers w c site t;
        sent = λ m i. subst (λ (x : ThirdClientTurn). (Has m (messages w.world)) ⊎ (Has (says.Plain (outputs.Send m)) x.out)) same (took_mail w c site t m i);
        lost = λ s life i. took_loses w c site t s life
            (subst (λ (x : ThirdClientTurn). Has (says.Plain (outputs.Note (notes.Lost s life))) x.out) (sym same) i);
        ended = λ s life end i. took_ends w c site t s life end (subst (λ (x : ThirdClientTurn). Has (says.Ended s life end) x.out) (sym same) i);
      })

  server_did : (s : ServerId) (node : ServerNode) (input : ServerInput) → node_of w.world s ≡ Some node → IsMail w (nodes.Server s) (heard_by input) →
      Happened w (every.as_plain w (ev.server_took w.world s (Ok (Server_step w s node input))))
  unfolding ev.server_took
  server_did s node input there mail =
      let t : server.NodeTurn = Server_step w s node input in
      let v : WorldTurn = quiet (ev.with_node s t.node w.world) in
      let parts : SameParts (ev.with_node s t.node w.world) (ev.server_says_all s t.out v).world = all_parts s t.out v in
      ServerDid s node input there mail
      (record {
        there = ap (λ xs. numbered xs s.0) parts.servers ∙ numbered_own w.world.servers s.0 t.node node there;
        others = λ k ne. ap (λ xs. numbered xs k) parts.servers ∙
            numbered_other w.world.servers s.0 k t.node (numbered_below w.world.servers s.0 node there).0 ne;
        clients = parts.clients;
        sent = λ m h. server_words_mail s t.out v m h;
      })

  lost_mail : (k : ℕ) (y : SentMessage) → message_of w.world k ≡ Some y → NoMail w (every.as_plain w (quiet (ev.with_lost k y w.world)))
  lost_mail k y e m h =
      let z = has_map message_in (Words.set w.world.net.messages (pred k) (record y { lost = true })) m h in
      go z.0 z.2 (has_set w.world.net.messages (pred k) (record y { lost = true }) z.0 z.1)
    where
      go : (x : SentMessage) → m ≡ x.message → (x ≡ record y { lost = true }) ⊎ (Has x w.world.net.messages) → Has m (messages w.world)
      go x q (inl i) =
          subst (λ n. Has n (messages w.world)) (sym (q ∙ ap (λ (z : SentMessage). z.message) i))
          (has_map_in message_in w.world.net.messages y (numbered_has w.world.net.messages k y e))
      go x q (inr i) = subst (λ n. Has n (messages w.world)) (sym q) (has_map_in message_in w.world.net.messages x i)

  -- one that is put in place twice
  twice_own : {A : Type 0} (xs : List A) (n : ℕ) (old mid new : A) → numbered xs n ≡ Some old →
      numbered (with_numbered n new (with_numbered n mid xs)) n ≡ Some new
  twice_own xs n old mid new e = numbered_own (with_numbered n mid xs) n new mid (numbered_own xs n mid old e)

  twice_others : {A : Type 0} (xs : List A) (n : ℕ) (old mid new : A) → numbered xs n ≡ Some old → AllBut n xs (with_numbered n new (with_numbered n mid xs))
  twice_others xs n old mid new e k ne =
      let l = (numbered_below xs n old e).0 in
      numbered_other (with_numbered n mid xs) n k new l ne ∙ numbered_other xs n k mid l ne

-- a node that starts didn't run
abbrev pub StartsIdle : ThirdWorld → NodeId → Type 0
StartsIdle w n = is_running w.world n ≡ false

happened_law : MailLaw StartsIdle Happened
unfolding ev.advances ev.effects ev.marks ev.crashes_client ev.crashes_server ev.starts_client ev.starts_server every.client_begins every.server_begins
    server.crash
    server.start server.begin_epoch
happened_law =
    record {
      still = λ w. NobodyDid refl refl (λ m h. h);
      takes = λ w c old site b input there e q mail. client_did w c old site b input there e q mail;
      serves = λ w s node input there mail. server_did w s node input there mail;
      loses = λ w k m e. NobodyDid refl refl (lost_mail w k m e);
      cuts = λ w from to. NobodyDid refl refl (λ m h. h);
      heals = λ w from to. NobodyDid refl refl (λ m h. h);
      advances = λ w steps. NobodyDid refl refl (λ m h. h);
      effects = λ w k. NobodyDid refl refl (λ m h. h);
      reports = λ w k ok sc h. reported w k ok sc h;
      client_crashes =
          λ w c site e. ClientBegan c site (limited_site w.limits (ev.stopped_site site)) e
          (record {
            there = twice_own w w.world.clients c.0 site (ev.stopped_site site) (limited_site w.limits (ev.stopped_site site)) e;
            off = inl refl;
            others = twice_others w w.world.clients c.0 site (ev.stopped_site site) (limited_site w.limits (ev.stopped_site site)) e;
            servers = refl;
            mail = λ m h. h;
          });
      server_crashes =
          λ w s node e. ServerBegan s node (limited_node w.limits (server.crash_node node)) e
          (record {
            there = twice_own w w.world.servers s.0 node (server.crash_node node) (limited_node w.limits (server.crash_node node)) e;
            off = inl refl;
            id = refl;
            others = twice_others w w.world.servers s.0 node (server.crash_node node) (limited_node w.limits (server.crash_node node)) e;
            clients = refl;
            mail = λ m h. h;
          });
      client_starts =
          λ w c site e q. ClientBegan c site (limited_site w.limits (ev.started_site site)) e
          (record {
            there = twice_own w w.world.clients c.0 site (ev.started_site site) (limited_site w.limits (ev.started_site site)) e;
            off = inr (sym (ap site_runs e) ∙ q);
            others = twice_others w w.world.clients c.0 site (ev.started_site site) (limited_site w.limits (ev.started_site site)) e;
            servers = refl;
            mail = λ m h. h;
          });
      server_starts =
          λ w s node e q. let mid : ServerNode = server.start_node node (clock_of w.world (nodes.Server s)) in
          ServerBegan s node (limited_node w.limits mid) e
          (record {
            there = twice_own w w.world.servers s.0 node mid (limited_node w.limits mid) e;
            off = inr (sym (ap node_runs e) ∙ q);
            id = refl;
            others = twice_others w w.world.servers s.0 node mid (limited_node w.limits mid) e;
            clients = refl;
            mail = λ m h. h;
          });
    }
  where
    reported : (w : ThirdWorld) (k : ℕ) (ok : Bool) (sc : ThirdWorldTurn) → Happened (every.with_report k ok w) sc → Happened w sc
    reported w k ok sc (NobodyDid a b m) = NobodyDid a b m
    reported w k ok sc (ClientDid c old new b input there q mail s) =
        ClientDid c old new b input there q mail
        (record {
          there = s.there;
          state = s.state;
          running = s.running;
          others = s.others;
          servers = s.servers;
          sent = s.sent;
          lost = s.lost;
          ended = s.ended;
        })
    reported w k ok sc (ClientBegan c old new there s) =
        ClientBegan c old new there (record { there = s.there; off = s.off; others = s.others; servers = s.servers; mail = s.mail })
    reported w k ok sc (ServerDid s old input there mail x) =
        ServerDid s old input there mail (record { there = x.there; others = x.others; clients = x.clients; sent = x.sent })
    reported w k ok sc (ServerBegan s old new there x) =
        ServerBegan s old new there (record { there = x.there; off = x.off; id = x.id; others = x.others; clients = x.clients; mail = x.mail })

pub happened : (w : ThirdWorld) (e : ThirdEvent) → is_third w.world.form ≡ true → ((n : NodeId) → e ≡ third.Plain (events.Start n) → StartsIdle w n) →
    Happened w (every.happens w e)
happened = walk_of_mail StartsIdle Happened happened_law

-- a start that isn't refused
pub starts_idle : (w : ThirdWorld) (e : ThirdEvent) → worlds.refusal w e ≡ None → (n : NodeId) → e ≡ third.Plain (events.Start n) → is_running w.world n ≡ false
unfolding worlds.refusal worlds.plain_refusal admissible.refusal admissible.stands
starts_idle w e q n is = runs (is_running w.world n) (sym (ap (worlds.refusal w) is) ∙ q)
  where
    no : (o : Option WorldRefusal) → option_or o (Some (refusals.Running n)) ≡ None → ⊥
    no None e = cc
    no (Some x) e = cc

    runs : (b : Bool) → option_or (admissible.no_node w.world n) (admissible.stands b (refusals.Running n)) ≡ None → b ≡ false
    runs false e = refl
    runs true e = absurd (no (admissible.no_node w.world n) e)
