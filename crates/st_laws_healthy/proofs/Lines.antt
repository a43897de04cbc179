-- What is observed of a client in an event: its answers and its losses are those of its step, if it takes one.
use Rattle.st_lemmas.proofs.Words
use Words.{◌≡◌, ◌≢◌, ℕ, ◌+◌, ◌⊎◌, Bool, true, false, List, [], ◌∷◌, ◌++◌, Option, Some, None, Ok, Err, refl, sym, ap, ◌∙◌, subst, inl, inr, if◌then◌else◌}
use Words.{unwrap_or, ClientId, ServerId, NodeId, Ask, Event, Message, Note, Output, Stamp, ClientInput, ServerInput, Fate, LogEntry, Observation}
use Words.{IssuedCommand, SentMessage}
use Words.nodes
use Words.events
use Words.notes
use Words.outputs
use Words.inputs
use Words.serving
use Words.fates
use Words.seen
use Words.Client as cl
use Words.ClientState.{ClientState, ClientTurn}
use Words.Events as ev
use Words.Events.{WorldTurn, world_step}
use Words.History.{Traced}
use Words.Server as server
use Words.Server.{ServerNode}
use Words.World as world
use Words.World.{World, WorldClient, clock_of, node_of, numbered, site_of, with_numbered}
use Words.Lists.{Has}
use Words.Numbers.{numbered_own}
use Words.Tables.{has_append, same_or_not}
use Rattle.st_rules.specs.declared.node.StepRefusal.TheVariants.{Crashed}
use Rattle.st_lemmas.proofs.Steps.{step_happens}
use Rattle.st_laws_pages.proofs.Flush.Adding.{after_clients}
use Rattle.st_laws_pages.proofs.Lives.Lasting.{flush_parts}
use Rattle.st_laws_lasting.specs.Lasting.{client_clock}
use Rattle.st_laws_lasting.proofs.Young.{after_clocks}

-- an answer or a loss of a client, with the output that it tells of
abbrev pub LineOf : (ClientId → Output → Type 0) → Observation → Type 0
LineOf P (seen.Answered d op a) = P d (outputs.Answer op a)
LineOf P (seen.Lost d v life) = P d (outputs.Note (notes.Lost v life))
LineOf P o = Unit {0}

abbrev pub LinesOf : (ClientId → Output → Type 0) → List Observation → Type 0
LinesOf P os = (o : Observation) → Has o os → LineOf P o

module _ (P : ClientId → Output → Type 0) where
  none_of : LinesOf P []
  none_of o h = absurd h

  more_of : (os : List Observation) (o : Observation) → LinesOf P os → LineOf P o → LinesOf P (os ++ o ∷ [])
  more_of os o w f x h = go (has_append os (o ∷ []) x h)
    where
      go : Has x os ⊎ Has x (o ∷ []) → LineOf P x
      go (inl i) = w x i
      go (inr (inl e)) = subst (LineOf P) (sym e) f
      go (inr (inr i)) = absurd i

  -- a server, and what becomes of the log, give no such line
  server_one : (s : ServerId) (o : Output) (sc : WorldTurn) → LinesOf P sc.seen → LinesOf P (ev.server_says sc s o).seen
  unfolding ev.server_says ev.server_notes ev.cuts ev.sends
  server_one s (outputs.Send m) sc h = more_of sc.seen _ h tt
  server_one s (outputs.Note n) sc h = note n
    where
      note : (n : Note) → LinesOf P (ev.server_notes sc s n).seen
      note (notes.Suspected c t) = more_of sc.seen _ h tt
      note (notes.Stolen c l) = more_of sc.seen _ h tt
      note (notes.CutDone f p) = more_of sc.seen _ h tt
      note n = h
  server_one s o sc h = h

  server_all : (s : ServerId) (os : List Output) (sc : WorldTurn) → LinesOf P sc.seen → LinesOf P (ev.server_says_all s os sc).seen
  unfolding ev.server_says_all
  server_all s [] sc h = h
  server_all s (o ∷ os) sc h = server_all s os (ev.server_says sc s o) (server_one s o sc h)

  fates_of : (n : ℕ) (es fs : List LogEntry) → LinesOf P (ev.fates_from n es fs)
  unfolding ev.fates_from
  fates_of n [] fs = none_of
  fates_of n (e ∷ es) [] = none_of
  fates_of n (e ∷ es) (f ∷ fs) = go e.fate f.fate (fates_of (n + 1) es fs)
    where
      first : (o : Observation) (os : List Observation) → LineOf P o → LinesOf P os → LinesOf P (o ∷ os)
      first o os g w x (inl e) = subst (LineOf P) (sym e) g
      first o os g w x (inr h) = w x h

      go : (a b : Fate) → LinesOf P (ev.fates_from (n + 1) es fs) → LinesOf P (ev.fate_seen n a b ++ ev.fates_from (n + 1) es fs)
      go fates.Pending fates.Pending h = h
      go fates.Pending fates.Hard h = first _ _ tt h
      go fates.Pending (fates.Gone c) h = first _ _ tt h
      go fates.Hard b h = h
      go (fates.Gone c) b h = h

  -- the lines of a client are those of its outputs
  client_one : (c : ClientId) (before : ClientState) (o : Output) (sc : WorldTurn) → P c o → LinesOf P sc.seen → LinesOf P (ev.client_says sc c before o).seen
  unfolding ev.client_says ev.client_notes ev.sends ev.submits ev.answers_with ev.accepts ev.patches ev.loses
  client_one c before (outputs.Send m) sc f h = more_of sc.seen _ h tt
  client_one c before (outputs.Answer op a) sc f h = more_of sc.seen _ h f
  client_one c before (outputs.Submit number at what) sc f h = go (site_of sc.world c)
    where
      go : (o : Option WorldClient) → LinesOf P (ev.submits sc c o number at what).seen
      go None = h
      go (Some site) = more_of sc.seen _ h tt
  client_one c before (outputs.Note n) sc f h = note n f
    where
      note : (n : Note) → P c (outputs.Note n) → LinesOf P (ev.client_notes sc c before n).seen
      note (notes.Leased s e) g = more_of sc.seen _ h tt
      note (notes.Lost s l) g = more_of sc.seen _ h g
      note (notes.Accepted f p bytes) g = more_of sc.seen _ h tt
      note (notes.Patched f p at bytes) g = more_of sc.seen _ h tt
      note n g = h

  client_all : (c : ClientId) (before : ClientState) (os : List Output) (sc : WorldTurn) → ((o : Output) → Has o os → P c o) → LinesOf P sc.seen →
      LinesOf P (ev.client_says_all c before os sc).seen
  unfolding ev.client_says_all
  client_all c before [] sc f h = h
  client_all c before (o ∷ os) sc f h = client_all c before os (ev.client_says sc c before o) (λ x i. f x (inr i)) (client_one c before o sc (f o (inl refl)) h)

-- an input that is an ask is the event's, under the client's next number
abbrev pub AsksNext : Event → ClientId → WorldClient → ClientInput → Type 0
AsksNext e c old (inputs.App op ask) = (e ≡ events.App c ask) × (op ≡ old.asks + 1)
AsksNext e c old i = Unit {0}

module _ (t : Traced) (c : ClientId) (e : Event) where
  -- What is observed of the client: nothing, or what its step said.
  pub data Lines (sc : WorldTurn) : Type 0 where
    NoLines : LinesOf (λ d o. d ≡ c → ⊥) sc.seen → Lines sc
    Steps : (site old : WorldClient) (i : ClientInput) (now : Stamp) → now.0 ≡ client_clock c t.world → site.node ≡ old.node →
        site_of t.world c ≡ Some old → AsksNext e c old i →
        site_of sc.world c ≡ Some (ev.at_node (record site.node { state = (cl.client_step site.node.state now i).state }) site) →
        client_clock c sc.world ≡ client_clock c t.world → LinesOf (λ d o. d ≡ c → Has o (cl.client_step site.node.state now i).out) sc.seen → Lines sc

  abbrev w : World
  w = ev.counted t.world

  quietly : (v : World) → Lines (ev.quiet v)
  quietly v = NoLines (none_of (λ d o. d ≡ c → ⊥))

  -- A step of a client.
  client_takes : (v : World) → v.clients ≡ t.world.clients → v.clocks ≡ t.world.clocks → (x : ClientId) (i : ClientInput) (site old : WorldClient) →
      site.node ≡ old.node → site_of t.world x ≡ Some old → AsksNext e x old i → Lines (ev.client_takes v x i site)
  unfolding ev.client_takes ev.client_took cl.node_step
  client_takes v cs clocks x i site old same at asks = go site.node.running
    where
      now : Stamp
      now = clock_of v (nodes.Client x)

      u : ClientTurn
      u = cl.client_step site.node.state now i

      node : cl.ClientNode
      node = record site.node { state = u.state }

      a : WorldTurn
      a = ev.quiet (ev.with_site x (ev.at_node node site) v)

      b : WorldTurn
      b = ev.client_says_all x site.node.state u.out a

      last : World
      last = ev.flushes x node.state (world.all_servers b.world) b.world

      clients : last.clients ≡ with_numbered x.0 (ev.at_node node site) t.world.clients
      clients = (flush_parts x node.state (world.all_servers b.world) b.world).clients ∙ after_clients x site.node.state u.out a ∙ ap
          (λ z. with_numbered x.0 (ev.at_node node site) z) cs

      its : (x.0 ≡ c.0) ⊎ (x.0 ≢ c.0) → Lines (ev.world_turn last b.seen)
      its (inl q) =
          Steps site old i now
          (ap (λ ts. (unwrap_or (numbered ts x.0) (world.stamp 0)).0) clocks ∙ ap (λ n. (unwrap_or (numbered t.world.clocks n) (world.stamp 0)).0) q) same
          (ap (numbered t.world.clients) (sym q) ∙ at) (subst (λ n. AsksNext e (record { 0 = n }) old i) q asks)
          (ap (λ z. numbered z c.0) clients ∙ ap (λ n. numbered (with_numbered x.0 (ev.at_node node site) t.world.clients) n) (sym q) ∙
          numbered_own t.world.clients x.0 (ev.at_node node site) old at)
          (ap (λ ts. (unwrap_or (numbered ts c.0) (world.stamp 0)).0) ((flush_parts x node.state (world.all_servers b.world) b.world).clocks ∙
          after_clocks x site.node.state u.out a ∙ clocks))
          (client_all (λ d o. d ≡ c → Has o u.out) x site.node.state u.out a (λ o h z. h) (none_of (λ d o. d ≡ c → Has o u.out)))
      its (inr ne) =
          NoLines (client_all (λ d o. d ≡ c → ⊥) x site.node.state u.out a (λ o h z. ne (ap (λ (y : ClientId). y.0) z)) (none_of (λ d o. d ≡ c → ⊥)))

      go : (r : Bool) → Lines (ev.client_took v x site (if r then Ok (cl.node_turn site.node u) else Err Crashed))
      go true = its (same_or_not x.0 c.0)
      go false = quietly v

  at_client : (x : ClientId) (i : ClientInput) → ((old : WorldClient) → site_of w x ≡ Some old → AsksNext e x old i) → Lines (ev.at_client w x i (site_of w x))
  unfolding ev.at_client
  at_client x i asks = go (site_of w x) refl
    where
      go : (o : Option WorldClient) → site_of w x ≡ o → Lines (ev.at_client w x i o)
      go None r = quietly w
      go (Some site) r = client_takes w refl refl x i site site refl r (asks site r)

  -- A step of a server.
  at_server : (x : ServerId) (i : ServerInput) → Lines (ev.at_server w x i (node_of w x))
  unfolding ev.at_server ev.server_takes ev.server_took server.node_step
  at_server x i = go (node_of w x)
    where
      took : (old : ServerNode) (r : Bool) →
          Lines (ev.server_took w x (if r then Ok (server.node_turn old (server.server_step old.state (clock_of w (nodes.Server x)) i)) else Err Crashed))
      took old true =
          let u = server.server_step old.state (clock_of w (nodes.Server x)) i in
          NoLines (server_all (λ d o. d ≡ c → ⊥) x u.out (ev.quiet (ev.with_node x (record old { state = u.state }) w)) (none_of (λ d o. d ≡ c → ⊥)))
      took old false = quietly w

      go : (o : Option ServerNode) → Lines (ev.at_server w x i o)
      go None = quietly w
      go (Some old) = took old old.running

  marked : (v : World) (es : List LogEntry) → Lines (ev.marks v es)
  unfolding ev.marks
  marked v es = NoLines (fates_of (λ d o. d ≡ c → ⊥) 1 v.log es)

  delivers : (n : ℕ) → Lines (ev.delivers w (world.message_of w n))
  unfolding ev.delivers ev.delivers_to
  delivers n = go (world.message_of w n)
    where
      to : (m : Message) (k : NodeId) → Lines (ev.delivers_to w m k)
      to m (nodes.Client x) = at_client x (inputs.Control m) (λ old f. tt)
      to m (nodes.Server x) = at_server x (serving.Control m)

      go : (o : Option SentMessage) → Lines (ev.delivers w o)
      go None = quietly w
      go (Some m) = to m.message (world.receiver_of m)

  asks_happen : (x : ClientId) (ask : Ask) → e ≡ events.App x ask → Lines (ev.asks_at w x ask (site_of w x))
  unfolding ev.asks_at
  asks_happen x ask is = go (site_of w x) refl
    where
      go : (o : Option WorldClient) → site_of w x ≡ o → Lines (ev.asks_at w x ask o)
      go None r = quietly w
      go (Some site) r = client_takes w refl refl x (inputs.App (site.asks + 1) ask) (ev.asked_once_more site) site refl r (is, refl)

  reports : (k : ℕ) (ok : Bool) → Lines (ev.reports_of w k ok)
  unfolding ev.reports_of ev.tells ev.tells_client ev.tells_site
  reports k ok = go (world.issued_of w k)
    where
      v : World
      v = ev.with_disks (ev.disks_after w.disks (Rattle.st_rules.specs.Disks.done w.disks k ok)) w

      same : (x : IssuedCommand) (site : WorldClient) → site_of w x.client ≡ Some site → (b : Bool) →
          Lines (if b then ev.client_takes v x.client (ev.end_told v k ok x) site else ev.quiet v)
      same x site q true = client_takes v refl refl x.client (ev.end_told v k ok x) site site refl q tt
      same x site q false = quietly v

      at : (x : IssuedCommand) (o : Option WorldClient) → site_of w x.client ≡ o → Lines (ev.tells_client v k ok x o)
      at x None q = quietly v
      at x (Some site) q = same x site q (ev.is_same_instance x site)

      go : (o : Option IssuedCommand) → Lines (ev.tells v k ok o)
      go None = quietly v
      go (Some x) = at x (site_of w x.client) refl

  crashes : (x : ClientId) → Lines (ev.crashes_client w x (site_of w x))
  unfolding ev.crashes_client
  crashes x = go (site_of w x)
    where
      go : (o : Option WorldClient) → Lines (ev.crashes_client w x o)
      go None = quietly w
      go (Some site) = marked _ _

  happens : (x : Event) → e ≡ x → Lines (ev.happens w x)
  unfolding ev.happens ev.ticks ev.crashes ev.starts ev.advances ev.effects
  happens (events.Tick (nodes.Client x)) is = at_client x inputs.Tick (λ old f. tt)
  happens (events.Tick (nodes.Server x)) is = at_server x serving.Tick
  happens (events.App x ask) is = asks_happen x ask is
  happens (events.Deliver k) is = delivers k
  happens (events.Lose k) is = quietly _
  happens (events.Cut a b) is = quietly _
  happens (events.Heal a b) is = quietly _
  happens (events.Advance ds) is = marked _ _
  happens (events.Effect k) is = marked _ _
  happens (events.Report k ok) is = reports k ok
  happens (events.Crash (nodes.Client x)) is = crashes x
  happens (events.Crash (nodes.Server x)) is = quietly _
  happens (events.Start n) is = quietly _

  -- an event that the world takes
  pub lines : (sc : WorldTurn) → world_step t.world e ≡ Ok sc → Lines sc
  lines sc h = subst Lines (sym (step_happens t.world e sc h).1) (happens e refl)
