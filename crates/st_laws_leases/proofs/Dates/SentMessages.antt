-- What a step's outputs do to the world: messages are sent and observed, and timers move in the history.
use Rattle.st_lemmas.proofs.Words
use Words.{◌≡◌, ℕ, ◌+◌, ◌⊎◌, false, List, [], ◌∷◌, ◌++◌, Option, Some, None, refl, sym, ap, ◌∙◌, subst, inl, inr, length, ClientId, ServerId, Stamp}
use Words.{Message, Note, Output, Phase, Fate, LogEntry, Observation}
use Words.nodes
use Words.notes
use Words.outputs
use Words.phases
use Words.fates
use Words.seen
use Words.Client as cl
use Words.ClientState.{ClientState}
use Words.World as world
use Words.World.{World, WorldClient, numbered, site_of}
use Words.Events as ev
use Words.Events.{WorldTurn, client_says, client_says_all, server_says, server_says_all}
use Words.History.{History, recall, recall_all}
use Words.Lists.{Has}
use Words.Tables.{has_append}
use Words.Numbers.{numbered_more}
use Words.Lengths.{map_last}
use Words.Members.{has_left, has_right}
use Words.Worlds.{recall_more}
use Rattle.st_laws_leases.specs.Dates.Dates.{message_in, messages}
use Rattle.st_laws_leases.proofs.Dates.Serving.{timer_said, timers_out}

-- Outputs that were said: nodes stay, messages are sent and observed, and nothing that was observed goes.
pub record Said (a b : WorldTurn) (os : List Output) : Type 0 where
  pub clients : b.world.clients ≡ a.world.clients
  pub servers : b.world.servers ≡ a.world.servers
  pub old : (m : Message) → Has m (messages a.world) → Has m (messages b.world)
  pub get : (k : ℕ) (m : Message) → numbered (messages b.world) k ≡ Some m → (numbered (messages a.world) k ≡ Some m) ⊎ Has (outputs.Send m) os
  pub told : (m : Message) → Has (outputs.Send m) os → (k : ℕ) × Has (seen.Sent k m) b.seen
  pub grows : (o : Observation) → Has o a.seen → Has o b.seen

said_none : (a : WorldTurn) → Said a a []
said_none a = record { clients = refl; servers = refl; old = λ m h. h; get = λ k m e. inl e; told = λ m h. elim h [ ]; grows = λ o h. h }

said_then : (a b d : WorldTurn) (o : Output) (os : List Output) → Said a b (o ∷ []) → Said b d os → Said a d (o ∷ os)
said_then a b d o os x y =
    record {
      clients = y.clients ∙ x.clients;
      servers = y.servers ∙ x.servers;
      old = λ m h. y.old m (x.old m h);
      get = λ k m e. later k m (y.get k m e);
      told = λ m h. tell m h;
      grows = λ o h. y.grows o (x.grows o h);
    }
  where
    first : (m : Message) → Has (outputs.Send m) (o ∷ []) → Has (outputs.Send m) (o ∷ os)
    first m (inl e) = inl e
    first m (inr i) = elim i [ ]

    before : (k : ℕ) (m : Message) → (numbered (messages a.world) k ≡ Some m) ⊎ Has (outputs.Send m) (o ∷ []) →
        (numbered (messages a.world) k ≡ Some m) ⊎ Has (outputs.Send m) (o ∷ os)
    before k m (inl e) = inl e
    before k m (inr i) = inr (first m i)

    later : (k : ℕ) (m : Message) → (numbered (messages b.world) k ≡ Some m) ⊎ Has (outputs.Send m) os →
        (numbered (messages a.world) k ≡ Some m) ⊎ Has (outputs.Send m) (o ∷ os)
    later k m (inl e) = before k m (x.get k m e)
    later k m (inr i) = inr (inr i)

    tell : (m : Message) → Has (outputs.Send m) (o ∷ os) → (k : ℕ) × Has (seen.Sent k m) d.seen
    tell m (inl e) = let z = x.told m (inl e) in (z.0, y.grows _ z.1)
    tell m (inr i) = y.told m i

-- an output that isn't a message, with one more observation or none
unsent : (a b : WorldTurn) (o : Output) → ((m : Message) → outputs.Send m ≡ o → ⊥) → b.world.clients ≡ a.world.clients → b.world.servers ≡ a.world.servers →
    messages b.world ≡ messages a.world → ((x : Observation) → Has x a.seen → Has x b.seen) → Said a b (o ∷ [])
unsent a b o n c s m g =
    record {
      clients = c;
      servers = s;
      old = λ x h. subst (Has x) (sym m) h;
      get = λ k x e. inl (ap (λ z. numbered z k) (sym m) ∙ e);
      told = λ x h. absurd (none x h);
      grows = g;
    }
  where
    none : (x : Message) → Has (outputs.Send x) (o ∷ []) → ⊥
    none x (inl e) = n x e
    none x (inr i) = elim i [ ]

seen_with_one_more : (a : WorldTurn) (o : Observation) (x : Observation) → Has x a.seen → Has x (a.seen ++ o ∷ [])
seen_with_one_more a o x h = has_left a.seen (o ∷ []) x h

sent : (a : WorldTurn) (m : Message) → Said a (ev.sends a m) (outputs.Send m ∷ [])
unfolding ev.sends
sent a m =
    record {
      clients = refl;
      servers = refl;
      old = λ x h. subst (Has x) (sym all) (has_left (messages a.world) _ x h);
      get = λ k x e. which x (numbered_more (messages a.world) m k x (sym (ap (λ z. numbered z k) all) ∙ e));
      told = λ x h. tell x h;
      grows = λ o h. has_left a.seen _ o h;
    }
  where
    all : messages (ev.with_message m a.world) ≡ messages a.world ++ m ∷ []
    all = map_last message_in a.world.net.messages (record { message = m; lost = false })

    which : {E : Type 0} {F : Type 0} (x : Message) → E ⊎ (F × (x ≡ m)) → E ⊎ Has (outputs.Send x) (outputs.Send m ∷ [])
    which x (inl e) = inl e
    which x (inr e) = inr (inl (ap outputs.Send e.1))

    same : (x : Message) → outputs.Send x ≡ outputs.Send m → x ≡ m
    same x e = cc

    tell : (x : Message) → Has (outputs.Send x) (outputs.Send m ∷ []) →
        (k : ℕ) × Has (seen.Sent k x) (a.seen ++ seen.Sent (length a.world.net.messages + 1) m ∷ [])
    tell x (inl e) = (length a.world.net.messages + 1, has_right a.seen _ _ (inl (ap (seen.Sent (length a.world.net.messages + 1)) (same x e))))
    tell x (inr i) = elim i [ ]

-- Servers.
server_one : (a : WorldTurn) (s : ServerId) (o : Output) → Said a (server_says a s o) (o ∷ [])
unfolding server_says ev.server_notes ev.cuts
server_one a s (outputs.Send m) = sent a m
server_one a s (outputs.Note n) = go n
  where
    go : (n : Note) → Said a (ev.server_notes a s n) (outputs.Note n ∷ [])
    go (notes.Suspected c start) = unsent a _ _ (λ m e. cc) refl refl refl (seen_with_one_more a _)
    go (notes.Stolen c life) = unsent a _ _ (λ m e. cc) refl refl refl (seen_with_one_more a _)
    go (notes.CutDone f p) = unsent a _ _ (λ m e. cc) refl refl refl (seen_with_one_more a _)
    go n = unsent a _ _ (λ m e. cc) refl refl refl (λ x h. h)
server_one a s o = unsent a _ _ (λ m e. cc) refl refl refl (λ x h. h)

pub server_said : (s : ServerId) (os : List Output) (a : WorldTurn) → Said a (server_says_all s os a) os
unfolding server_says_all
server_said s [] a = said_none a
server_said s (o ∷ os) a = said_then a (server_says a s o) _ o os (server_one a s o) (server_said s os (server_says a s o))

-- a suspicion that a server notes is observed
suspicion_told : (s : ServerId) (c : ClientId) (start : Stamp) (a : WorldTurn) →
    Has (seen.Suspected s c start) (server_says a s (outputs.Note (notes.Suspected c start))).seen
unfolding server_says ev.server_notes
suspicion_told s c start a = has_right a.seen _ _ (inl refl)

pub suspicion_seen : (s : ServerId) (c : ClientId) (start : Stamp) (os : List Output) (a : WorldTurn) → Has (outputs.Note (notes.Suspected c start)) os →
    Has (seen.Suspected s c start) (server_says_all s os a).seen
unfolding server_says_all
suspicion_seen s c start [] a h = elim h [ ]
suspicion_seen s c start (o ∷ os) a (inl e) =
    (server_said s os (server_says a s o)).grows _ (subst (λ x. Has (seen.Suspected s c start) (server_says a s x).seen) e (suspicion_told s c start a))
suspicion_seen s c start (o ∷ os) a (inr i) = suspicion_seen s c start os (server_says a s o) i

-- the timers of the history move as the outputs say
timers_one : (w v : World) (s : ServerId) (h : History) (a : WorldTurn) (o : Output) →
    (recall_all w v (server_says a s o).seen h).timers ≡ timer_said w s o (recall_all w v a.seen h).timers
unfolding server_says ev.server_notes ev.cuts ev.sends recall
timers_one w v s h a (outputs.Send m) = ap (λ (x : History). x.timers) (recall_more w v a.seen _ h)
timers_one w v s h a (outputs.Note n) = go n
  where
    go : (n : Note) → (recall_all w v (ev.server_notes a s n).seen h).timers ≡ timer_said w s (outputs.Note n) (recall_all w v a.seen h).timers
    go (notes.Suspected c start) = ap (λ (x : History). x.timers) (recall_more w v a.seen _ h)
    go (notes.Stolen c life) = ap (λ (x : History). x.timers) (recall_more w v a.seen _ h)
    go (notes.CutDone f p) = ap (λ (x : History). x.timers) (recall_more w v a.seen _ h)
    go n = refl
timers_one w v s h a o = refl

pub timers_said : (w v : World) (s : ServerId) (h : History) (os : List Output) (a : WorldTurn) →
    (recall_all w v (server_says_all s os a).seen h).timers ≡ timers_out w s os (recall_all w v a.seen h).timers
unfolding server_says_all
timers_said w v s h [] a = refl
timers_said w v s h (o ∷ os) a = timers_said w v s h os (server_says a s o) ∙ ap (timers_out w s os) (timers_one w v s h a o)

-- Clients.
client_one : (a : WorldTurn) (c : ClientId) (before : ClientState) (o : Output) → Said a (client_says a c before o) (o ∷ [])
unfolding client_says ev.submits ev.answers_with ev.client_notes ev.accepts ev.patches ev.loses
client_one a c before (outputs.Send m) = sent a m
client_one a c before (outputs.Submit number at what) = go (site_of a.world c)
  where
    go : (o : Option WorldClient) → Said a (ev.submits a c o number at what) (outputs.Submit number at what ∷ [])
    go None = unsent a _ _ (λ m e. cc) refl refl refl (λ x h. h)
    go (Some site) = unsent a _ _ (λ m e. cc) refl refl refl (seen_with_one_more a _)
client_one a c before (outputs.Answer op answer) = unsent a _ _ (λ m e. cc) refl refl refl (seen_with_one_more a _)
client_one a c before (outputs.Note n) = go n
  where
    go : (n : Note) → Said a (ev.client_notes a c before n) (outputs.Note n ∷ [])
    go (notes.Leased s end) = unsent a _ _ (λ m e. cc) refl refl refl (seen_with_one_more a _)
    go (notes.Lost s life) = unsent a _ _ (λ m e. cc) refl refl refl (seen_with_one_more a _)
    go (notes.Accepted f p bytes) = unsent a _ _ (λ m e. cc) refl refl refl (seen_with_one_more a _)
    go (notes.Patched f p at bytes) = unsent a _ _ (λ m e. cc) refl refl refl (seen_with_one_more a _)
    go n = unsent a _ _ (λ m e. cc) refl refl refl (λ x h. h)

pub client_said : (c : ClientId) (before : ClientState) (os : List Output) (a : WorldTurn) → Said a (client_says_all c before os a) os
unfolding client_says_all
client_said c before [] a = said_none a
client_said c before (o ∷ os) a = said_then a (client_says a c before o) _ o os (client_one a c before o) (client_said c before os (client_says a c before o))

-- an observation that moves no timer
abbrev pub Calm : Observation → Type 0
Calm (seen.Suspected s c start) = ⊥
Calm (seen.Stolen s c life) = ⊥
Calm o = Unit {0}

abbrev pub AllCalm : List Observation → Type 0
AllCalm os = (o : Observation) → Has o os → Calm o

calm_more : (os : List Observation) (o : Observation) → AllCalm os → Calm o → AllCalm (os ++ o ∷ [])
calm_more os o a c x h = go (has_append os _ x h)
  where
    go : Has x os ⊎ Has x (o ∷ []) → Calm x
    go (inl i) = a x i
    go (inr (inl e)) = subst Calm (sym e) c
    go (inr (inr i)) = elim i [ ]

calm_one : (c : ClientId) (before : ClientState) (o : Output) (a : WorldTurn) → AllCalm a.seen → AllCalm (client_says a c before o).seen
unfolding client_says ev.submits ev.answers_with ev.client_notes ev.accepts ev.patches ev.loses ev.sends
calm_one c before (outputs.Send m) a k = calm_more a.seen _ k tt
calm_one c before (outputs.Submit number at what) a k = go (site_of a.world c)
  where
    go : (o : Option WorldClient) → AllCalm (ev.submits a c o number at what).seen
    go None = k
    go (Some site) = calm_more a.seen _ k tt
calm_one c before (outputs.Answer op answer) a k = calm_more a.seen _ k tt
calm_one c before (outputs.Note n) a k = go n
  where
    go : (n : Note) → AllCalm (ev.client_notes a c before n).seen
    go (notes.Leased s end) = calm_more a.seen _ k tt
    go (notes.Lost s life) = calm_more a.seen _ k tt
    go (notes.Accepted f p bytes) = calm_more a.seen _ k tt
    go (notes.Patched f p at bytes) = calm_more a.seen _ k tt
    go n = k

pub client_calm : (c : ClientId) (before : ClientState) (os : List Output) (a : WorldTurn) → AllCalm a.seen → AllCalm (client_says_all c before os a).seen
unfolding client_says_all
client_calm c before [] a k = k
client_calm c before (o ∷ os) a k = client_calm c before os (client_says a c before o) (calm_one c before o a k)

pub fates_calm : (n : ℕ) (es fs : List LogEntry) → AllCalm (ev.fates_from n es fs)
unfolding ev.fates_from
fates_calm n [] fs o h = elim h [ ]
fates_calm n (e ∷ es) [] o h = elim h [ ]
fates_calm n (e ∷ es) (f ∷ fs) o h = go (has_append (ev.fate_seen n e.fate f.fate) _ o h) (fates_calm (n + 1) es fs o)
  where
    one : (a b : Fate) → Has o (ev.fate_seen n a b) → Calm o
    one fates.Pending fates.Hard (inl q) = subst Calm (sym q) tt
    one fates.Pending (fates.Gone cause) (inl q) = subst Calm (sym q) tt
    one fates.Pending fates.Hard (inr i) = elim i [ ]
    one fates.Pending (fates.Gone cause) (inr i) = elim i [ ]
    one fates.Pending fates.Pending i = elim i [ ]
    one fates.Hard b i = elim i [ ]
    one (fates.Gone cause) b i = elim i [ ]

    go : Has o (ev.fate_seen n e.fate f.fate) ⊎ Has o (ev.fates_from (n + 1) es fs) → (Has o (ev.fates_from (n + 1) es fs) → Calm o) → Calm o
    go (inl i) k = one e.fate f.fate i
    go (inr i) k = k i

calm_recall : (w v : World) (o : Observation) (h : History) → Calm o → (recall w v h o).timers ≡ h.timers
unfolding recall
calm_recall w v (seen.Suspected s c start) h k = elim k [ ]
calm_recall w v (seen.Stolen s c life) h k = elim k [ ]
calm_recall w v (seen.Leased c s end) h k = refl
calm_recall w v (seen.Wrote index c f p bytes) h k = refl
calm_recall w v (seen.Patched index c f p at bytes) h k = refl
calm_recall w v (seen.CutAt index f p) h k = refl
calm_recall w v o h k = refl

pub calm_timers : (w v : World) (os : List Observation) (h : History) → AllCalm os → (recall_all w v os h).timers ≡ h.timers
unfolding recall_all
calm_timers w v [] h k = refl
calm_timers w v (o ∷ os) h k = calm_timers w v os (recall w v h o) (λ x i. k x (inr i)) ∙ calm_recall w v o h (k o (inl refl))

-- flush steps change neither nodes nor messages
pub record Alike (w v : World) : Type 0 where
  pub clients : v.clients ≡ w.clients
  pub servers : v.servers ≡ w.servers
  pub net : v.net ≡ w.net

pub flushed : (c : ClientId) (x : ClientState) (ss : List ServerId) (w : World) → Alike w (ev.flushes c x ss w)
unfolding ev.flushes
flushed c x [] w = record { clients = refl; servers = refl; net = refl }
flushed c x (s ∷ ss) w = both (go (cl.lease_end_with x s) (cl.phase_with x s (world.clock_of w (nodes.Client c)))) (flushed c x ss (ev.flushed_at w c s x))
  where
    under : (o : Option Stamp) → Alike w (ev.flushed_under w c s o)
    under None = record { clients = refl; servers = refl; net = refl }
    under (Some end) = record { clients = refl; servers = refl; net = refl }

    go : (o : Option Stamp) (p : Option Phase) → Alike w (ev.flushed_in w c s o p)
    go o (Some phases.Flush) = under o
    go o p = record { clients = refl; servers = refl; net = refl }

    both : {a b : World} → Alike w a → Alike a b → Alike w b
    both {a} {b} p q = record { clients = q.clients ∙ p.clients; servers = q.servers ∙ p.servers; net = q.net ∙ p.net }
