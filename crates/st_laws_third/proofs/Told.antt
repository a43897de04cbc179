-- Who said what is observed in an event of the third form: a client that took an input, or a server. All else that is observed is a fate of an entry.
use Rattle.st_lemmas.proofs.Words
use Words.{◌≡◌, ◌⊎◌, ◌+◌, ℕ, Bool, true, List, [], ◌∷◌, map, Option, Some, None, Ok, refl, sym, subst, inl, inr}
use Words.{AppAnswer, BlockAt, ClientId, Command, Fate, FileId, Life, LogEntry, Message, Note, Observation, Output, PageNo, ServerId, ServerInput, Stamp}
use Words.nodes
use Words.notes
use Words.outputs
use Words.Client.{ClientNode}
use Words.ClientState.{ClientState}
use Words.Events as ev
use Words.Events.{WorldTurn, quiet}
use Words.Lists.{Has}
use Words.Server.{ServerNode}
use Words.Tables.{has_append, has_map}
use Words.World.{WorldClient, clock_of, node_of, site_of}
use Rattle.st_rules.specs.declared.log.Fate.TheVariants as fates
use Rattle.st_rules.specs.declared.observation.Observation.TheVariants as plain_seen
use Rattle.st_third.specs.declared.event.ThirdEvent.{ThirdEvent}
use Rattle.st_third.specs.declared.event.ThirdInput.{ThirdInput}
use Rattle.st_third.specs.declared.observation.ThirdObservation.{ThirdObservation}
use Rattle.st_third.specs.declared.observation.ThirdObservation.TheVariants as seen
use Rattle.st_third.specs.declared.output.ThirdOutput.{ThirdOutput}
use Rattle.st_third.specs.declared.output.ThirdOutput.TheVariants as says
use Rattle.st_third.specs.Client.{client_step}
use Rattle.st_third.specs.Events as every
use Rattle.st_third.specs.Events.{ThirdWorldTurn, unseen}
use Rattle.st_third.specs.Limits.{is_third}
use Rattle.st_third.specs.Server.{server_step}
use Rattle.st_third.specs.State.{ClientBeside, ThirdClientTurn}
use Rattle.st_third.specs.World.{ThirdWorld, beside_of}
use Rattle.st_laws_third.proofs.EventWalk.{Client_step, EventLaw, Server_step, walk_of_event}

-- What a client's word is observed as.
pub data SeenOf (c : ClientId) : ThirdOutput → ThirdObservation → Type 0 where
  Sends : (m : Message) (k : ℕ) → SeenOf c (says.Plain (outputs.Send m)) (seen.Plain (plain_seen.Sent k m))
  Submits : (number : ℕ) (at : BlockAt) (what : Command) (k : ℕ) →
      SeenOf c (says.Plain (outputs.Submit number at what)) (seen.Plain (plain_seen.Submitted k c number what))
  Answers : (op : ℕ) (a : AppAnswer) → SeenOf c (says.Plain (outputs.Answer op a)) (seen.Plain (plain_seen.Answered c op a))
  Leases : (s : ServerId) (end : Stamp) → SeenOf c (says.Plain (outputs.Note (notes.Leased s end))) (seen.Plain (plain_seen.Leased c s end))
  Loses : (s : ServerId) (life : Life) → SeenOf c (says.Plain (outputs.Note (notes.Lost s life))) (seen.Plain (plain_seen.Lost c s life))
  Writes : (f : FileId) (p : PageNo) (bytes : List ℕ) (k : ℕ) →
      SeenOf c (says.Plain (outputs.Note (notes.Accepted f p bytes))) (seen.Plain (plain_seen.Wrote k c f p bytes))
  Patches : (f : FileId) (p : PageNo) (at : ℕ) (bytes : List ℕ) (k : ℕ) →
      SeenOf c (says.Plain (outputs.Note (notes.Patched f p at bytes))) (seen.Plain (plain_seen.Patched k c f p at bytes))
  Leaves : (op : ℕ) → SeenOf c (says.Left op) (seen.Left c op)
  IsUnsynced : (op ino : ℕ) → SeenOf c (says.Unsynced op ino) (seen.Unsynced c op ino)
  Ends : (s : ServerId) (life : Life) (end : Stamp) → SeenOf c (says.Ended s life end) (seen.Ended c s life)

-- What a server's word is observed as.
pub data ServerSeen (s : ServerId) : Output → Observation → Type 0 where
  ServerSends : (m : Message) (k : ℕ) → ServerSeen s (outputs.Send m) (plain_seen.Sent k m)
  Suspects : (c : ClientId) (start : Stamp) → ServerSeen s (outputs.Note (notes.Suspected c start)) (plain_seen.Suspected s c start)
  Steals : (c : ClientId) (life : Life) → ServerSeen s (outputs.Note (notes.Stolen c life)) (plain_seen.Stolen s c life)
  Cuts : (f : FileId) (p : PageNo) (k : ℕ) → ServerSeen s (outputs.Note (notes.CutDone f p)) (plain_seen.CutAt k f p)

-- an entry's fate
abbrev pub IsFate : Observation → Type 0
IsFate (plain_seen.Hardened k) = Unit {0}
IsFate (plain_seen.Dropped k cause) = Unit {0}
IsFate o = ⊥

-- what a client says at an input
abbrev pub Said_by : ThirdWorld → ClientId → WorldClient → ClientBeside → ThirdInput → List ThirdOutput
Said_by w c site b input = (client_step w.limits (record { plain = site.node.state; beside = b }) (clock_of w.world (nodes.Client c)) input).out

-- what a server says at an input
abbrev pub Server_said : ThirdWorld → ServerId → ServerNode → ServerInput → List Output
Server_said w s node input = (server_step w.world.form node.state (clock_of w.world (nodes.Server s)) input).out

-- Why something is observed in an event of a world.
pub data Told (w : ThirdWorld) : ThirdObservation → Type 0 where
  ByClient : (c : ClientId) (site : WorldClient) (b : ClientBeside) (input : ThirdInput) (x : ThirdOutput) (o : ThirdObservation) →
      site_of w.world c ≡ Some site → beside_of w c ≡ Some b → Has x (Said_by w c site b input) → SeenOf c x o → Told w o
  ByServer : (s : ServerId) (node : ServerNode) (input : ServerInput) (x : Output) (o : Observation) → node_of w.world s ≡ Some node →
      Has x (Server_said w s node input) → ServerSeen s x o → Told w (seen.Plain o)
  ByFate : (o : Observation) → IsFate o → Told w (seen.Plain o)

abbrev pub AllTold : ThirdWorld → List ThirdObservation → Type 0
AllTold w os = (o : ThirdObservation) → Has o os → Told w o

none_told : (w : ThirdWorld) → AllTold w []
none_told w o h = absurd h

-- A client's words.

notes_seen : (sc : WorldTurn) (c : ClientId) (before : ClientState) (n : Note) (y : Observation) → sc.seen ≡ [] →
    Has y (ev.client_notes sc c before n).seen → SeenOf c (says.Plain (outputs.Note n)) (seen.Plain y)
unfolding ev.client_notes ev.accepts ev.patches ev.loses
notes_seen sc c before n y e h = go n (subst (λ os. Has y (ev.client_notes (record sc { seen = os }) c before n).seen) e h)
  where
    one : (n : Note) (o : Observation) → SeenOf c (says.Plain (outputs.Note n)) (seen.Plain o) → Has y (o ∷ []) →
        SeenOf c (says.Plain (outputs.Note n)) (seen.Plain y)
    one n o s (inl q) = subst (λ z. SeenOf c (says.Plain (outputs.Note n)) (seen.Plain z)) (sym q) s
    one n o s (inr i) = absurd i

    go : (n : Note) → Has y (ev.client_notes (record sc { seen = [] }) c before n).seen → SeenOf c (says.Plain (outputs.Note n)) (seen.Plain y)
    go (notes.Leased s end) h = one (notes.Leased s end) _ (Leases s end) h
    go (notes.Lost s life) h = one (notes.Lost s life) _ (Loses s life) h
    go (notes.Accepted f p bytes) h = one (notes.Accepted f p bytes) _ (Writes f p bytes _) h
    go (notes.Patched f p at bytes) h = one (notes.Patched f p at bytes) _ (Patches f p at bytes _) h
    go (notes.Suspected d start) h = absurd h
    go (notes.Stolen d life) h = absurd h
    go (notes.CutDone f p) h = absurd h

pub plain_seen_of : (sc : WorldTurn) (c : ClientId) (before : ClientState) (o : Output) (y : Observation) → sc.seen ≡ [] →
    Has y (ev.client_says sc c before o).seen → SeenOf c (says.Plain o) (seen.Plain y)
unfolding ev.client_says ev.sends ev.submits ev.answers_with
plain_seen_of sc c before (outputs.Note n) y e h = notes_seen sc c before n y e h
plain_seen_of sc c before o y e h = go o (subst (λ os. Has y (ev.client_says (record sc { seen = os }) c before o).seen) e h)
  where
    one : (o : Output) (z : Observation) → SeenOf c (says.Plain o) (seen.Plain z) → Has y (z ∷ []) → SeenOf c (says.Plain o) (seen.Plain y)
    one o z s (inl q) = subst (λ x. SeenOf c (says.Plain o) (seen.Plain x)) (sym q) s
    one o z s (inr i) = absurd i

    submits : (number : ℕ) (b : BlockAt) (what : Command) (site : Option WorldClient) → Has y (ev.submits (record sc { seen = [] }) c site number b what).seen →
        SeenOf c (says.Plain (outputs.Submit number b what)) (seen.Plain y)
    submits number b what None h = absurd h
    submits number b what (Some site) h = one (outputs.Submit number b what) _ (Submits number b what _) h

    go : (o : Output) → Has y (ev.client_says (record sc { seen = [] }) c before o).seen → SeenOf c (says.Plain o) (seen.Plain y)
    go (outputs.Send m) h = one (outputs.Send m) _ (Sends m _) h
    go (outputs.Submit number b what) h = submits number b what (site_of sc.world c) h
    go (outputs.Answer op answer) h = one (outputs.Answer op answer) _ (Answers op answer) h
    go (outputs.Note n) h = notes_seen (record sc { seen = [] }) c before n y refl h

word_seen : (sc : ThirdWorldTurn) (c : ClientId) (before : ClientState) (o : ThirdOutput) (y : ThirdObservation) →
    Has y (every.client_says sc c before o).seen → (Has y sc.seen) ⊎ (SeenOf c o y)
unfolding every.client_says
word_seen sc c before o y h = at o h
  where
    one : (o : ThirdOutput) (z : ThirdObservation) → SeenOf c o z → (Has y sc.seen) ⊎ (Has y (z ∷ [])) → (Has y sc.seen) ⊎ (SeenOf c o y)
    one o z s (inl i) = inl i
    one o z s (inr (inl q)) = inr (subst (SeenOf c o) (sym q) s)
    one o z s (inr (inr i)) = absurd i

    plain : (o : Output) → (Has y sc.seen) ⊎ (Has y (map every.plain_seen (ev.client_says (quiet sc.third.world) c before o).seen)) →
        (Has y sc.seen) ⊎ (SeenOf c (says.Plain o) y)
    plain o (inl i) = inl i
    plain o (inr i) =
        let z = has_map every.plain_seen (ev.client_says (quiet sc.third.world) c before o).seen y i in
        inr (subst (SeenOf c (says.Plain o)) (sym z.2) (plain_seen_of (quiet sc.third.world) c before o z.0 refl z.1))

    at : (o : ThirdOutput) → Has y (every.client_says sc c before o).seen → (Has y sc.seen) ⊎ (SeenOf c o y)
    at (says.Plain o) h = plain o (has_append sc.seen _ y h)
    at (says.Left op) h = one (says.Left op) _ (Leaves op) (has_append sc.seen _ y h)
    at (says.Unsynced op ino) h = one (says.Unsynced op ino) _ (IsUnsynced op ino) (has_append sc.seen _ y h)
    at (says.Ended s life end) h = one (says.Ended s life end) _ (Ends s life end) (has_append sc.seen _ y h)

-- one of these words is observed so
abbrev pub SeenAmong : ClientId → List ThirdOutput → ThirdObservation → Type 0
SeenAmong c os y = (x : ThirdOutput) × (Has x os) × (SeenOf c x y)

words_seen : (c : ClientId) (before : ClientState) (os : List ThirdOutput) (sc : ThirdWorldTurn) (y : ThirdObservation) →
    Has y (every.client_says_all c before os sc).seen → (Has y sc.seen) ⊎ (SeenAmong c os y)
unfolding every.client_says_all
words_seen c before [] sc y h = inl h
words_seen c before (o ∷ os) sc y h = go (words_seen c before os (every.client_says sc c before o) y h)
  where
    at : (Has y sc.seen) ⊎ (SeenOf c o y) → (Has y sc.seen) ⊎ (SeenAmong c (o ∷ os) y)
    at (inl i) = inl i
    at (inr s) = inr (o, inl refl, s)

    go : (Has y (every.client_says sc c before o).seen) ⊎ (SeenAmong c os y) → (Has y sc.seen) ⊎ (SeenAmong c (o ∷ os) y)
    go (inl i) = at (word_seen sc c before o y i)
    go (inr z) = inr (z.0, inr z.1, z.2)

pub took_told : (w : ThirdWorld) (c : ClientId) (site : WorldClient) (t : ThirdClientTurn) (y : ThirdObservation) → Has y (every.client_took w c site t).seen →
    SeenAmong c t.out y
unfolding every.client_took
took_told w c site t y h = go (words_seen c site.node.state t.out (unseen (every.with_client c site t.client w)) y h)
  where
    go : (Has y []) ⊎ (SeenAmong c t.out y) → SeenAmong c t.out y
    go (inl i) = absurd i
    go (inr z) = z

-- A server's words.

server_word : (sc : WorldTurn) (s : ServerId) (o : Output) (y : Observation) → Has y (ev.server_says sc s o).seen → (Has y sc.seen) ⊎ (ServerSeen s o y)
unfolding ev.server_says ev.sends ev.server_notes ev.cuts
server_word sc s o y h = go o h
  where
    one : (o : Output) (z : Observation) → ServerSeen s o z → (Has y sc.seen) ⊎ (Has y (z ∷ [])) → (Has y sc.seen) ⊎ (ServerSeen s o y)
    one o z x (inl i) = inl i
    one o z x (inr (inl q)) = inr (subst (ServerSeen s o) (sym q) x)
    one o z x (inr (inr i)) = absurd i

    go : (o : Output) → Has y (ev.server_says sc s o).seen → (Has y sc.seen) ⊎ (ServerSeen s o y)
    go (outputs.Send m) h = one (outputs.Send m) _ (ServerSends m _) (has_append sc.seen _ y h)
    go (outputs.Note (notes.Suspected c start)) h = one (outputs.Note (notes.Suspected c start)) _ (Suspects c start) (has_append sc.seen _ y h)
    go (outputs.Note (notes.Stolen c life)) h = one (outputs.Note (notes.Stolen c life)) _ (Steals c life) (has_append sc.seen _ y h)
    go (outputs.Note (notes.CutDone f p)) h = one (outputs.Note (notes.CutDone f p)) _ (Cuts f p _) (has_append sc.seen _ y h)
    go (outputs.Note (notes.Leased t end)) h = inl h
    go (outputs.Note (notes.Lost t life)) h = inl h
    go (outputs.Note (notes.Accepted f p bytes)) h = inl h
    go (outputs.Note (notes.Patched f p at bytes)) h = inl h
    go (outputs.Submit number b what) h = inl h
    go (outputs.Answer op answer) h = inl h

abbrev pub ServerAmong : ServerId → List Output → Observation → Type 0
ServerAmong s os y = (x : Output) × (Has x os) × (ServerSeen s x y)

pub server_words : (s : ServerId) (os : List Output) (sc : WorldTurn) (y : Observation) → Has y (ev.server_says_all s os sc).seen →
    (Has y sc.seen) ⊎ (ServerAmong s os y)
unfolding ev.server_says_all
server_words s [] sc y h = inl h
server_words s (o ∷ os) sc y h = go (server_words s os (ev.server_says sc s o) y h)
  where
    at : (Has y sc.seen) ⊎ (ServerSeen s o y) → (Has y sc.seen) ⊎ (ServerAmong s (o ∷ os) y)
    at (inl i) = inl i
    at (inr x) = inr (o, inl refl, x)

    go : (Has y (ev.server_says sc s o).seen) ⊎ (ServerAmong s os y) → (Has y sc.seen) ⊎ (ServerAmong s (o ∷ os) y)
    go (inl i) = at (server_word sc s o y i)
    go (inr z) = inr (z.0, inr z.1, z.2)

-- Fates

fate_one : (k : ℕ) (old new : Fate) (y : Observation) → Has y (ev.fate_seen k old new) → IsFate y
fate_one k fates.Pending fates.Hard y (inl e) = subst IsFate (sym e) tt
fate_one k fates.Pending fates.Hard y (inr i) = absurd i
fate_one k fates.Pending (fates.Gone cause) y (inl e) = subst IsFate (sym e) tt
fate_one k fates.Pending (fates.Gone cause) y (inr i) = absurd i
fate_one k fates.Pending fates.Pending y h = absurd h
fate_one k fates.Hard new y h = absurd h
fate_one k (fates.Gone cause) new y h = absurd h

pub fates_all : (k : ℕ) (es fs : List LogEntry) (y : Observation) → Has y (ev.fates_from k es fs) → IsFate y
unfolding ev.fates_from
fates_all k [] fs y h = absurd h
fates_all k (e ∷ es) [] y h = absurd h
fates_all k (e ∷ es) (f ∷ fs) y h =
    go (has_append (ev.fate_seen k e.fate f.fate) (ev.fates_from (k + 1) es fs) y h) (fates_all (k + 1) es fs y)
  where
    go : (Has y (ev.fate_seen k e.fate f.fate)) ⊎ (Has y (ev.fates_from (k + 1) es fs)) → (Has y (ev.fates_from (k + 1) es fs) → IsFate y) → IsFate y
    go (inl i) later = fate_one k e.fate f.fate y i
    go (inr i) later = later i

marks_told : (w : ThirdWorld) (os : List Observation) → ((y : Observation) → Has y os → IsFate y) → AllTold w (map every.plain_seen os)
marks_told w os f o h = let z = has_map every.plain_seen os o h in subst (Told w) (sym z.2) (ByFate z.0 (f z.0 z.1))

-- Events

-- what is observed in an event
abbrev Tells : ThirdWorld → ThirdWorldTurn → Type 0
Tells w sc = AllTold w sc.seen

server_told : (w : ThirdWorld) (s : ServerId) (node : ServerNode) (input : ServerInput) → node_of w.world s ≡ Some node →
    Tells w (every.as_plain w (ev.server_took w.world s (Ok (Server_step w s node input))))
unfolding ev.server_took
server_told w s node input e o h =
    let t = Server_step w s node input in
    let z = has_map every.plain_seen _ o h in
    subst (Told w) (sym z.2) (by z.0 (server_words s t.out (quiet (ev.with_node s t.node w.world)) z.0 z.1))
  where
    by : (y : Observation) → (Has y []) ⊎ (ServerAmong s (Server_said w s node input) y) → Told w (seen.Plain y)
    by y (inl i) = absurd i
    by y (inr x) = ByServer s node input x.0 y e x.1 x.2

client_told : (w : ThirdWorld) (c : ClientId) (old site : WorldClient) (b : ClientBeside) (input : ThirdInput) → site_of w.world c ≡ Some old →
    site.node ≡ old.node → beside_of w c ≡ Some b → Tells w (every.client_took w c site (Client_step w c site b input))
client_told w c old site b input there e q o h =
    let z = took_told w c site (Client_step w c site b input) o h in
    ByClient c old b input z.0 o there q
    (subst (λ (n : ClientNode). Has z.0 (client_step w.limits (record { plain = n.state; beside = b }) (clock_of w.world (nodes.Client c)) input).out) e z.1) z.2

-- another world with these nodes
reported_told : (w : ThirdWorld) (k : ℕ) (ok : Bool) (o : ThirdObservation) → Told (every.with_report k ok w) o → Told w o
reported_told w k ok _ (ByClient c site b input x o there q h s) = ByClient c site b input x o there q h s
reported_told w k ok _ (ByServer s node input x o there h y) = ByServer s node input x o there h y
reported_told w k ok _ (ByFate o i) = ByFate o i

told_law : EventLaw Tells
unfolding ev.advances ev.effects ev.marks ev.crashes_client every.client_begins every.server_begins
told_law =
    record {
      still = none_told;
      takes = client_told;
      serves = server_told;
      loses = λ w k m e. none_told w;
      cuts = λ w from to. none_told w;
      heals = λ w from to. none_told w;
      advances = λ w steps. marks_told w _ (fates_all 1 _ _);
      effects = λ w k. marks_told w _ (fates_all 1 _ _);
      reports = λ w k ok sc h o i. reported_told w k ok o (h o i);
      client_crashes = λ w c site there. marks_told w _ (fates_all 1 _ _);
      server_crashes = λ w s node there. none_told w;
      client_starts = λ w c site there. none_told w;
      server_starts = λ w s node there. none_told w;
    }

pub happens_told : (w : ThirdWorld) (e : ThirdEvent) → is_third w.world.form ≡ true → AllTold w (every.happens w e).seen
happens_told = walk_of_event Tells told_law
