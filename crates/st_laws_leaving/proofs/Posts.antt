-- What an output does to the servers, the clients and the messages of a world: nothing, but for the message that it sends.
use Rattle.st_lemmas.proofs.Words
use Words.{◌≡◌, ◌⊎◌, ℕ, zero, suc, pred, set, true, false, List, [], ◌∷◌, ◌++◌, Option, Some, None, refl, sym, ap, ◌∙◌, subst, inl, inr}
use Words.{ClientId, Message, Note, Output, Phase, SentMessage, ServerId, Stamp}
use Words.nodes
use Words.notes
use Words.outputs
use Words.phases
use Words.Client as plain
use Words.ClientState.{ClientState}
use Words.Events as ev
use Words.Events.{WorldTurn, quiet}
use Words.Lists.{Has}
use Words.Numbers.{numbered_has}
use Words.Tables.{has_append}
use Words.World.{World, WorldClient, all_servers, clock_of, message_of, site_of}
use Rattle.st_third.specs.declared.output.ThirdOutput.{ThirdOutput}
use Rattle.st_third.specs.declared.output.ThirdOutput.TheVariants as says
use Rattle.st_third.specs.Events as every
use Rattle.st_third.specs.Events.{ThirdWorldTurn, unseen}
use Rattle.st_third.specs.State.{ThirdClientTurn}
use Rattle.st_third.specs.World.{ThirdWorld}
use Rattle.st_laws_leaving.specs.Quiet.{IsSent}

-- what is new was said
pub record Post (w v : World) (new : Message → Type 0) : Type 0 where
  pub servers : v.servers ≡ w.servers
  pub sent : (m : Message) → IsSent v m → (IsSent w m) ⊎ (new m)

post_as : (w v : World) (new : Message → Type 0) → v.servers ≡ w.servers → v.net.messages ≡ w.net.messages → Post w v new
post_as w v new s n = record { servers = s; sent = λ m h. inl (h.0, (subst (Has h.0) n h.1.0, h.1.1)) }

post_then : (w u v : World) (old new all : Message → Type 0) → ((m : Message) → old m → all m) → ((m : Message) → new m → all m) → Post w u old → Post u v new →
    Post w v all
post_then w u v old new all f g a b = record { servers = b.servers ∙ a.servers; sent = λ m h. go m (b.sent m h) }
  where
    at : (m : Message) → (IsSent w m) ⊎ (old m) → (IsSent w m) ⊎ (all m)
    at m (inl h) = inl h
    at m (inr o) = inr (f m o)

    go : (m : Message) → (IsSent u m) ⊎ (new m) → (IsSent w m) ⊎ (all m)
    go m (inl h) = at m (a.sent m h)
    go m (inr n) = inr (g m n)

one_more : (w v : World) (x : Message) (new : Message → Type 0) → new x → v.servers ≡ w.servers →
    v.net.messages ≡ w.net.messages ++ record { message = x; lost = false } ∷ [] → Post w v new
one_more w v x new n s e =
    record { servers = s; sent = λ m h. go m h (has_append w.net.messages (record { message = x; lost = false } ∷ []) h.0 (subst (Has h.0) e h.1.0)) }
  where
    go : (m : Message) → (h : IsSent v m) → (Has h.0 w.net.messages) ⊎ (Has h.0 (record { message = x; lost = false } ∷ [])) → (IsSent w m) ⊎ (new m)
    go m h (inl i) = inl (h.0, (i, h.1.1))
    go m h (inr (inl q)) = inr (subst new (ap (λ (z : SentMessage). z.message) (sym q) ∙ h.1.1) n)
    go m h (inr (inr i)) = absurd i

-- A client's outputs.

abbrev ClientSaid : ThirdOutput → Message → Type 0
ClientSaid o m = says.Plain (outputs.Send m) ≡ o

notes_post : (sc : WorldTurn) (c : ClientId) (before : ClientState) (n : Note) (new : Message → Type 0) →
    Post sc.world (ev.client_notes sc c before n).world new
unfolding ev.client_notes ev.accepts ev.patches ev.loses
notes_post sc c before (notes.Leased s end) new = post_as _ _ new refl refl
notes_post sc c before (notes.Lost s life) new = post_as _ _ new refl refl
notes_post sc c before (notes.Accepted f p bytes) new = post_as _ _ new refl refl
notes_post sc c before (notes.Patched f p at bytes) new = post_as _ _ new refl refl
notes_post sc c before (notes.Suspected d start) new = post_as _ _ new refl refl
notes_post sc c before (notes.Stolen d life) new = post_as _ _ new refl refl
notes_post sc c before (notes.CutDone f p) new = post_as _ _ new refl refl

plain_post : (sc : WorldTurn) (c : ClientId) (before : ClientState) (o : Output) →
    Post sc.world (ev.client_says sc c before o).world (ClientSaid (says.Plain o))
unfolding ev.client_says ev.sends ev.submits ev.answers_with
plain_post sc c before (outputs.Send m) = one_more sc.world _ m (ClientSaid (says.Plain (outputs.Send m))) refl refl refl
plain_post sc c before (outputs.Submit number at what) = go (site_of sc.world c)
  where
    go : (site : Option WorldClient) → Post sc.world (ev.submits sc c site number at what).world (ClientSaid (says.Plain (outputs.Submit number at what)))
    go None = post_as _ _ _ refl refl
    go (Some site) = post_as _ _ _ refl refl
plain_post sc c before (outputs.Answer op answer) = post_as _ _ _ refl refl
plain_post sc c before (outputs.Note n) = notes_post sc c before n _

third_post : (sc : ThirdWorldTurn) (c : ClientId) (before : ClientState) (o : ThirdOutput) →
    Post sc.third.world (every.client_says sc c before o).third.world (ClientSaid o)
unfolding every.client_says
third_post sc c before (says.Plain o) = plain_post (quiet sc.third.world) c before o
third_post sc c before (says.Left op) = post_as _ _ _ refl refl
third_post sc c before (says.Unsynced op ino) = post_as _ _ _ refl refl
third_post sc c before (says.Ended s life end) = post_as _ _ _ refl refl

-- it is among these words
abbrev pub ClientSays : List ThirdOutput → Message → Type 0
ClientSays os m = Has (says.Plain (outputs.Send m)) os

all_post : (c : ClientId) (before : ClientState) (os : List ThirdOutput) (sc : ThirdWorldTurn) →
    Post sc.third.world (every.client_says_all c before os sc).third.world (ClientSays os)
unfolding every.client_says_all
all_post c before [] sc = post_as _ _ _ refl refl
all_post c before (o ∷ os) sc =
    post_then _ _ _ (ClientSaid o) (ClientSays os) (ClientSays (o ∷ os)) (λ m e. inl e) (λ m h. inr h) (third_post sc c before o)
    (all_post c before os (every.client_says sc c before o))

flush_post : (w : World) (c : ClientId) (s : ServerId) (end : Option Stamp) (phase : Option Phase) (new : Message → Type 0) →
    Post w (ev.flushed_in w c s end phase) new
flush_post w c s None (Some phases.Flush) new = post_as _ _ new refl refl
flush_post w c s (Some end) (Some phases.Flush) new = post_as _ _ new refl refl
flush_post w c s end (Some phases.Valid) new = post_as _ _ new refl refl
flush_post w c s end (Some phases.Renewal) new = post_as _ _ new refl refl
flush_post w c s end (Some phases.Quiesce) new = post_as _ _ new refl refl
flush_post w c s end (Some phases.Expired) new = post_as _ _ new refl refl
flush_post w c s end None new = post_as _ _ new refl refl

flushes_post : (c : ClientId) (state : ClientState) (ss : List ServerId) (w : World) (new : Message → Type 0) → Post w (ev.flushes c state ss w) new
unfolding ev.flushes
flushes_post c state [] w new = post_as _ _ new refl refl
flushes_post c state (s ∷ ss) w new =
    post_then _ _ _ new new new (λ m n. n) (λ m n. n)
    (flush_post w c s (plain.lease_end_with state s) (plain.phase_with state s (clock_of w (nodes.Client c))) new)
    (flushes_post c state ss (ev.flushed_at w c s state) new)

pub took_post : (w : ThirdWorld) (c : ClientId) (site : WorldClient) (t : ThirdClientTurn) →
    Post w.world (every.client_took w c site t).third.world (ClientSays t.out)
unfolding every.client_took
took_post w c site t =
    let sc : ThirdWorldTurn = every.client_says_all c site.node.state t.out (unseen (every.with_client c site t.client w)) in
    let new : Message → Type 0 = ClientSays t.out in
    post_then w.world (every.with_client c site t.client w).world _ new new new (λ m n. n) (λ m n. n) (post_as _ _ new refl refl)
    (post_then _ _ _ new new new (λ m n. n) (λ m n. n) (all_post c site.node.state t.out (unseen (every.with_client c site t.client w)))
    (flushes_post c t.client.plain (all_servers sc.third.world) sc.third.world new))

-- A server's outputs.

server_notes_post : (sc : WorldTurn) (s : ServerId) (n : Note) (new : Message → Type 0) →
    (Post sc.world (ev.server_notes sc s n).world new) × ((ev.server_notes sc s n).world.clients ≡ sc.world.clients)
unfolding ev.server_notes ev.cuts
server_notes_post sc s (notes.Suspected c start) new = (post_as _ _ new refl refl, refl)
server_notes_post sc s (notes.Stolen c life) new = (post_as _ _ new refl refl, refl)
server_notes_post sc s (notes.CutDone f p) new = (post_as _ _ new refl refl, refl)
server_notes_post sc s (notes.Leased t end) new = (post_as _ _ new refl refl, refl)
server_notes_post sc s (notes.Lost t life) new = (post_as _ _ new refl refl, refl)
server_notes_post sc s (notes.Accepted f p bytes) new = (post_as _ _ new refl refl, refl)
server_notes_post sc s (notes.Patched f p at bytes) new = (post_as _ _ new refl refl, refl)

server_post : (sc : WorldTurn) (s : ServerId) (o : Output) →
    (Post sc.world (ev.server_says sc s o).world (λ m. outputs.Send m ≡ o)) × ((ev.server_says sc s o).world.clients ≡ sc.world.clients)
unfolding ev.server_says ev.sends
server_post sc s (outputs.Send m) = (one_more sc.world _ m (λ x. outputs.Send x ≡ outputs.Send m) refl refl refl, refl)
server_post sc s (outputs.Note n) = server_notes_post sc s n _
server_post sc s (outputs.Submit number at what) = (post_as _ _ _ refl refl, refl)
server_post sc s (outputs.Answer op answer) = (post_as _ _ _ refl refl, refl)

pub server_all_post : (s : ServerId) (os : List Output) (sc : WorldTurn) →
    (Post sc.world (ev.server_says_all s os sc).world (λ m. Has (outputs.Send m) os)) × ((ev.server_says_all s os sc).world.clients ≡ sc.world.clients)
unfolding ev.server_says_all
server_all_post s [] sc = (post_as _ _ _ refl refl, refl)
server_all_post s (o ∷ os) sc =
    let x = server_post sc s o in
    let y = server_all_post s os (ev.server_says sc s o) in (
      post_then _ _ _ (λ m. outputs.Send m ≡ o) (λ m. Has (outputs.Send m) os) (λ m. Has (outputs.Send m) (o ∷ os)) (λ m e. inl e) (λ m h. inr h) x.0 y.0,
      y.1 ∙
          x.1,
    )

-- A message that is lost was sent.

has_set : {A : Type 0} (xs : List A) (n : ℕ) (y x : A) → Has x (set xs n y) → (x ≡ y) ⊎ (Has x xs)
has_set [] n y x h = inr h
has_set (z ∷ xs) zero y x (inl e) = inl e
has_set (z ∷ xs) zero y x (inr h) = inr (inr h)
has_set (z ∷ xs) (suc n) y x (inl e) = inr (inl e)
has_set (z ∷ xs) (suc n) y x (inr h) = go (has_set xs n y x h)
  where
    go : (x ≡ y) ⊎ (Has x xs) → (x ≡ y) ⊎ (Has x (z ∷ xs))
    go (inl e) = inl e
    go (inr i) = inr (inr i)

pub lost_sent : (w : World) (k : ℕ) (y : SentMessage) → message_of w k ≡ Some y → (m : Message) → IsSent (ev.with_lost k y w) m → IsSent w m
lost_sent w k y e m h = go (has_set w.net.messages (pred k) (record y { lost = true }) h.0 h.1.0)
  where
    go : (h.0 ≡ record y { lost = true }) ⊎ (Has h.0 w.net.messages) → IsSent w m
    go (inl q) = (y, (numbered_has w.net.messages k y e, ap (λ (z : SentMessage). z.message) (sym q) ∙ h.1.1))
    go (inr i) = (h.0, (i, h.1.1))
