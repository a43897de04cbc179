-- What becomes of an association with a server in a step of its client, in any form: its lease was lost or goes on, it takes the input in, and the passes
-- end the step.
use Rattle.st_lemmas.proofs.Words
use Words.{◌≡◌, ℕ, ◌+◌, ◌≤◌, ◌<◌, ◌⊎◌, Bool, true, false, ◌==◌, Some, None, refl, inl, inr, is_some, nat_le, eqb-true, eq-eqb, leb-true, le-leb}
use Words.{Config, Stamp, Header, Message, ClientInput, Request}
use Words.bodies
use Words.inputs
use Words.ClientState.{Association, ClientSession, reasserts}
use Words.Keys.{server_node}
use Words.Truth.{not_both}
use Rattle.st_laws_steps.specs.Client.Losses.{is_ended}
use Rattle.st_laws_healthy.proofs.Counting.{IsEnded}
use Rattle.st_laws_healthy.proofs.Passing.{After, Alike}
use Rattle.st_laws_healthy.proofs.Receiving.{Received, is_calm, tells_epoch}
use Rattle.st_laws_healthy.proofs.Replies.{counts_for}
use Rattle.st_laws_healthy.proofs.Telling.{IsUnasked}

-- what is received is of the server, of the client's life there, and of a stamp that is past
pub record IsReceived (a : Association) (now : Stamp) (h : Header) : Type 0 where
  pub from : h.from ≡ server_node a.server
  pub life : h.life ≡ a.life.0
  pub stamp : h.stamp ≤ now.0

pub received_or_not : (a : Association) (now : Stamp) (h : Header) → IsReceived a now h ⊎ (IsReceived a now h → ⊥)
received_or_not a now h = go (h.from == server_node a.server) refl (h.life == a.life.0) refl (nat_le h.stamp now.0) refl
  where
    go : (x : Bool) → (h.from == server_node a.server) ≡ x → (y : Bool) → (h.life == a.life.0) ≡ y → (z : Bool) → nat_le h.stamp now.0 ≡ z →
        IsReceived a now h ⊎ (IsReceived a now h → ⊥)
    go true p true q true r =
        inl (record { from = eqb-true h.from (server_node a.server) p; life = eqb-true h.life a.life.0 q; stamp = leb-true h.stamp now.0 r })
    go false p y q z r = inr (λ g. not_both (h.from == server_node a.server) (eq-eqb h.from (server_node a.server) g.from) p)
    go true p false q z r = inr (λ g. not_both (h.life == a.life.0) (eq-eqb h.life a.life.0 g.life) q)
    go true p true q false r = inr (λ g. not_both (nat_le h.stamp now.0) (le-leb h.stamp now.0 g.stamp) r)

-- a session that begins by a welcome
pub record IsNewSession (h : Header) (u : ClientSession) : Type 0 where
  pub epoch : u.epoch.0 ≡ h.epoch
  pub settled : u.due ≡ false
  pub sound : u.lease.condemned ≡ false
  pub next : u.requests.next ≡ 1
  pub rests : u.requests.asked ≡ None
  pub date : u.lease.date.0 ≡ h.stamp

-- What becomes of an association without a session: a welcome that is younger than this begins a session, and all else passes it by.
pub data Meets (fresh : ℕ) (now : Stamp) (m : Message) (a b : Association) : Type 0 where
  Unmet : b.session ≡ None → b.greeting ≡ a.greeting →
      (IsReceived a now m.header → m.body ≡ bodies.Welcome → is_some a.greeting ≡ true → now.0 < m.header.stamp + fresh → ⊥) → Meets fresh now m a b
  Met : (u : ClientSession) → IsReceived a now m.header → m.body ≡ bodies.Welcome → now.0 < m.header.stamp + fresh → b.session ≡ Some u →
      IsNewSession m.header u → Meets fresh now m a b

-- What a message of the server does: what isn't received passes by; a reply that counts ends the outstanding request.
pub record Hears (fresh : ℕ) (now : Stamp) (m : Message) (a b : Association) : Type 0 where
  pub passes : (IsReceived a now m.header → ⊥) → b.session ≡ a.session
  pub received : (z : ClientSession) → a.session ≡ Some z → z.lease.condemned ≡ false →
      ((q : Request) → z.requests.asked ≡ Some q → reasserts q.body ≡ false) → (tells_epoch m.body ≡ true → m.header.epoch ≤ z.epoch.0) →
      is_calm m.body ≡ true → Received z m.header m.body b.session
  pub counted : (z : ClientSession) (q : Request) → a.session ≡ Some z → z.lease.condemned ≡ false → z.requests.asked ≡ Some q →
      q.number ≡ m.header.number → reasserts q.body ≡ false → IsReceived a now m.header → m.header.epoch ≡ z.epoch.0 → 1 ≤ m.header.number →
      counts_for q.body m.body ≡ true → IsEnded z m.header.stamp b.session
  pub meets : a.session ≡ None → Meets fresh now m a b

-- The input isn't a message of the association's life, except one that nobody asked for.
abbrev pub Unheard : ClientInput → Association → Type 0
Unheard i a = (m : Message) → i ≡ inputs.Control m → m.header.life ≡ a.life.0 → IsUnasked m

-- What an input does at an association: its session stays alike, or the input is a message, and the association hears it.
pub data Takes (fresh : ℕ) (now : Stamp) (i : ClientInput) (a b : Association) : Type 0 where
  IsLeft : Unheard i a → b.server ≡ a.server → b.life ≡ a.life → b.greeting ≡ a.greeting → Alike a.session b.session → Takes fresh now i a b
  IsHeard : (m : Message) → i ≡ inputs.Control m → Hears fresh now m a b → b.server ≡ a.server → b.life ≡ a.life → Takes fresh now i a b

-- What becomes of an association, from one part of the step to the next: with these settings, and welcomes that are younger than this.
pub record Walk (k : Config) (fresh : ℕ) (now : Stamp) (i : ClientInput) (a b : Association) : Type 0 where
  pub first : Association
  pub second : Association
  -- the lease
  pub stays : first.server ≡ a.server
  pub lasts : is_ended k now a.session ≡ false → first ≡ a
  pub lost : is_ended k now a.session ≡ true → (first.life.0 ≡ a.life.0 + 1) × (first.session ≡ None)
  pub going : is_ended k now first.session ≡ false
  -- the input
  pub takes : Takes fresh now i first second
  -- the passes
  pub server : b.server ≡ second.server
  pub life : b.life ≡ second.life
  pub session : After now second.session b.session
  pub greeting : is_some second.greeting ≡ true → is_some b.greeting ≡ true
