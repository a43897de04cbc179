-- What a client's outputs and its flush steps leave of the world: how far the clocks drifted; and no byte of the messages goes.
use Rattle.st_lemmas.proofs.Words
use Words.{◌≡◌, ◌≤◌, ◌⊎◌, List, [], ◌∷◌, Option, Some, None, refl, ◌∙◌, subst, inl, inr, arith, length, pred, ClientId, ServerId, Stamp, Message, Note, Output}
use Words.{Phase, SentMessage}
use Words.nodes
use Words.notes
use Words.outputs
use Words.phases
use Words.ClientState.{ClientState}
use Words.Client as cl
use Words.World as world
use Words.World.{World, WorldClient, site_of, with_numbered}
use Words.Events as ev
use Words.Events.{WorldTurn, client_says, client_says_all}
use Words.Lists.{Has}
use Words.Numbers.{set_length}
use Rattle.st_laws_leases.specs.Sides.Invariants.{Left}

-- the drift stays, and no byte goes
pub record RunsOn (w v : World) : Type 0 where
  pub drift : v.drift ≡ w.drift
  pub bytes : w.net.bytes ≤ v.net.bytes

on_same : (w v : World) → v.drift ≡ w.drift → v.net.bytes ≡ w.net.bytes → RunsOn w v
on_same w v d b = record { drift = d; bytes = omega (arith, b) }

pub on_then : (u v w : World) → RunsOn u v → RunsOn v w → RunsOn u w
on_then u v w p q = record { drift = q.drift ∙ p.drift; bytes = let a = p.bytes in let b = q.bytes in omega arith }

-- one output
on_one : (a : WorldTurn) (c : ClientId) (before : ClientState) (o : Output) → RunsOn a.world (client_says a c before o).world
unfolding client_says ev.sends ev.submits ev.answers_with ev.client_notes ev.accepts ev.patches ev.loses
on_one a c before (outputs.Send m) = record { drift = refl; bytes = omega arith }
on_one a c before (outputs.Submit number at what) = go (site_of a.world c)
  where
    go : (o : Option WorldClient) → RunsOn a.world (ev.submits a c o number at what).world
    go None = on_same a.world _ refl refl
    go (Some site) = on_same a.world _ refl refl
on_one a c before (outputs.Answer op answer) = on_same a.world _ refl refl
on_one a c before (outputs.Note n) = go n
  where
    go : (n : Note) → RunsOn a.world (ev.client_notes a c before n).world
    go (notes.Leased s end) = on_same a.world _ refl refl
    go (notes.Lost s life) = on_same a.world _ refl refl
    go (notes.Accepted f p bytes) = on_same a.world _ refl refl
    go (notes.Patched f p at bytes) = on_same a.world _ refl refl
    go n = on_same a.world _ refl refl

-- all outputs
pub on_all : (c : ClientId) (before : ClientState) (os : List Output) (a : WorldTurn) → RunsOn a.world (client_says_all c before os a).world
unfolding client_says_all
on_all c before [] a = on_same a.world _ refl refl
on_all c before (o ∷ os) a = on_then a.world _ _ (on_one a c before o) (on_all c before os (client_says a c before o))

-- flush steps
pub on_flushes : (c : ClientId) (x : ClientState) (ss : List ServerId) (w : World) → RunsOn w (ev.flushes c x ss w)
unfolding ev.flushes
on_flushes c x [] w = on_same w _ refl refl
on_flushes c x (s ∷ ss) w = on_then w _ _ (go (cl.lease_end_with x s) (cl.phase_with x s (world.clock_of w (nodes.Client c)))) (on_flushes c x ss (ev.flushed_at w c s x))
  where
    under : (o : Option Stamp) → RunsOn w (ev.flushed_under w c s o)
    under None = on_same w _ refl refl
    under (Some end) = on_same w _ refl refl

    go : (o : Option Stamp) (p : Option Phase) → RunsOn w (ev.flushed_in w c s o p)
    go o (Some phases.Flush) = under o
    go o p = on_same w _ refl refl

-- an event that leaves all of these
pub left_all : (w v : World) → v.servers ≡ w.servers → v.config ≡ w.config → v.clocks ≡ w.clocks → v.drift ≡ w.drift → v.clients ≡ w.clients → v.net ≡ w.net → Left w v
left_all w v s k t d c n =
    record {
      servers = s;
      config = k;
      clocks = t;
      drift = d;
      many = λ j. length (c j);
      bytes = let b : v.net.bytes ≡ w.net.bytes = (λ j. (n j).bytes) in omega (arith, b);
      messages = λ m h. inl (m, subst (λ (x : world.Net). Has m x.messages) n h, refl);
    }

-- the same if links are cut or healed
pub left_with : (w v : World) → v.servers ≡ w.servers → v.config ≡ w.config → v.clocks ≡ w.clocks → v.drift ≡ w.drift → v.clients ≡ w.clients → v.net.bytes ≡ w.net.bytes → v.net.messages ≡ w.net.messages → Left w v
left_with w v s k t d c b n =
    record {
      servers = s;
      config = k;
      clocks = t;
      drift = d;
      many = λ j. length (c j);
      bytes = omega (arith, b);
      messages = λ m h. inl (m, subst (Has m) n h, refl);
    }

-- one client is replaced
pub one_changed : (w : World) (c : ClientId) (new : WorldClient) (v : World) → v.servers ≡ w.servers → v.config ≡ w.config → v.clocks ≡ w.clocks → v.drift ≡ w.drift →
    v.clients ≡ with_numbered c.0 new w.clients → v.net ≡ w.net → Left w v
one_changed w c new v s k t d e n =
    record {
      servers = s;
      config = k;
      clocks = t;
      drift = d;
      many = (λ j. length (e j)) ∙ set_length w.clients (pred c.0) new;
      bytes = let b : v.net.bytes ≡ w.net.bytes = (λ j. (n j).bytes) in omega (arith, b);
      messages = λ m h. inl (m, subst (λ (x : world.Net). Has m x.messages) n h, refl);
    }

pub left_then : (u v w : World) → Left u v → Left v w → Left u w
left_then u v w p q =
    record {
      servers = q.servers ∙ p.servers;
      config = q.config ∙ p.config;
      clocks = q.clocks ∙ p.clocks;
      drift = q.drift ∙ p.drift;
      many = q.many ∙ p.many;
      bytes = let a = p.bytes in let b = q.bytes in omega arith;
      messages = λ m h. go m (q.messages m h);
    }
  where
    old : (m : SentMessage) (x : SentMessage) → x.message ≡ m.message → ((y : SentMessage) × Has y u.net.messages × (y.message ≡ x.message)) ⊎ (x.message.header.from ≤ 16) →
        ((y : SentMessage) × Has y u.net.messages × (y.message ≡ m.message)) ⊎ (m.message.header.from ≤ 16)
    old m x e (inl z) = inl (z.0, z.1, z.2 ∙ e)
    old m x e (inr l) = inr (subst (λ (y : Message). y.header.from ≤ 16) e l)

    go : (m : SentMessage) → ((x : SentMessage) × Has x v.net.messages × (x.message ≡ m.message)) ⊎ (m.message.header.from ≤ 16) → ((y : SentMessage) × Has y u.net.messages × (y.message ≡ m.message)) ⊎ (m.message.header.from ≤ 16)
    go m (inl z) = old m z.0 z.2 (p.messages z.0 z.1)
    go m (inr l) = inr l
