-- What a step of a node leaves in the world: all nodes but its own, and the messages that were sent before, beside those of its outputs.
use Rattle.st_lemmas.proofs.Words
use Words.{◌≡◌, ◌≢◌, ℕ, ◌+◌, ◌≤◌, ◌⊎◌, true, List, [], ◌∷◌, Some, refl, sym, ap, ◌∙◌, subst, inl, inr, arith, map, zero, suc, set, slice_get, ClientId}
use Words.{ServerId, Message, Output, SentMessage}
use Words.outputs
use Words.ClientState.{ClientState}
use Words.World as world
use Words.World.{World, numbered, with_numbered}
use Words.Events as ev
use Words.Events.{WorldTurn, client_says_all, server_says_all}
use Words.Lists.{Has}
use Words.Lookups.{some_is}
use Words.Numbers.{has_get, numbered_below, numbered_has, numbered_other, numbered_own}
use Words.Tables.{same_or_not}
use Rattle.st_laws_leases.specs.Dates.Dates.{message_in, messages}
use Rattle.st_laws_leases.proofs.Dates.SentMessages.{Alike, Said, client_said, flushed, server_said}

-- one place of a list by numbers
pub set_cases : {A : Type 0} (xs : List A) (n m : ℕ) (y z x : A) → numbered xs n ≡ Some y → numbered (with_numbered n z xs) m ≡ Some x → ((m ≡ n) × (x ≡ z)) ⊎ ((m ≢ n) × (numbered xs m ≡ Some x))
set_cases {A} xs n m y z x i e = go (same_or_not m n)
  where
    go : (m ≡ n) ⊎ (m ≢ n) → ((m ≡ n) × (x ≡ z)) ⊎ ((m ≢ n) × (numbered xs m ≡ Some x))
    go (inl q) = inl (q, some_is (sym e ∙ ap (numbered (with_numbered n z xs)) q ∙ numbered_own xs n z y i))
    go (inr q) = inr (q, sym (numbered_other xs n m z (numbered_below xs n y i).0 q) ∙ e)

-- each message has a number
pub has_numbered : {A : Type 0} (xs : List A) (x : A) → Has x xs → (k : ℕ) × (numbered xs k ≡ Some x)
has_numbered xs x h = let z = has_get xs x h in (suc z.0, z.1)

-- servers and clients have other node numbers
pub server_not_client : (c s : ℕ) → c ≤ 16 → c ≡ 32768 + s → ⊥
server_not_client c s l e = omega (arith, l, e)

-- a lost message is the same message
map_set : {A B : Type 0} (f : A → B) (xs : List A) (n : ℕ) (y z : A) → f z ≡ f y → slice_get xs n ≡ Some y → map f (set xs n z) ≡ map f xs
map_set f [] n y z e q = cc
map_set f (x ∷ xs) zero y z e q = ap (λ v. v ∷ map f xs) (e ∙ ap f (sym (some_is q)))
map_set f (x ∷ xs) (suc n) y z e q = ap (λ v. f x ∷ v) (map_set f xs n y z e q)

pub lost_same : (w : World) (k : ℕ) (m : SentMessage) → world.message_of w k ≡ Some m → messages (ev.with_lost k m w) ≡ messages w
lost_same w zero m e = cc
lost_same w (suc n) m e = map_set message_in w.net.messages n m (record m { lost = true }) refl e

-- What is left of the messages ms and of the nodes of a world in which these outputs were said.
pub record Leaves (ms : List Message) (w last : World) (out : List Output) : Type 0 where
  pub clients : last.clients ≡ w.clients
  pub servers : last.servers ≡ w.servers
  pub old : (m : Message) → Has m ms → Has m (messages last)
  pub get : (k : ℕ) (m : Message) → numbered (messages last) k ≡ Some m → (numbered ms k ≡ Some m) ⊎ Has (outputs.Send m) out

-- a message there was there before, or was sent
pub leaves_from : (ms : List Message) (w last : World) (out : List Output) → Leaves ms w last out → (m : Message) → Has m (messages last) → Has m ms ⊎ Has (outputs.Send m) out
leaves_from ms w last out l m h = let z = has_numbered (messages last) m h in which z.0 (l.get z.0 m z.1)
  where
    which : (k : ℕ) → (numbered ms k ≡ Some m) ⊎ Has (outputs.Send m) out → Has m ms ⊎ Has (outputs.Send m) out
    which k (inl q) = inl (numbered_has ms k m q)
    which k (inr q) = inr q

-- a step of a client, with its flush steps
pub client_leaves : (ms : List Message) (c : ClientId) (before after : ClientState) (out : List Output) (a : WorldTurn) → messages a.world ≡ ms →
    Leaves ms a.world (ev.flushes c after (world.all_servers (client_says_all c before out a).world) (client_says_all c before out a).world) out
client_leaves ms c before after out a same =
    record {
      clients = f.clients ∙ said.clients;
      servers = f.servers ∙ said.servers;
      old = λ m h. subst (Has m) (sym msgs) (said.old m (subst (Has m) (sym same) h));
      get = λ k m q. pick k m (said.get k m (ap (λ z. numbered z k) (sym msgs) ∙ q));
    }
  where
    b : WorldTurn
    b = client_says_all c before out a

    said : Said a b out
    said = client_said c before out a

    f : Alike b.world (ev.flushes c after (world.all_servers b.world) b.world)
    f = flushed c after (world.all_servers b.world) b.world

    msgs : messages (ev.flushes c after (world.all_servers b.world) b.world) ≡ messages b.world
    msgs = ap (λ (n : world.Net). map message_in n.messages) f.net

    pick : (k : ℕ) (m : Message) → (numbered (messages a.world) k ≡ Some m) ⊎ Has (outputs.Send m) out → (numbered ms k ≡ Some m) ⊎ Has (outputs.Send m) out
    pick k m (inl z) = inl (ap (λ y. numbered y k) (sym same) ∙ z)
    pick k m (inr z) = inr z

-- a step of a server
pub server_leaves : (s : ServerId) (out : List Output) (a : WorldTurn) → Leaves (messages a.world) a.world (server_says_all s out a).world out
server_leaves s out a = let said = server_said s out a in record { clients = said.clients; servers = said.servers; old = said.old; get = said.get }
