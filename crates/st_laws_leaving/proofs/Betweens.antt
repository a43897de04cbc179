-- What is between clients and servers, with fewer messages, or with another client.
use Rattle.st_lemmas.proofs.Words
use Words.{◌≡◌, ◌≢◌, ◌≤◌, ◌<◌, ◌+◌, ◌-◌, ◌⊎◌, ℕ, Bool, true, false, Some, sym, ap, ◌∙◌, subst, inl, inr, arith, nat_le, if◌then◌else◌}
use Words.{Body, ClientId, Message, ServerId}
use Words.bodies
use Words.nodes
use Words.ClientState.{Association}
use Words.Keys.{client, server_node}
use Words.Lists.{Has}
use Words.Lookups.{some_is}
use Words.Server.{ServerNode}
use Words.Tables.{same_or_not}
use Words.Truth.{below_or_not, false_not_true}
use Words.World as world
use Words.World.{World, WorldClient, numbered}
use Rattle.st_base.specs.Nodes.{SERVER_BASE}
use Rattle.st_third.specs.Limits.{is_third, most_clients, node_at}
use Rattle.st_third.specs.Promises.{is_greeting}
use Rattle.st_laws_leaving.specs.Going.{AllNumbered, Apart, IsNumbered}
use Rattle.st_laws_leaving.specs.Quiet.{AtClient, AtServer, Between, HasBegun, IsSent, IsTo, OnItsWay, Standing}
use Rattle.st_laws_leaving.specs.Serving.{IsCalm}

-- a body that is calm, or no greeting
pub calm_or : (b : Body) → (IsCalm b) ⊎ (b ≡ bodies.Hello → ⊥)
calm_or bodies.Hello = inl tt
calm_or (bodies.DemandSeen ino g) = inl tt
calm_or b = inr (λ e. false_not_true (ap is_greeting e))

-- a number that isn't another one, and not above it
pub ne_below : (x y : ℕ) → x ≢ y → x ≤ y → x < y
ne_below x y ne l = go (below_or_not x y)
  where
    go : (x < y) ⊎ (y ≤ x) → x < y
    go (inl k) = k
    go (inr k) = absurd (ne (omega (arith, k, l)))

-- Nodes by their numbers.

pub node_is : (form n : ℕ) → is_third form ≡ true → node_at form n ≡
    (if nat_le n 64 then nodes.Client (client n) else nodes.Server (world.server (n - SERVER_BASE)))
unfolding node_at most_clients
node_is form n f = ap (λ b. if nat_le n (if b then 64 else 16) then nodes.Client (client n) else nodes.Server (world.server (n - SERVER_BASE))) f

pub client_number : (form n : ℕ) (c : ClientId) → is_third form ≡ true → node_at form n ≡ nodes.Client c → n ≡ c.0
client_number form n c f e = go (nat_le n 64) (sym (node_is form n f) ∙ e)
  where
    go : (b : Bool) → (if b then nodes.Client (client n) else nodes.Server (world.server (n - SERVER_BASE))) ≡ nodes.Client c → n ≡ c.0
    go true q = ap (λ (x : ClientId). x.0) (same q)
      where
        same : nodes.Client (client n) ≡ nodes.Client c → client n ≡ c
        same q = cc q
    go false q = cc q

pub server_number : (form n : ℕ) (s : ServerId) → is_third form ≡ true → 1 ≤ s.0 → node_at form n ≡ nodes.Server s → n ≡ server_node s
server_number form n s f l e = go (nat_le n 64) (sym (node_is form n f) ∙ e)
  where
    go : (b : Bool) → (if b then nodes.Client (client n) else nodes.Server (world.server (n - SERVER_BASE))) ≡ nodes.Server s → n ≡ server_node s
    go true q = cc q
    go false q = let z = ap (λ (x : ServerId). x.0) (same q) in omega (arith, z, l)
      where
        same : nodes.Server (world.server (n - SERVER_BASE)) ≡ nodes.Server s → world.server (n - SERVER_BASE) ≡ s
        same q = cc q

-- With fewer messages.

pub between_as : (w v : World) (c : ClientId) (site : WorldClient) (a : Association) (node : ServerNode) →
    ((m : Message) → IsSent v m → IsTo c a.server m → IsSent w m) →
    ((m : Message) → IsSent v m → m.header.from ≡ server_node a.server → IsSent w m) → Between w c site a node → Between v c site a node
between_as w v c site a node mail post b =
    record {
      lives = λ m h t. b.lives m (mail m h t) t;
      epochs = λ m h t n. b.epochs m (mail m h t) t n;
      session = b.session;
      served = b.served;
      welcomes = λ m h f t e. b.welcomes m (post m h f) f t e;
      calm = λ r x m h t l. b.calm r x m (mail m h t) t l;
      quiet = λ r x h. let q = b.quiet r x (begun h) in record { nothing = q.nothing; harmless = λ up m i t. q.harmless up m (mail m i t) t };
    }
  where
    begun : HasBegun v c a node → HasBegun w c a node
    begun (AtServer x e l) = AtServer x e l
    begun (OnItsWay m h f t e l) = OnItsWay m (post m h f) f t e l
    begun (AtClient u e) = AtClient u e

pub standing_as : (w v : World) → v.clients ≡ w.clients → v.servers ≡ w.servers → ((m : Message) → IsSent v m → IsSent w m) → Standing w → Standing v
standing_as w v p q f s =
    record {
      apart = λ n site e. s.apart n site (sym (ap (λ xs. numbered xs n) p) ∙ e);
      requests = λ n site e. s.requests n site (sym (ap (λ xs. numbered xs n) p) ∙ e);
      ids = λ k node e. s.ids k node (sym (ap (λ xs. numbered xs k) q) ∙ e);
      serving = λ k node e. s.serving k node (sym (ap (λ xs. numbered xs k) q) ∙ e);
      epochs = λ k node e m h. s.epochs k node (sym (ap (λ xs. numbered xs k) q) ∙ e) m (f m h);
      between =
          λ n site a node e h i. between_as w v (record { 0 = n }) site a node (λ m j t. f m j) (λ m j t. f m j)
          (s.between n site a node (sym (ap (λ xs. numbered xs n) p) ∙ e) h (sym (ap (λ xs. numbered xs a.server.0) q) ∙ i));
    }

-- One client becomes another one, and what is new was said by it.
module _ (w v : World) (c : ClientId) (new : WorldClient) (at_own : numbered v.clients c.0 ≡ Some new)
    (at_other : (n : ℕ) → n ≢ c.0 → numbered v.clients n ≡ numbered w.clients n) (servers : v.servers ≡ w.servers) (said : Message → Type 0)
    (sent : (m : Message) → IsSent v m → (IsSent w m) ⊎ (said m))
    (own : (m : Message) → said m → m.header.from ≡ c.0) (few : c.0 ≤ 64) (s : Standing w) where
  -- a server's message was there
  post : (k : ℕ) (m : Message) → IsSent v m → m.header.from ≡ 32768 + k → IsSent w m
  post k m h f = go (sent m h)
    where
      go : (IsSent w m) ⊎ (said m) → IsSent w m
      go (inl i) = i
      go (inr x) = let o = own m x in absurd (omega (arith, f, o, few))

  -- so was another client's
  mail : (n : ℕ) (m : Message) → n ≢ c.0 → IsSent v m → m.header.from ≡ n → IsSent w m
  mail n m ne h f = go (sent m h)
    where
      go : (IsSent w m) ⊎ (said m) → IsSent w m
      go (inl i) = i
      go (inr x) = absurd (ne (sym f ∙ own m x))

  by_client : (P : ℕ → WorldClient → Type 0) → P c.0 new → ((n : ℕ) (site : WorldClient) → n ≢ c.0 → numbered w.clients n ≡ Some site → P n site) →
      (n : ℕ) (site : WorldClient) →
      numbered v.clients n ≡ Some site → P n site
  by_client P p f n site e = go (same_or_not n c.0)
    where
      go : (n ≡ c.0) ⊎ (n ≢ c.0) → P n site
      go (inl q) = subst (λ x. P x site) (sym q) (subst (P c.0) (some_is (sym at_own ∙ sym (ap (numbered v.clients) q) ∙ e)) p)
      go (inr ne) = f n site ne (sym (at_other n ne) ∙ e)

  pub client_standing : Apart new.node.state.associations → AllNumbered new.node.state.associations →
      ((a : Association) (node : ServerNode) → Has a new.node.state.associations → numbered w.servers a.server.0 ≡ Some node → Between v c new a node) →
      Standing v
  client_standing apart_new requests_new between_new =
      record {
        apart = by_client (λ n site. Apart site.node.state.associations) apart_new (λ n site ne e. s.apart n site e);
        requests =
            by_client (λ n site. (a : Association) → Has a site.node.state.associations → IsNumbered a.session) requests_new
            (λ n site ne e. s.requests n site e);
        ids = λ k node e. s.ids k node (sym (ap (λ xs. numbered xs k) servers) ∙ e);
        serving = λ k node e. s.serving k node (sym (ap (λ xs. numbered xs k) servers) ∙ e);
        epochs = λ k node e m h f. s.epochs k node (sym (ap (λ xs. numbered xs k) servers) ∙ e) m (post k m h f) f;
        between =
            λ n site a node e h i. by_client (λ n site. Has a site.node.state.associations → Between v (record { 0 = n }) site a node)
            (λ j. between_new a node j (sym (ap (λ xs. numbered xs a.server.0) servers) ∙ i))
            (λ n site ne q j. between_as w v (record { 0 = n }) site a node (λ m x t. mail n m ne x t.0) (λ m x f. post a.server.0 m x f)
            (s.between n site a node q j (sym (ap (λ xs. numbered xs a.server.0) servers) ∙ i))) n site e h;
      }
