-- What the associations of a server don't see: steps of other servers, and what is lost, cut or healed on the way.
use Rattle.st_lemmas.proofs.Words
use Words.{◌≡◌, ◌≢◌, ℕ, zero, suc, ◌+◌, ◌⊎◌, true, List, [], ◌∷◌, refl, sym, ap, ◌∙◌, subst, inl, inr, arith, length, set, slice_get, unwrap_or, Some, NodeId}
use Words.{SentMessage}
use Words.nodes
use Words.Keys.{client}
use Words.Server.{is_client_node, ServerNode}
use Words.World.{World, WorldClient, numbered, site_of, clock_of, stamp, server}
use Words.Events.{with_lost, with_cut, without_cut}
use Words.Lists.{Has}
use Words.Lookups.{some_is}
use Rattle.st_protocol.specs.Assoc.{Config, Reached}
use Rattle.st_laws_refine.specs.Views.Halves.{Ghost, half_of}
use Rattle.st_laws_refine.specs.Server.View.{StandsAt}
use Rattle.st_laws_refine.specs.Server.Pair.{life_now, client_at_site, client_in, EndedBy, Wire, Wires, Served}
use Rattle.st_laws_refine.specs.Server.Invariants.{pairs}
use Rattle.st_laws_leases.specs.Sides.Invariants.{AllPast, Standing, Both, Unseen}

module _ (k : Config) (s : ℕ) where
  pub unseen : (w v : World) (node : ServerNode) (ended : ℕ → ℕ → ℕ) (G : ℕ → Ghost) → Unseen s w v → Both k s w node ended G → Both k s v node ended G
  unseen w v node ended G u b =
      record {
        stands = record { reached = subst (Reached k) same b.stands.reached; served = served; compat = b.stands.compat };
        clients = clients;
        ends = λ c. subst (EndedBy c s (ended c)) (sym u.ended) (b.ends c);
        few = let f = b.few in let l = ap (λ (xs : List WorldClient). length xs) u.clients in omega arith;
      }
    where
      clock_s : clock_of w (nodes.Server (server s)) ≡ clock_of v (nodes.Server (server s))
      clock_s = λ j. unwrap_or (numbered (sym u.clocks j) (length (sym u.clients j) + s)) (stamp 0)

      view : (c : ℕ) → client_in w c s (ended c) ≡ client_in v c s (ended c)
      view c = λ j. client_at_site (record w { clients = sym u.clients j; clocks = sym u.clocks j; config = sym u.config j }) c s (ended c) (numbered (sym u.clients j) c)

      same : pairs s ended w node G ≡ pairs s ended v node G
      same = λ j. record { at = λ c. record { c = view c j; s = half_of (client c) (clock_s j) node.running node.state (G c); net = (G c).net } }

      wires : (c : ℕ) → Wires c s w.net.messages (G c).net → Wires c s v.net.messages (G c).net
      wires c ws m h = go (u.messages m h)
        where
          go : ((x : SentMessage) × Has x w.net.messages × (x.message ≡ m.message)) ⊎ ((m.message.header.from ≢ 32768 + s) × (is_client_node m.message.header.from ≡ true → ⊥)) → Wire c s m.message (G c).net
          go (inl x) = subst (λ y. Wire c s y (G c).net) x.2 (ws x.0 x.1)
          go (inr n) = record { to_client = λ e f. absurd (n.0 e); to_server = λ e f h. absurd (n.1 f) }

      served : (c : ℕ) → Served k.wait c s v node (G c)
      served c = let d = b.stands.served c in record { found = u.found ∙ d.found; id = d.id; terms = d.terms; stands = subst (λ t. StandsAt c k.wait t node.running node.state (G c)) clock_s d.stands; wires = wires c d.wires }

      clients : (c : ℕ) (site : WorldClient) → site_of v (client c) ≡ Some site → Standing k s c site v.ended (G c).net
      clients c site e =
          let q = b.clients c site (ap (λ xs. numbered xs c) (sym u.clients) ∙ e) in
          record { association = q.association; sim = q.sim; past = subst (AllPast c s (life_now site.node.running q.association)) (sym u.ended) q.past; stopped = q.stopped }

  -- a message that is lost
  set_has : (xs : List SentMessage) (n : ℕ) (m x : SentMessage) → slice_get xs n ≡ Some m → Has x (set xs n (record m { lost = true })) → (y : SentMessage) × Has y xs × (y.message ≡ x.message)
  set_has [] n m x e h = elim h [ ]
  set_has (z ∷ zs) zero m x e (inl q) = (z, inl refl, ap (λ (y : SentMessage). y.message) (some_is e) ∙ sym (ap (λ (y : SentMessage). y.message) q))
  set_has (z ∷ zs) zero m x e (inr h) = (x, inr h, refl)
  set_has (z ∷ zs) (suc n) m x e (inl q) = (z, inl refl, sym (ap (λ (y : SentMessage). y.message) q))
  set_has (z ∷ zs) (suc n) m x e (inr h) = let r = set_has zs n m x e h in (r.0, inr r.1, r.2)

  pub message_lost : (w : World) (n : ℕ) (m : SentMessage) → numbered w.net.messages n ≡ Some m → Unseen s w (with_lost n m w)
  message_lost w zero m e = cc
  message_lost w (suc n) m e = record { clients = refl; clocks = refl; ended = refl; config = refl; found = refl; messages = λ x h. inl (set_has w.net.messages n m x e h) }

  -- each message was there before
  pub lost_had : (w : World) (n : ℕ) (m : SentMessage) → numbered w.net.messages n ≡ Some m → (x : SentMessage) → Has x (with_lost n m w).net.messages → (y : SentMessage) × Has y w.net.messages × (y.message ≡ x.message)
  lost_had w zero m e x h = cc
  lost_had w (suc n) m e x h = set_has w.net.messages n m x e h

  pub link_cut : (w : World) (a b : NodeId) → Unseen s w (with_cut a b w)
  link_cut w a b = record { clients = refl; clocks = refl; ended = refl; config = refl; found = refl; messages = λ m h. inl (m, h, refl) }

  pub link_healed : (w : World) (a b : NodeId) → Unseen s w (without_cut a b w)
  link_healed w a b = record { clients = refl; clocks = refl; ended = refl; config = refl; found = refl; messages = λ m h. inl (m, h, refl) }
