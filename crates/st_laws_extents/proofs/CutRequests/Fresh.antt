-- A request that a server serves anew is the one that is outstanding at its client.
use Rattle.st_lemmas.proofs.Words
use Words.{◌≡◌, ℕ, ◌+◌, ◌≤◌, ◌<◌, zero, suc, List, Option, Some, None, refl, sym, ap, ◌∙◌, subst, inl, inr, arith, Message, Request, ServerId}
use Words.nodes
use Words.ClientState.{Association, ClientSession}
use Words.Keys.{client, server_node}
use Words.History.{Traced}
use Words.Safety.{Step}
use Words.Sessions as sessions
use Words.World.{WorldClient, clock_of, node_of}
use Words.Lists.{Has}
use Rattle.st_protocol.specs.Assoc.{Config}
use Rattle.st_laws_refine.specs.Client.Invariants.{Lasts}
use Rattle.st_laws_leases.specs.Dates.Dates.{messages}
use Rattle.st_laws_leases.specs.Sides.World.{AllStand}
use Rattle.st_laws_reads.specs.AllClients.Law.{Running}
use Rattle.st_laws_requests.specs.Replies.ServedRequests.{IsBehind, Reached}
use Rattle.st_laws_requests.specs.Cuts.Cuts.{CutsHold, Numbers, Numbered, SameBody, view}
use Rattle.st_laws_extents.specs.CutRequests.Asks.{AsksStand, Of, first_open, open_from}
use Rattle.st_laws_extents.specs.CutRequests.Law.{gifts}
use Rattle.st_laws_extents.specs.CutRequests.World.{AllAsk, IsServed, ServedTo}
use Rattle.st_laws_extents.proofs.CutRequests.Standing.{own_session}
use Rattle.st_laws_extents.specs.CutRequests.FreshRequests.{FreshAt, FreshOutstanding, IsOutstanding}

-- all numbers below the first open one reached the last number that was served
open_below : (last number first : ℕ) → number ≡ last + 1 → ((k : ℕ) → 1 ≤ k → k + 1 ≡ first → k ≤ last) → first ≤ number
open_below last number zero e f = omega arith
open_below last number (suc zero) e f = omega (arith, e)
open_below last number (suc (suc j)) e f = let z = f (suc j) (omega arith) (omega arith) in omega (arith, z, e)

module _ (k : Config) (count : ℕ) (past : List Step) (t : Traced) (cuts : CutsHold past t) (all : AllStand k count t.world) (asks : AllAsk (gifts k count t.world all) t.world) (s : ServerId) (m : Message) (c : FreshAt t.world s m)
    (site : WorldClient) (run : Running t.world m.header.from site) (b : Association) (h : Has b site.node.state.associations) (e : b.server ≡ s) (x : ClientSession) (sess : b.session ≡ Some x)
    (lasts : Lasts site.node.state.config.lease (clock_of t.world (nodes.Client (client m.header.from))).0 b.session) where
  own : (c.session.life.0 ≡ b.life.0) × (x.epoch.0 ≡ c.node.state.stable.epoch.0)
  own = own_session k count t.world all s.0 c.node c.there m.header.from site run b h e x sess lasts c.running c.session c.is (ap sessions.is_live_state c.state)

  stands : AsksStand (IsServed t.world (client m.header.from)) (gifts k count t.world all (client m.header.from)) b.server b.life.0 x.epoch.0 x.requests x.cutting x.due
  stands = subst (Of (AsksStand (IsServed t.world (client m.header.from)) (gifts k count t.world all (client m.header.from))) b.server b.life.0) sess (asks (client m.header.from) site run.there b h)

  numbers : Numbers (λ m. Has m (messages t.world)) (client m.header.from) b.server b.life.0 (view (Some x))
  numbers = subst (λ o. Numbers (λ m. Has m (messages t.world)) (client m.header.from) b.server b.life.0 (view o)) sess ((cuts.clients (client m.header.from) site run.there).all run.runs b h).numbers

  epoch : m.header.epoch ≡ x.epoch.0
  epoch = c.of_epoch ∙ sym own.1

  numbered : Numbered x.epoch.0 x.requests m
  numbered = numbers.placed m c.among (refl, c.to ∙ ap server_node (sym e)) (sym c.of_life ∙ own.0) (let y = c.next in omega (arith, y))

  below : m.header.number < x.requests.next
  below = numbered.below epoch

  -- what the client ended its server had served
  reach : (n : ℕ) → 1 ≤ n → n + 1 ≡ first_open x.requests → n ≤ c.last
  reach n pos q = go (subst (λ o. IsBehind o b.life.0 n) c.is (served.behind c.running own.1))
    where
      served : ServedTo (client m.header.from) c.node b.life.0 x.epoch.0 n
      served = stands.served c.node (ap (node_of t.world) e ∙ c.there) n pos q

      go : IsBehind (Some c.session) b.life.0 n → n ≤ c.last
      go (inl l) = let y = own.0 in absurd (omega (arith, y, l))
      go (inr l) = subst (Reached n) c.state l.1

  opened : first_open x.requests ≤ m.header.number
  opened = open_below c.last m.header.number (first_open x.requests) c.next reach

  asked : (o : Option Request) → x.requests.asked ≡ o → IsOutstanding x m
  asked None a = absurd (let z = subst (λ o. open_from x.requests.next o ≤ m.header.number) a opened in omega (arith, z, below))
  asked (Some q) a = record { request = q; asked = a; number = number; body = subst (λ o. SameBody o m) a (numbered.same epoch) number }
    where
      number : m.header.number ≡ q.number
      number = let l = stands.last q a in let z = subst (λ o. open_from x.requests.next o ≤ m.header.number) a opened in omega (arith, z, below, l)

  pub is_outstanding : IsOutstanding x m
  is_outstanding = asked x.requests.asked refl

-- in a world
pub outstanding : (k : Config) (count : ℕ) (past : List Step) (t : Traced) → CutsHold past t → (all : AllStand k count t.world) → AllAsk (gifts k count t.world all) t.world → FreshOutstanding t.world
outstanding k count past t cuts all asks s m c site run b h e x sess lasts = is_outstanding k count past t cuts all asks s m c site run b h e x sess lasts
