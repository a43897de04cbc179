-- The operation that led to a request to cut a file or for a name that a server serves next: it waited under the key of the request.
use Rattle.st_lemmas.proofs.Words
use Words.{◌≡◌, ◌≢◌, ◌⊎◌, ℕ, ◌≤◌, arith, Bool, true, false, List, Some, refl, sym, ap, ◌∙◌, subst, inl, inr, nat_le, list_any, eqb-true}
use Words.{leb-true, ClientId, GrantNo, ServerId, Ask, Message}
use Words.ClientState.{Association, asks_cut_or_name}
use Words.ClientState as cs
use Words.History.{Traced}
use Words.Keys.{client, server_node}
use Words.Safety.{Step}
use Words.Server.{ServerNode}
use Words.Sessions as sessions
use Words.World as world
use Words.World.{World, WorldClient, node_of, numbered, site_of}
use Words.Lists.{Has}
use Words.Tables.{and_true, same_or_not}
use Words.Worlds.{site_there}
use Rattle.st_protocol.specs.Assoc.{Config}
use Rattle.st_laws_leases.specs.Dates.Dates.{messages}
use Rattle.st_laws_requests.specs.Replies.ServedRequests.{IsBehind, Reached}
use Rattle.st_laws_requests.specs.Cuts.Cuts.{AsksFor, Between, asks_of}
use Rattle.st_laws_extents.specs.CutRequests.EndedLives.{IsPast}
use Rattle.st_laws_extents.specs.CutRequests.Law.{gifts}
use Rattle.st_promises.specs.CutAsks.{settles_in}
use Rattle.st_laws_cuts.specs.EndedRequests.{AllPast, MeansTo}
use Rattle.st_laws_cuts.specs.ServedRequests.{IsServedBy}
use Rattle.st_laws_cuts.proofs.Law.{AllHold}
use Rattle.st_laws_cuts.proofs.Words.{unsettled_past}
use Rattle.st_laws_names.proofs.Rows.{Over, RowsHold}
use Rattle.st_laws_names.proofs.Waiting.{Pending, Row, alive}
use Rattle.st_laws_cuts.proofs.Open.{association_there}

-- a message that a server serves next is not past
pub not_past : (c : ClientId) (n : ServerNode) (m : Message) (served : IsServedBy n.state m) → n.running ≡ true → m.header.from ≡ c.0 → IsPast c n m → ⊥
not_past c n m z run from p = by p
  where
    same : client m.header.from ≡ c
    same = ap (λ k. record { 0 = k }) from

    go : IsBehind (Some z.session) m.header.life m.header.number → ⊥
    go (inl l) = let y = z.of_life in omega (arith, y, l)
    go (inr l) = let y = subst (Reached m.header.number) z.state l.1 in let q = z.next in omega (arith, y, q)

    by : IsPast c n m → ⊥
    by (inl l) = let y = z.of_epoch in omega (arith, y, l)
    by (inr q) = go (subst (λ o. IsBehind o m.header.life m.header.number) z.is (subst (λ d. IsBehind (sessions.session_of n.state.sessions d) m.header.life m.header.number) (sym same) (q.1 run)))

-- the operation that waited under its key
pub record Behind (past : List Step) (G : ℕ → GrantNo → Type 0) (w : World) (s : ServerId) (m : Message) : Type 0 where
  pub op : ℕ
  pub ask : Ask
  pub asked : numbered (asks_of past (client m.header.from)) op ≡ Some ask
  pub of : cs.server_of ask ≡ s
  pub means : AsksFor ask m.body
  pub to : MeansTo G s ask m.body
  pub row : Row past w (client m.header.from) s m op
  pub unsettled : list_any (settles_in (client m.header.from) op) past ≡ false

module _ (k : Config) (count : ℕ) (past : List Step) (t : Traced) (h : AllHold k count past t) (d : RowsHold past (gifts k count t.world h.base.all) t.world)
    (s : ServerId) (old : ServerNode) (was : node_of t.world s ≡ Some old) (running : old.running ≡ true)
    (m : Message) (among : Has m (messages t.world)) (served : IsServedBy old.state m) (own : asks_cut_or_name m.body ≡ true) where
  abbrev Wanted : Type 0
  Wanted = Behind past (gifts k count t.world h.base.all (client m.header.from) s) t.world s m

  pub bounds : (1 ≤ m.header.from) × (m.header.from ≤ 16)
  bounds = let q = and_true (nat_le 1 m.header.from) (nat_le m.header.from 16) served.client in (leb-true 1 m.header.from q.0, leb-true m.header.from 16 q.1)

  id : old.state.id ≡ s
  id = (h.base.cuts.servers s old was).id

  found : (site : WorldClient) × (site_of t.world (client m.header.from) ≡ Some site)
  found = site_there t.world (client m.header.from) bounds.0 (h.owners.senders m among served.client)

  pub behind : Behind past (gifts k count t.world h.base.all (client m.header.from) s) t.world s m
  behind = at found.0 found.1
    where
      at : (site : WorldClient) → site_of t.world (client m.header.from) ≡ Some site → Wanted
      at site there = by site.node.running refl (same_or_not m.header.life y.0.life.0)
        where
          y : (a : Association) × Has a site.node.state.associations × (a.server ≡ world.server s.0)
          y = association_there k s.0 m.header.from site t.world.ended ((h.base.all.servers s.0 old was).ghosts m.header.from).net ((h.base.all.servers s.0 old was).both.clients m.header.from site there)

          here : y.0.server ≡ s
          here = y.2

          between : Between (client m.header.from) y.0.server m
          between = (refl, served.to ∙ ap server_node id ∙ ap server_node (sym here))

          pos : 1 ≤ m.header.number
          pos = let q = served.next in omega (arith, q)

          up : m.header.life ≤ y.0.life.0
          up = (h.base.cuts.clients (client m.header.from) site there).lives y.0 y.1 m among between

          past_here : AllPast t.world (client m.header.from) y.0.server m → ⊥
          past_here q = not_past (client m.header.from) old m served running refl (q old (ap (node_of t.world) here ∙ was))

          row_here : (op : ℕ) → Row past t.world (client m.header.from) y.0.server m op → Row past t.world (client m.header.from) s m op
          row_here op w = subst (λ (s : ServerId). Row past t.world (client m.header.from) s m op) here w

          to_here : (a : Ask) → MeansTo (gifts k count t.world h.base.all (client m.header.from) y.0.server) y.0.server a m.body → MeansTo (gifts k count t.world h.base.all (client m.header.from) s) s a m.body
          to_here a e = subst (λ (s : ServerId). MeansTo (gifts k count t.world h.base.all (client m.header.from) s) s a m.body) here e

          left : Over past (gifts k count t.world h.base.all (client m.header.from) y.0.server) t.world (client m.header.from) y.0.server site.node.state.operations m → Wanted
          left (inl q) = absurd (past_here q)
          left (inr q) = record { op = q.op; ask = q.ask; asked = q.asked; of = q.of ∙ here; means = q.means; to = to_here q.ask q.to; row = row_here q.op q.row; unsettled = q.unsettled }

          waits : AllPast t.world (client m.header.from) y.0.server m ⊎ Pending past (gifts k count t.world h.base.all (client m.header.from) y.0.server) t.world (client m.header.from) y.0.server site.node.state.operations m → Wanted
          waits (inl q) = absurd (past_here q)
          waits (inr q) =
              record {
                op = q.operation.op;
                ask = q.operation.ask;
                asked = (h.base.cuts.clients (client m.header.from) site there).asked q.operation q.there;
                of = ap (λ n. record { 0 = n }) (eqb-true (cs.server_of q.operation.ask).0 y.0.server.0 (and_true (cs.is_of y.0.server q.operation) _ q.asked).0) ∙ here;
                means = q.means;
                to = to_here q.operation.ask q.to;
                row = row_here q.operation.op q.row;
                unsettled = unsettled_past (client m.header.from) q.operation.op past (h.owners.unsaid (client m.header.from) site there q.operation q.there);
              }

          by : (b : Bool) → site.node.running ≡ b → (m.header.life ≡ y.0.life.0) ⊎ (m.header.life ≢ y.0.life.0) → Wanted
          by false w l = left (d.over (client m.header.from) site there y.0 y.1 m among between pos own (inr w))
          by true w (inr n) = left (d.over (client m.header.from) site there y.0 y.1 m among between pos own (inl (omega (arith, n, up))))
          by true w (inl l) = waits (alive k count past t h.base h.owners.owned (client m.header.from) site (record { there = there; runs = w }) y.0 y.1 m among between l pos own)
