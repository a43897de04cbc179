-- A message that a server serves, to cut a file or for a name: it comes from an ask that was not settled.
use Rattle.st_lemmas.proofs.Words
use Words.{◌≡◌, ◌≢◌, ◌⊎◌, ℕ, ◌≤◌, zero, suc, Bool, true, false, List, ◌∷◌, Some, refl, sym, ap, ◌∙◌, subst, inl, inr, arith, length, nat_le, list_any}
use Words.{leb-true, ClientId, GrantNo, ServerId, Ask, Body}
use Words.ClientState.{Association, asks_cut_or_name}
use Words.Extents.{numbers}
use Words.History.{Traced}
use Words.Keys.{client, server_node}
use Words.Safety.{Step}
use Words.Sessions as sessions
use Words.World.{WorldClient, all_clients, numbered, server, site_of}
use Words.Lists.{Has}
use Words.Tables.{and_true, has_map_in, same_or_not}
use Words.Members.{between_in_numbers, has_right}
use Words.Worlds.{site_there}
use Rattle.st_protocol.specs.Assoc.{Config}
use Rattle.st_laws_refine.specs.Client.Law.{Place}
use Rattle.st_laws_leases.specs.Sides.Invariants.{Standing}
use Rattle.st_laws_requests.specs.Replies.ServedRequests.{IsBehind, Reached}
use Rattle.st_laws_requests.specs.Cuts.Cuts.{Between, asks_of}
use Rattle.st_laws_extents.specs.CutRequests.EndedLives.{IsPast}
use Rattle.st_laws_extents.specs.CutRequests.Law.{gifts}
use Rattle.st_laws_extents.proofs.CutRequests.Law.{Hold}
use Rattle.st_promises.specs.CutAsks.{numbered_asks, settles_in}
use Rattle.st_laws_cuts.specs.ServedRequests.{IsServedAt}
use Rattle.st_laws_cuts.specs.EndedRequests.{AllPast, IsPending, MeansTo, Over}
use Rattle.st_laws_cuts.proofs.Alive.{alive}
use Rattle.st_laws_cuts.proofs.Words.{under_has, unsettled_past}
use Rattle.st_laws_cuts.proofs.World.{OwnersHold}

-- its association with a server
pub association_there : (k : Config) (s c : ℕ) (site : WorldClient) (es : List Rattle.st_rules.specs.declared.world.LeaseLife.LeaseLife) (N : List Rattle.st_protocol.specs.Assoc.Msg) → Standing k s c site es N → (a : Association) × Has a site.node.state.associations × (a.server ≡ server s)
association_there k s c site es N z = (z.association, subst (Has z.association) (sym p.is) (has_right p.before (z.association ∷ p.after) z.association (inl refl)), p.here)
  where
    p : Place (server s) site.node.state.associations z.association
    p = z.sim.place

-- the ask that led to a message and was not settled
pub record OpenAsk (past : List Step) (G : ℕ → GrantNo → Type 0) (c : ClientId) (s : ServerId) (body : Body) : Type 0 where
  pub op : ℕ
  pub ask : Ask
  pub asked : numbered (asks_of past c) op ≡ Some ask
  pub means : MeansTo G s ask body
  pub unsettled : list_any (settles_in c op) past ≡ false

module _ (k : Config) (count : ℕ) (past : List Step) (t : Traced) (h : Hold k count past t) (d : OwnersHold past (gifts k count t.world h.all) t.world) (s : ServerId) (z : IsServedAt t.world s) (own : asks_cut_or_name z.message.body ≡ true) where
  pub bounds : (1 ≤ z.message.header.from) × (z.message.header.from ≤ 16)
  bounds = let q = and_true (nat_le 1 z.message.header.from) (nat_le z.message.header.from 16) z.by.client in (leb-true 1 z.message.header.from q.0, leb-true z.message.header.from 16 q.1)

  -- a message that is served is not past
  not_past : AllPast t.world (client z.message.header.from) s z.message → ⊥
  not_past k = by (k z.node z.there)
    where
      served : IsBehind (sessions.session_of z.node.state.sessions (client z.message.header.from)) z.message.header.life z.message.header.number → ⊥
      served b = go (subst (λ o. IsBehind o z.message.header.life z.message.header.number) z.by.is b)
        where
          go : IsBehind (Some z.by.session) z.message.header.life z.message.header.number → ⊥
          go (inl l) = let y = z.by.of_life in omega (arith, y, l)
          go (inr l) = let y = subst (Reached z.message.header.number) z.by.state l.1 in let q = z.by.next in omega (arith, y, q)

      by : IsPast (client z.message.header.from) z.node z.message → ⊥
      by (inl l) = let y = z.by.of_epoch in omega (arith, y, l)
      by (inr q) = served (q.1 z.running)

  abbrev Wanted : Type 0
  Wanted = OpenAsk past (gifts k count t.world h.all (client z.message.header.from) s) (client z.message.header.from) s z.message.body

  found : (site : WorldClient) × (site_of t.world (client z.message.header.from) ≡ Some site)
  found = site_there t.world (client z.message.header.from) bounds.0 (d.senders z.message z.among z.by.client)

  -- an ask that is open
  pub is_open : OpenAsk past (gifts k count t.world h.all (client z.message.header.from) s) (client z.message.header.from) s z.message.body
  is_open = at found.0 found.1
    where
      at : (site : WorldClient) → site_of t.world (client z.message.header.from) ≡ Some site → Wanted
      at site there = by site.node.running refl (same_or_not z.message.header.life y.0.life.0)
        where
          y : (a : Association) × Has a site.node.state.associations × (a.server ≡ server s.0)
          y = association_there k s.0 z.message.header.from site t.world.ended ((h.all.servers s.0 z.node z.there).ghosts z.message.header.from).net ((h.all.servers s.0 z.node z.there).both.clients z.message.header.from site there)

          here : y.0.server ≡ s
          here = y.2

          between : Between (client z.message.header.from) y.0.server z.message
          between = (refl, z.by.to ∙ ap server_node (sym z.server) ∙ ap server_node (sym here))

          pos : 1 ≤ z.message.header.number
          pos = let q = z.by.next in omega (arith, q)

          up : z.message.header.life ≤ y.0.life.0
          up = (h.cuts.clients (client z.message.header.from) site there).lives y.0 y.1 z.message z.among between

          past_here : AllPast t.world (client z.message.header.from) y.0.server z.message → ⊥
          past_here q = not_past (subst (λ (s : ServerId). AllPast t.world (client z.message.header.from) s z.message) here q)

          means_here : (a : Ask) → MeansTo (gifts k count t.world h.all (client z.message.header.from) y.0.server) y.0.server a z.message.body → MeansTo (gifts k count t.world h.all (client z.message.header.from) s) s a z.message.body
          means_here a e = subst (λ (s : ServerId). MeansTo (gifts k count t.world h.all (client z.message.header.from) s) s a z.message.body) here e

          left : Over past (gifts k count t.world h.all (client z.message.header.from) y.0.server) t.world (client z.message.header.from) y.0.server site.node.state.operations z.message → Wanted
          left (inl q) = absurd (past_here q)
          left (inr q) = record { op = q.op; ask = q.ask; asked = q.asked; means = means_here q.ask q.means; unsettled = q.unsettled }

          waits : AllPast t.world (client z.message.header.from) y.0.server z.message ⊎ IsPending (gifts k count t.world h.all (client z.message.header.from) y.0.server) y.0.server site.node.state.operations z.message → Wanted
          waits (inl q) = absurd (past_here q)
          waits (inr q) =
              record {
                op = q.operation.op;
                ask = q.operation.ask;
                asked = (h.cuts.clients (client z.message.header.from) site there).asked q.operation q.there;
                means = means_here q.operation.ask q.means;
                unsettled = unsettled_past (client z.message.header.from) q.operation.op past (d.unsaid (client z.message.header.from) site there q.operation q.there);
              }

          by : (b : Bool) → site.node.running ≡ b → (z.message.header.life ≡ y.0.life.0) ⊎ (z.message.header.life ≢ y.0.life.0) → Wanted
          by false r l = left (d.over (client z.message.header.from) site there y.0 y.1 z.message z.among between pos own (inr r))
          by true r (inr n) = left (d.over (client z.message.header.from) site there y.0 y.1 z.message z.among between pos own (inl (omega (arith, n, up))))
          by true r (inl l) = waits (alive k count past t h d.owned (client z.message.header.from) site (record { there = there; runs = r }) y.0 y.1 z.message z.among between l pos own)

  -- among the asks of the client
  pub under : (op : ℕ) (a : Ask) → numbered (asks_of past (client z.message.header.from)) op ≡ Some a → Has (op, a) (numbered_asks past (client z.message.header.from))
  under zero a q = let y = (Rattle.st_lemmas.proofs.Numbers.numbered_below (asks_of past (client z.message.header.from)) 0 a q).0 in absurd (omega (arith, y))
  under (suc n) a q = subst (λ j. Has (j, a) (numbered_asks past (client z.message.header.from))) (omega arith) (under_has 1 (asks_of past (client z.message.header.from)) n a q)

  -- and the client among those of the world
  pub among : Has (client z.message.header.from) (all_clients t.world)
  among = has_map_in client (numbers 1 (length t.world.clients)) z.message.header.from (between_in_numbers 1 (length t.world.clients) z.message.header.from bounds.0 (let q = d.senders z.message z.among z.by.client in omega (arith, q)))
