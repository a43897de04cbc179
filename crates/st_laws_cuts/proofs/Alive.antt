-- A request to cut a file or for a name, of the present life of a client that runs: its server no longer serves it, or a pending operation
-- waits for its reply.
use Rattle.st_lemmas.proofs.Words
use Words.{◌≡◌, ◌≢◌, ◌⊎◌, ℕ, ◌≤◌, ◌<◌, zero, suc, List, true, Option, Some, None, refl, sym, ap, ◌∙◌, subst, inl, inr, arith, eqb-true, ClientId, GrantNo}
use Words.{NameAsk, Ask, Body, Message, NameOp, Request}
use Words.names
use Words.asks
use Words.bodies
use Words.ClientPasses.{name_op}
use Words.ClientState.{Association, ClientSession, asks_cut_or_name, is_of, server_of}
use Words.History.{Traced}
use Words.Safety.{Step}
use Words.Server.{ServerNode}
use Words.Sessions as sessions
use Words.World.{WorldClient, node_of}
use Words.Lists.{Has}
use Words.Lookups.{some_is}
use Words.Tables.{and_true, same_or_not}
use Words.Truth.{below_or_not}
use Rattle.st_protocol.specs.Assoc.{Config}
use Rattle.st_protocol.proofs.World.{invariant}
use Rattle.st_protocol.specs.Assoc as net
use Rattle.st_laws_refine.specs.Views.Halves.{epoch_in}
use Rattle.st_laws_refine.specs.Server.Invariants.{pairs}
use Rattle.st_laws_leases.specs.Dates.Dates.{messages}
use Rattle.st_laws_reads.specs.AllClients.Law.{Running}
use Rattle.st_laws_requests.specs.Replies.ServedRequests.{IsBehind}
use Rattle.st_laws_requests.specs.Cuts.Cuts.{Between, Numbers, Numbered, SameBody}
use Rattle.st_laws_requests.specs.Cuts.Cuts as cuts
use Rattle.st_laws_extents.specs.CutRequests.Asks.{AsksStand, Of, RemoveNamed, first_open, open_from}
use Rattle.st_laws_extents.specs.CutRequests.EndedLives.{IsPast}
use Rattle.st_laws_extents.specs.CutRequests.Law.{gifts}
use Rattle.st_laws_extents.specs.CutRequests.World.{IsServed}
use Rattle.st_laws_extents.proofs.CutRequests.Law.{Hold}
use Rattle.st_laws_extents.proofs.CutRequests.Standing.{whole}
use Rattle.st_laws_cuts.specs.Owners.{AllOwned, Means, MeansCut, MeansName, Owned, OwnedBy, Owner, view}
use Rattle.st_laws_cuts.specs.EndedRequests.{AllPast, IsPending, MeansGrant, MeansOf, MeansTo}
use Rattle.st_laws_extents.proofs.CutRequests.EndedLives.{behind_less}

module _ (k : Config) (count : ℕ) (past : List Step) (t : Traced) (h : Hold k count past t) (owned : AllOwned t.world)
    (c : ClientId) (site : WorldClient) (run : Running t.world c.0 site) (a : Association) (i : Has a site.node.state.associations)
    (m : Message) (among : Has m (messages t.world)) (between : Between c a.server m) (life : m.header.life ≡ a.life.0) (pos : 1 ≤ m.header.number) (own : asks_cut_or_name m.body ≡ true) where
  abbrev G : ℕ → GrantNo → Type 0
  G = gifts k count t.world h.all c a.server

  abbrev Result : Type 0
  Result = AllPast t.world c a.server m ⊎ IsPending (gifts k count t.world h.all c a.server) a.server site.node.state.operations m

  module _ (x : ClientSession) (sess : a.session ≡ Some x) (n : Numbered x.epoch.0 x.requests m) where
    stands : AsksStand (IsServed t.world c) (gifts k count t.world h.all c) a.server a.life.0 x.epoch.0 x.requests x.cutting x.due
    stands = subst (Of (AsksStand (IsServed t.world c) (gifts k count t.world h.all c)) a.server a.life.0) sess (h.asks c site run.there a i)

    -- the server is in no earlier epoch
    ahead : (node : ServerNode) → node_of t.world a.server ≡ Some node → x.epoch.0 ≤ node.state.stable.epoch.0
    ahead node at =
        let z = h.all.servers a.server.0 node at in
        let q = (invariant k (pairs a.server.0 z.ended t.world node z.ghosts) h.all.sound z.both.stands.reached c.0).timing_.ahead in
        let e = ap (λ (y : net.Client). y.epoch) (whole k count t.world h.all a.server.0 node at c.0 site run a i refl) ∙ ap epoch_in sess in
        omega (arith, q, e)

    -- of an earlier epoch of the session
    earlier : m.header.epoch ≢ x.epoch.0 → AllPast t.world c a.server m
    earlier ne = λ node at. inl (let y = n.up_to in let z = ahead node at in omega (arith, y, z, ne))

    -- under a number that was ended
    ended : m.header.epoch ≡ x.epoch.0 → m.header.number < first_open x.requests → AllPast t.world c a.server m
    ended e l = λ node at. go node at (same_or_not x.epoch.0 node.state.stable.epoch.0)
      where
        go : (node : ServerNode) → node_of t.world a.server ≡ Some node → (x.epoch.0 ≡ node.state.stable.epoch.0) ⊎ (x.epoch.0 ≢ node.state.stable.epoch.0) → IsPast c node m
        go node at (inr ne) = inl (let z = ahead node at in omega (arith, z, ne, e))
        go node at (inl q) = inr (e ∙ q, λ r. subst (λ l. IsBehind (sessions.session_of node.state.sessions c) l m.header.number) (sym life) (by (first_open x.requests) refl r))
          where
            by : (f : ℕ) → first_open x.requests ≡ f → node.running ≡ true → IsBehind (sessions.session_of node.state.sessions c) a.life.0 m.header.number
            by zero f r = absurd (omega (arith, f, l))
            by (suc j) f r = behind_less (sessions.session_of node.state.sessions c) a.life.0 j m.header.number (omega (arith, f, l)) ((stands.served node at j (omega (arith, f, l, pos)) (omega (arith, f))).behind r q)

    -- the outstanding request
    of_grant : (cutting : Option ℕ) (n : NameAsk) (g : GrantNo) → RemoveNamed G cutting (bodies.Name (name_op n g)) → MeansCut n cutting g → MeansOf G n g
    of_grant cutting (names.Remove dir y ino) g r e = λ l. let q = r l in subst (λ j. G j g) (some_is (sym q.1 ∙ e l)) q.2
    of_grant cutting n g r e = tt

    remove_to : (cutting : Option ℕ) (n : NameAsk) (op : NameOp) → RemoveNamed G cutting (bodies.Name op) → MeansName n cutting op → MeansGrant G n op
    remove_to cutting n op r e = record { g = e.g; is = e.is; none = e.none; of = of_grant cutting n e.g (subst (λ z. RemoveNamed G cutting (bodies.Name z)) e.is r) e.cut }

    pub means_to : (ask : Ask) (b : Body) → server_of ask ≡ a.server → RemoveNamed G x.cutting b → Means ask x.cutting b → MeansTo G a.server ask b
    means_to (asks.Cut f p) (bodies.Cut ino g q) s r e = (s, e.0, e.1)
    means_to (asks.Name sv n) (bodies.Name op) s r e = (s, remove_to x.cutting n op r e)
    means_to ask b s r e = absurd e

    last : m.header.epoch ≡ x.epoch.0 → first_open x.requests ≤ m.header.number → (o : Option Request) → x.requests.asked ≡ o → Result
    last e l None asked = absurd (let y = n.below e in let z = subst (λ o. open_from x.requests.next o ≤ m.header.number) asked l in omega (arith, y, z))
    last e l (Some q) asked = inr (pending (owner (subst (λ b. asks_cut_or_name b ≡ true) same own)))
      where
        same : m.body ≡ q.body
        same = subst (λ o. SameBody o m) asked (n.same e) (let y = n.below e in let z = subst (λ o. open_from x.requests.next o ≤ m.header.number) asked l in let s = stands.last q asked in omega (arith, y, z, s))

        owner : OwnedBy a.server x.cutting site.node.state.operations (Some q)
        owner = subst (OwnedBy a.server x.cutting site.node.state.operations) asked (subst (λ o. Owned a.server (view o) site.node.state.operations) sess (owned c site run.there a i))

        pending : Owner a.server x.cutting q.body site.node.state.operations → IsPending (gifts k count t.world h.all c a.server) a.server site.node.state.operations m
        pending z =
            record {
              operation = z.operation;
              there = z.there;
              asked = z.asked;
              means = subst (MeansTo G a.server z.operation.ask) (sym same)
                  (means_to z.operation.ask q.body (ap (λ n. record { 0 = n }) (eqb-true (server_of z.operation.ask).0 a.server.0 (and_true (is_of a.server z.operation) _ z.asked).0)) (stands.remove q asked) z.means);
            }

    whole_session : Result
    whole_session = go (same_or_not m.header.epoch x.epoch.0)
      where
        by : m.header.epoch ≡ x.epoch.0 → (m.header.number < first_open x.requests) ⊎ (first_open x.requests ≤ m.header.number) → Result
        by e (inl l) = inl (ended e l)
        by e (inr l) = last e l x.requests.asked refl

        go : (m.header.epoch ≡ x.epoch.0) ⊎ (m.header.epoch ≢ x.epoch.0) → Result
        go (inl e) = by e (below_or_not m.header.number (first_open x.requests))
        go (inr ne) = inl (earlier ne)

  pub alive : AllPast t.world c a.server m ⊎ IsPending (gifts k count t.world h.all c a.server) a.server site.node.state.operations m
  alive = by a.session refl
    where
      numbers : Numbers (λ m. Has m (messages t.world)) c a.server a.life.0 (cuts.view a.session)
      numbers = ((h.cuts.clients c site run.there).all run.runs a i).numbers

      by : (o : Option ClientSession) → a.session ≡ o → Result
      by None e = let z = (subst (λ o. Numbers (λ m. Has m (messages t.world)) c a.server a.life.0 (cuts.view o)) e numbers).placed m among between life in absurd (omega (arith, z, pos))
      by (Some x) e = whole_session x e ((subst (λ o. Numbers (λ m. Has m (messages t.world)) c a.server a.life.0 (cuts.view o)) e numbers).placed m among between life pos)
