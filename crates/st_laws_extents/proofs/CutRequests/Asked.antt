-- A cut is asked: the request that a server serves is the one that is outstanding at the only client that has the file.
use Rattle.st_lemmas.proofs.Words
use Words.{◌≡◌, ◌≢◌, ◌⊎◌, ℕ, ◌≤◌, List, Option, Some, None, refl, sym, ap, ◌∙◌, subst, inl, inr, arith, FileId, PageNo, Body, Message, Request}
use Words.nodes
use Words.bodies
use Words.ops
use Words.ClientState.{Association, ClientSession}
use Words.Keys.{client, page_no, server_node}
use Words.Locks.{row_of}
use Words.History.{Traced}
use Words.Safety.{Step}
use Words.Sessions as sessions
use Words.World.{WorldClient, clock_of}
use Words.Lists.{Has}
use Words.Tables.{same_or_not}
use Rattle.st_base.specs.Mode.{number_of}
use Rattle.st_protocol.specs.Assoc.{Config}
use Rattle.st_laws_refine.specs.Views.Halves.{held_in}
use Rattle.st_laws_refine.specs.Client.Invariants.{Lasts}
use Rattle.st_laws_leases.specs.Sides.World.{AllStand}
use Rattle.st_laws_steps.specs.Client.Session.{cuts_from}
use Rattle.st_laws_reads.specs.AllClients.CutFiles.{Cuts}
use Rattle.st_laws_reads.specs.AllClients.Law.{Running}
use Rattle.st_laws_reads.proofs.AllClients.Cutting.{unheld}
use Rattle.st_laws_requests.specs.Cuts.Cuts.{CutsHold}
use Rattle.st_laws_extents.specs.CutRequests.Asks.{AsksStand, CutNamed, Of, RemoveNamed}
use Rattle.st_laws_extents.specs.CutRequests.Cut.{AsksCut, CutIn}
use Rattle.st_laws_extents.specs.CutRequests.Law.{gifts}
use Rattle.st_laws_extents.specs.CutRequests.FreshRequests.{FreshAt, IsOutstanding}
use Rattle.st_laws_extents.proofs.CutRequests.Fresh.{is_outstanding}
use Rattle.st_laws_extents.specs.CutRequests.NamedGrants.{Given}
use Rattle.st_laws_extents.specs.CutRequests.World.{AllAsk, IsServed}
use Rattle.st_laws_extents.proofs.CutRequests.Standing.{given_row, named}

module _ (k : Config) (count : ℕ) (past : List Step) (t : Traced) (cuts : CutsHold past t) (all : AllStand k count t.world) (asks : AllAsk (gifts k count t.world all) t.world) (f : FileId) (p : PageNo) (c : CutIn t.world f p) where
  abbrev m : Message
  m = c.message

  module _ (d : ℕ) (site : WorldClient) (run : Running t.world d site) (b : Association) (h : Has b site.node.state.associations) (e : f.server ≡ b.server)
      (lasts : Lasts site.node.state.config.lease (clock_of t.world (nodes.Client (client d))).0 b.session) (held : 1 ≤ (held_in b.session f.ino).mode) where
    two : 2 ≤ number_of c.by.row.mode
    two = let q = ap number_of c.by.exclusive in omega (arith, q)

    -- the client that has the file is the one that asked
    who : m.header.from ≡ d
    who = go (same_or_not c.message.header.from d)
      where
        go : (c.message.header.from ≡ d) ⊎ (c.message.header.from ≢ d) → c.message.header.from ≡ d
        go (inl q) = q
        go (inr n) = let z = unheld k count t.world all f.server.0 c.node c.there c.running c.message.header.from d f.ino n c.by.row c.by.found two site run b h (sym e) lasts in absurd (omega (arith, z, held))

    found : row_of c.node.state.locks (client d) f.ino ≡ Some c.by.row
    found = subst (λ n. row_of c.node.state.locks (client n) f.ino ≡ Some c.by.row) who c.by.found

    -- with the session that it has
    module _ (x : ClientSession) (sess : b.session ≡ Some x) where
      stands : AsksStand (IsServed t.world (client d)) (gifts k count t.world all (client d)) b.server b.life.0 x.epoch.0 x.requests x.cutting x.due
      stands = subst (Of (AsksStand (IsServed t.world (client d)) (gifts k count t.world all (client d))) b.server b.life.0) sess (asks (client d) site run.there b h)

      -- the request that is served is the outstanding one
      same : IsOutstanding x c.message
      same = is_outstanding k count past t cuts all asks f.server c.message fresh site (subst (λ n. Running t.world n site) (sym who) run) b h (sym e) x sess
          (subst (λ n. Lasts site.node.state.config.lease (clock_of t.world (nodes.Client (client n))).0 b.session) (sym who) lasts)
        where
          fresh : FreshAt t.world f.server c.message
          fresh = record { node = c.node; there = c.there; running = c.running; among = c.among; to = c.by.to ∙ ap server_node (sym c.by.server); of_epoch = c.by.of_epoch; session = c.by.session; is = c.by.is; of_life = c.by.of_life; last = c.by.last; reply = c.by.reply; state = c.by.state; next = c.by.next }

      -- and its file is the one that is being cut
      named_file : (q : Request) → x.requests.asked ≡ Some q → (body : Body) → q.body ≡ body → AsksCut body f.ino p c.by.row.g → CutNamed x.cutting body → RemoveNamed (gifts k count t.world all (client d) b.server) x.cutting body →
          (r : PageNo) × Cuts b.session f.ino r × (r.0 ≤ p.0)
      named_file q a (bodies.Cut ino g from) i y n r =
          (p, record { session = x; is = sess; request = q; asked = a; from = ap cuts_from i ∙ ap Some y.1; cutting = n ∙ ap Some y.0 }, omega arith)
      named_file q a (bodies.Name (ops.Remove dir name g)) i y n r =
          (page_no 0, record { session = x; is = sess; request = q; asked = a; from = ap cuts_from i; cutting = file.1 ∙ ap Some ino }, omega arith)
        where
          row : Given ((all.servers f.server.0 c.node c.there).ghosts d).net f.ino g.0
          row = subst (Given ((all.servers f.server.0 c.node c.there).ghosts d).net f.ino) (sym y.1) (given_row k count t.world all f.server.0 c.node c.there d f.ino c.by.row found (omega (arith, two)))

          one : 1 ≤ g.0
          one = (named k count t.world all f.server.0 c.node c.there d).net.positive f.ino g.0 row

          file : (ino : ℕ) × (x.cutting ≡ Some ino) × gifts k count t.world all (client d) f.server ino g
          file = let z = r one in (z.0, z.1, subst (λ s. gifts k count t.world all (client d) s z.0 g) (sym e) z.2)

          ino : file.0 ≡ f.ino
          ino = (named k count t.world all f.server.0 c.node c.there d).net.one file.0 f.ino g.0 (file.2 c.node c.there) row
      named_file q a body i y n r = absurd y

      asked : (r : PageNo) × Cuts b.session f.ino r × (r.0 ≤ p.0)
      asked = named_file same.request same.asked same.request.body refl (subst (λ y. AsksCut y f.ino p c.by.row.g) same.body c.by.asks) (stands.cut same.request same.asked) (stands.remove same.request same.asked)

    pub is_asked : (r : PageNo) × Cuts b.session f.ino r × (r.0 ≤ p.0)
    is_asked = go b.session refl held
      where
        go : (o : Option ClientSession) → b.session ≡ o → 1 ≤ (held_in o f.ino).mode → (r : PageNo) × Cuts b.session f.ino r × (r.0 ≤ p.0)
        go None q y = absurd (omega (arith, y))
        go (Some x) q y = asked x q
