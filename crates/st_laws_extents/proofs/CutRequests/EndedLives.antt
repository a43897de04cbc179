-- The messages of a life to which its client does not come back cut no file that was not being cut.
use Rattle.st_lemmas.proofs.Words
use Words.{◌≡◌, ◌≢◌, ◌⊎◌, ℕ, ◌≤◌, ◌<◌, zero, suc, true, List, Option, Some, None, refl, sym, ap, ◌∙◌, subst, inl, inr, arith, ClientId, FileId, GrantNo, PageNo}
use Words.{ServerId, Body, Message, Request, Session, SessionState}
use Words.bodies
use Words.ops
use Words.states
use Words.ClientState.{Association, ClientSession}
use Words.History.{Traced}
use Words.Keys.{client, page_no, server_node}
use Words.Safety.{Step}
use Words.Server.{ServerNode}
use Words.Sessions as sessions
use Words.World.{World, WorldClient, node_of}
use Words.Lists.{Has}
use Words.Tables.{same_or_not}
use Words.Truth.{below_or_not}
use Rattle.st_base.specs.Mode.{number_of}
use Rattle.st_protocol.specs.Assoc.{Config}
use Rattle.st_protocol.proofs.World.{invariant}
use Rattle.st_protocol.specs.Assoc as net
use Rattle.st_laws_refine.specs.Views.Halves.{epoch_in}
use Rattle.st_laws_leases.specs.Dates.Dates.{messages}
use Rattle.st_laws_leases.specs.Sides.World.{AllStand}
use Rattle.st_laws_refine.specs.Server.Invariants.{pairs}
use Rattle.st_laws_steps.specs.Client.Session.{cuts_from}
use Rattle.st_laws_reads.specs.AllClients.CutFiles.{Cuts}
use Rattle.st_laws_reads.specs.AllClients.Law.{Running}
use Rattle.st_laws_requests.specs.Replies.ServedRequests.{IsBehind, Reached}
use Rattle.st_laws_requests.specs.Cuts.Cuts.{CutsHold, Numbers, Numbered, SameBody, view}
use Rattle.st_laws_extents.specs.CutRequests.Asks.{AsksStand, CutNamed, Of, RemoveNamed, first_open, open_from}
use Rattle.st_laws_extents.specs.CutRequests.Cut.{AsksCut, CutIn}
use Rattle.st_laws_extents.specs.CutRequests.EndedLives.{Besides, Elsewhere, Goes, Harmless, IsPast, LifeHarmless, NodeGoes, Past, SentBy, Unnumbered}
use Rattle.st_laws_extents.specs.CutRequests.Law.{gifts}
use Rattle.st_laws_extents.specs.CutRequests.NamedGrants.{Given}
use Rattle.st_laws_extents.specs.CutRequests.World.{AllAsk, IsServed}
use Rattle.st_laws_extents.proofs.CutRequests.Standing.{given_row, named, whole}

-- a session that reached a number reached those below it
pub behind_less : (o : Option Session) (life k j : ℕ) → j ≤ k → IsBehind o life k → IsBehind o life j
behind_less None life k j l h = h
behind_less (Some s) life k j l (inl h) = inl h
behind_less (Some s) life k j l (inr h) = inr (h.0, go s.state h.1)
  where
    go : (x : SessionState) → Reached k x → Reached j x
    go (states.Live last reply) r = omega (arith, l, r)
    go states.Ended r = tt

-- A client that runs, and a file of a server that it does not cut: no message of its life cuts the file later on.
module _ (k : Config) (count : ℕ) (past : List Step) (t : Traced) (cuts : CutsHold past t) (all : AllStand k count t.world) (asks : AllAsk (gifts k count t.world all) t.world)
    (c : ClientId) (site : WorldClient) (run : Running t.world c.0 site) (a : Association) (i : Has a site.node.state.associations) (ino : ℕ) (uncut : (p : PageNo) → Cuts a.session ino p → ⊥) where
  module _ (x : ClientSession) (sess : a.session ≡ Some x) (m : Message) (n : Numbered x.epoch.0 x.requests m) (life : m.header.life ≡ a.life.0) (pos : 1 ≤ m.header.number) where
    stands : AsksStand (IsServed t.world c) (gifts k count t.world all c) a.server a.life.0 x.epoch.0 x.requests x.cutting x.due
    stands = subst (Of (AsksStand (IsServed t.world c) (gifts k count t.world all c)) a.server a.life.0) sess (asks c site run.there a i)

    -- the server is in no earlier epoch
    ahead : (node : ServerNode) → node_of t.world a.server ≡ Some node → x.epoch.0 ≤ node.state.stable.epoch.0
    ahead node at =
        let z = all.servers a.server.0 node at in
        let q = (invariant k (pairs a.server.0 z.ended t.world node z.ghosts) all.sound z.both.stands.reached c.0).timing_.ahead in
        let e = ap (λ (y : net.Client). y.epoch) (whole k count t.world all a.server.0 node at c.0 site run a i refl) ∙ ap epoch_in sess in
        omega (arith, q, e)

    -- of an earlier epoch of the session
    earlier : m.header.epoch ≢ x.epoch.0 → Harmless (gifts k count t.world all c a.server) t.world c a.server ino m
    earlier ne = Past (λ node at. inl (let y = n.up_to in let z = ahead node at in omega (arith, y, z, ne)))

    -- under a number that was ended
    ended : m.header.epoch ≡ x.epoch.0 → m.header.number < first_open x.requests → Harmless (gifts k count t.world all c a.server) t.world c a.server ino m
    ended e l = Past (λ node at. go node at (same_or_not x.epoch.0 node.state.stable.epoch.0))
      where
        go : (node : ServerNode) → node_of t.world a.server ≡ Some node → (x.epoch.0 ≡ node.state.stable.epoch.0) ⊎ (x.epoch.0 ≢ node.state.stable.epoch.0) → IsPast c node m
        go node at (inr ne) = inl (let z = ahead node at in omega (arith, z, ne, e))
        go node at (inl q) = inr (e ∙ q, λ r. subst (λ l. IsBehind (sessions.session_of node.state.sessions c) l m.header.number) (sym life) (by (first_open x.requests) refl r))
          where
            by : (f : ℕ) → first_open x.requests ≡ f → node.running ≡ true → IsBehind (sessions.session_of node.state.sessions c) a.life.0 m.header.number
            by zero f r = absurd (omega (arith, f, l))
            by (suc j) f r = behind_less (sessions.session_of node.state.sessions c) a.life.0 j m.header.number (omega (arith, f, l)) ((stands.served node at j (omega (arith, f, l, pos)) (omega (arith, f))).behind r q)

    -- the outstanding request is of another file
    other : (q : Request) → x.requests.asked ≡ Some q → (b : Body) → q.body ≡ b → CutNamed x.cutting b → RemoveNamed (gifts k count t.world all c a.server) x.cutting b → Elsewhere (gifts k count t.world all c a.server) ino b
    other q asked (bodies.Cut j g from) is n r = λ e. uncut from (record { session = x; is = sess; request = q; asked = asked; from = ap cuts_from is; cutting = n ∙ ap Some e })
    other q asked (bodies.Name (ops.Remove dir name g)) is n r = go g.0 refl
      where
        go : (v : ℕ) → g.0 ≡ v → (g.0 ≡ 0) ⊎ ((j : ℕ) × gifts k count t.world all c a.server j g × (j ≢ ino))
        go zero e = inl e
        go (suc v) e = let z = r (omega (arith, e)) in
            inr (z.0, z.2, λ f. uncut (page_no 0) (record { session = x; is = sess; request = q; asked = asked; from = ap cuts_from is; cutting = z.1 ∙ ap Some f }))
    other q asked b is n r = tt

    last : m.header.epoch ≡ x.epoch.0 → first_open x.requests ≤ m.header.number → (o : Option Request) → x.requests.asked ≡ o → Harmless (gifts k count t.world all c a.server) t.world c a.server ino m
    last e l None asked = absurd (let y = n.below e in let z = subst (λ o. open_from x.requests.next o ≤ m.header.number) asked l in omega (arith, y, z))
    last e l (Some q) asked = Besides (subst (Elsewhere (gifts k count t.world all c a.server) ino) (sym same) (other q asked q.body refl (stands.cut q asked) (stands.remove q asked)))
      where
        same : m.body ≡ q.body
        same = subst (λ o. SameBody o m) asked (n.same e) (let y = n.below e in let z = subst (λ o. open_from x.requests.next o ≤ m.header.number) asked l in let s = stands.last q asked in omega (arith, y, z, s))

    whole_session : Harmless (gifts k count t.world all c a.server) t.world c a.server ino m
    whole_session = go (same_or_not m.header.epoch x.epoch.0)
      where
        by : m.header.epoch ≡ x.epoch.0 → (m.header.number < first_open x.requests) ⊎ (first_open x.requests ≤ m.header.number) → Harmless (gifts k count t.world all c a.server) t.world c a.server ino m
        by e (inl l) = ended e l
        by e (inr l) = last e l x.requests.asked refl

        go : (m.header.epoch ≡ x.epoch.0) ⊎ (m.header.epoch ≢ x.epoch.0) → Harmless (gifts k count t.world all c a.server) t.world c a.server ino m
        go (inl e) = by e (below_or_not m.header.number (first_open x.requests))
        go (inr ne) = earlier ne

  pub harmless : LifeHarmless (gifts k count t.world all c a.server) t.world c a.server a.life.0 ino
  harmless m h from to life = go m.header.number refl
    where
      numbers : Numbers (λ m. Has m (messages t.world)) c a.server a.life.0 (view a.session)
      numbers = ((cuts.clients c site run.there).all run.runs a i).numbers

      by : (o : Option ClientSession) → a.session ≡ o → 1 ≤ m.header.number → Harmless (gifts k count t.world all c a.server) t.world c a.server ino m
      by None e pos = Unnumbered ((subst (λ o. Numbers (λ m. Has m (messages t.world)) c a.server a.life.0 (view o)) e numbers).placed m h (from, to) life)
      by (Some x) e pos = whole_session x e m ((subst (λ o. Numbers (λ m. Has m (messages t.world)) c a.server a.life.0 (view o)) e numbers).placed m h (from, to) life pos) life pos

      go : (n : ℕ) → m.header.number ≡ n → Harmless (gifts k count t.world all c a.server) t.world c a.server ino m
      go zero e = Unnumbered e
      go (suc n) e = by a.session refl (omega (arith, e))

-- What is harmless stays harmless.
pub past_stays : (c : ClientId) (n p : ServerNode) (m : Message) → NodeGoes n p → IsPast c n m → IsPast c p m
past_stays c n p m g (inl l) = inl (let y = g.up in omega (arith, y, l))
past_stays c n p m g (inr e) = go (same_or_not n.state.stable.epoch.0 p.state.stable.epoch.0)
  where
    go : (n.state.stable.epoch.0 ≡ p.state.stable.epoch.0) ⊎ (n.state.stable.epoch.0 ≢ p.state.stable.epoch.0) → IsPast c p m
    go (inl q) = inr (e.0 ∙ q, λ run. let z = g.on run q in z.1 c m.header.life m.header.number (e.1 z.0))
    go (inr ne) = inl (let y = g.up in let z = e.0 in omega (arith, y, z, ne))

elsewhere_more : (G H : ℕ → GrantNo → Type 0) → ((i : ℕ) (g : GrantNo) → G i g → H i g) → (ino : ℕ) (b : Body) → Elsewhere G ino b → Elsewhere H ino b
elsewhere_more G H f ino (bodies.Cut i g from) e = e
elsewhere_more G H f ino (bodies.Name (ops.Remove dir name g)) (inl e) = inl e
elsewhere_more G H f ino (bodies.Name (ops.Remove dir name g)) (inr e) = inr (e.0, f e.0 g e.1, e.2)
elsewhere_more G H f ino b e = tt

pub harmless_stays : (G H : ℕ → GrantNo → Type 0) → ((i : ℕ) (g : GrantNo) → G i g → H i g) → (w v : World) → Goes w v → (c : ClientId) (s : ServerId) (ino : ℕ) (m : Message) → Harmless G w c s ino m → Harmless H v c s ino m
harmless_stays G H f w v g c s ino m (Unnumbered e) = Unnumbered e
harmless_stays G H f w v g c s ino m (Past e) = Past (λ p at. let z = g.nodes s p at in past_stays c z.0 p m z.2 (e z.0 z.1))
harmless_stays G H f w v g c s ino m (Besides e) = Besides (elsewhere_more G H f ino m.body e)

-- a client's life that is over, or is not that of an association: nothing more is sent in it
pub life_stays : (G H : ℕ → GrantNo → Type 0) → ((i : ℕ) (g : GrantNo) → G i g → H i g) → (w v : World) → Goes w v → (c : ClientId) (s : ServerId) (life ino : ℕ) → c.0 ≤ 16 →
    ((m : Message) → m.header.from ≡ c.0 → m.header.to ≡ server_node s → m.header.life ≡ life → SentBy w m → ⊥) → LifeHarmless G w c s life ino → LifeHarmless H v c s life ino
life_stays G H f w v g c s life ino few none h m i from to its = go (g.messages m i)
  where
    go : Has m (messages w) ⊎ (((x : ServerId) × (m.header.from ≡ server_node x)) ⊎ SentBy w m) → Harmless H v c s ino m
    go (inl j) = harmless_stays G H f w v g c s ino m (h m j from to its)
    go (inr (inl x)) = let e = x.1 in absurd (omega (arith, e, from, few))
    go (inr (inr x)) = absurd (none m from to its x)

-- A cut is of no such message.
pub no_cut : (k : Config) (count : ℕ) (w : World) (all : AllStand k count w) (f : FileId) (p : PageNo) (c : CutIn w f p) → LifeHarmless (gifts k count w all (client c.message.header.from) f.server) w (client c.message.header.from) f.server c.message.header.life f.ino → ⊥
no_cut k count w all f p c h = go (h c.message c.among refl (c.by.to ∙ ap server_node (sym c.by.server)) refl)
  where
    two : 2 ≤ number_of c.by.row.mode
    two = let q = ap number_of c.by.exclusive in omega (arith, q)

    row : Given ((all.servers f.server.0 c.node c.there).ghosts c.message.header.from).net f.ino c.by.row.g.0
    row = given_row k count w all f.server.0 c.node c.there c.message.header.from f.ino c.by.row c.by.found (omega (arith, two))

    elsewhere : (b : Body) → AsksCut b f.ino p c.by.row.g → Elsewhere (gifts k count w all (client c.message.header.from) f.server) f.ino b → ⊥
    elsewhere (bodies.Cut i g from) a e = e a.0
    elsewhere (bodies.Name (ops.Remove dir name g)) a (inl e) = let q = (named k count w all f.server.0 c.node c.there c.message.header.from).net.positive f.ino c.by.row.g.0 row in let z = a.1 in omega (arith, q, z, e)
    elsewhere (bodies.Name (ops.Remove dir name g)) a (inr e) =
        e.2 ((named k count w all f.server.0 c.node c.there c.message.header.from).net.one e.0 f.ino c.by.row.g.0 (subst (Given ((all.servers f.server.0 c.node c.there).ghosts c.message.header.from).net e.0) a.1 (e.1 c.node c.there)) row)
    elsewhere b a e = a

    served : IsBehind (sessions.session_of c.node.state.sessions (client c.message.header.from)) c.message.header.life c.message.header.number → ⊥
    served b = by (subst (λ o. IsBehind o c.message.header.life c.message.header.number) c.by.is b)
      where
        by : IsBehind (Some c.by.session) c.message.header.life c.message.header.number → ⊥
        by (inl l) = let y = c.by.of_life in omega (arith, y, l)
        by (inr l) = let y = subst (Reached c.message.header.number) c.by.state l.1 in let z = c.by.next in omega (arith, y, z)

    go : Harmless (gifts k count w all (client c.message.header.from) f.server) w (client c.message.header.from) f.server f.ino c.message → ⊥
    go (Unnumbered e) = let z = c.by.next in omega (arith, z, e)
    go (Past e) = by (e c.node c.there)
      where
        by : IsPast (client c.message.header.from) c.node c.message → ⊥
        by (inl l) = let y = c.by.of_epoch in omega (arith, y, l)
        by (inr q) = served (q.1 c.running)
    go (Besides e) = elsewhere c.message.body c.by.asks e
