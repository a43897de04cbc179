-- A server's step: replies to outstanding requests for extents tell the extents that it leaves.
use Rattle.st_lemmas.proofs.Words
use Words.{◌≡◌, ◌≢◌, ◌⊎◌, ℕ, ◌+◌, ◌≤◌, List, Option, Some, true, refl, sym, ap, ◌∙◌, subst, inl, inr, arith, ExtentRow, Body, Message, Request, ServerInput}
use Words.{Session}
use Words.nodes
use Words.bodies
use Words.outputs
use Words.serving as inputs
use Words.states
use Words.ClientReplies.{is_current}
use Words.ClientState.{Association, ClientSession}
use Words.History.{Traced}
use Words.Keys.{client, server_node}
use Words.Safety.{Step}
use Words.Server.{ServerNode, ServerTurn}
use Words.Sessions as sessions
use Words.World.{WorldClient, clock_of, node_of}
use Words.Lists.{Has}
use Words.Lookups.{some_is}
use Words.Tables.{same_or_not}
use Words.Truth.{clash}
use Rattle.st_base.specs.Mode.{number_of}
use Rattle.st_protocol.specs.Assoc.{Config}
use Rattle.st_laws_refine.specs.Views.Halves.{held_in}
use Rattle.st_laws_requests.specs.Replies.ServedRequests.{Ends, IsBehind, Reached, Refusal}
use Rattle.st_laws_refine.specs.Client.Invariants.{Lasts}
use Rattle.st_laws_requests.specs.Cuts.Cuts.{Numbers, Numbered, SameBody, view}
use Rattle.st_laws_extents.specs.CutRequests.FreshRequests.{FreshAt, IsOutstanding}
use Rattle.st_laws_extents.proofs.CutRequests.Fresh.{outstanding}
use Rattle.st_laws_extents.proofs.CutRequests.Law.{Hold}
use Rattle.st_laws_extents.proofs.CutRequests.Standing.{own_session}
use Rattle.st_laws_leases.specs.Dates.Dates.{messages}
use Rattle.st_laws_reads.specs.AllClients.Law.{Running}
use Rattle.st_laws_reads.proofs.AllClients.Cutting.{unheld}
use Rattle.st_laws_extents.specs.ExtentReplies.Steps.{ChangedNow, KeptRows, ServedAnew, StepTells, TellsRows, ToldBy, file_of}
use Rattle.st_laws_extents.specs.ExtentReplies.ToldExtents.{AskedAt, RepliesRight, RepliesTo}
use Rattle.st_laws_extents.proofs.ExtentReplies.Held.{current_mode, tells_same}

-- a request for extents is none that reasserts
no_reassert : (b : Body) (c : Rattle.st_rules.specs.ClientLocks.LockCache) (rows : List (ℕ × Rattle.st_base.specs.declared.ids.GrantNo.GrantNo × Rattle.st_base.specs.declared.mode.Mode.Mode)) → bodies.Reassert rows ≡ b → is_current c b ≡ true → ⊥
no_reassert b c rows e cur = clash (subst (λ y. is_current c y ≡ true) (sym e) cur) refl

module _ (k : Config) (count : ℕ) (past : List Step) (t : Traced) (hold : Hold k count past t) (node : ServerNode) (run : node.running ≡ true) (i : ServerInput) (y : ServerTurn) (tells : StepTells node.state i y) (comes : (m : Message) → i ≡ inputs.Control m → Has m (messages t.world))
    (c : ℕ) (site : WorldClient) (a : Association) (x : ClientSession) (q : Request) (z : AskedAt t.world c site a x q) (at : node_of t.world a.server ≡ Some node) (old : RepliesRight t.world c a x q node) where
  id : node.state.id ≡ a.server
  id = (hold.replies.dated.servers a.server node at).id

  -- a request that is served anew
  fresh : (m : Message) → Has m (messages t.world) → ServedAnew node.state m → FreshAt t.world a.server m
  fresh m i v = record { node = node; there = at; running = run; among = i; to = v.to ∙ ap server_node id; of_epoch = v.of_epoch; session = v.session; is = v.is; of_life = v.of_life; last = v.last; reply = v.reply; state = v.state; next = v.next }

  -- of this client it is the outstanding one
  own : (m : Message) → Has m (messages t.world) → ServedAnew node.state m → m.header.from ≡ c → (m.header.number ≡ q.number) × (m.body ≡ q.body)
  own m i v e = (o.number ∙ ap (λ (r : Request). r.number) is, o.body ∙ ap (λ (r : Request). r.body) is)
    where
      o : IsOutstanding x m
      o = outstanding k count past t hold.cuts hold.all hold.asks a.server m (fresh m i v) site (subst (λ n. Running t.world n site) (sym e) z.run) a z.has refl x z.session
          (subst (λ n. Lasts site.node.state.config.lease (clock_of t.world (nodes.Client (client n))).0 a.session) (sym e) z.lasts)

      is : o.request ≡ q
      is = some_is (sym o.asked ∙ z.asked)

  -- and then no reply to it was kept
  never_kept : (m : Message) → Has m (messages t.world) → ServedAnew node.state m → m.header.from ≡ c → (ino : ℕ) (rows : List ExtentRow) → KeptRows node.state.sessions (client c) a.life.0 q.number ino rows → ⊥
  never_kept m i v e ino rows r = absurd (omega (arith, last, next, number))
    where
      same : v.session ≡ r.session
      same = some_is (sym v.is ∙ ap (λ n. sessions.session_of node.state.sessions (client n)) e ∙ r.is)

      last_of : (n l : ℕ) (b d : Option Body) → states.Live n b ≡ states.Live l d → n ≡ l
      last_of n l b d e = cc

      last : v.last ≡ q.number
      last = last_of v.last q.number v.reply _ (sym v.state ∙ ap (λ (s : Session). s.state) same ∙ r.state)

      next : m.header.number ≡ v.last + 1
      next = v.next

      number : m.header.number ≡ q.number
      number = (own m i v e).0

  -- and none was sent
  never_sent : (m : Message) → Has m (messages t.world) → ServedAnew node.state m → m.header.from ≡ c → (r : Message) → Has r (messages t.world) → (ino : ℕ) (rows : List ExtentRow) → RepliesTo c a x q r ino rows → ⊥
  never_sent m i v e r j ino rows p = go ((hold.replies.replies a.server node at r j p.from).behind run (p.of_epoch ∙ epochs.1) (subst Ends (sym p.body) tt) (let n = number in let f = v.next in let u = p.under in omega (arith, n, f, u)))
    where
      number : m.header.number ≡ q.number
      number = (own m i v e).0

      epochs : (v.session.life.0 ≡ a.life.0) × (x.epoch.0 ≡ node.state.stable.epoch.0)
      epochs = own_session k count t.world hold.all a.server.0 node at c site z.run a z.has refl x z.session z.lasts run v.session (ap (λ n. sessions.session_of node.state.sessions (client n)) (sym e) ∙ v.is) (ap sessions.is_live_state v.state)

      numbers : Numbers (λ m. Has m (messages t.world)) (client c) a.server a.life.0 (view (Some x))
      numbers = subst (λ o. Numbers (λ m. Has m (messages t.world)) (client c) a.server a.life.0 (view o)) z.session ((hold.cuts.clients (client c) site z.run.there).all z.run.runs a z.has).numbers

      behind : IsBehind (Some v.session) r.header.life r.header.number → ⊥
      behind (inl l) = let f = epochs.0 in let g = p.of_life in absurd (omega (arith, l, f, g))
      behind (inr l) = let s = subst (Reached r.header.number) v.state l.1 in let f = v.next in let u = p.under in let n = number in absurd (omega (arith, s, f, u, n))

      refused : Refusal (messages t.world) a.server r → ⊥
      refused f = no_reassert q.body x.locks f.rows (sym f.asks ∙ body) z.current
        where
          numbered : Numbered x.epoch.0 x.requests f.by
          numbered = numbers.placed f.by f.among (f.from ∙ p.to, f.there) (f.of_life ∙ p.of_life) (let n = number in let g = v.next in let u = p.under in let o = f.under in omega (arith, n, g, u, o))

          body : f.by.body ≡ q.body
          body = subst (λ o. SameBody o f.by) z.asked (numbered.same (f.of_epoch ∙ p.of_epoch)) (f.under ∙ p.under)

      go : IsBehind (sessions.session_of node.state.sessions (client r.header.to)) r.header.life r.header.number ⊎ Refusal (messages t.world) a.server r → ⊥
      go (inl b) = behind (subst (λ o. IsBehind o r.header.life r.header.number) (ap (λ n. sessions.session_of node.state.sessions (client n)) (p.to ∙ sym e) ∙ v.is) b)
      go (inr f) = refused f

  -- What was reported before is still reported, if the client's own request isn't the one that is served.
  stay : (ino : ℕ) (rows : List ExtentRow) → ((m : Message) → Has m (messages t.world) → ServedAnew node.state m → m.header.from ≡ c → ⊥) → TellsRows a.server node.state.stable.extents q.body ino rows → TellsRows a.server y.state.stable.extents q.body ino rows
  stay ino rows never r = go tells.extents
    where
      held : 1 ≤ (held_in a.session ino).mode
      held = current_mode k count t.world hold.all a.server.0 node at c site z.run.there a z.has refl x z.session q.body ino r.page r.count r.asks z.current

      same : (v : ChangedNow node.state i y.state.stable.extents) → (v.ino ≡ ino) ⊎ (v.ino ≢ ino) → (v.by.header.from ≡ c) ⊎ (v.by.header.from ≢ c) → TellsRows a.server y.state.stable.extents q.body ino rows
      same v (inr n) f = tells_same a.server node.state.stable.extents y.state.stable.extents q.body ino rows (λ p. v.others (file_of a.server ino) p (λ e. n (sym (ap (λ (g : Rattle.st_base.specs.declared.ids.FileId.FileId). g.ino) e)))) r
      same v (inl e) (inl f) = absurd (never v.by (comes v.by v.is) v.served f)
      same v (inl e) (inr n) =
          let m = unheld k count t.world hold.all a.server.0 node at run v.by.header.from c v.ino n v.row v.found (let s = ap number_of v.exclusive in omega (arith, s)) site z.run a z.has refl z.lasts in
          let h = subst (λ j. 1 ≤ (held_in a.session j).mode) (sym e) held in
          absurd (omega (arith, m, h))

      go : (y.state.stable.extents ≡ node.state.stable.extents) ⊎ ChangedNow node.state i y.state.stable.extents → TellsRows a.server y.state.stable.extents q.body ino rows
      go (inl e) = subst (λ u. TellsRows a.server u q.body ino rows) (sym e) r
      go (inr v) = same v (same_or_not v.ino ino) (same_or_not v.by.header.from c)

  -- a reply that was kept
  was_kept : (ino : ℕ) (rows : List ExtentRow) → KeptRows node.state.sessions (client c) a.life.0 q.number ino rows → TellsRows a.server y.state.stable.extents q.body ino rows
  was_kept ino rows r = stay ino rows (λ m i v e. never_kept m i v e ino rows r) (old.kept run ino rows r)

  -- a reply that was sent before
  pub was_sent : (m : Message) (ino : ℕ) (rows : List ExtentRow) → Has m (messages t.world) → RepliesTo c a x q m ino rows → TellsRows a.server y.state.stable.extents q.body ino rows
  was_sent m ino rows h p = stay ino rows (λ n i v e. never_sent n i v e m h ino rows p) (old.sent m ino rows h p)

  -- what the step tells
  now_told : (ino : ℕ) (rows : List ExtentRow) → ToldBy node.state i y.state.stable.extents c a.life.0 q.number ino rows → TellsRows a.server y.state.stable.extents q.body ino rows
  now_told ino rows (inl r) = was_kept ino rows r
  now_told ino rows (inr n) =
      subst (λ b. TellsRows a.server y.state.stable.extents b ino rows) (own n.by (comes n.by n.is) n.served n.from).1
      (subst (λ s. TellsRows s y.state.stable.extents n.by.body ino rows) id n.tells)

  -- a reply that it keeps
  pub is_kept : (ino : ℕ) (rows : List ExtentRow) → KeptRows y.state.sessions (client c) a.life.0 q.number ino rows → TellsRows a.server y.state.stable.extents q.body ino rows
  is_kept ino rows r = now_told ino rows (tells.kept (client c) a.life.0 q.number ino rows r)

  -- a reply that it sends
  pub is_sent : (m : Message) (ino : ℕ) (rows : List ExtentRow) → Has (outputs.Send m) y.out → RepliesTo c a x q m ino rows → TellsRows a.server y.state.stable.extents q.body ino rows
  is_sent m ino rows h p =
      now_told ino rows
      (subst (λ n. ToldBy node.state i y.state.stable.extents c a.life.0 n ino rows) p.under
      (subst (λ n. ToldBy node.state i y.state.stable.extents c n m.header.number ino rows) p.of_life
      (subst (λ n. ToldBy node.state i y.state.stable.extents n m.header.life m.header.number ino rows) p.to (tells.sent m ino rows h p.body))))
