-- In every run the ghost knows which ask a request is of that a server serves: an operation waited for its reply under the key of the request.
use Rattle.st_lemmas.proofs.Words
use Words.{◌≡◌, ◌⊎◌, ℕ, suc, ◌+◌, Bool, true, false, not, ◌&&◌, ◌==◌, List, [], ◌∷◌, ◌++◌, Option, Some, None, Ok, refl, sym, ap, ◌∙◌, subst, inl, inr, if◌then◌else◌}
use Words.{eq-eqb, eqb-true, find, flat_map, is_some, list_all, list_any, slice_get, Ask, Body, ClientId, Event, Header, Message, NodeId, SentMessage, ServerId, Stamp}
use Words.{Config, GrantNo, Operation, Request, Session}
use Words.bodies
use Words.events
use Words.nodes
use Words.states
use Words.takes
use Words.Authority as authority
use Words.ClientState.{Association, ClientSession, ClientState, asks_cut_or_name, is_asked}
use Words.Events.{WorldTurn, world_step}
use Words.History.{Traced, traced, traced_after}
use Words.Keys.{client, server_node}
use Words.Lists.{Has}
use Words.Lookups.{some_is}
use Words.Members.{has_left, has_right}
use Words.Numbers.{has_get, numbered_has}
use Words.Safety.{Promise, Step, is_event, step, steps}
use Words.Server as sv
use Words.Server.{ServerNode, ServerState, ServerTurn, Stable}
use Words.Sessions as sessions
use Words.Tables.{and_both, and_true, found_at, has_append, none_has}
use Words.Truth.{clash, server_is}
use Words.World as world
use Words.World.{World, WorldClient, fresh_world, message_of, node_of, receiver_of, site_of}
use Rattle.st_rules.specs.declared.sessions.Taken.{Taken}
use Rattle.st_protocol.specs.Assoc as net
use Rattle.st_lemmas.proofs.Numbers as numbers
use Rattle.st_trace.specs.Server.Edits.{Begun}
use Rattle.st_trace.proofs.Server.Input.{thefts_begun}
use Rattle.st_trace.proofs.Server.Taking.{FreshState, Found, found_for, fresh_state}
use Rattle.st_promises.specs.CutAsks.{settles_in}
use Rattle.st_laws_pages.specs.Disks.Obligations.{FatesHold}
use Rattle.st_laws_pages.proofs.Disks.Whole.{fates_law}
use Rattle.st_laws_refine.specs.Server.Pair.{terms_of}
use Rattle.st_laws_leases.specs.Dates.Dates.{messages}
use Rattle.st_laws_extents.specs.CutRequests.Law.{gifts}
use Rattle.st_laws_cuts.specs.EndedRequests.{MeansTo}
use Rattle.st_laws_cuts.specs.ServedRequests.{IsServedBy}
use Rattle.st_laws_names.specs.OutstandingKeys.{KeysHaveOneOperation, SameKey, WaitsUnder}
use Rattle.st_laws_names.proofs.Behind as served
use Rattle.st_laws_names.proofs.Changes.{ChangesHold, changes_begin}
use Rattle.st_laws_names.proofs.Changes as changes
use Rattle.st_laws_names.proofs.Facts.{operations_law}
use Rattle.st_laws_names.proofs.World.{Worlds, none_waits}
use Rattle.st_laws_volume.specs.Logs.{InEveryRun}
use Rattle.st_laws_volume.specs.Requests.{AtNode, HasAsk, OfDelivery, OfMessage, RequestsHaveAsks}
use Rattle.st_laws_volume.specs.Witness.{Behind, Witness, asked_in, begun, does_at, is_behind, is_done_as, key_of, led_by, now_at, serves, turn_of, waiting, waiting_at, waiting_in, waiting_of}
use Rattle.st_laws_volume.proofs.Carried.{IsGiven, given_in}
use Rattle.st_laws_volume.proofs.ReadPages.{InRange, all_in_range, throughout_both}
use Rattle.st_laws_volume.proofs.TreeTurns.{fresh_is}

-- Lists of lists.
has_flat : {A B : Type 0} (f : A → List B) (xs : List A) (x : A) (y : B) → Has x xs → Has y (f x) → Has y (flat_map f xs)
has_flat f [] x y i j = absurd i
has_flat f (z ∷ xs) x y (inl e) j = has_left (f z) (flat_map f xs) y (subst (λ w. Has y (f w)) e j)
has_flat f (z ∷ xs) x y (inr i) j = has_right (f z) (flat_map f xs) y (has_flat f xs x y i j)

in_flat : {A B : Type 0} (f : A → List B) (xs : List A) (y : B) → Has y (flat_map f xs) → (x : A) × Has x xs × Has y (f x)
in_flat f [] y h = absurd h
in_flat {A} {B} f (z ∷ xs) y h = go (has_append (f z) (flat_map f xs) y h) (λ i. in_flat f xs y i)
  where
    go : Has y (f z) ⊎ Has y (flat_map f xs) → (Has y (flat_map f xs) → (x : A) × Has x xs × Has y (f x)) → (x : A) × Has x (z ∷ xs) × Has y (f x)
    go (inl i) k = (z, inl refl, i)
    go (inr i) k = let r = k i in (r.0, inr r.1, r.2)

pub find_there : {A : Type 0} (p : A → Bool) (xs : List A) (x : A) → Has x xs → p x ≡ true → (y : A) × (find p xs ≡ Some y)
find_there {A} p xs x i e = go (find p xs) refl
  where
    go : (o : Option A) → find p xs ≡ o → (y : A) × (find p xs ≡ Some y)
    go (Some y) q = (y, q)
    go None q = clash e (none_has p xs q x i)

-- A key, with the operation that waits under it.
abbrev keyed : ClientId → ServerId → ℕ → ℕ → ℕ → ℕ → Behind
keyed c s life epoch number op = record { client = c; server = s; life = life; epoch = epoch; number = number; op = op }

-- What the witness lists of a world are the operations that wait in it.
module _ (w : World) (ids : (c : ClientId) (site : WorldClient) → site_of w c ≡ Some site → site.node.state.id ≡ c) where
  record Listed (c : ClientId) (s : ServerId) (life epoch number : ℕ) : Type 0 where
    op : ℕ
    waits : WaitsUnder w c s life epoch number op
    has : Has (keyed c s life epoch number op) (waiting w)

  listed : (c : ClientId) (s : ServerId) (life epoch number op : ℕ) → WaitsUnder w c s life epoch number op → Listed c s life epoch number
  unfolding waiting
  listed c s life epoch number op z =
      record {
        op = o.op;
        waits =
            record {
              site = z.site;
              at = z.at;
              operation = o;
              there = f.1;
              is = refl;
              asked = f.0;
              association = z.association;
              among = z.among;
              server = z.server;
              of_life = z.of_life;
              session = z.session;
              has = z.has;
              of_epoch = z.of_epoch;
              request = z.request;
              outstanding = z.outstanding;
              under = z.under;
            };
        has =
            has_flat waiting_of w.clients z.site (keyed c s life epoch number o.op) (numbered_has w.clients c.0 z.site z.at)
            (has_flat (waiting_at z.site.node.state) z.site.node.state.associations z.association (keyed c s life epoch number o.op) z.among here);
      }
    where
      first : (y : Operation) × (find (is_asked s) z.site.node.state.operations ≡ Some y)
      first = find_there (is_asked s) z.site.node.state.operations z.operation z.there z.asked

      o : Operation
      o = first.0

      f : (is_asked s o ≡ true) × Has o z.site.node.state.operations
      f = found_at (is_asked s) z.site.node.state.operations first.0 first.1

      is : key_of z.site.node.state z.association z.session z.request o ≡ keyed c s life epoch number o.op
      is =
          ap (λ (k : ClientId). keyed k z.association.server z.association.life.0 z.session.epoch.0 z.request.number o.op) (ids c z.site z.at)
          ∙ (ap (λ (k : ServerId). keyed c k z.association.life.0 z.session.epoch.0 z.request.number o.op) z.server
          ∙ (ap (λ (k : ℕ). keyed c s k z.session.epoch.0 z.request.number o.op) z.of_life
          ∙ (ap (λ (k : ℕ). keyed c s life k z.request.number o.op) z.of_epoch ∙ ap (λ (k : ℕ). keyed c s life epoch k o.op) z.under)))

      list_is : waiting_at z.site.node.state z.association ≡ key_of z.site.node.state z.association z.session z.request o ∷ []
      list_is =
          ap (waiting_in z.site.node.state z.association) z.has
          ∙ (ap (λ q. asked_in z.site.node.state z.association z.session q (find (is_asked z.association.server) z.site.node.state.operations)) z.outstanding
          ∙ ap (asked_in z.site.node.state z.association z.session (Some z.request))
          (ap (λ k. find (is_asked k) z.site.node.state.operations) z.server ∙ first.1))

      here : Has (keyed c s life epoch number o.op) (waiting_at z.site.node.state z.association)
      here = subst (Has (keyed c s life epoch number o.op)) (sym list_is) (inl (sym is))

  in_waiting : (b : Behind) → Has b (waiting w) → WaitsUnder w b.client b.server b.life b.epoch b.number b.op
  unfolding waiting
  in_waiting b h =
      let y = in_flat waiting_of w.clients b h in
      let z = in_flat (waiting_at y.0.node.state) y.0.node.state.associations b y.2 in
      by y.0 (has_get w.clients y.0 y.1) z.0 z.1 z.2
    where
      by : (site : WorldClient) → (n : ℕ) × (slice_get w.clients n ≡ Some site) → (a : Association) → Has a site.node.state.associations →
          Has b (waiting_at site.node.state a) → WaitsUnder w b.client b.server b.life b.epoch b.number b.op
      by site (n, at) a i j = session a.session refl j
        where
          c : ClientId
          c = record { 0 = suc n }

          there : site_of w c ≡ Some site
          there = at

          its : (x : ClientSession) (q : Request) (o : Operation) → a.session ≡ Some x → x.requests.asked ≡ Some q →
              find (is_asked a.server) site.node.state.operations ≡ Some o → (b ≡ key_of site.node.state a x q o) →
              WaitsUnder w b.client b.server b.life b.epoch b.number b.op
          its x q o e f g k =
              let z = found_at (is_asked a.server) site.node.state.operations o g in
              subst (λ (y : Behind). WaitsUnder w y.client y.server y.life y.epoch y.number y.op) (sym k)
              (subst (λ (d : ClientId). WaitsUnder w d a.server a.life.0 x.epoch.0 q.number o.op) (sym (ids c site there))
              (record {
                site = site;
                at = there;
                operation = o;
                there = z.1;
                is = refl;
                asked = z.0;
                association = a;
                among = i;
                server = refl;
                of_life = refl;
                session = x;
                has = e;
                of_epoch = refl;
                request = q;
                outstanding = f;
                under = refl;
              }))

          asked : (x : ClientSession) → a.session ≡ Some x → (r : Option Request) → x.requests.asked ≡ r → (o : Option Operation) →
              find (is_asked a.server) site.node.state.operations ≡ o → Has b (asked_in site.node.state a x r o) →
              WaitsUnder w b.client b.server b.life b.epoch b.number b.op
          asked x e (Some q) f (Some o) g (inl k) = its x q o e f g k
          asked x e (Some q) f (Some o) g (inr k) = absurd k
          asked x e (Some q) f None g k = absurd k
          asked x e None f o g k = absurd k

          session : (o : Option ClientSession) → a.session ≡ o → Has b (waiting_in site.node.state a o) →
              WaitsUnder w b.client b.server b.life b.epoch b.number b.op
          session None e k = absurd k
          session (Some x) e k = asked x e x.requests.asked refl (find (is_asked a.server) site.node.state.operations) refl k

-- What the ghost knows.
pub record GhostHolds (past : List Step) (t : Traced) (it : Witness) : Type 0 where
  pub known : (b : Behind) → Has b it.behind → (y : Step) × Has y past × WaitsUnder y.after.world b.client b.server b.life b.epoch b.number b.op
  pub listed_ :
      (w : World) → Worlds past t.world w → (c : ClientId) (s : ServerId) (life epoch number op : ℕ) → WaitsUnder w c s life epoch number op →
      Has (keyed c s life epoch number op) it.behind

pub ghost_kept : (past : List Step) (t : Traced) (e : Event) (sc : WorldTurn) (it : Witness) → FatesHold sc.world → KeysHaveOneOperation past (step t e sc) →
    GhostHolds past t it → GhostHolds (past ++ step t e sc ∷ []) (traced_after e t sc) (led_by it (step t e sc))
unfolding led_by
ghost_kept past t e sc it fates one h = record { known = known_now; listed_ = listed_now }
  where
    x : Step
    x = step t e sc

    ids : (c : ClientId) (site : WorldClient) → site_of sc.world c ≡ Some site → site.node.state.id ≡ c
    ids c site at = (fates.lives.lives.sites c site at).id

    last : Has x (past ++ x ∷ [])
    last = has_right past (x ∷ []) x (inl refl)

    known_now : (b : Behind) → Has b (waiting sc.world ++ it.behind) →
        (y : Step) × Has y (past ++ step t e sc ∷ []) × WaitsUnder y.after.world b.client b.server b.life b.epoch b.number b.op
    known_now b i = go (has_append (waiting sc.world) it.behind b i)
      where
        go : Has b (waiting sc.world) ⊎ Has b it.behind →
            (y : Step) × Has y (past ++ step t e sc ∷ []) × WaitsUnder y.after.world b.client b.server b.life b.epoch b.number b.op
        go (inl j) = (step t e sc, last, in_waiting sc.world ids b j)
        go (inr j) = let z = h.known b j in (z.0, has_left past (step t e sc ∷ []) z.0 z.1, z.2)

    here : (c : ClientId) (s : ServerId) (life epoch number op : ℕ) → WaitsUnder sc.world c s life epoch number op →
        Has (keyed c s life epoch number op) (waiting sc.world ++ it.behind)
    here c s life epoch number op z =
        let l = listed sc.world ids c s life epoch number op z in
        has_left (waiting sc.world) it.behind (keyed c s life epoch number op)
        (subst (λ n. Has (keyed c s life epoch number n) (waiting sc.world))
        (one (step t e sc) (step t e sc) last last c s life epoch number l.op op l.waits z) l.has)

    listed_now : (w : World) → Worlds (past ++ step t e sc ∷ []) sc.world w → (c : ClientId) (s : ServerId) (life epoch number op : ℕ) →
        WaitsUnder w c s life epoch number op → Has (keyed c s life epoch number op) (waiting sc.world ++ it.behind)
    listed_now w (inr q) c s life epoch number op z = here c s life epoch number op (subst (λ v. WaitsUnder v c s life epoch number op) q z)
    listed_now w (inl (y, i, q)) c s life epoch number op z = go (has_append past (step t e sc ∷ []) y i)
      where
        go : Has y past ⊎ Has y (step t e sc ∷ []) → Has (keyed c s life epoch number op) (waiting sc.world ++ it.behind)
        go (inl j) = has_right (waiting sc.world) it.behind (keyed c s life epoch number op) (h.listed_ w (inl (y, j, q)) c s life epoch number op z)
        go (inr (inl j)) =
            here c s life epoch number op
            (subst (λ (v : Step). WaitsUnder v.after.world c s life epoch number op) j (subst (λ v. WaitsUnder v c s life epoch number op) q z))
        go (inr (inr j)) = absurd j

-- A server that serves a request, and does what is requested.
pub cut_or_name : (b : Body) (r : Option Body) → is_done_as b r ≡ true → asks_cut_or_name b ≡ true
cut_or_name (bodies.Cut ino g from) r q = refl
cut_or_name (bodies.Name op) r q = refl
cut_or_name b r q = cc q

module _ (s : ServerId) (node : ServerNode) (now : Stamp) (m : Message) (q : serves (turn_of node now) m.header ≡ true) where
  abbrev t : ServerTurn
  t = turn_of node now

  abbrev h : Header
  h = m.header

  parts : ((sv.is_for t.state h ≡ true) × (not (is_some (authority.started t.state.authority (sv.sender h))) ≡ true))
      × (((h.epoch == t.state.stable.epoch.0) ≡ true) × (sv.take t h ≡ takes.Fresh))
  parts =
      let a = and_true (sv.is_for t.state h && not (is_some (authority.started t.state.authority (sv.sender h)))) _ q in
      let b = and_true (h.epoch == t.state.stable.epoch.0) _ a.1 in
      (and_true (sv.is_for t.state h) _ a.0, (b.0, fresh_is (sv.take t h) b.1))

  begun_ : Begun node.state t
  begun_ = thefts_begun node.state now

  found : Found t.state.sessions (sv.sender h) (sv.life_in h) (FreshState h.number)
  found =
      found_for t.state.sessions (sv.sender h) (sv.life_in h) (sv.epoch_in h) h.number takes.Fresh (FreshState h.number) parts.1.1 (λ e. cc e) (λ e. cc e)
      (λ e. cc e) (λ x e. fresh_state h.number x e)

  pub is_served : IsServedBy node.state m
  is_served =
      let f = and_true (h.to == server_node t.state.id) _ parts.0.0 in
      let live : sessions.is_live found.session ≡ true = ap (λ y. sessions.is_live_state y) found.state.is in
      record {
        client = f.1;
        to = eqb-true h.to (server_node t.state.id) f.0 ∙ ap server_node begun_.id;
        of_epoch = eqb-true h.epoch t.state.stable.epoch.0 parts.1.0 ∙ ap (λ (y : Stable). y.epoch.0) begun_.stable;
        session = found.session;
        is = begun_.sessions (sv.sender h) found.session found.is live;
        of_life = found.of_life;
        last = found.state.last;
        reply = found.state.reply;
        state = found.state.is;
        next = found.state.next;
      }

-- The ghost has the operation of a request that is served: it waited under the key of the request.
pub record HasKey (it : Witness) (past : List Step) (w : World) (G : ℕ → GrantNo → Type 0) (s : ServerId) (m : Message) : Type 0 where
  pub behind : Behind
  pub found : find (is_behind s m.header) it.behind ≡ Some behind
  pub at : Step
  pub among : Has at past
  pub waits : WaitsUnder at.after.world (client m.header.from) s m.header.life m.header.epoch m.header.number behind.op
  pub ask : Ask
  pub asked : world.numbered (Rattle.st_laws_requests.specs.Cuts.Cuts.asks_of past (client m.header.from)) behind.op ≡ Some ask
  pub server : Words.ClientState.server_of ask ≡ s
  pub means : Rattle.st_laws_requests.specs.Cuts.Cuts.AsksFor ask m.body
  pub to : MeansTo G s ask m.body
  pub unsettled : list_any (settles_in (client m.header.from) behind.op) past ≡ false

module _ (k : net.Config) (count : ℕ) (past : List Step) (t : Traced) (it : Witness) (names_ : ChangesHold k count past t) (ghost_ : GhostHolds past t it)
    (one : (y z : Step) → Has y past → Has z past → (c : ClientId) (s : ServerId) (life epoch number op n : ℕ) →
    WaitsUnder y.after.world c s life epoch number op → WaitsUnder z.after.world c s life epoch number n → op ≡ n) where
  -- what was granted to the sender of a request
  abbrev pub Grants : ServerId → Message → ℕ → GrantNo → Type 0
  Grants s m = gifts k count t.world names_.names_.all.base.all (client m.header.from) s

  pub has_key : (s : ServerId) (node : ServerNode) → node_of t.world s ≡ Some node → (m : Message) → Has m (messages t.world) →
      does_at t.world s (Some node) m ≡ true → HasKey it past t.world (Grants s m) s m
  has_key s node at m among q =
      by (served.behind k count past t names_.names_.all names_.rows s node at r.0 m among (is_served s node (now_at t.world s) m d.0) own)
    where
      r : (node.running ≡ true) × ((serves (turn_of node (now_at t.world s)) m.header
          && is_done_as m.body (sv.rule (turn_of node (now_at t.world s)) (now_at t.world s) m.header m.body).reply) ≡ true)
      r = and_true node.running _ q

      d : (serves (turn_of node (now_at t.world s)) m.header ≡ true)
          × (is_done_as m.body (sv.rule (turn_of node (now_at t.world s)) (now_at t.world s) m.header m.body).reply ≡ true)
      d = and_true (serves (turn_of node (now_at t.world s)) m.header) _ r.1

      own : asks_cut_or_name m.body ≡ true
      own = cut_or_name m.body _ d.1

      c : ClientId
      c = client m.header.from

      its_key : (b : Behind) → is_behind s m.header b ≡ true →
          (b.client ≡ c) × (b.server ≡ s) × (b.life ≡ m.header.life) × (b.epoch ≡ m.header.epoch) × (b.number ≡ m.header.number)
      its_key b e =
          let x = and_true ((b.client.0 == m.header.from) && (b.server.0 == s.0)) _ e in
          let y = and_true (b.client.0 == m.header.from) (b.server.0 == s.0) x.0 in
          let z = and_true (b.life == m.header.life) _ x.1 in
          let u = and_true (b.epoch == m.header.epoch) (b.number == m.header.number) z.1 in (
            ap (λ n. record { 0 = n }) (eqb-true b.client.0 m.header.from y.0),
            ap (λ n. record { 0 = n }) (eqb-true b.server.0 s.0 y.1),
            eqb-true b.life m.header.life z.0,
            eqb-true b.epoch m.header.epoch u.0,
            eqb-true b.number m.header.number u.1,
          )

      under : (b : Behind) → is_behind s m.header b ≡ true → (y : Step) → WaitsUnder y.after.world b.client b.server b.life b.epoch b.number b.op →
          WaitsUnder y.after.world c s m.header.life m.header.epoch m.header.number b.op
      under b e y z =
          let i = its_key b e in
          subst (λ (n : ℕ). WaitsUnder y.after.world c s m.header.life m.header.epoch n b.op) i.4
          (subst (λ (n : ℕ). WaitsUnder y.after.world c s m.header.life n b.number b.op) i.3
          (subst (λ (n : ℕ). WaitsUnder y.after.world c s n b.epoch b.number b.op) i.2
          (subst (λ (n : ServerId). WaitsUnder y.after.world c n b.life b.epoch b.number b.op) i.1
          (subst (λ (n : ClientId). WaitsUnder y.after.world n b.server b.life b.epoch b.number b.op) i.0 z))))

      by : served.Behind past (Grants s m) t.world s m → HasKey it past t.world (Grants s m) s m
      by z = go (find_there (is_behind s m.header) it.behind mine listed_here passes)
        where
          mine : Behind
          mine = keyed c z.row.asked.server z.row.asked.life_ z.row.asked.epoch_ z.row.asked.number_ z.op

          listed_here : Has mine it.behind
          listed_here = ghost_.listed_ z.row.asked.at z.row.asked.among c z.row.asked.server z.row.asked.life_ z.row.asked.epoch_ z.row.asked.number_ z.op
              z.row.asked.waits

          passes : is_behind s m.header mine ≡ true
          passes =
              let e = z.row.same in
              and_both ((c.0 == m.header.from) && (z.row.asked.server.0 == s.0)) _
              (and_both (c.0 == m.header.from) (z.row.asked.server.0 == s.0) (eq-eqb c.0 m.header.from refl)
              (eq-eqb z.row.asked.server.0 s.0 (ap (λ (n : ServerId). n.0) e.server)))
              (and_both (z.row.asked.life_ == m.header.life) _ (eq-eqb z.row.asked.life_ m.header.life e.life_)
              (and_both (z.row.asked.epoch_ == m.header.epoch) (z.row.asked.number_ == m.header.number) (eq-eqb z.row.asked.epoch_ m.header.epoch e.epoch_)
              (eq-eqb z.row.asked.number_ m.header.number e.number_)))

          go : (b : Behind) × (find (is_behind s m.header) it.behind ≡ Some b) → HasKey it past t.world (Grants s m) s m
          go (b, f) =
              let g = found_at (is_behind s m.header) it.behind b f in
              let y = ghost_.known b g.1 in
              let u = ghost_.known mine listed_here in
              let same : b.op ≡ z.op =
              one y.0 u.0 y.1 u.1 c s m.header.life m.header.epoch m.header.number b.op z.op (under b g.0 y.0 y.2) (under mine passes u.0 u.2) in
              record {
                behind = b;
                found = f;
                at = y.0;
                among = y.1;
                waits = under b g.0 y.0 y.2;
                ask = z.ask;
                asked = ap (world.numbered (Rattle.st_laws_requests.specs.Cuts.Cuts.asks_of past c)) same ∙ z.asked;
                server = z.of;
                means = z.means;
                to = z.to;
                unsettled = ap (λ (n : ℕ). list_any (settles_in c n) past) same ∙ z.unsettled;
              }

  has_ask : (s : ServerId) (node : ServerNode) → node_of t.world s ≡ Some node → (m : Message) → Has m (messages t.world) →
      does_at t.world s (Some node) m ≡ true → HasAsk it past s m
  has_ask s node at m among q =
      let z = has_key s node at m among q in
      record { behind = z.behind; found = z.found; ask = z.ask; asked = z.asked; server = z.server; means = z.means; unsettled = z.unsettled }

  at_delivery : (e : Event) → OfDelivery (HasAsk it past) t.world e
  at_delivery (events.Deliver n) = go (message_of t.world n) (λ m q. numbered_has t.world.net.messages n m q)
    where
      at_node : (s : ServerId) (m : Message) → Has m (messages t.world) → (o : Option ServerNode) → node_of t.world s ≡ o → does_at t.world s o m ≡ true →
          HasAsk it past s m
      at_node s m among None at q = cc q
      at_node s m among (Some node) at q = has_ask s node at m among q

      to : (m : SentMessage) → Has m.message (messages t.world) → (n : NodeId) → AtNode (HasAsk it past) t.world m.message n
      to m among (nodes.Client c) = tt
      to m among (nodes.Server s) = λ q. at_node s m.message among (node_of t.world s) refl q

      go : (o : Option SentMessage) → ((m : SentMessage) → o ≡ Some m → Has m t.world.net.messages) → OfMessage (HasAsk it past) t.world o
      go None h = tt
      go (Some m) h = to m (Words.Tables.has_map_in (λ (x : SentMessage). x.message) t.world.net.messages m (h m refl)) (receiver_of m)
  at_delivery e = tt

-- At the start nobody waits.
pub ghost_begins : (k : Config) (clients servers disks blocks form : ℕ) →
    GhostHolds [] (traced (fresh_world k clients servers disks blocks form))
    (begun (fresh_world k clients servers disks blocks form) (fresh_world k clients servers disks blocks form))
unfolding begun
ghost_begins k clients servers disks blocks form =
    record {
      known = λ b i. absurd i;
      listed_ = λ w a c s life epoch number op z. absurd (nobody w a c s life epoch number op z);
    }
  where
    nobody : (w : World) → Worlds [] (fresh_world k clients servers disks blocks form) w → (c : ClientId) (s : ServerId) (life epoch number op : ℕ) →
        WaitsUnder w c s life epoch number op → ⊥
    nobody w (inl z) c s life epoch number op y = absurd z.1
    nobody w (inr q) c s life epoch number op y =
        none_waits k clients servers disks blocks form c op s life epoch number (subst (λ v. WaitsUnder v c s life epoch number op) q y)

-- In every run.
record RequestsHold (k : net.Config) (count : ℕ) (past : List Step) (t : Traced) (it : Witness) : Type 0 where
  names_ : ChangesHold k count past t
  ghost_ : GhostHolds past t it

abbrev Known : ℕ → Promise
Known n past x = InRange n past x × (FatesHold x.after.world × KeysHaveOneOperation past x)

RequestsToo : List Step → Step → Witness → Type 0
RequestsToo past x it = OfDelivery (HasAsk it past) x.before.world x.event

requests_on : (k : net.Config) (count : ℕ) → IsGiven (Known count) (RequestsHold k count) RequestsToo
unfolding RequestsToo
requests_on k count past t e sc it f g h = (
  at_delivery k count past t it h.names_ h.ghost_
      (λ y z i j c s life epoch number op n a b.
      g.1.1 y z (has_left past (step t e sc ∷ []) y i) (has_left past (step t e sc ∷ []) z j) c s life epoch number op n a b) e,
  record { names_ = (changes.one k count past t e sc g.0 h.names_ f).1; ghost_ = ghost_kept past t e sc it g.1.0 g.1.1 h.ghost_ },
)

pub requests_have_asks : InEveryRun RequestsHaveAsks
unfolding RequestsToo begun
requests_have_asks k clients servers disks blocks form es head events =
    let t : Traced = traced (fresh_world k clients servers disks blocks form) in
    let n : ℕ = clients + servers in
    given_in (Known n) (RequestsHold (terms_of k) n) RequestsToo (requests_on (terms_of k) n) es t
    (record {
      names_ = changes_begin k clients servers disks blocks form head;
      ghost_ = ghost_begins k clients servers disks blocks form;
    })
    (throughout_both (InRange n) (λ past x. FatesHold x.after.world × KeysHaveOneOperation past x) [] (steps es t) (all_in_range n es [] t events)
    (throughout_both (λ past x. FatesHold x.after.world) KeysHaveOneOperation [] (steps es t) (fates_law k clients servers disks blocks form es)
    (operations_law k clients servers disks blocks form es head events)))
