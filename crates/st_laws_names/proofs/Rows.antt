-- Every request to cut a file or for a name is that of an operation, which waited under its own key: after every event.
use Rattle.st_lemmas.proofs.Words
use Words.{◌≡◌, ◌⊎◌, ℕ, ◌≤◌, ◌<◌, true, false, List, [], ◌∷◌, ◌++◌, Some, Ok, refl, sym, ap, ◌∙◌, subst, inl, inr}
use Words.{list_any, eqb-true, ClientId, GrantNo, ServerId, AppAnswer, Ask, Event, Message, Operation}
use Words.seen
use Words.ClientState as cs
use Words.ClientState.{Association, asks_cut_or_name}
use Words.Events.{WorldTurn, world_step}
use Words.History.{Traced, traced_after}
use Words.Safety.{Step, is_event, step}
use Words.World.{World, WorldClient, numbered, site_of}
use Words.Lists.{Has}
use Words.Tables.{and_true, has_append}
use Words.Members.{has_left, has_right}
use Rattle.st_protocol.specs.Assoc.{Config}
use Rattle.st_laws_leases.specs.Dates.Dates.{messages}
use Rattle.st_laws_requests.specs.Cuts.Cuts.{AsksFor, Between, asks_of}
use Rattle.st_laws_extents.specs.CutRequests.Law.{gifts}
use Rattle.st_laws_extents.specs.CutRequests.World.{Gifts}
use Rattle.st_laws_extents.proofs.CutRequests.Law.{followed, gifts_stay}
use Rattle.st_promises.specs.CutAsks.{is_uncertain, settles_in}
use Rattle.st_laws_cuts.proofs.OverAfter.{AllOver, Waits, over_after}
use Rattle.st_laws_cuts.specs.EndedRequests.{AllPast, MeansTo}
use Rattle.st_laws_cuts.proofs.Law.{AllHold}
use Rattle.st_laws_cuts.proofs.Words.{asked_more, means_more, unsettled_in, unsettled_past}
use Rattle.st_laws_names.specs.OutstandingKeys.{WaitsUnder}
use Rattle.st_laws_names.proofs.World.{Worlds}
use Rattle.st_laws_names.proofs.Waiting.{Pending, Row, alive}
use Rattle.st_laws_pages.proofs.Asks.Asks.{any_last_none}

-- the ask of a message is no longer pending, and was not settled; it waited under the key of the message
pub record Left (past : List Step) (G : ℕ → GrantNo → Type 0) (w : World) (c : ClientId) (s : ServerId) (os : List Operation) (m : Message) : Type 0 where
  pub op : ℕ
  pub ask : Ask
  pub asked : numbered (asks_of past c) op ≡ Some ask
  pub of : cs.server_of ask ≡ s
  pub means : AsksFor ask m.body
  pub to : MeansTo G s ask m.body
  pub row : Row past w c s m op
  pub gone : (o : Operation) → Has o os → o.op ≡ op → ⊥
  pub unsettled : list_any (settles_in c op) past ≡ false

-- either of the two
abbrev pub Over : List Step → (ℕ → GrantNo → Type 0) → World → ClientId → ServerId → List Operation → Message → Type 0
Over past G w c s os m = AllPast w c s m ⊎ Left past G w c s os m

-- a world after one of these steps, or one in which no operation waits
abbrev pub Known : List Step → World → Type 0
Known past v = ((z : Step) × Has z past × (v ≡ z.after.world)) ⊎
    ((c : ClientId) (s : ServerId) (life epoch number op : ℕ) → WaitsUnder v c s life epoch number op → ⊥)

-- What holds after every event.
pub record RowsHold (past : List Step) (G : Gifts) (w : World) : Type 0 where
  pub over : (c : ClientId) (site : WorldClient) → site_of w c ≡ Some site → (a : Association) → Has a site.node.state.associations → (m : Message) →
      Has m (messages w) → Between c a.server m → 1 ≤ m.header.number → asks_cut_or_name m.body ≡ true →
      (m.header.life < a.life.0) ⊎ (site.node.running ≡ false) → Over past (G c a.server) w c a.server site.node.state.operations m
  pub now : Known past w
  pub chain : (y : Step) → Has y past → Known past y.before.world

module _ (k : Config) (count : ℕ) (past : List Step) (t : Traced) (e : Event) (sc : WorldTurn) (ranges : is_event count e ≡ true) (h : AllHold k count past t)
    (n : AllHold k count (past ++ step t e sc ∷ []) (traced_after e t sc)) (taken : world_step t.world e ≡ Ok sc)
    (d : RowsHold past (gifts k count t.world h.base.all) t.world) where
  abbrev x : Step
  x = step t e sc

  abbrev past2 : List Step
  past2 = past ++ step t e sc ∷ []

  gifts_grow : (c : ClientId) (s : ServerId) (i : ℕ) (g : GrantNo) → gifts k count t.world h.base.all c s i g →
      gifts k count sc.world (followed k count past t e sc ranges h.base taken).after c s i g
  gifts_grow c s i g = gifts_stay k count t.world sc.world h.base.all (followed k count past t e sc ranges h.base taken) c s i g

  pub worlds_on : (v : World) (c : ClientId) (s : ServerId) (life epoch number op : ℕ) → WaitsUnder v c s life epoch number op → Worlds past t.world v →
      Worlds past2 sc.world v
  worlds_on v c s life epoch number op w (inl z) = inl (z.0, has_left past _ z.0 z.1, z.2)
  worlds_on v c s life epoch number op w (inr q) = go d.now
    where
      go : Known past t.world → Worlds past2 sc.world v
      go (inl z) = inl (z.0, has_left past _ z.0 z.1, q ∙ z.2)
      go (inr f) = absurd (f c s life epoch number op (subst (λ u. WaitsUnder u c s life epoch number op) q w))

  pub row_on : (c : ClientId) (s : ServerId) (m : Message) (op : ℕ) → Row past t.world c s m op → Row past2 sc.world c s m op
  row_on c s m op r =
      record {
        asked = record {
          at = r.asked.at;
          among = worlds_on r.asked.at c r.asked.server r.asked.life_ r.asked.epoch_ r.asked.number_ op r.asked.waits r.asked.among;
          server = r.asked.server;
          life_ = r.asked.life_;
          epoch_ = r.asked.epoch_;
          number_ = r.asked.number_;
          waits = r.asked.waits;
        };
        same = r.same;
      }

  known_on : (v : World) → Known past v → Known past2 v
  known_on v (inl z) = inl (z.0, has_left past _ z.0 z.1, z.2)
  known_on v (inr f) = inr f

  chain_on : (y : Step) → Has y past2 → Known past2 y.before.world
  chain_on y i = go (has_append past _ y i)
    where
      go : Has y past ⊎ Has y (step t e sc ∷ []) → Known past2 y.before.world
      go (inl j) = known_on y.before.world (d.chain y j)
      go (inr (inl q)) = subst (λ (z : Step). Known past2 z.before.world) (sym q) (known_on t.world d.now)
      go (inr (inr j)) = absurd j

  now_on : Known past2 sc.world
  now_on = inl (step t e sc, has_right past (step t e sc ∷ []) (step t e sc) (inl refl), refl)

  left_on : (c : ClientId) (s : ServerId) (os qs : List Operation) (m : Message) →
      ((op : ℕ) (ask : Ask) → numbered (asks_of past c) op ≡ Some ask → ((o : Operation) → Has o os → o.op ≡ op → ⊥) →
      ((o : Operation) → Has o qs → o.op ≡ op → ⊥) × ((a : AppAnswer) → Has (seen.Answered c op a) sc.seen → ⊥)) →
      Left past (gifts k count t.world h.base.all c s) t.world c s os m →
      Left past2 (gifts k count sc.world (followed k count past t e sc ranges h.base taken).after c s) sc.world c s qs m
  left_on c s os qs m k z =
      let y = k z.op z.ask z.asked z.gone in
      record {
        op = z.op;
        ask = z.ask;
        asked = asked_more past x c z.op z.ask z.asked;
        of = z.of;
        means = z.means;
        to = means_more _ _ (gifts_grow c s) s z.ask m.body z.to;
        row = row_on c s m z.op z.row;
        gone = y.0;
        unsettled = any_last_none (settles_in c z.op) past x z.unsettled (unsettled_in c z.op sc.seen (λ a i. absurd (y.1 a i)));
      }

  -- an operation that was pending is left, if it is no longer pending, and answered only with `uncertain`
  now_left : (c : ClientId) (site : WorldClient) → site_of t.world c ≡ Some site → (s : ServerId) (qs : List Operation) (m : Message) →
      (z : Pending past (gifts k count t.world h.base.all c s) t.world c s site.node.state.operations m) →
      ((o : Operation) → Has o qs → o.op ≡ z.operation.op → ⊥) → ((a : AppAnswer) → Has (seen.Answered c z.operation.op a) sc.seen → is_uncertain a ≡ true) →
      Left past2 (gifts k count sc.world (followed k count past t e sc ranges h.base taken).after c s) sc.world c s qs m
  now_left c site at s qs m z gone open_ =
      record {
        op = z.operation.op;
        ask = z.operation.ask;
        asked = asked_more past x c z.operation.op z.operation.ask ((h.base.cuts.clients c site at).asked z.operation z.there);
        of = ap (λ n. record { 0 = n }) (eqb-true (cs.server_of z.operation.ask).0 s.0 (and_true (cs.is_of s z.operation) _ z.asked).0);
        means = z.means;
        to = means_more _ _ (gifts_grow c s) s z.operation.ask m.body z.to;
        row = row_on c s m z.operation.op z.row;
        gone = gone;
        unsettled = any_last_none (settles_in c z.operation.op) past x (unsettled_past c z.operation.op past (h.owners.unsaid c site at z.operation z.there))
            (unsettled_in c z.operation.op sc.seen open_);
      }

  -- Every event.
  pub rows_on : RowsHold past2 (gifts k count sc.world (followed k count past t e sc ranges h.base taken).after) sc.world
  rows_on = record { over = over; now = now_on; chain = chain_on }
    where
      over : AllOver sc.world (λ c s os m. Left past2 (gifts k count sc.world (followed k count past t e sc ranges h.base taken).after c s) sc.world c s os m)
      over = over_after k count past t e sc ranges h.base taken h.owners.owned h.owners.few
          (λ c s os m. Left past (gifts k count t.world h.base.all c s) t.world c s os m)
          (λ c s os m. Left past2 (gifts k count sc.world (followed k count past t e sc ranges h.base taken).after c s) sc.world c s os m)
          (record {
            over = d.over;
            stays = left_on;
            waits =
                λ c site at r a i m among between l pos own. waits c site at a m
                (alive k count past t h.base h.owners.owned c site (record { there = at; runs = r }) a i m among between l pos own);
          })
        where
          waits : (c : ClientId) (site : WorldClient) → site_of t.world c ≡ Some site → (a : Association) (m : Message) →
              AllPast t.world c a.server m ⊎ Pending past (gifts k count t.world h.base.all c a.server) t.world c a.server site.node.state.operations m →
              AllPast t.world c a.server m ⊎
              Waits sc (λ c s os m. Left past2 (gifts k count sc.world (followed k count past t e sc ranges h.base taken).after c s) sc.world c s os m) c
              a.server site.node.state.operations m
          waits c site at a m (inl p) = inl p
          waits c site at a m (inr z) = inr (z.operation, z.there, z.asked, λ qs gone open_. now_left c site at a.server qs m z gone open_)
