-- A step of a client of the first two forms keeps what is known of its association with the server.
use Rattle.st_lemmas.proofs.Words
use Words.{◌≡◌, ℕ, ◌+◌, ◌≤◌, ◌<◌, ◌⊎◌, false, List, ◌++◌, ◌∷◌, [], Some, None, refl, sym, ap, ◌∙◌, subst, arith}
use Words.{Config, ClientId, Life, ServerId, Stamp, Message, ClientInput}
use Words.inputs
use Words.outputs
use Words.Client as cl
use Words.ClientState.{Association, ClientSession, ClientState}
use Words.Keys.{server_node}
use Words.Safety.{Step}
use Words.Server.{ServerState}
use Words.World.{World, numbered}
use Words.Lists.{Has}
use Rattle.st_laws_lasting.specs.Lasting.{client_clock}
use Rattle.st_laws_leases.specs.Dates.Dates.{messages}
use Rattle.st_laws_requests.specs.Cuts.Cuts.{Numbers, view}
use Rattle.st_laws_steps.specs.Client.Losses.{Fit, is_ended}
use Rattle.st_laws_healthy.proofs.ClientStanding as standing
use Rattle.st_laws_healthy.proofs.ClientStanding.{IsNew, Middle}
use Rattle.st_laws_healthy.proofs.Happening.{Brings, Deaf}
use Rattle.st_laws_healthy.proofs.Hearing.{hears}
use Rattle.st_laws_healthy.proofs.Stepping as stepping
use Rattle.st_laws_healthy.proofs.Stepping.{IsNoMessage, TakesIn, Told, Walks, sends, walks}
use Rattle.st_laws_healthy.proofs.Talking.{Talks}
use Rattle.st_laws_healthy.proofs.Trips.{Begun, InTime}
use Rattle.st_laws_healthy.proofs.Walking.{Hears, IsHeard, IsLeft, Takes, Unheard, Walk}

-- no message is the input
none_heard : (i : ClientInput) (a : Association) → IsNoMessage i → Unheard i a
none_heard i a n m e l = absurd (subst IsNoMessage e n)

pub takes_as : (k : Config) (now : Stamp) (i : ClientInput) (a b : Association) → TakesIn k now i a b → Takes k.lease now i a b
takes_as k now i a b (stepping.IsLeft n sv l g alike) = IsLeft (none_heard i a n) sv l g alike
takes_as k now i a b (stepping.IsHeard t m is config here there sv l) =
    IsHeard m is
    (subst (λ y. Hears k.lease now m a y) (sym there)
    (subst (λ y. Hears k.lease now m y (Words.ClientReplies.receive_at now m.header m.body t).here) here
    (subst (λ (kb : Config). Hears kb.lease now m t.here (Words.ClientReplies.receive_at now m.header m.body t).here) config (hears t now m)))) sv l

-- a walk of the first two forms is a walk
abbrev pub walk_as : (k : Config) (st : ClientState) (config : st.config ≡ k) (now : Stamp) (i : ClientInput)
    (fit : (a : Association) → Has a st.associations → Fit a) (a b : Association) → Walks st now i fit a b → Walk st.config k.lease now i a b
walk_as k st config now i fit a b w =
    record {
      first = w.first;
      second = w.second;
      stays = sym w.loses.server;
      lasts = λ e. sym (w.loses.lasts e);
      lost = λ e. (sym (ap (λ (l : Life). l.0) (w.loses.lost e)), (w.gone e).0);
      going = w.loses.going;
      takes = subst (λ (kb : Config). Takes kb.lease now i w.first w.second) config (takes_as st.config now i w.first w.second w.takes);
      server = w.works.server;
      life = w.works.life;
      session = w.works.session;
      greeting = w.works.greeting;
    }

-- What is known of an association after a step of the client, and which one it was before it.
module _ (k : Config) (c : ClientId) (s : ServerId) (gap d : ℕ) (read : World → ℕ) (delay : ℕ) (past past2 : List Step) (ms ns : List Message) (n : ServerState)
    (now : Stamp) (st : ClientState) (i : ClientInput) (fit : (a : Association) → Has a st.associations → Fit a)
    (talks : (a : Association) → Has a st.associations → a.server ≡ s → (since : ℕ) × Talks k c s gap d read delay since past ms n now.0 a) where
  pub record TalksOn (b : Association) : Type 0 where
    pub was : Association
    pub among : Has was st.associations
    pub at_was : was.server ≡ s
    pub walk : Walks st now i fit was b
    pub lasts : is_ended st.config now was.session ≡ false
    pub life : b.life ≡ was.life
    pub middle : (z : ClientSession) → was.session ≡ Some z → Middle z (talks was among at_was).1.last walk.second.session
    pub since : ℕ
    pub same : (z v : ClientSession) → was.session ≡ Some z → b.session ≡ Some v → v.requests.next ≡ z.requests.next → since ≡ (talks was among at_was).0
    pub known : Talks k c s gap d read delay since past2 ns n now.0 b
    pub last_is : known.last ≡ (talks was among at_was).1.last

module _ (k : Config) (c : ClientId) (s : ServerId) (gap d : ℕ) (read : World → ℕ) (delay : ℕ) (few : c.0 ≤ 16) (past : List Step) (x : Step) (w : World)
    (ns : List Message) (more : (m : Message) → Has m (messages w) → Has m ns)
    (keeps : (i : ℕ) (m : Message) → numbered (messages w) i ≡ Some m → numbered ns i ≡ Some m) (now : Stamp) (clock : client_clock c x.after.world ≡ now.0)
    (in_time : InTime (client_clock c) c s d past (messages w) now.0) (begun : Begun (client_clock c) c s d past now.0)
    (now2 : ℕ) (clock2 : read x.after.world ≡ now2) (st : ClientState) (i : ClientInput)
    (new : (m : Message) → Has m ns → Has m (messages w) ⊎ IsNew c x ns now.0 (λ m. Has (outputs.Send m) (cl.client_step st now i).out) m)
    (fit : (a : Association) → Has a st.associations → Fit a) (config : st.config ≡ k) (brings : Brings w x.event c.0 i)
    (deaf_server : Deaf w x.event (server_node s)) (n : ServerState) (told : Told st now i fit i)
    (talks : (a : Association) → Has a st.associations → a.server ≡ s → (since : ℕ) × Talks k c s gap d read delay since past (messages w) n now.0 a)
    (young : (a : Association) → Has a st.associations → (z : ClientSession) → a.session ≡ Some z → z.lease.condemned ≡ false → z.requests.asked ≡ None →
    now.0 < z.lease.date.0 + k.renew + gap)
    (numbers : (a : Association) → Has a st.associations → Numbers (λ m. Has m (messages w)) c a.server a.life.0 (view a.session))
    (numbers2 : (b : Association) → Has b (cl.client_step st now i).state.associations → Numbers (λ m. Has m ns) c b.server b.life.0 (view b.session))
    (once : (a b : Association) → Has a (cl.client_step st now i).state.associations → Has b (cl.client_step st now i).state.associations →
    a.server.0 ≡ b.server.0 → a ≡ b) where
  abbrev after : List Association
  after = (cl.client_step st now i).state.associations

  abbrev W : Association → Association → Type 0
  W a b = Walk st.config k.lease now i a b

  abbrev walk_of : (a b : Association) → Walks st now i fit a b → W a b
  walk_of a b v = walk_as k st config now i fit a b v

  abbrev walks_as : (b : Association) → Has b after → (a : Association) × Has a st.associations × W a b
  walks_as b h = let v = walks st now i fit told b h in (v.0, v.1, walk_of v.0 b v.2)

  numbers_at : (a : Association) → Has a st.associations → a.server ≡ s → Numbers (λ m. Has m (messages w)) c s a.life.0 (view a.session)
  numbers_at a h at = subst (λ y. Numbers (λ m. Has m (messages w)) c y a.life.0 (view a.session)) at (numbers a h)

  numbers_then : (b : Association) → Has b after → b.server ≡ s → Numbers (λ m. Has m ns) c s b.life.0 (view b.session)
  numbers_then b h at = subst (λ y. Numbers (λ m. Has m ns) c y b.life.0 (view b.session)) at (numbers2 b h)

  -- if the leases with the server last
  pub client_talks : ((a : Association) → Has a st.associations → a.server ≡ s → is_ended st.config now a.session ≡ false) → (b : Association) →
      Has b after → b.server ≡ s → TalksOn k c s gap d read delay past (past ++ x ∷ []) (messages w) ns n now st i fit talks b
  client_talks ongoing b h at_b =
      let v = walks st now i fit told b h in
      let g = standing.open_goes k c s gap d read delay (omega (arith, few)) past x w ns more keeps now clock in_time begun now2 clock2 st.config i
      (λ m. Has (outputs.Send m) (cl.client_step st now i).out) new brings deaf_server n st.associations after walks_as (sends st now i fit) talks young
      numbers_at numbers_then once ongoing b h at_b in
      let at = standing.before_at k c s gap d read delay (omega (arith, few)) past x w ns more keeps now clock in_time begun now2 clock2 st.config i
      (λ m. Has (outputs.Send m) (cl.client_step st now i).out) new brings deaf_server n v.0 b (walk_of v.0 b v.2) at_b in
      record {
        was = v.0;
        among = v.1;
        at_was = at;
        walk = v.2;
        lasts = ongoing v.0 v.1 at;
        life = g.life;
        middle = g.middle;
        since = g.since;
        same = g.same;
        known = g.known;
        last_is = g.last_is;
      }

  -- whether they last or not
  pub any_talks : (b : Association) → Has b after → b.server ≡ s → (since : ℕ) × Talks k c s gap d read delay since (past ++ x ∷ []) ns n now.0 b
  any_talks b h at_b =
      standing.any_talks k c s gap d read delay (omega (arith, few)) past x w ns more keeps now clock in_time begun now2 clock2 st.config i
      (λ m. Has (outputs.Send m) (cl.client_step st now i).out) new brings deaf_server n st.associations after walks_as (sends st now i fit) talks young
      numbers_at numbers_then once b h at_b
