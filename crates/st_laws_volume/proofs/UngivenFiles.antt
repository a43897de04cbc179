-- Refusals of requests for a file whose inode a server had not given yet: a grant of the file comes
-- from a later request. What is known of a client's grants, and of its locks, in these terms.
use Rattle.st_lemmas.proofs.Words
use Words.{◌≡◌, ◌⊎◌, ℕ, ◌+◌, ◌≤◌, ◌<◌, arith, true, List, [], ◌∷◌, ◌++◌, Some, Ok, refl, sym, ap, ◌∙◌, subst, inl, inr}
use Words.{ClientId, Event, Message, Request, ServerId}
use Words.bodies
use Words.why
use Words.ClientState.{Association, ClientSession}
use Words.Events.{WorldTurn, world_step}
use Words.History.{Traced}
use Words.Lists.{Has}
use Words.Numbers.{numbered_has}
use Words.Safety.{Step, step}
use Words.Server.{ServerNode}
use Words.Tables.{has_append, has_map_in}
use Words.Truth.{below_or_not}
use Words.World.{World, WorldClient, node_of, site_of}
use Rattle.st_laws_leases.specs.Dates.Dates.{message_in, messages}
use Rattle.st_laws_requests.specs.Cuts.Cuts.{AssociationOk, Between, CutsHold, Keyed, Numbered, Placed, view}
use Rattle.st_laws_names.specs.Keys.{ServedAt}
use Rattle.st_laws_volume.proofs.NextInodes.{event_up}

-- In one of these steps a server refused a request under this key, of a file whose inode it had not
-- given yet.
pub record IsRefused (past : List Step) (c : ClientId) (s : ServerId) (life epoch number ino : ℕ) :
    Type 0 where
  pub y : Step
  pub among : Has y past
  pub n : ℕ
  pub served : ServedAt y c s life epoch number (bodies.Nack why.NoFile ino n)
  pub ungiven : served.serves.old.state.stable.names.next ≤ ino

-- a message of a later life, or epoch, or number
abbrev pub IsLater : ℕ → ℕ → ℕ → Message → Type 0
IsLater life epoch number m =
    (life < m.header.life)
    ⊎ ((life ≡ m.header.life) × ((epoch < m.header.epoch)
    ⊎ ((epoch ≡ m.header.epoch) × (number < m.header.number))))

-- a request of the client to the server under a later key was sent
pub record HasLater (ms : List Message) (c : ClientId) (s : ServerId) (life epoch number : ℕ) :
    Type 0 where
  pub message : Message
  pub among : Has message ms
  pub between : Between c s message
  pub first : 1 ≤ message.header.number
  pub later : IsLater life epoch number message

-- the server has given the inode
abbrev pub IsGiven : World → ServerId → ℕ → Type 0
IsGiven w s ino =
    (node : ServerNode) → node_of w s ≡ Some node → ino < node.state.stable.names.next

-- A file whose inode was given: the client sent a request after each such refusal of it.
pub record IsKnown (past : List Step) (w : World) (c : ClientId) (s : ServerId) (ino : ℕ) : Type 0
  where
    pub given : IsGiven w s ino
    pub later : (life epoch number : ℕ) → IsRefused past c s life epoch number ino →
        HasLater (messages w) c s life epoch number

-- The same, and of the refusals in one life and epoch the request is in these too.
pub record IsUnder (past : List Step) (w : World) (s : ServerId) (epoch : ℕ) (c : ClientId)
    (life ino : ℕ) : Type 0 where
  pub given : IsGiven w s ino
  pub message : Message
  pub among : Has message (messages w)
  pub between : Between c s message
  pub first : 1 ≤ message.header.number
  pub of_life : message.header.life ≡ life
  pub of_epoch : message.header.epoch ≡ epoch
  pub later : (number : ℕ) → IsRefused past c s life epoch number ino →
      number < message.header.number

-- An event leaves it.
module _ (past : List Step) (t : Traced) (e : Event) (sc : WorldTurn)
    (happened : world_step t.world e ≡ Ok sc)
    (grown : (m : Message) → Has m (messages t.world) → Has m (messages sc.world)) where
  abbrev past2 : List Step
  past2 = past ++ step t e sc ∷ []

  given_on : (s : ServerId) (ino : ℕ) → IsGiven t.world s ino → IsGiven sc.world s ino
  given_on s ino h node at =
      let z = event_up t.world e sc happened s node at in
      let l = h z.old z.was in
      let u = z.up in omega (arith, l, u)

  -- none of a file whose inode was given is refused so in the event
  before : (c : ClientId) (s : ServerId) (life epoch number ino : ℕ) → IsGiven t.world s ino →
      IsRefused past2 c s life epoch number ino → IsRefused past c s life epoch number ino
  before c s life epoch number ino h r = go (has_append past (step t e sc ∷ []) r.y r.among)
    where
      no : r.y ≡ step t e sc → ⊥
      no q =
          let l = h r.served.serves.old
          (ap (λ (y : Step). node_of y.before.world s) (sym q) ∙ r.served.serves.was) in
          let u = r.ungiven in omega (arith, l, u)

      go : Has r.y past ⊎ Has r.y (step t e sc ∷ []) → IsRefused past c s life epoch number ino
      go (inl j) =
          record { y = r.y; among = j; n = r.n; served = r.served; ungiven = r.ungiven }
      go (inr (inl q)) = absurd (no q)
      go (inr (inr j)) = absurd j

  pub known_on : (c : ClientId) (s : ServerId) (ino : ℕ) → IsKnown past t.world c s ino →
      IsKnown past2 sc.world c s ino
  known_on c s ino h =
      record {
        given = given_on s ino h.given;
        later = λ life epoch number r.
            let z = h.later life epoch number (before c s life epoch number ino h.given r) in
            record {
              message = z.message;
              among = grown z.message z.among;
              between = z.between;
              first = z.first;
              later = z.later;
            };
      }

  pub under_on : (s : ServerId) (epoch : ℕ) (c : ClientId) (life ino : ℕ) →
      IsUnder past t.world s epoch c life ino → IsUnder past2 sc.world s epoch c life ino
  under_on s epoch c life ino h =
      record {
        given = given_on s ino h.given;
        message = h.message;
        among = grown h.message h.among;
        between = h.between;
        first = h.first;
        of_life = h.of_life;
        of_epoch = h.of_epoch;
        later = λ number r. h.later number (before c s life epoch number ino h.given r);
      }

-- A client with a session of a server.
module _ (past : List Step) (t : Traced) (cuts : CutsHold past t) (c : ClientId)
    (site : WorldClient) (at : site_of t.world c ≡ Some site) (runs : site.node.running ≡ true)
    (a : Association) (among : Has a site.node.state.associations) (x : ClientSession)
    (has : a.session ≡ Some x) where
  ok : AssociationOk past (messages t.world) c site.node.state.operations a
  ok = (cuts.clients c site at).all runs a among

  placed : (m : Message) → Has m (messages t.world) → Between c a.server m →
      m.header.life ≡ a.life.0 → 1 ≤ m.header.number → Numbered x.epoch.0 x.requests m
  placed m i b = subst (λ o. Placed a.life.0 (view o) m) has (ok.numbers.placed m i b)

  -- A request that the server refused so has a number from 1 on, and is of this life and epoch or of
  -- an earlier one.
  module _ (life epoch number ino : ℕ) (r : IsRefused past c a.server life epoch number ino) where
    abbrev m : Message
    m = r.served.sent.message

    key : Keyed c a.server life epoch number m
    key = r.served.serves.keyed

    sent : Has m (messages t.world)
    sent =
        cuts.grown r.y r.among m
        (has_map_in message_in r.y.before.world.net.messages r.served.sent
        (numbered_has r.y.before.world.net.messages r.served.index r.served.sent r.served.is))

    first : 1 ≤ m.header.number
    first = let e = r.served.serves.served.next in omega (arith, e)

    low : m.header.life ≤ a.life.0
    low = ok.numbers.lives m sent key.between

    -- a grant in this life and epoch comes from a later request
    known_here : (z : Message) → Has z (messages t.world) → Between c a.server z →
        1 ≤ z.header.number → z.header.life ≡ a.life.0 → z.header.epoch ≡ x.epoch.0 →
        ((number : ℕ) → IsRefused past c a.server a.life.0 x.epoch.0 number ino →
        number < z.header.number) →
        HasLater (messages t.world) c a.server life epoch number
    known_here z i b f of_life of_epoch under =
        record {
          message = z;
          among = i;
          between = b;
          first = f;
          later = go (below_or_not life a.life.0);
        }
      where
        same_epoch : life ≡ a.life.0 → epoch ≡ x.epoch.0 → number < z.header.number
        same_epoch l q =
            under number
            (subst (λ n. IsRefused past c a.server n x.epoch.0 number ino) l
            (subst (λ n. IsRefused past c a.server life n number ino) q r))

        same_life : life ≡ a.life.0 → (epoch < x.epoch.0) ⊎ (x.epoch.0 ≤ epoch) →
            IsLater life epoch number z
        same_life l (inl e) = inr (l ∙ sym of_life, inl (let q = of_epoch in omega (arith, e, q)))
        same_life l (inr e) =
            let u = (placed m sent key.between (key.of_life ∙ l) first).up_to in
            let k = key.of_epoch in
            let q : epoch ≡ x.epoch.0 = omega (arith, e, u, k) in
            inr (l ∙ sym of_life, inr (q ∙ sym of_epoch, same_epoch l q))

        go : (life < a.life.0) ⊎ (a.life.0 ≤ life) → IsLater life epoch number z
        go (inl l) = inl (let q = of_life in omega (arith, l, q))
        go (inr l) =
            let u = low in
            let k = key.of_life in
            let q : life ≡ a.life.0 = omega (arith, l, u, k) in
            same_life q (below_or_not epoch x.epoch.0)

  -- So a file is known, of which a grant in this life and epoch comes.
  pub known_by : (ino : ℕ) → IsUnder past t.world a.server x.epoch.0 c a.life.0 ino →
      IsKnown past t.world c a.server ino
  known_by ino u =
      record {
        given = u.given;
        later = λ life epoch number r.
            known_here life epoch number ino r u.message u.among u.between u.first
            u.of_life u.of_epoch
            u.later;
      }

  -- But no request was sent after the outstanding one.
  pub none_later : (q : Request) → x.requests.asked ≡ Some q →
      q.number + 1 ≡ x.requests.next →
      HasLater (messages t.world) c a.server a.life.0 x.epoch.0 q.number → ⊥
  none_later q asked last z = go z.later
    where
      m : Message
      m = z.message

      up : m.header.life ≤ a.life.0
      up = ok.numbers.lives m z.among z.between

      number : a.life.0 ≡ m.header.life → Numbered x.epoch.0 x.requests m
      number l = placed m z.among z.between (sym l) z.first

      below : a.life.0 ≡ m.header.life → x.epoch.0 ≡ m.header.epoch → q.number < m.header.number →
          ⊥
      below l e n =
          let k = (number l).below (sym e) in let y = last in omega (arith, k, y, n)

      later : a.life.0 ≡ m.header.life → x.epoch.0 < m.header.epoch → ⊥
      later l e = let k = (number l).up_to in omega (arith, k, e)

      go : IsLater a.life.0 x.epoch.0 q.number m → ⊥
      go (inl l) = let u = up in omega (arith, l, u)
      go (inr (l, inl e)) = later l e
      go (inr (l, inr (e, n))) = below l e n
