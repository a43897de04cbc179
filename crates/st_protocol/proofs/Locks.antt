-- The lock layer over restarts, of the present epoch.
use Rattle.std.proofs.Common.{◌≡◌, ℕ, ◌+◌, ◌<◌, ◌≤◌, ◌⊎◌, true, false, refl, inl, inr, arith}
use Rattle.st_protocol.specs.Assoc.{Config, Lock, Body, Msg, renews, Row, upd, Client, Server, Assoc, In, send, Joined, Settled, Demanded, Move, Hello, Plain, Released, Reassert, Welcome, Ack, Reasserted, Granted, Demand, OfOtherEpoch, Advance, Greets, Asks, Loses, Crashes, Begins, Renews, Installs, AskedOfNone, Asked, Declines, Repeats, Again, Sweeps, Reduces, Adopts, Reasserts, Settles, Welcomes, WelcomesAgain, Acks, Refuses, Accepts, Steals, GraceEnds, Grants, GrantsAgain, Demands, Releases, Rises, Stops, Starts}
use Rattle.st_protocol.proofs.Lists.{upd_all, upd_both, in_cons, swept}
use Rattle.st_protocol.proofs.Timing.{Timing, of_client}

-- the lease is held and over, so that nothing but its loss can come
abbrev pub Late : Config → Client → Type 0
Late k c = record { leased : c.leased ≡ true; late : c.date + k.lease ≤ c.clock }

abbrev pub Gone : Config → Assoc → Type 0
Gone k a =
    record {
      ended : a.s.session ≡ a.c.life;
      dead : a.s.live ≡ false;
      replies : (m : Msg) → In m a.net → renews m.body ≡ true → m.life ≡ a.c.life → m.stamp + k.lease ≤ a.c.clock;
    }

abbrev pub Lost : Config → Assoc → Type 0
Lost k a = Gone k a ⊎ Late k a.c

abbrev pub Covered : ℕ → Row → ℕ → ℕ → Type 0
Covered life r g mode = record { of_life : r.life ≡ life; at_least : g ≤ r.g; high : mode ≤ r.mode }

abbrev pub Rowed : Server → Row → Type 0
Rowed s r = record { of_session : r.life ≡ s.session; live : s.live ≡ true; below : r.g ≤ s.top }

abbrev pub Low : ℕ → Body → Type 0
Low top (Granted i g mode) = g ≤ top
Low top (Demand i g to) = g ≤ top
Low top (Reassert locks) = (i : ℕ) → (locks i).g ≤ top
Low top (Released i g to) = Unit {0}
Low top Hello = Unit {0}
Low top Plain = Unit {0}
Low top Welcome = Unit {0}
Low top Ack = Unit {0}
Low top Reasserted = Unit {0}
Low top OfOtherEpoch = Unit {0}

-- a message of the present life and epoch
abbrev pub Now : ℕ → (ℕ → Row) → (ℕ → Lock) → (ℕ → ℕ) → Type 0 → Type 0 → Type 0 → Body → Type 0
Now life row held seen G E W (Granted i g mode) = record { some : 1 ≤ mode; cases : Covered life (row i) g mode ⊎ ((g ≤ seen i) ⊎ G) }
Now life row held seen G E W (Demand i g to) = Covered life (row i) g 1 ⊎ ((g ≤ seen i) ⊎ G)
Now life row held seen G E W (Released i g to) = record { joined : E; seen : g ≤ seen i; at_most : (held i).g ≤ g → (held i).mode ≤ to }
Now life row held seen G E W (Reassert locks) = record { joined : E; all : W → (i : ℕ) → 1 ≤ (held i).mode → ((held i).g ≤ (locks i).g) × ((held i).mode ≤ (locks i).mode) }
Now life row held seen G E W Hello = Unit {0}
Now life row held seen G E W Plain = Unit {0}
Now life row held seen G E W Welcome = Unit {0}
Now life row held seen G E W Ack = Unit {0}
Now life row held seen G E W Reasserted = Unit {0}
Now life row held seen G E W OfOtherEpoch = Unit {0}

abbrev pub OfNow : Config → Assoc → Body → Type 0
OfNow k a b = Now a.c.life a.s.row a.c.held a.c.seen (Lost k a) (a.c.epoch ≡ a.s.epoch) (a.s.session < a.c.life) b

pub record Locks (k : Config) (a : Assoc) : Type 0 where
  pub born : 1 ≤ a.c.life
  pub begun : 1 ≤ a.s.epoch
  pub down : a.s.up ≡ false → (a.s.session ≡ 0) × ((i : ℕ) → (a.s.row i).mode ≡ 0)
  pub new : a.c.leased ≡ false → (a.c.epoch ≡ 0) × ((i : ℕ) → (a.c.held i).mode ≡ 0) × ((i : ℕ) → a.c.seen i ≡ 0)
  pub seen : (i : ℕ) → 1 ≤ (a.c.held i).mode → (a.c.held i).g ≡ a.c.seen i
  pub below : (i : ℕ) → (a.c.held i).g ≤ a.s.top
  pub low : (m : Msg) → In m a.net → Low a.s.top m.body
  pub rows : (i : ℕ) → 1 ≤ (a.s.row i).mode → Rowed a.s (a.s.row i)
  pub joined : a.s.up ≡ true → a.c.epoch ≡ a.s.epoch → a.c.leased ≡ true → a.c.due ≡ false → a.c.life ≤ a.s.session
  pub graced : a.s.up ≡ true → a.s.grace ≡ true → a.s.session ≡ a.c.life → a.c.epoch ≡ a.s.epoch
  pub held : a.s.up ≡ true → a.c.epoch ≡ a.s.epoch → a.s.session ≡ a.c.life → (i : ℕ) → 1 ≤ (a.c.held i).mode → Covered a.c.life (a.s.row i) (a.c.held i).g (a.c.held i).mode ⊎ Lost k a
  pub msgs : a.s.up ≡ true → (m : Msg) → In m a.net → m.life ≡ a.c.life → m.epoch ≡ a.s.epoch → OfNow k a m.body

low_up : (t u : ℕ) → t ≤ u → (b : Body) → Low t b → Low u b
low_up t u h (Granted i g mode) l = omega (arith, l)
low_up t u h (Demand i g to) l = omega (arith, l)
low_up t u h (Reassert locks) l = λ i. omega (arith, l i)
low_up t u h (Released i g to) l = l
low_up t u h Hello l = l
low_up t u h Plain l = l
low_up t u h Welcome l = l
low_up t u h Ack l = l
low_up t u h Reasserted l = l
low_up t u h OfOtherEpoch l = l

pub now_with : (life : ℕ) (row row2 : ℕ → Row) (held held2 : ℕ → Lock) (seen seen2 : ℕ → ℕ) (G H E F W V : Type 0) → (G → H) → (E → F) → (E → V → W) →
    ((d : ℕ) → seen d ≤ seen2 d) →
    ((d g mode : ℕ) → 1 ≤ mode → Covered life (row d) g mode → Covered life (row2 d) g mode ⊎ ((g ≤ seen2 d) ⊎ H)) →
    ((d g to : ℕ) → E → g ≤ seen d → ((held d).g ≤ g → (held d).mode ≤ to) → (held2 d).g ≤ g → (held2 d).mode ≤ to) →
    ((d g mode : ℕ) → E → V → (1 ≤ (held d).mode → ((held d).g ≤ g) × ((held d).mode ≤ mode)) → 1 ≤ (held2 d).mode → ((held2 d).g ≤ g) × ((held2 d).mode ≤ mode)) →
    (b : Body) → Now life row held seen G E W b → Now life row2 held2 seen2 H F V b
now_with life row row2 held held2 seen seen2 G H E F W V f e w up at rel re (Granted i g mode) n = record { some = n.some; cases = go n.cases }
  where
    go : Covered life (row i) g mode ⊎ ((g ≤ seen i) ⊎ G) → Covered life (row2 i) g mode ⊎ ((g ≤ seen2 i) ⊎ H)
    go (inl c) = at i g mode n.some c
    go (inr (inl s)) = inr (inl (omega (arith, up i)))
    go (inr (inr x)) = inr (inr (f x))
now_with life row row2 held held2 seen seen2 G H E F W V f e w up at rel re (Demand i g to) (inl c) = at i g 1 (omega arith) c
now_with life row row2 held held2 seen seen2 G H E F W V f e w up at rel re (Demand i g to) (inr (inl s)) = inr (inl (omega (arith, up i)))
now_with life row row2 held held2 seen seen2 G H E F W V f e w up at rel re (Demand i g to) (inr (inr x)) = inr (inr (f x))
now_with life row row2 held held2 seen seen2 G H E F W V f e w up at rel re (Released i g to) n =
    record { joined = e n.joined; seen = (let q = n.seen in omega (arith, up i)); at_most = rel i g to n.joined n.seen n.at_most }
now_with life row row2 held held2 seen seen2 G H E F W V f e w up at rel re (Reassert locks) n =
    record { joined = e n.joined; all = λ v i. re i (locks i).g (locks i).mode n.joined v (n.all (w n.joined v) i) }
now_with life row row2 held held2 seen seen2 G H E F W V f e w up at rel re Hello n = n
now_with life row row2 held held2 seen seen2 G H E F W V f e w up at rel re Plain n = n
now_with life row row2 held held2 seen seen2 G H E F W V f e w up at rel re Welcome n = n
now_with life row row2 held held2 seen seen2 G H E F W V f e w up at rel re Ack n = n
now_with life row row2 held held2 seen seen2 G H E F W V f e w up at rel re Reasserted n = n
now_with life row row2 held held2 seen seen2 G H E F W V f e w up at rel re OfOtherEpoch n = n

module _ (k : Config) where
  pub born : {a b : Assoc} → Move k a b → Locks k a → 1 ≤ b.c.life
  born (Loses a h i) l = omega arith
  born (Crashes a) l = omega arith
  born _ l = l.born

  pub begun : {a b : Assoc} → Move k a b → Locks k a → 1 ≤ b.s.epoch
  begun (Starts a u) l = omega arith
  begun _ l = l.begun

  pub down : {a b : Assoc} → Move k a b → Locks k a → b.s.up ≡ false → (b.s.session ≡ 0) × ((i : ℕ) → (b.s.row i).mode ≡ 0)
  down (Welcomes a life stamp j sv gr s r) l u = cc (sv.up)
  down (Accepts a life stamp locks j sv gr s r) l u = cc (sv.up)
  down (Grants a st i g mode as_ li sv gr to mo tw) l u = cc (sv.up)
  down (Releases a stamp i g to j sv e ro mo) l u = cc (sv.up)
  down (Steals a u2 on h gr) l u = cc
  down (Sweeps a row p) l u = ((l.down u).0, λ j. swept (λ r. r.mode ≡ 0) (row j) (a.s.row j) (p j) ((l.down u).1 j) (λ z. refl))
  down (Stops a u2) l u = (refl, λ i. refl)
  down (Starts a u2) l u = cc
  down _ l u = l.down u

  pub new : {a b : Assoc} → Move k a b → Locks k a → b.c.leased ≡ false → (b.c.epoch ≡ 0) × ((i : ℕ) → (b.c.held i).mode ≡ 0) × ((i : ℕ) → b.c.seen i ≡ 0)
  new (Loses a h i) l e = (refl, λ i. refl, λ i. refl)
  new (Crashes a) l e = (refl, λ i. refl, λ i. refl)
  new (AskedOfNone a stamp i g to j h mo top se sg) l e = cc (h.leased)
  new (Declines a stamp i g mode j h se z) l e = cc (h.leased)
  new (Begins a stamp epoch i h j) l e = cc
  new (Installs a stamp i g mode j h s) l e = cc (h.leased)
  new (Asked a stamp i g to j h mo se) l e = cc (h.leased)
  new (Reduces a i to h jo fe so mo gn ge gl) l e = cc (h.leased)
  new (Adopts a stamp epoch i h j) l e = cc (h.leased)
  new _ l e = l.new e

  pub seen : {a b : Assoc} → Move k a b → Locks k a → (i : ℕ) → 1 ≤ (b.c.held i).mode → (b.c.held i).g ≡ b.c.seen i
  seen (Loses a h i) l j o = absurd (omega arith)
  seen (Crashes a) l j o = absurd (omega arith)
  seen (Begins a stamp epoch i h w) l j o = absurd (omega arith)
  seen (Declines a stamp i g mode j h se z) l d o = upd_all (λ d s. 1 ≤ (a.c.held d).mode → (a.c.held d).g ≡ s) a.c.seen i g (λ o. absurd (omega arith)) (λ d n o. l.seen d o) d o
  seen (Installs a stamp i g mode j h s) l d o = upd_both (λ d x s. 1 ≤ x.mode → x.g ≡ s) a.c.held a.c.seen i (record { g = g; mode = mode }) g (λ o. refl) (λ d n o. l.seen d o) d o
  seen (Asked a stamp i g to j h mo se) l d o = upd_both (λ d x s. 1 ≤ x.mode → x.g ≡ s) a.c.held a.c.seen i (record { g = g; mode = (a.c.held i).mode }) g (λ o. refl) (λ d n o. l.seen d o) d o
  seen (AskedOfNone a stamp i g to j h mo top se sg) l d o = upd_all (λ d s. 1 ≤ (a.c.held d).mode → (a.c.held d).g ≡ s) a.c.seen i top (λ o. absurd (omega arith)) (λ d n o. l.seen d o) d o
  seen (Reduces a i to h jo fe so mo gn ge gl) l d o = upd_all (λ d x. 1 ≤ x.mode → x.g ≡ a.c.seen d) a.c.held i (record { g = gn; mode = to }) (λ o. let s = l.seen i (omega arith) in let q = gl o in omega (arith, s)) (λ d n o. l.seen d o) d o
  seen _ l j o = l.seen j o

  pub below : {a b : Assoc} → Move k a b → Locks k a → (i : ℕ) → (b.c.held i).g ≤ b.s.top
  below (Loses a h i) l j = omega arith
  below (Crashes a) l j = omega arith
  below (Begins a stamp epoch i h w) l j = omega arith
  below (Installs a stamp i g mode j h s) l d = upd_all (λ d x. x.g ≤ a.s.top) a.c.held i (record { g = g; mode = mode }) (l.low _ j) (λ d n. l.below d) d
  below (Asked a stamp i g to j h mo se) l d = upd_all (λ d x. x.g ≤ a.s.top) a.c.held i (record { g = g; mode = (a.c.held i).mode }) (l.low _ j) (λ d n. l.below d) d
  below (Reduces a i to h jo fe so mo gn ge gl) l d = upd_all (λ d x. x.g ≤ a.s.top) a.c.held i (record { g = gn; mode = to }) (let q = l.below i in omega arith) (λ d n. l.below d) d
  below (Grants a st i g mode as_ li sv gr to mo tw) l d = omega (arith, l.below d)
  below (Rises a g h) l d = omega (arith, l.below d)
  below _ l j = l.below j

  pub low : {a b : Assoc} → Move k a b → Locks k a → (m : Msg) → In m b.net → Low b.s.top m.body
  low (Greets a h) l m i = in_cons (λ m. Low a.s.top m.body) _ a.net tt l.low m i
  low (Asks a h) l m i = in_cons (λ m. Low a.s.top m.body) _ a.net tt l.low m i
  low (AskedOfNone a stamp i g to j h mo top se sg) l m w = in_cons (λ m. Low a.s.top m.body) _ a.net tt l.low m w
  low (Reduces a i to h jo fe so mo gn ge gl) l m w = in_cons (λ m. Low a.s.top m.body) _ a.net tt l.low m w
  low (Declines a stamp i g mode j h se z) l m w = in_cons (λ m. Low a.s.top m.body) _ a.net tt l.low m w
  low (Repeats a was b j r h) l m w = in_cons (λ m. Low a.s.top m.body) _ a.net (l.low _ j) l.low m w
  low (Again a was stamp b j f i sv li) l m w = in_cons (λ m. Low a.s.top m.body) _ a.net (l.low _ j) l.low m w
  low (Reasserts a h du) l m w = in_cons (λ m. Low a.s.top m.body) _ a.net l.below l.low m w
  low (Welcomes a life stamp j sv gr s r) l m w = in_cons (λ m. Low a.s.top m.body) _ a.net tt l.low m w
  low (WelcomesAgain a stamp j sv li gr) l m w = in_cons (λ m. Low a.s.top m.body) _ a.net tt l.low m w
  low (Acks a stamp j sv li) l m w = in_cons (λ m. Low a.s.top m.body) _ a.net tt l.low m w
  low (Refuses a n j sv) l m w = in_cons (λ m. Low a.s.top m.body) _ a.net tt l.low m w
  low (Accepts a life stamp locks j sv gr s r) l m w = in_cons (λ m. Low a.s.top m.body) _ a.net tt l.low m w
  low (Grants a st i g mode as_ li sv gr to mo tw) l m w = in_cons (λ m. Low g m.body) _ a.net (omega arith) (λ m w. low_up a.s.top g (omega arith) m.body (l.low m w)) m w
  low (GrantsAgain a i sv mo) l m w = in_cons (λ m. Low a.s.top m.body) _ a.net (l.rows i mo).below l.low m w
  low (Demands a i to sv mo) l m w = in_cons (λ m. Low a.s.top m.body) _ a.net (l.rows i mo).below l.low m w
  low (Releases a stamp i g to j sv e ro mo) l m w = in_cons (λ m. Low a.s.top m.body) _ a.net tt l.low m w
  low (Rises a g h) l m w = low_up a.s.top g (omega arith) m.body (l.low m w)
  low _ l m w = l.low m w

  pub rows : {a b : Assoc} → Move k a b → Locks k a → (i : ℕ) → 1 ≤ (b.s.row i).mode → Rowed b.s (b.s.row i)
  rows (Welcomes a life stamp j sv gr s r) l i o = absurd (omega (arith, r i))
  rows (Accepts a life stamp locks j sv gr s r) l i o = record { of_session = refl; live = refl; below = l.low _ j i }
  rows (Steals a u on h gr) l j o = absurd (omega arith)
  rows (Stops a u) l j o = absurd (omega arith)
  rows (Grants a st i g mode as_ li sv gr to mo tw) l j o =
      let b : Server = record a.s { row = upd a.s.row i (record { life = a.s.session; g = g; mode = mode }); top = g } in
      upd_all (λ i r. 1 ≤ r.mode → Rowed b r) a.s.row i _ (λ o. record { of_session = refl; live = li; below = omega arith })
      (λ d n o. let w = l.rows d o in record { of_session = w.of_session; live = w.live; below = omega (arith, w.below) }) j o
  rows (Releases a stamp i g to h sv e ro mo) l j o =
      upd_all (λ i r. 1 ≤ r.mode → Rowed a.s r) a.s.row i _
      (λ o. let w = l.rows i ro in record { of_session = w.of_session; live = w.live; below = omega (arith, w.below) }) (λ d n o. l.rows d o) j o
  rows (Sweeps a row p) l j o = swept (λ r. 1 ≤ r.mode → Rowed a.s r) (row j) (a.s.row j) (p j) (l.rows j) (λ z o. absurd (omega arith)) o
  rows (Rises a g h) l j o = let w = l.rows j o in record { of_session = w.of_session; live = w.live; below = omega (arith, w.below) }
  rows _ l i o = l.rows i o

  pub joined : {a b : Assoc} → Move k a b → Timing k a → Locks k a → b.s.up ≡ true → b.c.epoch ≡ b.s.epoch → b.c.leased ≡ true → b.c.due ≡ false → b.c.life ≤ b.s.session
  joined (Loses a h i) t l u e on du = cc
  joined (Crashes a) t l u e on du = cc
  joined (Begins a stamp epoch i h j) t l u e on du = (t.sent _ i).known refl e u
  joined (Adopts a stamp epoch i h j) t l u e on du = cc
  joined (Settles a stamp i h) t l u e on du = (t.sent _ i).known refl e u
  joined (Welcomes a life stamp j sv gr s r) t l u e on du = let q = l.joined u e on du in omega arith
  joined (Accepts a life stamp locks j sv gr s r) t l u e on du = let q = l.joined u e on du in omega arith
  joined (Stops a u2) t l u e on du = cc
  joined (Starts a u2) t l u e on du = absurd (omega (arith, t.ahead))
  joined _ t l u e on du = l.joined u e on du

  -- the client of which something was demanded belongs to the session
  pub joined_now : (a : Assoc) → Timing k a → Locks k a → a.s.up ≡ true → a.c.epoch ≡ a.s.epoch → a.c.leased ≡ true → Joined a.c a.net → a.c.life ≤ a.s.session
  joined_now a t l u e on (Settled du) = l.joined u e on du
  joined_now a t l u e on (Demanded stamp i g to w) = (t.sent _ w).known refl e u

  pub gone_sent : (a : Assoc) (n : Msg) → renews n.body ≡ false → Gone k a → Gone k (send n a)
  gone_sent a n e g = record { ended = g.ended; dead = g.dead; replies = in_cons (λ m. renews m.body ≡ true → m.life ≡ a.c.life → m.stamp + k.lease ≤ a.c.clock) n a.net (λ w. cc) g.replies }

  pub gone : {a b : Assoc} → Move k a b → Timing k a → Locks k a → b.c.life ≡ a.c.life → b.s.up ≡ true → Gone k a → Gone k b
  gone (Advance a dc ds dr h lim) t l e u g = record { ended = g.ended; dead = g.dead; replies = λ m i w x. omega (arith, g.replies m i w x) }
  gone (Loses a h i) t l e u g = absurd (omega arith)
  gone (Crashes a) t l e u g = absurd (omega arith)
  gone (Greets a h) t l e u g = gone_sent a _ refl g
  gone (Asks a h) t l e u g = gone_sent a _ refl g
  gone (AskedOfNone a stamp i g to j h mo top se sg) t l e u w = gone_sent a _ refl w
  gone (Reduces a i to h jo fe so mo gn ge gl) t l e u w = gone_sent a _ refl w
  gone (Declines a stamp i g mode j h se z) t l e u w = gone_sent a _ refl w
  gone (Repeats a was b j r h) t l e u w = gone_sent a _ (of_client b r).1 w
  gone (Again a was stamp b j f i sv li) t l e u w = cc (w.dead)
  gone (Reasserts a h du) t l e u w = gone_sent a _ refl w
  gone (Refuses a n j sv) t l e u w = gone_sent a _ refl w
  gone (Welcomes a life stamp j sv gr s r) t l e u g = let p = (t.sent _ j).of_life in absurd (omega (arith, p, g.ended))
  gone (Accepts a life stamp locks j sv gr s r) t l e u g = let p = (t.sent _ j).of_life in absurd (omega (arith, p, g.ended))
  gone (WelcomesAgain a stamp j sv li gr) t l e u g = cc (g.dead)
  gone (Acks a stamp j sv li) t l e u g = cc (g.dead)
  gone (Grants a st i g mode as_ li sv gr to mo tw) t l e u w = cc (w.dead)
  gone (GrantsAgain a i sv mo) t l e u w = cc (w.dead, (l.rows i mo).live)
  gone (Demands a i to sv mo) t l e u w = cc (w.dead, (l.rows i mo).live)
  gone (Releases a stamp i g to j sv x ro mo) t l e u w = cc (w.dead, (l.rows i ro).live)
  gone (Steals a u2 on h gr) t l e u g = record { ended = g.ended; dead = refl; replies = g.replies }
  gone (Stops a u2) t l e u g = cc
  gone _ t l e u g = g

  pub late : {a b : Assoc} → Move k a b → b.c.life ≡ a.c.life → Late k a.c → Late k b.c
  late (Advance a dc ds dr h lim) e x = record { leased = x.leased; late = omega (arith, x.late) }
  late (Loses a h i) e x = absurd (omega arith)
  late (Crashes a) e x = absurd (omega arith)
  late (Begins a stamp epoch i h j) e x = cc (x.leased)
  late (Renews a stamp i h j) e x = absurd (omega (arith, x.late, h.lasts))
  late _ e x = x

  pub lost : {a b : Assoc} → Move k a b → Timing k a → Locks k a → b.c.life ≡ a.c.life → b.s.up ≡ true → Lost k a → Lost k b
  lost m t l e u (inl g) = inl (gone m t l e u g)
  lost m t l e u (inr x) = inr (late m e x)

  pub graced : {a b : Assoc} → Move k a b → Timing k a → Locks k a → b.s.up ≡ true → b.s.grace ≡ true → b.s.session ≡ b.c.life → b.c.epoch ≡ b.s.epoch
  graced (Loses a h i) t l u g e = absurd (omega (arith, t.lives))
  graced (Crashes a) t l u g e = absurd (omega (arith, t.lives))
  graced (Begins a stamp epoch i h j) t l u g e = let q = l.graced u g e in absurd (omega (arith, (l.new h).0, l.begun))
  graced (Adopts a stamp epoch i h j) t l u g e = let q = l.graced u g e in absurd (omega (arith, (t.sent _ i).of_epoch))
  graced (Welcomes a life stamp j sv gr s r) t l u g e = cc
  graced (Accepts a life stamp locks j sv gr s r) t l u g e = (l.msgs u _ j e refl).joined
  graced (GraceEnds a u2 gr h) t l u g e = cc
  graced (Stops a u2) t l u g e = cc
  graced (Starts a u2) t l u g e = absurd (omega (arith, (l.down u2).0, l.born))
  graced _ t l u g e = l.graced u g e
