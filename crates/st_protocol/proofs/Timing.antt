-- The timing layer over restarts.
use Rattle.std.proofs.Common.{◌≡◌, ℕ, ◌+◌, ◌*◌, ◌<◌, ◌≤◌, ◌⊎◌, Bool, true, false, List, refl, inl, inr, arith, if◌then◌else◌}
use Rattle.std.proofs.Math.Nat.{mul-le-mul_left, le_of_mul-le-mul_left}
use Rattle.st_protocol.specs.Assoc.{Config, ConfigOk, Body, Msg, renews, of_session, of_request, Assoc, In, client, server, msg, end_now, TheftIsLate, Move, Hello, Plain, Released, Reassert, Welcome, Ack, Reasserted, Granted, Demand, OfOtherEpoch, Advance, Greets, Asks, Loses, Crashes, Begins, Renews, Installs, AskedOfNone, Asked, Declines, Repeats, Again, Works, Rests, Sweeps, Reduces, Adopts, Reasserts, Settles, Welcomes, WelcomesAgain, Acks, Refuses, Accepts, Suspects, Steals, GraceEnds, Grants, GrantsAgain, Demands, Releases, Stops, Starts}
use Rattle.st_protocol.proofs.Lists.{upd_all, in_cons, swept}

abbrev pub Sent : Assoc → Msg → Type 0
Sent a m =
    record {
      stamped : m.stamp ≤ a.c.clock;
      of_life : m.life ≤ a.c.life;
      of_epoch : m.epoch ≤ a.s.epoch;
      known : of_session m.body ≡ true → m.epoch ≡ a.s.epoch → a.s.up ≡ true → m.life ≤ a.s.session;
    }

-- a reply with this stamp was sent for this life, in an epoch up to this
abbrev pub Replied : List Msg → ℕ → ℕ → ℕ → Type 0
Replied net life epoch stamp = (e : ℕ) × (body : Body) × (renews body ≡ true) × (e ≤ epoch) × In (msg life e stamp body) net

-- the clock sums since a moment of the server, at which the client's clock was base
abbrev pub Since : Config → ℕ → ℕ → ℕ → ℕ → ℕ → Type 0
Since k drift server client start base =
    record { sums : k.den * server + k.num * base ≤ k.num * client + k.den * start + drift; based : base ≤ client; started : start ≤ server }

-- a lease that ended had the date of a reply
abbrev pub DatedEnd : Config → List Msg → ℕ → ℕ → Type 0
DatedEnd k net life end = (end ≡ 0) ⊎ ((e : ℕ) × (body : Body) × (renews body ≡ true) × (stamp : ℕ) × (end ≡ stamp + k.lease) × In (msg life e stamp body) net)

pub record Timing (k : Config) (a : Assoc) : Type 0 where
  pub ends : (l : ℕ) → DatedEnd k a.net l (a.c.ended l)
  pub limit : a.s.drift ≤ k.den * k.grain
  pub lives : a.s.session ≤ a.c.life
  pub ahead : a.c.epoch ≤ a.s.epoch
  pub rows : (i : ℕ) → (a.s.row i).life ≤ a.s.session
  pub sent : (m : Msg) → In m a.net → Sent a m
  pub dated : a.c.leased ≡ true → Replied a.net a.c.life a.c.epoch a.c.date
  pub timer : a.s.timed ≡ true → Since k a.s.drift a.s.clock a.c.clock a.s.start a.s.base
  pub stamps : a.s.timed ≡ true → (m : Msg) → In m a.net → renews m.body ≡ true → m.stamp ≤ a.s.base
  pub grace : a.s.up ≡ true → a.s.grace ≡ true → Since k a.s.drift a.s.clock a.c.clock a.s.gstart a.s.gbase
  pub old : a.s.up ≡ true → (m : Msg) → In m a.net → renews m.body ≡ true → m.epoch < a.s.epoch → m.stamp ≤ a.s.gbase
  pub past : a.s.up ≡ true → a.s.grace ≡ false → (m : Msg) → In m a.net → renews m.body ≡ true → m.epoch < a.s.epoch → m.stamp + k.lease ≤ a.c.clock

pub renews_of : (b : Body) → renews b ≡ true → of_session b ≡ true
renews_of Welcome e = refl
renews_of Ack e = refl
renews_of Reasserted e = refl
renews_of Hello e = e
renews_of Plain e = e
renews_of (Released i g to) e = e
renews_of (Reassert l) e = e
renews_of (Granted i g mode) e = refl
renews_of (Demand i g to) e = refl
renews_of OfOtherEpoch e = e

-- a body that a client repeats renews nothing, and belongs to no session
pub of_client : (b : Body) → of_request b ≡ true → (of_session b ≡ false) × (renews b ≡ false)
of_client Plain e = (refl, refl)
of_client (Released i g to) e = (refl, refl)
of_client (Reassert l) e = (refl, refl)
of_client Hello e = cc
of_client Welcome e = cc
of_client Ack e = cc
of_client Reasserted e = cc
of_client (Granted i g mode) e = cc
of_client (Demand i g to) e = cc
of_client OfOtherEpoch e = cc

module _ (k : Config) where
  -- what each move adds to the network, if anything
  pub grows : {a b : Assoc} → Move k a b → (m : Msg) → In m a.net → In m b.net
  grows (Greets a h) m i = inr i
  grows (Asks a h) m i = inr i
  grows (AskedOfNone a stamp i g to j h mo top se sg) m w = inr w
  grows (Reduces a i to h jo fe so mo gn ge gl) m w = inr w
  grows (Declines a stamp i g mode j h se z) m w = inr w
  grows (Repeats a was b j r h) m w = inr w
  grows (Again a was stamp b j f i sv l) m w = inr w
  grows (Reasserts a h du) m w = inr w
  grows (Welcomes a life stamp j sv gr s r) m w = inr w
  grows (WelcomesAgain a stamp j sv l gr) m w = inr w
  grows (Acks a stamp j sv l) m w = inr w
  grows (Refuses a n j sv) m w = inr w
  grows (Accepts a life stamp locks j sv gr s r) m w = inr w
  grows (Grants a st i g mode as_ l sv gr to mo tw) m w = inr w
  grows (GrantsAgain a i sv mo) m w = inr w
  grows (Demands a i to sv mo) m w = inr w
  grows (Releases a stamp i g to j sv e ro mo) m w = inr w
  grows _ m w = w

  by_client : (a : Assoc) → Timing k a → (epoch stamp : ℕ) (b : Body) → stamp ≤ a.c.clock → of_session b ≡ false → epoch ≤ a.c.epoch → Sent a (msg a.c.life epoch stamp b)
  by_client a t epoch stamp b st f e = record { stamped = st; of_life = omega arith; of_epoch = omega (arith, t.ahead); known = λ x. cc }

  by_server : (a : Assoc) → Timing k a → (life stamp : ℕ) (b : Body) → life ≤ a.s.session → stamp ≤ a.c.clock → Sent a (msg life a.s.epoch stamp b)
  by_server a t life stamp b l s = record { stamped = s; of_life = omega (arith, t.lives); of_epoch = omega arith; known = λ x y z. l }

  sent_old : {a b : Assoc} → Move k a b → Timing k a → (m : Msg) → Sent a m → Sent b m
  sent_old (Advance a dc ds dr h lim) t m p = record { stamped = omega (arith, p.stamped); of_life = p.of_life; of_epoch = p.of_epoch; known = p.known }
  sent_old (Loses a h i) t m p = record { stamped = p.stamped; of_life = omega (arith, p.of_life); of_epoch = p.of_epoch; known = p.known }
  sent_old (Crashes a) t m p = record { stamped = p.stamped; of_life = omega (arith, p.of_life); of_epoch = p.of_epoch; known = p.known }
  sent_old (Welcomes a life stamp i sv gr s r) t m p = record { stamped = p.stamped; of_life = p.of_life; of_epoch = p.of_epoch; known = λ x y z. let q = p.known x y z in omega (arith, q) }
  sent_old (Accepts a life stamp locks i sv gr s r) t m p = record { stamped = p.stamped; of_life = p.of_life; of_epoch = p.of_epoch; known = λ x y z. let q = p.known x y z in omega (arith, q) }
  sent_old (Stops a u) t m p = record { stamped = p.stamped; of_life = p.of_life; of_epoch = p.of_epoch; known = λ x y z. cc }
  sent_old (Starts a u) t m p = record { stamped = p.stamped; of_life = p.of_life; of_epoch = omega (arith, p.of_epoch); known = λ x y z. absurd (omega (arith, p.of_epoch)) }
  sent_old _ t m p = p

  sent : {a b : Assoc} → Move k a b → Timing k a → (m : Msg) → In m b.net → Sent b m
  sent (Greets a h) t m i = in_cons (Sent a) _ a.net (by_client a t 0 a.c.clock Hello (omega arith) refl (omega arith)) t.sent m i
  sent (Asks a h) t m i = in_cons (Sent a) _ a.net (by_client a t a.c.epoch a.c.clock Plain (omega arith) refl (omega arith)) t.sent m i
  sent (AskedOfNone a stamp i g to j h mo top se sg) t m w = in_cons (Sent a) _ a.net (by_client a t a.c.epoch 0 (Released i g 0) (omega arith) refl (omega arith)) t.sent m w
  sent (Reduces a i to h jo fe so mo gn ge gl) t m w = in_cons (Sent a) _ a.net (by_client a t a.c.epoch 0 (Released i (a.c.held i).g to) (omega arith) refl (omega arith)) t.sent m w
  sent (Declines a stamp i g mode j h se z) t m w = in_cons (Sent a) _ a.net (by_client a t a.c.epoch 0 (Released i g 0) (omega arith) refl (omega arith)) t.sent m w
  sent (Repeats a was b j r h) t m w = in_cons (Sent a) _ a.net (by_client a t a.c.epoch a.c.clock b (omega arith) (of_client b r).0 (omega arith)) t.sent m w
  sent (Again a was stamp b j f i sv l) t m w = in_cons (Sent a) _ a.net (by_server a t a.s.session stamp b (omega arith) (t.sent _ i).stamped) t.sent m w
  sent (Reasserts a h du) t m w = in_cons (Sent a) _ a.net (by_client a t a.c.epoch a.c.clock (Reassert a.c.held) (omega arith) refl (omega arith)) t.sent m w
  sent (Welcomes a life stamp j sv gr s r) t m i =
      let w = server (record a.s { session = life; live = true }) a in
      in_cons (Sent w) _ a.net (record { stamped = (t.sent _ j).stamped; of_life = (t.sent _ j).of_life; of_epoch = omega arith; known = λ x y z. omega arith })
      (λ m j2. sent_old (Welcomes a life stamp j sv gr s r) t m (t.sent m j2)) m i
  sent (Accepts a life stamp locks j sv gr s r) t m i =
      let w = server (record a.s { session = life; live = true; row = λ i. record { life = life; g = (locks i).g; mode = (locks i).mode } }) a in
      in_cons (Sent w) _ a.net (record { stamped = (t.sent _ j).stamped; of_life = (t.sent _ j).of_life; of_epoch = omega arith; known = λ x y z. omega arith })
      (λ m j2. sent_old (Accepts a life stamp locks j sv gr s r) t m (t.sent m j2)) m i
  sent (WelcomesAgain a stamp j sv l gr) t m i = in_cons (Sent a) _ a.net (by_server a t a.s.session stamp Welcome (omega arith) (t.sent _ j).stamped) t.sent m i
  sent (Acks a stamp j sv l) t m i = in_cons (Sent a) _ a.net (by_server a t a.s.session stamp Ack (omega arith) (t.sent _ j).stamped) t.sent m i
  sent (Refuses a n j sv) t m i =
      in_cons (Sent a) _ a.net (record { stamped = (t.sent n j).stamped; of_life = (t.sent n j).of_life; of_epoch = omega arith; known = λ x. cc }) t.sent m i
  sent (Grants a st i g mode as_ l sv gr to mo tw) t m w = in_cons (Sent a) _ a.net (by_server a t a.s.session 0 (Granted i g mode) (omega arith) (omega arith)) t.sent m w
  sent (GrantsAgain a i sv mo) t m w = in_cons (Sent a) _ a.net (by_server a t (a.s.row i).life 0 (Granted i (a.s.row i).g (a.s.row i).mode) (t.rows i) (omega arith)) t.sent m w
  sent (Demands a i to sv mo) t m w = in_cons (Sent a) _ a.net (by_server a t (a.s.row i).life 0 (Demand i (a.s.row i).g to) (t.rows i) (omega arith)) t.sent m w
  sent (Releases a stamp i g to j sv e ro mo) t m w = in_cons (Sent a) _ a.net (by_server a t (a.s.row i).life stamp Ack (t.rows i) (t.sent _ j).stamped) t.sent m w
  sent mv t m i = sent_old mv t m (t.sent m i)

  limit : {a b : Assoc} → Move k a b → Timing k a → b.s.drift ≤ k.den * k.grain
  limit (Advance a dc ds dr h lim) t = lim
  limit _ t = t.limit

  lives : {a b : Assoc} → Move k a b → Timing k a → b.s.session ≤ b.c.life
  lives (Loses a h i) t = omega (arith, t.lives)
  lives (Crashes a) t = omega (arith, t.lives)
  lives (Welcomes a life stamp i sv gr s r) t = (t.sent _ i).of_life
  lives (Accepts a life stamp locks i sv gr s r) t = (t.sent _ i).of_life
  lives (Stops a u) t = omega arith
  lives _ t = t.lives

  ahead : {a b : Assoc} → Move k a b → Timing k a → b.c.epoch ≤ b.s.epoch
  ahead (Loses a h i) t = omega arith
  ahead (Crashes a) t = omega arith
  ahead (Begins a stamp epoch i h j) t = (t.sent _ i).of_epoch
  ahead (Adopts a stamp epoch i h j) t = (t.sent _ i).of_epoch
  ahead (Starts a u) t = omega (arith, t.ahead)
  ahead _ t = t.ahead

  rows : {a b : Assoc} → Move k a b → Timing k a → (i : ℕ) → (b.s.row i).life ≤ b.s.session
  rows (Welcomes a life stamp j sv gr s r) t i = omega (arith, t.rows i)
  rows (Accepts a life stamp locks j sv gr s r) t i = omega arith
  rows (Steals a u on h gr) t j = omega arith
  rows (Stops a u) t j = omega arith
  rows (Grants a st i g mode as_ l sv gr to mo tw) t j = upd_all (λ i r. r.life ≤ a.s.session) a.s.row i _ (omega arith) (λ d n. t.rows d) j
  rows (Releases a stamp i g to h sv e ro mo) t j = upd_all (λ i r. r.life ≤ a.s.session) a.s.row i _ (t.rows i) (λ d n. t.rows d) j
  rows (Sweeps a row p) t j = swept (λ r. r.life ≤ a.s.session) (row j) (a.s.row j) (p j) (t.rows j) (λ z. omega arith)
  rows _ t i = t.rows i

  replied_grows : {a b : Assoc} → Move k a b → (life epoch e2 stamp : ℕ) → epoch ≤ e2 → Replied a.net life epoch stamp → Replied b.net life e2 stamp
  replied_grows m life epoch e2 stamp le r = (r.0, r.1, r.2, (let q = r.3 in omega arith), grows m (msg life r.0 stamp r.1) r.4)

  dated : {a b : Assoc} → Move k a b → Timing k a → b.c.leased ≡ true → Replied b.net b.c.life b.c.epoch b.c.date
  dated (Loses a h i) t on = cc
  dated (Crashes a) t on = cc
  dated (Begins a stamp epoch i h j) t on = (epoch, Welcome, refl, omega arith, i)
  dated (Renews a stamp i h j) t on = (a.c.epoch, Ack, refl, omega arith, i)
  dated (Settles a stamp i h) t on = t.dated on
  dated (Works a busy h f) t on = t.dated on
  dated (Rests a busy f) t on = t.dated on
  dated (Adopts a stamp epoch i h j) t on = replied_grows (Adopts a stamp epoch i h j) a.c.life a.c.epoch epoch a.c.date (omega arith) (t.dated on)
  dated (Installs a stamp i g mode j h s) t on = t.dated on
  dated (Asked a stamp i g to j h mo se) t on = t.dated on
  dated (Advance a dc ds dr h lim) t on = t.dated on
  dated (Greets a h) t on = replied_grows (Greets a h) a.c.life a.c.epoch a.c.epoch a.c.date (omega arith) (t.dated on)
  dated (Asks a h) t on = replied_grows (Asks a h) a.c.life a.c.epoch a.c.epoch a.c.date (omega arith) (t.dated on)
  dated (AskedOfNone a stamp i g to j h mo top se sg) t on = replied_grows (AskedOfNone a stamp i g to j h mo top se sg) a.c.life a.c.epoch a.c.epoch a.c.date (omega arith) (t.dated on)
  dated (Reduces a i to h jo fe so mo gn ge gl) t on = replied_grows (Reduces a i to h jo fe so mo gn ge gl) a.c.life a.c.epoch a.c.epoch a.c.date (omega arith) (t.dated on)
  dated (Declines a stamp i g mode j h se z) t on = replied_grows (Declines a stamp i g mode j h se z) a.c.life a.c.epoch a.c.epoch a.c.date (omega arith) (t.dated on)
  dated (Repeats a was b j r h) t on = replied_grows (Repeats a was b j r h) a.c.life a.c.epoch a.c.epoch a.c.date (omega arith) (t.dated on)
  dated (Reasserts a h du) t on = replied_grows (Reasserts a h du) a.c.life a.c.epoch a.c.epoch a.c.date (omega arith) (t.dated on)
  dated {a} m t on = replied_grows m a.c.life a.c.epoch a.c.epoch a.c.date (omega arith) (t.dated on)

  end_grows : {a b : Assoc} → Move k a b → (life end : ℕ) → DatedEnd k a.net life end → DatedEnd k b.net life end
  end_grows m life end (inl e) = inl e
  end_grows m life end (inr r) = inr (r.0, r.1, r.2, r.3, r.4, grows m (msg life r.0 r.3 r.1) r.5)

  end_here : (a : Assoc) → Timing k a → DatedEnd k a.net a.c.life (end_now k a.c)
  end_here a t = go a.c.leased refl
    where
      go : (b : Bool) → a.c.leased ≡ b → DatedEnd k a.net a.c.life (if b then a.c.date + k.lease else 0)
      go true e = let d = t.dated e in inr (d.0, d.1, d.2, a.c.date, refl, d.4)
      go false e = inl refl

  ends : {a b : Assoc} → Move k a b → Timing k a → (l : ℕ) → DatedEnd k b.net l (b.c.ended l)
  ends (Loses a h i) t l = upd_all (λ l x. DatedEnd k a.net l x) a.c.ended a.c.life (end_now k a.c) (end_here a t) (λ d n. t.ends d) l
  ends (Crashes a) t l = upd_all (λ l x. DatedEnd k a.net l x) a.c.ended a.c.life (end_now k a.c) (end_here a t) (λ d n. t.ends d) l
  ends {a} m t l = end_grows m l (a.c.ended l) (t.ends l)

  since_on : (dr d2 s c start base ds dc : ℕ) → dr + k.den * ds ≤ d2 + k.num * dc → Since k dr s c start base → Since k d2 (s + ds) (c + dc) start base
  since_on dr d2 s c start base ds dc h o = record { sums = omega (arith, o.sums); based = omega (arith, o.based); started = omega (arith, o.started) }

  since_now : (dr s c : ℕ) → Since k dr s c s c
  since_now dr s c = record { sums = omega arith; based = omega arith; started = omega arith }

  timer : {a b : Assoc} → Move k a b → Timing k a → b.s.timed ≡ true → Since k b.s.drift b.s.clock b.c.clock b.s.start b.s.base
  timer (Advance a dc ds dr h lim) t on = since_on _ _ _ _ _ _ _ _ h (t.timer on)
  timer (Suspects a h) t on = since_now a.s.drift a.s.clock a.c.clock
  timer (Steals a u h i gr) t on = cc
  timer (Stops a u) t on = cc
  timer _ t on = t.timer on

  grace : {a b : Assoc} → Move k a b → Timing k a → b.s.up ≡ true → b.s.grace ≡ true → Since k b.s.drift b.s.clock b.c.clock b.s.gstart b.s.gbase
  grace (Advance a dc ds dr h lim) t u on = since_on _ _ _ _ _ _ _ _ h (t.grace u on)
  grace (GraceEnds a u2 gr h) t u on = cc
  grace (Stops a u2) t u on = cc
  grace (Starts a u2) t u on = since_now a.s.drift a.s.clock a.c.clock
  grace _ t u on = t.grace u on

  pub over : (dr s c start base : ℕ) → dr ≤ k.den * k.grain → ConfigOk k → Since k dr s c start base → start + k.wait ≤ s → (stamp : ℕ) → stamp ≤ base → stamp + k.lease ≤ c
  over dr s c start base lim ok t h stamp le =
      let waited : k.den * (start + k.wait) ≤ k.den * s = mul-le-mul_left k.den h in
      let based : k.num * stamp ≤ k.num * base = mul-le-mul_left k.num le in
      le_of_mul-le-mul_left {k = k.num} (omega (arith, t.sums, ok.wait_long)) ok.num_pos

  abbrev Stamps : Assoc → Msg → Type 0
  Stamps a m = renews m.body ≡ true → m.stamp ≤ a.s.base

  stamps : {a b : Assoc} → Move k a b → Timing k a → b.s.timed ≡ true → (m : Msg) → In m b.net → renews m.body ≡ true → m.stamp ≤ b.s.base
  stamps (Greets a h) t on m y = in_cons (Stamps a) _ a.net (λ e. cc) (t.stamps on) m y
  stamps (Asks a h) t on m y = in_cons (Stamps a) _ a.net (λ e. cc) (t.stamps on) m y
  stamps (AskedOfNone a stamp i g to j h mo top se sg) t on m y = in_cons (Stamps a) _ a.net (λ e. cc) (t.stamps on) m y
  stamps (Reduces a i to h jo fe so mo gn ge gl) t on m y = in_cons (Stamps a) _ a.net (λ e. cc) (t.stamps on) m y
  stamps (Declines a stamp i g mode j h se z) t on m y = in_cons (Stamps a) _ a.net (λ e. cc) (t.stamps on) m y
  stamps (Repeats a was b j r h) t on m y = in_cons (Stamps a) _ a.net (λ e. let z = (of_client b r).1 in cc) (t.stamps on) m y
  stamps (Again a was stamp b j f i sv l) t on m y = cc (sv.free)
  stamps (Reasserts a h du) t on m y = in_cons (Stamps a) _ a.net (λ e. cc) (t.stamps on) m y
  stamps (Welcomes a life stamp j sv gr s r) t on m y = cc (sv.free)
  stamps (WelcomesAgain a stamp j sv l gr) t on m y = cc (sv.free)
  stamps (Acks a stamp j sv l) t on m y = cc (sv.free)
  stamps (Refuses a n j sv) t on m y = cc (sv.free)
  stamps (Accepts a life stamp locks j sv gr s r) t on m y = cc (sv.free)
  stamps (Grants a st i g mode as_ l sv gr to mo tw) t on m y = cc (sv.free)
  stamps (GrantsAgain a i sv mo) t on m y = cc (sv.free)
  stamps (Demands a i to sv mo) t on m y = cc (sv.free)
  stamps (Releases a stamp i g to j sv e ro mo) t on m y = cc (sv.free)
  stamps (Suspects a h) t on m y = λ e. (t.sent m y).stamped
  stamps (Steals a u h i gr) t on m y = cc
  stamps (Stops a u) t on m y = cc
  stamps _ t on m y = t.stamps on m y

  abbrev Old : Assoc → Msg → Type 0
  Old a m = renews m.body ≡ true → m.epoch < a.s.epoch → m.stamp ≤ a.s.gbase

  old : {a b : Assoc} → Move k a b → Timing k a → b.s.up ≡ true → (m : Msg) → In m b.net → renews m.body ≡ true → m.epoch < b.s.epoch → m.stamp ≤ b.s.gbase
  old (Greets a h) t u m y = in_cons (Old a) _ a.net (λ e f. cc) (t.old u) m y
  old (Asks a h) t u m y = in_cons (Old a) _ a.net (λ e f. cc) (t.old u) m y
  old (AskedOfNone a stamp i g to j h mo top se sg) t u m y = in_cons (Old a) _ a.net (λ e f. cc) (t.old u) m y
  old (Reduces a i to h jo fe so mo gn ge gl) t u m y = in_cons (Old a) _ a.net (λ e f. cc) (t.old u) m y
  old (Declines a stamp i g mode j h se z) t u m y = in_cons (Old a) _ a.net (λ e f. cc) (t.old u) m y
  old (Repeats a was b j r h) t u m y = in_cons (Old a) _ a.net (λ e f. let z = (of_client b r).1 in cc) (t.old u) m y
  old (Again a was stamp b j f i sv l) t u m y = in_cons (Old a) _ a.net (λ e2 f. absurd (omega arith)) (t.old u) m y
  old (Reasserts a h du) t u m y = in_cons (Old a) _ a.net (λ e f. cc) (t.old u) m y
  old (Welcomes a life stamp j sv gr s r) t u m y = in_cons (Old a) _ a.net (λ e2 f. absurd (omega arith)) (t.old u) m y
  old (WelcomesAgain a stamp j sv l gr) t u m y = in_cons (Old a) _ a.net (λ e2 f. absurd (omega arith)) (t.old u) m y
  old (Acks a stamp j sv l) t u m y = in_cons (Old a) _ a.net (λ e2 f. absurd (omega arith)) (t.old u) m y
  old (Refuses a n j sv) t u m y = in_cons (Old a) _ a.net (λ e2 f. absurd (omega arith)) (t.old u) m y
  old (Accepts a life stamp locks j sv gr s r) t u m y = in_cons (Old a) _ a.net (λ e2 f. absurd (omega arith)) (t.old u) m y
  old (Grants a st i g mode as_ l sv gr to mo tw) t u m y = in_cons (Old a) _ a.net (λ e2 f. absurd (omega arith)) (t.old u) m y
  old (GrantsAgain a i sv mo) t u m y = in_cons (Old a) _ a.net (λ e2 f. absurd (omega arith)) (t.old u) m y
  old (Demands a i to sv mo) t u m y = in_cons (Old a) _ a.net (λ e2 f. absurd (omega arith)) (t.old u) m y
  old (Releases a stamp i g to j sv e ro mo) t u m y = in_cons (Old a) _ a.net (λ e2 f. absurd (omega arith)) (t.old u) m y
  old (Stops a u2) t u m y = cc
  old (Starts a u2) t u m y = λ e f. (t.sent m y).stamped
  old _ t u m y = t.old u m y

  abbrev Past : Assoc → Msg → Type 0
  Past a m = renews m.body ≡ true → m.epoch < a.s.epoch → m.stamp + k.lease ≤ a.c.clock

  past : {a b : Assoc} → ConfigOk k → Move k a b → Timing k a → b.s.up ≡ true → b.s.grace ≡ false → (m : Msg) → In m b.net → renews m.body ≡ true → m.epoch < b.s.epoch → m.stamp + k.lease ≤ b.c.clock
  past ok (Greets a h) t u off m y = in_cons (Past a) _ a.net (λ e f. cc) (t.past u off) m y
  past ok (Asks a h) t u off m y = in_cons (Past a) _ a.net (λ e f. cc) (t.past u off) m y
  past ok (AskedOfNone a stamp i g to j h mo top se sg) t u off m y = in_cons (Past a) _ a.net (λ e f. cc) (t.past u off) m y
  past ok (Reduces a i to h jo fe so mo gn ge gl) t u off m y = in_cons (Past a) _ a.net (λ e f. cc) (t.past u off) m y
  past ok (Declines a stamp i g mode j h se z) t u off m y = in_cons (Past a) _ a.net (λ e f. cc) (t.past u off) m y
  past ok (Repeats a was b j r h) t u off m y = in_cons (Past a) _ a.net (λ e f. let z = (of_client b r).1 in cc) (t.past u off) m y
  past ok (Again a was stamp b j f i sv l) t u off m y = in_cons (Past a) _ a.net (λ e2 f. absurd (omega arith)) (t.past u off) m y
  past ok (Reasserts a h du) t u off m y = in_cons (Past a) _ a.net (λ e f. cc) (t.past u off) m y
  past ok (Welcomes a life stamp j sv gr s r) t u off m y = in_cons (Past a) _ a.net (λ e2 f. absurd (omega arith)) (t.past u off) m y
  past ok (WelcomesAgain a stamp j sv l gr) t u off m y = in_cons (Past a) _ a.net (λ e2 f. absurd (omega arith)) (t.past u off) m y
  past ok (Acks a stamp j sv l) t u off m y = in_cons (Past a) _ a.net (λ e2 f. absurd (omega arith)) (t.past u off) m y
  past ok (Refuses a n j sv) t u off m y = in_cons (Past a) _ a.net (λ e2 f. absurd (omega arith)) (t.past u off) m y
  past ok (Accepts a life stamp locks j sv gr s r) t u off m y = in_cons (Past a) _ a.net (λ e2 f. absurd (omega arith)) (t.past u off) m y
  past ok (Grants a st i g mode as_ l sv gr to mo tw) t u off m y = in_cons (Past a) _ a.net (λ e2 f. absurd (omega arith)) (t.past u off) m y
  past ok (GrantsAgain a i sv mo) t u off m y = in_cons (Past a) _ a.net (λ e2 f. absurd (omega arith)) (t.past u off) m y
  past ok (Demands a i to sv mo) t u off m y = in_cons (Past a) _ a.net (λ e2 f. absurd (omega arith)) (t.past u off) m y
  past ok (Releases a stamp i g to j sv e ro mo) t u off m y = in_cons (Past a) _ a.net (λ e2 f. absurd (omega arith)) (t.past u off) m y
  past ok (Advance a dc ds dr h lim) t u off m y = λ e f. omega (arith, t.past u off m y e f)
  past ok (GraceEnds a u2 gr h) t u off m y = λ e f. over a.s.drift a.s.clock a.c.clock a.s.gstart a.s.gbase t.limit ok (t.grace u gr) h m.stamp (t.old u m y e f)
  past ok (Stops a u2) t u off m y = cc
  past ok (Starts a u2) t u off m y = cc
  past ok _ t u off m y = t.past u off m y

  pub timing : {a b : Assoc} → ConfigOk k → Move k a b → Timing k a → Timing k b
  timing ok m t =
      record {
        limit = limit m t;
        ends = ends m t;
        lives = lives m t;
        ahead = ahead m t;
        rows = rows m t;
        sent = sent m t;
        dated = dated m t;
        timer = timer m t;
        stamps = stamps m t;
        grace = grace m t;
        old = old m t;
        past = past ok m t;
      }

  -- a timer that is over finds the end of every lease of this client passed
  pub late : (a : Assoc) → ConfigOk k → Timing k a → TheftIsLate k a
  late a ok t on h =
      record {
        present = λ e. let d = t.dated e in reached (msg a.c.life d.0 a.c.date d.1) d.4 d.2;
        past = λ l. gone l (t.ends l);
      }
    where
      reached : (m : Msg) → In m a.net → renews m.body ≡ true → m.stamp + k.lease ≤ a.c.clock
      reached m i r = over a.s.drift a.s.clock a.c.clock a.s.start a.s.base t.limit ok (t.timer on) h m.stamp (t.stamps on m i r)

      gone : (l : ℕ) → DatedEnd k a.net l (a.c.ended l) → a.c.ended l ≤ a.c.clock
      gone l (inl e) = omega arith
      gone l (inr r) = let z = reached (msg l r.0 r.3 r.1) r.5 r.2 in let y = r.4 in omega arith

  -- a timer that is over finds every lease that a reply ever dated at its end
  pub replies_late : (a : Assoc) → ConfigOk k → Timing k a → a.s.timed ≡ true → a.s.start + k.wait ≤ a.s.clock → (m : Msg) → In m a.net → renews m.body ≡ true → m.stamp + k.lease ≤ a.c.clock
  replies_late a ok t on h m i r = over a.s.drift a.s.clock a.c.clock a.s.start a.s.base t.limit ok (t.timer on) h m.stamp (t.stamps on m i r)
