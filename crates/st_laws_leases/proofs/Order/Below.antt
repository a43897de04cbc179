-- Moves leave the numbers of changes below every exclusive lock.
use Rattle.st_lemmas.proofs.Words
use Words.{◌≡◌, ℕ, ◌<◌, ◌≤◌, ◌⊎◌, true, false, ◌∷◌, refl, sym, ap, subst, inl, inr, arith}
use Rattle.st_protocol.specs.Assoc.{Config, ConfigOk, Lock, Msg, upd, Client, Assoc, In, Alive, msg, Move, Moves, Stays, GoesOn, Reassert, Granted, Advance}
use Rattle.st_protocol.specs.Assoc.{Greets, Asks, Loses, Crashes, Begins, Renews, Installs, AskedOfNone, Asked, Declines, Repeats, Again, Sweeps, Reduces}
use Rattle.st_protocol.specs.Assoc.{Adopts, Reasserts, Welcomes, WelcomesAgain, Acks, Refuses, Accepts, Suspects, Steals, GraceEnds, Grants, GrantsAgain}
use Rattle.st_protocol.specs.Assoc.{Demands, Releases, Rises, Stops, Starts}
use Rattle.st_protocol.proofs.Lists.{swept, upd_all, upd_up}
use Rattle.st_protocol.proofs.Timing.{Timing}
use Rattle.st_protocol.proofs.Locks.{Locks}
use Rattle.st_protocol.proofs.Claims.{AskedFor, in_back}
use Rattle.st_protocol.proofs.Invariant.{Invariant, kept_one}
use Rattle.st_laws_leases.specs.Order.Order.{Below}

granted_is : (i g m i2 g2 m2 : ℕ) → Granted i g m ≡ Granted i2 g2 m2 → (i ≡ i2) × (g ≡ g2) × (m ≡ m2)
granted_is i g m i2 g2 m2 e = (cc e, cc e, cc e)

module _ (k : Config) (H : ℕ → ℕ) where
  abbrev Rows : Assoc → Type 0
  Rows a = (i : ℕ) → 2 ≤ (a.s.row i).mode → H i ≤ (a.s.row i).g

  abbrev Held' : Assoc → Type 0
  Held' a = Alive k a.c → (i : ℕ) → 2 ≤ (a.c.held i).mode → H i ≤ (a.c.held i).g

  abbrev Comes : Assoc → Type 0
  Comes a = Alive k a.c → (stamp i g mode : ℕ) → In (msg a.c.life a.c.epoch stamp (Granted i g mode)) a.net → 2 ≤ mode → a.c.seen i < g → H i ≤ g

  abbrev Asserts : Assoc → Type 0
  Asserts a = a.s.up ≡ true → a.s.grace ≡ true → a.s.timed ≡ false → (life stamp : ℕ) (locks : ℕ → Lock) → In (msg life a.s.epoch stamp (Reassert locks)) a.net →
      a.s.session < life → (i : ℕ) → 2 ≤ (locks i).mode → H i ≤ (locks i).g

  rows : {a b : Assoc} → Move k a b → Below k H a → Rows b
  rows (Accepts a life stamp locks j sv gr s r) o = λ i two. o.asserts sv.up gr sv.free life stamp locks j s i two
  rows (Steals a u on h gr) o = λ i two. absurd (omega (arith, two))
  rows (Stops a u) o = λ i two. absurd (omega (arith, two))
  rows (Grants a st i g mode as_ li sv gr to mo tw) o =
      upd_all (λ d r. 2 ≤ r.mode → H d ≤ r.g) a.s.row i (record { life = a.s.session; g = g; mode = mode }) (λ two. let z = o.top i in omega (arith, z, to)) (λ d n two. o.rows d two)
  rows (Releases a stamp i g to j sv e ro mo) o =
      upd_all (λ d r. 2 ≤ r.mode → H d ≤ r.g) a.s.row i (record { life = (a.s.row i).life; g = g; mode = to }) (λ two. let z = o.rows i (omega (arith, two, mo)) in omega (arith, z, e)) (λ d n two. o.rows d two)
  rows (Sweeps a row p) o = λ i two. swept (λ r. 2 ≤ r.mode → H i ≤ r.g) (row i) (a.s.row i) (p i) (o.rows i) (λ z t. absurd (omega (arith, t))) two
  rows m o = o.rows

  held : {a b : Assoc} → Move k a b → Below k H a → Held' b
  held (Advance a dc ds dr h lim) o = λ al i two. let z = al.lasts in o.held (record { leased = al.leased; lasts = omega (arith, z) }) i two
  held (Loses a h j) o = λ al i two. absurd (omega (arith, two))
  held (Crashes a) o = λ al i two. absurd (omega (arith, two))
  held (Begins a stamp epoch j h w) o = λ al i two. absurd (omega (arith, two))
  held (Renews a stamp j h w) o = λ al. o.held h
  held (Installs a stamp i g mode j h s) o = λ al. upd_all (λ d l. 2 ≤ l.mode → H d ≤ l.g) a.c.held i (record { g = g; mode = mode }) (λ two. o.comes h stamp i g mode j two s) (λ d n two. o.held h d two)
  held (Asked a stamp i g to j h one le) o =
      λ al. upd_all (λ d l. 2 ≤ l.mode → H d ≤ l.g) a.c.held i (record { g = g; mode = (a.c.held i).mode }) (λ two. let z = o.held h i two in omega (arith, z, le)) (λ d n two. o.held h d two)
  held (Reduces a i to h jo fe so mo gn ge gl) o =
      λ al. upd_all (λ d l. 2 ≤ l.mode → H d ≤ l.g) a.c.held i (record { g = gn; mode = to }) (λ two. let z = o.held h i (omega (arith, two, mo)) in let y = gl (omega (arith, two)) in omega (arith, z, y)) (λ d n two. o.held h d two)
  held (Adopts a stamp epoch j h w) o = λ al. o.held h
  held m o = o.held

  -- a message that is none of them is ignored
  passed : (a : Assoc) (n : Msg) → Comes a → Rattle.st_protocol.proofs.Claims.is_claim n.body ≡ false → (c2 : Client) → (Alive k c2 → Alive k a.c) → c2.life ≡ a.c.life → c2.epoch ≡ a.c.epoch → ((i : ℕ) → a.c.seen i ≤ c2.seen i) →
      Alive k c2 → (stamp i g mode : ℕ) → In (msg c2.life c2.epoch stamp (Granted i g mode)) (n ∷ a.net) → 2 ≤ mode → c2.seen i < g → H i ≤ g
  passed a n o f c2 al lf ep se h stamp i g mode y two lt =
      let z = in_back n (msg c2.life c2.epoch stamp (Granted i g mode)) a.net f refl y in
      let u = se i in
      o (al h) stamp i g mode (subst (λ l. In (msg l a.c.epoch stamp (Granted i g mode)) a.net) lf (subst (λ e. In (msg c2.life e stamp (Granted i g mode)) a.net) ep z)) two (omega (arith, lt, u))

  comes : {a b : Assoc} → Move k a b → Timing k a → Locks k a → AskedFor a → Below k H a → Comes b
  comes (Advance a dc ds dr h lim) t l q o = λ al. let z = al.lasts in o.comes (record { leased = al.leased; lasts = omega (arith, z) })
  comes (Loses a h j) t l q o = λ al. cc (al.leased)
  comes (Crashes a) t l q o = λ al. cc (al.leased)
  comes (Begins a stamp epoch j h w) t l q o = λ al st i g mode y two lt. let z = q.msgs _ y refl refl in cc (z.leased)
  comes (Renews a stamp j h w) t l q o = λ al. o.comes h
  comes (Installs a stamp i2 g2 mode2 j h s) t l q o = λ al st i g mode y two lt. let u = upd_up a.c.seen i2 g2 (omega (arith, s)) i in o.comes h st i g mode y two (omega (arith, lt, u))
  comes (AskedOfNone a stamp i2 g2 to j h mo top se sg) t l q o =
      passed a _ o.comes refl (record a.c { seen = upd a.c.seen i2 top }) (λ x. h) refl refl (upd_up a.c.seen i2 top se)
  comes (Asked a stamp i2 g2 to j h one le) t l q o =
      λ al st i g mode y two lt. let e = l.seen i2 one in let u = upd_up a.c.seen i2 g2 (omega (arith, e, le)) i in o.comes h st i g mode y two (omega (arith, lt, u))
  comes (Declines a stamp i2 g2 mode2 j h se z) t l q o = passed a _ o.comes refl (record a.c { seen = upd a.c.seen i2 g2 }) (λ x. h) refl refl (upd_up a.c.seen i2 g2 (omega (arith, se)))
  comes (Adopts a stamp epoch j h w) t l q o = λ al st i g mode y two lt. let z = (q.msgs _ y refl refl).epoch in absurd (omega (arith, z, w))
  comes (Greets a h) t l q o = passed a _ o.comes refl a.c (λ x. x) refl refl (λ i. omega arith)
  comes (Asks a h) t l q o = passed a _ o.comes refl a.c (λ x. x) refl refl (λ i. omega arith)
  comes (Repeats a was b j r h) t l q o = λ al st i g mode y. go st i g mode y
    where
      go : (st i g mode : ℕ) → (msg a.c.life a.c.epoch st (Granted i g mode) ≡ msg a.c.life a.c.epoch a.c.clock b) ⊎ In (msg a.c.life a.c.epoch st (Granted i g mode)) a.net → 2 ≤ mode → a.c.seen i < g → H i ≤ g
      go st i g mode (inl y) = o.comes h was i g mode (subst (λ (m : Msg). In (msg m.life m.epoch was m.body) a.net) (sym y) j)
      go st i g mode (inr y) = o.comes h st i g mode y
  comes (Reduces a i2 to h jo fe so mo gn ge gl) t l q o = passed a _ o.comes refl (record a.c { held = upd a.c.held i2 (record { g = gn; mode = to }) }) (λ x. h) refl refl (λ i. omega arith)
  comes (Reasserts a h du) t l q o = λ al st i g mode y. go st i g mode y
    where
      no : (i g mode : ℕ) → Granted i g mode ≡ Reassert a.c.held → ⊥
      no i g mode e = cc e

      go : (st i g mode : ℕ) → (msg a.c.life a.c.epoch st (Granted i g mode) ≡ msg a.c.life a.c.epoch a.c.clock (Reassert a.c.held)) ⊎ In (msg a.c.life a.c.epoch st (Granted i g mode)) a.net → 2 ≤ mode → a.c.seen i < g → H i ≤ g
      go st i g mode (inl y) = absurd (no i g mode (ap (λ (m : Msg). m.body) y))
      go st i g mode (inr y) = o.comes h st i g mode y
  comes (Welcomes a life stamp j sv gr s r) t l q o = passed a _ o.comes refl a.c (λ x. x) refl refl (λ i. omega arith)
  comes (WelcomesAgain a stamp j sv li gr) t l q o = passed a _ o.comes refl a.c (λ x. x) refl refl (λ i. omega arith)
  comes (Acks a stamp j sv li) t l q o = passed a _ o.comes refl a.c (λ x. x) refl refl (λ i. omega arith)
  comes (Again a was stamp b j f n sv li) t l q o = λ al st i g mode y. go al st i g mode y
    where
      go : Alive k a.c → (st i g mode : ℕ) → (msg a.c.life a.c.epoch st (Granted i g mode) ≡ msg a.s.session a.s.epoch stamp b) ⊎ In (msg a.c.life a.c.epoch st (Granted i g mode)) a.net → 2 ≤ mode → a.c.seen i < g → H i ≤ g
      go al st i g mode (inl y) = o.comes al was i g mode (subst (λ (m : Msg). In (msg m.life m.epoch was m.body) a.net) (sym y) j)
      go al st i g mode (inr y) = o.comes al st i g mode y
  comes (Refuses a n j sv) t l q o = passed a _ o.comes refl a.c (λ x. x) refl refl (λ i. omega arith)
  comes (Accepts a life stamp locks j sv gr s r) t l q o = passed a _ o.comes refl a.c (λ x. x) refl refl (λ i. omega arith)
  comes (Grants a stamp i2 g2 mode2 as_ li sv gr to mo tw) t l q o = λ al st i g mode y. go al st i g mode y
    where
      go : Alive k a.c → (st i g mode : ℕ) → (msg a.c.life a.c.epoch st (Granted i g mode) ≡ msg a.s.session a.s.epoch 0 (Granted i2 g2 mode2)) ⊎ In (msg a.c.life a.c.epoch st (Granted i g mode)) a.net → 2 ≤ mode → a.c.seen i < g → H i ≤ g
      go al st i g mode (inl y) = λ two lt. let e = (granted_is i g mode i2 g2 mode2 (ap (λ (m : Msg). m.body) y)).1 in let z = o.top i in omega (arith, e, z, to)
      go al st i g mode (inr y) = o.comes al st i g mode y
  comes (GrantsAgain a i2 sv mo) t l q o = λ al st i g mode y. go al st i g mode y
    where
      go : Alive k a.c → (st i g mode : ℕ) → (msg a.c.life a.c.epoch st (Granted i g mode) ≡ msg (a.s.row i2).life a.s.epoch 0 (Granted i2 (a.s.row i2).g (a.s.row i2).mode)) ⊎ In (msg a.c.life a.c.epoch st (Granted i g mode)) a.net →
          2 ≤ mode → a.c.seen i < g → H i ≤ g
      go al st i g mode (inl y) = λ two lt. let e = granted_is i g mode i2 (a.s.row i2).g (a.s.row i2).mode (ap (λ (m : Msg). m.body) y) in let m2 = e.2 in let z = o.rows i2 (omega (arith, two, m2)) in let h = ap H e.0 in let g3 = e.1 in omega (arith, z, h, g3)
      go al st i g mode (inr y) = o.comes al st i g mode y
  comes (Demands a i2 to sv mo) t l q o = passed a _ o.comes refl a.c (λ x. x) refl refl (λ i. omega arith)
  comes (Releases a stamp i2 g2 to j sv e ro mo) t l q o = passed a _ o.comes refl a.c (λ x. x) refl refl (λ i. omega arith)
  comes m t l q o = o.comes

  -- a message that isn't a reassertion is ignored
  skipped : (a : Assoc) (n : Msg) → Asserts a → Rattle.st_protocol.proofs.Claims.is_claim n.body ≡ false → Asserts (record { c = a.c; s = a.s; net = n ∷ a.net })
  skipped a n o f u gr ti life stamp locks y = o u gr ti life stamp locks (in_back n (msg life a.s.epoch stamp (Reassert locks)) a.net f refl y)

  no_granted : (a : Assoc) (life epoch stamp i g mode : ℕ) → Asserts a → Asserts (record { c = a.c; s = a.s; net = msg life epoch stamp (Granted i g mode) ∷ a.net })
  no_granted a life epoch stamp i g mode o u gr ti life2 stamp2 locks (inl y) = absurd (no (ap (λ (m : Msg). m.body) y))
    where
      no : Reassert locks ≡ Granted i g mode → ⊥
      no e = cc e
  no_granted a life epoch stamp i g mode o u gr ti life2 stamp2 locks (inr y) = o u gr ti life2 stamp2 locks y

  asserts : {a b : Assoc} → Move k a b → Timing k a → Invariant k a → Below k H a → Asserts b
  asserts (AskedOfNone a stamp i2 g2 to j h mo top se sg) t v o = λ u gr ti. skipped a _ o.asserts refl u gr ti
  asserts (Declines a stamp i2 g2 mode2 j h se z) t v o = λ u gr ti. skipped a _ o.asserts refl u gr ti
  asserts (Greets a h) t v o = skipped a _ o.asserts refl
  asserts (Asks a h) t v o = skipped a _ o.asserts refl
  asserts (Repeats a was b j r h) t v o = λ u gr ti life stamp locks y. go u gr ti life stamp locks y
    where
      go : a.s.up ≡ true → a.s.grace ≡ true → a.s.timed ≡ false → (life stamp : ℕ) (locks : ℕ → Lock) → (msg life a.s.epoch stamp (Reassert locks) ≡ msg a.c.life a.c.epoch a.c.clock b) ⊎ In (msg life a.s.epoch stamp (Reassert locks)) a.net →
          a.s.session < life → (i : ℕ) → 2 ≤ (locks i).mode → H i ≤ (locks i).g
      go u gr ti life stamp locks (inl y) = o.asserts u gr ti life was locks (subst (λ (m : Msg). In (msg m.life m.epoch was m.body) a.net) (sym y) j)
      go u gr ti life stamp locks (inr y) = o.asserts u gr ti life stamp locks y
  asserts (Reduces a i2 to h jo fe so mo gn ge gl) t v o = λ u gr ti. skipped a _ o.asserts refl u gr ti
  asserts (Reasserts a h du) t v o = λ u gr ti life stamp locks y. go u gr ti life stamp locks y
    where
      same : (l m : ℕ → Lock) → Reassert l ≡ Reassert m → l ≡ m
      same l m e = cc e

      go : a.s.up ≡ true → a.s.grace ≡ true → a.s.timed ≡ false → (life stamp : ℕ) (locks : ℕ → Lock) → (msg life a.s.epoch stamp (Reassert locks) ≡ msg a.c.life a.c.epoch a.c.clock (Reassert a.c.held)) ⊎ In (msg life a.s.epoch stamp (Reassert locks)) a.net →
          a.s.session < life → (i : ℕ) → 2 ≤ (locks i).mode → H i ≤ (locks i).g
      go u gr ti life stamp locks (inl y) lt i two =
          subst (λ (f : ℕ → Lock). 2 ≤ (f i).mode → H i ≤ (f i).g) (sym (same locks a.c.held (ap (λ (m : Msg). m.body) y))) (o.held h i) two
      go u gr ti life stamp locks (inr y) lt i two = o.asserts u gr ti life stamp locks y lt i two
  asserts (Welcomes a life stamp j sv gr s r) t v o = λ u gr2. cc (gr, gr2)
  asserts (WelcomesAgain a stamp j sv li gr) t v o = λ u gr2. cc (gr, gr2)
  asserts (Acks a stamp j sv li) t v o = skipped a _ o.asserts refl
  asserts (Again a was stamp b j f n sv li) t v o = λ u gr ti life st locks y. go u gr ti life st locks y
    where
      go : a.s.up ≡ true → a.s.grace ≡ true → a.s.timed ≡ false → (life st : ℕ) (locks : ℕ → Lock) → (msg life a.s.epoch st (Reassert locks) ≡ msg a.s.session a.s.epoch stamp b) ⊎ In (msg life a.s.epoch st (Reassert locks)) a.net →
          a.s.session < life → (i : ℕ) → 2 ≤ (locks i).mode → H i ≤ (locks i).g
      go u gr ti life st locks (inl y) = o.asserts u gr ti life was locks (subst (λ (m : Msg). In (msg m.life m.epoch was m.body) a.net) (sym y) j)
      go u gr ti life st locks (inr y) = o.asserts u gr ti life st locks y
  asserts (Refuses a n j sv) t v o = skipped a _ o.asserts refl
  asserts (Accepts a life stamp locks j sv gr s r) t v o = λ u gr2 ti life2 st locks2 y lt. skipped a _ o.asserts refl u gr2 ti life2 st locks2 y (omega (arith, s, lt))
  asserts (Suspects a h) t v o = λ u gr ti. cc ti
  asserts (Steals a u on h gr) t v o = λ u2 gr2. cc (gr, gr2)
  asserts (GraceEnds a u g h) t v o = λ u2 gr2. cc gr2
  asserts (Grants a stamp i2 g2 mode2 as_ li sv gr to mo tw) t v o = λ u gr2. cc (gr, gr2)
  asserts (GrantsAgain a i2 sv mo) t v o = no_granted a _ _ _ _ _ _ o.asserts
  asserts (Demands a i2 to sv mo) t v o = skipped a _ o.asserts refl
  asserts (Releases a stamp i2 g2 to j sv e ro mo) t v o = λ u gr ti. skipped a _ o.asserts refl u gr ti
  asserts (Stops a u) t v o = λ u2. cc u2
  asserts (Starts a u) t v o = λ u2 gr ti life stamp locks y lt i two. let z = (t.sent _ y).of_epoch in absurd (omega (arith, z))
  asserts m t v o = o.asserts

  top : {a b : Assoc} → Move k a b → Below k H a → (i : ℕ) → H i ≤ b.s.top
  top (Grants a st i2 g mode as_ li sv gr to mo tw) o = λ i. let z = o.top i in omega (arith, z, to)
  top (Rises a g h) o = λ i. let z = o.top i in omega (arith, z, h)
  top m o = o.top

  pub one_move : {a b : Assoc} → Invariant k a → Move k a b → Below k H a → Below k H b
  one_move v m o = record { rows = rows m o; held = held m o; comes = comes m v.timing_ v.locks_ v.asked o; asserts = asserts m v.timing_ v o; top = top m o }

  pub all_moves : {a b : Assoc} → ConfigOk k → Invariant k a → Moves k a b → Below k H a → Below k H b
  all_moves ok v (Stays a) o = o
  all_moves ok v (GoesOn m e r) o = all_moves ok (kept_one k ok m v) r (one_move v m o)
