-- Each move keeps the lock layer over restarts.
use Rattle.std.proofs.Common.{◌≡◌, ℕ, ◌+◌, ◌<◌, ◌≤◌, ◌⊎◌, true, false, ◌∷◌, refl, sym, ◌∙◌, inl, inr, arith, leb-true, leb-false}
use Rattle.std.proofs.lemmas.Bool.{cases_Bool}
use Rattle.std.specs.Prelude.{nat_le}
use Rattle.st_protocol.specs.Assoc.{Config, ConfigOk, Msg, no_lock, no_row, upd, Assoc, In, send, client, server, msg, Move, Hello, Plain, Released, Reassert, Welcome, Ack, Reasserted, Granted, Demand, OfOtherEpoch, Greets, Asks, Loses, Crashes, Begins, Installs, AskedOfNone, Asked, Declines, Repeats, Again, Sweeps, Reduces, Adopts, Reasserts, Welcomes, WelcomesAgain, Acks, Refuses, Accepts, Steals, Grants, GrantsAgain, Demands, Releases, Stops, Starts}
use Rattle.st_protocol.proofs.Lists.{upd_all, upd_up, upd-same, in_cons, swept}
use Rattle.st_protocol.proofs.Timing.{Timing, Replied, over, renews_of}
use Rattle.st_protocol.proofs.Locks.{Gone, Lost, Covered, Now, OfNow, Locks, now_with, born, begun, down, new, seen, below, low, rows, joined, joined_now, lost, graced}

or_right : (C : Type 0) (G H : Type 0) → (G → H) → C ⊎ G → C ⊎ H
or_right C G H f (inl c) = inl c
or_right C G H f (inr x) = inr (f x)

pub same_or_less : (a b : ℕ) → a ≤ b → (a ≡ b) ⊎ (a < b)
same_or_less a b h = grind arith

module _ (k : Config) where
  steal_gone : (a : Assoc) → ConfigOk k → Timing k a → a.s.timed ≡ true → a.s.start + k.wait ≤ a.s.clock → a.c.life ≤ a.s.session →
      Gone k (server (record a.s { live = false; row = λ i. no_row; timed = false }) a)
  steal_gone a ok t on h l =
      record { ended = omega (arith, t.lives); dead = refl; replies = λ m i r e. over k a.s.drift a.s.clock a.c.clock a.s.start a.s.base t.limit ok (t.timer on) h m.stamp (t.stamps on m i r) }

  pub held_leased : (a : Assoc) → Locks k a → (i : ℕ) → 1 ≤ (a.c.held i).mode → a.c.leased ≡ true
  held_leased a l i o = go (cases_Bool a.c.leased)
    where
      go : (a.c.leased ≡ true) ⊎ (a.c.leased ≡ false) → a.c.leased ≡ true
      go (inl e) = e
      go (inr e) = absurd (omega (arith, (l.new e).1 i))

  -- outside grace, a client that doesn't belong to the session has a lease that is over
  pub outsider : (a : Assoc) → Timing k a → a.s.up ≡ true → a.s.grace ≡ false → a.c.leased ≡ true → (a.s.session < a.c.life) ⊎ (a.c.epoch < a.s.epoch) → a.c.date + k.lease ≤ a.c.clock
  outsider a t u g e o =
      let r = t.dated e in
      t.past u g (msg a.c.life r.0 a.c.date r.1) r.4 r.2 (go r o)
    where
      go : Replied a.net a.c.life a.c.epoch a.c.date → (a.s.session < a.c.life) ⊎ (a.c.epoch < a.s.epoch) → (t.dated e).0 < a.s.epoch
      go r (inr lt) = let q = (t.dated e).3 in omega arith
      go r (inl lt) = by (same_or_less (t.dated e).0 a.s.epoch (t.sent _ (t.dated e).4).of_epoch)
        where
          by : ((t.dated e).0 ≡ a.s.epoch) ⊎ ((t.dated e).0 < a.s.epoch) → (t.dated e).0 < a.s.epoch
          by (inr q) = q
          by (inl q) = let z = (t.sent _ (t.dated e).4).known (renews_of (t.dated e).1 (t.dated e).2) q u in absurd (omega (arith, z))

  held : {a b : Assoc} → ConfigOk k → Move k a b → Timing k a → Locks k a → b.s.up ≡ true → b.c.epoch ≡ b.s.epoch → b.s.session ≡ b.c.life → (i : ℕ) → 1 ≤ (b.c.held i).mode →
      Covered b.c.life (b.s.row i) (b.c.held i).g (b.c.held i).mode ⊎ Lost k b
  held ok (Loses a h j) t l u e s i o = absurd (omega arith)
  held ok (Crashes a) t l u e s i o = absurd (omega arith)
  held ok (Begins a stamp epoch j h w) t l u e s i o = absurd (omega (arith, (l.new h).1 i))
  held ok (Stops a u2) t l u e s i o = cc
  held ok (Starts a u2) t l u e s i o = absurd (omega (arith, t.ahead))
  held ok (Adopts a stamp epoch j h w) t l u e s i o = go (cases_Bool a.s.grace)
    where
      go : (a.s.grace ≡ true) ⊎ (a.s.grace ≡ false) → Covered a.c.life (a.s.row i) (a.c.held i).g (a.c.held i).mode ⊎ Lost k (client (record a.c { epoch = epoch; due = true }) a)
      go (inl g) = let q = l.graced u g s in absurd (omega arith)
      go (inr g) = let q = outsider a t u g h.leased (inr (omega arith)) in absurd (omega (arith, q, h.lasts))
  held ok (Installs a stamp i g mode j h s2) t l u e s d o =
      upd_all (λ d x. 1 ≤ x.mode → Covered a.c.life (a.s.row d) x.g x.mode ⊎ Lost k a) a.c.held i (record { g = g; mode = mode })
      (λ o. go (l.msgs u _ j refl e).cases) (λ d n o. l.held u e s d o) d o
    where
      go : Covered a.c.life (a.s.row i) g mode ⊎ ((g ≤ a.c.seen i) ⊎ Lost k a) → Covered a.c.life (a.s.row i) g mode ⊎ Lost k a
      go (inl c) = inl c
      go (inr (inl x)) = absurd (omega arith)
      go (inr (inr x)) = inr x
  held ok (Asked a stamp i g to j h mo se) t l u e s d o =
      upd_all (λ d x. 1 ≤ x.mode → Covered a.c.life (a.s.row d) x.g x.mode ⊎ Lost k a) a.c.held i (record { g = g; mode = (a.c.held i).mode })
      (λ o. go (l.seen i mo) (l.held u e s i mo) (l.msgs u _ j refl e)) (λ d n o. l.held u e s d o) d o
    where
      go : (a.c.held i).g ≡ a.c.seen i → Covered a.c.life (a.s.row i) (a.c.held i).g (a.c.held i).mode ⊎ Lost k a → Covered a.c.life (a.s.row i) g 1 ⊎ ((g ≤ a.c.seen i) ⊎ Lost k a) → Covered a.c.life (a.s.row i) g (a.c.held i).mode ⊎ Lost k a
      go s (inr x) n = inr x
      go s (inl c) (inl n) = inl (record { of_life = c.of_life; at_least = n.at_least; high = c.high })
      go s (inl c) (inr (inl n)) = inl (record { of_life = c.of_life; at_least = omega (arith, c.at_least); high = c.high })
      go s (inl c) (inr (inr x)) = inr x
  held ok (Reduces a i to h jo fe so mo gn ge gl) t l u e s d o =
      upd_all (λ d x. 1 ≤ x.mode → Covered a.c.life (a.s.row d) x.g x.mode ⊎ Lost k b) a.c.held i (record { g = gn; mode = to })
      (λ o. go (l.held u e s i (omega arith))) (λ d n o. or_right _ _ _ (lost k (Reduces a i to h jo fe so mo gn ge gl) t l refl u) (l.held u e s d o)) d o
    where
      b : Assoc
      b = send (msg a.c.life a.c.epoch 0 (Released i (a.c.held i).g to)) (client (record a.c { held = upd a.c.held i (record { g = gn; mode = to }) }) a)

      go : Covered a.c.life (a.s.row i) (a.c.held i).g (a.c.held i).mode ⊎ Lost k a → Covered a.c.life (a.s.row i) gn to ⊎ Lost k b
      go (inl c) = inl (record { of_life = c.of_life; at_least = omega (arith, c.at_least); high = omega (arith, c.high) })
      go (inr x) = inr (lost k (Reduces a i to h jo fe so mo gn ge gl) t l refl u x)
  held ok (Welcomes a life stamp j sv gr s2 r) t l u e s i o =
      let on = held_leased a l i o in
      inr (inr (record { leased = on; late = outsider a t u gr on (inl (omega arith)) }))
  held ok (Accepts a life stamp locks j sv gr s2 r) t l u e s i o =
      let n = (l.msgs u _ j s refl).all (omega arith) i o in
      inl (record { of_life = s; at_least = n.0; high = n.1 })
  held ok (Steals a u2 on h gr) t l u e s i o = inr (inl (steal_gone a ok t on h (omega arith)))
  held ok (Grants a st i g mode as_ li sv gr to mo tw) t l u e s d o =
      upd_all (λ d r. 1 ≤ (a.c.held d).mode → Covered a.c.life r (a.c.held d).g (a.c.held d).mode ⊎ Lost k b) a.s.row i (record { life = a.s.session; g = g; mode = mode })
      (λ o. go o (l.held u e s i o)) (λ d n o. or_right _ _ _ (lost k (Grants a st i g mode as_ li sv gr to mo tw) t l refl u) (l.held u e s d o)) d o
    where
      b : Assoc
      b = send (msg a.s.session a.s.epoch 0 (Granted i g mode)) (server (record a.s { row = upd a.s.row i (record { life = a.s.session; g = g; mode = mode }); top = g }) a)

      go : 1 ≤ (a.c.held i).mode → Covered a.c.life (a.s.row i) (a.c.held i).g (a.c.held i).mode ⊎ Lost k a → Covered a.c.life (record { life = a.s.session; g = g; mode = mode }) (a.c.held i).g (a.c.held i).mode ⊎ Lost k b
      go o (inl c) = let w = l.rows i (omega (arith, c.high)) in
          inl (record { of_life = s; at_least = omega (arith, w.below, c.at_least); high = omega (arith, c.high) })
      go o (inr x) = inr (lost k (Grants a st i g mode as_ li sv gr to mo tw) t l refl u x)
  held ok (Releases a stamp i g to j sv e2 ro mo) t l u e s d o =
      upd_all (λ d r. 1 ≤ (a.c.held d).mode → Covered a.c.life r (a.c.held d).g (a.c.held d).mode ⊎ Lost k b) a.s.row i (record { life = (a.s.row i).life; g = g; mode = to })
      (λ o. go (l.held u e s i o)) (λ d n o. or_right _ _ _ (lost k (Releases a stamp i g to j sv e2 ro mo) t l refl u) (l.held u e s d o)) d o
    where
      b : Assoc
      b = send (msg (a.s.row i).life a.s.epoch stamp Ack) (server (record a.s { row = upd a.s.row i (record { life = (a.s.row i).life; g = g; mode = to }) }) a)

      go : Covered a.c.life (a.s.row i) (a.c.held i).g (a.c.held i).mode ⊎ Lost k a → Covered a.c.life (record { life = (a.s.row i).life; g = g; mode = to }) (a.c.held i).g (a.c.held i).mode ⊎ Lost k b
      go (inl c) =
          let n = l.msgs u _ j c.of_life refl in
          inl (record { of_life = c.of_life; at_least = omega (arith, c.at_least); high = n.at_most (omega (arith, c.at_least)) })
      go (inr x) = inr (lost k (Releases a stamp i g to j sv e2 ro mo) t l refl u x)
  held ok (Sweeps a row p) t l u e s d o =
      swept (λ r. Covered a.c.life r (a.c.held d).g (a.c.held d).mode ⊎ Lost k b) (row d) (a.s.row d) (p d) (or_right _ _ _ (lost k (Sweeps a row p) t l refl u) (l.held u e s d o)) (λ z. go z (l.held u e s d o))
    where
      b : Assoc
      b = server (record a.s { row = row }) a

      go : (a.s.row d).mode ≡ 0 → Covered a.c.life (a.s.row d) (a.c.held d).g (a.c.held d).mode ⊎ Lost k a → Covered a.c.life no_row (a.c.held d).g (a.c.held d).mode ⊎ Lost k b
      go z (inl c) = absurd (omega (arith, c.high))
      go z (inr x) = inr (lost k (Sweeps a row p) t l refl u x)
  held ok m t l u e s i o = or_right _ _ _ (lost k m t l refl u) (l.held u e s i o)

  -- if neither the client's locks nor the rows move
  still : {a : Assoc} (b : Assoc) → Locks k a → (Lost k a → Lost k b) → a.s.up ≡ true → (m : Msg) → In m a.net → m.life ≡ a.c.life → m.epoch ≡ a.s.epoch →
      Now a.c.life a.s.row a.c.held a.c.seen (Lost k b) (a.c.epoch ≡ a.s.epoch) (a.s.session < a.c.life) m.body
  still {a} b l f u m i e p =
      now_with a.c.life a.s.row a.s.row a.c.held a.c.held a.c.seen a.c.seen (Lost k a) (Lost k b) (a.c.epoch ≡ a.s.epoch) (a.c.epoch ≡ a.s.epoch) (a.s.session < a.c.life) (a.s.session < a.c.life)
      f (λ x. x) (λ x v. v) (λ d. omega arith) (λ d g mode o c. inl c) (λ d g to x s q. q) (λ d g mode x v q. q) m.body (l.msgs u m i e p)

  one_more : (a : Assoc) (n : Msg) → Locks k a → (Lost k a → Lost k (send n a)) → a.s.up ≡ true → (n.life ≡ a.c.life → n.epoch ≡ a.s.epoch → OfNow k (send n a) n.body) →
      (m : Msg) → In m (n ∷ a.net) → m.life ≡ a.c.life → m.epoch ≡ a.s.epoch → OfNow k (send n a) m.body
  one_more a n l f u p = in_cons (λ m. m.life ≡ a.c.life → m.epoch ≡ a.s.epoch → OfNow k (send n a) m.body) n a.net p (still (send n a) l f u)

  msgs : {a b : Assoc} → ConfigOk k → Move k a b → Timing k a → Locks k a → b.s.up ≡ true → (m : Msg) → In m b.net → m.life ≡ b.c.life → m.epoch ≡ b.s.epoch → OfNow k b m.body
  msgs ok (Loses a h j) t l u m i = λ e p. let q = (t.sent m i).of_life in absurd (omega (arith, q))
  msgs ok (Crashes a) t l u m i = λ e p. let q = (t.sent m i).of_life in absurd (omega (arith, q))
  msgs ok (Stops a u2) t l u m i = λ e p. cc
  msgs ok (Starts a u2) t l u m i = λ e p. let q = (t.sent m i).of_epoch in absurd (omega (arith, q))
  msgs ok (Greets a h) t l u m i = one_more a (msg a.c.life 0 a.c.clock Hello) l (lost k (Greets a h) t l refl u) u (λ e p. tt) m i
  msgs ok (Asks a h) t l u m i = one_more a (msg a.c.life a.c.epoch a.c.clock Plain) l (lost k (Asks a h) t l refl u) u (λ e p. tt) m i
  msgs ok (Reasserts a h du) t l u m i =
      one_more a (msg a.c.life a.c.epoch a.c.clock (Reassert a.c.held)) l (lost k (Reasserts a h du) t l refl u) u
      (λ e p. record { joined = p; all = λ w i o. (omega arith, omega arith) }) m i
  msgs ok (WelcomesAgain a stamp j sv li gr) t l u m i = one_more a (msg a.s.session a.s.epoch stamp Welcome) l (lost k (WelcomesAgain a stamp j sv li gr) t l refl u) u (λ e p. tt) m i
  msgs ok (Repeats a was b j r h) t l u m i =
      one_more a (msg a.c.life a.c.epoch a.c.clock b) l (lost k (Repeats a was b j r h) t l refl u) u
      (λ e p. still (send (msg a.c.life a.c.epoch a.c.clock b) a) l (lost k (Repeats a was b j r h) t l refl u) u (msg a.c.life a.c.epoch was b) j e p) m i
  msgs ok (Again a was stamp b j f n sv li) t l u m i =
      one_more a (msg a.s.session a.s.epoch stamp b) l (lost k (Again a was stamp b j f n sv li) t l refl u) u
      (λ e p. still (send (msg a.s.session a.s.epoch stamp b) a) l (lost k (Again a was stamp b j f n sv li) t l refl u) u (msg a.s.session a.s.epoch was b) j e p) m i
  msgs ok (Acks a stamp j sv li) t l u m i = one_more a (msg a.s.session a.s.epoch stamp Ack) l (lost k (Acks a stamp j sv li) t l refl u) u (λ e p. tt) m i
  msgs ok (Refuses a n j sv) t l u m i = one_more a (msg n.life a.s.epoch n.stamp OfOtherEpoch) l (lost k (Refuses a n j sv) t l refl u) u (λ e p. tt) m i
  msgs ok (GrantsAgain a i sv mo) t l u m w =
      one_more a (msg (a.s.row i).life a.s.epoch 0 (Granted i (a.s.row i).g (a.s.row i).mode)) l (lost k (GrantsAgain a i sv mo) t l refl u) u
      (λ e p. record { some = mo; cases = inl (record { of_life = e; at_least = omega arith; high = omega arith }) }) m w
  msgs ok (Demands a i to sv mo) t l u m w =
      one_more a (msg (a.s.row i).life a.s.epoch 0 (Demand i (a.s.row i).g to)) l (lost k (Demands a i to sv mo) t l refl u) u
      (λ e p. inl (record { of_life = e; at_least = omega arith; high = mo })) m w
  msgs ok (Begins a stamp epoch j h w) t l u m i = λ e p.
      now_with a.c.life a.s.row a.s.row a.c.held (λ i. no_lock) a.c.seen (λ i. 0) (Lost k a) (Lost k b) (a.c.epoch ≡ a.s.epoch) (b.c.epoch ≡ b.s.epoch) (a.s.session < a.c.life) (b.s.session < b.c.life) (lost k (Begins a stamp epoch j h w) t l refl u) (λ x. absurd (omega (arith, (l.new h).0, l.begun))) (λ x v. v) (λ d. let z = (l.new h).2 d in omega arith) (λ d g mode o c. inl c) (λ d g to x s q y. omega arith) (λ d g mode x v q o. absurd (omega arith)) m.body (l.msgs u m i e p)
    where
      b : Assoc
      b = client (record a.c { leased = true; due = false; date = stamp; epoch = epoch; held = λ i. no_lock; seen = λ i. 0 }) a
  msgs ok (Adopts a stamp epoch j h w) t l u m i = λ e p.
      now_with a.c.life a.s.row a.s.row a.c.held a.c.held a.c.seen a.c.seen (Lost k a) (Lost k b) (a.c.epoch ≡ a.s.epoch) (b.c.epoch ≡ b.s.epoch) (a.s.session < a.c.life) (b.s.session < b.c.life) (lost k (Adopts a stamp epoch j h w) t l refl u) (λ x. let q = (t.sent _ j).of_epoch in absurd (omega (arith, q))) (λ x v. v) (λ d. omega arith) (λ d g mode o c. inl c) (λ d g to x s q. q) (λ d g mode x v q. q) m.body (l.msgs u m i e p)
    where
      b : Assoc
      b = client (record a.c { epoch = epoch; due = true }) a
  msgs ok (Installs a stamp i g mode j h s) t l u m w = λ e p.
      now_with a.c.life a.s.row a.s.row a.c.held (upd a.c.held i (record { g = g; mode = mode })) a.c.seen (upd a.c.seen i g) (Lost k a) (Lost k b) (a.c.epoch ≡ a.s.epoch) (b.c.epoch ≡ b.s.epoch) (a.s.session < a.c.life) (b.s.session < b.c.life) (lost k (Installs a stamp i g mode j h s) t l refl u) (λ x. x) (λ x v. v) (upd_up a.c.seen i g (omega arith))
      (λ d g2 mode o c. inl c) rel (λ d g2 m2 x v q. let z = (t.sent _ j).known refl x u in absurd (omega (arith, z))) m.body (l.msgs u m w e p)
    where
      b : Assoc
      b = client (record a.c { held = upd a.c.held i (record { g = g; mode = mode }); seen = upd a.c.seen i g }) a

      rel : (d g2 to : ℕ) → a.c.epoch ≡ a.s.epoch → g2 ≤ a.c.seen d → ((a.c.held d).g ≤ g2 → (a.c.held d).mode ≤ to) → (b.c.held d).g ≤ g2 → (b.c.held d).mode ≤ to
      rel d g2 to x s2 q = upd_all (λ d x. g2 ≤ a.c.seen d → ((a.c.held d).g ≤ g2 → (a.c.held d).mode ≤ to) → x.g ≤ g2 → x.mode ≤ to) a.c.held i (record { g = g; mode = mode }) (λ s3 o q. absurd (omega arith)) (λ d n s3 o q. o q) d s2 q
  msgs ok (Asked a stamp i g to j h mo se) t l u m w = λ e p.
      now_with a.c.life a.s.row a.s.row a.c.held (upd a.c.held i (record { g = g; mode = (a.c.held i).mode })) a.c.seen (upd a.c.seen i g) (Lost k a) (Lost k b) (a.c.epoch ≡ a.s.epoch) (b.c.epoch ≡ b.s.epoch) (a.s.session < a.c.life) (b.s.session < b.c.life) (lost k (Asked a stamp i g to j h mo se) t l refl u) (λ x. x) (λ x v. v) (upd_up a.c.seen i g (let s = l.seen i mo in omega (arith, s)))
      (λ d g2 mode o c. inl c) rel (λ d g2 m2 x v q. let z = (t.sent _ j).known refl x u in absurd (omega (arith, z))) m.body (l.msgs u m w e p)
    where
      b : Assoc
      b = client (record a.c { held = upd a.c.held i (record { g = g; mode = (a.c.held i).mode }); seen = upd a.c.seen i g }) a

      rel : (d g2 t2 : ℕ) → a.c.epoch ≡ a.s.epoch → g2 ≤ a.c.seen d → ((a.c.held d).g ≤ g2 → (a.c.held d).mode ≤ t2) → (b.c.held d).g ≤ g2 → (b.c.held d).mode ≤ t2
      rel d g2 t2 x s2 q = upd_all (λ d x. ((a.c.held d).g ≤ g2 → (a.c.held d).mode ≤ t2) → x.g ≤ g2 → x.mode ≤ t2) a.c.held i (record { g = g; mode = (a.c.held i).mode }) (λ o q. o (omega arith)) (λ d n o q. o q) d q
  msgs ok (AskedOfNone a stamp i g to j h mo top se sg) t l u m w =
      in_cons (λ m. m.life ≡ a.c.life → m.epoch ≡ a.s.epoch → OfNow k b m.body) (msg a.c.life a.c.epoch 0 (Released i g 0)) a.net
      (λ e p. record { joined = p; seen = rw upd-same (omega arith); at_most = λ q. omega arith })
      (λ m w e p. now_with a.c.life a.s.row a.s.row a.c.held a.c.held a.c.seen (upd a.c.seen i top) (Lost k a) (Lost k b) (a.c.epoch ≡ a.s.epoch) (b.c.epoch ≡ b.s.epoch) (a.s.session < a.c.life) (b.s.session < b.c.life) (lost k (AskedOfNone a stamp i g to j h mo top se sg) t l refl u) (λ x. x) (λ x v. v) (upd_up a.c.seen i top se)
      (λ d g2 mode o c. inl c) (λ d g2 t2 x s2 q. q) (λ d g2 m2 x v q. q) m.body (l.msgs u m w e p)) m w
    where
      b : Assoc
      b = send (msg a.c.life a.c.epoch 0 (Released i g 0)) (client (record a.c { seen = upd a.c.seen i top }) a)
  msgs ok (Declines a stamp i g mode j h se mo) t l u m w =
      in_cons (λ m. m.life ≡ a.c.life → m.epoch ≡ a.s.epoch → OfNow k b m.body) (msg a.c.life a.c.epoch 0 (Released i g 0)) a.net
      (λ e p. record { joined = p; seen = rw upd-same (omega arith); at_most = λ q. omega arith })
      (λ m w e p. now_with a.c.life a.s.row a.s.row a.c.held a.c.held a.c.seen (upd a.c.seen i g) (Lost k a) (Lost k b) (a.c.epoch ≡ a.s.epoch) (b.c.epoch ≡ b.s.epoch) (a.s.session < a.c.life) (b.s.session < b.c.life) (lost k (Declines a stamp i g mode j h se mo) t l refl u) (λ x. x) (λ x v. v) (upd_up a.c.seen i g (omega arith))
      (λ d g2 m3 o c. inl c) (λ d g2 t2 x s2 q. q) (λ d g2 m2 x v q. q) m.body (l.msgs u m w e p)) m w
    where
      b : Assoc
      b = send (msg a.c.life a.c.epoch 0 (Released i g 0)) (client (record a.c { seen = upd a.c.seen i g }) a)
  msgs ok (Reduces a i to h jo fe so mo gn ge gl) t l u m w =
      in_cons (λ m. m.life ≡ a.c.life → m.epoch ≡ a.s.epoch → OfNow k b m.body) (msg a.c.life a.c.epoch 0 (Released i (a.c.held i).g to)) a.net
      (λ e p. record { joined = p; seen = (let s = l.seen i so in omega (arith, s)); at_most = λ q. rw upd-same (omega arith) })
      (λ m w e p. now_with a.c.life a.s.row a.s.row a.c.held (upd a.c.held i (record { g = gn; mode = to })) a.c.seen a.c.seen (Lost k a) (Lost k b) (a.c.epoch ≡ a.s.epoch) (b.c.epoch ≡ b.s.epoch) (a.s.session < a.c.life) (b.s.session < b.c.life) (lost k (Reduces a i to h jo fe so mo gn ge gl) t l refl u) (λ x. x) (λ x v. v) (λ d. omega arith)
      (λ d g2 mode o c. inl c) rel (λ d g2 m2 x v q. let z = joined_now k a t l u x h.leased jo in absurd (omega (arith, z))) m.body (l.msgs u m w e p)) m w
    where
      b : Assoc
      b = send (msg a.c.life a.c.epoch 0 (Released i (a.c.held i).g to)) (client (record a.c { held = upd a.c.held i (record { g = gn; mode = to }) }) a)

      rel : (d g2 t2 : ℕ) → a.c.epoch ≡ a.s.epoch → g2 ≤ a.c.seen d → ((a.c.held d).g ≤ g2 → (a.c.held d).mode ≤ t2) → (b.c.held d).g ≤ g2 → (b.c.held d).mode ≤ t2
      rel d g2 t2 x s2 q = upd_all (λ d x. ((a.c.held d).g ≤ g2 → (a.c.held d).mode ≤ t2) → x.g ≤ g2 → x.mode ≤ t2) a.c.held i (record { g = gn; mode = to })
          (λ o q. low_mode (cases_Bool (nat_le 1 to)) o q) (λ d n o q. o q) d q
        where
          low_mode : (nat_le 1 to ≡ true) ⊎ (nat_le 1 to ≡ false) → ((a.c.held i).g ≤ g2 → (a.c.held i).mode ≤ t2) → gn ≤ g2 → to ≤ t2
          low_mode (inl e) o q = let y = gl (leb-true _ _ e) in let z = o (omega arith) in omega (arith, z)
          low_mode (inr e) o q = let y = leb-false 1 to e in omega arith
  msgs ok (Welcomes a life stamp j sv gr s r) t l u m w =
      in_cons (λ m. m.life ≡ a.c.life → m.epoch ≡ a.s.epoch → OfNow k b m.body) (msg life a.s.epoch stamp Welcome) a.net (λ e p. tt)
      (λ m w e p. now_with a.c.life a.s.row a.s.row a.c.held a.c.held a.c.seen a.c.seen (Lost k a) (Lost k b) (a.c.epoch ≡ a.s.epoch) (b.c.epoch ≡ b.s.epoch) (a.s.session < a.c.life) (b.s.session < b.c.life) (lost k (Welcomes a life stamp j sv gr s r) t l refl u) (λ x. x) (λ x v. omega arith) (λ d. omega arith) (λ d g mode o c. inl c) (λ d g to x s q. q) (λ d g mode x v q. q) m.body (l.msgs u m w e p)) m w
    where
      b : Assoc
      b = send (msg life a.s.epoch stamp Welcome) (server (record a.s { session = life; live = true }) a)
  msgs ok (Accepts a life stamp locks j sv gr s r) t l u m w =
      in_cons (λ m. m.life ≡ a.c.life → m.epoch ≡ a.s.epoch → OfNow k b m.body) (msg life a.s.epoch stamp Reasserted) a.net (λ e p. tt)
      (λ m w e p. now_with a.c.life a.s.row b.s.row a.c.held a.c.held a.c.seen a.c.seen (Lost k a) (Lost k b) (a.c.epoch ≡ a.s.epoch) (b.c.epoch ≡ b.s.epoch) (a.s.session < a.c.life) (b.s.session < b.c.life) (lost k (Accepts a life stamp locks j sv gr s r) t l refl u) (λ x. x) (λ x v. omega arith) (λ d. omega arith)
      (λ d g2 m2 o c. absurd (omega (arith, c.high, r d))) (λ d g to x s q. q) (λ d g mode x v q. q) m.body (l.msgs u m w e p)) m w
    where
      b : Assoc
      b = send (msg life a.s.epoch stamp Reasserted) (server (record a.s { session = life; live = true; row = λ i. record { life = life; g = (locks i).g; mode = (locks i).mode } }) a)
  msgs ok (Steals a u2 on h gr) t l u m w = λ e p.
      now_with a.c.life a.s.row (λ i. no_row) a.c.held a.c.held a.c.seen a.c.seen (Lost k a) (Lost k b) (a.c.epoch ≡ a.s.epoch) (b.c.epoch ≡ b.s.epoch) (a.s.session < a.c.life) (b.s.session < b.c.life) (lost k (Steals a u2 on h gr) t l refl u) (λ x. x) (λ x v. v) (λ d. omega arith) at (λ d g to x s q. q) (λ d g mode x v q. q) m.body (l.msgs u m w e p)
    where
      b : Assoc
      b = server (record a.s { live = false; row = λ i. no_row; timed = false }) a

      at : (d g mode : ℕ) → 1 ≤ mode → Covered a.c.life (a.s.row d) g mode → Covered a.c.life no_row g mode ⊎ ((g ≤ a.c.seen d) ⊎ Lost k b)
      at d g mode o c =
          let r = l.rows d (omega (arith, c.high)) in
          inr (inr (inl (steal_gone a ok t on h (omega (arith, r.of_session, c.of_life)))))
  msgs ok (Grants a st i g mode as_ li sv gr to mo tw) t l u m w =
      in_cons (λ m. m.life ≡ a.c.life → m.epoch ≡ a.s.epoch → OfNow k b m.body) (msg a.s.session a.s.epoch 0 (Granted i g mode)) a.net
      (λ e p. record { some = omega arith; cases = rw upd-same (inl (record { of_life = e; at_least = omega arith; high = omega arith })) })
      (λ m w e p. now_with a.c.life a.s.row b.s.row a.c.held a.c.held a.c.seen a.c.seen (Lost k a) (Lost k b) (a.c.epoch ≡ a.s.epoch) (b.c.epoch ≡ b.s.epoch) (a.s.session < a.c.life) (b.s.session < b.c.life) (lost k (Grants a st i g mode as_ li sv gr to mo tw) t l refl u) (λ x. x) (λ x v. v) (λ d. omega arith) at (λ d g to x s q. q) (λ d g mode x v q. q) m.body (l.msgs u m w e p)) m w
    where
      b : Assoc
      b = send (msg a.s.session a.s.epoch 0 (Granted i g mode)) (server (record a.s { row = upd a.s.row i (record { life = a.s.session; g = g; mode = mode }); top = g }) a)

      at : (d g2 m2 : ℕ) → 1 ≤ m2 → Covered a.c.life (a.s.row d) g2 m2 → Covered a.c.life (b.s.row d) g2 m2 ⊎ ((g2 ≤ a.c.seen d) ⊎ Lost k b)
      at d g2 m2 o c =
          upd_all (λ d r. Covered a.c.life (a.s.row d) g2 m2 → Covered a.c.life r g2 m2 ⊎ ((g2 ≤ a.c.seen d) ⊎ Lost k b)) a.s.row i (record { life = a.s.session; g = g; mode = mode })
          (λ c. let w = l.rows i (omega (arith, c.high)) in
          inl (record { of_life = sym w.of_session ∙ c.of_life; at_least = omega (arith, w.below, c.at_least); high = omega (arith, c.high) }))
          (λ d n c. inl c) d c
  msgs ok (Releases a stamp i g to j sv e2 ro mo) t l u m w =
      in_cons (λ m. m.life ≡ a.c.life → m.epoch ≡ a.s.epoch → OfNow k b m.body) (msg (a.s.row i).life a.s.epoch stamp Ack) a.net (λ e p. tt)
      (λ m w e p. now_with a.c.life a.s.row b.s.row a.c.held a.c.held a.c.seen a.c.seen (Lost k a) (Lost k b) (a.c.epoch ≡ a.s.epoch) (b.c.epoch ≡ b.s.epoch) (a.s.session < a.c.life) (b.s.session < b.c.life) (lost k (Releases a stamp i g to j sv e2 ro mo) t l refl u) (λ x. x) (λ x v. v) (λ d. omega arith) at (λ d g to x s q. q) (λ d g mode x v q. q) m.body (l.msgs u m w e p)) m w
    where
      b : Assoc
      b = send (msg (a.s.row i).life a.s.epoch stamp Ack) (server (record a.s { row = upd a.s.row i (record { life = (a.s.row i).life; g = g; mode = to }) }) a)

      at : (d g2 m2 : ℕ) → 1 ≤ m2 → Covered a.c.life (a.s.row d) g2 m2 → Covered a.c.life (b.s.row d) g2 m2 ⊎ ((g2 ≤ a.c.seen d) ⊎ Lost k b)
      at d g2 m2 o c =
          upd_all (λ d r. Covered a.c.life (a.s.row d) g2 m2 → Covered a.c.life r g2 m2 ⊎ ((g2 ≤ a.c.seen d) ⊎ Lost k b)) a.s.row i (record { life = (a.s.row i).life; g = g; mode = to })
          (λ c. let n = l.msgs u _ j c.of_life refl in let s : g ≤ a.c.seen i = n.seen in inr (inl (omega (arith, c.at_least))))
          (λ d n c. inl c) d c
  msgs ok (Sweeps a row sw) t l u m w = λ e p.
      now_with a.c.life a.s.row b.s.row a.c.held a.c.held a.c.seen a.c.seen (Lost k a) (Lost k b) (a.c.epoch ≡ a.s.epoch) (b.c.epoch ≡ b.s.epoch) (a.s.session < a.c.life) (b.s.session < b.c.life) (lost k (Sweeps a row sw) t l refl u) (λ x. x) (λ x v. v) (λ d. omega arith) at (λ d g to x s q. q) (λ d g mode x v q. q) m.body (l.msgs u m w e p)
    where
      b : Assoc
      b = server (record a.s { row = row }) a

      at : (d g2 m2 : ℕ) → 1 ≤ m2 → Covered a.c.life (a.s.row d) g2 m2 → Covered a.c.life (b.s.row d) g2 m2 ⊎ ((g2 ≤ a.c.seen d) ⊎ Lost k b)
      at d g2 m2 o c = swept (λ r. Covered a.c.life r g2 m2 ⊎ ((g2 ≤ a.c.seen d) ⊎ Lost k b)) (row d) (a.s.row d) (sw d) (inl c) (λ z. absurd (omega (arith, c.high)))
  msgs {b = b} ok mv t l u m i = λ e p. still b l (lost k mv t l refl u) u m i e p

  pub locks : {a b : Assoc} → ConfigOk k → Move k a b → Timing k a → Locks k a → Locks k b
  locks ok m t l =
      record {
        born = born k m l;
        begun = begun k m l;
        down = down k m l;
        new = new k m l;
        seen = seen k m l;
        below = below k m l;
        low = low k m l;
        rows = rows k m l;
        joined = joined k m t l;
        graced = graced k m t l;
        held = held ok m t l;
        msgs = msgs ok m t l;
      }
