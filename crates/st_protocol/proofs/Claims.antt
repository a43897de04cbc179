-- What an association claims while the server is down or in grace, and that it never grows.
use Rattle.std.proofs.Common.{◌≡◌, ℕ, ◌<◌, ◌≤◌, ◌⊎◌, Bool, true, false, List, ◌∷◌, refl, sym, ap, ◌∙◌, subst, inl, inr, arith}
use Rattle.st_protocol.specs.Assoc.{Config, Lock, Body, Msg, no_row, Client, Server, Assoc, In, Alive, server, msg, Move, Claim, Frozen, Hello, Plain, Released, Reassert, Welcome, Ack, Reasserted, Granted, Demand, OfOtherEpoch, Advance, Greets, Asks, Loses, Crashes, Begins, Renews, Installs, AskedOfNone, Asked, Declines, Repeats, Again, Sweeps, Reduces, Adopts, Reasserts, Settles, Welcomes, WelcomesAgain, Acks, Refuses, Accepts, Steals, GraceEnds, Grants, GrantsAgain, Demands, Releases, Stops, Starts, ByRow, ByHeld, ByGrant, ByReassert}
use Rattle.st_protocol.proofs.Lists.{upd_all, upd_up, in_cons, swept}
use Rattle.st_protocol.proofs.Timing.{Timing}
use Rattle.st_protocol.proofs.Locks.{Lost, Covered, Locks}
use Rattle.st_protocol.proofs.Steps.{outsider, same_or_less}

-- a message that only a leased client sends, or that answers one
abbrev pub of_lease : Body → Bool
of_lease Plain = true
of_lease (Released i g to) = true
of_lease (Reassert locks) = true
of_lease (Granted i g mode) = true
of_lease (Demand i g to) = true
of_lease Hello = false
of_lease Welcome = false
of_lease Ack = false
of_lease Reasserted = false
of_lease OfOtherEpoch = false

abbrev pub OfLease : Client → Msg → Type 0
OfLease c m = of_lease m.body ≡ true → m.life ≡ c.life → record { leased : c.leased ≡ true; epoch : m.epoch ≤ c.epoch }

pub record AskedFor (a : Assoc) : Type 0 where
  pub msgs : (m : Msg) → In m a.net → OfLease a.c m
  pub rows : (i : ℕ) → 1 ≤ (a.s.row i).mode → (a.s.row i).life ≡ a.c.life → record { leased : a.c.leased ≡ true; epoch : a.s.epoch ≤ a.c.epoch }

module _ (k : Config) where
  msgs : {a b : Assoc} → Move k a b → Timing k a → Locks k a → AskedFor a → (m : Msg) → In m b.net → OfLease b.c m
  msgs (Loses a h i) t l q m w = λ e f. let z = (t.sent m w).of_life in absurd (omega (arith, z))
  msgs (Crashes a) t l q m w = λ e f. let z = (t.sent m w).of_life in absurd (omega (arith, z))
  msgs (Begins a stamp epoch i h j) t l q m w = λ e f. let z = q.msgs m w e f in cc (z.leased)
  msgs (Adopts a stamp epoch i h j) t l q m w = λ e f. let z = q.msgs m w e f in record { leased = z.leased; epoch = omega (arith, z.epoch) }
  msgs (Greets a h) t l q m w = in_cons (OfLease a.c) _ a.net (λ e. cc) q.msgs m w
  msgs (Asks a h) t l q m w = in_cons (OfLease a.c) _ a.net (λ e f. record { leased = h.leased; epoch = omega arith }) q.msgs m w
  msgs (Reasserts a h du) t l q m w = in_cons (OfLease a.c) _ a.net (λ e f. record { leased = h.leased; epoch = omega arith }) q.msgs m w
  msgs (Reduces a i to h jo fe so mo gn ge gl) t l q m w = in_cons (OfLease a.c) _ a.net (λ e f. record { leased = h.leased; epoch = omega arith }) q.msgs m w
  msgs (AskedOfNone a stamp i g to j h mo top se sg) t l q m w = in_cons (OfLease a.c) _ a.net (λ e f. record { leased = h.leased; epoch = omega arith }) q.msgs m w
  msgs (Declines a stamp i g mode j h se z) t l q m w = in_cons (OfLease a.c) _ a.net (λ e f. record { leased = h.leased; epoch = omega arith }) q.msgs m w
  msgs (Repeats a was b j r h) t l q m w = in_cons (OfLease a.c) _ a.net (λ e f. record { leased = h.leased; epoch = omega arith }) q.msgs m w
  msgs (Again a was stamp b j f n sv li) t l q m w = in_cons (OfLease a.c) _ a.net (λ e g. q.msgs _ j e g) q.msgs m w
  msgs (Welcomes a life stamp j sv gr s r) t l q m w = in_cons (OfLease a.c) _ a.net (λ e. cc) q.msgs m w
  msgs (WelcomesAgain a stamp j sv li gr) t l q m w = in_cons (OfLease a.c) _ a.net (λ e. cc) q.msgs m w
  msgs (Acks a stamp j sv li) t l q m w = in_cons (OfLease a.c) _ a.net (λ e. cc) q.msgs m w
  msgs (Refuses a n j sv) t l q m w = in_cons (OfLease a.c) _ a.net (λ e. cc) q.msgs m w
  msgs (Accepts a life stamp locks j sv gr s r) t l q m w = in_cons (OfLease a.c) _ a.net (λ e. cc) q.msgs m w
  msgs (Grants a st i g mode as_ li sv gr to mo tw) t l q m w = in_cons (OfLease a.c) _ a.net (λ e f. q.msgs _ as_ refl f) q.msgs m w
  msgs (GrantsAgain a i sv mo) t l q m w = in_cons (OfLease a.c) _ a.net (λ e f. q.rows i mo f) q.msgs m w
  msgs (Demands a i to sv mo) t l q m w = in_cons (OfLease a.c) _ a.net (λ e f. q.rows i mo f) q.msgs m w
  msgs (Releases a stamp i g to j sv e2 ro mo) t l q m w = in_cons (OfLease a.c) _ a.net (λ e. cc) q.msgs m w
  msgs _ t l q m w = q.msgs m w

  rows : {a b : Assoc} → Move k a b → Timing k a → Locks k a → AskedFor a → (i : ℕ) → 1 ≤ (b.s.row i).mode → (b.s.row i).life ≡ b.c.life → record { leased : b.c.leased ≡ true; epoch : b.s.epoch ≤ b.c.epoch }
  rows (Loses a h j) t l q i o f = absurd (omega (arith, t.rows i, t.lives))
  rows (Crashes a) t l q i o f = absurd (omega (arith, t.rows i, t.lives))
  rows (Begins a stamp epoch j h w) t l q i o f = let z = q.rows i o f in cc (z.leased)
  rows (Adopts a stamp epoch j h w) t l q i o f = let z = q.rows i o f in record { leased = z.leased; epoch = omega (arith, z.epoch) }
  rows (Accepts a life stamp locks j sv gr s r) t l q i o f = q.msgs _ j refl f
  rows (Steals a u on h gr) t l q i o f = absurd (omega arith)
  rows (Stops a u) t l q i o f = absurd (omega arith)
  rows (Starts a u) t l q i o f = absurd (omega (arith, (l.down u).1 i))
  rows (Grants a st i g mode as_ li sv gr to mo tw) t l q d o f =
      upd_all (λ d r. 1 ≤ r.mode → r.life ≡ a.c.life → record { leased : a.c.leased ≡ true; epoch : a.s.epoch ≤ a.c.epoch }) a.s.row i (record { life = a.s.session; g = g; mode = mode })
      (λ o f. q.msgs _ as_ refl f) (λ d n o f. q.rows d o f) d o f
  rows (Releases a stamp i g to j sv e2 ro mo) t l q d o f =
      upd_all (λ d r. 1 ≤ r.mode → r.life ≡ a.c.life → record { leased : a.c.leased ≡ true; epoch : a.s.epoch ≤ a.c.epoch }) a.s.row i (record { life = (a.s.row i).life; g = g; mode = to })
      (λ o f. q.rows i ro f) (λ d n o f. q.rows d o f) d o f
  rows (Sweeps a row p) t l q d o f =
      swept (λ r. 1 ≤ r.mode → r.life ≡ a.c.life → record { leased : a.c.leased ≡ true; epoch : a.s.epoch ≤ a.c.epoch }) (row d) (a.s.row d) (p d) (q.rows d) (λ z o f. absurd (omega arith)) o f
  rows _ t l q i o f = q.rows i o f

  pub asked_for : {a b : Assoc} → Move k a b → Timing k a → Locks k a → AskedFor a → AskedFor b
  asked_for m t l q = record { msgs = msgs m t l q; rows = rows m t l q }

abbrev pub is_claim : Body → Bool
is_claim (Granted i g mode) = true
is_claim (Reassert locks) = true
is_claim Hello = false
is_claim Plain = false
is_claim (Released i g to) = false
is_claim Welcome = false
is_claim Ack = false
is_claim Reasserted = false
is_claim (Demand i g to) = false
is_claim OfOtherEpoch = false

pub in_back : (n m : Msg) (net : List Msg) → is_claim n.body ≡ false → is_claim m.body ≡ true → In m (n ∷ net) → In m net
in_back n m net f t (inl e) = let z : is_claim m.body ≡ is_claim n.body = ap (λ (x : Msg). is_claim x.body) e in cc
in_back n m net f t (inr i) = i

module _ (k : Config) where
  pub not_lost : (a : Assoc) → Timing k a → Alive k a.c → Lost k a → ⊥
  not_lost a t h (inl g) = let r = t.dated h.leased in let p = g.replies (msg a.c.life r.0 a.c.date r.1) r.4 r.2 refl in omega (arith, p, h.lasts)
  not_lost a t h (inr x) = omega (arith, x.late, h.lasts)

  -- outside grace, a living client belongs to the session
  pub inside : (a : Assoc) → Timing k a → a.s.up ≡ true → a.s.grace ≡ false → Alive k a.c → (a.c.epoch ≡ a.s.epoch) × (a.s.session ≡ a.c.life)
  inside a t u g h = (ep (same_or_less a.c.epoch a.s.epoch t.ahead), se (same_or_less a.s.session a.c.life t.lives))
    where
      no : (a.s.session < a.c.life) ⊎ (a.c.epoch < a.s.epoch) → ⊥
      no o = let q = outsider k a t u g h.leased o in omega (arith, q, h.lasts)

      ep : (a.c.epoch ≡ a.s.epoch) ⊎ (a.c.epoch < a.s.epoch) → a.c.epoch ≡ a.s.epoch
      ep (inl e) = e
      ep (inr e) = absurd (no (inr e))

      se : (a.s.session ≡ a.c.life) ⊎ (a.s.session < a.c.life) → a.s.session ≡ a.c.life
      se (inl e) = e
      se (inr e) = absurd (no (inl e))

  -- when the server stops, each claim is covered by a row
  pub claims_of_rows : (a : Assoc) → Timing k a → Locks k a → a.s.up ≡ true → a.s.grace ≡ false → (i mode : ℕ) → 1 ≤ mode →
      Claim k (server (record a.s { up = false; grace = false; session = 0; live = false; row = λ i. no_row; timed = false }) a) i mode → mode ≤ (a.s.row i).mode
  claims_of_rows a t l u g i mode o (ByRow v e) = cc
  claims_of_rows a t l u g i mode o (ByReassert v life stamp locks w e) = cc
  claims_of_rows a t l u g i mode o (ByHeld h e) = let p = inside a t u g h in go (l.held u p.0 p.1 i (omega arith))
    where
      go : Covered a.c.life (a.s.row i) (a.c.held i).g (a.c.held i).mode ⊎ Lost k a → mode ≤ (a.s.row i).mode
      go (inl c) = omega (arith, c.high)
      go (inr x) = absurd (not_lost a t h x)
  claims_of_rows a t l u g i mode o (ByGrant h stamp g2 w s) = let p = inside a t u g h in go (l.msgs u _ w refl p.0).cases
    where
      go : Covered a.c.life (a.s.row i) g2 mode ⊎ ((g2 ≤ a.c.seen i) ⊎ Lost k a) → mode ≤ (a.s.row i).mode
      go (inl c) = c.high
      go (inr (inl x)) = absurd (omega arith)
      go (inr (inr x)) = absurd (not_lost a t h x)

  -- the same lock was claimed before, with this mode or a greater one
  pub record Before (a : Assoc) (i mode : ℕ) : Type 0 where
    pub greater : ℕ
    pub least : mode ≤ greater
    pub claim : Claim k a i greater

  it : {a : Assoc} {i mode : ℕ} → Claim k a i mode → Before a i mode
  it {a} {i} {mode} c = record { greater = mode; least = omega arith; claim = c }

  thawed : (s : Server) → s.up ≡ true → s.grace ≡ false → Frozen s → ⊥
  thawed s u g (inl e) = cc
  thawed s u g (inr e) = cc

  pub shrinks : {a b : Assoc} → Move k a b → Timing k a → Locks k a → AskedFor a → Frozen a.s → (i mode : ℕ) → 1 ≤ mode → Claim k b i mode → Before a i mode
  shrinks (Advance a dc ds dr h lim) t l q fr i mode o (ByRow u e) = it (ByRow u e)
  shrinks (Advance a dc ds dr h lim) t l q fr i mode o (ByHeld x e) = it (ByHeld (record { leased = x.leased; lasts = omega (arith, x.lasts) }) e)
  shrinks (Advance a dc ds dr h lim) t l q fr i mode o (ByGrant x stamp g w s) = it (ByGrant (record { leased = x.leased; lasts = omega (arith, x.lasts) }) stamp g w s)
  shrinks (Advance a dc ds dr h lim) t l q fr i mode o (ByReassert u life stamp locks w e) = it (ByReassert u life stamp locks w e)
  shrinks (Loses a h j) t l q fr i mode o (ByHeld x e) = cc (x.leased)
  shrinks (Loses a h j) t l q fr i mode o (ByGrant x stamp g w s) = cc (x.leased)
  shrinks (Crashes a) t l q fr i mode o (ByHeld x e) = cc (x.leased)
  shrinks (Crashes a) t l q fr i mode o (ByGrant x stamp g w s) = cc (x.leased)
  shrinks (Begins a stamp epoch j h w) t l q fr i mode o (ByHeld x e) = absurd (omega (arith, (l.new h).1 i))
  shrinks (Begins a stamp epoch j h w) t l q fr i mode o (ByGrant x st g y s) = let z = q.msgs _ y refl refl in cc (z.leased)
  shrinks (Renews a stamp j h w) t l q fr i mode o (ByHeld x e) = it (ByHeld h e)
  shrinks (Renews a stamp j h w) t l q fr i mode o (ByGrant x st g y s) = it (ByGrant h st g y s)
  shrinks (Settles a stamp j h) t l q fr i mode o (ByHeld x e) = it (ByHeld h e)
  shrinks (Settles a stamp j h) t l q fr i mode o (ByGrant x st g y s) = it (ByGrant h st g y s)
  shrinks (Adopts a stamp epoch j h w) t l q fr i mode o (ByGrant x st g y s) = let z = q.msgs _ y refl refl in absurd (omega (arith, z.epoch))
  shrinks (Installs a stamp i2 g2 mode2 j h s2) t l q fr i mode o (ByHeld x e) =
      upd_all (λ d v. v.mode ≡ mode → Before a d mode) a.c.held i2 (record { g = g2; mode = mode2 })
      (λ e. record { greater = mode2; least = omega arith; claim = ByGrant h stamp g2 j s2 }) (λ d n e. it (ByHeld h e)) i e
  shrinks (Installs a stamp i2 g2 mode2 j h s2) t l q fr i mode o (ByGrant x st g y s) =
      it (ByGrant h st g y (let z = upd_up a.c.seen i2 g2 (omega arith) i in omega (arith, z)))
  shrinks (Asked a stamp i2 g2 to j h mo se) t l q fr i mode o (ByHeld x e) =
      upd_all (λ d v. v.mode ≡ mode → Before a d mode) a.c.held i2 (record { g = g2; mode = (a.c.held i2).mode }) (λ e. it (ByHeld h e)) (λ d n e. it (ByHeld h e)) i e
  shrinks (Asked a stamp i2 g2 to j h mo se) t l q fr i mode o (ByGrant x st g y s) =
      it (ByGrant h st g y (let z = upd_up a.c.seen i2 g2 (let z2 = l.seen i2 mo in omega (arith, z2)) i in omega (arith, z)))
  shrinks (AskedOfNone a stamp i2 g2 to j h mo top se sg) t l q fr i mode o (ByGrant x st g y s) =
      it (ByGrant h st g (in_back (msg a.c.life a.c.epoch 0 (Released i2 g2 0)) _ a.net refl refl y) (let z = upd_up a.c.seen i2 top se i in omega (arith, z)))
  shrinks (AskedOfNone a stamp i2 g2 to j h mo top se sg) t l q fr i mode o (ByReassert u life st locks y e) =
      it (ByReassert u life st locks (in_back (msg a.c.life a.c.epoch 0 (Released i2 g2 0)) _ a.net refl refl y) e)
  shrinks (Declines a stamp i2 g2 mode2 j h se z) t l q fr i mode o (ByGrant x st g y s) =
      it (ByGrant h st g (in_back (msg a.c.life a.c.epoch 0 (Released i2 g2 0)) _ a.net refl refl y) (let z = upd_up a.c.seen i2 g2 (omega arith) i in omega (arith, z)))
  shrinks (Declines a stamp i2 g2 mode2 j h se z) t l q fr i mode o (ByReassert u life st locks y e) =
      it (ByReassert u life st locks (in_back (msg a.c.life a.c.epoch 0 (Released i2 g2 0)) _ a.net refl refl y) e)
  shrinks (Repeats a was b j r h) t l q fr i mode o (ByGrant x st g (inl y) s) = it (ByGrant x was g (subst (λ (m : Msg). In (msg m.life m.epoch was m.body) a.net) (sym y) j) s)
  shrinks (Repeats a was b j r h) t l q fr i mode o (ByGrant x st g (inr y) s) = it (ByGrant x st g y s)
  shrinks (Repeats a was b j r h) t l q fr i mode o (ByReassert u life st locks (inl y) e) = it (ByReassert u life was locks (subst (λ (m : Msg). In (msg m.life m.epoch was m.body) a.net) (sym y) j) e)
  shrinks (Repeats a was b j r h) t l q fr i mode o (ByReassert u life st locks (inr y) e) = it (ByReassert u life st locks y e)
  shrinks (Again a was stamp b j f n sv li) t l q fr i mode o (ByGrant x st g (inl y) s) = it (ByGrant x was g (subst (λ (m : Msg). In (msg m.life m.epoch was m.body) a.net) (sym y) j) s)
  shrinks (Again a was stamp b j f n sv li) t l q fr i mode o (ByGrant x st g (inr y) s) = it (ByGrant x st g y s)
  shrinks (Again a was stamp b j f n sv li) t l q fr i mode o (ByReassert u life st locks (inl y) e) = it (ByReassert u life was locks (subst (λ (m : Msg). In (msg m.life m.epoch was m.body) a.net) (sym y) j) e)
  shrinks (Again a was stamp b j f n sv li) t l q fr i mode o (ByReassert u life st locks (inr y) e) = it (ByReassert u life st locks y e)
  shrinks (Reduces a i2 to h jo fe so mo gn ge gl) t l q fr i mode o (ByHeld x e) =
      upd_all (λ d v. v.mode ≡ mode → Before a d mode) a.c.held i2 (record { g = gn; mode = to })
      (λ e. record { greater = (a.c.held i2).mode; least = omega arith; claim = ByHeld h refl }) (λ d n e. it (ByHeld h e)) i e
  shrinks (Reduces a i2 to h jo fe so mo gn ge gl) t l q fr i mode o (ByGrant x st g y s) =
      it (ByGrant h st g (in_back (msg a.c.life a.c.epoch 0 (Released i2 (a.c.held i2).g to)) _ a.net refl refl y) s)
  shrinks (Reduces a i2 to h jo fe so mo gn ge gl) t l q fr i mode o (ByReassert u life st locks y e) =
      it (ByReassert u life st locks (in_back (msg a.c.life a.c.epoch 0 (Released i2 (a.c.held i2).g to)) _ a.net refl refl y) e)
  shrinks (Reasserts a h du) t l q fr i mode o (ByGrant x st g (inl y) s) = let z : Granted i g mode ≡ Reassert a.c.held = ap (λ (x : Msg). x.body) y in cc
  shrinks (Reasserts a h du) t l q fr i mode o (ByGrant x st g (inr y) s) = it (ByGrant h st g y s)
  shrinks (Reasserts a h du) t l q fr i mode o (ByReassert u life st locks (inl y) e) =
      let y2 : Reassert locks ≡ Reassert a.c.held = ap (λ (x : Msg). x.body) y in let z : locks ≡ a.c.held = cc in it (ByHeld h (sym (ap (λ (f : ℕ → Lock). (f i).mode) z) ∙ e))
  shrinks (Reasserts a h du) t l q fr i mode o (ByReassert u life st locks (inr y) e) = it (ByReassert u life st locks y e)
  shrinks (Welcomes a life stamp j sv gr s r) t l q fr i mode o c = absurd (thawed a.s sv.up gr fr)
  shrinks (Grants a st i2 g mode2 as_ li sv gr to mo tw) t l q fr i mode o c = absurd (thawed a.s sv.up gr fr)
  shrinks (Steals a u on h gr) t l q fr i mode o c = absurd (thawed a.s u gr fr)
  shrinks (Accepts a life stamp locks j sv gr s r) t l q fr i mode o (ByRow u e) = it (ByReassert u life stamp locks j e)
  shrinks (Accepts a life stamp locks j sv gr s r) t l q fr i mode o (ByGrant x st g y s2) = it (ByGrant x st g (in_back (msg life a.s.epoch stamp Reasserted) _ a.net refl refl y) s2)
  shrinks (Accepts a life stamp locks j sv gr s r) t l q fr i mode o (ByReassert u life2 st locks2 y e) = it (ByReassert u life2 st locks2 (in_back (msg life a.s.epoch stamp Reasserted) _ a.net refl refl y) e)
  shrinks (GrantsAgain a i2 sv mo) t l q fr i mode o (ByGrant x st g (inl y) s) =
      let y2 : Granted i g mode ≡ Granted i2 (a.s.row i2).g (a.s.row i2).mode = ap (λ (x : Msg). x.body) y in let zi : i ≡ i2 = cc in let zm : (a.s.row i2).mode ≡ mode = cc in it (ByRow sv.up (ap (λ d. (a.s.row d).mode) zi ∙ zm))
  shrinks (GrantsAgain a i2 sv mo) t l q fr i mode o (ByGrant x st g (inr y) s) = it (ByGrant x st g y s)
  shrinks (GrantsAgain a i2 sv mo) t l q fr i mode o (ByReassert u life st locks (inl y) e) = let z : Reassert locks ≡ Granted i2 (a.s.row i2).g (a.s.row i2).mode = ap (λ (x : Msg). x.body) y in cc
  shrinks (GrantsAgain a i2 sv mo) t l q fr i mode o (ByReassert u life st locks (inr y) e) = it (ByReassert u life st locks y e)
  shrinks (Releases a stamp i2 g2 to j sv e2 ro mo) t l q fr i mode o (ByRow u e) =
      upd_all (λ d r. r.mode ≡ mode → Before a d mode) a.s.row i2 (record { life = (a.s.row i2).life; g = g2; mode = to })
      (λ e. record { greater = (a.s.row i2).mode; least = omega arith; claim = ByRow u refl }) (λ d n e. it (ByRow u e)) i e
  shrinks (Releases a stamp i2 g2 to j sv e2 ro mo) t l q fr i mode o (ByGrant x st g y s) = it (ByGrant x st g (in_back (msg (a.s.row i2).life a.s.epoch stamp Ack) _ a.net refl refl y) s)
  shrinks (Releases a stamp i2 g2 to j sv e2 ro mo) t l q fr i mode o (ByReassert u life st locks y e) = it (ByReassert u life st locks (in_back (msg (a.s.row i2).life a.s.epoch stamp Ack) _ a.net refl refl y) e)
  shrinks (Stops a u2) t l q fr i mode o (ByRow u e) = cc
  shrinks (Stops a u2) t l q fr i mode o (ByReassert u life st locks y e) = cc
  shrinks (Starts a u2) t l q fr i mode o (ByRow u e) = absurd (omega (arith, (l.down u2).1 i))
  shrinks (Starts a u2) t l q fr i mode o (ByReassert u life st locks y e) = let z = (t.sent _ y).of_epoch in absurd (omega (arith, z))
  shrinks (Greets a h) t l q fr i mode o (ByGrant x st g y s) = it (ByGrant x st g (in_back (msg a.c.life 0 a.c.clock Hello) _ a.net refl refl y) s)
  shrinks (Greets a h) t l q fr i mode o (ByReassert u life st locks y e) = it (ByReassert u life st locks (in_back (msg a.c.life 0 a.c.clock Hello) _ a.net refl refl y) e)
  shrinks (Asks a h) t l q fr i mode o (ByGrant x st g y s) = it (ByGrant x st g (in_back (msg a.c.life a.c.epoch a.c.clock Plain) _ a.net refl refl y) s)
  shrinks (Asks a h) t l q fr i mode o (ByReassert u life st locks y e) = it (ByReassert u life st locks (in_back (msg a.c.life a.c.epoch a.c.clock Plain) _ a.net refl refl y) e)
  shrinks (WelcomesAgain a stamp j sv li gr) t l q fr i mode o (ByGrant x st g y s) = it (ByGrant x st g (in_back (msg a.s.session a.s.epoch stamp Welcome) _ a.net refl refl y) s)
  shrinks (WelcomesAgain a stamp j sv li gr) t l q fr i mode o (ByReassert u life st locks y e) = it (ByReassert u life st locks (in_back (msg a.s.session a.s.epoch stamp Welcome) _ a.net refl refl y) e)
  shrinks (Acks a stamp j sv li) t l q fr i mode o (ByGrant x st g y s) = it (ByGrant x st g (in_back (msg a.s.session a.s.epoch stamp Ack) _ a.net refl refl y) s)
  shrinks (Acks a stamp j sv li) t l q fr i mode o (ByReassert u life st locks y e) = it (ByReassert u life st locks (in_back (msg a.s.session a.s.epoch stamp Ack) _ a.net refl refl y) e)
  shrinks (Refuses a n j sv) t l q fr i mode o (ByGrant x st g y s) = it (ByGrant x st g (in_back (msg n.life a.s.epoch n.stamp OfOtherEpoch) _ a.net refl refl y) s)
  shrinks (Refuses a n j sv) t l q fr i mode o (ByReassert u life st locks y e) = it (ByReassert u life st locks (in_back (msg n.life a.s.epoch n.stamp OfOtherEpoch) _ a.net refl refl y) e)
  shrinks (Demands a i2 to sv mo) t l q fr i mode o (ByGrant x st g y s) = it (ByGrant x st g (in_back (msg (a.s.row i2).life a.s.epoch 0 (Demand i2 (a.s.row i2).g to)) _ a.net refl refl y) s)
  shrinks (Demands a i2 to sv mo) t l q fr i mode o (ByReassert u life st locks y e) = it (ByReassert u life st locks (in_back (msg (a.s.row i2).life a.s.epoch 0 (Demand i2 (a.s.row i2).g to)) _ a.net refl refl y) e)
  shrinks (Sweeps a row p) t l q fr i mode o (ByRow u e) = swept (λ r. r.mode ≡ mode → Before a i mode) (row i) (a.s.row i) (p i) (λ e. it (ByRow u e)) (λ z e. absurd (omega arith)) e
  shrinks _ t l q fr i mode o (ByRow u e) = it (ByRow u e)
  shrinks _ t l q fr i mode o (ByHeld x e) = it (ByHeld x e)
  shrinks _ t l q fr i mode o (ByGrant x st g y s) = it (ByGrant x st g y s)
  shrinks _ t l q fr i mode o (ByReassert u life st locks y e) = it (ByReassert u life st locks y e)

  -- a server that was in service is out of it only if it stops
  pub stopped : {a b : Assoc} → Move k a b → Timing k a → Locks k a → a.s.up ≡ true → a.s.grace ≡ false → Frozen b.s → (i mode : ℕ) → 1 ≤ mode → Claim k b i mode → mode ≤ (a.s.row i).mode
  stopped (Stops a u2) t l u g fb i mode o c = claims_of_rows a t l u g i mode o c
  stopped (Starts a u2) t l u g fb i mode o c = cc
  stopped (GraceEnds a u2 gr h) t l u g fb i mode o c = cc
  stopped (Advance a dc ds dr h lim) t l u g fb i mode o c = absurd (thawed a.s u g fb)
  stopped {a} _ t l u g fb i mode o c = absurd (thawed a.s u g fb)

  -- in service, a living client's lock has a row
  pub in_service : (a : Assoc) → Timing k a → Locks k a → a.s.up ≡ true → a.s.grace ≡ false → Alive k a.c → (i : ℕ) → 1 ≤ (a.c.held i).mode → (a.c.held i).mode ≤ (a.s.row i).mode
  in_service a t l u g h i o = let p = inside a t u g h in go (l.held u p.0 p.1 i o)
    where
      go : Covered a.c.life (a.s.row i) (a.c.held i).g (a.c.held i).mode ⊎ Lost k a → (a.c.held i).mode ≤ (a.s.row i).mode
      go (inl c) = c.high
      go (inr x) = absurd (not_lost a t h x)
