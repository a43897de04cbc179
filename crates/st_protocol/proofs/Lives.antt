-- Only one life of a client reasserts in an epoch: the one that it had when the epoch began.
use Rattle.std.proofs.Common.{◌≡◌, ℕ, zero, suc, ◌<◌, ◌≤◌, true, false, refl, arith}
use Rattle.st_protocol.specs.Assoc.{Config, Lock, Body, Msg, of_session, of_kept, is_reassert, Assoc, In, msg, Move, Hello, Plain, Released, Reassert, Welcome, Ack, Reasserted, Granted, Demand, OfOtherEpoch, Greets, Asks, Loses, Crashes, Begins, AskedOfNone, Declines, Repeats, Again, Reduces, Adopts, Reasserts, Settles, Welcomes, WelcomesAgain, Acks, Refuses, Accepts, GraceEnds, Grants, GrantsAgain, Demands, Releases, Stops, Starts}
use Rattle.st_protocol.proofs.Lists.{in_cons}
use Rattle.st_protocol.proofs.Timing.{Timing, renews_of, of_client}
use Rattle.st_protocol.proofs.Locks.{Locks}

pub record Lives (a : Assoc) : Type 0 where
  pub since : a.s.up ≡ true → a.s.glife ≤ a.c.life
  pub former : a.s.up ≡ true → (m : Msg) → In m a.net → of_session m.body ≡ true → m.epoch < a.s.epoch → m.life ≤ a.s.glife
  pub due : a.s.up ≡ true → a.c.leased ≡ true → a.c.due ≡ true → a.c.epoch ≡ a.s.epoch → a.c.life ≡ a.s.glife
  pub asserts : a.s.up ≡ true → (m : Msg) → In m a.net → is_reassert m.body ≡ true → m.epoch ≡ a.s.epoch → m.life ≡ a.s.glife
  pub graced : a.s.up ≡ true → a.s.grace ≡ true → 1 ≤ a.s.session → a.s.session ≡ a.s.glife

of_kept_body : (b : Body) → of_kept b ≡ true → is_reassert b ≡ false
of_kept_body Ack e = refl
of_kept_body Reasserted e = refl
of_kept_body (Granted i g m) e = refl
of_kept_body Welcome e = cc
of_kept_body (Demand i g to) e = cc
of_kept_body Hello e = cc
of_kept_body Plain e = cc
of_kept_body (Released i g to) e = cc
of_kept_body (Reassert l) e = cc
of_kept_body OfOtherEpoch e = cc

module _ (k : Config) where
  since : {a b : Assoc} → Move k a b → Lives a → b.s.up ≡ true → b.s.glife ≤ b.c.life
  since (Loses a h i) l u = omega (arith, l.since u)
  since (Crashes a) l u = omega (arith, l.since u)
  since (Stops a u2) l u = cc
  since (Starts a u2) l u = omega arith
  since _ l u = l.since u

  abbrev Former : Assoc → Msg → Type 0
  Former a m = of_session m.body ≡ true → m.epoch < a.s.epoch → m.life ≤ a.s.glife

  former : {a b : Assoc} → Move k a b → Timing k a → Lives a → b.s.up ≡ true → (m : Msg) → In m b.net → of_session m.body ≡ true → m.epoch < b.s.epoch → m.life ≤ b.s.glife
  former (Greets a h) t l u m y = in_cons (Former a) _ a.net (λ e f. cc) (l.former u) m y
  former (Asks a h) t l u m y = in_cons (Former a) _ a.net (λ e f. cc) (l.former u) m y
  former (AskedOfNone a stamp i g to j h mo top se sg) t l u m y = in_cons (Former a) _ a.net (λ e f. cc) (l.former u) m y
  former (Reduces a i to h jo fe so mo gn ge gl) t l u m y = in_cons (Former a) _ a.net (λ e f. cc) (l.former u) m y
  former (Declines a stamp i g mode j h se z) t l u m y = in_cons (Former a) _ a.net (λ e f. cc) (l.former u) m y
  former (Repeats a was b j r h) t l u m y = in_cons (Former a) _ a.net (λ e f. let z = (of_client b r).0 in cc) (l.former u) m y
  former (Reasserts a h du) t l u m y = in_cons (Former a) _ a.net (λ e f. cc) (l.former u) m y
  former (Again a was stamp b j f i sv li) t l u m y = in_cons (Former a) _ a.net (λ e g. absurd (omega arith)) (l.former u) m y
  former (Welcomes a life stamp j sv gr s r) t l u m y = in_cons (Former a) _ a.net (λ e f. absurd (omega arith)) (l.former u) m y
  former (WelcomesAgain a stamp j sv li gr) t l u m y = in_cons (Former a) _ a.net (λ e f. absurd (omega arith)) (l.former u) m y
  former (Acks a stamp j sv li) t l u m y = in_cons (Former a) _ a.net (λ e f. absurd (omega arith)) (l.former u) m y
  former (Refuses a n j sv) t l u m y = in_cons (Former a) _ a.net (λ e f. cc) (l.former u) m y
  former (Accepts a life stamp locks j sv gr s r) t l u m y = in_cons (Former a) _ a.net (λ e f. absurd (omega arith)) (l.former u) m y
  former (Grants a st i g mode as_ li sv gr to mo tw) t l u m y = in_cons (Former a) _ a.net (λ e f. absurd (omega arith)) (l.former u) m y
  former (GrantsAgain a i sv mo) t l u m y = in_cons (Former a) _ a.net (λ e f. absurd (omega arith)) (l.former u) m y
  former (Demands a i to sv mo) t l u m y = in_cons (Former a) _ a.net (λ e f. absurd (omega arith)) (l.former u) m y
  former (Releases a stamp i g to j sv e ro mo) t l u m y = in_cons (Former a) _ a.net (λ e f. absurd (omega arith)) (l.former u) m y
  former (Stops a u2) t l u m y = cc
  former (Starts a u2) t l u m y = λ e f. (t.sent m y).of_life
  former _ t l u m y = l.former u m y

  -- a client that is leased in an older epoch belongs to the life that began the present one, or to one before it
  older : (a : Assoc) → Timing k a → Lives a → a.s.up ≡ true → a.c.leased ≡ true → a.c.epoch < a.s.epoch → a.c.life ≤ a.s.glife
  older a t l u e lt = let d = t.dated e in l.former u (msg a.c.life d.0 a.c.date d.1) d.4 (renews_of d.1 d.2) (let q = d.3 in omega arith)

  due : {a b : Assoc} → Move k a b → Timing k a → Lives a → b.s.up ≡ true → b.c.leased ≡ true → b.c.due ≡ true → b.c.epoch ≡ b.s.epoch → b.c.life ≡ b.s.glife
  due (Loses a h i) t l u e f g = cc
  due (Crashes a) t l u e f g = cc
  due (Begins a stamp epoch i h j) t l u e f g = cc
  due (Settles a stamp i h) t l u e f g = cc
  due (Adopts a stamp epoch i h j) t l u e f g = let z = older a t l u h.leased (omega arith) in let y = l.since u in omega arith
  due (Stops a u2) t l u e f g = cc
  due (Starts a u2) t l u e f g = let z = t.ahead in absurd (omega arith)
  due _ t l u e f g = l.due u e f g

  abbrev Asserts : Assoc → Msg → Type 0
  Asserts a m = is_reassert m.body ≡ true → m.epoch ≡ a.s.epoch → m.life ≡ a.s.glife

  asserts : {a b : Assoc} → Move k a b → Timing k a → Lives a → b.s.up ≡ true → (m : Msg) → In m b.net → is_reassert m.body ≡ true → m.epoch ≡ b.s.epoch → m.life ≡ b.s.glife
  asserts (Greets a h) t l u m y = in_cons (Asserts a) _ a.net (λ e f. cc) (l.asserts u) m y
  asserts (Asks a h) t l u m y = in_cons (Asserts a) _ a.net (λ e f. cc) (l.asserts u) m y
  asserts (AskedOfNone a stamp i g to j h mo top se sg) t l u m y = in_cons (Asserts a) _ a.net (λ e f. cc) (l.asserts u) m y
  asserts (Reduces a i to h jo fe so mo gn ge gl) t l u m y = in_cons (Asserts a) _ a.net (λ e f. cc) (l.asserts u) m y
  asserts (Declines a stamp i g mode j h se z) t l u m y = in_cons (Asserts a) _ a.net (λ e f. cc) (l.asserts u) m y
  asserts (Repeats a was b j r h) t l u m y = in_cons (Asserts a) _ a.net (λ e f. l.asserts u (msg a.c.life a.c.epoch was b) j e f) (l.asserts u) m y
  asserts (Reasserts a h du) t l u m y = in_cons (Asserts a) _ a.net (λ e f. l.due u h.leased du f) (l.asserts u) m y
  asserts (Again a was stamp b j f i sv li) t l u m y = in_cons (Asserts a) _ a.net (λ e g. let z = of_kept_body b f in cc) (l.asserts u) m y
  asserts (Welcomes a life stamp j sv gr s r) t l u m y = in_cons (Asserts a) _ a.net (λ e f. cc) (l.asserts u) m y
  asserts (WelcomesAgain a stamp j sv li gr) t l u m y = in_cons (Asserts a) _ a.net (λ e f. cc) (l.asserts u) m y
  asserts (Acks a stamp j sv li) t l u m y = in_cons (Asserts a) _ a.net (λ e f. cc) (l.asserts u) m y
  asserts (Refuses a n j sv) t l u m y = in_cons (Asserts a) _ a.net (λ e f. cc) (l.asserts u) m y
  asserts (Accepts a life stamp locks j sv gr s r) t l u m y = in_cons (Asserts a) _ a.net (λ e f. cc) (l.asserts u) m y
  asserts (Grants a st i g mode as_ li sv gr to mo tw) t l u m y = in_cons (Asserts a) _ a.net (λ e f. cc) (l.asserts u) m y
  asserts (GrantsAgain a i sv mo) t l u m y = in_cons (Asserts a) _ a.net (λ e f. cc) (l.asserts u) m y
  asserts (Demands a i to sv mo) t l u m y = in_cons (Asserts a) _ a.net (λ e f. cc) (l.asserts u) m y
  asserts (Releases a stamp i g to j sv e ro mo) t l u m y = in_cons (Asserts a) _ a.net (λ e f. cc) (l.asserts u) m y
  asserts (Stops a u2) t l u m y = cc
  asserts (Starts a u2) t l u m y = λ e f. let z = (t.sent m y).of_epoch in absurd (omega arith)
  asserts _ t l u m y = l.asserts u m y

  graced : {a b : Assoc} → Move k a b → Locks k a → Lives a → b.s.up ≡ true → b.s.grace ≡ true → 1 ≤ b.s.session → b.s.session ≡ b.s.glife
  graced (Welcomes a life stamp j sv gr s r) o l u g h = cc
  graced (Accepts a life stamp locks j sv gr s r) o l u g h = l.asserts u (msg life a.s.epoch stamp (Reassert locks)) j refl refl
  graced (GraceEnds a u2 gr h2) o l u g h = cc
  graced (Stops a u2) o l u g h = cc
  graced (Starts a u2) o l u g h = let z = (o.down u2).0 in absurd (omega arith)
  graced _ o l u g h = l.graced u g h

  pub lives : {a b : Assoc} → Move k a b → Timing k a → Locks k a → Lives a → Lives b
  lives m t o l = record { since = since m l; former = former m t l; due = due m t l; asserts = asserts m t l; graced = graced m o l }

  -- in grace a reassertion that is new finds no session at all
  pub first_in_grace : (a : Assoc) → Lives a → a.s.up ≡ true → a.s.grace ≡ true → (life stamp : ℕ) (locks : ℕ → Lock) → In (msg life a.s.epoch stamp (Reassert locks)) a.net → a.s.session < life → a.s.session ≡ 0
  first_in_grace a l u g life stamp locks i lt = let z = l.asserts u (msg life a.s.epoch stamp (Reassert locks)) i refl refl in let y = l.graced u g in by_cases a.s.session y lt z
    where
      by_cases : (s : ℕ) → (1 ≤ s → s ≡ a.s.glife) → s < life → life ≡ a.s.glife → s ≡ 0
      by_cases zero y lt z = refl
      by_cases (suc s) y lt z = let q = y (omega arith) in absurd (omega arith)
