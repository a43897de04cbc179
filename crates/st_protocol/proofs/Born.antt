-- Lives are numbered from 1: the client's, those of messages, of a session that is served, and of rows.
use Rattle.std.proofs.Common.{◌≡◌, ℕ, ◌≤◌, true, arith}
use Rattle.st_protocol.specs.Assoc.{Config, Msg, Assoc, In, Row, Move, Greets, Asks, Loses, Crashes, AskedOfNone, Declines, Repeats, Again, Reduces, Reasserts, Welcomes, WelcomesAgain, Acks, Refuses, Accepts, Steals, Grants, GrantsAgain, Demands, Releases, Sweeps, Stops}
use Rattle.st_protocol.proofs.Lists.{in_cons, upd_all, swept}

abbrev pub BornRow : Row → Type 0
BornRow r = 1 ≤ r.mode → 1 ≤ r.life

pub record Born (a : Assoc) : Type 0 where
  pub client : 1 ≤ a.c.life
  pub sent : (m : Msg) → In m a.net → 1 ≤ m.life
  pub session : a.s.live ≡ true → 1 ≤ a.s.session
  pub rows : (i : ℕ) → BornRow (a.s.row i)

module _ (k : Config) where
  client : {a b : Assoc} → Move k a b → Born a → 1 ≤ b.c.life
  client (Loses a h i) o = omega arith
  client (Crashes a) o = omega arith
  client _ o = o.client

  sent : {a b : Assoc} → Move k a b → Born a → (m : Msg) → In m b.net → 1 ≤ m.life
  sent (Greets a h) o m w = in_cons (λ m. 1 ≤ m.life) _ a.net o.client o.sent m w
  sent (Asks a h) o m w = in_cons (λ m. 1 ≤ m.life) _ a.net o.client o.sent m w
  sent (AskedOfNone a stamp i g to j h mo top se sg) o m w = in_cons (λ m. 1 ≤ m.life) _ a.net o.client o.sent m w
  sent (Reduces a i to h jo fe so mo gn ge gl) o m w = in_cons (λ m. 1 ≤ m.life) _ a.net o.client o.sent m w
  sent (Declines a stamp i g mode j h se z) o m w = in_cons (λ m. 1 ≤ m.life) _ a.net o.client o.sent m w
  sent (Repeats a was b j r h) o m w = in_cons (λ m. 1 ≤ m.life) _ a.net o.client o.sent m w
  sent (Reasserts a h du) o m w = in_cons (λ m. 1 ≤ m.life) _ a.net o.client o.sent m w
  sent (Again a was stamp b j e i sv li) o m w = in_cons (λ m. 1 ≤ m.life) _ a.net (o.sent _ j) o.sent m w
  sent (Welcomes a life stamp j sv gr s r) o m w = in_cons (λ m. 1 ≤ m.life) _ a.net (o.sent _ j) o.sent m w
  sent (WelcomesAgain a stamp j sv li gr) o m w = in_cons (λ m. 1 ≤ m.life) _ a.net (o.sent _ j) o.sent m w
  sent (Acks a stamp j sv li) o m w = in_cons (λ m. 1 ≤ m.life) _ a.net (o.sent _ j) o.sent m w
  sent (Refuses a n j sv) o m w = in_cons (λ m. 1 ≤ m.life) _ a.net (o.sent _ j) o.sent m w
  sent (Accepts a life stamp locks j sv gr s r) o m w = in_cons (λ m. 1 ≤ m.life) _ a.net (o.sent _ j) o.sent m w
  sent (Grants a st i g mode as_ li sv gr to mo tw) o m w = in_cons (λ m. 1 ≤ m.life) _ a.net (o.session li) o.sent m w
  sent (GrantsAgain a i sv mo) o m w = in_cons (λ m. 1 ≤ m.life) _ a.net (o.rows i mo) o.sent m w
  sent (Demands a i to sv mo) o m w = in_cons (λ m. 1 ≤ m.life) _ a.net (o.rows i mo) o.sent m w
  sent (Releases a stamp i g to j sv e ro mo) o m w = in_cons (λ m. 1 ≤ m.life) _ a.net (o.rows i ro) o.sent m w
  sent _ o m w = o.sent m w

  session : {a b : Assoc} → Move k a b → Born a → b.s.live ≡ true → 1 ≤ b.s.session
  session (Welcomes a life stamp j sv gr s r) o e = o.sent _ j
  session (Accepts a life stamp locks j sv gr s r) o e = o.sent _ j
  session (Steals a u ti h gr) o e = cc
  session (Stops a u) o e = cc
  session _ o e = o.session e

  rows : {a b : Assoc} → Move k a b → Born a → (i : ℕ) → BornRow (b.s.row i)
  rows (Accepts a life stamp locks j sv gr s r) o i e = o.sent _ j
  rows (Steals a u ti h gr) o i e = absurd (omega arith)
  rows (Stops a u) o i e = absurd (omega arith)
  rows (Grants a st i2 g mode as_ li sv gr to mo tw) o i e = upd_all (λ d r. BornRow r) a.s.row i2 _ (λ f. o.session li) (λ d n. o.rows d) i e
  rows (Releases a stamp i2 g to j sv e2 ro mo) o i e = upd_all (λ d r. BornRow r) a.s.row i2 _ (λ f. o.rows i2 ro) (λ d n. o.rows d) i e
  rows (Sweeps a row h) o i e = swept BornRow (row i) (a.s.row i) (h i) (o.rows i) (λ z f. absurd (omega arith)) e
  rows _ o i e = o.rows i e

  pub born : {a b : Assoc} → Move k a b → Born a → Born b
  born m o = record { client = client m o; sent = sent m o; session = session m o; rows = rows m o }
