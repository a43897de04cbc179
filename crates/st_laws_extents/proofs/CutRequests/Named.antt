-- A grant's number names its file: each move of the association machine keeps it, and so it holds in every reachable state.
use Rattle.st_lemmas.proofs.Words
use Words.{◌≡◌, ℕ, ◌≤◌, ◌<◌, ◌⊎◌, List, ◌∷◌, refl, sym, ap, ◌∙◌, subst, inl, inr, arith}
use Rattle.st_protocol.specs.Assoc.{Config, ConfigOk, Lock, Body, Msg, Row, Assoc, World, In, msg, Move, Moves, Stays, GoesOn, Reached, AtFirst, Then, Works}
use Rattle.st_protocol.specs.Assoc.{BeginsAt, Hello, Plain, Released, Reassert, Welcome, Ack, Reasserted, Granted, Demand, OfOtherEpoch, Greets, Asks, Loses}
use Rattle.st_protocol.specs.Assoc.{Crashes, Begins, Installs, AskedOfNone, Asked, Declines, Repeats, Again, Sweeps, Reduces, Reasserts, Welcomes}
use Rattle.st_protocol.specs.Assoc.{WelcomesAgain, Acks, Refuses, Accepts, Steals, Grants, GrantsAgain, Demands, Releases, Stops}
use Rattle.st_protocol.proofs.Lists.{in_cons, swept, upd_all}
use Rattle.st_protocol.proofs.Timing.{grows}
use Rattle.st_protocol.proofs.Locks.{Locks}
use Rattle.st_protocol.proofs.Invariant.{Invariant, kept_one}
use Rattle.st_protocol.proofs.World.{invariant}
use Rattle.st_laws_extents.specs.CutRequests.NamedGrants.{Given, Named, NetNamed, NumbersNameFiles, TellsGiven}

-- among more messages
pub given_more : (net more : List Msg) → ((m : Msg) → In m net → In m more) → (i g : ℕ) → Given net i g → Given more i g
given_more net more f i g z = record { life = z.life; epoch = z.epoch; stamp = z.stamp; mode = z.mode; is = f _ z.is }

tells_more : (net more : List Msg) → ((m : Msg) → In m net → In m more) → (b : Body) → TellsGiven net b → TellsGiven more b
tells_more net more f (Granted i g mode) t = given_more net more f i g t
tells_more net more f (Demand i g to) t = given_more net more f i g t
tells_more net more f (Reassert locks) t = λ i e. given_more net more f i (locks i).g (t i e)
tells_more net more f Hello t = tt
tells_more net more f Plain t = tt
tells_more net more f (Released i g to) t = tt
tells_more net more f Welcome t = tt
tells_more net more f Ack t = tt
tells_more net more f Reasserted t = tt
tells_more net more f OfOtherEpoch t = tt

behind : (n : Msg) (net : List Msg) (m : Msg) → In m net → In m (n ∷ net)
behind n net m h = inr h

-- what a grant in a list says
granted_is : (net : List Msg) (n : Msg) → TellsGiven net n.body → (i g life epoch stamp mode : ℕ) → msg life epoch stamp (Granted i g mode) ≡ n → Given net i g
granted_is net n t i g life epoch stamp mode e = subst (λ (m : Msg). TellsGiven net m.body) (sym e) t

-- one more message, of numbers that were given
named_with_one_more : (n : Msg) (net : List Msg) → TellsGiven net n.body → NetNamed net → NetNamed (n ∷ net)
named_with_one_more n net t h =
    record {
      one = λ i j g x y. h.one i j g (old i g x) (old j g y);
      positive = λ i g x. h.positive i g (old i g x);
      told = λ m w. in_cons (λ m. TellsGiven (n ∷ net) m.body) n net (tells_more net (n ∷ net) (behind n net) n.body t) (λ m w. tells_more net (n ∷ net) (behind n net) m.body (h.told m w)) m w;
    }
  where
    old : (i g : ℕ) → Given (n ∷ net) i g → Given net i g
    old i g x = go x.is
      where
        go : (msg x.life x.epoch x.stamp (Granted i g x.mode) ≡ n) ⊎ In (msg x.life x.epoch x.stamp (Granted i g x.mode)) net → Given net i g
        go (inl e) = granted_is net n t i g x.life x.epoch x.stamp x.mode e
        go (inr w) = record { life = x.life; epoch = x.epoch; stamp = x.stamp; mode = x.mode; is = w }

-- a grant, by its body
grant_parts : (i g mode j h mode2 : ℕ) → ◌≡◌ {A = Body} (Granted i g mode) (Granted j h mode2) → (i ≡ j) × (g ≡ h)
grant_parts i g mode j h mode2 e = (cc, cc)

-- one more grant, of a number above all others
more_grant : (life epoch stamp i g mode top : ℕ) (net : List Msg) → top < g → ((j n : ℕ) → Given net j n → n ≤ top) → NetNamed net → NetNamed (msg life epoch stamp (Granted i g mode) ∷ net)
more_grant life epoch stamp i g mode top net above low h =
    record {
      one = λ x y n p q. both x y n (which x n p) (which y n q);
      positive = λ x n p. pos x n (which x n p);
      told = λ m w. in_cons (λ m. TellsGiven (msg life epoch stamp (Granted i g mode) ∷ net) m.body) (msg life epoch stamp (Granted i g mode)) net (record { life = life; epoch = epoch; stamp = stamp; mode = mode; is = inl refl })
          (λ m w. tells_more net (msg life epoch stamp (Granted i g mode) ∷ net) (behind (msg life epoch stamp (Granted i g mode)) net) m.body (h.told m w)) m w;
    }
  where
    which : (x n : ℕ) → Given (msg life epoch stamp (Granted i g mode) ∷ net) x n → ((x ≡ i) × (n ≡ g)) ⊎ Given net x n
    which x n p = go p.is
      where
        go : (msg p.life p.epoch p.stamp (Granted x n p.mode) ≡ msg life epoch stamp (Granted i g mode)) ⊎ In (msg p.life p.epoch p.stamp (Granted x n p.mode)) net → ((x ≡ i) × (n ≡ g)) ⊎ Given net x n
        go (inl e) = inl (grant_parts x n p.mode i g mode (ap (λ (m : Msg). m.body) e))
        go (inr w) = inr (record { life = p.life; epoch = p.epoch; stamp = p.stamp; mode = p.mode; is = w })

    both : (x y n : ℕ) → ((x ≡ i) × (n ≡ g)) ⊎ Given net x n → ((y ≡ i) × (n ≡ g)) ⊎ Given net y n → x ≡ y
    both x y n (inl p) (inl q) = p.0 ∙ sym q.0
    both x y n (inl p) (inr q) = let z = low y n q in let e = p.1 in absurd (omega (arith, z, e, above))
    both x y n (inr p) (inl q) = let z = low x n p in let e = q.1 in absurd (omega (arith, z, e, above))
    both x y n (inr p) (inr q) = h.one x y n p q

    pos : (x n : ℕ) → ((x ≡ i) × (n ≡ g)) ⊎ Given net x n → 1 ≤ n
    pos x n (inl p) = let e = p.1 in omega (arith, e, above)
    pos x n (inr p) = h.positive x n p

module _ (k : Config) where
  low_of : (a : Assoc) → Locks k a → (j n : ℕ) → Given a.net j n → n ≤ a.s.top
  low_of a l j n z = l.low _ z.is

  nets : {a b : Assoc} → Move k a b → Locks k a → Named a → NetNamed b.net
  nets (Greets a h) l o = named_with_one_more _ a.net tt o.net
  nets (Asks a h) l o = named_with_one_more _ a.net tt o.net
  nets (AskedOfNone a stamp i g to j h mo top se sg) l o = named_with_one_more _ a.net tt o.net
  nets (Reduces a i to h jo fe so mo gn ge gl) l o = named_with_one_more _ a.net tt o.net
  nets (Declines a stamp i g mode j h se z) l o = named_with_one_more _ a.net tt o.net
  nets (Repeats a was b j r h) l o = named_with_one_more _ a.net (o.net.told _ j) o.net
  nets (Again a was stamp b j e i sv li) l o = named_with_one_more _ a.net (o.net.told _ j) o.net
  nets (Reasserts a h du) l o = named_with_one_more _ a.net o.held o.net
  nets (Welcomes a life stamp j sv gr s r) l o = named_with_one_more _ a.net tt o.net
  nets (WelcomesAgain a stamp j sv li gr) l o = named_with_one_more _ a.net tt o.net
  nets (Acks a stamp j sv li) l o = named_with_one_more _ a.net tt o.net
  nets (Refuses a n j sv) l o = named_with_one_more _ a.net tt o.net
  nets (Accepts a life stamp locks j sv gr s r) l o = named_with_one_more _ a.net tt o.net
  nets (Grants a st i g mode as_ li sv gr to mo tw) l o = more_grant a.s.session a.s.epoch 0 i g mode a.s.top a.net to (low_of a l) o.net
  nets (GrantsAgain a i sv mo) l o = named_with_one_more _ a.net (o.rows i mo) o.net
  nets (Demands a i to sv mo) l o = named_with_one_more _ a.net (o.rows i mo) o.net
  nets (Releases a stamp i g to j sv e ro mo) l o = named_with_one_more _ a.net tt o.net
  nets _ l o = o.net

  -- what was given is given after a move
  on : {a b : Assoc} → Move k a b → (i g : ℕ) → Given a.net i g → Given b.net i g
  on {a} {b} m i g z = given_more a.net b.net (grows k m) i g z

  RowGiven : List Msg → ℕ → Row → Type 0
  RowGiven net i r = 1 ≤ r.mode → Given net i r.g

  HeldGiven : List Msg → ℕ → Lock → Type 0
  HeldGiven net i r = 1 ≤ r.mode → Given net i r.g

  rows : {a b : Assoc} → Move k a b → Named a → (i : ℕ) → 1 ≤ (b.s.row i).mode → Given b.net i (b.s.row i).g
  unfolding RowGiven
  rows (Accepts a life stamp locks j sv gr s r) o i e = on (Accepts a life stamp locks j sv gr s r) i (locks i).g (o.net.told _ j i e)
  rows (Steals a u ti h gr) o i e = absurd (omega (arith, e))
  rows (Stops a u) o i e = absurd (omega (arith, e))
  rows (Grants a st i2 g mode as_ li sv gr to mo tw) o i e =
      upd_all (RowGiven (msg a.s.session a.s.epoch 0 (Granted i2 g mode) ∷ a.net)) a.s.row i2 _ (λ f. record { life = a.s.session; epoch = a.s.epoch; stamp = 0; mode = mode; is = inl refl })
      (λ d n f. on (Grants a st i2 g mode as_ li sv gr to mo tw) d (a.s.row d).g (o.rows d f)) i e
  rows (Releases a stamp i2 g to j sv e2 ro mo) o i e =
      upd_all (RowGiven (msg (a.s.row i2).life a.s.epoch stamp Ack ∷ a.net)) a.s.row i2 _ (λ f. on (Releases a stamp i2 g to j sv e2 ro mo) i2 g (subst (Given a.net i2) e2 (o.rows i2 ro)))
      (λ d n f. on (Releases a stamp i2 g to j sv e2 ro mo) d (a.s.row d).g (o.rows d f)) i e
  rows (Sweeps a row h) o i e = swept (RowGiven a.net i) (row i) (a.s.row i) (h i) (o.rows i) (λ z f. absurd (omega (arith, f))) e
  rows m o i e = on m i _ (o.rows i e)

  held : {a b : Assoc} → Move k a b → Named a → (i : ℕ) → 1 ≤ (b.c.held i).mode → Given b.net i (b.c.held i).g
  unfolding HeldGiven
  held (Loses a h j) o i e = absurd (omega (arith, e))
  held (Crashes a) o i e = absurd (omega (arith, e))
  held (Begins a stamp epoch j h l) o i e = absurd (omega (arith, e))
  held (Installs a stamp i2 g mode j h s) o i e = upd_all (HeldGiven a.net) a.c.held i2 _ (λ f. o.net.told _ j) (λ d n f. o.held d f) i e
  held (Asked a stamp i2 g to j h mo le) o i e = upd_all (HeldGiven a.net) a.c.held i2 _ (λ f. o.net.told _ j) (λ d n f. o.held d f) i e
  held (Reduces a i2 to h jo fe so mo gn ge gl) o i e =
      upd_all (HeldGiven (msg a.c.life a.c.epoch 0 (Released i2 (a.c.held i2).g to) ∷ a.net)) a.c.held i2 _
      (λ f. on (Reduces a i2 to h jo fe so mo gn ge gl) i2 gn (subst (Given a.net i2) (let y = gl f in omega (arith, y, ge)) (o.held i2 so)))
      (λ d n f. on (Reduces a i2 to h jo fe so mo gn ge gl) d (a.c.held d).g (o.held d f)) i e
  held m o i e = on m i _ (o.held i e)

  named : {a b : Assoc} → Move k a b → Locks k a → Named a → Named b
  named m l o = record { net = nets m l o; rows = rows m o; held = held m o }

  named_by : {a b : Assoc} → ConfigOk k → Moves k a b → Invariant k a → Named a → Named b
  named_by ok (Stays a) i o = o
  named_by ok (GoesOn m e r) i o = named_by ok r (kept_one k ok m i) (named m i.locks_ o)

  begun : (a : Assoc) → BeginsAt a → Named a
  begun a b =
      record {
        net = record { one = λ i j g x. none _ x.is; positive = λ i g x. none _ x.is; told = λ m x. none m x };
        rows = λ i e. absurd (let z = ap (λ (r : Row). r.mode) (b.row i) in omega (arith, e, z));
        held = λ i e. absurd (let z = ap (λ (r : Lock). r.mode) (b.held i) in omega (arith, e, z));
      }
    where
      none : {A : Type 0} (m : Msg) → In m a.net → A
      none {A} m h = absurd (subst (In m) b.net h)

  pub reached : {w : World} → ConfigOk k → Reached k w → (c : ℕ) → Named (w.at c)
  reached ok (AtFirst w s b) c = begun (w.at c) (b c)
  reached ok (Then {w} {v} r s) c = go (reached ok r c) (s.each c)
    where
      go : Named (w.at c) → Move k (w.at c) (v.at c) ⊎ (v.at c ≡ w.at c) → Named (v.at c)
      go o (inl m) = named m (invariant k w ok r c).locks_ o
      go o (inr e) = subst Named (sym e) o
  reached ok (Works {w} {v} r s) c = named_by ok (s.each c) (invariant k w ok r c) (reached ok r c)

pub numbers_name_files : NumbersNameFiles
numbers_name_files k w ok r c = reached k ok r c
