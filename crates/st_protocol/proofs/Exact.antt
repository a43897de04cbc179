-- An exclusive lock, held or on its way, has the last number of its row; so no grant lands on it, and what is written stays under it.
use Rattle.std.proofs.Common.{◌≡◌, ℕ, zero, suc, ◌<◌, ◌≤◌, ◌⊎◌, true, false, List, ◌∷◌, refl, sym, ap, ◌∙◌, subst, inl, inr, arith}
use Rattle.st_protocol.specs.Assoc.{Config, Lock, Msg, Row, upd, Assoc, In, Alive, msg, Move, is_reassert, Reassert, Welcome, Granted, Advance, Greets, Asks, Loses, Crashes, Begins, Renews, Installs, AskedOfNone, Asked, Declines, Repeats, Again, Works, Rests, Sweeps, Reduces, Adopts, Reasserts, Welcomes, WelcomesAgain, Acks, Refuses, Accepts, Steals, Grants, GrantsAgain, Demands, Releases, Stops, Starts}
use Rattle.st_protocol.proofs.Lists.{upd_all, upd_both, upd_up, upd-same, swept}
use Rattle.st_protocol.proofs.Timing.{Timing}
use Rattle.st_protocol.proofs.Locks.{Lost, Covered, Locks}
use Rattle.st_protocol.proofs.Steps.{outsider}
use Rattle.st_protocol.proofs.Claims.{AskedFor, in_back, not_lost, inside}
use Rattle.std.proofs.lemmas.Bool.{cases_Bool}

-- an exclusive lock with this number, held or on its way
pub data ExclusiveAt (a : Assoc) (i x : ℕ) : Type 0 where
  Holds : 2 ≤ (a.c.held i).mode → x ≡ a.c.seen i → ExclusiveAt a i x
  Comes : (stamp mode : ℕ) → In (msg a.c.life a.c.epoch stamp (Granted i x mode)) a.net → 2 ≤ mode → a.c.seen i < x → ExclusiveAt a i x

abbrev pub SameSession : Assoc → Type 0
SameSession a = record { up : a.s.up ≡ true; epoch : a.c.epoch ≡ a.s.epoch; session : a.s.session ≡ a.c.life }

pub record Exact (k : Config) (a : Assoc) : Type 0 where
  pub last : Alive k a.c → (i x : ℕ) → ExclusiveAt a i x → (stamp g mode : ℕ) → In (msg a.c.life a.c.epoch stamp (Granted i g mode)) a.net → g ≤ x
  pub exact : SameSession a → Alive k a.c → (i x : ℕ) → ExclusiveAt a i x → (a.s.row i).g ≤ x
  pub said : a.s.up ≡ true → Alive k a.c → a.s.session < a.c.life → (stamp : ℕ) (locks : ℕ → Lock) → In (msg a.c.life a.s.epoch stamp (Reassert locks)) a.net → (i : ℕ) → 2 ≤ (a.c.held i).mode → (locks i).g ≤ a.c.seen i
  pub busy : (i : ℕ) → a.c.busy i ≡ true → 2 ≤ (a.c.held i).mode

-- a grant of the present life and epoch was sent before, or now: by a new row, or by one that was there
pub data From (k : Config) (a b : Assoc) (i g mode : ℕ) : Type 0 where
  Old : (stamp : ℕ) → In (msg a.c.life a.c.epoch stamp (Granted i g mode)) a.net → Alive k a.c → From k a b i g mode
  New : SameSession a → a.s.grace ≡ false → Alive k a.c → (a.s.row i).mode < 2 → a.s.top < g → g ≡ b.s.top → (b.s.row i).g ≡ g → From k a b i g mode
  RowOf : SameSession a → Alive k a.c → 1 ≤ (a.s.row i).mode → g ≡ (a.s.row i).g → b.s.top ≡ a.s.top → (b.s.row i).g ≡ g → From k a b i g mode

-- an exclusive lock was there before, or is sent now
pub data Earlier (k : Config) (a b : Assoc) (i x : ℕ) : Type 0 where
  Was : (old : ℕ) → old ≤ x → Alive k a.c → ExclusiveAt a i old → Earlier k a b i x
  Sent : (mode : ℕ) → From k a b i x mode → 2 ≤ mode → a.c.seen i < x → Earlier k a b i x

module _ (k : Config) where
  back : {a b : Assoc} → Move k a b → Timing k a → Locks k a → AskedFor a → Alive k b.c → (stamp i g mode : ℕ) → In (msg b.c.life b.c.epoch stamp (Granted i g mode)) b.net → From k a b i g mode
  back (Advance a dc ds dr h lim) t l q al st i g mode y = Old st y (record { leased = al.leased; lasts = omega (arith, al.lasts) })
  back (Loses a h j) t l q al st i g mode y = cc (al.leased)
  back (Crashes a) t l q al st i g mode y = cc (al.leased)
  back (Begins a stamp epoch j h w) t l q al st i g mode y = let z = q.msgs _ y refl refl in cc (z.leased)
  back (Adopts a stamp epoch j h w) t l q al st i g mode y = let z = q.msgs _ y refl refl in absurd (omega (arith, z.epoch))
  back (Renews a stamp j h w) t l q al st i g mode y = Old st y h
  back (Greets a h) t l q al st i g mode y = Old st (in_back _ _ a.net refl refl y) al
  back (Asks a h) t l q al st i g mode y = Old st (in_back _ _ a.net refl refl y) al
  back (AskedOfNone a stamp i2 g2 to j h mo top se sg) t l q al st i g mode y = Old st (in_back _ _ a.net refl refl y) al
  back (Declines a stamp i2 g2 mode2 j h se z) t l q al st i g mode y = Old st (in_back _ _ a.net refl refl y) al
  back (Repeats a was b j r h) t l q al st i g mode (inl y) = Old was (subst (λ (m : Msg). In (msg m.life m.epoch was m.body) a.net) (sym y) j) al
  back (Repeats a was b j r h) t l q al st i g mode (inr y) = Old st y al
  back (Reduces a i2 to h jo fe so mo gn ge gl) t l q al st i g mode y = Old st (in_back _ _ a.net refl refl y) al
  back (Reasserts a h du) t l q al st i g mode (inl y) = let z : Granted i g mode ≡ Reassert a.c.held = ap (λ (x : Msg). x.body) y in cc
  back (Reasserts a h du) t l q al st i g mode (inr y) = Old st y al
  back (Welcomes a life stamp j sv gr s r) t l q al st i g mode y = Old st (in_back _ _ a.net refl refl y) al
  back (WelcomesAgain a stamp j sv li gr) t l q al st i g mode y = Old st (in_back _ _ a.net refl refl y) al
  back (Acks a stamp j sv li) t l q al st i g mode y = Old st (in_back _ _ a.net refl refl y) al
  back (Again a was stamp b j f n sv li) t l q al st i g mode (inl y) = Old was (subst (λ (m : Msg). In (msg m.life m.epoch was m.body) a.net) (sym y) j) al
  back (Again a was stamp b j f n sv li) t l q al st i g mode (inr y) = Old st y al
  back (Refuses a n j sv) t l q al st i g mode y = Old st (in_back _ _ a.net refl refl y) al
  back (Accepts a life stamp locks j sv gr s r) t l q al st i g mode y = Old st (in_back _ _ a.net refl refl y) al
  back (Demands a i2 to sv mo) t l q al st i g mode y = Old st (in_back _ _ a.net refl refl y) al
  back (Releases a stamp i2 g2 to j sv e2 ro mo) t l q al st i g mode y = Old st (in_back _ _ a.net refl refl y) al
  back (Grants a s2 i2 g2 mode2 as_ li sv gr to mo tw) t l q al st i g mode (inr y) = Old st y al
  back (Grants a s2 i2 g2 mode2 as_ li sv gr to mo tw) t l q al st i g mode (inl y) =
      let p = inside k a t sv.up gr al in
      let z : Granted i g mode ≡ Granted i2 g2 mode2 = ap (λ (x : Msg). x.body) y in
      let zi : i ≡ i2 = cc in let zg : g ≡ g2 = cc in
      New (record { up = sv.up; epoch = p.0; session = p.1 }) gr al (subst (λ d. (a.s.row d).mode < 2) (sym zi) (omega arith)) (omega arith) zg
      (subst (λ d. (upd a.s.row i2 (record { life = a.s.session; g = g2; mode = mode2 }) d).g ≡ g) (sym zi) (ap (λ (r : Row). r.g) (upd-same a.s.row i2 (record { life = a.s.session; g = g2; mode = mode2 })) ∙ sym zg))
  back (GrantsAgain a i2 sv mo) t l q al st i g mode (inr y) = Old st y al
  back (GrantsAgain a i2 sv mo) t l q al st i g mode (inl y) =
      let z : Granted i g mode ≡ Granted i2 (a.s.row i2).g (a.s.row i2).mode = ap (λ (x : Msg). x.body) y in
      let zi : i ≡ i2 = cc in let zg : g ≡ (a.s.row i2).g = cc in
      let zl : a.c.life ≡ (a.s.row i2).life = ap (λ (x : Msg). x.life) y in let ze : a.c.epoch ≡ a.s.epoch = ap (λ (x : Msg). x.epoch) y in
      let same : g ≡ (a.s.row i).g = zg ∙ ap (λ d. (a.s.row d).g) (sym zi) in
      RowOf (record { up = sv.up; epoch = ze; session = sym (l.rows i2 mo).of_session ∙ sym zl }) al (subst (λ d. 1 ≤ (a.s.row d).mode) (sym zi) mo) same refl (sym same)
  back _ t l q al st i g mode y = Old st y al

  -- of a message on its way: the client had not seen it before either
  comes : {a b : Assoc} (i x : ℕ) (mode : ℕ) → From k a b i x mode → 2 ≤ mode → a.c.seen i < x → Earlier k a b i x
  comes i x mode (Old st y al) two lt = Was x (omega arith) al (Comes st mode y two lt)
  comes i x mode (New s g al r t e n) two lt = Sent mode (New s g al r t e n) two lt
  comes i x mode (RowOf s al o e t n) two lt = Sent mode (RowOf s al o e t n) two lt

  earlier : {a b : Assoc} → Move k a b → Timing k a → Locks k a → AskedFor a → Alive k b.c → (i x : ℕ) → ExclusiveAt b i x → Earlier k a b i x
  earlier (Loses a h j) t l q al i x e = cc (al.leased)
  earlier (Crashes a) t l q al i x e = cc (al.leased)
  earlier (Begins a stamp epoch j h w) t l q al i x (Holds o e) = absurd (omega arith)
  earlier (Begins a stamp epoch j h w) t l q al i x (Comes st mode y two lt) = let z = q.msgs _ y refl refl in cc (z.leased)
  earlier (Advance a dc ds dr h lim) t l q al i x (Holds o e) = Was x (omega arith) (record { leased = al.leased; lasts = omega (arith, al.lasts) }) (Holds o e)
  earlier (Renews a stamp j h w) t l q al i x (Holds o e) = Was x (omega arith) h (Holds o e)
  earlier {b = b} (Installs a stamp i2 g mode j h s) t l q al i x (Holds o e) =
      upd_both (λ d v s. 2 ≤ v.mode → x ≡ s → Earlier k a b d x) a.c.held a.c.seen i2 (record { g = g; mode = mode }) g
      (λ o e. Was g (omega arith) h (Comes stamp mode j o s)) (λ d n o e. Was x (omega arith) h (Holds o e)) i o e
  earlier {b = b} (Installs a stamp i2 g mode j h s) t l q al i x (Comes st m y two lt) = Was x (omega arith) h (Comes st m y two (let z = upd_up a.c.seen i2 g (omega arith) i in omega (arith, z)))
  earlier {b = b} (Asked a stamp i2 g to j h mo se) t l q al i x (Holds o e) =
      upd_both (λ d v s. 2 ≤ v.mode → x ≡ s → Earlier k a b d x) a.c.held a.c.seen i2 (record { g = g; mode = (a.c.held i2).mode }) g
      (λ o e. let z = l.seen i2 mo in Was (a.c.seen i2) (omega arith) h (Holds o refl)) (λ d n o e. Was x (omega arith) h (Holds o e)) i o e
  earlier (Asked a stamp i2 g to j h mo se) t l q al i x (Comes st m y two lt) = Was x (omega arith) h (Comes st m y two (let z = upd_up a.c.seen i2 g (let z2 = l.seen i2 mo in omega (arith, z2)) i in omega (arith, z)))
  earlier {b = b} (AskedOfNone a stamp i2 g to j h mo top se sg) t l q al i x (Holds o e) =
      upd_all (λ d s. 2 ≤ (a.c.held d).mode → x ≡ s → Earlier k a b d x) a.c.seen i2 top (λ o e. absurd (omega arith)) (λ d n o e. Was x (omega arith) h (Holds o e)) i o e
  earlier (AskedOfNone a stamp i2 g to j h mo top se sg) t l q al i x (Comes st m y two lt) =
      comes i x m (back (AskedOfNone a stamp i2 g to j h mo top se sg) t l q al st i x m y) two (let z = upd_up a.c.seen i2 top se i in omega (arith, z))
  earlier {b = b} (Declines a stamp i2 g mode j h s z) t l q al i x (Holds o e) =
      upd_all (λ d s. 2 ≤ (a.c.held d).mode → x ≡ s → Earlier k a b d x) a.c.seen i2 g (λ o e. absurd (omega arith)) (λ d n o e. Was x (omega arith) h (Holds o e)) i o e
  earlier (Declines a stamp i2 g mode j h s z) t l q al i x (Comes st m y two lt) =
      comes i x m (back (Declines a stamp i2 g mode j h s z) t l q al st i x m y) two (let z = upd_up a.c.seen i2 g (omega arith) i in omega (arith, z))
  earlier {b = b} (Reduces a i2 to h jo fe so mo gn ge gl) t l q al i x (Holds o e) =
      upd_all (λ d v. 2 ≤ v.mode → x ≡ a.c.seen d → Earlier k a b d x) a.c.held i2 (record { g = gn; mode = to }) (λ o e. Was x (omega arith) h (Holds (omega arith) e)) (λ d n o e. Was x (omega arith) h (Holds o e)) i o e
  earlier m t l q al i x (Comes st mode y two lt) = comes i x mode (back m t l q al st i x mode y) two lt
  earlier _ t l q al i x (Holds o e) = Was x (omega arith) al (Holds o e)

  -- it has a row
  covered : (a : Assoc) → Timing k a → Locks k a → SameSession a → Alive k a.c → (i x : ℕ) → ExclusiveAt a i x → (2 ≤ (a.s.row i).mode) × (x ≤ (a.s.row i).g)
  covered a t l s al i x (Holds o e) = go (l.held s.up s.epoch s.session i (omega arith)) (l.seen i (omega arith))
    where
      go : Covered a.c.life (a.s.row i) (a.c.held i).g (a.c.held i).mode ⊎ Lost k a → (a.c.held i).g ≡ a.c.seen i → (2 ≤ (a.s.row i).mode) × (x ≤ (a.s.row i).g)
      go (inl c) f = (omega (arith, c.high), omega (arith, c.at_least))
      go (inr y) f = absurd (not_lost k a t al y)
  covered a t l s al i x (Comes st mode y two lt) = go (l.msgs s.up _ y refl s.epoch).cases
    where
      go : Covered a.c.life (a.s.row i) x mode ⊎ ((x ≤ a.c.seen i) ⊎ Lost k a) → (2 ≤ (a.s.row i).mode) × (x ≤ (a.s.row i).g)
      go (inl c) = (omega (arith, c.high), c.at_least)
      go (inr (inl z)) = absurd (omega arith)
      go (inr (inr z)) = absurd (not_lost k a t al z)

  -- a grant on its way isn't above the row that is there, if it is above what was seen
  under_row : (a : Assoc) → Timing k a → Locks k a → SameSession a → Alive k a.c → (st i g mode x : ℕ) → In (msg a.c.life a.c.epoch st (Granted i g mode)) a.net → a.c.seen i < x → x ≡ (a.s.row i).g → g ≤ x
  under_row a t l s al st i g mode x y lt e = go (l.msgs s.up _ y refl s.epoch).cases
    where
      go : Covered a.c.life (a.s.row i) g mode ⊎ ((g ≤ a.c.seen i) ⊎ Lost k a) → g ≤ x
      go (inl c) = omega (arith, c.at_least)
      go (inr (inl z)) = omega arith
      go (inr (inr z)) = absurd (not_lost k a t al z)

  last : {a b : Assoc} → Move k a b → Timing k a → Locks k a → AskedFor a → Exact k a → Alive k b.c → (i x : ℕ) → ExclusiveAt b i x → (stamp g mode : ℕ) → In (msg b.c.life b.c.epoch stamp (Granted i g mode)) b.net → g ≤ x
  last {a} {b} m t l q e al i x ex st g mode y = go (earlier m t l q al i x ex) (back m t l q al st i g mode y)
    where
      go : Earlier k a b i x → From k a b i g mode → g ≤ x
      go (Was old le ao eo) (Old st y a2) = let z = e.last a2 i old eo st g mode y in omega (arith, z)
      go (Was old le ao eo) (New s gr a2 r tp tb n) = let c = covered a t l s ao i old eo in absurd (omega (arith, c.0))
      go (Was old le ao eo) (RowOf s a2 o f tp n) = let z = e.exact s a2 i old eo in omega (arith, z)
      go (Sent m2 (Old st2 y2 a3) two lt) (Old st y a2) = e.last a2 i x (Comes st2 m2 y2 two lt) st g mode y
      go (Sent m2 (Old st2 y2 a3) two lt) (New s gr a2 r tp tb n) = let c = covered a t l s a2 i x (Comes st2 m2 y2 two lt) in absurd (omega (arith, c.0))
      go (Sent m2 (Old st2 y2 a3) two lt) (RowOf s a2 o f tp n) = let z = e.exact s a2 i x (Comes st2 m2 y2 two lt) in omega (arith, z)
      go (Sent m2 (New s gr a3 r tp tb n) two lt) (Old st y a2) = let z = l.low _ y in omega (arith, z)
      go (Sent m2 (New s gr a3 r tp tb n) two lt) (New s2 gr2 a2 r2 tp2 tb2 n2) = omega arith
      go (Sent m2 (New s gr a3 r tp tb n) two lt) (RowOf s2 a2 o2 f2 tp2 n2) = absurd (omega arith)
      go (Sent m2 (RowOf s a3 o f tp n) two lt) (Old st y a2) = under_row a t l s a2 st i g mode x y lt f
      go (Sent m2 (RowOf s a3 o f tp n) two lt) (New s2 gr2 a2 r2 tp2 tb2 n2) = absurd (omega arith)
      go (Sent m2 (RowOf s a3 o f tp n) two lt) (RowOf s2 a2 o2 f2 tp2 n2) = omega arith

  -- if the rows' numbers do not rise
  exact_by : {a b : Assoc} → Exact k a → SameSession a → (i x : ℕ) → (b.s.row i).g ≤ (a.s.row i).g → Earlier k a b i x → (b.s.row i).g ≤ x
  exact_by e s i x h (Was old le ao eo) = let z = e.exact s ao i old eo in omega (arith, z)
  exact_by e s i x h (Sent m (Old st y al) two lt) = let z = e.exact s al i x (Comes st m y two lt) in omega (arith, z)
  exact_by e s i x h (Sent m (New s2 gr al r tp tb n) two lt) = omega arith
  exact_by e s i x h (Sent m (RowOf s2 al o f tp n) two lt) = omega arith

  exact : {a b : Assoc} → Move k a b → Timing k a → Locks k a → AskedFor a → Exact k a → SameSession b → Alive k b.c → (i x : ℕ) → ExclusiveAt b i x → (b.s.row i).g ≤ x
  exact (Loses a h j) t l q e s al i x ex = cc (al.leased)
  exact (Crashes a) t l q e s al i x ex = cc (al.leased)
  exact (Begins a stamp epoch j h w) t l q e s al i x (Holds o f) = absurd (omega arith)
  exact (Begins a stamp epoch j h w) t l q e s al i x (Comes st mode y two lt) = let z = q.msgs _ y refl refl in cc (z.leased)
  exact (Adopts a stamp epoch j h w) t l q e s al i x ex = go (cases_Bool a.s.grace)
    where
      go : (a.s.grace ≡ true) ⊎ (a.s.grace ≡ false) → (a.s.row i).g ≤ x
      go (inl g) = let z = l.graced s.up g s.session in let y = s.epoch in absurd (omega arith)
      go (inr g) = let y = s.epoch in let z = outsider k a t s.up g h.leased (inr (omega arith)) in absurd (omega (arith, z, h.lasts))
  exact (Welcomes a life stamp j sv gr s2 r) t l q e s al i x ex = let y = s.session in let z = outsider k a t sv.up gr al.leased (inl (omega arith)) in absurd (omega (arith, z, al.lasts))
  exact (Accepts a life stamp locks j sv gr s2 r) t l q e s al i x (Holds o f) =
      let y = s.session in let z = e.said sv.up al (omega arith) stamp locks (subst (λ d. In (msg d a.s.epoch stamp (Reassert locks)) a.net) y j) i o in omega (arith, z)
  exact (Accepts a life stamp locks j sv gr s2 r) t l q e s al i x (Comes st mode w two lt) =
      let y = s.session in let z = (t.sent _ (in_back _ _ a.net refl refl w)).known refl s.epoch sv.up in absurd (omega (arith, z))
  exact (Steals a u on h gr) t l q e s al i x ex = omega arith
  exact (Stops a u) t l q e s al i x ex = cc (s.up)
  exact (Starts a u) t l q e s al i x ex = let y = s.epoch in absurd (omega (arith, t.ahead))
  exact {b = b} (Grants a st i2 g mode as_ li sv gr to mo tw) t l q e s al i x ex = go (earlier (Grants a st i2 g mode as_ li sv gr to mo tw) t l q al i x ex)
    where
      at : (old : ℕ) → old ≤ x → Alive k a.c → ExclusiveAt a i old → (b.s.row i).g ≤ x
      at old le ao eo =
          upd_all (λ d r. ExclusiveAt a d old → (a.s.row d).g ≤ old → r.g ≤ x) a.s.row i2 (record { life = a.s.session; g = g; mode = mode })
          (λ eo z. let c = covered a t l s ao i2 old eo in absurd (omega (arith, c.0))) (λ d n eo z. omega (arith, z)) i eo (e.exact s ao i old eo)

      go : Earlier k a b i x → (b.s.row i).g ≤ x
      go (Was old le ao eo) = at old le ao eo
      go (Sent m (Old st2 y ao) two lt) = at x (omega arith) ao (Comes st2 m y two lt)
      go (Sent m (New s2 gr2 a2 r tp tb n) two lt) = omega arith
      go (Sent m (RowOf s2 a2 o f tp n) two lt) = omega arith
  exact (Releases a stamp i2 g to j sv e2 ro mo) t l q e s al i x ex =
      exact_by e s i x (upd_all (λ d r. r.g ≤ (a.s.row d).g) a.s.row i2 (record { life = (a.s.row i2).life; g = g; mode = to }) (omega arith) (λ d n. omega arith) i) (earlier (Releases a stamp i2 g to j sv e2 ro mo) t l q al i x ex)
  exact (Sweeps a row p) t l q e s al i x ex =
      exact_by e s i x (swept (λ r. r.g ≤ (a.s.row i).g) (row i) (a.s.row i) (p i) (omega arith) (λ z. omega arith)) (earlier (Sweeps a row p) t l q al i x ex)
  exact m t l q e s al i x ex = exact_by e s i x (omega arith) (earlier m t l q al i x ex)

  said : {a b : Assoc} → Move k a b → Timing k a → Locks k a → AskedFor a → Exact k a → b.s.up ≡ true → Alive k b.c → b.s.session < b.c.life → (stamp : ℕ) (locks : ℕ → Lock) → In (msg b.c.life b.s.epoch stamp (Reassert locks)) b.net → (i : ℕ) → 2 ≤ (b.c.held i).mode → (locks i).g ≤ b.c.seen i
  said (Loses a h j) t l q e u al lt st locks y i o = cc (al.leased)
  said (Crashes a) t l q e u al lt st locks y i o = cc (al.leased)
  said (Begins a stamp epoch j h w) t l q e u al lt st locks y i o = absurd (omega arith)
  said (Advance a dc ds dr h lim) t l q e u al lt st locks y i o = e.said u (record { leased = al.leased; lasts = omega (arith, al.lasts) }) lt st locks y i o
  said (Renews a stamp j h w) t l q e u al lt st locks y i o = e.said u h lt st locks y i o
  said (Stops a u2) t l q e u al lt st locks y i o = cc
  said (Starts a u2) t l q e u al lt st locks y i o = let z = (t.sent _ y).of_epoch in absurd (omega (arith, z))
  said (Welcomes a life stamp j sv gr s r) t l q e u al lt st locks y i o = e.said u al (omega arith) st locks (in_rest (msg life a.s.epoch stamp Welcome) _ a.net refl refl y) i o
    where
      in_rest : (n m : Msg) (net : List Msg) → is_reassert n.body ≡ false → is_reassert m.body ≡ true → In m (n ∷ net) → In m net
      in_rest n m net f t (inl e) = let z : is_reassert m.body ≡ is_reassert n.body = ap (λ (x : Msg). is_reassert x.body) e in cc
      in_rest n m net f t (inr i) = i
  said (Accepts a life stamp locks2 j sv gr s r) t l q e u al lt st locks y i o = e.said u al (omega arith) st locks (in_back _ _ a.net refl refl y) i o
  said (Greets a h) t l q e u al lt st locks y i o = e.said u al lt st locks (in_back _ _ a.net refl refl y) i o
  said (Asks a h) t l q e u al lt st locks y i o = e.said u al lt st locks (in_back _ _ a.net refl refl y) i o
  said (Reasserts a h du) t l q e u al lt st locks (inr y) i o = e.said u al lt st locks y i o
  said (Reasserts a h du) t l q e u al lt st locks (inl y) i o =
      let y2 : Reassert locks ≡ Reassert a.c.held = ap (λ (x : Msg). x.body) y in let z : locks ≡ a.c.held = cc in let s = l.seen i (omega arith) in let w : (locks i).g ≡ (a.c.held i).g = ap (λ (f : ℕ → Lock). (f i).g) z in omega arith
  said (Repeats a was b j r h) t l q e u al lt st locks (inl y) i o = e.said u al lt was locks (subst (λ (m : Msg). In (msg m.life m.epoch was m.body) a.net) (sym y) j) i o
  said (Repeats a was b j r h) t l q e u al lt st locks (inr y) i o = e.said u al lt st locks y i o
  said (Again a was stamp b j f n sv li) t l q e u al lt st locks (inl y) i o = e.said u al lt was locks (subst (λ (m : Msg). In (msg m.life m.epoch was m.body) a.net) (sym y) j) i o
  said (Again a was stamp b j f n sv li) t l q e u al lt st locks (inr y) i o = e.said u al lt st locks y i o
  said (WelcomesAgain a stamp j sv li gr) t l q e u al lt st locks y i o = e.said u al lt st locks (in_back _ _ a.net refl refl y) i o
  said (Acks a stamp j sv li) t l q e u al lt st locks y i o = e.said u al lt st locks (in_back _ _ a.net refl refl y) i o
  said (Refuses a n j sv) t l q e u al lt st locks y i o = e.said u al lt st locks (in_back _ _ a.net refl refl y) i o
  said (Demands a i2 to sv mo) t l q e u al lt st locks y i o = e.said u al lt st locks (in_back _ _ a.net refl refl y) i o
  said (Releases a stamp i2 g to j sv e2 ro mo) t l q e u al lt st locks y i o = e.said u al lt st locks (in_back _ _ a.net refl refl y) i o
  said (Grants a s2 i2 g2 mode2 as_ li sv gr to mo tw) t l q e u al lt st locks (inl y) i o = let z : Reassert locks ≡ Granted i2 g2 mode2 = ap (λ (x : Msg). x.body) y in cc
  said (Grants a s2 i2 g2 mode2 as_ li sv gr to mo tw) t l q e u al lt st locks (inr y) i o = e.said u al lt st locks y i o
  said (GrantsAgain a i2 sv mo) t l q e u al lt st locks (inl y) i o = let z : Reassert locks ≡ Granted i2 (a.s.row i2).g (a.s.row i2).mode = ap (λ (x : Msg). x.body) y in cc
  said (GrantsAgain a i2 sv mo) t l q e u al lt st locks (inr y) i o = e.said u al lt st locks y i o
  said (AskedOfNone a stamp i2 g to j h mo top se sg) t l q e u al lt st locks y i o = let z = e.said u al lt st locks (in_back _ _ a.net refl refl y) i o in let w = upd_up a.c.seen i2 top se i in omega (arith, z, w)
  said (Declines a stamp i2 g mode j h s z) t l q e u al lt st locks y i o = let z = e.said u al lt st locks (in_back _ _ a.net refl refl y) i o in let w = upd_up a.c.seen i2 g (omega arith) i in omega (arith, z, w)
  said (Asked a stamp i2 g to j h mo se) t l q e u al lt st locks y i o =
      upd_both (λ d v s. 2 ≤ v.mode → (locks d).g ≤ s) a.c.held a.c.seen i2 (record { g = g; mode = (a.c.held i2).mode }) g
      (λ o. let z = e.said u al lt st locks y i2 o in let w = l.seen i2 mo in omega (arith, z)) (λ d n o. e.said u al lt st locks y d o) i o
  said (Installs a stamp i2 g mode j h s) t l q e u al lt st locks y i o =
      upd_both (λ d v s. 2 ≤ v.mode → (locks d).g ≤ s) a.c.held a.c.seen i2 (record { g = g; mode = mode }) g
      (λ o. let x : a.c.epoch ≡ a.s.epoch = (l.msgs u _ y refl refl).joined in let z = (t.sent _ j).known refl x u in absurd (omega (arith, z))) (λ d n o. e.said u al lt st locks y d o) i o
  said (Reduces a i2 to h jo fe so mo gn ge gl) t l q e u al lt st locks y i o =
      upd_all (λ d v. 2 ≤ v.mode → (locks d).g ≤ a.c.seen d) a.c.held i2 (record { g = gn; mode = to })
      (λ o. e.said u al lt st locks (in_back _ _ a.net refl refl y) i2 (omega arith)) (λ d n o. e.said u al lt st locks (in_back _ _ a.net refl refl y) d o) i o
  said _ t l q e u al lt st locks y i o = e.said u al lt st locks y i o

  busy : {a b : Assoc} → Move k a b → Locks k a → Exact k a → (i : ℕ) → b.c.busy i ≡ true → 2 ≤ (b.c.held i).mode
  busy (Loses a h j) l e i o = cc
  busy (Crashes a) l e i o = cc
  busy (Begins a stamp epoch j h w) l e i o = let z = e.busy i o in absurd (omega (arith, (l.new h).1 i))
  busy (Works a bs h f) l e i o = go (f i o)
    where
      go : (a.c.busy i ≡ true) ⊎ (2 ≤ (a.c.held i).mode) → 2 ≤ (a.c.held i).mode
      go (inl x) = e.busy i x
      go (inr x) = x
  busy (Rests a bs f) l e i o = e.busy i (f i o)
  busy (Installs a stamp i2 g mode j h s) l e i o =
      upd_all (λ d v. a.c.busy d ≡ true → 2 ≤ v.mode) a.c.held i2 (record { g = g; mode = mode })
      (λ o. let z = e.last h i2 (a.c.seen i2) (Holds (e.busy i2 o) refl) stamp g mode j in absurd (omega (arith, z))) (λ d n o. e.busy d o) i o
  busy (Asked a stamp i2 g to j h mo se) l e i o = upd_all (λ d v. a.c.busy d ≡ true → 2 ≤ v.mode) a.c.held i2 (record { g = g; mode = (a.c.held i2).mode }) (λ o. e.busy i2 o) (λ d n o. e.busy d o) i o
  busy (Reduces a i2 to h jo fe so mo gn ge gl) l e i o = upd_all (λ d v. a.c.busy d ≡ true → 2 ≤ v.mode) a.c.held i2 (record { g = gn; mode = to }) (λ o. cc) (λ d n o. e.busy d o) i o
  busy _ l e i o = e.busy i o

  pub exacts : {a b : Assoc} → Move k a b → Timing k a → Locks k a → AskedFor a → Exact k a → Exact k b
  exacts m t l q e = record { last = last m t l q e; exact = exact m t l q e; said = said m t l q e; busy = busy m l e }

  -- a held exclusive lock has exactly its row's number
  pub held_exact : (a : Assoc) → Timing k a → Locks k a → Exact k a → SameSession a → Alive k a.c → (i : ℕ) → 2 ≤ (a.c.held i).mode → (a.c.held i).g ≡ (a.s.row i).g
  held_exact a t l e s al i o = let z = e.exact s al i (a.c.seen i) (Holds o refl) in let c = covered a t l s al i (a.c.seen i) (Holds o refl) in let n = l.seen i (omega arith) in omega (arith, z, c.1)

  -- a grant that is new to the client lowers no exclusive lock
  pub lands_on_less : (a : Assoc) → Exact k a → Alive k a.c → (stamp i g mode : ℕ) → In (msg a.c.life a.c.epoch stamp (Granted i g mode)) a.net → a.c.seen i < g → (a.c.held i).mode < 2
  lands_on_less a e al stamp i g mode y lt = go (a.c.held i).mode refl
    where
      go : (n : ℕ) → (a.c.held i).mode ≡ n → n < 2
      go zero f = omega arith
      go (suc zero) f = omega arith
      go (suc (suc n)) f = let z = e.last al i (a.c.seen i) (Holds (omega arith) refl) stamp g mode y in absurd (omega (arith, z))
