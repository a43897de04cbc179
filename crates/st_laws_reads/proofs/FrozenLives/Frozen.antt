-- A life that a crash ended is frozen through the moves of its association, up to its lease end.
use Rattle.st_lemmas.proofs.Words
use Words.{◌≡◌, ℕ, ◌+◌, ◌<◌, ◌≤◌, ◌⊎◌, Bool, true, List, ◌∷◌, refl, sym, ◌∙◌, subst, inl, inr, arith}
use Rattle.st_protocol.specs.Assoc.{Config, ConfigOk, Msg, Client, Assoc, In, msg, Move, Moves, Stays, GoesOn, steady, Works, Hello, Reassert, Reasserted}
use Rattle.st_protocol.specs.Assoc.{Welcome, OfOtherEpoch, Advance, Greets, Asks, Loses, Crashes, Begins, Renews, Installs, AskedOfNone, Asked, Declines}
use Rattle.st_protocol.specs.Assoc.{Repeats, Again, Sweeps, Reduces, Adopts, Reasserts, Settles, Rests, Welcomes, WelcomesAgain, Acks, Refuses, Accepts}
use Rattle.st_protocol.specs.Assoc.{Suspects, Steals, GraceEnds, Grants, GrantsAgain, Demands, Releases, Rises, Stops, Starts}
use Rattle.st_protocol.proofs.Claims.{in_service}
use Rattle.st_protocol.proofs.Invariant.{Invariant, kept_one}
use Rattle.st_laws_reads.specs.FrozenLives.Frozen.{is_bare, stood, Split, Unserved}
use Rattle.std.proofs.lemmas.Bool.{both_ways}

-- a message that is sent
with_old : (l : ℕ) (N M : List Msg) (n : Msg) → n.life ≤ l → Split l N M → Split l (n ∷ N) (n ∷ M)
with_old l N M n le o m (inl e) = inl (subst (λ (x : Msg). x.life ≤ l) (sym e) le, inl e)
with_old l N M n le o m (inr i) = go (o m i)
  where
    go : ((m.life ≤ l) × In m N) ⊎ ((l < m.life) × (is_bare m.body ≡ true)) → ((m.life ≤ l) × In m (n ∷ N)) ⊎ ((l < m.life) × (is_bare m.body ≡ true))
    go (inl z) = inl (z.0, inr z.1)
    go (inr z) = inr z

with_new : (l : ℕ) (N M : List Msg) (n : Msg) → l < n.life → is_bare n.body ≡ true → Split l N M → Split l N (n ∷ M)
with_new l N M n lt b o m (inl e) = inr (subst (λ (x : Msg). l < x.life) (sym e) lt, subst (λ (x : Msg). is_bare x.body ≡ true) (sym e) b)
with_new l N M n lt b o m (inr i) = o m i

-- a steady move takes no time
pub still : {k : Config} {a b : Assoc} → (m : Move k a b) → steady m ≡ true → b.c.clock ≡ a.c.clock
still (Advance a dc ds dr h lim) e = cc
still m e = refl

-- no clock goes back
pub no_less : {k : Config} {a b : Assoc} → Move k a b → a.c.clock ≤ b.c.clock
no_less (Advance a dc ds dr h lim) = omega arith
no_less m = omega arith

module _ (k : Config) (C : Client) (i0 : ℕ) (leased : C.leased ≡ true) (some : 1 ≤ (C.held i0).mode) where
  -- a move, or none, of the association that is frozen
  pub record Moved (a b : Assoc) (y : ℕ) (N : List Msg) (still : Bool) : Type 0 where
    pub begun : ℕ
    pub messages : List Msg
    pub unserved : Unserved C.life messages b
    pub go : ((m : Move k (stood C y N a) (stood C begun messages b)) × (steady m ≡ still)) ⊎ (stood C begun messages b ≡ stood C y N a)

  old : (N M : List Msg) (m : Msg) → Split C.life N M → In m M → m.life ≤ C.life → In m N
  old N M m o i le = go (o m i)
    where
      go : ((m.life ≤ C.life) × In m N) ⊎ ((C.life < m.life) × (is_bare m.body ≡ true)) → In m N
      go (inl z) = z.1
      go (inr z) = let x = z.0 in absurd (omega arith)

  unleased : {a b : Assoc} {y : ℕ} {N : List Msg} {t : Bool} → Unserved C.life N a → a.c.leased ≡ true → Moved a b y N t
  unleased {a} {b} {y} {N} {t} o h = absurd (both_ways a.c.leased o.unleased h)

  pub one : {a b : Assoc} → (y : ℕ) (N : List Msg) → (m : Move k a b) → a.c.clock < C.date + k.lease → Invariant k (stood C y N a) → Unserved C.life N a → Moved a b y N (steady m)
  one y N (Advance a dc ds dr h lim) t v o =
      record { begun = y; messages = N; unserved = record { later = o.later; unleased = o.unleased; served = o.served; messages = o.messages }; go = inl (Advance (stood C y N a) dc ds dr h lim, refl) }
  one y N (Greets a h) t v o =
      record { begun = y; messages = N; unserved = record { later = o.later; unleased = o.unleased; served = o.served; messages = with_new C.life N a.net _ o.later refl o.messages }; go = inr refl }
  one y N (Asks a h) t v o = unleased o h.leased
  one y N (Loses a h j) t v o = unleased o h
  one y N (Crashes a) t v o =
      record { begun = y; messages = N; unserved = record { later = let z = o.later in omega arith; unleased = refl; served = o.served; messages = o.messages }; go = inr refl }
  one y N (Begins a stamp epoch j h w) t v o = absurd (go (o.messages _ j))
    where
      go : ((a.c.life ≤ C.life) × In (msg a.c.life epoch stamp Welcome) N) ⊎ ((C.life < a.c.life) × (is_bare Welcome ≡ true)) → ⊥
      go (inl z) = let x = z.0 in let q = o.later in omega arith
      go (inr z) = cc (z.1)
  one y N (Renews a stamp j h w) t v o = unleased o h.leased
  one y N (Installs a stamp i g mode j h s) t v o = unleased o h.leased
  one y N (AskedOfNone a stamp i g to j h mo top se sg) t v o = unleased o h.leased
  one y N (Asked a stamp i g to j h mo le) t v o = unleased o h.leased
  one y N (Declines a stamp i g mode j h se z) t v o = unleased o h.leased
  one y N (Repeats a was b2 j r h) t v o = unleased o h.leased
  one y N (Works a busy h f) t v o = unleased o h.leased
  one y N (Rests a busy f) t v o =
      record { begun = y; messages = N; unserved = record { later = o.later; unleased = o.unleased; served = o.served; messages = o.messages }; go = inr refl }
  one y N (Reduces a i to h jo fe so mo gn ge gl) t v o = unleased o h.leased
  one y N (Adopts a stamp epoch j h w) t v o = unleased o h.leased
  one y N (Reasserts a h du) t v o = unleased o h.leased
  one y N (Settles a stamp j h) t v o = unleased o h.leased
  one y N (Welcomes a life stamp j sv gr s r) t v o = go (o.messages _ j)
    where
      go : ((life ≤ C.life) × In (msg life 0 stamp Hello) N) ⊎ ((C.life < life) × (is_bare Hello ≡ true)) → Moved a (record { c = a.c; s = record a.s { session = life; live = true }; net = msg life a.s.epoch stamp Welcome ∷ a.net }) y N true
      go (inl z) =
          record {
            begun = y;
            messages = msg life a.s.epoch stamp Welcome ∷ N;
            unserved = record { later = o.later; unleased = o.unleased; served = z.0; messages = with_old C.life N a.net _ z.0 o.messages };
            go = inl (Welcomes (stood C y N a) life stamp z.1 sv gr s r, refl);
          }
      go (inr z) =
          let x = in_service k (stood C y N a) v.timing_ v.locks_ sv.up gr (record { leased = leased; lasts = t }) i0 some in let e = r i0 in absurd (omega (arith, x, e, some))
  one y N (WelcomesAgain a stamp j sv li gr) t v o =
      record {
        begun = y;
        messages = _ ∷ N;
        unserved = record { later = o.later; unleased = o.unleased; served = o.served; messages = with_old C.life N a.net _ o.served o.messages };
        go = inl (WelcomesAgain (stood C y N a) stamp (old N a.net _ o.messages j o.served) sv li gr, refl);
      }
  one y N (Acks a stamp j sv li) t v o =
      record {
        begun = y;
        messages = _ ∷ N;
        unserved = record { later = o.later; unleased = o.unleased; served = o.served; messages = with_old C.life N a.net _ o.served o.messages };
        go = inl (Acks (stood C y N a) stamp (old N a.net _ o.messages j o.served) sv li, refl);
      }
  one y N (Again a was stamp b2 j f n sv li) t v o =
      record {
        begun = y;
        messages = _ ∷ N;
        unserved = record { later = o.later; unleased = o.unleased; served = o.served; messages = with_old C.life N a.net _ o.served o.messages };
        go = inl (Again (stood C y N a) was stamp b2 (old N a.net _ o.messages j o.served) f (old N a.net _ o.messages n o.served) sv li, refl);
      }
  one y N (Refuses a n j sv) t v o = go (o.messages n j)
    where
      go : ((n.life ≤ C.life) × In n N) ⊎ ((C.life < n.life) × (is_bare n.body ≡ true)) → Moved a (record { c = a.c; s = a.s; net = msg n.life a.s.epoch n.stamp OfOtherEpoch ∷ a.net }) y N true
      go (inl z) =
          record {
            begun = y;
            messages = msg n.life a.s.epoch n.stamp OfOtherEpoch ∷ N;
            unserved = record { later = o.later; unleased = o.unleased; served = o.served; messages = with_old C.life N a.net _ z.0 o.messages };
            go = inl (Refuses (stood C y N a) n z.1 sv, refl);
          }
      go (inr z) =
          record { begun = y; messages = N; unserved = record { later = o.later; unleased = o.unleased; served = o.served; messages = with_new C.life N a.net _ z.0 refl o.messages }; go = inr refl }
  one y N (Accepts a life stamp locks j sv gr s r) t v o = go (o.messages _ j)
    where
      go : ((life ≤ C.life) × In (msg life a.s.epoch stamp (Reassert locks)) N) ⊎ ((C.life < life) × (is_bare (Reassert locks) ≡ true)) →
          Moved a (record { c = a.c; s = record a.s { session = life; live = true; row = λ i. record { life = life; g = (locks i).g; mode = (locks i).mode } }; net = msg life a.s.epoch stamp Reasserted ∷ a.net }) y N true
      go (inl z) =
          record {
            begun = y;
            messages = msg life a.s.epoch stamp Reasserted ∷ N;
            unserved = record { later = o.later; unleased = o.unleased; served = z.0; messages = with_old C.life N a.net _ z.0 o.messages };
            go = inl (Accepts (stood C y N a) life stamp locks z.1 sv gr s r, refl);
          }
      go (inr z) = cc (z.1)
  one y N (Suspects a h) t v o =
      record { begun = y; messages = N; unserved = record { later = o.later; unleased = o.unleased; served = o.served; messages = o.messages }; go = inl (Suspects (stood C y N a) h, refl) }
  one y N (Steals a u on h gr) t v o =
      record { begun = y; messages = N; unserved = record { later = o.later; unleased = o.unleased; served = o.served; messages = o.messages }; go = inl (Steals (stood C y N a) u on h gr, refl) }
  one y N (GraceEnds a u g h) t v o =
      record { begun = y; messages = N; unserved = record { later = o.later; unleased = o.unleased; served = o.served; messages = o.messages }; go = inl (GraceEnds (stood C y N a) u g h, refl) }
  one y N (Grants a st i g mode as_ li sv gr to mo tw) t v o =
      record {
        begun = y;
        messages = _ ∷ N;
        unserved = record { later = o.later; unleased = o.unleased; served = o.served; messages = with_old C.life N a.net _ o.served o.messages };
        go = inl (Grants (stood C y N a) st i g mode (old N a.net _ o.messages as_ o.served) li sv gr to mo tw, refl);
      }
  one y N (GrantsAgain a i sv mo) t v o =
      let p : (a.s.row i).life ≤ C.life = (let z = v.timing_.rows i in let q = o.served in omega (arith, z, q)) in
      record {
        begun = y;
        messages = _ ∷ N;
        unserved = record { later = o.later; unleased = o.unleased; served = o.served; messages = with_old C.life N a.net _ p o.messages };
        go = inl (GrantsAgain (stood C y N a) i sv mo, refl);
      }
  one y N (Demands a i to sv mo) t v o =
      let p : (a.s.row i).life ≤ C.life = (let z = v.timing_.rows i in let q = o.served in omega (arith, z, q)) in
      record {
        begun = y;
        messages = _ ∷ N;
        unserved = record { later = o.later; unleased = o.unleased; served = o.served; messages = with_old C.life N a.net _ p o.messages };
        go = inl (Demands (stood C y N a) i to sv mo, refl);
      }
  one y N (Releases a stamp i g to j sv e ro mo) t v o =
      let p : (a.s.row i).life ≤ C.life = (let z = v.timing_.rows i in let q = o.served in omega (arith, z, q)) in
      record {
        begun = y;
        messages = _ ∷ N;
        unserved = record { later = o.later; unleased = o.unleased; served = o.served; messages = with_old C.life N a.net _ p o.messages };
        go = inl (Releases (stood C y N a) stamp i g to (old N a.net _ o.messages j p) sv e ro mo, refl);
      }
  one y N (Sweeps a row p) t v o =
      record { begun = y; messages = N; unserved = record { later = o.later; unleased = o.unleased; served = o.served; messages = o.messages }; go = inl (Sweeps (stood C y N a) row p, refl) }
  one y N (Rises a g h) t v o =
      record { begun = y; messages = N; unserved = record { later = o.later; unleased = o.unleased; served = o.served; messages = o.messages }; go = inl (Rises (stood C y N a) g h, refl) }
  one y N (Stops a u) t v o =
      record { begun = y; messages = N; unserved = record { later = o.later; unleased = o.unleased; served = omega arith; messages = o.messages }; go = inl (Stops (stood C y N a) u, refl) }
  one y N (Starts a u) t v o =
      record { begun = C.life; messages = N; unserved = record { later = o.later; unleased = o.unleased; served = o.served; messages = o.messages }; go = inl (Starts (stood C y N a) u, refl) }

  -- a list of moves
  pub record AllMoved (a b : Assoc) (y : ℕ) (N : List Msg) : Type 0 where
    pub begun : ℕ
    pub messages : List Msg
    pub unserved : Unserved C.life messages b
    pub moves : Moves k (stood C y N a) (stood C begun messages b)

  pub all : {a b : Assoc} → (y : ℕ) (N : List Msg) → ConfigOk k → Moves k a b → a.c.clock < C.date + k.lease → Invariant k (stood C y N a) → Unserved C.life N a → AllMoved a b y N
  all y N ok (Stays a) t v o = record { begun = y; messages = N; unserved = o; moves = Stays _ }
  all y N ok (GoesOn {a} {b} {c} m e r) t v o =
      let z = one y N m t v o in
      let u = all z.begun z.messages ok r (let q = still m e in omega (arith, q, t)) (next z.begun z.messages z.go) z.unserved in
      record { begun = u.begun; messages = u.messages; unserved = u.unserved; moves = on z.begun z.messages z.go u.begun u.messages u.moves }
    where
      next : (y2 : ℕ) (N2 : List Msg) → ((m2 : Move k (stood C y N a) (stood C y2 N2 b)) × (steady m2 ≡ steady m)) ⊎ (stood C y2 N2 b ≡ stood C y N a) → Invariant k (stood C y2 N2 b)
      next y2 N2 (inl z) = kept_one k ok z.0 v
      next y2 N2 (inr q) = subst (Invariant k) (sym q) v

      on : (y2 : ℕ) (N2 : List Msg) → ((m2 : Move k (stood C y N a) (stood C y2 N2 b)) × (steady m2 ≡ steady m)) ⊎ (stood C y2 N2 b ≡ stood C y N a) → (y3 : ℕ) (N3 : List Msg) → Moves k (stood C y2 N2 b) (stood C y3 N3 c) → Moves k (stood C y N a) (stood C y3 N3 c)
      on y2 N2 (inl z) y3 N3 ms = GoesOn z.0 (z.1 ∙ e) ms
      on y2 N2 (inr q) y3 N3 ms = subst (λ x. Moves k x (stood C y3 N3 c)) q ms
