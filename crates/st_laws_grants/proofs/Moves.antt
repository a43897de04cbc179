-- Numbers of owners in the association machine, while the server is down: a client tells and holds only numbers that it received.
use Rattle.st_lemmas.proofs.Words
use Words.{◌≡◌, ℕ, ◌≤◌, true, false, List, ◌∷◌, subst, arith}
use Rattle.st_protocol.specs.Assoc.{Config, Lock, Msg, Assoc, Move, Moves, Stays, GoesOn, steady, Advance, Greets, Asks, Loses, Crashes, Begins, Renews}
use Rattle.st_protocol.specs.Assoc.{Installs, AskedOfNone, Asked, Declines, Repeats, Works, Rests, Reduces, Adopts, Reasserts, Settles, Welcomes, WelcomesAgain}
use Rattle.st_protocol.specs.Assoc.{Acks, Again, Refuses, Accepts, Suspects, Steals, GraceEnds, Grants, GrantsAgain, Demands, Releases, Sweeps, Rises, Stops}
use Rattle.st_protocol.specs.Assoc.{Starts}
use Rattle.st_protocol.proofs.Lists.{in_cons, upd_all}
use Rattle.st_trace.proofs.Server.Taking.{clash}
use Rattle.st_laws_grants.specs.Owners.{AllTell, Tells}

module _ (P : ℕ → ℕ → Type 0) where
  -- what is held has the fact
  abbrev pub Holds : (ℕ → Lock) → Type 0
  Holds held = (i : ℕ) → 1 ≤ (held i).mode → P i (held i).g

  -- one association, whose server is down
  pub record Down (a : Assoc) : Type 0 where
    pub down : a.s.up ≡ false
    pub net : AllTell P a.net
    pub held : Holds a.c.held

  all_tell_one_more : (n : Msg) (net : List Msg) → Tells P n.body → AllTell P net → AllTell P (n ∷ net)
  all_tell_one_more n net t h = λ m w. in_cons (λ m. Tells P m.body) n net t h m w

  HeldOne : ℕ → Lock → Type 0
  HeldOne i r = 1 ≤ r.mode → P i r.g

  one : (k : Config) {a b : Assoc} → (m : Move k a b) → steady m ≡ true → Down a → Down b
  unfolding HeldOne
  one k (Advance a dc ds dr h l) e o = cc
  one k (Greets a h) e o = record { down = o.down; net = all_tell_one_more _ a.net tt o.net; held = o.held }
  one k (Asks a h) e o = record { down = o.down; net = all_tell_one_more _ a.net tt o.net; held = o.held }
  one k (Loses a h j) e o = record { down = o.down; net = o.net; held = λ i f. absurd (omega (arith, f)) }
  one k (Crashes a) e o = record { down = o.down; net = o.net; held = λ i f. absurd (omega (arith, f)) }
  one k (Begins a stamp epoch j h l) e o = record { down = o.down; net = o.net; held = λ i f. absurd (omega (arith, f)) }
  one k (Renews a stamp j al d) e o = record { down = o.down; net = o.net; held = o.held }
  one k (Installs a stamp i g mode j h s) e o = record { down = o.down; net = o.net; held = λ d f. upd_all HeldOne a.c.held i _ (λ f. o.net _ j) (λ d n f. o.held d f) d f }
  one k (AskedOfNone a stamp i g to j h mo top se sg) e o = record { down = o.down; net = all_tell_one_more _ a.net tt o.net; held = o.held }
  one k (Asked a stamp i g to j h mo le) e o = record { down = o.down; net = o.net; held = λ d f. upd_all HeldOne a.c.held i _ (λ f. o.net _ j) (λ d n f. o.held d f) d f }
  one k (Declines a stamp i g mode j h se z) e o = record { down = o.down; net = all_tell_one_more _ a.net tt o.net; held = o.held }
  one k (Repeats a was b j r h) e o = record { down = o.down; net = all_tell_one_more _ a.net (o.net _ j) o.net; held = o.held }
  one k (Works a busy al h) e o = record { down = o.down; net = o.net; held = o.held }
  one k (Rests a busy h) e o = record { down = o.down; net = o.net; held = o.held }
  one k (Reduces a i to h jo fe so mo gn ge gl) e o =
      record {
        down = o.down;
        net = all_tell_one_more _ a.net tt o.net;
        held =
            λ d f. upd_all HeldOne a.c.held i _ (λ f. subst (P i) (let y = gl f in omega (arith, y, ge)) (o.held i so)) (λ d n f. o.held d f) d f;
      }
  one k (Adopts a stamp epoch j h l) e o = record { down = o.down; net = o.net; held = o.held }
  one k (Reasserts a h du) e o = record { down = o.down; net = all_tell_one_more _ a.net o.held o.net; held = o.held }
  one k (Settles a stamp j h) e o = record { down = o.down; net = o.net; held = o.held }
  one k (Welcomes a life stamp j sv gr s r) e o = absurd (clash sv.up o.down)
  one k (WelcomesAgain a stamp j sv li gr) e o = absurd (clash sv.up o.down)
  one k (Acks a stamp j sv li) e o = absurd (clash sv.up o.down)
  one k (Again a was stamp b j r i sv li) e o = absurd (clash sv.up o.down)
  one k (Refuses a n j sv) e o = absurd (clash sv.up o.down)
  one k (Accepts a life stamp locks j sv gr s r) e o = absurd (clash sv.up o.down)
  one k (Suspects a sv) e o = absurd (clash sv.up o.down)
  one k (Steals a u ti h gr) e o = absurd (clash u o.down)
  one k (GraceEnds a u g h) e o = cc
  one k (Grants a st i g mode as_ li sv gr to mo tw) e o = absurd (clash sv.up o.down)
  one k (GrantsAgain a i sv mo) e o = absurd (clash sv.up o.down)
  one k (Demands a i to sv mo) e o = absurd (clash sv.up o.down)
  one k (Releases a stamp i g to j sv r ro mo) e o = absurd (clash sv.up o.down)
  one k (Sweeps a row h) e o = record { down = o.down; net = o.net; held = o.held }
  one k (Rises a g h) e o = record { down = o.down; net = o.net; held = o.held }
  one k (Stops a u) e o = cc
  one k (Starts a u) e o = cc

  -- over steady moves
  pub stays_down : (k : Config) {a b : Assoc} → Moves k a b → Down a → Down b
  stays_down k (Stays a) o = o
  stays_down k (GoesOn m e r) o = stays_down k r (one k m e o)
