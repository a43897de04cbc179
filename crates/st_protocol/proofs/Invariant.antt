-- All that holds of one association, and that lists of moves keep it.
use Rattle.std.proofs.Common.{arith}
use Rattle.st_protocol.specs.Assoc.{Config, ConfigOk, Msg, Fits, Assoc, In, Move, Moves, Stays, GoesOn, Greets, Asks, AskedOfNone, Declines, Repeats, Again, Reduces, Reasserts, Welcomes, WelcomesAgain, Acks, Refuses, Accepts, Grants, GrantsAgain, Demands, Releases}
use Rattle.st_protocol.proofs.Lists.{in_cons}
use Rattle.st_protocol.proofs.Timing.{Timing, timing}
use Rattle.st_protocol.proofs.Locks.{Locks}
use Rattle.st_protocol.proofs.Steps.{locks}
use Rattle.st_protocol.proofs.Claims.{AskedFor, asked_for}
use Rattle.st_protocol.proofs.Lives.{Lives, lives}
use Rattle.st_protocol.proofs.Born.{Born, born}
use Rattle.st_protocol.proofs.Exact.{Exact, exacts}

abbrev pub AllFit : Assoc → Type 0
AllFit a = (m : Msg) → In m a.net → Fits m.body

pub record Invariant (k : Config) (a : Assoc) : Type 0 where
  pub timing_ : Timing k a
  pub locks_ : Locks k a
  pub asked : AskedFor a
  pub lives_ : Lives a
  pub exact_ : Exact k a
  pub fits : AllFit a
  pub born_ : Born a

module _ (k : Config) where
  all_fit : {a b : Assoc} → Move k a b → AllFit a → AllFit b
  all_fit (Greets a h) f m w = in_cons (λ m. Fits m.body) _ a.net tt f m w
  all_fit (Asks a h) f m w = in_cons (λ m. Fits m.body) _ a.net tt f m w
  all_fit (AskedOfNone a stamp i g to j h mo top se sg) f m w = in_cons (λ m. Fits m.body) _ a.net tt f m w
  all_fit (Reduces a i to h jo fe so mo gn ge gl) f m w = in_cons (λ m. Fits m.body) _ a.net tt f m w
  all_fit (Declines a stamp i g mode j h se z) f m w = in_cons (λ m. Fits m.body) _ a.net tt f m w
  all_fit (Repeats a was b j r h) f m w = in_cons (λ m. Fits m.body) _ a.net (f _ j) f m w
  all_fit (Again a was stamp b j e i sv li) f m w = in_cons (λ m. Fits m.body) _ a.net (f _ j) f m w
  all_fit (Reasserts a h du) f m w = in_cons (λ m. Fits m.body) _ a.net tt f m w
  all_fit (Welcomes a life stamp j sv gr s r) f m w = in_cons (λ m. Fits m.body) _ a.net tt f m w
  all_fit (WelcomesAgain a stamp j sv li gr) f m w = in_cons (λ m. Fits m.body) _ a.net tt f m w
  all_fit (Acks a stamp j sv li) f m w = in_cons (λ m. Fits m.body) _ a.net tt f m w
  all_fit (Refuses a n j sv) f m w = in_cons (λ m. Fits m.body) _ a.net tt f m w
  all_fit (Accepts a life stamp locks j sv gr s r) f m w = in_cons (λ m. Fits m.body) _ a.net tt f m w
  all_fit (Grants a st i g mode as_ li sv gr to mo tw) f m w = in_cons (λ m. Fits m.body) _ a.net (omega arith) f m w
  all_fit (GrantsAgain a i sv mo) f m w = in_cons (λ m. Fits m.body) _ a.net mo f m w
  all_fit (Demands a i to sv mo) f m w = in_cons (λ m. Fits m.body) _ a.net tt f m w
  all_fit (Releases a stamp i g to j sv e ro mo) f m w = in_cons (λ m. Fits m.body) _ a.net tt f m w
  all_fit _ f m w = f m w

  pub kept_one : {a b : Assoc} → ConfigOk k → Move k a b → Invariant k a → Invariant k b
  kept_one ok m o =
      record {
        timing_ = timing k ok m o.timing_;
        locks_ = locks k ok m o.timing_ o.locks_;
        asked = asked_for k m o.timing_ o.locks_ o.asked;
        lives_ = lives k m o.timing_ o.locks_ o.lives_;
        exact_ = exacts k m o.timing_ o.locks_ o.asked o.exact_;
        fits = all_fit m o.fits;
        born_ = born k m o.born_;
      }

pub kept_by : (k : Config) {a b : Assoc} → ConfigOk k → Moves k a b → Invariant k a → Invariant k b
kept_by k ok (Stays a) i = i
kept_by k ok (GoesOn m e r) i = kept_by k ok r (kept_one k ok m i)
