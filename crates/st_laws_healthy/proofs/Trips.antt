-- A trip to the server and back: a message that was sent and not delivered since was sent at most d ticks ago, so a request is answered within two such times.
use Rattle.st_lemmas.proofs.Words
use Words.{◌≡◌, ◌≢◌, ℕ, ◌+◌, ◌*◌, ◌≤◌, ◌⊎◌, true, List, [], ◌∷◌, ◌++◌, Some, refl, ap, ◌∙◌, subst, sym, inl, inr, arith, ClientId, ServerId, Message}
use Words.events
use Words.seen
use Words.Safety.{Step}
use Words.World.{World, numbered}
use Words.Lists.{Has}
use Words.Tables.{has_append}
use Rattle.st_laws_healthy.specs.Healthy.{ComeInTime, is_between}
use Words.{append_assoc}

module _ (read : World → ℕ) (c : ClientId) (s : ServerId) (d : ℕ) where
  -- a message of a kind, between the two, that was sent at this reading of a clock and was not delivered since
  pub record Flying (past : List Step) (ms : List Message) (P : Message → Type 0) (at : ℕ) : Type 0 where
    pub before : List Step
    pub sending : Step
    pub during : List Step
    pub split : past ≡ before ++ sending ∷ during
    pub number : ℕ
    pub message : Message
    pub sent : Has (seen.Sent number message) sending.seen
    pub there : numbered ms number ≡ Some message
    pub between : is_between c s message.header ≡ true
    pub like : P message
    pub clock : read sending.after.world ≡ at
    pub none : (y : Step) → Has y during → y.event ≢ events.Deliver number

  -- it is sent at the last step
  pub takes_off : (past : List Step) (x : Step) (ms : List Message) (P : Message → Type 0) (n : ℕ) (m : Message) → Has (seen.Sent n m) x.seen →
      numbered ms n ≡ Some m →
      is_between c s m.header ≡ true → P m → Flying (past ++ x ∷ []) ms P (read x.after.world)
  takes_off past x ms P n m h t b p =
      record {
        before = past;
        sending = x;
        during = [];
        split = refl;
        number = n;
        message = m;
        sent = h;
        there = t;
        between = b;
        like = p;
        clock = refl;
        none = λ y i. absurd i;
      }

  -- it flies on through a step that does not deliver it
  pub flies_on : (past : List Step) (x : Step) (ms ns : List Message) → ((k : ℕ) (m : Message) → numbered ms k ≡ Some m → numbered ns k ≡ Some m) →
      (P Q : Message → Type 0) (at : ℕ)
      (f : Flying past ms P at) → (P f.message → Q f.message) → x.event ≢ events.Deliver f.number → Flying (past ++ x ∷ []) ns Q at
  flies_on past x ms ns keeps P Q at f q ne =
      record {
        before = f.before;
        sending = f.sending;
        during = f.during ++ x ∷ [];
        split = ap (λ p. p ++ x ∷ []) f.split ∙ append_assoc f.before (f.sending ∷ f.during) (x ∷ []);
        number = f.number;
        message = f.message;
        sent = f.sent;
        there = keeps f.number f.message f.there;
        between = f.between;
        like = q f.like;
        clock = f.clock;
        none = λ y i. by y (has_append f.during (x ∷ []) y i);
      }
    where
      by : (y : Step) → Has y f.during ⊎ Has y (x ∷ []) → y.event ≢ events.Deliver f.number
      by y (inl i) = f.none y i
      by y (inr (inl e)) = subst (λ (z : Step). z.event ≢ events.Deliver f.number) (sym e) ne
      by y (inr (inr i)) = absurd i

  -- every message that flies was sent at most that long before this reading
  abbrev pub InTime : List Step → List Message → ℕ → Type 0
  InTime past ms now = (at : ℕ) → Flying past ms (λ m. Unit {0}) at → now ≤ at + d

  pub in_time : (past : List Step) (x : Step) (ms : List Message) → ComeInTime read c s d past x → InTime (past ++ x ∷ []) ms (read x.after.world)
  in_time past x ms g at f = let z = g f.before f.sending f.during f.number f.message f.split f.sent f.between f.none in let e = f.clock in omega (arith, z, e)

  pub none_flies : (ms : List Message) (now : ℕ) → InTime [] ms now
  none_flies ms now at f = absurd (empty f.before f.sending f.during f.split)
    where
      empty : (before : List Step) (i : Step) (during : List Step) → [] ≡ before ++ i ∷ during → ⊥
      empty [] i during e = cc
      empty (b ∷ bs) i during e = cc

  -- its kind is forgotten
  plain : (past : List Step) (ms : List Message) (P : Message → Type 0) (at : ℕ) → Flying past ms P at → Flying past ms (λ m. Unit {0}) at
  plain past ms P at f =
      record {
        before = f.before;
        sending = f.sending;
        during = f.during;
        split = f.split;
        number = f.number;
        message = f.message;
        sent = f.sent;
        there =
            f.there;
        between = f.between;
        like = tt;
        clock = f.clock;
        none = f.none;
      }

  -- A trip that began at this reading: the request is on its way, or a reply to it, which was sent in time.
  pub data Trip (past : List Step) (ms : List Message) (A B : Message → Type 0) (from : ℕ) : Type 0 where
    Out : Flying past ms A from → Trip past ms A B from
    Back : (at : ℕ) → from ≤ at → at ≤ from + d → Flying past ms B at → Trip past ms A B from

  pub trip_ends : (past : List Step) (ms : List Message) (now : ℕ) (A B : Message → Type 0) (from : ℕ) → InTime past ms now → Trip past ms A B from →
      now ≤ from + 2 * d
  trip_ends past ms now A B from g (Out f) = let z = g from (plain past ms A from f) in omega (arith, z)
  trip_ends past ms now A B from g (Back at b l f) = let z = g at (plain past ms B at f) in omega (arith, z, l)

  -- while it goes out, the request was sent that long ago
  pub goes_out : (past : List Step) (ms : List Message) (now : ℕ) (A : Message → Type 0) (from : ℕ) → InTime past ms now → Flying past ms A from →
      now ≤ from + d
  goes_out past ms now A from g f = g from (plain past ms A from f)

  -- each of these steps was no later than this reading
  abbrev pub Begun : List Step → ℕ → Type 0
  Begun past now = (y : Step) → Has y past → read y.after.world ≤ now

  middle : (before : List Step) (i : Step) (during : List Step) → Has i (before ++ i ∷ during)
  middle [] i during = inl refl
  middle (b ∷ bs) i during = inr (middle bs i during)

  flew : (past : List Step) (ms : List Message) (now : ℕ) (P : Message → Type 0) (at : ℕ) → Begun past now → Flying past ms P at → at ≤ now
  flew past ms now P at g f =
      let l = g f.sending (subst (Has f.sending) (sym f.split) (middle f.before f.sending f.during)) in let e = f.clock in omega (arith, l, e)

  -- a trip began no later
  pub trip_began : (past : List Step) (ms : List Message) (now : ℕ) (A B : Message → Type 0) (from : ℕ) → Begun past now → Trip past ms A B from → from ≤ now
  trip_began past ms now A B from g (Out f) = flew past ms now A from g f
  trip_began past ms now A B from g (Back at b l f) = let z = flew past ms now B at g f in omega (arith, z, b)

  pub none_began : (now : ℕ) → Begun [] now
  none_began now y h = absurd h

  pub more_began : (past : List Step) (x : Step) (before : ℕ) → Begun past before → before ≤ read x.after.world →
      Begun (past ++ x ∷ []) (read x.after.world)
  more_began past x before g l y h = go (has_append past (x ∷ []) y h)
    where
      go : Has y past ⊎ Has y (x ∷ []) → read y.after.world ≤ read x.after.world
      go (inl i) = let z = g y i in omega (arith, z, l)
      go (inr (inl e)) = let z = ap (λ (i : Step). read i.after.world) e in omega (arith, z)
      go (inr (inr i)) = absurd i
