-- Lists of moves, and what is in a network that grows.
use Rattle.st_lemmas.proofs.Words
use Words.{refl, ◌∙◌, ◌≡◌, ℕ, ◌≤◌, arith, true, List, [], ◌∷◌, subst, Message, Header, Body}
use Rattle.st_protocol.specs.Assoc as net
use Rattle.st_protocol.specs.Assoc.{Config, Msg, In, Assoc, Move, Moves, Stays, GoesOn, steady, Loses, Crashes, Advance, Stops, Starts, GraceEnds}
use Rattle.st_protocol.proofs.Timing.{grows}
use Rattle.st_laws_refine.specs.Views.Messages.{shown, Shows, Shown, epoch_shown, Received}

pub moves_on : {k : Config} {a b c : Assoc} → Moves k a b → Moves k b c → Moves k a c
moves_on (Stays a) n = n
moves_on (GoesOn m e r) n = GoesOn m e (moves_on r n)

pub one : {k : Config} {a b : Assoc} → (m : Move k a b) → steady m ≡ true → Moves k a b
one {k} {a} {b} m e = GoesOn m e (Stays b)

pub moved : (k : Config) (a b c : Assoc) → Moves k a b → b ≡ c → Moves k a c
moved k a b c m e = subst (λ x. Moves k a x) e m

life_up : {k : Config} {a b : Assoc} → Move k a b → a.c.life ≤ b.c.life
life_up (Loses a h i) = omega arith
life_up (Crashes a) = omega arith
life_up m = omega arith

pub lives_up : {k : Config} {a b : Assoc} → Moves k a b → a.c.life ≤ b.c.life
lives_up (Stays a) = omega arith
lives_up (GoesOn m e r) = let p = life_up m in let q = lives_up r in omega arith

drift_one : {k : Config} {a b : Assoc} → (m : Move k a b) → steady m ≡ true → b.s.drift ≡ a.s.drift
drift_one (Advance a dc ds dr h lim) e = cc
drift_one (Stops a u) e = cc
drift_one (Starts a u) e = cc
drift_one (GraceEnds a u g h) e = cc
drift_one m e = refl

-- in a step of a node no clock drifts
pub drift_same : {k : Config} {a b : Assoc} → Moves k a b → b.s.drift ≡ a.s.drift
drift_same (Stays a) = refl
drift_same (GoesOn m e r) = drift_same r ∙ drift_one m e

abbrev pub Grows : List Msg → List Msg → Type 0
Grows N M = (m : Msg) → In m N → In m M

pub moves_grow : {k : Config} {a b : Assoc} → Moves k a b → Grows a.net b.net
moves_grow (Stays a) m i = i
moves_grow {k} (GoesOn mv e r) m i = moves_grow r m (grows k mv m i)

pub shows_more : (life epoch stamp : ℕ) (bs : List net.Body) (N M : List Msg) → Grows N M → Shows life epoch stamp bs N → Shows life epoch stamp bs M
shows_more life epoch stamp [] N M g s = s
shows_more life epoch stamp (b ∷ bs) N M g s = record { one = g _ s.one; rest = shows_more life epoch stamp bs N M g s.rest }

pub shown_more : (m : Message) (N M : List Msg) → Grows N M → Shown m N → Shown m M
shown_more m N M g s = record { all = shows_more m.header.life m.header.epoch m.header.stamp (shown m.header.number m.body) N M g s.all }

-- one move, up to a path
pub one_to : {k : Config} {a b : Assoc} (c : Assoc) (m : Move k a b) → steady m ≡ true → b ≡ c → Moves k a c
one_to {k} {a} {b} c m s e = subst (λ x. Moves k a x) e (GoesOn m s (Stays b))

pub received_more : (h : Header) (b : Body) (N M : List Msg) → Grows N M → Received h b N → Received h b M
received_more h b N M g q = record { born = q.born; clients = q.clients; wishes = q.wishes; shows = shows_more h.life (epoch_shown b h.epoch) h.stamp (shown h.number b) N M g q.shows }
