-- What a server tells a client, among the messages of the association machine: all of it tells numbers of the client.
use Rattle.st_lemmas.proofs.Words
use Words.{◌≡◌, ℕ, Bool, true, false, ◌==◌, List, [], ◌∷◌, Some, refl, sym, ap, ◌∙◌, subst, inl, inr, if◌then◌else◌, eq-eqb, eqb-true, GrantNo, Mode, Body}
use Words.{Message, Why, Output}
use Words.bodies as bd
use Words.why
use Words.outputs
use Words.Lists.{Has}
use Words.Truth.{if_either}
use Rattle.st_base.specs.Mode.{number_of}
use Rattle.st_protocol.specs.Assoc as net
use Rattle.st_protocol.specs.Assoc.{In, Msg, msg}
use Rattle.st_laws_refine.specs.Views.Messages.{Shown, Shows, refusal, shown, with_date}
use Rattle.st_laws_refine.proofs.Views.Moves.{Grows, shows_more, shown_more}
use Rattle.st_trace.proofs.Server.Taking.{if_cases}
use Rattle.st_laws_grants.specs.Owners.{AllTell, Fits, Owned, Owner, Tells}

-- these in the network
said : ℕ → ℕ → ℕ → List net.Body → List Msg → List Msg
said life epoch stamp [] N = N
said life epoch stamp (b ∷ bs) N = msg life epoch stamp b ∷ said life epoch stamp bs N

said_grows : (life epoch stamp : ℕ) (bs : List net.Body) (N : List Msg) → Grows N (said life epoch stamp bs N)
unfolding said
said_grows life epoch stamp [] N m h = h
said_grows life epoch stamp (b ∷ bs) N m h = inr (said_grows life epoch stamp bs N m h)

said_shows : (life epoch stamp : ℕ) (bs : List net.Body) (N : List Msg) → Shows life epoch stamp bs (said life epoch stamp bs N)
unfolding said
said_shows life epoch stamp [] N = tt
said_shows life epoch stamp (b ∷ bs) N = record { one = inl refl; rest = shows_more life epoch stamp bs (said life epoch stamp bs N) (msg life epoch stamp b ∷ said life epoch stamp bs N) (λ m h. inr h) (said_shows life epoch stamp bs N) }

-- what each of these tells has the fact
abbrev pub EachTells : (ℕ → ℕ → Type 0) → List net.Body → Type 0
EachTells P [] = Unit {0}
EachTells P (b ∷ bs) = Tells P b × EachTells P bs

said_tells : (P : ℕ → ℕ → Type 0) (life epoch stamp : ℕ) (bs : List net.Body) (N : List Msg) → EachTells P bs → AllTell P N → AllTell P (said life epoch stamp bs N)
unfolding said
said_tells P life epoch stamp [] N f k m h = k m h
said_tells P life epoch stamp (b ∷ bs) N f k m (inl e) = subst (λ (x : Msg). Tells P x.body) (sym e) f.0
said_tells P life epoch stamp (b ∷ bs) N f k m (inr h) = said_tells P life epoch stamp bs N f.1 k m h

-- what fits a client
module _ (o : Owner) (c : ℕ) where
  refusal_tells : (w : Why) → EachTells (Owned o c) (refusal w)
  refusal_tells why.OtherEpoch = (tt, tt)
  refusal_tells why.NotHolder = (tt, tt)
  refusal_tells why.NoFile = (tt, tt)
  refusal_tells why.NoSpace = (tt, tt)
  refusal_tells why.TooManyLocks = (tt, tt)
  refusal_tells w = tt

  shown_tells : (n : ℕ) (b : Body) → Fits o c b → EachTells (Owned o c) (shown n b)
  unfolding with_date
  shown_tells n bd.Hello f = (tt, tt)
  shown_tells n bd.KeepAlive f = (tt, tt)
  shown_tells n (bd.Acquire i m) f = (tt, tt)
  shown_tells n (bd.Released i g to) f = (tt, (tt, tt))
  shown_tells n (bd.Map i g p) f = (tt, tt)
  shown_tells n (bd.Allocate i g p count) f = (tt, tt)
  shown_tells n (bd.Cut i g p) f = (tt, tt)
  shown_tells n (bd.Name op) f = (tt, tt)
  shown_tells n (bd.Reassert rows) f = absurd f
  shown_tells n bd.Welcome f = (tt, tt)
  shown_tells n bd.Ack f = (tt, tt)
  shown_tells n (bd.Nack w a b) f = refusal_tells w
  shown_tells n (bd.Granted i g m) f = if_either (EachTells (Owned o c)) (n == 0) _ _ (f, tt) (tt, (f, tt))
  shown_tells n (bd.Queued i m) f = (tt, tt)
  shown_tells n (bd.Demand i g to) f = (f, tt)
  shown_tells n (bd.Extents i rows) f = (tt, tt)
  shown_tells n (bd.Named r) f = (tt, tt)
  shown_tells n bd.Reasserted f = (tt, (tt, tt))
  shown_tells n b f = tt

-- a grant that is shown among these is the client's
pub granted_owned : (o : Owner) (c : ℕ) (m : Message) (N : List Msg) (ino : ℕ) (g : GrantNo) (mode : Mode) → m.body ≡ bd.Granted ino g mode → AllTell (Owned o c) N → Shown m N → o g.0 ≡ Some (c, ino)
unfolding with_date
granted_owned o c m N ino g mode e k s = go (m.header.number == 0) (subst (λ b. Shows m.header.life m.header.epoch m.header.stamp (shown m.header.number b) N) e s.all)
  where
    go : (z : Bool) → Shows m.header.life m.header.epoch m.header.stamp (if z then net.Granted ino g.0 (number_of mode) ∷ [] else net.Ack ∷ net.Granted ino g.0 (number_of mode) ∷ []) N → o g.0 ≡ Some (c, ino)
    go true h = k _ h.one
    go false h = k _ h.rest.one

-- what a step sends to the client, among the messages
pub add : ℕ → List Output → List Msg → List Msg
add c [] N = N
add c (outputs.Send m ∷ os) N = if m.header.to == c then said m.header.life m.header.epoch m.header.stamp (shown m.header.number m.body) (add c os N) else add c os N
add c (outputs.Submit n a w ∷ os) N = add c os N
add c (outputs.Answer op a ∷ os) N = add c os N
add c (outputs.Note n ∷ os) N = add c os N

pub add_grows : (c : ℕ) (os : List Output) (N : List Msg) → Grows N (add c os N)
unfolding add
add_grows c [] N m h = h
add_grows c (outputs.Send x ∷ os) N m h = if_either (In m) (x.header.to == c) _ _ (said_grows x.header.life x.header.epoch x.header.stamp (shown x.header.number x.body) (add c os N) m (add_grows c os N m h)) (add_grows c os N m h)
add_grows c (outputs.Submit n a w ∷ os) N m h = add_grows c os N m h
add_grows c (outputs.Answer op a ∷ os) N m h = add_grows c os N m h
add_grows c (outputs.Note n ∷ os) N m h = add_grows c os N m h

pub add_shows : (c : ℕ) (os : List Output) (N : List Msg) (m : Message) → Has (outputs.Send m) os → m.header.to ≡ c → Shown m (add c os N)
unfolding add
add_shows c [] N m h e = absurd h
add_shows c (outputs.Send x ∷ os) N m (inl q) e = subst (λ (y : Message). Shown y (if x.header.to == c then said x.header.life x.header.epoch x.header.stamp (shown x.header.number x.body) (add c os N) else add c os N)) (sym same) own
  where
    same : m ≡ x
    same = cc

    to : x.header.to ≡ c
    to = sym (ap (λ (y : Message). y.header.to) same) ∙ e

    own : Shown x (if x.header.to == c then said x.header.life x.header.epoch x.header.stamp (shown x.header.number x.body) (add c os N) else add c os N)
    own = subst (λ z. Shown x (if z then said x.header.life x.header.epoch x.header.stamp (shown x.header.number x.body) (add c os N) else add c os N)) (sym (eq-eqb x.header.to c to)) (record { all = said_shows x.header.life x.header.epoch x.header.stamp (shown x.header.number x.body) (add c os N) })
add_shows c (outputs.Send x ∷ os) N m (inr h) e =
    if_either (Shown m) (x.header.to == c) _ _ (shown_more m (add c os N) _ (said_grows x.header.life x.header.epoch x.header.stamp (shown x.header.number x.body) (add c os N)) (add_shows c os N m h e)) (add_shows c os N m h e)
add_shows c (outputs.Submit n a w ∷ os) N m (inl q) e = cc q
add_shows c (outputs.Submit n a w ∷ os) N m (inr h) e = add_shows c os N m h e
add_shows c (outputs.Answer op a ∷ os) N m (inl q) e = cc q
add_shows c (outputs.Answer op a ∷ os) N m (inr h) e = add_shows c os N m h e
add_shows c (outputs.Note n ∷ os) N m (inl q) e = cc q
add_shows c (outputs.Note n ∷ os) N m (inr h) e = add_shows c os N m h e

one : (o : Owner) (c : ℕ) (x : Message) (M : List Msg) → Fits o x.header.to x.body → AllTell (Owned o c) M → AllTell (Owned o c) (if x.header.to == c then said x.header.life x.header.epoch x.header.stamp (shown x.header.number x.body) M else M)
one o c x M f k =
    if_cases (AllTell (Owned o c)) (x.header.to == c) _ _
    (λ e. said_tells (Owned o c) x.header.life x.header.epoch x.header.stamp (shown x.header.number x.body) M (shown_tells o c x.header.number x.body (subst (λ n. Fits o n x.body) (eqb-true x.header.to c e) f)) k) (λ e. k)

pub add_tells : (o : Owner) (c : ℕ) (os : List Output) (N : List Msg) → ((m : Message) → Has (outputs.Send m) os → Fits o m.header.to m.body) → AllTell (Owned o c) N → AllTell (Owned o c) (add c os N)
unfolding add
add_tells o c [] N f k = k
add_tells o c (outputs.Send x ∷ os) N f k = one o c x (add c os N) (f x (inl refl)) (add_tells o c os N (λ m h. f m (inr h)) k)
add_tells o c (outputs.Submit n a w ∷ os) N f k = add_tells o c os N (λ m h. f m (inr h)) k
add_tells o c (outputs.Answer op a ∷ os) N f k = add_tells o c os N (λ m h. f m (inr h)) k
add_tells o c (outputs.Note n ∷ os) N f k = add_tells o c os N (λ m h. f m (inr h)) k
