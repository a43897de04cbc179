-- What is observed of the outputs of clients and servers: which lines answer, and which tell a cut.
use Rattle.st_lemmas.proofs.Words
use Words.{◌≡◌, ℕ, ◌+◌, ◌⊎◌, false, List, [], ◌∷◌, ◌++◌, Option, Some, None, refl, sym, subst, inl, inr, length, ClientId, ServerId, FileId, PageNo, AppAnswer}
use Words.{Message, Note, Output, Fate, LogEntry, Observation}
use Words.notes
use Words.outputs
use Words.fates
use Words.seen
use Words.ClientState.{ClientState}
use Words.Events as ev
use Words.Events.{WorldTurn, client_says, client_says_all, server_says, server_says_all}
use Words.World.{WorldClient, site_of}
use Words.Lists.{Has}
use Words.Tables.{has_append, has_map_in}
use Words.Members.{has_right}
use Rattle.st_laws_leases.specs.Dates.Dates.{message_in, messages}
use Rattle.st_laws_leases.proofs.Dates.SentMessages.{client_said, server_said}

-- Observations.
-- it answers nothing
abbrev pub NoAnswer : Observation → Type 0
NoAnswer (seen.Answered c op a) = ⊥
NoAnswer o = Unit {0}

abbrev pub NoAnswers : List Observation → Type 0
NoAnswers os = (o : Observation) → Has o os → NoAnswer o

pub none_answered : NoAnswers []
none_answered o h = elim h [ ]

pub none_more : (os : List Observation) (o : Observation) → NoAnswers os → NoAnswer o → NoAnswers (os ++ o ∷ [])
none_more os o a k x h = go (has_append os _ x h)
  where
    go : Has x os ⊎ Has x (o ∷ []) → NoAnswer x
    go (inl i) = a x i
    go (inr (inl e)) = subst NoAnswer (sym e) k
    go (inr (inr i)) = absurd i

pub fates_none : (n : ℕ) (es fs : List LogEntry) → NoAnswers (ev.fates_from n es fs)
unfolding ev.fates_from
fates_none n [] fs o h = elim h [ ]
fates_none n (e ∷ es) [] o h = elim h [ ]
fates_none n (e ∷ es) (f ∷ fs) o h = go (has_append (ev.fate_seen n e.fate f.fate) _ o h) (fates_none (n + 1) es fs o)
  where
    one : (a b : Fate) → Has o (ev.fate_seen n a b) → NoAnswer o
    one fates.Pending fates.Hard (inl q) = subst NoAnswer (sym q) tt
    one fates.Pending (fates.Gone cause) (inl q) = subst NoAnswer (sym q) tt
    one fates.Pending fates.Hard (inr i) = elim i [ ]
    one fates.Pending (fates.Gone cause) (inr i) = elim i [ ]
    one fates.Pending fates.Pending i = elim i [ ]
    one fates.Hard b i = elim i [ ]
    one (fates.Gone cause) b i = elim i [ ]

    go : Has o (ev.fate_seen n e.fate f.fate) ⊎ Has o (ev.fates_from (n + 1) es fs) → (Has o (ev.fates_from (n + 1) es fs) → NoAnswer o) → NoAnswer o
    go (inl i) k = one e.fate f.fate i
    go (inr i) k = k i

pub server_none_one : (s : ServerId) (o : Output) (sc : WorldTurn) → NoAnswers sc.seen → NoAnswers (server_says sc s o).seen
unfolding server_says ev.sends ev.server_notes ev.cuts
server_none_one s (outputs.Send m) sc h = none_more sc.seen _ h tt
server_none_one s (outputs.Note x) sc h = note x
  where
    note : (x : Note) → NoAnswers (ev.server_notes sc s x).seen
    note (notes.Suspected c t) = none_more sc.seen _ h tt
    note (notes.Stolen c l) = none_more sc.seen _ h tt
    note (notes.CutDone f p) = none_more sc.seen _ h tt
    note x = h
server_none_one s o sc h = h

pub server_none : (s : ServerId) (os : List Output) (sc : WorldTurn) → NoAnswers sc.seen → NoAnswers (server_says_all s os sc).seen
unfolding server_says_all
server_none s [] sc h = h
server_none s (o ∷ os) sc h = server_none s os (server_says sc s o) (server_none_one s o sc h)

-- a cut that a server notes is observed
abbrev pub CutSeen : FileId → PageNo → List Observation → Type 0
CutSeen f p os = (k : ℕ) × Has (seen.CutAt k f p) os

pub cut_one : (s : ServerId) (f : FileId) (p : PageNo) (sc : WorldTurn) → CutSeen f p (server_says sc s (outputs.Note (notes.CutDone f p))).seen
unfolding server_says ev.server_notes ev.cuts
cut_one s f p sc = (length sc.world.log + 1, has_right sc.seen _ _ (inl refl))

pub cut_said : (s : ServerId) (f : FileId) (p : PageNo) (os : List Output) (sc : WorldTurn) → Has (outputs.Note (notes.CutDone f p)) os → CutSeen f p (server_says_all s os sc).seen
unfolding server_says_all
cut_said s f p [] sc h = elim h [ ]
cut_said s f p (o ∷ os) sc (inl e) =
    let z = subst (λ y. CutSeen f p (server_says sc s y).seen) e (cut_one s f p sc) in
    (z.0, (server_said s os (server_says sc s o)).grows _ z.1)
cut_said s f p (o ∷ os) sc (inr h) = cut_said s f p os (server_says sc s o) h

-- what a client answers is observed, and nothing else
pub record AnswerOf (c d : ClientId) (op : ℕ) (a : AppAnswer) (os : List Output) : Type 0 where
  pub client : d ≡ c
  pub answer : Has (outputs.Answer op a) os

abbrev pub AnswersOf : ClientId → List Output → List Observation → List Observation → Type 0
AnswersOf c os old new = (d : ClientId) (op : ℕ) (a : AppAnswer) → Has (seen.Answered d op a) new → Has (seen.Answered d op a) old ⊎ AnswerOf c d op a os

pub other_seen : (c : ClientId) (o : Output) (old : List Observation) (x : Observation) → NoAnswer x → AnswersOf c (o ∷ []) old (old ++ x ∷ [])
other_seen c o old x k d op a h = go (has_append old _ _ h)
  where
    go : Has (seen.Answered d op a) old ⊎ Has (seen.Answered d op a) (x ∷ []) → Has (seen.Answered d op a) old ⊎ AnswerOf c d op a (o ∷ [])
    go (inl i) = inl i
    go (inr (inl e)) = absurd (subst NoAnswer (sym e) k)
    go (inr (inr i)) = absurd i

pub answered_one : (c : ClientId) (before : ClientState) (o : Output) (sc : WorldTurn) → AnswersOf c (o ∷ []) sc.seen (client_says sc c before o).seen
unfolding client_says ev.submits ev.answers_with ev.client_notes ev.accepts ev.patches ev.loses ev.sends
answered_one c before (outputs.Send m) sc = other_seen c _ sc.seen _ tt
answered_one c before (outputs.Submit number at what) sc = go (site_of sc.world c)
  where
    go : (o : Option WorldClient) → AnswersOf c (outputs.Submit number at what ∷ []) sc.seen (ev.submits sc c o number at what).seen
    go None = λ d op a h. inl h
    go (Some site) = other_seen c _ sc.seen _ tt
answered_one c before (outputs.Answer n b) sc = go
  where
    its_client : (d : ClientId) (op : ℕ) (a : AppAnswer) → seen.Answered d op a ≡ seen.Answered c n b → d ≡ c
    its_client d op a e = cc

    its_answer : (d : ClientId) (op : ℕ) (a : AppAnswer) → seen.Answered d op a ≡ seen.Answered c n b → outputs.Answer op a ≡ outputs.Answer n b
    its_answer d op a e = cc

    go : AnswersOf c (outputs.Answer n b ∷ []) sc.seen (sc.seen ++ seen.Answered c n b ∷ [])
    go d op a h = at (has_append sc.seen _ _ h)
      where
        at : Has (seen.Answered d op a) sc.seen ⊎ Has (seen.Answered d op a) (seen.Answered c n b ∷ []) → Has (seen.Answered d op a) sc.seen ⊎ AnswerOf c d op a (outputs.Answer n b ∷ [])
        at (inl i) = inl i
        at (inr (inl e)) = inr (record { client = its_client d op a e; answer = inl (its_answer d op a e) })
        at (inr (inr i)) = absurd i
answered_one c before (outputs.Note n) sc = go n
  where
    go : (n : Note) → AnswersOf c (outputs.Note n ∷ []) sc.seen (ev.client_notes sc c before n).seen
    go (notes.Leased s end) = other_seen c _ sc.seen _ tt
    go (notes.Lost s life) = other_seen c _ sc.seen _ tt
    go (notes.Accepted f p bytes) = other_seen c _ sc.seen _ tt
    go (notes.Patched f p at bytes) = other_seen c _ sc.seen _ tt
    go n = λ d op a h. inl h

pub answered_said : (c : ClientId) (before : ClientState) (os : List Output) (sc : WorldTurn) → AnswersOf c os sc.seen (client_says_all c before os sc).seen
unfolding client_says_all
answered_said c before [] sc d op a h = inl h
answered_said c before (o ∷ os) sc d op a h = go (answered_said c before os (client_says sc c before o) d op a h)
  where
    one : Has (seen.Answered d op a) sc.seen ⊎ AnswerOf c d op a (o ∷ []) → Has (seen.Answered d op a) sc.seen ⊎ AnswerOf c d op a (o ∷ os)
    one (inl i) = inl i
    one (inr z) = inr (record { client = z.client; answer = first z.answer })
      where
        first : Has (outputs.Answer op a) (o ∷ []) → Has (outputs.Answer op a) (o ∷ os)
        first (inl e) = inl e
        first (inr i) = absurd i

    go : Has (seen.Answered d op a) (client_says sc c before o).seen ⊎ AnswerOf c d op a os → Has (seen.Answered d op a) sc.seen ⊎ AnswerOf c d op a (o ∷ os)
    go (inl i) = one (answered_one c before o sc d op a i)
    go (inr z) = inr (record { client = z.client; answer = inr z.answer })

-- what a client sends is among the messages
pub client_sends : (c : ClientId) (before : ClientState) (os : List Output) (a : WorldTurn) (m : Message) → Has (outputs.Send m) os → Has m (messages (client_says_all c before os a).world)
unfolding client_says_all client_says ev.sends
client_sends c before [] a m h = absurd h
client_sends c before (o ∷ os) a m (inr h) = client_sends c before os (client_says a c before o) m h
client_sends c before (outputs.Send x ∷ os) a m (inl q) = (client_said c before os (client_says a c before (outputs.Send x))).old m (subst (λ (y : Message). Has y (messages (ev.sends a x).world)) (sym same) new)
  where
    same : m ≡ x
    same = cc

    new : Has x (messages (ev.sends a x).world)
    new = has_map_in message_in (a.world.net.messages ++ record { message = x; lost = false } ∷ []) (record { message = x; lost = false }) (has_right a.world.net.messages _ _ (inl refl))
client_sends c before (outputs.Submit n w k ∷ os) a m (inl q) = cc q
client_sends c before (outputs.Answer op w ∷ os) a m (inl q) = cc q
client_sends c before (outputs.Note n ∷ os) a m (inl q) = cc q

-- what a server sends is among the messages
pub server_sends : (s : ServerId) (os : List Output) (a : WorldTurn) (m : Message) → Has (outputs.Send m) os → Has m (messages (server_says_all s os a).world)
unfolding server_says_all server_says ev.sends
server_sends s [] a m h = absurd h
server_sends s (o ∷ os) a m (inr h) = server_sends s os (server_says a s o) m h
server_sends s (outputs.Send x ∷ os) a m (inl q) = (server_said s os (server_says a s (outputs.Send x))).old m (subst (λ (y : Message). Has y (messages (ev.sends a x).world)) (sym same) new)
  where
    same : m ≡ x
    same = cc

    new : Has x (messages (ev.sends a x).world)
    new = has_map_in message_in (a.world.net.messages ++ record { message = x; lost = false } ∷ []) (record { message = x; lost = false }) (has_right a.world.net.messages _ _ (inl refl))
server_sends s (outputs.Submit n c w ∷ os) a m (inl q) = cc q
server_sends s (outputs.Answer op c ∷ os) a m (inl q) = cc q
server_sends s (outputs.Note n ∷ os) a m (inl q) = cc q
