-- A rule of the client is a list of moves of its association: the frame.
use Rattle.st_lemmas.proofs.Words
use Words.{◌≡◌, ℕ, ◌≤◌, Bool, true, false, List, [], ◌∷◌, ◌++◌, ◌==◌, ◌⊎◌, inl, inr, Option, Some, None, refl, sym, ap, ◌∙◌, subst, if◌then◌else◌, ServerId}
use Words.{Message, Life, Note, Output, DemandedFile, Release, Request, eq-eqb, Operation, AppAnswer, map, filter, not}
use Words.notes
use Words.outputs
use Words.ClientPages.{Store}
use Words.ClientState.{ClientSession, Turn, with_session, with_store, answer_each, answer_to, is_file}
use Words.Keys.{server_node}
use Words.ClientLocks.{lock_of}
use Rattle.st_base.specs.declared.config.Config as base
use Rattle.st_protocol.specs.Assoc.{Config, Msg, Alive, Rests, Works, Stays}
use Rattle.st_laws_refine.specs.Views.Messages.{shown}
use Rattle.st_laws_refine.specs.Views.Halves.{held_at, busy_in, client_of}
use Rattle.st_laws_refine.specs.Client.Invariants.{Losses, LostNote, at, Beside, Quiet, Said, Waiting, AllTold, Outstanding, KeptIn, Kept, Ready, Frame, Goes}
use Rattle.st_laws_refine.proofs.Views.Moves.{moves_on, one, Grows, shows_more, received_more}

pub said_more : (id : ℕ) (sv : ServerId) (os : List Output) (N M : List Msg) → Grows N M → Said id sv os N → Said id sv os M
said_more id sv [] N M g s = s
said_more id sv (outputs.Send m ∷ os) N M g s = record { from = s.from; one = λ e. received_more m.header m.body N M g (s.one e); rest = said_more id sv os N M g s.rest }
said_more id sv (outputs.Submit c a w ∷ os) N M g s = said_more id sv os N M g s
said_more id sv (outputs.Answer o a ∷ os) N M g s = said_more id sv os N M g s
said_more id sv (outputs.Note n ∷ os) N M g s = said_more id sv os N M g s

pub said_both : (id : ℕ) (sv : ServerId) (os ps : List Output) (N : List Msg) → Said id sv os N → Said id sv ps N → Said id sv (os ++ ps) N
said_both id sv [] ps N s r = r
said_both id sv (outputs.Send m ∷ os) ps N s r = record { from = s.from; one = s.one; rest = said_both id sv os ps N s.rest r }
said_both id sv (outputs.Submit c a w ∷ os) ps N s r = said_both id sv os ps N s r
said_both id sv (outputs.Answer o a ∷ os) ps N s r = said_both id sv os ps N s r
said_both id sv (outputs.Note n ∷ os) ps N s r = said_both id sv os ps N s r

pub waiting_more : (life epoch : ℕ) (rs : List Release) (N M : List Msg) → Grows N M → Waiting life epoch rs N → Waiting life epoch rs M
waiting_more life epoch [] N M g s = s
waiting_more life epoch (r ∷ rs) N M g s = record { one = g _ s.one; rest = waiting_more life epoch rs N M g s.rest }

pub waiting_both : (life epoch : ℕ) (rs ps : List Release) (N : List Msg) → Waiting life epoch rs N → Waiting life epoch ps N → Waiting life epoch (rs ++ ps) N
waiting_both life epoch [] ps N s i = i
waiting_both life epoch (x ∷ rs) ps N s i = record { one = s.one; rest = waiting_both life epoch rs ps N s.rest i }

pub told_more : (life epoch : ℕ) (ds : List DemandedFile) (N M : List Msg) → Grows N M → AllTold life epoch ds N → AllTold life epoch ds M
told_more life epoch [] N M g s = s
told_more life epoch (d ∷ ds) N M g s =
    record { one = record { stamp = s.one.stamp; g = s.one.g; to = s.one.to; is = g _ s.one.is }; rest = told_more life epoch ds N M g s.rest }

pub standing_more : (life epoch : ℕ) (due : Bool) (o : Option Request) (N M : List Msg) → Grows N M → Outstanding life epoch due o N → Outstanding life epoch due o M
standing_more life epoch due None N M g s = s
standing_more life epoch due (Some q) N M g s =
    record { stamp = s.stamp; before = shows_more life epoch s.stamp (shown q.number q.body) N M g s.before; request = s.request; wishes = s.wishes; settled = s.settled }

pub kept_more : (life : ℕ) (st : Store) (s : ClientSession) (N M : List Msg) → Grows N M → KeptIn life st s N → KeptIn life st s M
kept_more life st s N M g r =
    record {
      queue = waiting_more life s.epoch.0 s.releases N M g r.queue;
      asked = standing_more life s.epoch.0 s.due s.requests.asked N M g r.asked;
      told = told_more life s.epoch.0 s.locks.demanded N M g r.told;
      modes = r.modes;
      quiet = r.quiet;
    }

pub kept_any : (life : ℕ) (st : Store) (o : Option ClientSession) (N M : List Msg) → Grows N M → Kept life st o N → Kept life st o M
kept_any life st None N M g r = r
kept_any life st (Some s) N M g r = kept_more life st s N M g r

pub ready_more : (k : Config) (now : ℕ) (hs : List Msg) (t : Turn) (N M : List Msg) → Grows N M → Ready k now hs t N → Ready k now hs t M
ready_more k now hs t N M g r =
    record {
      terms = r.terms;
      born = r.born;
      lasts = r.lasts;
      said = said_more t.id.0 t.here.server t.out N M g r.said;
      kept = kept_any t.here.life.0 t.here.store t.here.session N M g r.kept;
      received = λ m i. g m (r.received m i);
    }

false_of : (b x : Bool) → (b ≡ true → x ≡ true) → x ≡ false → b ≡ false
false_of true x f e = cc (f refl)
false_of false x f e = refl

pub quiet_less : (st x : Store) (o : Option ℕ) → ((i : ℕ) → busy_in x i ≡ true → busy_in st i ≡ true) → Quiet st o → Quiet x o
quiet_less st x None h q = q
quiet_less st x (Some ino) h q = false_of (busy_in x ino) (busy_in st ino) (h ino) q

pub quiet_work : (st x : Store) (o : Option ℕ) (ino : ℕ) → ((i : ℕ) → busy_in x i ≡ true → (busy_in st i ≡ true) ⊎ (i ≡ ino)) → is_file ino o ≡ false → Quiet st o → Quiet x o
quiet_work st x None ino h f q = q
quiet_work st x (Some j) ino h f q = false_of (busy_in x j) (busy_in st j) (λ e. go (h j e)) q
  where
    no_way : (a b : ℕ) → a ≡ b → (a == b) ≡ false → ⊥
    no_way a b e g = let z = eq-eqb a b e in cc

    go : (busy_in st j ≡ true) ⊎ (j ≡ ino) → busy_in st j ≡ true
    go (inl e) = e
    go (inr e) = absurd (no_way j ino e f)

pub kept_less : (life : ℕ) (st x : Store) (o : Option ClientSession) (N : List Msg) → ((i : ℕ) → busy_in x i ≡ true → busy_in st i ≡ true) → Kept life st o N → Kept life x o N
kept_less life st x None N h r = r
kept_less life st x (Some s) N h r = record { queue = r.queue; asked = r.asked; told = r.told; modes = r.modes; quiet = quiet_less st x s.cutting h r.quiet }

pub frame_same : (id : ℕ) (sv : ServerId) (c : base.Config) (os : List Output) → Frame id id sv sv c c os os
frame_same id sv c os = record { id_ = refl; server = refl; config = refl; said = λ x M n s. s; lost = λ P l. l }

pub losses_both : (P : ServerId → Life → Type 0) (os ps : List Output) → Losses P os → Losses P ps → Losses P (os ++ ps)
losses_both P [] ps s r = r
losses_both P (outputs.Send m ∷ os) ps s r = losses_both P os ps s r
losses_both P (outputs.Submit c a w ∷ os) ps s r = losses_both P os ps s r
losses_both P (outputs.Answer o a ∷ os) ps s r = losses_both P os ps s r
losses_both P (outputs.Note n ∷ os) ps s r = note n s (λ x. losses_both P os ps x r)
  where
    note : (n : Note) → LostNote P n (Losses P os) → (Losses P os → Losses P (os ++ ps)) → LostNote P n (Losses P (os ++ ps))
    note (notes.Lost v l) s f = record { one = s.one; rest = f s.rest }
    note n s f = f s

-- a note that isn't a loss
abbrev pub is_loss : Note → Bool
is_loss (notes.Lost s l) = true
is_loss n = false

pub no_loss : (P : ServerId → Life → Type 0) (n : Note) (R : Type 0) → is_loss n ≡ false → R → LostNote P n R
no_loss P (notes.Lost s l) R e r = cc
no_loss P n R e r = r

pub losses_answers : (P : ServerId → Life → Type 0) (answer : AppAnswer) (os : List Operation) → Losses P (map (answer_to answer) os)
losses_answers P answer [] = record {}
losses_answers P answer (o ∷ os) = losses_answers P answer os

-- what is added goes to no other server
pub frame_more : (id : ℕ) (sv : ServerId) (c : base.Config) (os more : List Output) → ((x : ServerId) (M : List Msg) → (server_node x ≡ server_node sv → ⊥) → Said id x more M) → ((P : ServerId → Life → Type 0) → Losses P more) → Frame id id sv sv c c os (os ++ more)
frame_more id sv c os more f g = record { id_ = refl; server = refl; config = refl; said = λ x M n s. said_both id x os more M s (f x M n); lost = λ P l. losses_both P os more l (g P) }

pub frame_then : (i i2 i3 : ℕ) (sv sv2 sv3 : ServerId) (c c2 c3 : base.Config) (os os2 os3 : List Output) → Frame i i2 sv sv2 c c2 os os2 → Frame i2 i3 sv2 sv3 c2 c3 os2 os3 → Frame i i3 sv sv3 c c3 os os3
frame_then i i2 i3 sv sv2 sv3 c c2 c3 os os2 os3 p q =
    record { id_ = q.id_ ∙ p.id_; server = q.server ∙ p.server; config = q.config ∙ p.config; said = λ x M n s. q.said x M (λ e. n (e ∙ ap (λ v. server_node v) p.server)) (p.said x M n s); lost = λ P l. q.lost P (p.lost P l) }

-- a message to the server itself
pub frame_send : (id : ℕ) (sv : ServerId) (c : base.Config) (os : List Output) (m : Message) → m.header.from ≡ id → m.header.to ≡ server_node sv → Frame id id sv sv c c os (os ++ outputs.Send m ∷ [])
frame_send id sv c os m fr e = frame_more id sv c os (outputs.Send m ∷ []) (λ x M n. record { from = fr; one = λ f. absurd (n (sym f ∙ e)); rest = record {} }) (λ P. record {})

pub said_answers : (id : ℕ) (sv : ServerId) (answer : AppAnswer) (os : List Operation) (N : List Msg) → Said id sv (map (answer_to answer) os) N
said_answers id sv answer [] N = record {}
said_answers id sv answer (o ∷ os) N = said_answers id sv answer os N

module _ (k : Config) (sv : Beside) (now : ℕ) (hs : List Msg) where
  pub alive : (t : Turn) (s : ClientSession) (N : List Msg) → Ready k now hs (with_session s t) N → Alive k (client_of sv.ended now (with_session s t).here)
  alive t s N r = record { leased = refl; lasts = r.lasts }

  pub goes_same : (t : Turn) → Goes k sv now hs t t
  goes_same t = record { frame = frame_same _ _ _ _; go = λ N r. record { net = N; moves = Stays (at sv now t N); ready = r } }

  pub goes_then : (t u v : Turn) → Goes k sv now hs t u → Goes k sv now hs u v → Goes k sv now hs t v
  goes_then t u v p q =
      record { frame = frame_then _ _ _ _ _ _ _ _ _ _ _ _ p.frame q.frame; go = λ N r. let x = p.go N r in let y = q.go x.net x.ready in record { net = y.net; moves = moves_on x.moves y.moves; ready = y.ready } }

  pub if_goes : (t : Turn) (b : Bool) (u v : Turn) → (b ≡ true → Goes k sv now hs t u) → (b ≡ false → Goes k sv now hs t v) → Goes k sv now hs t (if b then u else v)
  if_goes t true u v p q = p refl
  if_goes t false u v p q = q refl

  -- a choice within a turn
  pub if_within : {A : Type 0} (t : Turn) (f : A → Turn) (b : Bool) (u v : A) → (b ≡ true → Goes k sv now hs t (f u)) → (b ≡ false → Goes k sv now hs t (f v)) → Goes k sv now hs t (f (if b then u else v))
  if_within t f true u v p q = p refl
  if_within t f false u v p q = q refl

  -- what only puts out and changes the operations moves nothing
  pub aside_goes : (t : Turn) (os : List Operation) (n : ℕ) (out : List Output) → ((x : ServerId) (N : List Msg) → Said t.id.0 x out N) → ((P : ServerId → Life → Type 0) → Losses P out) → Goes k sv now hs t (record t { operations = os; next_command = n; out = t.out ++ out })
  aside_goes t os n out f g =
      record {
        frame = frame_more _ _ _ t.out out (λ x M n. f x M) g;
        go = λ N r. record {
          net = N;
          moves = Stays (at sv now t N);
          ready = record { terms = r.terms; born = r.born; lasts = r.lasts; said = said_both t.id.0 t.here.server t.out out N r.said (f t.here.server N); kept = r.kept; received = r.received };
        };
      }

  pub ops_goes : (t : Turn) (os : List Operation) → Goes k sv now hs t (record t { operations = os })
  ops_goes t os =
      record { frame = frame_same _ _ _ _; go = λ N r. record { net = N; moves = Stays (at sv now t N); ready = record { terms = r.terms; born = r.born; lasts = r.lasts; said = r.said; kept = r.kept; received = r.received } } }

  pub each_goes : (picked : Operation → Bool) (answer : AppAnswer) (t : Turn) → Goes k sv now hs t (answer_each picked answer t)
  unfolding answer_each
  each_goes picked answer t = aside_goes t (filter (λ o. not (picked o)) t.operations) t.next_command (map (answer_to answer) (filter picked t.operations)) (λ x N. said_answers t.id.0 x answer (filter picked t.operations) N) (λ P. losses_answers P answer (filter picked t.operations))

  -- pages and commands change, and nothing new is written
  pub rests_goes : (t : Turn) (x : Store) → ((i : ℕ) → busy_in x i ≡ true → busy_in t.here.store i ≡ true) → Goes k sv now hs t (with_store x t)
  rests_goes t x h =
      record {
        frame = frame_same _ _ _ _;
        go = λ N r. record {
          net = N;
          moves = one (Rests (at sv now t N) (λ i. busy_in x i) h) refl;
          ready = record { terms = r.terms; born = r.born; lasts = r.lasts; said = r.said; kept = kept_less t.here.life.0 t.here.store x t.here.session N h r.kept; received = r.received };
        };
      }

  -- something new is written, under an exclusive lock and if no cut is out
  pub works_goes : (t : Turn) (s : ClientSession) (x : Store) (ino : ℕ) → ((i : ℕ) → busy_in x i ≡ true → (busy_in t.here.store i ≡ true) ⊎ (i ≡ ino)) → 2 ≤ (held_at (lock_of s.locks ino)).mode → is_file ino s.cutting ≡ false →
      Goes k sv now hs (with_session s t) (with_store x (with_session s t))
  works_goes t s x ino h mode free =
      record {
        frame = frame_same _ _ _ _;
        go = λ N r. record {
          net = N;
          moves = one (Works (at sv now (with_session s t) N) (λ i. busy_in x i) (alive t s N r) (λ i b. under i (h i b))) refl;
          ready =
              record {
                terms = r.terms;
                born = r.born;
                lasts = r.lasts;
                said = r.said;
                kept = record { queue = r.kept.queue; asked = r.kept.asked; told = r.kept.told; modes = r.kept.modes; quiet = quiet_work t.here.store x s.cutting ino h free r.kept.quiet };
                received = r.received;
              };
        };
      }
    where
      under : (i : ℕ) → (busy_in t.here.store i ≡ true) ⊎ (i ≡ ino) → (busy_in t.here.store i ≡ true) ⊎ (2 ≤ (held_at (lock_of s.locks i)).mode)
      under i (inl q) = inl q
      under i (inr q) = inr (subst (λ d. 2 ≤ (held_at (lock_of s.locks d)).mode) (sym q) mode)
