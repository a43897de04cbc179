-- What holds within a client's rule at a server, of its requests, of who waits for one and of what is sent and answered; and what small changes, refusals and
-- new sessions leave of it.
use Rattle.st_lemmas.proofs.Words
use Words.{◌≡◌, ℕ, ◌≤◌, ◌<◌, ◌⊎◌, Bool, true, false, not, ◌&&◌, ◌==◌, List, [], ◌∷◌, ◌++◌, Option, Some, None, refl, sym, ap, ◌∙◌, subst, inl, inr, arith}
use Words.{if◌then◌else◌, map, ClientId, Epoch, GrantNo, ServerId, Mode, AppAnswer, Ask, Body, Message, Why, Output, Operation, Request}
use Words.answers
use Words.asks
use Words.bodies
use Words.outputs
use Words.stages
use Words.ClientReplies as cr
use Words.ClientState as cs
use Words.ClientState.{ClientSession, Turn, Requests, answer_to, server_of, say, with_session}
use Words.Lists.{Has}
use Words.Tables.{and_true, has_append, has_filter, has_map, not_true}
use Words.Members.{has_left}
use Rattle.st_laws_requests.specs.Cuts.Cuts.{AllWait, AsksFor, Between, Counts, IsSent, Numbers, OneWaits, Placed, SentIn, WaitsAt, view}
use Rattle.st_trace.specs.Client.Messages as trace
use Rattle.st_trace.specs.Client.Messages.{Grants, Refusal}

-- an operation's server and stage
pub asked_of : (s : ServerId) (o : Operation) → cs.is_asked s o ≡ true → (cs.is_of s o ≡ true) × (cs.is_asked_at o.stage ≡ true)
asked_of s o e = and_true (cs.is_of s o) (cs.is_asked_at o.stage) e

-- only a cut or a request for a name is that of an ask
pub only_own : (a : Ask) (b : Body) → AsksFor a b → cs.asks_cut_or_name b ≡ true
only_own (asks.Cut f p) (bodies.Cut ino g q) h = refl
only_own (asks.Name s k) (bodies.Name op) h = refl
only_own a b h = absurd h

pub no_acquire : (ino : ℕ) (b : Body) → cs.acquires ino b ≡ true → cs.asks_cut_or_name b ≡ true → ⊥
no_acquire ino (bodies.Acquire i m) h e = cc
no_acquire ino b h e = cc

pub no_map : (ino : ℕ) (b : Body) → cs.maps ino b ≡ true → cs.asks_cut_or_name b ≡ true → ⊥
no_map ino (bodies.Map i g p) h e = cc
no_map ino (bodies.Allocate i g p n) h e = cc
no_map ino b h e = cc

pub no_reassert : (b : Body) → cs.reasserts b ≡ true → cs.asks_cut_or_name b ≡ true → ⊥
no_reassert (bodies.Reassert rows) h e = cc
no_reassert b h e = cc

pub if_both : (P : Turn → Type 0) (b : Bool) (t u : Turn) → P t → P u → P (if b then t else u)
if_both P true t u x y = x
if_both P false t u x y = y

-- an outstanding request that was sent is among more messages
pub sent_more : (S T : Message → Type 0) (c : ClientId) (s : ServerId) (life : ℕ) (v : Option (ℕ × Requests)) → ((m : Message) → S m → T m) →
    SentIn S c s life v → SentIn T c s life v
sent_more S T c s life None f k = tt
sent_more S T c s life (Some v) f k = go v.1.asked k
  where
    go : (q : Option Request) → IsSent S c s life v.0 q → IsSent T c s life v.0 q
    go None k = tt
    go (Some q) k = (k.0, f k.0 k.1, k.2)

-- which answer a report gives
abbrev pub Answers : Body → AppAnswer → Type 0
Answers bodies.Ack a = a ≡ answers.Cut
Answers (bodies.Named reply) a = a ≡ cr.name_answer reply
Answers b a = ⊥

module _ (M : List Message) (c : ClientId) (Known : ℕ → Ask → Type 0) (Before : ServerId → ℕ → ℕ → ℕ → ℕ → Type 0) (Done : ℕ → Ask → AppAnswer → Type 0) where
  -- what was sent before the step, and in it so far
  abbrev pub Sent : List Output → Message → Type 0
  Sent out m = Has m M ⊎ Has (outputs.Send m) out

  -- what is reported about an ask was done
  abbrev pub SaidAs : ℕ → AppAnswer → Type 0
  SaidAs op a = (ask : Ask) × Known op ask × Done op ask a

  -- `cut` answers a cut that was done, and an answer of names gives what they said
  abbrev pub SaidOf : ℕ → AppAnswer → Type 0
  SaidOf op answers.Cut = SaidAs op answers.Cut
  SaidOf op (answers.Named ino) = SaidAs op (answers.Named ino)
  SaidOf op (answers.Listed rows) = SaidAs op (answers.Listed rows)
  SaidOf op (answers.Refused code) = SaidAs op (answers.Refused code)
  SaidOf op a = Unit {0}

  pub said_of : (op : ℕ) (a : AppAnswer) → SaidAs op a → SaidOf op a
  said_of op answers.Cut s = s
  said_of op (answers.Named ino) s = s
  said_of op (answers.Listed rows) s = s
  said_of op (answers.Refused code) s = s
  said_of op a s = tt

  -- an output that isn't a request
  abbrev pub Okay : ServerId → ℕ → Output → Type 0
  Okay s life (outputs.Send m) = Between c s m × (m.header.life ≡ life) × (m.header.number ≡ 0)
  Okay s life (outputs.Answer op a) = SaidOf op a
  Okay s life o = Unit {0}

  -- What holds within a rule at a server, with the operations and outputs that it began with: except for who waits.
  pub record Base (s : ServerId) (B : List Operation) (out0 : List Output) (id : ClientId) (sv : ServerId) (life : ℕ) (v : Option (ℕ × Requests))
      (ops : List Operation) (out : List Output) : Type 0 where
    pub id_ : id ≡ c
    pub server : sv ≡ s
    pub asked : (o : Operation) → Has o ops → Known o.op o.ask
    pub others : (o : Operation) → Has o ops → cs.is_of sv o ≡ false → Has o B
    pub numbers : Numbers (Sent out) c sv life v
    pub sent : (m : Message) → Has (outputs.Send m) out → Has (outputs.Send m) out0 ⊎ Between c sv m
    pub kept : (m : Message) → Has (outputs.Send m) out0 → Has (outputs.Send m) out
    pub said : (op : ℕ) (a : AppAnswer) → Has (outputs.Answer op a) out → SaidOf op a

  -- and who waits
  pub record Whole (s : ServerId) (B : List Operation) (out0 : List Output) (id : ClientId) (sv : ServerId) (life : ℕ) (v : Option (ℕ × Requests))
      (ops : List Operation) (out : List Output) : Type 0 where
    pub base : Base s B out0 id sv life v ops out
    pub waits : AllWait Before sv life v ops
    pub alone : OneWaits sv ops

  -- nobody waits
  abbrev pub Free : ServerId → List Operation → Type 0
  Free sv ops = (o : Operation) → Has o ops → cs.is_asked sv o ≡ true → ⊥

  module _ (s : ServerId) (B : List Operation) (out0 : List Output) where
    abbrev pub K : ClientId → ServerId → ℕ → Option (ℕ × Requests) → List Operation → List Output → Type 0
    K id sv life v ops out = Base s B out0 id sv life v ops out

    -- of a turn
    abbrev pub C : Turn → Type 0
    C t = Base s B out0 t.id t.here.server t.here.life.0 (view t.here.session) t.operations t.out

    abbrev pub W : Turn → Type 0
    W t = Whole s B out0 t.id t.here.server t.here.life.0 (view t.here.session) t.operations t.out

    -- of a turn, were its session this one
    abbrev pub CIn : Turn → ClientSession → Type 0
    CIn t x = Base s B out0 t.id t.here.server t.here.life.0 (view (Some x)) t.operations t.out

    abbrev pub WIn : Turn → ClientSession → Type 0
    WIn t x = Whole s B out0 t.id t.here.server t.here.life.0 (view (Some x)) t.operations t.out

    pub into : (t : Turn) (x : ClientSession) → t.here.session ≡ Some x → W t → WIn t x
    into t x e w = subst (λ o. Whole s B out0 t.id t.here.server t.here.life.0 (view o) t.operations t.out) e w

    pub free_all : (id : ClientId) (sv : ServerId) (life : ℕ) (v : Option (ℕ × Requests)) (ops : List Operation) (out : List Output) → Free sv ops →
        K id sv life v ops out → Whole s B out0 id sv life v ops out
    free_all id sv life v ops out f b = record { base = b; waits = λ o h e. absurd (f o h e); alone = λ o p h i e g. absurd (f o h e) }

    -- with no outstanding request nobody waits
    pub is_free : (sv : ServerId) (life epoch : ℕ) (q : Option Request) (ops : List Operation) → q ≡ None →
        ((o : Operation) → Has o ops → cs.is_asked sv o ≡ true → WaitsAt Before sv life epoch q o) → Free sv ops
    is_free sv life epoch q ops e f o h a = subst (λ q. WaitsAt Before sv life epoch q o) e (f o h a)

    -- Small changes.
    -- more outputs, none of them a request
    pub base_after_longer_list : (id : ClientId) (sv : ServerId) (life : ℕ) (v : Option (ℕ × Requests)) (ops : List Operation) (out os : List Output) →
        ((o : Output) → Has o os → Okay sv life o) → K id sv life v ops out → K id sv life v ops (out ++ os)
    base_after_longer_list id sv life v ops out os k b =
        record {
          id_ = b.id_;
          server = b.server;
          asked = b.asked;
          others = b.others;
          numbers = record {
            lives = λ m h t. lives m (which m h) t;
            placed = λ m h t. placed m v (which m h) t (b.numbers.placed m);
            one = λ m p h i. one m p (which m h) (which p i);
            sent = sent_more (Sent out) (Sent (out ++ os)) c sv life v more b.numbers.sent;
            counts = b.numbers.counts;
          };
          sent = λ m h. sends m (has_append out os (outputs.Send m) h);
          kept = λ m h. has_left out os (outputs.Send m) (b.kept m h);
          said = λ op a h. says op a (has_append out os (outputs.Answer op a) h);
        }
      where
        which : (m : Message) → Sent (out ++ os) m → Sent out m ⊎ Has (outputs.Send m) os
        which m (inl h) = inl (inl h)
        which m (inr h) = go (has_append out os (outputs.Send m) h)
          where
            go : Has (outputs.Send m) out ⊎ Has (outputs.Send m) os → Sent out m ⊎ Has (outputs.Send m) os
            go (inl i) = inl (inr i)
            go (inr i) = inr i

        more : (m : Message) → Sent out m → Sent (out ++ os) m
        more m (inl h) = inl h
        more m (inr h) = inr (has_left out os (outputs.Send m) h)

        lives : (m : Message) → Sent out m ⊎ Has (outputs.Send m) os → Between c sv m → m.header.life ≤ life
        lives m (inl h) t = b.numbers.lives m h t
        lives m (inr h) t = let z = (k (outputs.Send m) h).1 in omega (arith, z)

        one : (m p : Message) → Sent out m ⊎ Has (outputs.Send m) os → Sent out p ⊎ Has (outputs.Send p) os → Between c sv m → Between c sv p →
            m.header.life ≡ p.header.life → m.header.epoch ≡ p.header.epoch → m.header.number ≡ p.header.number → 1 ≤ m.header.number →
            m.body ≡ p.body
        one m p (inl h) (inl i) t u l e n z = b.numbers.one m p h i t u l e n z
        one m p (inl h) (inr i) t u l e n z = let q = (k (outputs.Send p) i).2 in absurd (omega (arith, q, n, z))
        one m p (inr h) i t u l e n z = let q = (k (outputs.Send m) h).2 in absurd (omega (arith, q, z))

        placed : (m : Message) (v : Option (ℕ × Requests)) → Sent out m ⊎ Has (outputs.Send m) os → Between c sv m →
            (Sent out m → Between c sv m → Placed life v m) → Placed life v m
        placed m v (inl h) t f = f h t
        placed m None (inr h) t f = λ l. (k (outputs.Send m) h).2
        placed m (Some x) (inr h) t f = λ l n. let z = (k (outputs.Send m) h).2 in absurd (omega (arith, z, n))

        sends : (m : Message) → Has (outputs.Send m) out ⊎ Has (outputs.Send m) os → Has (outputs.Send m) out0 ⊎ Between c sv m
        sends m (inl h) = b.sent m h
        sends m (inr h) = inr (k (outputs.Send m) h).0

        says : (op : ℕ) (a : AppAnswer) → Has (outputs.Answer op a) out ⊎ Has (outputs.Answer op a) os → SaidOf op a
        says op a (inl h) = b.said op a h
        says op a (inr h) = k (outputs.Answer op a) h

    pub one_okay : (sv : ServerId) (life : ℕ) (o : Output) → Okay sv life o → (x : Output) → Has x (o ∷ []) → Okay sv life x
    one_okay sv life o k x (inl e) = subst (Okay sv life) (sym e) k
    one_okay sv life o k x (inr i) = absurd i

    pub base_after_say : (id : ClientId) (sv : ServerId) (life : ℕ) (v : Option (ℕ × Requests)) (ops : List Operation) (out : List Output) (o : Output) →
        Okay sv life o → K id sv life v ops out → K id sv life v ops (out ++ o ∷ [])
    base_after_say id sv life v ops out o k b = base_after_longer_list id sv life v ops out (o ∷ []) (one_okay sv life o k) b

    pub whole_after_say : (t : Turn) (o : Output) → Okay t.here.server t.here.life.0 o → W t → W (say t o)
    whole_after_say t o k w = record {
      base = base_after_say t.id t.here.server t.here.life.0 (view t.here.session) t.operations t.out o k w.base;
      waits = w.waits;
      alone = w.alone;
    }

    -- fewer operations
    pub base_after_fewer : (id : ClientId) (sv : ServerId) (life : ℕ) (v : Option (ℕ × Requests)) (ops qs : List Operation) (out : List Output) →
        ((o : Operation) → Has o qs → Has o ops) → K id sv life v ops out → K id sv life v qs out
    base_after_fewer id sv life v ops qs out f b =
        record {
          id_ = b.id_;
          server = b.server;
          asked = λ o h. b.asked o (f o h);
          others = λ o h e. b.others o (f o h) e;
          numbers = b.numbers;
          sent = b.sent;
          kept = b.kept;
          said = b.said;
        }

    pub whole_after_fewer : (id : ClientId) (sv : ServerId) (life : ℕ) (v : Option (ℕ × Requests)) (ops qs : List Operation) (out : List Output) →
        ((o : Operation) → Has o qs → Has o ops) → Whole s B out0 id sv life v ops out → Whole s B out0 id sv life v qs out
    whole_after_fewer id sv life v ops qs out f w = record {
      base = base_after_fewer id sv life v ops qs out f w.base;
      waits = λ o h e. w.waits o (f o h) e;
      alone = λ o p h i. w.alone o p (f o h) (f p i);
    }

    -- operations are answered
    abbrev pub Plain : AppAnswer → Type 0
    Plain a = (op : ℕ) → SaidOf op a

    pub okay_answers : (sv : ServerId) (life : ℕ) (a : AppAnswer) (xs : List Operation) → Plain a → (x : Output) → Has x (map (answer_to a) xs) → Okay sv life x
    okay_answers sv life a xs p x h = let z = has_map (answer_to a) xs x h in subst (Okay sv life) (sym z.2) (p z.0.op)

    pub base_after_answers : (t : Turn) (picked : Operation → Bool) (a : AppAnswer) → Plain a → C t → C (cs.answer_each picked a t)
    unfolding cs.answer_each
    base_after_answers t picked a p b =
        base_after_longer_list t.id t.here.server t.here.life.0 (view t.here.session) _ t.out _ (okay_answers t.here.server t.here.life.0 a _ p)
        (base_after_fewer t.id t.here.server t.here.life.0 (view t.here.session) t.operations _ t.out (λ o h. (has_filter _ t.operations o h).0) b)

    pub whole_after_answers : (t : Turn) (picked : Operation → Bool) (a : AppAnswer) → Plain a → W t → W (cs.answer_each picked a t)
    unfolding cs.answer_each
    whole_after_answers t picked a p w =
        record {
          base = base_after_answers t picked a p w.base;
          waits = λ o h e. w.waits o (has_filter _ t.operations o h).0 e;
          alone = λ o q h i. w.alone o q
              (has_filter _ t.operations o h).0 (has_filter _ t.operations q i).0;
        }

    -- the operations that wait are answered, and nobody waits
    pub freed : (t : Turn) (a : AppAnswer) → Free t.here.server (cs.answer_each (cs.is_asked t.here.server) a t).operations
    unfolding cs.answer_each
    freed t a o h e = let z = not_true _ (has_filter (λ o. not (cs.is_asked t.here.server o)) t.operations o h).1 in clash e z
      where
        clash : {b : Bool} → b ≡ true → b ≡ false → ⊥
        clash x y = cc

    -- Sessions that go on.
    pub granted_view : (x : ClientSession) (ino : ℕ) (g : GrantNo) (mode : Mode) (v : ClientSession) → Grants (cs.forget_wait ino x) ino g mode v → view
        (Some v) ≡ view (Some x)
    granted_view x ino g mode _ (trace.Installs a p) = refl
    granted_view x ino g mode _ (trace.Declines a p) = refl
    granted_view x ino g mode _ (trace.IsOld a) = refl

    pub whole_after_view : (t : Turn) (x y : ClientSession) → view (Some y) ≡ view (Some x) → WIn t x → WIn t y
    whole_after_view t x y e w = subst (λ v. Whole s B out0 t.id t.here.server t.here.life.0 v t.operations t.out) (sym e) w

    -- Refusals.
    pub base_after_refused : (t : Turn) (y : Why) (a b : ℕ) (file : Option ℕ) (asked : Body) (u : Turn) → Refusal t file asked y a b u → C t → C u
    base_after_refused t _ a b file asked _ (trace.NoFile _ _ ino e) w = base_after_answers t _ _ (λ op. tt) w
    base_after_refused t _ a b file asked _ (trace.TooManyLocks _ _ ino e) w = base_after_answers t _ _ (λ op. tt) w
    base_after_refused t _ a b file asked _ (trace.NoSpace _ _ ino p e q) w = base_after_answers t _ _ (λ op. tt) w
    base_after_refused t _ a b file asked _ (trace.NotHolder _ _ e) w = base_after_answers t _ _ (λ op. tt) w
    base_after_refused t y a b file asked _ (trace.AnswersNone _ _ _) w = w

    -- an operation that is stuck no longer waits
    pub record StuckOf (t : Turn) (o p : Operation) : Type 0 where
      pub op : p.op ≡ o.op
      pub ask : p.ask ≡ o.ask
      pub free : cs.is_asked t.here.server p ≡ true → ⊥
      pub same : cs.is_of t.here.server o ≡ false → p ≡ o

    pub stuck_is : (t : Turn) (o : Operation) → StuckOf t o (cr.stuck t o)
    stuck_is t o = go (cs.is_asked t.here.server o) refl
      where
        clash : {b : Bool} → b ≡ true → b ≡ false → ⊥
        clash x y = cc

        stays : (a : Bool) → (a && false) ≡ true → ⊥
        stays true e = cc
        stays false e = cc

        go : (b : Bool) → cs.is_asked t.here.server o ≡ b → StuckOf t o (if b then cs.at_stage stages.Stuck o else o)
        go true e = record {
          op = refl;
          ask = refl;
          free = λ h. stays (cs.is_of t.here.server o) h;
          same = λ f. absurd
              (clash (asked_of t.here.server o e).0 f);
        }
        go false e = record { op = refl; ask = refl; free = λ h. clash h e; same = λ f. refl }

    abbrev pub From : Turn → Operation → Type 0
    From t o = (p : Operation) × Has p t.operations × (o ≡ cr.stuck t p)

    pub whole_after_stuck : (t : Turn) → C t → W (trace.left_stuck t)
    whole_after_stuck t b =
        record {
          base = record {
            id_ = b.id_;
            server = b.server;
            asked = λ o h. asked o (has_map (cr.stuck t) t.operations o h);
            others = λ o h e. others o (has_map (cr.stuck t) t.operations o h) e;
            numbers = b.numbers;
            sent = b.sent;
            kept = b.kept;
            said = b.said;
          };
          waits = λ o h e. absurd (free o (has_map (cr.stuck t) t.operations o h) e);
          alone = λ o p h i e g. absurd (free o (has_map (cr.stuck t) t.operations o h) e);
        }
      where
        asked : (o : Operation) → From t o → Known o.op o.ask
        asked o (p, h, e) =
            let z = stuck_is t p in
            subst (λ (q : Operation). Known q.op q.ask) (sym e) (subst (λ n. Known n (cr.stuck t p).ask) (sym z.op)
            (subst (λ a. Known p.op a) (sym z.ask) (b.asked p h)))

        of_same : (o p : Operation) → server_of p.ask ≡ server_of o.ask → cs.is_of t.here.server o ≡ false → cs.is_of t.here.server p ≡ false
        of_same o p e f = ap (λ (x : ServerId). x.0 == t.here.server.0) e ∙ f

        others : (o : Operation) → From t o → cs.is_of t.here.server o ≡ false → Has o B
        others o (p, h, e) f =
            let z = stuck_is t p in
            let g = of_same o p (sym (ap (λ (q : Operation). server_of q.ask) e ∙ ap server_of z.ask)) f in
            subst (λ q. Has q B) (sym (e ∙ z.same g)) (b.others p h g)

        free : (o : Operation) → From t o → cs.is_asked t.here.server o ≡ true → ⊥
        free o (p, h, e) f = (stuck_is t p).free (subst (λ q. cs.is_asked t.here.server q ≡ true) e f)

    -- A session that begins: nothing is known of its numbers, and nobody waits.
    pub base_after_begins : (t : Turn) (x : ClientSession) → t.here.session ≡ None → x.requests ≡ cs.no_requests → W t → WIn t x
    base_after_begins t x e n w = free_all t.id t.here.server t.here.life.0 (view (Some x)) t.operations t.out free base
      where
        none : Whole s B out0 t.id t.here.server t.here.life.0 None t.operations t.out
        none = subst (λ o. Whole s B out0 t.id t.here.server t.here.life.0 (view o) t.operations t.out) e w

        free : Free t.here.server t.operations
        free o h a = none.waits o h a

        counts : Counts (Some (x.epoch.0, cs.no_requests))
        counts = (omega arith, tt)

        base : CIn t x
        base = subst (λ r. Base s B out0 t.id t.here.server t.here.life.0 (Some (x.epoch.0, r)) t.operations t.out) (sym n)
            (record {
              id_ = none.base.id_;
              server = none.base.server;
              asked = none.base.asked;
              others = none.base.others;
              numbers = record {
                lives = none.base.numbers.lives;
                placed = λ m h b l k. let z = none.base.numbers.placed m h b l in absurd
                    (omega (arith, z, k));
                one = none.base.numbers.one;
                sent = tt;
                counts = counts;
              };
              sent = none.base.sent;
              kept = none.base.kept;
              said = none.base.said;
            })

    -- A newer epoch: its numbers begin anew, and who waited is answered.
    pub whole_after_follows : (t : Turn) (x : ClientSession) (epoch : Epoch) → t.here.session ≡ Some x → x.epoch.0 < epoch.0 → W t →
        W (cs.answer_each (cs.is_asked t.here.server) (answers.Uncertain x.epoch.0 epoch.0) (with_session (cr.in_epoch epoch x) t))
    unfolding cs.answer_each
    whole_after_follows t x epoch e l w =
        record {
          base = base_after_answers (with_session y t) (cs.is_asked t.here.server) (answers.Uncertain x.epoch.0 epoch.0) (λ op. tt) moved;
          waits = λ o h a. absurd (freed (with_session y t) (answers.Uncertain x.epoch.0 epoch.0) o h a);
          alone = λ o p h i a f. absurd (freed (with_session y t) (answers.Uncertain x.epoch.0 epoch.0) o h a);
        }
      where
        y : ClientSession
        y = cr.in_epoch epoch x

        z : WIn t x
        z = into t x e w

        moved : CIn t y
        moved =
            record {
              id_ = z.base.id_;
              server = z.base.server;
              asked = z.base.asked;
              others = z.base.others;
              numbers = record {
                lives = z.base.numbers.lives;
                placed = λ m h b k n. let u = (z.base.numbers.placed m h b k n).up_to in record {
                  up_to = omega (arith, u, l);
                  below = λ q. absurd
                      (omega (arith, u, l, q));
                  same = λ q. absurd (omega (arith, u, l, q));
                };
                one = z.base.numbers.one;
                sent = tt;
                counts = (omega arith, tt);
              };
              sent = z.base.sent;
              kept = z.base.kept;
              said = z.base.said;
            }
