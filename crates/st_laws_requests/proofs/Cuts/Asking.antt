-- What a client asks of a server: a new request, or the outstanding one again. Numbers rise, and an operation that is sent waits only for its own request.
use Rattle.st_lemmas.proofs.Words
use Words.{◌≡◌, ℕ, ◌≤◌, ◌<◌, ◌⊎◌, Bool, true, false, ◌==◌, List, [], ◌∷◌, ◌++◌, Option, Some, None, refl, sym, ap, ◌∙◌, subst, inl, inr, arith, if◌then◌else◌}
use Words.{eq-eqb, ClientId, GrantNo, PageNo, ServerId, Stamp, NameAsk, AppAnswer, Ask, Body, Message, Output, HeldLock, Operation, Release, Request}
use Words.names as asked
use Words.asks
use Words.outputs
use Words.ClientLocks as locks
use Words.ClientPasses as cp
use Words.ClientState as cs
use Words.ClientState.{ClientSession, Turn, Requests, server_of, with_store, with_operations}
use Words.Lists.{Has}
use Words.Lookups.{some_is}
use Words.Tables.{and_true, has_append}
use Words.Members.{has_left, has_right}
use Rattle.st_laws_requests.specs.Cuts.Cuts.{AsksFor, Between, Counts, Given, Keyed, MeansNone, OneWaits, Placed, SameBody, SentIn, WaitsAt, view}
use Rattle.st_laws_requests.proofs.Cuts.Keeping.{Base, CIn, Free, K, SaidOf, Sent, W, WIn, if_both, into, is_free, whole_after_say}

module _ (M : List Message) (c : ClientId) (Known : ℕ → Ask → Type 0) (Before : ServerId → ℕ → ℕ → ℕ → ℕ → Type 0) (Done : ℕ → Ask → AppAnswer → Type 0) where
  module _ (s : ServerId) (B : List Operation) (out0 : List Output) where
    -- Requests.
    -- what a new message does to the numbers
    base_after_sends : (id : ClientId) (sv : ServerId) (life : ℕ) (v w : Option (ℕ × Requests)) (ops : List Operation) (out : List Output) (x : Message) →
        Between c sv x → x.header.life ≡ life →
        ((m : Message) → (Sent M c Known Before Done) out m → Between c sv m → Placed life w m) → Placed life w x →
        ((m : Message) → (Sent M c Known Before Done) out m → Between c sv m → m.header.life ≡ x.header.life → m.header.epoch ≡ x.header.epoch →
        m.header.number ≡ x.header.number → 1 ≤ x.header.number → m.body ≡ x.body) →
        SentIn ((Sent M c Known Before Done) (out ++ outputs.Send x ∷ [])) c sv life w → Counts w → (K M c Known Before Done s B out0) id sv life v ops out →
        (K M c Known Before Done s B out0) id sv life w ops (out ++ outputs.Send x ∷ [])
    base_after_sends id sv life v w ops out x t l old new same_body is_sent counts b =
        record {
          id_ = b.id_;
          server = b.server;
          asked = b.asked;
          others = b.others;
          numbers =
              record {
                lives = λ m h u. lives m (which m h) u;
                placed = λ m h u. placed m (which m h) u;
                one = λ m p h i. one m p (which m h) (which p i);
                sent =
                    is_sent;
                counts = counts;
              };
          sent = λ m h. sends m (has_append out (outputs.Send x ∷ []) (outputs.Send m) h);
          kept = λ m h. has_left out (outputs.Send x ∷ []) (outputs.Send m) (b.kept m h);
          said = λ op a h. says op a (has_append out (outputs.Send x ∷ []) (outputs.Answer op a) h);
        }
      where
        same : (m y : Message) → outputs.Send m ≡ outputs.Send y → m ≡ y
        same m y e = cc

        which : (m : Message) → (Sent M c Known Before Done) (out ++ outputs.Send x ∷ []) m → (Sent M c Known Before Done) out m ⊎ (m ≡ x)
        which m (inl h) = inl (inl h)
        which m (inr h) = go (has_append out (outputs.Send x ∷ []) (outputs.Send m) h)
          where
            go : Has (outputs.Send m) out ⊎ Has (outputs.Send m) (outputs.Send x ∷ []) → (Sent M c Known Before Done) out m ⊎ (m ≡ x)
            go (inl i) = inl (inr i)
            go (inr (inl e)) = inr (same m x e)
            go (inr (inr i)) = absurd i

        lives : (m : Message) → (Sent M c Known Before Done) out m ⊎ (m ≡ x) → Between c sv m → m.header.life ≤ life
        lives m (inl h) u = b.numbers.lives m h u
        lives m (inr e) u = let z = ap (λ (y : Message). y.header.life) e in omega (arith, z, l)

        placed : (m : Message) → (Sent M c Known Before Done) out m ⊎ (m ≡ x) → Between c sv m → Placed life w m
        placed m (inl h) u = old m h u
        placed m (inr e) u = subst (Placed life w) (sym e) new

        one : (m p : Message) → (Sent M c Known Before Done) out m ⊎ (m ≡ x) → (Sent M c Known Before Done) out p ⊎ (p ≡ x) → Between c sv m → Between c sv p →
            m.header.life ≡ p.header.life → m.header.epoch ≡ p.header.epoch → m.header.number ≡ p.header.number →
            1 ≤ m.header.number → m.body ≡ p.body
        one m p (inl h) (inl i) u k l e n z = b.numbers.one m p h i u k l e n z
        one m p (inl h) (inr q) u k l e n z =
            let r : m.header.number ≡ x.header.number = n ∙ ap (λ (y : Message). y.header.number) q in
            same_body m h u (l ∙ ap (λ (y : Message). y.header.life) q) (e ∙ ap (λ (y : Message). y.header.epoch) q) r (omega (arith, z, r)) ∙
            sym (ap (λ (y : Message). y.body) q)
        one m p (inr q) (inl i) u k l e n z =
            let r : m.header.number ≡ x.header.number = ap (λ (y : Message). y.header.number) q in
            ap (λ (y : Message). y.body) q ∙
            sym (same_body p i k (sym l ∙ ap (λ (y : Message). y.header.life) q) (sym e ∙ ap (λ (y : Message). y.header.epoch) q) (sym n ∙ r)
            (omega (arith, z, r)))
        one m p (inr q) (inr r) u k l e n z = ap (λ (y : Message). y.body) q ∙ sym (ap (λ (y : Message). y.body) r)

        sends : (m : Message) → Has (outputs.Send m) out ⊎ Has (outputs.Send m) (outputs.Send x ∷ []) → Has (outputs.Send m) out0 ⊎ Between c sv m
        sends m (inl h) = b.sent m h
        sends m (inr (inl e)) = inr (subst (Between c sv) (sym (same m x e)) t)
        sends m (inr (inr i)) = absurd i

        says : (op : ℕ) (a : AppAnswer) → Has (outputs.Answer op a) out ⊎ Has (outputs.Answer op a) (outputs.Send x ∷ []) → (SaidOf M c Known Before Done) op a
        says op a (inl h) = b.said op a h
        says op a (inr (inl e)) = cc e
        says op a (inr (inr i)) = absurd i

    -- a message of a turn
    abbrev message : Turn → ℕ → ℕ → ℕ → Body → Message
    message t epoch number stamp body = record { header = cs.header_of t epoch number stamp; body = body }

    between : (t : Turn) (epoch number stamp : ℕ) (body : Body) → t.id ≡ c → Between c t.here.server (message t epoch number stamp body)
    between t epoch number stamp body e = (ap (λ (y : ClientId). y.0) e, refl)

    -- a message that isn't a request
    pub whole_after_idle : (t : Turn) (epoch stamp : ℕ) (body : Body) → (W M c Known Before Done s B out0) t →
        (W M c Known Before Done s B out0) (cs.send t epoch 0 stamp body)
    unfolding cs.send
    whole_after_idle t epoch stamp body w = (whole_after_say M c Known Before Done s B out0) t _ (between t epoch 0 stamp body w.base.id_, refl, refl) w

    module _ (fresh : (sv : ServerId) (life epoch number op : ℕ) → ((m : Message) → Has m M → Keyed c sv life epoch number m → ⊥) →
        Before sv life epoch number op) where
      -- a new request, if none is outstanding
      whole_after_ask : (t : Turn) (x : ClientSession) (now : Stamp) (body : Body) (cutting : Option ℕ) → x.requests.asked ≡ None →
          (CIn M c Known Before Done s B out0) t x → ((o : Operation) → Has o t.operations → cs.is_asked t.here.server o ≡ true → AsksFor o.ask body) →
          OneWaits t.here.server t.operations → (W M c Known Before Done s B out0) (cp.ask t x now body cutting)
      unfolding cp.ask cs.send cs.asking
      whole_after_ask t x now body cutting e b f alone =
          record {
            base = base_after_sends t.id t.here.server t.here.life.0 (view (Some x)) (view (Some y)) t.operations t.out m
                (between t x.epoch.0 n now.0 body b.id_) refl
                (λ a h u l k. let z = b.numbers.placed a h u l k in
                record
                { up_to = z.up_to; below = λ q. let r = z.below q in omega (arith, r); same = λ q p. let r = z.below q in absurd (omega (arith, r, p)) })
                (λ l k. record { up_to = omega arith; below = λ q. omega arith; same = λ q p. refl })
                (λ a h u l ep q k. let r = (b.numbers.placed a h u l (omega (arith, q, k))).below ep in absurd (omega (arith, r, q))) (
                  m,
                  inr (has_right t.out (outputs.Send m ∷ []) (outputs.Send m) (inl refl)),
                  record { between = between t x.epoch.0 n now.0 body b.id_; of_life = refl; of_epoch = refl; under = refl },
                )
                (let z = b.numbers.counts.0 in (omega arith, (z, omega arith))) b;
            waits = λ o h a. (f o h a, fresh t.here.server t.here.life.0 x.epoch.0 n o.op (λ a h k. none a h k));
            alone = alone;
          }
        where
          n : ℕ
          n = x.requests.next

          y : ClientSession
          y = cp.asking_session x now body cutting

          m : Message
          m = message t x.epoch.0 x.requests.next now.0 body

          none : (a : Message) → Has a M → Keyed c t.here.server t.here.life.0 x.epoch.0 n a → ⊥
          none a h k =
              let z = b.numbers.counts.0 in
              let u = k.under in
              let r = (b.numbers.placed a (inl h) k.between k.of_life (omega (arith, z, u))).below k.of_epoch in
              omega (arith, r, u)

      -- the outstanding request again
      whole_after_again : (t : Turn) (x : ClientSession) (now : Stamp) (q : Request) → x.requests.asked ≡ Some q → (WIn M c Known Before Done s B out0) t x →
          (W M c Known Before Done s B out0) (cp.ask_again t x now q)
      unfolding cp.ask_again cs.send
      whole_after_again t x now q e w =
          record {
            base = base_after_sends t.id t.here.server t.here.life.0 (view (Some x)) (view (Some y)) t.operations t.out m
                (between t x.epoch.0 q.number now.0 q.body w.base.id_) refl
                (λ a h u l k. let z = w.base.numbers.placed a h u l k in
                record { up_to = z.up_to; below = z.below; same = λ p. subst (λ o. SameBody o a) e (z.same p) })
                (λ l k. record { up_to = omega arith; below = λ p. given.1; same = λ p r. refl })
                (λ a h u l ep p k. (subst (λ o. SameBody o a) e ((w.base.numbers.placed a h u l (omega (arith, p, k))).same ep)) p) (
                  m,
                  inr (has_right t.out (outputs.Send m ∷ []) (outputs.Send m) (inl refl)),
                  record { between = between t x.epoch.0 q.number now.0 q.body w.base.id_; of_life = refl; of_epoch = refl; under = refl },
                )
                (w.base.numbers.counts.0, given) w.base;
            waits = λ o h a. subst (λ r. WaitsAt Before t.here.server t.here.life.0 x.epoch.0 r o) e (w.waits o h a);
            alone = w.alone;
          }
        where
          m : Message
          m = message t x.epoch.0 q.number now.0 q.body

          y : ClientSession
          y = cp.again_session x now q

          given : (1 ≤ q.number) × (q.number < x.requests.next)
          given = subst (Given x.requests.next) e w.base.numbers.counts.1

      -- What an operation asks is its own request, if it is sent with it.
      want_is : (t : Turn) (x : ClientSession) (now : Stamp) (a : Ask) (w : cp.Wanted) → cp.want t x now a ≡ Some w → w.own ≡ true → AsksFor a w.body
      unfolding cp.want cp.want_at cp.want_on cp.want_by cp.want_under cp.want_held cp.want_cut cp.want_map cp.want_block cp.want_lock cp.want_name cs.meant
      want_is t x now a w e f = go a e
        where
          -- what asks on behalf of an operation
          lent : (b : Bool) (m : Body) → (if b then None else cp.wanted m) ≡ Some w → ⊥
          lent true m q = cc
          lent false m q = cc (ap (λ (z : cp.Wanted). z.own) (some_is q), f)

          lent_then : (b : Bool) (m : Body) → (if b then cp.wanted m else None) ≡ Some w → ⊥
          lent_then false m q = cc
          lent_then true m q = cc (ap (λ (z : cp.Wanted). z.own) (some_is q), f)

          cut : (b : Bool) (ino : ℕ) (m : Body) (p : PageNo) → (if b then cp.wanted_cut m ino p else None) ≡ Some w → w.body ≡ m
          cut false ino m p q = cc
          cut true ino m p q = sym (ap (λ (z : cp.Wanted). z.body) (some_is q))

          -- a remove of a file does not mean a directory
          means : (k : NameAsk) (ino : ℕ) (g : GrantNo) → cs.file_of_name k ≡ Some ino → MeansNone k g
          means (asked.Remove dir x n) ino g i = λ z. no (n == 0) (eq-eqb n 0 z) i
            where
              no : {A : Type 0} (b : Bool) → b ≡ true → (if b then None else Some n) ≡ Some ino → A
              no true e q = cc
              no false e q = cc e
          means k ino g i = tt

          means_none : (k : NameAsk) → MeansNone k locks.no_grant
          means_none (asked.Remove dir x n) = λ z. refl
          means_none k = tt

          held : (a : Ask) (ino : ℕ) (g : GrantNo) → cs.file_of a ≡ Some ino → cp.want_held t a ino g ≡ Some w → AsksFor a w.body
          held (asks.Read f p) ino g i q = absurd (lent _ _ q)
          held (asks.Write f p bytes) ino g i q = absurd (lent _ _ q)
          held (asks.Patch f p at bytes) ino g i q = absurd (lent _ _ q)
          held (asks.Cut f p) ino g i q = subst (AsksFor (asks.Cut f p)) (sym (cut _ ino _ p q)) (some_is i, refl)
          held (asks.Name sv k) ino g i q = subst (AsksFor (asks.Name sv k)) (sym (cut _ ino _ _ q)) (g, refl, means k ino g i)
          held (asks.Sync f) ino g i q = cc

          under : (a : Ask) (ino : ℕ) (l : HeldLock) → cs.file_of a ≡ Some ino → (b : Bool) →
              (if b then cp.want_held t a ino l.g else cp.want_lock t x now ino (cp.need a)) ≡ Some w → AsksFor a w.body
          under a ino l i true q = held a ino l.g i q
          under a ino l i false q = absurd (lent_then _ _ q)

          by : (a : Ask) (ino : ℕ) (o : Option HeldLock) → cs.file_of a ≡ Some ino → cp.want_by t x now a ino o ≡ Some w → AsksFor a w.body
          by a ino None i q = absurd (lent_then _ _ q)
          by a ino (Some l) i q = under a ino l i _ q

          name : (a : Ask) → cp.want_name a ≡ Some w → AsksFor a w.body
          name (asks.Name sv k) q = subst (AsksFor (asks.Name sv k)) (ap (λ (z : cp.Wanted). z.body) (some_is q)) (locks.no_grant, refl, means_none k)
          name a q = cc q

          at : (a : Ask) (o : Option ℕ) → cs.file_of a ≡ o → cp.want_at t x now a o ≡ Some w → AsksFor a w.body
          at a None i q = name a q
          at a (Some ino) i q = by a ino (locks.lock_of x.locks ino) i q

          go : (a : Ask) → cp.want t x now a ≡ Some w → AsksFor a w.body
          go (asks.Sync f) q = cc
          go a q = at a (cs.file_of a) refl q

      -- The operations once the first of them asks: those before, and that one sent if the request is its own.
      record AskingOk (t : Turn) (os : List Operation) (a : cp.Asking) : Type 0 where
        pub from : (o : Operation) → Has o a.operations →
            (p : Operation) × Has p os × (o.op ≡ p.op) × (o.ask ≡ p.ask) × ((o ≡ p) ⊎ (cs.is_of t.here.server p ≡ true))
        pub own : (o : Operation) → Has o a.operations → cs.is_asked t.here.server o ≡ true → AsksFor o.ask a.wanted.body
        pub alone : OneWaits t.here.server a.operations

      asking_is : (t : Turn) (x : ClientSession) (now : Stamp) (os : List Operation) (a : cp.Asking) → cp.first_asking t x now os ≡ Some a →
          (Free M c Known Before Done) t.here.server os → AskingOk t os a
      unfolding cp.first_asking cp.asks_or cp.asked_by
      asking_is t x now [] a e f = cc
      asking_is t x now (o ∷ os) a e f = go (cp.asked_by t x now o) refl (cp.first_asking t x now os) refl e
          (λ b g. asking_is t x now os b g (λ p h. f p (inr h)))
        where
          later : (b : cp.Asking) → a ≡ record b { operations = o ∷ b.operations } → AskingOk t os b → AskingOk t (o ∷ os) a
          later b e k = subst (AskingOk t (o ∷ os)) (sym e) (record { from = from; own = own; alone = alone })
            where
              alone : OneWaits t.here.server (o ∷ b.operations)
              alone p r (inl q) i g h = absurd (f o (inl refl) (subst (λ r. cs.is_asked t.here.server r ≡ true) q g))
              alone p r (inr j) (inl q) g h = absurd (f o (inl refl) (subst (λ r. cs.is_asked t.here.server r ≡ true) q h))
              alone p r (inr j) (inr i) g h = k.alone p r j i g h

              from : (p : Operation) → Has p (o ∷ b.operations) →
                  (r : Operation) × Has r (o ∷ os) × (p.op ≡ r.op) × (p.ask ≡ r.ask) × ((p ≡ r) ⊎ (cs.is_of t.here.server r ≡ true))
              from p (inl q) = (o, inl refl, ap (λ (z : Operation). z.op) q, ap (λ (z : Operation). z.ask) q, inl q)
              from p (inr h) = let z = k.from p h in (z.0, inr z.1, z.2, z.3, z.4)

              own : (p : Operation) → Has p (o ∷ b.operations) → cs.is_asked t.here.server p ≡ true → AsksFor p.ask b.wanted.body
              own p (inl q) g = absurd (f o (inl refl) (subst (λ r. cs.is_asked t.here.server r ≡ true) q g))
              own p (inr h) g = k.own p h g

          -- this one asks
          here : (w : cp.Wanted) → cp.asked_by t x now o ≡ Some w → a ≡ record { wanted = w; operations = cp.sent_if w.own o ∷ os } → AskingOk t (o ∷ os) a
          here w e1 e2 = subst (AskingOk t (o ∷ os)) (sym e2) (record { from = from; own = own; alone = alone })
            where
              alone : OneWaits t.here.server (cp.sent_if w.own o ∷ os)
              alone p r (inl q) (inl z) g h = ap (λ (y : Operation). y.op) (q ∙ sym z)
              alone p r (inl q) (inr i) g h = absurd (f r (inr i) h)
              alone p r (inr j) i g h = absurd (f p (inr j) g)

              asks_it : (cs.is_of t.here.server o ≡ true) × (cp.want t x now o.ask ≡ Some w)
              asks_it = pick (cp.may_ask t x o) refl e1
                where
                  pick : (b : Bool) → cp.may_ask t x o ≡ b → (if b then cp.want t x now o.ask else None) ≡ Some w →
                      (cs.is_of t.here.server o ≡ true) × (cp.want t x now o.ask ≡ Some w)
                  pick true q r = ((and_true (cs.is_of t.here.server o) _ q).0, r)
                  pick false q r = cc

              op_same : (b : Bool) → (cp.sent_if b o).op ≡ o.op
              op_same true = refl
              op_same false = refl

              ask_same : (b : Bool) → (cp.sent_if b o).ask ≡ o.ask
              ask_same true = refl
              ask_same false = refl

              from : (p : Operation) → Has p (cp.sent_if w.own o ∷ os) →
                  (r : Operation) × Has r (o ∷ os) × (p.op ≡ r.op) × (p.ask ≡ r.ask) × ((p ≡ r) ⊎ (cs.is_of t.here.server r ≡ true))
              from p (inl q) = (o, inl refl, ap (λ (z : Operation). z.op) q ∙ op_same w.own, ap (λ (z : Operation). z.ask) q ∙ ask_same w.own, inr asks_it.0)
              from p (inr h) = (p, inr h, refl, refl, inl refl)

              sent : (b : Bool) → w.own ≡ b → cs.is_asked t.here.server (cp.sent_if b o) ≡ true → AsksFor o.ask w.body
              sent true q g = want_is t x now o.ask w asks_it.1 q
              sent false q g = absurd (f o (inl refl) g)

              own : (p : Operation) → Has p (cp.sent_if w.own o ∷ os) → cs.is_asked t.here.server p ≡ true → AsksFor p.ask w.body
              own p (inl q) g = subst (λ y. AsksFor y w.body) (sym (ap (λ (z : Operation). z.ask) q ∙ ask_same w.own))
                  (sent w.own refl (subst (λ r. cs.is_asked t.here.server r ≡ true) q g))
              own p (inr h) g = absurd (f p (inr h) g)

          go : (r : Option cp.Wanted) → cp.asked_by t x now o ≡ r → (l : Option cp.Asking) → cp.first_asking t x now os ≡ l → cp.asks_or o os l r ≡ Some a →
              ((b : cp.Asking) → cp.first_asking t x now os ≡ Some b → AskingOk t os b) → AskingOk t (o ∷ os) a
          go None e1 None e2 q k = cc
          go None e1 (Some b) e2 q k = later b (sym (some_is q)) (k b e2)
          go (Some w) e1 l e2 q k = here w e1 (sym (some_is q))

      -- with none outstanding nobody waits
      none_waits : (t : Turn) (x : ClientSession) → x.requests.asked ≡ None → (WIn M c Known Before Done s B out0) t x →
          (Free M c Known Before Done) t.here.server t.operations
      none_waits t x e w = (is_free M c Known Before Done s B out0) t.here.server t.here.life.0 x.epoch.0 x.requests.asked t.operations e w.waits

      whole_after_plain_ask : (t : Turn) (x : ClientSession) (now : Stamp) (body : Body) → x.requests.asked ≡ None → (WIn M c Known Before Done s B out0) t x →
          (W M c Known Before Done s B out0) (cp.ask t x now body None)
      whole_after_plain_ask t x now body e w = whole_after_ask t x now body None e w.base (λ o h a. absurd (none_waits t x e w o h a))
          (λ o p h i a g. absurd (none_waits t x e w o h a))

      whole_after_keep_alive : (t : Turn) (x : ClientSession) (now : Stamp) → x.requests.asked ≡ None → (WIn M c Known Before Done s B out0) t x →
          (W M c Known Before Done s B out0) t → (W M c Known Before Done s B out0) (cp.keep_alive t x now)
      unfolding cp.keep_alive
      whole_after_keep_alive t x now e w y = if_both (W M c Known Before Done s B out0) _ _ t (whole_after_plain_ask t x now _ e w) y

      whole_after_ask_for : (t : Turn) (x : ClientSession) (now : Stamp) (a : cp.Asking) → cp.first_asking t x now t.operations ≡ Some a →
          x.requests.asked ≡ None → (WIn M c Known Before Done s B out0) t x → (W M c Known Before Done s B out0) (cp.ask_for t x now a)
      unfolding cp.ask_for
      whole_after_ask_for t x now a f e w = whole_after_ask (with_store (cp.cut_store a.wanted.cut t.here.store) (with_operations a.operations t)) x now
          a.wanted.body (cp.file_cut a.wanted.cut) e base k.own k.alone
        where
          k : AskingOk t t.operations a
          k = asking_is t x now t.operations a f (none_waits t x e w)

          base : (Base M c Known Before Done) s B out0 t.id t.here.server t.here.life.0 (view (Some x)) a.operations t.out
          base =
              record {
                id_ = w.base.id_;
                server = w.base.server;
                asked = λ o h. let z = k.from o h in subst (λ n. Known n o.ask) (sym z.2) (subst (λ y. Known z.0.op y) (sym z.3) (w.base.asked z.0 z.1));
                others = λ o h g. others o (k.from o h) g;
                numbers = w.base.numbers;
                sent = w.base.sent;
                kept = w.base.kept;
                said = w.base.said;
              }
            where
              clash : {b : Bool} → b ≡ true → b ≡ false → ⊥
              clash x y = cc

              others : (o : Operation) → (p : Operation) × Has p t.operations × (o.op ≡ p.op) × (o.ask ≡ p.ask) ×
                  ((o ≡ p) ⊎ (cs.is_of t.here.server p ≡ true)) → cs.is_of t.here.server o ≡ false → Has o B
              others o (p, h, a, b, inl q) g = subst (λ y. Has y B) (sym q) (w.base.others p h (subst (λ y. cs.is_of t.here.server y ≡ false) q g))
              others o (p, h, a, b, inr q) g = absurd (clash q (ap (λ y. (server_of y).0 == t.here.server.0) (sym b) ∙ g))

      whole_after_ask_next : (t : Turn) (x : ClientSession) (now : Stamp) → x.requests.asked ≡ None → (WIn M c Known Before Done s B out0) t x →
          (W M c Known Before Done s B out0) t → (W M c Known Before Done s B out0) (cp.ask_next t x now)
      unfolding cp.ask_next cp.ask_for_or
      whole_after_ask_next t x now e w y = if_both (W M c Known Before Done s B out0) (cs.is_serving t.config x now) _ _
          (go (cp.first_asking t x now t.operations) refl) (whole_after_keep_alive t x now e w y)
        where
          go : (o : Option cp.Asking) → cp.first_asking t x now t.operations ≡ o → (W M c Known Before Done s B out0) (cp.ask_for_or t x now o)
          go None f = whole_after_keep_alive t x now e w y
          go (Some a) f = whole_after_ask_for t x now a f e w

      whole_after_ask_by : (t : Turn) (x : ClientSession) (now : Stamp) (rs : List Release) → x.requests.asked ≡ None →
          (WIn M c Known Before Done s B out0) t x → (W M c Known Before Done s B out0) t → (W M c Known Before Done s B out0) (cp.ask_by t x now rs)
      unfolding cp.ask_by cp.ask_release
      whole_after_ask_by t x now [] e w y = whole_after_ask_next t x now e w y
      whole_after_ask_by t x now (r ∷ rs) e w y = whole_after_plain_ask t (record x { releases = rs }) now _ e w

      whole_after_requests_at : (t : Turn) (x : ClientSession) (now : Stamp) (tick : Bool) (o : Option Request) → x.requests.asked ≡ o →
          (WIn M c Known Before Done s B out0) t x → (W M c Known Before Done s B out0) t → (W M c Known Before Done s B out0) (cp.requests_at t x now tick o)
      unfolding cp.requests_at cp.ask_new cp.reassert cp.repeat
      whole_after_requests_at t x now tick None e w y =
          if_both (W M c Known Before Done s B out0) x.due _ _ (whole_after_plain_ask t x now _ e w) (whole_after_ask_by t x now x.releases e w y)
      whole_after_requests_at t x now tick (Some q) e w y = if_both (W M c Known Before Done s B out0) _ _ t (whole_after_again t x now q e w) y

      pub whole_after_requests : (now : Stamp) (tick : Bool) (t : Turn) → (W M c Known Before Done s B out0) t →
          (W M c Known Before Done s B out0) (cp.requests now tick t)
      unfolding cp.requests cp.requests_by cp.requests_under
      whole_after_requests now tick t w = go t.here.session refl
        where
          go : (o : Option ClientSession) → t.here.session ≡ o → (W M c Known Before Done s B out0) (cp.requests_by t now tick o)
          go None e = w
          go (Some x) e = if_both (W M c Known Before Done s B out0) x.lease.condemned t _ w
              (whole_after_requests_at t x now tick x.requests.asked refl ((into M c Known Before Done s B out0) t x e w) w)
