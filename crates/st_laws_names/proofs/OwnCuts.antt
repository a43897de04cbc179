-- Each event that cut a file has an operation whose request it served, and no refusal answers that.
use Rattle.st_lemmas.proofs.Words
use Words.{◌≡◌, ◌⊎◌, ℕ, Bool, true, false, not, ◌&&◌, ◌||◌, ◌==◌, List, [], ◌∷◌, ◌++◌, Some, refl, sym, ap, ◌∙◌, subst, inl, inr, arith, list_all, list_any}
use Words.{eqb-true, eq-eqb, ClientId, FileId, PageNo, ServerId, AppAnswer, Ask, Body, Message, Why, Observation, SentMessage}
use Words.names
use Words.asks
use Words.events
use Words.bodies
use Words.replies
use Words.why
use Words.seen
use Words.ClientState.{asks_cut_or_name, reasserts}
use Words.Keys.{client, server_node}
use Words.Safety.{Step}
use Words.World.{World, node_of, numbered}
use Words.Lists.{Has}
use Words.Lookups.{or_right, some_is}
use Words.Tables.{all_pass, and_both, and_true}
use Rattle.st_laws_leases.specs.Dates.Dates.{messages}
use Rattle.st_laws_requests.specs.Cuts.Cuts.{Keyed, asks_of}
use Rattle.st_laws_requests.specs.Replies.ServedRequests.{KeptWhy}
use Rattle.st_laws_requests.proofs.Cuts.Keeping.{Answers}
use Rattle.st_promises.specs.CutAsks.{asks_cut, has_alone_at, is_uncertain, settles_in}
use Rattle.st_laws_names.specs.OutstandingKeys.{SameKey}
use Rattle.st_laws_names.specs.Keys.{HasEvent, RepliesHaveEvents, ServedAt, ServedOnce, is_final, is_kept_why}
use Rattle.st_promises.specs.Refusals.{cuts_in, is_done_answer, is_not_refused, is_not_refused_in, is_own_line}
use Rattle.st_laws_names.proofs.Frames.{IsKeptRefusal}
use Rattle.st_laws_names.proofs.Keys.{keyed_same, key_back}
use Rattle.st_laws_names.proofs.World.{Asked, Received, RepliesUnder, TellsOrRefuses}

-- An operation owns the event of a step: the server served its request then, and replied so.
pub record Owns (past : List Step) (w : World) (y : Step) (c : ClientId) (op : ℕ) : Type 0 where
  pub server : ServerId
  pub life_ : ℕ
  pub epoch_ : ℕ
  pub number_ : ℕ
  pub reply : Body
  pub served : ServedAt y c server life_ epoch_ number_ reply
  pub waited : Asked past w c op
  pub same : SameKey waited.server server waited.life_ waited.epoch_ waited.number_ life_ epoch_ number_

-- the reply to an ask whose cut was done
abbrev pub DoneBy : Ask → Body → Type 0
DoneBy (asks.Cut f p) bodies.Ack = Unit {0}
DoneBy (asks.Name s (names.Remove dir name ino)) (bodies.Named (replies.Ino n)) = n ≡ ino
DoneBy ask reply = ⊥

-- An event that cut a file, and the operation that owns it.
pub record CutOwner (all : List Step) (w : World) (past : List Step) (y : Step) : Type 0 where
  pub c : ClientId
  pub op : ℕ
  pub ask : Ask
  pub owns : Owns all w y c op
  pub own : asks_cut_or_name owns.served.sent.message.body ≡ true
  pub asked : numbered (asks_of past c) op ≡ Some ask
  pub lines : (index : ℕ) (f : FileId) (p : PageNo) → Has (seen.CutAt index f p) y.seen → (asks_cut f p ask ≡ true) × (has_alone_at c f.ino (node_of y.before.world f.server) ≡ true)
  pub unsettled : list_any (settles_in c op) past ≡ false
  pub done : DoneBy ask owns.reply
  pub first : (z : Step) → Has z past → (d : ClientId) (s : ServerId) (life epoch number : ℕ) (r q : Body) → ServedAt z d s life epoch number r → ServedAt y d s life epoch number q → ⊥

-- of each of these events that cut a file
abbrev pub AllOwned : List Step → World → List Step → List Step → Type 0
AllOwned all w past [] = Unit {0}
AllOwned all w past (y ∷ ys) = (cuts_in y ≡ true → CutOwner all w past y) × AllOwned all w (past ++ y ∷ []) ys

-- What waited before an event waited in the worlds up to it.
pub record Grows (past : List Step) (w : World) (all : List Step) (v : World) : Type 0 where
  pub asked : (c : ClientId) (op : ℕ) → Asked past w c op → Asked all v c op
  pub same : (c : ClientId) (op : ℕ) (k : Asked past w c op) → SameKey (asked c op k).server k.server (asked c op k).life_ (asked c op k).epoch_ (asked c op k).number_ k.life_ k.epoch_ k.number_

pub key_then : (s u v : ServerId) (l1 e1 n1 l2 e2 n2 l3 e3 n3 : ℕ) → SameKey s u l1 e1 n1 l2 e2 n2 → SameKey u v l2 e2 n2 l3 e3 n3 → SameKey s v l1 e1 n1 l3 e3 n3
key_then s u v l1 e1 n1 l2 e2 n2 l3 e3 n3 a b = record { server = a.server ∙ b.server; life_ = a.life_ ∙ b.life_; epoch_ = a.epoch_ ∙ b.epoch_; number_ = a.number_ ∙ b.number_ }

pub owns_grow : (past : List Step) (w : World) (all : List Step) (v : World) → Grows past w all v → (y : Step) (c : ClientId) (op : ℕ) → Owns past w y c op → Owns all v y c op
owns_grow past w all v g y c op o =
    record {
      server = o.server;
      life_ = o.life_;
      epoch_ = o.epoch_;
      number_ = o.number_;
      reply = o.reply;
      served = o.served;
      waited = g.asked c op o.waited;
      same = let k = g.asked c op o.waited in key_then k.server o.waited.server o.server k.life_ k.epoch_ k.number_ o.waited.life_ o.waited.epoch_ o.waited.number_ o.life_ o.epoch_ o.number_ (g.same c op o.waited) o.same;
    }

owner_grow : (past : List Step) (w : World) (all : List Step) (v : World) → Grows past w all v → (before : List Step) (y : Step) → CutOwner past w before y → CutOwner all v before y
unfolding owns_grow
owner_grow past w all v g before y z =
    record { c = z.c; op = z.op; ask = z.ask; owns = owns_grow past w all v g y z.c z.op z.owns; own = z.own; asked = z.asked; lines = z.lines; unsettled = z.unsettled; done = z.done; first = z.first }

pub all_grow : (past : List Step) (w : World) (all : List Step) (v : World) → Grows past w all v → (before ys : List Step) → AllOwned past w before ys → AllOwned all v before ys
all_grow past w all v g before [] a = tt
all_grow past w all v g before (y ∷ ys) a = (λ q. owner_grow past w all v g before y (a.0 q), all_grow past w all v g (before ++ y ∷ []) ys a.1)

pub all_more : (all : List Step) (w : World) (x : Step) (before ys : List Step) → AllOwned all w before ys → (cuts_in x ≡ true → CutOwner all w (before ++ ys) x) → AllOwned all w before (ys ++ x ∷ [])
all_more all w x before [] a f = (λ q. subst (λ past. CutOwner all w past x) (append_none before) (f q), tt)
  where
    append_none : (xs : List Step) → xs ++ [] ≡ xs
    append_none [] = refl
    append_none (z ∷ xs) = ap (λ ys. z ∷ ys) (append_none xs)
all_more all w x before (y ∷ ys) a f = (a.0, all_more all w x (before ++ y ∷ []) ys a.1 (λ q. subst (λ past. CutOwner all w past x) (sym (assoc before)) (f q)))
  where
    assoc : (xs : List Step) → (xs ++ y ∷ []) ++ ys ≡ xs ++ y ∷ ys
    assoc [] = refl
    assoc (z ∷ xs) = ap (λ ys. z ∷ ys) (assoc xs)

-- What holds of keys, and of what was answered.
pub record Known (past : List Step) (w : World) : Type 0 where
  pub bodies_ : (c : ClientId) (op : ℕ) (k : Asked past w c op) (m p : Message) → Has m (messages w) → Has p (messages w) → Keyed c k.server k.life_ k.epoch_ k.number_ m → Keyed c k.server k.life_ k.epoch_ k.number_ p → m.body ≡ p.body
  pub events_ : RepliesHaveEvents past w
  pub once : ServedOnce past
  pub answered : (c : ClientId) (op : ℕ) (k : Asked past w c op) (z : Step) → Has z past → (a : AppAnswer) → Has (seen.Answered c op a) z.seen → (is_uncertain a ≡ true) ⊎ Received (TellsOrRefuses a) past w c op k

-- a request to cut or for a name isn't a reassertion
pub no_reassertion : (b : Body) → asks_cut_or_name b ≡ true → reasserts b ≡ true → ⊥
no_reassertion (bodies.Cut ino g p) e f = cc f
no_reassertion (bodies.Name op) e f = cc f
no_reassertion b e f = cc e

-- a refusal that is kept is final
pub kept_final : (b : Body) → IsKeptRefusal b → is_final b ≡ true
kept_final (bodies.Nack w a b) k = go w k
  where
    go : (w : Why) → KeptWhy w → is_kept_why w ≡ true
    go why.Suspect k = absurd k
    go why.NoSession k = absurd k
    go why.OtherEpoch k = absurd k
    go why.Grace k = absurd k
    go why.GraceOver k = absurd k
    go why.Conflict k = absurd k
    go w k = refl
kept_final b k = absurd k

pub answers_final : (b : Body) (a : AppAnswer) → Answers b a → is_final b ≡ true
answers_final bodies.Ack a k = refl
answers_final (bodies.Named r) a k = refl
answers_final b a k = absurd k

module _ (past : List Step) (w : World) (d : Known past w) where
  -- A final reply under the key of an operation is what was replied when its request was served.
  one_reply : (y : Step) → Has y past → (c : ClientId) (op : ℕ) (o : Owns past w y c op) → Has o.served.sent.message (messages w) → asks_cut_or_name o.served.sent.message.body ≡ true →
      (m : Message) → Has m (messages w) → RepliesUnder past w c op o.waited m → is_final m.body ≡ true → o.reply ≡ m.body
  one_reply y i c op o sent own m j to final = go here
    where
      -- the event of the reply, under the key of the request
      here : HasEvent past w c o.server o.life_ o.epoch_ o.number_ m.body
      here = subst (λ n. HasEvent past w (record { 0 = n }) o.server o.life_ o.epoch_ o.number_ m.body) to.to
          (subst (λ l. HasEvent past w (client m.header.to) o.server l o.epoch_ o.number_ m.body) (to.of_life ∙ o.same.life_)
          (subst (λ x. HasEvent past w (client m.header.to) o.server m.header.life x o.number_ m.body) (to.of_epoch ∙ o.same.epoch_)
          (subst (λ n. HasEvent past w (client m.header.to) o.server m.header.life m.header.epoch n m.body) (to.under ∙ o.same.number_)
          (d.events_ m j o.server (to.from ∙ ap server_node o.same.server) final))))

      back : (p : Message) → Keyed c o.server o.life_ o.epoch_ o.number_ p → Keyed c o.waited.server o.waited.life_ o.waited.epoch_ o.waited.number_ p
      back p k = keyed_same c o.server o.waited.server o.life_ o.epoch_ o.number_ o.waited.life_ o.waited.epoch_ o.waited.number_ p (key_back o.waited.server o.server o.waited.life_ o.waited.epoch_ o.waited.number_ o.life_ o.epoch_ o.number_ o.same) k

      go : HasEvent past w c o.server o.life_ o.epoch_ o.number_ m.body → o.reply ≡ m.body
      go (inl q) = d.once y q.0 i q.1 c o.server o.life_ o.epoch_ o.number_ o.reply m.body o.served q.2
      go (inr q) = absurd (no_reassertion o.served.sent.message.body own (subst (λ b. reasserts b ≡ true) (sym (d.bodies_ c op o.waited o.served.sent.message q.by sent q.among (back o.served.sent.message o.served.serves.keyed) (back q.by q.keyed))) q.asks))

  -- What is answered to an owner of a cut is that this was done, or uncertain.
  module _ (before : List Step) (y : Step) (i : Has y past) (o : CutOwner past w before y) (sent : Has o.owns.served.sent.message (messages w)) where
    done_answer : (ask : Ask) (r : Body) (a : AppAnswer) → DoneBy ask r → TellsOrRefuses a r → is_done_answer ask a ≡ true
    done_answer (asks.Cut f p) bodies.Ack a k (inl e) = subst (λ a. is_done_answer (asks.Cut f p) a ≡ true) (sym e) refl
    done_answer (asks.Name s (names.Remove dir x ino)) (bodies.Named (replies.Ino n)) a k (inl e) = subst (λ a. is_done_answer (asks.Name s (names.Remove dir x ino)) a ≡ true) (sym e) (eq-eqb n ino k)
    done_answer (asks.Cut f p) bodies.Ack a k (inr e) = absurd e
    done_answer (asks.Name s (names.Remove dir x ino)) (bodies.Named (replies.Ino n)) a k (inr e) = absurd e
    done_answer ask r a k e = absurd k

    received : (a : AppAnswer) → Received (TellsOrRefuses a) past w o.c o.op o.owns.waited → is_done_answer o.ask a ≡ true
    received a z = done_answer o.ask o.owns.reply a o.done (subst (TellsOrRefuses a) (sym same) z.says)
      where
        final : TellsOrRefuses a z.message.body → is_final z.message.body ≡ true
        final (inl k) = answers_final z.message.body a k
        final (inr k) = kept_final z.message.body k

        same : o.owns.reply ≡ z.message.body
        same = one_reply y i o.c o.op o.owns sent o.own z.message z.among z.replies (final z.says)

    answer_is : (z : Step) → Has z past → (a : AppAnswer) → Has (seen.Answered o.c o.op a) z.seen → (is_uncertain a || is_done_answer o.ask a) ≡ true
    answer_is z j a k = go (d.answered o.c o.op o.owns.waited z j a k)
      where
        go : (is_uncertain a ≡ true) ⊎ Received (TellsOrRefuses a) past w o.c o.op o.owns.waited → (is_uncertain a || is_done_answer o.ask a) ≡ true
        go (inl e) = ap (λ b. b || is_done_answer o.ask a) e
        go (inr h) = or_right (is_uncertain a) _ (received a h)

    not_refused : (z : Step) → Has z past → (x : Observation) → Has x z.seen → is_not_refused o.ask o.c o.op x ≡ true
    not_refused z j (seen.Answered e n a) k = go ((e.0 == o.c.0) && (n == o.op)) refl
      where
        go : (b : Bool) → ((e.0 == o.c.0) && (n == o.op)) ≡ b → (not b || (is_uncertain a || is_done_answer o.ask a)) ≡ true
        go false q = refl
        go true q =
            let z2 = and_true (e.0 == o.c.0) (n == o.op) q in
            answer_is z j a (subst (λ m. Has (seen.Answered o.c m a) z.seen) (eqb-true n o.op z2.1) (subst (λ (c : ClientId). Has (seen.Answered c n a) z.seen) (ap (λ m. record { 0 = m }) (eqb-true e.0 o.c.0 z2.0)) k))
    not_refused z j x k = refl

    pub never_refused : list_all (is_not_refused_in o.ask o.c o.op) past ≡ true
    never_refused = all_pass (is_not_refused_in o.ask o.c o.op) past (λ z j. all_pass (is_not_refused o.ask o.c o.op) z.seen (λ x k. not_refused z j x k))

    own_line : (x : Observation) → Has x y.seen → is_own_line y.before.world o.c o.ask x ≡ true
    own_line (seen.CutAt index f p) k = let z = o.lines index f p k in and_both _ _ z.0 z.1
    own_line x k = refl

    pub own_lines : list_all (is_own_line y.before.world o.c o.ask) y.seen ≡ true
    own_lines = all_pass (is_own_line y.before.world o.c o.ask) y.seen (λ x k. own_line x k)

-- Two owners of one event belong to one client, and their requests are under one key.
pub same_event : (y : Step) (c d : ClientId) (s u : ServerId) (l1 e1 n1 l2 e2 n2 : ℕ) (r q : Body) → ServedAt y c s l1 e1 n1 r → ServedAt y d u l2 e2 n2 q → (c ≡ d) × SameKey s u l1 e1 n1 l2 e2 n2
same_event y c d s u l1 e1 n1 l2 e2 n2 r q a b = (ap (λ n. record { 0 = n }) (sym a.serves.keyed.between.0 ∙ ap (λ (m : SentMessage). m.message.header.from) sent ∙ b.serves.keyed.between.0), record { server = servers; life_ = sym a.serves.keyed.of_life ∙ ap (λ (m : SentMessage). m.message.header.life) sent ∙ b.serves.keyed.of_life; epoch_ = sym a.serves.keyed.of_epoch ∙ ap (λ (m : SentMessage). m.message.header.epoch) sent ∙ b.serves.keyed.of_epoch; number_ = sym a.serves.keyed.under ∙ ap (λ (m : SentMessage). m.message.header.number) sent ∙ b.serves.keyed.under })
  where
    its : (i j : ℕ) → events.Deliver i ≡ events.Deliver j → i ≡ j
    its i j e = cc e

    index : a.index ≡ b.index
    index = its a.index b.index (sym a.delivers ∙ b.delivers)

    sent : a.sent ≡ b.sent
    sent = some_is (sym a.is ∙ ap (λ i. Rattle.st_rules.specs.World.message_of y.before.world i) index ∙ b.is)

    nodes : server_node s ≡ server_node u
    nodes = sym a.serves.keyed.between.1 ∙ ap (λ (m : SentMessage). m.message.header.to) sent ∙ b.serves.keyed.between.1

    servers : s ≡ u
    servers = ap (λ n. record { 0 = n }) (omega (arith, nodes))
