-- Asks own changes: from what holds of keys, of requests and of replies at a step.
use Rattle.st_lemmas.proofs.Words
use Words.{◌≡◌, ◌⊎◌, ℕ, Bool, true, false, not, ◌||◌, List, [], ◌∷◌, ◌++◌, Some, refl, sym, ap, ◌∙◌, subst, inl, inr, list_any, eq-eqb, ClientId}
use Words.{GrantNo, ServerId, NameAsk, AppAnswer, Ask, Body, Message, NameReply, SentMessage}
use Words.answers
use Words.asks
use Words.events
use Words.bodies
use Words.replies
use Words.seen
use Words.ClientPasses.{name_op}
use Words.ClientReplies.{name_answer}
use Words.ClientState.{reasserts}
use Words.Keys.{client}
use Words.Safety.{Step, answers_in, is_after_ask, is_answer_to}
use Words.Server.{ServerNode}
use Words.World.{World, all_clients, message_of, node_of, numbered}
use Words.ClientState as cs
use Words.Lists.{Has}
use Words.Lookups.{or_right, some_is}
use Words.Numbers.{numbered_has}
use Words.Tables.{and_both, has_append, has_map_in, some_passes}
use Words.Members.{has_left, has_right}
use Words.Truth.{clash}
use Rattle.st_promises.specs.CutAsks.{is_uncertain, settles_in}
use Rattle.st_promises.specs.NameAnswers.{becomes_at, changes_at, changes_in, is_of_names, is_saying, leaves, said, same_answer, same_names}
use Rattle.st_promises.specs.NameAnswers.{says, says_at, says_in}
use Rattle.st_promises.specs.NamesOnce.{is_change_of}
use Rattle.st_laws_leases.specs.Dates.Dates.{message_in, messages}
use Rattle.st_laws_requests.specs.Cuts.Cuts.{AsksFor, Keyed, MeansNone, asks_of, does}
use Rattle.st_laws_requests.proofs.Cuts.Keeping.{Answers}
use Rattle.st_laws_requests.proofs.Cuts.Names.{names_same, says_it, rows_same}
use Rattle.st_laws_names.specs.Keys.{HasEvent, NamesDid, RepliesHaveEvents, RepliesTo, ServedAt, is_final, is_kept_why}
use Rattle.st_laws_names.proofs.World.{Asked, Worlds}
use Rattle.st_laws_names.proofs.Rows.{Known}
use Rattle.st_laws_names.proofs.Keys.{IsRequested, IsTold, OneOperations}
use Rattle.st_laws_names.specs.OutstandingKeys.{SameKey, WaitsUnder}
use Rattle.st_laws_names.specs.Owners.{AsksOwnChanges, Owner, Owns}
use Rattle.st_laws_names.proofs.NamedInodes.{named_changes}

-- A change, and the ask by whose request it was made.
pub record Changed (past : List Step) (x : Step) (s : ServerId) : Type 0 where
  pub c : ClientId
  pub op : ℕ
  pub ask : NameAsk
  pub life_ : ℕ
  pub epoch_ : ℕ
  pub number_ : ℕ
  pub reply : Body
  pub served : ServedAt x c s life_ epoch_ number_ reply
  pub asked : numbered (asks_of past c) op ≡ Some (asks.Name s ask)
  pub means : AsksFor (asks.Name s ask) served.sent.message.body
  pub k : Asked past x.before.world c op
  pub same : SameKey k.server s k.life_ k.epoch_ k.number_ life_ epoch_ number_
  pub after : is_after_ask c op x ≡ true
  pub unsettled : list_any (settles_in c op) past ≡ false

-- a refusal that is kept
abbrev pub is_kept_refusal : Body → Bool
is_kept_refusal (bodies.Nack w a b) = is_kept_why w
is_kept_refusal b = false

-- an answer to what asked before tells a final reply under its key: `uncertain` by itself does not
pub record Received (past : List Step) (w : World) (c : ClientId) (op : ℕ) (a : AppAnswer) (k : Asked past w c op) : Type 0 where
  pub message : Message
  pub among : Has message (messages w)
  pub replies : RepliesTo c k.server k.life_ k.epoch_ k.number_ message
  pub says : Answers message.body a ⊎ (is_kept_refusal message.body ≡ true)

-- What holds at a step.
pub record Facts (past : List Step) (x : Step) : Type 0 where
  pub change : (s : ServerId) → changes_in s x ≡ true → Changed past x s
  pub one : OneOperations (past ++ x ∷ []) x.after.world
  pub keys : (c : ClientId) (op : ℕ) (a b : Asked (past ++ x ∷ []) x.after.world c op) → SameKey a.server b.server a.life_ a.epoch_ a.number_ b.life_ b.epoch_ b.number_
  pub requested : (c : ClientId) (op : ℕ) (k : Asked (past ++ x ∷ []) x.after.world c op) → IsRequested (past ++ x ∷ []) x.after.world c op k.server k.life_ k.epoch_ k.number_
  pub one_body : (c : ClientId) (op : ℕ) (k : Asked (past ++ x ∷ []) x.after.world c op) (m p : Message) → Has m (messages x.after.world) → Has p (messages x.after.world) → Keyed c k.server k.life_ k.epoch_ k.number_ m → Keyed c k.server k.life_ k.epoch_ k.number_ p → m.body ≡ p.body
  pub told : (c : ClientId) (op : ℕ) (a : AppAnswer) → Has (seen.Answered c op a) x.seen → is_of_names a ≡ true → IsTold past x.before.world c op a
  pub received : (c : ClientId) (op : ℕ) (a : AppAnswer) → Has (seen.Answered c op a) x.seen → (k : Asked past x.before.world c op) → (is_uncertain a ≡ true) ⊎ Received past x.before.world c op a k
  pub events_ : RepliesHaveEvents past x.before.world
  pub one_event : (y z : Step) → Has y (past ++ x ∷ []) → Has z (past ++ x ∷ []) → (c : ClientId) (s : ServerId) (life epoch number : ℕ) (r q : Body) → ServedAt y c s life epoch number r → ServedAt z c s life epoch number q → y ≡ z
  pub once : (y : Step) → Has y past → (c : ClientId) (s : ServerId) (life epoch number : ℕ) (r q : Body) → ServedAt y c s life epoch number r → ServedAt x c s life epoch number q → ⊥
  pub known : Known past x.before.world
  pub unsaid : (c : ClientId) (op : ℕ) (s : ServerId) (life epoch number : ℕ) → WaitsUnder x.after.world c s life epoch number op → list_any (answers_in c op) (past ++ x ∷ []) ≡ false
  pub grown : (y : Step) → Has y (past ++ x ∷ []) → (m : Message) → Has m (messages y.before.world) → Has m (messages x.after.world)
  pub there : (c : ClientId) (op : ℕ) → Asked (past ++ x ∷ []) x.after.world c op → Has c (all_clients x.after.world)

-- Small facts.

told_same : (r : NameReply) → same_answer (name_answer r) (name_answer r) ≡ true
told_same (replies.Ino ino) = eq-eqb ino ino refl
told_same (replies.Listed rows) = rows_same rows
told_same (replies.Refused code) = eq-eqb code code refl

-- What was said at an event.

-- in the event of a step, the names of a server did what a request of an ask asks, and a reply said this
record SaidAt (y : Step) (s : ServerId) (ask : NameAsk) (reply : NameReply) : Type 0 where
  pub old : ServerNode
  pub was : node_of y.before.world s ≡ Some old
  pub new : ServerNode
  pub became : node_of y.after.world s ≡ Some new
  pub g : GrantNo
  pub none : MeansNone ask g
  pub did : does old.state.stable.names (name_op ask g) ≡ said new.state.stable.names (name_answer reply)

-- if a request of an ask was served with a reply of names
said_of : (y : Step) (c : ClientId) (s : ServerId) (life epoch number : ℕ) (r : Body) (z : ServedAt y c s life epoch number r) (ask : NameAsk) → AsksFor (asks.Name s ask) z.sent.message.body → (reply : NameReply) → r ≡ bodies.Named reply → SaidAt y s ask reply
said_of y c s life epoch number r z ask a reply e = go z.sent.message.body a z.serves.did
  where
    go : (b : Body) → AsksFor (asks.Name s ask) b → NamesDid z.serves.old.state.stable.names z.serves.new.state.stable.names b r → SaidAt y s ask reply
    go (bodies.Name op) k d =
        record {
          old = z.serves.old;
          was = z.serves.was;
          new = z.serves.new;
          became = z.serves.became;
          g = k.0;
          none = k.2;
          did = ap (does z.serves.old.state.stable.names) (sym k.1) ∙ subst (NamesDid z.serves.old.state.stable.names z.serves.new.state.stable.names (bodies.Name op)) e d;
        }
    go b k d = absurd k

-- names that are the same did not change
differ : (y : Step) (s : ServerId) (old new : ServerNode) → node_of y.before.world s ≡ Some old → node_of y.after.world s ≡ Some new → changes_in s y ≡ true → new.state.stable.names ≡ old.state.stable.names → ⊥
differ y s old new was became f e =
    clash (subst (λ o. changes_at (Some old) o ≡ true) became (subst (λ o. changes_at o (node_of y.after.world s) ≡ true) was f))
    (ap not (subst (λ n. same_names old.state.stable.names n ≡ true) (sym e) (names_same old.state.stable.names)))

-- a change was replied to with a reply of names
named_reply : (y : Step) (c : ClientId) (s : ServerId) (life epoch number : ℕ) (r : Body) (z : ServedAt y c s life epoch number r) (ask : NameAsk) → AsksFor (asks.Name s ask) z.sent.message.body → changes_in s y ≡ true → (reply : NameReply) × (r ≡ bodies.Named reply)
named_reply y c s life epoch number r z ask a f = go z.sent.message.body r refl a z.serves.did
  where
    same : z.serves.new.state.stable.names ≡ z.serves.old.state.stable.names → ⊥
    same e = differ y s z.serves.old z.serves.new z.serves.was z.serves.became f e

    go : (b q : Body) → r ≡ q → AsksFor (asks.Name s ask) b → NamesDid z.serves.old.state.stable.names z.serves.new.state.stable.names b q → (reply : NameReply) × (r ≡ bodies.Named reply)
    go (bodies.Name op) (bodies.Named reply) e k d = (reply, e)
    go (bodies.Name op) q e k d = absurd (same d)
    go b q e k d = absurd k

-- what a reply said then is what names said
says_so : (y : Step) (s : ServerId) (ask : NameAsk) (reply : NameReply) → SaidAt y s ask reply → says_in s ask (name_answer reply) y ≡ true
says_so y s ask reply z = subst (λ o. says_at ask (name_answer reply) o (node_of y.after.world s) ≡ true) (sym z.was) (subst (λ o. says_at ask (name_answer reply) (Some z.old) o ≡ true) (sym z.became) one)
  where
    one : list_any (is_saying z.new.state.stable.names (name_answer reply)) (says z.old.state.stable.names ask) ≡ true
    one = some_passes (is_saying z.new.state.stable.names (name_answer reply)) (says z.old.state.stable.names ask) (said z.new.state.stable.names (name_answer reply))
        (subst (λ w. Has w (says z.old.state.stable.names ask)) z.did (says_it z.old.state.stable.names ask z.g z.none)) (and_both _ _ (names_same z.new.state.stable.names) (told_same reply))

-- and the names became what the ask makes of them
became_so : (y : Step) (s : ServerId) (ask : NameAsk) (reply : NameReply) → SaidAt y s ask reply → becomes_at ask (node_of y.before.world s) (node_of y.after.world s) ≡ true
became_so y s ask reply z = subst (λ o. becomes_at ask o (node_of y.after.world s) ≡ true) (sym z.was) (subst (λ o. becomes_at ask (Some z.old) o ≡ true) (sym z.became) one)
  where
    one : list_any (leaves z.new.state.stable.names) (says z.old.state.stable.names ask) ≡ true
    one = some_passes (leaves z.new.state.stable.names) (says z.old.state.stable.names ask) (said z.new.state.stable.names (name_answer reply))
        (subst (λ w. Has w (says z.old.state.stable.names ask)) z.did (says_it z.old.state.stable.names ask z.g z.none)) (names_same z.new.state.stable.names)

-- an inode that answers a create, mkdir, remove or rename reports a change
told_change : (y : Step) (s : ServerId) (ask : NameAsk) (reply : NameReply) (ino : ℕ) → is_change_of s (asks.Name s ask) ≡ true → name_answer reply ≡ answers.Named ino → SaidAt y s ask reply → changes_in s y ≡ true
told_change y s ask reply ino f e z = subst (λ o. changes_at o (node_of y.after.world s) ≡ true) (sym z.was) (subst (λ o. changes_at (Some z.old) o ≡ true) (sym z.became)
    (ap not (named_changes s z.old.state.stable.names z.new.state.stable.names ask z.g ino f (z.did ∙ ap (said z.new.state.stable.names) e))))

-- Keys.

-- if an operation waited under a key, in words of the same key
pub waits_as : (w : World) (c : ClientId) (op : ℕ) (s u : ServerId) (life epoch number life2 epoch2 number2 : ℕ) → SameKey s u life epoch number life2 epoch2 number2 → WaitsUnder w c s life epoch number op → WaitsUnder w c u life2 epoch2 number2 op
waits_as w c op s u life epoch number life2 epoch2 number2 k z =
    subst (λ n. WaitsUnder w c u life2 epoch2 n op) k.number_ (subst (λ e. WaitsUnder w c u life2 e number op) k.epoch_ (subst (λ l. WaitsUnder w c u l epoch number op) k.life_ (subst (λ v. WaitsUnder w c v life epoch number op) k.server z)))

served_as : (y : Step) (c : ClientId) (r : Body) (s u : ServerId) (life epoch number life2 epoch2 number2 : ℕ) → SameKey s u life epoch number life2 epoch2 number2 → ServedAt y c s life epoch number r → ServedAt y c u life2 epoch2 number2 r
served_as y c r s u life epoch number life2 epoch2 number2 k z =
    subst (λ n. ServedAt y c u life2 epoch2 n r) k.number_ (subst (λ e. ServedAt y c u life2 e number r) k.epoch_ (subst (λ l. ServedAt y c u l epoch number r) k.life_ (subst (λ v. ServedAt y c v life epoch number r) k.server z)))

keyed_as : (m : Message) (c : ClientId) (s u : ServerId) (life epoch number life2 epoch2 number2 : ℕ) → SameKey s u life epoch number life2 epoch2 number2 → Keyed c s life epoch number m → Keyed c u life2 epoch2 number2 m
keyed_as m c s u life epoch number life2 epoch2 number2 k z =
    subst (λ n. Keyed c u life2 epoch2 n m) k.number_ (subst (λ e. Keyed c u life2 e number m) k.epoch_ (subst (λ l. Keyed c u l epoch number m) k.life_ (subst (λ v. Keyed c v life epoch number m) k.server z)))

-- a reply that answers is final
final_of : (b : Body) (a : AppAnswer) → Answers b a ⊎ (is_kept_refusal b ≡ true) → is_final b ≡ true
final_of bodies.Ack a h = refl
final_of (bodies.Named reply) a h = refl
final_of (bodies.Nack w x y) a (inr h) = h
final_of (bodies.Nack w x y) a (inl h) = absurd h
final_of b a (inl h) = absurd h
final_of b a (inr h) = cc h

-- a reply of names that tells an answer
tells : (b : Body) (reply : NameReply) (a : AppAnswer) → b ≡ bodies.Named reply → Answers b a ⊎ (is_kept_refusal b ≡ true) → a ≡ name_answer reply
tells b reply a e h = go (subst (λ y. Answers y a ⊎ (is_kept_refusal y ≡ true)) e h)
  where
    go : Answers (bodies.Named reply) a ⊎ (is_kept_refusal (bodies.Named reply) ≡ true) → a ≡ name_answer reply
    go (inl k) = k
    go (inr k) = cc k

-- a reply that tells an inode
tells_inode : (b : Body) (ino : ℕ) → Answers b (answers.Named ino) → (reply : NameReply) × (b ≡ bodies.Named reply) × (name_answer reply ≡ answers.Named ino)
tells_inode (bodies.Named reply) ino e = (reply, refl, sym e)
tells_inode bodies.Ack ino e = cc e
tells_inode b ino e = absurd e

module _ (past : List Step) (x : Step) (f : Facts past x) where
  abbrev past2 : List Step
  past2 = past ++ x ∷ []

  -- An operation that waited after a step.
  record Waited (c : ClientId) (op : ℕ) (s : ServerId) (life epoch number : ℕ) : Type 0 where
    pub at : Step
    pub among : Has at past
    pub waits : WaitsUnder at.after.world c s life epoch number op

  waited : (c : ClientId) (op : ℕ) (k : Asked past x.before.world c op) → Waited c op k.server k.life_ k.epoch_ k.number_
  waited c op k = go k.among
    where
      go : Worlds past x.before.world k.at → Waited c op k.server k.life_ k.epoch_ k.number_
      go (inl z) = record { at = z.0; among = z.1; waits = subst (λ w. WaitsUnder w c k.server k.life_ k.epoch_ k.number_ op) z.2 k.waits }
      go (inr q) = by f.known
        where
          by : Known past x.before.world → Waited c op k.server k.life_ k.epoch_ k.number_
          by (inl z) = record { at = z.0; among = z.1; waits = subst (λ w. WaitsUnder w c k.server k.life_ k.epoch_ k.number_ op) (q ∙ z.2) k.waits }
          by (inr none) = absurd (none c k.server k.life_ k.epoch_ k.number_ op (subst (λ w. WaitsUnder w c k.server k.life_ k.epoch_ k.number_ op) q k.waits))

  -- as one that waited so far
  abbrev asked_at : (c : ClientId) (op : ℕ) (at : Step) → Has at past2 → (s : ServerId) (life epoch number : ℕ) → WaitsUnder at.after.world c s life epoch number op → Asked past2 x.after.world c op
  asked_at c op at i s life epoch number w = record { at = at.after.world; among = inl (at, i, refl); server = s; life_ = life; epoch_ = epoch; number_ = number; waits = w }

  same_now : {s : ServerId} {life epoch number : ℕ} → SameKey s s life epoch number life epoch number
  same_now = record { server = refl; life_ = refl; epoch_ = refl; number_ = refl }

  -- the request under the key of an operation is that of its ask
  means_of : (c : ClientId) (op : ℕ) (s : ServerId) (life epoch number : ℕ) (k : Asked past2 x.after.world c op) → SameKey k.server s k.life_ k.epoch_ k.number_ life epoch number → (a : Ask) → numbered (asks_of past2 c) op ≡ Some a →
      (m : Message) → Has m (messages x.after.world) → Keyed c s life epoch number m → AsksFor a m.body
  means_of c op s life epoch number k same a asked m i key = subst (λ b. AsksFor b m.body) (some_is (sym z.asked ∙ asked)) (subst (AsksFor z.ask) body z.means)
    where
      z : IsRequested past2 x.after.world c op k.server k.life_ k.epoch_ k.number_
      z = f.requested c op k

      body : z.message.body ≡ m.body
      body = f.one_body c op k z.message m z.among i z.keyed (keyed_as m c s k.server life epoch number k.life_ k.epoch_ k.number_ (record { server = sym same.server; life_ = sym same.life_; epoch_ = sym same.epoch_; number_ = sym same.number_ }) key)

  -- what a server serves was sent
  sent_now : (y : Step) → Has y past2 → (c : ClientId) (s : ServerId) (life epoch number : ℕ) (r : Body) (z : ServedAt y c s life epoch number r) → Has z.sent.message (messages x.after.world)
  sent_now y i c s life epoch number r z = f.grown y i z.sent.message (has_map_in message_in y.before.world.net.messages z.sent (numbered_has y.before.world.net.messages z.index z.sent z.is))

  -- no reassertion is asked
  no_reassertion : (a : Ask) (b : Body) → AsksFor a b → reasserts b ≡ true → ⊥
  no_reassertion a (bodies.Reassert rows) k e = none a k
    where
      none : (a : Ask) → AsksFor a (bodies.Reassert rows) → ⊥
      none (asks.Name s n) k = k
      none (asks.Cut g p) k = k
      none a k = k
  no_reassertion a b k e = cc e

  -- A reply to what asked before has its event.
  record Event_ (c : ClientId) (s : ServerId) (life epoch number : ℕ) (r : Body) : Type 0 where
    pub at : Step
    pub among : Has at past
    pub served : ServedAt at c s life epoch number r

  replied : (c : ClientId) (op : ℕ) (k : Asked past x.before.world c op) (m : Message) → Has m (messages x.before.world) → RepliesTo c k.server k.life_ k.epoch_ k.number_ m → is_final m.body ≡ true → Event_ c k.server k.life_ k.epoch_ k.number_ m.body
  replied c op k m i to fin = go (f.events_ m i k.server to.from fin)
    where
      here : client m.header.to ≡ c
      here = ap (λ n. record { 0 = n }) to.to

      key : SameKey k.server k.server m.header.life m.header.epoch m.header.number k.life_ k.epoch_ k.number_
      key = record { server = refl; life_ = to.of_life; epoch_ = to.of_epoch; number_ = to.under }

      w : Waited c op k.server k.life_ k.epoch_ k.number_
      w = waited c op k

      k2 : Asked past2 x.after.world c op
      k2 = asked_at c op w.at (has_left past (x ∷ []) w.at w.among) k.server k.life_ k.epoch_ k.number_ w.waits

      q : IsRequested past2 x.after.world c op k.server k.life_ k.epoch_ k.number_
      q = f.requested c op k2

      go : HasEvent past x.before.world (client m.header.to) k.server m.header.life m.header.epoch m.header.number m.body → Event_ c k.server k.life_ k.epoch_ k.number_ m.body
      go (inl z) = record { at = z.0; among = z.1; served = served_as z.0 c m.body k.server k.server m.header.life m.header.epoch m.header.number k.life_ k.epoch_ k.number_ key (subst (λ d. ServedAt z.0 d k.server m.header.life m.header.epoch m.header.number m.body) here z.2) }
      go (inr z) = absurd (no_reassertion q.ask z.by.body (means_of c op k.server k.life_ k.epoch_ k.number_ k2 same_now q.ask q.asked z.by (f.grown x (has_right past (x ∷ []) x (inl refl)) z.by z.among)
          (keyed_as z.by c k.server k.server m.header.life m.header.epoch m.header.number k.life_ k.epoch_ k.number_ key (subst (λ d. Keyed d k.server m.header.life m.header.epoch m.header.number z.by) here z.keyed))) z.asks)

  -- The fields of the law.

  owns_change : (s : ServerId) (o : Changed past x s) → Owns past x s o.c o.op
  owns_change s o = record { life_ = o.life_; epoch_ = o.epoch_; number_ = o.number_; reply = o.reply; served = o.served; at = w.at; among = w.among; waits = waits_as w.at.after.world o.c o.op o.k.server s o.k.life_ o.k.epoch_ o.k.number_ o.life_ o.epoch_ o.number_ o.same w.waits }
    where
      w : Waited o.c o.op o.k.server o.k.life_ o.k.epoch_ o.k.number_
      w = waited o.c o.op o.k

  each : (s : ServerId) → changes_in s x ≡ true → Owner past x s
  each s e = by (f.change s e)
    where
      by : Changed past x s → Owner past x s
      by o =
          record {
            c = o.c;
            op = o.op;
            ask = o.ask;
            asked = o.asked;
            becomes = became_so x s o.ask reply.0 (said_of x o.c s o.life_ o.epoch_ o.number_ o.reply o.served o.ask o.means reply.0 reply.1);
            after = o.after;
            unsettled = o.unsettled;
            owns = owns_change s o;
          }
        where
          reply : (reply : NameReply) × (o.reply ≡ bodies.Named reply)
          reply = named_reply x o.c s o.life_ o.epoch_ o.number_ o.reply o.served o.ask o.means e

  -- one event, one message, one key
  alone_of : (y : Step) (s : ServerId) (c : ClientId) (op n : ℕ) → Owns past2 y s c op → Owns past2 y s c n → op ≡ n
  alone_of y s c op n a b = f.one c op n (asked_at c op a.at a.among s a.life_ a.epoch_ a.number_ a.waits) (asked_at c n b.at b.among s b.life_ b.epoch_ b.number_ b.waits) key
    where
      index : a.served.index ≡ b.served.index
      index = same_index (sym a.served.delivers ∙ b.served.delivers)
        where
          same_index : events.Deliver a.served.index ≡ events.Deliver b.served.index → a.served.index ≡ b.served.index
          same_index e = cc e

      sent : a.served.sent ≡ b.served.sent
      sent = some_is (sym a.served.is ∙ ap (λ k. message_of y.before.world k) index ∙ b.served.is)

      key : SameKey s s a.life_ a.epoch_ a.number_ b.life_ b.epoch_ b.number_
      key =
          record {
            server = refl;
            life_ = sym a.served.serves.keyed.of_life ∙ ap (λ (m : SentMessage). m.message.header.life) sent ∙ b.served.serves.keyed.of_life;
            epoch_ = sym a.served.serves.keyed.of_epoch ∙ ap (λ (m : SentMessage). m.message.header.epoch) sent ∙ b.served.serves.keyed.of_epoch;
            number_ = sym a.served.serves.keyed.under ∙ ap (λ (m : SentMessage). m.message.header.number) sent ∙ b.served.serves.keyed.under;
          }

  alone : (y : Step) → Has y past2 → (s : ServerId) (c d : ClientId) (op n : ℕ) → Owns past2 y s c op → Owns past2 y s d n → (c ≡ d) × (op ≡ n)
  alone y i s c d op n a b = (who, alone_of y s c op n a (subst (λ e. Owns past2 y s e n) (sym who) b))
    where
      same_index : events.Deliver a.served.index ≡ events.Deliver b.served.index → a.served.index ≡ b.served.index
      same_index e = cc e

      sent : a.served.sent ≡ b.served.sent
      sent = some_is (sym a.served.is ∙ ap (λ k. message_of y.before.world k) (same_index (sym a.served.delivers ∙ b.served.delivers)) ∙ b.served.is)

      who : c ≡ d
      who = ap (λ n. record { 0 = n }) (sym a.served.serves.keyed.between.0 ∙ ap (λ (m : SentMessage). m.message.header.from) sent ∙ b.served.serves.keyed.between.0)

  once : (y : Step) → Has y past → (s : ServerId) (c : ClientId) (op : ℕ) → Owns past y s c op → Owns past x s c op → ⊥
  once y i s c op a b = f.once y i c s b.life_ b.epoch_ b.number_ a.reply b.reply (served_as y c a.reply s s a.life_ a.epoch_ a.number_ b.life_ b.epoch_ b.number_ key a.served) b.served
    where
      key : SameKey s s a.life_ a.epoch_ a.number_ b.life_ b.epoch_ b.number_
      key = f.keys c op (asked_at c op a.at (has_left past (x ∷ []) a.at a.among) s a.life_ a.epoch_ a.number_ a.waits) (asked_at c op b.at (has_left past (x ∷ []) b.at b.among) s b.life_ b.epoch_ b.number_ b.waits)

  -- an answer to the owner of a change
  told : (y : Step) → Has y past2 → (s : ServerId) (c : ClientId) (op : ℕ) (ask : NameAsk) (a : AppAnswer) → changes_in s y ≡ true → Owns past2 y s c op → numbered (asks_of past2 c) op ≡ Some (asks.Name s ask) →
      Has (seen.Answered c op a) x.seen → (is_uncertain a || says_in s ask a y) ≡ true
  told y i s c op ask a e o asked h = go (has_append past (x ∷ []) o.at o.among)
    where
      here : list_any (answers_in c op) past2 ≡ true
      here = some_passes (answers_in c op) past2 x (has_right past (x ∷ []) x (inl refl)) (some_passes (is_answer_to c op) x.seen (seen.Answered c op a) h (and_both _ _ (eq-eqb c.0 c.0 refl) (eq-eqb op op refl)))

      by : (i : Has o.at past) → Asked past x.before.world c op
      by i = record { at = o.at.after.world; among = inl (o.at, i, refl); server = s; life_ = o.life_; epoch_ = o.epoch_; number_ = o.number_; waits = o.waits }

      known : (j : Has o.at past) → (is_uncertain a ≡ true) ⊎ Received past x.before.world c op a (by j) → (is_uncertain a || says_in s ask a y) ≡ true
      known j (inl q) = ap (λ b. b || says_in s ask a y) q
      known j (inr m) = or_right (is_uncertain a) _ (subst (λ b. says_in s ask b y ≡ true) (sym (tells m.message.body reply.0 a reply.1 m.says)) (says_so y s ask reply.0 (said_of y c s o.life_ o.epoch_ o.number_ m.message.body at_y ask means reply.0 reply.1)))
        where
          z : Event_ c s o.life_ o.epoch_ o.number_ m.message.body
          z = replied c op (by j) m.message m.among m.replies (final_of m.message.body a m.says)

          one : z.at ≡ y
          one = f.one_event z.at y (has_left past (x ∷ []) z.at z.among) i c s o.life_ o.epoch_ o.number_ m.message.body o.reply z.served o.served

          at_y : ServedAt y c s o.life_ o.epoch_ o.number_ m.message.body
          at_y = subst (λ (w : Step). ServedAt w c s o.life_ o.epoch_ o.number_ m.message.body) one z.served

          means : AsksFor (asks.Name s ask) at_y.sent.message.body
          means = means_of c op s o.life_ o.epoch_ o.number_ (asked_at c op o.at o.among s o.life_ o.epoch_ o.number_ o.waits) same_now (asks.Name s ask) asked at_y.sent.message (sent_now y i c s o.life_ o.epoch_ o.number_ m.message.body at_y) at_y.serves.keyed

          reply : (reply : NameReply) × (m.message.body ≡ bodies.Named reply)
          reply = named_reply y c s o.life_ o.epoch_ o.number_ m.message.body at_y ask means e

      go : Has o.at past ⊎ Has o.at (x ∷ []) → (is_uncertain a || says_in s ask a y) ≡ true
      go (inl j) = known j (f.received c op a h (by j))
      go (inr (inl q)) = clash here (f.unsaid c op s o.life_ o.epoch_ o.number_ (subst (λ (w : Step). WaitsUnder w.after.world c s o.life_ o.epoch_ o.number_ op) q o.waits))
      go (inr (inr j)) = absurd j

  -- an inode that is answered
  made : (c : ClientId) (op ino : ℕ) → Has (seen.Answered c op (answers.Named ino)) x.seen → (ask : Ask) × (numbered (asks_of past2 c) op ≡ Some ask)
  made c op ino h = by (f.told c op (answers.Named ino) h refl)
    where
      by : IsTold past x.before.world c op (answers.Named ino) → (ask : Ask) × (numbered (asks_of past2 c) op ≡ Some ask)
      by z = let w = waited c op z.k in let q = f.requested c op (asked_at c op w.at (has_left past (x ∷ []) w.at w.among) z.k.server z.k.life_ z.k.epoch_ z.k.number_ w.waits) in (q.ask, q.asked)

  did : (s : ServerId) (c : ClientId) (op : ℕ) (ask : NameAsk) (ino : ℕ) → is_change_of s (asks.Name s ask) ≡ true → numbered (asks_of past2 c) op ≡ Some (asks.Name s ask) → Has (seen.Answered c op (answers.Named ino)) x.seen →
      (y : Step) × Has y past2 × (changes_in s y ≡ true) × Owns past2 y s c op
  did s c op ask ino change asked h = by (f.told c op (answers.Named ino) h refl)
    where
      by : IsTold past x.before.world c op (answers.Named ino) → (y : Step) × Has y past2 × (changes_in s y ≡ true) × Owns past2 y s c op
      by z = (ev.at, has_left past (x ∷ []) ev.at ev.among, told_change ev.at s ask reply.0 ino change reply.2 (said_of ev.at c s z.k.life_ z.k.epoch_ z.k.number_ z.message.body at_s ask means reply.0 reply.1), own)
        where
          ev : Event_ c z.k.server z.k.life_ z.k.epoch_ z.k.number_ z.message.body
          ev = replied c op z.k z.message z.among z.replies (final_of z.message.body (answers.Named ino) (inl z.says))

          w : Waited c op z.k.server z.k.life_ z.k.epoch_ z.k.number_
          w = waited c op z.k

          k2 : Asked past2 x.after.world c op
          k2 = asked_at c op w.at (has_left past (x ∷ []) w.at w.among) z.k.server z.k.life_ z.k.epoch_ z.k.number_ w.waits

          q : IsRequested past2 x.after.world c op z.k.server z.k.life_ z.k.epoch_ z.k.number_
          q = f.requested c op k2

          server : z.k.server ≡ s
          server = sym q.of ∙ ap cs.server_of (some_is (sym q.asked ∙ asked))

          key : SameKey z.k.server s z.k.life_ z.k.epoch_ z.k.number_ z.k.life_ z.k.epoch_ z.k.number_
          key = record { server = server; life_ = refl; epoch_ = refl; number_ = refl }

          at_s : ServedAt ev.at c s z.k.life_ z.k.epoch_ z.k.number_ z.message.body
          at_s = served_as ev.at c z.message.body z.k.server s z.k.life_ z.k.epoch_ z.k.number_ z.k.life_ z.k.epoch_ z.k.number_ key ev.served

          means : AsksFor (asks.Name s ask) at_s.sent.message.body
          means = means_of c op s z.k.life_ z.k.epoch_ z.k.number_ k2 key (asks.Name s ask) asked at_s.sent.message (sent_now ev.at (has_left past (x ∷ []) ev.at ev.among) c s z.k.life_ z.k.epoch_ z.k.number_ z.message.body at_s) at_s.serves.keyed

          reply : (reply : NameReply) × (z.message.body ≡ bodies.Named reply) × (name_answer reply ≡ answers.Named ino)
          reply = tells_inode z.message.body ino z.says

          own : Owns past2 ev.at s c op
          own = record { life_ = z.k.life_; epoch_ = z.k.epoch_; number_ = z.k.number_; reply = z.message.body; served = at_s; at = w.at; among = has_left past (x ∷ []) w.at w.among; waits = waits_as w.at.after.world c op z.k.server s z.k.life_ z.k.epoch_ z.k.number_ z.k.life_ z.k.epoch_ z.k.number_ key w.waits }

  -- Asks own changes.
  pub own_changes : AsksOwnChanges past x
  own_changes = record { each = each; alone = alone; once = λ y i s c op e g a b. once y i s c op a b; told = told; did = did; made = made; there = λ y s c op o. f.there c op (asked_at c op o.at o.among s o.life_ o.epoch_ o.number_ o.waits) }
