-- What a message does to the sessions of a server, and what it is answered: nothing, a refusal of its client, the kept reply once more, or a reply that
-- counts for it and is kept; a greeting and a reassertion begin a session.
use Rattle.st_lemmas.proofs.Words
use Words.{◌≡◌, ℕ, ◌<◌, ◌⊎◌, arith, Bool, true, false, List, [], ◌∷◌, ◌++◌, ◌==◌, refl, sym, ap, ◌∙◌, subst, inl, inr, eq-eqb, ltb-true, ltb-false, ◌&&◌, ◌||◌}
use Words.{find, nat_lt, Option, Some, None, Result, Ok, Err, ClientId, Epoch, GrantNo, ServerId, Stamp, Mode, Header, Body, Message, Why, Note, Output}
use Words.{AcceptRefusal, Session, Hello, Taken}
use Words.bodies as bd
use Words.why
use Words.notes
use Words.outputs
use Words.hellos
use Words.serving.{Control}
use Words.takes
use Words.Authority as authority
use Words.Grace as grace
use Words.Keys.{server_node}
use Words.Locks as locks
use Words.Server as sv
use Words.Server.{Replied, ServerTurn, serve}
use Words.Sessions as sessions
use Words.Sessions.{Sessions}
use Words.Lists.{Has}
use Words.Lookups.{some_is}
use Words.Tables.{cond_either, has_append}
use Words.Truth.{not_both}
use Rattle.st_rules.specs.declared.authority.AcceptRefusal.TheVariants as refusals
use Rattle.st_trace.specs.Server.Steps.{hears, take_of}
use Rattle.st_laws_healthy.proofs.Replies.{Counts, GetsReply, Noted, counts_for, is_served}
use Rattle.st_laws_healthy.proofs.Replying.{rule_replies}

-- neither lower nor the same is higher
lower : (a b : ℕ) → nat_lt a b ≡ false → (a == b) ≡ false → b < a
lower a b p r = go (nat_lt b a) refl
  where
    go : (x : Bool) → nat_lt b a ≡ x → b < a
    go true q = ltb-true b a q
    go false q =
        let u = ltb-false a b p in
        let v = ltb-false b a q in
        absurd (not_both (a == b) (eq-eqb a b (omega (arith, u, v))) r)

-- a message that a session serves, or not
served_or_not : (b : Body) → (is_served b ≡ true) ⊎ (is_served b ≡ false)
served_or_not b = go (is_served b) refl
  where
    go : (x : Bool) → is_served b ≡ x → (is_served b ≡ true) ⊎ (is_served b ≡ false)
    go true e = inl e
    go false e = inr e

pub sent_same : {m n : Message} → ◌≡◌ {A = Output} (outputs.Send m) (outputs.Send n) → m ≡ n
sent_same e = cc

pub no_note : {m : Message} {n : Note} → ◌≡◌ {A = Output} (outputs.Send m) (outputs.Note n) → ⊥
no_note e = cc

module _ (now : Stamp) (h : Header) where
  -- the reply to the message, from a turn
  abbrev pub reply_in : ServerTurn → Body → Output
  reply_in t x = outputs.Send (record { header = sv.reply_header t.state h; body = x })

  -- this reply is said, and before it a note or nothing, after all that was said
  pub data Says (t u : ServerTurn) (x : Body) : Type 0 where
    Alone : u.out ≡ t.out ++ reply_in t x ∷ [] → Says t u x
    Noting : (n : Note) → u.out ≡ (t.out ++ outputs.Note n ∷ []) ++ reply_in t x ∷ [] → Says t u x

  -- why a client is refused: its epoch, grace, its session, its locks, or that it is a suspect, or becomes one
  pub data Ground (t : ServerTurn) (b : Body) (w : Why) : Type 0 where
    OfEpoch : w ≡ why.OtherEpoch → Ground t b w
    OfGrace : b ≡ bd.Hello → w ≡ why.Grace → Ground t b w
    OfSession : sv.take t h ≡ takes.NoSession → Ground t b w
    OfLocks : (rows : List (ℕ × GrantNo × Mode)) → b ≡ bd.Reassert rows → Ground t b w
    OfSuspect : (start : Stamp) → authority.started t.state.authority (sv.sender h) ≡ Some start → Ground t b w
    OfGreeting : b ≡ bd.Hello → Ground t b w

  -- the sender's session, if it lives, belongs to a lower life
  abbrev pub Later : ServerTurn → Type 0
  Later t = (y : Session) → sessions.session_of t.state.sessions (sv.sender h) ≡ Some y → sessions.is_live y ≡ true → y.life.0 < h.life

  -- what a message does
  pub data Does (t : ServerTurn) (b : Body) (u : ServerTurn) : Type 0 where
    Passes : u.state.sessions ≡ t.state.sessions → u.out ≡ t.out → Does t b u
    -- of another epoch, without a session, in grace, of a suspect, or a reassertion that is not accepted
    Refuses : (w : Why) (c d : ℕ) → Ground t b w → u.state.sessions ≡ t.state.sessions → Says t u (bd.Nack w c d) → Does t b u
    Repeats : (x : Body) → u.state.sessions ≡ t.state.sessions → sv.take t h ≡ takes.Again x → Says t u x → Does t b u
    Serves : (x : Body) → is_served b ≡ true → sv.take t h ≡ takes.Fresh → counts_for b x ≡ true →
        u.state.sessions ≡ sessions.store t.state.sessions (sv.sender h) h.number x → Says t u x → Does t b u
    Welcomes : b ≡ bd.Hello → (u.state.sessions ≡ t.state.sessions) ⊎ ((u.state.sessions ≡ sessions.with_new_session (sv.sender h) (sv.life_in h)
        t.state.sessions) × Later t) →
        Says t u bd.Welcome → Does t b u
    Accepts : (rows : List (ℕ × GrantNo × Mode)) → b ≡ bd.Reassert rows → Later t → u.state.sessions ≡ sessions.reasserted t.state.sessions (sv.sender h)
        (sv.life_in h) →
        Says t u bd.Reasserted → Does t b u

  says : (t : ServerTurn) (x : Body) → Says t (sv.reply t h x) x
  unfolding sv.reply
  says t x = Alone refl

  refuses : (t : ServerTurn) (b : Body) (w : Why) (c d : ℕ) → Ground t b w → Does t b (sv.reply t h (bd.Nack w c d))
  unfolding sv.reply
  refuses t b w c d g = Refuses w c d g refl (Alone refl)

  -- a request that was served
  serves : (t : ServerTurn) (b : Body) (a : Replied) → is_served b ≡ true → sv.take t h ≡ takes.Fresh → GetsReply now h t b a → Does t b (serve h a)
  unfolding serve sv.keep sv.keep_and_reply sv.reply
  serves t b a e f r = go a.reply refl r.counts
    where
      go : (o : Option Body) → a.reply ≡ o → Counts b o → Does t b (sv.keep h a.turn o)
      go None q c = elim c [ ]
      go (Some x) q c = Serves x e f c (ap (λ (v : Sessions). sessions.store v (sv.sender h) h.number x) r.sessions) (by r.out)
        where
          it : Output
          it = reply_in t x

          same : outputs.Send (record { header = sv.reply_header a.turn.state h; body = x }) ≡ it
          same =
              ap (λ (z : ServerId). outputs.Send (record {
                header = record {
                  from = server_node z;
                  to = h.from;
                  life = h.life;
                  epoch =
                      a.turn.state.stable.epoch.0;
                  number = h.number;
                  stamp = h.stamp;
                };
                body = x;
              })) r.id
              ∙ ap (λ (z : Epoch). outputs.Send (record {
                header = record {
                  from = server_node t.state.id;
                  to = h.from;
                  life = h.life;
                  epoch = z.0;
                  number =
                      h.number;
                  stamp = h.stamp;
                };
                body = x;
              })) r.epoch

          by : Noted now h t a.turn → Says t (sv.keep_and_reply a.turn h x) x
          by (inl o) = Alone (ap (λ (os : List Output). os ++ outputs.Send (record { header = sv.reply_header a.turn.state h; body = x }) ∷ []) o ∙ ap
              (λ (y : Output). t.out ++ y ∷ []) same)
          by (inr n) = Noting n.0 (ap (λ (os : List Output). os ++ outputs.Send (record { header = sv.reply_header a.turn.state h; body = x }) ∷ []) n.1 ∙ ap
              (λ (y : Output). (t.out ++ outputs.Note n.0 ∷ []) ++ y ∷ []) same)

  -- a body that no session serves has no rule
  unserved : (t : ServerTurn) (b : Body) → is_served b ≡ false → serve h (sv.rule t now h b) ≡ t
  unfolding serve sv.keep sv.rule
  unserved t bd.KeepAlive e = cc
  unserved t (bd.Acquire ino mode) e = cc
  unserved t (bd.Released ino g to) e = cc
  unserved t (bd.Map ino g p) e = cc
  unserved t (bd.Allocate ino g p n) e = cc
  unserved t (bd.Cut ino g p) e = cc
  unserved t (bd.Name op) e = cc
  unserved t b e = refl

  does_request_by : (t : ServerTurn) (b : Body) (k : Taken Body) → sv.take t h ≡ k → Does t b (sv.request_by t now h b k)
  unfolding sv.request_by sv.refuse_epoch sv.reply
  does_request_by t b takes.OtherEpoch e = Refuses why.OtherEpoch h.epoch t.state.stable.epoch.0 (OfEpoch refl) refl (Alone refl)
  does_request_by t b takes.NoSession e = Refuses why.NoSession 0 0 (OfSession e) refl (Alone refl)
  does_request_by t b takes.Stale e = Passes refl refl
  does_request_by t b (takes.Again x) e = Repeats x refl e (Alone refl)
  does_request_by t b takes.OutOfOrder e = Passes refl refl
  does_request_by t b takes.Fresh e = go (served_or_not b)
    where
      go : (is_served b ≡ true) ⊎ (is_served b ≡ false) → Does t b (serve h (sv.rule t now h b))
      go (inl s) = serves t b (sv.rule t now h b) s e (rule_replies now h t b s)
      go (inr s) = subst (Does t b) (sym (unserved t b s)) (Passes refl refl)

  does_reassert_again : (t : ServerTurn) (b : Body) (k : Taken Body) → sv.take t h ≡ k → Does t b (sv.reassert_again t h k)
  unfolding sv.reassert_again sv.reply
  does_reassert_again t b (takes.Again x) e = Repeats x refl e (Alone refl)
  does_reassert_again t b takes.OtherEpoch e = Passes refl refl
  does_reassert_again t b takes.NoSession e = Passes refl refl
  does_reassert_again t b takes.Stale e = Passes refl refl
  does_reassert_again t b takes.OutOfOrder e = Passes refl refl
  does_reassert_again t b takes.Fresh e = Passes refl refl

  -- an accepted reassertion begins a session
  abbrev Begins : ServerTurn → Result grace.Accepted AcceptRefusal → Type 0
  Begins t (Ok a) = a.sessions ≡ sessions.reasserted t.state.sessions (sv.sender h) (sv.life_in h)
  Begins t (Err r) = Unit {0}

  accepted : (t : ServerTurn) (rs : List (ℕ × GrantNo × Mode)) → Begins t (grace.accept t.state.grace now (sv.sender h) (sv.life_in h) rs t.state.locks
      t.state.sessions)
  unfolding grace.accept grace.accept_rows grace.accept_earlier grace.accept_own grace.accept_installed grace.accepted locks.install locks.install_at
  accepted t rs =
      cond_either (Begins t) (grace.is_on t.state.grace now) (grace.accept_rows t.state.locks t.state.sessions (sv.sender h) (sv.life_in h) rs)
      (Err (refusals.GraceOver (grace.grace_start t.state.grace) now)) (λ e. earlier (find (grace.is_new_grant t.state.locks) rs)) (λ e. tt)
    where
      free : (o : Option (ℕ × ClientId)) → Begins t (grace.accept_installed t.state.sessions (sv.sender h) (sv.life_in h)
          (locks.install_at t.state.locks (sv.sender h) (sv.life_in h) rs o))
      free None = refl
      free (Some x) = tt

      own : (o : Option ℕ) → Begins t (grace.accept_own t.state.locks t.state.sessions (sv.sender h) (sv.life_in h) rs o)
      own None = free (locks.first_conflict t.state.locks (sv.sender h) rs)
      own (Some x) = tt

      earlier : (o : Option (ℕ × GrantNo × Mode)) → Begins t (grace.accept_earlier t.state.locks t.state.sessions (sv.sender h) (sv.life_in h) rs o)
      earlier None = own (grace.own_older t.state.locks (sv.sender h) (sv.life_in h))
      earlier (Some x) = tt

  does_reassert_by : (t : ServerTurn) (rs : List (ℕ × GrantNo × Mode)) (r : Result grace.Accepted AcceptRefusal) → Later t → Begins t r →
      Does t (bd.Reassert rs) (sv.reassert_by t h r)
  unfolding sv.reassert_by sv.reply
  does_reassert_by t rs (Ok a) l e = Accepts rs refl l e (Alone refl)
  does_reassert_by t rs (Err (refusals.GraceOver start n)) l e = Refuses why.GraceOver start.0 n.0 (OfLocks rs refl) refl (Alone refl)
  does_reassert_by t rs (Err (refusals.Conflict ino holder)) l e = Refuses why.Conflict ino holder.0 (OfLocks rs refl) refl (Alone refl)
  does_reassert_by t rs (Err (refusals.NotHolder ino g)) l e = Refuses why.NotHolder ino g.0 (OfLocks rs refl) refl (Alone refl)

  -- a session that is not known belongs to a lower life, if it lives
  unknown_later : (t : ServerTurn) → sessions.knows t.state.sessions (sv.sender h) (sv.life_in h) ≡ false → Later t
  unknown_later t e y q live =
      above
      (sym (ap (λ o. sessions.knows_at o (sv.life_in h)) q) ∙ e)
    where
      above : sessions.knows_life (sv.life_in h) y ≡ false → y.life.0 < h.life
      above k = by (nat_lt h.life y.life.0) refl (h.life == y.life.0) refl k
        where
          by : (a : Bool) → nat_lt h.life y.life.0 ≡ a → (b : Bool) → (h.life == y.life.0) ≡ b →
              (nat_lt h.life y.life.0 || (sessions.is_live y && (h.life == y.life.0))) ≡ false → y.life.0 < h.life
          by true p b r k = absurd (not_both true refl (sym (ap (λ z. z || (sessions.is_live y && (h.life == y.life.0))) p) ∙ k))
          by false p true r k = absurd (not_both true refl (sym (ap (λ z. z || (sessions.is_live y && (h.life == y.life.0))) p ∙ ap
              (λ z. z && (h.life == y.life.0)) live ∙ r) ∙ k))
          by false p false r k = lower h.life y.life.0 p r

  does_request : (t : ServerTurn) (b : Body) → Does t b (sv.request t now h b)
  unfolding sv.request sv.reassert sv.reassert_new
  does_request t (bd.Reassert rs) =
      cond_either (Does t (bd.Reassert rs)) (sessions.knows t.state.sessions (sv.sender h) (sv.life_in h)) (sv.reassert_again t h (sv.take t h))
      (sv.reassert_new t now h rs)
      (λ e. does_reassert_again t (bd.Reassert rs) (sv.take t h) refl)
      (λ e. does_reassert_by t rs (grace.accept t.state.grace now (sv.sender h) (sv.life_in h) rs t.state.locks t.state.sessions) (unknown_later t e)
      (accepted t rs))
  does_request t b = does_request_by t b (sv.take t h) refl

  does_of_epoch : (t : ServerTurn) (b : Body) → Does t b (sv.of_epoch t now h b)
  unfolding sv.of_epoch sv.refuse_epoch
  does_of_epoch t b =
      cond_either (Does t b) (h.epoch == t.state.stable.epoch.0) (sv.request t now h b) (sv.refuse_epoch t h) (λ e. does_request t b)
      (λ e. refuses t b why.OtherEpoch h.epoch t.state.stable.epoch.0 (OfEpoch refl))

  does_seen : (t : ServerTurn) (ino : ℕ) (g : GrantNo) → Does t (bd.DemandSeen ino g) (sv.demand_seen t h ino g)
  unfolding sv.demand_seen sv.observe_demand
  does_seen t ino g = cond_either (Does t (bd.DemandSeen ino g)) (sv.is_served t h) (sv.observe_demand t h ino g) t (λ e. Passes refl refl)
      (λ e. Passes refl refl)

  -- what becomes of the sessions at a greeting
  abbrev Greets : ServerTurn → sessions.Greeted → Type 0
  Greets t g =
      (g.sessions ≡ t.state.sessions) ⊎
      ((g.sessions ≡ sessions.with_new_session (sv.sender h) (sv.life_in h) t.state.sessions) × Later t ×
      ((g.hello ≡ hellos.Welcome) ⊎ (g.hello ≡ hellos.Replaced)))

  greets : (t : ServerTurn) (rows : Bool) → Greets t (sessions.hello t.state.sessions (sv.sender h) (sv.life_in h) rows)
  unfolding sessions.hello sessions.hello_at sessions.hello_by sessions.hello_live sessions.hello_again sessions.hello_higher sessions.hello_ended
      sessions.begin_session sessions.greeted
  greets t rows = go (sessions.session_of t.state.sessions (sv.sender h)) refl
    where
      no : (y : Session) → ◌≡◌ {A = Option Session} None (Some y) → ⊥
      no y e = cc

      go : (o : Option Session) → sessions.session_of t.state.sessions (sv.sender h) ≡ o →
          Greets t (sessions.hello_at t.state.sessions (sv.sender h) (sv.life_in h) rows o)
      go None e = inr (refl, (λ y q live. absurd (no y (sym e ∙ q))), inl refl)
      go (Some s) e =
          cond_either (Greets t) (sessions.is_live s) (sessions.hello_live t.state.sessions (sv.sender h) (sv.life_in h) rows s)
          (sessions.hello_ended t.state.sessions (sv.sender h) (sv.life_in h) s)
          (λ a. cond_either (Greets t) (nat_lt (sv.life_in h).0 s.life.0) (sessions.greeted hellos.Old t.state.sessions)
          (sessions.hello_again t.state.sessions (sv.sender h) (sv.life_in h) rows s) (λ b. inl refl)
          (λ b. cond_either (Greets t) ((sv.life_in h).0 == s.life.0) (sessions.greeted hellos.Welcome t.state.sessions)
          (sessions.hello_higher t.state.sessions (sv.sender h) (sv.life_in h) rows) (λ d. inl refl)
          (λ d. cond_either (Greets t) rows (sessions.greeted hellos.Wait t.state.sessions)
          (sessions.begin_session hellos.Replaced (sv.sender h) (sv.life_in h) t.state.sessions) (λ f. inl refl)
          (λ f. inr (refl, (λ y q live. subst (λ (z : Session). z.life.0 < h.life) (some_is (sym e ∙ q)) (lower h.life s.life.0 b d)), inr refl)))))
          (λ a. cond_either (Greets t) (sessions.is_past (sv.life_in h) s) (sessions.greeted hellos.Old t.state.sessions)
          (sessions.begin_session hellos.Welcome (sv.sender h) (sv.life_in h) t.state.sessions) (λ b. inl refl)
          (λ b. inr (refl, (λ y q live. absurd (not_both (sessions.is_live s) (ap sessions.is_live (some_is (sym e ∙ q)) ∙ live) a)), inl refl)))

  -- a greeting, by what became of it
  does_greet_as : (t : ServerTurn) (g : sessions.Greeted) (x : Hello) → g.hello ≡ x → Greets t g →
      Does t bd.Hello (sv.greet_as (sv.with_sessions g.sessions t) now h x)
  unfolding sv.greet_as sv.suspect_client sv.reply
  does_greet_as t g hellos.Welcome e z = Welcomes refl (began z) (Alone refl)
    where
      began : Greets t g → (g.sessions ≡ t.state.sessions) ⊎ ((g.sessions ≡ sessions.with_new_session (sv.sender h) (sv.life_in h) t.state.sessions) × Later t)
      began (inl q) = inl q
      began (inr q) = inr (q.0, q.1)
  does_greet_as t g hellos.Replaced e z = Welcomes refl (began z) (Alone refl)
    where
      began : Greets t g → (g.sessions ≡ t.state.sessions) ⊎ ((g.sessions ≡ sessions.with_new_session (sv.sender h) (sv.life_in h) t.state.sessions) × Later t)
      began (inl q) = inl q
      began (inr q) = inr (q.0, q.1)
  does_greet_as t g hellos.Old e (inl q) = Passes q refl
  does_greet_as t g hellos.Old e (inr q) = absurd (no q.2)
    where
      no : (g.hello ≡ hellos.Welcome) ⊎ (g.hello ≡ hellos.Replaced) → ⊥
      no (inl f) = cc
      no (inr f) = cc
  does_greet_as t g hellos.Wait e (inl q) = Refuses why.Suspect now.0 0 (OfGreeting refl) q (Noting (notes.Suspected (sv.sender h) now) refl)
  does_greet_as t g hellos.Wait e (inr q) = absurd (no q.2)
    where
      no : (g.hello ≡ hellos.Welcome) ⊎ (g.hello ≡ hellos.Replaced) → ⊥
      no (inl f) = cc
      no (inr f) = cc

  does_hello : (t : ServerTurn) → Does t bd.Hello (sv.hello t now h)
  unfolding sv.hello sv.refuse_in_grace sv.greet sv.greet_by
  does_hello t =
      cond_either (Does t bd.Hello) (sv.in_grace t now) (sv.refuse_in_grace t h) (sv.greet t now h)
      (λ e. refuses t bd.Hello why.Grace (grace.grace_start t.state.grace).0 0 (OfGrace refl refl))
      (λ e. let g = sessions.hello t.state.sessions (sv.sender h) (sv.life_in h) (locks.has_rows t.state.locks (sv.sender h)) in
      does_greet_as t g g.hello refl (greets t (locks.has_rows t.state.locks (sv.sender h))))

  does_by_body : (t : ServerTurn) (b : Body) → Does t b (sv.by_body t now h b)
  unfolding sv.by_body
  does_by_body t bd.Hello = does_hello t
  does_by_body t (bd.DemandSeen ino g) = does_seen t ino g
  does_by_body t b = does_of_epoch t b

  does_refuse : (t : ServerTurn) (start : Stamp) (b : Body) → authority.started t.state.authority (sv.sender h) ≡ Some start →
      Does t b (sv.refuse_suspect t h start b)
  unfolding sv.refuse_suspect
  does_refuse t start (bd.DemandSeen ino g) e = Passes refl refl
  does_refuse t start b e = refuses t b why.Suspect start.0 0 (OfSuspect start e)

  does_by_suspicion : (t : ServerTurn) (b : Body) (o : Option Stamp) → authority.started t.state.authority (sv.sender h) ≡ o →
      Does t b (sv.by_suspicion t now h b o)
  unfolding sv.by_suspicion
  does_by_suspicion t b None e = does_by_body t b
  does_by_suspicion t b (Some start) e = does_refuse t start b e

  does_from : (t : ServerTurn) (b : Body) → Does t b (sv.receive_from t now h b)
  unfolding sv.receive_from
  does_from t b = does_by_suspicion t b (authority.started t.state.authority (sv.sender h)) refl

  -- what any message does
  pub does : (t : ServerTurn) (b : Body) → Does t b (sv.receive t now h b)
  unfolding sv.receive
  does t b = cond_either (Does t b) (sv.is_for t.state h) (sv.receive_from t now h b) t (λ e. does_from t b) (λ e. Passes refl refl)

  -- and at a server that hears these nodes
  pub does_of : (clients : ℕ → Bool) (t : ServerTurn) (b : Body) → Does t b (take_of clients t now (Control (record { header = h; body = b })))
  does_of clients t b =
      cond_either (Does t b) (hears clients t.state h) (sv.receive_from t now h b) t (λ e. does_from t b) (λ e. Passes refl refl)

  -- What is sent in answer.
  pub data IsReply (t : ServerTurn) (b : Body) (x : Body) : Type 0 where
    Refusal : (w : Why) (c d : ℕ) → Ground t b w → x ≡ bd.Nack w c d → IsReply t b x
    Kept : sv.take t h ≡ takes.Again x → IsReply t b x
    Served : is_served b ≡ true → sv.take t h ≡ takes.Fresh → counts_for b x ≡ true → IsReply t b x
    Welcome : b ≡ bd.Hello → x ≡ bd.Welcome → IsReply t b x
    Accepted : (rows : List (ℕ × GrantNo × Mode)) → b ≡ bd.Reassert rows → x ≡ bd.Reasserted → IsReply t b x

  -- a message that answers this one
  pub record Answers (t : ServerTurn) (b : Body) (m : Message) : Type 0 where
    pub body : Body
    pub is : m ≡ record { header = sv.reply_header t.state h; body = body }
    pub reply : IsReply t b body

  -- each message that was said after others is the reply
  pub said_is : (t u : ServerTurn) (x : Body) → Says t u x → (m : Message) → Has (outputs.Send m) u.out →
      Has (outputs.Send m) t.out ⊎ (m ≡ record { header = sv.reply_header t.state h; body = x })
  said_is t u x (Alone o) m i = go (has_append t.out (reply_in t x ∷ []) (outputs.Send m) (subst (Has (outputs.Send m)) o i))
    where
      go : Has (outputs.Send m) t.out ⊎ Has (outputs.Send m) (reply_in t x ∷ []) → Has (outputs.Send m) t.out ⊎
          (m ≡ record { header = sv.reply_header t.state h; body = x })
      go (inl j) = inl j
      go (inr (inl e)) = inr (sent_same e)
      go (inr (inr j)) = elim j [ ]
  said_is t u x (Noting n o) m i = go (has_append (t.out ++ outputs.Note n ∷ []) (reply_in t x ∷ []) (outputs.Send m) (subst (Has (outputs.Send m)) o i))
    where
      before : Has (outputs.Send m) t.out ⊎ Has (outputs.Send m) (outputs.Note n ∷ []) → Has (outputs.Send m) t.out ⊎
          (m ≡ record { header = sv.reply_header t.state h; body = x })
      before (inl j) = inl j
      before (inr (inl e)) = absurd (no_note e)
      before (inr (inr j)) = elim j [ ]

      go : Has (outputs.Send m) (t.out ++ outputs.Note n ∷ []) ⊎ Has (outputs.Send m) (reply_in t x ∷ []) →
          Has (outputs.Send m) t.out ⊎ (m ≡ record { header = sv.reply_header t.state h; body = x })
      go (inl j) = before (has_append t.out (outputs.Note n ∷ []) (outputs.Send m) j)
      go (inr (inl e)) = inr (sent_same e)
      go (inr (inr j)) = elim j [ ]

  pub sent_is : (t u : ServerTurn) (b : Body) → Does t b u → (m : Message) → Has (outputs.Send m) u.out → Has (outputs.Send m) t.out ⊎ Answers t b m
  sent_is t u b (Passes s o) m i = inl (subst (Has (outputs.Send m)) o i)
  sent_is t u b (Refuses w c d g s y) m i = go (said_is t u (bd.Nack w c d) y m i)
    where
      go : Has (outputs.Send m) t.out ⊎ (m ≡ record { header = sv.reply_header t.state h; body = bd.Nack w c d }) → Has (outputs.Send m) t.out ⊎ Answers t b m
      go (inl j) = inl j
      go (inr e) = inr (record { body = bd.Nack w c d; is = e; reply = Refusal w c d g refl })
  sent_is t u b (Repeats x s k y) m i = go (said_is t u x y m i)
    where
      go : Has (outputs.Send m) t.out ⊎ (m ≡ record { header = sv.reply_header t.state h; body = x }) → Has (outputs.Send m) t.out ⊎ Answers t b m
      go (inl j) = inl j
      go (inr e) = inr (record { body = x; is = e; reply = Kept k })
  sent_is t u b (Serves x v k c s y) m i = go (said_is t u x y m i)
    where
      go : Has (outputs.Send m) t.out ⊎ (m ≡ record { header = sv.reply_header t.state h; body = x }) → Has (outputs.Send m) t.out ⊎ Answers t b m
      go (inl j) = inl j
      go (inr e) = inr (record { body = x; is = e; reply = Served v k c })
  sent_is t u b (Welcomes q s y) m i = go (said_is t u bd.Welcome y m i)
    where
      go : Has (outputs.Send m) t.out ⊎ (m ≡ record { header = sv.reply_header t.state h; body = bd.Welcome }) → Has (outputs.Send m) t.out ⊎ Answers t b m
      go (inl j) = inl j
      go (inr e) = inr (record { body = bd.Welcome; is = e; reply = Welcome q refl })
  sent_is t u b (Accepts rows q l s y) m i = go (said_is t u bd.Reasserted y m i)
    where
      go : Has (outputs.Send m) t.out ⊎ (m ≡ record { header = sv.reply_header t.state h; body = bd.Reasserted }) → Has (outputs.Send m) t.out ⊎ Answers t b m
      go (inl j) = inl j
      go (inr e) = inr (record { body = bd.Reasserted; is = e; reply = Accepted rows q refl })
