-- The rule for a message keeps a server sound.
use Rattle.st_lemmas.proofs.Words
use Words.{◌≡◌, ℕ, ◌+◌, ◌-◌, ◌^◌, ◌<◌, ◌≤◌, true, false, ◌==◌, List, Option, Some, None, refl, sym, subst, arith, option_map, nat_le, Result, Ok, Err, list_all}
use Words.{and_parts, leb-true, lt-ltb, GrantNo, Stamp, Mode, Header, Body, Suspect, AcceptRefusal, Taken}
use Words.bodies
use Words.why
use Words.Kinds.{allows, is_word64}
use Words.Ranges.{are_locks, is_body, is_lock_row}
use Words.takes
use Words.Authority as authority
use Words.Grace as grace
use Words.Locks as locks
use Words.Sessions as sessions
use Words.Server as server
use Words.Server.{ServerTurn, sender, life_in}
use Words.Tables.{cond_either}
use Rattle.st_messages.specs.declared.kind.Need.TheVariants.{Positive}
use Rattle.st_rules.specs.declared.authority.AcceptRefusal.TheVariants as refusals
use Rattle.st_server.specs.Room.{HasRoom}
use Rattle.st_server.specs.Invariants.{has_start, keeps_reply}
use Rattle.st_server.proofs.Asserting.{AcceptsBy, is_told_refusal, accepts, installed_held, reasserted_good, lock_rows_each}
use Rattle.st_server.proofs.Every.{every_found}
use Rattle.st_server.proofs.SessionChanges.{Takes, taken, store_lives, store_good}
use Rattle.st_server.proofs.Sending.{IsTurn, IsAsked, reply_turn, nack_turn}
use Rattle.st_server.proofs.SoundRules.{served_turn, sessions_turn, more_turn, hello_turn, seen_turn}
use Rattle.st_server.proofs.Ruling.{rule_answer}

-- What a client's message is, by its kind: a greeting has no number, a seen demand has neither number nor stamp, and a request
-- has a number.
abbrev pub IsNumbered : Header → Body → Type 0
IsNumbered h bodies.Hello = (h.number == 0) ≡ true
IsNumbered h (bodies.DemandSeen ino g) = Unit {0}
IsNumbered h b = allows Positive h.number ≡ true

-- Keeping a reply.
keep_turn : (n : ℕ) (t : ServerTurn) (h : Header) (o : Option Body) → IsAsked h → allows Positive h.number ≡ true → keeps_reply o ≡ true → IsTurn n t → IsTurn n (server.keep h t o)
unfolding server.keep server.keep_and_reply
keep_turn n t h None a e k p = p
keep_turn n t h (Some b) a e k p =
    reply_turn n (server.with_sessions (sessions.store t.state.sessions (sender h) h.number b) t) h b a e k
    (sessions_turn n t (sessions.store t.state.sessions (sender h) h.number b) (store_lives t.state.sessions (sender h) h.number b) (store_good t.state.sessions (sender h) h.number b k p.sound.kept) p)

module _ (n : ℕ) (t : ServerTurn) (p : IsTurn n t) (now : Stamp) (word : is_word64 now.0 ≡ true) (h : Header) (a : IsAsked h) where
  same : IsTurn (n + 1) t
  same = more_turn n (n + 1) t (omega arith) p

  epoch_refused : is_word64 h.epoch ≡ true → is_word64 t.state.stable.epoch.0 ≡ true → IsTurn (n + 1) (server.refuse_epoch t h)
  unfolding server.refuse_epoch
  epoch_refused e f = nack_turn (n + 1) t h why.OtherEpoch h.epoch t.state.stable.epoch.0 a e f same

  own_word : is_word64 t.state.stable.epoch.0 ≡ true
  own_word =
      let q = and_parts (nat_le 1 t.state.stable.epoch.0) (nat_le t.state.stable.epoch.0 (2 ^ 32 - 1)) p.sound.epoch in
      let high : t.state.stable.epoch.0 ≤ 4294967295 = leb-true t.state.stable.epoch.0 4294967295 q.1 in
      lt-ltb t.state.stable.epoch.0 (2 ^ 64) (omega (arith, high))

  -- Reassertion.
  refused_turn : (r : AcceptRefusal) → is_told_refusal r ≡ true → IsTurn (n + 1) (server.reply t h (server.refused_reassertion r))
  refused_turn (refusals.GraceOver start at) e = let q = and_parts (is_word64 start.0) (is_word64 at.0) e in nack_turn (n + 1) t h why.GraceOver start.0 at.0 a q.0 q.1 same
  refused_turn (refusals.Conflict ino holder) e = let q = and_parts (is_word64 ino) (is_word64 holder.0) e in nack_turn (n + 1) t h why.Conflict ino holder.0 a q.0 q.1 same
  refused_turn (refusals.NotHolder ino g) e = let q = and_parts (is_word64 ino) (is_word64 g.0) e in nack_turn (n + 1) t h why.NotHolder ino g.0 a q.0 q.1 same

  by_turn : (rows : List (ℕ × GrantNo × Mode)) (r : Result grace.Accepted AcceptRefusal) → list_all (is_lock_row 1) rows ≡ true → allows Positive h.number ≡ true →
      sessions.knows t.state.sessions (sender h) (life_in h) ≡ false → AcceptsBy t.state.locks t.state.sessions (sender h) (life_in h) rows r → IsTurn (n + 1) (server.reassert_by t h r)
  unfolding server.reassert_by is_body
  by_turn rows (Ok x) e f k s =
      let held = installed_held n t.state.stable.epoch t.state.sessions t.state.locks (sender h) (life_in h) rows a.from a.life e k p.sound.held in
      let v : ServerTurn = server.with_sessions (sessions.reasserted t.state.sessions (sender h) (life_in h)) (server.with_locks (locks.with_rows t.state.locks (sender h) (life_in h) rows) t) in
      let q : IsTurn n v = served_turn n n t (sessions.reasserted t.state.sessions (sender h) (life_in h)) (locks.with_rows t.state.locks (sender h) (life_in h) rows) held (reasserted_good t.state.sessions (sender h) (life_in h) p.sound.kept) p in
      subst (λ (w : ServerTurn). IsTurn (n + 1) (server.reply w h bodies.Reasserted))
      (λ i. server.with_sessions (sym s.sessions_are i) (server.with_locks (sym s.locks_are i) t))
      (reply_turn (n + 1) v h bodies.Reasserted a f refl (more_turn n (n + 1) v (omega arith) q))
  by_turn rows (Err r) e f k s = refused_turn r s

  again_turn : (x : Taken Body) → allows Positive h.number ≡ true → Takes (sessions.session_of t.state.sessions (sender h)) (life_in h) x → IsTurn (n + 1) (server.reassert_again t h x)
  unfolding server.reassert_again
  again_turn (takes.Again b) f k = reply_turn (n + 1) t h b a f k same
  again_turn takes.OtherEpoch f k = same
  again_turn takes.NoSession f k = same
  again_turn takes.Stale f k = same
  again_turn takes.Fresh f k = same
  again_turn takes.OutOfOrder f k = same

  takes_here : Takes (sessions.session_of t.state.sessions (sender h)) (life_in h) (server.take t h)
  takes_here = taken t.state.sessions (sender h) (life_in h) (server.epoch_in h) h.number p.sound.kept

  reassert_turn : (rows : List (ℕ × GrantNo × Mode)) → are_locks rows ≡ true → allows Positive h.number ≡ true → IsTurn (n + 1) (server.reassert t now h rows)
  unfolding server.reassert server.reassert_new
  reassert_turn rows e f =
      cond_either (IsTurn (n + 1)) (sessions.knows t.state.sessions (sender h) (life_in h)) (server.reassert_again t h (server.take t h)) (server.reassert_new t now h rows)
      (λ q. again_turn (server.take t h) f takes_here)
      (λ q. by_turn rows (grace.accept t.state.grace now (sender h) (life_in h) rows t.state.locks t.state.sessions) (lock_rows_each rows e) f q
      (accepts t.state.stable.epoch t.state.sessions t.state.locks p.sound.held.rows (sender h) (life_in h) a.from t.state.grace now rows (lock_rows_each rows e) p.sound.graced word))

  -- Requests.
  module _ (room : HasRoom t.state) (few : n < 2 ^ 32 - 1) where
    by_taken : (b : Body) (x : Taken Body) → is_body b ≡ true → allows Positive h.number ≡ true → is_word64 h.epoch ≡ true →
        Takes (sessions.session_of t.state.sessions (sender h)) (life_in h) x → IsTurn (n + 1) (server.request_by t now h b x)
    unfolding server.request_by server.serve
    by_taken b takes.OtherEpoch e f w k = epoch_refused w own_word
    by_taken b takes.NoSession e f w k = nack_turn (n + 1) t h why.NoSession 0 0 a refl refl same
    by_taken b takes.Stale e f w k = same
    by_taken b (takes.Again kept) e f w k = reply_turn (n + 1) t h kept a f k same
    by_taken b takes.OutOfOrder e f w k = same
    by_taken b takes.Fresh e f w k =
        let r = rule_answer n t h (record { turn = p; room = room; few = few; asked = a; lived = k }) now b e in
        keep_turn (n + 1) (server.rule t now h b).turn h (server.rule t now h b).reply a f r.reply r.turn

    request_turn : (b : Body) → is_body b ≡ true → allows Positive h.number ≡ true → is_word64 h.epoch ≡ true → IsTurn (n + 1) (server.request t now h b)
    unfolding server.request is_body
    request_turn (bodies.Reassert rows) e f w = reassert_turn rows e f
    request_turn b e f w = by_taken b (server.take t h) e f w takes_here

    epoch_turn : (b : Body) → is_body b ≡ true → allows Positive h.number ≡ true → is_word64 h.epoch ≡ true → IsTurn (n + 1) (server.of_epoch t now h b)
    unfolding server.of_epoch
    epoch_turn b e f w =
        cond_either (IsTurn (n + 1)) (h.epoch == t.state.stable.epoch.0) (server.request t now h b) (server.refuse_epoch t h) (λ q. request_turn b e f w) (λ q. epoch_refused w own_word)

    body_turn : (b : Body) → is_body b ≡ true → IsNumbered h b → is_word64 h.epoch ≡ true → IsTurn (n + 1) (server.by_body t now h b)
    unfolding server.by_body
    body_turn bodies.Hello e f w = hello_turn (n + 1) t now h word a f same
    body_turn (bodies.DemandSeen ino g) e f w = seen_turn (n + 1) t h ino g same
    body_turn b e f w = epoch_turn b e f w

    suspect_refused : (start : Stamp) (b : Body) → is_word64 start.0 ≡ true → IsTurn (n + 1) (server.refuse_suspect t h start b)
    unfolding server.refuse_suspect
    suspect_refused start (bodies.DemandSeen ino g) e = same
    suspect_refused start b e = nack_turn (n + 1) t h why.Suspect start.0 0 a e refl same

    by_suspicion_turn : (b : Body) (o : Option Stamp) → is_body b ≡ true → IsNumbered h b → is_word64 h.epoch ≡ true → ((s : Stamp) → o ≡ Some s → is_word64 s.0 ≡ true) → IsTurn (n + 1) (server.by_suspicion t now h b o)
    unfolding server.by_suspicion
    by_suspicion_turn b None e f w k = body_turn b e f w
    by_suspicion_turn b (Some start) e f w k = suspect_refused start b (k start refl)

    started_word : (s : Stamp) → authority.started t.state.authority (sender h) ≡ Some s → is_word64 s.0 ≡ true
    started_word s e = go (authority.suspect_of t.state.authority (sender h)) refl e
      where
        go : (o : Option Suspect) → authority.suspect_of t.state.authority (sender h) ≡ o → option_map authority.start_of o ≡ Some s → is_word64 s.0 ≡ true
        go None q r = cc
        go (Some x) q r =
            let same : x.start ≡ s = cc in
            subst (λ (v : Stamp). is_word64 v.0 ≡ true) same (every_found has_start (authority.is_suspect (sender h)) t.state.authority.suspects x p.sound.timed q)

    pub from_turn : (b : Body) → is_body b ≡ true → IsNumbered h b → is_word64 h.epoch ≡ true → IsTurn (n + 1) (server.receive_from t now h b)
    unfolding server.receive_from
    from_turn b e f w = by_suspicion_turn b (authority.started t.state.authority (sender h)) e f w started_word
