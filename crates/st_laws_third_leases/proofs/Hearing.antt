-- A client of the third form hears a message: it does what a client of the first two forms does, except that it takes only a fresh welcome, answers a demand
-- also while a release waits, and may give a lock back.
use Rattle.st_lemmas.proofs.Words
use Words.{◌≡◌, ◌+◌, ◌≤◌, ◌⊎◌, ℕ, Bool, true, false, ◌==◌, List, [], ◌∷◌, ◌++◌, Option, Some, None, find, refl, sym, ap, ◌∙◌, subst, inl}
use Words.{inr, if◌then◌else◌}
use Words.{is_some, nat_lt, ltb-true, lt-ltb, Asked, Body, GrantNo, Header, Message, Mode, Operation, Request, Stamp, Why}
use Words.bodies
use Words.outputs
use Words.why
use Words.ClientLease as lease
use Words.ClientLocks as locks
use Words.ClientReplies as cr
use Words.ClientState as cs
use Words.ClientState.{Association, ClientSession, Requests, Turn, forget_wait, reasserts, send, with_cache}
use Words.Lists.{Has}
use Words.Tables.{and_both, and_true, cond_either, has_append}
use Words.Truth.{not_both}
use Rattle.st_rules.specs.declared.client.Asked.TheVariants.{Reduce, NotHeld, Stale}
use Rattle.st_third.specs.GiveBack as giving
use Rattle.st_third.specs.Limits.{limited_session}
use Rattle.st_third.specs.Replies as third
use Rattle.st_third.specs.Runs as runs
use Rattle.st_third.specs.State.{ThirdTurn, all_said, plain_output, plainly, session}
use Rattle.st_third.specs.UsedOnce as used
use Rattle.st_laws_healthy.proofs.Counting.{IsEnded}
use Rattle.st_laws_healthy.proofs.Hearing as first
use Rattle.st_laws_healthy.proofs.Hearing.{is_received, received_from}
use Rattle.st_laws_healthy.proofs.Passing.{Alike, alike_self, alike_then, follows_then, unsent}
use Rattle.st_laws_healthy.proofs.Queues.{longer_then}
use Rattle.st_laws_healthy.proofs.Receiving.{Ended, Kept, Received}
use Rattle.st_laws_healthy.proofs.Taking.{IsSeen, SawDemand, receive_seen}
use Rattle.st_laws_healthy.proofs.Walking.{Hears, IsReceived, Meets, Met, Unmet}
use Rattle.st_laws_third.proofs.Chains.{left_has, right_has}
use Rattle.st_laws_third_leases.proofs.Idle.{LeavesAlike, Sent, gives_back, said_plainly, sent_plainly}

-- What is heard leaves a session alike to what the first two forms make of it, and says no more messages but that a demand was seen.
pub record HeardAs (t : ThirdTurn) (p : Turn) (u : ThirdTurn) : Type 0 where
  pub session : Alike p.here.session (session u)
  pub says : (m : Message) → Sent (all_said u) m → Sent (all_said t) m ⊎ (Has (outputs.Send m) p.out ⊎ IsSeen m.body)

heard_still : (t : ThirdTurn) → HeardAs t t.plain t
heard_still t = record { session = alike_self (session t); says = λ m h. inl h }

heard_either : (b : Bool) (t : ThirdTurn) (p q : Turn) (u v : ThirdTurn) → HeardAs t p u → HeardAs t q v →
    HeardAs t (if b then p else q) (if b then u else v)
heard_either true t p q u v x y = x
heard_either false t p q u v x y = y

-- the same turn of the first two forms, whatever is beside it
heard_same : (t : ThirdTurn) (p : Turn) (u : ThirdTurn) → u.plain ≡ p → u.said ≡ t.said → HeardAs t p u
heard_same t p u e s =
    record {
      session = subst (λ (x : Turn). Alike p.here.session x.here.session) (sym e) (alike_self p.here.session);
      says = λ m h. go m (has_append u.said (Words.map plain_output u.plain.out) _ h);
    }
  where
    go : (m : Message) → Sent u.said m ⊎ Sent (Words.map plain_output u.plain.out) m → Sent (all_said t) m ⊎ (Has (outputs.Send m) p.out ⊎ IsSeen m.body)
    go m (inl h) = inl (left_has t.said (Words.map plain_output t.plain.out) _ (subst (λ os. Sent os m) s h))
    go m (inr h) = inr (inl (subst (λ (x : Turn). Has (outputs.Send m) x.out) e (sent_plainly u.plain.out m h)))

heard_plainly : (t : ThirdTurn) (rule : Turn → Turn) → HeardAs t (rule t.plain) (plainly rule t)
unfolding plainly
heard_plainly t rule = heard_same t (rule t.plain) (plainly rule t) refl refl

-- after what says no message
heard_after : (t v : ThirdTurn) (p : Turn) (u : ThirdTurn) → ((m : Message) → Sent (all_said v) m → Sent (all_said t) m) → HeardAs v p u → HeardAs t p u
heard_after t v p u q x = record { session = x.session; says = λ m h. go m (x.says m h) }
  where
    go : (m : Message) → Sent (all_said v) m ⊎ (Has (outputs.Send m) p.out ⊎ IsSeen m.body) →
        Sent (all_said t) m ⊎ (Has (outputs.Send m) p.out ⊎ IsSeen m.body)
    go m (inl h) = inl (q m h)
    go m (inr h) = inr h

-- the session is alike already, and nothing more is sent
heard_alike : (t : ThirdTurn) (p : Turn) (u : ThirdTurn) → Alike p.here.session (session t) → LeavesAlike t u → HeardAs t p u
heard_alike t p u a l = record { session = alike_then p.here.session (session t) (session u) a l.session; says = λ m h. inl (l.quiet m h) }

-- The end of a request says no message.
renewal_quiet : (t : Turn) (s : ClientSession) (stamp : Stamp) (m : Message) → Has (outputs.Send m) (cr.end_request t s stamp).out → Has (outputs.Send m) t.out
unfolding cr.end_request cr.note_renewal cr.note_lease
renewal_quiet t s stamp m h = go (lease.is_renewal stamp s.lease) h
  where
    go : (b : Bool) → Has (outputs.Send m) (if b then cr.note_lease (lease.renewed stamp s.lease) t else t).out → Has (outputs.Send m) t.out
    go true h = unsent t.out _ (λ m e. cc) m h
    go false h = h

end_quiet : (t : ThirdTurn) (s : ClientSession) (stamp : Stamp) (m : Message) → Sent (all_said (third.end_request t s stamp)) m → Sent (all_said t) m
unfolding plainly
end_quiet t s stamp m h = go (has_append t.said (Words.map plain_output (cr.end_request t.plain s stamp).out) _ h)
  where
    go : Sent t.said m ⊎ Sent (Words.map plain_output (cr.end_request t.plain s stamp).out) m → Sent (all_said t) m
    go (inl i) = left_has t.said (Words.map plain_output t.plain.out) _ i
    go (inr i) =
        right_has t.said (Words.map plain_output t.plain.out) _
        (said_plainly t.plain.out m (renewal_quiet t.plain s stamp m (sent_plainly (cr.end_request t.plain s stamp).out m i)))

ended_session : (t : ThirdTurn) (s : ClientSession) (stamp : Stamp) → session (third.end_request t s stamp) ≡ Some (cr.ended_by stamp s)
unfolding plainly cr.end_request
ended_session t s stamp = refl

-- a refusal leaves the session
refused_session : (v : Turn) (w : Why) (a b : ℕ) (file : Option ℕ) (asked : Body) → (cr.refused v w a b file asked).here ≡ v.here
unfolding cr.refused cr.leave_stuck cr.refuse_as cr.refuse_file cr.refuse_page cr.refuse_holder cs.answer_each
refused_session v w a b file asked = by w file
  where
    page : (file : Option ℕ) (p : Option Words.PageNo) → (cr.refuse_page v (Words.answers.NoSpace a b) file p).here ≡ v.here
    page (Some ino) (Some p) = refl
    page (Some ino) None = refl
    page None p = refl

    holder : (x : Bool) → (if x then cs.answer_each (cs.is_asked v.here.server) Words.answers.NotHolder v else v).here ≡ v.here
    holder true = refl
    holder false = refl

    on_file : (answer : Words.AppAnswer) (file : Option ℕ) → (cr.refuse_file v answer file).here ≡ v.here
    on_file answer (Some ino) = refl
    on_file answer None = refl

    by : (w : Why) (file : Option ℕ) → (cr.refuse_as v w a b file asked).here ≡ v.here
    by why.NoFile file = on_file Words.answers.NoFile file
    by why.TooManyLocks file = on_file Words.answers.TooManyLocks file
    by why.NoSpace file = page file (cs.page_asked asked)
    by why.NotHolder file = holder (cs.asks_cut_or_remove asked)
    by w file = refl

-- one more message, which tells that a demand was seen
seen_sent : (os : List Words.Output) (x : Message) (ino : ℕ) (g : GrantNo) → x.body ≡ bodies.DemandSeen ino g → (m : Message) →
    Has (outputs.Send m) (os ++ outputs.Send x ∷ []) → Has (outputs.Send m) os ⊎ IsSeen m.body
seen_sent os x ino g e m h = go (has_append os (outputs.Send x ∷ []) (outputs.Send m) h)
  where
    same : outputs.Send m ≡ outputs.Send x → m ≡ x
    same q = cc

    go : Has (outputs.Send m) os ⊎ Has (outputs.Send m) (outputs.Send x ∷ []) → Has (outputs.Send m) os ⊎ IsSeen m.body
    go (inl j) = inl j
    go (inr (inl q)) = inr (subst IsSeen (sym (ap (λ (y : Message). y.body) (same q) ∙ e)) (SawDemand ino g))
    go (inr (inr j)) = absurd j

module _ (now : Stamp) where
  module _ (s : ClientSession) where
    -- A grant
    heard_granted : (t : ThirdTurn) (ino : ℕ) (g : GrantNo) (mode : Mode) → HeardAs t (cr.granted t.plain s ino g mode) (used.granted t s ino g mode)
    unfolding used.granted used.grant used.owe cr.granted plainly
    heard_granted t ino g mode = go (used.is_installed (forget_wait ino s) ino g)
      where
        go : (b : Bool) →
            HeardAs t (cr.granted t.plain s ino g mode)
            (if b then used.owe (used.take_grant t (forget_wait ino s) ino g mode) ino mode else used.take_grant t (forget_wait ino s) ino g mode)
        go true = heard_same t (cr.granted t.plain s ino g mode) _ refl refl
        go false = heard_same t (cr.granted t.plain s ino g mode) _ refl refl

    -- A demand
    heard_demand : (t : ThirdTurn) (ino : ℕ) (g : GrantNo) (to : Mode) → HeardAs t (cr.demand t.plain s ino g to) (third.demand t s ino g to)
    unfolding third.demand cr.demand cr.demand_by plainly cr.demand_as cr.observe_demand send
    heard_demand t ino g to = go (locks.demand s.locks ino g to).asked
      where
        r : ClientSession
        r = with_cache (locks.demand s.locks ino g to).locks s

        go : (a : Asked) → HeardAs t (cr.demand_as t.plain r ino g a) (plainly (third.demand_as r ino g a) t)
        go Reduce = heard_same t (cr.demand_as t.plain r ino g Reduce) _ refl refl
        go Stale = heard_same t (cr.demand_as t.plain r ino g Stale) _ refl refl
        go NotHeld =
            record {
              session = alike_self (Some (cr.release_unheld r ino g));
              says = λ m h. by m (has_append t.said (Words.map plain_output (cr.observe_demand t.plain (cr.release_unheld r ino g) ino g).out) _ h);
            }
          where
            earlier : (m : Message) → Has (outputs.Send m) t.plain.out ⊎ IsSeen m.body →
                Sent (all_said t) m ⊎ (Has (outputs.Send m) (cr.demand_as t.plain r ino g NotHeld).out ⊎ IsSeen m.body)
            earlier m (inl h) = inl (right_has t.said (Words.map plain_output t.plain.out) _ (said_plainly t.plain.out m h))
            earlier m (inr h) = inr (inr h)

            by : (m : Message) → Sent t.said m ⊎ Sent (Words.map plain_output (cr.observe_demand t.plain (cr.release_unheld r ino g) ino g).out) m →
                Sent (all_said t) m ⊎ (Has (outputs.Send m) (cr.demand_as t.plain r ino g NotHeld).out ⊎ IsSeen m.body)
            by m (inl h) = inl (left_has t.said (Words.map plain_output t.plain.out) _ h)
            by m (inr h) =
                earlier m
                (seen_sent t.plain.out _ ino g refl m (sent_plainly (cr.observe_demand t.plain (cr.release_unheld r ino g) ino g).out m h))

    -- A counting reply
    module _ (t : ThirdTurn) (stamp : Stamp) where
      abbrev v : ThirdTurn
      v = third.end_request t s stamp

      abbrev before : Body → Body → Turn
      before reply asked = cr.count_reply t.plain s now stamp reply asked

      heard_reply : (reply asked : Body) → HeardAs t (before reply asked) (plainly (third.plain_reply s now stamp reply asked) t)
      heard_reply reply asked = heard_plainly t (third.plain_reply s now stamp reply asked)

      -- the first two forms leave the session that the request's end leaves
      ended_as : (w : Why) (a b : ℕ) (asked : Body) → reasserts asked ≡ false → (before (bodies.Nack w a b) asked).here.session ≡ Some (cr.ended_by stamp s)
      unfolding cr.count_reply cr.reply_to cr.effect cr.end_request
      ended_as w a b asked n =
          ap (λ x. (if x then cr.condemn t.plain s else cr.reply_to t.plain s now stamp (bodies.Nack w a b) asked).here.session) n
          ∙ ap (λ (x : Association). x.session) (refused_session (cr.end_request t.plain s stamp) w a b (cs.file_asked s.cutting asked) asked)

      alike_ended : (w : Why) (a b : ℕ) (asked : Body) → reasserts asked ≡ false → Alike (before (bodies.Nack w a b) asked).here.session (session v)
      alike_ended w a b asked n =
          subst (λ o. Alike o (session v)) (sym (ended_as w a b asked n))
          (subst (Alike (Some (cr.ended_by stamp s))) (sym (ended_session t s stamp)) (alike_self (Some (cr.ended_by stamp s))))

      heard_full : (a b ino : ℕ) (mode : Mode) →
          HeardAs t (before (bodies.Nack why.TooManyLocks a b) (bodies.Acquire ino mode)) (giving.full_at v (cr.ended_by stamp s) now ino)
      unfolding giving.full_at giving.give_at
      heard_full a b ino mode =
          heard_after t v _ _ (end_quiet t s stamp)
          (heard_after v w _ _ (λ m h. h) (go (find (giving.needs_file v ino) v.plain.operations)))
        where
          w : ThirdTurn
          w = giving.with_full now v

          p : Turn
          p = before (bodies.Nack why.TooManyLocks a b) (bodies.Acquire ino mode)

          same : Alike p.here.session (session w)
          same = alike_ended why.TooManyLocks a b (bodies.Acquire ino mode) refl

          go : (o : Option Operation) → HeardAs w p (giving.give_at w (cr.ended_by stamp s) o)
          go None = record { session = same; says = λ m h. inl h }
          go (Some o) = heard_alike w p _ same (gives_back (cr.ended_by stamp s) w o (ended_session t s stamp))

      heard_no_space : (free wanted ino : ℕ) (g : GrantNo) (q : Words.PageNo) (count : ℕ) →
          HeardAs t (before (bodies.Nack why.NoSpace free wanted) (bodies.Allocate ino g q count))
          (third.no_space t s now stamp free wanted count (bodies.Allocate ino g q count))
      unfolding third.no_space
      heard_no_space free wanted ino g q count = go (runs.is_partly_free free count)
        where
          p : Turn
          p = before (bodies.Nack why.NoSpace free wanted) (bodies.Allocate ino g q count)

          go : (b : Bool) →
              HeardAs t p
              (if b then runs.with_run_limit free v
              else plainly (third.plain_reply s now stamp (bodies.Nack why.NoSpace free wanted) (bodies.Allocate ino g q count)) t)
          go true =
              record {
                session = alike_ended why.NoSpace free wanted (bodies.Allocate ino g q count) refl;
                says = λ m h. inl (end_quiet t s stamp m h);
              }
          go false = heard_reply (bodies.Nack why.NoSpace free wanted) (bodies.Allocate ino g q count)

      heard_refused : (w : Why) (a b : ℕ) (asked : Body) → HeardAs t (before (bodies.Nack w a b) asked) (third.refused t s now stamp w a b asked)
      unfolding third.refused
      heard_refused why.TooManyLocks a b (bodies.Acquire ino mode) = heard_full a b ino mode
      heard_refused why.NoSpace a b (bodies.Allocate ino g q count) = heard_no_space a b ino g q count
      heard_refused w a b asked = heard_reply (bodies.Nack w a b) asked

      heard_counted : (reply asked : Body) → HeardAs t (before reply asked) (third.count_reply t s now stamp reply asked)
      unfolding third.count_reply runs.run_restored cr.count_reply cr.reply_to cr.effect cr.end_request cr.granted used.granted used.grant used.owe plainly
      heard_counted (bodies.Granted ino g mode) asked = heard_after t v _ _ (end_quiet t s stamp) (grant (cr.ended_by stamp s))
        where
          grant : (z : ClientSession) → HeardAs v (before (bodies.Granted ino g mode) asked) (used.granted v (cr.ended_by stamp s) ino g mode)
          grant z = go (used.is_installed (forget_wait ino (cr.ended_by stamp s)) ino g)
            where
              y : ClientSession
              y = forget_wait ino (cr.ended_by stamp s)

              go : (b : Bool) →
                  HeardAs v (before (bodies.Granted ino g mode) asked)
                  (if b then used.owe (used.take_grant v y ino g mode) ino mode else used.take_grant v y ino g mode)
              go true = heard_same v (before (bodies.Granted ino g mode) asked) _ refl refl
              go false = heard_same v (before (bodies.Granted ino g mode) asked) _ refl refl
      heard_counted (bodies.Extents ino rows) asked = go (runs.is_allocated s asked)
        where
          u : ThirdTurn
          u = plainly (third.plain_reply s now stamp (bodies.Extents ino rows) asked) t

          go : (b : Bool) → HeardAs t (before (bodies.Extents ino rows) asked) (if b then runs.with_run_limit Rattle.st_third.specs.State.RUN u else u)
          go true = heard_same t (before (bodies.Extents ino rows) asked) _ refl refl
          go false = heard_same t (before (bodies.Extents ino rows) asked) _ refl refl
      heard_counted (bodies.Nack w a b) asked = heard_refused w a b asked
      heard_counted reply asked = heard_reply reply asked

    -- A reply
    heard_replied : (t : ThirdTurn) (h : Header) (reply : Body) → HeardAs t (cr.reply_of t.plain s now h reply) (third.reply_of t s now h reply)
    unfolding third.reply_of third.counted third.by_request cr.reply_of cr.counted cr.by_request
    heard_replied t h reply = go s.requests.asked
      where
        stamp : Stamp
        stamp = record { 0 = h.stamp }

        go : (o : Option Request) → HeardAs t (cr.counted t.plain s now h.number stamp reply o) (third.counted t s now h.number stamp reply o)
        go None = heard_still t
        go (Some q) = heard_either (cr.is_counting h.number reply q) t _ _ _ _ (heard_counted t stamp reply q.body) (heard_still t)

    heard_nack : (t : ThirdTurn) (h : Header) (w : Why) (a b : ℕ) → HeardAs t (cr.nack t.plain s now h w a b) (third.nack t s now h w a b)
    unfolding third.nack
    heard_nack t h why.Suspect a b = heard_plainly t (third.condemned s)
    heard_nack t h why.NoSession a b = heard_plainly t (third.condemned s)
    heard_nack t h why.OtherEpoch a b = heard_still t
    heard_nack t h why.Grace a b = heard_still t
    heard_nack t h why.GraceOver a b = heard_plainly t (third.condemned s)
    heard_nack t h why.Conflict a b = heard_plainly t (third.condemned s)
    heard_nack t h w a b = heard_replied t h (bodies.Nack w a b)

    heard_in_epoch : (t : ThirdTurn) (h : Header) (body : Body) → HeardAs t (cr.of_epoch t.plain s now h body) (third.of_epoch t s now h body)
    unfolding third.of_epoch third.grant_or_reply cr.of_epoch cr.grant_or_reply
    heard_in_epoch t h (bodies.Nack w a b) = heard_nack t h w a b
    heard_in_epoch t h (bodies.Granted ino g mode) =
        heard_either (h.number == 0) t _ _ _ _ (heard_granted t ino g mode) (heard_replied t h (bodies.Granted ino g mode))
    heard_in_epoch t h (bodies.Demand ino g to) = heard_demand t ino g to
    heard_in_epoch t h body = heard_replied t h body

  -- With a session a message does what it does in the first two forms.
  pub heard_as : (t : ThirdTurn) (h : Header) (body : Body) (s : ClientSession) → session t ≡ Some s →
      HeardAs t (cr.receive_at now h body t.plain) (third.receive_at now h body t)
  unfolding third.receive_at cr.receive_at third.by_session third.with_a_session cr.by_session cr.with_a_session
  heard_as t h body s e =
      heard_either (cr.is_received t.plain now h) t _ _ _ _
      (subst (λ o. HeardAs t (cr.by_session t.plain now h body o) (third.by_session t now h body o)) (sym e) with_it) (heard_still t)
    where
      with_it : HeardAs t (cr.by_session t.plain now h body (Some s)) (third.by_session t now h body (Some s))
      with_it =
          heard_either (h.epoch == s.epoch.0) t _ _ _ _ (heard_in_epoch s t h body) (heard_plainly t (third.of_other_epoch s (record { 0 = h.epoch }) body))

-- What a message ended, or does, as far as a session is alike.
ended_alike : (z : ClientSession) (stamp : ℕ) (o p : Option ClientSession) → IsEnded z stamp o → Alike o p → IsEnded z stamp p
ended_alike z stamp o p x a =
    let f = subst (λ q. Alike q p) x.is a in
    record {
      session = f.session;
      is = f.is;
      epoch = f.epoch ∙ x.epoch;
      rests = ap (λ (r : Requests). r.asked) f.requests ∙ x.rests;
      next = ap (λ (r : Requests). r.next) f.requests ∙ x.next;
      date = subst (λ (l : lease.ClientLease). stamp ≤ l.date.0) (sym f.lease) x.date;
      later = subst (λ (l : lease.ClientLease). z.lease.date.0 ≤ l.date.0) (sym f.lease) x.later;
      sound = ap (λ (l : lease.ClientLease). l.condemned) f.lease ∙ x.sound;
      due = λ e. x.due (sym f.due ∙ e);
      releases = longer_then z.releases x.session.releases f.session.releases x.releases f.releases;
    }

received_alike : (z : ClientSession) (h : Header) (b : Body) (o p : Option ClientSession) → Received z h b o → Alike o p → Received z h b p
received_alike z h b o p (Kept f) a = Kept (follows_then z o p f a)
received_alike z h b o p (Ended q e n c x) a = Ended q e n c (ended_alike z h.stamp o p x a)

-- what is not received changes nothing
passed_by : (t : ThirdTurn) (now : Stamp) (h : Header) (b : Body) → (IsReceived t.plain.here now h → ⊥) → third.receive_at now h b t ≡ t
unfolding third.receive_at
passed_by t now h b e =
    cond_either (λ (u : ThirdTurn). u ≡ t) (cr.is_received t.plain now h) (third.by_session t now h b t.plain.here.session) t
    (λ f. absurd (e (received_from t.plain now h f))) (λ f. refl)

-- What becomes of an association without a session.
meets : (t : ThirdTurn) (now : Stamp) (m : Message) → session t ≡ None →
    Meets t.plain.config.renew now m t.plain.here (third.receive_at now m.header m.body t).plain.here
unfolding third.receive_at third.by_session third.without_session third.welcome cr.note_lease plainly
meets t now m none =
    cond_either M (cr.is_received t.plain now m.header) (third.by_session t now m.header m.body t.plain.here.session) t
    (λ r. subst (λ o. M (third.by_session t now m.header m.body o)) (sym none) (by m.body refl r))
    (λ r. Unmet none refl (λ got e g l. not_both (cr.is_received t.plain now m.header) (is_received t.plain now m.header got) r))
  where
    M : ThirdTurn → Type 0
    M u = Meets t.plain.config.renew now m t.plain.here u.plain.here

    stamp : Stamp
    stamp = record { 0 = m.header.stamp }

    by : (b : Body) → m.body ≡ b → cr.is_received t.plain now m.header ≡ true → M (third.by_session t now m.header b None)
    by bodies.Welcome e r =
        cond_either M (third.is_fresh t.plain now stamp) (third.begin_session t (record { 0 = m.header.epoch }) stamp) t
        (λ f. Met (limited_session t.limits (cr.new_session (record { 0 = m.header.epoch }) stamp)) (received_from t.plain now m.header r) e
        (ltb-true now.0 (m.header.stamp + t.plain.config.renew)
        (and_true (is_some t.plain.here.greeting) (nat_lt now.0 (m.header.stamp + t.plain.config.renew)) f).1) refl
        (record { epoch = refl; settled = refl; sound = refl; next = refl; rests = refl; date = refl }))
        (λ f. Unmet none refl (λ got e g l. not_both (third.is_fresh t.plain now stamp)
        (and_both (is_some t.plain.here.greeting) (nat_lt now.0 (m.header.stamp + t.plain.config.renew)) g
        (lt-ltb now.0 (m.header.stamp + t.plain.config.renew) l)) f))
    by b e r = Unmet none refl (λ got f g l. no (sym e ∙ f))
      where
        no : b ≡ bodies.Welcome → ⊥
        no g = cc

-- a client of the third form
pub hears : (t : ThirdTurn) (now : Stamp) (m : Message) →
    Hears t.plain.config.renew now m t.plain.here (third.receive_at now m.header m.body t).plain.here
hears t now m =
    record {
      passes = λ e. ap (λ (u : ThirdTurn). session u) (passed_by t now m.header m.body e);
      received = λ z there sound plain l calm.
          received_alike z m.header m.body (cr.receive_at now m.header m.body t.plain).here.session _
          ((first.hears t.plain now m).received z there sound plain l calm) (heard_as now t m.header m.body z there).session;
      counted = λ z q there sound asked number plain got epoch pos counts.
          ended_alike z m.header.stamp (cr.receive_at now m.header m.body t.plain).here.session _
          ((first.hears t.plain now m).counted z q there sound asked number plain got epoch pos counts) (heard_as now t m.header m.body z there).session;
      meets = λ none. meets t now m none;
    }

-- What it sends is that a demand was seen.
begun_quiet : (t : ThirdTurn) (now : Stamp) (h : Header) (b : Body) (m : Message) → Sent (all_said (third.without_session t now h b)) m → Sent (all_said t) m
unfolding third.without_session third.welcome plainly cr.note_lease
begun_quiet t now h bodies.Welcome m x = go (third.is_fresh t.plain now stamp) x
  where
    stamp : Stamp
    stamp = record { 0 = h.stamp }

    begun : Sent (all_said (third.begin_session t (record { 0 = h.epoch }) stamp)) m → Sent (all_said t) m
    begun x = by (has_append t.said (Words.map plain_output (third.session_begun t.limits (record { 0 = h.epoch }) stamp t.plain).out) _ x)
      where
        by : Sent t.said m ⊎ Sent (Words.map plain_output (third.session_begun t.limits (record { 0 = h.epoch }) stamp t.plain).out) m → Sent (all_said t) m
        by (inl i) = left_has t.said (Words.map plain_output t.plain.out) _ i
        by (inr i) =
            right_has t.said (Words.map plain_output t.plain.out) _
            (said_plainly t.plain.out m (unsent t.plain.out _ (λ m e. cc) m
            (sent_plainly (third.session_begun t.limits (record { 0 = h.epoch }) stamp t.plain).out m i)))

    go : (c : Bool) → Sent (all_said (if c then third.begin_session t (record { 0 = h.epoch }) stamp else t)) m → Sent (all_said t) m
    go true x = begun x
    go false x = x
begun_quiet t now h b m x = x

pub heard_seen : (now : Stamp) (h : Header) (b : Body) (t : ThirdTurn) (m : Message) → Sent (all_said (third.receive_at now h b t)) m →
    Sent (all_said t) m ⊎ IsSeen m.body
unfolding third.receive_at third.by_session
heard_seen now h b t m x = go (session t) refl
  where
    first_seen : Has (outputs.Send m) t.plain.out ⊎ IsSeen m.body → Sent (all_said t) m ⊎ IsSeen m.body
    first_seen (inl i) = inl (right_has t.said (Words.map plain_output t.plain.out) _ (said_plainly t.plain.out m i))
    first_seen (inr i) = inr i

    by : Sent (all_said t) m ⊎ (Has (outputs.Send m) (cr.receive_at now h b t.plain).out ⊎ IsSeen m.body) → Sent (all_said t) m ⊎ IsSeen m.body
    by (inl i) = inl i
    by (inr (inl i)) = first_seen (receive_seen now h b t.plain m i)
    by (inr (inr i)) = inr i

    without : session t ≡ None → Sent (all_said (third.receive_at now h b t)) m → Sent (all_said t) m
    without e x = at (cr.is_received t.plain now h) x
      where
        none : Sent (all_said (third.by_session t now h b t.plain.here.session)) m → Sent (all_said t) m
        none y = quiet (subst (λ o. Sent (all_said (third.by_session t now h b o)) m) e y)
          where
            quiet : Sent (all_said (third.by_session t now h b None)) m → Sent (all_said t) m
            quiet z = begun_quiet t now h b m z

        at : (c : Bool) → Sent (all_said (if c then third.by_session t now h b t.plain.here.session else t)) m → Sent (all_said t) m
        at true y = none y
        at false y = y

    go : (o : Option ClientSession) → session t ≡ o → Sent (all_said t) m ⊎ IsSeen m.body
    go None e = inl (without e x)
    go (Some s) e = by ((heard_as now t h b s e).says m x)
