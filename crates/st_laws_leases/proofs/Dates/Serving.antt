-- A server's step: what it sends that may date a lease answers the message that came, and goes to no client whose timer runs.
use Rattle.st_lemmas.proofs.Words
use Words.{◌≡◌, ℕ, ◌⊎◌, Bool, true, false, not, List, [], ◌∷◌, ◌++◌, ◌==◌, refl, sym, ap, ◌∙◌, subst, inl, inr, filter, map, Option, Some, None, is_some}
use Words.{eq-eqb, ClientId, ServerId, PageNo, Stamp, Header, Message, Body, Note, Output, ServerInput, Suspect, Session}
use Words.bodies as bd
use Words.notes
use Words.outputs
use Words.serving.{Tick, Control}
use Words.Keys.{client, server_node}
use Words.Locks as locks
use Words.Locks.{Locks}
use Words.Sessions as sessions
use Words.Sessions.{Sessions}
use Words.Authority as authority
use Words.Authority.{Authority}
use Words.World.{World}
use Words.History.{TimerStart, timer_start, is_timer_of}
use Words.Dating as dating
use Words.Server as sv
use Words.Server.{ServerState, ServerTurn, turn, with_locks, with_sessions, with_authority, sender, life_in, reply, tell, steal_at, steal_from, steal}
use Words.Server.{steal_each, thefts, suspect_client, keep_and_reply, server_step, is_client_node}
use Words.Lists.{Has}
use Words.Tables.{and_true, and_both, not_true, has_map, has_map_in, has_filter, has_filter_in, has_append}
use Words.Members.{has_left, has_right}
use Words.Truth.{not_both}
use Rattle.st_laws_leases.specs.Dates.Dates.{is_dating, Met, Runs, Clients, OneTimer, ServerKnown, TimerOf, Timed}
use Rattle.st_laws_leases.proofs.Dates.Known.{some_found, found_some, client_is, met_end, met_store, met_new, met_with, Suspected}
use Rattle.st_laws_leases.proofs.Dates.Known.{suspected, clients_known_after_forget, clients_known_after_drop, clients_known_after_file, clients_known_after_seen, clients_known_after_release, clients_known_after_grant, clients_known_after_queue, clients_known_after_install, clients_known_after_demand, clients_more}
use Rattle.st_trace.specs.Server.Edits as edits
use Rattle.st_trace.specs.Server.Edits.{NoSends, Came, AtOnce, InTurn, Ruled, Refused, Edit, Welcomes, Begins, Replaces, PutsOff, Sees, Reasserts, Serves}
use Rattle.st_trace.specs.Server.Edits.{Repeats, Refuses, Suspects, Grants, Demands}
use Rattle.st_trace.proofs.Server.Walk.{walk_after_thefts}

-- How outputs move the timers of the history: a suspicion starts one, and a theft ends one.
abbrev pub timer_noted : World → ServerId → Note → List TimerStart → List TimerStart
timer_noted w s (notes.Suspected c start) ts = ts ++ timer_start w s c ∷ []
timer_noted w s (notes.Stolen c life) ts = filter (λ t. not (is_timer_of s c t)) ts
timer_noted w s n ts = ts

abbrev pub timer_said : World → ServerId → Output → List TimerStart → List TimerStart
timer_said w s (outputs.Note n) ts = timer_noted w s n ts
timer_said w s o ts = ts

abbrev pub timers_out : World → ServerId → List Output → List TimerStart → List TimerStart
timers_out w s [] ts = ts
timers_out w s (o ∷ os) ts = timers_out w s os (timer_said w s o ts)

pub timers_more : (w : World) (s : ServerId) (os : List Output) (o : Output) (ts : List TimerStart) →
    timers_out w s (os ++ o ∷ []) ts ≡ timer_said w s o (timers_out w s os ts)
timers_more w s [] o ts = refl
timers_more w s (x ∷ os) o ts = timers_more w s os o (timer_said w s x ts)

not_runs : (a : Authority) (c : ClientId) → authority.may_ack a c ≡ true → Runs a c → ⊥
not_runs a c e r = not_both _ r (not_true _ e)

-- No message was sent yet.
abbrev pub Silent : List Output → Type 0
Silent os = (m : Message) → Has (outputs.Send m) os → ⊥

silent_note : (os : List Output) (n : Note) → Silent os → Silent (os ++ outputs.Note n ∷ [])
silent_note os n q m h = go (has_append os _ _ h)
  where
    go : Has (outputs.Send m) os ⊎ Has (outputs.Send m) (outputs.Note n ∷ []) → ⊥
    go (inl i) = q m i
    go (inr (inl e)) = no e
      where
        no : outputs.Send m ≡ outputs.Note n → ⊥
        no z = cc
    go (inr (inr i)) = elim i [ ]

-- The timers of a server's client in the history: before is what the server had of timers when its step began.
module _ (w : World) (s : ServerId) (ts : List TimerStart) (before : Authority) (now : Stamp) (A : Message → Type 0) where
  -- a timer of the history was there before the step, and so was the server's
  abbrev pub WasThere : Authority → TimerStart → Type 0
  WasThere a x = Has x ts × ((u : Suspect) → Has u a.suspects → u.client ≡ x.client → Has u before.suspects)

  -- or it starts in the step, and so does the server's
  pub record StartsNow (a : Authority) (out : List Output) (x : TimerStart) : Type 0 where
    pub is : x ≡ timer_start w s x.client
    pub noted : Has (outputs.Note (notes.Suspected x.client now)) out
    pub start : (u : Suspect) → Has u a.suspects → u.client ≡ x.client → u.start ≡ now

  abbrev pub Since : Authority → List Output → TimerStart → Type 0
  Since a out x = WasThere a x ⊎ StartsNow a out x

  since_more : (a : Authority) (out : List Output) (o : Output) (x : TimerStart) → Since a out x → Since a (out ++ o ∷ []) x
  since_more a out o x (inl z) = inl z
  since_more a out o x (inr z) = inr (record { is = z.is; noted = has_left out _ _ z.noted; start = z.start })

  -- a message is from this server, and if it may date a lease, it answers
  pub record OutOk (m : Message) : Type 0 where
    pub from : m.header.from ≡ server_node s
    pub dates : is_dating m ≡ true → A m

  -- What holds of a step so far.
  pub record Good (id : ServerId) (a : Authority) (v : Sessions) (l : Locks) (out : List Output) : Type 0 where
    pub id_ : id ≡ s
    pub suspects : (x : Suspect) → Has x a.suspects → Met v x.client
    pub one : OneTimer a.suspects
    pub known : Clients (Met v) l
    pub timed : (c : ClientId) → Runs a c → TimerOf (timers_out w s out ts) s c
    pub on : (x : TimerStart) → Has x (timers_out w s out ts) → x.server.0 ≡ s.0 → Runs a x.client
    pub since : (x : TimerStart) → Has x (timers_out w s out ts) → x.server.0 ≡ s.0 → Since a out x
    pub quiet : (x : TimerStart) → Has x (timers_out w s out ts) → x.server.0 ≡ s.0 → (m : Message) → Has (outputs.Send m) out →
        m.header.to ≡ x.client.0 → is_dating m ≡ true → ⊥
    pub outs : (m : Message) → Has (outputs.Send m) out → OutOk m

  abbrev pub P : ServerTurn → Type 0
  P t = Good t.state.id t.state.authority t.state.sessions t.state.locks t.out

  -- a message is sent
  good_after_send : (t : ServerTurn) (m : Message) → m.header.from ≡ server_node s → (is_dating m ≡ true →
      A m × (authority.may_ack t.state.authority (client m.header.to) ≡ true)) → P t → P (sv.say t (outputs.Send m))
  good_after_send t m f d p =
      record {
        id_ = p.id_;
        suspects = p.suspects;
        one = p.one;
        known = p.known;
        timed = λ c r. subst (λ us. TimerOf us s c) (sym (timers_more w s t.out (outputs.Send m) ts)) (p.timed c r);
        on = λ x h e. p.on x (old x h) e;
        since = λ x h e. since_more t.state.authority t.out (outputs.Send m) x (p.since x (old x h) e);
        quiet = λ x h e n i to dates. quiet x (old x h) e n (has_append t.out _ _ i) to dates;
        outs = λ n i. out n (has_append t.out _ _ i);
      }
    where
      old : (x : TimerStart) → Has x (timers_out w s (t.out ++ outputs.Send m ∷ []) ts) → Has x (timers_out w s t.out ts)
      old x h = subst (Has x) (timers_more w s t.out (outputs.Send m) ts) h

      same : (n : Message) → outputs.Send n ≡ outputs.Send m → n ≡ m
      same n e = cc

      quiet : (x : TimerStart) → Has x (timers_out w s t.out ts) → x.server.0 ≡ s.0 → (n : Message) →
          Has (outputs.Send n) t.out ⊎ Has (outputs.Send n) (outputs.Send m ∷ []) → n.header.to ≡ x.client.0 → is_dating n ≡ true → ⊥
      quiet x h e n (inl i) to dates = p.quiet x h e n i to dates
      quiet x h e n (inr (inl i)) to dates =
          let q = same n i in
          let z = d (subst (λ k. is_dating k ≡ true) q dates) in
          not_runs t.state.authority x.client (subst (λ c. authority.may_ack t.state.authority (client c) ≡ true)
          (ap (λ (k : Message). k.header.to) (sym q) ∙ to) z.1) (p.on x h e)
      quiet x h e n (inr (inr i)) to dates = elim i [ ]

      out : (n : Message) → Has (outputs.Send n) t.out ⊎ Has (outputs.Send n) (outputs.Send m ∷ []) → OutOk n
      out n (inl i) = p.outs n i
      out n (inr (inl i)) = subst OutOk (sym (same n i)) (record { from = f; dates = λ e. (d e).0 })
      out n (inr (inr i)) = elim i [ ]

  -- a cut is noted
  good_after_cut : (t : ServerTurn) (f : Rattle.st_base.specs.declared.ids.FileId.FileId) (q : PageNo) → P t → P (sv.note t (notes.CutDone f q))
  good_after_cut t f q p =
      record {
        id_ = p.id_;
        suspects = p.suspects;
        one = p.one;
        known = p.known;
        timed = λ c r. subst (λ us. TimerOf us s c) (sym (timers_more w s t.out o ts)) (p.timed c r);
        on = λ x h e. p.on x (old x h) e;
        since = λ x h e. since_more t.state.authority t.out o x (p.since x (old x h) e);
        quiet = λ x h e n i to dates. p.quiet x (old x h) e n (sent n (has_append t.out _ _ i)) to dates;
        outs = λ n i. p.outs n (sent n (has_append t.out _ _ i));
      }
    where
      o : Output
      o = outputs.Note (notes.CutDone f q)

      old : (x : TimerStart) → Has x (timers_out w s (t.out ++ o ∷ []) ts) → Has x (timers_out w s t.out ts)
      old x h = subst (Has x) (timers_more w s t.out o ts) h

      sent : (n : Message) → Has (outputs.Send n) t.out ⊎ Has (outputs.Send n) (o ∷ []) → Has (outputs.Send n) t.out
      sent n (inl i) = i
      sent n (inr (inl e)) = absurd (no e)
        where
          no : outputs.Send n ≡ outputs.Note (notes.CutDone f q) → ⊥
          no z = cc
      sent n (inr (inr i)) = elim i [ ]

  -- other sessions, in which no client is missing
  good_after_sessions : (t : ServerTurn) (v : Sessions) → ((c : ClientId) → Met t.state.sessions c → Met v c) → P t → P (with_sessions v t)
  good_after_sessions t v f p = record {
    id_ = p.id_;
    suspects = λ x h. f x.client (p.suspects x h);
    one = p.one;
    known = clients_more (Met t.state.sessions) (Met v) f t.state.locks p.known;
    timed = p.timed;
    on = p.on;
    since = p.since;
    quiet = p.quiet;
    outs = p.outs;
  }

  -- other locks, of clients that have sessions
  good_after_locks : (t : ServerTurn) (l : Locks) → Clients (Met t.state.sessions) l → P t → P (with_locks l t)
  good_after_locks t l k p =
      record { id_ = p.id_; suspects = p.suspects; one = p.one; known = k; timed = p.timed; on = p.on; since = p.since; quiet = p.quiet; outs = p.outs }

  -- a timer starts, before any message was sent
  good_after_suspect : (t : ServerTurn) (c : ClientId) → authority.may_ack t.state.authority c ≡ true → Silent t.out → Met t.state.sessions c → P t →
      P (suspect_client t now c)
  unfolding suspect_client
  good_after_suspect t c free q m p =
      record {
        id_ = p.id_;
        suspects = λ x h. sus x (z.only x h);
        one = z.one p.one;
        known = clients_known_after_drop (Met t.state.sessions) t.state.locks c p.known;
        timed = λ d r. let y = found_some (authority.is_suspect d) (authority.suspect t.state.authority c now).suspects r in
            subst (λ us. TimerOf us s d) (sym (timers_more w s t.out (outputs.Note (notes.Suspected c now)) ts)) (timed d y.0 y.2 (z.only y.0 y.1));
        on = λ x h e. run x (timers x h) e;
        since = λ x h e. fresh x (timers x h) e;
        quiet = λ x h e n i to dates. absurd (silent_note t.out _ q n i);
        outs = λ n i. absurd (silent_note t.out _ q n i);
      }
    where
      next : Suspect
      next = authority.new_suspect c now

      z : Suspected t.state.authority (authority.suspect t.state.authority c now) c now
      z = suspected t.state.authority c now

      sus : (x : Suspect) → Has x t.state.authority.suspects ⊎ (x ≡ next) → Met t.state.sessions x.client
      sus x (inl i) = p.suspects x i
      sus x (inr e) = subst (Met t.state.sessions) (sym (ap (λ (y : Suspect). y.client) e)) m

      timed : (d : ClientId) (y : Suspect) → authority.is_suspect d y ≡ true → Has y t.state.authority.suspects ⊎ (y ≡ next) →
          TimerOf (timers_out w s t.out ts ++ timer_start w s c ∷ []) s d
      timed d y e (inl i) =
          let x = p.timed d (some_found (authority.is_suspect d) t.state.authority.suspects y i e) in
          record { timer = x.timer; among = has_left (timers_out w s t.out ts) _ x.timer x.among; is = x.is }
      timed d y e (inr q) =
          record {
            timer = timer_start w s c;
            among = has_right (timers_out w s t.out ts) _ _ (inl refl);
            is = and_both _ _ (eq-eqb s.0 s.0 refl) (subst (λ (k : Suspect). (k.client.0 == d.0) ≡ true) q e);
          }

      timers : (x : TimerStart) → Has x (timers_out w s (t.out ++ outputs.Note (notes.Suspected c now) ∷ []) ts) →
          Has x (timers_out w s t.out ts) ⊎ Has x (timer_start w s c ∷ [])
      timers x h = has_append (timers_out w s t.out ts) _ x (subst (Has x) (timers_more w s t.out (outputs.Note (notes.Suspected c now)) ts) h)

      run : (x : TimerStart) → Has x (timers_out w s t.out ts) ⊎ Has x (timer_start w s c ∷ []) → x.server.0 ≡ s.0 →
          Runs (authority.suspect t.state.authority c now) x.client
      run x (inl i) e = z.runs x.client (p.on x i e)
      run x (inr (inl i)) e = subst (Runs (authority.suspect t.state.authority c now)) (sym (ap (λ (k : TimerStart). k.client) i)) z.own
      run x (inr (inr i)) e = elim i [ ]

      -- the client has no other timer, here and in the history
      none : (u : Suspect) → Has u t.state.authority.suspects → u.client ≡ c → ⊥
      none u i e =
          not_runs t.state.authority c free
          (some_found (authority.is_suspect c) t.state.authority.suspects u i (eq-eqb u.client.0 c.0 (ap (λ (d : ClientId). d.0) e)))

      fresh : (x : TimerStart) → Has x (timers_out w s t.out ts) ⊎ Has x (timer_start w s c ∷ []) → x.server.0 ≡ s.0 →
          Since (authority.suspect t.state.authority c now) (t.out ++ outputs.Note (notes.Suspected c now) ∷ []) x
      fresh x (inl i) e = kept (p.since x i e)
        where
          other : x.client ≡ c → ⊥
          other y = not_runs t.state.authority c free (subst (Runs t.state.authority) y (p.on x i e))

          was : (u : Suspect) → u.client ≡ x.client → Has u t.state.authority.suspects ⊎ (u ≡ next) → Has u t.state.authority.suspects
          was u y (inl j) = j
          was u y (inr j) = absurd (other (sym y ∙ ap (λ (v : Suspect). v.client) j))

          kept : Since t.state.authority t.out x → Since (authority.suspect t.state.authority c now) (t.out ++ outputs.Note (notes.Suspected c now) ∷ []) x
          kept (inl y) = inl (y.0, λ u h v. y.1 u (was u v (z.only u h)) v)
          kept (inr y) = inr (record { is = y.is; noted = has_left t.out _ _ y.noted; start = λ u h v. y.start u (was u v (z.only u h)) v })
      fresh x (inr (inl i)) e =
          let same = ap (λ (k : TimerStart). k.client) i in
          inr (record {
            is = i ∙ ap (timer_start w s) (sym same);
            noted = has_right t.out _ _ (inl (ap (λ d. outputs.Note (notes.Suspected d now)) same));
            start = λ u h v. at u (v ∙ same) (z.only u h);
          })
        where
          at : (u : Suspect) → u.client ≡ c → Has u t.state.authority.suspects ⊎ (u ≡ next) → u.start ≡ now
          at u v (inl j) = absurd (none u j v)
          at u v (inr j) = ap (λ (y : Suspect). y.start) j
      fresh x (inr (inr i)) e = elim i [ ]

  -- Thefts: the timers of the clients that must still be stolen from are over.
  record Stealing (cs : List ClientId) (t : ServerTurn) : Type 0 where
    id_ : t.state.id ≡ s
    suspects : (x : Suspect) → Has x t.state.authority.suspects → Met t.state.sessions x.client
    one : OneTimer t.state.authority.suspects
    known : Clients (Met t.state.sessions) t.state.locks
    timed : (c : ClientId) → Runs t.state.authority c → TimerOf (timers_out w s t.out ts) s c
    gone : (c : ClientId) → Has c cs → Runs t.state.authority c → ⊥
    met : (c : ClientId) → Has c cs → Met t.state.sessions c
    on : (x : TimerStart) → Has x (timers_out w s t.out ts) → x.server.0 ≡ s.0 → Runs t.state.authority x.client ⊎ Has x.client cs
    only : (x : TimerStart) → Has x (timers_out w s t.out ts) → Has x ts
    stay : (u : Suspect) → Has u t.state.authority.suspects → Has u before.suspects
    quiet : Silent t.out

  stolen : (c : ClientId) (cs : List ClientId) (t : ServerTurn) → Stealing (c ∷ cs) t → Stealing cs (steal t c)
  unfolding steal steal_at steal_from
  stolen c cs t p = go (sessions.session_of t.state.sessions c) refl
    where
      run : (y : TimerStart) → Has y (timers_out w s t.out ts) × (not (is_timer_of s c y) ≡ true) → y.server.0 ≡ s.0 →
          Runs t.state.authority y.client ⊎ Has y.client cs
      run y (i, f) e = at (p.on y i e)
        where
          at : Runs t.state.authority y.client ⊎ (y.client ≡ c) ⊎ Has y.client cs → Runs t.state.authority y.client ⊎ Has y.client cs
          at (inl r) = inl r
          at (inr (inl q)) = absurd (not_both _ (and_both _ _ (eq-eqb y.server.0 s.0 e) (eq-eqb y.client.0 c.0 (ap (λ (d : ClientId). d.0) q))) (not_true _ f))
          at (inr (inr h)) = inr h

      -- the timers of the others stay
      stays : (d : ClientId) → Runs t.state.authority d → TimerOf (timers_out w s t.out ts) s d →
          TimerOf (filter (λ t. not (is_timer_of s c t)) (timers_out w s t.out ts)) s d
      stays d r x = record {
        timer = x.timer;
        among = has_filter_in (λ t. not (is_timer_of s c t)) (timers_out w s t.out ts) x.timer x.among (at (is_timer_of s c x.timer) refl);
        is = x.is;
      }
        where
          at : (b : Bool) → is_timer_of s c x.timer ≡ b → not (is_timer_of s c x.timer) ≡ true
          at true q =
              let e = (and_true (x.timer.server.0 == s.0) _ q).1 in let f = (and_true (x.timer.server.0 == s.0) _ x.is).1 in
              absurd (p.gone c (inl refl) (subst (λ (k : ClientId). Runs t.state.authority k)
              (sym (client_is x.timer.client d f) ∙ client_is x.timer.client c e) r))
          at false q = ap not q

      go : (o : Option Session) → sessions.session_of t.state.sessions c ≡ o → Stealing cs (steal_at t c o)
      go None e = absurd (not_both _ (p.met c (inl refl)) (ap is_some e))
      go (Some x) e =
          record {
            id_ = p.id_;
            suspects = λ y h. met_end t.state.sessions c y.client (p.suspects y h);
            one = p.one;
            timed = λ d r. subst (λ us. TimerOf us s d) (sym (timers_more w s t.out (outputs.Note (notes.Stolen c x.life)) ts)) (stays d r (p.timed d r));
            gone = λ d h r. p.gone d (inr h) r;
            known = clients_more (Met t.state.sessions) (Met (sessions.end t.state.sessions c)) (λ d m. met_end t.state.sessions c d m) _
                (clients_known_after_forget (Met t.state.sessions) t.state.locks c p.known);
            met = λ d h. met_end t.state.sessions c d (p.met d (inr h));
            on = λ y h e. run y (has_filter (λ t. not (is_timer_of s c t)) (timers_out w s t.out ts) y
                (subst (Has y) (timers_more w s t.out (outputs.Note (notes.Stolen c x.life)) ts) h)) e;
            only = λ y h. p.only y (has_filter (λ t. not (is_timer_of s c t)) (timers_out w s t.out ts) y
                (subst (Has y) (timers_more w s t.out (outputs.Note (notes.Stolen c x.life)) ts) h)).0;
            stay = p.stay;
            quiet = silent_note t.out _ p.quiet;
          }

  all_stolen : (cs : List ClientId) (t : ServerTurn) → Stealing cs t → Stealing [] (steal_each cs t)
  unfolding steal_each
  all_stolen [] t p = p
  all_stolen (c ∷ cs) t p = all_stolen cs (steal t c) (stolen c cs t p)

  good_after_thefts : (n : ServerState) → ((u : Suspect) → Has u n.authority.suspects → Has u before.suspects) → ServerKnown s n →
      ((x : TimerStart) → Has x ts → x.server.0 ≡ s.0 → Runs n.authority x.client) → Timed ts s n → P (thefts (turn n []) now)
  unfolding thefts authority.over authority.still_running
  good_after_thefts n same k r timed = ends _ (all_stolen _ _ begins)
    where
      over : Suspect → Bool
      over x = authority.is_over n.authority.wait now x

      begins : Stealing (map authority.client_of_suspect (filter (authority.is_over n.authority.wait now) n.authority.suspects))
          (with_authority (record n.authority { suspects = filter (λ x. not (authority.is_over n.authority.wait now x)) n.authority.suspects }) (turn n []))
      begins =
          record {
            id_ = k.id;
            suspects = λ x h. k.suspects x (has_filter _ n.authority.suspects x h).0;
            one = λ x y h i. k.one x y (has_filter _ n.authority.suspects x h).0 (has_filter _ n.authority.suspects y i).0;
            timed = λ c q. let z = found_some (authority.is_suspect c) (filter (λ x. not (over x)) n.authority.suspects) q in
                timed c (some_found (authority.is_suspect c) n.authority.suspects z.0 (has_filter _ n.authority.suspects z.0 z.1).0 z.2);
            gone = gone;
            known = k.locks;
            met = λ c h. let z = has_map authority.client_of_suspect _ c h in
                subst (Met n.sessions) (sym z.2) (k.suspects z.0 (has_filter _ n.authority.suspects z.0 z.1).0);
            on = λ x h e. run x (found_some (authority.is_suspect x.client) n.authority.suspects (r x h e));
            only = λ x h. h;
            stay = λ u h. same u (has_filter _ n.authority.suspects u h).0;
            quiet = λ m h. elim h [ ];
          }
        where
          -- a timer that is over does not run on, since its client has no other
          gone : (c : ClientId) → Has c (map authority.client_of_suspect (filter (authority.is_over n.authority.wait now) n.authority.suspects)) →
              Runs (record n.authority { suspects = filter (λ x. not (authority.is_over n.authority.wait now x)) n.authority.suspects }) c → ⊥
          gone c h q =
              let z = has_map authority.client_of_suspect (filter over n.authority.suspects) c h in
              let x = has_filter over n.authority.suspects z.0 z.1 in
              let y = found_some (authority.is_suspect c) (filter (λ x. not (over x)) n.authority.suspects) q in
              let u = has_filter (λ x. not (over x)) n.authority.suspects y.0 y.1 in
              not_both (over y.0) (subst (λ v. over v ≡ true) (k.one z.0 y.0 x.0 u.0 (sym z.2 ∙ sym (client_is y.0.client c y.2))) x.1) (not_true _ u.1)

          run : (x : TimerStart) → (y : Suspect) × Has y n.authority.suspects × (authority.is_suspect x.client y ≡ true) →
              Runs (record n.authority { suspects = filter (λ x. not (authority.is_over n.authority.wait now x)) n.authority.suspects }) x.client
              ⊎ Has x.client (map authority.client_of_suspect (filter (authority.is_over n.authority.wait now) n.authority.suspects))
          run x (y, i, e) = at (authority.is_over n.authority.wait now y) refl
            where
              at : (b : Bool) → authority.is_over n.authority.wait now y ≡ b →
                  Runs (record n.authority { suspects = filter (λ x. not (authority.is_over n.authority.wait now x)) n.authority.suspects }) x.client
                  ⊎ Has x.client (map authority.client_of_suspect (filter (authority.is_over n.authority.wait now) n.authority.suspects))
              at true q = inr (subst
                  (λ c. Has c (map authority.client_of_suspect (filter (authority.is_over n.authority.wait now) n.authority.suspects)))
                  (client_is y.client x.client e)
                  (has_map_in authority.client_of_suspect (filter (authority.is_over n.authority.wait now) n.authority.suspects) y
                  (has_filter_in (authority.is_over n.authority.wait now) n.authority.suspects y i q)))
              at false q = inl (some_found (authority.is_suspect x.client)
                  (filter (λ x. not (authority.is_over n.authority.wait now x)) n.authority.suspects) y
                  (has_filter_in (λ x. not (authority.is_over n.authority.wait now x)) n.authority.suspects y i (ap not q)) e)

      ends : (t : ServerTurn) → Stealing [] t → P t
      ends t p =
          record {
            id_ = p.id_;
            suspects = p.suspects;
            one = p.one;
            known = p.known;
            timed = p.timed;
            on = λ x h e. run x (p.on x h e);
            since = λ x h e. inl (p.only x h, λ u i v. p.stay u i);
            quiet = λ x h e m i to d. p.quiet m i;
            outs = λ m i. absurd (p.quiet m i);
          }
        where
          run : (x : TimerStart) → Runs t.state.authority x.client ⊎ Has x.client [] → Runs t.state.authority x.client
          run x (inl i) = i
          run x (inr i) = elim i [ ]

-- a message answers this request
pub record Answers (q m : Message) : Type 0 where
  pub client : is_client_node q.header.from ≡ true
  pub request : dating.is_request q.body ≡ true
  pub reply : dating.is_reply_to q m ≡ true

-- what answers an input
abbrev pub AnswersTo : ServerInput → Message → Type 0
AnswersTo Tick m = ⊥
AnswersTo (Control q) m = Answers q m

silent : (os : List Output) → NoSends os → Silent os
silent [] q m h = elim h [ ]
silent (outputs.Send n ∷ os) q m h = absurd q
silent (outputs.Note n ∷ os) q m (inr h) = silent os q m h
silent (outputs.Note n ∷ os) q m (inl e) = no e
  where
    no : outputs.Send m ≡ outputs.Note n → ⊥
    no z = cc
silent (outputs.Answer c d ∷ os) q m (inr h) = silent os q m h
silent (outputs.Answer c d ∷ os) q m (inl e) = no e
  where
    no : outputs.Send m ≡ outputs.Answer c d → ⊥
    no z = cc
silent (outputs.Submit c d e ∷ os) q m (inr h) = silent os q m h
silent (outputs.Submit c d e ∷ os) q m (inl f) = no f
  where
    no : outputs.Send m ≡ outputs.Submit c d e → ⊥
    no z = cc

-- The step, from the thefts on.
module _ (w : World) (s : ServerId) (ts : List TimerStart) (n : ServerState) (now : Stamp) (i : ServerInput) where
  abbrev A : Message → Type 0
  A x = AnswersTo i x

  abbrev G : ServerTurn → Type 0
  G t = P w s ts n.authority now A t

  abbrev Free : ServerTurn → Message → Type 0
  Free t m = authority.may_ack t.state.authority (sender m.header) ≡ true

  -- a reply to the request that came
  says : (t u : ServerTurn) (m : Message) (b : Body) → Came n now i t m → dating.is_request m.body ≡ true →
      (dating.may_date m.header.number b ≡ true → Free u m) → G t → G u →
      G (reply u m.header b)
  unfolding reply
  says t u m b c r f p q =
      good_after_send w s ts n.authority now A u x (ap server_node q.id_)
      (λ d. (
        subst (λ j. AnswersTo j x) (sym c.is)
            (record {
              client = c.from;
              request = r;
              reply = and_both _ _ d (and_both _ _ (and_both _ _ (eq-eqb _ _ (ap server_node (q.id_ ∙ sym p.id_) ∙ sym c.there)) (eq-eqb h.from h.from refl))
                  (and_both _ _ (eq-eqb h.life h.life refl) (and_both _ _ (eq-eqb h.number h.number refl) (eq-eqb h.stamp h.stamp refl))));
            }),
        f d,
      )) q
    where
      h : Header
      h = m.header

      x : Message
      x = record { header = sv.reply_header u.state h; body = b }

  begins : (t : ServerTurn) (m : Message) → G t → G (with_sessions (sessions.with_new_session (sender m.header) (life_in m.header) t.state.sessions) t)
  begins t m p = good_after_sessions w s ts n.authority now A t _ (λ c k. met_with t.state.sessions _ c k) p

  -- what the rule of a request leaves, and that no timer starts
  record After (t u : ServerTurn) : Type 0 where
    good : G u
    timers : u.state.authority ≡ t.state.authority

  cuts : (t : ServerTurn) (ino : ℕ) (page : PageNo) → G t → G (sv.cut_pages t ino page)
  unfolding sv.cut_pages
  cuts t ino page p =
      good_after_cut w s ts n.authority now A (sv.with_extents (Rattle.st_rules.specs.Extents.release_from t.state.stable.extents (sv.file t ino) page) t)
      (sv.file t ino) page
      p

  ruled : (t : ServerTurn) (h : Header) (m : Body) (u : ServerTurn) (b : Body) → Ruled now t h m u b → Met t.state.sessions (sender h) → G t → After t u
  unfolding sv.cut_whole sv.cut_pages
  ruled t h m u b (edits.Tells _ _ x) k p = record { good = p; timers = refl }
  ruled t h m u b (edits.Acquires ino mode a f l (AtOnce g x y)) k p =
      record {
        good = good_after_locks w s ts n.authority now A t a.locks
            (clients_known_after_grant (Met t.state.sessions) t.state.locks (sender h) (life_in h) ino mode k p.known) p;
        timers = refl;
      }
  ruled t h m u b (edits.Acquires ino mode a f l (InTurn g)) k p =
      record {
        good = good_after_locks w s ts n.authority now A t a.locks
            (clients_known_after_queue (Met t.state.sessions) t.state.locks (sender h) (life_in h) ino mode k p.known) p;
        timers = refl;
      }
  ruled t h m u b (edits.Releases ino g to r e f) k p =
      record {
        good = good_after_locks w s ts n.authority now A t _ (clients_known_after_release (Met t.state.sessions) t.state.locks (sender h) ino to p.known) p;
        timers =
            refl;
      }
  ruled t h m u b (edits.Allocates ino g q count x f l e) k p = record { good = p; timers = refl }
  ruled t h m u b (edits.Cuts ino g q f l) k p = record { good = cuts t ino q p; timers = refl }
  ruled t h m u b (edits.Creates dir x d e) k p = record { good = p; timers = refl }
  ruled t h m u b (edits.MakesDir dir x d e) k p = record { good = p; timers = refl }
  ruled t h m u b (edits.Renames dir x dir2 x2 d e) k p = record { good = p; timers = refl }
  ruled t h m u b (edits.RemovesDir dir x g ino d l f z e q) k p = record { good = p; timers = refl }
  ruled t h m u b (edits.RemovesFile dir x g ino d l f z e q) k p =
      record {
        good = cuts (with_locks (locks.drop_file_waits t.state.locks d.ino) (sv.with_names d.names t)) d.ino _
            (good_after_locks w s ts n.authority now A (sv.with_names d.names t) (locks.drop_file_waits t.state.locks d.ino)
            (clients_known_after_file (Met t.state.sessions) t.state.locks d.ino p.known) p);
        timers = refl;
      }

  refuses : (t : ServerTurn) (m : Message) (b : Body) → Refused n now i t m b → G t → G (reply t m.header b)
  refuses t m b (edits.IsSuspect start c r e) p = says t t m b c r (λ d. cc) p p
  refuses t m b (edits.GreetsInGrace h e g) p = says t t m b h.came (ap dating.is_request e) (λ d. h.free) p p
  refuses t m b (edits.OfOtherEpoch h r) p = says t t m b h.came r (λ d. h.free) p p
  refuses t m b (edits.HasNoSession a e) p = says t t m b a.heard.came a.request (λ d. a.heard.free) p p
  refuses t m b (edits.IsRefusedRows rows x r e) p = says t t m b r.asked.heard.came r.asked.request (λ d. r.asked.heard.free) p p

  -- the input
  takes : (t u : ServerTurn) → Edit n now i edits.AtInput t u → G t → G u
  unfolding keep_and_reply sessions.reasserted
  takes t u (Welcomes _ m y g e x f) p = says t t m bd.Welcome g.heard.came (ap dating.is_request g.asks) (λ d. g.heard.free) p p
  takes t u (Begins _ m g f) p = says t _ m bd.Welcome g.heard.came (ap dating.is_request g.asks) (λ d. g.heard.free) p (begins t m p)
  takes t u (Replaces _ m y g e x f r) p =
      let q = begins t m p in
      says t _ m bd.Welcome g.heard.came (ap dating.is_request g.asks) (λ d. g.heard.free) p
      (good_after_locks w s ts n.authority now A (with_sessions (sessions.with_new_session (sender m.header) (life_in m.header) t.state.sessions) t) _
      (clients_known_after_drop (Met (sessions.with_new_session (sender m.header) (life_in m.header) t.state.sessions)) t.state.locks (sender m.header) q.known)
      q)
  takes t u (PutsOff _ m y g e x f r) p =
      says t _ m _ g.heard.came (ap dating.is_request g.asks) (λ d. cc) p
      (good_after_suspect w s ts n.authority now A t (sender m.header) g.heard.free (silent t.out g.heard.came.begun.quiet) (ap is_some e) p)
  takes t u (Sees _ m ino g h b e) p = good_after_locks w s ts n.authority now A t _
      (clients_known_after_seen (Met t.state.sessions) t.state.locks (sender m.header) ino g p.known) p
  takes t u (Reasserts _ m rows r on f) p =
      let h = m.header in
      let v = t.state.sessions in
      let y = sessions.reasserted_session (sender h) (life_in h) in
      says t _ m bd.Reasserted r.asked.heard.came r.asked.request (λ d. r.asked.heard.free) p
      (good_after_locks w s ts n.authority now A (with_sessions (sessions.with_session y v) t) (locks.with_rows t.state.locks (sender h) (life_in h) rows)
      (clients_known_after_install _ t.state.locks (sender h) (life_in h) rows (met_new v y)
      (clients_more (Met v) _ (λ c k. met_with v y c k) t.state.locks p.known))
      (good_after_sessions w s ts n.authority now A t _ (λ c k. met_with v y c k) p))
  takes t u (Serves _ m v b y e r) p =
      let z = ruled t m.header m.body v b r (ap is_some y.in_life.is) p in
      says t _ m b y.asked.heard.came y.asked.request (λ d. ap (λ a. authority.may_ack a (sender m.header)) z.timers ∙ y.asked.heard.free) p
      (good_after_sessions w s ts n.authority now A v _ (λ c k. met_store v.state.sessions (sender m.header) m.header.number b c k) z.good)
  takes t u (Repeats _ m y b k e f g q) p = says t t m b k.heard.came k.request (λ d. k.heard.free) p p
  takes t u (Refuses _ m b r) p = refuses t m b r p

  suspects : (t u : ServerTurn) → Edit n now i edits.AtSuspicion t u → G t → G u
  suspects t u (Suspects _ c r is q f h e o) p = good_after_suspect w s ts n.authority now A t c f (silent t.out q)
      (subst (Met t.state.sessions) e (p.known.rows r h)) p

  grants : (t u : ServerTurn) → Edit n now i edits.AtGrants t u → G t → G u
  unfolding tell
  grants t u (Grants _ x off h e f) p =
      good_after_send w s ts n.authority now A (with_locks (locks.grant t.state.locks x.client x.life x.ino x.mode) t) _ (ap server_node p.id_) (λ d. cc)
      (good_after_locks w s ts n.authority now A t _
      (clients_known_after_grant (Met t.state.sessions) t.state.locks x.client x.life x.ino x.mode (p.known.waits x h) p.known)
      p)

  demands : (t u : ServerTurn) → Edit n now i edits.AtDemands t u → G t → G u
  unfolding tell
  demands t u (Demands _ x r d e k f o q) p =
      good_after_send w s ts n.authority now A (with_locks (locks.with_demand r d t.state.locks) t) _ (ap server_node p.id_) (λ z. cc)
      (good_after_locks w s ts n.authority now A t _ (clients_known_after_demand (Met t.state.sessions) t.state.locks r d p.known) p)

-- a whole step, if the timers of the history run
pub step_good : (w : World) (s : ServerId) (ts : List TimerStart) (n : ServerState) (now : Stamp) (i : ServerInput) → ServerKnown s n →
    ((x : TimerStart) → Has x ts → x.server.0 ≡ s.0 → Runs n.authority x.client) → Timed ts s n → P w s ts n.authority now (AnswersTo i) (server_step n now i)
step_good w s ts n now i k r z =
    walk_after_thefts n now i (P w s ts n.authority now (AnswersTo i)) (takes w s ts n now i) (suspects w s ts n now i) (grants w s ts n now i)
    (demands w s ts n now i)
    (good_after_thefts w s ts n.authority now (AnswersTo i) n (λ u h. h) k r z)
