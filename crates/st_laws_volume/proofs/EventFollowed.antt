-- What the steps of an event leave of an ask for a cut or a name: it is open or orphaned, unless something else is known.
use Rattle.st_lemmas.proofs.Words
use Words.{◌≡◌, ℕ, ◌+◌, arith, Bool, true, false, ◌==◌, List, [], ◌∷◌, ◌++◌, Option, Some, None, refl, sym, ap, ◌∙◌, subst, inl, inr, if◌then◌else◌}
use Words.{eqb-true, find, AppAnswer, Ask, Body, NameAsk, ClientId, Event, IssuedCommand, NodeId, Observation, PageNo, FileId, SentMessage, ServerId}
use Words.asks
use Words.bodies
use Words.events
use Words.names
use Words.nodes
use Words.seen
use Words.Events.{is_same_instance}
use Words.Lists.{Has}
use Words.Safety.{AreLogged, IsLogged, IsLoggedAfter, IsLoggedWrite, Step, all_followed, ask_in, ask_of, begins_written}
use Words.Server.{sender}
use Words.Tables.{and_true, found_at}
use Words.Truth.{client_is, none_not_some, server_is}
use Words.World as world
use Words.World.{World, WorldClient, issued_of, message_of, node_of, receiver_of, site_of}
use Rattle.st_rules.specs.declared.world.Carried as carried
use Rattle.st_laws_pages.proofs.Asks.World.{asks_more, asks_of}
use Rattle.st_laws_volume.specs.Options.{OnSome}
use Rattle.st_laws_volume.specs.Seen.{failure, failure_of, failure_told, of_event}
use Rattle.st_laws_volume.specs.Witness.{Behind, above_all, does_at, is_behind, is_request_for, is_there, next_op, of_delivery, of_lines, of_message, op_of, takes_op, to_node}
use Rattle.st_laws_volume.proofs.AskedAsks.{AreOf, Asked, asked_after, event_right, moved, other_asked}
use Rattle.st_laws_volume.proofs.AsksFollowed as following
use Rattle.st_laws_volume.proofs.AsksTaken.{is_other}
use Rattle.st_laws_volume.proofs.ChangeLines.{on_both}
use Rattle.st_laws_volume.proofs.EpochSteps.{run_starts, started_all}
use Rattle.st_laws_volume.proofs.LogLines.{run_then}
use Rattle.st_laws_volume.proofs.Options.{on_more}
use Rattle.st_laws_volume.proofs.ReadRanges.{Written, written_is}
use Rattle.st_laws_volume.proofs.TreeSteps.{none_above}
use Rattle.st_volume.specs.declared.step.VolumeStep.{VolumeStep}
use Rattle.st_volume.specs.declared.step.VolumeStep.TheVariants as kinds
use Rattle.st_volume.specs.Pages.{is_any}
use Rattle.st_volume.specs.Volume as volume
use Rattle.st_volume.specs.Volume.{Pending, Volume, is_ask, is_cut_or_name, run, server_of}

-- A request is to the server of its ask.
request_to : (s : ServerId) (b : Body) (a : Ask) → is_request_for s b a ≡ true → server_of a ≡ s
request_to s (bodies.Cut ino g from) (asks.Cut f p) q = server_is f.server s (eqb-true f.server.0 s.0 (and_true (f.server.0 == s.0) _ q).0)
request_to s (bodies.Name op) (asks.Name r ask) q = named ask (server_is r s (eqb-true r.0 s.0 (and_true (r.0 == s.0) _ q).0))
  where
    named : (ask : NameAsk) → r ≡ s → server_of (asks.Name r ask) ≡ s
    named (names.Remove dir name ino) e = e
    named (names.Lookup dir name) e = e
    named (names.Create dir name) e = e
    named (names.Mkdir dir name) e = e
    named (names.Rename dir name dir2 name2) e = e
    named (names.List dir after) e = e
request_to s b a q = cc q

-- The ask of a line is that of its file.
written_to : (past : List Step) (x : Step) (c : ClientId) (op : ℕ) (i : ℕ) (d : ClientId) (f : FileId) (p : PageNo) (bytes : List ℕ) (other : Ask) →
    ask_of past x c op ≡ Some other → IsLoggedAfter c (ask_of past x c op) (Some (seen.Wrote i d f p bytes)) → server_of other ≡ f.server
written_to past x c op i d f p bytes other e h =
    by other (subst (λ o. IsLoggedAfter c o (Some (seen.Wrote i d f p bytes))) e h)
  where
    same : {g : FileId} {q : PageNo} {bs : List ℕ} → seen.Wrote i d f p bytes ≡ seen.Wrote i c g q bs → g.server ≡ f.server
    same e = cc

    by : (other : Ask) → IsLoggedWrite c (Some other) (seen.Wrote i d f p bytes) → server_of other ≡ f.server
    by (asks.Write g q bs) k = same k
    by (asks.Patch g q at bs) k = absurd k
    by (asks.Read g q) k = absurd k
    by (asks.Sync g) k = absurd k
    by (asks.Cut g q) k = absurd k
    by (asks.Name s ask) k = absurd k

patched_to : (past : List Step) (x : Step) (c : ClientId) (op : ℕ) (i : ℕ) (d : ClientId) (f : FileId) (p : PageNo) (at : ℕ) (bytes : List ℕ) (other : Ask) →
    ask_of past x c op ≡ Some other → IsLoggedAfter c (ask_of past x c op) (Some (seen.Patched i d f p at bytes)) → server_of other ≡ f.server
patched_to past x c op i d f p at bytes other e h =
    by other (subst (λ o. IsLoggedAfter c o (Some (seen.Patched i d f p at bytes))) e h)
  where
    same : {g : FileId} {q : PageNo} {b : ℕ} {bs : List ℕ} → seen.Patched i d f p at bytes ≡ seen.Patched i c g q b bs → g.server ≡ f.server
    same e = cc

    by : (other : Ask) → IsLoggedWrite c (Some other) (seen.Patched i d f p at bytes) → server_of other ≡ f.server
    by (asks.Patch g q b bs) k = same k
    by (asks.Write g q bs) k = absurd k
    by (asks.Read g q) k = absurd k
    by (asks.Sync g) k = absurd k
    by (asks.Cut g q) k = absurd k
    by (asks.Name s ask) k = absurd k

module _ (X : Type 0) (c : ClientId) (op : ℕ) (ask : Ask) (s : ServerId) (at_server : server_of ask ≡ s) (kind : is_cut_or_name ask ≡ true) (past : List Step)
    (x : Step) (own : world.numbered (asks_of (past ++ x ∷ []) c) op ≡ Some ask) (v : Volume) where
  abbrev as2 : Asked
  as2 = asks_of (past ++ x ∷ [])

  abbrev t : World
  t = x.before.world

  abbrev starts2 : List ServerId
  starts2 = started_all (of_event t x.event) v.starts

  abbrev pub Waits : Volume → Type 0
  Waits u = following.Waits X c op ask s at_server kind as2 own starts2 u

  abbrev pub Followed : Volume → Type 0
  Followed u = following.Followed X c op ask s at_server kind as2 own starts2 u

  abbrev Knows : Volume → Type 0
  Knows u = following.Knows X c op ask s at_server kind as2 own starts2 u

  abbrev pub Own : ClientId → ℕ → AppAnswer → Type 0
  Own d n answer = following.Own X c op ask s at_server kind as2 own starts2 d n answer

  abbrev pub Reads : ClientId → ℕ → AppAnswer → Type 0
  Reads d n answer = following.Reads X c op ask s at_server kind as2 own starts2 d n answer

  abbrev LinesFine : List Observation → Type 0
  LinesFine os = following.LinesFine X c op ask s at_server kind as2 own starts2 os

  -- What is seen of the event itself.
  one_first : (it : VolumeStep) → (is_other it ≡ true → AreOf as2 v) →
      (following.starts_none X c op ask s at_server kind as2 own starts2 it ≡ true → v.starts ≡ starts2) →
      following.Fine X c op ask s at_server kind as2 own starts2 it v → Followed v → OnSome Followed (run (it ∷ []) v)
  one_first it of st f h = following.run_one X c op ask s at_server kind as2 own starts2 v it of st f h

  module _ (right : AreOf (asks_of past) v) (started_ : x.event ≡ events.Start (nodes.Server s) → X) (h : Followed v) where
    still : (e : Event) → x.event ≡ e → ((d : ClientId) → ask_in d e ≡ None) → AreOf as2 v
    still e q none =
        moved (asked_after (asks_of past) e) as2
        (λ d. asks_more past x d
        ∙ ap (λ y. asked_after (asks_of past) y d) q) v
        (other_asked (asks_of past) v right e none)

    no : {A : Type 0} → false ≡ true → A
    no q = cc q

    first_followed : OnSome Followed (run (of_event t x.event) v)
    unfolding of_event run
    first_followed = by x.event refl
      where
        failed : (e : Event) → x.event ≡ e → ((d : ClientId) → ask_in d e ≡ None) → started_all (of_event t e) v.starts ≡ v.starts →
            (k : Option IssuedCommand) →
            failure_of t k ≡ of_event t e → OnSome Followed (run (failure_of t k) v)
        failed e q none st None z = h
        failed e q none st (Some y) z = told (site_of t y.client)
          where
            told : (o : Option WorldClient) → OnSome Followed (run (failure_told y o) v)
            told None = h
            told (Some site) = go (is_same_instance y site)
              where
                which : (o : Option carried.Carried) → OnSome Followed (run (failure y o ∷ []) v)
                which None =
                    one_first (kinds.ReadFailed y.client y.server y.number) (λ w. still e q none)
                    (λ w. sym (ap (λ a. started_all (of_event t a) v.starts) q ∙ st)) tt h
                which (Some f) =
                    one_first (kinds.WriteFailed y.client y.number f.index) (λ w. still e q none)
                    (λ w. sym (ap (λ a. started_all (of_event t a) v.starts) q ∙ st)) tt h

                go : (b : Bool) → OnSome Followed (run (if b then failure y y.carries ∷ [] else []) v)
                go true = which y.carries
                go false = h

        none_started : (k : Option IssuedCommand) → started_all (failure_of t k) v.starts ≡ v.starts
        none_started None = refl
        none_started (Some y) = told (site_of t y.client)
          where
            told : (o : Option WorldClient) → started_all (failure_told y o) v.starts ≡ v.starts
            told None = refl
            told (Some site) = go (is_same_instance y site) y.carries
              where
                go : (b : Bool) (o : Option carried.Carried) → started_all (if b then failure y o ∷ [] else []) v.starts ≡ v.starts
                go true None = refl
                go true (Some f) = refl
                go false o = refl

        by : (e : Event) → x.event ≡ e → OnSome Followed (run (of_event t e) v)
        by (events.App d new) q = one_first (kinds.Asked d new) (λ w. no w) (λ w. no w) tt h
        by (events.Crash (nodes.Client d)) q =
            one_first (kinds.Crashed d) (λ w. still (events.Crash (nodes.Client d)) q (λ y. refl))
            (λ w. sym (ap (λ a. started_all (of_event t a) v.starts) q)) tt h
        by (events.Crash (nodes.Server r)) q = h
        by (events.Start (nodes.Server r)) q =
            one_first (kinds.Restarted r) (λ w. still (events.Start (nodes.Server r)) q (λ y. refl)) (λ w. no w)
            (λ e. started_ (q ∙ ap (λ y. events.Start (nodes.Server y)) e)) h
        by (events.Start (nodes.Client d)) q = h
        by (events.Report k false) q = failed (events.Report k false) q (λ y. refl) (none_started (issued_of t k)) (issued_of t k) refl
        by (events.Report k true) q = h
        by (events.Tick n) q = h
        by (events.Deliver k) q = h
        by (events.Lose k) q = h
        by (events.Cut from to) q = h
        by (events.Heal from to) q = h
        by (events.Advance increments) q = h
        by (events.Effect k) q = h

    first_knows : OnSome Knows (run (of_event t x.event) v)
    first_knows =
        on_both (λ u. AreOf as2 u × (u.starts ≡ starts2)) Followed (run (of_event t x.event) v)
        (on_both (AreOf as2) (λ u. u.starts ≡ starts2) (run (of_event t x.event) v)
        (on_more (AreOf (asked_after (asks_of past) x.event)) (AreOf as2)
        (λ u k. moved (asked_after (asks_of past) x.event) as2
        (λ d. asks_more past x d) u k) (run (of_event t x.event) v)
        (event_right (asks_of past) t x.event v right))
        (run_starts (of_event t x.event) v))
        first_followed

    -- A request that a server serves.
    module _ (bs : List Behind)
        (served : (j : ℕ) (m : SentMessage) (r : ServerId) → x.event ≡ events.Deliver j → message_of t j ≡ Some m → receiver_of m ≡ nodes.Server r →
        does_at t r (node_of t r) m.message ≡ true → sender m.message.header ≡ c → r ≡ s → X) where
      delivered : (j : ℕ) → x.event ≡ events.Deliver j → Knows v → OnSome Knows (run (of_delivery bs v t (events.Deliver j)) v)
      unfolding run
      delivered j e k = go (message_of t j) refl
        where
          taken : (m : SentMessage) (r : ServerId) → message_of t j ≡ Some m → receiver_of m ≡ nodes.Server r →
              does_at t r (node_of t r) m.message ≡ true → OnSome Knows (run (takes_op bs v r m.message ∷ []) v)
          taken m r is to does =
              following.run_two X c op ask s at_server kind as2 own starts2 (takes_op bs v r m.message) [] v refl
              (λ w a f g z. served j m r e is to does (key a f g) (to_server a f ∙ z)) k (λ u w. w)
            where
              n : ℕ
              n = op_of v r m.message (find (is_behind r m.message.header) bs)

              key : (a : Pending) → find (is_ask (sender m.message.header) (op_of v r m.message (find (is_behind r m.message.header) bs)))
                  (v.pending ++ v.orphans) ≡ Some a →
                  a.client ≡ c → sender m.message.header ≡ c
              key a f g =
                  sym (client_is a.client (sender m.message.header)
                  (and_true (volume.is_of_client (sender m.message.header) a)
                  (a.op == op_of v r m.message (find (is_behind r m.message.header) bs))
                  (found_at (is_ask (sender m.message.header) (op_of v r m.message (find (is_behind r m.message.header) bs))) (v.pending ++ v.orphans)
                  a f).0).0) ∙ g

              to_server : (a : Pending) → find (is_ask (sender m.message.header) (op_of v r m.message (find (is_behind r m.message.header) bs)))
                  (v.pending ++ v.orphans) ≡ Some a →
                  r ≡ server_of a.ask
              to_server a = by (find (is_behind r m.message.header) bs)
                where
                  none : find (is_ask (sender m.message.header) (above_all (v.pending ++ v.orphans))) (v.pending ++ v.orphans) ≡ Some a → r ≡ server_of a.ask
                  none f =
                      absurd (none_not_some a
                      (sym (none_above (sender m.message.header) (above_all (v.pending ++ v.orphans)) (v.pending ++ v.orphans) (omega arith)) ∙ f))

                  by : (o : Option Behind) → find (is_ask (sender m.message.header) (op_of v r m.message o)) (v.pending ++ v.orphans) ≡ Some a →
                      r ≡ server_of a.ask
                  by None f = none f
                  by (Some b) f = pick (is_there v r m.message b.op) refl f
                    where
                      pick : (y : Bool) → is_there v r m.message b.op ≡ y →
                          find (is_ask (sender m.message.header) (if y then b.op else above_all (v.pending ++ v.orphans))) (v.pending ++ v.orphans) ≡ Some a →
                          r ≡ server_of a.ask
                      pick false q f = none f
                      pick true q f =
                          sym (request_to r m.message.body a.ask (sym (ap (is_any (λ (z : Pending). is_request_for r m.message.body z.ask)) f) ∙ q))

          to : (m : SentMessage) → message_of t j ≡ Some m → (d : NodeId) → receiver_of m ≡ d → OnSome Knows (run (to_node bs v t m.message d) v)
          to m is (nodes.Client d) q = k
          to m is (nodes.Server r) q = by (does_at t r (node_of t r) m.message) refl
            where
              by : (b : Bool) → does_at t r (node_of t r) m.message ≡ b → OnSome Knows (run (if b then takes_op bs v r m.message ∷ [] else []) v)
              by false w = k
              by true w = taken m r is q w

          go : (o : Option SentMessage) → message_of t j ≡ o → OnSome Knows (run (of_message bs v t o) v)
          go None q = k
          go (Some m) q = to m q (receiver_of m) refl

      -- Its lines.
      module _ (changes : (o : Observation) → Has o x.seen → (d : ClientId) (f : FileId) →
          ((i : ℕ) (p : PageNo) (bytes : List ℕ) → o ≡ seen.Wrote i d f p bytes → d ≡ c → f.server ≡ s → X)
          × ((i : ℕ) (p : PageNo) (at : ℕ) (bytes : List ℕ) → o ≡ seen.Patched i d f p at bytes → d ≡ c → f.server ≡ s → X))
          (own_ : (d : ClientId) (n : ℕ) (answer : AppAnswer) → Has (seen.Answered d n answer) x.seen → Own d n answer)
          (reads : (d : ClientId) (n : ℕ) (answer : AppAnswer) → Has (seen.Answered d n answer) x.seen → Reads d n answer) where
        lines_fine : (line : Option Observation) (os : List Observation) → ((o : Observation) → Has o os → Has o x.seen) → AreLogged past x line os →
            all_followed os ≡ true → LinesFine os
        unfolding AreLogged all_followed
        lines_fine line [] i l b = tt
        lines_fine line (seen.Wrote j d f p bytes ∷ []) i l b = no b
        lines_fine line (seen.Wrote j d f p bytes ∷ (a ∷ os)) i l b =
            let z = and_true (begins_written d (a ∷ os)) (all_followed (a ∷ os)) b in
            (changed (written_is d a z.0) z.0 l.1.0, lines_fine (Some (seen.Wrote j d f p bytes)) (a ∷ os) (λ o k. i o (inr k)) l.1 z.1)
          where
            changed : Written a → begins_written d (a ∷ os) ≡ true → IsLogged past x (Some (seen.Wrote j d f p bytes)) a →
                following.Changes X c op ask s at_server kind as2 own starts2 d (next_op (a ∷ os))
            changed (d2, n, e) y k = λ g other asked_ to.
                (changes (seen.Wrote j d f p bytes) (i (seen.Wrote j d f p bytes) (inl refl)) d f).0 j p bytes refl g
                (sym (written_to past x d2 n j d f p bytes other
                (ap (λ (w : ClientId). ask_of past x w n) (client_is d2 d (subst (λ w. begins_written d (w ∷ os) ≡ true) e y) ∙ g)
                ∙ subst (λ w. world.numbered (as2 c) (next_op (w ∷ os)) ≡ Some other) e asked_)
                (subst (IsLogged past x (Some (seen.Wrote j d f p bytes))) e k)) ∙ to)
        lines_fine line (seen.Patched j d f p at bytes ∷ []) i l b = no b
        lines_fine line (seen.Patched j d f p at bytes ∷ (a ∷ os)) i l b =
            let z = and_true (begins_written d (a ∷ os)) (all_followed (a ∷ os)) b in
            (changed (written_is d a z.0) z.0 l.1.0, lines_fine (Some (seen.Patched j d f p at bytes)) (a ∷ os) (λ o k. i o (inr k)) l.1 z.1)
          where
            changed : Written a → begins_written d (a ∷ os) ≡ true → IsLogged past x (Some (seen.Patched j d f p at bytes)) a →
                following.Changes X c op ask s at_server kind as2 own starts2 d (next_op (a ∷ os))
            changed (d2, n, e) y k = λ g other asked_ to.
                (changes (seen.Patched j d f p at bytes) (i (seen.Patched j d f p at bytes) (inl refl)) d f).1 j p at bytes refl g
                (sym (patched_to past x d2 n j d f p at bytes other
                (ap (λ (w : ClientId). ask_of past x w n) (client_is d2 d (subst (λ w. begins_written d (w ∷ os) ≡ true) e y) ∙ g)
                ∙ subst (λ w. world.numbered (as2 c) (next_op (w ∷ os)) ≡ Some other) e asked_)
                (subst (IsLogged past x (Some (seen.Patched j d f p at bytes))) e k)) ∙ to)
        lines_fine line (seen.Answered d n answer ∷ os) i l b = (
          (own_ d n answer (i (seen.Answered d n answer) (inl refl)), reads d n answer (i (seen.Answered d n answer) (inl refl))),
          lines_fine (Some (seen.Answered d n answer)) os (λ o k. i o (inr k)) l.1 b,
        )
        lines_fine line (seen.CutAt j f p ∷ os) i l b = (tt, lines_fine (Some (seen.CutAt j f p)) os (λ o k. i o (inr k)) l.1 b)
        lines_fine line (seen.Hardened j ∷ os) i l b = (tt, lines_fine (Some (seen.Hardened j)) os (λ o k. i o (inr k)) l.1 b)
        lines_fine line (seen.Dropped j cause ∷ os) i l b = (tt, lines_fine (Some (seen.Dropped j cause)) os (λ o k. i o (inr k)) l.1 b)
        lines_fine line (seen.Sent j m ∷ os) i l b = (tt, lines_fine (Some (seen.Sent j m)) os (λ o k. i o (inr k)) l.1 b)
        lines_fine line (seen.Submitted j d n what ∷ os) i l b = (tt, lines_fine (Some (seen.Submitted j d n what)) os (λ o k. i o (inr k)) l.1 b)
        lines_fine line (seen.Leased d r end ∷ os) i l b = (tt, lines_fine (Some (seen.Leased d r end)) os (λ o k. i o (inr k)) l.1 b)
        lines_fine line (seen.Lost d r life ∷ os) i l b = (tt, lines_fine (Some (seen.Lost d r life)) os (λ o k. i o (inr k)) l.1 b)
        lines_fine line (seen.Suspected r d start ∷ os) i l b = (tt, lines_fine (Some (seen.Suspected r d start)) os (λ o k. i o (inr k)) l.1 b)
        lines_fine line (seen.Stolen r d life ∷ os) i l b = (tt, lines_fine (Some (seen.Stolen r d life)) os (λ o k. i o (inr k)) l.1 b)

        none_seen : (j : ℕ) → of_event t (events.Deliver j) ≡ []
        unfolding of_event
        none_seen j = refl

        none_run : OnSome Knows (run [] v) → Knows v
        unfolding run
        none_run k = k

        abbrev All : List VolumeStep
        All = of_event t x.event ++ (of_delivery bs v t x.event ++ of_lines t x.seen)

        pub event_followed : AreLogged past x None x.seen → all_followed x.seen ≡ true → OnSome Followed (run All v)
        event_followed l b = on_more Knows Followed (λ u k. k.1) (run All v) (all x.event refl)
          where
            rest : (u : Volume) → Knows u → OnSome Knows (run (of_lines t x.seen) u)
            rest u k =
                following.lines_followed X c op ask s at_server kind as2 own starts2 t x.seen u (lines_fine None x.seen (λ o i. i) l b) k

            plain : of_delivery bs v t x.event ≡ [] → OnSome Knows (run All v)
            plain q =
                subst (λ xs. OnSome Knows (run (of_event t x.event ++ (xs ++ of_lines t x.seen)) v)) (sym q)
                (run_then Knows (of_event t x.event) (of_lines t x.seen) v
                (on_more Knows (λ u. OnSome Knows (run (of_lines t x.seen) u)) rest (run (of_event t x.event) v) first_knows))

            delivery : (j : ℕ) → x.event ≡ events.Deliver j → OnSome Knows (run All v)
            delivery j q =
                subst (λ xs. OnSome Knows (run (xs ++ (of_delivery bs v t x.event ++ of_lines t x.seen)) v)) (sym none)
                (run_then Knows (of_delivery bs v t x.event) (of_lines t x.seen) v
                (on_more Knows (λ u. OnSome Knows (run (of_lines t x.seen) u)) rest (run (of_delivery bs v t x.event) v)
                (subst (λ e. OnSome Knows (run (of_delivery bs v t e) v)) (sym q)
                (delivered j q (none_run (subst (λ xs. OnSome Knows (run xs v)) none first_knows))))))
              where
                none : of_event t x.event ≡ []
                none = ap (of_event t) q ∙ none_seen j

            all : (e : Event) → x.event ≡ e → OnSome Knows (run All v)
            all (events.Deliver j) q = delivery j q
            all (events.Tick d) q = plain (ap (of_delivery bs v t) q)
            all (events.App d new) q = plain (ap (of_delivery bs v t) q)
            all (events.Lose j) q = plain (ap (of_delivery bs v t) q)
            all (events.Cut from to) q = plain (ap (of_delivery bs v t) q)
            all (events.Heal from to) q = plain (ap (of_delivery bs v t) q)
            all (events.Advance increments) q = plain (ap (of_delivery bs v t) q)
            all (events.Effect j) q = plain (ap (of_delivery bs v t) q)
            all (events.Report j ok) q = plain (ap (of_delivery bs v t) q)
            all (events.Crash d) q = plain (ap (of_delivery bs v t) q)
            all (events.Start d) q = plain (ap (of_delivery bs v t) q)
