-- The replies by which leases are dated, through a whole step of their server in the world.
use Rattle.st_lemmas.proofs.Words
use Words.{◌≡◌, ℕ, ◌+◌, ◌<◌, ◌≤◌, ◌⊎◌, Bool, true, false, not, List, [], ◌∷◌, ◌==◌, refl, sym, ap, ◌∙◌, subst, inl, inr, arith, suc, cond, find, filter}
use Words.{length, Option, Some, None, Ok, is_some, eq-eqb, eqb-true, ClientId, ServerId, Stamp, NodeId, Message, Output, Suspect, ServerInput, Session}
use Words.{SentMessage}
use Words.nodes
use Words.events
use Words.notes
use Words.outputs
use Words.serving.{Tick, Control}
use Words.Keys.{client}
use Words.Authority as authority
use Words.Authority.{Authority, suspect_of, is_over, is_suspect}
use Words.Sessions.{session_of}
use Words.Server.{ServerState, ServerNode, ServerTurn, turn, with_authority, steal_at, steal_from, steal, steal_each, thefts, server_step}
use Words.World.{World, numbered, node_of, clock_of, server}
use Words.Events.{WorldTurn, quiet, counted, with_node, sends, cuts, server_notes, server_says, server_says_all, server_takes, world_step}
use Words.History.{Traced, History, TimerStart, is_timer_of, recall_all, remember, traced_after}
use Words.Dating.{is_request, is_reply_to}
use Words.Lists.{Has}
use Words.Tables.{and_both, cond_true, cond_false, found_at, has_filter, not_true}
use Words.Numbers.{numbered_more, numbered_below, numbered_own}
use Words.Members.{has_left}
use Words.Truth.{not_both}
use Rattle.st_laws_refine.specs.Server.Edits.{WishInput}
use Rattle.st_trace.specs.Server.Edits.{NoSends}
use Rattle.st_laws_refine.specs.Server.Pair.{terms_of}
use Rattle.st_laws_refine.specs.Server.Invariants.{Known, ByTick, ByMessage}
use Rattle.st_laws_refine.specs.Server.DatingReplies.{DatesLease, Dated, DatedAfter, RepliesStayDated}
use Rattle.st_laws_refine.proofs.Server.Delivery.{takes_is, all_messages, all_parts, tick_is, delivery_is, taken, message_has, to_server}
use Rattle.st_laws_refine.proofs.Server.Known.{There, there_end, known_step}
use Rattle.st_laws_refine.proofs.Server.Thefts.{over_has, has_over}
use Rattle.st_laws_refine.proofs.Server.Walk.{walk_on}
use Rattle.st_trace.proofs.Server.Input.{no_sends_note}
use Rattle.st_laws_refine.proofs.Server.Dating.{timers_by, timers_more, timers_old, all_timers, DatingTurn, dating_edit}

-- what is found, and is not left out, is found in what is left
found_left : {A : Type 0} (p q : A → Bool) (xs : List A) (y : A) → find p xs ≡ Some y → q y ≡ true → find p (filter q xs) ≡ Some y
found_left p q [] y e f = cc
found_left {A} p q (x ∷ xs) y e f = go (p x) (q x) refl refl e (λ e. found_left p q xs y e f)
  where
    same : ◌≡◌ {A = Option A} (Some x) (Some y) → x ≡ y
    same e = cc

    go : (a b : Bool) → p x ≡ a → q x ≡ b → cond a (Some x) (find p xs) ≡ Some y → (find p xs ≡ Some y → find p (filter q xs) ≡ Some y) → find p (cond b (x ∷ filter q xs) (filter q xs)) ≡ Some y
    go true true g h e r = cond_true _ _ _ g ∙ e
    go true false g h e r = let z = ap q (same e) in cc
    go false true g h e r = cond_false _ _ _ g ∙ r e
    go false false g h e r = r e

nothing_sent : (os : List Output) → NoSends os → (m : Message) → Has (outputs.Send m) os → ⊥
nothing_sent [] q m h = h
nothing_sent (outputs.Send x ∷ os) q m h = q
nothing_sent (outputs.Note x ∷ os) q m (inl e) = cc
nothing_sent (outputs.Note x ∷ os) q m (inr h) = nothing_sent os q m h
nothing_sent (outputs.Answer x y ∷ os) q m (inl e) = cc
nothing_sent (outputs.Answer x y ∷ os) q m (inr h) = nothing_sent os q m h
nothing_sent (outputs.Submit x y z ∷ os) q m (inl e) = cc
nothing_sent (outputs.Submit x y z ∷ os) q m (inr h) = nothing_sent os q m h

module _ (w : World) (s : ℕ) (ts : List TimerStart) (a : Authority) where
  abbrev S : ServerId
  S = record { 0 = s }

  -- the thefts of these clients are still to come
  record Stealing (cs : List ClientId) (t : ServerTurn) : Type 0 where
    id : t.state.id.0 ≡ s
    same : t.state.authority ≡ a
    met : (c : ClientId) → Has c cs → There t.state.sessions c
    quiet : NoSends t.out
    timers : (x : TimerStart) → Has x (timers_by w S t.out ts) → x.server.0 ≡ s → (is_some (suspect_of a x.client) ≡ true) ⊎ Has x.client cs

  steals_one : (c : ClientId) (cs : List ClientId) (t : ServerTurn) (x : Session) → Stealing (c ∷ cs) t → Stealing cs (steal_from t c x)
  unfolding steal_from
  steals_one c cs t x k = record {
    id = k.id;
    same = k.same;
    met = λ d h. there_end t.state.sessions c d (k.met d (inr h));
    quiet = no_sends_note t.out _ k.quiet tt;
    timers = λ y h f. let g = has_filter (λ z. not (is_timer_of S c z)) (timers_by w S t.out ts) y (subst (Has y) (timers_more w S t.out (outputs.Note (notes.Stolen c x.life)) ts) h) in by y f (not_true _ g.1) (k.timers y g.0 f);
  }
    where
      by : (y : TimerStart) → y.server.0 ≡ s → is_timer_of S c y ≡ false → (is_some (suspect_of a y.client) ≡ true) ⊎ ((y.client ≡ c) ⊎ Has y.client cs) → (is_some (suspect_of a y.client) ≡ true) ⊎ Has y.client cs
      by y f n (inl e) = inl e
      by y f n (inr (inl e)) =
          absurd (not_both (is_timer_of S c y) (and_both (y.server.0 == s) (y.client.0 == c.0) (eq-eqb _ _ f) (eq-eqb _ _ (ap (λ (c : ClientId). c.0) e))) n)
      by y f n (inr (inr h)) = inr h

  steal_met : (c : ClientId) (cs : List ClientId) (t : ServerTurn) (o : Option Session) → session_of t.state.sessions c ≡ o → Stealing (c ∷ cs) t → Stealing cs (steal_at t c o)
  unfolding steal_at
  steal_met c cs t None e k = let z = k.met c (inl refl) in let y = ap is_some e in absurd (none_there (session_of t.state.sessions c) e z)
    where
      none_there : (o : Option Session) → o ≡ None → is_some o ≡ true → ⊥
      none_there None e f = cc
      none_there (Some x) e f = cc
  steal_met c cs t (Some x) e k = steals_one c cs t x k

  steals : (cs : List ClientId) (t : ServerTurn) → Stealing cs t → Stealing [] (steal_each cs t)
  unfolding steal_each steal
  steals [] t k = k
  steals (c ∷ cs) t k = steals cs (steal t c) (steal_met c cs t (session_of t.state.sessions c) refl k)

same_client_is : (y : Suspect) (c : ClientId) → y.client.0 ≡ c.0 → y.client ≡ c
same_client_is y c e = ap (λ n. client n) e

-- right after the thefts
after_thefts : (w : World) (s : ℕ) (n : ServerState) (now : Stamp) (i : ServerInput) (ts : List TimerStart) → n.id.0 ≡ s → 0 < n.authority.wait → Known n →
    ((x : TimerStart) → Has x ts → x.server.0 ≡ s → is_some (suspect_of n.authority x.client) ≡ true) → DatingTurn w s i now ts (thefts (turn n []) now)
unfolding thefts authority.still_running
after_thefts w s n now i ts id pos known runs =
    let z = steals w s ts (authority.still_running n.authority now) (authority.over n.authority now) (with_authority (authority.still_running n.authority now) (turn n [])) begun in
    record {
      id = z.id;
      wait = subst (λ (a : Authority). 0 < a.wait) (sym z.same) pos;
      young = subst (λ (a : Authority). (x : Suspect) → Has x a.suspects → is_over a.wait now x ≡ false) (sym z.same) (λ x h. not_true _ (has_filter (λ s. not (is_over n.authority.wait now s)) n.authority.suspects x h).1);
      timers = λ x h f. left x (z.timers x h f) z.same;
      sends = λ m h e. absurd (nothing_sent _ z.quiet m h);
    }
  where
    left : {b : Authority} (x : TimerStart) → (is_some (suspect_of (authority.still_running n.authority now) x.client) ≡ true) ⊎ Has x.client [] → b ≡ authority.still_running n.authority now → is_some (suspect_of b x.client) ≡ true
    left x (inl e) f = ap (λ (b : Authority). is_some (suspect_of b x.client)) f ∙ e
    left x (inr h) f = elim h [ ]

    by_over : (x : TimerStart) (y : Suspect) → suspect_of n.authority x.client ≡ Some y → (b : Bool) → is_over n.authority.wait now y ≡ b → (is_some (suspect_of (authority.still_running n.authority now) x.client) ≡ true) ⊎ Has x.client (authority.over n.authority now)
    by_over x y e true f = let p = found_at (is_suspect x.client) n.authority.suspects y e in inr (subst (λ c. Has c (authority.over n.authority now)) (same_client_is y x.client (eqb-true _ _ p.0)) (has_over n.authority now y p.1 f))
    by_over x y e false f = inl (ap is_some (found_left (is_suspect x.client) (λ s. not (is_over n.authority.wait now s)) n.authority.suspects y e (ap not f)))

    by_suspect : (x : TimerStart) (o : Option Suspect) → suspect_of n.authority x.client ≡ o → is_some o ≡ true → (is_some (suspect_of (authority.still_running n.authority now) x.client) ≡ true) ⊎ Has x.client (authority.over n.authority now)
    by_suspect x None e f = cc
    by_suspect x (Some y) e f = by_over x y e (is_over n.authority.wait now y) refl

    begun : Stealing w s ts (authority.still_running n.authority now) (authority.over n.authority now) (with_authority (authority.still_running n.authority now) (turn n []))
    begun = record {
      id = id;
      same = refl;
      met = λ c h. let o = over_has n.authority now c h in subst (There n.sessions) (sym o.3) (known.timers o.0 o.1);
      quiet = tt;
      timers = λ x h f. by_suspect x (suspect_of n.authority x.client) refl (runs x h f);
    }

-- The messages after a server's outputs, by their numbers.
says_numbered : (s : ServerId) (o : Output) (sc : WorldTurn) (n : ℕ) (m : SentMessage) → numbered (server_says sc s o).world.net.messages n ≡ Some m → (numbered sc.world.net.messages n ≡ Some m) ⊎ (o ≡ outputs.Send m.message)
unfolding server_says server_notes sends cuts
says_numbered s (outputs.Send q) sc n m e = go (numbered_more sc.world.net.messages (record { message = q; lost = false }) n m e)
  where
    go : (numbered sc.world.net.messages n ≡ Some m) ⊎ ((n ≡ suc (length sc.world.net.messages)) × (m ≡ record { message = q; lost = false })) → (numbered sc.world.net.messages n ≡ Some m) ⊎ (◌≡◌ {A = Output} (outputs.Send q) (outputs.Send m.message))
    go (inl i) = inl i
    go (inr h) = inr (ap (λ (x : SentMessage). outputs.Send x.message) (sym h.1))
says_numbered s (outputs.Note (notes.Suspected c start)) sc n m e = inl e
says_numbered s (outputs.Note (notes.Stolen c life)) sc n m e = inl e
says_numbered s (outputs.Note (notes.CutDone f p)) sc n m e = inl e
says_numbered s (outputs.Note x) sc n m e = inl e
says_numbered s (outputs.Answer x y) sc n m e = inl e
says_numbered s (outputs.Submit x y z) sc n m e = inl e

all_numbered : (s : ServerId) (os : List Output) (sc : WorldTurn) (n : ℕ) (m : SentMessage) → numbered (server_says_all s os sc).world.net.messages n ≡ Some m → (numbered sc.world.net.messages n ≡ Some m) ⊎ Has (outputs.Send m.message) os
unfolding server_says_all
all_numbered s [] sc n m e = inl e
all_numbered s (o ∷ os) sc n m e = go (all_numbered s os (server_says sc s o) n m e)
  where
    one : (numbered sc.world.net.messages n ≡ Some m) ⊎ (o ≡ outputs.Send m.message) → (numbered sc.world.net.messages n ≡ Some m) ⊎ Has (outputs.Send m.message) (o ∷ os)
    one (inl i) = inl i
    one (inr f) = inr (inl (sym f))

    go : (numbered (server_says sc s o).world.net.messages n ≡ Some m) ⊎ Has (outputs.Send m.message) os → (numbered sc.world.net.messages n ≡ Some m) ⊎ Has (outputs.Send m.message) (o ∷ os)
    go (inl i) = one (says_numbered s o sc n m i)
    go (inr h) = inr (inr h)

says_keeps : (s : ServerId) (o : Output) (sc : WorldTurn) (m : SentMessage) → Has m sc.world.net.messages → Has m (server_says sc s o).world.net.messages
unfolding server_says server_notes sends cuts
says_keeps s (outputs.Send q) sc m h = has_left sc.world.net.messages _ m h
says_keeps s (outputs.Note (notes.Suspected c start)) sc m h = h
says_keeps s (outputs.Note (notes.Stolen c life)) sc m h = h
says_keeps s (outputs.Note (notes.CutDone f p)) sc m h = h
says_keeps s (outputs.Note x) sc m h = h
says_keeps s (outputs.Answer x y) sc m h = h
says_keeps s (outputs.Submit x y z) sc m h = h

all_keep : (s : ServerId) (os : List Output) (sc : WorldTurn) (m : SentMessage) → Has m sc.world.net.messages → Has m (server_says_all s os sc).world.net.messages
unfolding server_says_all
all_keep s [] sc m h = h
all_keep s (o ∷ os) sc m h = all_keep s os (server_says sc s o) m (says_keeps s o sc m h)

recall_none : (w v : World) (h : History) → recall_all w v [] h ≡ h
unfolding recall_all
recall_none w v h = refl

-- the history after a step of the server
abbrev pub after_step : Traced → WorldTurn → Traced
after_step t sc = record { world = sc.world; history = recall_all t.world sc.world sc.seen t.history }

-- A step of the server leaves its replies dated.
pub dated_step : (s : ℕ) (t : Traced) (node : ServerNode) (i : ServerInput) → node.running ≡ true → node.state.id.0 ≡ s → 0 < node.state.authority.wait → Known node.state → WishInput i →
    ((q : Message) → i ≡ Control q → (q.header.to ≡ 32768 + s) × (x : SentMessage) × Has x t.world.net.messages × (x.message ≡ q)) → Dated s t node →
    Dated s (after_step t (server_takes (counted t.world) (server s) i node)) (record node { state = (server_step node.state (clock_of t.world (nodes.Server (server s))) i).state })
dated_step s t node i runs id pos known wish came d =
    subst (λ sc. Dated s (after_step t sc) (record node { state = step.state })) (sym (takes_is (counted t.world) (server s) i node runs)) now_dated
  where
    Now : Stamp
    Now = clock_of t.world (nodes.Server (server s))

    step : ServerTurn
    step = server_step node.state Now i

    w1 : World
    w1 = with_node (server s) (record node { state = step.state }) (counted t.world)

    sc : WorldTurn
    sc = server_says_all (server s) step.out (quiet w1)

    z : DatingTurn t.world s i Now t.history.timers step
    z = walk_on node.state Now i (DatingTurn t.world s i Now t.history.timers) (dating_edit t.world s node.state Now i t.history.timers (λ q e. (came q e).0)) wish
        (after_thefts t.world s node.state Now i t.history.timers id pos known (λ x h f. (d.runs x h f).1))

    timers_are : (recall_all t.world sc.world sc.seen t.history).timers ≡ timers_by t.world (server s) step.out t.history.timers
    timers_are = all_timers t.world sc.world (server s) step.out (quiet w1) t.history ∙ ap (λ (h : History). timers_by t.world (server s) step.out h.timers) (recall_none t.world sc.world t.history)

    new_asked : (m : SentMessage) → Has (outputs.Send m.message) step.out → DatesLease s m → (q : SentMessage) × Has q sc.world.net.messages × (is_request q.message.body ≡ true) × (is_reply_to q.message m.message ≡ true)
    new_asked m h l =
        let a = z.sends m.message h l.dates in let c = came a.request a.came in
        (c.1, all_keep (server s) step.out (quiet w1) c.1 c.2, subst (λ (q : Message). is_request q.body ≡ true) (sym c.3) a.asks, subst (λ q. is_reply_to q m.message ≡ true) (sym c.3) a.replies)

    clash : (b : Bool) → b ≡ true → not b ≡ true → ⊥
    clash true e f = cc
    clash false e f = cc

    now_dated : Dated s (after_step t sc) (record node { state = step.state })
    now_dated = record {
      asked = λ m h l. go m l (all_messages (server s) step.out (quiet w1) m h);
      before = λ n m e l x h f g. by n m l x (subst (Has x) timers_are h) f g (all_numbered (server s) step.out (quiet w1) n m e);
      runs = λ x h f. (runs, z.timers x (subst (Has x) timers_are h) f);
    }
      where
        go : (m : SentMessage) → DatesLease s m → Has m t.world.net.messages ⊎ Has (outputs.Send m.message) step.out → (q : SentMessage) × Has q sc.world.net.messages × (is_request q.message.body ≡ true) × (is_reply_to q.message m.message ≡ true)
        go m l (inl h) = let q = d.asked m h l in (q.0, all_keep (server s) step.out (quiet w1) q.0 q.1, q.2, q.3)
        go m l (inr h) = new_asked m h l

        old : (n : ℕ) (m : SentMessage) → DatesLease s m → (x : TimerStart) → x.server.0 ≡ s → x.client.0 ≡ m.message.header.to → numbered t.world.net.messages n ≡ Some m → Has x t.history.timers ⊎ (x.sent ≡ length t.world.net.messages) → n ≤ x.sent
        old n m l x f g e (inl h) = d.before n m e l x h f g
        old n m l x f g e (inr h) = let b = numbered_below t.world.net.messages n m e in omega (arith, b.1)

        by : (n : ℕ) (m : SentMessage) → DatesLease s m → (x : TimerStart) → Has x (timers_by t.world (server s) step.out t.history.timers) → x.server.0 ≡ s → x.client.0 ≡ m.message.header.to →
            (numbered t.world.net.messages n ≡ Some m) ⊎ Has (outputs.Send m.message) step.out → n ≤ x.sent
        by n m l x h f g (inl e) = old n m l x f g e (timers_old t.world (server s) step.out t.history.timers x h)
        by n m l x h f g (inr i) =
            let a = z.sends m.message i l.dates in let r = z.timers x h f in
            absurd (clash (is_some (suspect_of step.state.authority (client m.message.header.to))) (subst (λ c. is_some (suspect_of step.state.authority (client c)) ≡ true) g r) a.ack)

after : (s : ℕ) (t : Traced) (node : ServerNode) (i : ServerInput) → node_of t.world (server s) ≡ Some node → node.running ≡ true → node.state.id.0 ≡ s → 0 < node.state.authority.wait → Known node.state → WishInput i →
    ((q : Message) → i ≡ Control q → (q.header.to ≡ 32768 + s) × (x : SentMessage) × Has x t.world.net.messages × (x.message ≡ q)) → Dated s t node → DatedAfter s (after_step t (server_takes (counted t.world) (server s) i node))
after s t node i found runs id pos known wish came d =
    let now : Stamp = clock_of t.world (nodes.Server (server s)) in
    let step : ServerTurn = server_step node.state now i in
    record {
      node = record node { state = step.state };
      found = subst (λ (sc : WorldTurn). node_of sc.world (server s) ≡ Some (record node { state = step.state })) (sym (takes_is (counted t.world) (server s) i node runs))
          (ap (λ xs. numbered xs s) (all_parts (server s) step.out (quiet (with_node (server s) (record node { state = step.state }) (counted t.world)))).servers ∙ numbered_own t.world.servers s (record node { state = step.state }) node found);
      known = known_step node.state now i wish known;
      dated = dated_step s t node i runs id pos known wish came d;
    }

-- A tick and a delivery are remembered only by what is observed.
tick_remembered : (w : World) (n : NodeId) (h : History) → remember w (events.Tick n) h ≡ h
unfolding remember
tick_remembered w n h = refl

delivery_remembered : (w : World) (n : ℕ) (h : History) → remember w (events.Deliver n) h ≡ h
unfolding remember
delivery_remembered w n h = refl

pub replies_stay : RepliesStayDated
replies_stay s t node e sc pos found runs id wait known wishes taken_ok (ByTick is) d =
    subst (λ sc. DatedAfter s (traced_after e t sc)) (sym (tick_is (terms_of t.world.config) 0 s (λ l. 0) t.world node found) ∙ taken t.world (events.Tick (nodes.Server (server s))) sc (subst (λ e. world_step t.world e ≡ Ok sc) is taken_ok))
    (subst (λ h. DatedAfter s (record { world = (server_takes (counted t.world) (server s) Tick node).world; history = recall_all t.world (server_takes (counted t.world) (server s) Tick node).world (server_takes (counted t.world) (server s) Tick node).seen h }))
    (sym (ap (λ e. remember t.world e t.history) is ∙ tick_remembered t.world (nodes.Server (server s)) t.history))
    (after s t node Tick found runs id wait known tt (λ q e. absurd (never q e)) d))
  where
    never : (q : Message) → ◌≡◌ {A = ServerInput} Tick (Control q) → ⊥
    never q e = cc
replies_stay s t node e sc pos found runs id wait known wishes taken_ok (ByMessage n m is there to) d =
    subst (λ sc. DatedAfter s (traced_after e t sc)) (sym (delivery_is (terms_of t.world.config) 0 s (λ l. 0) t.world n m node there to found) ∙ taken t.world (events.Deliver n) sc (subst (λ e. world_step t.world e ≡ Ok sc) is taken_ok))
    (subst (λ h. DatedAfter s (record { world = (server_takes (counted t.world) (server s) (Control m.message) node).world; history = recall_all t.world (server_takes (counted t.world) (server s) (Control m.message) node).world (server_takes (counted t.world) (server s) (Control m.message) node).seen h }))
    (sym (ap (λ e. remember t.world e t.history) is ∙ delivery_remembered t.world n t.history))
    (after s t node (Control m.message) found runs id wait known (wishes m (message_has t.world n m there)) came d))
  where
    same : (q : Message) → ◌≡◌ {A = ServerInput} (Control m.message) (Control q) → m.message ≡ q
    same q e = cc

    came : (q : Message) → ◌≡◌ {A = ServerInput} (Control m.message) (Control q) → (q.header.to ≡ 32768 + s) × (x : SentMessage) × Has x t.world.net.messages × (x.message ≡ q)
    came q e = (subst (λ (q : Message). q.header.to ≡ 32768 + s) (same q e) (to_server m.message.header.to s pos to), m, message_has t.world n m there, same q e)
