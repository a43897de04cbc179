-- Leases are dated from requests: at the start, after every event, and over whole runs.
use Rattle.st_lemmas.proofs.Words
use Words.{◌≡◌, ℕ, ◌+◌, Bool, true, false, not, ◌&&◌, ◌||◌, List, [], ◌∷◌, ◌++◌, ◌==◌, Option, Some, None, Ok, refl, sym, ap, ◌∙◌, subst, arith, map}
use Words.{find, zero, suc, slice_get, nat_le, list_all, list_any, eqb-true, eq-eqb, lt-ltb, le-leb, leb-true, Config, ClientId, ServerId, Life, Stamp, Message}
use Words.{Event, SentMessage}
use Words.nodes
use Words.seen
use Words.Extents.{numbers}
use Words.Keys.{client, same_client, same_server, server_node}
use Words.Client as cl
use Words.ClientState.{Association, ClientSession, is_at}
use Words.Server as server
use Words.Server.{ServerNode}
use Words.World.{WorldClient, site_of, numbered, clock_of, fresh_world, fresh_site, node_at_start, all_clients, all_servers}
use Words.Events.{WorldTurn, world_step}
use Words.History.{Traced, TimerStart, traced, traced_after, association_at}
use Words.Dating as dating
use Words.Safety.{Step, step, LeasesAreDatedFromRequests, IsHead, all_dated, association_dated, session_dated, dates_in, is_dated}
use Words.Tables.{and_true, and_both, some_passes, found_at, has_map, all_pass}
use Words.Lookups.{some_is, or_left, or_right}
use Words.Lengths.{length_map, numbers_length}
use Rattle.st_lemmas.proofs.Steps.{step_happens, throughout}
use Rattle.st_laws_leases.specs.Dates.Dates.{message_in, messages, is_dating, is_from_client, Born, Answer, Dates, SessionDated, ClientDated, Runs, ServerKnown}
use Rattle.st_laws_leases.specs.Dates.Dates.{TimerQuiet, Dated}
use Rattle.st_laws_leases.specs.Dates.Law.{LeasesAreDated, RunsSendNoConflict, ClientsSendNoConflict}
use Rattle.st_laws_leases.proofs.Dates.Calm.{step_calm}
use Rattle.st_laws_leases.proofs.Dates.Leaving.{has_numbered}
use Rattle.st_laws_leases.proofs.Dates.Steps.{Next, next_dated, happens, from_server}
use Rattle.st_laws_pages.proofs.Lives.Fresh.{fresh_is}

-- From the invariant to the promise.
module _ (past : List Step) (t : Traced) (d : Dated past t) where
  -- a reply at a number, after which every timer was started
  replied_at : (s : ServerId) (c : ClientId) (q : Message) (number k : ℕ) (m : Message) (ms : List SentMessage) → slice_get (map message_in ms) k ≡ Some m → dating.is_reply_to q m ≡ true → dating.is_before_timers t.history s c (number + k) ≡ true → dating.replied_from number t s c q ms ≡ true
  unfolding dating.replied_from
  replied_at s c q number k m [] e r b = cc
  replied_at s c q number zero m (x ∷ xs) e r b = or_left _ _ (and_both _ _ (ap (dating.is_reply_to q) (some_is e) ∙ r) (subst (λ n. dating.is_before_timers t.history s c n ≡ true) (let z : number + 0 ≡ number = omega arith in z) b))
  replied_at s c q number (suc k) m (x ∷ xs) e r b = or_right _ _ (replied_at s c q (number + 1) k m xs e r (subst (λ n. dating.is_before_timers t.history s c n ≡ true) (let z : number + suc k ≡ (number + 1) + k = omega arith in z) b))

  -- every timer of the client was started after a message that may date a lease
  before_timers : (s : ServerId) (c : ClientId) (k : ℕ) (m : Message) → numbered (messages t.world) k ≡ Some m → m.header.from ≡ server_node s → m.header.to ≡ c.0 → is_dating m ≡ true → dating.is_before_timers t.history s c k ≡ true
  before_timers s c k m e from to dates = all_pass (dating.started_after s c k) t.history.timers (λ x h. go x (d.timers x h) (same_server x.server s && same_client x.client c) refl)
    where
      go : (x : TimerStart) → TimerQuiet t.world x → (b : Bool) → (same_server x.server s && same_client x.client c) ≡ b → (not b || nat_le k x.sent) ≡ true
      go x z false q = refl
      go x z true q = let y = and_true _ _ q in le-leb k x.sent (z.quiet k m e (from ∙ ap (λ n. 32768 + n) (sym (eqb-true _ _ y.0))) (to ∙ sym (eqb-true _ _ y.1)) dates)

  not_client : (m : Message) (s : ServerId) → m.header.from ≡ server_node s → is_from_client m ≡ false
  not_client m s e = go (is_from_client m) refl
    where
      go : (b : Bool) → is_from_client m ≡ b → b ≡ false
      go true q = absurd (from_server m s e q)
      go false q = refl

  session_ok : (c : ClientId) (s : ServerId) (life : Life) (date : Stamp) → Dates (messages t.world) c s life date → list_any (dates_in t c s life date) past ≡ true
  session_ok c s life date z = some_passes (dates_in t c s life date) past b.at b.among (some_passes (dating.dates_it t b.at.before.world c s life date) b.at.seen (seen.Sent b.number q) b.sent test)
    where
      a : Answer (messages t.world) z.by
      a = d.answered z.by z.among (not_client z.by s z.from) z.dating

      q : Message
      q = a.asked

      its_client : is_from_client q ≡ true
      its_client = let y = leb-true q.header.from 16 (and_true (nat_le 1 q.header.from) (nat_le q.header.from 16) a.client).1 in lt-ltb q.header.from 32768 (omega (arith, y))

      b : Born past q
      b = d.born q a.among its_client a.request

      reply : (dating.goes_back q.header z.by.header && dating.answers_to q.header z.by.header) ≡ true
      reply = (and_true (is_dating z.by) (dating.goes_back q.header z.by.header && dating.answers_to q.header z.by.header) a.reply).1

      back : ((z.by.header.from == q.header.to) ≡ true) × ((z.by.header.to == q.header.from) ≡ true)
      back = and_true (z.by.header.from == q.header.to) (z.by.header.to == q.header.from) (and_true (dating.goes_back q.header z.by.header) (dating.answers_to q.header z.by.header) reply).0

      answers : ((z.by.header.life == q.header.life) ≡ true) × (((z.by.header.number == q.header.number) && (z.by.header.stamp == q.header.stamp)) ≡ true)
      answers = and_true (z.by.header.life == q.header.life) ((z.by.header.number == q.header.number) && (z.by.header.stamp == q.header.stamp)) (and_true (dating.goes_back q.header z.by.header) (dating.answers_to q.header z.by.header) reply).1

      from : q.header.from ≡ c.0
      from = sym (eqb-true _ _ back.1) ∙ z.to

      stamp : q.header.stamp ≡ date.0
      stamp = sym (eqb-true _ _ (and_true (z.by.header.number == q.header.number) (z.by.header.stamp == q.header.stamp) answers.1).1) ∙ z.stamp

      number : (k : ℕ) × (numbered (messages t.world) k ≡ Some z.by)
      number = has_numbered (messages t.world) z.by z.among

      replied : (k : ℕ) → numbered (messages t.world) k ≡ Some z.by → dating.is_replied t s c q ≡ true
      replied zero e = cc
      replied (suc k) e = replied_at s c q 1 k z.by t.world.net.messages e a.reply (subst (λ n. dating.is_before_timers t.history s c n ≡ true) (let y : suc k ≡ 1 + k = omega arith in y) (before_timers s c (suc k) z.by e z.from z.to z.dating))

      test : dating.dates_it t b.at.before.world c s life date (seen.Sent b.number q) ≡ true
      test =
          and_both _ _ (and_both _ _ (and_both _ _ (eq-eqb _ _ from) (eq-eqb _ _ (sym (eqb-true _ _ back.0) ∙ z.from))) (and_both _ _ a.request (and_both _ _ (eq-eqb _ _ (sym (eqb-true _ _ answers.0) ∙ z.of_life)) (eq-eqb _ _ stamp))))
          (and_both _ _ (eq-eqb _ _ (ap (λ n. (clock_of b.at.before.world (nodes.Client (client n))).0) (sym from) ∙ eqb-true _ _ b.stamp ∙ stamp)) (replied number.0 number.1))

  association_ok : (c : ClientId) (s : ServerId) → is_dated past t c s ≡ true
  association_ok c s = at (site_of t.world c) refl
    where
      session : (a : Association) (x : Option ClientSession) → a.server.0 ≡ s.0 → SessionDated (messages t.world) c a.server a.life x → session_dated past t c s a.life x ≡ true
      session a None e z = refl
      session a (Some x) e z = subst (λ n. session_dated past t c (record { 0 = n }) a.life (Some x) ≡ true) e (session_ok c a.server a.life x.lease.date z.0)

      found : (site : WorldClient) → ClientDated (messages t.world) c site.node.state → (o : Option Association) → find (is_at s) site.node.state.associations ≡ o → association_dated past t c s o ≡ true
      found site k None e = refl
      found site k (Some a) e = let z = found_at (is_at s) site.node.state.associations a e in session a a.session (eqb-true _ _ z.0) (k.all a z.1)

      at : (o : Option WorldClient) → site_of t.world c ≡ o → association_dated past t c s (association_at s o) ≡ true
      at None e = refl
      at (Some site) e = found site (d.clients c site e) (find (is_at s) site.node.state.associations) refl

  pub promised : list_all (all_dated past t) (all_clients t.world) ≡ true
  promised = all_pass (all_dated past t) (all_clients t.world) (λ c h. all_pass (is_dated past t c) (all_servers t.world) (λ s i. association_ok c s))

-- One step.
pub one : (past : List Step) (t : Traced) (e : Event) (sc : WorldTurn) → Dated past t → world_step t.world e ≡ Ok sc → LeasesAreDatedFromRequests past (step t e sc) × Dated (past ++ step t e sc ∷ []) (traced_after e t sc)
one past t e sc d h = let z = step_happens t.world e sc h in go (next_dated past t e sc d (subst (λ (x : WorldTurn). Next t e x) (sym z.1) (happens past t d e z.0)))
  where
    go : Dated (past ++ step t e sc ∷ []) (traced_after e t sc) → LeasesAreDatedFromRequests past (step t e sc) × Dated (past ++ step t e sc ∷ []) (traced_after e t sc)
    go n = (promised (past ++ step t e sc ∷ []) (traced_after e t sc) n, n)

-- The start.
fresh_client : (k : Config) (servers : ℕ) (c : ClientId) → ClientDated [] c (fresh_site k servers c.0).node.state
unfolding cl.fresh_client
fresh_client k servers c = record { id = refl; all = λ a h. let z = has_map cl.fresh_association (numbers 1 servers) a h in subst (Rattle.st_laws_leases.specs.Dates.Dates.AssociationDated [] c) (sym z.2) tt }

fresh_server : (k : Config) (servers disks blocks : ℕ) (s : ServerId) → ServerKnown s (node_at_start k servers disks blocks s.0).state
unfolding server.fresh_server
fresh_server k servers disks blocks s = record { id = refl; suspects = λ x h. elim h [ ]; one = λ x y h. elim h [ ]; locks = record { rows = λ r h. elim h [ ]; waits = λ x h. elim h [ ] } }

-- no timer runs there
fresh_quiet : (k : Config) (servers disks blocks : ℕ) (s : ServerId) (node : ServerNode) → node ≡ node_at_start k servers disks blocks s.0 → (c : ClientId) → Runs node.state.authority c → ⊥
unfolding server.fresh_server
fresh_quiet k servers disks blocks s node e c z = none (subst (λ (n : ServerNode). Runs n.state.authority c) e z)
  where
    none : false ≡ true → ⊥
    none e = cc

pub fresh_dated : (k : Config) (clients servers disks blocks form : ℕ) → IsHead k clients servers disks blocks form → Dated [] (traced (fresh_world k clients servers disks blocks form))
unfolding fresh_world
fresh_dated k clients servers disks blocks form head =
    record {
      born = λ m h f r. elim h [ ];
      answered = λ m h f r. elim h [ ];
      clients = λ c site e. subst (λ (x : WorldClient). ClientDated [] c x.node.state) (sym (fresh_is (fresh_site k servers) clients c.0 site e)) (fresh_client k servers c);
      servers = λ s node e. subst (λ (x : ServerNode). ServerKnown s x.state) (sym (fresh_is (node_at_start k servers disks blocks) servers s.0 node e)) (fresh_server k servers disks blocks s);
      timers = λ x h. elim h [ ];
      started = λ x h. elim h [ ];
      timed = λ s node e run c z. absurd (fresh_quiet k servers disks blocks s node (fresh_is (node_at_start k servers disks blocks) servers s.0 node e) c z);
      few = let z = length_map (fresh_site k servers) (numbers 1 clients) in let y = numbers_length 1 clients in let q = leb-true clients 16 (and_true (nat_le 1 clients) (nat_le clients 16) head.some_clients).1 in omega (arith, z, y, q);
    }

pub leases_are_dated : LeasesAreDated
leases_are_dated k clients servers disks blocks form es head events = throughout LeasesAreDatedFromRequests Dated one es [] (traced (fresh_world k clients servers disks blocks form)) (fresh_dated k clients servers disks blocks form head)

pub calm_law : RunsSendNoConflict
calm_law k clients servers disks blocks form es head =
    throughout ClientsSendNoConflict Dated (λ past t e sc d q. (step_calm past t e sc d q, (one past t e sc d q).1)) es [] (traced (fresh_world k clients servers disks blocks form)) (fresh_dated k clients servers disks blocks form head)
