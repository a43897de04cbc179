-- Every event keeps what holds of the requests to cut and to remove files, and of their asks.
use Rattle.st_lemmas.proofs.Words
use Words.{◌≡◌, ◌≢◌, ◌⊎◌, ℕ, ◌≤◌, ◌<◌, true, false, List, [], ◌∷◌, ◌++◌, Some, Ok, refl, sym, ap, ◌∙◌, subst, inl, inr, arith, length}
use Words.{nat_le, pred, list_any, leb-true, ClientId, GrantNo, ServerId, AppAnswer, Ask, Event, Message, ClientInput, Operation}
use Words.outputs
use Words.seen
use Words.ClientState as cs
use Words.ClientState.{Association, ClientTurn}
use Words.Events as ev
use Words.Events.{WorldTurn, world_step}
use Words.History.{Traced, traced_after}
use Words.Keys.{server_node}
use Words.Safety.{Step, answers_in, is_event, step}
use Words.Server.{is_client_node}
use Words.World.{World, WorldClient, numbered, site_of, with_numbered}
use Words.Lists.{Has}
use Words.Numbers.{numbered_below, set_length}
use Words.Tables.{and_true}
use Rattle.st_protocol.specs.Assoc.{Config}
use Rattle.st_laws_leases.specs.Dates.Dates.{messages}
use Rattle.st_laws_leases.proofs.Dates.Leaving.{Leaves, set_cases}
use Rattle.st_laws_requests.specs.Cuts.Cuts.{asks_of}
use Rattle.st_laws_requests.proofs.Cuts.Seen.{AnswersOf, NoAnswers}
use Rattle.st_laws_requests.proofs.Replies.EachEvent.{ClientTook, SiteAfter}
use Rattle.st_laws_extents.specs.CutRequests.Law.{gifts}
use Rattle.st_laws_extents.specs.CutRequests.World.{Gifts}
use Rattle.st_laws_extents.proofs.CutRequests.Law.{Hold, followed, gifts_stay, same_all}
use Rattle.st_promises.specs.CutAsks.{is_uncertain, settles_in}
use Rattle.st_laws_cuts.specs.Owners.{AllOwned, Owned, view}
use Rattle.st_laws_cuts.specs.EndedRequests.{AllLater, AllOver, AllPast, AllSenders, AllUnsaid, IsLeft, IsPending}
use Rattle.st_laws_cuts.proofs.Alive.{alive}
use Rattle.st_laws_cuts.proofs.Counts.{pending, pending_has, told, told_has}
use Rattle.st_laws_cuts.proofs.Events.{IsEmptied, OldOrServers, event_does}
use Rattle.st_laws_cuts.proofs.OverAfter.{AllFew, Came, ThisOrOther, Took, Waits, not_others, over_after, took_step}
use Rattle.st_laws_cuts.proofs.Words.{asked_more, asks_longer, means_more, unanswered, unsettled_in, unsettled_past}
use Rattle.st_laws_pages.proofs.Asks.Asks.{any_last_none}

-- What holds after every event, in addition to what holds of the requests.
pub record OwnersHold (past : List Step) (G : Gifts) (w : World) : Type 0 where
  pub owned : AllOwned w
  pub over : AllOver past G w
  pub unsaid : AllUnsaid past w
  pub later : AllLater past
  pub senders : AllSenders w
  pub few : AllFew w

-- a client's node isn't a server's
not_server : (m : Message) → is_client_node m.header.from ≡ true → (s : ServerId) → m.header.from ≡ server_node s → ⊥
not_server m e s q = let z = leb-true m.header.from 16 (and_true (nat_le 1 m.header.from) (nat_le m.header.from 16) e).1 in omega (arith, z, q)

module _ (k : Config) (count : ℕ) (past : List Step) (t : Traced) (e : Event) (sc : WorldTurn) (ranges : is_event count e ≡ true) (h : Hold k count past t)
    (taken : world_step t.world e ≡ Ok sc)
    (d : OwnersHold past (gifts k count t.world h.all) t.world) where
  abbrev x : Step
  x = step t e sc

  gifts_grow : (c : ClientId) (s : ServerId) (i : ℕ) (g : GrantNo) → gifts k count t.world h.all c s i g →
      gifts k count sc.world (followed k count past t e sc ranges h taken).after c s i g
  gifts_grow c s i g = gifts_stay k count t.world sc.world h.all (followed k count past t e sc ranges h taken) c s i g

  abbrev next : Hold k count (past ++ step t e sc ∷ []) (traced_after e t sc)
  next = (same_all k count past t e sc ranges h taken).0

  left_on : (c : ClientId) (s : ServerId) (os qs : List Operation) (m : Message) →
      ((op : ℕ) (ask : Ask) → numbered (asks_of past c) op ≡ Some ask → ((o : Operation) → Has o os → o.op ≡ op → ⊥) →
      ((o : Operation) → Has o qs → o.op ≡ op → ⊥) × ((a : AppAnswer) → Has (seen.Answered c op a) sc.seen → ⊥)) →
      IsLeft past (gifts k count t.world h.all c s) c s os m →
      IsLeft (past ++ step t e sc ∷ []) (gifts k count sc.world (followed k count past t e sc ranges h taken).after c s) c s qs m
  left_on c s os qs m k z =
      let y = k z.op z.ask z.asked z.gone in
      record {
        op = z.op;
        ask = z.ask;
        asked = asked_more past x c z.op z.ask z.asked;
        means = means_more _ _ (gifts_grow c s) s z.ask m.body z.means;
        gone = y.0;
        unsettled = any_last_none (settles_in c z.op) past x z.unsettled (unsettled_in c z.op sc.seen (λ a i. absurd (y.1 a i)));
      }

  -- an operation that was pending is left, if it is no longer pending, and answered only with `uncertain`
  now_left : (c : ClientId) (site : WorldClient) → site_of t.world c ≡ Some site → (s : ServerId) (qs : List Operation) (m : Message) →
      (z : IsPending (gifts k count t.world h.all c s) s site.node.state.operations m) →
      ((o : Operation) → Has o qs → o.op ≡ z.operation.op → ⊥) → ((a : AppAnswer) → Has (seen.Answered c z.operation.op a) sc.seen → is_uncertain a ≡ true) →
      IsLeft (past ++ step t e sc ∷ []) (gifts k count sc.world (followed k count past t e sc ranges h taken).after c s) c s qs m
  now_left c site at s qs m z gone open_ =
      record {
        op = z.operation.op;
        ask = z.operation.ask;
        asked = asked_more past x c z.operation.op z.operation.ask ((h.cuts.clients c site at).asked z.operation z.there);
        means = means_more _ _ (gifts_grow c s) s z.operation.ask m.body z.means;
        gone = gone;
        unsettled = any_last_none (settles_in c z.operation.op) past x (unsettled_past c z.operation.op past (d.unsaid c site at z.operation z.there))
            (unsettled_in c z.operation.op sc.seen open_);
      }

  -- Nothing is answered: the asks that are pending.
  module _ (silent : NoAnswers sc.seen) where
    none : (c : ClientId) (op : ℕ) (a : AppAnswer) → Has (seen.Answered c op a) sc.seen → ⊥
    none c op a i = silent (seen.Answered c op a) i

    unsaid_on : (c : ClientId) (op : ℕ) → list_any (answers_in c op) past ≡ false → list_any (answers_in c op) (past ++ step t e sc ∷ []) ≡ false
    unsaid_on c op q = any_last_none (answers_in c op) past x q (unanswered c op sc.seen (λ a i. none c op a i))

    later_on : AllLater (past ++ step t e sc ∷ [])
    later_on c op l = let z = asks_longer past x c in unsaid_on c op (d.later c op (omega (arith, l, z)))

  all_over : AllOver (past ++ step t e sc ∷ []) (gifts k count sc.world (followed k count past t e sc ranges h taken).after) sc.world
  all_over = over_after k count past t e sc ranges h taken d.owned d.few (λ c s os m. IsLeft past (gifts k count t.world h.all c s) c s os m)
      (λ c s os m. IsLeft (past ++ step t e sc ∷ []) (gifts k count sc.world (followed k count past t e sc ranges h taken).after c s) c s os m)
      (record {
        over = d.over;
        stays = left_on;
        waits =
            λ c site at r a i m among between l pos own. waits c site at a m
            (alive k count past t h d.owned c site (record { there = at; runs = r }) a i m among between l pos own);
      })
    where
      waits : (c : ClientId) (site : WorldClient) → site_of t.world c ≡ Some site → (a : Association) (m : Message) →
          AllPast t.world c a.server m ⊎ IsPending (gifts k count t.world h.all c a.server) a.server site.node.state.operations m →
          AllPast t.world c a.server m ⊎
          Waits sc (λ c s os m. IsLeft (past ++ step t e sc ∷ []) (gifts k count sc.world (followed k count past t e sc ranges h taken).after c s) c s os m) c
          a.server site.node.state.operations m
      waits c site at a m (inl p) = inl p
      waits c site at a m (inr z) = inr (z.operation, z.there, z.asked, λ qs gone open_. now_left c site at a.server qs m z gone open_)

  abbrev After : Type 0
  After = OwnersHold (past ++ step t e sc ∷ []) (gifts k count sc.world (followed k count past t e sc ranges h taken).after) sc.world

  -- An event that leaves the clients.
  quiet : sc.world.clients ≡ t.world.clients → OldOrServers t.world sc.world → NoAnswers sc.seen →
      OwnersHold (past ++ step t e sc ∷ []) (gifts k count sc.world (followed k count past t e sc ranges h taken).after) sc.world
  quiet cs ms silent =
      record {
        owned = λ c site at a i. d.owned c site (was c site at) a i;
        over = all_over;
        unsaid = λ c site at o i. unsaid_on silent c o.op (d.unsaid c site (was c site at) o i);
        later = later_on silent;
        senders = λ m among q. subst (λ z. m.header.from ≤ length z) (sym cs) (sender m q (ms m among));
        few = λ c site at n. d.few c site (was c site at) n;
      }
    where
      was : (c : ClientId) (site : WorldClient) → site_of sc.world c ≡ Some site → site_of t.world c ≡ Some site
      was c site at = ap (λ z. numbered z c.0) (sym cs) ∙ at

      sender : (m : Message) → is_client_node m.header.from ≡ true → Has m (messages t.world) ⊎ ((y : ServerId) × (m.header.from ≡ server_node y)) →
          m.header.from ≤ length t.world.clients
      sender m q (inl i) = d.senders m i q
      sender m q (inr z) = absurd (not_server m q z.0 z.1)

  -- A client is emptied.
  emptied : (c : ClientId) (old new : WorldClient) → site_of t.world c ≡ Some old → IsEmptied old new →
      sc.world.clients ≡ with_numbered c.0 new t.world.clients → messages sc.world ≡ messages t.world → NoAnswers sc.seen →
      OwnersHold (past ++ step t e sc ∷ []) (gifts k count sc.world (followed k count past t e sc ranges h taken).after) sc.world
  emptied c old new at z cs ms silent =
      record {
        owned = λ y site r a i. owned y site (cases y site r) a i;
        over = all_over;
        unsaid = λ y site r o i. unsaid y site (cases y site r) o i;
        later = later_on silent;
        senders = λ m among q. let w = ap length cs in let u = set_length t.world.clients (pred c.0) new in let v = d.senders m (subst (Has m) ms among) q in
            omega (arith, w, u, v);
        few = λ y site r n. few y site (cases y site r) n;
      }
    where
      Case : ClientId → WorldClient → Type 0
      Case y site = ((y.0 ≡ c.0) × (site ≡ new)) ⊎ ((y.0 ≢ c.0) × (site_of t.world y ≡ Some site))

      cases : (y : ClientId) (site : WorldClient) → site_of sc.world y ≡ Some site → Case y site
      cases y site r = set_cases t.world.clients c.0 y.0 old new site at (ap (λ w. numbered w y.0) (sym cs) ∙ r)

      no_operation : {A : Type 0} (o : Operation) (os : List Operation) → os ≡ [] → Has o os → A
      no_operation o [] q i = absurd i
      no_operation o (p ∷ os) q i = cc q

      owned : (y : ClientId) (site : WorldClient) → Case y site → (a : Association) → Has a site.node.state.associations →
          Owned a.server (view a.session) site.node.state.operations
      owned y site (inr q) a i = d.owned y site q.1 a i
      owned y site (inl q) a i = let w = z.associations a (subst (λ (u : WorldClient). Has a u.node.state.associations) q.1 i) in
          subst (λ o. Owned a.server (view o) site.node.state.operations) (sym w.3) tt

      unsaid : (y : ClientId) (site : WorldClient) → Case y site → (o : Operation) → Has o site.node.state.operations →
          list_any (answers_in y o.op) (past ++ step t e sc ∷ []) ≡ false
      unsaid y site (inr q) o i = unsaid_on silent y o.op (d.unsaid y site q.1 o i)
      unsaid y site (inl q) o i = no_operation o site.node.state.operations (ap (λ (u : WorldClient). u.node.state.operations) q.1 ∙ z.operations) i

      few : (y : ClientId) (site : WorldClient) → Case y site → (n : ℕ) → pending n site.node.state.operations ≤ 1
      few y site (inr q) n = d.few y site q.1 n
      few y site (inl q) n = let w = ap (pending n) (ap (λ (u : WorldClient). u.node.state.operations) q.1 ∙ z.operations) in omega (arith, w)

  -- A client takes a step.
  module _ (v : World) (c : ClientId) (i : ClientInput) (site old : WorldClient) (at : site_of t.world c ≡ Some old)
      (after : Took past t.world sc v c i site old) where
    abbrev u : ClientTurn
    u = ClientTook v c i site

    -- the asks after the step
    count_after : length (asks_of (past ++ step t e sc ∷ []) c) ≡ site.asks
    count_after = (next.cuts.clients c (SiteAfter v c i site) here).count
      where
        here : site_of sc.world c ≡ Some (SiteAfter v c i site)
        here = ap (λ w. numbered w c.0) after.clients ∙ Rattle.st_lemmas.proofs.Numbers.numbered_own t.world.clients c.0 (SiteAfter v c i site) old at

    past_answer : (op : ℕ) → Came old site op → list_any (answers_in c op) past ≡ false
    past_answer op (inl w) = subst (λ n. list_any (answers_in c n) past ≡ false) w.2 (d.unsaid c old at w.0 (after.old_op w.0 w.1))
    past_answer op (inr w) = d.later c op (let z = after.asks_count in let y = w.0 in omega (arith, z, y))

    unsaid_own : (o : Operation) → Has o u.state.operations → list_any (answers_in c o.op) (past ++ step t e sc ∷ []) ≡ false
    unsaid_own o j = any_last_none (answers_in c o.op) past x (past_answer o.op (after.ends.known o j))
        (unanswered c o.op sc.seen (λ a q. no (told_has u.out o.op a (after.answered c o.op a q).1)))
      where
        no : 1 ≤ told o.op u.out → ⊥
        no w = let z = pending_has u.state.operations o j in let y = after.ends.few o.op in omega (arith, w, z, y)

    unsaid_of : (y : ClientId) (s : WorldClient) → ThisOrOther t.world c (SiteAfter v c i site) y s → (o : Operation) → Has o s.node.state.operations →
        list_any (answers_in y o.op) (past ++ step t e sc ∷ []) ≡ false
    unsaid_of y s (inl q) o j = subst (λ n. list_any (answers_in (record { 0 = n }) o.op) (past ++ step t e sc ∷ []) ≡ false) (sym q.0)
        (unsaid_own o (subst (λ (w : WorldClient). Has o w.node.state.operations) q.1 j))
    unsaid_of y s (inr q) o j = any_last_none (answers_in y o.op) past x (d.unsaid y s q.1 o j)
        (unanswered y o.op sc.seen (λ a w. not_others past t.world sc v c i site old after y q.0 o.op a w))

    later_took : AllLater (past ++ step t e sc ∷ [])
    later_took y op b = any_last_none (answers_in y op) past x (d.later y op (let z = asks_longer past x y in omega (arith, b, z)))
        (unanswered y op sc.seen (λ a j. no a (after.answered y op a j)))
      where
        no : (a : AppAnswer) → (y ≡ c) × Has (outputs.Answer op a) u.out → ⊥
        no a w = by (after.ends.said op a w.1)
          where
            b2 : site.asks < op
            b2 = let z = subst (λ n. length (asks_of (past ++ step t e sc ∷ []) n) < op) w.0 b in let q = count_after in omega (arith, z, q)

            longer : old.asks ≤ site.asks
            longer = let z = asks_longer past x c in let q = count_after in let r = after.asks_count in omega (arith, z, q, r)

            by : Came old site op → ⊥
            by (inl z) = let q = after.was_below op z in let r = longer in omega (arith, q, r, b2)
            by (inr z) = let q = z.1 in omega (arith, q, b2)

    owned_of : (y : ClientId) (s : WorldClient) → ThisOrOther t.world c (SiteAfter v c i site) y s → (a : Association) → Has a s.node.state.associations →
        Owned a.server (view a.session) s.node.state.operations
    owned_of y s (inl q) a j = subst (λ (w : WorldClient). Owned a.server (view a.session) w.node.state.operations) (sym q.1)
        (after.ends.done a (subst (λ (w : WorldClient). Has a w.node.state.associations) q.1 j)).owned
    owned_of y s (inr q) a j = d.owned y s q.1 a j

    few_of : (y : ClientId) (s : WorldClient) → ThisOrOther t.world c (SiteAfter v c i site) y s → (n : ℕ) → pending n s.node.state.operations ≤ 1
    few_of y s (inl q) n = let z = after.ends.few n in let w = ap (λ (r : WorldClient). pending n r.node.state.operations) q.1 in omega (arith, z, w)
    few_of y s (inr q) n = d.few y s q.1 n

    senders_took : AllSenders sc.world
    senders_took m j q = let w = ap length after.clients in let y = set_length t.world.clients (pred c.0) (SiteAfter v c i site) in
        let z = by (after.mine m j) in omega (arith, w, y, z)
      where
        by : Has m (messages t.world) ⊎ Has (outputs.Send m) u.out → m.header.from ≤ length t.world.clients
        by (inl p) = d.senders m p q
        by (inr p) = let z = after.ends.from m p in let y = (numbered_below t.world.clients c.0 old at).1 in omega (arith, z, y)

    took : OwnersHold (past ++ step t e sc ∷ []) (gifts k count sc.world (followed k count past t e sc ranges h taken).after) sc.world
    took =
        record {
          owned = λ y s r a j. owned_of y s (after.cases y s r) a j;
          over = all_over;
          unsaid = λ y s r o j. unsaid_of y s (after.cases y s r) o j;
          later = later_took;
          senders = senders_took;
          few = λ y s r n. few_of y s (after.cases y s r) n;
        }

  -- Every event.
  pub owners_on : OwnersHold (past ++ step t e sc ∷ []) (gifts k count sc.world (followed k count past t e sc ranges h taken).after) sc.world
  owners_on = event_does t.world (λ s n at. (h.cuts.servers s n at).id) Result
      (λ v cs ms silent q. quiet (ap (λ (w : WorldTurn). w.world.clients) (sym q) ∙ cs) (subst (λ (w : WorldTurn). OldOrServers t.world w.world) q ms)
      (subst (λ (w : WorldTurn). NoAnswers w.seen) q silent))
      (λ v cs c i site old same asks_next run at w l ans q. took v c i site old at
      (took_step k count past t h d.owned d.few sc v cs c i site old same asks_next at
      (subst (λ (r : WorldTurn). Leaves (messages t.world) (ev.with_site c (SiteAfter v c i site) v) r.world (ClientTook v c i site).out) q l)
      (subst (λ (r : WorldTurn). AnswersOf c (ClientTook v c i site).out [] r.seen) q ans)))
      (λ c old new at z w cs ms silent q. emptied c old new at z (ap (λ (r : WorldTurn). r.world.clients) (sym q) ∙ cs)
      (ap (λ (r : WorldTurn). messages r.world) (sym q) ∙ ms) (subst (λ (r : WorldTurn). NoAnswers r.seen) q silent)) e sc taken refl
    where
      Result : WorldTurn → Type 0
      Result v = v ≡ sc → OwnersHold (past ++ step t e sc ∷ []) (gifts k count sc.world (followed k count past t e sc ranges h taken).after) sc.world
