-- The reads that were answered and the operations that are pending are no more than the events: through a client's step and after every event.
use Rattle.st_lemmas.proofs.Words
use Words.{◌≡◌, ◌≢◌, ◌⊎◌, ℕ, zero, suc, ◌+◌, ◌≤◌, Bool, true, false, List, [], ◌∷◌, ◌++◌, ◌==◌, Some, Ok, refl, sym, ap, ◌∙◌, subst, inl, inr, arith}
use Words.{if◌then◌else◌, length, map, set, slice_get, eqb-true, Config, ClientId, ServerId, Stamp, AppAnswer, ClientInput}
use Words.nodes
use Words.answers
use Words.outputs
use Words.Client as cl
use Words.ClientPasses as cp
use Words.ClientReplies as cr
use Words.ClientState.{Association, ClientState, ClientTurn, Turn, at_each, at_these, client_turn, enter, is_at, leave, only_at, server_of, with_associations}
use Words.Events as ev
use Words.Events.{reads_in}
use Words.Extents.{numbers}
use Words.Keys.{same_server}
use Words.World as world
use Words.World.{Tally, World, WorldClient, clock_of, fresh_site, fresh_world, numbered, site_of, with_numbered}
use Words.Lookups.{some_is}
use Words.Numbers.{numbered_below, numbered_has, numbered_other, numbered_own}
use Words.Tables.{has_map, same_or_not}
use Rattle.st_laws_steps.specs.Client.Inputs as taking
use Rattle.st_laws_steps.specs.Client.Inputs.{Taken}
use Rattle.st_laws_steps.proofs.Client.Taking.{taken}
use Rattle.st_laws_bounds.proofs.Counters.Weights.{weigh, weigh_both}
use Rattle.st_laws_bounds.proofs.Counters.Events.{Cases, ClientSteps, ServerSteps, Takes}
use Rattle.st_laws_bounds.proofs.Counters.Clients.{Said, SameRows, flush_rows, said_all, served_all}
use Rattle.st_laws_bounds.proofs.Counters.Tallies.{Told, of_read, told_all}
use Rattle.st_laws_bounds.proofs.Counters.Reading.{R, few_reads_in_nothing, few_reads_in_passes}
use Rattle.st_laws_bounds.proofs.Counters.Answering.{few_reads_in_finish, few_reads_in_receive, few_reads_in_lose, few_reads_in_take}
use Words.{append-nil, append_assoc, map-append}

-- the server of an association
abbrev pub server_at : Association → ServerId
server_at a = a.server

-- how many of these servers are this one
abbrev pub one_of : ServerId → ServerId → ℕ
one_of s x = if same_server x s then 1 else 0

abbrev pub count_of : ServerId → List ServerId → ℕ
count_of s [] = 0
count_of s (x ∷ xs) = one_of s x + count_of s xs

-- none is there twice
abbrev pub Apart : List ServerId → Type 0
Apart xs = (s : ServerId) → count_of s xs ≤ 1

-- What a part of a step leaves: at most this many more reads and operations, at the same servers.
pub record LeftLow (n : ℕ) (more : List ServerId) (t u : ClientTurn) : Type 0 where
  pub servers : map server_at u.state.associations ≡ map server_at t.state.associations ++ more
  pub low : weigh of_read u.out + length u.state.operations ≤ n + (weigh of_read t.out + length t.state.operations)

-- what a rule costs at these associations
abbrev pub cost : (ServerId → ℕ) → List Association → ℕ
cost f [] = 0
cost f (a ∷ al) = f a.server + cost f al

these_low : (f : ServerId → ℕ) (rule : Turn → Turn) → ((t : Turn) → R (f t.here.server) t (rule t)) → (al : List Association) (t : ClientTurn) → LeftLow (cost f al) (map server_at al) t (at_these rule al t)
unfolding at_these
these_low f rule k [] t = record { servers = sym (append-nil (map server_at t.state.associations)); low = omega arith }
these_low f rule k (a ∷ al) t =
    let u = rule (enter t a) in
    let x = k (enter t a) in
    let y = these_low f rule k al (leave t u) in
    let b = x.low in let c = y.low in
    record {
      servers =
          y.servers ∙ ap (λ l. l ++ map server_at al) (map-append server_at t.state.associations (u.here ∷ []) ∙ ap (λ s. map server_at t.state.associations ++ s ∷ []) x.server) ∙
          append_assoc (map server_at t.state.associations) (a.server ∷ []) (map server_at al);
      low = omega (arith, b, c);
    }

-- at each association in turn
pub record GoesLow (n : ℕ) (t u : ClientTurn) : Type 0 where
  pub servers : map server_at u.state.associations ≡ map server_at t.state.associations
  pub low : weigh of_read u.out + length u.state.operations ≤ n + (weigh of_read t.out + length t.state.operations)

each_low : (f : ServerId → ℕ) (rule : Turn → Turn) → ((t : Turn) → R (f t.here.server) t (rule t)) → (t : ClientTurn) → GoesLow (cost f t.state.associations) t (at_each rule t)
unfolding at_each
each_low f rule k t = let z = these_low f rule k t.state.associations (with_associations [] t) in record { servers = z.servers; low = z.low }

free : (al : List Association) → cost (λ s. 0) al ≡ 0
free [] = refl
free (a ∷ al) = let z = free al in omega (arith, z)

free_low : (rule : Turn → Turn) → ((t : Turn) → R 0 t (rule t)) → (t : ClientTurn) → GoesLow 0 t (at_each rule t)
free_low rule k t = subst (λ n. GoesLow n t (at_each rule t)) (free t.state.associations) (each_low (λ s. 0) rule k t)

goes_none : (n : ℕ) (t : ClientTurn) → GoesLow n t t
goes_none n t = record { servers = refl; low = omega arith }

-- an ask costs one at its server, and nothing at others
asked_low : (s : ServerId) (rule : Turn → Turn) → ((t : Turn) → R 1 t (rule t)) → (t : ClientTurn) → GoesLow (cost (one_of s) t.state.associations) t (at_each (only_at s rule) t)
unfolding only_at
asked_low s rule k t = each_low (one_of s) (only_at s rule) (λ u. one u (is_at s u.here)) t
  where
    one : (u : Turn) (b : Bool) → R (if b then 1 else 0) u (if b then rule u else u)
    one u true = k u
    one u false = few_reads_in_nothing 0 u

cost_is : (s : ServerId) (al : List Association) → cost (one_of s) al ≡ count_of s (map server_at al)
cost_is s [] = refl
cost_is s (a ∷ al) = ap (λ n. one_of s a.server + n) (cost_is s al)

said_low : (t : ClientTurn) (op : ℕ) (a : AppAnswer) → reads_in a ≡ 0 → GoesLow 0 t (cl.answered_at_once t op a)
said_low t op a e = let z = weigh_both of_read t.out (outputs.Answer op a ∷ []) in record { servers = refl; low = omega (arith, z, e) }

goes_more : (m n : ℕ) (t u : ClientTurn) → m ≤ n → GoesLow m t u → GoesLow n t u
goes_more m n t u l g = let z = g.low in record { servers = g.servers; low = omega (arith, z, l) }

input_low : (now : Stamp) (t u : ClientTurn) (input : ClientInput) → Taken t now input u → Apart (map server_at t.state.associations) → GoesLow 1 t u
input_low now t _ _ (taking.Nothing i) h = goes_none 1 t
input_low now t _ _ (taking.Full op ask e) h = goes_more 0 1 t (cl.answered_at_once t op answers.OpsFull) (omega arith) (said_low t op answers.OpsFull refl)
input_low now t _ _ (taking.Unknown op ask e f) h = goes_more 0 1 t (cl.answered_at_once t op answers.NoFile) (omega arith) (said_low t op answers.NoFile refl)
input_low now t _ _ (taking.Takes op ask g f) h =
    let at = server_of ask in let e = cost_is at t.state.associations in let l = h at in
    goes_more (cost (one_of at) t.state.associations) 1 t (at_each (only_at at (cl.take_ask op ask)) t) (omega (arith, e, l)) (asked_low at (cl.take_ask op ask) (few_reads_in_take op ask) t)
input_low now t _ _ (taking.Receives m e) h = goes_more 0 1 t (at_each (cr.receive_at now m.header m.body) t) (omega arith) (free_low (cr.receive_at now m.header m.body) (few_reads_in_receive now m.header m.body) t)
input_low now t _ _ (taking.Finishes number result) h = goes_more 0 1 t (at_each (cl.finish number result) t) (omega arith) (free_low (cl.finish number result) (few_reads_in_finish number result) t)

-- the whole step
pub step_low : (s : ClientState) (now : Stamp) (input : ClientInput) → Apart (map server_at s.associations) → GoesLow 1 (client_turn s []) (cl.client_step s now input)
unfolding cl.client_step cl.work cl.losses
step_low s now input h =
    let t = cl.losses (client_turn s []) now in
    let u = cl.take_input t now input in
    let a = free_low (cl.lose now) (few_reads_in_lose now) (client_turn s []) in
    let b = input_low now t u input (taken t now input) (subst Apart (sym a.servers) h) in
    let c = free_low (cp.passes now (cl.is_tick input)) (few_reads_in_passes now (cl.is_tick input)) u in
    let x = a.low in let y = b.low in let z = c.low in
    record { servers = c.servers ∙ b.servers ∙ a.servers; low = omega (arith, x, y, z) }

-- The pending operations of all clients.
abbrev pub ops_at : WorldClient → ℕ
ops_at site = length site.node.state.operations

abbrev pub pending : List WorldClient → ℕ
pending [] = 0
pending (site ∷ sites) = ops_at site + pending sites

set_pending : (xs : List WorldClient) (n : ℕ) (old new : WorldClient) → slice_get xs n ≡ Some old → pending (set xs n new) + ops_at old ≡ pending xs + ops_at new
set_pending [] n old new e = cc
set_pending (x ∷ xs) zero old new e = let z = ap ops_at (some_is e) in omega (arith, z)
set_pending (x ∷ xs) (suc n) old new e = let z = set_pending xs n old new e in omega (arith, z)

pending_with : (xs : List WorldClient) (n : ℕ) (old new : WorldClient) → numbered xs n ≡ Some old → pending (with_numbered n new xs) + ops_at old ≡ pending xs + ops_at new
pending_with xs zero old new e = cc
pending_with xs (suc n) old new e = set_pending xs n old new e

-- What holds when there were n events.
pub record ReadsLow (n : ℕ) (w : World) : Type 0 where
  pub low : w.tally.reads + pending w.clients ≤ n
  pub apart : (c : ClientId) (site : WorldClient) → site_of w c ≡ Some site → Apart (map server_at site.node.state.associations)

-- one client is replaced
replaced : (n : ℕ) (w v : World) (c : ClientId) (old new : WorldClient) → site_of w c ≡ Some old → v.clients ≡ with_numbered c.0 new w.clients → v.tally.reads + ops_at new ≤ w.tally.reads + ops_at old + 1 →
    map server_at new.node.state.associations ≡ map server_at old.node.state.associations → ReadsLow n w → ReadsLow (n + 1) v
replaced n w v c old new there cs more same h =
    record {
      low = let a = pending_with w.clients c.0 old new there in let b = ap pending cs in let d = h.low in omega (arith, a, b, d, more);
      apart = λ d site e. go d site e (same_or_not d.0 c.0);
    }
  where
    go : (d : ClientId) (site : WorldClient) → site_of v d ≡ Some site → (d.0 ≡ c.0) ⊎ (d.0 ≢ c.0) → Apart (map server_at site.node.state.associations)
    go d site e (inl i) =
        let s : new ≡ site = some_is (sym (numbered_own w.clients c.0 new old there) ∙ ap (numbered (with_numbered c.0 new w.clients)) (sym i) ∙ ap (λ zs. numbered zs d.0) (sym cs) ∙ e) in
        subst (λ (y : WorldClient). Apart (map server_at y.node.state.associations)) s (subst Apart (sym same) (h.apart c old there))
    go d site e (inr x) = h.apart d site (sym (numbered_other w.clients c.0 d.0 new (numbered_below w.clients c.0 old there).0 x) ∙ ap (λ zs. numbered zs d.0) (sym cs) ∙ e)

took : (n : ℕ) (w : World) (c : ClientId) (input : ClientInput) (old site : WorldClient) → site_of w c ≡ Some old → Takes old site input → ReadsLow n w → ReadsLow (n + 1) (ev.client_took w c site (Ok (ClientSteps w c site input))).world
unfolding ev.client_took
took n w c input old site there is h =
    replaced n w v c old after there (rows.clients ∙ said.clients)
    (let a = ap (λ (t : Tally). t.reads) rows.tally in let b = told.reads in let d = goes.low in let e = ap (λ (m : cl.ClientNode). length m.state.operations) is.node in omega (arith, a, b, d, e))
    (goes.servers ∙ ap (λ (m : cl.ClientNode). map server_at m.state.associations) (sym is.node)) h
  where
    t : cl.NodeTurn
    t = ClientSteps w c site input

    after : WorldClient
    after = ev.at_node t.node site

    u : World
    u = (ev.client_says_all c site.node.state t.out (ev.quiet (ev.with_site c after w))).world

    v : World
    v = ev.flushes c t.node.state (world.all_servers u) u

    rows : SameRows u v
    rows = flush_rows c t.node.state (world.all_servers u) u

    said : Said c t.out (ev.with_site c after w) u
    said = said_all c site.node.state after t.out (ev.quiet (ev.with_site c after w)) (numbered_own w.clients c.0 after old there)

    told : Told t.out (ev.with_site c after w) u
    told = told_all c site.node.state t.out (ev.quiet (ev.with_site c after w))

    goes : GoesLow 1 (client_turn site.node.state []) (cl.client_step site.node.state (clock_of w (nodes.Client c)) input)
    goes = step_low site.node.state (clock_of w (nodes.Client c)) input (subst (λ (m : cl.ClientNode). Apart (map server_at m.state.associations)) is.node (h.apart c old there))

kept : (m n : ℕ) (w v : World) → m ≤ n → v.clients ≡ w.clients → v.tally.reads ≡ w.tally.reads → ReadsLow m w → ReadsLow n v
kept m n w v l cs r h = record { low = let a = ap pending cs in let b = h.low in omega (arith, a, b, r, l); apart = λ c site e. h.apart c site (ap (λ zs. numbered zs c.0) (sym cs) ∙ e) }

map_again : (f : Association → Association) → ((a : Association) → (f a).server ≡ a.server) → (al : List Association) → map server_at (map f al) ≡ map server_at al
map_again f h [] = refl
map_again f h (a ∷ al) = ap (λ s. s ∷ map server_at (map f al)) (h a) ∙ ap (λ l. a.server ∷ l) (map_again f h al)

pub cases : (n : ℕ) → Cases (ReadsLow n) (ReadsLow (n + 1))
unfolding ev.server_took cl.crash cl.start
cases n =
    record {
      beside = λ w v b h. kept n n w v (omega arith) b.clients (ap (λ (t : Tally). t.reads) b.tally) h;
      done = λ w h. kept n (n + 1) w w (omega arith) refl refl h;
      client = λ w c input old site there is r h. took n w c input old site there is h;
      server = λ w s input node there r h.
          let t = ServerSteps w s node input in
          let said = served_all s t.out (ev.quiet (ev.with_node s t.node w)) in
          kept n (n + 1) w (ev.server_says_all s t.out (ev.quiet (ev.with_node s t.node w))).world (omega arith) said.clients said.reads h;
      crash = λ w c site es there l h. replaced n w (ev.with_log es (ev.with_site c (ev.stopped_site site) (ev.with_crashed_lives site w))) c site (ev.stopped_site site) there refl (omega arith) (map_again cl.crashed_association (λ a. refl) site.node.state.associations) h;
      start = λ w c site there h. replaced n w (ev.with_site c (ev.started_site site) w) c site (ev.started_site site) there refl (omega arith) (map_again cl.started_association (λ a. refl) site.node.state.associations) h;
      stop = λ w s node there h. record { low = let z = h.low in omega (arith, z); apart = h.apart };
      begin = λ w s node there h. record { low = let z = h.low in omega (arith, z); apart = h.apart };
    }

-- The world of a head.
fresh_count : (s : ServerId) (a n : ℕ) → (count_of s (map server_at (map cl.fresh_association (numbers a n))) ≤ 1) × (suc s.0 ≤ a → count_of s (map server_at (map cl.fresh_association (numbers a n))) ≡ 0)
unfolding numbers
fresh_count s a zero = (omega arith, λ l. refl)
fresh_count s a (suc n) = go (a == s.0) refl (fresh_count s (a + 1) n)
  where
    rest : ℕ
    rest = count_of s (map server_at (map cl.fresh_association (numbers (a + 1) n)))

    go : (b : Bool) → (a == s.0) ≡ b → (rest ≤ 1) × (suc s.0 ≤ a + 1 → rest ≡ 0) → ((if b then 1 else 0) + rest ≤ 1) × (suc s.0 ≤ a → (if b then 1 else 0) + rest ≡ 0)
    go true e h = let q = eqb-true a s.0 e in (let z = h.1 (omega (arith, q)) in omega (arith, z), λ l. absurd (omega (arith, q, l)))
    go false e h = (let z = h.0 in omega (arith, z), λ l. let z = h.1 (omega (arith, l)) in omega (arith, z))

fresh_pending : (k : Config) (servers : ℕ) (xs : List ℕ) → pending (map (fresh_site k servers) xs) ≡ 0
unfolding cl.fresh_client
fresh_pending k servers [] = refl
fresh_pending k servers (x ∷ xs) = let z = fresh_pending k servers xs in omega (arith, z)

pub fresh_low : (k : Config) (clients servers d b form : ℕ) → ReadsLow 0 (fresh_world k clients servers d b form)
unfolding fresh_world cl.fresh_client
fresh_low k clients servers d b form =
    record {
      low = let z = fresh_pending k servers (numbers 1 clients) in omega (arith, z);
      apart = λ c site e.
          let x = has_map (fresh_site k servers) (numbers 1 clients) site (numbered_has _ c.0 site e) in
          subst (λ (y : WorldClient). Apart (map server_at y.node.state.associations)) (sym x.2) (λ s. (fresh_count s 1 servers).0);
    }
