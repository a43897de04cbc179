-- A step of a server: one wait more at most, and at most sixteen messages for each wait.
use Rattle.st_lemmas.proofs.Words
use Words.{◌≡◌, ℕ, ◌+◌, ◌*◌, ◌≤◌, Bool, List, [], ◌∷◌, ◌++◌, refl, sym, ap, ◌∙◌, subst, arith, inl, inr, ◌⊎◌, not, filter, find, map}
use Words.{length, Option, Some, None, Config, ClientId, GrantNo, Life, Stamp, Mode, Body, Header, Output, ServerInput, LockRow, RowDemand, Waiter}
use Words.{Message, length-append}
use Words.bodies
use Words.outputs
use Words.serving.{Tick, Control}
use Words.Authority as authority
use Words.Keys.{client, rising}
use Words.Locks as locks
use Words.Locks.{Locks}
use Words.Server as sv
use Words.Server.{ServerState, ServerTurn}
use Words.Lists.{Has}
use Words.Tables.{has_filter, has_map}
use Words.Lengths.{length_map, nothing_after}
use Words.Serving.{own_wait, released_waits}
use Words.Tests.{filtered_no_longer}
use Rattle.st_lemmas.proofs.Keys.{rising_has, rising_rises}
use Rattle.st_laws_bounds.proofs.Counters.Thefts.{FewClients, FewLocks, InRange, before_demands, demand_for_few, stolen_each}
use Rattle.st_laws_bounds.proofs.Counters.Weights.{of_message, weigh, weigh_both}
use Rattle.st_laws_bounds.proofs.FewMessages.Lengths.{few_rising, one_less, rising_length}
use Rattle.st_trace.specs.Server.Edits as edits
use Rattle.st_trace.specs.Server.Edits.{AtThefts, AtInput, AtSuspicion, AtGrants, NoSends, AtOnce, InTurn, Ruled, Tells, Acquires, Releases, Allocates, Cuts}
use Rattle.st_trace.specs.Server.Edits.{Creates, MakesDir, Renames, RemovesDir, RemovesFile, Refused, IsSuspect, GreetsInGrace, OfOtherEpoch, HasNoSession}
use Rattle.st_trace.specs.Server.Edits.{IsRefusedRows, Edit, TakesTimers, Steals, Welcomes, Begins, Replaces, PutsOff, Sees, Reasserts, Repeats, Refuses}
use Rattle.st_trace.specs.Server.Edits.{Suspects, Grants}
use Rattle.st_trace.proofs.Server.Input.{thefts_begun, walk_of_thefts, input_once}
use Rattle.st_trace.proofs.Server.Walk.{walk_of_suspecting, walk_of_granting}

-- Changes of the locks.
queued_waits : (l : Locks) (c : ClientId) (life : Life) (ino : ℕ) (mode : Mode) → length (locks.queue l c life ino mode).waiters ≤ 1 + length l.waiters
unfolding locks.queue locks.queue_at
queued_waits l c life ino mode = go (locks.wait_of l c ino)
  where
    go : (o : Option Waiter) → length (locks.queue_at l c life ino mode o).waiters ≤ 1 + length l.waiters
    go None = let z = length-append l.waiters (locks.new_wait c life ino mode ∷ []) in omega (arith, z)
    go (Some x) = let z = length_map (locks.raise c ino mode) l.waiters in omega (arith, z)

granted_waits : (l : Locks) (c : ClientId) (life : Life) (ino : ℕ) (mode : Mode) → length (locks.grant l c life ino mode).waiters ≤ length l.waiters
unfolding locks.grant
granted_waits l c life ino mode = filtered_no_longer (λ w. not (locks.is_wait_of c ino w)) l.waiters

-- what is said one after another
joined : (os : List Output) (x y : Output) → (os ++ x ∷ []) ++ y ∷ [] ≡ os ++ x ∷ y ∷ []
joined [] x y = refl
joined (o ∷ os) x y = ap (λ (r : List Output). o ∷ r) (joined os x y)

-- how many wait, and how many messages were sent
abbrev waits : ServerTurn → ℕ
waits t = length t.state.locks.waiters

abbrev sends : ServerTurn → ℕ
sends t = weigh of_message t.out

-- thefts send nothing
none_sent : (os : List Output) → NoSends os → weigh of_message os ≡ 0
none_sent [] q = refl
none_sent (outputs.Send m ∷ os) q = absurd q
none_sent (outputs.Note x ∷ os) q = let k = none_sent os q in omega (arith, k)
none_sent (outputs.Answer c a ∷ os) q = let k = none_sent os q in omega (arith, k)
none_sent (outputs.Submit c a b ∷ os) q = let k = none_sent os q in omega (arith, k)

-- what else is said
more_sent : (j : ℕ) (t u : ServerTurn) (os : List Output) → u.out ≡ t.out ++ os → weigh of_message os ≤ j → sends u ≤ j + sends t
more_sent j t u os e k = let a = weigh_both of_message t.out os in let b = ap (weigh of_message) e in omega (arith, a, b, k)

module _ (n : ServerState) (now : Stamp) (i : ServerInput) where
  abbrev begun : ServerTurn
  begun = sv.thefts (sv.turn n []) now

  -- Thefts drop waits.
  steals : (t u : ServerTurn) → Edit n now i AtThefts t u → waits t ≤ length n.locks.waiters → waits u ≤ length n.locks.waiters
  unfolding sv.steal_from locks.forget
  steals t u (TakesTimers _ e) p = p
  steals t u (Steals _ c s h e) p = let l = filtered_no_longer (λ w. not (locks.is_wait_by c w)) t.state.locks.waiters in omega (arith, l, p)

  stolen : waits begun ≤ length n.locks.waiters
  stolen = walk_of_thefts n now i (λ t. waits t ≤ length n.locks.waiters) steals (omega arith)

  -- One wait more at most, and one message, which may be for a wait that ends.
  record Few (t : ServerTurn) : Type 0 where
    few : waits t ≤ 1 + length n.locks.waiters
    sum : waits t + sends t ≤ 2 + length n.locks.waiters

  few_begun : Few begun
  few_begun = let a = stolen in let b = none_sent begun.out (thefts_begun n now).quiet in record { few = omega (arith, a); sum = omega (arith, a, b) }

  -- a message more, at the thefts
  one_more : (t u : ServerTurn) (os : List Output) → t ≡ begun → waits u ≤ 1 + waits t → u.out ≡ t.out ++ os → weigh of_message os ≤ 1 → Few u
  one_more t u os e w o k =
      let a = stolen in
      let b = none_sent begun.out (thefts_begun n now).quiet in
      let c = ap waits e in
      let d = ap sends e in
      let f = weigh_both of_message t.out os in
      let g = ap (weigh of_message) o in
      record { few = omega (arith, a, c, w); sum = omega (arith, a, b, c, d, f, g, k, w) }

  rule_few : (t : ServerTurn) (h : Header) (b : Body) (u : ServerTurn) (r : Body) → t ≡ begun → Ruled now t h b u r → Few (sv.keep_and_reply u h r)
  unfolding sv.keep_and_reply sv.reply sv.cut_pages sv.cut_whole locks.drop_file_waits
  rule_few t h b u r e (Tells _ _ x) = one_more t _ (_ ∷ []) e (omega arith) refl (omega arith)
  rule_few t h b u r e (Acquires ino mode a f k (AtOnce g x y)) = let l = granted_waits t.state.locks (sv.sender h) (sv.life_in h) ino mode in
      one_more t _ (_ ∷ []) e (omega (arith, l)) refl (omega arith)
  rule_few t h b u r e (Acquires ino mode a f k (InTurn g)) =
      one_more t _ (_ ∷ []) e (queued_waits t.state.locks (sv.sender h) (sv.life_in h) ino mode) refl (omega arith)
  rule_few t h b u r e (Releases ino g to x f q) = let l = ap (λ (ws : List Waiter). length ws) (released_waits t.state.locks (sv.sender h) ino to) in
      one_more t _ (_ ∷ []) e (omega (arith, l)) refl (omega arith)
  rule_few t h b u r e (Allocates ino g p k x f q a) = one_more t _ (_ ∷ []) e (omega arith) refl (omega arith)
  rule_few t h b u r e (Cuts ino g p f q) = one_more t _ (_ ∷ _ ∷ []) e (omega arith) (joined t.out _ _) (omega arith)
  rule_few t h b u r e (Creates dir x d q) = one_more t _ (_ ∷ []) e (omega arith) refl (omega arith)
  rule_few t h b u r e (MakesDir dir x d q) = one_more t _ (_ ∷ []) e (omega arith) refl (omega arith)
  rule_few t h b u r e (Renames dir x dir2 x2 d q) = one_more t _ (_ ∷ []) e (omega arith) refl (omega arith)
  rule_few t h b u r e (RemovesDir dir x g ino d l f z q s) = one_more t _ (_ ∷ []) e (omega arith) refl (omega arith)
  rule_few t h b u r e (RemovesFile dir x g ino d l f q a s) =
      let c = filtered_no_longer (λ w. not (locks.is_wait_on d.ino w)) t.state.locks.waiters in
      one_more t _ (_ ∷ _ ∷ []) e (omega (arith, c)) (joined t.out _ _) (omega arith)

  refused_first : (t : ServerTurn) (m : Message) (b : Body) → Refused n now i t m b → t ≡ begun
  refused_first t m b (IsSuspect start c r e) = c.first
  refused_first t m b (GreetsInGrace h e g) = h.came.first
  refused_first t m b (OfOtherEpoch h e) = h.came.first
  refused_first t m b (HasNoSession a e) = a.heard.came.first
  refused_first t m b (IsRefusedRows rows x r e) = r.asked.heard.came.first

  input_few : (t u : ServerTurn) → Edit n now i AtInput t u → Few u
  unfolding sv.reply sv.suspect_client locks.drop_waits locks.demand_seen locks.with_rows
  input_few t u (Welcomes _ m s g e a f) = one_more t _ (_ ∷ []) g.heard.came.first (omega arith) refl (omega arith)
  input_few t u (Begins _ m g f) = one_more t _ (_ ∷ []) g.heard.came.first (omega arith) refl (omega arith)
  input_few t u (Replaces _ m s g e a f r) = let l = filtered_no_longer (λ w. not (locks.is_wait_by (sv.sender m.header) w)) t.state.locks.waiters in
      one_more t _ (_ ∷ []) g.heard.came.first (omega (arith, l)) refl (omega arith)
  input_few t u (PutsOff _ m s g e a f r) =
      let l = filtered_no_longer (λ w. not (locks.is_wait_by (sv.sender m.header) w)) t.state.locks.waiters in
      one_more t _ (_ ∷ _ ∷ []) g.heard.came.first (omega (arith, l)) (joined t.out _ _) (omega arith)
  input_few t u (Sees _ m ino g h b e) = one_more t _ [] h.came.first (omega arith) (nothing_after t.out) (omega arith)
  input_few t u (Reasserts _ m rows r on f) = one_more t _ (_ ∷ []) r.asked.heard.came.first (omega arith) refl (omega arith)
  input_few t u (edits.Serves _ m v b s e r) = rule_few t m.header m.body v b s.asked.heard.came.first r
  input_few t u (Repeats _ m s b a e f g k) = one_more t _ (_ ∷ []) a.heard.came.first (omega arith) refl (omega arith)
  input_few t u (Refuses _ m b r) = one_more t _ (_ ∷ []) (refused_first t m b r) (omega arith) refl (omega arith)

  taken : Few (sv.take_input begun now i)
  taken = go (input_once n now i)
    where
      go : (sv.take_input begun now i ≡ begun) ⊎ Edit n now i AtInput begun (sv.take_input begun now i) → Few (sv.take_input begun now i)
      go (inl e) = subst Few (sym e) few_begun
      go (inr x) = input_few _ _ x

  -- Suspicion drops waits, and each grant is a message more and a wait less.
  suspects : (t u : ServerTurn) → Edit n now i AtSuspicion t u → Few t → Few u
  unfolding sv.suspect_client locks.drop_waits
  suspects t u (Suspects _ c r is q f h e o) p =
      let l = filtered_no_longer (λ w. not (locks.is_wait_by c w)) t.state.locks.waiters in
      let m = more_sent 0 t (sv.suspect_client t now c) (_ ∷ []) refl (omega arith) in
      let a = p.few in let b = p.sum in
      record { few = omega (arith, l, a); sum = omega (arith, l, m, b) }

  grants : (t u : ServerTurn) → Edit n now i AtGrants t u → Few t → Few u
  unfolding sv.tell locks.grant
  grants t u (Grants _ w off has first free) p =
      let l = one_less (locks.is_wait_of w.client w.ino) t.state.locks.waiters w has (own_wait w) in
      let m = more_sent 1 t u (_ ∷ []) refl (omega arith) in
      let a = p.few in let b = p.sum in
      record { few = omega (arith, l, a); sum = omega (arith, l, m, b) }

-- What a demand leaves.
-- What a rule leaves: at most this many more waits, and at most this many messages more.
pub record Waits (a b : ℕ) (ws : List Waiter) (out : List Output) (ws2 : List Waiter) (out2 : List Output) : Type 0 where
  pub waits : length ws2 ≤ a + length ws
  pub sends : weigh of_message out2 ≤ b + weigh of_message out

abbrev W : ℕ → ℕ → ServerTurn → ServerTurn → Type 0
W a b t u = Waits a b t.state.locks.waiters t.out u.state.locks.waiters u.out

few_in_nothing : (a b : ℕ) (t : ServerTurn) → W a b t t
few_in_nothing a b t = record { waits = omega arith; sends = omega arith }

few_in_sequence : (a b c d : ℕ) (t u v : ServerTurn) → W a b t u → W c d u v → W (a + c) (b + d) t v
few_in_sequence a b c d t u v x y = let e = x.waits in let f = x.sends in let g = y.waits in let h = y.sends in
    record { waits = omega (arith, e, g); sends = omega (arith, f, h) }

few_in_weaker : (a b c d : ℕ) (t u : ServerTurn) → a ≤ c → b ≤ d → W a b t u → W c d t u
few_in_weaker a b c d t u l m x = let e = x.waits in let f = x.sends in record { waits = omega (arith, e, l); sends = omega (arith, f, m) }

-- more is said, of which this many are messages, and there are no more waits
waits_say : (a b j : ℕ) (ws ws2 : List Waiter) (out os : List Output) → length ws2 ≤ a + length ws → weigh of_message os ≡ j → j ≤ b →
    Waits a b ws out ws2 (out ++ os)
waits_say a b j ws ws2 out os l e m = let z = weigh_both of_message out os in record { waits = l; sends = omega (arith, z, e, m) }

few_in_says : (a b j : ℕ) (t : ServerTurn) (os : List Output) → weigh of_message os ≡ j → j ≤ b → W a b t (record t { out = t.out ++ os })
few_in_says a b j t os e m = waits_say a b j t.state.locks.waiters t.state.locks.waiters t.out os (omega arith) e m

few_in_tell : (t : ServerTurn) (c : ClientId) (life : Life) (b : Body) → W 0 1 t (sv.tell t c life b)
unfolding sv.tell
few_in_tell t c life b = few_in_says 0 1 1 t (_ ∷ []) refl (omega arith)

-- Demanding: at most sixteen clients for each file for which somebody waits.
record Demands (n : ℕ) (p q : locks.Demanding) : Type 0 where
  waits : q.locks.waiters ≡ p.locks.waiters
  due : length q.due ≤ n + length p.due

demand_row : (k : Config) (now : Stamp) (tick : Bool) (to : Mode) (o : Option LockRow) (p : locks.Demanding) → Demands 1 p (locks.demand_row k now tick to o p)
unfolding locks.demand_row locks.demand_with
demand_row k now tick to None p = record { waits = refl; due = omega arith }
demand_row k now tick to (Some r) p = go (locks.demand_now k now tick to r.demand)
  where
    go : (o : Option RowDemand) → Demands 1 p (locks.demand_with p r o)
    go None = record { waits = refl; due = omega arith }
    go (Some d) = record { waits = refl; due = let z = length-append p.due ((r.client, r.life, r.ino, r.g, d.to) ∷ []) in omega (arith, z) }

demand_clients : (k : Config) (now : Stamp) (tick : Bool) (ino : ℕ) (to : Mode) (cs : List ClientId) (p : locks.Demanding) →
    Demands (length cs) p (locks.demand_clients k now tick ino to cs p)
unfolding locks.demand_clients
demand_clients k now tick ino to [] p = record { waits = refl; due = omega arith }
demand_clients k now tick ino to (c ∷ cs) p =
    let q = locks.demand_row k now tick to (locks.row_of p.locks c ino) p in
    let x = demand_row k now tick to (locks.row_of p.locks c ino) p in
    let y = demand_clients k now tick ino to cs q in
    let a = x.due in let b = y.due in
    record { waits = y.waits ∙ x.waits; due = omega (arith, a, b) }

-- sixteen clients at most are in the way of a wait
few_to_demand : (l : Locks) (ss : List ClientId) (w : Waiter) → FewLocks l → length (locks.to_demand l ss w) ≤ 16
few_to_demand l ss w h =
    let a = filtered_no_longer (λ c. not (locks.is_among ss c)) (map client (rising ks)) in
    let b = length_map client (rising ks) in
    let c = few_rising (rising ks) (λ x i. (range x i).least) (λ x i. (range x i).most) (rising_rises ks) in
    omega (arith, a, b, c)
  where
    rows : List LockRow
    rows = filter (locks.stands_against w.client w.ino w.mode) l.rows

    ks : List ℕ
    ks = map locks.client_of_row rows

    range : (x : ℕ) → Has x (rising ks) → InRange x
    range x i =
        let r = has_map locks.client_of_row rows x (rising_has ks x i) in
        subst InRange (sym r.2) (h.rows r.0 (has_filter (locks.stands_against w.client w.ino w.mode) l.rows r.0 r.1).0)

demand_for : (k : Config) (now : Stamp) (tick : Bool) (ss : List ClientId) (o : Option Waiter) (p : locks.Demanding) → FewLocks p.locks →
    Demands 16 p (locks.demand_for k now tick ss o p)
unfolding locks.demand_for
demand_for k now tick ss None p h = record { waits = refl; due = omega arith }
demand_for k now tick ss (Some w) p h =
    let x = demand_clients k now tick w.ino (locks.wish w.mode) (locks.to_demand p.locks ss w) p in
    let a = x.due in let b = few_to_demand p.locks ss w h in
    record { waits = x.waits; due = omega (arith, a, b) }

demand_files : (k : Config) (now : Stamp) (tick : Bool) (ss : List ClientId) (inos : List ℕ) (p : locks.Demanding) → FewLocks p.locks →
    Demands (16 * length inos) p (locks.demand_files k now tick ss inos p)
unfolding locks.demand_files
demand_files k now tick ss [] p h = record { waits = refl; due = omega arith }
demand_files k now tick ss (ino ∷ inos) p h =
    let o = find (locks.is_wait_on ino) p.locks.waiters in
    let q = locks.demand_for k now tick ss o p in
    let x = demand_for k now tick ss o p h in
    let y = demand_files k now tick ss inos q (demand_for_few k now tick ss o p h) in
    let a = x.due in let b = y.due in
    record { waits = y.waits ∙ x.waits; due = omega (arith, a, b) }

told_demands : (rs : List (ClientId × Life × ℕ × GrantNo × Mode)) (t : ServerTurn) → W 0 (length rs) t (sv.tell_demanded rs t)
unfolding sv.tell_demanded
told_demands [] t = few_in_nothing 0 0 t
told_demands (r ∷ rs) t =
    let u = sv.tell t r.0 r.1 (bodies.Demand r.2 r.3 r.4) in
    few_in_weaker 0 (1 + length rs) 0 (length (r ∷ rs)) t (sv.tell_demanded rs u) (omega arith) (omega arith)
    (few_in_sequence 0 1 0 (length rs) t u (sv.tell_demanded rs u) (few_in_tell t r.0 r.1 (bodies.Demand r.2 r.3 r.4)) (told_demands rs u))

demanding : (t : ServerTurn) (now : Stamp) (i : ServerInput) → FewLocks t.state.locks → W 0 (16 * length t.state.locks.waiters) t (sv.demanding t now i)
unfolding sv.demanding sv.demand_by locks.demands_due
demanding t now i h =
    let a = told.waits in let b = told.sends in let c = all.due in let e = ap (λ (ws : List Waiter). length ws) all.waits in
    let f = rising_length (map locks.ino_of_wait t.state.locks.waiters) in
    let g = length_map locks.ino_of_wait t.state.locks.waiters in
    record { waits = omega (arith, a, e); sends = omega (arith, b, c, f, g) }
  where
    d : locks.Demanding
    d = locks.demands_due t.state.locks now (sv.is_tick i) (authority.suspects_of t.state.authority) t.state.config

    u : ServerTurn
    u = sv.with_locks d.locks t

    told : W 0 (length d.due) u (sv.tell_demanded d.due u)
    told = told_demands d.due u

    all : Demands (16 * length (locks.waited_files t.state.locks)) (locks.nothing_demanded t.state.locks) d
    all = demand_files t.state.config now (sv.is_tick i) (authority.suspects_of t.state.authority) (locks.waited_files t.state.locks)
        (locks.nothing_demanded t.state.locks) h

-- The whole step.
pub record Serves (s : ServerState) (u : ServerTurn) : Type 0 where
  pub waits : length u.state.locks.waiters ≤ 1 + length s.locks.waiters
  pub sends : weigh of_message u.out ≤ 17 + 16 * length s.locks.waiters

pub step_serves : (s : ServerState) (now : Stamp) (i : ServerInput) → FewClients s → Serves s (sv.server_step s now i)
unfolding sv.server_step sv.thefts sv.suspecting_on sv.suspecting sv.take_input
step_serves s now i h =
    let a = granted.few in let b = granted.sum in let m = demands.waits in let n = demands.sends in
    record { waits = omega (arith, a, m); sends = omega (arith, a, b, m, n) }
  where
    b : ServerTurn
    b = sv.take_input (sv.thefts (sv.turn s []) now) now i

    c : ServerTurn
    c = sv.suspecting_on b now i

    silent : (x : ServerInput) → i ≡ x → Few s now i (sv.suspecting_on b now x)
    silent Tick e = walk_of_suspecting s now i (Few s now i) (suspects s now i) b e (quiet i e) (taken s now i)
      where
        quiet : (x : ServerInput) → x ≡ Tick → NoSends (sv.take_input (sv.thefts (sv.turn s []) now) now x).out
        quiet x e = subst (λ x. NoSends (sv.take_input (sv.thefts (sv.turn s []) now) now x).out) (sym e) (thefts_begun s now).quiet
    silent (Control m) e = taken s now i

    d : ServerTurn
    d = sv.granting c now

    granted : Few s now i d
    granted = walk_of_granting s now i (Few s now i) (grants s now i) c (silent i refl)

    few : FewLocks d.state.locks
    few =
        (before_demands s now i).locks
        ((stolen_each (authority.over s.authority now) (sv.with_authority (authority.still_running s.authority now) (sv.turn s []))).locks h.locks)

    demands : W 0 (16 * length d.state.locks.waiters) d (sv.demanding d now i)
    demands = demanding d now i few
