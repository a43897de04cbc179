-- A tick at a server: each pass leaves the server as it is before its first moment, and does something from then on.
use Rattle.st_lemmas.proofs.Words
use Words.{◌≡◌, ◌≢◌, ℕ, suc, ◌+◌, ◌≤◌, ◌<◌, Bool, true, false, ◌&&◌, ◌||◌, not, List, [], ◌∷◌, ◌++◌, refl, sym, ap, ◌∙◌, subst, arith, cond, filter, length, map, Option, Some, None, nat_le, nat_lt, list_any}
use Words.{◌⊎◌, inl, inr, cases_lt, le-leb, le-ltb, lt-leb, lt-ltb, Body, ClientId, Config, GrantNo, Life, Mode, Session, Stamp, LockRow, RowDemand, Suspect}
use Words.Authority.{Authority, client_of_suspect, is_over, may_ack, over, still_running, suspects_of}
use Words.Grace.{Grace, is_on}
use Words.Keys.{client, rising}
use Words.Locks.{Demanding, Granting, Locks, client_of_row, demands_due, is_overdue, is_overdue_demand, is_overdue_since, next_grants, unanswered, waited_files}
use Words.Server.{ServerState, ServerTurn, demand_by, demanding, grant_by, grant_waiting, granting, in_grace, server_step, steal, steal_at, steal_each, steal_from, suspect_client}
use Words.Server.{suspect_each, suspect_unless, suspecting, suspecting_on, take_input, tell, tell_demanded, tell_granted, thefts, turn, with_authority, with_locks}
use Words.Sessions.{session_of}
use Words.serving.{Tick}
use Words.bodies
use Rattle.std.proofs.lemmas.List.Folds.{list_any-append}
use Rattle.st_lemmas.proofs.Tests.{any_same}
use Rattle.st_due.specs.Moments.{has_come, is_due}
use Rattle.st_due.specs.ServerDue.{TicksAreDue, demands_at, grace_end, grants_at, may_grant_on, moments, overdue_demand, overdue_since, server_due, suspicion_at, suspicions_at, theft_of, thefts_at}
use Rattle.st_due.proofs.EarliestFound.{any_filtered, comes, earliest_due}
use Rattle.st_laws_due.proofs.Moments.{any_mapped, any_over, any_picked, any_rising}
use Rattle.st_laws_due.proofs.LockPasses.{demands_by, grants_by}
use Rattle.st_laws_due.proofs.Passes.{IsBy, and_then, fold_steps, never_less, one_longer, steps_by}

-- the number of outputs so far
abbrev pub said : ServerTurn → ℕ
said t = length t.out

-- a pass that says nothing leaves the step as it is
unchanged : (b : Bool) (t u : ServerTurn) → IsBy said b t u → said u ≤ said t → u ≡ t
unchanged true t u h l = let m = h.more refl in absurd (omega (arith, m, l))
unchanged false t u h l = h.same refl

-- Grants and demands: each is one output.

tell_says : (t : ServerTurn) (c : ClientId) (life : Life) (body : Body) → said (tell t c life body) ≡ said t + 1
unfolding tell
tell_says t c life body = one_longer t.out _

granted_told : (xs : List (ClientId × Life × ℕ × GrantNo × Mode)) (t : ServerTurn) → said (tell_granted xs t) ≡ said t + length xs
unfolding tell_granted
granted_told [] t = omega arith
granted_told (x ∷ xs) t =
    let a = granted_told xs (tell t x.0 x.1 (bodies.Granted x.2 x.3 x.4)) in
    let b = tell_says t x.0 x.1 (bodies.Granted x.2 x.3 x.4) in
    omega (arith, a, b)

demanded_told : (xs : List (ClientId × Life × ℕ × GrantNo × Mode)) (t : ServerTurn) → said (tell_demanded xs t) ≡ said t + length xs
unfolding tell_demanded
demanded_told [] t = omega arith
demanded_told (x ∷ xs) t =
    let a = demanded_told xs (tell t x.0 x.1 (bodies.Demand x.2 x.3 x.4)) in
    let b = tell_says t x.0 x.1 (bodies.Demand x.2 x.3 x.4) in
    omega (arith, a, b)

no_grant_told : (t : ServerTurn) → tell_granted [] (with_locks t.state.locks t) ≡ t
unfolding tell_granted
no_grant_told t = refl

no_demand_told : (t : ServerTurn) → tell_demanded [] (with_locks t.state.locks t) ≡ t
unfolding tell_demanded
no_demand_told t = refl

waiting_by : (t : ServerTurn) → IsBy said (list_any (may_grant_on t.state.locks) (waited_files t.state.locks)) t (grant_waiting t)
unfolding grant_waiting grant_by
waiting_by t =
    let p = next_grants t.state.locks in
    let h = grants_by t.state.locks in
    record {
      same = λ e. ap (λ (q : Granting). tell_granted q.granted (with_locks q.locks t)) (h.same e) ∙ no_grant_told t;
      more = λ e. let a = granted_told p.granted (with_locks p.locks t) in let b = h.more e in omega (arith, a, b);
    }

-- grace is over from its end on
grace_come : (g : Option Grace) (now : Stamp) → has_come now (grace_end g) ≡ not (is_on g now)
grace_come None now = le-leb 0 now.0 (omega arith)
grace_come (Some g) now = not_below now.0 (g.start.0 + g.wait)
  where
    not_below : (m n : ℕ) → nat_le n m ≡ not (nat_lt m n)
    not_below m n = by (cases_lt m n)
      where
        by : (m < n) ⊎ (n ≤ m) → nat_le n m ≡ not (nat_lt m n)
        by (inl l) = lt-leb n m l ∙ ap not (sym (lt-ltb m n l))
        by (inr l) = le-leb n m l ∙ ap not (sym (le-ltb m n l))

grants_come : (b : Bool) (g : Option Grace) (now : Stamp) → list_any (has_come now) (cond b (grace_end g ∷ []) []) ≡ (not (is_on g now) && b)
grants_come true g now = by (has_come now (grace_end g)) ∙ ap (λ c. c && true) (grace_come g now)
  where
    by : (c : Bool) → (c || false) ≡ (c && true)
    by true = refl
    by false = refl
grants_come false g now = by (not (is_on g now))
  where
    by : (c : Bool) → false ≡ (c && false)
    by true = refl
    by false = refl

granting_by : (t : ServerTurn) (now : Stamp) → IsBy said (list_any (has_come now) (grants_at t.state.grace t.state.locks)) t (granting t now)
unfolding granting
granting_by t now =
    let b = list_any (may_grant_on t.state.locks) (waited_files t.state.locks) in
    subst (λ c. IsBy said c t (cond (in_grace t now) t (grant_waiting t))) (sym (grants_come b t.state.grace now)) (by (in_grace t now) b (waiting_by t))
  where
    by : (on b : Bool) → IsBy said b t (grant_waiting t) → IsBy said (not on && b) t (cond on t (grant_waiting t))
    by true b h = record { same = λ e. refl; more = λ e. cc }
    by false b h = h

demanding_by : (t : ServerTurn) (now : Stamp) →
    IsBy said (list_any (has_come now) (demands_at t.state.config t.state.locks (suspects_of t.state.authority))) t (demanding t now Tick)
unfolding demanding demand_by
demanding_by t now =
    let p = demands_due t.state.locks now true (suspects_of t.state.authority) t.state.config in
    let h = demands_by t.state.config now (suspects_of t.state.authority) t.state.locks in
    record {
      same = λ e. ap (λ (q : Demanding). tell_demanded q.due (with_locks q.locks t)) (h.same e) ∙ no_demand_told t;
      more = λ e. let a = demanded_told p.due (with_locks p.locks t) in let b = h.more e in omega (arith, a, b);
    }

-- Suspicions.

-- a client is suspected, unless it is already
abbrev pub suspect_step : Stamp → ClientId → ServerTurn → ServerTurn
suspect_step now c t = suspect_unless t now c

suspected_says : (t : ServerTurn) (now : Stamp) (c : ClientId) → said (suspect_client t now c) ≡ said t + 1
unfolding suspect_client
suspected_says t now c = one_longer t.out _

suspected_if : (now : Stamp) (c : ClientId) (t : ServerTurn) (b : Bool) → IsBy said b t (cond b (suspect_client t now c) t)
suspected_if now c t true = record { same = λ e. cc; more = λ e. let a = suspected_says t now c in omega (arith, a) }
suspected_if now c t false = record { same = λ e. refl; more = λ e. cc }

suspect_by : (now : Stamp) (c : ClientId) (t : ServerTurn) → IsBy said (may_ack t.state.authority c) t (suspect_step now c t)
unfolding suspect_unless
suspect_by now c t = suspected_if now c t (may_ack t.state.authority c)

suspects_fold : (now : Stamp) (cs : List ClientId) (t : ServerTurn) → fold_steps (suspect_step now) cs t ≡ suspect_each now cs t
unfolding suspect_each
suspects_fold now [] t = refl
suspects_fold now (c ∷ cs) t = suspects_fold now cs (suspect_step now c t)

-- a row's client is suspected, if it isn't already and the demand is overdue
suspicion_come : (k : Config) (a : Authority) (now : Stamp) (r : LockRow) → comes now (suspicion_at k a) r ≡ (is_overdue k now r && may_ack a r.client)
suspicion_come k a now r = by (may_ack a r.client) ∙ ap (λ b. b && may_ack a r.client) (overdue r.demand)
  where
    since : (o : Option Stamp) → is_due (overdue_since k o) now ≡ is_overdue_since k now o
    since None = refl
    since (Some s) = refl

    overdue : (o : Option RowDemand) → is_due (overdue_demand k o) now ≡ is_overdue_demand k now o
    overdue None = refl
    overdue (Some d) = since d.since

    with_true : (c : Bool) → c ≡ (c && true)
    with_true true = refl
    with_true false = refl

    with_false : (c : Bool) → false ≡ (c && false)
    with_false true = refl
    with_false false = refl

    by : (b : Bool) → is_due (cond b (overdue_demand k r.demand) None) now ≡ (is_due (overdue_demand k r.demand) now && b)
    by true = with_true (is_due (overdue_demand k r.demand) now)
    by false = with_false (is_due (overdue_demand k r.demand) now)

suspicions_come : (k : Config) (a : Authority) (l : Locks) (now : Stamp) →
    list_any (may_ack a) (unanswered l now k) ≡ list_any (has_come now) (suspicions_at k a l)
unfolding unanswered
suspicions_come k a l now =
    let late = filter (is_overdue k now) l.rows in
    any_over (may_ack a) client (rising (map client_of_row late))
    ∙ any_rising (λ n. may_ack a (client n)) (map client_of_row late)
    ∙ any_over (λ n. may_ack a (client n)) client_of_row late
    ∙ any_picked (λ (r : LockRow). may_ack a r.client) (is_overdue k now) l.rows
    ∙ sym (any_same (comes now (suspicion_at k a)) (λ (r : LockRow). is_overdue k now r && may_ack a r.client) l.rows (suspicion_come k a now))
    ∙ sym (any_filtered (suspicion_at k a) now l.rows)

suspecting_by : (t : ServerTurn) (now : Stamp) →
    IsBy said (list_any (has_come now) (suspicions_at t.state.config t.state.authority t.state.locks)) t (suspecting t now)
unfolding suspecting
suspecting_by t now =
    let cs = unanswered t.state.locks now t.state.config in
    subst (λ b. IsBy said b t (suspect_each now cs t)) (suspicions_come t.state.config t.state.authority t.state.locks now)
    (subst (IsBy said (list_any (may_ack t.state.authority) cs) t) (suspects_fold now cs t)
    (steps_by said (suspect_step now) (λ (c : ClientId) (u : ServerTurn). may_ack u.state.authority c) (suspect_by now) cs t))

-- Thefts.

none_over : (wait : ℕ) (now : Stamp) (xs : List Suspect) → list_any (is_over wait now) xs ≡ false →
    (filter (is_over wait now) xs ≡ []) × (filter (λ s. not (is_over wait now s)) xs ≡ xs)
none_over wait now [] e = (refl, refl)
none_over wait now (x ∷ xs) e = by (is_over wait now x) e (none_over wait now xs)
  where
    by : (b : Bool) → (b || list_any (is_over wait now) xs) ≡ false →
        (list_any (is_over wait now) xs ≡ false → (filter (is_over wait now) xs ≡ []) × (filter (λ s. not (is_over wait now s)) xs ≡ xs)) →
        (cond b (x ∷ filter (is_over wait now) xs) (filter (is_over wait now) xs) ≡ []) ×
        (cond (not b) (x ∷ filter (λ s. not (is_over wait now s)) xs) (filter (λ s. not (is_over wait now s)) xs) ≡ x ∷ xs)
    by true e h = cc
    by false e h = let r = h e in (r.0, ap (λ ys. x ∷ ys) r.1)

fewer : (wait : ℕ) (now : Stamp) (xs : List Suspect) → length (filter (λ s. not (is_over wait now s)) xs) ≤ length xs
fewer wait now [] = omega arith
fewer wait now (x ∷ xs) = by (is_over wait now x) (fewer wait now xs)
  where
    by : (b : Bool) → length (filter (λ s. not (is_over wait now s)) xs) ≤ length xs →
        length (cond (not b) (x ∷ filter (λ s. not (is_over wait now s)) xs) (filter (λ s. not (is_over wait now s)) xs)) ≤ suc (length xs)
    by true h = omega (arith, h)
    by false h = omega (arith, h)

some_over : (wait : ℕ) (now : Stamp) (xs : List Suspect) → list_any (is_over wait now) xs ≡ true →
    length (filter (λ s. not (is_over wait now s)) xs) < length xs
some_over wait now [] e = cc
some_over wait now (x ∷ xs) e = by (is_over wait now x) e (fewer wait now xs) (some_over wait now xs)
  where
    by : (b : Bool) → (b || list_any (is_over wait now) xs) ≡ true → length (filter (λ s. not (is_over wait now s)) xs) ≤ length xs →
        (list_any (is_over wait now) xs ≡ true → length (filter (λ s. not (is_over wait now s)) xs) < length xs) →
        length (cond (not b) (x ∷ filter (λ s. not (is_over wait now s)) xs) (filter (λ s. not (is_over wait now s)) xs)) < suc (length xs)
    by true e l h = omega (arith, l)
    by false e l h = let r = h e in omega (arith, r)

-- a theft leaves the timers as they are
steal_timers : (t : ServerTurn) (c : ClientId) (o : Option Session) → (steal_at t c o).state.authority ≡ t.state.authority
unfolding steal_at steal_from
steal_timers t c None = refl
steal_timers t c (Some s) = refl

steals_timers : (cs : List ClientId) (t : ServerTurn) → (steal_each cs t).state.authority ≡ t.state.authority
unfolding steal_each steal
steals_timers [] t = refl
steals_timers (c ∷ cs) t = steals_timers cs (steal t c) ∙ steal_timers t c (session_of t.state.sessions c)

nothing_stolen : (t : ServerTurn) → steal_each [] (with_authority t.state.authority t) ≡ t
unfolding steal_each
nothing_stolen t = refl

no_theft : (t : ServerTurn) (now : Stamp) → list_any (is_over t.state.authority.wait now) t.state.authority.suspects ≡ false → thefts t now ≡ t
unfolding thefts over still_running
no_theft t now e =
    let a = t.state.authority in
    let n = none_over a.wait now a.suspects e in
    ap (λ (xs : List Suspect). steal_each (map client_of_suspect xs)
    (with_authority (record a { suspects = filter (λ s. not (is_over a.wait now s)) a.suspects }) t)) n.0
    ∙ ap (λ (xs : List Suspect). steal_each [] (with_authority (record a { suspects = xs }) t)) n.1
    ∙ nothing_stolen t

thefts_timers : (t : ServerTurn) (now : Stamp) → (thefts t now).state.authority ≡ still_running t.state.authority now
unfolding thefts
thefts_timers t now = steals_timers (over t.state.authority now) (with_authority (still_running t.state.authority now) t)

-- a theft leaves fewer timers
theft_changes : (t : ServerTurn) (now : Stamp) → list_any (is_over t.state.authority.wait now) t.state.authority.suspects ≡ true → thefts t now ≢ t
unfolding still_running
theft_changes t now e f =
    let a = t.state.authority in
    let l = some_over a.wait now a.suspects e in
    let same = ap (λ (x : Authority). length x.suspects) (sym (thefts_timers t now) ∙ ap (λ (u : ServerTurn). u.state.authority) f) in
    omega (arith, l, same)

-- The step.

-- what is due after the thefts
abbrev pub suspicions_due : ServerTurn → Stamp → Bool
suspicions_due t now = list_any (has_come now) (suspicions_at t.state.config t.state.authority t.state.locks)

abbrev pub grants_due : ServerTurn → Stamp → Bool
grants_due t now = list_any (has_come now) (grants_at t.state.grace t.state.locks)

abbrev pub demands_are_due : ServerTurn → Stamp → Bool
demands_are_due t now = list_any (has_come now) (demands_at t.state.config t.state.locks (suspects_of t.state.authority))

abbrev pub is_later_due : ServerTurn → Stamp → Bool
is_later_due t now = suspicions_due t now || (grants_due t now || demands_are_due t now)

-- what comes after the suspicions, and after the thefts
abbrev pub last : ServerTurn → Stamp → ServerTurn
last t now = demanding (granting t now) now Tick

abbrev pub later : ServerTurn → Stamp → ServerTurn
later t now = last (suspecting t now) now

last_by : (t : ServerTurn) (now : Stamp) → IsBy said (grants_due t now || demands_are_due t now) t (last t now)
last_by t now =
    let u = granting t now in
    let h = demanding_by u now in
    and_then said (grants_due t now) (demands_are_due t now) t u (last t now) (granting_by t now)
    (λ e. subst (λ (x : ServerTurn). IsBy said (demands_are_due x now) x (last t now)) e h) (never_less said (demands_are_due u now) u (last t now) h)

later_by : (t : ServerTurn) (now : Stamp) → IsBy said (is_later_due t now) t (later t now)
later_by t now =
    let u = suspecting t now in
    let h = last_by u now in
    and_then said (suspicions_due t now) (grants_due t now || demands_are_due t now) t u (later t now) (suspecting_by t now)
    (λ e. subst (λ (x : ServerTurn). IsBy said (grants_due x now || demands_are_due x now) x (later t now)) e h)
    (never_less said (grants_due u now || demands_are_due u now) u (later t now) h)

step_is : (s : ServerState) (now : Stamp) → server_step s now Tick ≡ later (thefts (turn s []) now) now
unfolding server_step take_input suspecting_on
step_is s now = refl

-- a suspect's timer is over
abbrev pub is_theft_due : ServerState → Stamp → Bool
is_theft_due s now = list_any (is_over s.authority.wait now) s.authority.suspects

pub moments_come : (s : ServerState) (now : Stamp) → is_due (server_due s) now ≡ (is_theft_due s now || is_later_due (turn s []) now)
moments_come s now =
    let a = thefts_at s.authority in
    let b = suspicions_at s.config s.authority s.locks in
    let c = grants_at s.grace s.locks in
    let d = demands_at s.config s.locks (suspects_of s.authority) in
    earliest_due (moments s) now
    ∙ list_any-append (has_come now) a (b ++ (c ++ d))
    ∙ ap (λ x. x || list_any (has_come now) (b ++ (c ++ d))) (any_mapped (theft_of s.authority.wait) now s.authority.suspects)
    ∙ ap (λ x. is_theft_due s now || x)
    (list_any-append (has_come now) b (c ++ d) ∙ ap (λ x. list_any (has_come now) b || x) (list_any-append (has_come now) c d))

neither : (a b : Bool) → (a || b) ≡ false → (a ≡ false) × (b ≡ false)
neither true b e = cc
neither false b e = (refl, e)

tick_before : (s : ServerState) (now : Stamp) → is_due (server_due s) now ≡ false → server_step s now Tick ≡ turn s []
tick_before s now e =
    let n = neither (is_theft_due s now) (is_later_due (turn s []) now) (sym (moments_come s now) ∙ e) in
    step_is s now ∙ ap (λ t. later t now) (no_theft (turn s []) now n.0) ∙ (later_by (turn s []) now).same n.1

-- with thefts there are fewer timers, and without anything else that is due nothing more changes
theft_ticks : (s : ServerState) (now : Stamp) → is_theft_due s now ≡ true → server_step s now Tick ≢ turn s []
theft_ticks s now g f =
    let t = thefts (turn s []) now in
    let same : later t now ≡ turn s [] = sym (step_is s now) ∙ f in
    let none : said (later t now) ≡ 0 = ap said same in
    let few : said (later t now) ≤ said t = omega (arith, none) in
    theft_changes (turn s []) now g (sym (unchanged (is_later_due t now) t (later t now) (later_by t now) few) ∙ same)

other_ticks : (s : ServerState) (now : Stamp) → is_theft_due s now ≡ false → is_later_due (turn s []) now ≡ true → server_step s now Tick ≢ turn s []
other_ticks s now g e f =
    let more = (later_by (turn s []) now).more e in
    let same = ap said (sym (ap (λ t. later t now) (no_theft (turn s []) now g)) ∙ sym (step_is s now) ∙ f) in
    omega (arith, more, same)

either_one : (a b : Bool) → (a || b) ≡ true → (a ≡ true) ⊎ ((a ≡ false) × (b ≡ true))
either_one true b e = inl refl
either_one false b e = inr (refl, e)

tick_after : (s : ServerState) (now : Stamp) → is_due (server_due s) now ≡ true → server_step s now Tick ≢ turn s []
tick_after s now e = by (either_one (is_theft_due s now) (is_later_due (turn s []) now) (sym (moments_come s now) ∙ e))
  where
    by : (is_theft_due s now ≡ true) ⊎ ((is_theft_due s now ≡ false) × (is_later_due (turn s []) now ≡ true)) → server_step s now Tick ≢ turn s []
    by (inl g) = theft_ticks s now g
    by (inr g) = other_ticks s now g.0 g.1

pub tick_law : TicksAreDue
tick_law s now = record { before = tick_before s now; after = tick_after s now }
