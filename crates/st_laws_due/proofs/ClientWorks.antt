-- The other passes of a tick at a client: each does something exactly if something is due.
use Rattle.st_lemmas.proofs.Words
use Words.{◌≡◌, ℕ, suc, ◌<◌, Bool, true, false, ◌&&◌, ◌||◌, not, List, [], ◌∷◌, refl, sym, ap, ◌∙◌, subst, arith, cond, filter, find, length, list_any, Option, Some, None, is_some, eq-eqb, ◌==◌}
use Words.{Body, DemandedFile, DirtyPage, GrantNo, HeldLock, MappedBlock, Mode, PageNo, Release, Request, Stamp}
use Words.bodies
use Words.commands
use Words.outputs
use Words.ClientLease.{is_renewing, phase_of}
use Words.ClientLocks as locks
use Words.ClientPages as pages
use Words.ClientPasses.{Asking, ask, ask_again, ask_by, ask_for, ask_for_or, ask_new, ask_next, ask_release, cut_store, file, file_cut, files_demanded, first_asking, greet, greeting, greeting_by, hello, is_old, is_writable}
use Words.ClientPasses.{keep_alive, may_reduce, must_greet, operations, passes, reassert, reduce, reduce_by, reduce_each, reduce_given, reduce_idle, reduce_to, reductions, repeat, requests, requests_at}
use Words.ClientPasses.{requests_by, requests_under, submit_command, submit_write, write_due, write_each, write_out, write_out_at, write_page, writes, writes_by}
use Words.ClientState.{ClientSession, Turn, header_of, is_serving, send, with_cache, with_operations, with_store}
use Words.Tests.{filtered_no_longer}
use Rattle.st_client_due.specs.ClientDue.{has_release, is_reduced}
use Rattle.st_laws_due.proofs.Advances.{always, and_does, composed, either_does, if_does, never, pass_does}
use Rattle.st_laws_due.proofs.Passes.{fold_steps, one_longer}
use Rattle.st_laws_due.proofs.ClientOperations.{Does, Speaks, demanded, demands, operations_does, operations_due, said}

-- Reductions: each takes a demand away.

fewer_found : {A : Type 0} (p q : A → Bool) (y : A) (xs : List A) → find p xs ≡ Some y → q y ≡ true → length (filter (λ x. not (q x)) xs) < length xs
fewer_found p q y [] e f = cc
fewer_found {A} p q y (x ∷ xs) e f = by (p x) (q x) refl e (fewer_found p q y xs)
  where
    same : ◌≡◌ {A = Option A} (Some x) (Some y) → x ≡ y
    same e = cc

    by : (a b : Bool) → q x ≡ b → cond a (Some x) (find p xs) ≡ Some y → (find p xs ≡ Some y → q y ≡ true → length (filter (λ z. not (q z)) xs) < length xs) →
        length (cond (not b) (x ∷ filter (λ z. not (q z)) xs) (filter (λ z. not (q z)) xs)) < suc (length xs)
    by a true r e h = let l = filtered_no_longer (λ z. not (q z)) xs in omega (arith, l)
    by true false r e h = let z = sym r ∙ ap q (same e) ∙ f in cc
    by false false r e h = let l = h e f in omega (arith, l)

same_file : (n : ℕ) → (n == n) ≡ true
same_file n = eq-eqb n n refl

reduced_fewer : (c : locks.LockCache) (ino : ℕ) → is_some (locks.reduce c ino).given ≡ true → length (locks.reduce c ino).locks.demanded < length c.demanded
unfolding locks.reduce locks.reduce_at locks.reduce_lock locks.lower
reduced_fewer c ino = by (locks.demand_of c ino) refl
  where
    lowered : (d : DemandedFile) (o : Option HeldLock) → locks.demand_of c ino ≡ Some d →
        is_some (locks.reduce_lock c d o).given ≡ true → length (locks.reduce_lock c d o).locks.demanded < length c.demanded
    lowered d None q e = cc
    lowered d (Some l) q e = fewer_found (locks.is_demand_on ino) (locks.is_demand_on d.ino) d c.demanded q (same_file d.ino)

    by : (o : Option DemandedFile) → locks.demand_of c ino ≡ o → is_some (locks.reduce_at c o).given ≡ true →
        length (locks.reduce_at c o).locks.demanded < length c.demanded
    by None q e = cc
    by (Some d) q e = lowered d (locks.lock_of c d.ino) q e

given_does : (t : Turn) (s : ClientSession) (ino : ℕ) (r : locks.LockCache) (given : Option (GrantNo × Mode)) → t.here.session ≡ Some s →
    (is_some given ≡ true → length r.demanded < length s.locks.demanded) → Does (is_some given) t (reduce_given t (with_cache r s) ino given)
unfolding reduce_given reduce_to
given_does t s ino r None e h = never said demanded t
given_does t s ino r (Some given) e h =
    always said demanded t (reduce_to t (with_cache r s) ino given.0 given.1)
    (let l = h refl in
    let d : demands t.here.session ≡ length s.locks.demanded = ap demands e in
    omega (arith, l, d))

-- a file's lock is reduced, with a session
abbrev pub reduced_in : Turn → ℕ → Option ClientSession → Bool
reduced_in t ino None = false
reduced_in t ino (Some s) = is_reduced t s ino

abbrev pub reduce_step : ℕ → Turn → Turn
reduce_step ino t = reduce t ino t.here.session

abbrev pub reduced_now : ℕ → Turn → Bool
reduced_now ino t = reduced_in t ino t.here.session

reduce_does : (ino : ℕ) (t : Turn) → Does (reduced_now ino t) t (reduce_step ino t)
unfolding reduce reduce_idle reduce_by
reduce_does ino t = by t.here.session refl
  where
    by : (o : Option ClientSession) → t.here.session ≡ o → Does (reduced_in t ino o) t (reduce t ino o)
    by None e = never said demanded t
    by (Some s) e =
        let r = locks.reduce s.locks ino in
        and_does said demanded (may_reduce t s ino) (is_some r.given) t (reduce_given t (with_cache r.locks s) ino r.given)
        (given_does t s ino r.locks r.given e (reduced_fewer s.locks ino))

reductions_fold : (inos : List ℕ) (t : Turn) → fold_steps reduce_step inos t ≡ reduce_each inos t
unfolding reduce_each
reductions_fold [] t = refl
reductions_fold (ino ∷ inos) t = reductions_fold inos (reduce_step ino t)

abbrev pub reductions_due : Turn → Bool
reductions_due t = list_any (λ ino. reduced_now ino t) (files_demanded t.here.session)

reductions_does : (t : Turn) → Does (reductions_due t) t (reductions t)
unfolding reductions
reductions_does t =
    subst (Does (reductions_due t) t) (reductions_fold (files_demanded t.here.session) t)
    (pass_does said demanded reduce_step reduced_now reduce_does (files_demanded t.here.session) t)

-- Writes: each is a command.

submit_speaks : (t : Turn) (d : DirtyPage) (m : MappedBlock) → Speaks t (submit_write t d m)
unfolding submit_write submit_command
submit_speaks t d m =
    let l = one_longer t.out (outputs.Submit t.next_command m.at (commands.Write m.at (record { file = file t d.ino; page = d.page; birth = m.birth }) d.bytes))
    in
    omega (arith, l)

out_does : (t : Turn) (d : DirtyPage) (m : Option MappedBlock) → Does (is_some m) t (write_out_at t d m)
unfolding write_out_at
out_does t d None = never said demanded t
out_does t d (Some m) = always said demanded t (submit_write t d m) (submit_speaks t d m)

-- a dirty page is written, if there is one
abbrev pub page_written : Turn → ClientSession → Stamp → Option DirtyPage → Bool
page_written t s now None = false
page_written t s now (Some d) = is_writable t s now true d && pages.is_mapped t.here.store.extents d.ino d.page

abbrev pub write_step : ClientSession → Stamp → ℕ × PageNo → Turn → Turn
write_step s now x t = write_page t s now true (pages.dirty_of t.here.store.pages x.0 x.1)

abbrev pub place_written : ClientSession → Stamp → ℕ × PageNo → Turn → Bool
place_written s now x t = page_written t s now (pages.dirty_of t.here.store.pages x.0 x.1)

write_does : (s : ClientSession) (now : Stamp) (x : ℕ × PageNo) (t : Turn) → Does (place_written s now x t) t (write_step s now x t)
unfolding write_page write_due write_out
write_does s now x t = by (pages.dirty_of t.here.store.pages x.0 x.1)
  where
    by : (o : Option DirtyPage) → Does (page_written t s now o) t (write_page t s now true o)
    by None = never said demanded t
    by (Some d) =
        and_does said demanded (is_writable t s now true d) (pages.is_mapped t.here.store.extents d.ino d.page) t (write_out t d)
        (out_does t d (pages.mapping_of t.here.store.extents d.ino d.page))

writes_fold : (s : ClientSession) (now : Stamp) (xs : List (ℕ × PageNo)) (t : Turn) → fold_steps (write_step s now) xs t ≡ write_each s now true xs t
unfolding write_each
writes_fold s now [] t = refl
writes_fold s now (x ∷ xs) t = writes_fold s now xs (write_step s now x t)

-- with a session
abbrev pub writes_in : Turn → Stamp → Option ClientSession → Bool
writes_in t now None = false
writes_in t now (Some s) = list_any (λ x. place_written s now x t) (pages.dirty_places t.here.store.pages)

abbrev pub writes_due : Stamp → Turn → Bool
writes_due now t = writes_in t now t.here.session

writes_does : (now : Stamp) (t : Turn) → Does (writes_due now t) t (writes now true t)
unfolding writes writes_by
writes_does now t = by t.here.session
  where
    by : (o : Option ClientSession) → Does (writes_in t now o) t (writes_by t now true o)
    by None = never said demanded t
    by (Some s) =
        let xs = pages.dirty_places t.here.store.pages in
        subst (Does (writes_in t now (Some s)) t) (writes_fold s now xs t)
        (pass_does said demanded (write_step s now) (place_written s now) (write_does s now) xs t)

-- Greeting.

abbrev pub greeting_in : Turn → Stamp → Option ClientSession → Bool
greeting_in t now None = must_greet t now true
greeting_in t now (Some s) = false

abbrev pub greeting_due : Stamp → Turn → Bool
greeting_due now t = greeting_in t now t.here.session

hello_speaks : (t : Turn) (now : Stamp) → Speaks t (hello t now)
unfolding hello send
hello_speaks t now = let l = one_longer t.out (outputs.Send (record { header = header_of t 0 0 now.0; body = bodies.Hello })) in omega (arith, l)

greeting_does : (now : Stamp) (t : Turn) → Does (greeting_due now t) t (greeting now true t)
unfolding greeting greeting_by greet
greeting_does now t = by t.here.session
  where
    by : (o : Option ClientSession) → Does (greeting_in t now o) t (greeting_by t now true o)
    by None = if_does said demanded (must_greet t now true) t (hello t now) (hello_speaks t now)
    by (Some s) = never said demanded t

-- Requests.

ask_speaks : (t u : Turn) (s : ClientSession) (now : Stamp) (body : Body) (cutting : Option ℕ) → u.out ≡ t.out → demanded t ≡ length s.locks.demanded →
    Speaks t (ask u s now body cutting)
unfolding ask send
ask_speaks t u s now body cutting e d =
    let l = one_longer u.out (outputs.Send (record { header = header_of u s.epoch.0 s.requests.next now.0; body = body })) in
    let o = ap length e in
    omega (arith, l, o, d)

again_speaks : (t : Turn) (s : ClientSession) (now : Stamp) (q : Request) → demanded t ≡ length s.locks.demanded → Speaks t (ask_again t s now q)
unfolding ask_again send
again_speaks t s now q d =
    let l = one_longer t.out (outputs.Send (record { header = header_of t s.epoch.0 q.number now.0; body = q.body })) in
    omega (arith, l, d)

-- a keep-alive is due
abbrev pub is_kept_alive : Turn → ClientSession → Stamp → Bool
is_kept_alive t s now = is_renewing (phase_of t.config s.lease now)

alive_does : (t : Turn) (s : ClientSession) (now : Stamp) → demanded t ≡ length s.locks.demanded → Does (is_kept_alive t s now) t (keep_alive t s now)
unfolding keep_alive
alive_does t s now d = if_does said demanded (is_kept_alive t s now) t (ask t s now bodies.KeepAlive None) (ask_speaks t t s now bodies.KeepAlive None refl d)

for_does : (t : Turn) (s : ClientSession) (now : Stamp) (o : Option Asking) → demanded t ≡ length s.locks.demanded →
    Does (is_some o || is_kept_alive t s now) t (ask_for_or t s now o)
unfolding ask_for_or ask_for
for_does t s now None d = alive_does t s now d
for_does t s now (Some a) d =
    always said demanded t (ask_for t s now a)
    (ask_speaks t (with_store (cut_store a.wanted.cut t.here.store) (with_operations a.operations t)) s now a.wanted.body (file_cut a.wanted.cut) refl d)

-- what an operation asks, or a keep-alive
abbrev pub next_due : Turn → ClientSession → Stamp → Bool
next_due t s now = cond (is_serving t.config s now) (is_some (first_asking t s now t.operations) || is_kept_alive t s now) (is_kept_alive t s now)

next_does : (t : Turn) (s : ClientSession) (now : Stamp) → demanded t ≡ length s.locks.demanded → Does (next_due t s now) t (ask_next t s now)
unfolding ask_next
next_does t s now d =
    either_does said demanded (is_serving t.config s now) (is_some (first_asking t s now t.operations) || is_kept_alive t s now) (is_kept_alive t s now) t
    (ask_for_or t s now (first_asking t s now t.operations)) (keep_alive t s now) (for_does t s now (first_asking t s now t.operations) d)
    (alive_does t s now d)

release_does : (t : Turn) (s : ClientSession) (now : Stamp) (rs : List Release) → demanded t ≡ length s.locks.demanded →
    Does (has_release rs || next_due t s now) t (ask_by t s now rs)
unfolding ask_by ask_release
release_does t s now [] d = next_does t s now d
release_does t s now (r ∷ rs) d =
    always said demanded t (ask_release t s now r rs) (ask_speaks t t (record s { releases = rs }) now (bodies.Released r.ino r.g r.to) None refl d)

new_does : (t : Turn) (s : ClientSession) (now : Stamp) → demanded t ≡ length s.locks.demanded →
    Does (s.due || (has_release s.releases || next_due t s now)) t (ask_new t s now)
unfolding ask_new reassert
new_does t s now d = by s.due
  where
    by : (b : Bool) → Does (b || (has_release s.releases || next_due t s now)) t (cond b (reassert t s now) (ask_by t s now s.releases))
    by true = always said demanded t (reassert t s now) (ask_speaks t t s now (bodies.Reassert (locks.all_locks s.locks)) None refl d)
    by false = release_does t s now s.releases d

-- a request is due, with one outstanding or none
abbrev pub request_due : Turn → ClientSession → Stamp → Option Request → Bool
request_due t s now None = s.due || (has_release s.releases || next_due t s now)
request_due t s now (Some q) = is_old t.config now true q

request_does : (t : Turn) (s : ClientSession) (now : Stamp) (o : Option Request) → demanded t ≡ length s.locks.demanded →
    Does (request_due t s now o) t (requests_at t s now true o)
unfolding requests_at repeat
request_does t s now None d = new_does t s now d
request_does t s now (Some q) d = if_does said demanded (is_old t.config now true q) t (ask_again t s now q) (again_speaks t s now q d)

-- with a session
abbrev pub requests_in : Turn → Stamp → Option ClientSession → Bool
requests_in t now None = false
requests_in t now (Some s) = not s.lease.condemned && request_due t s now s.requests.asked

abbrev pub requests_due : Stamp → Turn → Bool
requests_due now t = requests_in t now t.here.session

requests_does : (now : Stamp) (t : Turn) → Does (requests_due now t) t (requests now true t)
unfolding requests requests_by requests_under
requests_does now t = by t.here.session refl
  where
    under : (b c : Bool) (u : Turn) → Does c t u → Does (not b && c) t (cond b t u)
    under true c u h = never said demanded t
    under false c u h = h

    by : (o : Option ClientSession) → t.here.session ≡ o → Does (requests_in t now o) t (requests_by t now true o)
    by None e = never said demanded t
    by (Some s) e =
        under s.lease.condemned (request_due t s now s.requests.asked) (requests_at t s now true s.requests.asked)
        (request_does t s now s.requests.asked (ap demands e))

-- All passes.

abbrev pub passes_due : Stamp → Turn → Bool
passes_due now t = operations_due now t || (reductions_due t || (writes_due now t || (greeting_due now t || requests_due now t)))

abbrev pub last_two : Stamp → Turn → Turn
last_two now t = requests now true (greeting now true t)

abbrev pub last_three : Stamp → Turn → Turn
last_three now t = last_two now (writes now true t)

abbrev pub last_four : Stamp → Turn → Turn
last_four now t = last_three now (reductions t)

pub passes_does : (now : Stamp) (t : Turn) → Does (passes_due now t) t (passes now true t)
unfolding passes
passes_does now =
    composed said demanded (operations now) (last_four now) (operations_due now)
    (λ t. reductions_due t || (writes_due now t || (greeting_due now t || requests_due now t))) (operations_does now)
    (composed said demanded reductions (last_three now) reductions_due (λ t. writes_due now t || (greeting_due now t || requests_due now t)) reductions_does
    (composed said demanded (writes now true) (last_two now) (writes_due now) (λ t. greeting_due now t || requests_due now t) (writes_does now)
    (composed said demanded (greeting now true) (requests now true) (greeting_due now) (requests_due now) (greeting_does now) (requests_does now))))
