-- The ends of commands and the passes of a client of the third form leave no more pending operations and leaves.
use Rattle.st_lemmas.proofs.Words
use Words.{◌≡◌, ◌≤◌, ◌<◌, ◌+◌, ◌⊎◌, ℕ, ◌&&◌, Bool, true, false, not, List, [], ◌∷◌, ◌++◌, length, filter, find, map, Option, Some, None, refl, sym, ap, ◌∙◌, subst, inl, inr, arith, if◌then◌else◌, length-map, eqb-true}
use Words.{Ask, Body, DemandedFile, DirtyPage, FileId, HeldLock, IoKind, KnownExtent, MappedBlock, Note, Operation, PageCommand, PageNo, Release, Request, Stamp, Tag}
use Words.answers
use Words.asks
use Words.bodies
use Words.ends
use Words.io
use Words.modes
use Words.notes
use Words.Client as cl
use Words.ClientLease as lease
use Words.ClientLocks as locks
use Words.ClientPages as pages
use Words.ClientPasses as passes
use Words.ClientState as cs
use Words.ClientState.{ClientSession, Turn}
use Words.FlatLog.{overlay}
use Words.Lengths.{map_last}
use Words.Lists.{Has, Rises}
use Words.Tables.{found_at, has_append, has_map_in}
use Rattle.st_lemmas.proofs.Keys.{rising_rises}
use Rattle.st_lemmas.proofs.Tests.{filtered_no_longer}
use Rattle.st_third.specs.declared.beside.Leave.{Leave}
use Rattle.st_third.specs.Client as client
use Rattle.st_third.specs.GiveBack as giving
use Rattle.st_third.specs.Leave as leaving
use Rattle.st_third.specs.Limits.{is_dirty_full}
use Rattle.st_third.specs.Room as room
use Rattle.st_third.specs.State as state
use Rattle.st_third.specs.State.{ThirdTurn, plainly, session}
use Rattle.st_third.specs.UsedOnce as used
use Rattle.st_laws_limits.proofs.RisingLists.{no_longer}
use Rattle.st_laws_limits.proofs.Pending.{Fewer, Less, both, by_rule, either, gives_all, less_answers, less_if, same}

-- Ends of commands

answered : (picked : Operation → Bool) (a : Words.AppAnswer) (t : ThirdTurn) → Fewer t (state.answer_with_leaves picked a t)
unfolding state.answer_with_leaves plainly
answered picked a t =
    record {
      operations = filtered_no_longer (λ o. not (picked o)) t.plain.operations;
      leaves = filtered_no_longer (λ l. not (state.is_leave_of (state.here t) l)) t.leaves;
    }

marked : (t : Turn) (c : PageCommand) (v : ℕ) → Less t (cl.mark_failed t c v)
unfolding cl.mark_failed
marked t c v = less_if (cl.is_present t c v) t _ _ (omega arith) (omega arith)

failed : (t : ThirdTurn) (c : PageCommand) (k : IoKind) → Fewer t (client.failed_as t c k)
unfolding client.failed_as cl.failed_as
failed t c io.Read = by_rule t (client.read_failed c) (less_answers (cl.waits_for_read t.plain c) (answers.DiskFault c.number) t.plain)
failed t c (io.Write v) = both t _ _ (by_rule t (client.mark_failed c v) (marked t.plain c v)) (answered (cl.waits_for_write t.plain c) (answers.DiskFault c.number) _)

finished : (t : ThirdTurn) (c : PageCommand) (block : Option (Tag × List ℕ)) (e : Words.Ended) → Fewer t (client.finish_as t c block e)
unfolding client.finish_as cl.finish_as cl.filled_by cl.hardened plainly
finished t c block ends.Unknown = same t
finished t c None ends.Filled = same t
finished t c (Some b) ends.Filled = record { operations = omega arith; leaves = omega arith }
finished t c block ends.Hard = record { operations = omega arith; leaves = omega arith }
finished t c block ends.Redirty = same t
finished t c block ends.Failed = failed t c c.kind

pub finishes : (number : ℕ) (result : Option (Option (Tag × List ℕ))) (t : ThirdTurn) → Fewer t (client.finish number result t)
unfolding client.finish client.finish_at client.finish_by client.done_by client.finish_command
finishes number result t = go (pages.command_of t.plain.here.store.commands number) result
  where
    command : (c : PageCommand) (ok : Bool) (block : Option (Tag × List ℕ)) → Fewer t (client.finish_command t c ok block)
    command c ok block =
        let e : pages.CommandEnd = pages.end_command t.plain.here.store.commands c.number ok (pages.version_of t.plain.here.store.pages c.ino c.page) in
        both t _ _ (by_rule t (cl.with_commands e.commands) (omega arith)) (finished _ c block e.ended)

    go : (c : Option PageCommand) (r : Option (Option (Tag × List ℕ))) → Fewer t (client.finish_at t c r)
    go None r = same t
    go (Some c) None = command c false None
    go (Some c) (Some block) = either (cl.is_result_of c.kind block) t _ _ (command c true block) (same t)

-- Operations: one stays pending, or is answered. The leaves stay.

data Operated (t : ThirdTurn) (o : Operation) (u : ThirdTurn) : Type 0 where
  IsAnswered : u.plain.operations ≡ t.plain.operations → u.leaves ≡ t.leaves → Operated t o u
  IsKept : u.plain.operations ≡ t.plain.operations ++ o ∷ [] → u.leaves ≡ t.leaves → Operated t o u

operated_if : (b : Bool) (t : ThirdTurn) (o : Operation) (u v : ThirdTurn) → Operated t o u → Operated t o v → Operated t o (if b then u else v)
operated_if true t o u v f g = f
operated_if false t o u v f g = g

module _ (t : ThirdTurn) (o : Operation) where
  keeps : Operated t o (plainly (cs.keep o) t)
  unfolding plainly
  keeps = IsKept refl refl

  fetches : (f : FileId) (p : PageNo) → Operated t o (plainly (room.fetched o f p) t)
  unfolding plainly passes.fetch passes.fetch_at passes.fetch_mapped passes.submit_read passes.submit_command
  fetches f p = go (pages.mapping_of t.plain.here.store.extents f.ino p)
    where
      go : (m : Option MappedBlock) → Operated t o (plainly (λ u. cs.keep o (passes.fetch_at u f p m)) t)
      go None = IsKept refl refl
      go (Some m) = at (pages.is_being_read t.plain.here.store.commands f.ino p)
        where
          at : (b : Bool) → Operated t o (record t { plain = cs.keep o (if b then t.plain else passes.submit_read t.plain f.ino p m) })
          at true = IsKept refl refl
          at false = IsKept refl refl

  changes : (f : FileId) (p : PageNo) (bytes : List ℕ) (n : Note) → Operated t o (room.change_page t o f p bytes n)
  unfolding room.change_page room.without_room plainly passes.change
  changes f p bytes n =
      operated_if (is_dirty_full t.limits.dirty t.plain.here.store.pages f.ino p) t o _ _
      (operated_if (room.is_hopeless t.plain.here.store) t o _ _ (IsAnswered refl refl) (IsKept refl refl)) (IsAnswered refl refl)

  reads : (s : ClientSession) (f : FileId) (p : PageNo) → Operated t o (plainly (room.read s o f p) t)
  unfolding plainly passes.read passes.read_at passes.read_cached passes.read_uncached passes.read_known
  reads s f p = go (passes.holds s modes.S f) (pages.cached t.plain.here.store.pages f.ino p)
    where
      known : (e : KnownExtent) (m : Option MappedBlock) → Operated t o (record t { plain = passes.read_known t.plain o f p e m })
      known e None = IsAnswered refl refl
      known e (Some m) = fetches f p

      uncached : (e : Option KnownExtent) → Operated t o (record t { plain = passes.read_uncached t.plain o f p e })
      uncached None = IsKept refl refl
      uncached (Some e) = known e e.mapping

      go : (b : Bool) (c : Option (List ℕ)) → Operated t o (record t { plain = if b then passes.read_at t.plain o f p c else cs.keep o t.plain })
      go true None = uncached (pages.known_of t.plain.here.store.extents f.ino p)
      go true (Some bytes) = IsAnswered refl refl
      go false c = IsKept refl refl

  serves : (s : ClientSession) (ask : Ask) → Operated t o (room.serve_open t s o ask)
  unfolding room.serve_open room.write room.patch room.patch_at
  serves s (asks.Write f p bytes) = operated_if (passes.may_write t.plain s f p) t o _ _ (changes f p bytes (notes.Accepted f p bytes)) keeps
  serves s (asks.Patch f p at bytes) = operated_if (passes.may_write t.plain s f p) t o _ _ (go (pages.cached t.plain.here.store.pages f.ino p)) keeps
    where
      go : (c : Option (List ℕ)) → Operated t o (room.patch_at t o f p at bytes c)
      go None = fetches f p
      go (Some old) = changes f p (overlay at bytes old) (notes.Patched f p at bytes)
  serves s (asks.Read f p) = reads s f p
  serves s ask = keeps

  operates : (os : List Operation) (ls : List Leave) (now : Stamp) → Operated t o (client.operate os ls t now o)
  unfolding client.operate client.operate_on client.operate_by client.operate_under client.serve plainly passes.quiesce passes.sync
  operates os ls now = operated_if (cs.is_of (state.here t) o) t o _ _ (on o.ask) keeps
    where
      under : (s : ClientSession) → Operated t o (client.operate_under os ls t s now o)
      under s =
          operated_if (cs.is_serving t.plain.config s now) t o _ _
          (operated_if (state.is_active ls (state.here t) o && used.is_open os t s o (cs.file_of o.ask)) t o _ _ (serves s o.ask) keeps)
          (go (cs.is_sent o))
        where
          go : (b : Bool) → Operated t o (record t { plain = if b then cs.keep o t.plain else passes.answer o answers.Quiesced t.plain })
          go true = IsKept refl refl
          go false = IsAnswered refl refl

      by : (x : Option ClientSession) → Operated t o (client.operate_by os ls t now o x)
      by None = keeps
      by (Some s) = under s

      synced : (f : FileId) (b : Bool) → Operated t o (record t { plain = if b then passes.answer o answers.Hard t.plain else cs.keep o t.plain })
      synced f true = IsAnswered refl refl
      synced f false = IsKept refl refl

      on : (ask : Ask) → Operated t o (client.operate_on os ls t now o ask)
      on (asks.Sync f) = synced f (pages.is_hard t.plain.here.store f.ino)
      on ask = by (session t)

-- The numbers of operations that stay pending rise, and each is that of one that was pending.
record Served (os : List Operation) (most : ℕ) (ns : List ℕ) (t : ThirdTurn) : Type 0 where
  rises : Rises (map state.op_of t.plain.operations)
  before : (x n : ℕ) → Has x (map state.op_of t.plain.operations) → Has n ns → x < n
  among : (x : ℕ) → Has x (map state.op_of t.plain.operations) → Has x (map state.op_of os)
  leaves : length t.leaves ≤ most

rises_last : (xs : List ℕ) (n : ℕ) → Rises xs → ((x : ℕ) → Has x xs → x < n) → Rises (xs ++ n ∷ [])
rises_last [] n r f = record { first = λ y h. absurd h; rest = tt }
rises_last (x ∷ xs) n r f =
    record {
      first = λ y h. go y (has_append xs (n ∷ []) y h);
      rest = rises_last xs n r.rest (λ y h. f y (inr h));
    }
  where
    go : (y : ℕ) → Has y xs ⊎ Has y (n ∷ []) → x < y
    go y (inl h) = r.first y h
    go y (inr (inl e)) = let l = f x (inl refl) in omega (arith, l, e)
    go y (inr (inr h)) = absurd h

module _ (now : Stamp) (os : List Operation) (ls : List Leave) (most : ℕ) where
  served_same : (n : ℕ) (ns : List ℕ) (t u : ThirdTurn) → u.plain.operations ≡ t.plain.operations → length u.leaves ≤ length t.leaves → Served os most (n ∷ ns) t →
      Served os most ns u
  served_same n ns t u e l p =
      record {
        rises = subst (λ (xs : List Operation). Rises (map state.op_of xs)) (sym e) p.rises;
        before = λ x m h i. p.before x m (subst (λ (xs : List Operation). Has x (map state.op_of xs)) e h) (inr i);
        among = λ x h. p.among x (subst (λ (xs : List Operation). Has x (map state.op_of xs)) e h);
        leaves = let a = p.leaves in omega (arith, l, a);
      }

  served_more : (o : Operation) (ns : List ℕ) (t u : ThirdTurn) → Has o os → ((m : ℕ) → Has m ns → o.op < m) →
      u.plain.operations ≡ t.plain.operations ++ o ∷ [] → length u.leaves ≤ length t.leaves → Served os most (o.op ∷ ns) t → Served os most ns u
  served_more o ns t u there above e l p =
      record {
        rises = subst Rises (sym all) (rises_last (map state.op_of t.plain.operations) o.op p.rises (λ x h. p.before x o.op h (inl refl)));
        before = λ x m h i. under x m (split x h) i;
        among = λ x h. in_all x (split x h);
        leaves = let a = p.leaves in omega (arith, l, a);
      }
    where
      all : map state.op_of u.plain.operations ≡ map state.op_of t.plain.operations ++ o.op ∷ []
      all = ap (map state.op_of) e ∙ map_last state.op_of t.plain.operations o

      split : (x : ℕ) → Has x (map state.op_of u.plain.operations) → Has x (map state.op_of t.plain.operations) ⊎ Has x (o.op ∷ [])
      split x h = has_append (map state.op_of t.plain.operations) (o.op ∷ []) x (subst (Has x) all h)

      under : (x m : ℕ) → Has x (map state.op_of t.plain.operations) ⊎ Has x (o.op ∷ []) → Has m ns → x < m
      under x m (inl h) i = p.before x m h (inr i)
      under x m (inr (inl q)) i = let a = above m i in omega (arith, a, q)
      under x m (inr (inr h)) i = absurd h

      in_all : (x : ℕ) → Has x (map state.op_of t.plain.operations) ⊎ Has x (o.op ∷ []) → Has x (map state.op_of os)
      in_all x (inl h) = p.among x h
      in_all x (inr (inl q)) = subst (λ y. Has y (map state.op_of os)) (sym q) (has_map_in state.op_of os o there)
      in_all x (inr (inr h)) = absurd h

  served_one : (n : ℕ) (ns : List ℕ) (t : ThirdTurn) → Rises (n ∷ ns) → Served os most (n ∷ ns) t →
      Served os most ns (client.operate_either os ls now n t (find (state.is_operation_numbered n) os))
  unfolding client.operate_either leaving.serve_leave_at leaving.serve_leave leaving.left state.say
  served_one n ns t r p = go (find (state.is_operation_numbered n) os) refl
    where
      leave : (l : Option Leave) → Served os most ns (leaving.serve_leave_at t l)
      leave None = served_same n ns t t refl (omega arith) p
      leave (Some l) = at (leaving.is_done t l)
        where
          at : (b : Bool) → Served os most ns (if b then leaving.left l t else t)
          at true = served_same n ns t (leaving.left l t) refl (filtered_no_longer (λ x. not (state.is_leave_numbered l.op x)) t.leaves) p
          at false = served_same n ns t t refl (omega arith) p

      by : (o : Operation) → o.op ≡ n → Has o os → (u : ThirdTurn) → Operated t o u → Served os most ns u
      by o q h u (IsAnswered e l) = served_same n ns t u e (let a : length u.leaves ≡ length t.leaves = ap (λ xs. length xs) l in omega (arith, a)) p
      by o q h u (IsKept e l) =
          served_more o ns t u h (λ m i. let a = r.first m i in omega (arith, a, q)) e
          (let a : length u.leaves ≡ length t.leaves = ap (λ xs. length xs) l in omega (arith, a)) (subst (λ y. Served os most (y ∷ ns) t) (sym q) p)

      go : (o : Option Operation) → find (state.is_operation_numbered n) os ≡ o → Served os most ns (client.operate_either os ls now n t o)
      go None e = leave (find (state.is_leave_numbered n) ls)
      go (Some o) e = let z = found_at (state.is_operation_numbered n) os o e in by o (eqb-true o.op n z.0) z.1 _ (operates t o os ls now)

  served_all : (ns : List ℕ) (t : ThirdTurn) → Rises ns → Served os most ns t → Served os most [] (client.operate_numbers os ls now ns t)
  unfolding client.operate_numbers
  served_all [] t r p = p
  served_all (n ∷ ns) t r p = served_all ns _ r.rest (served_one n ns t r p)

pub operates_all : (now : Stamp) (t : ThirdTurn) → Fewer t (client.operations now t)
unfolding client.operations plainly
operates_all now t =
    let p = served_all now os (filter (state.is_leave_of (state.here t)) t.leaves) (length t.leaves) (state.numbers_of os (filter (state.is_leave_of (state.here t)) t.leaves)) (plainly (cs.with_operations []) t)
    (rising_rises _) (record { rises = tt; before = λ x n h i. absurd h; among = λ x h. absurd h; leaves = omega arith }) in
    all (client.operate_these now os (filter (state.is_leave_of (state.here t)) t.leaves) t) p
  where
    os : List Operation
    os = t.plain.operations

    all : (v : ThirdTurn) → Served os (length t.leaves) [] v → Fewer t v
    all v p =
        let n = no_longer (map state.op_of v.plain.operations) (map state.op_of os) p.rises p.among in
        let a = length-map v.plain.operations state.op_of in
        let b = length-map os state.op_of in
        record { operations = omega (arith, n, a, b); leaves = p.leaves }

-- Reductions, writes, leaving, greeting and requests

reduced : (t : Turn) (s : ClientSession) (d : Option DemandedFile) (ino : ℕ) → Less t (used.reduced s d ino t)
unfolding passes.reduce_by passes.reduce_given passes.reduce_to locks.reduce_at locks.reduce_lock
reduced t s None ino = omega arith
reduced t s (Some d) ino = go (locks.lock_of s.locks d.ino)
  where
    go : (l : Option HeldLock) → Less t (passes.reduce_by t s ino (locks.reduce_lock s.locks d l))
    go None = omega arith
    go (Some l) = omega arith

reduces_each : (ds : List DemandedFile) (inos : List ℕ) (t : ThirdTurn) → Fewer t (used.reduce_each ds inos t)
unfolding used.reduce_each used.reduce used.reduce_idle
reduces_each ds [] t = same t
reduces_each ds (ino ∷ inos) t = both t _ _ (go (session t)) (reduces_each ds inos _)
  where
    go : (o : Option ClientSession) → Fewer t (used.reduce t ino (find (locks.is_demand_on ino) ds) o)
    go None = same t
    go (Some s) =
        either (used.may_reduce t s ino) t _ _
        (by_rule t (used.reduced s (find (locks.is_demand_on ino) ds) ino) (reduced t.plain s (find (locks.is_demand_on ino) ds) ino)) (same t)

reduces_all : (t : ThirdTurn) → Fewer t (leaving.reductions t)
unfolding leaving.reductions leaving.reductions_by
reduces_all t = go (session t)
  where
    go : (o : Option ClientSession) → Fewer t (leaving.reductions_by t o)
    go None = same t
    go (Some s) = reduces_each (leaving.demands t s.locks) _ t

writes_each : (at : List ℕ) (s : ClientSession) (now : Stamp) (tick : Bool) (xs : List (ℕ × PageNo)) (t : ThirdTurn) →
    Fewer t (room.write_each at s now tick xs t)
unfolding room.write_each room.write_page room.write_due passes.write_out passes.write_out_at passes.submit_write passes.submit_command
writes_each at s now tick [] t = same t
writes_each at s now tick (x ∷ xs) t = both t _ _ (go (pages.dirty_of t.plain.here.store.pages x.0 x.1)) (writes_each at s now tick xs _)
  where
    out : (d : DirtyPage) (m : Option MappedBlock) → Less t.plain (passes.write_out_at t.plain d m)
    out d None = omega arith
    out d (Some m) = omega arith

    go : (d : Option DirtyPage) → Fewer t (room.write_page at t s now tick d)
    go None = same t
    go (Some d) =
        either (room.is_writable at t s now tick d) t _ _
        (by_rule t (room.written_out d) (out d (pages.mapping_of t.plain.here.store.extents d.ino d.page))) (same t)

writes_all : (now : Stamp) (tick : Bool) (t : ThirdTurn) → Fewer t (room.writes now tick t)
unfolding room.writes room.writes_by
writes_all now tick t = go (session t)
  where
    go : (o : Option ClientSession) → Fewer t (room.writes_by t now tick o)
    go None = same t
    go (Some s) = writes_each (room.oldest t.room t.plain.here.store) s now tick (pages.dirty_places t.plain.here.store.pages) t

leaves_all : (t : ThirdTurn) → Fewer t (leaving.leaving t)
unfolding leaving.leaving leaving.leaving_by leaving.end_if leaving.end_life state.say plainly
leaves_all t = go (session t)
  where
    go : (o : Option ClientSession) → Fewer t (leaving.leaving_by t o)
    go None = same t
    go (Some s) = either (leaving.may_end t s) t _ _ (record { operations = omega arith; leaves = omega arith }) (same t)

greets_all : (now : Stamp) (tick : Bool) (t : ThirdTurn) → Fewer t (leaving.greeting now tick t)
unfolding leaving.greeting leaving.greeting_by leaving.greet passes.hello cs.send plainly
greets_all now tick t = go (session t)
  where
    go : (o : Option ClientSession) → Fewer t (leaving.greeting_by t now tick o)
    go None = either (leaving.must_greet t now tick) t _ _ (record { operations = omega arith; leaves = omega arith }) (same t)
    go (Some s) = same t

-- the operations after one of them asked are as many
abbrev AsMany : List Operation → Option passes.Asking → Type 0
AsMany os None = Unit {0}
AsMany os (Some a) = length a.operations ≡ length os

many_or : (o : Operation) (os : List Operation) (later : Option passes.Asking) (w : Option passes.Wanted) → AsMany os later → AsMany (o ∷ os) (passes.asks_or o os later w)
unfolding passes.asks_or
many_or o os None None h = tt
many_or o os (Some b) None h = omega (arith, h)
many_or o os later (Some w) h = refl

many_first : (t : ThirdTurn) (s : ClientSession) (now : Stamp) (os : List Operation) → AsMany os (client.first_asking t s now os)
unfolding client.first_asking
many_first t s now [] = tt
many_first t s now (o ∷ os) = many_or o os (client.first_asking t s now os) (client.asked_by t s now o) (many_first t s now os)

many_plain : (t : Turn) (s : ClientSession) (now : Stamp) (os : List Operation) → AsMany os (passes.first_asking t s now os)
unfolding passes.first_asking
many_plain t s now [] = tt
many_plain t s now (o ∷ os) = many_or o os (passes.first_asking t s now os) (passes.asked_by t s now o) (many_plain t s now os)

asks_less : (t : Turn) (s : ClientSession) (now : Stamp) (body : Body) (cutting : Option ℕ) → Less t (passes.ask t s now body cutting)
unfolding passes.ask cs.send
asks_less t s now body cutting = omega arith

keeps_alive : (t : Turn) (s : ClientSession) (now : Stamp) → Less t (passes.keep_alive t s now)
unfolding passes.keep_alive
keeps_alive t s now = less_if (lease.is_renewing (lease.phase_of t.config s.lease now)) t _ _ (asks_less t s now bodies.KeepAlive None) (omega arith)

asks_for : (t : Turn) (s : ClientSession) (now : Stamp) (a : Option passes.Asking) → AsMany t.operations a → Less t (passes.ask_for_or t s now a)
unfolding passes.ask_for_or passes.ask_for passes.ask cs.send
asks_for t s now None m = keeps_alive t s now
asks_for t s now (Some a) m = omega (arith, m)

asks_plainly : (t : Turn) (now : Stamp) (tick : Bool) → Less t (passes.requests now tick t)
unfolding passes.requests passes.requests_by passes.requests_under passes.requests_at passes.ask_new passes.reassert passes.ask_by passes.ask_release
    passes.ask_next passes.repeat passes.ask_again cs.send
asks_plainly t now tick = go t.here.session
  where
    releases : (s : ClientSession) (rs : List Release) → Less t (passes.ask_by t s now rs)
    releases s [] =
        less_if (cs.is_serving t.config s now) t _ _ (asks_for t s now (passes.first_asking t s now t.operations) (many_plain t s now t.operations))
        (keeps_alive t s now)
    releases s (r ∷ rs) = asks_less t (record s { releases = rs }) now (bodies.Released r.ino r.g r.to) None

    at : (s : ClientSession) (q : Option Request) → Less t (passes.requests_at t s now tick q)
    at s None = less_if s.due t _ _ (asks_less t s now (bodies.Reassert (locks.all_locks s.locks)) None) (releases s s.releases)
    at s (Some q) = less_if (passes.is_old t.config now tick q) t _ _ (omega arith) (omega arith)

    go : (o : Option ClientSession) → Less t (passes.requests_by t now tick o)
    go None = omega arith
    go (Some s) = less_if s.lease.condemned t _ _ (omega arith) (at s s.requests.asked)

requests_all : (now : Stamp) (tick : Bool) (t : ThirdTurn) → Fewer t (client.requests now tick t)
unfolding client.requests client.requests_by client.requests_under
requests_all now tick t = go (session t)
  where
    go : (o : Option ClientSession) → Fewer t (client.requests_by t now tick o)
    go None = same t
    go (Some s) =
        either (client.may_operations_ask t s now) t _ _
        (by_rule t (client.asked_for s now (client.first_asking t s now t.plain.operations))
        (asks_for t.plain s now (client.first_asking t s now t.plain.operations) (many_first t s now t.plain.operations)))
        (by_rule t (passes.requests now tick) (asks_plainly t.plain now tick))

pub passes_all : (now : Stamp) (tick : Bool) (t : ThirdTurn) → Fewer t (client.third_passes now tick t)
unfolding client.third_passes
passes_all now tick t =
    let a = client.operations now t in
    let b = giving.giving now a in
    let c = leaving.reductions b in
    let d = room.writes now tick c in
    let e = leaving.leaving d in
    let f = leaving.greeting now tick e in
    both t a _ (operates_all now t)
    (both a b _ (gives_all now a)
    (both b c _ (reduces_all b) (both c d _ (writes_all now tick c) (both d e _ (leaves_all d) (both e f _ (greets_all now tick e) (requests_all now tick f))))))
