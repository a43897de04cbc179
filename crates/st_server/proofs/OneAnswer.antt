-- The rule for a message adds at most one message, an answer to its sender.
use Rattle.st_lemmas.proofs.Words
use Words.{◌≡◌, ℕ, ◌+◌, ◌-◌, ◌^◌, ◌<◌, ◌≤◌, true, ◌==◌, List, [], ◌∷◌, ◌++◌, Option, Some, None, refl, sym, ap, ◌∙◌, arith, append_assoc, Result, Ok, Err}
use Words.{and_parts, and_from, eq-eqb, append-nil, GrantNo, PageNo, Stamp, Mode, NameRow, Header, Body, NameOp, Output, AcceptRefusal, AllocateRefusal}
use Words.{EntryRefusal, AcquireRefusal, Hello, Taken}
use Words.modes
use Words.bodies
use Words.ops.{Lookup, Create, Mkdir, Remove, Rename, List as ListFrom}
use Words.why
use Words.outputs
use Words.Ranges.{is_body}
use Words.hellos
use Words.takes
use Words.Authority as authority
use Words.Extents as extents
use Words.Extents.{Extents}
use Words.Grace as grace
use Words.Locks as locks
use Words.Names as names
use Words.Sessions as sessions
use Words.Server as server
use Words.Server.{ServerTurn, Replied, sender, life_in}
use Words.Tables.{cond_either}
use Rattle.st_rules.specs.declared.authority.AcceptRefusal.TheVariants as refusals
use Rattle.st_rules.specs.declared.names.EntryRefusal.TheVariants.{IsDir}
use Rattle.st_server.specs.Answers.{Adds, is_answer, is_answer_to, sends}
use Rattle.st_server.specs.Room.{HasRoom}
use Rattle.st_server.specs.Invariants.{keeps_reply, may_keep}
use Rattle.st_server.proofs.Every.{every_last}
use Rattle.st_server.proofs.Ruling.{rule_answer}
use Rattle.st_server.proofs.Sending.{IsTurn, IsAsked}
use Rattle.st_server.proofs.SessionChanges.{Takes, taken}

sends_last : (xs : List Output) (x : Output) → sends (xs ++ x ∷ []) ≡ sends xs + sends (x ∷ [])
sends_last [] (outputs.Send m) = refl
sends_last [] (outputs.Note n) = refl
sends_last [] (outputs.Answer a b) = refl
sends_last [] (outputs.Submit a b c) = refl
sends_last (outputs.Send m ∷ xs) x = let e : sends (xs ++ x ∷ []) ≡ sends xs + sends (x ∷ []) = sends_last xs x in omega (arith, e)
sends_last (outputs.Note n ∷ xs) x = sends_last xs x
sends_last (outputs.Answer a b ∷ xs) x = sends_last xs x
sends_last (outputs.Submit a b c ∷ xs) x = sends_last xs x

-- a reply that may be kept is an answer
kept_answer : (b : Body) → may_keep b ≡ true → is_answer b ≡ true
kept_answer bodies.Welcome e = refl
kept_answer b e = e

-- a refusal of a reassertion is an answer
refusal_answer : (r : AcceptRefusal) → is_answer (server.refused_reassertion r) ≡ true
refusal_answer (refusals.GraceOver start now) = refl
refusal_answer (refusals.Conflict ino holder) = refl
refusal_answer (refusals.NotHolder ino g) = refl

module _ (h : Header) (o : List Output) where
  abbrev pub Quiet : List Output → Type 0
  Quiet os = Adds h.from 0 o os

  abbrev pub One : List Output → Type 0
  One os = Adds h.from 1 o os

  last_adds : (k m : ℕ) (os : List Output) (x : Output) → k + sends (x ∷ []) ≤ m → is_answer_to h.from x ≡ true → Adds h.from k o os → Adds h.from m o (os ++ x ∷ [])
  last_adds k m os x b e a =
      record {
        added = a.added ++ x ∷ [];
        is = ap (λ (v : List Output). v ++ x ∷ []) a.is ∙ append_assoc o a.added (x ∷ []);
        few = let s : sends (a.added ++ x ∷ []) ≡ sends a.added + sends (x ∷ []) = sends_last a.added x in omega (arith, s, b, a.few);
        named = every_last (is_answer_to h.from) a.added x a.named e;
      }

  quiet_is_one : (os : List Output) → Quiet os → One os
  quiet_is_one os a = record { added = a.added; is = a.is; few = omega (arith, a.few); named = a.named }

  -- one reply
  reply_adds : (t : ServerTurn) (b : Body) → is_answer b ≡ true → Quiet t.out → One (server.reply t h b).out
  unfolding server.reply
  reply_adds t b e a =
      last_adds 0 1 t.out (outputs.Send (record { header = server.reply_header t.state h; body = b })) (omega arith)
      (and_from (h.from == h.from) (is_answer b) (eq-eqb h.from h.from refl) e) a

  suspect_adds : (t : ServerTurn) (now : Stamp) → Quiet t.out → Quiet (server.suspect_client t now (sender h)).out
  unfolding server.suspect_client
  suspect_adds t now a = last_adds 0 0 t.out _ (omega arith) refl a

  -- Greeting.
  greet_as_adds : (t : ServerTurn) (now : Stamp) (x : Hello) → Quiet t.out → One (server.greet_as t now h x).out
  unfolding server.greet_as
  greet_as_adds t now hellos.Welcome a = reply_adds t bodies.Welcome refl a
  greet_as_adds t now hellos.Replaced a = reply_adds (server.with_locks (locks.drop_waits t.state.locks (sender h)) t) bodies.Welcome refl a
  greet_as_adds t now hellos.Old a = quiet_is_one t.out a
  greet_as_adds t now hellos.Wait a = reply_adds (server.suspect_client t now (sender h)) (bodies.Nack why.Suspect now.0 0) refl (suspect_adds t now a)

  hello_adds : (t : ServerTurn) (now : Stamp) → Quiet t.out → One (server.hello t now h).out
  unfolding server.hello server.greet server.greet_by server.refuse_in_grace
  hello_adds t now a =
      let g : sessions.Greeted = sessions.hello t.state.sessions (sender h) (life_in h) (locks.has_rows t.state.locks (sender h)) in
      cond_either (λ (u : ServerTurn). One u.out) (server.in_grace t now) (server.refuse_in_grace t h) (server.greet t now h)
      (λ q. reply_adds t (bodies.Nack why.Grace (grace.grace_start t.state.grace).0 0) refl a) (λ q. greet_as_adds (server.with_sessions g.sessions t) now g.hello a)

  seen_adds : (t : ServerTurn) (ino : ℕ) (g : GrantNo) → Quiet t.out → Quiet (server.demand_seen t h ino g).out
  unfolding server.demand_seen server.observe_demand
  seen_adds t ino g a = cond_either (λ (u : ServerTurn). Quiet u.out) (server.is_served t h) (server.observe_demand t h ino g) t (λ q. a) (λ q. a)

  -- Reassertion.
  by_adds : (t : ServerTurn) (r : Result grace.Accepted AcceptRefusal) → Quiet t.out → One (server.reassert_by t h r).out
  unfolding server.reassert_by
  by_adds t (Ok x) a = reply_adds (server.with_sessions x.sessions (server.with_locks x.locks t)) bodies.Reasserted refl a
  by_adds t (Err r) a = reply_adds t (server.refused_reassertion r) (refusal_answer r) a

  -- The rules of requests add only notes.
  abbrev pub P : Replied → Type 0
  P a = Quiet a.turn.out

  module _ (t : ServerTurn) (a : Quiet t.out) where
    acquired_adds : (ino : ℕ) (mode : Mode) (r : Result locks.Acquired AcquireRefusal) → P (server.acquire_by t ino mode r)
    unfolding server.acquire_by
    acquired_adds ino mode (Ok x) = a
    acquired_adds ino mode (Err r) = a

    acquire_adds : (now : Stamp) (ino : ℕ) (mode : Mode) → P (server.acquire t now h ino mode)
    unfolding server.acquire server.acquire_lock server.no_file
    acquire_adds now ino mode =
        cond_either P (server.is_file t ino) (server.acquire_lock t now h ino mode) (server.no_file t ino)
        (λ q. acquired_adds ino mode (locks.acquire t.state.locks (sender h) (life_in h) ino mode (server.grants_now t now))) (λ q. a)

    released_adds : (ino : ℕ) (g : GrantNo) (to : Mode) → P (server.released t h ino g to)
    unfolding server.released server.released_by
    released_adds ino g to = a

    map_adds : (ino : ℕ) (g : GrantNo) (page : PageNo) → P (server.map t h ino g page)
    unfolding server.map server.map_held server.map_page server.no_file server.not_holder
    map_adds ino g page =
        cond_either P (server.is_file t ino) (server.map_held t h ino g page) (server.no_file t ino)
        (λ q. cond_either P (server.holds t h ino g modes.S) (server.map_page t ino page) (server.not_holder t ino g) (λ r. a) (λ r. a)) (λ q. a)

    allocated_adds : (ino : ℕ) (page : PageNo) (count : ℕ) (r : Result Extents AllocateRefusal) → P (server.allocate_by t ino page count r)
    unfolding server.allocate_by server.with_extents_told
    allocated_adds ino page count (Ok x) = a
    allocated_adds ino page count (Err r) = a

    allocate_adds : (ino : ℕ) (g : GrantNo) (page : PageNo) (count : ℕ) → P (server.allocate t h ino g page count)
    unfolding server.allocate server.allocate_held server.allocate_pages server.no_file server.not_holder
    allocate_adds ino g page count =
        cond_either P (server.is_file t ino) (server.allocate_held t h ino g page count) (server.no_file t ino)
        (λ q. cond_either P (server.holds t h ino g modes.X) (server.allocate_pages t ino page count) (server.not_holder t ino g)
        (λ r. allocated_adds ino page count (extents.allocate t.state.stable.extents (server.file t ino) page count)) (λ r. a)) (λ q. a)

    cut_adds : (ino : ℕ) (g : GrantNo) (from : PageNo) → P (server.cut t h ino g from)
    unfolding server.cut server.cut_held server.cut_from server.cut_pages server.no_file server.not_holder
    cut_adds ino g from =
        cond_either P (server.is_file t ino) (server.cut_held t h ino g from) (server.no_file t ino)
        (λ q. cond_either P (server.holds t h ino g modes.X) (server.cut_from t ino from) (server.not_holder t ino g) (λ r. last_adds 0 0 t.out _ (omega arith) refl a) (λ r. a)) (λ q. a)

    refused_adds : (r : EntryRefusal) → P (server.name_refused t r)
    unfolding server.name_refused
    refused_adds r = a

    found_adds : (r : Result ℕ EntryRefusal) → P (server.name_found t r)
    unfolding server.name_found
    found_adds (Ok ino) = a
    found_adds (Err r) = refused_adds r

    changed_adds : (r : Result names.Changed EntryRefusal) → P (server.name_changed t r)
    unfolding server.name_changed
    changed_adds (Ok d) = a
    changed_adds (Err r) = refused_adds r

    listed_adds : (r : Result (List NameRow) EntryRefusal) → P (server.names_listed t r)
    unfolding server.names_listed
    listed_adds (Ok rows) = a
    listed_adds (Err r) = refused_adds r

    removed_adds : (r : Result names.Changed EntryRefusal) → P (server.remove_by t r)
    unfolding server.remove_by server.cut_whole server.cut_pages
    removed_adds (Ok d) = last_adds 0 0 t.out _ (omega arith) refl a
    removed_adds (Err r) = refused_adds r

    remove_found_adds : (dir : ℕ) (name : List ℕ) (g : GrantNo) (r : Result ℕ EntryRefusal) → P (server.remove_found t h dir name g r)
    unfolding server.remove_found server.remove_ino server.remove_file server.remove_dir server.not_holder
    remove_found_adds dir name g (Ok ino) =
        cond_either P (server.is_file t ino) (server.remove_file t h dir name g ino) (server.remove_dir t dir name g)
        (λ q. cond_either P (server.holds t h ino g modes.X) (server.remove_by t (names.remove t.state.stable.names dir name)) (server.not_holder t ino g)
        (λ r. removed_adds (names.remove t.state.stable.names dir name)) (λ r. a))
        (λ q. cond_either P (g.0 == 0) (server.name_changed t (names.remove t.state.stable.names dir name)) (server.name_refused t IsDir)
        (λ r. changed_adds (names.remove t.state.stable.names dir name)) (λ r. refused_adds IsDir))
    remove_found_adds dir name g (Err r) = refused_adds r

    name_adds : (op : NameOp) → P (server.name t h op)
    unfolding server.name server.remove
    name_adds (Lookup dir name) = found_adds (names.lookup t.state.stable.names dir name)
    name_adds (Create dir name) = changed_adds (names.create t.state.stable.names dir name)
    name_adds (Mkdir dir name) = changed_adds (names.mkdir t.state.stable.names dir name)
    name_adds (Remove dir name g) = remove_found_adds dir name g (names.lookup t.state.stable.names dir name)
    name_adds (Rename dir name dir2 name2) = changed_adds (names.rename t.state.stable.names dir name dir2 name2)
    name_adds (ListFrom dir after) = listed_adds (names.list t.state.stable.names dir after)

    rule_adds : (now : Stamp) (b : Body) → P (server.rule t now h b)
    unfolding server.rule server.keep_alive
    rule_adds now bodies.KeepAlive = a
    rule_adds now (bodies.Acquire ino mode) = acquire_adds now ino mode
    rule_adds now (bodies.Released ino g to) = released_adds ino g to
    rule_adds now (bodies.Map ino g page) = map_adds ino g page
    rule_adds now (bodies.Allocate ino g page count) = allocate_adds ino g page count
    rule_adds now (bodies.Cut ino g from) = cut_adds ino g from
    rule_adds now (bodies.Name op) = name_adds op
    rule_adds now b = a

  keep_adds : (t : ServerTurn) (r : Option Body) → keeps_reply r ≡ true → Quiet t.out → One (server.keep h t r).out
  unfolding server.keep server.keep_and_reply
  keep_adds t None e a = quiet_is_one t.out a
  keep_adds t (Some b) e a =
      reply_adds (server.with_sessions (sessions.store t.state.sessions (sender h) h.number b) t) b (kept_answer b (and_parts (may_keep b) (is_body b) e).0) a

  -- Requests, of a client to a server that is sound.
  module _ (n : ℕ) (t : ServerTurn) (p : IsTurn n t) (now : Stamp) (asked : IsAsked h) (room : HasRoom t.state) (few : n < 2 ^ 32 - 1) (a : Quiet t.out) where
    takes_here : Takes (sessions.session_of t.state.sessions (sender h)) (life_in h) (server.take t h)
    takes_here = taken t.state.sessions (sender h) (life_in h) (server.epoch_in h) h.number p.sound.kept

    again_adds : (x : Taken Body) → Takes (sessions.session_of t.state.sessions (sender h)) (life_in h) x → One (server.reassert_again t h x).out
    unfolding server.reassert_again
    again_adds (takes.Again b) k = reply_adds t b (kept_answer b (and_parts (may_keep b) (is_body b) k).0) a
    again_adds takes.OtherEpoch k = quiet_is_one t.out a
    again_adds takes.NoSession k = quiet_is_one t.out a
    again_adds takes.Stale k = quiet_is_one t.out a
    again_adds takes.Fresh k = quiet_is_one t.out a
    again_adds takes.OutOfOrder k = quiet_is_one t.out a

    taken_adds : (b : Body) (x : Taken Body) → is_body b ≡ true → Takes (sessions.session_of t.state.sessions (sender h)) (life_in h) x → One (server.request_by t now h b x).out
    unfolding server.request_by server.serve server.refuse_epoch
    taken_adds b takes.OtherEpoch e k = reply_adds t (bodies.Nack why.OtherEpoch h.epoch t.state.stable.epoch.0) refl a
    taken_adds b takes.NoSession e k = reply_adds t (bodies.Nack why.NoSession 0 0) refl a
    taken_adds b takes.Stale e k = quiet_is_one t.out a
    taken_adds b (takes.Again kept) e k = reply_adds t kept (kept_answer kept (and_parts (may_keep kept) (is_body kept) k).0) a
    taken_adds b takes.OutOfOrder e k = quiet_is_one t.out a
    taken_adds b takes.Fresh e k =
        let r = rule_answer n t h (record { turn = p; room = room; few = few; asked = asked; lived = k }) now b e in
        keep_adds (server.rule t now h b).turn (server.rule t now h b).reply r.reply (rule_adds t a now b)

    request_adds : (b : Body) → is_body b ≡ true → One (server.request t now h b).out
    unfolding server.request server.reassert server.reassert_new
    request_adds (bodies.Reassert rows) e =
        cond_either (λ (u : ServerTurn). One u.out) (sessions.knows t.state.sessions (sender h) (life_in h)) (server.reassert_again t h (server.take t h)) (server.reassert_new t now h rows)
        (λ q. again_adds (server.take t h) takes_here)
        (λ q. by_adds t (grace.accept t.state.grace now (sender h) (life_in h) rows t.state.locks t.state.sessions) a)
    request_adds b e = taken_adds b (server.take t h) e takes_here

    epoch_adds : (b : Body) → is_body b ≡ true → One (server.of_epoch t now h b).out
    unfolding server.of_epoch server.refuse_epoch
    epoch_adds b e =
        cond_either (λ (u : ServerTurn). One u.out) (h.epoch == t.state.stable.epoch.0) (server.request t now h b) (server.refuse_epoch t h) (λ q. request_adds b e)
        (λ q. reply_adds t (bodies.Nack why.OtherEpoch h.epoch t.state.stable.epoch.0) refl a)

    body_adds : (b : Body) → is_body b ≡ true → One (server.by_body t now h b).out
    unfolding server.by_body
    body_adds bodies.Hello e = hello_adds t now a
    body_adds (bodies.DemandSeen ino g) e = quiet_is_one (server.demand_seen t h ino g).out (seen_adds t ino g a)
    body_adds b e = epoch_adds b e

    suspect_refused_adds : (start : Stamp) (b : Body) → One (server.refuse_suspect t h start b).out
    unfolding server.refuse_suspect
    suspect_refused_adds start (bodies.DemandSeen ino g) = quiet_is_one t.out a
    suspect_refused_adds start b = reply_adds t (bodies.Nack why.Suspect start.0 0) refl a

    suspicion_adds : (b : Body) (x : Option Stamp) → is_body b ≡ true → One (server.by_suspicion t now h b x).out
    unfolding server.by_suspicion
    suspicion_adds b None e = body_adds b e
    suspicion_adds b (Some start) e = suspect_refused_adds start b

    pub from_adds : (b : Body) → is_body b ≡ true → One (server.receive_from t now h b).out
    unfolding server.receive_from
    from_adds b e = suspicion_adds b (authority.started t.state.authority (sender h)) e

-- nothing is added yet
pub nothing_added : (node : ℕ) (os : List Output) → Adds node 0 os os
nothing_added node os = record { added = []; is = sym (append-nil os); few = omega arith; named = refl }
