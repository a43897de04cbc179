-- The rules of requests keep a server sound, and their replies can be told.
use Rattle.st_lemmas.proofs.Words
use Words.{◌≡◌, ℕ, ◌+◌, ◌*◌, ◌-◌, ◌^◌, ◌<◌, ◌≤◌, true, ◌&&◌, ◌==◌, List, refl, sym, subst, arith, min, nat_le, Result, Ok, Err, and_parts, and_from, leb-true}
use Words.{lt-ltb, Epoch, GrantNo, PageNo, Stamp, Mode, NameRow, Header, Body, NameOp, Why, AllocateRefusal, EntryRefusal, AcquireRefusal, Verdict}
use Words.modes
use Words.bodies
use Words.ops.{Lookup, Create, Mkdir, Remove, Rename, List as ListFrom}
use Words.why
use Words.notes
use Words.Kinds.{allows, is_word64}
use Words.Ranges.{is_body, is_count, is_grant, is_ino, is_mode, is_name_op, is_page}
use Words.wants.{NoSpace}
use Words.verdicts
use Words.Extents as extents
use Words.Extents.{Extents}
use Words.Locks as locks
use Words.Locks.{Locks}
use Words.Names as names
use Words.Names.{Names}
use Words.Sessions as sessions
use Words.Server as server
use Words.Server.{ServerTurn, Replied, sender, life_in}
use Words.Tables.{cond_either}
use Rattle.st_messages.specs.declared.kind.Need.TheVariants.{Positive}
use Rattle.st_rules.specs.declared.names.EntryRefusal.TheVariants.{IsDir}
use Rattle.st_server.specs.RuleConditions.{is_lived}
use Rattle.st_server.specs.Room.{HasRoom, taken_locks}
use Rattle.st_server.specs.Invariants.{keeps_reply, is_reply}
use Rattle.st_server.proofs.Holding.{IsFrom, is_good_verdict, AcquiresBy, acquire_held, released_held, drop_file_held}
use Rattle.st_server.proofs.NameChanges.{Finds, finds, ChangesBy, create_changes, mkdir_changes, remove_changes, rename_changes, Lists, lists, code_fits}
use Rattle.st_server.proofs.NameChanges.{ino_fits}
use Rattle.st_server.proofs.ExtentChanges.{rows_fit, release_mapped, Allocated, allocated}
use Rattle.st_server.proofs.Sending.{IsTurn, IsAsked, note_turn}
use Rattle.st_server.proofs.SoundRules.{locks_turn, names_turn, extents_turn, more_turn, epoch_below}

-- A rule that keeps the server sound, and whose reply can be told.
pub record IsAnswer (n : ℕ) (a : Replied) : Type 0 where
  pub turn : IsTurn n a.turn
  pub reply : keeps_reply a.reply ≡ true

-- two numbers of a refusal can be told
nack_reply : (w : Why) (x y : ℕ) → is_word64 x ≡ true → is_word64 y ≡ true → is_reply (bodies.Nack w x y) ≡ true
unfolding is_body
nack_reply w x y e f = and_from (is_word64 x) (is_word64 y) e f

ino_word : (ino : ℕ) → is_ino ino ≡ true → is_word64 ino ≡ true
ino_word ino e =
    let b : ino ≤ 4294967295 = leb-true ino 4294967295 (and_parts (nat_le 1 ino) (nat_le ino 4294967295) e).1 in
    lt-ltb ino (2 ^ 64) (omega (arith, b))

replies : (n : ℕ) (t : ServerTurn) (b : Body) → is_reply b ≡ true → IsTurn n t → IsAnswer n (server.replied t b)
replies n t b e p = record { turn = p; reply = e }

-- What a rule needs: room, and a client whose session lives.
pub record IsServed (n : ℕ) (t : ServerTurn) (h : Header) : Type 0 where
  pub turn : IsTurn n t
  pub room : HasRoom t.state
  pub few : n < 2 ^ 32 - 1
  pub asked : IsAsked h
  pub lived : is_lived (life_in h) (sessions.session_of t.state.sessions (sender h)) ≡ true

module _ (n : ℕ) (t : ServerTurn) (h : Header) (s : IsServed n t h) where
  same : IsTurn (n + 1) t
  same = more_turn n (n + 1) t (omega arith) s.turn

  no_file_answer : (ino : ℕ) → is_ino ino ≡ true → IsAnswer (n + 1) (server.no_file t ino)
  unfolding server.no_file
  no_file_answer ino e = replies (n + 1) t _ (nack_reply why.NoFile ino 0 (ino_word ino e) refl) same

  not_holder_answer : (ino : ℕ) (g : GrantNo) → is_ino ino ≡ true → is_grant g ≡ true → IsAnswer (n + 1) (server.not_holder t ino g)
  unfolding server.not_holder
  not_holder_answer ino g e f = replies (n + 1) t _ (nack_reply why.NotHolder ino g.0 (ino_word ino e) f) same

  -- Locks.
  from : (ino : ℕ) → is_ino ino ≡ true → IsFrom t.state.sessions (sender h) (life_in h) ino
  from ino e = record { lived = s.lived; told = and_from (server.is_client_node h.from) _ s.asked.from (and_from (allows Positive h.life) (is_ino ino) s.asked.life e) }

  next_fits : is_grant (locks.next_grant t.state.locks) ≡ true
  next_fits =
      let b : t.state.locks.epoch.0 < 2 ^ 32 = subst (λ (x : Epoch). x.0 < 2 ^ 32) (sym s.turn.sound.held.epoch) (epoch_below n t.state s.turn.sound) in
      let few : taken_locks t.state.locks ≤ n = s.turn.sound.held.few in
      let small : n < 2 ^ 32 - 1 = s.few in
      lt-ltb (t.state.locks.epoch.0 * 4294967296 + t.state.locks.grants + 1) (2 ^ 64) (omega (arith, b, few, small))

  verdict_reply : (ino : ℕ) (mode : Mode) (v : Verdict) → is_ino ino ≡ true → is_mode 1 2 mode ≡ true → is_good_verdict v ≡ true → is_reply (server.verdict_body ino mode v) ≡ true
  unfolding is_body
  verdict_reply ino mode (verdicts.Granted g m) e f k = and_from (is_ino ino) (is_grant g && is_mode 1 2 m) e k
  verdict_reply ino mode (verdicts.Queued cs) e f k = and_from (is_ino ino) (is_mode 1 2 mode) e f

  acquired_answer : (ino : ℕ) (mode : Mode) (r : Result locks.Acquired AcquireRefusal) → is_ino ino ≡ true → is_mode 1 2 mode ≡ true →
      AcquiresBy t.state.stable.epoch t.state.sessions (n + 1) r → IsAnswer (n + 1) (server.acquire_by t ino mode r)
  unfolding server.acquire_by is_body
  acquired_answer ino mode (Ok a) e m k = record { turn = locks_turn n (n + 1) t a.locks k.held s.turn; reply = verdict_reply ino mode a.verdict e m k.verdict }
  acquired_answer ino mode (Err r) e m k = replies (n + 1) t _ (nack_reply why.TooManyLocks t.state.locks.limit 0 s.turn.sound.held.limit refl) same

  acquire_answer : (now : Stamp) (ino : ℕ) (mode : Mode) → is_ino ino ≡ true → is_mode 1 2 mode ≡ true → IsAnswer (n + 1) (server.acquire t now h ino mode)
  unfolding server.acquire server.acquire_lock
  acquire_answer now ino mode e m =
      cond_either (IsAnswer (n + 1)) (server.is_file t ino) (server.acquire_lock t now h ino mode) (server.no_file t ino)
      (λ q. acquired_answer ino mode (locks.acquire t.state.locks (sender h) (life_in h) ino mode (server.grants_now t now)) e m
      (acquire_held t.state.stable.epoch t.state.sessions n t.state.locks (sender h) (life_in h) ino mode (from ino e) m next_fits s.turn.sound.held (server.grants_now t now)))
      (λ q. no_file_answer ino e)

  released_answer : (ino : ℕ) (g : GrantNo) (to : Mode) → IsAnswer (n + 1) (server.released t h ino g to)
  unfolding server.released server.released_by is_body
  released_answer ino g to =
      let l : Locks = (locks.released t.state.locks (sender h) (life_in h) ino g to).locks in
      replies (n + 1) (server.with_locks l t) bodies.Ack refl
      (more_turn n (n + 1) (server.with_locks l t) (omega arith)
      (locks_turn n n t l (released_held t.state.stable.epoch t.state.sessions n t.state.locks (sender h) (life_in h) ino g to s.turn.sound.held) s.turn))

  -- Pages.
  told_extents : (u : ServerTurn) (ino : ℕ) (page : PageNo) (count : ℕ) → is_ino ino ≡ true → count ≤ 64 → page.0 + count ≤ 1048576 → IsTurn (n + 1) u →
      is_reply (server.extents_body u ino page count) ≡ true
  unfolding is_body
  told_extents u ino page count e few b p = and_from (is_ino ino) _ e (rows_fit u.state.stable.extents p.sound.mapped (server.file u ino) page.0 count few b)

  map_answer : (ino : ℕ) (g : GrantNo) (page : PageNo) → is_ino ino ≡ true → is_grant g ≡ true → is_page 0 page.0 ≡ true → IsAnswer (n + 1) (server.map t h ino g page)
  unfolding server.map server.map_held server.map_page
  map_answer ino g page e f q =
      let b : page.0 ≤ 1048575 = leb-true page.0 1048575 (and_parts (nat_le 0 page.0) (nat_le page.0 1048575) q).1 in
      cond_either (IsAnswer (n + 1)) (server.is_file t ino) (server.map_held t h ino g page) (server.no_file t ino)
      (λ r. cond_either (IsAnswer (n + 1)) (server.holds t h ino g modes.S) (server.map_page t ino page) (server.not_holder t ino g)
      (λ v. replies (n + 1) t (server.extents_body t ino page 1) (told_extents t ino page 1 e (omega arith) (omega (arith, b)) same) same)
      (λ v. not_holder_answer ino g e f))
      (λ r. no_file_answer ino e)

  allocated_answer : (ino : ℕ) (page : PageNo) (count : ℕ) (r : Result Extents AllocateRefusal) → is_ino ino ≡ true → count ≤ 64 → page.0 + count ≤ 1048576 → Allocated r →
      IsAnswer (n + 1) (server.allocate_by t ino page count r)
  unfolding server.allocate_by server.with_extents_told
  allocated_answer ino page count (Ok x) e few b k =
      let p = extents_turn (n + 1) t x k same in
      replies (n + 1) (server.with_extents x t) _ (told_extents (server.with_extents x t) ino page count e few b p) p
  allocated_answer ino page count (Err (NoSpace free asked)) e few b k = replies (n + 1) t _ (nack_reply why.NoSpace free asked k.0 k.1) same

  allocate_answer : (ino : ℕ) (g : GrantNo) (page : PageNo) (count : ℕ) → is_ino ino ≡ true → is_grant g ≡ true → count ≤ 64 → page.0 + count ≤ 1048576 →
      IsAnswer (n + 1) (server.allocate t h ino g page count)
  unfolding server.allocate server.allocate_held server.allocate_pages
  allocate_answer ino g page count e f few b =
      cond_either (IsAnswer (n + 1)) (server.is_file t ino) (server.allocate_held t h ino g page count) (server.no_file t ino)
      (λ r. cond_either (IsAnswer (n + 1)) (server.holds t h ino g modes.X) (server.allocate_pages t ino page count) (server.not_holder t ino g)
      (λ v. allocated_answer ino page count (extents.allocate t.state.stable.extents (server.file t ino) page count) e few b
      (allocated t.state.stable.extents (server.file t ino) page count few s.turn.sound.mapped s.room.births))
      (λ v. not_holder_answer ino g e f))
      (λ r. no_file_answer ino e)

  cut_turn : (u : ServerTurn) (ino : ℕ) (from : PageNo) → IsTurn (n + 1) u → IsTurn (n + 1) (server.cut_pages u ino from)
  unfolding server.cut_pages
  cut_turn u ino from p =
      note_turn (n + 1) _ (notes.CutDone (server.file u ino) from)
      (extents_turn (n + 1) u (extents.release_from u.state.stable.extents (server.file u ino) from) (release_mapped u.state.stable.extents (server.file u ino) from p.sound.mapped) p)

  cut_answer : (ino : ℕ) (g : GrantNo) (from : PageNo) → is_ino ino ≡ true → is_grant g ≡ true → IsAnswer (n + 1) (server.cut t h ino g from)
  unfolding server.cut server.cut_held server.cut_from is_body
  cut_answer ino g from e f =
      cond_either (IsAnswer (n + 1)) (server.is_file t ino) (server.cut_held t h ino g from) (server.no_file t ino)
      (λ r. cond_either (IsAnswer (n + 1)) (server.holds t h ino g modes.X) (server.cut_from t ino from) (server.not_holder t ino g)
      (λ v. replies (n + 1) (server.cut_pages t ino from) bodies.Ack refl (cut_turn t ino from same)) (λ v. not_holder_answer ino g e f))
      (λ r. no_file_answer ino e)

  -- Names.
  refused_answer : (r : EntryRefusal) → IsAnswer (n + 1) (server.name_refused t r)
  unfolding server.name_refused
  refused_answer r = replies (n + 1) t _ (code_fits r) same

  found_answer : (r : Result ℕ EntryRefusal) → Finds r → IsAnswer (n + 1) (server.name_found t r)
  unfolding server.name_found
  found_answer (Ok ino) k = replies (n + 1) t _ (ino_fits ino k) same
  found_answer (Err r) k = refused_answer r

  changed_answer : (r : Result names.Changed EntryRefusal) → ChangesBy t.state.stable.names s.turn.sound.named r → IsAnswer (n + 1) (server.name_changed t r)
  unfolding server.name_changed
  changed_answer (Ok d) k = replies (n + 1) (server.with_names d.names t) _ (ino_fits d.ino k.ino) (names_turn (n + 1) t d.names k.named same)
  changed_answer (Err r) k = refused_answer r

  listed_answer : (r : Result (List NameRow) EntryRefusal) → Lists r → IsAnswer (n + 1) (server.names_listed t r)
  unfolding server.names_listed
  listed_answer (Ok rows) k = replies (n + 1) t _ k same
  listed_answer (Err r) k = refused_answer r

  dir_answer : (dir : ℕ) (name : List ℕ) (g : GrantNo) → IsAnswer (n + 1) (server.remove_dir t dir name g)
  unfolding server.remove_dir
  dir_answer dir name g =
      cond_either (IsAnswer (n + 1)) (g.0 == 0) (server.name_changed t (names.remove t.state.stable.names dir name)) (server.name_refused t IsDir)
      (λ q. changed_answer (names.remove t.state.stable.names dir name) (remove_changes t.state.stable.names s.turn.sound.named dir name)) (λ q. refused_answer IsDir)

  by_answer : (r : Result names.Changed EntryRefusal) → ChangesBy t.state.stable.names s.turn.sound.named r → IsAnswer (n + 1) (server.remove_by t r)
  unfolding server.remove_by server.cut_whole
  by_answer (Ok d) k =
      let u = names_turn (n + 1) t d.names k.named same in
      let v = locks_turn (n + 1) (n + 1) (server.with_names d.names t) (locks.drop_file_waits t.state.locks d.ino)
      (drop_file_held t.state.stable.epoch t.state.sessions (n + 1) t.state.locks d.ino u.sound.held) u in
      replies (n + 1) (server.cut_whole (server.with_names d.names t) d.ino) _ (ino_fits d.ino k.ino)
      (cut_turn (server.with_locks (locks.drop_file_waits t.state.locks d.ino) (server.with_names d.names t)) d.ino (record { 0 = 0 }) v)
  by_answer (Err r) k = refused_answer r

  file_answer : (dir : ℕ) (name : List ℕ) (g : GrantNo) (ino : ℕ) → is_ino ino ≡ true → is_grant g ≡ true → IsAnswer (n + 1) (server.remove_file t h dir name g ino)
  unfolding server.remove_file
  file_answer dir name g ino e f =
      cond_either (IsAnswer (n + 1)) (server.holds t h ino g modes.X) (server.remove_by t (names.remove t.state.stable.names dir name)) (server.not_holder t ino g)
      (λ q. by_answer (names.remove t.state.stable.names dir name) (remove_changes t.state.stable.names s.turn.sound.named dir name)) (λ q. not_holder_answer ino g e f)

  found_removed : (dir : ℕ) (name : List ℕ) (g : GrantNo) (r : Result ℕ EntryRefusal) → Finds r → is_grant g ≡ true → IsAnswer (n + 1) (server.remove_found t h dir name g r)
  unfolding server.remove_found server.remove_ino
  found_removed dir name g (Ok ino) k f =
      cond_either (IsAnswer (n + 1)) (server.is_file t ino) (server.remove_file t h dir name g ino) (server.remove_dir t dir name g)
      (λ q. file_answer dir name g ino k f) (λ q. dir_answer dir name g)
  found_removed dir name g (Err r) k f = refused_answer r

  remove_answer : (dir : ℕ) (name : List ℕ) (g : GrantNo) → is_grant g ≡ true → IsAnswer (n + 1) (server.remove t h dir name g)
  unfolding server.remove
  remove_answer dir name g f = found_removed dir name g (names.lookup t.state.stable.names dir name) (finds t.state.stable.names s.turn.sound.named dir name) f

  op_grant : (dir : ℕ) (name : List ℕ) (g : GrantNo) → is_body (bodies.Name (Remove dir name g)) ≡ true → is_grant g ≡ true
  unfolding is_body is_name_op
  op_grant dir name g e = (and_parts _ (is_grant g) (and_parts (is_ino dir) _ e).1).1

  name_answer : (op : NameOp) → is_body (bodies.Name op) ≡ true → IsAnswer (n + 1) (server.name t h op)
  unfolding server.name
  name_answer (Lookup dir name) e = found_answer (names.lookup t.state.stable.names dir name) (finds t.state.stable.names s.turn.sound.named dir name)
  name_answer (Create dir name) e = changed_answer (names.create t.state.stable.names dir name) (create_changes t.state.stable.names s.turn.sound.named dir name s.room.inodes)
  name_answer (Mkdir dir name) e = changed_answer (names.mkdir t.state.stable.names dir name) (mkdir_changes t.state.stable.names s.turn.sound.named dir name s.room.inodes)
  name_answer (Remove dir name g) e = remove_answer dir name g (op_grant dir name g e)
  name_answer (Rename dir name dir2 name2) e = changed_answer (names.rename t.state.stable.names dir name dir2 name2) (rename_changes t.state.stable.names s.turn.sound.named dir name dir2 name2)
  name_answer (ListFrom dir after) e = listed_answer (names.list t.state.stable.names dir after) (lists t.state.stable.names dir after s.turn.sound.named)

  -- The rule.
  count_bounds : (page count : ℕ) → is_count page count ≡ true → (count ≤ 64) × (count ≤ 1048576 - page)
  count_bounds page count e =
      let b : count ≤ min 64 (1048576 - page) = leb-true count (min 64 (1048576 - page)) (and_parts (nat_le 1 count) _ e).1 in
      (omega (arith, b), omega (arith, b))

  silent_answer : IsAnswer (n + 1) (server.silent t)
  silent_answer = record { turn = same; reply = refl }

  pub rule_answer : (now : Stamp) (b : Body) → is_body b ≡ true → IsAnswer (n + 1) (server.rule t now h b)
  unfolding server.rule server.keep_alive is_body
  rule_answer now bodies.KeepAlive e = replies (n + 1) t bodies.Ack refl same
  rule_answer now (bodies.Acquire ino mode) e = let p = and_parts (is_ino ino) (is_mode 1 2 mode) e in acquire_answer now ino mode p.0 p.1
  rule_answer now (bodies.Released ino g to) e = released_answer ino g to
  rule_answer now (bodies.Map ino g page) e =
      let p = and_parts (is_ino ino) (is_grant g && is_page 0 page.0) e in
      let q = and_parts (is_grant g) (is_page 0 page.0) p.1 in
      map_answer ino g page p.0 q.0 q.1
  rule_answer now (bodies.Allocate ino g page count) e =
      let p = and_parts (is_ino ino) (is_grant g && (is_page 0 page.0 && is_count page.0 count)) e in
      let q = and_parts (is_grant g) (is_page 0 page.0 && is_count page.0 count) p.1 in
      let r = and_parts (is_page 0 page.0) (is_count page.0 count) q.1 in
      let v : page.0 ≤ 1048575 = leb-true page.0 1048575 (and_parts (nat_le 0 page.0) (nat_le page.0 1048575) r.0).1 in
      let c = count_bounds page.0 count r.1 in
      allocate_answer ino g page count p.0 q.0 c.0 (omega (arith, v, c.1))
  rule_answer now (bodies.Cut ino g from) e =
      let p = and_parts (is_ino ino) (is_grant g && is_page 0 from.0) e in
      let q = and_parts (is_grant g) (is_page 0 from.0) p.1 in
      cut_answer ino g from p.0 q.0
  rule_answer now (bodies.Name op) e = name_answer op e
  rule_answer now b e = silent_answer
