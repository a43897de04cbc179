-- Rules of a client of the third form that leave its session at a server alike and send nothing: they serve operations, give locks back, reduce files and
-- write pages out.
use Rattle.st_lemmas.proofs.Words
use Words.{◌≡◌, ℕ, ◌⊎◌, ◌&&◌, Bool, true, false, List, [], ◌∷◌, ◌++◌, Option, Some, None, find, filter, map, refl, sym, ap, ◌∙◌, subst, inl, inr}
use Words.{if◌then◌else◌}
use Words.{append-nil, AppAnswer, Ask, DemandedFile, DirtyPage, FileId, HeldLock, KnownExtent, MappedBlock, Message, Note, Operation, Output, PageNo}
use Words.{Stamp}
use Words.answers
use Words.asks
use Words.notes
use Words.outputs
use Words.ClientLocks as locks
use Words.ClientPages as pages
use Words.ClientPasses as passes
use Words.ClientReplies as replies
use Words.ClientState as cs
use Words.ClientState.{ClientSession, Turn, answer_each, file_of, is_of, is_serving, keep, with_operations}
use Words.Lists.{Has}
use Words.Tables.{has_append}
use Rattle.st_base.specs.Page.{filled}
use Rattle.st_base.specs.declared.disk.Command.TheVariants as commands
use Rattle.st_third.specs.declared.beside.Leave.{Leave}
use Rattle.st_third.specs.declared.output.ThirdOutput.{ThirdOutput}
use Rattle.st_third.specs.declared.output.ThirdOutput.TheVariants as says
use Rattle.st_third.specs.Client as third
use Rattle.st_third.specs.GiveBack as giving
use Rattle.st_third.specs.Leave as leaving
use Rattle.st_third.specs.Limits.{is_dirty_full}
use Rattle.st_third.specs.Room as room
use Rattle.st_third.specs.State as state
use Rattle.st_third.specs.State.{ThirdTurn, all_said, here, is_active, plain_output, plainly, session}
use Rattle.st_third.specs.UsedOnce as used
use Rattle.st_laws_healthy.proofs.Passing.{Alike, IsIdle, alike_self, alike_then, idle_says, idle_self, idle_then, unsent}
use Rattle.st_laws_healthy.proofs.Queues.{More, Same}
use Rattle.st_laws_healthy.proofs.Taking.{unsent_answers}
use Rattle.st_laws_third.proofs.Chains.{left_has, right_has}

-- Rules of the first two forms.

-- the same association and words, and other operations or pages
pub idle_beside : (t u : Turn) → u.id ≡ t.id → u.here.server ≡ t.here.server → u.here.life ≡ t.here.life → u.here.greeting ≡ t.here.greeting →
    u.here.session ≡ t.here.session → u.out ≡ t.out → IsIdle t u
idle_beside t u i s l g e o =
    record {
      id = i;
      server = s;
      life = l;
      greeting = g;
      session = subst (λ x. Alike t.here.session x) (sym e) (alike_self t.here.session);
      quiet = λ m h. subst (Has (outputs.Send m)) o h;
    }

pub idle_either : (b : Bool) (t u v : Turn) → IsIdle t u → IsIdle t v → IsIdle t (if b then u else v)
idle_either true t u v x y = x
idle_either false t u v x y = y

idle_kept : (t : Turn) (o : Operation) → IsIdle t (keep o t)
idle_kept t o = idle_beside t _ refl refl refl refl refl refl

idle_answered : (t : Turn) (op : ℕ) (a : AppAnswer) → IsIdle t (cs.answered t op a)
idle_answered t op a = idle_says t (outputs.Answer op a) (λ m e. cc) _ refl refl refl refl refl refl

pub idle_answers : (t : Turn) (picked : Operation → Bool) (a : AppAnswer) → IsIdle t (answer_each picked a t)
unfolding answer_each
idle_answers t picked a =
    record {
      id = refl;
      server = refl;
      life = refl;
      greeting = refl;
      session = alike_self t.here.session;
      quiet = λ m h. unsent_answers t.out a (filter picked t.operations) m h;
    }

idle_refused : (t : Turn) (file : Option ℕ) → IsIdle t (replies.refuse_file t answers.TooManyLocks file)
unfolding replies.refuse_file
idle_refused t None = idle_self t
idle_refused t (Some ino) = idle_answers t (replies.works_on t ino) answers.TooManyLocks

idle_fetched : (t : Turn) (o : Operation) (f : FileId) (p : PageNo) → IsIdle t (passes.fetch t o f p)
unfolding passes.fetch passes.fetch_at passes.fetch_mapped passes.submit_read passes.submit_command
idle_fetched t o f p = idle_then t _ _ (go (pages.mapping_of t.here.store.extents f.ino p)) (idle_kept _ o)
  where
    go : (m : Option MappedBlock) → IsIdle t (passes.fetch_at t f p m)
    go None = idle_self t
    go (Some m) =
        idle_either (pages.is_being_read t.here.store.commands f.ino p) t _ _ (idle_self t)
        (idle_says t (outputs.Submit t.next_command m.at (commands.Read m.at)) (λ m e. cc) _ refl refl refl refl refl refl)

idle_read : (t : Turn) (s : ClientSession) (o : Operation) (f : FileId) (p : PageNo) → IsIdle t (passes.read t s o f p)
unfolding passes.read passes.read_at passes.read_cached passes.read_uncached passes.read_known
idle_read t s o f p =
    idle_either (passes.holds s Words.modes.S f) t _ _ (go (pages.cached t.here.store.pages f.ino p)) (idle_kept t o)
  where
    known : (e : KnownExtent) (m : Option MappedBlock) → IsIdle t (passes.read_known t o f p e m)
    known e None = idle_answered t o.op (answers.Read (filled 0))
    known e (Some m) = idle_fetched t o f p

    uncached : (e : Option KnownExtent) → IsIdle t (passes.read_uncached t o f p e)
    uncached None = idle_kept t o
    uncached (Some e) = known e e.mapping

    go : (b : Option (List ℕ)) → IsIdle t (passes.read_at t o f p b)
    go None = uncached (pages.known_of t.here.store.extents f.ino p)
    go (Some bytes) = idle_says t (outputs.Answer o.op (answers.Read bytes)) (λ m e. cc) _ refl refl refl refl refl refl

idle_changed : (t : Turn) (o : Operation) (f : FileId) (p : PageNo) (n : Note) (ps : pages.Pages) → IsIdle t (passes.change t o f p n ps)
unfolding passes.change
idle_changed t o f p n ps =
    record {
      id = refl;
      server = refl;
      life = refl;
      greeting = refl;
      session = alike_self t.here.session;
      quiet = λ m h. unsent t.out (outputs.Note n) (λ m e. cc) m
          (unsent (t.out ++ outputs.Note n ∷ []) (outputs.Answer o.op answers.Written) (λ m e. cc) m h);
    }

idle_synced : (t : Turn) (o : Operation) (f : FileId) → IsIdle t (passes.sync t o f)
unfolding passes.sync
idle_synced t o f = idle_either (pages.is_hard t.here.store f.ino) t _ _ (idle_answered t o.op answers.Hard) (idle_kept t o)

idle_quiesced : (t : Turn) (o : Operation) → IsIdle t (passes.quiesce t o)
unfolding passes.quiesce
idle_quiesced t o = idle_either (cs.is_sent o) t _ _ (idle_kept t o) (idle_answered t o.op answers.Quiesced)

idle_written : (t : Turn) (d : DirtyPage) → IsIdle t (passes.write_out t d)
unfolding passes.write_out passes.write_out_at passes.submit_write passes.submit_command
idle_written t d = go (pages.mapping_of t.here.store.extents d.ino d.page)
  where
    go : (m : Option MappedBlock) → IsIdle t (passes.write_out_at t d m)
    go None = idle_self t
    go (Some m) = idle_says t _ (λ m e. cc) _ refl refl refl refl refl refl

-- a file is reduced to a demand
idle_reduced : (t : Turn) (s : ClientSession) (d : Option DemandedFile) (ino : ℕ) → t.here.session ≡ Some s → IsIdle t (used.reduced s d ino t)
unfolding passes.reduce_by passes.reduce_given passes.reduce_to locks.reduce_at locks.reduce_lock
idle_reduced t s None ino e = idle_self t
idle_reduced t s (Some d) ino e = go (locks.lock_of s.locks d.ino)
  where
    go : (l : Option HeldLock) → IsIdle t (passes.reduce_by t s ino (locks.reduce_lock s.locks d l))
    go None = idle_self t
    go (Some l) =
        record {
          id = refl;
          server = refl;
          life = refl;
          greeting = refl;
          session = subst (λ o. Alike o (Some (passes.released (cs.with_cache (locks.lower s.locks d.ino l d.to) s) ino l.g d.to))) (sym e)
              (record {
                session = passes.released (cs.with_cache (locks.lower s.locks d.ino l d.to) s) ino l.g d.to;
                is = refl;
                epoch = refl;
                requests = refl;
                lease = refl;
                due = refl;
                releases = More s.releases (record { ino = ino; g = l.g; to = d.to }) Same;
              });
          quiet = λ m h. h;
        }

-- Rules of the third form.

-- a message among words
abbrev pub Sent : List ThirdOutput → Message → Type 0
Sent os m = Has (says.Plain (outputs.Send m)) os

-- What leaves the session alike, and sends nothing.
pub record LeavesAlike (t u : ThirdTurn) : Type 0 where
  pub id : u.plain.id ≡ t.plain.id
  pub server : u.plain.here.server ≡ t.plain.here.server
  pub life : u.plain.here.life ≡ t.plain.here.life
  pub greeting : u.plain.here.greeting ≡ t.plain.here.greeting
  pub session : Alike (session t) (session u)
  pub quiet : (m : Message) → Sent (all_said u) m → Sent (all_said t) m

pub alike_still : (t : ThirdTurn) → LeavesAlike t t
alike_still t = record { id = refl; server = refl; life = refl; greeting = refl; session = alike_self (session t); quiet = λ m h. h }

pub alike_both : (t u v : ThirdTurn) → LeavesAlike t u → LeavesAlike u v → LeavesAlike t v
alike_both t u v a b =
    record {
      id = b.id ∙ a.id;
      server = b.server ∙ a.server;
      life = b.life ∙ a.life;
      greeting = b.greeting ∙ a.greeting;
      session = alike_then (session t) (session u) (session v) a.session b.session;
      quiet = λ m h. a.quiet m (b.quiet m h);
    }

pub alike_either : (b : Bool) (t u v : ThirdTurn) → LeavesAlike t u → LeavesAlike t v → LeavesAlike t (if b then u else v)
alike_either true t u v x y = x
alike_either false t u v x y = y

-- a message that was said plainly
pub sent_plainly : (os : List Output) (m : Message) → Sent (map plain_output os) m → Has (outputs.Send m) os
sent_plainly [] m h = absurd h
sent_plainly (o ∷ os) m (inl e) = inl (same e)
  where
    same : says.Plain (outputs.Send m) ≡ plain_output o → outputs.Send m ≡ o
    same e = cc
sent_plainly (o ∷ os) m (inr h) = inr (sent_plainly os m h)

pub said_plainly : (os : List Output) (m : Message) → Has (outputs.Send m) os → Sent (map plain_output os) m
said_plainly [] m h = absurd h
said_plainly (o ∷ os) m (inl e) = inl (ap plain_output e)
said_plainly (o ∷ os) m (inr h) = inr (said_plainly os m h)

-- a rule of the first two forms
pub alike_by : (t : ThirdTurn) (rule : Turn → Turn) → IsIdle t.plain (rule t.plain) → LeavesAlike t (plainly rule t)
unfolding plainly
alike_by t rule i =
    record {
      id = i.id;
      server = i.server;
      life = i.life;
      greeting = i.greeting;
      session = i.session;
      quiet = λ m h. go m (has_append t.said (map plain_output (rule t.plain).out) (says.Plain (outputs.Send m)) h);
    }
  where
    go : (m : Message) → Sent t.said m ⊎ Sent (map plain_output (rule t.plain).out) m → Sent (all_said t) m
    go m (inl h) = left_has t.said (map plain_output t.plain.out) _ h
    go m (inr h) = right_has t.said (map plain_output t.plain.out) _ (said_plainly t.plain.out m (i.quiet m (sent_plainly (rule t.plain).out m h)))

-- one more word that isn't a message
pub alike_said : (t : ThirdTurn) (o : ThirdOutput) → ((m : Message) → says.Plain (outputs.Send m) ≡ o → ⊥) → LeavesAlike t (state.say t o)
unfolding state.say
alike_said t o never =
    record {
      id = refl;
      server = refl;
      life = refl;
      greeting = refl;
      session = alike_self (session t);
      quiet = λ m h. go m (has_append (all_said t) (o ∷ []) (says.Plain (outputs.Send m)) (subst (λ os. Sent os m) (append-nil (all_said t ++ o ∷ [])) h));
    }
  where
    go : (m : Message) → Sent (all_said t) m ⊎ Sent (o ∷ []) m → Sent (all_said t) m
    go m (inl h) = h
    go m (inr (inl e)) = absurd (never m e)
    go m (inr (inr h)) = absurd h

-- Operations.

keeps : (t : ThirdTurn) (o : Operation) → LeavesAlike t (plainly (keep o) t)
keeps t o = alike_by t (keep o) (idle_kept t.plain o)

module _ (t : ThirdTurn) (o : Operation) where
  finds_no_room : LeavesAlike t (room.without_room t o)
  unfolding room.without_room
  finds_no_room =
      alike_either (room.is_hopeless t.plain.here.store) t _ _ (alike_by t (passes.answer o answers.DirtyFull) (idle_answered t.plain o.op answers.DirtyFull))
      (alike_both t (plainly (keep o) t) _ (keeps t o)
      (record { id = refl; server = refl; life = refl; greeting = refl; session = alike_self (session (plainly (keep o) t)); quiet = λ m h. h }))

  changes_page : (f : FileId) (p : PageNo) (bytes : List ℕ) (n : Note) → LeavesAlike t (room.change_page t o f p bytes n)
  unfolding room.change_page
  changes_page f p bytes n =
      alike_either (is_dirty_full t.limits.dirty t.plain.here.store.pages f.ino p) t _ _ finds_no_room
      (alike_by t (room.changed o f p bytes n) (idle_changed t.plain o f p n (pages.written t.plain.here.store.pages f.ino p bytes)))

  patches : (f : FileId) (p : PageNo) (at : ℕ) (bytes : List ℕ) (b : Option (List ℕ)) → LeavesAlike t (room.patch_at t o f p at bytes b)
  unfolding room.patch_at
  patches f p at bytes None = alike_by t (room.fetched o f p) (idle_fetched t.plain o f p)
  patches f p at bytes (Some old) = changes_page f p _ (notes.Patched f p at bytes)

  serves_open : (s : ClientSession) (ask : Ask) → LeavesAlike t (room.serve_open t s o ask)
  unfolding room.serve_open room.write room.patch
  serves_open s (asks.Write f p bytes) =
      alike_either (passes.may_write t.plain s f p) t _ _ (changes_page f p bytes (notes.Accepted f p bytes)) (keeps t o)
  serves_open s (asks.Patch f p at bytes) =
      alike_either (passes.may_write t.plain s f p) t _ _ (patches f p at bytes (pages.cached t.plain.here.store.pages f.ino p)) (keeps t o)
  serves_open s (asks.Read f p) = alike_by t (room.read s o f p) (idle_read t.plain s o f p)
  serves_open s ask = keeps t o

  operates_on : (os : List Operation) (ls : List Leave) (now : Stamp) (ask : Ask) → LeavesAlike t (third.operate_on os ls t now o ask)
  unfolding third.operate_on third.operate_by third.operate_under third.serve
  operates_on os ls now ask = on ask
    where
      by : (x : Option ClientSession) → LeavesAlike t (third.operate_by os ls t now o x)
      by None = keeps t o
      by (Some s) =
          alike_either (is_serving t.plain.config s now) t _ _
          (alike_either (is_active ls (here t) o && used.is_open os t s o (file_of o.ask)) t _ _ (serves_open s o.ask) (keeps t o))
          (alike_by t (third.quiesced o) (idle_quiesced t.plain o))

      on : (ask : Ask) → LeavesAlike t (third.operate_on os ls t now o ask)
      on (asks.Sync f) = alike_by t (third.synced o (asks.Sync f)) (idle_synced t.plain o f)
      on ask = by (session t)

  operates : (os : List Operation) (ls : List Leave) (now : Stamp) → LeavesAlike t (third.operate os ls t now o)
  unfolding third.operate
  operates os ls now = alike_either (is_of (here t) o) t _ _ (operates_on os ls now o.ask) (keeps t o)

serves_leave : (t : ThirdTurn) (l : Option Leave) → LeavesAlike t (leaving.serve_leave_at t l)
unfolding leaving.serve_leave_at leaving.serve_leave leaving.left
serves_leave t None = alike_still t
serves_leave t (Some l) =
    alike_either (leaving.is_done t l) t _ _
    (alike_both t (state.without_leave l t) _
    (record { id = refl; server = refl; life = refl; greeting = refl; session = alike_self (session t); quiet = λ m h. h })
    (alike_said (state.without_leave l t) (says.Left l.op) (λ m e. cc)))
    (alike_still t)

operates_each : (os : List Operation) (ls : List Leave) (now : Stamp) (ns : List ℕ) (t : ThirdTurn) → LeavesAlike t (third.operate_numbers os ls now ns t)
unfolding third.operate_numbers third.operate_either
operates_each os ls now [] t = alike_still t
operates_each os ls now (op ∷ ops) t = alike_both t _ _ (go (find (state.is_operation_numbered op) os)) (operates_each os ls now ops _)
  where
    go : (o : Option Operation) → LeavesAlike t (third.operate_either os ls now op t o)
    go None = serves_leave t (find (state.is_leave_numbered op) ls)
    go (Some o) = operates t o os ls now

pub operations_alike : (now : Stamp) (t : ThirdTurn) → LeavesAlike t (third.operations now t)
unfolding third.operations
operations_alike now t =
    alike_both t _ _ (alike_by t (with_operations []) (idle_beside t.plain _ refl refl refl refl refl refl)) (operates_each _ _ now _ _)

-- Giving back.

refused_here : (u : Turn) (file : Option ℕ) → (replies.refuse_file u answers.TooManyLocks file).here ≡ u.here
unfolding replies.refuse_file answer_each
refused_here u None = refl
refused_here u (Some ino) = refl

refusal_keeps : (s : ClientSession) (t : ThirdTurn) (o : Operation) → giving.is_all_stuck t s ≡ true → session (giving.give_back t s o) ≡ session t
unfolding giving.give_back plainly
refusal_keeps s t o q =
    subst (λ b. session (if b then plainly (giving.too_many (file_of o.ask)) t else giving.give_unless t s o) ≡ session t) (sym q)
    (ap (λ (a : cs.Association). a.session) (refused_here t.plain (file_of o.ask)))

module _ (s : ClientSession) where
  gives_lock : (t : ThirdTurn) → session t ≡ Some s → (l : Option HeldLock) → LeavesAlike t (giving.give_lock t s l)
  unfolding giving.give_lock plainly
  gives_lock t e None = alike_still t
  gives_lock t e (Some l) =
      record {
        id = refl;
        server = refl;
        life = refl;
        greeting = refl;
        session = subst (λ o. Alike o (Some (giving.demanded l.ino s))) (sym e)
            (record { session = giving.demanded l.ino s; is = refl; epoch = refl; requests = refl; lease = refl; due = refl; releases = Same });
        quiet = λ m h. h;
      }

  pub gives_back : (t : ThirdTurn) (o : Operation) → session t ≡ Some s → LeavesAlike t (giving.give_back t s o)
  unfolding giving.give_back giving.give_unless
  gives_back t o e =
      alike_either (giving.is_all_stuck t s) t _ _ (alike_by t (giving.too_many (file_of o.ask)) (idle_refused t.plain (file_of o.ask)))
      (alike_either (giving.is_on_its_way t s) t _ _ (alike_still t) (gives_lock t e (giving.chosen t (giving.spare t s o))))

  gives_each : (os : List Operation) (t : ThirdTurn) → session t ≡ Some s → LeavesAlike t (giving.give_each s os t)
  unfolding giving.give_each giving.give_for giving.give_if_full giving.give_or_go_on
  gives_each [] t e = alike_still t
  gives_each (o ∷ os) t e =
      alike_either (giving.is_pending t o && giving.needs_further t s o) t _ _
      (alike_either (giving.is_full t s) t _ _ (stuck (giving.is_all_stuck t s) refl (λ u q. gives_each os u q)) (alike_still t)) (gives_each os t e)
    where
      stuck : (b : Bool) → giving.is_all_stuck t s ≡ b → ((u : ThirdTurn) → session u ≡ Some s → LeavesAlike u (giving.give_each s os u)) →
          LeavesAlike t (if b then giving.give_each s os (giving.give_back t s o) else giving.give_back t s o)
      stuck true q others = alike_both t _ _ (gives_back t o e) (others (giving.give_back t s o) (refusal_keeps s t o q ∙ e))
      stuck false q others = gives_back t o e

pub giving_alike : (now : Stamp) (t : ThirdTurn) → LeavesAlike t (giving.giving now t)
unfolding giving.giving giving.giving_by giving.giving_under
giving_alike now t = go (session t) refl
  where
    go : (x : Option ClientSession) → session t ≡ x → LeavesAlike t (giving.giving_by t now x)
    go None e = alike_still t
    go (Some s) e = alike_either (is_serving t.plain.config s now) t _ _ (gives_each s t.plain.operations t e) (alike_still t)

-- Reductions.

reduces_each : (ds : List DemandedFile) (inos : List ℕ) (t : ThirdTurn) → LeavesAlike t (used.reduce_each ds inos t)
unfolding used.reduce_each used.reduce used.reduce_idle
reduces_each ds [] t = alike_still t
reduces_each ds (ino ∷ inos) t = alike_both t _ _ (go (session t) refl) (reduces_each ds inos _)
  where
    d : Option DemandedFile
    d = find (locks.is_demand_on ino) ds

    go : (x : Option ClientSession) → session t ≡ x → LeavesAlike t (used.reduce t ino d x)
    go None e = alike_still t
    go (Some s) e = alike_either (used.may_reduce t s ino) t _ _ (alike_by t (used.reduced s d ino) (idle_reduced t.plain s d ino e)) (alike_still t)

pub reductions_alike : (t : ThirdTurn) → LeavesAlike t (leaving.reductions t)
unfolding leaving.reductions leaving.reductions_by
reductions_alike t = go (session t)
  where
    go : (x : Option ClientSession) → LeavesAlike t (leaving.reductions_by t x)
    go None = alike_still t
    go (Some s) = reduces_each (leaving.demands t s.locks) _ t

-- Writes.

writes_each : (at : List ℕ) (s : ClientSession) (now : Stamp) (tick : Bool) (xs : List (ℕ × PageNo)) (t : ThirdTurn) →
    LeavesAlike t (room.write_each at s now tick xs t)
unfolding room.write_each room.write_page room.write_due
writes_each at s now tick [] t = alike_still t
writes_each at s now tick (x ∷ xs) t =
    alike_both t _ _ (go (pages.dirty_of t.plain.here.store.pages x.0 x.1)) (writes_each at s now tick xs _)
  where
    go : (d : Option DirtyPage) → LeavesAlike t (room.write_page at t s now tick d)
    go None = alike_still t
    go (Some d) =
        alike_either (room.is_writable at t s now tick d) t _ _ (alike_by t (room.written_out d) (idle_written t.plain d)) (alike_still t)

pub writes_alike : (now : Stamp) (tick : Bool) (t : ThirdTurn) → LeavesAlike t (room.writes now tick t)
unfolding room.writes room.writes_by
writes_alike now tick t = go (session t)
  where
    go : (x : Option ClientSession) → LeavesAlike t (room.writes_by t now tick x)
    go None = alike_still t
    go (Some s) = writes_each (room.oldest t.room t.plain.here.store) s now tick (pages.dirty_places t.plain.here.store.pages) t
