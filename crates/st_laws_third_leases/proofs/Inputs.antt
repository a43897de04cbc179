-- What a client of the third form does at a server with a lease that is over, with an ask and with the end of a command: it sends nothing, and an ask and an
-- end of a command leave the session alike.
use Rattle.st_lemmas.proofs.Words
use Words.{◌≡◌, ℕ, ◌+◌, ◌⊎◌, Bool, true, false, List, [], ◌∷◌, Option, Some, None, find, map, refl, sym, ap, subst, inl, inr, if◌then◌else◌}
use Words.{eq-eqb, AppAnswer, Ask, Config, Ended, IoKind, Life, Message, Operation, PageCommand, Stamp, Tag}
use Words.answers
use Words.asks
use Words.notes
use Words.outputs
use Words.Client as cl
use Words.ClientPages as pages
use Words.ClientState as cs
use Words.ClientState.{ClientSession, Turn, only_at}
use Words.Truth.{not_both}
use Words.Lists.{Has}
use Words.Tables.{has_append}
use Rattle.st_rules.specs.declared.client.Ended.TheVariants as ends
use Rattle.st_rules.specs.declared.client.IoKind.TheVariants as io
use Rattle.st_third.specs.declared.beside.Leave.{Leave}
use Rattle.st_third.specs.declared.output.ThirdOutput.TheVariants as says
use Rattle.st_third.specs.Client as third
use Rattle.st_third.specs.Leave as leaving
use Rattle.st_third.specs.State as state
use Rattle.st_third.specs.State.{ThirdTurn, all_said, plainly, session}
use Rattle.st_laws_healthy.proofs.Passing.{IsIdle, alike_self, idle_says, idle_self}
use Rattle.st_laws_healthy.proofs.Taking.{ask_idle}
use Rattle.st_laws_steps.specs.Client.Losses.{is_ended}
use Rattle.st_laws_third.specs.Changes.{ThirdLoses, IsLost, Lasts, with_plain}
use Rattle.st_laws_third.proofs.Facts.{changes_third}
use Rattle.st_laws_third.proofs.Leaving.{loses}
use Rattle.st_laws_third_leases.proofs.Idle.{LeavesAlike, Sent, alike_both, alike_by, alike_either, alike_said, alike_still, idle_answers}
use Rattle.st_laws_third_leases.proofs.Idle.{idle_beside, idle_either}

-- An ask.

ask_taken : (op : ℕ) (ask : Ask) (t : Turn) → IsIdle t (cl.take_ask op ask t)
unfolding only_at
ask_taken op ask t =
    subst (λ b. IsIdle t (if b then cl.take_ask op ask t else t)) (eq-eqb t.here.server.0 t.here.server.0 refl) (ask_idle t.here.server op ask t)

pub asks_alike : (op : ℕ) (ask : Ask) (t : ThirdTurn) → LeavesAlike t (third.take_plainly op ask t)
asks_alike op ask t = alike_by t (cl.take_ask op ask) (ask_taken op ask t.plain)

-- the pending leaves are others
leaves_alike : (t : ThirdTurn) (ls : List Leave) → LeavesAlike t (record t { leaves = ls })
leaves_alike t ls =
    record { id = refl; server = refl; life = refl; greeting = refl; session = alike_self (session t); quiet = λ m h. h }

pub leave_alike : (op : ℕ) (t : ThirdTurn) → LeavesAlike t (leaving.take_leave op t)
unfolding leaving.take_leave leaving.take_leave_at
leave_alike op t = go (leaving.least_lost t.plain.here.lost)
  where
    go : (o : Option ℕ) → LeavesAlike t (leaving.take_leave_at op t o)
    go None = leaves_alike t _
    go (Some ino) = alike_said t (says.Unsynced op ino) (λ m e. cc)

-- The end of a command.

idle_failed : (t : Turn) (c : PageCommand) (version : ℕ) → IsIdle t (cl.mark_failed t c version)
unfolding cl.mark_failed
idle_failed t c version = idle_either (cl.is_present t c version) t _ _ (idle_beside t _ refl refl refl refl refl refl) (idle_self t)

idle_finished : (t : Turn) (c : PageCommand) (block : Option (Tag × List ℕ)) (e : Ended) → IsIdle t (cl.finish_as t c block e)
unfolding cl.finish_as cl.filled_by cl.hardened cl.failed_as
idle_finished t c block ends.Unknown = idle_self t
idle_finished t c None ends.Filled = idle_self t
idle_finished t c (Some b) ends.Filled = idle_beside t _ refl refl refl refl refl refl
idle_finished t c block ends.Hard = idle_beside t _ refl refl refl refl refl refl
idle_finished t c block ends.Redirty = idle_self t
idle_finished t c block ends.Failed = go c.kind
  where
    go : (k : IoKind) → IsIdle t (cl.failed_as t c k)
    go io.Read = idle_answers t (cl.waits_for_read t c) (answers.DiskFault c.number)
    go (io.Write v) =
        Rattle.st_laws_healthy.proofs.Passing.idle_then t (cl.mark_failed t c v) _ (idle_failed t c v)
        (idle_answers (cl.mark_failed t c v) (cl.waits_for_write t c) (answers.DiskFault c.number))

-- answers that leaves get among the operations
idle_numbers : (t : Turn) (a : AppAnswer) (ns : List ℕ) → IsIdle t (state.answer_numbers a ns t)
idle_numbers t a ns =
    record {
      id = refl;
      server = refl;
      life = refl;
      greeting = refl;
      session = alike_self t.here.session;
      quiet = λ m h. go m (has_append t.out (map (state.answer_number a) ns) (outputs.Send m) h);
    }
  where
    no : (ns : List ℕ) (m : Message) → Has (outputs.Send m) (map (state.answer_number a) ns) → ⊥
    no [] m h = h
    no (n ∷ ns) m (inl e) = cc
    no (n ∷ ns) m (inr h) = no ns m h

    go : (m : Message) → Has (outputs.Send m) t.out ⊎ Has (outputs.Send m) (map (state.answer_number a) ns) → Has (outputs.Send m) t.out
    go m (inl h) = h
    go m (inr h) = absurd (no ns m h)

answered_alike : (picked : Operation → Bool) (a : AppAnswer) (t : ThirdTurn) → LeavesAlike t (state.answer_with_leaves picked a t)
unfolding state.answer_with_leaves
answered_alike picked a t =
    alike_both t (state.without_picked picked t) _
    (record { id = refl; server = refl; life = refl; greeting = refl; session = alike_self (session t); quiet = λ m h. h })
    (alike_by (state.without_picked picked t) (state.answer_numbers a (state.numbers_picked picked t))
    (idle_numbers (state.without_picked picked t).plain a (state.numbers_picked picked t)))

module _ (t : ThirdTurn) (c : PageCommand) (block : Option (Tag × List ℕ)) where
  ended_alike : (e : Ended) → LeavesAlike t (third.finish_as t c block e)
  unfolding third.finish_as third.failed_as cl.finish_as cl.failed_as
  ended_alike ends.Failed = go c.kind
    where
      go : (k : IoKind) → LeavesAlike t (third.failed_as t c k)
      go io.Read = alike_by t (third.read_failed c) (read (idle_finished t.plain (record c { kind = io.Read }) block ends.Failed))
        where
          read : IsIdle t.plain (cl.finish_as t.plain (record c { kind = io.Read }) block ends.Failed) → IsIdle t.plain (cl.failed_as t.plain c io.Read)
          read i = idle_answers t.plain (cl.waits_for_read t.plain c) (answers.DiskFault c.number)
      go (io.Write v) =
          alike_both t (plainly (third.mark_failed c v) t) _ (alike_by t (third.mark_failed c v) (idle_failed t.plain c v))
          (answered_alike (cl.waits_for_write t.plain c) (answers.DiskFault c.number) (plainly (third.mark_failed c v) t))
  ended_alike e = alike_by t (third.finished c block e) (idle_finished t.plain c block e)

command_alike : (t : ThirdTurn) (c : PageCommand) (ok : Bool) (block : Option (Tag × List ℕ)) → LeavesAlike t (third.finish_command t c ok block)
unfolding third.finish_command
command_alike t c ok block =
    let e : pages.CommandEnd = pages.end_command t.plain.here.store.commands c.number ok (pages.version_of t.plain.here.store.pages c.ino c.page) in
    alike_both t (plainly (cl.with_commands e.commands) t) _
    (alike_by t (cl.with_commands e.commands) (idle_beside t.plain _ refl refl refl refl refl refl))
    (ended_alike (plainly (cl.with_commands e.commands) t) c block e.ended)

pub ends_alike : (number : ℕ) (result : Option (Option (Tag × List ℕ))) (t : ThirdTurn) → LeavesAlike t (third.finish number result t)
unfolding third.finish third.finish_at third.finish_by third.done_by
ends_alike number result t = go (pages.command_of t.plain.here.store.commands number) result
  where
    go : (c : Option PageCommand) (r : Option (Option (Tag × List ℕ))) → LeavesAlike t (third.finish_at t c r)
    go None r = alike_still t
    go (Some c) None = command_alike t c false None
    go (Some c) (Some block) =
        alike_either (cl.is_result_of c.kind block) t _ _ (command_alike t c true block) (alike_still t)

-- A lease that is over.

idle_ended : (t : Turn) (s : ClientSession) (o : Operation) → IsIdle t (cl.end_operation t s o)
unfolding cl.end_operation cl.end_sync cl.tell_lost cl.end_unsent
idle_ended t s o =
    idle_either (cs.is_sent o) t _ _ (idle_says t (outputs.Answer o.op (answers.Uncertain s.epoch.0 0)) (λ m e. cc) _ refl refl refl refl refl refl)
    (unsent o.ask)
  where
    unsent : (ask : Ask) → IsIdle t (cl.end_unsent t o ask)
    unsent (asks.Sync f) =
        idle_either (pages.has_lost t.here.lost f.ino) t _ _ (idle_says t _ (λ m e. cc) _ refl refl refl refl refl refl)
        (idle_says t (outputs.Answer o.op answers.Quiesced) (λ m e. cc) _ refl refl refl refl refl refl)
    unsent ask = idle_says t (outputs.Answer o.op answers.Quiesced) (λ m e. cc) _ refl refl refl refl refl refl

ends_leave : (t : ThirdTurn) (l : Option Leave) → LeavesAlike t (leaving.end_leave_at t l)
unfolding leaving.end_leave_at leaving.end_leave state.answer_leave
ends_leave t None = alike_still t
ends_leave t (Some l) = go (leaving.least_lost t.plain.here.lost)
  where
    go : (o : Option ℕ) → LeavesAlike t (leaving.end_leave l t o)
    go None =
        alike_both t (state.without_leave l t) _ (leaves_alike t _)
        (alike_said (state.without_leave l t) (says.Plain (outputs.Answer l.op answers.Quiesced)) (λ m e. cc))
    go (Some ino) =
        alike_both t (state.without_leave l t) _ (leaves_alike t _) (alike_said (state.without_leave l t) (says.Unsynced l.op ino) (λ m e. cc))

ends_each : (s : ClientSession) (os : List Operation) (ls : List Leave) (ns : List ℕ) (t : ThirdTurn) → LeavesAlike t (leaving.end_numbers s os ls ns t)
unfolding leaving.end_numbers leaving.end_either
ends_each s os ls [] t = alike_still t
ends_each s os ls (op ∷ ops) t = alike_both t _ _ (go (find (state.is_operation_numbered op) os)) (ends_each s os ls ops _)
  where
    go : (o : Option Operation) → LeavesAlike t (leaving.end_either s ls op t o)
    go None = ends_leave t (find (state.is_leave_numbered op) ls)
    go (Some o) = alike_by t (leaving.ended s o) (idle_ended t.plain s o)

ends_operations : (s : ClientSession) (t : ThirdTurn) → LeavesAlike t (leaving.end_operations s t)
unfolding leaving.end_operations
ends_operations s t = alike_both t _ _ (alike_by t leaving.without_own (idle_beside t.plain _ refl refl refl refl refl refl)) (ends_each s _ _ _ _)

-- the loss is noted
noted : (t : Turn) → IsIdle t (leaving.noted_lost t)
noted t = idle_says t (outputs.Note (notes.Lost t.here.server t.here.life)) (λ m e. cc) _ refl refl refl refl refl refl

-- What a loss leaves.
pub record IsLostOrNot (k : Config) (now : Stamp) (t u : ThirdTurn) : Type 0 where
  pub id : u.plain.id ≡ t.plain.id
  pub server : u.plain.here.server ≡ t.plain.here.server
  pub lasts : is_ended k now (session t) ≡ false → u.plain.here ≡ t.plain.here
  pub lost : is_ended k now (session t) ≡ true → (u.plain.here.life.0 ≡ t.plain.here.life.0 + 1) × (session u ≡ None)
  pub going : is_ended k now (session u) ≡ false
  pub quiet : (m : Message) → Sent (all_said u) m → Sent (all_said t) m

module _ (now : Stamp) (t : ThirdTurn) where
  abbrev L : ThirdTurn → Type 0
  L u = IsLostOrNot t.plain.config now t u

  lost_quiet : (m : Message) → Sent (all_said (leaving.lose now t)) m → Sent (all_said t) m
  unfolding leaving.lose leaving.lose_by leaving.lose_over leaving.lose_session plainly
  lost_quiet m h = go (session t) h
    where
      over : (s : ClientSession) (b : Bool) → Sent (all_said (if b then leaving.lose_session t s else t)) m → Sent (all_said t) m
      over s true h =
          (alike_both t (plainly leaving.noted_lost t) _ (alike_by t leaving.noted_lost (noted t.plain))
          (ends_operations s (plainly leaving.noted_lost t))).quiet
          m h
      over s false h = h

      go : (o : Option ClientSession) → Sent (all_said (leaving.lose_by t now o)) m → Sent (all_said t) m
      go None h = h
      go (Some s) h = over s (cl.is_over t.plain s now) h

  lost_as : (u : ThirdTurn) → ThirdLoses now t u → ((m : Message) → Sent (all_said u) m → Sent (all_said t) m) → u.plain.id ≡ t.plain.id → L u
  unfolding plainly
  lost_as _ (Lasts e) q i =
      record { id = i; server = refl; lasts = λ f. refl; lost = λ f. absurd (not_both (is_ended t.plain.config now (session t)) f e); going = e; quiet = q }
  lost_as _ (IsLost s v e f cs) q i =
      let n = changes_third now (with_plain (leaving.noted_lost t.plain) t) v cs in
      record {
        id = i;
        server = sym n.server;
        lasts = λ g. absurd (not_both (is_ended t.plain.config now (session t)) f g);
        lost = λ g. (ap (λ (l : Life). l.0 + 1) (sym n.life), refl);
        going = refl;
        quiet = q;
      }

  lost_id : (leaving.lose now t).plain.id ≡ t.plain.id
  unfolding leaving.lose leaving.lose_by leaving.lose_over leaving.lose_session plainly
  lost_id = go (session t)
    where
      over : (s : ClientSession) (b : Bool) → (if b then leaving.lose_session t s else t).plain.id ≡ t.plain.id
      over s true =
          (alike_both t (plainly leaving.noted_lost t) _ (alike_by t leaving.noted_lost (noted t.plain)) (ends_operations s (plainly leaving.noted_lost t))).id
      over s false = refl

      go : (o : Option ClientSession) → (leaving.lose_by t now o).plain.id ≡ t.plain.id
      go None = refl
      go (Some s) = over s (cl.is_over t.plain s now)

  pub loses_or_not : L (leaving.lose now t)
  loses_or_not = lost_as (leaving.lose now t) (loses t) lost_quiet lost_id
