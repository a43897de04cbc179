-- An ask of an application, and the end of a disk command, walked at one server.
use Rattle.st_lemmas.proofs.Words
use Words.{◌≡◌, ℕ, Bool, true, false, ◌==◌, List, Option, Some, None, refl, sym, ap, ◌∙◌, subst, if◌then◌else◌, eqb-true, Tag, ServerId, Ask, IoKind}
use Words.{PageCommand}
use Words.asks
use Words.ends
use Words.io
use Words.Client as cl
use Words.ClientPages as pages
use Words.ClientState.{Turn, is_at, is_sync, only_at}
use Words.Tables.{cond_either, found_at}
use Rattle.st_trace.specs.Client.Commands.{Takes, TellsLost, WaitsForSync, Waits, Finishes, IsOutstanding, IsUnknown, IsOfOtherKind, Fills, Hardens, WroteOlder}
use Rattle.st_trace.specs.Client.Commands.{FailsToRead, FailsToWrite, FailsToWriteOlder, without}

-- a rule for one server does nothing at another
pub at_server : (P : Turn → Type 0) (v : ServerId) (rule : Turn → Turn) (t : Turn) → (is_at v t.here ≡ true → P (rule t)) → (is_at v t.here ≡ false → P t) → P
    (only_at v rule t)
unfolding only_at
at_server P v rule t here away = cond_either P (is_at v t.here) (rule t) t here away

-- An ask
pub takes : (op : ℕ) (ask : Ask) (t : Turn) → Takes op ask t (cl.take_ask op ask t)
unfolding cl.take_ask cl.take_by cl.take_sync cl.tell_lost cl.enqueue
takes op ask t = by ask refl
  where
    by : (a : Ask) → ask ≡ a → Takes op ask t (cl.take_by t op ask a)
    by (asks.Sync f) q = cond_either (Takes op ask t) (pages.has_lost t.here.lost f.ino) _ _ (λ h. TellsLost f q h) (λ h. WaitsForSync f q h)
    by a q = Waits (ap is_sync q)

module _ (number : ℕ) (result : Option (Option (Tag × List ℕ))) (t : Turn) (c : PageCommand) (o : IsOutstanding number t c) where
  abbrev F : Turn → Type 0
  F u = Finishes number result t u

  -- a command that failed
  failed : result ≡ None → (k : IoKind) → c.kind ≡ k → F (cl.failed_as (without c t) c k)
  unfolding cl.failed_as cl.mark_failed
  failed r io.Read k = FailsToRead c o k r
  failed r (io.Write v) k = go (cl.is_present t c v) refl
    where
      go : (b : Bool) → cl.is_present t c v ≡ b → F (Rattle.st_rules.specs.ClientState.answer_each (cl.waits_for_write t c)
          (Rattle.st_messages.specs.declared.answer.AppAnswer.TheVariants.DiskFault c.number) (if b then cl.with_failed c (without c t) else without c t))
      go true e = FailsToWrite c v o k r e
      go false e = FailsToWriteOlder c v o k r e

  -- one that is done
  wrote : (v : ℕ) → c.kind ≡ io.Write v → result ≡ Some None → F (cl.finish_as (without c t) c None
      (pages.write_ended v (pages.version_of t.here.store.pages c.ino c.page)))
  unfolding cl.finish_as cl.hardened
  wrote v k r = go (v == pages.version_of t.here.store.pages c.ino c.page) refl
    where
      go : (b : Bool) → (v == pages.version_of t.here.store.pages c.ino c.page) ≡ b → F
          (cl.finish_as (without c t) c None (if b then ends.Hard else ends.Redirty))
      go true e = Hardens c v o k r (sym (eqb-true v (pages.version_of t.here.store.pages c.ino c.page) e))
      go false e = WroteOlder c v o k r e

  done : (k : IoKind) → c.kind ≡ k → (block : Option (Tag × List ℕ)) → cl.is_result_of k block ≡ true → result ≡ Some block →
      F (cl.finish_as (without c t) c block (pages.done_as k (pages.version_of t.here.store.pages c.ino c.page)))
  unfolding cl.finish_as cl.filled_by
  done io.Read k None e r = cc
  done io.Read k (Some block) e r = Fills c block o k r
  done (io.Write v) k None e r = wrote v k r
  done (io.Write v) k (Some block) e r = cc

  -- the command that ends is the one that was found
  ended : (ok : Bool) (block : Option (Tag × List ℕ)) → F (cl.finish_as (without c t) c block
      (pages.ended_as c ok (pages.version_of t.here.store.pages c.ino c.page))) → F (cl.finish_command t c ok block)
  unfolding cl.finish_command cl.ended_by pages.end_command pages.end_at
  ended ok block f =
      subst (λ x. F (cl.ended_by t c block (pages.end_at t.here.store.commands c.number ok (pages.version_of t.here.store.pages c.ino c.page) x)))
      (sym (ap (pages.command_of t.here.store.commands) o.numbered ∙ o.there)) f

  finished : (r : Option (Option (Tag × List ℕ))) → result ≡ r → F (cl.finish_by t c r)
  unfolding cl.finish_by cl.done_by cl.finish_as
  finished None e = ended false None (failed e c.kind refl)
  finished (Some block) e =
      cond_either (Finishes number result t) (cl.is_result_of c.kind block) _ t (λ k. ended true block (done c.kind refl block k e))
      (λ k. IsOfOtherKind c block o e k)

-- The end of a command
pub finishes : (number : ℕ) (result : Option (Option (Tag × List ℕ))) (t : Turn) → Finishes number result t (cl.finish number result t)
unfolding cl.finish cl.finish_at
finishes number result t = go (pages.command_of t.here.store.commands number) refl
  where
    go : (x : Option PageCommand) → pages.command_of t.here.store.commands number ≡ x → Finishes number result t (cl.finish_at t x result)
    go None e = IsUnknown e
    go (Some c) e =
        finished number result t c
        (record { there = e; numbered = eqb-true c.number number (found_at (pages.is_numbered number) t.here.store.commands c e).0 }) result refl
