-- A client's losses, its applications' asks and the ends of its commands, as changes.
use Rattle.st_lemmas.proofs.Words
use Words.{◌≡◌, ℕ, ◌+◌, Bool, true, false, ◌&&◌, ◌||◌, List, [], ◌∷◌, ◌==◌, Option, Some, None, refl, sym, ap, ◌∙◌, subst, if◌then◌else◌, is_some, nat_le}
use Words.{unwrap_or, option_map, eqb-true, eq-eqb, Config, Tag, ServerId, Stamp, Ask, DirtyPage, IoKind, Operation, PageCommand}
use Words.asks
use Words.answers
use Words.notes
use Words.phases
use Words.ends
use Words.io
use Words.Leases as leases
use Words.ClientLease as lease
use Words.ClientPages as pages
use Words.Client as cl
use Words.ClientState.{ClientSession, Turn, note, is_at, is_sent, only_at, new_operation}
use Words.Tables.{and_true}
use Words.Truth.{not_both}
use Words.Versions.{command_number}
use Rattle.st_laws_steps.specs.Client.Client as client
use Rattle.st_laws_steps.specs.Client.Losses.{is_ended, Loses, Lasts, IsLost, IsOutdated, without, Ends, Unknown, Passes, Hardens, Fails}
use Rattle.st_laws_steps.proofs.Client.Calm.{changes, Operates, Caches, TellsLost, Changes, Still, one, both, if_changes, changes_by_keeping, changes_by_answer, changes_by_each_answer}

-- a lease is over from its end on
pub over_is : (k : Config) (l : lease.ClientLease) (now : Stamp) → lease.must_discard (lease.standing_of k l now) ≡ nat_le (lease.end_of k l).0 now.0
unfolding leases.phase leases.phase_living leases.phase_serving leases.phase_young
over_is k l now = go (nat_le (l.date.0 + k.lease) now.0)
  where
    young : (b : Bool) → lease.must_discard (lease.standing_by (if b then phases.Renewal else phases.Valid)) ≡ false
    young true = refl
    young false = refl

    serving : (b : Bool) → lease.must_discard (lease.standing_by (if b then phases.Quiesce else leases.phase_young k l.date now)) ≡ false
    serving true = refl
    serving false = young (nat_le (l.date.0 + k.renew) now.0)

    living : (b : Bool) → lease.must_discard (lease.standing_by (if b then phases.Flush else leases.phase_serving k l.date l.condemned now)) ≡ false
    living true = refl
    living false = serving (nat_le (l.date.0 + k.quiesce) now.0 || l.condemned)

    go : (b : Bool) → lease.must_discard (lease.standing_by (if b then phases.Expired else leases.phase_living k l.date l.condemned now)) ≡ b
    go true = refl
    go false = living (nat_le (l.date.0 + k.flush) now.0)

module _ (now : Stamp) where
  abbrev C : Turn → Turn → Type 0
  C t u = Changes false now t u

  pub changes_by_tell : (t : Turn) (op ino : ℕ) → C t (cl.tell_lost t op ino)
  unfolding cl.tell_lost
  changes_by_tell t op ino = both (one (TellsLost t (pages.untold t.here.lost ino))) (changes_by_answer _ op _ tt)

  pub changes_by_end : (t : Turn) (s : ClientSession) (o : Operation) → C t (cl.end_operation t s o)
  unfolding cl.end_operation cl.end_unsent cl.end_sync
  changes_by_end t s o = if_changes (is_sent o) t _ _ (λ e. changes_by_answer t o.op _ tt) (λ e. unsent o.ask)
    where
      unsent : (a : Ask) → C t (cl.end_unsent t o a)
      unsent (asks.Sync f) = if_changes (pages.has_lost t.here.lost f.ino) t _ _ (λ e. changes_by_tell t o.op f.ino) (λ e. changes_by_answer t o.op _ tt)
      unsent a = changes_by_answer t o.op _ tt

  pub changes_by_end_each : (s : ClientSession) (os : List Operation) (t : Turn) → C t (cl.end_each s os t)
  unfolding cl.end_each
  changes_by_end_each s [] t = Still t
  changes_by_end_each s (o ∷ os) t = both (changes_by_end t s o) (changes_by_end_each s os (cl.end_operation t s o))

  pub lose_is : (t : Turn) → Loses now t (cl.lose now t)
  unfolding cl.lose cl.lose_by cl.lose_over cl.lose_session cl.end_operations
  lose_is t = go t.here.session refl
    where
      by : (s : ClientSession) (b : Bool) → t.here.session ≡ Some s → cl.is_over t s now ≡ b → is_ended t.config now t.here.session ≡ b →
          Loses now t (if b then cl.lose_session t s else t)
      by s true e o i =
          IsLost s e i _
          (changes (both (one (TellsLost (note t (notes.Lost t.here.server t.here.life)) _)) (both (one (Operates _ _)) (changes_by_end_each s _ _))))
      by s false e o i = Lasts i

      go : (x : Option ClientSession) → t.here.session ≡ x → Loses now t (cl.lose_by t now x)
      go None e = Lasts (ap (is_ended t.config now) e)
      go (Some s) e = by s (cl.is_over t s now) e refl (ap (is_ended t.config now) e ∙ sym (over_is t.config s.lease now))

  -- an ask
  pub changes_by_take : (op : ℕ) (ask : Ask) (t : Turn) → C t (cl.take_ask op ask t)
  unfolding cl.take_ask cl.take_by cl.take_sync cl.enqueue
  changes_by_take op ask t = go ask
    where
      go : (a : Ask) → C t (cl.take_by t op ask a)
      go (asks.Sync f) = if_changes (pages.has_lost t.here.lost f.ino) t _ _ (λ e. changes_by_tell t op f.ino)
          (λ e. changes_by_keeping t (new_operation op ask))
      go a = changes_by_keeping t (new_operation op ask)

  pub calm_only : (s : ServerId) (op : ℕ) (ask : Ask) (t : Turn) → C t (only_at s (cl.take_ask op ask) t)
  unfolding only_at
  calm_only s op ask t = if_changes (is_at s t.here) t _ _ (λ e. changes_by_take op ask t) (λ e. Still t)

-- How the end of a command is a change of pages, and then changes.
pub record Finished (now : Stamp) (number : ℕ) (ok : Bool) (t u : Turn) : Type 0 where
  pub mid : Turn
  pub ends : Ends number ok t mid
  pub calm : Changes false now mid u

pub rest_of : {now : Stamp} {number : ℕ} {ok : Bool} {t u : Turn} (f : Finished now number ok t u) → client.Changes now f.mid u
rest_of f = changes f.calm

same_finished : (now : Stamp) (n : ℕ) (ok : Bool) (t : Turn) → Finished now n ok t t
same_finished now n ok t = record { mid = t; ends = Unknown; calm = Still t }

-- whether a result tells that the command is done
abbrev pub is_done : Option (Option (Tag × List ℕ)) → Bool
is_done None = false
is_done (Some block) = true

version_is : (ps : pages.Pages) (ino : ℕ) (p : Rattle.st_base.specs.declared.ids.PageNo.PageNo) (d : DirtyPage) → pages.dirty_of ps ino p ≡ Some d →
    pages.version_of ps ino p ≡ d.version
version_is ps ino p d e = ap (λ o. unwrap_or (option_map pages.version_of_dirty o) 0) e

-- a write that failed marks its page, if the page is as it was
pub failed_ends : (number : ℕ) (t : Turn) (c : PageCommand) (v : ℕ) → pages.command_of t.here.store.commands number ≡ Some c → c.kind ≡ io.Write v →
    Ends number false t (cl.mark_failed (without number t) c v)
unfolding cl.mark_failed
failed_ends number t c v e k = go (cl.is_present (without number t) c v) refl
  where
    u : Turn
    u = without number t

    kind_is : (v w : ℕ) → io.Write v ≡ io.Write w → v ≡ w
    kind_is v w z = cc

    absent : cl.is_present u c v ≡ false → IsOutdated t c
    absent f w d q i r =
        not_both (cl.is_present u c v)
        (ap (λ (z : Option DirtyPage). is_some z && (pages.version_of t.here.store.pages c.ino c.page == v)) i
        ∙ eq-eqb (pages.version_of t.here.store.pages c.ino c.page) v (version_is t.here.store.pages c.ino c.page d i ∙ r ∙ sym (kind_is v w (sym k ∙ q))))
        f

    go : (b : Bool) → cl.is_present u c v ≡ b → Ends number false t (if b then cl.with_failed c u else u)
    go true f =
        Fails c v e refl k
        (eqb-true (pages.version_of t.here.store.pages c.ino c.page) v
        (and_true (is_some (pages.dirty_of t.here.store.pages c.ino c.page)) (pages.version_of t.here.store.pages c.ino c.page == v) f).1)
    go false f = Passes c e (absent f)

pub end_is : (now : Stamp) (number : ℕ) (ok : Bool) (t : Turn) (c : PageCommand) (block : Option (Tag × List ℕ)) →
    pages.command_of t.here.store.commands number ≡ Some c → Finished now number ok t (cl.finish_command t c ok block)
unfolding cl.finish_command cl.ended_by cl.finish_as cl.filled_by cl.failed_as pages.end_command pages.end_at pages.fill
end_is now number ok t c block e =
    subst (λ m. Finished now number ok t (cl.ended_by t c block (pages.end_at t.here.store.commands m ok version (pages.command_of t.here.store.commands m))))
    (sym n)
    (subst (λ o. Finished now number ok t (cl.ended_by t c block (pages.end_at t.here.store.commands number ok version o))) (sym e) (by_ok ok refl))
  where
    n : c.number ≡ number
    n = command_number t.here.store.commands number c e

    version : ℕ
    version = pages.version_of t.here.store.pages c.ino c.page

    read_apart : c.kind ≡ io.Read → IsOutdated t c
    read_apart r v d q = absurd (no (sym r ∙ q))
      where
        no : io.Read ≡ io.Write v → ⊥
        no z = cc

    kind_is : (v w : ℕ) → io.Write v ≡ io.Write w → v ≡ w
    kind_is v w z = cc

    u : Turn
    u = without number t

    filled : c.kind ≡ io.Read → (b : Option (Tag × List ℕ)) → Finished now number ok t (cl.filled_by u c b)
    filled r None = record { mid = u; ends = Passes c e (read_apart r); calm = Still u }
    filled r (Some b) = record { mid = u; ends = Passes c e (read_apart r); calm = one (Caches u _) }

    outdated : (v : ℕ) → c.kind ≡ io.Write v → (v == version) ≡ false → IsOutdated t c
    outdated v k f w d q i r = not_both (v == version) (eq-eqb v version (kind_is v w (sym k ∙ q) ∙ sym r ∙ sym (version_is t.here.store.pages c.ino c.page d i)))
        f

    written : (v : ℕ) → c.kind ≡ io.Write v → ok ≡ true → (b : Bool) → (v == version) ≡ b →
        Finished now number ok t (cl.finish_as u c block (if b then ends.Hard else ends.Redirty))
    written v k o true f = record { mid = cl.hardened u c; ends = Hardens c v e o k (sym (eqb-true v version f)); calm = Still _ }
    written v k o false f = record { mid = u; ends = Passes c e (outdated v k f); calm = Still u }

    failed : (v : ℕ) → c.kind ≡ io.Write v → ok ≡ false → Finished now number ok t (cl.failed_as u c (io.Write v))
    failed v k o =
        record {
          mid = cl.mark_failed u c v;
          ends = subst (λ z. Ends number z t (cl.mark_failed u c v)) (sym o) (failed_ends number t c v e k);
          calm = changes_by_each_answer (cl.waits_for_write u c) (answers.DiskFault c.number) (cl.mark_failed u c v) tt;
        }

    kinds : (k : IoKind) → c.kind ≡ k → (b : Bool) → ok ≡ b →
        Finished now number ok t (cl.finish_as u c block (if b then pages.done_as k version else ends.Failed))
    kinds io.Read k true o = filled k block
    kinds (io.Write v) k true o = written v k o (v == version) refl
    kinds io.Read k false o =
        subst (λ z. Finished now number ok t (cl.failed_as u c z)) (sym k)
        (record { mid = u; ends = Passes c e (read_apart k); calm = changes_by_each_answer (cl.waits_for_read u c) (answers.DiskFault c.number) u tt })
    kinds (io.Write v) k false o = subst (λ z. Finished now number ok t (cl.failed_as u c z)) (sym k) (failed v k o)

    by_ok : (b : Bool) → ok ≡ b → Finished now number ok t (cl.finish_as u c block (pages.ended_as c ok version))
    by_ok true o = subst (λ b. Finished now number ok t (cl.finish_as u c block (pages.ended_as c b version))) (sym o) (kinds c.kind refl true o)
    by_ok false o = subst (λ b. Finished now number ok t (cl.finish_as u c block (pages.ended_as c b version))) (sym o) (kinds c.kind refl false o)

pub finish_is : (now : Stamp) (number : ℕ) (result : Option (Option (Tag × List ℕ))) (t : Turn) →
    Finished now number (is_done result) t (cl.finish number result t)
unfolding cl.finish cl.finish_at cl.finish_by cl.done_by
finish_is now number result t = go (pages.command_of t.here.store.commands number) refl result
  where
    go : (o : Option PageCommand) → pages.command_of t.here.store.commands number ≡ o → (r : Option (Option (Tag × List ℕ))) →
        Finished now number (is_done r) t (cl.finish_at t o r)
    go None e r = same_finished now number (is_done r) t
    go (Some c) e None = end_is now number false t c None e
    go (Some c) e (Some block) = at (cl.is_result_of c.kind block)
      where
        at : (b : Bool) → Finished now number true t (if b then cl.finish_command t c true block else t)
        at true = end_is now number true t c block e
        at false = same_finished now number true t

pub changes_by_only : (now : Stamp) (s : ServerId) (op : ℕ) (ask : Ask) (t : Turn) → client.Changes now t (only_at s (cl.take_ask op ask) t)
changes_by_only now s op ask t = changes (calm_only now s op ask t)
