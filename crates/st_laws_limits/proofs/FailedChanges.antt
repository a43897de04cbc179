-- What changes of a client's association leave of its dirty pages whose write failed: if as many pages
-- are dirty as may be, and none makes room, it was so before.
use Rattle.st_lemmas.proofs.Words
use Words.{◌≡◌, ◌≤◌, ℕ, Bool, true, false, not, List, Option, Some, None, refl, sym, ap, subst, arith}
use Words.{le-leb, leb-true, length, length-map, list_any, nat_le, DemandedFile, DirtyPage, HeldLock, Mode, PageCommand, Stamp}
use Words.io
use Words.modes
use Words.Client as plain
use Words.ClientLocks as locks
use Words.ClientPages as pages
use Words.ClientPages.{Store}
use Words.ClientPasses as passes
use Words.ClientState.{Association, ClientSession, Turn}
use Words.Lists.{Has}
use Words.Members.{some_member_passes}
use Words.Tables.{and_both, and_true, none_passes, not_true}
use Rattle.st_lemmas.proofs.Tests.{filtered_no_longer}
use Rattle.st_laws_steps.specs.Client.Client as client
use Rattle.st_laws_steps.specs.Client.Losses.{Ends, Unknown, Passes, Hardens, Fails}
use Rattle.st_third.specs.declared.limits.Limits.{Limits}
use Rattle.st_third.specs.Limits.{limited_association}
use Rattle.st_third.specs.Promises.{is_dirty_full_at}
use Rattle.st_third.specs.Room.{is_hopeful}
use Rattle.st_third.specs.State.{ThirdTurn}
use Rattle.st_third.specs.UsedOnce.{reduced}
use Rattle.st_laws_third.specs.Changes.{Bounds, Continues, Heard, ThirdChange, Plainly, Says, Leaves, IsBeside, WaitsForRoom, Begins, GivesBack, Reduces, bounds}
use Rattle.st_laws_third.proofs.FewPages.{written_few}
use Rattle.st_laws_limits.proofs.FailedPages.{Comes, PagesFit, comes_hardened, comes_more, comes_same, comes_unfound, comes_without, comes_written}
use Rattle.st_laws_limits.proofs.FailedPages.{fit_failed, fit_filtered, fit_later, fit_read, fit_without, fit_write, fit_written, none_fit}

-- What holds of an association: its pages and commands fit, and no more pages are dirty than may be.
pub record PagesAt (m : Limits) (next : ℕ) (a : Association) : Type 0 where
  pub fit : PagesFit next a.store.pages.dirty a.store.commands
  pub few : length a.store.pages.dirty ≤ m.dirty

-- It still does, and where failed pages come from is known.
pub record PagesOn (m : Limits) (next : ℕ) (a b : Association) : Type 0 where
  pub at : PagesAt m next b
  pub comes : Comes m.dirty a.store.pages.dirty a.store.commands b.store.pages.dirty b.store.commands

on_same : (m : Limits) (next : ℕ) (a b : Association) → b.store.pages.dirty ≡ a.store.pages.dirty → b.store.commands ≡ a.store.commands → PagesAt m next a →
    PagesOn m next a b
on_same m next a b e q p =
    record {
      at = record {
        fit =
            subst (λ ds. PagesFit next ds b.store.commands) (sym e)
            (subst (λ cs. PagesFit next a.store.pages.dirty cs) (sym q) p.fit);
        few = subst (λ ds. length ds ≤ m.dirty) (sym e) p.few;
      };
      comes =
          subst (λ ds. Comes m.dirty a.store.pages.dirty a.store.commands ds b.store.commands) (sym e)
          (subst (λ cs. Comes m.dirty a.store.pages.dirty a.store.commands a.store.pages.dirty cs) (sym q)
          (comes_same m.dirty a.store.pages.dirty a.store.commands));
    }

plain_pages : (m : Limits) (within : Bounds) → within.limits.dirty ≡ m.dirty → (now : Stamp) (t u : Turn) (c : client.Change now t u) →
    Continues within now t u c →
    PagesAt m t.next_command t.here → PagesOn m u.next_command t.here u.here
unfolding passes.submit_read passes.submit_write passes.submit_command pages.written pages.forget_from pages.drop_from
plain_pages m within b now t _ (client.Says _ o p) k f = on_same m t.next_command t.here t.here refl refl f
plain_pages m within b now t _ (client.Operates _ os) k f = on_same m t.next_command t.here t.here refl refl f
plain_pages m within b now t _ (client.Answers _ os ops a) k f = on_same m t.next_command t.here t.here refl refl f
plain_pages m within b now t _ (client.Greets _ g) k f = on_same m t.next_command t.here _ refl refl f
plain_pages m within b now t _ (client.TellsLost _ lost) k f = on_same m t.next_command t.here _ refl refl f
plain_pages m within b now t _ (client.Begins _ s a c d) k f = absurd k
plain_pages m within b now t _ (client.Follows _ s u e g) k f = on_same m t.next_command t.here _ refl refl f
plain_pages m within b now t _ (client.Learns _ e u h) k f = on_same m t.next_command t.here _ refl refl f
plain_pages m within b now t _ (client.Forgets _ ino p i) k f = on_same m t.next_command t.here _ refl refl f
plain_pages m within b now t _ (client.Caches _ clean) k f = on_same m t.next_command t.here _ refl refl f
plain_pages m within b now t _ (client.Writes _ s g p bytes x sv own y h i) k f =
    let new : DirtyPage = pages.new_dirty t.here.store.pages g.ino p bytes in
    record {
      at = record {
        fit = fit_written t.next_command t.here.store.pages.dirty t.here.store.commands f.fit g.ino p new refl refl refl;
        few = written_few m.dirty t.here.store.pages g.ino p new f.few
            (subst (λ z. Rattle.st_third.specs.Limits.is_dirty_full z t.here.store.pages g.ino p ≡ false) b k);
      };
      comes = comes_written m.dirty t.here.store.pages.dirty t.here.store.commands g.ino p new refl;
    }
plain_pages m within b now t _ (client.Reads _ ino p d i clean) k f =
    record {
      at = record { fit = fit_read t.next_command t.here.store.pages.dirty t.here.store.commands f.fit ino p; few = f.few };
      comes = comes_more m.dirty t.here.store.pages.dirty t.here.store.commands t.next_command ino p io.Read;
    }
plain_pages m within b now t _ (client.Submits _ s ino p d x e i w z) k f =
    record {
      at = record { fit = fit_write t.next_command t.here.store.pages.dirty t.here.store.commands f.fit ino p d i z; few = f.few };
      comes = comes_more m.dirty t.here.store.pages.dirty t.here.store.commands t.next_command d.ino d.page (io.Write d.version);
    }

reduced_pages : (m : Limits) (t : ThirdTurn) (s : ClientSession) (d : DemandedFile) (ino : ℕ) → PagesAt m t.plain.next_command t.plain.here →
    PagesOn m (reduced s (Some d) ino t.plain).next_command t.plain.here (reduced s (Some d) ino t.plain).here
unfolding passes.reduce_by passes.reduce_given passes.reduce_to locks.reduce_at locks.reduce_lock pages.forget_from pages.drop_from
reduced_pages m t s d ino f = held (locks.lock_of s.locks d.ino) d.to
  where
    held : (l : Option HeldLock) (to : Mode) →
        PagesOn m (passes.reduce_by t.plain s ino (locks.reduce_lock s.locks (record d { to = to }) l)).next_command t.plain.here
        (passes.reduce_by t.plain s ino (locks.reduce_lock s.locks (record d { to = to }) l)).here
    held None to = on_same m t.plain.next_command t.plain.here t.plain.here refl refl f
    held (Some l) modes.None = on_same m t.plain.next_command t.plain.here _ refl refl f
    held (Some l) modes.S = on_same m t.plain.next_command t.plain.here _ refl refl f
    held (Some l) modes.X = on_same m t.plain.next_command t.plain.here _ refl refl f

pub turn_pages : {got : Heard} (now : Stamp) (m : Limits) (t u : ThirdTurn) → ThirdChange got now t u → t.limits ≡ m →
    PagesAt m t.plain.next_command t.plain.here → PagesOn m u.plain.next_command t.plain.here u.plain.here
unfolding Rattle.st_third.specs.State.say Rattle.st_third.specs.State.plainly
turn_pages {got} now m t _ (Plainly _ u c p) l f = plain_pages m (bounds got t) (ap (λ (z : Limits). z.dirty) l) now t.plain u c p f
turn_pages {got} now m t _ (Says _ o w) l f = on_same m t.plain.next_command t.plain.here t.plain.here refl refl f
turn_pages {got} now m t _ (Leaves _ ls k) l f = on_same m t.plain.next_command t.plain.here t.plain.here refl refl f
turn_pages {got} now m t _ (IsBeside _ b x) l f = on_same m t.plain.next_command t.plain.here t.plain.here refl refl f
turn_pages {got} now m t _ (WaitsForRoom _ k) l f = on_same m t.plain.next_command t.plain.here t.plain.here refl refl f
turn_pages {got} now m t _ (Begins _ epoch stamp e x w) l f = on_same m t.plain.next_command t.plain.here _ refl refl f
turn_pages {got} now m t _ (GivesBack _ s x e h) l f = on_same m t.plain.next_command t.plain.here _ refl refl f
turn_pages {got} now m t _ (Reduces _ s d ino e q i) l f = reduced_pages m t s d ino f

-- The end of a command, done or failed.
pub ends_at : (m : Limits) (t : Turn) (number : ℕ) (ok : Bool) (v : Turn) → Ends number ok t v → PagesAt m t.next_command t.here →
    PagesAt m t.next_command v.here
unfolding plain.hardened pages.harden pages.harden_at pages.harden_page pages.fail
ends_at m t number ok _ Unknown f = f
ends_at m t number ok _ (Passes x e o) f =
    record { fit = fit_without t.next_command t.here.store.pages.dirty t.here.store.commands f.fit number; few = f.few }
ends_at m t number ok _ (Hardens x v e o w q) f = go (pages.dirty_of t.here.store.pages x.ino x.page)
  where
    cs : List PageCommand
    cs = pages.without_command number t.here.store.commands

    without : PagesFit t.next_command t.here.store.pages.dirty cs
    without = fit_without t.next_command t.here.store.pages.dirty t.here.store.commands f.fit number

    go : (d : Option DirtyPage) → PagesAt m t.next_command
        (record t.here { store = record t.here.store { commands = cs; pages = pages.harden_at t.here.store.pages d } })
    go None = record { fit = without; few = f.few }
    go (Some d) =
        let a = filtered_no_longer (λ y. not (pages.is_dirty_of d.ino d.page y)) t.here.store.pages.dirty in
        let x = f.few in
        record {
          fit = fit_filtered t.next_command t.here.store.pages.dirty cs without (λ y. not (pages.is_dirty_of d.ino d.page y));
          few = omega (arith, a, x);
        }
ends_at m t number ok _ (Fails x v e o w q) f =
    let a = length-map t.here.store.pages.dirty (pages.fail_of x.ino x.page x.number) in
    let b = f.few in
    record {
      fit = fit_failed t.next_command t.here.store.pages.dirty t.here.store.commands f.fit number x e (ap pages.is_write w);
      few = omega (arith, a, b);
    }

-- If it is done, where failed pages come from is known.
pub done_comes : (m : Limits) (t : Turn) (number : ℕ) (v : Turn) → Ends number true t v → PagesAt m t.next_command t.here →
    Comes m.dirty t.here.store.pages.dirty t.here.store.commands v.here.store.pages.dirty v.here.store.commands
unfolding plain.hardened pages.harden pages.harden_at pages.harden_page
done_comes m t number _ Unknown f = comes_same m.dirty t.here.store.pages.dirty t.here.store.commands
done_comes m t number _ (Passes x e o) f =
    comes_without m.dirty t.next_command t.here.store.pages.dirty t.here.store.commands f.fit number x e o
done_comes m t number _ (Hardens x v e o w q) f = go (pages.dirty_of t.here.store.pages x.ino x.page) refl
  where
    go : (d : Option DirtyPage) → pages.dirty_of t.here.store.pages x.ino x.page ≡ d →
        Comes m.dirty t.here.store.pages.dirty t.here.store.commands (pages.harden_at t.here.store.pages d).dirty
        (pages.without_command number t.here.store.commands)
    go None i = comes_unfound m.dirty t.next_command t.here.store.pages.dirty t.here.store.commands f.fit number x e i
    go (Some d) i = comes_hardened m.dirty t.next_command t.here.store.pages.dirty t.here.store.commands f.fit number x e d i
done_comes m t number _ (Fails x v e o w q) f = absurd (no o)
  where
    no : true ≡ false → ⊥
    no z = cc

-- As many pages are dirty as may be, and none makes room: so it was before.
pub full_before : (m : Limits) (a b : Association) → length a.store.pages.dirty ≤ m.dirty →
    Comes m.dirty a.store.pages.dirty a.store.commands b.store.pages.dirty b.store.commands → is_dirty_full_at m b ≡ true → is_dirty_full_at m a ≡ true
full_before m a b few k e =
    and_both (nat_le m.dirty (length a.store.pages.dirty)) _ (le-leb m.dirty (length a.store.pages.dirty) all.0)
    (ap not (go (list_any (is_hopeful a.store.commands) a.store.pages.dirty) refl))
  where
    z : (nat_le m.dirty (length b.store.pages.dirty) ≡ true) × (not (list_any (is_hopeful b.store.commands) b.store.pages.dirty) ≡ true)
    z = and_true (nat_le m.dirty (length b.store.pages.dirty)) _ e

    none : (d : DirtyPage) → Has d b.store.pages.dirty → is_hopeful b.store.commands d ≡ false
    none = none_passes (is_hopeful b.store.commands) b.store.pages.dirty (not_true _ z.1)

    all : (m.dirty ≤ length a.store.pages.dirty) × ((d : DirtyPage) → Has d a.store.pages.dirty → Has d b.store.pages.dirty)
    all = k.all few (leb-true m.dirty (length b.store.pages.dirty) z.0) none

    go : (x : Bool) → list_any (is_hopeful a.store.commands) a.store.pages.dirty ≡ x → x ≡ false
    go false q = refl
    go true q =
        let d = some_member_passes (is_hopeful a.store.commands) a.store.pages.dirty q in
        let i = all.1 d.0 d.1 in
        absurd (Words.Truth.not_both (is_hopeful a.store.commands d.0) d.2 (k.back d.0 i (none d.0 i)).1)

-- Nothing of a server: no page is dirty.
pub emptied_at : (m : Limits) (next : ℕ) (a : Association) → PagesAt m next (limited_association m (plain.emptied a))
emptied_at m next a = record { fit = none_fit next; few = omega arith }

pub begun_at : (m : Limits) (next : ℕ) (a : Association) → a.store ≡ pages.empty_store → PagesAt m next (limited_association m a)
begun_at m next a e =
    record {
      fit =
          subst (λ (st : Store). PagesFit next st.pages.dirty st.commands) (sym e) (none_fit next);
      few = subst (λ (st : Store). length st.pages.dirty ≤ m.dirty) (sym e) (omega arith);
    }

pub later_at : (m : Limits) (n o : ℕ) → n ≤ o → (a : Association) → PagesAt m n a → PagesAt m o a
later_at m n o l a f = record { fit = fit_later n o l a.store.pages.dirty a.store.commands f.fit; few = f.few }
