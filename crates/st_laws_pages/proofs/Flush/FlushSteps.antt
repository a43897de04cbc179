-- The flush in the world: a step of a client keeps what holds of all clients and of the flush steps.
use Rattle.st_lemmas.proofs.Words
use Words.{◌≡◌, ℕ, ◌+◌, ◌≤◌, true, List, Some, sym, ap, ◌∙◌, subst, arith, length, map, list_any, Config, ClientId, FileId, PageNo, LogEntry, LogOwner}
use Words.{FlushStep, IssuedCommand}
use Words.ClientLease as lease
use Words.World.{World, WorldClient, numbered}
use Words.Events.{latest}
use Words.Safety.{Step, reports_failure}
use Words.Lists.{Has}
use Words.Numbers.{numbered_below}
use Rattle.st_laws_pages.specs.Fates.Fates.{PendingAll}
use Rattle.st_laws_steps.specs.Lives.Lives.{clock_in, owner_of}
use Rattle.st_laws_pages.specs.Flush.Flush.{DirtyHere, NodeCared, StartsBelow, FlushRight, FlushHold}
use Rattle.st_laws_pages.proofs.Flush.Caring.{cared_fates}
use Rattle.st_laws_pages.proofs.Disks.Writer.{latest_same}

-- Equal owners give equal latest entries.
pub latest_owners : (c : ClientId) (f : FileId) (p : PageNo) (es fs : List LogEntry) → map owner_of fs ≡ map owner_of es → latest fs c f p ≡ latest es c f p
unfolding latest
latest_owners c f p es fs e = latest_same 1 0 c f p es fs e

-- What holds of a client that runs, after more steps and with other fates.
pub node_fates : (past more : List Step) (cs : List IssuedCommand) (es fs : List LogEntry) (c : ClientId) (site : WorldClient) → ((n : ℕ) → list_any (reports_failure n) past ≡ true → list_any (reports_failure n) more ≡ true) →
    ((f : FileId) (p : PageNo) → latest fs c f p ≡ latest es c f p) → ((P : LogOwner → Type 0) → PendingAll P es → PendingAll P fs) → NodeCared past cs es c site → NodeCared more cs fs c site
node_fates past more cs es fs c site up same fewer h =
    record { cared = λ a i. cared_fates past more cs es fs c site.starts site.node.state.next_command a up same (fewer (DirtyHere c a)) (h.cared a i); apart = h.apart; numbers = h.numbers }

-- A world in which no client moved, and clocks went on.
pub moved_flush : (past more : List Step) (w v : World) → v.config ≡ w.config → ((c : ClientId) → (clock_in w.clocks c).0 ≤ (clock_in v.clocks c).0) → v.clients ≡ w.clients → v.commands ≡ w.commands → v.flushed ≡ w.flushed → length v.servers ≡ length w.servers →
    ((n : ℕ) → list_any (reports_failure n) past ≡ true → list_any (reports_failure n) more ≡ true) → ((c : ClientId) → 1 ≤ c.0 → (f : FileId) (p : PageNo) → latest v.log c f p ≡ latest w.log c f p) → ((P : LogOwner → Type 0) → PendingAll P w.log → PendingAll P v.log) →
    FlushHold past w → FlushHold more v
moved_flush past more w v k ts cs xs fl ns up same fewer h =
    record {
      sites = λ c site e r. subst (λ ys. NodeCared more ys v.log c site) (sym xs) (node_fates past more w.commands w.log v.log c site up (same c (numbered_below w.clients c.0 site (old c site e)).0) fewer (h.sites c site (old c site e) r));
      starts = λ c site e. subst (λ ys. StartsBelow ys c site.starts) (sym xs) (h.starts c site (old c site e));
      flushes = λ x i. right x (h.flushes x (subst (Has x) fl i));
      servers = λ c site e a i. let z = h.servers c site (old c site e) a i in (z.0, subst (λ n. a.server.0 ≤ n) (sym ns) z.1);
    }
  where
    old : (c : ClientId) (site : WorldClient) → numbered v.clients c.0 ≡ Some site → numbered w.clients c.0 ≡ Some site
    old c site e = ap (λ zs. numbered zs c.0) (sym cs) ∙ e

    right : (x : FlushStep) → FlushRight w x → FlushRight v x
    right x r =
        record {
          low = subst (λ (z : Config). x.end.0 + z.flush ≤ (clock_in v.clocks x.client).0 + z.lease) (sym k) (let a = r.low in let b = ts x.client in omega (arith, a, b));
          covered = λ site e q a i y s z d. r.covered site (old x.client site e) q a i y s z (ap (λ (c : Config). (lease.end_of c s.lease).0) (sym k) ∙ d);
        }

pub same_clocks : (w : World) (c : ClientId) → (clock_in w.clocks c).0 ≤ (clock_in w.clocks c).0
same_clocks w c = omega arith

-- Flush steps.
