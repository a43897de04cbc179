-- Before the first event: what holds of each client at a fresh server.
use Rattle.st_lemmas.proofs.Words
use Words.{ℕ, true, [], refl, arith, Some, None, ServerId, Stamp}
use Words.Keys.{client}
use Words.Leases.{steal_wait}
use Words.Client.{fresh_association}
use Words.Server.{fresh_server}
use Words.ClientPages.{empty_store}
use Rattle.st_base.specs.declared.config.Config as base
use Rattle.st_protocol.specs.Assoc.{BeginsAt}
use Rattle.st_laws_refine.specs.Views.Halves.{Ghost, client_at}
use Rattle.st_laws_refine.specs.Server.View.{at, Sound}
use Rattle.st_laws_refine.specs.Server.Pair.{client_view}
use Rattle.st_laws_refine.specs.Server.Invariants.{Compat}

abbrev pub no_ghost : Ghost
no_ghost = record { start = 0; base = 0; gstart = 0; gbase = 0; glife = 0; top = 0; drift = 0; net = [] }

pub fresh_sound : (kb : base.Config) (id : ServerId) (servers disks blocks d : ℕ) (now : Stamp) → Sound d (steal_wait kb) now (fresh_server id kb servers disks blocks) no_ghost
unfolding fresh_server
fresh_sound kb id servers disks blocks d now = record {
  lepoch = refl;
  sepoch = refl;
  await = refl;
  gstart = tt;
  begun = omega arith;
  start = tt;
  once = λ s h e. elim h [ ];
  top = omega arith;
  fresh = λ g. cc;
  timer = λ e. cc;
  graced = λ g. tt;
  rows = λ i. tt;
  waits = λ w h e. elim h [ ];
  kept = tt;
}

pub fresh_begins : (kb : base.Config) (id : ServerId) (s servers disks blocks d : ℕ) (clock now : Stamp) → BeginsAt (at (client_view true (λ l. 0) clock (Some (fresh_association s))) (client d) now (fresh_server id kb servers disks blocks) no_ghost)
unfolding fresh_server
fresh_begins kb id s servers disks blocks d clock now = record {
  leased = refl;
  born = omega arith;
  epoch = refl;
  held = λ i. refl;
  seen = λ i. refl;
  busy = λ i. refl;
  ended = λ l. refl;
  drift = refl;
  up = refl;
  first = refl;
  glife = refl;
  grace = refl;
  session = refl;
  live = refl;
  row = λ i. refl;
  timed = refl;
  net = refl;
}

-- a number that isn't a client begins as well
pub idle_begins : (kb : base.Config) (id : ServerId) (servers disks blocks d clock : ℕ) (now : Stamp) → BeginsAt (at (client_at clock 1 None empty_store (λ l. 0)) (client d) now (fresh_server id kb servers disks blocks) no_ghost)
unfolding fresh_server
idle_begins kb id servers disks blocks d clock now = record {
  leased = refl;
  born = omega arith;
  epoch = refl;
  held = λ i. refl;
  seen = λ i. refl;
  busy = λ i. refl;
  ended = λ l. refl;
  drift = refl;
  up = refl;
  first = refl;
  glife = refl;
  grace = refl;
  session = refl;
  live = refl;
  row = λ i. refl;
  timed = refl;
  net = refl;
}

pub fresh_compat : (kb : base.Config) (id : ServerId) (servers disks blocks : ℕ) → Compat (fresh_server id kb servers disks blocks).locks
unfolding fresh_server
fresh_compat kb id servers disks blocks = record { rows = λ c i r e. cc; waits = λ w h. elim h [ ]; fits = λ c d i r q ne e f. cc }
