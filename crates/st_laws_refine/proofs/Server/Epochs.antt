-- Time that passes, and a server that stops and starts, for one client: what holds before it holds after it.
use Rattle.st_lemmas.proofs.Words
use Words.{◌≡◌, ℕ, ◌+◌, ◌^◌, ◌<◌, ◌≤◌, Bool, true, false, refl, sym, ap, arith, lt-ltb, Option, Some, None, ltb-false, le-ltb, Stamp}
use Words.Leases.{steal_wait}
use Words.Grace as grace
use Words.Grace.{Grace}
use Words.Server.{ServerState, begin_epoch, start, crash}
use Rattle.st_laws_refine.specs.Views.Halves.{Ghost}
use Rattle.st_laws_refine.specs.Server.View.{GraceIs, Sound, Stopped}

pub later_off : (now later : Stamp) (o : Option Grace) → now.0 ≤ later.0 → grace.is_on o now ≡ false → grace.is_on o later ≡ false
later_off now later None h e = refl
later_off now later (Some s) h e = let z = ltb-false now.0 (s.start.0 + s.wait) e in le-ltb later.0 (s.start.0 + s.wait) (omega arith)

pub ends_at : (wait : ℕ) (now later : Stamp) (o : Option Grace) (gstart : ℕ) → GraceIs wait o gstart → grace.is_on o now ≡ true → grace.is_on o later ≡ false → gstart + wait ≤ later.0
ends_at wait now later None gstart g e f = cc
ends_at wait now later (Some s) gstart g e f = let z = ltb-false later.0 (s.start.0 + s.wait) f in let a = g.wait in let b = g.start in omega arith

-- time passes at a server that runs
pub sound_later : (d wait : ℕ) (n : ServerState) (x : Ghost) (now later : Stamp) (e : ℕ) → now.0 ≤ later.0 → Sound d wait now n x → Sound d wait later n (record x { drift = e })
sound_later d wait n x now later e up s = record {
  lepoch = s.lepoch;
  sepoch = s.sepoch;
  await = s.await;
  gstart = s.gstart;
  begun = let b = s.begun in omega arith;
  start = s.start;
  once = s.once;
  top = s.top;
  fresh = λ g. s.fresh (on (grace.is_on n.grace now) refl g);
  timer = s.timer;
  graced = λ g. s.graced (on (grace.is_on n.grace now) refl g);
  rows = s.rows;
  waits = s.waits;
  kept = s.kept;
}
  where
    on : (b : Bool) → grace.is_on n.grace now ≡ b → grace.is_on n.grace later ≡ true → grace.is_on n.grace now ≡ true
    on true f g = f
    on false f g = let z = later_off now later n.grace up f in cc

-- a server that is down has no grace
pub stopped_off : (wait : ℕ) (n : ServerState) (x : Ghost) (now : Stamp) → Stopped wait n x → grace.is_on n.grace now ≡ false
unfolding crash
stopped_off wait n x now s = ap (λ (m : ServerState). grace.is_on m.grace now) (sym s.emptied)

-- a server stops: its next epoch's grants are above all earlier ones
pub stops : (d wait : ℕ) (n : ServerState) (x : Ghost) (now : Stamp) → Sound d wait now n x → n.locks.grants < 2 ^ 32 → Stopped wait (crash n) x
unfolding crash
stops d wait n x now s few = record { emptied = refl; top = let a = s.top in let b = ap (λ e. e.0) s.lepoch in omega arith }

-- a server starts
pub starts : (d wait : ℕ) (n : ServerState) (x : Ghost) (now : Stamp) (base life : ℕ) → 0 < wait → steal_wait n.config ≡ wait → Stopped wait n x → Sound d wait now (start n now) (record x { gstart = now.0; gbase = base; glife = life })
unfolding start begin_epoch
starts d wait n x now base life pos w dn = record {
  lepoch = refl;
  sepoch = refl;
  await = w;
  gstart = record { wait = w; start = refl };
  begun = omega arith;
  start = tt;
  once = λ s h e. elim h [ ];
  top = let a = dn.top in omega arith;
  fresh = λ g. dn.top;
  timer = λ e. cc;
  graced = λ g. tt;
  rows = λ i. tt;
  waits = λ w h e. elim h [ ];
  kept = tt;
}

-- its grace is on at once
pub grace_on : (wait : ℕ) (n : ServerState) (now : Stamp) → 0 < wait → steal_wait n.config ≡ wait → grace.is_on (start n now).grace now ≡ true
unfolding start begin_epoch
grace_on wait n now pos w = lt-ltb now.0 (now.0 + steal_wait n.config) (omega arith)
