-- A number under which a file is changed is below all that is granted later, to any client.
use Rattle.st_lemmas.proofs.Words
use Words.{◌≡◌, ◌≢◌, ℕ, ◌+◌, ◌<◌, ◌≤◌, Bool, true, false, refl, arith, if◌then◌else◌, nat_lt, ltb-false, ltb-true, Stamp}
use Words.nodes
use Words.Keys.{client}
use Words.Server.{ServerNode, ServerState}
use Words.World.{World, clock_of, server}
use Rattle.st_protocol.specs.Assoc.{Alive, Assoc, Config, ConfigOk, Moves, Rises, Stays, GoesOn, Works, upd}
use Rattle.st_protocol.proofs.World.{invariant}
use Rattle.st_laws_refine.specs.Views.Halves.{Ghost}
use Rattle.st_laws_refine.specs.Server.Pair.{client_in, pair}
use Rattle.st_laws_refine.specs.Server.Invariants.{pairs}
use Rattle.st_laws_refine.specs.Server.View.{StandsAt}
use Rattle.st_laws_leases.specs.Sides.Invariants.{Both}
use Rattle.st_laws_leases.specs.Sides.World.{ServerStands}
use Rattle.st_laws_leases.specs.Order.Paths.{AllBelow, OrderedServer}
use Rattle.st_laws_leases.proofs.Order.Changes.{changed, cut}
use Rattle.st_laws_refine.proofs.Server.Runs.{rows_fit}

-- the greater of two numbers
greater : ℕ → ℕ → ℕ
greater a b = if nat_lt a b then b else a

-- which of them it is
data Which (a b : ℕ) : ℕ → Type 0 where
  First : b ≤ a → Which a b a
  Second : a < b → Which a b b

which : (a b : ℕ) → Which a b (greater a b)
unfolding greater
which a b = go (nat_lt a b) refl
  where
    go : (x : Bool) → nat_lt a b ≡ x → Which a b (if x then b else a)
    go true e = Second (ltb-true a b e)
    go false e = First (ltb-false a b e)

with_top : Ghost → ℕ → Ghost
with_top x n = record x { top = n }

module _ (k : Config) (s : ℕ) (w : World) (node : ServerNode) (ended : ℕ → ℕ → ℕ) (G : ℕ → Ghost) (c : ℕ) where
  -- the ghosts with tops that are not below that of a client
  raised : ℕ → Ghost
  raised d = with_top (G d) (greater (G d).top (G c).top)

  by_top : (d n : ℕ) → Which (G d).top (G c).top n → Moves k (pair d s (ended d) w node (G d)) (pair d s (ended d) w node (with_top (G d) n))
  unfolding with_top
  by_top d _ (First h) = Stays (pair d s (ended d) w node (G d))
  by_top d _ (Second h) = GoesOn (Rises (pair d s (ended d) w node (G d)) (G c).top h) refl (Stays (pair d s (ended d) w node (with_top (G d) (G c).top)))

  sound_top : (d n : ℕ) (r : Bool) (now : Stamp) (x : ServerState) → Which (G d).top (G c).top n → StandsAt d k.wait now r x (G d) → StandsAt c k.wait now r x (G c) → StandsAt d k.wait now r x (with_top (G d) n)
  unfolding with_top
  sound_top d n true now x h o p =
      record {
        lepoch = o.lepoch;
        sepoch = o.sepoch;
        await = o.await;
        gstart = o.gstart;
        begun = o.begun;
        start = o.start;
        once = o.once;
        top = least n h;
        fresh = λ e. fresh n h e;
        timer = o.timer;
        graced = o.graced;
        rows = o.rows;
        waits = o.waits;
        kept = o.kept;
      }
    where
      least : (n : ℕ) → Which (G d).top (G c).top n → n ≤ Rattle.st_rules.specs.Locks.first_after x.locks.epoch + x.locks.grants
      least _ (First l) = o.top
      least _ (Second l) = p.top

      fresh : (n : ℕ) → Which (G d).top (G c).top n → Rattle.st_rules.specs.Grace.is_on x.grace now ≡ true → n < Rattle.st_rules.specs.Locks.first_after x.stable.epoch
      fresh _ (First l) e = o.fresh e
      fresh _ (Second l) e = p.fresh e
  sound_top d n false now x h o p = record { emptied = o.emptied; top = least n h }
    where
      least : (n : ℕ) → Which (G d).top (G c).top n → n < Rattle.st_rules.specs.Locks.first_after (Rattle.st_rules.specs.Server.next_epoch x.stable.epoch)
      least _ (First l) = o.top
      least _ (Second l) = p.top

  both_raised : Both k s w node ended G → Both k s w node ended raised
  unfolding raised with_top
  both_raised b =
      record {
        stands = record {
          reached = Works b.stands.reached (record { each = λ d. by_top d _ (which (G d).top (G c).top); table = λ u v z. z });
          served = λ d. let q = b.stands.served d in
              record {
                found = q.found;
                id = q.id;
                terms = q.terms;
                stands = sound_top d _ node.running (clock_of w (nodes.Server (server s))) node.state (which (G d).top (G c).top) q.stands (b.stands.served c).stands;
                wires = q.wires;
              };
          compat = b.stands.compat;
        };
        clients = b.clients;
        ends = b.ends;
        few = b.few;
      }

  above : (d : ℕ) → (G c).top ≤ (raised d).top
  unfolding raised with_top
  above d = go _ (which (G d).top (G c).top)
    where
      go : (n : ℕ) → Which (G d).top (G c).top n → (G c).top ≤ n
      go _ (First l) = l
      go _ (Second l) = omega arith

  below_raised : (H : ℕ → ℕ) → AllBelow k H s ended w node G → AllBelow k H s ended w node raised
  unfolding raised with_top
  below_raised H o d =
      record {
        rows = (o d).rows;
        held = (o d).held;
        comes = (o d).comes;
        asserts = (o d).asserts;
        top = λ i. let z = (o d).top i in go _ (which (G d).top (G c).top) z;
      }
    where
      go : {x : ℕ} (n : ℕ) → Which (G d).top (G c).top n → x ≤ (G d).top → x ≤ n
      go _ (First l) z = z
      go _ (Second l) z = omega (arith, l, z)

-- A server's associations once a file of it was changed.
module _ (k : Config) (ok : ConfigOk k) (w : World) (s : ℕ) (node : ServerNode) (H : ℕ → ℕ) (q : OrderedServer k w s node H) where
  abbrev z : ServerStands k w s node
  z = q.stands

  raised_stands : (c : ℕ) → ServerStands k w s node
  unfolding raised with_top
  raised_stands c =
      record {
        ended = z.ended;
        ghosts = raised k s w node z.ended z.ghosts c;
        both = both_raised k s w node z.ended z.ghosts c z.both;
        timed = record { terms = z.timed.terms; tall = z.timed.tall; wide = z.timed.wide; count = z.timed.count; known = z.timed.known; idle = z.timed.idle };
        calm = z.calm;
        few = z.few;
      }

  -- a client of the world
  abbrev pub view : ℕ → Rattle.st_protocol.specs.Assoc.Client
  view c = client_in w c s (z.ended c)

  -- a change under an exclusive lock
  pub change : (c i : ℕ) → Alive k (view c) → 2 ≤ ((view c).held i).mode → OrderedServer k w s node (upd H i ((view c).held i).g)
  unfolding raised_stands
  change c i al two = record { stands = raised_stands c; below = changed k ok (pairs s z.ended w node R) both.stands.reached c i al two H (below_raised k s w node z.ended z.ghosts c H q.below) low }
    where
      R : ℕ → Ghost
      R = raised k s w node z.ended z.ghosts c

      both : Both k s w node z.ended (raised k s w node z.ended z.ghosts c)
      both = both_raised k s w node z.ended z.ghosts c z.both

      low : (d : ℕ) → ((view c).held i).g ≤ (raised k s w node z.ended z.ghosts c d).top
      low d = let a = above k s w node z.ended z.ghosts c d in let b = (invariant k (pairs s z.ended w node z.ghosts) ok z.both.stands.reached c).locks_.below i in omega (arith, a, b)

  -- the row of a client
  abbrev pub row : ℕ → ℕ → Rattle.st_protocol.specs.Assoc.Row
  row c i = Rattle.st_laws_refine.specs.Views.Halves.row_or (Rattle.st_laws_refine.specs.Views.Halves.row_view (Rattle.st_rules.specs.Locks.row_of node.state.locks (client c) i))

  -- a cut under an exclusive row
  pub cut_row : (c i : ℕ) → 2 ≤ (row c i).mode → OrderedServer k w s node (upd H i (row c i).g)
  unfolding raised_stands
  cut_row c i two = record { stands = raised_stands c; below = cut k ok (pairs s z.ended w node R) both.stands.reached c i two H (below_raised k s w node z.ended z.ghosts c H q.below) single low }
    where
      R : ℕ → Ghost
      R = raised k s w node z.ended z.ghosts c

      both : Both k s w node z.ended (raised k s w node z.ended z.ghosts c)
      both = both_raised k s w node z.ended z.ghosts c z.both

      small : (n : ℕ) → (2 ≤ n → ⊥) → n < 2
      small n f = go (nat_lt n 2) refl
        where
          go : (b : Bool) → nat_lt n 2 ≡ b → n < 2
          go true e = ltb-true n 2 e
          go false e = absurd (f (ltb-false n 2 e))

      single : (d : ℕ) → d ≢ c → (row d i).mode < 2
      single d ne = small (row d i).mode (λ t. let y = rows_fit node.state.locks (client d) (client c) i z.both.stands.compat ne (omega (arith, t)) (omega (arith, two)) in omega (arith, y, t, two))

      low : (d : ℕ) → (row c i).g ≤ (raised k s w node z.ended z.ghosts c d).top
      low d = let a = above k s w node z.ended z.ghosts c d in let b = ((invariant k (pairs s z.ended w node z.ghosts) ok z.both.stands.reached c).locks_.rows i (omega (arith, two))).below in omega (arith, a, b)
