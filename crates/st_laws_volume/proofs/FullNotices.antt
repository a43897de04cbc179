-- What open asks that had come before a step have noticed of servers that refused a page in it, since they were full, if full servers
-- have no room in the volume.
use Rattle.st_lemmas.proofs.Words
use Words.{◌≡◌, ◌≤◌, arith, Bool, true, false, ◌==◌, Option, Some, refl, sym, ap, ◌∙◌}
use Words.{eqb-true, filter, length, Ask, ClientId, ServerId}
use Words.Extents.{free, is_mapped}
use Words.Lists.{Has}
use Words.Lookups.{or_right}
use Words.Safety.{Step}
use Rattle.st_laws_volume.specs.Asks.{AsksOf, HasAsksOf}
use Rattle.st_laws_volume.specs.FullServers.{AreFull, LacksRoom}
use Rattle.st_laws_volume.specs.Options.{OnSome}
use Rattle.st_laws_volume.specs.PageBlocks.{ServedHaveRoom, ServesBlock}
use Rattle.st_laws_volume.specs.Refusals.{asks_before}
use Rattle.st_laws_volume.specs.Witness.{Witness, volume_after}
use Rattle.st_laws_volume.proofs.ChangeLines.{on_both}
use Rattle.st_laws_volume.proofs.MarksStay.{AllMarked, Lasts, after_marked}
use Rattle.st_laws_volume.proofs.Notices.{Noticed, each_fixed}
use Rattle.st_laws_volume.proofs.NoticesStay.{all_marked}
use Rattle.st_laws_volume.proofs.Options.{on_more}
use Rattle.st_volume.specs.Volume.{Pending, Volume, is_full, noticing, server_of}

-- The mark, and which asks have it.
abbrev pub its_full : Bool → Bool → Bool → Bool
its_full p q r = q

pub full_lasts : Lasts its_full
full_lasts p true r x y z k = refl
full_lasts p false r x y z k = cc k

abbrev pub at_server : ServerId → Ask → Bool
at_server s ask = (server_of ask).0 == s.0

abbrev pub AllFull : Step → ServerId → ClientId → Volume → Type 0
AllFull y s c v = AllMarked c (asks_before y c) (at_server s) its_full full_lasts v

-- In this step a server that has no free block serves a request for one, for a page that it hasn't mapped.
pub record Lacks (y : Step) (s : ServerId) : Type 0 where
  pub block : ServesBlock y s
  pub full : free block.served.serves.old.state.stable.extents ≡ 0
  pub unmapped : is_mapped block.served.serves.old.state.stable.extents (record { server = s; ino = block.ino }) block.page ≡ false

-- What the open asks that had come before a step have noticed of such servers.
pub record OldFull (y : Step) (o : Option Volume) : Type 0 where
  pub full : (s : ServerId) → Lacks y s → (c : ClientId) → OnSome (AllFull y s c) o

-- a later event leaves it
pub old_on : (y : Step) (it : Witness) (x : Step) (o : Option Volume) → OldFull y o → OldFull y (volume_after it x o)
old_on y it x o h =
    record { full = λ s z c. after_marked c (asks_before y c) (at_server s) its_full full_lasts it x o (h.full s z c) }

-- As an event begins, all open asks of a full server have noticed so.
has_full : (v : Volume) → Noticed v → (s : ServerId) → is_full v s ≡ true → (a : Pending) → Has a v.pending → at_server s a.ask ≡ true → a.full ≡ true
has_full v noticed s f a i q =
    sym (ap (λ (b : Pending). b.full) (each_fixed (noticing v) v.pending noticed a i))
    ∙ or_right a.full (is_full v (server_of a.ask))
    (ap (λ n. is_full v (record { 0 = n })) (eqb-true (server_of a.ask).0 s.0 q) ∙ f)

pub old_now : (x : Step) (o : Option Volume) → OnSome (AreFull x.before.world) o → OnSome (ServedHaveRoom x) o → OnSome Noticed o →
    OnSome (HasAsksOf x.before.world) o → OldFull x o
old_now x o room wanted noticed asks = record { full = full }
  where
    both : OnSome (λ v. (AreFull x.before.world v × ServedHaveRoom x v) × (Noticed v × HasAsksOf x.before.world v)) o
    both =
        on_both (λ v. AreFull x.before.world v × ServedHaveRoom x v) (λ v. Noticed v × HasAsksOf x.before.world v) o
        (on_both (AreFull x.before.world) (ServedHaveRoom x) o room wanted) (on_both Noticed (HasAsksOf x.before.world) o noticed asks)

    lacks : (v : Volume) → ServedHaveRoom x v → (s : ServerId) → Lacks x s → LacksRoom x.before.world v s
    lacks v h s z =
        record {
          node = z.block.served.serves.old;
          there = z.block.served.serves.was;
          full = z.full;
          file = record { server = s; ino = z.block.ino };
          page = z.block.page;
          own = refl;
          wanted = h s z.block;
          unmapped = z.unmapped;
        }

    counted : (v : Volume) → HasAsksOf x.before.world v → (c : ClientId) → asks_before x c ≤ length (filter (λ y. y.0.0 == c.0) v.asked)
    counted v h c = let e = ap (λ (a : AsksOf). a.count) (h c) in no e
      where
        no : length (filter (λ y. y.0.0 == c.0) v.asked) ≡ asks_before x c → asks_before x c ≤ length (filter (λ y. y.0.0 == c.0) v.asked)
        no e = omega (arith, e)

    full : (s : ServerId) → Lacks x s → (c : ClientId) → OnSome (AllFull x s c) o
    full s z c =
        on_more (λ v. (AreFull x.before.world v × ServedHaveRoom x v) × (Noticed v × HasAsksOf x.before.world v)) (AllFull x s c)
        (λ v k. all_marked c (asks_before x c) (at_server s) its_full full_lasts v
        (λ a i q. has_full v k.1.0 s (k.0.0 s (lacks v k.0.1 s z)) a i q) (counted v k.1.1 c)) o both
