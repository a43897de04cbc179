-- What holds of a client that does not run as the log changes elsewhere, and of one that runs as its clock goes on.
use Rattle.st_lemmas.proofs.Words
use Words.{◌≡◌, ℕ, ◌≤◌, Bool, false, List, [], ◌∷◌, ◌++◌, Option, Some, None, arith, ClientId, FileId, PageNo, Cause, LogEntry, LogOwner, Carried}
use Words.ClientState.{Association, ClientSession}
use Words.Events as ev
use Words.FlatLog as log
use Words.FlatLog.{is_of_client}
use Rattle.st_laws_refine.specs.Client.Invariants.{Lasts}
use Rattle.st_laws_reads.specs.Copies.Law.{AllLived, EachStands, AllWhile}
use Rattle.st_laws_reads.specs.Copies.World.{ClientRests, RestsStay, ClocksKeepCopies}
use Rattle.st_laws_reads.proofs.Copies.Others.{lived_more, lived_hard}
use Rattle.st_laws_reads.proofs.Copies.Drops.{lived_drop}

module _ (c : ClientId) (es : List LogEntry) where
  all_more : (e : LogEntry) → is_of_client c e.of ≡ false → (xs : List Association) → AllLived c es xs → AllLived c (es ++ e ∷ []) xs
  all_more e n [] h = record {}
  all_more e n (a ∷ xs) h = record { one = lived_more c a.server a.life es e n h.one; rest = all_more e n xs h.rest }

  all_hard : (i : ℕ) (o : LogOwner) (xs : List Association) → AllLived c es xs → AllLived c (log.harden_from 1 i o es) xs
  all_hard i o [] h = record {}
  all_hard i o (a ∷ xs) h = record { one = lived_hard c a.server a.life 1 i o es h.one; rest = all_hard i o xs h.rest }

  all_drop : (picked : ℕ → LogOwner → Bool) (cause : FileId → PageNo → Cause) (xs : List Association) → AllLived c es xs → AllLived c (log.drop_picked es picked cause) xs
  unfolding log.drop_picked
  all_drop picked cause [] h = record {}
  all_drop picked cause (a ∷ xs) h = record { one = lived_drop picked cause c a.server a.life 1 es h.one; rest = all_drop picked cause xs h.rest }

pub rests_law : RestsStay
unfolding log.harden log.harden_at
rests_law c es s h =
    record {
      entry = λ e n. record { apart = h.apart; lived = all_more c es e n s.associations h.lived };
      effect = effect;
      drop = λ picked cause. record { apart = h.apart; lived = all_drop c es picked cause s.associations h.lived };
    }
  where
    at : (i : ℕ) (o : Option LogEntry) → AllLived c (log.harden_at es i o) s.associations
    at i None = h.lived
    at i (Some e) = all_hard c es i e.of s.associations h.lived

    effect : (x : Option Carried) → ClientRests c (ev.log_hard es x) s
    effect None = h
    effect (Some x) = record { apart = h.apart; lived = at x.index (log.entry_at es x.index) }

-- Clocks.
pub lasts_before : (lease now then_ : ℕ) → now ≤ then_ → (o : Option ClientSession) → Lasts lease then_ o → Lasts lease now o
lasts_before lease now then_ le None l = record {}
lasts_before lease now then_ le (Some s) l = omega (arith, le, l)

all_behind : (lease now : ℕ) (c : ClientId) (es : List LogEntry) (xs : List Association) → EachStands c es xs → AllWhile lease now c es xs
all_behind lease now c es [] h = record {}
all_behind lease now c es (a ∷ xs) h = record { one = record { lived = h.one.lived; lasting = λ l. h.one }; rest = all_behind lease now c es xs h.rest }

all_later : (lease now then_ : ℕ) → now ≤ then_ → (c : ClientId) (es : List LogEntry) (xs : List Association) → AllWhile lease now c es xs → AllWhile lease then_ c es xs
all_later lease now then_ le c es [] h = record {}
all_later lease now then_ le c es (a ∷ xs) h =
    record { one = record { lived = h.one.lived; lasting = λ l. h.one.lasting (lasts_before lease now then_ le a.session l) }; rest = all_later lease now then_ le c es xs h.rest }

pub clocks_law : ClocksKeepCopies
clocks_law asked_as c es now s =
    record {
      behind = λ h. record { apart = h.apart; copies = all_behind s.config.lease now.0 c es s.associations h.copies; asked = h.asked };
      later = λ t le h. record { apart = h.apart; copies = all_later s.config.lease now.0 t.0 le c es s.associations h.copies; asked = h.asked };
    }
