-- What leaves the log, and what does not.
use Rattle.std.proofs.Common.{◌≡◌, ℕ, zero, suc, ◌+◌, ◌<◌, List, [], ◌∷◌, ◌++◌, length, refl, ap, arith}
use Rattle.std.specs.Prelude.{Option, Some, None}
use Rattle.std.proofs.lemmas.Option.{slice_get_past}
use Rattle.st_world_parts.specs.Pieces.{lost}
use Rattle.st_rules.specs.declared.log.Fate.{Fate}
use Rattle.st_rules.specs.declared.log.Fate.TheVariants.{Pending, Hard, Gone}
use Rattle.st_rules.specs.declared.log.LogEntry.{LogEntry}
use Rattle.st_rules.specs.declared.world.SentMessage.{SentMessage}
use Rattle.st_rules.specs.FlatLog.{entry_at, harden, harden_at}
use Rattle.st_rules.specs.World.{World, message_of, numbered}
use Rattle.st_rules.specs.Events.{fate_seen, fates_from, loses_message, marks, quiet, world_turn}

-- the network of a world in which a message is lost
loses_by : (w : World) (k : ℕ) (o : Option SentMessage) → o ≡ numbered w.net.messages k → record w { net = lost k w.net } ≡ loses_message w k o
unfolding loses_message
loses_by w k None h = rw (← h) refl
loses_by w k (Some m) h = rw (← h) refl

pub loses_is : (w : World) (k : ℕ) → record w { net = lost k w.net } ≡ loses_message w k (message_of w k)
loses_is w k = loses_by w k (message_of w k) refl

fate_stays : (n : ℕ) (f : Fate) → fate_seen n f f ≡ []
fate_stays n Pending = refl
fate_stays n Hard = refl
fate_stays n (Gone c) = refl

fates_stay : (n : ℕ) (es : List LogEntry) → fates_from n es es ≡ []
unfolding fates_from
fates_stay n [] = refl
fates_stay n (e ∷ es) = λ i. fate_stays n e.fate i ++ fates_stay (n + 1) es i

-- a log that stays
pub marks_nothing : (w : World) → marks w w.log ≡ quiet w
unfolding marks
marks_nothing w = ap (world_turn w) (fates_stay 1 w.log)

-- no entry has number 0
pub hard_none : (w : World) (index : ℕ) → index ≡ 0 → marks w (harden w.log index) ≡ quiet w
unfolding harden harden_at
hard_none w index h = rw h (marks_nothing w)

past_none : (es : List LogEntry) (index : ℕ) → length es < index → entry_at es index ≡ None
past_none es zero h = absurd (omega arith)
past_none es (suc n) h = slice_get_past es n (omega (arith, h))

-- there is no entry past the last one
pub hard_past : (w : World) (index : ℕ) → length w.log < index → marks w (harden w.log index) ≡ quiet w
unfolding harden harden_at
hard_past w index h = rw (past_none w.log index h) (marks_nothing w)
