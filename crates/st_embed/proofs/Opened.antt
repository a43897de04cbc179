-- An opened server.
use Rattle.st_lemmas.proofs.Words
use Words.{◌≡◌, ℕ, zero, suc, ◌<◌, ◌≤◌, true, refl, sym, arith, subst, List, length, Option, Some, IfSome, Result, Ok, Err, IfOk, OnOk}
use Words.{Config, ServerId, Stamp}
use Words.Server.{Stable, start_node}
use Rattle.std.specs.Prelude.{IfErr}
use Rattle.st_journal.specs.Changes.{bytes_of, fits}
use Rattle.st_journal.specs.OpenedJournal.{room_behind, room_for}
use Rattle.st_journal.specs.declared.change.Change.{Change}
use Rattle.st_journal.specs.declared.change.Change.TheVariants.{Epoch}
use Rattle.st_embed.proofs.StableParts.{record_long}
use Rattle.st_server.specs.Restart.{crashed_node}
use Rattle.st_journal.specs.Journal.{StandsFor}
use Rattle.st_embed.specs.Servers.{MayOpen, NotOpened, NotStarted, NotStartedAfter, begun, start_of}
use Rattle.st_embed.specs.declared.fault.ServerFault.{ServerFault}
use Rattle.st_embed.specs.declared.fault.ServerFault.TheVariants as opening
use Rattle.st_embed.specs.declared.server.Shape.{Shape}

pub if_ok : {A E : Type 0} (r : Result A E) (P Q : A → Type 0) → ((x : A) → P x → Q x) → IfOk r P → IfOk r Q
if_ok (Ok x) P Q f h = f x h
if_ok (Err e) P Q f h = h

pub if_err : {A E : Type 0} (r : Result A E) (P Q : E → Type 0) → ((e : E) → P e → Q e) → IfErr r P → IfErr r Q
if_err (Ok x) P Q f h = h
if_err (Err e) P Q f h = f e h

pub on_both : {A E : Type 0} (r : Result A E) (P Q R : Type 0) → (P → Q → R) → OnOk r P → OnOk r Q → OnOk r R
on_both (Ok x) P Q R f g h = f g h
on_both (Err e) P Q R f g h = h

pub begun_later : (id : ServerId) (k : Config) (w : Shape) (now : Stamp) (n : ℕ) (t : Stable) → 0 < n → start_node (crashed_node id k t) now ≡ begun id k w now n t
begun_later id k w now zero t few = absurd (omega (arith, few))
begun_later id k w now (suc n) t few = refl

-- a record that begins an epoch has six bytes
pub epoch_room : (size gate : ℕ) → 526 ≤ room_behind size gate → room_for Epoch ≤ room_behind size gate
unfolding bytes_of
epoch_room size gate room = omega (arith, room, record_long Epoch)

pub epoch_placed : (o : Option Change) (size gate : ℕ) → o ≡ Some Epoch → 526 ≤ room_behind size gate → IfSome o (λ x. (fits x ≡ true) × (room_for x ≤ room_behind size gate))
unfolding fits
epoch_placed o size gate e room = subst (λ (c : Option Change). IfSome c (λ x. (fits x ≡ true) × (room_for x ≤ room_behind size gate))) (sym e) (refl, epoch_room size gate room)

-- Why an opened journal's server is not started.

pub not_started : (n : ℕ) (t : Stable) (f : ServerFault) → 1 ≤ n → NotStarted t f → NotStartedAfter n t f
not_started n t (opening.Settings r) some h = (some, h)
not_started n t opening.Shape some h = (some, h)
not_started n t opening.Time some h = (some, h)
not_started n t opening.Size some h = (some, h)
not_started n t (opening.Damaged at) some h = (some, h)
not_started n t opening.Full some h = (some, h)
not_started n t opening.NoEpoch some h = (some, h)
not_started n t opening.Epochs some h = (some, h)
not_started n t opening.Memory some h = tt

pub not_started_fresh : (n : ℕ) (t : Stable) (f : ServerFault) → f ≡ opening.Memory → NotStartedAfter n t f
not_started_fresh n t f e = subst (λ (g : ServerFault). NotStartedAfter n t g) (sym e) tt

pub not_opened : (id : ServerId) (k : Config) (w : Shape) (now : Stamp) (bytes : List ℕ) (n : ℕ) (xs : List Change) (t : Stable) (f : ServerFault) → MayOpen id k w now (length bytes) →
    StandsFor (start_of id w) bytes xs t → n ≡ length xs → NotStartedAfter n t f → NotOpened id k w now bytes f
not_opened id k w now bytes n xs t (opening.Settings r) may stands count h = absurd h.1
not_opened id k w now bytes n xs t opening.Shape may stands count h = absurd h.1
not_opened id k w now bytes n xs t opening.Time may stands count h = absurd h.1
not_opened id k w now bytes n xs t opening.Size may stands count h = absurd h.1
not_opened id k w now bytes n xs t (opening.Damaged at) may stands count h = absurd h.1
not_opened id k w now bytes n xs t opening.Full may stands count h = absurd h.1
not_opened id k w now bytes n xs t opening.NoEpoch may stands count h = (may, record { changes = xs; some = omega (arith, count, h.0); stable = t; stands = stands; why = h.1 })
not_opened id k w now bytes n xs t opening.Epochs may stands count h = (may, record { changes = xs; some = omega (arith, count, h.0); stable = t; stands = stands; why = h.1 })
not_opened id k w now bytes n xs t opening.Memory may stands count h = may
