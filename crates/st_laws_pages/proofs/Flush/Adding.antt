-- What the outputs of a client's step add to the commands and the log of the world: one after another, and by each change.
use Rattle.st_lemmas.proofs.Words
use Words.{◌≡◌, ℕ, List, [], ◌∷◌, ◌++◌, Option, Some, None, refl, ap, ◌∙◌, BlockAt, Command, ClientId, Note, Output, DiskCommand, IssuedCommand, append_assoc}
use Words.notes
use Words.outputs
use Words.Disks as disks
use Words.ClientState.{ClientState}
use Words.World.{WorldClient, numbered, site_of}
use Words.Events as ev
use Words.Events.{WorldTurn, client_says, client_says_all, client_notes}
use Words.Numbers.{numbered_old}
use Words.Lengths.{nothing_after}
use Words.Versions.{command_old}
use Words.Worlds.{says_both}
use Rattle.st_laws_pages.proofs.Lives.Turning.{says_one}
use Rattle.st_laws_pages.proofs.Flush.Growing.{AddsNothing}

-- More was said.
pub record Grows (os ps : List Output) : Type 0 where
  pub more : List Output
  pub out : ps ≡ os ++ more

pub grows_none : (os : List Output) → Grows os os
grows_none os = record { more = []; out = nothing_after os }

pub grows_then : (os ps qs : List Output) → Grows os ps → Grows ps qs → Grows os qs
grows_then os ps qs a b = record { more = a.more ++ b.more; out = b.out ∙ ap (λ z. z ++ b.more) a.out ∙ append_assoc os a.more b.more }

-- The scene after outputs.
abbrev pub After : ClientId → ClientState → WorldTurn → List Output → WorldTurn
After c before sc os = client_says_all c before os sc

pub after_clients : (c : ClientId) (before : ClientState) (os : List Output) (sc : WorldTurn) → (After c before sc os).world.clients ≡ sc.world.clients
unfolding client_says_all
after_clients c before [] sc = refl
after_clients c before (o ∷ os) sc = after_clients c before os (client_says sc c before o) ∙ (says_one c before o sc).clients

-- outputs that change neither the commands nor the log: answers, and notes of losses
abbrev pub IsStill : Output → Type 0
IsStill (outputs.Answer op a) = Unit {0}
IsStill (outputs.Note (notes.Lost s life)) = Unit {0}
IsStill o = ⊥

abbrev pub AllStill : List Output → Type 0
AllStill [] = Unit {0}
AllStill (o ∷ os) = record { one : IsStill o; rest : AllStill os }

still_one : (c : ClientId) (before : ClientState) (sc : WorldTurn) (o : Output) → IsStill o → AddsNothing sc.world.commands (client_says sc c before o).world.commands sc.world.log (client_says sc c before o).world.log
unfolding client_says ev.answers_with client_notes ev.loses
still_one c before sc (outputs.Send m) p = absurd p
still_one c before sc (outputs.Submit n at what) p = absurd p
still_one c before sc (outputs.Answer op a) p = record { commands = refl; log = refl }
still_one c before sc (outputs.Note n) p = go n p
  where
    go : (n : Note) → IsStill (outputs.Note n) → AddsNothing sc.world.commands (client_notes sc c before n).world.commands sc.world.log (client_notes sc c before n).world.log
    go (notes.Lost s life) p = record { commands = refl; log = refl }
    go n p = absurd p

pub still_adds : (c : ClientId) (before : ClientState) (os : List Output) (sc : WorldTurn) → AllStill os → AddsNothing sc.world.commands (After c before sc os).world.commands sc.world.log (After c before sc os).world.log
unfolding client_says_all
still_adds c before [] sc h = record { commands = refl; log = refl }
still_adds c before (o ∷ os) sc h =
    let a = still_one c before sc o h.one in
    let b = still_adds c before os (client_says sc c before o) h.rest in
    record { commands = b.commands ∙ a.commands; log = b.log ∙ a.log }

-- More outputs that add nothing.
pub more_still : (c : ClientId) (before : ClientState) (sc : WorldTurn) (os ps : List Output) → AllStill ps → AddsNothing (After c before sc os).world.commands (After c before sc (os ++ ps)).world.commands (After c before sc os).world.log (After c before sc (os ++ ps)).world.log
more_still c before sc os ps h =
    let a = still_adds c before ps (After c before sc os) h in
    record { commands = ap (λ (s : WorldTurn). s.world.commands) (says_both c before os ps sc) ∙ a.commands; log = ap (λ (s : WorldTurn). s.world.log) (says_both c before os ps sc) ∙ a.log }

-- Existing commands stay, each with its disk command.
pub after_numbered : (c : ClientId) (before : ClientState) (os : List Output) (sc : WorldTurn) (k : ℕ) (x : IssuedCommand) → numbered sc.world.commands k ≡ Some x → numbered (After c before sc os).world.commands k ≡ Some x
unfolding client_says_all client_says client_notes ev.sends ev.submits ev.answers_with ev.accepts ev.patches ev.loses
after_numbered c before [] sc k x i = i
after_numbered c before (o ∷ os) sc k x i = after_numbered c before os (client_says sc c before o) k x (one o)
  where
    note : (n : Note) → numbered (client_notes sc c before n).world.commands k ≡ Some x
    note (notes.Accepted f p bytes) = i
    note (notes.Patched f p at bytes) = i
    note (notes.Lost s life) = i
    note n = i

    submit : (number : ℕ) (at : BlockAt) (what : Command) (s : Option WorldClient) → numbered (ev.submits sc c s number at what).world.commands k ≡ Some x
    submit number at what None = i
    submit number at what (Some site) = numbered_old sc.world.commands _ k x i

    one : (o : Output) → numbered (client_says sc c before o).world.commands k ≡ Some x
    one (outputs.Send m) = i
    one (outputs.Submit number at what) = submit number at what (site_of sc.world c)
    one (outputs.Answer op a) = i
    one (outputs.Note n) = note n

pub after_disk : (c : ClientId) (before : ClientState) (os : List Output) (sc : WorldTurn) (k : ℕ) (x : DiskCommand) → disks.command_at sc.world.disks.commands k ≡ Some x → disks.command_at (After c before sc os).world.disks.commands k ≡ Some x
unfolding client_says_all client_says client_notes ev.sends ev.submits ev.answers_with ev.accepts ev.patches ev.loses
after_disk c before [] sc k x i = i
after_disk c before (o ∷ os) sc k x i = after_disk c before os (client_says sc c before o) k x (one o)
  where
    note : (n : Note) → disks.command_at (client_notes sc c before n).world.disks.commands k ≡ Some x
    note (notes.Accepted f p bytes) = i
    note (notes.Patched f p at bytes) = i
    note (notes.Lost s life) = i
    note n = i

    submit : (number : ℕ) (at : BlockAt) (what : Command) (s : Option WorldClient) → disks.command_at (ev.submits sc c s number at what).world.disks.commands k ≡ Some x
    submit number at what None = i
    submit number at what (Some site) = command_old sc.world.disks.commands _ k x i

    one : (o : Output) → disks.command_at (client_says sc c before o).world.disks.commands k ≡ Some x
    one (outputs.Send m) = i
    one (outputs.Submit number at what) = submit number at what (site_of sc.world c)
    one (outputs.Answer op a) = i
    one (outputs.Note n) = note n
