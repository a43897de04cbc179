-- A step of a server inside another program.
use Rattle.st_lemmas.proofs.Words
use Words.{◌≡◌, ℕ, ◌≤◌, Bool, true, false, List, refl, sym, ap, subst, ◌∙◌, arith, if◌then◌else◌, Option, Some, None, IfSome, is_some, Stamp, Body, Message, Output}
use Words.Server.{Stable}
use Rattle.st_durable.specs.Durable.{DurableServer, Tells, asked_of}
use Rattle.st_journal.specs.Changes.{fits}
use Rattle.st_journal.specs.OpenedJournal.{room_behind, room_for}
use Rattle.st_journal.specs.declared.change.Change.{Change}
use Rattle.st_journal.proofs.ScannedBytes.{bytes_few}
use Rattle.st_node.specs.Runs.{handle}
use Rattle.st_node.specs.declared.node.Node.TheVariants.{Server}
use Rattle.st_embed.specs.Servers.{EmbeddedServer, IsAskedBy, MayStep, Steps}
use Rattle.st_embed.specs.StepOutputs.{server_outputs}
use Rattle.st_embed.proofs.StableParts.{record_long}

some_is : {A : Type 0} (x y : A) → Some x ≡ Some y → x ≡ y
some_is x y e = cc

-- what holds of a value that is there
pub of_some : {A : Type 0} (o : Option A) (x : A) (P : A → Type 0) → o ≡ Some x → IfSome o P → P x
of_some None x P e h = absurd cc
of_some (Some y) x P e h = subst P (some_is y x e) h

-- a journal that has room for any record has room for the one that is asked for
pub has_placed : (old new : Stable) (body : Body) (o : Option Change) (size gate : ℕ) → (is_some (asked_of body) ≡ true → 526 ≤ room_behind size gate) → Tells old new o → IsAskedBy body o →
    IfSome o (λ x. (fits x ≡ true) × (room_for x ≤ room_behind size gate))
has_placed old new body None size gate room told asked = tt
has_placed old new body (Some x) size gate room made asked = (made.ranges, omega (arith, room (ap is_some asked), bytes_few x made.ranges, record_long x))

-- what must be kept, if that is reported
kept_is : (o : Option Change) (b : Bool) → b ≡ is_some o → (if b then o else None) ≡ o
kept_is None b e = ap (λ (c : Bool). if c then None else None) e
kept_is (Some x) b e = ap (λ (c : Bool). if c then Some x else None) e

-- the room for what must be kept
room_of : (o : Option Change) (size gate : ℕ) (x : Change) → IfSome o (λ y. (fits y ≡ true) × (room_for y ≤ room_behind size gate)) → o ≡ Some x → room_for x ≤ room_behind size gate
room_of None size gate x room e = absurd cc
room_of (Some y) size gate x room e = subst (λ (z : Change). room_for z ≤ room_behind size gate) (some_is y x e) room.1

pub has_stepped : (old : EmbeddedServer) (new : DurableServer) (b : Bool) (left : List ℕ) (outputs : List Output) (now : Stamp) (frame : List ℕ) (m : Message) → MayStep old now frame m → old.unkept ≡ false →
    (is_some (asked_of m.body) ≡ true → 526 ≤ room_behind old.size old.gate) → Server new.node ≡ (handle (Server old.server.node) now m).node → left ≡ (handle (Server old.server.node) now m).out → outputs ≡ server_outputs old.server.node now m →
    Tells old.server.node.state.stable new.node.state.stable new.changed → IsAskedBy m.body new.changed → b ≡ is_some new.changed →
    Steps old (record { server = new; gate = old.gate; size = old.size; unkept = b; left = left; outputs = outputs; last = now }) now frame
has_stepped old new b left outputs now frame m may kept room node out told_so told asked e =
    let is : (if b then new.changed else None) ≡ new.changed = kept_is new.changed b e in
    record {
      message = m;
      received_so = may.received_so;
      kept = kept;
      runs = may.runs;
      taken = may.taken;
      in_time = may.in_time;
      node = node;
      left = out;
      outputs = told_so;
      told = subst (λ (o : Option Change). Tells old.server.node.state.stable new.node.state.stable o) (sym is) told;
      gate = refl;
      size = refl;
      room = λ x q. room_of new.changed old.size old.gate x (has_placed old.server.node.state.stable new.node.state.stable m.body new.changed old.size old.gate room told asked) (sym is ∙ q);
      last = refl;
    }
