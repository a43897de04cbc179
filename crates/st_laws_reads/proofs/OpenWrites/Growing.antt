-- What the outputs of a client leave of commands and servers, one after another.
use Rattle.st_lemmas.proofs.Words
use Words.{◌≡◌, ℕ, suc, List, [], ◌∷◌, Option, Some, None, refl, ap, ◌∙◌, length, BlockAt, Command, ClientId, Note, Output, DiskCommand}
use Words.{IssuedCommand}
use Words.notes
use Words.outputs
use Words.ClientState.{ClientState}
use Words.Disks as disks
use Words.Events as ev
use Words.Events.{WorldTurn, client_says, client_says_all}
use Words.World.{World, WorldClient, numbered, site_of}
use Words.Numbers.{get_last, numbered_old}
use Words.Versions.{command_old}

-- Commands stay, and servers are the same.
pub record Grows (w u : World) : Type 0 where
  pub issued : (k : ℕ) (x : IssuedCommand) → numbered w.commands k ≡ Some x → numbered u.commands k ≡ Some x
  pub command : (k : ℕ) (d : DiskCommand) → disks.command_at w.disks.commands k ≡ Some d → disks.command_at u.disks.commands k ≡ Some d
  pub servers : u.servers ≡ w.servers
  pub clients : u.clients ≡ w.clients

same_grows : (w u : World) → u.commands ≡ w.commands → u.disks ≡ w.disks → u.servers ≡ w.servers → u.clients ≡ w.clients → Grows w u
same_grows w u c d s e = record { issued = λ k x i. ap (λ cs. numbered cs k) c ∙ i; command = λ k x i. ap (λ (z : disks.Disks). disks.command_at z.commands k) d ∙ i; servers = s; clients = e }

grows_one : (c : ClientId) (before : ClientState) (o : Output) (sc : WorldTurn) → Grows sc.world (client_says sc c before o).world
unfolding client_says ev.client_notes ev.sends ev.submits ev.answers_with ev.accepts ev.patches ev.loses
grows_one c before (outputs.Send m) sc = same_grows sc.world _ refl refl refl refl
grows_one c before (outputs.Submit number at what) sc = go (site_of sc.world c)
  where
    go : (o : Option WorldClient) → Grows sc.world (ev.submits sc c o number at what).world
    go None = same_grows sc.world _ refl refl refl refl
    go (Some s) = record { issued = λ k x i. numbered_old sc.world.commands _ k x i; command = λ k d i. command_old sc.world.disks.commands _ k d i; servers = refl; clients = refl }
grows_one c before (outputs.Answer o a) sc = same_grows sc.world _ refl refl refl refl
grows_one c before (outputs.Note n) sc = note n
  where
    note : (n : Note) → Grows sc.world (ev.client_notes sc c before n).world
    note (notes.Accepted f p bytes) = same_grows sc.world _ refl refl refl refl
    note (notes.Patched f p at bytes) = same_grows sc.world _ refl refl refl refl
    note (notes.Lost s life) = same_grows sc.world _ refl refl refl refl
    note n = same_grows sc.world sc.world refl refl refl refl

pub grows_all : (c : ClientId) (before : ClientState) (os : List Output) (sc : WorldTurn) → Grows sc.world (client_says_all c before os sc).world
unfolding client_says_all
grows_all c before [] sc = same_grows sc.world sc.world refl refl refl refl
grows_all c before (o ∷ os) sc =
    let a = grows_one c before o sc in
    let b = grows_all c before os (client_says sc c before o) in
    record { issued = λ k x i. b.issued k x (a.issued k x i); command = λ k d i. b.command k d (a.command k d i); servers = b.servers ∙ a.servers; clients = b.clients ∙ a.clients }

-- A command that is submitted is the last one.
pub record Submitted (c : ClientId) (site : WorldClient) (number : ℕ) (at : BlockAt) (what : Command) (w u : World) : Type 0 where
  pub issued : numbered u.commands (suc (length w.commands)) ≡ Some (ev.issued w c site number at what)
  pub command : disks.command_at u.disks.commands (suc (length w.disks.commands)) ≡ Some (disks.new_command what)

pub submitted : (c : ClientId) (before : ClientState) (site : WorldClient) (number : ℕ) (at : BlockAt) (what : Command) (rest : List Output) (sc : WorldTurn) → site_of sc.world c ≡ Some site →
    Submitted c site number at what sc.world (client_says_all c before (outputs.Submit number at what ∷ rest) sc).world
unfolding client_says_all client_says ev.submits
submitted c before site number at what rest sc e =
    let g = grows_all c before rest (client_says sc c before (outputs.Submit number at what)) in
    record { issued = g.issued (suc (length sc.world.commands)) (ev.issued sc.world c site number at what) (first (site_of sc.world c) e).0; command = g.command (suc (length sc.world.disks.commands)) (disks.new_command what) (first (site_of sc.world c) e).1 }
  where
    first : (o : Option WorldClient) → o ≡ Some site →
        (numbered (ev.submits sc c o number at what).world.commands (suc (length sc.world.commands)) ≡ Some (ev.issued sc.world c site number at what)) ×
        (disks.command_at (ev.submits sc c o number at what).world.disks.commands (suc (length sc.world.disks.commands)) ≡ Some (disks.new_command what))
    first None q = cc q
    first (Some s) q = (
      get_last sc.world.commands (ev.issued sc.world c s number at what) ∙ ap (λ (z : WorldClient). Some (ev.issued sc.world c z number at what)) (Rattle.st_lemmas.proofs.Lookups.some_is q),
      get_last sc.world.disks.commands (disks.new_command what),
    )
