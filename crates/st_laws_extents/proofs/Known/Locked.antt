-- In every run clients know of extents only in files that they have locked.
use Rattle.st_lemmas.proofs.Words
use Words.{◌≡◌, ℕ, Bool, List, Option, Some, None, Ok, sym, ◌∙◌, subst, Config, Tag, ClientId, ServerId, Stamp, Ask, Event, Body, Header, Output}
use Words.commands
use Words.outputs
use Words.Client as cl
use Words.ClientPages.{Store, empty_store}
use Words.ClientPasses as cp
use Words.ClientReplies as cr
use Words.ClientState.{Association, ClientSession, Turn, only_at}
use Words.Events.{WorldTurn, world_step}
use Words.World.{World, WorldClient, fresh_world, site_of}
use Words.Lists.{Has}
use Rattle.st_laws_steps.specs.Client.Losses.{Fit}
use Rattle.st_laws_pages.proofs.Lives.Associated as associated
use Rattle.st_laws_reads.specs.AllClients.CutFiles.{AllCleared, Cleared}
use Rattle.st_laws_reads.proofs.AllClients.Clearing as clearing
use Rattle.st_laws_extents.specs.Known.Known.{Knows, OutputAs, OutputsAs}
use Rattle.st_laws_extents.specs.Known.WritePlaces.{AllLocked, anything}
use Rattle.st_laws_extents.proofs.Known.Receiving as receiving
use Rattle.st_laws_extents.proofs.Known.Knowing as walk

-- what an association cuts is clear, and what it knows is locked
abbrev Fine : Association → Type 0
Fine a = Cleared a × Knows anything a

any_said : (os : List Output) → OutputsAs anything os
any_said os o i = any o
  where
    any : (o : Output) → OutputAs anything o
    any (outputs.Submit number at (commands.Write to tag bytes)) = tt
    any (outputs.Submit number at (commands.Read to)) = tt
    any (outputs.Send m) = tt
    any (outputs.Answer op a) = tt
    any (outputs.Note n) = tt

abbrev K : Turn → Turn → Type 0
K t u = Fine t.here → Fine u.here

-- each rule keeps it
keeps : (t u : Turn) → (Cleared t.here → Cleared u.here) → walk.K anything t u → K t u
keeps t u f g h = (f h.0, (g (record { known = h.1; said = any_said t.out })).known)

fine_after_take : (s : ServerId) (op : ℕ) (ask : Ask) (t : Turn) → Fine t.here → Fine (only_at s (cl.take_ask op ask) t).here
fine_after_take s op ask t = keeps t (only_at s (cl.take_ask op ask) t) (clearing.clearing_kept_by_take s op ask t) (walk.kept_by_take anything s op ask t)

fine_after_receive : (now : Stamp) (h : Header) (b : Body) (t : Turn) → Fit t.here → Fine t.here → Fine (cr.receive_at now h b t).here
fine_after_receive now h b t f x = keeps t (cr.receive_at now h b t) (clearing.clearing_kept_by_receive now h b t f) (receiving.kept_by_receive anything h b now t x.0 (λ s q ino rows e g k l n o u v r j. tt)) x

fine_after_finish : (number : ℕ) (r : Option (Option (Tag × List ℕ))) (t : Turn) → Fine t.here → Fine (cl.finish number r t).here
fine_after_finish number r t = keeps t (cl.finish number r t) (clearing.clearing_kept_by_finish number r t) (walk.kept_by_finish anything number r t)

fine_after_lose : (now : Stamp) (t : Turn) → Fine t.here → Fine (cl.lose now t).here
fine_after_lose now t = keeps t (cl.lose now t) (clearing.clearing_kept_by_lose now t) (walk.kept_by_lose anything now t)

fine_after_passes : (now : Stamp) (tick : Bool) (t : Turn) → Fine t.here → Fine (cp.passes now tick t).here
fine_after_passes now tick t = keeps t (cp.passes now tick t) (clearing.clearing_kept_by_passes now tick t) (walk.kept_by_passes anything now tick t)

-- nothing is known, and nothing is asked
empty_fine : (a : Association) → a.session ≡ None → a.store ≡ empty_store → Fine a
empty_fine a e st = (λ ino p c. absurd (none c.session (sym e ∙ c.is)), λ x j. absurd (subst (λ (z : Store). Has x z.extents) st j))
  where
    none : (s : ClientSession) → ◌≡◌ {A = Option ClientSession} None (Some s) → ⊥
    none s q = cc

-- of each client
abbrev AllFit : World → Type 0
AllFit w = (c : ClientId) (site : WorldClient) → site_of w c ≡ Some site → (a : Association) → Has a site.node.state.associations → Fit a

-- Every event.
pub locked_step : (w : World) (e : Event) (sc : WorldTurn) → world_step w e ≡ Ok sc → AllFit w → AllCleared w → AllLocked w → AllLocked sc.world
locked_step w e sc is f c h d site q a i = (associated.event_keeps Fine empty_fine fine_after_take fine_after_receive fine_after_finish fine_after_lose fine_after_passes w e sc is f (λ d site q a i. (c d site q a i, h d site q a i)) d site q a i).1

pub fresh_locked : (k : Config) (clients servers d b form : ℕ) → AllLocked (fresh_world k clients servers d b form)
fresh_locked k clients servers d b form c site e a i = (associated.fresh_all Fine empty_fine fine_after_take fine_after_receive fine_after_finish fine_after_lose fine_after_passes k clients servers d b form c site e a i).1
