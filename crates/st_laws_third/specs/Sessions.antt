-- The sessions of a client of the third form at a server: a lease is dated no earlier than before, or
-- by a fresh welcome.
use Rattle.std.specs.Prelude.{◌≡◌, ◌+◌, ◌≤◌, ◌<◌, ◌⊎◌, true, List, Option, Some, None}
use Rattle.st_base.specs.declared.config.Config.{Config}
use Rattle.st_base.specs.declared.ids.Stamp.{Stamp}
use Rattle.st_messages.specs.declared.message.Body.{Body}
use Rattle.st_messages.specs.declared.message.Body.TheVariants as bodies
use Rattle.st_messages.specs.declared.output.Output.TheVariants as outputs
use Rattle.st_rules.specs.declared.client.Request.{Request}
use Rattle.st_rules.specs.ClientState.{Association, ClientSession}
use Rattle.st_third.specs.declared.output.ThirdOutput.{ThirdOutput}
use Rattle.st_third.specs.declared.output.ThirdOutput.TheVariants as says
use Rattle.st_lemmas.specs.Lists.{Has}
use Rattle.st_laws_steps.specs.Client.Losses.{Fit, is_ended}
use Rattle.st_laws_steps.specs.Lives.Lives.{Pairwise}
use Rattle.st_third.specs.declared.event.ThirdInput.{ThirdInput}
use Rattle.st_third.specs.declared.limits.Limits.{Limits}
use Rattle.st_third.specs.Client.{client_step}
use Rattle.st_third.specs.State.{ThirdClient}
use Rattle.st_laws_third.specs.Pairs.{IsPaired}

-- If there is a session afterwards, its lease is dated no earlier than that of the session from before,
-- or now is below the date of its lease plus `renew`.
abbrev pub Dates : Config → Stamp → Option ClientSession → Option ClientSession → Type 0
Dates k now old None = Unit {0}
Dates k now None (Some u) = now.0 < u.lease.date.0 + k.renew
Dates k now (Some s) (Some u) = (s.lease.date.0 ≤ u.lease.date.0) ⊎ (now.0 < u.lease.date.0 + k.renew)

-- a body that isn't a demand
abbrev pub NoDemand : Body → Type 0
NoDemand (bodies.Demand ino g to) = ⊥
NoDemand b = Unit {0}

-- the outstanding request isn't one
abbrev pub RequestFine : Option Request → Type 0
RequestFine None = Unit {0}
RequestFine (Some q) = NoDemand q.body

-- nor is that of a session
abbrev pub SessionFine : Option ClientSession → Type 0
SessionFine None = Unit {0}
SessionFine (Some s) = RequestFine s.requests.asked

-- no demand is sent
abbrev pub WordFine : ThirdOutput → Type 0
WordFine (says.Plain (outputs.Send m)) = NoDemand m.body
WordFine o = Unit {0}

-- in none of these
abbrev pub AllFine : List ThirdOutput → Type 0
AllFine os = (o : ThirdOutput) → Has o os → WordFine o

-- What becomes of an association in a step: its server is the same, its life is no earlier, its dirty
-- pages are still known as mapped, and nothing is known of the page that it asks for.
pub record StepsOn (k : Config) (now : Stamp) (a b : Association) : Type 0 where
  pub server : a.server ≡ b.server
  pub life : a.life.0 ≤ b.life.0
  pub dates : Dates k now a.session b.session
  pub fit : Fit a → Fit b
  pub asks : SessionFine a.session → SessionFine b.session

-- A lease that is over ends the life.
abbrev pub EndsLife : Config → Stamp → Association → Association → Type 0
EndsLife k now a b = is_ended k now a.session ≡ true → a.life.0 + 1 ≤ b.life.0

-- What becomes of a client in a step: its number and its settings are the same, and so it is with each
-- association.
pub record ClientStepsOn (now : Stamp) (c d : ThirdClient) : Type 0 where
  pub id : d.plain.id ≡ c.plain.id
  pub config : d.plain.config ≡ c.plain.config
  pub associations : Pairwise (StepsOn c.plain.config now) c.plain.associations d.plain.associations
  pub over : Pairwise (EndsLife c.plain.config now) c.plain.associations d.plain.associations

-- So it is in each step of a client.
abbrev pub ClientsStepOn : Type 0
ClientsStepOn =
    (m : Limits) (c : ThirdClient) (now : Stamp) (input : ThirdInput) → IsPaired c → ((a : Association) → Has a c.plain.associations → Fit a) →
    ClientStepsOn now c (client_step m c now input).client
