-- What a client of the third form has beside its associations: one for each of them.
use Rattle.std.specs.Prelude.{◌≡◌, length}
use Rattle.st_base.specs.declared.ids.Stamp.{Stamp}
use Rattle.st_rules.specs.ClientState.{ClientState}
use Rattle.st_third.specs.declared.event.ThirdInput.{ThirdInput}
use Rattle.st_third.specs.declared.limits.Limits.{Limits}
use Rattle.st_third.specs.Client.{client_step, crash, start}
use Rattle.st_third.specs.State.{ThirdClient}

-- each association has one beside it
abbrev pub IsPaired : ThirdClient → Type 0
IsPaired c = length c.beside.besides ≡ length c.plain.associations

-- so it is afterwards, with as many associations as before
pub record StaysPaired (before : ClientState) (after : ThirdClient) : Type 0 where
  pub paired : IsPaired after
  pub whole : length after.plain.associations ≡ length before.associations

-- A step keeps each association, and what is beside it; a crash and a start begin so.
pub record ClientsStayPaired : Type 0 where
  pub steps : (m : Limits) (c : ThirdClient) (now : Stamp) (input : ThirdInput) → IsPaired c → StaysPaired c.plain (client_step m c now input).client
  pub crashes : (m : Limits) (c : ClientState) → StaysPaired c (crash m c)
  pub starts : (m : Limits) (c : ClientState) → StaysPaired c (start m c)
